use Rattle.std.proofs.Common.{◌≡◌, ◌∙◌, sym, ◌-◌, false, get_or, arith}
use Rattle.std.proofs.lemmas.Bool.{ne_eqb}
use Rattle.mas_types.specs.Names.{is_blank}
use Rattle.script_lang.proofs.Blanks.{trim_more, trim_done}
use Rattle.script_lang.proofs.lines.trimmed.Goals as goal
use Rattle.script_lang.proofs.lines.trimmed.Goals.{then-loop-end-test+else-line-end-eq32, else-loop-end-test}

pub loop-end-preserved : goal.loop-end-preserved
loop-end-preserved c = record {
  within = omega arith;
  rest = sym (trim_more c.args.line.now c.loop-end.end c.loop-end-test.true c.loop-end.invariant.within c.if-line-end-eq32.true) ∙ c.loop-end.invariant.rest;
}

pub returns : goal.returns
returns c =
    elim c.loop-end-test.branch [
      | then-loop-end-test+else-line-end-eq32 w ↦
          let other : is_blank (get_or c.args.line.now (c.loop-end.end - 1) 0) ≡ false = ne_eqb _ _ w.if-line-end-eq32.false in
          sym (trim_done c.args.line.now c.loop-end.end w.loop-end-test.true c.loop-end.invariant.within other) ∙ c.loop-end.invariant.rest
      | else-loop-end-test w ↦
          let none : c.loop-end.end ≡ 0 = omega arith in
          rw none (rw none at c.loop-end.invariant.rest)
    ]
