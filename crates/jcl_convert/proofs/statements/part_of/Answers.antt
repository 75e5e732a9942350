use Rattle.std.proofs.Common.{◌∙◌, sym, ap, ◌++◌, ◌∷◌, [], List, ℕ, length, arith}
use Rattle.std.proofs.lemmas.List.{length-drop}
use Rattle.mas_types.specs.LinesLeft.{left_in}
use Rattle.mas_types.proofs.LineLemmas.{next_line}
use Rattle.jcl_convert.proofs.Data.{part_more}
use Rattle.jcl_convert.proofs.statements.part_of.Goals as goal
use Rattle.jcl_convert.proofs.statements.part_of.Goals.{in-Some+in_ok-push, in_default}

pub loop-at-preserved : goal.loop-at-preserved
loop-at-preserved c =
    let text = c.args.text.now in
    elim c.match-next.branch [
      | in-Some+in_ok-push w ↦
          (let line = w.in-Some.line.now in
          let here = next_line text c.loop-at._at line (left_in c.next.new.self) (sym c.loop-at.invariant.1 ∙ w.in-Some.ensures.steps) in
          rw w.part-is (w.in_ok-push.ensures.ok ∙ ap (λ (l : List (List ℕ)). l ++ line ∷ []) c.loop-at.invariant.0 ∙ sym (part_more c.args.from c.loop-at._at text line (omega arith) here.0), here.1))
      | in_default w ↦
          (let none = ap length (sym c.loop-at.invariant.1 ∙ w.in_default.ensures.steps.0) in
          absurd (omega (arith, none, length-drop c.loop-at._at text)))
    ]
