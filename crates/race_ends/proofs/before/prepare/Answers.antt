use Rattle.std.proofs.Common.{List, Ok, refl, sym, subst, arith}
use Rattle.std.proofs.lemmas.List.{take_all}
use Rattle.std.proofs.lemmas.List.Elements.{All-get_or}
use Rattle.std.proofs.lemmas.Result.{err_from_is_err_and}
use Rattle.mas_complex.specs.Parts.{parts_of}
use Rattle.script_input.specs.Played.{IsPlayed, MayBeRaced}
use Rattle.script_lang.specs.declared.types.Step.{Step}
use Rattle.race_ends.specs.Prepared.{HasPrepared}
use Rattle.race_ends.proofs.FrameLemmas.{frame_on}
use Rattle.race_ends.proofs.PrepareLemmas.{may_still, prepared_none, then_prepared, then_refused}
use Rattle.race_ends.proofs.before.prepare.Goals as goal

pub loop-line-init : goal.loop-line-init
loop-line-init g c = record { number = refl; frame = refl; prepared = prepared_none g.P.Plant 1 (parts_of c.args.complex.now) }

pub prepare_line-requires-clause-may : goal.prepare_line-requires-clause-may
prepare_line-requires-clause-may g c = may_still c.args.complex.now c.loop-line.complex c.loop-line.invariant.frame c.requires.may

pub prepare_line-requires-clause-played : goal.prepare_line-requires-clause-played
prepare_line-requires-clause-played g c =
    subst IsPlayed (sym c.line-item.is) (All-get_or IsPlayed c.args.lines.now c.loop-line.line-index c.line-item.result c.loop-line-test.true c.requires.played)

pub prepare_line-requires-clause-raced : goal.prepare_line-requires-clause-raced
prepare_line-requires-clause-raced g c =
    subst MayBeRaced (sym c.line-item.is) (All-get_or MayBeRaced c.args.lines.now c.loop-line.line-index c.line-item.result c.loop-line-test.true c.requires.raced)

pub prepare_line-requires-clause-few : goal.prepare_line-requires-clause-few
prepare_line-requires-clause-few g c = (omega arith, omega (arith, c.loop-line.invariant.number, c.loop-line-test.true, c.requires.few))

pub loop-line-preserved : goal.loop-line-preserved
loop-line-preserved g c =
    let i = c.loop-line.invariant in
    let x = c.args.complex.now in
    let m = c.loop-line.complex in
    let y = c.prepare_line.new.complex in
    record {
      number = omega (arith, i.number);
      frame = frame_on x m i.frame y c.prepare_line.ensures.frame;
      prepared = then_prepared c.args.lines.now c.loop-line.line-index c.loop-line.number c.line-item.result i.number c.loop-line-test.true c.line-item.is x m y i.frame i.prepared c.in_ok-prepare_line.ensures.prepares;
    }

pub returns-in_err-prepare_line-clause-frame : goal.returns-in_err-prepare_line-clause-frame
returns-in_err-prepare_line-clause-frame g c =
    frame_on c.args.complex.now c.loop-line.complex c.loop-line.invariant.frame c.prepare_line.new.complex c.prepare_line.ensures.frame

pub returns-in_err-prepare_line-clause-prepares : goal.returns-in_err-prepare_line-clause-prepares
returns-in_err-prepare_line-clause-prepares g c =
    let i = c.loop-line.invariant in
    let x = c.args.complex.now in
    let m = c.loop-line.complex in
    let y = c.prepare_line.new.complex in
    let q = err_from_is_err_and c.from_residual.result c.from_residual.ensures.1 in
    rw (q.1, q.2) (then_refused c.args.lines.now c.loop-line.line-index c.loop-line.number c.line-item.result i.number c.loop-line-test.true c.line-item.is x m y i.frame i.prepared c.in_err-prepare_line.field-0.0 c.in_err-prepare_line.ensures.prepares)

pub returns-clause-prepares : goal.returns-clause-prepares
returns-clause-prepares g c =
    let i = c.loop-line.invariant in
    let lines = c.args.lines.now in
    subst (λ (ss : List Step). HasPrepared g.P.Plant 1 ss (parts_of c.args.complex.now) (parts_of c.loop-line.complex) (Ok tt)) (take_all c.loop-line.line-index lines c.loop-line-test.false) i.prepared
