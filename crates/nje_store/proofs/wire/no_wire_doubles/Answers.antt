use Rattle.std.proofs.Common.{◌≡◌, length, take, arith, ap, sym, subst, ◌∙◌}
use Rattle.std.proofs.lemmas.List.{length-take-le, take_all}
use Rattle.nje_store.specs.declared.wire.WireWorld.{WireWorld}
use Rattle.nje_store.specs.Wire.{quiet, happens, run, HasCustody}
use Rattle.nje_store.proofs.WireLemmas.{bounded_at, run_more, keeps_custody}
use Rattle.nje_store.proofs.wire.no_wire_doubles.Goals as goal

pub happen-requires-clause-sent : goal.happen-requires-clause-sent
happen-requires-clause-sent c =
    let few = bounded_at (take c.loop-at.at c.args.events.now) in
    let size : length (take c.loop-at.at c.args.events.now) ≡ c.loop-at.at = length-take-le c.loop-at.at c.args.events.now (omega arith) in
    let sent : c.loop-at.world.sent ≡ (run quiet (take c.loop-at.at c.args.events.now)).sent = ap (λ (w : WireWorld). w.sent) c.loop-at.invariant in
    omega (arith, few.sent, size, sent, c.requires)

pub happen-requires-clause-kept : goal.happen-requires-clause-kept
happen-requires-clause-kept c =
    let few = bounded_at (take c.loop-at.at c.args.events.now) in
    let size : length (take c.loop-at.at c.args.events.now) ≡ c.loop-at.at = length-take-le c.loop-at.at c.args.events.now (omega arith) in
    let kept : length c.loop-at.world.kept ≡ length (run quiet (take c.loop-at.at c.args.events.now)).kept = ap (λ (w : WireWorld). length w.kept) c.loop-at.invariant in
    omega (arith, few.kept, size, kept, c.requires)

pub loop-at-preserved : goal.loop-at-preserved
loop-at-preserved c =
    c.in_ok-happen.ensures ∙ ap (λ (w : WireWorld). happens w c.item.result.now) c.loop-at.invariant ∙ sym (run_more c.args.events.now c.loop-at.at c.item.result.now c.item.ensures)

pub returns-clause-run : goal.returns-clause-run
returns-clause-run c = c.loop-at.invariant ∙ ap (run quiet) (take_all c.loop-at.at c.args.events.now (omega arith))

pub returns-clause-custody : goal.returns-clause-custody
returns-clause-custody c =
    subst HasCustody (sym (c.loop-at.invariant ∙ ap (run quiet) (take_all c.loop-at.at c.args.events.now (omega arith)))) (keeps_custody c.args.events.now)
