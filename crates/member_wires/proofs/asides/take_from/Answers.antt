use Rattle.std.proofs.Common.{ap}
use Rattle.std.proofs.lemmas.Result.{err_from_is_err_and}
use Rattle.step_turns.specs.declared.states.Found.{Found}
use Rattle.member_wires.proofs.Reading.{found_err, found_ok}
use Rattle.member_wires.proofs.asides.take_from.Goals as goal

pub hear-requires-clause-nothing : goal.hear-requires-clause-nothing
hear-requires-clause-nothing g c = ap (λ (f : Found). f.frames) c.found_on-found.ensures

pub returns-in_err-found-clause-hears : goal.returns-in_err-found-clause-hears
returns-in_err-found-clause-hears g c =
    let P = g.P.Plant in
    let p = err_from_is_err_and c.from_residual.result c.from_residual.ensures.1 in
    rw (p.1, p.2) (found_err P.tells c.args.end (P.view c.args.complex.now.plant) (P.view c.hear.new.complex.plant) c.args.reader.now c.hear.new.reader c.args.read c.hear.new.frames _ c.in_err-found.ensures.hears)

pub returns-clause-hears : goal.returns-clause-hears
returns-clause-hears g c =
    let P = g.P.Plant in
    found_ok P.tells c.args.end (P.view c.args.complex.now.plant) (P.view c.hear.new.complex.plant) c.args.reader.now c.hear.new.reader c.args.read c.found_on-found.result c.found_on-found.ensures _ c.hear.new.frames c.in_ok-found.ensures.hears
