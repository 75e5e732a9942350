use Rattle.member_sittings.proofs.Names.{ℕ, List, subst, parts_of, TellKept, Away, sym}
use Rattle.member_sittings.proofs.Telling.{tells_none}
use Rattle.member_sittings.specs.Ends.{ending}
use Rattle.member_sittings.specs.Sat.{EndsAs}
use Rattle.member_sittings.proofs.closing.pause_sitting.Goals as goal

pub end_sitting-requires : goal.end_sitting-requires
end_sitting-requires g c =
    let x = parts_of c.args.complex.now in
    let now = (g.P.Plant.view x.plant).now in
    record { may = c.requires; kept = λ told. subst (λ (ls : List (List ℕ)). TellKept ls x.batches now) (sym c.new-lines.ensures) (tells_none x.batches now); quiet = c.new-lines.ensures }

pub returns : goal.returns
returns g c =
    let x = parts_of c.args.complex.now in
    let z = parts_of c.end_sitting.new.complex in
    subst (λ (ls : List (List ℕ)). EndsAs g.P.Plant g.C.Copying (ending c.args.holder (Away c.args.aside) ls) x z c.args.member.now c.end_sitting.new.member c.end_sitting.result) c.new-lines.ensures c.end_sitting.ensures
