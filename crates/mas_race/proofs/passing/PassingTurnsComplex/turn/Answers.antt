use Rattle.std.proofs.Common.{◌≡◌, Bool, Some, refl, subst, sym}
use Rattle.gate_turns.specs.Shared.{facts_of}
use Rattle.mas_complex.specs.declared.complex.Complex.{Complex}
use Rattle.mas_complex.specs.Parts.{shown_of}
use Rattle.member_gate.specs.Passes.{view}
use Rattle.member_gate.specs.Views.{Finds}
use Rattle.mas_race.specs.Passings.{RestsAs, found_by}
use Rattle.mas_race.proofs.Steps.{if_held, knows_found, memory_taking}
use Rattle.mas_race.proofs.passing.PassingTurnsComplex.turn.Goals as goal

pub returns-clause-known : goal.returns-clause-known
returns-clause-known g c =
    let v = view c.args.self.now.turn.now.pass in
    let x = c.into_complex.result in
    let found = subst (λ (z : Complex g.row.P.Denot g.row.C.Denot g.P.Plant g.C.Steady g.C.Copying). Finds g.P.Plant.tells v (λ (told : Bool). facts_of told (shown_of z))) (sym c.into_complex.ensures) c.turn-shared.ensures.value in
    rw (c.turn-shared.ensures.view.1, c.refill.ensures) (knows_found g.P.Plant.tells v (λ (told : Bool). facts_of told (shown_of x)) found)

pub returns-clause-memory : goal.returns-clause-memory
returns-clause-memory g c told =
    let shown = shown_of c.turn-shared.result.complex in
    let taken = c.turn-shared.ensures.view in
    rw taken.1 (memory_taking told (view c.args.self.now.turn.now.pass) taken.0 (λ (told : Bool). facts_of told shown))

pub returns-clause-found : goal.returns-clause-found
returns-clause-found g c =
    let v = view c.args.self.now.turn.now.pass in
    let x = c.into_complex.result in
    let found = subst (λ (z : Complex g.row.P.Denot g.row.C.Denot g.P.Plant g.C.Steady g.C.Copying). Finds g.P.Plant.tells v (λ (told : Bool). facts_of told (shown_of z))) (sym c.into_complex.ensures) c.turn-shared.ensures.value in
    if_held (view c.turn-shared.new.pass).has c.refill.new.place x (found_by {P = g.row.P.Denot} {C = g.row.C.Denot} {plants = g.P.Plant} {steadies = g.C.Steady} {copies = g.C.Copying} g.J.Beginning.began v) (sym c.refill.ensures)
    (record {
      rest = subst (λ (z : Complex g.row.P.Denot g.row.C.Denot g.P.Plant g.C.Steady g.C.Copying). RestsAs g.J.Beginning.began z) (sym c.into_complex.ensures)
          (record { between = c.turn-shared.result.rest; from = c.turn-shared.result.from });
      finds = found;
    })
