use Rattle.std.proofs.Common.{◌≡◌, ◌∙◌, Some, true, is_some, ap, refl}
use Rattle.std.specs.Coded.{Coded-set, coded_bool, →_prop}
use Rattle.atomic_table.specs.Seated.{table_id_coded}
use Rattle.mas_complex.specs.declared.complex.Complex.{Complex}
use Rattle.member_gate.specs.Passes.{IsPassOf, view}
use Rattle.mas_race.proofs.Steps.{held_here, value_here}
use Rattle.mas_race.proofs.passing.PassingTurnsComplex.value.Goals as goal

pub lent-requires : goal.lent-requires
lent-requires g c =
    let t = c.args.self.now.turn.now in
    value_here (view t.pass).has t.value c.requires

pub returns : goal.returns
returns g c =
    let t = c.args.self.now in
    let with = λ (w : Complex g.row.P.Denot g.row.C.Denot g.P.Plant g.C.Steady g.C.Copying) (o : (view t.turn.now.pass).has ≡ true → is_some (Some w) ≡ true) (s : IsPassOf t.gate.now t.turn.now.pass).
    record t { turn = record t.turn { now = record t.turn.now { value = Some w; out = o } }; own = s } in (
      (refl, λ w. ap (with w _) (Coded-set table_id_coded _ _ _ t.own) ∙ ap (λ o. with w o t.own) (→_prop (Coded-set coded_bool _ _) _ _)),
      record { lends = tt; value = held_here (view t.turn.now.pass).has t.turn.now.value c.lent.result.now c.requires c.lent.ensures.value },
    )
