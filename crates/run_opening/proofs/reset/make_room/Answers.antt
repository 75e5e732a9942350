use Rattle.std.proofs.Common.{ap, sym, ◌∙◌, arith}
use Rattle.mas_types.specs.declared.ids.MemberId.{MemberId}
use Rattle.member_decks.proofs.OpenLemmas.{on_ok}
use Rattle.run_opening.proofs.ResetLemmas.{settle_none}
use Rattle.run_opening.proofs.reset.make_room.Goals as goal

pub primary-requires-clause-may : goal.primary-requires-clause-may
primary-requires-clause-may g c = record { holds = c.requires.free ∙ sym c.requires.id; up = λ some. absurd (omega (arith, some, ap (λ (m : MemberId). m.0) c.requires.id)) }

pub returns-then-not-draws_anew-clause-settle : goal.returns-then-not-draws_anew-clause-settle
returns-then-not-draws_anew-clause-settle g c = settle_none g.P.Plant.tells c.args.complex.now.pair.first.alive c.args.complex.now.pair.second.alive (g.P.Plant.view c.args.complex.now.plant) c.requires.some

pub returns-clause-operator : goal.returns-clause-operator
returns-clause-operator g c halts = absurd (omega (arith, c.primary.ensures.operator halts, ap (λ (m : MemberId). m.0) c.requires.id))

pub returns-clause-settle : goal.returns-clause-settle
returns-clause-settle g c = rw (ap (λ (m : MemberId). m.0) c.requires.id) at c.primary.ensures.settle

pub returns-clause-room1 : goal.returns-clause-room1
returns-clause-room1 g c = on_ok c.primary.result (λ room alive anew. room alive) c.primary.ensures.room1

pub returns-clause-room2 : goal.returns-clause-room2
returns-clause-room2 g c = on_ok c.primary.result (λ room alive anew. room alive) c.primary.ensures.room2
