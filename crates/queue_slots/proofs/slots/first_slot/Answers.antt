use Rattle.std.proofs.Common.{◌≡◌}
use Rattle.std.specs.Prelude.{find, None}
use Rattle.queue_slots.specs.Listed.{listed, StandsFirst}
use Rattle.queue_slots.proofs.BestSlots.{walked_some, walked_none, nothing_listed, first_of_all, find-All_false}
use Rattle.queue_slots.proofs.slots.first_slot.Goals as goal

pub returns-clause-some : goal.returns-clause-some
returns-clause-some g c =
    let number = g.T.Ordered.order in
    let picks = g.P.Test.picks c.args.test.now in
    rw c.found_at.ensures (walked_some number (λ x. 0) (λ x. 0) picks c.args.slots.now c.walk-best.result c.walk-best.ensures (λ f. StandsFirst number picks c.args.slots.now f.at f.item) (first_of_all number picks c.args.slots.now))

pub returns-clause-none : goal.returns-clause-none
returns-clause-none g c =
    let number = g.T.Ordered.order in
    let picks = g.P.Test.picks c.args.test.now in
    rw c.found_at.ensures (walked_none number (λ x. 0) (λ x. 0) picks c.args.slots.now c.walk-best.result c.walk-best.ensures (find picks (listed number c.args.slots.now) ≡ None)
    (λ none. find-All_false picks (listed number c.args.slots.now) (nothing_listed number (λ x. 0) (λ x. 0) picks c.args.slots.now none)))
