use Rattle.std.proofs.Common.{◌≡◌}
use Rattle.std.specs.Prelude.{find, None}
use Rattle.mas_types.specs.Lists.{is_greatest_of}
use Rattle.queue_slots.specs.Listed.{listed, StandsFirst}
use Rattle.queue_slots.proofs.BestSlots.{walked_some, walked_none, nothing_listed, best_of_all, not_greatest, find-All_false}
use Rattle.queue_slots.proofs.slots.best_slot.Goals as goal

pub returns-clause-some : goal.returns-clause-some
returns-clause-some g c =
    let number = g.T.Ordered.order in
    let picks = g.P.Test.picks c.args.test.now in
    let rank = g.P.Rank.rank c.args.test.now in
    rw c.found_at.ensures (walked_some number (λ x. 0) rank picks c.args.slots.now c.walk-best.result c.walk-best.ensures (λ f. StandsFirst number (is_greatest_of rank picks (listed number c.args.slots.now)) c.args.slots.now f.at f.item) (best_of_all number rank picks c.args.slots.now))

pub returns-clause-none : goal.returns-clause-none
returns-clause-none g c =
    let number = g.T.Ordered.order in
    let picks = g.P.Test.picks c.args.test.now in
    let rank = g.P.Rank.rank c.args.test.now in
    let list = listed number c.args.slots.now in
    rw c.found_at.ensures (walked_none number (λ x. 0) rank picks c.args.slots.now c.walk-best.result c.walk-best.ensures (find (is_greatest_of rank picks list) list ≡ None)
    (λ none. not_greatest number rank picks list list (nothing_listed number (λ x. 0) rank picks c.args.slots.now none)))

pub returns-clause-none_picked : goal.returns-clause-none_picked
returns-clause-none_picked g c =
    let number = g.T.Ordered.order in
    let picks = g.P.Test.picks c.args.test.now in
    let rank = g.P.Rank.rank c.args.test.now in
    rw c.found_at.ensures (walked_none number (λ x. 0) rank picks c.args.slots.now c.walk-best.result c.walk-best.ensures (find picks (listed number c.args.slots.now) ≡ None)
    (λ none. find-All_false picks (listed number c.args.slots.now) (nothing_listed number (λ x. 0) rank picks c.args.slots.now none)))
