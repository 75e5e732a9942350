use Rattle.std.proofs.Common.{◌+◌, drop, None, Some}
use Rattle.card_reader.specs.Decks.{item_of}
use Rattle.card_reader.proofs.Seen.{seen_at-at, ok_at}
use Rattle.card_reader.proofs.decks.see.Goals as goal

pub returns-in-None-clause-card : goal.returns-in-None-clause-card
returns-in-None-clause-card c =
    ok_at (c.args.at + 1) c.see_before_job.result _ (seen_at-at c.args.own c.args.seen None (item_of (c.args.at + 1) c.args.card.now (drop (c.args.at + 1) c.args.cards.now))) c.see_before_job.ensures

pub returns-in-Some-clause-card : goal.returns-in-Some-clause-card
returns-in-Some-clause-card c =
    rw c.see_in_job.ensures (seen_at-at c.args.own c.args.seen (Some c.in-Some.job) (item_of (c.args.at + 1) c.args.card.now (drop (c.args.at + 1) c.args.cards.now)))
