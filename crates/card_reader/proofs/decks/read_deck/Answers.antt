use Rattle.std.proofs.Common.{◌≡◌, ◌+◌, Ok, rules}
use Rattle.card_reader.specs.Decks.{read_as, refused_card, job_seen_in, seen_after, nothing_seen}
use Rattle.card_reader.specs.Statements.{items_of, cards_to_end}
use Rattle.card_reader.proofs.Fields.{fields_fit, least-ok}
use Rattle.card_reader.proofs.Refusals.{cards_fit}
use Rattle.card_reader.proofs.decks.read_deck.Goals as goal

pub returns-in_ok-front_of-in-Ok-clause-fits : goal.returns-in_ok-front_of-in-Ok-clause-fits
returns-in_ok-front_of-in-Ok-clause-fits c named =
    let said : read_as c.args.own c.args.cards.now ≡ Ok c.in-Ok.fields = search rules in
    fields_fit c.args.own c.args.cards.now c.in-Ok.fields named said

pub returns-in_ok-front_of-in-Ok-clause-lines : goal.returns-in_ok-front_of-in-Ok-clause-lines
returns-in_ok-front_of-in-Ok-clause-lines c =
    let said : read_as c.args.own c.args.cards.now ≡ Ok c.in-Ok.fields = search rules in
    let none = (least-ok (refused_card 1 (cards_to_end 0 c.args.cards.now + 1) c.args.cards.now) (job_seen_in (seen_after c.args.own nothing_seen (items_of c.args.cards.now))) c.in-Ok.fields said).0 in
    rw c.in_ok-front_of-in-Ok.ensures (cards_fit c.in_ok-end.end (cards_to_end 0 c.args.cards.now + 1) c.args.cards.now none)
