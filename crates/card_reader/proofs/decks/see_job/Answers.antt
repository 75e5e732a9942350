use Rattle.std.proofs.Common.{◌≡◌, ◌+◌, ◌∷◌, true, Some, drop, refl, rules}
use Rattle.card_reader.specs.Cards.{is_statement_name, name_of}
use Rattle.card_reader.specs.Jes.{name8_of}
use Rattle.card_reader.specs.Jobs.{job_operands_of}
use Rattle.card_reader.specs.Statements.{operands_from}
use Rattle.card_reader.proofs.Seen.{job_statement-good}
use Rattle.card_reader.proofs.decks.see_job.Goals as goal

pub returns : goal.returns
returns c =
    let good : is_statement_name (name_of c.args.card.now) ≡ true = search rules in
    let named : Some c.in-Some.name ≡ name8_of (name_of c.args.card.now) = search rules in
    let read : Some c.in-Some-2.operands ≡ job_operands_of (operands_from (c.args.card.now ∷ drop (c.args.at + 1) c.args.cards.now)) = search rules in
    let whole = job_statement-good c.args.own c.args.seen (c.args.at + 1) c.args.card.now (drop (c.args.at + 1) c.args.cards.now) c.in-Some.name c.in-Some-2.operands good named read in
    rw (whole, c.job_of.ensures) refl
