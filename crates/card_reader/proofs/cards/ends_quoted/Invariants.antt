use Rattle.std.proofs.Common.{◌≡◌, false, drop}
use Rattle.card_reader.specs.Cards.{ends_quoted}
use Rattle.card_reader.proofs.cards.ends_quoted.Given as goal

-- the bytes that are left decide whether the text ends inside quotes
abbrev pub invariant-loop-b : goal.invariant-loop-b
invariant-loop-b l = ends_quoted l.quoted (drop l.b-index l.text) ≡ ends_quoted false l.text
