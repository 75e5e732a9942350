-- Reading a job's text from the spool volumes.
use Rattle.member_work.specs.Names.{GroupNo, Text, View, spools_at, AreQuiet, Read}
use Rattle.std.specs.Prelude.{◌≡◌, ℕ, List, length}
use Rattle.job_outcome.specs.declared.outcomes.Read.TheVariants as read
use Rattle.member_work.specs.Looks.{as_it_is}
use Rattle.member_work.specs.Rounds.{HasFailed}

-- no byte of a volume differs after acts that only read, and what was synced still is
abbrev pub OnlyReads : Type 0 → View → View → Type 0
OnlyReads told old new = told → AreQuiet (spools_at old old.now) (spools_at new new.now)

-- what was read is as the queue has the text, or a volume of its groups failed
abbrev pub IsReadOf : ℕ → Text → List GroupNo → Read → View → View → Type 0
IsReadOf per text groups (read.Lines lines) old new = read.Lines lines ≡ as_it_is text
IsReadOf per text groups (read.Gone group) old new = read.Gone group ≡ as_it_is text
IsReadOf per text groups (read.Lost volume) old new = HasFailed per groups volume old new

-- a volume of its groups failed
abbrev pub IsFailedRead : ℕ → List GroupNo → Read → View → View → Type 0
IsFailedRead per groups (read.Lines lines) old new = Unit {0}
IsFailedRead per groups (read.Gone group) old new = Unit {0}
IsFailedRead per groups (read.Lost volume) old new = HasFailed per groups volume old new

-- lines that were read are as many as are counted
abbrev pub IsCounted : ℕ → Read → Type 0
IsCounted count (read.Lines lines) = length lines ≡ count
IsCounted count (read.Gone group) = Unit {0}
IsCounted count (read.Lost volume) = Unit {0}
