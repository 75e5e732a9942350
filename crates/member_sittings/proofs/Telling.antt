-- The lines of a step tell no step of which something was dropped.
use Rattle.member_sittings.proofs.Names.{ℕ, ◌<◌, ◌^◌, List, Option, Some, None, Reply, MemberId, Batch, TellKept, AreKeptFrom, closing_tells, reply_tells, lines_by, [], All-nil}
use Rattle.mas_types.specs.declared.answers.Closing.TheVariants as closing
use Rattle.mas_complex.specs.Journals.{StepIsKept}
use Rattle.mas_complex.specs.Meaning.{Closes}

pub deck_tells : (by : MemberId) (at : ℕ) → at < 2 ^ 64 → (batches : List Batch) (now : ℕ) → AreKeptFrom by at batches now → (lost : Option ℕ) (r : Reply) → TellKept (lines_by by at lost r) batches now
deck_tells by at small batches now kept None r = reply_tells by at small batches now kept r
deck_tells by at small batches now kept (Some volume) r = closing_tells by at small batches now kept (closing.SpoolLost volume)

-- nor do none
pub tells_none : (batches : List Batch) (now : ℕ) → TellKept [] batches now
tells_none batches now = All-nil (λ (line : List ℕ). (m : MemberId) (s : ℕ) → Closes line m s → StepIsKept batches now m s)
