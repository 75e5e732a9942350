-- What holds of every schedule, and of every number.
use Rattle.std.specs.Prelude.{◌≡◌, ℕ, List, length}
use Rattle.nje_store.specs.declared.wire.WireEvent.{WireEvent}
use Rattle.nje_store.specs.Custody.{custody_of, refusal_of, number_refusal}
use Rattle.nje_store.specs.Wire.{quiet, run, all_got, numbers_to, HasCustody}

-- a number is judged by the conditions of Got
abbrev pub JudgesAsGot : Type 0
JudgesAsGot = (kept number : ℕ) → refusal_of (custody_of kept number) ≡ number_refusal kept number

-- whatever is lost, comes again or comes late
abbrev pub KeepsCustody : Type 0
KeepsCustody = (events : List WireEvent) → HasCustody (run quiet events)

-- each number is got once: the numbers got are 1, 2, 3 and so on, and as many jobs are kept
abbrev pub GetsEachOnce : Type 0
GetsEachOnce = (events : List WireEvent) → all_got quiet events ≡ numbers_to (length (run quiet events).kept)
