-- What becomes of a line, as the code says it and as plain data.
use Rattle.std.specs.Prelude.{◌≤◌, Result, Ok, Err}
use Rattle.mas_types.specs.declared.ids.MemberId.{MemberId}
use Rattle.lock_cycle.specs.Books.{Book}
use Rattle.script_lang.specs.Asks.{units_most}
use Rattle.script_lang.specs.declared.types.Ask.{Ask}
use Rattle.script_lang.specs.declared.types.Ask.TheVariants as ask
use Rattle.run_turns.specs.Admissions.{Admission, Denied, Frees, Locks, Plays, Refused, Replaces, Resets, TakesOver, Unplayed, tried}
use Rattle.member_lines.specs.declared.admissions.Admission.{Admission as Admitted}
use Rattle.member_lines.specs.declared.admissions.Admission.TheVariants as line

abbrev pub admission_of : Admitted → Admission
admission_of (line.Refused sayer end) = Refused sayer end
admission_of (line.Denied why) = Denied why
admission_of (line.Plays task) = Plays task
admission_of (line.Resets of) = Resets of
admission_of (line.Replaces dev) = Replaces dev
admission_of (line.TakesOver of) = TakesOver of
admission_of line.Locks = Locks
admission_of line.Frees = Frees
admission_of line.Unplayed = Unplayed

-- The book once a line was tested: the lock was tried for, if the line came so far. A takeover is still to come.
abbrev pub tested_as : Book → MemberId → Admission → Book
tested_as b by (TakesOver of) = b
tested_as b by a = tried b by a

-- out of memory no try is made
abbrev pub tested : {E : Type 0} → Book → MemberId → Result Admitted E → Book
tested b by (Ok a) = tested_as b by (admission_of a)
tested b by (Err why) = b

-- no line asks for more units than a script may
abbrev pub AreFewUnits : Ask → Type 0
AreFewUnits (ask.Work n) = n ≤ units_most
AreFewUnits _ = Unit {0}
