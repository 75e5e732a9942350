-- What is planned of acts, and what becomes of them.
use Rattle.std.specs.Prelude.{ℕ, ◌-◌, ◌/◌, min, nat_lt, nat_le, ◌==◌, ◌&&◌, not, if◌then◌else◌, Bool, true, false, List, [], ◌∷◌, ◌++◌, length, take, Option, Some, None, option_map, find}
use Rattle.spool_disk.specs.declared.plan.Plan.{Plan}
use Rattle.spool_disk.specs.declared.plan.Planned.{Planned}
use Rattle.spool_disk.specs.declared.plan.Planned.TheVariants.{Fails, Halts}
use Rattle.spool_disk.specs.declared.plan.Course.{Course}
use Rattle.spool_disk.specs.declared.plan.Course.TheVariants.{Go, Fail, Halt}
use Rattle.spool_plant.specs.declared.plant.Act.{Act}
use Rattle.spool_plant.specs.declared.plant.Act.TheVariants.{Done, Failed, Halted}
use Rattle.spool_plant.specs.declared.plant.Fuse.{Fuse}
use Rattle.spool_plant.specs.declared.plant.Part.{Part}
use Rattle.spool_plant.specs.declared.plant.Part.TheVariants.{Disk as DiskPart, Console, Printer, Wire}
use Rattle.spool_disk.specs.Deeds.{Deed, Idle, Said}
use Rattle.spool_disk.specs.Fuses.{Armed, none_armed, halts_next, burnt, with_fuse}
use Rattle.spool_plant.specs.View.{View, Line}

-- What a plant in memory has room for: so many acts and so many bytes in all, and so many bytes more. And what is
-- planned and armed.
pub record Book : Type 0 where
  pub acts : ℕ
  pub bytes : ℕ
  pub left : ℕ
  pub plans : List Plan
  pub armed : Armed

-- the first plan of a moment
abbrev pub plan_at : List Plan → ℕ → Option Planned
plan_at plans now = option_map (λ p. p.planned) (find (λ p. p.moment == now) plans)

-- an act of which nothing is planned fails on a lost part, and else is done
abbrev pub unplanned : Bool → Course
unplanned lost = if lost then Fail else Go

-- an act halts by an armed stop, and leaves the first half of its bytes. The operator never halts
abbrev pub unless_armed : Bool → ℕ → ℕ → Bool → Course
unless_armed halts len by lost = if halts && nat_lt 0 by then Halt (len / 2) else unplanned lost

-- a plan comes before an armed stop. A plan to halt is passed over at the operator
abbrev pub as_planned : Option Planned → Bool → ℕ → ℕ → Bool → Course
as_planned None halts len by lost = unless_armed halts len by lost
as_planned (Some Fails) halts len by lost = Fail
as_planned (Some (Halts keep)) halts len by lost = if nat_lt 0 by then Halt keep else unplanned lost

-- an act on a part is a print
abbrev pub is_print : Part → Bool
is_print (DiskPart dev) = false
is_print Console = false
is_print (Printer m) = true
is_print (Wire n) = false

-- what becomes of an act of a member on a part, with so many bytes to record. Where it doesn't fit it fails
abbrev pub course_of : Book → View → ℕ → Part → ℕ → Course
course_of book v by part len =
    if nat_lt v.now book.acts && nat_le len book.left then as_planned (plan_at book.plans v.now)
    (halts_next book.armed by (is_print part)) len by (v.lost part) else Fail

-- a planned act fails
abbrev pub is_fault : Option Planned → Bool
is_fault None = false
is_fault (Some Fails) = true
is_fault (Some (Halts keep)) = false

-- a renewal is done where it fits and no fault is planned. Nobody makes it, so a plan to halt is passed over
abbrev pub renews_now : Book → View → Bool
renews_now book v = nat_lt v.now book.acts && not (is_fault (plan_at book.plans v.now))

-- a member has made an act on a part
abbrev pub acted : ℕ → Part → Book → Book
acted by part book = record {
  acts = book.acts;
  bytes = book.bytes;
  left = book.left;
  plans = book.plans;
  armed = burnt
      book.armed by (is_print part);
}

abbrev pub answer : Course → Act
answer Go = Done
answer Fail = Failed
answer (Halt keep) = Halted

-- room for some bytes less
abbrev pub spent : ℕ → Book → Book
spent n book = record {
  acts = book.acts;
  bytes = book.bytes;
  left = book.left - n;
  plans = book.plans;
  armed
      = book.armed;
}

-- the room after an act with so many bytes
abbrev pub spent_by : Course → ℕ → Book → Book
spent_by Go len book = spent len book
spent_by Fail len book = book
spent_by (Halt keep) len book = spent (min keep len) book

-- the room after a take that comes to so many bytes. A halted one takes none
abbrev pub spent_taking : Course → ℕ → Book → Book
spent_taking Go n book = spent n book
spent_taking Fail n book = book
spent_taking (Halt keep) n book = book

-- room for so many acts and bytes, of which nothing is used, and nothing planned or armed
abbrev pub empty_book : ℕ → ℕ → Book
empty_book acts bytes = record { acts = acts; bytes = bytes; left = bytes; plans = []; armed = none_armed }

-- one plan more
abbrev pub with_plan : Plan → Book → Book
with_plan plan book = record {
  acts = book.acts;
  bytes = book.bytes;
  left = book.left;
  plans = book.plans
      ++ plan ∷ [];
  armed = book.armed;
}

-- one stop more
abbrev pub with_stop : ℕ → Fuse → ℕ → Book → Book
with_stop member fuse n book = record {
  acts = book.acts;
  bytes = book.bytes;
  left = book.left;
  plans = book.plans;
  armed = with_fuse book.armed member
      fuse n;
}

-- what a halted line leaves on the console or a printer: nothing, a torn line, or the whole line
abbrev pub left_of : ℕ → List ℕ → List Line
left_of keep line =
    if nat_le (length line) keep then record { text = line; whole = true } ∷ []
    else (if keep == 0 then [] else record { text = take keep line; whole = false } ∷ [])

-- the act as which the record has what a halted line leaves
abbrev pub deed_left : ℕ → ℕ → List ℕ → Deed
deed_left place keep line = if nat_le (length line) keep then Said place line true else
    (if keep == 0 then Idle else Said place (take keep line) false)
