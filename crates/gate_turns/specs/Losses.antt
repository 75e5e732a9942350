-- What the loss of a device, and a stop that is armed, leave to the others.
use Rattle.std.specs.Prelude.{◌≡◌, ◌≢◌, ◌⊎◌, ℕ, ◌≤◌, Bool, true, false, not, List, map}
use Rattle.mas_types.specs.declared.ids.Dev.{Dev}
use Rattle.mas_types.specs.declared.ids.Dev.TheVariants.{Ckpt1, Ckpt2, Spool}
use Rattle.mas_types.specs.declared.ids.MemberId.{MemberId}
use Rattle.mas_types.specs.Limits.{members_most}
use Rattle.spool_plant.specs.declared.plant.Part.TheVariants.{Disk}
use Rattle.spool_plant.specs.View.{View, disk_now}
use Rattle.spool_plant.specs.Acts.{Arms, Loses, Untouched}
use Rattle.gate_facts.specs.declared.facts.Facts.{Facts}
use Rattle.gate_facts.specs.Values.{Synced, PlaysOperator}
use Rattle.gate_facts.specs.Memory.{MayGiveBack}
use Rattle.mas_complex.specs.Elsewhere.{Elsewhere}
use Rattle.mas_complex.specs.Parts.{Shown}
use Rattle.gate_turns.specs.Seats.{all_seats, has_lock, shows_stopped}
use Rattle.gate_turns.specs.Shared.{pages_had, desk_in, facts_of}
use Rattle.gate_turns.specs.Laws.{with_view, HasBegun}

-- whether a copy counts as alive after a device was lost
abbrev pub first_left : Dev → Bool → Bool
first_left Ckpt1 alive = false
first_left _ alive = alive

abbrev pub second_left : Dev → Bool → Bool
second_left Ckpt2 alive = false
second_left _ alive = alive

-- the value after a device was lost, and the copy on it
abbrev pub with_loss : Dev → Shown → View → Shown
with_loss dev x view = record x {
  view = view;
  first_alive = first_left dev x.first_alive;
  second_alive = second_left dev x.second_alive;
}

-- the device holds a copy that counts as lost
abbrev pub counts_as_lost : Dev → Shown → Bool
counts_as_lost Ckpt1 x = not x.first_alive
counts_as_lost Ckpt2 x = not x.second_alive
counts_as_lost (Spool n) x = false

-- a volume that is lost keeps its bytes, and what was synced; of a device with a copy this isn't asked
abbrev pub KeepsVolume : Dev → View → View → Type 0
KeepsVolume (Spool n) old new = Untouched (disk_now old (Spool n)) (disk_now new (Spool n))
KeepsVolume _ old new = Unit {0}

-- A device is lost by a call, whoever makes it. Where content is told all other devices and the console are as before.
pub record IsLoss (dev : Dev) (told : Bool) (x : Shown) (view : View) : Type 0 where
  pub loses : Loses (Disk dev) x.view view
  pub apart : told ≡ true → Elsewhere dev x.view view
  pub volume : told ≡ true → KeepsVolume dev x.view view
  pub begun : told ≡ true → HasBegun x

-- the good copies read the pages that they read before
abbrev pub PagesStay : Dev → Bool → Shown → View → Type 0
PagesStay dev told x view = pages_had told (with_loss dev x view) ≡ pages_had told x

-- The loss of a device leaves the desk of each member that doesn't hold the lock, and that of the holder where the
-- pages stay: only they are taken from it.
abbrev pub LossesLeaveDesks : Type 0
LossesLeaveDesks = (dev : Dev) (told : Bool) (x : Shown) (view : View) (m : MemberId) → IsLoss dev told x view
    → (has_lock x.book m ≡ false) ⊎ PagesStay dev told x view
    → Synced (desk_in told (with_loss dev x view) m) (desk_in told x m)

-- what a call leaves of a value, whatever becomes of desks and marks
pub record LeavesHistory (was is : Facts) : Type 0 where
  pub base : is.base ≡ was.base
  pub kept : is.kept ≡ was.kept
  pub begun : is.begun ≡ was.begun
  pub stopped : is.stopped ≡ was.stopped
  pub lines : is.lines ≡ was.lines

-- the loss of a device changes nothing of what was kept, begun and said, and stops nobody
abbrev pub LossesLeaveHistory : Type 0
LossesLeaveHistory = (dev : Dev) (told : Bool) (x : Shown) (view : View) → IsLoss dev told x view
    → LeavesHistory (facts_of told x) (facts_of told (with_loss dev x view))

-- The value may go back after a copy was lost that counted as lost already: by a line of the operator, whoever plays
-- it, and whoever holds the lock.
abbrev pub LossesAgainMayGoBack : Type 0
LossesAgainMayGoBack = (dev : Dev) (told : Bool) (x : Shown) (view : View) (by : MemberId) (cares : List Bool)
    → IsLoss dev told x view → counts_as_lost dev x ≡ true → PlaysOperator cares
    → MayGiveBack by.0 cares (facts_of told x) (facts_of told (with_loss dev x view))

-- a device with a copy
abbrev pub IsCopys : Dev → Type 0
IsCopys (Spool n) = ⊥
IsCopys _ = Unit {0}

-- The value may go back after a copy was lost that counted as alive, where no other member that isn't stopped holds the
-- lock, or the pages stay.
abbrev pub FirstLossesMayGoBack : Type 0
FirstLossesMayGoBack = (dev : Dev) (told : Bool) (x : Shown) (view : View) (by : MemberId) (cares : List Bool)
    → IsLoss dev told x view → IsCopys dev → counts_as_lost dev x ≡ false
    → ((m : MemberId) → m.0 ≢ by.0 → shows_stopped x.book m ≡ false
    → (has_lock x.book m ≡ false) ⊎ PagesStay dev told x view)
    → MayGiveBack by.0 cares (facts_of told x) (facts_of told (with_loss dev x view))

-- Nobody may give back a value in which a loss took the pages from another member that holds the lock and isn't
-- stopped.
abbrev pub LossesSpareHolders : Type 0
LossesSpareHolders = (dev : Dev) (told : Bool) (x : Shown) (view : View) (by m : MemberId) (cares : List Bool)
    → MayGiveBack by.0 cares (facts_of told x) (facts_of told (with_loss dev x view)) → m.0 ≢ by.0
    → m.0 ≤ members_most → shows_stopped x.book m ≡ false → has_lock x.book m ≡ true → PagesStay dev told x view

-- the value with this count of armed stops
abbrev pub with_arms : Facts → List ℕ → Facts
with_arms f arms = record f { marks = record f.marks { arms = arms } }

-- a stop that is armed changes nothing but the count of such calls, and of that the member's alone
abbrev pub ArmsLeaveAllElse : Type 0
ArmsLeaveAllElse = (member : ℕ) (told : Bool) (x : Shown) (view : View) → Arms member x.view view
    → (facts_of told (with_view x view) ≡ with_arms (facts_of told x) (map (λ m. view.arms m.0) all_seats))
    × ((m : ℕ) → m ≢ member → view.arms m ≡ x.view.arms m)
