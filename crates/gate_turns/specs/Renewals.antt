-- What the replacement of a lost copy leaves to the others.
use Rattle.std.specs.Prelude.{◌≡◌, ◌≢◌, Bool, true, false}
use Rattle.mas_types.specs.declared.ids.Dev.{Dev}
use Rattle.mas_types.specs.declared.ids.Dev.TheVariants.{Ckpt1, Ckpt2, Spool}
use Rattle.mas_types.specs.declared.ids.MemberId.{MemberId}
use Rattle.spool_plant.specs.View.{View}
use Rattle.duplex_pair.specs.Halves.{IsCkpt}
use Rattle.mas_complex.specs.Replacing.{Replaces}
use Rattle.gate_facts.specs.declared.marks.Marks.{Marks}
use Rattle.gate_facts.specs.Values.{Synced}
use Rattle.ckpt_places.specs.declared.places.Place.TheVariants.{Before}
use Rattle.mas_complex.specs.Elsewhere.{Elsewhere}
use Rattle.mas_complex.specs.Parts.{Shown}
use Rattle.gate_turns.specs.Shared.{desk_in, facts_of, marks_of}
use Rattle.gate_turns.specs.Laws.{with_view, HasBegun}
use Rattle.gate_turns.specs.Losses.{LeavesHistory}

-- the value after a copy was to be replaced: one that was formed counts as alive, and is as before any batch
abbrev pub with_renewal : Dev → Bool → Shown → View → Shown
with_renewal Ckpt1 true x view = record x { view = view; first_alive = true; first = Before }
with_renewal Ckpt2 true x view = record x { view = view; second_alive = true; second = Before }
with_renewal (Spool n) true x view = with_view x view
with_renewal dev false x view = with_view x view

-- A member that holds the lock was to replace a copy. Where content is told all other devices and the console are as
-- before.
pub record IsRenewal (by : MemberId) (dev : Dev) (stopped told : Bool) (x : Shown) (view : View) : Type 0 where
  pub holds : x.book.holder ≡ by
  pub copy : IsCkpt dev
  pub replaces : Replaces by.0 dev stopped x.view view
  pub apart : told ≡ true → Elsewhere dev x.view view
  pub begun : told ≡ true → HasBegun x

-- the replacement of a copy leaves the desk of each other member, whether or not a copy was formed
abbrev pub RenewalsLeaveDesks : Type 0
RenewalsLeaveDesks = (by : MemberId) (dev : Dev) (stopped formed told : Bool) (x : Shown) (view : View) (m : MemberId)
    → IsRenewal by dev stopped told x view → m.0 ≢ by.0
    → Synced (desk_in told (with_renewal dev formed x view) m) (desk_in told x m)

-- it changes nothing of what was kept, begun and said, and stops nobody in the book
abbrev pub RenewalsLeaveHistory : Type 0
RenewalsLeaveHistory = (by : MemberId) (dev : Dev) (stopped formed told : Bool) (x : Shown) (view : View)
    → IsRenewal by dev stopped told x view
    → LeavesHistory (facts_of told x) (facts_of told (with_renewal dev formed x view))

-- of the marks it leaves these
pub record LeavesCounts (was is : Marks) : Type 0 where
  pub since : is.since ≡ was.since
  pub loses : is.loses ≡ was.loses
  pub arms : is.arms ≡ was.arms

abbrev pub RenewalsLeaveCounts : Type 0
RenewalsLeaveCounts = (by : MemberId) (dev : Dev) (stopped formed told : Bool) (x : Shown) (view : View)
    → IsRenewal by dev stopped told x view
    → LeavesCounts (marks_of x) (marks_of (with_renewal dev formed x view))
