-- What a member has at hand.
use Rattle.std.specs.Prelude.{ℕ, zero, suc, ◌+◌, ◌/◌, ◌==◌, nat_le, Bool, true, false, not, ◌||◌, if◌then◌else◌, List, [], ◌∷◌, ◌++◌, length, map, Option, Some, None}
use Rattle.std.specs.List.{list_any}
use Rattle.mas_types.specs.declared.ids.MemberId.{MemberId}
use Rattle.mas_types.specs.declared.ids.GroupNo.{GroupNo}
use Rattle.mas_types.specs.declared.ids.Dev.{Dev}
use Rattle.mas_types.specs.declared.ids.Dev.TheVariants.{Ckpt1, Ckpt2}
use Rattle.mas_types.specs.declared.ids.Page.{Page}
use Rattle.mas_types.specs.declared.journals.Entry.{Entry}
use Rattle.mas_types.specs.declared.queues.Owner.{Owner}
use Rattle.mas_types.specs.Limits.{page_bytes}
use Rattle.mas_types.specs.Owners.{is_members}
use Rattle.spool_plant.specs.View.{Disk, Stretch, slice}
use Rattle.ckpt_copy.specs.Pages.{level, page_in}
use Rattle.spool_volumes.specs.Volumes.{start_of}
use Rattle.gate_facts.specs.declared.desks.Hold.{Hold}
use Rattle.gate_facts.specs.declared.desks.Group.{Group}
use Rattle.ckpt_places.specs.declared.places.Place.{Place}
use Rattle.ckpt_places.specs.declared.places.Place.TheVariants.{Put, Opened}
use Rattle.mas_complex.specs.Places.{is_opened}
use Rattle.mas_complex.specs.Spool.{device_of}

-- each device
abbrev pub Disks : Type 0
Disks = Dev → Disk

-- THE CHECKPOINT

-- so many pages of bytes, from the page of a number on
abbrev pub pages_from : ℕ → ℕ → List ℕ → List Page
pages_from at zero bytes = []
pages_from at (suc n) bytes = record { 0 = page_in at bytes } ∷ pages_from (at + 1) n bytes

abbrev pub pages_of : List ℕ → List Page
pages_of bytes = pages_from 0 (length bytes / page_bytes) bytes

-- what a copy reads, where that is pages of this level
abbrev pub if_at_level : ℕ → Option (List ℕ) → Option (List ℕ)
if_at_level reached None = None
if_at_level reached (Some pages) = if level pages == reached then Some pages else None

abbrev pub if_good : Bool → Option (List ℕ) → Option (List ℕ)
if_good alive pages = if alive then pages else None

abbrev pub one_of : Option (List ℕ) → Option (List ℕ) → List Page
one_of (Some pages) second = pages_of pages
one_of None (Some pages) = pages_of pages
one_of None None = []

-- the pages of this level, which those of the good copies read that don't read a batch in flight
unfoldable pub kept_pages : (List ℕ → Option (List ℕ)) → ℕ → Bool → Bool → Disks → List Page
kept_pages reads reached first second disks =
    one_of (if_good first (if_at_level reached (reads (disks Ckpt1).bytes)))
    (if_good second (if_at_level reached (reads (disks Ckpt2).bytes)))

abbrev pub is_logged : Place → Bool
is_logged Put = true
is_logged Opened = true
is_logged _ = false

-- the copies of which the places pass a test
abbrev pub copies_at : (Place → Bool) → Place → Place → List Dev
copies_at is first second = (if is first then Ckpt1 ∷ [] else []) ++ (if is second then Ckpt2 ∷ [] else [])

abbrev pub no_hold : Hold
no_hold = record { locked = false; pages = []; batch = []; logged = []; opened = [] }

-- a holder's part of the checkpoint
abbrev pub whole_hold : List Page → List Entry → Place → Place → Hold
whole_hold pages batch first second = record {
  locked = true;
  pages = pages;
  batch = batch;
  logged = copies_at is_logged first second;
  opened = copies_at
      is_opened first second;
}

-- GROUPS

-- the groups that the member has, in ascending number; the first of them all has this number
abbrev pub groups_from : MemberId → ℕ → List Owner → List GroupNo
groups_from m at [] = []
groups_from m at (g ∷ gs) = if is_members m g then record { 0 = at }
    ∷ groups_from m (at + 1) gs else groups_from m (at + 1) gs

-- a stretch has a byte of another
abbrev pub meets : Stretch → Stretch → Bool
meets r s = not (nat_le (r.from + r.len) s.from || nat_le (s.from + s.len) r.from)

-- an unsynced stretch has a byte of this one
abbrev pub is_unsynced : Disk → Stretch → Bool
is_unsynced disk s = list_any (λ r. meets r s) disk.unsynced

abbrev pub page_stretch : ℕ → GroupNo → Stretch
page_stretch per g = record { from = start_of per g; len = page_bytes }

-- a group with its bytes on its volume, which has so many groups
abbrev pub group_on : Disks → ℕ → GroupNo → Group
group_on disks per g = record {
  number = g;
  bytes = record { 0 = slice (start_of per g) page_bytes (disks (device_of per g)).bytes };
  unsynced = is_unsynced (disks (device_of per g)) (page_stretch per g);
}

unfoldable pub groups_on : Disks → ℕ → MemberId → List Owner → List Group
groups_on disks per m owners = map (group_on disks per) (groups_from m 0 owners)
