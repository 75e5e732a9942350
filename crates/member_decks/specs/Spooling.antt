-- A text that goes into groups on the spool volumes.
use Rattle.member_decks.specs.Names.{Dev, Ckpt1, Ckpt2, Spool, page_bytes, Disk as DiskPart, View, ViewDisk as Disk, Stretch, Avoids, disk_now, slice, Goes, Rose, SameWires, SamePapers, IsSynced, Spools, none_lost, SparesBut}
use Rattle.std.specs.Prelude.{◌≡◌, ◌≢◌, ◌⊎◌, ℕ, ◌<◌, ◌==◌, Bool, true, false, List, All, Some, slice_get, Result, Ok, Err}
use Rattle.std.specs.List.{list_any}
use Rattle.mas_types.specs.declared.ids.GroupNo.{GroupNo}
use Rattle.spool_plant.specs.declared.plant.Act.{Act}
use Rattle.spool_plant.specs.declared.plant.Act.TheVariants as act
use Rattle.spool_plant.specs.declared.plant.Part.{Part}
use Rattle.spool_volumes.specs.Volumes.{volume_of, start_of}
use Rattle.member_decks.specs.declared.spooling.SpoolError.{SpoolError}
use Rattle.member_decks.specs.declared.spooling.SpoolError.TheVariants.{Lost, Halted}

-- the groups rise
abbrev pub Rise : List GroupNo → Type 0
Rise groups = (i j : ℕ) (g h : GroupNo) → i < j → slice_get groups i ≡ Some g → slice_get groups j ≡ Some h → g.0 < h.0

-- the page of a group
abbrev pub page_in : Spools → ℕ → GroupNo → List ℕ
page_in disks per g = slice (start_of per g) page_bytes (disks (volume_of per g)).bytes

-- a group is as it was: no byte of its page differs, and what was synced still is
pub record IsGroupKept (per : ℕ) (g : GroupNo) (old new : Spools) : Type 0 where
  pub page : page_in new per g ≡ page_in old per g
  pub synced : IsSynced old per g → IsSynced new per g

-- so is each group but these
abbrev pub GroupsKept : ℕ → List GroupNo → Spools → Spools → Type 0
GroupsKept per groups old new = (h : GroupNo) → All (λ g. h.0 ≢ g.0) groups → IsGroupKept per h old new

-- the pages at the places below this one stand in the groups at these places, synced or not
abbrev pub StandBelow : ℕ → Spools → ℕ → List (List ℕ) → List GroupNo → Type 0
StandBelow most disks per pages groups = (k : ℕ) (g : GroupNo) → k < most → slice_get groups k ≡ Some g
    → slice_get pages k ≡ Some (page_in disks per g)

-- no byte of a volume differs, and what was synced still is
pub record IsQuiet (old new : Disk) : Type 0 where
  pub bytes : new.bytes ≡ old.bytes
  pub synced : (s : Stretch) → Avoids old.unsynced s → Avoids new.unsynced s

abbrev pub AreQuiet : Spools → Spools → Type 0
AreQuiet old new = (n : ℕ) → IsQuiet (old n) (new n)

-- one of the groups lies on the volume
abbrev pub lies_there : ℕ → ℕ → List GroupNo → Bool
lies_there per volume groups = list_any (λ g. volume_of per g == volume) groups

-- Acts of a member on spool volumes: no other part is lost, nobody else is stopped, nor the operator, and where content
-- is told, the copies, the console, the lines to other nodes and at each moment the printers are as they were.
pub record OnVolumes (told : Type 0) (by : ℕ) (old new : View) : Type 0 where
  pub goes : Goes old new
  pub else_lost : (p : Part) → ((n : ℕ) → p ≢ DiskPart (Spool n)) → new.lost p ≡ old.lost p
  pub loses : (d : Dev) → new.loses d ≡ old.loses d
  pub arms : (m : ℕ) → new.arms m ≡ old.arms m
  pub no_other_stop : (m : ℕ) → (m ≢ by) ⊎ (by ≡ 0) → new.stops m ≡ old.stops m
  pub first : told → disk_now new Ckpt1 ≡ disk_now old Ckpt1
  pub second : told → disk_now new Ckpt2 ≡ disk_now old Ckpt2
  pub console : told → (new.world new.now).console ≡ (old.world old.now).console
  pub papers : told → SamePapers old new
  pub wires : told → SameWires old new

-- Why it stopped: a volume on which a group lies failed and is lost, or the member was stopped. Else nobody was. No
-- other volume is lost, and no fault of one is counted.
abbrev pub SpoolCauses : {T : Type 0} → Result T SpoolError → ℕ → ℕ → List GroupNo → View → View → Type 0
SpoolCauses (Ok done) by per groups old new = SparesBut by false none_lost old new
SpoolCauses (Err (Lost v)) by per groups old new = (lies_there per v groups ≡ true)
    × (new.lost (DiskPart (Spool v)) ≡ true) × Rose (old.faults (DiskPart (Spool v))) (new.faults (DiskPart (Spool v)))
    × SparesBut by false (λ n. n == v) old new
SpoolCauses (Err Halted) by per groups old new = (0 < by) × Rose (old.stops by) (new.stops by)
    × SparesBut by true none_lost old new

-- the answer of an act on a volume
abbrev pub answer_of : Act → ℕ → Result (Unit {0}) SpoolError
answer_of act.Done volume = Ok tt
answer_of act.Failed volume = Err (Lost volume)
answer_of act.Halted volume = Err Halted
