-- The texts of a queue's decks and outputs on the spool volumes, and what a crash leaves of them.
use Rattle.mas_complex.specs.Names.{GroupNo, Spool, Text, Deck, Output, Queue, page_bytes, Disk as DiskPart, View, ViewDisk as Disk, Avoids, disk_at, groups_of, Volumes, volume_of, start_of, records_on, text_of}
use Rattle.std.specs.Prelude.{◌≡◌, ℕ, Bool, false, List, Some, All}
use Rattle.std.specs.List.{list_any}
use Rattle.mas_types.specs.Queue.{line_count}

-- the spool volumes at a moment, by their numbers
abbrev pub Spools : Type 0
Spools = ℕ → Disk

abbrev pub spools_at : View → ℕ → Spools
spools_at v t n = disk_at v t (Spool n)

-- what the volumes hold, whether or not it is synced
abbrev pub bytes_on : Spools → Volumes
bytes_on disks n = Some (disks n).bytes

-- the volumes that are lost now
abbrev pub lost_now : View → ℕ → Bool
lost_now v n = v.lost (DiskPart (Spool n))

-- one of the groups lies on a volume that is gone, where each volume has so many groups
abbrev pub lies_on : (ℕ → Bool) → ℕ → List GroupNo → Bool
lies_on gone per groups = list_any (λ g. gone (volume_of per g)) groups

-- no byte of the group's page is unsynced
abbrev pub IsSynced : Spools → ℕ → GroupNo → Type 0
IsSynced disks per g = Avoids (disks (volume_of per g)).unsynced (record { from = start_of per g; len = page_bytes })

-- A text stands in its groups, in the order of their places: it is what the volumes give, with as many lines as are
-- counted, and all of it is synced.
pub record IsThere (disks : Spools) (per : ℕ) (text : Text) (groups : List GroupNo) : Type 0 where
  pub is : text_of (records_on (bytes_on disks) per) (line_count text) groups ≡ text
  pub synced : All (IsSynced disks per) groups

-- a text stands in its groups, unless one of them lies on a volume that is gone
abbrev pub IsThereUnless : (ℕ → Bool) → Spools → ℕ → Text → List GroupNo → Type 0
IsThereUnless gone disks per text groups = lies_on gone per groups ≡ false → IsThere disks per text groups

-- a queue's texts stand in the groups that the queue gives them, except those with a group on a volume that is gone
pub record HasTexts (gone : ℕ → Bool) (disks : Spools) (per : ℕ) (Q : Queue) : Type 0 where
  pub decks : All (λ j. IsThereUnless gone disks per j.text (groups_of (Deck j.number) Q.owners)) Q.jobs
  pub outputs : All (λ o. IsThereUnless gone disks per o.text (groups_of (Output o.job o.index) Q.owners)) Q.outputs

-- a text is read from what is left of the volumes, unless one of its groups lies on a volume that is gone
abbrev pub IsReadUnless : (ℕ → Bool) → Volumes → ℕ → Text → List GroupNo → Type 0
IsReadUnless gone volumes per text groups = lies_on gone per groups ≡ false
    → text_of (records_on volumes per) (line_count text) groups ≡ text

-- a queue's texts are read from what is left of the volumes, except those with a group on a volume that is gone
pub record GivesTexts (gone : ℕ → Bool) (volumes : Volumes) (per : ℕ) (Q : Queue) : Type 0 where
  pub decks : All (λ j. IsReadUnless gone volumes per j.text (groups_of (Deck j.number) Q.owners)) Q.jobs
  pub outputs : All (λ o. IsReadUnless gone volumes per o.text (groups_of (Output o.job o.index) Q.owners)) Q.outputs
