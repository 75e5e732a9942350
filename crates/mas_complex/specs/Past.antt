-- What a batch leaves of the pages before it, and what members noted of them.
use Rattle.mas_complex.specs.Names.{Dev, IsCkpt, Disk as DiskPart, View, disk_now, Page, members_most, bytes_of, level, page_in, level_in, Place, Put, Unsure}
use Rattle.std.specs.Prelude.{◌≡◌, ◌≢◌, ◌⊎◌, ℕ, zero, suc, ◌+◌, ◌≤◌, ◌<◌, Bool, true, false, List, [], ◌∷◌, replicate, Option, Some, slice_get}
use Rattle.duplex_pair.specs.declared.half.Half.{Half}
use Rattle.mas_complex.specs.declared.noting.Note.{Note}

-- the level that page 0 gives page q
abbrev pub age : ℕ → List ℕ → ℕ
age q pages = level_in (page_in 0 pages) q

-- Page q after a batch is as it was, and has the level that it had; or it changed, and has the level of the batch.
abbrev pub IsLeftOrNew : ℕ → List ℕ → List ℕ → Type 0
IsLeftOrNew q was is = ((page_in q is ≡ page_in q was) × (age q is ≡ age q was))
    ⊎ ((page_in q is ≢ page_in q was) × (age q is ≡ level is))

-- so many pages after a batch: they have the next level, which page 0 gives to each page that the batch changes, and it
-- gives each other page the level that this had
pub record IsNextOf (count : ℕ) (was is : List ℕ) : Type 0 where
  pub next : level is ≡ level was + 1
  pub each : (q : ℕ) → 1 ≤ q → q < count → IsLeftOrNew q was is

-- Pages of a later time: each of a level that isn't above that of the earlier ones is as it was then, with this level.
pub record IsLater (count : ℕ) (was is : List ℕ) : Type 0 where
  pub rises : level was ≤ level is
  pub each : (q : ℕ) → 1 ≤ q → q < count → age q is ≤ level was
      → (page_in q is ≡ page_in q was) × (age q is ≡ age q was)

-- WHAT MEMBERS NOTED

-- what was noted, member by member: member 0 is the operator
abbrev pub values_of : List Note → List (List Page)
values_of [] = []
values_of (one ∷ had) = one.pages.value ∷ values_of had

-- nobody has noted any pages
abbrev pub nobody_noted : List (List Page)
nobody_noted = replicate (members_most + 1) []

-- a member noted these pages
abbrev pub HasNoted : List (List Page) → ℕ → List Page → Type 0
HasNoted had m pages = slice_get had m ≡ Some pages

-- the pages that a member noted, none where it noted none
abbrev pub noted_by : List (List Page) → ℕ → List Page
noted_by [] m = []
noted_by (one ∷ had) zero = one
noted_by (one ∷ had) (suc m) = noted_by had m

-- these pages are later than those that each member noted
abbrev pub AreLater : ℕ → List (List Page) → List ℕ → Type 0
AreLater count had is = (m : ℕ) (page : Page) (pages : List Page) → HasNoted had m (page ∷ pages)
    → IsLater count (bytes_of (page ∷ pages)) is

-- What is seen of a copy: whether it counts as alive, how far the batch in flight has come on it, whether its device is
-- lost, what it reads, and what waits behind its closed gate.
pub record Sight : Type 0 where
  pub alive : Bool
  pub place : Place
  pub lost : Bool
  pub read : Option (List ℕ)
  pub waits : List ℕ

abbrev pub sight_of : {C : Type 0} → (List ℕ → Option (List ℕ)) → (C → List ℕ → List ℕ) → Half C → Place → Dev → View
    → Sight
sight_of reads behind half place dev v = record {
  alive = half.alive;
  place = place;
  lost = v.lost (DiskPart dev);
  read = reads (disk_now v dev).bytes;
  waits = behind half.copy (disk_now v dev).bytes;
}

-- What a copy reads that counts as alive is later than what members noted, and so is what waits behind its gate. Where
-- a halted call left it unsure, this is said of a device that isn't lost.
pub record HasPast (count : ℕ) (had : List (List Page)) (copy : Sight) : Type 0 where
  pub reads : copy.alive ≡ true → (copy.place ≡ Unsure → copy.lost ≡ false) → (is : List ℕ) → copy.read ≡ Some is
      → AreLater count had is
  pub waits : copy.alive ≡ true → copy.place ≡ Put → AreLater count had copy.waits

-- of both copies
abbrev pub HavePasts : ℕ → List (List Page) → (Dev → Sight) → Type 0
HavePasts count had copies = (d : Dev) → IsCkpt d → HasPast count had (copies d)
