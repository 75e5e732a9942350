-- What a plant shows: its moment, the world at each moment up to now, and its counts.
use Rattle.std.specs.Prelude.{◌≡◌, ◌⊎◌, ℕ, ◌+◌, ◌≤◌, Bool, false, List, [], ◌∷◌, length, take, drop}
use Rattle.mas_types.specs.declared.ids.Dev.{Dev}
use Rattle.spool_plant.specs.declared.plant.Part.{Part}

-- a stretch of bytes of a device
pub record Stretch : Type 0 where
  pub from : ℕ
  pub len : ℕ

-- a device at a moment
pub record Disk : Type 0 where
  pub bytes : List ℕ
  pub unsynced : List Stretch
  pub lost : Bool

-- a line of the console or of a printer, whole or torn
pub record Line : Type 0 where
  pub text : List ℕ
  pub whole : Bool

-- The outside at a moment: the devices, the lines of the console and of each member's printer, and for each wire and
-- each member the bytes that it took from the wire and gave on it.
pub record World : Type 0 where
  pub disk : Dev → Disk
  pub console : List Line
  pub paper : ℕ → List Line
  pub taken : ℕ → ℕ → List ℕ
  pub given : ℕ → ℕ → List ℕ

-- What a plant shows: the number of acts made, the world at each moment up to now, the bytes of each device, the parts
-- lost now, and for each part its faults, for each member its stops, for each device the calls that lost it, for each
-- wire the bytes that wait on it now, and for each member the calls that armed a stop of it. And the moment behind the
-- last act in which a member was stopped, which is 0 where there was none.
pub record View : Type 0 where
  pub now : ℕ
  pub world : ℕ → World
  pub size : Dev → ℕ
  pub lost : Part → Bool
  pub faults : Part → ℕ
  pub stops : ℕ → ℕ
  pub loses : Dev → ℕ
  pub waiting : ℕ → List ℕ
  pub arms : ℕ → ℕ
  pub halt : ℕ

-- the device at a moment, and now
abbrev pub disk_at : View → ℕ → Dev → Disk
disk_at v t dev = (v.world t).disk dev

abbrev pub disk_now : View → Dev → Disk
disk_now v dev = (v.world v.now).disk dev

-- the lines that a member's printer has now
abbrev pub paper_now : View → ℕ → List Line
paper_now v member = (v.world v.now).paper member

-- the bytes that a member has taken from a wire, and given on it
abbrev pub taken_now : View → ℕ → ℕ → List ℕ
taken_now v wire member = (v.world v.now).taken wire member

abbrev pub given_now : View → ℕ → ℕ → List ℕ
given_now v wire member = (v.world v.now).given wire member

abbrev pub slice : ℕ → ℕ → List ℕ → List ℕ
slice from len bytes = take len (drop from bytes)

-- no byte of one stretch is in the other
abbrev pub Apart : Stretch → Stretch → Type 0
Apart r s = (r.from + r.len ≤ s.from) ⊎ (s.from + s.len ≤ r.from)

-- no unsynced stretch has a byte of this one
abbrev pub Avoids : List Stretch → Stretch → Type 0
Avoids [] s = Unit {0}
Avoids (r ∷ rs) s = Apart r s × Avoids rs s

-- what a crash may leave of a device: the bytes of the moment in each stretch without unsynced bytes, and any
-- bytes elsewhere
pub record IsImage (disk : Disk) (image : List ℕ) : Type 0 where
  pub there : disk.lost ≡ false
  pub size : length image ≡ length disk.bytes
  pub synced : (s : Stretch) → Avoids disk.unsynced s → slice s.from s.len image ≡ slice s.from s.len disk.bytes

-- each image has P
abbrev pub LeavesOnly : Disk → (List ℕ → Type 0) → Type 0
LeavesOnly disk P = (image : List ℕ) → IsImage disk image → P image

-- at each moment from one to another
abbrev pub Throughout : ℕ → ℕ → (ℕ → Type 0) → Type 0
Throughout from to P = (t : ℕ) → from ≤ t → t ≤ to → P t
