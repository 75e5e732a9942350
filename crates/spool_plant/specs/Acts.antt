-- What an act does to what a plant shows.
use Rattle.std.specs.Prelude.{◌≡◌, ◌≢◌, ◌⊎◌, ℕ, ◌+◌, ◌-◌, ◌≤◌, ◌<◌, ◌^◌, min, true, false, List, [], ◌∷◌, ◌++◌, length, take, drop, replicate}
use Rattle.mas_types.specs.declared.ids.Dev.{Dev}
use Rattle.spool_plant.specs.declared.plant.Part.{Part}
use Rattle.spool_plant.specs.declared.plant.Part.TheVariants.{Disk as DiskPart}
use Rattle.spool_plant.specs.declared.plant.Act.{Act}
use Rattle.spool_plant.specs.declared.plant.Act.TheVariants.{Done, Failed, Halted}
use Rattle.spool_plant.specs.declared.plant.Took.{Took}
use Rattle.spool_plant.specs.declared.plant.Took.TheVariants.{Bytes as TookBytes, Failed as TookFailed, Halted as TookHalted}
use Rattle.spool_plant.specs.View.{View, Disk, Line, disk_now, paper_now, taken_now, given_now, slice}

-- the greatest count
abbrev pub top : ℕ
top = 2 ^ 64 - 1

-- one more, or the greatest
abbrev pub next : ℕ → ℕ
next n = min (n + 1) top

-- a count rose. At the greatest it counts as risen
abbrev pub Rose : ℕ → ℕ → Type 0
Rose old new = next old ≤ new

-- What holds after any number of acts and calls that lose a device: past worlds stay, counts don't fall, a lost part
-- stays lost, and no stop was armed.
pub record Goes (old new : View) : Type 0 where
  pub later : old.now ≤ new.now
  pub past : (t : ℕ) → t ≤ old.now → new.world t ≡ old.world t
  pub size : (d : Dev) → new.size d ≡ old.size d
  pub faults : (p : Part) → old.faults p ≤ new.faults p
  pub stops : (m : ℕ) → old.stops m ≤ new.stops m
  pub lost : (p : Part) → old.lost p ≡ true → new.lost p ≡ true
  pub arms : (m : ℕ) → new.arms m ≡ old.arms m

-- An act of a member on a part, with this answer.
pub record Acts (by : ℕ) (part : Part) (old new : View) (result : Act) : Type 0 where
  pub time : new.now ≡ next old.now
  pub goes : Goes old new
  pub failed : result ≡ Failed → Rose (old.faults part) (new.faults part)
  pub is_lost : result ≡ Failed → new.lost part ≡ true
  pub stays_lost : old.lost part ≡ true → result ≢ Done
  pub else_lost : (p : Part) → (p ≢ part) ⊎ (result ≢ Failed) → new.lost p ≡ old.lost p
  pub else_faults : (p : Part) → (p ≢ part) ⊎ (result ≢ Failed) → new.faults p ≡ old.faults p
  pub halted : result ≡ Halted → Rose (old.stops by) (new.stops by)
  pub not_operator : result ≡ Halted → 0 < by
  pub no_other_stop : (m : ℕ) → (m ≢ by) ⊎ (result ≢ Halted) → new.stops m ≡ old.stops m
  pub at_halt : result ≡ Halted → new.halt ≡ new.now
  pub else_halt : result ≢ Halted → new.halt ≡ old.halt
  pub last : old.now ≡ top → result ≡ Failed
  pub loses : (d : Dev) → new.loses d ≡ old.loses d
  pub arms : (m : ℕ) → new.arms m ≡ old.arms m

-- the lines on every printer are as they were
abbrev pub SamePaper : View → View → Type 0
SamePaper old new = (m : ℕ) → paper_now new m ≡ paper_now old m

-- nothing has moved on any wire
pub record SameWires (old new : View) : Type 0 where
  pub waiting : (w : ℕ) → new.waiting w ≡ old.waiting w
  pub taken : (w m : ℕ) → taken_now new w m ≡ taken_now old w m
  pub given : (w m : ℕ) → given_now new w m ≡ given_now old w m

-- The world is as it was except for this device.
pub record OnDevice (dev : Dev) (old new : View) : Type 0 where
  pub others : (d : Dev) → d ≢ dev → disk_now new d ≡ disk_now old d
  pub console : (new.world new.now).console ≡ (old.world old.now).console
  pub paper : SamePaper old new
  pub wires : SameWires old new

-- only bytes of this stretch differ
pub record DiffersIn (at len : ℕ) (old new : List ℕ) : Type 0 where
  pub size : length new ≡ length old
  pub before : take at new ≡ take at old
  pub after : drop (at + len) new ≡ drop (at + len) old

-- the bytes of a stretch may differ, and are unsynced
pub record Dirtied (at len : ℕ) (old new : Disk) : Type 0 where
  pub differs : DiffersIn at len old.bytes new.bytes
  pub unsynced : new.unsynced ≡ record { from = at; len = len } ∷ old.unsynced

-- no byte differs, and what was synced still is
pub record Untouched (old new : Disk) : Type 0 where
  pub bytes : new.bytes ≡ old.bytes
  pub unsynced : new.unsynced ≡ old.unsynced

-- the bytes of a stretch with at most so many bytes may differ, and are unsynced
abbrev pub DirtiedIn : ℕ → ℕ → Disk → Disk → Type 0
DirtiedIn at len old new = (n : ℕ) × (n ≤ len) × Dirtied at n old new

-- a device after a write
abbrev pub Written : ℕ → List ℕ → Disk → Disk → Act → Type 0
Written at bytes old new Done = Dirtied at (length bytes) old new × (slice at (length bytes) new.bytes ≡ bytes)
    × (new.lost ≡ old.lost)
Written at bytes old new Halted = DirtiedIn at (length bytes) old new × (new.lost ≡ old.lost)
Written at bytes old new Failed = DirtiedIn at (length bytes) old new ⊎ Untouched old new

-- a device after a sync
abbrev pub Synced : Disk → Disk → Act → Type 0
Synced old new Done = (new.bytes ≡ old.bytes) × (new.unsynced ≡ []) × (new.lost ≡ old.lost)
Synced old new Halted = new ≡ old
Synced old new Failed = Untouched old new

-- a device after a read into bytes
abbrev pub ReadBy : ℕ → List ℕ → Disk → Disk → Act → Type 0
ReadBy at into old new Done = (new ≡ old) × (into ≡ slice at (length into) old.bytes)
ReadBy at into old new Halted = new ≡ old
ReadBy at into old new Failed = Untouched old new

-- once an act failed, the device is lost at the moment that the act made
abbrev pub IsLostAfter : Dev → View → View → Act → Type 0
IsLostAfter dev old new result = result ≡ Failed → old.now < top → (disk_now new dev).lost ≡ true

pub record Writes (dev : Dev) (at : ℕ) (bytes : List ℕ) (old new : View) (result : Act) : Type 0 where
  pub disk : Written at bytes (disk_now old dev) (disk_now new dev) result
  pub lost : IsLostAfter dev old new result
  pub only : OnDevice dev old new

pub record Syncs (dev : Dev) (old new : View) (result : Act) : Type 0 where
  pub disk : Synced (disk_now old dev) (disk_now new dev) result
  pub lost : IsLostAfter dev old new result
  pub only : OnDevice dev old new

pub record Reads (dev : Dev) (at : ℕ) (old new : View) (into : List ℕ) (result : Act) : Type 0 where
  pub disk : ReadBy at into (disk_now old dev) (disk_now new dev) result
  pub lost : IsLostAfter dev old new result
  pub only : OnDevice dev old new

-- the lines of the console, or of a printer, after a line
abbrev pub Said : List ℕ → List Line → List Line → Act → Type 0
Said line old new Done = new ≡ old ++ record { text = line; whole = true } ∷ []
Said line old new Failed = new ≡ old
Said line old new Halted =
    (new ≡ old)
    ⊎ ((text : List ℕ) × (new ≡ old ++ record { text = text; whole = false } ∷ []))
    ⊎ (new ≡ old ++ record { text = line; whole = true } ∷ [])

pub record Says (line : List ℕ) (old new : View) (result : Act) : Type 0 where
  pub console : Said line (old.world old.now).console (new.world new.now).console result
  pub disks : (d : Dev) → disk_now new d ≡ disk_now old d
  pub paper : SamePaper old new
  pub wires : SameWires old new

-- a line goes to the printer of a member
pub record Prints (member : ℕ) (line : List ℕ) (old new : View) (result : Act) : Type 0 where
  pub paper : Said line (paper_now old member) (paper_now new member) result
  pub others : (m : ℕ) → m ≢ member → paper_now new m ≡ paper_now old m
  pub disks : (d : Dev) → disk_now new d ≡ disk_now old d
  pub console : (new.world new.now).console ≡ (old.world old.now).console
  pub wires : SameWires old new

-- what was given on a wire, after bytes are given: with all of them after it, or with the first of them
abbrev pub Given : List ℕ → List ℕ → List ℕ → Act → Type 0
Given bytes old new Done = new ≡ old ++ bytes
Given bytes old new Failed = (n : ℕ) × (new ≡ old ++ take n bytes)
Given bytes old new Halted = (n : ℕ) × (new ≡ old ++ take n bytes)

-- a member gives bytes on a wire
pub record GivesOn (wire member : ℕ) (bytes : List ℕ) (old new : View) (result : Act) : Type 0 where
  pub given : Given bytes (given_now old wire member) (given_now new wire member) result
  pub others : (w m : ℕ) → (w ≢ wire) ⊎ (m ≢ member) → given_now new w m ≡ given_now old w m
  pub taken : (w m : ℕ) → taken_now new w m ≡ taken_now old w m
  pub waiting : (w : ℕ) → new.waiting w ≡ old.waiting w
  pub disks : (d : Dev) → disk_now new d ≡ disk_now old d
  pub console : (new.world new.now).console ≡ (old.world old.now).console
  pub paper : SamePaper old new

-- the answer of a `take` as that of an act
abbrev pub act_of : Took → Act
act_of (TookBytes n) = Done
act_of TookFailed = Failed
act_of TookHalted = Halted

-- no more bytes came than there is room for
abbrev pub FitsInto : ℕ → Took → Type 0
FitsInto room (TookBytes n) = n ≤ room
FitsInto room TookFailed = Unit {0}
FitsInto room TookHalted = Unit {0}

-- What a `take` leaves waiting, of what waited, what the member has taken then, and what came into its bytes: the first
-- bytes that waited. None came only where nothing waited, or there is no room.
abbrev pub TookFrom : List ℕ → List ℕ → List ℕ → List ℕ → List ℕ → Took → Type 0
TookFrom waited waits old new into (TookBytes n) =
    (n ≤ length waited) × (take n into ≡ take n waited) × (waits ≡ drop n waited) × (new ≡ old ++ take n waited)
    × (n ≡ 0 → (waited ≡ []) ⊎ (into ≡ []))
TookFrom waited waits old new into TookFailed = (waits ≡ waited) × (new ≡ old)
TookFrom waited waits old new into TookHalted = (waits ≡ waited) × (new ≡ old)

-- a member takes bytes from a wire
pub record Takes (wire member : ℕ) (old new : View) (into : List ℕ) (result : Took) : Type 0 where
  pub took : TookFrom (old.waiting wire) (new.waiting wire) (taken_now old wire member) (taken_now new wire member) into
      result
  pub others : (w m : ℕ) → (w ≢ wire) ⊎ (m ≢ member) → taken_now new w m ≡ taken_now old w m
  pub waiting : (w : ℕ) → w ≢ wire → new.waiting w ≡ old.waiting w
  pub given : (w m : ℕ) → given_now new w m ≡ given_now old w m
  pub disks : (d : Dev) → disk_now new d ≡ disk_now old d
  pub console : (new.world new.now).console ≡ (old.world old.now).console
  pub paper : SamePaper old new

-- What renewing a device does, by whatever hand, with this answer: the operator's, who never halts.
pub record Renews (dev : Dev) (old new : View) (result : Act) : Type 0 where
  pub time : new.now ≡ next old.now
  pub later : old.now ≤ new.now
  pub past : (t : ℕ) → t ≤ old.now → new.world t ≡ old.world t
  pub size : (d : Dev) → new.size d ≡ old.size d
  pub faults : (p : Part) → old.faults p ≤ new.faults p
  pub failed : result ≡ Failed → Rose (old.faults (DiskPart dev)) (new.faults (DiskPart dev))
  pub is_lost : result ≡ Failed → new.lost (DiskPart dev) ≡ true
  pub is_there : result ≡ Done → new.lost (DiskPart dev) ≡ false
  pub else_lost : (p : Part) → p ≢ DiskPart dev → new.lost p ≡ old.lost p
  pub else_faults : (p : Part) → p ≢ DiskPart dev → new.faults p ≡ old.faults p
  pub no_halt : result ≢ Halted
  pub stops : (m : ℕ) → new.stops m ≡ old.stops m
  pub halt : new.halt ≡ old.halt
  pub last : old.now ≡ top → result ≡ Failed
  pub loses : (d : Dev) → new.loses d ≡ old.loses d
  pub arms : (m : ℕ) → new.arms m ≡ old.arms m

-- a device of so many bytes after a renewal: another one of zeros, which isn't lost
abbrev pub Renewed : ℕ → Disk → Disk → Act → Type 0
Renewed size old new Done = (new.bytes ≡ replicate size 0) × (new.unsynced ≡ []) × (new.lost ≡ false)
Renewed size old new Failed = Untouched old new
Renewed size old new Halted = new ≡ old

pub record RenewsThere (dev : Dev) (old new : View) (result : Act) : Type 0 where
  pub disk : Renewed (old.size dev) (disk_now old dev) (disk_now new dev) result
  pub lost : IsLostAfter dev old new result
  pub only : OnDevice dev old new

-- A stop of a member is armed: nothing that the plant shows changes but the count of such calls.
pub record Arms (member : ℕ) (old new : View) : Type 0 where
  pub same : new ≡ record old { arms = new.arms }
  pub counted : new.arms member ≡ next (old.arms member)
  pub else_counted : (m : ℕ) → m ≢ member → new.arms m ≡ old.arms m

-- A part is lost by a call that has no answer. A device's count of such calls rises, up to the greatest.
pub record Loses (part : Part) (old new : View) : Type 0 where
  pub time : new.now ≡ next old.now
  pub goes : Goes old new
  pub is_lost : new.lost part ≡ true
  pub else_lost : (p : Part) → p ≢ part → new.lost p ≡ old.lost p
  pub faults : (p : Part) → new.faults p ≡ old.faults p
  pub stops : (m : ℕ) → new.stops m ≡ old.stops m
  pub halt : new.halt ≡ old.halt
  pub counted : (d : Dev) → DiskPart d ≡ part → new.loses d ≡ next (old.loses d)
  pub small : (d : Dev) → DiskPart d ≡ part → old.loses d ≤ top
  pub else_counted : (d : Dev) → DiskPart d ≢ part → new.loses d ≡ old.loses d
  pub arms : (m : ℕ) → new.arms m ≡ old.arms m

-- A device is lost by a call that has no answer: in the world it is lost from the moment that the call made.
pub record LosesThere (dev : Dev) (old new : View) : Type 0 where
  pub disk : Untouched (disk_now old dev) (disk_now new dev)
  pub lost : old.now < top → (disk_now new dev).lost ≡ true
  pub only : OnDevice dev old new
