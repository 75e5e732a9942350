-- What acts on a line show: bytes that were given, and bytes that were taken.
use Rattle.std.specs.Prelude.{◌≡◌, ◌≢◌, ◌⊎◌, ℕ, ◌≤◌, Bool, true, false, List, [], ◌++◌, length, take, All, Option, Result, Ok, Err}
use Rattle.mas_types.specs.declared.ids.Dev.{Dev}
use Rattle.mas_types.specs.declared.ids.Dev.TheVariants.{Ckpt1, Ckpt2, Spool}
use Rattle.spool_plant.specs.declared.plant.Act.{Act}
use Rattle.spool_plant.specs.declared.plant.Act.TheVariants as act
use Rattle.spool_plant.specs.declared.plant.Part.{Part}
use Rattle.spool_plant.specs.declared.plant.Part.TheVariants.{Disk as DiskPart, Wire}
use Rattle.spool_plant.specs.Acts.{Goes, Rose}
use Rattle.spool_plant.specs.View.{View, disk_now, given_now, taken_now}
use Rattle.mas_complex.specs.Paper.{SamePapers}
use Rattle.member_node.specs.declared.member.NodeNo.{NodeNo}
use Rattle.member_node.specs.declared.member.NodeNo.TheVariants.{BothLost, ConsoleFault, Halted, NoMemory}
use Rattle.member_node.specs.Calls.{console_now, none_lost}
use Rattle.member_node.specs.Spares.{SparesBut}
use Rattle.member_acts.specs.Reading.{OnlyReads}
use Rattle.nje_frames.specs.declared.frames.Frame.{Frame}
use Rattle.nje_frames.specs.Grammar.{IsFrame}
use Rattle.nje_frames.specs.Streams.{HasFed}
use Rattle.step_turns.specs.Serving.{taken_most}
use Rattle.member_wires.specs.declared.acts.End.{End}
use Rattle.member_wires.specs.declared.acts.Taken.{Taken}

-- a line was found lost in acts: it failed in them
pub record HasLineFailed (l : ℕ) (old new : View) : Type 0 where
  pub lost : new.lost (Wire l) ≡ true
  pub rose : Rose (old.faults (Wire l)) (new.faults (Wire l))

-- Acts of a member on a line, and on spool volumes that it only reads: no other part is lost, and where content is told
-- the copies, the console and at each moment the printers are as they were, and no byte of a volume differs. On other
-- lines, and at other members, nothing was given or taken, and the same bytes wait on other lines.
pub record AreOnLine (told : Type 0) (end : End) (old new : View) : Type 0 where
  pub goes : Goes old new
  pub else_lost : (p : Part) → p ≢ Wire end.line → ((n : ℕ) → p ≢ DiskPart (Spool n)) → new.lost p ≡ old.lost p
  pub loses : (d : Dev) → new.loses d ≡ old.loses d
  pub arms : (m : ℕ) → new.arms m ≡ old.arms m
  pub first : told → disk_now new Ckpt1 ≡ disk_now old Ckpt1
  pub second : told → disk_now new Ckpt2 ≡ disk_now old Ckpt2
  pub reads : OnlyReads told old new
  pub console : told → console_now new ≡ console_now old
  pub papers : told → SamePapers old new
  pub given : told → (w m : ℕ) → (w ≢ end.line) ⊎ (m ≢ end.by.0) → given_now new w m ≡ given_now old w m
  pub taken : told → (w m : ℕ) → (w ≢ end.line) ⊎ (m ≢ end.by.0) → taken_now new w m ≡ taken_now old w m
  pub waiting : told → (w : ℕ) → w ≢ end.line → new.waiting w ≡ old.waiting w

-- Why acts beside the copies ended: out of memory, or the member was stopped. Else nobody was. No volume is lost, and
-- no fault of one is counted.
abbrev pub StopsBeside : {T : Type 0} → Result T NodeNo → ℕ → View → View → Type 0
StopsBeside (Ok done) by old new = SparesBut by false none_lost old new
StopsBeside (Err NoMemory) by old new = SparesBut by false none_lost old new
StopsBeside (Err Halted) by old new = SparesBut by true none_lost old new × Rose (old.stops by) (new.stops by)
StopsBeside (Err BothLost) by old new = ⊥
StopsBeside (Err ConsoleFault) by old new = ⊥

-- GIVING

-- so many of these bytes were given, by the answer: all of them, unless the line was found lost or the member stopped
abbrev pub GivenBy : Result Bool NodeNo → List ℕ → ℕ → Type 0
GivenBy (Ok false) bytes n = n ≡ length bytes
GivenBy (Ok true) bytes n = n ≤ length bytes
GivenBy (Err NoMemory) bytes n = n ≡ 0
GivenBy (Err Halted) bytes n = n ≤ length bytes
GivenBy (Err BothLost) bytes n = ⊥
GivenBy (Err ConsoleFault) bytes n = ⊥

abbrev pub IfLost : Result Bool NodeNo → Type 0 → Type 0
IfLost (Ok true) P = P
IfLost (Ok false) P = Unit {0}
IfLost (Err why) P = Unit {0}

-- the answer of an act by which bytes were given
abbrev pub given_answer : Act → Result Bool NodeNo
given_answer act.Done = Ok false
given_answer act.Failed = Ok true
given_answer act.Halted = Err Halted

-- So many of these bytes were given on the line, and nothing was taken from it.
pub record HasGivenBytes (end : End) (bytes : List ℕ) (old new : View) (result : Result Bool NodeNo) : Type 0 where
  pub count : ℕ
  pub by_answer : GivenBy result bytes count
  pub given : given_now new end.line end.by.0 ≡ given_now old end.line end.by.0 ++ take count bytes
  pub taken : taken_now new end.line end.by.0 ≡ taken_now old end.line end.by.0
  pub waiting : (w : ℕ) → new.waiting w ≡ old.waiting w

-- A member gave the first of these bytes on its line.
pub record GivesBytes (told : Type 0) (end : End) (bytes : List ℕ) (old new : View) (result : Result Bool NodeNo)
    : Type 0 where
  pub acts : AreOnLine told end old new
  pub stops : StopsBeside result end.by.0 old new
  pub failed : IfLost result (HasLineFailed end.line old new)
  pub gave : told → HasGivenBytes end bytes old new result

-- TAKING

-- Where content is told these bytes were taken, which waited before all others.
pub record HasTakenBytes (told : Type 0) (end : End) (bytes : List ℕ) (old new : View) : Type 0 where
  pub taken : told → taken_now new end.line end.by.0 ≡ taken_now old end.line end.by.0 ++ bytes
  pub waited : told → old.waiting end.line ≡ bytes ++ new.waiting end.line
  pub given : told → given_now new end.line end.by.0 ≡ given_now old end.line end.by.0

-- none was left waiting, or there was no more room
abbrev pub TakesAll : Type 0 → End → ℕ → ℕ → View → Type 0
TakesAll told end room count new = told → (count ≡ room) ⊎ (new.waiting end.line ≡ [])

abbrev pub TookBy : Type 0 → End → List ℕ → View → View → Result Taken NodeNo → Type 0
TookBy told end into old new (Ok taken) = HasTakenBytes told end (take taken.count into) old new
    × (taken.lost ≡ true → HasLineFailed end.line old new)
    × (taken.lost ≡ false → TakesAll told end (length into) taken.count new)
TookBy told end into old new (Err why) = (bytes : List ℕ) × (length bytes ≤ length into)
    × HasTakenBytes told end bytes old new

-- A member took bytes from its line into these.
pub record TakesInto (told : Type 0) (end : End) (into : List ℕ) (old new : View) (result : Result Taken NodeNo)
    : Type 0 where
  pub acts : AreOnLine told end old new
  pub stops : StopsBeside result end.by.0 old new
  pub took : TookBy told end into old new result

-- HEARING

-- the reader's stream goes on by these bytes, and these are the frames that they complete
abbrev pub ReadsOn : Option (List ℕ) → Option (List ℕ) → List ℕ → List Frame → Type 0
ReadsOn was is bytes frames = HasFed was is bytes [] frames

-- What was taken, and read of it, by the answer. Of what a member took before it ended with an error so much is told.
abbrev pub HeardBy : Type 0 → End → List ℕ → View → View → Option (List ℕ) → Option (List ℕ) → List Frame
    → Result Bool NodeNo → Type 0
HeardBy told end bytes old new was is frames (Ok lost) = ReadsOn was is bytes frames × All IsFrame frames
    × (lost ≡ true → HasLineFailed end.line old new)
    × (lost ≡ false → TakesAll told end taken_most (length bytes) new)
HeardBy told end bytes old new was is frames (Err why) = Unit {0}

pub record IsHeard (told : Type 0) (end : End) (old new : View) (was is : Option (List ℕ)) (frames : List Frame)
    (result : Result Bool NodeNo) : Type 0 where
  pub acts : AreOnLine told end old new
  pub stops : StopsBeside result end.by.0 old new
  pub bytes : List ℕ
  pub few : length bytes ≤ taken_most
  pub took : HasTakenBytes told end bytes old new
  pub heard : HeardBy told end bytes old new was is frames result
