-- What a line leaves by which a member replaces a copy, for every answer.
use Rattle.std.specs.Prelude.{◌≡◌, ℕ, ◌≤◌, length, true, Option, Some, None, Result, Ok, Err, IsErrOf, OnOk}
use Rattle.mas_types.specs.declared.ids.Dev.{Dev}
use Rattle.mas_types.specs.declared.ids.MemberId.{MemberId}
use Rattle.spool_plant.specs.Acts.{Rose}
use Rattle.spool_plant.specs.View.{View}
use Rattle.spool_plant.specs.declared.plant.Part.TheVariants.{Disk as DiskPart}
use Rattle.spool_plant.specs.declared.plant.Plant.{Ghosts as PlantGhosts}
use Rattle.ckpt_copy.specs.declared.copying.Copying.{Ghosts as CopyGhosts}
use Rattle.ckpt_form.specs.declared.steady.Steady.{Ghosts as SteadyGhosts}
use Rattle.ckpt_tables.specs.Shape.{page_count}
use Rattle.mas_complex.specs.ReplaceNo.{ReplaceNo}
use Rattle.mas_complex.specs.ReplaceNo.TheVariants as no
use Rattle.duplex_pair.specs.Halves.{IsBothLost, IsCkpt, pick}
use Rattle.mas_complex.specs.Replacing.{IsFormed, Replaces, replace_stopped}
use Rattle.lock_cycle.specs.Books.{Book}
use Rattle.mas_complex.specs.declared.complex.Complex.{Complex}
use Rattle.mas_complex.specs.Elsewhere.{Elsewhere}
use Rattle.mas_complex.specs.Parts.{Parts, parts_of, replaced_in}
use Rattle.member_node.specs.declared.member.Member.{Member}
use Rattle.member_node.specs.declared.member.NodeNo.{NodeNo}
use Rattle.member_node.specs.declared.member.NodeNo.TheVariants.{BothLost, Halted, NoMemory}
use Rattle.member_sittings.specs.Gates.{IsAtGate, IsAtSeat}
use Rattle.member_sittings.specs.Whole.{IsSeat}
use Rattle.run_turns.specs.Admissions.{Replaces as ReplacesCopy}
use Rattle.run_turns.specs.Cuts.{Left, left_by}
use Rattle.run_turns.specs.Pieces.{holder_of, play_of}
use Rattle.run_turns.specs.Scenes.{Scene}
use Rattle.run_turns.specs.Sights.{Cut, LostAgain, NotLost, Renewed, Replaced, clear}
use Rattle.step_turns.specs.declared.states.Grant.{Grant}
use Rattle.step_turns.specs.declared.states.Grant.TheVariants.{ByLock, ForStep}
use Rattle.step_turns.specs.declared.states.Holder.{Holder}
use Rattle.step_turns.specs.declared.states.State.TheVariants.{Told}
use Rattle.step_turns.specs.Sittings.{released}
use Rattle.member_lines.specs.Closes.{HasSaid, IsTested, failed, stopped_so}
use Rattle.member_lines.specs.Locks.{SeatsBy}

-- WHAT IS FOUND of the copy, by the answer of the replacement; after the other answers the step doesn't close
abbrev pub found_of : Result (Unit {0}) ReplaceNo → Option Renewed
found_of (Ok value) = Some Replaced
found_of (Err no.NotLost) = Some NotLost
found_of (Err no.Failed) = Some LostAgain
found_of (Err no.BothLost) = None
found_of (Err no.Halted) = None
found_of (Err no.NoMemory) = None

-- the answer of a line whose step doesn't close, by that of the replacement
abbrev pub EndsAs : Result (Unit {0}) ReplaceNo → Result (Unit {0}) NodeNo → Type 0
EndsAs (Err no.BothLost) result = result ≡ failed BothLost
EndsAs (Err no.Halted) result = result ≡ failed Halted
EndsAs (Err no.NoMemory) result = result ≡ failed NoMemory
EndsAs (Err no.NotLost) result = ⊥
EndsAs (Err no.Failed) result = ⊥
EndsAs (Ok value) result = ⊥

-- what a line leaves that found this of the copy and was cut so
abbrev pub left_found : Scene → MemberId → ℕ → Dev → Renewed → Option Cut → Left
left_found S by at dev found cut =
    left_by by cut (play_of S by at (record clear { renewed = found }) (ReplacesCopy dev)) (S.counts by)

-- The line as it was tested at a scene: who holds the lock in it is this holder.
pub record IsTestedAs (S : Scene) (by : MemberId) (h : Holder) (dev : Dev) (b : Book) : Type 0 where
  pub tested : IsTested S by (ReplacesCopy dev) b
  pub holder : holder_of S by h.step (ReplacesCopy dev) ≡ h

-- The parts as they are, except that the base and its moment, the journal, what is reserved and in flight, the counts
-- of printed lines and the level are as they were. What the member noted is as it is: it may have read in the line.
abbrev pub replacing_in : {P C : Type 0} → Parts P C → Parts P C → Parts P C
replacing_in is was = record was {
  plant = is.plant;
  first_copy = is.first_copy;
  first_alive = is.first_alive;
  first_found = is.first_found;
  second_copy = is.second_copy;
  second_alive = is.second_alive;
  second_found = is.second_found;
  book = is.book;
  first = is.first;
  second = is.second;
  renewals = is.renewals;
  had = is.had;
}

module _ {P C : Type 0} (plants : PlantGhosts P) (copies : CopyGhosts C) where
  abbrev v : Parts P C → View
  v x = plants.view x.plant

  -- a member that got the lock for the line, or is at its seat by the operator's LOCK
  abbrev pub MayBeAt : Grant → Parts P C → Member → Type 0
  MayBeAt ForStep x m = IsAtGate plants copies x m
  MayBeAt ByLock x m = IsAtSeat plants copies x m

  -- The device has the size that the pages of the configuration need.
  abbrev pub IsLargeEnough : Parts P C → Dev → Type 0
  IsLargeEnough x dev = copies.needs (page_count x.base.config) ≤ (v x).size dev

  -- The copy was to be replaced, by a member at its seat. Each answer has its cause: the copy counted as alive,
  -- exactly; both counted as lost, exactly; the new device failed, and is lost. With Ok it counts as alive, and has all
  -- its room. The member has its seat still, so each copy that counts as alive reads its pages.
  pub record HasReplaced (m : Member) (dev : Dev) (x y : Parts P C) (answer : Result (Unit {0}) ReplaceNo) : Type 0
    where
      pub frame : y ≡ replaced_in answer dev (v x).now (v y).now y x
      pub replaces : Replaces m.id.0 dev (replace_stopped answer) (v x) (v y)
      pub alive : pick dev x.first_alive x.second_alive ≡ true → IsErrOf answer no.NotLost
      pub not_lost : IsErrOf answer no.NotLost → pick dev x.first_alive x.second_alive ≡ true
      pub dead : IsBothLost x.first_alive x.second_alive → IsErrOf answer no.BothLost
      pub both : IsErrOf answer no.BothLost → IsBothLost x.first_alive x.second_alive
      pub failed : IsErrOf answer no.Failed → Rose ((v x).faults (DiskPart dev)) ((v y).faults (DiskPart dev))
      pub lost : IsErrOf answer no.Failed → (v y).lost (DiskPart dev) ≡ true
      pub good : OnOk answer (pick dev y.first_alive y.second_alive ≡ true)
      pub formed : OnOk answer (IsFormed copies.count copies.room copies.room_most copies.ready
          (length m.checkpoint.pages) dev (v y) (pick dev y.first_copy y.second_copy))
      pub elsewhere : plants.tells → Elsewhere dev (v x) (v y)
      pub seat : IsSeat plants copies y m

  -- What follows the replacement. Where its answer closes the step the line is said, which changes nothing but the
  -- console, and then the lock is left as the step leaves it. Else nothing follows but that a member that was stopped
  -- is stopped in the book.
  abbrev pub FollowsBy : Option Renewed → Scene → MemberId → Holder → Dev → Result (Unit {0}) ReplaceNo → Parts P C
      → Parts P C → Result (Unit {0}) NodeNo → Type 0
  FollowsBy (Some found) S by h dev answer x y result =
      HasSaid plants (left_found S by h.step dev found) by (released h.grant h.hold 0 Told) x y result
  FollowsBy None S by h dev answer x y result = EndsAs answer result × (y ≡ stopped_so result by x)

  -- A member at its seat was to replace the copy, and went on by the answer.
  pub record HasGoneOn (S : Scene) (m : Member) (h : Holder) (dev : Dev) (x y : Parts P C)
      (result : Result (Unit {0}) NodeNo) : Type 0 where
    pub there : Parts P C
    pub answer : Result (Unit {0}) ReplaceNo
    pub replaced : HasReplaced m dev x there answer
    pub follows : FollowsBy (found_of answer) S m.id h dev answer there y result

-- OVER THE SHARED VALUE

module _ {P C : Type 0} {plants : PlantGhosts P} {steadies : SteadyGhosts C} {copies : CopyGhosts C} where
  -- The member may be given its seat, and knows how it came to the lock. The device is a copy's, of the size that the
  -- pages need.
  pub record MayReplace (x : Complex P C plants steadies copies) (m : Member) (h : Holder) (dev : Dev) : Type 0 where
    pub ckpt : IsCkpt dev
    pub at : MayBeAt plants copies h.grant (parts_of x) m
    pub size : IsLargeEnough plants copies (parts_of x) dev

  -- the member takes or keeps its seat
  abbrev pub MaySitDown : Grant → Complex P C plants steadies copies → Member → Type 0
  MaySitDown grant x m = MayBeAt plants copies grant (parts_of x) m

  -- a member at its seat
  abbrev pub IsSeated : Complex P C plants steadies copies → Member → Type 0
  IsSeated x m = IsSeat plants copies (parts_of x) m

  -- A member at its seat replaces a copy on a device of the size that the pages need.
  pub record MayRenew (x : Complex P C plants steadies copies) (m : Member) (dev : Dev) : Type 0 where
    pub ckpt : IsCkpt dev
    pub seat : IsSeated x m
    pub size : IsLargeEnough plants copies (parts_of x) dev

  abbrev pub WasReplaced : Member → Dev → Complex P C plants steadies copies → Complex P C plants steadies copies
      → Result (Unit {0}) ReplaceNo → Type 0
  WasReplaced m dev x y answer = HasReplaced plants copies m dev (parts_of x) (parts_of y) answer

  -- what follows at its seat, at any scene at which the line was tested so
  abbrev pub RenewsAndCloses : Member → Holder → Dev → Complex P C plants steadies copies
      → Complex P C plants steadies copies → Result (Unit {0}) NodeNo → Type 0
  RenewsAndCloses m h dev x y result = (S : Scene) → IsTestedAs S m.id h dev x.book
      → HasGoneOn plants copies S m h dev (parts_of x) (parts_of y) result

  -- the member's line, at any scene at which it was tested so
  abbrev pub ReplacesAndCloses : Member → Member → Holder → Dev → Complex P C plants steadies copies
      → Complex P C plants steadies copies → Result (Unit {0}) NodeNo → Type 0
  ReplacesAndCloses m n h dev x y result = (S : Scene) → IsTestedAs S m.id h dev x.book
      → SeatsBy plants copies (HasGoneOn plants copies S n h dev) m n (parts_of x) (parts_of y) result
