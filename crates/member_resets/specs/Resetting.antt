-- What a line leaves that resets a stopped member, for every answer: by one that has the lock, or takes it over first.
use Rattle.std.specs.Prelude.{◌≡◌, ◌≢◌, ◌⊎◌, ℕ, ◌+◌, ◌≤◌, ◌<◌, if◌then◌else◌, Bool, false, true, List, length, Option, Result, Ok, Err, ◌++◌, All}
use Rattle.mas_types.specs.declared.commands.Command.TheVariants as command
use Rattle.mas_types.specs.declared.ids.Dev.TheVariants.{Ckpt1, Ckpt2}
use Rattle.mas_types.specs.declared.ids.MemberId.{MemberId}
use Rattle.mas_types.specs.declared.journals.Fate.{Fate}
use Rattle.mas_types.specs.declared.journals.Fate.TheVariants.{Flying}
use Rattle.mas_types.specs.Fit.{IsConfig}
use Rattle.mas_types.specs.Limits.{members_most}
use Rattle.mas_types.specs.Queue.{is_member}
use Rattle.mas_types.specs.Sound.{IsSound}
use Rattle.lock_cycle.specs.Books.{Book, IsMember, after_seize, after_stop, is_holder, is_stopped, left_of}
use Rattle.spool_plant.specs.View.{View}
use Rattle.spool_plant.specs.Acts.{Rose, SameWires}
use Rattle.spool_plant.specs.declared.plant.Plant.{Ghosts as PlantGhosts}
use Rattle.spool_volumes.specs.Volumes.{AreRoomy}
use Rattle.ckpt_copy.specs.declared.copying.Copying.{Ghosts as CopyGhosts}
use Rattle.ckpt_form.specs.declared.steady.Steady.{Ghosts as SteadyGhosts}
use Rattle.ckpt_tables.specs.Shape.{page_count}
use Rattle.duplex_pair.specs.Halves.{IsBothLost, SomeAlive}
use Rattle.mas_complex.specs.declared.complex.Complex.{Complex}
use Rattle.ckpt_places.specs.declared.places.Place.TheVariants.{Before}
use Rattle.mas_complex.specs.CallCounts.{IsLostOnce, KeepsCounts, pair_state}
use Rattle.mas_complex.specs.Elsewhere.{OnCopies}
use Rattle.mas_complex.specs.Journals.{in_flight}
use Rattle.mas_complex.specs.Locking.{IsOperatorAway}
use Rattle.mas_complex.specs.Paper.{SamePapers, counts_of}
use Rattle.mas_complex.specs.Parts.{Parts, parts_of}
use Rattle.warm_start.specs.declared.takeovers.TakeNo.{TakeNo}
use Rattle.warm_start.specs.declared.takeovers.TakeNo.TheVariants as take_no
use Rattle.member_node.specs.declared.member.Member.{Member}
use Rattle.member_node.specs.declared.member.NodeNo.{NodeNo}
use Rattle.member_node.specs.declared.member.NodeNo.TheVariants as no_node
use Rattle.member_node.specs.Calls.{IsOnlyOn, VolumesStay, none_lost}
use Rattle.member_node.specs.Reads.{too_high}
use Rattle.member_node.specs.Spares.{is_stop}
use Rattle.member_steps.specs.Steps.{AreKeptFrom}
use Rattle.member_node.specs.Wanted.{HasHad}
use Rattle.member_sittings.specs.Sat.{begins, journal_of}
use Rattle.member_sittings.specs.Whole.{HasUntold, IsGivable, queue_of}
use Rattle.step_turns.specs.declared.states.Grant.TheVariants.{ForStep}
use Rattle.step_turns.specs.declared.states.Holder.{Holder}
use Rattle.step_turns.specs.declared.states.State.{State}
use Rattle.step_turns.specs.declared.states.State.TheVariants.{Fresh}
use Rattle.step_turns.specs.declared.states.Task.TheVariants.{Give}
use Rattle.member_hand.specs.Cuts.{AtCut, IsBetweenSittings, IsBroken, IsTight}
use Rattle.member_hand.specs.Plays.{HasActedIn, HasCut, HoldsOn, IsAfterStep, Writes, left_of as left_at, stopped_by}
use Rattle.member_hand.specs.Quiet.{IsAside, IsIdle, IsQuiet, MayGoOn, levels_for}
use Rattle.run_turns.specs.Pieces.{Piece, reset_pieces}
use Rattle.run_turns.specs.Sights.{Cut}
use Rattle.member_resets.specs.Settling.{IfRuns, IsResetPiece, ended_as, settle}
use Rattle.member_resets.specs.WhyLost.{IsWhyLost}
use Rattle.member_hand.specs.Standing.{StandsIn}

-- the state in which a line begins that resets this member
abbrev pub reset_begins : MemberId → State
reset_begins of = Fresh (Give (command.Reset of))

-- an error of a takeover that took the lock over
abbrev pub IsUnfound : TakeNo → Type 0
IsUnfound take_no.StillUp = ⊥
IsUnfound take_no.NotHolder = ⊥
IsUnfound _ = Unit {0}

-- what a line answers of it: without memory, where no copy counts as alive either, both are lost
abbrev pub node_no : Bool → TakeNo → NodeNo
node_no some take_no.BothLost = no_node.BothLost
node_no some take_no.Halted = no_node.Halted
node_no some _ = if some then no_node.NoMemory else no_node.BothLost

-- the book then: only a member that was stopped is stopped there
abbrev pub untaken_book : NodeNo → MemberId → MemberId → Book → Book
untaken_book no_node.Halted by of b = after_stop (after_seize b by of) by
untaken_book _ by of b = after_seize b by of

-- both copies are before any batch
abbrev pub rested_in : {P C : Type 0} → Parts P C → Parts P C
rested_in x = record x { first = Before; second = Before }

-- each copy was lost by a call once at most, and counts as lost then
pub record AreLostOnce {P C : Type 0} (plants : PlantGhosts P) (x y : Parts P C) : Type 0 where
  pub first : IsLostOnce x.first_alive y.first_alive ((plants.view x.plant).loses Ckpt1)
      ((plants.view y.plant).loses Ckpt1)
  pub second : IsLostOnce x.second_alive y.second_alive ((plants.view x.plant).loses Ckpt2)
      ((plants.view y.plant).loses Ckpt2)

module _ {P C : Type 0} (plants : PlantGhosts P) (copies : CopyGhosts C) where
  abbrev v : Parts P C → View
  v x = plants.view x.plant

  -- WITH THE LOCK

  -- The member has the lock, and may give a reset.
  pub record MayResetAt (x : Parts P C) (m : Member) (h : Holder) (of : MemberId) : Type 0 where
    pub goes : MayGoOn plants copies x m h (reset_begins of)
    pub holds : x.book.holder ≡ h.by
    pub givable : IsGivable x.base m.id (command.Reset of)
    pub few : of.0 ≤ members_most

  -- Where content is told the piece is the one that the queue gives, and its line stands as far as the cut says.
  pub record HasToldReset (h : Holder) (of : MemberId) (x y : Parts P C) (result : Result (Unit {0}) NodeNo) : Type 0
    where
      pub pieces : List Piece
      pub is : pieces ≡ reset_pieces (queue_of x) h of
      pub cut : Option Cut
      pub left : HasCut plants copies h pieces cut x y result
      pub tight : AtCut (IsTight (ended_as result)) cut pieces
      pub broke : AtCut (IsBroken (ended_as result)) cut pieces
      pub writes : Writes plants copies h.by (left_at plants copies h.by cut pieces x) x y result

  -- Whether content is told or not there is a piece of a reset, and a cut of it, so that this is what the line left in
  -- the journal and the book. A copy was lost by a call once at most; each volume is lost where it was, and no fault of
  -- it is counted. No other member's count of printed lines differs.
  pub record HasResetBy (h : Holder) (of : MemberId) (x y : Parts P C) (pages : ℕ) (result : Result (Unit {0}) NodeNo)
      : Type 0 where
    pub pieces : List Piece
    pub shaped : IsResetPiece h of pieces
    pub cut : Option Cut
    pub played : HasCut plants copies h pieces cut x y result
    pub tight : AtCut (IsTight (ended_as result)) cut pieces
    pub acts : HasActedIn plants copies h.by x y result
    pub counts : (m : MemberId) → m ≢ h.by → counts_of y.printed m ≡ counts_of x.printed m
    pub once : AreLostOnce plants x y
    pub volumes : VolumesStay none_lost (v x) (v y)
    pub others : plants.tells → IsOnlyOn (v x) (v y)
    pub papers : plants.tells → SamePapers (v x) (v y)
    pub wires : plants.tells → SameWires (v x) (v y)
    pub quiet : IsBetweenSittings cut → IsQuiet plants copies y pages
    pub away : IsOperatorAway y.book y.reserved y.current
    pub told : plants.tells → HasToldReset h of x y result

  -- WITH THE LOCK OF A STOPPED MEMBER

  -- A member that is up, and idle with the pages that it noted, may take the lock over that a stopped member holds, and
  -- then reset that.
  pub record MayTakeAt (x : Parts P C) (m : Member) (at : ℕ) (of : MemberId) : Type 0 where
    pub stands : StandsIn x.batches x.placed x.book x.current
    pub idle : IsIdle m
    pub noted : HasHad plants.tells m.fresh x.had m.id.0 m.checkpoint.pages
    pub config : x.base.config ≡ m.checkpoint.tables.config
    pub fits : IsConfig x.base.config
    pub some : 1 ≤ m.id.0
    pub least : m.id.0 ≤ members_most
    pub member : is_member x.base.config m.id ≡ true
    pub seated : IsMember x.book m.id
    pub up : is_stopped x.book m.id ≡ false
    pub of_seated : IsMember x.book of
    pub of_stopped : is_stopped x.book of ≡ true
    pub of_holds : is_holder x.book of ≡ true
    pub few : of.0 ≤ members_most
    pub base_sound : plants.tells → IsSound x.base
    pub roomy : plants.tells → AreRoomy (v x) x.base.config
    pub untold : HasUntold plants copies x m.id at
    pub step : AreKeptFrom m.id at (x.batches ++ in_flight x.current) (v x).now
    pub begun : x.since ≤ (v x).now
    pub givable : IsGivable x.base m.id (command.Reset of)
    -- a batch that is kept raises the level by one
    pub level : x.level + 1 + levels_for (reset_begins of) + 3 < too_high

  -- the cause of a takeover's error
  abbrev pub TakeCauses : NodeNo → MemberId → Parts P C → Parts P C → Type 0
  TakeCauses no_node.BothLost by x y = IsBothLost y.first_alive y.second_alive
  TakeCauses no_node.Halted by x y = Rose ((v x).stops by.0) ((v y).stops by.0)
  TakeCauses no_node.NoMemory by x y = Unit {0}
  TakeCauses no_node.ConsoleFault by x y = ⊥

  -- a copy counts as alive, unless both are lost by the answer
  abbrev pub CopiesLeft : NodeNo → Parts P C → Type 0
  CopiesLeft no_node.Halted y = SomeAlive y.first_alive y.second_alive
  CopiesLeft no_node.NoMemory y = SomeAlive y.first_alive y.second_alive
  CopiesLeft no_node.BothLost y = Unit {0}
  CopiesLeft no_node.ConsoleFault y = Unit {0}

  -- The lock was taken over, and nothing was found out of a batch in flight: acts on the copies alone, with the cause
  -- of their answer. Nobody noted any pages. A member that was stopped in them is stopped in the book, and holds the
  -- lock.
  pub record IsUntaken (by of : MemberId) (x y : Parts P C) (e : NodeNo) : Type 0 where
    pub counts : KeepsCounts by.0 (is_stop e) (pair_state plants.view x) (pair_state plants.view y)
    pub apart : plants.tells → OnCopies (v x) (v y)
    pub cause : TakeCauses e by x y
    pub some : CopiesLeft e y
    pub journal : journal_of y ≡ journal_of x
    pub current : y.current ≡ x.current
    pub printed : y.printed ≡ x.printed
    pub had : y.had ≡ x.had
    pub book : y.book ≡ untaken_book e by of x.book
    pub stands : IfRuns {T = Unit {0}} (Err e) (StandsIn y.batches y.placed y.book y.current)

  -- The lock was taken over, and this was found of a batch in flight, if one was: it is kept or dropped. The copies
  -- are at rest then, and each that counts as alive has the pages of the configuration. A batch that is kept raises the
  -- level by one. Nobody noted any pages. A copy was lost only where an act on it failed, or it couldn't stay beside
  -- the pages found.
  pub record IsTaken (by of : MemberId) (x y : Parts P C) (found : Fate) : Type 0 where
    pub counts : KeepsCounts by.0 false (pair_state plants.view x) (pair_state plants.view y)
    pub apart : plants.tells → OnCopies (v x) (v y)
    pub fated : found ≢ Flying
    pub journal : journal_of y ≡ settle found (v y).now (journal_of x)
    pub printed : y.printed ≡ x.printed
    pub had : y.had ≡ x.had
    pub book : y.book ≡ after_seize x.book by of
    pub quiet : IsQuiet plants copies y (page_count x.base.config)
    pub level : y.level ≤ x.level + 1
    pub some : SomeAlive y.first_alive y.second_alive
    pub left1 : plants.tells → x.first_alive ≡ true → y.first_alive ≡ false
        → IsWhyLost copies.reads found Ckpt1 Ckpt2 (v x) (v y)
    pub left2 : plants.tells → x.second_alive ≡ true → y.second_alive ≡ false
        → IsWhyLost copies.reads found Ckpt2 Ckpt1 (v x) (v y)

  -- who holds the lock that was taken over, in this line
  abbrev pub taker_at : MemberId → ℕ → Parts P C → Holder
  taker_at by at y = record { by = by; step = at; hold = left_of y.book by; grant = ForStep }

  pub record TakesAndResets (by : MemberId) (at : ℕ) (of : MemberId) (x y : Parts P C) (pages : ℕ)
      (result : Result (Unit {0}) NodeNo) : Type 0 where
    pub mid : Parts P C
    pub found : Fate
    pub taken : IsTaken by of x mid found
    pub base : mid.base ≡ x.base
    pub since : mid.since ≡ x.since
    pub renewals : mid.renewals ≡ x.renewals
    pub reset : HasResetBy (taker_at by at mid) of mid y pages result

  abbrev pub TakesBy : MemberId → ℕ → MemberId → Parts P C → Parts P C → ℕ → Result (Unit {0}) NodeNo → Type 0
  TakesBy by at of x y pages (Ok done) = TakesAndResets by at of x y pages (Ok done)
  TakesBy by at of x y pages (Err e) = IsUntaken by of x y e ⊎ TakesAndResets by at of x y pages (Err e)

-- OVER THE SHARED VALUE

module _ {P C : Type 0} {plants : PlantGhosts P} {steadies : SteadyGhosts C} {copies : CopyGhosts C} where
  abbrev pub MayReset : Complex P C plants steadies copies → Member → Holder → MemberId → Type 0
  MayReset x m h of = MayResetAt plants copies (parts_of x) m h of

  abbrev pub HasReset : Complex P C plants steadies copies → Complex P C plants steadies copies → Member → Holder
      → MemberId → Result (Unit {0}) NodeNo → Type 0
  HasReset x y m h of result = HasResetBy plants copies h of (parts_of x) (parts_of y) (length m.room) result

  -- what a reset left that ended with an error, once its member is stopped in the book where it was halted
  abbrev pub StopsReset : Complex P C plants steadies copies → Complex P C plants steadies copies → Member → Holder
      → MemberId → NodeNo → Type 0
  StopsReset x y m h of e = HasResetBy plants copies h of (parts_of x) (stopped_by e h.by (parts_of y))
      (length m.room) (Err e)

  abbrev pub MayTakeOver : Complex P C plants steadies copies → Member → ℕ → MemberId → Type 0
  MayTakeOver x m at of = MayTakeAt plants copies (parts_of x) m at of

  -- before a takeover: a batch in flight is of a stopped member
  pub record StandsBetween (x : Complex P C plants steadies copies) : Type 0 where
    pub stands : StandsIn (parts_of x).batches (parts_of x).placed (parts_of x).book (parts_of x).current
    pub begun : x.since ≤ (plants.view x.plant).now
    pub base_sound : plants.tells → IsSound x.base
    pub roomy : plants.tells → AreRoomy (plants.view x.plant) x.base.config

  -- the lock was taken over, or nothing was found out of a batch in flight
  abbrev pub TookLock : Complex P C plants steadies copies → Complex P C plants steadies copies → MemberId → MemberId
      → Type 0
  TookLock x y by of = (found : Fate) × IsTaken plants copies by of (parts_of x) (parts_of y) found

  abbrev pub TookNone : Complex P C plants steadies copies → Complex P C plants steadies copies → MemberId → MemberId
      → NodeNo → Type 0
  TookNone x y by of e = IsUntaken plants copies by of (parts_of x) (parts_of y) e

  abbrev pub HasTakenOver : Complex P C plants steadies copies → Complex P C plants steadies copies → Member → ℕ
      → MemberId → Result (Unit {0}) NodeNo → Type 0
  HasTakenOver x y m at of result = TakesBy plants copies m.id at of (parts_of x) (parts_of y) (length m.room) result

  -- between two lines the member is as after a step of a command
  abbrev pub IsAfterReset : Complex P C plants steadies copies → Complex P C plants steadies copies → Member → Member
      → Holder → MemberId → Type 0
  IsAfterReset x y m n h of = IsAfterStep x y m n (begins h (reset_begins of))

  -- what a line leaves in which the member took the lock over: it is aside, with as much room, and holds on
  pub record IsAfterTakeover (x y : Complex P C plants steadies copies) (m n : Member) : Type 0 where
    pub aside : IsAside plants copies (parts_of y) n
    pub room : length n.room ≡ length m.room
    pub seat : HoldsOn m.id y n
