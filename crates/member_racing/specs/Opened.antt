-- What a turn of a line did before it was ended, by where the line stood, and by what becomes of it where it is opened.
use Rattle.std.specs.Prelude.{◌≡◌, ◌⊎◌, ℕ, ◌≤◌, true, false, [], length, Option, Some, None, Result, Ok, Err, IfOk}
use Rattle.mas_types.specs.declared.answers.Closing.{Closing}
use Rattle.mas_types.specs.declared.ids.MemberId.{MemberId}
use Rattle.lock_cycle.specs.Books.{Book, after_try}
use Rattle.spool_plant.specs.declared.plant.Plant.{Ghosts as PlantGhosts}
use Rattle.ckpt_copy.specs.declared.copying.Copying.{Ghosts as CopyGhosts}
use Rattle.ckpt_form.specs.declared.steady.Steady.{Ghosts as SteadyGhosts}
use Rattle.duplex_pair.specs.Halves.{IsBothLost, SomeAlive}
use Rattle.mas_complex.specs.declared.complex.Complex.{Complex}
use Rattle.mas_race.specs.Between.{is_held}
use Rattle.mas_complex.specs.Parts.{Parts, parts_of}
use Rattle.run_turns.specs.Admissions.{Admission, Denied, Frees, Locks, Plays, Refused, Replaces, Resets, TakesOver, Unplayed, admitted}
use Rattle.run_turns.specs.Scenes.{Scene}
use Rattle.race_turns.specs.Turns.{left_holder, racer}
use Rattle.step_turns.specs.declared.states.State.TheVariants.{Fresh}
use Rattle.member_node.specs.Drawn.{AreDrawn}
use Rattle.member_node.specs.declared.member.Member.{Member}
use Rattle.member_node.specs.declared.member.NodeNo.{NodeNo}
use Rattle.member_node.specs.declared.member.NodeNo.TheVariants as no_node
use Rattle.member_lines.specs.Closes.{HasClosed, IsTested, stopped_so}
use Rattle.member_sittings.specs.Sat.{begins}
use Rattle.member_racing.specs.Kinds.{ActsBy, SitsBy, TakesBy, TakesTurnOf}
use Rattle.member_resets.specs.Resetting.{HasResetBy, TakesBy as ClosesTaken}
use Rattle.member_racing.specs.Stages.{Raced, Stood, stood_of}
use Rattle.member_racing.specs.declared.stages.Stage.{Stage as Stands}
use Rattle.member_racing.specs.declared.stages.Stage.TheVariants as line

-- the answer, whatever stage the line comes to
abbrev pub done_of : Result Stands NodeNo → Result (Unit {0}) NodeNo
done_of (Ok s) = Ok tt
done_of (Err e) = Err e

-- with Ok the line comes to this stage
abbrev pub ComesTo : Stands → Result Stands NodeNo → Type 0
ComesTo s result = IfOk result (λ next. next ≡ s)

-- asked of the stopped member that holds the lock, if one does
abbrev pub IfLeft : Option MemberId → (MemberId → Type 0) → Type 0
IfLeft None A = Unit {0}
IfLeft (Some of) A = A of

-- a member of the same number with nothing in hand, which reads all pages anew
pub record ReadsAnew (m n : Member) : Type 0 where
  pub id : n.id ≡ m.id
  pub batch : n.batch ≡ []
  pub room : length n.room ≡ length n.checkpoint.pages
  pub fresh : n.fresh ≡ true

-- with the tables that it had
pub record IsKeptAnew (m n : Member) : Type 0 where
  pub anew : ReadsAnew m n
  pub checkpoint : n.checkpoint ≡ m.checkpoint

-- with the tables of an empty queue
pub record IsBlankFor (m n : Member) : Type 0 where
  pub anew : ReadsAnew m n
  pub config : n.checkpoint.tables.config ≡ m.checkpoint.tables.config
  pub drawn : AreDrawn n.checkpoint.tables n.checkpoint.level n.checkpoint.levels n.checkpoint.pages

-- who holds the lock is one of the members
abbrev pub IsSeated : Book → Type 0
IsSeated b = b.holder.0 ≤ length b.members

-- the lock was tried for
abbrev pub tried : {P C : Type 0} → MemberId → Parts P C → Parts P C
tried by x = record x { book = after_try x.book by false }

module _ {P C : Type 0} (plants : PlantGhosts P) (copies : CopyGhosts C) where
  -- the line was closed before any try of the lock, by whoever says so
  pub record ClosesRefused (r : Raced) (sayer : MemberId) (end : Closing) (x y : Parts P C)
      (result : Result Stands NodeNo) : Type 0 where
    pub frame : y ≡ stopped_so (done_of result) r.by (record x { plant = y.plant })
    pub closed : (S : Scene) → IsTested S r.by (Refused sayer end) x.book
        → HasClosed plants S r.by r.number (Refused sayer end) sayer x y (done_of result)
    pub next : ComesTo line.Closed result

  -- a stopped member holds the lock: it is taken over, and the line stands as it stood
  pub record TakesUp (r : Stood) (of : MemberId) (x y : Parts P C) (result : Result Stands NodeNo) : Type 0 where
    pub takes : TakesBy plants copies r.by r.number of x y (done_of result)
    pub next : ComesTo r.stands result

  -- nobody does: the try was refused, and that is all
  pub record WaitsOn (r : Stood) (x y : Parts P C) (result : Result Stands NodeNo) : Type 0 where
    pub frame : y ≡ x
    pub answer : result ≡ Ok r.stands

  abbrev pub UnlessLeft : Option MemberId → Stood → Parts P C → Parts P C → Result Stands NodeNo → Type 0 → Type 0
  UnlessLeft None r x y result A = A
  UnlessLeft (Some of) r x y result A = TakesUp r of x y result

  -- a line that can't go on yet
  abbrev pub WaitsFor : Stood → Option MemberId → Parts P C → Parts P C → Result Stands NodeNo → Type 0
  WaitsFor r left x y result = UnlessLeft left r x y result (WaitsOn r x y result)

  module _ (r : Raced) (x y : Parts P C) (m n : Member) (result : Result Stands NodeNo) where
    abbrev pub OpensAs : Admission → Type 0
    OpensAs (Refused sayer end) = ClosesRefused r sayer end x y result
    OpensAs (Denied why) = WaitsFor (stood_of r) (left_holder x.book) (tried r.by x) y result
    OpensAs (Plays task) =
        SitsBy plants copies (begins (racer x.base.config r.by r.number) (Fresh task)) (tried r.by x) y n result
    OpensAs (Resets of) = ComesTo line.Closed result × HasResetBy plants copies (racer x.base.config r.by r.number) of
        (tried r.by x) y (length m.room) (done_of result)
    OpensAs (TakesOver of) = ComesTo line.Closed result
        × ClosesTaken plants copies r.by r.number of x y (length m.room) (done_of result)
    OpensAs (Replaces dev) = ⊥
    OpensAs Locks = ⊥
    OpensAs Frees = ⊥
    OpensAs Unplayed = ⊥

    abbrev pub GoesAs : Stands → Type 0
    GoesAs line.Opens = OpensAs (admitted x.base.config x.book r.by r.what)
    GoesAs (line.Sits s) = UnlessLeft (left_holder x.book) (stood_of r) x y result
        (SitsBy plants copies (record { holder = s.holder; state = s.state; found = s.found }) x y n result)
    GoesAs (line.Acts s) = UnlessLeft (left_holder x.book) (stood_of r) x y result
        (ActsBy plants copies x y m s result × (n ≡ m))
    GoesAs line.Closed = WaitsOn (stood_of r) x y result

  -- nothing was done: both copies are lost; or one counts as alive, and the level is too high, another's race ended
  -- as it held the lock, or there was no memory for what is to be played
  pub record IsIdleTurn (x y : Parts P C) (m n : Member) (result : Result Stands NodeNo) : Type 0 where
    pub frame : y ≡ x
    pub member : n.id ≡ m.id
    pub answer : ((result ≡ Err no_node.BothLost) × IsBothLost x.first_alive x.second_alive)
        ⊎ ((result ≡ Err no_node.NoMemory) × SomeAlive x.first_alive x.second_alive)

  -- else a copy counts as alive, nobody held who isn't stopped, and the turn went by where the line stood
  abbrev pub TriesBy : Raced → Parts P C → Parts P C → Member → Member → Result Stands NodeNo → Type 0
  TriesBy r x y m n result = IsIdleTurn x y m n result
      ⊎ (SomeAlive x.first_alive x.second_alive × (is_held x.book ≡ false) × GoesAs r x y m n result r.stands)

-- a line that waits for acts still has the tables of its member for them
abbrev pub KeepsActing : Stands → Stands → Member → Member → Type 0
KeepsActing (line.Acts s) (line.Acts t) m n = n.checkpoint ≡ m.checkpoint
KeepsActing _ _ m n = Unit {0}

-- OVER THE SHARED VALUE

module _ {P C : Type 0} {plants : PlantGhosts P} {steadies : SteadyGhosts C} {copies : CopyGhosts C} where
  -- what a turn did before it was ended
  abbrev pub Tries : Raced → Complex P C plants steadies copies → Complex P C plants steadies copies → Member → Member
      → Result Stands NodeNo → Type 0
  Tries r x y m n result = TriesBy plants copies r (parts_of x) (parts_of y) m n result

  -- a line that can't go on yet, where this stopped member holds the lock, if one does
  abbrev pub WaitsTurn : Stood → Complex P C plants steadies copies → Complex P C plants steadies copies
      → Result Stands NodeNo → Type 0
  WaitsTurn r x y result = WaitsFor plants copies r (left_holder x.book) (parts_of x) (parts_of y) result

  -- nothing was done, for want of memory; or the lock was taken over
  abbrev pub TakesBeside : ℕ → MemberId → Complex P C plants steadies copies → Complex P C plants steadies copies
      → Member → Member → Result (Unit {0}) NodeNo → Type 0
  TakesBeside at of x y m n result = ((parts_of y ≡ parts_of x) × (n.id ≡ m.id) × (result ≡ Err no_node.NoMemory))
      ⊎ TakesTurnOf m.id at of x y result
