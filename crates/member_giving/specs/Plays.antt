-- What a sitting of work does from a place within it: what it writes, the state that it leaves, and its lines.
use Rattle.member_giving.specs.Names.{Command, MemberId, Entry, SamePapers, HasCounted, OtherNotesStay, AreOf, batch_of, cut, cut_after, is_full, all_entries, given_in, Holder, State, Turn, is_spent, SittingEnd}
use Rattle.std.specs.Prelude.{◌≡◌, ◌⊎◌, ℕ, zero, suc, ◌+◌, ◌≤◌, Bool, false, if◌then◌else◌, List, [], ◌∷◌, ◌++◌, length, All, Result, Ok, Err, IfOk, OnOk}
use Rattle.mas_types.specs.declared.ids.Dev.{Dev}
use Rattle.mas_types.specs.declared.journals.Batch.{Batch}
use Rattle.mas_types.specs.Run.{run}
use Rattle.spool_plant.specs.Acts.{SameWires}
use Rattle.member_node.specs.declared.member.NodeNo.{NodeNo}
use Rattle.member_node.specs.declared.member.NodeNo.TheVariants.{BothLost, ConsoleFault, Halted}
use Rattle.member_node.specs.Calls.{Course, IsOnlyOn, console_now}
use Rattle.member_node.specs.Spares.{Spares, stopped_in}
use Rattle.member_steps.specs.Saying.{HasSaid}
use Rattle.member_steps.specs.Steps.{StepCauses}
use Rattle.member_decks.specs.Batches.{AreAll, HasAll, IsCut, IsFlyingBatch, IsFront, IsKeptBatch}
use Rattle.job_outcome.specs.declared.outcomes.Outcome.{Outcome}
use Rattle.job_outcome.specs.declared.outcomes.Outcome.TheVariants as outcome
use Rattle.job_outcome.specs.declared.units.UnitEnd.{UnitEnd}
use Rattle.step_turns.specs.Courses.{sittings_most}
use Rattle.step_turns.specs.Sittings.{released}
use Rattle.step_turns.specs.declared.states.Found.{Found}
use Rattle.member_asides.specs.Left.{bare}
use Rattle.member_asides.specs.Shapes.{MayRefuseBy, SaysAtEnd, WorkLines}
use Rattle.member_giving.specs.Works.{Outside, Place, pair_seen}

-- the batches that it writes, the state that it leaves, and the lines with which the step closes
pub record Wrote : Type 0 where
  pub batches : List (List Entry)
  pub next : State
  pub lines : List (List ℕ)

-- what a sitting writes, where these entries aren't written yet and this turn is still to come
abbrev pub wrote_of : List Entry → Turn → Wrote
wrote_of so_far t = record { batches = cut so_far t.parts; next = t.next; lines = t.lines }

-- what a sitting writes after a whole part: what isn't written is written first where it is a full batch
abbrev pub wrote_after : List Entry → Turn → Wrote
wrote_after es t = record {
  batches = cut_after es (λ unwritten. cut unwritten t.parts);
  next = t.next;
  lines
      = t.lines;
}

abbrev pub full_of : List Entry → List (List Entry)
full_of es = if is_full es then es ∷ [] else []

abbrev pub after_full : List Entry → List Entry
after_full es = if is_full es then [] else es

-- whether a sitting ends between two units, where so many may follow, after so many commands
abbrev pub rests : Holder → ℕ → ℕ → Bool
rests h zero given = false
rests h (suc left) given = is_spent h.grant h.hold given

-- HOW FAR A CALL CAME

-- a batch may be in flight after this error
abbrev pub MayFly : NodeNo → Type 0
MayFly BothLost = Unit {0}
MayFly Halted = Unit {0}
MayFly _ = ⊥

-- the last batch after an error has the first entries of this one, but not all, or it is in flight
abbrev pub LeavesLast : NodeNo → MemberId → List Entry → ℕ → ℕ → Batch → Type 0
LeavesLast why by es from now b = ((first : List Entry) × IsCut first es × IsKeptBatch by first from now b)
    ⊎ (MayFly why × (first : List Entry) × IsFront first es × IsFlyingBatch by first from now b)

-- the first batches of these are kept, and of the next one perhaps what was done of it
abbrev pub LeavesFirst : NodeNo → MemberId → ℕ → ℕ → List (List Entry) → List Batch → Type 0
LeavesFirst why by from now ess [] = Unit {0}
LeavesFirst why by from now [] (b ∷ bs) = ⊥
LeavesFirst why by from now (es ∷ ess) (b ∷ bs) = (IsKeptBatch by es from now b
    × LeavesFirst why by b.last now ess bs) ⊎ ((bs ≡ []) × LeavesLast why by es from now b)

-- All batches are kept where the line is said, or where the console failed at it. After another error the first ones
-- are.
abbrev pub WorkLeaves : Result (Unit {0}) NodeNo → MemberId → ℕ → ℕ → List (List Entry) → List Batch → Type 0
WorkLeaves (Ok done) by from now ess bs = AreAll by from now ess bs
WorkLeaves (Err ConsoleFault) by from now ess bs = AreAll by from now ess bs
WorkLeaves (Err why) by from now ess bs = LeavesFirst why by from now ess bs

-- A CALL THAT KEEPS BATCHES, or with which the step closes, by what others see before it and after it

-- the entries of batches, and lines
pub record Closed : Type 0 where
  pub batches : List (List Entry)
  pub lines : List (List ℕ)

abbrev pub closed : List (List Entry) → List (List ℕ) → Closed
closed ess lines = record { batches = ess; lines = lines }

-- the step closes with these lines once batches with these entries are kept, one after another
pub record IsClosing (told : Type 0) (by : MemberId) (w : Closed) (old new : Outside)
    (result : Result (Unit {0}) NodeNo) : Type 0 where
  pub course : Course (pair_seen old) (pair_seen new)
  pub loses : told → (d : Dev) → new.view.loses d ≡ old.view.loses d
  pub cause : StepCauses result by.0 (pair_seen old) (pair_seen new)
  pub spares : Spares by.0 (stopped_in result) old.view new.view
  pub rest : List Batch
  pub batches_are : new.batches ≡ old.batches ++ rest
  pub journal : WorkLeaves result by old.view.now new.view.now w.batches rest
  pub console : told → HasSaid (HasAll by old.view.now new.view.now w.batches old.batches new.batches) w.lines
      (console_now old.view) (console_now new.view) result

-- batches with these entries are kept, one after another, and nothing is said; so the console doesn't fail
pub record IsKeeping (told : Type 0) (by : MemberId) (ess : List (List Entry)) (old new : Outside)
    (result : Result (Unit {0}) NodeNo) : Type 0 where
  pub closes : IsClosing told by (closed ess []) old new result
  pub silent : result ≡ Err ConsoleFault → ⊥

abbrev pub Keeps : {T : Type 0} → Type 0 → MemberId → List (List Entry) → Outside → Outside → Result T NodeNo → Type 0
Keeps told by ess old new r = IsKeeping told by ess old new (bare r)

abbrev pub Closes : {T : Type 0} → Type 0 → MemberId → Wrote → Outside → Outside → Result T NodeNo → Type 0
Closes told by w old new r = IsClosing told by (closed w.batches w.lines) old new (bare r)

-- Where content is told no volume is written, nothing is printed, and nothing moves on a line to another node. What
-- every other member noted is as it was.
pub record SparesOthers (told : Type 0) (by : MemberId) (old new : Outside) : Type 0 where
  pub others : told → IsOnlyOn old.view new.view
  pub papers : told → SamePapers old.view new.view
  pub wires : told → SameWires old.view new.view
  pub notes : OtherNotesStay by old.had new.had

-- A sitting that is out of memory: what wasn't written of it is kept, if there is memory for that.
pub record GivesUp (told : Type 0) (by : MemberId) (es : List Entry) (old new : Outside) (why : NodeNo) : Type 0 where
  pub keeps : Keeps {T = Unit {0}} told by (batch_of es) old new (Err why)
  pub counts : HasCounted {T = Unit {0}} by [] old.printed new.printed (Err why)
  pub spares : SparesOthers told by old new

-- WHAT A SITTING MAY COME TO on every plant

-- batches and sittings that may follow, so many together at most; and how the step may close: by so many units, and by
-- what was found
pub record Bounds : Type 0 where
  pub most : ℕ
  pub units : ℕ
  pub found : Found

abbrev pub bounds : ℕ → ℕ → Found → Bounds
bounds most units found = record { most = most; units = units; found = found }

pub record IsWithin (h : Holder) (b : Bounds) (w : Wrote) : Type 0 where
  pub few : length w.batches + sittings_most w.next ≤ b.most
  pub says : SaysAtEnd w.next (WorkLines h b.units b.found) w.lines

-- what may become of a job whose text was read so
abbrev pub MayStopBy : Found → Outcome → Type 0
MayStopBy found (outcome.Stop end) = MayRefuseBy found end
MayStopBy found _ = Unit {0}

-- where what was begun isn't written, it is one batch more at most
abbrev pub unwritten : List Entry → ℕ
unwritten es = length (batch_of es)

-- what a sitting answers: the next state, how many commands it gave, and what becomes of the lock
abbrev pub EndsAs : Holder → ℕ → List Entry → Wrote → SittingEnd → Type 0
EndsAs h given so_far w e = (e.next ≡ w.next) × (e.given + length so_far ≡ given + length (all_entries w.batches))
    × (e.release ≡ released h.grant h.hold e.given e.next)

-- the rest of a sitting in which so many commands are given, and what it is to write
pub record ToPlay : Type 0 where
  pub holder : Holder
  pub given : ℕ
  pub wrote : Wrote

abbrev pub to_play : Holder → ℕ → Wrote → ToPlay
to_play h given w = record { holder = h; given = given; wrote = w }

-- The rest of a sitting: what it writes, which fits so, is kept as its answer says. Where content is told it writes
-- this.
pub record PlaysAs (told : Type 0) (Fits : Wrote → Type 0) (rest : ToPlay) (old : Place) (new : Outside)
    (result : Result SittingEnd NodeNo) : Type 0 where
  pub wrote : Wrote
  pub is : told → wrote ≡ rest.wrote
  pub of : All (AreOf rest.holder.by rest.holder.step) wrote.batches
  pub within : Fits wrote
  pub ends : IfOk result (EndsAs rest.holder rest.given old.batch wrote)
  pub closes : Closes told rest.holder.by wrote old.outside new result
  pub counts : HasCounted rest.holder.by (all_entries wrote.batches) old.outside.printed new.printed result
  pub spares : SparesOthers told rest.holder.by old.outside new

-- the rest of a sitting, which writes this whether content is told or not
abbrev pub PlaysOut : Type 0 → ToPlay → Place → Outside → Result SittingEnd NodeNo → Type 0
PlaysOut told rest old new result = PlaysAs told (λ w. w ≡ rest.wrote) rest old new result

-- the rest of a sitting of work, within bounds
abbrev pub Plays : Type 0 → Bounds → ToPlay → Place → Outside → Result SittingEnd NodeNo → Type 0
Plays told b rest old new result = PlaysAs told (IsWithin rest.holder b) rest old new result

-- COMMANDS OF A UNIT

-- what is kept of what was given, after an error
abbrev pub given_by : {T : Type 0} → Result T NodeNo → List Entry → List (List Entry)
given_by (Ok end) es = []
given_by (Err why) es = batch_of es

-- a part of a unit: its commands, and how the unit ends with them
pub record UnitPart : Type 0 where
  pub commands : List Command
  pub ends : UnitEnd

abbrev pub unit_part : List Command → UnitEnd → UnitPart
unit_part cs e = record { commands = cs; ends = e }

-- The last commands of a unit, which aren't written yet then. Where content is told they are these, and the unit ends
-- so.
pub record HasGiven (told : Type 0) (h : Holder) (p : UnitPart) (old new : Place) (result : Result UnitEnd NodeNo)
    : Type 0 where
  pub es : List Entry
  pub is : told → es ≡ given_in old.queue h.by h.step p.commands
  pub of : AreOf h.by h.step es
  pub keeps : Keeps told h.by (given_by result (old.batch ++ es)) old.outside new.outside result
  pub counts : HasCounted h.by [] old.outside.printed new.outside.printed result
  pub left : OnOk result (new.batch ≡ old.batch ++ es)
  pub queue : OnOk result (new.queue ≡ run old.queue es)
  pub ends : IfOk result (λ end. told → end ≡ p.ends)
  pub spares : SparesOthers told h.by old.outside new.outside
