-- What a race did.
use Rattle.std.specs.Prelude.{◌≡◌, ◌⊎◌, ℕ, ◌≤◌, ◌<◌, nat_lt, nat_eq, ◌||◌, ◌&&◌, Bool, true, false}
use Rattle.std.specs.Prelude.{if◌then◌else◌, List, [], ◌∷◌, ◌++◌, length, map, take, All, Option, Some, None}
use Rattle.std.specs.Prelude.{Result, is_err, ◌-◌, slice_get}
use Rattle.mas_types.specs.declared.answers.Status.{Status}
use Rattle.mas_types.specs.declared.answers.Status.TheVariants as status
use Rattle.mas_types.specs.declared.ids.Dev.{Dev}
use Rattle.mas_types.specs.declared.ids.Dev.TheVariants.{Ckpt1, Ckpt2, Spool}
use Rattle.mas_types.specs.declared.ids.MemberId.{MemberId}
use Rattle.mas_types.specs.declared.journals.Batch.{Batch}
use Rattle.mas_types.specs.declared.journals.Journal.{Journal}
use Rattle.mas_types.specs.declared.queues.Queue.{Queue}
use Rattle.mas_types.specs.Ids.{is_somebody, nobody}
use Rattle.mas_types.specs.Journal.{is_kept}
use Rattle.mas_types.specs.Statuses.{status_code}
use Rattle.script_lang.specs.declared.types.Script.{Script}
use Rattle.script_lang.specs.declared.types.Step.{Step}
use Rattle.spool_plant.specs.declared.plant.Part.TheVariants.{Console, Disk}
use Rattle.spool_plant.specs.Acts.{Goes, Rose}
use Rattle.spool_plant.specs.View.{View}
use Rattle.mas_complex.specs.Headline.{whole}
use Rattle.mas_complex.specs.Journals.{kept_all}
use Rattle.mas_complex.specs.Renewals.{no_renewals}
use Rattle.member_node.specs.declared.member.NodeNo.{NodeNo}
use Rattle.member_node.specs.Calls.{WasLost, console_now}
use Rattle.run_turns.specs.Cuts.{entries_of}
use Rattle.run_turns.specs.Sights.{Cause, Cut, Ends, Stops}
use Rattle.member_racing.specs.Turned.{IfActed}
use Rattle.race_turns.specs.Turns.{Stage, Turn}
use Rattle.race_turns.specs.Races.{HasRaced, Leaves, Taken, whole_texts}
use Rattle.gate_turns.specs.Shared.{begun_by, said_since}
use Rattle.gate_turns.specs.Words.{lines_by}
use Rattle.member_racing.specs.Found.{IsFoundAt}
use Rattle.run_opening.specs.Lines.{HasStopped, OnlyStops}
use Rattle.run_opening.specs.Openings.{HasBegunWith, HasNoLines, HasOpened}
use Rattle.run_opening.specs.Runs.{AreAway, IsSafe, OneIsGood}
use Rattle.run_opening.specs.Statuses.{status_of}
use Rattle.race_ends.specs.Before.{IsOne, armed_by, refused_lines}
use Rattle.race_ends.specs.Histories.{EndsRace}

-- WHAT IS SEEN OF A TURN: the plant came to it by acts alone, from what it showed as the members began; nobody was
-- stopped in it but its member, and that where it was cut so, or where the run ended in it, since the operator couldn't
-- say so; and what was found in acts aside may be found there.

abbrev pub StopsAs : Cause → MemberId → View → View → Type 0
StopsAs Stops by old new = HasStopped by old new
StopsAs Ends by old new = (new.stops by.0 ≡ old.stops by.0) ⊎ HasStopped by old new

abbrev pub StopsBy : Option Cut → MemberId → View → View → Type 0
StopsBy None by old new = new.stops by.0 ≡ old.stops by.0
StopsBy (Some cut) by old new = StopsAs cut.cause by old new

pub record IsSeen (per : ℕ) (entry : View) (by : MemberId) (Q : Queue) (s : Stage) (t : Taken) (turn : Turn) : Type 0
  where
    pub since : Goes entry t.old
    pub goes : Goes t.old t.new
    pub others : OnlyStops by t.old t.new
    pub stops : StopsBy t.cut by t.old t.new
    pub found : IfActed t.book s (λ state. IsFoundAt per by t.old t.new Q state t.found)

abbrev pub seen_in : Queue → View → MemberId → Queue → Stage → Taken → Turn → Type 0
seen_in base entry by = IsSeen base.config.groups entry by

-- THE STATUS of several members: the one with the least code other than 0

abbrev pub is_less : ℕ → ℕ → Bool
is_less a b = nat_eq a 0 || (nat_lt 0 b && nat_lt b a)

abbrev pub lesser : Status → Status → Status
lesser one other = if is_less (status_code one) (status_code other) then other else one

abbrev pub least : List Status → Status
least [] = status.Done
least (s ∷ more) = lesser s (least more)

-- the device of a copy was lost before, or it was lost since
abbrev pub IsGone : Dev → View → View → Type 0
IsGone d old new = (old.lost (Disk d) ≡ true) ⊎ WasLost d old new

-- THE MEMBERS RACED: with what they began, on a plant that showed this, in a run whose first moment is this; and how
-- they ended, with these batches in the journal

pub record MembersBegun : Type 0 where
  pub steps : List Step
  pub base : Queue
  pub opening : List Batch
  pub since : ℕ
  pub view : View

pub record MembersEnded : Type 0 where
  pub batches : List Batch
  pub view : View
  pub answer : Status

module _ (b : MembersBegun) (e : MembersEnded) where
  abbrev pub members : ℕ
  members = b.base.config.members

  -- the lines of a member that stand whole on the console since the run's first moment, or those of the operator
  abbrev pub lines_in : View → ℕ → List (List ℕ)
  lines_in v m = lines_by members m (said_since b.since v)

  -- One member: how its lines ended, its turns, which stand in the one history in their order and each once, and what
  -- they left: the entries that it gave, whether kept or not, and its whole lines on the console, and no others.
  pub record MemberHasRaced (m : MemberId) : Type 0 where
    pub answer : Result (Unit {0}) NodeNo
    pub all : Leaves
    pub raced : HasRaced b.base (kept_all e.batches) m (seen_in b.base b.view m) (length (kept_all b.opening)) b.steps
        (is_err answer) all
    pub begun : begun_by m e.batches ≡ entries_of all.batches
    pub said : lines_in e.view m.0 ≡ whole_texts all.lines

  -- All of them. Each entry is of its batch's member, and the operator gave and said nothing. If not both copies are
  -- lost, what wasn't kept of a member is of one that was stopped.
  pub record HaveRaced : Type 0 where
    pub each : (m : MemberId) → IsOne members m → MemberHasRaced m
    pub silent : lines_in e.view 0 ≡ lines_in b.view 0
    pub operator : begun_by nobody e.batches ≡ begun_by nobody b.opening
    pub own : All (λ x. All (λ y. y.by ≡ x.by) x.entries) e.batches
    pub fated : (IsGone Ckpt1 b.view e.view → IsGone Ckpt2 b.view e.view → ⊥)
        → All (λ x. is_somebody x.by ≡ true → is_kept x.fate ≡ false → 0 < length x.entries
        → HasStopped x.by b.view e.view) e.batches
    -- the status of them all is the least of their own
    pub answers : List Status
    pub many : length answers ≡ members
    pub answers_are : (m : MemberId) (one : IsOne members m)
        → slice_get answers (m.0 - 1) ≡ Some (status_of (each m one).answer)
    pub status_is : e.answer ≡ least answers

-- The members didn't race: the operator couldn't refuse a line before, or there was no memory for them.
pub record HaveNotRaced (b : MembersBegun) (e : MembersEnded) : Type 0 where
  pub why : (e.answer ≡ status.NoMemory) ⊎ (e.answer ≡ status.ConsoleFault)
  pub batches : e.batches ≡ b.opening

abbrev pub begun_as : List Step → Queue → List Batch → ℕ → View → MembersBegun
begun_as steps base opening since view =
    record { steps = steps; base = base; opening = opening; since = since; view = view }

abbrev pub ended_as : List Batch → View → Status → MembersEnded
ended_as batches view answer = record { batches = batches; view = view; answer = answer }

-- Before they began lines of members that are none were refused, among these.
abbrev pub AreRefused : ℕ → List Step → View → View → Type 0
AreRefused members steps old start = console_now start ≡ console_now old ++ map whole (refused_lines members 1 steps)

-- A RACE, from a value on whose journal had these batches, on a plant that showed `old` before and `new` after it. A
-- device of a volume was lost by no call in it, and a stop was armed as often as a line says so. A good copy is left,
-- unless both are lost.
pub record IsRaceOf (tells : Type 0) (steps : List Step) (answer : Status) (base : Queue) (front : List Batch)
    (journal : Journal) (since : ℕ) (old new : View) : Type 0 where
  pub rest : List Batch
  pub batches : journal.batches ≡ front ++ rest
  -- before the members began the operator went through so many of the lines
  pub seen : ℕ
  pub few : seen ≤ length steps
  -- as they began the plant showed this
  pub start : View
  pub stops : (m : ℕ) → start.stops m ≡ old.stops m
  pub refused : tells → AreRefused base.config.members (take seen steps) old start
  -- once all members have raced the plant showed this, and this was the status of them all
  pub between : View
  pub ended : Status
  pub arms : (m : MemberId) → IsOne base.config.members m
      → between.arms m.0 ≡ armed_by base.config.members m (take seen steps) (old.arms m.0)
  -- the operator went through all lines, unless the members didn't race
  pub all : (seen ≡ length steps)
      ⊎ HaveNotRaced (begun_as steps base front since start) (ended_as journal.batches between ended)
  pub volumes : tells → (n : ℕ) → between.loses (Spool n) ≡ old.loses (Spool n)
  pub stays : (d : Dev) → old.lost (Disk d) ≡ true → new.lost (Disk d) ≡ true
  pub raced : tells
      → HaveRaced (begun_as steps base front since start) (ended_as journal.batches between ended)
      ⊎ HaveNotRaced (begun_as steps base front since start) (ended_as journal.batches between ended)
  -- the history lines, after all lines
  pub ends : EndsRace tells ended answer journal between new
  pub safe : IsSafe tells base journal no_renewals since new
  pub away : answer ≡ status.BothLost → AreAway no_renewals new
  pub good : (IsGone Ckpt1 old new → IsGone Ckpt2 old new → ⊥) → OneIsGood no_renewals new

-- cold or warm, from the run's first moment on: before it stands its opening
pub record HasRace (cold : Bool) (tells : Type 0) (steps : List Step) (answer : Status) (base : Queue)
    (journal : Journal) (since : ℕ) (first : Dev → ℕ) (old new : View) : Type 0 where
  pub opening : List Batch
  pub entry : View
  pub opened : HasOpened cold tells since first opening old entry
  pub race : IsRaceOf tells steps answer base opening journal since entry new

-- A race that has begun, of a script, on a plant that showed `old` before and `new` after it: it was held, or ended
-- before its lines. What it says of contents is said of a plant that tells.
pub record IsRace (cold : Bool) (tells : Type 0) (script : Script) (answer : Status) (base : Queue) (journal : Journal)
    (since : ℕ) (old new : View) : Type 0 where
  pub first : Dev → ℕ
  pub lost : Dev → Bool
  pub lost_on : (d : Dev) → lost d ≡ new.lost (Disk d)
  pub begun : HasBegunWith cold tells script base since first lost old new
  pub race : HasRace cold tells script.steps answer base journal since first old new
      ⊎ HasNoLines cold tells script answer base journal since old new

-- No fault of the source or of the console rose, and not both copies are lost: none before, or by a fault or a call.
pub record IsUnhindered (before after : ℕ) (old new : View) : Type 0 where
  pub source : Rose before after → ⊥
  pub disks : IsGone Ckpt1 old new → IsGone Ckpt2 old new → ⊥
  pub console : Rose (old.faults Console) (new.faults Console) → ⊥
