-- What a run did.
use Rattle.mas_run.specs.Names.{AreSettled, BetweenLines, Complex, Ghosts as CopyGhosts, PlantGhosts, Shows, SomeAlive, SteadyGhosts, Dev, Ckpt1, Ckpt2, Spool, Batch, Status, Script, Disk, View, given_now, paper_now, Goes, Rose, form_reads, kept_all, run, console_now, Renewals, no_renewals, AreVolumesKept, AreVolumesKeptUntil, MemberId, Step, StaysLost, NodeNo, Cut, scene_of, Outcome, console, given_on, history, outcomes_of, paper_of, Given, last_cut, outcomes_with, scene_with, sights_of, status_of, AreAway, AreSidesKept, IsOpened, IsSafe, OneIsGood}
use Rattle.std.specs.Prelude.{◌≡◌, ◌≢◌, ◌⊎◌, ℕ, ◌≤◌, Bool, true, false, List, [], ◌++◌, length, map, All, Option, None, Result}
use Rattle.mas_types.specs.declared.journals.Journal.{Journal}
use Rattle.mas_types.specs.declared.queues.Queue.{Queue}
use Rattle.run_opening.specs.Openings.{HasBegunWith}
use Rattle.member_node.specs.declared.member.Member.{Member}
use Rattle.mas_run.specs.Papers.{ArePapersKeptUntil}
use Rattle.script_lang.specs.declared.types.Ask.TheVariants as ask
use Rattle.mas_run.specs.Histories.{AreHistory}
use Rattle.mas_run.specs.Passed.{ArePassed, Here, LeaveVolumes, TakeNone, There, arms_after, loses_after}
use Rattle.mas_types.specs.declared.answers.Status.TheVariants as status

-- THE COPIES

-- a line of the script lost a copy, where each device had been lost so often by a call before
abbrev pub HasLostSince : (Dev → ℕ) → View → Type 0
HasLostSince first new = Rose (first Ckpt1) (new.loses Ckpt1) ⊎ Rose (first Ckpt2) (new.loses Ckpt2)

abbrev pub HasLost : View → View → Type 0
HasLost old new = HasLostSince old.loses new

-- no step replaces the copy on this device
abbrev pub ReplacesNone : Dev → List Step → Type 0
ReplacesNone d steps = All (λ (s : Step). s.what ≢ ask.Replace d) steps

-- Why the run ended: with Done each line was played, and none ended the run; else the last one that was played did

abbrev pub EndsAs : Status → Option Cut → ℕ → ℕ → Type 0
EndsAs status.Done cut many lines = (cut ≡ None) × (many ≡ lines)
EndsAs _ cut many lines = (1 ≤ many) × (cut ≢ None)

-- THE LINES of a run: with what they began, the first of them at a queue, on a plant that showed this, in a run whose
-- first moment is this, and whose journal had these batches of its opening; and how they ended: so many were played,
-- the journal has these batches after its opening, copies were replaced at these moments, and this is its status

pub record LinesBegun : Type 0 where
  pub steps : List Step
  pub from : Queue
  pub since : ℕ
  pub front : List Batch
  pub view : View

pub record LinesEnded : Type 0 where
  pub many : ℕ
  pub batches : List Batch
  pub renewals : Renewals
  pub view : View
  pub answer : Status

abbrev pub starts : LinesBegun → Here
starts b = record {
  reads = form_reads;
  since = b.since;
  number = 1;
  scene = scene_of b.from;
  batches = b.front;
  renewals = no_renewals;
  view = b.view;
}

abbrev pub stops : LinesBegun → LinesEnded → Result (Unit {0}) NodeNo → There
stops b e result = record { batches = b.front ++ e.batches; renewals = e.renewals; view = e.view; answer = result }

-- What is known of them at their end. What this says of contents is said where they are told.
pub record HavePassed (told : Type 0) (b : LinesBegun) (e : LinesEnded) : Type 0 where
  -- what each line gave and did, and how it ended
  pub given : List Given
  pub result : Result (Unit {0}) NodeNo
  pub ended : e.answer ≡ status_of result
  pub passed : ArePassed told (starts b) given b.steps e.many (stops b e result)
  -- what the lines came to: where content is told it is what the script says of them, by what they found
  pub did : List Outcome
  pub counted : length did ≡ e.many
  pub did_is : did ≡ outcomes_with (scene_of b.from) 1 given b.steps
  pub are : told → did ≡ outcomes_of b.from (sights_of given) b.steps
  pub ends : EndsAs e.answer (last_cut (scene_of b.from) 1 given b.steps) e.many (length b.steps)
  -- the journal is their history, the console has their lines, and each printer has those of its member's lines, and no
  -- others
  pub history : AreHistory (history did) e.batches
  pub said : told → console_now e.view ≡ console_now b.view ++ map (λ s. s.line) (console did)
  pub paper : told → (m : MemberId) → paper_now e.view m.0 ≡ paper_now b.view m.0 ++ paper_of m b.steps did
  -- and each line to another node has the bytes that those lines of a member gave that served it, and no others
  pub gave : told → (m : MemberId) (line : ℕ)
      → given_now e.view line m.0 ≡ given_now b.view line m.0 ++ given_on m line b.steps did
  -- a device was lost by a call as often as a line that was played says so, and a copy besides perhaps by a takeover
  pub loses : told → (n : ℕ) → e.view.loses (Spool n) ≡ loses_after (Spool n) did (b.view.loses (Spool n))
  pub loses_copies : told → TakeNone (scene_of b.from) 1 given b.steps → (d : Dev)
      → e.view.loses d ≡ loses_after d did (b.view.loses d)
  -- a stop was armed as often as a line that was played says so
  pub arms : (m : ℕ)
      → e.view.arms m ≡ arms_after m (scene_with (scene_of b.from) 1 given b.steps).armed (b.view.arms m)
  pub volumes : told → LeaveVolumes (scene_of b.from) 1 given b.steps → AreVolumesKept b.view e.view
  -- without a line that replaces a copy its device stays lost, and there are no moments at which it is replaced
  pub stays : (d : Dev) → ReplacesNone d b.steps → StaysLost d b.view e.view
  pub unrenewed1 : ReplacesNone Ckpt1 b.steps → e.renewals.first ≡ []
  pub unrenewed2 : ReplacesNone Ckpt2 b.steps → e.renewals.second ≡ []

-- a warm run that couldn't be reset plays no line
pub record NonePassed (b : LinesBegun) (e : LinesEnded) : Type 0 where
  pub why : (e.answer ≡ status.NoMemory) ⊎ (e.answer ≡ status.BothLost)
  pub none : e.many ≡ 0
  pub empty : e.batches ≡ []
  pub unrenewed : e.renewals ≡ no_renewals
  pub still : e.view ≡ b.view

-- Both: what is known of any plant, and what is known besides of one that tells. Where a line was cut is known of the
-- second alone; so what lines gave stands in each by itself. Before the lines began nothing was said or printed,
-- nothing was given or taken on a line to another node, and each device had been lost so often by a call.
pub record WerePlayed (tells : Type 0) (b : LinesBegun) (e : LinesEnded) (first : Dev → ℕ) (old : View) : Type 0 where
  pub entered : Goes old b.view
  pub lost_before : (d : Dev) → b.view.loses d ≡ first d
  pub unsaid : tells → console_now b.view ≡ console_now old
  pub dry : tells → AreSidesKept old b.view
  pub bare : NonePassed b e ⊎ HavePassed ⊥ b e
  pub told : tells → NonePassed b e ⊎ HavePassed (Unit {0}) b e
  -- a good copy is left, except where both count as lost
  pub good : e.answer ≢ status.BothLost → OneIsGood e.renewals e.view ⊎ HasLostSince first e.view

-- A run whose lines may begin: its scene is that of its queue, no copy was replaced yet, and each that counts as alive
-- is there.
pub record IsOpenForLines {P C : Type 0} {plants : PlantGhosts P} {steadies : SteadyGhosts C} {copies : CopyGhosts C}
    (x : Complex P C plants steadies copies) (members : List Member) : Type 0 where
  pub between : BetweenLines x members 1
  pub shows : Shows (Unit {0}) (scene_of (run x.base (kept_all x.journal.batches))) x
  pub settled : AreSettled x.journal.batches (plants.view x.plant).now
  pub unrenewed : x.renewals ≡ no_renewals
  pub some : SomeAlive x.pair.first.alive x.pair.second.alive
  pub there1 : x.pair.first.alive ≡ true → (plants.view x.plant).lost (Disk Ckpt1) ≡ false
  pub there2 : x.pair.second.alive ≡ true → (plants.view x.plant).lost (Disk Ckpt2) ≡ false

-- How a run ended: with this status, on a plant that shows this; and its base, its first moment and its journal.
pub record RunResult : Type 0 where
  pub answer : Status
  pub base : Queue
  pub journal : Journal
  pub since : ℕ
  pub view : View

abbrev pub run_result : Status → Queue → Journal → ℕ → View → RunResult
run_result answer base journal since view =
    record { answer = answer; base = base; journal = journal; since = since; view = view }

-- its lines, after these batches of its opening, on a plant that showed this
abbrev pub begun_after : List Step → List Batch → View → RunResult → LinesBegun
begun_after steps opening entry end = record {
  steps = steps;
  from = run end.base (kept_all opening);
  since = end.since;
  front = opening;
  view = entry;
}

-- and how they ended: so many were played, with these batches and replacements
abbrev pub ended_with : ℕ → List Batch → Renewals → RunResult → LinesEnded
ended_with many rest renewals end =
    record { many = many; batches = rest; renewals = renewals; view = end.view; answer = end.answer }

-- What was played, by a run whose journal had these batches then, on a plant that showed `old` before it.
pub record IsPlay (tells : Type 0) (steps : List Step) (front : List Batch) (old : View) (end : RunResult) : Type 0
  where
    pub many : ℕ
    pub rest : List Batch
    pub renewals : Renewals
    pub batches : end.journal.batches ≡ front ++ rest
    pub played : WerePlayed tells (begun_after steps front old end) (ended_with many rest renewals end) old.loses old
    pub safe : IsSafe tells end.base end.journal renewals end.since end.view
    pub away : end.answer ≡ status.BothLost → AreAway renewals end.view

-- The lines of a run, cold or warm, from its first moment on, on a plant that showed `old` before it. Before them
-- stands its opening, and each device had been lost so often by a call.
pub record HasSteps (cold : Bool) (tells : Type 0) (steps : List Step) (first : Dev → ℕ) (old : View)
    (end : RunResult) : Type 0 where
  -- the journal of the run is that of its opening and of the lines, which began at a moment
  pub opening : List Batch
  pub rest : List Batch
  pub batches : end.journal.batches ≡ opening ++ rest
  pub entry : View
  pub at : ℕ
  pub began : (end.since ≤ at) × (at ≤ end.view.now) × (entry.now ≡ at)
  pub many : ℕ
  -- the moments at which a copy was replaced, which is told by the lines that did so
  pub renewals : Renewals
  pub played : WerePlayed tells (begun_after steps opening entry end) (ended_with many rest renewals end) first old
  pub opened : IsOpened cold end.answer end.since at opening many rest
  -- no byte of a volume changed before they began, and no line was printed before
  pub before : tells → AreVolumesKeptUntil at old end.view
  pub dry : tells → ArePapersKeptUntil at old end.view
  pub safe : IsSafe tells end.base end.journal renewals end.since end.view
  -- both copies count as lost where the answer says so, and one that is lost and isn't replaced stays lost
  pub away : end.answer ≡ status.BothLost → AreAway renewals end.view
  pub stays : (d : Dev) → ReplacesNone d steps → StaysLost d old end.view

-- A run that has begun, cold or warm, of a script, on a plant that showed `old` before it. What it says of contents is
-- said of a plant that tells.
pub record IsRun (cold : Bool) (tells : Type 0) (script : Script) (old : View) (end : RunResult) : Type 0 where
  -- before the run's first moment a device had been lost so often by a call: a warm start may have lost a copy once
  pub first : Dev → ℕ
  -- devices that were lost at the first moment, or are at the end: the same, but for one that was replaced
  pub lost : Dev → Bool
  pub lost_on : (d : Dev) → ReplacesNone d script.steps → lost d ≡ end.view.lost (Disk d)
  -- the run began with its base, which has the sound parts, and which the copies had then, and nothing was said or
  -- printed before, nor taken or given on a wire
  pub begun : HasBegunWith cold tells script end.base end.since first lost old end.view
  -- the lines of the script were played after the run's opening
  pub steps : HasSteps cold tells script.steps first old end
