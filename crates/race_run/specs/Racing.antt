-- What a member's pass needs for its lines, and what it knows after them.
use Rattle.std.specs.Prelude.{◌≡◌, ℕ, ◌≤◌, ◌<◌, Bool, true, false, List, ◌∷◌, length, All}
use Rattle.std.specs.Prelude.{Option, Some, Result, Ok, Err, if◌then◌else◌, is_err}
use Rattle.mas_types.specs.declared.ids.MemberId.{MemberId}
use Rattle.mas_types.specs.declared.queues.Queue.{Queue}
use Rattle.mas_types.specs.Fit.{IsConfig}
use Rattle.mas_types.specs.Ids.{same_member}
use Rattle.mas_types.specs.Limits.{steps_most}
use Rattle.mas_types.specs.Queue.{is_member}
use Rattle.mas_types.specs.Sound.{IsSound}
use Rattle.lock_cycle.specs.Books.{is_stopped}
use Rattle.script_lang.specs.declared.types.Ask.{Ask}
use Rattle.script_lang.specs.declared.types.Step.{Step}
use Rattle.spool_plant.specs.Acts.{Goes, Rose}
use Rattle.spool_plant.specs.declared.plant.Part.TheVariants.{Console}
use Rattle.spool_plant.specs.View.{View}
use Rattle.spool_plant.specs.declared.plant.Plant.{Ghosts as PlantGhosts}
use Rattle.ckpt_copy.specs.declared.copying.Copying.{Ghosts as CopyGhosts}
use Rattle.ckpt_form.specs.declared.steady.Steady.{Ghosts as SteadyGhosts}
use Rattle.mas_complex.specs.declared.complex.Complex.{Complex}
use Rattle.mas_complex.specs.Parts.{parts_of}
use Rattle.gate_facts.specs.Memory.{Memory}
use Rattle.gate_facts.specs.Values.{marked_at, number_at}
use Rattle.gate_turns.specs.Marked.{devices}
use Rattle.member_node.specs.declared.member.Member.{Member}
use Rattle.member_node.specs.declared.member.NodeNo.{NodeNo}
use Rattle.member_node.specs.declared.member.NodeNo.TheVariants as no_node
use Rattle.member_sittings.specs.Whole.{HasUntold}
use Rattle.race_turns.specs.Turns.{Opens, Stage, Turn}
use Rattle.race_turns.specs.Races.{Asked, Leaves, Standing, Taken, if_asked, is_raced, lines_of}
use Rattle.race_turns.specs.Sides.{AreTaken, Side, Sided, TakesOn}
use Rattle.mas_race.specs.Between.{BetweenTurns}
use Rattle.member_racing.specs.Asked.{IsAsked}
use Rattle.member_racing.specs.Turned.{AddsOwn, Costs}
use Rattle.member_racing.specs.Waits.{IsAtEase, Waits, given_by}
use Rattle.member_racing.specs.declared.stages.Stage.{Stage as Stands}
use Rattle.member_racing.specs.declared.stages.Stage.TheVariants as line

-- what a pass remembers of its member
abbrev pub side_in : MemberId → Memory → Side
side_in m y = record {
  kept = y.seen;
  begun = y.begun m.0;
  said = y.lines m.0;
  count = (y.desk m.0).printed;
  stopped = y.stopped m.0;
}

-- THE LINES OF A MEMBER, within the limits, with numbers that a script has

abbrev pub asked_at : ℕ → Ask → Asked
asked_at number what = record { number = number; what = what }

abbrev pub AreAsked : Queue → MemberId → List Asked → Type 0
AreAsked base by lines = All (λ a. IsAsked base by a.what × (1 ≤ a.number) × (a.number ≤ steps_most)) lines

module _ {P C : Type 0} {plants : PlantGhosts P} {steadies : SteadyGhosts C} {copies : CopyGhosts C} where
  -- a member that may begin with any of its lines from this number on: all that it gave is of lines before it
  pub record MayBegin (x : Complex P C plants steadies copies) (m : Member) (at : ℕ) : Type 0 where
    pub config : IsConfig x.base.config
    pub sound : plants.tells → IsSound x.base
    pub member : is_member x.base.config m.id ≡ true
    pub ease : is_stopped x.book m.id ≡ false → IsAtEase plants copies (parts_of x) m
    pub given : All (λ e. e.step < at) (given_by plants copies (parts_of x) m.id)
    pub untold : (later : ℕ) → at ≤ later → later ≤ steps_most → HasUntold plants copies (parts_of x) m.id later

  -- it waits there at each of these lines
  abbrev pub MayOpen : Complex P C plants steadies copies → Member → ℕ → Type 0
  MayOpen x m at = (number : ℕ) (what : Ask) → at ≤ number → number ≤ steps_most → IsAsked x.base m.id what
      → Waits x m number what line.Opens

  -- What is known of one who takes turns at values of a race that began with this view, for a member: each value of
  -- this base that it may find first is one at which the member may begin; at a value that may follow another one it
  -- waits as it waited there; and what a turn of it leaves is again such a value.
  pub record MayRace (finds : Complex P C plants steadies copies → Type 0)
      (follows : Complex P C plants steadies copies → Complex P C plants steadies copies → Type 0)
      (rests : Complex P C plants steadies copies → Type 0) (bound : Option ℕ) (cares : Bool → List Bool)
      (entry : View) (base : Queue) (m : Member) (at : ℕ) : Type 0 where
    pub is_bound : bound ≡ Some m.id.0
    pub cared : (told : Bool) → marked_at (cares told) m.id.0 ≡ true
    pub somebody : 0 < m.id.0
    pub first : (x : Complex P C plants steadies copies) → finds x → x.base ≡ base → MayOpen x m at
    pub next : (x y : Complex P C plants steadies copies) (n : Member) (number : ℕ) (what : Ask) (s : Stands)
        → n.id ≡ m.id → rests x → follows x y → Waits x n number what s → Waits y n number what s
    pub between : (x : Complex P C plants steadies copies) → rests x → BetweenTurns x
    pub since : (x : Complex P C plants steadies copies) → rests x → Goes entry (plants.view x.plant)
    pub keeps : (x y : Complex P C plants steadies copies) (r : Result Stands NodeNo) → rests x → BetweenTurns y
        → Costs m.id x y r → AddsOwn m.id x y → rests y

-- the member plays this line of a script
abbrev pub plays : MemberId → Step → Bool
plays by s = if same_member s.by by then is_raced s.what else false

-- WHY ITS RUN ENDED, by what its pass remembers then: both copies count as lost, or the console failed since the
-- members began

abbrev pub console_mark : ℕ
console_mark = length devices

abbrev pub IsCausedIn : View → Memory → Result (Unit {0}) NodeNo → Type 0
IsCausedIn entry y (Err no_node.BothLost) = (marked_at y.marks.lost 0 ≡ true) × (marked_at y.marks.lost 1 ≡ true)
IsCausedIn entry y (Err no_node.ConsoleFault) = Rose (entry.faults Console) (number_at y.marks.faults console_mark)
IsCausedIn entry y _ = Unit {0}

-- WHAT A MEMBER DID, by what its pass remembers before and after: the turns of a line, up to its close or to the turn
-- in which the run ended for the member

module _ (base : Queue) (by : MemberId) (saw : Queue → Stage → Taken → Turn → Type 0) where
  -- it stands at its first line still, at this stage
  pub record GoesOn (s : Stage) (at : Standing) (was is : Memory) : Type 0 where
    pub turns : List Sided
    pub all : Leaves
    pub stands : Standing
    pub took : TakesOn base by saw (side_in by was) at turns all (side_in by is) stands
    pub stage : stands.stage ≡ s
    pub rest : stands.lines ≡ at.lines

  -- that line has closed, and these follow
  pub record HasClosed (at : Standing) (lines : List Asked) (was is : Memory) : Type 0 where
    pub turns : List Sided
    pub all : Leaves
    pub stands : Standing
    pub took : TakesOn base by saw (side_in by was) at turns all (side_in by is) stands
    pub opens : stands.stage ≡ Opens
    pub rest : stands.lines ≡ lines

  -- its lines have ended, or the run has for it
  pub record HasEnded (ended : Bool) (at : Standing) (was is : Memory) : Type 0 where
    pub turns : List Sided
    pub all : Leaves
    pub took : AreTaken base by saw ended (side_in by was) at at.lines turns all (side_in by is)

  abbrev pub LineIsRaced : Asked → Memory → Memory → Result (Unit {0}) NodeNo → Type 0
  LineIsRaced a was is (Ok done) = (at : Standing) (lines : List Asked) → at.stage ≡ Opens → at.lines ≡ a ∷ lines
      → HasClosed at lines was is
  LineIsRaced a was is (Err e) = (at : Standing) (lines : List Asked) → at.stage ≡ Opens → at.lines ≡ a ∷ lines
      → HasEnded true at was is

  -- a line of a script: where it isn't the member's nothing was done
  abbrev pub StepIsRaced : ℕ → Step → Memory → Memory → Result (Unit {0}) NodeNo → Type 0
  StepIsRaced number s was is (Ok done) = (at : Standing) (lines : List Asked) → at.stage ≡ Opens
      → at.lines ≡ if_asked (plays by s) (asked_at number s.what) lines → HasClosed at lines was is
  StepIsRaced number s was is (Err e) = (at : Standing) (lines : List Asked) → at.stage ≡ Opens
      → at.lines ≡ if_asked (plays by s) (asked_at number s.what) lines → HasEnded true at was is

  -- all of its lines of a script, of which the first has this number
  abbrev pub AreRaced : ℕ → List Step → Memory → Memory → Result (Unit {0}) NodeNo → Type 0
  AreRaced number steps was is result = (at : Standing) → at.stage ≡ Opens → at.lines ≡ lines_of by number steps
      → HasEnded (is_err result) at was is
