-- What a line leaves of the shared value and its members, and what lines do one after another.
use Rattle.mas_run.specs.Names.{MemberId, Ask, Step, View, PlantGhosts, Ghosts as CopyGhosts, SteadyGhosts, Complex, Parts, parts_of, NodeNo, journal_of, Scene, Given, line_with, IsShown}
use Rattle.std.specs.Prelude.{◌≡◌, ℕ, Bool, true, false, List, Result, OnOk}
use Rattle.script_lang.specs.declared.types.Ask.TheVariants as ask
use Rattle.mas_run.specs.Copies.{CopiesKept}
use Rattle.mas_run.specs.Passed.{Here, IsNext, Passed, There}

-- a line of this member, and whether it is a line of one: all but a stop, one that is armed, and the loss of a device
abbrev pub line_by : MemberId → Ask → Step
line_by by what = record { by = by; what = what }

abbrev pub is_of_member : Ask → Bool
is_of_member ask.Stop = false
is_of_member (ask.StopIn what n) = false
is_of_member (ask.Lose dev) = false
is_of_member _ = true

-- what is known of content: all that the plant shows, or nothing
abbrev pub Known : Bool → Type 0
Known true = Unit {0}
Known false = ⊥

module _ {P C : Type 0} (plants : PlantGhosts P) (copies : CopyGhosts C) where
  abbrev v : Parts P C → View
  v x = plants.view x.plant

  -- where a run stands
  abbrev pub here_at : ℕ → Scene → Parts P C → Here
  here_at at S x = record {
    reads = copies.reads;
    since = x.since;
    number = at;
    scene = S;
    batches = journal_of x;
    renewals = x.renewals;
    view = v x;
  }

  abbrev pub there_at : Parts P C → Result (Unit {0}) NodeNo → There
  there_at y result = record { batches = journal_of y; renewals = y.renewals; view = v y; answer = result }

  -- A line of this number, at a scene that the value shows: what it gave, and what it did. Unless the run ends in it
  -- the value shows the scene that it leaves.
  pub record HasPlayedLine (told : Type 0) (S : Scene) (at : ℕ) (step : Step) (x y : Parts P C)
      (result : Result (Unit {0}) NodeNo) : Type 0 where
    pub given : Given
    pub next : IsNext told (here_at at S x) given step (there_at y result)
    pub shows : OnOk result (IsShown plants copies told (line_with S at given step).next y)

-- OVER THE SHARED VALUE. What is told of content is said where this is told: of a plant that tells, and of one that
-- doesn't all else. For which line of several a member was stopped at, and so where a line was cut, only the first
-- knows.

module _ {P C : Type 0} {plants : PlantGhosts P} {steadies : SteadyGhosts C} {copies : CopyGhosts C} where
  abbrev pub PlayedLine : Type 0 → ℕ → Step → Complex P C plants steadies copies → Complex P C plants steadies copies
      → Result (Unit {0}) NodeNo → Type 0
  PlayedLine told at step x y result = (S : Scene) → IsShown plants copies told S (parts_of x)
      → HasPlayedLine plants copies told S at step (parts_of x) (parts_of y) result

  -- lines one after another, from a scene on that the value shows
  abbrev pub PassesLines : Type 0 → ℕ → List Step → ℕ → Complex P C plants steadies copies
      → Complex P C plants steadies copies → Result (Unit {0}) NodeNo → Type 0
  PassesLines told at steps many x y result = (S : Scene) → IsShown plants copies told S (parts_of x)
      → Passed told (here_at plants copies at S (parts_of x)) steps many (there_at plants copies (parts_of y) result)

  -- So many of these lines were played.
  pub record PlayedLines (at : ℕ) (steps : List Step) (x y : Complex P C plants steadies copies)
      (result : Result (Unit {0}) NodeNo) : Type 0 where
    pub base : y.base ≡ x.base
    pub since : y.since ≡ x.since
    pub many : ℕ
    pub lines : (all : Bool) → (Known all → plants.tells) → PassesLines (Known all) at steps many x y result
    pub kept : CopiesKept x y result
