-- The shared value of a race before its members begin, and after all of them have ended.
use Rattle.std.specs.Prelude.{◌≡◌, ◌⊎◌, ℕ, ◌≤◌, ◌<◌, true, false, List, [], ◌∷◌, ◌+◌, length, All}
use Rattle.mas_types.specs.declared.answers.Status.{Status}
use Rattle.mas_types.specs.declared.answers.Status.TheVariants as status
use Rattle.mas_types.specs.declared.ids.Dev.TheVariants.{Ckpt1, Ckpt2}
use Rattle.mas_types.specs.declared.journals.Batch.{Batch}
use Rattle.mas_types.specs.declared.ids.MemberId.{MemberId}
use Rattle.mas_types.specs.Ids.{nobody}
use Rattle.mas_types.specs.Journal.{is_kept}
use Rattle.mas_types.specs.Limits.{members_most, steps_most}
use Rattle.script_lang.specs.declared.types.Step.{Step}
use Rattle.spool_plant.specs.declared.plant.Plant.{Ghosts as PlantGhosts}
use Rattle.ckpt_copy.specs.declared.copying.Copying.{Ghosts as CopyGhosts}
use Rattle.ckpt_form.specs.declared.steady.Steady.{Ghosts as SteadyGhosts}
use Rattle.duplex_pair.specs.Halves.{SomeAlive}
use Rattle.mas_complex.specs.declared.complex.Complex.{Complex}
use Rattle.mas_complex.specs.Journals.{kept_all}
use Rattle.mas_complex.specs.Meaning.{run}
use Rattle.mas_complex.specs.Parts.{parts_of, shown_of}
use Rattle.mas_complex.specs.Past.{noted_by, values_of}
use Rattle.gate_facts.specs.declared.facts.Facts.{Facts}
use Rattle.gate_facts.specs.Values.{begun_of, lines_of as said_of}
use Rattle.gate_facts.specs.Ways.{EachWay}
use Rattle.gate_turns.specs.Desks.{groups_from}
use Rattle.gate_turns.specs.Shared.{facts_of}
use Rattle.member_gate.specs.Views.{MayBegin as MayOpen}
use Rattle.member_node.specs.declared.member.Member.{Member}
use Rattle.member_node.specs.Calls.{console_now}
use Rattle.member_sittings.specs.Sat.{journal_of}
use Rattle.run_opening.specs.Statuses.{IsCausedFrom, is_of_play}
use Rattle.mas_race.specs.Beginnings.{IsFrom, began_with}
use Rattle.mas_race.specs.Between.{BetweenTurns}
use Rattle.race_turns.specs.Races.{lines_of}
use Rattle.race_run.specs.Races.{HaveNotRaced, HaveRaced, IsGone, MembersBegun, MembersEnded, begun_as, ended_as}
use Rattle.race_run.specs.Racing.{AreAsked, MayBegin}

-- a batch that the operator gave, and that was kept
pub record IsOperators (b : Batch) : Type 0 where
  pub by : b.by ≡ nobody
  pub kept : is_kept b.fate ≡ true
  pub entries : All (λ e. e.by ≡ nobody) b.entries

-- of no member it tells an entry or a line
abbrev pub AreNew : Facts → Type 0
AreNew f = (m : ℕ) → 0 < m → (begun_of f m ≡ []) × (said_of f m ≡ [])

module _ {P C : Type 0} {plants : PlantGhosts P} {steadies : SteadyGhosts C} {copies : CopyGhosts C} where
  -- A RUN THAT IS OPEN, and no more: the operator alone gave anything, and it is kept. Nothing was said since the run's
  -- first moment. No member noted pages, and where content is told none has a group.
  pub record IsUntouched (x : Complex P C plants steadies copies) : Type 0 where
    pub operator : All IsOperators x.journal.batches
    pub unsaid : plants.tells → ((plants.view x.plant).world x.since).console ≡ console_now (plants.view x.plant)
    pub unnoted : (m : ℕ) → 0 < m → noted_by (values_of x.had) m ≡ []
    pub ungrouped : plants.tells → (m : MemberId) → 0 < m.0
        → groups_from m 0 (run x.base (kept_all x.journal.batches)).owners ≡ []

  -- members from this number on, each of which may begin with its lines
  abbrev pub MayAllBegin : Complex P C plants steadies copies → List Step → ℕ → List Member → Type 0
  MayAllBegin x steps at [] = Unit {0}
  MayAllBegin x steps at (m ∷ ms) = (m.id ≡ record { 0 = at }) × MayBegin x m 1
      × AreAsked x.base m.id (lines_of m.id 1 steps) × MayAllBegin x steps (at + 1) ms

  -- THE MEMBERS CAN BEGIN: the value is between two turns; nobody is stopped, and nobody but the operator gave
  -- anything.
  pub record CanBegin (x : Complex P C plants steadies copies) (ms : List Member) (steps : List Step) : Type 0 where
    pub between : BetweenTurns x
    pub from : IsFrom (began_with x) x
    pub opens : EachWay plants.tells (λ told. MayOpen (facts_of told (shown_of x)))
    pub new : plants.tells → AreNew (facts_of true (shown_of x))
    pub many : length ms ≡ x.base.config.members
    pub few : length ms ≤ members_most
    pub lines : length steps ≤ steps_most
    pub each : MayAllBegin x steps 1 ms

  abbrev pub begun_at : Complex P C plants steadies copies → List Step → MembersBegun
  begun_at x steps = begun_as steps x.base (journal_of (parts_of x)) x.since (plants.view x.plant)

  abbrev pub ended_at : Complex P C plants steadies copies → Status → MembersEnded
  ended_at y answer = ended_as (journal_of (parts_of y)) (plants.view y.plant) answer

  -- ALL HAVE RACED, or there was no memory for that
  pub record HaveAllRaced (x y : Complex P C plants steadies copies) (steps : List Step) (answer : Status)
      : Type 0 where
    pub base : y.base ≡ x.base
    pub since : y.since ≡ x.since
    pub between : BetweenTurns y
    pub from : IsFrom (began_with x) y
    pub cause : IsCausedFrom (parts_of x).first_alive (parts_of x).second_alive answer (plants.view x.plant)
        (plants.view y.plant)
    pub kind : is_of_play answer ≡ true
    pub lost : answer ≡ status.BothLost → ((parts_of y).first_alive ≡ false) × ((parts_of y).second_alive ≡ false)
    pub some : (IsGone Ckpt1 (plants.view x.plant) (plants.view y.plant)
        → IsGone Ckpt2 (plants.view x.plant) (plants.view y.plant) → ⊥)
        → SomeAlive (parts_of y).first_alive (parts_of y).second_alive
    pub raced : plants.tells → HaveRaced (begun_at x steps) (ended_at y answer)
        ⊎ HaveNotRaced (begun_at x steps) (ended_at y answer)
