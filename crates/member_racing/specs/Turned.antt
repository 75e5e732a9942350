-- What a turn of a member's line in a race did, for every answer.
use Rattle.std.specs.Prelude.{◌≡◌, ◌≢◌, ◌⊎◌, ℕ, true, false, List, [], ◌∷◌, ◌++◌, All, Option, Some, None, Result, Ok, Err, IfOk}
use Rattle.mas_types.specs.declared.ids.MemberId.{MemberId}
use Rattle.mas_types.specs.Ids.{is_somebody}
use Rattle.mas_types.specs.declared.journals.Batch.{Batch}
use Rattle.mas_types.specs.declared.journals.Fate.{Fate}
use Rattle.lock_cycle.specs.Books.{Book, is_stopped}
use Rattle.spool_plant.specs.declared.plant.Part.TheVariants.{Console}
use Rattle.spool_plant.specs.declared.plant.Plant.{Ghosts as PlantGhosts}
use Rattle.mas_types.specs.declared.ids.Dev.TheVariants.{Spool}
use Rattle.spool_plant.specs.Acts.{Rose, next}
use Rattle.spool_plant.specs.View.{View}
use Rattle.ckpt_copy.specs.declared.copying.Copying.{Ghosts as CopyGhosts}
use Rattle.ckpt_form.specs.declared.steady.Steady.{Ghosts as SteadyGhosts}
use Rattle.duplex_pair.specs.Halves.{IsBothLost}
use Rattle.mas_complex.specs.declared.complex.Complex.{Complex}
use Rattle.mas_complex.specs.Parts.{Parts, parts_of, shown_of}
use Rattle.gate_facts.specs.declared.facts.Facts.{Facts}
use Rattle.gate_facts.specs.Values.{begun_of, desk_of, lines_of, stopped_of}
use Rattle.gate_turns.specs.Shared.{facts_of}
use Rattle.step_turns.specs.declared.states.State.{State}
use Rattle.run_turns.specs.Cuts.{Left}
use Rattle.run_turns.specs.Sights.{Cut, Stops, Ends}
use Rattle.race_turns.specs.Races.{Asked, Standing, Taken, queue_at, stage_left}
use Rattle.race_turns.specs.Sides.{Side, Takes}
use Rattle.race_turns.specs.Turns.{Stage, Turn, Acts, left_holder}
use Rattle.member_node.specs.declared.member.NodeNo.{NodeNo}
use Rattle.member_node.specs.declared.member.NodeNo.TheVariants as no_node
use Rattle.member_node.specs.Calls.{IsLeft}
use Rattle.member_sittings.specs.Sat.{journal_of}
use Rattle.member_resets.specs.Cuts.{IsHaltBy}
use Rattle.member_resets.specs.Found.{IsFoundAt}
use Rattle.member_resets.specs.Plays.{Passage}
use Rattle.member_resets.specs.Settling.{IfRuns, settle}
use Rattle.member_racing.specs.Stages.{Raced, stage_of}
use Rattle.member_racing.specs.declared.stages.Stage.{Stage as Stands}

abbrev pub asked_in : Raced → Asked
asked_in r = record { number = r.number; what = r.what }

-- where the member stands: a turn goes by nothing but the stage of its line
abbrev pub standing_in : Raced → Standing
standing_in r = record { lines = asked_in r ∷ []; stage = stage_of r.stands; from = 0; count = 0; stopped = false }

-- what a value shows a member
abbrev pub side_of : MemberId → Facts → Side
side_of m f = record {
  kept = f.kept;
  begun = begun_of f m.0;
  said = lines_of f m.0;
  count = (desk_of f m.0).printed;
  stopped = stopped_of f m.0;
}

-- WHERE IT WAS CUT, by its answer

-- the run ends for the member with this answer, and nobody was stopped
pub record EndsBy (e : NodeNo) (by : MemberId) (cut : Cut) (old new : View) : Type 0 where
  pub why : IsHaltBy e cut.halt
  pub other : e ≢ no_node.Halted
  pub up : new.stops by.0 ≡ old.stops by.0

-- the operator couldn't say that the member was stopped: the console failed at it, or there was no memory for the line
abbrev pub IsUnsaid : NodeNo → View → Type 0
IsUnsaid no_node.ConsoleFault v = v.now ≡ next v.halt
IsUnsaid no_node.NoMemory v = v.now ≡ v.halt
IsUnsaid _ v = ⊥

pub record StopsUnsaid (e : NodeNo) (by : MemberId) (cut : Cut) (old new : View) : Type 0 where
  pub why : IsHaltBy no_node.Halted cut.halt
  pub stopped : Rose (old.stops by.0) (new.stops by.0)
  pub unsaid : IsUnsaid e new

-- The member was stopped in the turn, and nothing was done after that but that the operator said so. Or the run ended
-- for it.
abbrev pub IsCutBy : {T : Type 0} → Result T NodeNo → MemberId → Option Cut → View → View → Type 0
IsCutBy (Ok stage) by None old new = new.stops by.0 ≡ old.stops by.0
IsCutBy (Ok stage) by (Some cut) old new = (cut.cause ≡ Stops) × (cut.sittings ≡ 0)
    × IsHaltBy no_node.Halted cut.halt × Rose (old.stops by.0) (new.stops by.0) × (new.now ≡ next new.halt)
IsCutBy (Err e) by None old new = ⊥
IsCutBy (Err e) by (Some cut) old new = (cut.cause ≡ Ends) × (cut.sittings ≡ 0)
    × (EndsBy e by cut old new ⊎ StopsUnsaid e by cut old new)

-- WHAT IT FOUND in acts aside, if it did such

abbrev pub IfActed : Book → Stage → (State → Type 0) → Type 0
IfActed b (Acts s) A = left_holder b ≡ None → A s
IfActed b _ A = Unit {0}

-- What is added to the journal, once a batch in flight was found out, if it was: batches of the member.
pub record Adds {P C : Type 0} (by : MemberId) (x y : Parts P C) : Type 0 where
  pub found : Fate
  pub at : ℕ
  pub own : List Batch
  pub journal : journal_of y ≡ settle found at (journal_of x) ++ own
  pub theirs : All (λ b. b.by ≡ by) own

module _ {P C : Type 0} (plants : PlantGhosts P) where
  abbrev v : Parts P C → View
  v x = plants.view x.plant

  -- What becomes of the devices: nobody but the member was stopped, no volume was lost by a call, a copy is lost only
  -- where its device was, and each answer has its cause. What copies were replaced is as it was. Who is stopped in the
  -- book was so before, or was stopped in the turn.
  pub record HasCost (by : MemberId) (x y : Parts P C) (result : Result Stands NodeNo) : Type 0 where
    pub passage : Passage x.first_alive y.first_alive x.second_alive y.second_alive (v x) (v y)
    pub others : (m : ℕ) → m ≢ by.0 → (v y).stops m ≡ (v x).stops m
    pub volumes : plants.tells → (n : ℕ) → (v y).loses (Spool n) ≡ (v x).loses (Spool n)
    pub renewals : y.renewals ≡ x.renewals
    pub stopped : (m : MemberId) → is_somebody m ≡ true → is_stopped y.book m ≡ true
        → (is_stopped x.book m ≡ true) ⊎ Rose ((v x).stops m.0) ((v y).stops m.0)
    pub both : result ≡ Err no_node.BothLost → IsBothLost y.first_alive y.second_alive
    pub some : IfRuns result (IsLeft x.first_alive y.first_alive x.second_alive y.second_alive)
    pub failed : result ≡ Err no_node.ConsoleFault → Rose ((v x).faults Console) ((v y).faults Console)

-- OVER THE SHARED VALUE

module _ {P C : Type 0} {plants : PlantGhosts P} {steadies : SteadyGhosts C} {copies : CopyGhosts C} where
  abbrev pub shows : MemberId → Complex P C plants steadies copies → Side
  shows by x = side_of by (facts_of true (shown_of x))

  -- Where content is told: the turn is the one that the queue and the book give which it met, by what it saw. What it
  -- left of that by its cut is what the value shows the member more than before; and what it found in acts aside may be
  -- found there.
  pub record TakesTurn (r : Raced) (x y : Complex P C plants steadies copies) (result : Result Stands NodeNo) : Type 0
    where
      pub taken : Taken
      pub turn : Turn
      pub left : Left
      pub takes : Takes x.base r.by (standing_in r) (asked_in r) taken turn left (shows r.by x) (shows r.by y)
      pub views : (taken.old ≡ plants.view x.plant) × (taken.new ≡ plants.view y.plant)
      pub book : taken.book ≡ x.book
      pub honest : IfActed x.book (stage_of r.stands) (λ s. IsFoundAt x.base.config.groups r.by (plants.view x.plant)
          (plants.view y.plant) (queue_at x.base (shows r.by y).kept r.by taken.place) s taken.found)
      pub cut : IsCutBy result r.by taken.cut (plants.view x.plant) (plants.view y.plant)
      pub next : IfOk result (λ s. stage_of s ≡ stage_left taken.cut turn.next)

  abbrev pub AddsOwn : MemberId → Complex P C plants steadies copies → Complex P C plants steadies copies → Type 0
  AddsOwn by x y = Adds by (parts_of x) (parts_of y)

  abbrev pub Costs : MemberId → Complex P C plants steadies copies → Complex P C plants steadies copies
      → Result Stands NodeNo → Type 0
  Costs by x y result = HasCost plants by (parts_of x) (parts_of y) result
