-- A member that is idle at a quiet value may take its seat once it holds the lock, and a step that no line tells is told
-- by none once nothing was said.
use Rattle.std.proofs.Common.{◌≡◌, ℕ, ◌≤◌, List, sym, subst}
use Rattle.mas_types.specs.declared.journals.Batch.{Batch}
use Rattle.mas_types.specs.declared.ids.MemberId.{MemberId}
use Rattle.mas_types.specs.declared.queues.Queue.{Queue}
use Rattle.spool_plant.specs.View.{View}
use Rattle.spool_plant.specs.Acts.{Goes}
use Rattle.spool_plant.specs.declared.plant.Plant.{Ghosts as PlantGhosts}
use Rattle.ckpt_copy.specs.declared.copying.Copying.{Ghosts as CopyGhosts}
use Rattle.mas_complex.specs.Crash.{IsUntold, setting}
use Rattle.mas_complex.specs.Parts.{Parts}
use Rattle.member_node.specs.Calls.{console_now}
use Rattle.member_steps.specs.Steps.{AreKeptFrom}
use Rattle.member_steps.proofs.FateLemmas.{kept_from_later}
use Rattle.member_steps.proofs.ReadLemmas.{untold_later}
use Rattle.member_decks.specs.Steps.{AreOf}
use Rattle.member_sittings.specs.Whole.{HasStepKept, HasUntold}

module _ {P C : Type 0} (plants : PlantGhosts P) (copies : CopyGhosts C) (x y : Parts P C) where
  abbrev v : Parts P C → View
  v x = plants.view x.plant

  pub untold_on : (by is : MemberId) (at : ℕ) → is ≡ by → y.base ≡ x.base → y.since ≡ x.since → x.since ≤ (v x).now → Goes (v x) (v y)
      → (plants.tells → console_now (v y) ≡ console_now (v x)) → HasUntold plants copies x by at → HasUntold plants copies y is at
  untold_on by is at same base since begun goes quiet untold = λ t es of.
      subst (λ (b : Queue). IsUntold (setting copies.reads b y.since) (v y) es) (sym base)
      (subst (λ (k : ℕ). IsUntold (setting copies.reads x.base k) (v y) es) (sym since)
      (untold_later copies.reads x.base x.since (v x) (v y) es begun goes (quiet t) (untold t es (subst (λ (i : MemberId). AreOf i at es) same of))))

  -- and so what was given of it is kept still
  pub step_on : (by is : MemberId) (at : ℕ) → is ≡ by → y.batches ≡ x.batches → Goes (v x) (v y) → HasStepKept plants copies x by at → HasStepKept plants copies y is at
  step_on by is at same batches goes step =
      subst (λ (i : MemberId). HasStepKept plants copies y i at) (sym same)
      (subst (λ (bs : List Batch). AreKeptFrom by at bs (v y).now) (sym batches) (kept_from_later by at x.batches (v x).now (v y).now goes.later step))
