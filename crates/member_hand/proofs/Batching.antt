-- Batches of a step in the journal, after those of its pieces before.
use Rattle.std.proofs.Common.{ℕ, ◌≤◌, List, [], ◌∷◌, ◌++◌, arith}
use Rattle.mas_types.specs.declared.ids.MemberId.{MemberId}
use Rattle.mas_types.specs.declared.journals.Batch.{Batch}
use Rattle.mas_types.specs.declared.journals.Entry.{Entry}
use Rattle.mas_types.specs.declared.journals.Fate.{Fate}
use Rattle.mas_types.specs.declared.journals.Fate.TheVariants.{Dropped, Flying, Kept}
use Rattle.member_decks.specs.Batches.{IsKeptBatch}
use Rattle.run_turns.specs.Cuts.{kept_all}
use Rattle.run_turns.specs.Scenes.{Batched}
use Rattle.member_hand.specs.Cuts.{AreBatched, IsBatched}

module _ (by : MemberId) where
  one_sooner : (fate : Fate) (x : Batched) (sooner from now : ℕ) (b : Batch) → sooner ≤ from → IsBatched fate by x from now b → IsBatched fate by x sooner now b
  one_sooner Kept x sooner from now b le k = record { by_it = k.by_it; entries = k.entries; kept = k.kept; moments = (omega (arith, le, k.moments.0), k.moments.1, k.moments.2) }
  one_sooner Flying x sooner from now b le f = record { by_it = f.by_it; entries = f.entries; flies = f.flies; moments = (omega (arith, le, f.moments.0), f.moments.1, f.moments.2) }
  one_sooner Dropped x sooner from now b le d = absurd d

  pub batched_sooner : (sooner from now : ℕ) (xs : List Batched) (bs : List Batch) → sooner ≤ from → AreBatched by from now xs bs → AreBatched by sooner now xs bs
  batched_sooner sooner from now [] [] le all = tt
  batched_sooner sooner from now [] (b ∷ bs) le all = absurd all
  batched_sooner sooner from now (x ∷ xs) [] le all = absurd all
  batched_sooner sooner from now (x ∷ xs) (b ∷ bs) le all = (one_sooner x.fate x sooner from now b le all.0, all.1)

  kept_later : (es : List Entry) (from now later : ℕ) (b : Batch) → now ≤ later → IsKeptBatch by es from now b → IsKeptBatch by es from later b
  kept_later es from now later b le k = record { by_it = k.by_it; entries = k.entries; kept = k.kept; moments = (k.moments.0, k.moments.1, omega (arith, le, k.moments.2)) }

  pub batched_later : (from now later : ℕ) (ess : List (List Entry)) (bs : List Batch) → now ≤ later → AreBatched by from now (kept_all ess) bs → AreBatched by from later (kept_all ess) bs
  batched_later from now later [] [] le all = tt
  batched_later from now later [] (b ∷ bs) le all = absurd all
  batched_later from now later (es ∷ ess) [] le all = absurd all
  batched_later from now later (es ∷ ess) (b ∷ bs) le all = (kept_later es from now later b le all.0, batched_later b.last now later ess bs le all.1)

  -- whole batches, and others that began after them
  pub batched_then : (from mid now : ℕ) (ess : List (List Entry)) (bs : List Batch) (ys : List Batched) (cs : List Batch) → from ≤ mid → mid ≤ now
      → AreBatched by from mid (kept_all ess) bs → AreBatched by mid now ys cs → AreBatched by from now (kept_all ess ++ ys) (bs ++ cs)
  batched_then from mid now [] [] ys cs first later all more = batched_sooner from mid now ys cs first more
  batched_then from mid now [] (b ∷ bs) ys cs first later all more = absurd all
  batched_then from mid now (es ∷ ess) [] ys cs first later all more = absurd all
  batched_then from mid now (es ∷ ess) (b ∷ bs) ys cs first later all more =
      (kept_later es from mid now b later all.0, batched_then b.last mid now ess bs ys cs all.0.moments.2 later all.1 more)
