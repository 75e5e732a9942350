-- Batches of a step, by how it ended.
use Rattle.member_decks.proofs.Names.{ℕ, ◌≤◌, List, [], ◌∷◌, refl, arith, MemberId, Batch, Entry, Kept, begun, fated, AreAll, IsFlyingBatch, IsKeptBatch}

module _ (by : MemberId) where
  -- BEGUN SOONER, KEPT BY NOW

  pub kept_within : (es : List Entry) (sooner from mid now : ℕ) (b : Batch) → sooner ≤ from → mid ≤ now → IsKeptBatch by es from mid b → IsKeptBatch by es sooner now b
  kept_within es sooner from mid now b le1 le2 k = record { by_it = k.by_it; entries = k.entries; kept = k.kept; moments = (omega (arith, le1, k.moments.0), k.moments.1, omega (arith, le2, k.moments.2)) }

  pub all_sooner : (sooner from now : ℕ) (ess : List (List Entry)) (bs : List Batch) → sooner ≤ from → AreAll by from now ess bs → AreAll by sooner now ess bs
  all_sooner sooner from now [] [] le all = tt
  all_sooner sooner from now [] (b ∷ bs) le all = absurd all
  all_sooner sooner from now (es ∷ ess) [] le all = absurd all
  all_sooner sooner from now (es ∷ ess) (b ∷ bs) le all = (kept_within es sooner from now now b le (omega arith) all.0, all.1)

-- A BATCH THAT BEGAN

module _ (by : MemberId) (from first last now : ℕ) (es : List Entry) (le1 : from ≤ first) where
  pub kept_batch : first ≤ last → last ≤ now → IsKeptBatch by es from now (fated Kept last (begun first by es))
  kept_batch le2 le3 = record { by_it = refl; entries = refl; kept = refl; moments = (le1, le2, le3) }

  pub flying_batch : first ≤ now → IsFlyingBatch by es from now (begun first by es)
  flying_batch le2 = record { by_it = refl; entries = refl; flies = refl; moments = (le1, le2, refl) }
