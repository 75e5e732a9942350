-- Batches that a call leaves in the journal, by how it ended.
use Rattle.member_giving.proofs.Names.{◌≡◌, ℕ, ◌≤◌, List, [], ◌∷◌, ◌++◌, length, Result, Ok, Err, inl, inr, ⊎_elim, append_assoc, append-nil, refl, sym, ◌∙◌, ap, subst, arith, length-append, MemberId, Batch, Entry, NodeNo, ConsoleFault, AreAll, IsKeptBatch, LeavesFirst, LeavesLast, WorkLeaves, all_entries, kept_all}
use Rattle.member_decks.proofs.BatchLemmas.{all_sooner, kept_within}

module _ (by : MemberId) where
  -- the batches that are all kept have their entries
  pub kept_entries : (from now : ℕ) (ess : List (List Entry)) (bs : List Batch) → AreAll by from now ess bs → kept_all bs ≡ all_entries ess
  kept_entries from now [] [] all = refl
  kept_entries from now [] (b ∷ bs) all = absurd all
  kept_entries from now (es ∷ ess) [] all = absurd all
  kept_entries from now (es ∷ ess) (b ∷ bs) all = rw all.0.kept (ap (λ (l : List Entry). l ++ kept_all bs) all.0.entries ∙ ap (λ (l : List Entry). es ++ l) (kept_entries b.last now ess bs all.1))

  -- BEGUN SOONER, KEPT BY NOW

  first_sooner : (why : NodeNo) (sooner from now : ℕ) (ess : List (List Entry)) (bs : List Batch) → sooner ≤ from → LeavesFirst why by from now ess bs → LeavesFirst why by sooner now ess bs
  first_sooner why sooner from now ess [] le leaves = tt
  first_sooner why sooner from now [] (b ∷ bs) le leaves = absurd leaves
  first_sooner why sooner from now (es ∷ ess) (b ∷ bs) le leaves = ⊎_elim
      (λ kept. inl (kept_within by es sooner from now now b le (omega arith) kept.0, kept.1))
      (λ last. inr (
        last.0,
        ⊎_elim
            (λ cut. inl (cut.0, cut.1, kept_within by cut.0 sooner from now now b le (omega arith) cut.2))
            (λ flown. inr (flown.0, flown.1, flown.2, record { by_it = flown.3.by_it; entries = flown.3.entries; flies = flown.3.flies; moments = (omega (arith, le, flown.3.moments.0), flown.3.moments.1, flown.3.moments.2) }))
            last.1,
      ))
      leaves

  -- what an answer leaves since a moment, it leaves since an earlier one too
  work_sooner : (r : Result (Unit {0}) NodeNo) (sooner from now : ℕ) (ess : List (List Entry)) (bs : List Batch) → sooner ≤ from → WorkLeaves r by from now ess bs → WorkLeaves r by sooner now ess bs
  work_sooner (Ok done) sooner from now ess bs le all = all_sooner by sooner from now ess bs le all
  work_sooner (Err ConsoleFault) sooner from now ess bs le all = all_sooner by sooner from now ess bs le all
  work_sooner (Err why) sooner from now ess bs le leaves = first_sooner why sooner from now ess bs le leaves

  -- what an answer leaves after a batch that is kept
  work_next : (r : Result (Unit {0}) NodeNo) (from now : ℕ) (es : List Entry) (ess : List (List Entry)) (b : Batch) (bs : List Batch) → IsKeptBatch by es from now b → WorkLeaves r by b.last now ess bs → WorkLeaves r by from now (es ∷ ess) (b ∷ bs)
  work_next (Ok done) from now es ess b bs k all = (k, all)
  work_next (Err ConsoleFault) from now es ess b bs k all = (k, all)
  work_next (Err _) from now es ess b bs k leaves = inl (k, leaves)

  -- what an answer leaves after batches that are all kept
  pub work_then : (r : Result (Unit {0}) NodeNo) (from mid now : ℕ) (ess : List (List Entry)) (bs : List Batch) (more : List (List Entry)) (cs : List Batch) → from ≤ mid → mid ≤ now → AreAll by from mid ess bs → WorkLeaves r by mid now more cs
      → WorkLeaves r by from now (ess ++ more) (bs ++ cs)
  work_then r from mid now [] [] more cs le1 le2 all leaves = work_sooner r from mid now more cs le1 leaves
  work_then r from mid now [] (b ∷ bs) more cs le1 le2 all leaves = absurd all
  work_then r from mid now (es ∷ ess) [] more cs le1 le2 all leaves = absurd all
  work_then r from mid now (es ∷ ess) (b ∷ bs) more cs le1 le2 all leaves =
      let last = all.0.moments.2 in
      work_next r from now es (ess ++ more) b (bs ++ cs) (kept_within by es from from mid now b (omega arith) le2 all.0) (work_then r b.last mid now ess bs more cs last le2 all.1 leaves)

  -- nothing was begun
  pub work_none : (why : NodeNo) (from now : ℕ) (ess : List (List Entry)) → (why ≡ ConsoleFault → ⊥) → WorkLeaves (Err why) by from now ess []
  work_none ConsoleFault from now ess never = absurd (never refl)
  work_none _ from now ess never = tt

  -- all batches are kept
  pub first_all : (why : NodeNo) (from now : ℕ) (ess : List (List Entry)) (bs : List Batch) → AreAll by from now ess bs → LeavesFirst why by from now ess bs
  first_all why from now ess [] all = tt
  first_all why from now [] (b ∷ bs) all = absurd all
  first_all why from now (es ∷ ess) (b ∷ bs) all = inl (all.0, first_all why b.last now ess bs all.1)

-- NO BATCH, OR ONE, WITH WHICH OTHERS START: it has the first entries of the first of them

abbrev pub StartsAs : List (List Entry) → List (List Entry) → Type 0
StartsAs [] ess = Unit {0}
StartsAs (x ∷ xs) [] = ⊥
StartsAs (x ∷ []) (e ∷ ess) = (1 ≤ length x) × ((m : List Entry) × (e ≡ x ++ m))
StartsAs (x ∷ y ∷ xs) (e ∷ ess) = ⊥

module _ (by : MemberId) (now : ℕ) (why : NodeNo) where
  -- the last batch, of one that has more entries
  last_longer : (from : ℕ) (x m all : List Entry) (b : Batch) → all ≡ x ++ m → LeavesLast why by x from now b → LeavesLast why by all from now b
  last_longer from x m all b is last =
      let longer : (first rest : List Entry) → x ≡ first ++ rest → all ≡ first ++ (rest ++ m) = λ first rest same. is ∙ ap (λ (l : List Entry). l ++ m) same ∙ append_assoc first rest m in
      ⊎_elim
      (λ cut. inl (cut.0, (cut.1.0, (cut.1.1.0 ++ m, longer cut.0 cut.1.1.0 cut.1.1.1, let long = length-append cut.1.1.0 m in let some = cut.1.1.2 in omega (arith, long, some))), cut.2))
      (λ flown. inr (flown.0, flown.1, (flown.2.0, (flown.2.1.0 ++ m, longer flown.1 flown.2.1.0 flown.2.1.1)), flown.3))
      last

  whole_first : (from : ℕ) (x m e : List Entry) (ess : List (List Entry)) (b : Batch) (bs : List Batch) → 1 ≤ length x → e ≡ x ++ m → IsKeptBatch by x from now b → LeavesFirst why by b.last now [] bs → LeavesFirst why by from now (e ∷ ess) (b ∷ bs)
  whole_first from x m e ess b (c ∷ bs) some is kept rest = absurd rest
  whole_first from x [] e ess b [] some is kept rest = inl (subst (λ (es : List Entry). IsKeptBatch by es from now b) (sym (is ∙ append-nil x)) kept, tt)
  whole_first from x (y ∷ m) e ess b [] some is kept rest = inr (refl, inl (x, (some, (y ∷ m, is, omega arith)), kept))

  first_starts : (from : ℕ) (xs ess : List (List Entry)) (bs : List Batch) → StartsAs xs ess → LeavesFirst why by from now xs bs → LeavesFirst why by from now ess bs
  first_starts from xs ess [] starts leaves = tt
  first_starts from [] ess (b ∷ bs) starts leaves = absurd leaves
  first_starts from (x ∷ xs) [] (b ∷ bs) starts leaves = absurd starts
  first_starts from (x ∷ []) (e ∷ ess) (b ∷ bs) starts leaves = ⊎_elim
      (λ kept. whole_first from x starts.1.0 e ess b bs starts.0 starts.1.1 kept.0 kept.1)
      (λ last. inr (last.0, last_longer from x starts.1.0 e b starts.1.1 last.1))
      leaves
  first_starts from (x ∷ y ∷ xs) (e ∷ ess) (b ∷ bs) starts leaves = absurd starts

-- what an error leaves of batches with which others start it leaves of those
pub work_starts : (by : MemberId) (now : ℕ) (why : NodeNo) (from : ℕ) (xs ess : List (List Entry)) (bs : List Batch) → (why ≡ ConsoleFault → ⊥) → StartsAs xs ess → WorkLeaves (Err why) by from now xs bs → WorkLeaves (Err why) by from now ess bs
work_starts by now ConsoleFault from xs ess bs never starts leaves = absurd (never refl)
work_starts by now another from xs ess bs never starts leaves = first_starts by now another from xs ess bs starts leaves
