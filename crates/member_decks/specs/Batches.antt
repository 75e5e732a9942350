-- The batches of a step, one after another, in the journal.
use Rattle.member_decks.specs.Names.{MemberId, Batch, Entry, top}
use Rattle.std.specs.Prelude.{◌≡◌, ℕ, ◌≤◌, List, [], ◌∷◌, ◌++◌, length}
use Rattle.mas_types.specs.declared.journals.Fate.TheVariants.{Kept, Flying}

-- the member's batch with these entries, begun from a moment on, and kept by now
pub record IsKeptBatch (by : MemberId) (es : List Entry) (from now : ℕ) (b : Batch) : Type 0 where
  pub by_it : b.by ≡ by
  pub entries : b.entries ≡ es
  pub kept : b.fate ≡ Kept
  pub moments : (from ≤ b.first) × (b.first ≤ b.last) × (b.last ≤ now)

-- the member's batch with these entries, begun from a moment on, and in flight to the end
pub record IsFlyingBatch (by : MemberId) (es : List Entry) (from now : ℕ) (b : Batch) : Type 0 where
  pub by_it : b.by ≡ by
  pub entries : b.entries ≡ es
  pub flies : b.fate ≡ Flying
  pub moments : (from ≤ b.first) × (b.first ≤ now) × (b.last ≡ top)

-- the batches with these entries, each kept before the next began
abbrev pub AreAll : MemberId → ℕ → ℕ → List (List Entry) → List Batch → Type 0
AreAll by from now [] [] = Unit {0}
AreAll by from now [] (b ∷ bs) = ⊥
AreAll by from now (es ∷ ess) [] = ⊥
AreAll by from now (es ∷ ess) (b ∷ bs) = IsKeptBatch by es from now b × AreAll by b.last now ess bs

-- after the batches of the front come just those with these entries, each kept before the next began
abbrev pub HasAll : MemberId → ℕ → ℕ → List (List Entry) → List Batch → List Batch → Type 0
HasAll by from now ess front batches = (rest : List Batch) × (batches ≡ front ++ rest) × AreAll by from now ess rest

-- WHERE A STEP ENDS BEFORE ITS BATCHES ARE ALL KEPT

-- the first entries of a batch, or all of them
abbrev pub IsFront : List Entry → List Entry → Type 0
IsFront es all = (1 ≤ length es) × ((rest : List Entry) × (all ≡ es ++ rest))

-- the first entries of a batch, but not all
abbrev pub IsCut : List Entry → List Entry → Type 0
IsCut es all = (1 ≤ length es) × ((rest : List Entry) × (all ≡ es ++ rest) × (1 ≤ length rest))
