-- What the batches of a journal say of a moment, batch by batch.
use Rattle.mas_complex.specs.Names.{MemberId, Batch, Entry, Fate, Kept, Dropped, Flying, same_member, is_kept, is_flying, is_kept_by, is_flying_at, top}
use Rattle.std.specs.Prelude.{◌≡◌, ℕ, ◌+◌, ◌*◌, ◌^◌, ◌≤◌, ◌==◌, ◌&&◌, if◌then◌else◌, Bool, true, false, List, [], ◌∷◌, ◌++◌, length, Option, Some, None}
use Rattle.std.specs.List.{list_any}

-- what a batch adds to the kept entries of a moment, and to those in flight
abbrev pub kept_of : Batch → ℕ → List Entry
kept_of b t = if is_kept_by t b then b.entries else []

abbrev pub flying_of : Batch → ℕ → List Entry
flying_of b t = if is_flying_at t b then b.entries else []

-- the entries of the batches that were kept by a moment
abbrev pub kept : List Batch → ℕ → List Entry
kept [] t = []
kept (b ∷ bs) t = kept_of b t ++ kept bs t

-- the entries of the batch in flight at a moment
abbrev pub flying : List Batch → ℕ → List Entry
flying [] t = []
flying (b ∷ bs) t = flying_of b t ++ flying bs t

-- the entries of all kept batches
abbrev pub kept_all : List Batch → List Entry
kept_all [] = []
kept_all (b ∷ bs) = (if is_kept b.fate then b.entries else []) ++ kept_all bs

-- how many batches are kept
abbrev pub batches_kept : List Batch → ℕ
batches_kept [] = 0
batches_kept (b ∷ bs) = (if is_kept b.fate then 1 else 0) + batches_kept bs

-- a journal has at most so many batches
abbrev pub journal_most : ℕ
journal_most = 2 ^ 40

-- a batch has at most so many entries
abbrev pub entries_most : ℕ
entries_most = 2 ^ 14

-- as many entries as the batch may have for which the journal keeps a place
abbrev pub room_for : Bool → ℕ
room_for true = entries_most
room_for false = 0

-- the kept entries are no more than the batches of the journal may have, without the one to come
abbrev pub AreFew : Bool → List Batch → Type 0
AreFew placed batches = length (kept_all batches) + room_for placed ≤ entries_most * length batches

-- the batches have their fates, all by this moment
abbrev pub AreSettled : List Batch → ℕ → Type 0
AreSettled [] now = Unit {0}
AreSettled (b ∷ bs) now = (is_flying b.fate ≡ false) × (b.first ≤ b.last) × (b.last ≤ now) × AreSettled bs now

-- the batch in flight, if there is one, began by this moment
abbrev pub IsBegun : Option Batch → ℕ → Type 0
IsBegun None now = Unit {0}
IsBegun (Some b) now = (b.fate ≡ Flying) × (b.first ≤ now)

-- a batch in flight from this moment on
abbrev pub begun : ℕ → MemberId → List Entry → Batch
begun first by entries = record { first = first; last = top; by = by; fate = Flying; entries = entries }

abbrev pub in_flight : Option Batch → List Batch
in_flight None = []
in_flight (Some b) = b ∷ []

abbrev pub entries_in : Option Batch → List Entry
entries_in None = []
entries_in (Some b) = b.entries

abbrev pub entries_reserved : Option (List Entry) → List Entry
entries_reserved None = []
entries_reserved (Some entries) = entries

-- the entries of the batch in flight, or of the one that is reserved
abbrev pub coming : Option Batch → Option (List Entry) → List Entry
coming None reserved = entries_reserved reserved
coming (Some b) reserved = b.entries

abbrev pub is_of_step : MemberId → ℕ → Entry → Bool
is_of_step by at e = same_member e.by by && (e.step == at)

-- the batch has an entry of this member's step
abbrev pub has_step : MemberId → ℕ → List Entry → Bool
has_step by at entries = list_any (is_of_step by at) entries

-- each batch with an entry of this member's step was kept by a moment
abbrev pub StepIsKept : List Batch → ℕ → MemberId → ℕ → Type 0
StepIsKept [] t by at = Unit {0}
StepIsKept (b ∷ bs) t by at = (has_step by at b.entries ≡ true → (b.fate ≡ Kept) × (b.last ≤ t)) × StepIsKept bs t by at

-- the batch with this fate, which it has since a moment
abbrev pub fated : Fate → ℕ → Batch → Batch
fated fate last b = record b { fate = fate; last = last }

-- the place of a batch to come: it has no entries
pub record IsPlace (b : Batch) : Type 0 where
  pub empty : b.entries ≡ []
  pub dropped : b.fate ≡ Dropped

-- the journal ends in the place of a batch to come
pub record EndsInPlace (batches : List Batch) : Type 0 where
  pub before : List Batch
  pub place : Batch
  pub is : batches ≡ before ++ place ∷ []
  pub free : IsPlace place

abbrev pub HasPlace : Bool → List Batch → Type 0
HasPlace false batches = Unit {0}
HasPlace true batches = EndsInPlace batches

-- the batches, the last of which is this one instead
abbrev pub with_last : Batch → List Batch → List Batch
with_last b [] = []
with_last b (a ∷ []) = b ∷ []
with_last b (a ∷ next ∷ bs) = a ∷ with_last b (next ∷ bs)

-- the batches without the last
abbrev pub without_last : List Batch → List Batch
without_last [] = []
without_last (a ∷ []) = []
without_last (a ∷ next ∷ bs) = a ∷ without_last (next ∷ bs)

-- the batches that have their fates, without the place of one to come
abbrev pub past_batches : Bool → List Batch → List Batch
past_batches true batches = without_last batches
past_batches false batches = batches

-- the batches at the end: the batch in flight stands last, or an unused place goes
abbrev pub end_of : Bool → Option Batch → List Batch → List Batch
end_of placed (Some b) batches = with_last b batches
end_of true None batches = without_last batches
end_of false None batches = batches

-- the batch that was in flight stands last in the journal, kept since this moment
abbrev pub IsKeptAt : Option Batch → ℕ → List Batch → List Batch → Type 0
IsKeptAt None now was is = ⊥
IsKeptAt (Some b) now was is = is ≡ with_last (fated Kept now b) was
