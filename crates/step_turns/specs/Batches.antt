-- The batches of a sitting: what its units give, part after part, is written as soon as it has as many entries as a
-- batch may, and at the sitting's end.
use Rattle.std.specs.Prelude.{◌≡◌, ℕ, nat_le, Bool, if◌then◌else◌, List, [], ◌∷◌, ◌++◌, length, map}
use Rattle.mas_types.specs.declared.journals.Entry.{Entry}
use Rattle.step_turns.specs.Entries.{all_entries}

-- the entries of a batch
abbrev pub batch_most : ℕ
batch_most = 64

abbrev pub is_full : List Entry → Bool
is_full es = nat_le batch_most (length es)

-- a batch, where there is something to write
abbrev pub batch_of : List Entry → List (List Entry)
batch_of [] = []
batch_of (e ∷ es) = (e ∷ es) ∷ []

-- the batches after a part: what was given since the last batch is written where that is full
abbrev pub cut_after : List Entry → (List Entry → List (List Entry)) → List (List Entry)
cut_after es more = if is_full es then es ∷ more [] else more es

-- the batches of these parts, after entries that aren't written yet
abbrev pub cut : List Entry → List (List Entry) → List (List Entry)
cut so_far [] = batch_of so_far
cut so_far (es ∷ parts) = cut_after (so_far ++ es) (λ unwritten. cut unwritten parts)

-- NO BATCH IS SPLIT IN THE MIDDLE OF A UNIT: each has the whole entries of parts that stand one after another

abbrev pub joined : List (List (List Entry)) → List (List Entry)
joined [] = []
joined (parts ∷ more) = parts ++ joined more

pub record AreWholeParts (parts batches : List (List Entry)) : Type 0 where
  pub groups : List (List (List Entry))
  pub of_parts : joined groups ≡ parts
  pub are : all_entries parts ≡ all_entries batches
  pub cut_there : batches ≡ map all_entries groups
