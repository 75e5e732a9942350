-- A turn that is ended: what its member gave is kept still once what it had reserved is given up.
use Rattle.std.proofs.Common.{ℕ, ◌⊎◌, Bool, true, false, List, [], ◌∷◌, ◌++◌, All, Option, Some, None}
use Rattle.std.proofs.lemmas.List.Elements.{All-append, All-cons, All-head, All-nil, All-tail}
use Rattle.mas_types.specs.declared.ids.MemberId.{MemberId}
use Rattle.mas_types.specs.declared.journals.Batch.{Batch}
use Rattle.mas_complex.specs.Journals.{in_flight}
use Rattle.mas_complex.specs.Parts.{batches_left}
use Rattle.member_steps.specs.Steps.{AreEarlier, AreKeptFrom, IsKeptBy}
use Rattle.member_racing.proofs.Resting.{all_back, all_front}

module _ (m : MemberId) (at now : ℕ) where
  abbrev Holds : Batch → Type 0
  Holds b = IsKeptBy now b ⊎ AreEarlier m at b.entries

  without : (bs : List Batch) → All Holds bs → All Holds (batches_left true None bs)
  without [] are = are
  without (a ∷ []) are = All-nil Holds
  without (a ∷ b ∷ bs) are = All-cons Holds a (batches_left true None (b ∷ bs)) (All-head Holds a (b ∷ bs) are) (without (b ∷ bs) (All-tail Holds a (b ∷ bs) are))

  left_of : (placed : Bool) (o : Option Batch) (bs : List Batch) → All Holds bs → All Holds (batches_left placed o bs)
  left_of true None bs are = without bs are
  left_of false None bs are = are
  left_of true (Some c) bs are = are
  left_of false (Some c) bs are = are

  pub kept_left : (placed : Bool) (o : Option Batch) (bs : List Batch) → AreKeptFrom m at (bs ++ in_flight o) now → AreKeptFrom m at (batches_left placed o bs ++ in_flight o) now
  kept_left placed o bs are =
      All-append Holds (batches_left placed o bs) (in_flight o) (left_of placed o bs (all_front Holds bs (in_flight o) are)) (all_back Holds bs (in_flight o) are)
