-- The batches, and one in flight behind them, as the journal has them: only a place is left out, which has no entries.
use Rattle.std.proofs.Common.{◌≡◌, ◌∙◌, Bool, true, false, if◌then◌else◌, List, [], ◌∷◌, ◌++◌, append-nil, All, Option, Some, None, ap, refl, subst, sym}
use Rattle.std.proofs.lemmas.List.Elements.{All-append, All-cons, All-head, All-nil}
use Rattle.mas_types.specs.declared.ids.MemberId.{MemberId}
use Rattle.mas_types.specs.declared.journals.Batch.{Batch}
use Rattle.mas_types.specs.declared.journals.Entry.{Entry}
use Rattle.mas_types.specs.declared.journals.Fate.TheVariants.{Flying}
use Rattle.mas_types.specs.Ids.{same_member}
use Rattle.spool_plant.specs.declared.plant.Plant.{Ghosts as PlantGhosts}
use Rattle.ckpt_copy.specs.declared.copying.Copying.{Ghosts as CopyGhosts}
use Rattle.ckpt_form.specs.declared.steady.Steady.{Ghosts as SteadyGhosts}
use Rattle.gate_turns.specs.Shared.{begun_by}
use Rattle.gate_turns.proofs.Called.{nothing}
use Rattle.gate_turns.proofs.KeptSame.{begun_append}
use Rattle.mas_complex.proofs.Batches.{with_last-append, without_last-append}
use Rattle.mas_complex.specs.declared.complex.Complex.{Complex}
use Rattle.mas_complex.specs.Journals.{EndsInPlace, IsPlace, end_of, in_flight, with_last, without_last}
use Rattle.mas_complex.specs.Parts.{parts_of}
use Rattle.member_sittings.specs.Sat.{journal_of}
use Rattle.member_racing.proofs.Histories.{its_ends, its_flight}
use Rattle.member_racing.proofs.Resting.{all_back, all_front}

abbrev Flies : Bool → Option Batch → Type 0
Flies placed o = (c : Batch) → o ≡ Some c → (placed ≡ true) × (c.fate ≡ Flying)

module _ (js : List Batch) (placed : Bool) (ends : placed ≡ true → EndsInPlace js) where
  -- BATCHES

  module _ (R : Batch → Type 0) (free : (b : Batch) → IsPlace b → R b) where
    flying_back : (c : Batch) → (e : EndsInPlace js) → All R (with_last c js) → All R (js ++ c ∷ [])
    flying_back c e all =
        let there : All R (e.before ++ c ∷ []) = subst (λ (l : List Batch). All R l) (ap (λ (l : List Batch). with_last c l) e.is ∙ with_last-append c e.before e.place) all in
        let front : All R e.before = all_front R e.before (c ∷ []) there in
        let its : R c = All-head R c [] (all_back R e.before (c ∷ []) there) in
        All-append R js (c ∷ []) (subst (λ (l : List Batch). All R l) (sym e.is) (All-append R e.before (e.place ∷ []) front (All-cons R e.place [] (free e.place e.free) (All-nil R)))) (All-cons R c [] its (All-nil R))

    placed_back : (e : EndsInPlace js) → All R (without_last js) → All R js
    placed_back e all =
        let front : All R e.before = subst (λ (l : List Batch). All R l) (ap without_last e.is ∙ without_last-append e.before e.place) all in
        subst (λ (l : List Batch). All R l) (sym e.is) (All-append R e.before (e.place ∷ []) front (All-cons R e.place [] (free e.place e.free) (All-nil R)))

    pub ended_back : (o : Option Batch) → Flies placed o → All R (end_of placed o js) → All R (js ++ in_flight o)
    ended_back (Some c) flies all = flying_back c (ends (flies c refl).0) all
    ended_back None flies all = All-append R js [] (by_placed placed refl all) (All-nil R) where
      by_placed : (t : Bool) → placed ≡ t → All R (end_of t None js) → All R js
      by_placed true is left = placed_back (ends is) left
      by_placed false is left = left

  -- ENTRIES of a member

  none_of : (m : MemberId) (b : Batch) → IsPlace b → begun_by m (b ∷ []) ≡ []
  none_of m b free = append-nil (if same_member b.by m then b.entries else []) ∙ nothing (same_member b.by m) b.entries free.empty

  without_place : (m : MemberId) (e : EndsInPlace js) → begun_by m js ≡ begun_by m e.before
  without_place m e =
      ap (begun_by m) e.is ∙ begun_append m e.before (e.place ∷ []) ∙ ap (λ (es : List Entry). begun_by m e.before ++ es) (none_of m e.place e.free)
      ∙ append-nil (begun_by m e.before)

  pub ended_begun : (m : MemberId) (o : Option Batch) → Flies placed o → begun_by m (js ++ in_flight o) ≡ begun_by m (end_of placed o js)
  ended_begun m (Some c) flies =
      let e : EndsInPlace js = ends (flies c refl).0 in
      begun_append m js (c ∷ []) ∙ ap (λ (es : List Entry). es ++ begun_by m (c ∷ [])) (without_place m e) ∙ sym (begun_append m e.before (c ∷ []))
      ∙ ap (begun_by m) (sym (ap (λ (l : List Batch). with_last c l) e.is ∙ with_last-append c e.before e.place))
  ended_begun m None flies = ap (begun_by m) (append-nil js) ∙ by_placed placed refl where
    by_placed : (t : Bool) → placed ≡ t → begun_by m js ≡ begun_by m (end_of t None js)
    by_placed true is =
        let e : EndsInPlace js = ends is in
        without_place m e ∙ ap (begun_by m) (sym (ap without_last e.is ∙ without_last-append e.before e.place))
    by_placed false is = refl

-- OF ANY SHARED VALUE

module _ {P C : Type 0} {plants : PlantGhosts P} {steadies : SteadyGhosts C} {copies : CopyGhosts C} (y : Complex P C plants steadies copies) where
  -- what holds of the journal's batches and of each place
  pub batches_all : (R : Batch → Type 0) → ((b : Batch) → IsPlace b → R b) → All R (journal_of (parts_of y)) → All R (y.journal.batches ++ in_flight y.current)
  batches_all R free all = ended_back y.journal.batches y.placed (its_ends y) R free y.current (its_flight y) all

  pub journal_begun : (m : MemberId) → begun_by m (y.journal.batches ++ in_flight y.current) ≡ begun_by m (journal_of (parts_of y))
  journal_begun m = ended_begun y.journal.batches y.placed (its_ends y) m y.current (its_flight y)
