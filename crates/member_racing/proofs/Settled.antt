-- What a journal keeps once its batch in flight was found out: what it kept, and that batch where it was found kept.
use Rattle.std.proofs.Common.{◌≡◌, ◌∙◌, ℕ, Bool, true, false, if◌then◌else◌, List, [], ◌∷◌, ◌++◌, append-nil, All, Option, Some, None, ap, refl, subst, sym}
use Rattle.std.proofs.lemmas.List.Elements.{All-cons, All-head, All-nil, All-tail}
use Rattle.mas_types.specs.declared.ids.MemberId.{MemberId}
use Rattle.mas_types.specs.declared.journals.Batch.{Batch}
use Rattle.mas_types.specs.declared.journals.Entry.{Entry}
use Rattle.mas_types.specs.declared.journals.Fate.{Fate}
use Rattle.mas_types.specs.declared.journals.Fate.TheVariants.{Dropped, Flying, Kept}
use Rattle.mas_types.specs.Ids.{same_member}
use Rattle.mas_types.specs.Journal.{is_flying, is_kept}
use Rattle.spool_plant.specs.declared.plant.Plant.{Ghosts as PlantGhosts}
use Rattle.ckpt_copy.specs.declared.copying.Copying.{Ghosts as CopyGhosts}
use Rattle.ckpt_form.specs.declared.steady.Steady.{Ghosts as SteadyGhosts}
use Rattle.gate_turns.specs.Shared.{begun_by}
use Rattle.mas_complex.proofs.Batches.{with_last-append, kept_all_append, placed_all}
use Rattle.mas_complex.specs.declared.complex.Complex.{Complex}
use Rattle.mas_complex.specs.Journals.{AreSettled, EndsInPlace, end_of, kept_all, with_last}
use Rattle.mas_complex.specs.Parts.{batches_left, parts_of}
use Rattle.member_sittings.specs.Sat.{journal_of}
use Rattle.member_resets.specs.Settling.{settle, settled_at, with_found}
use Rattle.member_resets.proofs.Flights.{settled_left}
use Rattle.member_racing.proofs.Histories.{its_ends, its_flight, journal_kept}
use Rattle.member_resets.proofs.SettleLemmas.{settle_both, settle_still, settled_entries}

-- ENTRIES AND MEMBERS STAY

found_by : (f : Fate) (at : ℕ) (b : Batch) → (with_found f at b).by ≡ b.by
found_by Kept at b = refl
found_by Dropped at b = refl
found_by Flying at b = refl

settled_by : (f : Fate) (at : ℕ) (b : Batch) → (settled_at f at b).by ≡ b.by
settled_by f at b = either (is_flying b.fate) where
  either : (t : Bool) → (if t then with_found f at b else b).by ≡ b.by
  either true = found_by f at b
  either false = refl

pub settle_begun : (m : MemberId) (f : Fate) (at : ℕ) (bs : List Batch) → begun_by m (settle f at bs) ≡ begun_by m bs
settle_begun m f at [] = refl
settle_begun m f at (b ∷ bs) =
    ap (λ (k : MemberId). (if same_member k m then (settled_at f at b).entries else []) ++ begun_by m (settle f at bs)) (settled_by f at b)
    ∙ ap (λ (es : List Entry). (if same_member b.by m then es else []) ++ begun_by m (settle f at bs)) (settled_entries f at b)
    ∙ ap (λ (es : List Entry). (if same_member b.by m then b.entries else []) ++ es) (settle_begun m f at bs)

-- what is said of a batch by its member and its entries
pub settle_all : (R : MemberId → List Entry → Type 0) (f : Fate) (at : ℕ) (bs : List Batch) → All (λ (b : Batch). R b.by b.entries) bs → All (λ (b : Batch). R b.by b.entries) (settle f at bs)
settle_all R f at [] all = All-nil (λ (b : Batch). R b.by b.entries)
settle_all R f at (b ∷ bs) all =
    All-cons (λ (b : Batch). R b.by b.entries) (settled_at f at b) (settle f at bs)
    (subst (λ (k : MemberId). R k (settled_at f at b).entries) (sym (settled_by f at b)) (subst (λ (es : List Entry). R b.by es) (sym (settled_entries f at b)) (All-head (λ (b : Batch). R b.by b.entries) b bs all)))
    (settle_all R f at bs (All-tail (λ (b : Batch). R b.by b.entries) b bs all))

-- WHAT IS KEPT

-- of the batch in flight, once this was found of it
abbrev pub found_of : Fate → Option Batch → List Entry
found_of Kept (Some c) = c.entries
found_of Kept None = []
found_of Dropped o = []
found_of Flying o = []

none_found : (f : Fate) → found_of f None ≡ []
none_found Kept = refl
none_found Dropped = refl
none_found Flying = refl

module _ (js : List Batch) (now : ℕ) (settled : AreSettled js now) where
  front_settled : (before : List Batch) (place : Batch) → AreSettled (before ++ place ∷ []) now → AreSettled before now
  front_settled [] place are = tt
  front_settled (a ∷ before) place are = (are.0, are.1, are.2, front_settled before place are.3)

  flying_kept : (f : Fate) (at : ℕ) (c : Batch) → c.fate ≡ Flying → (if is_kept (with_found f at c).fate then (with_found f at c).entries else []) ++ [] ≡ found_of f (Some c)
  flying_kept Kept at c flies = append-nil c.entries
  flying_kept Dropped at c flies = refl
  flying_kept Flying at c flies = ap (λ (g : Fate). (if is_kept g then c.entries else []) ++ []) flies

  some_kept : (f : Fate) (at : ℕ) (c : Batch) → c.fate ≡ Flying → EndsInPlace js → kept_all (settle f at (with_last c js)) ≡ kept_all js ++ found_of f (Some c)
  some_kept f at c flies e =
      let there : with_last c js ≡ e.before ++ c ∷ [] = ap (λ (l : List Batch). with_last c l) e.is ∙ with_last-append c e.before e.place in
      let still : settle f at e.before ≡ e.before = settle_still f at e.before now (front_settled e.before e.place (subst (λ (l : List Batch). AreSettled l now) e.is settled)) in
      ap (λ (l : List Batch). kept_all (settle f at l)) there ∙ ap kept_all (settle_both f at e.before (c ∷ []))
      ∙ ap (λ (l : List Batch). kept_all (l ++ settled_at f at c ∷ [])) still
      ∙ ap (λ (g : Fate). kept_all (e.before ++ (if is_flying g then with_found f at c else c) ∷ [])) flies
      ∙ kept_all_append e.before (with_found f at c ∷ []) ∙ ap (λ (es : List Entry). kept_all e.before ++ es) (flying_kept f at c flies)
      ∙ ap (λ (es : List Entry). es ++ found_of f (Some c)) (sym (ap kept_all e.is ∙ placed_all e.place e.free e.before))

  none_kept : (placed : Bool) (f : Fate) (at : ℕ) → settle f at (end_of placed None js) ≡ end_of placed None js
  none_kept true f at = settle_still f at (batches_left true None js) now (settled_left true None js now settled)
  none_kept false f at = settle_still f at js now settled

module _ {P C : Type 0} {plants : PlantGhosts P} {steadies : SteadyGhosts C} {copies : CopyGhosts C} (x : Complex P C plants steadies copies) where
  pub kept_settled : (f : Fate) (at : ℕ) → kept_all (settle f at (journal_of (parts_of x))) ≡ kept_all x.journal.batches ++ found_of f x.current
  kept_settled f at = by_current x.current refl where
    by_current : (o : Option Batch) → x.current ≡ o → kept_all (settle f at (journal_of (parts_of x))) ≡ kept_all x.journal.batches ++ found_of f o
    by_current None is =
        ap (λ (o : Option Batch). kept_all (settle f at (end_of x.placed o x.journal.batches))) is
        ∙ ap kept_all (none_kept x.journal.batches (plants.view x.plant).now x.settled x.placed f at)
        ∙ ap (λ (o : Option Batch). kept_all (end_of x.placed o x.journal.batches)) (sym is)
        ∙ journal_kept x ∙ sym (append-nil (kept_all x.journal.batches)) ∙ ap (λ (es : List Entry). kept_all x.journal.batches ++ es) (sym (none_found f))
    by_current (Some c) is =
        let flies = its_flight x c is in
        ap (λ (o : Option Batch). kept_all (settle f at (end_of x.placed o x.journal.batches))) is
        ∙ some_kept x.journal.batches (plants.view x.plant).now x.settled f at c flies.1 (its_ends x flies.0)
