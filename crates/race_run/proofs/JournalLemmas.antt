-- The journal of a value between two turns, as it is handed out.
use Rattle.std.proofs.Common.{◌≡◌, ◌∙◌, Bool, true, false, if◌then◌else◌, List, [], ◌∷◌, ◌++◌, length, take, append-nil, append_assoc, Option, Some, None, refl, sym, ap, arith}
use Rattle.std.proofs.Math.Logic.{∥∥₁_elim}
use Rattle.std.specs.Coded.{Coded-set, coded_list}
use Rattle.std.proofs.lemmas.List.{take-append-le, take_all}
use Rattle.std.proofs.lemmas.List.Elements.{All-append, All-same, All-take}
use Rattle.std.specs.Prelude.{All, IsSome, slice_index_or}
use Rattle.mas_types.specs.contracts.journals.Entry.{the_row as entry_row}
use Rattle.mas_types.specs.declared.ids.MemberId.{MemberId}
use Rattle.mas_types.specs.declared.journals.Batch.{Batch}
use Rattle.mas_types.specs.declared.journals.Entry.{Entry}
use Rattle.mas_types.specs.declared.journals.Fate.{Fate}
use Rattle.mas_types.specs.Ids.{same_member}
use Rattle.mas_types.specs.Journal.{is_kept}
use Rattle.spool_plant.specs.declared.plant.Plant.{Ghosts as PlantGhosts}
use Rattle.ckpt_copy.specs.declared.copying.Copying.{Ghosts as CopyGhosts}
use Rattle.ckpt_form.specs.declared.steady.Steady.{Ghosts as SteadyGhosts}
use Rattle.mas_complex.specs.declared.complex.Complex.{Complex}
use Rattle.mas_complex.specs.Journals.{HasPlace, IsBegun, end_of, in_flight, kept_all, with_last, without_last}
use Rattle.mas_complex.specs.Parts.{parts_of}
use Rattle.mas_complex.proofs.Batches.{with_last-append, without_last-append, kept_all_append, placed_all}
use Rattle.gate_turns.specs.Shared.{begun_by}
use Rattle.member_sittings.specs.Sat.{journal_of}

-- THE ENTRIES THAT A MEMBER BEGAN

begun_more : (m : MemberId) (js ks : List Batch) → begun_by m (js ++ ks) ≡ begun_by m js ++ begun_by m ks
begun_more m [] ks = refl
begun_more m (j ∷ js) ks =
    ap (λ (es : List Entry). (if same_member j.by m then j.entries else []) ++ es) (begun_more m js ks)
    ∙ sym (append_assoc (if same_member j.by m then j.entries else []) (begun_by m js) (begun_by m ks))

nothing_begun : (b : Bool) (es : List Entry) → es ≡ [] → (if b then es else []) ++ [] ≡ []
nothing_begun true es empty = append-nil es ∙ empty
nothing_begun false es empty = refl

begun_place : (m : MemberId) (js : List Batch) (place : Batch) → place.entries ≡ [] → begun_by m (js ++ place ∷ []) ≡ begun_by m js
begun_place m js place empty =
    begun_more m js (place ∷ []) ∙ ap (λ (es : List Entry). begun_by m js ++ es) (nothing_begun (same_member place.by m) place.entries empty)
    ∙ append-nil (begun_by m js)

-- THE JOURNAL without what is in flight

pub record Front (batches : List Batch) (placed : Bool) (current : Option Batch) : Type 0 where
  pub before : List Batch
  pub journal : end_of placed current batches ≡ before ++ in_flight current
  pub kept : kept_all batches ≡ kept_all before
  pub begun : (m : MemberId) → begun_by m batches ≡ begun_by m before
  pub more : List Batch
  pub is : batches ≡ before ++ more

all_before : (P : Batch → Type 0) (before more : List Batch) → All P (before ++ more) → All P before
all_before P before more all =
    All-same P before (take (length before) (before ++ more)) (sym (take-append-le (length before) before more (omega arith) ∙ take_all (length before) before (omega arith))) (All-take P (length before) (before ++ more) all)

pub front_of : (batches : List Batch) (placed : Bool) (current : Option Batch) → (IsSome current → placed ≡ true)
    → HasPlace placed batches → Front batches placed current
front_of batches false None some p = record { before = batches; journal = sym (append-nil batches); kept = refl; begun = λ m. refl; more = []; is = sym (append-nil batches) }
front_of batches false (Some b) some p = absurd (clash (some refl)) where
  clash : false ≡ true → ⊥
  clash e = cc
front_of batches true None some p = record {
  before = p.before;
  journal = ap without_last p.is ∙ without_last-append p.before p.place ∙ sym (append-nil p.before);
  kept = ap kept_all p.is ∙ placed_all p.place p.free p.before;
  begun = λ m. ap (begun_by m) p.is ∙ begun_place m p.before p.place p.free.empty;
  more = p.place ∷ [];
  is = p.is;
}
front_of batches true (Some b) some p = record {
  before = p.before;
  journal = ap (with_last b) p.is ∙ with_last-append b p.before p.place;
  kept = ap kept_all p.is ∙ placed_all p.place p.free p.before;
  begun = λ m. ap (begun_by m) p.is ∙ begun_place m p.before p.place p.free.empty;
  more = p.place ∷ [];
  is = p.is;
}

-- what is in flight isn't kept
front_kept : (current : Option Batch) (now : _) (before : List Batch) → IsBegun current now
    → kept_all (before ++ in_flight current) ≡ kept_all before
front_kept None now before begun = ap kept_all (append-nil before)
front_kept (Some b) now before begun =
    kept_all_append before (b ∷ [])
    ∙ ap (λ (f : Fate). kept_all before ++ ((if is_kept f then b.entries else []) ++ [])) begun.0
    ∙ append-nil (kept_all before)

-- THE VALUE'S

module _ {P C : Type 0} {plants : PlantGhosts P} {steadies : SteadyGhosts C} {copies : CopyGhosts C} (x : Complex P C plants steadies copies) where
  pub kept_is : kept_all (journal_of (parts_of x)) ≡ kept_all x.journal.batches
  kept_is = ∥∥₁_elim x.place (Coded-set (coded_list entry_row.coded) _ _) (λ p.
      let f = front_of x.journal.batches x.placed x.current x.place_current p in
      ap kept_all f.journal ∙ front_kept x.current _ f.before x.begun ∙ sym f.kept)

  pub begun_is : (m : MemberId) → begun_by m (x.journal.batches ++ in_flight x.current) ≡ begun_by m (journal_of (parts_of x))
  begun_is m = ∥∥₁_elim x.place (Coded-set (coded_list entry_row.coded) _ _) (λ p.
      let f = front_of x.journal.batches x.placed x.current x.place_current p in
      begun_more m x.journal.batches (in_flight x.current) ∙ ap (λ (es : List Entry). es ++ begun_by m (in_flight x.current)) (f.begun m)
      ∙ sym (begun_more m f.before (in_flight x.current)) ∙ ap (begun_by m) (sym f.journal))

  -- what holds of each batch of it, and of the one in flight, holds of the journal's
  pub all_handed : (P : Batch → Type 0) → ((b : Batch) → IsProp (P b)) → All P x.journal.batches → All P (in_flight x.current)
      → All P (journal_of (parts_of x))
  all_handed P prop all flies = ∥∥₁_elim x.place (λ a b i k d lt. prop (slice_index_or (journal_of (parts_of x)) k d) (a k d lt) (b k d lt) i) (λ p.
      let f = front_of x.journal.batches x.placed x.current x.place_current p in
      All-same P (journal_of (parts_of x)) (f.before ++ in_flight x.current) f.journal
      (All-append P f.before (in_flight x.current) (all_before P f.before f.more (All-same P (f.before ++ f.more) x.journal.batches (sym f.is) all)) flies))
