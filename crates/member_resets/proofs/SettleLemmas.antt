-- The journal once a batch in flight was found out.
use Rattle.std.proofs.Common.{◌≡◌, ◌∙◌, ◌⊎◌, inl, inr, ⊎_elim, ◌≤◌, ℕ, ◌++◌, Bool, true, false, if◌then◌else◌, List, [], ◌∷◌, Option, None, ap, refl, subst, sym, arith}
use Rattle.std.proofs.lemmas.List.Elements.{All-cons, All-head, All-nil, All-tail}
use Rattle.mas_types.specs.declared.ids.MemberId.{MemberId}
use Rattle.mas_types.specs.declared.journals.Batch.{Batch}
use Rattle.mas_types.specs.declared.journals.Entry.{Entry}
use Rattle.mas_types.specs.declared.journals.Fate.{Fate}
use Rattle.mas_types.specs.declared.journals.Fate.TheVariants.{Dropped, Flying, Kept}
use Rattle.mas_types.specs.Journal.{is_flying}
use Rattle.mas_complex.specs.Journals.{AreSettled, end_of}
use Rattle.mas_complex.specs.Parts.{Parts}
use Rattle.member_sittings.specs.Sat.{journal_of}
use Rattle.member_steps.specs.Steps.{AreEarlier, AreKeptFrom, IsKeptBy}
use Rattle.member_resets.specs.Settling.{settle, settled_at, with_found}

-- nothing is in flight or placed
pub journal_still : {P C : Type 0} (x : Parts P C) → x.current ≡ None → x.placed ≡ false → journal_of x ≡ x.batches
journal_still x none unplaced =
    ap (λ (c : Option Batch). end_of x.placed c x.batches) none ∙ ap (λ (p : Bool). end_of p None x.batches) unplaced

pub settle_still : (f : Fate) (at : ℕ) (bs : List Batch) (now : ℕ) → AreSettled bs now → settle f at bs ≡ bs
settle_still f at [] now are = refl
settle_still f at (b ∷ bs) now are =
    ap (λ (c : Batch). c ∷ settle f at bs) (ap (λ (t : Bool). if t then with_found f at b else b) are.0)
    ∙ ap (λ (cs : List Batch). b ∷ cs) (settle_still f at bs now are.3)

-- what nothing was found out of is as it was
pub settle_none : (at : ℕ) (bs : List Batch) → settle Flying at bs ≡ bs
settle_none at [] = refl
settle_none at (b ∷ bs) = ap (λ (c : Batch). c ∷ settle Flying at bs) (same (is_flying b.fate)) ∙ ap (λ (cs : List Batch). b ∷ cs) (settle_none at bs) where
  same : (t : Bool) → (if t then with_found Flying at b else b) ≡ b
  same true = refl
  same false = refl

pub settle_both : (f : Fate) (at : ℕ) (so bs : List Batch) → settle f at (so ++ bs) ≡ settle f at so ++ settle f at bs
settle_both f at [] bs = refl
settle_both f at (a ∷ so) bs = ap (λ (cs : List Batch). settled_at f at a ∷ cs) (settle_both f at so bs)

-- THE ENTRIES stay, and so does the fate of a batch that has one

found_entries : (f : Fate) (at : ℕ) (b : Batch) → (with_found f at b).entries ≡ b.entries
found_entries Kept at b = refl
found_entries Dropped at b = refl
found_entries Flying at b = refl

settled_if : (t : Bool) (f : Fate) (at : ℕ) (b : Batch) → (if t then with_found f at b else b).entries ≡ b.entries
settled_if true f at b = found_entries f at b
settled_if false f at b = refl

pub settled_entries : (f : Fate) (at : ℕ) (b : Batch) → (settled_at f at b).entries ≡ b.entries
settled_entries f at b = settled_if (is_flying b.fate) f at b

kept_stays : (f : Fate) (at : ℕ) (b : Batch) → b.fate ≡ Kept → settled_at f at b ≡ b
kept_stays f at b kept = ap (λ (k : Fate). if is_flying k then with_found f at b else b) kept

-- what is kept of a member stays so
module _ (m : MemberId) (at : ℕ) (f : Fate) (then_at : ℕ) (old now : ℕ) (later : old ≤ now) where
  abbrev Holds : ℕ → Batch → Type 0
  Holds t b = IsKeptBy t b ⊎ AreEarlier m at b.entries

  one_settled : (b : Batch) → Holds old b → Holds now (settled_at f then_at b)
  one_settled b holds = ⊎_elim
      (λ k. subst (λ (c : Batch). Holds now c) (sym (kept_stays f then_at b k.0)) (inl (k.0, let last = k.1 in omega (arith, last, later))))
      (λ e. inr (subst (λ (es : List Entry). AreEarlier m at es) (sym (settled_entries f then_at b)) e)) holds

  pub settled_kept : (bs : List Batch) → AreKeptFrom m at bs old → AreKeptFrom m at (settle f then_at bs) now
  settled_kept [] are = All-nil (Holds now)
  settled_kept (b ∷ bs) are =
      All-cons (Holds now) (settled_at f then_at b) (settle f then_at bs) (one_settled b (All-head (Holds old) b bs are)) (settled_kept bs (All-tail (Holds old) b bs are))
