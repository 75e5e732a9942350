-- Truth values, beginnings of lists, and places in lists.
use Rattle.std.proofs.Common.{◌≡◌, ℕ, zero, suc, ◌<◌, ◌≤◌, ◌⊎◌, Bool, true, false, List, [], ◌∷◌, ◌++◌, length, refl, sym, ap, subst, ◌∙◌, inl, inr, ⊎_elim, arith, append_assoc}
pub use Rattle.std.proofs.lemmas.Bool.{false_from_ne_true as not_true}
use Rattle.std.proofs.lemmas.List.{length-append, append-nil}
use mathlib.Core.Option.{some, some-injective, some-ne-none}
use lib.ListN.{get_elem?}
use Rattle.mas_types.specs.declared.journals.Entry.{Entry}
use Rattle.gate_facts.specs.Values.{StartsWith}
use Rattle.gate_facts.specs.Memory.{EachOf}

pub true_false : {A : Type 0} (b : Bool) → b ≡ true → b ≡ false → A
true_false b t f = cc

pub same_bool : (a b : Bool) → (b ≡ true → a ≡ true) → (b ≡ false → a ≡ false) → a ≡ b
same_bool a true t f = t refl
same_bool a false t f = f refl

module _ {A : Type 0} where
  pub starts_trans : (a b c : List A) → StartsWith a b → StartsWith b c → StartsWith a c
  starts_trans a b c s t = (t.0 ++ s.0, s.1 ∙ ap (λ l. l ++ s.0) t.1 ∙ append_assoc c t.0 s.0)

  pub starts_length : (a b : List A) → StartsWith a b → length b ≤ length a
  starts_length a b s = let e = ap length s.1 in let l = length-append b s.0 in omega arith

  pub starts_self : (a : List A) → StartsWith a a
  starts_self a = ([], sym (append-nil a))

-- a place that has an item is within the list
pub at_within : {A : Type 0} (l : List A) (k : ℕ) (x : A) → get_elem? l k ≡ some x → k < length l
at_within [] k x e = absurd (some-ne-none x (sym e))
at_within (y ∷ l) zero x e = omega arith
at_within (y ∷ l) (suc k) x e = let r = at_within l k x e in omega arith

-- an item of two lists is one of the first, or of the second
pub at_append : {A : Type 0} (xs ys : List A) (k : ℕ) (x : A) → get_elem? (xs ++ ys) k ≡ some x → (get_elem? xs k ≡ some x) ⊎ ((length xs ≤ k) × ((j : ℕ) × (get_elem? ys j ≡ some x)))
at_append [] ys k x e = inr ((omega arith), (k, e))
at_append (y ∷ xs) ys zero x e = inl e
at_append (y ∷ xs) ys (suc k) x e = ⊎_elim inl (λ t. inr ((let a = t.0 in omega arith), t.1)) (at_append xs ys k x e)

pub each_at : (P : Entry → Type 0) (es : List Entry) (k : ℕ) (e : Entry) → EachOf P es → get_elem? es k ≡ some e → P e
each_at P [] k e all at = absurd (some-ne-none e (sym at))
each_at P (x ∷ es) zero e all at = subst P (some-injective x e at) all.0
each_at P (x ∷ es) (suc k) e all at = each_at P es k e all.1 at
