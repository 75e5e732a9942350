-- Results and options by the cases that they come from.
use Rattle.std.proofs.Common.{◌≡◌, subst, refl, Bool, true, false, if◌then◌else◌, Option, Some, None, Result, Ok, Err}

pub if_ok : {A E : Type 0} (b : Bool) (one other : Result A E) (x : A) (P : Type 0) → (b ≡ true → one ≡ Ok x → P) → (b ≡ false → other ≡ Ok x → P) → (if b then one else other) ≡ Ok x → P
if_ok true one other x P left right e = left refl e
if_ok false one other x P left right e = right refl e

pub if_some : {A : Type 0} (b : Bool) (one other : Option A) (x : A) (P : Type 0) → (b ≡ true → one ≡ Some x → P) → (b ≡ false → other ≡ Some x → P) → (if b then one else other) ≡ Some x → P
if_some true one other x P left right e = left refl e
if_some false one other x P left right e = right refl e

pub not_ok : {A E : Type 0} (why : E) (x : A) (P : Type 0) → ◌≡◌ {A = Result A E} (Err why) (Ok x) → P
not_ok why x P e = absurd (cc)

pub one_ok : {A E : Type 0} (x y : A) (P : A → Type 0) → P x → ◌≡◌ {A = Result A E} (Ok x) (Ok y) → P y
one_ok x y P h e = let same : x ≡ y = cc in subst P same h

pub not_some : {A : Type 0} (x : A) (P : Type 0) → ◌≡◌ {A = Option A} None (Some x) → P
not_some x P e = absurd (cc)

pub one_some : {A : Type 0} (x y : A) (P : A → Type 0) → P x → ◌≡◌ {A = Option A} (Some x) (Some y) → P y
one_some x y P h e = let same : x ≡ y = cc in subst P same h
