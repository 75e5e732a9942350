-- What holds of each item holds of the one that is found.
use Rattle.std.proofs.Common.{◌≡◌, Bool, true, false, Some, List, [], ◌∷◌, find, refl, subst}
use Rattle.std.proofs.lemmas.List.Elements.{All-head, All-tail}
use Rattle.std.specs.List.{All}

pub find_holds : {A : Type 0} (P : A → Type 0) (p : A → Bool) (xs : List A) (x : A) → All P xs → find p xs ≡ Some x → P x
find_holds P p [] x all e = absurd (cc)
find_holds P p (y ∷ ys) x all e = by_test (λ f. find_holds P p ys x (All-tail P y ys all) f) (p y) refl
  where
    by_test : (find p ys ≡ Some x → P x) → (v : Bool) → p y ≡ v → P x
    by_test go true h =
        let there : Some y ≡ Some x = rw h at e in
        let same : y ≡ x = cc in
        subst P same (All-head P y ys all)
    by_test go false h = go (rw h at e)
