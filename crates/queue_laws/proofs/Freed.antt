-- Groups that become Free, and lists of which each item is changed.
use Rattle.std.proofs.Common.{◌≡◌, Bool, true, false, ◌||◌, List, [], ◌∷◌, map, refl, ap}
use Rattle.std.specs.Prelude.{if◌then◌else◌}
use Rattle.std.specs.List.{list_any, All}
use Rattle.std.proofs.lemmas.List.Elements.{All-cons, All-head, All-tail, All-nil}
use Rattle.mas_types.specs.declared.queues.Owner.{Owner}
use Rattle.mas_types.specs.declared.queues.Owner.TheVariants as owner
use Rattle.mas_types.specs.Owners.{freed}
use Rattle.mas_types.specs.Fit.{AreDistinct}
use Rattle.mas_types.specs.Sound.{same_place}
use Rattle.queue_laws.proofs.Finds.{test_cases}

-- EACH ITEM CHANGED

module _ {A : Type 0} (f : A → A) where
  -- items that are apart stay so
  any-map_weaker : (t u : A → Bool) → ((y : A) → t y ≡ false → u (f y) ≡ false) → (xs : List A) → list_any t xs ≡ false → list_any u (map f xs) ≡ false
  any-map_weaker t u apart [] h = refl
  any-map_weaker t u apart (y ∷ ys) h =
      test_cases (t y) (list_any u (map f (y ∷ ys)) ≡ false)
      (λ e. absurd (let w = rw e at h in cc))
      (λ e. rw (apart y e) (any-map_weaker t u apart ys (rw e at h)))

  pub AreDistinct-map : (same : A → A → Bool) → ((x y : A) → same x y ≡ false → same (f x) (f y) ≡ false) → (xs : List A) → AreDistinct same xs → AreDistinct same (map f xs)
  AreDistinct-map same apart [] d = d
  AreDistinct-map same apart (x ∷ xs) d = (any-map_weaker (same x) (same (f x)) (apart x) xs d.0, AreDistinct-map same apart xs d.1)

-- GROUPS FREED

module _ (test : Owner → Bool) where
  -- what holds of no freed group holds of the same groups as before
  pub any-freed : (t : Owner → Bool) → t owner.Free ≡ false → ((g : Owner) → test g ≡ true → t g ≡ false) → (gs : List Owner) → list_any t (freed test gs) ≡ list_any t gs
  any-freed t free other [] = refl
  any-freed t free other (g ∷ gs) =
      test_cases (test g) (list_any t (freed test (g ∷ gs)) ≡ list_any t (g ∷ gs))
      (λ e. rw (e, free, other g e) (any-freed t free other gs))
      (λ e. rw e (ap (λ b. t g || b) (any-freed t free other gs)))

  -- what holds of Free and of each group that isn't freed holds of each
  pub All-freed : (P R : Owner → Type 0) → R owner.Free → ((g : Owner) → test g ≡ false → P g → R g) → (gs : List Owner) → All P gs → All R (freed test gs)
  All-freed P R free kept [] all = All-nil R
  All-freed P R free kept (g ∷ gs) all =
      All-cons R (if test g then owner.Free else g) (freed test gs)
      (test_cases (test g) (R (if test g then owner.Free else g)) (λ e. rw e free) (λ e. rw e (kept g e (All-head P g gs all))))
      (All-freed P R free kept gs (All-tail P g gs all))

no_place_free : (g : Owner) → same_place g owner.Free ≡ false
no_place_free owner.Free = refl
no_place_free (owner.Member m) = refl
no_place_free (owner.Deck n p) = refl
no_place_free (owner.Output n i p) = refl

free_no_place : (g : Owner) → same_place owner.Free g ≡ false
free_no_place g = refl

pub places-freed : (test : Owner → Bool) (gs : List Owner) → AreDistinct same_place gs → AreDistinct same_place (freed test gs)
places-freed test gs = AreDistinct-map (λ g. if test g then owner.Free else g) same_place apart gs
  where
    apart : (x y : Owner) → same_place x y ≡ false → same_place (if test x then owner.Free else x) (if test y then owner.Free else y) ≡ false
    apart x y h =
        test_cases (test x) (same_place (if test x then owner.Free else x) (if test y then owner.Free else y) ≡ false)
        (λ e. rw e refl)
        (λ e. rw e (test_cases (test y) (same_place x (if test y then owner.Free else y) ≡ false) (λ d. rw d (no_place_free x)) (λ d. rw d h)))
