-- What is free after a Take.
use Rattle.std.proofs.Common.{◌≡◌, ℕ, ◌+◌, ◌-◌, ◌<◌, nat_lt, Bool, true, false, if◌then◌else◌, List, [], ◌∷◌, refl, ap, ◌∙◌, arith}
use Rattle.std.proofs.lemmas.Bool.Decides.{nat_tests}
use Rattle.std.proofs.lemmas.List.Sums.{sum_by-cons}
use Rattle.std.specs.Prelude.{count_by}
use Rattle.mas_types.specs.declared.ids.MemberId.{MemberId}
use Rattle.mas_types.specs.declared.queues.Owner.{Owner}
use Rattle.mas_types.specs.declared.queues.Owner.TheVariants as owner
use Rattle.mas_types.specs.Owners.{free_count, is_free, taken}
use Rattle.queue_laws.proofs.Finds.{test_cases}

module _ (p : Owner → Bool) (o : Owner) (gs : List Owner) where
  count_by-cons_yes : p o ≡ true → count_by p (o ∷ gs) ≡ 1 + count_by p gs
  count_by-cons_yes h = rw (sum_by-cons (λ y. if p y then 1 else 0) o gs, h) refl

  count_by-cons_no : p o ≡ false → count_by p (o ∷ gs) ≡ count_by p gs
  count_by-cons_no h = rw (sum_by-cons (λ y. if p y then 1 else 0) o gs, h) (omega arith)

module _ (m : MemberId) where
  not_free : (want : ℕ) (o : Owner) (gs : List Owner) → is_free o ≡ false → free_count (taken m want gs) ≡ free_count gs - want → free_count (taken m want (o ∷ gs)) ≡ free_count (o ∷ gs) - want
  not_free want o gs e more =
      let same : taken m want (o ∷ gs) ≡ o ∷ taken m want gs = rw e refl in
      let here : free_count (taken m want (o ∷ gs)) ≡ free_count (taken m want gs) = ap free_count same ∙ count_by-cons_no is_free o (taken m want gs) e in
      let free : free_count (o ∷ gs) ≡ free_count gs = count_by-cons_no is_free o gs e in
      omega (arith, here, free, more)

  pub free_then : (want : ℕ) (gs : List Owner) → free_count (taken m want gs) ≡ free_count gs - want
  free_then want [] = omega arith
  free_then want (owner.Free ∷ gs) =
      let free : free_count (owner.Free ∷ gs) ≡ 1 + free_count gs = count_by-cons_yes is_free owner.Free gs refl in
      test_cases (nat_lt 0 want) (free_count (taken m want (owner.Free ∷ gs)) ≡ free_count (owner.Free ∷ gs) - want)
      (λ e. let some : 0 < want = grind (arith, nat_tests) in
      let same : taken m want (owner.Free ∷ gs) ≡ owner.Member m ∷ taken m (want - 1) gs = rw e refl in
      let here : free_count (taken m want (owner.Free ∷ gs)) ≡ free_count (taken m (want - 1) gs) = ap free_count same ∙ count_by-cons_no is_free (owner.Member m) (taken m (want - 1) gs) refl in
      let more = free_then (want - 1) gs in
      omega (arith, here, free, more, some))
      (λ e. let none : want ≡ 0 = grind (arith, nat_tests) in
      let same : taken m want (owner.Free ∷ gs) ≡ owner.Free ∷ taken m want gs = rw e refl in
      let here : free_count (taken m want (owner.Free ∷ gs)) ≡ 1 + free_count (taken m want gs) = ap free_count same ∙ count_by-cons_yes is_free owner.Free (taken m want gs) refl in
      let more = free_then want gs in
      omega (arith, here, free, more, none))
  free_then want (owner.Member h ∷ gs) = not_free want (owner.Member h) gs refl (free_then want gs)
  free_then want (owner.Deck n p ∷ gs) = not_free want (owner.Deck n p) gs refl (free_then want gs)
  free_then want (owner.Output n i p ∷ gs) = not_free want (owner.Output n i p) gs refl (free_then want gs)
