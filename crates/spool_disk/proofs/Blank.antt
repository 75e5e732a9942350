-- Zeroed devices are whole.
use Rattle.std.proofs.Common.{◌≡◌, ◌⊎◌, inl, inr, ⊎_elim, ℕ, ◌≤◌, ◌<◌, nat_le, Bool, true, false, List, length, replicate, Vec, refl, sym, ◌∙◌, ap, arith}
use Rattle.std.proofs.lemmas.Bool.Decides.{nat_tests}
use Rattle.std.proofs.lemmas.List.{length-replicate}
use Rattle.std.specs.declared.alloc.Global.{Global}
use Rattle.spool_disk.specs.declared.sizes.Sizes.{Sizes}
use Rattle.spool_disk.specs.Standing.{bytes_at}
use Rattle.spool_disk.specs.Sizes.{size_in}
use Rattle.spool_disk.proofs.Slots.{at_past}

split : (n s : ℕ) → (n ≤ s) ⊎ (s < n)
split n s = by_test (nat_le n s) refl where
  by_test : (b : Bool) → nat_le n s ≡ b → (n ≤ s) ⊎ (s < n)
  by_test true e = inl (grind (arith, nat_tests))
  by_test false e = inr (grind (arith, nat_tests))

pub whole_blank : (sizes : Sizes) (start : List (Vec ℕ Global)) → length start ≡ 258 → ((slot : ℕ) → slot < 258 → bytes_at start slot ≡ replicate (size_in sizes slot) 0) → ((slot : ℕ) → 258 ≤ slot → size_in sizes slot ≡ 0)
    → (slot : ℕ) → length (bytes_at start slot) ≡ size_in sizes slot
whole_blank sizes start many each none slot = ⊎_elim
    (λ le. ap (λ (l : List ℕ). length l) (at_past start slot (omega (arith, many, le))) ∙ sym (none slot le))
    (λ lt. ap (λ (l : List ℕ). length l) (each slot lt) ∙ length-replicate (size_in sizes slot) 0)
    (split 258 slot)
