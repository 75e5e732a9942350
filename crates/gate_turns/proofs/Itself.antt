-- A value that nobody else can change is left as it is, and known.
use Rattle.std.proofs.Common.{◌≡◌, ℕ, refl, subst}
use Rattle.gate_facts.specs.declared.facts.Facts.{Facts}
use Rattle.gate_facts.specs.Memory.{memory_of, Knows, IsLeft}
use Rattle.gate_facts.proofs.Turns.{left_known}

pub left_itself : (m : ℕ) (is : Facts) → IsLeft m (memory_of is) is
left_itself m is = record { base = refl; seen = refl; begun = λ k c. refl; lines = λ k c. refl; stopped = refl; desk = refl; marks = refl }

pub knows_itself : (m : ℕ) (is : Facts) → Knows m (memory_of is) is
knows_itself m is = left_known m (memory_of is) is (left_itself m is)

pub knows_known : (m : ℕ) (was is : Facts) → is ≡ was → Knows m (memory_of was) is
knows_known m was is e = subst (λ (f : Facts). Knows m (memory_of f) is) e (knows_itself m is)
