-- Cases on a test.
use Rattle.std.proofs.Common.{◌≡◌, Bool, true, false, refl}

-- cases on a test, with what it gave
pub test_cases : (b : Bool) (P : Type 0) → (b ≡ true → P) → (b ≡ false → P) → P
test_cases true P at_true at_false = at_true refl
test_cases false P at_true at_false = at_false refl
