-- What the test of one entry says.
use Rattle.std.proofs.Common.{◌≡◌, ℕ, true, false, List, Option, None, Some, Result, Ok, Err, sym, ◌∙◌}
use Rattle.std.specs.Prelude.{OnOk, IfOk, IfErr}
use Rattle.std.specs.Result.{is_ok}
use Rattle.ckpt_pages.specs.Testing.{SpellsOne}

pub passed : {T E : Type 0} (P : Type 0) (r : Result T E) → OnOk r P → is_ok r ≡ true → P
passed P (Ok x) h e = h
passed P (Err x) h e = absurd (cc)

pub refused : {T E : Type 0} (o : Option ℕ) (number : E → ℕ) (r : Result T E) → IfErr r (λ e. o ≡ Some (number e)) → is_ok r ≡ false → o ≡ None → ⊥
refused o number (Ok x) h e none = absurd (cc)
refused o number (Err x) h e none = absurd (cc)

pub read_one : {X E : Type 0} (Fits : X → Type 0) (spelling : X → List ℕ) (bytes slot : List ℕ) (r : Result X E) → slot ≡ bytes → IfOk r (λ x. Fits x × (slot ≡ spelling x)) → is_ok r ≡ true → SpellsOne Fits spelling bytes
read_one Fits spelling bytes slot (Ok x) same found e = (x, found.0, sym same ∙ found.1)
read_one Fits spelling bytes slot (Err x) same found e = absurd (cc)

pub not_read : {X E : Type 0} (r : Result X E) (x : X) → r ≡ Ok x → is_ok r ≡ false → ⊥
not_read r x is e = absurd (cc)
