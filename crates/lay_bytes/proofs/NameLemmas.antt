-- Eight bytes are a name's bytes and blanks exactly where they are a name's text, padded.
use Rattle.std.proofs.Common.{◌≡◌, ℕ, zero, suc, ◌+◌, ◌-◌, ◌≤◌, true, false, List, [], ◌∷◌, ◌++◌, length, replicate, refl, sym, ap, ◌∙◌, arith}
use Rattle.std.specs.Prelude.{◌==◌, nat_le, ◌&&◌}
use Rattle.std.specs.List.{list_all, slice_index}
use Rattle.std.proofs.lemmas.List.{length-append, length-replicate}
use Rattle.std.proofs.lemmas.Bool.Decides.{nat_tests}
use Rattle.mas_types.specs.declared.ids.Name8.{Name8}
use Rattle.mas_types.specs.Names.{is_name_byte, is_padded, is_name8, padded}
use Rattle.mas_types.specs.Fit.{IsName}
use Rattle.lay_bytes.proofs.Pieces.{test_cases, both_true, both_from}

blanks_are : (k : ℕ) → list_all (λ c. c == 32) (replicate k 32) ≡ true
blanks_are zero = refl
blanks_are (suc k) = blanks_are k

padded_again : (text : List ℕ) (k : ℕ) → list_all is_name_byte text ≡ true → is_padded (text ++ replicate k 32) ≡ true
padded_again [] zero h = refl
padded_again [] (suc k) h = blanks_are k
padded_again (b ∷ bs) k h =
    let parts = both_true (is_name_byte b) (list_all is_name_byte bs) h in
    rw parts.0 (padded_again bs k parts.1)

-- a text and how many blanks follow it
pub record IsCut (bytes : List ℕ) : Type 0 where
  pub text : List ℕ
  pub count : ℕ
  pub each : list_all is_name_byte text ≡ true
  pub is : bytes ≡ text ++ replicate count 32

blanks_from : (bs : List ℕ) → list_all (λ c. c == 32) bs ≡ true → bs ≡ replicate (length bs) 32
blanks_from [] h = refl
blanks_from (b ∷ bs) h =
    let parts = both_true (b == 32) (list_all (λ c. c == 32) bs) h in
    let is : b ≡ 32 = grind (arith, nat_tests, parts.0) in
    rw is (ap (λ (x : List ℕ). 32 ∷ x) (blanks_from bs parts.1))

padded_from : (bs : List ℕ) → is_padded bs ≡ true → IsCut bs
padded_from [] h = record { text = []; count = 0; each = refl; is = refl }
padded_from (b ∷ bs) h =
    test_cases (is_name_byte b) (IsCut (b ∷ bs))
    (λ e. let h' = rw e at h in let rest = padded_from bs h' in
    record { text = b ∷ rest.text; count = rest.count; each = both_from _ _ e rest.each; is = ap (λ (x : List ℕ). b ∷ x) rest.is })
    (λ e. let h' = rw e at h in record { text = []; count = length (b ∷ bs); each = refl; is = blanks_from (b ∷ bs) h' })

first_is : (k : ℕ) → is_name_byte (slice_index (replicate k 32) 0) ≡ false
first_is zero = refl
first_is (suc k) = refl

first_of : (text : List ℕ) (k : ℕ) → 1 ≤ length text → list_all is_name_byte text ≡ true → is_name_byte (slice_index (text ++ replicate k 32) 0) ≡ true
first_of [] k some h = absurd (omega arith)
first_of (b ∷ bs) k some h = (both_true (is_name_byte b) (list_all is_name_byte bs) h).0

pub name_from : (name : Name8) → IsName name → (length name.0 ≡ 8) × (is_name8 name.0 ≡ true)
name_from name h =
    let text = h.0 in
    let p = both_true (nat_le 1 (length text) && nat_le (length text) 8) (list_all is_name_byte text) h.1 in
    let q = both_true (nat_le 1 (length text)) (nat_le (length text) 8) p.0 in
    let some : 1 ≤ length text = grind (arith, nat_tests, q.0) in
    let few : length text ≤ 8 = grind (arith, nat_tests, q.1) in
    let len : length (padded text) ≡ 8 = omega (arith, length-append text (replicate (8 - length text) 32), length-replicate {A = ℕ} (8 - length text) 32) in
    let good : is_name8 (padded text) ≡ true = both_from _ _ (first_of text (8 - length text) some p.1) (padded_again text (8 - length text) p.1) in
    (ap length h.2 ∙ len, ap is_name8 h.2 ∙ good)

some_of : (text : List ℕ) (k : ℕ) → is_name_byte (slice_index (text ++ replicate k 32) 0) ≡ true → 1 ≤ length text
some_of [] k h = let f = first_is k in absurd cc
some_of (b ∷ bs) k h = omega arith

pub name_to : (name : Name8) → length name.0 ≡ 8 → is_name8 name.0 ≡ true → IsName name
name_to name len h =
    let p = both_true (is_name_byte (slice_index name.0 0)) (is_padded name.0) h in
    let t = padded_from name.0 p.1 in
    let some : 1 ≤ length t.text = some_of t.text t.count (sym (ap (λ (x : List ℕ). is_name_byte (slice_index x 0)) t.is) ∙ p.0) in
    let sum : length t.text + t.count ≡ 8 = omega (arith, length-append t.text (replicate t.count 32), length-replicate {A = ℕ} t.count 32, ap length t.is) in
    let count : t.count ≡ 8 - length t.text = omega arith in
    let one : nat_le 1 (length t.text) ≡ true = grind (arith, nat_tests) in
    let eight : nat_le (length t.text) 8 ≡ true = grind (arith, nat_tests) in
    (t.text, both_from _ _ (both_from _ _ one eight) t.each, t.is ∙ ap (λ (k : ℕ). t.text ++ replicate k 32) count)
