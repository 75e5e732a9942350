-- Counting the records of a page, one after another.
use Rattle.std.proofs.Common.{◌≡◌, ◌≢◌, ℕ, zero, suc, get_or, add-one, drop-cons, ◌+◌, ◌<◌, ◌≤◌, Bool, true, false, List, [], ◌∷◌, length, take, drop, refl, ap, sym, ◌∙◌, arith, drop-drop, Some, None, nat_lt, if◌then◌else◌, ⊎_elim}
use Rattle.std.specs.Prelude.{nat_le, ◌==◌, ◌&&◌, Option, option_map}
use Rattle.std.proofs.lemmas.List.{drop_all, length-drop}
use Rattle.std.proofs.lemmas.Bool.{lt-ltb, le-ltb}
use Rattle.std.proofs.lemmas.Bool.Decides.{nat_tests}
use Rattle.ckpt_copy.specs.Moments.{either_way}
use Rattle.mas_types.specs.Limits.{page_bytes}
use Rattle.mas_types.specs.Records.{end_byte, read_records, records_in}
use Rattle.mas_check.specs.Records.{begins_record}

-- READING, RECORD BY RECORD

drop_here : (xs : List ℕ) (i : ℕ) → i < length xs → drop i xs ≡ get_or xs i 0 ∷ drop (i + 1) xs
drop_here xs i inside = rw (drop-cons xs i 0 inside, add-one) refl

and_first : (a b : Bool) → (a && b) ≡ true → a ≡ true
and_first true b h = refl
and_first false b h = absurd (cc)

-- how often is read doesn't matter, where it is often enough
enough : (m n : ℕ) (bytes : List ℕ) → length bytes ≤ m → length bytes ≤ n → read_records m bytes ≡ read_records n bytes
enough m n [] a b = refl
enough zero n (x ∷ bytes) a b = absurd (omega arith)
enough (suc m) zero (x ∷ bytes) a b = absurd (omega arith)
enough (suc m) (suc n) (x ∷ bytes) a b = rw (enough m n (drop x bytes) (omega (arith, length-drop x bytes)) (omega (arith, length-drop x bytes))) refl

records_in-record : (b : ℕ) (bytes : List ℕ) → (b == end_byte) ≡ false → begins_record b bytes ≡ true → records_in (b ∷ bytes) ≡ option_map (λ lines. take b bytes ∷ lines) (records_in (drop b bytes))
records_in-record b bytes go fits =
    rw (go, fits, enough (length bytes) (length (drop b bytes)) (drop b bytes) (omega (arith, length-drop b bytes)) (omega arith)) refl

records_in-bad : (b : ℕ) (bytes : List ℕ) → (b == end_byte) ≡ false → begins_record b bytes ≡ false → records_in (b ∷ bytes) ≡ None
records_in-bad b bytes go bad = rw (go, bad) refl

-- COUNTING

abbrev pub counted : List ℕ → Option ℕ
counted bytes = option_map length (records_in bytes)

-- the count, with more records added to it
abbrev pub more : ℕ → Option ℕ → Option ℕ
more n None = None
more n (Some m) = Some (n + m)

pub more_none : (o : Option ℕ) → o ≡ more 0 o
more_none None = refl
more_none (Some m) = let e : m ≡ 0 + m = omega arith in ap Some e

pub more_more : (n m : ℕ) (o : Option ℕ) → more n (more m o) ≡ more (n + m) o
more_more n m None = refl
more_more n m (Some k) = let e : n + (m + k) ≡ n + m + k = omega arith in ap Some e

length_one : (line : List ℕ) (o : Option (List (List ℕ))) → option_map length (option_map (λ lines. line ∷ lines) o) ≡ more 1 (option_map length o)
length_one line None = refl
length_one line (Some lines) = let e : length (line ∷ lines) ≡ 1 + length lines = omega arith in ap Some e

-- past a record
pub count_step : (page : List ℕ) (at : ℕ) → length page ≡ page_bytes → at < page_bytes → get_or page at 0 ≢ end_byte
    → begins_record (get_or page at 0) (drop (at + 1) page) ≡ true
    → (at + (1 + get_or page at 0) ≤ page_bytes) × (counted (drop at page) ≡ more 1 (counted (drop (at + (1 + get_or page at 0)) page)))
count_step page at full inside further fits =
    let b = get_or page at 0 in
    let here : drop at page ≡ b ∷ drop (at + 1) page = drop_here page at (omega arith) in
    let go : (b == end_byte) ≡ false = grind (arith, nat_tests) in
    let size : nat_le b (length (drop (at + 1) page)) ≡ true = and_first _ _ fits in
    let room : b ≤ length (drop (at + 1) page) = grind (arith, nat_tests) in
    let next : at + (1 + b) ≡ at + 1 + b = omega arith in
    let read = records_in-record b (drop (at + 1) page) go fits in
    let same : counted (drop at page) ≡ more 1 (counted (drop b (drop (at + 1) page))) =
    rw here (ap (option_map length) read ∙ length_one (take b (drop (at + 1) page)) (records_in (drop b (drop (at + 1) page)))) in
    (omega (arith, length-drop (at + 1) page), rw (next, ← drop-drop) same)

-- no record is counted at the byte after the records
pub count_end : (page : List ℕ) (at : ℕ) → length page ≡ page_bytes → at < page_bytes → get_or page at 0 ≡ end_byte → counted (drop at page) ≡ Some 0
count_end page at full inside is =
    let here : drop at page ≡ get_or page at 0 ∷ drop (at + 1) page = drop_here page at (omega arith) in
    rw (here, is) refl

-- there is no count where no record begins
pub count_bad : (page : List ℕ) (at : ℕ) → length page ≡ page_bytes → at < page_bytes → get_or page at 0 ≢ end_byte
    → begins_record (get_or page at 0) (drop (at + 1) page) ≡ false → counted (drop at page) ≡ None
count_bad page at full inside further bad =
    let b = get_or page at 0 in
    let here : drop at page ≡ b ∷ drop (at + 1) page = drop_here page at (omega arith) in
    let go : (b == end_byte) ≡ false = grind (arith, nat_tests) in
    rw here (ap (option_map length) (records_in-bad b (drop (at + 1) page) go bad))

-- there is no count where no byte is left
pub count_over : (page : List ℕ) (at : ℕ) → length page ≡ page_bytes → page_bytes ≤ at → counted (drop at page) ≡ None
count_over page at full over =
    let none : drop at page ≡ [] = drop_all at page (omega arith) in
    rw none refl

-- the count so far is the page's if the loop ends at the end of the records; else there is none
pub count_done : (page : List ℕ) (at count : ℕ) → length page ≡ page_bytes → counted page ≡ more count (counted (drop at page)) → (at < page_bytes → get_or page at 0 ≡ end_byte)
    → (if nat_lt at page_bytes then Some count else None) ≡ counted page
count_done page at count full so_far ends = ⊎_elim inside outside (either_way page_bytes at) where
  outside : at < page_bytes → (if nat_lt at page_bytes then Some count else None) ≡ counted page
  outside lt =
      let test : nat_lt at page_bytes ≡ true = lt-ltb at page_bytes lt in
      let same : count ≡ count + 0 = omega arith in
      rw test (ap Some same ∙ ap (more count) (sym (count_end page at full lt (ends lt))) ∙ sym so_far)

  inside : page_bytes ≤ at → (if nat_lt at page_bytes then Some count else None) ≡ counted page
  inside le =
      let test : nat_lt at page_bytes ≡ false = le-ltb at page_bytes le in
      rw test (ap (more count) (sym (count_over page at full le)) ∙ sym so_far)

pub count_none : (page : List ℕ) (at count : ℕ) → length page ≡ page_bytes → counted page ≡ more count (counted (drop at page)) → at < page_bytes → get_or page at 0 ≢ end_byte
    → begins_record (get_or page at 0) (drop (at + 1) page) ≡ false → None ≡ counted page
count_none page at count full so_far inside further bad = ap (more count) (sym (count_bad page at full inside further bad)) ∙ sym so_far

pub count_next : (page : List ℕ) (at count : ℕ) → length page ≡ page_bytes → counted page ≡ more count (counted (drop at page)) → at < page_bytes → get_or page at 0 ≢ end_byte
    → begins_record (get_or page at 0) (drop (at + 1) page) ≡ true
    → (at + (1 + get_or page at 0) ≤ page_bytes) × (counted page ≡ more (count + 1) (counted (drop (at + (1 + get_or page at 0)) page)))
count_next page at count full so_far inside further fits =
    let step = count_step page at full inside further fits in
    (step.0, so_far ∙ ap (more count) step.1 ∙ more_more count 1 (counted (drop (at + (1 + get_or page at 0)) page)))
