-- Reading parts byte by byte, as loops do.
use Rattle.std.proofs.Common.{◌≡◌, ℕ, zero, suc, ◌+◌, ◌-◌, ◌*◌, ◌/◌, ◌^◌, ◌≤◌, ◌<◌, Bool, true, false, List, [], ◌∷◌, ◌++◌, length, take, drop, replicate, get_or, Result, Ok, Err, refl, sym, ap, ◌∙◌, append_assoc, arith, add-one, drop-cons}
use Rattle.std.specs.Prelude.{◌==◌, nat_le, nat_lt, not, ◌&&◌, ◌||◌, if◌then◌else◌, ◌↔◌, IsTrue, IsOk, IfOk}
use Rattle.std.specs.Result.{result_unwrap_or}
use Rattle.std.specs.List.{list_all}
use Rattle.std.proofs.lemmas.Bool.{eqb-true, eq-eqb, leb-true, le-leb, lt-leb, lt-ltb, le-ltb, and_parts, and_from, and_left, and_right}
use Rattle.std.proofs.lemmas.List.{append-nil, take_more, drop_more, drop_all, length-drop, length-take-le}
use Rattle.std.proofs.lemmas.List.Folds.{list_all-append}
use Rattle.std.proofs.Math.Nat.{pow-suc, mul_assoc, mul_comm}
use Rattle.mas_types.specs.Fit.{is_text_byte}
use Rattle.mas_types.specs.Limits.{name_bytes, card_bytes}
use Rattle.mas_types.specs.Names.{is_name_byte, is_blank, is_padded}
use Rattle.mas_types.specs.Numerals.{is_digit, is_numeral, value_after, value_of}
use Rattle.nje_frames.specs.Grammar.{etx, line_feed, number_digits, number_greatest}
use Rattle.nje_frames.specs.declared.parts.Stop.{Stop}
use Rattle.nje_frames.specs.declared.parts.Stop.TheVariants.{At, NoMemory}
use Rattle.nje_frames.specs.Reading.{◌>>=◌, Fails, byte_at, both, told, begins_with, first_and_rest, with_cards, cards_at, front_size, part_of, begins_number, number_size, number_at, begins_name, name_size, name_of, name_at, with_bytes, card_at}
use Rattle.nje_frames.proofs.Readers.{size_is}
use Rattle.nje_frames.proofs.Numbers.{value-append}
use Rattle.nje_frames.proofs.Cards.{cards-none, cards-some}

-- SIZES

size-nothing : (test : List ℕ → Bool) (more : ℕ) (front : List ℕ) → front_size test more front [] ≡ 0
size-nothing test zero front = refl
size-nothing test (suc more) front = refl

module _ (test : List ℕ → Bool) (width i : ℕ) (bytes : List ℕ) where
  pub size_goes : i < width → i < length bytes → test (take (i + 1) bytes) ≡ true → i + front_size test (width - i) (take i bytes) (drop i bytes) ≡ i + 1 + front_size test (width - (i + 1)) (take (i + 1) bytes) (drop (i + 1) bytes)
  size_goes few inside h =
      let room : width - i ≡ suc (width - (i + 1)) = omega arith in
      let next = take_more bytes i 0 inside in
      let here = rw next at h in
      rw (room, drop_more bytes i 0 inside, here, next) (omega arith)

  pub size_stops : i < width → i < length bytes → test (take (i + 1) bytes) ≡ false → i + front_size test (width - i) (take i bytes) (drop i bytes) ≡ i
  size_stops few inside h =
      let room : width - i ≡ suc (width - (i + 1)) = omega arith in
      let next = take_more bytes i 0 inside in
      let here = rw next at h in
      rw (room, drop_more bytes i 0 inside, here) (omega arith)

  pub size_ends : length bytes ≤ i → i + front_size test (width - i) (take i bytes) (drop i bytes) ≡ i
  size_ends out = rw (drop_all i bytes out, size-nothing test (width - i) (take i bytes)) (omega arith)

  pub size_whole : width ≤ i → i + front_size test (width - i) (take i bytes) (drop i bytes) ≡ i
  size_whole all = let none : width - i ≡ 0 = omega arith in rw none (omega arith)

-- what the test of a 0 at the end says
pub zero_last : (n i : ℕ) → ((n == 0) && (i == 9)) ≡ true → (n ≡ 0) × (i + 1 ≡ 10)
zero_last n i h = let parts = and_parts (n == 0) (i == 9) h in let last = eqb-true i 9 parts.1 in (eqb-true n 0 parts.0, omega arith)

pub no_zero_last : (n i : ℕ) → ((n == 0) && (i == 9)) ≡ false → i + 1 ≡ 10 → 1 ≤ n
no_zero_last zero i h last = absurd (let nine : i ≡ 9 = omega arith in let yes = eq-eqb i 9 nine in cc)
no_zero_last (suc n) i h last = omega arith

-- NUMBERS

value-added : (u d k : ℕ) → value_after (u + d) (replicate k 48) ≡ value_after u (replicate k 48) + d * 10 ^ k
value-added u d zero = omega arith
value-added u d (suc k) =
    let one : (u + d) * 10 + 0 ≡ (u * 10 + 0) + d * 10 = omega arith in
    let ten : d * 10 * 10 ^ k ≡ d * 10 ^ suc k = mul_assoc d 10 (10 ^ k) ∙ ap (λ (p : ℕ). d * p) (mul_comm 10 (10 ^ k) ∙ sym (pow-suc 10 k)) in
    ap (λ (v : ℕ). value_after v (replicate k 48)) one ∙ value-added (u * 10 + 0) (d * 10) k
    ∙ ap (λ (p : ℕ). value_after (u * 10 + 0) (replicate k 48) + p) ten

pub next_least : (front : List ℕ) (b k : ℕ) → value_of (front ++ replicate (suc k) 48) + (b - 48) * 10 ^ k ≡ value_of (front ++ b ∷ [] ++ replicate k 48)
next_least front b k =
    let v = value_of front in
    let flat : v * 10 + 0 ≡ v * 10 = omega arith in
    let zeros : value_of (front ++ replicate (suc k) 48) ≡ value_after (v * 10) (replicate k 48) =
    value-append 0 front (replicate (suc k) 48) ∙ ap (λ (w : ℕ). value_after w (replicate k 48)) flat in
    let joined : value_of (front ++ b ∷ [] ++ replicate k 48) ≡ value_after (v * 10 + (b - 48)) (replicate k 48) =
    ap value_of (append_assoc front (b ∷ []) (replicate k 48)) ∙ value-append 0 front (b ∷ replicate k 48) in
    ap (λ (w : ℕ). w + (b - 48) * 10 ^ k) zeros ∙ sym (joined ∙ value-added (v * 10) (b - 48) k)

nine : (v k : ℕ) → 1 ≤ value_after v (replicate (suc k) 57)
nine v k = grows (v * 10 + (57 - 48)) k (omega arith)
  where
    one : (u : ℕ) → 1 ≤ u → 1 ≤ u * 10 + (57 - 48)
    one u h = omega arith

    grows : (u k : ℕ) → 1 ≤ u → 1 ≤ value_after u (replicate k 57)
    grows u zero h = h
    grows u (suc j) h = grows (u * 10 + (57 - 48)) j (one u h)

pub digits_next : (bytes : List ℕ) (i : ℕ) → i < length bytes → list_all is_digit (take i bytes) ≡ true → is_digit (get_or bytes i 0) ≡ true → list_all is_digit (take (i + 1) bytes) ≡ true
digits_next bytes i inside h d =
    rw (take_more bytes i 0 inside) (list_all-append is_digit (take i bytes) (get_or bytes i 0 ∷ []) ∙ and_from (list_all is_digit (take i bytes)) (list_all is_digit (get_or bytes i 0 ∷ [])) h (and_from (is_digit (get_or bytes i 0)) true d refl))

pub no_digit : (bytes : List ℕ) (i : ℕ) → i < length bytes → is_digit (get_or bytes i 0) ≡ false → begins_number (take (i + 1) bytes) ≡ false
no_digit bytes i inside d =
    let t = take (i + 1) bytes in
    let none : list_all is_digit t ≡ false = rw (take_more bytes i 0 inside) (list_all-append is_digit (take i bytes) (get_or bytes i 0 ∷ []) ∙ and_right (list_all is_digit (take i bytes)) (list_all is_digit (get_or bytes i 0 ∷ [])) (and_left (is_digit (get_or bytes i 0)) true d)) in
    and_left (list_all is_digit t && nat_le (value_of (t ++ replicate (number_digits - length t) 48)) number_greatest) (nat_le 1 (value_of (t ++ replicate (number_digits - length t) 57)))
    (and_left (list_all is_digit t) (nat_le (value_of (t ++ replicate (number_digits - length t) 48)) number_greatest) none)

module _ (bytes : List ℕ) (i : ℕ) (inside : i < length bytes) (few : i < 10) where
  size_of : length (take (i + 1) bytes) ≡ i + 1
  size_of = length-take-le (i + 1) bytes (omega arith)

  -- the least number that the next front begins
  pub least_next : value_of (take i bytes ++ replicate (10 - i) 48) + (get_or bytes i 0 - 48) * 10 ^ (10 - (i + 1)) ≡ value_of (take (i + 1) bytes ++ replicate (10 - (i + 1)) 48)
  least_next =
      let room : 10 - i ≡ suc (10 - (i + 1)) = omega arith in
      rw (room, take_more bytes i 0 inside) (next_least (take i bytes) (get_or bytes i 0) (10 - (i + 1)))

  pub too_much : number_greatest < value_of (take (i + 1) bytes ++ replicate (10 - (i + 1)) 48) → begins_number (take (i + 1) bytes) ≡ false
  too_much much =
      let t = take (i + 1) bytes in
      let over : number_greatest < value_of (t ++ replicate (number_digits - length t) 48) = rw size_of much in
      and_left (list_all is_digit t && nat_le (value_of (t ++ replicate (number_digits - length t) 48)) number_greatest) (nat_le 1 (value_of (t ++ replicate (number_digits - length t) 57)))
      (and_right (list_all is_digit t) (nat_le (value_of (t ++ replicate (number_digits - length t) 48)) number_greatest) (lt-leb (value_of (t ++ replicate (number_digits - length t) 48)) number_greatest over))

  pub all_zeros : i + 1 ≡ 10 → value_of (take (i + 1) bytes ++ replicate (10 - (i + 1)) 48) ≡ 0 → begins_number (take (i + 1) bytes) ≡ false
  all_zeros last none =
      let t = take (i + 1) bytes in
      let room : number_digits - length t ≡ 0 = omega (arith, size_of) in
      let same : 10 - (i + 1) ≡ 0 = omega arith in
      let zero_is : value_of (t ++ []) ≡ 0 = rw same at none in
      let no : nat_le 1 (value_of (t ++ replicate (number_digits - length t) 57)) ≡ false = lt-leb 1 (value_of (t ++ replicate (number_digits - length t) 57)) (rw room (omega (arith, zero_is))) in
      and_right (list_all is_digit t && nat_le (value_of (t ++ replicate (number_digits - length t) 48)) number_greatest) (nat_le 1 (value_of (t ++ replicate (number_digits - length t) 57))) no

  pub begins_next : list_all is_digit (take (i + 1) bytes) ≡ true → value_of (take (i + 1) bytes ++ replicate (10 - (i + 1)) 48) ≤ number_greatest → (i + 1 ≡ 10 → 1 ≤ value_of (take (i + 1) bytes ++ replicate (10 - (i + 1)) 48)) → begins_number (take (i + 1) bytes) ≡ true
  begins_next digits low some =
      let t = take (i + 1) bytes in
      let low_is : value_of (t ++ replicate (number_digits - length t) 48) ≤ number_greatest = rw size_of low in
      and_from (list_all is_digit t && nat_le (value_of (t ++ replicate (number_digits - length t) 48)) number_greatest) (nat_le 1 (value_of (t ++ replicate (number_digits - length t) 57)))
      (and_from (list_all is_digit t) (nat_le (value_of (t ++ replicate (number_digits - length t) 48)) number_greatest) digits (le-leb (value_of (t ++ replicate (number_digits - length t) 48)) number_greatest low_is))
      (le-leb 1 (value_of (t ++ replicate (number_digits - length t) 57)) (rw size_of (high (10 - (i + 1)) refl)))
    where
      high : (k : ℕ) → k ≡ 10 - (i + 1) → 1 ≤ value_of (take (i + 1) bytes ++ replicate k 57)
      high zero is =
          let same : 10 - (i + 1) ≡ 0 = sym is in
          let last = some (omega arith) in
          rw same at last
      high (suc k) is = rw (value-append 0 (take (i + 1) bytes) (replicate (suc k) 57)) (nine (value_of (take (i + 1) bytes)) k)

pub unit_next : (unit i : ℕ) → i < 10 → unit ≡ 10 ^ (10 - i) → unit / 10 ≡ 10 ^ (10 - (i + 1))
unit_next unit i few is =
    let room : 10 - i ≡ suc (10 - (i + 1)) = omega arith in
    let power : 10 ^ (10 - i) ≡ 10 ^ (10 - (i + 1)) * 10 = ap (λ (k : ℕ). 10 ^ k) room ∙ pow-suc 10 (10 - (i + 1)) in
    omega (arith, power, is)

pub number_short : (bytes : List ℕ) → number_size bytes < 10 → number_at bytes ≡ Err (length bytes - number_size bytes)
unfolding number_at
number_short bytes lt = let test : nat_lt (number_size bytes) 10 ≡ true = lt-ltb (number_size bytes) 10 lt in rw test refl

pub number_whole : (bytes : List ℕ) → 10 ≤ number_size bytes → number_at bytes ≡ Ok (value_of (take 10 bytes), drop 10 bytes)
unfolding number_at
number_whole bytes le = let test : nat_lt (number_size bytes) 10 ≡ false = le-ltb (number_size bytes) 10 le in rw test refl

-- NAMES

pub name_short : (bytes : List ℕ) → name_size bytes < 8 → name_at bytes ≡ Err (length bytes - name_size bytes)
unfolding name_at
name_short bytes lt = let test : nat_lt (name_size bytes) 8 ≡ true = lt-ltb (name_size bytes) 8 lt in rw test refl

pub name_whole : (bytes : List ℕ) → 8 ≤ name_size bytes → name_at bytes ≡ Ok (name_of (take 8 bytes), drop 8 bytes)
unfolding name_at
name_whole bytes le = let test : nat_lt (name_size bytes) 8 ≡ false = le-ltb (name_size bytes) 8 le in rw test refl

-- what one byte more does to what is padded
padded_next : (text : List ℕ) (b : ℕ) → is_padded text ≡ true → is_padded (text ++ b ∷ []) ≡ (if list_all is_name_byte text then is_name_byte b || is_blank b else is_blank b)
padded_next [] b h = go (is_name_byte b) refl
  where
    go : (z : Bool) → is_name_byte b ≡ z → (if z then true else is_blank b && true) ≡ (z || is_blank b)
    go true e = refl
    go false e = and_true (is_blank b)
      where
        and_true : (z : Bool) → (z && true) ≡ z
        and_true true = refl
        and_true false = refl
padded_next (c ∷ text) b h = go (λ e. padded_next text b e) (is_name_byte c) refl
  where
    and_true : (z : Bool) → (z && true) ≡ z
    and_true true = refl
    and_true false = refl

    go : (is_padded text ≡ true → is_padded (text ++ b ∷ []) ≡ (if list_all is_name_byte text then is_name_byte b || is_blank b else is_blank b)) → (z : Bool) → is_name_byte c ≡ z → is_padded (c ∷ (text ++ b ∷ [])) ≡ (if list_all is_name_byte (c ∷ text) then is_name_byte b || is_blank b else is_blank b)
    go further true e = rw e (further (rw e at h))
    go further false e =
        let blanks = rw e at h in
        rw e (list_all-append is_blank (c ∷ text) (b ∷ []) ∙ rw blanks (and_true (is_blank b)))

-- whether the byte may follow a name's bytes, of which the last is padding or not
abbrev pub may : Bool → ℕ → ℕ → Bool
may padding at b = if padding then is_blank b else (is_name_byte b || (is_blank b && nat_lt 0 at))

name_may : (text : List ℕ) (b : ℕ) → begins_name text ≡ true → begins_name (text ++ b ∷ []) ≡ may (not (list_all is_name_byte text)) (length text) b
name_may [] b h = go (is_name_byte b) (is_blank b)
  where
    go : (x y : Bool) → (x && true) ≡ (x || (y && false))
    go true y = refl
    go false true = refl
    go false false = refl
name_may (c ∷ text) b h =
    let parts = and_parts (is_name_byte c) (is_padded text) h in
    let some : nat_lt 0 (suc (length text)) ≡ true = lt-ltb 0 (suc (length text)) (omega arith) in
    let next = padded_next text b parts.1 in
    rw (parts.0, some) (next ∙ go (list_all is_name_byte text) (is_name_byte b) (is_blank b))
  where
    go : (x y z : Bool) → (if x then y || z else z) ≡ (if not x then z else (y || (z && true)))
    go true true z = refl
    go true false true = refl
    go true false false = refl
    go false y z = refl

letter_no_blank : (b : ℕ) → is_name_byte b ≡ true → is_blank b ≡ false
letter_no_blank b h = go (is_blank b) refl
  where
    go : (z : Bool) → is_blank b ≡ z → z ≡ false
    go false e = refl
    go true e = absurd (let same = eqb-true b 32 e in let no = ap is_name_byte same in cc)

padding_next : (text : List ℕ) (b : ℕ) → may (not (list_all is_name_byte text)) (length text) b ≡ true → is_blank b ≡ not (list_all is_name_byte (text ++ b ∷ []))
padding_next text b h = go (list_all is_name_byte text) (is_name_byte b) (is_blank b) (nat_lt 0 (length text)) (λ e. letter_no_blank b e) h ∙ ap not (sym (list_all-append is_name_byte text (b ∷ [])))
  where
    go : (x y z some : Bool) → (y ≡ true → z ≡ false) → (if not x then z else (y || (z && some))) ≡ true → z ≡ not (x && (y && true))
    go true true z some never h = never refl
    go true false true some never h = refl
    go true false false some never h = absurd cc
    go false y z some never h = h

module _ (bytes : List ℕ) (i : ℕ) (inside : i < length bytes) (h : begins_name (take i bytes) ≡ true) (padding : Bool) (is : padding ≡ not (list_all is_name_byte (take i bytes))) where
  front_size_is : length (take i bytes) ≡ i
  front_size_is = length-take-le i bytes (omega arith)

  name_step : begins_name (take (i + 1) bytes) ≡ may padding i (get_or bytes i 0)
  name_step =
      ap begins_name (take_more bytes i 0 inside) ∙ name_may (take i bytes) (get_or bytes i 0) h
      ∙ ap (λ (k : ℕ). may (not (list_all is_name_byte (take i bytes))) k (get_or bytes i 0)) front_size_is
      ∙ ap (λ (z : Bool). may z i (get_or bytes i 0)) (sym is)

  pub name_goes : may padding i (get_or bytes i 0) ≡ true → begins_name (take (i + 1) bytes) ≡ true
  name_goes e = name_step ∙ e

  pub name_stops : may padding i (get_or bytes i 0) ≡ false → begins_name (take (i + 1) bytes) ≡ false
  name_stops e = name_step ∙ e

  pub padding_goes : may padding i (get_or bytes i 0) ≡ true → is_blank (get_or bytes i 0) ≡ not (list_all is_name_byte (take (i + 1) bytes))
  padding_goes e =
      let allowed : may (not (list_all is_name_byte (take i bytes))) (length (take i bytes)) (get_or bytes i 0) ≡ true =
      ap (λ (k : ℕ). may (not (list_all is_name_byte (take i bytes))) k (get_or bytes i 0)) front_size_is ∙ ap (λ (z : Bool). may z i (get_or bytes i 0)) (sym is) ∙ e in
      padding_next (take i bytes) (get_or bytes i 0) allowed ∙ ap (λ (w : List ℕ). not (list_all is_name_byte w)) (sym (take_more bytes i 0 inside))

-- CARDS

with_bytes-joined : (front : List ℕ) (b : ℕ) (r : Result (List ℕ × List ℕ) ℕ) → with_bytes front (with_bytes (b ∷ []) r) ≡ with_bytes (front ++ b ∷ []) r
with_bytes-joined front b (Ok x) = ap (λ (w : List ℕ). Ok (w, x.1)) (sym (append_assoc front (b ∷ []) x.0))
with_bytes-joined front b (Err left) = refl

module _ (bytes : List ℕ) (i : ℕ) (inside : i < length bytes) (same : with_bytes (take i bytes) (card_at (80 - i) (drop i bytes)) ≡ card_at 80 bytes) where
  pub card_feed : get_or bytes i 0 ≡ line_feed → card_at 80 bytes ≡ Ok (take i bytes, drop (i + 1) bytes)
  unfolding card_at
  card_feed is =
      let here = drop_more bytes i 0 inside in
      let read = rw (here, is) at same in
      sym read ∙ ap (λ (w : List ℕ). Ok (w, drop (i + 1) bytes)) (append-nil (take i bytes))

  pub card_next : (get_or bytes i 0 == line_feed) ≡ false → is_text_byte (get_or bytes i 0) ≡ true → i < 80 → with_bytes (take (i + 1) bytes) (card_at (80 - (i + 1)) (drop (i + 1) bytes)) ≡ card_at 80 bytes
  unfolding card_at
  card_next other text few =
      let b = get_or bytes i 0 in
      let room : nat_lt 0 (80 - i) ≡ true = lt-ltb 0 (80 - i) (omega arith) in
      let less : 80 - i - 1 ≡ 80 - (i + 1) = omega arith in
      let read = rw (drop_more bytes i 0 inside, other, text, room, less) at same in
      rw (take_more bytes i 0 inside) (sym (with_bytes-joined (take i bytes) b (card_at (80 - (i + 1)) (drop (i + 1) bytes))) ∙ read)

  pub card_bad : (get_or bytes i 0 == line_feed) ≡ false → (is_text_byte (get_or bytes i 0) && nat_lt 0 (80 - i)) ≡ false → card_at 80 bytes ≡ Err (length bytes - i)
  unfolding card_at
  card_bad other stop =
      let read = rw (drop_more bytes i 0 inside, other, stop) at same in
      let count : suc (length (drop (i + 1) bytes)) ≡ length bytes - i = omega (arith, length-drop (i + 1) bytes) in
      sym read ∙ ap (λ (k : ℕ). Err k) count

pub card_over : (bytes : List ℕ) (i : ℕ) → length bytes ≤ i → with_bytes (take i bytes) (card_at (80 - i) (drop i bytes)) ≡ card_at 80 bytes → card_at 80 bytes ≡ Err 0
unfolding card_at
card_over bytes i out same = let read = rw (drop_all i bytes out) at same in sym read

-- MANY CARDS

ended_front : (bytes : List ℕ) → begins_with etx bytes ≡ true → bytes ≡ etx ∷ drop 1 bytes
ended_front [] h = absurd cc
ended_front (b ∷ bytes) h = ap (λ (c : ℕ). c ∷ bytes) (eqb-true b etx h)

pub ended_some : (bytes : List ℕ) → begins_with etx bytes ≡ true → 1 ≤ length bytes
ended_some [] h = absurd cc
ended_some (b ∷ bytes) h = omega arith

cards-ended : (left : ℕ) (bytes : List ℕ) → begins_with etx bytes ≡ true → cards_at (suc left) bytes ≡ Ok ([], drop 1 bytes)
cards-ended left [] h = absurd cc
cards-ended left (b ∷ bytes) h = cards-some left (b ∷ bytes) ∙ rw h refl

cards-else : (left : ℕ) (bytes : List ℕ) → begins_with etx bytes ≡ false → cards_at (suc left) bytes ≡ told first_and_rest (both (card_at card_bytes) (cards_at left)) bytes
cards-else left [] h = cards-some left []
cards-else left (b ∷ bytes) h = cards-some left (b ∷ bytes) ∙ rw h refl

with_cards-joined : (front : List (List ℕ)) (card : List ℕ) (r : Result (List (List ℕ) × List ℕ) ℕ) → with_cards front (with_cards (card ∷ []) r) ≡ with_cards (front ++ card ∷ []) r
with_cards-joined front card (Ok x) = ap (λ (w : List (List ℕ)). Ok (w, x.1)) (sym (append_assoc front (card ∷ []) x.0))
with_cards-joined front card (Err left) = refl

-- what follows a card that was read
abbrev pair_with : List ℕ → List (List ℕ) × List ℕ → Result ((List ℕ × List (List ℕ)) × List ℕ) ℕ
pair_with card b = Ok ((card, b.0), b.1)

abbrev as_text : (List ℕ × List (List ℕ)) × List ℕ → Result (List (List ℕ) × List ℕ) ℕ
as_text a = Ok (first_and_rest a.0, a.1)

after_card : (card : List ℕ) (r : Result (List (List ℕ) × List ℕ) ℕ) → ((r >>= pair_with card) >>= as_text) ≡ with_cards (card ∷ []) r
after_card card (Ok x) = refl
after_card card (Err left) = refl

cards-next : (left : ℕ) (bytes card after : List ℕ) → begins_with etx bytes ≡ false → card_at card_bytes bytes ≡ Ok (card, after) → cards_at (suc left) bytes ≡ with_cards (card ∷ []) (cards_at left after)
cards-next left bytes card after h e = cards-else left bytes h ∙ rw e (after_card card (cards_at left after))

cards-stopped : (left : ℕ) (bytes : List ℕ) (stop : ℕ) → begins_with etx bytes ≡ false → card_at card_bytes bytes ≡ Err stop → cards_at (suc left) bytes ≡ Err stop
cards-stopped left bytes stop h e = cards-else left bytes h ∙ rw e refl

module _ (front : List (List ℕ)) (most i : ℕ) (bytes : List ℕ) (total : Result (List (List ℕ) × List ℕ) ℕ) (same : with_cards front (cards_at (most - i) bytes) ≡ total) where
  left_is : i < most → cards_at (most - i) bytes ≡ cards_at (suc (most - (i + 1))) bytes
  left_is lt = let k : most - i ≡ suc (most - (i + 1)) = omega arith in ap (λ (n : ℕ). cards_at n bytes) k

  pub cards_end : i < most → begins_with etx bytes ≡ true → total ≡ Ok (front, drop 1 bytes)
  cards_end lt h =
      sym same ∙ ap (with_cards front) (left_is lt ∙ cards-ended (most - (i + 1)) bytes h)
      ∙ ap (λ (w : List (List ℕ)). Ok (w, drop 1 bytes)) (append-nil front)

  pub cards_go : (card after : List ℕ) → i < most → begins_with etx bytes ≡ false → card_at card_bytes bytes ≡ Ok (card, after) → with_cards (front ++ card ∷ []) (cards_at (most - (i + 1)) after) ≡ total
  cards_go card after lt h e =
      sym (with_cards-joined front card (cards_at (most - (i + 1)) after))
      ∙ ap (with_cards front) (sym (left_is lt ∙ cards-next (most - (i + 1)) bytes card after h e)) ∙ same

  pub cards_stop : (stop : Stop) → i < most → begins_with etx bytes ≡ false → Fails stop (card_at card_bytes bytes) → Fails stop total
  cards_stop NoMemory lt h e = tt
  cards_stop (At left) lt h e = sym same ∙ ap (with_cards front) (left_is lt ∙ cards-stopped (most - (i + 1)) bytes left h e)

  none_left : most ≤ i → cards_at (most - i) bytes ≡ told (λ (x : Unit {0}). []) (byte_at etx) bytes
  none_left le = let k : most - i ≡ 0 = omega arith in ap (λ (n : ℕ). cards_at n bytes) k ∙ cards-none bytes

  pub last_end : (after : List ℕ) → most ≤ i → byte_at etx bytes ≡ Ok (tt, after) → total ≡ Ok (front, after)
  last_end after le e =
      let read : told (λ (x : Unit {0}). []) (byte_at etx) bytes ≡ Ok ([], after) = rw e refl in
      sym same ∙ ap (with_cards front) (none_left le ∙ read) ∙ ap (λ (w : List (List ℕ)). Ok (w, after)) (append-nil front)

  pub last_stop : (stop : Stop) → most ≤ i → Fails stop (byte_at etx bytes) → Fails stop total
  last_stop NoMemory le e = tt
  last_stop (At left) le e =
      let read : told (λ (x : Unit {0}). []) (byte_at etx) bytes ≡ Err left = rw e refl in
      sym same ∙ ap (with_cards front) (none_left le ∙ read)

-- READING A NUMBER

pub read_value : {E : Type 0} (r : Result ℕ E) (b : Bool) (v d : ℕ) → (IsOk r ↔ IsTrue b) → b ≡ true → IfOk r (λ n. n ≡ v) → result_unwrap_or r d ≡ v
read_value (Ok n) b v d iff h is = is
read_value (Err e) b v d iff h is = absurd (let found = iff.1 h in cc)

pub is_read : (bytes : List ℕ) → 10 ≤ length bytes → begins_number (take 10 bytes) ≡ true → (is_numeral (take 10 bytes) && nat_le (value_of (take 10 bytes)) 4294967295) ≡ true
is_read bytes inside h =
    let t = take 10 bytes in
    let size : length (take 10 bytes) ≡ 10 = length-take-le 10 bytes inside in
    let one = and_parts (list_all is_digit t && nat_le (value_of (t ++ replicate (number_digits - length t) 48)) number_greatest) (nat_le 1 (value_of (t ++ replicate (number_digits - length t) 57))) h in
    let two = and_parts (list_all is_digit t) (nat_le (value_of (t ++ replicate (number_digits - length t) 48)) number_greatest) one.0 in
    let room : number_digits - length t ≡ 0 = omega arith in
    let low : nat_le (value_of (t ++ [])) number_greatest ≡ true = rw room at two.1 in
    let few : nat_le (value_of t) number_greatest ≡ true = ap (λ (w : List ℕ). nat_le (value_of w) number_greatest) (sym (append-nil t)) ∙ low in
    let least : nat_le 1 (length t) ≡ true = le-leb 1 (length t) (omega arith) in
    let most : nat_le (length t) 10 ≡ true = le-leb (length t) 10 (omega arith) in
    and_from (is_numeral t) (nat_le (value_of t) number_greatest) (and_from (nat_le 1 (length t) && nat_le (length t) 10) (list_all is_digit t) (and_from (nat_le 1 (length t)) (nat_le (length t) 10) least most) two.0) few

pub size_few : (bytes : List ℕ) → number_size bytes ≤ 10
size_few bytes = (size_is begins_number 10 [] bytes refl).few
