-- The bytes of a directory: written number by number, and read back.
use Rattle.std.proofs.Common.{◌≡◌, ℕ, zero, suc, ◌+◌, ◌*◌, ◌-◌, ◌/◌, ◌%◌, ◌≤◌, ◌<◌, nat_le, true, List, [], ◌∷◌, ◌++◌, length, take, drop, set, get_or, replicate, append_assoc, length-append, refl, sym, ◌∙◌, ap, subst, arith, All}
use Rattle.std.proofs.lemmas.Bool.{and_from, lt-ltb, le-leb, eq-eqb}
use Rattle.std.proofs.lemmas.List.{take_at, drop_at, take_more, take_more_set, get_or-drop, drop-drop, length-replicate}
use Rattle.std.proofs.lemmas.List.Elements.{All-head, All-tail}
use Rattle.std.specs.List.Sorted.{IsStrictlyIncreasing}
use Rattle.std.specs.Int.{w16, to_be_bytes}
use Rattle.mas_types.specs.Limits.{page_bytes, pages_most}
use Rattle.ckpt_copy.specs.Pages.{ArePages}
use Rattle.lay_bytes.specs.Bytes.{are_zeros}
use Rattle.change_log.specs.Directories.{count_in, words, numbers_in, ascend, are_pages, is_directory, word_bytes, directory}

-- one number more is read
words_next : (i : ℕ) (l : List ℕ) → 2 * i + 2 ≤ length l → words (suc i) l ≡ words i l ++ (256 * get_or l (2 * i) 0 + get_or l (2 * i + 1) 0) ∷ []
words_next i [] le = absurd (omega (arith, le))
words_next i (a ∷ []) le = absurd (omega (arith, le))
words_next zero (a ∷ b ∷ l) le = refl
words_next (suc k) (a ∷ b ∷ l) le =
    let e : suc (suc (2 * k)) ≡ 2 * suc k = omega arith in
    let f : suc (suc (2 * k + 1)) ≡ 2 * suc k + 1 = omega arith in
    ap (λ (r : List ℕ). (256 * a + b) ∷ r) (words_next k l (omega (arith, le)))
    ∙ ap (λ (m : ℕ). (256 * a + b) ∷ (words k l ++ (256 * get_or (a ∷ b ∷ l) m 0 + get_or l (2 * k + 1) 0) ∷ [])) e
    ∙ ap (λ (m : ℕ). (256 * a + b) ∷ (words k l ++ (256 * get_or (a ∷ b ∷ l) (2 * suc k) 0 + get_or (a ∷ b ∷ l) m 0) ∷ [])) f

pub number_read : (i y : ℕ) (numbers block : List ℕ) → i < length numbers → 16 + 2 * i + 2 ≤ length block → take i numbers ≡ words i (drop 16 block)
    → y ≡ 256 * get_or block (16 + 2 * i) 0 + get_or block (16 + 2 * i + 1) 0 → 2 * i + 2 ≤ length (drop 16 block) → take (i + 1) (set numbers i y) ≡ words (i + 1) (drop 16 block)
number_read i y numbers block lt inside before is inside_too =
    let e : 16 + 2 * i + 1 ≡ 16 + (2 * i + 1) = omega arith in
    let n : suc i ≡ i + 1 = omega arith in
    take_more_set numbers i y lt
    ∙ ap (λ (l : List ℕ). l ++ y ∷ []) before
    ∙ ap (λ (m : ℕ). words i (drop 16 block) ++ m ∷ []) (is
    ∙ ap (λ (m : ℕ). 256 * get_or block (16 + 2 * i) 0 + get_or block m 0) e
    ∙ ap (λ (m : ℕ). 256 * m + get_or block (16 + (2 * i + 1)) 0) (sym (get_or-drop 16 block (2 * i) 0))
    ∙ ap (λ (m : ℕ). 256 * get_or (drop 16 block) (2 * i) 0 + m) (sym (get_or-drop 16 block (2 * i + 1) 0)))
    ∙ sym (words_next i (drop 16 block) inside_too)
    ∙ ap (λ (m : ℕ). words m (drop 16 block)) n

word_bytes-push : (numbers : List ℕ) (x : ℕ) → word_bytes (numbers ++ x ∷ []) ≡ word_bytes numbers ++ to_be_bytes w16 x
word_bytes-push [] x = refl
word_bytes-push (y ∷ numbers) x = ap (λ (l : List ℕ). to_be_bytes w16 y ++ l) (word_bytes-push numbers x)

word_bytes-length : (numbers : List ℕ) → length (word_bytes numbers) ≡ 2 * length numbers
word_bytes-length [] = refl
word_bytes-length (x ∷ numbers) = let e = word_bytes-length numbers in omega (arith, e)

length_taken : (i : ℕ) (numbers : List ℕ) → i ≤ length numbers → length (word_bytes (take i numbers)) ≡ 2 * i
length_taken zero numbers le = refl
length_taken (suc i) [] le = absurd (omega (arith, le))
length_taken (suc i) (x ∷ numbers) le = let e = length_taken i numbers (omega (arith, le)) in omega (arith, e)

-- one number more is written after what stands in front
pub number_put : (f i x : ℕ) (front numbers old now new : List ℕ) → length front ≡ f → i < length numbers → x ≡ get_or numbers i 0
    → now ≡ front ++ word_bytes (take i numbers) ++ drop (f + 2 * i) old → new ≡ take (f + 2 * i) now ++ to_be_bytes w16 x ++ drop (f + 2 * i + 2) now
    → new ≡ front ++ word_bytes (take (i + 1) numbers) ++ drop (f + 2 * (i + 1)) old
number_put f i x front numbers old now new long lt item before put =
    let some = front ++ word_bytes (take i numbers) in
    let count = length_taken i numbers (omega (arith, lt)) in
    let sum = length-append front (word_bytes (take i numbers)) in
    let size : length some ≡ f + 2 * i = omega (arith, sum, count, long) in
    let first : take (f + 2 * i) now ≡ some = ap (take (f + 2 * i)) before ∙ take_at some (drop (f + 2 * i) old) (f + 2 * i) size in
    let e : f + 2 * i + 2 ≡ f + 2 * (i + 1) = omega arith in
    let last : drop (f + 2 * i + 2) now ≡ drop (f + 2 * (i + 1)) old =
    sym (drop-drop 2 (f + 2 * i) now) ∙ ap (λ (l : List ℕ). drop 2 (drop (f + 2 * i) l)) before
    ∙ ap (drop 2) (drop_at some (drop (f + 2 * i) old) (f + 2 * i) size) ∙ drop-drop 2 (f + 2 * i) old ∙ ap (λ (m : ℕ). drop m old) e in
    put
    ∙ ap (λ (l : List ℕ). l ++ to_be_bytes w16 x ++ drop (f + 2 * i + 2) now) first
    ∙ ap (λ (l : List ℕ). some ++ to_be_bytes w16 x ++ l) last
    ∙ ap (λ (m : ℕ). some ++ to_be_bytes w16 m ++ drop (f + 2 * (i + 1)) old) item
    ∙ ap (λ (l : List ℕ). l ++ drop (f + 2 * (i + 1)) old)
    (append_assoc front (word_bytes (take i numbers)) (to_be_bytes w16 (get_or numbers i 0))
    ∙ ap (λ (l : List ℕ). front ++ l) (sym (ap word_bytes (take_more numbers i 0 lt) ∙ word_bytes-push (take i numbers) (get_or numbers i 0))))

-- the parts of a directory, written over other bytes
pub directory_put : (k m : ℕ) (count level numbers old one two three new : List ℕ) → length level ≡ 8 → count ≡ to_be_bytes w16 k
    → one ≡ take 0 old ++ count ++ drop (0 + length count) old → two ≡ take 2 one ++ replicate 6 0 ++ drop 8 one
    → three ≡ take 8 two ++ level ++ drop (8 + length level) two → new ≡ take 16 three ++ numbers ++ drop (16 + m) three
    → new ≡ to_be_bytes w16 k ++ replicate 6 0 ++ level ++ numbers ++ drop (16 + m) old
directory_put k m count level numbers old one two three new size is p1 p2 p3 p4 =
    let front = to_be_bytes w16 k ++ replicate 6 0 in
    let rest = drop 8 (drop 6 (drop 2 old)) in
    let e1 : one ≡ to_be_bytes w16 k ++ drop 2 old = p1 ∙ ap (λ (r : List ℕ). take 0 old ++ r ++ drop (0 + length r) old) is in
    let e2 : two ≡ to_be_bytes w16 k ++ replicate 6 0 ++ drop 6 (drop 2 old) = p2 ∙ ap (λ (l : List ℕ). take 2 l ++ replicate 6 0 ++ drop 8 l) e1 in
    let e3 : three ≡ to_be_bytes w16 k ++ replicate 6 0 ++ (level ++ rest) =
    p3 ∙ ap (λ (l : List ℕ). take 8 l ++ level ++ drop (8 + length level) l) e2
    ∙ ap (λ (j : ℕ). to_be_bytes w16 k ++ replicate 6 0 ++ (level ++ drop (8 + j) (to_be_bytes w16 k ++ replicate 6 0 ++ drop 6 (drop 2 old)))) size in
    let behind : drop (16 + m) (front ++ (level ++ rest)) ≡ drop (16 + m) old =
    sym (drop-drop m 16 (front ++ (level ++ rest))) ∙ ap (drop m) (drop_at level rest 8 size ∙ drop-drop 8 6 (drop 2 old) ∙ drop-drop 14 2 old) ∙ drop-drop m 16 old in
    p4 ∙ ap (λ (l : List ℕ). take 16 l ++ numbers ++ drop (16 + m) l) e3
    ∙ ap (λ (l : List ℕ). to_be_bytes w16 k ++ replicate 6 0 ++ l ++ numbers ++ drop (16 + m) (front ++ (level ++ rest))) (take_at level rest 8 size)
    ∙ ap (λ (l : List ℕ). to_be_bytes w16 k ++ replicate 6 0 ++ level ++ numbers ++ l) behind

-- what was written is read
word_of : (x : ℕ) → x < 65536 → 256 * (x / 256 % 256) + x % 256 ≡ x
word_of x lt = omega (arith, lt)

words_back : (numbers rest : List ℕ) → All (λ x. x < 65536) numbers → words (length numbers) (word_bytes numbers ++ rest) ≡ numbers
words_back [] rest fit = refl
words_back (x ∷ numbers) rest fit =
    ap (λ (m : ℕ). m ∷ words (length numbers) (word_bytes numbers ++ rest)) (word_of x (All-head (λ y. y < 65536) x numbers fit))
    ∙ ap (λ (l : List ℕ). x ∷ l) (words_back numbers rest (All-tail (λ y. y < 65536) x numbers fit))

zeros_are : (m : ℕ) → are_zeros (replicate m 0) ≡ true
zeros_are zero = refl
zeros_are (suc m) = zeros_are m

tail_rises : (last x : ℕ) (numbers : List ℕ) → IsStrictlyIncreasing (last ∷ x ∷ numbers) → IsStrictlyIncreasing (x ∷ numbers)
tail_rises last x numbers rises k lt =
    let e : suc k + 1 ≡ suc (k + 1) = omega arith in
    subst (λ (m : ℕ). get_or (x ∷ numbers) k 0 < get_or (last ∷ x ∷ numbers) m 0) e (rises (suc k) (omega (arith, lt)))

rises_first : (last x : ℕ) (numbers : List ℕ) → IsStrictlyIncreasing (last ∷ x ∷ numbers) → last < x
rises_first last x numbers rises = rises 0 (omega arith)

ascend_from : (n last : ℕ) (numbers : List ℕ) → IsStrictlyIncreasing (last ∷ numbers) → All (λ p. p < n) numbers → ascend n last numbers ≡ true
ascend_from n last [] rises inside = refl
ascend_from n last (x ∷ numbers) rises inside =
    and_from _ _ (and_from _ _ (lt-ltb last x (rises_first last x numbers rises)) (lt-ltb x n (All-head (λ p. p < n) x numbers inside)))
    (ascend_from n x numbers (tail_rises last x numbers rises) (All-tail (λ p. p < n) x numbers inside))

rises_length : (n last : ℕ) (numbers : List ℕ) → last < n → IsStrictlyIncreasing (last ∷ numbers) → All (λ p. p < n) numbers → length numbers + last < n
rises_length n last [] lt rises inside = omega (arith, lt)
rises_length n last (x ∷ numbers) lt rises inside =
    let up = rises_first last x numbers rises in
    let rest = rises_length n x numbers (All-head (λ p. p < n) x numbers inside) (tail_rises last x numbers rises) (All-tail (λ p. p < n) x numbers inside) in
    omega (arith, up, rest)

pub pages_are : (n : ℕ) (numbers : List ℕ) → ArePages n numbers → are_pages n numbers ≡ true
pages_are n [] are = absurd (let none = are.first in cc)
pages_are n (x ∷ numbers) are =
    let first = are.first in
    let zero_first : x ≡ 0 = cc in
    let low = All-head (λ p. p < n) x numbers are.pages in
    and_from _ _ (and_from _ _ (eq-eqb x 0 zero_first) (lt-ltb 0 n (omega (arith, low))))
    (ascend_from n 0 numbers (subst (λ (y : ℕ). IsStrictlyIncreasing (y ∷ numbers)) zero_first are.ascending) (All-tail (λ p. p < n) x numbers are.pages))

pub pages_few : (n : ℕ) (numbers : List ℕ) → ArePages n numbers → length numbers ≤ n
pages_few n [] are = omega arith
pages_few n (x ∷ numbers) are =
    let low = All-head (λ p. p < n) x numbers are.pages in
    let rest = rises_length n x numbers low are.ascending (All-tail (λ p. p < n) x numbers are.pages) in
    omega (arith, rest)

module _ (n : ℕ) (level numbers : List ℕ) (few : n ≤ pages_most) (size : length level ≡ 8) (are : ArePages n numbers) where
  k : ℕ
  k = length numbers

  count_back : count_in (directory level numbers) ≡ length numbers
  count_back = let most = pages_few n numbers are in word_of (length numbers) (omega (arith, most, few))

  fits_word : All (λ x. x < 65536) numbers
  fits_word i d lt = let low = are.pages i d lt in omega (arith, low, few)

  zeros : List ℕ
  zeros = replicate (page_bytes - (16 + 2 * length numbers)) 0

  numbers_at : drop 16 (directory level numbers) ≡ word_bytes numbers ++ replicate (page_bytes - (16 + 2 * length numbers)) 0
  numbers_at =
      ap (drop 8) (append_assoc level (word_bytes numbers) (replicate (page_bytes - (16 + 2 * length numbers)) 0))
      ∙ drop_at level (word_bytes numbers ++ replicate (page_bytes - (16 + 2 * length numbers)) 0) 8 size

  pub numbers_back : numbers_in (directory level numbers) ≡ numbers
  numbers_back =
      ap (λ (m : ℕ). words m (drop 16 (directory level numbers))) count_back
      ∙ ap (words (length numbers)) numbers_at
      ∙ words_back numbers (replicate (page_bytes - (16 + 2 * length numbers)) 0) fits_word

  front_length : length (to_be_bytes w16 (length numbers) ++ replicate 6 0 ++ level ++ word_bytes numbers) ≡ 16 + 2 * length numbers
  front_length = let a = length-append level (word_bytes numbers) in let b = word_bytes-length numbers in omega (arith, a, b, size)

  rest_zero : are_zeros (drop (16 + 2 * count_in (directory level numbers)) (directory level numbers)) ≡ true
  rest_zero =
      ap (λ (m : ℕ). are_zeros (drop (16 + 2 * m) (directory level numbers))) count_back
      ∙ ap are_zeros (drop_at (to_be_bytes w16 (length numbers) ++ replicate 6 0 ++ level ++ word_bytes numbers) (replicate (page_bytes - (16 + 2 * length numbers)) 0) (16 + 2 * length numbers) front_length)
      ∙ zeros_are (page_bytes - (16 + 2 * length numbers))

  pub directory_length : length (directory level numbers) ≡ page_bytes
  directory_length =
      let front = front_length in
      let most = pages_few n numbers are in
      let zeros = length-replicate {A = ℕ} (page_bytes - (16 + 2 * length numbers)) 0 in
      let sum = length-append (to_be_bytes w16 (length numbers) ++ replicate 6 0 ++ level ++ word_bytes numbers) (replicate (page_bytes - (16 + 2 * length numbers)) 0) in
      omega (arith, front, most, few, zeros, sum)

  pub spelled_back : is_directory n (directory level numbers) ≡ true
  spelled_back =
      and_from _ _ (and_from _ _ (and_from _ _
      (ap (λ (m : ℕ). nat_le m n) count_back ∙ le-leb (length numbers) n (pages_few n numbers are))
      (ap (are_pages n) numbers_back ∙ pages_are n numbers are))
      refl) rest_zero
