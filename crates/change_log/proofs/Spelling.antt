-- A valid directory is the one that is written of what it lists.
use Rattle.std.proofs.Common.{◌≡◌, ℕ, zero, suc, ◌+◌, ◌*◌, ◌-◌, ◌/◌, ◌%◌, ◌≤◌, ◌<◌, ◌==◌, true, List, [], ◌∷◌, ◌++◌, length, take, drop, replicate, length-drop, append_assoc, refl, sym, ◌∙◌, ap, arith, All}
use Rattle.std.proofs.lemmas.Bool.{and_parts, leb-true, eqb-true}
use Rattle.std.proofs.lemmas.List.{take-append-drop, drop-drop, length-take-le}
use Rattle.std.proofs.lemmas.List.Elements.{All-head, All-tail, All-drop}
use Rattle.std.specs.Int.{w16, to_be_bytes}
use Rattle.mas_types.specs.Limits.{page_bytes, pages_most}
use Rattle.spool_plant.specs.View.{slice}
use Rattle.lay_bytes.specs.Bytes.{are_zeros}
use Rattle.change_log.specs.Directories.{words, numbers_in, is_directory, word_bytes, directory}

words_full : (k : ℕ) (l : List ℕ) → 2 * k ≤ length l → length (words k l) ≡ k
words_full zero l le = refl
words_full (suc k) [] le = absurd (omega (arith, le))
words_full (suc k) (a ∷ []) le = absurd (omega (arith, le))
words_full (suc k) (a ∷ b ∷ l) le = ap (λ (m : ℕ). suc m) (words_full k l (omega (arith, le)))

high_of : (a b : ℕ) → a < 256 → b < 256 → (256 * a + b) / 256 % 256 ≡ a
high_of a b p q = omega (arith, p, q)

low_of : (a b : ℕ) → a < 256 → b < 256 → (256 * a + b) % 256 ≡ b
low_of a b p q = omega (arith, p, q)

word_written : (a b : ℕ) → a < 256 → b < 256 → to_be_bytes w16 (256 * a + b) ≡ a ∷ b ∷ []
word_written a b p q =
    ap (λ (x : ℕ). x ∷ (256 * a + b) % 256 ∷ []) (high_of a b p q) ∙ ap (λ (x : ℕ). a ∷ x ∷ []) (low_of a b p q)

words_written : (k : ℕ) (l : List ℕ) → 2 * k ≤ length l → All (λ x. x < 256) l → word_bytes (words k l) ≡ take (2 * k) l
words_written zero l le bytes = refl
words_written (suc k) [] le bytes = absurd (omega (arith, le))
words_written (suc k) (a ∷ []) le bytes = absurd (omega (arith, le))
words_written (suc k) (a ∷ b ∷ l) le bytes =
    let e : suc (suc (2 * k)) ≡ 2 * suc k = omega arith in
    let rest = All-tail (λ x. x < 256) a (b ∷ l) bytes in
    ap (λ (w : List ℕ). w ++ word_bytes (words k l)) (word_written a b (All-head (λ x. x < 256) a (b ∷ l) bytes) (All-head (λ x. x < 256) b l rest))
    ∙ ap (λ (w : List ℕ). a ∷ b ∷ w) (words_written k l (omega (arith, le)) (All-tail (λ x. x < 256) b l rest))
    ∙ ap (λ (m : ℕ). take m (a ∷ b ∷ l)) e

zeros_from : (l : List ℕ) → are_zeros l ≡ true → l ≡ replicate (length l) 0
zeros_from [] are = refl
zeros_from (x ∷ l) are =
    let both = and_parts (x == 0) (are_zeros l) are in
    ap (λ (y : ℕ). y ∷ l) (eqb-true x 0 both.0) ∙ ap (λ (r : List ℕ). 0 ∷ r) (zeros_from l both.1)

nested : (p q r s t : List ℕ) → p ++ q ++ r ++ s ++ t ≡ p ++ (q ++ (r ++ (s ++ t)))
nested p q r s t = append_assoc (p ++ q ++ r) s t ∙ append_assoc (p ++ q) r (s ++ t) ∙ append_assoc p q (r ++ (s ++ t))

-- the first piece after some bytes, and what follows it
joined : (at len : ℕ) (l : List ℕ) → slice at len l ++ drop (at + len) l ≡ drop at l
joined at len l = ap (λ (r : List ℕ). slice at len l ++ r) (sym (drop-drop len at l)) ∙ take-append-drop len (drop at l)

pieces : (a b k : ℕ) (rest : List ℕ) → let l : List ℕ = a ∷ b ∷ rest in
    (a ∷ b ∷ []) ++ slice 2 6 l ++ slice 8 8 l ++ slice 16 (2 * k) l ++ drop (16 + 2 * k) l ≡ a ∷ b ∷ rest
pieces a b k rest =
    let l : List ℕ = a ∷ b ∷ rest in
    nested (a ∷ b ∷ []) (slice 2 6 l) (slice 8 8 l) (slice 16 (2 * k) l) (drop (16 + 2 * k) l)
    ∙ ap (λ (r : List ℕ). (a ∷ b ∷ []) ++ (slice 2 6 l ++ (slice 8 8 l ++ r))) (joined 16 (2 * k) l)
    ∙ ap (λ (r : List ℕ). (a ∷ b ∷ []) ++ (slice 2 6 l ++ r)) (joined 8 8 l)
    ∙ ap (λ (r : List ℕ). (a ∷ b ∷ []) ++ r) (joined 2 6 l)

module _ (n a b : ℕ) (rest : List ℕ) (few : n ≤ pages_most) (size : length (a ∷ b ∷ rest) ≡ page_bytes) (bytes : All (λ x. x < 256) (a ∷ b ∷ rest)) (spelled : is_directory n (a ∷ b ∷ rest) ≡ true) where
  count : 256 * a + b ≤ n
  count = leb-true (256 * a + b) n (and_parts _ _ (and_parts _ _ (and_parts _ _ spelled).0).0).0

  zeros_at : are_zeros (slice 2 6 (a ∷ b ∷ rest)) ≡ true
  zeros_at = (and_parts _ _ (and_parts _ _ spelled).0).1

  zeros_behind : are_zeros (drop (16 + 2 * (256 * a + b)) (a ∷ b ∷ rest)) ≡ true
  zeros_behind = (and_parts _ _ spelled).1

  room : 2 * (256 * a + b) ≤ length (drop 16 (a ∷ b ∷ rest))
  room = let some = length-drop 16 (a ∷ b ∷ rest) in let most = count in omega (arith, some, most, few, size)

  many : length (numbers_in (a ∷ b ∷ rest)) ≡ 256 * a + b
  many = words_full (256 * a + b) (drop 16 (a ∷ b ∷ rest)) room

  six : slice 2 6 (a ∷ b ∷ rest) ≡ replicate 6 0
  six = zeros_from (slice 2 6 (a ∷ b ∷ rest)) zeros_at ∙ ap (λ (m : ℕ). replicate m 0) (length-take-le 6 (drop 2 (a ∷ b ∷ rest)) (let some = length-drop 2 (a ∷ b ∷ rest) in omega (arith, some, size)))

  last : drop (16 + 2 * (256 * a + b)) (a ∷ b ∷ rest) ≡ replicate (page_bytes - (16 + 2 * (256 * a + b))) 0
  last =
      zeros_from (drop (16 + 2 * (256 * a + b)) (a ∷ b ∷ rest)) zeros_behind
      ∙ ap (λ (m : ℕ). replicate m 0) (length-drop (16 + 2 * (256 * a + b)) (a ∷ b ∷ rest) ∙ ap (λ (m : ℕ). m - (16 + 2 * (256 * a + b))) size)

  numbers : word_bytes (numbers_in (a ∷ b ∷ rest)) ≡ slice 16 (2 * (256 * a + b)) (a ∷ b ∷ rest)
  numbers = words_written (256 * a + b) (drop 16 (a ∷ b ∷ rest)) room (All-drop (λ x. x < 256) 16 (a ∷ b ∷ rest) bytes)

  first : to_be_bytes w16 (256 * a + b) ≡ a ∷ b ∷ []
  first = word_written a b (All-head (λ x. x < 256) a (b ∷ rest) bytes) (All-head (λ x. x < 256) b rest (All-tail (λ x. x < 256) a (b ∷ rest) bytes))

  pub written : directory (slice 8 8 (a ∷ b ∷ rest)) (numbers_in (a ∷ b ∷ rest)) ≡ a ∷ b ∷ rest
  written =
      let l : List ℕ = a ∷ b ∷ rest in
      let level = slice 8 8 l in
      let words = word_bytes (numbers_in l) in
      ap (λ (m : ℕ). to_be_bytes w16 m ++ replicate 6 0 ++ level ++ words ++ replicate (page_bytes - (16 + 2 * m)) 0) many
      ∙ ap (λ (f : List ℕ). f ++ replicate 6 0 ++ level ++ words ++ replicate (page_bytes - (16 + 2 * (256 * a + b))) 0) first
      ∙ ap (λ (z : List ℕ). (a ∷ b ∷ []) ++ z ++ level ++ words ++ replicate (page_bytes - (16 + 2 * (256 * a + b))) 0) (sym six)
      ∙ ap (λ (w : List ℕ). (a ∷ b ∷ []) ++ slice 2 6 l ++ level ++ w ++ replicate (page_bytes - (16 + 2 * (256 * a + b))) 0) numbers
      ∙ ap (λ (z : List ℕ). (a ∷ b ∷ []) ++ slice 2 6 l ++ level ++ slice 16 (2 * (256 * a + b)) l ++ z) (sym last)
      ∙ pieces a b (256 * a + b) rest

pub spelled_only : (n : ℕ) (block : List ℕ) → n ≤ pages_most → length block ≡ page_bytes → All (λ b. b < 256) block → is_directory n block ≡ true → block ≡ directory (slice 8 8 block) (numbers_in block)
spelled_only n [] few size bytes spelled = absurd (omega (arith, size))
spelled_only n (a ∷ []) few size bytes spelled = absurd (omega (arith, size))
spelled_only n (a ∷ b ∷ rest) few size bytes spelled = sym (written n a b rest few size bytes spelled)
