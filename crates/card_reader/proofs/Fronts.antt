-- Texts cut at their first blank, and rests of lists.
use Rattle.std.proofs.Common.{◌≡◌, ◌∙◌, ap, ℕ, suc, ◌+◌, ◌-◌, ◌≤◌, Bool, true, false, not, ◌&&◌, if◌then◌else◌, Some, List, [], ◌∷◌, ◌++◌, length, take, drop, refl, arith, zero, min}
use Rattle.std.specs.List.{slice_get}
use Rattle.mas_types.specs.Names.{is_blank}
use Rattle.std.proofs.lemmas.List.{length-drop, take_all, take_min}
use Rattle.card_reader.specs.Cards.{body, word, field_in, quoted_behind}

-- a rest of a list, by its first item
pub rest_from : {A : Type 0} → (n : ℕ) (xs : List A) (x : A) → slice_get xs n ≡ Some x → drop n xs ≡ x ∷ drop (n + 1) xs
rest_from zero [] x e = absurd (cc)
rest_from zero (y ∷ ys) x e = cc
rest_from (suc n) [] x e = absurd (cc)
rest_from (suc n) (y ∷ ys) x e = let more : suc n + 1 ≡ suc (n + 1) = omega arith in rw more (rest_from n ys x e)

front_step : (v : Bool) (b : ℕ) (front text : List ℕ) → take (length front) text ≡ front → take (length (if v then [] else b ∷ front)) (b ∷ text) ≡ (if v then [] else b ∷ front)
front_step true b front text e = refl
front_step false b front text e = ap (λ (l : List ℕ). b ∷ l) e

-- the word of a text stands at its front
pub take_word : (text : List ℕ) → take (length (word text)) text ≡ word text
take_word [] = refl
take_word (b ∷ text) = front_step (is_blank b) b (word text) text (take_word text)

-- the field of a text stands at its front
pub take_field : (quoted : Bool) (text : List ℕ) → take (length (field_in quoted text)) text ≡ field_in quoted text
take_field quoted [] = refl
take_field quoted (b ∷ text) = front_step (is_blank b && not quoted) b (field_in (quoted_behind quoted b) text) text (take_field (quoted_behind quoted b) text)

within_step : (v : Bool) (b : ℕ) (front text : List ℕ) → length front ≤ length text → length (if v then [] else b ∷ front) ≤ length (b ∷ text)
within_step true b front text h = omega arith
within_step false b front text h = omega arith

pub length_word : (text : List ℕ) → length (word text) ≤ length text
length_word [] = omega arith
length_word (b ∷ text) = within_step (is_blank b) b (word text) text (length_word text)

pub length_field : (quoted : Bool) (text : List ℕ) → length (field_in quoted text) ≤ length text
length_field quoted [] = omega arith
length_field quoted (b ∷ text) = within_step (is_blank b && not quoted) b (field_in (quoted_behind quoted b) text) text (length_field (quoted_behind quoted b) text)

-- a part from a place up to the end
pub rest_cut : {A : Type 0} → (n : ℕ) (xs : List A) → take (length xs - n) (drop n xs) ≡ drop n xs
rest_cut n xs = let short : length (drop n xs) ≤ length xs - n = omega (arith, length-drop n xs) in take_all (length xs - n) (drop n xs) short

-- the value of an `if`, where the test is known
pub if_yes : {A : Type 0} → (v : Bool) (a b : A) → v ≡ true → (if v then a else b) ≡ a
if_yes true a b e = refl
if_yes false a b e = absurd (cc)

pub if_no : {A : Type 0} → (v : Bool) (a b : A) → v ≡ false → (if v then a else b) ≡ b
if_no true a b e = absurd (cc)
if_no false a b e = refl

-- what follows the slashes, up to column 71
pub body_cut : (card : List ℕ) (n : ℕ) → n ≡ min 71 (length card) → take (length (take n card) - 2) (drop 2 (take n card)) ≡ body card
body_cut card n is = rest_cut 2 (take n card) ∙ ap (λ (l : List ℕ). drop 2 l) (ap (λ (m : ℕ). take m card) is ∙ take_min 71 card)

-- a front of a list, one item longer
pub front_more : {A : Type 0} → (n : ℕ) (xs : List A) (x : A) → slice_get xs n ≡ Some x → take (n + 1) xs ≡ take n xs ++ x ∷ []
front_more zero [] x e = absurd (cc)
front_more zero (y ∷ ys) x e = cc
front_more (suc n) [] x e = absurd (cc)
front_more {A = A} (suc n) (y ∷ ys) x e = let more : suc n + 1 ≡ suc (n + 1) = omega arith in rw more (ap (λ (l : List A). y ∷ l) (front_more n ys x e))
