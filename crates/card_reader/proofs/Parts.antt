-- A field cut at its first comma outside parentheses and apostrophes.
use Rattle.std.proofs.Common.{◌≡◌, ap, ℕ, suc, ◌+◌, ◌<◌, ◌≤◌, Bool, true, false, if◌then◌else◌, Option, Some, None, List, [], ◌∷◌, length, take, drop, refl, arith, add-one}
use Rattle.std.specs.Borrow.{Bor}
use Rattle.card_reader.specs.Cards.{quoted_behind}
use Rattle.card_reader.specs.Operands.{is_separator, depth_behind, operand_in, operands_of, parts_in, onto_first_part}

front_step : (v : Bool) (b : ℕ) (front text : List ℕ) → take (length front) text ≡ front → take (length (if v then [] else b ∷ front)) (b ∷ text) ≡ (if v then [] else b ∷ front)
front_step true b front text e = refl
front_step false b front text e = ap (λ (l : List ℕ). b ∷ l) e

-- the operand stands at the front
pub take_operand : (quoted : Bool) (depth : ℕ) (text : List ℕ) → take (length (operand_in quoted depth text)) text ≡ operand_in quoted depth text
take_operand quoted depth [] = refl
take_operand quoted depth (b ∷ text) = front_step (is_separator quoted depth b) b (operand_in (quoted_behind quoted b) (depth_behind quoted depth b) text) text (take_operand (quoted_behind quoted b) (depth_behind quoted depth b) text)

within_step : (v : Bool) (b : ℕ) (front text : List ℕ) → length front ≤ length text → length (if v then [] else b ∷ front) ≤ length (b ∷ text)
within_step true b front text h = omega arith
within_step false b front text h = omega arith

pub length_operand : (quoted : Bool) (depth : ℕ) (text : List ℕ) → length (operand_in quoted depth text) ≤ length text
length_operand quoted depth [] = omega arith
length_operand quoted depth (b ∷ text) = within_step (is_separator quoted depth b) b (operand_in (quoted_behind quoted b) (depth_behind quoted depth b) text) text (length_operand (quoted_behind quoted b) (depth_behind quoted depth b) text)

cut_step : (v : Bool) (b : ℕ) (front text : List ℕ) (parts : List (List ℕ)) → (length front < length text → parts ≡ front ∷ parts_in false 0 (drop (suc (length front)) text)) → length (if v then [] else b ∷ front) < length (b ∷ text) → (if v then [] ∷ parts_in false 0 text else onto_first_part b parts) ≡ (if v then [] else b ∷ front) ∷ parts_in false 0 (drop (suc (length (if v then [] else b ∷ front))) (b ∷ text))
cut_step true b front text parts more h = refl
cut_step false b front text parts more h = rw (more (omega arith)) refl

cut_parts : (quoted : Bool) (depth : ℕ) (text : List ℕ) → length (operand_in quoted depth text) < length text → parts_in quoted depth text ≡ operand_in quoted depth text ∷ parts_in false 0 (drop (suc (length (operand_in quoted depth text))) text)
cut_parts quoted depth [] h = absurd (omega arith)
cut_parts quoted depth (b ∷ text) h = cut_step (is_separator quoted depth b) b (operand_in (quoted_behind quoted b) (depth_behind quoted depth b) text) text (parts_in (quoted_behind quoted b) (depth_behind quoted depth b) text) (cut_parts (quoted_behind quoted b) (depth_behind quoted depth b) text) h

-- the parts of a field that has such a comma
pub parts_cut : (text : List ℕ) (n : ℕ) → n ≡ length (operand_in false 0 text) → n < length text → parts_in false 0 text ≡ take n text ∷ parts_in false 0 (drop (n + 1) text)
parts_cut text n is inside =
    let cut : parts_in false 0 text ≡ operand_in false 0 text ∷ parts_in false 0 (drop (suc (length (operand_in false 0 text))) text) = cut_parts false 0 text (omega arith) in
    let front : take n text ≡ operand_in false 0 text = rw is (take_operand false 0 text) in
    rw (front, add-one, is) cut

whole_step : (v : Bool) (b : ℕ) (front text : List ℕ) (parts : List (List ℕ)) → (length text ≤ length front → parts ≡ text ∷ []) → length (b ∷ text) ≤ length (if v then [] else b ∷ front) → (if v then [] ∷ parts_in false 0 text else onto_first_part b parts) ≡ (b ∷ text) ∷ []
whole_step true b front text parts more h = absurd (omega arith)
whole_step false b front text parts more h = rw (more (omega arith)) refl

whole_parts : (quoted : Bool) (depth : ℕ) (text : List ℕ) → length text ≤ length (operand_in quoted depth text) → parts_in quoted depth text ≡ text ∷ []
whole_parts quoted depth [] h = refl
whole_parts quoted depth (b ∷ text) h = whole_step (is_separator quoted depth b) b (operand_in (quoted_behind quoted b) (depth_behind quoted depth b) text) text (parts_in (quoted_behind quoted b) (depth_behind quoted depth b) text) (whole_parts (quoted_behind quoted b) (depth_behind quoted depth b) text) h

-- a field without such a comma is its one part
pub parts_whole : (text : List ℕ) (n : ℕ) → n ≡ length (operand_in false 0 text) → length text ≤ n → parts_in false 0 text ≡ text ∷ []
parts_whole text n is out = whole_parts false 0 text (omega arith)

-- the operands of a field that is not empty
pub operands_some : (text : List ℕ) → 0 < length text → operands_of text ≡ parts_in false 0 text
operands_some [] h = absurd (omega arith)
operands_some (b ∷ text) h = refl

-- how much is left of a field
abbrev pub length_left : Option (Bor (List ℕ)) → ℕ
length_left None = 0
length_left (Some text) = suc (length text.now)
