-- Lists cut at the first element that passes a test.
use Rattle.std.proofs.Common.{◌≡◌, ap, ℕ, zero, suc, ◌+◌, ◌-◌, ◌<◌, ◌≤◌, Bool, true, false, cond, Option, Some, None, List, [], ◌∷◌, length, take, drop, get_or, refl, arith, nat_lt, not}
use Rattle.std.specs.Borrow.{Bor}
use Rattle.std.proofs.lemmas.Bool.{ltb-true, ltb-false}
use Rattle.std.proofs.lemmas.List.Splits.{slice_split_first, length-slice_split}
use Rattle.std.specs.List.{list_any, position, position_or_len, slice_split, onto_first}
use Rattle.std.specs.Str.Lines.{strip_carriage_return}
use Rattle.script_lang.specs.Config.{halves}
use Rattle.script_lang.specs.Lines.{lines_of_parts, lines_of, is_line_end}

some_is : (b : Bool) (k place : ℕ) → cond b (Some k) None ≡ Some place → (b ≡ true) × (k ≡ place)
some_is true k place e = (refl, cc)
some_is false k place e = absurd (cc)

none_is : (b : Bool) (k : ℕ) → cond b (Some k) None ≡ None → b ≡ false
none_is true k e = absurd (cc)
none_is false k e = refl

-- the parts of a list that has such an element
pub split_at_place : (p : ℕ → Bool) (text : List ℕ) (place : ℕ) → position p text ≡ Some place → slice_split p text ≡ take place text ∷ slice_split p (drop (place + 1) text)
split_at_place p text place e =
    let found : (nat_lt (position_or_len p text) (length text) ≡ true) × (position_or_len p text ≡ place) = some_is (nat_lt (position_or_len p text) (length text)) (position_or_len p text) place e in
    let inside : position_or_len p text < length text = ltb-true _ _ found.0 in
    let same : position_or_len p text ≡ place = found.1 in
    rw (← same) (slice_split_first p text 0 inside)

split_step : (p : ℕ → Bool) (v : Bool) (b : ℕ) (text : List ℕ) → (length text ≤ position_or_len p text → slice_split p text ≡ text ∷ []) → length (b ∷ text) ≤ cond (not v) (1 + position_or_len p text) 0 → cond v ([] ∷ slice_split p text) (onto_first b (slice_split p text)) ≡ (b ∷ text) ∷ []
split_step p true b text more h = absurd (omega arith)
split_step p false b text more h = rw (more (omega arith)) refl

split_whole : (p : ℕ → Bool) (text : List ℕ) → length text ≤ position_or_len p text → slice_split p text ≡ text ∷ []
split_whole p [] h = refl
split_whole p (b ∷ text) h = split_step p (p b) b text (split_whole p text) h

-- a list without such an element is its one part
pub split_nowhere : (p : ℕ → Bool) (text : List ℕ) → position p text ≡ None → slice_split p text ≡ text ∷ []
split_nowhere p text e =
    let out : nat_lt (position_or_len p text) (length text) ≡ false = none_is (nat_lt (position_or_len p text) (length text)) (position_or_len p text) e in
    split_whole p text (ltb-false _ _ out)

more_lines : (part : List ℕ) (parts : List (List ℕ)) → 0 < length parts → lines_of_parts (part ∷ parts) ≡ strip_carriage_return part ∷ lines_of_parts parts
more_lines part [] h = absurd (omega arith)
more_lines part (next ∷ parts) h = refl

-- a text that is split has at least one part
pub split_some : (p : ℕ → Bool) (text : List ℕ) → 0 < length (slice_split p text)
split_some p text = omega (arith, length-slice_split p text)

-- the first line, where a line end follows
pub lines-first : (script part rest : List ℕ) → slice_split is_line_end script ≡ part ∷ slice_split is_line_end rest → lines_of script ≡ strip_carriage_return part ∷ lines_of rest
lines-first script part rest e = rw e (more_lines part (slice_split is_line_end rest) (split_some is_line_end rest))

-- HALVES

halves_more : (a b : List ℕ) (parts : List (List ℕ)) → 0 < length parts → halves (a ∷ b ∷ parts) ≡ None
halves_more a b [] h = absurd (omega arith)
halves_more a b (c ∷ parts) h = refl

-- three parts or more are no halves
pub halves_three : (p : ℕ → Bool) (text r q a b : List ℕ) → slice_split p text ≡ a ∷ slice_split p r → slice_split p r ≡ b ∷ slice_split p q → halves (slice_split p text) ≡ None
halves_three p text r q a b first second = rw (first, second) (halves_more a b (slice_split p q) (split_some p q))

-- WORDS

-- a word that is not the first is one of those behind it
pub word_behind : (words behind : List (List ℕ)) (first : List ℕ) (k : ℕ) → 0 < k → words ≡ first ∷ behind → get_or words k [] ≡ get_or behind (k - 1) []
word_behind words behind first zero some e = absurd (omega arith)
word_behind words behind first (suc k) some e = rw e (ap (λ (n : ℕ). get_or behind n []) (omega arith))

pub word_first : (words behind : List (List ℕ)) (first : List ℕ) → words ≡ first ∷ behind → get_or words 0 [] ≡ first
word_first words behind first e = rw e refl

-- how much is left of a text
abbrev pub length_left : Option (Bor (List ℕ)) → ℕ
length_left None = 0
length_left (Some text) = suc (length text.now)

-- a line at which the test fails is passed
pub passes : (test : List ℕ → Bool) (line : List ℕ) (lines behind : List (List ℕ)) → lines ≡ line ∷ behind → test line ≡ false → (list_any test behind ≡ list_any test lines) × (1 + position_or_len test behind ≡ position_or_len test lines) × (behind ≡ drop 1 lines)
passes test line lines behind is fails = rw (is, fails) (refl, refl, refl)
