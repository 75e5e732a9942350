-- The operands of a statement.
use Rattle.std.specs.Prelude.{ℕ, ◌+◌, ◌-◌, ◌==◌, Bool, true, false, not, ◌&&◌, if◌then◌else◌, Option, Some, None, List, [], ◌∷◌}
use Rattle.std.specs.Borrow.{Bor}
use Rattle.card_reader.specs.Cards.{quoted_behind, is_apostrophe}

-- how many parentheses are open behind a byte; within apostrophes there are none
abbrev pub depth_behind : Bool → ℕ → ℕ → ℕ
depth_behind quoted depth b = if quoted then depth else if b == 40 then depth
    + 1 else if b == 41 then depth - 1 else depth

-- a comma outside parentheses and apostrophes
abbrev pub is_separator : Bool → ℕ → ℕ → Bool
is_separator quoted depth b = (b == 44) && not quoted && (depth == 0)

-- what stands before the first comma that ends an operand
abbrev pub operand_in : Bool → ℕ → List ℕ → List ℕ
operand_in quoted depth [] = []
operand_in quoted depth (b ∷ bs) = if is_separator quoted depth b then [] else b
    ∷ operand_in (quoted_behind quoted b) (depth_behind quoted depth b) bs

-- the first operand of a field
abbrev pub first_operand : List ℕ → List ℕ
first_operand field = operand_in false 0 field

-- a byte before the first of some parts
abbrev pub onto_first_part : ℕ → List (List ℕ) → List (List ℕ)
onto_first_part b [] = (b ∷ []) ∷ []
onto_first_part b (part ∷ parts) = (b ∷ part) ∷ parts

-- the parts of a field between the commas that end its operands
abbrev pub parts_in : Bool → ℕ → List ℕ → List (List ℕ)
parts_in quoted depth [] = [] ∷ []
parts_in quoted depth (b ∷ bs) =
    if is_separator quoted depth b then [] ∷ parts_in false 0 bs
    else onto_first_part b (parts_in (quoted_behind quoted b) (depth_behind quoted depth b) bs)

-- the operands of a field; an empty field has none
abbrev pub operands_of : List ℕ → List (List ℕ)
operands_of [] = []
operands_of (b ∷ bs) = parts_in false 0 (b ∷ bs)

-- each parenthesis outside apostrophes is closed, none is closed that is not open, and each string ends
abbrev pub is_balanced_in : Bool → ℕ → List ℕ → Bool
is_balanced_in quoted depth [] = not quoted && (depth == 0)
is_balanced_in quoted depth (b ∷ bs) =
    if not quoted && (b == 41) && (depth == 0) then false
    else is_balanced_in (quoted_behind quoted b) (depth_behind quoted depth b) bs

abbrev pub is_balanced : List ℕ → Bool
is_balanced field = is_balanced_in false 0 field

-- the byte is neither an apostrophe nor a parenthesis
abbrev pub is_plain : ℕ → Bool
is_plain b = not (is_apostrophe b) && not (b == 40) && not (b == 41)

-- KEY=value: the key has neither apostrophes nor parentheses. Any other operand is positional.
abbrev pub is_keyword : List ℕ → Bool
is_keyword [] = false
is_keyword (b ∷ bs) = if b == 61 then true else is_plain b && is_keyword bs

-- the operands that are left behind a comma, if there is one
abbrev pub operands_left : Option (Bor (List ℕ)) → List (List ℕ)
operands_left None = []
operands_left (Some text) = parts_in false 0 text.now
