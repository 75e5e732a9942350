-- What a card is outside data, and the fields of a statement.
use Rattle.std.specs.Prelude.{ℕ, ◌-◌, ◌==◌, nat_eq, nat_le, Bool, true, false, not, ◌&&◌, ◌||◌, if◌then◌else◌, List, [], ◌∷◌, length, take, drop, slice_index, codes}
use Rattle.std.specs.List.{list_all, starts_with}
use Rattle.std.specs.Str.{bytes_eq}
use Rattle.mas_types.specs.Names.{is_blank, is_name_text}
use Rattle.mas_types.specs.Numerals.{is_digit}
use Rattle.card_reader.specs.declared.cards.Kind.{Kind}
use Rattle.card_reader.specs.declared.cards.Kind.TheVariants as kind
use Rattle.card_reader.specs.declared.cards.Operation.{Operation}
use Rattle.card_reader.specs.declared.cards.Operation.TheVariants as operation

-- KINDS OF CARDS

-- the columns that are read of a card that begins with `//`
abbrev pub columns_read : ℕ
columns_read = 71

abbrev pub is_comment : List ℕ → Bool
is_comment card = starts_with nat_eq card (codes "//*")

-- what follows the two slashes, up to column 71
abbrev pub body : List ℕ → List ℕ
body card = drop 2 (take columns_read card)

-- `//` and blanks, which ends the job
abbrev pub is_null : List ℕ → Bool
is_null card = starts_with nat_eq card (codes "//") && list_all is_blank (body card)

-- `/*` and a blank or nothing, which ends data
abbrev pub is_delimiter : List ℕ → Bool
is_delimiter card = starts_with nat_eq card (codes "/*") && ((length card == 2) || is_blank (slice_index card 2))

abbrev pub kind_of : List ℕ → Kind
kind_of card =
    if is_comment card then kind.Comment
    else if is_null card then kind.Null
    else if starts_with nat_eq card (codes "//") then kind.Statement
    else if is_delimiter card then kind.Delimiter
    else if starts_with nat_eq card (codes "/*") then kind.Jes
    else kind.Stray

abbrev pub is_statement_kind : Kind → Bool
is_statement_kind kind.Comment = false
is_statement_kind kind.Null = false
is_statement_kind kind.Statement = true
is_statement_kind kind.Delimiter = false
is_statement_kind kind.Jes = false
is_statement_kind kind.Stray = false

abbrev pub is_null_kind : Kind → Bool
is_null_kind kind.Comment = false
is_null_kind kind.Null = true
is_null_kind kind.Statement = false
is_null_kind kind.Delimiter = false
is_null_kind kind.Jes = false
is_null_kind kind.Stray = false

-- FIELDS

-- a text from its first byte on that is no blank
abbrev pub without_blanks : List ℕ → List ℕ
without_blanks [] = []
without_blanks (b ∷ bs) = if is_blank b then without_blanks bs else b ∷ bs

-- what stands before the first blank
abbrev pub word : List ℕ → List ℕ
word [] = []
word (b ∷ bs) = if is_blank b then [] else b ∷ word bs

-- what stands behind the first word and the blanks after it
abbrev pub behind_word : List ℕ → List ℕ
behind_word text = without_blanks (drop (length (word text)) text)

-- the name on a statement, empty where there is none
abbrev pub name_of : List ℕ → List ℕ
name_of card = word (body card)

abbrev pub operation_of : List ℕ → Operation
operation_of card =
    if bytes_eq (word (behind_word (body card))) (codes "JOB") then operation.Job
    else if bytes_eq (word (behind_word (body card))) (codes "EXEC") then operation.Exec
    else if bytes_eq (word (behind_word (body card))) (codes "DD") then operation.Dd
    else operation.Other

-- a statement's name: 1 to 8 bytes of a name, the first of them no digit
abbrev pub is_statement_name : List ℕ → Bool
is_statement_name name = is_name_text name && not (is_digit (slice_index name 0))

abbrev pub is_apostrophe : ℕ → Bool
is_apostrophe b = b == 39

-- whether a string in apostrophes is still open behind a byte; a doubled apostrophe closes it and opens it again
abbrev pub quoted_behind : Bool → ℕ → Bool
quoted_behind quoted b = if is_apostrophe b then not quoted else quoted

-- whether a string is open at the end of a text
abbrev pub ends_quoted : Bool → List ℕ → Bool
ends_quoted quoted [] = quoted
ends_quoted quoted (b ∷ bs) = ends_quoted (quoted_behind quoted b) bs

-- what stands before the first blank outside apostrophes; what follows it is a comment
abbrev pub field_in : Bool → List ℕ → List ℕ
field_in quoted [] = []
field_in quoted (b ∷ bs) = if is_blank b && not quoted then [] else b ∷ field_in (quoted_behind quoted b) bs

-- the operand field of the first card of a statement
abbrev pub first_field : List ℕ → List ℕ
first_field card = field_in false (behind_word (behind_word (body card)))

-- CONTINUATIONS

-- the greatest number of blanks between the slashes and continued operands, which begin in columns 4 to 16
abbrev pub blanks_most : ℕ
blanks_most = 13

-- `//`, a blank in column 3, and operands that begin in columns 4 to 16
abbrev pub is_continuation : List ℕ → Bool
is_continuation card =
    starts_with nat_eq card (codes "//") && nat_le 1 (length (without_blanks (body card)))
    && nat_le 1 (length (body card) - length (without_blanks (body card)))
    && nat_le (length (body card) - length (without_blanks (body card))) blanks_most

-- the operand field of a card that continues a statement
abbrev pub next_field : List ℕ → List ℕ
next_field card = field_in false (without_blanks (body card))

-- the last byte is a comma
abbrev pub ends_with_comma : List ℕ → Bool
ends_with_comma field = nat_le 1 (length field) && (slice_index field (length field - 1) == 44)

-- a field after which a continuation has to follow
abbrev pub is_continued : List ℕ → Bool
is_continued field = ends_with_comma field && not (ends_quoted false field)
