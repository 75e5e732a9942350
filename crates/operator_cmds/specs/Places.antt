-- What may stand in the places of a form.
use Rattle.std.specs.Prelude.{ℕ, ◌+◌, ◌==◌, nat_le, Bool, true, not, ◌&&◌, if◌then◌else◌, List, [], ◌∷◌, length}
use Rattle.std.specs.List.{list_all, list_any}
use Rattle.std.specs.Str.{bytes_eq}
use Rattle.mas_types.specs.Fit.{is_class_byte}
use Rattle.mas_types.specs.Limits.{number_most, index_most, prio_most, printer_lines_most, classes_most, members_most}
use Rattle.mas_types.specs.Names.{is_name_text}
use Rattle.mas_types.specs.Numerals.{is_numeral, value_of}
use Rattle.operator_cmds.specs.declared.places.Numbers.{Numbers}
use Rattle.operator_cmds.specs.declared.places.Place.{Place}
use Rattle.operator_cmds.specs.declared.places.Place.TheVariants as place

-- NUMBERS: so many digits at most, the least number and the greatest

abbrev pub job_numbers : Numbers
job_numbers = record { width = 5; least = 1; most = number_most }

abbrev pub index_numbers : Numbers
index_numbers = record { width = 2; least = 1; most = index_most }

abbrev pub prio_numbers : Numbers
prio_numbers = record { width = 10; least = 0; most = prio_most }

-- the lines that a printer prints at a time
abbrev pub line_numbers : Numbers
line_numbers = record { width = 10; least = 1; most = printer_lines_most }

-- the lines by which a mark falls or rises
abbrev pub mark_numbers : Numbers
mark_numbers = record { width = 10; least = 1; most = 9999999 }

-- a text is one of the numbers. Leading zeros are accepted
abbrev pub is_number : Numbers → List ℕ → Bool
is_number numbers text = is_numeral text && nat_le (length text) numbers.width && nat_le numbers.least (value_of text)
    && nat_le (value_of text) numbers.most

-- CLASSES AND MEMBERS

-- no byte stands twice
abbrev pub are_different : List ℕ → Bool
are_different [] = true
are_different (b ∷ bs) = not (list_any (λ c. c == b) bs) && are_different bs

-- 1 to 36 different classes
abbrev pub are_classes : List ℕ → Bool
are_classes text = nat_le 1 (length text) && nat_le (length text) classes_most && list_all is_class_byte text &&
    are_different text

-- A to H, the last letter of a member's name
abbrev pub is_member_letter : ℕ → Bool
is_member_letter b = nat_le 65 b && nat_le b (64 + members_most)

-- PLACES

-- what may stand in the place that a letter of a form marks
abbrev pub place_of : ℕ → Place
place_of letter =
    if letter == 110 then place.Number job_numbers
    else if letter == 107 then place.Number index_numbers
    else if letter == 112 then place.Number prio_numbers
    else if letter == 108 then place.Number line_numbers
    else if letter == 98 then place.Number mark_numbers
    else if letter == 99 then place.Class
    else if letter == 115 then place.Classes
    else if letter == 102 then place.Name
    else if letter == 109 then place.Member
    else place.Byte letter

-- the text may stand in the place
abbrev pub stands_in : Place → List ℕ → Bool
stands_in (place.Byte b) text = bytes_eq text (b ∷ [])
stands_in (place.Number numbers) text = is_number numbers text
stands_in place.Class text = (length text == 1) && list_all is_class_byte text
stands_in place.Classes text = are_classes text
stands_in place.Name text = is_name_text text
stands_in place.Member text = (length text == 1) && list_all is_member_letter text
