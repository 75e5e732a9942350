-- How far a text follows a form.
use Rattle.std.specs.Prelude.{ℕ, suc, ◌+◌, ◌==◌, nat_le, nat_lt, Bool, ◌&&◌, ◌||◌, if◌then◌else◌, List, [], ◌∷◌, ◌++◌, length, take, drop, Option, Some, None, option_map}
use Rattle.std.specs.List.{list_all}
use Rattle.std.specs.Str.{bytes_eq}
use Rattle.mas_types.specs.Fit.{is_class_byte}
use Rattle.mas_types.specs.Limits.{classes_most, name_bytes}
use Rattle.mas_types.specs.Names.{is_name_byte}
use Rattle.mas_types.specs.Numerals.{is_numeral, value_of}
use Rattle.operator_cmds.specs.declared.places.Numbers.{Numbers}
use Rattle.operator_cmds.specs.declared.places.Place.{Place}
use Rattle.operator_cmds.specs.declared.places.Place.TheVariants as place
use Rattle.operator_cmds.specs.Places.{is_member_letter, are_different, place_of, stands_in}

-- a numeral that is a number or becomes one by more digits
abbrev pub may_begin_number : Numbers → List ℕ → Bool
may_begin_number numbers text = is_numeral text && nat_le (value_of text) numbers.most &&
    (nat_lt (length text) numbers.width || ((length text == numbers.width) && nat_le numbers.least (value_of text)))

-- a text of at least one byte begins one that may stand in the place
abbrev pub may_begin : Place → List ℕ → Bool
may_begin (place.Byte b) text = bytes_eq text (b ∷ [])
may_begin (place.Number numbers) text = may_begin_number numbers text
may_begin place.Class text = (length text == 1) && list_all is_class_byte text
may_begin place.Classes text = nat_le (length text) classes_most && list_all is_class_byte text && are_different text
may_begin place.Name text = nat_le (length text) name_bytes && list_all is_name_byte text
may_begin place.Member text = (length text == 1) && list_all is_member_letter text

-- how many bytes of the text go on with the front in the place
abbrev pub reach : Place → List ℕ → List ℕ → ℕ
reach p front [] = 0
reach p front (b ∷ text) = if may_begin p (front ++ b ∷ []) then suc (reach p (front ++ b ∷ []) text) else 0

-- where the text leaves the form. None where all of it follows the form
abbrev pub stop : List ℕ → List ℕ → Option ℕ
stop [] [] = None
stop [] (b ∷ text) = Some 0
stop (l ∷ form) text =
    if stands_in (place_of l) (take (reach (place_of l) [] text) text)
    then option_map (λ m. reach (place_of l) [] text + m) (stop form (drop (reach (place_of l) [] text) text))
    else Some (reach (place_of l) [] text)

-- the text in the place of a letter of the form
abbrev pub text_in : List ℕ → List ℕ → ℕ → List ℕ
text_in [] text letter = []
text_in (l ∷ form) text letter =
    if l == letter then take (reach (place_of l) [] text) text
    else text_in form (drop (reach (place_of l) [] text) text) letter
