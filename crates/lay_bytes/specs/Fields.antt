-- Fields of a fixed width, one after the other.
use Rattle.std.specs.Prelude.{ℕ, ◌+◌, nat_le, Bool, ◌&&◌, if◌then◌else◌, List, [], ◌∷◌, take, drop, Option, Some, None}
use Rattle.std.specs.List.{slice_index}
use Rattle.std.specs.Int.{w16, w32, w64, from_be_bytes}
use Rattle.mas_types.specs.Fit.{is_class_byte}
use Rattle.lay_bytes.specs.declared.fields.Field.{Field}
use Rattle.lay_bytes.specs.declared.fields.Field.TheVariants.{Byte, Half, Word, Long, Class, Name, Classes, Zeros}
use Rattle.mas_types.specs.Names.{is_name8}
use Rattle.lay_bytes.specs.Bytes.{are_zeros, are_classes}

-- the piece of the bytes that begins at an offset and has this width
abbrev pub piece : ℕ → ℕ → List ℕ → List ℕ
piece at width bytes = take width (drop at bytes)

abbrev pub width_of : Field → ℕ
width_of (Byte least most) = 1
width_of (Half least most) = 2
width_of (Word least most) = 4
width_of (Long least most) = 8
width_of Class = 1
width_of Name = 8
width_of Classes = 37
width_of (Zeros count) = count

-- the width of all
abbrev pub widths : List Field → ℕ
widths [] = 0
widths (f ∷ fs) = width_of f + widths fs

abbrev pub is_between : ℕ → ℕ → ℕ → Bool
is_between least most n = nat_le least n && nat_le n most

-- the bytes may stand in the field
abbrev pub may_stand : Field → List ℕ → Bool
may_stand (Byte least most) bytes = is_between least most (slice_index bytes 0)
may_stand (Half least most) bytes = is_between least most (from_be_bytes w16 bytes)
may_stand (Word least most) bytes = is_between least most (from_be_bytes w32 bytes)
may_stand (Long least most) bytes = is_between least most (from_be_bytes w64 bytes)
may_stand Class bytes = is_class_byte (slice_index bytes 0)
may_stand Name bytes = is_name8 bytes
may_stand Classes bytes = are_classes bytes
may_stand (Zeros count) bytes = are_zeros bytes

-- the least offset of a field with bytes that may not stand in it
abbrev pub first_bad : ℕ → List Field → List ℕ → Option ℕ
first_bad at [] bytes = None
first_bad at (f ∷ fs) bytes = if may_stand f (piece at (width_of f) bytes) then first_bad (at + width_of f) fs bytes
    else Some at

-- the bytes of each field
abbrev pub pieces : ℕ → List Field → List ℕ → List (List ℕ)
pieces at [] bytes = []
pieces at (f ∷ fs) bytes = piece at (width_of f) bytes ∷ pieces (at + width_of f) fs bytes
