-- Names as texts, and the names of members.
use Rattle.std.specs.Prelude.{ℕ, ◌+◌, ◌-◌, ◌==◌, nat_le, Bool, true, ◌&&◌, ◌||◌, if◌then◌else◌, List, [], ◌∷◌, ◌++◌, length, replicate, codes}
use Rattle.std.specs.List.{list_all, slice_index}
use Rattle.mas_types.specs.declared.ids.MemberId.{MemberId}
use Rattle.mas_types.specs.declared.ids.Name8.{Name8}
use Rattle.mas_types.specs.Limits.{name_bytes}

-- A to Z, 0 to 9, @, # and $
abbrev pub is_name_byte : ℕ → Bool
is_name_byte b = (nat_le 65 b && nat_le b 90) || (nat_le 48 b && nat_le b 57) || (b == 64) || (b == 35) || (b == 36)

-- a text that may be a name: 1 to 8 bytes of names
abbrev pub is_name_text : List ℕ → Bool
is_name_text text = nat_le 1 (length text) && nat_le (length text) name_bytes && list_all is_name_byte text

-- a text and blanks up to eight bytes
abbrev pub padded : List ℕ → List ℕ
padded text = text ++ replicate (name_bytes - length text) 32

abbrev pub is_blank : ℕ → Bool
is_blank b = b == 32

-- the bytes of a name and then blanks
abbrev pub is_padded : List ℕ → Bool
is_padded [] = true
is_padded (b ∷ bs) = if is_name_byte b then is_padded bs else list_all is_blank (b ∷ bs)

-- the test of a padded name: at least one byte of a name, and then blanks
abbrev pub is_name8 : List ℕ → Bool
is_name8 bytes = is_name_byte (slice_index bytes 0) && is_padded bytes

-- a text without the blanks at its end
abbrev pub unpadded : List ℕ → List ℕ
unpadded [] = []
unpadded (b ∷ bs) = if list_all is_blank (b ∷ bs) then [] else b ∷ unpadded bs

-- a name without its padding
abbrev pub name_text : Name8 → List ℕ
name_text name = unpadded name.0

-- LOCAL
abbrev pub local_name : Name8
local_name = record { 0 = codes "LOCAL   " }

-- SYSA for 1, SYSB for 2 and so on
abbrev pub member_text : ℕ → List ℕ
member_text m = 83 ∷ 89 ∷ 83 ∷ (m + 64) ∷ []

-- a member's name: SYSA for 1, SYSB for 2 and so on, and OPER for 0
abbrev pub member_name : MemberId → Name8
member_name m = record { 0 = padded (if m.0 == 0 then codes "OPER" else member_text m.0) }
