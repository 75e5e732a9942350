-- Records on a page.
use Rattle.std.specs.Prelude.{ℕ, nat_le, Bool, ◌&&◌, List, length, take}
use Rattle.mas_types.specs.Records.{is_record}

-- whether the bytes begin with the text of a record of that size
abbrev pub begins_record : ℕ → List ℕ → Bool
begins_record size bytes = nat_le size (length bytes) && is_record (take size bytes)
