-- What holds of the groups of every text.
use Rattle.std.specs.Prelude.{◌≡◌, ◌↔◌, ℕ, List, length, All, Some}
use Rattle.std.specs.List.{flat_map}
use Rattle.mas_types.specs.Fit.{AreLines}
use Rattle.mas_types.specs.Limits.{page_bytes}
use Rattle.mas_types.specs.Owners.{groups_needed}
use Rattle.mas_types.specs.Records.{HoldsRecords, records_in}
use Rattle.spool_text.specs.Texts.{grouped, group_bytes, packed, text_of}

-- what is read from a group is what it holds
abbrev pub ReadsWhatIsHeld : Type 0
ReadsWhatIsHeld = (group : List ℕ) (lines : List (List ℕ)) → (records_in group ≡ Some lines) ↔ HoldsRecords group lines

-- a text is the records of its groups, one after the other
abbrev pub ReadsWhatIsPacked : Type 0
ReadsWhatIsPacked = (lines : List (List ℕ)) → AreLines lines → text_of (packed lines) ≡ Some lines

-- each group holds its own lines
abbrev pub HoldsItsLines : Type 0
HoldsItsLines = (lines : List (List ℕ)) → AreLines lines
    → All (λ group. HoldsRecords (group_bytes group) group) (grouped lines)

-- each line stands in one group, in order
abbrev pub HasEachLine : Type 0
HasEachLine = (lines : List (List ℕ)) → flat_map (λ group. group) (grouped lines) ≡ lines

-- a text has as many groups as it needs
abbrev pub HasNeededGroups : Type 0
HasNeededGroups = (lines : List (List ℕ)) → length (packed lines) ≡ groups_needed lines

-- each group is a page
abbrev pub FillsPages : Type 0
FillsPages = (lines : List (List ℕ)) → AreLines lines → All (λ group. length group ≡ page_bytes) (packed lines)
