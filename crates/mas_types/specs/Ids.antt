-- Tests of members, numbers, classes and names.
use Rattle.std.specs.Prelude.{◌==◌, Bool, not}
use Rattle.std.specs.Str.{bytes_eq}
use Rattle.mas_types.specs.declared.ids.MemberId.{MemberId}
use Rattle.mas_types.specs.declared.ids.JobNo.{JobNo}
use Rattle.mas_types.specs.declared.ids.OutNo.{OutNo}
use Rattle.mas_types.specs.declared.ids.Class.{Class}
use Rattle.mas_types.specs.declared.ids.Name8.{Name8}

-- no member: what nobody works on is busy at it
abbrev pub nobody : MemberId
nobody = record { 0 = 0 }

-- no job
abbrev pub no_number : JobNo
no_number = record { 0 = 0 }

abbrev pub same_member : MemberId → MemberId → Bool
same_member a b = a.0 == b.0

abbrev pub is_somebody : MemberId → Bool
is_somebody m = not (m.0 == 0)

abbrev pub same_number : JobNo → JobNo → Bool
same_number a b = a.0 == b.0

abbrev pub same_index : OutNo → OutNo → Bool
same_index a b = a.0 == b.0

abbrev pub same_class : Class → Class → Bool
same_class a b = a.0 == b.0

abbrev pub same_name : Name8 → Name8 → Bool
same_name a b = bytes_eq a.0 b.0
