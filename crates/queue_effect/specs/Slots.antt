-- Slots that are changed one by one, and settings and lines that are changed at one place.
use Rattle.std.specs.Prelude.{ℕ, ◌-◌, ◌==◌, Bool, if◌then◌else◌, List, Option, Some, None}
use Rattle.mas_types.specs.declared.ids.MemberId.{MemberId}
use Rattle.mas_types.specs.declared.queues.LineCount.{LineCount}
use Rattle.mas_types.specs.declared.queues.Setting.{Setting}
use Rattle.mas_types.specs.Ids.{is_somebody}
use Rattle.mas_types.specs.Lists.{change_at}

-- a slot, emptied where the test picks what stands in it
abbrev pub emptied_where : {X : Type 0} → (X → Bool) → Option X → Option X
emptied_where test None = None
emptied_where test (Some x) = if test x then None else Some x

-- the settings, where that of a member is changed
abbrev pub setting_changed : MemberId → (Setting → Setting) → List Setting → List Setting
setting_changed m f settings = if is_somebody m then change_at (m.0 - 1) f settings else settings

-- the counts of the lines, where that of one is changed
abbrev pub count_changed : ℕ → (LineCount → LineCount) → List LineCount → List LineCount
count_changed l f counts = if l == 0 then counts else change_at (l - 1) f counts
