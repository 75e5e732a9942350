-- What a contract sees of a text of which memory has no lines.
use Rattle.std.specs.Prelude.{ℕ, List, Option, Some, None}
use Rattle.mas_types.specs.declared.ids.GroupNo.{GroupNo}
use Rattle.mas_types.specs.declared.jobs.Text.{Text}
use Rattle.mas_types.specs.declared.jobs.Text.TheVariants.{Whole, Gone}

-- a text that is gone with such a group, where there is one, else the lines
abbrev pub text_shown : Option GroupNo → ℕ → List (List ℕ) → Text
text_shown (Some group) count lines = Gone group count
text_shown None count lines = Whole lines

-- the group with which a text is gone, and how many lines it had
abbrev pub what_is_gone : Text → Option (GroupNo × ℕ)
what_is_gone (Whole lines) = None
what_is_gone (Gone group count) = Some (group, count)
