-- What the operator does before the members begin.
use Rattle.std.specs.Prelude.{ℕ, ◌+◌, ◌≤◌, ◌<◌, nat_lt, not, ◌&&◌, Bool, true, false, if◌then◌else◌, List, [], ◌∷◌}
use Rattle.mas_types.specs.declared.ids.MemberId.{MemberId}
use Rattle.mas_types.specs.Closings.{closing_line}
use Rattle.mas_types.specs.Ids.{same_member}
use Rattle.script_lang.specs.declared.types.Ask.{Ask}
use Rattle.script_lang.specs.declared.types.Ask.TheVariants as ask
use Rattle.script_lang.specs.declared.types.Step.{Step}
use Rattle.spool_plant.specs.Acts.{next}
use Rattle.run_turns.specs.Admissions.{no_member}
use Rattle.race_turns.specs.Races.{is_raced}

-- one of so many members
abbrev pub IsOne : ℕ → MemberId → Type 0
IsOne members m = (0 < m.0) × (m.0 ≤ members)

-- LINES OF MEMBERS THAT ARE NONE are refused: the lines with which they close, of which the first has this number

abbrev pub is_refused : ℕ → Step → Bool
is_refused members s = is_raced s.what && nat_lt members s.by.0

abbrev pub if_refused : Bool → List ℕ → List (List ℕ) → List (List ℕ)
if_refused true line lines = line ∷ lines
if_refused false line lines = lines

abbrev pub refused_lines : ℕ → ℕ → List Step → List (List ℕ)
refused_lines members at [] = []
refused_lines members at (s ∷ steps) =
    if_refused (is_refused members s) (closing_line s.by at no_member) (refused_lines members (at + 1) steps)

-- STOPS ARE ARMED, at members: how often by now that of one is

abbrev pub is_stop_in : Ask → Bool
is_stop_in (ask.StopIn fuse n) = true
is_stop_in what = false

abbrev pub arms_one : ℕ → MemberId → Step → Bool
arms_one members m s = is_stop_in s.what && same_member s.by m && not (nat_lt members s.by.0)

abbrev pub armed_by : ℕ → MemberId → List Step → ℕ → ℕ
armed_by members m [] arms = arms
armed_by members m (s ∷ steps) arms = armed_by members m steps (if arms_one members m s then next arms else arms)
