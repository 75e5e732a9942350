-- The lines of a group.
use Rattle.std.specs.Prelude.{ℕ, List, [], Option, Some, None, option_map, length}

-- the lines that were found, none where none were
abbrev pub lines_of : Option (List (List ℕ)) → List (List ℕ)
lines_of None = []
lines_of (Some lines) = lines

-- how many were found
abbrev pub count_of : Option (List (List ℕ)) → Option ℕ
count_of found = option_map length found
