-- What a line uses at most.
use Rattle.mas_run.specs.Names.{Fresh, Line}
use Rattle.std.specs.Prelude.{ℕ, ◌+◌, ◌^◌}
use Rattle.member_resets.specs.Quiet.{levels_for}

-- how many levels a line may use: one that serves a line to another node uses most, and a takeover one more
abbrev pub levels_most : ℕ
levels_most = levels_for (Fresh (Line 1)) + 4

-- A line is begun below this level. A run begins far below it, and comes nowhere near in as many lines as a script has.
abbrev pub level_most : ℕ
level_most = 2 ^ 62 + 2 ^ 61
