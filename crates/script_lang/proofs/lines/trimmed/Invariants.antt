use Rattle.std.proofs.Common.{◌≡◌, ◌≤◌, length, take}
use Rattle.mas_types.specs.Names.{unpadded}
use Rattle.script_lang.proofs.lines.trimmed.Given as goal

-- the bytes up to the end decide
abbrev pub invariant-loop-end : goal.invariant-loop-end
invariant-loop-end l = record {
  within : l.end ≤ length l.line;
  rest : unpadded (take l.end l.line) ≡ unpadded l.line;
}

abbrev pub decreases-loop-end : goal.decreases-loop-end
decreases-loop-end l = l.end
