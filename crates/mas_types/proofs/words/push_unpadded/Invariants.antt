use Rattle.std.proofs.Common.{◌≡◌, ◌++◌, drop}
use Rattle.mas_types.specs.Names.{unpadded}
use Rattle.mas_types.proofs.words.push_unpadded.Given as goal

-- what is left decides
abbrev pub invariant-loop-i : goal.invariant-loop-i
invariant-loop-i l = l.line ++ unpadded (drop l.i l.text) ≡ l.initial.line ++ unpadded l.text
