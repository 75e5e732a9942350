use Rattle.std.proofs.Common.{◌≡◌, true, map, take}
use Rattle.std.specs.List.{concat, list_all}
use Rattle.operator_cmds.specs.Written.{may_write, written}
use Rattle.operator_cmds.proofs.writing.write_command.Given as goal

-- the texts of the letters so far stand there, and each may be written
abbrev pub invariant-loop-letter : goal.invariant-loop-letter
invariant-loop-letter l = record {
  line : l.line ≡ concat (map (written l.command) (take l.letter-index l.letters));
  each : list_all (may_write l.command) (take l.letter-index l.letters) ≡ true;
}
