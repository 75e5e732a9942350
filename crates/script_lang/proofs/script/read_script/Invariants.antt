use Rattle.std.proofs.Common.{◌≡◌, ◌<◌, ◌+◌, ◌^◌, length}
use Rattle.script_lang.specs.Lines.{lines_of}
use Rattle.script_lang.specs.Script.{said, said_from}
use Rattle.script_lang.proofs.script.read_script.Given as goal

-- the lines that are left decide what the script says, after the state so far
abbrev pub invariant-loop-rest : goal.invariant-loop-rest
invariant-loop-rest l = record {
  fits : l.number + length l.rest < 2 ^ 32;
  said : said_from l.run l.number l.state (lines_of l.rest) ≡ said l.run l.fn.bytes;
}

abbrev pub decreases-loop-rest : goal.decreases-loop-rest
decreases-loop-rest l = length l.rest
