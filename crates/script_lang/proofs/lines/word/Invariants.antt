use Rattle.std.proofs.Common.{◌≡◌, ◌-◌, [], get_or}
use Rattle.script_lang.specs.Lines.{words_in}
use Rattle.script_lang.proofs.lines.word.Given as goal

-- the word is one of those left
abbrev pub invariant-loop-passed : goal.invariant-loop-passed
invariant-loop-passed l = get_or (words_in l.rest) (l.at - l._passed) [] ≡ get_or (words_in l.text) l.at []
