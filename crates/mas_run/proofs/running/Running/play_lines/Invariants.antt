use Rattle.mas_run.proofs.Names.{◌≡◌, ◌+◌, BetweenLines, HaveRead}
use Rattle.mas_run.proofs.RunLemmas.{AreOnTheWay}
use Rattle.mas_run.proofs.running.Running.play_lines.Given as goal

abbrev pub invariant-loop-line : goal.invariant-loop-line
invariant-loop-line g l =
    let y = l.self.complex in
    record {
      number : l.number ≡ l.line-index;
      between : BetweenLines y l.self.members (l.number + 1);
      readers : HaveRead y l.self.readers;
      way : AreOnTheWay l.lines l.fn.self.complex l.number y;
    }
