use Rattle.std.proofs.Common.{◌≡◌, ◌++◌, false, map, take}
use Rattle.mas_complex.specs.Headline.{whole}
use Rattle.mas_complex.specs.Parts.{parts_of}
use Rattle.member_node.specs.Calls.{console_now}
use Rattle.member_node.specs.Spares.{Spares}
use Rattle.member_steps.specs.Saying.{OnConsole}
use Rattle.member_steps.proofs.telling.tell_lines.Given as goal

abbrev pub invariant-loop-at : goal.invariant-loop-at
invariant-loop-at g l =
    let P = g.P.Plant in
    let x = l.fn.complex in
    let y = l.complex in
    record {
      pair : y.pair ≡ x.pair;
      frame : parts_of y ≡ record (parts_of x) { plant = y.plant };
      acts : OnConsole P.tells (P.view x.plant) (P.view y.plant);
      spares : Spares l.member.id.0 false (P.view x.plant) (P.view y.plant);
      front : P.tells → console_now (P.view y.plant) ≡ console_now (P.view x.plant) ++ map whole (take l.at l.lines);
    }
