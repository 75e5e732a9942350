use Rattle.std.proofs.Common.{◌≡◌, ◌++◌, map, take}
use Rattle.mas_types.specs.Histories.{history}
use Rattle.mas_complex.specs.Headline.{whole}
use Rattle.mas_complex.specs.Parts.{parts_of}
use Rattle.member_node.specs.Calls.{console_now}
use Rattle.race_ends.specs.Histories.{IsSaying}
use Rattle.race_ends.proofs.histories.say_history.Given as goal

-- so many lines were said
abbrev pub invariant-loop-at : goal.invariant-loop-at
invariant-loop-at g l =
    let P = g.P.Plant in
    record {
      frame : parts_of l.complex ≡ record (parts_of l.fn.complex) { plant = l.complex.plant };
      acts : IsSaying (P.view l.fn.complex.plant) (P.view l.complex.plant);
      said : P.tells → console_now (P.view l.complex.plant) ≡ console_now (P.view l.fn.complex.plant) ++ map whole (take l.at (history l.fn.complex.journal));
    }
