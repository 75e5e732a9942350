use Rattle.std.proofs.Common.{◌≡◌, ◌-◌, length}
use Rattle.mas_complex.specs.Parts.{parts_of}
use Rattle.member_wires.proofs.OnLine.{HasTakenSo}
use Rattle.member_wires.proofs.acts.take_waiting.Given as goal

abbrev pub decreases-loop-count : goal.decreases-loop-count
decreases-loop-count g l = length l.into - l.count

-- so many bytes were taken
abbrev pub invariant-loop-count : goal.invariant-loop-count
invariant-loop-count g l =
    let P = g.P.Plant in
    record {
      frame : parts_of l.complex ≡ record (parts_of l.fn.complex) { plant = l.complex.plant };
      size : length l.into ≡ length l.fn.into;
      so : HasTakenSo P.tells l.end (P.view l.fn.complex.plant) (P.view l.complex.plant) l.into l.count;
    }
