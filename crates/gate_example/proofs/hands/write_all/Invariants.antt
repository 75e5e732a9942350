use Rattle.std.proofs.Common.{length, ◌-◌, ◌≡◌, ◌≤◌, false, take}
use Rattle.gate_facts.specs.Values.{begun_of}
use Rattle.member_gate.specs.Passes.{view, IsPassOf, IsSame}
use Rattle.gate_example.specs.Writing.{written}
use Rattle.gate_example.proofs.hands.write_all.Given as goal

abbrev pub invariant-loop-next : goal.invariant-loop-next
invariant-loop-next g l = record {
  count : l.next ≤ length l.steps;
  own : IsPassOf l.gate l.pass;
  free : (view l.pass).has ≡ false;
  same : IsSame (view l.initial.pass) (view l.pass);
  written : begun_of (view l.pass).bare.last l.by ≡ written l.by (take l.next l.steps);
}

abbrev pub decreases-loop-next : goal.decreases-loop-next
decreases-loop-next g l = length l.steps - l.next
