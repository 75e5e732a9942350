use Rattle.std.proofs.Common.{◌≡◌, ◌≤◌, ◌&&◌, take}
use Rattle.std.specs.Prelude.{count_by}
use Rattle.mas_types.specs.Ids.{same_number}
use Rattle.lay_bytes.specs.declared.records.OutRec.{OutRec}
use Rattle.lay_bytes.specs.Used.{used}
use Rattle.queue_effect.proofs.operator.held_count.Given as goal

-- the held outputs of the job in the slots so far
abbrev pub invariant-loop-slot : goal.invariant-loop-slot
invariant-loop-slot l = record {
  counted : l.count ≡ count_by (λ (r : OutRec). same_number r.job l.job && r.held) (used (take l.slot-index l.outputs));
  few : l.count ≤ l.slot-index;
}
