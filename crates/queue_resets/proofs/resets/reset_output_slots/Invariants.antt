use Rattle.std.proofs.Common.{◌≡◌, ◌++◌, map, take, drop}
use Rattle.lay_bytes.specs.declared.records.OutRec.{OutRec}
use Rattle.queue_resets.specs.Resets.{changed_where, is_one_of, output_reset}
use Rattle.queue_resets.proofs.resets.reset_output_slots.Given as goal

-- the outputs in the slots so far are reset where they are busy at one of the members
abbrev pub invariant-loop-slot : goal.invariant-loop-slot
invariant-loop-slot l = take l.slot-index l.slots ++ map (changed_where (λ (r : OutRec). is_one_of l.who r.busy) output_reset) (drop l.slot-index l.slots) ≡ map (changed_where (λ (r : OutRec). is_one_of l.who r.busy) output_reset) l.fn.slots
