use Rattle.std.proofs.Common.{◌≡◌, ◌++◌, map, take, drop}
use Rattle.mas_types.specs.Ids.{same_number}
use Rattle.lay_bytes.specs.declared.records.OutRec.{OutRec}
use Rattle.queue_effect.specs.Slots.{emptied_where}
use Rattle.queue_effect.proofs.operator.empty_slots.Given as goal

-- the slots so far are empty where they have an output of the job
abbrev pub invariant-loop-slot : goal.invariant-loop-slot
invariant-loop-slot l = take l.slot-index l.outputs ++ map (emptied_where (λ (r : OutRec). same_number r.job l.job)) (drop l.slot-index l.outputs) ≡ map (emptied_where (λ (r : OutRec). same_number r.job l.job)) l.fn.outputs
