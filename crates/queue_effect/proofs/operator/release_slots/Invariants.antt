use Rattle.std.proofs.Common.{◌≡◌, ◌++◌, ◌&&◌, map, take, drop}
use Rattle.std.specs.Prelude.{false}
use Rattle.mas_types.specs.Ids.{same_number}
use Rattle.lay_bytes.specs.declared.records.OutRec.{OutRec}
use Rattle.queue_resets.specs.Resets.{changed_where}
use Rattle.queue_effect.proofs.operator.release_slots.Given as goal

-- the held outputs of the job in the slots so far are released
abbrev pub invariant-loop-slot : goal.invariant-loop-slot
invariant-loop-slot l = take l.slot-index l.outputs ++ map (changed_where (λ (r : OutRec). same_number r.job l.job && r.held) (λ (r : OutRec). record r { held = false })) (drop l.slot-index l.outputs) ≡ map (changed_where (λ (r : OutRec). same_number r.job l.job && r.held) (λ (r : OutRec). record r { held = false })) l.fn.outputs
