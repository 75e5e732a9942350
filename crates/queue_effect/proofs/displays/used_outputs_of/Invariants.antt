use Rattle.std.proofs.Common.{◌≡◌, take}
use Rattle.std.specs.Prelude.{filter}
use Rattle.mas_types.specs.Ids.{same_number}
use Rattle.lay_bytes.specs.declared.records.OutRec.{OutRec}
use Rattle.lay_bytes.specs.Used.{used}
use Rattle.queue_effect.proofs.displays.used_outputs_of.Given as goal

-- the outputs of the job in the slots so far
abbrev pub invariant-loop-slot : goal.invariant-loop-slot
invariant-loop-slot l = l.outputs.items ≡ filter (λ (r : OutRec). same_number r.job l.job) (used (take l.slot-index l.slots))
