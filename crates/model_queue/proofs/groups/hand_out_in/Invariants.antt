use Rattle.std.proofs.Common.{◌≡◌, ◌++◌, take, drop}
use Rattle.mas_types.specs.Owners.{handed_out}
use Rattle.model_queue.proofs.groups.hand_out_in.Given as goal

-- the groups so far are handed out, and the rest gets what is left
abbrev pub invariant-loop-owner : goal.invariant-loop-owner
invariant-loop-owner l = take l.owner-index l.owners ++ handed_out l.fn.by (drop l.next l.new) (drop l.owner-index l.owners) ≡ handed_out l.fn.by l.new l.fn.owners
