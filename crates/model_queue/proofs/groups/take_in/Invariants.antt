use Rattle.std.proofs.Common.{◌≡◌, ◌++◌, take, drop}
use Rattle.mas_types.specs.Owners.{taken}
use Rattle.model_queue.proofs.groups.take_in.Given as goal

-- the groups so far are taken, and the rest is what is left to take
abbrev pub invariant-loop-owner : goal.invariant-loop-owner
invariant-loop-owner l = take l.owner-index l.owners ++ taken l.by l.left (drop l.owner-index l.owners) ≡ taken l.by l.want l.fn.owners
