use Rattle.std.proofs.Common.{◌≡◌, ◌++◌, map, take, drop}
use Rattle.std.specs.Prelude.{if◌then◌else◌}
use Rattle.mas_types.specs.declared.queues.Owner.{Owner}
use Rattle.mas_types.specs.declared.queues.Owner.TheVariants as owner
use Rattle.mas_types.specs.Owners.{is_held_by}
use Rattle.queue_resets.specs.Resets.{is_one_of}
use Rattle.queue_resets.proofs.resets.reset_owner_list.Given as goal

-- the owners so far are free where one of the members holds them
abbrev pub invariant-loop-owner : goal.invariant-loop-owner
invariant-loop-owner l = take l.owner-index l.owners ++ map (λ (g : Owner). if is_held_by (is_one_of l.who) g then owner.Free else g) (drop l.owner-index l.owners) ≡ map (λ (g : Owner). if is_held_by (is_one_of l.who) g then owner.Free else g) l.fn.owners
