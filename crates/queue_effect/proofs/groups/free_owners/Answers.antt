use Rattle.std.proofs.Common.{◌<◌, length, arith, rules}
use Rattle.std.specs.Prelude.{if◌then◌else◌, filter}
use Rattle.mas_types.specs.declared.queues.Owner.{Owner}
use Rattle.mas_types.specs.declared.queues.Owner.TheVariants as owner
use Rattle.mas_types.specs.Owners.{is_of_any}
use Rattle.mas_types.specs.Queue.{is_of}
use Rattle.queue_resets.proofs.Loops.{map_here}
use Rattle.queue_effect.proofs.groups.free_owners.Goals as goal

pub loop-owner-preserved : goal.loop-owner-preserved
loop-owner-preserved c =
    let inside : c.loop-owner.owner-index < length c.loop-owner.owners = omega arith in
    record {
      rest = λ os are.
          map_here c.loop-owner.owners c.loop-owner.owner-index inside (λ (g : Owner). if is_of_any (filter (is_of c.args.job) os) g then owner.Free else g) _ _ _ (c.loop-owner.invariant.rest os are) (rw (c.is_print_of.ensures os are) at c.free_if.ensures);
      size = search rules;
    }
