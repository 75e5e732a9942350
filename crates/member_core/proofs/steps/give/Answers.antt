use Rattle.std.proofs.Common.{◌≡◌, true, rules}
use Rattle.member_core.specs.Worlds.{is_up}
use Rattle.member_core.specs.Events.{allowed}
use Rattle.member_core.proofs.Given.{may_do}
use Rattle.member_core.proofs.steps.give.Goals as goal

pub reply_on-requires-clause-by : goal.reply_on-requires-clause-by
reply_on-requires-clause-by c =
    let up : is_up c.args.world.now c.args.by ≡ true = search rules in
    let may : allowed c.args.world.now c.args.by c.args.command.now ≡ true = search rules in
    rw c.in_ok-queue.ensures.value (may_do c.args.world.now c.requires.holds c.args.by c.args.command.now up may)
