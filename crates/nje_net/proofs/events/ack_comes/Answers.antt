use Rattle.std.proofs.Common.{◌≡◌, Some, ◌∙◌, sym, ap, arith}
use Rattle.nje_net.specs.declared.nets.End.{End}
use Rattle.nje_net.specs.Numbered.{numbered}
use Rattle.nje_net.specs.Events.{ack_comes, ack_comes_to}
use Rattle.nje_net.proofs.Bounds.{line_below}
use Rattle.nje_net.proofs.events.ack_comes.Goals as goal

pub ack_comes_to-requires : goal.ack_comes_to-requires
ack_comes_to-requires c = (line_below 4294967295 c.args.world.now c.end_at.result.node c.end_at.result.line (omega arith) c.requires).0

pub returns : goal.returns
returns c =
    let found : numbered c.args.number c.args.world.now.acks ≡ Some c.in-Some.ack = sym c.numbered.ensures ∙ c.in-Some.is in
    c.ack_comes_to.ensures
    ∙ (ap (λ (e : End). ack_comes_to c.args.world.now c.in-Some.ack.number e) c.end_at.ensures
    ∙ ap (ack_comes c.args.net.now c.args.world.now) (sym found))
