use Rattle.std.proofs.Common.{rules, subst, ◌<◌, ◌≡◌, false, arith}
use Rattle.gate_facts.specs.Values.{marked_at}
use Rattle.gate_facts.specs.Memory.{seats}
use Rattle.member_gate.proofs.Steps.{splits}
use Rattle.member_gate.proofs.pass.Gate.split_for.Goals as goal

pub split_seat-seat-requires : goal.split_seat-seat-requires
split_seat-seat-requires g c =
    let p = c.args.pass.now in
    let few = c.args.self.now.few in
    let most = c.requires.new.1 in
    let small : c.args.by < seats = omega arith in
    let n = subst (λ n. (0 < n) × (n < seats) × (marked_at p.seat.me.0.given n ≡ false)) c.requires.whom (c.requires.new.0, small, c.requires.new.2) in
    (search rules, search rules, splits g.V.Kept.tells g.V.Kept.facts _ p.seat.me.0 g.J.Whom.whom c.requires.free p.live c.requires.root n.0 n.1 n.2)
