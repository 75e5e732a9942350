use Rattle.std.proofs.Common.{rules, subst, sym, ◌≡◌, ◌∙◌, ◌+◌, take}
use Rattle.gate_facts.specs.Values.{begun_of}
use Rattle.member_gate.specs.Passes.{view, IsSame}
use Rattle.gate_example.specs.Writing.{written}
use Rattle.gate_example.specs.Crowds.{HaveWritten}
use Rattle.gate_example.proofs.Joined.{written_joined}
use Rattle.gate_example.proofs.crowd.+spread.Goals as goal

pub returns-clause-written : goal.returns-clause-written
returns-clause-written g t c =
    let a = view c.join-mine.result.0.0 in
    let r = view c.join-mine.result.1 in
    let same : IsSame (view c.split_next-pass.result) a = search rules in
    let wrote : begun_of a.bare.last c.args.by ≡ written c.args.by (take c.join-mine.result.0.1 c.args.steps.now) = search rules in
    let above : HaveWritten r (c.args.by + 1) c.args.members c.args.steps.now = search rules in
    subst (λ v. HaveWritten v c.args.by c.args.members c.args.steps.now) (sym c.join.ensures.view)
    (written_joined r a c.args.by c.args.members _ c.args.steps.now above (same.cares ∙ c.split_next-pass.ensures.cares) wrote)
