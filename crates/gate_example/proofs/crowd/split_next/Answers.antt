use Rattle.std.proofs.Common.{ap, subst, sym, ◌∙◌, ◌+◌, arith}
use Rattle.gate_facts.specs.Values.{marked_at}
use Rattle.member_gate.proofs.Places.{single_here}
use Rattle.member_gate.specs.Passes.{view}
use Rattle.gate_example.specs.Crowds.{IsRest}
use Rattle.gate_example.proofs.Joined.{rest_next}
use Rattle.gate_example.proofs.crowd.split_next.Goals as goal

pub returns-clause-rest : goal.returns-clause-rest
returns-clause-rest c = subst (λ v. IsRest v (c.args.by + 1)) (sym c.split.ensures.left) (rest_next (view c.args.root.now) c.args.by c.requires.rest)

pub returns-clause-by : goal.returns-clause-by
returns-clause-by c = (
  ap (λ v. v.member) c.split.ensures.right.1,
  ap (λ v. marked_at v.cares c.args.by) c.split.ensures.right.1 ∙ single_here c.args.by,
  (omega arith),
)
