use Rattle.std.proofs.Common.{ap, ◌∙◌, ◌++◌, ◌∷◌, []}
use Rattle.gate_facts.specs.Values.{begun_of, marked_at}
use Rattle.member_gate.specs.Passes.{view}
use Rattle.gate_example.specs.Writing.{entry}
use Rattle.gate_example.proofs.Entries.{may_add, begun_more}
use Rattle.gate_example.proofs.hands.write_one.Goals as goal

pub end_turn-requires-clause-value : goal.end_turn-requires-clause-value
end_turn-requires-clause-value g c =
    let e = c.turn-diary.ensures.view.1 in
    may_add (view c.turn-diary.new.pass) c.turn-diary.result.entries _ c.args.by c.args.step (ap (λ v. v.bare.out) e) (ap (λ v. v.told.out) e) c.in-Ok.ensures.ok (ap (λ v. v.member) e ∙ c.requires.by.0) (ap (λ v. marked_at v.cares c.args.by) e ∙ c.requires.by.1)

pub returns-in-Ok-clause-written : goal.returns-in-Ok-clause-written
returns-in-Ok-clause-written g c =
    ap (λ v. begun_of v.bare.last c.args.by) c.end_turn.ensures.view
    ∙ (begun_more c.turn-diary.result.entries _ c.args.by c.args.step c.requires.by.2 c.in-Ok.ensures.ok
    ∙ ap (λ l. l ++ entry c.args.by c.args.step ∷ []) (c.turn-diary.ensures.value.bare.0.begun c.args.by c.requires.by.1))
