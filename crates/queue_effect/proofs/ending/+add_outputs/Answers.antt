use Rattle.std.proofs.Common.{◌≡◌, ◌+◌, ◌≤◌, List, [], ◌∷◌, length, subst, arith}
use Rattle.std.proofs.lemmas.List.Elements.{All-head, All-tail}
use Rattle.mas_types.specs.declared.jobs.OutSpec.{OutSpec}
use Rattle.mas_types.specs.Fit.{IsOutSpec}
use Rattle.mas_types.specs.Owners.{groups_needed, member_count}
use Rattle.mas_types.specs.Commands.Life.{groups_of_outputs}
use Rattle.queue_effect.proofs.EndLemmas.{none_added, more_added, no_items}
use Rattle.queue_effect.proofs.GroupLemmas.{sum-groups}
use Rattle.queue_effect.proofs.Marking.{then_touched}
use Rattle.queue_effect.proofs.ending.+add_outputs.Goals as goal

pub returns-in_default-clause-stands : goal.returns-in_default-clause-stands
returns-in_default-clause-stands t c = λ Q stands.
    let empty : c.args.outputs.now ≡ [] = no_items c.args.outputs.now c.in_default.ensures.cases in
    rw empty (none_added c.args.tables.now Q c.args.by c.args.job c.args.first stands)

pub add_output-requires-clause-spec : goal.add_output-requires-clause-spec
add_output-requires-clause-spec t c = All-head IsOutSpec c.in-Some.output.now c.in-Some.rest.now (rw c.in-Some.ensures.cases.0 at c.requires.specs)

pub add_outputs-requires : goal.add_outputs-requires
add_outputs-requires t c =
    let x : OutSpec = c.in-Some.output.now in
    let rest : List OutSpec = c.in-Some.rest.now in
    let specs = All-tail IsOutSpec x rest (rw c.in-Some.ensures.cases.0 at c.requires.specs) in
    let more : length rest + 1 ≡ length c.args.outputs.now = c.in-Some.ensures.cases.1 in
    let sum : groups_of_outputs (x ∷ rest) ≡ groups_needed x.text + groups_of_outputs rest = sum-groups x rest in
    let all : groups_of_outputs (x ∷ rest) ≤ member_count c.args.by c.args.tables.now.owners = subst (λ (xs : List OutSpec). groups_of_outputs xs ≤ member_count c.args.by c.args.tables.now.owners) c.in-Some.ensures.cases.0 c.requires.groups in
    let left = c.add_output.ensures.left in
    let used = c.add_output.ensures.used in
    let size = c.add_output.ensures.slots in
    let order = c.add_output.ensures.order in
    (omega arith, (omega arith, (specs, (c.add_output.ensures.fits, (omega arith, (omega arith, omega arith))))))

pub returns-clause-stands : goal.returns-clause-stands
returns-clause-stands t c = λ Q stands.
    let x : OutSpec = c.in-Some.output.now in
    let rest : List OutSpec = c.in-Some.rest.now in
    rw c.in-Some.ensures.cases.0
    (more_added c.law_of_giving.ensures.texts c.law_of_giving.ensures.turns c.add_outputs.new.tables Q c.args.by c.args.job c.args.first x rest
    (c.add_outputs.ensures.stands _ (c.add_output.ensures.stands Q stands)))

pub returns-clause-touches : goal.returns-clause-touches
returns-clause-touches t c = then_touched _ _ _ _ _ _ c.add_output.ensures.touches (λ fit. c.add_output.ensures.fits) c.add_outputs.ensures.touches
