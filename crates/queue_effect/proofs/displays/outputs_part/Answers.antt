use Rattle.std.proofs.Common.{◌≤◌, arith}
use Rattle.std.proofs.lemmas.List.Elements.{All-nil}
use Rattle.mas_types.specs.declared.jobs.Job.{Job}
use Rattle.mas_types.specs.Limits.{members_most}
use Rattle.queue_effect.proofs.Showing.{outputs_named, says_outputs}
use Rattle.queue_effect.proofs.displays.outputs_part.Goals as goal

pub returns-clause-named : goal.returns-clause-named
returns-clause-named c =
    rw (c.jobs_part.ensures, c.new-none.ensures, c.in_ok-outputs.ensures, c.slots_to-slots.ensures, c.as_slice.ensures)
    record { jobs = All-nil (λ (j : Job). j.busy.0 ≤ members_most); outputs = outputs_named c.args.tables.now c.requires.fit; members = omega arith }

pub returns-clause-same : goal.returns-clause-same
returns-clause-same c = λ Q stands.
    rw (c.jobs_part.ensures, c.in_ok-outputs.ensures, c.slots_to-slots.ensures, c.as_slice.ensures) (says_outputs c.args.tables.now c.requires.fit Q stands)
