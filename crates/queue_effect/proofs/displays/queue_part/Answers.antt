use Rattle.std.proofs.Common.{◌≤◌, arith}
use Rattle.std.proofs.lemmas.List.Elements.{All-nil}
use Rattle.mas_types.specs.declared.jobs.Output.{Output}
use Rattle.mas_types.specs.Limits.{members_most}
use Rattle.queue_effect.proofs.Showing.{jobs_named, says_queue}
use Rattle.queue_effect.proofs.displays.queue_part.Goals as goal

pub returns-clause-named : goal.returns-clause-named
returns-clause-named c =
    rw (c.jobs_part.ensures, c.in_ok-jobs.ensures, c.slots_to-slots.ensures, c.as_slice.ensures, c.new-none.ensures)
    record { jobs = jobs_named c.args.tables.now c.requires.fit; outputs = All-nil (λ (o : Output). o.busy.0 ≤ members_most); members = omega arith }

pub returns-clause-same : goal.returns-clause-same
returns-clause-same c = λ Q stands.
    rw (c.jobs_part.ensures, c.in_ok-jobs.ensures, c.slots_to-slots.ensures, c.as_slice.ensures) (says_queue c.args.tables.now c.requires.fit Q stands)
