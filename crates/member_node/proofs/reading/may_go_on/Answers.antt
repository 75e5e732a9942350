use Rattle.std.proofs.Common.{rules, ◌≡◌, ◌∙◌, sym}
use Rattle.member_node.proofs.FitLemmas.{jobs_below, jobs_fit, not_both, outputs_below, outputs_fit}
use Rattle.member_node.proofs.reading.may_go_on.Goals as goal

pub returns-then-not-are_jobs_below-clause-not : goal.returns-then-not-are_jobs_below-clause-not
returns-then-not-are_jobs_below-clause-not c is may =
    let t = c.args.tables.now in
    not_both c.are_jobs_below.result c.if-not-are_jobs_below.true (c.are_jobs_below.ensures ∙ rw c.as_slice.ensures (jobs_below t.order t.jobs may.fit.jobs))

pub returns-clause-may : goal.returns-clause-may
returns-clause-may c is =
    let t = c.args.tables.now in
    let fit = c.requires.fit in
    let same : t.config ≡ c.args.config.now = search rules in
    record {
      same = same;
      fit = record {
        shape = fit.shape;
        jobs = jobs_fit t.order t.jobs (rw c.as_slice.ensures at (sym c.are_jobs_below.ensures ∙ c.if-not-are_jobs_below.false)) fit.jobs;
        outputs = outputs_fit t.order t.outputs (rw c.as_slice-2.ensures at (sym c.are_outputs_below.ensures ∙ is)) fit.outputs;
      };
      low_level = search rules;
      low_order = search rules;
    }

pub returns-clause-not : goal.returns-clause-not
returns-clause-not c is may =
    let t = c.args.tables.now in
    not_both c.are_outputs_below.result is (c.are_outputs_below.ensures ∙ rw c.as_slice-2.ensures (outputs_below t.order t.outputs may.fit.outputs))
