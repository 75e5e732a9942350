use Rattle.member_work.proofs.Names.{◌∙◌, ap, subst, sym, List, Option, Job, is_cancelled as is_cancelled_lem, JobRec, AreJobs}
use Rattle.member_work.proofs.giving.is_cancelled.Goals as goal

pub returns-in-Some : goal.returns-in-Some
returns-in-Some c Q told =
    let has = c.in-Some.ensures.some Q.jobs (subst (λ (slots : List (Option JobRec)). AreJobs slots Q.jobs) (sym c.as_slice.ensures) told.jobs) in
    sym (ap (λ (o : Option Job). is_cancelled_lem o) has.found ∙ ap (λ (r : JobRec). r.cancelled) has.is)

pub returns-in-None : goal.returns-in-None
returns-in-None c Q told =
    let none = c.in-None.ensures.none Q.jobs (subst (λ (slots : List (Option JobRec)). AreJobs slots Q.jobs) (sym c.as_slice.ensures) told.jobs) in
    sym (ap (λ (o : Option Job). is_cancelled_lem o) none)
