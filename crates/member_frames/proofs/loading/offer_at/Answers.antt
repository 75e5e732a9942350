use Rattle.std.proofs.Common.{◌≡◌, ◌∙◌, ℕ, ◌+◌, Bool, false, true, if◌then◌else◌, Option, None, Some, ap, sym, arith}
use Rattle.std.specs.Prelude.{is_some, nat_lt, option_map}
use Rattle.std.proofs.lemmas.Bool.Decides.{nat_tests}
use Rattle.mas_types.specs.declared.jobs.Job.{Job}
use Rattle.mas_types.specs.Commands.Wire.{sent_on}
use Rattle.mas_types.specs.Queue.{job_at}
use Rattle.lay_bytes.specs.declared.records.JobRec.{JobRec}
use Rattle.nje_frames.specs.Grammar.{number_greatest}
use Rattle.step_turns.specs.Serving.{offer_of}
use Rattle.member_frames.proofs.Fronts.{sent_there}
use Rattle.member_frames.proofs.Offering.{none_offered, offered_as}
use Rattle.member_frames.proofs.loading.offer_at.Goals as goal

-- THE NUMBERS ARE USED UP

pub returns-then-sent-clause-is : goal.returns-then-sent-clause-is
returns-then-sent-clause-is c Q told =
    let sent = sent_there Q c.args.line c.count_on.result.now (c.count_on.ensures Q told) in
    let most : nat_lt (sent_on Q c.args.line) number_greatest ≡ false = grind (arith, nat_tests) in
    sym (none_offered Q c.args.line c.args.job most)

-- THE JOB IS THERE, or it isn't

pub returns-in-Some-clause-is : goal.returns-in-Some-clause-is
returns-in-Some-clause-is c Q told =
    let sent = sent_there Q c.args.line c.count_on.result.now (c.count_on.ensures Q told) in
    let few : nat_lt (sent_on Q c.args.line) number_greatest ≡ true = grind (arith, nat_tests) in
    let some = rw c.as_slice.ensures at c.in-Some.ensures.some in
    let has = some Q.jobs told.jobs in
    let f = c.in-Some.found.item in
    sym (offered_as Q c.args.line c.args.job has.item few has.found
    ∙ ap (λ (k : ℕ). Some (offer_of k c.args.job has.item)) sent
    ∙ ap (λ (r : JobRec). Some (record { job = c.args.job; number = c.count_on.result.now.sent + 1; origin = r.fields.origin; node = r.fields.node })) has.is)

pub returns-in-Some-clause-there : goal.returns-in-Some-clause-there
returns-in-Some-clause-there c =
    let some = rw c.as_slice.ensures at c.in-Some.ensures.some in
    record { there = λ Q told. let has = some Q.jobs told.jobs in ap (λ (o : Option Job). is_some o) has.found }

pub returns-in-None-clause-is : goal.returns-in-None-clause-is
returns-in-None-clause-is c Q told =
    let sent = sent_there Q c.args.line c.count_on.result.now (c.count_on.ensures Q told) in
    let few : nat_lt (sent_on Q c.args.line) number_greatest ≡ true = grind (arith, nat_tests) in
    let none = rw c.as_slice.ensures at c.in-None.ensures.none in
    sym (ap (λ (b : Bool). if b then option_map (offer_of (sent_on Q c.args.line) c.args.job) (job_at Q c.args.job) else None) few
    ∙ ap (λ (o : Option Job). option_map (offer_of (sent_on Q c.args.line) c.args.job) o) (none Q.jobs told.jobs))
