use Rattle.member_units.proofs.Names.{◌≡◌, Some, ◌∙◌, ap, refl, sym, subst, arith, is_some, true, JobNo, job_at, IsUnderWay, ReadText, text_of, tells_some}
use Rattle.lay_bytes.specs.declared.records.JobRec.{JobRec}
use Rattle.mas_types.specs.declared.jobs.Job.{Job}
use Rattle.std.specs.Prelude.{Option}
use Rattle.member_work.proofs.LookingLemmas.{number_of, told_job}
use Rattle.member_units.proofs.nexts.next_text.Goals as goal

pub returns-in-Some : goal.returns-in-Some
returns-in-Some c =
    let m = c.args.member.now in
    let t = m.checkpoint.tables in
    let n = c.args.job in
    let f = c.in-Some.found in
    let some = rw c.as_slice.ensures at c.in-Some.ensures.some in
    let here = rw c.as_slice.ensures at c.in-Some.ensures.here in
    let s = tells_some t in
    let own = some s.0.jobs s.1.jobs in
    let number = sym (ap (λ (r : JobRec). r.number) own.is) ∙ number_of n own.item s.0.jobs own.found in
    record {
      is = λ Q told.
          let has = some Q.jobs told.jobs in
          sym (ap (text_of c.args.runs c.args.progress) has.found ∙ ap (λ (r : JobRec). Some (ReadText c.args.runs r.number r.fields c.args.progress)) has.is);
      awaited = λ job. record {
        ready = (
          (told_job t n f.at f.item c.requires some here).fields,
          record {
            there = λ Q told. subst (λ (k : JobNo). is_some (job_at Q k) ≡ true) (sym number) (ap (λ (o : Option Job). is_some o) (some Q.jobs told.jobs).found);
            under_way = λ Q told sound. subst (λ (k : JobNo). IsUnderWay Q m.id k) (sym number) (job Q told sound);
          },
        );
        units = refl;
        done = refl;
        most = omega arith;
      };
    }

pub returns-in-None : goal.returns-in-None
returns-in-None c =
    let none = rw c.as_slice.ensures at c.in-None.ensures.none in
    record { is = λ Q told. sym (ap (text_of c.args.runs c.args.progress) (none Q.jobs told.jobs)); awaited = λ job. tt }
