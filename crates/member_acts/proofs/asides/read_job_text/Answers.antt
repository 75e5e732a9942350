use Rattle.std.specs.Option.{option_map}
use Rattle.member_acts.proofs.Names.{Job, ◌≡◌, false, true, ◌∙◌, is_some, ap, refl, subst, sym, kept_all, run, parts_of, names_read, err_from_is_err_and, Deck, groups_of, SparesBut, tells_some, number_of, told_job, Found, FindsText}
use Rattle.member_acts.proofs.Shown.{job_lines}
use Rattle.member_acts.proofs.asides.read_job_text.Goals as goal

-- THE RECORD OF THE JOB

pub unreachable-requires : goal.unreachable-requires
unreachable-requires g c =
    let s = tells_some c.args.member.now.checkpoint.tables in
    let none = rw c.as_slice.ensures at c.in_default.ensures.none in
    absurd (let not : false ≡ true = ap is_some (sym (none s.0.jobs s.1.jobs)) ∙ (c.requires.there s.0 s.1) in cc)

pub read_thing-requires-clause-may : goal.read_thing-requires-clause-may
read_thing-requires-clause-may g c = c.requires.may

pub read_thing-requires-clause-count : goal.read_thing-requires-clause-count
read_thing-requires-clause-count g c =
    let f = c.in-Some.found in
    let some = rw c.as_slice.ensures at c.in-Some.ensures.some in
    let here = rw c.as_slice.ensures at c.in-Some.ensures.here in
    (told_job c.args.member.now.checkpoint.tables c.args.job f.at f.item c.requires.may.spelling some here).few

-- ITS TEXT IS READ

pub returns-in_err-read : goal.returns-in_err-read
returns-in_err-read g c =
    let on = c.read_thing.ensures.on in
    let p = err_from_is_err_and c.from_residual.result c.from_residual.ensures.1 in
    rw (p.1, p.2) (record { frame = on.frame; acts = on.acts; reads = on.reads; cause = c.in_err-read.ensures.cause; finds = tt })

pub returns : goal.returns
returns g c =
    let P = g.P.Plant in
    let x = c.args.complex.now in
    let y = c.read_thing.new.complex in
    let m = c.args.member.now in
    let t = m.checkpoint.tables in
    let n = c.args.job in
    let f = c.in-Some.found in
    let some = rw c.as_slice.ensures at c.in-Some.ensures.some in
    let here = rw c.as_slice.ensures at c.in-Some.ensures.here in
    let job = told_job t n f.at f.item c.requires.may.spelling some here in
    let s = tells_some t in
    let own = some s.0.jobs s.1.jobs in
    let number : f.item.number ≡ n = sym (ap (λ r. r.number) own.is) ∙ number_of n own.item s.0.jobs own.found in
    let on = c.read_thing.ensures.on in
    let its = c.in_ok-read.ensures.read in
    record {
      frame = on.frame;
      acts = on.acts;
      reads = on.reads;
      cause = subst (λ (k : Found). SparesBut m.id.0 false (names_read k.read) (P.view x.plant) (P.view y.plant)) (sym c.found_with.ensures) c.in_ok-read.ensures.cause;
      finds = subst (λ (k : Found). FindsText P (parts_of x) (parts_of y) m n k) (sym c.found_with.ensures)
          (record {
            only = refl;
            fits = its.fits;
            failed = its.failed;
            read = λ told roomy j there.
                let still = c.requires.still told in
                its.seen told roomy j.text (ap (option_map (λ (x : Job). x.text)) there) (job_lines t (run x.base (kept_all x.journal.batches)) n f.item j still job number there) (still.groups ∙ ap (groups_of (Deck n)) still.told.owners);
          });
    }
