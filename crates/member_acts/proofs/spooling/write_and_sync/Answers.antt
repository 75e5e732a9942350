use Rattle.member_acts.proofs.Names.{◌≡◌, false, ◌∙◌, Err, ap, spools_at, err_from_is_err_and, Parts, none_lost, sparing_then, acts_on, cause_by, kept_quiet, kept_then, all_spooled}
use Rattle.member_acts.proofs.spooling.write_and_sync.Goals as goal

pub returns-in_err-write_outputs : goal.returns-in_err-write_outputs
returns-in_err-write_outputs g c =
    let e = c.in_err-write_outputs.ensures.on in
    let p = err_from_is_err_and c.from_residual.result c.from_residual.ensures.1 in
    rw (p.1, p.2) (record { on = record { frame = e.frame; acts = e.acts; cause = e.cause; spares = e.spares }; there = tt })

pub returns-in_err-sync_volumes : goal.returns-in_err-sync_volumes
returns-in_err-sync_volumes g c =
    let P = g.P.Plant in
    let x = c.args.complex.now in
    let v = P.view x.plant in
    let w = P.view c.write_outputs.new.complex.plant in
    let u = P.view c.sync_volumes.new.complex.plant in
    let e = c.in_ok-write_outputs.ensures.on in
    let base : c.write_outputs.new.complex.base ≡ x.base = ap (λ p. p.base) c.write_outputs.ensures.on.frame in
    let p = err_from_is_err_and c.from_residual-in_err-sync_volumes.result c.from_residual-in_err-sync_volumes.ensures.1 in
    rw (p.1, p.2) (record {
      on = record {
        frame = c.sync_volumes.ensures.frame ∙ ap (λ (p : Parts _ _). record p { plant = c.sync_volumes.new.complex.plant }) e.frame;
        acts = acts_on P.tells c.args.by.0 v w u e.acts c.sync_volumes.ensures.acts;
        cause = cause_by {T = Unit {0}} c.args.by.0 x.base.config.groups c.args.groups.now c.args.groups.now v w u (Err c.in_err-sync_volumes.field-0.0) (λ n there. there) e.acts.goes e.cause (rw base at c.in_err-sync_volumes.ensures.cause);
        spares = λ told h apart. kept_then x.base.config.groups h (spools_at v v.now) (spools_at w w.now) (spools_at u u.now) (e.spares told h apart)
            (kept_quiet x.base.config.groups c.args.groups.now (spools_at w w.now) (spools_at u u.now) (c.sync_volumes.ensures.quiet told) h apart);
      };
      there = tt;
    })

pub returns : goal.returns
returns g c =
    let P = g.P.Plant in
    let x = c.args.complex.now in
    let v = P.view x.plant in
    let w = P.view c.write_outputs.new.complex.plant in
    let u = P.view c.sync_volumes.new.complex.plant in
    let e = c.in_ok-write_outputs.ensures.on in
    record {
      on = record {
        frame = c.sync_volumes.ensures.frame ∙ ap (λ (p : Parts _ _). record p { plant = c.sync_volumes.new.complex.plant }) e.frame;
        acts = acts_on P.tells c.args.by.0 v w u e.acts c.sync_volumes.ensures.acts;
        cause = sparing_then c.args.by.0 false none_lost v w u e.cause c.in_ok-sync_volumes.ensures.cause;
        spares = λ told h apart. kept_then x.base.config.groups h (spools_at v v.now) (spools_at w w.now) (spools_at u u.now) (e.spares told h apart)
            (kept_quiet x.base.config.groups c.args.groups.now (spools_at w w.now) (spools_at u u.now) (c.sync_volumes.ensures.quiet told) h apart);
      };
      there = λ t roomy.
          let base : c.write_outputs.new.complex.base ≡ x.base = ap (λ p. p.base) c.write_outputs.ensures.on.frame in
          all_spooled c.law_of_read_texts.ensures c.law_of_groups.ensures.count (spools_at w w.now) (spools_at u u.now) x.base.config.groups c.args.specs.now c.args.groups.now c.requires.outputs c.requires.as_many
          (c.in_ok-write_outputs.ensures.stand t roomy) (c.sync_volumes.ensures.quiet t) (rw base at (c.in_ok-sync_volumes.ensures.synced t));
    }
