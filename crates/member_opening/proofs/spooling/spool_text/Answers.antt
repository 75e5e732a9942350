use Rattle.std.proofs.Common.{◌≡◌, Err, ap, false}
use Rattle.std.proofs.lemmas.Result.{err_from_is_err_and}
use Rattle.mas_complex.specs.Texts.{spools_at}
use Rattle.member_node.specs.Calls.{none_lost}
use Rattle.member_node.proofs.SpareLemmas.{sparing_then}
use Rattle.member_decks.proofs.PageLemmas.{acts_on, cause_by, kept_quiet, kept_then, text_there}
use Rattle.member_opening.proofs.spooling.spool_text.Goals as goal

pub returns-clause-acts : goal.returns-clause-acts
returns-clause-acts g c =
    let P = g.P.Plant in
    acts_on P.tells c.args.by.0 (P.view c.args.complex.now.plant) (P.view c.write_pages.new.complex.plant) (P.view c.sync_volumes.new.complex.plant) c.write_pages.ensures.acts c.sync_volumes.ensures.acts

pub returns-in_err-sync_volumes-clause-acts : goal.returns-in_err-sync_volumes-clause-acts
returns-in_err-sync_volumes-clause-acts g c =
    let P = g.P.Plant in
    acts_on P.tells c.args.by.0 (P.view c.args.complex.now.plant) (P.view c.write_pages.new.complex.plant) (P.view c.sync_volumes.new.complex.plant) c.write_pages.ensures.acts c.sync_volumes.ensures.acts

pub returns-in_err-sync_volumes-clause-cause : goal.returns-in_err-sync_volumes-clause-cause
returns-in_err-sync_volumes-clause-cause g c =
    let P = g.P.Plant in
    let x = c.args.complex.now in
    let base : c.write_pages.new.complex.base ≡ x.base = ap (λ p. p.base) c.write_pages.ensures.frame in
    let p = err_from_is_err_and c.from_residual-in_err-sync_volumes.result c.from_residual-in_err-sync_volumes.ensures.1 in
    rw (p.1, p.2)
    (cause_by {T = Unit {0}} c.args.by.0 x.base.config.groups c.args.groups.now c.args.groups.now (P.view x.plant) (P.view c.write_pages.new.complex.plant) (P.view c.sync_volumes.new.complex.plant) (Err c.in_err-sync_volumes.field-0.0) (λ v there. there) c.write_pages.ensures.acts.goes c.in_ok-write_pages.ensures.cause
    (rw base at c.in_err-sync_volumes.ensures.cause))

pub returns-clause-there : goal.returns-clause-there
returns-clause-there g c t roomy =
    let P = g.P.Plant in
    let x = c.args.complex.now in
    let base : c.write_pages.new.complex.base ≡ x.base = ap (λ p. p.base) c.write_pages.ensures.frame in
    let y = c.write_pages.new.complex in
    let z = c.sync_volumes.new.complex in
    text_there c.law_of_read_texts.ensures c.law_of_groups.ensures.count (spools_at (P.view y.plant) (P.view y.plant).now) (spools_at (P.view z.plant) (P.view z.plant).now) x.base.config.groups c.args.text.now c.args.groups.now
    c.requires.text c.requires.as_many (c.in_ok-write_pages.ensures.stand t roomy) (c.sync_volumes.ensures.quiet t) (rw base at (c.in_ok-sync_volumes.ensures.synced t))

pub returns-clause-cause : goal.returns-clause-cause
returns-clause-cause g c =
    let P = g.P.Plant in
    sparing_then c.args.by.0 false none_lost (P.view c.args.complex.now.plant) (P.view c.write_pages.new.complex.plant) (P.view c.sync_volumes.new.complex.plant) c.in_ok-write_pages.ensures.cause c.in_ok-sync_volumes.ensures.cause

pub returns-clause-spares : goal.returns-clause-spares
returns-clause-spares g c told h apart =
    let P = g.P.Plant in
    let x = c.args.complex.now in
    let y = c.write_pages.new.complex in
    let z = c.sync_volumes.new.complex in
    kept_then x.base.config.groups h (spools_at (P.view x.plant) (P.view x.plant).now) (spools_at (P.view y.plant) (P.view y.plant).now) (spools_at (P.view z.plant) (P.view z.plant).now) (c.write_pages.ensures.spares told h apart)
    (kept_quiet x.base.config.groups c.args.groups.now (spools_at (P.view y.plant) (P.view y.plant).now) (spools_at (P.view z.plant) (P.view z.plant).now) (c.sync_volumes.ensures.quiet told) h apart)

pub returns-in_err-sync_volumes-clause-spares : goal.returns-in_err-sync_volumes-clause-spares
returns-in_err-sync_volumes-clause-spares g c told h apart =
    let P = g.P.Plant in
    let x = c.args.complex.now in
    let y = c.write_pages.new.complex in
    let z = c.sync_volumes.new.complex in
    kept_then x.base.config.groups h (spools_at (P.view x.plant) (P.view x.plant).now) (spools_at (P.view y.plant) (P.view y.plant).now) (spools_at (P.view z.plant) (P.view z.plant).now) (c.write_pages.ensures.spares told h apart)
    (kept_quiet x.base.config.groups c.args.groups.now (spools_at (P.view y.plant) (P.view y.plant).now) (spools_at (P.view z.plant) (P.view z.plant).now) (c.sync_volumes.ensures.quiet told) h apart)
