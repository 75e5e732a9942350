use Rattle.std.proofs.Common.{◌≡◌, ◌∙◌, ℕ, List, Some, length, ap, sym}
use Rattle.mas_types.specs.Limits.{page_bytes}
use Rattle.spool_text.specs.Texts.{packed}
use Rattle.spool_volumes.specs.Volumes.{volume_of}
use Rattle.mas_complex.proofs.Spooled.{spared_other}
use Rattle.member_decks.proofs.PageLemmas.{act_on, all_at, cause_of, lies_alone, on_done, stands}
use Rattle.member_opening.proofs.spooling.write_page.Goals as goal

pub returns-clause-acts : goal.returns-clause-acts
returns-clause-acts g c =
    let P = g.P.Plant in
    let x = c.args.complex.now in
    act_on P.tells c.args.by.0 (volume_of x.base.config.groups c.args.group) (P.view x.plant) (P.view c.spool_write.new.self.plant) c.spool_write.result c.spool_write.ensures.acts (λ t. (c.spool_write.ensures.content t).only)

pub returns-clause-cause : goal.returns-clause-cause
returns-clause-cause g c =
    let P = g.P.Plant in
    let x = c.args.complex.now in
    let y = c.spool_write.new.self in
    let per = x.base.config.groups in
    rw (c.answer.ensures, c.volume_of-volume.ensures, c.config-config.ensures)
    (cause_of c.args.by.0 per _ _ (P.view x.plant) (P.view y.plant) c.spool_write.result (lies_alone per c.args.group) c.spool_write.ensures.acts)

pub returns-clause-stands : goal.returns-clause-stands
returns-clause-stands g c =
    let P = g.P.Plant in
    let x = c.args.complex.now in
    let y = c.spool_write.new.self in
    let long : length c.pack.new.into.0 ≡ page_bytes = all_at (λ (group : List ℕ). length group ≡ page_bytes) (packed c.args.text.now) c.args.place c.pack.new.into.0 (c.law_of_groups.ensures.pages c.args.text.now c.requires.text) c.pack.ensures in
    rw (c.answer.ensures, c.volume_of-volume.ensures, c.config-config.ensures)
    (on_done _ c.spool_write.result _
    (λ done told roomy. c.pack.ensures ∙ ap Some (sym (stands (P.view x.plant) (P.view y.plant) x.base.config c.args.group c.pack.new.into c.args.by.0 long c.requires.group roomy
    (rw done at c.spool_write.ensures.acts) (rw done at (c.spool_write.ensures.content told))))))

pub returns-clause-spares : goal.returns-clause-spares
returns-clause-spares g c told h other =
    let P = g.P.Plant in
    let x = c.args.complex.now in
    let y = c.spool_write.new.self in
    let long : length c.pack.new.into.0 ≡ page_bytes = all_at (λ (group : List ℕ). length group ≡ page_bytes) (packed c.args.text.now) c.args.place c.pack.new.into.0 (c.law_of_groups.ensures.pages c.args.text.now c.requires.text) c.pack.ensures in
    let s = spared_other x.base.config.groups c.args.group (P.view x.plant) (P.view y.plant) c.pack.new.into c.spool_write.result long (c.spool_write.ensures.content told) h other in
    record { page = s.page; synced = s.synced }
