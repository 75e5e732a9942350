use Rattle.std.proofs.Common.{◌≡◌, ◌≢◌, ◌∙◌, [], ◌∷◌, Err, ap, arith, false, refl}
use Rattle.std.proofs.lemmas.Result.{err_from_is_err_and}
use Rattle.mas_types.specs.declared.ids.GroupNo.{GroupNo}
use Rattle.spool_text.specs.Texts.{packed}
use Rattle.mas_complex.specs.Journals.{kept_all}
use Rattle.mas_complex.specs.Meaning.{run}
use Rattle.mas_complex.specs.Spool.{IsGroupOf, IsHeldBy}
use Rattle.mas_complex.specs.Parts.{parts_of}
use Rattle.mas_complex.specs.Texts.{spools_at}
use Rattle.member_steps.proofs.SayLemmas.{frame_then}
use Rattle.member_node.specs.Calls.{none_lost}
use Rattle.member_node.proofs.SpareLemmas.{sparing_none, sparing_then}
use Rattle.member_decks.proofs.PageLemmas.{acts_none, acts_on, all_at, cause_by, kept_none, kept_then, lies_among, stand_next, still_roomy}
use Rattle.member_opening.proofs.spooling.write_pages.Goals as goal

pub loop-place-init : goal.loop-place-init
loop-place-init g c =
    let P = g.P.Plant in
    let x = c.args.complex.now in
    record {
      pair = refl;
      frame = refl;
      acts = acts_none P.tells c.args.by.0 (P.view x.plant);
      cause = sparing_none c.args.by.0 (P.view x.plant);
      stand = λ t roomy k h lt here. absurd (omega (arith, lt));
      spares = λ t. kept_none x.base.config.groups c.args.groups.now (spools_at (P.view x.plant) (P.view x.plant).now);
    }

pub write_page-requires-clause-group : goal.write_page-requires-clause-group
write_page-requires-clause-group g c =
    let base : c.loop-place.complex.base ≡ c.args.complex.now.base = ap (λ p. p.base) c.loop-place.invariant.frame in
    rw base (all_at (λ (g : GroupNo). IsGroupOf c.args.complex.now.base.config g) c.args.groups.now c.loop-place.place c.group_at.result c.requires.within c.group_at.ensures)

pub write_page-requires-clause-held : goal.write_page-requires-clause-held
write_page-requires-clause-held g c told =
    let base : c.loop-place.complex.base ≡ c.args.complex.now.base = ap (λ p. p.base) c.loop-place.invariant.frame in
    let batches : c.loop-place.complex.journal.batches ≡ c.args.complex.now.journal.batches = ap (λ p. p.batches) c.loop-place.invariant.frame in
    rw (base, batches)
    (all_at (λ (g : GroupNo). IsHeldBy c.args.by g (run c.args.complex.now.base (kept_all c.args.complex.now.journal.batches))) c.args.groups.now c.loop-place.place c.group_at.result (c.requires.held told) c.group_at.ensures)

pub loop-place-preserved : goal.loop-place-preserved
loop-place-preserved g c =
    let P = g.P.Plant in
    let x = c.args.complex.now in
    let y = c.loop-place.complex in
    let z = c.write_page.new.complex in
    let i = c.loop-place.invariant in
    let base : y.base ≡ x.base = ap (λ p. p.base) i.frame in
    let e = c.write_page.ensures in
    let k = c.in_ok-write_page.ensures in
    record {
      pair = e.pair ∙ i.pair;
      frame = frame_then (parts_of x) (parts_of y) (parts_of z) y.plant z.plant i.frame e.frame;
      acts = acts_on P.tells c.args.by.0 (P.view x.plant) (P.view y.plant) (P.view z.plant) i.acts e.acts;
      cause = sparing_then c.args.by.0 false none_lost (P.view x.plant) (P.view y.plant) (P.view z.plant) i.cause k.cause;
      stand = λ t roomy. stand_next x.base.config.groups (packed c.args.text.now) c.args.groups.now (spools_at (P.view y.plant) (P.view y.plant).now) (spools_at (P.view z.plant) (P.view z.plant).now) c.loop-place.place c.group_at.result
          c.group_at.ensures c.requires.rise (i.stand t roomy) (λ h other. (rw base at (e.spares t h other)).page)
          (rw base at (k.stands t (rw (← base) at (still_roomy x.base.config (P.view x.plant) (P.view y.plant) i.acts.goes roomy))));
      spares = λ t h apart. kept_then x.base.config.groups h (spools_at (P.view x.plant) (P.view x.plant).now) (spools_at (P.view y.plant) (P.view y.plant).now) (spools_at (P.view z.plant) (P.view z.plant).now) (i.spares t h apart)
          (rw base at (e.spares t h (all_at (λ (k : GroupNo). h.0 ≢ k.0) c.args.groups.now c.loop-place.place c.group_at.result apart c.group_at.ensures)));
    }

pub returns-in_err-write_page-clause-cause : goal.returns-in_err-write_page-clause-cause
returns-in_err-write_page-clause-cause g c =
    let P = g.P.Plant in
    let x = c.args.complex.now in
    let y = c.loop-place.complex in
    let z = c.write_page.new.complex in
    let i = c.loop-place.invariant in
    let base : y.base ≡ x.base = ap (λ p. p.base) i.frame in
    let p = err_from_is_err_and c.from_residual.result c.from_residual.ensures.1 in
    rw (p.1, p.2)
    (cause_by {T = Unit {0}} c.args.by.0 x.base.config.groups (c.group_at.result ∷ []) c.args.groups.now (P.view x.plant) (P.view y.plant) (P.view z.plant) (Err c.in_err-write_page.field-0.0) (λ v there. lies_among x.base.config.groups v c.args.groups.now c.loop-place.place c.group_at.result c.group_at.ensures there) i.acts.goes i.cause (rw base at c.in_err-write_page.ensures.cause))

pub returns-in_err-write_page-clause-spares : goal.returns-in_err-write_page-clause-spares
returns-in_err-write_page-clause-spares g c told h apart =
    let P = g.P.Plant in
    let x = c.args.complex.now in
    let y = c.loop-place.complex in
    let z = c.write_page.new.complex in
    let i = c.loop-place.invariant in
    let base : y.base ≡ x.base = ap (λ p. p.base) i.frame in
    kept_then x.base.config.groups h (spools_at (P.view x.plant) (P.view x.plant).now) (spools_at (P.view y.plant) (P.view y.plant).now) (spools_at (P.view z.plant) (P.view z.plant).now) (i.spares told h apart)
    (rw base at (c.write_page.ensures.spares told h (all_at (λ (k : GroupNo). h.0 ≢ k.0) c.args.groups.now c.loop-place.place c.group_at.result apart c.group_at.ensures)))
