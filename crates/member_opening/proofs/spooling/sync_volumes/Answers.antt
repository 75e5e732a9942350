use Rattle.std.proofs.Common.{◌≡◌, ◌≤◌, ◌<◌, ◌∙◌, ⊎_elim, Err, ap, false, refl, arith, slice_index_or}
use Rattle.std.proofs.lemmas.Option.{slice_get-get_or}
use Rattle.std.proofs.lemmas.Result.{err_from_is_err_and}
use Rattle.mas_types.specs.declared.queues.Config.{Config}
use Rattle.mas_types.specs.Limits.{page_bytes}
use Rattle.mas_complex.proofs.Names.{either_way}
use Rattle.spool_volumes.specs.Volumes.{start_of, volume_of}
use Rattle.mas_complex.proofs.Basics.{few_quotient}
use Rattle.mas_complex.specs.Parts.{parts_of}
use Rattle.mas_complex.specs.Texts.{spools_at}
use Rattle.member_steps.proofs.SayLemmas.{frame_then}
use Rattle.member_node.specs.Calls.{none_lost}
use Rattle.member_node.proofs.SpareLemmas.{sparing_none, sparing_then}
use Rattle.member_decks.proofs.PageLemmas.{acts_none, acts_on, cause_by, quiet_none, quiet_on}
use Rattle.member_opening.proofs.spooling.sync_volumes.Goals as goal

pub loop-before-init : goal.loop-before-init
loop-before-init g c =
    let P = g.P.Plant in
    let x = c.args.complex.now in
    record {
      pair = refl;
      frame = refl;
      acts = acts_none P.tells c.args.by.0 (P.view x.plant);
      cause = sparing_none c.args.by.0 (P.view x.plant);
      synced = λ t k h here none. absurd (omega (arith, none));
      quiet = λ t. quiet_none (spools_at (P.view x.plant) (P.view x.plant).now);
    }

pub loop-before-preserved : goal.loop-before-preserved
loop-before-preserved g c =
    let P = g.P.Plant in
    let x = c.args.complex.now in
    let y = c.loop-before.complex in
    let z = c.sync_volume.new.complex in
    let i = c.loop-before.invariant in
    let base : y.base ≡ x.base = ap (λ p. p.base) i.frame in
    let e = c.sync_volume.ensures in
    let k = c.in_ok-sync_volume.ensures in
    record {
      pair = e.pair ∙ i.pair;
      frame = frame_then (parts_of x) (parts_of y) (parts_of z) y.plant z.plant i.frame e.frame;
      acts = acts_on P.tells c.args.by.0 (P.view x.plant) (P.view y.plant) (P.view z.plant) i.acts e.acts;
      cause = sparing_then c.args.by.0 false none_lost (P.view x.plant) (P.view y.plant) (P.view z.plant) i.cause k.cause;
      synced = λ t j h here le. ⊎_elim
          (λ (low : volume_of x.base.config.groups h ≤ c.loop-before.before). (e.quiet t (volume_of x.base.config.groups h)).synced (record { from = start_of x.base.config.groups h; len = page_bytes }) (i.synced t j h here low))
          (λ (high : c.loop-before.before < volume_of x.base.config.groups h). (rw base at (k.synced t)) j h here (omega (arith, le, high)))
          (either_way (volume_of x.base.config.groups h) c.loop-before.before);
      quiet = λ t. quiet_on (spools_at (P.view x.plant) (P.view x.plant).now) (spools_at (P.view y.plant) (P.view y.plant).now) (spools_at (P.view z.plant) (P.view z.plant).now) (i.quiet t) (e.quiet t);
    }

pub returns-in_err-sync_volume-clause-cause : goal.returns-in_err-sync_volume-clause-cause
returns-in_err-sync_volume-clause-cause g c =
    let P = g.P.Plant in
    let x = c.args.complex.now in
    let y = c.loop-before.complex in
    let z = c.sync_volume.new.complex in
    let i = c.loop-before.invariant in
    let base : y.base ≡ x.base = ap (λ p. p.base) i.frame in
    let p = err_from_is_err_and c.from_residual.result c.from_residual.ensures.1 in
    rw (p.1, p.2) (cause_by {T = Unit {0}} c.args.by.0 x.base.config.groups c.args.groups.now c.args.groups.now (P.view x.plant) (P.view y.plant) (P.view z.plant) (Err c.in_err-sync_volume.field-0.0) (λ v there. there) i.acts.goes i.cause (rw base at c.in_err-sync_volume.ensures.cause))

pub returns-clause-synced : goal.returns-clause-synced
returns-clause-synced g c t k d lt =
    let config = c.args.complex.now.base.config in
    let h = slice_index_or c.args.groups.now k d in
    let all = ap (λ (q : Config). q.volumes) c.config-before-end.ensures in
    let few = few_quotient h.0 config.volumes config.groups c.requires.some (c.requires.within k d lt) in
    c.loop-before.invariant.synced t k h (slice_get-get_or c.args.groups.now k d lt) (omega (arith, all, few))
