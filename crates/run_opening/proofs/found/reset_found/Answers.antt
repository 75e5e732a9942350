use Rattle.std.proofs.Common.{◌≡◌, ◌∙◌, ◌*◌, ◌≤◌, ℕ, List, [], length, Ok, inl, refl, sym, ap, subst, arith}
use Rattle.mas_types.specs.declared.journals.Batch.{Batch}
use Rattle.mas_types.specs.declared.queues.Config.{Config}
use Rattle.mas_types.specs.declared.queues.Queue.{Queue}
use Rattle.mas_types.specs.Limits.{pages_most, wires_most}
use Rattle.lock_cycle.specs.Books.{Book}
use Rattle.spool_plant.specs.View.{World}
use Rattle.ckpt_form.specs.Form.{form_needs, form_reads}
use Rattle.mas_types.specs.declared.ids.Dev.TheVariants.{Ckpt1, Ckpt2}
use Rattle.ckpt_tables.specs.Shape.{page_count}
use Rattle.mas_complex.specs.Headline.{Headline}
use Rattle.mas_complex.specs.declared.renewals.Renewals.{Renewals}
use Rattle.mas_complex.specs.Renewals.{is_open, no_renewals}
use Rattle.mas_complex.specs.Journals.{fated}
use Rattle.mas_types.specs.declared.journals.Fate.TheVariants.{Kept}
use Rattle.mas_complex.specs.Locking.{book_of}
use Rattle.mas_complex.specs.Parts.{parts_of}
use Rattle.mas_complex.specs.CallCounts.{pair_at, pair_of}
use Rattle.member_node.specs.declared.checkpoint.Checkpoint.{Checkpoint}
use Rattle.member_node.specs.declared.member.NodeNo.TheVariants as no_node
use Rattle.member_node.proofs.WriteLemmas.{none_out}
use Rattle.member_steps.proofs.PageLemmas.{few_pages}
use Rattle.run_opening.specs.Fresh.{AreFresh}
use Rattle.run_opening.specs.Resets.{HasReset, restart_at}
use Rattle.run_opening.specs.Shows.{BetweenLines, QuietFor}
use Rattle.run_opening.proofs.BetweenLemmas.{lines_between, lines_shown, members_booked}
use Rattle.run_opening.proofs.BetweenLemmas.{one_earlier, untold_since}
use Rattle.run_opening.proofs.PaperLemmas.{sides_apart}
use Rattle.run_opening.proofs.ReaderLemmas.{readers_new}
use Rattle.run_opening.proofs.ProceedLemmas.{proceeds_none, proceeds_of, proceeds_on}
use Rattle.run_opening.proofs.ResetLemmas.{reset_none, restart_earlier, settle_none}
use Rattle.run_opening.proofs.UnresetLemmas.{unreset}
use Rattle.run_opening.proofs.OpeningLemmas.{caused_through, grows_through}
use Rattle.run_opening.proofs.VolumeLemmas.{kept_on}
use Rattle.run_opening.proofs.found.reset_found.Goals as goal

pub members_of-requires : goal.members_of-requires
members_of-requires g c = rw c.config-config.ensures c.requires.config

pub readers_of-requires : goal.readers_of-requires
readers_of-requires g c = rw c.config-config.ensures c.requires.config

pub with-requires : goal.with-requires
with-requires g c = subst (λ (n : ℕ). n ≤ pages_most) (sym c.requires.drawn.spelled.count) (few_pages c.args.found.tables.config c.requires.drawn.spelling.shape.config)

-- THERE WAS NO MEMORY for the members, for the readers, or for the operator

pub returns-in_default-clause-ended : goal.returns-in_default-clause-ended
returns-in_default-clause-ended g c =
    let P = g.P.Plant in
    let x = c.args.found.complex in
    let v = P.view x.plant in
    let e = c.end_run.ensures in
    let J = c.end_run.result.journal in
    let head : P.tells → ∥ Headline form_reads x.base x.since J no_renewals v ∥₁ = λ t. rw (e.base, e.since, e.plant, c.requires.unrenewed) at (e.headline t) in
    let none : J.batches ≡ [] = e.journal ∙ none_out x.journal.batches x.journal.batches x.placed x.current refl c.requires.unplaced c.requires.none ∙ c.requires.journal in
    rw (e.status, e.base, e.since, e.plant)
    (unreset x J v c.requires.base_sound c.requires.since head {T = Unit {0}} x.pair.first.alive x.pair.second.alive no_node.NoMemory c.requires.some c.requires.there1 c.requires.there2
    (λ dead. x.lost Ckpt1 tt dead (ap (λ (rs : Renewals). is_open rs.first) c.requires.unrenewed)) (λ dead. x.lost Ckpt2 tt dead (ap (λ (rs : Renewals). is_open rs.second) c.requires.unrenewed))
    (reset_none P.tells J.batches x.pair.first.alive x.pair.first.alive x.pair.second.alive x.pair.second.alive v v (settle_none P.tells x.pair.first.alive x.pair.second.alive v c.requires.some) none))

pub returns-in_default-readers_of-clause-ended : goal.returns-in_default-readers_of-clause-ended
returns-in_default-readers_of-clause-ended g c =
    let P = g.P.Plant in
    let x = c.args.found.complex in
    let v = P.view x.plant in
    let e = c.end_run-in_default-readers_of.ensures in
    let J = c.end_run-in_default-readers_of.result.journal in
    let head : P.tells → ∥ Headline form_reads x.base x.since J no_renewals v ∥₁ = λ t. rw (e.base, e.since, e.plant, c.requires.unrenewed) at (e.headline t) in
    let none : J.batches ≡ [] = e.journal ∙ none_out x.journal.batches x.journal.batches x.placed x.current refl c.requires.unplaced c.requires.none ∙ c.requires.journal in
    rw (e.status, e.base, e.since, e.plant)
    (unreset x J v c.requires.base_sound c.requires.since head {T = Unit {0}} x.pair.first.alive x.pair.second.alive no_node.NoMemory c.requires.some c.requires.there1 c.requires.there2
    (λ dead. x.lost Ckpt1 tt dead (ap (λ (rs : Renewals). is_open rs.first) c.requires.unrenewed)) (λ dead. x.lost Ckpt2 tt dead (ap (λ (rs : Renewals). is_open rs.second) c.requires.unrenewed))
    (reset_none P.tells J.batches x.pair.first.alive x.pair.first.alive x.pair.second.alive x.pair.second.alive v v (settle_none P.tells x.pair.first.alive x.pair.second.alive v c.requires.some) none))

pub returns-in_default-with-clause-ended : goal.returns-in_default-with-clause-ended
returns-in_default-with-clause-ended g c =
    let P = g.P.Plant in
    let x = c.args.found.complex in
    let v = P.view x.plant in
    let e = c.end_run-in_default-with.ensures in
    let J = c.end_run-in_default-with.result.journal in
    let head : P.tells → ∥ Headline form_reads x.base x.since J no_renewals v ∥₁ = λ t. rw (e.base, e.since, e.plant, c.requires.unrenewed) at (e.headline t) in
    let none : J.batches ≡ [] = e.journal ∙ none_out x.journal.batches x.journal.batches x.placed x.current refl c.requires.unplaced c.requires.none ∙ c.requires.journal in
    rw (e.status, e.base, e.since, e.plant)
    (unreset x J v c.requires.base_sound c.requires.since head {T = Unit {0}} x.pair.first.alive x.pair.second.alive no_node.NoMemory c.requires.some c.requires.there1 c.requires.there2
    (λ dead. x.lost Ckpt1 tt dead (ap (λ (rs : Renewals). is_open rs.first) c.requires.unrenewed)) (λ dead. x.lost Ckpt2 tt dead (ap (λ (rs : Renewals). is_open rs.second) c.requires.unrenewed))
    (reset_none P.tells J.batches x.pair.first.alive x.pair.first.alive x.pair.second.alive x.pair.second.alive v v (settle_none P.tells x.pair.first.alive x.pair.second.alive v c.requires.some) none))

-- RESTART

pub restart-requires-clause-free : goal.restart-requires-clause-free
restart-requires-clause-free g c = ap (λ (b : Book). b.holder) c.requires.book

pub restart-requires-clause-at_lock : goal.restart-requires-clause-at_lock
restart-requires-clause-at_lock g c =
    let i = c.in-Ok-with.ensures in
    record {
      none = c.requires.none;
      unplaced = c.requires.unplaced;
      nothing = i.batch;
      drawn = rw i.checkpoint c.requires.drawn;
      many = rw i.checkpoint i.room;
    }

pub restart-requires-clause-same_level : goal.restart-requires-clause-same_level
restart-requires-clause-same_level g c = rw c.in-Ok-with.ensures.checkpoint refl

pub restart-requires-clause-queue : goal.restart-requires-clause-queue
restart-requires-clause-queue g c = rw c.in-Ok-with.ensures.checkpoint c.requires.queue

pub restart-requires-clause-fit : goal.restart-requires-clause-fit
restart-requires-clause-fit g c = rw c.in-Ok-with.ensures.checkpoint c.requires.fit

pub restart-requires-clause-orders : goal.restart-requires-clause-orders
restart-requires-clause-orders g c = rw c.in-Ok-with.ensures.checkpoint c.requires.orders

pub restart-requires-clause-sound : goal.restart-requires-clause-sound
restart-requires-clause-sound g c = rw c.in-Ok-with.ensures.checkpoint c.requires.sound

pub restart-requires-clause-rests1 : goal.restart-requires-clause-rests1
restart-requires-clause-rests1 g c = rw c.in-Ok-with.ensures.checkpoint c.requires.rests1

pub restart-requires-clause-rests2 : goal.restart-requires-clause-rests2
restart-requires-clause-rests2 g c = rw c.in-Ok-with.ensures.checkpoint c.requires.rests2

pub restart-requires-clause-order : goal.restart-requires-clause-order
restart-requires-clause-order g c = rw c.in-Ok-with.ensures.checkpoint c.requires.order

pub returns-in-Err-clause-ended : goal.returns-in-Err-clause-ended
returns-in-Err-clause-ended g c =
    let P = g.P.Plant in
    let x = c.args.found.complex in
    let y = c.restart.new.complex in
    let w = P.view y.plant in
    let e = c.end_run-in-Err.ensures in
    let k = c.in-Err.ensures in
    let J = c.end_run-in-Err.result.journal in
    let head : P.tells → ∥ Headline form_reads x.base x.since J no_renewals w ∥₁ = λ t. rw (e.base, e.since, e.plant, k.base, k.since, k.renewals, c.requires.unrenewed) at (e.headline t) in
    rw (e.status, c.status_of.ensures, e.base, e.since, e.plant, k.base, k.since)
    (unreset x J w c.requires.base_sound c.requires.since head {T = Unit {0}} y.pair.first.alive y.pair.second.alive c.in-Err.why c.requires.some c.requires.there1 c.requires.there2
    (λ dead. y.lost Ckpt1 tt dead (ap (λ (rs : Renewals). is_open rs.first) (k.renewals ∙ c.requires.unrenewed))) (λ dead. y.lost Ckpt2 tt dead (ap (λ (rs : Renewals). is_open rs.second) (k.renewals ∙ c.requires.unrenewed)))
    (rw e.journal k.reset))

-- A RUN THAT IS OPEN

pub returns-in-Ok-restart-clause-readers : goal.returns-in-Ok-restart-clause-readers
returns-in-Ok-restart-clause-readers g c =
    let P = g.P.Plant in
    let x = c.args.found.complex in
    let y = c.restart.new.complex in
    let v = P.view x.plant in
    let w = P.view y.plant in
    let k = c.in-Ok-restart.ensures in
    let i = c.in-Ok-readers_of.ensures in
    let config : x.base.config ≡ y.base.config = sym (ap (λ (q : Queue). q.config) k.base) in
    let book : y.book ≡ book_of y.base.config = k.book ∙ c.requires.book ∙ ap book_of config in
    let since : v.now ≡ y.since = sym (k.since ∙ c.requires.since) in
    readers_new P (parts_of y) c.in-Ok-readers_of.readers (members_booked (parts_of y) book (rw k.base c.requires.config)) (i.many ∙ ap (λ (n : Config). wires_most * n.members) (c.config-config.ensures ∙ config)) i.new
    (λ t line by. (k.reset.apart t).wires.taken line by ∙ ap (λ (u : World). u.taken line by) (sym (k.reset.course.goes.past v.now (omega arith))) ∙ ap (λ (n : ℕ). (w.world n).taken line by) since)

pub returns-in-Ok-restart-clause-reset : goal.returns-in-Ok-restart-clause-reset
returns-in-Ok-restart-clause-reset g c =
    let P = g.P.Plant in
    let x = c.args.found.complex in
    let y = c.restart.new.complex in
    let v = P.view x.plant in
    let k = c.in-Ok-restart.ensures in
    let i = c.in-Ok-with.ensures in
    let r = k.reset.ends.0 in
    let u = k.reset.course in
    let config : y.base.config ≡ x.base.config = ap (λ (q : Queue). q.config) k.base in
    let book : y.book ≡ book_of y.base.config = k.book ∙ c.requires.book ∙ ap book_of (sym config) in
    let many : length c.in-Ok-with.operator.checkpoint.pages ≡ page_count y.base.config =
    ap (λ (n : Checkpoint). length n.pages) i.checkpoint ∙ c.requires.drawn.spelled.count ∙ ap page_count (sym c.requires.queue.config) ∙ ap page_count (sym config) in
    let fresh : AreFresh y.base.config c.in-Ok.members = subst (λ (n : Config). AreFresh n c.in-Ok.members) (c.config-config.ensures ∙ sym config) c.in-Ok.ensures in
    let out = none_out y.journal.batches y.journal.batches y.placed y.current refl k.quiet.unplaced k.quiet.none in
    record {
      base = k.base;
      since = k.since;
      reset = subst (λ (bs : List Batch). HasReset P.tells bs (pair_at x.pair.first.alive x.pair.second.alive v) (pair_of y) (Ok tt)) out k.reset;
      between = lines_between y book c.in-Ok.members (rw k.base c.requires.config) (rw k.base c.requires.base_sound) fresh (subst (λ (n : ℕ). QuietFor y n) many k.quiet)
          (untold_since y v (k.since ∙ c.requires.since) u.goes (λ t. (k.reset.apart t).console))
          (one_earlier (fated Kept r.1 (restart_at r.0)) y.journal.batches y.current (sym out ∙ r.5) k.quiet.none (restart_earlier (fated Kept r.1 (restart_at r.0)) refl))
          k.quiet.kept (
            subst (λ (n : Config). form_needs (page_count n) ≤ (P.view y.plant).size Ckpt1) (sym config)
                (subst (λ (n : ℕ). form_needs (page_count x.base.config) ≤ n) (sym (u.goes.size Ckpt1)) c.requires.large.0),
            subst (λ (n : Config). form_needs (page_count n) ≤ (P.view y.plant).size Ckpt2) (sym config)
                (subst (λ (n : ℕ). form_needs (page_count x.base.config) ≤ n) (sym (u.goes.size Ckpt2)) c.requires.large.1),
          );
      fresh = fresh;
      noted = λ m some. k.noted m some ∙ c.requires.noted m some;
      shows = lines_shown y book (rw k.base c.requires.config) k.quiet.none (k.printed ∙ c.requires.printed);
      settled = k.quiet.kept;
      unrenewed = k.renewals ∙ c.requires.unrenewed;
      some = k.reset.ends.1;
      there1 = λ is. u.there1 is (c.requires.there1 (u.alive1 is));
      there2 = λ is. u.there2 is (c.requires.there2 (u.alive2 is));
    }
