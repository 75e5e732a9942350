use Rattle.std.proofs.Common.{◌≡◌, ◌≢◌, ◌∙◌, ◌+◌, ◌≤◌, ◌<◌, ◌^◌, ◌++◌, ℕ, List, [], ◌∷◌, length, Ok, ap, refl, subst, sym, arith}
use Rattle.std.proofs.lemmas.Result.{err_from_is_err_and}
use Rattle.std.proofs.Math.Logic.{∥∥₁_map}
use Rattle.mas_types.specs.declared.ids.MemberId.{MemberId}
use Rattle.mas_types.specs.declared.ids.Page.{Page}
use Rattle.mas_types.specs.declared.commands.Command.TheVariants.{Restart}
use Rattle.mas_types.specs.declared.journals.Entry.{Entry}
use Rattle.mas_types.specs.declared.journals.Batch.{Batch}
use Rattle.mas_types.specs.declared.journals.Journal.{Journal}
use Rattle.mas_types.specs.declared.queues.Queue.{Queue}
use Rattle.mas_types.specs.Ids.{nobody}
use Rattle.spool_plant.specs.Acts.{Goes}
use Rattle.spool_volumes.specs.Volumes.{AreRoomy}
use Rattle.ckpt_tables.specs.Shape.{page_count}
use Rattle.mas_types.specs.declared.journals.Fate.TheVariants.{Kept}
use Rattle.mas_types.specs.Limits.{members_most}
use Rattle.mas_complex.specs.Journals.{begun, end_of, entries_reserved, fated, kept_all}
use Rattle.mas_complex.specs.Meaning.{run}
use Rattle.mas_complex.specs.Parts.{parts_of}
use Rattle.mas_complex.specs.Past.{noted_by, values_of}
use Rattle.mas_complex.proofs.Basics.{noted_beside}
use Rattle.mas_complex.specs.Texts.{HasTexts, lost_now, spools_at}
use Rattle.member_node.specs.Batches.{HasDone}
use Rattle.ckpt_tables.specs.declared.tables.Tables.{Tables}
use Rattle.queue_telling.specs.Telling.{Tell}
use Rattle.member_node.proofs.WriteLemmas.{none_out, queue_kept}
use Rattle.member_node.specs.Reads.{AreLow}
use Rattle.member_steps.proofs.ReadLemmas.{told_sound}
use Rattle.member_steps.proofs.StepLemmas.{can_draw, journal_kept, step_texts}
use Rattle.member_decks.proofs.PageLemmas.{still_roomy}
use Rattle.member_quiet.specs.Whole.{first_half, second_half}
use Rattle.run_opening.proofs.BetweenLemmas.{open_rest}
use Rattle.run_opening.proofs.ResetLemmas.{low_first, none_untold_later, one_settled, reset_done, reset_none, reset_unsettled, reset_written, restart_begins, restart_own, restart_printed, settle_none, some_kept, tell_none}
use Rattle.run_opening.proofs.reset.restart.Goals as goal

pub make_room-requires-clause-draws : goal.make_room-requires-clause-draws
make_room-requires-clause-draws g c =
    let e = c.give_restart.ensures in
    can_draw c.args.operator.now.checkpoint c.give_restart.new.member.checkpoint c.requires.at_lock.drawn e.pages e.level e.levels e.config e.spelling

pub ready-requires-clause-may : goal.ready-requires-clause-may
ready-requires-clause-may g c =
    let same = c.give_restart.ensures.id ∙ c.requires.id in
    rw c.make_room.ensures.book (record { holds = c.requires.free ∙ sym same; up = λ some. absurd (omega (arith, some, ap (λ (m : MemberId). m.0) same)) })

pub ready-requires-clause-some : goal.ready-requires-clause-some
ready-requires-clause-some g c = subst (λ (es : List Entry). 1 ≤ length es) (sym c.in-Ok.ensures.entries) (omega arith)

pub ready-requires-clause-own : goal.ready-requires-clause-own
ready-requires-clause-own g c = restart_own c.give_restart.new.member.batch c.give_restart.new.member.id c.in-Ok.ensures.entries (c.give_restart.ensures.id ∙ c.requires.id)

pub ready-requires-clause-here : goal.ready-requires-clause-here
ready-requires-clause-here g c = c.give_restart.ensures.behind ∙ c.requires.here

pub ready-requires-clause-draws : goal.ready-requires-clause-draws
ready-requires-clause-draws g c =
    let e = c.give_restart.ensures in
    can_draw c.args.operator.now.checkpoint c.give_restart.new.member.checkpoint c.requires.at_lock.drawn e.pages e.level e.levels e.config e.spelling

pub ready-requires-clause-level : goal.ready-requires-clause-level
ready-requires-clause-level g c told = c.make_room.ensures.level ∙ c.requires.same_level ∙ sym c.give_restart.ensures.level

pub ready-requires-clause-done : goal.ready-requires-clause-done
ready-requires-clause-done g c told =
    let x = c.args.complex.now in
    let m = c.args.operator.now in
    rw (c.make_room.ensures.base, c.make_room.ensures.journal) (∣ c.in-Ok.ensures.done (run x.base (kept_all x.journal.batches)) (reset_done x.base x.journal.batches m.batch m.checkpoint c.requires.journal c.requires.at_lock.nothing c.requires.at_lock.drawn c.requires.fit c.requires.orders c.requires.queue) ∣₁)

pub ready-requires-clause-small : goal.ready-requires-clause-small
ready-requires-clause-small g c = subst (λ (n : ℕ). n + 1 < 2 ^ 63) (c.requires.same_level ∙ sym c.give_restart.ensures.level) c.requires.level

pub write-requires-clause-may : goal.write-requires-clause-may
write-requires-clause-may g c =
    let same = c.ready.ensures.id ∙ c.give_restart.ensures.id ∙ c.requires.id in
    rw (c.ready.ensures.book, c.make_room.ensures.book) (record { holds = c.requires.free ∙ sym same; up = λ some. absurd (omega (arith, some, ap (λ (m : MemberId). m.0) same)) })

pub write-requires-clause-by : goal.write-requires-clause-by
write-requires-clause-by g c =
    let same = c.ready.ensures.id ∙ c.give_restart.ensures.id ∙ c.requires.id in
    subst (λ (m : MemberId). m.0 ≤ members_most) (sym same) (omega arith)

pub write-requires-clause-config : goal.write-requires-clause-config
write-requires-clause-config g c told =
    let e = c.ready.ensures in
    let base = e.base ∙ c.make_room.ensures.base in
    let tables = ap (λ (t : Tables). t.config) e.tables ∙ c.give_restart.ensures.config in
    ap page_count (ap (λ (q : Queue). q.config) base ∙ c.requires.queue.config ∙ sym tables) ∙ sym c.in-Ok-ready.ensures.drawn.spelled.count

pub write-requires-clause-own : goal.write-requires-clause-own
write-requires-clause-own g c =
    restart_own (entries_reserved c.ready.new.complex.reserved) c.ready.new.self.id (ap entries_reserved c.in-Ok-ready.ensures.reserved ∙ c.in-Ok.ensures.entries) (c.ready.ensures.id ∙ c.give_restart.ensures.id ∙ c.requires.id)

pub write-requires-clause-some : goal.write-requires-clause-some
write-requires-clause-some g c = subst (λ (es : List Entry). 1 ≤ length es) (sym (ap entries_reserved c.in-Ok-ready.ensures.reserved ∙ c.in-Ok.ensures.entries)) (omega arith)

pub write-requires-clause-replied : goal.write-requires-clause-replied
write-requires-clause-replied g c told =
    let x = c.args.complex.now in
    let m = c.args.operator.now in
    let done : HasDone (run x.base (kept_all x.journal.batches)) c.give_restart.new.member.batch c.give_restart.new.member.checkpoint =
    c.in-Ok.ensures.done (run x.base (kept_all x.journal.batches)) (reset_done x.base x.journal.batches m.batch m.checkpoint c.requires.journal c.requires.at_lock.nothing c.requires.at_lock.drawn c.requires.fit c.requires.orders c.requires.queue) in
    rw (c.ready.ensures.base, c.ready.ensures.kept, c.make_room.ensures.base, c.make_room.ensures.journal, c.in-Ok-ready.ensures.reserved) (∣ done.replied ∣₁)

pub write-requires-clause-allowed : goal.write-requires-clause-allowed
write-requires-clause-allowed g c told =
    let y = c.ready.new.complex in
    restart_begins y.base y.journal.batches y.printed (entries_reserved y.reserved) (ap entries_reserved c.in-Ok-ready.ensures.reserved ∙ c.in-Ok.ensures.entries)

pub write-requires-clause-texts : goal.write-requires-clause-texts
write-requires-clause-texts g c told =
    let x = c.make_room.new.complex in
    let m = c.args.operator.now in
    let v = g.P.Plant.view x.plant in
    let e = c.ready.ensures in
    let Q : Queue = run x.base (kept_all x.journal.batches) in
    rw (e.plant, e.base, e.kept, c.in-Ok-ready.ensures.reserved)
    (∥∥₁_map {A = HasTexts (lost_now v) (spools_at v v.now) x.base.config.groups Q} (c.kept_texts.ensures.kept told) (λ has. step_texts c.law_of_texts.ensures.texts c.law_of_texts.ensures.told (lost_now v) (spools_at v v.now) x.base.config.groups x.base x.base x.journal.batches x.journal.batches
    m.checkpoint.tables nobody 0 Restart c.give_restart.new.member.batch refl c.requires.sound (tell_none m.checkpoint.tables x.base x.journal.batches (ap (λ (j : Journal). j.batches) c.make_room.ensures.journal ∙ c.requires.journal) (rw c.make_room.ensures.base c.requires.queue)) refl refl c.in-Ok.ensures.entries has))

pub write-requires-clause-untold : goal.write-requires-clause-untold
write-requires-clause-untold g c told =
    let P = g.P.Plant in
    let x = c.args.complex.now in
    let w = c.make_room.new.complex in
    let y = c.ready.new.complex in
    let s = c.in_ok-make_room.ensures.settle in
    rw c.ready.ensures.plant
    (none_untold_later g.C.Copying.reads y.base y.since (P.view x.plant) (P.view w.plant) (entries_reserved y.reserved) (c.ready.ensures.since ∙ c.make_room.ensures.since ∙ c.requires.since) s.course.goes (s.apart told).console)

pub returns-in_default-clause-reset : goal.returns-in_default-clause-reset
returns-in_default-clause-reset g c =
    let P = g.P.Plant in
    let x = c.args.complex.now in
    reset_none P.tells (end_of x.placed x.current x.journal.batches) x.pair.first.alive x.pair.first.alive x.pair.second.alive x.pair.second.alive (P.view x.plant) (P.view x.plant)
    (settle_none P.tells x.pair.first.alive x.pair.second.alive (P.view x.plant) c.requires.some)
    (none_out x.journal.batches x.journal.batches x.placed x.current refl c.requires.at_lock.unplaced c.requires.at_lock.none ∙ c.requires.journal)

pub returns-in_err-make_room-clause-reset : goal.returns-in_err-make_room-clause-reset
returns-in_err-make_room-clause-reset g c =
    let P = g.P.Plant in
    let x = c.args.complex.now in
    let w = c.make_room.new.complex in
    let p = err_from_is_err_and c.from_residual.result c.from_residual.ensures.1 in
    rw (p.1, p.2)
    (reset_unsettled P.tells (end_of w.placed w.current w.journal.batches) x.pair.first.alive w.pair.first.alive x.pair.second.alive w.pair.second.alive (P.view x.plant) (P.view w.plant) _ _ refl
    c.in_err-make_room.ensures.operator c.in_err-make_room.ensures.settle (none_out w.journal.batches w.journal.batches w.placed w.current refl (c.make_room.ensures.placed ∙ c.requires.at_lock.unplaced) (c.make_room.ensures.current ∙ c.requires.at_lock.none) ∙ ap (λ (j : Journal). j.batches) c.make_room.ensures.journal ∙ c.requires.journal))

pub returns-in_default-ready-clause-reset : goal.returns-in_default-ready-clause-reset
returns-in_default-ready-clause-reset g c =
    let P = g.P.Plant in
    let x = c.args.complex.now in
    let w = c.make_room.new.complex in
    let e = c.in_default-ready.ensures.err in
    rw (c.ready.ensures.pair, c.ready.ensures.plant, c.ready.ensures.current, e.0, e.2)
    (reset_none P.tells (end_of w.placed w.current w.journal.batches) x.pair.first.alive w.pair.first.alive x.pair.second.alive w.pair.second.alive (P.view x.plant) (P.view w.plant) c.in_ok-make_room.ensures.settle
    (none_out w.journal.batches w.journal.batches w.placed w.current refl (c.make_room.ensures.placed ∙ c.requires.at_lock.unplaced) (c.make_room.ensures.current ∙ c.requires.at_lock.none) ∙ ap (λ (j : Journal). j.batches) c.make_room.ensures.journal ∙ c.requires.journal))

pub returns-in_err-write-clause-reset : goal.returns-in_err-write-clause-reset
returns-in_err-write-clause-reset g c =
    let P = g.P.Plant in
    let x = c.args.complex.now in
    let w = c.make_room.new.complex in
    let z = c.write.new.complex in
    let e = c.ready.ensures in
    let grown = c.in-Ok-ready.ensures.grown (c.make_room.ensures.placed ∙ c.requires.at_lock.unplaced) in
    let same = e.id ∙ c.give_restart.ensures.id ∙ c.requires.id in
    let write = rw (same, e.plant, e.pair, c.in-Ok-ready.ensures.reserved, c.in-Ok.ensures.entries) at (c.in_err-write.ensures.write [] grown.0 (grown.1 ∙ ap (λ (bs : List Batch). bs ++ grown.0 ∷ []) (ap (λ (j : Journal). j.batches) c.make_room.ensures.journal ∙ c.requires.journal))) in
    let r = c.from_residual-in_err-write.result in
    let p = err_from_is_err_and r c.from_residual-in_err-write.ensures.1 in
    rw (p.1, p.2) (reset_written P.tells (end_of z.placed z.current z.journal.batches) x.pair.first.alive w.pair.first.alive x.pair.second.alive w.pair.second.alive (P.view x.plant) (P.view w.plant) z.pair.first.alive z.pair.second.alive (P.view z.plant) _
    (λ halts. absurd (omega (arith, c.in_err-write.ensures.operator halts, ap (λ (m : MemberId). m.0) same))) c.in_ok-make_room.ensures.settle write)

pub returns-clause-reset : goal.returns-clause-reset
returns-clause-reset g c =
    let P = g.P.Plant in
    let x = c.args.complex.now in
    let w = c.make_room.new.complex in
    let z = c.write.new.complex in
    let e = c.ready.ensures in
    let grown = c.in-Ok-ready.ensures.grown (c.make_room.ensures.placed ∙ c.requires.at_lock.unplaced) in
    let same = e.id ∙ c.give_restart.ensures.id ∙ c.requires.id in
    let write = rw (same, e.plant, e.pair, c.in-Ok-ready.ensures.reserved, c.in-Ok.ensures.entries) at (c.in_ok-write.ensures.write [] grown.0 (grown.1 ∙ ap (λ (bs : List Batch). bs ++ grown.0 ∷ []) (ap (λ (j : Journal). j.batches) c.make_room.ensures.journal ∙ c.requires.journal))) in
    reset_written P.tells (end_of z.placed z.current z.journal.batches) x.pair.first.alive w.pair.first.alive x.pair.second.alive w.pair.second.alive (P.view x.plant) (P.view w.plant) z.pair.first.alive z.pair.second.alive (P.view z.plant) (Ok tt)
    (λ e. absurd (cc)) c.in_ok-make_room.ensures.settle write

pub returns-clause-fresh : goal.returns-clause-fresh
returns-clause-fresh g c =
    let P = g.P.Plant in
    let x = c.make_room.new.complex in
    let y = c.ready.new.complex in
    let z = c.write.new.complex in
    let grown = c.in-Ok-ready.ensures.grown (c.make_room.ensures.placed ∙ c.requires.at_lock.unplaced) in
    let b : Batch = begun (P.view y.plant).now c.ready.new.self.id (entries_reserved y.reserved) in
    let journal : z.journal.batches ≡ x.journal.batches ++ fated Kept (P.view z.plant).now b ∷ [] =
    journal_kept x.journal.batches y.journal.batches z.journal.batches grown.0 (fated Kept (P.view z.plant).now b) grown.1 c.in_ok-write.ensures.kept in
    ap (λ (bs : List Batch). length bs) (journal ∙ ap (λ (bs : List Batch). bs ++ fated Kept (P.view z.plant).now b ∷ []) (ap (λ (j : Journal). j.batches) c.make_room.ensures.journal ∙ c.requires.journal))

pub returns-clause-printed : goal.returns-clause-printed
returns-clause-printed g c =
    let y = c.ready.new.complex in
    let are = ap entries_reserved c.in-Ok-ready.ensures.reserved ∙ c.in-Ok.ensures.entries in
    c.in_ok-write.ensures.printed ∙ restart_printed c.ready.new.self.id (entries_reserved y.reserved) y.printed are ∙ c.ready.ensures.printed ∙ c.make_room.ensures.printed

pub returns-clause-quiet : goal.returns-clause-quiet
returns-clause-quiet g c =
    let P = g.P.Plant in
    let C = g.C.Copying in
    let was = c.args.complex.now in
    let x = c.make_room.new.complex in
    let y = c.ready.new.complex in
    let z = c.write.new.complex in
    let m = c.args.operator.now in
    let d = c.give_restart.new.member in
    let n = c.ready.new.self in
    let e = c.ready.ensures in
    let k = c.in_ok-write.ensures in
    let u = c.give_restart.ensures in
    let s = c.in_ok-make_room.ensures.settle in
    let v = P.view x.plant in
    let w = P.view z.plant in
    let Q : Queue = run x.base (kept_all x.journal.batches) in
    let grown = c.in-Ok-ready.ensures.grown (c.make_room.ensures.placed ∙ c.requires.at_lock.unplaced) in
    let same = e.id ∙ u.id ∙ c.requires.id in
    let before : x.journal.batches ≡ [] = ap (λ (j : Journal). j.batches) c.make_room.ensures.journal ∙ c.requires.journal in
    let b : Batch = begun (P.view y.plant).now n.id (entries_reserved y.reserved) in
    let journal : z.journal.batches ≡ x.journal.batches ++ fated Kept w.now b ∷ [] =
    journal_kept x.journal.batches y.journal.batches z.journal.batches grown.0 (fated Kept w.now b) grown.1 k.kept in
    let one : z.journal.batches ≡ fated Kept w.now b ∷ [] = journal ∙ ap (λ (bs : List Batch). bs ++ fated Kept w.now b ∷ []) before in
    let write = rw (same, e.plant, e.pair, c.in-Ok-ready.ensures.reserved, c.in-Ok.ensures.entries) at (k.write [] grown.0 (grown.1 ∙ ap (λ (bs : List Batch). bs ++ grown.0 ∷ []) before)) in
    let goes : Goes v w = write.course.goes in
    let base : z.base ≡ was.base = k.base ∙ e.base ∙ c.make_room.ensures.base in
    let tables = ap (λ (t : Tables). t.config) e.tables ∙ u.config in
    let config : z.base.config ≡ n.checkpoint.tables.config = ap (λ (q : Queue). q.config) base ∙ c.requires.queue.config ∙ sym tables in
    let drawn = c.in-Ok-ready.ensures.drawn in
    let many : length m.checkpoint.pages ≡ length n.checkpoint.pages = c.requires.at_lock.drawn.spelled.count ∙ sym (ap page_count tables) ∙ sym drawn.spelled.count in
    let low : AreLow n.checkpoint.tables.config (length z.journal.batches) n.checkpoint.tables = rw e.tables
    (low_first d.checkpoint.tables m.checkpoint.tables.order (length z.journal.batches) u.fit c.requires.order u.order (some_kept x.journal.batches y.journal.batches z.journal.batches grown.0 (fated Kept w.now b) grown.1 k.kept)) in
    let done : HasDone Q d.batch d.checkpoint = c.in-Ok.ensures.done Q (reset_done x.base x.journal.batches m.batch m.checkpoint before c.requires.at_lock.nothing c.requires.at_lock.drawn c.requires.fit c.requires.orders (rw c.make_room.ensures.base c.requires.queue)) in
    let told = told_sound d.checkpoint.tables (run z.base (kept_all z.journal.batches)) c.in-Ok.ensures.sound
    (subst (Tell d.checkpoint.tables) (queue_kept x.base z.base Q (run Q d.batch) x.journal.batches z.journal.batches w.now b d.batch (k.base ∙ e.base) refl journal (ap entries_reserved c.in-Ok-ready.ensures.reserved) refl) done.queue) in
    let since : z.since ≡ (P.view was.plant).now = k.since ∙ e.since ∙ c.make_room.ensures.since ∙ c.requires.since in
    let first : (P.view y.plant).now ≤ w.now = rw e.plant goes.later in
    record {
      none = k.none;
      unplaced = k.unplaced;
      unreserved = k.unreserved;
      first = open_rest P.tells (first_half P C (parts_of z)) n.checkpoint z.base.config (length z.journal.batches) (length m.checkpoint.pages) drawn config many (λ t. low) k.rests1;
      second = open_rest P.tells (second_half P C (parts_of z)) n.checkpoint z.base.config (length z.journal.batches) (length m.checkpoint.pages) drawn config many (λ t. low) k.rests2;
      sound = λ t. told;
      kept = one_settled b w.now w.now z.journal.batches one first (omega arith);
      begun = omega (arith, since, s.course.goes.later, goes.later);
      roomy = λ t. subst (AreRoomy w) (sym (ap (λ (q : Queue). q.config) base)) (still_roomy was.base.config v w goes (still_roomy was.base.config (P.view was.plant) v s.course.goes (c.requires.roomy t)));
    }

-- the operator alone noted pages
pub returns-clause-noted : goal.returns-clause-noted
returns-clause-noted g c m some =
    let x = c.args.complex.now in
    let y = c.ready.new.complex in
    let z = c.write.new.complex in
    let n = c.ready.new.self in
    let same = c.ready.ensures.id ∙ c.give_restart.ensures.id ∙ c.requires.id in
    let other : m ≢ n.id.0 = λ e. absurd (omega (arith, some, e, ap (λ (k : MemberId). k.0) same)) in
    ap (λ (had : List (List Page)). noted_by had m) c.in_ok-write.ensures.noted
    ∙ noted_beside (values_of y.had) n.id.0 m n.checkpoint.pages other
    ∙ ap (λ (had : List (List Page)). noted_by had m) c.ready.ensures.had
    ∙ ap (λ (had : List (List Page)). noted_by had m) (ap values_of c.make_room.ensures.had)
