use Rattle.std.proofs.Common.{◌≡◌, ◌∙◌, ◌+◌, ◌≤◌, ◌++◌, ℕ, List, [], ◌∷◌, ap, refl, subst, sym, arith}
use Rattle.std.proofs.lemmas.Result.{err_from_is_err_and}
use Rattle.mas_types.specs.declared.journals.Batch.{Batch}
use Rattle.mas_types.specs.declared.journals.Fate.TheVariants.{Kept}
use Rattle.mas_types.specs.declared.queues.Queue.{Queue}
use Rattle.ckpt_tables.specs.declared.tables.Tables.{Tables}
use Rattle.ckpt_tables.specs.Shape.{page_count}
use Rattle.queue_telling.specs.Orders.{HaveOrders}
use Rattle.queue_telling.specs.Telling.{Tell, TellSound}
use Rattle.mas_complex.specs.CallCounts.{pair_state}
use Rattle.mas_complex.specs.Journals.{begun, entries_reserved, fated, kept_all}
use Rattle.mas_complex.specs.Meaning.{run}
use Rattle.mas_complex.specs.Parts.{parts_of}
use Rattle.mas_complex.specs.Past.{values_of}
use Rattle.member_node.specs.Batches.{level_with}
use Rattle.member_node.proofs.WriteLemmas.{none_out, queue_kept}
use Rattle.member_steps.specs.Steps.{AreAllKept}
use Rattle.member_steps.proofs.CountLemmas.{counted_batch, counted_error}
use Rattle.member_steps.proofs.KeepLemmas.{copies_none, copies_written}
use Rattle.member_steps.proofs.NoteLemmas.{keeps_error, keeps_noted, notes_by, notes_same, notes_set, notes_then}
use Rattle.member_steps.proofs.StepLemmas.{journal_kept, kept_push, level_most, pages_as_many}
use Rattle.member_steps.proofs.keeping.keep_batch.Goals as goal

pub returns-in_default-clause-acts : goal.returns-in_default-clause-acts
returns-in_default-clause-acts g c =
    rw (c.ready.ensures.pair, c.ready.ensures.plant) (copies_none g.P.Plant.tells c.args.member.now.id.0 (pair_state g.P.Plant.view (parts_of c.args.complex.now)))

pub returns-in_default-clause-leaves : goal.returns-in_default-clause-leaves
returns-in_default-clause-leaves g c =
    let x = c.args.complex.now in
    let e = c.in_default.ensures.err in
    rw (c.ready.ensures.current, e.0, e.2) (none_out x.journal.batches x.journal.batches x.placed x.current refl c.requires.unplaced c.requires.none)

pub returns-in_err-write-clause-acts : goal.returns-in_err-write-clause-acts
returns-in_err-write-clause-acts g c =
    let e = c.ready.ensures in
    let grown = c.in-Ok.ensures.grown c.requires.unplaced in
    let write = rw (e.id, e.plant, e.pair, c.in-Ok.ensures.reserved) at (c.in_err-write.ensures.write c.args.complex.now.journal.batches grown.0 grown.1) in
    let p = err_from_is_err_and c.from_residual.result c.from_residual.ensures.1 in
    rw (p.1, p.2) (copies_written _ _ _ _ _ _ _ _ write).0

pub returns-in_err-write-clause-leaves : goal.returns-in_err-write-clause-leaves
returns-in_err-write-clause-leaves g c =
    let e = c.ready.ensures in
    let grown = c.in-Ok.ensures.grown c.requires.unplaced in
    let write = rw (e.id, e.plant, e.pair, c.in-Ok.ensures.reserved) at (c.in_err-write.ensures.write c.args.complex.now.journal.batches grown.0 grown.1) in
    let p = err_from_is_err_and c.from_residual.result c.from_residual.ensures.1 in
    rw (p.1, p.2) (copies_written _ _ _ _ _ _ _ _ write).1

pub ready-requires-clause-done : goal.ready-requires-clause-done
ready-requires-clause-done g c told = ∣ c.requires.done told ∣₁

pub write-requires-clause-replied : goal.write-requires-clause-replied
write-requires-clause-replied g c told =
    let e = c.ready.ensures in
    rw (e.base, e.kept, c.in-Ok.ensures.reserved) (∣ (c.requires.done told).replied ∣₁)

pub write-requires-clause-texts : goal.write-requires-clause-texts
write-requires-clause-texts g c told =
    let e = c.ready.ensures in
    rw (e.plant, e.base, e.kept, c.in-Ok.ensures.reserved) (c.requires.texts told)

pub write-requires-clause-allowed : goal.write-requires-clause-allowed
write-requires-clause-allowed g c told =
    let e = c.ready.ensures in
    rw (e.base, e.kept, e.printed, c.in-Ok.ensures.reserved) (c.requires.allowed told)

pub write-requires-clause-by : goal.write-requires-clause-by
write-requires-clause-by g c = rw c.ready.ensures.id c.requires.by

pub write-requires-clause-config : goal.write-requires-clause-config
write-requires-clause-config g c told =
    let x = c.args.complex.now in
    let m = c.args.member.now in
    let e = c.ready.ensures in
    ap (λ (Q : Queue). page_count Q.config) e.base
    ∙ pages_as_many x.base (kept_all x.journal.batches) m.batch m.checkpoint.tables (c.requires.done told).queue
    ∙ sym (c.in-Ok.ensures.drawn.spelled.count ∙ ap (λ (t : Tables). page_count t.config) e.tables)

pub returns-clause-acts : goal.returns-clause-acts
returns-clause-acts g c =
    let e = c.ready.ensures in
    let grown = c.in-Ok.ensures.grown c.requires.unplaced in
    (copies_written _ _ _ _ _ _ _ _ (rw (e.id, e.plant, e.pair, c.in-Ok.ensures.reserved) at (c.in_ok-write.ensures.write c.args.complex.now.journal.batches grown.0 grown.1))).0

pub returns-clause-leaves : goal.returns-clause-leaves
returns-clause-leaves g c =
    let e = c.ready.ensures in
    let grown = c.in-Ok.ensures.grown c.requires.unplaced in
    let write = rw (e.id, e.plant, e.pair, c.in-Ok.ensures.reserved) at (c.in_ok-write.ensures.write c.args.complex.now.journal.batches grown.0 grown.1) in
    write.journal

pub returns-clause-printed : goal.returns-clause-printed
returns-clause-printed g c =
    let e = c.ready.ensures in
    rw (e.id, e.printed, c.in-Ok.ensures.reserved) at c.write.ensures.printed

pub returns-clause-between : goal.returns-clause-between
returns-clause-between g c =
    let P = g.P.Plant in
    let x = c.args.complex.now in
    let y = c.ready.new.complex in
    let z = c.write.new.complex in
    let e = c.ready.ensures in
    let k = c.in_ok-write.ensures in
    let Q : Queue = run x.base (kept_all x.journal.batches) in
    let grown = c.in-Ok.ensures.grown c.requires.unplaced in
    let b : Batch = begun (P.view y.plant).now c.ready.new.self.id (entries_reserved y.reserved) in
    let journal : z.journal.batches ≡ x.journal.batches ++ fated Kept (P.view z.plant).now b ∷ [] =
    journal_kept x.journal.batches y.journal.batches z.journal.batches grown.0 (fated Kept (P.view z.plant).now b) grown.1 k.kept in
    record {
      none = k.none;
      unplaced = k.unplaced;
      same_level = λ told. k.level ∙ ap (level_with c.in-Ok.draft) (e.same_level ∙ c.requires.same_level told) ∙ sym c.in-Ok.ensures.level;
      nothing = c.in-Ok.ensures.empty;
      drawn = c.in-Ok.ensures.drawn;
      queue = λ told. subst (Tell c.ready.new.self.checkpoint.tables) (queue_kept x.base z.base Q (run Q c.args.member.now.batch) x.journal.batches z.journal.batches (P.view z.plant).now b c.args.member.now.batch
          (k.base ∙ e.base) refl journal (ap entries_reserved c.in-Ok.ensures.reserved) refl) (subst (λ (u : Tables). Tell u (run Q c.args.member.now.batch)) (sym e.tables) (c.requires.done told).queue);
      fit = rw e.tables c.requires.fit;
      orders = λ told. subst HaveOrders (sym e.tables) (c.requires.done told).orders;
      sound = λ told. subst TellSound (sym e.tables) (c.requires.sound told);
    }

pub returns-clause-kept : goal.returns-clause-kept
returns-clause-kept g c =
    let P = g.P.Plant in
    let x = c.args.complex.now in
    let y = c.ready.new.complex in
    let z = c.write.new.complex in
    let grown = c.in-Ok.ensures.grown c.requires.unplaced in
    let b : Batch = begun (P.view y.plant).now c.ready.new.self.id (entries_reserved y.reserved) in
    let journal : z.journal.batches ≡ x.journal.batches ++ fated Kept (P.view z.plant).now b ∷ [] =
    journal_kept x.journal.batches y.journal.batches z.journal.batches grown.0 (fated Kept (P.view z.plant).now b) grown.1 c.in_ok-write.ensures.kept in
    let later : (P.view y.plant).now ≤ (P.view z.plant).now = (c.in_ok-write.ensures.write x.journal.batches grown.0 grown.1).course.goes.later in
    λ all. subst (λ (bs : List Batch). AreAllKept bs (P.view z.plant).now) (sym journal)
    (kept_push x.journal.batches (P.view x.plant).now (P.view z.plant).now b (omega (arith, later, ap (λ p. (P.view p).now) c.ready.ensures.plant)) later all)

pub returns-clause-level : goal.returns-clause-level
returns-clause-level g c =
    let old : ℕ = c.args.member.now.checkpoint.level in
    subst (λ (n : ℕ). n ≤ old + 1) (sym c.in-Ok.ensures.level) (level_most c.in-Ok.draft old)

pub returns-clause-reached : goal.returns-clause-reached
returns-clause-reached g c =
    let old : ℕ = c.args.complex.now.level in
    subst (λ (n : ℕ). n ≤ old + 1) (sym (c.in_ok-write.ensures.level ∙ ap (level_with c.in-Ok.draft) c.ready.ensures.same_level)) (level_most c.in-Ok.draft old)

-- THE COUNTS OF PRINTED LINES

pub returns-in_default-clause-counts : goal.returns-in_default-clause-counts
returns-in_default-clause-counts g c =
    let m = c.args.member.now in
    counted_error m.id m.batch c.args.complex.now.printed c.ready.new.complex.printed _ c.ready.ensures.printed

pub returns-in_err-write-clause-counts : goal.returns-in_err-write-clause-counts
returns-in_err-write-clause-counts g c =
    let m = c.args.member.now in
    let e = c.ready.ensures in
    counted_batch m.id m.batch _ _ _ c.requires.own (rw (e.id, e.printed, c.in-Ok.ensures.reserved) at c.write.ensures.printed)

pub returns-clause-counts : goal.returns-clause-counts
returns-clause-counts g c =
    let m = c.args.member.now in
    let e = c.ready.ensures in
    counted_batch m.id m.batch _ _ _ c.requires.own (rw (e.id, e.printed, c.in-Ok.ensures.reserved) at c.write.ensures.printed)

-- WHAT WAS NOTED

pub returns-in_default-clause-notes : goal.returns-in_default-clause-notes
returns-in_default-clause-notes g c =
    let m = c.args.member.now in
    keeps_error g.P.Plant.tells _ _ m c.ready.new.self _ (notes_same m.id _ _ c.ready.ensures.had)

pub returns-in_err-write-clause-notes : goal.returns-in_err-write-clause-notes
returns-in_err-write-clause-notes g c =
    let m = c.args.member.now in
    let p = err_from_is_err_and c.from_residual.result c.from_residual.ensures.1 in
    rw (p.1, p.2) (keeps_error g.P.Plant.tells _ _ m c.ready.new.self _ (notes_same m.id _ _ (c.in_err-write.ensures.noted_err ∙ c.ready.ensures.had)))

pub returns-clause-notes : goal.returns-clause-notes
returns-clause-notes g c =
    let x = c.args.complex.now in
    let y = c.ready.new.complex in
    let z = c.write.new.complex in
    let m = c.args.member.now in
    let n = c.ready.new.self in
    let k = c.in_ok-write.ensures in
    keeps_noted g.P.Plant.tells (values_of x.had) (values_of z.had) m n _ k.own (λ read. c.in-Ok.ensures.fresh ∙ read)
    (notes_then m.id (values_of x.had) (values_of y.had) (values_of z.had) (notes_same m.id (values_of x.had) (values_of y.had) c.ready.ensures.had) (notes_by n.id m.id (values_of y.had) (values_of z.had) c.ready.ensures.id (notes_set n.id (values_of y.had) (values_of z.had) n.checkpoint.pages k.noted)))
