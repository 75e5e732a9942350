use Rattle.std.proofs.Common.{◌∙◌, List, ap, refl, subst, sym}
use Rattle.std.proofs.lemmas.Result.{err_from_is_err_and}
use Rattle.mas_types.specs.declared.ids.Dev.TheVariants.{Ckpt1, Ckpt2}
use Rattle.mas_types.specs.declared.journals.Batch.{Batch}
use Rattle.spool_plant.specs.View.{disk_now}
use Rattle.mas_complex.specs.CallCounts.{pair_of}
use Rattle.mas_complex.specs.Journals.{begun}
use Rattle.mas_complex.specs.Parts.{parts_of}
use Rattle.mas_complex.specs.Past.{values_of}
use Rattle.member_node.specs.Copies.{first_of, second_of}
use Rattle.member_steps.specs.Steps.{AreAllKept}
use Rattle.member_steps.proofs.CountLemmas.{counted_on}
use Rattle.member_steps.proofs.FateLemmas.{tell_out}
use Rattle.member_steps.proofs.NoteLemmas.{keeps_same, keeps_then}
use Rattle.member_steps.proofs.ReadLemmas.{between_by}
use Rattle.member_steps.proofs.SayLemmas.{rests_as}
use Rattle.member_steps.proofs.StepLemmas.{kept_later, ok_of, step_told, step_unkept}
use Rattle.member_steps.proofs.batches.play_batch.Goals as goal

-- THE BATCH WASN'T KEPT

pub returns-in_err-keep_batch-clause-step : goal.returns-in_err-keep_batch-clause-step
returns-in_err-keep_batch-clause-step g c =
    let x = c.args.complex.now in
    let m = c.args.member.now in
    let k = c.in_err-keep_batch.ensures in
    let p = err_from_is_err_and c.from_residual.result c.from_residual.ensures.1 in
    rw (p.1, p.2) (step_unkept g.P.Plant.tells c.args.lines.now (begun (g.P.Plant.view x.plant).now m.id m.batch) _ _ _ _ _ k.acts k.leaves)

pub returns-in_err-keep_batch-clause-notes : goal.returns-in_err-keep_batch-clause-notes
returns-in_err-keep_batch-clause-notes g c =
    let p = err_from_is_err_and c.from_residual.result c.from_residual.ensures.1 in
    rw (p.1, p.2) c.in_err-keep_batch.ensures.notes

pub returns-in_err-keep_batch-clause-counts : goal.returns-in_err-keep_batch-clause-counts
returns-in_err-keep_batch-clause-counts g c =
    let p = err_from_is_err_and c.from_residual.result c.from_residual.ensures.1 in
    rw (p.1, p.2) c.in_err-keep_batch.ensures.counts

-- ITS LINES MAY BE SAID

pub tell_lines-requires-clause-up : goal.tell_lines-requires-clause-up
tell_lines-requires-clause-up g c = rw (c.keep_batch.ensures.book, c.keep_batch.ensures.id) c.requires.may.up

pub tell_lines-requires-clause-kept : goal.tell_lines-requires-clause-kept
tell_lines-requires-clause-kept g c told =
    let x = c.args.complex.now in
    let z = c.keep_batch.new.complex in
    let k = c.in_ok-keep_batch.ensures in
    tell_out c.args.lines.now x.journal.batches z.journal.batches z.placed z.current (begun (g.P.Plant.view x.plant).now c.args.member.now.id c.args.member.now.batch) (g.P.Plant.view x.plant).now (g.P.Plant.view z.plant).now k.acts.course.goes.later k.between.unplaced k.between.none k.leaves (c.requires.kept told)

-- THEY WERE SAID

pub returns-clause-step : goal.returns-clause-step
returns-clause-step g c =
    let P = g.P.Plant in
    let x = c.args.complex.now in
    let m = c.args.member.now in
    let k = c.in_ok-keep_batch.ensures in
    let t = c.tell_lines.ensures in
    let said = rw c.keep_batch.ensures.id at t.said in
    rw (t.placed, t.current, t.journal, t.pair) (step_told P.tells c.args.lines.now (begun (P.view x.plant).now m.id m.batch) _ _ (pair_of x) (pair_of c.keep_batch.new.complex) k.acts k.leaves (P.view c.tell_lines.new.complex.plant) c.tell_lines.result said)

pub returns-clause-printed : goal.returns-clause-printed
returns-clause-printed g c = ok_of c.tell_lines.result (c.tell_lines.ensures.printed ∙ c.in_ok-keep_batch.ensures.printed)

pub returns-clause-unreserved : goal.returns-clause-unreserved
returns-clause-unreserved g c = ok_of c.tell_lines.result (c.tell_lines.ensures.reserved ∙ c.in_ok-keep_batch.ensures.unreserved)

pub returns-clause-between : goal.returns-clause-between
returns-clause-between g c =
    let n = c.keep_batch.new.member in
    let t = c.tell_lines.ensures in
    ok_of c.tell_lines.result (between_by g.P.Plant.tells (parts_of c.keep_batch.new.complex) (parts_of c.tell_lines.new.complex) n.batch n.checkpoint t.base (ap (λ j. j.batches) t.journal) t.current t.placed t.level c.in_ok-keep_batch.ensures.between)

pub returns-clause-rests1 : goal.returns-clause-rests1
returns-clause-rests1 g c =
    let C = g.C.Copying in
    let P = g.P.Plant in
    let t = c.tell_lines.ensures in
    ok_of c.tell_lines.result (rw (t.pair, t.first) (rests_as P.tells (first_of c.keep_batch.new.complex) c.keep_batch.new.member.checkpoint.pages (C.reads (disk_now (P.view c.tell_lines.new.complex.plant) Ckpt1).bytes)
    (λ told. ap (λ d. C.reads d.bytes) (t.said.acts.disks told Ckpt1)) c.in_ok-keep_batch.ensures.rests1))

pub returns-clause-rests2 : goal.returns-clause-rests2
returns-clause-rests2 g c =
    let C = g.C.Copying in
    let P = g.P.Plant in
    let t = c.tell_lines.ensures in
    ok_of c.tell_lines.result (rw (t.pair, t.second) (rests_as P.tells (second_of c.keep_batch.new.complex) c.keep_batch.new.member.checkpoint.pages (C.reads (disk_now (P.view c.tell_lines.new.complex.plant) Ckpt2).bytes)
    (λ told. ap (λ d. C.reads d.bytes) (t.said.acts.disks told Ckpt2)) c.in_ok-keep_batch.ensures.rests2))

pub returns-clause-kept : goal.returns-clause-kept
returns-clause-kept g c =
    let P = g.P.Plant in
    let z = c.keep_batch.new.complex in
    let w = c.tell_lines.new.complex in
    let t = c.tell_lines.ensures in
    ok_of c.tell_lines.result (λ all. subst (λ (bs : List Batch). AreAllKept bs (P.view w.plant).now) (sym (ap (λ j. j.batches) t.journal)) (kept_later z.journal.batches (P.view z.plant).now (P.view w.plant).now t.said.acts.goes.later (c.in_ok-keep_batch.ensures.kept all)))

pub returns-clause-level : goal.returns-clause-level
returns-clause-level g c = ok_of c.tell_lines.result c.in_ok-keep_batch.ensures.level

pub returns-clause-reached : goal.returns-clause-reached
returns-clause-reached g c = ok_of c.tell_lines.result (rw c.tell_lines.ensures.level c.in_ok-keep_batch.ensures.reached)

pub returns-clause-counts : goal.returns-clause-counts
returns-clause-counts g c =
    let m = c.args.member.now in
    counted_on m.id m.batch c.args.complex.now.printed c.keep_batch.new.complex.printed c.tell_lines.new.complex.printed _ c.tell_lines.result c.tell_lines.ensures.printed c.in_ok-keep_batch.ensures.counts

pub returns-clause-notes : goal.returns-clause-notes
returns-clause-notes g c =
    let z = c.keep_batch.new.complex in
    let w = c.tell_lines.new.complex in
    let n = c.keep_batch.new.member in
    keeps_then g.P.Plant.tells (values_of c.args.complex.now.had) (values_of z.had) (values_of w.had) c.args.member.now n n _ c.tell_lines.result c.keep_batch.ensures.id c.in_ok-keep_batch.ensures.notes
    (keeps_same g.P.Plant.tells (values_of z.had) (values_of w.had) n n c.tell_lines.result (ap (λ p. p.had) c.tell_lines.ensures.frame) refl refl refl)
