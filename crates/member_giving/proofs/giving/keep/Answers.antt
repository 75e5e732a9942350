use Rattle.member_giving.proofs.Names.{all_entries, ◌≡◌, Bool, Ok, Err, ◌∙◌, ap, refl, subst, sym, arith, Ckpt1, Ckpt2, Entry, Journal, Tables, disk_now, values_of, pages_had, none_out, counted_by, counted_on, batch_of, outside, All-weaker, parts_of, [], between_by, Kept, sits_kept, err_from_is_err_and, length, ◌≤◌}
use Rattle.ckpt_copy.specs.Moments.{goes_on}
use Rattle.member_node.specs.Copies.{RestsAt}
use Rattle.member_giving.proofs.Given.{kept_none, kept_not, kept_then, spares_of, spares_then}
use Rattle.member_giving.proofs.Going.{counted_as}
use Rattle.member_giving.proofs.Working.{none_flies, queue_after, same_run, uses_one, same_out}
use Rattle.member_giving.proofs.Cuts.{batch_entries, none_batch}
use Rattle.member_giving.proofs.Keeping.{quiet}
use Rattle.member_giving.proofs.Seated.{gives_works, works_seat}
use Rattle.member_giving.proofs.giving.keep.Goals as goal

-- NOTHING WAS GIVEN

pub returns-then-len-eq0 : goal.returns-then-len-eq0
returns-then-len-eq0 g c =
    let m = c.args.member.now in
    let none = none_batch m.batch (omega arith) in
    kept_none c.args.complex.now m c.args.holder c.requires.works (batch_of m.batch) [] (ap batch_of none) none

-- THE BATCH

pub keep_batch-requires-clause-some : goal.keep_batch-requires-clause-some
keep_batch-requires-clause-some g c = omega arith

pub keep_batch-requires-clause-by : goal.keep_batch-requires-clause-by
keep_batch-requires-clause-by g c = c.requires.works.still.holds.few

pub keep_batch-requires-clause-own : goal.keep_batch-requires-clause-own
keep_batch-requires-clause-own g c = All-weaker (λ (e : Entry). (e.by ≡ c.args.member.now.id) × (e.step ≡ c.args.holder.step)) (λ (e : Entry). e.by ≡ c.args.member.now.id) (λ e it. it.0) c.args.member.now.batch c.requires.works.of

pub keep_batch-requires-clause-untold : goal.keep_batch-requires-clause-untold
keep_batch-requires-clause-untold g c told = c.requires.works.untold told c.args.member.now.batch c.requires.works.of

pub keep_batch-requires-clause-texts : goal.keep_batch-requires-clause-texts
keep_batch-requires-clause-texts g c told = c.requires.works.texts (omega arith) told

pub returns-in_err-keep_batch : goal.returns-in_err-keep_batch
returns-in_err-keep_batch g c =
    let x = c.args.complex.now in
    let y = c.keep_batch.new.complex in
    let m = c.args.member.now in
    let h = c.args.holder in
    let w = c.requires.works in
    let k = c.keep_batch.ensures in
    let e = c.in_err-keep_batch.ensures in
    let q = err_from_is_err_and c.from_residual.result c.from_residual.ensures.1 in
    rw (q.1, q.2) (record {
      run = same_run x y m c.keep_batch.new.member h k.base k.since k.renewals k.book k.id;
      keeps = kept_not x y m h w (omega arith) _ e.acts e.leaves;
      spares = spares_of x y h.by m.id w.own k.acts.apart k.notes.others;
      tables = k.tables;
      left = tt;
      works = tt;
      queue = tt;
      uses = tt;
      reached = tt;
      counts = counted_as (all_entries (batch_of m.batch)) m.batch x.printed y.printed (batch_entries m.batch) (Err _) (counted_by m.id h.by m.batch x.printed y.printed (Err _) (sym w.own) e.counts);
    })

-- ROOM FOR THE NEXT ONE

pub primary-requires : goal.primary-requires
primary-requires g c = record {
  may = rw (c.keep_batch.ensures.book, c.keep_batch.ensures.id) c.requires.works.still.holds.may;
  none = c.in_ok-keep_batch.ensures.between.none;
  rests1 = rw c.keep_batch.ensures.here c.in_ok-keep_batch.ensures.rests1;
  rests2 = rw c.keep_batch.ensures.here c.in_ok-keep_batch.ensures.rests2;
}

pub returns-in_err-primary : goal.returns-in_err-primary
returns-in_err-primary g c =
    let x = c.args.complex.now in
    let y = c.keep_batch.new.complex in
    let z = c.primary.new.complex in
    let m = c.args.member.now in
    let n = c.keep_batch.new.member in
    let h = c.args.holder in
    let w = c.requires.works in
    let k = c.keep_batch.ensures in
    let p = c.primary.ensures in
    let o = c.in_ok-keep_batch.ensures in
    let q = err_from_is_err_and c.from_residual-in_err-primary.result c.from_residual-in_err-primary.ensures.1 in
    rw (q.1, q.2) (record {
      run = same_run y z n n h p.base p.since p.renewals p.book refl ∙ same_run x y m n h k.base k.since k.renewals k.book k.id;
      keeps = kept_then x y m h w (omega arith) z n (Err _) k.id o.acts o.leaves (same_out y z p.journal p.current p.placed) c.in_err-primary.ensures.settle;
      spares = spares_then x y z h.by m.id w.own k.acts.course k.acts.apart p.settle.course p.settle.apart k.notes.others p.had;
      tables = k.tables;
      left = tt;
      works = tt;
      queue = tt;
      uses = tt;
      reached = tt;
      counts = counted_as (all_entries (batch_of m.batch)) m.batch x.printed z.printed (batch_entries m.batch) (Err _) (counted_by m.id h.by m.batch x.printed z.printed (Err _) (sym w.own) (counted_on m.id m.batch x.printed y.printed z.printed _ _ p.printed o.counts));
    })

pub returns : goal.returns
returns g c =
    let k = c.keep_batch.ensures in
    let p = c.primary.ensures in
    let n = c.keep_batch.new.member in
    let m = c.args.member.now in
    let o = c.in_ok-keep_batch.ensures in
    let x = c.args.complex.now in
    let y = c.keep_batch.new.complex in
    let z = c.primary.new.complex in
    let w = c.requires.works in
    record {
      run = same_run c.keep_batch.new.complex c.primary.new.complex n n c.args.holder p.base p.since p.renewals p.book refl
          ∙ same_run c.args.complex.now c.keep_batch.new.complex c.args.member.now n c.args.holder k.base k.since k.renewals k.book k.id;
      keeps = kept_then c.args.complex.now c.keep_batch.new.complex m c.args.holder c.requires.works (omega arith) c.primary.new.complex c.keep_batch.new.member (Ok _) c.keep_batch.ensures.id o.acts o.leaves (same_out y z p.journal p.current p.placed) c.in_ok-primary.ensures.settle;
      spares = spares_then c.args.complex.now c.keep_batch.new.complex c.primary.new.complex c.args.holder.by c.args.member.now.id c.requires.works.own c.keep_batch.ensures.acts.course c.keep_batch.ensures.acts.apart c.primary.ensures.settle.course c.primary.ensures.settle.apart c.keep_batch.ensures.notes.others c.primary.ensures.had;
      tables = k.tables;
      left = c.in_ok-keep_batch.ensures.between.nothing;
      works =
          let P = g.P.Plant in
          let C = g.C.Copying in
          let h = c.args.holder in
          let e = c.in_ok-primary.ensures in
          let b = o.between in
          let some : 1 ≤ length m.batch = omega arith in
          let out = same_out y z p.journal p.current p.placed in
          let later = p.settle.course.goes.later in
          let keeps = kept_then x y m h w some z n (Ok tt) k.id o.acts o.leaves out e.settle in
          let kept : Kept P C (parts_of x) (parts_of z) m n = record {
            book = p.book ∙ k.book;
            base = p.base ∙ k.base;
            since = p.since ∙ k.since;
            id = k.id;
            room = k.room;
            here = k.here;
            tables = k.tables;
            unreserved = p.reserved ∙ o.unreserved;
            between = between_by P.tells (parts_of y) (parts_of z) n.batch n.checkpoint p.base (ap (λ (j : Journal). j.batches) p.journal) p.current p.placed p.level b;
            first = subst (λ (behind : Bool). RestsAt P.tells z.pair.first.alive z.first (C.count z.pair.first.copy) (pages_had behind n.room n.checkpoint.pages) (C.reads (disk_now (P.view z.plant) Ckpt1).bytes)) k.here e.rests1;
            second = subst (λ (behind : Bool). RestsAt P.tells z.pair.second.alive z.second (C.count z.pair.second.copy) (pages_had behind n.room n.checkpoint.pages) (C.reads (disk_now (P.view z.plant) Ckpt2).bytes)) k.here e.rests2;
            noted = rw (ap values_of p.had) (o.notes.own w.still.noted);
            goes = goes_on (P.view x.plant) (P.view y.plant) (P.view z.plant) o.acts.course.goes p.settle.course.goes;
            leaves = let l = o.leaves in (l.0, l.1, omega (arith, l.2, later), out ∙ l.3);
          } in
          works_seat z n h (sits_kept P C (parts_of x) (parts_of z) m n kept h.step (gives_works x m h w some) (quiet P.tells h.by (outside x) (outside z) (batch_of m.batch) keeps)) e.room1 e.room2 (w.own ∙ sym k.id) (λ told. rw (p.base ∙ k.base) (w.base_sound told));
      queue =
          let keeps = kept_then x y m c.args.holder w (omega arith) z n (Ok tt) k.id o.acts o.leaves (same_out y z p.journal p.current p.placed) c.in_ok-primary.ensures.settle in
          queue_after x z m n c.args.holder.by (p.base ∙ k.base) (none_flies x m w.still) (none_out z.journal.batches z.journal.batches z.placed z.current refl (p.placed ∙ o.between.unplaced) (p.current ∙ o.between.none)) o.between.nothing keeps;
      uses =
          let same = ap (λ (t : Tables). t.order) c.keep_batch.ensures.tables in
          let level = c.primary.ensures.level in
          let reached = o.reached in
          uses_one c.args.complex.now c.primary.new.complex c.args.member.now c.keep_batch.new.member (omega (arith, same)) o.level (omega (arith, level, reached));
      reached = rw p.level o.reached;
      counts = counted_as (all_entries (batch_of m.batch)) m.batch x.printed z.printed (batch_entries m.batch) _ (counted_by m.id c.args.holder.by m.batch x.printed z.printed _ (sym w.own) (counted_on m.id m.batch x.printed y.printed z.printed _ _ p.printed o.counts));
    }
