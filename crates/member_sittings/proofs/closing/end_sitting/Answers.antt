use Rattle.member_sittings.proofs.Names.{ap, arith, err_from_is_err_and, Tables, parts_of, Err, Ok}
use Rattle.member_sittings.proofs.KeepLemmas.{ends_of, sat_frame, sat_step}
use Rattle.member_sittings.proofs.SeatLemmas.{Kept, left_kept, own_batch}
use Rattle.member_sittings.proofs.closing.end_sitting.Goals as goal

pub play_batch-requires-clause-by : goal.play_batch-requires-clause-by
play_batch-requires-clause-by g c = c.requires.may.gives.still.holds.few

pub play_batch-requires-clause-own : goal.play_batch-requires-clause-own
play_batch-requires-clause-own g c =
    let m = c.args.member.now in
    own_batch m.id c.args.holder.step m.batch c.requires.may.gives.of

pub play_batch-requires-clause-untold : goal.play_batch-requires-clause-untold
play_batch-requires-clause-untold g c told = c.requires.may.gives.untold told c.args.member.now.batch c.requires.may.gives.of

pub returns-in_err-play_batch : goal.returns-in_err-play_batch
returns-in_err-play_batch g c =
    let x = parts_of c.args.complex.now in
    let z = parts_of c.play_batch.new.complex in
    let m = c.args.member.now in
    let e = c.play_batch.ensures in
    let p = err_from_is_err_and c.from_residual.result c.from_residual.ensures.1 in
    rw (p.1, p.2) (record {
      frame = sat_frame x z e.book e.base e.since e.renewals;
      id = e.id;
      tables = e.tables;
      sat = sat_step g.P.Plant m.id c.args.holder c.requires.may.holder c.args.next c.args.lines.now x z m.batch c.requires.may.some c.in_err-play_batch.ensures.notes.others (Err _) tt c.in_err-play_batch.ensures.step c.in_err-play_batch.ensures.counts;
      again = tt;
    })

pub returns : goal.returns
returns g c =
    let P = g.P.Plant in
    let C = g.C.Copying in
    let x = parts_of c.args.complex.now in
    let z = parts_of c.play_batch.new.complex in
    let m = c.args.member.now in
    let n = c.play_batch.new.member in
    let h = c.args.holder in
    let lines = c.args.lines.now in
    let e = c.play_batch.ensures in
    let k = c.in_ok-play_batch.ensures in
    let kept : Kept P C x z m n = assumption (e, k, k.notes.own c.requires.may.gives.still.noted, k.step.course.goes, k.step.journal) in
    let tables = ap (λ (t : Tables). t.order) e.tables in
    record {
      frame = sat_frame x z e.book e.base e.since e.renewals;
      id = e.id;
      tables = e.tables;
      sat = sat_step P m.id h c.requires.may.holder c.args.next lines x z m.batch c.requires.may.some k.notes.others (Ok _)
          (ends_of h m.batch c.args.next lines c.len-given.result c.release_of-release.result c.len-given.ensures c.release_of-release.ensures) k.step k.counts;
      again = record { sits = left_kept P C x z m n kept _ (Ok tt) h.step c.requires.may.gives c.args.next lines c.requires.quiet k.step.console; grown = record { order = omega (arith, tables); high = k.level; reached = k.reached } };
    }
