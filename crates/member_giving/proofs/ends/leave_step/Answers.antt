use Rattle.member_giving.proofs.Cuts.{of_batch, starts_cut}
use Rattle.member_giving.proofs.Going.{played_end, played_error}
use Rattle.member_giving.proofs.Working.{own_batch}
use Rattle.member_giving.proofs.ends.leave_step.Goals as goal
use Rattle.member_giving.proofs.Names.{◌≡◌, refl, err_from_is_err_and, wrote_of, outside, place_of, batch_of, leaves, [], Ok, counted_ok, all_entries}

pub returns-in_err-keep : goal.returns-in_err-keep
returns-in_err-keep g c =
    let x = c.args.complex.now in
    let m = c.args.member.now in
    let h = c.args.holder in
    let w = wrote_of m.batch (leaves c.args.next) in
    let q = err_from_is_err_and c.from_residual.result c.from_residual.ensures.1 in
    let played = played_error g.P.Plant.tells h (λ x. x ≡ wrote_of m.batch (leaves c.args.next)) c.args.given {S = Unit {0}} _ w w (batch_of m.batch) (place_of x m) (outside c.keep.new.complex) (λ t. refl) (of_batch h.by h.step m.batch (own_batch x m h c.requires.works)) refl (starts_cut m.batch []) c.keep.ensures.spares c.in_err-keep.ensures.keeps c.in_err-keep.ensures.counts in
    rw (q.1, q.2) (assumption (c.keep.ensures.run, c.keep.ensures.tables, played))

pub returns : goal.returns
returns g c =
    let x = c.args.complex.now in
    let m = c.args.member.now in
    let h = c.args.holder in
    let o = c.in_ok-keep.ensures in
    record {
      run = c.keep.ensures.run;
      played = played_end g.P.Plant.tells h (λ x. x ≡ wrote_of m.batch (leaves c.args.next)) c.args.given c.args.next [] (place_of x m) (outside c.keep.new.complex) (Ok _) (refl, refl, c.release_of-release.ensures) (own_batch x m h c.requires.works) refl c.keep.ensures.spares o.keeps.closes (counted_ok h.by (all_entries (batch_of m.batch)) x.printed c.keep.new.complex.printed _ _ o.counts);
      tables = c.keep.ensures.tables;
      next = refl;
      nothing = o.left;
      works = o.works;
      queue = o.queue;
      reached = o.reached;
    }
