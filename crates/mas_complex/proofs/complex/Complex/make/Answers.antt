use Rattle.mas_complex.proofs.Answering.{None, sym, Before, setting, copy_of, Disk as DiskPart, disk_now, Spool, ap, false, true, ◌≡◌, pick, is_open, BeginsWith, nobody_later, stays_true, first_reads, leaves_base, make_keeps, none_yet, placed_copy, makes_paper, each, pick_same, laws_of, ∥∥₁_map}
use Rattle.mas_complex.proofs.complex.Complex.make.Goals as goal

pub invariant_of-result-clause-kept : goal.invariant_of-result-clause-kept
invariant_of-result-clause-kept g c told =
    let s = c.args in
    let C = g.C.Copying in
    let v = g.P.Plant.view s.plant in
    ∥∥₁_map (c.requires.begins told) (λ begins.
    let b : BeginsWith (setting C.reads s.base c.moment_of-since.result) s.level (λ d. copy_of C.rests C.holds (pick d s.pair.first s.pair.second) Before) v = rw (c.moment_of-since.ensures.now) begins in
    rw (c.new-2.ensures, c.no_renewals.ensures, c.none_noted-had.ensures) (make_keeps (setting C.reads s.base c.moment_of-since.result) s.level (λ d. copy_of C.rests C.holds (pick d s.pair.first s.pair.second) Before) v
    (λ d. (laws_of g.world g.met.P.Plant g.met.C.Steady g.met.C.Copying).reads (pick d s.pair.first s.pair.second) Before) none_yet c.moment_of-since.ensures.now
    (λ n lost. stays_true (v.lost (DiskPart (Spool n))) (disk_now v (Spool n)).lost (g.met.P.Plant.there s.plant told (Spool n)) lost) (nobody_later _) b (λ d. copy_of C.rests C.holds (pick d s.pair.first s.pair.second) (pick d Before Before))
    (λ d ckpt. placed_copy (setting C.reads s.base c.moment_of-since.result) b.pages None d (copy_of C.rests C.holds (pick d s.pair.first s.pair.second) Before) (pick d Before Before) v (λ _. sym (pick_same d Before)) (b.at d ckpt))))

pub returns-clause-fresh : goal.returns-clause-fresh
returns-clause-fresh g c told =
    let s = c.args in
    let C = g.C.Copying in
    let v = g.P.Plant.view s.plant in
    ∥∥₁_map (c.requires.begins told) (λ begins later goes. leaves_base C.reads s.base v.now s.level begins.pages v later begins.stands
    (λ d ckpt. first_reads (setting C.reads s.base v.now) begins.pages None d (copy_of C.rests C.holds (pick d s.pair.first s.pair.second) Before) v later ((laws_of g.world g.met.P.Plant g.met.C.Steady g.met.C.Copying).reads (pick d s.pair.first s.pair.second) Before)
    (ap is_open (none_yet d)) c.moment_of-since.ensures.most goes (begins.at d ckpt) (each (λ d. (pick d s.pair.first s.pair.second).alive ≡ false → v.lost (DiskPart d) ≡ true) c.requires.lost1 c.requires.lost2 d ckpt)))

pub invariant_of-result-clause-paper : goal.invariant_of-result-clause-paper
invariant_of-result-clause-paper g c told sound =
    rw (c.new-2.ensures) (∣ makes_paper c.args.base c.moment_of-since.result c.new_book_of-book.result (g.P.Plant.view c.args.plant) c.moment_of-since.ensures.now ∣₁)
