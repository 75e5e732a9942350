use Rattle.std.proofs.Common.{inl, arith}
use Rattle.ckpt_copy.specs.Pages.{bytes_of}
use Rattle.duplex_pair.specs.Halves.{pick}
use Rattle.duplex_pair.proofs.Mends.{put_each, mend_each, held_then}
use Rattle.duplex_pair.proofs.pair.Pair.mend_copy.Goals as goal

pub returns-in_err-put-clause-during : goal.returns-in_err-put-clause-during
returns-in_err-put-clause-during g c told was rest less =
    let s = c.args.self.now in
    put_each g.C.Copying.reads was (bytes_of c.args.pages.now) c.args.dev (g.P.Plant.view c.args.plant.now) (g.P.Plant.view c.put.new.plant) (g.P.Plant.view c.put.new.plant) (pick c.args.dev s.first s.second).alive c.requires.alive
    (c.put.ensures.during told was (λ is. rest))

pub returns-clause-during : goal.returns-clause-during
returns-clause-during g c told was rest less =
    let s = c.args.self.now in
    let m = c.put.new.self in
    mend_each g.C.Copying.reads was (bytes_of c.args.pages.now) c.args.dev (g.P.Plant.view c.args.plant.now) (g.P.Plant.view c.put.new.plant) (g.P.Plant.view c.open_copy.new.plant) (pick c.args.dev s.first s.second).alive (pick c.args.dev m.first m.second).alive c.requires.alive
    (c.put.ensures.during told was (λ is. rest))
    (c.open_copy.ensures.during told was (bytes_of c.args.pages.now) (λ is. c.in_ok-put.ensures.held told is was rest less (λ p lt. inl (c.first_numbers-all.ensures.all p (omega (arith, lt, c.requires.as_many))))))

pub returns-clause-mended : goal.returns-clause-mended
returns-clause-mended g c =
    held_then c.open_copy.result c.open_copy.ensures.opened (λ opened told is was rest less.
    opened told is was (bytes_of c.args.pages.now) (c.in_ok-put.ensures.held told (c.open_copy.ensures.acted.alive is) was rest less (λ p lt. inl (c.first_numbers-all.ensures.all p (omega (arith, lt, c.requires.as_many))))))
