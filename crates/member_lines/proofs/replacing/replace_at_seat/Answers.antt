use Rattle.std.proofs.Common.{◌≡◌, ◌≤◌, ◌∙◌, ℕ, Bool, ap, length, subst, sym}
use Rattle.ckpt_tables.specs.Shape.{page_count}
use Rattle.duplex_pair.specs.Halves.{pick}
use Rattle.mas_complex.specs.Replacing.{IsFormed, replace_stopped}
use Rattle.mas_complex.specs.Parts.{parts_of}
use Rattle.member_node.specs.Reads.{pages_had}
use Rattle.member_node.proofs.ReplaceLemmas.{on_ok}
use Rattle.member_lines.proofs.Renewing.{picked, renewed_rest, seat_stays}
use Rattle.member_lines.proofs.replacing.replace_at_seat.Goals as goal

pub replace-requires-clause-rests1 : goal.replace-requires-clause-rests1
replace-requires-clause-rests1 g c = let still = c.requires.seat.still in rw still.here still.first

pub replace-requires-clause-rests2 : goal.replace-requires-clause-rests2
replace-requires-clause-rests2 g c = let still = c.requires.seat.still in rw still.here still.second

pub replace-requires-clause-size : goal.replace-requires-clause-size
replace-requires-clause-size g c =
    let m = c.args.member.now in
    let x = c.args.complex.now in
    let s = c.requires.seat in
    let many : length (pages_had m.behind m.room m.checkpoint.pages) ≡ page_count x.base.config =
    ap (λ (b : Bool). length (pages_had b m.room m.checkpoint.pages)) s.still.here ∙ s.between.drawn.spelled.count ∙ sym (ap page_count s.still.config) in
    subst (λ (n : ℕ). g.C.Copying.needs n ≤ (g.P.Plant.view x.plant).size c.args.dev) (sym many) c.requires.size

pub returns : goal.returns
returns g c =
    let P = g.P.Plant in
    let C = g.C.Copying in
    let m = c.args.member.now in
    let x = c.args.complex.now in
    let z = c.replace.new.complex in
    let r = c.replace.result in
    let e = c.replace.ensures in
    let dev = c.args.dev in
    let s = c.requires.seat in
    record {
      frame = e.frame;
      replaces = e.replaces;
      alive = λ on. e.alive (picked (λ h. h.alive) dev x.pair.first x.pair.second ∙ on);
      not_lost = λ is. sym (picked (λ h. h.alive) dev x.pair.first x.pair.second) ∙ e.not_lost is;
      dead = e.dead;
      both = e.both;
      failed = e.failed;
      lost = e.lost;
      good = on_ok r (λ f. sym (picked (λ h. h.alive) dev z.pair.first z.pair.second) ∙ f.0) e.formed;
      formed = on_ok r
          (λ f. subst (λ k. IsFormed C.count C.room C.room_most C.ready (length m.checkpoint.pages) dev (P.view z.plant) k) (picked (λ h. h.copy) dev z.pair.first z.pair.second)
          (subst (λ (b : Bool). IsFormed C.count C.room C.room_most C.ready (length (pages_had b m.room m.checkpoint.pages)) dev (P.view z.plant) (pick dev z.pair.first z.pair.second).copy) s.still.here f.1))
          e.formed;
      elsewhere = e.elsewhere;
      seat = seat_stays P C m.id.0 m dev c.requires.ckpt (replace_stopped r) (parts_of x) (parts_of z)
          (renewed_rest r dev (P.view x.plant).now (P.view z.plant).now (parts_of z) (parts_of x) e.frame) e.replaces s (rw s.still.here at e.rests1) (rw s.still.here at e.rests2);
    }
