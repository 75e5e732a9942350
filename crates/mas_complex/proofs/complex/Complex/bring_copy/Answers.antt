use Rattle.mas_complex.proofs.Answering.{bytes_of, values_of, page_count, HasPast, are_pages_of, of_beside, sight_at, laws_of, pasts_of, ∥∥₁_map, pair_one, pair_then, false}
use Rattle.mas_complex.proofs.complex.Complex.bring_copy.Goals as goal

pub returns-clause-leaves : goal.returns-clause-leaves
returns-clause-leaves g c =
    let P = g.P.Plant in
    let s = c.args.self.now in
    let a = c.put_on.new.self in
    let b = c.open_on.new.self in
    let dev = c.args.dev in
    pair_then (pair_one c.args.by.0 s.pair a.pair (P.view s.plant) (P.view a.plant) false dev c.requires.ckpt c.put_on.ensures.other c.in_ok-put_on.ensures.acted c.put_on.ensures.elsewhere)
    (pair_one c.args.by.0 a.pair b.pair (P.view a.plant) (P.view b.plant) _ dev c.requires.ckpt c.open_on.ensures.other c.open_on.ensures.acted c.open_on.ensures.elsewhere)

pub put_on-requires-clause-changed : goal.put_on-requires-clause-changed
put_on-requires-clause-changed g c alive = are_pages_of c.args.found.now _ _ c.requires.as_many c.requires.some c.list_found-count.ensures.listed

pub put_on-requires-clause-later : goal.put_on-requires-clause-later
put_on-requires-clause-later g c told =
    let s = c.args.self.now in
    let dev = c.args.dev in
    let v = g.P.Plant.view s.plant in
    let same = c.requires.same told c.requires.beside in
    ∥∥₁_map (s.kept told) (λ k alive. (of_beside (λ d h p. HasPast (page_count s.base.config) (values_of s.had) (sight_at s h p d v)) dev c.requires.ckpt s.pair.first s.pair.second s.first s.second (pasts_of s (laws_of g.world g.met.P.Plant g.met.C.Steady g.met.C.Copying) told k)).reads
    c.requires.beside (λ unsure. absurd (cc (same.0, unsure))) (bytes_of c.args.found.now) same.1)
