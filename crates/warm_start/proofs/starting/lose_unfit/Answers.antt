use Rattle.std.proofs.Common.{◌≡◌, ◌&&◌, not, Bool, true, false, inl, inr, ⊎_elim, refl, sym, ap, ◌∙◌}
use Rattle.mas_types.specs.declared.ids.Dev.TheVariants.{Ckpt1, Ckpt2}
use Rattle.spool_plant.specs.View.{disk_now}
use Rattle.ckpt_copy.specs.Moments.{goes_on}
use Rattle.duplex_pair.specs.Halves.{SameOrLost, IsGone}
use Rattle.duplex_pair.proofs.Composing.{both_calls, gone_stays, other_disk, ne12, ne21}
use Rattle.duplex_pair.proofs.Chosen.{alive_stays}
use Rattle.warm_start.proofs.Starts.{starts_first, starts_second, gone_lost, fits_later, stayed}
use Rattle.warm_start.proofs.starting.lose_unfit.Goals as goal

pub returns-clause-goes : goal.returns-clause-goes
returns-clause-goes g c =
    let view = g.P.Plant.view in
    goes_on (view c.args.plant.now) (view c.lose_where.new.plant) (view c.lose_where-2.new.plant) c.lose_where.ensures.lost.goes c.lose_where-2.ensures.lost.goes

pub returns-clause-starts : goal.returns-clause-starts
returns-clause-starts g c = λ old s.
    let view = g.P.Plant.view in
    let a = c.args.pair.now in
    let b = c.lose_where.new.pair in
    let d = c.lose_where-2.new.pair in
    let v = view c.args.plant.now in
    let w = view c.lose_where.new.plant in
    let new = view c.lose_where-2.new.plant in
    rw c.lose_where-2.ensures.other
    (starts_second old w new b.first.alive b.second.alive d.second.alive
    (rw c.lose_where.ensures.other (starts_first old v w a.first.alive b.first.alive a.second.alive s c.lose_where.ensures.lost))
    c.lose_where-2.ensures.lost)

pub returns-clause-gone1 : goal.returns-clause-gone1
returns-clause-gone1 g c = λ told before.
    let view = g.P.Plant.view in
    let a = c.args.pair.now in
    let b = c.lose_where.new.pair in
    let v = view c.args.plant.now in
    let w = view c.lose_where.new.plant in
    let new = view c.lose_where-2.new.plant in
    rw c.lose_where-2.ensures.other
    (gone_stays Ckpt1 Ckpt2 true b.first.alive (SameOrLost (disk_now w Ckpt2)) w new ne12
    (gone_lost Ckpt1 a.first.alive b.first.alive v w c.lose_where.ensures.lost.alive before (c.lose_where.ensures.gone told) (λ same. ap (λ p. disk_now (view p) Ckpt1) (c.lose_where.ensures.idle same)) c.lose_where.ensures.lost.goes.later)
    (c.lose_where-2.ensures.during told))

pub returns-clause-gone2 : goal.returns-clause-gone2
returns-clause-gone2 g c = λ told before.
    let view = g.P.Plant.view in
    let a = c.args.pair.now in
    let b = c.lose_where.new.pair in
    let d = c.lose_where-2.new.pair in
    let v = view c.args.plant.now in
    let w = view c.lose_where.new.plant in
    let new = view c.lose_where-2.new.plant in
    let mid : IsGone Ckpt2 true b.second.alive w = rw c.lose_where.ensures.other (gone_stays Ckpt2 Ckpt1 true a.second.alive (SameOrLost (disk_now v Ckpt1)) v w ne21 before (c.lose_where.ensures.during told)) in
    gone_lost Ckpt2 b.second.alive d.second.alive w new c.lose_where-2.ensures.lost.alive mid (c.lose_where-2.ensures.gone told) (λ same. ap (λ p. disk_now (view p) Ckpt2) (c.lose_where-2.ensures.idle same)) c.lose_where-2.ensures.lost.goes.later

pub returns-clause-during : goal.returns-clause-during
returns-clause-during g c = λ told.
    let view = g.P.Plant.view in
    let v = view c.args.plant.now in
    both_calls (SameOrLost (disk_now v Ckpt1)) SameOrLost Ckpt1 Ckpt2 v (view c.lose_where.new.plant) (view c.lose_where-2.new.plant) refl refl (c.lose_where.ensures.during told) (c.lose_where-2.ensures.during told)

pub returns-clause-fits1 : goal.returns-clause-fits1
returns-clause-fits1 g c = λ is.
    let C = g.C.Copying in
    let view = g.P.Plant.view in
    let a = c.args.pair.now in
    let b = c.lose_where.new.pair in
    let v = view c.args.plant.now in
    let w = view c.lose_where.new.plant in
    let new = view c.lose_where-2.new.plant in
    let alive : b.first.alive ≡ true = sym (ap (λ h. h.alive) c.lose_where-2.ensures.other) ∙ is in
    let stays : c.is_to_go.result ≡ false = stayed a.first.alive c.is_to_go.result b.first.alive c.lose_where.ensures.alive alive in
    let same : b.first.alive ≡ a.first.alive = alive_stays a.first.alive c.is_to_go.result b.first.alive c.lose_where.ensures.alive stays in
    let was : a.first.alive ≡ true = sym same ∙ alive in
    rw c.lose_where-2.ensures.other
    (fits_later C.count C.room C.room_most C.ready C.reads C.rests g.P.Plant.tells Ckpt1 v new a.first.copy b.first.copy a.first.alive b.first.alive a.first.found b.first.found c.args.start.now.found.pages
    c.lose_where.ensures.copy same c.lose_where.ensures.found
    (c.lose_where-2.ensures.lost.else_lost Ckpt1 (inl ne12) ∙ c.lose_where.ensures.lost.else_lost Ckpt1 (inr same))
    (λ ready. g.met.C.Copying.stays_ready a.first.copy v new (goes_on v w new c.lose_where.ensures.lost.goes c.lose_where-2.ensures.lost.goes) ready)
    (λ told. other_disk Ckpt2 Ckpt1 (SameOrLost (disk_now w Ckpt2)) w new ne12 (c.lose_where-2.ensures.during told) ∙ ap (λ p. disk_now (view p) Ckpt1) (c.lose_where.ensures.idle same))
    (c.requires.fits1 (sym c.is_to_go.ensures ∙ stays) was))

pub returns-clause-fits2 : goal.returns-clause-fits2
returns-clause-fits2 g c = λ is.
    let C = g.C.Copying in
    let view = g.P.Plant.view in
    let a = c.args.pair.now in
    let b = c.lose_where.new.pair in
    let d = c.lose_where-2.new.pair in
    let v = view c.args.plant.now in
    let w = view c.lose_where.new.plant in
    let new = view c.lose_where-2.new.plant in
    let stays : c.is_to_go-2.result ≡ false = stayed b.second.alive c.is_to_go-2.result d.second.alive c.lose_where-2.ensures.alive is in
    let same : d.second.alive ≡ b.second.alive = alive_stays b.second.alive c.is_to_go-2.result d.second.alive c.lose_where-2.ensures.alive stays in
    let before : b.second.alive ≡ a.second.alive = ap (λ h. h.alive) c.lose_where.ensures.other in
    let was : a.second.alive ≡ true = sym before ∙ sym same ∙ is in
    fits_later C.count C.room C.room_most C.ready C.reads C.rests g.P.Plant.tells Ckpt2 v new a.second.copy d.second.copy a.second.alive d.second.alive a.second.found d.second.found c.args.start.now.found.pages
    (c.lose_where-2.ensures.copy ∙ ap (λ h. h.copy) c.lose_where.ensures.other) (same ∙ before) (c.lose_where-2.ensures.found ∙ ap (λ h. h.found) c.lose_where.ensures.other)
    (c.lose_where-2.ensures.lost.else_lost Ckpt2 (inr same) ∙ c.lose_where.ensures.lost.else_lost Ckpt2 (inl ne21))
    (λ ready. g.met.C.Copying.stays_ready a.second.copy v new (goes_on v w new c.lose_where.ensures.lost.goes c.lose_where-2.ensures.lost.goes) ready)
    (λ told. ap (λ p. disk_now (view p) Ckpt2) (c.lose_where-2.ensures.idle same) ∙ other_disk Ckpt1 Ckpt2 (SameOrLost (disk_now v Ckpt1)) v w ne21 (c.lose_where.ensures.during told))
    (c.requires.fits2 (sym c.is_to_go-2.ensures ∙ stays) was)

pub returns-clause-one : goal.returns-clause-one
returns-clause-one g c =
    let a = c.args.pair.now in
    let b = c.lose_where.new.pair in
    let d = c.lose_where-2.new.pair in
    ⊎_elim
    (λ x. inl (
      ap (λ h. h.alive) c.lose_where-2.ensures.other ∙ alive_stays a.first.alive c.is_to_go.result b.first.alive c.lose_where.ensures.alive (c.is_to_go.ensures ∙ x.0) ∙ x.1.was.is_alive,
      ap (λ h. h.found) c.lose_where-2.ensures.other ∙ c.lose_where.ensures.found ∙ x.1.at,
    ))
    (λ x. inr (
      alive_stays b.second.alive c.is_to_go-2.result d.second.alive c.lose_where-2.ensures.alive (c.is_to_go-2.ensures ∙ x.0) ∙ ap (λ h. h.alive) c.lose_where.ensures.other ∙ x.1.was.is_alive,
      c.lose_where-2.ensures.found ∙ ap (λ h. h.found) c.lose_where.ensures.other ∙ x.1.at,
    ))
    c.requires.one

pub returns-clause-kept1 : goal.returns-clause-kept1
returns-clause-kept1 g c = λ stays.
    let a = c.args.pair.now in
    let b = c.lose_where.new.pair in
    let same : b.first.alive ≡ a.first.alive = alive_stays a.first.alive c.is_to_go.result b.first.alive c.lose_where.ensures.alive (c.is_to_go.ensures ∙ stays) in
    c.lose_where-2.ensures.lost.else_counted Ckpt1 (inl ne12) ∙ c.lose_where.ensures.lost.else_counted Ckpt1 (inr same)

pub returns-clause-kept2 : goal.returns-clause-kept2
returns-clause-kept2 g c = λ stays.
    let b = c.lose_where.new.pair in
    let d = c.lose_where-2.new.pair in
    let same : d.second.alive ≡ b.second.alive = alive_stays b.second.alive c.is_to_go-2.result d.second.alive c.lose_where-2.ensures.alive (c.is_to_go-2.ensures ∙ stays) in
    c.lose_where-2.ensures.lost.else_counted Ckpt2 (inr same) ∙ c.lose_where.ensures.lost.else_counted Ckpt2 (inl ne21)

pub returns-clause-dead1 : goal.returns-clause-dead1
returns-clause-dead1 g c = λ dead.
    let a = c.args.pair.now in
    let b = c.lose_where.new.pair in
    let same : b.first.alive ≡ a.first.alive = c.lose_where.ensures.alive ∙ ap (λ (x : Bool). x && not c.is_to_go.result) dead ∙ sym dead in
    c.lose_where-2.ensures.lost.else_counted Ckpt1 (inl ne12) ∙ c.lose_where.ensures.lost.else_counted Ckpt1 (inr same)

pub returns-clause-dead2 : goal.returns-clause-dead2
returns-clause-dead2 g c = λ dead.
    let b = c.lose_where.new.pair in
    let d = c.lose_where-2.new.pair in
    let was : b.second.alive ≡ false = ap (λ h. h.alive) c.lose_where.ensures.other ∙ dead in
    let same : d.second.alive ≡ b.second.alive = c.lose_where-2.ensures.alive ∙ ap (λ (x : Bool). x && not c.is_to_go-2.result) was ∙ sym was in
    c.lose_where-2.ensures.lost.else_counted Ckpt2 (inr same) ∙ c.lose_where.ensures.lost.else_counted Ckpt2 (inl ne21)
