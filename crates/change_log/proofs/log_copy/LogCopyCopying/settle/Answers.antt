use Rattle.std.proofs.Common.{ℕ, [], refl, sym, subst, arith}
use Rattle.spool_plant.specs.View.{disk_now}
use Rattle.ckpt_copy.specs.Pages.{bytes_of}
use Rattle.change_log.specs.LogStates.{IsReady, Stands}
use Rattle.change_log.specs.LogRests.{Rests}
use Rattle.change_log.proofs.Gates.{rests_home_alone, home_inside}
use Rattle.change_log.proofs.log_copy.LogCopyCopying.settle.Goals as goal

pub settle_slots-requires-clause-few : goal.settle_slots-requires-clause-few
settle_slots-requires-clause-few g c = omega (arith, c.requires.as_many, c.requires.ready.ready.few)

pub settle_slots-requires-clause-size : goal.settle_slots-requires-clause-size
settle_slots-requires-clause-size g c = omega (arith, c.requires.as_many, c.requires.ready.ready.large)

pub returns-in_err-settle_slots-clause-during : goal.returns-in_err-settle_slots-clause-during
returns-in_err-settle_slots-clause-during g c told rests =
    let s = c.args.self.now in
    c.settle_slots.ensures.during told
    (subst (λ (n : ℕ). Rests n s.gates s.places (bytes_of c.args.pages.now) (disk_now (g.P.Plant.view c.args.plant.now) s.dev)) (sym c.requires.as_many) rests)

pub returns-clause-during : goal.returns-clause-during
returns-clause-during g c told rests =
    let s = c.args.self.now in
    c.settle_slots.ensures.during told
    (subst (λ (n : ℕ). Rests n s.gates s.places (bytes_of c.args.pages.now) (disk_now (g.P.Plant.view c.args.plant.now) s.dev)) (sym c.requires.as_many) rests)

pub returns-clause-settled : goal.returns-clause-settled
returns-clause-settled g c told rests =
    let s = c.args.self.now in
    let disk = disk_now (g.P.Plant.view c.settle_slots.new.plant) s.dev in
    rests_home_alone s.pages _ c.home_places-self.result (bytes_of c.args.pages.now) disk refl c.requires.ready.ready.few c.home_places-self.ensures
    (subst (λ (n : ℕ). Stands n (λ i. []) (bytes_of c.args.pages.now) disk) c.requires.as_many
    (c.in_ok-settle_slots.ensures.settled told
    (subst (λ (n : ℕ). Rests n s.gates s.places (bytes_of c.args.pages.now) (disk_now (g.P.Plant.view c.args.plant.now) s.dev)) (sym c.requires.as_many) rests)))

pub returns-clause-ready : goal.returns-clause-ready
returns-clause-ready g c =
    let s = c.args.self.now in
    let kept = c.requires.ready in
    record {
      ready = subst (λ (k : ℕ). IsReady s.pages k) (sym (c.settle_slots.ensures.cause.goes.size s.dev)) kept.ready;
      four = refl;
      inside = home_inside s.pages c.home_places-self.result kept.ready.few c.home_places-self.ensures;
      next_inside = kept.next_inside;
    }
