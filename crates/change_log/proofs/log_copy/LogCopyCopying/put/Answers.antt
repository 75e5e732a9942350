use Rattle.std.proofs.Common.{ℕ, ◌+◌, ◌*◌, sym, ◌∙◌, ap, subst, arith}
use Rattle.mas_types.specs.Limits.{page_bytes}
use Rattle.spool_plant.specs.View.{disk_now}
use Rattle.ckpt_copy.specs.Changes.{Spreads}
use Rattle.ckpt_copy.specs.Meanwhile.{Meanwhile}
use Rattle.ckpt_copy.specs.Pages.{bytes_of, ArePages}
use Rattle.change_log.specs.Logs.{slots, directory_block, image_block}
use Rattle.change_log.specs.LogStates.{IsReady}
use Rattle.change_log.specs.LogRests.{SlotWritten, next_slot}
use Rattle.change_log.proofs.Directing.{pages_few}
use Rattle.change_log.proofs.Filling.{directory_rise, laid_inside}
use Rattle.change_log.proofs.Gates.{next_inside}
use Rattle.change_log.proofs.Putting.{filled_reads, filled_rests, put_moved, put_holds}
use Rattle.change_log.proofs.log_copy.LogCopyCopying.put.Goals as goal

pub write_slot-requires-clause-enough : goal.write_slot-requires-clause-enough
write_slot-requires-clause-enough g c = omega (arith, c.requires.as_many, c.requires.ready.ready.enough)

pub write_slot-requires-clause-few : goal.write_slot-requires-clause-few
write_slot-requires-clause-few g c = omega (arith, c.requires.as_many, c.requires.ready.ready.few)

pub write_slot-requires-clause-slot : goal.write_slot-requires-clause-slot
write_slot-requires-clause-slot g c =
    let inside = next_inside c.args.self.now.gates c.requires.room in omega (arith, inside, c.next_slot-slot.ensures)

pub write_slot-requires-clause-changed : goal.write_slot-requires-clause-changed
write_slot-requires-clause-changed g c = subst (λ (n : ℕ). ArePages n c.args.changed.now) (sym c.requires.as_many) c.requires.changed

pub write_slot-requires-clause-size : goal.write_slot-requires-clause-size
write_slot-requires-clause-size g c = omega (arith, c.requires.as_many, c.requires.ready.ready.large)

pub image_place-requires-clause-slot : goal.image_place-requires-clause-slot
image_place-requires-clause-slot g c =
    let inside = next_inside c.args.self.now.gates c.requires.room in omega (arith, inside, c.next_slot-slot.ensures)

pub lay_images-requires-clause-inside : goal.lay_images-requires-clause-inside
lay_images-requires-clause-inside g c k d lt = omega (arith, c.requires.changed.pages k d lt, c.requires.ready.ready.few)

pub lay_images-requires-clause-few : goal.lay_images-requires-clause-few
lay_images-requires-clause-few g c =
    let s = c.args.self.now in
    let few = pages_few s.pages c.args.changed.now c.requires.changed in
    let inside = next_inside s.gates c.requires.room in
    let rise = directory_rise s.pages c.next_slot-slot.result slots (omega (arith, inside, c.next_slot-slot.ensures)) in
    omega (arith, few, rise, c.requires.ready.ready.few, c.image_place.ensures)

pub returns-in_err-write_slot-clause-during : goal.returns-in_err-write_slot-clause-during
returns-in_err-write_slot-clause-during g c told was rests =
    let s = c.args.self.now in
    let view = g.P.Plant.view in
    filled_reads s.dev s.pages s.gates s.places was (view c.args.plant.now) (view c.write_slot.new.plant) c.requires.ready.four (next_inside s.gates c.requires.room) rests
    (subst (λ (i : ℕ). Meanwhile s.dev (Spreads (page_bytes * directory_block s.pages i) (page_bytes * (s.pages + 1)) (disk_now (view c.args.plant.now) s.dev)) (view c.args.plant.now) (view c.write_slot.new.plant)) c.next_slot-slot.ensures
    (subst (λ (n : ℕ). Meanwhile s.dev (Spreads (page_bytes * directory_block n c.next_slot-slot.result) (page_bytes * (n + 1)) (disk_now (view c.args.plant.now) s.dev)) (view c.args.plant.now) (view c.write_slot.new.plant)) c.requires.as_many
    (c.write_slot.ensures.during told)))

pub returns-clause-during : goal.returns-clause-during
returns-clause-during g c told was rests =
    let s = c.args.self.now in
    let view = g.P.Plant.view in
    filled_reads s.dev s.pages s.gates s.places was (view c.args.plant.now) (view c.write_slot.new.plant) c.requires.ready.four (next_inside s.gates c.requires.room) rests
    (subst (λ (i : ℕ). Meanwhile s.dev (Spreads (page_bytes * directory_block s.pages i) (page_bytes * (s.pages + 1)) (disk_now (view c.args.plant.now) s.dev)) (view c.args.plant.now) (view c.write_slot.new.plant)) c.next_slot-slot.ensures
    (subst (λ (n : ℕ). Meanwhile s.dev (Spreads (page_bytes * directory_block n c.next_slot-slot.result) (page_bytes * (n + 1)) (disk_now (view c.args.plant.now) s.dev)) (view c.args.plant.now) (view c.write_slot.new.plant)) c.requires.as_many
    (c.write_slot.ensures.during told)))

pub returns-clause-ready : goal.returns-clause-ready
returns-clause-ready g c =
    let s = c.args.self.now in
    let kept = c.requires.ready in
    let few = pages_few s.pages c.args.changed.now c.requires.changed in
    let inside = next_inside s.gates c.requires.room in
    record {
      ready = subst (λ (k : ℕ). IsReady s.pages k) (sym (c.write_slot.ensures.cause.goes.size s.dev)) kept.ready;
      four = kept.four;
      inside = kept.inside;
      next_inside = laid_inside s.pages c.next_slot-slot.result c.image_place.result c.args.changed.now s.places c.lay_images.new.places (omega (arith, inside, c.next_slot-slot.ensures)) c.image_place.ensures few
          c.lay_images.ensures kept.inside;
    }

pub returns-clause-written : goal.returns-clause-written
returns-clause-written g c told =
    let s = c.args.self.now in
    let disk = disk_now (g.P.Plant.view c.write_slot.new.plant) s.dev in
    subst (λ (i : ℕ). SlotWritten s.pages i c.args.changed.now (bytes_of c.args.pages.now) disk) c.next_slot-slot.ensures
    (subst (λ (n : ℕ). SlotWritten n c.next_slot-slot.result c.args.changed.now (bytes_of c.args.pages.now) disk) c.requires.as_many (c.in_ok-write_slot.ensures.written told))

pub returns-clause-held : goal.returns-clause-held
returns-clause-held g c told was rests newer covers =
    let s = c.args.self.now in
    let view = g.P.Plant.view in
    let kept = c.requires.ready in
    let disk = disk_now (view c.write_slot.new.plant) s.dev in
    put_holds s.pages s.gates s.places c.lay_images.new.places was (bytes_of c.args.pages.now) c.args.changed.now disk kept.ready.enough kept.ready.few
    (filled_rests s.dev s.pages s.gates s.places was (view c.args.plant.now) (view c.write_slot.new.plant) kept.four (next_inside s.gates c.requires.room) rests
    (subst (λ (i : ℕ). Meanwhile s.dev (Spreads (page_bytes * directory_block s.pages i) (page_bytes * (s.pages + 1)) (disk_now (view c.args.plant.now) s.dev)) (view c.args.plant.now) (view c.write_slot.new.plant)) c.next_slot-slot.ensures
    (subst (λ (n : ℕ). Meanwhile s.dev (Spreads (page_bytes * directory_block n c.next_slot-slot.result) (page_bytes * (n + 1)) (disk_now (view c.args.plant.now) s.dev)) (view c.args.plant.now) (view c.write_slot.new.plant)) c.requires.as_many
    (c.write_slot.ensures.during told))))
    (subst (λ (i : ℕ). SlotWritten s.pages i c.args.changed.now (bytes_of c.args.pages.now) disk) c.next_slot-slot.ensures
    (subst (λ (n : ℕ). SlotWritten n c.next_slot-slot.result c.args.changed.now (bytes_of c.args.pages.now) disk) c.requires.as_many (c.in_ok-write_slot.ensures.written told)))
    (c.in_ok-write_slot.ensures.sized ∙ ap (λ (n : ℕ). page_bytes * n) c.requires.as_many) c.requires.changed covers
    (put_moved s.pages (next_slot s.gates) c.image_place.result c.args.changed.now s.places c.lay_images.new.places (c.image_place.ensures ∙ ap (λ (i : ℕ). image_block s.pages i 0) c.next_slot-slot.ensures) c.lay_images.ensures)
