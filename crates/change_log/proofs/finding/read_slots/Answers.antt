use Rattle.std.proofs.Common.{◌≡◌, ℕ, ◌<◌, ◌≤◌, All, Option, List, length, take, false, refl, sym, ◌∙◌, ap, subst, arith}
use Rattle.spool_plant.specs.View.{Disk, disk_now}
use Rattle.ckpt_copy.specs.Changes.{NoMore}
use Rattle.ckpt_copy.specs.Moments.{meanwhile_none}
use Rattle.ckpt_copy.proofs.Causing.{caused_then, caused_none}
use Rattle.ckpt_copy.proofs.Calm.{calm_on}
use Rattle.change_log.specs.declared.directory.Listed.{Listed}
use Rattle.change_log.specs.Directories.{is_directory}
use Rattle.change_log.specs.Listings.{Lists, IsListing}
use Rattle.change_log.specs.Logs.{slots, block}
use Rattle.change_log.specs.LogFound.{ArePlacedUp}
use Rattle.change_log.proofs.Filling.{directory_rise, laid_inside}
use Rattle.change_log.proofs.Gates.{home_inside}
use Rattle.change_log.proofs.LogFinds.{gate_read, slot_closed, slot_open, slot_unread, listing_few, listing_length}
use Rattle.change_log.proofs.finding.read_slots.Goals as goal

pub loop-slot-init : goal.loop-slot-init
loop-slot-init g c = record {
  cause = caused_none _ _ _;
  there = λ was. was;
  during = λ told. meanwhile_none c.args.dev (NoMore (disk_now (g.P.Plant.view c.args.plant.now) c.args.dev)) _ (record { bytes = refl; unsynced = λ s avoids. avoids; there = λ t. t });
  same = λ told. refl;
  inside = home_inside c.args.head.now.pages c.home_places-places.result c.requires.ready.few c.home_places-places.ensures;
  placed = λ told gates. record { listed = refl; placed = λ p lt. c.home_places-places.ensures p (omega (arith, lt, c.requires.ready.few)) };
}

pub loop-slot-preserved-then-not-head-slot : goal.loop-slot-preserved-then-not-head-slot
loop-slot-preserved-then-not-head-slot g c =
    let now = c.loop-slot.invariant in
    let bytes = (disk_now (g.P.Plant.view c.args.plant.now) c.args.dev).bytes in
    record {
      cause = now.cause;
      there = now.there;
      during = now.during;
      same = now.same;
      inside = now.inside;
      placed = λ told gates. slot_closed c.args.head.now.pages c.loop-slot.slot c.loop-slot.places bytes
          (sym (gate_read c.args.head.now.gates bytes c.loop-slot.slot _ c.loop-slot-test.true gates) ∙ c.if-not-head-slot.true) (now.placed told gates);
    }

pub read_block-requires : goal.read_block-requires
read_block-requires g c =
    let rise = directory_rise c.args.head.now.pages c.loop-slot.slot slots c.loop-slot-test.true in
    omega (arith, rise, c.directory_place-first.ensures, c.requires.ready.large, c.loop-slot.invariant.cause.goes.size c.args.dev)

pub returns-in_err-block-clause-during : goal.returns-in_err-block-clause-during
returns-in_err-block-clause-during g c told = calm_on _ _ _ _ (c.loop-slot.invariant.during told) (c.read_block.ensures.during told)

pub lay_images-requires-clause-inside : goal.lay_images-requires-clause-inside
lay_images-requires-clause-inside g c k d lt =
    let n = c.args.head.now.pages in
    let lists : Lists c.in-Some.listed n c.in_ok-block.block.0 = subst (λ (o : Option Listed). IsListing o n c.in_ok-block.block.0) c.in-Some.is c.read_directory.ensures in
    let below = subst (λ (l : List ℕ). All (λ p. p < n) l) (sym lists.numbers) (listing_few n c.in_ok-block.block.0 lists.spelled).1 in
    omega (arith, below k d lt, c.requires.ready.few)

pub lay_images-requires-clause-few : goal.lay_images-requires-clause-few
lay_images-requires-clause-few g c =
    let n = c.args.head.now.pages in
    let lists : Lists c.in-Some.listed n c.in_ok-block.block.0 = subst (λ (o : Option Listed). IsListing o n c.in_ok-block.block.0) c.in-Some.is c.read_directory.ensures in
    let few = listing_length n c.in_ok-block.block.0 lists.spelled in
    let many = ap (λ (l : List ℕ). length l) lists.numbers in
    let rise = directory_rise n c.loop-slot.slot slots c.loop-slot-test.true in
    omega (arith, few, many, rise, c.image_place-images.ensures, c.requires.ready.few)

pub loop-slot-preserved : goal.loop-slot-preserved
loop-slot-preserved g c =
    let now = c.loop-slot.invariant in
    let n = c.args.head.now.pages in
    let inside = c.loop-slot-test.true in
    let bytes = (disk_now (g.P.Plant.view c.args.plant.now) c.args.dev).bytes in
    let lists : Lists c.in-Some.listed n c.in_ok-block.block.0 = subst (λ (o : Option Listed). IsListing o n c.in_ok-block.block.0) c.in-Some.is c.read_directory.ensures in
    let many = ap (λ (l : List ℕ). length l) lists.numbers in
    let most = listing_length n c.in_ok-block.block.0 lists.spelled in
    let numbers = take c.in-Some.listed.count c.in-Some.listed.numbers in
    let few : length (take c.in-Some.listed.count c.in-Some.listed.numbers) ≤ n = omega (arith, many, most) in
    record {
      cause = caused_then _ _ _ _ _ _ now.cause c.in_ok-block.ensures.cause;
      there = λ was. c.in_ok-block.ensures.there;
      during = λ told. calm_on _ _ _ _ (now.during told) (c.read_block.ensures.during told);
      same = λ told. c.in_ok-block.ensures.same told ∙ now.same told;
      inside = laid_inside n c.loop-slot.slot c.image_place-images.result numbers c.loop-slot.places c.lay_images.new.places inside c.image_place-images.ensures few c.lay_images.ensures now.inside;
      placed = λ told gates. slot_open n c.loop-slot.slot c.directory_place-first.result c.image_place-images.result c.loop-slot.places c.lay_images.new.places c.in_ok-block.block.0 numbers bytes
          (sym (gate_read c.args.head.now.gates bytes c.loop-slot.slot _ inside gates) ∙ c.if-not-head-slot.false) c.directory_place-first.ensures c.image_place-images.ensures
          (c.in_ok-block.ensures.page told ∙ ap (λ (d : Disk). block c.directory_place-first.result d.bytes) (now.same told)) lists.spelled lists.numbers c.lay_images.ensures (now.placed told gates);
    }

pub returns-in_default-clause-during : goal.returns-in_default-clause-during
returns-in_default-clause-during g c told = calm_on _ _ _ _ (c.loop-slot.invariant.during told) (c.read_block.ensures.during told)

pub returns-in_default-clause-placed : goal.returns-in_default-clause-placed
returns-in_default-clause-placed g c told gates =
    let n = c.args.head.now.pages in
    let bytes = (disk_now (g.P.Plant.view c.args.plant.now) c.args.dev).bytes in
    let none : is_directory n c.in_ok-block.block.0 ≡ false = subst (λ (o : Option Listed). IsListing o n c.in_ok-block.block.0) c.in_default.is c.read_directory.ensures in
    slot_unread n c.loop-slot.slot c.directory_place-first.result c.in_ok-block.block.0 bytes c.loop-slot-test.true
    (sym (gate_read c.args.head.now.gates bytes c.loop-slot.slot _ c.loop-slot-test.true gates) ∙ c.if-not-head-slot.false) c.directory_place-first.ensures
    (c.in_ok-block.ensures.page told ∙ ap (λ (d : Disk). block c.directory_place-first.result d.bytes) (c.loop-slot.invariant.same told)) none

pub returns-clause-placed : goal.returns-clause-placed
returns-clause-placed g c told gates =
    let last : c.loop-slot.slot ≡ slots = omega (arith, c.loop-slot-test.false, c.loop-slot.auto.slot-end) in
    let up = subst (λ (s : ℕ). ArePlacedUp c.args.head.now.pages s c.loop-slot.places (disk_now (g.P.Plant.view c.args.plant.now) c.args.dev).bytes) last (c.loop-slot.invariant.placed told gates) in
    record { listed = up.listed; placed = up.placed }
