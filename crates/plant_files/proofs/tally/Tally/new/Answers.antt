use Rattle.std.proofs.Common.{refl, ap, ◌∙◌, List}
use Rattle.spool_disk.specs.declared.health.Health.{Health}
use Rattle.spool_disk.specs.Health.{health_at}
use Rattle.spool_disk.specs.Places.{slot_of, place_of}
use Rattle.spool_disk.proofs.Restart.{zeros_at}
use Rattle.plant_files.proofs.Counting.{no_faults}
use Rattle.plant_files.proofs.tally.Tally.new.Goals as goal

pub returns : goal.returns
returns c = record {
  now = refl;
  faults = λ p. ap (λ (l : List Health). (health_at l (place_of p)).faults) (c.in_ok-new.ensures.parts ∙ c.in_ok-parts_by.ensures) ∙ no_faults c.args.lost.now (place_of p);
  stops = λ m. zeros_at 256 m c.in_ok-new.field-0.stops.items c.in_ok-new.ensures.stops;
  loses = λ d. zeros_at 258 (slot_of d) c.in_ok-new.field-0.loses.items c.in_ok-new.ensures.loses;
  arms = λ m. zeros_at 256 m c.in_ok-new.field-0.arms.items c.in_ok-new.ensures.arms;
  halt = refl;
}

pub invariant_of-result : goal.invariant_of-result
invariant_of-result c = record { unstopped = λ m. zeros_at 256 m c.in_ok-new.field-0.stops.items c.in_ok-new.ensures.stops }
