use Rattle.std.proofs.Common.{◌≡◌, ℕ, ◌≤◌, length, drop, get_or}
use Rattle.queue_slots.specs.Keys.{class_key}
use Rattle.queue_slots.proofs.classes.class_keys.Given as goal

-- the keys of the classes from a place on
abbrev pub invariant-loop-at : goal.invariant-loop-at
invariant-loop-at l = record {
  within : l.at ≤ length l.classes;
  wide : length l.keys ≡ 256;
  keys : (c : ℕ) → get_or l.keys c 0 ≡ class_key (drop l.at l.classes) c;
}

abbrev pub decreases-loop-at : goal.decreases-loop-at
decreases-loop-at l = l.at
