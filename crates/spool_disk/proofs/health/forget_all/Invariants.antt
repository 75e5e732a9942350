use Rattle.std.proofs.Common.{◌≡◌, ◌-◌, ℕ, length, drop}
use Rattle.spool_disk.specs.Health.{health_at}
use Rattle.spool_disk.specs.Known.{known_health}
use Rattle.spool_disk.proofs.health.forget_all.Given as goal

abbrev pub invariant-loop-back : goal.invariant-loop-back
invariant-loop-back l = record {
  many : length l.parts ≡ 1032;
  each : (place : ℕ) → health_at l.parts place ≡ known_health place (drop (length l.later - l.back) l.later) (health_at l.initial.parts place);
}
