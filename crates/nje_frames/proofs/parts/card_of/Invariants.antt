use Rattle.std.proofs.Common.{◌≡◌, ◌-◌, ◌≤◌, take, drop}
use Rattle.nje_frames.specs.Reading.{card_at, with_bytes}
use Rattle.nje_frames.proofs.parts.card_of.Given as goal

abbrev pub invariant-loop-at : goal.invariant-loop-at
invariant-loop-at l = record {
  few : l.at ≤ 80;
  same : with_bytes (take l.at l.bytes) (card_at (80 - l.at) (drop l.at l.bytes)) ≡ card_at 80 l.bytes;
}
