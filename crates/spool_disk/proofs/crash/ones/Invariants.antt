use Rattle.std.proofs.Common.{◌≡◌, ℕ, ◌≤◌, ◌<◌, slice_index}
use Rattle.spool_disk.proofs.crash.ones.Given as goal

abbrev pub invariant-loop-i : goal.invariant-loop-i
invariant-loop-i l = record {
  inside : (k : ℕ) → l.at ≤ k → k < l.i → slice_index l.disk k ≡ 255;
  below : (k : ℕ) → k < l.at → slice_index l.disk k ≡ slice_index l.initial.disk k;
  above : (k : ℕ) → l.i ≤ k → slice_index l.disk k ≡ slice_index l.initial.disk k;
}
