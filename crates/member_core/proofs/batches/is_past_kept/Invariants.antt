use Rattle.std.proofs.Common.{◌≡◌, nat_lt, length, drop}
use Rattle.member_core.specs.Worlds.{kept_in}
use Rattle.member_core.proofs.batches.is_past_kept.Given as goal

-- what is left is within the room exactly where all is within the count
abbrev pub invariant-loop-batch : goal.invariant-loop-batch
invariant-loop-batch l = nat_lt (length (kept_in (drop l.batch-index l.batch-items))) l.room ≡ nat_lt (length (kept_in l.batch-items)) l.count
