use Rattle.std.proofs.Common.{◌≡◌, ◌≤◌, ◌-◌, ◌+◌, drop}
use Rattle.std.specs.Prelude.{option_map}
use Rattle.mas_types.specs.Limits.{page_bytes}
use Rattle.mas_types.specs.Records.{records_in}
use Rattle.brief_queue.specs.Records.{count_of}
use Rattle.spool_text.proofs.unpacking.count_in.Given as goal

-- so many records stand before, and the others from here on
abbrev pub invariant-loop-at : goal.invariant-loop-at
invariant-loop-at l = record {
  within : l.at ≤ page_bytes;
  few : l.count ≤ l.at;
  same : option_map (λ n. l.count + n) (count_of (records_in (drop l.at l.group))) ≡ count_of (records_in l.group);
}

abbrev pub decreases-loop-at : goal.decreases-loop-at
decreases-loop-at l = page_bytes - l.at
