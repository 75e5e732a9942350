use Rattle.std.proofs.Common.{◌≡◌, ◌≤◌, ◌-◌, drop}
use Rattle.mas_types.specs.Limits.{page_bytes}
use Rattle.mas_check.proofs.CountLemmas.{counted, more}
use Rattle.mas_check.proofs.records.count_records.Given as goal

-- the records so far, and those from here on
abbrev pub invariant-loop-at : goal.invariant-loop-at
invariant-loop-at l = record {
  within : l.at ≤ page_bytes;
  few : l.count ≤ l.at;
  same : counted l.page ≡ more l.count (counted (drop l.at l.page));
}

abbrev pub decreases-loop-at : goal.decreases-loop-at
decreases-loop-at l = page_bytes - l.at
