use Rattle.std.proofs.Common.{◌<◌, ◌-◌}
use Rattle.mas_types.specs.Limits.{page_bytes}
use Rattle.spool_text.proofs.GroupSteps.{Pushed}
use Rattle.spool_text.proofs.unpacking.push_records.Given as goal

-- the records so far are added
abbrev pub invariant-loop-at : goal.invariant-loop-at
invariant-loop-at l = record {
  within : l.at < page_bytes;
  pushed : Pushed l.group l.at l.fn.into l.into;
}

abbrev pub decreases-loop-at : goal.decreases-loop-at
decreases-loop-at l = page_bytes - l.at
