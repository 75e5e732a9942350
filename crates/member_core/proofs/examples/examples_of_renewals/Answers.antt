use Rattle.member_core.proofs.Computed.{renewed_copy_is_read, batch_keeps_from_renewing, nothing_renews_both_copies}
use Rattle.member_core.proofs.examples.examples_of_renewals.Goals as goal

pub returns : goal.returns
returns c = record {
  renewed = renewed_copy_is_read;
  batch = batch_keeps_from_renewing;
  both = nothing_renews_both_copies;
}
