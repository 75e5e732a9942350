-- Reads and syncs leave what stands on the device.
use Rattle.std.proofs.Common.{List, ℕ, length, ◌∙◌, ap}
use Rattle.spool_plant.specs.View.{Disk, IsImage, slice}
use Rattle.ckpt_copy.specs.Changes.{NoMore}

-- each image is one of before
pub no_more_image : (old new : Disk) (image : List ℕ) → NoMore old new → IsImage new image → IsImage old image
no_more_image old new image stays is = record {
  there = stays.there is.there;
  size = is.size ∙ ap length stays.bytes;
  synced = λ s avoids. is.synced s (stays.unsynced s avoids) ∙ ap (slice s.from s.len) stays.bytes;
}
