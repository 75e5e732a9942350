-- What a crash after acts leaves at a slot.
use Rattle.std.specs.Prelude.{ℕ, List}
use Rattle.spool_disk.specs.declared.base.Base.{Base}
use Rattle.spool_plant.specs.declared.choice.Choice.{Choice}
use Rattle.spool_disk.specs.Deeds.{Deed, after}
use Rattle.spool_disk.specs.Kept.{fresh}
use Rattle.spool_disk.specs.Settled.{Leaves, last_synced}

abbrev pub LeavesAt : Choice → Base → ℕ → List Deed → List ℕ → Type 0
LeavesAt choice base slot deeds image = Leaves choice (last_synced slot (fresh base slot).bytes (fresh base slot) deeds)
    (after slot (fresh base slot) deeds) image
