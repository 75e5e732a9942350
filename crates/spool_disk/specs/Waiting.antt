-- What waits on each wire.
use Rattle.std.specs.Prelude.{ℕ, List, drop, slice_index}
use Rattle.spool_disk.specs.declared.incoming.Incoming.{Incoming}
use Rattle.spool_disk.specs.Standing.{bytes_at}

-- the bytes that came on a wire and weren't taken yet
abbrev pub waiting_on : Incoming → ℕ → List ℕ
waiting_on i wire = drop (slice_index i.taken.items wire) (bytes_at i.came.items wire)
