-- One act more in a record.
use Rattle.std.specs.Prelude.{◌≡◌, ℕ, ◌+◌, [], ◌∷◌, ◌++◌, length}
use Rattle.spool_disk.specs.declared.record.Record.{Record}
use Rattle.spool_disk.specs.Deeds.{Deed}
use Rattle.spool_disk.specs.Entries.{deeds_of}

-- a record with an act more, which took so many bytes
pub record Added (deed : Deed) (bytes : ℕ) (old new : Record) : Type 0 where
  pub base : new.base ≡ old.base
  pub deeds : deeds_of new.log.items new.arena.items ≡ deeds_of old.log.items old.arena.items ++ deed ∷ []
  pub longer : length new.log.items ≡ length old.log.items + 1
  pub more : length new.arena.items ≡ length old.arena.items + bytes
  pub acts : new.acts ≡ old.acts
  pub room : new.room ≡ old.room
