-- A job's outputs in groups on the spool volumes.
use Rattle.member_work.specs.Names.{GroupNo, OutSpec, Whole, groups_needed, IsThere, Spools, StandBelow}
use Rattle.std.specs.Prelude.{ℕ, List, [], ◌∷◌, drop, take}
use Rattle.spool_text.specs.Texts.{packed}

-- the outputs' texts stand in their shares of the groups
abbrev pub AreSpooled : Spools → ℕ → List OutSpec → List GroupNo → Type 0
AreSpooled disks per [] groups = Unit {0}
AreSpooled disks per (s ∷ specs) groups = IsThere disks per (Whole s.text) (take (groups_needed s.text) groups)
    × AreSpooled disks per specs (drop (groups_needed s.text) groups)

-- the pages of the outputs' texts stand in their shares of the groups, synced or not
abbrev pub AreWritten : Spools → ℕ → List OutSpec → List GroupNo → Type 0
AreWritten disks per [] groups = Unit {0}
AreWritten disks per (s ∷ specs) groups =
    StandBelow (groups_needed s.text) disks per (packed s.text) (take (groups_needed s.text) groups)
    × AreWritten disks per specs (drop (groups_needed s.text) groups)
