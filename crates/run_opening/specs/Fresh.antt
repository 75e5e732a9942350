-- The members of a run as it begins.
use Rattle.std.specs.Prelude.{◌≡◌, ℕ, ◌+◌, true, List, [], ◌∷◌, length}
use Rattle.mas_types.specs.declared.queues.Config.{Config}
use Rattle.ckpt_tables.specs.Shape.{page_count}
use Rattle.member_node.specs.declared.member.Member.{Member}
use Rattle.member_quiet.specs.Quiet.{IsIdle}

-- a member of this number that has done nothing
pub record IsFresh (of : Config) (at : ℕ) (m : Member) : Type 0 where
  pub id : m.id ≡ record { 0 = at }
  pub idle : IsIdle m
  pub fresh : m.fresh ≡ true
  pub config : m.checkpoint.tables.config ≡ of
  pub many : length m.room ≡ page_count of

-- members from this number on
abbrev pub AreFreshFrom : Config → ℕ → List Member → Type 0
AreFreshFrom config at [] = Unit {0}
AreFreshFrom config at (m ∷ ms) = IsFresh config at m × AreFreshFrom config (at + 1) ms

-- each member of the configuration
pub record AreFresh (config : Config) (ms : List Member) : Type 0 where
  pub many : length ms ≡ config.members
  pub each : AreFreshFrom config 1 ms
