-- Stops that are armed, for each member.
use Rattle.std.specs.Prelude.{ℕ, ◌-◌, min, nat_lt, ◌==◌, ◌&&◌, ◌||◌, if◌then◌else◌, Bool, List, replicate, slice_index, slice_set}
use Rattle.spool_plant.specs.declared.plant.Fuse.{Fuse}
use Rattle.spool_plant.specs.declared.plant.Fuse.TheVariants.{Any, Print}

-- By the member's number, how many acts it makes from now up to the one that halts, and how many prints; 0 where none
-- is armed.
pub record Armed : Type 0 where
  pub acts : List ℕ
  pub prints : List ℕ

abbrev pub none_armed : Armed
none_armed = record { acts = replicate 256 0; prints = replicate 256 0 }

-- the next act of a member halts, if it prints or if it doesn't
abbrev pub halts_next : Armed → ℕ → Bool → Bool
halts_next a by prints = (slice_index a.acts by == 1) || (prints && (slice_index a.prints by == 1))

-- the next act of a member halts, and the member isn't the operator
abbrev pub to_halt : Armed → ℕ → Bool → Bool
to_halt a by prints = nat_lt 0 by && halts_next a by prints

abbrev pub one_less : List ℕ → ℕ → List ℕ
one_less counts by = slice_set counts by (slice_index counts by - 1)

-- a member makes an act
abbrev pub burnt : Armed → ℕ → Bool → Armed
burnt a by prints = record { acts = one_less a.acts by; prints = if prints then one_less a.prints by else a.prints }

-- the sooner of two stops, where 0 is none
abbrev pub sooner : ℕ → ℕ → ℕ
sooner m n = if m == 0 then n else (if n == 0 then m else min m n)

abbrev pub sooner_at : List ℕ → ℕ → ℕ → List ℕ
sooner_at counts by n = slice_set counts by (sooner (slice_index counts by) n)

-- the n-th act of a member from now, or its n-th print, is to halt. Of two stops of a kind the sooner one stays
abbrev pub with_fuse : Armed → ℕ → Fuse → ℕ → Armed
with_fuse a member Any n = record { acts = sooner_at a.acts member n; prints = a.prints }
with_fuse a member Print n = record { acts = a.acts; prints = sooner_at a.prints member n }
