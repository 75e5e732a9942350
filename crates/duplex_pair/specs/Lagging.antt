-- What a copy reads that lags behind, or doesn't.
use Rattle.std.specs.Prelude.{◌≡◌, ℕ, ◌<◌, nat_lt, if◌then◌else◌, Some, List, slice_get}
use Rattle.mas_types.specs.Limits.{pages_most}
use Rattle.spool_plant.specs.View.{Disk}
use Rattle.ckpt_copy.specs.Pages.{bytes_of, level}
use Rattle.duplex_pair.specs.declared.errors.Look.{Look}
use Rattle.duplex_pair.specs.declared.errors.Look.TheVariants.{Lost, Unread, Pages}

-- each number of a page at its place
abbrev pub AreNumbers : List ℕ → Type 0
AreNumbers numbers = (p : ℕ) → p < pages_most → slice_get numbers p ≡ Some p

-- the level that a look found
abbrev pub IsLevelFound : Look → ℕ → Type 0
IsLevelFound Lost found = Unit {0}
IsLevelFound Unread found = Unit {0}
IsLevelFound (Pages pages) found = found ≡ level (bytes_of pages)

-- A copy at rest with pages of the level that was found on it: these pages, or ones of a lower level.
pub record Lags {C : Type 0} (rests : C → List ℕ → Disk → Type 0) (copy : C) (found : ℕ) (was pages : List ℕ)
    (disk : Disk) : Type 0 where
  pub rest : rests copy was disk
  pub at : level was ≡ found
  pub same : found ≡ level pages → was ≡ pages

-- the puts possible after a mend
abbrev pub room_mended : (ℕ → ℕ) → ℕ → ℕ → ℕ → ℕ
room_mended after found reached room = if nat_lt found reached then after room else room
