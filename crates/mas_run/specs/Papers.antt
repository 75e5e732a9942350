-- What a run leaves of the printers.
use Rattle.mas_run.specs.Names.{View, Throughout, paper_now}
use Rattle.std.specs.Prelude.{◌≡◌, ℕ}

-- at each moment up to this one each printer has the lines that it had
abbrev pub ArePapersKeptUntil : ℕ → View → View → Type 0
ArePapersKeptUntil until old new = Throughout old.now until (λ t. (m : ℕ) → (new.world t).paper m ≡ paper_now old m)
