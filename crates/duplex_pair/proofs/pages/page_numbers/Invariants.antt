use Rattle.std.proofs.Common.{◌≡◌, ℕ, ◌<◌, length, Some}
use Rattle.std.specs.Prelude.{slice_get}
use Rattle.mas_types.specs.Limits.{pages_most}
use Rattle.duplex_pair.proofs.pages.page_numbers.Given as goal

abbrev pub invariant-loop-page : goal.invariant-loop-page
invariant-loop-page l = (length l.numbers ≡ pages_most) × ((p : ℕ) → p < l.page → slice_get l.numbers p ≡ Some p)
