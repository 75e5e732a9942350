use Rattle.std.proofs.Common.{◌≡◌, ◌+◌, ◌<◌, ℕ, get_or, length}
use Rattle.mas_types.specs.Limits.{pages_most}
use Rattle.change_log.proofs.places.home_places.Given as goal

abbrev pub invariant-loop-page : goal.invariant-loop-page
invariant-loop-page l = record {
  size : length l.places ≡ pages_most;
  home : (p : ℕ) → p < l.page → get_or l.places p 0 ≡ 1 + p;
}
