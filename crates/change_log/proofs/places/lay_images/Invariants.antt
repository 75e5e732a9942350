use Rattle.std.proofs.Common.{◌≡◌, ◌+◌, ℕ, get_or, drop}
use Rattle.change_log.specs.Logs.{laid}
use Rattle.change_log.proofs.places.lay_images.Given as goal

abbrev pub invariant-loop-i : goal.invariant-loop-i
invariant-loop-i l = (p : ℕ) → laid (l.first + l.i) p (drop l.i l.numbers) (get_or l.places p 0) ≡ laid l.first p l.numbers (get_or l.fn.places p 0)
