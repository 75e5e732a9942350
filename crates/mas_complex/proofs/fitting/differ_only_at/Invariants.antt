use Rattle.mas_complex.proofs.Answering.{◌≡◌, length, drop, differ_at, first_page}
use Rattle.mas_complex.proofs.fitting.differ_only_at.Given as goal

abbrev pub invariant-loop-page : goal.invariant-loop-page
invariant-loop-page l = (length l.found ≡ length l.other) × (differ_at (first_page l.found) l.reached l.page (drop l.page l.found) (drop l.page l.other) ≡ differ_at (first_page l.found) l.reached 0 l.found l.other)
