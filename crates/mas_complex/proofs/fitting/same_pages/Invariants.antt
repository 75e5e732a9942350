use Rattle.mas_complex.proofs.Answering.{◌≡◌, length, drop, are_same}
use Rattle.mas_complex.proofs.fitting.same_pages.Given as goal

abbrev pub invariant-loop-page : goal.invariant-loop-page
invariant-loop-page l = (length l.found ≡ length l.other) × (are_same (drop l.page l.found) (drop l.page l.other) ≡ are_same l.found l.other)
