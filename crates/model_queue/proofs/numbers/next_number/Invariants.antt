use Rattle.std.proofs.Common.{◌≡◌, length}
use Rattle.mas_types.specs.Number.{free_from, after}
use Rattle.model_queue.proofs.numbers.next_number.Given as goal

-- the search from this number on finds the same number as the whole search
abbrev pub invariant-loop-more : goal.invariant-loop-more
invariant-loop-more l = free_from l.jobs l.number l.more ≡ free_from l.jobs (after l.fn.last.0) (length l.jobs)

abbrev pub decreases-loop-more : goal.decreases-loop-more
decreases-loop-more l = l.more
