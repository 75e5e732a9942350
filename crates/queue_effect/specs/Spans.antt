-- Between which groups those that are sought stand, and which owners a change leaves as they were.
use Rattle.std.specs.Prelude.{◌≡◌, ℕ, ◌≤◌, ◌<◌, Bool, false, List, length, take, drop, count_by}
use Rattle.mas_types.specs.declared.ids.JobNo.{JobNo}
use Rattle.mas_types.specs.declared.queues.Owner.{Owner}
use Rattle.mas_types.specs.declared.queues.Owner.TheVariants as owner
use Rattle.mas_types.specs.Ids.{same_number}
use Rattle.queue_effect.specs.declared.spans.Span.{Span}

-- the group is said to be of an output of the job
abbrev pub is_jobs_print : JobNo → Owner → Bool
is_jobs_print n (owner.Output job index place) = same_number job n
is_jobs_print n _ = false

-- no group below the span passes the test, and none above
pub record HoldsAll (test : Owner → Bool) (s : Span) (gs : List Owner) : Type 0 where
  pub order : s.first ≤ s.end
  pub end : s.end ≤ length gs
  pub low : count_by test (take s.first gs) ≡ 0
  pub all : count_by test (take s.end gs) ≡ count_by test gs

-- no group below the span passes the test, and where one above it does, at least so many in the span do, and not none
pub record HoldsEnough (test : Owner → Bool) (most : ℕ) (s : Span) (gs : List Owner) : Type 0 where
  pub order : s.first ≤ s.end
  pub end : s.end ≤ length gs
  pub low : count_by test (take s.first gs) ≡ 0
  pub within : count_by test (take s.end gs) ≤ count_by test gs
  pub some : count_by test (take s.end gs) < count_by test gs → 0 < count_by test (take s.end gs)
  pub enough : count_by test (take s.end gs) < count_by test gs → most ≤ count_by test (take s.end gs)

-- the owners below the span stay, and those above
pub record StaysOutside (s : Span) (old new : List Owner) : Type 0 where
  pub end : s.end ≤ length old
  pub size : length new ≡ length old
  pub low : take s.first new ≡ take s.first old
  pub high : drop s.end new ≡ drop s.end old
