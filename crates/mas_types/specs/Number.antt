-- The number of a new job.
use Rattle.std.specs.Prelude.{ℕ, zero, suc, ◌+◌, ◌==◌, nat_lt, Bool, if◌then◌else◌, List, length}
use Rattle.std.specs.List.{list_any}
use Rattle.mas_types.specs.declared.ids.JobNo.{JobNo}
use Rattle.mas_types.specs.declared.jobs.Job.{Job}
use Rattle.mas_types.specs.Limits.{number_most}

-- the number after n, which is 1 after the greatest
abbrev pub after : ℕ → ℕ
after n = if nat_lt n number_most then n + 1 else 1

abbrev pub is_number_used : List Job → ℕ → Bool
is_number_used jobs n = list_any (λ j. j.number.0 == n) jobs

-- the first that no job has of n and so many numbers after it
abbrev pub free_from : List Job → ℕ → ℕ → ℕ
free_from jobs n zero = n
free_from jobs n (suc more) = if is_number_used jobs n then free_from jobs (after n) more else n

-- the first number after the last that no job has. The jobs have at most as many numbers as there are jobs
abbrev pub next_number : List Job → JobNo → JobNo
next_number jobs last = record { 0 = free_from jobs (after last.0) (length jobs) }
