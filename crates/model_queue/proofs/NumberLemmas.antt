-- The number of a new job.
use Rattle.std.proofs.Common.{◌≡◌, ℕ, zero, suc, ◌-◌, ◌<◌, true, List, refl, arith}
use Rattle.mas_types.specs.declared.jobs.Job.{Job}
use Rattle.mas_types.specs.Number.{is_number_used, after, free_from}

-- a number that is used is passed over
pub free_from-used : (jobs : List Job) (n more : ℕ) → 0 < more → is_number_used jobs n ≡ true → free_from jobs n more ≡ free_from jobs (after n) (more - 1)
free_from-used jobs n zero some used = absurd (omega arith)
free_from-used jobs n (suc more) some used = let less : suc more - 1 ≡ more = omega arith in rw (used, less) refl
