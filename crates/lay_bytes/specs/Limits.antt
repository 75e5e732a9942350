-- The limits of layout 1.
use Rattle.std.specs.Prelude.{ℕ}

-- the greatest number of a member
abbrev pub member_most : ℕ
member_most = 8

-- the greatest job number
abbrev pub job_most : ℕ
job_most = 99999

-- the greatest index of an output among those of its job
abbrev pub index_most : ℕ
index_most = 32

-- the greatest priority
abbrev pub prio_most : ℕ
prio_most = 15

-- the most copies of an output
abbrev pub copies_most : ℕ
copies_most = 255

-- the most cards of a deck, and the most lines of an output
abbrev pub lines_most : ℕ
lines_most = 9999
