-- How many acts the reads of pages make, and the moment after them.
use Rattle.std.specs.Prelude.{ℕ, zero, suc, ◌+◌, Bool, true, false}
use Rattle.spool_plant.specs.Acts.{next}

-- The moment after so many acts: each makes one moment more, up to the greatest.
abbrev pub after_acts : ℕ → ℕ → ℕ
after_acts zero moment = moment
after_acts (suc n) moment = next (after_acts n moment)

-- one for a copy that counted as alive before, and counts as lost after
abbrev pub failed_in : Bool → Bool → ℕ
failed_in true true = 0
failed_in true false = 1
failed_in false is = 0

-- how many copies counted as alive before, and count as lost after
abbrev pub copies_failed : Bool → Bool → Bool → Bool → ℕ
copies_failed was1 is1 was2 is2 = failed_in was1 is1 + failed_in was2 is2

-- one where a copy counts as alive
abbrev pub one_left : Bool → Bool → ℕ
one_left true second = 1
one_left false true = 1
one_left false false = 0

-- The acts of a read of one page, by which copies counted as alive before it and count so after: one on each copy that
-- failed in it, and one on the copy that answered or in whose act the member was stopped. Where none is left there was
-- no such act.
abbrev pub read_acts : Bool → Bool → Bool → Bool → ℕ
read_acts was1 is1 was2 is2 = copies_failed was1 is1 was2 is2 + one_left is1 is2
