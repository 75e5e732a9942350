-- The step WORK n: units one after another, the batches of their commands, and the line with which it closes.
use Rattle.member_work.specs.Names.{MemberId, Closing, Entry, Queue, run, all_entries, UnitEnd}
use Rattle.std.specs.Prelude.{ℕ, zero, suc, ◌+◌, nat_le, Bool, true, false, ◌||◌, if◌then◌else◌, List, [], ◌∷◌, ◌++◌, length, map, filter}
use Rattle.mas_types.specs.declared.answers.Closing.TheVariants as closing
use Rattle.mas_types.specs.Closings.{closing_line}
use Rattle.mas_types.specs.Lists.{tail}
use Rattle.job_outcome.specs.declared.units.UnitEnd.TheVariants as ends
use Rattle.member_work.specs.Looks.{Look, first_look}
use Rattle.member_work.specs.Units.{UnitPlay, next_play}

-- ROUNDS

-- a unit that is played: the queue that it finds, and what the volumes and the printer give it
pub record Round : Type 0 where
  pub queue : Queue
  pub look : Look

abbrev pub round_of : Queue → Look → Round
round_of Q look = record { queue = Q; look = look }

abbrev pub round_play : MemberId → ℕ → Round → UnitPlay
round_play by at r = next_play r.queue by at r.look

abbrev pub queue_behind : MemberId → ℕ → Round → Queue
queue_behind by at r = run r.queue (all_entries (round_play by at r).parts)

-- up to one that is refused, and to where none applies
abbrev pub rounds_by : UnitEnd → Round → List Round → List Round
rounds_by ends.Done r rounds = r ∷ rounds
rounds_by ends.Idle r rounds = []
rounds_by (ends.Refused end) r rounds = r ∷ []

-- at most so many units, one after another from the queue on
abbrev pub rounds : ℕ → Queue → MemberId → ℕ → List Look → List Round
rounds zero Q by at looks = []
rounds (suc n) Q by at looks =
    let r = round_of Q (first_look looks) in
    rounds_by (round_play by at r).ends r (rounds n (queue_behind by at r) by at (tail looks))

-- HOW THE STEP CLOSES: with the refusal of its last unit, or with the units that are done

abbrev pub closing_by : UnitEnd → ℕ → Closing → Closing
closing_by ends.Done n later = later
closing_by ends.Idle n later = closing.DoneUnits n
closing_by (ends.Refused end) n later = end

-- how a step of work closes, where so many units are done before these rounds
abbrev pub closing_behind : MemberId → ℕ → ℕ → List Round → Closing
closing_behind by at n [] = closing.DoneUnits n
closing_behind by at n (r ∷ rs) = closing_by (round_play by at r).ends n (closing_behind by at (n + 1) rs)

abbrev pub work_closing : Queue → MemberId → ℕ → ℕ → List Look → Closing
work_closing Q by at n looks = closing_behind by at 0 (rounds n Q by at looks)

abbrev pub work_lines : Queue → MemberId → ℕ → ℕ → List Look → List (List ℕ)
work_lines Q by at n looks = closing_line by at (work_closing Q by at n looks) ∷ []

-- BATCHES. What was given since the last batch is written before acts on the spool volumes and the printer, before the
-- lock is given up, where it has as many entries as a batch may, and before the line is said.

-- the entries of a batch
abbrev pub batch_most : ℕ
batch_most = 64

-- the entries of a unit's parts that are written in the unit, after these entries of the batch to come
abbrev pub written_in : List Entry → List (List Entry) → List (List Entry)
written_in so_far [] = []
written_in so_far (es ∷ []) = []
written_in so_far (es ∷ next ∷ parts) = (so_far ++ es) ∷ written_in [] (next ∷ parts)

-- the entries of a unit's parts that aren't written in the unit, after these entries of the batch to come
abbrev pub left_in : List Entry → List (List Entry) → List Entry
left_in so_far [] = so_far
left_in so_far (es ∷ []) = so_far ++ es
left_in so_far (es ∷ next ∷ parts) = left_in [] (next ∷ parts)

-- how many commands the member gave since it got the lock
abbrev pub spent_in : ℕ → List (List Entry) → ℕ
spent_in spent [] = spent
spent_in spent (es ∷ []) = spent + length es
spent_in spent (es ∷ next ∷ parts) = spent_in 0 (next ∷ parts)

-- Between two units: what is written then, what isn't yet, and how many the member gave since it got the lock. Where
-- the hold is spent the lock is given up, and taken again.
abbrev pub is_due : ℕ → ℕ → List Entry → Bool
is_due hold spent so_far = nat_le hold spent || nat_le batch_most (length so_far)

abbrev pub written_between : ℕ → ℕ → List Entry → List (List Entry)
written_between hold spent so_far = if is_due hold spent so_far then so_far ∷ [] else []

abbrev pub left_between : ℕ → ℕ → List Entry → List Entry
left_between hold spent so_far = if is_due hold spent so_far then [] else so_far

abbrev pub spent_between : ℕ → ℕ → ℕ
spent_between hold spent = if nat_le hold spent then 0 else spent

-- what is written one after another of the parts of units, some of it perhaps empty
abbrev pub written : ℕ → ℕ → List Entry → List (List (List Entry)) → List (List Entry)
written hold spent so_far [] = so_far ∷ []
written hold spent so_far (parts ∷ units) =
    let now_spent = spent_in spent parts in
    let left = left_in so_far parts in
    written_in so_far parts ++ written_between hold now_spent left
    ++ written hold (spent_between hold now_spent) (left_between hold now_spent left) units

abbrev pub is_some_entry : List Entry → Bool
is_some_entry [] = false
is_some_entry (e ∷ es) = true

-- the batches of a list that have an entry
abbrev pub batches_in : List (List Entry) → List (List Entry)
batches_in parts = filter is_some_entry parts

-- the parts of each of these units
abbrev pub parts_of : MemberId → ℕ → List Round → List (List (List Entry))
parts_of by at rs = map (λ r. (round_play by at r).parts) rs

-- the entries of each batch of a step WORK n
abbrev pub work_batches : Queue → MemberId → ℕ → ℕ → List Look → List (List Entry)
work_batches Q by at n looks = batches_in (written Q.config.hold 0 [] (parts_of by at (rounds n Q by at looks)))
