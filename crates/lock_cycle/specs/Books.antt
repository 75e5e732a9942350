-- The book of the lock, and what each call does to it.
use Rattle.std.specs.Prelude.{ℕ, ◌+◌, ◌-◌, ◌^◌, ◌<◌, ◌≤◌, Bool, true, false, not, ◌&&◌, ◌||◌, if◌then◌else◌, nat_lt, min, List, length, replicate, slice_index_or, slice_set, Option, Some, None, is_some}
use Rattle.mas_types.specs.declared.ids.MemberId.{MemberId}
use Rattle.mas_types.specs.Ids.{nobody, is_somebody, same_member}
use Rattle.lock_cycle.specs.declared.standings.Standing.{Standing}
use Rattle.lock_cycle.specs.declared.answers.LockNo.{LockNo}
use Rattle.lock_cycle.specs.declared.answers.LockNo.TheVariants as lock
use Rattle.lock_cycle.specs.declared.answers.NotHolder.{NotHolder}
use Rattle.lock_cycle.specs.declared.answers.SeizeNo.{SeizeNo}
use Rattle.lock_cycle.specs.declared.answers.SeizeNo.TheVariants as seized

-- who holds, nobody being member 0; the number of tries that counted; HOLD and DORMANCY; and how each member stands,
-- from member 1 on
pub record Book : Type 0 where
  pub holder : MemberId
  pub tick : ℕ
  pub hold : ℕ
  pub dormancy : ℕ
  pub members : List Standing

-- the tick that doesn't rise
abbrev pub tick_most : ℕ
tick_most = 2 ^ 64 - 1

-- up, has given nothing up, and has a whole hold left
abbrev pub beginner : ℕ → Standing
beginner hold = record { stopped = false; freed = None; left = hold }

abbrev pub new_book : ℕ → ℕ → ℕ → Book
new_book count hold dormancy = record
    { holder = nobody; tick = 0; hold = hold; dormancy = dormancy; members = replicate count (beginner hold) }

-- a member of the book, counted from 1
abbrev pub IsMember : Book → MemberId → Type 0
IsMember b m = (0 < m.0) × (m.0 ≤ length b.members)

abbrev pub standing : Book → MemberId → Standing
standing b m = slice_index_or b.members (m.0 - 1) (beginner 0)

abbrev pub is_stopped : Book → MemberId → Bool
is_stopped b m = (standing b m).stopped

abbrev pub left_of : Book → MemberId → ℕ
left_of b m = (standing b m).left

abbrev pub is_holder : Book → MemberId → Bool
is_holder b m = same_member b.holder m

-- the member stands so, and all else is as before
abbrev pub with_standing : Book → MemberId → Standing → Book
with_standing b m s = record b { members = slice_set b.members (m.0 - 1) s }

abbrev pub with_holder : Book → MemberId → Book
with_holder b m = record b { holder = m }

-- a grant: the member holds, and has the whole hold left
abbrev pub granted : Book → MemberId → Book
granted b m = with_standing (with_holder b m) m (record (standing b m) { left = b.hold })

-- TRIES

-- the tick of a try. One in the middle of a step, an inner one, doesn't count
abbrev pub tick_of : ℕ → Bool → ℕ
tick_of tick inner = if inner then tick else min (tick + 1) tick_most

-- the tick from which on a member that gave the lock up at this one isn't dormant
abbrev pub wakes_at : ℕ → Option ℕ → ℕ
wakes_at dormancy None = 0
wakes_at dormancy (Some tick) = min (tick + dormancy) tick_most

abbrev pub wakes : Book → MemberId → ℕ
wakes b m = wakes_at b.dormancy (standing b m).freed

abbrev pub is_dormant : Book → MemberId → Bool → Bool
is_dormant b m inner = not inner && nat_lt (tick_of b.tick inner) (wakes b m)

-- why the try is refused, if it is
abbrev pub try_refusal : Book → MemberId → Bool → Option LockNo
try_refusal b m inner =
    if is_stopped b m then Some lock.Down
    else if is_holder b m then None
    else if is_somebody b.holder then Some (lock.Busy b.holder)
    else if is_dormant b m inner then Some (lock.Dormant (wakes b m))
    else None

-- the try has its tick
abbrev pub ticked : Book → Bool → Book
ticked b inner = record b { tick = tick_of b.tick inner }

abbrev pub after_try : Book → MemberId → Bool → Book
after_try b m inner =
    if is_stopped b m || is_holder b m then b
    else if is_some (try_refusal b m inner) then ticked b inner
    else granted (ticked b inner) m

-- GIVING UP

abbrev pub free_refusal : Book → MemberId → Option NotHolder
free_refusal b m = if is_holder b m then None else Some (record { 0 = b.holder })

-- an outer free notes the tick
abbrev pub noted : Book → MemberId → Book
noted b m = with_standing b m (record (standing b m) { freed = Some b.tick })

abbrev pub after_free : Book → MemberId → Bool → Book
after_free b m inner =
    if is_holder b m then (if inner then with_holder b nobody else with_holder (noted b m) nobody) else b

-- STOPS AND TAKEOVER

-- the member still holds what it held
abbrev pub after_stop : Book → MemberId → Book
after_stop b m = with_standing b m (record (standing b m) { stopped = true })

abbrev pub seize_refusal : Book → MemberId → Option SeizeNo
seize_refusal b of =
    if not (is_stopped b of) then Some seized.StillUp
    else if is_holder b of then None
    else Some (seized.NotHolder b.holder)

abbrev pub after_seize : Book → MemberId → MemberId → Book
after_seize b m of = if is_some (seize_refusal b of) then b else granted b m

-- HOLD

abbrev pub after_spend : Book → MemberId → ℕ → Book
after_spend b m commands = with_standing b m (record (standing b m) { left = left_of b m - commands })
