-- The members in their order, and how each stands in the book of the lock.
use Rattle.std.specs.Prelude.{ℕ, zero, suc, ◌+◌, Bool, ◌&&◌, List, [], ◌∷◌}
use Rattle.mas_types.specs.declared.ids.MemberId.{MemberId}
use Rattle.mas_types.specs.Ids.{is_somebody, same_member}
use Rattle.mas_types.specs.Limits.{members_most}
use Rattle.lock_cycle.specs.Books.{Book, is_stopped}

-- the members with member 0, in their order
abbrev pub seats_from : ℕ → ℕ → List MemberId
seats_from at zero = []
seats_from at (suc n) = record { 0 = at } ∷ seats_from (at + 1) n

abbrev pub all_seats : List MemberId
all_seats = seats_from 0 (members_most + 1)

-- the member holds the lock. The operator never does: it acts while nobody holds
abbrev pub has_lock : Book → MemberId → Bool
has_lock b m = is_somebody m && same_member b.holder m

-- the member is stopped, as the operator never is
abbrev pub shows_stopped : Book → MemberId → Bool
shows_stopped b m = is_somebody m && is_stopped b m
