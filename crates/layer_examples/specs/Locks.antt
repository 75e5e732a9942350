-- Worked examples: a hold that is spent, and a stopped holder whose lock another takes over.
use Rattle.std.specs.Prelude.{◌≡◌, ℕ, true, false, None, Some}
use Rattle.mas_types.specs.declared.ids.MemberId.{MemberId}
use Rattle.queue_laws.specs.Examples.Small.{member}
use Rattle.lock_cycle.specs.declared.answers.LockNo.TheVariants as lock
use Rattle.lock_cycle.specs.declared.answers.SeizeNo.TheVariants as seized
use Rattle.lock_cycle.specs.Books.{Book, after_seize, after_spend, after_stop, after_try, is_stopped, left_of, new_book, seize_refusal, try_refusal}

-- two members and a hold of three commands; the first has the lock
abbrev pub locked : Book
locked = after_try (new_book 2 3 0) (member 1) false

-- the holder of the lock spends two commands, then two more, and tries again
abbrev pub spent : Book
spent = after_try (after_spend (after_spend locked (member 1) 2) (member 1) 2) (member 1) false

abbrev pub stopped : Book
stopped = after_stop spent (member 1)

-- the second member takes over the lock of the stopped holder
abbrev pub taken_over : Book
taken_over = after_seize stopped (member 2) (member 1)

pub record StopsAreTakenOver : Type 0 where
  pub one_left : left_of (after_spend locked (member 1) 2) (member 1) ≡ 1
  pub granted_again : try_refusal (after_spend (after_spend locked (member 1) 2) (member 1) 2) (member 1) false ≡ None
  pub none_left : left_of spent (member 1) ≡ 0
  pub is_up : seize_refusal spent (member 1) ≡ Some seized.StillUp
  pub is_down : is_stopped stopped (member 1) ≡ true
  pub holds_still : stopped.holder ≡ member 1
  pub may_not_try : try_refusal stopped (member 1) false ≡ Some lock.Down
  pub is_busy : try_refusal stopped (member 2) false ≡ Some (lock.Busy (member 1))
  pub may_be_seized : seize_refusal stopped (member 1) ≡ None
  pub holder : taken_over.holder ≡ member 2
  pub whole_hold : left_of taken_over (member 2) ≡ 3
  pub seized_once : seize_refusal taken_over (member 1) ≡ Some (seized.NotHolder (member 2))
