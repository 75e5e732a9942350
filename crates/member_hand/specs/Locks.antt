-- What becomes of the lock at the ends of a sitting.
use Rattle.std.specs.Prelude.{◌≡◌, ◌⊎◌, ℕ, ◌≤◌, false, None}
use Rattle.mas_types.specs.declared.ids.MemberId.{MemberId}
use Rattle.mas_types.specs.Ids.{nobody}
use Rattle.mas_types.specs.Limits.{members_most}
use Rattle.lock_cycle.specs.Books.{Book, IsMember, after_spend, is_stopped}
use Rattle.spool_plant.specs.declared.plant.Plant.{Ghosts as PlantGhosts}
use Rattle.ckpt_copy.specs.declared.copying.Copying.{Ghosts as CopyGhosts}
use Rattle.ckpt_form.specs.declared.steady.Steady.{Ghosts as SteadyGhosts}
use Rattle.mas_complex.specs.declared.complex.Complex.{Complex}
use Rattle.mas_complex.specs.Locking.{MayAct}
use Rattle.mas_complex.specs.Parts.{Parts, parts_of}
use Rattle.step_turns.specs.Courses.{hold_then}
use Rattle.step_turns.specs.declared.states.Grant.{Grant}
use Rattle.step_turns.specs.declared.states.Grant.TheVariants.{ByLock, ForStep}
use Rattle.step_turns.specs.declared.states.Holder.{Holder}
use Rattle.step_turns.specs.declared.states.Release.{Release}
use Rattle.run_turns.specs.Pieces.{released_by}

-- the book after a sitting that gave so many commands, and that leaves this of the lock
abbrev pub left_book : Book → MemberId → ℕ → Release → Book
left_book b by given release = released_by release (after_spend b by given) by

-- who holds the lock after a sitting, with so much of its hold left, where a whole one has so many commands
abbrev pub next_holder : Holder → ℕ → ℕ → Holder
next_holder h whole given = record h { hold = hold_then h.grant whole h.hold given }

-- A member may take the lock, or has it: it isn't stopped, and no other holds.
pub record MayHold (b : Book) (by : MemberId) : Type 0 where
  pub some : 1 ≤ by.0
  pub few : by.0 ≤ members_most
  pub seated : IsMember b by
  pub up : is_stopped b by ≡ false
  pub free : (b.holder ≡ by) ⊎ (b.holder ≡ nobody)

-- THE LOCK IN ACTS ASIDE: nobody holds it in those of a step for which it was taken. Only a member that has it by the
-- operator's LOCK holds it in them.
abbrev pub IsUnlocked : Grant → Book → MemberId → Type 0
IsUnlocked ForStep b by = b.holder ≡ nobody
IsUnlocked ByLock b by = b.holder ≡ by

-- a member may leave the lock, or keep it: it holds it, and nothing is reserved or in flight
pub record IsToLeave {P C : Type 0} (x : Parts P C) (by : MemberId) : Type 0 where
  pub may : MayAct x.book by
  pub some : 1 ≤ by.0
  pub seated : IsMember x.book by
  pub none : x.current ≡ None
  pub unreserved : x.reserved ≡ None

module _ {P C : Type 0} {plants : PlantGhosts P} {steadies : SteadyGhosts C} {copies : CopyGhosts C} where
  abbrev pub MayLeave : Complex P C plants steadies copies → MemberId → Type 0
  MayLeave x by = IsToLeave (parts_of x) by
