-- What one who takes turns says of a value.
use Rattle.std.specs.Prelude.{◌≡◌, ℕ, ◌<◌, ◌≤◌, min, Bool, true, false, List, length, Option, Some, None, Result, IfErr, OnOk, is_some, if◌then◌else◌, refl}
use Rattle.mas_types.specs.declared.ids.MemberId.{MemberId}
use Rattle.mas_types.specs.declared.queues.Config.{Config}
use Rattle.mas_types.specs.Limits.{members_most}
use Rattle.lock_cycle.specs.declared.answers.LockNo.{LockNo}
use Rattle.lock_cycle.specs.Books.{IsMember, after_try, try_refusal}
use Rattle.gate_facts.specs.declared.facts.Facts.{Facts}
use Rattle.gate_facts.specs.Memory.{MayGiveBack}
use Rattle.spool_plant.specs.declared.plant.Plant.{Ghosts as PlantGhosts}
use Rattle.ckpt_copy.specs.declared.copying.Copying.{Ghosts as CopyGhosts}
use Rattle.ckpt_form.specs.declared.steady.Steady.{Ghosts as SteadyGhosts}
use Rattle.mas_complex.specs.declared.complex.Complex.{Complex}
use Rattle.mas_complex.specs.Locking.{IsOperatorAway}
use Rattle.mas_complex.specs.Parts.{Shown, parts_of}
pub use Rattle.gate_facts.specs.Ways.{EachWay}
use Rattle.gate_turns.specs.Shared.{facts_of}

-- the members of a configuration
abbrev pub members_of : Config → ℕ
members_of config = min config.members members_most

abbrev pub IsMemberOf : Config → MemberId → Type 0
IsMemberOf config m = (0 < m.0) × (m.0 ≤ members_of config)

-- what holds of a value between two turns: the operator has no batch, and the book is of the configuration's members
pub record IsAtRest (x : Shown) : Type 0 where
  pub away : IsOperatorAway x.book x.reserved x.current
  pub members : length x.book.members ≡ members_of x.base.config

-- What one that is bound to a member may hand back, which took this: a value with the others' as it was. What is to
-- hold between two turns holds of it.
pub record MayHandBack (tells rests : Type 0) (m : ℕ) (cares : Bool → List Bool) (taken : Bool → Facts) (x : Shown) : Type 0
  where
    pub rest : rests
    pub theirs : EachWay tells (λ told. MayGiveBack m (cares told) (taken told) (facts_of told x))

-- bound to this member, or to none
abbrev pub Serves : Option ℕ → ℕ → Type 0
Serves None m = Unit {0}
Serves (Some k) m = k ≡ m

-- asked of each value that may be found
abbrev pub OfEach : {A : Type 0} → (A → Type 0) → (A → Type 0) → Type 0
OfEach {A = A} finds P = (x : A) → finds x → P x

-- a hand that lends its value has what was written to that
pub held_then : {A : Type 0} (out : Bool) (was is : A) → is_some (if out then Some was else None) ≡ true
    → (if out then Some is else None) ≡ Some is
held_then true was is held = refl
held_then false was is held = absurd (cc)

-- A TRY AT THE LOCK in a turn

module _ {P C : Type 0} {plants : PlantGhosts P} {steadies : SteadyGhosts C} {copies : CopyGhosts C} where
  -- a member may try at the lock: it has a place in the book, and the operator has no batch
  pub record MayTry (x : Complex P C plants steadies copies) (by : MemberId) : Type 0 where
    pub member : IsMember x.book by
    pub away : IsOperatorAway x.book x.reserved x.current

  -- a try leaves what is to hold between two turns
  abbrev pub KeepsRest : (Complex P C plants steadies copies → Type 0) → MemberId → Bool → Type 0
  KeepsRest rests by inner = (x y : Complex P C plants steadies copies)
      → parts_of y ≡ record (parts_of x) { book = after_try x.book by inner } → rests x → rests y

  -- The value that was found, with its book after the try; the answer is that book's. What may be found next follows
  -- the value that was left.
  pub record HasTried (finds then_finds : Complex P C plants steadies copies → Type 0)
      (follows : Complex P C plants steadies copies → Complex P C plants steadies copies → Type 0) (by : MemberId)
      (inner : Bool) (result : Result (Unit {0}) LockNo) : Type 0 where
    pub found : Complex P C plants steadies copies
    pub left : Complex P C plants steadies copies
    pub may : finds found
    pub frame : parts_of left ≡ record (parts_of found) { book = after_try found.book by inner }
    pub granted : OnOk result (try_refusal found.book by inner ≡ None)
    pub refused : IfErr result (λ why. try_refusal found.book by inner ≡ Some why)
    pub next : OfEach then_finds (follows left)
