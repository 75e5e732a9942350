-- What a shared value shows after a call on its lock.
use Rattle.std.proofs.Common.{◌≡◌, ℕ, ◌-◌, ◌<◌, ◌≤◌, Bool, true, false, List, length, Option, Some, None, Result, Ok, Err, sym, ap, subst, ◌∙◌, arith}
use Rattle.std.proofs.Math.Logic.{∥∥₁_elim}
use Rattle.std.proofs.lemmas.List.{length-append, length-set}
use native.Mathlib.Bridge.{le_prop}
use Rattle.std.specs.Prelude.{IfSome, OnOk, if◌then◌else◌}
use Rattle.mas_types.specs.declared.ids.MemberId.{MemberId}
use Rattle.mas_types.specs.declared.queues.Config.{Config}
use Rattle.spool_plant.specs.declared.plant.Plant.{Ghosts as PlantGhosts}
use Rattle.ckpt_copy.specs.declared.copying.Copying.{Ghosts as CopyGhosts}
use Rattle.ckpt_form.specs.declared.steady.Steady.{Ghosts as SteadyGhosts}
use Rattle.mas_complex.specs.declared.complex.Complex.{Complex}
use Rattle.mas_complex.specs.Journals.{coming}
use Rattle.lock_cycle.specs.Books.{Book, IsMember, after_try}
use Rattle.gate_facts.specs.declared.facts.Facts.{Facts}
use Rattle.gate_facts.specs.declared.desks.Desk.{Desk}
use Rattle.gate_facts.specs.Values.{no_desk, desk_of}
use Rattle.gate_facts.specs.Memory.{Memory, MayGiveBack, IsLeft}
use Rattle.gate_turns.specs.Seats.{has_lock}
use Rattle.gate_turns.specs.Desks.{no_hold, whole_hold}
use Rattle.mas_complex.specs.Parts.{Parts, Shown, parts_of, shown_of, shows}
use Rattle.gate_turns.specs.Shared.{pages_had, desk_in, facts_of}
use Rattle.gate_turns.specs.Laws.{with_book, HasBegun}
use Rattle.gate_turns.specs.Turning.{EachWay, Serves, IsAtRest, IsMemberOf, MayHandBack, members_of}
use Rattle.mas_complex.specs.Locking.{IsOperatorAway}
use Rattle.gate_turns.proofs.BookLemmas.{tries_cases}
use Rattle.gate_turns.proofs.Booked.{tries_may}
use Rattle.gate_turns.proofs.Seats.{seat_at}

-- the value that one who takes turns has
pub of_held : {A : Type 0} (held : Option A) (x : A) (P : A → Type 0) → held ≡ Some x → IfSome held P → P x
of_held held x P e p = subst (λ o. IfSome o P) e p

-- what it finds next follows what it left
pub follows_left : {A K : Type 0} (held : Option A) (x : A) (here place : K) (follows : K → A → A → Type 0) (finds : A → Type 0) → held ≡ Some x → here ≡ place
    → IfSome held (λ w. (y : A) → finds y → follows here w y) → (y : A) → finds y → follows place x y
follows_left {A = A} held x here place follows finds e p next y f = subst (λ k. follows k x y) p (of_held held x (λ w. (y : A) → finds y → follows here w y) e next y f)

-- a try leaves a value at rest
pub tried_rest : (x : Shown) (by : MemberId) (inner : Bool) → 0 < by.0 → IsAtRest x → IsAtRest (with_book x (after_try x.book by inner) x.reserved)
tried_rest x by inner some rest = record {
  away = tries_cases x.book by inner (λ b. IsOperatorAway b x.reserved x.current) rest.away rest.away (λ none is. absurd (let e : by.0 ≡ 0 = ap (λ (m : MemberId). m.0) is in omega (arith, e, some)));
  members = tries_cases x.book by inner (λ b. length b.members ≡ members_of x.base.config) rest.members rest.members (λ none. length-set x.book.members (by.0 - 1) _ ∙ rest.members);
}

pub on_ok : {T E : Type 0} (A B : Type 0) (r : Result T E) → (A → B) → OnOk r A → OnOk r B
on_ok A B (Ok x) f a = f a
on_ok A B (Err e) f a = tt

pub few_seats : (config : Config) (m : MemberId) → IsMemberOf config m → m.0 < 9
few_seats config m there = let l : m.0 ≤ members_of config = there.1 in omega arith

module _ {P C : Type 0} {plants : PlantGhosts P} {steadies : SteadyGhosts C} {copies : CopyGhosts C} where
  -- a call that changes the book alone
  pub shown_framed : (was is : Complex P C plants steadies copies) (b : Book) → parts_of is ≡ record (parts_of was) { book = b } → shown_of is ≡ with_book (shown_of was) b was.reserved
  shown_framed was is b frame = ap (λ (p : Parts P C). shows copies.reads plants.view p) frame

  -- one that is bound found what holds between two turns
  pub rested : (rests : Complex P C plants steadies copies → Type 0) (was bound : Option ℕ) (held : Option (Complex P C plants steadies copies)) (x : Complex P C plants steadies copies) → was ≡ bound → held ≡ Some x
      → IfSome was (λ m. IfSome held rests) → IfSome bound (λ m. rests x)
  rested rests was bound held x same has rest =
      subst (λ o. IfSome o (λ m. rests x)) same (subst (λ h. IfSome was (λ m. IfSome h rests)) has rest)

  -- and where it is lent another value it keeps what that value told
  pub took_then : (was mid now : Option ℕ) (held : Option (Complex P C plants steadies copies)) (x : Complex P C plants steadies copies) (first later : Bool → Facts) → mid ≡ was → now ≡ mid → held ≡ Some x
      → IfSome was (λ m. IfSome held (λ z. EachWay plants.tells (λ told. first told ≡ facts_of told (shown_of z)))) → ((told : Bool) → IfSome mid (λ m. later told ≡ first told))
      → IfSome now (λ m. EachWay plants.tells (λ told. later told ≡ facts_of told (shown_of x)))
  took_then None mid now held x first later e f has took keeps = subst (λ o. IfSome o (λ m. EachWay plants.tells (λ told. later told ≡ facts_of told (shown_of x)))) (sym (f ∙ e)) tt
  took_then (Some k) mid now held x first later e f has took keeps =
      let found = of_held held x (λ z. EachWay plants.tells (λ told. first told ≡ facts_of told (shown_of z))) has took in
      let kept : (told : Bool) → later told ≡ first told = λ told. subst (λ o. IfSome o (λ m. later told ≡ first told)) e (keeps told) in
      subst (λ o. IfSome o (λ m. EachWay plants.tells (λ told. later told ≡ facts_of told (shown_of x)))) (sym (f ∙ e)) (record { bare = kept false ∙ found.bare; told = λ t. kept true ∙ found.told t })

  -- after a try the value may be handed back
  pub tried_back : (rests : Complex P C plants steadies copies → Type 0) (was is : Complex P C plants steadies copies) (by : MemberId) (inner : Bool) (bound : Option ℕ) (cares : Bool → List Bool) (taken : Bool → Facts) (held : Option (Complex P C plants steadies copies))
      → Serves bound by.0 → held ≡ Some is → IfSome bound (λ m. EachWay plants.tells (λ told. taken told ≡ facts_of told (shown_of was))) → IsMember was.book by
      → shown_of is ≡ with_book (shown_of was) (after_try was.book by inner) was.reserved → (rests was → rests is) → IfSome bound (λ m. rests was)
      → IfSome bound (λ m. IfSome held (λ x. MayHandBack plants.tells (rests x) m cares taken (shown_of x)))
  tried_back rests was is by inner None cares taken held serves has took member shown keeps rest = tt
  tried_back rests was is by inner (Some k) cares taken held serves has took member shown keeps rest =
      let theirs : (told : Bool) → taken told ≡ facts_of told (shown_of was) → MayGiveBack by.0 (cares told) (taken told) (facts_of told (shown_of is)) =
      λ told e. subst (λ t. MayGiveBack by.0 (cares told) t (facts_of told (shown_of is))) (sym e)
      (subst (λ s. MayGiveBack by.0 (cares told) (facts_of told (shown_of was)) (facts_of told s)) (sym shown) (tries_may (shown_of was) by inner member told (cares told))) in
      subst (λ n. IfSome held (λ x. MayHandBack plants.tells (rests x) n cares taken (shown_of x))) (sym serves)
      (subst (λ o. IfSome o (λ x. MayHandBack plants.tells (rests x) by.0 cares taken (shown_of x))) (sym has)
      (record { rest = keeps rest; theirs = record { bare = theirs false took.bare; told = λ t. theirs true (took.told t) } }))

-- what a value keeps of its past says that it has begun
module _ {P C : Type 0} {plants : PlantGhosts P} {steadies : SteadyGhosts C} {copies : CopyGhosts C} where
  pub begun_of : (x : Complex P C plants steadies copies) → plants.tells → HasBegun (shown_of x)
  begun_of x tells = (
    ∥∥₁_elim (x.kept tells) le_prop (λ k. k.started),
    ∥∥₁_elim (x.kept tells) le_prop (λ k. let grown = k.grows x.since (omega arith) k.started in let l = length-append ((plants.view x.plant).world x.since).console grown.more in let e = ap length grown.is in omega arith),
  )

-- who has the lock has it at its desk
pub locked_desk : (x : Shown) (told : Bool) (m : MemberId) → m.0 < 9 → has_lock x.book m ≡ true → (desk_of (facts_of told x) m.0).hold.locked ≡ true
locked_desk x told m few has =
    ap (λ (d : Desk). d.hold.locked) (seat_at (desk_in told x) no_desk 0 9 m.0 m few (omega arith))
    ∙ ap (λ z. (if z then whole_hold (pages_had told x) (coming x.current x.reserved) x.first x.second else no_hold).locked) has

-- a member that has the lock remembers that it has it
pub left_locked : (y : Memory) (x : Shown) (m : MemberId) → IsLeft m.0 y (facts_of false x) → m.0 < 9 → has_lock x.book m ≡ true → (y.desk m.0).hold.locked ≡ true
left_locked y x m left few has = ap (λ (d : Desk). d.hold.locked) left.desk ∙ locked_desk x false m few has
