-- How far the steps of the members come, event by event.
use Rattle.std.proofs.Common.{◌≡◌, ℕ, zero, suc, ◌+◌, ◌<◌, ◌≤◌, Bool, List, [], ◌∷◌, ◌++◌, length, get_or, take, map, refl, ap, sym, ◌∙◌, subst, arith}
use Rattle.std.specs.Prelude.{Result, Ok, Err, OnOk, OnErr}
use Rattle.mas_types.specs.declared.ids.NoMemory.{NoMemory}
use Rattle.std.proofs.lemmas.List.{take_more}
use Rattle.mas_types.specs.declared.ids.MemberId.{MemberId}
use Rattle.mas_types.specs.declared.ids.Dev.TheVariants as dev
use Rattle.mas_types.specs.declared.journals.Entry.{Entry}
use Rattle.mas_types.specs.declared.queues.Queue.{Queue}
use Rattle.mas_types.specs.Lists.{change_at}
use Rattle.member_core.specs.declared.worlds.Event.{Event}
use Rattle.member_core.specs.declared.worlds.Event.TheVariants as event
use Rattle.member_core.specs.declared.worlds.MemberAt.{MemberAt}
use Rattle.member_core.specs.declared.worlds.World.{World}
use Rattle.member_core.specs.Worlds.{absent, at_or, member_in}
use Rattle.member_core.specs.Events.{happens, has_fallen, has_risen, moved, new_members, possible, risen, runs, start}
use Rattle.member_core.specs.Holds.{Holds}
use Rattle.member_core.specs.Steps.{AreStepsBelow}
use Rattle.member_core.specs.Told.{IsFitEvent}
use Rattle.member_core.proofs.Every.{keeps_moved}
use Rattle.member_core.proofs.Basics.{test_cases, all_weaker}

pub below_more : (b c : ℕ) (xs : List MemberAt) → b ≤ c → AreStepsBelow b xs → AreStepsBelow c xs
below_more b c xs more all = all_weaker (λ (a : MemberAt). a.step < b) (λ (a : MemberAt). a.step < c) (λ x low. omega arith) xs all

-- a member's step is below the bound, even if the member isn't there
pub step_below : (b : ℕ) (members : List MemberAt) (m : MemberId) → 0 < b → AreStepsBelow b members → (member_in members m).step < b
step_below b members m some all = at m.0 members all
  where
    at : (i : ℕ) (xs : List MemberAt) → AreStepsBelow b xs → (at_or absent i xs).step < b
    at i [] all = some
    at zero (x ∷ xs) all = all.0
    at (suc i) (x ∷ xs) all = at i xs all.1

module _ (b : ℕ) (f : MemberAt → MemberAt) (few : (a : MemberAt) → (f a).step ≤ a.step + 1) where
  steps_on : (i : ℕ) (xs : List MemberAt) → AreStepsBelow b xs → AreStepsBelow (b + 1) (change_at i f xs)
  steps_on i [] all = tt
  steps_on zero (x ∷ xs) all = (let low = few x in let was = all.0 in omega arith, below_more b (b + 1) xs (omega arith) all.1)
  steps_on (suc i) (x ∷ xs) all = (let was = all.0 in omega arith, steps_on i xs all.1)

  steps_map : (xs : List MemberAt) → AreStepsBelow b xs → AreStepsBelow (b + 1) (map f xs)
  steps_map [] all = tt
  steps_map (x ∷ xs) all = (let low = few x in let was = all.0 in omega arith, steps_map xs all.1)

steps_risen : (b : ℕ) (own : List Entry) (e : Entry) (xs : List MemberAt) → AreStepsBelow b xs → AreStepsBelow (b + 1) (risen own e xs)
steps_risen b own e [] all = tt
steps_risen b own e (x ∷ xs) all = (omega arith, steps_map b has_risen (λ a. omega arith) xs all.1)

-- no step grows by more than one
steps_happen : (b : ℕ) (w : World) (e : Event) → AreStepsBelow b w.members → AreStepsBelow (b + 1) (happens w e).members
steps_happen b w (event.Lock m) all = steps_on b _ (λ a. omega arith) m.0 w.members all
steps_happen b w (event.FirstRead m) all = steps_on b _ (λ a. omega arith) m.0 w.members all
steps_happen b w (event.SecondRead m) all = steps_on b _ (λ a. omega arith) m.0 w.members all
steps_happen b w (event.Primary m) all = steps_on b _ (λ a. omega arith) m.0 w.members all
steps_happen b w (event.Do m c) all = steps_on b _ (λ a. omega arith) m.0 w.members all
steps_happen b w (event.Log m dev.Ckpt1) all = steps_on b _ (λ a. omega arith) m.0 w.members all
steps_happen b w (event.Log m dev.Ckpt2) all = steps_on b _ (λ a. omega arith) m.0 w.members all
steps_happen b w (event.Log m (dev.Spool v)) all = below_more b (b + 1) w.members (omega arith) all
steps_happen b w (event.OpenCopy m dev.Ckpt1) all = steps_on b _ (λ a. omega arith) m.0 w.members all
steps_happen b w (event.OpenCopy m dev.Ckpt2) all = steps_on b _ (λ a. omega arith) m.0 w.members all
steps_happen b w (event.OpenCopy m (dev.Spool v)) all = below_more b (b + 1) w.members (omega arith) all
steps_happen b w (event.Free m) all = steps_on b _ (λ a. omega arith) m.0 w.members all
steps_happen b w (event.Tell m) all = steps_on b _ (λ a. omega arith) m.0 w.members all
steps_happen b w (event.SpoolWrite m g) all = below_more b (b + 1) w.members (omega arith) all
steps_happen b w (event.SpoolSync m v) all = below_more b (b + 1) w.members (omega arith) all
steps_happen b w (event.PrintLine m) all = steps_on b _ (λ a. omega arith) m.0 w.members all
steps_happen b w (event.Stop m l) all = steps_on b _ (λ a. omega arith) m.0 w.members all
steps_happen b w (event.Seize by of_member) all = steps_on b _ (λ a. omega arith) by.0 w.members all
steps_happen b w (event.Lose dev.Ckpt1) all = below_more b (b + 1) w.members (omega arith) all
steps_happen b w (event.Lose dev.Ckpt2) all = below_more b (b + 1) w.members (omega arith) all
steps_happen b w (event.Lose (dev.Spool v)) all = below_more b (b + 1) w.members (omega arith) all
steps_happen b w (event.Renew m dev.Ckpt1) all = below_more b (b + 1) w.members (omega arith) all
steps_happen b w (event.Renew m dev.Ckpt2) all = below_more b (b + 1) w.members (omega arith) all
steps_happen b w (event.Renew m (dev.Spool v)) all = below_more b (b + 1) w.members (omega arith) all
steps_happen b w (event.Crash l) all = steps_map b has_fallen (λ a. omega arith) w.members all
steps_happen b w event.Start all = steps_risen b _ _ w.members all

pub steps_moved : (b : ℕ) (w : World) (e : Event) → AreStepsBelow b w.members → AreStepsBelow (b + 1) (moved w e).members
steps_moved b w e all =
    test_cases (possible w e) (AreStepsBelow (b + 1) (moved w e).members)
    (λ p. rw p (steps_happen b w e all))
    (λ p. rw p (below_more b (b + 1) w.members (omega arith) all))

pub steps_start : (base : Queue) → AreStepsBelow 2 (start base).members
steps_start base = (omega arith, new base.config.members)
  where
    new : (n : ℕ) → AreStepsBelow 2 (new_members n)
    new zero = tt
    new (suc n) = (omega arith, new n)

runs_push : (w : World) (es : List Event) (e : Event) → runs w (es ++ e ∷ []) ≡ moved (runs w es) e
runs_push w [] e = refl
runs_push w (x ∷ es) e = runs_push (moved w x) es e

-- one event further
pub runs_more : (w was : World) (es : List Event) (i : ℕ) (e : Event) → i < length es → e ≡ get_or es i e → was ≡ runs w (take i es)
    → moved was e ≡ runs w (take (i + 1) es)
runs_more w was es i e inside is so_far =
    let more : take (i + 1) es ≡ take i es ++ e ∷ [] = take_more es i e inside ∙ ap (λ (x : Event). take i es ++ x ∷ []) (sym is) in
    ap (λ (v : World). moved v e) so_far ∙ sym (ap (runs w) more ∙ runs_push w (take i es) e)

module _ (w new : World) (e : Event) (r : Result Bool NoMemory) where
  -- the world after an event, or the same world when out of memory
  either_way : (P : World → Type 0) → P w → P (moved w e) → OnOk r (new ≡ moved w e) → OnErr r (new ≡ w) → P new
  either_way P same other moves stays = go r moves stays
    where
      go : (s : Result Bool NoMemory) → OnOk s (new ≡ moved w e) → OnErr s (new ≡ w) → P new
      go (Ok done) moves stays = subst P (sym moves) other
      go (Err why) moves stays = subst P (sym stays) same

  pub holds_after : Holds w → IsFitEvent e → OnOk r (new ≡ moved w e) → OnErr r (new ≡ w) → Holds new
  holds_after h fit moves stays = either_way Holds h (keeps_moved w e h fit) moves stays

  pub steps_after : (b : ℕ) → AreStepsBelow b w.members → OnOk r (new ≡ moved w e) → OnErr r (new ≡ w) → AreStepsBelow (b + 1) new.members
  steps_after b below moves stays =
      either_way (λ (v : World). AreStepsBelow (b + 1) v.members) (below_more b (b + 1) w.members (omega arith) below) (steps_moved b w e below) moves stays
