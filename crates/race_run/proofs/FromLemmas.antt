-- A turn keeps what is known of each value of a race since it began.
use Rattle.std.proofs.Common.{◌≡◌, ◌∙◌, ⊎_elim, ℕ, ◌≤◌, Bool, true, false, if◌then◌else◌, List, [], ◌∷◌, ◌++◌, length, take, drop, All, Result, refl, sym, ap, subst, arith}
use Rattle.std.proofs.lemmas.List.{drop-append-le, drop-map, length-map, length-take, take-append-le, take-map}
use Rattle.std.proofs.lemmas.List.Elements.{All-append, All-head, All-map, All-tail, All-weaker}
use Rattle.mas_types.specs.declared.ids.Dev.{Dev}
use Rattle.mas_types.specs.declared.ids.Dev.TheVariants.{Ckpt1, Ckpt2}
use Rattle.mas_types.specs.declared.ids.MemberId.{MemberId}
use Rattle.mas_types.specs.declared.journals.Batch.{Batch}
use Rattle.mas_types.specs.declared.journals.Fate.{Fate}
use Rattle.mas_types.specs.declared.journals.Fate.TheVariants.{Dropped, Flying, Kept}
use Rattle.mas_types.specs.Ids.{is_somebody}
use Rattle.mas_types.specs.Journal.{is_flying}
use Rattle.spool_plant.specs.declared.plant.Part.TheVariants.{Disk as Device}
use Rattle.spool_plant.specs.declared.plant.Plant.{Ghosts as PlantGhosts}
use Rattle.spool_plant.specs.View.{View}
use Rattle.spool_plant.specs.Acts.{Goes, Rose}
use Rattle.ckpt_copy.specs.Moments.{goes_on}
use Rattle.mas_complex.specs.Parts.{Parts}
use Rattle.mas_complex.proofs.Counted.{rose_earlier, rose_later}
use Rattle.member_node.proofs.CourseLemmas.{rose_grow}
use Rattle.member_node.specs.declared.member.NodeNo.{NodeNo}
use Rattle.member_node.specs.Calls.{Grows, WasLost}
use Rattle.member_sittings.specs.Sat.{journal_of}
use Rattle.mas_race.specs.Beginnings.{Began, ComesFrom, GrowsIf, WasLostIf}
use Rattle.member_racing.specs.Settling.{settle, settled_at, with_found}
use Rattle.member_racing.specs.Turned.{Adds, HasCost}
use Rattle.member_racing.specs.declared.stages.Stage.{Stage as Stands}

-- COUNTS

rose_on : (a b c : ℕ) → Rose a b → Rose b c → Rose a c
rose_on a b c first then_so = omega (arith, first, then_so)

grows_on : (a b c : ℕ) → GrowsIf a b → Grows b c → GrowsIf a c
grows_on a b c before now same rose = before
    (λ is. ⊎_elim
    (λ more. same (more ∙ is))
    (λ more. rose (subst (λ (n : ℕ). Rose n c) is more)) now)
    (λ more. rose (rose_grow a b c more now))

-- A copy was lost: before the turn, or in it.
module _ (d : Dev) (first old new : View) (before : Goes first old) (goes : Goes old new) where
  lost_on : (was mid is : Bool) → GrowsIf (first.loses d) (old.loses d) → Grows (old.loses d) (new.loses d)
      → WasLostIf d was mid first old → (mid ≡ true → is ≡ false → WasLost d old new) → WasLostIf d was is first new
  lost_on was true is more grew at_first at_last was_alive gone failed called = ⊎_elim
      (λ (r : Rose (old.faults (Device d)) (new.faults (Device d))). failed (rose_earlier (first.faults (Device d)) (old.faults (Device d)) (new.faults (Device d)) (before.faults (Device d)) r))
      (λ (r : Rose (old.loses d) (new.loses d)). more
      (λ same. called (subst (λ (n : ℕ). Rose n (new.loses d)) same r))
      (λ rose. called (rose_on (first.loses d) (old.loses d) (new.loses d) rose r)))
      (at_last refl gone)
  lost_on was false is more grew at_first at_last was_alive gone failed called = at_first was_alive refl
      (λ r. failed (rose_later (first.faults (Device d)) (old.faults (Device d)) (new.faults (Device d)) r (goes.faults (Device d))))
      (λ r. called (rose_grow (first.loses d) (old.loses d) (new.loses d) r grew))

-- THE JOURNAL

-- a batch that has its fate has it still
settled_same : (found : Fate) (at : ℕ) (b : Batch) → is_flying b.fate ≡ false → settled_at found at b ≡ b
settled_same found at b other = ap (λ (f : Bool). if f then with_found found at b else b) other

settle_same : (found : Fate) (at : ℕ) (bs : List Batch) → All (λ (b : Batch). is_flying b.fate ≡ false) bs
    → settle found at bs ≡ bs
settle_same found at [] all = refl
settle_same found at (b ∷ bs) all =
    λ i. settled_same found at b (All-head (λ (c : Batch). is_flying c.fate ≡ false) b bs all) i ∷ settle_same found at bs (All-tail (λ (c : Batch). is_flying c.fate ≡ false) b bs all) i

with_by : (found : Fate) (at : ℕ) (b : Batch) → (with_found found at b).by ≡ b.by
with_by Kept at b = refl
with_by Dropped at b = refl
with_by Flying at b = refl

by_of : (f : Bool) (found : Fate) (at : ℕ) (b : Batch) → (if f then with_found found at b else b).by ≡ b.by
by_of true found at b = with_by found at b
by_of false found at b = refl

-- a member's batches are added to those of a journal that begins so
module _ (first was is own : List Batch) (found : Fate) (at : ℕ) (by : MemberId)
    (settled : All (λ (b : Batch). is_flying b.fate ≡ false) first) (opening : take (length first) was ≡ first)
    (journal : is ≡ settle found at was ++ own) (theirs : All (λ (b : Batch). b.by ≡ by) own) where
  long : length first ≤ length (settle found at was)
  long =
      let a = ap length opening in
      let b = length-take (length first) was in
      let c = length-map was (settled_at found at) in
      omega (arith, a, b, c)

  opens_still : take (length first) is ≡ first
  opens_still = ap (take (length first)) journal ∙ take-append-le (length first) (settle found at was) own long
      ∙ take-map (settled_at found at) (length first) was ∙ ap (settle found at) opening
      ∙ settle_same found at first settled

  members_still : is_somebody by ≡ true → All (λ (b : Batch). is_somebody b.by ≡ true) (drop (length first) was)
      → All (λ (b : Batch). is_somebody b.by ≡ true) (drop (length first) is)
  members_still some all =
      subst (All (λ (b : Batch). is_somebody b.by ≡ true))
      (sym (ap (drop (length first)) journal ∙ drop-append-le (length first) (settle found at was) own long
      ∙ ap (λ (bs : List Batch). bs ++ own) (drop-map (settled_at found at) (length first) was)))
      (All-append (λ (b : Batch). is_somebody b.by ≡ true) (settle found at (drop (length first) was)) own
      (All-map (λ (b : Batch). is_somebody b.by ≡ true) (settled_at found at) (drop (length first) was)
      (All-weaker (λ (b : Batch). is_somebody b.by ≡ true) (λ (b : Batch). is_somebody (settled_at found at b).by ≡ true)
      (λ b is_one. ap is_somebody (by_of (is_flying b.fate) found at b) ∙ is_one) (drop (length first) was) all))
      (All-weaker (λ (b : Batch). b.by ≡ by) (λ (b : Batch). is_somebody b.by ≡ true)
      (λ b is_by. ap is_somebody is_by ∙ some) own theirs))

-- THE VALUE

module _ {P C : Type 0} (plants : PlantGhosts P) (o : Began) (by : MemberId) (x y : Parts P C)
    (result : Result Stands NodeNo) where
  pub comes_then : is_somebody by ≡ true → ComesFrom plants o x → HasCost plants by x y result → Adds by x y
      → ComesFrom plants o y
  comes_then some f c a =
      let v : View = plants.view x.plant in
      let w : View = plants.view y.plant in
      let p = c.passage in
      record {
        goes = goes_on o.view v w f.goes p.goes;
        lost1 = lost_on Ckpt1 o.view v w f.goes p.goes o.first_alive x.first_alive y.first_alive (f.grow Ckpt1) (p.grow Ckpt1) f.lost1 p.failed1;
        lost2 = lost_on Ckpt2 o.view v w f.goes p.goes o.second_alive x.second_alive y.second_alive (f.grow Ckpt2) (p.grow Ckpt2) f.lost2 p.failed2;
        there1 = λ is there. p.there1 is (f.there1 (p.alive1 is) there);
        there2 = λ is there. p.there2 is (f.there2 (p.alive2 is) there);
        alive1 = λ is. f.alive1 (p.alive1 is);
        alive2 = λ is. f.alive2 (p.alive2 is);
        grow = λ d. grows_on (o.view.loses d) (v.loses d) (w.loses d) (f.grow d) (p.grow d);
        volumes = λ told n. c.volumes told n ∙ f.volumes told n;
        renewals = c.renewals ∙ f.renewals;
        settled = f.settled;
        opening = opens_still o.batches (journal_of x) (journal_of y) a.own a.found a.at by f.settled f.opening a.journal a.theirs;
        members = members_still o.batches (journal_of x) (journal_of y) a.own a.found a.at by f.settled f.opening a.journal a.theirs some f.members;
        stopped = λ m one is. ⊎_elim
            (λ was. rose_later (o.view.stops m.0) (v.stops m.0) (w.stops m.0) (f.stopped m one was) (p.goes.stops m.0))
            (λ rose. rose_earlier (o.view.stops m.0) (v.stops m.0) (w.stops m.0) (f.goes.stops m.0) rose)
            (c.stopped m one is);
      }
