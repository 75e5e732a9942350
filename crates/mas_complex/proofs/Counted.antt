-- Why a copy doesn't count as alive after a recovery, and devices that stay lost.
use Rattle.mas_complex.proofs.Names.{◌≡◌, ◌≢◌, ◌⊎◌, inl, inr, ℕ, ◌≤◌, arith, ◌&&◌, ◌==◌, Bool, true, false, List, Option, Some, None, Result, Ok, Err, IfSome, OnErr, refl, subst, eqb-false, and_cases, Page, Dev, IsBothLost, SomeAlive, Acted, bytes_of, level, Disk as DiskPart, View, Goes, Rose, Place, fits, can_stay, is_before, IsAtLevel, IsOneSeen, IsUnfit, Looked, Sought, WasUnfit, ReadsSeen, sym, ap, ◌∙◌, Ckpt1, Ckpt2, Spool, World, ViewDisk as Disk, Throughout, Loses, SameWires, either_way, Meanwhile, SameSides, IsCkpt, BothMeanwhile, Elsewhere, OnCopies, ◌+◌, next, top, goes_on, goes_none, LookNo, PairNo, BothLost as PairBothLost, Halted as PairHalted, Ghosts as CopyGhosts, Pair, pick, other, PairActed, IsLostOnce, KeepsCounts, PairState, CountsCopy, OnPair, ⊎_elim, ∥∥₁_elim, true≢false, pair_at, look_stopped, RecoverNo, RecoverBothLost, RecoverHalted, recover_no, recover_no_seen, recover_stopped, rules}
use Rattle.mas_complex.proofs.Basics.{of_each, part_beside, no, each, volume_beside, still_none, still_then, of_if}
use Rattle.mas_complex.proofs.Sides.{Calm}
pub use Rattle.std.proofs.Props.{props}
use Rattle.duplex_pair.specs.declared.errors.LookNo.TheVariants.{Halted as LookHalted, NoMemory as LookNoMemory}
use Rattle.duplex_pair.proofs.Chosen.{part12, part21}
use Rattle.duplex_pair.proofs.Composing.{acted_first, acted_second, ne12, ne21}

-- pages that don't stay don't fit, or have neither the level found nor the one reached
pub unfit_of : (reached room : ℕ) (place : Place) (found other : List Page) → IsAtLevel (level (bytes_of other)) reached place → can_stay place room found other ≡ false
    → (fits found other room ≡ false) ⊎ ((level (bytes_of other) ≢ level (bytes_of found)) × (level (bytes_of other) ≢ reached))
unfit_of reached room place found other at unfit = of_if (λ (b : Bool). b ≡ false → (fits found other room ≡ false) ⊎ ((level (bytes_of other) ≢ level (bytes_of found)) × (level (bytes_of other) ≢ reached)))
    (level (bytes_of other) == level (bytes_of found)) (fits found other room) (is_before place && fits found other room) (λ _ not. inl not)
    (λ e not. ⊎_elim
    (λ before. inr (eqb-false (level (bytes_of other)) (level (bytes_of found)) e, λ is. ⊎_elim (λ x. let w = rw x.0 at before in absurd (cc w)) (λ x. x.1 is) at))
    (λ fit. inl fit)
    (and_cases (is_before place) (fits found other room) not)) unfit

-- a count that rose stays risen
pub rose_later : (a b c : ℕ) → Rose a b → b ≤ c → Rose a c
rose_later a b c rose le = omega (arith, rose, le)

pub rose_earlier : (a b c : ℕ) → a ≤ b → Rose b c → Rose a c
rose_earlier a b c le rose = omega (arith, rose, le)

-- and so do the faults of a device
pub fault_later : (dev : Dev) (u v w : View) → Rose (u.faults (DiskPart dev)) (v.faults (DiskPart dev)) → Goes v w → Rose (u.faults (DiskPart dev)) (w.faults (DiskPart dev))
fault_later dev u v w rose goes = rose_later (u.faults (DiskPart dev)) (v.faults (DiskPart dev)) (w.faults (DiskPart dev)) rose (goes.faults (DiskPart dev))

pub fault_earlier : (dev : Dev) (u v w : View) → Goes u v → Rose (v.faults (DiskPart dev)) (w.faults (DiskPart dev)) → Rose (u.faults (DiskPart dev)) (w.faults (DiskPart dev))
fault_earlier dev u v w goes rose = rose_earlier (u.faults (DiskPart dev)) (v.faults (DiskPart dev)) (w.faults (DiskPart dev)) (goes.faults (DiskPart dev)) rose

-- Why a copy that counted as alive doesn't any more: an act on it failed while it was looked at or brought up, or its
-- pages don't fit, with the room that its bytes have.
pub left_why : (tells : Type 0) (it : Sought) (copy : Looked) (bytes : List ℕ) (last : ℕ) (found : List Page) (R : Type 0) (seen : Option (List Page)) (alive : Bool)
    → (seen ≡ None → R) → (alive ≡ true → R) → ReadsSeen it.reads bytes seen → IsOneSeen tells it copy seen → (copy.alive ≡ true → alive ≡ false → IsUnfit seen copy.place copy.room found) → IfSome seen (λ _. copy.room ≡ last) → R ⊎ WasUnfit it.reads bytes it.reached last found
left_why tells it copy bytes last found R None alive unseen failed read is unfit same = inl (unseen refl)
left_why tells it copy bytes last found R (Some other) true unseen failed read is unfit same = inl (failed refl)
left_why tells it copy bytes last found R (Some other) false unseen failed read is unfit same =
    inr (subst (λ (n : ℕ). WasUnfit it.reads bytes it.reached n found) same (record { other = other; read = read; unfit = unfit_of it.reached copy.room copy.place found other is.at (unfit is.is_alive refl) }))

-- what holds anyhow holds after an error
pub if_err : {A E X : Type 0} (r : Result A E) → X → OnErr r X
if_err (Ok a) x = tt
if_err (Err e) x = x

-- a copy is left where one counts as alive
pub left_some : (a b : Bool) → SomeAlive a b → IsBothLost a b → ⊥
left_some a b some both = let e = rw (both.0, both.1) at some in absurd (cc e)

pub pair_lost : {K : Type 0} (dev : Dev) (was is : Bool) (old new : View) → Goes old new → (was ≡ true → is ≡ false → new.lost (DiskPart dev) ≡ true) → (was ≡ false → K → old.lost (DiskPart dev) ≡ true) → is ≡ false → K → new.lost (DiskPart dev) ≡ true
pair_lost dev true is old new goes is_lost lost dead known = is_lost refl dead
pair_lost dev false is old new goes is_lost lost dead known = goes.lost (DiskPart dev) (lost refl known)

-- What a call on one copy leaves as it was: equations of plain data, which need no choice.

-- nothing has moved on any wire after a call at each of whose moments it hadn't
pub wires_of : (old new : View) → old.now ≤ new.now → Throughout old.now new.now (λ t. SameSides (old.world old.now) (new.world t)) → ((w : ℕ) → new.waiting w ≡ old.waiting w) → SameWires old new
wires_of old new later sides waiting = let at = sides new.now later (omega arith) in assumption (waiting, at)

pub elsewhere_of : (dev : Dev) (P : Disk → Type 0) (old new : View) → Meanwhile dev P old new → Elsewhere dev old new
elsewhere_of dev P old new m = record { others = m.others; console = m.console; papers = λ t from le. (m.sides t from le).paper; wires = wires_of old new m.goes.later m.sides m.waiting }

pub elsewhere_is : (dev : Dev) (old new : View) → ∥ Elsewhere dev old new ∥₁ → Elsewhere dev old new
elsewhere_is dev old new some = ∥∥₁_elim some (hlevel props) (λ e. e)

-- CALLS ONE AFTER ANOTHER

pub wires_none : (v : View) → SameWires v v
wires_none v = record { waiting = λ w. refl; taken = λ w m. refl; given = λ w m. refl }

pub on_none : (v : View) → OnCopies v v
on_none v = record { volumes = λ t from le d one two. still_none (λ (w : World). w.disk d) v t from le; console = refl; papers = λ t from le m. still_none (λ (w : World). w.paper m) v t from le; wires = wires_none v }

pub on_then : (old mid new : View) → Goes old mid → Goes mid new → OnCopies old mid → OnCopies mid new → OnCopies old new
on_then old mid new first last x y = record {
  volumes = λ t from le d one two. still_then (λ (w : World). w.disk d) old mid new first last (λ u a b. x.volumes u a b d one two) (λ u a b. y.volumes u a b d one two) t from le;
  console = y.console ∙ x.console;
  papers = λ t from le m. still_then (λ (w : World). w.paper m) old mid new first last (λ u a b. x.papers u a b m) (λ u a b. y.papers u a b m) t from le;
  wires = record { waiting = λ w. y.wires.waiting w ∙ x.wires.waiting w; taken = λ w m. y.wires.taken w m ∙ x.wires.taken w m; given = λ w m. y.wires.given w m ∙ x.wires.given w m };
}

-- a call on the copy of one device
pub elsewhere_calm : (dev : Dev) → IsCkpt dev → (old new : View) → Elsewhere dev old new → Calm old new
elsewhere_calm dev ckpt old new e = record { volumes = λ t from le d one two. e.others t from le d (each (λ c. d ≢ c) one two dev ckpt); console = e.console }

pub on_one : (dev : Dev) → IsCkpt dev → (old new : View) → Goes old new → Elsewhere dev old new → OnCopies old new
on_one dev ckpt old new goes e = record { volumes = (elsewhere_calm dev ckpt old new e).volumes; console = e.console new.now goes.later (omega arith); papers = e.papers; wires = e.wires }

pub on_both : (P Q : Disk → Type 0) (old new : View) → BothMeanwhile P Q old new → OnCopies old new
on_both P Q old new m = record {
  volumes = m.others;
  console = m.console new.now m.goes.later (omega arith);
  papers = λ t from le. (m.sides t from le).paper;
  wires = wires_of old new m.goes.later m.sides m.waiting;
}

-- What is counted over the calls of a recovery.

disk_dev : (d e : Dev) → DiskPart d ≡ DiskPart e → d ≡ e
disk_dev d e same = cc

-- a copy was lost once more, or its count is the greatest
more : (was is : Bool) (before after : ℕ) → was ≡ true → is ≡ false → after ≡ next before → before ≤ top → IsLostOnce was is before after
more was is before after alive dead counted small = ⊎_elim (λ late. inl (omega (arith, counted, small, late))) (λ below. inr (alive, dead, omega (arith, counted, below))) (either_way top before)

-- a copy that no call touched
copy_same : (dev : Dev) (was is : Bool) (old new : View) → is ≡ was → new.loses dev ≡ old.loses dev → new.lost (DiskPart dev) ≡ old.lost (DiskPart dev) → CountsCopy dev was is old new
copy_same dev was is old new same counted device = record {
  alive = λ on. sym same ∙ on;
  once = inl counted;
  gone = λ alive dead. absurd (no was alive (sym same ∙ dead));
  stands = ((λ alive there. device ∙ there), λ alive dead. absurd (no was alive (sym same ∙ dead)));
}

copy_then : (dev : Dev) (a b c : Bool) (old mid new : View) → Goes old mid → Goes mid new → CountsCopy dev a b old mid → CountsCopy dev b c mid new → CountsCopy dev a c old new
copy_then dev a true c old mid new early late one two = let same : mid.loses dev ≡ old.loses dev = ⊎_elim (λ e. e) (λ x. absurd (true≢false x.1)) one.once in record {
  alive = λ _. one.alive refl;
  once = ⊎_elim (λ e. inl (e ∙ same)) (λ x. inr (one.alive refl, x.1, x.2 ∙ ap (λ (n : ℕ). n + 1) same)) two.once;
  gone = λ _ is. ⊎_elim (λ fault. inl (fault_earlier dev old mid new early fault)) (λ call. inr (subst (λ (n : ℕ). Rose n (new.loses dev)) same call)) (two.gone refl is);
  stands = ((λ alive there. two.stands.0 alive (one.stands.0 refl there)), λ _ dead. two.stands.1 refl dead);
}
copy_then dev a false true old mid new early late one two = absurd (true≢false (sym (two.alive refl)))
copy_then dev a false false old mid new early late one two = let same : new.loses dev ≡ mid.loses dev = ⊎_elim (λ e. e) (λ x. absurd (true≢false (sym x.0))) two.once in record {
  alive = λ is. absurd (true≢false (sym is));
  once = ⊎_elim (λ e. inl (same ∙ e)) (λ x. inr (x.0, refl, same ∙ x.2)) one.once;
  gone = λ was _. ⊎_elim (λ fault. inl (fault_later dev old mid new fault late)) (λ call. inr (subst (λ (n : ℕ). Rose (old.loses dev) n) (sym same) call)) (one.gone was refl);
  stands = ((λ is. absurd (true≢false (sym is))), λ was _. late.lost (DiskPart dev) (one.stands.1 was refl));
}

-- one that counted as alive, and that a call lost
copy_lost : (dev : Dev) (was is : Bool) (old new : View) → was ≡ true → is ≡ false → Loses (DiskPart dev) old new → CountsCopy dev was is old new
copy_lost dev was is old new up dead loses = record {
  alive = λ on. up;
  once = more was is (old.loses dev) (new.loses dev) up dead (loses.counted dev refl) (loses.small dev refl);
  gone = λ alive gone. inr (let counted = loses.counted dev refl in omega (arith, counted));
  stands = ((λ on there. absurd (no is on dead)), λ alive gone. loses.is_lost);
}

counts_none : (by : ℕ) (x : PairState) → KeepsCounts by false x x
counts_none by x = search (rules, goes_none, copy_same, no)

counts_then : (by : ℕ) (stopped : Bool) (x y z : PairState) → KeepsCounts by false x y → KeepsCounts by stopped y z → KeepsCounts by stopped x z
counts_then by stopped x y z one two = record {
  goes = goes_on x.view y.view z.view one.goes two.goes;
  first = copy_then Ckpt1 x.first y.first z.first x.view y.view z.view one.goes two.goes one.first two.first;
  second = copy_then Ckpt2 x.second y.second z.second x.view y.view z.view one.goes two.goes one.second two.second;
  no_other_stop = λ m why. two.no_other_stop m why ∙ one.no_other_stop m (inr refl);
  at_halt = two.at_halt;
  arms = λ m. two.arms m ∙ one.arms m;
  else_loses = λ d first second. two.else_loses d first second ∙ one.else_loses d first second;
  volumes_lost = λ n. two.volumes_lost n ∙ one.volumes_lost n;
  volumes_faults = λ n. two.volumes_faults n ∙ one.volumes_faults n;
}

-- what calls on both copies leave: none, and two
pub pair_none : {tells : Type 0} (by : ℕ) (x : PairState) → OnPair tells by false x x
pair_none by x = record { counts = counts_none by x; apart = λ told. on_none x.view }

pub pair_then : {tells : Type 0} {by : ℕ} {stopped : Bool} {x y z : PairState} → OnPair tells by false x y → OnPair tells by stopped y z → OnPair tells by stopped x z
pair_then {by = by} {stopped = stopped} {x = x} {y = y} {z = z} one two =
    record { counts = counts_then by stopped x y z one.counts two.counts; apart = λ told. on_then x.view y.view z.view one.counts.goes two.counts.goes (one.apart told) (two.apart told) }

-- acts on one copy, or on both
module _ (by : ℕ) (stopped : Bool) (x y : PairState) where
  pub counts_both : PairActed by x.first y.first x.second y.second stopped x.view y.view → KeepsCounts by stopped x y
  counts_both acted =
      let first : CountsCopy Ckpt1 x.first y.first x.view y.view = record { alive = acted.alive1; once = inl (acted.loses Ckpt1); gone = λ was is. inl (acted.failed1 was is); stands = ((λ is there. acted.else_lost (DiskPart Ckpt1) (inr (is ∙ sym (acted.alive1 is))) (inl part12) ∙ there), acted.is_lost1) } in
      let second : CountsCopy Ckpt2 x.second y.second x.view y.view = record { alive = acted.alive2; once = inl (acted.loses Ckpt2); gone = λ was is. inl (acted.failed2 was is); stands = ((λ is there. acted.else_lost (DiskPart Ckpt2) (inl part21) (inr (is ∙ sym (acted.alive2 is))) ∙ there), acted.is_lost2) } in
      let else_loses : (d : Dev) → d ≢ Ckpt1 → d ≢ Ckpt2 → y.view.loses d ≡ x.view.loses d = λ d one two. acted.loses d in
      let lost : (n : ℕ) → y.view.lost (DiskPart (Spool n)) ≡ x.view.lost (DiskPart (Spool n)) = λ n. acted.else_lost (DiskPart (Spool n)) (inl (λ e. absurd (cc))) (inl (λ e. absurd (cc))) in
      let faults : (n : ℕ) → y.view.faults (DiskPart (Spool n)) ≡ x.view.faults (DiskPart (Spool n)) = λ n. acted.else_faults (DiskPart (Spool n)) (inl (λ e. absurd (cc))) (inl (λ e. absurd (cc))) in
      assumption (first, second, else_loses, lost, faults, acted)

  pub counts_first : y.second ≡ x.second → Acted by Ckpt1 x.first y.first stopped x.view y.view → KeepsCounts by stopped x y
  counts_first same acted =
      counts_both (subst (λ (b : Bool). PairActed by x.first y.first x.second b stopped x.view y.view) (sym same) (acted_first by x.view y.view x.first y.first x.second stopped Ckpt1 refl acted))

  pub counts_second : y.first ≡ x.first → Acted by Ckpt2 x.second y.second stopped x.view y.view → KeepsCounts by stopped x y
  counts_second same acted =
      counts_both (subst (λ (a : Bool). PairActed by x.first a x.second y.second stopped x.view y.view) (sym same) (acted_second by x.view y.view x.second y.second x.first stopped Ckpt2 refl acted))

-- a copy that counted as alive is lost by a call
lost_counts : {A : Type 0} (alive : A → Bool) (by : ℕ) (dev : Dev) → IsCkpt dev → (h k h' k' : A) (old new : View) → alive (pick dev h k) ≡ true → alive (pick dev h' k') ≡ false → other dev h' k' ≡ other dev h k → Loses (DiskPart dev) old new
    → KeepsCounts by false (pair_at (alive h) (alive k) old) (pair_at (alive h') (alive k') new)
lost_counts alive by dev ckpt h k h' k' old new was dead same loses = record {
  goes = loses.goes;
  first = copies Ckpt1 tt;
  second = copies Ckpt2 tt;
  no_other_stop = λ m why. loses.stops m;
  at_halt = λ is. absurd (cc);
  arms = loses.arms;
  else_loses = λ d first second. loses.else_counted d (λ e. each (λ c. d ≢ c) first second dev ckpt (disk_dev d dev e));
  volumes_lost = λ n. loses.else_lost (DiskPart (Spool n)) (λ same. volume_beside n dev ckpt (disk_dev (Spool n) dev same));
  volumes_faults = λ n. loses.faults (DiskPart (Spool n));
} where
  copies : (d : Dev) → IsCkpt d → CountsCopy d (alive (pick d h k)) (alive (pick d h' k')) old new
  copies = of_each (λ d a b. CountsCopy d (alive a) (alive b) old new) dev ckpt h k h' k' (copy_lost dev _ _ old new was dead loses) (copy_same (other dev Ckpt1 Ckpt2) _ _ old new (ap alive same) (loses.else_counted (other dev Ckpt1 Ckpt2) (part_beside dev ckpt)) (loses.else_lost (DiskPart (other dev Ckpt1 Ckpt2)) (part_beside dev ckpt)))

module _ (by : ℕ) (x y : PairState) where
  pub first_lost : x.first ≡ true → y.first ≡ false → y.second ≡ x.second → Loses (DiskPart Ckpt1) x.view y.view → KeepsCounts by false x y
  first_lost = lost_counts (λ b. b) by Ckpt1 tt x.first x.second y.first y.second x.view y.view

  pub second_lost : x.second ≡ true → y.second ≡ false → y.first ≡ x.first → Loses (DiskPart Ckpt2) x.view y.view → KeepsCounts by false x y
  second_lost = lost_counts (λ b. b) by Ckpt2 tt x.first x.second y.first y.second x.view y.view

-- on the copy of one device
module _ {C : Type 0} {copies : CopyGhosts C} (by : ℕ) (x y : Pair C copies) (old new : View) where
  abbrev was : PairState
  was = pair_at x.first.alive x.second.alive old

  abbrev is : PairState
  is = pair_at y.first.alive y.second.alive new

  pub counts_one : (stopped : Bool) (dev : Dev) → IsCkpt dev → other dev y.first y.second ≡ other dev x.first x.second
      → Acted by dev (pick dev x.first x.second).alive (pick dev y.first y.second).alive stopped old new → KeepsCounts by stopped was is
  counts_one stopped Ckpt1 ckpt same acted = counts_first by stopped was is (ap (λ h. h.alive) same) acted
  counts_one stopped Ckpt2 ckpt same acted = counts_second by stopped was is (ap (λ h. h.alive) same) acted
  counts_one stopped (Spool n) ckpt same acted = absurd ckpt

  -- with all else
  pub pair_one : {tells : Type 0} (stopped : Bool) (dev : Dev) → IsCkpt dev → other dev y.first y.second ≡ other dev x.first x.second
      → Acted by dev (pick dev x.first x.second).alive (pick dev y.first y.second).alive stopped old new → (tells → Elsewhere dev old new) → OnPair tells by stopped was is
  pair_one stopped dev ckpt same acted elsewhere = record { counts = counts_one stopped dev ckpt same acted; apart = λ told. on_one dev ckpt old new acted.goes (elsewhere told) }

  pub pair_less : {tells : Type 0} (dev : Dev) → IsCkpt dev → (pick dev x.first x.second).alive ≡ true → (pick dev y.first y.second).alive ≡ false → other dev y.first y.second ≡ other dev x.first x.second
      → Loses (DiskPart dev) old new → (tells → Elsewhere dev old new) → OnPair tells by false was is
  pair_less dev ckpt up dead same loses elsewhere = record { counts = lost_counts (λ h. h.alive) by dev ckpt x.first x.second y.first y.second old new up dead same loses; apart = λ told. on_one dev ckpt old new loses.goes (elsewhere told) }

-- an error of a call within a recovery is its error: by which it was
pub look_left : {tells A : Type 0} (B : Type 0) {by : ℕ} {x y : PairState} (r : Result A RecoverNo) (why : LookNo) → (no : RecoverNo) × (r ≡ Err no) × (no ≡ recover_no_seen why) → OnPair tells by (look_stopped {T = B} (Err why)) x y → OnPair tells by (recover_stopped r) x y
look_left {tells = tells} B {by = by} {x = x} {y = y} r LookHalted p left = subst (λ q. OnPair tells by (recover_stopped q) x y) (sym (p.1 ∙ ap Err p.2)) left
look_left {tells = tells} B {by = by} {x = x} {y = y} r LookNoMemory p left = subst (λ q. OnPair tells by (recover_stopped q) x y) (sym (p.1 ∙ ap Err p.2)) left

pub pair_error : {A B : Type 0} (P : Result A RecoverNo → Result B PairNo → Type 0) → P (Err RecoverHalted) (Err PairHalted) → P (Err RecoverBothLost) (Err PairBothLost) → (r : Result A RecoverNo) (why : PairNo) → (no : RecoverNo) × (r ≡ Err no) × (no ≡ recover_no why) → P r (Err why)
pair_error P halted lost r PairHalted p = subst (λ x. P x (Err PairHalted)) (sym (p.1 ∙ ap Err p.2)) halted
pair_error P halted lost r PairBothLost p = subst (λ x. P x (Err PairBothLost)) (sym (p.1 ∙ ap Err p.2)) lost
