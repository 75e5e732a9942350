-- What a start does to the copies, call by call.
use Rattle.std.proofs.Common.{◌≡◌, ◌≢◌, ◌⊎◌, inl, inr, ⊎_elim, ℕ, ◌<◌, ◌≤◌, ◌&&◌, not, Bool, true, false, List, [], length, Option, Some, refl, sym, ◌∙◌, ap, subst, arith}
use Rattle.mas_types.specs.declared.ids.Dev.{Dev}
use Rattle.mas_types.specs.declared.ids.Dev.TheVariants.{Ckpt1, Ckpt2, Spool}
use Rattle.mas_types.specs.declared.ids.Page.{Page}
use Rattle.spool_plant.specs.declared.plant.Part.TheVariants.{Disk as DiskPart}
use Rattle.spool_plant.specs.View.{View, Disk, Stretch, IsImage, Avoids, slice, disk_now}
use Rattle.spool_plant.specs.Acts.{Goes, Rose, Loses, next}
use Rattle.ckpt_copy.specs.Changes.{NoMore}
use Rattle.ckpt_copy.specs.Moments.{goes_on, goes_none}
use Rattle.ckpt_copy.specs.Pages.{bytes_of, level}
use Rattle.ckpt_copy.specs.Reading.{EachReads}
use Rattle.ckpt_copy.specs.Staying.{no_more_image}
use Rattle.spool_volumes.specs.Looks.{LooksAt}
use Rattle.duplex_pair.specs.Halves.{IsBothLost, IsGone, SameOrLost}
use Rattle.duplex_pair.specs.Both.{PairActed, Touched, BothMeanwhile}
use Rattle.duplex_pair.specs.Lagging.{Lags}
use Rattle.duplex_pair.proofs.Composing.{no, ne12, ne21}
use Rattle.duplex_pair.proofs.Chosen.{part12, part21}
use Rattle.warm_start.proofs.Seeing.{has_later}
use Rattle.warm_start.specs.Starting.{MayLose, IsOnce, WasTaken, Starts, OneFailed, NoneOrFailed, IsHeld, Fitting}

by_copy : {A : Type 0} (x : Bool) → (x ≡ true → A) → (x ≡ false → A) → A
by_copy true f g = f refl
by_copy false f g = g refl

rose_later : (x y z : ℕ) → x ≤ y → Rose y z → Rose x z
rose_later x y z le rose = omega (arith, le, rose)

rose_more : (x y z : ℕ) → Rose x y → y ≤ z → Rose x z
rose_more x y z rose le = omega (arith, le, rose)

-- a copy that counts as lost still does
still_dead : (a a' : Bool) → (a' ≡ true → a ≡ true) → a ≡ false → a' ≡ false
still_dead a true f dead = absurd (no a (f refl) dead)
still_dead a false f dead = refl

-- a copy is no volume
pub no_volume1 : (n : ℕ) → DiskPart Ckpt1 ≢ DiskPart (Spool n)
no_volume1 n e = absurd (cc)

pub no_volume2 : (n : ℕ) → DiskPart Ckpt2 ≢ DiskPart (Spool n)
no_volume2 n e = absurd (cc)

-- LOOKS, AND A MEND

pub starts_looked : (old v : View) (a b : Bool) → PairActed 0 true a true b false old v → (a ≡ true → v.lost (DiskPart Ckpt1) ≡ false) → (b ≡ true → v.lost (DiskPart Ckpt2) ≡ false) → Starts a b old v
starts_looked old v a b acted there1 there2 = record {
  goes = acted.goes;
  there1 = there1;
  there2 = there2;
  lost1 = acted.is_lost1 refl;
  lost2 = acted.is_lost2 refl;
  taken1 = λ dead. inl (acted.failed1 refl dead);
  taken2 = λ dead. inl (acted.failed2 refl dead);
  once1 = inl (acted.loses Ckpt1);
  once2 = inl (acted.loses Ckpt2);
  else_once = λ d one two. acted.loses d;
  stops = λ m. acted.no_other_stop m (inr refl);
}

module _ (old v w : View) where
  taken_same : (d : Dev) → WasTaken d old v → Goes v w → v.loses d ≤ w.loses d → WasTaken d old w
  taken_same d taken goes le = ⊎_elim
      (λ r. inl (rose_more (old.faults (DiskPart d)) (v.faults (DiskPart d)) (w.faults (DiskPart d)) r (goes.faults (DiskPart d))))
      (λ r. inr (rose_more (old.loses d) (v.loses d) (w.loses d) r le)) taken

  once_same : (d : Dev) (a a' : Bool) → IsOnce d a old v → (a' ≡ true → a ≡ true) → w.loses d ≡ v.loses d → IsOnce d a' old w
  once_same d a a' once alive same = ⊎_elim (λ e. inl (same ∙ e)) (λ x. inr (still_dead a a' alive x.0, same ∙ x.1)) once

  pub starts_acted : (a a' b b' : Bool) → Starts a b old v → PairActed 0 a a' b b' false v w → Starts a' b' old w
  starts_acted a a' b b' s x = record {
    goes = goes_on old v w s.goes x.goes;
    there1 = λ is. x.else_lost (DiskPart Ckpt1) (inr (is ∙ sym (x.alive1 is))) (inl part12) ∙ s.there1 (x.alive1 is);
    there2 = λ is. x.else_lost (DiskPart Ckpt2) (inl part21) (inr (is ∙ sym (x.alive2 is))) ∙ s.there2 (x.alive2 is);
    lost1 = λ dead. by_copy a (λ was. x.is_lost1 was dead) (λ was. x.goes.lost (DiskPart Ckpt1) (s.lost1 was));
    lost2 = λ dead. by_copy b (λ was. x.is_lost2 was dead) (λ was. x.goes.lost (DiskPart Ckpt2) (s.lost2 was));
    taken1 = λ dead. by_copy a (λ was. inl (rose_later (old.faults (DiskPart Ckpt1)) (v.faults (DiskPart Ckpt1)) (w.faults (DiskPart Ckpt1)) (s.goes.faults (DiskPart Ckpt1)) (x.failed1 was dead))) (λ was. taken_same Ckpt1 (s.taken1 was) x.goes (omega (arith, x.loses Ckpt1)));
    taken2 = λ dead. by_copy b (λ was. inl (rose_later (old.faults (DiskPart Ckpt2)) (v.faults (DiskPart Ckpt2)) (w.faults (DiskPart Ckpt2)) (s.goes.faults (DiskPart Ckpt2)) (x.failed2 was dead))) (λ was. taken_same Ckpt2 (s.taken2 was) x.goes (omega (arith, x.loses Ckpt2)));
    once1 = once_same Ckpt1 a a' s.once1 x.alive1 (x.loses Ckpt1);
    once2 = once_same Ckpt2 b b' s.once2 x.alive2 (x.loses Ckpt2);
    else_once = λ d one two. x.loses d ∙ s.else_once d one two;
    stops = λ m. x.no_other_stop m (inr refl) ∙ s.stops m;
  }

  -- a look at the spool volumes
  pub starts_read : (tells : Type 0) (a b : Bool) → Starts a b old v → LooksAt tells 0 v w → Starts a b old w
  starts_read tells a b s x = record {
    goes = goes_on old v w s.goes x.goes;
    there1 = λ is. x.else_lost (DiskPart Ckpt1) no_volume1 ∙ s.there1 is;
    there2 = λ is. x.else_lost (DiskPart Ckpt2) no_volume2 ∙ s.there2 is;
    lost1 = λ dead. x.goes.lost (DiskPart Ckpt1) (s.lost1 dead);
    lost2 = λ dead. x.goes.lost (DiskPart Ckpt2) (s.lost2 dead);
    taken1 = λ dead. taken_same Ckpt1 (s.taken1 dead) x.goes (omega (arith, x.loses Ckpt1));
    taken2 = λ dead. taken_same Ckpt2 (s.taken2 dead) x.goes (omega (arith, x.loses Ckpt2));
    once1 = once_same Ckpt1 a a s.once1 (λ is. is) (x.loses Ckpt1);
    once2 = once_same Ckpt2 b b s.once2 (λ is. is) (x.loses Ckpt2);
    else_once = λ d one two. x.loses d ∙ s.else_once d one two;
    stops = λ m. x.no_other_stop m (inr refl) ∙ s.stops m;
  }

  -- A COPY THAT IS LOST

  module _ (dev : Dev) (a a' : Bool) (x : MayLose dev a a' v w) where
    taken_lost : IsOnce dev a old v → (a ≡ false → WasTaken dev old v) → a' ≡ false → WasTaken dev old w
    taken_lost once taken dead = by_copy a
        (λ was. inr (⊎_elim (λ e. let c : w.loses dev ≡ next (v.loses dev) = x.counted was dead in omega (arith, c, e)) (λ y. absurd (no a was y.0)) once))
        (λ was. taken_same dev (taken was) x.goes (omega (arith, x.else_counted dev (inr (dead ∙ sym was)))))

    once_lost : IsOnce dev a old v → IsOnce dev a' old w
    once_lost once = by_copy a'
        (λ is. ⊎_elim (λ e. inl (x.else_counted dev (inr (is ∙ sym (x.alive is))) ∙ e)) (λ y. absurd (no a (x.alive is) y.0)) once)
        (λ dead. by_copy a
        (λ was. ⊎_elim (λ e. inr (dead, x.counted was dead ∙ ap next e)) (λ y. absurd (no a was y.0)) once)
        (λ was. ⊎_elim (λ e. inl (x.else_counted dev (inr (dead ∙ sym was)) ∙ e)) (λ y. inr (dead, x.else_counted dev (inr (dead ∙ sym was)) ∙ y.1)) once))

  pub starts_first : (a a' b : Bool) → Starts a b old v → MayLose Ckpt1 a a' v w → Starts a' b old w
  starts_first a a' b s x = record {
    goes = goes_on old v w s.goes x.goes;
    there1 = λ is. x.else_lost Ckpt1 (inr (is ∙ sym (x.alive is))) ∙ s.there1 (x.alive is);
    there2 = λ is. x.else_lost Ckpt2 (inl ne21) ∙ s.there2 is;
    lost1 = λ dead. by_copy a (λ was. x.is_lost was dead) (λ was. x.goes.lost (DiskPart Ckpt1) (s.lost1 was));
    lost2 = λ dead. x.goes.lost (DiskPart Ckpt2) (s.lost2 dead);
    taken1 = taken_lost Ckpt1 a a' x s.once1 s.taken1;
    taken2 = λ dead. taken_same Ckpt2 (s.taken2 dead) x.goes (omega (arith, x.else_counted Ckpt2 (inl ne21)));
    once1 = once_lost Ckpt1 a a' x s.once1;
    once2 = once_same Ckpt2 b b s.once2 (λ is. is) (x.else_counted Ckpt2 (inl ne21));
    else_once = λ d one two. x.else_counted d (inl one) ∙ s.else_once d one two;
    stops = λ m. x.stops m ∙ s.stops m;
  }

  pub starts_second : (a b b' : Bool) → Starts a b old v → MayLose Ckpt2 b b' v w → Starts a b' old w
  starts_second a b b' s x = record {
    goes = goes_on old v w s.goes x.goes;
    there1 = λ is. x.else_lost Ckpt1 (inl ne12) ∙ s.there1 is;
    there2 = λ is. x.else_lost Ckpt2 (inr (is ∙ sym (x.alive is))) ∙ s.there2 (x.alive is);
    lost1 = λ dead. x.goes.lost (DiskPart Ckpt1) (s.lost1 dead);
    lost2 = λ dead. by_copy b (λ was. x.is_lost was dead) (λ was. x.goes.lost (DiskPart Ckpt2) (s.lost2 was));
    taken1 = λ dead. taken_same Ckpt1 (s.taken1 dead) x.goes (omega (arith, x.else_counted Ckpt1 (inl ne12)));
    taken2 = taken_lost Ckpt2 b b' x s.once2 s.taken2;
    once1 = once_same Ckpt1 a a s.once1 (λ is. is) (x.else_counted Ckpt1 (inl ne12));
    once2 = once_lost Ckpt2 b b' x s.once2;
    else_once = λ d one two. x.else_counted d (inl two) ∙ s.else_once d one two;
    stops = λ m. x.stops m ∙ s.stops m;
  }

-- a call that loses a copy which counted as alive
pub lost_one : (dev : Dev) (old new : View) → Loses (DiskPart dev) old new → MayLose dev true false old new
lost_one dev old new x = record {
  goes = x.goes;
  alive = λ is. absurd (cc);
  counted = λ was dead. x.counted dev refl;
  else_counted = λ d why. ⊎_elim (λ ne. x.else_counted d (λ e. ne (part_is d dev e))) (λ e. absurd (cc)) why;
  is_lost = λ was dead. x.is_lost;
  else_lost = λ d why. ⊎_elim (λ ne. x.else_lost (DiskPart d) (λ e. ne (part_is d dev e))) (λ e. absurd (cc)) why;
  stops = x.stops;
} where
  part_is : (d e : Dev) → DiskPart d ≡ DiskPart e → d ≡ e
  part_is d e is = cc

-- a call that loses no copy
pub lost_none : (dev : Dev) (a : Bool) (v : View) → MayLose dev a a v v
lost_none dev a v = record {
  goes = goes_none v;
  alive = λ is. is;
  counted = λ was dead. absurd (no a was dead);
  else_counted = λ d why. refl;
  is_lost = λ was dead. absurd (no a was dead);
  else_lost = λ d why. refl;
  stops = λ m. refl;
}

-- IMAGES

-- no byte of a device changed, and an image of it is one of before
pub record IsLess (was disk : Disk) : Type 0 where
  pub bytes : disk.bytes ≡ was.bytes
  pub image : (i : List ℕ) → IsImage disk i → IsImage was i

pub less_more : (was disk : Disk) → NoMore was disk → IsLess was disk
less_more was disk more = record { bytes = more.bytes; image = λ i im. no_more_image was disk i more im }

pub less_lost : (was disk : Disk) → SameOrLost was disk → IsLess was disk
less_lost was disk same = record {
  bytes = same.bytes;
  image = λ i im. record {
    there = same.there im.there;
    size = im.size ∙ ap (length {A = ℕ}) same.bytes;
    synced = λ s avoids. im.synced s (subst (λ (u : List Stretch). Avoids u s) (sym same.unsynced) avoids) ∙ ap (λ (b : List ℕ). slice s.from s.len b) same.bytes;
  };
}

pub less_held : (reads : List ℕ → Option (List ℕ)) (was disk : Disk) (found : List ℕ) → IsLess was disk → IsHeld reads was found disk
less_held reads was disk found less i im = inl (less.image i im)

pub held_since : (reads : List ℕ → Option (List ℕ)) (was mid disk : Disk) (found : List ℕ) → IsLess was mid → IsHeld reads mid found disk → IsHeld reads was found disk
held_since reads was mid disk found less held i im = ⊎_elim (λ a. inl (less.image i a)) (λ b. inr (⊎_elim (λ c. inl (c ∙ ap reads less.bytes)) inr b)) (held i im)

pub held_touched : (reads : List ℕ → Option (List ℕ)) (alive : Bool) (was disk : Disk) (own found : List ℕ) → (alive ≡ true → reads was.bytes ≡ Some own) → Touched alive (EachReads reads own found) was disk → IsHeld reads was found disk
held_touched reads true was disk own found read touched i im = inr (⊎_elim (λ e. inl (e ∙ sym (read refl))) inr (touched i im))
held_touched reads false was disk own found read touched i im = inl (subst (λ (d : Disk). IsImage d i) touched im)

-- A COPY THAT LAGS

module _ {C : Type 0} (count room : C → ℕ) (room_most : ℕ) (ready : C → View → Type 0) (rests : C → List ℕ → Disk → Type 0) (tells : Type 0) (dev : Dev) (v : View) (one : C) (alive : Bool) (found : ℕ) (pages : List Page) where
  abbrev Fits : Bool → Type 0
  Fits b = Fitting count room room_most ready rests tells dev v one b found pages

  pub lags_of : tells → Fits alive → (own : List ℕ) × Lags rests one found own (bytes_of pages) (disk_now v dev)
  lags_of told f = (
    bytes_of f.own,
    record {
      rest = f.has.was.found told;
      at = sym f.has.at;
      same = λ e. ⊎_elim (λ s. s.1) (λ l. absurd (omega (arith, e, f.has.at, l.0))) f.either;
    },
  )

  abbrev pub own_of : tells → (b : Bool) → (b ≡ true → Fits b) → List ℕ
  own_of told true f = bytes_of (f refl).own
  own_of told false f = []

  pub own_lags : (told : tells) (b : Bool) (f : b ≡ true → Fits b) → b ≡ true → Lags rests one found (own_of told b f) (bytes_of pages) (disk_now v dev)
  own_lags told true f is = let x = f refl in record {
    rest = x.has.was.found told;
    at = sym x.has.at;
    same = λ e. ⊎_elim (λ s. s.1) (λ l. absurd (omega (arith, e, x.has.at, l.0))) x.either;
  }
  own_lags told false f is = absurd (cc)

  pub at_most : Fits alive → found ≤ level (bytes_of pages)
  at_most f = ⊎_elim (λ s. omega (arith, f.has.at, s.0)) (λ l. omega (arith, f.has.at, l.0)) f.either

  pub has_room : Fits alive → found < level (bytes_of pages) → 1 ≤ room one
  has_room f lt = ⊎_elim (λ s. absurd (omega (arith, lt, f.has.at, s.0))) (λ l. l.1) f.either

  pub many : Fits alive → length pages ≡ count one
  many f = f.as_many ∙ sym f.has.was.as_many

-- CALLS ONE AFTER ANOTHER

-- the operator is never stopped
pub acted_unstopped : (a a' b b' stopped : Bool) (old new : View) → PairActed 0 a a' b b' stopped old new → PairActed 0 a a' b b' false old new
acted_unstopped a a' b b' true old new acted = absurd (omega (arith, acted.not_operator refl))
acted_unstopped a a' b b' false old new acted = acted

pub gone_on : (dev : Dev) (a a' : Bool) (P : Disk → Type 0) (mid new : View) → mid.now ≤ new.now → IsGone dev true a mid → IsGone dev a a' new → Touched a P (disk_now mid dev) (disk_now new dev) → IsGone dev true a' new
gone_on dev true a' P mid new later before then touched = λ was dead lt. then refl dead lt
gone_on dev false a' P mid new later before then touched = λ was dead lt. ap (λ (d : Disk). d.lost) touched ∙ before refl refl (omega (arith, later, lt))

-- a call that may lose a copy, which is lost in the world then
pub gone_lost : (dev : Dev) (a a' : Bool) (mid new : View) → (a' ≡ true → a ≡ true) → IsGone dev true a mid → IsGone dev a a' new → (a' ≡ a → disk_now new dev ≡ disk_now mid dev) → mid.now ≤ new.now → IsGone dev true a' new
gone_lost dev true a' mid new alive before then same later = λ was dead lt. then refl dead lt
gone_lost dev false a' mid new alive before then same later = λ was dead lt. ap (λ (d : Disk). d.lost) (same dead) ∙ before refl refl (omega (arith, later, lt))

pub both_weaker : (P Q R S : Disk → Type 0) (old new : View) → ((d : Disk) → P d → R d) → ((d : Disk) → Q d → S d) → BothMeanwhile P Q old new → BothMeanwhile R S old new
both_weaker P Q R S old new f h x = record {
  goes = x.goes;
  first = λ t le ge. f ((new.world t).disk Ckpt1) (x.first t le ge);
  second = λ t le ge. h ((new.world t).disk Ckpt2) (x.second t le ge);
  others = x.others;
  console = x.console;
  sides = x.sides;
  waiting = x.waiting;
}

pub less_then : (a b c : Disk) → IsLess a b → IsLess b c → IsLess a c
less_then a b c x y = record { bytes = y.bytes ∙ x.bytes; image = λ i im. x.image i (y.image i im) }

pub first_now : (P Q : Disk → Type 0) (old new : View) → BothMeanwhile P Q old new → P (disk_now new Ckpt1)
first_now P Q old new x = x.first new.now x.goes.later (omega arith)

pub second_now : (P Q : Disk → Type 0) (old new : View) → BothMeanwhile P Q old new → Q (disk_now new Ckpt2)
second_now P Q old new x = x.second new.now x.goes.later (omega arith)

-- a copy that still counts as alive didn't go
pub stayed : (a c x : Bool) → x ≡ (a && not c) → x ≡ true → c ≡ false
stayed a false x e is = refl
stayed true true x e is = absurd (no x is e)
stayed false true x e is = absurd (no x is e)

module _ {C : Type 0} (count room : C → ℕ) (room_most : ℕ) (ready : C → View → Type 0) (reads : List ℕ → Option (List ℕ)) (rests : C → List ℕ → Disk → Type 0) (tells : Type 0) where
  pub fits_later : (dev : Dev) (v w : View) (one one' : C) (alive alive' : Bool) (found found' : ℕ) (pages : List Page) → one' ≡ one → alive' ≡ alive → found' ≡ found → w.lost (DiskPart dev) ≡ v.lost (DiskPart dev) → (ready one v → ready one w)
      → (tells → disk_now w dev ≡ disk_now v dev) → Fitting count room room_most ready rests tells dev v one alive found pages → Fitting count room room_most ready rests tells dev w one' alive' found' pages
  fits_later dev v w one one' alive alive' found found' pages same_copy same_alive same_found lost stays disk fit =
      subst (λ (x : C). Fitting count room room_most ready rests tells dev w x alive' found' pages) (sym same_copy)
      (subst (λ (b : Bool). Fitting count room room_most ready rests tells dev w one b found' pages) (sym same_alive)
      (subst (λ (n : ℕ). Fitting count room room_most ready rests tells dev w one alive n pages) (sym same_found)
      (record { own = fit.own; has = has_later count room room_most ready reads rests tells dev v w one alive found lost stays disk fit.own fit.has; as_many = fit.as_many; either = fit.either })))

-- WHERE BOTH COPIES WERE LOST

not_before : (was is : Bool) → (was ≡ true → is ≡ true) → is ≡ false → was ≡ false
not_before true is later there = absurd (no is (later refl) there)
not_before false is later there = refl

-- one copy counted as alive before the mend, so it wasn't lost before, and an act on it failed
pub one_failed : (A B : Type 0) (old mid new : View) (a a' b b' stopped : Bool) → Starts a b old mid → PairActed 0 a a' b b' stopped mid new → IsBothLost a' b' → ((a ≡ true) × A) ⊎ ((b ≡ true) × B) → OneFailed old new
one_failed A B old mid new a a' b b' stopped s acted both (inl one) = inl (
  not_before (old.lost (DiskPart Ckpt1)) (mid.lost (DiskPart Ckpt1)) (s.goes.lost (DiskPart Ckpt1)) (s.there1 one.0),
  rose_later (old.faults (DiskPart Ckpt1)) (mid.faults (DiskPart Ckpt1)) (new.faults (DiskPart Ckpt1)) (s.goes.faults (DiskPart Ckpt1)) (acted.failed1 one.0 both.0),
)
one_failed A B old mid new a a' b b' stopped s acted both (inr two) = inr (
  not_before (old.lost (DiskPart Ckpt2)) (mid.lost (DiskPart Ckpt2)) (s.goes.lost (DiskPart Ckpt2)) (s.there2 two.0),
  rose_later (old.faults (DiskPart Ckpt2)) (mid.faults (DiskPart Ckpt2)) (new.faults (DiskPart Ckpt2)) (s.goes.faults (DiskPart Ckpt2)) (acted.failed2 two.0 both.1),
)

-- where an act on each copy failed, it did so on one that wasn't lost, if one wasn't
pub each_failed : (old new : View) → Rose (old.faults (DiskPart Ckpt1)) (new.faults (DiskPart Ckpt1)) → Rose (old.faults (DiskPart Ckpt2)) (new.faults (DiskPart Ckpt2)) → NoneOrFailed old new
each_failed old new one two =
    by_copy (old.lost (DiskPart Ckpt1))
    (λ gone. by_copy (old.lost (DiskPart Ckpt2)) (λ gone2. inl (gone, gone2)) (λ there. inr (inr (there, two))))
    (λ there. inr (inl (there, one)))
