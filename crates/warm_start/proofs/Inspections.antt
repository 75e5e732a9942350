-- A look at both copies: what it gives, and what it leaves.
use Rattle.std.proofs.Common.{◌≡◌, ◌⊎◌, inl, inr, ⊎_elim, ℕ, ◌≤◌, nat_lt, if◌then◌else◌, Bool, true, false, List, length, Option, Some, None, Result, Ok, Err, IfOk, IfErr, OnOk, refl, subst, sym}
use Rattle.queue_telling.specs.Telling.{Tell}
use Rattle.mas_types.specs.declared.ids.Dev.TheVariants.{Ckpt1, Ckpt2}
use Rattle.mas_types.specs.declared.ids.Page.{Page}
use Rattle.mas_types.specs.declared.queues.Queue.{Queue}
use Rattle.spool_plant.specs.declared.plant.Part.TheVariants.{Disk as DiskPart}
use Rattle.spool_plant.specs.View.{View, Disk}
use Rattle.ckpt_copy.specs.Pages.{bytes_of, level}
use Rattle.ckpt_pages.specs.QueueOf.{queue_of}
use Rattle.duplex_pair.specs.declared.errors.Look.{Look}
use Rattle.duplex_pair.specs.declared.errors.Look.TheVariants.{Lost, Unread, Pages}
use Rattle.duplex_pair.specs.Both.{PairActed}
use Rattle.duplex_pair.specs.Halves.{IsGone}
use Rattle.duplex_pair.proofs.Chosen.{part12, part21}
use Rattle.warm_start.specs.Bare.{bare_deck, bare_print}
use Rattle.warm_start.proofs.Bared.{bare_told}
use Rattle.start_choice.specs.declared.choosing.Start.{Start}
use Rattle.start_choice.specs.declared.choosing.StartNo.{StartNo}
use Rattle.start_choice.specs.declared.choosing.StartNo.TheVariants as no_start
use Rattle.spool_volumes.specs.Volumes.{AreRoomy}
use Rattle.start_choice.specs.Usable.{HaveSize}
use Rattle.warm_start.specs.Starting.{IsSeen, HasGone, mark_of, Chosen, IsSmall, IsSmallAt, OnlyLooked}
use Rattle.warm_start.specs.Inspecting.{HasFailed, Looks, SomeThere, HasFound, FindsNone, HasLooked, SeesNone, greatest}
use Rattle.warm_start.proofs.Seeing.{Looked, shown}

pub on_ok : {A E : Type 0} (P : Type 0) (r : Result A E) → P → OnOk r P
on_ok P (Ok x) p = p
on_ok P (Err e) p = tt

-- WHAT A LOOK LEAVES

first_lost : (a b : Bool) (old v : View) → PairActed 0 true a true b false old v → (v.lost (DiskPart Ckpt1) ≡ old.lost (DiskPart Ckpt1)) ⊎ HasFailed Ckpt1 old v
first_lost true b old v acted = inl (acted.else_lost (DiskPart Ckpt1) (inr refl) (inl part12))
first_lost false b old v acted = inr (acted.is_lost1 refl refl, acted.failed1 refl refl)

second_lost : (a b : Bool) (old v : View) → PairActed 0 true a true b false old v → (v.lost (DiskPart Ckpt2) ≡ old.lost (DiskPart Ckpt2)) ⊎ HasFailed Ckpt2 old v
second_lost a true old v acted = inl (acted.else_lost (DiskPart Ckpt2) (inl part21) (inr refl))
second_lost a false old v acted = inr (acted.is_lost2 refl refl, acted.failed2 refl refl)

pub looks_of : (tells : Type 0) (a b : Bool) (old v : View) → PairActed 0 true a true b false old v → (tells → OnlyLooked old v) → Looks tells old v
looks_of tells a b old v acted during = record {
  goes = acted.goes;
  during = during;
  loses = acted.loses;
  stops = λ m. acted.no_other_stop m (inr refl);
  lost1 = first_lost a b old v acted;
  lost2 = second_lost a b old v acted;
  else_lost = λ p one two. acted.else_lost p (inl one) (inl two);
}

-- a copy that looks lost
pub gone_first : (a b : Bool) (old v : View) → PairActed 0 true a true b false old v → IsGone Ckpt1 true a v → a ≡ false → HasGone Ckpt1 old v (mark_of v)
gone_first a b old v acted gone dead = record { failed = acted.failed1 refl dead; is_lost = acted.is_lost1 refl dead; uncalled = acted.loses Ckpt1; gone = gone refl dead }

pub gone_second : (a b : Bool) (old v : View) → PairActed 0 true a true b false old v → IsGone Ckpt2 true b v → b ≡ false → HasGone Ckpt2 old v (mark_of v)
gone_second a b old v acted gone dead = record { failed = acted.failed2 refl dead; is_lost = acted.is_lost2 refl dead; uncalled = acted.loses Ckpt2; gone = gone refl dead }

-- THE PAGES OF GREATEST LEVEL

some_if : (b : Bool) (one two : List Page) → (if b then Some (bytes_of two) else Some (bytes_of one)) ≡ Some (bytes_of (if b then two else one))
some_if true one two = refl
some_if false one two = refl

sized_if : (b : Bool) (one two : List Page) → HaveSize one → HaveSize two → HaveSize (if b then two else one)
sized_if true one two x y = y
sized_if false one two x y = x

module _ {C : Type 0} (count room : C → ℕ) (room_most : ℕ) (ready : C → View → Type 0) (reads : List ℕ → Option (List ℕ)) (rests : C → List ℕ → Disk → Type 0) (tells : Type 0)
    (old v : View) (first second : C) (alive1 alive2 : Bool) (found1 found2 : ℕ) where
  abbrev L1 : Look → Type 0
  L1 look = Looked count room room_most ready reads rests tells Ckpt1 v first alive1 found1 look

  abbrev L2 : Look → Type 0
  L2 look = Looked count room room_most ready reads rests tells Ckpt2 v second alive2 found2 look

  pub pages_looked : (one two : Look) → L1 one → L2 two → (tells → IsSeen reads Ckpt1 old v (mark_of v) (shown one)) → (tells → IsSeen reads Ckpt2 old v (mark_of v) (shown two)) → IfOk (greatest one two) (HasLooked reads tells old v)
  pages_looked (Pages one) (Pages two) l1 l2 s1 s2 =
      let b = nat_lt (level (bytes_of one)) (level (bytes_of two)) in
      record { sized = sized_if b one two l1.sized l2.sized; found = λ told. record { one = Some (bytes_of one); two = Some (bytes_of two); seen1 = s1 told; seen2 = s2 told; is = some_if b one two }; there = inl l1.was.there }
  pages_looked (Pages one) Lost l1 l2 s1 s2 =
      record { sized = l1.sized; found = λ told. record { one = Some (bytes_of one); two = None; seen1 = s1 told; seen2 = s2 told; is = refl }; there = inl l1.was.there }
  pages_looked (Pages one) Unread l1 l2 s1 s2 =
      record { sized = l1.sized; found = λ told. record { one = Some (bytes_of one); two = None; seen1 = s1 told; seen2 = s2 told; is = refl }; there = inl l1.was.there }
  pages_looked Lost (Pages two) l1 l2 s1 s2 =
      record { sized = l2.sized; found = λ told. record { one = None; two = Some (bytes_of two); seen1 = s1 told; seen2 = s2 told; is = refl }; there = inr l2.was.there }
  pages_looked Unread (Pages two) l1 l2 s1 s2 =
      record { sized = l2.sized; found = λ told. record { one = None; two = Some (bytes_of two); seen1 = s1 told; seen2 = s2 told; is = refl }; there = inr l2.was.there }
  pages_looked Lost Lost l1 l2 s1 s2 = tt
  pages_looked Lost Unread l1 l2 s1 s2 = tt
  pages_looked Unread Lost l1 l2 s1 s2 = tt
  pages_looked Unread Unread l1 l2 s1 s2 = tt

  pub none_looked : (one two : Look) → L1 one → L2 two → PairActed 0 true alive1 true alive2 false old v → IfErr (greatest one two) (SeesNone reads tells old v)
  none_looked (Pages one) (Pages two) l1 l2 acted = tt
  none_looked (Pages one) Lost l1 l2 acted = tt
  none_looked (Pages one) Unread l1 l2 acted = tt
  none_looked Lost (Pages two) l1 l2 acted = tt
  none_looked Unread (Pages two) l1 l2 acted = tt
  none_looked Lost Lost l1 l2 acted = ((l1.lost, acted.failed1 refl l1.is_dead), (l2.lost, acted.failed2 refl l2.is_dead))
  none_looked Lost Unread l1 l2 acted = (l1.lost, (l2.there, λ told. (l2.none told).now), tt)
  none_looked Unread Lost l1 l2 acted = ((l1.there, λ told. (l1.none told).now), l2.lost, tt)
  none_looked Unread Unread l1 l2 acted = ((l1.there, λ told. (l1.none told).now), (l2.there, λ told. (l2.none told).now), tt)

  -- THE QUEUE

  abbrev Chose : (List ℕ → ℕ) → Start → Type 0
  Chose room_in start = Chosen count room room_most room_in ready reads rests tells old v first second alive1 alive2 found1 found2 start

  there_of : (room_in : List ℕ → ℕ) (start : Start) → Chose room_in start → SomeThere v
  there_of room_in start chosen = ⊎_elim (λ x. inl x.1.was.there) (λ y. inr y.1.was.there) chosen.one

  pub queue_found : (room_in : List ℕ → ℕ) (needs : ℕ → ℕ) (start : Start) (Q : Queue) → Chose room_in start → Q ≡ queue_of start.found.tables bare_deck bare_print → needs (length start.found.pages) ≤ v.size Ckpt1 → needs (length start.found.pages) ≤ v.size Ckpt2
      → AreRoomy v start.found.tables.config → HasFound reads tells needs old v Q
  queue_found room_in needs start Q chosen is large1 large2 roomy = record {
    pages = start.found.pages;
    tables = start.found.tables;
    usable = chosen.usable;
    sized = chosen.sized;
    is = is;
    tell = subst (Tell start.found.tables) (sym is) (bare_told start.found.tables);
    found = chosen.found;
    there = there_of room_in start chosen;
    large1 = large1;
    large2 = large2;
    roomy = roomy;
  }

  pub too_small : (room_in : List ℕ → ℕ) (needs : ℕ → ℕ) (start : Start) (needed : ℕ) → Chose room_in start → needed ≡ needs (length start.found.pages) → (why : StartNo) → IsSmallAt needed start.found.tables.config v why → FindsNone reads tells needs old v why
  too_small room_in needs start needed chosen is (no_start.DeviceSize dev size) small = record {
    pages = start.found.pages;
    tables = start.found.tables;
    usable = chosen.usable;
    sized = chosen.sized;
    found = chosen.found;
    there = there_of room_in start chosen;
    small = subst (λ (n : ℕ). IsSmall n start.found.tables.config dev size v) is small;
  }
  too_small room_in needs start needed chosen is (no_start.NotFormatted one two) small = absurd small
  too_small room_in needs start needed chosen is no_start.BothLost small = absurd small
  too_small room_in needs start needed chosen is no_start.NoMemory small = absurd small
