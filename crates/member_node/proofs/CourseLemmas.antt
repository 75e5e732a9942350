-- Calls on the copies, one after another.
use Rattle.std.proofs.Common.{◌≡◌, ◌≢◌, ◌⊎◌, inl, inr, ⊎_elim, ℕ, ◌+◌, ◌≤◌, ◌||◌, Bool, true, false, List, refl, sym, ◌∙◌, ap, arith}
use Rattle.mas_types.specs.declared.ids.Dev.{Dev}
use Rattle.mas_types.specs.declared.ids.Dev.TheVariants.{Ckpt1, Ckpt2, Spool}
use Rattle.spool_plant.specs.declared.plant.Part.{Part}
use Rattle.spool_plant.specs.declared.plant.Part.TheVariants.{Disk as DiskPart, Console}
use Rattle.spool_plant.specs.declared.plant.Act.{Act}
use Rattle.spool_plant.specs.declared.plant.Act.TheVariants.{Failed}
use Rattle.spool_plant.specs.View.{View, World, disk_at}
use Rattle.spool_plant.specs.Acts.{Goes, Acts, Loses, Says, SamePaper, SameWires, Rose, next, top}
use Rattle.ckpt_copy.specs.Moments.{either_way, goes_on, goes_none}
use Rattle.duplex_pair.specs.Both.{PairActed}
use Rattle.mas_complex.specs.CallCounts.{IsLostOnce, pair_at}
use Rattle.mas_complex.specs.Elsewhere.{Elsewhere, OnCopies}
use Rattle.mas_complex.specs.Paper.{SamePapers}
use Rattle.member_node.specs.Calls.{Apart, Course, Grows, IsOnlyOn, VolumesStay, WasLost, none_lost}

-- WHICH COPIES COUNT AS ALIVE

pub no : (b : Bool) → b ≡ true → b ≡ false → ⊥
no b p q = cc

same_alive : (was is : Bool) → (is ≡ true → was ≡ true) → is ≡ true → is ≡ was
same_alive was is so now = now ∙ sym (so now)

disks_apart : DiskPart Ckpt1 ≢ DiskPart Ckpt2
disks_apart e = absurd (cc)

disks_apart_too : DiskPart Ckpt2 ≢ DiskPart Ckpt1
disks_apart_too e = absurd (cc)

-- VOLUMES THAT STAY

volume_apart1 : (n : ℕ) → DiskPart (Spool n) ≢ DiskPart Ckpt1
volume_apart1 n e = absurd (cc)

volume_apart2 : (n : ℕ) → DiskPart (Spool n) ≢ DiskPart Ckpt2
volume_apart2 n e = absurd (cc)

pub stay_none : (but : ℕ → Bool) (v : View) → VolumesStay but v v
stay_none but v = record { lost = λ n other. refl; faults = λ n other. refl }

pub stay_then : (but : ℕ → Bool) (v0 v1 v2 : View) → VolumesStay none_lost v0 v1 → VolumesStay but v1 v2 → VolumesStay but v0 v2
stay_then but v0 v1 v2 x y = record { lost = λ n other. y.lost n other ∙ x.lost n refl; faults = λ n other. y.faults n other ∙ x.faults n refl }

pub stay_both : (but : ℕ → Bool) (v0 v1 v2 : View) → VolumesStay but v0 v1 → VolumesStay but v1 v2 → VolumesStay but v0 v2
stay_both but v0 v1 v2 x y = record { lost = λ n other. y.lost n other ∙ x.lost n other; faults = λ n other. y.faults n other ∙ x.faults n other }

-- where more volumes may be lost
pub stay_more : (few but : ℕ → Bool) (v w : View) → ((n : ℕ) → but n ≡ false → few n ≡ false) → VolumesStay few v w → VolumesStay but v w
stay_more few but v w fewer x = record { lost = λ n other. x.lost n (fewer n other); faults = λ n other. x.faults n (fewer n other) }

-- an act on a part that is no volume, or that wasn't answered Failed
pub stay_act : (by : ℕ) (part : Part) (but : ℕ → Bool) (v w : View) (result : Act) → ((n : ℕ) → but n ≡ false → (DiskPart (Spool n) ≢ part) ⊎ (result ≢ Failed)) → Acts by part v w result → VolumesStay but v w
stay_act by part but v w result other act = record { lost = λ n is. act.else_lost (DiskPart (Spool n)) (other n is); faults = λ n is. act.else_faults (DiskPart (Spool n)) (other n is) }

pub course_of : (by : ℕ) (a a' b b' stopped : Bool) (old new : View) → PairActed by a a' b b' stopped old new → Course (pair_at a b old) (pair_at a' b' new)
course_of by a a' b b' stopped old new acted = record {
  goes = acted.goes;
  failed1 = λ was not. inl (acted.failed1 was not);
  failed2 = λ was not. inl (acted.failed2 was not);
  there1 = λ is there. acted.else_lost (DiskPart Ckpt1) (inr (same_alive a a' acted.alive1 is)) (inl disks_apart) ∙ there;
  there2 = λ is there. acted.else_lost (DiskPart Ckpt2) (inl disks_apart_too) (inr (same_alive b b' acted.alive2 is)) ∙ there;
  alive1 = acted.alive1;
  alive2 = acted.alive2;
  grow = λ d. inl (acted.loses d);
  once1 = inl (acted.loses Ckpt1);
  once2 = inl (acted.loses Ckpt2);
  volumes = record {
    lost = λ n other. acted.else_lost (DiskPart (Spool n)) (inl (volume_apart1 n)) (inl (volume_apart2 n));
    faults = λ n other. acted.else_faults (DiskPart (Spool n)) (inl (volume_apart1 n)) (inl (volume_apart2 n));
  };
}

pub course_none : (a b : Bool) (v : View) → Course (pair_at a b v) (pair_at a b v)
course_none a b v = record {
  goes = goes_none v;
  failed1 = λ is not. absurd (no a is not);
  failed2 = λ is not. absurd (no b is not);
  there1 = λ is there. there;
  there2 = λ is there. there;
  alive1 = λ is. is;
  alive2 = λ is. is;
  grow = λ d. inl refl;
  once1 = inl refl;
  once2 = inl refl;
  volumes = stay_none none_lost v;
}

-- COUNTS THAT ROSE

pub rose_later : (x y z : ℕ) → x ≤ y → Rose y z → Rose x z
rose_later x y z le rose = omega (arith, le, rose)

pub rose_more : (x y z : ℕ) → Rose x y → y ≤ z → Rose x z
rose_more x y z rose le = omega (arith, le, rose)

pub rose_grow : (x y z : ℕ) → Rose x y → Grows y z → Rose x z
rose_grow x y z rose grow = ⊎_elim (λ same. omega (arith, rose, same)) (λ more. omega (arith, rose, more)) grow

pub grow_rose : (x y z : ℕ) → Grows x y → Rose y z → Rose x z
grow_rose x y z grow rose = ⊎_elim (λ same. omega (arith, rose, same)) (λ more. omega (arith, rose, more)) grow

pub grow_grow : (x y z : ℕ) → Grows x y → Grows y z → Grows x z
grow_grow x y z one two = ⊎_elim (λ same. ⊎_elim (λ still. inl (still ∙ same)) (λ rose. inr (grow_rose x y z one rose)) two) (λ rose. inr (rose_grow x y z rose two)) one

pub lost_more : (d : Dev) (v0 v1 v2 : View) → WasLost d v0 v1 → Goes v1 v2 → Grows (v1.loses d) (v2.loses d) → WasLost d v0 v2
lost_more d v0 v1 v2 lost goes grow = ⊎_elim
    (λ rose. inl (rose_more (v0.faults (DiskPart d)) (v1.faults (DiskPart d)) (v2.faults (DiskPart d)) rose (goes.faults (DiskPart d))))
    (λ rose. inr (rose_grow (v0.loses d) (v1.loses d) (v2.loses d) rose grow))
    lost

pub lost_later : (d : Dev) (v0 v1 v2 : View) → Goes v0 v1 → Grows (v0.loses d) (v1.loses d) → WasLost d v1 v2 → WasLost d v0 v2
lost_later d v0 v1 v2 goes grow lost = ⊎_elim
    (λ rose. inl (rose_later (v0.faults (DiskPart d)) (v1.faults (DiskPart d)) (v2.faults (DiskPart d)) (goes.faults (DiskPart d)) rose))
    (λ rose. inr (grow_rose (v0.loses d) (v1.loses d) (v2.loses d) grow rose))
    lost

-- a copy that is lost by a call is lost once more, or its count is the greatest
pub lost_once : (was is : Bool) (before after : ℕ) → was ≡ true → is ≡ false → after ≡ next before → before ≤ top → IsLostOnce was is before after
lost_once was is before after alive dead counted small = ⊎_elim (λ late. inl (omega (arith, counted, small, late))) (λ below. inr (alive, dead, omega (arith, counted, below))) (either_way top before)

once_then : (a b c : Bool) (k l m : ℕ) → (b ≡ true → a ≡ true) → (c ≡ true → b ≡ true) → IsLostOnce a b k l → IsLostOnce b c l m → IsLostOnce a c k m
once_then a b c k l m f g (inl x) (inl y) = inl (y ∙ x)
once_then a b c k l m f g (inl x) (inr y) = inr (f y.0, y.1, y.2 ∙ ap (λ (n : ℕ). n + 1) x)
once_then a b c k l m f g (inr x) (inl y) = inr (x.0, gone c g x.1, y ∙ x.2) where
  gone : (c : Bool) → (c ≡ true → b ≡ true) → b ≡ false → c ≡ false
  gone false h dead = refl
  gone true h dead = absurd (no b (h refl) dead)
once_then a b c k l m f g (inr x) (inr y) = absurd (no b y.0 x.1)

-- a count that a call raised
rose_next : (k l : ℕ) → l ≡ next k → Rose k l
rose_next k l counted = omega (arith, counted)

-- only the count of the device that a call lost rose
loses_grow1 : (old new : View) → Loses (DiskPart Ckpt1) old new → (d : Dev) → Grows (old.loses d) (new.loses d)
loses_grow1 old new x Ckpt1 = inr (rose_next (old.loses Ckpt1) (new.loses Ckpt1) (x.counted Ckpt1 refl))
loses_grow1 old new x Ckpt2 = inl (x.else_counted Ckpt2 disks_apart_too)
loses_grow1 old new x (Spool n) = inl (x.else_counted (Spool n) (volume_apart1 n))

loses_grow2 : (old new : View) → Loses (DiskPart Ckpt2) old new → (d : Dev) → Grows (old.loses d) (new.loses d)
loses_grow2 old new x Ckpt1 = inl (x.else_counted Ckpt1 disks_apart)
loses_grow2 old new x Ckpt2 = inr (rose_next (old.loses Ckpt2) (new.loses Ckpt2) (x.counted Ckpt2 refl))
loses_grow2 old new x (Spool n) = inl (x.else_counted (Spool n) (volume_apart2 n))

-- a call that lost CKPT1, or CKPT2, whose copy counted as alive
pub course_lost1 : (a a' b b' : Bool) (old new : View) → a ≡ true → a' ≡ false → b' ≡ b → Loses (DiskPart Ckpt1) old new → Course (pair_at a b old) (pair_at a' b' new)
course_lost1 a a' b b' old new was dead same x = record {
  goes = x.goes;
  failed1 = λ is not. inr (rose_next (old.loses Ckpt1) (new.loses Ckpt1) (x.counted Ckpt1 refl));
  failed2 = λ is not. absurd (no b is (sym same ∙ not));
  there1 = λ is there. absurd (no a' is dead);
  there2 = λ is there. x.else_lost (DiskPart Ckpt2) disks_apart_too ∙ there;
  alive1 = λ is. was;
  alive2 = λ is. sym same ∙ is;
  grow = loses_grow1 old new x;
  once1 = lost_once a a' (old.loses Ckpt1) (new.loses Ckpt1) was dead (x.counted Ckpt1 refl) (x.small Ckpt1 refl);
  once2 = inl (x.else_counted Ckpt2 disks_apart_too);
  volumes = record { lost = λ n other. x.else_lost (DiskPart (Spool n)) (volume_apart1 n); faults = λ n other. x.faults (DiskPart (Spool n)) };
}

pub course_lost2 : (a a' b b' : Bool) (old new : View) → b ≡ true → b' ≡ false → a' ≡ a → Loses (DiskPart Ckpt2) old new → Course (pair_at a b old) (pair_at a' b' new)
course_lost2 a a' b b' old new was dead same x = record {
  goes = x.goes;
  failed1 = λ is not. absurd (no a is (sym same ∙ not));
  failed2 = λ is not. inr (rose_next (old.loses Ckpt2) (new.loses Ckpt2) (x.counted Ckpt2 refl));
  there1 = λ is there. x.else_lost (DiskPart Ckpt1) disks_apart ∙ there;
  there2 = λ is there. absurd (no b' is dead);
  alive1 = λ is. sym same ∙ is;
  alive2 = λ is. was;
  grow = loses_grow2 old new x;
  once1 = inl (x.else_counted Ckpt1 disks_apart);
  once2 = lost_once b b' (old.loses Ckpt2) (new.loses Ckpt2) was dead (x.counted Ckpt2 refl) (x.small Ckpt2 refl);
  volumes = record { lost = λ n other. x.else_lost (DiskPart (Spool n)) (volume_apart2 n); faults = λ n other. x.faults (DiskPart (Spool n)) };
}

-- ONE CALL AFTER ANOTHER

pub either_alive : {A : Type 0} (x : Bool) → (x ≡ true → A) → (x ≡ false → A) → A
either_alive true f g = f refl
either_alive false f g = g refl

pub course_then : (a a' a'' b b' b'' : Bool) (v0 v1 v2 : View) → Course (pair_at a b v0) (pair_at a' b' v1) → Course (pair_at a' b' v1) (pair_at a'' b'' v2) → Course (pair_at a b v0) (pair_at a'' b'' v2)
course_then a a' a'' b b' b'' v0 v1 v2 x y = record {
  goes = goes_on v0 v1 v2 x.goes y.goes;
  failed1 = λ was not. either_alive a'
      (λ is. lost_later Ckpt1 v0 v1 v2 x.goes (x.grow Ckpt1) (y.failed1 is not))
      (λ gone. lost_more Ckpt1 v0 v1 v2 (x.failed1 was gone) y.goes (y.grow Ckpt1));
  failed2 = λ was not. either_alive b'
      (λ is. lost_later Ckpt2 v0 v1 v2 x.goes (x.grow Ckpt2) (y.failed2 is not))
      (λ gone. lost_more Ckpt2 v0 v1 v2 (x.failed2 was gone) y.goes (y.grow Ckpt2));
  there1 = λ is there. y.there1 is (x.there1 (y.alive1 is) there);
  there2 = λ is there. y.there2 is (x.there2 (y.alive2 is) there);
  alive1 = λ is. x.alive1 (y.alive1 is);
  alive2 = λ is. x.alive2 (y.alive2 is);
  grow = λ d. grow_grow (v0.loses d) (v1.loses d) (v2.loses d) (x.grow d) (y.grow d);
  once1 = once_then a a' a'' (v0.loses Ckpt1) (v1.loses Ckpt1) (v2.loses Ckpt1) x.alive1 y.alive1 x.once1 y.once1;
  once2 = once_then b b' b'' (v0.loses Ckpt2) (v1.loses Ckpt2) (v2.loses Ckpt2) x.alive2 y.alive2 x.once2 y.once2;
  volumes = stay_then none_lost v0 v1 v2 x.volumes y.volumes;
}

-- A COPY THAT IS LOST BY A CALL

-- one of two copies that are left
pub left : {A B : Type 0} (x y : Bool) → (x || y) ≡ true → (x ≡ true → A) → (y ≡ true → B) → A ⊎ B
left true y some f g = inl (f refl)
left false true some f g = inr (g refl)
left false false some f g = absurd (cc)

-- WHAT STAYS AS IT WAS

pub wires_none : (v : View) → SameWires v v
wires_none v = record { waiting = λ w. refl; taken = λ w m. refl; given = λ w m. refl }

pub wires_then : (old mid new : View) → SameWires old mid → SameWires mid new → SameWires old new
wires_then old mid new one two = record {
  waiting = λ w. two.waiting w ∙ one.waiting w;
  taken = λ w m. two.taken w m ∙ one.taken w m;
  given = λ w m. two.given w m ∙ one.given w m;
}

pub apart_first : (old new : View) → old.now ≤ new.now → Elsewhere Ckpt1 old new → Apart old new
apart_first old new later e = record { others = λ t from le d one two. e.others t from le d one; console = e.console new.now later (omega arith); papers = e.papers; wires = e.wires }

pub apart_second : (old new : View) → old.now ≤ new.now → Elsewhere Ckpt2 old new → Apart old new
apart_second old new later e = record { others = λ t from le d one two. e.others t from le d two; console = e.console new.now later (omega arith); papers = e.papers; wires = e.wires }

pub apart_on : (old new : View) → OnCopies old new → Apart old new
apart_on old new e = record { others = e.volumes; console = e.console; papers = e.papers; wires = e.wires }

-- two calls one after the other that act on the copies alone
pub only_on : (entry old new : View) → entry.now ≤ old.now → Goes old new → IsOnlyOn entry old → IsOnlyOn old new → IsOnlyOn entry new
only_on entry old new later goes before after t from le d one two = ⊎_elim
    (λ early. ap (λ (w : World). w.disk d) (goes.past t early) ∙ before t from early d one two)
    (λ late. after t (omega arith) le d one two ∙ before old.now later (omega arith) d one two)
    (either_way t old.now)

pub only_none : (v : View) → IsOnlyOn v v
only_none v t from le d one two = let now : t ≡ v.now = omega arith in ap (λ (n : ℕ). disk_at v n d) now

-- a moment after one act is that before it or the one that it made
after_act : (v1 v2 : View) (t : ℕ) → v2.now ≡ next v1.now → v1.now ≤ t → t ≤ v2.now → (t ≡ v1.now) ⊎ (t ≡ v2.now)
after_act v1 v2 t time from le = ⊎_elim (λ h. inl (omega arith)) (λ h. inr (omega (arith, time))) (either_way t v1.now)

-- two calls one after the other that keep the printers' lines
pub papers_on : (entry old new : View) → entry.now ≤ old.now → Goes old new → SamePapers entry old → SamePapers old new → SamePapers entry new
papers_on entry old new later goes before after t from le m = ⊎_elim
    (λ early. ap (λ (w : World). w.paper m) (goes.past t early) ∙ before t from early m)
    (λ late. after t (omega arith) le m ∙ before old.now later (omega arith) m)
    (either_way t old.now)

pub papers_none : (v : View) → SamePapers v v
papers_none v t from le m = let now : t ≡ v.now = omega arith in ap (λ (n : ℕ). (v.world n).paper m) now

pub apart_none : (v : View) → Apart v v
apart_none v = record { others = only_none v; console = refl; papers = papers_none v; wires = wires_none v }

-- one act that keeps the printers' lines
pub papers_act : (v1 v2 : View) → Goes v1 v2 → v2.now ≡ next v1.now → SamePaper v1 v2 → SamePapers v1 v2
papers_act v1 v2 goes time same t from le m = ⊎_elim
    (λ e. ap (λ (n : ℕ). (v2.world n).paper m) e ∙ ap (λ (w : World). w.paper m) (goes.past v1.now (omega arith)))
    (λ e. ap (λ (n : ℕ). (v2.world n).paper m) e ∙ same m)
    (after_act v1 v2 t time from le)

pub apart_then : (old mid new : View) → old.now ≤ mid.now → Goes mid new → Apart old mid → Apart mid new → Apart old new
apart_then old mid new later goes x y = record { others = only_on old mid new later goes x.others y.others; console = y.console ∙ x.console; papers = papers_on old mid new later goes x.papers y.papers; wires = wires_then old mid new x.wires y.wires }

pub only_said : (by : ℕ) (line : List ℕ) (v1 v2 : View) (said : Act) → Acts by Console v1 v2 said → Says line v1 v2 said → IsOnlyOn v1 v2
only_said by line v1 v2 said act says t from le d one two = ⊎_elim
    (λ e. ap (λ (n : ℕ). disk_at v2 n d) e ∙ ap (λ (w : World). w.disk d) (act.goes.past v1.now (omega arith)))
    (λ e. ap (λ (n : ℕ). disk_at v2 n d) e ∙ says.disks d)
    (after_act v1 v2 t act.time from le)
