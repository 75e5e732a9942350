-- How calls on the two copies make a call on the pair.
use Rattle.std.proofs.Common.{◌≡◌, ◌≢◌, ◌⊎◌, inl, inr, ⊎_elim, ℕ, ◌≤◌, Bool, true, false, List, Option, refl, sym, ◌∙◌, ap, subst, arith}
use Rattle.std.proofs.lemmas.Bool.{or_left, or_right}
use Rattle.mas_types.specs.declared.ids.Dev.{Dev}
use Rattle.mas_types.specs.declared.ids.Dev.TheVariants.{Ckpt1, Ckpt2}
use Rattle.spool_plant.specs.declared.plant.Part.{Part}
use Rattle.spool_plant.specs.declared.plant.Part.TheVariants.{Disk as DiskPart}
use Rattle.spool_plant.specs.View.{View, World, Disk, disk_now}
use Rattle.spool_plant.specs.Acts.{Rose}
use Rattle.ckpt_copy.specs.Changes.{NoMore}
use Rattle.ckpt_copy.specs.Meanwhile.{Meanwhile}
use Rattle.ckpt_copy.specs.Moments.{either_way, goes_on, meanwhile_end, sides_on}
use Rattle.ckpt_copy.specs.Reading.{EachForms}
use Rattle.duplex_pair.specs.Halves.{Acted, IsGone}
use Rattle.duplex_pair.specs.Both.{PairActed, Touched, BothMeanwhile}

pub no : (b : Bool) → b ≡ true → b ≡ false → ⊥
no b p q = cc

pub ne12 : Ckpt1 ≢ Ckpt2
ne12 e = absurd (cc)

pub ne21 : Ckpt2 ≢ Ckpt1
ne21 e = absurd (cc)

-- a copy that is as alive at the end as at the beginning is so in between
pub between : (x y z : Bool) → (z ≡ true → y ≡ true) → (y ≡ true → x ≡ true) → z ≡ x → y ≡ x
between true true z p q e = refl
between true false z p q e = p e
between false true z p q e = sym (q refl)
between false false z p q e = refl

module _ (by : ℕ) (old new : View) (a a' b : Bool) (stopped : Bool) where
  pub acted_first : (dev : Dev) → dev ≡ Ckpt1 → Acted by dev a a' stopped old new → PairActed by a a' b b stopped old new
  acted_first dev at given =
      let x : Acted by Ckpt1 a a' stopped old new = subst (λ (d : Dev). Acted by d a a' stopped old new) at given in record {
        goes = x.goes;
        alive1 = x.alive;
        alive2 = λ is. is;
        failed1 = x.failed;
        failed2 = λ is not. absurd (no b is not);
        is_lost1 = x.is_lost;
        is_lost2 = λ is not. absurd (no b is not);
        else_lost = λ p one two. x.else_lost p one;
        else_faults = λ p one two. x.else_faults p one;
        halted = x.halted;
        at_halt = x.at_halt;
        not_operator = x.not_operator;
        stands = λ is. or_left a' b (x.stands is);
        no_other_stop = x.no_other_stop;
        loses = x.loses;
        arms = x.arms;
      }

  pub acted_second : (dev : Dev) → dev ≡ Ckpt2 → Acted by dev a a' stopped old new → PairActed by b b a a' stopped old new
  acted_second dev at given =
      let x : Acted by Ckpt2 a a' stopped old new = subst (λ (d : Dev). Acted by d a a' stopped old new) at given in record {
        goes = x.goes;
        alive1 = λ is. is;
        alive2 = x.alive;
        failed1 = λ is not. absurd (no b is not);
        failed2 = x.failed;
        is_lost1 = λ is not. absurd (no b is not);
        is_lost2 = x.is_lost;
        else_lost = λ p one two. x.else_lost p two;
        else_faults = λ p one two. x.else_faults p two;
        halted = x.halted;
        at_halt = x.at_halt;
        not_operator = x.not_operator;
        stands = λ is. or_right b a' (x.stands is);
        no_other_stop = x.no_other_stop;
        loses = x.loses;
        arms = x.arms;
      }

rose_later : (x y z : ℕ) → x ≤ y → Rose y z → Rose x z
rose_later x y z le rose = omega (arith, le, rose)

rose_more : (x y z : ℕ) → Rose x y → y ≤ z → Rose x z
rose_more x y z rose le = omega (arith, le, rose)

module _ (by : ℕ) (old mid new : View) (a a' a'' b b' b'' stopped : Bool) where
  pub acted_then : PairActed by a a' b b' false old mid → PairActed by a' a'' b' b'' stopped mid new → PairActed by a a'' b b'' stopped old new
  acted_then x y = record {
    goes = goes_on old mid new x.goes y.goes;
    alive1 = λ is. x.alive1 (y.alive1 is);
    alive2 = λ is. x.alive2 (y.alive2 is);
    failed1 = λ was not. failed Ckpt1 a' (x.failed1 was) (λ is. y.failed1 is not);
    failed2 = λ was not. failed Ckpt2 b' (x.failed2 was) (λ is. y.failed2 is not);
    is_lost1 = λ was not. is_lost Ckpt1 a' (x.is_lost1 was) (λ is. y.is_lost1 is not);
    is_lost2 = λ was not. is_lost Ckpt2 b' (x.is_lost2 was) (λ is. y.is_lost2 is not);
    else_lost = λ p one two. y.else_lost p (late p Ckpt1 a a' a'' y.alive1 x.alive1 one) (late p Ckpt2 b b' b'' y.alive2 x.alive2 two) ∙ x.else_lost p (early p Ckpt1 a a' a'' y.alive1 x.alive1 one) (early p Ckpt2 b b' b'' y.alive2 x.alive2 two);
    else_faults = λ p one two. y.else_faults p (late p Ckpt1 a a' a'' y.alive1 x.alive1 one) (late p Ckpt2 b b' b'' y.alive2 x.alive2 two) ∙ x.else_faults p (early p Ckpt1 a a' a'' y.alive1 x.alive1 one) (early p Ckpt2 b b' b'' y.alive2 x.alive2 two);
    halted = λ is. rose_later (old.stops by) (mid.stops by) (new.stops by) (x.goes.stops by) (y.halted is);
    at_halt = y.at_halt;
    not_operator = y.not_operator;
    stands = y.stands;
    no_other_stop = λ m why. y.no_other_stop m why ∙ x.no_other_stop m (inr refl);
    loses = λ d. y.loses d ∙ x.loses d;
    arms = λ m. y.arms m ∙ x.arms m;
  } where
    failed : (d : Dev) (m : Bool) → (m ≡ false → Rose (old.faults (DiskPart d)) (mid.faults (DiskPart d))) → (m ≡ true → Rose (mid.faults (DiskPart d)) (new.faults (DiskPart d))) → Rose (old.faults (DiskPart d)) (new.faults (DiskPart d))
    failed d true first then = rose_later (old.faults (DiskPart d)) (mid.faults (DiskPart d)) (new.faults (DiskPart d)) (x.goes.faults (DiskPart d)) (then refl)
    failed d false first then = rose_more (old.faults (DiskPart d)) (mid.faults (DiskPart d)) (new.faults (DiskPart d)) (first refl) (y.goes.faults (DiskPart d))

    is_lost : (d : Dev) (m : Bool) → (m ≡ false → mid.lost (DiskPart d) ≡ true) → (m ≡ true → new.lost (DiskPart d) ≡ true) → new.lost (DiskPart d) ≡ true
    is_lost d true first then = then refl
    is_lost d false first then = y.goes.lost (DiskPart d) (first refl)

    early : (p : Part) (d : Dev) (u v w : Bool) → (w ≡ true → v ≡ true) → (v ≡ true → u ≡ true) → (p ≢ DiskPart d) ⊎ (w ≡ u) → (p ≢ DiskPart d) ⊎ (v ≡ u)
    early p d u v w f g (inl ne) = inl ne
    early p d u v w f g (inr e) = inr (between u v w f g e)

    late : (p : Part) (d : Dev) (u v w : Bool) → (w ≡ true → v ≡ true) → (v ≡ true → u ≡ true) → (p ≢ DiskPart d) ⊎ (w ≡ u) → (p ≢ DiskPart d) ⊎ (w ≡ v)
    late p d u v w f g (inl ne) = inl ne
    late p d u v w f g (inr e) = inr (e ∙ sym (between u v w f g e))

module _ (P Q : Disk → Type 0) where
  pub both_first : (dev : Dev) (old new : View) → dev ≡ Ckpt1 → Meanwhile dev P old new → Q (disk_now old Ckpt2) → BothMeanwhile P Q old new
  both_first dev old new at given q =
      let m : Meanwhile Ckpt1 P old new = subst (λ (d : Dev). Meanwhile d P old new) at given in record {
        goes = m.goes;
        first = m.here;
        second = λ t le ge. subst Q (sym (m.others t le ge Ckpt2 ne21)) q;
        others = λ t le ge d one two. m.others t le ge d one;
        console = m.console;
        sides = m.sides;
        waiting = m.waiting;
      }

  pub both_second : (dev : Dev) (old new : View) → dev ≡ Ckpt2 → Meanwhile dev Q old new → P (disk_now old Ckpt1) → BothMeanwhile P Q old new
  both_second dev old new at given p =
      let m : Meanwhile Ckpt2 Q old new = subst (λ (d : Dev). Meanwhile d Q old new) at given in record {
        goes = m.goes;
        first = λ t le ge. subst P (sym (m.others t le ge Ckpt1 ne12)) p;
        second = m.here;
        others = λ t le ge d one two. m.others t le ge d two;
        console = m.console;
        sides = m.sides;
        waiting = m.waiting;
      }

  pub both_then : (old mid new : View) → BothMeanwhile P Q old mid → BothMeanwhile P Q mid new → BothMeanwhile P Q old new
  both_then old mid new x y = record {
    goes = goes_on old mid new x.goes y.goes;
    first = λ t le ge. ⊎_elim (λ h. subst (λ (w : World). P (w.disk Ckpt1)) (sym (y.goes.past t h)) (x.first t le h)) (λ h. y.first t (omega arith) ge) (either_way t mid.now);
    second = λ t le ge. ⊎_elim (λ h. subst (λ (w : World). Q (w.disk Ckpt2)) (sym (y.goes.past t h)) (x.second t le h)) (λ h. y.second t (omega arith) ge) (either_way t mid.now);
    others = λ t le ge d one two. ⊎_elim
        (λ h. ap (λ (w : World). w.disk d) (y.goes.past t h) ∙ x.others t le h d one two)
        (λ h. y.others t (omega arith) ge d one two ∙ x.others mid.now x.goes.later (omega arith) d one two)
        (either_way t mid.now);
    console = λ t le ge. ⊎_elim
        (λ h. ap (λ (w : World). w.console) (y.goes.past t h) ∙ x.console t le h)
        (λ h. y.console t (omega arith) ge ∙ x.console mid.now x.goes.later (omega arith))
        (either_way t mid.now);
    sides = sides_on old mid new x.goes y.goes x.sides y.sides;
    waiting = λ w. y.waiting w ∙ x.waiting w;
  }

-- the disk of the other copy after a call on one
pub other_disk : (dev d : Dev) (P : Disk → Type 0) (old new : View) → d ≢ dev → Meanwhile dev P old new → disk_now new d ≡ disk_now old d
other_disk dev d P old new ne m = m.others new.now m.goes.later (omega arith) d ne

-- acts on the first copy, and then on the second
module _ (P : Disk → Type 0) (Q : Disk → Disk → Type 0) where
  pub both_calls : (dev1 dev2 : Dev) (old mid new : View) → dev1 ≡ Ckpt1 → dev2 ≡ Ckpt2 → Meanwhile dev1 P old mid → Meanwhile dev2 (Q (disk_now mid dev2)) mid new → BothMeanwhile P (Q (disk_now old Ckpt2)) old new
  both_calls dev1 dev2 old mid new at1 at2 m given =
      let one : Meanwhile Ckpt1 P old mid = subst (λ (d : Dev). Meanwhile d P old mid) at1 m in
      let then : Meanwhile Ckpt2 (Q (disk_now mid Ckpt2)) mid new = subst (λ (d : Dev). Meanwhile d (Q (disk_now mid d)) mid new) at2 given in
      let e : disk_now mid Ckpt2 ≡ disk_now old Ckpt2 = other_disk Ckpt1 Ckpt2 P old mid ne21 one in
      let two : Meanwhile Ckpt2 (Q (disk_now old Ckpt2)) mid new = subst (λ (x : Disk). Meanwhile Ckpt2 (Q x) mid new) e then in
      let start : Q (disk_now old Ckpt2) (disk_now mid Ckpt2) = subst (λ (w : World). Q (disk_now old Ckpt2) (w.disk Ckpt2)) (two.goes.past mid.now (omega arith)) (two.here mid.now (omega arith) two.goes.later) in
      both_then P (Q (disk_now old Ckpt2)) old mid new
      (both_first P (Q (disk_now old Ckpt2)) Ckpt1 old mid refl one (subst (λ (x : Disk). Q (disk_now old Ckpt2) x) e start))
      (both_second P (Q (disk_now old Ckpt2)) Ckpt2 mid new refl two (meanwhile_end Ckpt1 P old mid one))

-- a copy that was taken away stays lost while acts are made on the other
pub gone_stays : (dev other : Dev) (a a' : Bool) (P : Disk → Type 0) (mid new : View) → dev ≢ other → IsGone dev a a' mid → Meanwhile other P mid new → IsGone dev a a' new
gone_stays dev other a a' P mid new ne gone m was not lt =
    let le : mid.now ≤ new.now = m.goes.later in
    ap (λ (d : Disk). d.lost) (other_disk other dev P mid new ne m) ∙ gone was not (omega (arith, le, lt))

-- what isn't acted on is untouched
pub forms_start : (alive : Bool) (reads : List ℕ → Option (List ℕ)) (pages : List ℕ) (d : Disk) → Touched alive (EachForms reads d pages) d d
forms_start true reads pages d = λ image is. inr (inr (image, is, record { size = refl; before = refl; after = refl }))
forms_start false reads pages d = refl

pub same_start : (alive : Bool) (P : Disk → Type 0) (d : Disk) → (alive ≡ true → P d) → Touched alive P d d
same_start true P d here = here refl
same_start false P d here = refl

pub no_more_start : (d : Disk) → NoMore d d
no_more_start d = record { bytes = refl; unsynced = λ s avoids. avoids; there = λ is. is }
