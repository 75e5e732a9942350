-- How a run of acts on one device goes on.
use Rattle.std.proofs.Common.{◌≡◌, ◌⊎◌, inl, inr, ⊎_elim, ℕ, ◌+◌, ◌≤◌, ◌<◌, refl, sym, ◌∙◌, ap, subst, arith, Bool, true, false, nat_le}
use Rattle.std.proofs.lemmas.Bool.Decides.{nat_tests}
use Rattle.mas_types.specs.declared.ids.Dev.{Dev}
use Rattle.spool_plant.specs.View.{View, World, Disk, disk_at, disk_now, Throughout}
use Rattle.spool_plant.specs.Acts.{Goes, OnDevice}
use Rattle.ckpt_copy.specs.Meanwhile.{Meanwhile, SameSides}

-- one of two numbers is not above the other
pub either_way : (a b : ℕ) → (a ≤ b) ⊎ (b < a)
either_way a b = by_test (nat_le a b) refl where
  by_test : (t : Bool) → nat_le a b ≡ t → (a ≤ b) ⊎ (b < a)
  by_test true e = inl (grind (arith, nat_tests))
  by_test false e = inr (grind (arith, nat_tests))

pub goes_on : (old mid new : View) → Goes old mid → Goes mid new → Goes old new
goes_on old mid new first then = record {
  later = omega (arith, first.later, then.later);
  past = λ t le. then.past t (omega (arith, first.later, le)) ∙ first.past t le;
  size = λ d. then.size d ∙ first.size d;
  faults = λ p. omega (arith, first.faults p, then.faults p);
  stops = λ m. omega (arith, first.stops m, then.stops m);
  lost = λ p is. then.lost p (first.lost p is);
  arms = λ m. then.arms m ∙ first.arms m;
}

pub goes_none : (v : View) → Goes v v
goes_none v = record {
  later = omega arith;
  past = λ t le. refl;
  size = λ d. refl;
  faults = λ p.
      omega arith;
  stops = λ m. omega arith;
  lost = λ p is. is;
  arms = λ m. refl;
}

-- a moment of a call of one act
moment_of : (old new t : ℕ) → new ≤ old + 1 → old ≤ t → t ≤ new → (t ≡ old) ⊎ (t ≡ new)
moment_of old new t one le ge = ⊎_elim (λ h. inl (omega arith)) (λ h. inr (omega arith)) (either_way t old)

pub sides_none : (w : World) → SameSides w w
sides_none w = record { paper = λ m. refl; taken = λ wire m. refl; given = λ wire m. refl }

sides_then : (a b c : World) → SameSides a b → SameSides b c → SameSides a c
sides_then a b c x y = record {
  paper = λ m. y.paper m ∙ x.paper m;
  taken = λ w m.
      y.taken w m ∙ x.taken w m;
  given = λ w m. y.given w m ∙ x.given w m;
}

-- printers and wires are as they were throughout two calls
pub sides_on : (old mid new : View) → Goes old mid → Goes mid new
    → Throughout old.now mid.now (λ t. SameSides (old.world old.now) (mid.world t))
    → Throughout mid.now new.now (λ t. SameSides (mid.world mid.now) (new.world t))
    → Throughout old.now new.now (λ t. SameSides (old.world old.now) (new.world t))
sides_on old mid new first then one two t le ge = ⊎_elim
    (λ h. subst (λ (w : World). SameSides (old.world old.now) w) (sym (then.past t h)) (one t le h))
    (λ h. sides_then (old.world old.now) (mid.world mid.now) (new.world t) (one mid.now first.later (omega arith))
    (two t (omega arith) ge))
    (either_way t mid.now)

module _ (dev : Dev) (P : Disk → Type 0) where
  pub meanwhile_none : (v : View) → P (disk_now v dev) → Meanwhile dev P v v
  meanwhile_none v here = record {
    goes = goes_none v;
    here = λ t le ge. let e : v.now ≡ t = omega arith in subst (λ (m : ℕ). P (disk_at v m dev)) e here;
    others = λ t le ge d ne. let e : t ≡ v.now = omega arith in ap (λ (m : ℕ). disk_at v m d) e;
    console = λ t le ge. let e : t ≡ v.now = omega arith in ap (λ (m : ℕ). (v.world m).console) e;
    sides = λ t le ge. let e : v.now
        ≡ t = omega arith in subst (λ (m : ℕ). SameSides (v.world v.now) (v.world m)) e (sides_none (v.world v.now));
    waiting = λ w. refl;
  }

  pub meanwhile_one : (old new : View) → Goes old new → new.now ≤ old.now + 1 → OnDevice dev old new
      → P (disk_now old dev) → P (disk_now new dev) → Meanwhile dev P old new
  meanwhile_one old new goes one only before after = record {
    goes = goes;
    here = λ t le ge. ⊎_elim
        (λ e. subst (λ (w : World). P (w.disk dev)) (sym (ap new.world e ∙ goes.past old.now (omega arith))) before)
        (λ e. subst (λ (m : ℕ). P (disk_at new m dev)) (sym e) after)
        (moment_of old.now new.now t one le ge);
    others = λ t le ge d ne. ⊎_elim
        (λ e. ap (λ (w : World). w.disk d) (ap new.world e ∙ goes.past old.now (omega arith)))
        (λ e. ap (λ (m : ℕ). disk_at new m d) e ∙ only.others d ne)
        (moment_of old.now new.now t one le ge);
    console = λ t le ge. ⊎_elim
        (λ e. ap (λ (w : World). w.console) (ap new.world e ∙ goes.past old.now (omega arith)))
        (λ e. ap (λ (m : ℕ). (new.world m).console) e ∙ only.console)
        (moment_of old.now new.now t one le ge);
    sides = λ t le ge. ⊎_elim
        (λ e. subst (λ (w : World). SameSides (old.world old.now) w)
        (sym (ap new.world e ∙ goes.past old.now (omega arith))) (sides_none (old.world old.now)))
        (λ e. subst (λ (m : ℕ). SameSides (old.world old.now) (new.world m)) (sym e)
        (record { paper = only.paper; taken = only.wires.taken; given = only.wires.given }))
        (moment_of old.now new.now t one le ge);
    waiting = only.wires.waiting;
  }

  pub meanwhile_weaker : (Q : Disk → Type 0) (old new : View) → Meanwhile dev P old new → ((d : Disk) → P d → Q d)
      → Meanwhile dev Q old new
  meanwhile_weaker Q old new so weaker = record {
    goes = so.goes;
    here = λ t le ge.
        weaker (disk_at new t dev) (so.here t le ge);
    others = so.others;
    console = so.console;
    sides = so.sides;
    waiting
        = so.waiting;
  }

  pub meanwhile_then : (old mid new : View) → Meanwhile dev P old mid → Meanwhile dev P mid new
      → Meanwhile dev P old new
  meanwhile_then old mid new first then = record {
    goes = goes_on old mid new first.goes then.goes;
    here = λ t le ge. ⊎_elim
        (λ h. subst (λ (w : World). P (w.disk dev)) (sym (then.goes.past t h)) (first.here t le h))
        (λ h. then.here t (omega arith) ge)
        (either_way t mid.now);
    others = λ t le ge d ne. ⊎_elim
        (λ h. ap (λ (w : World). w.disk d) (then.goes.past t h) ∙ first.others t le h d ne)
        (λ h. then.others t (omega arith) ge d ne ∙ first.others mid.now first.goes.later (omega arith) d ne)
        (either_way t mid.now);
    console = λ t le ge. ⊎_elim
        (λ h. ap (λ (w : World). w.console) (then.goes.past t h) ∙ first.console t le h)
        (λ h. then.console t (omega arith) ge ∙ first.console mid.now first.goes.later (omega arith))
        (either_way t mid.now);
    sides = sides_on old mid new first.goes then.goes first.sides then.sides;
    waiting = λ w. then.waiting w ∙ first.waiting w;
  }

  -- what holds at the last moment
  pub meanwhile_end : (old new : View) → Meanwhile dev P old new → P (disk_now new dev)
  meanwhile_end old new so = so.here new.now so.goes.later (omega arith)
