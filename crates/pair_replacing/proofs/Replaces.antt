-- How the calls of a replacement make the whole.
use Rattle.std.proofs.Common.{◌≡◌, ◌≢◌, ◌⊎◌, inl, inr, ⊎_elim, ℕ, ◌+◌, ◌≤◌, ◌<◌, Bool, true, false, List, [], length, take, drop, replicate, Option, Some, None, refl, sym, ◌∙◌, ap, subst, arith}
use Rattle.std.proofs.Math.Seq.{take-length}
use Rattle.mas_types.specs.declared.ids.Dev.{Dev}
use Rattle.spool_plant.specs.declared.plant.Part.TheVariants.{Disk as DiskPart}
use Rattle.spool_plant.specs.declared.plant.Act.{Act}
use Rattle.spool_plant.specs.declared.plant.Act.TheVariants.{Done, Failed, Halted}
use Rattle.spool_plant.specs.View.{View, World, Disk, Stretch, Avoids, IsImage, disk_at, disk_now, LeavesOnly, slice}
use Rattle.spool_plant.specs.Acts.{Rose, DiffersIn, Renews, RenewsThere, OnDevice, top}
use Rattle.ckpt_copy.specs.Causes.{Caused}
use Rattle.ckpt_copy.specs.Meanwhile.{Meanwhile, SameSides}
use Rattle.ckpt_copy.specs.Moments.{either_way, meanwhile_weaker, sides_none}
use Rattle.ckpt_copy.specs.Reading.{EachForms, IsOfOld}
use Rattle.pair_replacing.specs.Replacing.{Replaces, WhileReplaced, IsOrBlank, IsBlank, IsOrForms}

pub renewed : (dev : Dev) (old new : View) (act : Act) → Renews dev old new act → Replaces 0 dev false old new
renewed dev old new act renews = record {
  later = renews.later;
  past = renews.past;
  size = renews.size;
  faults = renews.faults;
  stops = λ m. omega (arith, renews.stops m);
  else_lost = renews.else_lost;
  else_faults = renews.else_faults;
  halted = λ is. absurd (cc);
  at_halt = λ is. absurd (cc);
  not_operator = λ is. absurd (cc);
  no_other_stop = λ m why. renews.stops m;
  loses = renews.loses;
  arms = renews.arms;
}

-- a device is renewed, and then a member forms a copy on it
pub renewed_then : (by : ℕ) (dev : Dev) (stopped : Bool) (old mid new : View) (answer : Act) → (stopped ≡ true → answer ≡ Halted) → (stopped ≡ false → answer ≢ Halted)
    → Replaces 0 dev false old mid → Caused by dev mid new answer → Replaces by dev stopped old new
renewed_then by dev stopped old mid new answer is is_not one two = record {
  later = omega (arith, one.later, two.goes.later);
  past = λ t le. two.goes.past t (omega (arith, one.later, le)) ∙ one.past t le;
  size = λ d. two.goes.size d ∙ one.size d;
  faults = λ p. omega (arith, one.faults p, two.goes.faults p);
  stops = λ m. omega (arith, one.stops m, two.goes.stops m);
  else_lost = λ p ne. two.else_lost p (inl ne) ∙ one.else_lost p ne;
  else_faults = λ p ne. two.else_faults p (inl ne) ∙ one.else_faults p ne;
  halted = λ so. let e : mid.stops by ≡ old.stops by = one.no_other_stop by (inr refl) in subst (λ (n : ℕ). Rose n (new.stops by)) e (two.halted (is so));
  at_halt = λ so. two.at_halt (is so);
  not_operator = λ so. two.not_operator (is so);
  no_other_stop = λ m why. two.no_other_stop m (⊎_elim (λ ne. inl ne) (λ so. inr (is_not so)) why) ∙ one.no_other_stop m (inr refl);
  loses = λ d. two.loses d ∙ one.loses d;
  arms = λ m. two.arms m ∙ one.arms m;
}

-- a moment of a call of one act
moment_of : (old new t : ℕ) → new ≤ old + 1 → old ≤ t → t ≤ new → (t ≡ old) ⊎ (t ≡ new)
moment_of old new t one le ge = ⊎_elim (λ h. inl (omega arith)) (λ h. inr (omega arith)) (either_way t old)

module _ (dev : Dev) (P : Disk → Type 0) where
  pub while_one : (old new : View) → Replaces 0 dev false old new → new.now ≤ old.now + 1 → OnDevice dev old new → P (disk_now old dev) → P (disk_now new dev) → WhileReplaced dev P old new
  while_one old new goes one only before after = record {
    here = λ t le ge. ⊎_elim
        (λ e. subst (λ (w : World). P (w.disk dev)) (sym (ap new.world e ∙ goes.past old.now (omega arith))) before)
        (λ e. subst (λ (m : ℕ). P (disk_at new m dev)) (sym e) after)
        (moment_of old.now new.now t one le ge);
    others = λ t le ge d ne. ⊎_elim
        (λ e. ap (λ (w : World). w.disk d) (ap new.world e ∙ goes.past old.now (omega arith)))
        (λ e. ap (λ (m : ℕ). disk_at new m d) e ∙ only.others d ne)
        (moment_of old.now new.now t one le ge);
    console = λ t le ge. ⊎_elim
        (λ e. ap (λ (w : World). w.console) (ap new.world e ∙ goes.past old.now (omega arith)))
        (λ e. ap (λ (m : ℕ). (new.world m).console) e ∙ only.console)
        (moment_of old.now new.now t one le ge);
    sides = λ t le ge. ⊎_elim
        (λ e. subst (λ (w : World). SameSides (old.world old.now) w) (sym (ap new.world e ∙ goes.past old.now (omega arith))) (sides_none (old.world old.now)))
        (λ e. subst (λ (m : ℕ). SameSides (old.world old.now) (new.world m)) (sym e) (record { paper = only.paper; taken = only.wires.taken; given = only.wires.given }))
        (moment_of old.now new.now t one le ge);
    waiting = only.wires.waiting;
  }

  pub while_weaker : (Q : Disk → Type 0) (old new : View) → WhileReplaced dev P old new → ((d : Disk) → P d → Q d) → WhileReplaced dev Q old new
  while_weaker Q old new so weaker = record { here = λ t le ge. weaker (disk_at new t dev) (so.here t le ge); others = so.others; console = so.console; sides = so.sides; waiting = so.waiting }

  pub while_then : (by : ℕ) (stopped : Bool) (old mid new : View) → Replaces by dev stopped old mid → WhileReplaced dev P old mid → Meanwhile dev P mid new → WhileReplaced dev P old new
  while_then by stopped old mid new goes first then = record {
    here = λ t le ge. ⊎_elim
        (λ h. subst (λ (w : World). P (w.disk dev)) (sym (then.goes.past t h)) (first.here t le h))
        (λ h. then.here t (omega arith) ge)
        (either_way t mid.now);
    others = λ t le ge d ne. ⊎_elim
        (λ h. ap (λ (w : World). w.disk d) (then.goes.past t h) ∙ first.others t le h d ne)
        (λ h. then.others t (omega arith) ge d ne ∙ first.others mid.now goes.later (omega arith) d ne)
        (either_way t mid.now);
    console = λ t le ge. ⊎_elim
        (λ h. ap (λ (w : World). w.console) (then.goes.past t h) ∙ first.console t le h)
        (λ h. then.console t (omega arith) ge ∙ first.console mid.now goes.later (omega arith))
        (either_way t mid.now);
    sides = λ t le ge. ⊎_elim
        (λ h. subst (λ (w : World). SameSides (old.world old.now) w) (sym (then.goes.past t h)) (first.sides t le h))
        (λ h. sides_then (old.world old.now) (mid.world mid.now) (new.world t) (first.sides mid.now goes.later (omega arith)) (then.sides t (omega arith) ge))
        (either_way t mid.now);
    waiting = λ w. then.waiting w ∙ first.waiting w;
  } where
    sides_then : (a b c : World) → SameSides a b → SameSides b c → SameSides a c
    sides_then a b c x y = record { paper = λ m. y.paper m ∙ x.paper m; taken = λ w m. y.taken w m ∙ x.taken w m; given = λ w m. y.given w m ∙ x.given w m }

-- a device that a renewal failed on isn't there where it wasn't
failed_there : (dev : Dev) (old new : View) → Renews dev old new Failed → RenewsThere dev old new Failed → (disk_now new dev).lost ≡ false → (disk_now old dev).lost ≡ false
failed_there dev old new renews there is = ⊎_elim
    (λ (h : top ≤ old.now).
    let le : new.now ≤ old.now = omega (arith, h, renews.time) in
    let e : new.now ≡ old.now = omega (arith, le, renews.later) in
    let w : new.world new.now ≡ old.world old.now = renews.past new.now le ∙ ap old.world e in
    sym (ap (λ (x : World). (x.disk dev).lost) w) ∙ is)
    (λ (h : old.now < top). absurd (both (disk_now new dev).lost (there.lost refl h) is))
    (either_way top old.now)
  where
    both : (b : Bool) → b ≡ true → b ≡ false → ⊥
    both b p q = cc

-- an act that renews leaves the device as it was, or one of zeros
pub renewed_disk : (dev : Dev) (old new : View) (act : Act) → Renews dev old new act → RenewsThere dev old new act → IsOrBlank (old.size dev) (disk_now old dev) (disk_now new dev)
renewed_disk dev old new Done renews there = inr (record { bytes = there.disk.0; synced = there.disk.1 })
renewed_disk dev old new Failed renews there = inl (record { bytes = there.disk.bytes; unsynced = there.disk.unsynced; there = failed_there dev old new renews there })
renewed_disk dev old new Halted renews there = inl (record { bytes = ap (λ (d : Disk). d.bytes) there.disk; unsynced = ap (λ (d : Disk). d.unsynced) there.disk; there = λ is. sym (ap (λ (d : Disk). d.lost) there.disk) ∙ is })

-- a device of zeros has the image of zeros alone
blank_image : (size : ℕ) (disk : Disk) (image : List ℕ) → IsBlank size disk → IsImage disk image → image ≡ replicate size 0
blank_image size disk image blank is =
    let here : slice 0 (length disk.bytes) image ≡ slice 0 (length disk.bytes) disk.bytes = is.synced (record { from = 0; len = length disk.bytes }) (subst (λ (s : List Stretch). Avoids s (record { from = 0; len = length disk.bytes })) (sym blank.synced) tt) in
    let whole : take (length image) image ≡ take (length disk.bytes) disk.bytes = ap (λ (n : ℕ). take n image) is.size ∙ here in
    sym (take-length image) ∙ whole ∙ take-length disk.bytes ∙ blank.bytes

module _ (reads : List ℕ → Option (List ℕ)) (pages : List ℕ) (size : ℕ) (blank_reads : (image : List ℕ) → DiffersIn 0 1 (replicate size 0) image → reads image ≡ None) where
  -- while a copy is formed on a device of zeros, an image of it reads as none or as the pages
  pub forms_blank : (was disk : Disk) → IsBlank size was → EachForms reads was pages disk → LeavesOnly disk (λ image. (reads image ≡ None) ⊎ (reads image ≡ Some pages))
  forms_blank was disk blank forms image is = ⊎_elim (λ none. inl none) (λ others. ⊎_elim (λ some. inr some) (λ old. inl (of_old old)) others) (forms image is) where
    of_old : IsOfOld was image → reads image ≡ None
    of_old (before, from, differs) = blank_reads image (subst (λ (b : List ℕ). DiffersIn 0 1 b image) (blank_image size was before blank from) differs)

  -- before a copy is formed on a device of zeros, each image of it reads as none
  pub blank_forms : (disk : Disk) → IsBlank size disk → LeavesOnly disk (λ image. (reads image ≡ None) ⊎ (reads image ≡ Some pages))
  blank_forms disk blank image is =
      inl (blank_reads image (subst (λ (b : List ℕ). DiffersIn 0 1 (replicate size 0) b) (sym (blank_image size disk image blank is)) (record { size = refl; before = refl; after = refl })))

  pub or_forms : (was disk : Disk) → IsOrBlank size was disk → IsOrForms reads was pages disk
  or_forms was disk is = ⊎_elim (λ same. inl same) (λ blank. inr (blank_forms disk blank)) is

  module _ (dev : Dev) (old mid : View) (renews : WhileReplaced dev (IsOrBlank size (disk_now old dev)) old mid) where
    abbrev P : Disk → Type 0
    P = IsOrForms reads (disk_now old dev) pages

    -- the device up to its renewal
    pub while_renewed : WhileReplaced dev (IsOrForms reads (disk_now old dev) pages) old mid
    while_renewed = while_weaker dev (IsOrBlank size (disk_now old dev)) P old mid renews (λ d is. or_forms (disk_now old dev) d is)

    -- the device up to its renewal, and while the copy is formed on it
    pub while_formed : (at : Dev) (new : View) → dev ≡ at → Replaces 0 dev false old mid → IsBlank size (disk_now mid dev) → Meanwhile at (EachForms reads (disk_now mid at) pages) mid new
        → WhileReplaced dev (IsOrForms reads (disk_now old dev) pages) old new
    while_formed at new same goes blank given =
        let forms : Meanwhile dev (EachForms reads (disk_now mid dev) pages) mid new = subst (λ (d : Dev). Meanwhile d (EachForms reads (disk_now mid d) pages) mid new) (sym same) given in
        while_then dev P 0 false old mid new goes while_renewed
        (meanwhile_weaker dev (EachForms reads (disk_now mid dev) pages) P mid new forms (λ d each. inr (forms_blank (disk_now mid dev) d blank each)))
