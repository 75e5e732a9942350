-- Calls that only read, one after another.
use Rattle.std.proofs.Common.{◌≡◌, ◌≢◌, ◌⊎◌, inl, inr, ⊎_elim, ℕ, ◌≤◌, ◌==◌, Bool, true, false, List, refl, sym, ◌∙◌, ap, subst, arith}
use Rattle.std.proofs.lemmas.Bool.{eqb-true, eqb-false}
use Rattle.mas_types.specs.declared.ids.Dev.{Dev}
use Rattle.mas_types.specs.declared.ids.Dev.TheVariants.{Ckpt1, Ckpt2, Spool}
use Rattle.spool_plant.specs.declared.plant.Act.{Act}
use Rattle.spool_plant.specs.declared.plant.Act.TheVariants.{Done, Failed, Halted}
use Rattle.spool_plant.specs.declared.plant.Part.TheVariants.{Disk as DiskPart}
use Rattle.spool_plant.specs.View.{View, World, Disk, disk_now}
use Rattle.spool_plant.specs.Acts.{Acts, Reads, ReadBy, Untouched, Rose, top}
use Rattle.ckpt_copy.specs.Moments.{either_way, goes_on, goes_none}
use Rattle.mas_check.specs.Worlds.{IsSameDisk, IsSameWorld, HasFailed, OnlyReads}

-- A DEVICE

disk_none : (d : Disk) → IsSameDisk d d
disk_none d = record { bytes = refl; unsynced = refl; there = λ is. is }

disk_then : (a b c : Disk) → IsSameDisk a b → IsSameDisk b c → IsSameDisk a c
disk_then a b c x y = record { bytes = y.bytes ∙ x.bytes; unsynced = y.unsynced ∙ x.unsynced; there = λ is. x.there (y.there is) }

disk_same : (old new : Disk) → new ≡ old → IsSameDisk old new
disk_same old new e = record { bytes = ap (λ (d : Disk). d.bytes) e; unsynced = ap (λ (d : Disk). d.unsynced) e; there = λ is. ap (λ (d : Disk). d.lost) (sym e) ∙ is }

disk_untouched : (old new : Disk) → Untouched old new → (new.lost ≡ false → old.lost ≡ false) → IsSameDisk old new
disk_untouched old new same back = record { bytes = same.bytes; unsynced = same.unsynced; there = back }

disk_read : (at : ℕ) (into : List ℕ) (old new : Disk) (act : Act) → ReadBy at into old new act → (act ≡ Failed → new.lost ≡ false → old.lost ≡ false) → IsSameDisk old new
disk_read at into old new Done read back = disk_same old new read.0
disk_read at into old new Halted read back = disk_same old new read
disk_read at into old new Failed read back = disk_untouched old new read (back refl)

-- A WORLD

world_none : (w : World) → IsSameWorld w w
world_none w = record { disks = λ d. disk_none (w.disk d); console = refl; paper = λ m. refl; taken = λ x m. refl; given = λ x m. refl }

pub world_then : (a b c : World) → IsSameWorld a b → IsSameWorld b c → IsSameWorld a c
world_then a b c x y = record {
  disks = λ d. disk_then (a.disk d) (b.disk d) (c.disk d) (x.disks d) (y.disks d);
  console = y.console ∙ x.console;
  paper = λ m. y.paper m ∙ x.paper m;
  taken = λ w m. y.taken w m ∙ x.taken w m;
  given = λ w m. y.given w m ∙ x.given w m;
}

-- ONE READ

module _ (n at : ℕ) (old new : View) (into : List ℕ) (act : Act) (acts : Acts 0 (DiskPart (Spool n)) old new act) where
  spool_ne : (m : ℕ) → (m == n) ≡ false → Spool m ≢ Spool n
  spool_ne m e same = eqb-false m n e (cc same)

  -- a volume that isn't lost afterwards wasn't before
  back : Reads (Spool n) at old new into act → act ≡ Failed → (disk_now new (Spool n)).lost ≡ false → (disk_now old (Spool n)).lost ≡ false
  back reads failed there = ⊎_elim stays (λ below. let gone : (disk_now new (Spool n)).lost ≡ true = reads.lost failed below in absurd (cc)) (either_way top old.now) where
    stays : top ≤ old.now → (disk_now old (Spool n)).lost ≡ false
    stays late =
        let same : new.now ≡ old.now = omega (arith, acts.time, acts.goes.later, late) in
        sym (ap (λ (w : World). (w.disk (Spool n)).lost) (ap new.world same ∙ acts.goes.past old.now (omega arith))) ∙ there

  on_volume : Reads (Spool n) at old new into act → (m : ℕ) (b : Bool) → (m == n) ≡ b → IsSameDisk (disk_now old (Spool m)) (disk_now new (Spool m))
  on_volume reads m true e = subst (λ (k : ℕ). IsSameDisk (disk_now old (Spool k)) (disk_now new (Spool k))) (sym (eqb-true m n e)) (disk_read at into (disk_now old (Spool n)) (disk_now new (Spool n)) act reads.disk (back reads))
  on_volume reads m false e = disk_same (disk_now old (Spool m)) (disk_now new (Spool m)) (reads.only.others (Spool m) (spool_ne m e))

  on_device : Reads (Spool n) at old new into act → (d : Dev) → IsSameDisk (disk_now old d) (disk_now new d)
  on_device reads Ckpt1 = disk_same (disk_now old Ckpt1) (disk_now new Ckpt1) (reads.only.others Ckpt1 (λ e. absurd (cc)))
  on_device reads Ckpt2 = disk_same (disk_now old Ckpt2) (disk_now new Ckpt2) (reads.only.others Ckpt2 (λ e. absurd (cc)))
  on_device reads (Spool m) = on_volume reads m (m == n) refl

  world_read : Reads (Spool n) at old new into act → IsSameWorld (old.world old.now) (new.world new.now)
  world_read reads = record {
    disks = on_device reads;
    console = reads.only.console;
    paper = reads.only.paper;
    taken = reads.only.wires.taken;
    given = reads.only.wires.given;
  }

  -- the moments of an act are the one before it and the one that it made
  world_at : Reads (Spool n) at old new into act → (t : ℕ) → old.now ≤ t → t ≤ new.now → IsSameWorld (old.world old.now) (new.world t)
  world_at reads t le ge = ⊎_elim
      (λ early.
      let e : old.now ≡ t = omega arith in
      subst (λ (w : World). IsSameWorld (old.world old.now) w) (sym (acts.goes.past t early)) (subst (λ (m : ℕ). IsSameWorld (old.world old.now) (old.world m)) e (world_none (old.world old.now))))
      (λ late. let e : new.now ≡ t = omega (arith, acts.time) in subst (λ (m : ℕ). IsSameWorld (old.world old.now) (new.world m)) e (world_read reads))
      (either_way t old.now)

  lost_volume : (a : Act) → act ≡ a → (m : ℕ) (b : Bool) → (m == n) ≡ b → (new.lost (DiskPart (Spool m)) ≡ old.lost (DiskPart (Spool m))) ⊎ HasFailed m old new
  lost_volume Failed is m true e =
      let same : n ≡ m = sym (eqb-true m n e) in
      inr (subst (λ (k : ℕ). HasFailed k old new) same (acts.is_lost is, acts.failed is))
  lost_volume a is m false e = inl (acts.else_lost (DiskPart (Spool m)) (inl (λ s. eqb-false m n e (cc s))))
  lost_volume Done is m true e = inl (acts.else_lost (DiskPart (Spool m)) (inr (λ f. absurd (let w : Done ≡ Failed = sym is ∙ f in cc))))
  lost_volume Halted is m true e = inl (acts.else_lost (DiskPart (Spool m)) (inr (λ f. absurd (let w : Halted ≡ Failed = sym is ∙ f in cc))))

  pub reads_one : (tells : Type 0) → (tells → Reads (Spool n) at old new into act) → OnlyReads tells old new
  reads_one tells content = record {
    goes = acts.goes;
    worlds = λ told. world_at (content told);
    waiting = λ told. (content told).only.wires.waiting;
    lost = λ m. lost_volume act refl m (m == n) refl;
    else_lost = λ p ne. acts.else_lost p (inl (ne n));
    loses = acts.loses;
    stops = λ m. acts.no_other_stop m (inr (λ halted. absurd (omega (arith, acts.not_operator halted))));
    arms = acts.arms;
  }

-- NO READS, AND READS ONE AFTER ANOTHER

pub reads_none : (tells : Type 0) (v : View) → OnlyReads tells v v
reads_none tells v = record {
  goes = goes_none v;
  worlds = λ told t le ge. let e : v.now ≡ t = omega arith in subst (λ (m : ℕ). IsSameWorld (v.world v.now) (v.world m)) e (world_none (v.world v.now));
  waiting = λ told w. refl;
  lost = λ n. inl refl;
  else_lost = λ p ne. refl;
  loses = λ d. refl;
  stops = λ m. refl;
  arms = λ m. refl;
}

module _ (tells : Type 0) (old mid new : View) (x : OnlyReads tells old mid) (y : OnlyReads tells mid new) where
  failed_first : (n : ℕ) → HasFailed n old mid → HasFailed n old new
  failed_first n f = (y.goes.lost (DiskPart (Spool n)) f.0, omega (arith, f.1, y.goes.faults (DiskPart (Spool n))))

  failed_then : (n : ℕ) → HasFailed n mid new → HasFailed n old new
  failed_then n f = (f.0, rose_then (old.faults (DiskPart (Spool n))) (mid.faults (DiskPart (Spool n))) (new.faults (DiskPart (Spool n))) (x.goes.faults (DiskPart (Spool n))) f.1) where
    rose_then : (a b c : ℕ) → a ≤ b → Rose b c → Rose a c
    rose_then a b c le rose = omega (arith, le, rose)

  pub reads_then : OnlyReads tells old new
  reads_then = record {
    goes = goes_on old mid new x.goes y.goes;
    worlds = λ told t le ge. ⊎_elim
        (λ h. subst (λ (w : World). IsSameWorld (old.world old.now) w) (sym (y.goes.past t h)) (x.worlds told t le h))
        (λ h. world_then (old.world old.now) (mid.world mid.now) (new.world t) (x.worlds told mid.now x.goes.later (omega arith)) (y.worlds told t (omega arith) ge))
        (either_way t mid.now);
    waiting = λ told w. y.waiting told w ∙ x.waiting told w;
    lost = λ n. ⊎_elim
        (λ same. ⊎_elim (λ before. inl (same ∙ before)) (λ f. inr (failed_first n f)) (x.lost n))
        (λ f. inr (failed_then n f))
        (y.lost n);
    else_lost = λ p ne. y.else_lost p ne ∙ x.else_lost p ne;
    loses = λ d. y.loses d ∙ x.loses d;
    stops = λ m. y.stops m ∙ x.stops m;
    arms = λ m. y.arms m ∙ x.arms m;
  }

-- the bytes of a device afterwards
pub same_bytes : (tells : Type 0) (old new : View) → tells → OnlyReads tells old new → (d : Dev) → (disk_now new d).bytes ≡ (disk_now old d).bytes
same_bytes tells old new told reads d = ((reads.worlds told new.now reads.goes.later (omega arith)).disks d).bytes
