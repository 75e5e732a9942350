-- Looks at the spool volumes, one after another.
use Rattle.std.proofs.Common.{◌≡◌, ◌≢◌, inl, inr, ⊎_elim, ℕ, ◌≤◌, ◌<◌, ◌==◌, Bool, true, false, List, [], ◌∷◌, length, get_or, refl, sym, ◌∙◌, ap, subst, arith}
use Rattle.std.proofs.lemmas.Bool.{eqb-true, eqb-false}
use Rattle.std.proofs.lemmas.List.Elements.{All-cons, All-get_or, All-head, All-nil}
use Rattle.mas_types.specs.declared.ids.Dev.{Dev}
use Rattle.mas_types.specs.declared.ids.Dev.TheVariants.{Ckpt1, Ckpt2, Spool}
use Rattle.mas_types.specs.declared.ids.GroupNo.{GroupNo}
use Rattle.spool_plant.specs.declared.plant.Part.{Part}
use Rattle.spool_plant.specs.declared.plant.Act.{Act}
use Rattle.spool_plant.specs.declared.plant.Act.TheVariants.{Done, Failed, Halted}
use Rattle.spool_plant.specs.declared.plant.Part.TheVariants.{Disk as DiskPart}
use Rattle.spool_plant.specs.View.{View, World, Disk, Stretch, Avoids, disk_at, disk_now}
use Rattle.spool_plant.specs.Acts.{Acts, Reads, ReadBy, Syncs, Synced, OnDevice, IsLostAfter, Untouched, top}
use Rattle.ckpt_copy.specs.Changes.{NoMore}
use Rattle.ckpt_copy.specs.Meanwhile.{Meanwhile, SameSides}
use Rattle.ckpt_copy.specs.Moments.{either_way, goes_on, goes_none, meanwhile_one, sides_none, sides_on}
use Rattle.spool_volumes.specs.Volumes.{AreSame, volume_of}
use Rattle.spool_volumes.specs.Looks.{OnlyLooksAt, LooksAt, IsElsewhere, SparesOthers}

-- A DEVICE

no_more_same : (old new : Disk) → new ≡ old → NoMore old new
no_more_same old new same = record {
  bytes = ap (λ (d : Disk). d.bytes) same;
  unsynced = λ s avoids. subst (λ (d : Disk). Avoids d.unsynced s) (sym same) avoids;
  there = λ t. ap (λ (d : Disk). d.lost) (sym same) ∙ t;
}

no_more_then : (old mid new : Disk) → NoMore old mid → NoMore mid new → NoMore old new
no_more_then old mid new first then = record {
  bytes = then.bytes ∙ first.bytes;
  unsynced = λ s avoids. then.unsynced s (first.unsynced s avoids);
  there = λ t. first.there (then.there t);
}

no_more_untouched : (old new : Disk) → Untouched old new → (new.lost ≡ false → old.lost ≡ false) → NoMore old new
no_more_untouched old new same back = record {
  bytes = same.bytes;
  unsynced = λ s avoids. subst (λ (u : List Stretch). Avoids u s) (sym same.unsynced) avoids;
  there = back;
}

no_more_read : (at : ℕ) (into : List ℕ) (old new : Disk) (act : Act) → ReadBy at into old new act → (act ≡ Failed → new.lost ≡ false → old.lost ≡ false) → NoMore old new
no_more_read at into old new Done read back = no_more_same old new read.0
no_more_read at into old new Halted read back = no_more_same old new read
no_more_read at into old new Failed read back = no_more_untouched old new read (back refl)

no_more_sync : (old new : Disk) (act : Act) → Synced old new act → (act ≡ Failed → new.lost ≡ false → old.lost ≡ false) → NoMore old new
no_more_sync old new Done synced back = record {
  bytes = synced.0;
  unsynced = λ s avoids. subst (λ (u : List Stretch). Avoids u s) (sym synced.1) tt;
  there = λ t. sym synced.2 ∙ t;
}
no_more_sync old new Halted synced back = no_more_same old new synced
no_more_sync old new Failed synced back = no_more_untouched old new synced (back refl)

-- ONE ACT

module _ (by : ℕ) (dev : Dev) (old new : View) (act : Act) (acts : Acts by (DiskPart dev) old new act) where
  -- a device that isn't lost after it wasn't before
  back : IsLostAfter dev old new act → act ≡ Failed → (disk_now new dev).lost ≡ false → (disk_now old dev).lost ≡ false
  back lost failed there = ⊎_elim stays (λ below. let gone : (disk_now new dev).lost ≡ true = lost failed below in absurd (cc)) (either_way top old.now) where
    stays : top ≤ old.now → (disk_now old dev).lost ≡ false
    stays late =
        let same : new.now ≡ old.now = omega (arith, acts.time, acts.goes.later, late) in
        sym (ap (λ (w : World). (w.disk dev).lost) (ap new.world same ∙ acts.goes.past old.now (omega arith))) ∙ there

  meanwhile : NoMore (disk_now old dev) (disk_now new dev) → OnDevice dev old new → Meanwhile dev (NoMore (disk_now old dev)) old new
  meanwhile after only =
      meanwhile_one dev (NoMore (disk_now old dev)) old new acts.goes (omega (arith, acts.time)) only (no_more_same (disk_now old dev) (disk_now old dev) refl) after

-- what is done on one volume is done on all
only_on : (v : ℕ) (old new : View) → Meanwhile (Spool v) (NoMore (disk_now old (Spool v))) old new → OnlyLooksAt old new
only_on v old new on = record {
  goes = on.goes;
  volumes = λ t le ge n. by_volume t le ge n (n == v) refl;
  first = λ t le ge. on.others t le ge Ckpt1 (λ e. absurd (cc));
  second = λ t le ge. on.others t le ge Ckpt2 (λ e. absurd (cc));
  console = on.console;
  sides = on.sides;
} where
  by_volume : (t : ℕ) → old.now ≤ t → t ≤ new.now → (n : ℕ) (b : Bool) → (n == v) ≡ b → NoMore (disk_now old (Spool n)) (disk_at new t (Spool n))
  by_volume t le ge n true e = subst (λ (m : ℕ). NoMore (disk_now old (Spool m)) (disk_at new t (Spool m))) (sym (eqb-true n v e)) (on.here t le ge)
  by_volume t le ge n false e = no_more_same (disk_now old (Spool n)) (disk_at new t (Spool n)) (on.others t le ge (Spool n) (λ same. eqb-false n v e (cc same)))

module _ (tells : Type 0) (by v : ℕ) (old new : View) (act : Act) (acts : Acts by (DiskPart (Spool v)) old new act) where
  looks_one : (tells → OnlyLooksAt old new) → LooksAt tells by old new
  looks_one during = record {
    goes = acts.goes;
    during = during;
    else_lost = λ p ne. acts.else_lost p (inl (ne v));
    loses = acts.loses;
    no_other_stop = λ m why. acts.no_other_stop m (⊎_elim inl (λ none. inr (λ halted. absurd (omega (arith, acts.not_operator halted, none)))) why);
  }

  pub looks_read : (at : ℕ) (into : List ℕ) → (tells → Reads (Spool v) at old new into act) → LooksAt tells by old new
  looks_read at into content = looks_one (λ told.
      let read = content told in
      only_on v old new (meanwhile by (Spool v) old new act acts (no_more_read at into (disk_now old (Spool v)) (disk_now new (Spool v)) act read.disk (back by (Spool v) old new act acts read.lost)) read.only))

  pub looks_sync : (tells → Syncs (Spool v) old new act) → LooksAt tells by old new
  looks_sync content = looks_one (λ told.
      let synced = content told in
      only_on v old new (meanwhile by (Spool v) old new act acts (no_more_sync (disk_now old (Spool v)) (disk_now new (Spool v)) act synced.disk (back by (Spool v) old new act acts synced.lost)) synced.only))

-- NONE, AND TWO

pub looks_none : (tells : Type 0) (by : ℕ) (v : View) → LooksAt tells by v v
looks_none tells by v = record {
  goes = goes_none v;
  during = λ told. record {
    goes = goes_none v;
    volumes = λ t le ge n. let e : v.now ≡ t = omega arith in subst (λ (m : ℕ). NoMore (disk_now v (Spool n)) (disk_at v m (Spool n))) e (no_more_same (disk_now v (Spool n)) (disk_now v (Spool n)) refl);
    first = λ t le ge. let e : t ≡ v.now = omega arith in ap (λ (m : ℕ). disk_at v m Ckpt1) e;
    second = λ t le ge. let e : t ≡ v.now = omega arith in ap (λ (m : ℕ). disk_at v m Ckpt2) e;
    console = λ t le ge. let e : t ≡ v.now = omega arith in ap (λ (m : ℕ). (v.world m).console) e;
    sides = λ t le ge. let e : v.now ≡ t = omega arith in subst (λ (m : ℕ). SameSides (v.world v.now) (v.world m)) e (sides_none (v.world v.now));
  };
  else_lost = λ p ne. refl;
  loses = λ d. refl;
  no_other_stop = λ m why. refl;
}

module _ (old mid new : View) where
  only_then : OnlyLooksAt old mid → OnlyLooksAt mid new → OnlyLooksAt old new
  only_then x y = record {
    goes = goes_on old mid new x.goes y.goes;
    volumes = λ t le ge n. ⊎_elim
        (λ h. subst (λ (w : World). NoMore (disk_now old (Spool n)) (w.disk (Spool n))) (sym (y.goes.past t h)) (x.volumes t le h n))
        (λ h. no_more_then (disk_now old (Spool n)) (disk_now mid (Spool n)) (disk_at new t (Spool n)) (x.volumes mid.now x.goes.later (omega arith) n) (y.volumes t (omega arith) ge n))
        (either_way t mid.now);
    first = λ t le ge. ⊎_elim
        (λ h. ap (λ (w : World). w.disk Ckpt1) (y.goes.past t h) ∙ x.first t le h)
        (λ h. y.first t (omega arith) ge ∙ x.first mid.now x.goes.later (omega arith))
        (either_way t mid.now);
    second = λ t le ge. ⊎_elim
        (λ h. ap (λ (w : World). w.disk Ckpt2) (y.goes.past t h) ∙ x.second t le h)
        (λ h. y.second t (omega arith) ge ∙ x.second mid.now x.goes.later (omega arith))
        (either_way t mid.now);
    console = λ t le ge. ⊎_elim
        (λ h. ap (λ (w : World). w.console) (y.goes.past t h) ∙ x.console t le h)
        (λ h. y.console t (omega arith) ge ∙ x.console mid.now x.goes.later (omega arith))
        (either_way t mid.now);
    sides = sides_on old mid new x.goes y.goes x.sides y.sides;
  }

  pub looks_then : (tells : Type 0) (by : ℕ) → LooksAt tells by old mid → LooksAt tells by mid new → LooksAt tells by old new
  looks_then tells by x y = record {
    goes = goes_on old mid new x.goes y.goes;
    during = λ told. only_then (x.during told) (y.during told);
    else_lost = λ p ne. y.else_lost p ne ∙ x.else_lost p ne;
    loses = λ d. y.loses d ∙ x.loses d;
    no_other_stop = λ m why. y.no_other_stop m why ∙ x.no_other_stop m why;
  }

-- WHAT READS OF GROUPS SPARE

pub spares_none : (by per : ℕ) (groups : List GroupNo) (v : View) → SparesOthers by per groups false v v
spares_none by per groups v = record { lost = λ p else. refl; faults = λ p else. refl; stops = λ m why. refl; at_halt = λ is. absurd (cc) }

-- an act on the volume of a group
pub spares_act : (by per : ℕ) (g : GroupNo) (stopped : Bool) (old new : View) (act : Act) → (stopped ≡ false → act ≢ Halted) → (stopped ≡ true → act ≡ Halted) → Acts by (DiskPart (Spool (volume_of per g))) old new act → SparesOthers by per (g ∷ []) stopped old new
spares_act by per g stopped old new act why so acts = record {
  lost = λ p else. acts.else_lost p (inl (apart p else));
  faults = λ p else. acts.else_faults p (inl (apart p else));
  stops = λ m other. acts.no_other_stop m (⊎_elim inl (λ none. inr (why none)) other);
  at_halt = λ is. acts.at_halt (so is);
} where
  apart : (p : Part) → IsElsewhere per (g ∷ []) p → p ≢ DiskPart (Spool (volume_of per g))
  apart p else = All-head (λ h. p ≢ DiskPart (Spool (volume_of per h))) g [] else

-- acts on the volumes of the groups, and of one more of them
pub spares_then : (by per : ℕ) (groups : List GroupNo) (i : ℕ) (d : GroupNo) (stopped : Bool) (old mid new : View) → i < length groups
    → SparesOthers by per groups false old mid → SparesOthers by per (get_or groups i d ∷ []) stopped mid new → SparesOthers by per groups stopped old new
spares_then by per groups i d stopped old mid new there x y = record {
  lost = λ p else. y.lost p (one p else) ∙ x.lost p else;
  faults = λ p else. y.faults p (one p else) ∙ x.faults p else;
  stops = λ m why. y.stops m why ∙ x.stops m (inr refl);
  at_halt = y.at_halt;
} where
  one : (p : Part) → IsElsewhere per groups p → IsElsewhere per (get_or groups i d ∷ []) p
  one p else =
      let P : GroupNo → Type 0 = λ h. p ≢ DiskPart (Spool (volume_of per h)) in
      All-cons P (get_or groups i d) [] (All-get_or P groups i d there else) (All-nil P)

-- what is left of each device at the end

pub still : (old new : View) → OnlyLooksAt old new → (n : ℕ) → NoMore (disk_now old (Spool n)) (disk_now new (Spool n))
still old new only n = only.volumes new.now only.goes.later (omega arith) n

pub same_bytes : (old new : View) → OnlyLooksAt old new → AreSame old new
same_bytes old new only Ckpt1 = ap (λ (d : Disk). d.bytes) (only.first new.now only.goes.later (omega arith))
same_bytes old new only Ckpt2 = ap (λ (d : Disk). d.bytes) (only.second new.now only.goes.later (omega arith))
same_bytes old new only (Spool n) = (still old new only n).bytes
