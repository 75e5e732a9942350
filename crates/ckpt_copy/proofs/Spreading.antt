-- Writes within a stretch, one after another.
use Rattle.std.proofs.Common.{◌≡◌, ℕ, ◌+◌, ◌*◌, ◌-◌, ◌≤◌, ◌<◌, List, [], ◌∷◌, ◌++◌, length, take, drop, get_or, sym, ◌∙◌, ap, subst, arith, append_assoc, inl, inr, ⊎_elim, refl, true, false}
use Rattle.std.proofs.lemmas.List.{drop-drop, take-take, take_more, append-nil}
use Rattle.std.proofs.Math.Seq.{take-add}
use Rattle.mas_types.specs.declared.ids.Dev.{Dev}
use Rattle.mas_types.specs.declared.ids.Page.{Page}
use Rattle.spool_plant.specs.declared.plant.Act.{Act}
use Rattle.spool_plant.specs.declared.plant.Act.TheVariants.{Done, Failed, Halted}
use Rattle.spool_plant.specs.declared.plant.Part.TheVariants.{Disk as DiskPart}
use Rattle.spool_plant.specs.Acts.{Acts, Writes, Written, Dirtied, top}
use Rattle.spool_plant.specs.View.{View, World, Disk, Stretch, Apart, Avoids, disk_now, slice}
use Rattle.mas_types.specs.Limits.{page_bytes}
use Rattle.ckpt_copy.specs.Changes.{Spreads}
use Rattle.ckpt_copy.specs.Meanwhile.{Meanwhile}
use Rattle.ckpt_copy.specs.Pages.{bytes_of}
use Rattle.ckpt_copy.specs.Slices.{stretch, drop_behind, slice_apart}
use Rattle.ckpt_copy.specs.Moments.{either_way, meanwhile_one, meanwhile_then, meanwhile_weaker, meanwhile_end}

pub apart_inside : (a n w k : ℕ) (s : Stretch) → a ≤ w → w + k ≤ a + n → Apart (stretch a n) s → Apart (stretch w k) s
apart_inside a n w k s from to (inl behind) = inl (omega arith)
apart_inside a n w k s from to (inr before) = inr (omega arith)

take_less : (a w : ℕ) (old new : List ℕ) → a ≤ w → take w new ≡ take w old → take a new ≡ take a old
take_less a w old new le same = sym (take-take a w new le) ∙ ap (take a) same ∙ take-take a w old le

drop_less : (b e : ℕ) (old new : List ℕ) → e ≤ b → drop e new ≡ drop e old → drop b new ≡ drop b old
drop_less b e old new le same = drop_behind b e new le ∙ ap (drop (b - e)) same ∙ sym (drop_behind b e old le)

pub spreads_inside : (a n w k : ℕ) (old new : Disk) → a ≤ w → w + k ≤ a + n → Spreads w k old new → Spreads a n old new
spreads_inside a n w k old new from to then = record {
  differs = record {
    size = then.differs.size;
    before = take_less a w old.bytes new.bytes from then.differs.before;
    after = drop_less (a + n) (w + k) old.bytes new.bytes to then.differs.after;
  };
  unsynced = λ s apart avoids. then.unsynced s (apart_inside a n w k s from to apart) avoids;
  there = then.there;
}

pub spreads_then : (a n : ℕ) (old mid new : Disk) → Spreads a n old mid → Spreads a n mid new → Spreads a n old new
spreads_then a n old mid new first then = record {
  differs = record {
    size = then.differs.size ∙ first.differs.size;
    before = then.differs.before ∙ first.differs.before;
    after = then.differs.after ∙ first.differs.after;
  };
  unsynced = λ s apart avoids. then.unsynced s apart (first.unsynced s apart avoids);
  there = λ t. first.there (then.there t);
}

-- a sync touches no byte
pub spreads_sync : (a n : ℕ) (old new : Disk) → Spreads 0 0 old new → Spreads a n old new
spreads_sync a n old new sync = record {
  differs = record { size = sync.differs.size; before = ap (take a) sync.differs.after; after = ap (drop (a + n)) sync.differs.after };
  unsynced = λ s apart avoids. sync.unsynced s (inl (omega arith)) avoids;
  there = sync.there;
}

module _ (dev : Dev) (a n : ℕ) (old mid new : View) where
  pub spread_on : (w k : ℕ) → a ≤ w → w + k ≤ a + n
      → Meanwhile dev (Spreads a n (disk_now old dev)) old mid → Meanwhile dev (Spreads w k (disk_now mid dev)) mid new
      → Meanwhile dev (Spreads a n (disk_now old dev)) old new
  spread_on w k from to first then =
      let so_far = meanwhile_end dev (Spreads a n (disk_now old dev)) old mid first in
      meanwhile_then dev (Spreads a n (disk_now old dev)) old mid new first
      (meanwhile_weaker dev (Spreads w k (disk_now mid dev)) (Spreads a n (disk_now old dev)) mid new then
      (λ d s. spreads_then a n (disk_now old dev) (disk_now mid dev) d so_far (spreads_inside a n w k (disk_now mid dev) d from to s)))

  pub spread_sync : Meanwhile dev (Spreads a n (disk_now old dev)) old mid → Meanwhile dev (Spreads 0 0 (disk_now mid dev)) mid new
      → Meanwhile dev (Spreads a n (disk_now old dev)) old new
  spread_sync first then =
      let so_far = meanwhile_end dev (Spreads a n (disk_now old dev)) old mid first in
      meanwhile_then dev (Spreads a n (disk_now old dev)) old mid new first
      (meanwhile_weaker dev (Spreads 0 0 (disk_now mid dev)) (Spreads a n (disk_now old dev)) mid new then
      (λ d s. spreads_then a n (disk_now old dev) (disk_now mid dev) d so_far (spreads_sync a n (disk_now mid dev) d s)))

pub spread_first : (dev : Dev) (a n w k : ℕ) (old new : View) → a ≤ w → w + k ≤ a + n → Meanwhile dev (Spreads w k (disk_now old dev)) old new → Meanwhile dev (Spreads a n (disk_now old dev)) old new
spread_first dev a n w k old new from to so =
    meanwhile_weaker dev (Spreads w k (disk_now old dev)) (Spreads a n (disk_now old dev)) old new so (λ d s. spreads_inside a n w k (disk_now old dev) d from to s)

pub bytes_of-push : (pages : List Page) (page : Page) → bytes_of (pages ++ page ∷ []) ≡ bytes_of pages ++ page.0
bytes_of-push [] page = append-nil page.0
bytes_of-push (first ∷ pages) page = ap (λ (l : List ℕ). first.0 ++ l) (bytes_of-push pages page) ∙ sym (append_assoc first.0 (bytes_of pages) page.0)

put_core : (start i : ℕ) (pages : List Page) (d : Page) (bytes : List ℕ) (old new : Disk) → i < length pages → bytes ≡ (get_or pages i d).0
    → slice start (page_bytes * i) old.bytes ≡ bytes_of (take i pages) → Spreads (start + page_bytes * i) page_bytes old new → slice (start + page_bytes * i) page_bytes new.bytes ≡ bytes
    → slice start (page_bytes * (i + 1)) new.bytes ≡ bytes_of (take (i + 1) pages)
put_core start i pages d bytes old new lt is before spreads put =
    let e : page_bytes * (i + 1) ≡ page_bytes * i + page_bytes = omega arith in
    ap (λ n. slice start n new.bytes) e
    ∙ take-add (page_bytes * i) page_bytes (drop start new.bytes)
    ∙ ap (λ (l : List ℕ). l ++ take page_bytes (drop (page_bytes * i) (drop start new.bytes))) (slice_apart start (page_bytes * i) (start + page_bytes * i) page_bytes old.bytes new.bytes spreads.differs (inr (omega arith)) ∙ before)
    ∙ ap (λ (l : List ℕ). bytes_of (take i pages) ++ take page_bytes l) (drop-drop (page_bytes * i) start new.bytes)
    ∙ ap (λ (l : List ℕ). bytes_of (take i pages) ++ l) (put ∙ is)
    ∙ sym (ap bytes_of (take_more pages i d lt) ∙ bytes_of-push (take i pages) (get_or pages i d))

-- one page more is written
pub page_put : (start i at : ℕ) (pages : List Page) (d : Page) (bytes : List ℕ) (old new : Disk) → i < length pages → at ≡ start + page_bytes * i → length bytes ≡ page_bytes → bytes ≡ (get_or pages i d).0
    → slice start (page_bytes * i) old.bytes ≡ bytes_of (take i pages) → Spreads at (length bytes) old new → slice at (length bytes) new.bytes ≡ bytes
    → slice start (page_bytes * (i + 1)) new.bytes ≡ bytes_of (take (i + 1) pages)
page_put start i at pages d bytes old new lt place size is before spreads put =
    put_core start i pages d bytes old new lt is before
    (subst (λ (m : ℕ). Spreads m page_bytes old new) place (subst (λ (k : ℕ). Spreads at k old new) size spreads))
    (subst (λ (m : ℕ). slice m page_bytes new.bytes ≡ bytes) place (subst (λ (k : ℕ). slice at k new.bytes ≡ bytes) size put))

-- an act that changes nothing spreads nowhere
spreads_none : (at len : ℕ) (d : Disk) → Spreads at len d d
spreads_none at len d = record { differs = record { size = refl; before = refl; after = refl }; unsynced = λ s apart avoids. avoids; there = λ t. t }

dirtied_spreads : (at n len : ℕ) (old new : Disk) → n ≤ len → Dirtied at n old new → (new.lost ≡ false → old.lost ≡ false) → Spreads at len old new
dirtied_spreads at n len old new le dirtied there = record {
  differs = record {
    size = dirtied.differs.size;
    before = dirtied.differs.before;
    after = drop_less (at + len) (at + n) old.bytes new.bytes (omega arith) dirtied.differs.after;
  };
  unsynced = λ s apart avoids. subst (λ (us : List Stretch). Avoids us s) (sym dirtied.unsynced) (apart_inside at len at n s (omega arith) (omega arith) apart, avoids);
  there = there;
}

written_spreads : (at : ℕ) (bytes : List ℕ) (old new : Disk) (r : Act) → Written at bytes old new r → (r ≡ Failed → new.lost ≡ false → old.lost ≡ false) → Spreads at (length bytes) old new
written_spreads at bytes old new Done w there = dirtied_spreads at (length bytes) (length bytes) old new (omega arith) w.0 (λ t. sym w.2 ∙ t)
written_spreads at bytes old new Halted w there = dirtied_spreads at w.0.0 (length bytes) old new w.0.1 w.0.2 (λ t. sym w.1 ∙ t)
written_spreads at bytes old new Failed (inl w) there = dirtied_spreads at w.0 (length bytes) old new w.1 w.2 (there refl)
written_spreads at bytes old new Failed (inr w) there = record {
  differs = record { size = ap (λ (l : List ℕ). length l) w.bytes; before = ap (take at) w.bytes; after = ap (drop (at + length bytes)) w.bytes };
  unsynced = λ s apart avoids. subst (λ (us : List Stretch). Avoids us s) (sym w.unsynced) avoids;
  there = there refl;
}

-- the moments of a write
pub write_spreads : (by : ℕ) (dev : Dev) (at : ℕ) (bytes : List ℕ) (old new : View) (r : Act) → Acts by (DiskPart dev) old new r → Writes dev at bytes old new r → Meanwhile dev (Spreads at (length bytes) (disk_now old dev)) old new
write_spreads by dev at bytes old new r act write =
    meanwhile_one dev (Spreads at (length bytes) (disk_now old dev)) old new act.goes (omega (arith, act.time)) write.only (spreads_none at (length bytes) (disk_now old dev))
    (written_spreads at bytes (disk_now old dev) (disk_now new dev) r write.disk back)
  where
    back : r ≡ Failed → (disk_now new dev).lost ≡ false → (disk_now old dev).lost ≡ false
    back failed there = ⊎_elim stays (λ below. let gone : (disk_now new dev).lost ≡ true = write.lost failed below in absurd (cc)) (either_way top old.now) where
      stays : top ≤ old.now → (disk_now old dev).lost ≡ false
      stays late =
          let same : new.now ≡ old.now = omega (arith, act.time, act.goes.later, late) in
          sym (ap (λ (w : World). (w.disk dev).lost) (ap new.world same ∙ act.goes.past old.now (omega arith))) ∙ there
