-- Texts stay where nothing of their groups is written, and are read from what a crash leaves of the volumes.
use Rattle.mas_complex.proofs.Names.{◌≡◌, ◌≢◌, inl, inr, ⊎_elim, ◌⊎◌, ◌==◌, ℕ, zero, suc, ◌+◌, ◌*◌, ◌/◌, ◌%◌, ◌≤◌, ◌<◌, if◌then◌else◌, Bool, true, false, List, [], ◌∷◌, ◌++◌, length, All, Option, Some, None, option_map, unwrap_or, slice_get, slice_index_or, refl, subst, sym, ◌∙◌, ap, arith, list_any, All-nil, All-cons, All-head, All-tail, MemberId, GroupNo, Text, Queue, page_bytes, line_count, Page, Spool, div-add-mod, true≢false, test_cases, eqb-true, eqb-false, Act, Done, Failed, ActHalted as Halted, View, ViewDisk as Disk, Stretch, Apart, Avoids, disk_now, slice, DirtiedIn, Untouched, Written, ReadBy, Synced, OnDevice, either_way, AreItsOwn, Volumes, volume_of, start_of, IsLeftOf, IsHeldBy, device_of, is_within, page_start, page_part, WritesGroup, Spools, spools_at, bytes_on, IsSynced, IsThere, IsThereUnless, HasTexts, IsReadUnless, GivesTexts, Entry, World, disk_at, lost_now, Setting, TextsAt, AreSunk, with_flying, get_or, ◌-◌, TextsStand, list_any_at, list_any_none, Deck, Output, groups_of}
use Rattle.mas_complex.proofs.Basics.{get_or_from_slice_get, Passes, of_if, of_other}
use Rattle.std.proofs.lemmas.List.Sorted.{All-permutation}
use Rattle.mas_types.specs.declared.queues.Owner.{Owner}
use Rattle.mas_types.specs.declared.queues.Thing.{Thing}
use Rattle.ckpt_copy.specs.Slices.{stretch, slice_apart}
use Rattle.track_groups.specs.Groups.{is_things, groups_where}
use Rattle.spool_volumes.specs.Texts.{Held, held, records_on, gone_or, first_gone, all_records, text_unless, text_of}
use Rattle.mas_types.specs.declared.queues.Owner.TheVariants as owner

-- A TEXT IS WHAT ITS GROUPS HOLD

module _ (r s : Held) where
  abbrev Agree : GroupNo → Type 0
  Agree g = r g ≡ s g

  same_reads : (gs : List GroupNo) → All Agree gs → ◌≡◌ {A = List (List ℕ) × Option GroupNo} (all_records r gs, first_gone r gs) (all_records s gs, first_gone s gs)
  same_reads [] all = refl
  same_reads (g ∷ gs) all = rw (All-head Agree g gs all) (ap (λ (p : List (List ℕ) × Option GroupNo). (unwrap_or (s g) [] ++ p.0, gone_or g (s g) p.1)) (same_reads gs (All-tail Agree g gs all)))

  pub same_text : (count : ℕ) (gs : List GroupNo) → All Agree gs → text_of r count gs ≡ text_of s count gs
  same_text count gs all = ap (λ (p : List (List ℕ) × Option GroupNo). text_unless count gs p.0 p.1) (same_reads gs all)

-- GROUPS THAT ARE SPARED

module _ (per : ℕ) (old new : Spools) where
  -- what an act leaves of a group: its page, and that it is synced
  pub record Spared (g : GroupNo) : Type 0 where
    pub page : slice (start_of per g) page_bytes (new (volume_of per g)).bytes ≡ slice (start_of per g) page_bytes (old (volume_of per g)).bytes
    pub synced : IsSynced old per g → IsSynced new per g

  there_spared : (text : Text) (gs : List GroupNo) → All Spared gs → IsThere old per text gs → IsThere new per text gs
  there_spared text gs spared there = record {
    is = same_text (records_on (bytes_on new) per) (records_on (bytes_on old) per) (line_count text) gs (λ k d lt. ap (λ (page : List ℕ). held (Some page)) (spared k d lt).page) ∙ there.is;
    synced = λ k d lt. (spared k d lt).synced (there.synced k d lt);
  }

  -- an act that spares each group of each text
  pub texts_spared : (gone : ℕ → Bool) (Q : Queue) → ((t : Thing) → All Spared (groups_of t Q.owners)) → HasTexts gone old per Q → HasTexts gone new per Q
  texts_spared gone Q spared has = record {
    decks = λ k d lt none. there_spared (slice_index_or Q.jobs k d).text (groups_of (Deck (slice_index_or Q.jobs k d).number) Q.owners) (spared (Deck (slice_index_or Q.jobs k d).number)) (has.decks k d lt none);
    outputs = λ k d lt none. there_spared (slice_index_or Q.outputs k d).text (groups_of (Output (slice_index_or Q.outputs k d).job (slice_index_or Q.outputs k d).index) Q.owners) (spared (Output (slice_index_or Q.outputs k d).job (slice_index_or Q.outputs k d).index)) (has.outputs k d lt none);
  }

-- A VOLUME OF WHICH NO BYTE CHANGES

-- no byte differs, and nothing more is unsynced
pub record Quiet (old new : Disk) : Type 0 where
  pub bytes : new.bytes ≡ old.bytes
  pub unsynced : (s : Stretch) → Avoids old.unsynced s → Avoids new.unsynced s

pub quiet_same : (old new : Disk) → new ≡ old → Quiet old new
quiet_same old new same = subst (λ (d : Disk). Quiet old d) (sym same) (record { bytes = refl; unsynced = λ s avoids. avoids })

pub quiet_untouched : (old new : Disk) → Untouched old new → Quiet old new
quiet_untouched old new same = record {
  bytes = same.bytes;
  unsynced = λ s avoids. subst (λ (u : List Stretch). Avoids u s) (sym same.unsynced) avoids;
}

pub quiet_spared : (per : ℕ) (old new : Spools) (g : GroupNo) → Quiet (old (volume_of per g)) (new (volume_of per g)) → Spared per old new g
quiet_spared per old new g quiet = record {
  page = ap (λ (b : List ℕ). slice (start_of per g) page_bytes b) quiet.bytes;
  synced = λ avoids. quiet.unsynced (stretch (start_of per g) page_bytes) avoids;
}

pub texts_quiet : (per : ℕ) (old new : Spools) (gone : ℕ → Bool) (Q : Queue) → ((n : ℕ) → Quiet (old n) (new n)) → HasTexts gone old per Q → HasTexts gone new per Q
texts_quiet per old new gone Q quiet has =
    texts_spared per old new gone Q (λ t k d lt. quiet_spared per old new (slice_index_or (groups_of t Q.owners) k d) (quiet (volume_of per (slice_index_or (groups_of t Q.owners) k d)))) has

pub texts_same : (per : ℕ) (old new : Spools) (gone : ℕ → Bool) (Q : Queue) → ((n : ℕ) → new n ≡ old n) → HasTexts gone old per Q → HasTexts gone new per Q
texts_same per old new gone Q same has = texts_quiet per old new gone Q (λ n. quiet_same (old n) (new n) (same n)) has

-- A GROUP OF A MEMBER IS IN NO TEXT

no_member : (by : MemberId) (t : Thing) → is_things t (owner.Member by) ≡ false
no_member by (Deck n) = refl
no_member by (Output n i) = refl

module _ (t : Thing) where
  -- groups from this number on, whose owners have the thing
  picked : (at : ℕ) (gs : List Owner) (d : Owner) → All (λ (h : GroupNo). (at ≤ h.0) × (is_things t (get_or gs (h.0 - at) d) ≡ true)) (groups_where (is_things t) at gs)
  picked at [] d = All-nil (λ (h : GroupNo). (at ≤ h.0) × (is_things t (get_or [] (h.0 - at) d) ≡ true))
  picked at (g ∷ gs) d = let w = later (picked (at + 1) gs d) in of_if (All P) (is_things t g) (record { 0 = at } ∷ rest) rest (λ e. All-cons P (record { 0 = at }) rest (omega arith, let n : at - at ≡ 0 = omega arith in rw n e) w) (λ _. w) where
    P : GroupNo → Type 0
    P h = (at ≤ h.0) × (is_things t (get_or (g ∷ gs) (h.0 - at) d) ≡ true)

    rest : List GroupNo
    rest = groups_where (is_things t) (at + 1) gs

    later : All (λ (h : GroupNo). (at + 1 ≤ h.0) × (is_things t (get_or gs (h.0 - (at + 1)) d) ≡ true)) rest → All P rest
    later all k e lt = let w = all k e lt in let n : (slice_index_or rest k e).0 - at ≡ suc ((slice_index_or rest k e).0 - (at + 1)) = omega (arith, w.0) in (omega (arith, w.0), rw n w.1)

  not_among : AreItsOwn → (by : MemberId) (g : GroupNo) (gs : List Owner) → slice_get gs g.0 ≡ Some (owner.Member by) → All (λ (h : GroupNo). h.0 ≢ g.0) (groups_of t gs)
  not_among own by g gs is =
      All-permutation (λ (h : GroupNo). h.0 ≢ g.0) (groups_where (is_things t) 0 gs) (groups_of t gs) (own t gs)
      (λ k d lt same. let n : (slice_index_or (groups_where (is_things t) 0 gs) k d).0 - 0 ≡ g.0 = omega (arith, same) in
      true≢false (sym (picked 0 gs (owner.Member by) k d lt).1 ∙ ap (is_things t) (ap (λ (n : ℕ). get_or gs n (owner.Member by)) n ∙ get_or_from_slice_get gs g.0 (owner.Member by) (owner.Member by) is) ∙ no_member by t))

-- A GROUP'S PAGE IS WRITTEN

-- two groups of one volume stand at different places in it
other_place : (per g h : ℕ) → h ≢ g → h / per ≡ g / per → g % per ≢ h % per
other_place per g h other same rest = other (sym (div-add-mod h per) ∙ ap (λ (q : ℕ). per * q + h % per) same ∙ ap (λ (r : ℕ). per * (g / per) + r) (sym rest) ∙ div-add-mod g per)

apart_places : (m n len : ℕ) → len ≤ page_bytes → m ≢ n → Apart (stretch (page_bytes * m) len) (stretch (page_bytes * n) page_bytes)
apart_places m n len few ne = ⊎_elim (λ (le : n ≤ m). inr (omega arith)) (λ (lt : m < n). inl (omega arith)) (either_way n m)

module _ (per : ℕ) (g h : GroupNo) (other : h.0 ≢ g.0) (same : volume_of per h ≡ volume_of per g) where
  apart_groups : (within : Bool) (bytes : List ℕ) (n : ℕ) → length bytes ≡ page_bytes → n ≤ length (page_part within bytes) → Apart (stretch (page_start within (start_of per g)) n) (stretch (start_of per h) page_bytes)
  apart_groups true bytes n long few = apart_places (g.0 % per) (h.0 % per) n (omega (arith, long, few)) (other_place per g.0 h.0 other (omega (arith, same)))
  apart_groups false bytes n long few = inl (omega (arith, few))

-- the bytes of a stretch may differ and are unsynced, or nothing changes
changed : (at : ℕ) (bytes : List ℕ) (old new : Disk) (act : Act) → Written at bytes old new act → DirtiedIn at (length bytes) old new ⊎ Quiet old new
changed at bytes old new Done written = inl (length bytes, omega arith, written.0)
changed at bytes old new Halted written = inl written.0
changed at bytes old new Failed (inl dirtied) = inl dirtied
changed at bytes old new Failed (inr same) = inr (quiet_untouched old new same)

module _ (per : ℕ) (g : GroupNo) (old new : View) (bytes : Page) (act : Act) (long : length bytes.0 ≡ page_bytes) (writes : WritesGroup per g old new bytes act) where
  abbrev pub Spares : GroupNo → Type 0
  Spares h = Spared per (spools_at old old.now) (spools_at new new.now) h

  -- another group on the volume that was written
  spared_beside : (h : GroupNo) → h.0 ≢ g.0 → volume_of per h ≡ volume_of per g → Spares h
  spared_beside h other same = let within = is_within old per g in ⊎_elim
      (λ (dirtied : DirtiedIn (page_start within (start_of per g)) (length (page_part within bytes.0)) (disk_now old (device_of per g)) (disk_now new (device_of per g))).
      let apart = apart_groups per g h other same within bytes.0 dirtied.0 long dirtied.1 in
      record {
        page = subst (λ (n : ℕ). slice (start_of per h) page_bytes (spools_at new new.now n).bytes ≡ slice (start_of per h) page_bytes (spools_at old old.now n).bytes) (sym same)
            (slice_apart (start_of per h) page_bytes (page_start within (start_of per g)) dirtied.0 (disk_now old (device_of per g)).bytes (disk_now new (device_of per g)).bytes dirtied.2.differs apart);
        synced = subst (λ (n : ℕ). Avoids (spools_at old old.now n).unsynced (stretch (start_of per h) page_bytes) → Avoids (spools_at new new.now n).unsynced (stretch (start_of per h) page_bytes)) (sym same)
            (λ avoids. subst (λ (u : List Stretch). Avoids u (stretch (start_of per h) page_bytes)) (sym dirtied.2.unsynced) (apart, avoids));
      })
      (λ (quiet : Quiet (disk_now old (device_of per g)) (disk_now new (device_of per g))).
      quiet_spared per (spools_at old old.now) (spools_at new new.now) h (subst (λ (n : ℕ). Quiet (spools_at old old.now n) (spools_at new new.now n)) (sym same) quiet))
      (changed (page_start within (start_of per g)) (page_part within bytes.0) (disk_now old (device_of per g)) (disk_now new (device_of per g)) act writes.disk)

  pub spared_other : (h : GroupNo) → h.0 ≢ g.0 → Spares h
  spared_other h other = test_cases (volume_of per h == volume_of per g) (Spares h)
      (λ e. spared_beside h other (eqb-true (volume_of per h) (volume_of per g) e))
      (λ e. quiet_spared per (spools_at old old.now) (spools_at new new.now) h (quiet_same (spools_at old old.now (volume_of per h)) (spools_at new new.now (volume_of per h)) (writes.only.others (Spool (volume_of per h)) (λ same. eqb-false (volume_of per h) (volume_of per g) e (cc same)))))

  -- a group of a member is written: each text stays
  pub texts_written : AreItsOwn → (by : MemberId) (gone : ℕ → Bool) (Q : Queue) → IsHeldBy by g Q → HasTexts gone (spools_at old old.now) per Q → HasTexts gone (spools_at new new.now) per Q
  texts_written own by gone Q held has =
      texts_spared per (spools_at old old.now) (spools_at new new.now) gone Q (λ t k d lt. spared_other (slice_index_or (groups_of t Q.owners) k d) (not_among t own by g Q.owners held k d lt)) has

-- READS AND SYNCS

pub read_quiet : (at : ℕ) (into : List ℕ) (old new : Disk) (act : Act) → ReadBy at into old new act → Quiet old new
read_quiet at into old new Done read = quiet_same old new read.0
read_quiet at into old new Halted read = quiet_same old new read
read_quiet at into old new Failed read = quiet_untouched old new read

pub sync_quiet : (old new : Disk) (act : Act) → Synced old new act → Quiet old new
sync_quiet old new Done synced = record { bytes = synced.0; unsynced = λ s avoids. subst (λ (u : List Stretch). Avoids u s) (sym synced.1) tt }
sync_quiet old new Halted synced = quiet_same old new synced
sync_quiet old new Failed synced = quiet_untouched old new synced

-- one volume of which no byte changes, and nothing else does
module _ (v : ℕ) (old new : View) (quiet : Quiet (disk_now old (Spool v)) (disk_now new (Spool v))) (only : OnDevice (Spool v) old new) where
  pub each_quiet : (n : ℕ) → Quiet (spools_at old old.now n) (spools_at new new.now n)
  each_quiet = of_other (λ n. Quiet (spools_at old old.now n) (spools_at new new.now n)) v quiet (λ n ne. quiet_same (spools_at old old.now n) (spools_at new new.now n) (only.others (Spool n) (λ same. ne (cc same))))

-- MORE VOLUMES ARE LOST

none_gone : (test : GroupNo → Bool) (gs : List GroupNo) → list_any test gs ≡ false → All (λ (g : GroupNo). test g ≡ false) gs
none_gone test gs none k d lt = test_cases (test (slice_index_or gs k d)) (test (slice_index_or gs k d) ≡ false) (λ e. absurd (true≢false (sym (list_any_at test gs k d lt e) ∙ none))) (λ e. e)

fewer : (gone more : GroupNo → Bool) (gs : List GroupNo) → ((g : GroupNo) → gone g ≡ true → more g ≡ true) → list_any more gs ≡ false → list_any gone gs ≡ false
fewer gone more gs grows none = list_any_none gone gs (λ k d lt. test_cases (gone (slice_index_or gs k d)) (gone (slice_index_or gs k d) ≡ false) (λ e. absurd (true≢false (sym (grows (slice_index_or gs k d) e) ∙ none_gone more gs none k d lt))) (λ e. e))

pub texts_fewer : (gone more : ℕ → Bool) (disks : Spools) (per : ℕ) (Q : Queue) → ((n : ℕ) → gone n ≡ true → more n ≡ true) → HasTexts gone disks per Q → HasTexts more disks per Q
texts_fewer gone more disks per Q grows has = record {
  decks = λ k d lt none. has.decks k d lt (fewer (λ g. gone (volume_of per g)) (λ g. more (volume_of per g)) (groups_of (Deck (slice_index_or Q.jobs k d).number) Q.owners) (λ g. grows (volume_of per g)) none);
  outputs = λ k d lt none. has.outputs k d lt (fewer (λ g. gone (volume_of per g)) (λ g. more (volume_of per g)) (groups_of (Output (slice_index_or Q.outputs k d).job (slice_index_or Q.outputs k d).index) Q.owners) (λ g. grows (volume_of per g)) none);
}

-- WHAT A CRASH LEAVES

module _ (gone : ℕ → Bool) (volumes : Volumes) (disks : Spools) (per : ℕ) (left : (n : ℕ) → gone n ≡ false → IsLeftOf (disks n) false (volumes n)) where
  image_page : (from : ℕ) (disk : Disk) (image : Option (List ℕ)) → IsLeftOf disk false image → Avoids disk.unsynced (stretch from page_bytes) → option_map (slice from page_bytes) image ≡ Some (slice from page_bytes disk.bytes)
  image_page from disk None is avoids = absurd is
  image_page from disk (Some image) is avoids = ap Some (is.synced (stretch from page_bytes) avoids)

  read_left : (g : GroupNo) → gone (volume_of per g) ≡ false → IsSynced disks per g → records_on volumes per g ≡ records_on (bytes_on disks) per g
  read_left g there synced = ap held (image_page (start_of per g) (disks (volume_of per g)) (volumes (volume_of per g)) (left (volume_of per g) there) synced)

  text_left_there : (text : Text) (gs : List GroupNo) → IsThereUnless gone disks per text gs → IsReadUnless gone volumes per text gs
  text_left_there text gs there none =
      same_text (records_on volumes per) (records_on (bytes_on disks) per) (line_count text) gs
      (λ k d lt. read_left (slice_index_or gs k d) (none_gone (λ g. gone (volume_of per g)) gs none k d lt) ((there none).synced k d lt)) ∙ (there none).is

  pub gives_texts : (Q : Queue) → HasTexts gone disks per Q → GivesTexts gone volumes per Q
  gives_texts Q has = record {
    decks = λ k d lt. text_left_there (slice_index_or Q.jobs k d).text (groups_of (Deck (slice_index_or Q.jobs k d).number) Q.owners) (has.decks k d lt);
    outputs = λ k d lt. text_left_there (slice_index_or Q.outputs k d).text (groups_of (Output (slice_index_or Q.outputs k d).job (slice_index_or Q.outputs k d).index) Q.owners) (has.outputs k d lt);
  }

-- The texts of the queue over acts.

-- what acts leave of the texts of the queue after these entries, and of the one with those; and a volume that the world
-- shows as lost was lost before, or counts as lost now
pub record Stays (S : Setting) (K F : List Entry) (old new : View) : Type 0 where
  pub texts : (gone : ℕ → Bool) (t : ℕ) → old.now < t → t ≤ new.now → (coming : Bool) → HasTexts gone (spools_at old old.now) S.base.config.groups (S.run S.base (with_flying coming K F)) → HasTexts gone (spools_at new t) S.base.config.groups (S.run S.base (with_flying coming K F))
  pub sunk : (t : ℕ) → old.now < t → t ≤ new.now → (n : ℕ) → (spools_at new t n).lost ≡ true → ((spools_at old old.now n).lost ≡ true) ⊎ (lost_now new n ≡ true)

-- no volume changes
pub stays_same : (S : Setting) (K F : List Entry) (old new : View) → ((t : ℕ) → old.now < t → t ≤ new.now → (n : ℕ) → disk_at new t (Spool n) ≡ disk_now old (Spool n)) → Stays S K F old new
stays_same S K F old new same = record {
  texts = λ gone t lt le coming has. texts_same S.base.config.groups (spools_at old old.now) (spools_at new t) gone (S.run S.base (with_flying coming K F)) (same t lt le) has;
  sunk = λ t lt le n lost. inl (sym (ap (λ (d : Disk). d.lost) (same t lt le n)) ∙ lost);
}

module _ (S : Setting) (old new : View) (goes : Passes old new) where
  -- volumes that were lost still are, at each past moment
  pub stood_past : (K F : List Entry) (t : ℕ) → t ≤ old.now → TextsStand S K F old t → TextsStand S K F new t
  stood_past K F t le at = subst (λ (w : World). ((coming : Bool) → HasTexts (lost_now new) (λ n. w.disk (Spool n)) S.base.config.groups (S.run S.base (with_flying coming K F))) × ((n : ℕ) → (w.disk (Spool n)).lost ≡ true → lost_now new n ≡ true)) (sym (goes.past t le))
      (λ coming. texts_fewer (lost_now old) (lost_now new) (spools_at old t) S.base.config.groups (S.run S.base (with_flying coming K F)) (λ n lost. goes.volumes n lost) (at.0 coming), λ n lost. goes.volumes n (at.1 n lost))

  -- and at each moment of the acts
  module _ (K F : List Entry) (stays : Stays S K F old new) where
    pub stood_acts : TextsStand S K F old old.now → (t : ℕ) → old.now ≤ t → t ≤ new.now → TextsStand S K F new t
    stood_acts at t from le = ⊎_elim
        (λ (h : t ≤ old.now). let e : old.now ≡ t = omega (arith, h, from) in subst (λ (m : ℕ). TextsStand S K F new m) e (stood_past K F old.now (omega arith) at))
        (λ (h : old.now < t). (
          λ coming. stays.texts (lost_now new) t h le coming (texts_fewer (lost_now old) (lost_now new) (spools_at old old.now) S.base.config.groups (S.run S.base (with_flying coming K F)) (λ n lost. goes.volumes n lost) (at.0 coming)),
          λ n lost. ⊎_elim (λ was. goes.volumes n (at.1 n was)) (λ now. now) (stays.sunk t h le n lost),
        ))
        (either_way t old.now)
