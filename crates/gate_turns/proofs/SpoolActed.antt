-- A value on whose spool a member acted may be given back.
use Rattle.std.proofs.Common.{◌≡◌, ◌≢◌, inl, inr, ⊎_elim, ◌⊎◌, ◌||◌, ◌==◌, ℕ, zero, suc, ◌+◌, ◌*◌, ◌/◌, ◌%◌, ◌≤◌, ◌<◌, nat_le, if◌then◌else◌, Bool, true, false, List, [], ◌∷◌, length, Option, Some, slice_get, refl, subst, sym, ◌∙◌, ap, arith}
use Rattle.std.proofs.lemmas.Option.{same_Some as some_is}
use Rattle.std.specs.Prelude.{not, map, filter, drop}
use Rattle.std.specs.List.{list_any}
use Rattle.std.proofs.Math.Nat.{div-add-mod}
use Rattle.std.proofs.lemmas.Bool.{eqb-false, eqb-true, le-leb, leb-true, ne_eqb, not-false as not_met, or_parts as neither, or_right as second, true_from_ne_false as not_false}
use Rattle.mas_types.specs.declared.ids.MemberId.{MemberId}
use Rattle.mas_types.specs.declared.ids.GroupNo.{GroupNo}
use Rattle.mas_types.specs.declared.ids.Page.{Page}
use Rattle.mas_types.specs.declared.ids.Dev.TheVariants.{Ckpt1, Ckpt2, Spool}
use Rattle.mas_types.specs.declared.queues.Owner.{Owner}
use Rattle.mas_types.specs.declared.queues.Owner.TheVariants as owner
use Rattle.mas_types.specs.Limits.{page_bytes}
use Rattle.mas_types.specs.Owners.{is_members}
use Rattle.spool_plant.specs.declared.plant.Act.{Act}
use Rattle.spool_plant.specs.declared.plant.Act.TheVariants.{Done, Failed, Halted}
use Rattle.spool_plant.specs.declared.plant.Part.TheVariants.{Disk as DiskPart}
use Rattle.spool_plant.specs.View.{View, Disk, Stretch, Apart, Avoids, disk_now, slice}
use Rattle.spool_plant.specs.Acts.{Goes, DirtiedIn, Written, OnDevice, Syncs}
use Rattle.ckpt_copy.specs.Slices.{stretch, slice_apart}
use Rattle.ckpt_copy.specs.Moments.{either_way}
use Rattle.spool_volumes.specs.Volumes.{volume_of, start_of}
use Rattle.gate_facts.specs.Values.{SyncedGroups}
use Rattle.gate_facts.proofs.Lists.{true_false}
use Rattle.mas_complex.specs.Journals.{kept_all}
use Rattle.mas_complex.specs.Meaning.{run}
use Rattle.mas_complex.specs.Spool.{IsHeldBy, device_of, is_within, page_start, page_part, ReadsGroup, WritesGroup}
use Rattle.mas_complex.specs.Texts.{spools_at}
use Rattle.mas_complex.proofs.Spooled.{Spared, Quiet, quiet_same, quiet_untouched, quiet_spared, read_quiet, sync_quiet, each_quiet}
use Rattle.mas_complex.specs.Parts.{Shown}
use Rattle.gate_turns.specs.Words.{lines_by}
use Rattle.gate_turns.specs.Desks.{Disks, if_at_level, if_good, one_of, kept_pages, groups_from, meets, is_unsynced, page_stretch, group_on, groups_on}
use Rattle.gate_turns.specs.Shared.{said_since}
use Rattle.gate_turns.specs.Laws.{HasBegun, ReadsMayGoBack, SyncsMayGoBack, WritesMayGoBack, UnsyncedAsTheyAre}
use Rattle.gate_turns.proofs.Acted.{Spares, acted}

-- WHAT IS UNSYNCED

either : (p q : Bool) → (p || q) ≡ true → (p ≡ true) ⊎ (q ≡ true)
either true q e = inl refl
either false q e = inr e

apart_of : (r s : Stretch) → meets r s ≡ false → Apart r s
apart_of r s e = ⊎_elim
    (λ t. inl (leb-true (r.from + r.len) s.from t))
    (λ t. inr (leb-true (s.from + s.len) r.from t))
    (either (nat_le (r.from + r.len) s.from) (nat_le (s.from + s.len) r.from) (not_met (nat_le (r.from + r.len) s.from || nat_le (s.from + s.len) r.from) e))

of_apart : (r s : Stretch) → Apart r s → meets r s ≡ false
of_apart r s a = ⊎_elim
    (λ le. ap (λ z. not (z || nat_le (s.from + s.len) r.from)) (le-leb (r.from + r.len) s.from le))
    (λ le. ap not (second (nat_le (r.from + r.len) s.from) (nat_le (s.from + s.len) r.from) (le-leb (s.from + s.len) r.from le)))
    a

avoids_of : (u : List Stretch) (s : Stretch) → list_any (λ r. meets r s) u ≡ false → Avoids u s
avoids_of [] s e = tt
avoids_of (r ∷ u) s e = let h = neither (meets r s) (list_any (λ q. meets q s) u) e in (apart_of r s h.0, avoids_of u s h.1)

of_avoids : (u : List Stretch) (s : Stretch) → Avoids u s → list_any (λ r. meets r s) u ≡ false
of_avoids [] s a = refl
of_avoids (r ∷ u) s a = ap (λ z. z || list_any (λ q. meets q s) u) (of_apart r s a.0) ∙ of_avoids u s a.1

pub unsynced_is : UnsyncedAsTheyAre
unsynced_is v per g = (avoids_of (disk_now v (device_of per g)).unsynced (page_stretch per g), of_avoids (disk_now v (device_of per g)).unsynced (page_stretch per g))

-- GROUPS

module _ (per : ℕ) (old new : View) where
  abbrev IsSpared : ℕ → Type 0
  IsSpared n = Spared per (spools_at old old.now) (spools_at new new.now) (record { 0 = n })

  -- a group that is spared is as it was, or has become synced
  calm_group : (n : ℕ) → IsSpared n
      → ((group_on (disk_now new) per (record { 0 = n })).bytes ≡ (group_on (disk_now old) per (record { 0 = n })).bytes)
      × ((group_on (disk_now new) per (record { 0 = n })).unsynced ≡ true → (group_on (disk_now old) per (record { 0 = n })).unsynced ≡ true)
  calm_group n spared =
      let g : GroupNo = record { 0 = n } in (
        (λ i. record { 0 = spared.page i }),
        (λ unsynced. not_false (is_unsynced (disk_now old (device_of per g)) (page_stretch per g))
            (λ calm. true_false (is_unsynced (disk_now new (device_of per g)) (page_stretch per g)) unsynced ((unsynced_is new per g).1 (spared.synced ((unsynced_is old per g).0 calm))))),
      )

  calm_groups : (m : MemberId) (at : ℕ) (gs : List Owner) → ((i : ℕ) (o : Owner) → slice_get gs i ≡ Some o → is_members m o ≡ true → IsSpared (at + i))
      → SyncedGroups (map (group_on (disk_now new) per) (groups_from m at gs)) (map (group_on (disk_now old) per) (groups_from m at gs))
  calm_groups m at [] spared = tt
  calm_groups m at (o ∷ gs) spared =
      let rest : SyncedGroups (map (group_on (disk_now new) per) (groups_from m (at + 1) gs)) (map (group_on (disk_now old) per) (groups_from m (at + 1) gs)) =
      calm_groups m (at + 1) gs (λ i p is mine. subst IsSpared (next at i) (spared (suc i) p is mine)) in
      elim (is_members m o) as (λ z. is_members m o ≡ z → SyncedGroups (map (group_on (disk_now new) per) (if z then record { 0 = at } ∷ groups_from m (at + 1) gs else groups_from m (at + 1) gs)) (map (group_on (disk_now old) per) (if z then record { 0 = at } ∷ groups_from m (at + 1) gs else groups_from m (at + 1) gs))) [
        | true ↦ λ mine. let c = calm_group at (subst IsSpared (here at) (spared zero o refl mine)) in (refl, c.0, c.1, rest)
        | false ↦ λ mine. rest
      ] refl where
        next : (a i : ℕ) → a + suc i ≡ (a + 1) + i
        next a i = omega arith

        here : (a : ℕ) → a + 0 ≡ a
        here a = omega arith

  all_groups : (m : MemberId) (owners : List Owner) → ((i : ℕ) (o : Owner) → slice_get owners i ≡ Some o → is_members m o ≡ true → IsSpared i)
      → SyncedGroups (groups_on (disk_now new) per m owners) (groups_on (disk_now old) per m owners)
  unfolding groups_on
  all_groups m owners spared = calm_groups m 0 owners (λ i o is mine. subst IsSpared (front i) (spared i o is mine)) where
    front : (i : ℕ) → i ≡ 0 + i
    front i = omega arith

-- PAGES AND LINES

same_pages : (reads : List ℕ → Option (List ℕ)) (reached : ℕ) (a b : Bool) (d e : Disks) → (d Ckpt1).bytes ≡ (e Ckpt1).bytes → (d Ckpt2).bytes ≡ (e Ckpt2).bytes → kept_pages reads reached a b d ≡ kept_pages reads reached a b e
unfolding kept_pages
same_pages reads reached a b d e one two = λ i. one_of (if_good a (if_at_level reached (reads (one i)))) (if_good b (if_at_level reached (reads (two i))))

-- an act on a spool volume changes nothing of what was said, nor of the copies
module _ (x : Shown) (view : View) (volume : ℕ) (goes : Goes x.view view) (begun : HasBegun x) (only : OnDevice (Spool volume) x.view view) where
  pub said_same : said_since x.since view ≡ said_since x.since x.view
  said_same = λ i. map (λ l. l.text) (filter (λ l. l.whole) (drop (length (goes.past x.since begun.0 i).console) (only.console i)))

  on_spool : (by : ℕ) → ((k : MemberId) → k.0 ≢ by → SyncedGroups (groups_on (disk_now view) x.base.config.groups k (run x.base (kept_all x.batches)).owners) (groups_on (disk_now x.view) x.base.config.groups k (run x.base (kept_all x.batches)).owners))
      → Spares true x view by
  on_spool by groups = record {
    lines = λ k ne. ap (lines_by x.base.config.members k.0) said_same;
    pages = same_pages x.reads x.level x.first_alive x.second_alive (disk_now view) (disk_now x.view)
        (ap (λ (d : Disk). d.bytes) (only.others Ckpt1 (λ e. absurd (cc e)))) (ap (λ (d : Disk). d.bytes) (only.others Ckpt2 (λ e. absurd (cc e))));
    groups = groups;
  }

no_content : (x : Shown) (view : View) (by : ℕ) → Spares false x view by
no_content x view by = record { lines = λ k ne. refl; pages = refl; groups = λ k ne. tt }

-- READS AND SYNCS

quiet_spares : (x : Shown) (view : View) (volume by : ℕ) → Goes x.view view → HasBegun x → Quiet (disk_now x.view (Spool volume)) (disk_now view (Spool volume)) → OnDevice (Spool volume) x.view view → Spares true x view by
quiet_spares x view volume by goes begun quiet only = on_spool x view volume goes begun only by
    (λ k ne. all_groups x.base.config.groups x.view view k (run x.base (kept_all x.batches)).owners
    (λ i o is mine. quiet_spared x.base.config.groups (spools_at x.view x.view.now) (spools_at view view.now) (record { 0 = i }) (each_quiet volume x.view view quiet only (volume_of x.base.config.groups (record { 0 = i })))))

pub reads_may : ReadsMayGoBack
reads_may x view by group into result told cares acts reads begun mine = acted x view by (DiskPart (device_of x.base.config.groups group)) result acts told cares mine (spares told reads begun) where
  spares : (told : Bool) → (told ≡ true → ReadsGroup x.base.config.groups group x.view view into result) → (told ≡ true → HasBegun x) → Spares told x view by.0
  spares false reads begun = no_content x view by.0
  spares true reads begun = quiet_spares x view (volume_of x.base.config.groups group) by.0 acts.goes (begun refl)
      (read_quiet (page_start (is_within x.view x.base.config.groups group) (start_of x.base.config.groups group)) (page_part (is_within x.view x.base.config.groups group) into.0) (disk_now x.view (device_of x.base.config.groups group)) (disk_now view (device_of x.base.config.groups group)) result (reads refl).disk)
      (reads refl).only

pub syncs_may : SyncsMayGoBack
syncs_may x view by volume result told cares acts syncs begun mine = acted x view by (DiskPart (Spool volume)) result acts told cares mine (spares told syncs begun) where
  spares : (told : Bool) → (told ≡ true → Syncs (Spool volume) x.view view result) → (told ≡ true → HasBegun x) → Spares told x view by.0
  spares false syncs begun = no_content x view by.0
  spares true syncs begun = quiet_spares x view volume by.0 acts.goes (begun refl) (sync_quiet (disk_now x.view (Spool volume)) (disk_now view (Spool volume)) result (syncs refl).disk) (syncs refl).only

-- WRITES

-- two groups of one volume stand at different places in it
other_place : (per g h : ℕ) → h ≢ g → h / per ≡ g / per → g % per ≢ h % per
other_place per g h other same rest = other (sym (div-add-mod h per) ∙ ap (λ (q : ℕ). per * q + h % per) same ∙ ap (λ (r : ℕ). per * (g / per) + r) (sym rest) ∙ div-add-mod g per)

less_or_more : (m n : ℕ) → m ≢ n → (m < n) ⊎ (n < m)
less_or_more m n ne = ⊎_elim (λ (le : n ≤ m). inr (omega arith)) (λ (lt : m < n). inl lt) (either_way n m)

apart_places : (m n len : ℕ) → len ≤ page_bytes → m ≢ n → Apart (stretch (page_bytes * m) len) (stretch (page_bytes * n) page_bytes)
apart_places m n len few ne = ⊎_elim (λ (lt : m < n). inl (omega arith)) (λ (lt : n < m). inr (omega arith)) (less_or_more m n ne)

apart_groups : (per : ℕ) (g h : GroupNo) → h.0 ≢ g.0 → volume_of per h ≡ volume_of per g → (within : Bool) (bytes : List ℕ) (n : ℕ) → length bytes ≡ page_bytes → n ≤ length (page_part within bytes)
    → Apart (stretch (page_start within (start_of per g)) n) (stretch (start_of per h) page_bytes)
apart_groups per g h other same true bytes n long few = apart_places (g.0 % per) (h.0 % per) n (omega (arith, long, few)) (other_place per g.0 h.0 other (omega (arith, same)))
apart_groups per g h other same false bytes n long few = inl (omega (arith, few))

-- the bytes of a stretch may differ and are unsynced, or nothing changes
changed : (at : ℕ) (bytes : List ℕ) (old new : Disk) (act : Act) → Written at bytes old new act → DirtiedIn at (length bytes) old new ⊎ Quiet old new
changed at bytes old new Done written = inl (length bytes, omega arith, written.0)
changed at bytes old new Halted written = inl written.0
changed at bytes old new Failed (inl dirtied) = inl dirtied
changed at bytes old new Failed (inr same) = inr (quiet_untouched old new same)

module _ (per : ℕ) (g : GroupNo) (old new : View) (bytes : Page) (act : Act) (long : length bytes.0 ≡ page_bytes) (writes : WritesGroup per g old new bytes act) where
  abbrev SparesGroup : GroupNo → Type 0
  SparesGroup h = Spared per (spools_at old old.now) (spools_at new new.now) h

  -- a group on another volume
  spared_elsewhere : (h : GroupNo) → volume_of per h ≢ volume_of per g → SparesGroup h
  spared_elsewhere h ne =
      quiet_spared per (spools_at old old.now) (spools_at new new.now) h
      (quiet_same (spools_at old old.now (volume_of per h)) (spools_at new new.now (volume_of per h)) (writes.only.others (Spool (volume_of per h)) (λ same. ne (cc same))))

  -- another group on the volume that was written
  spared_beside : (h : GroupNo) → h.0 ≢ g.0 → volume_of per h ≡ volume_of per g → SparesGroup h
  spared_beside h other same = let within = is_within old per g in ⊎_elim
      (λ (dirtied : DirtiedIn (page_start within (start_of per g)) (length (page_part within bytes.0)) (disk_now old (device_of per g)) (disk_now new (device_of per g))).
      let apart = apart_groups per g h other same within bytes.0 dirtied.0 long dirtied.1 in
      record {
        page = subst (λ (n : ℕ). slice (start_of per h) page_bytes (spools_at new new.now n).bytes ≡ slice (start_of per h) page_bytes (spools_at old old.now n).bytes) (sym same)
            (slice_apart (start_of per h) page_bytes (page_start within (start_of per g)) dirtied.0 (disk_now old (device_of per g)).bytes (disk_now new (device_of per g)).bytes dirtied.2.differs apart);
        synced = subst (λ (n : ℕ). Avoids (spools_at old old.now n).unsynced (stretch (start_of per h) page_bytes) → Avoids (spools_at new new.now n).unsynced (stretch (start_of per h) page_bytes)) (sym same)
            (λ avoids. subst (λ (u : List Stretch). Avoids u (stretch (start_of per h) page_bytes)) (sym dirtied.2.unsynced) (apart, avoids));
      })
      (λ (quiet : Quiet (disk_now old (device_of per g)) (disk_now new (device_of per g))).
      quiet_spared per (spools_at old old.now) (spools_at new new.now) h (subst (λ (n : ℕ). Quiet (spools_at old old.now n) (spools_at new new.now n)) (sym same) quiet))
      (changed (page_start within (start_of per g)) (page_part within bytes.0) (disk_now old (device_of per g)) (disk_now new (device_of per g)) act writes.disk)

  spared_other : (h : GroupNo) → h.0 ≢ g.0 → SparesGroup h
  spared_other h other = by_volume (volume_of per h == volume_of per g) refl where
    by_volume : (b : Bool) → (volume_of per h == volume_of per g) ≡ b → SparesGroup h
    by_volume true e = spared_beside h other (eqb-true (volume_of per h) (volume_of per g) e)
    by_volume false e = spared_elsewhere h (eqb-false (volume_of per h) (volume_of per g) e)

-- the group of one member is none of another's
not_theirs : (by k : MemberId) (o : Owner) → k.0 ≢ by.0 → o ≡ owner.Member by → is_members k o ≡ true → ⊥
not_theirs by k o ne is mine = true_false (is_members k o) mine (ap (is_members k) is ∙ ne_eqb by.0 k.0 (λ e. ne (sym e)))

pub writes_may : WritesMayGoBack
writes_may x view by group bytes result told cares acts writes long held begun mine = acted x view by (DiskPart (device_of x.base.config.groups group)) result acts told cares mine (spares told writes held begun) where
  spares : (told : Bool) → (told ≡ true → WritesGroup x.base.config.groups group x.view view bytes result) → (told ≡ true → IsHeldBy by group (run x.base (kept_all x.batches))) → (told ≡ true → HasBegun x) → Spares told x view by.0
  spares false writes held begun = no_content x view by.0
  spares true writes held begun = on_spool x view (volume_of x.base.config.groups group) acts.goes (begun refl) (writes refl).only by.0
      (λ k ne. all_groups x.base.config.groups x.view view k (run x.base (kept_all x.batches)).owners
      (λ i o is theirs. spared_other x.base.config.groups group x.view view bytes result long (writes refl) (record { 0 = i })
      (λ same. not_theirs by k o ne (some_is o (owner.Member by) (sym is ∙ (ap (λ (n : ℕ). slice_get (run x.base (kept_all x.batches)).owners n) same ∙ held refl))) theirs)))
