-- The content of each act of a plant in memory that is done, or that halts.
use Rattle.std.proofs.Common.{◌≡◌, ◌≢◌, ◌⊎◌, ℕ, ◌+◌, ◌*◌, ◌≤◌, ◌==◌, nat_le, if◌then◌else◌, Bool, true, false, List, [], ◌∷◌, ◌++◌, inl, inr, length, take, replicate, ◌<◌, refl, subst, sym, ◌∙◌, ap, arith}
use Rattle.std.proofs.lemmas.List.{append-nil}
use Rattle.mas_types.specs.declared.ids.Dev.{Dev}
use Rattle.spool_plant.specs.declared.plant.Part.TheVariants.{Disk as DiskPart}
use Rattle.spool_plant.specs.declared.plant.Act.{Act}
use Rattle.spool_plant.specs.declared.plant.Act.TheVariants.{Done, Halted}
use Rattle.spool_plant.specs.declared.plant.Took.TheVariants.{Halted as TookHalted}
use Rattle.spool_plant.specs.View.{Disk, Line, disk_now, slice}
use Rattle.spool_plant.specs.Acts.{SamePaper, SameWires, OnDevice, Dirtied, Writes, Syncs, Reads, RenewsThere, Said, Says, Prints, Takes}
use Rattle.spool_disk.specs.Courses.{left_of, deed_left}
use Rattle.spool_disk.specs.Places.{slot_of, place_of}
use Rattle.spool_disk.specs.Health.{health_at, was_lost, since_of}
use Rattle.spool_disk.specs.Kept.{fresh, size_at}
use Rattle.spool_disk.specs.Deeds.{Deed, Idle, Wrote, Synced, Said as DeedSaid, Passed, Fetched, Renewed as RenewedDeed, overwrite, effect, after, gather, lines_of, same_side, moved}
use Rattle.spool_disk.specs.DeedLaws.{length-after}
use Rattle.spool_disk.specs.State.{Halts, State, renewed, shown, lines_in, moved_in, view_of, recorded}
use Rattle.spool_disk.proofs.Acting.{slot_apart, disk_old, disk_new, all_old, all_new, none_new, lines_new, lines_same, renewed_disk, renewed_is_there, renewed_else}
use Rattle.spool_disk.proofs.Effects.{wrote_dirtied, wrote_bytes, slice_put, sync_bytes, sync_unsynced, IsOf, wrote_is_of, sync_is_of, IsLineOf, said_is_line, line_there, moved_there, moved_else, moved_other, renew_there, renew_is_of}

module _ (s : State) (stops : Halts) (full : length s.deeds ≡ s.now) (by_now : (k : ℕ) → since_of (health_at s.parts k).since ≤ s.now) where
  was : (d : Dev) → disk_now (view_of s) d ≡ shown (after (slot_of d) (fresh s.base (slot_of d)) s.deeds) (was_lost (health_at s.parts (4 * slot_of d)).since s.now)
  was d = disk_old s full by_now (slot_of d)

  is : (d : Dev) (e : Deed) → disk_now (view_of (recorded s e stops)) d ≡ shown (effect (slot_of d) (after (slot_of d) (fresh s.base (slot_of d)) s.deeds) e) (was_lost (health_at s.parts (4 * slot_of d)).since s.now)
  is d e = disk_new s full by_now (slot_of d) e stops

  same_paper : (e : Deed) → ((place : ℕ) → lines_of place (e ∷ []) ≡ []) → SamePaper (view_of s) (view_of (recorded s e stops))
  same_paper e none m = lines_same s full by_now (4 * m + 2) e stops (none (4 * m + 2))

  same_wires : (e : Deed) → ((side : Bool) (w m : ℕ) → gather (moved side w m) (e ∷ []) ≡ []) → SameWires (view_of s) (view_of (recorded s e stops))
  same_wires e none = record {
    waiting = λ w. refl;
    taken = λ w m. none_new s full by_now (moved false w m) e (none false w m);
    given = λ w m. none_new s full by_now (moved true w m) e (none true w m);
  }

  on_device : (dev : Dev) (e : Deed) → IsOf (slot_of dev) e → ((place : ℕ) → lines_of place (e ∷ []) ≡ []) → ((side : Bool) (w m : ℕ) → gather (moved side w m) (e ∷ []) ≡ []) → OnDevice dev (view_of s) (view_of (recorded s e stops))
  on_device dev e of none still = record {
    others = λ d ne.
        is d e
        ∙ ap (λ (x : Disk). shown x (was_lost (health_at s.parts (4 * slot_of d)).since s.now)) (of (slot_of d) (after (slot_of d) (fresh s.base (slot_of d)) s.deeds) (λ same. ne (slot_apart d dev (sym same))))
        ∙ sym (was d);
    console = lines_same s full by_now 1 e stops (none 1);
    paper = same_paper e none;
    wires = same_wires e still;
  }

  -- how many bytes a device has
  size_now : (dev : Dev) → length (disk_now (view_of s) dev).bytes ≡ size_at s.base (slot_of dev)
  size_now dev = ap (λ (x : Disk). length x.bytes) (was dev) ∙ length-after (slot_of dev) (fresh s.base (slot_of dev)) s.deeds ∙ s.base.whole (slot_of dev)

  -- a write of so many bytes, of which these came
  pub wrote : (dev : Dev) (at len : ℕ) (some : List ℕ) → (disk_now (view_of (recorded s (Wrote (slot_of dev) at len some) stops)) dev).bytes ≡ overwrite at some (disk_now (view_of s) dev).bytes
  wrote dev at len some =
      ap (λ (x : Disk). x.bytes) (is dev (Wrote (slot_of dev) at len some))
      ∙ wrote_bytes (slot_of dev) at len some (after (slot_of dev) (fresh s.base (slot_of dev)) s.deeds)
      ∙ ap (overwrite at some) (sym (ap (λ (x : Disk). x.bytes) (was dev)))

  dirtied : (dev : Dev) (at len : ℕ) (some : List ℕ) → length some ≤ len → at + len ≤ size_at s.base (slot_of dev)
      → Dirtied at len (disk_now (view_of s) dev) (disk_now (view_of (recorded s (Wrote (slot_of dev) at len some) stops)) dev)
  dirtied dev at len some few fits =
      let slot = slot_of dev in
      let d : Disk = after slot (fresh s.base slot) s.deeds in
      let gone : Bool = was_lost (health_at s.parts (4 * slot)).since s.now in
      let long : length d.bytes ≡ size_at s.base slot = length-after slot (fresh s.base slot) s.deeds ∙ s.base.whole slot in
      let room : at + length some ≤ length d.bytes = omega (arith, few, fits, long) in
      subst (λ (x : Disk). Dirtied at len x (disk_now (view_of (recorded s (Wrote slot at len some) stops)) dev)) (sym (was dev))
      (subst (λ (x : Disk). Dirtied at len (shown d gone) x) (sym (is dev (Wrote slot at len some))) (wrote_dirtied slot at len some d gone room few))

  as_lost : (dev : Dev) (e : Deed) → (disk_now (view_of (recorded s e stops)) dev).lost ≡ (disk_now (view_of s) dev).lost
  as_lost dev e = ap (λ (x : Disk). x.lost) (is dev e) ∙ sym (ap (λ (x : Disk). x.lost) (was dev))

  pub write_halted : (dev : Dev) (at : ℕ) (bytes some : List ℕ) → length some ≤ length bytes → at + length bytes ≤ size_at s.base (slot_of dev)
      → Writes dev at bytes (view_of s) (view_of (recorded s (Wrote (slot_of dev) at (length bytes) some) stops)) Halted
  write_halted dev at bytes some few fits = record {
    disk = ((length bytes, omega arith, dirtied dev at (length bytes) some few fits), as_lost dev (Wrote (slot_of dev) at (length bytes) some));
    lost = λ f. absurd (cc);
    only = on_device dev (Wrote (slot_of dev) at (length bytes) some) (wrote_is_of (slot_of dev) at (length bytes) some) (λ place. refl) (λ side w m. refl);
  }

  pub write_done : (dev : Dev) (at : ℕ) (bytes : List ℕ) → at + length bytes ≤ size_at s.base (slot_of dev) → Writes dev at bytes (view_of s) (view_of (recorded s (Wrote (slot_of dev) at (length bytes) bytes) stops)) Done
  write_done dev at bytes fits = record {
    disk = (
      dirtied dev at (length bytes) bytes (omega arith) fits,
      ap (slice at (length bytes)) (wrote dev at (length bytes) bytes) ∙ slice_put at bytes (disk_now (view_of s) dev).bytes (omega (arith, fits, size_now dev)),
      as_lost dev (Wrote (slot_of dev) at (length bytes) bytes),
    );
    lost = λ f. absurd (cc);
    only = on_device dev (Wrote (slot_of dev) at (length bytes) bytes) (wrote_is_of (slot_of dev) at (length bytes) bytes) (λ place. refl) (λ side w m. refl);
  }

  pub sync_done : (dev : Dev) → Syncs dev (view_of s) (view_of (recorded s (Synced (slot_of dev)) stops)) Done
  sync_done dev =
      let d : Disk = after (slot_of dev) (fresh s.base (slot_of dev)) s.deeds in
      record {
        disk = (
          ap (λ (x : Disk). x.bytes) (is dev (Synced (slot_of dev))) ∙ sync_bytes (slot_of dev) d ∙ sym (ap (λ (x : Disk). x.bytes) (was dev)),
          ap (λ (x : Disk). x.unsynced) (is dev (Synced (slot_of dev))) ∙ sync_unsynced (slot_of dev) d,
          as_lost dev (Synced (slot_of dev)),
        );
        lost = λ f. absurd (cc);
        only = on_device dev (Synced (slot_of dev)) (sync_is_of (slot_of dev)) (λ place. refl) (λ side w m. refl);
      }

  -- an act that changes nothing
  idle : (d : Dev) → disk_now (view_of (recorded s Idle stops)) d ≡ disk_now (view_of s) d
  idle d = is d Idle ∙ sym (was d)

  idle_else : (dev : Dev) → OnDevice dev (view_of s) (view_of (recorded s Idle stops))
  idle_else dev = on_device dev Idle (λ slot d ne. refl) (λ place. refl) (λ side w m. refl)

  pub sync_halted : (dev : Dev) → Syncs dev (view_of s) (view_of (recorded s Idle stops)) Halted
  sync_halted dev = record { disk = idle dev; lost = λ f. absurd (cc); only = idle_else dev }

  pub read_halted : (dev : Dev) (at : ℕ) (into : List ℕ) → Reads dev at (view_of s) (view_of (recorded s Idle stops)) into Halted
  read_halted dev at into = record { disk = idle dev; lost = λ f. absurd (cc); only = idle_else dev }

  pub read_done : (dev : Dev) (at slot : ℕ) (into : List ℕ) → into ≡ slice at (length into) (after (slot_of dev) (fresh s.base (slot_of dev)) s.deeds).bytes → Reads dev at (view_of s) (view_of (recorded s (Fetched slot) stops)) into Done
  read_done dev at slot into read = record {
    disk = (is dev (Fetched slot) ∙ sym (was dev), read ∙ sym (ap (λ (x : Disk). slice at (length into) x.bytes) (was dev)));
    lost = λ f. absurd (cc);
    only = on_device dev (Fetched slot) (λ s d ne. refl) (λ place. refl) (λ side w m. refl);
  }

  pub take_halted : (wire member : ℕ) (into : List ℕ) → Takes wire member (view_of s) (view_of (recorded s Idle stops)) into TookHalted
  take_halted wire member into = record {
    took = (refl, none_new s full by_now (moved false wire member) Idle refl);
    others = λ w m ne. none_new s full by_now (moved false w m) Idle refl;
    waiting = λ w ne. refl;
    given = λ w m. none_new s full by_now (moved true w m) Idle refl;
    disks = idle;
    console = lines_same s full by_now 1 Idle stops refl;
    paper = λ m. lines_same s full by_now (4 * m + 2) Idle stops refl;
  }

  -- a line on a place, or an act that changes nothing
  module _ (place : ℕ) (e : Deed) (of : IsLineOf place e) where
    disks_same : (d : Dev) → disk_now (view_of (recorded s e stops)) d ≡ disk_now (view_of s) d
    disks_same d = is d e ∙ ap (λ (x : Disk). shown x (was_lost (health_at s.parts (4 * slot_of d)).since s.now)) (of.disks (slot_of d) (after (slot_of d) (fresh s.base (slot_of d)) s.deeds)) ∙ sym (was d)

    elsewhere : (p : ℕ) → (place ≡ p → ⊥) → lines_in (recorded s e stops) (s.now + 1) p ≡ lines_in s s.now p
    elsewhere p ne = lines_same s full by_now p e stops (of.elsewhere p ne)

    pub said_there : (added : List Line) → lines_of place (e ∷ []) ≡ added → lines_in (recorded s e stops) (s.now + 1) place ≡ lines_in s s.now place ++ added
    said_there added is_added = lines_new s full by_now place e stops ∙ ap (λ (l : List Line). lines_in s s.now place ++ l) is_added

    pub says_of : (line : List ℕ) (result : Act) → place ≡ 1 → Said line (lines_in s s.now place) (lines_in (recorded s e stops) (s.now + 1) place) result → Says line (view_of s) (view_of (recorded s e stops)) result
    says_of line result at said = record {
      console = subst (λ (p : ℕ). Said line (lines_in s s.now p) (lines_in (recorded s e stops) (s.now + 1) p) result) at said;
      disks = disks_same;
      paper = λ m. elsewhere (4 * m + 2) (λ same. absurd (omega (arith, at, same)));
      wires = same_wires e of.wires;
    }

    pub prints_of : (member : ℕ) (line : List ℕ) (result : Act) → place ≡ 4 * member + 2 → Said line (lines_in s s.now place) (lines_in (recorded s e stops) (s.now + 1) place) result → Prints member line (view_of s) (view_of (recorded s e stops)) result
    prints_of member line result at said = record {
      paper = subst (λ (p : ℕ). Said line (lines_in s s.now p) (lines_in (recorded s e stops) (s.now + 1) p) result) at said;
      others = λ m ne. elsewhere (4 * m + 2) (λ same. ne (omega (arith, at, same)));
      disks = disks_same;
      console = elsewhere 1 (λ same. absurd (omega (arith, at, same)));
      wires = same_wires e of.wires;
    }

  -- what a halted line leaves
  pub said_halted : (place keep : ℕ) (line : List ℕ) → Said line (lines_in s s.now place) (lines_in (recorded s (deed_left place keep line) stops) (s.now + 1) place) Halted
  said_halted place keep line = by_test (nat_le (length line) keep) (keep == 0) where
    by_test : (b c : Bool) → Said line (lines_in s s.now place) (lines_in (recorded s (if b then DeedSaid place line true else (if c then Idle else DeedSaid place (take keep line) false)) stops) (s.now + 1) place) Halted
    by_test true c = inr (inr (said_there place (DeedSaid place line true) (said_is_line place line true) (record { text = line; whole = true } ∷ []) (line_there place line true)))
    by_test false true = inl (lines_same s full by_now place Idle stops refl)
    by_test false false = inr (inl (take keep line, said_there place (DeedSaid place (take keep line) false) (said_is_line place (take keep line) false) (record { text = take keep line; whole = false } ∷ []) (line_there place (take keep line) false)))

  pub line_halted : (place keep : ℕ) (line : List ℕ) → lines_in (recorded s (deed_left place keep line) stops) (s.now + 1) place ≡ lines_in s s.now place ++ left_of keep line
  line_halted place keep line = by_test (nat_le (length line) keep) (keep == 0) where
    by_test : (b c : Bool) → lines_in (recorded s (if b then DeedSaid place line true else (if c then Idle else DeedSaid place (take keep line) false)) stops) (s.now + 1) place
        ≡ lines_in s s.now place ++ (if b then record { text = line; whole = true } ∷ [] else (if c then [] else record { text = take keep line; whole = false } ∷ []))
    by_test true c = said_there place (DeedSaid place line true) (said_is_line place line true) (record { text = line; whole = true } ∷ []) (line_there place line true)
    by_test false true = lines_same s full by_now place Idle stops refl ∙ sym (append-nil (lines_in s s.now place))
    by_test false false = said_there place (DeedSaid place (take keep line) false) (said_is_line place (take keep line) false) (record { text = take keep line; whole = false } ∷ []) (line_there place (take keep line) false)

  pub said_done : (place : ℕ) (line : List ℕ) → Said line (lines_in s s.now place) (lines_in (recorded s (DeedSaid place line true) stops) (s.now + 1) place) Done
  said_done place line = said_there place (DeedSaid place line true) (said_is_line place line true) (record { text = line; whole = true } ∷ []) (line_there place line true)

-- bytes on a wire. What waits may change in the act
module _ (s : State) (stops : Halts) (waiting : ℕ → List ℕ) (side : Bool) (wire member : ℕ) (bytes : List ℕ) (full : length s.deeds ≡ s.now) (by_now : (k : ℕ) → since_of (health_at s.parts k).since ≤ s.now) where
  abbrev deed : Deed
  deed = Passed side wire member bytes

  abbrev new : State
  new = record (recorded s deed stops) { waiting = waiting }

  pub passed_disks : (d : Dev) → disk_now (view_of new) d ≡ disk_now (view_of s) d
  passed_disks d = disk_new s full by_now (slot_of d) deed stops ∙ sym (disk_old s full by_now (slot_of d))

  pub passed_lines : (place : ℕ) → lines_in new (s.now + 1) place ≡ lines_in s s.now place
  passed_lines place = lines_same s full by_now place deed stops refl

  pub passed_there : moved_in new (s.now + 1) side wire member ≡ moved_in s s.now side wire member ++ bytes
  passed_there =
      all_new s full by_now (moved side wire member) deed
      ∙ ap (λ (l : List ℕ). l ++ gather (moved side wire member) (deed ∷ [])) (sym (all_old s full by_now (moved side wire member)))
      ∙ ap (λ (l : List ℕ). moved_in s s.now side wire member ++ l) (moved_there side wire member bytes)

  pub passed_else : (w m : ℕ) → (w ≢ wire) ⊎ (m ≢ member) → moved_in new (s.now + 1) side w m ≡ moved_in s s.now side w m
  passed_else w m ne = none_new s full by_now (moved side w m) deed (moved_else side wire member w m bytes ne)

  pub passed_other_side : (other : Bool) (w m : ℕ) → same_side other side ≡ false → moved_in new (s.now + 1) other w m ≡ moved_in s s.now other w m
  passed_other_side other w m ne = none_new s full by_now (moved other w m) deed (moved_other other side wire member w m bytes ne)

-- a renewal puts another device in a device's place
module _ (s : State) (full : length s.deeds ≡ s.now) (by_now : (k : ℕ) → since_of (health_at s.parts k).since ≤ s.now) (dev : Dev) (few : slot_of dev < 258) (there : place_of (DiskPart dev) < length s.parts) where
  abbrev before : ℕ → Disk
  before slot = after slot (fresh s.base slot) s.deeds

  abbrev renewal : Deed
  renewal = RenewedDeed (slot_of dev) (health_at s.parts (place_of (DiskPart dev))).since

  here : disk_now (view_of (renewed s dev)) dev ≡ record { bytes = replicate (length (before (slot_of dev)).bytes) 0; unsynced = []; lost = false }
  here =
      renewed_disk s full by_now dev few there (slot_of dev)
      ∙ ap (shown (effect (slot_of dev) (before (slot_of dev)) renewal)) (renewed_is_there s full by_now dev few there)
      ∙ ap (λ (x : Disk). shown x false) (renew_there (slot_of dev) (health_at s.parts (place_of (DiskPart dev))).since (before (slot_of dev)))

  long : length (before (slot_of dev)).bytes ≡ size_at s.base (slot_of dev)
  long = length-after (slot_of dev) (fresh s.base (slot_of dev)) s.deeds ∙ s.base.whole (slot_of dev)

  elsewhere_renewed : (d : Dev) → d ≢ dev → disk_now (view_of (renewed s dev)) d ≡ disk_now (view_of s) d
  elsewhere_renewed d ne =
      renewed_disk s full by_now dev few there (slot_of d)
      ∙ ap (shown (effect (slot_of d) (before (slot_of d)) renewal)) (renewed_else s full by_now dev few there d ne)
      ∙ ap (λ (x : Disk). shown x (was_lost (health_at s.parts (4 * slot_of d)).since s.now)) (renew_is_of (slot_of dev) (health_at s.parts (place_of (DiskPart dev))).since (slot_of d) (before (slot_of d)) (λ same. ne (slot_apart d dev (sym same))))
      ∙ sym (disk_old s full by_now (slot_of d))

  pub renewed_there : RenewsThere dev (view_of s) (view_of (renewed s dev)) Done
  renewed_there = record {
    disk = (
      ap (λ (x : Disk). x.bytes) here ∙ ap (λ (n : ℕ). replicate n 0) long,
      ap (λ (x : Disk). x.unsynced) here,
      ap (λ (x : Disk). x.lost) here,
    );
    lost = λ f. absurd (cc);
    only = record {
      others = elsewhere_renewed;
      console = lines_same s full by_now 1 renewal s.stops refl;
      paper = λ m. lines_same s full by_now (4 * m + 2) renewal s.stops refl;
      wires = record {
        waiting = λ w. refl;
        taken = λ w m. none_new s full by_now (moved false w m) renewal refl;
        given = λ w m. none_new s full by_now (moved true w m) renewal refl;
      };
    };
  }
