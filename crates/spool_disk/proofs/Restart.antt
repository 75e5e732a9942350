-- A plant begun anew, and after a crash.
use Rattle.std.proofs.Common.{subst, ◌≡◌, ◌⊎◌, inl, inr, ⊎_elim, ℕ, suc, zero, ◌+◌, ◌*◌, ◌≤◌, ◌<◌, nat_le, Bool, true, false, if◌then◌else◌, Some, None, is_some, List, [], ◌∷◌, ◌++◌, length, take, drop, slice_index, map, replicate, Vec, refl, sym, ◌∙◌, ap, arith}
use Rattle.std.proofs.lemmas.Bool.Decides.{nat_tests}
use Rattle.std.specs.declared.alloc.Global.{Global}
use Rattle.spool_disk.specs.declared.base.Base.{Base}
use Rattle.spool_plant.specs.declared.choice.Choice.{Choice}
use Rattle.spool_disk.specs.declared.entry.Entry.{Entry}
use Rattle.spool_disk.specs.declared.health.Health.{Health}
use Rattle.spool_disk.specs.declared.sizes.Sizes.{Sizes}
use Rattle.std.proofs.lemmas.List.{append-nil}
use Rattle.spool_plant.specs.View.{View, Disk, Line}
use Rattle.spool_disk.specs.Standing.{bytes_at}
use Rattle.spool_disk.specs.Sizes.{size_in}
use Rattle.spool_disk.specs.Deeds.{Deed, after, gather, line_on, lines_of, moved}
use Rattle.spool_disk.specs.Entries.{deeds_of}
use Rattle.spool_disk.specs.Health.{sound, health_at, was_lost, since_of}
use Rattle.spool_disk.specs.Renewals.{since_then}
use Rattle.spool_disk.specs.Places.{slot_of, place_of}
use Rattle.spool_disk.specs.State.{State, shown, disk_in, first_lines, lines_in, view_of}
use Rattle.spool_disk.specs.Begins.{BeginsWith, IsBlank, restarted}
use Rattle.spool_disk.specs.Kept.{fresh, size_at}
use Rattle.spool_disk.specs.LeavesAt.{LeavesAt}
use Rattle.spool_disk.proofs.Slots.{at_past}
use Rattle.spool_disk.proofs.Crashing.{leaves_length, leaves_none}

abbrev no_deeds : List Deed
no_deeds = []

take-nil : (t : ℕ) → take t no_deeds ≡ no_deeds
take-nil zero = refl
take-nil (suc t) = refl

pub split : (n s : ℕ) → (n ≤ s) ⊎ (s < n)
split n s = by_test (nat_le n s) refl where
  by_test : (b : Bool) → nat_le n s ≡ b → (n ≤ s) ⊎ (s < n)
  by_test true e = inl (grind (arith, nat_tests))
  by_test false e = inr (grind (arith, nat_tests))

module _ (choice : Choice) (base : Base) (start : List (Vec ℕ Global)) (deeds : List Deed) (many : length start ≡ 258) (each : (slot : ℕ) → slot < 258 → LeavesAt choice base slot deeds (bytes_at start slot)) where
  pub all_leave : (slot : ℕ) → LeavesAt choice base slot deeds (bytes_at start slot)
  all_leave slot = ⊎_elim
      (λ le.
      let here : bytes_at start slot ≡ [] = at_past start slot (omega (arith, many, le)) in
      let there : bytes_at base.start.items slot ≡ [] = at_past base.start.items slot (omega (arith, base.slots, le)) in
      leaves_none choice slot (fresh base slot) deeds (bytes_at start slot) (here ∙ sym there) (ap (λ (l : List ℕ). length l) here))
      (each slot)
      (split 258 slot)

  pub all_whole : (slot : ℕ) → length (bytes_at start slot) ≡ size_in base.sizes slot
  all_whole slot = leaves_length choice slot (fresh base slot) deeds (bytes_at start slot) (all_leave slot) ∙ base.whole slot

-- counts that stand at 0, and parts
pub zero_at : (n k : ℕ) → slice_index (replicate n 0) k ≡ 0
zero_at zero k = refl
zero_at (suc n) zero = refl
zero_at (suc n) (suc k) = zero_at n k

pub zeros_at : (n k : ℕ) (l : List ℕ) → l ≡ replicate n 0 → slice_index l k ≡ 0
zeros_at n k l is = ap (λ (m : List ℕ). slice_index m k) is ∙ zero_at n k

sound_at : (n k : ℕ) → health_at (replicate n sound) k ≡ sound
sound_at zero k = refl
sound_at (suc n) zero = refl
sound_at (suc n) (suc k) = sound_at n k

pub sounds_at : (k : ℕ) (parts : List Health) → parts ≡ replicate 1032 sound → health_at parts k ≡ sound
sounds_at k parts is = ap (λ (l : List Health). health_at l k) is ∙ sound_at 1032 k

pub sounds_still : (k : ℕ) (parts : List Health) → parts ≡ replicate 1032 sound → is_some (health_at parts k).since ≡ true → (health_at parts k).lost ≡ true
sounds_still k parts is = subst (λ (h : Health). is_some h.since ≡ true → h.lost ≡ true) (sym (sounds_at k parts is)) (λ some. some)

pub restarted_at : (t k : ℕ) (parts : List Health) → health_at (map (restarted t) parts) k ≡ restarted t (health_at parts k)
restarted_at t k [] = refl
restarted_at t zero (h ∷ parts) = refl
restarted_at t (suc k) (h ∷ parts) = restarted_at t k parts

pub restarted_since : (t : ℕ) (h : Health) → since_of (restarted t h).since ≤ 0
restarted_since t h = by_test (was_lost h.since t) where
  by_test : (b : Bool) → since_of (if b then Some 0 else None) ≤ 0
  by_test true = omega arith
  by_test false = omega arith

pub restarted_still : (t : ℕ) (h : Health) → is_some (restarted t h).since ≡ true → (restarted t h).lost ≡ true
restarted_still t h = by_test (was_lost h.since t) where
  by_test : (b : Bool) → is_some {T = ℕ} (if b then Some 0 else None) ≡ true → b ≡ true
  by_test true some = refl
  by_test false some = some

pub restarted_lost : (t : ℕ) (h : Health) → was_lost (restarted t h).since 0 ≡ was_lost h.since t
restarted_lost t h = by_test (was_lost h.since t) where
  by_test : (b : Bool) → was_lost (if b then Some 0 else None) 0 ≡ b
  by_test true = refl
  by_test false = refl

-- a plant that has made no act
module _ (base : Base) (parts : List Health) (s : State) (now : s.now ≡ 0) (based : s.base ≡ base) (deeds : s.deeds ≡ []) (part : s.parts ≡ parts) (stops : s.stops.counts ≡ replicate 256 0) (halt : s.stops.last ≡ 0) (loses : s.loses ≡ replicate 258 0) (arms : s.arms ≡ replicate 256 0) (waits : (w : ℕ) → s.waiting w ≡ [])
    (none : (k : ℕ) → (health_at parts k).faults ≡ 0) where
  first_disk : (slot : ℕ) → disk_in s s.now slot ≡ shown (fresh base slot) (was_lost (health_at parts (4 * slot)).since 0)
  first_disk slot =
      ap (λ (n : ℕ). disk_in s n slot) now
      ∙ ap (λ (l : List Deed). shown (after slot (fresh s.base slot) (take 0 s.deeds)) (was_lost (since_then (4 * slot) (drop 0 l) (health_at s.parts (4 * slot)).since) 0)) deeds
      ∙ ap (λ (l : List Deed). shown (after slot (fresh s.base slot) (take 0 l)) (was_lost (health_at s.parts (4 * slot)).since 0)) deeds
      ∙ ap (λ b. shown (fresh b slot) (was_lost (health_at s.parts (4 * slot)).since 0)) based
      ∙ ap (λ (l : List Health). shown (fresh base slot) (was_lost (health_at l (4 * slot)).since 0)) part

  none_done : {T : Type 0} (adds : Deed → List T) (t : ℕ) → gather adds (take t s.deeds) ≡ []
  none_done adds t = ap (λ (l : List Deed). gather adds (take t l)) deeds ∙ ap (gather adds) (take-nil t)

  first_said : (place t : ℕ) → lines_in s t place ≡ first_lines base place
  first_said place t = ap (λ (l : List Line). first_lines s.base place ++ l) (none_done (line_on place) t) ∙ append-nil (first_lines s.base place) ∙ ap (λ b. first_lines b place) based

  pub begins : BeginsWith base parts (view_of s)
  begins = record {
    fresh = record {
      now = now;
      unsynced = λ d. ap (λ (x : Disk). x.unsynced) (first_disk (slot_of d));
      faults = λ p. ap (λ (l : List Health). (health_at l (place_of p)).faults) part ∙ none (place_of p);
      stops = λ m. zeros_at 256 m s.stops.counts stops;
      loses = λ d. zeros_at 258 (slot_of d) s.loses loses;
      waiting = waits;
      taken = λ w m. none_done (moved false w m) s.now;
      given = λ w m. none_done (moved true w m) s.now;
      arms = λ m. zeros_at 256 m s.arms arms;
      halt = halt;
    };
    bytes = λ d. ap (λ (x : Disk). x.bytes) (first_disk (slot_of d));
    disk = λ d. ap (λ (x : Disk). x.lost) (first_disk (slot_of d));
    lost = λ p. ap (λ (l : List Health). (health_at l (place_of p)).lost) part;
    size = λ d. ap (λ b. size_at b (slot_of d)) based;
    console = first_said 1 0;
    paper = λ m. first_said (4 * m + 2) 0;
  }

-- devices of zeros
pub blank : (sizes : Sizes) (base : Base) (parts : List Health) (v : View) → base.sizes ≡ sizes → ((slot : ℕ) → slot < 258 → bytes_at base.start.items slot ≡ replicate (size_in sizes slot) 0) → base.said.items ≡ []
    → parts ≡ replicate 1032 sound → BeginsWith base parts v → IsBlank sizes v
blank sizes base parts v same zeros none all begin = record {
  fresh = begin.fresh;
  size = λ d. begin.size d ∙ ap (λ x. size_in x (slot_of d)) same;
  bytes = λ d. begin.bytes d ∙ zeros_there (slot_of d);
  disk = λ d. begin.disk d ∙ ap (λ (h : Health). was_lost h.since 0) (sounds_at (4 * slot_of d) parts all);
  lost = λ p. begin.lost p ∙ ap (λ (h : Health). h.lost) (sounds_at (place_of p) parts all);
  console = begin.console ∙ no_line 1;
  paper = λ m. begin.paper m ∙ no_line (4 * m + 2);
} where
  no_line : (place : ℕ) → first_lines base place ≡ []
  no_line place = ap (λ (l : List Entry). lines_of place (deeds_of l base.text.items)) none

  zeros_there : (slot : ℕ) → bytes_at base.start.items slot ≡ replicate (size_in sizes slot) 0
  zeros_there slot = ⊎_elim
      (λ le.
      let past = at_past base.start.items slot (omega (arith, base.slots, le)) in
      let no_size : size_in sizes slot ≡ 0 = ap (λ x. size_in x slot) (sym same) ∙ sym (base.whole slot) ∙ ap (λ (l : List ℕ). length l) past in
      past ∙ sym (ap (λ (n : ℕ). replicate n 0) no_size))
      (zeros slot)
      (split 258 slot)
