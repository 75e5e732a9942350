-- A plant after a crash.
use Rattle.std.proofs.Common.{◌≡◌, ℕ, zero, suc, ◌+◌, ◌*◌, ◌<◌, Option, List, [], ◌∷◌, ◌++◌, length, take, drop, refl, subst, sym, ◌∙◌, ap}
use Rattle.mas_types.specs.declared.ids.Dev.{Dev}
use Rattle.spool_disk.specs.declared.base.Base.{Base}
use Rattle.spool_plant.specs.declared.choice.Choice.{Choice}
use Rattle.spool_plant.specs.declared.choice.Choice.TheVariants.{Old, New, Ones}
use Rattle.spool_disk.specs.declared.entry.Entry.{Entry}
use Rattle.spool_disk.specs.declared.entry.Entry.TheVariants.{Idle as EntryIdle, Wrote as EntryWrote, Synced as EntrySynced, Said as EntrySaid, Passed as EntryPassed, Fetched as EntryFetched, Renewed as EntryRenewed}
use Rattle.spool_disk.specs.Known.{known_since, known_health}
use Rattle.spool_disk.specs.Renewals.{known_before, since_then}
use Rattle.spool_disk.specs.declared.health.Health.{Health}
use Rattle.spool_disk.specs.declared.memory.MemPlant.{MemPlant}
use Rattle.spool_plant.specs.declared.plant.Part.{Part}
use Rattle.spool_plant.specs.declared.plant.Part.TheVariants.{Disk as DiskPart}
use Rattle.spool_plant.specs.View.{View, slice}
use Rattle.spool_disk.specs.Deeds.{Deed, after, lines_of}
use Rattle.spool_disk.specs.Entries.{kept_by, deed_of, deeds_of}
use Rattle.spool_disk.specs.Kept.{fresh}
use Rattle.spool_plant.specs.Crash.{LeavesBy}
use Rattle.spool_disk.specs.LeavesAt.{LeavesAt}
use Rattle.spool_disk.specs.Health.{health_at, was_lost}
use Rattle.spool_disk.specs.Sizes.{size_in}
use Rattle.spool_disk.specs.Standing.{bytes_at}
use Rattle.spool_disk.specs.Places.{slot_of, place_of}
use Rattle.spool_disk.specs.State.{State, lost_in, first_lines, lines_in, view_of}
use Rattle.spool_disk.specs.MemView.{state_of, mem_view, mem_lost}
use Rattle.spool_disk.specs.Begins.{BeginsWith, IsCrashed, restarted}
use Rattle.spool_disk.proofs.Entering.{take-deeds}
use Rattle.spool_disk.proofs.Restart.{all_leave, restarted_lost}
use Rattle.spool_disk.proofs.Earlier.{earlier}
use Rattle.spool_disk.proofs.Matching.{Matches, leaves_match}

known_deeds : (k : ℕ) (log : List Entry) (arena : List ℕ) (x : Option ℕ) → known_since k log x ≡ since_then k (deeds_of log arena) x
known_deeds k [] arena x = refl
known_deeds k (e ∷ log) arena x = ap (known_before k (deed_of e [])) (known_deeds k log (drop (kept_by e) arena) x) ∙ same_known k e (take (kept_by e) arena) (since_then k (deeds_of log (drop (kept_by e) arena)) x) where
  same_known : (k : ℕ) (e : Entry) (bytes : List ℕ) (y : Option ℕ) → known_before k (deed_of e []) y ≡ known_before k (deed_of e bytes) y
  same_known k EntryIdle bytes y = refl
  same_known k (EntryWrote s at len kept) bytes y = refl
  same_known k (EntrySynced s) bytes y = refl
  same_known k (EntrySaid place kept whole) bytes y = refl
  same_known k (EntryPassed given wire member kept) bytes y = refl
  same_known k (EntryFetched s) bytes y = refl
  same_known k (EntryRenewed s since) bytes y = refl

known_drop : (k t : ℕ) (log : List Entry) (arena : List ℕ) (x : Option ℕ) → known_since k (drop t log) x ≡ since_then k (drop t (deeds_of log arena)) x
known_drop k zero log arena x = known_deeds k log arena x
known_drop k (suc t) [] arena x = refl
known_drop k (suc t) (e ∷ log) arena x = known_drop k t log (drop (kept_by e) arena) x

-- what a crash leaves by what the record keeps it leaves by what the plant shows
leaves_by : (choice : Choice) (s : State) (t : ℕ) (d : Dev) (image : List ℕ) → LeavesAt choice s.base (slot_of d) (take t s.deeds) image → LeavesBy choice (view_of s) t d image
leaves_by Old s t d image is = is ∙ sym (earlier s d t)
leaves_by New s t d image is = is
leaves_by Ones s t d image is = record { size = is.size; each = is.each }

module _ (choice : Choice) (m : MemPlant) (t : ℕ) (base : Base) (parts : List Health) (v : View) (log : List Entry) (arena : List ℕ) (taken : log ≡ take t m.kept.log.items) (all : arena ≡ m.kept.arena.items) (sizes : base.sizes ≡ m.kept.base.sizes)
    (each : (slot : ℕ) → slot < 258 → LeavesAt choice m.kept.base slot (deeds_of log arena) (bytes_at base.start.items slot)) (lines : (place : ℕ) → first_lines base place ≡ first_lines m.kept.base place ++ lines_of place (deeds_of log arena))
    (later : List Entry) (behind : later ≡ drop t m.kept.log.items) (part : (k : ℕ) → health_at parts k ≡ restarted t (known_health k later (health_at m.counts.parts.items k))) (begin : BeginsWith base parts v) where
  deeds_are : deeds_of log arena ≡ take t (state_of m).deeds
  deeds_are = ap (λ (l : List Entry). deeds_of l arena) taken ∙ ap (deeds_of (take t m.kept.log.items)) all ∙ sym (take-deeds t m.kept.log.items m.kept.arena.items)

  left_at : (slot : ℕ) → LeavesAt choice m.kept.base slot (deeds_of log arena) (bytes_at base.start.items slot)
  left_at slot = all_leave choice m.kept.base base.start.items (deeds_of log arena) base.slots each slot

  matched : (slot : ℕ) → Matches (bytes_at base.start.items slot) (after slot (fresh m.kept.base slot) (take t (state_of m).deeds))
  matched slot = subst (λ (l : List Deed). Matches (bytes_at base.start.items slot) (after slot (fresh m.kept.base slot) l)) deeds_are (leaves_match slot choice log arena (fresh m.kept.base slot) (bytes_at base.start.items slot) (left_at slot))

  -- what is known of a part before the later entries
  known : (k : ℕ) → known_since k later (health_at m.counts.parts.items k).since ≡ since_then k (drop t (state_of m).deeds) (health_at m.counts.parts.items k).since
  known k =
      ap (λ (es : List Entry). known_since k es (health_at m.counts.parts.items k).since) behind
      ∙ known_drop k t m.kept.log.items m.kept.arena.items (health_at m.counts.parts.items k).since

  was_then : (k : ℕ) → was_lost (known_health k later (health_at m.counts.parts.items k)).since t ≡ lost_in (state_of m) t k
  was_then k = ap (λ (o : Option ℕ). was_lost o t) (known k)

  lines_then : (place : ℕ) → first_lines base place ≡ lines_in (state_of m) t place
  lines_then place = lines place ∙ ap (λ (l : List Deed). first_lines m.kept.base place ++ lines_of place l) deeds_are

  pub crashed : IsCrashed choice t (mem_view m) v
  crashed = record {
    fresh = begin.fresh;
    size = λ d. begin.size d ∙ ap (λ x. size_in x (slot_of d)) sizes;
    bytes = λ d. subst (LeavesBy choice (mem_view m) t d) (sym (begin.bytes d)) (leaves_by choice (state_of m) t d (bytes_at base.start.items (slot_of d)) (subst (λ (l : List Deed). LeavesAt choice m.kept.base (slot_of d) l (bytes_at base.start.items (slot_of d))) deeds_are (left_at (slot_of d))));
    image = λ d there. record {
      there = there;
      size = ap (λ (l : List ℕ). length l) (begin.bytes d) ∙ (matched (slot_of d)).size;
      synced = λ s avoids. ap (slice s.from s.len) (begin.bytes d) ∙ (matched (slot_of d)).synced s avoids;
    };
    disk = λ d. begin.disk d ∙ ap (λ (h : Health). was_lost h.since 0) (part (4 * slot_of d)) ∙ restarted_lost t (known_health (4 * slot_of d) later (health_at m.counts.parts.items (4 * slot_of d))) ∙ was_then (4 * slot_of d);
    lost = λ d. begin.lost (DiskPart d) ∙ ap (λ (h : Health). h.lost) (part (4 * slot_of d)) ∙ was_then (4 * slot_of d);
    console = begin.console ∙ lines_then 1;
    paper = λ p. begin.paper p ∙ lines_then (4 * p + 2);
  }

  pub crashed_lost : (p : Part) → v.lost p ≡ mem_lost m t p
  crashed_lost p = begin.lost p ∙ ap (λ (h : Health). h.lost) (part (place_of p)) ∙ was_then (place_of p)
