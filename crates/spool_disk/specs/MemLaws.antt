-- A device of a plant in memory has as many bytes as its size, and is lost in the world only where it is lost now.
use Rattle.std.proofs.Common.{◌≡◌, ℕ, suc, ◌*◌, ◌≤◌, Bool, true, false, Option, Some, None, is_some, List, [], ◌∷◌, length, take, drop, refl, ◌∙◌, ap, arith}
use Rattle.std.proofs.lemmas.List.{drop_all}
use Rattle.mas_types.specs.declared.ids.Dev.{Dev}
use Rattle.spool_disk.specs.declared.memory.MemPlant.{MemPlant}
use Rattle.spool_plant.specs.declared.plant.Part.TheVariants.{Disk as DiskPart}
use Rattle.spool_plant.specs.View.{disk_at, disk_now}
use Rattle.spool_disk.specs.Places.{slot_of}
use Rattle.spool_disk.specs.declared.entry.Entry.{Entry}
use Rattle.spool_disk.specs.Deeds.{Deed}
use Rattle.spool_disk.specs.Entries.{kept_by, deeds_of}
use Rattle.spool_disk.specs.Renewals.{since_then}
use Rattle.spool_disk.specs.Kept.{fresh}
use Rattle.spool_disk.specs.Health.{health_at, was_lost}
use Rattle.spool_disk.specs.DeedLaws.{length-after}
use Rattle.spool_disk.specs.MemView.{mem_view}

pub mem_sized : (m : MemPlant) (t : ℕ) (d : Dev) → length (disk_at (mem_view m) t d).bytes ≡ (mem_view m).size d
mem_sized m t d = length-after (slot_of d) (fresh m.kept.base (slot_of d))
    (take t (deeds_of m.kept.log.items m.kept.arena.items)) ∙ m.kept.base.whole (slot_of d)

length-deeds : (log : List Entry) (arena : List ℕ) → length (deeds_of log arena) ≡ length log
length-deeds [] arena = refl
length-deeds (e ∷ log) arena = ap suc (length-deeds log (drop (kept_by e) arena))

short : (log : List Entry) (arena : List ℕ) (now : ℕ) → length log ≤ now → length (deeds_of log arena) ≤ now
short log arena now le = omega (arith, length-deeds log arena, le)

not_lost : (since : Option ℕ) (lost : Bool) (t : ℕ) → (is_some since ≡ true → lost ≡ true) → lost ≡ false
    → was_lost since t ≡ false
not_lost None lost t still whole = refl
not_lost (Some m) true t still whole = absurd (cc)
not_lost (Some m) false t still whole = let wrong : false ≡ true = still refl in absurd (cc)

pub mem_there : (m : MemPlant) (d : Dev) → (mem_view m).lost (DiskPart d) ≡ false
    → (disk_now (mem_view m) d).lost ≡ false
mem_there m d whole =
    ap (λ (l : List Deed). was_lost
    (since_then (4 * slot_of d) l (health_at m.counts.parts.items (4 * slot_of d)).since) m.moment)
    (drop_all m.moment (deeds_of m.kept.log.items m.kept.arena.items)
    (short m.kept.log.items m.kept.arena.items m.moment m.in_step.0))
    ∙ not_lost (health_at m.counts.parts.items (4 * slot_of d)).since
    (health_at m.counts.parts.items (4 * slot_of d)).lost m.moment (m.lost_still (4 * slot_of d)) whole
