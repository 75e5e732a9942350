-- Copies that were lost before a moment or after it.
use Rattle.std.proofs.Common.{◌⊎◌, inl, inr, ⊎_elim}
use Rattle.mas_types.specs.declared.ids.Dev.{Dev}
use Rattle.spool_plant.specs.declared.plant.Part.TheVariants.{Disk}
use Rattle.spool_plant.specs.View.{View}
use Rattle.member_node.specs.Calls.{Grows, WasLost}
use Rattle.member_node.proofs.CourseLemmas.{grow_rose, rose_grow, rose_later, rose_more}
use Rattle.run_opening.specs.Lines.{Proceeds}

pub lost_before : (d : Dev) (v0 v1 v2 : View) → WasLost d v0 v1 → Proceeds v1 v2 → Grows (v1.loses d) (v2.loses d) → WasLost d v0 v2
lost_before d v0 v1 v2 lost goes grow = ⊎_elim
    (λ failed. inl (rose_more (v0.faults (Disk d)) (v1.faults (Disk d)) (v2.faults (Disk d)) failed (goes.faults (Disk d))))
    (λ called. inr (rose_grow (v0.loses d) (v1.loses d) (v2.loses d) called grow))
    lost

pub lost_after : (d : Dev) (v0 v1 v2 : View) → Proceeds v0 v1 → Grows (v0.loses d) (v1.loses d) → WasLost d v1 v2 → WasLost d v0 v2
lost_after d v0 v1 v2 goes grow lost = ⊎_elim
    (λ failed. inl (rose_later (v0.faults (Disk d)) (v1.faults (Disk d)) (v2.faults (Disk d)) (goes.faults (Disk d)) failed))
    (λ called. inr (grow_rose (v0.loses d) (v1.loses d) (v2.loses d) grow called))
    lost
