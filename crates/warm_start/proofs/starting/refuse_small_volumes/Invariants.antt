use Rattle.std.proofs.Common.{◌≡◌, ◌*◌, ◌≤◌, ℕ, false}
use Rattle.mas_types.specs.declared.ids.Dev.TheVariants.{Spool}
use Rattle.mas_types.specs.Limits.{page_bytes}
use Rattle.spool_plant.specs.declared.plant.Part.TheVariants.{Disk}
use Rattle.warm_start.proofs.starting.refuse_small_volumes.Given as goal

abbrev pub invariant-loop-volume : goal.invariant-loop-volume
invariant-loop-volume g l =
    (n : ℕ) → 1 ≤ n → n ≤ l.volume → (g.P.Plant.view l.plant).lost (Disk (Spool n)) ≡ false → page_bytes * l.config.groups ≤ (g.P.Plant.view l.plant).size (Spool n)
