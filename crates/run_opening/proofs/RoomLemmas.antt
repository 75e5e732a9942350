-- A volume with room keeps it.
use Rattle.std.proofs.Common.{◌≡◌, ℕ, ◌*◌, ◌≤◌, Bool, true, false, refl, sym, ◌∙◌, subst}
use Rattle.mas_types.specs.declared.ids.Dev.TheVariants.{Spool}
use Rattle.mas_types.specs.declared.queues.Config.{Config}
use Rattle.mas_types.specs.Limits.{page_bytes}
use Rattle.spool_plant.specs.declared.plant.Part.TheVariants.{Disk}
use Rattle.spool_plant.specs.View.{View}
use Rattle.spool_volumes.specs.Volumes.{AreRoomy}
use Rattle.run_opening.specs.Lines.{Proceeds}

-- a volume has the size that its groups need
unlost : (was is : Bool) → (was ≡ true → is ≡ true) → is ≡ false → was ≡ false
unlost false is on not = refl
unlost true is on not = absurd (let both : true ≡ false = sym (on refl) ∙ not in cc)

pub roomy_on : (old new : View) (config : Config) → Proceeds old new → AreRoomy old config → AreRoomy new config
roomy_on old new config goes roomy n some le there =
    subst (λ (s : ℕ). page_bytes * config.groups ≤ s) (sym (goes.size (Spool n)))
    (roomy n some le (unlost (old.lost (Disk (Spool n))) (new.lost (Disk (Spool n))) (goes.lost (Disk (Spool n)) refl) there))
