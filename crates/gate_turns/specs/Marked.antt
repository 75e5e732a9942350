-- What only grows.
use Rattle.std.specs.Prelude.{ℕ, zero, suc, Bool, not, List, [], ◌∷◌, ◌++◌, map}
use Rattle.mas_types.specs.declared.ids.Dev.{Dev}
use Rattle.mas_types.specs.declared.ids.Dev.TheVariants.{Ckpt1, Ckpt2, Spool}
use Rattle.mas_types.specs.Limits.{members_most, volumes_most, wires_most}
use Rattle.spool_plant.specs.declared.plant.Part.{Part}
use Rattle.spool_plant.specs.declared.plant.Part.TheVariants.{Disk, Console, Printer, Wire}

-- the numbers from 1 to n, the greatest first
abbrev pub down_from : ℕ → List ℕ
down_from zero = []
down_from (suc n) = suc n ∷ down_from n

-- the devices and the parts of a complex, each in its place in a list of marks
abbrev pub devices : List Dev
devices = Ckpt1 ∷ Ckpt2 ∷ map Spool (down_from volumes_most)

abbrev pub parts : List Part
parts = map Disk devices ++ Console ∷ map (λ m. Printer (record { 0 = m })) (down_from members_most)
    ++ map Wire (down_from wires_most)

-- a copy that doesn't count as alive counts as lost
abbrev pub lost_copies : Bool → Bool → List Bool
lost_copies first second = not first ∷ not second ∷ []
