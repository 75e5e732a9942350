-- That a batch is kept.
use Rattle.std.specs.Prelude.{◌&&◌, ◌||◌, not, Bool, true, false}
use Rattle.ckpt_places.specs.declared.places.Place.{Place}
use Rattle.ckpt_places.specs.declared.places.Place.TheVariants.{Opened}

abbrev pub is_opened : Place → Bool
is_opened Opened = true
is_opened _ = false

-- each copy that counts as alive has opened its gate
abbrev pub all_open : Bool → Bool → Place → Place → Bool
all_open first_alive second_alive first second = (not first_alive || is_opened first) &&
    (not second_alive || is_opened second)
