-- The groups of a text in the order of their places.
use Rattle.std.specs.Prelude.{ℕ, ◌+◌, if◌then◌else◌, List, [], ◌∷◌, map, slice_get}
use Rattle.std.specs.Option.{option_map_or}
use Rattle.mas_types.specs.declared.ids.GroupNo.{GroupNo}
use Rattle.mas_types.specs.declared.queues.Owner.{Owner}
use Rattle.mas_types.specs.declared.queues.Owner.TheVariants as owner
use Rattle.mas_types.specs.declared.queues.Thing.{Thing}
use Rattle.mas_types.specs.Sorted.{in_order}
use Rattle.track_groups.specs.declared.places.Placed.{Placed}
use Rattle.track_groups.specs.Groups.{is_things}

-- the place that a group has in its text
abbrev pub place_of : Owner → ℕ
place_of (owner.Deck n place) = place
place_of (owner.Output n i place) = place
place_of _ = 0

-- the place of a group of which the number is given, 0 where there is no such group
abbrev pub place_in : List Owner → GroupNo → ℕ
place_in gs g = option_map_or place_of (slice_get gs g.0) 0

-- the groups of a deck or an output with their places, in ascending number; the first of these groups has the number at
abbrev pub placed_from : Thing → ℕ → List Owner → List Placed
placed_from t at [] = []
placed_from t at (g ∷ gs) =
    if is_things t g then record { place = place_of g; group = record { 0 = at } } ∷ placed_from t (at + 1) gs
    else placed_from t (at + 1) gs

-- the groups of a deck or an output in the order of their places
abbrev pub groups_of : Thing → List Owner → List GroupNo
groups_of t gs = map (λ p. p.group) (in_order (λ p. p.place) (placed_from t 0 gs))
