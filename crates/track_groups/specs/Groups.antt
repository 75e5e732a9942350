-- Which groups belong to a deck, to an output or to a member, and how a member's groups are given away.
use Rattle.std.specs.Prelude.{ℕ, ◌+◌, Bool, if◌then◌else◌, List, [], ◌∷◌}
use Rattle.mas_types.specs.declared.ids.MemberId.{MemberId}
use Rattle.mas_types.specs.declared.ids.GroupNo.{GroupNo}
use Rattle.mas_types.specs.declared.queues.Owner.{Owner}
use Rattle.mas_types.specs.declared.queues.Owner.TheVariants as owner
use Rattle.mas_types.specs.declared.queues.Thing.{Thing}
use Rattle.mas_types.specs.declared.queues.Thing.TheVariants as thing
use Rattle.mas_types.specs.Owners.{is_members, is_deck_of, is_output_of, places}

-- a group is the deck's or the output's
abbrev pub is_things : Thing → Owner → Bool
is_things (thing.Deck n) g = is_deck_of n g
is_things (thing.Output n i) g = is_output_of n i g

-- the owner of the group that stands at a place of the deck's or the output's text
abbrev pub owner_at : Thing → ℕ → Owner
owner_at (thing.Deck n) place = owner.Deck n place
owner_at (thing.Output n i) place = owner.Output n i place

-- the first places of a deck or an output, as many as are counted
abbrev pub first_places : Thing → ℕ → List Owner
first_places t count = places (λ p. owner_at t p) 0 count

-- the groups, where the lowest ones of the member get these new owners, one each; the member's others stay the member's
abbrev pub given : MemberId → List Owner → List Owner → List Owner
given m new [] = []
given m [] (g ∷ gs) = g ∷ gs
given m (o ∷ new) (g ∷ gs) = if is_members m g then o ∷ given m new gs else g ∷ given m (o ∷ new) gs

-- the numbers of the groups that the test picks, ascending; the first of these groups has the number at
abbrev pub groups_where : (Owner → Bool) → ℕ → List Owner → List GroupNo
groups_where test at [] = []
groups_where test at (g ∷ gs) =
    if test g then record { 0 = at } ∷ groups_where test (at + 1) gs else groups_where test (at + 1) gs

-- the groups of a member, ascending
abbrev pub held_by : MemberId → List Owner → List GroupNo
held_by m gs = groups_where (is_members m) 0 gs
