-- What taking, giving and freeing groups do, group by group and text by text.
use Rattle.std.specs.Prelude.{◌≡◌, ℕ, false, nat_lt, ◌&&◌, if◌then◌else◌, List, ◌++◌, length, take, drop, All, option_map, slice_get, unwrap_or}
use Rattle.std.specs.List.Sorted.{IsPermutation, IsNonDecreasingBy}
use Rattle.mas_types.specs.declared.ids.MemberId.{MemberId}
use Rattle.mas_types.specs.declared.queues.Owner.{Owner}
use Rattle.mas_types.specs.declared.queues.Owner.TheVariants as owner
use Rattle.mas_types.specs.declared.queues.Thing.{Thing}
use Rattle.mas_types.specs.Owners.{is_free, is_members, free_count, member_count, taken, freed, handed_out}
use Rattle.track_groups.specs.Groups.{is_things, first_places, given, groups_where, held_by}
use Rattle.track_groups.specs.Places.{place_in, groups_of}

-- GROUP BY GROUP

-- a Free group becomes the member's where fewer Free ones than are wanted are below it; the others stay
abbrev pub TakesTheLowest : Type 0
TakesTheLowest = (m : MemberId) (want : ℕ) (gs : List Owner) (g : ℕ) →
    slice_get (taken m want gs) g
    ≡ option_map (λ o. if is_free o && nat_lt (free_count (take g gs)) want then owner.Member m else o) (slice_get gs g)

-- a group of the member gets the new owner with the number of the member's groups below it, if there is one; the others
-- stay
abbrev pub GivesTheLowest : Type 0
GivesTheLowest = (m : MemberId) (new gs : List Owner) (g : ℕ) →
    slice_get (given m new gs) g
    ≡ option_map (λ o. if is_members m o then unwrap_or (slice_get new (member_count m (take g gs))) o else o)
    (slice_get gs g)

-- GIVING ONE AFTER THE OTHER

-- no owner in the list is the member
abbrev pub AreNoMembers : MemberId → List Owner → Type 0
AreNoMembers m new = All (λ o. is_members m o ≡ false) new

-- a text's owners are no member
abbrev pub TextsAreNoMembers : Type 0
TextsAreNoMembers = (m : MemberId) (t : Thing) (count : ℕ) → AreNoMembers m (first_places t count)

-- what is given first and what is given then are given together
abbrev pub GivesInTurn : Type 0
GivesInTurn = (m : MemberId) (first more gs : List Owner) → AreNoMembers m first
    → given m more (given m first gs) ≡ given m (first ++ more) gs

-- giving and then freeing the member's others is handing out
abbrev pub HandsOut : Type 0
HandsOut = (m : MemberId) (new gs : List Owner) → AreNoMembers m new
    → freed (is_members m) (given m new gs) ≡ handed_out m new gs

-- TEXT BY TEXT

-- the groups of a text in their order are the ones that it owns
abbrev pub AreItsOwn : Type 0
AreItsOwn = (t : Thing) (gs : List Owner) → IsPermutation (groups_where (is_things t) 0 gs) (groups_of t gs)

-- the places of a text's groups in their order don't fall
abbrev pub PlacesAscend : Type 0
PlacesAscend = (t : Thing) (gs : List Owner) → IsNonDecreasingBy (place_in gs) (groups_of t gs)

-- no owner in the list is the deck or the output
abbrev pub AreNotOf : Thing → List Owner → Type 0
AreNotOf t owners = All (λ o. is_things t o ≡ false) owners

-- the groups that a text gets are the lowest ones of the member, in ascending order
abbrev pub GetsTheLowest : Type 0
GetsTheLowest = (m : MemberId) (t : Thing) (count : ℕ) (gs : List Owner) → AreNotOf t gs
    → groups_of t (given m (first_places t count) gs) ≡ take count (held_by m gs)

-- the member keeps those of its groups that aren't given away
abbrev pub KeepsTheOthers : Type 0
KeepsTheOthers = (m : MemberId) (new gs : List Owner) → AreNoMembers m new
    → held_by m (given m new gs) ≡ drop (length new) (held_by m gs)

-- texts that get no groups keep theirs
abbrev pub KeepsOtherTexts : Type 0
KeepsOtherTexts = (m : MemberId) (t : Thing) (new gs : List Owner) → AreNotOf t new
    → groups_of t (given m new gs) ≡ groups_of t gs

-- texts keep their groups where a member's are freed
abbrev pub FreeingKeepsTexts : Type 0
FreeingKeepsTexts = (m : MemberId) (t : Thing) (gs : List Owner)
    → groups_of t (freed (is_members m) gs) ≡ groups_of t gs
