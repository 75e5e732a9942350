-- An index from texts to their groups.
use Rattle.std.specs.Prelude.{◌≡◌, ℕ, ◌+◌, nat_eq, Bool, false, ◌&&◌, if◌then◌else◌, List, [], ◌∷◌, ◌++◌, Option, Some, None, unwrap_or}
use Rattle.std.specs.HashMap.{HashMap, get}
use Rattle.mas_types.specs.declared.queues.Owner.{Owner}
use Rattle.mas_types.specs.declared.queues.Owner.TheVariants as owner
use Rattle.mas_types.specs.declared.queues.Thing.{Thing}
use Rattle.mas_types.specs.declared.queues.Thing.TheVariants as thing
use Rattle.track_groups.specs.Groups.{is_things}
use Rattle.track_groups.specs.Places.{place_of}
use Rattle.track_texts.specs.declared.index.TextGroup.{TextGroup}
use Rattle.track_texts.specs.declared.index.TextGroups.{TextGroups}

-- a job's number, with 0 for its deck, or the index of its output and one more
abbrev pub same_key : ℕ × ℕ → ℕ × ℕ → Bool
same_key a b = nat_eq a.0 b.0 && nat_eq a.1 b.1

abbrev pub key_of : Thing → ℕ × ℕ
key_of (thing.Deck n) = (n.0, 0)
key_of (thing.Output n i) = (n.0, i.0 + 1)

-- the key of a group's text, and its place there
abbrev pub placed : Owner → Option ((ℕ × ℕ) × ℕ)
placed (owner.Deck n place) = Some ((n.0, 0), place)
placed (owner.Output n i place) = Some ((n.0, i.0 + 1), place)
placed _ = None

-- the groups of a text in ascending number, each with its place; the first of these groups has the number at
abbrev pub text_groups : Thing → ℕ → List Owner → List TextGroup
text_groups t at [] = []
text_groups t at (g ∷ gs) =
    if is_things t g then record { place = place_of g; group = record { 0 = at } } ∷ text_groups t (at + 1) gs
    else text_groups t (at + 1) gs

-- the groups under a key
abbrev pub groups_at : {S : Type 0} → HashMap (ℕ × ℕ) (List TextGroup) S → ℕ × ℕ → List TextGroup
groups_at groups key = unwrap_or (get same_key groups key) []

-- the groups under other keys stay
abbrev pub KeepsOthers : {S : Type 0} → ℕ × ℕ → HashMap (ℕ × ℕ) (List TextGroup) S → HashMap (ℕ × ℕ)
    (List TextGroup) S → Type 0
KeepsOthers key old new = (q : ℕ × ℕ) → same_key key q ≡ false → groups_at new q ≡ groups_at old q

-- a group is added under a key
abbrev pub Adds : {S : Type 0} → HashMap (ℕ × ℕ) (List TextGroup) S → ℕ × ℕ → TextGroup → HashMap (ℕ × ℕ)
    (List TextGroup) S → Type 0
Adds old key group new =
    (q : ℕ × ℕ) → groups_at new q ≡ (if same_key key q then groups_at old key ++ group ∷ [] else groups_at old q)

-- the index has the groups of each text by these owners
abbrev pub AreTextGroups : TextGroups → List Owner → Type 0
AreTextGroups texts owners = (t : Thing) → groups_at texts.groups (key_of t) ≡ text_groups t 0 owners
