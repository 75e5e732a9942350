-- The groups of a text and those of a member, after the member gave some away.
use Rattle.std.proofs.Common.{◌≡◌, ℕ, zero, suc, ◌+◌, ◌≤◌, true, false, List, [], ◌∷◌, length, map, take, drop, refl, ap, arith}
use Rattle.std.specs.Prelude.{All}
use Rattle.std.proofs.lemmas.Bool.Decides.{nat_tests}
use Rattle.std.proofs.lemmas.List.Elements.{All-cons, All-head, All-tail, All-nil}
use Rattle.mas_types.specs.declared.ids.MemberId.{MemberId}
use Rattle.mas_types.specs.declared.ids.GroupNo.{GroupNo}
use Rattle.mas_types.specs.declared.queues.Owner.{Owner}
use Rattle.mas_types.specs.declared.queues.Owner.TheVariants as owner
use Rattle.mas_types.specs.declared.queues.Thing.{Thing}
use Rattle.mas_types.specs.declared.queues.Thing.TheVariants as thing
use Rattle.mas_types.specs.Owners.{is_members, freed, places}
use Rattle.track_groups.specs.declared.places.Placed.{Placed}
use Rattle.track_groups.specs.Groups.{is_things, owner_at, first_places, given, groups_where, held_by}
use Rattle.track_groups.specs.Places.{place_of, placed_from, groups_of}
use Rattle.track_groups.specs.Laws.{AreNoMembers, AreNotOf}
use Rattle.track_groups.proofs.Walks.{test_cases}
use Rattle.track_groups.proofs.Giving.{given-none}
use Rattle.mas_types.proofs.Sorting.{Rises, in_order-Rises}

-- WHOSE A GROUP IS

-- a member's group is no text's
member-no_things : (m : MemberId) (t : Thing) (g : Owner) → is_members m g ≡ true → is_things t g ≡ false
member-no_things m (thing.Deck n) owner.Free h = refl
member-no_things m (thing.Output n i) owner.Free h = refl
member-no_things m (thing.Deck n) (owner.Member k) h = refl
member-no_things m (thing.Output n i) (owner.Member k) h = refl
member-no_things m t (owner.Deck k p) h = absurd (cc)
member-no_things m t (owner.Output k j p) h = absurd (cc)

free-no_things : (t : Thing) → is_things t owner.Free ≡ false
free-no_things (thing.Deck n) = refl
free-no_things (thing.Output n i) = refl

owner_at-things : (t : Thing) (p : ℕ) → is_things t (owner_at t p) ≡ true
owner_at-things (thing.Deck n) p = grind (arith, nat_tests)
owner_at-things (thing.Output n i) p = grind (arith, nat_tests)

place_of-owner_at : (t : Thing) (p : ℕ) → place_of (owner_at t p) ≡ p
place_of-owner_at (thing.Deck n) p = refl
place_of-owner_at (thing.Output n i) p = refl

-- TEXTS THAT STAY

placed_from-given : (m : MemberId) (t : Thing) (at : ℕ) (new gs : List Owner) → AreNotOf t new → placed_from t at (given m new gs) ≡ placed_from t at gs
placed_from-given m t at [] gs none = rw (given-none m gs) refl
placed_from-given m t at (x ∷ new) [] none = refl
placed_from-given m t at (x ∷ new) (g ∷ gs) none =
    let P = λ (o : Owner). is_things t o ≡ false in
    test_cases (is_members m g) (placed_from t at (given m (x ∷ new) (g ∷ gs)) ≡ placed_from t at (g ∷ gs))
    (λ mine. rw (mine, All-head P x new none, member-no_things m t g mine) (placed_from-given m t (at + 1) new gs (All-tail P x new none)))
    (λ other. rw (other, placed_from-given m t (at + 1) (x ∷ new) gs none) refl)

pub texts_stay : (m : MemberId) (t : Thing) (new gs : List Owner) → AreNotOf t new → groups_of t (given m new gs) ≡ groups_of t gs
texts_stay m t new gs none = rw (placed_from-given m t 0 new gs none) refl

placed_from-freed : (m : MemberId) (t : Thing) (at : ℕ) (gs : List Owner) → placed_from t at (freed (is_members m) gs) ≡ placed_from t at gs
placed_from-freed m t at [] = refl
placed_from-freed m t at (g ∷ gs) =
    test_cases (is_members m g) (placed_from t at (freed (is_members m) (g ∷ gs)) ≡ placed_from t at (g ∷ gs))
    (λ mine. rw (mine, free-no_things t, member-no_things m t g mine) (placed_from-freed m t (at + 1) gs))
    (λ other. rw (other, placed_from-freed m t (at + 1) gs) refl)

pub texts_stay_freed : (m : MemberId) (t : Thing) (gs : List Owner) → groups_of t (freed (is_members m) gs) ≡ groups_of t gs
texts_stay_freed m t gs = rw (placed_from-freed m t 0 gs) refl

-- WHAT A MEMBER KEEPS

groups_where-given : (m : MemberId) (at : ℕ) (new gs : List Owner) → AreNoMembers m new → groups_where (is_members m) at (given m new gs) ≡ drop (length new) (groups_where (is_members m) at gs)
groups_where-given m at [] gs none = rw (given-none m gs) refl
groups_where-given m at (x ∷ new) [] none = refl
groups_where-given m at (x ∷ new) (g ∷ gs) none =
    let P = λ (o : Owner). is_members m o ≡ false in
    test_cases (is_members m g) (groups_where (is_members m) at (given m (x ∷ new) (g ∷ gs)) ≡ drop (suc (length new)) (groups_where (is_members m) at (g ∷ gs)))
    (λ mine. rw (mine, All-head P x new none) (groups_where-given m (at + 1) new gs (All-tail P x new none)))
    (λ other. rw (other, other) (groups_where-given m (at + 1) (x ∷ new) gs none))

pub others_stay : (m : MemberId) (new gs : List Owner) → AreNoMembers m new → held_by m (given m new gs) ≡ drop (length new) (held_by m gs)
others_stay m new gs none = groups_where-given m 0 new gs none

-- WHAT A TEXT GETS

-- groups with the places from one on
abbrev numbered : ℕ → List GroupNo → List Placed
numbered p [] = []
numbered p (g ∷ gs) = record { place = p; group = g } ∷ numbered (p + 1) gs

numbered-above : (low p : ℕ) (gs : List GroupNo) → low ≤ p → All (λ x. low ≤ x.place) (numbered p gs)
numbered-above low p [] h = All-nil (λ x. low ≤ x.place)
numbered-above low p (g ∷ gs) h = All-cons (λ x. low ≤ x.place) (record { place = p; group = g }) (numbered (p + 1) gs) h (numbered-above low (p + 1) gs (omega arith))

numbered-rises : (p : ℕ) (gs : List GroupNo) → Rises (λ x. x.place) (numbered p gs)
numbered-rises p [] = tt
numbered-rises p (g ∷ gs) = (numbered-above p (p + 1) gs (omega arith), numbered-rises (p + 1) gs)

groups-numbered : (p : ℕ) (gs : List GroupNo) → map (λ x. x.group) (numbered p gs) ≡ gs
groups-numbered p [] = refl
groups-numbered p (g ∷ gs) = ap (λ xs. g ∷ xs) (groups-numbered (p + 1) gs)

placed_from-none : (t : Thing) (at : ℕ) (gs : List Owner) → AreNotOf t gs → placed_from t at gs ≡ []
placed_from-none t at [] none = refl
placed_from-none t at (g ∷ gs) none =
    let P = λ (o : Owner). is_things t o ≡ false in
    rw (All-head P g gs none) (placed_from-none t (at + 1) gs (All-tail P g gs none))

placed_from-first : (m : MemberId) (t : Thing) (at place count : ℕ) (gs : List Owner) → AreNotOf t gs
    → placed_from t at (given m (places (owner_at t) place count) gs) ≡ numbered place (take count (groups_where (is_members m) at gs))
placed_from-first m t at place zero gs none = rw (given-none m gs) (placed_from-none t at gs none)
placed_from-first m t at place (suc count) [] none = refl
placed_from-first m t at place (suc count) (g ∷ gs) none =
    let P = λ (o : Owner). is_things t o ≡ false in
    let rest = All-tail P g gs none in
    test_cases (is_members m g) (placed_from t at (given m (places (owner_at t) place (suc count)) (g ∷ gs)) ≡ numbered place (take (suc count) (groups_where (is_members m) at (g ∷ gs))))
    (λ mine. rw (mine, owner_at-things t place, place_of-owner_at t place) (ap (λ xs. record { place = place; group = record { 0 = at } } ∷ xs) (placed_from-first m t (at + 1) (place + 1) count gs rest)))
    (λ other. rw (other, All-head P g gs none) (placed_from-first m t (at + 1) place (suc count) gs rest))

pub gets_lowest : (m : MemberId) (t : Thing) (count : ℕ) (gs : List Owner) → AreNotOf t gs → groups_of t (given m (first_places t count) gs) ≡ take count (held_by m gs)
gets_lowest m t count gs none =
    rw (placed_from-first m t 0 0 count gs none, in_order-Rises (λ x. x.place) (numbered 0 (take count (held_by m gs))) (numbered-rises 0 (take count (held_by m gs))))
    (groups-numbered 0 (take count (held_by m gs)))
