-- The lowest groups are taken and given, group by group, and one after the other.
use Rattle.std.proofs.Common.{◌≡◌, ℕ, zero, suc, ◌+◌, ◌-◌, Bool, false, List, [], ◌∷◌, ◌++◌, take, refl, ap, sym, ◌∙◌, arith, Some, None, slice_get}
use Rattle.std.specs.Prelude.{◌&&◌, nat_lt, Option, option_map, unwrap_or, if◌then◌else◌}
use Rattle.std.proofs.lemmas.Bool.Decides.{nat_tests}
use Rattle.std.proofs.lemmas.List.Elements.{All-cons, All-head, All-tail, All-nil}
use Rattle.mas_types.specs.declared.ids.MemberId.{MemberId}
use Rattle.mas_types.specs.declared.queues.Owner.{Owner}
use Rattle.mas_types.specs.declared.queues.Owner.TheVariants as owner
use Rattle.mas_types.specs.declared.queues.Thing.{Thing}
use Rattle.mas_types.specs.Owners.{is_free, is_members, free_count, member_count, taken, freed, handed_out, places}
use Rattle.track_groups.specs.Groups.{given, owner_at}
use Rattle.track_groups.specs.Laws.{AreNoMembers}
use Rattle.track_groups.proofs.Walks.{test_cases, count_by-cons_yes, count_by-cons_no}
use Rattle.track_groups.proofs.Giving.{owner_at-no_members, given-none, given-other}

-- TAKING

-- the group at a place, where a test of the number of Free groups below it decides
abbrev taken_at : MemberId → List Owner → ℕ → Bool → Option Owner
taken_at m gs g lower = option_map (λ o. if is_free o && lower then owner.Member m else o) (slice_get gs g)

pub takes_lowest : (m : MemberId) (want : ℕ) (gs : List Owner) (g : ℕ) →
    slice_get (taken m want gs) g ≡ option_map (λ o. if is_free o && nat_lt (free_count (take g gs)) want then owner.Member m else o) (slice_get gs g)
takes_lowest m want [] g = refl
takes_lowest m want (o ∷ gs) zero =
    test_cases (is_free o && nat_lt 0 want) (slice_get (taken m want (o ∷ gs)) 0 ≡ taken_at m (o ∷ gs) 0 (nat_lt 0 want)) (λ e. rw e refl) (λ e. rw e refl)
takes_lowest m want (o ∷ gs) (suc g) =
    test_cases (is_free o) (slice_get (taken m want (o ∷ gs)) (suc g) ≡ taken_at m gs g (nat_lt (free_count (o ∷ take g gs)) want))
    (λ free. let more = count_by-cons_yes is_free o (take g gs) free in
    test_cases (nat_lt 0 want) (slice_get (taken m want (o ∷ gs)) (suc g) ≡ taken_at m gs g (nat_lt (free_count (o ∷ take g gs)) want))
    (λ some. let same : nat_lt (free_count (take g gs)) (want - 1) ≡ nat_lt (free_count (o ∷ take g gs)) want = rw more (grind (arith, nat_tests)) in
    rw (free, some) (takes_lowest m (want - 1) gs g ∙ ap (taken_at m gs g) same))
    (λ none. let same : nat_lt (free_count (take g gs)) want ≡ nat_lt (free_count (o ∷ take g gs)) want = rw more (grind (arith, nat_tests)) in
    rw (free, none) (takes_lowest m want gs g ∙ ap (taken_at m gs g) same)))
    (λ other. let same : nat_lt (free_count (take g gs)) want ≡ nat_lt (free_count (o ∷ take g gs)) want = rw (count_by-cons_no is_free o (take g gs) other) refl in
    rw other (takes_lowest m want gs g ∙ ap (taken_at m gs g) same))

-- GIVING

option_map-same : (f : Owner → Owner) (found : Option Owner) → ((o : Owner) → f o ≡ o) → option_map f found ≡ found
option_map-same f None same = refl
option_map-same f (Some o) same = ap Some (same o)

-- the group at a place, where the member's get this owner, if there is one
abbrev given_at : MemberId → List Owner → ℕ → Option Owner → Option Owner
given_at m gs g new = option_map (λ o. if is_members m o then unwrap_or new o else o) (slice_get gs g)

pub gives_lowest : (m : MemberId) (new gs : List Owner) (g : ℕ) →
    slice_get (given m new gs) g ≡ option_map (λ o. if is_members m o then unwrap_or (slice_get new (member_count m (take g gs))) o else o) (slice_get gs g)
gives_lowest m [] gs g =
    rw (given-none m gs) (sym (option_map-same (λ o. if is_members m o then o else o) (slice_get gs g)
    (λ o. test_cases (is_members m o) ((if is_members m o then o else o) ≡ o) (λ e. rw e refl) (λ e. rw e refl))))
gives_lowest m (x ∷ new) [] g = refl
gives_lowest m (x ∷ new) (o ∷ gs) zero =
    test_cases (is_members m o) (slice_get (given m (x ∷ new) (o ∷ gs)) 0 ≡ given_at m (o ∷ gs) 0 (Some x)) (λ e. rw e refl) (λ e. rw e refl)
gives_lowest m (x ∷ new) (o ∷ gs) (suc g) =
    test_cases (is_members m o) (slice_get (given m (x ∷ new) (o ∷ gs)) (suc g) ≡ given_at m gs g (slice_get (x ∷ new) (member_count m (o ∷ take g gs))))
    (λ mine. let more : member_count m (o ∷ take g gs) ≡ suc (member_count m (take g gs)) = omega (arith, count_by-cons_yes (is_members m) o (take g gs) mine) in
    let same : slice_get new (member_count m (take g gs)) ≡ slice_get (x ∷ new) (member_count m (o ∷ take g gs)) = rw more refl in
    rw mine (gives_lowest m new gs g ∙ ap (given_at m gs g) same))
    (λ other. let same : slice_get (x ∷ new) (member_count m (take g gs)) ≡ slice_get (x ∷ new) (member_count m (o ∷ take g gs)) = rw (count_by-cons_no (is_members m) o (take g gs) other) refl in
    rw other (gives_lowest m (x ∷ new) gs g ∙ ap (given_at m gs g) same))

pub places-no_members : (m : MemberId) (t : Thing) (place count : ℕ) → AreNoMembers m (places (owner_at t) place count)
places-no_members m t place zero = All-nil (λ o. is_members m o ≡ false)
places-no_members m t place (suc count) =
    All-cons (λ o. is_members m o ≡ false) (owner_at t place) (places (owner_at t) (place + 1) count) (owner_at-no_members m t place) (places-no_members m t (place + 1) count)

pub gives_in_turn : (m : MemberId) (first more gs : List Owner) → AreNoMembers m first → given m more (given m first gs) ≡ given m (first ++ more) gs
gives_in_turn m [] more gs none = rw (given-none m gs) refl
gives_in_turn m (x ∷ first) [] [] none = refl
gives_in_turn m (x ∷ first) (y ∷ more) [] none = refl
gives_in_turn m (x ∷ first) more (g ∷ gs) none =
    let P = λ (o : Owner). is_members m o ≡ false in
    test_cases (is_members m g) (given m more (given m (x ∷ first) (g ∷ gs)) ≡ given m (x ∷ first ++ more) (g ∷ gs))
    (λ mine. rw (mine, given-other m more x (given m first gs) (All-head P x first none)) (ap (λ os. x ∷ os) (gives_in_turn m first more gs (All-tail P x first none))))
    (λ other. rw (other, given-other m more g (given m (x ∷ first) gs) other) (ap (λ os. g ∷ os) (gives_in_turn m (x ∷ first) more gs none)))

pub hands_out : (m : MemberId) (new gs : List Owner) → AreNoMembers m new → freed (is_members m) (given m new gs) ≡ handed_out m new gs
hands_out m [] [] none = refl
hands_out m (x ∷ new) [] none = refl
hands_out m [] (g ∷ gs) none =
    let rest = rw (given-none m gs) at (hands_out m [] gs none) in
    test_cases (is_members m g) (freed (is_members m) (given m [] (g ∷ gs)) ≡ handed_out m [] (g ∷ gs))
    (λ mine. rw mine (ap (λ os. owner.Free ∷ os) rest)) (λ other. rw other (ap (λ os. g ∷ os) rest))
hands_out m (x ∷ new) (g ∷ gs) none =
    let P = λ (o : Owner). is_members m o ≡ false in
    test_cases (is_members m g) (freed (is_members m) (given m (x ∷ new) (g ∷ gs)) ≡ handed_out m (x ∷ new) (g ∷ gs))
    (λ mine. rw (mine, All-head P x new none) (ap (λ os. x ∷ os) (hands_out m new gs (All-tail P x new none))))
    (λ other. rw (other, other) (ap (λ os. g ∷ os) (hands_out m (x ∷ new) gs none)))
