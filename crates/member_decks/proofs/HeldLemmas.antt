-- The lowest groups of a member: they rise, they are the member's, and there are as many as are wanted.
use Rattle.member_decks.proofs.Names.{◌≡◌, ℕ, zero, suc, ◌+◌, ◌*◌, ◌≤◌, ◌<◌, Bool, true, cond, List, [], ◌∷◌, length, take, All, Some, slice_get, refl, ◌∙◌, ap, subst, arith, count_by, sum_by-cons, nat_tests, length-take-le, get_or_from_slice_get, slice_get_within, All-cons, All-nil, All-take, All-weaker, MemberId, GroupNo, Config, Owner, Queue, is_members, member_count, test_cases, IsGroupOf, IsHeldBy, Rise}
use Rattle.std.specs.List.{AllPairs}
use Rattle.std.proofs.lemmas.List.Kept.{AllPairs-cons}
use Rattle.mas_types.specs.declared.queues.Owner.TheVariants as owner
use Rattle.track_groups.specs.Groups.{groups_where, held_by}

module _ (test : Owner → Bool) where
  -- the number is that of a group that the test picks, the first of the groups having the number at
  pub record Picked (at : ℕ) (gs : List Owner) (g : GroupNo) : Type 0 where
    pub place : ℕ
    pub owner_there : Owner
    pub number : g.0 ≡ at + place
    pub there : slice_get gs place ≡ Some owner_there
    pub picks : test owner_there ≡ true

  picked_later : (at : ℕ) (o : Owner) (gs : List Owner) (g : GroupNo) → Picked (at + 1) gs g → Picked at (o ∷ gs) g
  picked_later at o gs g found = record { place = suc found.place; owner_there = found.owner_there; number = omega (arith, found.number); there = found.there; picks = found.picks }

  -- the test picks these groups, by rising numbers, and no others
  abbrev Lists : ℕ → List Owner → List GroupNo → Type 0
  Lists at gs its = All (Picked at gs) its × AllPairs (λ g h. g.0 < h.0) its × (length its ≡ count_by test gs)

  pub lists : (at : ℕ) (gs : List Owner) → Lists at gs (groups_where test at gs)
  lists at [] = (All-nil (Picked at []), λ i j d lt less. absurd (omega (arith, less)), refl)
  lists at (o ∷ gs) =
      let its : List GroupNo = groups_where test (at + 1) gs in
      let rest = lists (at + 1) gs in
      let later = All-weaker (Picked (at + 1) gs) (Picked at (o ∷ gs)) (picked_later at o gs) its rest.0 in
      let above = All-weaker (Picked (at + 1) gs) (λ h. at < h.0) (λ h found. omega (arith, found.number)) its rest.0 in
      test_cases (test o) (Lists at (o ∷ gs) (groups_where test at (o ∷ gs)))
      (λ e. rw (sum_by-cons (λ y. cond (test y) 1 0) o gs, e) (All-cons (Picked at (o ∷ gs)) (record { 0 = at }) its (record { place = 0; owner_there = o; number = omega arith; there = refl; picks = e }) later, AllPairs-cons (λ g h. g.0 < h.0) (record { 0 = at }) its above rest.1, omega (arith, rest.2)))
      (λ e. rw (sum_by-cons (λ y. cond (test y) 1 0) o gs, e) (later, rest.1, omega (arith, rest.2)))

-- the first ones of a list
pub of_front : {A : Type 0} (n : ℕ) (xs : List A) (k : ℕ) (x : A) → slice_get (take n xs) k ≡ Some x → slice_get xs k ≡ Some x
of_front zero xs k x here = absurd (cc)
of_front (suc n) [] k x here = absurd (cc)
of_front (suc n) (y ∷ xs) zero x here = here
of_front (suc n) (y ∷ xs) (suc k) x here = of_front n xs k x here

pub rise_front : (n : ℕ) (groups : List GroupNo) → Rise groups → Rise (take n groups)
rise_front n groups rise i j g h less at_i at_j = rise i j g h less (of_front n groups i g at_i) (of_front n groups j h at_j)

is_members_is : (m : MemberId) (o : Owner) → is_members m o ≡ true → o ≡ owner.Member m
is_members_is m (owner.Member h) e = let same : h.0 ≡ m.0 = grind (arith, nat_tests) in ap (λ (v : ℕ). owner.Member (record { 0 = v })) same
is_members_is m _ e = absurd (cc)

module _ (m : MemberId) (gs : List Owner) (n : ℕ) where
  abbrev lowest : List GroupNo
  lowest = take n (held_by m gs)

  pub lowest_rise : Rise lowest
  lowest_rise = rise_front n (held_by m gs) (λ i j g h less at_i at_j.
      rw (get_or_from_slice_get (held_by m gs) i g g at_i, get_or_from_slice_get (held_by m gs) j h g at_j) at ((lists (is_members m) 0 gs).1 i j g less (slice_get_within (held_by m gs) j h at_j)))

  held : All (λ g. slice_get gs g.0 ≡ Some (owner.Member m)) lowest
  held = All-take (λ g. slice_get gs g.0 ≡ Some (owner.Member m)) n (held_by m gs) (All-weaker (Picked (is_members m) 0 gs) (λ g. slice_get gs g.0 ≡ Some (owner.Member m))
      (λ g found. let at : found.place ≡ g.0 = omega (arith, found.number) in subst (λ (i : ℕ). slice_get gs i ≡ Some (owner.Member m)) at (found.there ∙ ap Some (is_members_is m found.owner_there found.picks))) (held_by m gs) (lists (is_members m) 0 gs).0)

  pub all_held : (Q : Queue) → Q.owners ≡ gs → All (λ g. IsHeldBy m g Q) lowest
  all_held Q are = rw are held

  pub all_within : (config : Config) → length gs ≡ config.volumes * config.groups → All (IsGroupOf config) lowest
  all_within config each = All-weaker (λ g. slice_get gs g.0 ≡ Some (owner.Member m)) (IsGroupOf config) (λ g is. omega (arith, slice_get_within gs g.0 (owner.Member m) is, each)) lowest held

  pub as_many_held : n ≤ member_count m gs → length lowest ≡ n
  as_many_held enough = length-take-le n (held_by m gs) (omega (arith, enough, (lists (is_members m) 0 gs).2))
