-- Lists changed at a place, and members.
use Rattle.std.proofs.Common.{◌≡◌, ℕ, zero, suc, ◌<◌, ◌⊎◌, inl, inr, Bool, true, false, ◌&&◌, ◌||◌, ◌==◌, nat_lt, List, [], ◌∷◌, ◌++◌, length, map, refl, ap, sym, subst, arith, length-append}
pub use Rattle.std.proofs.lemmas.Bool.{and_from as and_both, not-true as not_true, or_left, or_parts as neither, or_right}
use Rattle.std.specs.List.{AllByRecursion}
use Rattle.std.proofs.lemmas.Bool.Decides.{nat_tests}
use Rattle.mas_types.specs.declared.ids.MemberId.{MemberId}
use Rattle.mas_types.specs.Ids.{same_member, is_somebody}
use Rattle.member_core.specs.declared.worlds.At.{At}
use Rattle.member_core.specs.declared.worlds.At.TheVariants as at
use Rattle.member_core.specs.declared.worlds.MemberAt.{MemberAt}
use Rattle.mas_types.specs.Lists.{change_at}
use Rattle.member_core.specs.Worlds.{at_or, is_nil, is_away, is_locked, is_read1, is_read2, is_ready, is_logged1, is_logged2, is_opened1, absent, member_in, on_member, acts_in}

-- TESTS

pub test_cases : (b : Bool) (P : Type 0) → (b ≡ true → P) → (b ≡ false → P) → P
test_cases true P at_true at_false = at_true refl
test_cases false P at_true at_false = at_false refl

pub and_left : (p q : Bool) → (p && q) ≡ true → p ≡ true
and_left true q h = refl
and_left false q h = absurd (cc)

pub and_right : (p q : Bool) → (p && q) ≡ true → q ≡ true
and_right true q h = h
and_right false q h = absurd (cc)

pub or_cases : (p q : Bool) → (p || q) ≡ true → (p ≡ true) ⊎ (q ≡ true)
or_cases true q h = inl refl
or_cases false q h = inr h

pub both_ways : (p : Bool) {P : Type 0} → p ≡ true → p ≡ false → P
both_ways true h k = absurd (cc)
both_ways false h k = absurd (cc)

-- STAGES

pub away_is : (s : At) → is_away s ≡ true → s ≡ at.Away
away_is at.Away h = refl
away_is at.Locked h = absurd (cc)
away_is at.Read1 h = absurd (cc)
away_is at.Read2 h = absurd (cc)
away_is at.Ready h = absurd (cc)
away_is at.Logged1 h = absurd (cc)
away_is at.Logged2 h = absurd (cc)
away_is at.Opened1 h = absurd (cc)

pub locked_is : (s : At) → is_locked s ≡ true → s ≡ at.Locked
locked_is at.Away h = absurd (cc)
locked_is at.Locked h = refl
locked_is at.Read1 h = absurd (cc)
locked_is at.Read2 h = absurd (cc)
locked_is at.Ready h = absurd (cc)
locked_is at.Logged1 h = absurd (cc)
locked_is at.Logged2 h = absurd (cc)
locked_is at.Opened1 h = absurd (cc)

pub read1_is : (s : At) → is_read1 s ≡ true → s ≡ at.Read1
read1_is at.Away h = absurd (cc)
read1_is at.Locked h = absurd (cc)
read1_is at.Read1 h = refl
read1_is at.Read2 h = absurd (cc)
read1_is at.Ready h = absurd (cc)
read1_is at.Logged1 h = absurd (cc)
read1_is at.Logged2 h = absurd (cc)
read1_is at.Opened1 h = absurd (cc)

pub read2_is : (s : At) → is_read2 s ≡ true → s ≡ at.Read2
read2_is at.Away h = absurd (cc)
read2_is at.Locked h = absurd (cc)
read2_is at.Read1 h = absurd (cc)
read2_is at.Read2 h = refl
read2_is at.Ready h = absurd (cc)
read2_is at.Logged1 h = absurd (cc)
read2_is at.Logged2 h = absurd (cc)
read2_is at.Opened1 h = absurd (cc)

pub ready_is : (s : At) → is_ready s ≡ true → s ≡ at.Ready
ready_is at.Away h = absurd (cc)
ready_is at.Locked h = absurd (cc)
ready_is at.Read1 h = absurd (cc)
ready_is at.Read2 h = absurd (cc)
ready_is at.Ready h = refl
ready_is at.Logged1 h = absurd (cc)
ready_is at.Logged2 h = absurd (cc)
ready_is at.Opened1 h = absurd (cc)

pub logged1_is : (s : At) → is_logged1 s ≡ true → s ≡ at.Logged1
logged1_is at.Away h = absurd (cc)
logged1_is at.Locked h = absurd (cc)
logged1_is at.Read1 h = absurd (cc)
logged1_is at.Read2 h = absurd (cc)
logged1_is at.Ready h = absurd (cc)
logged1_is at.Logged1 h = refl
logged1_is at.Logged2 h = absurd (cc)
logged1_is at.Opened1 h = absurd (cc)

pub logged2_is : (s : At) → is_logged2 s ≡ true → s ≡ at.Logged2
logged2_is at.Away h = absurd (cc)
logged2_is at.Locked h = absurd (cc)
logged2_is at.Read1 h = absurd (cc)
logged2_is at.Read2 h = absurd (cc)
logged2_is at.Ready h = absurd (cc)
logged2_is at.Logged1 h = absurd (cc)
logged2_is at.Logged2 h = refl
logged2_is at.Opened1 h = absurd (cc)

pub opened1_is : (s : At) → is_opened1 s ≡ true → s ≡ at.Opened1
opened1_is at.Away h = absurd (cc)
opened1_is at.Locked h = absurd (cc)
opened1_is at.Read1 h = absurd (cc)
opened1_is at.Read2 h = absurd (cc)
opened1_is at.Ready h = absurd (cc)
opened1_is at.Logged1 h = absurd (cc)
opened1_is at.Logged2 h = absurd (cc)
opened1_is at.Opened1 h = refl

-- LISTS

module _ {A : Type 0} where
  pub nil_is : (xs : List A) → is_nil xs ≡ true → xs ≡ []
  nil_is [] h = refl
  nil_is (x ∷ xs) h = absurd (cc)

  -- a list with something after it is no longer itself
  pub not_same : (xs ys : List A) → is_nil ys ≡ false → xs ≡ xs ++ ys → ⊥
  not_same [] [] some same = absurd (cc)
  not_same [] (y ∷ ys) some same = absurd (cc)
  not_same (x ∷ xs) ys some same = not_same xs ys some (cc)

  pub longer_with : (xs ys : List A) → is_nil ys ≡ false → nat_lt (length xs) (length (xs ++ ys)) ≡ true
  longer_with xs [] some = absurd (cc)
  longer_with xs (y ∷ ys) some = rw length-append (grind (arith, nat_tests))

  pub not_longer : (xs : List A) → nat_lt (length xs) (length xs) ≡ false
  not_longer xs = grind (arith, nat_tests)

  pub all_weaker : (P Q : A → Type 0) → ((x : A) → P x → Q x) → (xs : List A) → AllByRecursion P xs → AllByRecursion Q xs
  all_weaker P Q f [] h = tt
  all_weaker P Q f (x ∷ xs) h = (f x h.0, all_weaker P Q f xs h.1)

  pub all_append : (P : A → Type 0) (xs ys : List A) → AllByRecursion P xs → AllByRecursion P ys → AllByRecursion P (xs ++ ys)
  all_append P [] ys h k = k
  all_append P (x ∷ xs) ys h k = (h.0, all_append P xs ys h.1 k)

  module _ (d : A) where
    -- what relates each item to itself and to its change relates the items at a place
    pub change_rel : (R : A → A → Type 0) (f : A → A) → ((x : A) → R x x) → ((x : A) → R x (f x)) → (i j : ℕ) (xs : List A) → R (at_or d j xs) (at_or d j (change_at i f xs))
    change_rel R f same moved i j [] = same d
    change_rel R f same moved zero zero (x ∷ xs) = moved x
    change_rel R f same moved zero (suc j) (x ∷ xs) = same (at_or d j xs)
    change_rel R f same moved (suc i) zero (x ∷ xs) = same x
    change_rel R f same moved (suc i) (suc j) (x ∷ xs) = change_rel R f same moved i j xs

    pub map_rel : (R : A → A → Type 0) (f : A → A) → R d d → ((x : A) → R x (f x)) → (j : ℕ) (xs : List A) → R (at_or d j xs) (at_or d j (map f xs))
    map_rel R f same moved j [] = same
    map_rel R f same moved zero (x ∷ xs) = moved x
    map_rel R f same moved (suc j) (x ∷ xs) = map_rel R f same moved j xs

    pub change_same : (f : A → A) (i : ℕ) (xs : List A) → i < length xs → at_or d i (change_at i f xs) ≡ f (at_or d i xs)
    change_same f i [] h = let no : ⊥ = omega arith in absurd no
    change_same f zero (x ∷ xs) h = refl
    change_same f (suc i) (x ∷ xs) h = let inside : i < length xs = omega arith in change_same f i xs inside

    pub change_other : (f : A → A) (i j : ℕ) (xs : List A) → (j == i) ≡ false → at_or d j (change_at i f xs) ≡ at_or d j xs
    change_other f i j [] h = refl
    change_other f zero zero (x ∷ xs) h = absurd (cc)
    change_other f zero (suc j) (x ∷ xs) h = refl
    change_other f (suc i) zero (x ∷ xs) h = refl
    change_other f (suc i) (suc j) (x ∷ xs) h = let apart : (j == i) ≡ false = grind (arith, nat_tests) in change_other f i j xs apart

    pub within : (test : A → Bool) → test d ≡ false → (i : ℕ) (xs : List A) → test (at_or d i xs) ≡ true → i < length xs
    within test none i [] h = both_ways (test d) h none
    within test none zero (x ∷ xs) h = omega arith
    within test none (suc i) (x ∷ xs) h = let inside : i < length xs = within test none i xs h in omega arith

  pub change_length : (f : A → A) (i : ℕ) (xs : List A) → length (change_at i f xs) ≡ length xs
  change_length f i [] = refl
  change_length f zero (x ∷ xs) = refl
  change_length f (suc i) (x ∷ xs) = ap suc (change_length f i xs)

-- MEMBERS

abbrev member_of : ℕ → MemberId
member_of n = record { 0 = n }

pub same_member_is : (k m : MemberId) → same_member k m ≡ true → k ≡ m
same_member_is k m h = let same : k.0 ≡ m.0 = grind (arith, nat_tests) in ap member_of same

pub each_member : (P : MemberId → MemberAt → Type 0) (m : MemberId) (f : MemberAt → MemberAt) (members : List MemberAt) → m.0 < length members
    → P m (f (member_in members m)) → ((j : MemberId) → same_member j m ≡ false → P j (member_in members j)) → (j : MemberId) → P j (member_in (on_member m f members) j)
each_member P m f members inside new old j =
    test_cases (same_member j m) (P j (member_in (on_member m f members) j))
    (λ e. subst (λ (k : MemberId). P k (member_in (on_member m f members) k)) (sym (same_member_is j m e))
    (subst (λ (x : MemberAt). P m x) (sym (change_same absent f m.0 members inside)) new))
    (λ e. subst (λ (x : MemberAt). P j x) (sym (change_other absent f m.0 j.0 members e)) (old j e))

pub acting_inside : (members : List MemberAt) (m : MemberId) (n : ℕ) → length members ≡ suc n → acts_in members m ≡ true → m.0 < length members
acting_inside members m n fit act =
    test_cases (is_somebody m) (m.0 < length members)
    (λ e. within absent (λ x. x.up) refl m.0 members (let w = rw e at act in w))
    (λ e. let zero : m.0 ≡ 0 = grind (arith, nat_tests) in omega arith)
