-- Tests, and lists cut in two.
use Rattle.std.proofs.Common.{◌≡◌, ℕ, ◌⊎◌, inl, inr, Bool, true, false, ◌&&◌, ◌==◌, List, [], ◌∷◌, ◌++◌, find, Some, refl, ap}
use Rattle.std.proofs.lemmas.Bool.{eqb-true as numbers}
pub use Rattle.std.proofs.lemmas.Bool.{or_parts as neither}
use Rattle.std.proofs.lemmas.Bool.Decides.{nat_tests}
use Rattle.std.proofs.Common.{arith}
use Rattle.mas_types.specs.declared.ids.MemberId.{MemberId}
use Rattle.mas_types.specs.declared.ids.JobNo.{JobNo}
use Rattle.mas_types.specs.declared.ids.OutNo.{OutNo}
use Rattle.mas_types.specs.declared.jobs.Output.{Output}
use Rattle.mas_types.specs.Ids.{same_member}
use Rattle.mas_types.specs.Queue.{has_key}

pub test_cases : (b : Bool) (P : Type 0) → (b ≡ true → P) → (b ≡ false → P) → P
test_cases true P at_true at_false = at_true refl
test_cases false P at_true at_false = at_false refl

pub both_ways : (p : Bool) {P : Type 0} → p ≡ true → p ≡ false → P
both_ways true h k = absurd (cc)
both_ways false h k = absurd (cc)

abbrev member_of : ℕ → MemberId
member_of n = record { 0 = n }

pub same_member_is : (a b : MemberId) → same_member a b ≡ true → a ≡ b
same_member_is a b h = ap member_of (numbers a.0 b.0 h)

abbrev number_of : ℕ → JobNo
number_of n = record { 0 = n }

abbrev index_of : ℕ → OutNo
index_of n = record { 0 = n }

pub same_key_is : (n n' : JobNo) (i i' : OutNo) (o : Output) → has_key n i o ≡ true → has_key n' i' o ≡ true → (n' ≡ n) × (i' ≡ i)
same_key_is n n' i i' o h k = (ap number_of (numbers o.job.0 n.0 n'.0 o.index.0 i.0 i'.0 h k), ap index_of (indexes o.job.0 n.0 n'.0 o.index.0 i.0 i'.0 h k))
  where
    numbers : (a n n' b i i' : ℕ) → ((a == n) && (b == i)) ≡ true → ((a == n') && (b == i')) ≡ true → n' ≡ n
    numbers a n n' b i i' h k = grind (arith, nat_tests)

    indexes : (a n n' b i i' : ℕ) → ((a == n) && (b == i)) ≡ true → ((a == n') && (b == i')) ≡ true → i' ≡ i
    indexes a n n' b i i' h k = grind (arith, nat_tests)

pub own_key : (o : Output) → has_key o.job o.index o ≡ true
own_key o = itself o.job.0 o.index.0
  where
    itself : (m k : ℕ) → ((m == m) && (k == k)) ≡ true
    itself m k = grind (arith, nat_tests)

pub find_passes : {A : Type 0} (test : A → Bool) (xs : List A) (x : A) → find test xs ≡ Some x → test x ≡ true
find_passes test [] x h = absurd (cc)
find_passes test (y ∷ ys) x h =
    test_cases (test y) (test x ≡ true)
    (λ e. let same : y ≡ x = (let w = rw e at h in cc) in rw (← same) e)
    (λ e. find_passes test ys x (rw e at h))

-- a front of a list with one more is the whole, or a front of the list
pub front_of_more : {A : Type 0} (before after xs : List A) (e : A) → xs ++ e ∷ [] ≡ before ++ after → (before ≡ xs ++ e ∷ []) ⊎ ((rest : List A) × (xs ≡ before ++ rest))
front_of_more [] after xs e h = inr (xs, refl)
front_of_more (b ∷ bs) after [] e h = inl (one b bs after e h)
  where
    one : {A : Type 0} (b : A) (bs after : List A) (e : A) → e ∷ [] ≡ b ∷ (bs ++ after) → b ∷ bs ≡ e ∷ []
    one b [] after e h = cc
    one b (c ∷ cs) after e h = absurd (cc)
front_of_more (b ∷ bs) after (x ∷ xs) e h =
    further (front_of_more bs after xs e (cc))
  where
    same : x ≡ b
    same = cc

    further : (bs ≡ xs ++ e ∷ []) ⊎ ((rest : List _) × (xs ≡ bs ++ rest)) → (b ∷ bs ≡ (x ∷ xs) ++ e ∷ []) ⊎ ((rest : List _) × (x ∷ xs ≡ (b ∷ bs) ++ rest))
    further (inl w) = inl (rw (same, w) refl)
    further (inr w) = inr (w.0, rw (← same) (ap (λ l. x ∷ l) w.1))
