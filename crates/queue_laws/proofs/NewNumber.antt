-- The number of a new job is one that no job has.
use Rattle.std.proofs.Common.{◌≡◌, ℕ, zero, suc, ◌+◌, ◌<◌, ◌≤◌, Bool, true, false, ◌==◌, List, [], ◌∷◌, length, refl, ◌∙◌, inl, inr, ◌⊎◌, lit<, arith}
use Rattle.std.proofs.lemmas.Bool.{or_parts as or_false}
use Rattle.std.specs.List.{list_any, All}
use Rattle.std.proofs.lemmas.Bool.Decides.{leb_tells, nat_tests}
use Rattle.std.proofs.lemmas.List.Elements.{All-cons, All-head, All-tail, All-nil}
use Rattle.mas_types.specs.declared.ids.JobNo.{JobNo}
use Rattle.mas_types.specs.declared.jobs.Job.{Job}
use Rattle.mas_types.specs.Lists.{without_first}
use Rattle.mas_types.specs.Number.{after, is_number_used, free_from, next_number}
use Rattle.mas_types.specs.Fit.{AreDistinct}
use Rattle.queue_laws.proofs.Finds.{test_cases}

-- n and so many numbers after it
abbrev numbers_from : ℕ → ℕ → List ℕ
numbers_from n zero = n ∷ []
numbers_from n (suc more) = n ∷ numbers_from (after n) more

length-numbers_from : (n more : ℕ) → length (numbers_from n more) ≡ more + 1
length-numbers_from n zero = refl
length-numbers_from n (suc more) = omega (arith, length-numbers_from (after n) more)

-- THE NUMBERS THAT ARE TRIED ARE DIFFERENT

after_cases : (n : ℕ) → ((n < 99999) × (after n ≡ n + 1)) ⊎ ((99999 ≤ n) × (after n ≡ 1))
after_cases n = elim (leb_tells (suc n) 99999) [ inl w ↦ inl (w.1, rw w.0 refl) | inr w ↦ inr (omega (arith, w.1), rw w.0 refl) ]

pub after_right : (n : ℕ) → (1 ≤ after n) × (after n ≤ 99999)
after_right n = elim (after_cases n) [ inl w ↦ (omega (arith, w.0, w.1), omega (arith, w.0, w.1)) | inr w ↦ (omega (arith, w.1), omega (arith, w.1)) ]

-- n comes so many numbers after a
abbrev Distance : ℕ → ℕ → ℕ → Type 0
Distance a n d = (a + d ≡ n) ⊎ (a + d ≡ n + 99999)

next_distance : (a n d : ℕ) → 1 ≤ a → a ≤ 99999 → 1 ≤ n → n ≤ 99999 → Distance a n (suc d) → Distance (after a) n d
next_distance a n d low high low' high' far =
    elim (after_cases a) [
      | inl w ↦ elim far [ inl e ↦ inl (omega (arith, w.1, e)) | inr e ↦ inr (omega (arith, w.1, e)) ]
      | inr w ↦ elim far [ inl e ↦ absurd (omega (arith, w.0, e)) | inr e ↦ inl (omega (arith, w.0, w.1, e, high)) ]
    ]

not_same : (n a : ℕ) → (n ≡ a → ⊥) → (n == a) ≡ false
not_same n a apart = grind (arith, nat_tests)

-- a number that comes later than that isn't among them
not_among : (more a n d : ℕ) → 1 ≤ a → a ≤ 99999 → 1 ≤ n → n ≤ 99999 → Distance a n d → more < d → d < 99999 → list_any (λ c. n == c) (numbers_from a more) ≡ false
not_among zero a n d la ha ln hn far less small =
    let apart : (n == a) ≡ false = elim far [ inl e ↦ not_same n a (omega (arith, e, less)) | inr e ↦ not_same n a (omega (arith, e, small)) ] in
    rw apart refl
not_among (suc more) a n zero la ha ln hn far less small = absurd (omega arith)
not_among (suc more) a n (suc d) la ha ln hn far less small =
    let apart : (n == a) ≡ false = elim far [ inl e ↦ not_same n a (omega (arith, e)) | inr e ↦ not_same n a (omega (arith, e, small)) ] in
    rw apart (not_among more (after a) n d (after_right a).0 (after_right a).1 ln hn (next_distance a n d la ha ln hn far) (omega arith) (omega arith))

distance_back : (n : ℕ) → 1 ≤ n → n ≤ 99999 → Distance (after n) n 99998
distance_back n low high =
    elim (after_cases n) [ inl w ↦ inr (omega (arith, w.1)) | inr w ↦ inl (omega (arith, w.0, w.1)) ]

all_different : (more n : ℕ) → 1 ≤ n → n ≤ 99999 → more < 99999 → AreDistinct (λ a b. a == b) (numbers_from n more)
all_different zero n low high small = (refl, tt)
all_different (suc more) n low high small = (
  not_among more (after n) n 99998 (after_right n).0 (after_right n).1 low high (distance_back n low high) (omega arith) (lit< tt),
  all_different more (after n) (after_right n).0 (after_right n).1 (omega arith),
)

-- NOT ALL NUMBERS THAT ARE TRIED ARE TAKEN

-- a job goes: the numbers of others are taken still
any-without_first : (p q : Job → Bool) (js : List Job) → ((j : Job) → q j ≡ true → p j ≡ false) → list_any q (without_first p js) ≡ list_any q js
any-without_first p q [] apart = refl
any-without_first p q (j ∷ js) apart =
    test_cases (q j) (list_any q (without_first p (j ∷ js)) ≡ list_any q (j ∷ js))
    (λ e. rw (apart j e, e) refl)
    (λ e. test_cases (p j) (list_any q (without_first p (j ∷ js)) ≡ list_any q (j ∷ js))
    (λ d. rw (d, e) refl)
    (λ d. rw (d, e) (any-without_first p q js apart)))

length-without_first : (p : Job → Bool) (js : List Job) → list_any p js ≡ true → length (without_first p js) + 1 ≡ length js
length-without_first p [] h = absurd (cc)
length-without_first p (j ∷ js) h =
    test_cases (p j) (length (without_first p (j ∷ js)) + 1 ≡ length (j ∷ js))
    (λ e. rw e (omega arith))
    (λ e. rw e (omega (arith, length-without_first p js (rw e at h))))

taken_apart : (c d : ℕ) → (c == d) ≡ false → (j : Job) → (j.number.0 == d) ≡ true → (j.number.0 == c) ≡ false
taken_apart c d apart j h = grind (arith, nat_tests)

rest_taken : (c : ℕ) (cs : List ℕ) (js : List Job) → list_any (λ d. c == d) cs ≡ false → All (λ d. is_number_used js d ≡ true) cs → All (λ d. is_number_used (without_first (λ j. j.number.0 == c) js) d ≡ true) cs
rest_taken c [] js apart all = All-nil (λ d. is_number_used (without_first (λ j. j.number.0 == c) js) d ≡ true)
rest_taken c (d ∷ ds) js apart all =
    let parts = or_false (c == d) (list_any (λ d. c == d) ds) apart in
    All-cons (λ d. is_number_used (without_first (λ j. j.number.0 == c) js) d ≡ true) d ds
    (any-without_first (λ j. j.number.0 == c) (λ j. j.number.0 == d) js (taken_apart c d parts.0) ∙ All-head (λ d. is_number_used js d ≡ true) d ds all)
    (rest_taken c ds js parts.1 (All-tail (λ d. is_number_used js d ≡ true) d ds all))

-- different numbers that are all taken are no more than the jobs
few_taken : (cs : List ℕ) (js : List Job) → AreDistinct (λ a b. a == b) cs → All (λ d. is_number_used js d ≡ true) cs → length cs ≤ length js
few_taken [] js distinct all = omega arith
few_taken (c ∷ cs) js distinct all =
    omega (
      arith,
      few_taken cs (without_first (λ j. j.number.0 == c) js) distinct.1 (rest_taken c cs js distinct.0 (All-tail (λ d. is_number_used js d ≡ true) c cs all)),
      length-without_first (λ j. j.number.0 == c) js (All-head (λ d. is_number_used js d ≡ true) c cs all),
    )

-- where the number that is found is taken, all numbers that were tried are
all_taken : (js : List Job) (n more : ℕ) → is_number_used js (free_from js n more) ≡ true → All (λ d. is_number_used js d ≡ true) (numbers_from n more)
all_taken js n zero taken = All-cons (λ d. is_number_used js d ≡ true) n [] taken (All-nil (λ d. is_number_used js d ≡ true))
all_taken js n (suc more) taken =
    test_cases (is_number_used js n) (All (λ d. is_number_used js d ≡ true) (numbers_from n (suc more)))
    (λ e. All-cons (λ d. is_number_used js d ≡ true) n (numbers_from (after n) more) e (all_taken js (after n) more (rw e at taken)))
    (λ e. absurd (let w = rw (e, e) at taken in cc))

pub free_from_right : (js : List Job) (n more : ℕ) → 1 ≤ n → n ≤ 99999 → (1 ≤ free_from js n more) × (free_from js n more ≤ 99999)
free_from_right js n zero low high = (low, high)
free_from_right js n (suc more) low high =
    test_cases (is_number_used js n) ((1 ≤ free_from js n (suc more)) × (free_from js n (suc more) ≤ 99999))
    (λ e. rw e (free_from_right js (after n) more (after_right n).0 (after_right n).1))
    (λ e. rw e (low, high))

-- the number of a new job is no job's
pub next_number_free : (js : List Job) (last : JobNo) → length js < 99999 → is_number_used js (next_number js last).0 ≡ false
next_number_free js last few =
    let first = after_right last.0 in
    test_cases (is_number_used js (next_number js last).0) (is_number_used js (next_number js last).0 ≡ false)
    (λ e. absurd (omega (arith, few_taken (numbers_from (after last.0) (length js)) js (all_different (length js) (after last.0) first.0 first.1 few) (all_taken js (after last.0) (length js) e), length-numbers_from (after last.0) (length js))))
    (λ e. e)
