-- What goes leaves the sound parts: a job, an output, all outputs of a job.
use Rattle.std.proofs.Common.{◌≡◌, ℕ, zero, suc, ◌≤◌, Bool, true, false, not, ◌&&◌, nat_eq, ◌==◌, List, [], ◌∷◌, length, refl, ◌∙◌, subst, arith}
use Rattle.std.proofs.lemmas.Bool.{or_parts as or_false}
use Rattle.std.specs.Prelude.{is_some}
use Rattle.std.specs.Option.{option_map_or}
use Rattle.std.specs.List.{find, filter, list_any, All}
use Rattle.std.proofs.lemmas.Bool.Decides.{nat_tests}
use Rattle.std.proofs.lemmas.List.Elements.{All-cons, All-head, All-tail, All-nil, All-weaker, All-filter, filter_passes}
use Rattle.std.proofs.lemmas.List.{length-map}
use Rattle.mas_types.specs.declared.ids.MemberId.{MemberId}
use Rattle.mas_types.specs.declared.ids.JobNo.{JobNo}
use Rattle.mas_types.specs.declared.ids.OutNo.{OutNo}
use Rattle.mas_types.specs.declared.jobs.Job.{Job}
use Rattle.mas_types.specs.declared.jobs.Output.{Output}
use Rattle.mas_types.specs.declared.queues.Owner.{Owner}
use Rattle.mas_types.specs.declared.queues.Owner.TheVariants as owner
use Rattle.mas_types.specs.declared.queues.Queue.{Queue}
use Rattle.mas_types.specs.Lists.{without_first, without}
use Rattle.mas_types.specs.Ids.{same_number, same_index}
use Rattle.mas_types.specs.Queue.{in_input, has_number, has_key, is_of, remove_job}
use Rattle.mas_types.specs.Owners.{freed, is_deck_of, is_output_of, is_members}
use Rattle.mas_types.specs.Fit.{AreDistinct}
use Rattle.mas_types.specs.Commands.Printing.{output_removed}
use Rattle.mas_types.specs.Commands.Operator.{without_outputs_of}
use Rattle.mas_types.specs.Sound.{IsSound, IsSoundJob, IsSoundOutput, HasDeckGroup, HasOutputGroup, is_there, is_owner_there, may_have_outputs, same_place, same_key, same_printer, is_place_before_there}
use Rattle.queue_laws.proofs.Finds.{test_cases, find-without_first, find-without}
use Rattle.queue_laws.proofs.Kept.{number_apart}
use Rattle.queue_laws.proofs.Others.{All-both}
use Rattle.queue_laws.proofs.Owned.{is_any_output_of, freed-of_any}
use Rattle.queue_laws.proofs.Freed.{any-freed, All-freed, places-freed}

-- TESTS

pub number_other : (n : JobNo) (y z : Job) → has_number n y ≡ true → same_number y.number z.number ≡ false → has_number n z ≡ false
number_other n y z h apart = grind (arith, nat_tests)

key_other : (n : JobNo) (i : OutNo) (y z : Output) → has_key n i y ≡ true → same_key y z ≡ false → has_key n i z ≡ false
key_other n i y z h apart = grind (arith, nat_tests)

pub not_number : (n : JobNo) (j : Job) → has_number n j ≡ false → j.number.0 ≡ n.0 → ⊥
not_number n j h same = absurd (grind (arith, nat_tests))

pub not_same : (k n : JobNo) → same_number k n ≡ false → k.0 ≡ n.0 → ⊥
not_same k n h same = absurd (grind (arith, nat_tests))

deck_other : (k n l : JobNo) (p q : ℕ) → same_number k n ≡ false → same_number l n ≡ true → (same_number k l && (p == q)) ≡ false
deck_other k n l p q kept h = grind (arith, nat_tests)

output_other : (k n k' : JobNo) (l i l' : OutNo) (p q : ℕ) → (same_number k n && same_index l i) ≡ false → (same_number k' n && same_index l' i) ≡ true → (same_number k k' && same_index l l' && (p == q)) ≡ false
output_other k n k' l i l' p q kept h = grind (arith, nat_tests)

any_output_other : (k n k' : JobNo) (l l' : OutNo) (p q : ℕ) → same_number k n ≡ false → same_number k' n ≡ true → (same_number k k' && same_index l l' && (p == q)) ≡ false
any_output_other k n k' l l' p q kept h = grind (arith, nat_tests)

key_not : (n k : JobNo) (i l : OutNo) (o : Output) → (same_number k n && same_index l i) ≡ false → has_key k l o ≡ true → has_key n i o ≡ false
key_not n k i l o apart h = grind (arith, nat_tests)

job_not : (n k : JobNo) (l : OutNo) (o : Output) → same_number k n ≡ false → has_key k l o ≡ true → is_of n o ≡ false
job_not n k l o apart h = grind (arith, nat_tests)

output_no_deck : (n : JobNo) (i : OutNo) (k : JobNo) (g : Owner) → is_output_of n i g ≡ true → is_deck_of k g ≡ false
output_no_deck n i k owner.Free h = refl
output_no_deck n i k (owner.Member m) h = refl
output_no_deck n i k (owner.Deck l q) h = absurd (cc)
output_no_deck n i k (owner.Output l j q) h = refl

output_apart : (n k : JobNo) (i l : OutNo) (o : Output) → has_key n i o ≡ false → (same_number k n && same_index l i) ≡ true → (same_number k o.job && same_index l o.index) ≡ false
output_apart n k i l o other h = grind (arith, nat_tests)

output_no_other : (n : JobNo) (i : OutNo) (o : Output) → has_key n i o ≡ false → (g : Owner) → is_output_of n i g ≡ true → is_output_of o.job o.index g ≡ false
output_no_other n i o other owner.Free h = refl
output_no_other n i o other (owner.Member m) h = refl
output_no_other n i o other (owner.Deck l q) h = refl
output_no_other n i o other (owner.Output k l q) h = output_apart n k i l o other h

any_output_no_deck : (n k : JobNo) (g : Owner) → is_any_output_of n g ≡ true → is_deck_of k g ≡ false
any_output_no_deck n k owner.Free h = refl
any_output_no_deck n k (owner.Member m) h = refl
any_output_no_deck n k (owner.Deck l q) h = absurd (cc)
any_output_no_deck n k (owner.Output l j q) h = refl

any_output_apart : (n k : JobNo) (l : OutNo) (o : Output) → not (is_of n o) ≡ true → same_number k n ≡ true → (same_number k o.job && same_index l o.index) ≡ false
any_output_apart n k l o other h = grind (arith, nat_tests)

any_output_no_other : (n : JobNo) (o : Output) → not (is_of n o) ≡ true → (g : Owner) → is_any_output_of n g ≡ true → is_output_of o.job o.index g ≡ false
any_output_no_other n o other owner.Free h = refl
any_output_no_other n o other (owner.Member m) h = refl
any_output_no_other n o other (owner.Deck l q) h = refl
any_output_no_other n o other (owner.Output k l q) h = any_output_apart n k l o other h

-- LISTS WITHOUT AN ITEM

module _ {A : Type 0} (p : A → Bool) where
  pub All-without_first : (P : A → Type 0) (xs : List A) → All P xs → All P (without_first p xs)
  All-without_first P [] all = All-nil P
  All-without_first P (y ∷ ys) all =
      test_cases (p y) (All P (without_first p (y ∷ ys)))
      (λ e. rw e (All-tail P y ys all))
      (λ e. rw e (All-cons P y (without_first p ys) (All-head P y ys all) (All-without_first P ys (All-tail P y ys all))))

  pub length-without_first_le : (xs : List A) → length (without_first p xs) ≤ length xs
  length-without_first_le [] = omega arith
  length-without_first_le (y ∷ ys) =
      test_cases (p y) (length (without_first p (y ∷ ys)) ≤ length (y ∷ ys))
      (λ e. rw e (omega arith))
      (λ e. rw e (omega (arith, length-without_first_le ys)))

  any-none_without_first : (t : A → Bool) (xs : List A) → list_any t xs ≡ false → list_any t (without_first p xs) ≡ false
  any-none_without_first t [] h = refl
  any-none_without_first t (y ∷ ys) h =
      let parts = or_false (t y) (list_any t ys) h in
      test_cases (p y) (list_any t (without_first p (y ∷ ys)) ≡ false)
      (λ e. rw e parts.1)
      (λ e. rw (e, parts.0) (any-none_without_first t ys parts.1))

  pub AreDistinct-without_first : (same : A → A → Bool) (xs : List A) → AreDistinct same xs → AreDistinct same (without_first p xs)
  AreDistinct-without_first same [] d = d
  AreDistinct-without_first same (y ∷ ys) d =
      test_cases (p y) (AreDistinct same (without_first p (y ∷ ys)))
      (λ e. rw e d.1)
      (λ e. rw e (any-none_without_first (same y) ys d.0, AreDistinct-without_first same ys d.1))

  pub length-filter_le : (xs : List A) → length (filter p xs) ≤ length xs
  length-filter_le [] = omega arith
  length-filter_le (y ∷ ys) =
      test_cases (p y) (length (filter p (y ∷ ys)) ≤ length (y ∷ ys))
      (λ e. rw e (omega (arith, length-filter_le ys)))
      (λ e. rw e (omega (arith, length-filter_le ys)))

  any-none_filter : (t : A → Bool) (xs : List A) → list_any t xs ≡ false → list_any t (filter p xs) ≡ false
  any-none_filter t [] h = refl
  any-none_filter t (y ∷ ys) h =
      let parts = or_false (t y) (list_any t ys) h in
      test_cases (p y) (list_any t (filter p (y ∷ ys)) ≡ false)
      (λ e. rw (e, parts.0) (any-none_filter t ys parts.1))
      (λ e. rw e (any-none_filter t ys parts.1))

  pub AreDistinct-filter : (same : A → A → Bool) (xs : List A) → AreDistinct same xs → AreDistinct same (filter p xs)
  AreDistinct-filter same [] d = d
  AreDistinct-filter same (y ∷ ys) d =
      test_cases (p y) (AreDistinct same (filter p (y ∷ ys)))
      (λ e. rw e (any-none_filter (same y) ys d.0, AreDistinct-filter same ys d.1))
      (λ e. rw e (AreDistinct-filter same ys d.1))

-- THE REST HAS OTHER NUMBERS

none_again : (n : JobNo) (y : Job) (ys : List Job) → has_number n y ≡ true → list_any (λ b. same_number y.number b.number) ys ≡ false → All (λ j. has_number n j ≡ false) ys
none_again n y [] at_n none = All-nil (λ j. has_number n j ≡ false)
none_again n y (z ∷ zs) at_n none =
    let parts = or_false (same_number y.number z.number) (list_any (λ b. same_number y.number b.number) zs) none in
    All-cons (λ j. has_number n j ≡ false) z zs (number_other n y z at_n parts.0) (none_again n y zs at_n parts.1)

pub others_left : (n : JobNo) (js : List Job) → AreDistinct (λ a b. same_number a.number b.number) js → All (λ j. has_number n j ≡ false) (without_first (has_number n) js)
others_left n [] d = All-nil (λ j. has_number n j ≡ false)
others_left n (y ∷ ys) d =
    test_cases (has_number n y) (All (λ j. has_number n j ≡ false) (without_first (has_number n) (y ∷ ys)))
    (λ e. rw e (none_again n y ys e d.0))
    (λ e. rw e (All-cons (λ j. has_number n j ≡ false) y (without_first (has_number n) ys) e (others_left n ys d.1)))

none_key_again : (n : JobNo) (i : OutNo) (y : Output) (ys : List Output) → has_key n i y ≡ true → list_any (same_key y) ys ≡ false → All (λ o. has_key n i o ≡ false) ys
none_key_again n i y [] at_n none = All-nil (λ o. has_key n i o ≡ false)
none_key_again n i y (z ∷ zs) at_n none =
    let parts = or_false (same_key y z) (list_any (same_key y) zs) none in
    All-cons (λ o. has_key n i o ≡ false) z zs (key_other n i y z at_n parts.0) (none_key_again n i y zs at_n parts.1)

pub other_keys_left : (n : JobNo) (i : OutNo) (os : List Output) → AreDistinct same_key os → All (λ o. has_key n i o ≡ false) (without_first (has_key n i) os)
other_keys_left n i [] d = All-nil (λ o. has_key n i o ≡ false)
other_keys_left n i (y ∷ ys) d =
    test_cases (has_key n i y) (All (λ o. has_key n i o ≡ false) (without_first (has_key n i) (y ∷ ys)))
    (λ e. rw e (none_key_again n i y ys e d.0))
    (λ e. rw e (All-cons (λ o. has_key n i o ≡ false) y (without_first (has_key n i) ys) e (other_keys_left n i ys d.1)))

-- GROUPS OF A THING ARE FREED TOGETHER

-- a test that frees no place before one that it keeps
pub record IsClosed (test : Owner → Bool) : Type 0 where
  pub deck : (n : JobNo) (p : ℕ) → test (owner.Deck n (suc p)) ≡ false → (g : Owner) → test g ≡ true → same_place (owner.Deck n p) g ≡ false
  pub output : (n : JobNo) (i : OutNo) (p : ℕ) → test (owner.Output n i (suc p)) ≡ false → (g : Owner) → test g ≡ true → same_place (owner.Output n i p) g ≡ false

before-freed : (test : Owner → Bool) (gs : List Owner) → IsClosed test → (g : Owner) → test g ≡ false → is_place_before_there gs g ≡ true → is_place_before_there (freed test gs) g ≡ true
before-freed test gs closed owner.Free kept h = refl
before-freed test gs closed (owner.Member k) kept h = refl
before-freed test gs closed (owner.Deck n zero) kept h = refl
before-freed test gs closed (owner.Deck n (suc p)) kept h = any-freed test (same_place (owner.Deck n p)) refl (closed.deck n p kept) gs ∙ h
before-freed test gs closed (owner.Output n i zero) kept h = refl
before-freed test gs closed (owner.Output n i (suc p)) kept h = any-freed test (same_place (owner.Output n i p)) refl (closed.output n i p kept) gs ∙ h

pub gaps-freed : (test : Owner → Bool) (gs : List Owner) → IsClosed test → All (λ g. is_place_before_there gs g ≡ true) gs → All (λ g. is_place_before_there (freed test gs) g ≡ true) (freed test gs)
gaps-freed test gs closed = All-freed test (λ g. is_place_before_there gs g ≡ true) (λ g. is_place_before_there (freed test gs) g ≡ true) refl (before-freed test gs closed) gs

pub closed_members : (m : MemberId) → IsClosed (is_members m)
closed_members m = record { deck = λ n p kept. no_deck n p; output = λ n i p kept. no_output n i p }
  where
    no_deck : (n : JobNo) (p : ℕ) (g : Owner) → is_members m g ≡ true → same_place (owner.Deck n p) g ≡ false
    no_deck n p owner.Free h = refl
    no_deck n p (owner.Member k) h = refl
    no_deck n p (owner.Deck k q) h = absurd (cc)
    no_deck n p (owner.Output k i q) h = refl

    no_output : (n : JobNo) (i : OutNo) (p : ℕ) (g : Owner) → is_members m g ≡ true → same_place (owner.Output n i p) g ≡ false
    no_output n i p owner.Free h = refl
    no_output n i p (owner.Member k) h = refl
    no_output n i p (owner.Deck k q) h = refl
    no_output n i p (owner.Output k l q) h = absurd (cc)

pub closed_deck : (n : JobNo) → IsClosed (is_deck_of n)
closed_deck n = record { deck = no_deck; output = no_output }
  where
    no_deck : (k : JobNo) (p : ℕ) → is_deck_of n (owner.Deck k (suc p)) ≡ false → (g : Owner) → is_deck_of n g ≡ true → same_place (owner.Deck k p) g ≡ false
    no_deck k p kept owner.Free h = refl
    no_deck k p kept (owner.Member m) h = refl
    no_deck k p kept (owner.Deck l q) h = deck_other k n l p q kept h
    no_deck k p kept (owner.Output l i q) h = refl

    no_output : (k : JobNo) (i : OutNo) (p : ℕ) → is_deck_of n (owner.Output k i (suc p)) ≡ false → (g : Owner) → is_deck_of n g ≡ true → same_place (owner.Output k i p) g ≡ false
    no_output k i p kept owner.Free h = refl
    no_output k i p kept (owner.Member m) h = refl
    no_output k i p kept (owner.Deck l q) h = refl
    no_output k i p kept (owner.Output l j q) h = absurd (cc)

pub closed_output : (n : JobNo) (i : OutNo) → IsClosed (is_output_of n i)
closed_output n i = record { deck = no_deck; output = no_output }
  where
    no_deck : (k : JobNo) (p : ℕ) → is_output_of n i (owner.Deck k (suc p)) ≡ false → (g : Owner) → is_output_of n i g ≡ true → same_place (owner.Deck k p) g ≡ false
    no_deck k p kept owner.Free h = refl
    no_deck k p kept (owner.Member m) h = refl
    no_deck k p kept (owner.Deck l q) h = absurd (cc)
    no_deck k p kept (owner.Output l j q) h = refl

    no_output : (k : JobNo) (l : OutNo) (p : ℕ) → is_output_of n i (owner.Output k l (suc p)) ≡ false → (g : Owner) → is_output_of n i g ≡ true → same_place (owner.Output k l p) g ≡ false
    no_output k l p kept owner.Free h = refl
    no_output k l p kept (owner.Member m) h = refl
    no_output k l p kept (owner.Deck k' q) h = refl
    no_output k l p kept (owner.Output k' l' q) h = output_other k n k' l i l' p q kept h

pub closed_any_output : (n : JobNo) → IsClosed (is_any_output_of n)
closed_any_output n = record { deck = no_deck; output = no_output }
  where
    no_deck : (k : JobNo) (p : ℕ) → is_any_output_of n (owner.Deck k (suc p)) ≡ false → (g : Owner) → is_any_output_of n g ≡ true → same_place (owner.Deck k p) g ≡ false
    no_deck k p kept owner.Free h = refl
    no_deck k p kept (owner.Member m) h = refl
    no_deck k p kept (owner.Deck l q) h = absurd (cc)
    no_deck k p kept (owner.Output l j q) h = refl

    no_output : (k : JobNo) (l : OutNo) (p : ℕ) → is_any_output_of n (owner.Output k l (suc p)) ≡ false → (g : Owner) → is_any_output_of n g ≡ true → same_place (owner.Output k l p) g ≡ false
    no_output k l p kept owner.Free h = refl
    no_output k l p kept (owner.Member m) h = refl
    no_output k l p kept (owner.Deck k' q) h = refl
    no_output k l p kept (owner.Output k' l' q) h = any_output_other k n k' l l' p q kept h

-- A JOB GOES

-- what is there of another job is there still
is_there-without : (test : Job → Bool) (js : List Job) (n k : JobNo) → (k.0 ≡ n.0 → ⊥) → is_there test js k ≡ true → is_there test (without_first (has_number n) js) k ≡ true
is_there-without test js n k apart there = rw (find-without_first (has_number k) (has_number n) js (number_apart k n apart)) there

-- what the job that goes and the test of the groups that become Free have to meet
pub record MayGo (Q : Queue) (n : JobNo) (test : Owner → Bool) : Type 0 where
  pub no_outputs : is_there (λ j. may_have_outputs j.phase) Q.jobs n ≡ false
  pub no_deck : All (λ g. test g ≡ false → is_deck_of n g ≡ false) Q.owners
  pub closed : IsClosed test
  pub other_decks : (k : JobNo) → (k.0 ≡ n.0 → ⊥) → (g : Owner) → test g ≡ true → is_deck_of k g ≡ false
  pub outputs : (k : JobNo) (i : OutNo) (g : Owner) → test g ≡ true → is_output_of k i g ≡ false

is_there_alike : (test : Job → Bool) (js : List Job) (k n : JobNo) → k.0 ≡ n.0 → is_there test js k ≡ true → is_there test js n ≡ true
is_there_alike test js k n same there = subst (λ (v : ℕ). option_map_or test (find (λ (x : Job). nat_eq x.number.0 v) js) false ≡ true) same there

pub sound-remove_job : (Q : Queue) (n : JobNo) (test : Owner → Bool) → IsSound Q → MayGo Q n test → IsSound (record (remove_job n Q) { owners = freed test Q.owners })
sound-remove_job Q n test sound may = record {
  config = sound.config;
  few_jobs = omega (arith, length-without_first_le (has_number n) Q.jobs, sound.few_jobs);
  few_outputs = sound.few_outputs;
  each_group = length-map Q.owners _ ∙ sound.each_group;
  each_member = sound.each_member;
  few_routes = sound.few_routes;
  each_line = sound.each_line;
  last = sound.last;
  members = sound.members;
  jobs = All-without_first (has_number n) (IsSoundJob Q.config) Q.jobs sound.jobs;
  decks = All-both (λ j. has_number n j ≡ false) (HasDeckGroup Q.owners) (HasDeckGroup (freed test Q.owners)) (without_first (has_number n) Q.jobs)
      (λ j other deck some. any-freed test (is_deck_of j.number) refl (may.other_decks j.number (not_number n j other)) Q.owners ∙ deck some)
      (others_left n Q.jobs sound.numbers) (All-without_first (has_number n) (HasDeckGroup Q.owners) Q.jobs sound.decks);
  outputs = All-weaker (IsSoundOutput Q.config Q.jobs) (IsSoundOutput Q.config (without_first (has_number n) Q.jobs)) (λ o s. record {
    index = s.index;
    copies = s.copies;
    lines = s.lines;
    job = is_there-without (λ j. may_have_outputs j.phase) Q.jobs n o.job (λ same. let there = is_there_alike (λ j. may_have_outputs j.phase) Q.jobs o.job n same s.job in absurd (cc (there, may.no_outputs))) s.job;
    busy = s.busy;
    text = s.text;
    mark = s.mark;
  }) Q.outputs sound.outputs;
  groups = All-weaker (HasOutputGroup Q.owners) (HasOutputGroup (freed test Q.owners)) (λ o group some. any-freed test (is_output_of o.job o.index) refl (may.outputs o.job o.index) Q.owners ∙ group some) Q.outputs sound.groups;
  owners = All-freed test (λ g. (test g ≡ false → is_deck_of n g ≡ false) × (is_owner_there Q.config Q.jobs Q.outputs g ≡ true)) (λ g. is_owner_there Q.config (without_first (has_number n) Q.jobs) Q.outputs g ≡ true) refl owner_left Q.owners
      (All-both (λ g. test g ≡ false → is_deck_of n g ≡ false) (λ g. is_owner_there Q.config Q.jobs Q.outputs g ≡ true) (λ g. (test g ≡ false → is_deck_of n g ≡ false) × (is_owner_there Q.config Q.jobs Q.outputs g ≡ true)) Q.owners (λ g a b. (a, b)) may.no_deck sound.owners);
  numbers = AreDistinct-without_first (has_number n) (λ a b. same_number a.number b.number) Q.jobs sound.numbers;
  keys = sound.keys;
  printers = sound.printers;
  places = places-freed test Q.owners sound.places;
  no_gaps = gaps-freed test Q.owners may.closed sound.no_gaps;
}
  where
    owner_left : (g : Owner) → test g ≡ false → (test g ≡ false → is_deck_of n g ≡ false) × (is_owner_there Q.config Q.jobs Q.outputs g ≡ true) → is_owner_there Q.config (without_first (has_number n) Q.jobs) Q.outputs g ≡ true
    owner_left owner.Free kept h = refl
    owner_left (owner.Member m) kept h = h.1
    owner_left (owner.Deck k p) kept h = is_there-without (λ j. not (in_input j.phase)) Q.jobs n k (not_same k n (h.0 kept)) h.1
    owner_left (owner.Output k i p) kept h = h.1

-- OUTPUTS GO

-- an output of another key is there still
key_there : (os : List Output) (n k : JobNo) (i l : OutNo) → (same_number k n && same_index l i) ≡ false → is_some (find (has_key k l) os) ≡ true → is_some (find (has_key k l) (without_first (has_key n i) os)) ≡ true
key_there os n k i l apart there = rw (find-without_first (has_key k l) (has_key n i) os (λ o h. key_not n k i l o apart h)) there

-- an output goes, and its groups become Free
pub sound-remove_output : (Q : Queue) (n : JobNo) (i : OutNo) → IsSound Q → IsSound (output_removed n i Q)
sound-remove_output Q n i sound = record {
  config = sound.config;
  few_jobs = sound.few_jobs;
  few_outputs = omega (arith, length-without_first_le (has_key n i) Q.outputs, sound.few_outputs);
  each_group = length-map Q.owners _ ∙ sound.each_group;
  each_member = sound.each_member;
  few_routes = sound.few_routes;
  each_line = sound.each_line;
  last = sound.last;
  members = sound.members;
  jobs = sound.jobs;
  decks = All-weaker (HasDeckGroup Q.owners) (HasDeckGroup (freed (is_output_of n i) Q.owners)) (λ j deck some. any-freed (is_output_of n i) (is_deck_of j.number) refl (output_no_deck n i j.number) Q.owners ∙ deck some) Q.jobs sound.decks;
  outputs = All-without_first (has_key n i) (IsSoundOutput Q.config Q.jobs) Q.outputs sound.outputs;
  groups = All-both (λ o. has_key n i o ≡ false) (HasOutputGroup Q.owners) (HasOutputGroup (freed (is_output_of n i) Q.owners)) (without_first (has_key n i) Q.outputs)
      (λ o other group some. any-freed (is_output_of n i) (is_output_of o.job o.index) refl (output_no_other n i o other) Q.owners ∙ group some)
      (other_keys_left n i Q.outputs sound.keys) (All-without_first (has_key n i) (HasOutputGroup Q.owners) Q.outputs sound.groups);
  owners = All-freed (is_output_of n i) (λ g. is_owner_there Q.config Q.jobs Q.outputs g ≡ true) (λ g. is_owner_there Q.config Q.jobs (without_first (has_key n i) Q.outputs) g ≡ true) refl owner_left Q.owners sound.owners;
  numbers = sound.numbers;
  keys = AreDistinct-without_first (has_key n i) same_key Q.outputs sound.keys;
  printers = AreDistinct-without_first (has_key n i) same_printer Q.outputs sound.printers;
  places = places-freed (is_output_of n i) Q.owners sound.places;
  no_gaps = gaps-freed (is_output_of n i) Q.owners (closed_output n i) sound.no_gaps;
}
  where
    owner_left : (g : Owner) → is_output_of n i g ≡ false → is_owner_there Q.config Q.jobs Q.outputs g ≡ true → is_owner_there Q.config Q.jobs (without_first (has_key n i) Q.outputs) g ≡ true
    owner_left owner.Free kept h = refl
    owner_left (owner.Member m) kept h = h
    owner_left (owner.Deck k p) kept h = h
    owner_left (owner.Output k l p) kept h = key_there Q.outputs n k i l kept h

-- all outputs of a job go, and their groups become Free
pub sound-remove_outputs : (Q : Queue) (n : JobNo) → IsSound Q → IsSound (without_outputs_of n Q)
sound-remove_outputs Q n sound = rw (freed-of_any Q.config Q.jobs Q.outputs n Q.owners sound.owners) (record {
  config = sound.config;
  few_jobs = sound.few_jobs;
  few_outputs = omega (arith, length-filter_le (λ o. not (is_of n o)) Q.outputs, sound.few_outputs);
  each_group = length-map Q.owners _ ∙ sound.each_group;
  each_member = sound.each_member;
  few_routes = sound.few_routes;
  each_line = sound.each_line;
  last = sound.last;
  members = sound.members;
  jobs = sound.jobs;
  decks = All-weaker (HasDeckGroup Q.owners) (HasDeckGroup (freed (is_any_output_of n) Q.owners)) (λ j deck some. any-freed (is_any_output_of n) (is_deck_of j.number) refl (any_output_no_deck n j.number) Q.owners ∙ deck some) Q.jobs sound.decks;
  outputs = All-filter (λ o. not (is_of n o)) (IsSoundOutput Q.config Q.jobs) Q.outputs sound.outputs;
  groups = All-both (λ o. not (is_of n o) ≡ true) (HasOutputGroup Q.owners) (HasOutputGroup (freed (is_any_output_of n) Q.owners)) (without (is_of n) Q.outputs)
      (λ o other group some. any-freed (is_any_output_of n) (is_output_of o.job o.index) refl (any_output_no_other n o other) Q.owners ∙ group some)
      (filter_passes (λ o. not (is_of n o)) Q.outputs) (All-filter (λ o. not (is_of n o)) (HasOutputGroup Q.owners) Q.outputs sound.groups);
  owners = All-freed (is_any_output_of n) (λ g. is_owner_there Q.config Q.jobs Q.outputs g ≡ true) (λ g. is_owner_there Q.config Q.jobs (without (is_of n) Q.outputs) g ≡ true) refl owner_left Q.owners sound.owners;
  numbers = sound.numbers;
  keys = AreDistinct-filter (λ o. not (is_of n o)) same_key Q.outputs sound.keys;
  printers = AreDistinct-filter (λ o. not (is_of n o)) same_printer Q.outputs sound.printers;
  places = places-freed (is_any_output_of n) Q.owners sound.places;
  no_gaps = gaps-freed (is_any_output_of n) Q.owners (closed_any_output n) sound.no_gaps;
})
  where
    owner_left : (g : Owner) → is_any_output_of n g ≡ false → is_owner_there Q.config Q.jobs Q.outputs g ≡ true → is_owner_there Q.config Q.jobs (without (is_of n) Q.outputs) g ≡ true
    owner_left owner.Free kept h = refl
    owner_left (owner.Member m) kept h = h
    owner_left (owner.Deck k p) kept h = h
    owner_left (owner.Output k l p) kept h = rw (find-without (has_key k l) (is_of n) Q.outputs (λ o at_key. job_not n k l o kept at_key)) h
