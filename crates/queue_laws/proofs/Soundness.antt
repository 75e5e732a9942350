-- The sound parts are kept: by a change of a job that keeps what other parts look at.
use Rattle.std.proofs.Common.{◌≡◌, ℕ, suc, Bool, true, false, not, ◌||◌, nat_eq, List, [], ◌∷◌, length, Option, Some, None, refl, ap, ◌∙◌, subst, inl, inr}
use Rattle.std.specs.Prelude.{option_map}
use Rattle.std.specs.Option.{option_map_or}
use Rattle.std.specs.List.{find, list_any, All}
use Rattle.std.proofs.lemmas.Bool.{eq-eqb}
use Rattle.std.proofs.lemmas.Bool.Decides.{eqb_tells}
use Rattle.std.proofs.lemmas.List.Elements.{All-cons, All-head, All-tail, All-nil, All-weaker}
use Rattle.mas_types.specs.declared.ids.JobNo.{JobNo}
use Rattle.mas_types.specs.declared.jobs.Job.{Job}
use Rattle.mas_types.specs.declared.jobs.Output.{Output}
use Rattle.mas_types.specs.declared.queues.Owner.{Owner}
use Rattle.mas_types.specs.declared.queues.Owner.TheVariants as owner
use Rattle.mas_types.specs.declared.queues.Queue.{Queue}
use Rattle.mas_types.specs.Lists.{change_first}
use Rattle.mas_types.specs.Ids.{same_number}
use Rattle.mas_types.specs.Queue.{in_input, has_number, is_of, has_output, change_job, job_at}
use Rattle.mas_types.specs.Fit.{AreDistinct}
use Rattle.mas_types.specs.Sound.{IsSound, IsSoundJob, IsSoundOutput, HasDeckGroup, is_there, is_owner_there, may_have_outputs}
use Rattle.queue_laws.proofs.Finds.{test_cases, find-change_same, find-change_apart}
use Rattle.queue_laws.proofs.Kept.{number_alike, number_apart, found_alike}
use Rattle.queue_laws.proofs.Others.{All-both}

-- LISTS WITH ONE ITEM CHANGED

module _ {A : Type 0} (p : A → Bool) (f : A → A) where
  pub All-change : (P : A → Type 0) (xs : List A) → All P xs → ((x : A) → find p xs ≡ Some x → P x → P (f x)) → All P (change_first p f xs)
  All-change P [] all new = All-nil P
  All-change P (y ∷ ys) all new =
      test_cases (p y) (All P (change_first p f (y ∷ ys)))
      (λ e. rw e (All-cons P (f y) ys (new y (rw e refl) (All-head P y ys all)) (All-tail P y ys all)))
      (λ e. rw e (All-cons P y (change_first p f ys) (All-head P y ys all) (All-change P ys (All-tail P y ys all) (λ x found. new x (rw e found)))))

  pub any-change : (t : A → Bool) → ((x : A) → t (f x) ≡ t x) → (xs : List A) → list_any t (change_first p f xs) ≡ list_any t xs
  any-change t same [] = refl
  any-change t same (y ∷ ys) =
      test_cases (p y) (list_any t (change_first p f (y ∷ ys)) ≡ list_any t (y ∷ ys))
      (λ e. rw (e, same y) refl)
      (λ e. rw e (ap (λ b. t y || b) (any-change t same ys)))

  pub length-change : (xs : List A) → length (change_first p f xs) ≡ length xs
  length-change [] = refl
  length-change (y ∷ ys) =
      test_cases (p y) (length (change_first p f (y ∷ ys)) ≡ length (y ∷ ys)) (λ e. rw e refl) (λ e. rw e (ap suc (length-change ys)))

  any_agree : (t u : A → Bool) → ((x : A) → t x ≡ u x) → (xs : List A) → list_any t xs ≡ list_any u xs
  any_agree t u same [] = refl
  any_agree t u same (y ∷ ys) = rw (same y, any_agree t u same ys) refl

  pub AreDistinct-change : (same : A → A → Bool) → ((x y : A) → same (f x) y ≡ same x y) → ((x y : A) → same x (f y) ≡ same x y) → (xs : List A) → AreDistinct same xs → AreDistinct same (change_first p f xs)
  AreDistinct-change same left right [] d = d
  AreDistinct-change same left right (y ∷ ys) d =
      test_cases (p y) (AreDistinct same (change_first p f (y ∷ ys)))
      (λ e. rw e (any_agree (same (f y)) (same y) (left y) ys ∙ d.0, d.1))
      (λ e. rw e (any-change (same y) (right y) ys ∙ d.0, AreDistinct-change same left right ys d.1))

-- A JOB IS CHANGED

module _ (n : JobNo) (f : Job → Job) (numbers : (j : Job) → (f j).number ≡ j.number) where
  -- what is there of each job is there still
  pub is_there-change : (test : Job → Bool) (js : List Job) (k : JobNo) → ((j : Job) → k.0 ≡ n.0 → find (has_number n) js ≡ Some j → test j ≡ true → test (f j) ≡ true) → is_there test js k ≡ true → is_there test (change_first (has_number n) f js) k ≡ true
  is_there-change test js k keeps there =
      elim (eqb_tells k.0 n.0) [
        | inl w ↦
            rw (find-change_same (has_number k) (has_number n) f js (number_alike k n w.1) (λ x. ap (λ v. same_number v k) (numbers x)))
            (there_map (find (has_number k) js) (λ j found. keeps j w.1 (found_alike k n js j w.1 found)) there)
        | inr w ↦
            rw (find-change_apart (has_number k) (has_number n) f js (number_apart k n w.1) (λ x. ap (λ v. same_number v k) (numbers x))) there
      ]
    where
      there_map : (o : Option Job) → ((j : Job) → o ≡ Some j → test j ≡ true → test (f j) ≡ true) → option_map_or test o false ≡ true → option_map_or test (option_map f o) false ≡ true
      there_map None keeps there = absurd (cc)
      there_map (Some j) keeps there = keeps j refl there

or_true : (a : Bool) → (a || true) ≡ true
or_true true = refl
or_true false = refl

-- an output is one of its job's
own_output : (os : List Output) → All (λ o. list_any (is_of o.job) os ≡ true) os
own_output [] = All-nil (λ o. list_any (is_of o.job) [] ≡ true)
own_output (x ∷ xs) =
    All-cons (λ o. list_any (is_of o.job) (x ∷ xs) ≡ true) x xs (rw (eq-eqb x.job.0 x.job.0 refl) refl)
    (All-weaker (λ o. list_any (is_of o.job) xs ≡ true) (λ o. list_any (is_of o.job) (x ∷ xs) ≡ true) (λ o own. rw own (or_true (is_of o.job x))) xs (own_output xs))

has_alike : (k n : JobNo) (Q : Queue) → k.0 ≡ n.0 → has_output k Q ≡ true → has_output n Q ≡ true
has_alike k n Q same has = subst (λ (v : ℕ). list_any (λ (o : Output). nat_eq o.job.0 v) Q.outputs ≡ true) same has

-- what a change of the job of that number has to keep
pub record IsSafe (Q : Queue) (n : JobNo) (f : Job → Job) : Type 0 where
  pub number : (j : Job) → (f j).number ≡ j.number
  pub text : (j : Job) → (f j).text ≡ j.text
  pub right : (j : Job) → job_at Q n ≡ Some j → IsSoundJob Q.config j → IsSoundJob Q.config (f j)
  pub outputs : (j : Job) → job_at Q n ≡ Some j → has_output n Q ≡ true → may_have_outputs j.phase ≡ true → may_have_outputs (f j).phase ≡ true
  pub past_input : (j : Job) → job_at Q n ≡ Some j → not (in_input j.phase) ≡ true → not (in_input (f j).phase) ≡ true

owner_there : (Q : Queue) (n : JobNo) (f : Job → Job) → IsSafe Q n f → (g : Owner) → is_owner_there Q.config Q.jobs Q.outputs g ≡ true → is_owner_there Q.config (change_first (has_number n) f Q.jobs) Q.outputs g ≡ true
owner_there Q n f safe owner.Free there = refl
owner_there Q n f safe (owner.Member m) there = there
owner_there Q n f safe (owner.Deck k place) there = is_there-change n f safe.number (λ j. not (in_input j.phase)) Q.jobs k (λ j same found. safe.past_input j found) there
owner_there Q n f safe (owner.Output k i place) there = there

pub sound-change_job : (Q : Queue) (n : JobNo) (f : Job → Job) → IsSound Q → IsSafe Q n f → IsSound (change_job n f Q)
sound-change_job Q n f sound safe = record {
  config = sound.config;
  few_jobs = rw (length-change (has_number n) f Q.jobs) sound.few_jobs;
  few_outputs = sound.few_outputs;
  each_group = sound.each_group;
  each_member = sound.each_member;
  few_routes = sound.few_routes;
  each_line = sound.each_line;
  last = sound.last;
  members = sound.members;
  jobs = All-change (has_number n) f (IsSoundJob Q.config) Q.jobs sound.jobs safe.right;
  decks = All-change (has_number n) f (HasDeckGroup Q.owners) Q.jobs sound.decks (λ j found deck. rw (safe.text j, safe.number j) deck);
  outputs = All-both (λ o. has_output o.job Q ≡ true) (IsSoundOutput Q.config Q.jobs) (IsSoundOutput Q.config (change_first (has_number n) f Q.jobs)) Q.outputs (λ o own s. record {
    index = s.index;
    copies = s.copies;
    lines = s.lines;
    job = is_there-change n f safe.number (λ j. may_have_outputs j.phase) Q.jobs o.job (λ j same found. safe.outputs j found (has_alike o.job n Q same own)) s.job;
    busy = s.busy;
    text = s.text;
    mark = s.mark;
  }) (own_output Q.outputs) sound.outputs;
  groups = sound.groups;
  owners = All-weaker (λ g. is_owner_there Q.config Q.jobs Q.outputs g ≡ true) (λ g. is_owner_there Q.config (change_first (has_number n) f Q.jobs) Q.outputs g ≡ true) (owner_there Q n f safe) Q.owners sound.owners;
  numbers = AreDistinct-change (has_number n) f (λ a b. same_number a.number b.number) (λ x y. ap (λ v. same_number v y.number) (safe.number x)) (λ x y. ap (λ v. same_number x.number v) (safe.number y)) Q.jobs sound.numbers;
  keys = sound.keys;
  printers = sound.printers;
  places = sound.places;
  no_gaps = sound.no_gaps;
}
