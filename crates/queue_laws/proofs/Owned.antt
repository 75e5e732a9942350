-- Groups of the outputs of a job.
use Rattle.std.proofs.Common.{◌≡◌, Bool, true, false, List, [], ◌∷◌, Option, Some, None, refl, ap, arith}
use Rattle.std.specs.Prelude.{is_some, if◌then◌else◌}
use Rattle.std.specs.List.{find, filter, list_any, All}
use Rattle.std.proofs.lemmas.Bool.Decides.{nat_tests}
use Rattle.std.proofs.lemmas.List.Elements.{All-head, All-tail}
use Rattle.mas_types.specs.declared.ids.JobNo.{JobNo}
use Rattle.mas_types.specs.declared.ids.OutNo.{OutNo}
use Rattle.mas_types.specs.declared.jobs.Job.{Job}
use Rattle.mas_types.specs.declared.jobs.Output.{Output}
use Rattle.mas_types.specs.declared.queues.Config.{Config}
use Rattle.mas_types.specs.declared.queues.Owner.{Owner}
use Rattle.mas_types.specs.declared.queues.Owner.TheVariants as owner
use Rattle.mas_types.specs.Ids.{same_number}
use Rattle.mas_types.specs.Queue.{has_key, is_of}
use Rattle.mas_types.specs.Owners.{freed, is_of_any}
use Rattle.mas_types.specs.Sound.{is_owner_there}
use Rattle.queue_laws.proofs.Finds.{test_cases}

-- the group is of an output of the job, whatever its index
abbrev pub is_any_output_of : JobNo → Owner → Bool
is_any_output_of n (owner.Output job index place) = same_number job n
is_any_output_of n _ = false

-- TESTS OF A FILTERED LIST

module _ {A : Type 0} (p q : A → Bool) where
  any-filter : ((x : A) → p x ≡ true → q x ≡ true) → (xs : List A) (x : A) → find p xs ≡ Some x → list_any p (filter q xs) ≡ true
  any-filter within [] x found = absurd (cc)
  any-filter within (y ∷ ys) x found =
      test_cases (p y) (list_any p (filter q (y ∷ ys)) ≡ true)
      (λ e. rw (within y e, e) refl)
      (λ e. test_cases (q y) (list_any p (filter q (y ∷ ys)) ≡ true)
      (λ d. rw (d, e) (any-filter within ys x (rw e at found)))
      (λ d. rw d (any-filter within ys x (rw e at found))))

  none-filter : ((x : A) → q x ≡ true → p x ≡ false) → (xs : List A) → list_any p (filter q xs) ≡ false
  none-filter apart [] = refl
  none-filter apart (y ∷ ys) =
      test_cases (q y) (list_any p (filter q (y ∷ ys)) ≡ false)
      (λ d. rw (d, apart y d) (none-filter apart ys))
      (λ d. rw d (none-filter apart ys))

of_job : (k n : JobNo) (i : OutNo) (o : Output) → same_number k n ≡ true → has_key k i o ≡ true → is_of n o ≡ true
of_job k n i o same h = grind (arith, nat_tests)

of_other_job : (k n : JobNo) (i : OutNo) (o : Output) → same_number k n ≡ false → is_of n o ≡ true → has_key k i o ≡ false
of_other_job k n i o apart h = grind (arith, nat_tests)

-- GROUPS OF OUTPUTS THAT ARE THERE

module _ (config : Config) (jobs : List Job) (os : List Output) (n : JobNo) where
  is_there_of : (k : JobNo) (i : OutNo) → same_number k n ≡ true → (o : Option Output) → find (has_key k i) os ≡ o → is_some o ≡ true → list_any (has_key k i) (filter (is_of n) os) ≡ true
  is_there_of k i same None found there = absurd (cc)
  is_there_of k i same (Some o) found there = any-filter (has_key k i) (is_of n) (λ x h. of_job k n i x same h) os o found

  same_test : (g : Owner) → is_owner_there config jobs os g ≡ true → is_of_any (filter (is_of n) os) g ≡ is_any_output_of n g
  same_test owner.Free there = refl
  same_test (owner.Member m) there = refl
  same_test (owner.Deck k p) there = refl
  same_test (owner.Output k i p) there =
      test_cases (same_number k n) (list_any (has_key k i) (filter (is_of n) os) ≡ same_number k n)
      (λ e. rw e (is_there_of k i e (find (has_key k i) os) refl there))
      (λ e. rw e (none-filter (has_key k i) (is_of n) (λ x h. of_other_job k n i x e h) os))

  -- where each group's output is there, the groups of a job's outputs are those of the outputs that are there
  pub freed-of_any : (gs : List Owner) → All (λ g. is_owner_there config jobs os g ≡ true) gs → freed (is_of_any (filter (is_of n) os)) gs ≡ freed (is_any_output_of n) gs
  freed-of_any [] all = refl
  freed-of_any (g ∷ gs) all =
      rw (same_test g (All-head (λ g. is_owner_there config jobs os g ≡ true) g gs all))
      (ap (λ hs. (if is_any_output_of n g then owner.Free else g) ∷ hs) (freed-of_any gs (All-tail (λ g. is_owner_there config jobs os g ≡ true) g gs all)))
