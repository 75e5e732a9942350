-- When what is busy at a member is kept: by changes of jobs and of outputs.
use Rattle.std.proofs.Common.{◌≡◌, ℕ, true, false, ◌&&◌, nat_eq, List, ◌++◌, map, Some, refl, ap, sym, ◌∙◌, subst, inl, inr, ◌⊎◌, arith}
use Rattle.std.specs.Prelude.{option_map}
use Rattle.std.specs.List.{find}
use Rattle.std.proofs.lemmas.Bool.Decides.{eqb_tells, nat_tests}
use Rattle.mas_types.specs.declared.ids.MemberId.{MemberId}
use Rattle.mas_types.specs.declared.ids.JobNo.{JobNo}
use Rattle.mas_types.specs.declared.ids.OutNo.{OutNo}
use Rattle.mas_types.specs.declared.jobs.Job.{Job}
use Rattle.mas_types.specs.declared.jobs.Output.{Output}
use Rattle.mas_types.specs.Lists.{change_first, without_first}
use Rattle.mas_types.specs.Ids.{same_number}
use Rattle.mas_types.specs.Queue.{has_number, has_key}
use Rattle.queue_laws.specs.Laws.{IsJobKept, IsOutputKept, AreJobsKept, AreOutputsKept}
use Rattle.queue_laws.proofs.Finds.{find-change_same, find-change_apart, find-without_first, find-map, find-append}

-- THE SAME AND OTHER NUMBERS

pub number_apart : (n k : JobNo) → (n.0 ≡ k.0 → ⊥) → (x : Job) → has_number n x ≡ true → has_number k x ≡ false
number_apart n k apart x h = grind (arith, nat_tests)

pub number_alike : (n k : JobNo) → n.0 ≡ k.0 → (x : Job) → has_number k x ≡ has_number n x
number_alike n k same x = ap (λ v. nat_eq x.number.0 v) (sym same)

pub found_alike : (n k : JobNo) (js : List Job) (j : Job) → n.0 ≡ k.0 → find (has_number n) js ≡ Some j → find (has_number k) js ≡ Some j
found_alike n k js j same h = subst (λ (v : ℕ). find (λ (x : Job). nat_eq x.number.0 v) js ≡ Some j) same h

-- JOBS

module _ (h : MemberId) where
  pub job_itself : (j : Job) → j.busy ≡ h → IsJobKept h j j
  job_itself j busy = record { busy = busy; phase = refl; text = refl }

  pub jobs_same : (js : List Job) → AreJobsKept h js js
  jobs_same js n j found busy = (j, found, job_itself j busy)

  pub jobs_trans : (js ks ls : List Job) → AreJobsKept h js ks → AreJobsKept h ks ls → AreJobsKept h js ls
  jobs_trans js ks ls first second n j found busy =
      let mid = first n j found busy in
      let last = second n mid.0 mid.1 mid.2.busy in
      (last.0, last.1, record { busy = last.2.busy; phase = last.2.phase ∙ mid.2.phase; text = last.2.text ∙ mid.2.text })

  -- a job is changed, which keeps what it has to keep where it is busy at the member
  pub jobs-change : (k : JobNo) (f : Job → Job) (js : List Job) → ((j : Job) → (f j).number ≡ j.number) → ((j : Job) → find (has_number k) js ≡ Some j → j.busy ≡ h → IsJobKept h j (f j)) → AreJobsKept h js (change_first (has_number k) f js)
  jobs-change k f js numbers keeps n j found busy =
      elim (eqb_tells n.0 k.0) [
        | inl w ↦ (f j, find-change_same (has_number n) (has_number k) f js (number_alike n k w.1) (λ x. ap (λ v. same_number v n) (numbers x)) ∙ ap (option_map f) found, keeps j (found_alike n k js j w.1 found) busy)
        | inr w ↦ (j, find-change_apart (has_number n) (has_number k) f js (number_apart n k w.1) (λ x. ap (λ v. same_number v n) (numbers x)) ∙ found, job_itself j busy)
      ]

  -- a job goes that is not busy at the member
  pub jobs-without : (k : JobNo) (js : List Job) → ((j : Job) → find (has_number k) js ≡ Some j → j.busy ≡ h → ⊥) → AreJobsKept h js (without_first (has_number k) js)
  jobs-without k js idle n j found busy =
      elim (eqb_tells n.0 k.0) [
        | inl w ↦ absurd (idle j (found_alike n k js j w.1 found) busy)
        | inr w ↦ (j, find-without_first (has_number n) (has_number k) js (number_apart n k w.1) ∙ found, job_itself j busy)
      ]

  -- jobs come
  pub jobs-append : (js ks : List Job) → AreJobsKept h js (js ++ ks)
  jobs-append js ks n j found busy = (j, find-append (has_number n) js ks j found, job_itself j busy)

  -- all jobs are changed, and those that are busy at the member are kept
  pub jobs-map : (f : Job → Job) (js : List Job) → ((j : Job) → (f j).number ≡ j.number) → ((j : Job) → j.busy ≡ h → IsJobKept h j (f j)) → AreJobsKept h js (map f js)
  jobs-map f js numbers keeps n j found busy =
      (f j, find-map (has_number n) f js (λ x. ap (λ v. same_number v n) (numbers x)) ∙ ap (option_map f) found, keeps j busy)

-- OUTPUTS

index_apart : (n k : JobNo) (i l : OutNo) (o : Output) → (i.0 ≡ l.0 → ⊥) → has_key n i o ≡ true → has_key k l o ≡ false
index_apart n k i l o apart h = grind (arith, nat_tests)

key_apart : (n k : JobNo) (i l : OutNo) (o : Output) → (n.0 ≡ k.0 → ⊥) → has_key n i o ≡ true → has_key k l o ≡ false
key_apart n k i l o apart h = grind (arith, nat_tests)

-- the two keys are alike, or no output has both
pub key_cases : (n k : JobNo) (i l : OutNo) → ((n.0 ≡ k.0) × (i.0 ≡ l.0)) ⊎ ((o : Output) → has_key n i o ≡ true → has_key k l o ≡ false)
key_cases n k i l =
    elim (eqb_tells n.0 k.0) [
      | inl w ↦ elim (eqb_tells i.0 l.0) [
        | inl w' ↦ inl (w.1, w'.1)
        | inr w' ↦ inr (λ o. index_apart n k i l o w'.1)
      ]
      | inr w ↦ inr (λ o. key_apart n k i l o w.1)
    ]

pub key_alike : (n k : JobNo) (i l : OutNo) → n.0 ≡ k.0 → i.0 ≡ l.0 → (o : Output) → has_key k l o ≡ has_key n i o
key_alike n k i l same same' o = rw (same, same') refl

pub key_found_alike : (n k : JobNo) (i l : OutNo) (os : List Output) (o : Output) → n.0 ≡ k.0 → i.0 ≡ l.0 → find (has_key n i) os ≡ Some o → find (has_key k l) os ≡ Some o
key_found_alike n k i l os o same same' h =
    subst (λ (v : ℕ). find (λ (x : Output). nat_eq x.job.0 k.0 && nat_eq x.index.0 v) os ≡ Some o) same'
    (subst (λ (v : ℕ). find (λ (x : Output). nat_eq x.job.0 v && nat_eq x.index.0 i.0) os ≡ Some o) same h)

module _ (h : MemberId) where
  pub output_itself : (o : Output) → o.busy ≡ h → IsOutputKept h o o
  output_itself o busy = record { busy = busy; mark = refl; text = refl; copies = refl }

  pub outputs_same : (os : List Output) → AreOutputsKept h os os
  outputs_same os n i o found busy = (o, found, output_itself o busy)

  pub outputs-change : (k : JobNo) (l : OutNo) (f : Output → Output) (os : List Output) → ((n : JobNo) (i : OutNo) (o : Output) → has_key n i (f o) ≡ has_key n i o) → ((o : Output) → find (has_key k l) os ≡ Some o → o.busy ≡ h → IsOutputKept h o (f o)) → AreOutputsKept h os (change_first (has_key k l) f os)
  outputs-change k l f os keys keeps n i o found busy =
      elim (key_cases n k i l) [
        | inl w ↦ (f o, find-change_same (has_key n i) (has_key k l) f os (key_alike n k i l w.0 w.1) (keys n i) ∙ ap (option_map f) found, keeps o (key_found_alike n k i l os o w.0 w.1 found) busy)
        | inr w ↦ (o, find-change_apart (has_key n i) (has_key k l) f os w (keys n i) ∙ found, output_itself o busy)
      ]

  pub outputs-without_first : (k : JobNo) (l : OutNo) (os : List Output) → ((o : Output) → find (has_key k l) os ≡ Some o → o.busy ≡ h → ⊥) → AreOutputsKept h os (without_first (has_key k l) os)
  outputs-without_first k l os idle n i o found busy =
      elim (key_cases n k i l) [
        | inl w ↦ absurd (idle o (key_found_alike n k i l os o w.0 w.1 found) busy)
        | inr w ↦ (o, find-without_first (has_key n i) (has_key k l) os w ∙ found, output_itself o busy)
      ]

  pub outputs-append : (os ps : List Output) → AreOutputsKept h os (os ++ ps)
  outputs-append os ps n i o found busy = (o, find-append (has_key n i) os ps o found, output_itself o busy)

  pub outputs-map : (f : Output → Output) (os : List Output) → ((n : JobNo) (i : OutNo) (o : Output) → has_key n i (f o) ≡ has_key n i o) → ((o : Output) → o.busy ≡ h → IsOutputKept h o (f o)) → AreOutputsKept h os (map f os)
  outputs-map f os keys keeps n i o found busy =
      (f o, find-map (has_key n i) f os (keys n i) ∙ ap (option_map f) found, keeps o busy)
