-- What is busy at a member stays so under the commands of others.
use Rattle.std.proofs.Common.{◌≡◌, ℕ, Bool, true, false, not, ◌&&◌, ◌==◌, nat_eq, List, [], ◌∷◌, Option, Some, None, refl, sym, ◌∙◌, inl, inr, ◌+◌, ◌-◌, min, arith}
use Rattle.std.specs.Prelude.{if◌then◌else◌, is_some}
use Rattle.std.specs.List.{find, list_any, All}
use Rattle.std.proofs.lemmas.Bool.{eq-eqb}
use Rattle.std.proofs.lemmas.Bool.Decides.{eqb_tells, nat_tests}
use Rattle.std.proofs.lemmas.List.Elements.{All-cons, All-nil}
use Rattle.mas_types.specs.declared.ids.MemberId.{MemberId}
use Rattle.mas_types.specs.declared.ids.JobNo.{JobNo}
use Rattle.mas_types.specs.declared.ids.OutNo.{OutNo}
use Rattle.mas_types.specs.declared.jobs.Phase.{Phase}
use Rattle.mas_types.specs.declared.jobs.Phase.TheVariants as phase
use Rattle.mas_types.specs.declared.jobs.Job.{Job}
use Rattle.mas_types.specs.declared.jobs.Output.{Output}
use Rattle.mas_types.specs.declared.queues.Queue.{Queue}
use Rattle.mas_types.specs.declared.commands.Refusal.{Refusal}
use Rattle.mas_types.specs.declared.commands.Refusal.TheVariants as refusal
use Rattle.mas_types.specs.Lists.{first_some, change_first, without_first, without, has_first_key_of, is_greatest_of}
use Rattle.mas_types.specs.Ids.{same_number, same_member, is_somebody}
use Rattle.mas_types.specs.Queue.{in_convert, in_execute, in_output, in_hardcopy, in_purge, in_xmit, is_in, is_current_on, has_output, has_number, has_key, is_of, job_at, output_at, change_job, init_of, prt_of}
use Rattle.mas_types.specs.Selection.{job_prio, may_convert, may_execute, is_for_convert, is_for_execute, has_class}
use Rattle.mas_types.specs.Row.{none_such, job_not_at, output_not_at, output_elsewhere}
use Rattle.queue_laws.specs.Laws.{IsJobKept, IsOutputKept, AreJobsKept, AreOutputsKept, IsBusyKept}
use Rattle.mas_types.specs.Fit.{AreDistinct}
use Rattle.mas_types.specs.Sound.{IsSound, IsSoundJob, may_be_busy, same_key}
use Rattle.mas_types.specs.Commands.Input.{not_entered, begin_row, take_row, drop_row, enter_row}
use Rattle.mas_types.specs.Commands.Life.{made_busy, take_convert_row, take_exec_row, converted_row, converted, ended_row, ended, gather_row, gathered, purge_row}
use Rattle.mas_types.specs.declared.ids.Class.{Class}
use Rattle.mas_types.specs.declared.ids.Prio.{Prio}
use Rattle.mas_types.specs.Selection.{is_for_printer, may_print, of_class, output_prio}
use Rattle.mas_types.specs.Queue.{prints_at, total, wire_at}
use Rattle.mas_types.specs.Reset.{reset, reset_job, reset_output}
use Rattle.mas_types.specs.Commands.Printing.{picked_by, marked, marked_row, mark_row, none_printing, pick_row, outputs_over, output_removed, output_gone, done_row}
use Rattle.mas_types.specs.Commands.Operator.{held_row, with_held, set_prio_row, with_prio, set_class_row, with_class, out_row, is_held_of, released, cancel_out_row, set_out_row, cancel_row, cancelled, is_busy, printing_elsewhere}
use Rattle.mas_types.specs.Commands.Wire.{load_row, sent_row, got_row, again, gap, got_on}
use Rattle.mas_types.specs.declared.commands.Command.{Command}
use Rattle.mas_types.specs.declared.commands.Command.TheVariants as command
use Rattle.mas_types.specs.Step.{row_of}
use Rattle.queue_laws.specs.Laws.{KeepsBusy, resets}
use Rattle.queue_laws.proofs.Done.{none_first, done_keeps}
use Rattle.queue_laws.proofs.Finds.{test_cases, find_none, find-without, any_none, find-All}
use Rattle.queue_laws.proofs.Chosen.{change_first-none, change_first-chosen, without_first-chosen}
use Rattle.queue_laws.proofs.Kept.{job_itself, output_itself, jobs_same, jobs-change, jobs-without, jobs-append, jobs-map, outputs_same, outputs-change, outputs-append, outputs-map, outputs-without_first}

-- EACH JOB IS FOUND BY ITS NUMBER

abbrev pub IsFoundIn : List Job → Job → Type 0
IsFoundIn js j = find (has_number j.number) js ≡ Some j

found_later : (x : Job) (xs : List Job) (y : Job) → same_number x.number y.number ≡ false → IsFoundIn xs y → IsFoundIn (x ∷ xs) y
found_later x xs y apart h = rw apart h

pub All-both : {A : Type 0} (P R S : A → Type 0) (xs : List A) → ((x : A) → P x → R x → S x) → All P xs → All R xs → All S xs
All-both P R S xs f p r k d lt = f _ (p k d lt) (r k d lt)

pub found_itself : (js : List Job) → AreDistinct (λ a b. same_number a.number b.number) js → All (IsFoundIn js) js
found_itself [] distinct = All-nil (IsFoundIn [])
found_itself (x ∷ xs) distinct =
    All-cons (IsFoundIn (x ∷ xs)) x xs (rw (eq-eqb x.number.0 x.number.0 refl) refl)
    (All-both (λ y. same_number x.number y.number ≡ false) (IsFoundIn xs) (IsFoundIn (x ∷ xs)) xs (found_later x xs) (any_none (λ y. same_number x.number y.number) xs distinct.0) (found_itself xs distinct.1))

-- THE REFUSALS THAT DID NOT COME

pub second_none : {A : Type 0} (a b : Option A) (os : List (Option A)) → first_some (a ∷ b ∷ os) ≡ None → b ≡ None
second_none a b os h = (none_first b os (none_first a (b ∷ os) h).1).0

pub third_none : {A : Type 0} (a b c : Option A) (os : List (Option A)) → first_some (a ∷ b ∷ c ∷ os) ≡ None → c ≡ None
third_none a b c os h = second_none b c os (none_first a (b ∷ c ∷ os) h).1

pub after_two : {A : Type 0} (a b : Option A) (os : List (Option A)) → first_some (a ∷ b ∷ os) ≡ None → first_some os ≡ None
after_two a b os h = (none_first b os (none_first a (b ∷ os) h).1).1

pub at_member_output : (m : MemberId) (o : Output) → output_not_at m (Some o) ≡ None → same_member o.busy m ≡ true
at_member_output m o h = test_cases (same_member o.busy m) (same_member o.busy m ≡ true) (λ e. e) (λ e. absurd (let w = rw e at h in cc))

-- an output that may not be busy elsewhere isn't busy at another member
pub not_elsewhere : (m h : MemberId) (o : Output) → output_elsewhere m (Some o) ≡ None → is_somebody h ≡ true → same_member h m ≡ false → o.busy ≡ h → ⊥
not_elsewhere m h o none somebody other busy =
    let w = rw (busy, somebody, other) at none in cc

-- a job that waits isn't busy
pub waits : (a b c : Bool) → (a && (b && not c)) ≡ true → c ≡ false
waits true true true h = absurd (cc)
waits true true false h = refl
waits true false c h = absurd (cc)
waits false b c h = absurd (cc)

pub rests_output : (p : Phase) → in_output p ≡ true → may_be_busy p ≡ false
rests_output phase.Output h = refl
rests_output phase.Input h = absurd (cc)
rests_output phase.Convert h = absurd (cc)
rests_output phase.Execute h = absurd (cc)
rests_output phase.Hardcopy h = absurd (cc)
rests_output phase.Purge h = absurd (cc)
rests_output phase.Xmit h = absurd (cc)

pub rests_hardcopy : (p : Phase) → in_hardcopy p ≡ true → may_be_busy p ≡ false
rests_hardcopy phase.Hardcopy h = refl
rests_hardcopy phase.Input h = absurd (cc)
rests_hardcopy phase.Convert h = absurd (cc)
rests_hardcopy phase.Execute h = absurd (cc)
rests_hardcopy phase.Output h = absurd (cc)
rests_hardcopy phase.Purge h = absurd (cc)
rests_hardcopy phase.Xmit h = absurd (cc)

pub rests_purge : (p : Phase) → in_purge p ≡ true → may_be_busy p ≡ false
rests_purge phase.Purge h = refl
rests_purge phase.Input h = absurd (cc)
rests_purge phase.Convert h = absurd (cc)
rests_purge phase.Execute h = absurd (cc)
rests_purge phase.Output h = absurd (cc)
rests_purge phase.Hardcopy h = absurd (cc)
rests_purge phase.Xmit h = absurd (cc)

pub rests_xmit : (p : Phase) → in_xmit p ≡ true → may_be_busy p ≡ false
rests_xmit phase.Xmit h = refl
rests_xmit phase.Input h = absurd (cc)
rests_xmit phase.Convert h = absurd (cc)
rests_xmit phase.Execute h = absurd (cc)
rests_xmit phase.Output h = absurd (cc)
rests_xmit phase.Hardcopy h = absurd (cc)
rests_xmit phase.Purge h = absurd (cc)

pub both_first : (a b : Bool) → (a && b) ≡ true → a ≡ true
both_first true b h = refl
both_first false b h = absurd (cc)

-- an output that is busy elsewhere refuses
refused_elsewhere : (a : Bool) (m : MemberId) (o : Output) → (a && is_somebody o.busy && not (same_member o.busy m)) ≡ true → output_elsewhere m (Some o) ≡ None → ⊥
refused_elsewhere a m o h none = go a (is_somebody o.busy) (same_member o.busy m) refl refl h none
  where
    go : (a b c : Bool) → is_somebody o.busy ≡ b → same_member o.busy m ≡ c → (a && b && not c) ≡ true → output_elsewhere m (Some o) ≡ None → ⊥
    go true true false e d h n = let w = rw (e, d) at n in cc
    go true true true e d h n = cc
    go true false c e d h n = cc
    go false b c e d h n = cc

-- an output of one job is none of another
other_job : (k : JobNo) (i : OutNo) (n : JobNo) (o : Output) → (o.job.0 ≡ n.0 → ⊥) → has_key k i o ≡ true → (x : Output) → has_key k i x ≡ true → is_of n x ≡ false
other_job k i n o apart here x at_x = grind (arith, nat_tests)

-- an output that fits a printer isn't busy
pub fits_idle : (a b c d e : Bool) → (a && not b && c && d && e) ≡ true → b ≡ false
fits_idle a false c d e h = refl
fits_idle true true c d e h = absurd (cc)
fits_idle false true c d e h = absurd (cc)

-- EACH OUTPUT IS FOUND BY ITS KEY

abbrev pub IsKeyFoundIn : List Output → Output → Type 0
IsKeyFoundIn os o = find (has_key o.job o.index) os ≡ Some o

key_flip : (x y : Output) → same_key x y ≡ false → has_key y.job y.index x ≡ false
key_flip x y h = grind (arith, nat_tests)

key_found_later : (x : Output) (xs : List Output) (y : Output) → same_key x y ≡ false → IsKeyFoundIn xs y → IsKeyFoundIn (x ∷ xs) y
key_found_later x xs y apart h = rw (key_flip x y apart) h

key_itself : (x : Output) → has_key x.job x.index x ≡ true
key_itself x = rw (eq-eqb x.job.0 x.job.0 refl, eq-eqb x.index.0 x.index.0 refl) refl

pub key_found_itself : (os : List Output) → AreDistinct same_key os → All (IsKeyFoundIn os) os
key_found_itself [] distinct = All-nil (IsKeyFoundIn [])
key_found_itself (x ∷ xs) distinct =
    All-cons (IsKeyFoundIn (x ∷ xs)) x xs (rw (key_itself x) refl)
    (All-both (λ y. same_key x y ≡ false) (IsKeyFoundIn xs) (IsKeyFoundIn (x ∷ xs)) xs (key_found_later x xs) (any_none (same_key x) xs distinct.0) (key_found_itself xs distinct.1))

-- WHAT A SELECTION PICKS

-- one of the greatest is one of those
pub greatest_passes : {A : Type 0} (number : A → ℕ) (test : A → Bool) (xs : List A) (x : A) → is_greatest_of number test xs x ≡ true → test x ≡ true
greatest_passes number test xs x h = both_first (test x) _ h

-- one of the first key is one of those
pub first_key_passes : {A K : Type 0} (has : K → A → Bool) (ks : List K) (test : A → Bool) (xs : List A) (x : A) → has_first_key_of has ks test xs x ≡ true → test x ≡ true
first_key_passes has [] test xs x h = absurd (cc)
first_key_passes has (k ∷ ks) test xs x h =
    test_cases (list_any (λ y. test y && has k y) xs) (test x ≡ true)
    (λ e. both_first (test x) (has k x) (rw e at h))
    (λ e. first_key_passes has ks test xs x (rw e at h))

pub for_convert_waits : (Q : Queue) (x : Job) → is_for_convert Q x ≡ true → may_convert x ≡ true
for_convert_waits Q x h = greatest_passes job_prio may_convert Q.jobs x h

pub for_execute_waits : (Q : Queue) (m : MemberId) (x : Job) → is_for_execute Q m x ≡ true → may_execute x ≡ true
for_execute_waits Q m x h =
    first_key_passes has_class (init_of Q m) may_execute Q.jobs x
    (greatest_passes job_prio (has_first_key_of has_class (init_of Q m) may_execute Q.jobs) Q.jobs x h)

pub for_printer_waits : (Q : Queue) (m : MemberId) (x : Output) → is_for_printer Q m x ≡ true → may_print Q m x ≡ true
for_printer_waits Q m x h =
    first_key_passes of_class (prt_of Q m) (may_print Q m) Q.outputs x
    (greatest_passes (output_prio Q) (has_first_key_of of_class (prt_of Q m) (may_print Q m) Q.outputs) Q.outputs x h)

-- THE ONE THAT A TEST FINDS IS THE ONE OF ITS NUMBER, OR OF ITS KEY

number_itself : (j : Job) → same_number j.number j.number ≡ true
number_itself j = eq-eqb j.number.0 j.number.0 refl

pub change-by_number : (js : List Job) (p : Job → Bool) (f : Job → Job) (x : Job) → AreDistinct (λ a b. same_number a.number b.number) js → find p js ≡ Some x → change_first p f js ≡ change_first (has_number x.number) f js
change-by_number js p f x distinct found =
    change_first-chosen (λ a b. same_number a.number b.number) number_itself p (has_number x.number) x (λ y. refl) f js distinct found

pub without-by_number : (js : List Job) (p : Job → Bool) (x : Job) → AreDistinct (λ a b. same_number a.number b.number) js → find p js ≡ Some x → without_first p js ≡ without_first (has_number x.number) js
without-by_number js p x distinct found =
    without_first-chosen (λ a b. same_number a.number b.number) number_itself p (has_number x.number) x (λ y. refl) js distinct found

equal_turned : (a b : ℕ) → nat_eq a b ≡ nat_eq b a
equal_turned a b =
    elim (eqb_tells a b) [
      | inl w ↦ w.0 ∙ sym (eq-eqb b a (sym w.1))
      | inr w ↦ elim (eqb_tells b a) [ inl w' ↦ absurd (w.1 (sym w'.1)) | inr w' ↦ w.0 ∙ sym w'.0 ]
    ]

key_turned : (x y : Output) → has_key x.job x.index y ≡ same_key y x
key_turned x y = rw (equal_turned y.job.0 x.job.0, equal_turned y.index.0 x.index.0) refl

pub change-by_key : (os : List Output) (p : Output → Bool) (f : Output → Output) (x : Output) → AreDistinct same_key os → find p os ≡ Some x → change_first p f os ≡ change_first (has_key x.job x.index) f os
change-by_key os p f x distinct found = change_first-chosen same_key key_itself p (has_key x.job x.index) x (key_turned x) f os distinct found

pub at_member : (m : MemberId) (j : Job) → job_not_at m (Some j) ≡ None → same_member j.busy m ≡ true
at_member m j h = test_cases (same_member j.busy m) (same_member j.busy m ≡ true) (λ e. e) (λ e. absurd (let w = rw e at h in cc))

-- a job that is current on a wire is in Xmit
pub current_is_sent : (Q : Queue) (l : ℕ) (x : Job) → is_current_on Q l x ≡ true → in_xmit x.phase ≡ true
current_is_sent Q l x h = both_first (in_xmit x.phase) (is_some (wire_at Q l)) (both_first (in_xmit x.phase && is_some (wire_at Q l)) _ h)

module _ (Q : Queue) (m h : MemberId) (sound : IsSound Q) (somebody : is_somebody h ≡ true) (other : same_member h m ≡ false) where
  -- a job that has to be busy at the commanding member isn't busy at another
  guarded : (n : JobNo) → job_not_at m (job_at Q n) ≡ None → (j : Job) → job_at Q n ≡ Some j → j.busy ≡ h → ⊥
  guarded n none j found busy =
      let mine = at_member m j (rw found at none) in
      let theirs = rw busy at mine in
      cc

  -- a job that nobody is busy with isn't busy at another member
  idle : (j : Job) → is_somebody j.busy ≡ false → j.busy ≡ h → ⊥
  idle j none busy = let w = rw busy at none in cc

  -- a job in a phase in which no job is busy isn't busy at another member
  resting : (n : JobNo) (j : Job) → job_at Q n ≡ Some j → may_be_busy j.phase ≡ false → j.busy ≡ h → ⊥
  resting n j found rests busy =
      let right = (find-All (IsSoundJob Q.config) (has_number n) Q.jobs j sound.jobs found).0 in
      let works = right.busy_phase (rw busy somebody) in
      cc

  untouched : IsBusyKept h Q Q
  untouched = record { jobs = jobs_same h Q.jobs; outputs = outputs_same h Q.outputs }

  -- INPUT

  pub begin_keeps : (fields : _) → IsBusyKept h Q (begin_row Q m fields).effect
  begin_keeps fields = record { jobs = jobs-append h Q.jobs _; outputs = outputs_same h Q.outputs }

  pub take_keeps : (want : ℕ) → IsBusyKept h Q (take_row Q m want).effect
  take_keeps want = record { jobs = jobs_same h Q.jobs; outputs = outputs_same h Q.outputs }

  pub drop_keeps : (n : JobNo) → first_some (drop_row Q m n).refusals ≡ None → IsBusyKept h Q (drop_row Q m n).effect
  drop_keeps n none =
      test_cases (n.0 == 0) (IsBusyKept h Q (drop_row Q m n).effect)
      (λ e. rw e (record { jobs = jobs_same h Q.jobs; outputs = outputs_same h Q.outputs }))
      (λ e. rw e (record {
        jobs = jobs-without h n Q.jobs (guarded n (third_none _ _ _ _ (rw e at none)));
        outputs = outputs_same h Q.outputs;
      }))

  pub enter_keeps : (n : JobNo) (text : List (List ℕ)) → first_some (enter_row Q m n text).refusals ≡ None → IsBusyKept h Q (enter_row Q m n text).effect
  enter_keeps n text none = record {
    jobs = jobs-change h n _ Q.jobs (λ j. refl) (λ j found busy. absurd (guarded n (third_none _ _ _ _ none) j found busy));
    outputs = outputs_same h Q.outputs;
  }

  pub converted_keeps : (n : JobNo) → first_some (converted_row Q m n).refusals ≡ None → IsBusyKept h Q (converted_row Q m n).effect
  converted_keeps n none = record {
    jobs = jobs-change h n converted Q.jobs (λ j. refl) (λ j found busy. absurd (guarded n (third_none _ _ _ _ none) j found busy));
    outputs = outputs_same h Q.outputs;
  }

  pub ended_keeps : (n : JobNo) (specs : _) → first_some (ended_row Q m n specs).refusals ≡ None → IsBusyKept h Q (ended_row Q m n specs).effect
  ended_keeps n specs none = record {
    jobs = jobs-change h n ended Q.jobs (λ j. refl) (λ j found busy. absurd (guarded n (third_none _ _ _ _ none) j found busy));
    outputs = outputs-append h Q.outputs _;
  }

  -- JOBS THAT ARE SELECTED

  all_found : All (IsFoundIn Q.jobs) Q.jobs
  all_found = found_itself Q.jobs sound.numbers

  -- a job that a test finds is found by its number, and passes
  selected : (p : Job → Bool) (x : Job) → find p Q.jobs ≡ Some x → (j : Job) → job_at Q x.number ≡ Some j → (x ≡ j) × (p x ≡ true)
  selected p x first j found =
      let here = find-All (IsFoundIn Q.jobs) p Q.jobs x all_found first in
      (cc (here.0, found), here.1)

  -- the first job that the test picks is changed, and none that the test picks is busy at the other member
  pub first_job_keeps : (p : Job → Bool) (f : Job → Job) → ((j : Job) → (f j).number ≡ j.number) → ((x : Job) → p x ≡ true → job_at Q x.number ≡ Some x → x.busy ≡ h → ⊥) → none_such refusal.Nothing (find p Q.jobs) ≡ None → AreJobsKept h Q.jobs (change_first p f Q.jobs)
  first_job_keeps p f numbers free none = go (find p Q.jobs) refl none
    where
      go : (o : Option Job) → find p Q.jobs ≡ o → none_such refusal.Nothing o ≡ None → AreJobsKept h Q.jobs (change_first p f Q.jobs)
      go None first none = absurd (cc)
      go (Some x) first none = rw (change-by_number Q.jobs p f x sound.numbers first) (jobs-change h x.number f Q.jobs numbers (λ j found busy.
          let same = selected p x first j found in
          absurd (free x same.1 (rw (← same.0) at found) (rw same.0 busy))))

  pub take_convert_keeps : first_some (take_convert_row Q m).refusals ≡ None → IsBusyKept h Q (take_convert_row Q m).effect
  take_convert_keeps none = record {
    jobs = first_job_keeps (is_for_convert Q) (made_busy m) (λ j. refl) (λ x e found busy. idle x (waits (in_convert x.phase) (not x.fields.held) (is_somebody x.busy) (for_convert_waits Q x e)) busy) (none_first _ _ none).0;
    outputs = outputs_same h Q.outputs;
  }

  pub take_exec_keeps : first_some (take_exec_row Q m).refusals ≡ None → IsBusyKept h Q (take_exec_row Q m).effect
  take_exec_keeps none = record {
    jobs = first_job_keeps (is_for_execute Q m) (made_busy m) (λ j. refl) (λ x e found busy. idle x (waits (in_execute x.phase) (not x.fields.held) (is_somebody x.busy) (for_execute_waits Q m x e)) busy) (none_first _ _ none).0;
    outputs = outputs_same h Q.outputs;
  }

  pub gather_keeps : first_some (gather_row Q).refusals ≡ None → IsBusyKept h Q (gather_row Q).effect
  gather_keeps none = record {
    jobs = first_job_keeps (is_in in_output) (gathered Q) (λ j. refl) (λ x e found busy. resting x.number x found (rests_output x.phase e) busy) (none_first _ _ none).0;
    outputs = outputs_same h Q.outputs;
  }

  purge_jobs : (o : Option Job) → find (is_in in_purge) Q.jobs ≡ o → none_such refusal.Nothing o ≡ None → AreJobsKept h Q.jobs (without_first (is_in in_purge) Q.jobs)
  purge_jobs None first none = absurd (cc)
  purge_jobs (Some x) first none = rw (without-by_number Q.jobs (is_in in_purge) x sound.numbers first) (jobs-without h x.number Q.jobs (λ j found busy.
      let same = selected (is_in in_purge) x first j found in
      resting x.number x (rw (← same.0) at found) (rests_purge x.phase same.1) (rw same.0 busy)))

  pub purge_keeps : first_some (purge_row Q).refusals ≡ None → IsBusyKept h Q (purge_row Q).effect
  purge_keeps none = record {
    jobs = purge_jobs (find (is_in in_purge) Q.jobs) refl (none_first _ _ none).0;
    outputs = outputs_same h Q.outputs;
  }

  -- OUTPUTS THAT ARE SELECTED

  all_keys_found : All (IsKeyFoundIn Q.outputs) Q.outputs
  all_keys_found = key_found_itself Q.outputs sound.keys

  mine_not_theirs : (o : Output) → same_member o.busy m ≡ true → o.busy ≡ h → ⊥
  mine_not_theirs o mine busy = let theirs = rw busy at mine in cc

  idle_output : (o : Output) → is_somebody o.busy ≡ false → o.busy ≡ h → ⊥
  idle_output o none busy = let w = rw busy at none in cc

  -- the first output that the test picks is changed, and it isn't busy at the other member
  pub first_output_keeps : (p : Output → Bool) (f : Output → Output) → ((n : JobNo) (i : OutNo) (o : Output) → has_key n i (f o) ≡ has_key n i o) → ((x : Output) → find p Q.outputs ≡ Some x → p x ≡ true → x.busy ≡ h → ⊥) → AreOutputsKept h Q.outputs (change_first p f Q.outputs)
  first_output_keeps p f keys free = go (find p Q.outputs) refl
    where
      go : (o : Option Output) → find p Q.outputs ≡ o → AreOutputsKept h Q.outputs (change_first p f Q.outputs)
      go None first = rw (change_first-none p f Q.outputs first) (outputs_same h Q.outputs)
      go (Some x) first = rw (change-by_key Q.outputs p f x sound.keys first) (outputs-change h x.job x.index f Q.outputs keys (λ o found busy.
          let here = find-All (IsKeyFoundIn Q.outputs) p Q.outputs x all_keys_found first in
          let same : x ≡ o = cc (here.0, found) in
          absurd (free x first here.1 (rw same busy))))

  at_output : (n : JobNo) (i : OutNo) → output_not_at m (output_at Q n i) ≡ None → (x : Output) → output_at Q n i ≡ Some x → x.busy ≡ h → ⊥
  at_output n i none x found = mine_not_theirs x (at_member_output m x (rw found at none))

  pub pick_keeps : IsBusyKept h Q (pick_row Q m).effect
  pick_keeps = record {
    jobs = jobs_same h Q.jobs;
    outputs = first_output_keeps (is_for_printer Q m) (picked_by m) (λ n i o. refl) (λ x first e. idle_output x (fits_idle _ _ _ _ _ (for_printer_waits Q m x e)));
  }

  pub mark_keeps : (n : JobNo) (i : OutNo) (at : ℕ) → first_some (mark_row Q m n i at).refusals ≡ None → IsBusyKept h Q (mark_row Q m n i at).effect
  mark_keeps n i at none = record {
    jobs = jobs_same h Q.jobs;
    outputs = first_output_keeps (has_key n i) (marked (λ o. min at (total o))) (λ n i o. refl) (λ x first e. at_output n i (second_none _ _ _ none) x first);
  }

  -- the output that is busy at the commanding member gets a mark
  pub own_mark_keeps : (refusals : List (Option Refusal)) (mark : Output → ℕ) → IsBusyKept h Q (marked_row Q refusals (prints_at m) mark).effect
  own_mark_keeps refusals mark = record {
    jobs = jobs_same h Q.jobs;
    outputs = first_output_keeps (prints_at m) (marked mark) (λ n i o. refl) (λ x first e. mine_not_theirs x e);
  }

  -- an output goes
  over_number : (Q' : Queue) (j : Job) → (outputs_over Q' j).number ≡ j.number
  over_number Q' j =
      test_cases (in_hardcopy j.phase && not (has_output j.number Q')) ((outputs_over Q' j).number ≡ j.number) (λ e. rw e refl) (λ e. rw e refl)

  over_keeps : (Q' : Queue) (n : JobNo) (j : Job) → job_at Q n ≡ Some j → j.busy ≡ h → IsJobKept h j (outputs_over Q' j)
  over_keeps Q' n j found busy =
      test_cases (in_hardcopy j.phase && not (has_output j.number Q')) (IsJobKept h j (outputs_over Q' j))
      (λ e. absurd (resting n j found (rests_hardcopy j.phase (both_first (in_hardcopy j.phase) (not (has_output j.number Q')) e)) busy))
      (λ e. rw e (job_itself h j busy))

  pub gone_keeps : (n : JobNo) (i : OutNo) → ((o : Output) → output_at Q n i ≡ Some o → o.busy ≡ h → ⊥) → IsBusyKept h Q (output_gone n i Q)
  gone_keeps n i free = record {
    jobs = jobs-change h n (outputs_over (output_removed n i Q)) Q.jobs (over_number (output_removed n i Q)) (over_keeps (output_removed n i Q) n);
    outputs = outputs-without_first h n i Q.outputs free;
  }

  pub done_keeps_busy : (n : JobNo) (i : OutNo) → first_some (done_row Q m n i).refusals ≡ None → IsBusyKept h Q (done_row Q m n i).effect
  done_keeps_busy n i none =
      gone_keeps n i (at_output n i (second_none _ _ _ none))

  elsewhere_free : (n : JobNo) (i : OutNo) → output_elsewhere m (output_at Q n i) ≡ None → (o : Output) → output_at Q n i ≡ Some o → o.busy ≡ h → ⊥
  elsewhere_free n i none o found = not_elsewhere m h o (rw found at none) somebody other

  pub cancel_out_keeps : (n : JobNo) (i : OutNo) → first_some (cancel_out_row Q m n i).refusals ≡ None → IsBusyKept h Q (cancel_out_row Q m n i).effect
  cancel_out_keeps n i none = gone_keeps n i (elsewhere_free n i (second_none _ _ _ none))

  pub set_out_keeps : (n : JobNo) (i : OutNo) (class : Class) → IsBusyKept h Q (set_out_row Q m n i class).effect
  set_out_keeps n i class = record {
    jobs = jobs_same h Q.jobs;
    outputs = outputs-change h n i _ Q.outputs (λ n i o. refl) (λ o found busy. record { busy = busy; mark = refl; text = refl; copies = refl });
  }

  -- OPERATOR

  pub job_row_keeps : (n : JobNo) (f : Job → Job) → ((j : Job) → (f j).number ≡ j.number) → ((j : Job) → j.busy ≡ h → IsJobKept h j (f j)) → IsBusyKept h Q (change_job n f Q)
  job_row_keeps n f numbers keeps = record {
    jobs = jobs-change h n f Q.jobs numbers (λ j found busy. keeps j busy);
    outputs = outputs_same h Q.outputs;
  }

  plainly : (f : Job → Job) → ((j : Job) → (f j).busy ≡ j.busy) → ((j : Job) → (f j).phase ≡ j.phase) → ((j : Job) → (f j).text ≡ j.text) → (j : Job) → j.busy ≡ h → IsJobKept h j (f j)
  plainly f busies phases texts j busy = record { busy = busies j ∙ busy; phase = phases j; text = texts j }

  pub held_keeps : (n : JobNo) (held : Bool) → IsBusyKept h Q (held_row Q n held).effect
  held_keeps n held = job_row_keeps n (with_held held) (λ j. refl) (plainly (with_held held) (λ j. refl) (λ j. refl) (λ j. refl))

  pub set_prio_keeps : (n : JobNo) (prio : Prio) → IsBusyKept h Q (set_prio_row Q n prio).effect
  set_prio_keeps n prio = job_row_keeps n (with_prio prio) (λ j. refl) (plainly (with_prio prio) (λ j. refl) (λ j. refl) (λ j. refl))

  pub set_class_keeps : (n : JobNo) (class : Class) → IsBusyKept h Q (set_class_row Q n class).effect
  set_class_keeps n class = job_row_keeps n (with_class class) (λ j. refl) (plainly (with_class class) (λ j. refl) (λ j. refl) (λ j. refl))

  pub out_keeps : (n : JobNo) → IsBusyKept h Q (out_row Q n).effect
  out_keeps n = record {
    jobs = jobs_same h Q.jobs;
    outputs = outputs-map h (λ o. if is_held_of n o then released o else o) Q.outputs released_key released_kept;
  }
    where
      released_key : (k : JobNo) (i : OutNo) (o : Output) → has_key k i (if is_held_of n o then released o else o) ≡ has_key k i o
      released_key k i o = test_cases (is_held_of n o) (has_key k i (if is_held_of n o then released o else o) ≡ has_key k i o) (λ e. rw e refl) (λ e. rw e refl)

      released_kept : (o : Output) → o.busy ≡ h → IsOutputKept h o (if is_held_of n o then released o else o)
      released_kept o busy = test_cases (is_held_of n o) (IsOutputKept h o (if is_held_of n o then released o else o)) (λ e. rw e (record { busy = busy; mark = refl; text = refl; copies = refl })) (λ e. rw e (record { busy = busy; mark = refl; text = refl; copies = refl }))

  -- RESET

  pub reset_keeps : (picks : MemberId → Bool) → picks h ≡ false → IsBusyKept h Q (reset picks Q)
  reset_keeps picks not_h = record {
    jobs = jobs-map h (λ j. if picks j.busy then reset_job j else j) Q.jobs
        (λ j. test_cases (picks j.busy) ((if picks j.busy then reset_job j else j).number ≡ j.number) (λ e. rw e refl) (λ e. rw e refl))
        (λ j busy. let kept : picks j.busy ≡ false = rw busy not_h in rw kept (job_itself h j busy));
    outputs = outputs-map h (λ o. if picks o.busy then reset_output o else o) Q.outputs
        (λ k i o. test_cases (picks o.busy) (has_key k i (if picks o.busy then reset_output o else o) ≡ has_key k i o) (λ e. rw e refl) (λ e. rw e refl))
        (λ o busy. let kept : picks o.busy ≡ false = rw busy not_h in rw kept (output_itself h o busy));
  }

  -- CANCEL

  cancelled_number : (j : Job) → (cancelled j).number ≡ j.number
  cancelled_number j = test_cases (is_somebody j.busy) ((cancelled j).number ≡ j.number) (λ e. rw e refl) (λ e. rw e refl)

  cancelled_kept : (j : Job) → j.busy ≡ h → IsJobKept h j (cancelled j)
  cancelled_kept j busy =
      let works : is_somebody j.busy ≡ true = rw busy somebody in
      rw works (record { busy = busy; phase = refl; text = refl })

  -- no output of the job is busy at another than the commanding member
  abbrev elsewhere : JobNo → Output → Bool
  elsewhere n o = is_of n o && is_somebody o.busy && not (same_member o.busy m)

  free_elsewhere : (o : Option Output) (n : JobNo) → find (elsewhere n) Q.outputs ≡ o → output_elsewhere m o ≡ None → All (λ x. elsewhere n x ≡ false) Q.outputs
  free_elsewhere None n found none = find_none (elsewhere n) Q.outputs found
  free_elsewhere (Some x) n found none =
      let here = (find-All (λ _. Unit {0}) (elsewhere n) Q.outputs x (λ k d lt. tt) found).1 in
      absurd (refused_elsewhere (is_of n x) m x here none)

  outputs_cancelled : (n : JobNo) → All (λ x. elsewhere n x ≡ false) Q.outputs → AreOutputsKept h Q.outputs (without (is_of n) Q.outputs)
  outputs_cancelled n free k i o found busy =
      elim (eqb_tells o.job.0 n.0) [
        | inl w ↦
            let at_o = (find-All (λ x. elsewhere n x ≡ false) (has_key k i) Q.outputs o free found).0 in
            let theirs : same_member o.busy m ≡ false = rw busy other in
            let works : is_somebody o.busy ≡ true = rw busy somebody in
            absurd (let e = rw (w.0, works, theirs) at at_o in cc)
        | inr w ↦
            let here = (find-All (λ x. has_key k i x ≡ has_key k i x) (has_key k i) Q.outputs o (λ j d lt. refl) found).1 in
            (o, find-without (has_key k i) (is_of n) Q.outputs (other_job k i n o w.1 here) ∙ found, output_itself h o busy)
      ]

  pub cancel_busy : (n : JobNo) (j : Job) → IsBusyKept h Q (change_job n cancelled Q)
  cancel_busy n j = record {
    jobs = jobs-change h n cancelled Q.jobs cancelled_number (λ j found busy. cancelled_kept j busy);
    outputs = outputs_same h Q.outputs;
  }

  pub cancel_keeps : (n : JobNo) → first_some (cancel_row Q m n).refusals ≡ None → IsBusyKept h Q (cancel_row Q m n).effect
  cancel_keeps n none =
      let free = free_elsewhere (printing_elsewhere Q m n) n refl (third_none _ _ _ _ none) in
      test_cases (is_busy (job_at Q n)) (IsBusyKept h Q (cancel_row Q m n).effect)
      (λ e. rw e (record {
        jobs = jobs-change h n cancelled Q.jobs cancelled_number (λ j found busy. cancelled_kept j busy);
        outputs = outputs_same h Q.outputs;
      }))
      (λ e. rw e (record {
        jobs = jobs-change h n cancelled Q.jobs cancelled_number (λ j found busy. cancelled_kept j busy);
        outputs = outputs_cancelled n free;
      }))

  -- LINES

  pub load_keeps : (l : ℕ) → IsBusyKept h Q (load_row Q l).effect
  load_keeps l = record { jobs = jobs_same h Q.jobs; outputs = outputs_same h Q.outputs }

  pub sent_keeps : (l number : ℕ) → first_some (sent_row Q l number).refusals ≡ None → IsBusyKept h Q (sent_row Q l number).effect
  sent_keeps l number none = record {
    jobs = first_job_keeps (is_current_on Q l) (λ j. record j { phase = phase.Purge }) (λ j. refl)
        (λ x e found busy. resting x.number x found (rests_xmit x.phase (current_is_sent Q l x e)) busy) (third_none _ _ _ _ none);
    outputs = outputs_same h Q.outputs;
  }

  pub got_keeps : (l number : ℕ) (n : JobNo) (text : List (List ℕ)) → first_some (got_row Q m l number n text).refusals ≡ None → IsBusyKept h Q (got_row Q m l number n text).effect
  got_keeps l number n text none = record {
    jobs = jobs-change h n _ Q.jobs (λ j. refl) (λ j found busy. absurd (guarded n (third_none _ _ _ _ (after_two (again (got_on Q l) number) (gap (got_on Q l) number) (not_entered Q m n text) none)) j found busy));
    outputs = outputs_same h Q.outputs;
  }

-- EVERY COMMAND

effect_keeps : (Q : Queue) (m h : MemberId) → IsSound Q → is_somebody h ≡ true → same_member h m ≡ false → (c : Command) → resets h c ≡ false → first_some (row_of Q m c).refusals ≡ None → IsBusyKept h Q (row_of Q m c).effect
effect_keeps Q m h s y o (command.Begin fields) r n = begin_keeps Q m h s y o fields
effect_keeps Q m h s y o (command.Take want) r n = take_keeps Q m h s y o want
effect_keeps Q m h s y o (command.Drop job) r n = drop_keeps Q m h s y o job n
effect_keeps Q m h s y o (command.Enter job text) r n = enter_keeps Q m h s y o job text n
effect_keeps Q m h s y o command.TakeConvert r n = take_convert_keeps Q m h s y o n
effect_keeps Q m h s y o (command.Converted job) r n = converted_keeps Q m h s y o job n
effect_keeps Q m h s y o command.TakeExec r n = take_exec_keeps Q m h s y o n
effect_keeps Q m h s y o (command.Ended job specs) r n = ended_keeps Q m h s y o job specs n
effect_keeps Q m h s y o command.Gather r n = gather_keeps Q m h s y o n
effect_keeps Q m h s y o command.Pick r n = pick_keeps Q m h s y o
effect_keeps Q m h s y o (command.Mark job index at) r n = mark_keeps Q m h s y o job index at n
effect_keeps Q m h s y o (command.Done job index) r n = done_keeps_busy Q m h s y o job index n
effect_keeps Q m h s y o command.Purge r n = purge_keeps Q m h s y o n
effect_keeps Q m h s y o (command.Hold job) r n = held_keeps Q m h s y o job true
effect_keeps Q m h s y o (command.Release job) r n = held_keeps Q m h s y o job false
effect_keeps Q m h s y o (command.Cancel job) r n = cancel_keeps Q m h s y o job n
effect_keeps Q m h s y o (command.SetPrio job prio) r n = set_prio_keeps Q m h s y o job prio
effect_keeps Q m h s y o (command.SetClass job class) r n = set_class_keeps Q m h s y o job class
effect_keeps Q m h s y o (command.Out job) r n = out_keeps Q m h s y o job
effect_keeps Q m h s y o (command.CancelOut job index) r n = cancel_out_keeps Q m h s y o job index n
effect_keeps Q m h s y o (command.SetOut job index class) r n = set_out_keeps Q m h s y o job index class
effect_keeps Q m h s y o (command.Show what) r n = untouched Q m h s y o
effect_keeps Q m h s y o (command.SetInit classes) r n = record { jobs = jobs_same h Q.jobs; outputs = outputs_same h Q.outputs }
effect_keeps Q m h s y o (command.SetPrt classes forms lines) r n = record { jobs = jobs_same h Q.jobs; outputs = outputs_same h Q.outputs }
effect_keeps Q m h s y o (command.Back lines) r n = own_mark_keeps Q m h s y o (none_printing Q m) (λ o. o.mark - lines)
effect_keeps Q m h s y o (command.Forward lines) r n = own_mark_keeps Q m h s y o (none_printing Q m) (λ o. min (o.mark + lines) (total o))
effect_keeps Q m h s y o (command.Reset of_member) r n = reset_keeps Q m h s y o (λ g. same_member g of_member) r
effect_keeps Q m h s y o command.Restart r n = absurd (cc)
effect_keeps Q m h s y o (command.Load line) r n = load_keeps Q m h s y o line
effect_keeps Q m h s y o (command.Sent line number) r n = sent_keeps Q m h s y o line number n
effect_keeps Q m h s y o (command.Got line number job text) r n = got_keeps Q m h s y o line number job text n

pub keeps_busy : KeepsBusy
keeps_busy Q m h c sound somebody other no_reset = done_keeps Q (row_of Q m c) (IsBusyKept h Q) (untouched Q m h sound somebody other) (effect_keeps Q m h sound somebody other c no_reset)
