-- What a command counts for, and the jobs and marks that it leaves.
use Rattle.std.proofs.Common.{◌≡◌, ⊎_elim, ℕ, ◌+◌, ◌-◌, ◌==◌, Bool, true, false, if◌then◌else◌, ◌&&◌, cond, List, [], ◌∷◌, length, length-append, Option, Some, None, refl, sym, ◌∙◌, ap, subst, arith}
use Rattle.std.specs.Option.{option_map_or}
use Rattle.std.specs.List.{find}
use Rattle.std.proofs.lemmas.Bool.{eq-eqb}
use Rattle.std.proofs.lemmas.Bool.Decides.{nat_tests}
use Rattle.std.proofs.lemmas.List.{length-map}
use Rattle.mas_types.specs.declared.commands.Command.{Command}
use Rattle.mas_types.specs.declared.commands.Command.TheVariants as command
use Rattle.mas_types.specs.declared.commands.Refusal.{Refusal}
use Rattle.mas_types.specs.declared.commands.Refusal.TheVariants as refusal
use Rattle.mas_types.specs.declared.commands.Reply.{Reply}
use Rattle.mas_types.specs.declared.commands.Reply.TheVariants as reply
use Rattle.mas_types.specs.declared.ids.JobNo.{JobNo}
use Rattle.mas_types.specs.declared.ids.MemberId.{MemberId}
use Rattle.mas_types.specs.declared.ids.OutNo.{OutNo}
use Rattle.mas_types.specs.declared.jobs.Job.{Job}
use Rattle.mas_types.specs.declared.jobs.Output.{Output}
use Rattle.mas_types.specs.declared.jobs.Phase.{Phase}
use Rattle.mas_types.specs.declared.jobs.Phase.TheVariants as phase
use Rattle.mas_types.specs.declared.queues.Queue.{Queue}
use Rattle.mas_types.specs.Commands.Input.{new_job, not_in_input}
use Rattle.mas_types.specs.Commands.Life.{converted, ended, gathered, made_busy, runs}
use Rattle.mas_types.specs.Commands.Operator.{cancelled, is_busy, with_class, with_held, with_prio}
use Rattle.mas_types.specs.Commands.Printing.{output_removed, outputs_over}
use Rattle.mas_types.specs.Ids.{same_index, same_number}
use Rattle.mas_types.specs.Lists.{change_first, first_some, without_first}
use Rattle.mas_types.specs.Number.{next_number}
use Rattle.mas_types.specs.Queue.{first_in, has_key, has_number, in_output, in_purge, is_current_on, is_in, is_of, job_at, output_at}
use Rattle.mas_types.specs.Row.{none_such, settled}
use Rattle.mas_types.specs.Selection.{is_for_convert, is_for_execute}
use Rattle.mas_types.specs.Sound.{IsSound, IsSoundOutput, may_have_outputs}
use Rattle.mas_types.specs.Step.{row_of, step}
use Rattle.queue_laws.specs.Laws.{is_refusal as is_no}
use Rattle.queue_laws.specs.Marks.{FollowsAt, MayMake, MayMark, OutputComes, OutputFollows}
use Rattle.queue_laws.proofs.Done.{none_first, not_refused as never_refused}
use Rattle.queue_laws.proofs.Finds.{find-All, test_cases}
use Rattle.queue_laws.proofs.Kept.{key_cases}
use Rattle.queue_laws.proofs.MarksFollow.{mark_is_at_most, marks_follow}
use Rattle.queue_laws.proofs.Others.{second_none}
use Rattle.queue_laws.proofs.Refused.{answers, refused_changes_nothing}
use Rattle.queue_laws.proofs.Soundness.{length-change}
use Rattle.queue_laws.proofs.SoundJobs.{in_phase_of}
use Rattle.gen_work.specs.declared.summaries.Counted.{Counted}
use Rattle.gen_work.specs.declared.summaries.Counted.TheVariants as counted
use Rattle.gen_work.specs.Summaries.{count_in, counted_as, dropped, is_begun, is_gone, is_refusal, mark_after, mark_then, printed_by}
use Rattle.script_generated.specs.Sums.{lines_in, sets_mark}

-- what a command counts for that was answered so
abbrev pub counted_if : Reply → Command → Option Counted
counted_if r c = if is_refusal r then None else counted_as c (count_in r)

same_refusal : (r : Reply) → is_refusal r ≡ is_no r
same_refusal (reply.No why) = refl
same_refusal reply.Plain = refl
same_refusal (reply.Job n) = refl
same_refusal (reply.Output n i) = refl
same_refusal (reply.Count n) = refl
same_refusal (reply.Shown lines) = refl

not_refused : (Q : Queue) (m : MemberId) (c : Command) → is_refusal (row_of Q m c).answer ≡ false
not_refused Q m c = same_refusal (row_of Q m c).answer ∙ answers Q m c

-- a row that isn't refused counts for its command
counted_row : (Q : Queue) (m : MemberId) (c : Command) → counted_if (row_of Q m c).answer c ≡ counted_as c (count_in (row_of Q m c).answer)
counted_row Q m c = ap (λ (v : Bool). if v then None else counted_as c (count_in (row_of Q m c).answer)) (not_refused Q m c)

-- by whether the row is refused
pub by_row : (Q : Queue) (m : MemberId) (c : Command) (P : Queue → Reply → Type 0) → ((why : Refusal) → P Q (reply.No why)) → (first_some (row_of Q m c).refusals ≡ None → P (row_of Q m c).effect (row_of Q m c).answer)
    → P (step Q m c).0 (step Q m c).1
by_row Q m c P refused taken = go (first_some (row_of Q m c).refusals) refl where
  go : (o : Option Refusal) → first_some (row_of Q m c).refusals ≡ o → P (settled Q (row_of Q m c).effect (row_of Q m c).answer o).0 (settled Q (row_of Q m c).effect (row_of Q m c).answer o).1
  go None e = taken e
  go (Some why) e = refused why

-- JOBS

abbrev pub one_if : (Counted → Bool) → Option Counted → ℕ
one_if p None = 0
one_if p (Some x) = cond (p x) 1 0

some_found : {A : Type 0} (why : Refusal) (o : Option A) → none_such why o ≡ None → (x : A) × (o ≡ Some x)
some_found why None e = absurd (cc)
some_found why (Some x) e = (x, refl)

length_without : (p : Job → Bool) (js : List Job) (x : Job) → find p js ≡ Some x → length (without_first p js) + 1 ≡ length js
length_without p [] x h = absurd (cc)
length_without p (j ∷ js) x h =
    test_cases (p j) (length (without_first p (j ∷ js)) + 1 ≡ length (j ∷ js))
    (λ e. rw e (omega arith))
    (λ e. rw e (omega (arith, length_without p js x (rw e at h))))

module _ (Q : Queue) (m : MemberId) where
  changed : (p : Job → Bool) (f : Job → Job) → length (change_first p f Q.jobs) + 0 ≡ length Q.jobs + 0
  changed p f = ap (λ (k : ℕ). k + 0) (length-change p f Q.jobs)

  jobs_effect : (c : Command) → first_some (row_of Q m c).refusals ≡ None → (n : ℕ) → length (row_of Q m c).effect.jobs + one_if is_gone (counted_as c n) ≡ length Q.jobs + one_if is_begun (counted_as c n)
  jobs_effect (command.Begin fields) e n = let more = length-append Q.jobs (new_job m (next_number Q.jobs Q.last) fields ∷ []) in omega (arith, more)
  jobs_effect (command.Take want) e n = refl
  jobs_effect (command.Drop job) e n =
      test_cases (job.0 == 0) (length (row_of Q m (command.Drop job)).effect.jobs + one_if is_gone (dropped job) ≡ length Q.jobs + one_if is_begun (dropped job))
      (λ t. rw t refl)
      (λ t.
      let none : first_some (not_in_input Q m job) ≡ None = rw t at e in
      let found = some_found refusal.NoJob (job_at Q job) (none_first _ _ none).0 in
      let less = length_without (has_number job) Q.jobs found.0 found.1 in
      rw t (omega (arith, less)))
  jobs_effect (command.Enter job text) e n = changed (has_number job) _
  jobs_effect command.TakeConvert e n = changed (is_for_convert Q) (made_busy m)
  jobs_effect (command.Converted job) e n = changed (has_number job) converted
  jobs_effect command.TakeExec e n = changed (is_for_execute Q m) (made_busy m)
  jobs_effect (command.Ended job specs) e n = changed (has_number job) ended
  jobs_effect command.Gather e n = changed (is_in in_output) (gathered Q)
  jobs_effect command.Pick e n = refl
  jobs_effect (command.Mark job index at) e n = refl
  jobs_effect (command.Done job index) e n = changed (has_number job) (outputs_over (output_removed job index Q))
  jobs_effect command.Purge e n =
      let found = some_found refusal.Nothing (first_in in_purge Q) (none_first _ _ e).0 in
      let less = length_without (is_in in_purge) Q.jobs found.0 found.1 in
      omega (arith, less)
  jobs_effect (command.Hold job) e n = changed (has_number job) (with_held true)
  jobs_effect (command.Release job) e n = changed (has_number job) (with_held false)
  jobs_effect (command.Cancel job) e n =
      test_cases (is_busy (job_at Q job)) (length (row_of Q m (command.Cancel job)).effect.jobs + 0 ≡ length Q.jobs + 0)
      (λ t. rw t (changed (has_number job) cancelled)) (λ t. rw t (changed (has_number job) cancelled))
  jobs_effect (command.SetPrio job prio) e n = changed (has_number job) (with_prio prio)
  jobs_effect (command.SetClass job class) e n = changed (has_number job) (with_class class)
  jobs_effect (command.Out job) e n = refl
  jobs_effect (command.CancelOut job index) e n = changed (has_number job) (outputs_over (output_removed job index Q))
  jobs_effect (command.SetOut job index class) e n = refl
  jobs_effect (command.Show what) e n = refl
  jobs_effect (command.SetInit classes) e n = refl
  jobs_effect (command.SetPrt classes forms lines) e n = refl
  jobs_effect (command.Back lines) e n = refl
  jobs_effect (command.Forward lines) e n = refl
  jobs_effect (command.Reset of_member) e n = ap (λ (k : ℕ). k + 0) (length-map Q.jobs _)
  jobs_effect command.Restart e n = ap (λ (k : ℕ). k + 0) (length-map Q.jobs _)
  jobs_effect (command.Load line) e n = refl
  jobs_effect (command.Sent line number) e n = changed (is_current_on Q line) _
  jobs_effect (command.Got line number job text) e n = changed (has_number job) _

  pub jobs_step : (c : Command) → length (step Q m c).0.jobs + one_if is_gone (counted_if (step Q m c).1 c) ≡ length Q.jobs + one_if is_begun (counted_if (step Q m c).1 c)
  jobs_step c = by_row Q m c (λ R r. length R.jobs + one_if is_gone (counted_if r c) ≡ length Q.jobs + one_if is_begun (counted_if r c))
      (λ why. refl)
      (λ e. subst (λ (o : Option Counted). length (row_of Q m c).effect.jobs + one_if is_gone o ≡ length Q.jobs + one_if is_begun o) (sym (counted_row Q m c)) (jobs_effect c e (count_in (row_of Q m c).answer)))

-- MARKS

abbrev pub mark_if : JobNo → OutNo → ℕ → Option Counted → ℕ
mark_if n i mark None = mark
mark_if n i mark (Some x) = mark_then n i mark x

drop_leaves : (n : JobNo) (i : OutNo) (mark : ℕ) (job : JobNo) → mark_if n i mark (dropped job) ≡ mark
drop_leaves n i mark job = by_test (job.0 == 0) where
  by_test : (v : Bool) → mark_if n i mark (if v then None else Some counted.Gone) ≡ mark
  by_test true = refl
  by_test false = refl

found_passes : (p : Output → Bool) (os : List Output) (x : Output) → find p os ≡ Some x → p x ≡ true
found_passes p os x found = (find-All (λ (o : Output). Unit {0}) p os x (λ k d lt. tt) found).1

same_found : (n k : JobNo) (i l : OutNo) (os : List Output) → n.0 ≡ k.0 → i.0 ≡ l.0 → find (has_key n i) os ≡ find (has_key k l) os
same_found n k i l os one two = rw (one, two) refl

apart_keys : (n k : JobNo) (i l : OutNo) (o : Output) → has_key n i o ≡ true → has_key k l o ≡ false → (same_number k n && same_index l i) ≡ false
apart_keys n k i l o here there = grind (arith, nat_tests)

of_key : (n k : JobNo) (i : OutNo) (o : Output) → has_key n i o ≡ true → is_of k o ≡ true → same_number k n ≡ true
of_key n k i o here there = grind (arith, nat_tests)

key_of : (n k : JobNo) (i : OutNo) (o : Output) → has_key n i o ≡ true → same_number k n ≡ true → o.job.0 ≡ k.0
key_of n k i o here there = grind (arith, nat_tests)

no : (v : Bool) → v ≡ true → v ≡ false → ⊥
no v p q = absurd (cc)

none_runs : (p : Phase) → runs p ≡ true → may_have_outputs p ≡ true → ⊥
none_runs phase.Convert h k = absurd (cc)
none_runs phase.Execute h k = absurd (cc)
none_runs phase.Input h k = absurd (cc)
none_runs phase.Output h k = absurd (cc)
none_runs phase.Hardcopy h k = absurd (cc)
none_runs phase.Purge h k = absurd (cc)
none_runs phase.Xmit h k = absurd (cc)

-- a job that ends has no outputs
none_before : (Q : Queue) (n k : JobNo) (i : OutNo) (x : Job) (old : Output) → IsSound Q → job_at Q k ≡ Some x → runs x.phase ≡ true → output_at Q n i ≡ Some old → same_number k n ≡ true → ⊥
none_before Q n k i x old sound found ran at same =
    let is = find-All (IsSoundOutput Q.config Q.jobs) (has_key n i) Q.outputs old sound.outputs at in
    let job : old.job.0 ≡ k.0 = key_of n k i old is.1 same in
    let there : option_map_or (λ (j : Job). may_have_outputs j.phase) (find (λ (j : Job). j.number.0 == k.0) Q.jobs) false ≡ true =
    subst (λ (v : ℕ). option_map_or (λ (j : Job). may_have_outputs j.phase) (find (λ (j : Job). j.number.0 == v) Q.jobs) false ≡ true) job is.0.job in
    let may : may_have_outputs x.phase ≡ true = sym (ap (λ (o : Option Job). option_map_or (λ (j : Job). may_have_outputs j.phase) o false) found) ∙ there in
    none_runs x.phase ran may

-- the marks of a queue's outputs are those that were counted
abbrev pub AreMarked : Queue → List Counted → Type 0
AreMarked Q before = (n : JobNo) (i : OutNo) (o : Output) → output_at Q n i ≡ Some o → o.mark ≡ mark_after n i 0 before

module _ (Q : Queue) (m : MemberId) (sound : IsSound Q) (before : List Counted) (marked : AreMarked Q before) (n : JobNo) (i : OutNo) (new : Output) where
  abbrev is : ℕ
  is = mark_after n i 0 before

  by_was : (c : Command) (R : Type 0) → (OutputComes c new → R) → ((old : Output) → output_at Q n i ≡ Some old → OutputFollows m c old new → R) → output_at (step Q m c).0 n i ≡ Some new → R
  by_was c R comes follows there = go (output_at Q n i) refl (subst (λ (o : Option Output). FollowsAt m c (output_at Q n i) o) there (marks_follow Q m c sound n i)) where
    go : (was : Option Output) → output_at Q n i ≡ was → FollowsAt m c (output_at Q n i) (Some new) → R
    go None e f = comes (subst (λ (o : Option Output). FollowsAt m c o (Some new)) e f)
    go (Some old) e f = follows old e (subst (λ (o : Option Output). FollowsAt m c o (Some new)) e f)

  -- a command that neither makes outputs nor marks them
  plain : (c : Command) → (OutputComes c new → ⊥) → ((old : Output) → OutputFollows m c old new → new.mark ≡ old.mark) → output_at (step Q m c).0 n i ≡ Some new → new.mark ≡ is
  plain c comes follows there = by_was c (new.mark ≡ is) (λ x. absurd (comes x)) (λ old at f. follows old f ∙ marked n i old at) there

  marks_mark : (k : JobNo) (l : OutNo) (at : ℕ) → is_no (step Q m (command.Mark k l at)).1 ≡ false → output_at (step Q m (command.Mark k l at)).0 n i ≡ Some new
      → new.mark ≡ (if same_number k n && same_index l i then count_in (step Q m (command.Mark k l at)).1 else is)
  marks_mark k l at taken there =
      let c = command.Mark k l at in
      let most = mark_is_at_most Q m k l at taken in
      let here : has_key n i new ≡ true = found_passes (has_key n i) (step Q m c).0.outputs new there in
      ⊎_elim
      (λ same.
      let other : output_at (step Q m c).0 n i ≡ Some most.0 = same_found n k i l (step Q m c).0.outputs same.0 same.1 ∙ most.1 in
      let alike : new ≡ most.0 = cc in
      let count : count_in (step Q m c).1 ≡ most.0.mark = ap count_in most.3 in
      rw (eq-eqb k.0 n.0 (sym same.0), eq-eqb l.0 i.0 (sym same.1)) (ap (λ (o : Output). o.mark) alike ∙ sym count))
      (λ apart. rw (apart_keys n k i l new here (apart new here))
      (by_was c (new.mark ≡ is) (λ x. absurd x.made)
      (λ old was f. ⊎_elim (λ kept. kept ∙ marked n i old was) (λ moved. absurd (no (has_key k l old) moved.1.0 (apart old (found_passes (has_key n i) Q.outputs old was)))) f.mark) there))
      (key_cases n k i l)

  marks_ended : (k : JobNo) (specs : _) → (x : Job) → job_at Q k ≡ Some x → runs x.phase ≡ true → output_at (step Q m (command.Ended k specs)).0 n i ≡ Some new
      → new.mark ≡ (if same_number k n then 0 else is)
  marks_ended k specs x found ran there =
      let c = command.Ended k specs in
      let here : has_key n i new ≡ true = found_passes (has_key n i) (step Q m c).0.outputs new there in
      test_cases (same_number k n) (new.mark ≡ (if same_number k n then 0 else is))
      (λ t. rw t (by_was c (new.mark ≡ 0) (λ y. y.mark) (λ old was f. absurd (none_before Q n k i x old sound found ran was t)) there))
      (λ t. rw t (by_was c (new.mark ≡ is) (λ y. absurd (no (same_number k n) (of_key n k i new here y.made) t)) (λ old was f. ⊎_elim (λ kept. kept ∙ marked n i old was) (λ moved. absurd moved.1) f.mark) there))

  -- a command that neither makes outputs nor moves marks
  plainly : (c : Command) → (MayMake c new → ⊥) → ((old : Output) → MayMark c old new → ⊥) → output_at (step Q m c).0 n i ≡ Some new → new.mark ≡ is
  plainly c makes moves there = plain c (λ x. makes x.made) (λ old f. ⊎_elim (λ kept. kept) (λ moved. absurd (moves old moved.1)) f.mark) there

  taken_marks : (c : Command) → sets_mark c ≡ false → is_no (step Q m c).1 ≡ false → output_at (step Q m c).0 n i ≡ Some new → new.mark ≡ mark_if n i is (counted_as c (count_in (step Q m c).1))
  taken_marks (command.Begin fields) set taken there = plainly (command.Begin fields) (λ h. h) (λ old h. h) there
  taken_marks (command.Take want) set taken there = plainly (command.Take want) (λ h. h) (λ old h. h) there
  taken_marks (command.Drop job) set taken there = plainly (command.Drop job) (λ h. h) (λ old h. h) there ∙ sym (drop_leaves n i is job)
  taken_marks (command.Enter job text) set taken there = plainly (command.Enter job text) (λ h. h) (λ old h. h) there
  taken_marks command.TakeConvert set taken there = plainly command.TakeConvert (λ h. h) (λ old h. h) there
  taken_marks (command.Converted job) set taken there = plainly (command.Converted job) (λ h. h) (λ old h. h) there
  taken_marks command.TakeExec set taken there = plainly command.TakeExec (λ h. h) (λ old h. h) there
  taken_marks (command.Ended job specs) set taken there =
      let none = never_refused Q (row_of Q m (command.Ended job specs)) taken in
      let found = some_found refusal.NoJob (job_at Q job) (none_first _ _ none).0 in
      let ran = in_phase_of Q job runs (second_none _ _ _ none) found.0 found.1 in
      marks_ended job specs found.0 found.1 ran there
  taken_marks command.Gather set taken there = plainly command.Gather (λ h. h) (λ old h. h) there
  taken_marks command.Pick set taken there = plainly command.Pick (λ h. h) (λ old h. h) there
  taken_marks (command.Mark job index at) set taken there = marks_mark job index at taken there
  taken_marks (command.Done job index) set taken there = plainly (command.Done job index) (λ h. h) (λ old h. h) there
  taken_marks command.Purge set taken there = plainly command.Purge (λ h. h) (λ old h. h) there
  taken_marks (command.Hold job) set taken there = plainly (command.Hold job) (λ h. h) (λ old h. h) there
  taken_marks (command.Release job) set taken there = plainly (command.Release job) (λ h. h) (λ old h. h) there
  taken_marks (command.Cancel job) set taken there = plainly (command.Cancel job) (λ h. h) (λ old h. h) there
  taken_marks (command.SetPrio job prio) set taken there = plainly (command.SetPrio job prio) (λ h. h) (λ old h. h) there
  taken_marks (command.SetClass job class) set taken there = plainly (command.SetClass job class) (λ h. h) (λ old h. h) there
  taken_marks (command.Out job) set taken there = plainly (command.Out job) (λ h. h) (λ old h. h) there
  taken_marks (command.CancelOut job index) set taken there = plainly (command.CancelOut job index) (λ h. h) (λ old h. h) there
  taken_marks (command.SetOut job index class) set taken there = plainly (command.SetOut job index class) (λ h. h) (λ old h. h) there
  taken_marks (command.Show what) set taken there = plainly (command.Show what) (λ h. h) (λ old h. h) there
  taken_marks (command.SetInit classes) set taken there = plainly (command.SetInit classes) (λ h. h) (λ old h. h) there
  taken_marks (command.SetPrt classes forms lines) set taken there = plainly (command.SetPrt classes forms lines) (λ h. h) (λ old h. h) there
  taken_marks (command.Back lines) set taken there = absurd (cc)
  taken_marks (command.Forward lines) set taken there = absurd (cc)
  taken_marks (command.Reset of_member) set taken there = plainly (command.Reset of_member) (λ h. h) (λ old h. h) there
  taken_marks command.Restart set taken there = plainly command.Restart (λ h. h) (λ old h. h) there
  taken_marks (command.Load line) set taken there = plainly (command.Load line) (λ h. h) (λ old h. h) there
  taken_marks (command.Sent line number) set taken there = plainly (command.Sent line number) (λ h. h) (λ old h. h) there
  taken_marks (command.Got line number job text) set taken there = plainly (command.Got line number job text) (λ h. h) (λ old h. h) there

  pub marks_step : (c : Command) → sets_mark c ≡ false → output_at (step Q m c).0 n i ≡ Some new → new.mark ≡ mark_if n i is (counted_if (step Q m c).1 c)
  marks_step c set there =
      test_cases (is_refusal (step Q m c).1) (new.mark ≡ mark_if n i is (counted_if (step Q m c).1 c))
      (λ t.
      let same : (step Q m c).0 ≡ Q = refused_changes_nothing Q m c (sym (same_refusal (step Q m c).1) ∙ t) in
      rw t (marked n i new (ap (λ (R : Queue). output_at R n i) (sym same) ∙ there)))
      (λ t. rw t (taken_marks c set (sym (same_refusal (step Q m c).1) ∙ t) there))

-- LINES

abbrev pub printed_if : List Counted → Option Counted → ℕ
printed_if before None = 0
printed_if before (Some x) = printed_by before x

module _ (Q : Queue) (m : MemberId) (before : List Counted) (marked : AreMarked Q before) where
  drop_prints : (job : JobNo) → lines_in Q (dropped job) ≡ printed_if before (dropped job)
  drop_prints job = by_test (job.0 == 0) where
    by_test : (v : Bool) → lines_in Q (if v then None else Some counted.Gone) ≡ printed_if before (if v then None else Some counted.Gone)
    by_test true = refl
    by_test false = refl

  lines_effect : (c : Command) → first_some (row_of Q m c).refusals ≡ None → (count : ℕ) → lines_in Q (counted_as c count) ≡ printed_if before (counted_as c count)
  lines_effect (command.Begin fields) e count = refl
  lines_effect (command.Take want) e count = refl
  lines_effect (command.Drop job) e count = drop_prints job
  lines_effect (command.Enter job text) e count = refl
  lines_effect command.TakeConvert e count = refl
  lines_effect (command.Converted job) e count = refl
  lines_effect command.TakeExec e count = refl
  lines_effect (command.Ended job specs) e count = refl
  lines_effect command.Gather e count = refl
  lines_effect command.Pick e count = refl
  lines_effect (command.Mark job index at) e count =
      let found = some_found refusal.NoOutput (output_at Q job index) (none_first _ _ e).0 in
      ap (λ (k : ℕ). count - k) (ap (λ (o : Option Output). option_map_or (λ (x : Output). x.mark) o 0) found.1 ∙ marked job index found.0 found.1)
  lines_effect (command.Done job index) e count = refl
  lines_effect command.Purge e count = refl
  lines_effect (command.Hold job) e count = refl
  lines_effect (command.Release job) e count = refl
  lines_effect (command.Cancel job) e count = refl
  lines_effect (command.SetPrio job prio) e count = refl
  lines_effect (command.SetClass job class) e count = refl
  lines_effect (command.Out job) e count = refl
  lines_effect (command.CancelOut job index) e count = refl
  lines_effect (command.SetOut job index class) e count = refl
  lines_effect (command.Show what) e count = refl
  lines_effect (command.SetInit classes) e count = refl
  lines_effect (command.SetPrt classes forms lines) e count = refl
  lines_effect (command.Back lines) e count = refl
  lines_effect (command.Forward lines) e count = refl
  lines_effect (command.Reset of_member) e count = refl
  lines_effect command.Restart e count = refl
  lines_effect (command.Load line) e count = refl
  lines_effect (command.Sent line number) e count = refl
  lines_effect (command.Got line number job text) e count = refl

  pub lines_step : (c : Command) → lines_in Q (counted_if (step Q m c).1 c) ≡ printed_if before (counted_if (step Q m c).1 c)
  lines_step c = by_row Q m c (λ R r. lines_in Q (counted_if r c) ≡ printed_if before (counted_if r c))
      (λ why. refl)
      (λ e. subst (λ (o : Option Counted). lines_in Q o ≡ printed_if before o) (sym (counted_row Q m c)) (lines_effect c e (count_in (row_of Q m c).answer)))
