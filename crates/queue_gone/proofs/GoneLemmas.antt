-- A command gives a text its lines, or leaves it gone with the group with which it was.
use Rattle.queue_gone.specs.Gone.{IsGoneAs, brings_by, brings_job, brings_outputs, gone_at, gone_in, gone_output_in, gone_with, text_at}
use Rattle.mas_types.specs.Commands.Input.{begin_row, drop_row, new_job, phase_entered}
use Rattle.mas_types.specs.Commands.Life.{converted, ended, ended_row, gathered, made_busy, new_output, new_outputs, outputs_at_end, runs}
use Rattle.mas_types.specs.Commands.Operator.{cancel_row, cancelled, is_busy, with_class, with_held, with_prio}
use Rattle.mas_types.specs.Commands.Printing.{output_removed, outputs_over}
use Rattle.mas_types.specs.Fit.{AreDistinct, IsConfig}
use Rattle.mas_types.specs.Ids.{is_somebody, nobody, same_member, same_number}
use Rattle.mas_types.specs.Limits.{jobs_most}
use Rattle.mas_types.specs.Lists.{change_first, first_some}
use Rattle.mas_types.specs.Number.{next_number}
use Rattle.mas_types.specs.Queue.{has_key, has_number, has_output, in_hardcopy, in_output, in_purge, is_current_on, is_in, is_member, is_of, job_at, knows_node, output_at}
use Rattle.mas_types.specs.Reset.{reset_job}
use Rattle.mas_types.specs.Row.{none_such, refused_where, wrong_phase}
use Rattle.mas_types.specs.Selection.{is_for_convert, is_for_execute}
use Rattle.mas_types.specs.Sound.{IsSound, IsSoundOutput, is_there, may_have_outputs}
use Rattle.mas_types.specs.Step.{row_of, step}
use Rattle.mas_types.specs.declared.commands.Command.{Command}
use Rattle.mas_types.specs.declared.commands.Command.TheVariants as command
use Rattle.mas_types.specs.declared.commands.Refusal.{Refusal}
use Rattle.mas_types.specs.declared.commands.Refusal.TheVariants as refusal
use Rattle.mas_types.specs.declared.commands.Reply.{Reply}
use Rattle.mas_types.specs.declared.commands.Reply.TheVariants as reply
use Rattle.mas_types.specs.declared.ids.GroupNo.{GroupNo}
use Rattle.mas_types.specs.declared.ids.JobNo.{JobNo}
use Rattle.mas_types.specs.declared.ids.MemberId.{MemberId}
use Rattle.mas_types.specs.declared.ids.OutNo.{OutNo}
use Rattle.mas_types.specs.declared.jobs.Job.{Job}
use Rattle.mas_types.specs.declared.jobs.JobFields.{JobFields}
use Rattle.mas_types.specs.declared.jobs.OutSpec.{OutSpec}
use Rattle.mas_types.specs.declared.jobs.Output.{Output}
use Rattle.mas_types.specs.declared.jobs.Phase.{Phase}
use Rattle.mas_types.specs.declared.jobs.Phase.TheVariants as phase
use Rattle.mas_types.specs.declared.jobs.Text.{Text}
use Rattle.mas_types.specs.declared.jobs.Text.TheVariants.{Whole}
use Rattle.mas_types.specs.declared.queues.Queue.{Queue}
use Rattle.mas_types.specs.declared.queues.Thing.{Thing}
use Rattle.mas_types.specs.declared.queues.Thing.TheVariants as things
use Rattle.queue_laws.proofs.Done.{done-effect, done-refused, where_not}
use Rattle.queue_laws.proofs.Finds.{any_none, find-All, test_cases}
use Rattle.queue_laws.proofs.MarksFollow.{marks_follow}
use Rattle.queue_laws.proofs.NewNumber.{next_number_free}
use Rattle.queue_laws.proofs.Others.{found_itself, second_none}
use Rattle.queue_laws.proofs.SoundEnter.{All-none}
use Rattle.queue_laws.proofs.SoundJobs.{in_phase_of}
use Rattle.queue_laws.proofs.SoundRemove.{All-without_first}
use Rattle.queue_laws.proofs.Soundness.{All-change}
use Rattle.queue_laws.specs.Marks.{FollowsAt, MayMake}
use Rattle.std.proofs.Common.{All, Bool, List, None, Option, Some, [], ap, arith, false, if◌then◌else◌, length, map, nat_le, not, refl, subst, sym, true, ℕ, ◌&&◌, ◌++◌, ◌+◌, ◌<◌, ◌==◌, ◌∙◌, ◌∷◌, ◌≡◌, ◌≤◌}
use Rattle.std.proofs.lemmas.Bool.Decides.{nat_tests}
use Rattle.std.proofs.lemmas.List.Elements.{All-cons, All-map, All-nil, All-push, All-weaker}
use Rattle.std.specs.Prelude.{IfSome}
use Rattle.std.specs.List.{find, list_any}
use Rattle.std.specs.Option.{option_map, option_map_or}

-- A JOB'S NUMBER

pub same_numbers : (a b : JobNo) → same_number a b ≡ true → a ≡ b
same_numbers a b e = let same : a.0 ≡ b.0 = grind (arith, nat_tests) in ap (λ (v : ℕ). record { 0 = v }) same

-- A JOB AT WORK HAS NO OUTPUT

no_outputs : (p : Phase) → runs p ≡ true → may_have_outputs p ≡ false
no_outputs phase.Convert h = refl
no_outputs phase.Execute h = refl
no_outputs _ h = absurd (cc)

-- a job at work of a sound queue has no output
pub sound_none : (S : Queue) (n : JobNo) (x : Job) → IsSound S → job_at S n ≡ Some x → runs x.phase ≡ true → has_output n S ≡ false
sound_none S n x sound found ran = All-none (is_of n) S.outputs (λ k d lt. by_output _ (sound.outputs k d lt)) where
  ends_there : (o : Output) → same_number o.job n ≡ true → is_there (λ j. may_have_outputs j.phase) S.jobs o.job ≡ true → ⊥
  ends_there o of_it there =
      let same : o.job.0 ≡ n.0 = grind (arith, nat_tests) in
      let at_n : is_there (λ j. may_have_outputs j.phase) S.jobs n ≡ true = subst (λ (v : ℕ). is_there (λ j. may_have_outputs j.phase) S.jobs (record { 0 = v }) ≡ true) same there in
      let may : may_have_outputs x.phase ≡ true = sym (ap (λ (o : Option Job). option_map_or (λ j. may_have_outputs j.phase) o false) found) ∙ at_n in
      cc (may, no_outputs x.phase ran)

  by_output : (o : Output) → IsSoundOutput S.config S.jobs o → is_of n o ≡ false
  by_output o s = test_cases (is_of n o) (is_of n o ≡ false) (λ e. absurd (ends_there o e s.job)) (λ e. e)

-- A JOB'S TEXT

abbrev same : Job → Job → Bool
same a b = same_number a.number b.number

-- a change of a job that keeps its number and its text
record IsMild (f : Job → Job) : Type 0 where
  pub number : (j : Job) → (f j).number ≡ j.number
  pub text : (j : Job) → (f j).text ≡ j.text

-- a change that keeps the number, and brings lines
record IsEntering (f : Job → Job) : Type 0 where
  pub number : (j : Job) → (f j).number ≡ j.number
  pub whole : (j : Job) → gone_with (f j).text ≡ None

-- one of two such changes
mild_if : (test : Job → Bool) (f g : Job → Job) → IsMild f → IsMild g → IsMild (λ j. if test j then f j else g j)
mild_if test f g one two = record { number = λ j. (either_of (test j) j).0; text = λ j. (either_of (test j) j).1 } where
  either_of : (b : Bool) (j : Job) → ((if b then f j else g j).number ≡ j.number) × ((if b then f j else g j).text ≡ j.text)
  either_of true j = (one.number j, one.text j)
  either_of false j = (two.number j, two.text j)

over_mild : (R : Queue) → IsMild (outputs_over R)
over_mild R = mild_if (λ j. in_hardcopy j.phase && not (has_output j.number R)) (λ j. record j { phase = phase.Purge }) (λ j. j) (record { number = λ j. refl; text = λ j. refl }) (record { number = λ j. refl; text = λ j. refl })

reset_mild : (picks : MemberId → Bool) → IsMild (λ j. if picks j.busy then reset_job j else j)
reset_mild picks = mild_if (λ j. picks j.busy) reset_job (λ j. j) (record { number = λ j. refl; text = λ j. refl }) (record { number = λ j. refl; text = λ j. refl })

cancelled_mild : IsMild cancelled
cancelled_mild = mild_if (λ j. is_somebody j.busy) (λ j. record j { cancelled = true }) (λ j. record j { phase = phase.Purge }) (record { number = λ j. refl; text = λ j. refl }) (record { number = λ j. refl; text = λ j. refl })

module _ (n : JobNo) where
  -- the text of a job of this number is gone with this group
  abbrev Is : Option GroupNo → Job → Type 0
  Is g j = has_number n j ≡ true → gone_with j.text ≡ g

  abbrev Are : Option GroupNo → List Job → Type 0
  Are g js = All (Is g) js

  is_mild : (f : Job → Job) → IsMild f → (g : Option GroupNo) (j : Job) → Is g j → Is g (f j)
  is_mild f mild g j is at_n = ap gone_with (mild.text j) ∙ is (ap (λ (k : JobNo). same_number k n) (sym (mild.number j)) ∙ at_n)

  changed : (f : Job → Job) (p : Job → Bool) (g : Option GroupNo) (js : List Job) → IsMild f → Are g js → Are g (change_first p f js)
  changed f p g js mild are = All-change p f (Is g) js are (λ j found is. is_mild f mild g j is)

  mapped : (f : Job → Job) (g : Option GroupNo) (js : List Job) → IsMild f → Are g js → Are g (map f js)
  mapped f g js mild are = All-map (Is g) f js (All-weaker (Is g) (λ j. Is g (f j)) (is_mild f mild g) js are)

  -- BEGIN

  apart_of : (j k : Job) → same j k ≡ false → has_number n k ≡ true → has_number n j ≡ true → ⊥
  apart_of j k apart here there = absurd (grind (arith, nat_tests))

  begun_at : (g : Option GroupNo) (js : List Job) (x : Job) → x.text ≡ Whole [] → list_any (λ j. same j x) js ≡ false → Are g js → Are (if has_number n x then None else g) (js ++ x ∷ [])
  begun_at g js x blank new are =
      test_cases (has_number n x) (Are (if has_number n x then None else g) (js ++ x ∷ []))
      (λ e. rw e (All-push (Is None) js x (All-weaker (λ j. same j x ≡ false) (Is None) (λ j apart at_n. absurd (apart_of j x apart e at_n)) js (any_none (λ j. same j x) js new)) (λ at_n. ap gone_with blank)))
      (λ e. rw e (All-push (Is g) js x are (λ at_n. absurd (cc))))

  -- ENTER

  clash : (k : JobNo) (j x : Job) → same_number k n ≡ true → has_number k j ≡ true → same j x ≡ false → has_number n x ≡ true → ⊥
  clash k j x here e apart at_n = absurd (grind (arith, nat_tests))

  other : (k : JobNo) (j : Job) → same_number k n ≡ true → has_number k j ≡ false → has_number n j ≡ true → ⊥
  other k j here e at_n = absurd (grind (arith, nat_tests))

  another : (k : JobNo) (j : Job) → same_number k n ≡ false → has_number k j ≡ true → has_number n j ≡ true → ⊥
  another k j e here at_n = absurd (grind (arith, nat_tests))

  at_number : (f : Job → Job) → IsEntering f → (k : JobNo) → same_number k n ≡ true → (js : List Job) → AreDistinct same js → All (Is None) (change_first (has_number k) f js)
  at_number f enters k here [] distinct = All-nil (Is None)
  at_number f enters k here (j ∷ js) distinct =
      test_cases (has_number k j) (All (Is None) (change_first (has_number k) f (j ∷ js)))
      (λ e. rw e (All-cons (Is None) (f j) js (λ at_n. enters.whole j)
      (All-weaker (λ x. same j x ≡ false) (Is None) (λ x apart at_n. absurd (clash k j x here e apart at_n)) js (any_none (same j) js distinct.0))))
      (λ e. rw e (All-cons (Is None) j (change_first (has_number k) f js) (λ at_n. absurd (other k j here e at_n)) (at_number f enters k here js distinct.1)))

  entered_at : (f : Job → Job) → IsEntering f → (g : Option GroupNo) (k : JobNo) (js : List Job) → AreDistinct same js → Are g js → Are (if same_number k n then None else g) (change_first (has_number k) f js)
  entered_at f enters g k js distinct are =
      test_cases (same_number k n) (Are (if same_number k n then None else g) (change_first (has_number k) f js))
      (λ e. rw e (at_number f enters k e js distinct))
      (λ e. rw e (All-change (has_number k) f (Is g) js are
      (λ j found is at_n. absurd (another k j e (find-All (Is g) (has_number k) js j are found).1 (ap (λ (l : JobNo). same_number l n) (sym (enters.number j)) ∙ at_n)))))

  -- COMMANDS

  begun_row : (g : Option GroupNo) (Q : Queue) (m : MemberId) (fields : JobFields) → IsConfig Q.config → first_some (begin_row Q m fields).refusals ≡ None → Are g Q.jobs
      → Are (if same_number (next_number Q.jobs Q.last) n then None else g) (begin_row Q m fields).effect.jobs
  begun_row g Q m fields config none are =
      let room : nat_le Q.config.jobs (length Q.jobs) ≡ false = where_not (nat_le Q.config.jobs (length Q.jobs)) refusal.JobsFull (second_none (refused_where (not (knows_node Q fields.node)) refusal.NoNode) (refused_where (nat_le Q.config.jobs (length Q.jobs)) refusal.JobsFull) [] none) in
      begun_at g Q.jobs (new_job m (next_number Q.jobs Q.last) fields) refl (next_number_free Q.jobs Q.last (few Q.config.jobs (length Q.jobs) room config.jobs.1)) are
    where
      few : (a b : ℕ) → nat_le a b ≡ false → a ≤ jobs_most → b < 99999
      few a b room most = grind (arith, nat_tests)

  effect_are : (g : Option GroupNo) (Q : Queue) (m : MemberId) (c : Command) → IsSound Q → first_some (row_of Q m c).refusals ≡ None → Are g Q.jobs
      → Are (if brings_job n c (row_of Q m c).answer then None else g) (row_of Q m c).effect.jobs
  effect_are g Q m (command.Begin fields) sound none are = begun_row g Q m fields sound.config none are
  effect_are g Q m (command.Drop job) sound none are = test_cases (job.0 == 0) (Are g (drop_row Q m job).effect.jobs) (λ e. rw e are) (λ e. rw e (All-without_first (has_number job) (Is g) Q.jobs are))
  effect_are g Q m (command.Enter job text) sound none are = entered_at (λ j. record j { text = Whole text; busy = nobody; phase = phase_entered Q.config.node j }) (record { number = λ j. refl; whole = λ j. refl }) g job Q.jobs sound.numbers are
  effect_are g Q m command.TakeConvert sound none are = changed (made_busy m) (is_for_convert Q) g Q.jobs (record { number = λ j. refl; text = λ j. refl }) are
  effect_are g Q m (command.Converted job) sound none are = changed converted (has_number job) g Q.jobs (record { number = λ j. refl; text = λ j. refl }) are
  effect_are g Q m command.TakeExec sound none are = changed (made_busy m) (is_for_execute Q m) g Q.jobs (record { number = λ j. refl; text = λ j. refl }) are
  effect_are g Q m (command.Ended job specs) sound none are = changed ended (has_number job) g Q.jobs (record { number = λ j. refl; text = λ j. refl }) are
  effect_are g Q m command.Gather sound none are = changed (gathered Q) (is_in in_output) g Q.jobs (record { number = λ j. refl; text = λ j. refl }) are
  effect_are g Q m (command.Done job index) sound none are = let R = output_removed job index Q in changed (outputs_over R) (has_number job) g Q.jobs (over_mild R) are
  effect_are g Q m command.Purge sound none are = All-without_first (is_in in_purge) (Is g) Q.jobs are
  effect_are g Q m (command.Hold job) sound none are = changed (with_held true) (has_number job) g Q.jobs (record { number = λ j. refl; text = λ j. refl }) are
  effect_are g Q m (command.Release job) sound none are = changed (with_held false) (has_number job) g Q.jobs (record { number = λ j. refl; text = λ j. refl }) are
  effect_are g Q m (command.Cancel job) sound none are =
      test_cases (is_busy (job_at Q job)) (Are g (cancel_row Q m job).effect.jobs) (λ e. rw e (changed cancelled (has_number job) g Q.jobs cancelled_mild are)) (λ e. rw e (changed cancelled (has_number job) g Q.jobs cancelled_mild are))
  effect_are g Q m (command.SetPrio job prio) sound none are = changed (with_prio prio) (has_number job) g Q.jobs (record { number = λ j. refl; text = λ j. refl }) are
  effect_are g Q m (command.SetClass job class) sound none are = changed (with_class class) (has_number job) g Q.jobs (record { number = λ j. refl; text = λ j. refl }) are
  effect_are g Q m (command.CancelOut job index) sound none are = let R = output_removed job index Q in changed (outputs_over R) (has_number job) g Q.jobs (over_mild R) are
  effect_are g Q m (command.Reset of_member) sound none are = let picks = λ (h : MemberId). same_member h of_member in mapped (λ j. if picks j.busy then reset_job j else j) g Q.jobs (reset_mild picks) are
  effect_are g Q m command.Restart sound none are = let picks = is_member Q.config in mapped (λ j. if picks j.busy then reset_job j else j) g Q.jobs (reset_mild picks) are
  effect_are g Q m (command.Sent line number) sound none are = changed (λ j. record j { phase = phase.Purge }) (is_current_on Q line) g Q.jobs (record { number = λ j. refl; text = λ j. refl }) are
  effect_are g Q m (command.Got line number job text) sound none are = entered_at (λ j. record j { text = Whole text; busy = nobody; phase = phase_entered Q.config.node j }) (record { number = λ j. refl; whole = λ j. refl }) g job Q.jobs sound.numbers are
  effect_are g Q m _ sound none are = are

  -- a refused command brings no job
  refused_brings : (c : Command) (why : Refusal) → brings_job n c (reply.No why) ≡ false
  refused_brings (command.Begin fields) why = refl
  refused_brings _ why = refl

  abbrev After : Option GroupNo → Command → Queue × Reply → Type 0
  After g c left = Are (if brings_job n c left.1 then None else g) left.0.jobs

  step_are : (g : Option GroupNo) (Q : Queue) (m : MemberId) (c : Command) → IsSound Q → Are g Q.jobs → After g c (step Q m c)
  step_are g Q m c sound are = by_refusal (first_some (row_of Q m c).refusals) refl where
    by_refusal : (o : Option Refusal) → first_some (row_of Q m c).refusals ≡ o → After g c (step Q m c)
    by_refusal None e = subst (After g c) (sym (done-effect Q (row_of Q m c) e)) (effect_are g Q m c sound e are)
    by_refusal (Some why) e = subst (After g c) (sym (done-refused Q (row_of Q m c) why e)) (subst (λ (b : Bool). Are (if b then None else g) Q.jobs) (sym (refused_brings c why)) are)

  -- each job of that number in the queue with which the run began is the one that is found
  at_first : (Q : Queue) → AreDistinct same Q.jobs → Are (gone_in Q n) Q.jobs
  at_first Q distinct = All-weaker (λ j. find (has_number j.number) Q.jobs ≡ Some j) (Is (gone_in Q n))
      (λ j found at_n. sym (ap (λ (o : Option Job). option_map_or (λ (k : Job). gone_with k.text) o None) (subst (λ (k : JobNo). find (has_number k) Q.jobs ≡ Some j) (same_numbers j.number n at_n) found))) Q.jobs (found_itself Q.jobs distinct)

-- AN OUTPUT'S TEXT

module _ (n : JobNo) (i : OutNo) where
  -- the text of the output, where it is there, is gone with this group
  abbrev IsAs : Option GroupNo → Option Output → Type 0
  IsAs g o = IfSome o (λ x. gone_with x.text ≡ g)

  -- ENDED

  not_of : (k : JobNo) (o : Output) → same_number k n ≡ true → is_of k o ≡ false → has_key n i o ≡ false
  not_of k o same other = grind (arith, nat_tests)

  behind_none : (k : JobNo) (os ps : List Output) → same_number k n ≡ true → list_any (is_of k) os ≡ false → find (has_key n i) (os ++ ps) ≡ find (has_key n i) ps
  behind_none k [] ps same none = refl
  behind_none k (o ∷ os) ps same none =
      test_cases (is_of k o) (find (has_key n i) ((o ∷ os) ++ ps) ≡ find (has_key n i) ps)
      (λ e. absurd (let some = rw e at none in cc))
      (λ e. let rest : list_any (is_of k) os ≡ false = rw e at none in rw (not_of k o same e) (behind_none k os ps same rest))

  new_whole : (k : JobNo) (j : ℕ) (specs : List OutSpec) → IsAs None (find (has_key n i) (new_outputs k j specs))
  new_whole k j [] = tt
  new_whole k j (s ∷ specs) =
      test_cases (has_key n i (new_output k j s)) (IsAs None (find (has_key n i) (new_outputs k j (s ∷ specs))))
      (λ e. rw e refl)
      (λ e. rw e (new_whole k (j + 1) specs))

  ended_as : (Q : Queue) (m : MemberId) (k : JobNo) (specs : List OutSpec) → IsSound Q → first_some (ended_row Q m k specs).refusals ≡ None → same_number k n ≡ true → IsAs None (output_at (ended_row Q m k specs).effect n i)
  ended_as Q m k specs sound none same = by_job (job_at Q k) refl where
    by_job : (found : Option Job) → job_at Q k ≡ found → IsAs None (output_at (ended_row Q m k specs).effect n i)
    by_job None is = absurd (let there = rw is at none in cc)
    by_job (Some j) is =
        let phase : runs j.phase ≡ true = in_phase_of Q k runs (second_none (none_such refusal.NoJob (job_at Q k)) (wrong_phase runs (job_at Q k)) _ none) j is in
        subst (IsAs None) (sym (behind_none k Q.outputs (new_outputs k 1 (outputs_at_end (job_at Q k) specs)) same (sound_none Q k j sound is phase))) (new_whole k 1 (outputs_at_end (job_at Q k) specs))

  -- ONE COMMAND

  -- where the command doesn't make it, it has the text that it had
  stays : (g : Option GroupNo) (Q : Queue) (m : MemberId) (c : Command) → IsSound Q → ((o : Output) → has_key n i o ≡ true → MayMake c o → ⊥) → IsAs g (output_at Q n i) → IsAs g (output_at (step Q m c).0 n i)
  stays g Q m c sound makes was = follows (output_at Q n i) (output_at (step Q m c).0 n i) refl was (marks_follow Q m c sound n i) where
    follows : (old new : Option Output) → output_at (step Q m c).0 n i ≡ new → IsAs g old → FollowsAt m c old new → IsAs g new
    follows old None is was as_it = tt
    follows None (Some o) is was as_it = absurd (makes o (find-All (λ (x : Output). Unit {0}) (has_key n i) (step Q m c).0.outputs o (λ k d lt. tt) is).1 as_it.made)
    follows (Some x) (Some o) is was as_it = ap gone_with as_it.text ∙ was

  abbrev Left : Option GroupNo → Command → Queue × Reply → Type 0
  Left g c left = IsAs (if brings_outputs n c left.1 then None else g) (output_at left.0 n i)

  other_brings : (k : JobNo) (specs : List OutSpec) (answer : Reply) → same_number k n ≡ false → brings_outputs n (command.Ended k specs) answer ≡ false
  other_brings k specs (reply.Count count) other = other
  other_brings k specs _ other = refl

  other_makes : (k : JobNo) (o : Output) → same_number k n ≡ false → has_key n i o ≡ true → is_of k o ≡ true → ⊥
  other_makes k o other keyed made = absurd (grind (arith, nat_tests))

  step_as : (g : Option GroupNo) (Q : Queue) (m : MemberId) (c : Command) → IsSound Q → IsAs g (output_at Q n i) → Left g c (step Q m c)
  step_as g Q m (command.Ended k specs) sound was =
      test_cases (same_number k n) (Left g (command.Ended k specs) (step Q m (command.Ended k specs)))
      (λ e. by_refusal e (first_some (ended_row Q m k specs).refusals) refl)
      (λ e. subst (λ (b : Bool). IsAs (if b then None else g) (output_at (step Q m (command.Ended k specs)).0 n i)) (sym (other_brings k specs (step Q m (command.Ended k specs)).1 e))
      (stays g Q m (command.Ended k specs) sound (λ o keyed made. other_makes k o e keyed made) was))
    where
      by_refusal : same_number k n ≡ true → (o : Option Refusal) → first_some (ended_row Q m k specs).refusals ≡ o → Left g (command.Ended k specs) (step Q m (command.Ended k specs))
      by_refusal e None none = subst (Left g (command.Ended k specs)) (sym (done-effect Q (ended_row Q m k specs) none))
          (subst (λ (b : Bool). IsAs (if b then None else g) (output_at (ended_row Q m k specs).effect n i)) (sym e) (ended_as Q m k specs sound none e))
      by_refusal e (Some why) none = subst (Left g (command.Ended k specs)) (sym (done-refused Q (ended_row Q m k specs) why none)) was
  step_as g Q m c sound was = stays g Q m c sound (λ o keyed made. absurd made) was

  output_first : (Q : Queue) → IsAs (gone_output_in Q n i) (output_at Q n i)
  output_first Q = by_found (output_at Q n i) where
    by_found : (o : Option Output) → IsAs (option_map_or (λ x. gone_with x.text) o None) o
    by_found None = tt
    by_found (Some o) = refl

-- OF A JOB, OR OF AN OUTPUT

pub gone_step : (thing : Thing) (g : Option GroupNo) (Q : Queue) (m : MemberId) (c : Command) → IsSound Q → IsGoneAs thing g Q → IsGoneAs thing (if brings_by thing c (step Q m c).1 then None else g) (step Q m c).0
gone_step (things.Deck n) g Q m c sound are = step_are n g Q m c sound are
gone_step (things.Output n i) g Q m c sound is = step_as n i g Q m c sound is

pub gone_first : (thing : Thing) (Q : Queue) → IsSound Q → IsGoneAs thing (gone_at thing Q) Q
gone_first (things.Deck n) Q sound = at_first n Q sound.numbers
gone_first (things.Output n i) Q sound = output_first n i Q

-- so its text says
pub gone_now : (thing : Thing) (g : Option GroupNo) (Q : Queue) (t : Text) → IsGoneAs thing g Q → text_at thing Q ≡ Some t → g ≡ gone_with t
gone_now (things.Deck n) g Q t are found = by_job (job_at Q n) refl found where
  by_job : (o : Option Job) → job_at Q n ≡ o → option_map (λ j. j.text) o ≡ Some t → g ≡ gone_with t
  by_job None is found = absurd (cc)
  by_job (Some j) is found =
      let same : j.text ≡ t = cc in
      let here = find-All (Is n g) (has_number n) Q.jobs j are is in
      sym (here.0 here.1) ∙ ap gone_with same
gone_now (things.Output n i) g Q t as_it found = by_output (output_at Q n i) refl found where
  by_output : (o : Option Output) → output_at Q n i ≡ o → option_map (λ o. o.text) o ≡ Some t → g ≡ gone_with t
  by_output None is found = absurd (cc)
  by_output (Some o) is found =
      let same : o.text ≡ t = cc in
      sym (subst (IsAs n i g) is as_it) ∙ ap gone_with same
