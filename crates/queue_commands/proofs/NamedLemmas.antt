-- The members that a refusal names.
use Rattle.std.proofs.Common.{◌≡◌, ℕ, ◌≤◌, ◌==◌, nat_le, nat_lt, not, ◌&&◌, Bool, true, false, List, [], ◌∷◌, length, Option, Some, None, refl}
use Rattle.mas_types.specs.declared.ids.MemberId.{MemberId}
use Rattle.mas_types.specs.declared.ids.JobNo.{JobNo}
use Rattle.mas_types.specs.declared.ids.OutNo.{OutNo}
use Rattle.mas_types.specs.declared.jobs.Phase.{Phase}
use Rattle.mas_types.specs.declared.jobs.Job.{Job}
use Rattle.mas_types.specs.declared.jobs.Output.{Output}
use Rattle.mas_types.specs.declared.commands.Command.{Command}
use Rattle.mas_types.specs.declared.commands.Command.TheVariants as command
use Rattle.mas_types.specs.declared.commands.What.{What}
use Rattle.mas_types.specs.declared.commands.What.TheVariants as what
use Rattle.mas_types.specs.declared.commands.Refusal.{Refusal}
use Rattle.mas_types.specs.declared.commands.Refusal.TheVariants as refusal
use Rattle.mas_types.specs.declared.queues.Queue.{Queue}
use Rattle.mas_types.specs.Closings.{IsRefusalNamed, IsReplyNamed}
use Rattle.mas_types.specs.Ids.{is_somebody, same_member}
use Rattle.mas_types.specs.Lists.{first_some}
use Rattle.mas_types.specs.Owners.{free_count}
use Rattle.mas_types.specs.Queue.{has_number, has_key, is_of, is_member, knows_node, job_at, output_at, printing_at, current_on, in_input, in_convert, in_purge, first_in, total}
use Rattle.mas_types.specs.Row.{Row, settled, done, refused_where, none_such, wrong_phase, job_not_at, output_not_at, output_elsewhere}
use Rattle.mas_types.specs.Selection.{for_printer}
use Rattle.mas_types.specs.Shown.{shown_of_none}
use Rattle.mas_types.specs.Step.{row_of}
use Rattle.mas_types.specs.Commands.Input.{not_in_input, not_entered, drop_row}
use Rattle.mas_types.specs.Commands.Life.{runs}
use Rattle.mas_types.specs.Commands.Operator.{is_past_cancel, past_cancel, printing_elsewhere, has_yet_to_run}
use Rattle.mas_types.specs.Commands.Printing.{in_use, not_printed}
use Rattle.queue_laws.proofs.Finds.{test_cases, find-All}
use Rattle.queue_commands.proofs.StoredLemmas.{IsStored, IsStoredJob, IsStoredOutput}

abbrev OneNamed : Option Refusal → Type 0
OneNamed None = Unit {0}
OneNamed (Some why) = IsRefusalNamed why

abbrev AreNamed : List (Option Refusal) → Type 0
AreNamed [] = Unit {0}
AreNamed (o ∷ os) = OneNamed o × AreNamed os

first_named : (os : List (Option Refusal)) → AreNamed os → OneNamed (first_some os)
first_named [] all = tt
first_named (None ∷ os) all = first_named os all.1
first_named (Some why ∷ os) all = all.0

reply_named : (Q : Queue) (row : Row) → AreNamed row.refusals → IsReplyNamed row.answer → IsReplyNamed (done Q row).1
reply_named Q row all answer = go (first_some row.refusals) (first_named row.refusals all)
  where
    go : (o : Option Refusal) → OneNamed o → IsReplyNamed (settled Q row.effect row.answer o).1
    go None is = answer
    go (Some why) is = is

-- REFUSALS

without_such : {A : Type 0} (why : Refusal) → IsRefusalNamed why → (o : Option A) → OneNamed (none_such why o)
without_such why is None = is
without_such why is (Some x) = tt

where_holds : (b : Bool) (why : Refusal) → IsRefusalNamed why → OneNamed (refused_where b why)
where_holds true why is = is
where_holds false why is = tt

in_phase : (right : Phase → Bool) (o : Option Job) → OneNamed (wrong_phase right o)
in_phase right None = tt
in_phase right (Some j) = test_cases (right j.phase) (OneNamed (wrong_phase right (Some j))) (λ e. rw e tt) (λ e. rw e tt)

job_at_member : (m : MemberId) (o : Option Job) → ((j : Job) → o ≡ Some j → j.busy.0 ≤ 8) → OneNamed (job_not_at m o)
job_at_member m None few = tt
job_at_member m (Some j) few = test_cases (same_member j.busy m) (OneNamed (job_not_at m (Some j))) (λ e. rw e tt) (λ e. rw e (few j refl))

output_at_member : (m : MemberId) (o : Option Output) → ((x : Output) → o ≡ Some x → x.busy.0 ≤ 8) → OneNamed (output_not_at m o)
output_at_member m None few = tt
output_at_member m (Some x) few = test_cases (same_member x.busy m) (OneNamed (output_not_at m (Some x))) (λ e. rw e tt) (λ e. rw e (few x refl))

output_of_others : (m : MemberId) (o : Option Output) → ((x : Output) → o ≡ Some x → x.busy.0 ≤ 8) → OneNamed (output_elsewhere m o)
output_of_others m None few = tt
output_of_others m (Some x) few =
    test_cases (is_somebody x.busy && not (same_member x.busy m)) (OneNamed (output_elsewhere m (Some x))) (λ e. rw e (few x refl)) (λ e. rw e tt)

member_in_use : (m : MemberId) (o : Option Output) → m.0 ≤ 8 → OneNamed (in_use m o)
member_in_use m None few = tt
member_in_use m (Some x) few = few

before_cancel : (Q : Queue) (o : Option Job) → OneNamed (past_cancel Q o)
before_cancel Q None = tt
before_cancel Q (Some j) = test_cases (is_past_cancel Q j) (OneNamed (past_cancel Q (Some j))) (λ e. rw e tt) (λ e. rw e tt)

all_printed : (o : Option Output) → OneNamed (not_printed o)
all_printed None = tt
all_printed (Some x) = where_holds (nat_lt x.mark (total x)) refusal.Nothing tt

-- ROWS

module _ (Q : Queue) (s : IsStored Q) where
  job_few : (n : JobNo) (j : Job) → job_at Q n ≡ Some j → j.busy.0 ≤ 8
  job_few n j found = (find-All IsStoredJob (has_number n) Q.jobs j s.jobs found).0.busy

  output_few : (n : JobNo) (i : OutNo) (o : Output) → output_at Q n i ≡ Some o → o.busy.0 ≤ 8
  output_few n i o found = (find-All IsStoredOutput (has_key n i) Q.outputs o s.outputs found).0.busy

  elsewhere_few : (m : MemberId) (n : JobNo) (o : Output) → printing_elsewhere Q m n ≡ Some o → o.busy.0 ≤ 8
  elsewhere_few m n o found = (find-All IsStoredOutput (λ x. is_of n x && is_somebody x.busy && not (same_member x.busy m)) Q.outputs o s.outputs found).0.busy

  input_named : (m : MemberId) (n : JobNo) → AreNamed (not_in_input Q m n)
  input_named m n = (without_such refusal.NoJob tt (job_at Q n), (in_phase in_input (job_at Q n), (job_at_member m (job_at Q n) (job_few n), tt)))

  entered_named : (m : MemberId) (n : JobNo) (text : List (List ℕ)) → AreNamed (not_entered Q m n text)
  entered_named m n text =
      (without_such refusal.NoJob tt (job_at Q n), (in_phase in_input (job_at Q n), (job_at_member m (job_at Q n) (job_few n), (where_holds _ refusal.Nothing tt, tt))))

  drop_named : (m : MemberId) (n : JobNo) → AreNamed (drop_row Q m n).refusals
  drop_named m n = test_cases (n.0 == 0) (AreNamed (drop_row Q m n).refusals) (λ e. rw e tt) (λ e. rw e (input_named m n))

  shown_named : (w : What) → AreNamed (shown_of_none Q w)
  shown_named what.Queue = tt
  shown_named (what.Job n) = (without_such refusal.NoJob tt (job_at Q n), tt)
  shown_named what.Outputs = tt
  shown_named what.Spool = tt
  shown_named what.Members = tt

  ours_named : (m : MemberId) (n : JobNo) (i : OutNo) → AreNamed (none_such refusal.NoOutput (output_at Q n i) ∷ output_elsewhere m (output_at Q n i) ∷ [])
  ours_named m n i = (without_such refusal.NoOutput tt (output_at Q n i), (output_of_others m (output_at Q n i) (output_few n i), tt))

  row_named : (m : MemberId) → m.0 ≤ 8 → (c : Command) → AreNamed (row_of Q m c).refusals × IsReplyNamed (row_of Q m c).answer
  row_named m few (command.Begin fields) =
      ((where_holds (not (knows_node Q fields.node)) refusal.NoNode tt, (where_holds (nat_le Q.config.jobs (length Q.jobs)) refusal.JobsFull tt, tt)), tt)
  row_named m few (command.Take want) = ((where_holds (free_count Q.owners == 0) refusal.SpoolFull tt, tt), tt)
  row_named m few (command.Drop job) = (drop_named m job, tt)
  row_named m few (command.Enter job text) = (entered_named m job text, tt)
  row_named m few command.TakeConvert = ((without_such refusal.Nothing tt _, tt), tt)
  row_named m few (command.Converted job) = ((without_such refusal.NoJob tt (job_at Q job), (in_phase in_convert (job_at Q job), (job_at_member m (job_at Q job) (job_few job), tt))), tt)
  row_named m few command.TakeExec = ((without_such refusal.Nothing tt _, tt), tt)
  row_named m few (command.Ended job specs) =
      ((without_such refusal.NoJob tt (job_at Q job), (in_phase runs (job_at Q job), (job_at_member m (job_at Q job) (job_few job), (where_holds _ refusal.OutputsFull tt, (where_holds _ refusal.Nothing tt, tt))))), tt)
  row_named m few command.Gather = ((without_such refusal.Nothing tt _, tt), tt)
  row_named m few command.Pick = ((member_in_use m (printing_at Q m) few, (without_such refusal.Nothing tt (for_printer Q m), tt)), tt)
  row_named m few (command.Mark job index at) =
      ((without_such refusal.NoOutput tt (output_at Q job index), (output_at_member m (output_at Q job index) (output_few job index), tt)), tt)
  row_named m few (command.Done job index) =
      ((without_such refusal.NoOutput tt (output_at Q job index), (output_at_member m (output_at Q job index) (output_few job index), (all_printed (output_at Q job index), tt))), tt)
  row_named m few command.Purge = ((without_such refusal.Nothing tt (first_in in_purge Q), tt), tt)
  row_named m few (command.Hold job) = ((without_such refusal.NoJob tt (job_at Q job), tt), tt)
  row_named m few (command.Release job) = ((without_such refusal.NoJob tt (job_at Q job), tt), tt)
  row_named m few (command.Cancel job) =
      ((without_such refusal.NoJob tt (job_at Q job), (before_cancel Q (job_at Q job), (output_of_others m (printing_elsewhere Q m job) (elsewhere_few m job), tt))), tt)
  row_named m few (command.SetPrio job prio) = ((without_such refusal.NoJob tt (job_at Q job), (in_phase (λ p. not (in_purge p)) (job_at Q job), tt)), tt)
  row_named m few (command.SetClass job class) = ((without_such refusal.NoJob tt (job_at Q job), (in_phase has_yet_to_run (job_at Q job), tt)), tt)
  row_named m few (command.Out job) = ((without_such refusal.NoJob tt (job_at Q job), tt), tt)
  row_named m few (command.CancelOut job index) = (ours_named m job index, tt)
  row_named m few (command.SetOut job index class) = (ours_named m job index, tt)
  row_named m few (command.Show w) = (shown_named w, tt)
  row_named m few (command.SetInit classes) = (tt, tt)
  row_named m few (command.SetPrt classes forms lines) = (tt, tt)
  row_named m few (command.Back lines) = ((without_such refusal.Nothing tt (printing_at Q m), tt), tt)
  row_named m few (command.Forward lines) = ((without_such refusal.Nothing tt (printing_at Q m), tt), tt)
  row_named m few (command.Reset of_member) = ((where_holds (not (is_member Q.config of_member)) refusal.NoMember tt, tt), tt)
  row_named m few command.Restart = (tt, tt)
  row_named m few (command.Load line) = ((without_such refusal.Nothing tt _, tt), tt)
  row_named m few (command.Sent line number) = ((where_holds _ (refusal.Again number) tt, (where_holds _ (refusal.Gap number _) tt, (without_such refusal.Nothing tt (current_on Q line), tt))), tt)
  row_named m few (command.Got line number job text) = ((where_holds _ (refusal.Again number) tt, (where_holds _ (refusal.Gap number _) tt, entered_named m job text)), tt)

  -- a reply names members that there may be
  pub step_named : (m : MemberId) → m.0 ≤ 8 → (c : Command) → IsReplyNamed (done Q (row_of Q m c)).1
  step_named m few c = let both = row_named m few c in reply_named Q (row_of Q m c) both.0 both.1
