-- A reply names nobody but the operator and members that there may be.
use Rattle.std.proofs.Common.{◌≡◌, ◌≤◌, Bool, true, false, not, ◌&&◌, ◌||◌, ◌==◌, nat_le, List, [], ◌∷◌, Option, Some, None, refl, arith}
use Rattle.std.specs.List.{find}
use Rattle.std.proofs.lemmas.Bool.Decides.{nat_tests}
use Rattle.mas_types.specs.declared.ids.MemberId.{MemberId}
use Rattle.mas_types.specs.declared.ids.JobNo.{JobNo}
use Rattle.mas_types.specs.declared.ids.OutNo.{OutNo}
use Rattle.mas_types.specs.declared.jobs.Phase.{Phase}
use Rattle.mas_types.specs.declared.jobs.Job.{Job}
use Rattle.mas_types.specs.declared.jobs.Output.{Output}
use Rattle.mas_types.specs.declared.queues.Queue.{Queue}
use Rattle.mas_types.specs.declared.commands.Command.{Command}
use Rattle.mas_types.specs.declared.commands.Command.TheVariants as command
use Rattle.mas_types.specs.declared.commands.Refusal.{Refusal}
use Rattle.mas_types.specs.declared.commands.Refusal.TheVariants as refusal
use Rattle.mas_types.specs.declared.commands.Reply.{Reply}
use Rattle.mas_types.specs.declared.commands.What.TheVariants as what
use Rattle.mas_types.specs.Lists.{first_some}
use Rattle.mas_types.specs.Ids.{is_somebody, same_member}
use Rattle.mas_types.specs.Limits.{members_most}
use Rattle.mas_types.specs.Queue.{has_number, has_key, is_member, job_at, output_at, printing_at}
use Rattle.mas_types.specs.Row.{settled, refused_where, none_such, wrong_phase, job_not_at, output_not_at, output_elsewhere}
use Rattle.mas_types.specs.Closings.{IsRefusalNamed, IsReplyNamed}
use Rattle.mas_types.specs.Commands.Printing.{in_use, not_printed}
use Rattle.mas_types.specs.Commands.Operator.{past_cancel, is_past_cancel, printing_elsewhere}
use Rattle.mas_types.specs.Sound.{IsSound, IsSoundJob, IsSoundOutput, is_busy_right}
use Rattle.mas_types.specs.Step.{row_of, may_give}
use Rattle.queue_laws.specs.Laws.{NamesMembers}
use Rattle.queue_laws.proofs.Finds.{test_cases, find-All}

-- REFUSALS, each of them or none

abbrev IsNamed : Option Refusal → Type 0
IsNamed None = Unit {0}
IsNamed (Some why) = IsRefusalNamed why

abbrev AreNamed : List (Option Refusal) → Type 0
AreNamed [] = Unit {0}
AreNamed (o ∷ os) = IsNamed o × AreNamed os

named_first : (os : List (Option Refusal)) → AreNamed os → IsNamed (first_some os)
named_first [] named = tt
named_first (None ∷ os) named = named_first os named.1
named_first (Some why ∷ os) named = named.0

named_settled : (Q effect : Queue) (answer : Reply) (o : Option Refusal) → IsReplyNamed answer → IsNamed o → IsReplyNamed (settled Q effect answer o).1
named_settled Q effect answer None named none = named
named_settled Q effect answer (Some why) named there = there

-- a refusal that names no member, where a test holds
where_plain : (b : Bool) (why : Refusal) → IsRefusalNamed why → IsNamed (refused_where b why)
where_plain true why named = named
where_plain false why named = tt

none_plain : {A : Type 0} (why : Refusal) (o : Option A) → IsRefusalNamed why → IsNamed (none_such why o)
none_plain why None named = named
none_plain why (Some x) named = tt

phase_plain : (right : Phase → Bool) (o : Option Job) → IsNamed (wrong_phase right o)
phase_plain right None = tt
phase_plain right (Some j) = test_cases (right j.phase) (IsNamed (wrong_phase right (Some j))) (λ e. rw e tt) (λ e. rw e tt)

-- who is busy in a sound queue: nobody or a member
right_named : (Q : Queue) (m : MemberId) → IsSound Q → is_busy_right Q.config m ≡ true → m.0 ≤ members_most
right_named Q m sound right =
    let most : Q.config.members ≤ 8 = sound.config.members.1 in
    busy_most m.0 Q.config.members right most
  where
    busy_most : (n most : _) → (not (not (n == 0)) || (not (n == 0) && nat_le n most)) ≡ true → most ≤ 8 → n ≤ 8
    busy_most n most right few = grind (arith, nat_tests)

member_named : (Q : Queue) (m : MemberId) → IsSound Q → is_member Q.config m ≡ true → m.0 ≤ members_most
member_named Q m sound member =
    let most : Q.config.members ≤ 8 = sound.config.members.1 in
    member_most m.0 Q.config.members member most
  where
    member_most : (n most : _) → (not (n == 0) && nat_le n most) ≡ true → most ≤ 8 → n ≤ 8
    member_most n most member few = grind (arith, nat_tests)

module _ (Q : Queue) (m : MemberId) (sound : IsSound Q) where
  job_named : (n : JobNo) → IsNamed (job_not_at m (job_at Q n))
  job_named n = go (job_at Q n) refl
    where
      go : (o : Option Job) → job_at Q n ≡ o → IsNamed (job_not_at m o)
      go None found = tt
      go (Some j) found =
          test_cases (same_member j.busy m) (IsNamed (job_not_at m (Some j))) (λ e. rw e tt)
          (λ e. rw e (right_named Q j.busy sound (find-All (IsSoundJob Q.config) (has_number n) Q.jobs j sound.jobs found).0.busy))

  output_named : (n : JobNo) (i : OutNo) → IsNamed (output_not_at m (output_at Q n i))
  output_named n i = go (output_at Q n i) refl
    where
      go : (o : Option Output) → output_at Q n i ≡ o → IsNamed (output_not_at m o)
      go None found = tt
      go (Some x) found =
          test_cases (same_member x.busy m) (IsNamed (output_not_at m (Some x))) (λ e. rw e tt)
          (λ e. rw e (right_named Q x.busy sound (find-All (IsSoundOutput Q.config Q.jobs) (has_key n i) Q.outputs x sound.outputs found).0.busy))

  elsewhere_named : (p : Output → Bool) (o : Option Output) → find p Q.outputs ≡ o → IsNamed (output_elsewhere m o)
  elsewhere_named p None found = tt
  elsewhere_named p (Some x) found =
      test_cases (is_somebody x.busy && not (same_member x.busy m)) (IsNamed (output_elsewhere m (Some x)))
      (λ e. rw e (right_named Q x.busy sound (find-All (IsSoundOutput Q.config Q.jobs) p Q.outputs x sound.outputs found).0.busy))
      (λ e. rw e tt)

  in_use_named : is_member Q.config m ≡ true → (o : Option Output) → IsNamed (in_use m o)
  in_use_named member None = tt
  in_use_named member (Some x) = member_named Q m sound member

printed_plain : (o : Option Output) → IsNamed (not_printed o)
printed_plain None = tt
printed_plain (Some x) = where_plain _ refusal.Nothing tt

past_plain : (Q : Queue) (o : Option Job) → IsNamed (past_cancel Q o)
past_plain Q None = tt
past_plain Q (Some j) = test_cases (is_past_cancel Q j) (IsNamed (past_cancel Q (Some j))) (λ e. rw e tt) (λ e. rw e tt)

-- EVERY COMMAND

refusals_named : (Q : Queue) (m : MemberId) → IsSound Q → (c : Command) → may_give Q m c ≡ true → AreNamed (row_of Q m c).refusals
refusals_named Q m s (command.Begin fields) y = (where_plain _ refusal.NoNode tt, (where_plain _ refusal.JobsFull tt, tt))
refusals_named Q m s (command.Take want) y = (where_plain _ refusal.SpoolFull tt, tt)
refusals_named Q m s (command.Drop job) y =
    test_cases (job.0 == 0) (AreNamed (row_of Q m (command.Drop job)).refusals) (λ e. rw e tt)
    (λ e. rw e (none_plain refusal.NoJob (job_at Q job) tt, (phase_plain _ (job_at Q job), (job_named Q m s job, tt))))
refusals_named Q m s (command.Enter job text) y =
    (none_plain refusal.NoJob (job_at Q job) tt, (phase_plain _ (job_at Q job), (job_named Q m s job, (where_plain _ refusal.Nothing tt, tt))))
refusals_named Q m s command.TakeConvert y = (none_plain refusal.Nothing _ tt, tt)
refusals_named Q m s (command.Converted job) y = (none_plain refusal.NoJob (job_at Q job) tt, (phase_plain _ (job_at Q job), (job_named Q m s job, tt)))
refusals_named Q m s command.TakeExec y = (none_plain refusal.Nothing _ tt, tt)
refusals_named Q m s (command.Ended job specs) y =
    (none_plain refusal.NoJob (job_at Q job) tt, (phase_plain _ (job_at Q job), (job_named Q m s job, (where_plain _ refusal.OutputsFull tt, (where_plain _ refusal.Nothing tt, tt)))))
refusals_named Q m s command.Gather y = (none_plain refusal.Nothing _ tt, tt)
refusals_named Q m s command.Pick y = (in_use_named Q m s y (printing_at Q m), (none_plain refusal.Nothing _ tt, tt))
refusals_named Q m s (command.Mark job index at) y = (none_plain refusal.NoOutput (output_at Q job index) tt, (output_named Q m s job index, tt))
refusals_named Q m s (command.Done job index) y =
    (none_plain refusal.NoOutput (output_at Q job index) tt, (output_named Q m s job index, (printed_plain (output_at Q job index), tt)))
refusals_named Q m s command.Purge y = (none_plain refusal.Nothing _ tt, tt)
refusals_named Q m s (command.Hold job) y = (none_plain refusal.NoJob (job_at Q job) tt, tt)
refusals_named Q m s (command.Release job) y = (none_plain refusal.NoJob (job_at Q job) tt, tt)
refusals_named Q m s (command.Cancel job) y =
    (none_plain refusal.NoJob (job_at Q job) tt, (past_plain Q (job_at Q job), (elsewhere_named Q m s _ (printing_elsewhere Q m job) refl, tt)))
refusals_named Q m s (command.SetPrio job prio) y = (none_plain refusal.NoJob (job_at Q job) tt, (phase_plain _ (job_at Q job), tt))
refusals_named Q m s (command.SetClass job class) y = (none_plain refusal.NoJob (job_at Q job) tt, (phase_plain _ (job_at Q job), tt))
refusals_named Q m s (command.Out job) y = (none_plain refusal.NoJob (job_at Q job) tt, tt)
refusals_named Q m s (command.CancelOut job index) y =
    (none_plain refusal.NoOutput (output_at Q job index) tt, (elsewhere_named Q m s (has_key job index) (output_at Q job index) refl, tt))
refusals_named Q m s (command.SetOut job index class) y =
    (none_plain refusal.NoOutput (output_at Q job index) tt, (elsewhere_named Q m s (has_key job index) (output_at Q job index) refl, tt))
refusals_named Q m s (command.Show (what.Job n)) y = (none_plain refusal.NoJob (job_at Q n) tt, tt)
refusals_named Q m s (command.Show what.Queue) y = tt
refusals_named Q m s (command.Show what.Outputs) y = tt
refusals_named Q m s (command.Show what.Spool) y = tt
refusals_named Q m s (command.Show what.Members) y = tt
refusals_named Q m s (command.SetInit classes) y = tt
refusals_named Q m s (command.SetPrt classes forms lines) y = tt
refusals_named Q m s (command.Back lines) y = (none_plain refusal.Nothing (printing_at Q m) tt, tt)
refusals_named Q m s (command.Forward lines) y = (none_plain refusal.Nothing (printing_at Q m) tt, tt)
refusals_named Q m s (command.Reset of_member) y = (where_plain _ refusal.NoMember tt, tt)
refusals_named Q m s command.Restart y = tt
refusals_named Q m s (command.Load line) y = (none_plain refusal.Nothing _ tt, tt)
refusals_named Q m s (command.Sent line number) y =
    (where_plain _ (refusal.Again number) tt, (where_plain _ (refusal.Gap number _) tt, (none_plain refusal.Nothing _ tt, tt)))
refusals_named Q m s (command.Got line number job text) y = (
  where_plain _ (refusal.Again number) tt,
  (
    where_plain _ (refusal.Gap number _) tt,
    (none_plain refusal.NoJob (job_at Q job) tt, (phase_plain _ (job_at Q job), (job_named Q m s job, (where_plain _ refusal.Nothing tt, tt)))),
  ),
)

answer_named : (Q : Queue) (m : MemberId) (c : Command) → IsReplyNamed (row_of Q m c).answer
answer_named Q m (command.Begin fields) = tt
answer_named Q m (command.Take want) = tt
answer_named Q m (command.Drop job) = tt
answer_named Q m (command.Enter job text) = tt
answer_named Q m command.TakeConvert = tt
answer_named Q m (command.Converted job) = tt
answer_named Q m command.TakeExec = tt
answer_named Q m (command.Ended job specs) = tt
answer_named Q m command.Gather = tt
answer_named Q m command.Pick = tt
answer_named Q m (command.Mark job index at) = tt
answer_named Q m (command.Done job index) = tt
answer_named Q m command.Purge = tt
answer_named Q m (command.Hold job) = tt
answer_named Q m (command.Release job) = tt
answer_named Q m (command.Cancel job) = tt
answer_named Q m (command.SetPrio job prio) = tt
answer_named Q m (command.SetClass job class) = tt
answer_named Q m (command.Out job) = tt
answer_named Q m (command.CancelOut job index) = tt
answer_named Q m (command.SetOut job index class) = tt
answer_named Q m (command.Show what) = tt
answer_named Q m (command.SetInit classes) = tt
answer_named Q m (command.SetPrt classes forms lines) = tt
answer_named Q m (command.Back lines) = tt
answer_named Q m (command.Forward lines) = tt
answer_named Q m (command.Reset of_member) = tt
answer_named Q m command.Restart = tt
answer_named Q m (command.Load line) = tt
answer_named Q m (command.Sent line number) = tt
answer_named Q m (command.Got line number job text) = tt

pub names_members : NamesMembers
names_members Q m c sound may =
    named_settled Q (row_of Q m c).effect (row_of Q m c).answer (first_some (row_of Q m c).refusals) (answer_named Q m c)
    (named_first (row_of Q m c).refusals (refusals_named Q m sound c may))
