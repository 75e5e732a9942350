-- What each command does to the outputs.
use Rattle.std.proofs.Common.{◌≡◌, ℕ, ◌+◌, ◌-◌, min, Bool, false, ◌==◌, ◌≤◌, nat_lt, [], Some, None, refl, arith}
use Rattle.std.specs.Prelude.{if◌then◌else◌}
use Rattle.std.proofs.lemmas.Bool.Decides.{nat_tests}
use Rattle.mas_types.specs.declared.ids.MemberId.{MemberId}
use Rattle.mas_types.specs.declared.ids.JobNo.{JobNo}
use Rattle.mas_types.specs.declared.ids.OutNo.{OutNo}
use Rattle.mas_types.specs.declared.jobs.Output.{Output}
use Rattle.mas_types.specs.declared.queues.Queue.{Queue}
use Rattle.mas_types.specs.declared.commands.Command.{Command}
use Rattle.mas_types.specs.declared.commands.Command.TheVariants as command
use Rattle.mas_types.specs.declared.commands.Refusal.TheVariants as refusal
use Rattle.mas_types.specs.Lists.{first_some}
use Rattle.mas_types.specs.Ids.{same_member}
use Rattle.mas_types.specs.Queue.{has_key, job_at, output_at, prints_at, total, is_member}
use Rattle.mas_types.specs.Row.{none_such, output_not_at}
use Rattle.mas_types.specs.Selection.{is_for_printer}
use Rattle.mas_types.specs.Reset.{reset_output}
use Rattle.mas_types.specs.Commands.Printing.{picked_by, marked, not_printed}
use Rattle.mas_types.specs.Commands.Operator.{is_held_of, released, cancel_row, is_busy}
use Rattle.mas_types.specs.Step.{row_of}
use Rattle.queue_laws.proofs.Done.{done_keeps, where_not}
use Rattle.queue_laws.proofs.Finds.{test_cases}
use Rattle.queue_laws.proofs.Others.{third_none}
use Rattle.paper_laws.specs.Leaving.{CommandsTakeOutputs}
use Rattle.paper_laws.proofs.Stays.{Stays, found_passes, same_list, changed, mapped, appended, removed, left_without}

-- an output of which all lines are printed
all_printed : (mark total : ℕ) → nat_lt mark total ≡ false → total ≤ mark
all_printed mark total h = grind (arith, nat_tests)

printed_out : (o : Output) → not_printed (Some o) ≡ None → total o ≤ o.mark
printed_out o none = all_printed o.mark (total o) (where_not (nat_lt o.mark (total o)) refusal.Nothing none)

released_key : (k n : JobNo) (i : OutNo) (o : Output) → has_key n i (if is_held_of k o then released o else o) ≡ has_key n i o
released_key k n i o = test_cases (is_held_of k o) (has_key n i (if is_held_of k o then released o else o) ≡ has_key n i o) (λ e. rw e refl) (λ e. rw e refl)

reset_key : (picks : MemberId → Bool) (n : JobNo) (i : OutNo) (o : Output) → has_key n i (if picks o.busy then reset_output o else o) ≡ has_key n i o
reset_key picks n i o = test_cases (picks o.busy) (has_key n i (if picks o.busy then reset_output o else o) ≡ has_key n i o) (λ e. rw e refl) (λ e. rw e refl)

effect_stays : (Q : Queue) (m : MemberId) (c : Command) → first_some (row_of Q m c).refusals ≡ None → (n : JobNo) (i : OutNo) → Stays c Q.outputs (row_of Q m c).effect.outputs n i
effect_stays Q m (command.Begin fields) r n i = same_list (command.Begin fields) n i Q.outputs
effect_stays Q m (command.Take want) r n i = same_list (command.Take want) n i Q.outputs
effect_stays Q m (command.Drop job) r n i =
    test_cases (job.0 == 0) (Stays (command.Drop job) Q.outputs (row_of Q m (command.Drop job)).effect.outputs n i)
    (λ e. rw e (same_list (command.Drop job) n i Q.outputs)) (λ e. rw e (same_list (command.Drop job) n i Q.outputs))
effect_stays Q m (command.Enter job text) r n i = same_list (command.Enter job text) n i Q.outputs
effect_stays Q m command.TakeConvert r n i = same_list command.TakeConvert n i Q.outputs
effect_stays Q m (command.Converted job) r n i = same_list (command.Converted job) n i Q.outputs
effect_stays Q m command.TakeExec r n i = same_list command.TakeExec n i Q.outputs
effect_stays Q m (command.Ended job specs) r n i = appended (command.Ended job specs) n i Q.outputs _
effect_stays Q m command.Gather r n i = same_list command.Gather n i Q.outputs
effect_stays Q m command.Pick r n i = changed command.Pick n i (is_for_printer Q m) (picked_by m) Q.outputs (λ o. refl)
effect_stays Q m (command.Mark job index at) r n i = changed (command.Mark job index at) n i (has_key job index) (marked (λ o. min at (total o))) Q.outputs (λ o. refl)
effect_stays Q m (command.Done job index) r n i =
    removed (command.Done job index) n i job index Q.outputs (λ x found.
    let none : not_printed (Some x) ≡ None = rw found at (third_none (none_such refusal.NoOutput (output_at Q job index)) (output_not_at m (output_at Q job index)) (not_printed (output_at Q job index)) [] r) in
    (found_passes (has_key job index) Q.outputs x found, printed_out x none))
effect_stays Q m command.Purge r n i = same_list command.Purge n i Q.outputs
effect_stays Q m (command.Hold job) r n i = same_list (command.Hold job) n i Q.outputs
effect_stays Q m (command.Release job) r n i = same_list (command.Release job) n i Q.outputs
effect_stays Q m (command.Cancel job) r n i =
    test_cases (is_busy (job_at Q job)) (Stays (command.Cancel job) Q.outputs (cancel_row Q m job).effect.outputs n i)
    (λ e. rw e (same_list (command.Cancel job) n i Q.outputs))
    (λ e. rw e (left_without (command.Cancel job) n i job Q.outputs (λ x mine. mine)))
effect_stays Q m (command.SetPrio job prio) r n i = same_list (command.SetPrio job prio) n i Q.outputs
effect_stays Q m (command.SetClass job class) r n i = same_list (command.SetClass job class) n i Q.outputs
effect_stays Q m (command.Out job) r n i = mapped (command.Out job) n i (λ o. if is_held_of job o then released o else o) Q.outputs (released_key job n i)
effect_stays Q m (command.CancelOut job index) r n i = removed (command.CancelOut job index) n i job index Q.outputs (λ x found. found_passes (has_key job index) Q.outputs x found)
effect_stays Q m (command.SetOut job index class) r n i = changed (command.SetOut job index class) n i (has_key job index) (λ o. record o { class = class }) Q.outputs (λ o. refl)
effect_stays Q m (command.Show what) r n i = same_list (command.Show what) n i Q.outputs
effect_stays Q m (command.SetInit classes) r n i = same_list (command.SetInit classes) n i Q.outputs
effect_stays Q m (command.SetPrt classes forms lines) r n i = same_list (command.SetPrt classes forms lines) n i Q.outputs
effect_stays Q m (command.Back lines) r n i = changed (command.Back lines) n i (prints_at m) (marked (λ o. o.mark - lines)) Q.outputs (λ o. refl)
effect_stays Q m (command.Forward lines) r n i = changed (command.Forward lines) n i (prints_at m) (marked (λ o. min (o.mark + lines) (total o))) Q.outputs (λ o. refl)
effect_stays Q m (command.Reset of_member) r n i = mapped (command.Reset of_member) n i (λ o. if same_member o.busy of_member then reset_output o else o) Q.outputs (reset_key (λ h. same_member h of_member) n i)
effect_stays Q m command.Restart r n i = mapped command.Restart n i (λ o. if is_member Q.config o.busy then reset_output o else o) Q.outputs (reset_key (is_member Q.config) n i)
effect_stays Q m (command.Load line) r n i = same_list (command.Load line) n i Q.outputs
effect_stays Q m (command.Sent line number) r n i = same_list (command.Sent line number) n i Q.outputs
effect_stays Q m (command.Got line number job text) r n i = same_list (command.Got line number job text) n i Q.outputs

pub commands_take : CommandsTakeOutputs
commands_take Q m c n i o there gone =
    done_keeps Q (row_of Q m c) (λ R. Stays c Q.outputs R.outputs n i) (same_list c n i Q.outputs) (λ none. effect_stays Q m c none n i) o there gone
