-- Every command keeps the sound parts.
use Rattle.std.proofs.Common.{◌≡◌, true, false, not, [], None, refl, arith}
use Rattle.std.proofs.lemmas.Bool.{not-false as not_false}
use Rattle.std.proofs.lemmas.Bool.Decides.{nat_tests}
use Rattle.mas_types.specs.declared.ids.MemberId.{MemberId}
use Rattle.mas_types.specs.declared.queues.Queue.{Queue}
use Rattle.mas_types.specs.declared.jobs.Phase.TheVariants as phase
use Rattle.mas_types.specs.declared.commands.Command.{Command}
use Rattle.mas_types.specs.declared.commands.Command.TheVariants as command
use Rattle.mas_types.specs.declared.commands.Refusal.TheVariants as refusal
use Rattle.mas_types.specs.Lists.{first_some, change_first}
use Rattle.mas_types.specs.Ids.{is_somebody, same_member}
use Rattle.mas_types.specs.Queue.{is_member, current_on, is_current_on}
use Rattle.mas_types.specs.Row.{none_such}
use Rattle.mas_types.specs.Commands.Members.{reset_row}
use Rattle.mas_types.specs.Commands.Wire.{again, gap, sent_on}
use Rattle.mas_types.specs.Fit.{IsFit}
use Rattle.mas_types.specs.Sound.{IsSound}
use Rattle.mas_types.specs.Step.{row_of, may_give}
use Rattle.queue_laws.specs.Laws.{KeepsSound}
use Rattle.queue_laws.proofs.Done.{done_keeps, none_first, where_not}
use Rattle.queue_laws.proofs.Others.{third_none, both_first}
use Rattle.queue_laws.proofs.SoundJobs as jobs
use Rattle.queue_laws.proofs.SoundOwners as owners
use Rattle.queue_laws.proofs.SoundOutputs as outputs
use Rattle.queue_laws.proofs.SoundBegin.{begin_sound}
use Rattle.queue_laws.proofs.SoundReset.{reset_sound}
use Rattle.queue_laws.proofs.SoundGone as gone
use Rattle.queue_laws.proofs.SoundEnter.{enter_sound, got_sound}
use Rattle.queue_laws.proofs.SoundEnded.{ended_sound}

-- nobody is reset
never_nobody : (of_member m : MemberId) → is_somebody of_member ≡ true → is_somebody m ≡ false → same_member m of_member ≡ false
never_nobody of_member m somebody none = grind (arith, nat_tests)

none_member : (Q : Queue) (k : MemberId) → is_somebody k ≡ false → is_member Q.config k ≡ false
none_member Q k none = rw none refl

reset_at : (Q : Queue) (of_member : MemberId) → IsSound Q → first_some (reset_row Q of_member).refusals ≡ None → IsSound (reset_row Q of_member).effect
reset_at Q of_member s none =
    let right : not (is_member Q.config of_member) ≡ false = where_not (not (is_member Q.config of_member)) refusal.NoMember (none_first _ _ none).0 in
    let member : is_member Q.config of_member ≡ true = not_false (is_member Q.config of_member) right in
    reset_sound (λ h. same_member h of_member) (λ k nobody. never_nobody of_member k (both_first (is_somebody of_member) _ member) nobody) Q s

effect_sound : (Q : Queue) (m : MemberId) → IsSound Q → (c : Command) → may_give Q m c ≡ true → IsFit c → first_some (row_of Q m c).refusals ≡ None → IsSound (row_of Q m c).effect
effect_sound Q m s (command.Begin fields) y fit n = begin_sound Q m fields s y n
effect_sound Q m s (command.Take want) y fit n = owners.take_sound Q m want s y
effect_sound Q m s (command.Drop job) y fit n = gone.drop_sound Q m job s n
effect_sound Q m s (command.Enter job text) y fit n = enter_sound Q m job text s fit n
effect_sound Q m s command.TakeConvert y fit n = jobs.take_convert_sound Q m s y n
effect_sound Q m s (command.Converted job) y fit n = jobs.converted_sound Q m job s n
effect_sound Q m s command.TakeExec y fit n = jobs.take_exec_sound Q m s y n
effect_sound Q m s (command.Ended job specs) y fit n = ended_sound Q m job specs s fit.0 fit.1 n
effect_sound Q m s command.Gather y fit n = jobs.gather_sound Q s n
effect_sound Q m s command.Pick y fit n = outputs.pick_sound Q m s y n
effect_sound Q m s (command.Mark job index at) y fit n = outputs.mark_sound Q m job index at s
effect_sound Q m s (command.Done job index) y fit n = gone.gone_sound Q job index s
effect_sound Q m s command.Purge y fit n = gone.purge_sound Q s n
effect_sound Q m s (command.Hold job) y fit n = jobs.held_sound Q job true s
effect_sound Q m s (command.Release job) y fit n = jobs.held_sound Q job false s
effect_sound Q m s (command.Cancel job) y fit n = gone.cancel_sound Q m job s
effect_sound Q m s (command.SetPrio job prio) y fit n = jobs.prio_sound Q job prio s
effect_sound Q m s (command.SetClass job class) y fit n = jobs.class_sound Q job class s
effect_sound Q m s (command.Out job) y fit n = outputs.out_sound job Q s
effect_sound Q m s (command.CancelOut job index) y fit n = gone.gone_sound Q job index s
effect_sound Q m s (command.SetOut job index class) y fit n = outputs.class_sound Q job index class m s
effect_sound Q m s (command.Show what) y fit n = s
effect_sound Q m s (command.SetInit classes) y fit n = owners.settings_sound Q m _ s (λ t old. record { init = fit; prt = old.prt; forms = old.forms; lines = old.lines })
effect_sound Q m s (command.SetPrt classes forms lines) y fit n = owners.settings_sound Q m _ s (λ t old. record { init = old.init; prt = fit.0; forms = fit.1; lines = fit.2 })
effect_sound Q m s (command.Back lines) y fit n = outputs.back_sound Q m lines s
effect_sound Q m s (command.Forward lines) y fit n = outputs.forward_sound Q m lines s
effect_sound Q m s (command.Reset of_member) y fit n = reset_at Q of_member s n
effect_sound Q m s command.Restart y fit n = reset_sound (is_member Q.config) (λ k none. none_member Q k none) Q s
effect_sound Q m s (command.Load line) y fit n = owners.wires_sound Q line _ s
effect_sound Q m s (command.Sent line number) y fit n =
    owners.wires_sound (record Q { jobs = change_first (is_current_on Q line) (λ j. record j { phase = phase.Purge }) Q.jobs }) line _
    (jobs.sent_job_sound Q line s (third_none (again (sent_on Q line) number) (gap (sent_on Q line) number) (none_such refusal.Nothing (current_on Q line)) [] n))
effect_sound Q m s (command.Got line number job text) y fit n = got_sound Q m line number job text s fit.1 n

pub keeps_sound : KeepsSound
keeps_sound Q m c sound fit member = done_keeps Q (row_of Q m c) IsSound sound (effect_sound Q m sound c member fit)
