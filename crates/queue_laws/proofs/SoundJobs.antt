-- The commands that change one job keep the sound parts.
use Rattle.std.proofs.Common.{◌≡◌, ℕ, Bool, true, false, not, ◌&&◌, ◌||◌, [], ◌∷◌, Option, Some, None, refl, subst}
use Rattle.std.specs.Prelude.{if◌then◌else◌}
use Rattle.std.specs.List.{find}
use Rattle.mas_types.specs.declared.ids.MemberId.{MemberId}
use Rattle.mas_types.specs.declared.ids.JobNo.{JobNo}
use Rattle.mas_types.specs.declared.ids.Class.{Class}
use Rattle.mas_types.specs.declared.ids.Prio.{Prio}
use Rattle.mas_types.specs.declared.jobs.Phase.{Phase}
use Rattle.mas_types.specs.declared.jobs.Phase.TheVariants as phase
use Rattle.mas_types.specs.declared.jobs.Job.{Job}
use Rattle.mas_types.specs.declared.queues.Config.{Config}
use Rattle.mas_types.specs.declared.queues.Queue.{Queue}
use Rattle.mas_types.specs.declared.commands.Refusal.TheVariants as refusal
use Rattle.mas_types.specs.Lists.{first_some, change_first}
use Rattle.mas_types.specs.Ids.{is_somebody}
use Rattle.mas_types.specs.Queue.{in_input, in_convert, in_execute, in_output, in_xmit, is_in, current_on, is_current_on, has_output, change_job, job_at, is_waiting}
use Rattle.mas_types.specs.Selection.{is_for_convert, is_for_execute}
use Rattle.mas_types.specs.Row.{wrong_phase, none_such, job_not_at}
use Rattle.mas_types.specs.Queue.{is_member}
use Rattle.mas_types.specs.Commands.Operator.{with_held, with_prio, with_class}
use Rattle.mas_types.specs.Commands.Life.{made_busy, take_convert_row, take_exec_row, converted_row, converted, gather_row, gathered}
use Rattle.mas_types.specs.Sound.{IsSound, IsSoundJob, may_have_outputs, may_be_busy}
use Rattle.queue_laws.proofs.Done.{none_first}
use Rattle.queue_laws.proofs.Finds.{test_cases, find-All}
use Rattle.queue_laws.proofs.Others.{found_itself, IsFoundIn, change-by_number, for_convert_waits, for_execute_waits, current_is_sent, both_first, second_none, rests_output, rests_xmit}
use Rattle.queue_laws.proofs.Soundness.{IsSafe, sound-change_job}

-- a change of what no other part looks at
pub safe_fields : (Q : Queue) (n : JobNo) (f : Job → Job) → ((j : Job) → (f j).number ≡ j.number) → ((j : Job) → (f j).phase ≡ j.phase) → ((j : Job) → (f j).busy ≡ j.busy) → ((j : Job) → (f j).text ≡ j.text) → IsSafe Q n f
safe_fields Q n f numbers phases busies texts = record {
  number = numbers;
  text = texts;
  right = λ j found s. record {
    number = rw (numbers j) s.number;
    busy = rw (busies j) s.busy;
    busy_phase = rw (busies j, phases j) s.busy_phase;
    text = rw (texts j) s.text;
    no_cards = rw (phases j, texts j) s.no_cards;
  };
  outputs = λ j found has may. rw (phases j) may;
  past_input = λ j found past. rw (phases j) past;
}

pub held_sound : (Q : Queue) (n : JobNo) (held : Bool) → IsSound Q → IsSound (change_job n (with_held held) Q)
held_sound Q n held sound = sound-change_job Q n (with_held held) sound (safe_fields Q n (with_held held) (λ j. refl) (λ j. refl) (λ j. refl) (λ j. refl))

pub prio_sound : (Q : Queue) (n : JobNo) (prio : Prio) → IsSound Q → IsSound (change_job n (with_prio prio) Q)
prio_sound Q n prio sound = sound-change_job Q n (with_prio prio) sound (safe_fields Q n (with_prio prio) (λ j. refl) (λ j. refl) (λ j. refl) (λ j. refl))

pub class_sound : (Q : Queue) (n : JobNo) (class : Class) → IsSound Q → IsSound (change_job n (with_class class) Q)
class_sound Q n class sound = sound-change_job Q n (with_class class) sound (safe_fields Q n (with_class class) (λ j. refl) (λ j. refl) (λ j. refl) (λ j. refl))

-- PHASES

works_convert : (p : Phase) → in_convert p ≡ true → may_be_busy p ≡ true
works_convert phase.Convert h = refl
works_convert phase.Input h = absurd (cc)
works_convert phase.Execute h = absurd (cc)
works_convert phase.Output h = absurd (cc)
works_convert phase.Hardcopy h = absurd (cc)
works_convert phase.Purge h = absurd (cc)
works_convert phase.Xmit h = absurd (cc)

works_execute : (p : Phase) → in_execute p ≡ true → may_be_busy p ≡ true
works_execute phase.Execute h = refl
works_execute phase.Input h = absurd (cc)
works_execute phase.Convert h = absurd (cc)
works_execute phase.Output h = absurd (cc)
works_execute phase.Hardcopy h = absurd (cc)
works_execute phase.Purge h = absurd (cc)
works_execute phase.Xmit h = absurd (cc)

no_outputs_convert : (p : Phase) → in_convert p ≡ true → may_have_outputs p ≡ false
no_outputs_convert phase.Convert h = refl
no_outputs_convert phase.Input h = absurd (cc)
no_outputs_convert phase.Execute h = absurd (cc)
no_outputs_convert phase.Output h = absurd (cc)
no_outputs_convert phase.Hardcopy h = absurd (cc)
no_outputs_convert phase.Purge h = absurd (cc)
no_outputs_convert phase.Xmit h = absurd (cc)

pub busy_member : (a b : Bool) → (a && b) ≡ true → (not a || (a && b)) ≡ true
busy_member true b h = h
busy_member false b h = refl

-- THE FIRST JOB THAT A TEST PICKS

-- a job that is found by a test is the one that is found by its number
pub same_found : (Q : Queue) (p : Job → Bool) (x j : Job) → IsSound Q → find p Q.jobs ≡ Some x → job_at Q x.number ≡ Some j → (x ≡ j) × (p x ≡ true)
same_found Q p x j sound first found =
    let here = find-All (IsFoundIn Q.jobs) p Q.jobs x (found_itself Q.jobs sound.numbers) first in
    (cc (here.0, found), here.1)

-- what a change of a job that the test picks has to keep
pub record IsSafeFirst (Q : Queue) (p : Job → Bool) (f : Job → Job) : Type 0 where
  pub number : (j : Job) → (f j).number ≡ j.number
  pub text : (j : Job) → (f j).text ≡ j.text
  pub right : (j : Job) → p j ≡ true → IsSoundJob Q.config j → IsSoundJob Q.config (f j)
  pub outputs : (j : Job) → p j ≡ true → has_output j.number Q ≡ true → may_have_outputs j.phase ≡ true → may_have_outputs (f j).phase ≡ true
  pub past_input : (j : Job) → p j ≡ true → not (in_input j.phase) ≡ true → not (in_input (f j).phase) ≡ true

safe_first : (Q : Queue) (p : Job → Bool) (f : Job → Job) → IsSound Q → IsSafeFirst Q p f → (x : Job) → find p Q.jobs ≡ Some x → IsSafe Q x.number f
safe_first Q p f sound safe x first = record {
  number = safe.number;
  text = safe.text;
  right = λ j found s. safe.right j (picked j found) s;
  outputs = λ j found has may. safe.outputs j (picked j found) (subst (λ (y : Job). has_output y.number Q ≡ true) (same_found Q p x j sound first found).0 has) may;
  past_input = λ j found past. safe.past_input j (picked j found) past;
}
  where
    picked : (j : Job) → job_at Q x.number ≡ Some j → p j ≡ true
    picked j found = let same = same_found Q p x j sound first found in subst (λ (y : Job). p y ≡ true) same.0 same.1

pub first_job_sound : (Q : Queue) (p : Job → Bool) (f : Job → Job) → IsSound Q → IsSafeFirst Q p f → none_such refusal.Nothing (find p Q.jobs) ≡ None → IsSound (record Q { jobs = change_first p f Q.jobs })
first_job_sound Q p f sound safe none = go (find p Q.jobs) refl none
  where
    go : (o : Option Job) → find p Q.jobs ≡ o → none_such refusal.Nothing o ≡ None → IsSound (record Q { jobs = change_first p f Q.jobs })
    go None first none = absurd (cc)
    go (Some x) first none = rw (change-by_number Q.jobs p f x sound.numbers first) (sound-change_job Q x.number f sound (safe_first Q p f sound safe x first))

-- TAKE CONVERT, TAKE EXEC

-- a job that waits becomes busy at a member
taken_safe : (Q : Queue) (m : MemberId) (p : Job → Bool) → is_member Q.config m ≡ true → ((j : Job) → p j ≡ true → may_be_busy j.phase ≡ true) → IsSafeFirst Q p (made_busy m)
taken_safe Q m p member works = record {
  number = λ j. refl;
  text = λ j. refl;
  right = λ j picked s. record {
    number = s.number;
    busy = busy_member (is_somebody m) _ member;
    busy_phase = λ _. works j picked;
    text = s.text;
    no_cards = s.no_cards;
  };
  outputs = λ j picked has may. may;
  past_input = λ j picked past. past;
}

pub take_convert_sound : (Q : Queue) (m : MemberId) → IsSound Q → is_member Q.config m ≡ true → first_some (take_convert_row Q m).refusals ≡ None → IsSound (take_convert_row Q m).effect
take_convert_sound Q m sound member none =
    first_job_sound Q (is_for_convert Q) (made_busy m) sound
    (taken_safe Q m (is_for_convert Q) member (λ j picked. works_convert j.phase (both_first (in_convert j.phase) (is_waiting j) (for_convert_waits Q j picked)))) (none_first _ _ none).0

pub take_exec_sound : (Q : Queue) (m : MemberId) → IsSound Q → is_member Q.config m ≡ true → first_some (take_exec_row Q m).refusals ≡ None → IsSound (take_exec_row Q m).effect
take_exec_sound Q m sound member none =
    first_job_sound Q (is_for_execute Q m) (made_busy m) sound
    (taken_safe Q m (is_for_execute Q m) member (λ j picked. works_execute j.phase (both_first (in_execute j.phase) (is_waiting j) (for_execute_waits Q m j picked)))) (none_first _ _ none).0

-- CONVERTED

right_phase : (fits : Phase → Bool) (j : Job) → wrong_phase fits (Some j) ≡ None → fits j.phase ≡ true
right_phase fits j h = test_cases (fits j.phase) (fits j.phase ≡ true) (λ e. e) (λ e. absurd (let w = rw e at h in cc))

-- the job that was not refused by its phase is in that phase
pub in_phase_of : (Q : Queue) (n : JobNo) (fits : Phase → Bool) → wrong_phase fits (job_at Q n) ≡ None → (j : Job) → job_at Q n ≡ Some j → fits j.phase ≡ true
in_phase_of Q n fits none j found = right_phase fits j (rw found at none)

past_converted : (cancelled : Bool) → in_input (if cancelled then phase.Purge else phase.Execute) ≡ false
past_converted true = refl
past_converted false = refl

pub converted_sound : (Q : Queue) (m : MemberId) (n : JobNo) → IsSound Q → first_some (converted_row Q m n).refusals ≡ None → IsSound (converted_row Q m n).effect
converted_sound Q m n sound none = sound-change_job Q n converted sound (record {
  number = λ j. refl;
  text = λ j. refl;
  right = λ j found s. record {
    number = s.number;
    busy = refl;
    busy_phase = λ e. absurd (cc);
    text = s.text;
    no_cards = λ e. absurd (let w = rw (past_converted j.cancelled) at e in cc);
  };
  outputs = λ j found has may. absurd (let w = rw (no_outputs_convert j.phase (in_phase_of Q n in_convert (second_none (none_such refusal.NoJob (job_at Q n)) (wrong_phase in_convert (job_at Q n)) (job_not_at m (job_at Q n) ∷ []) none) j found)) at may in cc);
  past_input = λ j found past. rw (past_converted j.cancelled) refl;
})

-- GATHER

-- nobody is busy with a job that rests
pub rest_right : (config : Config) (j : Job) (p : Phase) → may_be_busy j.phase ≡ false → in_input p ≡ false → IsSoundJob config j → IsSoundJob config (record j { phase = p })
rest_right config j p rests past s = record {
  number = s.number;
  busy = s.busy;
  busy_phase = λ somebody. absurd (let w = rw rests at (s.busy_phase somebody) in cc);
  text = s.text;
  no_cards = λ e. absurd (let w = rw past at e in cc);
}

past_gathered : (has : Bool) → in_input (if has then phase.Hardcopy else phase.Purge) ≡ false
past_gathered true = refl
past_gathered false = refl

pub gather_sound : (Q : Queue) → IsSound Q → first_some (gather_row Q).refusals ≡ None → IsSound (gather_row Q).effect
gather_sound Q sound none = first_job_sound Q (is_in in_output) (gathered Q) sound (record {
  number = λ j. refl;
  text = λ j. refl;
  right = λ j picked s. rest_right Q.config j _ (rests_output j.phase picked) (past_gathered (has_output j.number Q)) s;
  outputs = λ j picked has may. rw has refl;
  past_input = λ j picked past. rw (past_gathered (has_output j.number Q)) refl;
}) (none_first _ _ none).0

-- SENT

no_outputs_xmit : (p : Phase) → in_xmit p ≡ true → may_have_outputs p ≡ false
no_outputs_xmit phase.Xmit h = refl
no_outputs_xmit phase.Input h = absurd (cc)
no_outputs_xmit phase.Convert h = absurd (cc)
no_outputs_xmit phase.Execute h = absurd (cc)
no_outputs_xmit phase.Output h = absurd (cc)
no_outputs_xmit phase.Hardcopy h = absurd (cc)
no_outputs_xmit phase.Purge h = absurd (cc)

-- a job that was sent is purged
pub sent_job_sound : (Q : Queue) (l : ℕ) → IsSound Q → none_such refusal.Nothing (current_on Q l) ≡ None → IsSound (record Q { jobs = change_first (is_current_on Q l) (λ j. record j { phase = phase.Purge }) Q.jobs })
sent_job_sound Q l sound none = first_job_sound Q (is_current_on Q l) (λ j. record j { phase = phase.Purge }) sound (record {
  number = λ j. refl;
  text = λ j. refl;
  right = λ j picked s. rest_right Q.config j phase.Purge (rests_xmit j.phase (current_is_sent Q l j picked)) refl s;
  outputs = λ j picked has may. absurd (let w = rw (no_outputs_xmit j.phase (current_is_sent Q l j picked)) at may in cc);
  past_input = λ j picked past. refl;
}) none
