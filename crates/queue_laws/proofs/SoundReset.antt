-- Reset and Restart keep the sound parts.
use Rattle.std.proofs.Common.{◌≡◌, ℕ, zero, suc, Bool, true, false, not, ◌&&◌, ◌==◌, List, map, Option, Some, None, refl, ap, ◌∙◌}
use Rattle.std.specs.Prelude.{option_map, if◌then◌else◌, is_some}
use Rattle.std.specs.Option.{option_map_or}
use Rattle.std.specs.List.{find}
use Rattle.std.proofs.lemmas.List.Elements.{All-map, All-weaker}
use Rattle.std.proofs.lemmas.List.{length-map}
use Rattle.mas_types.specs.declared.ids.MemberId.{MemberId}
use Rattle.mas_types.specs.declared.ids.JobNo.{JobNo}
use Rattle.mas_types.specs.declared.ids.OutNo.{OutNo}
use Rattle.mas_types.specs.declared.jobs.Phase.{Phase}
use Rattle.mas_types.specs.declared.jobs.Phase.TheVariants as phase
use Rattle.mas_types.specs.declared.jobs.Job.{Job}
use Rattle.mas_types.specs.declared.jobs.Output.{Output}
use Rattle.mas_types.specs.declared.queues.Owner.{Owner}
use Rattle.mas_types.specs.declared.queues.Owner.TheVariants as owner
use Rattle.mas_types.specs.declared.queues.Queue.{Queue}
use Rattle.mas_types.specs.Ids.{same_number, same_member, is_somebody, nobody}
use Rattle.mas_types.specs.Queue.{in_input, has_number, has_key}
use Rattle.mas_types.specs.Owners.{freed, is_held_by, is_deck_of, is_output_of}
use Rattle.mas_types.specs.Reset.{reset, reset_job, reset_output, phase_reset}
use Rattle.mas_types.specs.Sound.{IsSound, IsSoundJob, IsSoundOutput, HasDeckGroup, HasOutputGroup, is_there, is_owner_there, may_have_outputs, may_be_busy, same_place, same_key, same_printer, is_place_before_there}
use Rattle.queue_laws.proofs.Finds.{test_cases, find-map, find-All}
use Rattle.queue_laws.proofs.Freed.{AreDistinct-map, any-freed, All-freed, places-freed}

-- a job is never in Input after a reset
past_reset : (cancelled restart : Bool) (p : Phase) → in_input (if cancelled then phase.Purge else phase_reset restart p) ≡ false
past_reset true r p = refl
past_reset false r phase.Input = refl
past_reset false true phase.Execute = refl
past_reset false false phase.Execute = refl
past_reset false r phase.Convert = refl
past_reset false r phase.Output = refl
past_reset false r phase.Hardcopy = refl
past_reset false r phase.Purge = refl
past_reset false r phase.Xmit = refl

rests : (p : Phase) → may_have_outputs p ≡ true → may_be_busy p ≡ false
rests phase.Output h = refl
rests phase.Hardcopy h = refl
rests phase.Input h = absurd (cc)
rests phase.Convert h = absurd (cc)
rests phase.Execute h = absurd (cc)
rests phase.Purge h = absurd (cc)
rests phase.Xmit h = absurd (cc)

module _ (picks : MemberId → Bool) (never_nobody : (m : MemberId) → is_somebody m ≡ false → picks m ≡ false) where
  abbrev job_after : Job → Job
  job_after j = if picks j.busy then reset_job j else j

  abbrev output_after : Output → Output
  output_after o = if picks o.busy then reset_output o else o

  job_number : (j : Job) → (job_after j).number ≡ j.number
  job_number j = test_cases (picks j.busy) ((job_after j).number ≡ j.number) (λ e. rw e refl) (λ e. rw e refl)

  job_text : (j : Job) → (job_after j).text ≡ j.text
  job_text j = test_cases (picks j.busy) ((job_after j).text ≡ j.text) (λ e. rw e refl) (λ e. rw e refl)

  output_job : (o : Output) → (output_after o).job ≡ o.job
  output_job o = test_cases (picks o.busy) ((output_after o).job ≡ o.job) (λ e. rw e refl) (λ e. rw e refl)

  output_index : (o : Output) → (output_after o).index ≡ o.index
  output_index o = test_cases (picks o.busy) ((output_after o).index ≡ o.index) (λ e. rw e refl) (λ e. rw e refl)

  output_text : (o : Output) → (output_after o).text ≡ o.text
  output_text o = test_cases (picks o.busy) ((output_after o).text ≡ o.text) (λ e. rw e refl) (λ e. rw e refl)

  sound_job : (config : _) (j : Job) → IsSoundJob config j → IsSoundJob config (job_after j)
  sound_job config j s =
      test_cases (picks j.busy) (IsSoundJob config (job_after j))
      (λ e. rw e (record {
        number = s.number;
        busy = refl;
        busy_phase = λ d. absurd (cc);
        text = s.text;
        no_cards = λ d. absurd (let w = rw (past_reset j.cancelled j.fields.restart j.phase) at d in cc);
      }))
      (λ e. rw e s)

  -- what is there of a job that nothing but its phase decides
  is_there-after : (test : Job → Bool) (js : List Job) (n : JobNo) → ((j : Job) → find (has_number n) js ≡ Some j → test j ≡ true → test (job_after j) ≡ true) → is_there test js n ≡ true → is_there test (map job_after js) n ≡ true
  is_there-after test js n keeps there =
      rw (find-map (has_number n) job_after js (λ x. ap (λ v. same_number v n) (job_number x))) (go (find (has_number n) js) keeps there)
    where
      go : (o : Option Job) → ((j : Job) → o ≡ Some j → test j ≡ true → test (job_after j) ≡ true) → option_map_or test o false ≡ true → option_map_or test (option_map job_after o) false ≡ true
      go None keeps there = absurd (cc)
      go (Some j) keeps there = keeps j refl there

  past_after : (j : Job) → not (in_input j.phase) ≡ true → not (in_input (job_after j).phase) ≡ true
  past_after j past =
      test_cases (picks j.busy) (not (in_input (job_after j).phase) ≡ true)
      (λ e. rw (e, past_reset j.cancelled j.fields.restart j.phase) refl)
      (λ e. rw e past)

  module _ (Q : Queue) (sound : IsSound Q) where
    -- a job with outputs isn't busy, so that it stays as it is
    outputs_after : (n : JobNo) (j : Job) → find (has_number n) Q.jobs ≡ Some j → may_have_outputs j.phase ≡ true → may_have_outputs (job_after j).phase ≡ true
    outputs_after n j found may =
        let s = (find-All (IsSoundJob Q.config) (has_number n) Q.jobs j sound.jobs found).0 in
        test_cases (is_somebody j.busy) (may_have_outputs (job_after j).phase ≡ true)
        (λ e. absurd (let w = rw (rests j.phase may) at (s.busy_phase e) in cc))
        (λ e. rw (never_nobody j.busy e) may)

    owner_after : (g : Owner) → is_held_by picks g ≡ false → is_owner_there Q.config Q.jobs Q.outputs g ≡ true → is_owner_there Q.config (map job_after Q.jobs) (map output_after Q.outputs) g ≡ true
    owner_after owner.Free other there = refl
    owner_after (owner.Member m) other there = there
    owner_after (owner.Deck n place) other there = is_there-after (λ j. not (in_input j.phase)) Q.jobs n (λ j found. past_after j) there
    owner_after (owner.Output n i place) other there = rw (find-map (has_key n i) output_after Q.outputs (keys n i)) (is_some_map (find (has_key n i) Q.outputs) there)
      where
        keys : (n : JobNo) (i : OutNo) (o : Output) → has_key n i (output_after o) ≡ has_key n i o
        keys n i o = rw (output_job o, output_index o) refl

        is_some_map : (o : Option Output) → is_some o ≡ true → is_some (option_map output_after o) ≡ true
        is_some_map None h = absurd (cc)
        is_some_map (Some x) h = refl

    held_no_deck : (n : JobNo) (p : ℕ) (g : Owner) → is_held_by picks g ≡ true → same_place (owner.Deck n p) g ≡ false
    held_no_deck n p owner.Free h = refl
    held_no_deck n p (owner.Member m) h = refl
    held_no_deck n p (owner.Deck k q) h = absurd (cc)
    held_no_deck n p (owner.Output k i q) h = refl

    held_no_output : (n : JobNo) (i : OutNo) (p : ℕ) (g : Owner) → is_held_by picks g ≡ true → same_place (owner.Output n i p) g ≡ false
    held_no_output n i p owner.Free h = refl
    held_no_output n i p (owner.Member m) h = refl
    held_no_output n i p (owner.Deck k q) h = refl
    held_no_output n i p (owner.Output k l q) h = absurd (cc)

    held_not_deck : (n : JobNo) (g : Owner) → is_held_by picks g ≡ true → is_deck_of n g ≡ false
    held_not_deck n owner.Free h = refl
    held_not_deck n (owner.Member m) h = refl
    held_not_deck n (owner.Deck k q) h = absurd (cc)
    held_not_deck n (owner.Output k i q) h = refl

    held_not_output : (n : JobNo) (i : OutNo) (g : Owner) → is_held_by picks g ≡ true → is_output_of n i g ≡ false
    held_not_output n i owner.Free h = refl
    held_not_output n i (owner.Member m) h = refl
    held_not_output n i (owner.Deck k q) h = refl
    held_not_output n i (owner.Output k l q) h = absurd (cc)

    before_after : (g : Owner) → is_held_by picks g ≡ false → is_place_before_there Q.owners g ≡ true → is_place_before_there (freed (is_held_by picks) Q.owners) g ≡ true
    before_after owner.Free other h = refl
    before_after (owner.Member k) other h = refl
    before_after (owner.Deck n zero) other h = refl
    before_after (owner.Deck n (suc p)) other h = any-freed (is_held_by picks) (same_place (owner.Deck n p)) refl (held_no_deck n p) Q.owners ∙ h
    before_after (owner.Output n i zero) other h = refl
    before_after (owner.Output n i (suc p)) other h = any-freed (is_held_by picks) (same_place (owner.Output n i p)) refl (held_no_output n i p) Q.owners ∙ h

    nobody_prints : (m : MemberId) → (is_somebody m && same_member m nobody) ≡ false
    nobody_prints m = test_cases (m.0 == 0) ((is_somebody m && same_member m nobody) ≡ false) (λ e. rw e refl) (λ e. rw e refl)

    printer_after : (x y : Output) → same_printer x y ≡ false → same_printer (output_after x) (output_after y) ≡ false
    printer_after x y h =
        test_cases (picks x.busy) (same_printer (output_after x) (output_after y) ≡ false)
        (λ e. rw e refl)
        (λ e. rw e (test_cases (picks y.busy) (same_printer x (output_after y) ≡ false)
        (λ d. rw d (nobody_prints x.busy))
        (λ d. rw d h)))

    output_sound : (o : Output) → IsSoundOutput Q.config Q.jobs o → IsSoundOutput Q.config (map job_after Q.jobs) (output_after o)
    output_sound o s =
        test_cases (picks o.busy) (IsSoundOutput Q.config (map job_after Q.jobs) (output_after o))
        (λ e. rw e (record {
          index = s.index;
          copies = s.copies;
          lines = s.lines;
          job = is_there-after (λ j. may_have_outputs j.phase) Q.jobs o.job (outputs_after o.job) s.job;
          busy = refl;
          text = s.text;
          mark = s.mark;
        }))
        (λ e. rw e (record {
          index = s.index;
          copies = s.copies;
          lines = s.lines;
          job = is_there-after (λ j. may_have_outputs j.phase) Q.jobs o.job (outputs_after o.job) s.job;
          busy = s.busy;
          text = s.text;
          mark = s.mark;
        }))

    pub reset_sound : IsSound (reset picks Q)
    reset_sound = record {
      config = sound.config;
      few_jobs = rw (length-map Q.jobs job_after) sound.few_jobs;
      few_outputs = rw (length-map Q.outputs output_after) sound.few_outputs;
      each_group = length-map Q.owners _ ∙ sound.each_group;
      each_member = sound.each_member;
      few_routes = sound.few_routes;
      each_line = sound.each_line;
      last = sound.last;
      members = sound.members;
      jobs = All-map (IsSoundJob Q.config) job_after Q.jobs (All-weaker (IsSoundJob Q.config) (λ j. IsSoundJob Q.config (job_after j)) (sound_job Q.config) Q.jobs sound.jobs);
      decks = All-map (HasDeckGroup (freed (is_held_by picks) Q.owners)) job_after Q.jobs (All-weaker (HasDeckGroup Q.owners) (λ j. HasDeckGroup (freed (is_held_by picks) Q.owners) (job_after j)) (λ j deck. rw (job_text j, job_number j) (λ some. any-freed (is_held_by picks) (is_deck_of j.number) refl (held_not_deck j.number) Q.owners ∙ deck some)) Q.jobs sound.decks);
      outputs = All-map (IsSoundOutput Q.config (map job_after Q.jobs)) output_after Q.outputs (All-weaker (IsSoundOutput Q.config Q.jobs) (λ o. IsSoundOutput Q.config (map job_after Q.jobs) (output_after o)) output_sound Q.outputs sound.outputs);
      groups = All-map (HasOutputGroup (freed (is_held_by picks) Q.owners)) output_after Q.outputs (All-weaker (HasOutputGroup Q.owners) (λ o. HasOutputGroup (freed (is_held_by picks) Q.owners) (output_after o)) (λ o group. rw (output_text o, output_job o, output_index o) (λ some. any-freed (is_held_by picks) (is_output_of o.job o.index) refl (held_not_output o.job o.index) Q.owners ∙ group some)) Q.outputs sound.groups);
      owners = All-freed (is_held_by picks) (λ g. is_owner_there Q.config Q.jobs Q.outputs g ≡ true) (λ g. is_owner_there Q.config (map job_after Q.jobs) (map output_after Q.outputs) g ≡ true) refl owner_after Q.owners sound.owners;
      numbers = AreDistinct-map job_after (λ a b. same_number a.number b.number) (λ x y h. rw (job_number x, job_number y) h) Q.jobs sound.numbers;
      keys = AreDistinct-map output_after same_key (λ x y h. rw (output_job x, output_index x, output_job y, output_index y) h) Q.outputs sound.keys;
      printers = AreDistinct-map output_after same_printer printer_after Q.outputs sound.printers;
      places = places-freed (is_held_by picks) Q.owners sound.places;
      no_gaps = All-freed (is_held_by picks) (λ g. is_place_before_there Q.owners g ≡ true) (λ g. is_place_before_there (freed (is_held_by picks) Q.owners) g ≡ true) refl before_after Q.owners sound.no_gaps;
    }
