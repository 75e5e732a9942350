-- Sound tables stand for sound queues.
use Rattle.std.proofs.Common.{◌≡◌, ℕ, ◌*◌, ◌≤◌, ◌==◌, Bool, true, false, not, ◌&&◌, List, [], map, length, refl, sym, subst, ◌∙◌, arith}
use Rattle.std.specs.Prelude.{is_some}
use Rattle.std.specs.List.{find, list_any, All}
use Rattle.std.proofs.lemmas.Bool.{and_right, not-false, cases_eq, ne_eqb, ltb-false}
use Rattle.std.proofs.lemmas.List.Elements.{All-map}
use Rattle.std.proofs.Common.{⊎_elim}
use Rattle.std.proofs.lemmas.List.{length-map}
use Rattle.mas_types.specs.declared.ids.JobNo.{JobNo}
use Rattle.mas_types.specs.declared.ids.OutNo.{OutNo}
use Rattle.mas_types.specs.declared.jobs.Text.{Text}
use Rattle.mas_types.specs.declared.jobs.Job.{Job}
use Rattle.mas_types.specs.declared.jobs.Output.{Output}
use Rattle.mas_types.specs.declared.queues.Owner.{Owner}
use Rattle.mas_types.specs.declared.queues.Owner.TheVariants as owner
use Rattle.mas_types.specs.Ids.{same_number, same_index, is_somebody}
use Rattle.mas_types.specs.Queue.{is_member, in_input, has_key, line_count}
use Rattle.mas_types.specs.Owners.{is_deck_of, is_output_of}
use Rattle.mas_types.specs.Fit.{AreDistinct, IsText}
use Rattle.mas_types.specs.Sound.{IsSound, IsSoundJob, IsSoundOutput, HasDeckGroup, HasOutputGroup, is_there as is_job_there, may_be_busy, may_have_outputs, is_owner_there, same_key, same_printer}
use Rattle.lay_bytes.specs.declared.records.JobRec.{JobRec}
use Rattle.lay_bytes.specs.declared.records.OutRec.{OutRec}
use Rattle.lay_bytes.specs.Slots.{IsJobRec, IsOutRec}
use Rattle.ckpt_tables.specs.declared.tables.Tables.{Tables}
use Rattle.ckpt_tables.specs.Shape.{HasSpelling}
use Rattle.lay_bytes.specs.Used.{used}
use Rattle.ckpt_pages.specs.QueueOf.{job_with, output_with, queue_of}
use Rattle.mas_types.specs.Sorted.{in_order}
use Rattle.ckpt_pages.specs.Sound.{is_there, is_wrong_job_slot, same_print, is_wrong_output_slot, has_deck, is_wrong_owner, AreSound}
use Rattle.ckpt_pages.specs.SoundQueues.{AreTexts}
use Rattle.ckpt_pages.proofs.SlotLists.{eq_sym, any_found, distinct_agree, any_map, distinct_map, all_right, apart_right, in_slots, any_used, distinct_used, all_used, few_used, all_ordered, any_ordered, distinct_ordered, length_ordered}
use Rattle.ckpt_pages.proofs.SoundLemmas.{NoneWrong, none_wrong, busy_right, not_both, some_lines, no_lines, there_first, IsRightJob, right_job_slot, new_number, IsRightOutput, right_output_slot, new_key, same_desk, new_printer, places_apart, gaps}

-- ONE JOB, ONE OUTPUT

sound_job : (t : Tables) (deck : JobRec → Text) (j : JobRec) → IsJobRec j → IsRightJob t j → IsText (deck j) × (line_count (deck j) ≡ j.cards) → IsSoundJob t.config (job_with deck j)
sound_job t deck j fit right text = record {
  number = fit.number;
  busy = busy_right t j.busy right.busy;
  busy_phase = λ e. not_both (is_somebody j.busy) (may_be_busy j.phase) right.phase e;
  text = text.0;
  no_cards = λ e. text.1 ∙ no_lines (in_input j.phase) j.cards right.cards e;
}

deck_group : (t : Tables) (deck : JobRec → Text) (j : JobRec) → IsRightJob t j → line_count (deck j) ≡ j.cards → HasDeckGroup t.owners (job_with deck j)
deck_group t deck j right count some = some_lines j.cards (list_any (is_deck_of j.number) t.owners) right.group (omega (arith, count, some))

sound_output : (t : Tables) (print : OutRec → Text) (jobs : List Job) (o : OutRec) → IsOutRec o → IsRightOutput t o → IsText (print o) × (line_count (print o) ≡ o.lines) → is_job_there (λ j. may_have_outputs j.phase) jobs o.job ≡ true → IsSoundOutput t.config jobs (output_with print o)
sound_output t print jobs o fit right text job = record {
  index = fit.index;
  copies = fit.copies.0;
  lines = omega (arith, text.1, fit.lines.0);
  job = job;
  busy = busy_right t o.busy right.busy;
  text = text.0;
  mark = subst (λ (n : ℕ). o.mark ≤ n * o.copies) (sym text.1) (ltb-false (o.lines * o.copies) o.mark right.mark);
}

output_group : (t : Tables) (print : OutRec → Text) (o : OutRec) → IsRightOutput t o → line_count (print o) ≡ o.lines → HasOutputGroup t.owners (output_with print o)
output_group t print o right count some = some_lines o.lines (list_any (is_output_of o.job o.index) t.owners) right.group (omega (arith, count, some))

-- ALL OF THEM

module _ (t : Tables) (deck : JobRec → Text) (print : OutRec → Text) (fit : HasSpelling t) (sound : NoneWrong t) (texts : AreTexts t deck print) where
  abbrev jobs_in : List JobRec
  jobs_in = in_order (λ (r : JobRec). r.order) (used t.jobs)

  abbrev outputs_in : List OutRec
  outputs_in = in_order (λ (r : OutRec). r.order) (used t.outputs)

  abbrev jobs_of : List Job
  jobs_of = map (job_with deck) jobs_in

  abbrev outputs_of : List Output
  outputs_of = map (output_with print) outputs_in

  all_jobs : (P : JobRec → Type 0) → ((j : JobRec) → IsJobRec j → IsRightJob t j → IsText (deck j) × (line_count (deck j) ≡ j.cards) → P j) → All P jobs_in
  all_jobs P says =
      let fits : All IsJobRec (used t.jobs) = all_used IsJobRec t.jobs fit.jobs in
      let rights : All (IsRightJob t) (used t.jobs) = all_used (IsRightJob t) t.jobs (all_right (is_wrong_job_slot t) _ (right_job_slot t) [] 0 t.jobs sound.jobs) in
      let each : All P (used t.jobs) = λ k d h. says _ (fits k d h) (rights k d h) (texts.decks k d h) in
      all_ordered (λ (r : JobRec). r.order) P (used t.jobs) each

  all_outputs : (P : OutRec → Type 0) → ((o : OutRec) → IsOutRec o → IsRightOutput t o → IsText (print o) × (line_count (print o) ≡ o.lines) → P o) → All P outputs_in
  all_outputs P says =
      let fits : All IsOutRec (used t.outputs) = all_used IsOutRec t.outputs fit.outputs in
      let rights : All (IsRightOutput t) (used t.outputs) = all_used (IsRightOutput t) t.outputs (all_right (is_wrong_output_slot t) _ (right_output_slot t) [] (length t.jobs) t.outputs sound.outputs) in
      let each : All P (used t.outputs) = λ k d h. says _ (fits k d h) (rights k d h) (texts.prints k d h) in
      all_ordered (λ (r : OutRec). r.order) P (used t.outputs) each

  numbers : AreDistinct (λ a b. same_number a.number b.number) jobs_of
  numbers =
      let same : JobRec → JobRec → Bool = λ a b. same_number a.number b.number in
      let slots : AreDistinct (in_slots same) t.jobs = (apart_right (is_wrong_job_slot t) (in_slots same) (new_number t) [] 0 t.jobs sound.jobs).0 in
      distinct_map (job_with deck) (λ (a b : Job). same_number a.number b.number) jobs_in
      (distinct_ordered (λ (r : JobRec). r.order) same (λ a b. eq_sym a.number.0 b.number.0) (used t.jobs) (distinct_used same t.jobs slots))

  key_sym : (a b : OutRec) → same_print b a ≡ same_print a b
  key_sym a b = rw (eq_sym a.job.0 b.job.0, eq_sym a.index.0 b.index.0) refl

  keys : AreDistinct same_key outputs_of
  keys =
      let same : OutRec → OutRec → Bool = λ a b. same_print b a in
      let slots : AreDistinct (in_slots same) t.outputs = (apart_right (is_wrong_output_slot t) (in_slots same) (new_key t) [] (length t.jobs) t.outputs sound.outputs).0 in
      let ordered : AreDistinct same outputs_in = distinct_ordered (λ (r : OutRec). r.order) same key_sym (used t.outputs) (distinct_used same t.outputs slots) in
      distinct_map (output_with print) same_key outputs_in (distinct_agree same same_print key_sym outputs_in ordered)

  desk_sym : (a b : ℕ) → (not (a == 0) && (a == b)) ≡ (not (b == 0) && (b == a))
  desk_sym a b =
      ⊎_elim (λ (e : a ≡ b). rw e refl) (λ (ne : a ≡ b → ⊥). and_right (not (a == 0)) (a == b) (ne_eqb a b ne) ∙ sym (and_right (not (b == 0)) (b == a) (ne_eqb b a (λ e. ne (sym e))))) (cases_eq a b)

  printers : AreDistinct same_printer outputs_of
  printers =
      let same : OutRec → OutRec → Bool = same_desk t in
      let slots : AreDistinct (in_slots same) t.outputs = (apart_right (is_wrong_output_slot t) (in_slots same) (new_printer t) [] (length t.jobs) t.outputs sound.outputs).0 in
      distinct_map (output_with print) same_printer outputs_in
      (distinct_ordered (λ (r : OutRec). r.order) same (λ a b. desk_sym a.busy.0 b.busy.0) (used t.outputs) (distinct_used same t.outputs slots))

  -- a job that stands in a slot is the one that the queue has
  job_there : (n : JobNo) (test : Job → Bool) → is_there (λ j. same_number j.number n && test (job_with deck j)) t.jobs ≡ true → is_job_there test jobs_of n ≡ true
  job_there n test h =
      there_first n test jobs_of numbers
      (any_map (job_with deck) (λ (j : Job). same_number j.number n && test j) jobs_in
      ∙ any_ordered (λ (r : JobRec). r.order) (λ (j : JobRec). same_number j.number n && test (job_with deck j)) (used t.jobs)
      ∙ sym (any_used (λ (j : JobRec). same_number j.number n && test (job_with deck j)) t.jobs)
      ∙ h)

  output_there : (n : JobNo) (i : OutNo) → is_there (λ o. same_number o.job n && same_index o.index i) t.outputs ≡ true → is_some (find (has_key n i) outputs_of) ≡ true
  output_there n i h =
      any_found (has_key n i) outputs_of
      (any_map (output_with print) (has_key n i) outputs_in
      ∙ any_ordered (λ (r : OutRec). r.order) (λ (o : OutRec). same_number o.job n && same_index o.index i) (used t.outputs)
      ∙ sym (any_used (λ (o : OutRec). same_number o.job n && same_index o.index i) t.outputs)
      ∙ h)

  right_owner : (before : List Owner) (g : Owner) → is_wrong_owner t g ≡ false → is_owner_there t.config jobs_of outputs_of g ≡ true
  right_owner before owner.Free h = refl
  right_owner before (owner.Member m) h = not-false (is_member t.config m) h
  right_owner before (owner.Deck n place) h = job_there n (λ (j : Job). not (in_input j.phase)) (not-false (is_there (has_deck n) t.jobs) h)
  right_owner before (owner.Output n i place) h = output_there n i (not-false (is_there (λ (o : OutRec). same_number o.job n && same_index o.index i) t.outputs) h)

  sound_queue : IsSound (queue_of t deck print)
  sound_queue = record {
    config = fit.shape.config;
    few_jobs = omega (arith, length-map jobs_in (job_with deck), length_ordered (λ (r : JobRec). r.order) (used t.jobs), few_used t.jobs, fit.shape.jobs);
    few_outputs = omega (arith, length-map outputs_in (output_with print), length_ordered (λ (r : OutRec). r.order) (used t.outputs), few_used t.outputs, fit.shape.outputs);
    each_group = fit.shape.owners;
    each_member = fit.shape.members;
    few_routes = fit.shape.routes;
    each_line = fit.shape.lines;
    last = fit.shape.last;
    members = fit.shape.settings;
    jobs = All-map (IsSoundJob t.config) (job_with deck) jobs_in (all_jobs (λ j. IsSoundJob t.config (job_with deck j)) (sound_job t deck));
    decks = All-map (HasDeckGroup t.owners) (job_with deck) jobs_in (all_jobs (λ j. HasDeckGroup t.owners (job_with deck j)) (λ j _ right text. deck_group t deck j right text.1));
    outputs = All-map (IsSoundOutput t.config jobs_of) (output_with print) outputs_in
        (all_outputs (λ o. IsSoundOutput t.config jobs_of (output_with print o)) (λ o one right text. sound_output t print jobs_of o one right text (job_there o.job (λ (j : Job). may_have_outputs j.phase) right.job)));
    groups = All-map (HasOutputGroup t.owners) (output_with print) outputs_in (all_outputs (λ o. HasOutputGroup t.owners (output_with print o)) (λ o _ right text. output_group t print o right text.1));
    owners = all_right (λ before g. is_wrong_owner t g) (λ g. is_owner_there t.config jobs_of outputs_of g ≡ true) right_owner [] 0 t.owners sound.owners;
    numbers = numbers;
    keys = keys;
    printers = printers;
    places = places_apart t sound;
    no_gaps = gaps t sound;
  }

pub sound_for_sound : (t : Tables) (deck : JobRec → Text) (print : OutRec → Text) → HasSpelling t → AreSound t → AreTexts t deck print → IsSound (queue_of t deck print)
sound_for_sound t deck print fit sound texts = sound_queue t deck print fit (none_wrong t sound) texts
