-- What the acts of a step find, as looks of its units.
use Rattle.std.proofs.Common.{◌≡◌, ℕ, zero, suc, ◌+◌, ◌==◌, Bool, true, false, List, [], ◌∷◌, length, drop, Option, Some, None, refl, sym, ap, ◌∙◌, add-one, arith}
use Rattle.std.proofs.lemmas.Bool.{and_parts as both}
use Rattle.std.proofs.lemmas.Bool.Decides.{nat_tests}
use Rattle.std.specs.Option.{option_map_or}
use Rattle.mas_types.specs.declared.ids.JobNo.{JobNo}
use Rattle.mas_types.specs.declared.ids.OutNo.{OutNo}
use Rattle.mas_types.specs.declared.jobs.Job.{Job}
use Rattle.mas_types.specs.declared.jobs.OutSpec.{OutSpec}
use Rattle.mas_types.specs.declared.jobs.Output.{Output}
use Rattle.mas_types.specs.declared.queues.Queue.{Queue}
use Rattle.mas_types.specs.declared.units.Unit as units
use Rattle.mas_types.specs.declared.units.Unit.TheVariants as unit
use Rattle.mas_types.specs.Lists.{tail}
use Rattle.mas_types.specs.Queue.{has_key, job_at, output_at}
use Rattle.mas_types.specs.Units.{unit_of}
use Rattle.queue_laws.proofs.Finds.{find-All}
use Rattle.queue_laws.proofs.SoundEnter.{number_is}
use Rattle.job_outcome.specs.declared.outcomes.Outcome.{Outcome}
use Rattle.job_outcome.specs.declared.outcomes.Outcome.TheVariants as outcome
use Rattle.job_outcome.specs.Outcomes.{outcome_of}
use Rattle.member_work.specs.Looks.{Look, calm, first_look, read_of}
use Rattle.member_work.specs.Units.{outcome_for, taken_queue}
use Rattle.member_work.specs.Work.{Round, queue_behind, round_of, round_play, rounds, rounds_by}
use Rattle.step_turns.specs.Courses.{Finds}
use Rattle.step_turns.specs.JobEnds.{chunk_end, groups_for_end}
use Rattle.step_turns.specs.declared.states.Found.{Found}
use Rattle.step_turns.specs.declared.states.Holder.{Holder}
use Rattle.step_turns.specs.declared.states.State.TheVariants.{Away}
use Rattle.step_turns.specs.declared.states.Grant.TheVariants.{ForStep}
use Rattle.step_turns.specs.declared.states.Aside.TheVariants.{PrintLines, ReadText, SpoolOutputs}
use Rattle.step_turns.specs.States.{nothing_found}
use Rattle.step_laws.specs.Joins.{finds_by, found_with}
use Rattle.step_laws.proofs.Work.{Agrees, reading, rounds_at}

-- WHAT IS FOUND HAS ITS NUMBER

numbered : (Q : Queue) (n : JobNo) (j : Job) → job_at Q n ≡ Some j → j.number ≡ n
numbered Q n j is = ap (λ (k : ℕ). (let m : JobNo = record { 0 = k } in m)) (number_is Q n j is)

keyed : (Q : Queue) (n : JobNo) (i : OutNo) (o : Output) → output_at Q n i ≡ Some o → (o.job ≡ n) × (o.index ≡ i)
keyed Q n i o is =
    let here = both (o.job.0 == n.0) (o.index.0 == i.0) (find-All (λ (x : Output). has_key n i x ≡ has_key n i x) (has_key n i) Q.outputs o (λ k d lt. refl) is).1 in
    let job : (o.job.0 == n.0) ≡ true = here.0 in
    let index : (o.index.0 == i.0) ≡ true = here.1 in
    let same_job : o.job.0 ≡ n.0 = grind (arith, nat_tests, job) in
    let same_index : o.index.0 ≡ i.0 = grind (arith, nat_tests, index) in
    (ap (λ (k : ℕ). (let m : JobNo = record { 0 = k } in m)) same_job, ap (λ (k : ℕ). (let m : OutNo = record { 0 = k } in m)) same_index)

job_again : (Q : Queue) (n : JobNo) (j : Job) → job_at Q n ≡ Some j → job_at Q j.number ≡ Some j
job_again Q n j is = ap (job_at Q) (numbered Q n j is) ∙ is

output_again : (Q : Queue) (n : JobNo) (i : OutNo) (o : Output) → output_at Q n i ≡ Some o → output_at Q o.job o.index ≡ Some o
output_again Q n i o is = let key = keyed Q n i o is in ap (λ (m : JobNo). output_at Q m o.index) key.0 ∙ ap (output_at Q n) key.1 ∙ is

-- THE LOOKS OF A LIST, one for each unit

module _ (looks : List Look) (h : Holder) (for_step : h.grant ≡ ForStep) where
  abbrev pub listed : ℕ → ℕ → Queue → Look
  listed left done Q = first_look (drop done looks)

  tail_drop : (k : ℕ) (xs : List Look) → tail (drop k xs) ≡ drop (suc k) xs
  tail_drop zero [] = refl
  tail_drop zero (x ∷ xs) = refl
  tail_drop (suc k) [] = refl
  tail_drop (suc k) (x ∷ xs) = tail_drop k xs

  pub rounds_listed : (left k : ℕ) (Q : Queue) → rounds_at (finds_by looks) h for_step listed left k Q ≡ rounds left Q h.by h.step (drop k looks)
  rounds_listed zero k Q = refl
  rounds_listed (suc left) k Q =
      let r = round_of Q (first_look (drop k looks)) in
      let R = queue_behind h.by h.step r in
      ap (λ (rs : List Round). rounds_by (round_play h.by h.step r).ends r rs)
      (rounds_listed left (k + 1) R ∙ ap (λ (m : ℕ). rounds left R h.by h.step (drop m looks)) (add-one k) ∙ ap (rounds left R h.by h.step) (sym (tail_drop k looks)))

  pub listed_agrees : Agrees (finds_by looks) h for_step listed
  listed_agrees = record {
    reads = λ left done Q runs n j of is. ap (λ (job : Option Job). (option_map_or (λ (x : Job). found_with (first_look (drop done looks)) x.text) job nothing_found).read) (job_again Q n j is);
    spools = λ left done Q runs n j specs of is e. refl;
    prints = λ left done Q n i o of is. (
      ap (λ (output : Option Output). (option_map_or (λ (x : Output). found_with (first_look (drop done looks)) x.text) output nothing_found).read) (output_again Q n i o is),
      ap (λ (output : Option Output). (option_map_or (λ (x : Output). found_with (first_look (drop done looks)) x.text) output nothing_found).printer) (output_again Q n i o is),
    );
  }

-- THE LOOKS OF WHAT IS FOUND

module _ (finds : Finds) (h : Holder) (for_step : h.grant ≡ ForStep) where
  -- the volume that is found lost where a job's outputs are written
  lost_by : Outcome → Queue → JobNo → ℕ → ℕ → Option ℕ
  lost_by (outcome.End specs) Q n left done = (finds (taken_queue Q h.by h.step (groups_for_end Q n specs)) (Away (SpoolOutputs n specs (record { done = done; left = left })))).lost
  lost_by _ Q n left done = None

  abbrev found_at : Bool → Queue → ℕ → ℕ → Job → Found
  found_at runs Q left done j = finds Q (Away (ReadText runs j.number j.fields (record { done = done; left = left })))

  abbrev printed_at : Queue → ℕ → ℕ → Output → Found
  printed_at Q left done o = finds Q (Away (PrintLines o.job o.index (chunk_end Q h.by o) (record { done = done; left = left })))

  job_look : Bool → Queue → ℕ → ℕ → Job → Look
  job_look runs Q left done j = record {
    read = Some (found_at runs Q left done j).read;
    lost = lost_by (outcome_of runs j.fields (found_at runs Q left done j).read) Q j.number left done;
    printer = false;
  }

  output_look : Queue → ℕ → ℕ → Output → Look
  output_look Q left done o = record { read = Some (printed_at Q left done o).read; lost = None; printer = (printed_at Q left done o).printer }

  pub unit_look : units.Unit → Queue → ℕ → ℕ → Look
  unit_look (unit.Run n) Q left done = option_map_or (job_look true Q left done) (job_at Q n) calm
  unit_look (unit.Convert n) Q left done = option_map_or (job_look false Q left done) (job_at Q n) calm
  unit_look (unit.Print n i) Q left done = option_map_or (output_look Q left done) (output_at Q n i) calm
  unit_look _ Q left done = calm

  abbrev pub found_look : ℕ → ℕ → Queue → Look
  found_look left done Q = unit_look (unit_of Q h.by) Q left done

  look_of_job : (runs : Bool) (left done : ℕ) (Q : Queue) (n : JobNo) (j : Job) → unit_of Q h.by ≡ reading runs n → job_at Q n ≡ Some j → found_look left done Q ≡ job_look runs Q left done j
  unfolding unit_look
  look_of_job true left done Q n j of is = ap (λ (u : units.Unit). unit_look u Q left done) of ∙ ap (λ (job : Option Job). option_map_or (job_look true Q left done) job calm) is
  look_of_job false left done Q n j of is = ap (λ (u : units.Unit). unit_look u Q left done) of ∙ ap (λ (job : Option Job). option_map_or (job_look false Q left done) job calm) is

  look_of_output : (left done : ℕ) (Q : Queue) (n : JobNo) (i : OutNo) (o : Output) → unit_of Q h.by ≡ unit.Print n i → output_at Q n i ≡ Some o → found_look left done Q ≡ output_look Q left done o
  unfolding unit_look
  look_of_output left done Q n i o of is = ap (λ (u : units.Unit). unit_look u Q left done) of ∙ ap (λ (output : Option Output). option_map_or (output_look Q left done) output calm) is

  reads_so : (runs : Bool) (left done : ℕ) (Q : Queue) (j : Job) → read_of (job_look runs Q left done j).read j.text ≡ (found_at runs Q left done j).read
  unfolding job_look
  reads_so runs left done Q j = refl

  loses_so : (runs : Bool) (left done : ℕ) (Q : Queue) (j : Job) (specs : List OutSpec) → outcome_for runs (job_look runs Q left done j) j ≡ outcome.End specs
      → (job_look runs Q left done j).lost ≡ (finds (taken_queue Q h.by h.step (groups_for_end Q j.number specs)) (Away (SpoolOutputs j.number specs (record { done = done; left = left })))).lost
  unfolding job_look lost_by
  loses_so runs left done Q j specs e = ap (λ (o : Outcome). lost_by o Q j.number left done) e

  prints_so : (left done : ℕ) (Q : Queue) (o : Output) → (read_of (output_look Q left done o).read o.text ≡ (printed_at Q left done o).read) × ((output_look Q left done o).printer ≡ (printed_at Q left done o).printer)
  unfolding output_look
  prints_so left done Q o = (refl, refl)

  pub found_agrees : Agrees finds h for_step found_look
  found_agrees = record {
    reads = λ left done Q runs n j of is. sym (ap (λ (l : Look). read_of l.read j.text) (look_of_job runs left done Q n j of is) ∙ reads_so runs left done Q j);
    spools = λ left done Q runs n j specs of is e.
        (let same = look_of_job runs left done Q n j of is in
        sym (ap (λ (l : Look). l.lost) same ∙ loses_so runs left done Q j specs (sym (ap (λ (l : Look). outcome_for runs l j) same) ∙ e)));
    prints = λ left done Q n i o of is.
        (let same = look_of_output left done Q n i o of is in
        let so = prints_so left done Q o in
        (sym (ap (λ (l : Look). read_of l.read o.text) same ∙ so.0), sym (ap (λ (l : Look). l.printer) same ∙ so.1)));
  }

  -- a look for each unit, also for those that aren't begun
  pub looks_from : ℕ → ℕ → Queue → List Look
  looks_from zero k Q = []
  looks_from (suc left) k Q = found_look left k Q ∷ looks_from left (k + 1) (queue_behind h.by h.step (round_of Q (found_look left k Q)))

  pub looks_length : (left k : ℕ) (Q : Queue) → length (looks_from left k Q) ≡ left
  unfolding looks_from
  looks_length zero k Q = refl
  looks_length (suc left) k Q = ap suc (looks_length left (k + 1) (queue_behind h.by h.step (round_of Q (found_look left k Q))))

  pub rounds_found : (left k : ℕ) (Q : Queue) → rounds_at finds h for_step found_look left k Q ≡ rounds left Q h.by h.step (looks_from left k Q)
  unfolding looks_from
  rounds_found zero k Q = refl
  rounds_found (suc left) k Q =
      let r = round_of Q (found_look left k Q) in
      ap (λ (rs : List Round). rounds_by (round_play h.by h.step r).ends r rs) (rounds_found left (k + 1) (queue_behind h.by h.step r))
