-- A queue that sound tables tell, with texts within the limits, has the sound parts.
use Rattle.std.proofs.Common.{◌≡◌, ◌≤◌, ◌<◌, ◌*◌, ◌&&◌, Bool, true, false, not, if◌then◌else◌, slice_index_or, List, [], ◌∷◌, map, length, All, Some, refl, sym, ◌∙◌, ap, subst}
use Rattle.std.specs.Prelude.{is_some}
use Rattle.std.specs.List.{find, list_any}
use Rattle.std.specs.Option.{option_map_or}
use Rattle.std.proofs.lemmas.List.{length-map}
use Rattle.std.proofs.lemmas.List.Elements.{All-nil, All-cons, All-head, All-tail, All-map, All-weaker}
use Rattle.mas_types.specs.declared.ids.JobNo.{JobNo}
use Rattle.mas_types.specs.declared.jobs.Job.{Job}
use Rattle.mas_types.specs.declared.jobs.Output.{Output}
use Rattle.mas_types.specs.declared.jobs.Phase.{Phase}
use Rattle.mas_types.specs.declared.jobs.Text.{Text}
use Rattle.mas_types.specs.declared.jobs.Text.TheVariants.{Whole, Gone}
use Rattle.mas_types.specs.declared.queues.Config.{Config}
use Rattle.mas_types.specs.declared.queues.Owner.{Owner}
use Rattle.mas_types.specs.declared.queues.Owner.TheVariants as owner
use Rattle.mas_types.specs.declared.queues.Queue.{Queue}
use Rattle.mas_types.specs.Fit.{AreDistinct, IsIndex, IsText}
use Rattle.mas_types.specs.Ids.{is_somebody, same_index, same_member, same_number}
use Rattle.mas_types.specs.Limits.{number_most, text_lines_most}
use Rattle.mas_types.specs.Owners.{is_deck_of, is_output_of}
use Rattle.mas_types.specs.Queue.{in_input, line_count}
use Rattle.mas_types.specs.Sound.{IsSound, IsSoundJob, IsSoundOutput, is_busy_right, is_owner_there, is_there, may_be_busy, may_have_outputs}
use Rattle.lay_bytes.specs.declared.records.JobRec.{JobRec}
use Rattle.lay_bytes.specs.declared.records.OutRec.{OutRec}
use Rattle.ckpt_tables.specs.declared.tables.Tables.{Tables}
use Rattle.ckpt_pages.proofs.SlotLists.{any_map, distinct_map}
use Rattle.job_queue.specs.Jobs as jobs
use Rattle.output_queue.specs.Outputs as outputs
use Rattle.queue_telling.specs.Telling.{Tell, TellSound}
use Rattle.spool_volumes.specs.Texts.{IsLimited}

-- LISTS THAT SHOW THE SAME

module _ {A C : Type 0} (f : A → C) where
  all_back : (P : C → Type 0) (ys : List A) → All P (map f ys) → All (λ y. P (f y)) ys
  all_back P [] all = All-nil (λ y. P (f y))
  all_back P (y ∷ ys) all = All-cons (λ y. P (f y)) y ys (All-head P (f y) (map f ys) all) (all_back P ys (All-tail P (f y) (map f ys) all))

  all_same : (P : C → Type 0) (xs ys : List A) → map f xs ≡ map f ys → All (λ x. P (f x)) xs → All (λ y. P (f y)) ys
  all_same P xs ys same all = all_back P ys (subst (All P) same (All-map P f xs all))

  distinct_back : (alike : C → C → Bool) (ys : List A) → AreDistinct alike (map f ys) → AreDistinct (λ a b. alike (f a) (f b)) ys
  distinct_back alike [] d = tt
  distinct_back alike (y ∷ ys) d = (sym (any_map f (alike (f y)) ys) ∙ d.0, distinct_back alike ys d.1)

  distinct_same : (alike : C → C → Bool) (xs ys : List A) → map f xs ≡ map f ys → AreDistinct (λ a b. alike (f a) (f b)) xs → AreDistinct (λ a b. alike (f a) (f b)) ys
  distinct_same alike xs ys same d = distinct_back alike ys (subst (AreDistinct alike) same (distinct_map f alike xs d))

  length_same : (xs ys : List A) → map f xs ≡ map f ys → length ys ≡ length xs
  length_same xs ys same = sym (length-map ys f) ∙ ap (λ (cs : List C). length cs) (sym same) ∙ length-map xs f

  found_shown : (p t : C → Bool) (xs : List A) → option_map_or (λ x. t (f x)) (find (λ x. p (f x)) xs) false ≡ option_map_or t (find p (map f xs)) false
  found_shown p t [] = refl
  found_shown p t (x ∷ xs) = by_test (p (f x)) (found_shown p t xs) where
    by_test : (b : Bool) → option_map_or (λ y. t (f y)) (find (λ y. p (f y)) xs) false ≡ option_map_or t (find p (map f xs)) false
        → option_map_or (λ y. t (f y)) (if b then Some x else find (λ y. p (f y)) xs) false ≡ option_map_or t (if b then Some (f x) else find p (map f xs)) false
    by_test true more = refl
    by_test false more = more

  found_same : (p t : C → Bool) (xs ys : List A) → map f xs ≡ map f ys → option_map_or (λ x. t (f x)) (find (λ x. p (f x)) ys) false ≡ option_map_or (λ x. t (f x)) (find (λ x. p (f x)) xs) false
  found_same p t xs ys same = found_shown p t ys ∙ ap (λ (cs : List C). option_map_or t (find p cs) false) (sym same) ∙ sym (found_shown p t xs)

  some_shown : (p : C → Bool) (xs : List A) → is_some (find (λ x. p (f x)) xs) ≡ is_some (find p (map f xs))
  some_shown p [] = refl
  some_shown p (x ∷ xs) = by_test (p (f x)) (some_shown p xs) where
    by_test : (b : Bool) → is_some (find (λ y. p (f y)) xs) ≡ is_some (find p (map f xs)) → is_some (if b then Some x else find (λ y. p (f y)) xs) ≡ is_some (if b then Some (f x) else find p (map f xs))
    by_test true more = refl
    by_test false more = more

  some_same : (p : C → Bool) (xs ys : List A) → map f xs ≡ map f ys → is_some (find (λ x. p (f x)) ys) ≡ is_some (find (λ x. p (f x)) xs)
  some_same p xs ys same = some_shown p ys ∙ ap (λ (cs : List C). is_some (find p cs)) (sym same) ∙ sym (some_shown p xs)

-- WHAT RECORDS SAY OF SOUND JOBS AND OUTPUTS

few_lines : (text : Text) → IsText text → line_count text ≤ text_lines_most
few_lines (Whole lines) is = is.few
few_lines (Gone group count) is = is

-- all that a sound job has but its text, by its record
record IsSoundRec (config : Config) (r : JobRec) : Type 0 where
  number : (1 ≤ r.number.0) × (r.number.0 ≤ number_most)
  busy : is_busy_right config r.busy ≡ true
  busy_phase : is_somebody r.busy ≡ true → may_be_busy r.phase ≡ true
  few : r.cards ≤ text_lines_most
  no_cards : in_input r.phase ≡ true → r.cards ≡ 0

record IsSoundOutRec (config : Config) (there : JobNo → Bool) (r : OutRec) : Type 0 where
  index : IsIndex r.index.0
  copies : 1 ≤ r.copies
  some : 1 ≤ r.lines
  job : there r.job ≡ true
  busy : is_busy_right config r.busy ≡ true
  few : r.lines ≤ text_lines_most
  mark : r.mark ≤ r.lines * r.copies

-- A sound queue with other jobs and outputs that differ in their texts alone, which are within the limits.
module _ (S : Queue) (sound : IsSound S) (js : List Job) (os : List Output) (same : map jobs.rec_of S.jobs ≡ map jobs.rec_of js) (same_out : map outputs.rec_of S.outputs ≡ map outputs.rec_of os)
    (decks : All (λ j. IsLimited j.text) js) (prints : All (λ o. IsLimited o.text) os) where
  there_same : (p : Phase → Bool) (n : JobNo) → is_there (λ j. p j.phase) js n ≡ is_there (λ j. p j.phase) S.jobs n
  there_same p n = found_same jobs.rec_of (λ r. same_number r.number n) (λ r. p r.phase) S.jobs js same

  there : JobNo → Bool
  there n = is_there (λ j. may_have_outputs j.phase) S.jobs n

  job_rec : (j : Job) → IsSoundJob S.config j → IsSoundRec S.config (jobs.rec_of j)
  job_rec j is = record { number = is.number; busy = is.busy; busy_phase = is.busy_phase; few = few_lines j.text is.text; no_cards = is.no_cards }

  rec_job : (j : Job) → IsSoundRec S.config (jobs.rec_of j) → IsLimited j.text → IsSoundJob S.config j
  rec_job j is limited = record { number = is.number; busy = is.busy; busy_phase = is.busy_phase; text = limited is.few; no_cards = is.no_cards }

  output_rec : (o : Output) → IsSoundOutput S.config S.jobs o → IsSoundOutRec S.config there (outputs.rec_of o)
  unfolding there
  output_rec o is = record { index = is.index; copies = is.copies; some = is.lines; job = is.job; busy = is.busy; few = few_lines o.text is.text; mark = is.mark }

  rec_output : (o : Output) → IsSoundOutRec S.config there (outputs.rec_of o) → IsLimited o.text → IsSoundOutput S.config js o
  unfolding there
  rec_output o is limited = record { index = is.index; copies = is.copies; lines = is.some; job = there_same may_have_outputs o.job ∙ is.job; busy = is.busy; text = limited is.few; mark = is.mark }

  abbrev HasRecGroup : JobRec → Type 0
  HasRecGroup r = 0 < r.cards → list_any (is_deck_of r.number) S.owners ≡ true

  abbrev HasOutRecGroup : OutRec → Type 0
  HasOutRecGroup r = 0 < r.lines → list_any (is_output_of r.job r.index) S.owners ≡ true

  owner_same : (g : Owner) → is_owner_there S.config js os g ≡ is_owner_there S.config S.jobs S.outputs g
  owner_same owner.Free = refl
  owner_same (owner.Member m) = refl
  owner_same (owner.Deck n place) = there_same (λ p. not (in_input p)) n
  owner_same (owner.Output n i place) = some_same outputs.rec_of (λ r. same_number r.job n && same_index r.index i) S.outputs os same_out

  with_texts : IsSound (record S { jobs = js; outputs = os })
  with_texts =
      let recs = all_same jobs.rec_of (IsSoundRec S.config) S.jobs js same (All-weaker (IsSoundJob S.config) (λ j. IsSoundRec S.config (jobs.rec_of j)) job_rec S.jobs sound.jobs) in
      let out_recs = all_same outputs.rec_of (IsSoundOutRec S.config there) S.outputs os same_out
      (All-weaker (IsSoundOutput S.config S.jobs) (λ o. IsSoundOutRec S.config there (outputs.rec_of o)) output_rec S.outputs sound.outputs) in
      record {
        config = sound.config;
        few_jobs = rw (length_same jobs.rec_of S.jobs js same) sound.few_jobs;
        few_outputs = rw (length_same outputs.rec_of S.outputs os same_out) sound.few_outputs;
        each_group = sound.each_group;
        each_member = sound.each_member;
        few_routes = sound.few_routes;
        each_line = sound.each_line;
        last = sound.last;
        members = sound.members;
        jobs = λ k d lt. rec_job (slice_index_or js k d) (recs k d lt) (decks k d lt);
        decks = all_same jobs.rec_of HasRecGroup S.jobs js same sound.decks;
        outputs = λ k d lt. rec_output (slice_index_or os k d) (out_recs k d lt) (prints k d lt);
        groups = all_same outputs.rec_of HasOutRecGroup S.outputs os same_out sound.groups;
        owners = All-weaker (λ g. is_owner_there S.config S.jobs S.outputs g ≡ true) (λ g. is_owner_there S.config js os g ≡ true) (λ g is. owner_same g ∙ is) S.owners sound.owners;
        numbers = distinct_same jobs.rec_of (λ a b. same_number a.number b.number) S.jobs js same sound.numbers;
        keys = distinct_same outputs.rec_of (λ a b. same_number b.job a.job && same_index b.index a.index) S.outputs os same_out sound.keys;
        printers = distinct_same outputs.rec_of (λ a b. is_somebody a.busy && same_member a.busy b.busy) S.outputs os same_out sound.printers;
        places = sound.places;
        no_gaps = sound.no_gaps;
      }

pub sound_told : (t : Tables) (Q : Queue) → Tell t Q → TellSound t → All (λ j. IsLimited j.text) Q.jobs × All (λ o. IsLimited o.text) Q.outputs → IsSound Q
sound_told t Q told sound limited =
    let S = sound.queue in
    let was = sound.told in
    let config : S.config ≡ Q.config = was.config ∙ sym told.config in
    let owners : S.owners ≡ Q.owners = was.owners ∙ sym told.owners in
    let members : S.members ≡ Q.members = was.members ∙ sym told.members in
    let routes : S.routes ≡ Q.routes = was.routes ∙ sym told.routes in
    let lines : S.lines ≡ Q.lines = was.lines ∙ sym told.lines in
    let last : S.last ≡ Q.last = was.last ∙ sym told.last in
    let same : record S { jobs = Q.jobs; outputs = Q.outputs } ≡ Q = rw (config, owners, members, routes, lines, last) refl in
    subst IsSound same (with_texts S sound.sound Q.jobs Q.outputs (sym was.jobs ∙ told.jobs) (sym was.outputs ∙ told.outputs) limited.0 limited.1)
