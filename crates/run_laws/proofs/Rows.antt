-- Jobs and outputs of two queues that the same tables tell, and their texts.
use Rattle.std.proofs.Common.{◌≡◌, ◌||◌, ℕ, Bool, true, false, List, [], ◌∷◌, map, All, Option, option_map, slice_index_or, refl, sym, ◌∙◌, ap, subst}
use Rattle.std.proofs.lemmas.Bool.{or_from as or_none}
use Rattle.std.specs.List.{AllZip}
use Rattle.std.proofs.lemmas.List.Elements.{All-head, All-tail, All-nil, All-cons}
use Rattle.mas_types.specs.declared.ids.GroupNo.{GroupNo}
use Rattle.mas_types.specs.declared.jobs.Job.{Job}
use Rattle.mas_types.specs.declared.jobs.Output.{Output as QueueOutput}
use Rattle.mas_types.specs.declared.jobs.Text.{Text}
use Rattle.mas_types.specs.declared.queues.Owner.{Owner}
use Rattle.mas_types.specs.declared.queues.Thing.TheVariants.{Deck, Output}
use Rattle.mas_types.specs.Limits.{page_bytes}
use Rattle.mas_types.specs.Queue.{line_count}
use Rattle.lay_bytes.specs.declared.records.JobRec.{JobRec}
use Rattle.lay_bytes.specs.declared.records.OutRec.{OutRec}
use Rattle.spool_plant.specs.View.{slice}
use Rattle.track_groups.specs.Places.{groups_of}
use Rattle.spool_volumes.specs.Volumes.{Volumes, volume_of, start_of}
use Rattle.spool_volumes.specs.Texts.{held, records_on, text_of}
use Rattle.job_queue.specs.Jobs as jobs
use Rattle.output_queue.specs.Outputs as outputs
use Rattle.mas_complex.specs.Texts.{Spools, bytes_on, lies_on, IsReadUnless, IsThereUnless}
use Rattle.mas_complex.proofs.Spooled.{same_text}
use Rattle.run_laws.specs.Again.{IsTextAgain, IsJobAgain, IsOutputAgain}

-- GROUPS ON LOST VOLUMES

or_left : (a b : Bool) → (a || b) ≡ false → a ≡ false
or_left true b e = absurd (cc)
or_left false b e = refl

or_right : (a b : Bool) → (a || b) ≡ false → b ≡ false
or_right true b e = absurd (cc)
or_right false b e = e

module _ (one next : ℕ → Bool) (per : ℕ) where
  left_none : (gs : List GroupNo) → lies_on (λ n. one n || next n) per gs ≡ false → lies_on one per gs ≡ false
  left_none [] none = refl
  left_none (g ∷ gs) none =
      let here = or_left (one (volume_of per g) || next (volume_of per g)) (lies_on (λ n. one n || next n) per gs) none in
      let more = or_right (one (volume_of per g) || next (volume_of per g)) (lies_on (λ n. one n || next n) per gs) none in
      or_none (one (volume_of per g)) (lies_on one per gs) (or_left (one (volume_of per g)) (next (volume_of per g)) here) (left_none gs more)

  right_none : (gs : List GroupNo) → lies_on (λ n. one n || next n) per gs ≡ false → lies_on next per gs ≡ false
  right_none [] none = refl
  right_none (g ∷ gs) none =
      let here = or_left (one (volume_of per g) || next (volume_of per g)) (lies_on (λ n. one n || next n) per gs) none in
      let more = or_right (one (volume_of per g) || next (volume_of per g)) (lies_on (λ n. one n || next n) per gs) none in
      or_none (next (volume_of per g)) (lies_on next per gs) (or_right (one (volume_of per g)) (next (volume_of per g)) here) (right_none gs more)

each_there : (gone : ℕ → Bool) (per : ℕ) (gs : List GroupNo) → lies_on gone per gs ≡ false → All (λ (g : GroupNo). gone (volume_of per g) ≡ false) gs
each_there gone per [] none = All-nil (λ (g : GroupNo). gone (volume_of per g) ≡ false)
each_there gone per (g ∷ gs) none =
    All-cons (λ (h : GroupNo). gone (volume_of per h) ≡ false) g gs
    (or_left (gone (volume_of per g)) (lies_on gone per gs) none) (each_there gone per gs (or_right (gone (volume_of per g)) (lies_on gone per gs) none))

-- a job of its record and its text
abbrev job_made : JobRec → Text → Job
job_made r text = record { number = r.number; fields = r.fields; phase = r.phase; cancelled = r.cancelled; busy = r.busy; text = text }

abbrev output_made : OutRec → Text → QueueOutput
output_made r text = record { job = r.job; index = r.index; class = r.class; dest = r.dest; forms = r.forms; copies = r.copies; held = r.held; busy = r.busy; mark = r.mark; text = text }

-- TEXTS

-- what volumes of two moments give: the same, where a volume isn't lost
module _ (one next : ℕ → Bool) (left : Volumes) (disks : Spools) (per : ℕ) (same : (n : ℕ) → next n ≡ false → bytes_on disks n ≡ left n) where
  same_records : (gs : List GroupNo) → lies_on next per gs ≡ false → All (λ (g : GroupNo). records_on (bytes_on disks) per g ≡ records_on left per g) gs
  same_records gs none k d lt =
      let g = slice_index_or gs k d in
      ap (λ (o : Option (List ℕ)). held (option_map (slice (start_of per g) page_bytes) o)) (same (volume_of per g) (each_there next per gs none k d lt))

  text_again : (gs : List GroupNo) (text again : Text) → line_count again ≡ line_count text → IsReadUnless one left per text gs → IsThereUnless next disks per again gs
      → IsTextAgain (λ n. one n || next n) per gs text again
  text_again gs text again lines read there = record {
    lines = lines;
    same = λ none.
        let here = right_none one next per gs none in
        sym (there here).is
        ∙ same_text (records_on (bytes_on disks) per) (records_on left per) (line_count again) gs (same_records gs here)
        ∙ ap (λ (n : ℕ). text_of (records_on left per) n gs) lines
        ∙ read (left_none one next per gs none);
  }

  -- JOBS AND OUTPUTS

  module _ (owners : List Owner) where
    job_again : (j k : Job) → jobs.rec_of j ≡ jobs.rec_of k → IsReadUnless one left per j.text (groups_of (Deck j.number) owners) → IsThereUnless next disks per k.text (groups_of (Deck k.number) owners)
        → IsJobAgain (λ n. one n || next n) per owners j k
    job_again j k e read there = record {
      same = ap (λ (r : JobRec). job_made r k.text) (sym e);
      text = text_again (groups_of (Deck j.number) owners) j.text k.text (sym (ap (λ (r : JobRec). r.cards) e)) read
          (subst (λ (r : JobRec). IsThereUnless next disks per k.text (groups_of (Deck r.number) owners)) (sym e) there);
    }

    output_again : (o p : QueueOutput) → outputs.rec_of o ≡ outputs.rec_of p → IsReadUnless one left per o.text (groups_of (Output o.job o.index) owners) → IsThereUnless next disks per p.text (groups_of (Output p.job p.index) owners)
        → IsOutputAgain (λ n. one n || next n) per owners o p
    output_again o p e read there = record {
      same = ap (λ (r : OutRec). output_made r p.text) (sym e);
      text = text_again (groups_of (Output o.job o.index) owners) o.text p.text (sym (ap (λ (r : OutRec). r.lines) e)) read
          (subst (λ (r : OutRec). IsThereUnless next disks per p.text (groups_of (Output r.job r.index) owners)) (sym e) there);
    }

    -- place by place
    pub jobs_again : (xs ys : List Job) → map jobs.rec_of xs ≡ map jobs.rec_of ys
        → All (λ j. IsReadUnless one left per j.text (groups_of (Deck j.number) owners)) xs → All (λ j. IsThereUnless next disks per j.text (groups_of (Deck j.number) owners)) ys
        → AllZip (IsJobAgain (λ n. one n || next n) per owners) xs ys
    jobs_again [] [] e read there = tt
    jobs_again [] (y ∷ ys) e read there = absurd (cc)
    jobs_again (x ∷ xs) [] e read there = absurd (cc)
    jobs_again (x ∷ xs) (y ∷ ys) e read there =
        let P = λ (j : Job). IsReadUnless one left per j.text (groups_of (Deck j.number) owners) in
        let R = λ (j : Job). IsThereUnless next disks per j.text (groups_of (Deck j.number) owners) in
        let here : jobs.rec_of x ≡ jobs.rec_of y = cc in
        let more : map jobs.rec_of xs ≡ map jobs.rec_of ys = cc in
        (job_again x y here (All-head P x xs read) (All-head R y ys there), jobs_again xs ys more (All-tail P x xs read) (All-tail R y ys there))

    pub outputs_again : (xs ys : List QueueOutput) → map outputs.rec_of xs ≡ map outputs.rec_of ys
        → All (λ o. IsReadUnless one left per o.text (groups_of (Output o.job o.index) owners)) xs → All (λ o. IsThereUnless next disks per o.text (groups_of (Output o.job o.index) owners)) ys
        → AllZip (IsOutputAgain (λ n. one n || next n) per owners) xs ys
    outputs_again [] [] e read there = tt
    outputs_again [] (y ∷ ys) e read there = absurd (cc)
    outputs_again (x ∷ xs) [] e read there = absurd (cc)
    outputs_again (x ∷ xs) (y ∷ ys) e read there =
        let P = λ (o : QueueOutput). IsReadUnless one left per o.text (groups_of (Output o.job o.index) owners) in
        let R = λ (o : QueueOutput). IsThereUnless next disks per o.text (groups_of (Output o.job o.index) owners) in
        let here : outputs.rec_of x ≡ outputs.rec_of y = cc in
        let more : map outputs.rec_of xs ≡ map outputs.rec_of ys = cc in
        (output_again x y here (All-head P x xs read) (All-head R y ys there), outputs_again xs ys more (All-tail P x xs read) (All-tail R y ys there))
