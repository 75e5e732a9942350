-- The next run finds the queue of the run before.
use Rattle.std.proofs.Common.{◌≡◌, inl, inr, ⊎_elim, ℕ, ◌≤◌, ◌||◌, ◌++◌, Bool, true, false, List, length, All, Some, refl, sym, ◌∙◌, ap, subst}
use Rattle.std.proofs.Math.Logic.{∥∥₁_map₂}
use Rattle.mas_types.specs.declared.answers.Status.{Status}
use Rattle.mas_types.specs.declared.ids.Dev.{Dev}
use Rattle.mas_types.specs.declared.ids.Dev.TheVariants.{Ckpt1, Ckpt2, Spool}
use Rattle.mas_types.specs.declared.jobs.Job.{Job}
use Rattle.mas_types.specs.declared.jobs.Output.{Output as QueueOutput}
use Rattle.mas_types.specs.declared.journals.Entry.{Entry}
use Rattle.mas_types.specs.declared.journals.Journal.{Journal}
use Rattle.mas_types.specs.declared.queues.Config.{Config}
use Rattle.mas_types.specs.declared.queues.Owner.{Owner}
use Rattle.mas_types.specs.declared.queues.Queue.{Queue}
use Rattle.mas_types.specs.declared.queues.Thing.TheVariants.{Deck, Output}
use Rattle.mas_types.specs.Journal.{kept_at, flying_at}
use Rattle.mas_types.specs.Sound.{IsSound}
use Rattle.queue_laws.specs.Runs.{RunsKeepConfiguration, RunsKeepSound}
use Rattle.script_lang.specs.declared.types.Script.{Script}
use Rattle.spool_plant.specs.declared.plant.Part.TheVariants.{Disk as DiskPart}
use Rattle.spool_plant.specs.View.{View, disk_at, disk_now}
use Rattle.track_groups.specs.Places.{groups_of}
use Rattle.ckpt_form.specs.Form.{form_reads}
use Rattle.ckpt_copy.specs.Pages.{bytes_of}
use Rattle.ckpt_tables.specs.declared.tables.Tables.{Tables}
use Rattle.ckpt_pages.specs.Checkpoints.{SpellsOneAtMost}
use Rattle.ckpt_pages.proofs.SlotLists.{test_cases}
use Rattle.spool_volumes.specs.Volumes.{Volumes, bytes_unless, volumes_now}
use Rattle.queue_telling.specs.Telling.{Tell}
use Rattle.mas_complex.specs.declared.renewals.Renewals.{Renewals}
use Rattle.mas_complex.specs.Journals.{journal_most}
use Rattle.mas_complex.specs.Paper.{AreGivenIn, PaperKept}
use Rattle.mas_complex.specs.Headline.{AreAlwaysAlike, AreLevelsLow, AreTextsLeft}
use Rattle.mas_complex.specs.Meaning.{run}
use Rattle.mas_complex.specs.Texts.{Spools, bytes_on, lost_now, spools_at, IsThereUnless, HasTexts, GivesTexts}
use Rattle.run_opening.specs.Lines.{Proceeds}
use Rattle.run_opening.specs.Runs.{has_begun, as_found, IsFoundQueue, begins_at}
use Rattle.mas_run.specs.Runs.{IsRun, run_result}
use Rattle.run_opening.specs.Volumes.{AreVolumesKeptUntil}
use Rattle.run_laws.specs.Left.{IsLeftBy}
use Rattle.run_laws.specs.Again.{IsQueueAgain}
use Rattle.run_laws.specs.Joins.{lost_in, IsQueueOf, GoesOn, FindsWhatIsLeft, level_of, order_of}
use Rattle.run_laws.specs.Beginning.{AreGoodLeft, IsGoodLeft}
use Rattle.run_laws.proofs.Beginning.{beside1, beside2, bounds1, bounds2, hinders}
use Rattle.run_laws.proofs.Levels.{first_there, Begins as StartsSo}
use Rattle.run_laws.proofs.Copies.{stands, told_by}
use Rattle.run_laws.proofs.Rows.{jobs_again, outputs_again}

-- VOLUMES

shown : (before later : Bool) (bytes now : List ℕ) → (before ≡ true → later ≡ true) → later ≡ false → now ≡ bytes → Some now ≡ bytes_unless before bytes
shown true later bytes now stays there same = let is : later ≡ true = stays refl in absurd (cc)
shown false later bytes now stays there same = ap Some same

-- what a volume that isn't lost holds at the first moment is what it held at the entry
same_volumes : (old new : View) (from at : ℕ) → Proceeds old new → old.now ≤ from → from ≤ at → AreVolumesKeptUntil at old new → (n : ℕ) → lost_now new n ≡ false → bytes_on (spools_at new from) n ≡ volumes_now old n
same_volumes old new from at goes begins le kept n there =
    shown (old.lost (DiskPart (Spool n))) (new.lost (DiskPart (Spool n))) (disk_now old (Spool n)).bytes (disk_at new from (Spool n)).bytes (goes.lost (DiskPart (Spool n)) refl) there
    (kept from begins le n).bytes

-- THE QUEUE

module _ (one next : ℕ → Bool) (left : Volumes) (disks : Spools) (same : (n : ℕ) → next n ≡ false → bytes_on disks n ≡ left n) where
  queue_again : (per : ℕ) (t : Tables) (Q R : Queue) → Tell t Q → Tell t R → GivesTexts one left per Q → HasTexts next disks per R → IsQueueAgain (λ n. one n || next n) per Q R
  queue_again per t Q R was is gives has =
      let own : R.owners ≡ Q.owners = is.owners ∙ sym was.owners in
      record {
        config = is.config ∙ sym was.config;
        jobs = jobs_again one next left disks per same Q.owners Q.jobs R.jobs (sym was.jobs ∙ is.jobs) gives.decks
            (subst (λ (os : List Owner). All (λ (j : Job). IsThereUnless next disks per j.text (groups_of (Deck j.number) os)) R.jobs) own has.decks);
        outputs = outputs_again one next left disks per same Q.owners Q.outputs R.outputs (sym was.outputs ∙ is.outputs) gives.outputs
            (subst (λ (os : List Owner). All (λ (o : QueueOutput). IsThereUnless next disks per o.text (groups_of (Output o.job o.index) os)) R.outputs) own has.outputs);
        owners = own;
        members = is.members ∙ sym was.members;
        routes = is.routes ∙ sym was.routes;
        lines = is.lines ∙ sym was.lines;
        last = is.last ∙ sym was.last;
      }

-- the queue after these entries, found again
module _ (runs : RunsKeepConfiguration) (base found : Queue) (t : Tables) (one next : ℕ → Bool) (left : Volumes) (disks : Spools) (same : (n : ℕ) → next n ≡ false → bytes_on disks n ≡ left n)
    (is : Tell t found) (has : HasTexts next disks found.config.groups found) where
  after : (es : List Entry) → Tell t (run base es) → GivesTexts one left base.config.groups (run base es) → IsQueueAgain (λ n. one n || next n) base.config.groups (run base es) found
  after es was gives =
      let config : found.config ≡ base.config = is.config ∙ sym was.config ∙ (runs base es).config in
      queue_again one next left disks same base.config.groups t (run base es) found was is gives
      (subst (λ (k : Config). HasTexts next disks k.groups found) config has)

-- a run that found its queue, by what is alike on the copies and what is left of the texts
module _ (spells : SpellsOneAtMost) (runs : RunsKeepConfiguration) (sounds : RunsKeepSound) (l order : ℕ) (base : Queue) (J : Journal) (since t : ℕ) (last old : View) (ge : since ≤ t) (le : t ≤ last.now) (left : IsLeftBy t last old) (sound : IsSound base) (rs : Renewals)
    (few : length J.batches ≤ journal_most) (starts : StartsSo l order since last) (alike : AreAlwaysAlike form_reads base J rs since last) (texts : AreTextsLeft base since J last) (given : AreGivenIn base J.batches) (levels : AreLevelsLow form_reads since J rs last) where
  found_of : (tells : Type 0) → tells → (found : Queue) (from at : ℕ) (first : Dev → ℕ) (lost : Dev → Bool) (new : View) → Proceeds old new → AreGoodLeft rs t l order since true old new
      → old.now ≤ from → from ≤ at → AreVolumesKeptUntil at old new → IsFoundQueue tells old (as_found lost new) from first found
      → IsQueueOf (lost_in last new) base J t found
  found_of tells told found from at first lost new goes good begins within kept queue =
      let volumes : Volumes = volumes_now old in
      let disks : Spools = spools_at new from in
      let same = same_volumes old new from at goes begins within kept in
      let gives = texts t ge le volumes (λ n. left (Spool n)) in
      let has = queue.texts told in
      let are = alike t ge le in
      let bytes = bytes_of queue.pages in
      let bound1 = bounds1 l order since J last rs levels few starts t ge le in
      let bound2 = bounds2 l order since J last rs levels few starts t ge le in
      let seen : AreGoodLeft rs t l order since true old (as_found lost new) = good_found lost new good in
      ⊎_elim
      (λ s. inl (after runs base found queue.tables (lost_now last) (lost_now new) volumes disks same queue.told has (kept_at J t)
      (told_by spells (run base (kept_at J t)) queue.pages queue.tables queue.are queue.sized s) gives.0))
      (λ s. inr (after runs base found queue.tables (lost_now last) (lost_now new) volumes disks same queue.told has (kept_at J t ++ flying_at J t)
      (told_by spells (run base (kept_at J t ++ flying_at J t)) queue.pages queue.tables queue.are queue.sized s) gives.1))
      (stands form_reads base J rs t last old bytes are (as_found lost new) (begins_at from first) left
      (beside1 spells runs sounds l order since base J rs t last old left sound given bound1 bound2 are true (as_found lost new) bytes seen)
      (beside2 spells runs sounds l order since base J rs t last old left sound given bound1 bound2 are true (as_found lost new) bytes seen) (queue.found told))
    where
      good_one_found : (lost : Dev → Bool) (v : View) (dev : Dev) → IsGoodLeft rs t l order since true dev old v → IsGoodLeft rs t l order since true dev old (as_found lost v)
      good_one_found lost v dev is = record { good = is.good; there = is.there; low = is.low; failed = is.failed; stays = λ e. absurd (cc) }

      good_found : (lost : Dev → Bool) (v : View) → AreGoodLeft rs t l order since true old v → AreGoodLeft rs t l order since true old (as_found lost v)
      good_found lost v are = record { first = λ e there. good_one_found lost v Ckpt2 (are.first e there); second = λ e there. good_one_found lost v Ckpt1 (are.second e there) }

-- a run that has begun
finds : SpellsOneAtMost → RunsKeepConfiguration → RunsKeepSound → (first_tells next_tells : Type 0) → first_tells → next_tells
    → (cold : Bool) (script next : Script) (answer ends : Status) (base found : Queue) (J K : Journal) (since from t : ℕ) (first last old new : View)
    → (was : IsRun cold first_tells script first (run_result answer base J since last)) → since ≤ t → t ≤ last.now → IsLeftBy t last old → AreGoodLeft was.steps.renewals t (level_of was) (order_of was) since true old new
    → Proceeds old new → IsRun false next_tells next old (run_result ends found K from new) → ∥ IsQueueOf (lost_in last new) base J t found ∥₁
finds spells runs sounds first_tells next_tells told also cold script next answer ends base found J K since from t first last old new was ge le left good goes is =
    let safe = was.steps.safe in
    let kept = is.steps.before also in
    let starts = first_there cold first_tells script first (run_result answer base J since last) was told in
    let rs = was.steps.renewals in
    let stand : ∥ AreAlwaysAlike form_reads base J rs since last × AreTextsLeft base since J last ∥₁ = ∥∥₁_map₂ (safe.alike told) (safe.texts told) (λ alike texts. (alike, texts)) in
    let keep : ∥ PaperKept base since J.batches last × AreLevelsLow form_reads since J rs last ∥₁ = ∥∥₁_map₂ (safe.paper told) (safe.levels told) (λ paper levels. (paper, levels)) in
    ∥∥₁_map₂ stand keep
    (λ a b. found_of spells runs sounds (level_of was) (order_of was) base J since t last old ge le left was.begun.sound was.steps.renewals (safe.few told) starts a.0 a.1 b.0.given b.1
    next_tells also found from is.steps.at is.first is.lost new goes good is.begun.moment.0 is.steps.began.0 kept is.begun.queue)

pub goes_on : SpellsOneAtMost → RunsKeepConfiguration → RunsKeepSound → (first_tells next_tells : Type 0) → FindsWhatIsLeft first_tells next_tells
goes_on spells runs sounds first_tells next_tells told also cold script next answer ends base found J K since from t first last old new was ge le left good ended is =
    test_cases (has_begun found) (GoesOn (level_of was) (order_of was) since base J t last ends found old new)
    (λ e. inl (e, finds spells runs sounds first_tells next_tells told also cold script next answer ends base found J K since from t first last old new was ge le left (good_by true e) ended.goes (is e)))
    (λ e. inr (e, λ low large. hinders spells runs sounds first_tells next_tells told also cold script answer ends base found J since t first last old new was ge le left (good_by false e) low large ended e))
  where
    good_by : (b : Bool) → has_begun found ≡ b → AreGoodLeft was.steps.renewals t (level_of was) (order_of was) since b old new
    good_by b e = subst (λ (k : Bool). AreGoodLeft was.steps.renewals t (level_of was) (order_of was) since k old new) e good
