-- A run that is open has been touched by nobody but the operator.
use Rattle.std.proofs.Common.{◌≡◌, ◌∙◌, ⊎_elim, ◌+◌, ◌*◌, ℕ, zero, suc, Bool, true, false, if◌then◌else◌, List, [], ◌∷◌, ◌++◌, replicate, All, append-nil, refl, sym, ap, subst}
use Rattle.std.proofs.lemmas.List.Elements.{All-cons, All-head, All-nil, All-tail}
use Rattle.mas_types.specs.declared.answers.Status.TheVariants as status
use Rattle.mas_types.specs.declared.ids.MemberId.{MemberId}
use Rattle.mas_types.specs.declared.jobs.Job.{Job}
use Rattle.mas_types.specs.declared.jobs.Output.{Output}
use Rattle.mas_types.specs.declared.journals.Batch.{Batch}
use Rattle.mas_types.specs.declared.journals.Entry.{Entry}
use Rattle.mas_types.specs.declared.journals.Fate.TheVariants.{Kept}
use Rattle.mas_types.specs.declared.queues.Config.{Config}
use Rattle.mas_types.specs.declared.queues.Owner.{Owner}
use Rattle.mas_types.specs.declared.queues.Owner.TheVariants as owner
use Rattle.mas_types.specs.declared.queues.Queue.{Queue}
use Rattle.mas_types.specs.Ids.{nobody}
use Rattle.mas_types.specs.Journal.{is_kept}
use Rattle.mas_types.specs.Owners.{freed, is_held_by, is_members}
use Rattle.mas_types.specs.Queue.{is_member}
use Rattle.mas_types.specs.Sound.{is_owner_there}
use Rattle.mas_types.specs.Starts.{empty_queue}
use Rattle.script_lang.specs.declared.types.Script.{Script}
use Rattle.spool_plant.specs.View.{View}
use Rattle.spool_plant.specs.declared.plant.Plant.{Ghosts as PlantGhosts}
use Rattle.ckpt_copy.specs.declared.copying.Copying.{Ghosts as CopyGhosts}
use Rattle.ckpt_form.specs.declared.steady.Steady.{Ghosts as SteadyGhosts}
use Rattle.gate_turns.specs.Desks.{groups_from}
use Rattle.mas_complex.specs.declared.complex.Complex.{Complex}
use Rattle.mas_complex.specs.Journals.{kept_all}
use Rattle.mas_complex.specs.Meaning.{run}
use Rattle.member_node.specs.declared.member.Member.{Member}
use Rattle.run_opening.proofs.ProceedLemmas.{proceeds_none}
use Rattle.run_opening.specs.Openings.{IsOpenRun}
use Rattle.run_opening.specs.Resets.{restart_entries}
use Rattle.run_opening.specs.Runs.{IsOpened}
use Rattle.race_run.specs.Values.{IsOperators, IsUntouched}

-- WHAT WAS GIVEN FIRST: nothing, or Restart, which is kept

pub record IsFirst (cold : Bool) (bs : List Batch) : Type 0 where
  pub operator : All IsOperators bs
  pub kept : kept_all bs ≡ (if cold then [] else restart_entries)

kept_one : (b : Batch) → is_kept b.fate ≡ true → b.entries ≡ restart_entries → kept_all (b ∷ []) ≡ restart_entries
kept_one b kept entries = ap (λ (t : Bool). (if t then b.entries else []) ++ []) kept ∙ append-nil b.entries ∙ entries

not_done : (status.Done ≡ status.BothLost → ⊥) × (status.Done ≡ status.NoMemory → ⊥)
not_done = ((λ e. cc), (λ e. cc))

first_kept : (bs : List Batch) (b : Batch) → bs ≡ b ∷ [] → b.by ≡ nobody → b.entries ≡ restart_entries → b.fate ≡ Kept → IsFirst false bs
first_kept bs b are by entries fate =
    let kept : is_kept b.fate ≡ true = ap is_kept fate in
    subst (IsFirst false) (sym are) (record {
      operator = All-cons IsOperators b [] (record {
        by = by;
        kept = kept;
        entries = subst (All (λ (e : Entry). e.by ≡ nobody)) (sym entries) (All-cons (λ (e : Entry). e.by ≡ nobody) _ [] refl (All-nil (λ (e : Entry). e.by ≡ nobody)));
      }) (All-nil IsOperators);
      kept = kept_one b kept entries;
    })

first_is : (cold : Bool) (since at : ℕ) (bs : List Batch) → IsOpened cold status.Done since at bs 0 [] → IsFirst cold bs
first_is true since at bs is = record {
  operator = subst (All IsOperators) (sym is.0) (All-nil IsOperators);
  kept = ap kept_all is.0;
}
first_is false since at bs is = ⊎_elim
    (λ r. first_kept bs r.0 r.1 r.2.by r.2.entries r.3)
    (λ more. ⊎_elim (λ f. absurd (not_done.0 f.5)) (λ u. absurd (⊎_elim not_done.1 not_done.0 u.1)) more) is

-- NO MEMBER HAS A GROUP

free_groups : (m : MemberId) (at n : ℕ) → groups_from m at (replicate n owner.Free) ≡ []
free_groups m at zero = refl
free_groups m at (suc n) = free_groups m (at + 1) n

module _ (config : Config) (jobs : List Job) (outputs : List Output) (m : MemberId) where
  none_left : (g : Owner) → is_owner_there config jobs outputs g ≡ true → is_members m (if is_held_by (is_member config) g then owner.Free else g) ≡ false
  none_left owner.Free there = refl
  none_left (owner.Member k) there = ap (λ (t : Bool). is_members m (if t then owner.Free else owner.Member k)) there
  none_left (owner.Deck n place) there = refl
  none_left (owner.Output n i place) there = refl

  freed_groups : (at : ℕ) (gs : List Owner) → All (λ g. is_owner_there config jobs outputs g ≡ true) gs → groups_from m at (freed (is_held_by (is_member config)) gs) ≡ []
  freed_groups at [] all = refl
  freed_groups at (g ∷ gs) all =
      ap (λ (t : Bool). if t then record { 0 = at } ∷ groups_from m (at + 1) (freed (is_held_by (is_member config)) gs) else groups_from m (at + 1) (freed (is_held_by (is_member config)) gs))
      (none_left g (All-head (λ g. is_owner_there config jobs outputs g ≡ true) g gs all))
      ∙ freed_groups (at + 1) gs (All-tail (λ g. is_owner_there config jobs outputs g ≡ true) g gs all)

-- THE RUN

module _ {P C : Type 0} {plants : PlantGhosts P} {steadies : SteadyGhosts C} {copies : CopyGhosts C} (script : Script) (old : View)
    (x : Complex P C plants steadies copies) (ms : List Member) where
  abbrev entry : View
  entry = plants.view x.plant

  first_of : (cold : Bool) → IsOpenRun cold plants.tells script old x ms → IsFirst cold x.journal.batches
  first_of cold r = first_is cold x.since entry.now x.journal.batches (r.opened.opened status.Done [] 0)

  ungrouped : (cold : Bool) → IsOpenRun cold plants.tells script old x ms → (m : MemberId) → groups_from m 0 (run x.base (kept_all x.journal.batches)).owners ≡ []
  ungrouped true r m =
      let base : x.base ≡ empty_queue script.config script.routes = (r.begun entry (proceeds_none entry)).queue in
      ap (λ (es : List Entry). groups_from m 0 (run x.base es).owners) (first_of true r).kept
      ∙ ap (λ (Q : Queue). groups_from m 0 Q.owners) base ∙ free_groups m 0 (script.config.volumes * script.config.groups)
  ungrouped false r m =
      let sound = r.between.sound in
      ap (λ (es : List Entry). groups_from m 0 (run x.base es).owners) (first_of false r).kept
      ∙ freed_groups x.base.config x.base.jobs x.base.outputs m 0 x.base.owners sound.owners

  pub untouched_by : (cold : Bool) → IsOpenRun cold plants.tells script old x ms → IsUntouched x
  untouched_by cold r =
      let begun = r.begun entry (proceeds_none entry) in
      record {
        operator = (first_of cold r).operator;
        unsaid = λ t. begun.quiet t ∙ sym (r.opened.unsaid t);
        unnoted = r.noted;
        ungrouped = λ t m some. ungrouped cold r m;
      }
