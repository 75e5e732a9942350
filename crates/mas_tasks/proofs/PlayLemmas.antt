-- Runs of a script.
use Rattle.std.proofs.Common.{◌≡◌, inl, inr, true, false, Bool, Option, refl, sym, ◌∙◌, ap, subst}
use Rattle.mas_types.specs.declared.queues.Queue.{Queue}
use Rattle.mas_types.specs.declared.answers.Status.{Status}
use Rattle.mas_types.specs.declared.answers.Status.TheVariants as status
use Rattle.mas_types.specs.Starts.{no_queue}
use Rattle.script_lang.specs.declared.types.Script.{Script}
use Rattle.spool_plant.specs.View.{View}
use Rattle.spool_plant.specs.Acts.{Rose}
use Rattle.ckpt_copy.specs.Moments.{sides_none}
use Rattle.run_opening.specs.Refusals.{Answers, IsTakenFrom, is_of_script, is_refusal}
use Rattle.mas_run.specs.Refusals.{refusal_before_play, IsSaid}
use Rattle.run_opening.specs.Runs.{has_begun, AreSidesKept}
use Rattle.run_opening.specs.Statuses.{IsCaused, LeavesLost}
use Rattle.run_opening.specs.Unstarted.{IsNotStarted}
use Rattle.run_opening.specs.Volumes.{AreVolumesKept}
use Rattle.mas_run.proofs.RefusalLemmas.{ends}
use Rattle.run_opening.proofs.VolumeLemmas.{kept_none}
use Rattle.mas_tasks.specs.Plays.{IsPlayed}
use Rattle.mas_tasks.specs.ScriptRuns.{IsScriptRun, RunEnd, Sourced}

-- A RUN THAT HAS NOT BEGUN

no_of : (answer other : Status) → is_of_script answer ≡ true → is_of_script other ≡ false → answer ≡ other → ⊥
no_of answer other is not e = let same : is_of_script answer ≡ is_of_script other = ap is_of_script e in absurd (cc)

not_begun : (base : Queue) → base ≡ no_queue → has_begun base ≡ true → ⊥
not_begun base is begun = let none : has_begun base ≡ false = ap has_begun is in absurd (cc)

not_started : (tells : Type 0) (answer : Status) (old new : View) → is_of_script answer ≡ true → IsNotStarted tells answer old new
not_started tells (status.BadLine line cause) old new is = tt
not_started tells status.TooLong old new is = tt
not_started tells status.SourceFault old new is = tt
not_started tells status.NoMemory old new is = tt
not_started tells status.Done old new is = tt
not_started tells status.Words old new is = tt
not_started tells status.ConsoleFault old new is = tt
not_started tells (status.NotFormatted first second) old new is = absurd (cc)
not_started tells (status.DeviceSize dev size) old new is = absurd (cc)
not_started tells status.BothLost old new is = absurd (cc)

pub script_caused : (answer : Status) (old new : View) → is_of_script answer ≡ true → IsCaused answer old new
script_caused answer old new is = record {
  failed1 = λ e. absurd (no_of answer status.BothLost is refl e);
  failed2 = λ e. absurd (no_of answer status.BothLost is refl e);
  console = λ e. absurd (no_of answer status.ConsoleFault is refl e);
}

-- nothing was done
pub script_lost : (answer : Status) (old new : View) → new ≡ old → is_of_script answer ≡ true → LeavesLost answer old new
script_lost answer old new view is = record {
  stays = λ p gone. ap (λ (v : View). v.lost p) view ∙ gone;
  both = λ e. absurd (no_of answer status.BothLost is refl e);
}

-- a run whose script is refused for what it or its source lacks, or out of memory, however its lines are played
pub not_run : (cold : Bool) (source : Sourced) (refusal : Option Status) (Says : Script → Type 0) (r : RunEnd) → r.base ≡ no_queue → r.same → r.new ≡ r.old → is_of_script r.answer ≡ true
    → (source.tells → Answers cold refusal r.answer) → (r.answer ≡ status.SourceFault → Rose source.before source.after) → (source.tells → IsTakenFrom source.left source.rest) → IsScriptRun cold source refusal Says r
not_run cold source refusal Says r none stays view is refused faulted taken = record {
  refused = refused;
  words = no_of r.answer status.Words is refl;
  device = λ c dev size e. absurd (no_of r.answer (status.DeviceSize dev size) is refl e);
  formatted = λ c first second e. absurd (no_of r.answer (status.NotFormatted first second) is refl e);
  unstarted = λ c not. not_started r.tells r.answer r.old r.new is;
  faulted = faulted;
  untouched = λ not. inr (inl stays);
  idle = λ not. stays;
  unprinted = λ told not. subst (λ (v : View). AreSidesKept r.old v) (sym view) (sides_none (r.old.world r.old.now));
  volumes = λ told not. subst (AreVolumesKept r.old) (sym view) (kept_none r.old);
  loses = λ not lost d. ap (λ (v : View). v.loses d) view;
  arms = λ not m. ap (λ (v : View). v.arms m) view;
  lost = λ not. script_lost r.answer r.old r.new view is;
  room = λ begun. absurd (not_begun r.base none begun);
  roomy = λ begun. absurd (not_begun r.base none begun);
  read = λ told begun. absurd (not_begun r.base none begun);
  taken = taken;
}

pub not_played : (cold only : Bool) (source : Sourced) (r : RunEnd) → r.base ≡ no_queue → r.same → r.new ≡ r.old → is_of_script r.answer ≡ true
    → (source.tells → Answers cold (refusal_before_play cold only source.left r.old) r.answer) → (r.answer ≡ status.SourceFault → Rose source.before source.after) → (source.tells → IsTakenFrom source.left source.rest) → IsPlayed cold only source r
not_played cold only source r none stays view is refused faulted taken = record {
  every = not_run cold source (refusal_before_play cold only source.left r.old) (IsSaid cold only source.left) r none stays view is refused faulted taken;
  formats = λ o told. subst (AreVolumesKept r.old) (sym view) (kept_none r.old);
  run = λ begun. absurd (not_begun r.base none begun);
  complete = λ told no still.
      let fine : is_refusal cold r.answer ≡ false = subst (λ (why : Option Status). Answers cold why r.answer) no (refused told) in
      ends cold r.answer r.tells _ source.before source.after r.old r.new fine faulted (script_caused r.answer r.old r.new is) still (λ lost told alone takes. no_of r.answer status.BothLost is refl lost);
}
