-- What is refused before play, and what is answered.
use Rattle.mas_run.proofs.Names.{◌≡◌, ⊎_elim, ℕ, Bool, false, List, [], refl, sym, subst, Status, Script, Step, ScriptSaid as Said, View, Rose, refused_sizes, Answers, is_refusal, IsPlayedOut, refusal_of, refusal_before_play, IsSaid, AreLeftAlone, IsStill, TakesNone, IsCaused}
use Rattle.mas_types.specs.Lists.{first_some}
use Rattle.mas_types.specs.declared.answers.Status.TheVariants as status

-- ANSWERS

pub answers_said : (cold only : Bool) (bytes : List ℕ) (v : View) (script : Script) (answer : Status) → IsSaid cold only bytes script → Answers cold (first_some (refused_sizes cold script.config v)) answer → Answers cold (refusal_before_play cold only bytes v) answer
answers_said cold only bytes v script answer is answered = subst (λ (s : Said). Answers cold (refusal_of cold v s) answer) (sym is) answered

-- what nothing hinders ends with Done, or for want of memory
pub ends : (cold : Bool) (answer : Status) (tells : Type 0) (steps : List Step) (before after : ℕ) (old new : View) → is_refusal cold answer ≡ false → (answer ≡ status.SourceFault → Rose before after) → IsCaused answer old new
    → IsStill tells steps before after old new → (answer ≡ status.BothLost → tells → AreLeftAlone steps old new → TakesNone old new [] steps → ⊥) → IsPlayedOut cold answer
ends cold status.Done tells steps before after old new fine source caused still alone = tt
ends cold status.NoMemory tells steps before after old new fine source caused still alone = tt
ends cold status.SourceFault tells steps before after old new fine source caused still alone = absurd (still.source (source refl))
ends cold status.BothLost tells steps before after old new fine source caused still alone = absurd (⊎_elim (λ a. alone refl a.0 a.1 a.2) (λ not. not (caused.failed1 refl) (caused.failed2 refl)) still.disks)
ends cold status.ConsoleFault tells steps before after old new fine source caused still alone = absurd (still.console (caused.console refl))
ends cold (status.NotFormatted first second) tells steps before after old new fine source caused still alone = fine
ends cold (status.DeviceSize dev size) tells steps before after old new fine source caused still alone = fine
ends cold _ tells steps before after old new fine source caused still alone = absurd (cc)
