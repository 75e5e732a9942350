-- What a run of a script does that is made of so many decks.
use Rattle.std.specs.Prelude.{◌≡◌, ◌⊎◌, ℕ, ◌<◌, true, false, List, [], None}
use Rattle.mas_types.specs.declared.answers.Status.{Status}
use Rattle.mas_types.specs.declared.answers.Status.TheVariants as status
use Rattle.mas_types.specs.declared.ids.Dev.TheVariants.{Ckpt1, Ckpt2}
use Rattle.mas_types.specs.Lists.{first_some}
use Rattle.spool_plant.specs.declared.plant.Act.{Act}
use Rattle.spool_plant.specs.declared.plant.Act.TheVariants.{Done, Failed}
use Rattle.spool_plant.specs.declared.plant.Part.TheVariants.{Console}
use Rattle.spool_plant.specs.View.{View}
use Rattle.spool_plant.specs.Acts.{Acts, Rose, Says, top}
use Rattle.gen_work.specs.Generated.{script_text}
use Rattle.gen_work.specs.Summaries.{summary_line, summary_of}
use Rattle.script_generated.specs.Steps.{script_generated}
use Rattle.mas_complex.specs.Renewals.{no_renewals}
use Rattle.member_node.specs.Calls.{WasLost}
use Rattle.run_opening.specs.Refusals.{IsPlayedOut, refused_devices}
use Rattle.run_opening.specs.Runs.{has_begun, IsSafe}
use Rattle.mas_run.specs.Statuses.{AreLeftAlone}
use Rattle.mas_tasks.specs.Plays.{IsPlayed}
use Rattle.mas_tasks.specs.ScriptRuns.{RunEnd, Sourced}

-- a text in memory as a source: it tells what it has left, and never fails
abbrev pub text_source : List ℕ → List ℕ → Sourced
text_source text rest = record
    { tells = Unit {0}; before = 0; after = 0; left = text; rest = rest }

-- the script of so many decks
abbrev pub script_source : ℕ → List ℕ → Sourced
script_source decks rest = text_source (script_text decks) rest

-- the operator says a line: one act, with this answer
pub record SaysOne (tells : Type 0) (line : List ℕ) (old new : View) (result : Act) : Type 0 where
  pub acts : Acts 0 Console old new result
  pub says : tells → Says line old new result

-- the line was said, or the console failed
abbrev pub IsSaid : Type 0 → List ℕ → Status → View → View → Type 0
IsSaid tells line status.Done old new = SaysOne tells line old new Done
IsSaid tells line status.ConsoleFault old new = SaysOne tells line old new Failed
IsSaid tells line _ old new = ⊥

-- the line was said, or it wasn't: the console failed, or there was no memory for it, and nothing was done
abbrev pub MaySay : Type 0 → List ℕ → Status → View → View → Type 0
MaySay tells line status.NoMemory old new = new ≡ old
MaySay tells line answer old new = IsSaid tells line answer old new

-- How a run ended whose lines had ended so: where all of them were played, this line was to be said. Else nothing more
-- was done.
abbrev pub SumsUp : Type 0 → List ℕ → Status → Status → View → View → Type 0
SumsUp tells line status.Done answer between new = MaySay tells line answer between new
SumsUp tells line ended answer between new = (answer ≡ ended) × (new ≡ between)

-- No fault of the console rose in a run; and the copies were left alone by their devices, where content is told, or not
-- both were lost.
pub record IsUnhindered (tells : Type 0) (old new : View) : Type 0 where
  pub disks : (tells × AreLeftAlone [] old new) ⊎ (WasLost Ckpt1 old new → WasLost Ckpt2 old new → ⊥)
  pub console : Rose (old.faults Console) (new.faults Console) → ⊥

-- the run when it had played its lines: with this status, on a plant that showed this then
abbrev pub before_sum : Status → View → RunEnd → RunEnd
before_sum ended between r = record r { answer = ended; new = between }

-- A cold run of the script of so many decks. Its text says just these decks and the work on them (`script_generated`).
pub record IsGenerated (decks : ℕ) (r : RunEnd) : Type 0 where
  -- the script was played as any other, up to what the plant showed then, with this status
  pub rest : List ℕ
  pub ended : Status
  pub between : View
  pub played : IsPlayed true false (script_source decks rest) (before_sum ended between r)
  -- and then what it came to was said
  pub summed : SumsUp r.tells (summary_line (summary_of r.base r.journal)) ended r.answer between r.new
  -- what a run that has begun, and in which no copy was replaced, promises of each moment holds up to its end, below
  -- the greatest moment
  pub safe : has_begun r.base ≡ true → r.new.now < top → IsSafe r.tells r.base r.journal no_renewals r.since r.new
  -- where the devices are large enough and nothing hinders it, it is played to its end, and the line is said
  pub complete : first_some (refused_devices (script_generated decks).config r.old) ≡ None
      → IsUnhindered r.tells r.old r.new → IsPlayedOut true r.answer
