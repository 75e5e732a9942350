-- What a report does.
use Rattle.std.specs.Prelude.{◌≡◌, ◌≢◌, ◌⊎◌, ℕ, ◌<◌, true, false, List, [], ◌++◌, length, take, map}
use Rattle.mas_types.specs.declared.ids.Dev.{Dev}
use Rattle.mas_types.specs.declared.ids.Dev.TheVariants.{Ckpt1, Ckpt2}
use Rattle.mas_types.specs.declared.queues.Queue.{Queue}
use Rattle.mas_types.specs.declared.answers.Status.{Status}
use Rattle.mas_types.specs.declared.answers.Status.TheVariants as status
use Rattle.spool_plant.specs.declared.plant.Part.{Part}
use Rattle.spool_plant.specs.declared.plant.Part.TheVariants.{Disk, Console}
use Rattle.spool_plant.specs.View.{View, disk_at, disk_now, Throughout}
use Rattle.spool_plant.specs.Acts.{Goes, Rose}
use Rattle.ckpt_form.specs.Form.{form_reads, form_needs}
use Rattle.ckpt_copy.specs.Changes.{NoMore}
use Rattle.mas_complex.specs.Headline.{whole}
use Rattle.mas_complex.specs.Paper.{SamePapers}
use Rattle.start_choice.specs.declared.choosing.StartNo.{StartNo}
use Rattle.warm_start.specs.Inspecting.{HasFailed, HasFound, FindsNone}
use Rattle.queue_report.specs.Reports.{report_lines}
use Rattle.run_opening.specs.Runs.{has_begun}
use Rattle.member_node.specs.Calls.{console_now}
use Rattle.run_opening.specs.Unstarted.{status_of_start}
use Rattle.mas_tasks.specs.ScriptRuns.{RunEnd}

-- At each moment no byte of a device has changed, and each printer has the lines that it had; no device is lost but a
-- copy of the checkpoint on which an act failed.
pub record ChangesNoDevice (tells : Type 0) (old new : View) : Type 0 where
  pub goes : Goes old new
  pub first : tells → Throughout old.now new.now (λ t. NoMore (disk_now old Ckpt1) (disk_at new t Ckpt1))
  pub second : tells → Throughout old.now new.now (λ t. NoMore (disk_now old Ckpt2) (disk_at new t Ckpt2))
  pub others : tells → Throughout old.now new.now
      (λ t. (d : Dev) → d ≢ Ckpt1 → d ≢ Ckpt2 → disk_at new t d ≡ disk_now old d)
  pub papers : tells → SamePapers old new
  pub loses : (d : Dev) → new.loses d ≡ old.loses d
  pub stops : (m : ℕ) → new.stops m ≡ old.stops m
  pub lost1 : (new.lost (Disk Ckpt1) ≡ old.lost (Disk Ckpt1)) ⊎ HasFailed Ckpt1 old new
  pub lost2 : (new.lost (Disk Ckpt2) ≡ old.lost (Disk Ckpt2)) ⊎ HasFailed Ckpt2 old new
  pub else_lost : (p : Part) → p ≢ Disk Ckpt1 → p ≢ Disk Ckpt2 → p ≢ Console → new.lost p ≡ old.lost p

-- the lines up to one for which the console failed
pub record SaysSome (tells : Type 0) (lines : List (List ℕ)) (old new : View) : Type 0 where
  pub said : ℕ
  pub few : said < length lines
  pub console : tells → console_now new ≡ console_now old ++ map whole (take said lines)
  pub failed : Rose (old.faults Console) (new.faults Console)

-- the lines that a report of the queue says
abbrev pub SaysQueue : Type 0 → Status → Queue → View → View → Type 0
SaysQueue tells status.Done Q old new = tells → console_now new ≡ console_now old ++ map whole (report_lines Q)
SaysQueue tells status.ConsoleFault Q old new = SaysSome tells (report_lines Q) old new
SaysQueue tells _ Q old new = ⊥

-- A report that found a queue: the one that a start would find. Nothing is given to it.
pub record HasReported (r : RunEnd) : Type 0 where
  pub found : HasFound form_reads r.tells form_needs r.old r.new r.base
  pub batches : r.journal.batches ≡ []
  pub moment : r.since ≡ r.old.now
  pub said : SaysQueue r.tells r.answer r.base r.old r.new

-- A report that says nothing, and why: there is no queue to be found, or it ran out of memory.
pub record ReportsNone (tells : Type 0) (answer : Status) (old new : View) : Type 0 where
  pub why : StartNo
  pub is : answer ≡ status_of_start why
  pub cause : FindsNone form_reads tells form_needs old new why

-- A report.
pub record IsReport (r : RunEnd) : Type 0 where
  pub devices : ChangesNoDevice r.tells r.old r.new
  pub reported : has_begun r.base ≡ true → HasReported r
  pub unfound : has_begun r.base ≡ false → ReportsNone r.tells r.answer r.old r.new
