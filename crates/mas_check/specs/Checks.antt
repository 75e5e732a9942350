-- What a check answers, and the line that it says.
use Rattle.std.specs.Prelude.{◌≡◌, ◌⊎◌, ℕ, List, [], ◌∷◌, decimal, codes, Option, Some, None, Result, Ok, Err}
use Rattle.mas_types.specs.declared.answers.FaultKind.TheVariants as kind
use Rattle.mas_types.specs.declared.answers.Verdict.{Verdict}
use Rattle.mas_types.specs.declared.answers.Verdict.TheVariants.{Sound, Fault}
use Rattle.mas_types.specs.declared.ids.Page.{Page}
use Rattle.mas_types.specs.Shown.{words}
use Rattle.mas_types.specs.Statuses.{verdict_line}
use Rattle.spool_plant.specs.View.{View}
use Rattle.ckpt_tables.specs.declared.tables.Tables.{Tables}
use Rattle.ckpt_pages.specs.declared.faults.TableFault.{TableFault}
use Rattle.ckpt_pages.specs.declared.faults.TableFault.TheVariants as fault
use Rattle.ckpt_pages.specs.declared.entries.PageNo.{PageNo}
use Rattle.ckpt_pages.specs.declared.entries.PageNo.TheVariants.{BadPage}
use Rattle.ckpt_pages.specs.declared.entries.PageNo.TheVariants as page_no
use Rattle.ckpt_pages.specs.Checkpoints.{IsCheckpoint, IsLeastBad}
use Rattle.ckpt_pages.specs.Sound.{fault_of}
use Rattle.mas_check.specs.declared.checking.CheckNo.{CheckNo}
use Rattle.mas_check.specs.declared.checking.CheckNo.TheVariants.{SpoolLost, NoMemory}
use Rattle.mas_check.specs.Groups.{wrong_group}
use Rattle.mas_check.specs.Volumes.{groups_on, lost_volume}

-- THE ANSWER

-- the answer for pages that aren't decoded
abbrev pub page_answer : PageNo → Result Verdict CheckNo
page_answer (BadPage page) = Ok (Fault kind.Page page)
page_answer page_no.NoMemory = Err NoMemory

abbrev pub verdict_of : TableFault → Verdict
verdict_of (fault.Number slot) = Fault kind.Number slot
verdict_of (fault.Owner group) = Fault kind.Owner group
verdict_of (fault.Place group) = Fault kind.Place group

abbrev pub text_verdict : Option ℕ → Verdict
text_verdict None = Sound
text_verdict (Some group) = Fault kind.Text group

-- The answer for tables with this fault, where this volume is the least that is lost with a group of a text on it, and
-- this is the first group of a text that holds no records of it.
abbrev pub answer_of : Option TableFault → Option ℕ → Option ℕ → Result Verdict CheckNo
answer_of (Some f) lost text = Ok (verdict_of f)
answer_of None (Some volume) text = Err (SpoolLost volume)
answer_of None None text = Ok (text_verdict text)

-- The texts of tables were found so, by a call that only reads. A volume counts as lost where it is at the end.
pub record IsCheckOf (tells : Type 0) (t : Tables) (old new : View) (answer : Result Verdict CheckNo)
    : Type 0 where
  pub text : Option ℕ
  pub told : tells → text ≡ wrong_group t (groups_on old t.config.groups t.owners)
  pub is : answer ≡ answer_of (fault_of t) (lost_volume new t.config.groups t.owners) text

-- the texts of tables were checked by a call that only reads, or it ran out of memory
abbrev pub IsCheckOrNone : Type 0 → Tables → View → View → Result Verdict CheckNo → Type 0
IsCheckOrNone tells t old new answer = (answer ≡ Err NoMemory) ⊎ IsCheckOf tells t old new answer

-- The pages spell tables, and the answer is theirs.
pub record IsCheck (tells : Type 0) (pages : List Page) (old new : View) (answer : Result Verdict CheckNo)
    : Type 0 where
  pub tables : Tables
  pub spelled : IsCheckpoint pages tables
  pub checked : IsCheckOf tells tables old new answer

-- A page that is no spelling is the fault before all others, the least such page.
abbrev pub IsAnswer : Type 0 → List Page → View → View → Result Verdict CheckNo → Type 0
IsAnswer tells pages old new (Ok (Fault kind.Page page)) = IsLeastBad pages page
IsAnswer tells pages old new (Err NoMemory) = Unit {0}
IsAnswer tells pages old new answer = IsCheck tells pages old new answer

-- THE LINE OF A CHECK

-- the line of a check's answer; none where the check ran out of memory
abbrev pub line_of : Result Verdict CheckNo → Option (List ℕ)
line_of (Ok verdict) = Some (verdict_line verdict)
line_of (Err (SpoolLost volume)) = Some (words (codes "SPOOL LOST" ∷ decimal volume ∷ []))
line_of (Err NoMemory) = None
