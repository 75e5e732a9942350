-- What a display shows.
use Rattle.std.specs.Prelude.{ℕ, zero, suc, ◌+◌, Bool, if◌then◌else◌, List, [], ◌∷◌, ◌++◌, map, filter, take, drop, decimal, codes, Option}
use Rattle.std.specs.List.{join_with_byte}
use Rattle.std.specs.Option.{option_map_or}
use Rattle.mas_types.specs.declared.ids.MemberId.{MemberId}
use Rattle.mas_types.specs.declared.ids.JobNo.{JobNo}
use Rattle.mas_types.specs.declared.ids.OutNo.{OutNo}
use Rattle.mas_types.specs.declared.ids.Class.{Class}
use Rattle.mas_types.specs.declared.jobs.Phase.{Phase}
use Rattle.mas_types.specs.declared.jobs.Phase.TheVariants as phase
use Rattle.mas_types.specs.declared.jobs.Job.{Job}
use Rattle.mas_types.specs.declared.jobs.Output.{Output}
use Rattle.mas_types.specs.declared.commands.What.{What}
use Rattle.mas_types.specs.declared.commands.What.TheVariants as what
use Rattle.mas_types.specs.declared.commands.Refusal.{Refusal}
use Rattle.mas_types.specs.declared.commands.Refusal.TheVariants as refusal
use Rattle.mas_types.specs.declared.commands.Reply.TheVariants as reply
use Rattle.mas_types.specs.declared.queues.Owner.{Owner}
use Rattle.mas_types.specs.declared.queues.Setting.{Setting}
use Rattle.mas_types.specs.declared.queues.Queue.{Queue}
use Rattle.mas_types.specs.Ids.{is_somebody}
use Rattle.mas_types.specs.Names.{member_name, name_text}
use Rattle.mas_types.specs.Numerals.{in_digits, key_of}
use Rattle.mas_types.specs.Queue.{job_at, is_of, line_count}
use Rattle.mas_types.specs.Owners.{free_count}
use Rattle.mas_types.specs.Row.{Row, none_such}

-- words with a blank between each two
abbrev pub words : List (List ℕ) → List ℕ
words ws = join_with_byte 32 ws

abbrev pub class_text : Class → List ℕ
class_text c = c.0 ∷ []

-- classes without separators
abbrev pub classes_text : List Class → List ℕ
classes_text cs = map (λ c. c.0) cs

abbrev pub phase_text : Phase → List ℕ
phase_text phase.Input = codes "INPUT"
phase_text phase.Convert = codes "CONVERT"
phase_text phase.Execute = codes "EXECUTE"
phase_text phase.Output = codes "OUTPUT"
phase_text phase.Hardcopy = codes "HARDCOPY"
phase_text phase.Purge = codes "PURGE"
phase_text phase.Xmit = codes "XMIT"

abbrev pub member_word : MemberId → List ℕ
member_word m = name_text (member_name m)

-- the busy member, or - for nobody
abbrev pub busy_text : MemberId → List ℕ
busy_text m = if is_somebody m then member_word m else codes "-"

abbrev pub held_text : Bool → List ℕ
held_text held = if held then codes "HELD" else codes "-"

-- the job identifier, a point, and the index in two digits
abbrev pub output_key : JobNo → OutNo → List ℕ
output_key job index = key_of job.0 ++ 46 ∷ in_digits 2 index.0

abbrev pub job_line : Job → List ℕ
job_line j = words (
    key_of j.number.0 ∷ name_text j.fields.name ∷ class_text j.fields.class ∷ in_digits 2 j.fields.prio.0
    ∷ phase_text j.phase ∷ busy_text j.busy ∷ held_text j.fields.held ∷ [])

abbrev pub output_line : Output → List ℕ
output_line o = words (
    output_key o.job o.index ∷ class_text o.class ∷ name_text o.dest ∷ name_text o.forms ∷ decimal o.copies
    ∷ decimal (line_count o.text) ∷ decimal o.mark ∷ busy_text o.busy ∷ held_text o.held ∷ [])

-- the groups of one volume: how many are Free, and how many there are
abbrev pub volume_line : ℕ → List Owner → ℕ → List ℕ
volume_line v owners groups = words (
    (codes "VOL" ++ decimal v) ∷ codes "FREE" ∷ decimal (free_count (take groups owners)) ∷ codes "OF" ∷ decimal groups ∷ [])

-- the lines of so many volumes, from volume v on
abbrev pub volume_lines : ℕ → ℕ → List Owner → ℕ → List (List ℕ)
volume_lines v zero owners groups = []
volume_lines v (suc more) owners groups =
    volume_line v owners groups ∷ volume_lines (v + 1) more (drop groups owners) groups

abbrev pub member_line : ℕ → Setting → List ℕ
member_line m s = words (
    member_word (record { 0 = m }) ∷ (codes "INIT=" ++ classes_text s.init) ∷ (codes "PRT=" ++ classes_text s.prt)
    ∷ (codes "F=" ++ name_text s.forms) ∷ (codes "L=" ++ decimal s.lines) ∷ [])

-- the lines of the members, from member m on
abbrev pub member_lines : ℕ → List Setting → List (List ℕ)
member_lines m [] = []
member_lines m (s ∷ settings) = member_line m s ∷ member_lines (m + 1) settings

-- a job's line and those of its outputs
abbrev pub one_job : Queue → JobNo → Job → List (List ℕ)
one_job Q n j = job_line j ∷ map output_line (filter (is_of n) Q.outputs)

-- the lines of a display
abbrev pub shown : Queue → What → List (List ℕ)
shown Q what.Queue = map job_line Q.jobs
shown Q (what.Job n) = option_map_or (one_job Q n) (job_at Q n) []
shown Q what.Outputs = map output_line Q.outputs
shown Q what.Spool = volume_lines 1 Q.config.volumes Q.owners Q.config.groups
shown Q what.Members = member_lines 1 Q.members

abbrev pub shown_of_none : Queue → What → List (Option Refusal)
shown_of_none Q (what.Job n) = none_such refusal.NoJob (job_at Q n) ∷ []
shown_of_none Q _ = []

-- SHOW changes nothing
abbrev pub show_row : Queue → What → Row
show_row Q asked = record { refusals = shown_of_none Q asked; effect = Q; answer = reply.Shown (shown Q asked) }
