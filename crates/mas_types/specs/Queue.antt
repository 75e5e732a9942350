-- What a queue says of its jobs, outputs, members and lines.
use Rattle.std.specs.Prelude.{ℕ, ◌-◌, ◌*◌, ◌==◌, nat_le, Bool, true, false, not, ◌&&◌, ◌||◌, if◌then◌else◌, List, [], length, Option, None, find, slice_get, is_some}
use Rattle.std.specs.List.{list_any}
use Rattle.std.specs.Option.{option_map_or}
use Rattle.mas_types.specs.declared.ids.MemberId.{MemberId}
use Rattle.mas_types.specs.declared.ids.JobNo.{JobNo}
use Rattle.mas_types.specs.declared.ids.OutNo.{OutNo}
use Rattle.mas_types.specs.declared.ids.Class.{Class}
use Rattle.mas_types.specs.declared.ids.Name8.{Name8}
use Rattle.mas_types.specs.declared.jobs.Phase.{Phase}
use Rattle.mas_types.specs.declared.jobs.Phase.TheVariants as phase
use Rattle.mas_types.specs.declared.jobs.Text.{Text}
use Rattle.mas_types.specs.declared.jobs.Text.TheVariants.{Whole, Gone}
use Rattle.mas_types.specs.declared.jobs.Job.{Job}
use Rattle.mas_types.specs.declared.jobs.Output.{Output}
use Rattle.mas_types.specs.declared.queues.Config.{Config}
use Rattle.mas_types.specs.declared.queues.Setting.{Setting}
use Rattle.mas_types.specs.declared.queues.LineCount.{LineCount}
use Rattle.mas_types.specs.declared.queues.Queue.{Queue}
use Rattle.mas_types.specs.Lists.{change_at, change_first, without_first}
use Rattle.mas_types.specs.Ids.{no_number, same_member, same_number, same_index, same_name, is_somebody}

-- PHASES

abbrev pub in_input : Phase → Bool
in_input phase.Input = true
in_input _ = false

abbrev pub in_convert : Phase → Bool
in_convert phase.Convert = true
in_convert _ = false

abbrev pub in_execute : Phase → Bool
in_execute phase.Execute = true
in_execute _ = false

abbrev pub in_output : Phase → Bool
in_output phase.Output = true
in_output _ = false

abbrev pub in_hardcopy : Phase → Bool
in_hardcopy phase.Hardcopy = true
in_hardcopy _ = false

abbrev pub in_purge : Phase → Bool
in_purge phase.Purge = true
in_purge _ = false

abbrev pub in_xmit : Phase → Bool
in_xmit phase.Xmit = true
in_xmit _ = false

-- TEXTS

-- how many lines a text has, or had where it is gone
abbrev pub line_count : Text → ℕ
line_count (Whole lines) = length lines
line_count (Gone group count) = count

-- JOBS

abbrev pub has_number : JobNo → Job → Bool
has_number n j = same_number j.number n

abbrev pub is_busy_at : MemberId → Job → Bool
is_busy_at m j = same_member j.busy m

abbrev pub is_waiting : Job → Bool
is_waiting j = not j.fields.held && not (is_somebody j.busy)

abbrev pub job_at : Queue → JobNo → Option Job
job_at Q n = find (has_number n) Q.jobs

abbrev pub change_job : JobNo → (Job → Job) → Queue → Queue
change_job n f Q = record Q { jobs = change_first (has_number n) f Q.jobs }

abbrev pub remove_job : JobNo → Queue → Queue
remove_job n Q = record Q { jobs = without_first (has_number n) Q.jobs }

abbrev pub is_in : (Phase → Bool) → Job → Bool
is_in in_phase j = in_phase j.phase

-- the first job in a phase
abbrev pub first_in : (Phase → Bool) → Queue → Option Job
first_in in_phase Q = find (is_in in_phase) Q.jobs

-- the number of the job that was found, 0 where there is none
abbrev pub number_of : Option Job → JobNo
number_of found = option_map_or (λ j. j.number) found no_number

-- OUTPUTS

abbrev pub is_of : JobNo → Output → Bool
is_of n o = same_number o.job n

abbrev pub has_key : JobNo → OutNo → Output → Bool
has_key n i o = same_number o.job n && same_index o.index i

abbrev pub prints_at : MemberId → Output → Bool
prints_at m o = same_member o.busy m

abbrev pub output_at : Queue → JobNo → OutNo → Option Output
output_at Q n i = find (has_key n i) Q.outputs

abbrev pub change_output : JobNo → OutNo → (Output → Output) → Queue → Queue
change_output n i f Q = record Q { outputs = change_first (has_key n i) f Q.outputs }

abbrev pub remove_output : JobNo → OutNo → Queue → Queue
remove_output n i Q = record Q { outputs = without_first (has_key n i) Q.outputs }

-- the job and the index of the output that was found, 0 where there is none
abbrev pub job_of : Option Output → JobNo
job_of found = option_map_or (λ o. o.job) found no_number

abbrev pub index_of : Option Output → OutNo
index_of found = option_map_or (λ o. o.index) found (record { 0 = 0 })

-- how many lines an output prints
abbrev pub total : Output → ℕ
total o = line_count o.text * o.copies

abbrev pub has_output : JobNo → Queue → Bool
has_output n Q = list_any (is_of n) Q.outputs

-- MEMBERS, counted from 1

-- one of the members of the configuration
abbrev pub is_member : Config → MemberId → Bool
is_member config m = is_somebody m && nat_le m.0 config.members

-- the member's setting. There is none of nobody
abbrev pub setting_of : Queue → MemberId → Option Setting
setting_of Q m = if is_somebody m then slice_get Q.members (m.0 - 1) else None

abbrev pub init_of : Queue → MemberId → List Class
init_of Q m = option_map_or (λ s. s.init) (setting_of Q m) []

abbrev pub prt_of : Queue → MemberId → List Class
prt_of Q m = option_map_or (λ s. s.prt) (setting_of Q m) []

abbrev pub change_setting : MemberId → (Setting → Setting) → Queue → Queue
change_setting m f Q = record Q { members = if is_somebody m then change_at (m.0 - 1) f Q.members else Q.members }

-- the output that is busy at a member. There is none at nobody
abbrev pub printing_at : Queue → MemberId → Option Output
printing_at Q m = if is_somebody m then find (prints_at m) Q.outputs else None

-- THE LINES TO OTHER NODES, counted from 1, here called wires

abbrev pub wire_at : Queue → ℕ → Option LineCount
wire_at Q l = if l == 0 then None else slice_get Q.lines (l - 1)

abbrev pub change_wire : ℕ → (LineCount → LineCount) → Queue → Queue
change_wire l f Q = record Q { lines = if l == 0 then Q.lines else change_at (l - 1) f Q.lines }

-- the number that stands on the wire as current
abbrev pub current_number : Queue → ℕ → JobNo
current_number Q l = option_map_or (λ count. count.current) (wire_at Q l) no_number

-- a job in Xmit with the number that stands on the wire. No number stands on a wire that isn't there
abbrev pub is_current_on : Queue → ℕ → Job → Bool
is_current_on Q l j = in_xmit j.phase && is_some (wire_at Q l) && has_number (current_number Q l) j

-- the job that is current on a wire. None is where no job in Xmit has the number that stands there
abbrev pub current_on : Queue → ℕ → Option Job
current_on Q l = find (is_current_on Q l) Q.jobs

-- the job is current on some wire
abbrev pub is_current : Queue → Job → Bool
is_current Q j = in_xmit j.phase && list_any (λ count. same_number count.current j.number) Q.lines

-- the own node or one that a route names
abbrev pub knows_node : Queue → Name8 → Bool
knows_node Q node = same_name node Q.config.node || list_any (λ r. same_name node r.name) Q.routes
