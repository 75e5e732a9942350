-- Which job or output is selected: of those that wait, those of the first class that any of them has, of them those of
-- the greatest priority, of them the first in the list.
use Rattle.std.specs.Prelude.{ℕ, ◌==◌, Bool, false, not, ◌&&◌, ◌||◌, Option, find}
use Rattle.std.specs.List.{list_any}
use Rattle.std.specs.Option.{option_map_or}
use Rattle.mas_types.specs.declared.ids.MemberId.{MemberId}
use Rattle.mas_types.specs.declared.ids.Name8.{Name8}
use Rattle.mas_types.specs.declared.ids.Class.{Class}
use Rattle.mas_types.specs.declared.jobs.Job.{Job}
use Rattle.mas_types.specs.declared.jobs.Output.{Output}
use Rattle.mas_types.specs.declared.queues.Queue.{Queue}
use Rattle.mas_types.specs.Lists.{is_greatest_of, has_first_key_of}
use Rattle.mas_types.specs.Ids.{same_class, same_name, is_somebody}
use Rattle.mas_types.specs.Queue.{in_convert, in_execute, in_hardcopy, in_xmit, is_in, is_waiting, is_current, job_at, init_of, prt_of, setting_of}
use Rattle.mas_types.specs.Names.{member_name, local_name}

abbrev pub job_prio : Job → ℕ
job_prio j = j.fields.prio.0

abbrev pub has_class : Class → Job → Bool
has_class c j = same_class j.fields.class c

-- FOR CONVERSION

abbrev pub may_convert : Job → Bool
may_convert j = is_in in_convert j && is_waiting j

abbrev pub is_for_convert : Queue → Job → Bool
is_for_convert Q = is_greatest_of job_prio may_convert Q.jobs

-- the job selected for conversion
abbrev pub for_convert : Queue → Option Job
for_convert Q = find (is_for_convert Q) Q.jobs

-- FOR EXECUTION

abbrev pub may_execute : Job → Bool
may_execute j = is_in in_execute j && is_waiting j

abbrev pub is_for_execute : Queue → MemberId → Job → Bool
is_for_execute Q m = is_greatest_of job_prio (has_first_key_of has_class (init_of Q m) may_execute Q.jobs) Q.jobs

-- the job selected for execution by the member's initiators
abbrev pub for_execute : Queue → MemberId → Option Job
for_execute Q m = find (is_for_execute Q m) Q.jobs

-- FOR A PRINTER

-- the priority of an output is its job's
abbrev pub output_prio : Queue → Output → ℕ
output_prio Q o = option_map_or job_prio (job_at Q o.job) 0

abbrev pub of_class : Class → Output → Bool
of_class c o = same_class o.class c

-- the forms of the output are in the member's printer
abbrev pub has_forms_of : Queue → MemberId → Output → Bool
has_forms_of Q m o = option_map_or (λ s. same_name o.forms s.forms) (setting_of Q m) false

-- the member's printer may take the output, whatever its class
abbrev pub may_print : Queue → MemberId → Output → Bool
may_print Q m o =
    not o.held && not (is_somebody o.busy) && option_map_or (is_in in_hardcopy) (job_at Q o.job) false
    && has_forms_of Q m o && (same_name o.dest local_name || same_name o.dest (member_name m))

abbrev pub is_for_printer : Queue → MemberId → Output → Bool
is_for_printer Q m =
    is_greatest_of (output_prio Q) (has_first_key_of of_class (prt_of Q m) (may_print Q m) Q.outputs) Q.outputs

-- the output selected for the member's printer
abbrev pub for_printer : Queue → MemberId → Option Output
for_printer Q m = find (is_for_printer Q m) Q.outputs

-- FOR A LINE TO ANOTHER NODE

-- a route leads to the node by the wire
abbrev pub leads_to : Queue → ℕ → Name8 → Bool
leads_to Q l node = list_any (λ r. same_name node r.name && (r.line == l)) Q.routes

abbrev pub may_send : Queue → ℕ → Job → Bool
may_send Q l j = is_in in_xmit j && not j.fields.held && not (is_current Q j) && leads_to Q l j.fields.node

abbrev pub is_for_wire : Queue → ℕ → Job → Bool
is_for_wire Q l = is_greatest_of job_prio (may_send Q l) Q.jobs

-- the job selected for a wire
abbrev pub for_wire : Queue → ℕ → Option Job
for_wire Q l = find (is_for_wire Q l) Q.jobs
