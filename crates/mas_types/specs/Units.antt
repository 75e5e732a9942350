-- The next work unit of a member: the first that applies.
use Rattle.std.specs.Prelude.{nat_lt, Bool, ◌&&◌, if◌then◌else◌, List, [], ◌∷◌, find, Option, None, option_map, unwrap_or}
use Rattle.mas_types.specs.declared.ids.MemberId.{MemberId}
use Rattle.mas_types.specs.declared.jobs.Phase.{Phase}
use Rattle.mas_types.specs.declared.jobs.Job.{Job}
use Rattle.mas_types.specs.declared.jobs.Output.{Output}
use Rattle.mas_types.specs.declared.queues.Queue.{Queue}
use Rattle.mas_types.specs.declared.units.Unit as units
use Rattle.mas_types.specs.declared.units.Unit.TheVariants as unit
use Rattle.mas_types.specs.Lists.{first_some}
use Rattle.mas_types.specs.Ids.{is_somebody}
use Rattle.mas_types.specs.Queue.{first_in, in_purge, in_output, in_execute, in_convert, is_busy_at, printing_at, total}
use Rattle.mas_types.specs.Selection.{for_convert, for_execute, for_printer}

-- the output that is busy at the member is printed while its mark is below its total
abbrev pub print_unit : Output → units.Unit
print_unit o = if nat_lt o.mark (total o) then unit.Print o.job o.index else unit.Finish o.job o.index

-- the unit, where there is what it is about
abbrev pub unit_if : {A : Type 0} → units.Unit → Option A → Option units.Unit
unit_if u found = option_map (λ _. u) found

-- the first job that is busy at the member in a phase. There is none at nobody
abbrev pub working_at : Queue → MemberId → (Phase → Bool) → Option Job
working_at Q m in_phase = if is_somebody m then find (λ j. in_phase j.phase && is_busy_at m j) Q.jobs else None

abbrev pub units_in_order : Queue → MemberId → List (Option units.Unit)
units_in_order Q m =
    option_map print_unit (printing_at Q m)
    ∷ unit_if unit.Pick (for_printer Q m)
    ∷ unit_if unit.Purge (first_in in_purge Q)
    ∷ unit_if unit.Gather (first_in in_output Q)
    ∷ option_map (λ j. unit.Run j.number) (working_at Q m in_execute)
    ∷ option_map (λ j. unit.Convert j.number) (working_at Q m in_convert)
    ∷ unit_if unit.TakeExec (for_execute Q m)
    ∷ unit_if unit.TakeConvert (for_convert Q)
    ∷ []

-- the next unit of the member, Idle where none applies
abbrev pub unit_of : Queue → MemberId → units.Unit
unit_of Q m = unwrap_or (first_some (units_in_order Q m)) unit.Idle
