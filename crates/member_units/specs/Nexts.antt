-- The next unit of a member's work: its command, or the acts for which it waits.
use Rattle.std.specs.Prelude.{◌≡◌, suc, ◌+◌, ◌*◌, ◌≤◌, Bool, true, false, Option, Some, None, option_map, IfSome}
use Rattle.mas_types.specs.declared.commands.Command.{Command}
use Rattle.mas_types.specs.declared.ids.JobNo.{JobNo}
use Rattle.mas_types.specs.declared.ids.MemberId.{MemberId}
use Rattle.mas_types.specs.declared.ids.OutNo.{OutNo}
use Rattle.mas_types.specs.declared.jobs.Job.{Job}
use Rattle.mas_types.specs.declared.jobs.Output.{Output}
use Rattle.mas_types.specs.declared.queues.Queue.{Queue}
use Rattle.mas_types.specs.declared.units.Unit as units
use Rattle.mas_types.specs.declared.units.Unit.TheVariants as unit
use Rattle.mas_types.specs.Fit.{IsFit}
use Rattle.mas_types.specs.Queue.{job_at, output_at}
use Rattle.ckpt_tables.specs.declared.tables.Tables.{Tables}
use Rattle.queue_telling.specs.Telling.{Tell, TellSound}
use Rattle.member_giving.specs.Ready.{IsReadyUnit}
use Rattle.member_work.specs.Printing.{IsPrinting}
use Rattle.member_work.specs.Steps.{IsUnderWay}
use Rattle.member_work.specs.Units.{command_of}
use Rattle.step_turns.specs.Courses.{aside_most}
use Rattle.step_turns.specs.JobEnds.{chunk_end}
use Rattle.step_turns.specs.Laws.{aside_done, aside_units}
use Rattle.step_turns.specs.declared.states.Aside.{Aside}
use Rattle.step_turns.specs.declared.states.Aside.TheVariants.{PrintLines, ReadText}
use Rattle.step_turns.specs.declared.states.Progress.{Progress}

-- the command of a unit, which is within the limits
pub record IsOfUnit (c : Command) : Type 0 where
  pub of : units.Unit
  pub is : command_of of ≡ Some c
  pub fit : IsFit c

-- A UNIT THAT READS A TEXT, by the queue, where a job or an output has this number or key

abbrev pub text_of : Bool → Progress → Option Job → Option Aside
text_of runs p o = option_map (λ j. ReadText runs j.number j.fields p) o

abbrev pub lines_of : MemberId → Progress → Queue → Option Output → Option Aside
lines_of by p Q o = option_map (λ o. PrintLines o.job o.index (chunk_end Q by o) p) o

-- the acts for which a unit waits
abbrev pub aside_of : MemberId → Progress → Queue → units.Unit → Option Aside
aside_of by p Q (unit.Print n i) = lines_of by p Q (output_at Q n i)
aside_of by p Q (unit.Run n) = text_of true p (job_at Q n)
aside_of by p Q (unit.Convert n) = text_of false p (job_at Q n)
aside_of by p Q _ = None

-- A MEMBER'S NEXT UNIT, after which so many may be played

-- the member is ready to wait for these acts of it
pub record IsAwaited (t : Tables) (by : MemberId) (p : Progress) (a : Aside) : Type 0 where
  pub ready : IsReadyUnit t by a
  pub units : aside_units a ≡ suc p.left
  pub done : aside_done a ≡ p.done
  pub most : aside_most a ≤ 3 * p.left + 3

-- the job's text, for which the member is ready to wait where the job is under way at it
pub record IsText (t : Tables) (by : MemberId) (runs : Bool) (n : JobNo) (p : Progress) (x : Option Aside)
    : Type 0 where
  pub is : (Q : Queue) → Tell t Q → x ≡ text_of runs p (job_at Q n)
  pub awaited : ((Q : Queue) → Tell t Q → TellSound t → IsUnderWay Q by n) → IfSome x (IsAwaited t by p)

-- the output's next lines, for which it is ready to wait where the output is at its printer
pub record AreLines (t : Tables) (by : MemberId) (n : JobNo) (i : OutNo) (p : Progress) (x : Option Aside)
    : Type 0 where
  pub is : (Q : Queue) → Tell t Q → x ≡ lines_of by p Q (output_at Q n i)
  pub awaited : ((Q : Queue) → Tell t Q → TellSound t → IsPrinting Q by n i) → IfSome x (IsAwaited t by p)

pub record AreActs (t : Tables) (by : MemberId) (u : units.Unit) (p : Progress) (x : Option Aside) : Type 0 where
  pub is : (Q : Queue) → Tell t Q → x ≡ aside_of by p Q u
  pub awaited : IfSome x (IsAwaited t by p)
