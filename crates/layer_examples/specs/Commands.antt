-- Worked examples: a job from its deck to its last line, refusals, and a full queue.
use Rattle.std.specs.Prelude.{◌≡◌, ℕ, false, List, [], ◌∷◌, ◌++◌, map, replicate, codes}
use Rattle.mas_types.specs.declared.jobs.OutSpec.{OutSpec}
use Rattle.mas_types.specs.declared.jobs.Phase.TheVariants as phase
use Rattle.mas_types.specs.declared.queues.Queue.{Queue}
use Rattle.mas_types.specs.declared.commands.Command.{Command}
use Rattle.mas_types.specs.declared.commands.Command.TheVariants as command
use Rattle.mas_types.specs.declared.commands.Refusal.TheVariants as refusal
use Rattle.mas_types.specs.declared.commands.Reply.{Reply}
use Rattle.mas_types.specs.declared.commands.Reply.TheVariants as reply
use Rattle.mas_types.specs.declared.commands.What.TheVariants as what
use Rattle.mas_types.specs.declared.units.Unit as units
use Rattle.mas_types.specs.declared.units.Unit.TheVariants as unit
use Rattle.mas_types.specs.Owners.{groups_needed}
use Rattle.mas_types.specs.Starts.{default_config}
use Rattle.mas_types.specs.Step.{step}
use Rattle.mas_types.specs.Units.{unit_of}
use Rattle.queue_laws.specs.Examples.Small.{Given, class, empty, fields_of, index, job, member, name, queue_after, replies_to}

-- room for 16 jobs, 32 outputs and 64 groups
abbrev pub small : Queue
small = empty (record default_config { jobs = 16; outputs = 32; groups = 64 })

abbrev pub by_first : List Command → List Given
by_first commands = map (λ c. (member 1, c)) commands

-- what member 1 would do next before each command, and the reply to the command
abbrev pub units_and_replies : Queue → List Command → List (units.Unit × Reply)
units_and_replies Q [] = []
units_and_replies Q (c ∷ cs) = (unit_of Q (member 1), (step Q (member 1) c).1)
    ∷ units_and_replies (step Q (member 1) c).0 cs

-- two copies of a line
abbrev pub hello : OutSpec
hello = record { class = class 65; dest = name (codes "LOCAL"); forms = name (codes "STD"); copies = 2; held = false; text = codes "HELLO" ∷ [] }

abbrev pub begin : Command
begin = command.Begin (fields_of (codes "A"))

abbrev pub enter : ℕ → Command
enter n = command.Enter (job n) (codes "//A JOB" ∷ [])

abbrev pub ended : ℕ → ℕ → Command
ended n count = command.Ended (job n) (replicate count hello)

abbrev pub whole_life : List Command
whole_life =
    begin ∷ command.Take 2 ∷ enter 1 ∷ command.TakeConvert ∷ command.Converted (job 1) ∷ command.TakeExec
    ∷ command.Take 1 ∷ ended 1 1
    ∷ command.Gather ∷ command.Pick ∷ command.Mark (job 1) (index 1) 5 ∷ command.Done (job 1) (index 1) ∷ command.Purge
    ∷ command.Show what.Queue ∷ []

-- what a member is refused that has begun job 1
abbrev pub refused : List Given
refused =
    (member 1, command.Hold (job 2)) ∷ (member 2, command.Drop (job 1)) ∷ (member 1, command.Converted (job 1))
    ∷ (member 1, enter 1)
    ∷ (member 1, command.Take 65) ∷ (member 2, command.Take 0) ∷ (member 1, command.CancelOut (job 1) (index 1))
    ∷ (member 1, command.Reset (member 3)) ∷ (member 1, command.Sent 1 0) ∷ (member 1, command.Sent 1 2) ∷ []

-- sixteen jobs are begun
abbrev pub sixteen : Queue
sixteen = queue_after small (by_first (replicate 16 begin))

-- the first gets all outputs that there may be, and so the second can't end
abbrev pub until_full : List Command
until_full =
    begin ∷ command.Take 64 ∷ enter 1 ∷ command.TakeConvert ∷ command.Take 32 ∷ ended 1 32 ∷ command.Take 2 ∷ enter 2
    ∷ command.TakeConvert
    ∷ command.Take 1 ∷ ended 2 1 ∷ []

pub record CommandsAreAnswered : Type 0 where
  pub life :
      units_and_replies small whole_life
      ≡ (unit.Idle, reply.Job (job 1)) ∷ (unit.Idle, reply.Count 2) ∷ (unit.Idle, reply.Job (job 1))
      ∷ (unit.TakeConvert, reply.Job (job 1))
      ∷ (unit.Convert (job 1), reply.Job (job 1)) ∷ (unit.TakeExec, reply.Job (job 1))
      ∷ (unit.Run (job 1), reply.Count 1)
      ∷ (unit.Run (job 1), reply.Count 1) ∷ (unit.Gather, reply.Job (job 1))
      ∷ (unit.Pick, reply.Output (job 1) (index 1))
      ∷ (unit.Print (job 1) (index 1), reply.Count 2) ∷ (unit.Finish (job 1) (index 1), reply.Output (job 1) (index 1))
      ∷ (unit.Purge, reply.Job (job 1)) ∷ (unit.Idle, reply.Shown []) ∷ []
  pub refusals :
      replies_to small ((member 1, begin) ∷ refused)
      ≡ reply.Job (job 1) ∷ reply.No refusal.NoJob ∷ reply.No (refusal.InUse (member 1))
      ∷ reply.No (refusal.WrongPhase phase.Input)
      ∷ reply.No refusal.Nothing ∷ reply.Count 64 ∷ reply.No refusal.SpoolFull ∷ reply.No refusal.NoOutput
      ∷ reply.No refusal.NoMember
      ∷ reply.No (refusal.Again 0) ∷ reply.No (refusal.Gap 2 0) ∷ []
  pub numbers :
      replies_to small (by_first (replicate 16 begin))
      ≡ map (λ n. reply.Job (job n)) (1 ∷ 2 ∷ 3 ∷ 4 ∷ 5 ∷ 6 ∷ 7 ∷ 8 ∷ 9 ∷ 10 ∷ 11 ∷ 12 ∷ 13 ∷ 14 ∷ 15 ∷ 16 ∷ [])
  pub full :
      replies_to sixteen (by_first until_full)
      ≡ reply.No refusal.JobsFull ∷ reply.Count 64 ∷ reply.Job (job 1) ∷ reply.Job (job 1) ∷ reply.Count 32
      ∷ reply.Count 32 ∷ reply.Count 2
      ∷ reply.Job (job 2) ∷ reply.Job (job 2) ∷ reply.Count 1 ∷ reply.No refusal.OutputsFull ∷ []
  -- thirty lines of 132 bytes fill a group, except what a thirty-first needs
  pub groups : map (λ n. groups_needed (replicate n (replicate 132 126))) (0 ∷ 30 ∷ 31 ∷ 61 ∷ []) ≡ 1 ∷ 1 ∷ 2 ∷ 3 ∷ []
