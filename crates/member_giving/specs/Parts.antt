-- What a unit gives at once: its commands, how the unit ends with them, and where it may give them.
use Rattle.member_giving.specs.Names.{Done, Holder, IsNamedEnd, MayEndBy, AreOutputs, AreSpooled, Command, Entry, IsMarkRight, IsUnderWay, MayBeGiven, MemberId, Queue, Refused, SpoolLost, closing_reply, counts_after, counts_of, drop_groups, end_by, ending, given_in, groups_for_end, held_by, job_at, member_count, outputs_at_end, spools_at, taken_end, taking}
use Rattle.std.specs.Prelude.{[], ◌≡◌, ℕ, ◌+◌, ◌*◌, ◌≤◌, ◌<◌, false, List, ◌∷◌, length, Some, take, Result, Ok, IfOk, OnOk}
use Rattle.job_outcome.specs.declared.units.UnitEnd.{UnitEnd}
use Rattle.ckpt_form.specs.declared.steady.Steady.{Ghosts as SteadyGhosts}
use Rattle.ckpt_copy.specs.declared.copying.Copying.{Ghosts as CopyGhosts}
use Rattle.ckpt_tables.specs.declared.tables.Tables.{Tables}
use Rattle.mas_complex.specs.Texts.{Spools}
use Rattle.mas_complex.specs.declared.complex.Complex.{Complex}
use Rattle.member_node.specs.declared.member.Member.{Member}
use Rattle.member_work.specs.Giving.{Giving, IsOwn, IsSoundPlain, MayEnd}
use Rattle.queue_telling.specs.Telling.{TellSound}
use Rattle.spool_plant.specs.declared.plant.Plant.{Ghosts as PlantGhosts}
use Rattle.step_turns.specs.Entries.{is_drop}
use Rattle.step_turns.specs.declared.states.Found.{Found}
use Rattle.member_node.specs.declared.member.NodeNo.{NodeNo}
use Rattle.member_giving.specs.Plays.{HasGiven, unit_part}
use Rattle.member_giving.specs.Works.{IsLow, Works, place_of, queue_here, queue_kept, run_of}
use Rattle.member_giving.specs.declared.parts.Part.{Part}
use Rattle.member_giving.specs.declared.parts.Part.TheVariants as part

-- the commands of a part, at a queue
abbrev pub commands_of : MemberId → Queue → Part → List Command
commands_of by Q (part.One c) = c ∷ []
commands_of by Q (part.Groups needed) = taking Q by needed
commands_of by Q (part.Ended n specs) = ending Q by n specs
commands_of by Q (part.Lost volume) = drop_groups ∷ []

-- how many there are at most
abbrev pub commands_most : Part → ℕ
commands_most (part.One c) = 1
commands_most _ = 3

-- how the unit ends
abbrev pub ends_of : MemberId → ℕ → Queue → Part → UnitEnd
ends_of by at Q (part.One c) = end_by (closing_reply (given_in Q by at (c ∷ [])))
ends_of by at Q (part.Groups needed) = taken_end Q by at needed
ends_of by at Q (part.Ended n specs) = end_by (closing_reply (given_in Q by at (ending Q by n specs)))
ends_of by at Q (part.Lost volume) = Refused (SpoolLost volume)

-- one command is one entry
abbrev pub IsLonger : Part → List Entry → List Entry → Type 0
IsLonger (part.One c) es fs = length fs ≡ length es + 1
IsLonger _ es fs = Unit {0}

-- groups are given up only where this volume was found lost
abbrev pub MayLose : Found → Part → Type 0
MayLose found (part.Lost volume) = found.lost ≡ Some volume
MayLose found _ = Unit {0}

-- the member has the groups that it took
abbrev pub IsTaken : Member → Part → Type 0
IsTaken m (part.Groups needed) = needed ≤ member_count m.id m.checkpoint.tables.owners
IsTaken m _ = Unit {0}

-- ON A MEMBER'S TABLES

-- a member may give a part by its tables; and the step may close with the reply to one command
abbrev pub IsOwnPart : Member → Part → Type 0
IsOwnPart m (part.One c) = IsOwn m c × (is_drop c ≡ false)
IsOwnPart m (part.Groups needed) = 1 ≤ needed
IsOwnPart m (part.Ended n specs) = AreOutputs specs
IsOwnPart m (part.Lost volume) = Unit {0}

abbrev pub gives_part : ℕ → MemberId → Part → Giving
gives_part at by p = record { at = at; commands = λ Q. commands_of by Q p; ends = λ Q. ends_of by at Q p }

-- where its commands leave the texts of a queue on the volumes
abbrev pub PartStands : Tables → Queue → MemberId → Part → Spools → ℕ → Type 0
PartStands t Q by (part.One c) = λ disks per. IsSoundPlain t c
PartStands t Q by (part.Groups needed) = λ disks per. TellSound t
PartStands t Q by (part.Ended n specs) = λ disks per. TellSound t × MayEnd Q by n specs disks per
PartStands t Q by (part.Lost volume) = λ disks per. TellSound t

-- IN A SITTING

-- a part, and who gives it
pub record ToGive : Type 0 where
  pub holder : Holder
  pub part : Part

abbrev pub to_give : Holder → Part → ToGive
to_give h p = record { holder = h; part = p }

module _ {P C : Type 0} {plants : PlantGhosts P} {steadies : SteadyGhosts C} {copies : CopyGhosts C} where
  -- where a sitting begins, with nothing unwritten
  pub record IsBare (x : Complex P C plants steadies copies) (m : Member) : Type 0 where
    pub low : IsLow x m
    pub nothing : m.batch ≡ []

  -- a member may give a part
  abbrev pub MayGive : Complex P C plants steadies copies → Member → Part → Type 0
  MayGive x m (part.One c) = (length m.batch < 64) × MayBeGiven x.base m.id c
      × (plants.tells → IsMarkRight (queue_here x m) m.id (counts_after m.batch (counts_of x.printed) m.id) c)
  MayGive x m (part.Groups needed) = IsBare x m × (1 ≤ needed)
  MayGive x m (part.Ended n specs) = IsBare x m × AreOutputs specs × (plants.tells → IsUnderWay (queue_kept x) m.id n)
      × (plants.tells → AreSpooled (spools_at (plants.view x.plant) (plants.view x.plant).now) x.base.config.groups
      (outputs_at_end (job_at (queue_kept x) n) specs)
      (take (groups_for_end (queue_kept x) n specs) (held_by m.id (queue_kept x).owners)))
  MayGive x m (part.Lost volume) = IsBare x m

  -- It was given, or, out of memory, what was given before is kept if there is memory for that.
  pub record GavePart (g : ToGive) (x : Complex P C plants steadies copies) (m : Member)
      (y : Complex P C plants steadies copies) (n : Member) (result : Result UnitEnd NodeNo) : Type 0 where
    pub run : run_of y n ≡ run_of x m
    pub given : HasGiven plants.tells g.holder (unit_part (commands_of g.holder.by (queue_here x m) g.part)
        (ends_of g.holder.by g.holder.step (queue_here x m) g.part)) (place_of x m) (place_of y n) result
    pub named : IfOk result IsNamedEnd
    pub works : OnOk result (Works y n g.holder)
    pub order : OnOk result (n.checkpoint.tables.order ≤ m.checkpoint.tables.order + 32 * commands_most g.part)
    pub high : OnOk result (n.checkpoint.level ≡ m.checkpoint.level)
    pub reached : OnOk result (y.level ≡ x.level)
    pub longer : OnOk result (IsLonger g.part m.batch n.batch)
    pub ends : (found : Found) → MayLose found g.part → IfOk result (MayEndBy found)
    pub taken : result ≡ Ok Done → IsTaken n g.part
