-- A job that came over a line, at the beginning of a sitting: it begins, and gets its groups.
use Rattle.std.specs.Prelude.{◌+◌, ◌*◌, List, length, Option, Some, None, Result}
use Rattle.mas_types.specs.declared.ids.JobNo.{JobNo}
use Rattle.mas_types.specs.declared.journals.Entry.{Entry}
use Rattle.mas_types.specs.declared.queues.Queue.{Queue}
use Rattle.mas_types.specs.Closings.{reply_lines}
use Rattle.mas_types.specs.Owners.{groups_needed}
use Rattle.spool_plant.specs.declared.plant.Plant.{Ghosts as PlantGhosts}
use Rattle.ckpt_copy.specs.declared.copying.Copying.{Ghosts as CopyGhosts}
use Rattle.ckpt_form.specs.declared.steady.Steady.{Ghosts as SteadyGhosts}
use Rattle.mas_complex.specs.declared.complex.Complex.{Complex}
use Rattle.mas_complex.specs.Parts.{parts_of}
use Rattle.member_node.specs.declared.member.NodeNo.{NodeNo}
use Rattle.nje_frames.specs.declared.frames.Frame.{Frame}
use Rattle.nje_frames.specs.declared.frames.Frame.TheVariants as frame
use Rattle.step_turns.specs.Decks.{job_opened, opening}
use Rattle.step_turns.specs.Entries.{closing_reply, given_in}
use Rattle.step_turns.specs.declared.states.Holder.{Holder}
use Rattle.step_turns.specs.declared.states.Service.{Service}
use Rattle.step_turns.specs.declared.states.State.TheVariants.{Away}
use Rattle.step_turns.specs.declared.states.Aside.TheVariants.{SpoolArrival}
use Rattle.step_turns.specs.TurnParts.{Turn, after_part, leaves, says}
use Rattle.member_sittings.specs.declared.ends.SittingEnd.{SittingEnd}
use Rattle.member_sittings.specs.Whole.{queue_of}
use Rattle.member_frames.specs.declared.arrivals.ReadJob.{ReadJob}
use Rattle.member_frames.specs.Plays.{SatLine}

-- the frame is a job's
abbrev pub IsJobFrame : Frame → Type 0
IsJobFrame (frame.Job number origin node text) = Unit {0}
IsJobFrame (frame.Ack number) = ⊥

-- a job that gets its groups, or is refused them, by its first commands
abbrev pub arrival_opens : Holder → Option JobNo → List Entry → ReadJob → Service → Turn
arrival_opens h (Some n) es r s = after_part es (leaves (Away (SpoolArrival r.number n r.text s)))
arrival_opens h None es r s = after_part es (says (reply_lines h.by h.step (closing_reply es)))

-- what it gives at a queue
abbrev pub arrival_turn : Holder → ReadJob → Service → Queue → Turn
arrival_turn h r s Q =
    let groups = groups_needed r.text in
    arrival_opens h (job_opened Q h.by r.fields groups) (given_in Q h.by h.step (opening Q h.by r.fields groups)) r s

module _ {P C : Type 0} {plants : PlantGhosts P} {steadies : SteadyGhosts C} {copies : CopyGhosts C} where
  -- the sitting is the one that the job gives at the queue that the member found
  abbrev pub BeginsArrival : Type 0 → Holder → ReadJob → Service → Complex P C plants steadies copies
      → Complex P C plants steadies copies → Result SittingEnd NodeNo → Type 0
  BeginsArrival told h r s x y result = SatLine told h (2 * length s.frames + 3)
      (arrival_turn h r s (queue_of (parts_of x))) x y result
