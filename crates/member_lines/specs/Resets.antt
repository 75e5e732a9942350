-- What the sitting of a line leaves that resets a stopped member, for every answer.
use Rattle.std.specs.Prelude.{◌≡◌, false, [], ◌∷◌, All, Result}
use Rattle.mas_types.specs.declared.commands.Command.TheVariants as command
use Rattle.mas_types.specs.declared.commands.Reply.{Reply}
use Rattle.mas_types.specs.declared.ids.MemberId.{MemberId}
use Rattle.mas_types.specs.Closings.{closing_line}
use Rattle.spool_plant.specs.declared.plant.Plant.{Ghosts as PlantGhosts}
use Rattle.ckpt_copy.specs.declared.copying.Copying.{Ghosts as CopyGhosts}
use Rattle.ckpt_form.specs.declared.steady.Steady.{Ghosts as SteadyGhosts}
use Rattle.mas_complex.specs.declared.complex.Complex.{Complex}
use Rattle.mas_complex.specs.Parts.{Parts, parts_of}
use Rattle.member_node.specs.declared.member.NodeNo.{NodeNo}
use Rattle.member_sittings.specs.Steps.{AreOf}
use Rattle.member_sittings.specs.declared.ends.SittingEnd.{SittingEnd}
use Rattle.member_steps.specs.Steps.{entry_with}
use Rattle.member_sittings.specs.Ends.{ends_in}
use Rattle.member_sittings.specs.Sat.{IsSatAs}
use Rattle.member_sittings.specs.Whole.{queue_of}
use Rattle.step_turns.specs.Sittings.{Sitting}
use Rattle.step_turns.specs.declared.states.Holder.{Holder}
use Rattle.step_turns.specs.declared.states.State.TheVariants.{Told}
use Rattle.run_turns.specs.Pieces.{piece_of, reset_closing, reset_pieces}

-- a sitting that gives a reset of this member, with some reply, and closes with the line of that reply
abbrev pub GivesReset : Holder → MemberId → Sitting → Type 0
GivesReset h of t = (r : Reply) × (t ≡ ends_in h ((entry_with h.by h.step (command.Reset of) r ∷ []) ∷ []) Told
    (closing_line h.by h.step (reset_closing of r) ∷ []))

module _ {P C : Type 0} (plants : PlantGhosts P) where
  -- The sitting of a reset, for every answer. It gives the reset alone. Where content is told it is the only piece of
  -- such a line at the queue that the member found.
  pub record HasReset (h : Holder) (of : MemberId) (x y : Parts P C) (result : Result SittingEnd NodeNo) : Type 0 where
    pub sitting : Sitting
    pub is : plants.tells → piece_of sitting false [] ∷ [] ≡ reset_pieces (queue_of x) h of
    pub shaped : GivesReset h of sitting
    pub own : All (AreOf h.by h.step) sitting.batches
    pub sat : IsSatAs plants h.by sitting x y result

-- OVER THE SHARED VALUE

module _ {P C : Type 0} {plants : PlantGhosts P} {steadies : SteadyGhosts C} {copies : CopyGhosts C} where
  abbrev pub Resets : Holder → MemberId → Complex P C plants steadies copies → Complex P C plants steadies copies
      → Result SittingEnd NodeNo → Type 0
  Resets h of x y result = HasReset plants h of (parts_of x) (parts_of y) result
