-- What bounds a sitting that handles frames.
use Rattle.std.proofs.Common.{◌≡◌, ◌+◌, List, [], ◌∷◌, refl, arith, Result, ℕ}
use Rattle.mas_types.specs.declared.answers.Closing.{Closing}
use Rattle.mas_types.specs.declared.answers.Closing.TheVariants as closing
use Rattle.mas_types.specs.declared.journals.Entry.{Entry}
use Rattle.mas_types.specs.Closings.{closing_line}
use Rattle.step_turns.specs.Courses.{sittings_most}
use Rattle.step_turns.specs.declared.states.Holder.{Holder}
use Rattle.step_turns.specs.declared.states.State.{State}
use Rattle.step_turns.specs.declared.states.State.TheVariants.{Away, Fresh, Rested, Told}
use Rattle.step_turns.specs.TurnParts.{leaves, says}
use Rattle.member_sittings.specs.Shapes.{LineLines, SaysAtEnd}
use Rattle.member_giving.proofs.Going.{played_out}
use Rattle.member_giving.specs.Plays.{unwritten, wrote_of, PlaysOut, to_play}
use Rattle.member_frames.specs.Plays.{EndsLine, IsWithinLine, ServesLine}
use Rattle.member_node.specs.declared.member.NodeNo.{NodeNo}
use Rattle.member_giving.specs.Works.{Outside, Place}
use Rattle.member_sittings.specs.declared.ends.SittingEnd.{SittingEnd}

-- the step closes
line_within : (h : Holder) (es : List Entry) (end : Closing) → EndsLine end → IsWithinLine h (unwritten es) (wrote_of es (says (closing_line h.by h.step end ∷ [])))
line_within h es (closing.Line sent got) may = record { few = omega arith; says = (closing.Line sent got, refl, tt) }
line_within h es (closing.LineLost line) may = record { few = omega arith; says = (closing.LineLost line, refl, tt) }
line_within h es (closing.BadCard card cause) may = record { few = omega arith; says = (closing.BadCard card cause, refl, tt) }
line_within h es (closing.NoText group) may = record { few = omega arith; says = (closing.NoText group, refl, tt) }
line_within h es (closing.SpoolLost volume) may = record { few = omega arith; says = (closing.SpoolLost volume, refl, tt) }
line_within h es (closing.Reply r) may = absurd may
line_within h es closing.PrinterLost may = absurd may
line_within h es (closing.DoneUnits n) may = absurd may
line_within h es (closing.Busy m) may = absurd may
line_within h es (closing.Dormant tick) may = absurd may
line_within h es closing.Down may = absurd may
line_within h es closing.Stopped may = absurd may
line_within h es (closing.Up m) may = absurd may
line_within h es (closing.ResetOf m) may = absurd may
line_within h es closing.NotHolder may = absurd may
line_within h es (closing.NotLost copy) may = absurd may
line_within h es (closing.CkptLost copy) may = absurd may

-- it waits
wait_within : (h : Holder) (es : List Entry) (s : State) → (s ≡ Told → ⊥) → IsWithinLine h (sittings_most s + unwritten es) (wrote_of es (leaves s))
wait_within h es s goes = record { few = omega arith; says = silent s goes } where
  silent : (s : State) → (s ≡ Told → ⊥) → SaysAtEnd s (LineLines h) []
  silent (Fresh task) goes = refl
  silent (Away aside) goes = refl
  silent (Rested p) goes = refl
  silent Told goes = absurd (goes refl)

-- THE SITTING ENDS SO, whether content is told or not

module _ (told : Type 0) (h : Holder) (given : ℕ) (es : List Entry) (old : Place) (new : Outside) (r : Result SittingEnd NodeNo) where
  pub closes_line : (end : Closing) → EndsLine end → PlaysOut told (to_play h given (wrote_of es (says (closing_line h.by h.step end ∷ [])))) old new r → ServesLine told (unwritten es) (to_play h given (wrote_of es (says (closing_line h.by h.step end ∷ [])))) old new r
  closes_line end may p = played_out told h (IsWithinLine h (unwritten es)) given (wrote_of es (says (closing_line h.by h.step end ∷ []))) old new r (line_within h es end may) p

  pub leaves_line : (s : State) → (s ≡ Told → ⊥) → PlaysOut told (to_play h given (wrote_of es (leaves s))) old new r → ServesLine told (sittings_most s + unwritten es) (to_play h given (wrote_of es (leaves s))) old new r
  leaves_line s goes p = played_out told h (IsWithinLine h (sittings_most s + unwritten es)) given (wrote_of es (leaves s)) old new r (wait_within h es s goes) p
