-- What is known of a line's pieces whatever the plant tells: where it tells nothing the replies may be others than
-- those of the table of commands.
use Rattle.mas_run.specs.Names.{View, Fresh, Task, Admission, Plays, Resets, TakesOver, ArePiecesOf, Piece, holder_of, IsResetPiece}
use Rattle.std.specs.Prelude.{List, All}
use Rattle.step_turns.specs.States.{nothing_found}
use Rattle.step_turns.specs.declared.states.Holder.{Holder}
use Rattle.member_resets.specs.Plays.{IsOwnPiece}
use Rattle.member_resets.specs.Shapes.{AreShaped}
use Rattle.mas_run.specs.LinesAt.{LineAt, admitted_at}

-- a task's pieces are its step's, and shaped so from its first state on
pub record IsTaskShaped (h : Holder) (old new : View) (task : Task) (ps : List Piece) : Type 0 where
  pub own : All (IsOwnPiece h.by h.step) ps
  pub shaped : AreShaped h (Fresh task) nothing_found old new ps

-- A LINE OF A MEMBER, on a plant that showed `old` before it and `new` after it: any but a task or a reset has just the
-- pieces that it has where content is told

abbrev pub holder_as : LineAt → Admission → Holder
holder_as l a = holder_of l.scene l.step.by l.number a

abbrev pub IsShapedAs : LineAt → View → View → Admission → Type 0
IsShapedAs l old new (Plays task) = IsTaskShaped (holder_as l (Plays task)) old new task l.given.pieces
IsShapedAs l old new (Resets of) = IsResetPiece (holder_as l (Resets of)) of l.given.pieces
IsShapedAs l old new (TakesOver of) = IsResetPiece (holder_as l (TakesOver of)) of l.given.pieces
IsShapedAs l old new a = ArePiecesOf l.scene l.step.by l.number a l.given

abbrev pub IsShaped : LineAt → View → View → Type 0
IsShaped l old new = IsShapedAs l old new (admitted_at l)
