-- What becomes of a batch in flight when its member's lock is taken over, and how the stopped member is reset.
use Rattle.std.specs.Prelude.{◌≡◌, ℕ, false, if◌then◌else◌, List, [], ◌∷◌, map, Result, Ok, Err}
use Rattle.mas_complex.specs.Journals.{fated}
use Rattle.mas_types.specs.Closings.{closing_line}
use Rattle.mas_types.specs.Journal.{is_flying}
use Rattle.mas_types.specs.declared.commands.Reply.{Reply}
use Rattle.mas_types.specs.declared.ids.MemberId.{MemberId}
use Rattle.mas_types.specs.declared.journals.Batch.{Batch}
use Rattle.mas_types.specs.declared.journals.Fate.{Fate}
use Rattle.mas_types.specs.declared.journals.Fate.TheVariants.{Flying, Kept, Dropped}
use Rattle.member_node.specs.declared.member.NodeNo.{NodeNo}
use Rattle.member_sittings.specs.Ends.{ends_in}
use Rattle.member_steps.specs.Steps.{entry_with}
use Rattle.run_turns.specs.Pieces.{Piece, piece_of, reset_closing}
use Rattle.step_turns.specs.declared.states.Holder.{Holder}
use Rattle.step_turns.specs.declared.states.State.TheVariants.{Told}
use Rattle.mas_types.specs.declared.commands.Command.TheVariants as command
use Rattle.member_node.specs.declared.member.NodeNo.TheVariants as no_node

-- WHAT A TAKEOVER FINDS

-- a batch that was in flight has the fate that is found, since a moment
abbrev pub with_found : Fate → ℕ → Batch → Batch
with_found Kept at b = fated Kept at b
with_found Dropped at b = fated Dropped at b
with_found Flying at b = b

abbrev pub settled_at : Fate → ℕ → Batch → Batch
settled_at found at b = if is_flying b.fate then with_found found at b else b

abbrev pub settle : Fate → ℕ → List Batch → List Batch
settle found at bs = map (settled_at found at) bs

-- a reset is one piece, which gives it with some reply, and closes with the name of the member that was reset
abbrev pub reset_piece : Holder → MemberId → Reply → Piece
reset_piece h of r =
    piece_of (ends_in h ((entry_with h.by h.step (command.Reset of) r ∷ []) ∷ []) Told
    (closing_line h.by h.step (reset_closing of r) ∷ [])) false []

abbrev pub IsResetPiece : Holder → MemberId → List Piece → Type 0
IsResetPiece h of ps = (r : Reply) × (ps ≡ reset_piece h of r ∷ [])

-- the run goes on after the line, once its member's stop is said, if it was stopped
abbrev pub IfRuns : {T : Type 0} → Result T NodeNo → Type 0 → Type 0
IfRuns (Ok done) P = P
IfRuns (Err no_node.Halted) P = P
IfRuns _ P = Unit {0}

-- the answer that a line cut so ends with, if the run ends in it
abbrev pub ended_as : {T : Type 0} → Result T NodeNo → NodeNo
ended_as (Ok done) = no_node.Halted
ended_as (Err e) = e
