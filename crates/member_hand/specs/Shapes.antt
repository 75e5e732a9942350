-- What is known of the pieces of a step on every plant. One that tells nothing may show other replies than those of the
-- table of commands.
use Rattle.std.specs.Prelude.{◌≡◌, ◌⊎◌, ℕ, ◌+◌, ◌≤◌, true, false, List, [], ◌∷◌, ◌++◌, length, All, Option, Some}
use Rattle.mas_types.specs.declared.answers.Closing.{Closing}
use Rattle.mas_types.specs.declared.commands.Reply.{Reply}
use Rattle.mas_types.specs.declared.ids.MemberId.{MemberId}
use Rattle.mas_types.specs.declared.journals.Entry.{Entry}
use Rattle.mas_types.specs.Closings.{closing_line, reply_lines}
use Rattle.spool_plant.specs.View.{View}
use Rattle.job_outcome.specs.declared.outcomes.Read.TheVariants.{Lost}
use Rattle.member_steps.specs.Steps.{entry_with}
use Rattle.member_decks.specs.Steps.{IsFoundLost}
use Rattle.member_work.specs.Causes.{MayRefuse}
use Rattle.member_work.specs.Rounds.{HasPrinterFailed}
use Rattle.step_turns.specs.Courses.{sittings_most}
use Rattle.step_turns.specs.Decks.{lines_by}
use Rattle.step_turns.specs.Laws.{units_done, units_left}
use Rattle.step_turns.specs.Sittings.{Sitting}
use Rattle.step_turns.specs.declared.states.Found.{Found}
use Rattle.step_turns.specs.declared.states.Holder.{Holder}
use Rattle.step_turns.specs.declared.states.State.{State}
use Rattle.step_turns.specs.declared.states.Aside.TheVariants.{Acknowledge, Exchange, SpoolArrival, SpoolDeck}
use Rattle.step_turns.specs.declared.states.State.TheVariants.{Away, Fresh, Told}
use Rattle.step_turns.specs.declared.states.Task.TheVariants.{Deck, Give, Line}
use Rattle.run_turns.specs.Pieces.{Piece, piece_of}
use Rattle.member_sittings.specs.Ends.{ends_in}
use Rattle.member_sittings.specs.Shapes.{MayCloseBy, SaysAtEnd, SaysLine}

-- WHAT WAS FOUND LOST failed in acts between two views

pub record IsFailedFound (by : MemberId) (found : Found) (old new : View) : Type 0 where
  pub lost : IsFoundLost found.lost old new
  pub read : (volume : ℕ) → found.read ≡ Lost volume → IsFoundLost (Some volume) old new
  pub printer : found.printer ≡ true → HasPrinterFailed by old new

-- THE LINES, caused by what the step had found already, or by what failed in acts between two views

-- a deck's lines: of a reply, or of the volume that was found lost
abbrev pub DeckLinesIn : Holder → Found → View → View → List (List ℕ) → Type 0
DeckLinesIn h found old new lines = (lost : Option ℕ) × (r : Reply) × (lines ≡ lines_by h.by h.step lost r)
    × ((lost ≡ found.lost) ⊎ IsFoundLost lost old new)

-- the line of a closing of so many units
abbrev pub WorkLinesIn : Holder → ℕ → Found → View → View → List (List ℕ) → Type 0
WorkLinesIn h units found old new lines = (end : Closing) × (lines ≡ closing_line h.by h.step end ∷ [])
    × (MayCloseBy units found end ⊎ MayRefuse h.by end old new)

-- a sitting says such lines where the step is told, and none before
abbrev pub SaysIn : Holder → State → Found → View → View → Sitting → Type 0
SaysIn h (Fresh (Give c)) found old new t = Unit {0}
SaysIn h (Fresh (Deck fields text)) found old new t = SaysAtEnd t.next (DeckLinesIn h found old new) t.lines
SaysIn h (Away (SpoolDeck n text)) found old new t = SaysAtEnd t.next (DeckLinesIn h found old new) t.lines
SaysIn h (Fresh (Line l)) found old new t = SaysLine h t
SaysIn h (Away (Exchange l offer)) found old new t = SaysLine h t
SaysIn h (Away (SpoolArrival number job cards service)) found old new t = SaysLine h t
SaysIn h (Away (Acknowledge number service)) found old new t = SaysLine h t
SaysIn h Told found old new t = Unit {0}
SaysIn h s found old new t =
    SaysAtEnd t.next (WorkLinesIn h (units_done s + units_left s) found old new) t.lines

-- THE PIECES

-- the batches of pieces, one after another
abbrev pub batches_in : List Piece → List (List Entry)
batches_in [] = []
batches_in (p ∷ ps) = p.sitting.batches ++ batches_in ps

-- There are so many pieces at most, with so many batches, as the step may have sittings; and they say such lines.
pub record AreFewPieces (h : Holder) (s : State) (found : Found) (old new : View) (ps : List Piece) : Type 0 where
  pub few : length ps ≤ sittings_most s
  pub kept : length (batches_in ps) ≤ sittings_most s
  pub says : All (λ p. SaysIn h s found old new p.sitting) ps

-- A command has one piece, which gives the command with some reply, and closes with the lines of that reply.
abbrev pub AreShaped : Holder → State → Found → View → View → List Piece → Type 0
AreShaped h (Fresh (Give c)) found old new ps = (r : Reply)
    × (ps ≡ piece_of (ends_in h ((entry_with h.by h.step c r ∷ []) ∷ []) Told (reply_lines h.by h.step r)) false []
    ∷ [])
AreShaped h s found old new ps = AreFewPieces h s found old new ps
