-- What is known of a sitting on every plant. One that tells nothing may show other replies than those of the table of
-- commands.
use Rattle.member_sittings.specs.Names.{Command, closing_line, reply_lines, entry_with, lines_by, all_entries, Sitting, released, Acknowledge, Exchange, PrintLines, ReadText, SpoolArrival, SpoolDeck, SpoolOutputs, Found, Holder, State, Away, Fresh, Rested, Told, Deck, Give, Line, Work}
use Rattle.std.specs.Prelude.{◌≡◌, ◌⊎◌, ℕ, ◌+◌, ◌≤◌, true, List, [], ◌∷◌, length, Option, Some, None}
use Rattle.mas_types.specs.declared.answers.Closing.{Closing}
use Rattle.mas_types.specs.declared.answers.Closing.TheVariants as closing
use Rattle.mas_types.specs.declared.commands.Reply.{Reply}
use Rattle.mas_types.specs.declared.commands.Reply.TheVariants as reply
use Rattle.job_outcome.specs.declared.outcomes.Read.TheVariants as read
use Rattle.job_outcome.specs.declared.units.UnitEnd.{UnitEnd}
use Rattle.job_outcome.specs.declared.units.UnitEnd.TheVariants as ends
use Rattle.step_turns.specs.Courses.{sittings_most}
use Rattle.step_turns.specs.Laws.{lines_of, units_done, units_left}
use Rattle.member_sittings.specs.Ends.{ends_in}

-- HOW WORK MAY CLOSE, by what was found in the acts that it waited for

-- A unit is refused as its last command was answered, or at a text that is gone, a volume or a printer that was found
-- lost. In no other way.
abbrev pub MayRefuseBy : Found → Closing → Type 0
MayRefuseBy found (closing.Reply (reply.No why)) = Unit {0}
MayRefuseBy found (closing.NoText group) = found.read ≡ read.Gone group
MayRefuseBy found (closing.SpoolLost volume) = (found.lost ≡ Some volume) ⊎ (found.read ≡ read.Lost volume)
MayRefuseBy found closing.PrinterLost = found.printer ≡ true
MayRefuseBy found _ = ⊥

abbrev pub MayEndBy : Found → UnitEnd → Type 0
MayEndBy found (ends.Refused end) = MayRefuseBy found end
MayEndBy found _ = Unit {0}

-- a step that may play so many units closes with those that are done, or as one was refused
abbrev pub MayCloseBy : ℕ → Found → Closing → Type 0
MayCloseBy units found end = ((n : ℕ) × (n ≤ units) × (end ≡ closing.DoneUnits n)) ⊎ MayRefuseBy found end

-- HOW A STEP MAY CLOSE that serves a line, on every plant: with the jobs that left and came, with the reply to a
-- command, by the cards of a job, or by what was lost. What each rests on is said where content is told.
abbrev pub MayCloseLine : Closing → Type 0
MayCloseLine (closing.Line sent got) = Unit {0}
MayCloseLine (closing.LineLost line) = Unit {0}
MayCloseLine (closing.BadCard card cause) = Unit {0}
MayCloseLine (closing.NoText group) = Unit {0}
MayCloseLine (closing.SpoolLost volume) = Unit {0}
MayCloseLine (closing.Reply r) = Unit {0}
MayCloseLine _ = ⊥

-- THE LINES

-- nothing is said before the step is told, and these are the lines then
abbrev pub SaysAtEnd : State → (List (List ℕ) → Type 0) → List (List ℕ) → Type 0
SaysAtEnd Told says lines = says lines
SaysAtEnd _ says lines = lines ≡ []

-- a deck's lines: of a reply, or of the volume that was found lost
abbrev pub DeckLines : Holder → Option ℕ → List (List ℕ) → Type 0
DeckLines h lost lines = (r : Reply) × (lines ≡ lines_by h.by h.step lost r)

-- a sitting of a deck has one batch
abbrev pub SaysDeck : Holder → Option ℕ → Sitting → Type 0
SaysDeck h lost t = (length t.batches ≡ 1) × SaysAtEnd t.next (DeckLines h lost) t.lines

-- the line of a closing that may come
abbrev pub WorkLines : Holder → ℕ → Found → List (List ℕ) → Type 0
WorkLines h units found lines = (end : Closing) × (lines ≡ closing_line h.by h.step end ∷ [])
    × MayCloseBy units found end

-- a sitting that gives this command, with some reply, and closes with the lines of that reply
abbrev pub GivesCommand : Holder → Command → Sitting → Type 0
GivesCommand h c t = (r : Reply)
    × (t ≡ ends_in h ((entry_with h.by h.step c r ∷ []) ∷ []) Told (reply_lines h.by h.step r))

abbrev pub SaysWork : Holder → State → Found → Sitting → Type 0
SaysWork h s found t = SaysAtEnd t.next (WorkLines h (units_done s + units_left s) found) t.lines

abbrev pub LineLines : Holder → List (List ℕ) → Type 0
LineLines h lines = (end : Closing) × (lines ≡ lines_of h.by h.step end) × MayCloseLine end

-- a sitting that loads a job has one batch, and the step goes on after it
abbrev pub SaysLoad : Sitting → Type 0
SaysLoad t = (length t.batches ≡ 1) × SaysAtEnd t.next (λ lines. ⊥) t.lines

abbrev pub SaysLine : Holder → Sitting → Type 0
SaysLine h t = SaysAtEnd t.next (LineLines h) t.lines

-- THE SITTING, from each state

abbrev pub Says : Holder → State → Found → Sitting → Type 0
Says h (Fresh (Give c)) found t = GivesCommand h c t
Says h (Fresh (Deck fields text)) found t = SaysDeck h None t
Says h (Fresh (Work n)) found t = SaysWork h (Fresh (Work n)) found t
Says h (Fresh (Line l)) found t = SaysLoad t
Says h (Away (SpoolDeck n text)) found t = SaysDeck h found.lost t
Says h (Away (ReadText runs n fields p)) found t = SaysWork h (Away (ReadText runs n fields p)) found t
Says h (Away (SpoolOutputs n specs p)) found t = SaysWork h (Away (SpoolOutputs n specs p)) found t
Says h (Away (PrintLines n i last p)) found t = SaysWork h (Away (PrintLines n i last p)) found t
Says h (Away (Exchange l offer)) found t = SaysLine h t
Says h (Away (SpoolArrival number n text s)) found t = (length t.batches ≡ 1) × SaysLine h t
Says h (Away (Acknowledge number s)) found t = SaysLine h t
Says h (Rested p) found t = SaysWork h (Rested p) found t
Says h Told found t = t.lines ≡ []

-- Its batches and the sittings that may follow are so many together, at most, as sittings might come from its state on.
-- It says such lines. What becomes of the lock follows from its commands and its next state.
pub record IsShaped (h : Holder) (s : State) (found : Found) (t : Sitting) : Type 0 where
  pub few : length t.batches + sittings_most t.next ≤ sittings_most s
  pub says : Says h s found t
  pub release : t.release ≡ released h.grant h.hold (length (all_entries t.batches)) t.next
