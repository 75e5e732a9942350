-- Which batches of a sitting may be kept after an error, where no unit follows another in it.
use Rattle.member_sittings.specs.Names.{Entry, NodeNo, BothLost, Halted, ConsoleFault, NoMemory, Acknowledge, Exchange, PrintLines, ReadText, SpoolArrival, SpoolDeck, SpoolOutputs, State, Away, Fresh, Rested, Told, Deck, Give, Line, Work}
use Rattle.std.specs.Prelude.{◌≡◌, ◌≤◌, ◌<◌, true, List, length, Result, Ok, Err}
use Rattle.member_sittings.specs.Left.{Reach}

-- Out of memory, or where both copies were lost, not all batches are kept. What was done of the next one is kept
-- without the rest only out of memory: else it is in flight.
abbrev pub IsTightBy : {T : Type 0} → Result T NodeNo → List (List Entry) → Reach → Type 0
IsTightBy (Ok done) ess r = Unit {0}
IsTightBy (Err ConsoleFault) ess r = Unit {0}
IsTightBy (Err NoMemory) ess r = r.whole < length ess
IsTightBy (Err BothLost) ess r = (r.whole < length ess) × (1 ≤ r.part → r.flies ≡ true)
IsTightBy (Err Halted) ess r = 1 ≤ r.part → r.flies ≡ true

-- asked of a command's sitting and of a deck's, but not of one that plays units or serves a line: there a batch is kept
-- as soon as it is full, and the copies are read anew
abbrev pub IfNoWork : State → Type 0 → Type 0
IfNoWork (Fresh (Give c)) P = P
IfNoWork (Fresh (Deck fields text)) P = P
IfNoWork (Fresh (Work n)) P = Unit {0}
IfNoWork (Fresh (Line l)) P = Unit {0}
IfNoWork (Away (SpoolDeck n text)) P = P
IfNoWork (Away (ReadText runs n fields p)) P = Unit {0}
IfNoWork (Away (SpoolOutputs n specs p)) P = Unit {0}
IfNoWork (Away (PrintLines n i last p)) P = Unit {0}
IfNoWork (Away (Exchange l offer)) P = Unit {0}
IfNoWork (Away (SpoolArrival number n text s)) P = Unit {0}
IfNoWork (Away (Acknowledge number s)) P = Unit {0}
IfNoWork (Rested p) P = Unit {0}
IfNoWork Told P = P
