-- What a sitting leaves in the journal, as far as it came.
use Rattle.member_sittings.specs.Names.{MemberId, Batch, Entry, NodeNo, BothLost, Halted, ConsoleFault, NoMemory, IsFlyingBatch, IsKeptBatch}
use Rattle.std.specs.Prelude.{◌≡◌, ℕ, ◌≤◌, ◌<◌, Bool, true, false, List, [], ◌∷◌, ◌++◌, length, take, drop, Result, Ok, Err}
use Rattle.step_turns.specs.Batches.{batch_of}
pub use Rattle.member_steps.specs.Saying.{HasSaid, Said, SaidBy, said_nothing, said_of, torn_line}

-- an answer, whatever it gives
abbrev pub bare : {T : Type 0} → Result T NodeNo → Result (Unit {0}) NodeNo
bare (Ok done) = Ok tt
bare (Err why) = Err why

-- How far a sitting came: so many of its batches are kept, and of the next one so many entries stand in the journal
-- too, in flight to the end or kept. None do where that isn't begun.
pub record Reach : Type 0 where
  pub whole : ℕ
  pub part : ℕ
  pub flies : Bool

-- each batch is kept
abbrev pub reach_all : List (List Entry) → Reach
reach_all ess = record { whole = length ess; part = 0; flies = false }

abbrev pub first_of : List (List Entry) → List Entry
first_of [] = []
first_of (es ∷ ess) = es

-- the batch after those that are whole, if there is one
abbrev pub next_in : Reach → List (List Entry) → List Entry
next_in r ess = first_of (drop r.whole ess)

-- the batches that stand in the journal, by their entries
abbrev pub left_by : Reach → List (List Entry) → List (List Entry)
left_by r ess = take r.whole ess ++ batch_of (take r.part (next_in r ess))

-- a batch that is in flight to the end, or else kept
abbrev pub IsLastBatch : Bool → MemberId → List Entry → ℕ → ℕ → Batch → Type 0
IsLastBatch true by es from now b = IsFlyingBatch by es from now b
IsLastBatch false by es from now b = IsKeptBatch by es from now b

-- Batches with these entries, each kept before the next began; the last is in flight where this is true.
abbrev pub StandThere : Bool → MemberId → ℕ → ℕ → List (List Entry) → List Batch → Type 0
StandThere flies by from now [] [] = flies ≡ false
StandThere flies by from now [] (b ∷ bs) = ⊥
StandThere flies by from now (es ∷ ess) [] = ⊥
StandThere flies by from now (es ∷ []) (b ∷ bs) = (bs ≡ []) × IsLastBatch flies by es from now b
StandThere flies by from now (es ∷ next ∷ ess) (b ∷ bs) = IsKeptBatch by es from now b
    × StandThere flies by b.last now (next ∷ ess) bs

-- How far a sitting came by its answer: to the end where the step goes on or the console failed. Out of memory, nothing
-- is in flight.
abbrev pub ReachesBy : {T : Type 0} → Result T NodeNo → List (List Entry) → Reach → Type 0
ReachesBy (Ok done) ess r = r ≡ reach_all ess
ReachesBy (Err ConsoleFault) ess r = r ≡ reach_all ess
ReachesBy (Err NoMemory) ess r = r.flies ≡ false
ReachesBy (Err BothLost) ess r = Unit {0}
ReachesBy (Err Halted) ess r = Unit {0}

-- A journal has more of these batches of a member, begun from a moment on, as far as this one came. Of a next batch no
-- more entries stand there than it has, and where they are kept not all of them.
pub record HasLeft (by : MemberId) (from now : ℕ) (ess : List (List Entry)) (reach : Reach) (more : List Batch) : Type 0
  where
    pub within : reach.whole ≤ length ess
    pub flying : reach.flies ≡ true → 1 ≤ reach.part
    pub fits : reach.part ≤ length (next_in reach ess)
    pub cut : reach.flies ≡ false → 1 ≤ reach.part → reach.part < length (next_in reach ess)
    pub stand : StandThere reach.flies by from now (left_by reach ess) more
