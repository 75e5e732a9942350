-- Where a step was cut, by its answer; and what a step leaves in the journal, by the batches that it left.
use Rattle.std.specs.Prelude.{◌≡◌, ◌≢◌, ◌⊎◌, ℕ, ◌≤◌, ◌<◌, List, [], ◌∷◌, drop, length, Option, Some, None, Result, Ok, Err}
use Rattle.mas_types.specs.declared.ids.MemberId.{MemberId}
use Rattle.mas_types.specs.declared.journals.Batch.{Batch}
use Rattle.mas_types.specs.declared.journals.Entry.{Entry}
use Rattle.mas_types.specs.declared.journals.Fate.{Fate}
use Rattle.mas_types.specs.declared.journals.Fate.TheVariants.{Dropped, Flying, Kept}
use Rattle.member_node.specs.declared.member.NodeNo.{NodeNo}
use Rattle.member_node.specs.declared.member.NodeNo.TheVariants.{BothLost, Halted, ConsoleFault, NoMemory}
use Rattle.member_decks.specs.Batches.{IsFlyingBatch, IsKeptBatch}
use Rattle.step_turns.specs.Sittings.{Sitting}
use Rattle.run_turns.specs.Pieces.{Piece}
use Rattle.run_turns.specs.Scenes.{Batched}
use Rattle.run_turns.specs.Sights.{Begun, Cause, Cut, Ends, Halt, Saying, Stops, Waiting, Writing}

-- THE CUT

-- a member that was stopped in its step is stopped; any other error ends the run
abbrev pub cause_by : NodeNo → Cause
cause_by Halted = Stops
cause_by BothLost = Ends
cause_by ConsoleFault = Ends
cause_by NoMemory = Ends

-- a batch that was begun: with some of its entries, and kept, or in flight to the end
abbrev pub IsBegun : Option Begun → Type 0
IsBegun None = Unit {0}
IsBegun (Some b) = (1 ≤ b.entries) × (b.fate ≢ Dropped)

-- a batch that was begun, with some of its entries, and is kept
abbrev pub IsBegunKept : Option Begun → Type 0
IsBegunKept None = Unit {0}
IsBegunKept (Some b) = (1 ≤ b.entries) × (b.fate ≡ Kept)

-- Where an answer may cut a sitting. The console fails once all batches are kept, and both copies are lost under the
-- lock; where memory wanted nothing is in flight, no line was said, and none is torn.
abbrev pub IsHaltBy : NodeNo → Halt → Type 0
IsHaltBy ConsoleFault (Saying n tail) = tail ≡ None
IsHaltBy ConsoleFault _ = ⊥
IsHaltBy BothLost (Writing n b) = IsBegun b
IsHaltBy BothLost _ = ⊥
IsHaltBy NoMemory (Writing n b) = IsBegunKept b
IsHaltBy NoMemory (Saying n tail) = ⊥
IsHaltBy NoMemory (Waiting n tail) = tail ≡ None
IsHaltBy Halted (Writing n b) = IsBegun b
IsHaltBy Halted _ = Unit {0}

-- a piece of these was begun, and cut in it, once
pub record IsCut (e : NodeNo) (pieces : List Piece) (cut : Cut) : Type 0 where
  pub there : cut.sittings < length pieces
  pub halt : IsHaltBy e cut.halt
  pub cause : cut.cause ≡ cause_by e

-- WHAT A CUT MAY NOT LEAVE of a command or a deck: a batch without its last entries is kept only if memory wanted, and
-- all batches are kept only where they are followed by lines or acts

abbrev pub IsFlying : Option Begun → Type 0
IsFlying None = Unit {0}
IsFlying (Some b) = b.fate ≡ Flying

-- not all of these batches are kept, if there are any
abbrev pub ArePart : ℕ → List (List Entry) → Type 0
ArePart n ess = (n < length ess) ⊎ (ess ≡ [])

abbrev pub IsTight : NodeNo → Halt → Sitting → Type 0
IsTight NoMemory (Writing n b) t = ArePart n t.batches
IsTight BothLost (Writing n b) t = ArePart n t.batches × IsFlying b
IsTight Halted (Writing n b) t = IsFlying b
IsTight _ _ t = Unit {0}

-- the console failed at one of the lines
abbrev pub IsBroken : NodeNo → Halt → Sitting → Type 0
IsBroken ConsoleFault (Saying n tail) t = n < length t.lines
IsBroken _ _ t = Unit {0}

-- what is said of the first sitting of these pieces, if there is one
abbrev pub OfFirst : (Sitting → Type 0) → List Piece → Type 0
OfFirst P [] = Unit {0}
OfFirst P (p ∷ ps) = P p.sitting

-- what is said of the sitting of these pieces that was cut, if one was, by where it was
abbrev pub AtCut : (Halt → Sitting → Type 0) → Option Cut → List Piece → Type 0
AtCut P None pieces = Unit {0}
AtCut P (Some cut) pieces = OfFirst (P cut.halt) (drop cut.sittings pieces)

-- a step that ends well isn't cut, and any other is
abbrev pub IsCutBy : {T : Type 0} → Result T NodeNo → List Piece → Option Cut → Type 0
IsCutBy (Ok done) pieces cut = cut ≡ None
IsCutBy (Err e) pieces None = ⊥
IsCutBy (Err e) pieces (Some cut) = IsCut e pieces cut

-- in acts aside
abbrev pub IsAsideHalt : Halt → Type 0
IsAsideHalt (Waiting n tail) = Unit {0}
IsAsideHalt _ = ⊥

-- the lock was left, or kept, as a sitting's end says: at the step's end, or where it was cut in acts aside
abbrev pub IsBetweenSittings : Option Cut → Type 0
IsBetweenSittings None = Unit {0}
IsBetweenSittings (Some cut) = IsAsideHalt cut.halt

-- so many of these pieces were played whole
abbrev pub whole_pieces : Option Cut → List Piece → ℕ
whole_pieces None pieces = length pieces
whole_pieces (Some cut) pieces = cut.sittings

-- THE JOURNAL

-- a batch with this fate, begun from a moment on
abbrev pub IsBatched : Fate → MemberId → Batched → ℕ → ℕ → Batch → Type 0
IsBatched Kept by b from now is = IsKeptBatch by b.entries from now is
IsBatched Flying by b from now is = IsFlyingBatch by b.entries from now is
IsBatched Dropped by b from now is = ⊥

-- each began once the one before it had ended
abbrev pub AreBatched : MemberId → ℕ → ℕ → List Batched → List Batch → Type 0
AreBatched by from now [] [] = Unit {0}
AreBatched by from now [] (b ∷ bs) = ⊥
AreBatched by from now (x ∷ xs) [] = ⊥
AreBatched by from now (x ∷ xs) (b ∷ bs) = IsBatched x.fate by x from now b × AreBatched by b.last now xs bs
