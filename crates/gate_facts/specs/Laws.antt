-- How one member's turn looks to the others, and to itself.
use Rattle.std.specs.Prelude.{◌≡◌, ◌≢◌, ℕ, ◌+◌, ◌≤◌, Bool, true, false, List}
use Rattle.gate_facts.specs.declared.facts.Facts.{Facts}
use Rattle.gate_facts.specs.declared.marks.Marks.{Marks}
use Rattle.gate_facts.specs.Values.{marked_at, number_at, stopped_of, desk_of, PlaysOperator}
use Rattle.gate_facts.specs.Memory.{Memory, Knows, MayGiveBack, IsLeft}

-- no place is marked in both
abbrev pub Apart : List Bool → List Bool → Type 0
Apart a b = (k : ℕ) → marked_at a k ≡ true → marked_at b k ≡ true → ⊥

-- what one member may give back, another that cares for other members still knows
abbrev pub OthersStillKnow : Type 0
OthersStillKnow = (m other : ℕ) (cares : List Bool) (y : Memory) (was is : Facts) →
    other ≢ m → Apart cares y.cares → MayGiveBack m cares was is → Knows other y was → Knows other y is

-- what a member gave back it knows
abbrev pub WhatIsLeftIsKnown : Type 0
WhatIsLeftIsKnown = (m : ℕ) (y : Memory) (is : Facts) → IsLeft m y is → Knows m y is

-- LOST COPIES

-- whatever another may give back, a member that isn't stopped has of the checkpoint what it had: the lock, the pages
-- that the good copies read, its batch, and how far that has come
abbrev pub HoldersAreSpared : Type 0
HoldersAreSpared = (m k : ℕ) (cares : List Bool) (was is : Facts) → MayGiveBack m cares was is → k ≢ m
    → stopped_of is k ≡ false → (desk_of is k).hold ≡ (desk_of was k).hold

-- the value with these counts of the calls that lost a device
abbrev pub with_loses : Facts → List ℕ → Facts
with_loses f loses = record f { marks = record f.marks { loses = loses } }

-- no count is less, and only devices whose copies count as lost were lost by a call
abbrev pub OnlyLostAgain : Marks → List ℕ → Type 0
OnlyLostAgain was loses = (d : ℕ) → (number_at was.loses d ≤ number_at loses d)
    × (marked_at was.lost d ≡ false → number_at loses d ≡ number_at was.loses d)

-- who plays the operator's lines may give back a value in which lost copies were lost again
abbrev pub LostMayBeLostAgain : Type 0
LostMayBeLostAgain = (m : ℕ) (cares : List Bool) (was : Facts) (loses : List ℕ) → PlaysOperator cares
    → OnlyLostAgain was.marks loses → MayGiveBack m cares was (with_loses was loses)

-- nobody else may: its turn loses a device at most once, and none whose copy counted as lost
abbrev pub NobodyElseLosesAgain : Type 0
NobodyElseLosesAgain = (m : ℕ) (cares : List Bool) (was is : Facts) → marked_at cares 0 ≡ false
    → MayGiveBack m cares was is → (d : ℕ) → (number_at is.marks.loses d ≤ number_at was.marks.loses d + 1)
    × (marked_at was.marks.lost d ≡ true → number_at is.marks.loses d ≡ number_at was.marks.loses d)

-- a device whose copy counts as alive was lost by no call that the member doesn't know of, and who plays the operator's
-- lines knows of all calls that lost a device, but one at most
abbrev pub LossesAreKnown : Type 0
LossesAreKnown = (m : ℕ) (y : Memory) (is : Facts) → Knows m y is → (d : ℕ)
    → (marked_at is.marks.lost d ≡ false → number_at is.marks.loses d ≡ number_at y.marks.loses d)
    × (PlaysOperator y.cares → number_at is.marks.loses d ≤ number_at y.marks.loses d + 1)
