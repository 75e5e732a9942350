-- What a source gives.
use Rattle.std.specs.Prelude.{◌≡◌, ◌⊎◌, ℕ, ◌-◌, ◌≤◌, nat_le, min, if◌then◌else◌, Option, Some, None, List, [], length, take, drop}
use Rattle.spool_plant.specs.declared.source.Got.{Got}
use Rattle.spool_plant.specs.declared.source.Got.TheVariants.{Bytes, End, Failed}
use Rattle.spool_plant.specs.Acts.{Rose}

-- nothing is left, or there is no room
abbrev pub IsOver : List ℕ → List ℕ → Type 0
IsOver left into = (left ≡ []) ⊎ (into ≡ [])

-- a source gives at most as many bytes as there is room for, and a failure is counted
abbrev pub GivesCount : ℕ → ℕ → ℕ → Got → Type 0
GivesCount room before faults (Bytes n) = (before ≤ faults) × (n ≤ room)
GivesCount room before faults End = before ≤ faults
GivesCount room before faults Failed = (before ≤ faults) × Rose before faults

-- the bytes that come are the next ones
abbrev pub Gives : List ℕ → List ℕ → List ℕ → Got → Type 0
Gives left rest into (Bytes n) = (n ≤ length left) × (take n into ≡ take n left) × (rest ≡ drop n left)
    × (n ≡ 0 → IsOver left into)
Gives left rest into End = IsOver left into × (rest ≡ left)
Gives left rest into Failed = rest ≡ left

-- What a source in memory gives: where so many bytes were given as its fault is planned at, a failure, and else as many
-- as are left up to there and as there is room for.
abbrev pub gives_from : Option ℕ → ℕ → ℕ → ℕ → Got
gives_from None given left room = Bytes (min left room)
gives_from (Some place) given left room = if nat_le place given then Failed else Bytes
    (min (min left room) (place - given))

-- how many bytes an answer of a source gives
abbrev pub given_by : Got → ℕ
given_by (Bytes n) = n
given_by End = 0
given_by Failed = 0

-- an answer of a source: so many bytes, or a failure
abbrev pub got_of : Option ℕ → Got
got_of (Some n) = Bytes n
got_of None = Failed
