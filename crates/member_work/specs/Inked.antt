-- What stands on paper of the lines of an output that were to be printed, and how many of them are counted.
use Rattle.member_work.specs.Names.{JobNo, MemberId, OutNo, Line, paper_now, counts_of, Parts, NodeNo, BothLost, Halted, ConsoleFault, NoMemory, Read}
use Rattle.std.specs.Prelude.{◌≡◌, ◌≢◌, ◌⊎◌, ℕ, zero, suc, ◌+◌, ◌-◌, ◌≤◌, ◌<◌, Bool, true, false, List, [], ◌∷◌, ◌++◌, length, map, take, Option, None, Some, Result, Ok, Err}
use Rattle.mas_types.specs.Printed.{printed_line}
use Rattle.spool_plant.specs.declared.plant.Plant.{Ghosts as PlantGhosts}
use Rattle.mas_complex.specs.Headline.{whole}
use Rattle.member_steps.specs.Saying.{torn}
use Rattle.job_outcome.specs.declared.outcomes.Read.TheVariants as read

-- LINES OF AN OUTPUT

-- so many lines of an output from this one on, as they are printed
abbrev pub lines_from : JobNo → OutNo → List (List ℕ) → ℕ → ℕ → List (List ℕ)
lines_from n i text first zero = []
lines_from n i text first (suc more) = printed_line n i first text ∷ lines_from n i text (first + 1) more

-- the lines of an output up to the last one, where so many are done
abbrev pub lines_upto : JobNo → OutNo → ℕ → ℕ → List (List ℕ) → List (List ℕ)
lines_upto n i done last text = lines_from n i text (done + 1) (last - done)

-- the lines of an output up to the last one, by how its text was read
abbrev pub lines_read : JobNo → OutNo → ℕ → ℕ → Read → List (List ℕ)
lines_read n i done last (read.Lines text) = lines_upto n i done last text
lines_read n i done last (read.Gone group) = []
lines_read n i done last (read.Lost volume) = []

-- WHAT STANDS OF THEM

-- so many lines whole, and this text torn after them
pub record Inked : Type 0 where
  pub lines : ℕ
  pub rest : Option (List ℕ)

abbrev pub torn_line : Option (List ℕ) → List Line
torn_line None = []
torn_line (Some text) = torn text ∷ []

abbrev pub inked_of : Inked → List (List ℕ) → List Line
inked_of k lines = map whole (take k.lines lines) ++ torn_line k.rest

-- all of them; or those before the one at which the printer was found lost
abbrev pub IsInkedTo : Bool → ℕ → Inked → Type 0
IsInkedTo false many k = k ≡ record { lines = many; rest = None }
IsInkedTo true many k = (k.lines < many) × (k.rest ≡ None)

-- By the answer, which says whether the printer was found lost. A member that was stopped leaves one of them torn,
-- perhaps.
abbrev pub IsInkedBy : Result Bool NodeNo → ℕ → Inked → Type 0
IsInkedBy (Ok lost) many k = IsInkedTo lost many k
IsInkedBy (Err NoMemory) many k = (k.lines ≤ many) × (k.rest ≡ None)
IsInkedBy (Err Halted) many k = (k.lines ≤ many) × ((k.rest ≡ None) ⊎ (k.lines < many))
IsInkedBy (Err BothLost) many k = ⊥
IsInkedBy (Err ConsoleFault) many k = ⊥

-- each whole line is counted, except one at which the member was stopped
abbrev pub IsCountOf : {T : Type 0} → Result T NodeNo → ℕ → ℕ → Type 0
IsCountOf (Ok end) inked count = count ≡ inked
IsCountOf (Err NoMemory) inked count = count ≡ inked
IsCountOf (Err Halted) inked count = (count ≤ inked) × (inked ≤ count + 1)
IsCountOf (Err BothLost) inked count = count ≡ inked
IsCountOf (Err ConsoleFault) inked count = count ≡ inked

-- no other member's count of printed lines differs
abbrev pub OtherCountsStay : MemberId → List ℕ → List ℕ → Type 0
OtherCountsStay by old new = (m : MemberId) → m.0 ≢ by.0 → counts_of new m ≡ counts_of old m

module _ {P C : Type 0} (plants : PlantGhosts P) where
  -- Of these lines some stand on the member's printer now, by the answer, which says whether that was found lost.
  -- Nobody else printed anything.
  pub record HasInked (by : MemberId) (lines : List (List ℕ)) (x y : Parts P C) (result : Result Bool NodeNo) : Type 0
    where
      pub inked : Inked
      pub paper : paper_now (plants.view y.plant) by.0 ≡ paper_now (plants.view x.plant) by.0 ++ inked_of inked lines
      pub others : (m : ℕ) → m ≢ by.0 → paper_now (plants.view y.plant) m ≡ paper_now (plants.view x.plant) m
      pub by_answer : IsInkedBy result (length lines) inked
      pub counted : IsCountOf result (counts_of x.printed by + inked.lines) (counts_of y.printed by)
