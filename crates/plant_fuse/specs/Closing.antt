-- How an act that halts ends.
use Rattle.std.specs.Prelude.{◌≡◌, ℕ, List, [], ◌∷◌, ◌++◌}
use Rattle.spool_plant.specs.declared.plant.Act.{Act}
use Rattle.spool_plant.specs.declared.plant.Act.TheVariants.{Done, Failed, Halted}
use Rattle.plant_fuse.specs.Counted.{counted}
use Rattle.plant_fuse.specs.Torn.{Halved}

-- What was passed on was answered so, and the counts of stops before and after: where it was done, the member halts and
-- its stop is counted; else that is the answer.
abbrev pub Closes : ℕ → Act → List ℕ → List ℕ → Act → Type 0
Closes by Done old new result = (result ≡ Halted) × (new ≡ counted old by)
Closes by Failed old new result = (result ≡ Failed) × (new ≡ old)
Closes by Halted old new result = (result ≡ Halted) × (new ≡ old)

-- an act that passed on the half of a line, where it didn't fail
abbrev pub halved_by : Act → Halved → List Halved → List Halved
halved_by Done h hs = hs ++ h ∷ []
halved_by Failed h hs = hs
halved_by Halted h hs = hs ++ h ∷ []

-- the moment behind the last act that was halted, after one with this answer that ended now
abbrev pub halt_then : Act → ℕ → ℕ → ℕ
halt_then Done halt now = halt
halt_then Failed halt now = halt
halt_then Halted halt now = now
