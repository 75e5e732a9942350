-- What a line leaves of the moments at which a copy isn't good because it is being replaced.
use Rattle.mas_run.specs.Names.{Dev, Parts, PlantGhosts, View, Renewals, begun_on, ended_on, Admission, Replaces, Cut, Halt, LostAgain, NotLost, Renewed, Replaced, Saying}
use Rattle.std.specs.Prelude.{◌≡◌, ℕ, ◌≤◌, Option, Some, None}

-- when copies were replaced, on a plant that shows this
pub record CopiesAt : Type 0 where
  pub renewals : Renewals
  pub view : View

abbrev pub copies_at : {P C : Type 0} → PlantGhosts P → Parts P C → CopiesAt
copies_at plants x = record { renewals = x.renewals; view = plants.view x.plant }

-- What a line did to a copy: it began no replacement of it, or began one at a moment, or began one and ended it: since
-- then the new copy is good.
pub data Renewing : Type 0 where
  NoneBegan : Renewing
  Began : ℕ → Renewing
  BeganAndEnded : ℕ → ℕ → Renewing

abbrev pub renewed_by : Dev → Renewing → Renewals → Renewals
renewed_by dev NoneBegan rs = rs
renewed_by dev (Began from) rs = begun_on dev from rs
renewed_by dev (BeganAndEnded from until) rs = ended_on dev until (begun_on dev from rs)

-- in a line from a moment to another
abbrev pub IsInLine : Renewing → ℕ → ℕ → Type 0
IsInLine NoneBegan old new = Unit {0}
IsInLine (Began from) old new = (old ≤ from) × (from ≤ new)
IsInLine (BeganAndEnded from until) old new = (old ≤ from) × (from ≤ until) × (until ≤ new)

-- What became of the copy is known of a line that is whole, and of one that was cut as it said so. Any other may have
-- come so far or not.
abbrev pub known_at : Halt → Renewed → Option Renewed
known_at (Saying n tail) found = Some found
known_at _ found = None

abbrev pub known_by : Option Cut → Renewed → Option Renewed
known_by None found = Some found
known_by (Some cut) found = known_at cut.halt found

abbrev pub CameTo : Option Renewed → Renewing → Type 0
CameTo (Some Replaced) (BeganAndEnded from until) = Unit {0}
CameTo (Some NotLost) NoneBegan = Unit {0}
CameTo (Some LostAgain) (Began from) = Unit {0}
CameTo None did = Unit {0}
CameTo _ did = ⊥

pub record RenewsBy (known : Option Renewed) (dev : Dev) (x y : CopiesAt) : Type 0 where
  pub did : Renewing
  pub came : CameTo known did
  pub within : IsInLine did x.view.now y.view.now
  pub is : y.renewals ≡ renewed_by dev did x.renewals

-- no line but one that replaces a copy leaves other moments
abbrev pub RenewsAs : Admission → Option Cut → Renewed → CopiesAt → CopiesAt → Type 0
RenewsAs (Replaces dev) cut found x y = RenewsBy (known_by cut found) dev x y
RenewsAs _ cut found x y = y.renewals ≡ x.renewals
