-- What calls on the copies leave as it was.
use Rattle.mas_complex.specs.Names.{Dev, View, disk_at, disk_now, Throughout, SameWires}
use Rattle.std.specs.Prelude.{◌≡◌, ◌≢◌, ℕ, Bool}
use Rattle.mas_complex.specs.CallCounts.{KeepsCounts, PairState}
use Rattle.mas_complex.specs.Kept.{OnlyOnCopies}
use Rattle.mas_complex.specs.Paper.{SamePapers}

-- At each moment of the call every other device, the console and the printers are as before it. After it the wires
-- are: nothing has moved on them.
pub record Elsewhere (dev : Dev) (old new : View) : Type 0 where
  pub others : Throughout old.now new.now (λ t. (d : Dev) → d ≢ dev → disk_at new t d ≡ disk_now old d)
  pub console : Throughout old.now new.now (λ t. (new.world t).console ≡ (old.world old.now).console)
  pub papers : SamePapers old new
  pub wires : SameWires old new

-- At each moment of the call every volume and the printers are as before it. After it the console and the wires are.
pub record OnCopies (old new : View) : Type 0 where
  pub volumes : OnlyOnCopies old new
  pub console : (new.world new.now).console ≡ (old.world old.now).console
  pub papers : SamePapers old new
  pub wires : SameWires old new

-- What calls of a member on both copies leave: of what is counted, and of all else.
pub record OnPair (tells : Type 0) (by : ℕ) (stopped : Bool) (old new : PairState) : Type 0 where
  pub counts : KeepsCounts by stopped old new
  pub apart : tells → OnCopies old.view new.view
