-- The copies in a line of a script, and in lines one after another.
use Rattle.mas_run.specs.Names.{Dev, Disk, IsCkpt, of_device, pick, PlantGhosts, View, Ghosts as CopyGhosts, SteadyGhosts, IsBothLost, Complex, Renewals, Parts, parts_of, is_open, NodeNo, Grows, IsLeft, WasLost, Proceeds}
use Rattle.std.specs.Prelude.{◌≡◌, ◌⊎◌, Bool, true, false, List, Result, Err}
use Rattle.mas_complex.specs.declared.renewals.Renewal.{Renewal}
use Rattle.member_node.specs.declared.member.NodeNo.TheVariants.{BothLost}
use Rattle.mas_run.specs.Runs.{HasLost}

-- what is known of both copies: what the plant shows, which count as alive, and since when they were replaced
pub record Sides : Type 0 where
  pub view : View
  pub first_alive : Bool
  pub second_alive : Bool
  pub renewals : Renewals

-- A copy that counts as alive isn't being replaced, if it wasn't before where it counted as alive then.
abbrev pub StaysWhole : Bool → List Renewal → Bool → List Renewal → Type 0
StaysWhole was rs is after = is ≡ true → (was ≡ true → is_open rs ≡ false) → is_open after ≡ false

-- the answer says that both are lost
abbrev pub ends_both : {T : Type 0} → Result T NodeNo → Bool
ends_both (Err BothLost) = true
ends_both _ = false

-- Both copies count as lost where the answer says so. Else one counts as alive, unless none did before, or a line of
-- the script lost one.
abbrev pub LeavesOne : Bool → Sides → Sides → Type 0
LeavesOne true x y = IsBothLost y.first_alive y.second_alive
LeavesOne false x y = IsLeft x.first_alive y.first_alive x.second_alive y.second_alive ⊎ HasLost x.view y.view

-- the copy on a device counts as alive
abbrev pub is_alive : Dev → Sides → Bool
is_alive d x = pick d x.first_alive x.second_alive

-- A copy is lost exactly where its device failed or was lost by a call. The device of one that counts as alive isn't
-- lost, if it wasn't before where the copy counted as alive then: a copy that is replaced counts as alive again.
pub record IsCopyKept (x y : Sides) (d : Dev) : Type 0 where
  pub failed : is_alive d x ≡ true → is_alive d y ≡ false → WasLost d x.view y.view
  pub there : is_alive d y ≡ true → (is_alive d x ≡ true → x.view.lost (Disk d) ≡ false) → y.view.lost (Disk d) ≡ false

pub record AreDevicesKept (both : Bool) (x y : Sides) : Type 0 where
  pub goes : Proceeds x.view y.view
  pub copies : (d : Dev) → IsCkpt d → IsCopyKept x y d
  pub grow : (d : Dev) → Grows (x.view.loses d) (y.view.loses d)
  pub left : LeavesOne both x y

-- so are the devices of both, and one that counts as alive is good
pub record AreSidesLeft (both : Bool) (x y : Sides) : Type 0 where
  pub devices : AreDevicesKept both x y
  pub whole : (d : Dev) → IsCkpt d
      → StaysWhole (is_alive d x) (of_device d x.renewals) (is_alive d y) (of_device d y.renewals)

module _ {P C : Type 0} (plants : PlantGhosts P) where
  abbrev pub sides_of : Parts P C → Sides
  sides_of x = record {
    view = plants.view x.plant;
    first_alive = x.first_alive;
    second_alive = x.second_alive;
    renewals = x.renewals;
  }

  abbrev pub LeavesSome : {T : Type 0} → Parts P C → Parts P C → Result T NodeNo → Type 0
  LeavesSome x y result = LeavesOne (ends_both result) (sides_of x) (sides_of y)

  abbrev pub KeepCopies : {T : Type 0} → Parts P C → Parts P C → Result T NodeNo → Type 0
  KeepCopies x y result = AreDevicesKept (ends_both result) (sides_of x) (sides_of y)

  abbrev pub LeavesCopies : {T : Type 0} → Parts P C → Parts P C → Result T NodeNo → Type 0
  LeavesCopies x y result = AreSidesLeft (ends_both result) (sides_of x) (sides_of y)

-- OVER THE SHARED VALUE

module _ {P C : Type 0} {plants : PlantGhosts P} {steadies : SteadyGhosts C} {copies : CopyGhosts C} where
  abbrev pub CopiesKept : {T : Type 0} → Complex P C plants steadies copies → Complex P C plants steadies copies
      → Result T NodeNo → Type 0
  CopiesKept x y result = LeavesCopies plants (parts_of x) (parts_of y) result
