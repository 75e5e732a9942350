-- Texts that are written into groups without the lock.
use Rattle.member_sittings.proofs.Names.{OnOk, ℕ, List, Result, Ok, Err, refl, PlantGhosts, Parts, AreRoomy, spools_at, MemberId, OnVolumes, SpoolCauses, GroupsKept, HasPlaced, finds_of, ◌≡◌}
use Rattle.mas_types.specs.declared.ids.GroupNo.{GroupNo}
use Rattle.mas_complex.specs.Texts.{Spools}
use Rattle.member_decks.specs.declared.spooling.SpoolError.{SpoolError}
use Rattle.member_decks.specs.declared.spooling.SpoolError.TheVariants as spool

-- what was found, and why the acts stopped
pub places_by : {P C : Type 0} (plants : PlantGhosts P) (x y : Parts P C) (by : MemberId) (groups : List GroupNo) (Stands : Spools → ℕ → Type 0) (r : Result (Unit {0}) SpoolError) → y ≡ record x { plant = y.plant } → OnVolumes plants.tells by.0 (plants.view x.plant) (plants.view y.plant)
    → SpoolCauses r by.0 x.base.config.groups groups (plants.view x.plant) (plants.view y.plant)
    → OnOk r (plants.tells → AreRoomy (plants.view x.plant) x.base.config → Stands (spools_at (plants.view y.plant) (plants.view y.plant).now) x.base.config.groups)
    → (plants.tells → GroupsKept x.base.config.groups groups (spools_at (plants.view x.plant) (plants.view x.plant).now) (spools_at (plants.view y.plant) (plants.view y.plant).now))
    → HasPlaced plants x y by groups Stands (finds_of r)
places_by plants x y by groups Stands (Ok done) frame acts cause there spares = record {
  frame = frame;
  acts = acts;
  cause = cause;
  finds = record { only = refl; lost = tt; lies = tt; there = λ none told roomy. there told roomy };
  spares = spares;
}
places_by plants x y by groups Stands (Err (spool.Lost volume)) frame acts cause there spares = record {
  frame = frame;
  acts = acts;
  cause = cause.3;
  finds = record { only = refl; lost = (cause.1, cause.2); lies = cause.0; there = λ none. absurd (cc) };
  spares = spares;
}
places_by plants x y by groups Stands (Err spool.Halted) frame acts cause there spares = record { frame = frame; acts = acts; cause = (cause.2, cause.1); finds = tt; spares = spares }
