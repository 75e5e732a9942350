-- The acts aside for which a step waits: which may be done, and what they do. Those of an exchange tell too what the
-- reader of the line was, and what it is.
use Rattle.std.specs.Prelude.{◌≡◌, ℕ, List, Option, Result, Ok}
use Rattle.mas_types.specs.declared.ids.MemberId.{MemberId}
use Rattle.spool_plant.specs.declared.plant.Plant.{Ghosts as PlantGhosts}
use Rattle.ckpt_copy.specs.declared.copying.Copying.{Ghosts as CopyGhosts}
use Rattle.ckpt_form.specs.declared.steady.Steady.{Ghosts as SteadyGhosts}
use Rattle.mas_complex.specs.declared.complex.Complex.{Complex}
use Rattle.mas_complex.specs.Parts.{Parts, parts_of}
use Rattle.member_node.specs.declared.member.Member.{Member}
use Rattle.member_node.specs.declared.member.NodeNo.{NodeNo}
use Rattle.step_turns.specs.declared.states.Aside.{Aside}
use Rattle.step_turns.specs.declared.states.Aside.TheVariants.{Acknowledge, Exchange, PrintLines, ReadText, SpoolArrival, SpoolDeck, SpoolOutputs}
use Rattle.step_turns.specs.declared.states.Found.{Found}
use Rattle.step_turns.specs.declared.states.State.{State}
use Rattle.step_turns.specs.declared.states.State.TheVariants.{Away}
use Rattle.step_turns.specs.States.{nothing_found}
use Rattle.member_sittings.specs.Asides.{HasSpooled, MaySpool}
use Rattle.member_frames.specs.Asides.{HasOnlyPrinted, HasPrintedNext, HasRead, HasWritten, MayPrintNext, MayRead, MayWrite, lines_to}
use Rattle.member_wires.specs.Asides.{Exchanged, HasAnswered, MayAnswer, MayServe}

module _ {P C : Type 0} (plants : PlantGhosts P) where
  abbrev pub MayActIn : Parts P C → Member → Aside → Type 0
  MayActIn x m (SpoolDeck n text) = MaySpool plants x m text
  MayActIn x m (ReadText runs n fields p) = MayRead plants x m n
  MayActIn x m (SpoolOutputs n specs p) = MayWrite plants x m specs
  MayActIn x m (PrintLines n i last p) = MayPrintNext plants x m (lines_to n i last)
  MayActIn x m (Exchange l offer) = MayServe plants x m l offer
  MayActIn x m (SpoolArrival number job cards service) = MaySpool plants x m cards
  MayActIn x m (Acknowledge number service) = MayAnswer plants x m service.line

  abbrev pub ActsIn : Parts P C → Parts P C → Member → Aside → Option (List ℕ) → Option (List ℕ)
      → Result Found NodeNo → Type 0
  ActsIn x y m (SpoolDeck n text) was is r = HasSpooled plants x y m text r
  ActsIn x y m (ReadText runs n fields p) was is r = HasRead plants x y m n r
  ActsIn x y m (SpoolOutputs n specs p) was is r = HasWritten plants x y m specs r
  ActsIn x y m (PrintLines n i last p) was is r = HasPrintedNext plants x y m (lines_to n i last) r
  ActsIn x y m (Exchange l offer) was is r = Exchanged plants x y m l offer was is r
  ActsIn x y m (SpoolArrival number job cards service) was is r = HasSpooled plants x y m cards r
  ActsIn x y m (Acknowledge number service) was is r = HasAnswered plants x y m service.line number r

  -- Only the plant differs after them, and where lines were printed how many the members have printed. A member that
  -- was stopped at its printer is stopped so already.
  abbrev pub IsActedIn : Parts P C → Parts P C → MemberId → Aside → Result Found NodeNo → Type 0
  IsActedIn x y by (PrintLines n i last p) r = HasOnlyPrinted r by x y
  IsActedIn x y by (SpoolDeck n text) r = y ≡ record x { plant = y.plant }
  IsActedIn x y by (ReadText runs n fields p) r = y ≡ record x { plant = y.plant }
  IsActedIn x y by (SpoolOutputs n specs p) r = y ≡ record x { plant = y.plant }
  IsActedIn x y by (Exchange l offer) r = y ≡ record x { plant = y.plant }
  IsActedIn x y by (SpoolArrival number job cards service) r = y ≡ record x { plant = y.plant }
  IsActedIn x y by (Acknowledge number service) r = y ≡ record x { plant = y.plant }

  -- A step that doesn't wait for acts does none, and finds nothing.
  abbrev pub MayActAfter : Parts P C → Member → State → Type 0
  MayActAfter x m (Away aside) = MayActIn x m aside
  MayActAfter x m _ = Unit {0}

  abbrev pub ActsAfter : Parts P C → Parts P C → Member → State → Option (List ℕ) → Option (List ℕ)
      → Result Found NodeNo → Type 0
  ActsAfter x y m (Away aside) was is r = IsActedIn x y m.id aside r × ActsIn x y m aside was is r
  ActsAfter x y m _ was is r = (y ≡ x) × (r ≡ Ok nothing_found)

-- what is asked where a step waits for acts
abbrev pub IfAway : State → Type 0 → Type 0
IfAway (Away aside) A = A
IfAway _ A = Unit {0}

-- OVER THE SHARED VALUE

module _ {P C : Type 0} {plants : PlantGhosts P} {steadies : SteadyGhosts C} {copies : CopyGhosts C} where
  abbrev pub MayActAside : Complex P C plants steadies copies → Member → Aside → Type 0
  MayActAside x m aside = MayActIn plants (parts_of x) m aside

  abbrev pub ActsAside : Complex P C plants steadies copies → Complex P C plants steadies copies → Member → Aside
      → Option (List ℕ) → Option (List ℕ) → Result Found NodeNo → Type 0
  ActsAside x y m aside was is r = ActsIn plants (parts_of x) (parts_of y) m aside was is r

  abbrev pub ActsOnly : Complex P C plants steadies copies → Complex P C plants steadies copies → Member → Aside
      → Result Found NodeNo → Type 0
  ActsOnly x y m aside r = IsActedIn plants (parts_of x) (parts_of y) m.id aside r

  abbrev pub MayActThen : Complex P C plants steadies copies → Member → State → Type 0
  MayActThen x m s = MayActAfter plants (parts_of x) m s

  abbrev pub ActsThen : Complex P C plants steadies copies → Complex P C plants steadies copies → Member → State
      → Option (List ℕ) → Option (List ℕ) → Result Found NodeNo → Type 0
  ActsThen x y m s was is r = ActsAfter plants (parts_of x) (parts_of y) m s was is r
