-- Acts on the volumes alone are acts that print nothing.
use Rattle.std.proofs.Common.{◌≡◌, inl, ℕ, List, Option, Result, Ok, Err, refl, sym, ap, ◌∙◌}
use Rattle.mas_types.specs.declared.ids.MemberId.{MemberId}
use Rattle.spool_plant.specs.declared.plant.Plant.{Ghosts as PlantGhosts}
use Rattle.mas_complex.specs.Parts.{Parts}
use Rattle.member_node.specs.declared.member.Member.{Member}
use Rattle.member_node.specs.declared.member.NodeNo.{NodeNo}
use Rattle.member_node.specs.declared.member.NodeNo.TheVariants.{BothLost, Halted, ConsoleFault, NoMemory}
use Rattle.step_turns.specs.States.{nothing_found}
use Rattle.step_turns.specs.declared.states.Aside.{Aside}
use Rattle.step_turns.specs.declared.states.Found.{Found}
use Rattle.step_turns.specs.declared.states.State.{State}
use Rattle.step_turns.specs.declared.states.State.TheVariants.{Away, Fresh, Rested, Told}
use Rattle.member_frames.specs.Asides.{HasOnlyPrinted, printed_in}
use Rattle.member_hand.specs.Asides.{ActsAfter}
use Rattle.member_hand.specs.Hears.{ReaderStaysIn}

module _ {P C : Type 0} (x y : Parts P C) (frame : y ≡ record x { plant = y.plant }) where
  as_printed : y ≡ printed_in y x
  as_printed = frame ∙ ap (λ (p : List ℕ). record x { plant = y.plant; printed = p }) (sym (ap (λ (z : Parts P C). z.printed) frame))

  pub only_plant : {T : Type 0} (r : Result T NodeNo) (by : MemberId) → HasOnlyPrinted r by x y
  only_plant (Ok done) by = as_printed
  only_plant (Err Halted) by = inl as_printed
  only_plant (Err NoMemory) by = as_printed
  only_plant (Err BothLost) by = as_printed
  only_plant (Err ConsoleFault) by = as_printed

-- a step that doesn't wait for acts does none
pub none_acted : {P C : Type 0} (plants : PlantGhosts P) (x : Parts P C) (m : Member) (s : State) (was is : Option (List ℕ)) (found : Found) → ((aside : Aside) → s ≡ Away aside → ⊥) → found ≡ nothing_found → ActsAfter plants x x m s was is (Ok found)
none_acted plants x m (Away aside) was is found never none = absurd (never aside refl)
none_acted plants x m (Fresh task) was is found never none = (refl, ap (λ (f : Found). Ok f) none)
none_acted plants x m (Rested p) was is found never none = (refl, ap (λ (f : Found). Ok f) none)
none_acted plants x m Told was is found never none = (refl, ap (λ (f : Found). Ok f) none)

pub stays_never : (s : State) (was : Option (List ℕ)) → ((aside : Aside) → s ≡ Away aside → ⊥) → ReaderStaysIn s was was
stays_never (Away aside) was never = absurd (never aside refl)
stays_never (Fresh task) was never = refl
stays_never (Rested p) was never = refl
stays_never Told was never = refl
