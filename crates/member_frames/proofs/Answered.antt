-- What is known of the answer of a sitting that handles frames.
use Rattle.std.proofs.Common.{◌≡◌, ℕ, ◌+◌, ◌≤◌, ◌<◌, [], Result, Ok, Err, IfOk, OnOk, sym, subst, arith}
use Rattle.ckpt_copy.specs.declared.copying.Copying.{Ghosts as CopyGhosts}
use Rattle.ckpt_form.specs.declared.steady.Steady.{Ghosts as SteadyGhosts}
use Rattle.mas_complex.specs.declared.complex.Complex.{Complex}
use Rattle.member_giving.proofs.Seated.{sits_works}
use Rattle.member_giving.specs.Ready.{HasFewer}
use Rattle.member_giving.specs.Works.{HasSeat, Sits, SitsIn, Works}
use Rattle.member_node.specs.declared.member.Member.{Member}
use Rattle.member_node.specs.declared.member.NodeNo.{NodeNo}
use Rattle.member_sittings.specs.declared.ends.SittingEnd.{SittingEnd}
use Rattle.spool_plant.specs.declared.plant.Plant.{Ghosts as PlantGhosts}
use Rattle.step_turns.specs.Laws.{units_left}
use Rattle.step_turns.specs.declared.states.Holder.{Holder}
use Rattle.step_turns.specs.declared.states.State.{State}
use Rattle.step_turns.specs.declared.states.State.TheVariants.{Told}

pub if_ok : {T E : Type 0} (r : Result T E) (A B : T → Type 0) → ((v : T) → A v → B v) → IfOk r A → IfOk r B
if_ok (Ok v) A B f a = f v a
if_ok (Err e) A B f a = tt

module _ {P C : Type 0} {plants : PlantGhosts P} {steadies : SteadyGhosts C} {copies : CopyGhosts C} where
  -- the step goes on from this state
  pub again_left : (y : Complex P C plants steadies copies) (n : Member) (h : Holder) (r : Result SittingEnd NodeNo) (s : State) → (Sits y n h.step → SitsIn s y n h.step) → IfOk r (λ e. e.next ≡ s) → OnOk r (Works y n h) → OnOk r (n.batch ≡ []) → IfOk r (λ e. SitsIn e.next y n h.step)
  again_left y n h (Ok e) s open_still is works nothing = subst (λ (t : State). SitsIn t y n h.step) (sym is) (open_still (sits_works y n h works nothing))
  again_left y n h (Err why) s open_still is works nothing = tt

  -- the sitting closed the step
  pub again_told : (y : Complex P C plants steadies copies) (n : Member) (at : ℕ) (r : Result SittingEnd NodeNo) → IfOk r (λ e. e.next ≡ Told) → OnOk r (HasSeat y n) → IfOk r (λ e. SitsIn e.next y n at)
  again_told y n at (Ok e) is seat = subst (λ (t : State). SitsIn t y n at) (sym is) seat
  again_told y n at (Err why) is seat = tt

  -- after a sitting the level leaves room for the units that are left
  pub reached_left : (y : Complex P C plants steadies copies) (most before : ℕ) (r : Result SittingEnd NodeNo) (s : State) → before + 1 + units_left s ≤ most → IfOk r (λ e. e.next ≡ s) → OnOk r (y.level ≤ before + 1) → IfOk r (λ e. y.level + units_left e.next ≤ most)
  reached_left y most before (Ok e) s few is level = subst (λ (t : State). y.level + units_left t ≤ most) (sym is) (omega (arith, few, level))
  reached_left y most before (Err why) s few is level = tt

-- HOW MANY SITTINGS AND UNITS may follow

module _ (sittings units : ℕ) (r : Result SittingEnd NodeNo) where
  pub fewer_left : (s : State) → HasFewer sittings units s → IfOk r (λ e. e.next ≡ s) → IfOk r (λ e. HasFewer sittings units e.next)
  fewer_left s few is = if_ok r (λ e. e.next ≡ s) (λ e. HasFewer sittings units e.next) (λ e same. subst (HasFewer sittings units) (sym same) few) is

  pub fewer_told : 0 < sittings → IfOk r (λ e. e.next ≡ Told) → IfOk r (λ e. HasFewer sittings units e.next)
  fewer_told some is = fewer_left Told (record { falls = some; few = omega arith }) is

  pub fewer_than : (sittings' units' : ℕ) → sittings' ≤ sittings → units' ≤ units → IfOk r (λ e. HasFewer sittings' units' e.next) → IfOk r (λ e. HasFewer sittings units e.next)
  fewer_than sittings' units' one two few =
      if_ok r (λ e. HasFewer sittings' units' e.next) (λ e. HasFewer sittings units e.next) (λ e had. record { falls = let falls = had.falls in omega (arith, falls, one); few = let few = had.few in omega (arith, few, two) }) few
