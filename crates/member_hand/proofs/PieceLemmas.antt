-- The step as its pieces go.
use Rattle.std.proofs.Common.{◌≡◌, ◌≢◌, ℕ, refl, ap, ◌∙◌, subst}
use Rattle.mas_types.specs.declared.ids.MemberId.{MemberId}
use Rattle.mas_types.specs.declared.queues.Queue.{Queue}
use Rattle.spool_plant.specs.View.{View}
use Rattle.spool_plant.specs.declared.plant.Plant.{Ghosts as PlantGhosts}
use Rattle.ckpt_copy.specs.declared.copying.Copying.{Ghosts as CopyGhosts}
use Rattle.mas_complex.specs.declared.renewals.Renewals.{Renewals}
use Rattle.mas_complex.specs.Parts.{Parts}
use Rattle.member_node.specs.declared.member.NodeNo.{NodeNo}
use Rattle.member_node.specs.declared.member.NodeNo.TheVariants.{BothLost, Halted, ConsoleFault, NoMemory}
use Rattle.step_turns.specs.States.{nothing_found}
use Rattle.step_turns.specs.declared.states.Found.{Found}
use Rattle.step_turns.specs.declared.states.State.{State}
use Rattle.step_turns.specs.declared.states.State.TheVariants.{Away, Fresh, Rested, Told}
use Rattle.member_hand.specs.Found.{IsFoundAt}
use Rattle.member_hand.specs.Plays.{played_in, stopped_by}
use Rattle.member_hand.specs.Sits.{IsFoundRight}

-- what a call leaves where it keeps the base, the first moment, and when copies were replaced
pub played_frame : {P C : Type 0} (x y : Parts P C) → y.base ≡ x.base → y.since ≡ x.since → y.renewals ≡ x.renewals → y ≡ played_in y x
played_frame x y base since renewals =
    ap (λ (b : Queue). record y { base = b; since = y.since }) base ∙ ap (λ (k : ℕ). record y { base = x.base; since = k }) since
    ∙ ap (λ (rs : Renewals). record y { base = x.base; since = x.since; renewals = rs }) renewals

-- a told step found nothing
pub found_told : (per : ℕ) (by : MemberId) (old new : View) (Q : Queue) (s : State) (found : Found) → s ≡ Told → IsFoundAt per by old new Q s found → found ≡ nothing_found
found_told per by old new Q s found told is = subst (λ (u : State). IsFoundAt per by old new Q u found) told is

module _ {P C : Type 0} (plants : PlantGhosts P) (copies : CopyGhosts C) where
  -- a step that may go on isn't told
  pub not_told : (x : Parts P C) (by : MemberId) (s : State) (found : Found) → IsFoundRight plants copies x by s found → s ≢ Told
  not_told x by Told found right = absurd right
  not_told x by (Fresh task) found right = λ e. absurd (cc)
  not_told x by (Away a) found right = λ e. absurd (cc)
  not_told x by (Rested p) found right = λ e. absurd (cc)

-- A STOP LEAVES the base, the first moment, and when copies were replaced

pub stopped_base : {P C : Type 0} (why : NodeNo) (by : MemberId) (x : Parts P C) → (stopped_by why by x).base ≡ x.base
stopped_base Halted by x = refl
stopped_base BothLost by x = refl
stopped_base ConsoleFault by x = refl
stopped_base NoMemory by x = refl

pub stopped_since : {P C : Type 0} (why : NodeNo) (by : MemberId) (x : Parts P C) → (stopped_by why by x).since ≡ x.since
stopped_since Halted by x = refl
stopped_since BothLost by x = refl
stopped_since ConsoleFault by x = refl
stopped_since NoMemory by x = refl

pub stopped_renewals : {P C : Type 0} (why : NodeNo) (by : MemberId) (x : Parts P C) → (stopped_by why by x).renewals ≡ x.renewals
stopped_renewals Halted by x = refl
stopped_renewals BothLost by x = refl
stopped_renewals ConsoleFault by x = refl
stopped_renewals NoMemory by x = refl
