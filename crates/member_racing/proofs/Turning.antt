-- A line that was begun: its member is up, and where a stopped member holds the lock that is taken over.
use Rattle.std.proofs.Common.{◌≡◌, ℕ, false, Option, Some, None, Result, Ok, Err, subst, sym}
use Rattle.std.proofs.lemmas.Option.{same_Some as some_same}
use Rattle.mas_types.specs.declared.ids.MemberId.{MemberId}
use Rattle.lock_cycle.specs.Books.{is_stopped}
use Rattle.spool_plant.specs.declared.plant.Plant.{Ghosts as PlantGhosts}
use Rattle.ckpt_copy.specs.declared.copying.Copying.{Ghosts as CopyGhosts}
use Rattle.mas_complex.specs.Parts.{Parts}
use Rattle.race_turns.specs.Turns.{left_holder}
use Rattle.member_node.specs.declared.member.Member.{Member}
use Rattle.member_node.specs.declared.member.NodeNo.{NodeNo}
use Rattle.member_racing.specs.Kinds.{TakesBy}
use Rattle.member_racing.specs.Opened.{GoesAs, TakesUp, UnlessLeft}
use Rattle.member_racing.specs.Stages.{IsBegun, Raced, stood_of}
use Rattle.member_racing.specs.Waits.{WaitsAt}
use Rattle.member_racing.specs.declared.stages.Stage.{Stage as Stands}
use Rattle.member_racing.specs.declared.stages.Stage.TheVariants as line

module _ {P C : Type 0} (plants : PlantGhosts P) (copies : CopyGhosts C) where
  pub up_begun : (x : Parts P C) (m : Member) (at : ℕ) (s : Stands) → IsBegun s → WaitsAt plants copies x m at s → is_stopped x.book m.id ≡ false
  up_begun x m at line.Opens is waits = absurd is
  up_begun x m at (line.Sits stand) is waits = waits.goes.up
  up_begun x m at (line.Acts stand) is waits = waits.goes.up
  up_begun x m at line.Closed is waits = absurd is

  module _ (r : Raced) (x y : Parts P C) (m n : Member) where
    unless : (o : Option MemberId) (of : MemberId) → o ≡ Some of → (q : Result Stands NodeNo) (A : Type 0) → TakesUp plants copies (stood_of r) of x y q → UnlessLeft plants copies o (stood_of r) x y q A
    unless None of is q A takes = absurd (cc)
    unless (Some it) of is q A takes = subst (λ (k : MemberId). TakesUp plants copies (stood_of r) k x y q) (sym (some_same it of is)) takes

    goes_up : (of : MemberId) → left_holder x.book ≡ Some of → (s : Stands) → IsBegun s → (q : Result Stands NodeNo) → TakesUp plants copies (stood_of r) of x y q → GoesAs plants copies r x y m n q s
    goes_up of left line.Opens begun q takes = absurd begun
    goes_up of left (line.Sits stand) begun q takes = unless (left_holder x.book) of left q _ takes
    goes_up of left (line.Acts stand) begun q takes = unless (left_holder x.book) of left q _ takes
    goes_up of left line.Closed begun q takes = absurd begun

    pub takes_up_err : (e : NodeNo) (of : MemberId) → left_holder x.book ≡ Some of → (s : Stands) → IsBegun s → TakesBy plants copies r.by r.number of x y (Err e) → GoesAs plants copies r x y m n (Err e) s
    takes_up_err e of left s begun takes = goes_up of left s begun (Err e) (record { takes = takes; next = tt })

    pub takes_up_ok : (of : MemberId) → left_holder x.book ≡ Some of → (s : Stands) → IsBegun s → s ≡ r.stands → TakesBy plants copies r.by r.number of x y (Ok tt) → GoesAs plants copies r x y m n (Ok s) s
    takes_up_ok of left s begun same takes = goes_up of left s begun (Ok s) (record { takes = takes; next = same })
