-- What isn't written is kept, or what of it is a full batch; and how a sitting ends.
use Rattle.member_giving.specs.Names.{Entry, HasCounted, Holder, SittingEnd, all_entries}
use Rattle.std.specs.Prelude.{◌≡◌, ◌+◌, ◌≤◌, List, [], Result, IfOk, OnOk}
use Rattle.ckpt_copy.specs.declared.copying.Copying.{Ghosts as CopyGhosts}
use Rattle.ckpt_form.specs.declared.steady.Steady.{Ghosts as SteadyGhosts}
use Rattle.mas_complex.specs.declared.complex.Complex.{Complex}
use Rattle.member_node.specs.declared.member.Member.{Member}
use Rattle.member_node.specs.declared.member.NodeNo.{NodeNo}
use Rattle.spool_plant.specs.declared.plant.Plant.{Ghosts as PlantGhosts}
use Rattle.step_turns.specs.declared.states.State.TheVariants.{Told}
use Rattle.member_giving.specs.Plays.{Keeps, PlaysOut, SparesOthers, ToPlay}
use Rattle.member_giving.specs.Works.{HasSeat, UsesOne, Works, outside, place_of, queue_here, run_of}

-- the batches that are to be kept, and what isn't written then
pub record ToKeep : Type 0 where
  pub holder : Holder
  pub batches : List (List Entry)
  pub left : List Entry

abbrev pub to_keep : Holder → List (List Entry) → List Entry → ToKeep
to_keep h ess left = record { holder = h; batches = ess; left = left }

module _ {P C : Type 0} {plants : PlantGhosts P} {steadies : SteadyGhosts C} {copies : CopyGhosts C} where
  -- They are kept, and room is made for the next one; nothing is said. The member works on at the same queue.
  pub record HasKept (w : ToKeep) (x : Complex P C plants steadies copies) (m : Member)
      (y : Complex P C plants steadies copies) (n : Member) (result : Result (Unit {0}) NodeNo) : Type 0 where
    pub run : run_of y n ≡ run_of x m
    pub keeps : Keeps plants.tells w.holder.by w.batches (outside x) (outside y) result
    pub spares : SparesOthers plants.tells w.holder.by (outside x) (outside y)
    pub tables : n.checkpoint.tables ≡ m.checkpoint.tables
    pub left : OnOk result (n.batch ≡ w.left)
    pub works : OnOk result (Works y n w.holder)
    pub queue : OnOk result (queue_here y n ≡ queue_here x m)
    pub uses : OnOk result (UsesOne x m y n)
    pub reached : OnOk result (y.level ≤ x.level + 1)
    pub counts : HasCounted w.holder.by (all_entries w.batches) x.printed y.printed result

  -- The rest of a sitting with which its step closes: what it writes is kept, and the member sits on.
  pub record HasClosed (rest : ToPlay) (x : Complex P C plants steadies copies) (m : Member)
      (y : Complex P C plants steadies copies) (n : Member) (result : Result SittingEnd NodeNo) : Type 0 where
    pub run : run_of y n ≡ run_of x m
    pub played : PlaysOut plants.tells rest (place_of x m) (outside y) result
    pub told : IfOk result (λ e. e.next ≡ Told)
    pub seat : OnOk result (HasSeat y n)
    pub reached : OnOk result (y.level ≤ x.level + 1)

  -- the rest of a sitting that leaves its step in a state, with nothing unwritten, and at the same queue
  pub record HasLeft (rest : ToPlay) (x : Complex P C plants steadies copies) (m : Member)
      (y : Complex P C plants steadies copies) (n : Member) (result : Result SittingEnd NodeNo) : Type 0 where
    pub run : run_of y n ≡ run_of x m
    pub played : PlaysOut plants.tells rest (place_of x m) (outside y) result
    pub tables : n.checkpoint.tables ≡ m.checkpoint.tables
    pub next : IfOk result (λ e. e.next ≡ rest.wrote.next)
    pub nothing : OnOk result (n.batch ≡ [])
    pub works : OnOk result (Works y n rest.holder)
    pub queue : OnOk result (queue_here y n ≡ queue_here x m)
    pub reached : OnOk result (y.level ≤ x.level + 1)
