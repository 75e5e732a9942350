-- Where a sitting ends: what is known of its answer.
use Rattle.member_giving.proofs.Names.{◌≡◌, ℕ, ◌+◌, ◌≤◌, ◌<◌, [], Result, Ok, Err, IfOk, OnOk, ◌∙◌, refl, sym, subst, arith, ap, Tell, PlantGhosts, Ghosts as CopyGhosts, Complex, SteadyGhosts, Member, NodeNo, run_append, kept_all, units_left, Holder, State, Told, Follow, HasSeat, Leaves, MayLeave, Run, Sits, SitsIn, Works, queue_here, queue_kept, run_of, SittingEnd, HasFewer, IsReady, meaning_run as run}
use Rattle.member_giving.proofs.Seated.{sits_works}
use Rattle.member_giving.proofs.Working.{kept_here}

module _ {P C : Type 0} {plants : PlantGhosts P} {steadies : SteadyGhosts C} {copies : CopyGhosts C} where
  pub tells_here : (x : Complex P C plants steadies copies) (m : Member) (h : Holder) → Works x m h → plants.tells → Tell m.checkpoint.tables (queue_here x m)
  tells_here x m h w t = subst (Tell m.checkpoint.tables) (sym (run_append x.base (kept_all x.journal.batches) m.batch)) (w.done t).queue

-- WHAT A SITTING LEAVES

sits_in : {P C : Type 0} {plants : PlantGhosts P} {steadies : SteadyGhosts C} {copies : CopyGhosts C} (y : Complex P C plants steadies copies) (n : Member) (at : ℕ) (s : State) → (s ≡ Told → ⊥) → Sits y n at → SitsIn s y n at
sits_in y n at Told waits sits = absurd (waits refl)
sits_in y n at _ waits sits = sits

module _ {P C : Type 0} {plants : PlantGhosts P} {steadies : SteadyGhosts C} {copies : CopyGhosts C} (x y : Complex P C plants steadies copies) (m n : Member) (h : Holder) (f : Follow) where
  -- its step goes on from this state
  leaves_open : (e : SittingEnd) → (e.next ≡ Told → ⊥) → MayLeave x m f e.next → run_of y n ≡ run_of x m → n.checkpoint.tables ≡ m.checkpoint.tables → queue_here y n ≡ queue_here x m → Works y n h → n.batch ≡ [] → y.level ≤ x.level + 1 → Leaves y n h.step f e
  leaves_open e waits may run tables queue works nothing level =
      let id : n.id ≡ m.id = ap (λ (r : Run). r.id) run in
      let Q : queue_kept y ≡ queue_here x m = sym (kept_here y n nothing) ∙ queue in
      let reached = may.reached in
      record { again = sits_in y n h.step e.next waits (sits_works y n h works nothing); ready = rw (Q, tables, id) may.ready; fewer = may.fewer; reached = omega (arith, level, reached) }

  -- it closed the step
  leaves_told : (e : SittingEnd) → e.next ≡ Told → HasSeat y n → 0 < f.most → y.level ≤ f.level → Leaves y n h.step f e
  leaves_told e told seat some level = record {
    again = subst (λ (s : State). SitsIn s y n h.step) (sym told) seat;
    ready = subst (λ (s : State). IsReady plants.tells (queue_kept y) n.checkpoint.tables n.id s) (sym told) tt;
    fewer = subst (HasFewer f.most f.units) (sym told) (record { falls = some; few = omega arith });
    reached = subst (λ (s : State). y.level + units_left s ≤ f.level) (sym told) (omega (arith, level));
  }

  -- what an answer leaves
  pub open_left : (r : Result SittingEnd NodeNo) (s : State) → (s ≡ Told → ⊥) → MayLeave x m f s → run_of y n ≡ run_of x m → n.checkpoint.tables ≡ m.checkpoint.tables → IfOk r (λ e. e.next ≡ s) → OnOk r (queue_here y n ≡ queue_here x m) → OnOk r (Works y n h) → OnOk r (n.batch ≡ []) → OnOk r (y.level ≤ x.level + 1) → IfOk r (Leaves y n h.step f)
  open_left (Ok e) s waits may run tables is queue works nothing level = leaves_open e (λ told. waits (sym is ∙ told)) (subst (MayLeave x m f) (sym is) may) run tables queue works nothing level
  open_left (Err why) s waits may run tables is queue works nothing level = tt

  pub told_left : (r : Result SittingEnd NodeNo) → 0 < f.most → x.level + 1 ≤ f.level → IfOk r (λ e. e.next ≡ Told) → OnOk r (HasSeat y n) → OnOk r (y.level ≤ x.level + 1) → IfOk r (Leaves y n h.step f)
  told_left (Ok e) some le told seat level = leaves_told e told seat some (omega (arith, level, le))
  told_left (Err why) some le told seat level = tt
