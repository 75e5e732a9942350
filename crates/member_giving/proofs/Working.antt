-- A member at work, after a call.
use Rattle.member_giving.proofs.Names.{◌≡◌, ℕ, ◌+◌, ◌≤◌, List, [], ◌++◌, Ok, ◌∙◌, ap, append-nil, refl, sym, subst, arith, MemberId, Batch, Entry, Queue, PlantGhosts, Ghosts as CopyGhosts, Complex, SteadyGhosts, end_of, kept_all, meaning_run as run, Member, none_out, parts_of, AreOf, batch_of, Holder, Keeps, HasRoom, UsesOne, Works, outside, queue_here, queue_kept, run_of, IsStill}
use Rattle.mas_complex.proofs.Batches.{kept_all_append}
use Rattle.member_giving.proofs.Cuts.{batch_entries}
use Rattle.member_giving.proofs.Leaving.{kept_entries}

module _ {P C : Type 0} {plants : PlantGhosts P} {steadies : SteadyGhosts C} {copies : CopyGhosts C} where
  module _ (x y : Complex P C plants steadies copies) (m n : Member) (h : Holder) where
    pub same_run : y.base ≡ x.base → y.since ≡ x.since → y.renewals ≡ x.renewals → y.book ≡ x.book → n.id ≡ m.id → run_of y n ≡ run_of x m
    same_run base since renewals book id = rw (base, since, renewals, book, id) refl

  -- THE JOURNAL AND THE QUEUE

  -- nothing is in flight
  pub none_flies : (x : Complex P C plants steadies copies) (m : Member) → IsStill plants copies (parts_of x) m → end_of x.placed x.current x.journal.batches ≡ x.journal.batches
  none_flies x m s = none_out x.journal.batches x.journal.batches x.placed x.current refl s.unplaced s.none

  -- the journal with a batch in flight, after a call that left it
  pub same_out : (y z : Complex P C plants steadies copies) → z.journal ≡ y.journal → z.current ≡ y.current → z.placed ≡ y.placed → (outside z).batches ≡ (outside y).batches
  same_out y z journal current placed = rw (placed, current, journal) refl

  -- the queue of a member with nothing unwritten is that after the kept batches
  pub kept_here : (x : Complex P C plants steadies copies) (m : Member) → m.batch ≡ [] → queue_here x m ≡ queue_kept x
  kept_here x m nothing = ap (λ (es : List Entry). run x.base (kept_all x.journal.batches ++ es)) nothing ∙ ap (run x.base) (append-nil (kept_all x.journal.batches))

  -- the queue after what wasn't written was kept
  pub queue_after : (x y : Complex P C plants steadies copies) (m n : Member) (by : MemberId) → y.base ≡ x.base → (outside x).batches ≡ x.journal.batches → (outside y).batches ≡ y.journal.batches → n.batch ≡ [] → Keeps {T = Unit {0}} plants.tells by (batch_of m.batch) (outside x) (outside y) (Ok tt) → queue_here y n ≡ queue_here x m
  queue_after x y m n by base was is nothing keeps =
      let o = outside x in
      let z = outside y in
      kept_here y n nothing
      ∙ ap (λ (q : Queue). run q (kept_all y.journal.batches)) base
      ∙ ap (λ (bs : List Batch). run x.base (kept_all bs)) (sym is)
      ∙ ap (run x.base) (ap kept_all keeps.closes.batches_are ∙ kept_all_append o.batches keeps.closes.rest
      ∙ ap (λ (es : List Entry). kept_all o.batches ++ es) (kept_entries by o.view.now z.view.now (batch_of m.batch) keeps.closes.rest keeps.closes.journal ∙ batch_entries m.batch))
      ∙ ap (λ (bs : List Batch). run x.base (kept_all bs ++ m.batch)) was

  -- ROOM

  pub uses_one : (x y : Complex P C plants steadies copies) (m n : Member) → n.checkpoint.tables.order ≤ m.checkpoint.tables.order + 32 → n.checkpoint.level ≤ m.checkpoint.level + 1 → y.level ≤ x.level + 1 → UsesOne x m y n
  uses_one x y m n order high level k room =
      let a = room.order in
      let b = room.high in
      let c = room.level in
      record { order = omega (arith, order, a); high = omega (arith, high, b); level = omega (arith, level, c) }

  pub less_room : (x : Complex P C plants steadies copies) (m : Member) (j k : ℕ) → j ≤ k → HasRoom x m k → HasRoom x m j
  less_room x m j k le room = let a = room.order in let b = room.high in let c = room.level in record { order = omega (arith, le, a); high = omega (arith, le, b); level = omega (arith, le, c) }

  -- what isn't written is of the step
  pub own_batch : (x : Complex P C plants steadies copies) (m : Member) (h : Holder) → Works x m h → AreOf h.by h.step m.batch
  own_batch x m h w = subst (λ (i : MemberId). AreOf i h.step m.batch) (sym w.own) w.of
