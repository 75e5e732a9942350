-- What a turn leaves of the book once it was ended.
use Rattle.std.proofs.Common.{◌≡◌, ◌≢◌, ◌∙◌, ◌⊎◌, inl, inr, ⊎_elim, ℕ, true, Result, Ok, Err, ap, refl, sym}
use Rattle.mas_types.specs.declared.ids.MemberId.{MemberId}
use Rattle.mas_types.specs.Ids.{is_somebody}
use Rattle.lock_cycle.specs.Books.{IsMember, after_stop, is_stopped}
use Rattle.spool_plant.specs.declared.plant.Plant.{Ghosts as PlantGhosts}
use Rattle.ckpt_copy.specs.declared.copying.Copying.{Ghosts as CopyGhosts}
use Rattle.ckpt_form.specs.declared.steady.Steady.{Ghosts as SteadyGhosts}
use Rattle.mas_complex.specs.declared.complex.Complex.{Complex}
use Rattle.mas_complex.specs.Parts.{Parts, parts_of}
use Rattle.member_node.specs.declared.member.Member.{Member}
use Rattle.member_node.specs.declared.member.NodeNo.{NodeNo}
use Rattle.member_node.specs.declared.member.NodeNo.TheVariants as no_node
use Rattle.member_resets.specs.Stand.{Stand}
use Rattle.member_racing.specs.Opened.{TriesBy, done_of}
use Rattle.member_racing.specs.Stages.{Raced}
use Rattle.member_racing.specs.Turning.{EndsTurn}
use Rattle.member_racing.specs.declared.stages.Stage.{Stage as Stands}
use Rattle.member_racing.specs.declared.stages.Stage.TheVariants as line
use Rattle.member_racing.proofs.Books.{OnlyBy, only_none, only_then, stopped_only}
use Rattle.member_racing.proofs.BooksStill.{Still, tries_still}
use Rattle.member_racing.proofs.BooksTurn.{inside_only, only_as, tries_only}

not_ok : (s : Stands) (t : Result Stands NodeNo) → t ≡ Ok s → t ≡ Err no_node.Halted → ⊥
not_ok s t is halted = absurd (cc)

other_err : (e : NodeNo) (t : Result Stands NodeNo) → (e ≡ no_node.Halted → ⊥) → t ≡ Err e → t ≡ Err no_node.Halted → ⊥
other_err e t other is halted = other (let same : e ≡ no_node.Halted = cc in same)

module _ {P C : Type 0} {plants : PlantGhosts P} {steadies : SteadyGhosts C} {copies : CopyGhosts C} (by : MemberId) (at : ℕ) (x y : Complex P C plants steadies copies) where
  pub halted_book : (result : Result Stands NodeNo) → EndsTurn by at x y (Err no_node.Halted) result → y.book ≡ after_stop x.book by
  halted_book result ends = ap (λ (q : Parts P C). q.book) ends.frame ∙ ap (λ (q : Parts P C). q.book) ends.stopped

  -- it was stopped there, or is as it was
  pub book_ended : (tried result : Result Stands NodeNo) → EndsTurn by at x y tried result → (y.book ≡ x.book) ⊎ ((tried ≡ Err no_node.Halted) × (y.book ≡ after_stop x.book by))
  book_ended (Ok s) result ends = inl (ap (λ (q : Parts P C). q.book) ends.0)
  book_ended (Err no_node.Halted) result ends = inr (refl, halted_book result ends)
  book_ended (Err no_node.BothLost) result ends = inl (ap (λ (q : Parts P C). q.book) ends.0)
  book_ended (Err no_node.NoMemory) result ends = inl (ap (λ (q : Parts P C). q.book) ends.0)
  book_ended (Err no_node.ConsoleFault) result ends = inl (ap (λ (q : Parts P C). q.book) ends.0)

  pub end_only : (tried result : Result Stands NodeNo) → IsMember x.book by → EndsTurn by at x y tried result → OnlyBy by x.book y.book
  end_only tried result inside ends = ⊎_elim
      (λ same. only_as by x.book x.book y.book same (only_none by x.book))
      (λ down. only_as by x.book (after_stop x.book by) y.book down.1 (stopped_only by x.book inside)) (book_ended tried result ends)

module _ {P C : Type 0} {plants : PlantGhosts P} {steadies : SteadyGhosts C} {copies : CopyGhosts C} (r : Raced) (x mid y : Complex P C plants steadies copies) (m n : Member) (tried result : Result Stands NodeNo) (mine : m.id ≡ r.by)
    (its : (at : Stand) → r.stands ≡ line.Sits at → at.holder.by ≡ r.by) (tries : TriesBy plants copies r (parts_of x) (parts_of mid) m n tried) (ends : EndsTurn r.by r.number mid y tried result) where
  -- calls of its member alone
  pub turn_only : IsMember x.book r.by → OnlyBy r.by x.book y.book
  turn_only inside =
      let one : OnlyBy r.by x.book mid.book = tries_only plants copies r (parts_of x) (parts_of mid) m n tried mine inside its tries in
      only_then r.by x.book mid.book y.book one (end_only r.by r.number mid y tried result (inside_only r.by x.book mid.book one inside) ends)

  not_halted : (done_of tried ≡ Err no_node.Halted) → tried ≡ Err no_node.Halted
  not_halted is = by_answer tried is where
    by_answer : (t : Result Stands NodeNo) → done_of t ≡ Err no_node.Halted → t ≡ Err no_node.Halted
    by_answer (Ok s) e = absurd (cc)
    by_answer (Err k) e = let same : k ≡ no_node.Halted = cc in ap (λ (j : NodeNo). let t : Result Stands NodeNo = Err j in t) same

  -- in which that is stopped only where it was halted
  pub turn_stops : is_somebody r.by ≡ true → is_stopped y.book r.by ≡ true → (is_stopped x.book r.by ≡ true) ⊎ (tried ≡ Err no_node.Halted)
  turn_stops some down = ⊎_elim
      (λ same. by_halt tried refl same)
      (λ halted. inr halted.0) (book_ended r.by r.number mid y tried result ends)
    where
      from_mid : (tried ≢ Err no_node.Halted) → y.book ≡ mid.book → is_stopped x.book r.by ≡ true
      from_mid unlike same =
          let still : Still r.by (done_of tried) x.book mid.book = tries_still plants copies r (parts_of x) (parts_of mid) m n tried mine its tries in
          sym (still (λ is. unlike (not_halted is))) ∙ sym (ap (λ b. is_stopped b r.by) same) ∙ down

      by_halt : (t : Result Stands NodeNo) → tried ≡ t → y.book ≡ mid.book → (is_stopped x.book r.by ≡ true) ⊎ (tried ≡ Err no_node.Halted)
      by_halt (Ok s) is same = inl (from_mid (not_ok s tried is) same)
      by_halt (Err no_node.Halted) is same = inr is
      by_halt (Err no_node.BothLost) is same = inl (from_mid (other_err no_node.BothLost tried (λ e. absurd (cc)) is) same)
      by_halt (Err no_node.NoMemory) is same = inl (from_mid (other_err no_node.NoMemory tried (λ e. absurd (cc)) is) same)
      by_halt (Err no_node.ConsoleFault) is same = inl (from_mid (other_err no_node.ConsoleFault tried (λ e. absurd (cc)) is) same)
