-- A member that takes its seat and keeps the lock.
use Rattle.std.proofs.Common.{◌≡◌, ◌∙◌, ℕ, true, [], Option, Result, Ok, Err, ap, inr, refl, subst, sym}
use Rattle.mas_types.specs.declared.ids.MemberId.{MemberId}
use Rattle.lock_cycle.specs.Books.{Book, is_holder}
use Rattle.spool_plant.specs.declared.plant.Plant.{Ghosts as PlantGhosts}
use Rattle.ckpt_copy.specs.declared.copying.Copying.{Ghosts as CopyGhosts}
use Rattle.mas_complex.specs.Parts.{Parts}
use Rattle.member_node.specs.declared.member.Member.{Member}
use Rattle.member_node.specs.declared.member.NodeNo.{NodeNo}
use Rattle.member_node.specs.declared.member.NodeNo.TheVariants.{BothLost, ConsoleFault, Halted, NoMemory}
use Rattle.member_sittings.specs.Gates.{HasTakenSeat}
use Rattle.member_sittings.specs.Sat.{CopiesActed, seated_in}
use Rattle.step_turns.specs.declared.states.Release.TheVariants.{Keep}
use Rattle.run_turns.specs.Admissions.{Locks, Refused}
use Rattle.run_turns.specs.Scenes.{Scene}
use Rattle.run_turns.specs.Sights.{Cut}
use Rattle.member_lines.specs.Closes.{HasClosed, HasSaid, IsTested, done, failed, holds_at, left_at, stopped_so}
use Rattle.member_lines.specs.Locks.{HasNoSeat, SeatsBy}
use Rattle.member_lines.proofs.Holding.{locks_as, said_so, says_ok, unsaid_so}

-- THE SEAT ISN'T HAD: a member that was halted then is stopped in the book

module _ {P C : Type 0} (by : MemberId) (x mid y : Parts P C) where
  pub unseated_frame : (why : NodeNo) → mid ≡ seated_in mid x → y ≡ stopped_so (failed why) by mid → y ≡ stopped_so (failed why) by (seated_in y x)
  unseated_frame Halted entered e =
      let is : y ≡ stopped_so (failed Halted) by (seated_in mid x) = e ∙ ap (λ (z : Parts P C). stopped_so (failed Halted) by z) entered in
      is ∙ ap (λ (z : Parts P C). stopped_so (failed Halted) by (seated_in z x)) (sym is)
  unseated_frame BothLost entered e = let is : y ≡ seated_in mid x = e ∙ entered in is ∙ ap (λ (z : Parts P C). seated_in z x) (sym is)
  unseated_frame ConsoleFault entered e = let is : y ≡ seated_in mid x = e ∙ entered in is ∙ ap (λ (z : Parts P C). seated_in z x) (sym is)
  unseated_frame NoMemory entered e = let is : y ≡ seated_in mid x = e ∙ entered in is ∙ ap (λ (z : Parts P C). seated_in z x) (sym is)

  acts_so : (plants : PlantGhosts P) (why : NodeNo) → y ≡ stopped_so (failed why) by mid → CopiesActed plants by x mid (failed why) → CopiesActed plants by x y (failed why)
  acts_so plants Halted e acts = subst (λ (z : Parts P C). CopiesActed plants by x z (failed Halted)) (sym e) (record { on = acts.on; notes = acts.notes })
  acts_so plants BothLost e acts = subst (λ (z : Parts P C). CopiesActed plants by x z (failed BothLost)) (sym e) acts
  acts_so plants ConsoleFault e acts = subst (λ (z : Parts P C). CopiesActed plants by x z (failed ConsoleFault)) (sym e) acts
  acts_so plants NoMemory e acts = subst (λ (z : Parts P C). CopiesActed plants by x z (failed NoMemory)) (sym e) acts

  pub unseated : (plants : PlantGhosts P) (copies : CopyGhosts C) (why : NodeNo) → mid ≡ seated_in mid x → y ≡ stopped_so (failed why) by mid → CopiesActed plants by x mid (failed why) → HasNoSeat plants copies by x y why
  unseated plants copies why entered frame acts = (acts_so plants why frame acts, unseated_frame why entered frame)

-- THE SEAT IS HAD, and this follows
pub seats : {P C : Type 0} (plants : PlantGhosts P) (copies : CopyGhosts C) (Follows : Parts P C → Parts P C → Result (Unit {0}) NodeNo → Type 0) (m n : Member) (x mid y : Parts P C) → mid ≡ seated_in mid x
    → CopiesActed plants m.id x mid done → HasTakenSeat plants copies mid n → (r : Result (Unit {0}) NodeNo) → Follows mid y r → SeatsBy plants copies Follows m n x y r
seats plants copies Follows m n x mid y entered acts took (Ok value) follows = record { mid = mid; entered = entered; acts = acts; took = took; follows = follows }
seats plants copies Follows m n x mid y entered acts took (Err why) follows = inr (record { mid = mid; entered = entered; acts = acts; took = took; follows = follows })

-- and the line is said by which the lock is kept
module _ {P C : Type 0} (plants : PlantGhosts P) (copies : CopyGhosts C) (S : Scene) (m : Member) (at : ℕ) (x : Parts P C) (tested : IsTested S m.id Locks x.book) (holds : is_holder x.book m.id ≡ true) where
  pub its_left : (cut : Option Cut) → left_at S m.id at Locks cut ≡ holds_at m.id at says_ok S x.book Keep cut
  its_left = locks_as m.id at S x.book (tested.flight refl) tested.book

  module _ (n : Member) (mid y : Parts P C) (entered : mid ≡ seated_in mid x) (acts : CopiesActed plants m.id x mid done) (took : HasTakenSeat plants copies mid n) (same : mid.book ≡ x.book) where
    mid_left : (cut : Option Cut) → left_at S m.id at Locks cut ≡ holds_at m.id at says_ok S mid.book Keep cut
    mid_left cut = its_left cut ∙ ap (λ (b : Book). holds_at m.id at says_ok S b Keep cut) (sym same)

    mid_holds : is_holder mid.book m.id ≡ true
    mid_holds = subst (λ (b : Book). is_holder b m.id ≡ true) (sym same) holds

    locked : (r : Result (Unit {0}) NodeNo) → y ≡ stopped_so r m.id (record mid { plant = y.plant }) → HasClosed plants (record S { book = mid.book }) m.id at (Refused m.id says_ok) m.id mid y r
        → HasSaid plants (left_at S m.id at Locks) m.id Keep mid y r
    locked (Ok value) frame h = (said_so m.id at says_ok plants S (left_at S m.id at Locks) Keep mid y mid_holds mid_left y refl (ap (λ (z : Parts P C). z.book) frame) h, frame)
    locked (Err why) frame h = (unsaid_so m.id at says_ok plants S (left_at S m.id at Locks) Keep mid y mid_holds mid_left why h, frame)

    pub seated : (r : Result (Unit {0}) NodeNo) → y ≡ stopped_so r m.id (record mid { plant = y.plant }) → HasClosed plants (record S { book = mid.book }) m.id at (Refused m.id says_ok) m.id mid y r
        → SeatsBy plants copies (HasSaid plants (left_at S m.id at Locks) m.id Keep) m n x y r
    seated r frame h = seats plants copies (HasSaid plants (left_at S m.id at Locks) m.id Keep) m n x mid y entered acts took r (locked r frame h)
