-- What a sitting of one batch did, from the calls that keep the batch and say the lines.
use Rattle.member_sittings.proofs.Names.{◌≡◌, ℕ, ◌≤◌, List, [], ◌∷◌, ◌++◌, length, Result, Ok, Err, inl, append-nil, refl, sym, ◌∙◌, ap, subst, MemberId, Entry, View, PlantGhosts, begun, Parts, NodeNo, ConsoleFault, NoMemory, console_now, HasKept, IsStep, StepCauses, notes_none, HasAll, CopyCauses, GivesUpLeaves, all_entries, Sitting, released, Holder, State, SittingEnd, ends_in, HasSaid, bare, CopiesActed, IsEndOf, IsSatAs, journal_of, IfOk, HasActed, PairState, pair_state}
use Rattle.member_steps.proofs.KeepLemmas.{copies_none}
use Rattle.member_steps.specs.Counting.{HasCounted}
use Rattle.member_steps.specs.Noting.{OtherNotesStay}
use Rattle.member_steps.proofs.CountLemmas.{counted_error, counted_ok, counted_one, counted_up}
use Rattle.step_turns.specs.declared.states.Release.{Release}
use Rattle.member_sittings.proofs.ReachLemmas.{OneLeft, one_all, one_given_up, one_step, said_by, cause_by}
use Rattle.member_steps.proofs.SayLemmas.{said_none}
use Rattle.member_sittings.specs.Sat.{sat_in}
use Rattle.member_node.specs.Writes.{journal_at}

copies_cause : (e : NodeNo) (by : ℕ) (x y : PairState) → CopyCauses {T = Unit {0}} (Err e) by x y → StepCauses {T = SittingEnd} (Err e) by x y × (e ≡ ConsoleFault → ⊥)
copies_cause ConsoleFault by x y cause = absurd cause
copies_cause _ by x y cause = (cause, λ is. absurd (cc))

-- by the answer: what one batch counted
counted_in : (r : Result SittingEnd NodeNo) (by : MemberId) (es : List Entry) (was now : List ℕ) → HasCounted by es was now (bare r) → HasCounted by (es ++ []) was now r
counted_in (Ok e) by es was now counts = counted_ok by (es ++ []) was now tt e (counted_one by es was now (Ok tt) counts)
counted_in (Err e) by es was now counts = counted_up by es (es ++ []) was now (Err e) e counts

-- a sitting changes none of these
pub sat_frame : {P C : Type 0} (x y : Parts P C) → y.book ≡ x.book → y.base ≡ x.base → y.since ≡ x.since → y.renewals ≡ x.renewals → y ≡ sat_in y x
sat_frame x y book base since renewals = rw (sym book, sym base, sym since, sym renewals) refl

module _ {P C : Type 0} (plants : PlantGhosts P) (by : MemberId) (h : Holder) (same : h.by ≡ by) (next : State) (lines : List (List ℕ)) (x y : Parts P C) where
  abbrev V : View
  V = plants.view x.plant

  abbrev W : View
  W = plants.view y.plant

  abbrev Of : List Entry → Sitting
  Of es = ends_in h (es ∷ []) next lines

  -- A sitting of one batch, by its parts. The member is the holder.
  sat_by : (es : List Entry) (r : Result SittingEnd NodeNo) → HasActed plants by x y r → OneLeft by V.now W.now es x.batches (journal_of y) r → (plants.tells → HasSaid (HasAll by V.now W.now (es ∷ []) x.batches (journal_of y)) lines (console_now V) (console_now W) r)
      → HasCounted by (all_entries (es ∷ [])) x.printed y.printed r → IfOk r (λ e. IsEndOf (Of es) e) → IsSatAs plants h.by (Of es) x y r
  sat_by es r acts one console counts ends = subst (λ (i : MemberId). IsSatAs plants i (Of es) x y r) (sym same) (record {
    sat = record { acts = acts; reach = one.by_it.reach; more = one.more; journal = one.are; left = one.by_it.left; reached = one.by_it.reached; console = console; counts = counts; ends = ends };
    tight = one.tight;
  })

  -- out of memory before the batch had all its entries
  pub sat_given_up : (es rest : List Entry) (e : NodeNo) → 1 ≤ length rest → CopiesActed plants {T = Unit {0}} by x y (Err e)
      → GivesUpLeaves e x.batches (journal_of y) (begun V.now by es) W.now → HasCounted {T = Unit {0}} by [] x.printed y.printed (Err e) → IsSatAs plants h.by (Of (es ++ rest)) x y (Err e)
  sat_given_up es rest e more acts leaves counts =
      let apart = acts.on.apart in
      let cause = copies_cause e by.0 (pair_state plants.view x) (pair_state plants.view y) acts.on.cause in
      sat_by (es ++ rest) (Err e)
      (record { course = acts.on.course; loses = acts.on.loses; others = λ t. (apart t).others; papers = λ t. (apart t).papers; wires = λ t. (apart t).wires; spares = acts.on.spares; cause = cause.0; notes = acts.notes })
      (one_given_up by V.now W.now acts.on.course.goes.later es rest x.batches (journal_of y) e more leaves)
      (λ t. said_none _ lines (console_now V) (console_now W) e cause.1 (apart t).console)
      (counted_up by [] (all_entries ((es ++ rest) ∷ [])) x.printed y.printed (Err e) e counts) tt

  -- a step's batch and its lines
  pub sat_step : (es : List Entry) → 1 ≤ length es → OtherNotesStay by x.had y.had → (r : Result SittingEnd NodeNo) → IfOk r (IsEndOf (Of es))
      → IsStep plants.tells lines (begun V.now by es) (journal_at x.batches (pair_state plants.view x)) (journal_at (journal_of y) (pair_state plants.view y)) (bare r) → HasCounted by es x.printed y.printed (bare r) → IsSatAs plants h.by (Of es) x y r
  sat_step es some notes r ends step counts =
      let later = step.course.goes.later in
      let cause = cause_by r by.0 (pair_state plants.view x) (pair_state plants.view y) step.cause step.spares in
      sat_by es r (record { course = step.course; loses = step.loses; others = step.others; papers = step.papers; wires = step.wires; spares = cause.1; cause = cause.0; notes = notes })
      (one_step by V.now W.now later es some x.batches (journal_of y) r step.journal)
      (λ t. said_by r (HasKept x.batches (journal_of y) (begun V.now by es) W.now) (HasAll by V.now W.now (es ∷ []) x.batches (journal_of y)) lines (console_now V) (console_now W) (one_all by V.now W.now later es some x.batches (journal_of y)) (step.console t))
      (counted_in r by es x.printed y.printed counts) ends

-- nothing was done, out of memory
pub sat_none : {P C : Type 0} (plants : PlantGhosts P) (h : Holder) (next : State) (lines : List (List ℕ)) (x : Parts P C) (es : List Entry) → 1 ≤ length es → journal_of x ≡ x.batches → IsSatAs plants h.by (ends_in h (es ∷ []) next lines) x x (Err NoMemory)
sat_none plants h next lines x es some same =
    sat_given_up plants h.by h refl next lines x x [] es NoMemory some (record { on = copies_none plants.tells h.by.0 (pair_state plants.view x); notes = notes_none h.by x.had }) (inl same) (counted_error h.by [] x.printed x.printed NoMemory refl)

-- how a sitting of one batch ends
pub ends_of : (h : Holder) (es : List Entry) (next : State) (lines : List (List ℕ)) (given : ℕ) (release : Release) → given ≡ length es → release ≡ released h.grant h.hold given next
    → IsEndOf (ends_in h (es ∷ []) next lines) (record { next = next; given = given; release = release })
ends_of h es next lines given release many is =
    let all : given ≡ length (es ++ []) = many ∙ sym (ap length (append-nil es)) in
    record { next = refl; given = all; release = is ∙ ap (λ (n : ℕ). released h.grant h.hold n next) all }
