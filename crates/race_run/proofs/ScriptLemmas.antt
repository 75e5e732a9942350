-- The lines of a member one after another, by what its pass remembers.
use Rattle.std.proofs.Common.{◌≡◌, ◌∙◌, ℕ, zero, suc, ◌+◌, ◌≤◌, Bool, true, false, List, [], ◌∷◌, ◌++◌, Ok, Err, refl, sym, ap, subst, arith}
use Rattle.std.specs.Prelude.{All}
use Rattle.mas_types.specs.declared.ids.MemberId.{MemberId}
use Rattle.mas_types.specs.declared.queues.Queue.{Queue}
use Rattle.script_lang.specs.declared.types.Step.{Step}
use Rattle.spool_plant.specs.View.{View}
use Rattle.gate_facts.specs.Memory.{Memory}
use Rattle.member_node.specs.declared.member.NodeNo.{NodeNo}
use Rattle.race_turns.specs.Races.{Asked, Standing, if_asked, lines_of, none}
use Rattle.race_turns.specs.Sides.{AreTaken, and_then}
use Rattle.race_turns.proofs.Histories.{on_and_on, on_to_end}
use Rattle.mas_types.specs.Limits.{steps_most}
use Rattle.member_racing.specs.Asked.{IsAsked}
use Rattle.race_run.specs.Races.{seen_in}
use Rattle.race_run.specs.Racing.{AreAsked, HasClosed, HasEnded, LineIsRaced, StepIsRaced, asked_at, plays, side_in}

-- THE LINES OF THE MEMBER

module _ {A : Type 0} (P : A → Type 0) where
  pub all_here : (x : A) (xs : List A) → All P (x ∷ xs) → P x
  all_here x xs all = all 0 x (omega arith)

  pub all_later : (x : A) (xs : List A) → All P (x ∷ xs) → All P xs
  all_later x xs all = λ k d lt. all (suc k) d (omega (arith, lt))

  pub all_one : (x : A) → P x → All P (x ∷ [])
  all_one x p zero d lt = p
  all_one x p (suc k) d lt = absurd (omega (arith, lt))

  pub all_none : All P []
  all_none = λ k d lt. absurd (omega (arith, lt))

module _ (base : Queue) (by : MemberId) (a : Asked) (more : List Asked) where
  abbrev IsOneAsked : Asked → Type 0
  IsOneAsked x = IsAsked base by x.what × (1 ≤ x.number) × (x.number ≤ steps_most)

  pub asked_here : (b : Bool) → AreAsked base by (if_asked b a more) → AreAsked base by (if_asked b a [])
  asked_here true all = all_one IsOneAsked a (all_here IsOneAsked a more all)
  asked_here false all = all_none IsOneAsked

  pub asked_later : (b : Bool) → AreAsked base by (if_asked b a more) → AreAsked base by more
  asked_later true all = all_later IsOneAsked a more all
  asked_later false all = all

-- it plays the one line
pub asked_one : (base : Queue) (by : MemberId) (a : Asked) (b : Bool) → b ≡ true → AreAsked base by (if_asked b a [])
    → AreAsked base by (a ∷ [])
asked_one base by a b is all = subst (λ (c : Bool). AreAsked base by (if_asked c a [])) is all

-- ONE LINE OF THE SCRIPT

module _ (base : Queue) (by : MemberId) (entry : View) (number : ℕ) (s : Step) where
  -- of another member
  pub step_passed : (was : Memory) → plays by s ≡ false → StepIsRaced base by (seen_in base entry by) number s was was (Ok tt)
  step_passed was not at lines opens first = record {
    turns = [];
    all = none;
    stands = at;
    took = (refl, refl, refl);
    opens = opens;
    rest = first ∙ ap (λ (b : Bool). if_asked b (asked_at number s.what) lines) not;
  }

  -- one of its own
  pub step_played : (was is : Memory) → plays by s ≡ true
      → LineIsRaced base by (seen_in base entry by) (asked_at number s.what) was is (Ok tt)
      → StepIsRaced base by (seen_in base entry by) number s was is (Ok tt)
  step_played was is own raced at lines opens first =
      raced at lines opens (first ∙ ap (λ (b : Bool). if_asked b (asked_at number s.what) lines) own)

  pub step_ended : (was is : Memory) (e : NodeNo) → plays by s ≡ true
      → LineIsRaced base by (seen_in base entry by) (asked_at number s.what) was is (Err e)
      → StepIsRaced base by (seen_in base entry by) number s was is (Err e)
  step_ended was is e own raced at lines opens first =
      raced at lines opens (first ∙ ap (λ (b : Bool). if_asked b (asked_at number s.what) lines) own)

  -- AFTER OTHERS, of which the pass had another base and member by name alone
  module _ (was mid is : Memory) (at : Standing) (lines : List Asked) (b : Queue) (k : MemberId) (base_is : b ≡ base)
      (same : k ≡ by)
      (h : HasClosed base by (seen_in base entry by) at (if_asked (plays by s) (asked_at number s.what) lines) was mid)
    where
      pub then_closed : StepIsRaced b k (seen_in b entry k) number s mid is (Ok tt)
          → HasClosed base by (seen_in base entry by) at lines was is
      then_closed raced =
          let one : StepIsRaced base by (seen_in base entry by) number s mid is (Ok tt) =
          subst (λ (q : Queue). StepIsRaced q by (seen_in q entry by) number s mid is (Ok tt)) base_is
          (subst (λ (m : MemberId). StepIsRaced b m (seen_in b entry m) number s mid is (Ok tt)) same raced) in
          let next : HasClosed base by (seen_in base entry by) h.stands lines mid is = one h.stands lines h.opens h.rest in
          record {
            turns = h.turns ++ next.turns;
            all = and_then h.all next.all;
            stands = next.stands;
            took = on_and_on base by (seen_in base entry by) (side_in by was) (side_in by mid) (side_in by is) at h.stands next.stands h.turns next.turns h.all next.all h.took next.took;
            opens = next.opens;
            rest = next.rest;
          }

      pub then_ended : (e : NodeNo) → StepIsRaced b k (seen_in b entry k) number s mid is (Err e)
          → HasEnded base by (seen_in base entry by) true at was is
      then_ended e raced =
          let one : StepIsRaced base by (seen_in base entry by) number s mid is (Err e) =
          subst (λ (q : Queue). StepIsRaced q by (seen_in q entry by) number s mid is (Err e)) base_is
          (subst (λ (m : MemberId). StepIsRaced b m (seen_in b entry m) number s mid is (Err e)) same raced) in
          let next : HasEnded base by (seen_in base entry by) true h.stands mid is = one h.stands lines h.opens h.rest in
          record {
            turns = h.turns ++ next.turns;
            all = and_then h.all next.all;
            took = on_to_end base by (seen_in base entry by) true (side_in by was) (side_in by mid) (side_in by is) at h.stands h.turns next.turns h.all next.all h.took next.took;
          }

-- ALL OF THEM

pub all_closed : (base : Queue) (by : MemberId) (entry : View) (was is : Memory) (at : Standing)
    → HasClosed base by (seen_in base entry by) at [] was is → HasEnded base by (seen_in base entry by) false at was is
all_closed base by entry was is at h = record {
  turns = h.turns ++ [];
  all = and_then h.all none;
  took = on_to_end base by (seen_in base entry by) false (side_in by was) (side_in by is) (side_in by is) at h.stands h.turns [] h.all none h.took
      (subst (λ (ls : List Asked). AreTaken base by (seen_in base entry by) false (side_in by is) h.stands ls [] none (side_in by is)) (sym h.rest) (refl, refl, refl));
}

-- the lines from this one on
pub lines_then : (by : MemberId) (at : ℕ) (lines more : List Step) (s : Step) → lines ≡ s ∷ more
    → lines_of by at lines ≡ if_asked (plays by s) (asked_at at s.what) (lines_of by (at + 1) more)
lines_then by at lines more s is = ap (lines_of by at) is
