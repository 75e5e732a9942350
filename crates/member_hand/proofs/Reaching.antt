-- How far a sitting came that was cut, in the words of what a line leaves.
use Rattle.std.proofs.Common.{◌≡◌, ◌≢◌, ℕ, zero, suc, ◌+◌, ◌≤◌, Bool, true, false, List, [], ◌∷◌, ◌++◌, length, map, take, drop, append-nil, Option, Some, None, Err, refl, sym, ap, ◌∙◌, subst, arith}
use Rattle.mas_types.specs.declared.ids.MemberId.{MemberId}
use Rattle.mas_types.specs.declared.journals.Batch.{Batch}
use Rattle.mas_types.specs.declared.journals.Entry.{Entry}
use Rattle.mas_types.specs.declared.journals.Fate.{Fate}
use Rattle.mas_types.specs.declared.journals.Fate.TheVariants.{Dropped, Flying, Kept}
use Rattle.spool_plant.specs.View.{Line}
use Rattle.member_node.specs.declared.member.NodeNo.{NodeNo}
use Rattle.member_node.specs.declared.member.NodeNo.TheVariants.{BothLost, Halted, ConsoleFault, NoMemory}
use Rattle.member_decks.specs.Batches.{AreAll}
use Rattle.member_sittings.specs.Left.{HasLeft, IsLastBatch, Reach, ReachesBy, StandThere, first_of, reach_all, torn_line}
use Rattle.member_sittings.proofs.ReachLemmas.{left_all}
use Rattle.step_turns.specs.Batches.{batch_of}
use Rattle.run_turns.specs.Cuts.{batches_cut, begun, broken, kept_all, torn, whole}
use Rattle.run_turns.specs.Scenes.{Batched, with_fate}
use Rattle.run_turns.specs.Sights.{Begun, Halt, Writing}
use Rattle.member_hand.specs.Cuts.{AreBatched, IsBatched, IsBegun, IsBegunKept, IsHaltBy}

-- WHERE IT WAS CUT

abbrev pub fate_by : Bool → Fate
fate_by true = Flying
fate_by false = Kept

-- of a batch that was begun, if any of its entries stand in the journal
abbrev pub begun_by : ℕ → Bool → List Entry → Option Begun
begun_by part flies [] = None
begun_by part flies (e ∷ es) = Some (record { entries = part; fate = fate_by flies })

abbrev pub halt_by : Reach → List (List Entry) → Halt
halt_by r ess = Writing r.whole (begun_by r.part r.flies (take r.part (first_of (drop r.whole ess))))

pub part_some : (part : ℕ) (xs es : List Entry) (e : Entry) → e ∷ es ≡ take part xs → 1 ≤ part
part_some zero xs es e is = absurd (cc)
part_some (suc part) xs es e is = omega arith

never_dropped : (flies : Bool) → fate_by flies ≢ Dropped
never_dropped true = λ e. absurd (cc)
never_dropped false = λ e. absurd (cc)

pub begun_right : (part : ℕ) (flies : Bool) (xs es : List Entry) → es ≡ take part xs → IsBegun (begun_by part flies es)
begun_right part flies xs [] is = tt
begun_right part flies xs (e ∷ es) is = (part_some part xs es e is, never_dropped flies)

pub begun_kept : (part : ℕ) (flies : Bool) (xs es : List Entry) → es ≡ take part xs → flies ≡ false → IsBegunKept (begun_by part flies es)
begun_kept part flies xs [] is down = tt
begun_kept part flies xs (e ∷ es) is down = (part_some part xs es e is, ap fate_by down)

module _ (by : MemberId) where
  -- WHAT STANDS IN THE JOURNAL

  -- batches that are kept
  kept_there : (from now : ℕ) (ws : List (List Entry)) (bs : List Batch) → StandThere false by from now ws bs → AreBatched by from now (kept_all ws) bs
  kept_there from now [] [] st = tt
  kept_there from now [] (b ∷ bs) st = absurd st
  kept_there from now (es ∷ []) [] st = absurd st
  kept_there from now (es ∷ next ∷ ess) [] st = absurd st
  kept_there from now (es ∷ []) (b ∷ bs) st = (st.1, subst (λ (cs : List Batch). AreBatched by b.last now [] cs) (sym st.0) tt)
  kept_there from now (es ∷ next ∷ ess) (b ∷ bs) st = (st.0, kept_there b.last now (next ∷ ess) bs st.1)

  one_there : (flies : Bool) (from now : ℕ) (es : List Entry) (b : Batch) → IsLastBatch flies by es from now b → IsBatched (fate_by flies) by (with_fate (fate_by flies) es) from now b
  one_there true from now es b last = last
  one_there false from now es b last = last

  -- and one more after them
  last_there : (flies : Bool) (from now : ℕ) (ws : List (List Entry)) (es : List Entry) (bs : List Batch) → StandThere flies by from now (ws ++ es ∷ []) bs
      → AreBatched by from now (kept_all ws ++ with_fate (fate_by flies) es ∷ []) bs
  last_there flies from now [] es [] st = absurd st
  last_there flies from now [] es (b ∷ bs) st = (one_there flies from now es b st.1, subst (λ (cs : List Batch). AreBatched by b.last now [] cs) (sym st.0) tt)
  last_there flies from now (w ∷ []) es [] st = absurd st
  last_there flies from now (w ∷ v ∷ ws) es [] st = absurd st
  last_there flies from now (w ∷ []) es (b ∷ bs) st = (st.0, last_there flies b.last now [] es bs st.1)
  last_there flies from now (w ∷ v ∷ ws) es (b ∷ bs) st = (st.0, last_there flies b.last now (v ∷ ws) es bs st.1)

  none_there : (flies : Bool) (from now : ℕ) (ws : List (List Entry)) (bs : List Batch) → (flies ≡ true → ⊥) → StandThere flies by from now (ws ++ []) bs → AreBatched by from now (kept_all ws ++ []) bs
  none_there true from now ws bs never st = absurd (never refl)
  none_there false from now ws bs never st =
      subst (λ (xs : List Batched). AreBatched by from now xs bs) (sym (append-nil (kept_all ws)))
      (kept_there from now ws bs (subst (λ (l : List (List Entry)). StandThere false by from now l bs) (append-nil ws) st))

  none_of : (part : ℕ) → take part (first_of []) ≡ []
  none_of zero = refl
  none_of (suc part) = refl

  part_there : (flies : Bool) (part from now : ℕ) (ws ds : List (List Entry)) (es : List Entry) (bs : List Batch) → es ≡ take part (first_of ds) → (flies ≡ true → 1 ≤ length es)
      → StandThere flies by from now (ws ++ batch_of es) bs → AreBatched by from now (kept_all ws ++ begun by (begun_by part flies es) ds) bs
  part_there flies part from now ws ds [] bs is flying st = none_there flies from now ws bs (λ f. let some = flying f in absurd (omega (arith, some))) st
  part_there flies part from now ws [] (e ∷ es) bs is flying st = absurd (let none = is ∙ none_of part in cc)
  part_there flies part from now ws (d ∷ ds) (e ∷ es) bs is flying st =
      subst (λ (fs : List Entry). AreBatched by from now (kept_all ws ++ with_fate (fate_by flies) fs ∷ []) bs) is (last_there flies from now ws (e ∷ es) bs st)

  take_some : (n : ℕ) (xs : List Entry) → 1 ≤ n → n ≤ length xs → 1 ≤ length (take n xs)
  take_some zero xs some few = absurd (omega (arith, some))
  take_some (suc n) [] some few = absurd (omega (arith, few))
  take_some (suc n) (x ∷ xs) some few = omega arith

  pub reach_there : (from now : ℕ) (r : Reach) (ess : List (List Entry)) (more : List Batch) → HasLeft by from now ess r more → AreBatched by from now (batches_cut by (halt_by r ess) ess) more
  reach_there from now r ess more left =
      part_there r.flies r.part from now (take r.whole ess) (drop r.whole ess) (take r.part (first_of (drop r.whole ess))) more refl
      (λ f. take_some r.part (first_of (drop r.whole ess)) (left.flying f) left.fits) left.stand

  -- all of them
  pub all_there : (from now : ℕ) (ess : List (List Entry)) (bs : List Batch) → AreAll by from now ess bs → AreBatched by from now (kept_all ess) bs
  all_there from now [] [] all = tt
  all_there from now [] (b ∷ bs) all = absurd all
  all_there from now (es ∷ ess) [] all = absurd all
  all_there from now (es ∷ ess) (b ∷ bs) all = (all.0, all_there b.last now ess bs all.1)

  pub reached_all : (from now : ℕ) (r : Reach) (ess : List (List Entry)) (more : List Batch) → HasLeft by from now ess r more → r ≡ reach_all ess → AreBatched by from now (kept_all ess) more
  reached_all from now r ess more left is =
      let whole = subst (λ (q : Reach). HasLeft by from now ess q more) is left in
      kept_there from now ess more (subst (λ (l : List (List Entry)). StandThere false by from now l more) (left_all ess) whole.stand)

-- BY THE ANSWER

pub halts_by : (e : NodeNo) (r : Reach) (ess : List (List Entry)) → e ≢ ConsoleFault → ReachesBy {T = Unit {0}} (Err e) ess r → IsHaltBy e (halt_by r ess)
halts_by BothLost r ess not reached = begun_right r.part r.flies (first_of (drop r.whole ess)) (take r.part (first_of (drop r.whole ess))) refl
halts_by Halted r ess not reached = begun_right r.part r.flies (first_of (drop r.whole ess)) (take r.part (first_of (drop r.whole ess))) refl
halts_by NoMemory r ess not reached = begun_kept r.part r.flies (first_of (drop r.whole ess)) (take r.part (first_of (drop r.whole ess))) refl reached
halts_by ConsoleFault r ess not reached = absurd (not refl)

-- THE LINES

torn_there : (n : ℕ) (text : List ℕ) (lines : List (List ℕ)) → n + 1 ≤ length lines → torn_line (Some text) ≡ torn (Some text) (drop n lines)
torn_there zero text [] le = absurd (omega (arith, le))
torn_there zero text (line ∷ lines) le = refl
torn_there (suc n) text [] le = absurd (omega (arith, le))
torn_there (suc n) text (line ∷ lines) le = torn_there n text lines (omega (arith, le))

pub broken_is : (n : ℕ) (tail : Option (List ℕ)) (lines : List (List ℕ)) → n + length (torn_line tail) ≤ length lines → map whole (take n lines) ++ torn_line tail ≡ broken n tail lines
broken_is n None lines le = refl
broken_is n (Some text) lines le = ap (λ (l : List Line). map whole (take n lines) ++ l) (torn_there n text lines le)
