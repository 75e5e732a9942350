-- How far a sitting came, from what its parts left in the journal and on the console.
use Rattle.member_sittings.proofs.Names.{◌≡◌, ℕ, ◌≤◌, Bool, true, false, List, [], ◌∷◌, ◌++◌, length, take, Result, Ok, Err, inl, inr, ⊎_elim, suc, append-nil, refl, sym, ◌∙◌, ap, subst, arith, MemberId, Batch, Entry, ViewLine as Line, begun, fated, NodeNo, BothLost, Halted, ConsoleFault, NoMemory, HasFlying, HasKept, StepLeaves, AreAll, HasAll, IsKeptBatch, GivesUpLeaves, batch_of, HasLeft, HasSaid, IsLastBatch, Reach, ReachesBy, Said, SaidBy, bare, StandThere, left_by, reach_all, SittingEnd, StepCauses, PairState}
use Rattle.std.proofs.lemmas.List.{length-append, take_at}
use Rattle.std.proofs.Math.Seq.{take-length}
use Rattle.mas_types.specs.declared.journals.Fate.TheVariants.{Kept}
use Rattle.mas_complex.specs.Headline.{whole}
use Rattle.member_sittings.specs.Tight.{IsTightBy}
use Rattle.member_node.specs.Spares.{Spares, stopped_in}

-- A BATCH, AND SOME OF ITS ENTRIES

-- a batch of some entries is written
pub batch_some : (es : List Entry) → 1 ≤ length es → batch_of es ≡ es ∷ []
batch_some [] some = absurd (omega (arith, some))
batch_some (e ∷ es) some = refl

-- the first entries of a batch are written as a batch
pub part_front : (es rest : List Entry) → 1 ≤ length es → batch_of (take (length es) (es ++ rest)) ≡ es ∷ []
part_front es rest some = ap batch_of (take_at es rest (length es) refl) ∙ batch_some es some

-- a reach to the end leaves all batches
pub left_all : (ess : List (List Entry)) → left_by (reach_all ess) ess ≡ ess
left_all ess = ap (λ (l : List (List Entry)). l ++ []) (take-length ess) ∙ append-nil ess

-- BATCHES ONE AFTER ANOTHER

-- a kept batch, and others after it
pub stand_next : (flies : Bool) (by : MemberId) (from now : ℕ) (es : List Entry) (ess : List (List Entry)) (b : Batch) (bs : List Batch) → IsKeptBatch by es from now b → StandThere flies by b.last now ess bs → StandThere flies by from now (es ∷ ess) (b ∷ bs)
stand_next flies by from now es [] b [] kept rest = (refl, subst (λ (f : Bool). IsLastBatch f by es from now b) (sym rest) kept)
stand_next flies by from now es [] b (c ∷ bs) kept rest = absurd rest
stand_next flies by from now es (next ∷ ess) b bs kept rest = (kept, rest)

pub stand_all : (by : MemberId) (from now : ℕ) (ess : List (List Entry)) (bs : List Batch) → AreAll by from now ess bs → StandThere false by from now ess bs
stand_all by from now [] [] all = refl
stand_all by from now [] (b ∷ bs) all = absurd all
stand_all by from now (es ∷ ess) [] all = absurd all
stand_all by from now (es ∷ ess) (b ∷ bs) all = stand_next false by from now es ess b bs all.0 (stand_all by b.last now ess bs all.1)

-- what is left, of these batches
pub record Lefts (flies : Bool) (by : MemberId) (from now : ℕ) (ess : List (List Entry)) (more : List Batch) : Type 0 where
  pub reach : Reach
  pub flag : reach.flies ≡ flies
  pub left : HasLeft by from now ess reach more

pub all_left : (by : MemberId) (from now : ℕ) (ess : List (List Entry)) (bs : List Batch) → AreAll by from now ess bs → HasLeft by from now ess (reach_all ess) bs
all_left by from now ess bs all = record {
  within = omega arith;
  flying = λ e. absurd (cc);
  fits = omega arith;
  cut = λ e some. absurd (omega (arith, some));
  stand = subst (λ (l : List (List Entry)). StandThere false by from now l bs) (sym (left_all ess)) (stand_all by from now ess bs all);
}

-- nothing was begun
abbrev pub no_reach : Reach
no_reach = record { whole = 0; part = 0; flies = false }

pub none_left : (by : MemberId) (from now : ℕ) (ess : List (List Entry)) → HasLeft by from now ess no_reach []
none_left by from now ess = record { within = omega arith; flying = λ e. absurd (cc); fits = omega arith; cut = λ e some. absurd (omega (arith, some)); stand = refl }

-- some entries of the first batch stand in the journal alone, not all where they are kept
pub part_left : (flies : Bool) (by : MemberId) (from now : ℕ) (es rest : List Entry) (ess : List (List Entry)) (b : Batch) → 1 ≤ length es → (flies ≡ false → 1 ≤ length rest) → IsLastBatch flies by es from now b
    → HasLeft by from now ((es ++ rest) ∷ ess) (record { whole = 0; part = length es; flies = flies }) (b ∷ [])
part_left flies by from now es rest ess b some more last = record {
  within = omega arith;
  flying = λ e. some;
  fits = let all = length-append es rest in omega (arith, all);
  cut = λ e one. let all = length-append es rest in let left = more e in omega (arith, all, left);
  stand = subst (λ (l : List (List Entry)). StandThere flies by from now l (b ∷ [])) (sym (part_front es rest some)) (refl, last);
}

-- what is left, with one kept batch more before the others
pub next_left : (flies : Bool) (by : MemberId) (from now : ℕ) (es : List Entry) (ess : List (List Entry)) (b : Batch) (bs : List Batch) → IsKeptBatch by es from now b → Lefts flies by b.last now ess bs → Lefts flies by from now (es ∷ ess) (b ∷ bs)
next_left flies by from now es ess b bs kept l = record {
  reach = record { whole = suc l.reach.whole; part = l.reach.part; flies = l.reach.flies };
  flag = l.flag;
  left = record {
    within = let within = l.left.within in omega (arith, within);
    flying = l.left.flying;
    fits = l.left.fits;
    cut = l.left.cut;
    stand = stand_next l.reach.flies by from now es (left_by l.reach ess) b bs kept l.left.stand;
  };
}

-- by the answer: its cause, and who was stopped
pub cause_by : (r : Result SittingEnd NodeNo) (by : ℕ) (x y : PairState) → StepCauses (bare r) by x y → Spares by (stopped_in (bare r)) x.view y.view → StepCauses r by x y × Spares by (stopped_in r) x.view y.view
cause_by (Ok e) by x y cause spares = (cause, spares)
cause_by (Err NoMemory) by x y cause spares = (cause, spares)
cause_by (Err _) by x y cause spares = (cause, spares)

-- BY THE ANSWER

-- what a sitting left, and by its answer
pub record LeftBy {T : Type 0} (by : MemberId) (from now : ℕ) (ess : List (List Entry)) (more : List Batch) (result : Result T NodeNo) : Type 0 where
  pub reach : Reach
  pub left : HasLeft by from now ess reach more
  pub reached : ReachesBy result ess reach

module _ (by : MemberId) (from now : ℕ) (ess : List (List Entry)) (more : List Batch) where
  pub by_all : {T : Type 0} (r : Result T NodeNo) → AreAll by from now ess more → LeftBy by from now ess more r
  by_all r all = record { reach = reach_all ess; left = all_left by from now ess more all; reached = reached r } where
    reached : {T : Type 0} (r : Result T NodeNo) → ReachesBy r ess (reach_all ess)
    reached (Err BothLost) = tt
    reached (Err Halted) = tt
    reached _ = refl

-- ONE BATCH

-- after the batches of the front come others, as far as a sitting of one batch came
pub record OneLeft {T : Type 0} (by : MemberId) (from now : ℕ) (all : List Entry) (front batches : List Batch) (result : Result T NodeNo) : Type 0 where
  pub more : List Batch
  pub are : batches ≡ front ++ more
  pub by_it : LeftBy by from now (all ∷ []) more result
  pub tight : IsTightBy result (all ∷ []) by_it.reach

-- so many entries of it
abbrev Far : ℕ → Bool → Reach
Far part flies = record { whole = 0; part = part; flies = flies }

-- nothing was begun
nothing : {T : Type 0} (by : MemberId) (from now : ℕ) (all : List Entry) (front batches : List Batch) (r : Result T NodeNo) → ReachesBy r (all ∷ []) no_reach → IsTightBy r (all ∷ []) no_reach → batches ≡ front → OneLeft by from now all front batches r
nothing by from now all front batches r reached tight none = record { more = []; are = none ∙ sym (append-nil front); by_it = record { reach = no_reach; left = none_left by from now (all ∷ []); reached = reached }; tight = tight }

module _ (by : MemberId) (from now : ℕ) (later : from ≤ now) (es rest : List Entry) (front batches : List Batch) where
  abbrev Cut : Batch
  Cut = begun from by es

  -- the first entries of a batch are in flight
  flying : {T : Type 0} (r : Result T NodeNo) → ReachesBy r ((es ++ rest) ∷ []) (Far (length es) true) → IsTightBy r ((es ++ rest) ∷ []) (Far (length es) true) → 1 ≤ length es → HasFlying front batches Cut → OneLeft by from now (es ++ rest) front batches r
  flying r reached tight some flies = record {
    more = Cut ∷ [];
    are = flies;
    by_it = record { reach = Far (length es) true; left = part_left true by from now es rest [] Cut some (λ e. absurd (cc)) (record { by_it = refl; entries = refl; flies = refl; moments = (omega arith, later, refl) }); reached = reached };
    tight = tight;
  }

  -- out of memory after the first entries of a batch, which are kept
  wanted : {T : Type 0} → 1 ≤ length es → 1 ≤ length rest → HasKept front batches Cut now → OneLeft {T = T} by from now (es ++ rest) front batches (Err NoMemory)
  wanted some more k = record {
    more = fated Kept k.0 Cut ∷ [];
    are = k.3;
    by_it = record { reach = Far (length es) false; left = part_left false by from now es rest [] (fated Kept k.0 Cut) some (λ e. more) (record { by_it = refl; entries = refl; kept = refl; moments = (omega arith, k.1, k.2) }); reached = refl };
    tight = omega arith;
  }

  -- a step that was out of memory in its first batch
  pub one_given_up : {T : Type 0} (e : NodeNo) → 1 ≤ length rest → GivesUpLeaves e front batches Cut now → OneLeft {T = T} by from now (es ++ rest) front batches (Err e)
  one_given_up NoMemory more leaves = ⊎_elim (λ none. nothing by from now (es ++ rest) front batches (Err NoMemory) refl (omega arith) none) (λ k. wanted k.0 more k.1) leaves
  one_given_up BothLost more leaves = flying (Err BothLost) tt (omega arith, λ part. refl) leaves.0 leaves.1
  one_given_up Halted more leaves = flying (Err Halted) tt (λ part. refl) leaves.0 leaves.1
  one_given_up ConsoleFault more leaves = absurd leaves

-- the whole batch
module _ (by : MemberId) (from now : ℕ) (later : from ≤ now) (es : List Entry) (some : 1 ≤ length es) (front batches : List Batch) where
  abbrev Whole : Batch
  Whole = begun from by es

  pub one_all : HasKept front batches Whole now → HasAll by from now (es ∷ []) front batches
  one_all k = (fated Kept k.0 Whole ∷ [], k.3, (record { by_it = refl; entries = refl; kept = refl; moments = (omega arith, k.1, k.2) }, tt))

  one_kept : {T : Type 0} (r : Result T NodeNo) → IsTightBy r (es ∷ []) (reach_all (es ∷ [])) → HasKept front batches Whole now → OneLeft by from now es front batches r
  unfolding by_all
  one_kept r tight k = let all = one_all k in record { more = all.0; are = all.1; by_it = by_all by from now (es ∷ []) all.0 r all.2; tight = tight }

  -- a batch with no entries left to come is in flight
  flown : {T : Type 0} (r : Result T NodeNo) → ReachesBy r ((es ++ []) ∷ []) (Far (length es) true) → IsTightBy r ((es ++ []) ∷ []) (Far (length es) true) → HasFlying front batches Whole → OneLeft by from now es front batches r
  flown r reached tight flies = subst (λ (l : List Entry). OneLeft by from now l front batches r) (append-nil es) (flying by from now later es [] front batches r reached tight some flies)

  pub one_step : (r : Result SittingEnd NodeNo) → StepLeaves (bare r) front batches Whole now → OneLeft by from now es front batches r
  one_step (Ok end) k = one_kept (Ok end) tt k
  one_step (Err NoMemory) none = nothing by from now es front batches (Err NoMemory) refl (omega arith) none
  one_step (Err ConsoleFault) k = one_kept (Err ConsoleFault) tt k
  one_step (Err BothLost) flies = flown (Err BothLost) tt (omega arith, λ part. refl) flies
  one_step (Err Halted) leaves = ⊎_elim (λ flies. flown (Err Halted) tt (λ part. refl) flies) (λ k. one_kept (Err Halted) (λ part. absurd (omega (arith, part))) k) leaves

-- ON THE CONSOLE

-- what was said of a step's lines, by the answer of the sitting
pub said_by : (r : Result SittingEnd NodeNo) (A B : Type 0) (lines : List (List ℕ)) (was now : List Line) → (A → B) → HasSaid A lines was now (bare r) → HasSaid B lines was now r
said_by r A B lines was now to s = record { said = s.said; is = s.is; by_answer = by_answer r s.said s.by_answer; once_kept = ⊎_elim (λ none. inl none) (λ a. inr (to a)) s.once_kept } where
  by_answer : (r : Result SittingEnd NodeNo) (s : Said) → SaidBy (bare r) lines s → SaidBy r lines s
  by_answer (Ok e) s is = is
  by_answer (Err NoMemory) s is = is
  by_answer (Err _) s is = is
