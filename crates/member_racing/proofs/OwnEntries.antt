-- All that a member leaves in the journal is of its step. Where content is told none of it resets a member that isn't
-- stopped; and a batch is in flight to the end only where the member was halted or both copies were lost.
use Rattle.std.proofs.Common.{◌≡◌, ◌⊎◌, inl, inr, ⊎_elim, ◌∙◌, ℕ, Bool, true, false, List, [], ◌∷◌, drop, take, All, Option, Some, None, Result, Ok, Err, ap, refl, subst, sym}
use Rattle.std.proofs.lemmas.List.Elements.{All-append, All-cons, All-drop, All-head, All-nil, All-tail, All-take}
use Rattle.mas_types.specs.declared.ids.MemberId.{MemberId}
use Rattle.mas_types.specs.declared.journals.Batch.{Batch}
use Rattle.mas_types.specs.declared.journals.Entry.{Entry}
use Rattle.mas_types.specs.declared.journals.Fate.{Fate}
use Rattle.mas_types.specs.declared.journals.Fate.TheVariants.{Dropped, Flying, Kept}
use Rattle.lock_cycle.specs.Books.{Book}
use Rattle.gate_turns.specs.Actors.{ResetsStopped}
use Rattle.member_node.specs.declared.member.NodeNo.{NodeNo}
use Rattle.member_node.specs.declared.member.NodeNo.TheVariants as no_node
use Rattle.member_decks.specs.Steps.{AreOf}
use Rattle.member_sittings.specs.Left.{HasLeft, IsLastBatch, Reach, ReachesBy, StandThere, first_of, left_by as left_in, next_in}
use Rattle.member_resets.specs.Cuts.{AreBatched, IsBatched, IsCutBy, IsHaltBy}
use Rattle.run_turns.specs.Cuts.{left_by}
use Rattle.run_turns.proofs.Keeping.{batches_are}
use Rattle.run_turns.specs.Pieces.{Piece, Play}
use Rattle.run_turns.specs.Scenes.{Batched}
use Rattle.run_turns.specs.Sights.{Begun, Cut, Halt, Writing}
use Rattle.step_turns.specs.Batches.{batch_of}

-- WHEN A BATCH MAY FLY to the end

abbrev pub FliesAt : NodeNo → Type 0
FliesAt no_node.Halted = Unit {0}
FliesAt no_node.BothLost = Unit {0}
FliesAt no_node.NoMemory = ⊥
FliesAt no_node.ConsoleFault = ⊥

abbrev pub MayFly : {T : Type 0} → Result T NodeNo → Type 0
MayFly (Ok done) = ⊥
MayFly (Err e) = FliesAt e

fly_by : (e : NodeNo) (n : ℕ) (b : Begun) → IsHaltBy e (Writing n (Some b)) → b.fate ≡ Flying → FliesAt e
fly_by no_node.Halted n b halt is = tt
fly_by no_node.BothLost n b halt is = tt
fly_by no_node.NoMemory n b halt is = absurd (let kept = halt.1 in let bad : Kept ≡ Flying = sym kept ∙ is in cc)
fly_by no_node.ConsoleFault n b halt is = absurd halt

reach_fly : {T : Type 0} (r : Result T NodeNo) (ess : List (List Entry)) (reach : Reach) → ReachesBy r ess reach → reach.flies ≡ true → MayFly r
reach_fly (Ok done) ess reach is flies = absurd (let not : reach.flies ≡ false = ap (λ (q : Reach). q.flies) is in let bad : true ≡ false = sym flies ∙ not in cc)
reach_fly (Err no_node.ConsoleFault) ess reach is flies = absurd (let not : reach.flies ≡ false = ap (λ (q : Reach). q.flies) is in let bad : true ≡ false = sym flies ∙ not in cc)
reach_fly (Err no_node.NoMemory) ess reach is flies = absurd (let bad : true ≡ false = sym flies ∙ is in cc)
reach_fly (Err no_node.BothLost) ess reach is flies = tt
reach_fly (Err no_node.Halted) ess reach is flies = tt

-- it is kept, or in flight where that may be
abbrev pub HasFate : Type 0 → Fate → Type 0
HasFate fly f = (f ≡ Kept) ⊎ ((f ≡ Flying) × fly)

module _ (told : Type 0) (book : Book) (by : MemberId) (at : ℕ) where
  abbrev pub IsEntry : Entry → Type 0
  IsEntry e = (e.by ≡ by) × (e.step ≡ at) × (told → ResetsStopped book e.command)

  abbrev pub Of : List Entry → Type 0
  Of es = All IsEntry es

  abbrev pub IsOwnBatch : Type 0 → Batch → Type 0
  IsOwnBatch fly b = (b.by ≡ by) × Of b.entries × HasFate fly b.fate

  pub own_fly : (f g : Type 0) → (f → g) → (b : Batch) → IsOwnBatch f b → IsOwnBatch g b
  own_fly f g may b is = (is.0, is.1, ⊎_elim (λ kept. inl kept) (λ flies. inr (flies.0, may flies.1)) is.2)

  abbrev Its : Type 0 → Batched → Type 0
  Its fly b = Of b.entries × (b.fate ≡ Flying → fly)

  abbrev pub IsGivenPiece : Piece → Type 0
  IsGivenPiece p = All Of p.sitting.batches

  abbrev AreQuiet : List Entry → Type 0
  AreQuiet es = All (λ (e : Entry). ResetsStopped book e.command) es

  -- entries of the step, none of which resets a member that isn't stopped
  pub of_quiet : (ess : List (List Entry)) → All (AreOf by at) ess → (told → All AreQuiet ess) → All Of ess
  of_quiet ess of quiet = λ k d lt j e less. let one = of k d lt j e less in (one.0, one.1, λ t. quiet t k d lt j e less)

  -- PARTS of lists

  first_all : (ess : List (List Entry)) → All Of ess → Of (first_of ess)
  first_all [] all = All-nil IsEntry
  first_all (es ∷ ess) all = All-head Of es ess all

  -- WHAT A LINE LEAVES of its pieces

  may_fly : (r : Result (Unit {0}) NodeNo) (ps : List Piece) (cut : Option Cut) (k : Cut) → IsCutBy r ps cut → cut ≡ Some k → (n : ℕ) (b : Begun) → k.halt ≡ Writing n (Some b) → b.fate ≡ Flying → MayFly r
  may_fly (Ok done) ps cut k is same n b halt flies = absurd (cc)
  may_fly (Err e) ps None k is same n b halt flies = absurd is
  may_fly (Err e) ps (Some c) k is same n b halt flies =
      fly_by e n b (subst (λ (h : Halt). IsHaltBy e h) (ap (λ (d : Cut). d.halt) (let one : c ≡ k = cc in one) ∙ halt) is.halt) flies

  pub left_its : (r : Result (Unit {0}) NodeNo) (cut : Option Cut) (play : Play) (count : ℕ) → IsCutBy r play.pieces cut → All IsGivenPiece play.pieces → All (Its (MayFly r)) (left_by by cut play count).batches
  left_its r cut play count is own =
      batches_are by (Its (MayFly r)) Of (λ es of. (of, λ flies. absurd (cc))) cut
      (λ k same n b halt es of. (All-take IsEntry b.entries es of, may_fly r play.pieces cut k is same n b halt)) play count own

  -- IN THE JOURNAL

  module _ (fly : Type 0) where
    one_own : (x : Batched) (from now : ℕ) (b : Batch) (f : Fate) → x.fate ≡ f → IsBatched f by x from now b → Its fly x → IsOwnBatch fly b
    one_own x from now b Kept f is its = (is.by_it, subst Of (sym is.entries) its.0, inl is.kept)
    one_own x from now b Flying f is its = (is.by_it, subst Of (sym is.entries) its.0, inr (is.flies, its.1 f))
    one_own x from now b Dropped f is its = absurd is

    pub batched_of : (from now : ℕ) (xs : List Batched) (bs : List Batch) → AreBatched by from now xs bs → All (Its fly) xs → All (IsOwnBatch fly) bs
    batched_of from now [] [] is its = All-nil (IsOwnBatch fly)
    batched_of from now [] (b ∷ bs) is its = absurd is
    batched_of from now (x ∷ xs) [] is its = absurd is
    batched_of from now (x ∷ xs) (b ∷ bs) is its =
        All-cons (IsOwnBatch fly) b bs (one_own x from now b x.fate refl is.0 (All-head (Its fly) x xs its)) (batched_of b.last now xs bs is.1 (All-tail (Its fly) x xs its))

    -- and what a sitting leaves there

    last_own : (flies : Bool) (es : List Entry) (from now : ℕ) (b : Batch) → (flies ≡ true → fly) → IsLastBatch flies by es from now b → Of es → IsOwnBatch fly b
    last_own true es from now b may is of = (is.by_it, subst Of (sym is.entries) of, inr (is.flies, may refl))
    last_own false es from now b may is of = (is.by_it, subst Of (sym is.entries) of, inl is.kept)

    stand_of : (flies : Bool) (from now : ℕ) (ess : List (List Entry)) (more : List Batch) → (flies ≡ true → fly) → StandThere flies by from now ess more → All Of ess → All (IsOwnBatch fly) more
    stand_of flies from now [] [] may is of = All-nil (IsOwnBatch fly)
    stand_of flies from now [] (b ∷ bs) may is of = absurd is
    stand_of flies from now (es ∷ []) [] may is of = absurd is
    stand_of flies from now (es ∷ next ∷ ess) [] may is of = absurd is
    stand_of flies from now (es ∷ []) (b ∷ []) may is of = All-cons (IsOwnBatch fly) b [] (last_own flies es from now b may is.1 (All-head Of es [] of)) (All-nil (IsOwnBatch fly))
    stand_of flies from now (es ∷ []) (b ∷ c ∷ bs) may is of = absurd (let none = is.0 in cc)
    stand_of flies from now (es ∷ next ∷ ess) (b ∷ bs) may is of =
        All-cons (IsOwnBatch fly) b bs (is.0.by_it, subst Of (sym is.0.entries) (All-head Of es (next ∷ ess) of), inl is.0.kept) (stand_of flies b.last now (next ∷ ess) bs may is.1 (All-tail Of es (next ∷ ess) of))

  batch_its : (es : List Entry) → Of es → All Of (batch_of es)
  batch_its [] of = All-nil Of
  batch_its (e ∷ es) of = All-cons Of (e ∷ es) [] of (All-nil Of)

  pub left_of : {T : Type 0} (r : Result T NodeNo) (from now : ℕ) (ess : List (List Entry)) (reach : Reach) (more : List Batch) → ReachesBy r ess reach → HasLeft by from now ess reach more → All Of ess → All (IsOwnBatch (MayFly r)) more
  left_of r from now ess reach more reached left of =
      stand_of (MayFly r) reach.flies from now (left_in reach ess) more (reach_fly r ess reach reached) left.stand
      (All-append Of (take reach.whole ess) (batch_of (take reach.part (next_in reach ess))) (All-take Of reach.whole ess of)
      (batch_its (take reach.part (next_in reach ess)) (All-take IsEntry reach.part (next_in reach ess) (first_all (drop reach.whole ess) (All-drop Of reach.whole ess of)))))
