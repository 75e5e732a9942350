-- What was kept between two turns of a member in a race: others gave it, and none of it resets a member that is up.
use Rattle.std.proofs.Common.{◌≡◌, ◌≢◌, ◌∙◌, ◌≤◌, ◌&&◌, if◌then◌else◌, ℕ, zero, suc, ◌+◌, Bool, true, false, List, [], ◌∷◌, ◌++◌, append-nil, length, take, drop, All, Option, Some, None, ap, refl, subst, sym, arith}
use Rattle.std.specs.Prelude.{IsSome}
use Rattle.std.proofs.Math.Logic.{∥∥₁_map}
use Rattle.std.proofs.lemmas.Bool.{false_from_ne_true as not_true, ne_eqb}
use Rattle.std.proofs.lemmas.List.{append_cancel_left, take-append-drop}
use Rattle.std.proofs.lemmas.List.Elements.{All-append, All-cons, All-head, All-nil, All-tail}
use mathlib.Core.Option.{some}
use lib.ListN.{get_elem?}
use Rattle.mas_types.specs.declared.ids.MemberId.{MemberId}
use Rattle.mas_types.specs.declared.journals.Batch.{Batch}
use Rattle.mas_types.specs.declared.journals.Entry.{Entry}
use Rattle.mas_types.specs.declared.journals.Fate.{Fate}
use Rattle.mas_types.specs.declared.journals.Fate.TheVariants.{Flying}
use Rattle.mas_types.specs.declared.queues.Queue.{Queue}
use Rattle.mas_types.specs.Ids.{is_somebody}
use Rattle.mas_types.specs.Journal.{is_kept}
use Rattle.mas_types.specs.Sound.{IsSound}
use Rattle.lock_cycle.specs.Books.{is_stopped}
use Rattle.spool_plant.specs.declared.plant.Plant.{Ghosts as PlantGhosts}
use Rattle.ckpt_copy.specs.declared.copying.Copying.{Ghosts as CopyGhosts}
use Rattle.ckpt_form.specs.declared.steady.Steady.{Ghosts as SteadyGhosts}
use Rattle.mas_complex.proofs.Batches.{with_last-append, without_last-append, kept_all_append, placed_all, run_append, past_kept}
use Rattle.mas_complex.specs.declared.complex.Complex.{Complex}
use Rattle.mas_complex.specs.Journals.{EndsInPlace, IsBegun, end_of, in_flight, kept_all, past_batches, with_last, without_last}
use Rattle.mas_complex.specs.Meaning.{run}
use Rattle.mas_complex.specs.Paper.{AreGivenIn}
use Rattle.mas_complex.specs.Parts.{parts_of}
use Rattle.paper_laws.proofs.Runs.{all_given_after}
use Rattle.queue_laws.specs.Laws.{resets}
use Rattle.queue_laws.specs.Runs.{IsGiven}
use Rattle.queue_laws.proofs.RunLaws.{runs_keep_sound}
use Rattle.gate_turns.specs.Actors.{ResetsStopped}
use Rattle.gate_turns.specs.Laws.{Passes}
use Rattle.gate_turns.specs.Seats.{shows_stopped}
use Rattle.mas_race.specs.Beginnings.{Began, IsFrom}
use Rattle.mas_race.specs.Between.{BetweenTurns}
use Rattle.member_sittings.specs.Sat.{journal_of}
use Rattle.member_sittings.specs.Whole.{queue_of}
use Rattle.member_resets.proofs.Flights.{ends_of, place_ends}
use Rattle.member_racing.proofs.OthersGave.{OthersGave}
use Rattle.member_racing.proofs.Resting.{all_back, all_front}

-- ENTRIES AT THEIR PLACES

place_at : (xs ys : List Entry) (k j : ℕ) (e : Entry) → j ≡ length xs + k → get_elem? ys k ≡ some e → get_elem? (xs ++ ys) j ≡ some e
place_at [] ys k j e same at = subst (λ (n : ℕ). get_elem? ys n ≡ some e) (let s : k ≡ j = omega (arith, same) in s) at
place_at (x ∷ xs) ys k zero e same at = absurd (omega (arith, same))
place_at (x ∷ xs) ys k (suc j) e same at = place_at xs ys k j e (omega (arith, same)) at

all_from : (P : Entry → Type 0) (es : List Entry) → ((k : ℕ) (e : Entry) → get_elem? es k ≡ some e → P e) → All P es
all_from P [] each = All-nil P
all_from P (e ∷ es) each = All-cons P e es (each 0 e refl) (all_from P es (λ k x at. each (suc k) x at))

all_three : (P Q R S : Entry → Type 0) (es : List Entry) → ((e : Entry) → P e → Q e → R e → S e) → All P es → All Q es → All R es → All S es
all_three P Q R S [] f p q r = All-nil S
all_three P Q R S (e ∷ es) f p q r =
    All-cons S e es (f e (All-head P e es p) (All-head Q e es q) (All-head R e es r)) (all_three P Q R S es f (All-tail P e es p) (All-tail Q e es q) (All-tail R e es r))

-- WHAT IS KEPT of batches

module _ (P : Entry → Type 0) where
  abbrev Each : Batch → Type 0
  Each b = All P b.entries

  of_kept : (kept : Bool) (es : List Entry) → All P es → All P (if kept then es else [])
  of_kept true es all = all
  of_kept false es all = All-nil P

  pub each_kept : (bs : List Batch) → All Each bs → All P (kept_all bs)
  each_kept [] all = All-nil P
  each_kept (b ∷ bs) all = All-append P (if is_kept b.fate then b.entries else []) (kept_all bs) (of_kept (is_kept b.fate) b.entries (All-head Each b bs all)) (each_kept bs (All-tail Each b bs all))

given_each : (base : Queue) (bs : List Batch) → AreGivenIn base bs → All (λ (b : Batch). All (IsGiven base) b.entries) bs
given_each base [] given = All-nil (λ (b : Batch). All (IsGiven base) b.entries)
given_each base (b ∷ bs) given = All-cons (λ (b : Batch). All (IsGiven base) b.entries) b bs given.0 (given_each base bs given.1)

-- THE JOURNAL with what is in flight in its place

module _ (b : Batch) (flies : b.fate ≡ Flying) (js : List Batch) (e : EndsInPlace js) where
  last_kept : kept_all (with_last b js) ≡ kept_all js
  last_kept =
      ap (λ (l : List Batch). kept_all (with_last b l)) e.is
      ∙ ap kept_all (with_last-append b e.before e.place) ∙ kept_all_append e.before (b ∷ [])
      ∙ ap (λ (f : Fate). kept_all e.before ++ ((if is_kept f then b.entries else []) ++ [])) flies ∙ append-nil (kept_all e.before)
      ∙ sym (placed_all e.place e.free e.before) ∙ ap kept_all (sym e.is)

  last_all : (R : Batch → Type 0) → All R js → R b → All R (with_last b js)
  last_all R all its =
      let front : All R e.before = all_front R e.before (e.place ∷ []) (subst (λ (l : List Batch). All R l) e.is all) in
      subst (λ (l : List Batch). All R l) (sym (ap (λ (l : List Batch). with_last b l) e.is ∙ with_last-append b e.before e.place)) (All-append R e.before (b ∷ []) front (All-cons R b [] its (All-nil R)))

module _ (js : List Batch) (e : EndsInPlace js) where
  without_kept : kept_all (without_last js) ≡ kept_all js
  without_kept =
      ap (λ (l : List Batch). kept_all (without_last l)) e.is ∙ ap kept_all (without_last-append e.before e.place) ∙ sym (placed_all e.place e.free e.before) ∙ ap kept_all (sym e.is)

  without_all : (R : Batch → Type 0) → All R js → All R (without_last js)
  without_all R all =
      subst (λ (l : List Batch). All R l) (sym (ap without_last e.is ∙ without_last-append e.before e.place)) (all_front R e.before (e.place ∷ []) (subst (λ (l : List Batch). All R l) e.is all))

module _ (js : List Batch) (placed : Bool) (ends : placed ≡ true → EndsInPlace js) where
  ended_kept : (o : Option Batch) → ((c : Batch) → o ≡ Some c → (placed ≡ true) × (c.fate ≡ Flying)) → kept_all (end_of placed o js) ≡ kept_all js
  ended_kept (Some c) flies = let f = flies c refl in last_kept c f.1 js (ends f.0)
  ended_kept None flies = by_placed placed refl where
    by_placed : (t : Bool) → placed ≡ t → kept_all (end_of t None js) ≡ kept_all js
    by_placed true is = without_kept js (ends is)
    by_placed false is = refl

  ended_all : (R : Batch → Type 0) (o : Option Batch) → ((c : Batch) → o ≡ Some c → (placed ≡ true) × (c.fate ≡ Flying)) → All R (js ++ in_flight o) → All R (end_of placed o js)
  ended_all R (Some c) flies all =
      let f = flies c refl in
      last_all c f.1 js (ends f.0) R (all_front R js (c ∷ []) all) (All-head R c [] (all_back R js (c ∷ []) all))
  ended_all R None flies all = by_placed placed refl where
    by_placed : (t : Bool) → placed ≡ t → All R (end_of t None js)
    by_placed true is = without_all js (ends is) R (all_front R js [] all)
    by_placed false is = all_front R js [] all

-- OF A VALUE BETWEEN TWO TURNS

module _ {P C : Type 0} {plants : PlantGhosts P} {steadies : SteadyGhosts C} {copies : CopyGhosts C} (y : Complex P C plants steadies copies) where
  pub its_ends : y.placed ≡ true → EndsInPlace y.journal.batches
  its_ends is = ends_of y.journal.batches (∥∥₁_map y.place (place_ends y.placed y.journal.batches is))

  pub its_flight : (c : Batch) → y.current ≡ Some c → (y.placed ≡ true) × (c.fate ≡ Flying)
  its_flight c is =
      (y.place_current (subst (λ (o : Option Batch). IsSome o) (sym is) refl), (subst (λ (o : Option Batch). IsBegun o (plants.view y.plant).now) is y.begun).0)

  pub journal_kept : kept_all (journal_of (parts_of y)) ≡ kept_all y.journal.batches
  journal_kept = ended_kept y.journal.batches y.placed its_ends y.current its_flight

  pub journal_all : (R : Batch → Type 0) → All R (y.journal.batches ++ in_flight y.current) → All R (journal_of (parts_of y))
  journal_all R all = ended_all y.journal.batches y.placed its_ends R y.current its_flight all

  -- each entry after so many batches is of a somebody, where these batches are
  abbrev IsBy : Entry → Type 0
  IsBy e = is_somebody e.by ≡ true

  abbrev Own : Batch → Type 0
  Own c = All (λ e. e.by ≡ c.by) c.entries

  its_by : (bs : List Batch) → All Own bs → All (λ (c : Batch). is_somebody c.by ≡ true) bs → All (λ (c : Batch). All IsBy c.entries) bs
  its_by [] own named = All-nil (λ (c : Batch). All IsBy c.entries)
  its_by (c ∷ bs) own by =
      All-cons (λ (c : Batch). All IsBy c.entries) c bs (named c.entries (All-head Own c bs own)) (its_by bs (All-tail Own c bs own) (All-tail (λ (c : Batch). is_somebody c.by ≡ true) c bs by))
    where
      here : is_somebody c.by ≡ true
      here = All-head (λ (c : Batch). is_somebody c.by ≡ true) c bs by

      named : (es : List Entry) → All (λ e. e.by ≡ c.by) es → All IsBy es
      named [] is = All-nil IsBy
      named (e ∷ es) is =
          All-cons IsBy e es (subst (λ (m : MemberId). is_somebody m ≡ true) (sym (All-head (λ (e : Entry). e.by ≡ c.by) e es is)) here) (named es (All-tail (λ (e : Entry). e.by ≡ c.by) e es is))

module _ {P C : Type 0} {plants : PlantGhosts P} {steadies : SteadyGhosts C} {copies : CopyGhosts C} (o : Began) (x y : Complex P C plants steadies copies) (from_x : IsFrom o x) (from_y : IsFrom o y) (rest : BetweenTurns y)
    (more : List Entry) (grown : kept_all y.journal.batches ≡ kept_all x.journal.batches ++ more) where
  abbrev jx : List Batch
  jx = journal_of (parts_of x)

  abbrev jy : List Batch
  jy = journal_of (parts_of y)

  abbrev n : ℕ
  n = length o.batches

  parted : (j : List Batch) → take n j ≡ o.batches → kept_all j ≡ kept_all o.batches ++ kept_all (drop n j)
  parted j first = ap kept_all (sym (take-append-drop n j)) ∙ kept_all_append (take n j) (drop n j) ∙ ap (λ (l : List Batch). kept_all l ++ kept_all (drop n j)) first

  append_three : (xs ys zs : List Entry) → (xs ++ ys) ++ zs ≡ xs ++ (ys ++ zs)
  append_three [] ys zs = refl
  append_three (e ∷ xs) ys zs = ap (λ (l : List Entry). e ∷ l) (append_three xs ys zs)

  later : kept_all (drop n jy) ≡ kept_all (drop n jx) ++ more
  later =
      append_cancel_left (kept_all o.batches) (kept_all (drop n jy)) (kept_all (drop n jx) ++ more)
      (sym (parted jy from_y.opening) ∙ journal_kept y ∙ grown ∙ ap (λ (l : List Entry). l ++ more) (sym (journal_kept x) ∙ parted jx from_x.opening) ∙ append_three (kept_all o.batches) (kept_all (drop n jx)) more)

  all_drop : {A : Type 0} (R : A → Type 0) (k : ℕ) (l : List A) → All R l → All R (drop k l)
  all_drop R zero l all = all
  all_drop R (suc k) [] all = All-nil R
  all_drop R (suc k) (a ∷ l) all = all_drop R k l (All-tail R a l all)

  -- what was kept since is of members
  pub of_members : All (λ (e : Entry). is_somebody e.by ≡ true) more
  of_members =
      all_back (IsBy y) (kept_all (drop n jx)) more
      (subst (λ (l : List Entry). All (IsBy y) l) later (each_kept (IsBy y) (drop n jy) (its_by y (drop n jy) (all_drop (Own y) n jy (journal_all y (Own y) rest.own)) from_y.members)))

  -- and resets only stopped members
  pub of_stopped : plants.tells → All (λ (e : Entry). is_somebody e.by ≡ true → ResetsStopped y.book e.command) more
  of_stopped t =
      let R : Entry → Type 0 = λ (e : Entry). is_somebody e.by ≡ true → ResetsStopped y.book e.command in
      all_back R (kept_all x.journal.batches) more
      (subst (λ (l : List Entry). All R l) grown (each_kept R y.journal.batches (all_front (λ (b : Batch). All R b.entries) y.journal.batches (in_flight y.current) (rest.resets t))))

  -- so others gave it
  module _ (m : MemberId) (somebody : is_somebody m ≡ true) (up : is_stopped y.book m ≡ false) (base : y.base ≡ x.base) (sound : IsSound x.base)
      (no_more : (k : ℕ) (e : Entry) → get_elem? (kept_all y.journal.batches) k ≡ some e → length (kept_all x.journal.batches) ≤ k → e.by.0 ≢ m.0) where
    passes : plants.tells → All (Passes m) more
    passes t =
        all_three (λ (e : Entry). e.by.0 ≢ m.0) (λ (e : Entry). is_somebody e.by ≡ true) (λ (e : Entry). is_somebody e.by ≡ true → ResetsStopped y.book e.command) (Passes m) more
        (λ e other by stopped. (
          ne_eqb m.0 e.by.0 (λ same. other (sym same)),
          not_true (resets m e.command) (λ t. let shown : shows_stopped y.book m ≡ true = stopped by m t in let bad : true ≡ false = sym shown ∙ (ap (λ (b : Bool). b && is_stopped y.book m) somebody ∙ up) in absurd (cc)),
        ))
        (all_from (λ (e : Entry). e.by.0 ≢ m.0) more
        (λ k e at. no_more (length (kept_all x.journal.batches) + k) e (ap (λ (es : List Entry). get_elem? es (length (kept_all x.journal.batches) + k)) grown ∙ place_at (kept_all x.journal.batches) more k (length (kept_all x.journal.batches) + k) e refl at) (omega arith)))
        of_members (of_stopped t)

    pub others_gave : plants.tells → ∥ OthersGave m (queue_of (parts_of x)) (queue_of (parts_of y)) ∥₁
    others_gave t =
        ∥∥₁_map (y.paper t (subst IsSound (sym base) sound))
        (λ k.
        let past : List Batch = past_batches y.placed y.journal.batches in
        let given : All (IsGiven x.base) (kept_all x.journal.batches ++ more) =
        subst (λ (es : List Entry). All (IsGiven x.base) es) grown
        (subst (λ (q : Queue). All (IsGiven q) (kept_all y.journal.batches)) base
        (subst (λ (es : List Entry). All (IsGiven y.base) es) (past_kept y.placed y.journal.batches y.place)
        (each_kept (IsGiven y.base) past
        (given_each y.base past k.given)))) in
        record {
          es = more;
          is = ap (λ (q : Queue). run q (kept_all y.journal.batches)) base ∙ ap (run x.base) grown ∙ run_append x.base (kept_all x.journal.batches) more;
          passes = passes t;
          given = all_given_after x.base (kept_all x.journal.batches) more (all_back (IsGiven x.base) (kept_all x.journal.batches) more given);
          sound = runs_keep_sound x.base (kept_all x.journal.batches) sound (all_front (IsGiven x.base) (kept_all x.journal.batches) more given);
        })
