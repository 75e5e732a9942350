-- A member at the shared value, within a sitting and after it.
use Rattle.member_sittings.proofs.Names.{HasSaid, State, Told, Holder, IsToKeep, may_alike, some_of_one, reply_to, ◌≡◌, ℕ, ◌+◌, ◌*◌, ◌^◌, ◌≤◌, ◌<◌, Result, IfOk, true, false, List, [], ◌∷◌, length, All, None, ◌++◌, Ok, refl, sym, ◌∙◌, ap, subst, arith, All-weaker, All-append, All-cons, ∥∥₁_map, MemberId, Command, Reply, Batch, Entry, Config, Queue, IsFit, IsJobFields, may_give, JobFields, View, PlantGhosts, Tables, TellSound, Tell, AreRoomy, AreSettled, begun, kept_all, Parts, HasTexts, lost_now, spools_at, Member, NodeNo, console_now, AreLow, orders_after, too_high, HasKept, run_append, IsBetween, entry_with, had_as, at_lock, calm_rest, low_written, one_batch, told_sound, untold_later, begins_alone, between_done, can_draw, if_ok, kept_from_out, settled_later, settled_out, AreOf, one_of, still_roomy, given_in, opening, Gives, LeaveOut, asked, tells_some, opening_unmarked, part_begins, part_of, SittingEnd, IsSatOn, journal_of, Commanded, Half, HasStepKept, HasTextsAfter, HasUntold, IsAtRest, IsBounded, IsGiving, IsRoomy, IsSeat, IsSitting, IsStepUntold, IsStill, MayKeep, first_half, queue_of, second_half, HasTextsOf, IsToCut}
use Rattle.std.specs.Prelude.{drop}
use Rattle.std.proofs.lemmas.List.{drop_at}
use Rattle.std.proofs.lemmas.List.Elements.{All-drop}
use Rattle.mas_types.specs.declared.ids.Page.{Page}
use Rattle.member_steps.proofs.SayLemmas.{none_said}
use Rattle.member_sittings.specs.Ends.{IsQuiet}
use Rattle.member_sittings.specs.Whole.{HoldsLock, IsLeftIn, IsToSit}
use Rattle.member_steps.specs.Steps.{IsToldSound}
use Rattle.paper_laws.specs.Counts.{is_mark}
use Rattle.spool_plant.specs.Acts.{Goes}
use Rattle.ckpt_copy.specs.declared.copying.Copying.{Ghosts as CopyGhosts}
use Rattle.ckpt_tables.specs.Shape.{page_count}
use Rattle.mas_complex.specs.Crash.{IsUntold, setting}
use Rattle.mas_complex.specs.Paper.{MayBegin}
use Rattle.member_node.specs.Batches.{HasDone}
use Rattle.member_node.specs.Drawn.{AreDrawn}
use Rattle.member_node.proofs.EntryLemmas.{nothing_done}
use Rattle.member_node.specs.Wanted.{HasHad}
use Rattle.member_sittings.specs.Gates.{HasTakenSeat, IsAtGate, IsOpen}
use Rattle.member_sittings.specs.Sat.{seated_in}

module _ {P C : Type 0} (plants : PlantGhosts P) (copies : CopyGhosts C) where
  abbrev view_of : Parts P C → View
  view_of x = plants.view x.plant

  -- AFTER COMMANDS

  module _ (x : Parts P C) (m n : Member) (did : Commanded m n) where
    pub still_commanded : IsStill plants copies x m → IsStill plants copies x n
    still_commanded s =
        let holds : HoldsLock x.book x.base.config n.id = rw did.id s.holds in
        let many : length n.room ≡ length n.checkpoint.pages = ap length did.room ∙ s.many ∙ sym (ap length did.pages) in
        let config : x.base.config ≡ n.checkpoint.tables.config = s.config ∙ sym did.config in
        let first = subst (λ (ps : List Page). IsAtRest plants.tells (first_half plants copies x) ps) (sym did.pages) s.first in
        let second = subst (λ (ps : List Page). IsAtRest plants.tells (second_half plants copies x) ps) (sym did.pages) s.second in
        let noted = had_as plants.tells x.had x.had m n refl did.id did.fresh did.pages s.noted in
        assumption (s, did, holds, many, config, first, second, noted)

    orders : (a b k : ℕ) → a ≤ orders_after k → b ≤ a + 320064 → b ≤ orders_after (k + 1)
    orders a b k le more = omega (arith, le, more)

    -- what a member may keep that gave commands in the sitting
    pub gives_commanded : (at : ℕ) → IsSitting plants copies x m at → AreOf m.id at n.batch → n.checkpoint.tables.order ≤ m.checkpoint.tables.order + 320064
        → (plants.tells → HasDone (queue_of x) n.batch n.checkpoint) → (plants.tells → TellSound n.checkpoint.tables) → HasTextsAfter plants copies x n.batch → (plants.tells → MayBegin x.base x.batches x.printed n.batch)
        → IsGiving plants copies x n at
    gives_commanded at s of order done sound texts allowed = record {
      still = still_commanded s.seat.still;
      of = subst (λ (i : MemberId). AreOf i at n.batch) (sym did.id) of;
      draws = can_draw m.checkpoint n.checkpoint s.seat.between.drawn did.pages did.level did.levels did.config did.spelling;
      fit = did.fit;
      same_level = λ t. s.seat.between.same_level t ∙ sym did.level;
      done = done;
      sound = sound;
      low = λ t. orders m.checkpoint.tables.order n.checkpoint.tables.order (length x.batches) (s.seat.low t).order order;
      texts = texts;
      allowed = allowed;
      untold = λ t. subst (λ (i : MemberId). IsStepUntold copies.reads (view_of x) x.base x.since i at) (sym did.id) (s.untold t);
      step = subst (λ (i : MemberId). HasStepKept plants copies x i at) (sym did.id) s.step;
    }

  -- the tables tell the queue, with nothing done
  pub seat_done : (x : Parts P C) (m : Member) → IsSeat plants copies x m → plants.tells → HasDone (queue_of x) [] m.checkpoint
  seat_done x m s t = let b = s.between in nothing_done (queue_of x) m.checkpoint b.drawn b.fit (b.orders t) (b.queue t)

  -- AFTER A BATCH

  -- what a call leaves that kept the member's batch
  pub record Kept (x y : Parts P C) (m n : Member) : Type 0 where
    pub book : y.book ≡ x.book
    pub base : y.base ≡ x.base
    pub since : y.since ≡ x.since
    pub id : n.id ≡ m.id
    pub room : n.room ≡ m.room
    pub here : n.behind ≡ false
    pub tables : n.checkpoint.tables ≡ m.checkpoint.tables
    pub unreserved : y.reserved ≡ None
    pub between : IsBetween plants.tells y n.batch n.checkpoint
    pub first : IsAtRest plants.tells (first_half plants copies y) n.checkpoint.pages
    pub second : IsAtRest plants.tells (second_half plants copies y) n.checkpoint.pages
    pub noted : HasHad plants.tells n.fresh y.had n.id.0 n.checkpoint.pages
    pub goes : Goes (view_of x) (view_of y)
    pub leaves : HasKept x.batches (journal_of y) (begun (view_of x).now m.id m.batch) (view_of y).now

  module _ (x y : Parts P C) (m n : Member) (k : Kept x y m n) where
    same_config : y.base.config ≡ x.base.config
    same_config = ap (λ (Q : Queue). Q.config) k.base

    pub still_kept : (at : ℕ) → IsGiving plants copies x m at → IsStill plants copies y n
    still_kept at g =
        let holds : HoldsLock y.book y.base.config n.id = rw (k.book, same_config, k.id) g.still.holds in
        let many : length n.room ≡ length n.checkpoint.pages = ap length k.room ∙ g.still.many ∙ g.draws.as_many ∙ sym (k.between.drawn.spelled.count ∙ ap (λ (t : Tables). page_count t.config) k.tables) in
        let config : y.base.config ≡ n.checkpoint.tables.config = same_config ∙ g.still.config ∙ sym (ap (λ (t : Tables). t.config) k.tables) in
        let kept = settled_out x.batches y.batches y.placed y.current (begun (view_of x).now m.id m.batch) (view_of x).now (view_of y).now k.goes.later k.between.unplaced k.between.none k.leaves g.still.kept in
        let begun : y.since ≤ (view_of y).now = let later = k.goes.later in let begun = g.still.begun in subst (λ (s : ℕ). s ≤ (view_of y).now) (sym k.since) (omega (arith, begun, later)) in
        let roomy : plants.tells → AreRoomy (view_of y) y.base.config = λ t. subst (AreRoomy (view_of y)) (sym same_config) (still_roomy x.base.config (view_of x) (view_of y) k.goes (g.still.roomy t)) in
        assumption (k, holds, many, config, kept, begun, roomy)

    low_kept : (at : ℕ) → IsGiving plants copies x m at → plants.tells → AreLow y.base.config (length y.batches) n.checkpoint.tables
    low_kept at g t = record {
      same = sym (same_config ∙ g.still.config ∙ sym (ap (λ (u : Tables). u.config) k.tables));
      fit = k.between.fit;
      order = rw (one_batch x.batches y.batches y.placed y.current (begun (view_of x).now m.id m.batch) (view_of y).now k.between.unplaced k.between.none k.leaves, k.tables) (g.low t);
    }

    pub seat_kept : (at : ℕ) → IsGiving plants copies x m at → IsSeat plants copies y n
    seat_kept at g = record { still = still_kept at g; between = k.between; low = low_kept at g }

    -- where nothing was said the step is still untold
    pub untold_kept : (at : ℕ) → IsGiving plants copies x m at → (plants.tells → console_now (view_of y) ≡ console_now (view_of x)) → HasUntold plants copies y n.id at
    untold_kept at g quiet t es of =
        let of_m : AreOf m.id at es = subst (λ (i : MemberId). AreOf i at es) k.id of in
        let later = untold_later copies.reads x.base x.since (view_of x) (view_of y) es g.still.begun k.goes (quiet t) (g.untold t es of_m) in
        subst (λ (Q : Queue). IsUntold (setting copies.reads Q y.since) (view_of y) es) (sym k.base) (subst (λ (s : ℕ). IsUntold (setting copies.reads x.base s) (view_of y) es) (sym k.since) later)

    pub step_kept : (at : ℕ) → IsGiving plants copies x m at → HasStepKept plants copies y n.id at
    step_kept at g = subst (λ (i : MemberId). HasStepKept plants copies y i at) (sym k.id)
        (kept_from_out m.id at x.batches y.batches y.placed y.current (begun (view_of x).now m.id m.batch) (view_of x).now (view_of y).now k.goes.later k.between.unplaced k.between.none k.leaves g.step)

    pub sits_kept : (at : ℕ) → IsGiving plants copies x m at → (plants.tells → console_now (view_of y) ≡ console_now (view_of x)) → IsSitting plants copies y n at
    sits_kept at g quiet = record { seat = seat_kept at g; untold = untold_kept at g quiet; step = step_kept at g }

    -- as the sitting left its step, after these lines
    pub left_kept : (A : Type 0) (r : Result (Unit {0}) NodeNo) (at : ℕ) → IsGiving plants copies x m at → (next : State) (lines : List (List ℕ)) → IsQuiet next lines → (plants.tells → HasSaid A lines (console_now (view_of x)) (console_now (view_of y)) r) → IsLeftIn plants copies next y n at
    left_kept A r at g Told lines quiet said = seat_kept at g
    left_kept A r at g _ lines quiet said = sits_kept at g (λ t. none_said A (console_now (view_of x)) (console_now (view_of y)) r (subst (λ (ls : List (List ℕ)). HasSaid A ls (console_now (view_of x)) (console_now (view_of y)) r) quiet (said t)))

-- the batch is the member's
pub own_batch : (m : MemberId) (at : ℕ) (es : List Entry) → AreOf m at es → All (λ (e : Entry). e.by ≡ m) es
own_batch m at es of = All-weaker (λ (e : Entry). (e.by ≡ m) × (e.step ≡ at)) (λ (e : Entry). e.by ≡ m) (λ e it. it.0) es of

-- AT THE GATE

module _ {P C : Type 0} (plants : PlantGhosts P) (copies : CopyGhosts C) where
  -- a member that sits may take its seat again, as after acts that it waited for
  pub gate_again : (x : Parts P C) (m : Member) → IsSeat plants copies x m → x.level < too_high → IsAtGate plants copies x m
  gate_again x m s level =
      let b = s.between in
      let t = s.still in
      let config = m.checkpoint.tables.config in
      let low : plants.tells → AreLow config (length x.batches) m.checkpoint.tables = λ told. subst (λ (k : Config). AreLow k (length x.batches) m.checkpoint.tables) t.config (s.low told) in
      let lock = at_lock plants.tells x m.batch m.checkpoint m.room b t.many in
      let first = open_of (first_half plants copies x) config (length x.batches) m low b.drawn t.many t.first in
      let second = open_of (second_half plants copies x) config (length x.batches) m low b.drawn t.many t.second in
      let sound : plants.tells → IsToldSound (queue_of x) = λ told. told_sound m.checkpoint.tables (queue_of x) (b.sound told) (b.queue told) in
      assumption (t, lock, first, second, sound, level)
    where
      open_of : (h : Half) (config : Config) (batches : ℕ) (m : Member) → (plants.tells → AreLow config batches m.checkpoint.tables) → AreDrawn m.checkpoint.tables m.checkpoint.level m.checkpoint.levels m.checkpoint.pages
          → length m.room ≡ length m.checkpoint.pages → IsAtRest plants.tells h m.checkpoint.pages → IsOpen plants.tells h config batches (length m.room)
      open_of h config batches m low drawn many rests = record {
        calm = calm_rest plants.tells h.alive h.place h.count m.checkpoint.pages h.read (length m.room) many rests;
        low = low_written plants.tells h.alive h.place h.count config batches m.checkpoint h.read drawn low rests;
      }

  -- a member that takes its seat changes none of these
  pub seat_frame : (x y : Parts P C) → y.book ≡ x.book → y.base ≡ x.base → y.since ≡ x.since → y.batches ≡ x.batches → y.current ≡ x.current → y.reserved ≡ x.reserved → y.printed ≡ x.printed
      → y.placed ≡ x.placed → y.level ≡ x.level → y.renewals ≡ x.renewals → y ≡ seated_in y x
  seat_frame x y book base since batches current reserved printed placed level renewals =
      rw (sym book, sym base, sym since, sym batches, sym current, sym reserved, sym printed, sym placed, sym level, sym renewals) refl

  -- what reading in leaves
  pub record Taken (x y : Parts P C) (m n : Member) : Type 0 where
    pub frame : y ≡ seated_in y x
    pub id : n.id ≡ m.id
    pub here : n.behind ≡ false
    pub goes : Goes (plants.view x.plant) (plants.view y.plant)
    pub between : IsBetween plants.tells y n.batch n.checkpoint
    pub first : IsAtRest plants.tells (first_half plants copies y) n.checkpoint.pages
    pub second : IsAtRest plants.tells (second_half plants copies y) n.checkpoint.pages
    pub noted : HasHad plants.tells n.fresh y.had n.id.0 n.checkpoint.pages
    pub room1 : IsRoomy (first_half plants copies y)
    pub room2 : IsRoomy (second_half plants copies y)
    pub many : length n.room ≡ length n.checkpoint.pages
    pub config : n.checkpoint.tables.config ≡ m.checkpoint.tables.config
    pub order : n.checkpoint.tables.order < too_high
    pub low : plants.tells → AreLow m.checkpoint.tables.config (length x.batches) n.checkpoint.tables
    pub high : n.checkpoint.level < too_high

  module _ (x y : Parts P C) (m n : Member) (g : IsAtGate plants copies x m) (k : Taken x y m n) where
    base_config : y.base.config ≡ x.base.config
    base_config = ap (λ (p : Parts P C). p.base.config) k.frame

    batches : y.batches ≡ x.batches
    batches = ap (λ (p : Parts P C). p.batches) k.frame

    still_taken : IsStill plants copies y n
    still_taken =
        let holds : HoldsLock y.book y.base.config n.id = rw (ap (λ (p : Parts P C). p.book) k.frame, base_config, k.id) g.holds in
        let unreserved : y.reserved ≡ None = ap (λ (p : Parts P C). p.reserved) k.frame ∙ g.unreserved in
        let config : y.base.config ≡ n.checkpoint.tables.config = base_config ∙ g.config ∙ sym k.config in
        let kept = subst (λ (bs : List Batch). AreSettled bs (plants.view y.plant).now) (sym batches) (settled_later x.batches (plants.view x.plant).now (plants.view y.plant).now k.goes.later g.kept) in
        let begun : y.since ≤ (plants.view y.plant).now = let later = k.goes.later in let begun = g.begun in subst (λ (s : ℕ). s ≤ (plants.view y.plant).now) (sym (ap (λ (p : Parts P C). p.since) k.frame)) (omega (arith, begun, later)) in
        let roomy : plants.tells → AreRoomy (plants.view y.plant) y.base.config = λ t. subst (AreRoomy (plants.view y.plant)) (sym base_config) (still_roomy x.base.config (plants.view x.plant) (plants.view y.plant) k.goes (g.roomy t)) in
        assumption (k, holds, unreserved, config, kept, begun, roomy)

    pub taken_seat : HasTakenSeat plants copies y n
    taken_seat = record {
      seat = record {
        still = still_taken;
        between = k.between;
        low = λ t. rw (base_config ∙ g.config, batches) (k.low t);
      };
      bounds = record { order = k.order; high = k.high; reached = subst (λ (l : ℕ). l < too_high) (sym (ap (λ (p : Parts P C). p.level) k.frame)) g.level; first = k.room1; second = k.room2 };
    }

-- COMMANDS WERE GIVEN, and then kept

module _ {P C : Type 0} (plants : PlantGhosts P) (copies : CopyGhosts C) (x : Parts P C) (m n : Member) (level : n.checkpoint.level ≡ m.checkpoint.level) where
  -- a batch of them may be kept
  pub may_keep : IsBounded plants copies x m → MayKeep plants copies x n
  may_keep b = let high = b.high in let reached = b.reached in record { high = omega (arith, high, level); reached = omega (arith, reached); first = b.first; second = b.second }

  -- what its keeping leaves of where they began
  pub sat_on : (z : Parts P C) (l : Member) (at : ℕ) (r : Result SittingEnd NodeNo) → l.checkpoint.tables.order ≤ m.checkpoint.tables.order + 2 ^ 19 * 1 → IfOk r (IsSatOn plants copies x z n l at) → IfOk r (IsSatOn plants copies x z m l at)
  sat_on z l at r order again =
      if_ok _ (IsSatOn plants copies x z m l at) r (λ e on. record { sits = on.sits; grown = record { order = order; high = rw level at on.grown.high; reached = on.grown.reached } }) again

-- ONE COMMAND

module _ {P C : Type 0} (plants : PlantGhosts P) (copies : CopyGhosts C) (x : Parts P C) (m n : Member) (h : Holder) (c : Command) where
  abbrev One : Reply → List Entry
  One r = entry_with m.id h.step c r ∷ []

  abbrev Here : Reply
  Here = reply_to (queue_of x) m.id c

  -- the only command of a sitting was given on the member's tables
  pub record HasDoneOne : Type 0 where
    pub did : Commanded m n
    pub reply : Reply
    pub batch : n.batch ≡ One reply
    pub told : plants.tells → n.batch ≡ One Here
    pub order : n.checkpoint.tables.order ≤ m.checkpoint.tables.order + 32
    pub done : (Q : Queue) → HasDone Q m.batch m.checkpoint → HasDone Q n.batch n.checkpoint
    pub sound : plants.tells → (s : TellSound m.checkpoint.tables) → may_give s.queue m.id c ≡ true → TellSound n.checkpoint.tables

  -- it is one that may be kept alone: the texts stand after it
  pub record MayDoOne : Type 0 where
    pub may : may_give x.base m.id c ≡ true
    pub fit : IsFit c
    pub unmarked : is_mark c ≡ false
    pub texts : HasTextsAfter plants copies x (One Here)

  pub keeps_one : IsToSit plants copies x m h → HasDoneOne → MayDoOne → IsToKeep plants copies x n h
  keeps_one s d may =
      let b = s.sits.seat.between in
      record {
        gives = gives_commanded plants copies x m n d.did h.step s.sits (one_of n.batch (entry_with m.id h.step c d.reply) m.id h.step d.batch refl refl) (let order = d.order in omega (arith, order))
            (λ t. d.done (queue_of x) (between_done plants.tells x m.batch m.checkpoint b t))
            (λ t. d.sound t (b.sound t) (may_alike m.checkpoint.tables x.base (kept_all x.batches) (b.sound t) (b.queue t) m.id c may.may))
            (λ t. subst (HasTextsAfter plants copies x) (sym (d.told t)) may.texts t)
            (λ t. begins_alone x.base x.batches x.printed m.id h.step c d.reply n.batch d.batch may.may may.fit may.unmarked);
        some = some_of_one n.batch (entry_with m.id h.step c d.reply) d.batch;
        bounds = may_keep plants copies x m n d.did.level s.bounds;
        holder = s.holder ∙ sym d.did.id;
      }

-- WHAT COMES AFTER THE FIRST ENTRIES OF A LIST

abbrev pub strip : List Entry → List Entry → List Entry
strip xs l = drop (length xs) l

-- these entries, or this one where there are none
abbrev pub or_one : Entry → List Entry → List Entry
or_one e [] = e ∷ []
or_one e (x ∷ l) = x ∷ l

pub one_some : (e : Entry) (l : List Entry) → 1 ≤ length (or_one e l)
one_some e [] = omega arith
one_some e (x ∷ l) = omega arith

one_same : (e : Entry) (l : List Entry) → 1 ≤ length l → or_one e l ≡ l
one_same e [] some = absurd (omega (arith, some))
one_same e (x ∷ l) some = refl

one_all : (P : Entry → Type 0) (e : Entry) (l : List Entry) → P e → All P l → All P (or_one e l)
one_all P e [] one all = All-cons P e [] one all
one_all P e (x ∷ l) one all = all

-- the first entries of a list, and what comes after them, are the whole list
pub front_is : (es all : List Entry) (e : Entry) → LeaveOut es all → es ++ or_one e (strip es all) ≡ all
front_is es all e part =
    let rest = ap (strip es) part.1 ∙ drop_at es part.0 (length es) refl in
    ap (λ (l : List Entry). es ++ or_one e l) rest ∙ ap (λ (l : List Entry). es ++ l) (one_same e part.0 part.2) ∙ sym part.1

pub of_strip : (by : MemberId) (at : ℕ) (es all : List Entry) (e : Entry) → (e.by ≡ by) × (e.step ≡ at) → AreOf by at es → AreOf by at all → AreOf by at (es ++ or_one e (strip es all))
of_strip by at es all e its here there =
    let P = λ (e : Entry). (e.by ≡ by) × (e.step ≡ at) in
    All-append P es (or_one e (strip es all)) here (one_all P e (strip es all) its (All-drop P (length es) all there))

-- WHAT WAS GIVEN

abbrev pub Opens : {T E : Type 0} → ℕ → JobFields → ℕ → Member → Member → Result T E → Type 0
Opens at fields groups m n r = (Q : Queue) → Tell m.checkpoint.tables Q → Gives (asked Q m.id at (opening Q m.id fields groups)) (λ disks per. TellSound m.checkpoint.tables) n.checkpoint.tables n.batch r

pub opened_of : {T E : Type 0} (at : ℕ) (fields : JobFields) (groups : ℕ) (m n : Member) (r : Result T E) → Opens at fields groups m n r → AreOf m.id at n.batch
opened_of at fields groups m n r opens = let sh = tells_some m.checkpoint.tables in part_of m.id r sh.0 at (opening sh.0 m.id fields groups) n.batch (opens sh.0 sh.1).part

module _ {P C : Type 0} (plants : PlantGhosts P) (copies : CopyGhosts C) where
  opened_texts : {T E : Type 0} (x : Parts P C) (at : ℕ) (fields : JobFields) (groups : ℕ) (m n : Member) (r : Result T E) → IsSitting plants copies x m at → Opens at fields groups m n r
      → HasTextsOf plants copies x (queue_of x) → HasTextsAfter plants copies x n.batch
  opened_texts x at fields groups m n r s opens here t =
      let v = plants.view x.plant in
      ∥∥₁_map (here t) (λ has.
      subst (HasTexts (lost_now v) (spools_at v v.now) x.base.config.groups) (sym (run_append x.base (kept_all x.batches) n.batch))
      ((opens (queue_of x) (s.seat.between.queue t)).texts (lost_now v) (spools_at v v.now) x.base.config.groups (s.seat.between.sound t) has))

  -- what came of it may be kept, if anything
  pub cuts_opened : {T E : Type 0} (x : Parts P C) (m n : Member) (h : Holder) (fields : JobFields) (groups : ℕ) (r : Result T E) → IsToSit plants copies x m h → Commanded m n → IsJobFields fields → groups ≤ 10000 → Opens h.step fields groups m n r
      → n.checkpoint.tables.order ≤ m.checkpoint.tables.order + 32 * (groups + 2) → ((Q : Queue) → HasDone Q [] m.checkpoint → HasDone Q n.batch n.checkpoint) → (TellSound m.checkpoint.tables → TellSound n.checkpoint.tables)
      → HasTextsOf plants copies x (queue_of x) → IsToCut plants copies x n h
  cuts_opened x m n h fields groups r s did fit few opens order done sound here =
      let sh = tells_some m.checkpoint.tables in
      let seat = s.sits.seat in
      record {
        gives = gives_commanded plants copies x m n did h.step s.sits (opened_of h.step fields groups m n r opens) (omega (arith, order, few)) (λ t. done (queue_of x) (seat_done plants copies x m seat t)) (λ t. sound (seat.between.sound t)) (opened_texts x h.step fields groups m n r s.sits opens here)
            (λ t. part_begins m.id r sh.0 h.step (opening sh.0 m.id fields groups) n.batch (opens sh.0 sh.1).part x.base x.batches x.printed (opening_unmarked x.base m.id seat.still.holds.member sh.0 fields groups fit));
        bounds = may_keep plants copies x m n did.level s.bounds;
        holder = s.holder ∙ sym did.id;
      }

  -- which is something, unless memory was out
  pub keeps_opened : {T E : Type 0} (x : Parts P C) (m n : Member) (h : Holder) (fields : JobFields) (groups : ℕ) (o : T) → Opens {E = E} h.step fields groups m n (Ok o) → IsToCut plants copies x n h → IsToKeep plants copies x n h
  keeps_opened x m n h fields groups o opens cut =
      let sh = tells_some m.checkpoint.tables in
      record { gives = cut.gives; some = rw (opens sh.0 sh.1).part (omega arith); bounds = cut.bounds; holder = cut.holder }
