-- How a turn leaves what goes on, before it was ended: as it was, with nothing going on, or with its member holding
-- the lock after an error.
use Rattle.std.proofs.Common.{◌≡◌, ◌==◌, ◌∙◌, ◌⊎◌, inl, inr, ⊎_elim, ◌<◌, ◌≤◌, ℕ, true, false, if◌then◌else◌, is_some, List, [], ◌∷◌, drop, length, take, Option, Some, None, Result, Ok, Err, ap, refl, subst, sym, arith}
use Rattle.std.proofs.lemmas.Bool.Decides.{nat_tests}
use Rattle.mas_types.specs.declared.answers.Closing.{Closing}
use Rattle.mas_types.specs.declared.ids.Dev.TheVariants.{Ckpt1, Ckpt2}
use Rattle.mas_types.specs.declared.ids.MemberId.{MemberId}
use Rattle.mas_types.specs.declared.journals.Entry.{Entry}
use Rattle.mas_types.specs.declared.queues.Queue.{Queue}
use Rattle.mas_types.specs.Ids.{is_somebody}
use Rattle.mas_types.specs.Limits.{members_most}
use Rattle.lock_cycle.specs.Books.{Book, IsMember, after_seize, after_try, granted, is_holder, is_stopped, seize_refusal, try_refusal}
use Rattle.script_lang.specs.declared.types.Ask.{Ask}
use Rattle.spool_plant.specs.View.{View, disk_now}
use Rattle.spool_plant.specs.declared.plant.Plant.{Ghosts as PlantGhosts}
use Rattle.ckpt_copy.specs.declared.copying.Copying.{Ghosts as CopyGhosts}
use Rattle.ckpt_form.specs.declared.steady.Steady.{Ghosts as SteadyGhosts}
use Rattle.ckpt_tables.specs.Shape.{page_count}
use Rattle.mas_complex.specs.Locking.{reserved_after_stop}
use Rattle.mas_complex.specs.Paper.{counts_of}
use Rattle.mas_complex.specs.declared.complex.Complex.{Complex}
use Rattle.mas_complex.specs.Parts.{Parts, parts_of}
use Rattle.mas_race.specs.Between.{BetweenTurns, is_held}
use Rattle.race_turns.specs.Turns.{left_holder}
use Rattle.run_turns.specs.Admissions.{Admission, Denied, Frees, Locks, Plays, Refused, Replaces, Resets, TakesOver, Unplayed, admitted}
use Rattle.run_turns.specs.Cuts.{adds_all, adds_first, left_by, none_left, stopped_by}
use Rattle.run_turns.specs.Pieces.{Piece, entered}
use Rattle.run_turns.specs.Scenes.{Scene, scene_of}
use Rattle.run_turns.specs.Sights.{Cause, Cut, Ends, Halt, Saying, Stops, Waiting, Writing}
use Rattle.step_turns.specs.declared.states.Found.{Found}
use Rattle.step_turns.specs.declared.states.Holder.{Holder}
use Rattle.member_node.specs.declared.member.Member.{Member}
use Rattle.member_node.specs.declared.member.NodeNo.{NodeNo}
use Rattle.member_node.specs.declared.member.NodeNo.TheVariants as no_node
use Rattle.member_work.proofs.PrintedLemmas.{beside_none}
use Rattle.member_work.specs.Printing.{IsBeside}
use Rattle.member_asides.specs.Asides.{HasOnlyPrinted}
use Rattle.member_sittings.specs.Sat.{Start}
use Rattle.member_sittings.specs.Whole.{IsSeat, queue_of}
use Rattle.member_resets.specs.Cuts.{IsAsideHalt, IsBetweenSittings, IsCutBy}
use Rattle.member_resets.specs.Locks.{MayHold}
use Rattle.member_resets.specs.Plays.{play_in}
use Rattle.member_resets.specs.Quiet.{IsAside, IsQuiet}
use Rattle.member_resets.specs.Stand.{Stand}
use Rattle.member_resets.proofs.Acting.{acts_beside, aside_then, asided, changed_only, only_these, unreserved_by}
use Rattle.member_resets.proofs.Going.{seat_of}
use Rattle.member_resets.proofs.Locking.{acts_entered}
use Rattle.member_resets.proofs.Turning.{IsLocked}
use Rattle.member_lines.specs.Closes.{HasClosed, stopped_so}
use Rattle.member_resets.specs.Resetting.{HasResetBy, TakesAndResets, TakesBy as ClosesTaken, untaken_book}
use Rattle.member_resets.specs.Settling.{reset_piece}
use Rattle.member_resets.proofs.ResetCutLemmas.{entered_same}
use Rattle.member_racing.specs.Asked.{IsKnown}
use Rattle.member_racing.specs.Kinds.{ActsBy, HasSeat, SitsBy, SitsOut, TakesBy}
use Rattle.member_racing.specs.Opened.{ClosesRefused, GoesAs, OpensAs, TakesUp, UnlessLeft, WaitsOn, done_of}
use Rattle.member_racing.specs.Turning.{raced_at}
use Rattle.member_racing.specs.Waits.{Waits, WaitsAt}
use Rattle.member_racing.specs.Stages.{Raced, stood_of}
use Rattle.member_racing.specs.declared.stages.Stage.{Stage as Stands}
use Rattle.member_racing.specs.declared.stages.Stage.TheVariants as line
use Rattle.member_racing.proofs.Books.{OnlyBy, only_none, seized_only, tried_only}
use Rattle.member_racing.proofs.BooksStill.{seized_same, tried_same}
use Rattle.member_racing.proofs.BooksTurn.{inside_only}
use Rattle.member_racing.proofs.Members.{few_of, inside_of, some_of, somebody_of}
use Rattle.member_racing.proofs.OpeningLemmas.{denied_holder, free_now, got_may, hold_free, not_holder}
use Rattle.member_racing.proofs.TakingLemmas.{room_seat}
use Rattle.member_racing.proofs.Turns.{left_is}

abbrev Done : Type 0
Done = Result (Unit {0}) NodeNo

-- only what is reserved may be given up
kept_none : (by : MemberId) (o : Option (List Entry)) → o ≡ None → reserved_after_stop by o ≡ None
kept_none by o is = ap (reserved_after_stop by) is

-- who takes the lock over of a stopped member that holds it
pub seized_holder : (b : Book) (by of : MemberId) → is_stopped b of ≡ true → is_holder b of ≡ true → (after_seize b by of).holder ≡ by
seized_holder b by of down holds =
    ap (λ o. (if is_some o then b else granted b by).holder) none
  where
    none : seize_refusal b of ≡ None
    none = rw (down, holds) refl

module _ {P C : Type 0} (plants : PlantGhosts P) (copies : CopyGhosts C) where
  abbrev v : Parts P C → View
  v q = plants.view q.plant

  -- AS IT WAS: acts beside the copies, or on the console, or none
  pub record IsStill (x y : Parts P C) : Type 0 where
    pub frame : y ≡ asided y x
    pub holder : y.book.holder ≡ x.book.holder
    pub unreserved : x.reserved ≡ None → y.reserved ≡ None
    pub first : plants.tells → disk_now (v y) Ckpt1 ≡ disk_now (v x) Ckpt1
    pub second : plants.tells → disk_now (v y) Ckpt2 ≡ disk_now (v x) Ckpt2

  abbrev pub Holds : MemberId → Parts P C → Done → Type 0
  Holds by y r = (e : NodeNo) × (r ≡ Err e) × (y.book.holder ≡ by)

  -- where the lock was had
  abbrev pub AfterLock : MemberId → Parts P C → Parts P C → Done → Type 0
  AfterLock by x y r = IsQuiet plants copies y (page_count x.base.config) ⊎ Holds by y r

  abbrev pub HowLeft : MemberId → Parts P C → Parts P C → Done → Type 0
  HowLeft by x y r = IsStill x y ⊎ AfterLock by x y r

  quiet : (by : MemberId) (x y : Parts P C) (r : Done) → IsQuiet plants copies y (page_count x.base.config) → AfterLock by x y r
  quiet by x y r q = inl q

  holds : (by : MemberId) (x y : Parts P C) (e : NodeNo) → y.book.holder ≡ by → AfterLock by x y (Err e)
  holds by x y e is = inr (e, refl, is)

  -- NOTHING was done, but that the lock was tried for
  same_still : (x z y : Parts P C) → z ≡ record x { book = z.book } → z.book.holder ≡ x.book.holder → y ≡ z → IsStill x y
  same_still x z y tried holder same = record {
    frame = subst (λ (q : Parts P C). q ≡ asided q x) (sym (same ∙ tried)) refl;
    holder = ap (λ (q : Parts P C). q.book.holder) same ∙ holder;
    unreserved = λ none. ap (λ (q : Parts P C). q.reserved) same ∙ ap (λ (q : Parts P C). q.reserved) tried ∙ none;
    first = λ t. ap (λ (q : Parts P C). disk_now (v q) Ckpt1) (same ∙ tried);
    second = λ t. ap (λ (q : Parts P C). disk_now (v q) Ckpt2) (same ∙ tried);
  }

  -- A LINE THAT ONLY CLOSES

  framed : (x y w : Parts P C) → w ≡ asided w x → y ≡ w → y ≡ asided y x
  framed x y w own same = subst (λ (q : Parts P C). q ≡ asided q x) (sym same) own

  closed_frame : (r : Done) (by : MemberId) (x : Parts P C) (p : P) → stopped_so r by (record x { plant = p }) ≡ asided (stopped_so r by (record x { plant = p })) x
  closed_frame (Ok done) by x p = refl
  closed_frame (Err no_node.NoMemory) by x p = refl
  closed_frame (Err no_node.BothLost) by x p = refl
  closed_frame (Err no_node.ConsoleFault) by x p = refl
  closed_frame (Err no_node.Halted) by x p = refl

  closed_holder : (r : Done) (by : MemberId) (x : Parts P C) (p : P) → (stopped_so r by (record x { plant = p })).book.holder ≡ x.book.holder
  closed_holder (Ok done) by x p = refl
  closed_holder (Err no_node.NoMemory) by x p = refl
  closed_holder (Err no_node.BothLost) by x p = refl
  closed_holder (Err no_node.ConsoleFault) by x p = refl
  closed_holder (Err no_node.Halted) by x p = refl

  closed_reserved : (r : Done) (by : MemberId) (x : Parts P C) (p : P) → x.reserved ≡ None → (stopped_so r by (record x { plant = p })).reserved ≡ None
  closed_reserved (Ok done) by x p none = none
  closed_reserved (Err no_node.NoMemory) by x p none = none
  closed_reserved (Err no_node.BothLost) by x p none = none
  closed_reserved (Err no_node.ConsoleFault) by x p none = none
  closed_reserved (Err no_node.Halted) by x p none = kept_none by x.reserved none

  how_refused : (r : Raced) (sayer : MemberId) (end : Closing) (x y : Parts P C) (result : Result Stands NodeNo) → ClosesRefused plants copies r sayer end x y result → IsStill x y
  how_refused r sayer end x y result o =
      let q : Done = done_of result in
      let S : Scene = record (scene_of x.base) { book = x.book } in
      let closed : HasClosed plants S r.by r.number (Refused sayer end) sayer x y q = o.closed S (record { book = refl; flight = λ locked. refl }) in
      record {
        frame = framed x y (stopped_so q r.by (record x { plant = y.plant })) (closed_frame q r.by x y.plant) o.frame;
        holder = ap (λ (k : Parts P C). k.book.holder) o.frame ∙ closed_holder q r.by x y.plant;
        unreserved = λ none. ap (λ (k : Parts P C). k.reserved) o.frame ∙ closed_reserved q r.by x y.plant none;
        first = λ t. closed.acts.disks t Ckpt1;
        second = λ t. closed.acts.disks t Ckpt2;
      }

  -- ACTS ASIDE

  printed_holder : {T : Type 0} (r : Result T NodeNo) (by : MemberId) (x y : Parts P C) → HasOnlyPrinted r by x y → y.book.holder ≡ x.book.holder
  printed_holder (Ok done) by x y e = ap (λ (q : Parts P C). q.book.holder) e
  printed_holder (Err no_node.NoMemory) by x y e = ap (λ (q : Parts P C). q.book.holder) e
  printed_holder (Err no_node.BothLost) by x y e = ap (λ (q : Parts P C). q.book.holder) e
  printed_holder (Err no_node.ConsoleFault) by x y e = ap (λ (q : Parts P C). q.book.holder) e
  printed_holder (Err no_node.Halted) by x y o = ⊎_elim (λ e. ap (λ (q : Parts P C). q.book.holder) e) (λ e. ap (λ (q : Parts P C). q.book.holder) e) o

  acted_still : {T : Type 0} (r : Result T NodeNo) (by : MemberId) (x y : Parts P C) → HasOnlyPrinted r by x y → IsBeside plants.tells (v x) (v y) → IsStill x y
  acted_still r by x y only beside = record {
    frame = only_these r by x y only;
    holder = printed_holder r by x y only;
    unreserved = unreserved_by r by x y only;
    first = beside.first;
    second = beside.second;
  }

  how_acts : (x y : Parts P C) (m : Member) (s : Stand) (r : Result Stands NodeNo) → ActsBy plants copies x y m s r → IsStill x y
  how_acts x y m s (Ok next) o =
      acted_still (Ok o.0.found) m.id x y (changed_only plants copies x y m s.state (Some []) o.1 (Ok o.0.found) o.4) (acts_beside plants copies x y m s.state (Some []) o.1 (Ok o.0.found) o.4).beside
  how_acts x y m s (Err e) o =
      acted_still {T = Found} (Err e) m.id x y (changed_only plants copies x y m s.state (Some []) o.0 (Err e) o.1) (acts_beside plants copies x y m s.state (Some []) o.0 (Err e) o.1).beside

  -- A SITTING

  module _ (s : Start) (x y : Parts P C) (n : Member) (may : MayHold x.book s.holder.by) (own : n.id ≡ s.holder.by) where
    abbrev by : MemberId
    by = s.holder.by

    quiet_sat : (next : Stands) → SitsOut plants copies s x y n next → IsQuiet plants copies y (page_count x.base.config)
    quiet_sat next o =
        let seat : IsSeat plants copies o.there n = seat_of plants copies o.end.next o.there n s.holder.step o.on.sits in
        let beside : IsBeside plants.tells (v o.there) (v y) = subst (λ (q : Parts P C). IsBeside plants.tells (v o.there) (v q)) (sym o.frame) (beside_none plants.tells (v o.there)) in
        let aside : IsAside plants copies y n =
        aside_then plants copies o.there y n seat (subst (λ (q : Parts P C). q ≡ asided q o.there) (sym o.frame) refl) beside (ap (λ (q : Parts P C). q.reserved) o.frame ∙ seat.still.unreserved) in
        let base : o.there.base ≡ x.base = ap (λ (q : Parts P C). q.base) o.turn.frame ∙ ap (λ (q : Parts P C). q.base) o.turn.locked in
        subst (λ (k : ℕ). IsQuiet plants copies y k) (room_seat plants copies o.there by n own seat x.base base) aside.quiet

    its_lock : (entered x.book by).holder ≡ by
    its_lock = (acts_entered x.book by may).holds

    how_sits : (r : Result Stands NodeNo) → SitsBy plants copies s x y n r → AfterLock by x y (done_of r)
    how_sits (Ok next) o = quiet by x y (Ok tt) (quiet_sat next o)
    how_sits (Err e) o = ⊎_elim
        (λ took. holds by x y e (ap (λ (q : Parts P C). q.book.holder) took.frame ∙ its_lock))
        (λ sat. holds by x y e (ap (λ (q : Parts P C). q.book.holder) sat.frame ∙ ap (λ (q : Parts P C). q.book.holder) sat.took.frame ∙ its_lock)) o

  -- A LINE THAT RESETS

  module _ (by : MemberId) (b : Book) (Q : Queue) (count : ℕ) where
    -- of one piece, cut under the lock
    abbrev holder_at : ℕ → Halt → Cause → List Piece → MemberId
    holder_at n halt cause ps = (stopped_by by cause (adds_first by true halt (adds_all by true (none_left by b count) (take n ps)) (drop n ps)).book).holder

    caused : (cause : Cause) (c : Book) → (stopped_by by cause c).holder ≡ c.holder
    caused Stops c = refl
    caused Ends c = refl

    locked_at : (halt : Halt) (cause : Cause) (p : Piece) → IsLocked halt → holder_at 0 halt cause (p ∷ []) ≡ (entered b by).holder
    locked_at (Writing n g) cause p locked = caused cause (entered b by)
    locked_at (Saying n tail) cause p locked = caused cause (entered b by)
    locked_at (Waiting n tail) cause p locked = absurd locked

    cut_holder : (cut : Cut) (ps : List Piece) (p : Piece) → ps ≡ p ∷ [] → cut.sittings < length ps → IsLocked cut.halt → (left_by by (Some cut) (play_in by ps b Q) count).book.holder ≡ (entered b by).holder
    cut_holder cut ps p one there locked =
        let few : cut.sittings < length (p ∷ []) = subst (λ (qs : List Piece). cut.sittings < length qs) one there in
        let none : cut.sittings ≡ 0 = omega (arith, few) in
        ap (λ (qs : List Piece). holder_at cut.sittings cut.halt cut.cause qs) one ∙ ap (λ (k : ℕ). holder_at k cut.halt cut.cause (p ∷ [])) none ∙ locked_at cut.halt cut.cause p locked

  module _ (h : Holder) (of : MemberId) (x y : Parts P C) (may : MayHold x.book h.by) (pages : ℕ) (room : pages ≡ page_count x.base.config) where
    how_resets : (r : Done) → HasResetBy plants copies h of x y pages r → AfterLock h.by x y r
    how_resets (Ok done) o = quiet h.by x y (Ok done) (subst (λ (k : ℕ). IsQuiet plants copies y k) room (o.quiet (subst IsBetweenSittings (sym o.played.by_answer) tt)))
    how_resets (Err e) o = by_cut o.cut refl o.played.by_answer where
      at_lock : (cut : Cut) → o.cut ≡ Some cut → cut.sittings < length o.pieces → IsLocked cut.halt → AfterLock h.by x y (Err e)
      at_lock cut is there locked =
          holds h.by x y e
          (ap (λ (b : Book). b.holder) o.played.leaves.book
          ∙ ap (λ (c : Option Cut). (left_by h.by c (play_in h.by o.pieces x.book (queue_of x)) (counts_of x.printed h.by)).book.holder) is
          ∙ cut_holder h.by x.book (queue_of x) (counts_of x.printed h.by) cut o.pieces (reset_piece h of o.shaped.0) o.shaped.1 there locked
          ∙ (acts_entered x.book h.by may).holds)

      by_halt : (cut : Cut) → o.cut ≡ Some cut → cut.sittings < length o.pieces → (halt : Halt) → cut.halt ≡ halt → AfterLock h.by x y (Err e)
      by_halt cut is there (Waiting n tail) at =
          quiet h.by x y (Err e)
          (subst (λ (k : ℕ). IsQuiet plants copies y k) room (o.quiet (subst IsBetweenSittings (sym is) (subst IsAsideHalt (sym at) tt))))
      by_halt cut is there (Writing n g) at = at_lock cut is there (subst IsLocked (sym at) tt)
      by_halt cut is there (Saying n tail) at = at_lock cut is there (subst IsLocked (sym at) tt)

      by_cut : (cut : Option Cut) → o.cut ≡ cut → IsCutBy {T = Unit {0}} (Err e) o.pieces cut → AfterLock h.by x y (Err e)
      by_cut None is never = absurd never
      by_cut (Some cut) is c = by_halt cut is c.there cut.halt refl

  -- A TAKEOVER of the lock of a stopped member that holds it, by a member that is up

  module _ (by of : MemberId) (x y : Parts P C) (some : is_somebody by ≡ true) (up : is_stopped x.book by ≡ false) (down : is_stopped x.book of ≡ true) (left : is_holder x.book of ≡ true) where
    mid_holder : (mid : Parts P C) → mid.book ≡ after_seize x.book by of → mid.book.holder ≡ by
    mid_holder mid is = ap (λ (b : Book). b.holder) is ∙ seized_holder x.book by of down left

    mid_same : (mid : Parts P C) → mid.book ≡ after_seize x.book by of → entered mid.book by ≡ mid.book
    mid_same mid is = entered_same mid.book by (ap (λ (b : Book). is_stopped b by) is ∙ seized_same by x.book of ∙ up) (mid_holder mid is)

    untaken_holder : (e : NodeNo) → y.book ≡ untaken_book e by of x.book → y.book.holder ≡ by
    untaken_holder no_node.Halted is = ap (λ (b : Book). b.holder) is ∙ seized_holder x.book by of down left
    untaken_holder no_node.BothLost is = mid_holder y is
    untaken_holder no_node.NoMemory is = mid_holder y is
    untaken_holder no_node.ConsoleFault is = mid_holder y is

    seat_holder : (mid z : Parts P C) (r : Done) → mid.book ≡ after_seize x.book by of → HasSeat plants copies by mid z r → z.book.holder ≡ by
    seat_holder mid z r is took = ap (λ (q : Parts P C). q.book.holder) took.frame ∙ ap (λ (b : Book). b.holder) (mid_same mid is) ∙ mid_holder mid is

    how_takes : (at : ℕ) (r : Done) → TakesBy plants copies by at of x y r → AfterLock by x y r
    how_takes at (Ok done) o = quiet by x y (Ok done) o.quiet
    how_takes at (Err e) o = ⊎_elim
        (λ u. holds by x y e (untaken_holder e u.book))
        (λ b. holds by x y e (⊎_elim
        (λ took. seat_holder b.mid y (Err e) b.taken_over.book took)
        (λ g. ap (λ (q : Parts P C). q.book.holder) g.frame ∙ seat_holder b.mid g.seat (Ok tt) b.taken_over.book g.took) b.why)) o

    -- and a line that does that
    pub mid_may : (mid : Parts P C) → mid.book ≡ after_seize x.book by of → IsMember x.book by → 1 ≤ by.0 → by.0 ≤ members_most → MayHold mid.book by
    mid_may mid is inside one few = record {
      some = one;
      few = few;
      seated = subst (λ (b : Book). IsMember b by) (sym is) (inside_only by x.book (after_seize x.book by of) (seized_only by x.book inside of) inside);
      up = ap (λ (b : Book). is_stopped b by) is ∙ seized_same by x.book of ∙ up;
      free = inl (mid_holder mid is);
    }

    then_how : (at : ℕ) (pages : ℕ) (r : Done) → IsMember x.book by → 1 ≤ by.0 → by.0 ≤ members_most → pages ≡ page_count x.base.config → TakesAndResets plants copies by at of x y pages r → AfterLock by x y r
    then_how at pages r inside one few room t =
        ⊎_elim (λ q. inl (subst (λ (Q : Queue). IsQuiet plants copies y (page_count Q.config)) t.base q)) (λ h. inr h)
        (how_resets _ of t.mid y (mid_may t.mid t.taken.book inside one few) pages (room ∙ ap (λ (Q : Queue). page_count Q.config) (sym t.base)) r t.reset)

    how_closes : (at : ℕ) (pages : ℕ) (r : Done) → IsMember x.book by → 1 ≤ by.0 → by.0 ≤ members_most → pages ≡ page_count x.base.config → ClosesTaken plants copies by at of x y pages r → AfterLock by x y r
    how_closes at pages (Ok done) inside one few room t = then_how at pages (Ok done) inside one few room t
    how_closes at pages (Err e) inside one few room t = ⊎_elim (λ u. holds by x y e (untaken_holder e u.book)) (λ k. then_how at pages (Err e) inside one few room k) t

-- A TURN

same_number : (n : ℕ) → (n == n) ≡ true
same_number n = grind (arith, nat_tests)

module _ {P C : Type 0} {plants : PlantGhosts P} {steadies : SteadyGhosts C} {copies : CopyGhosts C} (x : Complex P C plants steadies copies) (m n : Member) (at : ℕ) (what : Ask) (s : Stands) (rest : BetweenTurns x) (waits : Waits x m at what s) (y : Parts P C) (result : Result Stands NodeNo)
    (own : n.id ≡ m.id) (unheld : is_held x.book ≡ false) where
  abbrev r : Raced
  r = raced_at m.id at what s

  abbrev p : Parts P C
  p = parts_of x

  abbrev z : Parts P C
  z = record p { book = after_try x.book m.id false }

  abbrev How : Type 0
  How = HowLeft plants copies m.id p y (done_of result)

  one : 1 ≤ m.id.0
  one = some_of x.base.config m.id waits.member

  few : m.id.0 ≤ members_most
  few = few_of x.base.config m.id waits.member waits.config

  some : is_somebody m.id ≡ true
  some = somebody_of x.base.config m.id waits.member

  inside : IsMember x.book m.id
  inside = inside_of x.base.config m.id waits.member x.book rest.members

  room : is_stopped x.book m.id ≡ false → length m.room ≡ page_count x.base.config
  room up = (waits.ease up).many

  -- the lock of a stopped member, which holds it
  taken_up : (w : Parts P C) (of : MemberId) → w.base ≡ x.base → left_holder x.book ≡ Some of → w.book.holder ≡ x.book.holder → OnlyBy m.id x.book w.book → is_stopped w.book m.id ≡ false → TakesUp plants copies (stood_of r) of w y result → How
  taken_up w of base left same only up u =
      let l = left_is x.book of left in
      let holds : is_holder w.book of ≡ true = subst (λ (k : MemberId). (k.0 == of.0) ≡ true) (sym (same ∙ l.holds)) (same_number of.0) in
      inr (⊎_elim (λ q. inl (subst (λ (Q : Queue). IsQuiet plants copies y (page_count Q.config)) base q)) (λ h. inr h)
      (how_takes plants copies m.id of w y some up (only.stays of l.stopped) holds at (done_of result) u.takes))

  got : is_stopped x.book m.id ≡ false → try_refusal x.book m.id false ≡ None → MayHold z.book m.id
  got up granted = got_may x.book m.id up (not_holder x.book m.id unheld one up) granted inside one few

  opens_how : (a : Admission) → IsKnown x.base x.book m.id a → OpensAs plants copies r p y m n result a → How
  opens_how (Refused sayer end) known o = inl (how_refused plants copies r sayer end p y result o)
  opens_how (Denied why) known o = by_left (left_holder x.book) refl o where
    same : z.book.holder ≡ x.book.holder
    same = denied_holder x.book m.id why known.1

    by_left : (l : Option MemberId) → left_holder x.book ≡ l → UnlessLeft plants copies l (stood_of r) z y result (WaitsOn plants copies (stood_of r) z y result) → How
    by_left None is w = inl (same_still plants copies p z y refl same w.frame)
    by_left (Some of) is u = taken_up z of refl is same (tried_only m.id x.book inside false) (tried_same m.id x.book false ∙ known.0.up) u
  opens_how (Plays task) known o = inr (how_sits plants copies _ z y n (got known.0.up known.1) own result o)
  opens_how (Resets of) known o = inr (how_resets plants copies _ of z y (got known.0.up known.1) (length m.room) (room known.0.up) (done_of result) o.1)
  opens_how (TakesOver of) known o =
      inr (how_closes plants copies m.id of p y some known.0.up known.2.down known.1 at (length m.room) (done_of result) inside one few (room known.0.up) o.1)
  opens_how (Replaces dev) known o = absurd o
  opens_how Locks known o = absurd o
  opens_how Frees known o = absurd o
  opens_how Unplayed known o = absurd o

  goes_how : (q : Stands) → WaitsAt plants copies p m at q → GoesAs plants copies r p y m n result q → How
  goes_how line.Opens stands o = opens_how (admitted x.base.config x.book m.id what) (waits.asked.known x.book) o
  goes_how (line.Sits stand) stands o = by_left (left_holder x.book) refl o where
    by_left : (l : Option MemberId) → left_holder x.book ≡ l → UnlessLeft plants copies l (stood_of r) p y result (SitsBy plants copies (record { holder = stand.holder; state = stand.state; found = stand.found }) p y n result) → How
    by_left None is u =
        let mine : stand.holder.by ≡ m.id = ap (λ (h : Holder). h.by) stands.goes.holder in
        let free = free_now x.book unheld is in
        let may : MayHold x.book m.id = hold_free x.book m.id inside one few stands.goes.up free in
        subst (λ (k : MemberId). HowLeft plants copies k p y (done_of result)) mine
        (inr (how_sits plants copies _ p y n (subst (MayHold x.book) (sym mine) may) (own ∙ sym mine) result u))
    by_left (Some of) is u = taken_up p of refl is refl (only_none m.id x.book) stands.goes.up u
  goes_how (line.Acts stand) stands o = by_left (left_holder x.book) refl o where
    by_left : (l : Option MemberId) → left_holder x.book ≡ l → UnlessLeft plants copies l (stood_of r) p y result (ActsBy plants copies p y m stand result × (n ≡ m)) → How
    by_left None is u = inl (how_acts plants copies p y m stand result u.0)
    by_left (Some of) is u = taken_up p of refl is refl (only_none m.id x.book) stands.goes.up u
  goes_how line.Closed stands o = inl (same_still plants copies p p y refl refl o.frame)

  pub how_left : GoesAs plants copies r p y m n result s → How
  how_left o = goes_how s waits.stands o
