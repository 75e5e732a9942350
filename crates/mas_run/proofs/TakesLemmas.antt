-- A line whose member takes the lock of a stopped member over, and resets that.
use Rattle.mas_run.proofs.Names.{Ask, Batch, Book, Bool, ByLock, Ckpt1, Ckpt2, Complex, CopiesLeft, Dev, Entry, Err, Fate, Flying, ForStep, Fresh, Ghosts as CopyGhosts, Give, Grows, HasTakenOver, Holder, IsAfterTakeover, IsMember, IsMemberUp, IsResetPiece, IsTaken, IsUntaken, IsWhyLost, KeepsCounts, LineDone, LineIsLeft, List, LosesAs, MayTakeAt, Member, MemberId, NodeNo, None, Ok, OnOk, Option, Page, PairState, Parts, Piece, PlantGhosts, Queue, Result, Some, Spares, Spool, SteadyGhosts, TakeCauses, TakesAndResets, TakesBy, TakesOver, View, ap, arith, clear, console, counted, counts_of, earlier_kept, failed, false, few_of, flight_found, flown_of, granted_by, holder_of, if◌then◌else◌, in_flight, inl, inr, inside_of, is_stop, journal_still, kept_all, kept_on, left_of as hold_left, length, levels_for, line_by, once_found, other, pair_state, parts_of, played_in, queue_found, queue_of, refl, reset_pieces, run, scene_as, set, slice_get, slice_set, some_of, stops, subst, sym, taker_at, true, untaken_book, whole_pieces, wires_then, ℕ, ⊎_elim, ◌++◌, ◌+◌, ◌-◌, ◌<◌, ◌∙◌, ◌≡◌, ◌≢◌, ◌≤◌, Admission, stopped_in, named_in, waits_in, take, StepCauses, is_stopped, Reset}
use Rattle.mas_run.proofs.AfterLemmas.{IsTold, scene_at}
use Rattle.mas_run.proofs.ArmLemmas.{arm_inside, few_levels, done_at, done_so, InArm, InPlace, done_on}
use Rattle.mas_run.proofs.CopiesLemmas.{step_leaves, copies_of, leaves_same, acted_leaves, leaves_then}
use Rattle.mas_run.proofs.TurnedLemmas.{turned}
use Rattle.mas_run.proofs.KnownLemmas.{not_holder}
use Rattle.mas_run.proofs.ClosingLemmas.{HasMerelyActed, told_honest, acts_caused, begun_did}
use Rattle.mas_run.proofs.DoneLemmas.{ComesTo, stepped_left}
use Rattle.mas_run.proofs.JournalLemmas.{queue_met, flies_so}
use Rattle.member_resets.proofs.TakenOnLemmas.{may_hold, seized_now, up_still}
use Rattle.mas_run.proofs.LeftLemmas.{counted_stays, stays_any}
use Rattle.member_node.specs.Reads.{too_high}
use Rattle.mas_complex.specs.Elsewhere.{OnCopies}

-- CALLS ON THE COPIES that may lose one, once

module _ (by : ℕ) (stopped : Bool) (x y : PairState) (counts : KeepsCounts by stopped x y) where
  counts_spare : (stopped ≡ true → 1 ≤ by) → Spares by stopped x.view y.view
  counts_spare some = record {
    volumes = λ n. counts.else_loses (Spool n) (λ e. absurd (cc)) (λ e. absurd (cc));
    stops = counts.no_other_stop;
    operator = λ is. let le = some is in omega (arith, le);
    at_halt = counts.at_halt;
  }

  counts_lose : (reads : List ℕ → Option (List ℕ)) (found : Fate) → (x.first ≡ true → y.first ≡ false → IsWhyLost reads found Ckpt1 Ckpt2 x.view y.view)
      → (x.second ≡ true → y.second ≡ false → IsWhyLost reads found Ckpt2 Ckpt1 x.view y.view) → LosesAs reads (Some found) None x.view y.view
  counts_lose reads found why1 why2 Ckpt1 = ⊎_elim inl (λ once. inr (once.2, counts.first.stands.1 once.0 once.1, why1 once.0 once.1)) counts.first.once
  counts_lose reads found why1 why2 Ckpt2 = ⊎_elim inl (λ once. inr (once.2, counts.second.stands.1 once.0 once.1, why2 once.0 once.1)) counts.second.once
  counts_lose reads found why1 why2 (Spool n) = inl (counts.else_loses (Spool n) (λ e. absurd (cc)) (λ e. absurd (cc)))

-- such calls of a member, in which nothing was given or printed

module _ {P C : Type 0} (plants : PlantGhosts P) (copies : CopyGhosts C) (by : MemberId) (some : 1 ≤ by.0) where
  abbrev v : Parts P C → View
  v z = plants.view z.plant

  abbrev pair : Parts P C → PairState
  pair z = pair_state plants.view z

  counted_merely : (a : Admission) (x y : Parts P C) (r : Result (Unit {0}) NodeNo) → KeepsCounts by.0 (stopped_in r) (pair x) (pair y) → StepCauses r by.0 (pair x) (pair y) → (plants.tells → OnCopies (v x) (v y))
      → y.renewals ≡ x.renewals → y.had ≡ x.had → HasMerelyActed plants by a x y r
  counted_merely a x y r counts cause apart renewals had = record {
    acts = acts_caused by a (pair x) (pair y) r counts.goes (counts_spare by.0 (stopped_in r) (pair x) (pair y) counts (λ is. some)) cause;
    papers = λ t. (apart t).papers;
    wires = λ t. (apart t).wires;
    volumes = λ t. kept_on (v x) (v y) (apart t).volumes;
    stay = counted_stays by.0 (stopped_in r) (pair x) (pair y) counts;
    kept = leaves_same plants x y r (copies_of plants x y r (assumption (counts, grow)) (step_leaves plants by.0 x y r cause)) renewals counts.first.alive counts.second.alive;
    notes = λ j other. ap (λ (h : List (List Page)). slice_get h j) had;
  } where
    grow : (d : Dev) → Grows ((v x).loses d) ((v y).loses d)
    grow Ckpt1 = ⊎_elim inl (λ lost. inr (let more = lost.2 in omega (arith, more))) counts.first.once
    grow Ckpt2 = ⊎_elim inl (λ lost. inr (let more = lost.2 in omega (arith, more))) counts.second.once
    grow (Spool n) = inl (counts.else_loses (Spool n) (λ e. absurd (cc)) (λ e. absurd (cc)))

  -- the lock was taken over
  comes_taken : (of : MemberId) (told : Type 0) → (told → plants.tells) → (found : Fate) (x mid : Parts P C) → mid.renewals ≡ x.renewals → IsTaken plants copies by of x mid found
      → ComesTo plants copies.reads told by (TakesOver of) found (v mid).now x mid
  comes_taken of told tells found x mid renewals taken = record {
    acted = counted_merely (TakesOver of) x mid (Ok tt) taken.counts (inl taken.some) taken.apart renewals taken.had;
    moment = (taken.counts.goes.later, omega arith);
    journal = sym (journal_still mid taken.quiet.none taken.quiet.unplaced) ∙ taken.journal;
    printed = taken.printed;
    console = λ t. (taken.apart (tells t)).console;
    loses = λ t. counts_lose by.0 false (pair x) (pair mid) taken.counts copies.reads found (taken.left1 (tells t)) (taken.left2 (tells t));
  }

  -- or nothing was found out of a batch in flight
  untaken_cause : (e : NodeNo) (x y : Parts P C) → TakeCauses plants copies e by x y → CopiesLeft plants copies e y → StepCauses {T = Unit {0}} (Err e) by.0 (pair x) (pair y)
  untaken_cause q0 x y cause left = grind arith

module _ {P C : Type 0} {plants : PlantGhosts P} {steadies : SteadyGhosts C} {copies : CopyGhosts C} {x mid : Complex P C plants steadies copies} {ms : List Member} {at : ℕ} {what : Ask}
    {of : MemberId} {m : Member} (w : InArm x mid ms at m.id what (TakesOver of)) (up : IsMemberUp plants copies (parts_of x) m) where
  abbrev by : MemberId
  by = m.id

  abbrev p : Parts P C
  p = parts_of x

  inside : IsMember x.book by
  inside = arm_inside w w.known_so.0

  -- a member that is up may take the lock over that a stopped member holds, and reset that
  may : MayTakeAt plants copies p m at of
  may =
      let its = w.known_so.0 in
      let down = w.known_so.1 in
      let level : x.level + 1 + levels_for (Fresh (Give (Reset of))) + 3 < too_high = omega (arith, w.below, few_levels (Give (Reset of)) (omega arith)) in
      let kept = earlier_kept by at (plants.view x.plant).now (p.batches ++ in_flight p.current) w.is.earlier in
      assumption (
        some_of x.base.config by its.member,
        few_of x.base.config by its.member w.is.config,
        inside,
        inside_of x.base.config of down.member x.book w.is.booked,
        few_of x.base.config of down.member w.is.config,
        w.is.untold by at (omega arith) w.few,
        kept,
        down.givable its.member,
        level,
        w.known_so.2,
        w.is,
        up,
        its,
        down,
      )

  module _ (y : Complex P C plants steadies copies) (n : Member) (stays : n.id ≡ m.id) (frame_y : parts_of y ≡ played_in (parts_of y) (parts_of mid)) where
    frame_p : parts_of y ≡ played_in (parts_of y) p
    frame_p = subst (λ (z : Parts P C). parts_of y ≡ played_in (parts_of y) z) w.frame frame_y

    base : y.base ≡ x.base
    base = ap (λ (z : Parts P C). z.base) frame_p

    since : y.since ≡ x.since
    since = ap (λ (z : Parts P C). z.since) frame_p

    renewals : y.renewals ≡ x.renewals
    renewals = ap (λ (z : Parts P C). z.renewals) frame_p

    -- NOTHING WAS FOUND OUT of a batch in flight

    module _ (e : NodeNo) (un : IsUntaken plants copies by of p (parts_of y) e) where
      none_done : LineDone x y (set ms (by.0 - 1) n) at by what (failed e)
      none_done =
          done_so x y (set ms (by.0 - 1) n) at by what (failed e) base since w.few w.is
          (λ told knows counts armed. begun_did x y at by what (TakesOver of) told knows counts armed w.adm x.book e (λ is_so. subst (λ (k : NodeNo). TakeCauses plants copies k by p (parts_of y)) is_so un.cause)
          (counted_merely plants copies by may.some (TakesOver of) p (parts_of y) (failed e) un.counts (untaken_cause plants copies by may.some e p (parts_of y) un.cause un.some) un.apart renewals un.had)
          (λ o. counts_lose by.0 (is_stop e) (pair_state plants.view p) (pair_state plants.view (parts_of y)) un.counts copies.reads Flying (λ was gone. inl refl) (λ was gone. inl refl)) (λ o. (un.apart o).console) un.journal un.printed renewals
          (λ halted. (up_still x.book by of may.of_stopped may.of_holds may.up may.seated, ap (λ (c : Book). c.holder) (seized_now x.book by of may.of_stopped may.of_holds), un.book ∙ ap (λ (k : NodeNo). untaken_book k by of x.book) halted)) ms w.is inside n stays) (λ is_halted. inside)

    -- AND THEN THE RESET

    module _ (r : Result (Unit {0}) NodeNo) (takes : TakesAndResets plants copies by at of p (parts_of y) (length m.room) r) (after : OnOk r (IsAfterTakeover mid y m n)) where
      abbrev t : Parts P C
      t = takes.mid

      abbrev k : Holder
      k = taker_at plants copies by at t

      -- it didn't hold the lock before
      holder_here : holder_of (scene_at p) by at (TakesOver of) ≡ k
      holder_here =
          ap (λ (c : Book). let g : Holder = record { by = by; step = at; hold = hold_left c by; grant = granted_by x.book by } in g) (sym takes.taken.book)
          ∙ ap (λ (h : Bool). let g : Holder = record { by = by; step = at; hold = hold_left t.book by; grant = if h then ByLock else ForStep } in g)
          (not_holder x.base w.is.config x.book by of w.known_so.0.up w.known_so.1.down w.known_so.2)

      -- nothing is in flight any more
      unflown : (ps : List Piece) → once_found (flight_found takes.found (flown_of p.current)) ps ≡ ps
      unflown ps = ap (λ (f : Option (List Entry)). once_found f ps) (none takes.found (flown_of p.current) takes.taken.fated) where
        none : (f : Fate) (flight : Option (List Entry)) → f ≢ Flying → flight_found f flight ≡ None
        none Flying flight other = absurd (other refl)
        none _ flight other = refl

      queue_t : queue_of t ≡ queue_found takes.found (flown_of p.current) (queue_of p)
      queue_t =
          ap (λ (Q : Queue). run Q (kept_all t.batches)) takes.base
          ∙ ap (λ (bs : List Batch). run x.base (kept_all bs)) (sym (journal_still t takes.taken.quiet.none takes.taken.quiet.unplaced) ∙ takes.taken.journal)
          ∙ queue_met p.batches p.placed x.book p.current (plants.view p.plant).now w.is.stands w.is.settled x.base (plants.view t.plant).now (flown_of p.current) (flies_so p.batches p.placed x.book p.current w.is.stands) takes.found

      came : (told : Type 0) → (told → plants.tells) → ComesTo plants copies.reads told by (TakesOver of) takes.found (plants.view t.plant).now p t
      came told tells = comes_taken plants copies by may.some of told tells takes.found p t takes.renewals takes.taken

      left : (told : Type 0) → IsTold plants told → LineIsLeft told at (line_by by what) x y r
      left told (inl none) counts armed counted =
          stepped_left plants copies told (λ o. absurd (none o)) (scene_as p counts armed) k what (TakesOver of) (record clear { cut = takes.reset.cut; flight = takes.found }) takes.reset.pieces p t (parts_of y) r
          (unflown takes.reset.pieces) (sym takes.taken.book) refl (plants.view t.plant).now (came told (λ o. absurd (none o))) takes.reset.played takes.reset.acts w.adm renewals
          (inr (subst (λ (j : Holder). IsResetPiece j of takes.reset.pieces) (sym holder_here) takes.reset.shaped)) takes.reset.tight (λ o. absurd (none o))
      left told (inr known) counts armed counted =
          let so = takes.reset.told known.1 in
          let Q : Queue = queue_found takes.found (flown_of p.current) (queue_of p) in
          let right = so.is ∙ ap (λ (R : Queue). reset_pieces R k of) queue_t ∙ ap (λ (j : Holder). reset_pieces Q j of) (sym holder_here) in
          let honest = told_honest (queue_of p).config.groups by (plants.view p.plant) (plants.view y.plant) (whole_pieces so.cut so.pieces) so.pieces _ so.is refl Q in
          let stay = stays_any (named_in clear.finds (waits_in (take (whole_pieces so.cut so.pieces) so.pieces) Q)) (plants.view t.plant) (plants.view y.plant) takes.reset.volumes in
          let count : is_stopped x.book by ≡ false → counts_of t.printed by ≡ counts by = λ up. ap (λ (l : List ℕ). counts_of l by) takes.taken.printed ∙ counted known.0 by up in
          let wires = wires_then (plants.view p.plant) (plants.view t.plant) (plants.view y.plant) (takes.taken.apart known.1).wires (takes.reset.wires known.1) in
          stepped_left plants copies told (λ o. known.1) (scene_as p counts armed) k what (TakesOver of) (record clear { cut = so.cut; flight = takes.found }) so.pieces p t (parts_of y) r
          (unflown so.pieces) (sym takes.taken.book) refl (plants.view t.plant).now (came told (λ o. known.1)) so.left takes.reset.acts w.adm renewals (inl known.0) so.tight
          (λ o. assumption (so, right, honest, stay, count, wires, takes.reset.papers known.1, kept_on (plants.view t.plant) (plants.view y.plant) (takes.reset.others known.1)))

      takes_done : LineDone x y (set ms (by.0 - 1) n) at by what r
      takes_done =
          let both = turned x mid y t ms k w.is inside (may_hold plants copies p t m at of may takes.found takes.taken takes.base takes.since) m n refl stays up.many takes.reset.pieces takes.reset.cut takes.reset.away takes.reset.quiet
          (λ j other. takes.reset.acts.notes j other ∙ ap (λ (h : List (List Page)). slice_get h j) takes.taken.had) r takes.reset.played after in
          done_on x y (set ms (by.0 - 1) n) at by what r base since w.few w.is left
          (leaves_then plants p t (parts_of y) r (came ⊥ (λ o. absurd o)).acted.kept (acted_leaves plants copies by t (parts_of y) r takes.reset.acts (renewals ∙ sym takes.renewals)))
          both.0 both.1 (λ e. inside)

    done_by : (r : Result (Unit {0}) NodeNo) → TakesBy plants copies by at of p (parts_of y) (length m.room) r → OnOk r (IsAfterTakeover mid y m n) → LineDone x y (set ms (by.0 - 1) n) at by what r
    done_by (Ok done) takes after = takes_done (Ok done) takes after
    done_by (Err e) takes after = ⊎_elim (none_done e) (λ both. takes_done (Err e) both tt) takes

-- AS ITS DRIVER HAS IT

module _ {P C : Type 0} {plants : PlantGhosts P} {steadies : SteadyGhosts C} {copies : CopyGhosts C} {x mid : Complex P C plants steadies copies} {ms : List Member} {at : ℕ} {by : MemberId} {what : Ask}
    {of : MemberId} (w : InArm x mid ms at by what (TakesOver of)) {i : ℕ} {m : Member} (s : InPlace x by i m) where
  its_own : InArm x mid ms at m.id what (TakesOver of)
  its_own = subst (λ (k : MemberId). InArm x mid ms at k what (TakesOver of)) (sym s.own) w

  pub may_take_over : MayTakeAt plants copies (parts_of mid) m at of
  may_take_over = subst (λ (z : Parts P C). MayTakeAt plants copies z m at of) (sym w.frame) (may its_own s.up)

  pub takes_over : (y : Complex P C plants steadies copies) (n : Member) → n.id ≡ m.id → parts_of y ≡ played_in (parts_of y) (parts_of mid) → (r : Result (Unit {0}) NodeNo)
      → HasTakenOver mid y m at of r → OnOk r (IsAfterTakeover mid y m n) → LineDone x y (slice_set ms i n) at by what r
  takes_over y n id frame_y r taken after =
      done_at x y ms n at by what r i s.back (subst (λ (k : MemberId). LineDone x y (set ms (k.0 - 1) n) at k what r) s.own (done_by its_own s.up y n id frame_y r (subst (λ (z : Parts P C). TakesBy plants copies m.id at of z (parts_of y) (length m.room) r) w.frame taken) after))
