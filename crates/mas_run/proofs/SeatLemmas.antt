-- A line whose member takes its seat or keeps it, and then says its line: it keeps the lock, or it replaced a copy before.
use Rattle.mas_run.proofs.Names.{HasNoSeat, HasSeat, HasSaid, ended_by, left_at, Admission, Armed, Ask, Batch, BetweenLines, Book, Bool, Closing, Complex, CopyCauses, Counts, Cut, DiskView, Err, Ghosts as CopyGhosts, HoldsLock, Inner, IsAside, IsSeat, Keep, Left, LineDone, List, Locks, Member, MemberId, NodeNo, None, Ok, Option, OtherNotesStay, Outer, Parts, PlantGhosts, Queue, Release, Renewed, RenewsAs, Replaced, Result, Scene, SeatsAndCloses, SeatsBy, SteadyGhosts, View, [], after_free, after_stop, after_try, ap, arith, aside_then, asided, before_line, beside_none, cause_by, clear, closes_with, copies_at, eq-eqb, failed, false, flown_of, inl, inr, is_holder, is_stopped, journal_of, left_by, length, line_by, nobody, once_found, other, page_count, pages_of_run, pair_state, parts_of, play_of, proceeds_of, refl, released_by, scene_as, seat_then, seated_in, set, slice_get, stopped_so, subst, sym, tried, tries, true, ℕ, ⊎_elim, ◌+◌, ◌-◌, ◌∙◌, ◌≡◌, ◌≢◌, ◌⊎◌, Entry, reserved_after_stop, Halted, ConsoleFault, ReplyClosing, PlainReply}
use Rattle.mas_run.proofs.AfterLemmas.{IsAfter, IsTold}
use Rattle.mas_run.proofs.ArmLemmas.{DoneAt, HasTurn, done_so, tested_up, turn_quiet, turn_tested}
use Rattle.mas_run.proofs.TurnedLemmas.{between_aside, seat_spoken, held_halted}
use Rattle.mas_run.proofs.ClosesLemmas.{stays_stopped, freed_holder}
use Rattle.mas_run.proofs.ClosingLemmas.{copies_apart, went, IsCloser, Stays, HasMerelyActed, copies_merely, IsApart, begun_did, closed_did}
use Rattle.mas_run.proofs.PassedLemmas.{renews_same}

-- WHAT A VALUE IS in which a line of the lock's holder was said

abbrev SaidEnds : {P C : Type 0} → Result (Unit {0}) NodeNo → MemberId → Release → Parts P C → Parts P C → Type 0
SaidEnds r by rel z w = Stays z w × (w.reserved ≡ None) × (r ≡ went → w.book ≡ released_by rel z.book by) × (r ≡ failed Halted → w.book ≡ after_stop z.book by)

said_ends : {P C : Type 0} (r : Result (Unit {0}) NodeNo) (by : MemberId) (rel : Release) (z : Parts P C) (p : P) → z.reserved ≡ None → SaidEnds r by rel z (ended_by r by rel (record z { plant = p }))
said_ends (Ok done) by rel z p none = (refl, none, (λ e. refl), (λ e. absurd (cc)))
said_ends (Err Halted) by rel z p none = (refl, ap (λ (o : Option (List Entry)). reserved_after_stop by o) none, (λ e. absurd (cc)), (λ e. refl))
said_ends _ by rel z p none = (refl, none, (λ e. absurd (cc)), (λ e. absurd (cc)))

-- WHAT A LINE DID whose member tried for the lock and got it, at a scene

abbrev pub tried_in : {P C : Type 0} {plants : PlantGhosts P} {steadies : SteadyGhosts C} {copies : CopyGhosts C} → Complex P C plants steadies copies → MemberId → Parts P C
tried_in x by = record (parts_of x) { book = after_try x.book by false }

module _ {P C : Type 0} {plants : PlantGhosts P} {steadies : SteadyGhosts C} {copies : CopyGhosts C} {x mid : Complex P C plants steadies copies} {ms : List Member}
    {at : ℕ} {by : MemberId} {what : Ask} {a : Admission} {m : Member} (turn : HasTurn x mid ms at by what a m) (tries : tried x.book by a ≡ after_try x.book by false) where
  abbrev b : Book
  b = after_try x.book by false

  abbrev t : Parts P C
  t = tried_in x by

  abbrev u : Parts P C → View
  u z = plants.view z.plant

  -- WHAT IT LEFT

  module _ (y : Complex P C plants steadies copies) (n : Member) (stays : n.id ≡ m.id) (journal : journal_of (parts_of y) ≡ journal_of t)
      (printed : (parts_of y).printed ≡ t.printed) (told : Type 0) (knows : IsTold plants told) (counts : Counts) (armed : List Armed) where
    abbrev q : Parts P C
    q = parts_of y

    abbrev DidSo : Result (Unit {0}) NodeNo → Type 0
    DidSo r = DoneAt x y (set ms (by.0 - 1) n) at by what told (scene_as (parts_of x) counts armed) r

    own_n : n.id ≡ by
    own_n = stays ∙ turn.own

    -- ITS ACTS ENDED BEFORE ITS LINE

    pub did_begun : (e : NodeNo) → e ≢ ConsoleFault → HasMerelyActed plants by a t q (failed e) → IsApart plants t q → RenewsAs a (before_line (cause_by e)) Replaced (copies_at plants t) (copies_at plants q)
        → (e ≡ Halted → q.book ≡ after_stop b by) → DidSo (failed e)
    did_begun e may acts apart renews book =
        begun_did x y at by what a told knows counts armed turn.arm.adm b e may acts (λ tells d. inl ((apart tells).1 d)) (λ tells. (apart tells).0) journal printed renews
        (λ halted. (ap (λ (c : Book). is_stopped c by) tries ∙ tested_up x.book by turn.inside turn.got.is_up.up, ap (λ (c : Book). c.holder) tries ∙ turn.got.holds, book halted ∙ ap (λ (c : Book). after_stop c by) (sym tries)))
        ms turn.arm.is turn.inside n own_n

    -- it had no seat
    did_unseated : (e : NodeNo) → HasNoSeat plants copies m.id t q e → DidSo (failed e)
    did_unseated e un =
        let same : q.renewals ≡ t.renewals = ap (λ (w : Parts P C). w.renewals) un.1 ∙ ap (λ (w : Parts P C). w.renewals) (stays_stopped m.id (seated_in q t) (seated_in q t).plant (failed e)) in
        did_begun e (λ is. subst (λ (k : NodeNo). CopyCauses {T = Unit {0}} (Err k) m.id.0 (pair_state plants.view t) (pair_state plants.view q)) is un.0.on.cause) (copies_merely plants by a m turn.own t q (failed e) same un.0)
        (copies_apart plants by a m.id t q (failed e) un.0) (renews_same a (before_line (cause_by e)) Replaced (copies_at plants t) (copies_at plants q) (λ dev is. tt) same)
        (λ halted. ap (λ (w : Parts P C). w.book) un.1 ∙ ap (λ (j : NodeNo). (stopped_so (failed j) m.id (seated_in q t)).book) halted ∙ ap (λ (j : MemberId). after_stop b j) turn.own)

    -- whatever followed its seat
    pub did_seated : (F : Parts P C → Parts P C → Result (Unit {0}) NodeNo → Type 0) → ((k : Result (Unit {0}) NodeNo) → HasSeat plants copies F m n t q k → DidSo k) → (r : Result (Unit {0}) NodeNo) → SeatsBy plants copies F m n t q r → DidSo r
    did_seated F did (Ok done) is = did (Ok done) is
    did_seated F did (Err e) is = ⊎_elim (did_unseated e) (did (Err e)) is

    -- IT HAS ITS SEAT, after acts that said nothing, and its line was said

    module _ (r : Result (Unit {0}) NodeNo) (z : Parts P C) (found : Renewed) (end : Closing) (rel : Release) (closer : IsCloser (scene_as (parts_of x) counts armed) at (line_by by what) a found end rel)
        (took : HasMerelyActed plants by a t z went) (apart : IsApart plants t z) (z_base : z.base ≡ x.base) (z_book : z.book ≡ b) (seat : IsSeat plants copies z n) where
      abbrev left_cut : Option Cut → Left
      left_cut cut = left_by by cut (play_of (scene_as (parts_of x) counts armed) by at (record clear { renewed = found }) a) (counts by)

      module _ (said : HasSaid plants left_cut by rel z q r) where
        ends : SaidEnds r by rel z q
        ends = subst (λ (w : Parts P C). SaidEnds r by rel z w) (sym said.1) (said_ends r by rel z q.plant seat.still.unreserved)

        notes : OtherNotesStay by (parts_of x).had q.had
        notes j other = ap (λ (w : Parts P C). slice_get w.had j) ends.0 ∙ took.notes j other

        -- its member goes on, at its seat if it has the lock still
        abbrev zz : Parts P C
        zz = record z { plant = q.plant }

        seat_zz : IsSeat plants copies zz n
        seat_zz =
            seat_spoken plants copies z q.plant z.first_alive z.second_alive z.first_found z.second_found (λ on. on) (λ on. on)
            (λ o d. ap (λ (k : DiskView). k.bytes) (said.0.acts.disks o d)) (proceeds_of (u z) (u q) said.0.acts.goes) n seat

        as_aside : q ≡ asided q zz
        as_aside = subst (λ (w : Parts P C). w ≡ asided w (record z { plant = w.plant })) (sym ends.0) refl

        freed : (inner : Bool) → q.book ≡ after_free b by inner → (((q.book.holder ≡ by) ⊎ (q.book.holder ≡ nobody)) × (q.book.holder ≡ by → IsSeat plants copies q n))
        freed inner book =
            let held : is_holder b by ≡ true = eq-eqb b.holder.0 by.0 (ap (λ (j : MemberId). j.0) turn.got.holds) in
            let free : q.book.holder ≡ nobody = ap (λ (c : Book). c.holder) book ∙ freed_holder b by inner held in
            (inr free, λ mine. absurd (let zero_by = ap (λ (j : MemberId). j.0) (sym mine ∙ free) in let some = turn.inside.0 in omega (arith, zero_by, some)))

        held_by : (release : Release) → q.book ≡ released_by release b by → (((q.book.holder ≡ by) ⊎ (q.book.holder ≡ nobody)) × (q.book.holder ≡ by → IsSeat plants copies q n))
        held_by Keep book = (
          inl (ap (λ (c : Book). c.holder) book ∙ turn.got.holds),
          (λ mine. seat_then plants copies zz q n seat_zz as_aside (beside_none plants.tells (u q)) ends.1 (subst (λ (c : Book). HoldsLock c zz.base.config n.id) (z_book ∙ sym book) seat_zz.still.holds)),
        )
        held_by Inner book = freed true book
        held_by Outer book = freed false book

        pub did_closed : ((cut : Option Cut) → q.renewals ≡ z.renewals → RenewsAs a cut found (copies_at plants t) (copies_at plants q)) → DidSo r
        did_closed renews =
            let next : IsAfter plants copies (parts_of x) q at → r ≡ went → BetweenLines y (set ms (by.0 - 1) n) (at + 1) = λ after went_on.
            let room_q : length n.room ≡ page_count x.base.config = sym (pages_of_run zz.base [] n.checkpoint n.room seat_zz.still.config seat_zz.between.drawn seat_zz.still.many) ∙ ap (λ (Q : Queue). page_count Q.config) z_base in
            let aside_q : IsAside plants copies q n = aside_then plants copies zz q n seat_zz as_aside (beside_none plants.tells (u q)) ends.1 in
            let held = held_by rel (ends.2 went_on ∙ ap (λ (c : Book). released_by rel c by) z_book) in
            between_aside plants copies (parts_of x) q at after by held.0 notes n own_n aside_q room_q held.1 turn.inside ms at turn.arm.is in
            closed_did x y at by what a told knows counts armed turn.arm.adm b found end rel closer r by z took apart said.0 (inr refl) ends.0 (set ms (by.0 - 1) n) journal printed (λ cut. renews cut (ap (λ (w : Parts P C). w.renewals) ends.0)) next
            (λ after down halted. held_halted (parts_of x) y at after by turn.inside down notes n own_n ms at turn.arm.is (ap (λ (c : Book). c.holder) (ends.3 halted) ∙ ap (λ (c : Book). c.holder) z_book ∙ turn.got.holds))

-- IT KEEPS THE LOCK

module _ {P C : Type 0} {plants : PlantGhosts P} {steadies : SteadyGhosts C} {copies : CopyGhosts C} {x mid : Complex P C plants steadies copies} {ms : List Member}
    {at : ℕ} {by : MemberId} {what : Ask} {m : Member} (turn : HasTurn x mid ms at by what Locks m) (y : Complex P C plants steadies copies) (n : Member) (stays : n.id ≡ m.id) (r : Result (Unit {0}) NodeNo)
    (frame_y : parts_of y ≡ stopped_so r m.id (seated_in (parts_of y) (parts_of mid))) (locks : SeatsAndCloses m n at Locks mid y r) where
  frame_t : (parts_of y) ≡ stopped_so r m.id (seated_in (parts_of y) (tried_in x by))
  frame_t = subst (λ (w : Parts P C). (parts_of y) ≡ stopped_so r m.id (seated_in (parts_of y) w)) turn.frame frame_y

  same_t : Stays (seated_in (parts_of y) (tried_in x by)) (parts_of y)
  same_t = subst (λ (w : Parts P C). Stays (seated_in (parts_of y) (tried_in x by)) w) (sym frame_t) (stays_stopped m.id (seated_in (parts_of y) (tried_in x by)) (seated_in (parts_of y) (tried_in x by)).plant r)

  module _ (told : Type 0) (knows : IsTold plants told) (counts : Counts) (armed : List Armed) where
    abbrev S : Scene
    S = scene_as (parts_of x) counts armed

    abbrev DidAs : Result (Unit {0}) NodeNo → Type 0
    DidAs k = DoneAt x y (set ms (by.0 - 1) n) at by what told S k

    seated : (k : Result (Unit {0}) NodeNo) → HasSeat plants copies (HasSaid plants (left_at S m.id at Locks) m.id Keep) m n (tried_in x by) (parts_of y) k → DidAs k
    seated k is =
        let z = is.mid in
        let end = ReplyClosing PlainReply in
        did_closed turn refl y n stays (ap (λ (w : Parts P C). journal_of w) same_t) (ap (λ (w : Parts P C). w.printed) same_t) told knows counts armed k z Replaced end Keep
        (record { pieces = ap (λ (c : Option Batch). once_found (flown_of c) (closes_with by at end Keep)) (turn_quiet turn).none; shaped = λ cut old new. refl; play = λ cut. refl })
        (copies_merely plants by Locks m turn.own (tried_in x by) z went (ap (λ (w : Parts P C). w.renewals) is.entered) is.acts) (copies_apart plants by Locks m.id (tried_in x by) z went is.acts)
        (ap (λ (w : Parts P C). w.base) is.entered) (ap (λ (w : Parts P C). w.book) is.entered) is.took.seat
        (subst (λ (j : MemberId). HasSaid plants (left_at S j at Locks) j Keep z (parts_of y) k) turn.own is.follows) (λ cut same. ap (λ (w : Parts P C). w.renewals) same_t)

    locks_did : DidAs r
    locks_did =
        did_seated turn refl y n stays (ap (λ (w : Parts P C). journal_of w) same_t) (ap (λ (w : Parts P C). w.printed) same_t) told knows counts armed (HasSaid plants (left_at S m.id at Locks) m.id Keep) seated r
        (subst (λ (w : Parts P C). SeatsBy plants copies (HasSaid plants (left_at S m.id at Locks) m.id Keep) m n w (parts_of y) r) turn.frame (locks S (turn_tested turn refl counts armed)))

  pub seats_done : LineDone x y (set ms (by.0 - 1) n) at by what r
  seats_done = done_so x y (set ms (by.0 - 1) n) at by what r (ap (λ (w : Parts P C). w.base) same_t) (ap (λ (w : Parts P C). w.since) same_t) turn.arm.few turn.arm.is locks_did (λ e. turn.inside)
