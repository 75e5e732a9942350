-- A line that replaces a copy: its member takes its seat or keeps it, replaces the copy, and says so.
use Rattle.mas_run.proofs.Names.{HasSeat, HasSaid, Began, BeganAndEnded, NoneBegan, Armed, Ask, Batch, Book, ByLock, Ckpt1, Ckpt2, Complex, Counts, Cut, Dev, Disk, Err, ForStep, Ghosts as CopyGhosts, Grant, Halt, Holder, IsAtSeat, IsBothLost, IsCkpt, IsErrOf, IsLeft, IsSeatedBy, LeavesCopies, LeavesSome, LineDone, List, LostAgain, Member, MemberId, NodeNo, None, NotLost, Ok, Option, Page, Part, Parts, PlantGhosts, Proceeds, Renewals, Renewed, RenewsBy, Replaced, Replaces, Result, Scene, Some, SomeAlive, Spool, StaysWhole, SteadyGhosts, Told, View, Work, after_stop, after_try, ap, arith, begun_on, closes_with, copies_at, each, ended_on, failed, false, flown_of, granted_by, holder_of, inl, inr, is_copy, is_open, journal_of, known_by, left, left_of as hold_left, no, no as clash, of_device, once_found, other, parts_of, pick, refl, released, replaced_closing, same_device, scene_as, set, slice_get, stopped_in, stopped_so, subst, sym, true, volume_beside, ℕ, ◌-◌, ◌∙◌, ◌≡◌, ◌≢◌, ◌≤◌, Renewing, renewed_by, SeatsBy, BothLost, ConsoleFault, Halted, NoMemory}
use Rattle.mas_run.proofs.AfterLemmas.{IsTold}
use Rattle.std.proofs.lemmas.Bool.{or_left, or_right}
use Rattle.mas_complex.specs.ReplaceNo.{ReplaceNo}
use Rattle.mas_complex.specs.Replacing.{replace_stopped}
use Rattle.member_lines.specs.Replaces.{HasGoneOn, HasReplaced, found_of, FollowsBy, IsLargeEnough, MayBeAt, MayReplace, ReplacesAndCloses, left_found, replacing_in}
use Rattle.mas_run.proofs.MuteLineLemmas.{kept_elsewhere, other_disk}
use Rattle.mas_run.proofs.PassedLemmas.{device_is, by_keeps}
use Rattle.mas_run.proofs.ArmLemmas.{its_holder, turn_holder, DoneAt, HasTurn, done_so, may_seat, turn_goes, turn_quiet, turn_tested}
use Rattle.mas_run.proofs.CopiesLemmas.{alive_same}
use Rattle.mas_run.proofs.SeatLemmas.{did_closed, tried_in, did_begun, did_seated}
use Rattle.mas_run.specs.Renewing.{CameTo, known_at}
use Rattle.mas_complex.proofs.Renewing.{none_open}
use Rattle.mas_complex.proofs.Basics.{each_on}
use Rattle.mas_complex.specs.Parts.{replaced_in}
use Rattle.mas_complex.specs.ReplaceNo.TheVariants as no
use Rattle.mas_run.proofs.ClosingLemmas.{HasMerelyActed, IsApart, copies_apart, copies_merely, error_same, then_merely, went}

-- OTHER PARTS than the device of a copy

other_part : (dev : Dev) → IsCkpt dev → (p : Part) → is_copy p ≡ false → p ≢ Disk dev
other_part dev ckpt p other same = absurd (clash true refl (sym (each (λ (d : Dev). is_copy (Disk d) ≡ true) refl refl dev ckpt) ∙ ap is_copy (sym same) ∙ other))

-- WHAT IT LEAVES, by its answer

-- of a line that was cut so what was found is known, or isn't
halt_came : (halt : Halt) (found : Renewed) (did : Renewing) → CameTo (Some found) did → CameTo (known_at halt found) did
halt_came q0 found did came = grind arith

cut_came : (cut : Option Cut) (found : Renewed) (did : Renewing) → CameTo (Some found) did → CameTo (known_by cut found) did
cut_came q0 found did came = grind arith

module _ {P C : Type 0} (plants : PlantGhosts P) (copies : CopyGhosts C) (n : Member) (dev : Dev) (ckpt : IsCkpt dev) (x y : Parts P C) where
  -- what is as it was
  replaced_rest : (answer : Result (Unit {0}) ReplaceNo) → HasReplaced plants copies n dev x y answer → (y.base ≡ x.base) × (y.book ≡ x.book) × (y.had ≡ x.had)
  replaced_rest (Ok done) h = (ap (λ (w : Parts P C). w.base) h.frame, ap (λ (w : Parts P C). w.book) h.frame, ap (λ (w : Parts P C). w.had) h.frame)
  replaced_rest (Err no.NotLost) h = (ap (λ (w : Parts P C). w.base) h.frame, ap (λ (w : Parts P C). w.book) h.frame, ap (λ (w : Parts P C). w.had) h.frame)
  replaced_rest _ h = (ap (λ (w : Parts P C). w.base) h.frame, ap (λ (w : Parts P C). w.book) h.frame, ap (λ (w : Parts P C). w.had) h.frame)

  -- the moments: a line of which these are a part began before them, and ended after
  module _ (old new : View) (from : old.now ≤ (plants.view x.plant).now) (to : (plants.view y.plant).now ≤ new.now) where
    abbrev RenewsIn : Option Renewed → Type 0
    RenewsIn known = RenewsBy known dev (record { renewals = x.renewals; view = old }) (record { renewals = y.renewals; view = new })

    -- of a line that closes by what was found, and of one that doesn't close
    renews_in : (answer : Result (Unit {0}) ReplaceNo) → HasReplaced plants copies n dev x y answer → RenewsIn (found_of answer)
    renews_in (Ok done) h = record { did = BeganAndEnded (plants.view x.plant).now (plants.view y.plant).now; came = tt; within = (from, h.replaces.later, to); is = ap (λ (w : Parts P C). w.renewals) h.frame }
    renews_in (Err no.Failed) h = record { did = Began (plants.view x.plant).now; came = tt; within = (from, let later = h.replaces.later in omega (arith, later, to)); is = ap (λ (w : Parts P C). w.renewals) h.frame }
    renews_in (Err no.Halted) h = record { did = Began (plants.view x.plant).now; came = tt; within = (from, let later = h.replaces.later in omega (arith, later, to)); is = ap (λ (w : Parts P C). w.renewals) h.frame }
    renews_in _ h = record { did = NoneBegan; came = tt; within = tt; is = ap (λ (w : Parts P C). w.renewals) h.frame }

    -- from a value with the same moments to another, by what is known of it
    renews_of : (answer : Result (Unit {0}) ReplaceNo) → HasReplaced plants copies n dev x y answer → (known : Option Renewed) → ((did : Renewing) → CameTo (found_of answer) did → CameTo known did) → (rs ss : Renewals)
        → x.renewals ≡ rs → ss ≡ y.renewals → RenewsBy known dev (record { renewals = rs; view = old }) (record { renewals = ss; view = new })
    renews_of answer h known came rs ss one two =
        let r = renews_in answer h in record { did = r.did; came = came r.did r.came; within = r.within; is = two ∙ r.is ∙ ap (λ (k : Renewals). renewed_by dev r.did k) one }

  -- THE COPIES

  -- both count as lost where the answer says so
  leaves_by : (r : Result (Unit {0}) NodeNo) → IsLeft x.first_alive y.first_alive x.second_alive y.second_alive → (r ≡ failed BothLost → IsBothLost y.first_alive y.second_alive) → LeavesSome plants x y r
  leaves_by q0 left both = grind arith

  -- the copy on a device: it is there, and good, if it counts as alive
  record IsSoOn (d : Dev) : Type 0 where
    pub up : pick d x.first_alive x.second_alive ≡ true → pick d y.first_alive y.second_alive ≡ true
    pub there : pick d y.first_alive y.second_alive ≡ true → (pick d x.first_alive x.second_alive ≡ true → (plants.view x.plant).lost (Disk d) ≡ false) → (plants.view y.plant).lost (Disk d) ≡ false
    pub whole : StaysWhole (pick d x.first_alive x.second_alive) (of_device d x.renewals) (pick d y.first_alive y.second_alive) (of_device d y.renewals)

  -- its device and its renewals are as they were
  abbrev IsKeptOn : Dev → Type 0
  IsKeptOn d = ((plants.view y.plant).lost (Disk d) ≡ (plants.view x.plant).lost (Disk d)) × (of_device d y.renewals ≡ of_device d x.renewals)

  -- it counts as before, and is kept if it counts as alive
  so_kept : (d : Dev) → pick d y.first_alive y.second_alive ≡ pick d x.first_alive x.second_alive → (pick d x.first_alive x.second_alive ≡ true → IsKeptOn d) → IsSoOn d
  so_kept d same kept = record {
    up = λ was. same ∙ was;
    there = λ now there. let was = sym same ∙ now in (kept was).0 ∙ there was;
    whole = λ now before. let was = sym same ∙ now in ap is_open (kept was).1 ∙ before was;
  }

  module _ (answer : Result (Unit {0}) ReplaceNo) (h : HasReplaced plants copies n dev x y answer) where
    replaced_goes : Proceeds (plants.view x.plant) (plants.view y.plant)
    replaced_goes =
        let lost : (p : Part) → is_copy p ≡ false → (plants.view x.plant).lost p ≡ true → (plants.view y.plant).lost p ≡ true = λ p other is. h.replaces.else_lost p (other_part dev ckpt p other) ∙ is in
        assumption (lost, h.replaces)

    -- what the call leaves of another device than the one that was to be replaced
    kept_on : (d : Dev) → IsCkpt d → same_device d dev ≡ false → IsKeptOn d
    kept_on d is_ckpt apart = (h.replaces.else_lost (Disk d) (other_disk dev d apart), by_keeps d is_ckpt dev apart (copies_at plants x) (copies_at plants y) (found_of answer) (renews_in (plants.view x.plant) (plants.view y.plant) (omega arith) (omega arith) answer h))

    leaves_so : ((d : Dev) → IsCkpt d → IsSoOn d) → (r : Result (Unit {0}) NodeNo) → LeavesSome plants x y r → LeavesCopies plants x y r
    leaves_so so r left =
        record {
          devices = record {
            goes = replaced_goes;
            copies = λ d is_ckpt. record { failed = λ was gone. absurd (clash (pick d y.first_alive y.second_alive) ((so d is_ckpt).up was) gone); there = (so d is_ckpt).there };
            grow = λ d. inl (h.replaces.loses d);
            left = left;
          };
          whole = λ d is_ckpt. (so d is_ckpt).whole;
        }

    -- none was replaced
    leaves_still : y.first_alive ≡ x.first_alive → y.second_alive ≡ x.second_alive → ((d : Dev) → IsCkpt d → pick d x.first_alive x.second_alive ≡ true → IsKeptOn d) → (r : Result (Unit {0}) NodeNo)
        → (r ≡ failed BothLost → IsBothLost y.first_alive y.second_alive) → LeavesCopies plants x y r
    leaves_still one two kept r both = leaves_so (λ d is_ckpt. so_kept d (alive_same plants x y one two d) (kept d is_ckpt)) r (leaves_by r (inr (one, two)) both)

    -- a copy that counts as lost was to be replaced
    leaves_lost : (IsErrOf answer no.NotLost → ⊥) → y.first_alive ≡ x.first_alive → y.second_alive ≡ x.second_alive → (r : Result (Unit {0}) NodeNo)
        → (r ≡ failed BothLost → IsBothLost y.first_alive y.second_alive) → LeavesCopies plants x y r
    leaves_lost dead one two = leaves_still one two (λ d is_ckpt was. kept_on d is_ckpt (device_is d dev (λ same. dead (h.alive (subst (λ (k : Dev). pick k x.first_alive x.second_alive ≡ true) same was)))))

  -- it was replaced
  so_own : HasReplaced plants copies n dev x y (Ok tt) → IsSoOn dev
  so_own h = record {
    up = λ was. h.good;
    there = λ now was. h.formed.there;
    whole = λ now before. ap (λ (w : Parts P C). is_open (of_device dev w.renewals)) h.frame ∙ each (λ (d : Dev). is_open (of_device d (ended_on d (plants.view y.plant).now (begun_on dev (plants.view x.plant).now x.renewals))) ≡ false) (none_open (begun_on dev (plants.view x.plant).now x.renewals).first (plants.view y.plant).now) (none_open (begun_on dev (plants.view x.plant).now x.renewals).second (plants.view y.plant).now) dev ckpt;
  }

  -- the other copy counts as it did
  so_other : HasReplaced plants copies n dev x y (Ok tt) → IsSoOn (other dev Ckpt1 Ckpt2)
  so_other h =
      let same : pick (other dev Ckpt1 Ckpt2) y.first_alive y.second_alive ≡ pick (other dev Ckpt1 Ckpt2) x.first_alive x.second_alive =
      each (λ (d : Dev). y ≡ replaced_in {T = Unit {0}} (Ok tt) d (plants.view x.plant).now (plants.view y.plant).now y x → pick (other d Ckpt1 Ckpt2) y.first_alive y.second_alive ≡ pick (other d Ckpt1 Ckpt2) x.first_alive x.second_alive)
      (λ is. ap (λ (w : Parts P C). w.second_alive) is) (λ is. ap (λ (w : Parts P C). w.first_alive) is) dev ckpt h.frame in
      so_kept (other dev Ckpt1 Ckpt2) same (λ was. kept_on (Ok tt) h (other dev Ckpt1 Ckpt2) (each (λ (d : Dev). IsCkpt (other d Ckpt1 Ckpt2)) (tt {0}) (tt {0}) dev ckpt) (each (λ (d : Dev). same_device (other d Ckpt1 Ckpt2) d ≡ false) refl refl dev ckpt))

  replaced_leaves : (answer : Result (Unit {0}) ReplaceNo) (r : Result (Unit {0}) NodeNo) → HasReplaced plants copies n dev x y answer → (r ≡ failed BothLost → IsBothLost y.first_alive y.second_alive)
      → LeavesCopies plants x y r
  replaced_leaves (Ok done) r h both = leaves_so (Ok tt) h (each_on IsSoOn dev ckpt (so_own h) (so_other h)) r (leaves_by r (inl (each (λ (d : Dev). pick d y.first_alive y.second_alive ≡ true → SomeAlive y.first_alive y.second_alive) (or_left y.first_alive y.second_alive) (or_right y.first_alive y.second_alive) dev ckpt h.good)) both)
  replaced_leaves (Err no.Failed) r h both = leaves_lost (Err no.Failed) h (λ is. absurd (cc)) (ap (λ (w : Parts P C). w.first_alive) h.frame) (ap (λ (w : Parts P C). w.second_alive) h.frame) r both
  replaced_leaves (Err no.Halted) r h both = leaves_lost (Err no.Halted) h (λ is. absurd (cc)) (ap (λ (w : Parts P C). w.first_alive) h.frame) (ap (λ (w : Parts P C). w.second_alive) h.frame) r both
  replaced_leaves another r h both = leaves_still another h (ap (λ (w : Parts P C). w.first_alive) h.frame) (ap (λ (w : Parts P C). w.second_alive) h.frame)
      (λ d is_ckpt was. (ap (λ (w : Parts P C). (plants.view w.plant).lost (Disk d)) h.frame, ap (λ (w : Parts P C). of_device d w.renewals) h.frame)) r both

  both_lost : (answer : Result (Unit {0}) ReplaceNo) → HasReplaced plants copies n dev x y answer → answer ≡ Err no.BothLost → IsBothLost y.first_alive y.second_alive
  both_lost answer h is =
      let both = h.both is in
      let same : y ≡ x = (subst (λ (j : Result (Unit {0}) ReplaceNo). HasReplaced plants copies n dev x y j) is h).frame in
      (ap (λ (w : Parts P C). w.first_alive) same ∙ both.0, ap (λ (w : Parts P C). w.second_alive) same ∙ both.1)

  -- acts in which nothing was said, by a line whose answer says so whether its member was stopped
  replaced_merely : (by : MemberId) → n.id ≡ by → (answer : Result (Unit {0}) ReplaceNo) (r : Result (Unit {0}) NodeNo) → HasReplaced plants copies n dev x y answer → stopped_in r ≡ replace_stopped answer
      → (r ≡ failed ConsoleFault → ⊥) → (r ≡ failed BothLost → answer ≡ Err no.BothLost) → HasMerelyActed plants by (Replaces dev) x y r
  replaced_merely by own answer r h same other both =
      let reps = h.replaces in
      subst (λ (k : MemberId). HasMerelyActed plants k (Replaces dev) x y r) own (record {
        acts = record {
          goes = replaced_goes answer h;
          stays = λ d apart is. reps.else_lost (Disk d) (other_disk dev d apart) ∙ is;
          arms = reps.arms;
          spares = rw same (let volumes : (j : ℕ) → (plants.view y.plant).loses (Spool j) ≡ (plants.view x.plant).loses (Spool j) = λ j. reps.loses (Spool j) in assumption (volumes, reps));
          stopped = λ is. reps.halted (sym same ∙ ap stopped_in is);
          failed = λ is. absurd (other is);
        };
        papers = λ t. (h.elsewhere t).papers;
        wires = λ t. (h.elsewhere t).wires;
        volumes = λ t. kept_elsewhere dev (plants.view x.plant) (plants.view y.plant) (λ n. volume_beside n dev ckpt) (h.elsewhere t);
        stay = record {
          lost = λ n is. reps.else_lost (Disk (Spool n)) (other_part dev ckpt (Disk (Spool n)) refl);
          faults = λ n is. reps.else_faults (Disk (Spool n)) (other_part dev ckpt (Disk (Spool n)) refl);
        };
        kept = replaced_leaves answer r h (λ is. both_lost answer h (both is));
        notes = λ j apart. ap (λ (had : List (List Page)). slice_get had j) (replaced_rest answer h).2;
      })

  replaced_unsaid : (answer : Result (Unit {0}) ReplaceNo) → HasReplaced plants copies n dev x y answer → IsApart plants x y
  replaced_unsaid answer h t = ((h.elsewhere t).console (plants.view y.plant).now h.replaces.later (omega arith), h.replaces.loses)

-- THE LINE

-- once its member is stopped in the book the book alone differs, and what is reserved
stopped_rest : {P C : Type 0} (e : NodeNo) (by : MemberId) (z w : Parts P C) → w ≡ stopped_so (failed e) by z → w ≡ record z { book = w.book; reserved = w.reserved }
stopped_rest Halted by z w is = is ∙ ap (λ (k : Parts _ _). record z { book = k.book; reserved = k.reserved }) (sym is)
stopped_rest _ by z w is = is ∙ ap (λ (k : Parts _ _). record z { book = k.book; reserved = k.reserved }) (sym is)

module _ {P C : Type 0} {plants : PlantGhosts P} {steadies : SteadyGhosts C} {copies : CopyGhosts C} {x mid : Complex P C plants steadies copies} {ms : List Member}
    {at : ℕ} {by : MemberId} {what : Ask} {dev : Dev} {m : Member} (turn : HasTurn x mid ms at by what (Replaces dev) m)
    (h : Holder) (same : h ≡ record { by = by; step = at; hold = hold_left mid.book by; grant = granted_by x.book by }) (ckpt : IsCkpt dev) where
  abbrev t : Parts P C
  t = tried_in x by

  abbrev k : Holder
  k = turn_holder turn

  abbrev u : Parts P C → View
  u z = plants.view z.plant

  -- IT MAY

  at_mid : (grant : Grant) → granted_by x.book by ≡ grant → MayBeAt plants copies grant (parts_of mid) m
  at_mid ForStep is_so = may_seat turn
  at_mid ByLock is_so = let go : (grant : Grant) → granted_by x.book by ≡ grant → IsSeatedBy plants copies grant t m = λ grant is_so. subst (λ (c : Grant). IsSeatedBy plants copies c t m) is_so (turn_goes turn (Work 0) (omega arith)).seat in
      subst (λ (w : Parts P C). IsAtSeat plants copies w m) (sym turn.frame) (record { seat = go ByLock is_so; level = let below = turn.arm.below in omega (arith, below) })

  pub may_replace : MayReplace mid m h dev
  may_replace = record {
    ckpt = ckpt;
    at = subst (λ (j : Holder). MayBeAt plants copies j.grant (parts_of mid) m) (sym (its_holder turn h same)) (at_mid (granted_by x.book by) refl);
    size = subst (λ (w : Parts P C). IsLargeEnough plants copies w dev) (sym turn.frame) (each (λ (d : Dev). IsLargeEnough plants copies (parts_of x) d) turn.arm.is.large.0 turn.arm.is.large.1 dev ckpt);
  }

  -- WHAT IT LEFT

  module _ (y : Complex P C plants steadies copies) (n : Member) (stays : n.id ≡ m.id) (r : Result (Unit {0}) NodeNo)
      (frame_y : parts_of y ≡ replacing_in (parts_of y) (parts_of mid)) (replaces : ReplacesAndCloses m n h dev mid y r) where
    abbrev q : Parts P C
    q = parts_of y

    own_n : n.id ≡ by
    own_n = stays ∙ turn.own

    frame_t : q ≡ replacing_in q t
    frame_t = subst (λ (w : Parts P C). q ≡ replacing_in q w) turn.frame frame_y

    journal : journal_of q ≡ journal_of t
    journal = ap (λ (w : Parts P C). journal_of w) frame_t

    printed : q.printed ≡ t.printed
    printed = ap (λ (w : Parts P C). w.printed) frame_t

    module _ (told : Type 0) (knows : IsTold plants told) (counts : Counts) (armed : List Armed) where
      abbrev S : Scene
      S = scene_as (parts_of x) counts armed

      abbrev DidSo : Result (Unit {0}) NodeNo → Type 0
      DidSo j = DoneAt x y (set ms (by.0 - 1) n) at by what told S j

      -- IT HAS ITS SEAT, and then was to replace the copy

      module _ (k_r : Result (Unit {0}) NodeNo) (seat : HasSeat plants copies (HasGoneOn plants copies S n k dev) m n t q k_r) where
        abbrev s : Parts P C
        s = seat.mid

        abbrev z : Parts P C
        z = seat.follows.there

        abbrev answer : Result (Unit {0}) ReplaceNo
        answer = seat.follows.answer

        replaced : HasReplaced plants copies n dev s z answer
        replaced = seat.follows.replaced

        same_renewals : s.renewals ≡ t.renewals
        same_renewals = ap (λ (w : Parts P C). w.renewals) seat.entered

        took : HasMerelyActed plants by (Replaces dev) t s went
        took = copies_merely plants by (Replaces dev) m turn.own t s went same_renewals seat.acts

        rest : (z.base ≡ s.base) × (z.book ≡ s.book) × (z.had ≡ s.had)
        rest = replaced_rest plants copies n dev ckpt s z answer replaced

        unsaid : IsApart plants t z
        unsaid o =
            let one = copies_apart plants by (Replaces dev) m.id t s went seat.acts o in
            let two = replaced_unsaid plants copies n dev ckpt s z answer replaced o in (two.0 ∙ one.0, λ d. two.1 d ∙ one.1 d)

        z_book : z.book ≡ (after_try x.book by false)
        z_book = rest.1 ∙ ap (λ (w : Parts P C). w.book) seat.entered

        -- IT CLOSED

        closes : (found : Renewed) → found_of answer ≡ Some found → replace_stopped answer ≡ false → HasSaid plants (left_found S n.id at dev found) n.id (released k.grant k.hold 0 Told) z q k_r → DidSo k_r
        closes found is_found up said =
            let end = replaced_closing dev found in
            did_closed turn refl y n stays journal printed told knows counts armed k_r z found end (released k.grant k.hold 0 Told)
            (record { pieces = ap (λ (c : Option Batch). once_found (flown_of c) (closes_with by at end (released k.grant k.hold 0 Told))) (turn_quiet turn).none; shaped = λ cut old new. refl; play = λ cut. refl })
            (then_merely plants by (Replaces dev) t s z went took (replaced_merely plants copies n dev ckpt s z by own_n answer went replaced (sym up) (λ e. absurd (cc)) (λ e. absurd (cc)))) unsaid
            (rest.0 ∙ ap (λ (w : Parts P C). w.base) seat.entered) z_book replaced.seat (subst (λ (j : MemberId). HasSaid plants (left_found S j at dev found) j (released k.grant k.hold 0 Told) z q k_r) own_n said)
            (λ cut same. renews_of plants copies n dev ckpt s z (u t) (u q) took.acts.goes.later said.0.acts.goes.later answer replaced (known_by cut found) (λ did came. cut_came cut found did (subst (λ (k : Option Renewed). CameTo k did) is_found came)) t.renewals q.renewals same_renewals same)

        -- IT DIDN'T CLOSE

        opens : (e : NodeNo) → k_r ≡ failed e → q ≡ stopped_so k_r n.id z → stopped_in (failed e) ≡ replace_stopped answer → e ≢ ConsoleFault
            → (e ≡ BothLost → answer ≡ Err no.BothLost) → DidSo k_r
        opens e is_e frame same_stop heard both =
            let frame_q : q ≡ stopped_so (failed e) n.id z = subst (λ (j : Result (Unit {0}) NodeNo). q ≡ stopped_so j n.id z) is_e frame in
            let whole = stopped_rest e n.id z q frame_q in
            let to : (u z).now ≤ (u q).now = subst (λ (w : Parts P C). (u z).now ≤ (u w).now) (sym whole) (omega arith) in
            let acts : HasMerelyActed plants by (Replaces dev) s z (failed e) = replaced_merely plants copies n dev ckpt s z by own_n answer (failed e) replaced same_stop
            (λ is_so. heard (error_same e ConsoleFault is_so)) (λ is_so. both (error_same e BothLost is_so)) in
            subst (λ (j : Result (Unit {0}) NodeNo). DidSo j) (sym is_e)
            (did_begun turn refl y n stays journal printed told knows counts armed e heard
            (then_merely plants by (Replaces dev) t s q (failed e) took
            (subst (λ (w : Parts P C). HasMerelyActed plants by (Replaces dev) s w (failed e)) (sym whole) (assumption acts)))
            (subst (λ (w : Parts P C). IsApart plants t w) (sym whole) unsaid)
            (renews_of plants copies n dev ckpt s z (u t) (u q) took.acts.goes.later to answer replaced None (λ did came. tt) t.renewals q.renewals same_renewals (ap (λ (w : Parts P C). w.renewals) whole))
            (λ halted. ap (λ (w : Parts P C). w.book) frame_q ∙ ap (λ (j : NodeNo). (stopped_so (failed j) n.id z).book) halted ∙ ap (λ (c : Book). after_stop c n.id) z_book ∙ ap (λ (j : MemberId). after_stop (after_try x.book by false) j) own_n))

        did_by : (a : Result (Unit {0}) ReplaceNo) → answer ≡ a → FollowsBy plants copies (found_of a) S n.id k dev a z q k_r → DidSo k_r
        did_by (Ok done) is_so follows = closes Replaced (ap found_of is_so) (ap replace_stopped is_so) follows
        did_by (Err no.NotLost) is_so follows = closes NotLost (ap found_of is_so) (ap replace_stopped is_so) follows
        did_by (Err no.Failed) is_so follows = closes LostAgain (ap found_of is_so) (ap replace_stopped is_so) follows
        did_by (Err no.Halted) is_so follows = opens Halted follows.0 follows.1 (sym (ap replace_stopped is_so)) (λ e. absurd (cc)) (λ e. absurd (cc))
        did_by (Err no.NoMemory) is_so follows = opens NoMemory follows.0 follows.1 (sym (ap replace_stopped is_so)) (λ e. absurd (cc)) (λ e. absurd (cc))
        did_by (Err no.BothLost) is_so follows = opens BothLost follows.0 follows.1 (sym (ap replace_stopped is_so)) (λ e. absurd (cc)) (λ e. is_so)

      did : DidSo r
      did =
          let here : holder_of S m.id h.step (Replaces dev) ≡ h =
          ap (λ (j : MemberId). holder_of S j h.step (Replaces dev)) turn.own ∙ ap (λ (j : Holder). holder_of S by j.step (Replaces dev)) (its_holder turn h same) ∙ sym (its_holder turn h same) in
          did_seated turn refl y n stays journal printed told knows counts armed (HasGoneOn plants copies S n k dev) (λ k_r seat. did_by k_r seat (seat.follows.answer) refl seat.follows.follows) r
          (subst (λ (j : Holder). SeatsBy plants copies (HasGoneOn plants copies S n j dev) m n t q r) (its_holder turn h same)
          (subst (λ (w : Parts P C). SeatsBy plants copies (HasGoneOn plants copies S n h dev) m n w q r) turn.frame (replaces S (record { tested = turn_tested turn refl counts armed; holder = here }))))

    -- THE LINE

    pub replaces_done : LineDone x y (set ms (by.0 - 1) n) at by what r
    replaces_done = done_so x y (set ms (by.0 - 1) n) at by what r (ap (λ (w : Parts P C). w.base) frame_t) (ap (λ (w : Parts P C). w.since) frame_t) turn.arm.few turn.arm.is did (λ e. turn.inside)
