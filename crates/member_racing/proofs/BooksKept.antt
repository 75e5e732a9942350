-- A member's turn does nothing to the book but calls of its member: what these keep, it keeps. Its stop is one of them
-- only where the turn was halted.
use Rattle.std.proofs.Common.{◌≡◌, ◌∙◌, ⊎_elim, ℕ, true, false, List, [], Option, Some, None, Result, Ok, Err, ap, refl, subst, sym}
use Rattle.mas_types.specs.declared.ids.MemberId.{MemberId}
use Rattle.lock_cycle.specs.Books.{Book, after_seize, after_stop, after_try}
use Rattle.spool_plant.specs.declared.plant.Plant.{Ghosts as PlantGhosts}
use Rattle.ckpt_copy.specs.declared.copying.Copying.{Ghosts as CopyGhosts}
use Rattle.mas_complex.specs.Paper.{counts_of}
use Rattle.mas_complex.specs.Parts.{Parts}
use Rattle.run_turns.specs.Admissions.{Admission, Denied, Frees, Locks, Plays, Refused, Replaces, Resets, TakesOver, Unplayed, admitted}
use Rattle.run_turns.specs.Pieces.{Piece, entered}
use Rattle.run_turns.specs.Sights.{Cut, Stops}
use Rattle.race_turns.specs.Turns.{left_holder}
use Rattle.step_turns.specs.declared.states.Found.{Found}
use Rattle.step_turns.specs.declared.states.Holder.{Holder}
use Rattle.step_turns.specs.declared.states.Release.{Release}
use Rattle.step_turns.specs.declared.states.Release.TheVariants.{Inner}
use Rattle.member_node.specs.declared.member.Member.{Member}
use Rattle.member_node.specs.declared.member.NodeNo.{NodeNo}
use Rattle.member_asides.specs.Asides.{HasOnlyPrinted}
use Rattle.member_sittings.specs.declared.ends.SittingEnd.{SittingEnd}
use Rattle.member_sittings.specs.Sat.{Start}
use Rattle.member_sittings.specs.Whole.{queue_of}
use Rattle.member_resets.specs.Locks.{left_book}
use Rattle.member_resets.specs.Plays.{play_in}
use Rattle.member_resets.specs.Stand.{Stand}
use Rattle.member_resets.proofs.Acting.{changed_only}
use Rattle.member_lines.specs.Closes.{stopped_so}
use Rattle.member_racing.specs.Kinds.{ActsBy, HasSeat, SeatsAndResets, SitsBy, TakesBy}
use Rattle.member_racing.specs.Opened.{GoesAs, OpensAs, TriesBy, UnlessLeft, WaitsOn, done_of}
use Rattle.member_resets.specs.Resetting.{HasResetBy, TakesAndResets, TakesBy as ClosesTaken, untaken_book}
use Rattle.member_racing.specs.Stages.{Raced, stood_of}
use Rattle.member_racing.specs.declared.stages.Stage.{Stage as Stands}
use Rattle.member_resets.specs.Cuts.{IsCutBy, cause_by}
use Rattle.run_turns.proofs.Keeping.{CallsKeep, gave_keeps, left_keeps}
use Rattle.member_node.specs.declared.member.NodeNo.TheVariants as no_node
use Rattle.member_racing.specs.declared.stages.Stage.TheVariants as line

abbrev pub Done : Type 0
Done = Result (Unit {0}) NodeNo

-- a stop of the member keeps it, where the answer is Halted
abbrev pub StopKeeps : Done → MemberId → (Book → Type 0) → Type 0
StopKeeps r by K = r ≡ Err no_node.Halted → (b : Book) → K b → K (after_stop b by)

-- a line was cut by a stop only where it was halted
stopped_halted : (r : Done) (ps : List Piece) (cut : Option Cut) (k : Cut) → IsCutBy r ps cut → cut ≡ Some k → k.cause ≡ Stops → r ≡ Err no_node.Halted
stopped_halted (Ok done) ps cut k is same why = absurd (cc)
stopped_halted (Err e) ps None k is same why = absurd is
stopped_halted (Err e) ps (Some c) k is same why = by_cause e (sym is.cause ∙ ap (λ (d : Cut). d.cause) (let one : c ≡ k = cc in one) ∙ why) where
  by_cause : (e : NodeNo) → cause_by e ≡ Stops → (let r : Done = Err e in r) ≡ Err no_node.Halted
  by_cause no_node.Halted why = refl
  by_cause _ why = absurd (cc)

module _ {P C : Type 0} (plants : PlantGhosts P) (copies : CopyGhosts C) (K : Book → Type 0) where
  -- of a book that is this one
  kept_as : (b c : Book) → c ≡ b → K b → K c
  kept_as b c same kept = subst (λ (d : Book). K d) (sym same) kept

  -- A SITTING

  module _ (by : MemberId) (calls : CallsKeep by K) where
    seat_kept : (x seat : Parts P C) (r : Done) → HasSeat plants copies by x seat r → K x.book → K seat.book
    seat_kept x seat r took kept = kept_as (entered x.book by) seat.book (ap (λ (q : Parts P C). q.book) took.frame) (calls.tries x.book true kept)

    -- so many commands were given, and the lock was left or kept
    gave_kept : (y there : Parts P C) (n : ℕ) (r : Release) → y.book ≡ left_book there.book by n r → K there.book → K y.book
    gave_kept y there n r is kept = kept_as (left_book there.book by n r) y.book is (gave_keeps by K calls r there.book n kept)

  sits_kept : (s : Start) → CallsKeep s.holder.by K → (x y : Parts P C) (n : Member) (r : Result Stands NodeNo) → SitsBy plants copies s x y n r → K x.book → K y.book
  sits_kept s calls x y n (Ok next) o kept =
      gave_kept s.holder.by calls y o.there o.end.given o.end.release (ap (λ (q : Parts P C). q.book) o.frame)
      (kept_as (entered x.book s.holder.by) o.there.book (ap (λ (q : Parts P C). q.book) o.turn.frame ∙ ap (λ (q : Parts P C). q.book) o.turn.locked) (calls.tries x.book true kept))
  sits_kept s calls x y n (Err e) o kept = ⊎_elim
      (λ took. seat_kept s.holder.by calls x y (Err e) took kept)
      (λ sat. kept_as sat.seat.book y.book (ap (λ (q : Parts P C). q.book) sat.frame) (seat_kept s.holder.by calls x sat.seat (Ok tt) sat.took kept)) o

  -- ACTS ASIDE, and a line that only closes

  printed_kept : {T : Type 0} (r : Result T NodeNo) (by : MemberId) (x y : Parts P C) → (r ≡ Err no_node.Halted → (b : Book) → K b → K (after_stop b by)) → HasOnlyPrinted r by x y → K x.book → K y.book
  printed_kept (Ok done) by x y stops e kept = kept_as x.book y.book (ap (λ (q : Parts P C). q.book) e) kept
  printed_kept (Err no_node.NoMemory) by x y stops e kept = kept_as x.book y.book (ap (λ (q : Parts P C). q.book) e) kept
  printed_kept (Err no_node.BothLost) by x y stops e kept = kept_as x.book y.book (ap (λ (q : Parts P C). q.book) e) kept
  printed_kept (Err no_node.ConsoleFault) by x y stops e kept = kept_as x.book y.book (ap (λ (q : Parts P C). q.book) e) kept
  printed_kept (Err no_node.Halted) by x y stops o kept = ⊎_elim
      (λ e. kept_as x.book y.book (ap (λ (q : Parts P C). q.book) e) kept)
      (λ e. kept_as (after_stop x.book by) y.book (ap (λ (q : Parts P C). q.book) e) (stops refl x.book kept)) o

  acts_kept : (x y : Parts P C) (m : Member) (s : Stand) (r : Result Stands NodeNo) → StopKeeps (done_of r) m.id K → ActsBy plants copies x y m s r → K x.book → K y.book
  acts_kept x y m s (Ok next) stops o kept = printed_kept (Ok o.0.found) m.id x y (λ e. absurd (cc)) (changed_only plants copies x y m s.state (Some []) o.1 (Ok o.0.found) o.4) kept
  acts_kept x y m s (Err e) stops o kept =
      printed_kept {T = Found} (Err e) m.id x y (λ is. let same : e ≡ no_node.Halted = cc in stops (ap (λ (k : NodeNo). let d : Done = Err k in d) same))
      (changed_only plants copies x y m s.state (Some []) o.0 (Err e) o.1) kept

  said_kept : (r : Done) (by : MemberId) (x y : Parts P C) → StopKeeps r by K → y ≡ stopped_so r by (record x { plant = y.plant }) → K x.book → K y.book
  said_kept (Ok done) by x y stops e kept = kept_as x.book y.book (ap (λ (q : Parts P C). q.book) e) kept
  said_kept (Err no_node.NoMemory) by x y stops e kept = kept_as x.book y.book (ap (λ (q : Parts P C). q.book) e) kept
  said_kept (Err no_node.BothLost) by x y stops e kept = kept_as x.book y.book (ap (λ (q : Parts P C). q.book) e) kept
  said_kept (Err no_node.ConsoleFault) by x y stops e kept = kept_as x.book y.book (ap (λ (q : Parts P C). q.book) e) kept
  said_kept (Err no_node.Halted) by x y stops e kept = kept_as (after_stop x.book by) y.book (ap (λ (q : Parts P C). q.book) e) (stops refl x.book kept)

  -- A LINE THAT RESETS

  resets_kept : (h : Holder) (of : MemberId) (x y : Parts P C) (pages : ℕ) (r : Done) → CallsKeep h.by K → StopKeeps r h.by K → HasResetBy plants copies h of x y pages r → K x.book → K y.book
  resets_kept h of x y pages r calls stops o kept =
      kept_as _ y.book o.played.leaves.book
      (left_keeps h.by K calls o.cut (λ k is why. stops (stopped_halted r o.pieces o.cut k o.played.by_answer is why)) (play_in h.by o.pieces x.book (queue_of x)) (counts_of x.printed h.by) kept)

  -- a takeover
  module _ (by : MemberId) (calls : CallsKeep by K) (of : MemberId) (x y : Parts P C) where
    taken_kept : (mid : Parts P C) → mid.book ≡ after_seize x.book by of → K x.book → K mid.book
    taken_kept mid is kept = kept_as (after_seize x.book by of) mid.book is (calls.seizes x.book of kept)

    untaken_kept : (e : NodeNo) → StopKeeps (Err e) by K → y.book ≡ untaken_book e by of x.book → K x.book → K y.book
    untaken_kept no_node.Halted stops is kept = kept_as (after_stop (after_seize x.book by of) by) y.book is (stops refl (after_seize x.book by of) (calls.seizes x.book of kept))
    untaken_kept no_node.BothLost stops is kept = taken_kept y is kept
    untaken_kept no_node.ConsoleFault stops is kept = taken_kept y is kept
    untaken_kept no_node.NoMemory stops is kept = taken_kept y is kept

    seated_kept : (h : Holder) (its : h.by ≡ by) (mid z : Parts P C) (r : Result SittingEnd NodeNo) → SeatsAndResets plants copies h of mid z r → K mid.book → K z.book
    seated_kept h its mid z r g kept =
        kept_as g.seat.book z.book (ap (λ (q : Parts P C). q.book) g.frame)
        (seat_kept by calls mid g.seat (Ok tt) (subst (λ (k : MemberId). HasSeat plants copies k mid g.seat (Ok tt)) its g.took) kept)

    module _ (at : ℕ) where
      takes_kept : (r : Done) → StopKeeps r by K → TakesBy plants copies by at of x y r → K x.book → K y.book
      takes_kept (Ok done) stops o kept =
          gave_kept by calls y o.there o.end.given Inner (ap (λ (q : Parts P C). q.book) o.frame)
          (seated_kept _ refl o.mid o.there (Ok o.end) o.reset (taken_kept o.mid o.taken_over.book kept))
      takes_kept (Err e) stops o kept = ⊎_elim
          (λ u. untaken_kept e stops u.book kept)
          (λ b. let mid = taken_kept b.mid b.taken_over.book kept in ⊎_elim (λ took. seat_kept by calls b.mid y (Err e) took mid) (λ reset. seated_kept _ refl b.mid y (Err e) reset mid) b.why) o

      then_kept : (pages : ℕ) (r : Done) → StopKeeps r by K → TakesAndResets plants copies by at of x y pages r → K x.book → K y.book
      then_kept pages r stops t kept = resets_kept _ of t.mid y pages r calls stops t.reset (taken_kept t.mid t.taken.book kept)

      closes_kept : (pages : ℕ) (r : Done) → StopKeeps r by K → ClosesTaken plants copies by at of x y pages r → K x.book → K y.book
      closes_kept pages (Ok done) stops t kept = then_kept pages (Ok done) stops t kept
      closes_kept pages (Err e) stops t kept = ⊎_elim (λ u. untaken_kept e stops u.book kept) (λ k. then_kept pages (Err e) stops k kept) t

  -- A TURN

  module _ (r : Raced) (x y : Parts P C) (m n : Member) (result : Result Stands NodeNo) (mine : m.id ≡ r.by) (calls : CallsKeep r.by K) (stops : StopKeeps (done_of result) r.by K) where
    abbrev z : Parts P C
    z = record x { book = after_try x.book r.by false }

    waits_kept : (w : Parts P C) → K w.book → WaitsOn plants copies (stood_of r) w y result → K y.book
    waits_kept w kept s = kept_as w.book y.book (ap (λ (q : Parts P C). q.book) s.frame) kept

    unless_kept : (l : Option MemberId) (w : Parts P C) (A : Type 0) → K w.book → (A → K y.book) → UnlessLeft plants copies l (stood_of r) w y result A → K y.book
    unless_kept None w A kept f u = f u
    unless_kept (Some of) w A kept f u = takes_kept r.by calls of w y r.number (done_of result) stops u.takes kept

    opens_kept : (a : Admission) → OpensAs plants copies r x y m n result a → K x.book → K z.book → K y.book
    opens_kept (Refused sayer end) o kept tried = said_kept (done_of result) r.by x y stops o.frame kept
    opens_kept (Denied why) o kept tried = unless_kept (left_holder x.book) z (WaitsOn plants copies (stood_of r) z y result) tried (waits_kept z tried) o
    opens_kept (Plays task) o kept tried = sits_kept _ calls z y n result o tried
    opens_kept (Resets of) o kept tried = resets_kept _ of z y _ (done_of result) calls stops o.1 tried
    opens_kept (TakesOver of) o kept tried = closes_kept r.by calls of x y r.number _ (done_of result) stops o.1 kept
    opens_kept (Replaces dev) o kept tried = absurd o
    opens_kept Locks o kept tried = absurd o
    opens_kept Frees o kept tried = absurd o
    opens_kept Unplayed o kept tried = absurd o

    goes_kept : (s : Stands) → ((at : Stand) → s ≡ line.Sits at → at.holder.by ≡ r.by) → GoesAs plants copies r x y m n result s → K x.book → K y.book
    goes_kept line.Opens its o kept = opens_kept (admitted x.base.config x.book r.by r.what) o kept (calls.tries x.book false kept)
    goes_kept (line.Sits at) its o kept =
        unless_kept (left_holder x.book) x _ kept (λ u. sits_kept _ (subst (λ (k : MemberId). CallsKeep k K) (sym (its at refl)) calls) x y n result u kept) o
    goes_kept (line.Acts at) its o kept =
        unless_kept (left_holder x.book) x _ kept (λ u. acts_kept x y m at result (subst (λ (k : MemberId). StopKeeps (done_of result) k K) (sym mine) stops) u.0 kept) o
    goes_kept line.Closed its o kept = waits_kept x kept o

    -- whatever it did
    pub tries_kept : ((at : Stand) → r.stands ≡ line.Sits at → at.holder.by ≡ r.by) → TriesBy plants copies r x y m n result → K x.book → K y.book
    tries_kept its t kept = ⊎_elim (λ idle. kept_as x.book y.book (ap (λ (q : Parts P C). q.book) idle.frame) kept) (λ goes. goes_kept r.stands its goes.2 kept) t
