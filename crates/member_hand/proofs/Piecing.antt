-- A piece of a step whose sitting ended well: what it leaves, whole, or cut in the acts that follow the sitting.
use Rattle.std.proofs.Common.{◌≡◌, ◌≢◌, ℕ, ◌+◌, ◌≤◌, false, if◌then◌else◌, List, [], ◌∷◌, ◌++◌, length, map, take, append-nil, All, Option, Some, None, Result, Ok, Err, refl, sym, ap, ◌∙◌, subst}
use Rattle.mas_types.specs.declared.ids.MemberId.{MemberId}
use Rattle.mas_types.specs.declared.journals.Batch.{Batch}
use Rattle.mas_types.specs.declared.journals.Entry.{Entry}
use Rattle.mas_types.specs.declared.journals.Fate.{Fate}
use Rattle.mas_types.specs.declared.queues.Queue.{Queue}
use Rattle.mas_types.specs.Journal.{is_kept}
use Rattle.mas_types.specs.Run.{run}
use Rattle.lock_cycle.specs.Books.{Book, after_spend}
use Rattle.spool_plant.specs.Acts.{SameWires}
use Rattle.spool_plant.specs.View.{Line, View, paper_now}
use Rattle.spool_plant.specs.declared.plant.Plant.{Ghosts as PlantGhosts}
use Rattle.ckpt_copy.specs.declared.copying.Copying.{Ghosts as CopyGhosts}
use Rattle.mas_complex.specs.Journals.{kept_all as kept_entries}
use Rattle.mas_complex.specs.Paper.{SamePapers, counts_of}
use Rattle.mas_complex.specs.Parts.{Parts}
use Rattle.mas_complex.proofs.Batches.{kept_all_append, run_append}
use Rattle.member_node.specs.declared.member.Member.{Member}
use Rattle.member_node.specs.declared.member.NodeNo.{NodeNo}
use Rattle.member_node.specs.declared.member.NodeNo.TheVariants.{BothLost, Halted, ConsoleFault, NoMemory}
use Rattle.member_node.specs.Calls.{IsOnlyOn, VolumesStay, console_now, none_lost}
use Rattle.member_node.proofs.CourseLemmas.{only_none, only_on, papers_none, papers_on, stay_then, wires_then}
use Rattle.member_work.specs.Printing.{IsBeside}
use Rattle.step_turns.specs.Courses.{holder_then}
use Rattle.step_turns.specs.Entries.{all_entries}
use Rattle.step_turns.specs.Sittings.{Sitting, sit}
use Rattle.step_turns.specs.declared.states.Found.{Found}
use Rattle.step_turns.specs.declared.states.Release.{Release}
use Rattle.step_turns.specs.declared.states.State.{State}
use Rattle.step_turns.specs.declared.states.Aside.TheVariants.{Acknowledge, Exchange, PrintLines, ReadText, SpoolArrival, SpoolDeck, SpoolOutputs}
use Rattle.step_turns.specs.declared.states.State.TheVariants.{Away, Fresh, Rested, Told}
use Rattle.step_turns.specs.declared.states.Task.TheVariants.{Deck, Give, Line as LineTask, Work}
use Rattle.step_turns.proofs.Sittings.{lines_are_said_at_the_end, some_may_follow}
use Rattle.run_turns.specs.Cuts.{book_cut, broken, kept_all, stopped_by as stopped_for, whole}
use Rattle.run_turns.specs.Pieces.{Piece, entered, piece_of, released_by}
use Rattle.run_turns.specs.Scenes.{count_then}
use Rattle.run_turns.specs.Sights.{Waiting}
use Rattle.run_turns.proofs.Locks.{entries_kept}
use Rattle.member_sittings.specs.declared.ends.SittingEnd.{SittingEnd}
use Rattle.member_sittings.specs.Left.{Said, said_of}
use Rattle.member_sittings.specs.Sat.{IsSat, Start, journal_of}
use Rattle.member_sittings.specs.Whole.{IsSeat, queue_of}
use Rattle.member_hand.specs.Asides.{ActsAfter}
use Rattle.member_hand.specs.Cuts.{AreBatched, IsTight, cause_by}
use Rattle.member_hand.specs.Found.{names_found}
use Rattle.member_hand.specs.Locks.{MayHold, left_book, next_holder}
use Rattle.member_hand.specs.Hears.{GivesOnly, HearsIn, ReaderStaysIn, TakesNothing, line_served}
use Rattle.member_hand.specs.Plays.{HasActedIn, HasPieced, HasPlayed, IfCommand, IfNoPrint, HasToldPiece, IsOwnPiece, IsPiece, Leaves, Writes, one_left, piece_with, stopped_by}
use Rattle.member_hand.specs.Quiet.{IsQuiet}
use Rattle.member_hand.specs.Sits.{ComesTo, IsLineTask, IsWork, WaitsWell}
use Rattle.member_hand.specs.Turns.{HasTurned}
use Rattle.member_decks.specs.Steps.{AreOf}
use Rattle.member_frames.specs.Asides.{HasOnlyPrinted}
use Rattle.member_hand.proofs.Acting.{ActsBeside, acted_err, acted_ok, acts_beside, asided, book_then, changed_only, only_these, quiet_then, stay_by, then_stopped, unreserved_by, unreserved_then}
use Rattle.member_hand.proofs.Batching.{batched_later, batched_sooner}
use Rattle.member_hand.proofs.Cutting.{IsLeftAt, acted_stopped, aside_tight, aside_unbroken, bare_cut, book_stopped, cut_at, its_piece, its_queue, its_sitting, left_stopped, told_cut}
use Rattle.member_hand.proofs.Serving.{same_line}
use Rattle.member_hand.proofs.StepKinds.{if_all, if_silent, no_exchange, of_stays_in, stays_from, still_silent}
use Rattle.member_hand.proofs.Wiring.{gives_after, hears_in, takes_none, takes_still, takes_then}
use Rattle.member_hand.proofs.Ending.{journal_is}
use Rattle.member_hand.proofs.Entering.{entered_members}
use Rattle.member_hand.proofs.Finding.{failed_at, found_at}
use Rattle.member_hand.proofs.Following.{acts_then}
use Rattle.member_hand.proofs.Inking.{InkedTo, InkedWhole, calm_given, calm_lines, err_inked, found_lines, halts_idle, heard_in, ok_inked, took_none}
use Rattle.member_hand.proofs.Locking.{left_members}
use Rattle.member_hand.proofs.Reaching.{reached_all}
use Rattle.member_hand.proofs.Passages.{passage_of}
use Rattle.member_hand.proofs.Shaping.{shaped_one}
use Rattle.member_hand.proofs.Turning.{papers_are, sat_book, sat_dry, sat_stays, sat_still, seat_acted, seat_batches, seat_book, seat_printed, seat_queue, view_stopped}

-- the entries of batches that are all kept
kept_are : (by : MemberId) (from now : ℕ) (ess : List (List Entry)) (bs : List Batch) → AreBatched by from now (kept_all ess) bs → kept_entries bs ≡ all_entries ess
kept_are by from now [] [] all = refl
kept_are by from now [] (b ∷ bs) all = absurd all
kept_are by from now (es ∷ ess) [] all = absurd all
kept_are by from now (es ∷ ess) (b ∷ bs) all =
    ap (λ (f : Fate). (if is_kept f then b.entries else []) ++ kept_entries bs) all.0.kept ∙ ap (λ (l : List Entry). l ++ kept_entries bs) all.0.entries
    ∙ ap (λ (l : List Entry). es ++ l) (kept_are by b.last now ess bs all.1)

take_all : (lines : List (List ℕ)) → take (length lines) lines ≡ lines
take_all [] = refl
take_all (l ∷ ls) = ap (λ (k : List (List ℕ)). l ∷ k) (take_all ls)

module _ {P C : Type 0} (plants : PlantGhosts P) (copies : CopyGhosts C) (s : Start) (x y : Parts P C) (end : SittingEnd) (turn : HasTurned plants s x y end) (may : MayHold x.book s.holder.by) (none : x.current ≡ None) (unplaced : x.placed ≡ false)
    (ne : s.state ≢ Told) (m : Member) (mine : s.holder.by ≡ m.id) (seat : IsSeat plants copies y m) (comes : ComesTo s.state end.next) where
  abbrev me : MemberId
  me = s.holder.by

  abbrev v : Parts P C → View
  v q = plants.view q.plant

  abbrev z : Parts P C
  z = turn.seat

  -- once the lock is left, or kept
  abbrev pub left : Parts P C
  left = record y { book = left_book y.book me end.given end.release }

  sooner : (v x).now ≤ (v z).now
  sooner = turn.took.on.course.goes.later

  -- THE SITTING

  -- where content is told it is the one that the queue gives
  abbrev SitsAs : Sitting → Type 0
  SitsAs t = IsSat plants me t z y (Ok end)

  its_sat : plants.tells → SitsAs (its_sitting s x)
  its_sat t = subst SitsAs (turn.sat.is t ∙ ap (λ (Q : Queue). sit Q s.holder s.state s.found) (seat_queue plants copies s x z may none unplaced turn.locked ne)) turn.sat.sat

  module _ (t : Sitting) (sat : SitsAs t) where
    sat_batches : AreBatched me (v z).now (v y).now (kept_all t.batches) sat.more
    sat_batches = reached_all me (v z).now (v y).now sat.reach t.batches sat.more sat.left sat.reached

    sat_journal : y.batches ≡ x.batches ++ sat.more
    sat_journal =
        sym (journal_is plants copies y seat.still.none seat.still.unplaced) ∙ sat.journal ∙ ap (λ (bs : List Batch). bs ++ sat.more) (seat_batches plants copies s x z may none unplaced turn.locked ne)

    base_is : y.base ≡ x.base
    base_is = ap (λ (q : Parts P C). q.base) turn.frame ∙ ap (λ (q : Parts P C). q.base) turn.locked

    sat_queue : queue_of y ≡ run (queue_of x) (all_entries t.batches)
    sat_queue =
        ap (λ (b : Queue). run b (kept_entries y.batches)) base_is
        ∙ ap (λ (bs : List Batch). run x.base (kept_entries bs)) sat_journal
        ∙ ap (run x.base) (kept_all_append x.batches sat.more)
        ∙ run_append x.base (kept_entries x.batches) (kept_entries sat.more)
        ∙ ap (run (queue_of x)) (kept_are me (v z).now (v y).now t.batches sat.more sat_batches)

    sat_counts : counts_of y.printed me ≡ count_then me (all_entries t.batches) (counts_of x.printed me)
    sat_counts = sat.counts.own ∙ ap (λ (l : List ℕ). count_then me (all_entries t.batches) (counts_of l me)) (seat_printed plants copies s x z may none unplaced turn.locked ne)

    sat_other_counts : (k : MemberId) → k ≢ me → counts_of y.printed k ≡ counts_of x.printed k
    sat_other_counts k other = sat.counts.others k other ∙ ap (λ (l : List ℕ). counts_of l k) (seat_printed plants copies s x z may none unplaced turn.locked ne)

    sat_console : plants.tells → console_now (v y) ≡ console_now (v x) ++ map whole t.lines
    sat_console told =
        let said = sat.console told in
        said.is ∙ ap (λ (k : Said). console_now (v z) ++ said_of k t.lines) said.by_answer
        ∙ ap (λ (ls : List Line). console_now (v z) ++ ls) (append-nil (map whole (take (length t.lines) t.lines)) ∙ ap (λ (ls : List (List ℕ)). map whole ls) (take_all t.lines))
        ∙ ap (λ (ls : List Line). ls ++ map whole t.lines) (turn.took.on.apart told).console

    sat_papers : plants.tells → (k : ℕ) → paper_now (v y) k ≡ paper_now (v x) k
    sat_papers told k = papers_are (v z) (v y) sat.acts.course.goes.later (sat.acts.papers told) k ∙ papers_are (v x) (v z) sooner (turn.took.on.apart told).papers k

    sat_did : HasActedIn plants copies me x y (Ok tt)
    sat_did = acts_then plants copies me x z y (Ok tt) (seat_acted plants copies s x z may none unplaced turn.locked ne turn.took) (record { course = passage_of z.first_alive y.first_alive z.second_alive y.second_alive (v z) (v y) sat.acts.course; loses = sat.acts.loses; spares = sat.acts.spares; cause = sat.acts.cause; notes = sat.acts.notes })

    -- the book once the lock is left
    left_is : left.book ≡ released_by t.release (after_spend (entered x.book me) (me) (length (all_entries t.batches))) me
    left_is =
        ap (λ (b : Book). left_book b me end.given end.release) (ap (λ (q : Parts P C). q.book) turn.frame ∙ seat_book plants copies s x z may none unplaced turn.locked ne)
        ∙ ap (λ (n : ℕ). left_book (entered x.book me) me n end.release) sat.ends.given
        ∙ ap (λ (r : Release). left_book (entered x.book me) me (length (all_entries t.batches)) r) sat.ends.release

  -- nothing moves on a line
  sat_wires : plants.tells → SameWires (v x) (v y)
  sat_wires told = wires_then (v x) (v z) (v y) (turn.took.on.apart told).wires (turn.sat.sat.acts.wires told)

  -- no volume is lost in it, nor fails
  sat_volumes : VolumesStay none_lost (v x) (v y)
  sat_volumes = sat_stays plants copies s x z may none unplaced turn.locked ne turn.took y turn.frame turn.sat.sat.acts

  -- THE ACTS AFTER IT

  module _ (u : Parts P C) (was is : Option (List ℕ)) (r : Result Found NodeNo) (acts : ActsAfter plants left u m end.next was is r) where
    did : ActsBeside plants.tells m.id.0 (v left) (v u) r
    did = acts_beside plants copies left u m end.next was is r acts

    did_me : ActsBeside plants.tells me.0 (v y) (v u) r
    did_me = subst (λ (i : MemberId). ActsBeside plants.tells i.0 (v y) (v u) r) (sym mine) did

    only_printed : HasOnlyPrinted r me left u
    only_printed = subst (λ (i : MemberId). HasOnlyPrinted r i left u) (sym mine) (changed_only plants copies left u m end.next was is r acts)

    pub changed : u ≡ asided u y
    changed = only_these r m.id left u (changed_only plants copies left u m end.next was is r acts)

    then_journal : journal_of u ≡ y.batches
    then_journal = ap (λ (q : Parts P C). journal_of q) changed ∙ journal_is plants copies y seat.still.none seat.still.unplaced

    pub then_queue : queue_of u ≡ queue_of y
    then_queue = ap (λ (q : Parts P C). queue_of q) changed

    then_batches : (t : Sitting) (sat : SitsAs t) → AreBatched me (v x).now (v u).now (kept_all t.batches) sat.more
    then_batches t sat =
        batched_later me (v x).now (v y).now (v u).now t.batches sat.more did.beside.goes.later
        (batched_sooner me (v x).now (v z).now (v y).now (kept_all t.batches) sat.more sooner (sat_batches t sat))

    -- WHERE CONTENT IS TOLD only work prints, and a command changes no volume

    module _ (told : plants.tells) where
      dry_sat : SamePapers (v x) (v y)
      dry_sat = sat_dry plants copies s x z may none unplaced turn.locked ne turn.took y turn.frame turn.sat.sat.acts told

      still_sat : IsOnlyOn (v x) (v y)
      still_sat = sat_still plants copies s x z may none unplaced turn.locked ne turn.took y turn.frame turn.sat.sat.acts told

      later_y : (v x).now ≤ (v y).now
      later_y = (sat_did turn.sat.sitting turn.sat.sat).course.goes.later

      dry_on : SamePapers (v y) (v u) → SamePapers (v x) (v u)
      dry_on more = papers_on (v x) (v y) (v u) later_y did.beside.goes dry_sat more

      still_none : u ≡ left → IsOnlyOn (v x) (v u)
      still_none same = only_on (v x) (v y) (v u) later_y did.beside.goes still_sat (subst (λ (q : Parts P C). IsOnlyOn (v y) (v q)) (sym same) (only_none (v y)))

      dry_same : u ≡ left → SamePapers (v y) (v u)
      dry_same same = subst (λ (q : Parts P C). SamePapers (v y) (v q)) (sym same) (papers_none (v y))

      dry_after : (n : State) → (IsWork n → ⊥) → ActsAfter plants left u m n was is r → SamePapers (v y) (v u)
      dry_after Told off a = dry_same a.0
      dry_after (Fresh task) off a = dry_same a.0
      dry_after (Rested q) off a = absurd (off tt)
      dry_after (Away (SpoolDeck j cards)) off a = a.1.acts.papers told
      dry_after (Away (ReadText other j those q)) off a = absurd (off tt)
      dry_after (Away (SpoolOutputs j those q)) off a = absurd (off tt)
      dry_after (Away (PrintLines j i last q)) off a = absurd (off tt)
      dry_after (Away (Exchange l offer)) off a = a.1.acts.papers told
      dry_after (Away (SpoolArrival number job cards service)) off a = a.1.acts.papers told
      dry_after (Away (Acknowledge number service)) off a = a.1.gives.acts.papers told

      still_by : (a n : State) → ComesTo a n → ActsAfter plants left u m n was is r → IfCommand a (IsOnlyOn (v x) (v u))
      still_by (Fresh (Deck fields text)) n comes a = tt
      still_by (Fresh (Work k)) n comes a = tt
      still_by (Fresh (LineTask l)) n comes a = tt
      still_by (Away aside) n comes a = tt
      still_by (Rested p) n comes a = tt
      still_by (Fresh (Give c)) Told comes a = still_none a.0
      still_by (Fresh (Give c)) (Fresh task) comes a = absurd comes
      still_by (Fresh (Give c)) (Rested q) comes a = absurd comes
      still_by (Fresh (Give c)) (Away (SpoolDeck j cards)) comes a = absurd comes
      still_by (Fresh (Give c)) (Away (ReadText other j those q)) comes a = absurd comes
      still_by (Fresh (Give c)) (Away (SpoolOutputs j those q)) comes a = absurd comes
      still_by (Fresh (Give c)) (Away (PrintLines j i last q)) comes a = absurd comes
      still_by (Fresh (Give c)) (Away (Exchange l offer)) comes a = absurd comes
      still_by (Fresh (Give c)) (Away (SpoolArrival number job cards service)) comes a = absurd comes
      still_by (Fresh (Give c)) (Away (Acknowledge number service)) comes a = absurd comes
      still_by Told Told comes a = still_none a.0
      still_by Told (Fresh task) comes a = absurd comes
      still_by Told (Rested q) comes a = absurd comes
      still_by Told (Away (SpoolDeck j cards)) comes a = absurd comes
      still_by Told (Away (ReadText other j those q)) comes a = absurd comes
      still_by Told (Away (SpoolOutputs j those q)) comes a = absurd comes
      still_by Told (Away (PrintLines j i last q)) comes a = absurd comes
      still_by Told (Away (Exchange l offer)) comes a = absurd comes
      still_by Told (Away (SpoolArrival number job cards service)) comes a = absurd comes
      still_by Told (Away (Acknowledge number service)) comes a = absurd comes

    dry_then : plants.tells → IfNoPrint s.state (SamePapers (v x) (v u))
    dry_then told = if_silent s.state (SamePapers (v x) (v u)) (λ no. dry_on told (dry_after told end.next (still_silent s.state end.next comes no) acts))

    still_then : plants.tells → IfCommand s.state (IsOnlyOn (v x) (v u))
    still_then told = still_by told s.state end.next comes acts

  waits_at : (t : Sitting) → SitsAs t → end.next ≡ t.next
  waits_at t sat = sat.ends.next

  -- THE PIECE IS WHOLE

  module _ (u : Parts P C) (was is : Option (List ℕ)) (found : Found) (acts : ActsAfter plants left u m end.next was is (Ok found)) (stays : ReaderStaysIn end.next was is) (hold : ℕ) (its_hold : hold ≡ x.base.config.hold) (waits : WaitsWell plants.tells (queue_of y) m end.next) where
    abbrev pub next : Start
    next = record { holder = next_holder s.holder hold end.given; state = end.next; found = found }

    holder_is : (t : Sitting) → SitsAs t → next.holder ≡ holder_then x.base s.holder (all_entries t.batches)
    holder_is t sat =
        ap (λ (k : ℕ). next_holder s.holder k end.given) its_hold ∙ ap (λ (n : ℕ). next_holder s.holder x.base.config.hold n) sat.ends.given

    whole_leaves : (t : Sitting) (sat : SitsAs t) (p : Piece) → p.sitting ≡ t → Leaves plants copies me (one_left plants copies me p x) x u
    whole_leaves t sat p same = subst (λ (w : Sitting). Leaves plants copies me (one_left plants copies me (record p { sitting = w }) x) x u) (sym same) (record {
      more = sat.more;
      journal = then_journal u was is (Ok found) acts ∙ sat_journal t sat;
      batches = then_batches u was is (Ok found) acts t sat;
      book = ap (λ (q : Parts P C). q.book) (changed_only plants copies left u m end.next was is (Ok found) acts) ∙ left_is t sat;
    })

    is_piece : (t : Sitting) (sat : SitsAs t) (p : Piece) → p.sitting ≡ t → IsOwnPiece me s.holder.step p → IsPiece plants copies s p x u next
    is_piece t sat p is own = record {
      state = waits_at t sat ∙ ap (λ (w : Sitting). w.next) (sym is);
      holder = holder_is t sat ∙ ap (λ (w : Sitting). holder_then x.base s.holder (all_entries w.batches)) (sym is);
      of = own;
      leaves = whole_leaves t sat p is;
    }

    -- where content is told
    module _ (told : plants.tells) where
      abbrev t : Sitting
      t = its_sitting s x

      abbrev count : ℕ
      count = count_then me (all_entries t.batches) (counts_of x.printed me)

      sat : SitsAs t
      sat = its_sat told

      inks : InkedWhole plants (found_lines (queue_of u) count t.next found) t.next found me left u
      inks =
          let i = ok_inked plants left u m end.next was is found told (λ k. waits) seat.between.queue seat.between.sound acts in
          subst (λ (n : State). InkedWhole plants (found_lines (queue_of u) count n found) n found me left u) (waits_at t sat)
          (subst (λ (k : ℕ). InkedWhole plants (found_lines (queue_of u) k end.next found) end.next found me left u) (sat_counts t sat)
          (subst (λ (i : MemberId). InkedWhole plants (found_lines (queue_of u) (counts_of y.printed i) end.next found) end.next found i left u) (sym mine)
          (subst (λ (Q : Queue). InkedWhole plants (found_lines Q (counts_of y.printed m.id) end.next found) end.next found m.id left u) (sym (then_queue u was is (Ok found) acts)) i)))

      abbrev piece : Piece
      piece = piece_with plants copies t found inks.inked count (queue_of u)

      own : IsOwnPiece me s.holder.step piece
      own = subst (λ (w : Sitting). All (AreOf me s.holder.step) w.batches) (turn.sat.is told ∙ ap (λ (Q : Queue). sit Q s.holder s.state s.found) (seat_queue plants copies s x z may none unplaced turn.locked ne)) turn.sat.of

      writes : Writes plants copies me (one_left plants copies me piece x) x u (Ok tt)
      writes =
          let counted = inks.count in
          record {
            console = (did u was is (Ok found) acts).beside.console told ∙ sat_console t sat told;
            paper = inks.paper ∙ ap (λ (ls : List Line). ls ++ map whole piece.printed) (sat_papers t sat told me.0);
            other_papers = λ k other. inks.others k other ∙ sat_papers t sat told k;
            count = inks.count ∙ ap (λ (n : ℕ). n + length piece.printed) (sat_counts t sat)
                ∙ ap (λ (es : List Entry). count_then me es (counts_of x.printed me) + length piece.printed) (sym (entries_kept t.batches));
            other_counts = λ k other. inks.other_counts k other ∙ sat_other_counts t sat k other;
          }

      gives : GivesOnly me (line_served s.state) piece.given (v x) (v u)
      gives =
          gives_after me (line_served s.state) piece.given (v x) (v y) (v u) (sat_wires told)
          (inks.gives (line_served s.state) (same_line (queue_of x) s.holder s.state s.found (subst (λ (n : State). ComesTo s.state n) (waits_at t sat) comes)))

      told_piece : HasToldPiece plants copies s x u next
      told_piece = record {
        piece = piece;
        inked = inks.inked;
        is = refl;
        queue = then_queue u was is (Ok found) acts ∙ sat_queue t sat;
        one = is_piece t sat piece refl own;
        finds = found_at plants copies y left.book u m seat (v x) (sat_did t sat).course.goes x.base.config.groups (ap (λ (b : Queue). b.config.groups) (base_is t sat)) me mine end.next was is found
            (then_queue u was is (Ok found) acts) told waits acts;
        writes = writes;
        gives = gives;
      }

    pub whole_piece : HasPieced plants copies s x u next was is
    whole_piece =
        let p : Piece = piece_of turn.sat.sitting false [] in
        record {
          piece = p;
          one = is_piece turn.sat.sitting turn.sat.sat p refl turn.sat.of;
          volumes = stay_then (names_found found) (v x) (v y) (v u) sat_volumes (did_me u was is (Ok found) acts).cause.volumes;
          acts = acts_then plants copies me x y u (Ok tt) (sat_did turn.sat.sitting turn.sat.sat) (acted_ok plants copies y u me found (changed u was is (Ok found) acts) (did_me u was is (Ok found) acts));
          shaped = turn.sat.shaped;
          plain = refl;
          failed = failed_at plants copies y left.book u m seat (v x) (sat_did turn.sat.sitting turn.sat.sat).course.goes me mine end.next was is found acts;
          dry = λ t. dry_then u was is (Ok found) acts t;
          still = λ t. still_then u was is (Ok found) acts t;
          reader = stays;
          hears = λ t. hears_in me was is is end.next found (v x) (v y) (v u) (v u) (takes_still (v x) (v y) (sat_wires t))
              (subst (λ (i : MemberId). HearsIn i (v y) (v u) was is end.next found) (sym mine) (heard_in plants left u m end.next was is found t acts)) (takes_none (v u)) refl;
          told = told_piece;
        }

  -- THE PIECE IS CUT in the acts

  module _ (u : Parts P C) (was is : Option (List ℕ)) (e : NodeNo) (acts : ActsAfter plants left u m end.next was is (Err e)) (stays : ReaderStaysIn end.next was is) (waits : WaitsWell plants.tells (queue_of y) m end.next) where
    abbrev w : Parts P C
    w = stopped_by e me u

    not_told : end.next ≢ Told
    not_told told = let a = subst (λ (n : State). ActsAfter plants left u m n was is (Err e)) told acts in absurd (let no = a.1 in cc)

    bare_left : (p : Piece) (sat : SitsAs p.sitting) → IsLeftAt plants copies ⊥ me p e (Waiting 0 None) x u
    bare_left p sat = record {
      by_answer = halts_idle e me.0 (v y) (v u) (did_me u was is (Err e) acts).cause;
      more = sat.more;
      journal = then_journal u was is (Err e) acts ∙ sat_journal p.sitting sat;
      batches = then_batches u was is (Err e) acts p.sitting sat;
      console = λ t. absurd t;
      paper = λ t. absurd t;
      other_papers = λ t. absurd t;
      other_counts = λ t. absurd t;
    }

    book_is : (n : ℕ) (tail : Option (List ℕ)) (p : Piece) (sat : SitsAs p.sitting) → w.book ≡ stopped_for me (cause_by e) (book_cut me (Waiting n tail) x.book p)
    book_is n tail p sat =
        let members = left_members y.book me end.given end.release ∙ ap (λ (b : Book). length b.members) (sat_book plants copies s x z may none unplaced turn.locked ne turn.took y turn.frame) ∙ entered_members x.book me in
        book_then e me left u may.some (subst (λ (n : ℕ). me.0 ≤ n) (sym members) may.seated.1) (only_printed u was is (Err e) acts) ∙ book_stopped plants copies me e left _ (left_is p.sitting sat)

    -- where content is told
    module _ (told : plants.tells) where
      abbrev p : Piece
      p = its_piece s x

      own_sat : SitsAs p.sitting
      own_sat = its_sat told

      stands : InkedTo plants p.printed p.sitting.next p.given me e left u
      stands =
          let i = err_inked plants left u m end.next was is e told (λ k. waits) seat.between.queue seat.between.sound seat.still.roomy acts in
          let count = count_then me (all_entries p.sitting.batches) (counts_of x.printed me) in
          subst (λ (n : State). InkedTo plants (calm_lines (its_queue s x) count n) n (calm_given (its_queue s x) n) me e left u) (waits_at p.sitting own_sat)
          (subst (λ (k : ℕ). InkedTo plants (calm_lines (its_queue s x) k end.next) end.next (calm_given (its_queue s x) end.next) me e left u) (sat_counts p.sitting own_sat)
          (subst (λ (i : MemberId). InkedTo plants (calm_lines (its_queue s x) (counts_of y.printed i) end.next) end.next (calm_given (its_queue s x) end.next) i e left u) (sym mine)
          (subst (λ (Q : Queue). InkedTo plants (calm_lines Q (counts_of y.printed m.id) end.next) end.next (calm_given Q end.next) m.id e left u) (sat_queue p.sitting own_sat) i)))

      silent : p.sitting.lines ≡ []
      silent = (lines_are_said_at_the_end (queue_of x) s.holder s.state s.found).1 (λ is. not_told (waits_at p.sitting own_sat ∙ is))

      told_left : IsLeftAt plants copies (Unit {0}) me p e (Waiting stands.many stands.tail) x u
      told_left = record {
        by_answer = stands.by_answer;
        more = own_sat.more;
        journal = then_journal u was is (Err e) acts ∙ sat_journal p.sitting own_sat;
        batches = then_batches u was is (Err e) acts p.sitting own_sat;
        console = λ k. (did u was is (Err e) acts).beside.console told ∙ sat_console p.sitting own_sat told ∙ ap (λ (ls : List (List ℕ)). console_now (v x) ++ map whole ls) silent;
        paper = λ k. stands.paper ∙ ap (λ (ls : List Line). ls ++ broken stands.many stands.tail p.printed) (sat_papers p.sitting own_sat told me.0);
        other_papers = λ k i other. stands.others i other ∙ sat_papers p.sitting own_sat told i;
        other_counts = λ k i other. stands.other_counts i other ∙ sat_other_counts p.sitting own_sat i other;
      }

    -- the member is idle
    plant_is : (a : NodeNo) → (stopped_by a me u).plant ≡ u.plant
    plant_is Halted = refl
    plant_is BothLost = refl
    plant_is ConsoleFault = refl
    plant_is NoMemory = refl

    quiet_end : IsQuiet plants copies w (length m.room)
    quiet_end =
        quiet_then plants copies y w m seat (then_stopped e me y u (changed u was is (Err e) acts))
        (subst (λ (p : P). IsBeside plants.tells (v y) (plants.view p)) (sym (plant_is e)) (did u was is (Err e) acts).beside)
        (unreserved_then e me u (unreserved_by {T = Found} (Err e) m.id left u (changed_only plants copies left u m end.next was is (Err e) acts) seat.still.unreserved))

    cut_gives : plants.tells → (i : InkedTo plants (its_piece s x).printed (its_piece s x).sitting.next (its_piece s x).given me e left u) → GivesOnly me (line_served s.state) (take i.many (its_piece s x).given) (v x) (v u)
    cut_gives told i =
        let sat = its_sat told in
        gives_after me (line_served s.state) (take i.many (its_piece s x).given) (v x) (v y) (v u) (sat_wires told)
        (i.gives (line_served s.state) (same_line (queue_of x) s.holder s.state s.found (subst (λ (n : State). ComesTo s.state n) (waits_at (its_sitting s x) sat) comes)))

    cut_takes : plants.tells → (IsLineTask s.state → ⊥) → TakesNothing (v x) (v u)
    cut_takes told off = takes_then (v x) (v y) (v u) (takes_still (v x) (v y) (sat_wires told)) (took_none plants left u m end.next was is (Err e) told (no_exchange s.state end.next comes off) acts)

    pub cut_piece : (pages : ℕ) → length m.room ≡ pages → HasPlayed plants copies s x w pages was is (Err e)
    cut_piece pages room =
        let b : Piece = piece_of turn.sat.sitting false [] in
        let quiet = subst (λ (n : ℕ). IsQuiet plants copies w n) room quiet_end in
        record {
          pieces = b ∷ [];
          cut = Some (cut_at e (Waiting 0 None));
          played = bare_cut plants copies s.holder b e (Waiting 0 None) x w (left_stopped plants copies ⊥ me b e (Waiting 0 None) x u (bare_left b turn.sat.sat)) turn.sat.of (book_is 0 None b turn.sat.sat);
          shaped = shaped_one s.holder s.found (v x) (v w) turn.sat.sitting s.state ne (some_may_follow s.state ne) turn.sat.shaped;
          tight = if_all s.state (IsTight e (Waiting 0 None) turn.sat.sitting) (aside_tight e 0 None turn.sat.sitting);
          dry = λ t. view_stopped plants copies s x z may none unplaced turn.locked ne e me u (λ k. IfNoPrint s.state (SamePapers (v x) k)) (dry_then u was is (Err e) acts t);
          still = λ t. view_stopped plants copies s x z may none unplaced turn.locked ne e me u (λ k. IfCommand s.state (IsOnlyOn (v x) k)) (still_then u was is (Err e) acts t);
          acts = acts_then plants copies me x y w (Err e) (sat_did turn.sat.sitting turn.sat.sat)
              (acted_stopped plants copies me e y u (acted_err plants copies y u me e (changed u was is (Err e) acts) (did_me u was is (Err e) acts)));
          quiet = λ between. quiet;
          away = λ free. (quiet.unreserved, quiet.none);
          reader = stays_from s.state was is (λ no. of_stays_in end.next was is (no_exchange s.state end.next comes no) stays);
          told = λ told.
              let i = stands told in
              told_cut plants copies s e (Waiting i.many i.tail) x w ne (view_stopped plants copies s x z may none unplaced turn.locked ne e me u (λ k. VolumesStay none_lost (v x) k) (stay_then none_lost (v x) (v y) (v u) sat_volumes (stay_by plants copies e me.0 (v y) (v u) (did_me u was is (Err e) acts).cause))) (if_all s.state (IsTight e (Waiting i.many i.tail) (its_sitting s x)) (aside_tight e i.many i.tail (its_sitting s x))) (aside_unbroken e i.many i.tail (its_sitting s x))
              (left_stopped plants copies (Unit {0}) me (its_piece s x) e (Waiting i.many i.tail) x u (told_left told)) (book_is i.many i.tail (its_piece s x) (its_sat told))
              (view_stopped plants copies s x z may none unplaced turn.locked ne e me u (λ k. GivesOnly me (line_served s.state) (take i.many (its_piece s x).given) (v x) k) (cut_gives told i))
              (λ no. view_stopped plants copies s x z may none unplaced turn.locked ne e me u (λ k. TakesNothing (v x) k) (cut_takes told no)) was is;
        }
