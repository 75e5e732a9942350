-- A line that resets a stopped member, by one that has the lock, which was done: what it left, and its member after it.
use Rattle.std.proofs.Common.{false, ◌≡◌, ◌≢◌, ℕ, ◌+◌, ◌≤◌, ◌++◌, List, [], ◌∷◌, length, map, take, All, append-nil, None, Ok, refl, sym, ◌∙◌, ap, subst, arith}
use Rattle.std.proofs.lemmas.List.Elements.{All-cons, All-nil}
use Rattle.mas_types.specs.declared.ids.MemberId.{MemberId}
use Rattle.mas_types.specs.declared.journals.Batch.{Batch}
use Rattle.mas_types.specs.declared.journals.Entry.{Entry}
use Rattle.mas_types.specs.declared.queues.Queue.{Queue}
use Rattle.lock_cycle.specs.Books.{Book, IsMember, after_spend}
use Rattle.spool_plant.specs.declared.plant.Plant.{Ghosts as PlantGhosts}
use Rattle.spool_plant.specs.View.{Line, View, paper_now}
use Rattle.ckpt_copy.specs.declared.copying.Copying.{Ghosts as CopyGhosts}
use Rattle.ckpt_tables.specs.Shape.{page_count}
use Rattle.mas_complex.specs.Locking.{MayAct}
use Rattle.spool_plant.specs.Acts.{SameWires}
use Rattle.member_node.proofs.CourseLemmas.{wires_then}
use Rattle.mas_complex.specs.Paper.{SamePapers, counts_of}
use Rattle.mas_complex.specs.Parts.{Parts}
use Rattle.member_node.specs.Calls.{IsOnlyOn, VolumesStay, console_now, none_lost}
use Rattle.member_node.specs.declared.member.Member.{Member}
use Rattle.member_decks.specs.Steps.{AreOf}
use Rattle.member_sittings.specs.declared.ends.SittingEnd.{SittingEnd}
use Rattle.member_sittings.specs.Left.{Said, said_of}
use Rattle.member_sittings.specs.Sat.{CopiesActed, IsSatAs, Start, begins, journal_of, sat_in, seated_in}
use Rattle.member_sittings.specs.Whole.{IsSeat, queue_of}
use Rattle.member_steps.proofs.ReadLemmas.{pages_of_run}
use Rattle.member_hand.proofs.PrintedLemmas.{beside_none}
use Rattle.member_hand.specs.Printing.{IsBeside}
use Rattle.member_hand.proofs.Passages.{passage_of}
use Rattle.member_hand.specs.Cuts.{AreBatched}
use Rattle.member_hand.specs.Locks.{IsToLeave, MayHold, left_book}
use Rattle.member_hand.specs.Plays.{HasActedIn, HasCut, IsOwnPiece, Writes, left_of}
use Rattle.member_hand.specs.Quiet.{IsAside, IsQuiet}
use Rattle.member_hand.specs.Turns.{taken}
use Rattle.member_hand.proofs.Acting.{aside_then, asided, seat_then}
use Rattle.member_hand.proofs.Batching.{batched_sooner}
use Rattle.member_hand.proofs.Entering.{entered_seated}
use Rattle.member_hand.proofs.Following.{acts_then}
use Rattle.member_hand.proofs.Locking.{acts_entered, left_members, spent_acts, still_holds}
use Rattle.member_hand.proofs.Reaching.{reached_all}
use Rattle.member_hand.proofs.Turning.{papers_are, sat_book, sat_dry, sat_stays, sat_still, seat_acted, seat_batches, seat_printed, seat_queue}
use Rattle.step_turns.specs.Entries.{all_entries}
use Rattle.step_turns.specs.Sittings.{Sitting}
use Rattle.step_turns.specs.declared.states.Holder.{Holder}
use Rattle.step_turns.specs.declared.states.Release.{Release}
use Rattle.step_turns.specs.declared.states.State.TheVariants.{Told}
use Rattle.run_turns.proofs.Locks.{entries_kept}
use Rattle.run_turns.specs.Cuts.{kept_all, whole}
use Rattle.run_turns.specs.Pieces.{Piece, entered, piece_of, released_by, reset_pieces, spent}
use Rattle.run_turns.specs.Scenes.{count_then}
use Rattle.member_resets.specs.Resetting.{AreLostOnce, HasResetBy, reset_begins}
use Rattle.member_resets.proofs.OnceLemmas.{courses_once}
use Rattle.member_resets.specs.Settling.{IsResetPiece}
use Rattle.member_resets.proofs.ResetCutLemmas.{entered_same}

take_all : (lines : List (List ℕ)) → take (length lines) lines ≡ lines
take_all [] = refl
take_all (l ∷ ls) = ap (λ (k : List (List ℕ)). l ∷ k) (take_all ls)

module _ {P C : Type 0} (plants : PlantGhosts P) (copies : CopyGhosts C) (h : Holder) (of : MemberId) (x z : Parts P C) (may : MayHold x.book h.by) (none : x.current ≡ None)
    (unplaced : x.placed ≡ false) (holds : x.book.holder ≡ h.by) (seat : z ≡ seated_in z x) (took : CopiesActed plants {T = Unit {0}} h.by x z (Ok tt)) (w : Parts P C) (same : w ≡ sat_in w z)
    (t : Sitting) (own : All (AreOf h.by h.step) t.batches) (shaped : IsResetPiece h of (piece_of t false [] ∷ [])) (is : plants.tells → piece_of t false [] ∷ [] ≡ reset_pieces (queue_of z) h of)
    (end : SittingEnd) (sat : IsSatAs plants h.by t z w (Ok end)) (n : Member) (id : n.id ≡ h.by) (at_seat : IsSeat plants copies w n) (y : Parts P C)
    (left : y ≡ record w { book = left_book w.book h.by end.given end.release }) where
  abbrev v : Parts P C → View
  v q = plants.view q.plant

  abbrev s : Start
  s = begins h (reset_begins of)

  ne : s.state ≢ Told
  ne e = absurd (cc)

  same_book : entered x.book h.by ≡ x.book
  same_book = entered_same x.book h.by may.up holds

  frame : z ≡ seated_in z (taken h.by x)
  frame = seat ∙ ap (λ (b : Book). seated_in z (record x { book = b })) (sym same_book)

  seated : CopiesActed plants {T = Unit {0}} h.by (taken h.by x) z (Ok tt)
  seated = subst (λ (q : Parts P C). CopiesActed plants {T = Unit {0}} h.by q z (Ok tt)) (sym (ap (λ (b : Book). record x { book = b }) same_book)) took

  abbrev p : Piece
  p = piece_of t false []

  plant_same : v y ≡ v w
  plant_same = ap (λ (q : Parts P C). v q) left

  sooner : (v x).now ≤ (v z).now
  sooner = took.on.course.goes.later

  -- WHAT IT LEFT

  book_entered : w.book ≡ entered x.book h.by
  book_entered = sat_book plants copies s x z may none unplaced frame ne seated w same

  book_left : y.book ≡ released_by t.release (spent (entered x.book h.by) h.by t.batches) h.by
  book_left =
      ap (λ (q : Parts P C). q.book) left
      ∙ ap (λ (b : Book). left_book b h.by end.given end.release) book_entered
      ∙ ap (λ (k : ℕ). left_book (entered x.book h.by) h.by k end.release) sat.sat.ends.given
      ∙ ap (λ (r : Release). left_book (entered x.book h.by) h.by (length (all_entries t.batches)) r) sat.sat.ends.release

  its_batches : AreBatched h.by (v x).now (v y).now (kept_all t.batches) sat.sat.more
  its_batches =
      subst (λ (u : View). AreBatched h.by (v x).now u.now (kept_all t.batches) sat.sat.more) (sym plant_same)
      (batched_sooner h.by (v x).now (v z).now (v w).now (kept_all t.batches) sat.sat.more sooner
      (reached_all h.by (v z).now (v w).now sat.sat.reach t.batches sat.sat.more sat.sat.left sat.sat.reached))

  its_journal : journal_of y ≡ x.batches ++ sat.sat.more
  its_journal =
      ap (λ (q : Parts P C). journal_of q) left ∙ sat.sat.journal ∙ ap (λ (bs : List Batch). bs ++ sat.sat.more) (seat_batches plants copies s x z may none unplaced frame ne)

  its_cut : HasCut plants copies h (p ∷ []) None x y (Ok tt)
  its_cut = record {
    of = All-cons (IsOwnPiece h.by h.step) p [] own (All-nil (IsOwnPiece h.by h.step));
    by_answer = refl;
    leaves = record { more = sat.sat.more; journal = its_journal; batches = its_batches; book = book_left };
  }

  its_acts : HasActedIn plants copies h.by x y (Ok tt)
  its_acts =
      subst (λ (q : Parts P C). HasActedIn plants copies h.by x q (Ok tt)) (sym left)
      (let a = acts_then plants copies h.by x z w (Ok tt) (seat_acted plants copies s x z may none unplaced frame ne seated)
      (record { course = passage_of z.first_alive w.first_alive z.second_alive w.second_alive (v z) (v w) sat.sat.acts.course; loses = sat.sat.acts.loses; spares = sat.sat.acts.spares; cause = sat.sat.acts.cause; notes = sat.sat.acts.notes }) in
      record { course = a.course; loses = a.loses; spares = a.spares; cause = a.cause; notes = a.notes })

  its_other_counts : (k : MemberId) → k ≢ h.by → counts_of y.printed k ≡ counts_of x.printed k
  its_other_counts k other =
      ap (λ (q : Parts P C). counts_of q.printed k) left ∙ sat.sat.counts.others k other ∙ ap (λ (l : List ℕ). counts_of l k) (seat_printed plants copies s x z may none unplaced frame ne)

  module _ (u : plants.tells) where
    its_console : console_now (v y) ≡ console_now (v x) ++ map whole t.lines
    its_console =
        let said = sat.sat.console u in
        ap (λ (q : View). console_now q) plant_same
        ∙ said.is ∙ ap (λ (k : Said). console_now (v z) ++ said_of k t.lines) said.by_answer
        ∙ ap (λ (ls : List Line). console_now (v z) ++ ls) (append-nil (map whole (take (length t.lines) t.lines)) ∙ ap (λ (ls : List (List ℕ)). map whole ls) (take_all t.lines))
        ∙ ap (λ (ls : List Line). ls ++ map whole t.lines) (took.on.apart u).console

    its_papers : (k : ℕ) → paper_now (v y) k ≡ paper_now (v x) k
    its_papers k =
        ap (λ (q : View). paper_now q k) plant_same
        ∙ papers_are (v z) (v w) sat.sat.acts.course.goes.later (sat.sat.acts.papers u) k ∙ papers_are (v x) (v z) sooner (took.on.apart u).papers k

    its_count : counts_of y.printed h.by ≡ (left_of plants copies h.by None (p ∷ []) x).count
    its_count =
        let plain : counts_of y.printed h.by ≡ count_then h.by (all_entries t.batches) (counts_of x.printed h.by) =
        ap (λ (q : Parts P C). counts_of q.printed h.by) left ∙ sat.sat.counts.own
        ∙ ap (λ (l : List ℕ). count_then h.by (all_entries t.batches) (counts_of l h.by)) (seat_printed plants copies s x z may none unplaced frame ne) in
        plain ∙ ap (λ (es : List Entry). count_then h.by es (counts_of x.printed h.by)) (sym (entries_kept t.batches)) ∙ more_none _
      where
        more_none : (k : ℕ) → k ≡ k + 0
        more_none k = omega arith

    its_writes : Writes plants copies h.by (left_of plants copies h.by None (p ∷ []) x) x y (Ok tt)
    its_writes = record {
      console = its_console;
      paper = its_papers h.by.0 ∙ sym (append-nil (paper_now (v x) h.by.0));
      other_papers = λ k other. its_papers k;
      count = its_count;
      other_counts = its_other_counts;
    }

  -- ITS MEMBER goes on

  book_now : y.book ≡ left_book w.book h.by end.given end.release
  book_now = ap (λ (q : Parts P C). q.book) left

  aside_frame : y ≡ asided y w
  aside_frame = subst (λ (q : Parts P C). q ≡ asided q w) (sym left) refl

  beside : IsBeside plants.tells (v w) (v y)
  beside = subst (λ (q : View). IsBeside plants.tells (v w) q) (sym plant_same) (beside_none plants.tells (v w))

  unreserved : y.reserved ≡ None
  unreserved = ap (λ (q : Parts P C). q.reserved) left ∙ at_seat.still.unreserved

  pub aside_after : IsAside plants copies y n
  aside_after = aside_then plants copies w y n at_seat aside_frame beside unreserved

  acts_w : MayAct w.book h.by
  acts_w = subst (λ (b : Book). MayAct b h.by) (sym book_entered) (acts_entered x.book h.by may)

  seated_w : IsMember w.book h.by
  seated_w = subst (λ (b : Book). IsMember b h.by) (sym book_entered) (entered_seated x.book h.by may.seated)

  pub may_leave_after : IsToLeave w h.by
  may_leave_after = record { may = acts_w; some = may.some; seated = seated_w; none = at_seat.still.none; unreserved = at_seat.still.unreserved }

  pub members_after : length y.book.members ≡ length x.book.members
  members_after = ap (λ (b : Book). length b.members) book_now ∙ left_members w.book h.by end.given end.release ∙ ap (λ (b : Book). length b.members) (book_entered ∙ same_book)

  -- it is at its seat if it has the lock still
  pub seat_after : y.book.holder ≡ h.by → IsSeat plants copies y n
  seat_after mine =
      let keeps = book_now ∙ still_holds w.book h.by end.given acts_w seated_w end.release may.some (ap (λ (b : Book). b.holder) (sym book_now) ∙ mine) in
      seat_then plants copies w y n at_seat aside_frame beside unreserved (record {
        may = subst (λ (b : Book). MayAct b n.id) (sym keeps) (subst (λ (i : MemberId). MayAct (after_spend w.book h.by end.given) i) (sym id) (spent_acts w.book h.by end.given acts_w seated_w));
        some = at_seat.still.holds.some;
        few = at_seat.still.holds.few;
        seated = subst (λ (b : Book). IsMember b n.id) (sym book_now)
            (subst (λ (i : MemberId). IsMember (left_book w.book h.by end.given end.release) i) (sym id)
            (seated_w.0, subst (λ (k : ℕ). h.by.0 ≤ k) (sym (left_members w.book h.by end.given end.release)) seated_w.1));
        member = at_seat.still.holds.member;
      })

  pub room_after : length n.room ≡ page_count x.base.config
  room_after =
      let same_base : w.base ≡ x.base = ap (λ (q : Parts P C). q.base) same ∙ ap (λ (q : Parts P C). q.base) seat in
      sym (pages_of_run w.base [] n.checkpoint n.room at_seat.still.config at_seat.between.drawn at_seat.still.many) ∙ ap (λ (Q : Queue). page_count Q.config) same_base

  booked_once : AreLostOnce plants x w → AreLostOnce plants x (record w { book = left_book w.book h.by end.given end.release })
  booked_once a = record { first = a.first; second = a.second }

  pub reset_done : (pages : ℕ) → length n.room ≡ pages → HasResetBy plants copies h of x y pages (Ok tt)
  reset_done pages room = record {
    pieces = p ∷ [];
    shaped = shaped;
    cut = None;
    played = its_cut;
    tight = tt;
    acts = its_acts;
    counts = its_other_counts;
    once = subst (λ (q : Parts P C). AreLostOnce plants x q) (sym left) (booked_once (courses_once plants x z w took.on.course sat.sat.acts.course));
    volumes = subst (λ (q : View). VolumesStay none_lost (v x) q) (sym plant_same) (sat_stays plants copies s x z may none unplaced frame ne seated w same sat.sat.acts);
    others = λ u. subst (λ (q : View). IsOnlyOn (v x) q) (sym plant_same) (sat_still plants copies s x z may none unplaced frame ne seated w same sat.sat.acts u);
    papers = λ u. subst (λ (q : View). SamePapers (v x) q) (sym plant_same) (sat_dry plants copies s x z may none unplaced frame ne seated w same sat.sat.acts u);
    wires = λ u. subst (λ (q : View). SameWires (v x) q) (sym plant_same) (wires_then (v x) (v z) (v w) (took.on.apart u).wires (sat.sat.acts.wires u));
    quiet = λ b. subst (λ (k : ℕ). IsQuiet plants copies y k) room aside_after.quiet;
    away = λ free. (unreserved, aside_after.quiet.none);
    told = λ u. record {
      pieces = p ∷ [];
      is = is u ∙ ap (λ (Q : Queue). reset_pieces Q h of) (seat_queue plants copies s x z may none unplaced frame ne);
      cut = None;
      left = its_cut;
      tight = tt;
      broke = tt;
      writes = its_writes u;
    };
  }
