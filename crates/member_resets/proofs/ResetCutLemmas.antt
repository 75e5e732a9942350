-- A line that resets a stopped member, by one that has the lock: it took no seat, or its sitting was cut.
use Rattle.std.proofs.Common.{◌≡◌, ◌≢◌, ◌||◌, ℕ, Bool, true, false, if◌then◌else◌, [], ◌∷◌, All, List, is_some, Some, None, Ok, Err, refl, sym, ◌∙◌, ap, subst}
use Rattle.std.proofs.lemmas.Bool.{eq-eqb}
use Rattle.std.proofs.lemmas.List.Elements.{All-cons, All-nil}
use Rattle.mas_types.specs.declared.commands.Command.TheVariants as command
use Rattle.mas_types.specs.declared.commands.Reply.TheVariants as reply
use Rattle.mas_types.specs.declared.ids.MemberId.{MemberId}
use Rattle.mas_types.specs.declared.queues.Queue.{Queue}
use Rattle.mas_types.specs.Closings.{closing_line}
use Rattle.lock_cycle.specs.Books.{Book, granted, is_holder, is_stopped, ticked, try_refusal}
use Rattle.spool_plant.specs.declared.plant.Plant.{Ghosts as PlantGhosts}
use Rattle.spool_plant.specs.View.{View}
use Rattle.ckpt_copy.specs.declared.copying.Copying.{Ghosts as CopyGhosts}
use Rattle.spool_plant.specs.Acts.{SameWires}
use Rattle.member_node.proofs.CourseLemmas.{wires_then}
use Rattle.mas_complex.specs.Paper.{SamePapers, counts_of}
use Rattle.mas_complex.specs.Parts.{Parts}
use Rattle.member_node.specs.Calls.{IsOnlyOn, VolumesStay, none_lost}
use Rattle.member_node.specs.declared.member.NodeNo.{NodeNo}
use Rattle.member_node.specs.declared.member.NodeNo.TheVariants as no_node
use Rattle.member_decks.specs.Steps.{AreOf}
use Rattle.member_sittings.specs.Sat.{CopiesActed, IsSatAs, Start, begins, sat_in, seated_in}
use Rattle.member_sittings.specs.Whole.{queue_of}
use Rattle.member_hand.specs.Cuts.{cause_by}
use Rattle.member_hand.specs.Locks.{MayHold}
use Rattle.member_hand.specs.Plays.{IsOwnPiece, stopped_by}
use Rattle.member_hand.specs.Turns.{taken}
use Rattle.member_hand.proofs.Cutting.{IsLeftAt, acted_stopped, bare_cut, book_stopped, cut_at, cut_is, cut_leaves, cut_writes, holder_stopped, left_stopped, none_tight, unbroken}
use Rattle.member_hand.proofs.Following.{acts_then}
use Rattle.member_hand.proofs.Halting.{sitting_own}
use Rattle.member_hand.proofs.Turning.{IsLocked, away_never, bare_in, book_locked, not_aside, sat_acted, sat_book, sat_dry, sat_stays, sat_still, seat_acted, seat_book, seat_printed, seat_queue, told_in, unsat, unsat_acted, view_stopped}
use Rattle.step_turns.specs.Entries.{reply_to}
use Rattle.step_turns.specs.Sittings.{Sitting, sit}
use Rattle.step_turns.specs.States.{nothing_found}
use Rattle.step_turns.specs.declared.states.Holder.{Holder}
use Rattle.step_turns.specs.declared.states.State.TheVariants.{Told}
use Rattle.run_turns.specs.Cuts.{book_cut, stopped_by as stopped_for}
use Rattle.run_turns.specs.Pieces.{Piece, entered, piece_of, reset_closing, reset_pieces}
use Rattle.run_turns.specs.Sights.{Halt, Writing}
use Rattle.member_resets.specs.Resetting.{HasResetBy, reset_begins}
use Rattle.member_resets.proofs.OnceLemmas.{course_once, courses_once, stopped_once}
use Rattle.member_resets.specs.Settling.{IsResetPiece, reset_piece}

-- WHO HOLDS THE LOCK takes it again, and the book is as it was

pub entered_same : (b : Book) (by : MemberId) → is_stopped b by ≡ false → b.holder ≡ by → entered b by ≡ b
entered_same b by up holds =
    ap (λ (s : Bool). if s || is_holder b by then b else if is_some (try_refusal b by true) then ticked b true else granted (ticked b true) by) up
    ∙ ap (λ (h : Bool). if false || h then b else if is_some (try_refusal b by true) then ticked b true else granted (ticked b true) by) its
  where
    its : is_holder b by ≡ true
    its = eq-eqb b.holder.0 by.0 (ap (λ (m : MemberId). m.0) holds)

-- the sitting and the piece that the queue gives
abbrev told_sitting : Holder → MemberId → Queue → Sitting
told_sitting h of Q = sit Q h (reset_begins of) nothing_found

abbrev told_piece : Holder → MemberId → Queue → Piece
told_piece h of Q = piece_of (record (told_sitting h of Q) { lines = closing_line h.by h.step (reset_closing of (reply_to Q h.by (command.Reset of))) ∷ [] }) false []

-- a member that stopped leaves the counts of printed lines
printed_stopped : {P C : Type 0} (e : NodeNo) (by : MemberId) (w : Parts P C) → (stopped_by e by w).printed ≡ w.printed
printed_stopped no_node.NoMemory by w = refl
printed_stopped no_node.BothLost by w = refl
printed_stopped no_node.Halted by w = refl
printed_stopped no_node.ConsoleFault by w = refl

module _ {P C : Type 0} (plants : PlantGhosts P) (copies : CopyGhosts C) (h : Holder) (of : MemberId) (x z : Parts P C) (may : MayHold x.book h.by) (none : x.current ≡ None)
    (unplaced : x.placed ≡ false) (holds : x.book.holder ≡ h.by) (seat : z ≡ seated_in z x) where
  abbrev v : Parts P C → View
  v w = plants.view w.plant

  abbrev s : Start
  s = begins h (reset_begins of)

  ne : s.state ≢ Told
  ne e = absurd (cc)

  same_book : entered x.book h.by ≡ x.book
  same_book = entered_same x.book h.by may.up holds

  frame : z ≡ seated_in z (taken h.by x)
  frame = seat ∙ ap (λ (b : Book). seated_in z (record x { book = b })) (sym same_book)

  taken_same : taken h.by x ≡ x
  taken_same = ap (λ (b : Book). record x { book = b }) same_book

  -- IT TOOK NO SEAT

  module _ (pages : ℕ) (e : NodeNo) (acts : CopiesActed plants {T = Unit {0}} h.by x z (Err e)) where
    acted : CopiesActed plants {T = Unit {0}} h.by (taken h.by x) z (Err e)
    acted = subst (λ (w : Parts P C). CopiesActed plants {T = Unit {0}} h.by w z (Err e)) (sym taken_same) acts

    abbrev y : Parts P C
    y = stopped_by e h.by z

    abbrev p : Piece
    p = reset_piece h of reply.Plain

    own_piece : IsOwnPiece h.by h.step p
    own_piece =
        All-cons (AreOf h.by h.step) _ [] (All-cons (λ i. (i.by ≡ h.by) × (i.step ≡ h.step)) _ [] (refl, refl) (All-nil _)) (All-nil _)

    abbrev now : Piece
    now = told_piece h of (queue_of x)

    unsat_here : (told : Type 0) → (told → plants.tells) → (q : Piece) → IsLeftAt plants copies told h.by q e (Writing 0 None) x y
    unsat_here told tells q = left_stopped plants copies told h.by q e (Writing 0 None) x z (unsat plants copies s x z may none unplaced frame ne pages e acted told tells q)

    pub reset_unseated : HasResetBy plants copies h of x y pages (Err e)
    reset_unseated =
        let book = book_stopped plants copies h.by e z (entered x.book h.by) (seat_book plants copies s x z may none unplaced frame ne) in
        record {
          pieces = p ∷ [];
          shaped = (reply.Plain, refl);
          cut = Some (cut_at e (Writing 0 None));
          played = bare_cut plants copies h p e (Writing 0 None) x y (unsat_here ⊥ (λ t. absurd t) p) own_piece book;
          tight = none_tight e p.sitting;
          acts = acted_stopped plants copies h.by e x z (unsat_acted plants copies s x z may none unplaced frame ne pages e acted);
          counts = λ k other. ap (λ (l : List ℕ). counts_of l k) (printed_stopped e h.by z ∙ seat_printed plants copies s x z may none unplaced frame ne);
          once = stopped_once plants e h.by x z (course_once plants x z acts.on.course);
          volumes = view_stopped plants copies s x z may none unplaced frame ne e h.by z (λ w. VolumesStay none_lost (v x) w) acts.on.course.volumes;
          others = λ t. view_stopped plants copies s x z may none unplaced frame ne e h.by z (λ w. IsOnlyOn (v x) w) (acts.on.apart t).others;
          papers = λ t. view_stopped plants copies s x z may none unplaced frame ne e h.by z (λ w. SamePapers (v x) w) (acts.on.apart t).papers;
          wires = λ t. view_stopped plants copies s x z may none unplaced frame ne e h.by z (λ w. SameWires (v x) w) (acts.on.apart t).wires;
          quiet = λ b. absurd b;
          away = λ free. absurd (away_never plants copies s x z may none unplaced frame ne y
              (holder_stopped plants copies h.by e z ∙ ap (λ (b : Book). b.holder) (seat_book plants copies s x z may none unplaced frame ne)) free);
          told = λ t. record {
            pieces = now ∷ [];
            is = refl;
            cut = Some (cut_at e (Writing 0 None));
            left = bare_cut plants copies h now e (Writing 0 None) x y (unsat_here ⊥ (λ u. absurd u) now) (sitting_own (queue_of x) h (reset_begins of) nothing_found) book;
            tight = none_tight e now.sitting;
            broke = unbroken e 0 None now.sitting;
            writes = cut_writes plants copies (Unit {0}) h.by now e (Writing 0 None) x y (unsat_here (Unit {0}) (λ u. t) now) [] tt;
          };
        }

  -- ITS SITTING WAS CUT

  module _ (took : CopiesActed plants {T = Unit {0}} h.by x z (Ok tt)) (w : Parts P C) (same : w ≡ sat_in w z) (pages : ℕ) (e : NodeNo) (t : Sitting)
      (own : All (AreOf h.by h.step) t.batches) (shaped : IsResetPiece h of (piece_of t false [] ∷ [])) (is : plants.tells → piece_of t false [] ∷ [] ≡ reset_pieces (queue_of z) h of)
      (sat : IsSatAs plants h.by t z w (Err e)) where
    seated : CopiesActed plants {T = Unit {0}} h.by (taken h.by x) z (Ok tt)
    seated = subst (λ (q : Parts P C). CopiesActed plants {T = Unit {0}} h.by q z (Ok tt)) (sym taken_same) took

    abbrev at_end : Parts P C
    at_end = stopped_by e h.by w

    abbrev its_piece : Piece
    its_piece = piece_of t false []

    book_at : (halt : Halt) → IsLocked halt → at_end.book ≡ stopped_for h.by (cause_by e) (book_cut h.by halt x.book its_piece)
    book_at halt locked =
        book_stopped plants copies h.by e w (book_cut h.by halt x.book its_piece)
        (sat_book plants copies s x z may none unplaced frame ne seated w same ∙ sym (book_locked h.by halt x.book its_piece locked))

    pub reset_cut : HasResetBy plants copies h of x at_end pages (Err e)
    reset_cut =
        let c = bare_in plants copies s x z may none unplaced frame ne seated w same its_piece e sat.sat sat.tight in
        record {
          pieces = its_piece ∷ [];
          shaped = shaped;
          cut = Some (cut_at e c.halt);
          played = bare_cut plants copies h its_piece e c.halt x at_end (left_stopped plants copies ⊥ h.by its_piece e c.halt x w c.left) own (book_at c.halt c.locked);
          tight = c.tight;
          acts = acted_stopped plants copies h.by e x w (acts_then plants copies h.by x z w (Err e) (seat_acted plants copies s x z may none unplaced frame ne seated)
              (sat_acted plants copies s x z may none unplaced frame ne seated w same e sat.sat.acts));
          counts = λ k other. ap (λ (l : List ℕ). counts_of l k) (printed_stopped e h.by w) ∙ sat.sat.counts.others k other
              ∙ ap (λ (l : List ℕ). counts_of l k) (seat_printed plants copies s x z may none unplaced frame ne);
          once = stopped_once plants e h.by x w (courses_once plants x z w took.on.course sat.sat.acts.course);
          volumes = view_stopped plants copies s x z may none unplaced frame ne e h.by w (λ q. VolumesStay none_lost (v x) q) (sat_stays plants copies s x z may none unplaced frame ne seated w same sat.sat.acts);
          others = λ u. view_stopped plants copies s x z may none unplaced frame ne e h.by w (λ q. IsOnlyOn (v x) q) (sat_still plants copies s x z may none unplaced frame ne seated w same sat.sat.acts u);
          papers = λ u. view_stopped plants copies s x z may none unplaced frame ne e h.by w (λ q. SamePapers (v x) q) (sat_dry plants copies s x z may none unplaced frame ne seated w same sat.sat.acts u);
          wires = λ u. view_stopped plants copies s x z may none unplaced frame ne e h.by w (λ q. SameWires (v x) q) (wires_then (v x) (v z) (v w) (took.on.apart u).wires (sat.sat.acts.wires u));
          quiet = λ b. absurd (not_aside plants copies s x z may none unplaced frame ne seated w same c.halt c.locked b);
          away = λ free. absurd (away_never plants copies s x z may none unplaced frame ne at_end
              (holder_stopped plants copies h.by e w ∙ ap (λ (b : Book). b.holder) (sat_book plants copies s x z may none unplaced frame ne seated w same)) free);
          told = λ u.
              let d = told_in plants copies s x z may none unplaced frame ne seated w same u its_piece e sat.sat sat.tight in
              let i = left_stopped plants copies (Unit {0}) h.by its_piece e d.halt x w d.left in
              record {
                pieces = its_piece ∷ [];
                is = is u ∙ ap (λ (Q : Queue). reset_pieces Q h of) (seat_queue plants copies s x z may none unplaced frame ne);
                cut = Some (cut_at e d.halt);
                left = record {
                  of = All-cons (IsOwnPiece h.by h.step) its_piece [] own (All-nil (IsOwnPiece h.by h.step));
                  by_answer = cut_is plants copies (Unit {0}) h.by its_piece e d.halt x at_end i [];
                  leaves = cut_leaves plants copies (Unit {0}) h.by its_piece e d.halt x at_end i [] (book_at d.halt d.locked);
                };
                tight = d.tight;
                broke = d.broke tt;
                writes = cut_writes plants copies (Unit {0}) h.by its_piece e d.halt x at_end i [] tt;
              };
        }
