-- As many pieces as a step may have are enough, and a step finds the same where what it found before its sittings alone
-- differs.
use Rattle.std.proofs.Common.{◌≡◌, ◌≢◌, ℕ, zero, suc, ◌+◌, ◌==◌, ◌≤◌, ◌<◌, Bool, true, false, if◌then◌else◌, List, [], ◌∷◌, length, take, Option, Some, None, refl, sym, ap, ◌∙◌, subst, arith}
use Rattle.std.proofs.lemmas.Bool.{eq-eqb, ne_eqb}
use Rattle.mas_types.specs.declared.answers.Closing.{Closing}
use Rattle.mas_types.specs.declared.answers.Closing.TheVariants as closing
use Rattle.mas_types.specs.declared.ids.JobNo.{JobNo}
use Rattle.mas_types.specs.declared.ids.OutNo.{OutNo}
use Rattle.mas_types.specs.declared.queues.Queue.{Queue}
use Rattle.mas_types.specs.Closings.{closing_line}
use Rattle.mas_types.specs.Run.{run}
use Rattle.nje_frames.specs.declared.frames.Frame.{Frame}
use Rattle.step_turns.specs.Courses.{Finds, holder_then, sittings_most}
use Rattle.step_turns.specs.Entries.{all_entries}
use Rattle.step_turns.specs.Sittings.{Sitting, sit}
use Rattle.job_outcome.specs.declared.outcomes.Read.{Read}
use Rattle.job_outcome.specs.declared.outcomes.Read.TheVariants.{Gone, Lines, Lost}
use Rattle.step_turns.specs.JobEnds.{printed_end}
use Rattle.step_turns.specs.Sittings.{sitting_of}
use Rattle.step_turns.specs.Serving.{acknowledged, exchange_end, exchanged, heard, unless_cut, unread}
use Rattle.step_turns.specs.TurnParts.{says}
use Rattle.step_turns.specs.Turns.{lines_printed}
use Rattle.step_turns.specs.declared.states.Aside.TheVariants.{Acknowledge, Exchange, PrintLines, ReadText, SpoolArrival, SpoolDeck, SpoolOutputs}
use Rattle.step_turns.specs.declared.states.Progress.{Progress}
use Rattle.step_turns.specs.declared.states.Found.{Found}
use Rattle.step_turns.specs.declared.states.Holder.{Holder}
use Rattle.step_turns.specs.declared.states.Service.{Service}
use Rattle.step_turns.specs.declared.states.State.{State}
use Rattle.step_turns.specs.declared.states.State.TheVariants.{Away, Fresh, Rested, Told}
use Rattle.step_turns.proofs.Sittings.{by_state, some_may_follow, steps_end}
use Rattle.run_turns.specs.Scenes.{count_then}
use Rattle.run_turns.specs.Sights.{Sight}
use Rattle.run_turns.specs.Pieces.{Piece, chunk, inked_of, piece_at, piece_of, pieces_from, poured, unless_told, with_given}

-- MORE PIECES THAN A STEP MAY HAVE ADD NONE

module _ (sight : Sight) where
  abbrev pieces_to : ℕ → ℕ → Queue → Holder → State → List Piece
  pieces_to k n Q h s = unless_told s (pieces_from k sight n Q h s)

  unless_not : (s : State) (ps : List Piece) → s ≢ Told → unless_told s ps ≡ ps
  unless_not (Fresh task) ps ne = refl
  unless_not (Away aside) ps ne = refl
  unless_not (Rested p) ps ne = refl
  unless_not Told ps ne = absurd (ne refl)

  pub enough : (j k n : ℕ) (Q : Queue) (h : Holder) (s : State) → sittings_most s ≤ j → sittings_most s ≤ k → pieces_to j n Q h s ≡ pieces_to k n Q h s
  enough zero k n Q h s less more =
      by_state (λ s. sittings_most s ≤ 0 → pieces_to 0 n Q h s ≡ pieces_to k n Q h s) (λ le. refl) (λ s ne le. let some = some_may_follow s ne in absurd (omega (arith, some, le))) s less
  enough (suc j) zero n Q h s less more =
      by_state (λ s. sittings_most s ≤ 0 → pieces_to (suc j) n Q h s ≡ pieces_to 0 n Q h s) (λ le. refl) (λ s ne le. let some = some_may_follow s ne in absurd (omega (arith, some, le))) s more
  enough (suc j) (suc k) n Q h s less more =
      by_state (λ s. sittings_most s ≤ suc j → sittings_most s ≤ suc k → pieces_to (suc j) n Q h s ≡ pieces_to (suc k) n Q h s)
      (λ le le'. refl)
      (λ s ne le le'.
      let p = piece_at sight n Q h s in
      let es = all_entries p.sitting.batches in
      let fewer = steps_end Q h s (sight.finds Q s) ne in
      unless_not s (pieces_from (suc j) sight n Q h s) ne
      ∙ ap (λ (ps : List Piece). p ∷ ps) (enough j k (count_then h.by es n + length p.printed) (run Q es) (holder_then Q h es) p.sitting.next (omega (arith, fewer, le)) (omega (arith, fewer, le')))
      ∙ sym (unless_not s (pieces_from (suc k) sight n Q h s) ne))
      s less more

  -- as many as it may have are never too many
  just_enough : (n : ℕ) (Q : Queue) (h : Holder) (s : State) → pieces_to (sittings_most s) n Q h s ≡ pieces_from (sittings_most s) sight n Q h s
  just_enough n Q h s = by_state (λ s. pieces_to (sittings_most s) n Q h s ≡ pieces_from (sittings_most s) sight n Q h s) refl (λ s ne. unless_not s (pieces_from (sittings_most s) sight n Q h s) ne) s

  pub enough_of : (j n : ℕ) (Q : Queue) (h : Holder) (s : State) → sittings_most s ≤ j → pieces_to j n Q h s ≡ pieces_from (sittings_most s) sight n Q h s
  enough_of j n Q h s le = enough j (sittings_most s) n Q h s le (omega arith) ∙ just_enough n Q h s

-- WHAT IS FOUND AT A STATE WITH THIS MANY SITTINGS BEFORE IT

abbrev pub finding : ℕ → Found → Finds → Finds
finding most found finds Q s = if sittings_most s == most then found else finds Q s

found_there : (b : Bool) (x y : Found) → b ≡ true → (if b then x else y) ≡ x
found_there true x y e = refl
found_there false x y e = absurd (cc)

found_else : (b : Bool) (x y : Found) → b ≡ false → (if b then x else y) ≡ y
found_else true x y e = absurd (cc)
found_else false x y e = refl

module _ (most : ℕ) (found : Found) (finds : Finds) where
  pub finds_here : (Q : Queue) (s : State) → sittings_most s ≡ most → finding most found finds Q s ≡ found
  finds_here Q s e = found_there (sittings_most s == most) found (finds Q s) (eq-eqb (sittings_most s) most e)

  pub finds_later : (Q : Queue) (s : State) → sittings_most s < most → finding most found finds Q s ≡ finds Q s
  finds_later Q s less = found_else (sittings_most s == most) found (finds Q s) (ne_eqb (sittings_most s) most (λ e. omega (arith, less, e)))

-- SIGHTS THAT FIND THE SAME

-- a piece of this sitting, by what is found in the acts after it
abbrev pub piece_by : ℕ → Finds → ℕ → Queue → Holder → Sitting → Piece
piece_by inked finds n Q h t =
    let es = all_entries t.batches in
    let now = run Q es in
    let found = finds now t.next in
    with_given (poured inked t.next found) (piece_of t found.printer (inked_of found.printer inked (chunk now (count_then h.by es n) t.next found.read)))

-- so many pieces at most, of which this is the first
abbrev piece_first : ℕ → Sight → ℕ → Queue → Holder → Piece → List Piece
piece_first k sight n Q h p =
    let es = all_entries p.sitting.batches in
    p ∷ unless_told p.sitting.next (pieces_from k sight (count_then h.by es n + length p.printed) (run Q es) (holder_then Q h es) p.sitting.next)

-- a sitting has no more sittings before it than its state
pub no_more : (Q : Queue) (h : Holder) (s : State) (found : Found) → sittings_most (sit Q h s found).next ≤ sittings_most s
no_more Q h s found =
    by_state (λ s. sittings_most (sit Q h s found).next ≤ sittings_most s) (omega arith) (λ s ne. let fewer = steps_end Q h s found ne in omega (arith, fewer)) s

module _ (A B : Sight) (most : ℕ) (alike : (Q : Queue) (s : State) → sittings_most s < most → A.finds Q s ≡ B.finds Q s) (ink : A.inked ≡ B.inked) where
  pub same_piece : (n : ℕ) (Q : Queue) (h : Holder) (s : State) → sittings_most s < most → piece_at A n Q h s ≡ piece_at B n Q h s
  same_piece n Q h s less =
      let found = B.finds Q s in
      let t = sit Q h s found in
      let es = all_entries t.batches in
      let now = run Q es in
      let le = no_more Q h s found in
      ap (λ (f : Found). piece_by A.inked A.finds n Q h (sit Q h s f)) (alike Q s less)
      ∙ ap (λ (f : Found). with_given (poured A.inked t.next f) (piece_of t f.printer (inked_of f.printer A.inked (chunk now (count_then h.by es n) t.next f.read)))) (alike now t.next (omega (arith, less, le)))
      ∙ ap (λ (i : ℕ). piece_by i B.finds n Q h t) ink

  pub same_pieces : (k n : ℕ) (Q : Queue) (h : Holder) (s : State) → sittings_most s < most → pieces_from k A n Q h s ≡ pieces_from k B n Q h s
  same_pieces zero n Q h s less = refl
  same_pieces (suc k) n Q h s less =
      let p = piece_at B n Q h s in
      let es = all_entries p.sitting.batches in
      let le = no_more Q h s (B.finds Q s) in
      ap (piece_first k A n Q h) (same_piece n Q h s less)
      ∙ ap (λ (ps : List Piece). p ∷ unless_told p.sitting.next ps) (same_pieces k (count_then h.by es n + length p.printed) (run Q es) (holder_then Q h es) p.sitting.next (omega (arith, less, le)))

-- A PRINTER OR A LINE THAT WAS FOUND LOST: the next sitting closes the step, and nothing is printed or given after it

abbrev pub no_lines : List (List ℕ)
no_lines = []

none_taken : (i : ℕ) → take i no_lines ≡ no_lines
none_taken zero = refl
none_taken (suc i) = refl

pub none_inked : (b : Bool) (i : ℕ) → inked_of b i no_lines ≡ no_lines
none_inked true i = none_taken i
none_inked false i = refl

-- a unit that prints is refused then
pub record IsRefused (b : Bool) (r : Read) : Type 0 where
  pub end : Closing
  pub is : printed_end b r ≡ Some end

refused : (b : Bool) (r : Read) → b ≡ true → IsRefused b r
refused b (Gone group) e = record { end = _; is = refl }
refused b (Lost volume) e = record { end = _; is = refl }
refused true (Lines lines) e = record { end = _; is = refl }
refused false (Lines lines) e = absurd (cc)

-- and so does a step that exchanges
pub record IsClosed (l : ℕ) (b : Bool) (o : Option Closing) : Type 0 where
  pub end : Closing
  pub is : unless_cut l b o ≡ Some end

closed : (l : ℕ) (b : Bool) (o : Option Closing) → b ≡ true → IsClosed l b o
closed l b (Some end) e = record { end = _; is = refl }
closed l true None e = record { end = _; is = refl }
closed l false None e = absurd (cc)

-- whether it was looked at how much stands on paper, or on the line, of what a state had to print or give
abbrev pub loses_ink : State → Found → Bool
loses_ink (Away (PrintLines n i last p)) found = found.printer
loses_ink (Away (Exchange l offer)) found = found.wire
loses_ink (Away (Acknowledge (Some number) service)) found = found.wire
loses_ink s found = false

module _ (A : Sight) (i : ℕ) where
  abbrev B : Sight
  B = record A { inked = i }

  abbrev after_sitting : ℕ → ℕ → Sight → ℕ → Queue → Holder → Sitting → List Piece
  after_sitting inked k sight n Q h t = piece_first k sight n Q h (piece_by inked A.finds n Q h t)

  -- where the sitting closes the step, it doesn't matter
  told_end : (k n : ℕ) (Q : Queue) (h : Holder) (lines : List (List ℕ)) → after_sitting A.inked k A n Q h (sitting_of h (says lines)) ≡ after_sitting i k B n Q h (sitting_of h (says lines))
  told_end k n Q h lines =
      let t = sitting_of h (says lines) in
      let found = A.finds Q Told in
      ap (λ (ls : List (List ℕ)). piece_of t found.printer ls ∷ []) (none_inked found.printer A.inked ∙ sym (none_inked found.printer i))

  lines_end : (k n : ℕ) (Q : Queue) (h : Holder) (job : JobNo) (output : OutNo) (last : ℕ) (p : Progress) (end : Option Closing) (why : Closing) → end ≡ Some why
      → after_sitting A.inked k A n Q h (sitting_of h (lines_printed h end Q job output last p)) ≡ after_sitting i k B n Q h (sitting_of h (lines_printed h end Q job output last p))
  lines_end k n Q h job output last p end why e =
      subst (λ (o : Option Closing). after_sitting A.inked k A n Q h (sitting_of h (lines_printed h o Q job output last p)) ≡ after_sitting i k B n Q h (sitting_of h (lines_printed h o Q job output last p))) (sym e)
      (told_end k n Q h (closing_line h.by h.step why ∷ []))

  line_end : (k n : ℕ) (Q : Queue) (h : Holder) (l : ℕ) (fs : List Frame) (end : Option Closing) (why : Closing) → end ≡ Some why
      → after_sitting A.inked k A n Q h (sitting_of h (exchanged h.by h.step end l fs Q)) ≡ after_sitting i k B n Q h (sitting_of h (exchanged h.by h.step end l fs Q))
  line_end k n Q h l fs end why e =
      subst (λ (o : Option Closing). after_sitting A.inked k A n Q h (sitting_of h (exchanged h.by h.step o l fs Q)) ≡ after_sitting i k B n Q h (sitting_of h (exchanged h.by h.step o l fs Q))) (sym e)
      (told_end k n Q h (closing_line h.by h.step why ∷ []))

  answer_end : (k n : ℕ) (Q : Queue) (h : Holder) (number : ℕ) (s : Service) (lost : Bool) → lost ≡ true
      → after_sitting A.inked k A n Q h (sitting_of h (acknowledged h.by h.step (Some number) lost s Q)) ≡ after_sitting i k B n Q h (sitting_of h (acknowledged h.by h.step (Some number) lost s Q))
  answer_end k n Q h number s lost e =
      subst (λ (b : Bool). after_sitting A.inked k A n Q h (sitting_of h (acknowledged h.by h.step (Some number) b s Q)) ≡ after_sitting i k B n Q h (sitting_of h (acknowledged h.by h.step (Some number) b s Q))) (sym e)
      (told_end k n Q h (closing_line h.by h.step (closing.LineLost s.line) ∷ []))

  lost_from : (k n : ℕ) (Q : Queue) (h : Holder) (s : State) (found : Found) → A.finds Q s ≡ found → loses_ink s found ≡ true → pieces_from k A n Q h s ≡ pieces_from k B n Q h s
  lost_from zero n Q h s found e loses = refl
  lost_from (suc k) n Q h (Away (PrintLines job output last p)) found e loses =
      let f = A.finds Q (Away (PrintLines job output last p)) in
      let r = refused f.printer f.read (ap (λ (g : Found). g.printer) e ∙ loses) in
      lines_end k n Q h job output last p (printed_end f.printer f.read) r.end r.is
  lost_from (suc k) n Q h (Away (Exchange l offer)) found e loses =
      let f = A.finds Q (Away (Exchange l offer)) in
      let r = closed l f.wire (unread offer f.read) (ap (λ (g : Found). g.wire) e ∙ loses) in
      line_end k n Q h l (heard f) (exchange_end offer l f) r.end r.is
  lost_from (suc k) n Q h (Away (Acknowledge (Some number) service)) found e loses =
      answer_end k n Q h number service (A.finds Q (Away (Acknowledge (Some number) service))).wire (ap (λ (g : Found). g.wire) e ∙ loses)
  lost_from (suc k) n Q h (Away (Acknowledge None service)) found e loses = absurd (cc)
  lost_from (suc k) n Q h (Away (SpoolDeck job text)) found e loses = absurd (cc)
  lost_from (suc k) n Q h (Away (ReadText runs job fields p)) found e loses = absurd (cc)
  lost_from (suc k) n Q h (Away (SpoolOutputs job specs p)) found e loses = absurd (cc)
  lost_from (suc k) n Q h (Away (SpoolArrival number job cards service)) found e loses = absurd (cc)
  lost_from (suc k) n Q h (Fresh task) found e loses = absurd (cc)
  lost_from (suc k) n Q h (Rested p) found e loses = absurd (cc)
  lost_from (suc k) n Q h Told found e loses = absurd (cc)

pub ink_is_free : (A : Sight) (i k n : ℕ) (Q : Queue) (h : Holder) (s : State) (found : Found) → A.finds Q s ≡ found → loses_ink s found ≡ true
    → pieces_from k A n Q h s ≡ pieces_from k (record A { inked = i }) n Q h s
ink_is_free A i k n Q h s found e loses = lost_from A i k n Q h s found e loses
