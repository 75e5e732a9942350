-- A step that is cut in its first piece: what it left, by where that was.
use Rattle.std.proofs.Common.{◌≡◌, ◌≢◌, ℕ, ◌+◌, ◌≤◌, Bool, true, false, List, [], ◌∷◌, ◌++◌, length, take, drop, inl, inr, All, Option, Some, None, Err, refl, sym, ap, subst, arith}
use Rattle.std.proofs.lemmas.List.Elements.{All-cons, All-nil}
use Rattle.mas_types.specs.declared.ids.MemberId.{MemberId}
use Rattle.mas_types.specs.declared.journals.Batch.{Batch}
use Rattle.mas_types.specs.declared.journals.Entry.{Entry}
use Rattle.mas_types.specs.declared.jobs.Job.{Job}
use Rattle.mas_types.specs.declared.jobs.Output.{Output}
use Rattle.mas_types.specs.declared.queues.Queue.{Queue}
use Rattle.mas_types.specs.Queue.{job_at, output_at}
use Rattle.std.specs.Option.{option_map_or}
use Rattle.mas_types.specs.Run.{run}
use Rattle.lock_cycle.specs.Books.{Book, after_stop}
use Rattle.spool_plant.specs.View.{View, paper_now}
use Rattle.spool_plant.specs.declared.plant.Plant.{Ghosts as PlantGhosts}
use Rattle.ckpt_copy.specs.declared.copying.Copying.{Ghosts as CopyGhosts}
use Rattle.mas_complex.specs.Paper.{counts_of}
use Rattle.mas_complex.specs.Parts.{Parts}
use Rattle.member_node.specs.declared.member.NodeNo.{NodeNo}
use Rattle.member_node.specs.declared.member.NodeNo.TheVariants.{BothLost, Halted, ConsoleFault, NoMemory}
use Rattle.member_node.specs.Calls.{VolumesStay, console_now, none_lost}
use Rattle.member_sittings.specs.Left.{Reach, first_of}
use Rattle.member_sittings.specs.Sat.{Start, journal_of}
use Rattle.member_sittings.specs.Tight.{IfNoWork, IsTightBy}
use Rattle.member_sittings.specs.Whole.{queue_of}
use Rattle.step_turns.specs.Courses.{sittings_most}
use Rattle.step_turns.specs.Entries.{all_entries}
use Rattle.step_turns.specs.Examples.{calm, with_text}
use Rattle.step_turns.specs.States.{nothing_found}
use Rattle.step_turns.specs.Sittings.{Sitting, sit}
use Rattle.step_turns.specs.declared.states.Found.{Found}
use Rattle.step_turns.specs.declared.states.State.{State}
use Rattle.step_turns.specs.declared.states.Aside.TheVariants.{Acknowledge, Exchange, PrintLines, ReadText, SpoolArrival, SpoolDeck, SpoolOutputs}
use Rattle.step_turns.specs.declared.states.Holder.{Holder}
use Rattle.step_turns.specs.declared.states.State.TheVariants.{Away, Fresh, Rested, Told}
use Rattle.member_sittings.specs.declared.ends.SittingEnd.{SittingEnd}
use Rattle.run_turns.specs.Cuts.{batches_cut, book_cut, given_cut, lines_cut, printed_cut, stopped_by as stopped_for}
use Rattle.run_turns.specs.Pieces.{Piece}
use Rattle.run_turns.specs.Sights.{Begun, Cut, Halt, Sight, Waiting, Writing, clear}
use Rattle.member_hand.specs.Cuts.{AreBatched, ArePart, IsBroken, IsCut, IsFlying, IsHaltBy, IsTight, cause_by}
use Rattle.member_hand.specs.Hears.{GivesOnly, TakesNothing, line_served}
use Rattle.member_hand.specs.Sits.{IsLineTask}
use Rattle.member_hand.specs.Plays.{HasActedIn, HasCut, HasToldStep, IsOwnPiece, Leaves, Writes, left_of, pieces_at, stopped_by}
use Rattle.member_hand.proofs.Fuel.{finds_here, loses_ink}
use Rattle.member_hand.proofs.Halting.{pieces_own}
use Rattle.member_hand.proofs.Reaching.{begun_by, fate_by, halt_by, part_some}
use Rattle.member_hand.proofs.Sighting.{first_and_more, piece_now, sight_then}
use Rattle.member_hand.proofs.StepKinds.{hears_early}
use Rattle.run_turns.specs.Pieces.{pieces_from}
use Rattle.run_turns.specs.Scenes.{count_then}
use Rattle.step_turns.specs.Courses.{holder_then}

abbrev pub cut_at : NodeNo → Halt → Cut
cut_at e halt = record { sittings = 0; halt = halt; cause = cause_by e }

-- WHAT A CUT MAY NOT LEAVE

no_part : (ess : List (List Entry)) → ArePart 0 ess
no_part [] = inr refl
no_part (es ∷ ess) = inl (omega arith)

-- nothing was begun
pub none_tight : (e : NodeNo) (t : Sitting) → IsTight e (Writing 0 None) t
none_tight NoMemory t = no_part t.batches
none_tight BothLost t = (no_part t.batches, tt)
none_tight Halted t = tt
none_tight ConsoleFault t = tt

pub unbroken : (e : NodeNo) (n : ℕ) (b : Option Begun) (t : Sitting) → IsBroken e (Writing n b) t
unbroken NoMemory n b t = tt
unbroken BothLost n b t = tt
unbroken Halted n b t = tt
unbroken ConsoleFault n b t = tt

-- the acts after a sitting, whose batches are kept
pub aside_tight : (e : NodeNo) (n : ℕ) (tail : Option (List ℕ)) (t : Sitting) → IsTight e (Waiting n tail) t
aside_tight NoMemory n tail t = tt
aside_tight BothLost n tail t = tt
aside_tight Halted n tail t = tt
aside_tight ConsoleFault n tail t = tt

pub aside_unbroken : (e : NodeNo) (n : ℕ) (tail : Option (List ℕ)) (t : Sitting) → IsBroken e (Waiting n tail) t
aside_unbroken NoMemory n tail t = tt
aside_unbroken BothLost n tail t = tt
aside_unbroken Halted n tail t = tt
aside_unbroken ConsoleFault n tail t = tt

flies_alone : (part : ℕ) (flies : Bool) (xs es : List Entry) → es ≡ take part xs → (1 ≤ part → flies ≡ true) → IsFlying (begun_by part flies es)
flies_alone part flies xs [] is f = tt
flies_alone part flies xs (e ∷ es) is f = ap fate_by (f (part_some part xs es e is))

pub reach_tight : (e : NodeNo) (r : Reach) (t : Sitting) → IsTightBy {T = SittingEnd} (Err e) t.batches r → IsTight e (halt_by r t.batches) t
reach_tight NoMemory r t tight = inl tight
reach_tight BothLost r t tight = (inl tight.0, flies_alone r.part r.flies (first_of (drop r.whole t.batches)) (take r.part (first_of (drop r.whole t.batches))) refl tight.1)
reach_tight Halted r t tight = flies_alone r.part r.flies (first_of (drop r.whole t.batches)) (take r.part (first_of (drop r.whole t.batches))) refl tight
reach_tight ConsoleFault r t tight = tt

-- NOTHING THAT A CALM STEP FINDS is a lost printer or a lost line

of_option : {A : Type 0} (f : A → Found) (o : Option A) → ((a : A) → (f a).printer ≡ false) → (option_map_or f o nothing_found).printer ≡ false
of_option f None none = refl
of_option f (Some a) none = none a

pub calm_printer : (Q : Queue) (s : State) → (calm Q s).printer ≡ false
calm_printer Q (Away (SpoolDeck n text)) = refl
calm_printer Q (Away (SpoolOutputs n specs p)) = refl
calm_printer Q (Away (ReadText runs n fields p)) = of_option (λ (j : Job). with_text j.text) (job_at Q n) (λ j. refl)
calm_printer Q (Away (PrintLines n i last p)) = of_option (λ (o : Output). with_text o.text) (output_at Q n i) (λ o. refl)
calm_printer Q (Away (Exchange l None)) = refl
calm_printer Q (Away (Exchange l (Some o))) = of_option (λ (j : Job). with_text j.text) (job_at Q o.job) (λ j. refl)
calm_printer Q (Away (SpoolArrival number job cards service)) = refl
calm_printer Q (Away (Acknowledge number service)) = refl
calm_printer Q (Fresh task) = refl
calm_printer Q (Rested p) = refl
calm_printer Q Told = refl

of_wire : {A : Type 0} (f : A → Found) (o : Option A) → ((a : A) → (f a).wire ≡ false) → (option_map_or f o nothing_found).wire ≡ false
of_wire f None none = refl
of_wire f (Some a) none = none a

pub calm_wire : (Q : Queue) (s : State) → (calm Q s).wire ≡ false
calm_wire Q (Away (SpoolDeck n text)) = refl
calm_wire Q (Away (SpoolOutputs n specs p)) = refl
calm_wire Q (Away (ReadText runs n fields p)) = of_wire (λ (j : Job). with_text j.text) (job_at Q n) (λ j. refl)
calm_wire Q (Away (PrintLines n i last p)) = of_wire (λ (o : Output). with_text o.text) (output_at Q n i) (λ o. refl)
calm_wire Q (Away (Exchange l None)) = refl
calm_wire Q (Away (Exchange l (Some o))) = of_wire (λ (j : Job). with_text j.text) (job_at Q o.job) (λ j. refl)
calm_wire Q (Away (SpoolArrival number job cards service)) = refl
calm_wire Q (Away (Acknowledge number service)) = refl
calm_wire Q (Fresh task) = refl
calm_wire Q (Rested p) = refl
calm_wire Q Told = refl

-- THE PIECE THAT THE QUEUE GIVES, with what it would have printed
module _ {P C : Type 0} (s : Start) (x : Parts P C) where
  abbrev pub its_sitting : Sitting
  its_sitting = sit (queue_of x) s.holder s.state s.found

  abbrev pub its_queue : Queue
  its_queue = run (queue_of x) (all_entries its_sitting.batches)

  abbrev pub its_piece : Piece
  its_piece = piece_now (counts_of x.printed s.holder.by) (queue_of x) s.holder its_sitting (calm its_queue its_sitting.next) 0

module _ {P C : Type 0} (plants : PlantGhosts P) (copies : CopyGhosts C) where
  abbrev v : Parts P C → View
  v x = plants.view x.plant

  -- WHAT IS KNOWN OF THE CUT, but the book
  pub record IsLeftAt (told : Type 0) (by : MemberId) (p : Piece) (e : NodeNo) (halt : Halt) (x w : Parts P C) : Type 0 where
    pub by_answer : IsHaltBy e halt
    pub more : List Batch
    pub journal : journal_of w ≡ x.batches ++ more
    pub batches : AreBatched by (v x).now (v w).now (batches_cut by halt p.sitting.batches) more
    pub console : told → console_now (v w) ≡ console_now (v x) ++ lines_cut by halt p.sitting.lines
    pub paper : told → paper_now (v w) by.0 ≡ paper_now (v x) by.0 ++ printed_cut by halt p.printed
    pub other_papers : told → (m : ℕ) → m ≢ by.0 → paper_now (v w) m ≡ paper_now (v x) m
    pub other_counts : told → (m : MemberId) → m ≢ by → counts_of w.printed m ≡ counts_of x.printed m

  -- THE STOP OF A MEMBER that was halted changes none of this

  pub left_stopped : (told : Type 0) (by : MemberId) (p : Piece) (e : NodeNo) (halt : Halt) (x w : Parts P C) → IsLeftAt told by p e halt x w → IsLeftAt told by p e halt x (stopped_by e by w)
  left_stopped told by p Halted halt x w i =
      record { by_answer = i.by_answer; more = i.more; journal = i.journal; batches = i.batches; console = i.console; paper = i.paper; other_papers = i.other_papers; other_counts = i.other_counts }
  left_stopped told by p BothLost halt x w i = i
  left_stopped told by p ConsoleFault halt x w i = i
  left_stopped told by p NoMemory halt x w i = i

  pub acted_stopped : (by : MemberId) (e : NodeNo) (x w : Parts P C) → HasActedIn plants copies by x w (Err e) → HasActedIn plants copies by x (stopped_by e by w) (Err e)
  acted_stopped by Halted x w a = record { course = a.course; loses = a.loses; spares = a.spares; cause = a.cause; notes = a.notes }
  acted_stopped by BothLost x w a = a
  acted_stopped by ConsoleFault x w a = a
  acted_stopped by NoMemory x w a = a

  pub book_stopped : (by : MemberId) (e : NodeNo) (w : Parts P C) (b : Book) → w.book ≡ b → (stopped_by e by w).book ≡ stopped_for by (cause_by e) b
  book_stopped by Halted w b is = ap (λ (c : Book). after_stop c by) is
  book_stopped by BothLost w b is = is
  book_stopped by ConsoleFault w b is = is
  book_stopped by NoMemory w b is = is

  pub holder_stopped : (by : MemberId) (e : NodeNo) (w : Parts P C) → (stopped_by e by w).book.holder ≡ w.book.holder
  holder_stopped by Halted w = refl
  holder_stopped by BothLost w = refl
  holder_stopped by ConsoleFault w = refl
  holder_stopped by NoMemory w = refl

  -- WHAT IT LEFT

  module _ (told : Type 0) (by : MemberId) (p : Piece) (e : NodeNo) (halt : Halt) (x w : Parts P C) (i : IsLeftAt told by p e halt x w) (ps : List Piece) where
    pub cut_is : IsCut e (p ∷ ps) (cut_at e halt)
    cut_is = record { there = omega arith; halt = i.by_answer; cause = refl }

    pub cut_leaves : w.book ≡ stopped_for by (cause_by e) (book_cut by halt x.book p) → Leaves plants copies by (left_of plants copies by (Some (cut_at e halt)) (p ∷ ps) x) x w
    cut_leaves book = record { more = i.more; journal = i.journal; batches = i.batches; book = book }

    pub cut_writes : told → Writes plants copies by (left_of plants copies by (Some (cut_at e halt)) (p ∷ ps) x) x w (Err e)
    cut_writes t = record { console = i.console t; paper = i.paper t; other_papers = i.other_papers t; count = tt; other_counts = i.other_counts t }

  -- whatever the plant tells, of a piece that is of the step
  pub bare_cut : (h : Holder) (p : Piece) (e : NodeNo) (halt : Halt) (x w : Parts P C) → IsLeftAt ⊥ h.by p e halt x w → IsOwnPiece h.by h.step p
      → w.book ≡ stopped_for h.by (cause_by e) (book_cut h.by halt x.book p) → HasCut plants copies h (p ∷ []) (Some (cut_at e halt)) x w (Err e)
  bare_cut h p e halt x w i own book = record {
    of = All-cons (IsOwnPiece h.by h.step) p [] own (All-nil (IsOwnPiece h.by h.step));
    by_answer = cut_is ⊥ h.by p e halt x w i [];
    leaves = cut_leaves ⊥ h.by p e halt x w i [] book;
  }

  -- where content is told, of the piece that the queue gives
  module _ (s : Start) (e : NodeNo) (halt : Halt) (x w : Parts P C) (ne : s.state ≢ Told) where
    abbrev t : Sitting
    t = its_sitting s x

    abbrev now : Queue
    now = its_queue s x

    abbrev count : ℕ
    count = counts_of x.printed s.holder.by

    abbrev p : Piece
    p = its_piece s x

    abbrev sight : Sight
    sight = sight_then clear (sittings_most s.state) s.found (loses_ink t.next (calm now t.next)) 0 (Some (cut_at e halt))

    abbrev more : List Piece
    more = pieces_from (sittings_most t.next) clear (count_then s.holder.by (all_entries t.batches) count + length p.printed) now (holder_then (queue_of x) s.holder (all_entries t.batches)) t.next

    pieces_are : pieces_at plants copies sight x s.holder s.state ≡ p ∷ more
    pieces_are = first_and_more clear s.found (calm now t.next) 0 (Some (cut_at e halt)) count (queue_of x) s.holder s.state ne refl p refl

    pub told_cut : VolumesStay none_lost (v x) (v w) → IfNoWork s.state (IsTight e halt p.sitting) → IsBroken e halt p.sitting → IsLeftAt (Unit {0}) s.holder.by p e halt x w → w.book ≡ stopped_for s.holder.by (cause_by e) (book_cut s.holder.by halt x.book p)
        → GivesOnly s.holder.by (line_served s.state) (given_cut s.holder.by halt p.given) (v x) (v w) → ((IsLineTask s.state → ⊥) → TakesNothing (v x) (v w)) → (was is : Option (List ℕ)) → HasToldStep plants copies s x w was is (Err e)
    told_cut volumes tight broke i book gives takes was is = record {
      sight = sight;
      pieces = p ∷ more;
      is = sym pieces_are;
      found = finds_here (sittings_most s.state) s.found clear.finds (queue_of x) s.state refl;
      finds = All-nil _;
      volumes = volumes;
      cut = record {
        of = subst (λ (ps : List Piece). All (IsOwnPiece s.holder.by s.holder.step) ps) pieces_are (pieces_own sight (sittings_most s.state) count (queue_of x) s.holder s.state);
        by_answer = cut_is (Unit {0}) s.holder.by p e halt x w i more;
        leaves = cut_leaves (Unit {0}) s.holder.by p e halt x w i more book;
      };
      tight = tight;
      broke = broke;
      writes = cut_writes (Unit {0}) s.holder.by p e halt x w i more tt;
      gives = gives;
      hears = hears_early s.holder.by (v x) (v w) was is s.state e sight.finds takes;
    }
