-- What a member's step does from a state on, with its lock, for every answer.
use Rattle.std.specs.Prelude.{◌≡◌, ◌≢◌, ℕ, ◌+◌, ◌≤◌, Bool, true, false, List, [], ◌++◌, length, take, All, Option, None, Result, Ok, Err, IfErr, OnOk}
use Rattle.mas_types.specs.declared.ids.Dev.{Dev}
use Rattle.mas_types.specs.declared.ids.Dev.TheVariants.{Ckpt1, Ckpt2}
use Rattle.mas_types.specs.declared.ids.MemberId.{MemberId}
use Rattle.mas_types.specs.declared.journals.Batch.{Batch}
use Rattle.mas_types.specs.declared.queues.Queue.{Queue}
use Rattle.mas_types.specs.Run.{run}
use Rattle.lock_cycle.specs.Books.{Book}
use Rattle.spool_plant.specs.declared.plant.Part.TheVariants.{Disk}
use Rattle.spool_plant.specs.View.{View, paper_now}
use Rattle.spool_plant.specs.Acts.{Goes}
use Rattle.spool_plant.specs.declared.plant.Plant.{Ghosts as PlantGhosts}
use Rattle.ckpt_copy.specs.declared.copying.Copying.{Ghosts as CopyGhosts}
use Rattle.ckpt_form.specs.declared.steady.Steady.{Ghosts as SteadyGhosts}
use Rattle.mas_complex.specs.declared.complex.Complex.{Complex}
use Rattle.mas_complex.specs.Locking.{IsOperatorAway}
use Rattle.mas_complex.specs.Paper.{SamePapers, counts_of}
use Rattle.mas_complex.specs.Parts.{Parts, parts_of}
use Rattle.mas_complex.specs.CallCounts.{pair_state}
use Rattle.member_node.specs.declared.member.Member.{Member}
use Rattle.member_node.specs.declared.member.NodeNo.{NodeNo}
use Rattle.member_node.specs.Calls.{Grows, IsOnlyOn, VolumesStay, WasLost, console_now}
use Rattle.member_node.specs.Spares.{Spares, stopped_in}
use Rattle.member_steps.specs.Noting.{OtherNotesStay}
use Rattle.member_steps.specs.Steps.{StepCauses}
use Rattle.member_decks.specs.Steps.{AreOf}
use Rattle.step_turns.specs.Courses.{holder_then, sittings_most}
use Rattle.step_turns.specs.Entries.{all_entries}
use Rattle.step_turns.specs.Sittings.{Sitting, sit}
use Rattle.step_turns.specs.declared.states.Holder.{Holder}
use Rattle.step_turns.specs.declared.states.State.{State}
use Rattle.step_turns.specs.declared.states.Aside.TheVariants.{PrintLines, ReadText, SpoolOutputs}
use Rattle.step_turns.specs.declared.states.State.TheVariants.{Away, Fresh, Rested, Told}
use Rattle.step_turns.specs.declared.states.Task.TheVariants.{Give, Work}
use Rattle.step_turns.specs.declared.states.Found.{Found}
use Rattle.run_turns.specs.Cuts.{Left, adds, left_by, none_left}
use Rattle.run_turns.specs.Pieces.{Piece, Play, chunk, inked_of, piece_of, pieces_from, poured, with_given}
use Rattle.run_turns.specs.Scenes.{count_then}
use Rattle.run_turns.specs.Sights.{Cut, Sight}
use Rattle.member_node.specs.declared.member.NodeNo.TheVariants.{Halted}
use Rattle.member_sittings.specs.Sat.{Start, journal_of}
use Rattle.member_sittings.specs.Shapes.{IsShaped}
use Rattle.member_sittings.specs.Tight.{IfNoWork}
use Rattle.member_sittings.specs.Whole.{IsSeat, queue_of}
use Rattle.member_frames.specs.Asides.{stopped_at}
use Rattle.member_hand.specs.Cuts.{AreBatched, AtCut, IsBetweenSittings, IsBroken, IsCutBy, IsTight, whole_pieces}
use Rattle.member_hand.specs.Found.{AreFoundIn, IsFoundAt, named_in, names_found, waits_in}
use Rattle.member_hand.specs.Hears.{GivesOnly, HearsIn, HearsStep, ReaderStaysFrom, ReaderStaysIn, line_served}
use Rattle.member_hand.specs.Quiet.{IsAside, IsQuiet, MayGoOn, levels_for}
use Rattle.member_hand.specs.Shapes.{AreShaped, IsFailedFound}
use Rattle.member_hand.specs.Sits.{AreFewUnits, GoesOn, IsFoundRight, start_of}
use Rattle.member_hand.specs.declared.sits.Stand.{Stand}

-- the step's batches are its own
abbrev pub IsOwnPiece : MemberId → ℕ → Piece → Type 0
IsOwnPiece by at p = All (AreOf by at) p.sitting.batches

-- asked of a command's step, which changes nothing but the copies and the console
abbrev pub IfCommand : State → Type 0 → Type 0
IfCommand (Fresh (Give c)) A = A
IfCommand Told A = A
IfCommand _ A = Unit {0}

-- asked of a step that doesn't work, which prints nothing
abbrev pub IfNoPrint : State → Type 0 → Type 0
IfNoPrint (Fresh (Work n)) A = Unit {0}
IfNoPrint (Away (ReadText runs n fields p)) A = Unit {0}
IfNoPrint (Away (SpoolOutputs n specs p)) A = Unit {0}
IfNoPrint (Away (PrintLines n i last p)) A = Unit {0}
IfNoPrint (Rested p) A = Unit {0}
IfNoPrint s A = A

-- these pieces, with the lock, from a book and a queue on
abbrev pub play_in : MemberId → List Piece → Book → Queue → Play
play_in by pieces book Q =
    record { sayer = by; pieces = pieces; book = book; locked = true; queue = Q; flight = None }

-- Acts of a step, of which these copies counted as alive before and count so after. What becomes of the copies is as in
-- a sitting; of the volumes nothing is said.
pub record Passage (was1 is1 was2 is2 : Bool) (old new : View) : Type 0 where
  pub goes : Goes old new
  pub failed1 : was1 ≡ true → is1 ≡ false → WasLost Ckpt1 old new
  pub failed2 : was2 ≡ true → is2 ≡ false → WasLost Ckpt2 old new
  pub there1 : is1 ≡ true → old.lost (Disk Ckpt1) ≡ false → new.lost (Disk Ckpt1) ≡ false
  pub there2 : is2 ≡ true → old.lost (Disk Ckpt2) ≡ false → new.lost (Disk Ckpt2) ≡ false
  pub alive1 : is1 ≡ true → was1 ≡ true
  pub alive2 : is2 ≡ true → was2 ≡ true
  pub grow : (d : Dev) → Grows (old.loses d) (new.loses d)

module _ {P C : Type 0} (plants : PlantGhosts P) (copies : CopyGhosts C) where
  abbrev v : Parts P C → View
  v x = plants.view x.plant

  -- the pieces that a step gives from a state on, by what it finds
  abbrev pub pieces_at : Sight → Parts P C → Holder → State → List Piece
  pieces_at sight x h s = pieces_from (sittings_most s) sight (counts_of x.printed h.by) (queue_of x) h s

  -- the piece of a sitting, by what was found in the acts after it at this queue, where so many lines were printed
  -- before these
  abbrev pub piece_with : Sitting → Found → ℕ → ℕ → Queue → Piece
  piece_with t found inked count now =
      with_given (poured inked t.next found)
      (piece_of t found.printer (inked_of found.printer inked (chunk now count t.next found.read)))

  -- The acts of a step: nobody was stopped but its member, and it only where the answer says so; no device was lost by
  -- a call; the answer has its cause; and what other members noted of their pages is as it was.
  pub record HasActedIn (by : MemberId) (x y : Parts P C) (result : Result (Unit {0}) NodeNo) : Type 0 where
    pub course : Passage x.first_alive y.first_alive x.second_alive y.second_alive (v x) (v y)
    pub loses : plants.tells → (d : Dev) → (v y).loses d ≡ (v x).loses d
    pub spares : Spares by.0 (stopped_in result) (v x) (v y)
    pub cause : StepCauses result by.0 (pair_state plants.view x) (pair_state plants.view y)
    pub notes : OtherNotesStay by x.had y.had

  -- WHAT A STEP LEAVES of its pieces, by where it was cut

  abbrev pub left_of : MemberId → Option Cut → List Piece → Parts P C → Left
  left_of by cut pieces x = left_by by cut (play_in by pieces x.book (queue_of x)) (counts_of x.printed by)

  -- the batches in the journal, and the book
  pub record Leaves (by : MemberId) (l : Left) (x y : Parts P C) : Type 0 where
    pub more : List Batch
    pub journal : journal_of y ≡ x.batches ++ more
    pub batches : AreBatched by (v x).now (v y).now l.batches more
    pub book : y.book ≡ l.book

  -- The lines stand on the console and on the member's printer, and no line on another; the member's count of printed
  -- lines is this, unless the answer is an error; and no other's differs.
  pub record Writes (by : MemberId) (l : Left) (x y : Parts P C) (result : Result (Unit {0}) NodeNo) : Type 0 where
    pub console : console_now (v y) ≡ console_now (v x) ++ l.lines
    pub paper : paper_now (v y) by.0 ≡ paper_now (v x) by.0 ++ l.printed
    pub other_papers : (m : ℕ) → m ≢ by.0 → paper_now (v y) m ≡ paper_now (v x) m
    pub count : OnOk result (counts_of y.printed by ≡ l.count)
    pub other_counts : (m : MemberId) → m ≢ by → counts_of y.printed m ≡ counts_of x.printed m

  -- A step left these of its pieces: it was cut as its answer says.
  pub record HasCut (h : Holder) (pieces : List Piece) (cut : Option Cut) (x y : Parts P C)
      (result : Result (Unit {0}) NodeNo) : Type 0 where
    pub of : All (IsOwnPiece h.by h.step) pieces
    pub by_answer : IsCutBy result pieces cut
    pub leaves : Leaves h.by (left_of h.by cut pieces x) x y

  -- A PIECE THAT IS WHOLE: a sitting, and the acts that the step then waits for

  -- what a piece leaves
  abbrev pub one_left : MemberId → Piece → Parts P C → Left
  one_left by p x = adds by true (none_left by x.book (counts_of x.printed by)) p

  -- a piece of the step, after which it stands so
  pub record IsPiece (s : Start) (p : Piece) (x y : Parts P C) (next : Start) : Type 0 where
    pub state : next.state ≡ p.sitting.next
    pub holder : next.holder ≡ holder_then x.base s.holder (all_entries p.sitting.batches)
    pub of : IsOwnPiece s.holder.by s.holder.step p
    pub leaves : Leaves s.holder.by (one_left s.holder.by p x) x y

  -- Where content is told the sitting is the one that the queue gives, and the lines are those that the queue has
  -- printed then, by what was found.
  pub record HasToldPiece (s : Start) (x y : Parts P C) (next : Start) : Type 0 where
    pub piece : Piece
    pub inked : ℕ
    pub is : piece ≡ piece_with (sit (queue_of x) s.holder s.state s.found) next.found inked
        (count_then s.holder.by (all_entries piece.sitting.batches) (counts_of x.printed s.holder.by)) (queue_of y)
    pub queue : queue_of y ≡ run (queue_of x) (all_entries piece.sitting.batches)
    pub one : IsPiece s piece x y next
    pub finds : IsFoundAt x.base.config.groups s.holder.by (v x) (v y) (queue_of y) next.state next.found
    pub writes : Writes s.holder.by (one_left s.holder.by piece x) x y (Ok tt)
    pub gives : GivesOnly s.holder.by (line_served s.state) piece.given (v x) (v y)

  -- No volume is lost in a piece but one that was found lost, and no fault of another one is counted. The stream of the
  -- member's line goes on from what its reader was to what it is.
  pub record HasPieced (s : Start) (x y : Parts P C) (next : Start) (was is : Option (List ℕ)) : Type 0 where
    pub piece : Piece
    pub one : IsPiece s piece x y next
    pub acts : HasActedIn s.holder.by x y (Ok tt)
    pub volumes : VolumesStay (names_found next.found) (v x) (v y)
    pub shaped : IsShaped s.holder s.state s.found piece.sitting
    pub plain : piece ≡ piece_of piece.sitting false []
    pub failed : IsFailedFound s.holder.by next.found (v x) (v y)
    pub dry : plants.tells → IfNoPrint s.state (SamePapers (v x) (v y))
    pub still : plants.tells → IfCommand s.state (IsOnlyOn (v x) (v y))
    pub reader : ReaderStaysIn next.state was is
    pub hears : plants.tells → HearsIn s.holder.by (v x) (v y) was is next.state next.found
    pub told : plants.tells → HasToldPiece s x y next

  -- A STEP FROM A STATE ON, with what it found before

  -- Where content is told there are what the step found and where it was cut, so that its pieces are those that the
  -- queue gives which the member found, and it left of these what the cut leaves, lines too. At each place where it
  -- waited it found what it may find there. No volume is lost but those that it found lost so, and no fault of another
  -- one is counted. On its line it gave what the cut leaves of its pieces, and heard what its reader went on with.
  pub record HasToldStep (s : Start) (x y : Parts P C) (had has : Option (List ℕ)) (result : Result (Unit {0}) NodeNo)
      : Type 0 where
    pub sight : Sight
    pub pieces : List Piece
    pub is : pieces ≡ pieces_at sight x s.holder s.state
    pub found : sight.finds (queue_of x) s.state ≡ s.found
    pub finds : AreFoundIn x.base.config.groups s.holder.by (v x) (v y) sight.finds
        (waits_in (take (whole_pieces sight.cut pieces) pieces) (queue_of x))
    pub volumes : VolumesStay
        (named_in sight.finds (waits_in (take (whole_pieces sight.cut pieces) pieces) (queue_of x))) (v x) (v y)
    pub cut : HasCut s.holder pieces sight.cut x y result
    pub tight : IfNoWork s.state (IfErr result (λ e. AtCut (IsTight e) sight.cut pieces))
    pub broke : IfErr result (λ e. AtCut (IsBroken e) sight.cut pieces)
    pub writes : Writes s.holder.by (left_of s.holder.by sight.cut pieces x) x y result
    pub gives : GivesOnly s.holder.by (line_served s.state) (left_of s.holder.by sight.cut pieces x).given (v x) (v y)
    pub hears : HearsStep s.holder.by (v x) (v y) had has s.state result sight.finds
        (waits_in (take (whole_pieces sight.cut pieces) pieces) (queue_of x))

  -- Whether content is told or not there are pieces of such shape, and a cut of them, so that these are what the step
  -- left in the journal and the book. A cut at lines may stand there as one before them, which leaves of these the
  -- same. Where content is told, only work prints at any moment, and a command changes no volume.
  pub record HasPlayed (s : Start) (x y : Parts P C) (pages : ℕ) (was is : Option (List ℕ))
      (result : Result (Unit {0}) NodeNo) : Type 0 where
    pub pieces : List Piece
    pub cut : Option Cut
    pub played : HasCut s.holder pieces cut x y result
    pub shaped : AreShaped s.holder s.state s.found (v x) (v y) pieces
    pub tight : IfNoWork s.state (IfErr result (λ e. AtCut (IsTight e) cut pieces))
    pub acts : HasActedIn s.holder.by x y result
    pub dry : plants.tells → IfNoPrint s.state (SamePapers (v x) (v y))
    pub still : plants.tells → IfCommand s.state (IsOnlyOn (v x) (v y))
    pub quiet : IsBetweenSittings cut → IsQuiet plants copies y pages
    pub away : IsOperatorAway y.book y.reserved y.current
    pub reader : ReaderStaysFrom s.state was is
    pub told : plants.tells → HasToldStep s x y was is result

-- The parts as they are, with the base and the first moment as they were.
abbrev pub played_in : {P C : Type 0} → Parts P C → Parts P C → Parts P C
played_in is was = record is { base = was.base; since = was.since; renewals = was.renewals }

-- a member that was halted is stopped in the book, and what it had reserved is given up
abbrev pub stopped_by : {P C : Type 0} → NodeNo → MemberId → Parts P C → Parts P C
stopped_by Halted by x = stopped_at by x
stopped_by _ by x = x

-- OVER THE SHARED VALUE

module _ {P C : Type 0} {plants : PlantGhosts P} {steadies : SteadyGhosts C} {copies : CopyGhosts C} where
  -- A member that has the lock, or may take it, may play a step from a state on.
  pub record MayPlay (x : Complex P C plants steadies copies) (m : Member) (s : Start) : Type 0 where
    pub goes : MayGoOn plants copies (parts_of x) m s.holder s.state
    pub right : IsFoundRight plants copies (parts_of x) m.id s.state s.found
    pub few : AreFewUnits s.state

  -- What a step did, with the room of its member's pages as it was, and what the reader of its line was and is.
  abbrev pub Played : Complex P C plants steadies copies → Complex P C plants steadies copies → Member → Start
      → Option (List ℕ) → Option (List ℕ) → Result (Unit {0}) NodeNo → Type 0
  Played x y m s was is result = HasPlayed plants copies s (parts_of x) (parts_of y) (length m.room) was is result

  -- What a step did that ended with an error, once its member is stopped in the book where it was halted.
  abbrev pub Halts : Complex P C plants steadies copies → Complex P C plants steadies copies → Member → Start
      → Option (List ℕ) → Option (List ℕ) → NodeNo → Type 0
  Halts x y m s was is e = HasPlayed plants copies s (parts_of x) (stopped_by e s.holder.by (parts_of y))
      (length m.room) was is (Err e)

  -- A whole piece, by where it leaves its step.
  abbrev pub Pieced : Complex P C plants steadies copies → Complex P C plants steadies copies → Start
      → Option (List ℕ) → Option (List ℕ) → Stand → Type 0
  Pieced x y s was is at = HasPieced plants copies s (parts_of x) (parts_of y) (start_of at) was is

  -- where the member has the lock still it is at its seat
  abbrev pub HoldsOn : MemberId → Complex P C plants steadies copies → Member → Type 0
  HoldsOn by y n = y.book.holder ≡ by → IsSeat plants copies (parts_of y) n

  -- Between two pieces: the member may go on, unless the step is told; it has fewer sittings before it, and as much
  -- room.
  pub record IsAfterPiece (x y : Complex P C plants steadies copies) (m n : Member) (s : Start) (at : Stand) : Type 0
    where
      pub aside : IsAside plants copies (parts_of y) n
      pub room : length n.room ≡ length m.room
      pub goes : GoesOn s.state at.state x.level y.level
      pub seat : HoldsOn s.holder.by y n
      pub may : at.state ≢ Told → MayPlay y n (start_of at)

  -- Between two steps: a member that gets the lock may take its seat, and one that has it still is at its seat. Levels
  -- rose by no more than the step may use.
  pub record IsAfterStep (x y : Complex P C plants steadies copies) (m n : Member) (s : Start) : Type 0 where
    pub aside : IsAside plants copies (parts_of y) n
    pub room : length n.room ≡ length m.room
    pub level : y.level ≤ x.level + levels_for s.state
    pub seat : HoldsOn s.holder.by y n
