-- What a line does to the book: its member tries for the lock, spends of its hold and gives it up, piece by piece, and
-- may be stopped. What each of these calls keeps, every line keeps, whole or cut. And what holds of each batch of its
-- pieces holds of each that it leaves.
use Rattle.std.proofs.Common.{◌≡◌, ℕ, Bool, true, false, List, [], ◌∷◌, drop, length, take, All, Option, Some, None, refl}
use Rattle.std.proofs.lemmas.List.Elements.{All-append, All-cons, All-drop, All-head, All-nil, All-tail, All-take}
use Rattle.mas_types.specs.declared.ids.MemberId.{MemberId}
use Rattle.mas_types.specs.declared.journals.Entry.{Entry}
use Rattle.mas_types.specs.declared.journals.Fate.TheVariants.{Kept}
use Rattle.lock_cycle.specs.Books.{Book, after_free, after_seize, after_spend, after_stop, after_try}
use Rattle.step_turns.specs.Entries.{all_entries}
use Rattle.step_turns.specs.declared.states.Release.{Release}
use Rattle.step_turns.specs.declared.states.Release.TheVariants.{Inner, Keep, Outer}
use Rattle.run_turns.specs.Admissions.{Admission, Frees, Refused, TakesOver, Unplayed, tried}
use Rattle.run_turns.specs.Cuts.{Left, adds, adds_all, adds_first, batches_cut, begun, book_cut, kept_all, left_by, none_left, stopped_by}
use Rattle.run_turns.specs.Pieces.{Piece, Play, after_piece, entered, released_by}
use Rattle.run_turns.specs.Scenes.{Batched, with_fate}
use Rattle.run_turns.specs.Sights.{Begun, Cause, Cut, Ends, Halt, Saying, Stops, Waiting, Writing}

-- the calls of a member keep it, but for its stop
pub record CallsKeep (by : MemberId) (K : Book → Type 0) : Type 0 where
  pub tries : (b : Book) (inner : Bool) → K b → K (after_try b by inner)
  pub seizes : (b : Book) (of : MemberId) → K b → K (after_seize b by of)
  pub frees : (b : Book) (inner : Bool) → K b → K (after_free b by inner)
  pub spends : (b : Book) (commands : ℕ) → K b → K (after_spend b by commands)

-- what a line left up to where it was cut
abbrev pub before_cut : MemberId → Cut → Play → ℕ → Left
before_cut by cut play count =
    adds_first by play.locked cut.halt (adds_all by play.locked (none_left by play.book count) (take cut.sittings play.pieces)) (drop cut.sittings play.pieces)

module _ (by : MemberId) (K : Book → Type 0) (keep : CallsKeep by K) where
  -- A TEST

  pub tried_keeps : (a : Admission) (b : Book) → K b → K (tried b by a)
  tried_keeps (Refused sayer end) b kept = kept
  tried_keeps (TakesOver of) b kept = keep.seizes b of kept
  tried_keeps Frees b kept = kept
  tried_keeps Unplayed b kept = kept
  tried_keeps _ b kept = keep.tries b false kept

  -- A PIECE

  pub gave_keeps : (r : Release) (b : Book) (commands : ℕ) → K b → K (released_by r (after_spend b by commands) by)
  gave_keeps Keep b commands kept = keep.spends b commands kept
  gave_keeps Inner b commands kept = keep.frees (after_spend b by commands) true (keep.spends b commands kept)
  gave_keeps Outer b commands kept = keep.frees (after_spend b by commands) false (keep.spends b commands kept)

  pub piece_keeps : (b : Book) (p : Piece) → K b → K (after_piece b by p)
  piece_keeps b p kept = gave_keeps p.sitting.release (entered b by) (length (all_entries p.sitting.batches)) (keep.tries b true kept)

  pub adds_keeps : (locked : Bool) (l : Left) (p : Piece) → K l.book → K (adds by locked l p).book
  adds_keeps true l p kept = piece_keeps l.book p kept
  adds_keeps false l p kept = kept

  -- A LINE

  pub all_keep : (locked : Bool) (ps : List Piece) (l : Left) → K l.book → K (adds_all by locked l ps).book
  all_keep locked [] l kept = kept
  all_keep locked (p ∷ ps) l kept = all_keep locked ps (adds by locked l p) (adds_keeps locked l p kept)

  cut_keeps : (halt : Halt) (b : Book) (p : Piece) → K b → K (book_cut by halt b p)
  cut_keeps (Waiting n tail) b p kept = piece_keeps b p kept
  cut_keeps _ b p kept = keep.tries b true kept

  first_keeps : (locked : Bool) (halt : Halt) (ps : List Piece) (l : Left) → K l.book → K (adds_first by locked halt l ps).book
  first_keeps locked halt [] l kept = kept
  first_keeps true halt (p ∷ ps) l kept = cut_keeps halt l.book p kept
  first_keeps false halt (p ∷ ps) l kept = kept

  pub before_keeps : (cut : Cut) (play : Play) (count : ℕ) → K play.book → K (before_cut by cut play count).book
  before_keeps cut play count kept =
      first_keeps play.locked cut.halt (drop cut.sittings play.pieces) (adds_all by play.locked (none_left by play.book count) (take cut.sittings play.pieces))
      (all_keep play.locked (take cut.sittings play.pieces) (none_left by play.book count) kept)

  -- and so does a stop of its member, where that keeps it
  pub left_keeps : (cut : Option Cut) → ((k : Cut) → cut ≡ Some k → k.cause ≡ Stops → (b : Book) → K b → K (after_stop b by)) → (play : Play) (count : ℕ) → K play.book → K (left_by by cut play count).book
  left_keeps None stops play count kept = all_keep play.locked play.pieces (none_left by play.book count) kept
  left_keeps (Some cut) stops play count kept = by_cause cut.cause refl (before_cut by cut play count).book (before_keeps cut play count kept) where
    by_cause : (why : Cause) → cut.cause ≡ why → (b : Book) → K b → K (stopped_by by why b)
    by_cause Stops is b now = stops cut refl is b now
    by_cause Ends is b now = now

-- THE BATCHES that a line leaves: of its pieces each is kept, and where it was cut one may have been begun

module _ (by : MemberId) (R : Batched → Type 0) (Q : List Entry → Type 0) (kept : (es : List Entry) → Q es → R (with_fate Kept es)) where
  abbrev AreIn : Piece → Type 0
  AreIn p = All Q p.sitting.batches

  -- so is one that was begun there
  abbrev BegunIs : Halt → Type 0
  BegunIs halt = (n : ℕ) (b : Begun) → halt ≡ Writing n (Some b) → (es : List Entry) → Q es → R (with_fate b.fate (take b.entries es))

  kept_are : (ess : List (List Entry)) → All Q ess → All R (kept_all ess)
  kept_are [] are = All-nil R
  kept_are (es ∷ ess) are = All-cons R (with_fate Kept es) (kept_all ess) (kept es (All-head Q es ess are)) (kept_are ess (All-tail Q es ess are))

  all_are : (locked : Bool) (ps : List Piece) (l : Left) → All AreIn ps → All R l.batches → All R (adds_all by locked l ps).batches
  all_are locked [] l are before = before
  all_are locked (p ∷ ps) l are before =
      all_are locked ps (adds by locked l p) (All-tail AreIn p ps are) (All-append R l.batches (kept_all p.sitting.batches) before (kept_are p.sitting.batches (All-head AreIn p ps are)))

  begun_are : (n : ℕ) (b : Option Begun) (ess : List (List Entry)) → BegunIs (Writing n b) → All Q ess → All R (begun by b ess)
  begun_are n None ess first are = All-nil R
  begun_are n (Some b) [] first are = All-nil R
  begun_are n (Some b) (es ∷ ess) first are = All-cons R (with_fate b.fate (take b.entries es)) [] (first n b refl es (All-head Q es ess are)) (All-nil R)

  cut_are : (halt : Halt) (ess : List (List Entry)) → BegunIs halt → All Q ess → All R (batches_cut by halt ess)
  cut_are (Writing n b) ess first are =
      All-append R (kept_all (take n ess)) (begun by b (drop n ess)) (kept_are (take n ess) (All-take Q n ess are)) (begun_are n b (drop n ess) first (All-drop Q n ess are))
  cut_are (Saying n tail) ess first are = kept_are ess are
  cut_are (Waiting n tail) ess first are = kept_are ess are

  first_are : (locked : Bool) (halt : Halt) (ps : List Piece) (l : Left) → BegunIs halt → All AreIn ps → All R l.batches → All R (adds_first by locked halt l ps).batches
  first_are locked halt [] l first are before = before
  first_are locked halt (p ∷ ps) l first are before = All-append R l.batches (batches_cut by halt p.sitting.batches) before (cut_are halt p.sitting.batches first (All-head AreIn p ps are))

  pub batches_are : (cut : Option Cut) → ((k : Cut) → cut ≡ Some k → BegunIs k.halt) → (play : Play) (count : ℕ) → All AreIn play.pieces → All R (left_by by cut play count).batches
  batches_are None first play count are = all_are play.locked play.pieces (none_left by play.book count) are (All-nil R)
  batches_are (Some cut) first play count are =
      first_are play.locked cut.halt (drop cut.sittings play.pieces) (adds_all by play.locked (none_left by play.book count) (take cut.sittings play.pieces)) (first cut refl)
      (All-drop AreIn cut.sittings play.pieces are) (all_are play.locked (take cut.sittings play.pieces) (none_left by play.book count) (All-take AreIn cut.sittings play.pieces are) (All-nil R))
