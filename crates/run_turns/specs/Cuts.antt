-- What a line leaves: all of its pieces, or those before the one at which it was cut, and of that what was done.
use Rattle.std.specs.Prelude.{ℕ, ◌+◌, Bool, true, false, if◌then◌else◌, List, [], ◌∷◌, ◌++◌, drop, length, map, take, Option, Some, None}
use Rattle.mas_types.specs.declared.ids.MemberId.{MemberId}
use Rattle.mas_types.specs.declared.journals.Entry.{Entry}
use Rattle.mas_types.specs.declared.journals.Fate.TheVariants.{Kept}
use Rattle.lock_cycle.specs.Books.{Book, after_stop}
use Rattle.spool_plant.specs.View.{Line}
use Rattle.run_turns.specs.Sights.{Begun, Cause, Cut, Ends, Halt, Saying, Stops, Waiting, Writing}
use Rattle.run_turns.specs.Scenes.{Batched, count_then, with_fate}
use Rattle.run_turns.specs.Pieces.{Piece, Play, after_pieces, entered, released_by, spent}

-- LINES, whole and torn

abbrev pub whole : List ℕ → Line
whole text = record { text = text; whole = true }

-- a torn line, in the place of a line that was to come
abbrev pub torn : Option (List ℕ) → List (List ℕ) → List Line
torn None lines = []
torn (Some text) [] = []
torn (Some text) (line ∷ lines) = record { text = text; whole = false } ∷ []

-- so many of the lines, and perhaps a torn one in the place of the next
abbrev pub broken : ℕ → Option (List ℕ) → List (List ℕ) → List Line
broken n tail lines = map whole (take n lines) ++ torn tail (drop n lines)

-- WHAT IS LEFT

-- what a step left: its batches, the lines on the console, those on the member's printer, how many prints were made,
-- the bytes given on a line to another node, the member's count of printed lines, and the book
pub record Left : Type 0 where
  pub batches : List Batched
  pub lines : List Line
  pub printed : List Line
  pub prints : ℕ
  pub given : List ℕ
  pub count : ℕ
  pub book : Book

abbrev pub kept_all : List (List Entry) → List Batched
kept_all ess = map (with_fate Kept) ess

abbrev pub entries_of : List Batched → List Entry
entries_of [] = []
entries_of (b ∷ bs) = b.entries ++ entries_of bs

-- PIECES THAT ARE WHOLE

module _ (by : MemberId) where
  -- what is left once a whole piece is added, by a member that has the lock or doesn't
  abbrev pub adds : Bool → Left → Piece → Left
  adds locked l p = record {
    batches = l.batches ++ kept_all p.sitting.batches;
    lines = l.lines ++ map whole p.sitting.lines;
    printed = l.printed ++ map whole p.printed;
    prints = l.prints + p.prints;
    given = l.given ++ p.given;
    count = count_then by (entries_of (kept_all p.sitting.batches)) l.count + length p.printed;
    book = if locked then after_pieces l.book by (p ∷ []) else l.book;
  }

  abbrev pub adds_all : Bool → Left → List Piece → Left
  adds_all locked l [] = l
  adds_all locked l (p ∷ ps) = adds_all locked (adds locked l p) ps

  -- THE PIECE THAT IS CUT

  -- the batch that was begun when the piece was cut, with its first entries
  abbrev pub begun : Option Begun → List (List Entry) → List Batched
  begun None ess = []
  begun (Some b) [] = []
  begun (Some b) (es ∷ ess) = with_fate b.fate (take b.entries es) ∷ []

  abbrev pub batches_cut : Halt → List (List Entry) → List Batched
  batches_cut (Writing n b) ess = kept_all (take n ess) ++ begun b (drop n ess)
  batches_cut (Saying n tail) ess = kept_all ess
  batches_cut (Waiting n tail) ess = kept_all ess

  abbrev pub lines_cut : Halt → List (List ℕ) → List Line
  lines_cut (Saying n tail) lines = broken n tail lines
  lines_cut _ lines = []

  abbrev pub printed_cut : Halt → List (List ℕ) → List Line
  printed_cut (Waiting n tail) lines = broken n tail lines
  printed_cut _ lines = []

  -- the bytes that were given in the acts that were cut
  abbrev pub given_cut : Halt → List ℕ → List ℕ
  given_cut (Waiting n tail) bytes = take n bytes
  given_cut _ bytes = []

  -- lines that stand whole on paper
  abbrev pub inked_cut : Halt → List (List ℕ) → ℕ
  inked_cut (Waiting n tail) lines = length (take n lines)
  inked_cut _ lines = 0

  -- The lock is held up to the acts that follow the sitting, and before them nothing is counted as spent of the hold.
  abbrev pub book_cut : Halt → Book → Piece → Book
  book_cut (Writing n b) book p = entered book by
  book_cut (Saying n tail) book p = entered book by
  book_cut (Waiting n tail) book p = released_by p.sitting.release (spent (entered book by) by p.sitting.batches) by

  abbrev pub adds_part : Bool → Halt → Left → Piece → Left
  adds_part locked halt l p = record {
    batches = l.batches ++ batches_cut halt p.sitting.batches;
    lines = l.lines ++ lines_cut halt p.sitting.lines;
    printed = l.printed ++ printed_cut halt p.printed;
    prints = l.prints + length (printed_cut halt p.printed);
    given = l.given ++ given_cut halt p.given;
    count = count_then by (entries_of (batches_cut halt p.sitting.batches)) l.count + inked_cut halt p.printed;
    book = if locked then book_cut halt l.book p else l.book;
  }

  -- what is left once the first piece is added as the one that is cut, if there is one
  abbrev pub adds_first : Bool → Halt → Left → List Piece → Left
  adds_first locked halt l [] = l
  adds_first locked halt l (p ∷ ps) = adds_part locked halt l p

  -- A LINE

  abbrev pub none_left : Book → ℕ → Left
  none_left book count = record {
    batches = [];
    lines = [];
    printed = [];
    prints = 0;
    given = [];
    count = count;
    book = book;
  }

  -- a member that stopped is stopped in the book
  abbrev pub stopped_by : Cause → Book → Book
  stopped_by Stops book = after_stop book by
  stopped_by Ends book = book

  abbrev pub cut_left : Cause → Left → Left
  cut_left cause l = record l { book = stopped_by cause l.book }

  abbrev pub left_by : Option Cut → Play → ℕ → Left
  left_by None play count = adds_all play.locked (none_left play.book count) play.pieces
  left_by (Some cut) play count =
      cut_left cut.cause
      (adds_first play.locked cut.halt
      (adds_all play.locked (none_left play.book count) (take cut.sittings play.pieces))
      (drop cut.sittings play.pieces))
