-- What is left of a piece, and of those that follow it, is what is left of all of them.
use Rattle.std.proofs.Common.{◌≡◌, ℕ, suc, ◌+◌, true, List, [], ◌∷◌, ◌++◌, length, map, take, drop, append_assoc, append-nil, Option, Some, None, sym, ap, ◌∙◌, arith}
use Rattle.mas_types.specs.declared.ids.MemberId.{MemberId}
use Rattle.mas_types.specs.declared.queues.Queue.{Queue}
use Rattle.lock_cycle.specs.Books.{Book}
use Rattle.run_turns.specs.Cuts.{Left, adds, adds_all, adds_first, adds_part, batches_cut, book_cut, cut_left, entries_of, given_cut, inked_cut, kept_all, left_by, lines_cut, none_left, printed_cut, stopped_by, whole}
use Rattle.run_turns.specs.Pieces.{Piece, Play, after_pieces}
use Rattle.run_turns.specs.Scenes.{count_then}
use Rattle.run_turns.specs.Sights.{Cause, Cut, Halt}

-- What is left is the one and then the other; the count is the other's where both began with the same.
pub record Follows (same : Type 0) (l k m : Left) : Type 0 where
  pub batches : m.batches ≡ l.batches ++ k.batches
  pub lines : m.lines ≡ l.lines ++ k.lines
  pub printed : m.printed ≡ l.printed ++ k.printed
  pub prints : m.prints ≡ l.prints + k.prints
  pub given : m.given ≡ l.given ++ k.given
  pub count : same → m.count ≡ k.count
  pub book : m.book ≡ k.book

more_of : {A : Type 0} (m l k more : List A) → m ≡ l ++ k → m ++ more ≡ l ++ (k ++ more)
more_of m l k more e = ap (λ xs. xs ++ more) e ∙ append_assoc l k more

more_prints : (m l k more : ℕ) → m ≡ l + k → m + more ≡ l + (k + more)
more_prints m l k more e = omega (arith, e)

-- nothing follows yet
pub nothing_follows : (by : MemberId) (l : Left) (book : Book) (count : ℕ) → book ≡ l.book → Follows (count ≡ l.count) l (none_left by book count) l
nothing_follows by l book count e = record {
  batches = sym (append-nil l.batches);
  lines = sym (append-nil l.lines);
  printed = sym (append-nil l.printed);
  prints = omega arith;
  given = sym (append-nil l.given);
  count = λ is. sym is;
  book = sym e;
}

module _ (by : MemberId) (same : Type 0) (l : Left) where
  pub adds_follow : (k m : Left) (p : Piece) → Follows same l k m → Follows same l (adds by true k p) (adds by true m p)
  adds_follow k m p f = record {
    batches = more_of m.batches l.batches k.batches (kept_all p.sitting.batches) f.batches;
    lines = more_of m.lines l.lines k.lines (map whole p.sitting.lines) f.lines;
    printed = more_of m.printed l.printed k.printed (map whole p.printed) f.printed;
    prints = more_prints m.prints l.prints k.prints p.prints f.prints;
    given = more_of m.given l.given k.given p.given f.given;
    count = λ s. ap (λ (n : ℕ). count_then by (entries_of (kept_all p.sitting.batches)) n + length p.printed) (f.count s);
    book = ap (λ (b : Book). after_pieces b by (p ∷ [])) f.book;
  }

  pub all_follow : (k m : Left) (ps : List Piece) → Follows same l k m → Follows same l (adds_all by true k ps) (adds_all by true m ps)
  all_follow k m [] f = f
  all_follow k m (p ∷ ps) f = all_follow (adds by true k p) (adds by true m p) ps (adds_follow k m p f)

  part_follows : (halt : Halt) (k m : Left) (p : Piece) → Follows same l k m → Follows same l (adds_part by true halt k p) (adds_part by true halt m p)
  part_follows halt k m p f = record {
    batches = more_of m.batches l.batches k.batches (batches_cut by halt p.sitting.batches) f.batches;
    lines = more_of m.lines l.lines k.lines (lines_cut by halt p.sitting.lines) f.lines;
    printed = more_of m.printed l.printed k.printed (printed_cut by halt p.printed) f.printed;
    prints = more_prints m.prints l.prints k.prints (length (printed_cut by halt p.printed)) f.prints;
    given = more_of m.given l.given k.given (given_cut by halt p.given) f.given;
    count = λ s. ap (λ (n : ℕ). count_then by (entries_of (batches_cut by halt p.sitting.batches)) n + inked_cut by halt p.printed) (f.count s);
    book = ap (λ (b : Book). book_cut by halt b p) f.book;
  }

  first_follows : (halt : Halt) (k m : Left) (ps : List Piece) → Follows same l k m → Follows same l (adds_first by true halt k ps) (adds_first by true halt m ps)
  first_follows halt k m [] f = f
  first_follows halt k m (p ∷ ps) f = part_follows halt k m p f

  cut_follows : (why : Cause) (k m : Left) → Follows same l k m → Follows same l (cut_left by why k) (cut_left by why m)
  cut_follows why k m f = record {
    batches = f.batches;
    lines = f.lines;
    printed = f.printed;
    prints = f.prints;
    given = f.given;
    count = f.count;
    book = ap (λ (b : Book). stopped_by by why b) f.book;
  }

-- a cut, once a piece more is whole before it
abbrev pub after_one : Option Cut → Option Cut
after_one None = None
after_one (Some cut) = Some (record cut { sittings = suc cut.sittings })

-- a play of pieces, with the lock
abbrev plays : MemberId → Book → Queue → List Piece → Play
plays by book Q pieces =
    record { sayer = by; pieces = pieces; book = book; locked = true; queue = Q; flight = None }

module _ (by : MemberId) where
  pub piece_then : (cut : Option Cut) (p : Piece) (ps : List Piece) (book now : Book) (Q R : Queue) (count later : ℕ)
      → let l = adds by true (none_left by book count) p in now ≡ l.book
      → Follows (later ≡ l.count) l (left_by by cut (plays by now R ps) later) (left_by by (after_one cut) (plays by book Q (p ∷ ps)) count)
  piece_then None p ps book now Q R count later e =
      let l = adds by true (none_left by book count) p in
      all_follow by (later ≡ l.count) l (none_left by now later) l ps (nothing_follows by l now later e)
  piece_then (Some cut) p ps book now Q R count later e =
      let l = adds by true (none_left by book count) p in
      let same : Type 0 = later ≡ l.count in
      let k = adds_all by true (none_left by now later) (take cut.sittings ps) in
      let m = adds_all by true l (take cut.sittings ps) in
      cut_follows by same l cut.cause (adds_first by true cut.halt k (drop cut.sittings ps)) (adds_first by true cut.halt m (drop cut.sittings ps))
      (first_follows by same l cut.halt k m (drop cut.sittings ps) (all_follow by same l (none_left by now later) l (take cut.sittings ps) (nothing_follows by l now later e)))
