-- What a cut step gave is the first of what it would have given.
use Rattle.std.proofs.Common.{◌≡◌, ℕ, zero, suc, Bool, List, [], ◌∷◌, ◌++◌, drop, take, append_assoc, append-nil, Option, Some, None, refl, sym, ap, ◌∙◌}
use Rattle.std.proofs.lemmas.List.{take-append-drop}
use Rattle.mas_types.specs.declared.ids.MemberId.{MemberId}
use Rattle.mas_types.specs.declared.journals.Entry.{Entry}
use Rattle.step_turns.specs.Entries.{all_entries}
use Rattle.step_turns.proofs.Given.{entries_append}
use Rattle.run_turns.specs.Sights.{Begun, Cut, Halt, Saying, Waiting, Writing}
use Rattle.run_turns.specs.Scenes.{Batched}
use Rattle.run_turns.specs.Cuts.{Left, adds, adds_all, adds_first, batches_cut, begun, entries_of, given_cut, kept_all, left_by, none_left}
use Rattle.run_turns.specs.Laws.{AreFirstBytes, CutsGiveFirst, CutsGiveFirstBytes, IsFirst}
use Rattle.run_turns.specs.Pieces.{Piece, Play, play_of}
use Rattle.run_turns.proofs.Alone.{batches_in, left_batches}
use Rattle.run_turns.proofs.Locks.{entries_kept}

both_entries : (xs ys : List Batched) → entries_of (xs ++ ys) ≡ entries_of xs ++ entries_of ys
both_entries [] ys = refl
both_entries (x ∷ xs) ys = ap (λ (es : List Entry). x.entries ++ es) (both_entries xs ys) ∙ sym (append_assoc x.entries (entries_of xs) (entries_of ys))

-- a list that begins another does so with the same entries before both
first_after : (es fs gs : List Entry) → IsFirst fs gs → IsFirst (es ++ fs) (es ++ gs)
first_after es fs gs p = record { rest = p.rest; are = append_assoc es fs p.rest ∙ ap (λ (xs : List Entry). es ++ xs) p.are }

-- a list that begins another begins it with more entries at its end
first_more : (es fs gs : List Entry) → IsFirst es fs → IsFirst es (fs ++ gs)
first_more es fs gs p = record { rest = p.rest ++ gs; are = sym (append_assoc es p.rest gs) ∙ ap (λ (xs : List Entry). xs ++ gs) p.are }

first_same : (es : List Entry) → IsFirst es es
first_same es = record { rest = []; are = append-nil es }

module _ (by : MemberId) where
  first_begun : (g : Option Begun) (ess : List (List Entry)) → IsFirst (entries_of (begun by g ess)) (all_entries ess)
  first_begun None ess = record { rest = all_entries ess; are = refl }
  first_begun (Some g) [] = record { rest = []; are = refl }
  first_begun (Some g) (es ∷ ess) = record {
    rest = drop g.entries es ++ all_entries ess;
    are =
        ap (λ (xs : List Entry). xs ++ (drop g.entries es ++ all_entries ess)) (append-nil (take g.entries es))
        ∙ sym (append_assoc (take g.entries es) (drop g.entries es) (all_entries ess)) ∙ ap (λ (xs : List Entry). xs ++ all_entries ess) (take-append-drop g.entries es);
  }

  first_cut : (halt : Halt) (ess : List (List Entry)) → IsFirst (entries_of (batches_cut by halt ess)) (all_entries ess)
  first_cut (Saying n tail) ess = record { rest = []; are = append-nil (entries_of (kept_all ess)) ∙ entries_kept ess }
  first_cut (Waiting n tail) ess = record { rest = []; are = append-nil (entries_of (kept_all ess)) ∙ entries_kept ess }
  first_cut (Writing n g) ess =
      let front = all_entries (take n ess) in
      let p = first_after front (entries_of (begun by g (drop n ess))) (all_entries (drop n ess)) (first_begun g (drop n ess)) in
      record {
        rest = p.rest;
        are =
            ap (λ (xs : List Entry). xs ++ p.rest)
            (both_entries (kept_all (take n ess)) (begun by g (drop n ess)) ∙ ap (λ (xs : List Entry). xs ++ entries_of (begun by g (drop n ess))) (entries_kept (take n ess)))
            ∙ p.are ∙ sym (entries_append (take n ess) (drop n ess)) ∙ ap all_entries (take-append-drop n ess);
      }

  module _ (locked : Bool) (halt : Halt) where
    whole_entries : (l : Left) (ps : List Piece) → entries_of (adds_all by locked l ps).batches ≡ entries_of l.batches ++ all_entries (batches_in ps)
    whole_entries l ps =
        ap entries_of (left_batches by locked l ps) ∙ both_entries l.batches (kept_all (batches_in ps))
        ∙ ap (λ (xs : List Entry). entries_of l.batches ++ xs) (entries_kept (batches_in ps))

    same_first : (es fs gs : List Entry) → es ≡ fs → IsFirst gs fs → IsFirst gs es
    same_first es fs gs e p = record { rest = p.rest; are = p.are ∙ sym e }

    first_all : (n : ℕ) (l : Left) (ps : List Piece)
        → IsFirst (entries_of (adds_first by locked halt (adds_all by locked l (take n ps)) (drop n ps)).batches) (entries_of (adds_all by locked l ps).batches)
    first_all zero l [] = first_same (entries_of l.batches)
    first_all (suc n) l [] = first_same (entries_of l.batches)
    first_all (suc n) l (p ∷ ps) = first_all n (adds by locked l p) ps
    first_all zero l (p ∷ ps) =
        let before = entries_of l.batches in
        let part = entries_of (batches_cut by halt p.sitting.batches) in
        let more = first_more part (all_entries p.sitting.batches) (all_entries (batches_in ps)) (first_cut halt p.sitting.batches) in
        let f = first_after before part (all_entries p.sitting.batches ++ all_entries (batches_in ps)) more in
        record {
          rest = f.rest;
          are =
              ap (λ (xs : List Entry). xs ++ f.rest) (both_entries l.batches (batches_cut by halt p.sitting.batches)) ∙ f.are
              ∙ ap (λ (xs : List Entry). before ++ xs) (sym (entries_append p.sitting.batches (batches_in ps))) ∙ sym (whole_entries l (p ∷ ps));
        }

  first_left : (play : Play) (count : ℕ) (cut : Option Cut) → IsFirst (entries_of (left_by by cut play count).batches) (entries_of (left_by by None play count).batches)
  first_left play count None = first_same (entries_of (left_by by None play count).batches)
  first_left play count (Some cut) = first_all play.locked cut.halt cut.sittings (none_left by play.book count) play.pieces

pub cuts_give_first : CutsGiveFirst
cuts_give_first S by at sight a = first_left by (play_of S by at sight a) (S.counts by) sight.cut

-- BYTES

bytes_in : List Piece → List ℕ
bytes_in [] = []
bytes_in (p ∷ ps) = p.given ++ bytes_in ps

module _ (by : MemberId) where
  bytes_cut : (halt : Halt) (bytes : List ℕ) → AreFirstBytes (given_cut by halt bytes) bytes
  bytes_cut (Writing n g) bytes = record { rest = bytes; are = refl }
  bytes_cut (Saying n tail) bytes = record { rest = bytes; are = refl }
  bytes_cut (Waiting n tail) bytes = record { rest = drop n bytes; are = take-append-drop n bytes }

  module _ (locked : Bool) (halt : Halt) where
    whole_bytes_of : (l : Left) (ps : List Piece) → (adds_all by locked l ps).given ≡ l.given ++ bytes_in ps
    unfolding bytes_in
    whole_bytes_of l [] = sym (append-nil l.given)
    whole_bytes_of l (p ∷ ps) = whole_bytes_of (adds by locked l p) ps ∙ append_assoc l.given p.given (bytes_in ps)

    first_bytes : (n : ℕ) (l : Left) (ps : List Piece)
        → AreFirstBytes (adds_first by locked halt (adds_all by locked l (take n ps)) (drop n ps)).given (adds_all by locked l ps).given
    unfolding bytes_in
    first_bytes zero l [] = record { rest = []; are = append-nil l.given }
    first_bytes (suc n) l [] = record { rest = []; are = append-nil l.given }
    first_bytes (suc n) l (p ∷ ps) = first_bytes n (adds by locked l p) ps
    first_bytes zero l (p ∷ ps) =
        let part = bytes_cut halt p.given in
        record {
          rest = part.rest ++ bytes_in ps;
          are =
              append_assoc l.given (given_cut by halt p.given) (part.rest ++ bytes_in ps)
              ∙ ap (λ (bs : List ℕ). l.given ++ bs) (sym (append_assoc (given_cut by halt p.given) part.rest (bytes_in ps)) ∙ ap (λ (bs : List ℕ). bs ++ bytes_in ps) part.are)
              ∙ sym (whole_bytes_of l (p ∷ ps));
        }

  bytes_left : (play : Play) (count : ℕ) (cut : Option Cut) → AreFirstBytes (left_by by cut play count).given (left_by by None play count).given
  bytes_left play count None = record { rest = []; are = append-nil (left_by by None play count).given }
  bytes_left play count (Some cut) = first_bytes play.locked cut.halt cut.sittings (none_left by play.book count) play.pieces

pub cuts_give_first_bytes : CutsGiveFirstBytes
cuts_give_first_bytes S by at sight a = bytes_left by (play_of S by at sight a) (S.counts by) sight.cut
