-- Who stops in a step that took the lock: under the lock it still holds, in acts that follow a sitting it doesn't.
use Rattle.std.proofs.Common.{◌≡◌, ◌⊎◌, inl, inr, ℕ, zero, suc, ◌-◌, ◌≤◌, ◌<◌, Bool, true, false, ◌||◌, if◌then◌else◌, List, [], ◌∷◌, drop, length, take, Option, is_some, refl, sym, ap, ◌∙◌, subst, arith}
use Rattle.std.proofs.lemmas.List.{get_or-set_same, length-set}
use Rattle.mas_types.specs.declared.ids.MemberId.{MemberId}
use Rattle.mas_types.specs.declared.journals.Entry.{Entry}
use Rattle.mas_types.specs.Ids.{nobody}
use Rattle.lock_cycle.specs.declared.standings.Standing.{Standing}
use Rattle.lock_cycle.specs.Books.{Book, after_stop, beginner, granted, is_holder, is_stopped, noted, standing, ticked, try_refusal, with_holder, with_standing}
use Rattle.step_turns.specs.Courses.{task_most}
use Rattle.step_turns.specs.declared.states.State.TheVariants.{Fresh}
use Rattle.step_turns.specs.declared.states.Release.{Release}
use Rattle.step_turns.specs.declared.states.Release.TheVariants.{Inner, Keep, Outer}
use Rattle.run_turns.specs.Sights.{Cause, Cut, Halt, Saying, Waiting, Writing}
use Rattle.run_turns.specs.Admissions.{Plays, tried}
use Rattle.run_turns.specs.Cuts.{Left, adds, adds_all, adds_first, book_cut, left_by, none_left, stopped_by}
use Rattle.run_turns.specs.Laws.{StopsWhere, StoppedHolders}
use Rattle.run_turns.specs.Pieces.{Piece, after_piece, after_pieces, entered, holder_of, once_found, play_of, released_by, spent}
use Rattle.run_turns.proofs.Alone.{GiveUp, Holds, MayHold, all_give_up, by_step, entered_holds, freed_after, freed_as, grant_after, granted_holds, its_pieces, not_held, once_none, spent_holds}

-- NO CALL CHANGES THE NUMBER OF MEMBERS

abbrev many : Book → ℕ
many b = length b.members

many_with : (b : Book) (m : MemberId) (s : Standing) → many (with_standing b m s) ≡ many b
many_with b m s = length-set b.members (m.0 - 1) s

many_if : (x y : Bool) (b c d : Book) → many c ≡ many b → many d ≡ many b → many (if x then b else if y then c else d) ≡ many b
many_if true y b c d ec ed = refl
many_if false true b c d ec ed = ec
many_if false false b c d ec ed = ed

many_either : (x : Bool) (b c : Book) → many c ≡ many b → many (if x then c else b) ≡ many b
many_either true b c e = e
many_either false b c e = refl

module _ (m : MemberId) where
  many_entered : (b : Book) → many (entered b m) ≡ many b
  many_entered b = many_if (is_stopped b m || is_holder b m) (is_some (try_refusal b m true)) b (ticked b true) (granted (ticked b true) m) refl (many_with (with_holder (ticked b true) m) m _)

  many_spent : (b : Book) (ess : List (List Entry)) → many (spent b m ess) ≡ many b
  many_spent b ess = many_with b m _

  many_released : (b : Book) (r : Release) → many (released_by r b m) ≡ many b
  many_released b Keep = refl
  many_released b Inner = many_either (is_holder b m) b (with_holder b nobody) refl
  many_released b Outer = many_either (is_holder b m) b (with_holder (noted b m) nobody) (many_with b m _)

  many_piece : (b : Book) (p : Piece) → many (after_piece b m p) ≡ many b
  many_piece b p = many_released (spent (entered b m) m p.sitting.batches) p.sitting.release ∙ many_spent (entered b m) p.sitting.batches ∙ many_entered b

  many_pieces : (b : Book) (ps : List Piece) → many (after_pieces b m ps) ≡ many b
  many_pieces b [] = refl
  many_pieces b (p ∷ ps) = many_pieces (after_piece b m p) ps ∙ many_piece b p

-- WHERE IT STOPS

module _ (m : MemberId) (some : 0 < m.0) where
  take_gives : (k : ℕ) (ps : List Piece) → GiveUp m some ps → GiveUp m some (take k ps)
  take_gives zero ps gives = tt
  take_gives (suc k) [] gives = tt
  take_gives (suc k) (p ∷ ps) gives = (gives.0, take_gives k ps gives.1)

  may_after : (b : Book) (ps : List Piece) → MayHold b m → GiveUp m some ps → MayHold (after_pieces b m ps) m
  may_after b [] may gives = may
  may_after b (p ∷ ps) may gives =
      let freed = freed_after m some b p may gives.0 in may_after (after_piece b m p) ps (record { up = freed.up; holder = inr freed.holder }) gives.1

  -- where the member stops at the piece that is cut
  cut_where : (halt : Halt) (b : Book) (p : Piece) → MayHold b m → (p.sitting.release ≡ Inner) ⊎ (p.sitting.release ≡ Outer) → StopsWhere halt m (book_cut m halt b p)
  cut_where (Writing n g) b p may gives = (entered_holds m some b may).holder
  cut_where (Saying n tail) b p may gives = (entered_holds m some b may).holder
  cut_where (Waiting n tail) b p may gives =
      (freed_as m some (spent (entered b m) m p.sitting.batches) (spent_holds m some (entered b m) p.sitting.batches (entered_holds m some b may)) p.sitting.release gives).holder

  many_cut : (halt : Halt) (b : Book) (p : Piece) → many (book_cut m halt b p) ≡ many b
  many_cut (Writing n g) b p = many_entered m b
  many_cut (Saying n tail) b p = many_entered m b
  many_cut (Waiting n tail) b p = many_piece m b p

  -- a stop leaves the holder
  where_stopped : (halt : Halt) (b : Book) → StopsWhere halt m b → StopsWhere halt m (after_stop b m)
  where_stopped (Writing n g) b is = is
  where_stopped (Saying n tail) b is = is
  where_stopped (Waiting n tail) b is = is

  now_stopped : (b : Book) → m.0 ≤ many b → is_stopped (after_stop b m) m ≡ true
  now_stopped b few =
      ap (λ (s : Standing). s.stopped) (get_or-set_same b.members (m.0 - 1) (record (standing b m) { stopped = true }) (beginner 0) (omega (arith, some, few)))

  -- a cut in a step stops its member at a piece: there is a first one that isn't whole
  cut_here : (k : ℕ) (halt : Halt) (l : Left) (ps : List Piece) → k < length ps → GiveUp m some ps → MayHold l.book m
      → let b = (adds_first m true halt (adds_all m true l (take k ps)) (drop k ps)).book in StopsWhere halt m b × (many b ≡ many l.book)
  cut_here zero halt l [] lt gives may = absurd (omega (arith, lt))
  cut_here zero halt l (p ∷ ps) lt gives may = (cut_where halt l.book p may gives.0, many_cut halt l.book p)
  cut_here (suc k) halt l [] lt gives may = absurd (omega (arith, lt))
  cut_here (suc k) halt l (p ∷ ps) lt gives may =
      let freed = freed_after m some l.book p may gives.0 in
      let rest = cut_here k halt (adds m true l p) ps (omega (arith, lt)) gives.1 (record { up = freed.up; holder = inr freed.holder }) in
      (rest.0, rest.1 ∙ many_piece m l.book p)

pub stopped_holders : StoppedHolders
stopped_holders S by at sight task cut has is stops few =
    let some = has.member.0 in
    let b : Book = tried S.book by (Plays task) in
    let tried_is = grant_after by some S.book false has.up has.holder has.granted in
    let holds : Holds b by = subst (λ (c : Book). Holds c by) (sym tried_is) (granted_holds by some S.book false has.up) in
    let ps = its_pieces S by at sight task in
    let gives = all_give_up by some sight (task_most task) (S.counts by) S.queue (holder_of S by at (Plays task)) (Fresh task) (by_step (is_holder S.book by) (not_held by some S.book has.holder)) in
    let l : Left = none_left by b (S.counts by) in
    let here = cut_here by some cut.sittings cut.halt l ps (subst (λ (qs : List Piece). cut.sittings < length qs) (once_none S.flight ps has.flight) few) gives (record { up = holds.up; holder = inl holds.holder }) in
    let c : Book = (adds_first by true cut.halt (adds_all by true l (take cut.sittings ps)) (drop cut.sittings ps)).book in
    let many_here : many b ≡ many S.book = ap many tried_is ∙ many_with (with_holder (ticked S.book false) by) by _ in
    let same : (left_by by sight.cut (play_of S by at sight (Plays task)) (S.counts by)).book ≡ after_stop c by =
    ap (λ (k : Option Cut). (left_by by k (play_of S by at sight (Plays task)) (S.counts by)).book) is
    ∙ ap (λ (why : Cause). stopped_by by why (adds_first by true cut.halt (adds_all by true l (take cut.sittings (once_found S.flight ps))) (drop cut.sittings (once_found S.flight ps))).book) stops
    ∙ ap (λ (qs : List Piece). after_stop (adds_first by true cut.halt (adds_all by true l (take cut.sittings qs)) (drop cut.sittings qs)).book by) (once_none S.flight ps has.flight) in
    let most = has.member.1 in
    let many_c = here.1 in (
      subst (λ (d : Book). is_stopped d by ≡ true) (sym same) (now_stopped by some c (omega (arith, most, many_c, many_here))),
      subst (StopsWhere cut.halt by) (sym same) (where_stopped by some cut.halt c here.0),
    )
