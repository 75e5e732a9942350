-- A step that takes the lock for it, and that nothing cuts, is what its sittings give one after another; afterwards the
-- lock is nobody's.
use Rattle.std.proofs.Common.{◌≡◌, ◌⊎◌, inl, inr, ⊎_elim, ℕ, zero, suc, ◌-◌, ◌≤◌, ◌<◌, Bool, true, false, ◌||◌, if◌then◌else◌, List, [], ◌∷◌, ◌++◌, get_or, length, map, set, append_assoc, append-nil, Option, Some, None, is_some, refl, sym, ap, ◌∙◌, subst, arith}
use Rattle.std.proofs.lemmas.Bool.{eq-eqb, ne_eqb}
use Rattle.std.proofs.lemmas.List.{get_or-set_same, map-append}
use Rattle.mas_types.specs.declared.ids.MemberId.{MemberId}
use Rattle.mas_types.specs.declared.journals.Entry.{Entry}
use Rattle.mas_types.specs.declared.queues.Queue.{Queue}
use Rattle.mas_types.specs.Ids.{is_somebody, nobody}
use Rattle.mas_types.specs.Run.{run}
use Rattle.lock_cycle.specs.declared.answers.LockNo.{LockNo}
use Rattle.lock_cycle.specs.declared.standings.Standing.{Standing}
use Rattle.lock_cycle.specs.Books.{Book, after_try, beginner, granted, is_holder, is_stopped, left_of, noted, standing, ticked, try_refusal, with_holder, with_standing}
use Rattle.step_turns.specs.Courses.{Course, course, course_of, holder_then, sittings, task_most}
use Rattle.step_turns.specs.Entries.{all_entries}
use Rattle.step_turns.specs.Sittings.{Sitting, sit}
use Rattle.step_turns.specs.declared.states.Task.{Task}
use Rattle.step_turns.specs.declared.states.State.{State}
use Rattle.step_turns.specs.declared.states.State.TheVariants.{Away, Fresh, Rested, Told}
use Rattle.step_turns.specs.declared.states.Grant.{Grant}
use Rattle.step_turns.specs.declared.states.Grant.TheVariants.{ByLock, ForStep}
use Rattle.step_turns.specs.declared.states.Holder.{Holder}
use Rattle.step_turns.specs.declared.states.Release.{Release}
use Rattle.step_turns.specs.declared.states.Release.TheVariants.{Inner, Keep, Outer}
use Rattle.step_turns.proofs.Endings.{told_gives_none}
use Rattle.step_turns.proofs.Sittings.{lock_is_held_rightly, some_may_follow}
use Rattle.spool_plant.specs.View.{Line}
use Rattle.run_turns.specs.Sights.{Cut, Sight}
use Rattle.run_turns.specs.Scenes.{Batched, Scene, flying_in, kept_in, with_fate}
use Rattle.run_turns.specs.Admissions.{Plays, granted_by, tried}
use Rattle.run_turns.specs.Cuts.{Left, adds, adds_all, kept_all, left_by, none_left, whole}
use Rattle.run_turns.specs.Laws.{IsAlone, IsCourse, StepsAreCourses, holds_whole}
use Rattle.run_turns.specs.Pieces.{Piece, Play, after_piece, after_pieces, entered, holder_of, once_found, piece_at, pieces_from, play_of, released_by, spent, unless_told}
use Rattle.run_turns.proofs.Told.{told_or}
use Rattle.run_turns.specs.Steps.{cause_of, flight_then, played_as, run_goes_on, said_by, stopped_lines}

-- THE PIECES ARE THE SITTINGS

abbrev pub batches_in : List Piece → List (List Entry)
batches_in [] = []
batches_in (p ∷ ps) = p.sitting.batches ++ batches_in ps

abbrev pub lines_in : List Piece → List (List ℕ)
lines_in [] = []
lines_in (p ∷ ps) = p.sitting.lines ++ lines_in ps

abbrev course_in : List Piece → Course
course_in ps = record { batches = batches_in ps; lines = lines_in ps }

module _ (sight : Sight) where
  -- what follows a sitting, unless that tells the step
  follows : (s : State) (k n : ℕ) (Q : Queue) (h : Holder) → course_in (pieces_from k sight n Q h s) ≡ course_of (sittings k sight.finds Q h s)
      → course_in (unless_told s (pieces_from k sight n Q h s)) ≡ course_of (sittings k sight.finds Q h s)
  follows (Fresh task) k n Q h is = is
  follows (Away aside) k n Q h is = is
  follows (Rested p) k n Q h is = is
  follows Told k n Q h is = sym (told_gives_none sight.finds k Q h)

  abbrev with_first : Sitting → Course → Course
  with_first t c = record { batches = t.batches ++ c.batches; lines = t.lines ++ c.lines }

  pieces_are : (k n : ℕ) (Q : Queue) (h : Holder) (s : State) → course_in (pieces_from k sight n Q h s) ≡ course_of (sittings k sight.finds Q h s)
  pieces_are zero n Q h s = refl
  pieces_are (suc k) n Q h s =
      let t = sit Q h s (sight.finds Q s) in
      let es = all_entries t.batches in
      ap (with_first t) (follows t.next k _ (run Q es) (holder_then Q h es) (pieces_are k _ (run Q es) (holder_then Q h es) t.next))

-- WHAT IS LEFT OF THEM

module _ (by : MemberId) (locked : Bool) where
  kept_append : (ess fss : List (List Entry)) → kept_all (ess ++ fss) ≡ kept_all ess ++ kept_all fss
  kept_append ess fss = map-append (with_fate _) ess fss

  pub left_batches : (l : Left) (ps : List Piece) → (adds_all by locked l ps).batches ≡ l.batches ++ kept_all (batches_in ps)
  left_batches l [] = sym (append-nil l.batches)
  left_batches l (p ∷ ps) =
      left_batches (adds by locked l p) ps ∙ append_assoc l.batches (kept_all p.sitting.batches) (kept_all (batches_in ps))
      ∙ ap (λ (bs : List Batched). l.batches ++ bs) (sym (kept_append p.sitting.batches (batches_in ps)))

  left_lines : (l : Left) (ps : List Piece) → (adds_all by locked l ps).lines ≡ l.lines ++ map whole (lines_in ps)
  left_lines l [] = sym (append-nil l.lines)
  left_lines l (p ∷ ps) =
      left_lines (adds by locked l p) ps ∙ append_assoc l.lines (map whole p.sitting.lines) (map whole (lines_in ps))
      ∙ ap (λ (ls : List Line). l.lines ++ ls) (sym (map-append whole p.sitting.lines (lines_in ps)))

pub left_book : (by : MemberId) (l : Left) (ps : List Piece) → (adds_all by true l ps).book ≡ after_pieces l.book by ps
left_book by l [] = refl
left_book by l (p ∷ ps) = left_book by (adds by true l p) ps

pub kept_entries : (ess : List (List Entry)) → kept_in (kept_all ess) ≡ all_entries ess
kept_entries [] = refl
kept_entries (es ∷ ess) = ap (λ (fs : List Entry). es ++ fs) (kept_entries ess)

none_flies : (ess : List (List Entry)) → flying_in (kept_all ess) ≡ None
none_flies [] = refl
none_flies (es ∷ ess) = none_flies ess

-- THE LOCK

-- an item of a list of which one was set is the new one, or as before
pub get_or-set_either : {A : Type 0} (l : List A) (i k : ℕ) (x d : A) → (get_or (set l i x) k d ≡ x) ⊎ (get_or (set l i x) k d ≡ get_or l k d)
get_or-set_either [] i k x d = inr refl
get_or-set_either (y ∷ l) zero zero x d = inl refl
get_or-set_either (y ∷ l) zero (suc k) x d = inr refl
get_or-set_either (y ∷ l) (suc i) zero x d = inr refl
get_or-set_either (y ∷ l) (suc i) (suc k) x d = get_or-set_either l i k x d

module _ (m : MemberId) where
  -- the member stays up where its new standing is up
  pub up_with : (b : Book) (s : Standing) → is_stopped b m ≡ false → s.stopped ≡ false → is_stopped (with_standing b m s) m ≡ false
  up_with b s up is =
      ⊎_elim
      (λ e. ap (λ (t : Standing). t.stopped) e ∙ is)
      (λ e. ap (λ (t : Standing). t.stopped) e ∙ up)
      (get_or-set_either b.members (m.0 - 1) (m.0 - 1) s (beginner 0))

-- the member may come by the lock: it is up, and holds it, or nobody does
pub record MayHold (b : Book) (m : MemberId) : Type 0 where
  pub up : is_stopped b m ≡ false
  pub holder : (b.holder ≡ m) ⊎ (b.holder ≡ nobody)

pub record Holds (b : Book) (m : MemberId) : Type 0 where
  pub up : is_stopped b m ≡ false
  pub holder : b.holder ≡ m

-- the member gave the lock up: it is up, and nobody holds the lock
pub record Freed (b : Book) (m : MemberId) : Type 0 where
  pub up : is_stopped b m ≡ false
  pub holder : b.holder ≡ nobody

pub at_holder : (s h : Bool) (b other : Book) → h ≡ true → (if s || h then b else other) ≡ b
at_holder true h b other e = refl
at_holder false true b other e = refl
at_holder false false b other e = absurd (cc)

pub at_free : (s h : Bool) (b other : Book) → s ≡ false → h ≡ false → (if s || h then b else other) ≡ other
at_free true h b other es eh = absurd (cc)
at_free false true b other es eh = absurd (cc)
at_free false false b other es eh = refl

pub no_refusal : (s h g : Bool) (one two : Option LockNo) → s ≡ false → g ≡ false → (if s then one else if h then None else if g then two else None) ≡ None
no_refusal true h g one two es eg = absurd (cc)
no_refusal false true g one two es eg = refl
no_refusal false false true one two es eg = absurd (cc)
no_refusal false false false one two es eg = refl

pub is_then : (h : Bool) (one two : Book) → h ≡ true → (if h then one else two) ≡ one
is_then true one two e = refl
is_then false one two e = absurd (cc)

module _ (m : MemberId) (some : 0 < m.0) where
  pub holds_it : (b : Book) → b.holder ≡ m → is_holder b m ≡ true
  holds_it b is = eq-eqb b.holder.0 m.0 (ap (λ (k : MemberId). k.0) is)

  pub not_held : (b : Book) → b.holder ≡ nobody → is_holder b m ≡ false
  not_held b is = ne_eqb b.holder.0 m.0 (λ e. let z : b.holder.0 ≡ 0 = ap (λ (k : MemberId). k.0) is in absurd (omega (arith, e, z, some)))

  pub nobody_there : (b : Book) → b.holder ≡ nobody → is_somebody b.holder ≡ false
  nobody_there b is = ap is_somebody is

  -- a grant, after a try that is refused nothing
  pub grant_after : (b : Book) (inner : Bool) → is_stopped b m ≡ false → b.holder ≡ nobody → try_refusal b m inner ≡ None → after_try b m inner ≡ granted (ticked b inner) m
  grant_after b inner up is none =
      at_free (is_stopped b m) (is_holder b m) b _ up (not_held b is)
      ∙ ap (λ (r : Option LockNo). if is_some r then ticked b inner else granted (ticked b inner) m) none

  pub granted_holds : (b : Book) (inner : Bool) → is_stopped b m ≡ false → Holds (granted (ticked b inner) m) m
  granted_holds b inner up = record {
    up = up_with m (with_holder (ticked b inner) m) (record (standing b m) { left = b.hold }) up up;
    holder = refl;
  }

  pub entered_holds : (b : Book) → MayHold b m → Holds (entered b m) m
  entered_holds b may =
      ⊎_elim
      (λ is. subst (λ (c : Book). Holds c m) (sym (at_holder (is_stopped b m) (is_holder b m) b _ (holds_it b is))) (record { up = may.up; holder = is }))
      (λ is. subst (λ (c : Book). Holds c m)
      (sym (grant_after b true may.up is (no_refusal (is_stopped b m) (is_holder b m) (is_somebody b.holder) _ _ may.up (nobody_there b is))))
      (granted_holds b true may.up))
      may.holder

  pub spent_holds : (b : Book) (ess : List (List Entry)) → Holds b m → Holds (spent b m ess) m
  spent_holds b ess h = record {
    up = up_with m b (record (standing b m) { left = left_of b m - length (all_entries ess) }) h.up h.up;
    holder = h.holder;
  }

  pub freed_as : (b : Book) → Holds b m → (r : Release) → (r ≡ Inner) ⊎ (r ≡ Outer) → Freed (released_by r b m) m
  freed_as b h Keep either = absurd (⊎_elim (λ e. absurd (cc)) (λ e. absurd (cc)) either)
  freed_as b h Inner either =
      subst (λ (c : Book). Freed c m) (sym (is_then (is_holder b m) (with_holder b nobody) b (holds_it b h.holder))) (record { up = h.up; holder = refl })
  freed_as b h Outer either =
      subst (λ (c : Book). Freed c m) (sym (is_then (is_holder b m) (with_holder (noted b m) nobody) b (holds_it b h.holder)))
      (record { up = up_with m b (record (standing b m) { freed = Some b.tick }) h.up h.up; holder = refl })

  pub freed_after : (b : Book) (p : Piece) → MayHold b m → (p.sitting.release ≡ Inner) ⊎ (p.sitting.release ≡ Outer) → Freed (after_piece b m p) m
  freed_after b p may either =
      freed_as (spent (entered b m) m p.sitting.batches) (spent_holds (entered b m) p.sitting.batches (entered_holds b may)) p.sitting.release either

  -- each piece gives the lock up
  abbrev pub GiveUp : List Piece → Type 0
  GiveUp [] = Unit {0}
  GiveUp (p ∷ ps) = ((p.sitting.release ≡ Inner) ⊎ (p.sitting.release ≡ Outer)) × GiveUp ps

  freed_all : (b : Book) (ps : List Piece) → Freed b m → GiveUp ps → Freed (after_pieces b m ps) m
  freed_all b [] freed gives = freed
  freed_all b (p ∷ ps) freed gives =
      freed_all (after_piece b m p) ps (freed_after b p (record { up = freed.up; holder = inr freed.holder }) gives.0) gives.1

  unless_gives : (s : State) (ps : List Piece) → GiveUp ps → GiveUp (unless_told s ps)
  unless_gives (Fresh task) ps gives = gives
  unless_gives (Away aside) ps gives = gives
  unless_gives (Rested p) ps gives = gives
  unless_gives Told ps gives = tt

  module _ (sight : Sight) where
    gives_up : (Q : Queue) (h : Holder) (s : State) → h.grant ≡ ForStep → let t = sit Q h s (sight.finds Q s) in (t.release ≡ Inner) ⊎ (t.release ≡ Outer)
    gives_up Q h s e =
        let t = sit Q h s (sight.finds Q s) in
        let rightly = (lock_is_held_rightly Q h s (sight.finds Q s)).for_step e in
        ⊎_elim (λ told. inr (rightly.outer told)) (λ ne. inl (rightly.inner ne)) (told_or t.next)

    pub all_give_up : (k n : ℕ) (Q : Queue) (h : Holder) (s : State) → h.grant ≡ ForStep → GiveUp (pieces_from k sight n Q h s)
    all_give_up zero n Q h s e = tt
    all_give_up (suc k) n Q h s e =
        let t = sit Q h s (sight.finds Q s) in
        let es = all_entries t.batches in
        (gives_up Q h s e, unless_gives t.next (pieces_from k sight _ (run Q es) (holder_then Q h es) t.next) (all_give_up k _ (run Q es) (holder_then Q h es) t.next e))

    all_freed : (k n : ℕ) (Q : Queue) (h : Holder) (s : State) (b : Book) → 1 ≤ k → h.grant ≡ ForStep → MayHold b m → Freed (after_pieces b m (pieces_from k sight n Q h s)) m
    all_freed zero n Q h s b le e may = absurd (omega (arith, le))
    all_freed (suc k) n Q h s b le e may =
        let t = sit Q h s (sight.finds Q s) in
        let es = all_entries t.batches in
        freed_all (after_piece b m (piece_at sight n Q h s)) (unless_told t.next (pieces_from k sight _ (run Q es) (holder_then Q h es) t.next))
        (freed_after b (piece_at sight n Q h s) may (gives_up Q h s e))
        (unless_gives t.next (pieces_from k sight _ (run Q es) (holder_then Q h es) t.next) (all_give_up k _ (run Q es) (holder_then Q h es) t.next e))

-- THE STEP

pub once_none : (f : Option (List Entry)) (ps : List Piece) → f ≡ None → once_found f ps ≡ ps
once_none None ps e = refl
once_none (Some es) ps e = absurd (cc)

pub by_step : (h : Bool) → h ≡ false → (if h then ByLock else ForStep) ≡ ForStep
by_step true e = absurd (cc)
by_step false e = refl

abbrev holder_with : MemberId → ℕ → ℕ → Grant → Holder
holder_with by at hold grant = record { by = by; step = at; hold = hold; grant = grant }

-- a task that nothing cuts, while nothing is in flight: what its pieces leave
module _ (S : Scene) (by : MemberId) (at : ℕ) (sight : Sight) (task : Task) where
  abbrev pub its_pieces : List Piece
  its_pieces = pieces_from (task_most task) sight (S.counts by) S.queue (holder_of S by at (Plays task)) (Fresh task)

  abbrev pub its_play : Play
  its_play = play_of S by at sight (Plays task)

  abbrev pub its_left : Left
  its_left = left_by by sight.cut its_play (S.counts by)

  module _ (flight : S.flight ≡ None) (uncut : sight.cut ≡ None) where
    left_is : its_left ≡ adds_all by true (none_left by its_play.book (S.counts by)) its_pieces
    left_is =
        ap (λ (c : Option Cut). left_by by c its_play (S.counts by)) uncut
        ∙ ap (λ (ps : List Piece). adds_all by true (none_left by its_play.book (S.counts by)) ps) (once_none S.flight its_pieces flight)

    pub batches_left : its_left.batches ≡ kept_all (batches_in its_pieces)
    batches_left = ap (λ (l : Left). l.batches) left_is ∙ left_batches by true (none_left by its_play.book (S.counts by)) its_pieces

    pub lines_left : its_left.lines ≡ map whole (lines_in its_pieces)
    lines_left = ap (λ (l : Left). l.lines) left_is ∙ left_lines by true (none_left by its_play.book (S.counts by)) its_pieces

    pub book_left : its_left.book ≡ after_pieces (tried S.book by (Plays task)) by its_pieces
    book_left = ap (λ (l : Left). l.book) left_is ∙ left_book by (none_left by its_play.book (S.counts by)) its_pieces

module _ (S : Scene) (by : MemberId) (at : ℕ) (sight : Sight) (task : Task) (alone : IsAlone S by sight) where
  some_member : 0 < by.0
  some_member = alone.member.0

  tried_is : tried S.book by (Plays task) ≡ granted (ticked S.book false) by
  tried_is = grant_after by some_member S.book false alone.up alone.holder alone.granted

  whole_hold : left_of (tried S.book by (Plays task)) by ≡ S.book.hold
  whole_hold =
      let below : by.0 - 1 < length S.book.members = (let some = alone.member.0 in let most = alone.member.1 in omega (arith, some, most)) in
      ap (λ (b : Book). left_of b by) tried_is
      ∙ ap (λ (s : Standing). s.left) (get_or-set_same S.book.members (by.0 - 1) (record (standing S.book by) { left = S.book.hold }) (beginner 0) below)

  holder_is : holder_of S by at (Plays task) ≡ holds_whole S by at
  holder_is =
      ap (λ (n : ℕ). holder_with by at n (granted_by S.book by)) whole_hold
      ∙ ap (holder_with by at S.book.hold) (by_step (is_holder S.book by) (not_held by some_member S.book alone.holder))

  abbrev its_course : Course
  its_course = course sight.finds S.queue (holds_whole S by at) task

  course_is : course_in (its_pieces S by at sight task) ≡ its_course
  course_is =
      pieces_are sight (task_most task) (S.counts by) S.queue (holder_of S by at (Plays task)) (Fresh task)
      ∙ ap (λ (h : Holder). course sight.finds S.queue h task) holder_is

  batches_are : (its_left S by at sight task).batches ≡ kept_all its_course.batches
  batches_are = batches_left S by at sight task alone.flight alone.uncut ∙ ap (λ (c : Course). kept_all c.batches) course_is

  lines_are : (its_left S by at sight task).lines ≡ map whole its_course.lines
  lines_are = lines_left S by at sight task alone.flight alone.uncut ∙ ap (λ (c : Course). map whole c.lines) course_is

  freed_at_end : Freed (its_left S by at sight task).book by
  freed_at_end =
      let holds : Holds (tried S.book by (Plays task)) by = subst (λ (b : Book). Holds b by) (sym tried_is) (granted_holds by some_member S.book false alone.up) in
      subst (λ (b : Book). Freed b by) (sym (book_left S by at sight task alone.flight alone.uncut))
      (all_freed by some_member sight (task_most task) (S.counts by) S.queue (holder_of S by at (Plays task)) (Fresh task) (tried S.book by (Plays task))
      (some_may_follow (Fresh task) (λ e. absurd (cc))) (ap (λ (h : Holder). h.grant) holder_is) (record { up = holds.up; holder = inl holds.holder }))

  pub is_course : IsCourse S by its_course (played_as S by at sight (Plays task))
  is_course = record {
    batches = batches_are;
    said =
        ap (λ (c : Option Cut). map (said_by by) (its_left S by at sight task).lines ++ stopped_lines by at (cause_of c)) alone.uncut
        ∙ append-nil (map (said_by by) (its_left S by at sight task).lines) ∙ ap (map (said_by by)) lines_are;
    queue = ap (λ (bs : List Batched). run S.queue (kept_in bs)) batches_are ∙ ap (run S.queue) (kept_entries its_course.batches);
    holder = freed_at_end.holder;
    up = freed_at_end.up;
    flight =
        ap (λ (bs : List Batched). flight_then (flying_in bs) S.flight) batches_are
        ∙ ap (λ (f : Option (List Entry)). flight_then f S.flight) (none_flies its_course.batches) ∙ alone.flight;
    goes_on = ap (λ (c : Option Cut). run_goes_on (cause_of c)) alone.uncut;
  }

pub steps_are_courses : StepsAreCourses
steps_are_courses S by at sight task alone = is_course S by at sight task alone
