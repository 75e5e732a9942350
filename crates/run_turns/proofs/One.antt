-- A script of one member that takes no lock from one line to another gives what its lines give as a whole.
use Rattle.std.proofs.Common.{◌≡◌, ◌≢◌, inl, inr, ⊎_elim, ℕ, zero, suc, ◌+◌, ◌-◌, ◌≤◌, ◌<◌, ◌==◌, nat_le, Bool, true, false, not, ◌&&◌, is_some, if◌then◌else◌, List, [], ◌∷◌, All, drop, get_or, length, map, replicate, Option, Some, None, Result, Ok, Err, refl, sym, ap, ◌∙◌, subst, arith}
use Rattle.std.proofs.lemmas.Bool.{leb-true}
use Rattle.std.proofs.lemmas.Bool.Decides.{nat_tests}
use Rattle.std.proofs.lemmas.List.{length-replicate, length-set}
use Rattle.std.proofs.lemmas.List.Elements.{All-head, All-tail}
use Rattle.mas_types.specs.declared.answers.Closing.{Closing}
use Rattle.mas_types.specs.declared.answers.Closing.TheVariants as closing
use Rattle.mas_types.specs.declared.commands.Command.{Command}
use Rattle.mas_types.specs.declared.ids.Dev.{Dev}
use Rattle.mas_types.specs.declared.ids.MemberId.{MemberId}
use Rattle.mas_types.specs.declared.jobs.JobFields.{JobFields}
use Rattle.mas_types.specs.declared.journals.Entry.{Entry}
use Rattle.mas_types.specs.declared.queues.Config.{Config}
use Rattle.mas_types.specs.declared.queues.Queue.{Queue}
use Rattle.mas_types.specs.Ids.{nobody}
use Rattle.mas_types.specs.Queue.{is_member}
use Rattle.mas_types.specs.Run.{run}
use Rattle.card_reader.specs.declared.decks.Refused.{Refused as BadCard}
use Rattle.card_reader.specs.Decks.{read_as, text_of}
use Rattle.lock_cycle.specs.declared.answers.LockNo.{LockNo}
use Rattle.lock_cycle.specs.declared.standings.Standing.{Standing}
use Rattle.lock_cycle.specs.Books.{Book, after_free, after_try, beginner, granted, is_holder, is_stopped, new_book, noted, standing, ticked, try_refusal, with_holder, with_standing}
use Rattle.queue_laws.proofs.RunLaws.{runs_keep_configuration}
use Rattle.script_lang.specs.declared.types.Ask.{Ask}
use Rattle.script_lang.specs.declared.types.Ask.TheVariants as ask
use Rattle.script_lang.specs.declared.types.Step.{Step}
use Rattle.step_turns.specs.Courses.{Course, course, holder_then, sittings_most, task_most}
use Rattle.step_turns.specs.Entries.{all_entries}
use Rattle.step_turns.specs.Sittings.{sit}
use Rattle.step_turns.specs.declared.states.Task.{Task}
use Rattle.step_turns.specs.declared.states.Task.TheVariants.{Deck, Give, Line, Work}
use Rattle.step_turns.specs.declared.states.State.{State}
use Rattle.step_turns.specs.declared.states.State.TheVariants.{Fresh, Told}
use Rattle.step_turns.specs.declared.states.Grant.TheVariants.{ForStep}
use Rattle.step_turns.specs.declared.states.Holder.{Holder}
use Rattle.step_turns.specs.declared.states.Release.{Release}
use Rattle.step_turns.proofs.Sittings.{lock_is_held_rightly, some_may_follow, steps_end}
use Rattle.run_turns.specs.Sights.{Cut, Sight, clear}
use Rattle.run_turns.specs.Scenes.{Batched, Scene, scene_of}
use Rattle.run_turns.specs.Admissions.{Admission, Denied, Plays, Refused, Unplayed, admitted, asked, command_admitted, deck_admitted, if_granted, no_member, resets, tried}
use Rattle.run_turns.specs.Alone.{IsPlain, RunsOfOneAreWhole, Shown, ask_book, ask_course, book_at, course_at, courses_from, shown, shown_whole}
use Rattle.run_turns.specs.Cuts.{left_by}
use Rattle.run_turns.specs.Laws.{IsAlone, IsCourse, holds_whole}
use Rattle.run_turns.specs.Pieces.{Piece, after_pieces, entered, fate_found, holder_of, pieces_from, play_of, released_by, spent}
use Rattle.run_turns.specs.Runs.{outcomes_from, outcomes_if}
use Rattle.run_turns.specs.Steps.{Outcome, Played, Said, cause_of, lose, outcome_of, played, played_as, played_ask, run_goes_on, scene_left}
use Rattle.run_turns.proofs.Alone.{Freed, Holds, MayHold, at_free, book_left, by_step, entered_holds, freed_as, get_or-set_either, grant_after, granted_holds, holds_it, is_course, is_then, its_left, not_held, spent_holds}
use Rattle.run_turns.proofs.Locks.{unless_not}
use Rattle.run_turns.proofs.Near.{Near, near_entered, near_granted, near_inner, near_outer, near_spent, near_ticked, same_refusal}
use Rattle.run_turns.proofs.Tests.{asked_up, reset_as}
use Rattle.run_turns.proofs.Told.{none_after, told_or}

-- A STEP'S BOOK: as the lock was taken and given up once

module _ (m : MemberId) (some : 0 < m.0) (sight : Sight) where
  near_pieces : (k n : ℕ) (Q : Queue) (h : Holder) (s : State) (b c : Book) → s ≢ Told → sittings_most s ≤ k → h.grant ≡ ForStep → MayHold b m → Holds c m → Near b c
      → Near (after_pieces b m (pieces_from k sight n Q h s)) (after_free c m false)
  near_pieces zero n Q h s b c ne le e may holds near = let one = some_may_follow s ne in absurd (omega (arith, one, le))
  near_pieces (suc k) n Q h s b c ne le e may holds near =
      let found = sight.finds Q s in
      let t = sit Q h s found in
      let es = all_entries t.batches in
      let more = pieces_from k sight _ (run Q es) (holder_then Q h es) t.next in
      let now = spent (entered b m) m t.batches in
      let has : Holds now m = spent_holds m some (entered b m) t.batches (entered_holds m some b may) in
      let alike : Near now c = near_spent m some (entered b m) c t.batches (near_entered m some b c may near) in
      let gives = (lock_is_held_rightly Q h s found).for_step e in
      ⊎_elim
      (λ told.
      subst (λ (ps : List Piece). Near (after_pieces (released_by t.release now m) m ps) (after_free c m false)) (sym (none_after t.next more told))
      (subst (λ (r : Release). Near (released_by r now m) (after_free c m false)) (sym (gives.outer told)) (near_outer m some now c has holds alike)))
      (λ on.
      let is = gives.inner on in
      let fewer = steps_end Q h s found ne in
      let freed : Freed (released_by t.release now m) m = freed_as m some now has t.release (inl is) in
      subst (λ (ps : List Piece). Near (after_pieces (released_by t.release now m) m ps) (after_free c m false)) (sym (unless_not m t.next more on))
      (near_pieces k _ (run Q es) (holder_then Q h es) t.next (released_by t.release now m) c on (omega (arith, fewer, le)) e
      (record { up = freed.up; holder = inr freed.holder }) holds
      (subst (λ (r : Release). Near (released_by r now m) c) (sym is) (near_inner m some now c has alike))))
      (told_or t.next)

-- NOBODY IS STOPPED

abbrev pub AreUp : Book → Type 0
AreUp b = (k : ℕ) → (get_or b.members k (beginner 0)).stopped ≡ false

near_up : (b c : Book) → Near b c → AreUp c → AreUp b
near_up b c near up k = let same = near.each k in same.stopped ∙ up k

-- WHAT IS ADMITTED of a member that is up, while nobody is stopped, by what its try is answered

abbrev pub deck_as : MemberId → Option LockNo → List (List ℕ) → Result JobFields BadCard → Admission
deck_as by r text (Err bad) = Refused by (closing.BadCard bad.card bad.cause)
deck_as by r text (Ok fields) = if_granted r (Plays (Deck fields text))

abbrev pub command_as : Config → MemberId → Option LockNo → Command → Option MemberId → Admission
command_as config by r c None = if_granted r (Plays (Give c))
command_as config by r c (Some of) = if not (is_member config of) then Refused by no_member else Refused by (closing.Up of)

abbrev pub plain_as : Config → MemberId → Option LockNo → Ask → Admission
plain_as config by r (ask.Deck cards) = deck_as by r (text_of cards) (read_as config.node cards)
plain_as config by r (ask.Command c) = command_as config by r c (resets c)
plain_as config by r (ask.Work n) = if_granted r (Plays (Work n))
plain_as config by r (ask.Line n) = if_granted r (Plays (Line n))
plain_as config by r _ = Unplayed

-- a line that is a step
abbrev pub IsStep : Ask → Type 0
IsStep (ask.Deck cards) = Unit {0}
IsStep (ask.Command c) = Unit {0}
IsStep (ask.Work n) = Unit {0}
IsStep (ask.Line n) = Unit {0}
IsStep _ = ⊥

module _ (config : Config) (b : Book) (by : MemberId) (up : AreUp b) (member : is_member config by ≡ true) where
  reset_up : (of : MemberId) (m h : Bool) → reset_as b by of m false h ≡ (if not m then Refused by no_member else Refused by (closing.Up of))
  reset_up of true h = refl
  reset_up of false h = refl

  deck_is : (text : List (List ℕ)) (r : Result JobFields BadCard) → deck_admitted b by text r ≡ deck_as by (try_refusal b by false) text r
  deck_is text (Err bad) = refl
  deck_is text (Ok fields) = refl

  command_is : (c : Command) (r : Option MemberId) → command_admitted config b by c r ≡ command_as config by (try_refusal b by false) c r
  command_is c None = refl
  command_is c (Some of) = ap (λ (s : Bool). reset_as b by of (is_member config of) s (is_holder b of)) (up (of.0 - 1)) ∙ reset_up of (is_member config of) (is_holder b of)

  asked_is : (what : Ask) → IsStep what → asked config b by what ≡ plain_as config by (try_refusal b by false) what
  asked_is (ask.Deck cards) step = deck_is (text_of cards) (read_as config.node cards)
  asked_is (ask.Command c) step = command_is c (resets c)
  asked_is (ask.Work n) step = refl
  asked_is ask.Lock step = absurd step
  asked_is ask.Free step = absurd step
  asked_is (ask.Line n) step = refl
  asked_is (ask.Replace copy) step = absurd step
  asked_is ask.Stop step = absurd step
  asked_is (ask.StopIn what n) step = absurd step
  asked_is (ask.Lose dev) step = absurd step

  pub plain_is : (what : Ask) → IsStep what → admitted config b by what ≡ plain_as config by (try_refusal b by false) what
  plain_is what step = asked_up config b by what (record { member = member; up = up (by.0 - 1) }) ∙ asked_is what step

-- A LINE

-- where a run of one member stands: nobody holds, nobody is stopped, nothing is in flight; and the book of whole lines
-- beside it
record Stands (by : MemberId) (S : Scene) (c : Book) : Type 0 where
  near : Near S.book c
  up : AreUp c
  free : S.book.holder ≡ nobody
  none : c.holder ≡ nobody
  flight : S.flight ≡ None
  members : S.queue.config.members ≤ length c.members

record Meets (by : MemberId) (Q : Queue) (c : Book) (shows : Shown) (es : List Entry) (p : Played) : Type 0 where
  shown_is : shown p.outcome ≡ shows
  queue : p.next.queue ≡ run Q es
  goes_on : p.goes_on ≡ true
  stands : Stands by p.next c

-- the parts of what a member of the configuration is
member_some : (n : ℕ) (few : Bool) → (not (n == 0) && few) ≡ true → 0 < n
member_some n few e = grind (arith, nat_tests)

and_false : (b : Bool) → (b && false) ≡ true → ⊥
and_false true e = cc
and_false false e = cc

member_few : (n : ℕ) (few : Bool) → (not (n == 0) && few) ≡ true → few ≡ true
member_few n true e = refl
member_few n false e = absurd (and_false (not (n == 0)) e)

-- a refused try has its tick
pub denied_try : (m : MemberId) (some : 0 < m.0) (b : Book) (why : LockNo) → is_stopped b m ≡ false → b.holder ≡ nobody → try_refusal b m false ≡ Some why → after_try b m false ≡ ticked b false
denied_try m some b why up free is =
    at_free (is_stopped b m) (is_holder b m) b _ up (not_held m some b free) ∙ ap (λ (r : Option LockNo). if is_some r then ticked b false else granted (ticked b false) m) is

abbrev shown_as : List Batched → List Said → Shown
shown_as bs ls = (bs, ls)

both_are : (bs cs : List Batched) (ls ms : List Said) → bs ≡ cs → ls ≡ ms → shown_as bs ls ≡ shown_as cs ms
both_are bs cs ls ms e f = ap (λ (x : List Batched). shown_as x ls) e ∙ ap (shown_as cs) f

pub up_set : (b : Book) (m : MemberId) (s : Standing) → AreUp b → s.stopped ≡ false → AreUp (with_standing b m s)
up_set b m s up is k =
    ⊎_elim
    (λ e. ap (λ (t : Standing). t.stopped) e ∙ is)
    (λ e. ap (λ (t : Standing). t.stopped) e ∙ up k)
    (get_or-set_either b.members (m.0 - 1) k s (beginner 0))

module _ (S : Scene) (by : MemberId) (at : ℕ) (sight : Sight) (c : Book) (st : Stands by S c) (uncut : sight.cut ≡ None) (member : is_member S.queue.config by ≡ true) where
  some_member : 0 < by.0
  some_member = member_some by.0 (nat_le by.0 S.queue.config.members) member

  few_member : by.0 ≤ S.queue.config.members
  few_member = leb-true by.0 S.queue.config.members (member_few by.0 (nat_le by.0 S.queue.config.members) member)

  up_here : is_stopped S.book by ≡ false
  up_here = near_up S.book c st.near st.up (by.0 - 1)

  up_there : is_stopped c by ≡ false
  up_there = st.up (by.0 - 1)

  -- a line of one piece that closes before the lock is had
  abbrev Comes : Admission → Type 0
  Comes a =
      let co = course_at S.queue c by at sight a in
      Meets by S.queue (book_at c by a) (shown_whole by co) (all_entries co.batches) (played_as S by at sight a)

  -- what an uncut line leaves, by what would cut it
  abbrev with_cut : Admission → Option Cut → Played
  with_cut a k =
      let play = play_of S by at sight a in
      let l = left_by by k play (S.counts by) in
      record { outcome = outcome_of by at (fate_found a sight) play (cause_of k) l; next = scene_left S by play l; goes_on = run_goes_on (cause_of k) }

  refused_comes : (end : Closing) → Comes (Refused by end)
  refused_comes end =
      subst (λ (k : Option Cut). Meets by S.queue c (shown_whole by (course_at S.queue c by at sight (Refused by end))) [] (with_cut (Refused by end) k)) (sym uncut)
      (record {
        shown_is = refl;
        queue = refl;
        goes_on = refl;
        stands = record { near = st.near; up = st.up; free = st.free; none = st.none; flight = st.flight; members = st.members };
      })

  denied_comes : (why : LockNo) → try_refusal S.book by false ≡ Some why → Comes (Denied why)
  denied_comes why is =
      let here = denied_try by some_member S.book why up_here st.free is in
      let there = denied_try by some_member c why up_there st.none (sym (same_refusal by S.book c (st.free ∙ sym st.none) st.near) ∙ is) in
      subst (λ (k : Option Cut). Meets by S.queue (after_try c by false) (shown_whole by (course_at S.queue c by at sight (Denied why))) [] (with_cut (Denied why) k)) (sym uncut)
      (record {
        shown_is = refl;
        queue = refl;
        goes_on = refl;
        stands = record {
          near = subst (λ (b : Book). Near b (after_try c by false)) (sym here) (subst (λ (d : Book). Near (ticked S.book false) d) (sym there) (near_ticked by S.book c false st.near));
          up = subst AreUp (sym there) st.up;
          free = ap (λ (b : Book). b.holder) here ∙ st.free;
          none = ap (λ (b : Book). b.holder) there ∙ st.none;
          flight = st.flight;
          members = subst (λ (d : Book). S.queue.config.members ≤ length d.members) (sym there) st.members;
        };
      })

  module _ (task : Task) (granted_here : try_refusal S.book by false ≡ None) where
    here_granted : tried S.book by (Plays task) ≡ granted (ticked S.book false) by
    here_granted = grant_after by some_member S.book false up_here st.free granted_here

    there_granted : after_try c by false ≡ granted (ticked c false) by
    there_granted = grant_after by some_member c false up_there st.none (sym (same_refusal by S.book c (st.free ∙ sym st.none) st.near) ∙ granted_here)

    alone : IsAlone S by sight
    alone = record {
      member = (some_member, (let few = few_member in let many = st.near.many in let most = st.members in omega (arith, few, many, most)));
      up = up_here;
      holder = st.free;
      granted = granted_here;
      flight = st.flight;
      uncut = uncut;
    }

    its : IsCourse S by (course sight.finds S.queue (holds_whole S by at) task) (played_as S by at sight (Plays task))
    its = is_course S by at sight task alone

    there_holds : Holds (after_try c by false) by
    there_holds = subst (λ (d : Book). Holds d by) (sym there_granted) (granted_holds by some_member c false up_there)

    book_near : Near (its_left S by at sight task).book (book_at c by (Plays task))
    book_near =
        let b : Book = tried S.book by (Plays task) in
        let has : Holds b by = subst (λ (d : Book). Holds d by) (sym here_granted) (granted_holds by some_member S.book false up_here) in
        subst (λ (d : Book). Near d (book_at c by (Plays task))) (sym (book_left S by at sight task st.flight uncut))
        (near_pieces by some_member sight (task_most task) (S.counts by) S.queue (holder_of S by at (Plays task)) (Fresh task) b (after_try c by false)
        (λ e. absurd (cc)) (omega arith) (by_step (is_holder S.book by) (not_held by some_member S.book st.free))
        (record { up = has.up; holder = inl has.holder }) there_holds
        (subst (λ (d : Book). Near d (after_try c by false)) (sym here_granted) (subst (λ (d : Book). Near (granted (ticked S.book false) by) d) (sym there_granted) (near_granted by S.book c st.near))))

    freed_there : book_at c by (Plays task) ≡ with_holder (noted (after_try c by false) by) nobody
    freed_there =
        is_then (is_holder (after_try c by false) by) (with_holder (noted (after_try c by false) by) nobody) (after_try c by false)
        (holds_it by some_member (after_try c by false) there_holds.holder)

    up_after : AreUp (book_at c by (Plays task))
    up_after =
        subst AreUp (sym freed_there)
        (up_set (after_try c by false) by (record (standing (after_try c by false) by) { freed = Some (after_try c by false).tick })
        (subst AreUp (sym there_granted) (up_set (with_holder (ticked c false) by) by (record (standing c by) { left = c.hold }) st.up up_there))
        there_holds.up)

    many_after : length (book_at c by (Plays task)).members ≡ length c.members
    many_after =
        ap (λ (d : Book). length d.members) freed_there ∙ length-set (after_try c by false).members (by.0 - 1) _
        ∙ ap (λ (d : Book). length d.members) there_granted ∙ length-set c.members (by.0 - 1) _

    granted_comes : Comes (Plays task)
    granted_comes =
        let h = holds_whole S by at in
        let hold = st.near.hold in
        let same : course sight.finds S.queue h task ≡ course sight.finds S.queue (record { by = by; step = at; hold = c.hold; grant = ForStep }) task =
        ap (λ (n : ℕ). course sight.finds S.queue (record { by = by; step = at; hold = n; grant = ForStep }) task) hold in
        record {
          shown_is = both_are _ _ _ _ its.batches its.said ∙ ap (shown_whole by) same;
          queue = its.queue ∙ ap (λ (co : Course). run S.queue (all_entries co.batches)) same;
          goes_on = its.goes_on;
          stands = record {
            near = book_near;
            up = up_after;
            free = its.holder;
            none = ap (λ (d : Book). d.holder) freed_there;
            flight = its.flight;
            members = subst (λ (n : ℕ). n ≤ length (book_at c by (Plays task)).members)
                (sym (ap (λ (q : Queue). q.config.members) its.queue ∙ ap (λ (g : Config). g.members) (runs_keep_configuration S.queue (all_entries (course sight.finds S.queue h task).batches)).config))
                (let many = many_after in let most = st.members in omega (arith, many, most));
          };
        }

  comes_if : (r : Option LockNo) (task : Task) → try_refusal S.book by false ≡ r → Comes (if_granted r (Plays task))
  comes_if None task is = granted_comes task is
  comes_if (Some why) task is = denied_comes why is

  comes_deck : (r : Option LockNo) → try_refusal S.book by false ≡ r → (text : List (List ℕ)) (said : Result JobFields BadCard) → Comes (deck_as by r text said)
  comes_deck r is text (Err bad) = refused_comes (closing.BadCard bad.card bad.cause)
  comes_deck r is text (Ok fields) = comes_if r (Deck fields text) is

  comes_reset : (of : MemberId) (m : Bool) → Comes (if not m then Refused by no_member else Refused by (closing.Up of))
  comes_reset of true = refused_comes (closing.Up of)
  comes_reset of false = refused_comes no_member

  comes_command : (r : Option LockNo) → try_refusal S.book by false ≡ r → (c : Command) (of : Option MemberId) → Comes (command_as S.queue.config by r c of)
  comes_command r is given None = comes_if r (Give given) is
  comes_command r is given (Some of) = comes_reset of (is_member S.queue.config of)

  comes_step : (r : Option LockNo) → try_refusal S.book by false ≡ r → (what : Ask) → IsStep what → Comes (plain_as S.queue.config by r what)
  comes_step r is (ask.Deck cards) step = comes_deck r is (text_of cards) (read_as S.queue.config.node cards)
  comes_step r is (ask.Command given) step = comes_command r is given (resets given)
  comes_step r is (ask.Work n) step = comes_if r (Work n) is
  comes_step r is ask.Lock step = absurd step
  comes_step r is ask.Free step = absurd step
  comes_step r is (ask.Line n) step = comes_if r (Line n) is
  comes_step r is (ask.Replace copy) step = absurd step
  comes_step r is ask.Stop step = absurd step
  comes_step r is (ask.StopIn what n) step = absurd step
  comes_step r is (ask.Lose dev) step = absurd step

  abbrev MeetsAs : Admission → Admission → Type 0
  MeetsAs a d =
      let co = course_at S.queue c by at sight d in
      Meets by S.queue (book_at c by d) (shown_whole by co) (all_entries co.batches) (played_as S by at sight a)

  -- a step's line is admitted alike at either book
  step_meets : (what : Ask) → IsStep what → MeetsAs (admitted S.queue.config S.book by what) (admitted S.queue.config c by what)
  step_meets what step =
      let r = try_refusal S.book by false in
      let here = plain_is S.queue.config S.book by (near_up S.book c st.near st.up) member what step in
      let there = plain_is S.queue.config c by st.up member what step
      ∙ ap (λ (k : Option LockNo). plain_as S.queue.config by k what) (sym (same_refusal by S.book c (st.free ∙ sym st.none) st.near)) in
      subst (λ (a : Admission). MeetsAs a (admitted S.queue.config c by what)) (sym here)
      (subst (λ (d : Admission). MeetsAs (plain_as S.queue.config by r what) d) (sym there) (comes_step r refl what step))

  lose_meets : (dev : Dev) → Meets by S.queue c ([], []) [] (lose S dev)
  lose_meets dev = record {
    shown_is = refl;
    queue = refl;
    goes_on = refl;
    stands = record { near = st.near; up = st.up; free = st.free; none = st.none; flight = st.flight; members = st.members };
  }

  abbrev AskMeets : MemberId → Ask → Type 0
  AskMeets m what =
      let co = ask_course S.queue c by at sight what in
      Meets by S.queue (ask_book S.queue c by what) (shown_whole by co) (all_entries co.batches) (played_ask S m at sight what)

  ask_meets : (m : MemberId) (what : Ask) → IsPlain by m what → AskMeets m what
  ask_meets m (ask.Deck cards) is = subst (λ (k : MemberId). AskMeets k (ask.Deck cards)) (sym is) (step_meets (ask.Deck cards) tt)
  ask_meets m (ask.Command given) is = subst (λ (k : MemberId). AskMeets k (ask.Command given)) (sym is) (step_meets (ask.Command given) tt)
  ask_meets m (ask.Work n) is = subst (λ (k : MemberId). AskMeets k (ask.Work n)) (sym is) (step_meets (ask.Work n) tt)
  ask_meets m (ask.Lose dev) is = lose_meets dev
  ask_meets m ask.Lock is = absurd is
  ask_meets m ask.Free is = absurd is
  ask_meets m (ask.Line n) is = subst (λ (k : MemberId). AskMeets k (ask.Line n)) (sym is) (step_meets (ask.Line n) tt)
  ask_meets m (ask.Replace copy) is = absurd is
  ask_meets m ask.Stop is = absurd is
  ask_meets m (ask.StopIn what n) is = absurd is

-- LINES ONE AFTER ANOTHER

abbrev IsUncut : Sight → Type 0
IsUncut sight = sight.cut ≡ None

first_uncut : (sights : List Sight) → All IsUncut sights → IsUncut (get_or sights 0 clear)
first_uncut [] all = refl
first_uncut (sight ∷ sights) all = All-head IsUncut sight sights all

rest_uncut : (sights : List Sight) → All IsUncut sights → All IsUncut (drop 1 sights)
rest_uncut [] all = all
rest_uncut (sight ∷ sights) all = All-tail IsUncut sight sights all

abbrev IsPlainStep : MemberId → Step → Type 0
IsPlainStep by step = IsPlain by step.by step.what

more_if : (g : Bool) (os : List Outcome) → g ≡ true → outcomes_if g os ≡ os
more_if true os e = refl
more_if false os e = absurd (cc)

lines_whole : (by : MemberId) (steps : List Step) (sights : List Sight) (at : ℕ) (S : Scene) (c : Book) → Stands by S c → is_member S.queue.config by ≡ true
    → All IsUncut sights → All (IsPlainStep by) steps
    → map shown (outcomes_from S at sights steps) ≡ map (shown_whole by) (courses_from S.queue c by at sights steps)
lines_whole by [] sights at S c st member uncut plain = refl
lines_whole by (step ∷ steps) sights at S c st member uncut plain =
    let sight = get_or sights 0 clear in
    let p = played S at sight step in
    let co = ask_course S.queue c by at sight step.what in
    let m = ask_meets S by at sight c st (first_uncut sights uncut) member step.by step.what (All-head (IsPlainStep by) step steps plain) in
    let still : is_member p.next.queue.config by ≡ true =
    ap (λ (g : Config). is_member g by) (ap (λ (q : Queue). q.config) m.queue ∙ (runs_keep_configuration S.queue (all_entries co.batches)).config) ∙ member in
    let rest = lines_whole by steps (drop 1 sights) (at + 1) p.next (ask_book S.queue c by step.what) m.stands still (rest_uncut sights uncut) (All-tail (IsPlainStep by) step steps plain) in
    ap (λ (os : List Outcome). shown p.outcome ∷ map shown os) (more_if p.goes_on (outcomes_from p.next (at + 1) (drop 1 sights) steps) m.goes_on)
    ∙ ap (λ (x : Shown). x ∷ map shown (outcomes_from p.next (at + 1) (drop 1 sights) steps)) m.shown_is
    ∙ ap (λ (xs : List Shown). shown_whole by co ∷ xs)
    (rest ∙ ap (λ (q : Queue). map (shown_whole by) (courses_from q (ask_book S.queue c by step.what) by (at + 1) (drop 1 sights) steps)) m.queue)

pub new_up : (count hold k : ℕ) → (get_or (replicate count (beginner hold)) k (beginner 0)).stopped ≡ false
new_up zero hold k = refl
new_up (suc count) hold zero = refl
new_up (suc count) hold (suc k) = new_up count hold k

pub runs_of_one_are_whole : RunsOfOneAreWhole
runs_of_one_are_whole Q by sights steps member uncut plain =
    let b : Book = new_book Q.config.members Q.config.hold Q.config.dormancy in
    lines_whole by steps sights 1 (scene_of Q) b
    (record {
      near = record { tick = refl; hold = refl; dormancy = refl; many = refl; each = λ k. record { stopped = refl; freed = refl } };
      up = new_up Q.config.members Q.config.hold;
      free = refl;
      none = refl;
      flight = refl;
      members = (let many : length (replicate Q.config.members (beginner Q.config.hold)) ≡ Q.config.members = length-replicate Q.config.members (beginner Q.config.hold) in omega (arith, many));
    })
    member uncut plain
