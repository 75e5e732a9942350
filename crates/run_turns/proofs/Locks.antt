-- The lock from one line to another: who holds it by LOCK, and how long.
use Rattle.std.proofs.Common.{◌≡◌, ◌≢◌, ⊎_elim, ℕ, zero, suc, ◌+◌, ◌-◌, ◌≤◌, ◌<◌, nat_le, Bool, true, false, if◌then◌else◌, List, [], ◌∷◌, ◌++◌, drop, length, take, append-nil, Option, Some, None, Result, Ok, Err, is_some, refl, sym, ap, ◌∙◌, subst, arith}
use Rattle.std.proofs.lemmas.Bool.Decides.{nat_tests}
use Rattle.std.proofs.lemmas.List.{get_or-set_same, length-append, length-set}
use Rattle.card_reader.specs.declared.decks.Refused.{Refused as BadCard}
use Rattle.card_reader.specs.Decks.{read_as, text_of}
use Rattle.mas_types.specs.declared.answers.Closing.TheVariants as closing
use Rattle.mas_types.specs.declared.ids.MemberId.{MemberId}
use Rattle.mas_types.specs.declared.jobs.JobFields.{JobFields}
use Rattle.mas_types.specs.declared.journals.Entry.{Entry}
use Rattle.mas_types.specs.declared.commands.Command.{Command}
use Rattle.mas_types.specs.declared.queues.Config.{Config}
use Rattle.mas_types.specs.declared.queues.Queue.{Queue}
use Rattle.mas_types.specs.Ids.{is_somebody, nobody}
use Rattle.mas_types.specs.Queue.{is_member}
use Rattle.mas_types.specs.Run.{run}
use Rattle.lock_cycle.specs.declared.answers.LockNo.{LockNo}
use Rattle.lock_cycle.specs.declared.answers.LockNo.TheVariants as lock
use Rattle.lock_cycle.specs.declared.standings.Standing.{Standing}
use Rattle.lock_cycle.specs.Books.{Book, IsMember, after_free, after_try, beginner, granted, is_holder, is_stopped, left_of, noted, standing, ticked, try_refusal, with_holder, with_standing}
use Rattle.script_lang.specs.declared.types.Ask.{Ask}
use Rattle.script_lang.specs.declared.types.Ask.TheVariants as ask
use Rattle.step_turns.specs.Courses.{hold_then, holder_then, sittings_most, task_most}
use Rattle.step_turns.specs.Entries.{all_entries}
use Rattle.step_turns.specs.Sittings.{released, sit}
use Rattle.step_turns.specs.declared.states.State.{State}
use Rattle.step_turns.specs.declared.states.State.TheVariants.{Away, Fresh, Rested, Told}
use Rattle.step_turns.specs.declared.states.Grant.{Grant}
use Rattle.step_turns.specs.declared.states.Grant.TheVariants.{ByLock, ForStep}
use Rattle.step_turns.specs.declared.states.Holder.{Holder}
use Rattle.step_turns.specs.declared.states.Release.{Release}
use Rattle.step_turns.specs.declared.states.Release.TheVariants.{Keep, Outer}
use Rattle.step_turns.specs.Turns.{turn}
use Rattle.step_turns.proofs.Cutting.{cut_entries}
use Rattle.step_turns.proofs.Given.{entries_append}
use Rattle.step_turns.proofs.Sittings.{lock_is_held_rightly, some_may_follow, steps_end}
use Rattle.run_turns.specs.Sights.{Cause, Cut, Ends, Halt, Sight, Stops}
use Rattle.mas_types.specs.declared.journals.Fate.{Fate}
use Rattle.mas_types.specs.declared.journals.Fate.TheVariants.{Flying}
use Rattle.run_turns.specs.Scenes.{Batched, Scene, flight_found, queue_found}
use Rattle.run_turns.specs.Admissions.{Admission, Denied, Frees, Locks, Plays, Refused, Replaces, Resets, TakesOver, Unplayed, asked, command_admitted, deck_admitted, if_granted, resets, tried}
use Rattle.run_turns.specs.Cuts.{Left, adds, adds_all, adds_first, entries_of, kept_all, left_by, none_left, stopped_by}
use Rattle.run_turns.specs.Laws.{FreeGivesUp, HasLock, HoldsAreSpent, LockKeeps, OthersLeaveTheLock}
use Rattle.run_turns.specs.Pieces.{Piece, Play, after_pieces, entered, fate_found, holder_of, is_locked, pieces_found, pieces_from, pieces_of, play_of, released_by, spent, unless_told}
use Rattle.run_turns.specs.Steps.{played_as}
use Rattle.run_turns.proofs.Alone.{at_free, at_holder, batches_in, batches_left, book_left, grant_after, holds_it, is_then, its_pieces, left_book, once_none, up_with}
use Rattle.run_turns.proofs.Tests.{asked_up, reset_as}
use Rattle.run_turns.proofs.Told.{none_after, told_or}

-- A LINE THAT DOESN'T GET THE LOCK leaves the book except for the tick, and for its member's stop

module _ (by : MemberId) where
  unlocked_whole : (l : Left) (ps : List Piece) → (adds_all by false l ps).book ≡ l.book
  unlocked_whole l [] = refl
  unlocked_whole l (p ∷ ps) = unlocked_whole (adds by false l p) ps

  unlocked_first : (halt : Halt) (l : Left) (ps : List Piece) → (adds_first by false halt l ps).book ≡ l.book
  unlocked_first halt l [] = refl
  unlocked_first halt l (p ∷ ps) = refl

  stopped_holder : (cause : Cause) (b : Book) → (stopped_by by cause b).holder ≡ b.holder
  stopped_holder Stops b = refl
  stopped_holder Ends b = refl

  unlocked_left : (c : Option Cut) (play : Play) (count : ℕ) → play.locked ≡ false → (left_by by c play count).book.holder ≡ play.book.holder
  unlocked_left None play count e =
      ap (λ (k : Bool). (adds_all by k (none_left by play.book count) play.pieces).book.holder) e
      ∙ ap (λ (b : Book). b.holder) (unlocked_whole (none_left by play.book count) play.pieces)
  unlocked_left (Some c) play count e =
      stopped_holder c.cause _
      ∙ ap (λ (k : Bool). (adds_first by k c.halt (adds_all by k (none_left by play.book count) (take c.sittings play.pieces)) (drop c.sittings play.pieces)).book.holder) e
      ∙ ap (λ (b : Book). b.holder)
      (unlocked_first c.halt (adds_all by false (none_left by play.book count) (take c.sittings play.pieces)) (drop c.sittings play.pieces) ∙ unlocked_whole (none_left by play.book count) (take c.sittings play.pieces))

-- the admission of a line that doesn't get the lock
abbrev IsIdle : Admission → Type 0
IsIdle (Refused m end) = Unit {0}
IsIdle (Denied why) = Unit {0}
IsIdle Unplayed = Unit {0}
IsIdle _ = ⊥

idle_if : (r : Option LockNo) (a : Admission) (why : LockNo) → r ≡ Some why → IsIdle (if_granted r a)
idle_if None a why e = absurd (cc)
idle_if (Some w) a why e = tt

busy_as : (s h g : Bool) (one two three : Option LockNo) → s ≡ false → h ≡ false → g ≡ true → (if s then one else if h then None else if g then two else three) ≡ two
busy_as true h g one two three es eh eg = absurd (cc)
busy_as false true g one two three es eh eg = absurd (cc)
busy_as false false true one two three es eh eg = refl
busy_as false false false one two three es eh eg = absurd (cc)

module _ (b : Book) (by : MemberId) (up : is_stopped b by ≡ false) (somebody : is_somebody b.holder ≡ true) (other : is_holder b by ≡ false) where
  is_busy : try_refusal b by false ≡ Some (lock.Busy b.holder)
  is_busy = busy_as (is_stopped b by) (is_holder b by) (is_somebody b.holder) _ _ _ up other somebody

  try_leaves : (after_try b by false).holder ≡ b.holder
  try_leaves =
      ap (λ (c : Book). c.holder)
      (at_free (is_stopped b by) (is_holder b by) b _ up other ∙ ap (λ (r : Option LockNo). if is_some r then ticked b false else granted (ticked b false) by) is_busy)

  idle : (a : Admission) → IsIdle (if_granted (try_refusal b by false) a)
  idle a = idle_if (try_refusal b by false) a (lock.Busy b.holder) is_busy

  idle_deck : (text : List (List ℕ)) (r : Result JobFields BadCard) → IsIdle (deck_admitted b by text r)
  idle_deck text (Err bad) = tt
  idle_deck text (Ok fields) = idle _

  idle_reset : (of : MemberId) (m s h : Bool) → reset_as b by of m s h ≢ TakesOver of → IsIdle (reset_as b by of m s h)
  idle_reset of false s h ne = tt
  idle_reset of true false h ne = tt
  idle_reset of true true true ne = absurd (ne refl)
  idle_reset of true true false ne = idle _

  idle_command : (config : Config) (c : Command) (r : Option MemberId) → ((of : MemberId) → command_admitted config b by c r ≢ TakesOver of) → IsIdle (command_admitted config b by c r)
  idle_command config c None ne = idle _
  idle_command config c (Some of) ne = idle_reset of (is_member config of) (is_stopped b of) (is_holder b of) (ne of)

  idle_free : (h : Bool) → h ≡ false → IsIdle (if h then Frees else Refused by closing.NotHolder)
  idle_free true e = absurd (cc)
  idle_free false e = tt

  idle_ask : (config : Config) (what : Ask) → ((of : MemberId) → asked config b by what ≢ TakesOver of) → IsIdle (asked config b by what)
  idle_ask config (ask.Deck cards) ne = idle_deck (text_of cards) (read_as config.node cards)
  idle_ask config (ask.Command c) ne = idle_command config c (resets c) ne
  idle_ask config (ask.Work n) ne = idle _
  idle_ask config ask.Lock ne = idle _
  idle_ask config ask.Free ne = idle_free (is_holder b by) other
  idle_ask config (ask.Line n) ne = idle _
  idle_ask config (ask.Replace copy) ne = idle _
  idle_ask config ask.Stop ne = tt
  idle_ask config (ask.StopIn what n) ne = tt
  idle_ask config (ask.Lose dev) ne = tt

idle_leaves : (S : Scene) (by : MemberId) (at : ℕ) (sight : Sight) (a : Admission) → IsIdle a → (after_try S.book by false).holder ≡ S.book.holder
    → (played_as S by at sight a).next.book.holder ≡ S.book.holder
idle_leaves S by at sight (Refused m end) is same = unlocked_left by sight.cut (play_of S by at sight (Refused m end)) (S.counts by) refl
idle_leaves S by at sight (Denied why) is same = unlocked_left by sight.cut (play_of S by at sight (Denied why)) (S.counts by) refl ∙ same
idle_leaves S by at sight Unplayed is same = unlocked_left by sight.cut (play_of S by at sight Unplayed) (S.counts by) refl
idle_leaves S by at sight (Plays task) is same = absurd is
idle_leaves S by at sight (Resets of) is same = absurd is
idle_leaves S by at sight (Replaces dev) is same = absurd is
idle_leaves S by at sight (TakesOver of) is same = absurd is
idle_leaves S by at sight Locks is same = absurd is
idle_leaves S by at sight Frees is same = absurd is

pub others_leave_the_lock : OthersLeaveTheLock
others_leave_the_lock S by at sight what up somebody other ne =
    let same = asked_up S.queue.config S.book by what up in
    subst (λ (a : Admission). (played_as S by at sight a).next.book.holder ≡ S.book.holder) (sym same)
    (idle_leaves S by at sight (asked S.queue.config S.book by what)
    (idle_ask S.book by up.up somebody other S.queue.config what (λ of e. ne of (same ∙ e)))
    (try_leaves S.book by up.up somebody other))

-- A MEMBER THAT HOLDS BY LOCK

-- the member holds the lock, with so much of its hold left
record InHand (b : Book) (m : MemberId) (hold : ℕ) : Type 0 where
  member : IsMember b m
  up : is_stopped b m ≡ false
  holder : b.holder ≡ m
  left : left_of b m ≡ hold

-- of a hold so many were spent: its member holds the lock while some is left, and else nobody does
record IsSpent (b : Book) (m : MemberId) (hold total : ℕ) : Type 0 where
  up : is_stopped b m ≡ false
  left : left_of b m ≡ hold - total
  holds : 1 ≤ left_of b m → b.holder ≡ m
  gives_up : left_of b m ≡ 0 → b.holder ≡ nobody

module _ (m : MemberId) where
  -- a member's standing is the one that it was given
  stands : (b : Book) (s : Standing) → IsMember b m → standing (with_standing b m s) m ≡ s
  stands b s member =
      let some = member.0 in
      let most = member.1 in
      get_or-set_same b.members (m.0 - 1) s (beginner 0) (omega (arith, some, most))

  still_member : (b : Book) (s : Standing) → IsMember b m → IsMember (with_standing b m s) m
  still_member b s member = (member.0, subst (λ (n : ℕ). m.0 ≤ n) (sym (length-set b.members (m.0 - 1) s)) member.1)

  spent_in_hand : (b : Book) (hold : ℕ) (ess : List (List Entry)) → InHand b m hold → InHand (spent b m ess) m (hold - length (all_entries ess))
  spent_in_hand b hold ess h =
      let s : Standing = record (standing b m) { left = left_of b m - length (all_entries ess) } in
      record {
        member = still_member b s h.member;
        up = up_with m b s h.up h.up;
        holder = h.holder;
        left = ap (λ (t : Standing). t.left) (stands b s h.member) ∙ ap (λ (n : ℕ). n - length (all_entries ess)) h.left;
      }

  entered_in_hand : (b : Book) (hold : ℕ) → InHand b m hold → InHand (entered b m) m hold
  entered_in_hand b hold h =
      subst (λ (c : Book). InHand c m hold) (sym (at_holder (is_stopped b m) (is_holder b m) b _ (holds_it m h.member.0 b h.holder))) h

  -- what is left of the lock where the step is told
  told_as : (b : Book) (hold given : ℕ) (spends : Bool) → InHand b m (hold - given) → nat_le hold given ≡ spends → IsSpent (released_by (if spends then Outer else Keep) b m) m hold given
  told_as b hold given true h e =
      let c : Book = with_holder (noted b m) nobody in
      let s : Standing = record (standing b m) { freed = Some b.tick } in
      let left : left_of c m ≡ hold - given = ap (λ (t : Standing). t.left) (stands b s h.member) ∙ h.left in
      let le : hold ≤ given = grind (arith, nat_tests) in
      subst (λ (d : Book). IsSpent d m hold given) (sym (is_then (is_holder b m) c b (holds_it m h.member.0 b h.holder)))
      (record {
        up = up_with m b s h.up h.up;
        left = left;
        holds = λ some. absurd (omega (arith, left, le, some));
        gives_up = λ none. refl;
      })
  told_as b hold given false h e =
      let left = h.left in
      let lt : given < hold = grind (arith, nat_tests) in
      record {
        up = h.up;
        left = left;
        holds = λ some. h.holder;
        gives_up = λ none. absurd (omega (arith, left, lt, none));
      }

  pub unless_not : (s : State) (ps : List Piece) → s ≢ Told → unless_told s ps ≡ ps
  unless_not (Fresh task) ps ne = refl
  unless_not (Away aside) ps ne = refl
  unless_not (Rested p) ps ne = refl
  unless_not Told ps ne = absurd (ne refl)

  spent_more : (b : Book) (hold first more total : ℕ) → total ≡ first + more → IsSpent b m (hold - first) more → IsSpent b m hold total
  spent_more b hold first more total is s =
      let left = s.left in record { up = s.up; left = omega (arith, left, is); holds = s.holds; gives_up = s.gives_up }

  module _ (sight : Sight) where
    -- the first piece, and those after it
    abbrev given_by : List (List Entry) → ℕ
    given_by ess = length (all_entries ess)

    given_both : (ess fss : List (List Entry)) → given_by (ess ++ fss) ≡ given_by ess + given_by fss
    given_both ess fss = ap length (entries_append ess fss) ∙ length-append (all_entries ess) (all_entries fss)

    locked_pieces : (k n : ℕ) (Q : Queue) (h : Holder) (s : State) (b : Book) → s ≢ Told → sittings_most s ≤ k → h.grant ≡ ByLock → InHand b m h.hold
        → let ps = pieces_from k sight n Q h s in IsSpent (after_pieces b m ps) m h.hold (given_by (batches_in ps))
    locked_pieces zero n Q h s b ne le e hand = let some = some_may_follow s ne in absurd (omega (arith, some, le))
    locked_pieces (suc k) n Q h s b ne le e hand =
        let found = sight.finds Q s in
        let t = sit Q h s found in
        let es = all_entries t.batches in
        let after = released_by t.release (spent (entered b m) m t.batches) m in
        let more = pieces_from k sight _ (run Q es) (holder_then Q h es) t.next in
        let now = spent_in_hand (entered b m) h.hold t.batches (entered_in_hand b h.hold hand) in
        let same : length es ≡ length (all_entries (turn h Q s found).parts) = ap length (cut_entries [] (turn h Q s found).parts) in
        ⊎_elim
        (λ told.
        let is : t.release ≡ (if nat_le h.hold (length es) then Outer else Keep) =
        ap (λ (g : Grant). released g h.hold (length (all_entries (turn h Q s found).parts)) t.next) e
        ∙ ap (λ (now_at : State). released ByLock h.hold (length (all_entries (turn h Q s found).parts)) now_at) told
        ∙ ap (λ (given : ℕ). if nat_le h.hold given then Outer else Keep) (sym same) in
        let one : IsSpent after m h.hold (length es) = subst (λ (r : Release). IsSpent (released_by r (spent (entered b m) m t.batches) m) m h.hold (length es)) (sym is)
        (told_as (spent (entered b m) m t.batches) h.hold (length es) (nat_le h.hold (length es)) now refl) in
        subst (λ (ps : List Piece). IsSpent (after_pieces after m ps) m h.hold (given_by (t.batches ++ batches_in ps))) (sym (none_after t.next more told))
        (subst (λ (given : ℕ). IsSpent after m h.hold given) (sym (ap given_by (append-nil t.batches))) one))
        (λ on.
        let is : t.release ≡ Keep = ((lock_is_held_rightly Q h s found).by_lock e).within on in
        let then_hold : (holder_then Q h es).hold ≡ h.hold - length es = ap (λ (g : Grant). hold_then g Q.config.hold h.hold (length es)) e in
        let kept : InHand after m (holder_then Q h es).hold = subst (λ (r : Release). InHand (released_by r (spent (entered b m) m t.batches) m) m (holder_then Q h es).hold) (sym is)
        (subst (InHand (spent (entered b m) m t.batches) m) (sym then_hold) now) in
        let fewer = steps_end Q h s found ne in
        let rest = locked_pieces k _ (run Q es) (holder_then Q h es) t.next after on (omega (arith, fewer, le)) e kept in
        subst (λ (ps : List Piece). IsSpent (after_pieces after m ps) m h.hold (given_by (t.batches ++ batches_in ps))) (sym (unless_not t.next more on))
        (spent_more (after_pieces after m more) h.hold (length es) (given_by (batches_in more)) (given_by (t.batches ++ batches_in more)) (given_both t.batches (batches_in more))
        (subst (λ (hold : ℕ). IsSpent (after_pieces after m more) m hold (given_by (batches_in more))) then_hold rest)))
        (told_or t.next)

pub entries_kept : (ess : List (List Entry)) → entries_of (kept_all ess) ≡ all_entries ess
entries_kept [] = refl
entries_kept (es ∷ ess) = ap (λ (fs : List Entry). es ++ fs) (entries_kept ess)

module _ (S : Scene) (by : MemberId) (sight : Sight) (has : HasLock S by sight) where
  its_hand : InHand S.book by (left_of S.book by)
  its_hand = record { member = has.member; up = has.up; holder = has.holder; left = refl }

  still : (inner : Bool) → after_try S.book by inner ≡ S.book
  still inner = at_holder (is_stopped S.book by) (is_holder S.book by) S.book _ (holds_it by has.member.0 S.book has.holder)

by_lock : (h : Bool) → h ≡ true → (if h then ByLock else ForStep) ≡ ByLock
by_lock true e = refl
by_lock false e = absurd (cc)

pub holds_are_spent : HoldsAreSpent
holds_are_spent S by at sight task has =
    let h = holder_of S by at (Plays task) in
    let ps = its_pieces S by at sight task in
    let b : Book = tried S.book by (Plays task) in
    let same : b ≡ S.book = still S by sight has false in
    let hand : InHand b by h.hold =
    subst (λ (c : Book). InHand c by (left_of c by)) (sym same) (its_hand S by sight has) in
    let spends = locked_pieces by sight (task_most task) (S.counts by) S.queue h (Fresh task) b (λ e. absurd (cc)) (omega arith)
    (by_lock (is_holder S.book by) (holds_it by has.member.0 S.book has.holder)) hand in
    let is = subst (λ (c : Book). IsSpent c by h.hold (length (all_entries (batches_in ps)))) (sym (book_left S by at sight task has.flight has.uncut)) spends in
    record {
      up = is.up;
      left = is.left ∙ ap (λ (c : Book). left_of c by - length (all_entries (batches_in ps))) same
          ∙ ap (λ (n : ℕ). left_of S.book by - n) (sym (ap (λ (bs : List Batched). length (entries_of bs)) (batches_left S by at sight task has.flight has.uncut) ∙ ap length (entries_kept (batches_in ps))));
      holds = is.holds;
      gives_up = is.gives_up;
    }

-- LOCK AND FREE, which are one piece each

module _ (S : Scene) (by : MemberId) (at : ℕ) (sight : Sight) (a : Admission) (flight : S.flight ≡ None) (uncut : sight.cut ≡ None) where
  -- what a line leaves that has the lock, finds nothing out of a batch, and is these pieces
  one_left : (ps : List Piece) → is_locked a ≡ true → fate_found a sight ≡ Flying → pieces_of S by at sight S.queue a ≡ ps
      → (left_by by sight.cut (play_of S by at sight a) (S.counts by)).book ≡ after_pieces (tried S.book by a) by ps
  one_left ps locked found are =
      ap (λ (c : Option Cut). (left_by by c (play_of S by at sight a) (S.counts by)).book) uncut
      ∙ ap (λ (f : Fate). (adds_all by (is_locked a) (none_left by (tried S.book by a) (S.counts by)) (pieces_found (is_locked a) (flight_found f S.flight) (pieces_of S by at sight (queue_found f S.flight S.queue) a))).book) found
      ∙ ap (λ (qs : List Piece). (adds_all by (is_locked a) (none_left by (tried S.book by a) (S.counts by)) (pieces_found (is_locked a) S.flight qs)).book) are
      ∙ ap (λ (k : Bool). (adds_all by k (none_left by (tried S.book by a) (S.counts by)) (pieces_found k S.flight ps)).book) locked
      ∙ ap (λ (qs : List Piece). (adds_all by true (none_left by (tried S.book by a) (S.counts by)) qs).book) (once_none S.flight ps flight)
      ∙ left_book by (none_left by (tried S.book by a) (S.counts by)) ps

module _ (m : MemberId) where
  freed_at : (b : Book) (hold : ℕ) → InHand b m hold → (after_free b m false).holder ≡ nobody
  freed_at b hold h = ap (λ (c : Book). c.holder) (is_then (is_holder b m) (with_holder (noted b m) nobody) b (holds_it m h.member.0 b h.holder))

  granted_in_hand : (b : Book) → IsMember b m → is_stopped b m ≡ false → InHand (granted (ticked b false) m) m b.hold
  granted_in_hand b member up =
      let c : Book = with_holder (ticked b false) m in
      let s : Standing = record (standing b m) { left = b.hold } in
      record {
        member = still_member m c s member;
        up = up_with m c s up up;
        holder = refl;
        left = ap (λ (t : Standing). t.left) (stands m c s member);
      }

pub free_gives_up : FreeGivesUp
free_gives_up S by at sight has =
    let hand = spent_in_hand by (entered S.book by) (left_of S.book by) [] (entered_in_hand by S.book (left_of S.book by) (its_hand S by sight has)) in
    ap (λ (b : Book). b.holder) (one_left S by at sight Frees has.flight has.uncut _ refl refl refl) ∙ freed_at by _ _ hand

pub lock_keeps : LockKeeps
lock_keeps S by at sight alone =
    let tried_is = grant_after by alone.member.0 S.book false alone.up alone.holder alone.granted in
    let hand = subst (λ (b : Book). InHand b by S.book.hold) (sym tried_is) (granted_in_hand by S.book alone.member alone.up) in
    let now = spent_in_hand by (entered (tried S.book by Locks) by) S.book.hold [] (entered_in_hand by (tried S.book by Locks) S.book.hold hand) in
    let is = one_left S by at sight Locks alone.flight alone.uncut _ refl refl refl in
    let left = now.left in
    (ap (λ (b : Book). b.holder) is ∙ now.holder, ap (λ (b : Book). left_of b by) is ∙ left ∙ (omega arith))
