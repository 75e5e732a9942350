-- After each line the queue is that of the kept batches of the history, and a batch in flight is its last.
use Rattle.std.proofs.Common.{◌≡◌, ℕ, zero, suc, ◌+◌, Bool, true, false, if◌then◌else◌, List, [], ◌∷◌, ◌++◌, drop, get_or, map, take, append_assoc, append-nil, Option, Some, None, refl, sym, ap, ◌∙◌, subst}
use Rattle.std.proofs.lemmas.List.{map-append}
use Rattle.mas_types.specs.declared.ids.MemberId.{MemberId}
use Rattle.mas_types.specs.declared.journals.Entry.{Entry}
use Rattle.mas_types.specs.declared.journals.Fate.{Fate}
use Rattle.mas_types.specs.declared.journals.Fate.TheVariants.{Kept, Dropped, Flying}
use Rattle.mas_types.specs.declared.queues.Queue.{Queue}
use Rattle.mas_types.specs.Run.{run}
use Rattle.script_lang.specs.declared.types.Ask.{Ask}
use Rattle.script_lang.specs.declared.types.Ask.TheVariants as ask
use Rattle.script_lang.specs.declared.types.Step.{Step}
use Rattle.step_turns.proofs.Given.{run_append}
use Rattle.run_turns.specs.Sights.{Begun, Cut, Halt, Saying, Sight, Waiting, Writing, clear}
use Rattle.run_turns.specs.Scenes.{Batched, Scene, flies_as, flight_found, flying_in, kept_in, kept_of, queue_found, scene_of, with_fate}
use Rattle.run_turns.specs.Admissions.{Admission, Denied, Frees, Locks, Plays, Refused, Replaces, Resets, TakesOver, Unplayed, admitted}
use Rattle.run_turns.specs.Pieces.{Piece, Play, fate_found, once_found, pieces_of, play_of}
use Rattle.spool_plant.specs.View.{Line}
use Rattle.run_turns.specs.Cuts.{Left, adds, adds_all, adds_first, batches_cut, begun, given_cut, kept_all, left_by, none_left, printed_cut, torn, whole}
use Rattle.run_turns.specs.Steps.{Outcome, Played, flight_then, is_up, played, played_as, played_ask, silent}
use Rattle.run_turns.specs.Runs.{fate_then, history_from, outcomes_from, outcomes_if, scene_after, scene_if, settled}
use Rattle.run_turns.specs.Laws.{QueuesAreOfHistory}

-- BATCHES OF WHICH NONE FLIES

abbrev IsQuiet : List Batched → Type 0
IsQuiet bs = flying_in bs ≡ None

module _ (es : List Entry) (rest : Option (List Entry)) where
  passes : (f : Fate) → flies_as f es rest ≡ None → (r : Option (List Entry)) → flies_as f es r ≡ r
  passes Kept e r = refl
  passes Dropped e r = refl
  passes Flying e r = absurd (cc)

  rest_quiet : (f : Fate) → flies_as f es rest ≡ None → rest ≡ None
  rest_quiet Kept e = e
  rest_quiet Dropped e = e
  rest_quiet Flying e = absurd (cc)

  same_fate : (found f : Fate) → flies_as f es rest ≡ None → with_fate (fate_then found f) es ≡ with_fate f es
  same_fate found Kept e = refl
  same_fate found Dropped e = refl
  same_fate found Flying e = absurd (cc)

flying_after : (xs ys : List Batched) → IsQuiet xs → flying_in (xs ++ ys) ≡ flying_in ys
flying_after [] ys quiet = refl
flying_after (x ∷ xs) ys quiet =
    passes x.entries (flying_in xs) x.fate quiet (flying_in (xs ++ ys)) ∙ flying_after xs ys (rest_quiet x.entries (flying_in xs) x.fate quiet)

kept_after : (xs ys : List Batched) → kept_in (xs ++ ys) ≡ kept_in xs ++ kept_in ys
kept_after [] ys = refl
kept_after (x ∷ xs) ys =
    ap (λ (es : List Entry). kept_of x.fate x.entries ++ es) (kept_after xs ys) ∙ sym (append_assoc (kept_of x.fate x.entries) (kept_in xs) (kept_in ys))

settled_quiet : (found : Fate) (xs : List Batched) → IsQuiet xs → settled found xs ≡ xs
settled_quiet found [] quiet = refl
settled_quiet found (x ∷ xs) quiet =
    ap (λ (y : Batched). y ∷ settled found xs) (same_fate x.entries (flying_in xs) found x.fate quiet)
    ∙ ap (λ (ys : List Batched). x ∷ ys) (settled_quiet found xs (rest_quiet x.entries (flying_in xs) x.fate quiet))

settled_front : (found : Fate) (front bs : List Batched) → IsQuiet front → settled found (front ++ bs) ≡ front ++ settled found bs
settled_front found front bs quiet =
    map-append (λ (b : Batched). with_fate (fate_then found b.fate) b.entries) front bs ∙ ap (λ (xs : List Batched). xs ++ settled found bs) (settled_quiet found front quiet)

kept_quiet : (ess : List (List Entry)) → IsQuiet (kept_all ess)
kept_quiet [] = refl
kept_quiet (es ∷ ess) = kept_quiet ess

-- a batch in flight
abbrev in_flight : Option (List Entry) → List Batched
in_flight None = []
in_flight (Some es) = with_fate Flying es ∷ []

flying_flight : (f : Option (List Entry)) → flying_in (in_flight f) ≡ f
flying_flight None = refl
flying_flight (Some es) = refl

kept_flight : (f : Option (List Entry)) → kept_in (in_flight f) ≡ []
kept_flight None = refl
kept_flight (Some es) = refl

-- batches of which one at most flies, the last
record Splits (bs : List Batched) : Type 0 where
  front : List Batched
  flight : Option (List Entry)
  quiet : IsQuiet front
  are : bs ≡ front ++ in_flight flight

splits_flying : (bs : List Batched) (s : Splits bs) → flying_in bs ≡ s.flight
splits_flying bs s = ap flying_in s.are ∙ flying_after s.front (in_flight s.flight) s.quiet ∙ flying_flight s.flight

splits_kept : (bs : List Batched) (s : Splits bs) → kept_in bs ≡ kept_in s.front
splits_kept bs s =
    ap kept_in s.are ∙ kept_after s.front (in_flight s.flight) ∙ ap (λ (es : List Entry). kept_in s.front ++ es) (kept_flight s.flight) ∙ append-nil (kept_in s.front)

quiet_splits : (bs : List Batched) → IsQuiet bs → Splits bs
quiet_splits bs quiet = record { front = bs; flight = None; quiet = quiet; are = sym (append-nil bs) }

splits_after : (xs bs : List Batched) → IsQuiet xs → Splits bs → Splits (xs ++ bs)
splits_after xs bs quiet s = record {
  front = xs ++ s.front;
  flight = s.flight;
  quiet = flying_after xs s.front quiet ∙ s.quiet;
  are = ap (λ (ys : List Batched). xs ++ ys) s.are ∙ sym (append_assoc xs s.front (in_flight s.flight));
}

-- WHAT A LINE LEAVES

module _ (by : MemberId) where
  one_splits : (f : Fate) (es : List Entry) → Splits (with_fate f es ∷ [])
  one_splits Kept es = quiet_splits (with_fate Kept es ∷ []) refl
  one_splits Dropped es = quiet_splits (with_fate Dropped es ∷ []) refl
  one_splits Flying es = record { front = []; flight = Some es; quiet = refl; are = refl }

  begun_splits : (g : Option Begun) (ess : List (List Entry)) → Splits (begun by g ess)
  begun_splits None ess = quiet_splits [] refl
  begun_splits (Some g) [] = quiet_splits [] refl
  begun_splits (Some g) (es ∷ ess) = one_splits g.fate (take g.entries es)

  cut_splits : (halt : Halt) (ess : List (List Entry)) → Splits (batches_cut by halt ess)
  cut_splits (Writing n g) ess = splits_after (kept_all (take n ess)) (begun by g (drop n ess)) (kept_quiet (take n ess)) (begun_splits g (drop n ess))
  cut_splits (Saying n tail) ess = quiet_splits (kept_all ess) (kept_quiet ess)
  cut_splits (Waiting n tail) ess = quiet_splits (kept_all ess) (kept_quiet ess)

  whole_quiet : (locked : Bool) (l : Left) (ps : List Piece) → IsQuiet l.batches → IsQuiet (adds_all by locked l ps).batches
  whole_quiet locked l [] quiet = quiet
  whole_quiet locked l (p ∷ ps) quiet =
      whole_quiet locked (adds by locked l p) ps (flying_after l.batches (kept_all p.sitting.batches) quiet ∙ kept_quiet p.sitting.batches)

  first_splits : (locked : Bool) (halt : Halt) (l : Left) (ps : List Piece) → IsQuiet l.batches → Splits (adds_first by locked halt l ps).batches
  first_splits locked halt l [] quiet = quiet_splits l.batches quiet
  first_splits locked halt l (p ∷ ps) quiet = splits_after l.batches (batches_cut by halt p.sitting.batches) quiet (cut_splits halt p.sitting.batches)

  left_splits : (cut : Option Cut) (play : Play) (count : ℕ) → Splits (left_by by cut play count).batches
  left_splits None play count =
      let none : Left = record { batches = []; lines = []; printed = []; prints = 0; given = []; count = count; book = play.book } in
      quiet_splits (adds_all by play.locked none play.pieces).batches (whole_quiet play.locked none play.pieces refl)
  left_splits (Some cut) play count =
      let none : Left = record { batches = []; lines = []; printed = []; prints = 0; given = []; count = count; book = play.book } in
      first_splits play.locked cut.halt (adds_all by play.locked none (take cut.sittings play.pieces)) (drop cut.sittings play.pieces)
      (whole_quiet play.locked none (take cut.sittings play.pieces) refl)

-- PIECES WITHOUT BATCHES, PRINTED LINES AND GIVEN BYTES leave none

abbrev pub AreBare : List Piece → Type 0
AreBare [] = Unit {0}
AreBare (p ∷ ps) = (p.sitting.batches ≡ []) × (p.printed ≡ []) × (p.given ≡ []) × AreBare ps

take_bare : (n : ℕ) (ps : List Piece) → AreBare ps → AreBare (take n ps)
take_bare zero ps bare = tt
take_bare (suc n) [] bare = tt
take_bare (suc n) (p ∷ ps) bare = (bare.0, bare.1, bare.2, take_bare n ps bare.3)

drop_bare : (n : ℕ) (ps : List Piece) → AreBare ps → AreBare (drop n ps)
drop_bare zero ps bare = bare
drop_bare (suc n) [] bare = tt
drop_bare (suc n) (p ∷ ps) bare = drop_bare n ps bare.3

-- nothing is kept, in flight, printed or given
pub record IsBareLeft (l : Left) : Type 0 where
  pub batches : l.batches ≡ []
  pub printed : l.printed ≡ []
  pub given : l.given ≡ []

module _ (by : MemberId) where
  none_begun : (g : Option Begun) → begun by g [] ≡ []
  none_begun None = refl
  none_begun (Some g) = refl

  none_cut : (halt : Halt) → batches_cut by halt [] ≡ []
  none_cut (Writing zero g) = none_begun g
  none_cut (Writing (suc n) g) = none_begun g
  none_cut (Saying n tail) = refl
  none_cut (Waiting n tail) = refl

  none_torn : (tail : Option (List ℕ)) → torn tail [] ≡ []
  none_torn None = refl
  none_torn (Some text) = refl

  none_printed_cut : (halt : Halt) → printed_cut by halt [] ≡ []
  none_printed_cut (Writing n g) = refl
  none_printed_cut (Saying n tail) = refl
  none_printed_cut (Waiting zero tail) = none_torn tail
  none_printed_cut (Waiting (suc n) tail) = none_torn tail

  none_given_cut : (halt : Halt) → given_cut by halt [] ≡ []
  none_given_cut (Writing n g) = refl
  none_given_cut (Saying n tail) = refl
  none_given_cut (Waiting zero tail) = refl
  none_given_cut (Waiting (suc n) tail) = refl

  whole_bare : (locked : Bool) (l : Left) (ps : List Piece) → IsBareLeft l → AreBare ps → IsBareLeft (adds_all by locked l ps)
  whole_bare locked l [] none bare = none
  whole_bare locked l (p ∷ ps) none bare =
      let eb : l.batches ++ kept_all p.sitting.batches ≡ [] = ap (λ (bs : List Batched). bs ++ kept_all p.sitting.batches) none.batches ∙ ap kept_all bare.0 in
      let ep : l.printed ++ map whole p.printed ≡ [] = ap (λ (ls : List Line). ls ++ map whole p.printed) none.printed ∙ ap (map whole) bare.1 in
      let eg : l.given ++ p.given ≡ [] = ap (λ (bs : List ℕ). bs ++ p.given) none.given ∙ bare.2 in
      whole_bare locked (adds by locked l p) ps (record { batches = eb; printed = ep; given = eg }) bare.3

  first_bare : (locked : Bool) (halt : Halt) (l : Left) (ps : List Piece) → IsBareLeft l → AreBare ps → IsBareLeft (adds_first by locked halt l ps)
  first_bare locked halt l [] none bare = none
  first_bare locked halt l (p ∷ ps) none bare = record {
    batches = ap (λ (bs : List Batched). bs ++ batches_cut by halt p.sitting.batches) none.batches ∙ ap (batches_cut by halt) bare.0 ∙ none_cut halt;
    printed = ap (λ (ls : List Line). ls ++ printed_cut by halt p.printed) none.printed ∙ ap (printed_cut by halt) bare.1 ∙ none_printed_cut halt;
    given = ap (λ (bs : List ℕ). bs ++ given_cut by halt p.given) none.given ∙ ap (given_cut by halt) bare.2 ∙ none_given_cut halt;
  }

  pub left_bare : (cut : Option Cut) (play : Play) (count : ℕ) → AreBare play.pieces → IsBareLeft (left_by by cut play count)
  left_bare None play count bare =
      whole_bare play.locked (none_left by play.book count) play.pieces (record { batches = refl; printed = refl; given = refl }) bare
  left_bare (Some cut) play count bare =
      let l = first_bare play.locked cut.halt (adds_all by play.locked (none_left by play.book count) (take cut.sittings play.pieces)) (drop cut.sittings play.pieces)
      (whole_bare play.locked (none_left by play.book count) (take cut.sittings play.pieces) (record { batches = refl; printed = refl; given = refl }) (take_bare cut.sittings play.pieces bare))
      (drop_bare cut.sittings play.pieces bare) in
      record { batches = l.batches; printed = l.printed; given = l.given }

-- THE LEDGER: after what is kept and dropped comes a batch in flight, if one is

record Ledger (base : Queue) (h : List Batched) (Q : Queue) (flight : Option (List Entry)) : Type 0 where
  front : List Batched
  quiet : IsQuiet front
  are : h ≡ front ++ in_flight flight
  queue : Q ≡ run base (kept_in front)

module _ (base : Queue) (h : List Batched) (Q : Queue) where
  -- nothing was in flight
  settle_none : (found : Fate) → Ledger base h Q None → Ledger base (settled found h) Q None
  settle_none found l = record {
    front = l.front;
    quiet = l.quiet;
    are = ap (settled found) l.are ∙ settled_front found l.front [] l.quiet;
    queue = l.queue;
  }

  -- the batch in flight becomes one with this fate, that isn't in flight
  front_with : (found fate : Fate) (es : List Entry) → settled found (in_flight (Some es)) ≡ with_fate fate es ∷ [] → IsQuiet (with_fate fate es ∷ [])
      → (now : Queue) → ((front : List Batched) → Q ≡ run base (kept_in front) → now ≡ run base (kept_in (front ++ with_fate fate es ∷ [])))
      → Ledger base h Q (Some es) → Ledger base (settled found h) now None
  front_with found fate es is quiet now goes l = record {
    front = l.front ++ with_fate fate es ∷ [];
    quiet = flying_after l.front (with_fate fate es ∷ []) l.quiet ∙ quiet;
    are = ap (settled found) l.are ∙ settled_front found l.front (in_flight (Some es)) l.quiet ∙ ap (λ (bs : List Batched). l.front ++ bs) is ∙ sym (append-nil (l.front ++ with_fate fate es ∷ []));
    queue = goes l.front l.queue;
  }

  kept_then : (es : List Entry) (front : List Batched) → Q ≡ run base (kept_in front) → run Q es ≡ run base (kept_in (front ++ with_fate Kept es ∷ []))
  kept_then es front is =
      ap (λ (q : Queue). run q es) is ∙ sym (run_append base (kept_in front) es)
      ∙ ap (run base) (ap (λ (fs : List Entry). kept_in front ++ fs) (sym (append-nil es)) ∙ sym (kept_after front (with_fate Kept es ∷ [])))

  dropped_then : (es : List Entry) (front : List Batched) → Q ≡ run base (kept_in front) → Q ≡ run base (kept_in (front ++ with_fate Dropped es ∷ []))
  dropped_then es front is = is ∙ ap (run base) (sym (append-nil (kept_in front)) ∙ sym (kept_after front (with_fate Dropped es ∷ [])))

  settle : (found : Fate) (flight : Option (List Entry)) → Ledger base h Q flight → Ledger base (settled found h) (queue_found found flight Q) (flight_found found flight)
  settle Kept None l = settle_none Kept l
  settle Dropped None l = settle_none Dropped l
  settle Flying None l = settle_none Flying l
  settle Kept (Some es) l = front_with Kept Kept es refl refl (run Q es) (kept_then es) l
  settle Dropped (Some es) l = front_with Dropped Dropped es refl refl Q (dropped_then es) l
  settle Flying (Some es) l = record {
    front = l.front;
    quiet = l.quiet;
    are = ap (settled Flying) l.are ∙ settled_front Flying l.front (in_flight (Some es)) l.quiet;
    queue = l.queue;
  }

flight_alone : (f : Option (List Entry)) → flight_then f None ≡ f
flight_alone None = refl
flight_alone (Some es) = refl

module _ (base : Queue) (h : List Batched) (Q : Queue) (bs : List Batched) (s : Splits bs) where
  add_alone : Ledger base h Q None → Ledger base (h ++ bs) (run Q (kept_in bs)) s.flight
  add_alone l = record {
    front = l.front ++ s.front;
    quiet = flying_after l.front s.front l.quiet ∙ s.quiet;
    are =
        ap (λ (xs : List Batched). xs ++ bs) (l.are ∙ append-nil l.front) ∙ ap (λ (xs : List Batched). l.front ++ xs) s.are
        ∙ sym (append_assoc l.front s.front (in_flight s.flight));
    queue =
        ap (run Q) (splits_kept bs s) ∙ ap (λ (q : Queue). run q (kept_in s.front)) l.queue ∙ sym (run_append base (kept_in l.front) (kept_in s.front))
        ∙ ap (run base) (sym (kept_after l.front s.front));
  }

  -- a line's batches follow; it has none while one that was there is in flight
  add : (flight : Option (List Entry)) → ((es : List Entry) → flight ≡ Some es → bs ≡ []) → Ledger base h Q flight → Ledger base (h ++ bs) (run Q (kept_in bs)) (flight_then (flying_in bs) flight)
  add None none l = subst (Ledger base (h ++ bs) (run Q (kept_in bs))) (sym (ap (λ (f : Option (List Entry)). flight_then f None) (splits_flying bs s) ∙ flight_alone s.flight)) (add_alone l)
  add (Some es) none l =
      subst (λ (xs : List Batched). Ledger base (h ++ xs) (run Q (kept_in xs)) (flight_then (flying_in xs) (Some es))) (sym (none es refl))
      (subst (λ (xs : List Batched). Ledger base xs Q (Some es)) (sym (append-nil h)) l)

-- THE LINES OF A RUN

abbrev HasLedger : Queue → List Batched → Scene → Type 0
HasLedger base h S = Ledger base h S.queue S.flight

abbrev Keeps : Queue → List Batched → Played → Type 0
Keeps base h p = HasLedger base (settled p.outcome.found h ++ p.outcome.batches) p.next

once_bare : (flight : Option (List Entry)) (es : List Entry) (ps : List Piece) → flight ≡ Some es → AreBare (once_found flight ps)
once_bare None es ps is = absurd (cc)
once_bare (Some fs) es ps is = tt

-- while a batch is in flight a line gives nothing
pub bare_in_flight : (S : Scene) (by : MemberId) (at : ℕ) (sight : Sight) (a : Admission) (es : List Entry) → (play_of S by at sight a).flight ≡ Some es → AreBare (play_of S by at sight a).pieces
bare_in_flight S by at sight (Refused sayer end) es is = (refl, refl, refl, tt)
bare_in_flight S by at sight (Denied why) es is = (refl, refl, refl, tt)
bare_in_flight S by at sight (Plays task) es is = once_bare S.flight es (pieces_of S by at sight S.queue (Plays task)) is
bare_in_flight S by at sight (Resets of) es is = once_bare S.flight es (pieces_of S by at sight S.queue (Resets of)) is
bare_in_flight S by at sight (Replaces dev) es is = once_bare S.flight es (pieces_of S by at sight S.queue (Replaces dev)) is
bare_in_flight S by at sight (TakesOver of) es is =
    once_bare (flight_found sight.flight S.flight) es (pieces_of S by at sight (queue_found sight.flight S.flight S.queue) (TakesOver of)) is
bare_in_flight S by at sight Locks es is = once_bare S.flight es (pieces_of S by at sight S.queue Locks) is
bare_in_flight S by at sight Frees es is = once_bare S.flight es (pieces_of S by at sight S.queue Frees) is
bare_in_flight S by at sight Unplayed es is = tt

module _ (base : Queue) where
  line_keeps : (S : Scene) (h : List Batched) (by : MemberId) (at : ℕ) (sight : Sight) (a : Admission) → HasLedger base h S → Keeps base h (played_as S by at sight a)
  line_keeps S h by at sight a l =
      let found = fate_found a sight in
      let play = play_of S by at sight a in
      add base (settled found h) play.queue (left_by by sight.cut play (S.counts by)).batches (left_splits by sight.cut play (S.counts by)) play.flight
      (λ es is. (left_bare by sight.cut play (S.counts by) (bare_in_flight S by at sight a es is)).batches)
      (settle base h S.queue found S.flight l)

  silent_keeps : (S : Scene) (h : List Batched) → HasLedger base h S → Keeps base h (silent S)
  silent_keeps S h l =
      add base (settled Flying h) S.queue [] (quiet_splits [] refl) S.flight (λ es is. refl) (settle base h S.queue Flying S.flight l)

  -- a line that is silent keeps the ledger, in either of two scenes
  either_keeps : (u : Bool) (h : List Batched) (one two : Scene) → HasLedger base h one → HasLedger base h two → Keeps base h (if u then silent one else silent two)
  either_keeps true h one two l m = silent_keeps one h l
  either_keeps false h one two l m = silent_keeps two h m

  ask_keeps : (S : Scene) (h : List Batched) (by : MemberId) (at : ℕ) (sight : Sight) (what : Ask) → HasLedger base h S → Keeps base h (played_ask S by at sight what)
  ask_keeps S h by at sight ask.Stop l = either_keeps (is_up S by) h _ S l l
  ask_keeps S h by at sight (ask.StopIn what n) l = either_keeps (is_up S by) h _ S l l
  ask_keeps S h by at sight (ask.Lose dev) l = silent_keeps S h l
  ask_keeps S h by at sight (ask.Deck cards) l = line_keeps S h by at sight (admitted S.queue.config S.book by (ask.Deck cards)) l
  ask_keeps S h by at sight (ask.Command c) l = line_keeps S h by at sight (admitted S.queue.config S.book by (ask.Command c)) l
  ask_keeps S h by at sight (ask.Work n) l = line_keeps S h by at sight (admitted S.queue.config S.book by (ask.Work n)) l
  ask_keeps S h by at sight ask.Lock l = line_keeps S h by at sight (admitted S.queue.config S.book by ask.Lock) l
  ask_keeps S h by at sight ask.Free l = line_keeps S h by at sight (admitted S.queue.config S.book by ask.Free) l
  ask_keeps S h by at sight (ask.Line n) l = line_keeps S h by at sight (admitted S.queue.config S.book by (ask.Line n)) l
  ask_keeps S h by at sight (ask.Replace copy) l = line_keeps S h by at sight (admitted S.queue.config S.book by (ask.Replace copy)) l

  if_keeps : (g : Bool) (h : List Batched) (here last : Scene) (os : List Outcome) → HasLedger base h here → HasLedger base (history_from h os) last
      → HasLedger base (history_from h (outcomes_if g os)) (scene_if g last here)
  if_keeps true h here last os l m = m
  if_keeps false h here last os l m = l

  lines_keep : (steps : List Step) (sights : List Sight) (at : ℕ) (S : Scene) (h : List Batched) → HasLedger base h S
      → HasLedger base (history_from h (outcomes_from S at sights steps)) (scene_after S at sights steps)
  lines_keep [] sights at S h l = l
  lines_keep (step ∷ steps) sights at S h l =
      let sight = get_or sights 0 clear in
      let p = played S at sight step in
      let now = settled p.outcome.found h ++ p.outcome.batches in
      let kept : HasLedger base now p.next = ask_keeps S h step.by at sight step.what l in
      if_keeps p.goes_on now p.next (scene_after p.next (at + 1) (drop 1 sights) steps) (outcomes_from p.next (at + 1) (drop 1 sights) steps)
      kept (lines_keep steps (drop 1 sights) (at + 1) p.next now kept)

pub queues_are_of_history : QueuesAreOfHistory
queues_are_of_history Q sights steps =
    let l = lines_keep Q steps sights 1 (scene_of Q) [] (record { front = []; quiet = refl; are = refl; queue = refl }) in
    let S = scene_after (scene_of Q) 1 sights steps in
    record {
      queue = l.queue ∙ ap (run Q) (sym (append-nil (kept_in l.front)) ∙ ap (λ (es : List Entry). kept_in l.front ++ es) (sym (kept_flight S.flight)) ∙ sym (kept_after l.front (in_flight S.flight)) ∙ ap kept_in (sym l.are));
      flight = sym (ap flying_in l.are ∙ flying_after l.front (in_flight S.flight) l.quiet ∙ flying_flight S.flight);
    }
