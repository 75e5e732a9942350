-- Bytes on lines to other nodes: what a line of a script gives and takes, from what its step does.
use Rattle.mas_run.proofs.Names.{get_or-set_same, ⊎_elim, ◌≡◌, ◌≢◌, ◌⊎◌, inl, inr, ℕ, zero, suc, ◌+◌, ◌*◌, true, false, List, [], ◌∷◌, ◌++◌, append-nil, drop, length, take, Option, Some, None, Result, Ok, refl, sym, ◌∙◌, ap, subst, arith, ◌-◌, ◌≤◌, ◌<◌, append_assoc, set, slice_get, drop-append_seam, MemberId, Config, Queue, is_member, run, Book, is_stopped, Ask, SameWires, View, taken_now, PlantGhosts, Parts, Finds, holder_then, sittings_most, all_entries, given_in, reply_to, Exchange, Found, Holder, Offer, State, Away, Fresh, Task, Line as Node, Work, Wait, waits_in, GivesOnly, HearsAtFirst, HearsIn, HearsStep, TakesNothing, line_served, IsElsewhere, NodeNo, wires_then, Admission, Denied, Plays, Refused, Piece, piece_at, pieces_from, unless_told, count_then, Sight, LineAt, Carries, HeardFirst, HeardIn, stream_since, waits_as, Completes, HasRead, AreReaders, reader_place, length-set, set-get_or, IsLine, wires_most, ReadsAnyPieces, seated, Comes, World, AskLine, Load}
use Rattle.nje_frames.specs.declared.frames.Frame.{Frame}
use Rattle.nje_frames.specs.Streams.{HasFed, frames_in, open_end}
use Rattle.step_turns.specs.Serving.{offered, taken_most}
use Rattle.std.proofs.lemmas.Bool.Decides.{eqb_tells}
use Rattle.std.proofs.lemmas.Option.{get_or_from_slice_get, slice_get-get_or, same_Some as some_same}
use Rattle.run_opening.proofs.ReaderLemmas.{Readers, place_within}
use Rattle.member_resets.proofs.Wiring.{gives_still, gives_then, taken_wider, takes_none, takes_still, takes_then}

-- NOTHING GIVEN OR TAKEN

-- where it heard nothing either, if it serves a line
pub carries_none : (since : ℕ) (l : LineAt) (a : Admission) (given : List ℕ) (old new : View) → given ≡ [] → SameWires old new
    → ((line : ℕ) → a ≡ Plays (Node line) → HeardFirst since l.step.by old new l.given.sight.finds (waits_as l a)) → Carries since l a given old new
carries_none since l (Plays (Node line)) given old new none same heard =
    record { gives = subst (λ (bytes : List ℕ). GivesOnly l.step.by (Some line) bytes old new) (sym none) (gives_still l.step.by (Some line) old new same); hears = heard line refl }
carries_none since l (Refused sayer end) given old new none same heard = (none, same)
carries_none since l (Denied why) given old new none same heard = (none, same)
carries_none since l _ given old new none same heard = same

-- a line that asks for something else serves none
pub serves_none : {config : Config} {b : Book} {by : MemberId} {what : Ask} {a : Admission} → Comes config b by what a → ((n : ℕ) → what ≢ AskLine n) → (line : ℕ) → a ≢ Plays (Node line)
serves_none q0 other line same = grind arith

-- a line that serves none
pub carries_still : (since : ℕ) (l : LineAt) (a : Admission) (given : List ℕ) (old new : View) → ((line : ℕ) → a ≢ Plays (Node line)) → Carries since l a given old new → SameWires old new
carries_still since l q2 given old new other c = grind arith

-- OTHER ACTS AFTER IT

module _ (since : ℕ) (by : MemberId) (old mid new : View) (same : SameWires mid new) where
  in_later : (s : State) (found : Found) → HeardIn since by old mid s found → HeardIn since by old new s found
  in_later (Away (Exchange line offer)) found h =
      let t = taken_wider by line offer found old old mid new (takes_none old) h.0 (takes_still mid new same) in
      (t.0, subst (λ (bytes : List ℕ). Completes (stream_since since old line by) bytes found.frames) (sym t.1) h.1)
  in_later _ found h = takes_then old mid new h (takes_still mid new same)

  heard_later : (finds : Finds) (ws : List Wait) → HeardFirst since by old mid finds ws → HeardFirst since by old new finds ws
  heard_later finds [] h = tt
  heard_later finds (w ∷ ws) h = in_later w.state (finds w.queue w.state) h

pub carries_later : (since : ℕ) (l : LineAt) (a : Admission) (given : List ℕ) (old mid new : View) → SameWires mid new → Carries since l a given old mid → Carries since l a given old new
carries_later since l (Plays (Node line)) given old mid new same c = record {
  gives = subst (λ (bytes : List ℕ). GivesOnly l.step.by (Some line) bytes old new) (append-nil given) (gives_then l.step.by (Some line) given [] old mid new c.gives (gives_still l.step.by (Some line) mid new same));
  hears = heard_later since l.step.by old mid new same l.given.sight.finds (waits_as l (Plays (Node line))) c.hears;
}
carries_later since l (Refused sayer end) given old mid new same c = (c.0, wires_then old mid new c.1 same)
carries_later since l (Denied why) given old mid new same c = (c.0, wires_then old mid new c.1 same)
carries_later since l _ given old mid new same c = wires_then old mid new c same

-- where a step waits first that serves a line: for the exchange on that line
abbrev pub WaitsOnLine : Task → List Wait → Type 0
WaitsOnLine (Node line) waits = (w : Wait) (more : List Wait) → waits ≡ w ∷ more → (offer : Option Offer) × (w.state ≡ Away (Exchange line offer))
WaitsOnLine _ waits = Unit {0}

-- WHAT A TASK HEARD, by a reader that has read the stream

-- the same is open to a reader
same_rest : (was : Option (List ℕ)) (a b : List ℕ) → was ≡ Some a → was ≡ Some b → a ≡ b
same_rest was a b one two = cc

module _ (since : ℕ) (by : MemberId) (old new : View) (was is : Option (List ℕ)) where
  -- the frames are those that the bytes complete in what was taken
  frames_completed : (line : ℕ) (bytes : List ℕ) (frames : List Frame) → HasRead ((old.world since).taken line by.0) (taken_now old line by.0) (Some was)
      → HasFed was is bytes [] frames ⊎ ((bytes ≡ []) × (frames ≡ []) × (is ≡ was)) → Completes (stream_since since old line by) bytes frames
  frames_completed line bytes frames read heard =
      let before = (old.world since).taken line by.0 in
      let stream : stream_since since old line by ≡ read.stream = ap (λ (taken : List ℕ). drop (length before) taken) read.since ∙ drop-append_seam before read.stream in
      subst (λ (s : List ℕ). Completes s bytes frames) (sym stream)
      (⊎_elim (λ reads. rw (reads.gained, same_rest was reads.rest read.rest reads.was (some_same was (Some read.rest) read.is)) (read.goes_on bytes)) (λ none. rw (none.0, none.1, append-nil, append-nil) refl) heard)

  -- a step that waits first for the exchange on a line
  module _ (line : ℕ) where
    heard_by : HasRead ((old.world since).taken line by.0) (taken_now old line by.0) (Some was) → (result : Result (Unit {0}) NodeNo) (finds : Finds) (ws : List Wait) → WaitsOnLine (Node line) ws → HearsAtFirst by old new was is result finds ws → HeardFirst since by old new finds ws
    heard_by read result finds [] first h = tt
    heard_by read result finds (w ∷ ws) first h =
        let on = first w ws refl in
        let found = finds w.queue w.state in
        let heard = subst (λ (s : State). HearsIn by old new was is s found) on.1 h in
        subst (λ (s : State). HeardIn since by old new s found) (sym on.1) (heard.0, frames_completed line heard.0.bytes found.frames read heard.1.read)

first_state : (more : ℕ) (sight : Sight) (count : ℕ) (Q : Queue) (h : Holder) (line k : ℕ) (w : Wait) (ws : List Wait)
    → waits_in (take k (pieces_from (suc more) sight count Q h (Fresh (Node line)))) Q ≡ w ∷ ws → (offer : Option Offer) × (w.state ≡ Away (Exchange line offer))
first_state more sight count Q h line zero w ws same = let none : [] ≡ w ∷ ws = same in absurd (cc)
first_state more sight count Q h line (suc k) w ws same =
    let p = piece_at sight count Q h (Fresh (Node line)) in
    let es = all_entries p.sitting.batches in
    let rest = unless_told p.sitting.next (pieces_from more sight (count_then h.by es count + length p.printed) (run Q es) (holder_then Q h es) p.sitting.next) in
    let v : Wait = record { queue = run Q es; state = p.sitting.next } in
    let so : v ∷ waits_in (take k rest) (run Q es) ≡ w ∷ ws = same in
    let is : v ≡ w = cc in
    let c = Load line in
    (offered (run Q (given_in Q h.by h.step (c ∷ []))) line (reply_to Q h.by c), ap (λ (k : Wait). k.state) (sym is))

-- A TASK: what its step gave and heard, by a reader that has read the stream of its line

-- what its member took of its line since the run's first moment, up to another value
abbrev pub ReadsLine : {P C : Type 0} (plants : PlantGhosts P) (x z : Parts P C) → MemberId → Task → Option (List ℕ) → Type 0
ReadsLine plants x z by (Node line) reader = HasRead (((plants.view x.plant).world x.since).taken line by.0) (taken_now (plants.view z.plant) line by.0) (Some reader)
ReadsLine plants x z by _ reader = Unit {0}

pub waits_on : (sight : Sight) (count : ℕ) (Q : Queue) (h : Holder) (task : Task) (ps : List Piece) (k : ℕ) → ps ≡ pieces_from (sittings_most (Fresh task)) sight count Q h (Fresh task)
    → WaitsOnLine task (waits_in (take k ps) Q)
waits_on sight count Q h (Node line) ps k pieces = λ w more is.
    let most : sittings_most (Fresh (Node line)) ≡ suc (2 * taken_most + 1) = omega arith in
    first_state (2 * taken_most + 1) sight count Q h line k w more
    (subst (λ (qs : List Piece). waits_in (take k qs) Q ≡ w ∷ more) (pieces ∙ ap (λ (n : ℕ). pieces_from n sight count Q h (Fresh (Node line))) most) is)
waits_on sight count Q h _ ps k pieces = tt

-- nothing was taken, nor given on a line that is none
same_wires : (by : MemberId) (given : List ℕ) (old new : View) → GivesOnly by None given old new → TakesNothing old new → SameWires old new
same_wires by given old new gives none = let none_served : (w : ℕ) → None ≡ Some w → ⊥ = λ w e. absurd (cc) in record {
  waiting = none.waiting;
  taken = none.taken;
  given = λ w m. gives.else_given w m (inl (none_served w));
}

module _ {P C : Type 0} (plants : PlantGhosts P) (x : Parts P C) (l : LineAt) (given : List ℕ) (new : View) (was is : Option (List ℕ)) (result : Result (Unit {0}) NodeNo) (waits : List Wait) where
  abbrev old : View
  old = plants.view x.plant

  pub task_carries : (task : Task) → GivesOnly l.step.by (line_served (Fresh task)) given old new
      → HearsStep l.step.by old new was is (Fresh task) result l.given.sight.finds waits → waits_as l (Plays task) ≡ waits → ReadsLine plants x x l.step.by task was → WaitsOnLine task waits
      → Carries x.since l (Plays task) given old new
  task_carries (Work n) gives hears same read first = same_wires l.step.by given old new gives hears
  task_carries (Node line) gives hears same read first = record {
    gives = gives;
    hears = subst (λ (ws : List Wait). HeardFirst x.since l.step.by old new l.given.sight.finds ws) (sym same)
        (heard_by x.since l.step.by old new was is line read result l.given.sight.finds waits first hears);
  }
  task_carries _ gives hears same read first = same_wires l.step.by given old new gives hears

-- ONE READER

-- it took these bytes more
read_more : (before taken after : List ℕ) (was is : Option (List ℕ)) (bytes : List ℕ) (frames : List Frame) → ReadsAnyPieces → HasRead before taken (Some was) → after ≡ taken ++ bytes
    → HasFed was is bytes [] frames ⊎ ((bytes ≡ []) × (frames ≡ []) × (is ≡ was)) → HasRead before after (Some is)
read_more before taken after was is bytes frames law h more (inl reads) =
    let two_pieces : (s t : List ℕ) → frames_in (s ++ t) ≡ frames_in s ++ frames_in (open_end s ++ t) = λ s t. ap (λ (u : List ℕ). frames_in (s ++ u)) (sym (append-nil t)) ∙ sym (law (s ∷ t ∷ []))
    ∙ ap (λ (f : List Frame). frames_in s ++ f) (append-nil (frames_in (open_end s ++ t))) in
    let rest : reads.rest ≡ h.rest = same_rest was reads.rest h.rest reads.was (some_same was (Some h.rest) h.is) in
    record {
      stream = h.stream ++ bytes;
      since = more ∙ ap (λ (k : List ℕ). k ++ bytes) h.since ∙ append_assoc before h.stream bytes;
      rest = open_end (h.rest ++ bytes);
      is = ap (λ (k : Option (List ℕ)). Some k) (reads.now_is ∙ ap (λ (k : List ℕ). Some (open_end (k ++ bytes))) rest);
      goes_on = λ next. rw (append_assoc h.stream bytes next, h.goes_on (bytes ++ next), h.goes_on bytes, ← append_assoc h.rest bytes next, two_pieces (h.rest ++ bytes) next, append_assoc) refl;
    }
read_more before taken after was is bytes frames law h more (inr none) = rw (more, none.0, append-nil, none.2) h

-- what a step took that ended well
pub read_after : {P C : Type 0} (plants : PlantGhosts P) (x z : Parts P C) (by : MemberId) (was is : Option (List ℕ)) (task : Task) (finds : Finds) (waits : List Wait) → ReadsAnyPieces
    → HearsStep by (plants.view x.plant) (plants.view z.plant) was is (Fresh task) (Ok tt) finds waits → WaitsOnLine task waits → ReadsLine plants x x by task was → ReadsLine plants x z by task is
read_after plants x z by was is (Node n) finds [] law hears first read = absurd hears
read_after plants x z by was is (Node n) finds (w ∷ ws) law hears first read =
    let heard = subst (λ (s : State). HearsIn by (plants.view x.plant) (plants.view z.plant) was is s (finds w.queue w.state)) (first w ws refl).1 hears in
    read_more _ _ _ was is heard.0.bytes (finds w.queue w.state).frames law read heard.0.taken heard.1.read
read_after plants x z by was is _ finds waits law hears first read = tt

-- THE LIST OF THEM

pub set_still : (rs : Readers) (j : ℕ) (was is : Option (List ℕ)) → slice_get rs j ≡ Some was → is ≡ was → set rs j is ≡ rs
set_still rs j was is here same =
    ap (λ (r : Option (List ℕ)). set rs j r) (same ∙ sym (get_or_from_slice_get rs j was None here)) ∙ set-get_or rs j None

-- with another one at a place
pub own_set : {X : Type 0} (xs : List X) (j : ℕ) (x : X) → j < length xs → slice_get (set xs j x) j ≡ Some x
own_set xs j x less = slice_get-get_or (set xs j x) j x (subst (λ (n : ℕ). j < n) (sym (length-set xs j x)) less) ∙ ap Some (get_or-set_same xs j x x less)

pub other_set : {X : Type 0} (xs : List X) (j k : ℕ) (x : X) → k ≢ j → slice_get (set xs j x) k ≡ slice_get xs k
other_set [] j k x apart = refl
other_set (y ∷ xs) zero zero x apart = absurd (apart refl)
other_set (y ∷ xs) (suc j) (suc k) x apart = other_set xs j k x (λ same. apart (ap suc same))
other_set (y ∷ xs) _ _ x apart = refl

own_or_else : (by m : MemberId) (n line : ℕ) → ((m ≡ by) × (line ≡ n)) ⊎ IsElsewhere (Some n) by line m.0
own_or_else by m n line = ⊎_elim (λ mine. ⊎_elim (λ here. inl (ap (λ (k : ℕ). let q : MemberId = record { 0 = k } in q) mine.1, here.1)) (λ other. inr (inl (λ same. other.1 (some_same line n (sym same))))) (eqb_tells line n))
    (λ other. inr (inr other.1)) (eqb_tells m.0 by.0)

-- WHAT THEY HAVE READ, once a line of a script was played

module _ {P C : Type 0} (plants : PlantGhosts P) (x y : Parts P C) (base : y.base ≡ x.base) (since : y.since ≡ x.since) (booked : length x.book.members ≡ x.base.config.members)
    (rs : Readers) (read : AreReaders plants x rs) (past : plants.tells → (plants.view y.plant).world x.since ≡ (plants.view x.plant).world x.since)
    (up : plants.tells → (m : MemberId) → is_stopped y.book m ≡ false → is_stopped x.book m ≡ false) where
  abbrev v : Parts P C → View
  v z = plants.view z.plant

  abbrev first : Parts P C → ℕ → MemberId → List ℕ
  first z line m = ((v z).world z.since).taken line m.0

  first_same : plants.tells → (line : ℕ) (m : MemberId) → first y line m ≡ first x line m
  first_same t line m = ap (λ (n : ℕ). ((v y).world n).taken line m.0) since ∙ ap (λ (w : World). w.taken line m.0) (past t)

  member_same : (m : MemberId) → is_member y.base.config m ≡ true → is_member x.base.config m ≡ true
  member_same m is = subst (λ (Q : Queue). is_member Q.config m ≡ true) base is

  many_same : wires_most * x.base.config.members ≡ wires_most * y.base.config.members
  many_same = ap (λ (Q : Queue). wires_most * Q.config.members) (sym base)

  moved : plants.tells → (m : MemberId) (line : ℕ) (r : Option (Option (List ℕ))) → taken_now (v y) line m.0 ≡ taken_now (v x) line m.0
      → HasRead (first x line m) (taken_now (v x) line m.0) r → HasRead (first y line m) (taken_now (v y) line m.0) r
  moved t m line r same h =
      subst (λ (b : List ℕ). HasRead b (taken_now (v y) line m.0) r) (sym (first_same t line m)) (subst (λ (k : List ℕ). HasRead (first x line m) k r) (sym same) h)

  -- nothing was taken
  pub readers_still : (plants.tells → SameWires (v x) (v y)) → AreReaders plants y rs
  readers_still same = record {
    many = read.many ∙ many_same;
    each = λ t m line member inside is_up. moved t m line (slice_get rs (reader_place m line)) ((same t).taken line m.0) (read.each t m line (member_same m member) inside (up t m is_up));
  }

  -- a member took bytes from a line, and from no other one
  module _ (by : MemberId) (n : ℕ) (its_line : IsLine n) (its : is_member x.base.config by ≡ true) (is : Option (List ℕ))
      (else_taken : plants.tells → (w m : ℕ) → IsElsewhere (Some n) by w m → taken_now (v y) w m ≡ taken_now (v x) w m)
      (own : plants.tells → is_stopped y.book by ≡ false → HasRead (first x n by) (taken_now (v y) n by.0) (Some is)) where
    abbrev place : ℕ
    place = reader_place by n

    abbrev ReadAt : MemberId → ℕ → Type 0
    ReadAt m line = HasRead (first y line m) (taken_now (v y) line m.0) (slice_get (set rs place is) (reader_place m line))

    each_now : plants.tells → (m : MemberId) (line : ℕ) → is_member x.base.config m ≡ true → IsLine line → is_stopped y.book m ≡ false → ReadAt m line
    each_now t m line member inside is_up = ⊎_elim own_now else_now (own_or_else by m n line) where
      less : reader_place by n < length rs
      less =
          let seat = seated x.base.config x.book by booked its in
          let few : by.0 ≤ x.base.config.members = subst (λ (k : ℕ). by.0 ≤ k) booked seat.1 in
          subst (λ (k : ℕ). reader_place by n < k) (sym read.many) (place_within by n x.base.config.members seat.0 few its_line)

      own_now : (m ≡ by) × (line ≡ n) → ReadAt m line
      own_now (mine, here) =
          subst (λ (q : MemberId). ReadAt q line) (sym mine) (subst (λ (k : ℕ). ReadAt by k) (sym here)
          (subst (λ (r : Option (Option (List ℕ))). HasRead (first y n by) (taken_now (v y) n by.0) r) (sym (own_set rs place is less))
          (subst (λ (b : List ℕ). HasRead b (taken_now (v y) n by.0) (Some is)) (sym (first_same t n by)) (own t (subst (λ (q : MemberId). is_stopped y.book q ≡ false) mine is_up)))))

      else_now : IsElsewhere (Some n) by line m.0 → ReadAt m line
      else_now elsewhere =
          let some : 1 ≤ m.0 = (seated x.base.config x.book m booked member).0 in
          let more : 1 ≤ by.0 = (seated x.base.config x.book by booked its).0 in
          let apart : reader_place m line ≢ place = λ same.
          let number : m.0 ≡ by.0 = omega (arith, some, more, inside.0, inside.1, its_line.0, its_line.1, same) in
          let here : line ≡ n = omega (arith, number, inside.0, inside.1, its_line.0, its_line.1, same) in
          ⊎_elim (λ other. other (ap (λ (k : ℕ). Some k) (sym here))) (λ other. other number) elsewhere in
          subst (λ (r : Option (Option (List ℕ))). HasRead (first y line m) (taken_now (v y) line m.0) r) (sym (other_set rs place (reader_place m line) is apart))
          (moved t m line (slice_get rs (reader_place m line)) (else_taken t line m.0 elsewhere) (read.each t m line member inside (up t m is_up)))

    pub readers_served : AreReaders plants y (set rs place is)
    readers_served = record {
      many = length-set rs place is ∙ read.many ∙ many_same;
      each = λ t m line member inside is_up. each_now t m line (member_same m member) inside is_up;
    }
