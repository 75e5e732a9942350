-- The lines of a run in which neither a volume nor a printer failed show what they show where nothing is found lost.
use Rattle.mas_run.proofs.Names.{of_if, Line as Node, ◌≡◌, ◌⊎◌, inl, inr, ℕ, ◌+◌, List, [], ◌∷◌, drop, Option, Some, None, Result, Ok, Err, refl, sym, subst, arith, map, take, All, ◌∙◌, ap, zero, suc, if◌then◌else◌, Bool, true, false, ◌++◌, get_or, ◌≢◌, length, MemberId, Step, View, NodeNo, Cut, Ends, Sight, clear, Halt, Writing, Given, RightIf, given_first, ArePiecesOf, IsAskRight, flight_met, line_with, queue_met, sights_of, LineAt, CutsAs, cut_of, IfOfMember, IsHonest, IsHonestAs, starts, stops, Here, There, line_of, IsNext, All-head, All-tail, All-weaker, Spool, Ask, Disk, Printer, Rose, whole_pieces, IsFoundAt, Wait, waits_in, printed_found, read_found, FindsOutput, FindsWritten, Admission, admitted, Plays, Piece, is_locked, pieces_found, Play, holder_of, pieces_of, play_of, piece_at, piece_of, pieces_from, unless_told, Scene, scene_of, Armed, flying_in, kept_in, count_then, Played, Outcome, cause_of, flight_then, is_up, played, played_as, steps_said_by as said_by, silent, stopped_lines, Proceeds, proceeds_none, Entry, Queue, run, after_stop, Finds, task_most, holder_then, calm, examples_text_of as text_of, with_text, on_line, Found, Fresh, Away, Told, Left, left_by, adds, adds_part, stopped_by, Counts, outcomes_from, outcomes_if, GroupNo, Text, Read, IsReadAs, IsSpoolLost, all_entries, Sitting, sit, nothing_found, PrintLines, ReadText, SpoolDeck, SpoolOutputs, Holder, State, output_at, false_from_ne_true, counted, once_found, outcomes_with, with_count, Part, left, played_with, played_at, Stop, StopIn, Lose}
use Rattle.mas_run.specs.Unstopped.{IsWhole, PlaysOn}
use Rattle.mas_run.specs.Passed.{AreEach}
use Rattle.mas_run.proofs.AlikeLemmas.{Alike, LastPiece, MorePieces, NoPieces, alike_same, left_alike}
use Rattle.mas_run.proofs.EachLemmas.{each_line}
use Rattle.run_turns.specs.Alone.{shown, Shown}
use Rattle.run_turns.proofs.Locks.{unless_not}
use Rattle.mas_run.specs.Calm.{FindNone, NoneFailed, calm_but, calmed}
use Rattle.std.specs.Option.{option_map_or}
use Rattle.mas_types.specs.declared.ids.JobNo.{JobNo}
use Rattle.mas_types.specs.declared.ids.OutNo.{OutNo}
use Rattle.mas_types.specs.declared.jobs.Job.{Job}
use Rattle.mas_types.specs.declared.jobs.Output.{Output}
use Rattle.member_work.specs.Looks.{as_it_is}
use Rattle.member_sittings.specs.Asides.{deck_found}
use Rattle.job_outcome.specs.declared.outcomes.Read.TheVariants as read

-- a count that is 0 at the end hasn't risen
whole_cut : (answer : Result (Unit {0}) NodeNo) (by : MemberId) (cut : Option Cut) (old new : View) → new.stops by.0 ≡ 0 → CutsAs answer by cut old new
    → (cut ≡ None) ⊎ ((c : Cut) × (cut ≡ Some c) × (c.cause ≡ Ends))
whole_cut answer by None old new none so = inl refl
whole_cut (Ok done) by (Some cut) old new none so = absurd (let rose = so.2 in omega (arith, none, rose))
whole_cut (Err e) by (Some cut) old new none so = inr (cut, refl, so.0)

-- a member's count that is 0 at the end is 0 after each line
pub plays_on : (told : Type 0) → PlaysOn told
plays_on told m b e p none = each_line told (λ (l : LineAt). l.step.by.0 ≡ m → IsWhole l) (λ steps h. Unit {0}) (stops b e p.result)
    (λ h g step steps there is next goes. (
      (λ by. whole_cut there.answer step.by (cut_of (line_of h g step)) h.view there.view
          (let now : there.view.stops m ≡ 0 = omega (arith, goes.stops m, none) in subst (λ (n : ℕ). there.view.stops n ≡ 0) (sym by) now) next.passed.cut),
      tt,
    )) (starts b) p.given b.steps e.many tt p.passed

-- WHAT WAS FOUND

same_text : (text : Text) → as_it_is text ≡ text_of text
same_text _ = refl

module _ (per : ℕ) (by : MemberId) (old new : View) (volumes : (n : ℕ) → Rose (old.faults (Disk (Spool n))) (new.faults (Disk (Spool n))) → ⊥)
    (printer : Rose (old.faults (Printer by)) (new.faults (Printer by)) → ⊥) where
  read_calm : (text : Text) (groups : List GroupNo) (r : Read) → IsReadAs (Unit {0}) per (text, groups) (Some r) old new → r ≡ text_of text
  read_calm text groups (read.Lost volume) is = absurd (volumes volume is.1.rose)
  read_calm text groups _ is = is tt ∙ same_text text

  none_lost : (groups : List GroupNo) (lost : Option ℕ) → IsSpoolLost per groups lost old new → lost ≡ None
  none_lost groups None is = refl
  none_lost groups (Some volume) is = absurd (volumes volume is.rose)

  written_calm : (groups : List GroupNo) (found : Found) → FindsWritten per groups found old new → found ≡ nothing_found
  written_calm groups found is = is.only ∙ ap deck_found (none_lost groups found.lost is.lost)

  output_calm : (Q : Queue) (n : JobNo) (i : OutNo) (found : Found) → FindsOutput per by Q n i found old new → found ≡ option_map_or (λ (o : Output). with_text o.text) (output_at Q n i) nothing_found
  output_calm Q n i found is =
      is.only
      ∙ ap (λ (b : Bool). printed_found found.read b) (false_from_ne_true found.printer (λ lost. printer (is.lost lost).rose))
      ∙ ap read_found (read_calm is.output.text _ found.read is.as_had)
      ∙ sym (ap (λ (p : Option Output). option_map_or (λ (o : Output). with_text o.text) p nothing_found) is.there)

  found_calm : (finds : Finds) (Q : Queue) (s : State) → IsFoundAt per by old new Q s (finds Q s) → finds Q s ≡ calm_but finds Q s
  found_calm finds Q (Away (SpoolDeck n text)) is = written_calm _ _ is
  found_calm finds Q (Away (ReadText runs n fields p)) is =
      is.only ∙ ap read_found (read_calm is.job.text _ _ is.as_had) ∙ sym (ap (λ (o : Option Job). option_map_or (λ (j : Job). with_text j.text) o nothing_found) is.there)
  found_calm finds Q (Away (SpoolOutputs n specs p)) is = written_calm _ _ is
  found_calm finds Q (Away (PrintLines n i last p)) is = output_calm Q n i _ is
  found_calm finds Q (Away _) is = refl
  found_calm finds Q (Fresh (Node l)) is = refl
  found_calm finds Q _ is = is

-- THE SITTINGS are the same in so many pieces, and in the one after them

-- such pieces have the same sittings
abbrev SameSitting : Piece → Piece → Type 0
SameSitting p q = p.sitting ≡ q.sitting

abbrev AreAlike : ℕ → List Piece → List Piece → Type 0
AreAlike n ps qs = Alike SameSitting n ps qs

unless_alike : (n : ℕ) (s : State) (ps qs : List Piece) → (s ≢ Told → AreAlike n ps qs) → AreAlike n (unless_told s ps) (unless_told s qs)
unless_alike n Told ps qs alike = NoPieces
unless_alike n _ ps qs alike = alike (λ e. absurd (cc))

module _ (sight : Sight) where
  abbrev IsCalm : Wait → Type 0
  IsCalm w = sight.finds w.queue w.state ≡ calm_but sight.finds w.queue w.state

  from_alike : (more n count count' : ℕ) (Q : Queue) (h : Holder) (s : State) → sit Q h s (sight.finds Q s) ≡ sit Q h s (calm_but sight.finds Q s)
      → All IsCalm (waits_in (take n (pieces_from more sight count Q h s)) Q) → AreAlike n (pieces_from more sight count Q h s) (pieces_from more (calmed sight) count' Q h s)
  from_alike zero n count count' Q h s same calms = NoPieces
  from_alike (suc more) zero count count' Q h s same calms = LastPiece _ _ _ _ same
  from_alike (suc more) (suc n) count count' Q h s same calms =
      let p = piece_at sight count Q h s in
      let t = p.sitting in
      let Q' = run Q (all_entries t.batches) in
      let w : Wait = record { queue = Q'; state = t.next } in
      let rest = pieces_from more sight (count_then h.by (all_entries t.batches) count + length p.printed) Q' (holder_then Q h (all_entries t.batches)) t.next in
      let q = piece_at (calmed sight) count' Q h s in
      MorePieces p q _ _ same
      (subst (λ (u : Sitting). AreAlike n (unless_told t.next rest)
      (unless_told u.next (pieces_from more (calmed sight) (count_then h.by (all_entries u.batches) count' + length q.printed) (run Q (all_entries u.batches)) (holder_then Q h (all_entries u.batches)) u.next)))
      same
      (unless_alike n t.next rest _ (λ untold. from_alike more n _ _ Q' (holder_then Q h (all_entries t.batches)) t.next
      (ap (λ (f : Found). sit Q' (holder_then Q h (all_entries t.batches)) t.next f) (All-head IsCalm w (waits_in (take n (unless_told t.next rest)) Q') calms))
      (subst (λ (ps : List Piece). All IsCalm (waits_in (take n ps) Q')) (unless_not h.by t.next rest untold) (All-tail IsCalm w (waits_in (take n (unless_told t.next rest)) Q') calms)))))

-- WHAT IS LEFT, but what was printed

module _ (by : MemberId) where
  abbrev bare : Left → Left
  bare l = record l { printed = []; prints = 0; given = []; count = 0 }

  part_bare : (locked : Bool) (halt : Halt) (l m : Left) (p q : Piece) → bare l ≡ bare m → SameSitting p q → bare (adds_part by locked halt l p) ≡ bare (adds_part by locked halt m q)
  part_bare locked (Writing n b) l m p q e same =
      ap (λ (k : Left). bare (adds_part by locked (Writing n b) k (piece_of p.sitting false []))) e ∙ ap (λ (t : Sitting). bare (adds_part by locked (Writing n b) (bare m) (piece_of t false []))) same
  part_bare locked another l m p q e same =
      ap (λ (k : Left). bare (adds_part by locked another k (piece_of p.sitting false []))) e ∙ ap (λ (t : Sitting). bare (adds_part by locked another (bare m) (piece_of t false []))) same

  -- a line's pieces, whole or cut
  left_bare : (cut : Option Cut) (play : Play) (qs : List Piece) (c d : ℕ) → AreAlike (whole_pieces cut play.pieces) play.pieces qs → bare (left_by by cut play c) ≡ bare (left_by by cut (record play { pieces = qs }) d)
  left_bare cut play qs c d alike =
      left_alike by play SameSitting (λ (l m : Left). bare l ≡ bare m)
      (λ l m p q e same. ap (λ (k : Left). bare (adds by play.locked k (piece_of p.sitting false []))) e ∙ ap (λ (t : Sitting). bare (adds by play.locked (bare m) (piece_of t false []))) same)
      (part_bare play.locked) (λ why l m e. ap (λ (k : Left). record k { book = stopped_by by why k.book }) e) cut qs c d alike refl

-- the scene with other counts of printed lines, and other prints before stops that are armed
abbrev but_prints : Scene → Counts → List Armed → Scene
but_prints S c armed = record S { counts = c; armed = armed }

-- they show the same, and leave scenes that differ in these alone
pub record ShowSame (p q : Played) : Type 0 where
  pub show : shown p.outcome ≡ shown q.outcome
  pub goes : p.goes_on ≡ q.goes_on
  pub counts : Counts
  pub armed : List Armed
  pub next : q.next ≡ but_prints p.next counts armed

-- what a line found in the pieces that it played whole is what is found where nothing is lost
abbrev IsCalmLine : Scene → MemberId → ℕ → Sight → Admission → Type 0
IsCalmLine S by at sight a =
    let p = play_of S by at sight a in
    All (IsCalm sight) (waits_in (take (whole_pieces sight.cut p.pieces) p.pieces) p.queue)

module _ (S : Scene) (c : Counts) (armed : List Armed) (by : MemberId) (at : ℕ) (sight : Sight) where
  -- THE PIECES

  pieces_alike : (n : ℕ) (Q : Queue) (a : Admission) → All (IsCalm sight) (waits_in (take n (pieces_of S by at sight Q a)) Q) → AreAlike n (pieces_of S by at sight Q a) (pieces_of (but_prints S c armed) by at (calmed sight) Q a)
  pieces_alike n Q (Plays task) calms = from_alike sight (task_most task) n (S.counts by) (c by) Q (holder_of S by at (Plays task)) (Fresh task) refl calms
  pieces_alike n Q another calms = alike_same SameSitting (λ p. refl) n (pieces_of S by at sight Q another)

  -- A LINE OF A MEMBER

  play_alike : (a : Admission) → IsCalmLine S by at sight a → let ps = (play_of S by at sight a).pieces in AreAlike (whole_pieces sight.cut ps) ps (play_of (but_prints S c armed) by at (calmed sight) a).pieces
  play_alike (Plays task) calms = found_alike S.flight calms where
    found_alike : (flight : Option (List Entry)) → let ps = once_found flight (pieces_of S by at sight S.queue (Plays task)) in All (IsCalm sight) (waits_in (take (whole_pieces sight.cut ps) ps) S.queue)
        → AreAlike (whole_pieces sight.cut ps) ps (once_found flight (pieces_of (but_prints S c armed) by at (calmed sight) S.queue (Plays task)))
    found_alike None calms = pieces_alike _ S.queue (Plays task) calms
    found_alike (Some es) calms = NoPieces
  play_alike another calms = alike_same SameSitting (λ p. refl) _ (play_of S by at sight another).pieces

  -- what a line with this play leaves
  as_same : (a : Admission) → IsCalmLine S by at sight a → ShowSame (played_as S by at sight a) (played_as (but_prints S c armed) by at (calmed sight) a)
  as_same a calms =
      let play : Play = play_of S by at sight a in
      let other : Play = play_of (but_prints S c armed) by at (calmed sight) a in
      let left : Left = left_by by sight.cut other (c by) in
      let e : bare by (left_by by sight.cut play (S.counts by)) ≡ bare by left = left_bare by sight.cut play other.pieces (S.counts by) (c by) (play_alike a calms) in
      record {
        show = ap (λ (l : Left). (l.batches, map (said_by play.sayer) l.lines ++ stopped_lines by at (cause_of sight.cut))) e;
        goes = refl;
        counts = with_count by left.count c;
        armed = counted by left.prints armed;
        next = ap (λ (l : Left). record (but_prints S (with_count by left.count c) (counted by left.prints armed)) { queue = run play.queue (kept_in l.batches); book = l.book; flight = flight_then (flying_in l.batches) play.flight }) (sym e);
      }

  -- a line of a member that is up
  up_same : (up : Bool) (N : Scene) (more : List Armed) → ShowSame (if up then silent N else silent S) (if up then silent (but_prints N c more) else silent (but_prints S c armed))
  up_same true N more = record { show = refl; goes = refl; counts = c; armed = more; next = refl }
  up_same false N more = record { show = refl; goes = refl; counts = c; armed = armed; next = refl }

-- LINES, each of which shows the same that was played, however much was printed before

abbrev IsShownSame : LineAt → Type 0
IsShownSame l = (c : Counts) (armed : List Armed) → ShowSame (played_at l) (played (but_prints l.scene c armed) l.number (calmed l.given.sight) l.step)

-- what is calm already stays
first_sight : (gs : List Given) → get_or (map calmed (sights_of gs)) 0 clear ≡ calmed (given_first gs).sight
first_sight [] = let calm_stays : calm_but calm ≡ calm = λ i Q s. of_if (λ (f : Found). f ≡ calm Q s) (on_line s) (calm Q s) (calm Q s) (λ is. refl) (λ is. refl) i in ap (λ (finds : Finds). record clear { finds = finds }) (sym calm_stays)
first_sight (g ∷ gs) = refl

rest_sights : (gs : List Given) → drop 1 (map calmed (sights_of gs)) ≡ map calmed (sights_of (drop 1 gs))
rest_sights [] = refl
rest_sights (g ∷ gs) = refl

if_same : (b : Bool) {R : Type 0} (os qs : List Outcome) → RightIf b R → (R → map shown os ≡ map shown qs) → map shown (outcomes_if b os) ≡ map shown (outcomes_if b qs)
if_same true os qs right same = same right
if_same false os qs right same = refl

lines_same : (gs : List Given) (steps : List Step) (S : Scene) (c : Counts) (armed : List Armed) (at : ℕ) → AreEach IsShownSame S at gs steps
    → map shown (outcomes_with S at gs steps) ≡ map shown (outcomes_from (but_prints S c armed) at (map calmed (sights_of gs)) steps)
lines_same gs [] S c armed at calms = refl
lines_same gs (step ∷ steps) S c armed at calms =
    let p = line_with S at (given_first gs) step in
    let same : ShowSame p (played (but_prints S c armed) at (get_or (map calmed (sights_of gs)) 0 clear) step) = subst (λ (x : Sight). ShowSame p (played (but_prints S c armed) at x step)) (sym (first_sight gs)) (calms.0 c armed) in
    rw (rest_sights gs, same.next, ← same.show, ← same.goes)
    (ap (λ (os : List Shown). shown p.outcome ∷ os) (if_same p.goes_on (outcomes_with p.next (at + 1) (drop 1 gs) steps) (outcomes_from (but_prints p.next same.counts same.armed) (at + 1) (map calmed (sights_of (drop 1 gs))) steps) calms.1
    (λ more. lines_same (drop 1 gs) steps p.next same.counts same.armed (at + 1) more)))

-- what didn't fail in a run didn't fail in a part of it
none_within : (steps : List Step) (old mid new late : View) → Proceeds old mid → Proceeds new late → NoneFailed steps old late → NoneFailed steps mid new
none_within steps old mid new late before after none =
    let within : (p : Part) → (Rose (old.faults p) (late.faults p) → ⊥) → Rose (mid.faults p) (new.faults p) → ⊥ = λ p still rose. still (omega (arith, before.faults p, rose, after.faults p)) in record {
      volumes = λ n. within (Disk (Spool n)) (none.volumes n);
      printers = All-weaker (λ (s : Step). Rose (old.faults (Printer s.by)) (late.faults (Printer s.by)) → ⊥) (λ (s : Step). Rose (mid.faults (Printer s.by)) (new.faults (Printer s.by)) → ⊥) (λ s. within (Printer s.by)) steps none.printers;
    }

-- A LINE

module _ (S : Scene) (by : MemberId) (at : ℕ) (g : Given) (old new : View) (volumes : (n : ℕ) → Rose (old.faults (Disk (Spool n))) (new.faults (Disk (Spool n))) → ⊥)
    (printer : Rose (old.faults (Printer by)) (new.faults (Printer by)) → ⊥) where
  abbrev line : Ask → LineAt
  line what = record { scene = S; number = at; step = record { by = by; what = what }; given = g }

  as_shown : (what : Ask) (a : Admission) → ArePiecesOf S by at a g → IsHonestAs (line what) a g.sight.cut old new → (c : Counts) (armed : List Armed)
      → ShowSame (played_with S by at a g) (played_as (but_prints S c armed) by at (calmed g.sight) a)
  as_shown what a right honest c armed =
      let Q = queue_met S a g.sight in
      let finds = g.sight.finds in
      subst (λ (p : Played). ShowSame p (played_as (but_prints S c armed) by at (calmed g.sight) a)) (sym (ap (λ (ps : List Piece). played_with S by at a (record { sight = g.sight; pieces = ps })) right))
      (as_same S c armed by at g.sight a (All-weaker (λ (w : Wait). IsFoundAt S.queue.config.groups by old new w.queue w.state (finds w.queue w.state)) (IsCalm g.sight)
      (λ w is. found_calm S.queue.config.groups by old new volumes printer finds w.queue w.state is) _
      (subst (λ (qs : List Piece). All (λ (w : Wait). IsFoundAt S.queue.config.groups by old new w.queue w.state (finds w.queue w.state)) (waits_in (take (whole_pieces g.sight.cut qs) qs) Q))
      (ap (λ (ps : List Piece). pieces_found (is_locked a) (flight_met S a g.sight) ps) right) honest)))

  ask_shown : (what : Ask) → IsAskRight S by at g what → IfOfMember what (IsHonest (line what) old new) → IsShownSame (line what)
  ask_shown Stop right honest c armed = up_same S c armed by at g.sight (is_up S by) (record S { book = after_stop S.book by }) armed
  ask_shown (StopIn fuse n) right honest c armed = let a : Armed = record { member = by; fuse = fuse; left = n } in up_same S c armed by at g.sight (is_up S by) (record S { armed = S.armed ++ a ∷ [] }) (armed ++ a ∷ [])
  ask_shown (Lose dev) right honest c armed = record { show = refl; goes = refl; counts = c; armed = armed; next = refl }
  ask_shown another right honest c armed = as_shown another (admitted S.queue.config S.book by another) right honest c armed

-- LINES

calm_line : (last : View) (h : Here) (g : Given) (step : Step) (steps : List Step) (there : There) → NoneFailed (step ∷ steps) h.view last → IsNext (Unit {0}) h g step there → Proceeds there.view last
    → IsShownSame (line_of h g step) × NoneFailed steps there.view last
calm_line last h g step steps there none next goes =
    let ones = λ (old new : View) (s : Step). Rose (old.faults (Printer s.by)) (new.faults (Printer s.by)) → ⊥ in
    let here = none_within (step ∷ steps) h.view h.view there.view last (proceeds_none h.view) goes none in
    let later = none_within (step ∷ steps) h.view there.view last last next.passed.goes (proceeds_none last) none in (
      ask_shown h.scene step.by h.number g h.view there.view here.volumes (All-head (ones h.view there.view) step steps here.printers) step.what (next.passed.given.right tt) (next.passed.honest tt),
      record { volumes = later.volumes; printers = All-tail (ones there.view last) step steps later.printers },
    )

pub find_none : (told : Type 0) → FindNone told
find_none told t b e none p =
    let S = scene_of b.from in
    ap (λ os. map shown os) p.did_is
    ∙ lines_same p.given b.steps S S.counts S.armed 1
    (each_line (Unit {0}) IsShownSame (λ steps h. NoneFailed steps h.view e.view) (stops b e p.result) (calm_line e.view) (starts b) p.given b.steps e.many none p.passed)
