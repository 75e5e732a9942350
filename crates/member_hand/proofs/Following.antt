-- A piece of a step that is whole, and the step from there on, are the step.
use Rattle.std.proofs.Common.{◌≡◌, ◌≢◌, ⊎_elim, inl, ◌||◌, Bool, ℕ, zero, suc, ◌+◌, ◌≤◌, ◌<◌, List, [], ◌∷◌, ◌++◌, length, take, All, Option, Some, None, Result, Ok, Err, IfErr, append_assoc, append-nil, refl, sym, ap, ◌∙◌, subst, arith}
use Rattle.std.proofs.lemmas.List.Elements.{All-cons, All-head, All-nil, All-tail}
use Rattle.mas_types.specs.declared.ids.MemberId.{MemberId}
use Rattle.mas_types.specs.declared.journals.Batch.{Batch}
use Rattle.mas_types.specs.declared.journals.Entry.{Entry}
use Rattle.mas_types.specs.declared.ids.GroupNo.{GroupNo}
use Rattle.mas_types.specs.declared.queues.Config.{Config}
use Rattle.mas_types.specs.declared.queues.Queue.{Queue}
use Rattle.mas_types.specs.declared.jobs.Text.{Text}
use Rattle.mas_types.specs.Run.{run}
use Rattle.spool_plant.specs.View.{Line, View, given_now, paper_now}
use Rattle.mas_types.specs.declared.ids.Dev.TheVariants.{Spool}
use Rattle.mas_types.specs.declared.queues.Thing.TheVariants.{Deck, Output as OutputThing}
use Rattle.spool_plant.specs.declared.plant.Part.{Part}
use Rattle.spool_plant.specs.declared.plant.Part.TheVariants.{Disk as DiskPart, Printer, Wire}
use Rattle.spool_plant.specs.Acts.{Goes, Rose}
use Rattle.track_groups.specs.Places.{groups_of}
use Rattle.spool_plant.specs.declared.plant.Plant.{Ghosts as PlantGhosts}
use Rattle.ckpt_copy.specs.declared.copying.Copying.{Ghosts as CopyGhosts}
use Rattle.ckpt_copy.specs.Moments.{goes_none}
use Rattle.mas_complex.specs.Paper.{SamePapers, counts_of}
use Rattle.mas_complex.specs.Parts.{Parts}
use Rattle.member_node.specs.declared.member.NodeNo.{NodeNo}
use Rattle.member_node.specs.Calls.{IsOnlyOn, VolumesStay, console_now}
use Rattle.member_node.proofs.CourseLemmas.{only_on, papers_on, rose_later, rose_more, stay_both, stay_more}
use Rattle.member_node.proofs.SpareLemmas.{spares_then}
use Rattle.member_decks.proofs.OpenLemmas.{on_ok}
use Rattle.member_steps.proofs.KeepLemmas.{causes_then}
use Rattle.job_outcome.specs.declared.outcomes.Read.{Read}
use Rattle.job_outcome.specs.declared.outcomes.Read.TheVariants.{Gone, Lines, Lost}
use Rattle.member_work.specs.Rounds.{HasFailed, HasPrinterFailed, IsReadAs, IsSpoolLost}
use Rattle.step_turns.specs.Courses.{hold_then, holder_then, sittings_most}
use Rattle.step_turns.specs.Entries.{all_entries}
use Rattle.step_turns.specs.Sittings.{Sitting, sit}
use Rattle.step_turns.specs.declared.states.Aside.{Aside}
use Rattle.step_turns.specs.declared.states.Aside.TheVariants.{Acknowledge, Exchange, PrintLines, ReadText, SpoolArrival, SpoolDeck, SpoolOutputs}
use Rattle.step_turns.specs.declared.states.Found.{Found}
use Rattle.step_turns.specs.declared.states.Holder.{Holder}
use Rattle.step_turns.specs.declared.states.State.{State}
use Rattle.step_turns.specs.declared.states.State.TheVariants.{Away, Fresh, Rested, Told}
use Rattle.step_turns.specs.declared.states.Task.TheVariants.{Deck as DeckTask, Give, Line as LineTask, Work}
use Rattle.step_turns.specs.Laws.{units_done, units_left}
use Rattle.run_turns.specs.Cuts.{adds_all, left_by, none_left}
use Rattle.run_turns.specs.Pieces.{Piece, Play, piece_at, pieces_from, unless_told}
use Rattle.run_turns.specs.Scenes.{Batched, count_then}
use Rattle.run_turns.specs.Sights.{Cut, Halt, Sight}
use Rattle.run_turns.proofs.Locks.{entries_kept}
use Rattle.step_turns.proofs.Sittings.{some_may_follow, steps_end}
use Rattle.member_sittings.specs.Asides.{lowest_groups}
use Rattle.member_sittings.specs.Sat.{Start, journal_of}
use Rattle.member_sittings.specs.Tight.{IfNoWork}
use Rattle.member_frames.specs.Asides.{lowest_for}
use Rattle.member_sittings.specs.Whole.{queue_of}
use Rattle.member_wires.specs.Acts.{HasLineFailed}
use Rattle.member_hand.specs.Cuts.{AreBatched, AtCut, IsBetweenSittings, IsBroken, IsCutBy, IsTight, whole_pieces}
use Rattle.member_hand.specs.Found.{AreFoundIn, FindsWritten, IsFoundAt, Wait, named_in, names_found, waits_in}
use Rattle.member_hand.specs.Hears.{GivesOnly, HearsIn, HearsStep, ReaderStaysFrom, ReaderStaysIn, TakesNothing, line_served}
use Rattle.member_hand.proofs.Passages.{or_none, passage_then}
use Rattle.member_hand.specs.Plays.{HasActedIn, HasCut, HasPieced, HasPlayed, HasToldPiece, HasToldStep, IfCommand, IsOwnPiece, IsPiece, Leaves, Writes, left_of, one_left, piece_with, pieces_at, play_in}
use Rattle.member_hand.specs.Shapes.{AreShaped}
use Rattle.member_hand.specs.Sits.{ComesTo}
use Rattle.member_hand.proofs.Adding.{Follows, after_one, piece_then}
use Rattle.member_hand.proofs.Batching.{batched_then}
use Rattle.member_hand.proofs.Serving.{StaysOn, same_line}
use Rattle.member_hand.proofs.Wiring.{gives_then, hears_in, takes_none, takes_then}
use Rattle.member_hand.proofs.StepKinds.{both_silent, hears_first, if_all, no_exchange, no_task, of_hears_in, of_hears_step, of_stays_from, of_stays_in, stays_from}
use Rattle.member_hand.proofs.Shaping.{shaped_then}
use Rattle.member_hand.proofs.Fuel.{finds_here, finds_later, loses_ink, no_more}
use Rattle.member_hand.proofs.Sighting.{first_and_more, piece_now, sight_then}

-- THE CUT

cut_later : (r : Result (Unit {0}) NodeNo) (p : Piece) (ps : List Piece) (cut : Option Cut) → IsCutBy r ps cut → IsCutBy r (p ∷ ps) (after_one cut)
cut_later (Ok done) p ps cut is = ap after_one is
cut_later (Err e) p ps None is = absurd is
cut_later (Err e) p ps (Some cut) is = let there = is.there in record { there = omega (arith, there); halt = is.halt; cause = is.cause }

between_later : (cut : Option Cut) → IsBetweenSittings (after_one cut) → IsBetweenSittings cut
between_later None is = is
between_later (Some cut) is = is

whole_later : (cut : Option Cut) (p : Piece) (ps : List Piece) → whole_pieces (after_one cut) (p ∷ ps) ≡ suc (whole_pieces cut ps)
whole_later None p ps = refl
whole_later (Some cut) p ps = refl

-- WHAT IS SAID OF THE SITTING THAT WAS CUT

at_later : (Q : Halt → Sitting → Type 0) (cut : Option Cut) (p : Piece) (ps : List Piece) → AtCut Q cut ps → AtCut Q (after_one cut) (p ∷ ps)
at_later Q None p ps is = tt
at_later Q (Some cut) p ps is = is

-- WHERE NO PIECE WAS PLAYED nothing was given

nothing_given : (by : MemberId) (play : Play) (count : ℕ) (r : Result (Unit {0}) NodeNo) (cut : Option Cut) → play.pieces ≡ [] → IsCutBy r play.pieces cut → (left_by by cut play count).given ≡ []
nothing_given by play count r None none is = ap (λ (ps : List Piece). (adds_all by play.locked (none_left by play.book count) ps).given) none
nothing_given by play count (Ok done) (Some cut) none is = absurd (cc)
nothing_given by play count (Err e) (Some cut) none is = let there = is.there in let few : length play.pieces ≡ 0 = ap length none in absurd (omega (arith, there, few))

-- and where no line is served nobody gave anything
told_gives : (by : MemberId) (served : Option ℕ) (v v' : View) (bytes : List ℕ) → GivesOnly by None bytes v v' → GivesOnly by served [] v v'
told_gives by served v v' bytes gives = record {
  given = λ l is. gives.else_given l by.0 (inl (λ none. absurd (cc))) ∙ sym (append-nil (given_now v l by.0));
  else_given = λ l m other. gives.else_given l m (inl (λ none. absurd (cc)));
  else_taken = λ l m other. gives.else_taken l m (inl (λ none. absurd (cc)));
}

if_err : (r : Result (Unit {0}) NodeNo) (A B : NodeNo → Type 0) → ((e : NodeNo) → A e → B e) → IfErr r A → IfErr r B
if_err (Ok done) A B f a = tt
if_err (Err e) A B f a = f e a

-- A step that doesn't work comes to none that works, and a command's is told then.

both_dry : (s n : State) (A B D : Type 0) → ComesTo s n → (A → B → D) → IfNoWork s A → IfNoWork n B → IfNoWork s D
both_dry (Fresh (Work k)) n A B D comes f a b = tt
both_dry (Fresh (LineTask l)) n A B D comes f a b = tt
both_dry (Away (Exchange l offer)) n A B D comes f a b = tt
both_dry (Away (SpoolArrival number job cards service)) n A B D comes f a b = tt
both_dry (Away (Acknowledge number service)) n A B D comes f a b = tt
both_dry (Away (ReadText runs k fields p)) n A B D comes f a b = tt
both_dry (Away (SpoolOutputs k specs p)) n A B D comes f a b = tt
both_dry (Away (PrintLines k i last p)) n A B D comes f a b = tt
both_dry (Rested p) n A B D comes f a b = tt
both_dry (Fresh (Give c)) Told A B D comes f a b = f a b
both_dry (Fresh (Give c)) (Fresh task) A B D comes f a b = absurd comes
both_dry (Fresh (Give c)) (Rested q) A B D comes f a b = absurd comes
both_dry (Fresh (Give c)) (Away (SpoolDeck j cards)) A B D comes f a b = absurd comes
both_dry (Fresh (Give c)) (Away (ReadText other j those q)) A B D comes f a b = absurd comes
both_dry (Fresh (Give c)) (Away (SpoolOutputs j those q)) A B D comes f a b = absurd comes
both_dry (Fresh (Give c)) (Away (PrintLines j i last q)) A B D comes f a b = absurd comes
both_dry (Fresh (Give c)) (Away (Exchange l offer)) A B D comes f a b = absurd comes
both_dry (Fresh (Give c)) (Away (SpoolArrival number job cards service)) A B D comes f a b = absurd comes
both_dry (Fresh (Give c)) (Away (Acknowledge number service)) A B D comes f a b = absurd comes
both_dry (Fresh (DeckTask fields text)) Told A B D comes f a b = f a b
both_dry (Fresh (DeckTask fields text)) (Fresh task) A B D comes f a b = absurd comes
both_dry (Fresh (DeckTask fields text)) (Rested q) A B D comes f a b = absurd comes
both_dry (Fresh (DeckTask fields text)) (Away (SpoolDeck j cards)) A B D comes f a b = f a b
both_dry (Fresh (DeckTask fields text)) (Away (ReadText other j those q)) A B D comes f a b = absurd comes
both_dry (Fresh (DeckTask fields text)) (Away (SpoolOutputs j those q)) A B D comes f a b = absurd comes
both_dry (Fresh (DeckTask fields text)) (Away (PrintLines j i last q)) A B D comes f a b = absurd comes
both_dry (Fresh (DeckTask fields text)) (Away (Exchange l offer)) A B D comes f a b = absurd comes
both_dry (Fresh (DeckTask fields text)) (Away (SpoolArrival number job cards service)) A B D comes f a b = absurd comes
both_dry (Fresh (DeckTask fields text)) (Away (Acknowledge number service)) A B D comes f a b = absurd comes
both_dry (Away (SpoolDeck k text)) Told A B D comes f a b = f a b
both_dry (Away (SpoolDeck k text)) (Fresh task) A B D comes f a b = absurd comes
both_dry (Away (SpoolDeck k text)) (Rested q) A B D comes f a b = absurd comes
both_dry (Away (SpoolDeck k text)) (Away (SpoolDeck j cards)) A B D comes f a b = absurd comes
both_dry (Away (SpoolDeck k text)) (Away (ReadText other j those q)) A B D comes f a b = absurd comes
both_dry (Away (SpoolDeck k text)) (Away (SpoolOutputs j those q)) A B D comes f a b = absurd comes
both_dry (Away (SpoolDeck k text)) (Away (PrintLines j i last q)) A B D comes f a b = absurd comes
both_dry (Away (SpoolDeck k text)) (Away (Exchange l offer)) A B D comes f a b = absurd comes
both_dry (Away (SpoolDeck k text)) (Away (SpoolArrival number job cards service)) A B D comes f a b = absurd comes
both_dry (Away (SpoolDeck k text)) (Away (Acknowledge number service)) A B D comes f a b = absurd comes
both_dry Told Told A B D comes f a b = f a b
both_dry Told (Fresh task) A B D comes f a b = absurd comes
both_dry Told (Rested q) A B D comes f a b = absurd comes
both_dry Told (Away (SpoolDeck j cards)) A B D comes f a b = absurd comes
both_dry Told (Away (ReadText other j those q)) A B D comes f a b = absurd comes
both_dry Told (Away (SpoolOutputs j those q)) A B D comes f a b = absurd comes
both_dry Told (Away (PrintLines j i last q)) A B D comes f a b = absurd comes
both_dry Told (Away (Exchange l offer)) A B D comes f a b = absurd comes
both_dry Told (Away (SpoolArrival number job cards service)) A B D comes f a b = absurd comes
both_dry Told (Away (Acknowledge number service)) A B D comes f a b = absurd comes

both_still : (s n : State) (A B D : Type 0) → ComesTo s n → (A → B → D) → IfCommand s A → IfCommand n B → IfCommand s D
both_still (Fresh (DeckTask fields text)) n A B D comes f a b = tt
both_still (Fresh (Work k)) n A B D comes f a b = tt
both_still (Fresh (LineTask l)) n A B D comes f a b = tt
both_still (Away aside) n A B D comes f a b = tt
both_still (Rested p) n A B D comes f a b = tt
both_still (Fresh (Give c)) Told A B D comes f a b = f a b
both_still (Fresh (Give c)) (Fresh task) A B D comes f a b = absurd comes
both_still (Fresh (Give c)) (Rested q) A B D comes f a b = absurd comes
both_still (Fresh (Give c)) (Away (SpoolDeck j cards)) A B D comes f a b = absurd comes
both_still (Fresh (Give c)) (Away (ReadText other j those q)) A B D comes f a b = absurd comes
both_still (Fresh (Give c)) (Away (SpoolOutputs j those q)) A B D comes f a b = absurd comes
both_still (Fresh (Give c)) (Away (PrintLines j i last q)) A B D comes f a b = absurd comes
both_still (Fresh (Give c)) (Away (Exchange l offer)) A B D comes f a b = absurd comes
both_still (Fresh (Give c)) (Away (SpoolArrival number job cards service)) A B D comes f a b = absurd comes
both_still (Fresh (Give c)) (Away (Acknowledge number service)) A B D comes f a b = absurd comes
both_still Told Told A B D comes f a b = f a b
both_still Told (Fresh task) A B D comes f a b = absurd comes
both_still Told (Rested q) A B D comes f a b = absurd comes
both_still Told (Away (SpoolDeck j cards)) A B D comes f a b = absurd comes
both_still Told (Away (ReadText other j those q)) A B D comes f a b = absurd comes
both_still Told (Away (SpoolOutputs j those q)) A B D comes f a b = absurd comes
both_still Told (Away (PrintLines j i last q)) A B D comes f a b = absurd comes
both_still Told (Away (Exchange l offer)) A B D comes f a b = absurd comes
both_still Told (Away (SpoolArrival number job cards service)) A B D comes f a b = absurd comes
both_still Told (Away (Acknowledge number service)) A B D comes f a b = absurd comes

tight_later : (r : Result (Unit {0}) NodeNo) (s n : State) → ComesTo s n → (cut : Option Cut) (p : Piece) (ps : List Piece) → IfNoWork n (IfErr r (λ e. AtCut (IsTight e) cut ps)) → IfNoWork s (IfErr r (λ e. AtCut (IsTight e) (after_one cut) (p ∷ ps)))
tight_later r s n comes cut p ps is =
    both_dry s n (Unit {0}) (IfErr r (λ e. AtCut (IsTight e) cut ps)) (IfErr r (λ e. AtCut (IsTight e) (after_one cut) (p ∷ ps))) comes
    (λ u a. if_err r (λ e. AtCut (IsTight e) cut ps) (λ e. AtCut (IsTight e) (after_one cut) (p ∷ ps)) (λ e b. at_later (IsTight e) cut p ps b) a) (if_all s (Unit {0}) tt) is

module _ {P C : Type 0} (plants : PlantGhosts P) (copies : CopyGhosts C) where
  abbrev v : Parts P C → View
  v x = plants.view x.plant

  -- WHAT IS LEFT OF THE STEP

  pub acts_then : (by : MemberId) (x y z : Parts P C) (r : Result (Unit {0}) NodeNo) → HasActedIn plants copies by x y (Ok tt) → HasActedIn plants copies by y z r → HasActedIn plants copies by x z r
  acts_then by x y z r one two = record {
    course = passage_then x.first_alive y.first_alive z.first_alive x.second_alive y.second_alive z.second_alive (v x) (v y) (v z) one.course two.course;
    loses = λ t d. two.loses t d ∙ one.loses t d;
    spares = spares_then by.0 _ (v x) (v y) (v z) one.spares two.spares;
    cause = causes_then r by.0 x.first_alive y.first_alive z.first_alive x.second_alive y.second_alive z.second_alive (v x) (v y) (v z) one.cause one.course.goes two.cause;
    notes = λ m other. two.notes m other ∙ one.notes m other;
  }

  module _ (s : Start) (p : Piece) (x y : Parts P C) (found : Found) (between : y.batches ≡ journal_of y)
      (one : IsPiece plants copies s p x y (record { holder = holder_then x.base s.holder (all_entries p.sitting.batches); state = p.sitting.next; found = found })) where
    abbrev by : MemberId
    by = s.holder.by

    abbrev h : Holder
    h = holder_then x.base s.holder (all_entries p.sitting.batches)

    module _ (z : Parts P C) (r : Result (Unit {0}) NodeNo) (ps : List Piece) (cut : Option Cut) (goes : Goes (v x) (v y)) (more : Goes (v y) (v z)) where
      pub it_follows : Follows (counts_of y.printed by ≡ (one_left plants copies by p x).count) (one_left plants copies by p x) (left_of plants copies by cut ps y) (left_of plants copies by (after_one cut) (p ∷ ps) x)
      it_follows = piece_then by cut p ps x.book y.book (queue_of x) (queue_of y) (counts_of x.printed by) (counts_of y.printed by) one.leaves.book

      leaves_then : Leaves plants copies by (left_of plants copies by cut ps y) y z → Leaves plants copies by (left_of plants copies by (after_one cut) (p ∷ ps) x) x z
      leaves_then two =
          let f = it_follows in
          record {
            more = one.leaves.more ++ two.more;
            journal = two.journal ∙ ap (λ (bs : List Batch). bs ++ two.more) (between ∙ one.leaves.journal) ∙ append_assoc x.batches one.leaves.more two.more;
            batches = subst (λ (bs : List Batched). AreBatched by (v x).now (v z).now bs (one.leaves.more ++ two.more)) (sym f.batches)
                (batched_then by (v x).now (v y).now (v z).now p.sitting.batches one.leaves.more (left_of plants copies by cut ps y).batches two.more goes.later more.later one.leaves.batches two.batches);
            book = two.book ∙ sym f.book;
          }

      pub cut_then : HasCut plants copies h ps cut y z r → HasCut plants copies s.holder (p ∷ ps) (after_one cut) x z r
      cut_then two = record { of = All-cons (IsOwnPiece by s.holder.step) p ps one.of two.of; by_answer = cut_later r p ps cut two.by_answer; leaves = leaves_then two.leaves }

-- WHAT IS FOUND IN A STRETCH OF ACTS IS FOUND IN A LONGER ONE

module _ (per : ℕ) (old v0 v1 new : View) (before : Goes old v0) (after : Goes v1 new) where
  rose_in : (part : Part) → Rose (v0.faults part) (v1.faults part) → Rose (old.faults part) (new.faults part)
  rose_in part rose =
      rose_later (old.faults part) (v0.faults part) (new.faults part) (before.faults part)
      (rose_more (v0.faults part) (v1.faults part) (new.faults part) rose (after.faults part))

  failed_in : (groups : List GroupNo) (volume : ℕ) → HasFailed per groups volume v0 v1 → HasFailed per groups volume old new
  failed_in groups volume f =
      record { there = f.there; lost = after.lost (DiskPart (Spool volume)) f.lost; rose = rose_in (DiskPart (Spool volume)) f.rose }

  lost_in : (groups : List GroupNo) (lost : Option ℕ) → IsSpoolLost per groups lost v0 v1 → IsSpoolLost per groups lost old new
  lost_in groups None f = f
  lost_in groups (Some volume) f = failed_in groups volume f

  read_in : (told : Type 0) (text : Text) (groups : List GroupNo) (r : Read) → IsReadAs told per (text, groups) (Some r) v0 v1 → IsReadAs told per (text, groups) (Some r) old new
  read_in told text groups (Lines lines) f = f
  read_in told text groups (Gone group) f = f
  read_in told text groups (Lost volume) f = (f.0, failed_in groups volume f.1)

  printer_in : (by : MemberId) → HasPrinterFailed by v0 v1 → HasPrinterFailed by old new
  printer_in by f = record { lost = after.lost (Printer by) f.lost; rose = rose_in (Printer by) f.rose }

  line_in : (l : ℕ) → HasLineFailed l v0 v1 → HasLineFailed l old new
  line_in l f = record { lost = after.lost (Wire l) f.lost; rose = rose_in (Wire l) f.rose }

  written_in : (groups : List GroupNo) (found : Found) → FindsWritten per groups found v0 v1 → FindsWritten per groups found old new
  written_in groups found f = record { only = f.only; lost = lost_in groups found.lost f.lost }

  aside_in : (by : MemberId) (Q : Queue) (a : Aside) (found : Found) → IsFoundAt per by v0 v1 Q (Away a) found → IsFoundAt per by old new Q (Away a) found
  aside_in by Q (SpoolDeck n text) found f = written_in (lowest_groups by Q.owners text) found f
  aside_in by Q (SpoolOutputs n specs p) found f = written_in (lowest_for by Q.owners specs) found f
  aside_in by Q (ReadText runs n fields p) found f =
      record { only = f.only; job = f.job; there = f.there; as_had = read_in (Unit {0}) f.job.text (groups_of (Deck n) Q.owners) found.read f.as_had }
  aside_in by Q (PrintLines n i last p) found f = record {
    only = f.only;
    lost = λ e. printer_in by (f.lost e);
    output = f.output;
    there = f.there;
    as_had = read_in (Unit {0}) f.output.text (groups_of (OutputThing n i) Q.owners) found.read f.as_had;
  }
  aside_in by Q (Exchange l None) found f = record { only = f.only; text = f.text; lost = λ e. line_in l (f.lost e); frames = f.frames }
  aside_in by Q (Exchange l (Some o)) found f = record {
    only = f.only;
    text = (f.text.0, f.text.1, read_in (Unit {0}) f.text.0.text (groups_of (Deck o.job) Q.owners) found.read f.text.2);
    lost = λ e. line_in l (f.lost e);
    frames = f.frames;
  }
  aside_in by Q (SpoolArrival number job cards service) found f = written_in (lowest_groups by Q.owners cards) found f
  aside_in by Q (Acknowledge number service) found f = record { only = f.only; lost = λ e. line_in service.line (f.lost e) }

  pub found_in : (by : MemberId) (Q : Queue) (s : State) (found : Found) → IsFoundAt per by v0 v1 Q s found → IsFoundAt per by old new Q s found
  found_in by Q (Away a) found f = aside_in by Q a found f
  found_in by Q (Fresh task) found f = f
  found_in by Q (Rested p) found f = f
  found_in by Q Told found f = f

-- WHERE A STEP WAITS LATER it has fewer sittings before it

abbrev AreFewer : ℕ → List Wait → Type 0
AreFewer most ws = All (λ w. sittings_most w.state < most) ws

none_fewer : (most j : ℕ) (S : Queue) → AreFewer most (waits_in (take j []) S)
none_fewer most zero S = All-nil _
none_fewer most (suc j) S = All-nil _

fewer_unless : (most j : ℕ) (s : State) (ps : List Piece) (S : Queue) → AreFewer most (waits_in (take j ps) S) → AreFewer most (waits_in (take j (unless_told s ps)) S)
fewer_unless most j (Fresh task) ps S all = all
fewer_unless most j (Away a) ps S all = all
fewer_unless most j (Rested p) ps S all = all
fewer_unless most j Told ps S all = none_fewer most j S

pub waits_fewer : (most j k n : ℕ) (R : Sight) (Q S : Queue) (h : Holder) (s : State) → sittings_most s < most → AreFewer most (waits_in (take j (pieces_from k R n Q h s)) S)
waits_fewer most zero k n R Q S h s less = All-nil _
waits_fewer most (suc j) zero n R Q S h s less = All-nil _
waits_fewer most (suc j) (suc k) n R Q S h s less =
    let p = piece_at R n Q h s in
    let es = all_entries p.sitting.batches in
    let le = no_more Q h s (R.finds Q s) in
    let fewer : sittings_most p.sitting.next < most = omega (arith, less, le) in
    All-cons (λ w. sittings_most w.state < most) (record { queue = run S es; state = p.sitting.next })
    (waits_in (take j (unless_told p.sitting.next (pieces_from k R (count_then h.by es n + length p.printed) (run Q es) (holder_then Q h es) p.sitting.next))) (run S es))
    fewer
    (fewer_unless most j p.sitting.next (pieces_from k R (count_then h.by es n + length p.printed) (run Q es) (holder_then Q h es) p.sitting.next) (run S es)
    (waits_fewer most j k (count_then h.by es n + length p.printed) R (run Q es) (run S es) (holder_then Q h es) p.sitting.next fewer))

-- THE STEP

-- a stand after a piece, by what the piece says of it
abbrev next_start : {P C : Type 0} → Parts P C → Start → Piece → Found → Start
next_start x s p found = record { holder = holder_then x.base s.holder (all_entries p.sitting.batches); state = p.sitting.next; found = found }

module _ {P C : Type 0} (plants : PlantGhosts P) (copies : CopyGhosts C) (s : Start) (x y z : Parts P C) (pages : ℕ) (ne : s.state ≢ Told)
    (between : y.batches ≡ journal_of y) (base : y.base ≡ x.base) (config : (queue_of x).config ≡ x.base.config) where
  abbrev w : Parts P C → View
  w x = plants.view x.plant

  abbrev me : MemberId
  me = s.holder.by

  module _ (r : Result (Unit {0}) NodeNo) (n : Start) (goes : Goes (w x) (w y)) (later : Goes (w y) (w z)) where
    -- what is known of a piece, told in the words of what it says of the stand after it
    restated : (p : Piece) → IsPiece plants copies s p x y n → IsPiece plants copies s p x y (next_start x s p n.found)
    restated p one = record { state = refl; holder = refl; of = one.of; leaves = one.leaves }

    cut_restated : (p : Piece) → IsPiece plants copies s p x y n → (ps : List Piece) (cut : Option Cut) → HasCut plants copies n.holder ps cut y z r
        → HasCut plants copies s.holder (p ∷ ps) (after_one cut) x z r
    cut_restated p one ps cut two =
        cut_then plants copies s p x y n.found between (restated p one) z r ps cut goes later
        (subst (λ (h : Holder). HasCut plants copies h ps cut y z r) one.holder two)

    -- the pieces on every plant
    shaped_all : {was mid : Option (List ℕ)} → ComesTo s.state n.state → sittings_most n.state < sittings_most s.state → units_done n.state + units_left n.state ≤ units_done s.state + units_left s.state → (one : HasPieced plants copies s x y n was mid) (ps : List Piece)
        → AreShaped n.holder n.state n.found (w y) (w z) ps → AreShaped s.holder s.state s.found (w x) (w z) (one.piece ∷ ps)
    shaped_all comes falls units one ps rest =
        subst (λ (q : Piece). AreShaped s.holder s.state s.found (w x) (w z) (q ∷ ps)) (sym one.plain)
        (shaped_then s.holder (hold_then s.holder.grant x.base.config.hold s.holder.hold (length (all_entries one.piece.sitting.batches))) s.found n.found (w x) (w y) (w z) goes later one.failed one.piece.sitting ps
        s.state n.state ne (some_may_follow s.state ne) (sym one.one.state) comes falls units one.shaped
        (subst (λ (h : Holder). AreShaped h n.state n.found (w y) (w z) ps) one.one.holder rest))

    module _ (was mid is : Option (List ℕ)) (one : HasToldPiece plants copies s x y n) (two : HasToldStep plants copies n y z mid is r) where
      abbrev p : Piece
      p = one.piece

      abbrev most : ℕ
      most = sittings_most s.state

      abbrev sight : Sight
      sight = sight_then two.sight most s.found (loses_ink (sit (queue_of x) s.holder s.state s.found).next n.found) one.inked (after_one two.sight.cut)

      abbrev count : ℕ
      count = counts_of x.printed me

      abbrev t : Sitting
      t = sit (queue_of x) s.holder s.state s.found

      sits : p.sitting ≡ t
      sits = ap (λ (q : Piece). q.sitting) one.is

      state_is : n.state ≡ t.next
      state_is = one.one.state ∙ ap (λ (u : Sitting). u.next) sits

      queue_is : queue_of y ≡ run (queue_of x) (all_entries t.batches)
      queue_is = one.queue ∙ ap (λ (u : Sitting). run (queue_of x) (all_entries u.batches)) sits

      found_next : two.sight.finds (run (queue_of x) (all_entries t.batches)) t.next ≡ n.found
      found_next =
          ap (λ (Q : Queue). two.sight.finds Q t.next) (sym queue_is) ∙ ap (λ (u : State). two.sight.finds (queue_of y) u) (sym state_is) ∙ two.found

      -- the piece, as the pure words have it
      is_now : p ≡ piece_now count (queue_of x) s.holder t n.found one.inked
      is_now =
          one.is
          ∙ ap (λ (Q : Queue). piece_with plants copies t n.found one.inked (count_then me (all_entries p.sitting.batches) count) Q) queue_is
          ∙ ap (λ (u : Sitting). piece_with plants copies t n.found one.inked (count_then me (all_entries u.batches) count) (run (queue_of x) (all_entries t.batches))) sits

      -- the count after it
      counted : counts_of y.printed me ≡ count_then me (all_entries p.sitting.batches) count + length p.printed
      counted = one.writes.count ∙ ap (λ (es : List Entry). count_then me es count + length p.printed) (entries_kept p.sitting.batches)

      holder_is : n.holder ≡ holder_then (queue_of x) s.holder (all_entries p.sitting.batches)
      holder_is = one.one.holder ∙ ap (λ (c : Config). record s.holder { hold = hold_then s.holder.grant c.hold s.holder.hold (length (all_entries p.sitting.batches)) }) (sym config)

      pieces_are : pieces_at plants copies two.sight y n.holder n.state
          ≡ pieces_from (sittings_most p.sitting.next) two.sight (count_then me (all_entries p.sitting.batches) count + length p.printed) (run (queue_of x) (all_entries p.sitting.batches))
          (holder_then (queue_of x) s.holder (all_entries p.sitting.batches)) p.sitting.next
      pieces_are =
          ap (λ (h : Holder). pieces_from (sittings_most n.state) two.sight (counts_of y.printed h.by) (queue_of y) h n.state) holder_is
          ∙ ap (λ (u : State). pieces_from (sittings_most u) two.sight (counts_of y.printed me) (queue_of y) (holder_then (queue_of x) s.holder (all_entries p.sitting.batches)) u) one.one.state
          ∙ ap (λ (c : ℕ). pieces_from (sittings_most p.sitting.next) two.sight c (queue_of y) (holder_then (queue_of x) s.holder (all_entries p.sitting.batches)) p.sitting.next) counted
          ∙ ap (λ (Q : Queue). pieces_from (sittings_most p.sitting.next) two.sight (count_then me (all_entries p.sitting.batches) count + length p.printed) Q (holder_then (queue_of x) s.holder (all_entries p.sitting.batches)) p.sitting.next) one.queue

      its_pieces : p ∷ two.pieces ≡ pieces_at plants copies sight x s.holder s.state
      its_pieces =
          ap (λ (ps : List Piece). p ∷ ps) (two.is ∙ pieces_are)
          ∙ sym (first_and_more two.sight s.found n.found one.inked (after_one two.sight.cut) count (queue_of x) s.holder s.state ne found_next p is_now)

      -- what was found
      fewer : sittings_most p.sitting.next < most
      fewer = subst (λ (u : Sitting). sittings_most u.next < most) (sym sits) (steps_end (queue_of x) s.holder s.state s.found ne)

      found_now : n.found ≡ sight.finds (run (queue_of x) (all_entries p.sitting.batches)) p.sitting.next
      found_now =
          let now = run (queue_of x) (all_entries p.sitting.batches) in
          sym (finds_later most s.found two.sight.finds now p.sitting.next fewer
          ∙ ap (λ (Q : Queue). two.sight.finds Q p.sitting.next) (sym one.queue) ∙ ap (λ (u : State). two.sight.finds (queue_of y) u) (sym one.one.state) ∙ two.found)

      first_found : IsFoundAt x.base.config.groups me (w x) (w z) (run (queue_of x) (all_entries p.sitting.batches)) p.sitting.next
          (sight.finds (run (queue_of x) (all_entries p.sitting.batches)) p.sitting.next)
      first_found =
          let now = run (queue_of x) (all_entries p.sitting.batches) in
          let here : IsFoundAt x.base.config.groups me (w x) (w z) (queue_of y) n.state n.found =
          found_in x.base.config.groups (w x) (w x) (w y) (w z) (goes_none (w x)) later me (queue_of y) n.state n.found one.finds in
          subst (λ (f : Found). IsFoundAt x.base.config.groups me (w x) (w z) now p.sitting.next f) found_now
          (subst (λ (u : State). IsFoundAt x.base.config.groups me (w x) (w z) now u n.found) one.one.state
          (subst (λ (Q : Queue). IsFoundAt x.base.config.groups me (w x) (w z) Q n.state n.found) one.queue here))

      all_found : (ws : List Wait) → All (λ k. sittings_most k.state < most) ws → AreFoundIn x.base.config.groups me (w y) (w z) two.sight.finds ws
          → AreFoundIn x.base.config.groups me (w x) (w z) sight.finds ws
      all_found [] few all = All-nil _
      all_found (k ∷ ws) few all =
          All-cons (λ w. IsFoundAt x.base.config.groups me (plants.view x.plant) (plants.view z.plant) w.queue w.state (sight.finds w.queue w.state)) k ws
          (subst (λ (f : Found). IsFoundAt x.base.config.groups me (w x) (w z) k.queue k.state f) (sym (finds_later most s.found two.sight.finds k.queue k.state (All-head (λ w. sittings_most w.state < most) k ws few)))
          (found_in x.base.config.groups (w x) (w y) (w z) (w z) goes (goes_none (w z)) me k.queue k.state (two.sight.finds k.queue k.state) (All-head (λ w. IsFoundAt x.base.config.groups me (plants.view y.plant) (plants.view z.plant) w.queue w.state (two.sight.finds w.queue w.state)) k ws all)))
          (all_found ws (All-tail (λ w. sittings_most w.state < most) k ws few) (All-tail (λ w. IsFoundAt x.base.config.groups me (plants.view y.plant) (plants.view z.plant) w.queue w.state (two.sight.finds w.queue w.state)) k ws all))

      rest_few : All (λ k. sittings_most k.state < most) (waits_in (take (whole_pieces two.sight.cut two.pieces) two.pieces) (run (queue_of x) (all_entries p.sitting.batches)))
      rest_few =
          let now = run (queue_of x) (all_entries p.sitting.batches) in
          let j = whole_pieces two.sight.cut two.pieces in
          subst (λ (ps : List Piece). All (λ k. sittings_most k.state < most) (waits_in (take j ps) now)) (sym two.is)
          (waits_fewer most j (sittings_most n.state) (counts_of y.printed n.holder.by) two.sight (queue_of y) now n.holder n.state (subst (λ (u : State). sittings_most u < most) (sym one.one.state) fewer))

      rest_found : AreFoundIn x.base.config.groups me (w x) (w z) sight.finds (waits_in (take (whole_pieces two.sight.cut two.pieces) two.pieces) (run (queue_of x) (all_entries p.sitting.batches)))
      rest_found =
          let now = run (queue_of x) (all_entries p.sitting.batches) in
          let j = whole_pieces two.sight.cut two.pieces in
          all_found (waits_in (take j two.pieces) now)
          rest_few
          (subst (λ (Q : Queue). AreFoundIn x.base.config.groups me (w y) (w z) two.sight.finds (waits_in (take j two.pieces) Q)) one.queue
          (subst (λ (k : ℕ). AreFoundIn k me (w y) (w z) two.sight.finds (waits_in (take j two.pieces) (queue_of y))) (ap (λ (b : Queue). b.config.groups) base)
          (subst (λ (h : Holder). AreFoundIn y.base.config.groups h.by (w y) (w z) two.sight.finds (waits_in (take j two.pieces) (queue_of y))) one.one.holder two.finds)))

      -- the lines
      follow : Follows (counts_of y.printed me ≡ (one_left plants copies me p x).count) (one_left plants copies me p x) (left_of plants copies me two.sight.cut two.pieces y) (left_of plants copies me (after_one two.sight.cut) (p ∷ two.pieces) x)
      follow = it_follows plants copies s p x y n.found between (restated p one.one) z r two.pieces two.sight.cut goes later

      wrote : Writes plants copies me (left_of plants copies me two.sight.cut two.pieces y) y z r → Writes plants copies me (left_of plants copies me (after_one two.sight.cut) (p ∷ two.pieces) x) x z r
      wrote two_w =
          let f = follow in
          let a = one.writes in
          record {
            console = two_w.console ∙ ap (λ (ls : List Line). ls ++ (left_of plants copies me two.sight.cut two.pieces y).lines) a.console
                ∙ append_assoc (console_now (w x)) (one_left plants copies me p x).lines (left_of plants copies me two.sight.cut two.pieces y).lines ∙ ap (λ (ls : List Line). console_now (w x) ++ ls) (sym f.lines);
            paper = two_w.paper ∙ ap (λ (ls : List Line). ls ++ (left_of plants copies me two.sight.cut two.pieces y).printed) a.paper
                ∙ append_assoc (paper_now (w x) me.0) (one_left plants copies me p x).printed (left_of plants copies me two.sight.cut two.pieces y).printed ∙ ap (λ (ls : List Line). paper_now (w x) me.0 ++ ls) (sym f.printed);
            other_papers = λ m other. two_w.other_papers m other ∙ a.other_papers m other;
            count = on_ok r (λ c. c ∙ sym (f.count a.count)) two_w.count;
            other_counts = λ m other. two_w.other_counts m other ∙ a.other_counts m other;
          }

      -- the volumes that were found lost
      all_named : (ws : List Wait) → All (λ k. sittings_most k.state < most) ws → (m : ℕ) → named_in sight.finds ws m ≡ named_in two.sight.finds ws m
      all_named [] few m = refl
      all_named (k ∷ ws) few m =
          ap (λ (f : Found). names_found f m || named_in sight.finds ws m) (finds_later most s.found two.sight.finds k.queue k.state (All-head (λ w. sittings_most w.state < most) k ws few))
          ∙ ap (λ (b : Bool). names_found (two.sight.finds k.queue k.state) m || b) (all_named ws (All-tail (λ w. sittings_most w.state < most) k ws few) m)

      stay_all : VolumesStay (names_found n.found) (w x) (w y) → VolumesStay (named_in sight.finds (waits_in (take (whole_pieces (after_one two.sight.cut) (p ∷ two.pieces)) (p ∷ two.pieces)) (queue_of x))) (w x) (w z)
      stay_all first =
          let now = run (queue_of x) (all_entries p.sitting.batches) in
          let j = whole_pieces two.sight.cut two.pieces in
          let rest = waits_in (take j two.pieces) now in
          let both : ℕ → Bool = λ m. names_found (sight.finds now p.sitting.next) m || named_in sight.finds rest m in
          let here : VolumesStay (names_found (sight.finds now p.sitting.next)) (w x) (w y) = subst (λ (f : Found). VolumesStay (names_found f) (w x) (w y)) found_now first in
          let later_on : VolumesStay (named_in two.sight.finds rest) (w y) (w z) = subst (λ (Q : Queue). VolumesStay (named_in two.sight.finds (waits_in (take j two.pieces) Q)) (w y) (w z)) one.queue two.volumes in
          subst (λ (k : ℕ). VolumesStay (named_in sight.finds (waits_in (take k (p ∷ two.pieces)) (queue_of x))) (w x) (w z)) (sym (whole_later two.sight.cut p two.pieces))
          (stay_both both (w x) (w y) (w z)
          (stay_more (names_found (sight.finds now p.sitting.next)) both (w x) (w y) (λ m none. (or_none (names_found (sight.finds now p.sitting.next) m) (named_in sight.finds rest m) none).0) here)
          (stay_more (named_in two.sight.finds rest) both (w y) (w z) (λ m none. sym (all_named rest rest_few m) ∙ (or_none (names_found (sight.finds now p.sitting.next) m) (named_in sight.finds rest m) none).1) later_on))

      -- what was given on the line

      -- a step that is told leaves nothing
      left_none : n.state ≡ Told → (left_of plants copies me two.sight.cut two.pieces y).given ≡ []
      left_none told = nothing_given me (play_in me two.pieces y.book (queue_of y)) (counts_of y.printed me) r two.sight.cut (two.is ∙ ap (λ (u : State). pieces_at plants copies two.sight y n.holder u) told) two.cut.by_answer

      more_given : StaysOn (line_served s.state) n.state → GivesOnly me (line_served n.state) (left_of plants copies me two.sight.cut two.pieces y).given (w y) (w z)
          → GivesOnly me (line_served s.state) (left_of plants copies me two.sight.cut two.pieces y).given (w y) (w z)
      more_given on gives =
          ⊎_elim
          (λ told. subst (λ (bytes : List ℕ). GivesOnly me (line_served s.state) bytes (w y) (w z)) (sym (left_none told))
          (told_gives me (line_served s.state) (w y) (w z) (left_of plants copies me two.sight.cut two.pieces y).given (subst (λ (u : State). GivesOnly me (line_served u) (left_of plants copies me two.sight.cut two.pieces y).given (w y) (w z)) told gives)))
          (λ same. subst (λ (o : Option ℕ). GivesOnly me o (left_of plants copies me two.sight.cut two.pieces y).given (w y) (w z)) same gives) on

      gave : ComesTo s.state n.state → GivesOnly me (line_served s.state) (left_of plants copies me (after_one two.sight.cut) (p ∷ two.pieces) x).given (w x) (w z)
      gave comes =
          let on = subst (λ (u : State). StaysOn (line_served s.state) u) (sym state_is) (same_line (queue_of x) s.holder s.state s.found (subst (λ (u : State). ComesTo s.state u) state_is comes)) in
          let later_gives = more_given on (subst (λ (h : Holder). GivesOnly h.by (line_served n.state) (left_of plants copies h.by two.sight.cut two.pieces y).given (w y) (w z)) one.one.holder two.gives) in
          subst (λ (bytes : List ℕ). GivesOnly me (line_served s.state) bytes (w x) (w z)) (sym follow.given)
          (gives_then me (line_served s.state) p.given (left_of plants copies me two.sight.cut two.pieces y).given (w x) (w y) (w z) one.gives later_gives)

      -- and what was heard
      heard : ComesTo s.state n.state → HearsIn me (w x) (w y) was mid n.state n.found → ReaderStaysIn n.state was mid → ReaderStaysFrom n.state mid is
          → HearsStep me (w x) (w z) was is s.state r sight.finds (waits_in (take (whole_pieces (after_one two.sight.cut) (p ∷ two.pieces)) (p ∷ two.pieces)) (queue_of x))
      heard comes hears stays on =
          let now = run (queue_of x) (all_entries p.sitting.batches) in
          let j = whole_pieces two.sight.cut two.pieces in
          let ws = waits_in (take j two.pieces) (queue_of y) in
          let same : is ≡ mid = of_stays_from n.state mid is (no_task s.state n.state comes) on in
          let after : TakesNothing (w y) (w z) = of_hears_step me (w y) (w z) mid is n.state r two.sight.finds ws (no_task s.state n.state comes)
          (subst (λ (h : Holder). HearsStep h.by (w y) (w z) mid is n.state r two.sight.finds ws) one.one.holder two.hears) in
          let all : HearsIn me (w x) (w z) was is n.state n.found = hears_in me was mid is n.state n.found (w x) (w x) (w y) (w z) (takes_none (w x)) hears after same in
          subst (λ (k : ℕ). HearsStep me (w x) (w z) was is s.state r sight.finds (waits_in (take k (p ∷ two.pieces)) (queue_of x))) (sym (whole_later two.sight.cut p two.pieces))
          (hears_first me (w x) (w z) was is s.state r sight.finds (record { queue = now; state = p.sitting.next }) (waits_in (take j two.pieces) now)
          (λ task. subst (λ (f : Found). HearsIn me (w x) (w z) was is p.sitting.next f) found_now (subst (λ (u : State). HearsIn me (w x) (w z) was is u n.found) one.one.state all))
          (λ no. takes_then (w x) (w y) (w z) (of_hears_in me (w x) (w y) was mid n.state n.found (no_exchange s.state n.state comes no) hears) after))

      pub told_then : ComesTo s.state n.state → VolumesStay (names_found n.found) (w x) (w y) → HearsIn me (w x) (w y) was mid n.state n.found → ReaderStaysIn n.state was mid → ReaderStaysFrom n.state mid is → HasToldStep plants copies s x z was is r
      told_then comes volumes hears stays on = record {
        sight = sight;
        pieces = p ∷ two.pieces;
        is = its_pieces;
        found = finds_here most s.found two.sight.finds (queue_of x) s.state refl;
        finds =
            subst (λ (k : ℕ). AreFoundIn x.base.config.groups me (w x) (w z) sight.finds (waits_in (take k (p ∷ two.pieces)) (queue_of x))) (sym (whole_later two.sight.cut p two.pieces))
            (All-cons (λ w. IsFoundAt x.base.config.groups me (plants.view x.plant) (plants.view z.plant) w.queue w.state (sight.finds w.queue w.state)) _ _ first_found rest_found);
        volumes = stay_all volumes;
        cut = cut_restated p one.one two.pieces two.sight.cut two.cut;
        tight = tight_later r s.state n.state comes two.sight.cut p two.pieces two.tight;
        broke = if_err r _ _ (λ e b. at_later (IsBroken e) two.sight.cut p two.pieces b) two.broke;
        writes = wrote (subst (λ (h : Holder). Writes plants copies h.by (left_of plants copies h.by two.sight.cut two.pieces y) y z r) one.one.holder two.writes);
        gives = gave comes;
        hears = heard comes hears stays on;
      }

    pub step_then : (was mid is : Option (List ℕ)) → ComesTo s.state n.state → sittings_most n.state < sittings_most s.state → units_done n.state + units_left n.state ≤ units_done s.state + units_left s.state → HasPieced plants copies s x y n was mid
        → HasPlayed plants copies n y z pages mid is r → HasPlayed plants copies s x z pages was is r
    step_then was mid is comes falls units one two = record {
      pieces = one.piece ∷ two.pieces;
      cut = after_one two.cut;
      played = cut_restated one.piece one.one two.pieces two.cut two.played;
      shaped = shaped_all comes falls units one two.pieces two.shaped;
      tight = tight_later r s.state n.state comes two.cut one.piece two.pieces two.tight;
      acts = acts_then plants copies me x y z r one.acts (subst (λ (h : Holder). HasActedIn plants copies h.by y z r) one.one.holder two.acts);
      dry = λ t. both_silent s.state n.state (SamePapers (w x) (w y)) (SamePapers (w y) (w z)) (SamePapers (w x) (w z)) comes (λ a b. papers_on (w x) (w y) (w z) goes.later later a b) (one.dry t) (two.dry t);
      still = λ t. both_still s.state n.state (IsOnlyOn (w x) (w y)) (IsOnlyOn (w y) (w z)) (IsOnlyOn (w x) (w z)) comes (λ a b. only_on (w x) (w y) (w z) goes.later later a b) (one.still t) (two.still t);
      quiet = λ b. two.quiet (between_later two.cut b);
      away = two.away;
      reader = stays_from s.state was is (λ no. of_stays_from n.state mid is (no_task s.state n.state comes) two.reader ∙ of_stays_in n.state was mid (no_exchange s.state n.state comes no) one.reader);
      told = λ t. told_then was mid is (one.told t) (two.told t) comes one.volumes (one.hears t) one.reader two.reader;
    }
