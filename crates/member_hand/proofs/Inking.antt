-- The lines that are printed in the acts that a step waits for, in the words of its pieces.
use Rattle.std.proofs.Common.{◌≡◌, ◌≢◌, ◌⊎◌, ⊎_elim, inl, inr, ℕ, zero, suc, ◌+◌, ◌-◌, ◌≤◌, ◌<◌, Bool, true, false, List, [], ◌∷◌, ◌++◌, length, map, take, append-nil, is_some, Option, Some, None, Result, Ok, Err, refl, sym, ap, ◌∙◌, subst, arith}
use Rattle.std.specs.Prelude.{IfSome}
use Rattle.std.proofs.Math.Seq.{take-nil}
use Rattle.std.specs.Option.{option_map_or}
use Rattle.std.proofs.lemmas.List.{length-take-le}
use Rattle.mas_types.specs.declared.ids.JobNo.{JobNo}
use Rattle.mas_types.specs.declared.ids.MemberId.{MemberId}
use Rattle.mas_types.specs.declared.ids.OutNo.{OutNo}
use Rattle.mas_types.specs.declared.jobs.Job.{Job}
use Rattle.mas_types.specs.declared.jobs.Output.{Output}
use Rattle.mas_types.specs.declared.jobs.Text.{Text}
use Rattle.mas_types.specs.declared.jobs.Text.TheVariants.{Gone, Whole}
use Rattle.mas_types.specs.declared.queues.Queue.{Queue}
use Rattle.mas_types.specs.Printed.{printed_line}
use Rattle.mas_types.specs.Queue.{job_at, output_at}
use Rattle.spool_plant.specs.Acts.{SameWires}
use Rattle.spool_plant.specs.View.{Line, View, given_now, paper_now}
use Rattle.spool_volumes.specs.Volumes.{AreRoomy}
use Rattle.spool_plant.specs.declared.plant.Plant.{Ghosts as PlantGhosts}
use Rattle.mas_complex.specs.Paper.{SamePapers, counts_of}
use Rattle.mas_complex.specs.Parts.{Parts}
use Rattle.member_node.specs.declared.member.Member.{Member}
use Rattle.member_node.specs.declared.member.NodeNo.{NodeNo}
use Rattle.member_node.specs.declared.member.NodeNo.TheVariants.{BothLost, Halted, ConsoleFault, NoMemory}
use Rattle.member_decks.specs.Spooling.{OnVolumes}
use Rattle.member_decks.specs.Steps.{SpoolStops}
use Rattle.queue_telling.specs.Telling.{Tell, TellSound}
use Rattle.job_outcome.specs.declared.outcomes.Read.{Read}
use Rattle.job_outcome.specs.declared.outcomes.Read.TheVariants as read
use Rattle.member_work.specs.Inked.{HasInked, Inked, IsInkedBy, IsInkedTo, OtherCountsStay, inked_of as inked_as, lines_from as lines_upto_from, torn_line as torn_as}
use Rattle.member_work.specs.Looks.{as_it_is}
use Rattle.step_turns.specs.Examples.{calm, text_of, with_text}
use Rattle.step_turns.specs.Serving.{bytes_given, unread}
use Rattle.step_turns.specs.States.{nothing_found}
use Rattle.step_turns.specs.declared.states.Found.{Found}
use Rattle.step_turns.specs.declared.states.Offer.{Offer}
use Rattle.step_turns.specs.declared.states.Service.{Service}
use Rattle.step_turns.specs.declared.states.Progress.{Progress}
use Rattle.step_turns.specs.declared.states.State.{State}
use Rattle.step_turns.specs.declared.states.Aside.TheVariants.{Acknowledge, Exchange, PrintLines, ReadText, SpoolArrival, SpoolDeck, SpoolOutputs}
use Rattle.step_turns.specs.declared.states.State.TheVariants.{Away, Fresh, Rested, Told}
use Rattle.run_turns.specs.Cuts.{broken, whole}
use Rattle.run_turns.specs.Pieces.{chunk, chunk_of, inked_of, lines_from, poured}
use Rattle.run_turns.specs.Sights.{Waiting}
use Rattle.member_sittings.specs.Left.{torn_line}
use Rattle.member_sittings.specs.Whole.{queue_of}
use Rattle.member_frames.specs.Asides.{lines_next}
use Rattle.member_wires.proofs.Shown.{papers_now}
use Rattle.member_wires.specs.Acts.{GivenBy, StopsBeside}
use Rattle.member_wires.specs.Asides.{Exchanged, FindsOffered, GaveBy, HasAnswered, ack_bytes, offered_bytes}
use Rattle.member_hand.specs.Found.{names_found}
use Rattle.member_hand.specs.Hears.{GivesOnly, HasTaken, Hears, HearsIn, TakesNothing, line_served}
use Rattle.member_hand.specs.Asides.{ActsAfter}
use Rattle.member_hand.specs.Cuts.{IsHaltBy}
use Rattle.member_hand.specs.Sits.{WaitsWell}
use Rattle.member_hand.proofs.Fuel.{no_lines, none_inked as none_on_paper}
use Rattle.member_hand.proofs.Reaching.{broken_is}
use Rattle.member_hand.proofs.Serving.{StaysOn}
use Rattle.member_hand.proofs.StepKinds.{IsExchange}
use Rattle.member_hand.proofs.Wiring.{all_given, gives_line, gives_none, gives_still, not_ended, takes_given, takes_none, takes_still}

-- THE SAME LINES, in the words of work and in those of a run

lines_alike : (n : JobNo) (i : OutNo) (text : List (List ℕ)) (first many : ℕ) → lines_upto_from n i text first many ≡ lines_from n i text first many
lines_alike n i text first zero = refl
lines_alike n i text first (suc many) = ap (λ (ls : List (List ℕ)). printed_line n i first text ∷ ls) (lines_alike n i text (first + 1) many)

pub chunk_is : (Q : Queue) (count : ℕ) (n : JobNo) (i : OutNo) (last : ℕ) (p : Progress) (o : Output) (r : Read) → output_at Q n i ≡ Some o → lines_next count last o r ≡ chunk Q count (Away (PrintLines n i last p)) r
chunk_is Q count n i last p o (read.Lines text) there =
    lines_alike o.job o.index text (o.mark + count + 1) (last - (o.mark + count)) ∙ ap (λ (a : Option Output). option_map_or (chunk_of count last text) a []) (sym there)
chunk_is Q count n i last p o (read.Gone group) there = refl
chunk_is Q count n i last p o (read.Lost volume) there = refl

text_is : (t : Text) → as_it_is t ≡ text_of t
text_is (Whole lines) = refl
text_is (Gone group count) = refl

torn_is : (tail : Option (List ℕ)) → torn_as tail ≡ torn_line tail
torn_is None = refl
torn_is (Some text) = refl

torn_few : (tail : Option (List ℕ)) → length (torn_line tail) ≤ 1
torn_few None = omega arith
torn_few (Some text) = omega arith

-- what stands of lines, up to one that is torn
inked_is : (k : Inked) (lines : List (List ℕ)) → k.lines + length (torn_line k.rest) ≤ length lines → inked_as k lines ≡ broken k.lines k.rest lines
inked_is k lines le = ap (λ (l : List Line). map whole (take k.lines lines) ++ l) (torn_is k.rest) ∙ broken_is k.lines k.rest lines le

abbrev answers : Found → Result Found NodeNo
answers found = Ok found

pub one_found : (a b : Found) → answers a ≡ answers b → a ≡ b
one_found a b e = cc

other_member : (m by : MemberId) → m ≢ by → m.0 ≢ by.0
other_member m by other same = other (ap (λ (n : ℕ). record { 0 = n }) same)

-- what an error of such acts allows
pub halts_idle : (e : NodeNo) (by : ℕ) (w w' : View) → SpoolStops names_found (Err e) by w w' → IsHaltBy e (Waiting 0 None)
halts_idle NoMemory by w w' cause = refl
halts_idle Halted by w w' cause = tt
halts_idle BothLost by w w' cause = absurd cause
halts_idle ConsoleFault by w w' cause = absurd cause

-- what a calm step prints at a queue, and what one prints that found this
abbrev pub calm_lines : Queue → ℕ → State → List (List ℕ)
calm_lines Q count s = inked_of (calm Q s).printer 0 (chunk Q count s (calm Q s).read)

abbrev pub found_lines : Queue → ℕ → State → Found → List (List ℕ)
found_lines Q count s found = chunk Q count s found.read

few_of : (e : NodeNo) (many : ℕ) (k : Inked) → IsInkedBy (Err e) many k → (k.lines + length (torn_line k.rest) ≤ many) × IsHaltBy e (Waiting k.lines k.rest)
few_of NoMemory many k by = (let le = by.0 in let none = ap (λ (o : Option (List ℕ)). length (torn_line o)) by.1 in omega (arith, le, none), by.1)
few_of Halted many k by =
    (⊎_elim (λ is. let le = by.0 in let none = ap (λ (o : Option (List ℕ)). length (torn_line o)) is in omega (arith, le, none)) (λ less. let few = torn_few k.rest in omega (arith, less, few)) by.1, tt)
few_of BothLost many k by = absurd by
few_of ConsoleFault many k by = absurd by

calm_there : (Q : Queue) (count : ℕ) (n : JobNo) (i : OutNo) (last : ℕ) (p : Progress) (o : Output) → output_at Q n i ≡ Some o → lines_next count last o (as_it_is o.text) ≡ calm_lines Q count (Away (PrintLines n i last p))
calm_there Q count n i last p o there =
    let s : State = Away (PrintLines n i last p) in
    ap (lines_next count last o) (text_is o.text) ∙ chunk_is Q count n i last p o (text_of o.text) there
    ∙ ap (λ (f : Found). inked_of f.printer 0 (chunk Q count s f.read)) (sym (ap (λ (a : Option Output). option_map_or (λ (b : Output). with_text b.text) a nothing_found) there))

take_all : (lines : List (List ℕ)) → take (length lines) lines ≡ lines
take_all [] = refl
take_all (l ∷ ls) = ap (λ (k : List (List ℕ)). l ∷ k) (take_all ls)

-- WHAT A CALM STEP GIVES on its line

abbrev pub calm_given : Queue → State → List ℕ
calm_given Q s = poured 0 s (calm Q s)

calm_frame : (Q : Queue) (l : ℕ) (o : Offer) (j : Job) → job_at Q o.job ≡ Some j → calm_given Q (Away (Exchange l (Some o))) ≡ bytes_given (Away (Exchange l (Some o))) (text_of j.text)
calm_frame Q l o j there = ap (λ (a : Option Job). poured 0 (Away (Exchange l (Some o))) (option_map_or (λ (b : Job). with_text b.text) a nothing_found)) there

no_bytes : (l : ℕ) (text : Option Read) → offered_bytes l None text ≡ []
no_bytes l None = refl
no_bytes l (Some r) = refl

ack_is : (Q : Queue) (number : Option ℕ) (service : Service) → ack_bytes number ≡ calm_given Q (Away (Acknowledge number service))
ack_is Q None service = refl
ack_is Q (Some number) service = refl

ack_given : (number : Option ℕ) (service : Service) (r : Read) → ack_bytes number ≡ bytes_given (Away (Acknowledge number service)) r
ack_given None service r = refl
ack_given (Some number) service r = refl

pub some_of : {A : Type 0} (o : Option A) → is_some o ≡ true → (a : A) × (o ≡ Some a)
some_of None some = absurd (cc)
some_of (Some a) some = (a, refl)

halts_anywhere : (e : NodeNo) (n : ℕ) → IsHaltBy e (Waiting 0 None) → IsHaltBy e (Waiting n None)
halts_anywhere NoMemory n is = is
halts_anywhere Halted n is = is
halts_anywhere BothLost n is = is
halts_anywhere ConsoleFault n is = is

halts_beside : (e : NodeNo) (by : ℕ) (w w' : View) → StopsBeside {T = Bool} (Err e) by w w' → IsHaltBy e (Waiting 0 None)
halts_beside NoMemory by w w' stops = refl
halts_beside Halted by w w' stops = tt
halts_beside BothLost by w w' stops = absurd stops
halts_beside ConsoleFault by w w' stops = absurd stops

gave_all : (b : Bool) (bytes : List ℕ) (n : ℕ) → b ≡ false → GaveBy (Ok b) bytes n → n ≡ length bytes
gave_all true bytes n here by = absurd (cc)
gave_all false bytes n here by = by

gave_whole : (b : Bool) (bytes : List ℕ) (n : ℕ) → b ≡ false → GivenBy (Ok b) bytes n → n ≡ length bytes
gave_whole true bytes n here by = absurd (cc)
gave_whole false bytes n here by = by

-- nothing is taken only where the step is closed
never : (offer : Option Offer) (l : ℕ) (found : Found) → (unread offer found.read ≢ None) ⊎ (found.wire ≡ true) → found.wire ≡ false → unread offer found.read ≡ None → ⊥
never offer l found why here readable = ⊎_elim (λ no. no readable) (λ lost. absurd (let no : true ≡ false = sym lost ∙ here in cc)) why

nothing_broken : (n : ℕ) → broken n None [] ≡ []
nothing_broken n = append-nil (map whole (take n no_lines)) ∙ ap (λ (ls : List (List ℕ)). map whole ls) (take-nil n)

same_papers : (v w : View) → v.now ≤ w.now → SamePapers v w → (m : ℕ) → paper_now w m ≡ paper_now v m
same_papers v w later same m = same w.now later (omega arith) m

module _ {P C : Type 0} (plants : PlantGhosts P) where
  abbrev v : Parts P C → View
  v x = plants.view x.plant

  -- WHERE THE ACTS ENDED WITH AN ERROR, of these lines

  -- what acts after a sitting gave of these bytes on the line that is served then, whichever that is once the step is told
  abbrev pub GivesFrom : MemberId → State → List ℕ → Parts P C → Parts P C → Type 0
  GivesFrom by s bytes x y = (served : Option ℕ) → StaysOn served s → GivesOnly by served bytes (v x) (v y)

  -- where nothing moved
  gives_nothing : (by : MemberId) (s : State) (bytes : List ℕ) (x y : Parts P C) → bytes ≡ [] → SameWires (v x) (v y) → GivesFrom by s bytes x y
  gives_nothing by s bytes x y none same served on = subst (λ (l : List ℕ). GivesOnly by served l (v x) (v y)) (sym none) (gives_still by served (v x) (v y) same)

  -- on one line
  gives_on : (by : MemberId) (l : ℕ) (s : State) (bytes : List ℕ) (x y : Parts P C) → s ≢ Told → line_served s ≡ Some l → GivesOnly by (Some l) bytes (v x) (v y) → GivesFrom by s bytes x y
  gives_on by l s bytes x y ne is gives served on =
      ⊎_elim (λ told. absurd (ne told)) (λ same. subst (λ (o : Option ℕ). GivesOnly by o bytes (v x) (v y)) (sym is ∙ same) gives) on

  pub record InkedTo (lines : List (List ℕ)) (s : State) (bytes : List ℕ) (by : MemberId) (e : NodeNo) (x y : Parts P C) : Type 0 where
    pub many : ℕ
    pub tail : Option (List ℕ)
    pub by_answer : IsHaltBy e (Waiting many tail)
    pub paper : paper_now (v y) by.0 ≡ paper_now (v x) by.0 ++ broken many tail lines
    pub others : (m : ℕ) → m ≢ by.0 → paper_now (v y) m ≡ paper_now (v x) m
    pub other_counts : (m : MemberId) → m ≢ by → counts_of y.printed m ≡ counts_of x.printed m
    pub gives : GivesFrom by s (take many bytes) x y

  -- acts on volumes alone
  unprinted : (lines : List (List ℕ)) (s : State) (bytes : List ℕ) (by : MemberId) (e : NodeNo) (x y : Parts P C) → IsHaltBy e (Waiting 0 None) → (plants.tells) → OnVolumes plants.tells by.0 (v x) (v y) → y ≡ record x { plant = y.plant } → InkedTo lines s bytes by e x y
  unprinted lines s bytes by e x y halt t acts frame = record {
    many = 0;
    tail = None;
    by_answer = halt;
    paper = papers_now plants.tells by.0 (v x) (v y) acts t by.0 ∙ sym (append-nil (paper_now (v x) by.0));
    others = λ m other. papers_now plants.tells by.0 (v x) (v y) acts t m;
    other_counts = λ m other. ap (λ (q : Parts P C). counts_of q.printed m) frame;
    gives = gives_nothing by s [] x y refl (acts.wires t);
  }

  -- acts on a line, of which this many bytes were given of what a calm step gives
  unlined : (Q : Queue) (count : ℕ) (s : State) (bytes : List ℕ) (by : MemberId) (e : NodeNo) (n : ℕ) (x y : Parts P C) → calm_lines Q count s ≡ [] → IsHaltBy e (Waiting 0 None) → SamePapers (v x) (v y) → (v x).now ≤ (v y).now → y ≡ record x { plant = y.plant }
      → GivesFrom by s (take n bytes) x y → InkedTo (calm_lines Q count s) s bytes by e x y
  unlined Q count s bytes by e n x y none halt papers later frame gives = record {
    many = n;
    tail = None;
    by_answer = halts_anywhere e n halt;
    paper = same_papers (v x) (v y) later papers by.0 ∙ sym (append-nil (paper_now (v x) by.0)) ∙ ap (λ (ls : List Line). paper_now (v x) by.0 ++ ls) (sym (ap (broken n None) none ∙ nothing_broken n));
    others = λ m other. same_papers (v x) (v y) later papers m;
    other_counts = λ m other. ap (λ (q : Parts P C). counts_of q.printed m) frame;
    gives = gives;
  }

  inked_to : (lines : List (List ℕ)) (s : State) (bytes : List ℕ) (by : MemberId) (e : NodeNo) (x y : Parts P C) → bytes ≡ [] → SameWires (v x) (v y) → OtherCountsStay by x.printed y.printed → HasInked plants by lines x y (Err e) → InkedTo lines s bytes by e x y
  inked_to lines s bytes by e x y none same counts i =
      let few = few_of e (length lines) i.inked i.by_answer in
      record {
        many = i.inked.lines;
        tail = i.inked.rest;
        by_answer = few.1;
        paper = i.paper ∙ ap (λ (ls : List Line). paper_now (v x) by.0 ++ ls) (inked_is i.inked lines few.0);
        others = i.others;
        other_counts = λ m other. counts m (other_member m by other);
        gives = gives_nothing by s (take i.inked.lines bytes) x y (ap (take i.inked.lines) none ∙ take-nil i.inked.lines) same;
      }

  -- AN EXCHANGE THAT ENDED WITH AN ERROR: what was given of the frame whose text is as the queue has it

  module _ (x y : Parts P C) (m : Member) (l : ℕ) (was is : Option (List ℕ)) (e : NodeNo) (t : plants.tells) (roomy : AreRoomy (v x) x.base.config) where
    abbrev HasGiven : List ℕ → Type 0
    HasGiven bytes = (n : ℕ) × (given_now (v y) l m.id.0 ≡ given_now (v x) l m.id.0 ++ take n bytes)

    none_given : (bytes : List ℕ) (n : ℕ) (got : List ℕ) → got ≡ [] → given_now (v y) l m.id.0 ≡ given_now (v x) l m.id.0 ++ take n got → HasGiven bytes
    none_given bytes n got none is_given = (0, is_given ∙ ap (λ (xs : List ℕ). given_now (v x) l m.id.0 ++ xs) (ap (take n) none ∙ take-nil n))

    given_as : (o : Offer) (j : Job) → job_at (queue_of x) o.job ≡ Some j → (text : Option Read) → IfSome text (λ r. FindsOffered plants x y m (Some o) r) → (n : ℕ) → given_now (v y) l m.id.0 ≡ given_now (v x) l m.id.0 ++ take n (offered_bytes l (Some o) text)
        → HasGiven (bytes_given (Away (Exchange l (Some o))) (text_of j.text))
    given_as o j there None found n gave = none_given (bytes_given (Away (Exchange l (Some o))) (text_of j.text)) n [] refl gave
    given_as o j there (Some (read.Gone group)) found n gave = none_given (bytes_given (Away (Exchange l (Some o))) (text_of j.text)) n [] refl gave
    given_as o j there (Some (read.Lost volume)) found n gave = none_given (bytes_given (Away (Exchange l (Some o))) (text_of j.text)) n [] refl gave
    given_as o j there (Some (read.Lines lines)) found n gave =
        (n, gave ∙ ap (λ (r : Read). given_now (v x) l m.id.0 ++ take n (bytes_given (Away (Exchange l (Some o))) r)) (found.1 t roomy j there t ∙ text_is j.text))

    exchange_given : (offer : Option Offer) → (plants.tells → WaitsWell plants.tells (queue_of x) m (Away (Exchange l offer))) → (plants.tells → Tell m.checkpoint.tables (queue_of x)) → Exchanged plants x y m l offer was is (Err e)
        → HasGiven (calm_given (queue_of x) (Away (Exchange l offer)))
    exchange_given None waits tell a =
        let moved = a.moved t in none_given [] moved.gave (offered_bytes l None a.text) (no_bytes l a.text) moved.given
    exchange_given (Some o) waits tell a =
        let moved = a.moved t in
        let its = some_of (job_at (queue_of x) o.job) ((waits t).1.there (queue_of x) (tell t)) in
        let got = given_as o its.0 its.1 a.text a.there moved.gave moved.given in
        (got.0, got.1 ∙ ap (λ (bytes : List ℕ). given_now (v x) l m.id.0 ++ take got.0 bytes) (sym (calm_frame (queue_of x) l o its.0 its.1)))

  -- of whatever acts
  pub err_inked : (x y : Parts P C) (m : Member) (s : State) (was is : Option (List ℕ)) (e : NodeNo) → plants.tells → (plants.tells → WaitsWell plants.tells (queue_of x) m s) → (plants.tells → Tell m.checkpoint.tables (queue_of x)) → (plants.tells → TellSound m.checkpoint.tables)
      → (plants.tells → AreRoomy (v x) x.base.config) → ActsAfter plants x y m s was is (Err e) → InkedTo (calm_lines (queue_of x) (counts_of x.printed m.id) s) s (calm_given (queue_of x) s) m.id e x y
  err_inked x y m (Away (SpoolDeck n text)) was is e t waits tell sound roomy a = unprinted _ _ _ m.id e x y (halts_idle e m.id.0 (v x) (v y) a.1.cause) t a.1.acts a.0
  err_inked x y m (Away (ReadText runs n fields p)) was is e t waits tell sound roomy a = unprinted _ _ _ m.id e x y (halts_idle e m.id.0 (v x) (v y) a.1.cause) t a.1.acts a.0
  err_inked x y m (Away (SpoolOutputs n specs p)) was is e t waits tell sound roomy a = unprinted _ _ _ m.id e x y (halts_idle e m.id.0 (v x) (v y) a.1.cause) t a.1.acts a.0
  err_inked x y m (Away (SpoolArrival number job cards service)) was is e t waits tell sound roomy a = unprinted _ _ _ m.id e x y (halts_idle e m.id.0 (v x) (v y) a.1.cause) t a.1.acts a.0
  err_inked x y m (Away (PrintLines n i last p)) was is e t waits tell sound roomy a =
      let its = (waits t).printing (queue_of x) (tell t) (sound t) in
      inked_to (calm_lines (queue_of x) (counts_of x.printed m.id) (Away (PrintLines n i last p))) (Away (PrintLines n i last p)) [] m.id e x y refl (a.1.wires t) a.1.counts
      (subst (λ (ls : List (List ℕ)). HasInked plants m.id ls x y (Err e)) (calm_there (queue_of x) (counts_of x.printed m.id) n i last p its.output its.there) (a.1.inks t its.output its.there))
  err_inked x y m (Away (Exchange l offer)) was is e t waits tell sound roomy a =
      let s : State = Away (Exchange l offer) in
      let gave = exchange_given x y m l was is e t (roomy t) offer waits tell a.1 in
      unlined (queue_of x) (counts_of x.printed m.id) s (calm_given (queue_of x) s) m.id e gave.0 x y (none_on_paper (calm (queue_of x) s).printer 0) (halts_idle e m.id.0 (v x) (v y) a.1.stops) (a.1.acts.papers t) a.1.acts.goes.later a.0
      (gives_on m.id l s (take gave.0 (calm_given (queue_of x) s)) x y (λ told. absurd (cc)) refl (gives_line m.id l (take gave.0 (calm_given (queue_of x) s)) (v x) (v y) gave.1 (a.1.acts.given t) (a.1.acts.taken t)))
  err_inked x y m (Away (Acknowledge number service)) was is e t waits tell sound roomy a =
      let s : State = Away (Acknowledge number service) in
      let gives = a.1.gives in
      let gave = gives.gave t in
      subst (λ (bytes : List ℕ). InkedTo (calm_lines (queue_of x) (counts_of x.printed m.id) s) s bytes m.id e x y) (ack_is (queue_of x) number service)
      (unlined (queue_of x) (counts_of x.printed m.id) s (ack_bytes number) m.id e gave.count x y refl (halts_beside e m.id.0 (v x) (v y) gives.stops) (gives.acts.papers t) gives.acts.goes.later a.0
      (gives_on m.id service.line s (take gave.count (ack_bytes number)) x y (λ told. absurd (cc)) refl (gives_line m.id service.line (take gave.count (ack_bytes number)) (v x) (v y) gave.given (gives.acts.given t) (gives.acts.taken t))))
  err_inked x y m (Fresh task) was is e t waits tell sound roomy a = absurd (let no = a.1 in cc)
  err_inked x y m (Rested p) was is e t waits tell sound roomy a = absurd (let no = a.1 in cc)
  err_inked x y m Told was is e t waits tell sound roomy a = absurd (let no = a.1 in cc)

  -- WHERE THEY ENDED WELL, of these lines

  pub record InkedWhole (lines : List (List ℕ)) (s : State) (found : Found) (by : MemberId) (x y : Parts P C) : Type 0 where
    pub inked : ℕ
    pub paper : paper_now (v y) by.0 ≡ paper_now (v x) by.0 ++ map whole (inked_of found.printer inked lines)
    pub others : (m : ℕ) → m ≢ by.0 → paper_now (v y) m ≡ paper_now (v x) m
    pub count : counts_of y.printed by ≡ counts_of x.printed by + length (inked_of found.printer inked lines)
    pub other_counts : (m : MemberId) → m ≢ by → counts_of y.printed m ≡ counts_of x.printed m
    pub gives : GivesFrom by s (poured inked s found) x y

  none_inked : (n : ℕ) (s : State) (found : Found) (by : MemberId) (x y : Parts P C) → ((m : ℕ) → paper_now (v y) m ≡ paper_now (v x) m) → y.printed ≡ x.printed → GivesFrom by s (poured n s found) x y → InkedWhole [] s found by x y
  none_inked n s found by x y papers counts gives =
      let none = none_on_paper found.printer n in
      let few : length (inked_of found.printer n no_lines) ≡ 0 = ap length none in
      let same : counts_of y.printed by ≡ counts_of x.printed by = ap (λ (l : List ℕ). counts_of l by) counts in
      record {
        inked = n;
        paper = papers by.0 ∙ sym (append-nil (paper_now (v x) by.0)) ∙ ap (λ (ls : List (List ℕ)). paper_now (v x) by.0 ++ map whole ls) (sym none);
        others = λ m other. papers m;
        count = omega (arith, few, same);
        other_counts = λ m other. ap (λ (l : List ℕ). counts_of l m) counts;
        gives = gives;
      }

  inked_well : (lines : List (List ℕ)) (s : State) (found : Found) (by : MemberId) (x y : Parts P C) → ((n : ℕ) → poured n s found ≡ []) → SameWires (v x) (v y) → (b : Bool) → found.printer ≡ b → OtherCountsStay by x.printed y.printed → HasInked plants by lines x y (Ok found.printer)
      → InkedWhole lines s found by x y
  inked_well lines s found by x y none same_wires false is counts i =
      let all : i.inked ≡ record { lines = length lines; rest = None } = subst (λ (b : Bool). IsInkedTo b (length lines) i.inked) is i.by_answer in
      let ink : inked_of found.printer 0 lines ≡ lines = ap (λ (b : Bool). inked_of b 0 lines) is in
      let many : i.inked.lines ≡ length lines = ap (λ (k : Inked). k.lines) all in
      let few : length (inked_of found.printer 0 lines) ≡ length lines = ap length ink in
      let counted = i.counted in
      record {
        inked = 0;
        paper = i.paper ∙ ap (λ (k : Inked). paper_now (v x) by.0 ++ inked_as k lines) all
            ∙ ap (λ (ls : List Line). paper_now (v x) by.0 ++ ls) (append-nil (map whole (take (length lines) lines)))
            ∙ ap (λ (ls : List (List ℕ)). paper_now (v x) by.0 ++ map whole ls) (take_all lines ∙ sym ink);
        others = i.others;
        count = omega (arith, counted, many, few);
        other_counts = λ m other. counts m (other_member m by other);
        gives = gives_nothing by s (poured 0 s found) x y (none 0) same_wires;
      }
  inked_well lines s found by x y none same_wires true is counts i =
      let some : (i.inked.lines < length lines) × (i.inked.rest ≡ None) = subst (λ (b : Bool). IsInkedTo b (length lines) i.inked) is i.by_answer in
      let ink : inked_of found.printer i.inked.lines lines ≡ take i.inked.lines lines = ap (λ (b : Bool). inked_of b i.inked.lines lines) is in
      let less = some.0 in
      let many : length (take i.inked.lines lines) ≡ i.inked.lines = length-take-le i.inked.lines lines (omega (arith, less)) in
      let few : length (inked_of found.printer i.inked.lines lines) ≡ i.inked.lines = ap length ink ∙ many in
      let counted = i.counted in
      record {
        inked = i.inked.lines;
        paper = i.paper ∙ ap (λ (o : Option (List ℕ)). paper_now (v x) by.0 ++ (map whole (take i.inked.lines lines) ++ torn_as o)) some.1
            ∙ ap (λ (ls : List Line). paper_now (v x) by.0 ++ ls) (append-nil (map whole (take i.inked.lines lines)))
            ∙ ap (λ (ls : List (List ℕ)). paper_now (v x) by.0 ++ map whole ls) (sym ink);
        others = i.others;
        count = omega (arith, counted, few);
        other_counts = λ m other. counts m (other_member m by other);
        gives = gives_nothing by s (poured i.inked.lines s found) x y (none i.inked.lines) same_wires;
      }

  nothing_done : (x y : Parts P C) (by : MemberId) (s : State) (found : Found) → y ≡ x → ((n : ℕ) → poured n s found ≡ []) → InkedWhole [] s found by x y
  nothing_done x y by s found same none =
      none_inked 0 s found by x y (λ m. ap (λ (q : Parts P C). paper_now (v q) m) same) (ap (λ (q : Parts P C). q.printed) same)
      (λ served on. subst (λ (q : Parts P C). GivesOnly by served (poured 0 s found) (v x) (v q)) (sym same) (subst (λ (bytes : List ℕ). GivesOnly by served bytes (v x) (v x)) (sym (none 0)) (gives_none by served (v x))))

  -- acts on volumes alone
  on_volumes : (x y : Parts P C) (by : MemberId) (s : State) (found : Found) → plants.tells → OnVolumes plants.tells by.0 (v x) (v y) → y ≡ record x { plant = y.plant } → poured 0 s found ≡ [] → InkedWhole [] s found by x y
  on_volumes x y by s found t acts frame none =
      none_inked 0 s found by x y (papers_now plants.tells by.0 (v x) (v y) acts t) (ap (λ (q : Parts P C). q.printed) frame) (gives_nothing by s (poured 0 s found) x y none (acts.wires t))

  -- an exchange, by what was given
  exchanged_whole : (x y : Parts P C) (m : Member) (l : ℕ) (offer : Option Offer) (was is : Option (List ℕ)) (found : Found) → plants.tells → y ≡ record x { plant = y.plant } → Exchanged plants x y m l offer was is (Ok found)
      → InkedWhole [] (Away (Exchange l offer)) found m.id x y
  exchanged_whole x y m l offer was is found t frame a =
      let s : State = Away (Exchange l offer) in
      let moved = a.moved t in
      let bytes = bytes_given s found.read in
      let gave : given_now (v y) l m.id.0 ≡ given_now (v x) l m.id.0 ++ take moved.gave bytes = moved.given ∙ ap (λ (o : Option Read). given_now (v x) l m.id.0 ++ take moved.gave (offered_bytes l offer o)) a.finds.is_read in
      let all = all_given found.wire moved.gave bytes (λ here. gave_all found.wire bytes moved.gave here (subst (λ (o : Option Read). GaveBy (Ok found.wire) (offered_bytes l offer o) moved.gave) a.finds.is_read moved.by_answer)) in
      none_inked moved.gave s found m.id x y (same_papers (v x) (v y) a.acts.goes.later (a.acts.papers t)) (ap (λ (q : Parts P C). q.printed) frame)
      (gives_on m.id l s (poured moved.gave s found) x y (λ told. absurd (cc)) refl
      (gives_line m.id l (poured moved.gave s found) (v x) (v y) (gave ∙ ap (λ (more : List ℕ). given_now (v x) l m.id.0 ++ more) (sym all)) (a.acts.given t) (a.acts.taken t)))

  -- and an acknowledgement
  answered_whole : (x y : Parts P C) (m : Member) (number : Option ℕ) (service : Service) (found : Found) → plants.tells → y ≡ record x { plant = y.plant } → HasAnswered plants x y m service.line number (Ok found)
      → InkedWhole [] (Away (Acknowledge number service)) found m.id x y
  answered_whole x y m number service found t frame a =
      let s : State = Away (Acknowledge number service) in
      let gave = a.gives.gave t in
      let bytes = bytes_given s found.read in
      let same = ack_given number service found.read in
      let all = all_given found.wire gave.count bytes (λ here. gave_whole found.wire bytes gave.count here (subst (λ (bs : List ℕ). GivenBy (Ok found.wire) bs gave.count) same gave.by_answer)) in
      none_inked gave.count s found m.id x y (same_papers (v x) (v y) a.gives.acts.goes.later (a.gives.acts.papers t)) (ap (λ (q : Parts P C). q.printed) frame)
      (gives_on m.id service.line s (poured gave.count s found) x y (λ told. absurd (cc)) refl
      (gives_line m.id service.line (poured gave.count s found) (v x) (v y)
      (gave.given ∙ ap (λ (bs : List ℕ). given_now (v x) service.line m.id.0 ++ take gave.count bs) same ∙ ap (λ (more : List ℕ). given_now (v x) service.line m.id.0 ++ more) (sym all)) (a.gives.acts.given t) (a.gives.acts.taken t)))

  pub ok_inked : (x y : Parts P C) (m : Member) (s : State) (was is : Option (List ℕ)) (found : Found) → plants.tells → (plants.tells → WaitsWell plants.tells (queue_of x) m s) → (plants.tells → Tell m.checkpoint.tables (queue_of x)) → (plants.tells → TellSound m.checkpoint.tables)
      → ActsAfter plants x y m s was is (Ok found) → InkedWhole (found_lines (queue_of x) (counts_of x.printed m.id) s found) s found m.id x y
  ok_inked x y m (Away (SpoolDeck n text)) was is found t waits tell sound a = on_volumes x y m.id (Away (SpoolDeck n text)) found t a.1.acts a.0 refl
  ok_inked x y m (Away (ReadText runs n fields p)) was is found t waits tell sound a = on_volumes x y m.id (Away (ReadText runs n fields p)) found t a.1.acts a.0 refl
  ok_inked x y m (Away (SpoolOutputs n specs p)) was is found t waits tell sound a = on_volumes x y m.id (Away (SpoolOutputs n specs p)) found t a.1.acts a.0 refl
  ok_inked x y m (Away (SpoolArrival number job cards service)) was is found t waits tell sound a = on_volumes x y m.id (Away (SpoolArrival number job cards service)) found t a.1.acts a.0 refl
  ok_inked x y m (Away (PrintLines n i last p)) was is found t waits tell sound a =
      let its = (waits t).printing (queue_of x) (tell t) (sound t) in
      let count = counts_of x.printed m.id in
      inked_well (found_lines (queue_of x) count (Away (PrintLines n i last p)) found) (Away (PrintLines n i last p)) found m.id x y (λ k. refl) (a.1.wires t) found.printer refl a.1.counts
      (subst (λ (ls : List (List ℕ)). HasInked plants m.id ls x y (Ok found.printer)) (chunk_is (queue_of x) count n i last p its.output found.read its.there) (a.1.inks t its.output its.there))
  ok_inked x y m (Away (Exchange l offer)) was is found t waits tell sound a = exchanged_whole x y m l offer was is found t a.0 a.1
  ok_inked x y m (Away (Acknowledge number service)) was is found t waits tell sound a = answered_whole x y m number service found t a.0 a.1
  ok_inked x y m (Fresh task) was is found t waits tell sound a = nothing_done x y m.id (Fresh task) found a.0 (λ n. refl)
  ok_inked x y m (Rested p) was is found t waits tell sound a = nothing_done x y m.id (Rested p) found a.0 (λ n. refl)
  ok_inked x y m Told was is found t waits tell sound a = nothing_done x y m.id Told found a.0 (λ n. refl)

  -- WHAT WAS HEARD in them

  -- only an exchange takes anything
  pub took_none : (x y : Parts P C) (m : Member) (s : State) (was is : Option (List ℕ)) (r : Result Found NodeNo) → plants.tells → (IsExchange s → ⊥) → ActsAfter plants x y m s was is r → TakesNothing (v x) (v y)
  took_none x y m (Away (SpoolDeck n text)) was is r t off a = takes_still (v x) (v y) (a.1.acts.wires t)
  took_none x y m (Away (ReadText runs n fields p)) was is r t off a = takes_still (v x) (v y) (a.1.acts.wires t)
  took_none x y m (Away (SpoolOutputs n specs p)) was is r t off a = takes_still (v x) (v y) (a.1.acts.wires t)
  took_none x y m (Away (SpoolArrival number job cards service)) was is r t off a = takes_still (v x) (v y) (a.1.acts.wires t)
  took_none x y m (Away (PrintLines n i last p)) was is r t off a = takes_still (v x) (v y) (a.1.wires t)
  took_none x y m (Away (Exchange l offer)) was is r t off a = absurd (off tt)
  took_none x y m (Away (Acknowledge number service)) was is r t off a = takes_given m.id service.line (v x) (v y) (a.1.gives.gave t).taken (a.1.gives.acts.taken t) (a.1.gives.gave t).waiting
  took_none x y m (Fresh task) was is r t off a = subst (λ (q : Parts P C). TakesNothing (v x) (v q)) (sym a.0) (takes_none (v x))
  took_none x y m (Rested p) was is r t off a = subst (λ (q : Parts P C). TakesNothing (v x) (v q)) (sym a.0) (takes_none (v x))
  took_none x y m Told was is r t off a = subst (λ (q : Parts P C). TakesNothing (v x) (v q)) (sym a.0) (takes_none (v x))

  -- an exchange
  heard_by : (x y : Parts P C) (m : Member) (l : ℕ) (offer : Option Offer) (was is : Option (List ℕ)) (found : Found) → plants.tells → Exchanged plants x y m l offer was is (Ok found)
      → (h : HasTaken m.id l offer found (v x) (v y)) × Hears l offer found was is h.bytes
  heard_by x y m l offer was is found t a =
      let moved = a.moved t in (
        record {
          bytes = a.took;
          few = a.few;
          taken = moved.taken;
          waited = moved.waited;
          others = a.acts.waiting t;
          all = λ on. let open_now = not_ended offer l found on in
              ⊎_elim (λ none. absurd (never offer l found none.why open_now.0 open_now.1)) (λ some. some.all open_now.0 t) a.finds.heard;
        },
        record {
          frames = λ on. let open_now = not_ended offer l found on in
              ⊎_elim (λ none. absurd (never offer l found none.why open_now.0 open_now.1)) (λ some. some.reads) a.finds.heard;
          read = ⊎_elim (λ none. inr (none.nothing, none.frames, none.reader)) (λ some. inl some.reads) a.finds.heard;
        },
      )

  pub heard_in : (x y : Parts P C) (m : Member) (s : State) (was is : Option (List ℕ)) (found : Found) → plants.tells → ActsAfter plants x y m s was is (Ok found) → HearsIn m.id (v x) (v y) was is s found
  heard_in x y m (Away (Exchange l offer)) was is found t a = heard_by x y m l offer was is found t a.1
  heard_in x y m (Away (SpoolDeck n text)) was is found t a = took_none x y m (Away (SpoolDeck n text)) was is (Ok found) t (λ w. w) a
  heard_in x y m (Away (ReadText runs n fields p)) was is found t a = took_none x y m (Away (ReadText runs n fields p)) was is (Ok found) t (λ w. w) a
  heard_in x y m (Away (SpoolOutputs n specs p)) was is found t a = took_none x y m (Away (SpoolOutputs n specs p)) was is (Ok found) t (λ w. w) a
  heard_in x y m (Away (PrintLines n i last p)) was is found t a = took_none x y m (Away (PrintLines n i last p)) was is (Ok found) t (λ w. w) a
  heard_in x y m (Away (SpoolArrival number job cards service)) was is found t a = took_none x y m (Away (SpoolArrival number job cards service)) was is (Ok found) t (λ w. w) a
  heard_in x y m (Away (Acknowledge number service)) was is found t a = took_none x y m (Away (Acknowledge number service)) was is (Ok found) t (λ w. w) a
  heard_in x y m (Fresh task) was is found t a = took_none x y m (Fresh task) was is (Ok found) t (λ w. w) a
  heard_in x y m (Rested p) was is found t a = took_none x y m (Rested p) was is (Ok found) t (λ w. w) a
  heard_in x y m Told was is found t a = took_none x y m Told was is (Ok found) t (λ w. w) a
