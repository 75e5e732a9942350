-- An exchange: the text of the job that is offered is read, its frame is given, and then bytes are taken.
use Rattle.std.proofs.Common.{◌≡◌, ◌≢◌, inl, inr, ℕ, Bool, true, false, List, [], ◌++◌, length, take, Option, Some, None, Result, Ok, Err, refl, sym, ◌∙◌, ap, subst, arith}
use Rattle.std.proofs.Math.Seq.{take-length}
use Rattle.std.proofs.lemmas.List.{append-nil}
use Rattle.spool_plant.specs.declared.plant.Plant.{Ghosts as PlantGhosts}
use Rattle.spool_plant.specs.declared.plant.Part.TheVariants.{Wire}
use Rattle.spool_plant.specs.View.{View, given_now, taken_now}
use Rattle.spool_plant.specs.Acts.{Goes, SameWires}
use Rattle.mas_types.specs.declared.queues.Thing.TheVariants.{Deck}
use Rattle.track_groups.specs.Places.{groups_of}
use Rattle.mas_complex.specs.Parts.{Parts}
use Rattle.job_outcome.specs.declared.outcomes.Read.{Read}
use Rattle.job_outcome.specs.declared.outcomes.Read.TheVariants as read
use Rattle.member_node.specs.declared.member.Member.{Member}
use Rattle.member_node.specs.declared.member.NodeNo.{NodeNo}
use Rattle.member_node.specs.declared.member.NodeNo.TheVariants.{BothLost, ConsoleFault, Halted, NoMemory}
use Rattle.member_node.specs.Calls.{none_lost}
use Rattle.member_node.specs.Spares.{SparesBut}
use Rattle.member_node.proofs.CourseLemmas.{rose_later}
use Rattle.member_node.proofs.SpareLemmas.{sparing_more, sparing_none, sparing_then}
use Rattle.member_decks.specs.Steps.{SpoolStops}
use Rattle.member_acts.specs.Rounds.{IsReadAs, names_read}
use Rattle.nje_frames.specs.declared.frames.Frame.{Frame}
use Rattle.step_turns.specs.Serving.{unread}
use Rattle.step_turns.specs.declared.states.Found.{Found}
use Rattle.step_turns.specs.declared.states.Offer.{Offer}
use Rattle.member_acts.specs.Whole.{queue_of}
use Rattle.member_acts.specs.Asides.{HasRead, wire_found}
use Rattle.member_wires.specs.declared.acts.End.{End}
use Rattle.member_wires.specs.Acts.{AreOnLine, GivenBy, GivesBytes, HasGivenBytes, HasLineFailed, IsHeard, StopsBeside}
use Rattle.member_wires.specs.Asides.{Exchanged, FindsOffered, GaveBy, HasMoved, IsFoundHeard, end_of, job_bytes, offered_bytes}
use Rattle.member_wires.proofs.OnLine.{on_line_none, on_line_then}
use Rattle.member_wires.proofs.Reading.{on_line_read}

-- ANSWERS

-- a call that ended with an error after acts in which nobody was stopped
stops_after : (S T : Type 0) (names : T → ℕ → Bool) (e : NodeNo) (by : ℕ) (old mid new : View) → Goes old mid → SparesBut by false none_lost old mid → StopsBeside {T = S} (Err e) by mid new → SpoolStops {T = T} names (Err e) by old new
stops_after S T names NoMemory by old mid new goes one two = sparing_then by false none_lost old mid new one two
stops_after S T names Halted by old mid new goes one two = (sparing_then by true none_lost old mid new one two.0, rose_later (old.stops by) (mid.stops by) (new.stops by) (goes.stops by) two.1)
stops_after S T names BothLost by old mid new goes one two = absurd two
stops_after S T names ConsoleFault by old mid new goes one two = absurd two

-- a text that was read names no volume
lines_spare : (text : List (List ℕ)) (by : ℕ) (old new : View) → SparesBut by false (names_read (read.Lines text)) old new → SparesBut by false none_lost old new
lines_spare text by old new spares = sparing_more by false (names_read (read.Lines text)) none_lost old new (λ n other. refl) spares

spare_lines : (text : List (List ℕ)) (by : ℕ) (old new : View) → SparesBut by false none_lost old new → SparesBut by false (names_read (read.Lines text)) old new
spare_lines text by old new spares = sparing_more by false none_lost (names_read (read.Lines text)) old new (λ n other. refl) spares

failed_later : (l : ℕ) (old mid new : View) → Goes old mid → HasLineFailed l mid new → HasLineFailed l old new
failed_later l old mid new goes failed = record { lost = failed.lost; rose = rose_later (old.faults (Wire l)) (mid.faults (Wire l)) (new.faults (Wire l)) (goes.faults (Wire l)) failed.rose }

-- WHAT MOVED

given_gave : (r : Result Bool NodeNo) (bytes : List ℕ) (n : ℕ) → GivenBy r bytes n → GaveBy r bytes n
given_gave (Ok false) bytes n given = given
given_gave (Ok true) bytes n given = given
given_gave (Err NoMemory) bytes n given = inl given
given_gave (Err Halted) bytes n given = given
given_gave (Err BothLost) bytes n given = absurd given
given_gave (Err ConsoleFault) bytes n given = absurd given

-- all of the bytes were given
whole_gave : (r : Result Bool NodeNo) (bytes : List ℕ) (by : ℕ) (old new : View) → StopsBeside r by old new → GaveBy r bytes (length bytes)
whole_gave (Ok false) bytes by old new stops = refl
whole_gave (Ok true) bytes by old new stops = omega arith
whole_gave (Err NoMemory) bytes by old new stops = inr refl
whole_gave (Err Halted) bytes by old new stops = omega arith
whole_gave (Err BothLost) bytes by old new stops = absurd stops
whole_gave (Err ConsoleFault) bytes by old new stops = absurd stops

-- none were, where there were none to give
none_gave : (T : Type 0) (names : T → ℕ → Bool) (e : NodeNo) (by : ℕ) (old new : View) → SpoolStops {T = T} names (Err e) by old new → GaveBy (Err e) [] 0
none_gave T names NoMemory by old new stops = inl refl
none_gave T names Halted by old new stops = omega arith
none_gave T names BothLost by old new stops = absurd stops
none_gave T names ConsoleFault by old new stops = absurd stops

-- nothing moved
moved_none : (end : End) (bytes : List ℕ) (old new : View) (r : Result Bool NodeNo) → SameWires old new → GaveBy r bytes 0 → HasMoved end bytes [] old new r
moved_none end bytes old new r same gave = record {
  gave = 0;
  by_answer = gave;
  first = inl refl;
  given = same.given end.line end.by.0 ∙ sym (append-nil (given_now old end.line end.by.0));
  taken = same.taken end.line end.by.0 ∙ sym (append-nil (taken_now old end.line end.by.0));
  waited = sym (same.waiting end.line);
}

-- bytes were given after a text was read, and none taken
moved_given : (end : End) (bytes : List ℕ) (old mid new : View) (r : Result Bool NodeNo) → SameWires old mid → HasGivenBytes end bytes mid new r → HasMoved end bytes [] old new r
moved_given end bytes old mid new r same given = record {
  gave = given.count;
  by_answer = given_gave r bytes given.count given.by_answer;
  first = inl refl;
  given = given.given ∙ ap (λ (all : List ℕ). all ++ take given.count bytes) (same.given end.line end.by.0);
  taken = given.taken ∙ same.taken end.line end.by.0 ∙ sym (append-nil (taken_now old end.line end.by.0));
  waited = sym (given.waiting end.line ∙ same.waiting end.line);
}

-- all of these bytes were given, and none taken
pub record HasGivenAll (told : Type 0) (end : End) (bytes : List ℕ) (old new : View) : Type 0 where
  pub acts : AreOnLine told end old new
  pub spares : SparesBut end.by.0 false none_lost old new
  pub given : told → given_now new end.line end.by.0 ≡ given_now old end.line end.by.0 ++ bytes
  pub taken : told → taken_now new end.line end.by.0 ≡ taken_now old end.line end.by.0
  pub waiting : told → new.waiting end.line ≡ old.waiting end.line

-- there were none to give
pub given_none : (told : Type 0) (end : End) (v : View) → HasGivenAll told end [] v v
given_none told end v = record {
  acts = on_line_none told end v;
  spares = sparing_none end.by.0 v;
  given = λ t. sym (append-nil (given_now v end.line end.by.0));
  taken = λ t. refl;
  waiting = λ t. refl;
}

-- a job whose text couldn't be read has no frame
no_frame : (l : ℕ) (o : Offer) (text : Read) → ((lines : List (List ℕ)) → text ≡ read.Lines lines → ⊥) → offered_bytes l (Some o) (Some text) ≡ []
no_frame l o (read.Lines lines) cut = absurd (cut lines refl)
no_frame l o (read.Gone group) cut = refl
no_frame l o (read.Lost volume) cut = refl

cut_short : (o : Offer) (text : Read) → ((lines : List (List ℕ)) → text ≡ read.Lines lines → ⊥) → unread (Some o) text ≢ None
cut_short o (read.Lines lines) cut e = absurd (cut lines refl)
cut_short o (read.Gone group) cut e = absurd (cc)
cut_short o (read.Lost volume) cut e = absurd (cc)

module _ {P C : Type 0} (plants : PlantGhosts P) (x y : Parts P C) (m : Member) (l : ℕ) (was is : Option (List ℕ)) where
  abbrev V : View
  V = plants.view x.plant

  abbrev W : View
  W = plants.view y.plant

  -- TAKING, after all bytes of the frame were given

  module _ (offer : Option Offer) (text : List (List ℕ)) (mid : View) (gave : HasGivenAll plants.tells (end_of m l) (offered_bytes l offer (Some (read.Lines text))) V mid)
      (finds : FindsOffered plants x y m offer (read.Lines text)) where
    abbrev bytes : List ℕ
    bytes = offered_bytes l offer (Some (read.Lines text))

    moved_all : (frames : List Frame) (r : Result Bool NodeNo) (h : IsHeard plants.tells (end_of m l) mid W was is frames r) → plants.tells → HasMoved (end_of m l) bytes h.bytes V W r
    moved_all frames r h t = record {
      gave = length bytes;
      by_answer = whole_gave r bytes m.id.0 mid W h.stops;
      first = inr refl;
      given = h.took.given t ∙ gave.given t ∙ ap (λ (more : List ℕ). given_now V l m.id.0 ++ more) (sym (take-length bytes));
      taken = h.took.taken t ∙ ap (λ (all : List ℕ). all ++ h.bytes) (gave.taken t);
      waited = sym (gave.waiting t) ∙ h.took.waited t;
    }

    heard_ok : unread offer (read.Lines text) ≡ None → (lost : Bool) (frames : List Frame) → IsHeard plants.tells (end_of m l) mid W was is frames (Ok lost) → Exchanged plants x y m l offer was is (Ok (wire_found (read.Lines text) lost frames))
    heard_ok readable lost frames h = record {
      acts = on_line_then plants.tells (end_of m l) V mid W gave.acts h.acts;
      stops = spare_lines text m.id.0 V W (sparing_then m.id.0 false none_lost V mid W gave.spares h.stops);
      text = Some (read.Lines text);
      took = h.bytes;
      there = finds;
      few = h.few;
      moved = moved_all frames (Ok lost) h;
      finds = record {
        only = refl;
        is_read = refl;
        failed = λ e. failed_later l V mid W gave.acts.goes (h.heard.2 e);
        heard = inr (record { readable = readable; reads = h.heard.0; frames = h.heard.1; all = h.heard.3 });
      };
    }

    heard_err : (e : NodeNo) → IsHeard plants.tells (end_of m l) mid W was is [] (Err e) → Exchanged plants x y m l offer was is (Err e)
    heard_err e h = record {
      acts = on_line_then plants.tells (end_of m l) V mid W gave.acts h.acts;
      stops = stops_after Bool Found (λ found. names_read found.read) e m.id.0 V mid W gave.acts.goes gave.spares h.stops;
      text = Some (read.Lines text);
      took = h.bytes;
      there = finds;
      few = h.few;
      moved = moved_all [] (Err e) h;
      finds = tt;
    }

    -- by its answer
    pub heard_ends : unread offer (read.Lines text) ≡ None → (r : Result Found NodeNo) → IsFoundHeard plants.tells (end_of m l) mid W was is (read.Lines text) r → Exchanged plants x y m l offer was is r
    heard_ends readable (Ok found) h = subst (λ (f : Found). Exchanged plants x y m l offer was is (Ok f)) (sym h.only) (heard_ok readable found.wire found.frames h.heard)
    heard_ends readable (Err e) h = heard_err e h.heard

  -- THE TEXT COULDN'T BE READ

  pub text_err : (o : Offer) (e : NodeNo) → HasRead plants x y m o.job (Err e) → Exchanged plants x y m l (Some o) was is (Err e)
  text_err o e r = record {
    acts = on_line_read plants.tells (end_of m l) V W r.acts r.reads;
    stops = r.cause;
    text = None;
    took = [];
    there = tt;
    few = omega arith;
    moved = λ t. moved_none (end_of m l) [] V W (Err e) (r.acts.wires t) (none_gave Found (λ found. names_read found.read) e m.id.0 V W r.cause);
    finds = tt;
  }

  pub text_cut : (o : Offer) (found : Found) → HasRead plants x y m o.job (Ok found) → ((lines : List (List ℕ)) → found.read ≡ read.Lines lines → ⊥) → is ≡ was → Exchanged plants x y m l (Some o) was is (Ok (wire_found found.read false []))
  text_cut o found r cut still = record {
    acts = on_line_read plants.tells (end_of m l) V W r.acts r.reads;
    stops = r.cause;
    text = Some found.read;
    took = [];
    there = (r.finds.failed, r.finds.read);
    few = omega arith;
    moved = λ t. moved_none (end_of m l) (offered_bytes l (Some o) (Some found.read)) V W (Ok false) (r.acts.wires t) (sym (ap length (no_frame l o found.read cut)));
    finds = record {
      only = refl;
      is_read = refl;
      failed = λ e. absurd (cc);
      heard = inl (record { why = inl (cut_short o found.read cut); nothing = refl; reader = still; frames = refl });
    };
  }

  -- THE FRAME, after the text was read

  module _ (z : Parts P C) (o : Offer) (found : Found) (text : List (List ℕ)) (r : HasRead plants x z m o.job (Ok found)) (same : found.read ≡ read.Lines text) where
    abbrev Z : View
    Z = plants.view z.plant

    read_on_line : AreOnLine plants.tells (end_of m l) V Z
    read_on_line = on_line_read plants.tells (end_of m l) V Z r.acts r.reads

    read_spares : SparesBut m.id.0 false none_lost V Z
    read_spares = lines_spare text m.id.0 V Z (subst (λ (t : Read). SparesBut m.id.0 false (names_read t) V Z) same r.cause)

    pub offered_there : FindsOffered plants x y m (Some o) (read.Lines text)
    offered_there = (tt, λ t roomy j there. subst (λ (k : Read). IsReadAs plants.tells x.base.config.groups (j.text, groups_of (Deck o.job) (queue_of x).owners) (Some k) V Z) same (r.finds.read t roomy j there))

    pub frame_err : (e : NodeNo) → GivesBytes plants.tells (end_of m l) (job_bytes o text) Z W (Err e) → Exchanged plants x y m l (Some o) was is (Err e)
    frame_err e g = record {
      acts = on_line_then plants.tells (end_of m l) V Z W read_on_line g.acts;
      stops = stops_after Bool Found (λ found. names_read found.read) e m.id.0 V Z W read_on_line.goes read_spares g.stops;
      text = Some (read.Lines text);
      took = [];
      there = offered_there;
      few = omega arith;
      moved = λ t. moved_given (end_of m l) (job_bytes o text) V Z W (Err e) (r.acts.wires t) (g.gave t);
      finds = tt;
    }

    pub frame_lost : GivesBytes plants.tells (end_of m l) (job_bytes o text) Z W (Ok true) → is ≡ was → Exchanged plants x y m l (Some o) was is (Ok (wire_found (read.Lines text) true []))
    frame_lost g still = record {
      acts = on_line_then plants.tells (end_of m l) V Z W read_on_line g.acts;
      stops = spare_lines text m.id.0 V W (sparing_then m.id.0 false none_lost V Z W read_spares g.stops);
      text = Some (read.Lines text);
      took = [];
      there = offered_there;
      few = omega arith;
      moved = λ t. moved_given (end_of m l) (job_bytes o text) V Z W (Ok true) (r.acts.wires t) (g.gave t);
      finds = record {
        only = refl;
        is_read = refl;
        failed = λ e. failed_later l V Z W read_on_line.goes g.failed;
        heard = inl (record { why = inr refl; nothing = refl; reader = still; frames = refl });
      };
    }

    pub frame_given : (u : View) → GivesBytes plants.tells (end_of m l) (job_bytes o text) Z u (Ok false) → HasGivenAll plants.tells (end_of m l) (job_bytes o text) V u
    frame_given u g = record {
      acts = on_line_then plants.tells (end_of m l) V Z u read_on_line g.acts;
      spares = sparing_then m.id.0 false none_lost V Z u read_spares g.stops;
      given = λ t.
          let h = g.gave t in
          h.given ∙ ap (λ (n : ℕ). given_now Z l m.id.0 ++ take n (job_bytes o text)) h.by_answer ∙ ap (λ (more : List ℕ). given_now Z l m.id.0 ++ more) (take-length (job_bytes o text)) ∙ ap (λ (all : List ℕ). all ++ job_bytes o text) ((r.acts.wires t).given l m.id.0);
      taken = λ t. (g.gave t).taken ∙ (r.acts.wires t).taken l m.id.0;
      waiting = λ t. (g.gave t).waiting l ∙ (r.acts.wires t).waiting l;
    }
