-- A text that is read before a frame is given, and bytes that are read as frames.
use Rattle.std.proofs.Common.{◌≡◌, ⊎_elim, inl, inr, ℕ, ◌≤◌, Bool, false, List, [], ◌++◌, length, take, All, Option, Ok, Err, sym, ◌∙◌, ap, subst, arith}
use Rattle.std.proofs.lemmas.List.{length-take-le}
use Rattle.std.proofs.lemmas.List.Elements.{All-from_recursion, All-weaker}
use Rattle.spool_plant.specs.View.{View}
use Rattle.job_outcome.specs.declared.outcomes.Read.{Read}
use Rattle.member_node.specs.declared.member.NodeNo.{NodeNo}
use Rattle.member_node.specs.declared.member.NodeNo.TheVariants.{BothLost, ConsoleFault, Halted, NoMemory}
use Rattle.member_node.proofs.SpareLemmas.{sparing_none}
use Rattle.member_decks.specs.Spooling.{OnVolumes}
use Rattle.member_acts.specs.Reading.{OnlyReads}
use Rattle.nje_frames.specs.declared.frames.Frame.{Frame}
use Rattle.nje_frames.specs.Grammar.{IsFrame}
use Rattle.nje_frames.specs.Laws.{ReadsNothingElse, StandsIn}
use Rattle.nje_frames.specs.Streams.{HasFed, frames_in}
use Rattle.step_turns.specs.Serving.{taken_most}
use Rattle.step_turns.specs.declared.states.Found.{Found}
use Rattle.member_wires.specs.declared.acts.End.{End}
use Rattle.member_wires.specs.declared.acts.Taken.{Taken}
use Rattle.member_wires.specs.Acts.{AreOnLine, IsHeard, ReadsOn, StopsBeside, TakesAll, TakesInto}
use Rattle.member_wires.specs.Asides.{IsFoundHeard}
use Rattle.member_wires.proofs.OnLine.{on_line_none, took_none}
use Rattle.member_acts.specs.Asides.{wire_found}

pub on_line_read : (told : Type 0) (end : End) (old new : View) → OnVolumes told end.by.0 old new → OnlyReads told old new → AreOnLine told end old new
on_line_read told end old new acts reads = record {
  goes = acts.goes;
  else_lost = λ p apart spool. acts.else_lost p spool;
  loses = acts.loses;
  arms = acts.arms;
  first = acts.first;
  second = acts.second;
  reads = reads;
  console = acts.console;
  papers = acts.papers;
  given = λ t w m other. (acts.wires t).given w m;
  taken = λ t w m other. (acts.wires t).taken w m;
  waiting = λ t w other. (acts.wires t).waiting w;
}

-- FRAMES

-- frames that are read are within their limits
pub frames_fit : ReadsNothingElse → (was is : Option (List ℕ)) (bytes : List ℕ) (frames : List Frame) → HasFed was is bytes [] frames → All IsFrame frames
frames_fit only was is bytes frames fed =
    let stream : List ℕ = fed.rest ++ bytes in
    subst (λ (fs : List Frame). All IsFrame fs) (sym fed.gained)
    (All-weaker (StandsIn stream) IsFrame (λ f s. s.fits) (frames_in stream) (All-from_recursion (StandsIn stream) (frames_in stream) (only stream)))

-- HEARING

-- the answer of a call of another type
pub stops_as : (S T : Type 0) (e : NodeNo) (by : ℕ) (old new : View) → StopsBeside {T = S} (Err e) by old new → StopsBeside {T = T} (Err e) by old new
stops_as S T NoMemory by old new stops = stops
stops_as S T Halted by old new stops = stops
stops_as S T BothLost by old new stops = absurd stops
stops_as S T ConsoleFault by old new stops = absurd stops

-- there was no room to take bytes
pub hears_none : (told : Type 0) (end : End) (v : View) (was : Option (List ℕ)) (frames : List Frame) → IsHeard told end v v was was frames (Err NoMemory)
hears_none told end v was frames = record {
  acts = on_line_none told end v;
  stops = sparing_none end.by.0 v;
  bytes = [];
  few = omega arith;
  took = took_none told end v;
  heard = tt;
}

module _ (told : Type 0) (end : End) (into : List ℕ) (old new : View) (was is : Option (List ℕ)) (frames : List Frame) (room : length into ≡ taken_most) where
  -- taking ended with an error
  pub hears_stopped : (e : NodeNo) → TakesInto told end into old new (Err e) → IsHeard told end old new was is frames (Err e)
  hears_stopped e t =
      let few = t.took.1 in
      record {
        acts = t.acts;
        stops = stops_as Taken Bool e end.by.0 old new t.stops;
        bytes = t.took.0;
        few = omega (arith, few, room);
        took = t.took.2;
        heard = tt;
      }

  module _ (taken : Taken) (fits : taken.count ≤ length into) (t : TakesInto told end into old new (Ok taken)) where
    many : length (take taken.count into) ≡ taken.count
    many = length-take-le taken.count into fits

    few_taken : length (take taken.count into) ≤ taken_most
    few_taken = let same = many in omega (arith, same, fits, room)

    -- what was taken couldn't be read, out of memory
    pub hears_unread : IsHeard told end old new was is frames (Err NoMemory)
    hears_unread = record { acts = t.acts; stops = t.stops; bytes = take taken.count into; few = few_taken; took = t.took.0; heard = tt }

    all_taken : taken.lost ≡ false → TakesAll told end taken_most (length (take taken.count into)) new
    all_taken there tells = ⊎_elim (λ (full : taken.count ≡ length into). inl (many ∙ full ∙ room)) (λ (none : new.waiting end.line ≡ []). inr none) (t.took.2 there tells)

    pub hears_all : ReadsOn was is (take taken.count into) frames → All IsFrame frames → IsHeard told end old new was is frames (Ok taken.lost)
    hears_all reads each = record { acts = t.acts; stops = t.stops; bytes = take taken.count into; few = few_taken; took = t.took.0; heard = (reads, each, t.took.1, all_taken) }

-- WHAT WAS FOUND

module _ (told : Type 0) (end : End) (old new : View) (was is : Option (List ℕ)) (text : Read) where
  pub found_err : (frames : List Frame) (e : NodeNo) → IsHeard told end old new was is frames (Err e) → IsFoundHeard told end old new was is text (Err e)
  found_err frames e h = record { only = tt; heard = record { acts = h.acts; stops = h.stops; bytes = h.bytes; few = h.few; took = h.took; heard = tt } }

  pub found_ok : (found : Found) → found ≡ wire_found text false [] → (lost : Bool) (frames : List Frame) → IsHeard told end old new was is frames (Ok lost) → IsFoundHeard told end old new was is text (Ok (record found { wire = lost; frames = frames }))
  found_ok found same lost frames h = record { only = ap (λ (k : Found). record k { wire = lost; frames = frames }) same; heard = h }
