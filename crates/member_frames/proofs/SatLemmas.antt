-- A sitting of a step that serves a line, as a whole.
use Rattle.std.proofs.Common.{◌≡◌, ◌∙◌, ℕ, ◌+◌, ◌≤◌, ◌<◌, Bool, true, false, List, [], length, take, All, Option, Some, None, Result, Ok, Err, ap, refl, sym, subst, arith}
use Rattle.std.specs.Prelude.{IfOk}
use Rattle.std.proofs.lemmas.List.Elements.{All-take}
use Rattle.mas_types.specs.declared.answers.Closing.{Closing}
use Rattle.mas_types.specs.declared.queues.Queue.{Queue}
use Rattle.mas_types.specs.Fit.{IsLine}
use Rattle.spool_plant.specs.declared.plant.Plant.{Ghosts as PlantGhosts}
use Rattle.ckpt_copy.specs.declared.copying.Copying.{Ghosts as CopyGhosts}
use Rattle.ckpt_form.specs.declared.steady.Steady.{Ghosts as SteadyGhosts}
use Rattle.mas_complex.specs.declared.complex.Complex.{Complex}
use Rattle.mas_complex.specs.Parts.{parts_of}
use Rattle.member_node.specs.declared.member.Member.{Member}
use Rattle.member_node.specs.declared.member.NodeNo.{NodeNo}
use Rattle.member_node.specs.Reads.{too_high}
use Rattle.nje_frames.specs.declared.frames.Frame.{Frame}
use Rattle.nje_frames.specs.Grammar.{IsFrame}
use Rattle.step_turns.specs.Courses.{sittings_most}
use Rattle.step_turns.specs.Laws.{units_done, units_left}
use Rattle.step_turns.specs.Serving.{acknowledged, exchanged, serves_first, taken_most, unless_cut, with_frames}
use Rattle.step_turns.proofs.Served.{take_few}
use Rattle.step_turns.specs.Sittings.{Sitting, sitting_of}
use Rattle.step_turns.specs.declared.states.Aside.{Aside}
use Rattle.step_turns.specs.declared.states.Found.{Found}
use Rattle.step_turns.specs.declared.states.Holder.{Holder}
use Rattle.step_turns.specs.declared.states.Service.{Service}
use Rattle.step_turns.specs.declared.states.State.{State}
use Rattle.step_turns.specs.declared.states.Aside.TheVariants.{Acknowledge, Exchange, PrintLines, ReadText, SpoolArrival, SpoolDeck, SpoolOutputs}
use Rattle.step_turns.specs.declared.states.State.TheVariants.{Away, Fresh, Rested, Told}
use Rattle.step_turns.specs.TurnParts.{Turn}
use Rattle.step_turns.specs.Turns.{aside_turn}
use Rattle.member_sittings.specs.declared.ends.SittingEnd.{SittingEnd}
use Rattle.member_sittings.specs.Sat.{HasSat, resumes}
use Rattle.member_sittings.specs.Shapes.{Says, SaysLine}
use Rattle.member_sittings.specs.Tight.{IfNoWork}
use Rattle.member_sittings.specs.Whole.{queue_of}
use Rattle.member_giving.specs.Plays.{Wrote, wrote_of, to_play}
use Rattle.member_giving.specs.Ready.{HasFewer}
use Rattle.member_giving.specs.Works.{HasRoom, IsLow, outside, place_of}
use Rattle.member_giving.proofs.Sat.{sat_played, sits_as, sitting_as}
use Rattle.member_sittings.specs.Whole.{IsStill}
use Rattle.member_frames.specs.Plays.{IsWithinLine, SatLine, ServesLine, answer_end, ends_or_serves}
use Rattle.member_frames.specs.Waits.{IsServable, WaitsOnLine}
use Rattle.member_frames.proofs.Fronts.{serves_any}

module _ {P C : Type 0} {plants : PlantGhosts P} {steadies : SteadyGhosts C} {copies : CopyGhosts C} where
  -- levels and orders leave room for the frames that may come
  pub line_room : (x : Complex P C plants steadies copies) (m : Member) → IsLow x m → (k : ℕ) → k ≤ 65600 → x.level + k < too_high → HasRoom x m k
  line_room x m low k few level = let order = low.order in let high = low.high in record { order = omega (arith, order, few); high = omega (arith, high, few); level = level }

  -- the rest of a sitting, from its beginning on
  pub sat_line : (x y : Complex P C plants steadies copies) (m : Member) (h : Holder) (most : ℕ) (t : Turn) (w : Wrote) (r : Result SittingEnd NodeNo) → m.batch ≡ [] → IsStill plants copies (parts_of x) m → (plants.tells → w ≡ wrote_of [] t)
      → ServesLine plants.tells most (to_play h 0 w) (place_of x m) (outside y) r → SatLine plants.tells h most t x y r
  sat_line x y m h most t w r nothing work same p = record {
    sitting = sitting_as h p.wrote;
    is = λ told. sits_as h t p.wrote (p.is told ∙ same told);
    of = p.of;
    few = p.within.few;
    says = p.within.says;
    release = refl;
    sat = sat_played x y m h (IsWithinLine h most) w r nothing work p;
  }

  pub sat_more : (told : Type 0) (h : Holder) (most least : ℕ) (t : Turn) (x y : Complex P C plants steadies copies) (r : Result SittingEnd NodeNo) → least ≤ most → SatLine told h least t x y r → SatLine told h most t x y r
  sat_more told h most least t x y r le p = record { sitting = p.sitting; is = p.is; of = p.of; few = let few = p.few in omega (arith, few, le); says = p.says; release = p.release; sat = p.sat }

  pub sat_as : (told : Type 0) (h : Holder) (most : ℕ) (t u : Turn) (x y : Complex P C plants steadies copies) (r : Result SittingEnd NodeNo) → (told → t ≡ u) → SatLine told h most t x y r → SatLine told h most u x y r
  sat_as told h most t u x y r same p = record { sitting = p.sitting; is = λ seen. p.is seen ∙ ap (sitting_of h) (same seen); of = p.of; few = p.few; says = p.says; release = p.release; sat = p.sat }

  -- from the acts that the step waited for
  pub sat_state : (x y : Complex P C plants steadies copies) (h : Holder) (a : Aside) (found : Found) (t : Turn) (r : Result SittingEnd NodeNo) → ((A : Type 0) → IfNoWork (Away a) A) → ((s : Sitting) → SaysLine h s → Says h (Away a) found s)
      → (plants.tells → t ≡ aside_turn h (queue_of (parts_of x)) a found) → SatLine plants.tells h (sittings_most (Away a)) t x y r → HasSat (resumes h a found) x y r
  sat_state x y h a found t r units says same p = record {
    sitting = p.sitting;
    is = λ told. p.is told ∙ ap (sitting_of h) (same told);
    of = p.of;
    shaped = record { few = p.few; says = says p.sitting p.says; release = p.release };
    sat = p.sat;
    tight = units _;
  }

-- WHAT THE MACHINE GIVES after acts

pub exchanged_as : (h : Holder) (end : Option Closing) (l : ℕ) (fs : List Frame) (Q : Queue) → exchanged h.by h.step end l fs Q ≡ ends_or_serves h.by h.step end (with_frames fs (serves_first l)) Q
exchanged_as h (Some end) l fs Q = refl
exchanged_as h None l fs Q = sym (serves_any h.by h.step fs fs (serves_first l) Q 0)

pub acknowledged_as : (h : Holder) (number : Option ℕ) (lost : Bool) (s : Service) (Q : Queue) → acknowledged h.by h.step number lost s Q ≡ ends_or_serves h.by h.step (answer_end number s.line lost) s Q
acknowledged_as h None lost s Q = refl
acknowledged_as h (Some number) true s Q = refl
acknowledged_as h (Some number) false s Q = refl

pub answer_cut : (number l : ℕ) (lost : Bool) → unless_cut l lost None ≡ answer_end (Some number) l lost
answer_cut number l true = refl
answer_cut number l false = refl

-- THE FRAMES THAT CAME

pub heard_few : (fs gs : List Frame) → gs ≡ take taken_most fs → length gs ≤ taken_most
heard_few fs gs is = let few = take_few taken_most fs in let same = ap (λ (l : List Frame). length l) is in omega (arith, few, same)

pub heard_servable : (l : ℕ) (fs gs : List Frame) → IsLine l → All IsFrame fs → gs ≡ take taken_most fs → IsServable (with_frames gs (serves_first l))
heard_servable l fs gs line all is = record {
  line = line;
  frames = subst (All IsFrame) (sym is) (All-take IsFrame taken_most fs all);
  few = let few = heard_few fs gs is in omega (arith, few);
}

-- HOW FAR THE LEVEL COMES

module _ {P C : Type 0} {plants : PlantGhosts P} {steadies : SteadyGhosts C} {copies : CopyGhosts C} where
  pub grown_by : (y : Complex P C plants steadies copies) (was sittings units most : ℕ) (r : Result SittingEnd NodeNo) → units ≤ most → IfOk r (λ e. HasFewer sittings units e.next) → IfOk r (λ e. y.level ≤ was + 1) → IfOk r (λ e. y.level + units_left e.next ≤ was + most + 1)
  grown_by y was sittings units most (Ok e) le fewer level = let few = fewer.few in omega (arith, few, le, level)
  grown_by y was sittings units most (Err why) le fewer level = tt

-- WHERE IT WAITS

pub waits_left : (told : Type 0) (n : Member) (r : Result SittingEnd NodeNo) (s : State) → WaitsOnLine told n s → IfOk r (λ e. e.next ≡ s) → IfOk r (λ e. WaitsOnLine told n e.next)
waits_left told n (Ok e) s waits is = subst (λ (t : State). WaitsOnLine told n t) (sym is) waits
waits_left told n (Err why) s waits is = tt

-- such a state may have as many units as sittings, at most
pub waits_few : (told : Type 0) (n : Member) (s : State) → WaitsOnLine told n s → units_done s + units_left s ≤ sittings_most s
waits_few told n (Fresh task) waits = absurd waits
waits_few told n (Away a) waits = by_aside a waits where
  by_aside : (a : Aside) → WaitsOnLine told n (Away a) → units_done (Away a) + units_left (Away a) ≤ sittings_most (Away a)
  by_aside (Exchange l offer) waits = omega arith
  by_aside (SpoolArrival number job text v) waits = omega arith
  by_aside (Acknowledge number v) waits = omega arith
  by_aside (SpoolDeck job text) waits = absurd waits
  by_aside (ReadText runs job fields p) waits = absurd waits
  by_aside (SpoolOutputs job specs p) waits = absurd waits
  by_aside (PrintLines job output last p) waits = absurd waits
waits_few told n (Rested p) waits = absurd waits
waits_few told n Told waits = omega arith
