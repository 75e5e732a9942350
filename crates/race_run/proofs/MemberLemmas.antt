-- The lines of one member at the last value of a race.
use Rattle.std.proofs.Common.{◌≡◌, ◌∙◌, ℕ, Bool, false, List, [], ◌++◌, length, Result, refl, sym, ap, arith}
use Rattle.std.specs.Result.{is_err}
use Rattle.mas_types.specs.declared.ids.MemberId.{MemberId}
use Rattle.mas_types.specs.declared.journals.Entry.{Entry}
use Rattle.mas_types.specs.declared.queues.Queue.{Queue}
use Rattle.gate_facts.specs.declared.facts.Facts.{Facts}
use Rattle.gate_facts.specs.Memory.{Memory}
use Rattle.gate_facts.specs.Values.{StartsWith, begun_of, lines_of as said_of}
use Rattle.member_node.specs.declared.member.NodeNo.{NodeNo}
use Rattle.script_lang.specs.declared.types.Step.{Step}
use Rattle.run_turns.specs.Cuts.{entries_of}
use Rattle.race_turns.specs.Turns.{Stage, Turn}
use Rattle.race_turns.specs.Races.{HasRaced, Leaves, Standing, Taken, begins, lines_of, whole_texts}
use Rattle.race_turns.specs.Sides.{Follows, HasSides, Side, StandsAs, taken_of}
use Rattle.race_turns.proofs.Histories.{one_history}
use Rattle.race_run.specs.Racing.{AreRaced, HasEnded, side_in}

-- what a member's pass remembers that has taken no turn: its member isn't stopped, and has begun, said and printed nothing
pub record IsNewPass (m : MemberId) (from : ℕ) (y : Memory) : Type 0 where
  pub seen : length y.seen ≡ from
  pub begun : y.begun m.0 ≡ []
  pub said : y.lines m.0 ≡ []
  pub printed : (y.desk m.0).printed ≡ 0
  pub stopped : y.stopped m.0 ≡ false

-- what the last value has of a member whose pass remembered this
pub record HasOf (m : MemberId) (y : Memory) (is : Facts) : Type 0 where
  pub kept : StartsWith is.kept y.seen
  pub begun : begun_of is m.0 ≡ y.begun m.0
  pub said : said_of is m.0 ≡ y.lines m.0

-- so it has of the member what its turns left
pub record HasAllOf (base : Queue) (m : MemberId) (saw : Queue → Stage → Taken → Turn → Type 0) (from : ℕ)
    (steps : List Step) (ended : Bool) (is : Facts) : Type 0 where
  pub all : Leaves
  pub raced : HasRaced base is.kept m saw from steps ended all
  pub begun : begun_of is m.0 ≡ entries_of all.batches
  pub said : said_of is m.0 ≡ whole_texts all.lines

pub one_raced : (base : Queue) (m : MemberId) (saw : Queue → Stage → Taken → Turn → Type 0) (from : ℕ)
    (steps : List Step) (was y : Memory) (result : Result (Unit {0}) NodeNo) (is : Facts) → IsNewPass m from was
    → AreRaced base m saw 1 steps was y result → HasOf m y is
    → HasAllOf base m saw from steps (is_err result) is
one_raced base m saw from steps was y result is new raced has =
    let at : Standing = begins from m steps in
    let e : HasEnded base m saw (is_err result) at was y = raced at refl refl in
    let s : Side = side_in m was in
    let last : Side = side_in m y in
    let end : Side = record {
      kept = is.kept;
      begun = begun_of is m.0;
      said = said_of is m.0;
      count = last.count;
      stopped = last.stopped;
    } in
    let follows : Follows last end = record {
      kept = has.kept;
      begun = has.begun;
      said = has.said;
      stopped = refl;
      count = λ up. refl;
    } in
    let stands : StandsAs at s = record {
      from = omega (arith, new.seen);
      stopped = sym new.stopped;
      printed = λ up. sym new.printed;
    } in
    let h : HasSides base m saw (is_err result) s at (lines_of m 1 steps) e.turns e.all end =
    one_history base m saw (is_err result) s at (lines_of m 1 steps) e.turns e.all last end stands e.took follows in
    record {
      all = e.all;
      raced = record { turns = taken_of e.turns; takes = h.takes };
      begun = h.begun ∙ ap (λ (es : List Entry). es ++ entries_of e.all.batches) new.begun;
      said = h.said ∙ ap (λ (ts : List (List ℕ)). ts ++ whole_texts e.all.lines) new.said;
    }
