-- A line of a member, turn by turn.
use Rattle.std.proofs.Common.{◌≡◌, ◌∙◌, ℕ, ◌+◌, ◌<◌, ◌≤◌, Bool, true, List, [], ◌∷◌, ◌++◌, Option, Some, Result, Ok, Err, IfOk, sym, ap, subst, arith}
use Rattle.std.proofs.lemmas.List.Elements.{All-weaker}
use Rattle.mas_types.specs.declared.ids.MemberId.{MemberId}
use Rattle.mas_types.specs.declared.journals.Entry.{Entry}
use Rattle.mas_types.specs.declared.queues.Queue.{Queue}
use Rattle.mas_types.specs.Limits.{steps_most}
use Rattle.lock_cycle.specs.Books.{Book}
use Rattle.script_lang.specs.declared.types.Ask.{Ask}
use Rattle.spool_plant.specs.Acts.{Goes}
use Rattle.spool_plant.specs.View.{View}
use Rattle.spool_plant.specs.declared.plant.Plant.{Ghosts as PlantGhosts}
use Rattle.ckpt_copy.specs.declared.copying.Copying.{Ghosts as CopyGhosts}
use Rattle.ckpt_form.specs.declared.steady.Steady.{Ghosts as SteadyGhosts}
use Rattle.mas_complex.specs.declared.complex.Complex.{Complex}
use Rattle.mas_complex.specs.Parts.{parts_of, shown_of}
use Rattle.gate_facts.specs.Memory.{IsLeft, Knows, Memory}
use Rattle.gate_facts.specs.Values.{marked_at}
use Rattle.gate_turns.specs.Shared.{facts_of}
use Rattle.member_node.specs.declared.member.Member.{Member}
use Rattle.member_node.specs.declared.member.NodeNo.{NodeNo}
use Rattle.member_racing.specs.Found.{IsFoundAt}
use Rattle.race_turns.specs.Turns.{Closed, Stage, Turn}
use Rattle.race_turns.specs.Races.{Asked, Standing, Taken, none, queue_at, stage_left, stands_then, then_left}
use Rattle.race_turns.specs.Sides.{AreTaken, Follows, Side, Sided, Takes, TakesOn, and_then}
use Rattle.race_turns.proofs.Histories.{on_and_on, on_to_end}
use Rattle.member_racing.specs.Asked.{IsAsked}
use Rattle.member_racing.specs.Stages.{Raced, stage_of}
use Rattle.member_racing.specs.Turned.{AddsOwn, Costs, IfActed, IsCutBy, TakesTurn, shows, standing_in}
use Rattle.member_racing.specs.Turning.{raced_at}
use Rattle.member_racing.specs.Waits.{Waits, given_by}
use Rattle.member_racing.specs.declared.stages.Stage.{Stage as Stands}
use Rattle.member_racing.specs.declared.stages.Stage.TheVariants as line
use Rattle.race_run.specs.Races.{IsSeen, StopsBy, seen_in}
use Rattle.race_run.specs.Racing.{GoesOn, HasClosed, HasEnded, MayBegin, MayOpen, MayRace, asked_at, side_in}
use Rattle.race_run.proofs.TurnLemmas.{closed_then, cut_ends, cut_goes_on, cut_stops, known_follows, left_side, one_end, one_on, stands_still, takes_at}

-- WHERE A MEMBER WAITS

module _ {P C : Type 0} {plants : PlantGhosts P} {steadies : SteadyGhosts C} {copies : CopyGhosts C} where
  -- one that may begin waits at any of its lines
  pub waits_first : (x : Complex P C plants steadies copies) (m : Member) (from number : ℕ) (what : Ask)
      → MayBegin x m from → from ≤ number → number ≤ steps_most → IsAsked x.base m.id what
      → Waits x m number what line.Opens
  waits_first x m from number what b le few asked = record {
    config = b.config;
    sound = b.sound;
    member = b.member;
    few = few;
    asked = asked;
    ease = b.ease;
    given = All-weaker (λ (e : Entry). e.step < from) (λ (e : Entry). e.step ≤ number) (λ e less. omega (arith, le, less)) (given_by plants copies (parts_of x) m.id) b.given;
    earlier = λ down. All-weaker (λ (e : Entry). e.step < from) (λ (e : Entry). e.step < number) (λ e less. omega (arith, le, less)) (given_by plants copies (parts_of x) m.id) b.given;
    untold = λ later at most. b.untold later (omega (arith, le, at)) most;
    stands = tt;
  }

  -- once its line has closed it may begin with the next one
  pub begins_next : (x : Complex P C plants steadies copies) (m : Member) (number : ℕ) (what : Ask)
      → Waits x m number what line.Closed → MayBegin x m (number + 1)
  begins_next x m number what w = record {
    config = w.config;
    sound = w.sound;
    member = w.member;
    ease = w.ease;
    given = All-weaker (λ (e : Entry). e.step ≤ number) (λ (e : Entry). e.step < number + 1) (λ e le. omega (arith, le)) (given_by plants copies (parts_of x) m.id) w.given;
    untold = w.untold;
  }

  pub opens_later : (x : Complex P C plants steadies copies) (m : Member) (from at : ℕ) → from ≤ at
      → MayOpen x m from → MayOpen x m at
  opens_later x m from at le opens number what more most asked = opens number what (omega (arith, le, more)) most asked

  pub opens_next : (x : Complex P C plants steadies copies) (m : Member) (number : ℕ) (what : Ask)
      → Waits x m number what line.Closed → MayOpen x m (number + 1)
  opens_next x m number what w next then_what le most asked =
      waits_first x m (number + 1) next then_what (begins_next x m number what w) le most asked

  -- what is known of one who takes turns stays known, whatever it may find then
  pub may_on : (finds then_finds rests : Complex P C plants steadies copies → Type 0)
      (follows then_follows : Complex P C plants steadies copies → Complex P C plants steadies copies → Type 0)
      (bound then_bound : Option ℕ) (cares then_cares : Bool → List Bool) (entry : View) (base then_base : Queue) (m n : Member) (at next : ℕ)
      → MayRace finds follows rests bound cares entry base m at → then_follows ≡ follows → then_bound ≡ bound
      → ((told : Bool) → then_cares told ≡ cares told) → n.id ≡ m.id
      → ((x : Complex P C plants steadies copies) → then_finds x → x.base ≡ then_base → MayOpen x n next)
      → MayRace then_finds then_follows rests then_bound then_cares entry then_base n next
  may_on finds then_finds rests follows then_follows bound then_bound cares then_cares entry base then_base m n at next may same bound_is cares_are id first = record {
    is_bound = bound_is ∙ may.is_bound ∙ ap (λ (k : MemberId). Some k.0) (sym id);
    cared = λ told. ap (λ (c : List Bool). marked_at c n.id.0) (cares_are told) ∙ subst (λ (k : MemberId). marked_at (cares told) k.0 ≡ true) (sym id) (may.cared told);
    somebody = subst (λ (k : MemberId). 0 < k.0) (sym id) may.somebody;
    first = first;
    next = λ x y o number what s is rests_at goes waits.
        may.next x y o number what s (is ∙ id) rests_at (subst (λ (f : Complex P C plants steadies copies → Complex P C plants steadies copies → Type 0). f x y) same goes) waits;
    between = may.between;
    since = may.since;
    keeps = λ x y r rests_at between costs adds.
        may.keeps x y r rests_at between (subst (λ (k : MemberId). Costs k x y r) id costs) (subst (λ (k : MemberId). AddsOwn k x y) id adds);
  }

-- ONE TURN OF A LINE

module _ {P C : Type 0} {plants : PlantGhosts P} {steadies : SteadyGhosts C} {copies : CopyGhosts C} (entry : View)
    (by : MemberId) (number : ℕ) (what : Ask) (stands : Stands) (x y : Complex P C plants steadies copies)
    (result : Result Stands NodeNo) (t : TakesTurn (raced_at by number what stands) x y result) where
  abbrev here : Raced
  here = raced_at by number what stands

  abbrev K : List Entry
  K = (shows by y).kept

  -- what is seen of it
  pub seen_turn : Goes entry (plants.view x.plant) → Costs by x y result
      → IsSeen x.base.config.groups entry by (queue_at x.base K by t.taken.place) (stage_of stands) t.taken t.turn
  seen_turn since costs =
      let v : View = plants.view x.plant in
      let w : View = plants.view y.plant in
      let found : View → View → Book → Type 0 = λ old new b. IfActed b (stage_of stands)
      (λ s. IsFoundAt x.base.config.groups by old new (queue_at x.base K by t.taken.place) s t.taken.found) in
      record {
        since = subst (Goes entry) (sym t.views.0) since;
        goes = subst (λ (z : View). Goes z t.taken.new) (sym t.views.0) (subst (Goes v) (sym t.views.1) costs.passage.goes);
        others = λ m other. ap (λ (z : View). z.stops m) t.views.1 ∙ costs.others m other ∙ ap (λ (z : View). z.stops m) (sym t.views.0);
        stops = subst (λ (z : View). StopsBy t.taken.cut by z t.taken.new) (sym t.views.0)
            (subst (StopsBy t.taken.cut by v) (sym t.views.1) (cut_stops by t.taken.cut v w result t.cut));
        found = subst (λ (b : Book). found t.taken.old t.taken.new b) (sym t.book)
            (subst (λ (z : View). found z t.taken.new x.book) (sym t.views.0)
            (subst (λ (z : View). found v z x.book) (sym t.views.1) t.honest));
      }

  -- it goes on at the line, or closes it, or the run ends in it for the member
  module _ (was y0 y1 : Memory) (some : 0 < by.0) (cared0 : marked_at y0.cares by.0 ≡ true)
      (cared1 : marked_at y1.cares by.0 ≡ true) (knows : Knows by.0 y0 (facts_of true (shown_of x)))
      (left : IsLeft by.0 y1 (facts_of true (shown_of y))) (since : Goes entry (plants.view x.plant))
      (costs : Costs by x y result) where
    abbrev saw : Queue → Stage → Taken → Turn → Type 0
    saw = seen_in x.base entry by

    found : Follows (side_in by y0) (shows by x)
    found = known_follows by y0 (facts_of true (shown_of x)) some cared0 knows

    leaves : side_in by y1 ≡ shows by y
    leaves = left_side by y1 (facts_of true (shown_of y)) cared1 left

    module _ (at : Standing) (a_lines : List Asked) (first : at.lines ≡ asked_at number what ∷ a_lines)
        (g : GoesOn x.base by saw (stage_of stands) at was y0) where
      -- the turn, with what it found and left
      abbrev this : Sided
      this = record { taken = t.taken; was = shows by x; is = shows by y }

      takes : Takes x.base by g.stands (asked_at number what) t.taken t.turn t.left (shows by x) (shows by y)
      takes = takes_at x.base by (standing_in here) g.stands (asked_at number what) t.taken t.turn t.left (shows by x) (shows by y) g.stage t.takes

      at_line : g.stands.lines ≡ asked_at number what ∷ a_lines
      at_line = g.rest ∙ first

      is_seen : saw (queue_at x.base K by t.taken.place) g.stands.stage t.taken t.turn
      is_seen = subst (λ (s : Stage). saw (queue_at x.base K by t.taken.place) s t.taken t.turn) (sym g.stage) (seen_turn since costs)

      abbrev then_stands : Standing
      then_stands = stands_then g.stands t.taken t.turn t.left

      -- the turn after those before it
      goes_to : (done : Stands) → result ≡ Ok done
          → TakesOn x.base by saw (side_in by was) at (g.turns ++ this ∷ []) (and_then g.all (then_left t.left none)) (side_in by y1) then_stands
      goes_to done ok =
          let on = one_on x.base by saw (side_in by y0) (shows by x) (shows by y) g.stands (asked_at number what) a_lines t.taken t.turn t.left found at_line takes is_seen
          (cut_goes_on by t.taken.cut (plants.view x.plant) (plants.view y.plant) done (subst (λ (r : Result Stands NodeNo). IsCutBy r by t.taken.cut (plants.view x.plant) (plants.view y.plant)) ok t.cut)) in
          subst (λ (z : Side). TakesOn x.base by saw (side_in by was) at (g.turns ++ this ∷ []) (and_then g.all (then_left t.left none)) z then_stands) (sym leaves)
          (on_and_on x.base by saw (side_in by was) (side_in by y0) (shows by y) at g.stands then_stands g.turns (this ∷ []) g.all (then_left t.left none) g.took on)

      next_is : (done : Stands) → result ≡ Ok done → stage_of done ≡ stage_left t.taken.cut t.turn.next
      next_is done ok = subst (λ (r : Result Stands NodeNo). IfOk r (λ s. stage_of s ≡ stage_left t.taken.cut t.turn.next)) ok t.next

      pub turn_goes_on : (done : Stands) → result ≡ Ok done → (stage_of done ≡ Closed → ⊥)
          → GoesOn x.base by saw (stage_of done) at was y1
      turn_goes_on done ok other =
          let still = stands_still g.stands (asked_at number what) a_lines t.taken t.turn t.left (stage_of done) other (next_is done ok) in
          record {
            turns = g.turns ++ this ∷ [];
            all = and_then g.all (then_left t.left none);
            stands = then_stands;
            took = goes_to done ok;
            stage = still.0;
            rest = still.1 ∙ g.rest;
          }

      pub turn_closes : (done : Stands) → result ≡ Ok done → stage_of done ≡ Closed
          → HasClosed x.base by saw at a_lines was y1
      turn_closes done ok closed =
          let then_so = closed_then g.stands (asked_at number what) a_lines t.taken t.turn t.left (sym closed ∙ next_is done ok) at_line in
          record {
            turns = g.turns ++ this ∷ [];
            all = and_then g.all (then_left t.left none);
            stands = then_stands;
            took = goes_to done ok;
            opens = then_so.0;
            rest = then_so.1;
          }

      pub turn_ends : (e : NodeNo) → result ≡ Err e → HasEnded x.base by saw true at was y1
      turn_ends e err =
          let last = one_end x.base by saw (side_in by y0) (shows by x) (shows by y) g.stands (asked_at number what) a_lines t.taken t.turn t.left found at_line takes is_seen
          (cut_ends Stands by t.taken.cut (plants.view x.plant) (plants.view y.plant) e (subst (λ (r : Result Stands NodeNo). IsCutBy r by t.taken.cut (plants.view x.plant) (plants.view y.plant)) err t.cut)) in
          record {
            turns = g.turns ++ this ∷ [];
            all = and_then g.all (then_left t.left none);
            took = subst (λ (z : Side). AreTaken x.base by saw true (side_in by was) at at.lines (g.turns ++ this ∷ []) (and_then g.all (then_left t.left none)) z) (sym leaves)
                (on_to_end x.base by saw true (side_in by was) (side_in by y0) (shows by y) at g.stands g.turns (this ∷ []) g.all (then_left t.left none) g.took last);
          }
