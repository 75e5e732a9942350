-- One turn of a member, by what its pass remembers.
use Rattle.std.proofs.Common.{◌≡◌, ◌∙◌, ⊎_elim, inl, inr, ◌<◌, Bool, true, false, not, List, [], ◌∷◌, drop, Option, Some, None, Result, Ok, Err, refl, sym, ap, subst}
use Rattle.mas_types.specs.declared.ids.MemberId.{MemberId}
use Rattle.mas_types.specs.declared.queues.Queue.{Queue}
use Rattle.spool_plant.specs.View.{View}
use Rattle.gate_facts.specs.declared.facts.Facts.{Facts}
use Rattle.gate_facts.specs.Memory.{IsLeft, Knows, Memory}
use Rattle.gate_facts.specs.Values.{marked_at}
use Rattle.member_node.specs.declared.member.NodeNo.{NodeNo}
use Rattle.run_turns.specs.Cuts.{Left}
use Rattle.run_turns.specs.Sights.{Cause, Cut}
use Rattle.race_turns.specs.Turns.{Acts, Closed, Opens, Sits, Stage, Turn, turn_at}
use Rattle.race_turns.specs.Races.{Asked, Standing, Taken, ends_in, is_stop, lines_after, none, queue_at, stage_left, stage_then, stands_then, then_left, unless_ended}
use Rattle.race_turns.specs.Sides.{AreTaken, Follows, Side, Sided, Takes, TakesOn}
use Rattle.member_racing.specs.Turned.{IsCutBy, side_of}
use Rattle.race_run.specs.Races.{StopsAs, StopsBy}
use Rattle.race_run.specs.Racing.{side_in}

-- WHAT A PASS REMEMBERS OF ITS MEMBER

-- a value that it knows shows the member what follows that
pub known_follows : (m : MemberId) (y : Memory) (is : Facts) → 0 < m.0 → marked_at y.cares m.0 ≡ true
    → Knows m.0 y is → Follows (side_in m y) (side_of m is)
known_follows m y is some cared k = record {
  kept = k.kept;
  begun = k.begun m.0 cared;
  said = k.lines m.0 cared;
  stopped = k.stopped some;
  count = λ up. (k.desk up).printed;
}

-- and what it left the value shows the member
pub left_side : (m : MemberId) (y : Memory) (is : Facts) → marked_at y.cares m.0 ≡ true → IsLeft m.0 y is
    → side_in m y ≡ side_of m is
left_side m y is cared l i = record {
  kept = l.seen i;
  begun = l.begun m.0 cared i;
  said = l.lines m.0 cared i;
  count = (l.desk i).printed;
  stopped = l.stopped i;
}

-- WHERE IT WAS CUT

goes_on : (by : MemberId) (cut : Option Cut) (old new : View) (T : Type 0) (done : T)
    → IsCutBy {T = T} (Ok done) by cut old new → ends_in cut ≡ false
goes_on by None old new T done is = refl
goes_on by (Some cut) old new T done is = ap (λ (c : Cause). not (is_stop c)) is.0

pub cut_goes_on : {T : Type 0} (by : MemberId) (cut : Option Cut) (old new : View) (done : T)
    → IsCutBy (Ok done) by cut old new → ends_in cut ≡ false
cut_goes_on {T} by cut old new done is = goes_on by cut old new T done is

pub cut_ends : (T : Type 0) (by : MemberId) (cut : Option Cut) (old new : View) (e : NodeNo)
    → IsCutBy {T = T} (Err e) by cut old new → ends_in cut ≡ true
cut_ends T by None old new e is = absurd is
cut_ends T by (Some cut) old new e is = ap (λ (c : Cause). not (is_stop c)) is.0

-- so its member was stopped, or it wasn't
pub cut_stops : {T : Type 0} (by : MemberId) (cut : Option Cut) (old new : View) (result : Result T NodeNo)
    → IsCutBy result by cut old new → StopsBy cut by old new
cut_stops by None old new (Ok done) is = is
cut_stops by None old new (Err e) is = absurd is
cut_stops by (Some cut) old new (Ok done) is = subst (λ (c : Cause). StopsAs c by old new) (sym is.0) is.3
cut_stops by (Some cut) old new (Err e) is =
    subst (λ (c : Cause). StopsAs c by old new) (sym is.0) (⊎_elim (λ ends. inl ends.up) (λ unsaid. inr unsaid.stopped) is.2)

-- THE TURN

module _ (base : Queue) (by : MemberId) where
  -- it goes by nothing of where the member stands but by the stage of its line
  pub takes_at : (one at : Standing) (a : Asked) (t : Taken) (turn : Turn) (l : Left) (was is : Side)
      → at.stage ≡ one.stage → Takes base by one a t turn l was is → Takes base by at a t turn l was is
  takes_at one at a t turn l was is same takes = record {
    turn_is = subst
        (λ (s : Stage). turn ≡ turn_at (queue_at base is.kept by t.place) t.book by a.number a.what t.count t.inked t.found s)
        (sym same) takes.turn_is;
    left = takes.left;
    stopped = takes.stopped;
    printed = takes.printed;
    grows = takes.grows;
    behind = takes.behind;
    within = takes.within;
    kept = takes.kept;
    begun = takes.begun;
    said = takes.said;
    count = takes.count;
    stops = takes.stops;
  }

module _ (base : Queue) (by : MemberId) (saw : Queue → Stage → Taken → Turn → Type 0) (s was is : Side)
    (at : Standing) (a : Asked) (lines : List Asked) (t : Taken) (turn : Turn) (l : Left) where
  abbrev no_more : List Sided
  no_more = []

  abbrev pub one : Sided
  one = record { taken = t; was = was; is = is }

  pub one_on : Follows s was → at.lines ≡ a ∷ lines → Takes base by at a t turn l was is
      → saw (queue_at base is.kept by t.place) at.stage t turn → ends_in t.cut ≡ false
      → TakesOn base by saw s at (one ∷ []) (then_left l none) is (stands_then at t turn l)
  one_on found first takes seen goes = (found, (a, lines, turn, l, none, first, takes, seen, refl, goes, (refl, refl, refl)))

  pub one_end : Follows s was → at.lines ≡ a ∷ lines → Takes base by at a t turn l was is
      → saw (queue_at base is.kept by t.place) at.stage t turn → ends_in t.cut ≡ true
      → AreTaken base by saw true s at at.lines (one ∷ []) (then_left l none) is
  one_end found first takes seen ends =
      subst (λ (ls : List Asked). AreTaken base by saw true s at ls (one ∷ []) (then_left l none) is) (sym first) (
        found,
        (
          turn,
          l,
          none,
          takes,
          seen,
          refl,
          subst (λ (b : Bool). unless_ended b ((true ≡ true) × (no_more ≡ no_more) × (none ≡ none) × (is ≡ is))
              (AreTaken base by saw true is (stands_then at t turn l) (stands_then at t turn l).lines [] none is)) (sym ends)
              (refl, refl, refl, refl),
        ),
      )

-- WHERE THE MEMBER STANDS THEN

module _ (at : Standing) (a : Asked) (lines : List Asked) (t : Taken) (turn : Turn) (l : Left) where
  -- its line has closed, and the next one follows
  pub closed_then : Closed ≡ stage_left t.cut turn.next → at.lines ≡ a ∷ lines
      → ((stands_then at t turn l).stage ≡ Opens) × ((stands_then at t turn l).lines ≡ lines)
  closed_then closed first = (
    ap stage_then (sym closed),
    ap (λ (s : Stage). lines_after s at.lines) (sym closed) ∙ ap (drop 1) first,
  )

  -- or it stands at that line still
  pub stands_still : (s : Stage) → (s ≡ Closed → ⊥) → s ≡ stage_left t.cut turn.next
      → ((stands_then at t turn l).stage ≡ s) × ((stands_then at t turn l).lines ≡ at.lines)
  stands_still Opens other is = (ap stage_then (sym is), ap (λ (s : Stage). lines_after s at.lines) (sym is))
  stands_still (Sits p f) other is = (ap stage_then (sym is), ap (λ (s : Stage). lines_after s at.lines) (sym is))
  stands_still (Acts p) other is = (ap stage_then (sym is), ap (λ (s : Stage). lines_after s at.lines) (sym is))
  stands_still Closed other is = absurd (other refl)
