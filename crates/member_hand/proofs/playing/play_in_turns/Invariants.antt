use Rattle.std.proofs.Common.{◌≡◌, Bool, List, None, Result}
use Rattle.std.specs.Prelude.{◌⊎◌}
use Rattle.member_node.specs.declared.member.NodeNo.{NodeNo}
use Rattle.step_turns.specs.Courses.{sittings_most}
use Rattle.gate_turns.specs.Turning.{OfEach}
use Rattle.member_hand.specs.Chains.{End, Pause, TakesTurns, Turn, begun}
use Rattle.member_hand.specs.Plays.{MayPlay}
use Rattle.member_hand.specs.Sits.{start_of}
use Rattle.member_hand.proofs.playing.play_in_turns.Given as goal

abbrev pub decreases-loop-stand : goal.decreases-loop-stand
decreases-loop-stand g l = sittings_most l.stand.state

-- a chain from here on, with the turns before it, is one of the step as a whole
abbrev pub invariant-loop-stand : goal.invariant-loop-stand
invariant-loop-stand g l =
    let T = g.T.Turns in
    let first = T.finds l.fn.turns in
    let follows = T.follows (T.place l.fn.turns) in
    let here : Pause = record { member = l.member; stand = l.stand; reader = l.reader } in
    record {
      free : T.held l.turns ≡ None;
      place : T.place l.turns ≡ T.place l.fn.turns;
      bound : T.bound l.turns ≡ T.bound l.fn.turns;
      cares : (told : Bool) → (T.memory l.turns told).cares ≡ (T.memory l.fn.turns told).cares;
      id : l.member.id ≡ l.fn.member.id;
      may : OfEach (T.finds l.turns) (λ x. MayPlay x l.member (start_of l.stand));
      found : OfEach (T.finds l.turns) (λ x. first x ⊎ ((w : _) × follows w x));
      then : (ts : List (Turn _)) (e : End _) (r : Result (Unit {0}) NodeNo) → TakesTurns follows (T.finds l.turns) here ts e r
          → (us : List (Turn _)) × TakesTurns follows first (begun l.fn.member l.fn.holder l.fn.task l.fn.reader) us e r;
    }
