use Rattle.std.proofs.Common.{◌≡◌, Bool, List, ◌∷◌, None, false, true}
use Rattle.gate_facts.specs.Ways.{EachWay}
use Rattle.gate_turns.specs.Turning.{OfEach}
use Rattle.race_turns.specs.Turns.{Opens}
use Rattle.race_turns.specs.Races.{Asked, Standing}
use Rattle.member_racing.specs.Stages.{stage_of}
use Rattle.member_racing.specs.Waits.{Waits}
use Rattle.race_run.specs.Races.{seen_in}
use Rattle.race_run.specs.Racing.{GoesOn, asked_at}
use Rattle.race_run.proofs.lines.play_line.Given as goal

-- the line goes on from where it stands, after turns of it
abbrev pub invariant-loop : goal.invariant-loop
invariant-loop g l =
    let T = g.T.Turns in
    let base_was = (T.memory l.fn.turns true).base in
    let by = l.fn.member.id in
    record {
      free : T.held l.turns ≡ None;
      place : T.place l.turns ≡ T.place l.fn.turns;
      bound : T.bound l.turns ≡ T.bound l.fn.turns;
      cares : (told : Bool) → (T.memory l.turns told).cares ≡ (T.memory l.fn.turns told).cares;
      base : EachWay g.P.Plant.tells (λ told. (T.memory l.turns told).base ≡ (T.memory l.fn.turns told).base);
      id : l.member.id ≡ by;
      waits : OfEach (T.finds l.turns) (λ x. x.base ≡ (T.memory l.fn.turns false).base → Waits x l.member l.fn.number l.fn.asked l.stage);
      raced : g.P.Plant.tells → (at : Standing) (lines : List Asked) → at.stage ≡ Opens
          → at.lines ≡ asked_at l.fn.number l.fn.asked ∷ lines
          → GoesOn base_was by (seen_in base_was g.J.Beginning.began.view by) (stage_of l.stage) at (T.memory l.fn.turns true)
          (T.memory l.turns true);
    }
