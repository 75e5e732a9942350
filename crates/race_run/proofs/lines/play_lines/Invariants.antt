use Rattle.std.proofs.Common.{◌≡◌, ◌+◌, Bool, None, drop, true, false}
use Rattle.gate_facts.specs.Ways.{EachWay}
use Rattle.race_turns.specs.Turns.{Opens}
use Rattle.race_turns.specs.Races.{Standing, lines_of}
use Rattle.race_run.specs.Races.{seen_in}
use Rattle.race_run.specs.Racing.{AreAsked, HasClosed, MayRace}
use Rattle.race_run.proofs.lines.play_lines.Given as goal

-- so many lines were played, and the others are still to come
abbrev pub invariant-loop-line : goal.invariant-loop-line
invariant-loop-line g l =
    let T = g.T.Turns in
    let bare = (T.memory l.fn.turns false).base in
    let base_was = (T.memory l.fn.turns true).base in
    let by = l.fn.member.id in
    let entry = g.J.Beginning.began.view in
    let lines = l.fn.course.lines.now in
    record {
      number : l.number ≡ l.line-index;
      free : T.held l.turns ≡ None;
      place : T.place l.turns ≡ T.place l.fn.turns;
      bound : T.bound l.turns ≡ T.bound l.fn.turns;
      cares : (told : Bool) → (T.memory l.turns told).cares ≡ (T.memory l.fn.turns told).cares;
      base : EachWay g.P.Plant.tells (λ told. (T.memory l.turns told).base ≡ (T.memory l.fn.turns told).base);
      id : l.member.id ≡ by;
      may : MayRace (T.finds l.turns) (T.follows (T.place l.turns)) T.rests (T.bound l.turns) (λ told. (T.memory l.turns told).cares) entry (T.memory l.turns false).base l.member (l.number + 1);
      asked : AreAsked bare by (lines_of by (l.number + 1) (drop l.line-index lines));
      raced : g.P.Plant.tells → (at : Standing) → at.stage ≡ Opens → at.lines ≡ lines_of by 1 lines
          → HasClosed base_was by (seen_in base_was entry by) at (lines_of by (l.number + 1) (drop l.line-index lines)) (T.memory l.fn.turns true) (T.memory l.turns true);
    }
