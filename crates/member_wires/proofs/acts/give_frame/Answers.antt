use Rattle.std.proofs.Common.{◌≡◌, ◌∙◌, ℕ, Bool, List, Result, sym, subst}
use Rattle.member_node.specs.declared.member.NodeNo.{NodeNo}
use Rattle.nje_frames.specs.Grammar.{frame_text}
use Rattle.member_wires.specs.Acts.{GivesBytes, given_answer}
use Rattle.member_wires.proofs.OnLine.{gives_by, gives_none}
use Rattle.member_wires.proofs.acts.give_frame.Goals as goal

pub returns-in_default-clause-gives : goal.returns-in_default-clause-gives
returns-in_default-clause-gives g c = gives_none g.P.Plant.tells c.args.end _ (g.P.Plant.view c.args.complex.now.plant)

pub returns-clause-gives : goal.returns-clause-gives
returns-clause-gives g c =
    let P = g.P.Plant in
    let v = P.view c.args.complex.now.plant in
    let w = P.view c.give.new.self.plant in
    let bytes : c.as_slice.result.now ≡ frame_text c.args.frame.now = c.as_slice.ensures ∙ c.in-Ok.ensures in
    subst (λ (r : Result Bool NodeNo). GivesBytes P.tells c.args.end (frame_text c.args.frame.now) v w r) (sym c.given.ensures)
    (subst (λ (bs : List ℕ). GivesBytes P.tells c.args.end bs v w (given_answer c.give.result)) bytes
    (gives_by P.tells c.args.end c.as_slice.result.now v w c.give.result c.give.ensures.acts c.give.ensures.content))
