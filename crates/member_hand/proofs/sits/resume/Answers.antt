use Rattle.std.proofs.Common.{◌∙◌, sym}
use Rattle.mas_complex.specs.Parts.{parts_of}
use Rattle.member_sittings.specs.Sat.{resumes}
use Rattle.member_hand.proofs.Leaving.{line_right, line_step, serve_all}
use Rattle.member_hand.proofs.sits.resume.Goals as goal

-- A LINE

pub sit_frames-requires-clause-right : goal.sit_frames-requires-clause-right
sit_frames-requires-clause-right g c = line_right c.args.complex.now c.args.member.now c.args.aside c.args.found (sym c.serves_line.ensures ∙ c.if-serves_line.true) c.requires.right

pub returns-then-serves_line-clause-again : goal.returns-then-serves_line-clause-again
returns-then-serves_line-clause-again g c =
    let P = g.P.Plant in
    let C = g.C.Copying in
    let x = parts_of c.args.complex.now in
    let y = parts_of c.sit_frames.new.complex in
    let e = c.sit_frames.ensures in
    let line = line_step P C x c.args.member.now.id c.args.aside c.args.found (sym c.serves_line.ensures ∙ c.if-serves_line.true) c.requires.right in
    serve_all P C x y c.args.member.now c.sit_frames.new.member (resumes c.args.holder c.args.aside c.args.found) line.serving line.none_done line.units c.sit_frames.result line.most e.again e.waits e.fewer e.reached

-- NO LINE

pub resume_plain-requires-clause-off : goal.resume_plain-requires-clause-off
resume_plain-requires-clause-off g c = sym c.serves_line.ensures ∙ c.if-serves_line.false
