use Rattle.std.proofs.Common.{codes}
use Rattle.std.proofs.lemmas.Result.{on_ok_weaker}
use Rattle.gen_work.specs.Generated.{line_text}
use Rattle.gen_work.proofs.Pieces.{join_four}
use Rattle.gen_work.proofs.script.push_end_cards.Goals as goal

pub returns : goal.returns
returns c =
    on_ok_weaker c.push_line-4.result (λ last. join_four c.args.script.now c.push_line.new.script c.push_line-2.new.script c.push_line-3.new.script c.push_line-4.new.script (line_text (codes "/*")) (line_text (codes "//SYSUT2 DD SYSOUT=A")) (line_text (codes "//")) (line_text (codes "++END")) c.in_ok-push_line.ensures c.in_ok-push_line-2.ensures c.in_ok-push_line-3.ensures last) c.push_line-4.ensures
