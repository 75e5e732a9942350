use Rattle.std.proofs.Common.{◌≡◌, ◌-◌, length, take, drop, arith, ap, ◌∙◌, List, ℕ, [], ◌∷◌, ◌++◌}
use Rattle.std.proofs.lemmas.List.{take_rest}
use Rattle.cmd_report.proofs.Pieces.{volumes_more}
use Rattle.cmd_report.proofs.displays.push_volumes.Goals as goal

pub loop-before-preserved : goal.loop-before-preserved
loop-before-preserved c =
    let rest = c.loop-before.rest.now in
    let n = c.min-n.result in
    let behind : take (length rest - n) (drop n rest) ≡ drop n rest = take_rest rest n in
    rw behind (volumes_more c.loop-before.lines c.push.new.self _ c.in_ok-line.line c.loop-before.before c.args.queue.now.config.volumes rest c.args.queue.now.config.groups n (omega arith) c.min-n.ensures c.in_ok-line.ensures (c.in_ok-push.ensures.ok ∙ ap (λ (l : List ℕ). c.loop-before.lines ++ l ∷ []) c.as_slice.ensures) c.loop-before.invariant)
