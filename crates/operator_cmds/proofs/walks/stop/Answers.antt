use Rattle.std.proofs.Common.{◌≡◌, ◌∙◌, ap, ℕ, ◌+◌, [], drop, Some, arith}
use Rattle.std.proofs.lemmas.List.{drop_all, length-drop}
use Rattle.operator_cmds.specs.Walks.{stop}
use Rattle.operator_cmds.proofs.Following.{stop-some_left}
use Rattle.operator_cmds.proofs.walks.stop.Goals as goal

pub returns-then-at-text-clause-value : goal.returns-then-at-text-clause-value
returns-then-at-text-clause-value c =
    let none : drop c.loop-letter.letter-index c.args.form.now ≡ [] = drop_all c.loop-letter.letter-index c.args.form.now (omega arith) in
    let left : stop [] (drop c.loop-letter.at c.args.text.now) ≡ Some 0 = stop-some_left (drop c.loop-letter.at c.args.text.now) (omega (arith, length-drop c.loop-letter.at c.args.text.now)) in
    let here : c.loop-letter.at ≡ c.loop-letter.at + 0 = omega arith in
    ap (λ (n : ℕ). Some n) here ∙ (rw (none, left) at c.loop-letter.invariant.left)
