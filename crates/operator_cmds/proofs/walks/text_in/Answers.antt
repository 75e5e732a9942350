use Rattle.std.proofs.Common.{◌≡◌, ◌∙◌, sym, ap, ℕ, ◌+◌, ◌-◌, [], get_or, take, drop, arith}
use Rattle.std.proofs.lemmas.List.{take_rest}
use Rattle.operator_cmds.specs.Walks.{reach}
use Rattle.operator_cmds.specs.Places.{place_of}
use Rattle.operator_cmds.proofs.Following.{text_in-first}
use Rattle.operator_cmds.proofs.walks.text_in.Goals as goal

pub returns-then-place-letter : goal.returns-then-place-letter
returns-then-place-letter c =
    let here = text_in-first c.args.form.now (drop c.loop-place.at c.args.text.now) c.loop-place.place-index c.args.letter (omega arith) (omega arith) in
    let long : c.loop-place.at + c.reach-n.result - c.loop-place.at ≡ c.reach-n.result = omega arith in
    let reached : c.reach-n.result ≡ reach (place_of (get_or c.args.form.now c.loop-place.place-index 0)) [] (drop c.loop-place.at c.args.text.now) = c.reach-n.ensures.value ∙ ap (reach c.place_of.result []) (take_rest c.args.text.now c.loop-place.at) ∙ ap (λ p. reach p [] (drop c.loop-place.at c.args.text.now)) c.place_of.ensures in
    rw long (ap (λ (n : ℕ). take n (drop c.loop-place.at c.args.text.now)) reached ∙ sym here ∙ c.loop-place.invariant.left)
