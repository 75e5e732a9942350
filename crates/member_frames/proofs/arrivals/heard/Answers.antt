use Rattle.std.proofs.Common.{◌≡◌, ◌∙◌, ◌-◌, ◌<◌, ◌≤◌, ℕ, suc, List, drop, length, take, sym, ap, subst, arith}
use Rattle.std.specs.List.{remove}
use Rattle.std.proofs.lemmas.List.{length-take-le, take-append-le, take-take, take_all}
use Rattle.std.proofs.lemmas.List.Edits.{length-remove}
use Rattle.nje_frames.specs.declared.frames.Frame.{Frame}
use Rattle.step_turns.specs.Serving.{taken_most}
use Rattle.member_frames.proofs.arrivals.heard.Goals as goal

-- without an item behind them the first ones are the same
take_removed : (most i : ℕ) (fs : List Frame) → most ≤ i → i < length fs → take most (remove fs i) ≡ take most fs
take_removed most i fs le lt =
    let front : length (take i fs) ≡ i = length-take-le i fs (omega (arith, lt)) in
    take-append-le most (take i fs) (drop (suc i) fs) (subst (λ (k : ℕ). most ≤ k) (sym front) le) ∙ take-take most i fs le

pub loop-first-preserved : goal.loop-first-preserved
loop-first-preserved c =
    let fs = c.loop-first.first in
    let many = c.len-last.ensures in
    ap (take taken_most) c.remove.ensures.rest ∙ take_removed taken_most (c.len-last.result - 1) fs (omega (arith, many)) (omega (arith, many)) ∙ c.loop-first.invariant

pub loop-first-smaller : goal.loop-first-smaller
loop-first-smaller c =
    let fs = c.loop-first.first in
    let many = c.len-last.ensures in
    let shorter = length-remove fs (c.len-last.result - 1) (omega (arith, many)) in
    subst (λ (gs : List Frame). length gs < length fs) (sym c.remove.ensures.rest) (omega (arith, shorter))

pub returns : goal.returns
returns c = sym (take_all taken_most c.loop-first.first (omega arith)) ∙ c.loop-first.invariant
