use Rattle.std.proofs.Common.{◌≡◌, ◌≤◌, ◌+◌, ◌∷◌, length, ap, arith, List, ℕ}
use Rattle.std.specs.List.{All}
use Rattle.mas_types.specs.LinesLeft.{left_in}
use Rattle.mas_types.specs.Limits.{line_bytes}
use Rattle.spool_text.proofs.Lists.{All-first}
use Rattle.spool_text.proofs.Grouping.{groups_after-fits, groups_after-over}
use Rattle.spool_text.proofs.packing.groups_needed.Goals as goal

pub loop-line-preserved : goal.loop-line-preserved
loop-line-preserved c =
    let line = c.in-Some.line.now in
    let left = left_in c.next.new.self in
    let here : left_in c.loop-line.line-iterator ≡ line ∷ left = c.in-Some.ensures.steps in
    let long = ap length here in
    let all : All (λ (l : List ℕ). length l ≤ line_bytes) (line ∷ left) = rw here at c.loop-line.invariant.short in
    let short = All-first (λ (l : List ℕ). length l ≤ line_bytes) line left all in
    let rest = rw here at c.loop-line.invariant.rest in
    let first : length line ≤ line_bytes = short.0 in
    record {
      room = omega (arith, first);
      few = omega (arith, long);
      short = short.1;
      rest = omega (arith, rw (groups_after-over c.loop-line.used line left c.if-used-size-le-PAGE_BYTES.false) at rest);
    }

pub loop-line-preserved-then-used-size-le-PAGE_BYTES : goal.loop-line-preserved-then-used-size-le-PAGE_BYTES
loop-line-preserved-then-used-size-le-PAGE_BYTES c =
    let line = c.in-Some.line.now in
    let left = left_in c.next.new.self in
    let here : left_in c.loop-line.line-iterator ≡ line ∷ left = c.in-Some.ensures.steps in
    let long = ap length here in
    let all : All (λ (l : List ℕ). length l ≤ line_bytes) (line ∷ left) = rw here at c.loop-line.invariant.short in
    let short = All-first (λ (l : List ℕ). length l ≤ line_bytes) line left all in
    let rest = rw here at c.loop-line.invariant.rest in
    let same : c.loop-line.used + (length line + 1) ≡ c.loop-line.used + length line + 1 = omega arith in
    record {
      room = omega arith;
      few = omega (arith, long);
      short = short.1;
      rest = rw same (rw (groups_after-fits c.loop-line.used line left c.if-used-size-le-PAGE_BYTES.true) at rest);
    }
