use Rattle.std.proofs.Common.{◌≤◌, ◌+◌, length, drop, arith, List, ℕ}
use Rattle.mas_types.proofs.ListLemmas.{drop-at, All-at}
use Rattle.model_queue.proofs.GroupLemmas.{groups_after-fits, groups_after-over}
use Rattle.model_queue.proofs.groups.groups_needed.Goals as goal
use Rattle.model_queue.proofs.groups.groups_needed.Goals.{then-used-size-le4096, else-used-size-le4096}

pub loop-at-preserved : goal.loop-at-preserved
loop-at-preserved c =
    let lines = c.args.lines.now in
    let line = c.line-size.result.now in
    let left = drop (c.loop-at.at + 1) lines in
    let short : length line ≤ 132 = All-at (λ (l : List ℕ). length l ≤ 132) lines c.loop-at.at line c.requires.short c.line-size.ensures in
    let rest = rw (drop-at lines c.loop-at.at line c.line-size.ensures) at c.loop-at.invariant.rest in
    elim c.if-used-size-le4096.branch [
      | then-used-size-le4096 w ↦ record {
        room = omega arith;
        few = omega arith;
        rest = rw (w.used-is, w.groups-is) (rw (groups_after-fits c.loop-at.used line left w.if-used-size-le4096.true) at rest);
      }
      | else-used-size-le4096 w ↦ record {
        room = omega arith;
        few = omega arith;
        rest = rw (w.used-is, w.groups-is) (omega (arith, rw (groups_after-over c.loop-at.used line left w.if-used-size-le4096.false) at rest));
      }
    ]
