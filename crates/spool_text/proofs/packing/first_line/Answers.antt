use Rattle.std.proofs.Common.{◌≡◌, suc, ◌≤◌, ◌+◌, ◌-◌, length, drop, arith, List, ℕ}
use Rattle.mas_types.specs.Limits.{line_bytes}
use Rattle.spool_text.proofs.Lists.{drop-at, All-at}
use Rattle.spool_text.proofs.Grouping.{groups_after-fits, groups_after-over, later-fits, later-over, next-over}
use Rattle.spool_text.proofs.packing.first_line.Goals as goal
use Rattle.spool_text.proofs.packing.first_line.Goals.{then-used-size-le-PAGE_BYTES, else-used-size-le-PAGE_BYTES+else-more-eq0-2}

pub returns-then-more-eq0-2-clause-begins : goal.returns-then-more-eq0-2-clause-begins
returns-then-more-eq0-2-clause-begins c =
    let lines = c.args.lines.now in
    let line = c.line-size.result.now in
    let rest = drop (c.loop-at.at + 1) lines in
    let short : length line ≤ line_bytes = All-at (λ (l : List ℕ). length l ≤ line_bytes) lines c.loop-at.at line c.requires.text.short c.line-size.ensures in
    let one : c.loop-at.more ≡ 1 = omega arith in
    let here = drop-at lines c.loop-at.at line c.line-size.ensures in
    let same = rw (one, here, next-over c.loop-at.used line rest short c.if-used-size-le-PAGE_BYTES.false) at c.loop-at.invariant.same in
    rw here same

pub loop-at-preserved : goal.loop-at-preserved
loop-at-preserved c =
    let lines = c.args.lines.now in
    let line = c.line-size.result.now in
    let used = c.loop-at.used in
    let rest = drop (c.loop-at.at + 1) lines in
    let short : length line ≤ line_bytes = All-at (λ (l : List ℕ). length l ≤ line_bytes) lines c.loop-at.at line c.requires.text.short c.line-size.ensures in
    let here = drop-at lines c.loop-at.at line c.line-size.ensures in
    let there = rw here at c.loop-at.invariant.there in
    let same = rw here at c.loop-at.invariant.same in
    let sum : used + (length line + 1) ≡ used + length line + 1 = omega arith in
    elim c.if-used-size-le-PAGE_BYTES.branch [
      | then-used-size-le-PAGE_BYTES w ↦
          let fits = w.if-used-size-le-PAGE_BYTES.true in
          rw (w.used-is, w.more-is, sum) record {
            room = omega arith;
            later = c.loop-at.invariant.later;
            there = rw (groups_after-fits used line rest fits) at there;
            same = rw (later-fits c.loop-at.more used line rest c.loop-at.invariant.later fits) at same;
          }
      | else-used-size-le-PAGE_BYTES+else-more-eq0-2 w ↦
          let over = w.if-used-size-le-PAGE_BYTES.false in
          let before : c.loop-at.more ≡ suc (c.loop-at.more - 1) = omega arith in
          let fewer = rw (groups_after-over used line rest over) at there in
          rw (w.used-is, w.more-is) record {
            room = omega arith;
            later = omega arith;
            there = omega arith;
            same = rw (later-over (c.loop-at.more - 1) used line rest (omega arith) over) at (rw before at same);
          }
    ]
