use Rattle.std.proofs.Common.{◌≡◌, ◌≤◌, ◌+◌, ◌∷◌, length, take, arith, append_assoc, append-nil, List, ℕ}
use Rattle.std.specs.List.{All}
use Rattle.mas_types.specs.LinesLeft.{left_in}
use Rattle.mas_types.specs.Limits.{line_bytes}
use Rattle.mas_types.specs.Records.{record_of, records_of}
use Rattle.spool_text.specs.Texts.{grouped_after, lines_in}
use Rattle.spool_text.proofs.Lists.{All-first}
use Rattle.spool_text.proofs.Grouping.{now-fits, now-over}
use Rattle.spool_text.proofs.packing.put_records.Goals as goal

pub loop-line-preserved : goal.loop-line-preserved
loop-line-preserved c =
    let line = c.in-Some.line.now in
    let used = c.loop-line.used in
    let rest = left_in c.next.new.self in
    let here : left_in c.loop-line.line-iterator ≡ line ∷ rest = c.in-Some.ensures.steps in
    let all : All (λ (l : List ℕ). length l ≤ line_bytes) (line ∷ rest) = rw here at c.loop-line.invariant.short in
    let later = records_of (lines_in 0 (grouped_after (used + length line + 1) rest)) in
    let so_far = rw (here, now-fits used line rest c.if-used-line-gt-PAGE_BYTES.false) at c.loop-line.invariant.records in
    let same : used + (length line + 1) ≡ used + length line + 1 = omega arith in
    let next : used + 1 + length line ≡ used + length line + 1 = omega arith in
    let written = rw next at c.put_record.ensures in
    record {
      room = omega arith;
      short = (All-first (λ (l : List ℕ). length l ≤ line_bytes) line rest all).1;
      records = rw (same, written, append_assoc (take used c.loop-line.into) (record_of line) later) so_far;
    }

pub returns-then-used-line-gt-PAGE_BYTES-clause-records : goal.returns-then-used-line-gt-PAGE_BYTES-clause-records
returns-then-used-line-gt-PAGE_BYTES-clause-records c =
    let line = c.in-Some.line.now in
    let rest = left_in c.next.new.self in
    let here : left_in c.loop-line.line-iterator ≡ line ∷ rest = c.in-Some.ensures.steps in
    rw (here, now-over c.loop-line.used line rest c.if-used-line-gt-PAGE_BYTES.true, append-nil (take c.loop-line.used c.loop-line.into)) at c.loop-line.invariant.records
