use Rattle.std.proofs.Common.{◌≡◌, ◌<◌, length, take, [], refl, arith}
use Rattle.std.proofs.lemmas.List.{length-take-le}
use Rattle.std.proofs.lemmas.Option.{slice_get-map}
use Rattle.mas_types.specs.Records.{records_of}
use Rattle.spool_text.specs.Texts.{grouped, group_bytes, lines_at}
use Rattle.spool_text.proofs.Lists.{slice_get-within}
use Rattle.spool_text.proofs.Grouping.{length-grouped_after}
use Rattle.spool_text.proofs.RecordLemmas.{group_bytes-is}
use Rattle.spool_text.proofs.packing.pack.Goals as goal

pub returns : goal.returns
returns c =
    let lines = c.args.lines.now in
    let group = c.args.group in
    let end = c.put_records-end.result in
    let records = rw c.first_line-first.ensures.begins at c.put_records-end.ensures.records in
    let long : length (take end c.put_records-end.new.into) ≡ end = length-take-le end c.put_records-end.new.into (omega arith) in
    let size : length (records_of (lines_at group lines)) ≡ end = rw records at long in
    let inside : group < length (grouped lines) = omega (arith, length-grouped_after 0 lines) in
    let bytes = rw records at c.put_end.ensures in
    rw (slice_get-map group_bytes (grouped lines) group, slice_get-within (grouped lines) group inside [], group_bytes-is (lines_at group lines) end size, bytes) refl
