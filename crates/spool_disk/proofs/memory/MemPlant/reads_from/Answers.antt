use Rattle.std.proofs.Common.{arith, sym, ◌∙◌, ap, ◌≡◌, ℕ, List, length, min, drop, filter}
use Rattle.std.proofs.lemmas.List.{drop_min}
use Rattle.spool_disk.specs.declared.entry.Entry.{Entry}
use Rattle.spool_disk.specs.Entries.{reads_at}
use Rattle.spool_disk.specs.Places.{slot_of}
use Rattle.spool_disk.proofs.Counting.{count_drop}
use Rattle.spool_disk.proofs.memory.MemPlant.reads_from.Goals as goal

pub returns : goal.returns
returns c =
    let s = c.args.self.now in
    let log : List Entry = s.kept.log.items in
    let slot : ℕ = slot_of c.args.dev in
    let start : c.min-start.result ≡ min c.args.t (length log) = omega (arith, c.min-start.ensures, c.len.ensures, s.kept.log.ok) in
    let rest = c.split_at.ensures.back ∙ ap (drop c.min-start.result) c.deref.ensures.value ∙ ap (λ (n : ℕ). drop n log) start ∙ drop_min c.args.t log in
    c.count_reads.ensures
    ∙ ap (λ (k : ℕ). length (filter (reads_at k) c.split_at.result.1.now)) c.slot_number.ensures.slot
    ∙ ap (λ (l : List Entry). length (filter (reads_at slot) l)) rest
    ∙ sym (count_drop slot c.args.t log s.kept.arena.items)
