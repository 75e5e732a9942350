use Rattle.std.proofs.Common.{arith, ap, ◌∙◌, sym, ◌≡◌, ℕ, take, drop, List, subst}
use Rattle.spool_disk.specs.declared.entry.Entry.{Entry}
use Rattle.spool_disk.specs.Deeds.{after}
use Rattle.spool_disk.specs.Entries.{deeds_of, kept_in}
use Rattle.spool_disk.specs.Settled.{Leaves, last_synced, IsQuiet}
use Rattle.spool_plant.specs.Crash.{IsOnes}
use Rattle.spool_plant.specs.declared.choice.Choice.{Choice}
use Rattle.spool_disk.proofs.Replaying.{kept_parts}
use Rattle.spool_disk.proofs.Crashing.{shape_old, shape_new, shape_ones, ones_at_sync, leaves_none, empty_length}
use Rattle.spool_disk.proofs.crash.shape.Goals as goal

pub replay-used-requires : goal.replay-used-requires
replay-used-requires c = omega (arith, ap kept_in c.split_at.ensures.front, kept_parts c.last_sync-last.result c.args.log.now, c.requires)

pub split_at-requires-in-New : goal.split_at-requires-in-New
split_at-requires-in-New c = omega (arith, c.replay-used.ensures.used, ap kept_in c.split_at.ensures.front, kept_parts c.last_sync-last.result c.args.log.now, c.requires)

pub replay-requires : goal.replay-requires
replay-requires c = omega (arith, c.replay-used.ensures.used, ap kept_in c.split_at.ensures.front, ap kept_in c.split_at.ensures.back, kept_parts c.last_sync-last.result c.args.log.now, c.requires, c.split_at-in-New.ensures.back_len)

pub returns-in-Old : goal.returns-in-Old
returns-in-Old c d now clean =
    let n = c.last_sync-last.result in
    let log = c.args.log.now in
    let arena = c.args.arena.now in
    let slot = c.args.slot in
    let settled = c.replay-used.ensures.disk d now ∙ ap (λ (l : List Entry). (after slot d (deeds_of l arena)).bytes) c.split_at.ensures.front in
    subst (λ (x : Choice). Leaves x (last_synced slot d.bytes d (deeds_of log arena)) (after slot d (deeds_of log arena)) c.replay-used.new.disk) (sym c.in-Old.is)
    (shape_old slot n log arena d clean c.last_sync-last.ensures.ends c.last_sync-last.ensures.quiet c.replay-used.new.disk settled)

pub returns-in-New : goal.returns-in-New
returns-in-New c d now clean =
    let n = c.last_sync-last.result in
    let log = c.args.log.now in
    let arena = c.args.arena.now in
    let slot = c.args.slot in
    let mid = after slot d (deeds_of (take n log) arena) in
    let settled = c.replay-used.ensures.disk d now ∙ ap (λ (l : List Entry). (after slot d (deeds_of l arena)).bytes) c.split_at.ensures.front in
    let from : c.split_at-in-New.result.1.now ≡ drop (kept_in (take n log)) arena = c.split_at-in-New.ensures.back ∙ ap (λ (k : ℕ). drop k arena) (c.replay-used.ensures.used ∙ ap kept_in c.split_at.ensures.front) in
    let whole = c.replay.ensures.disk mid settled
    ∙ ap (λ (l : List Entry). (after slot mid (deeds_of l c.split_at-in-New.result.1.now)).bytes) c.split_at.ensures.back
    ∙ ap (λ (l : List ℕ). (after slot mid (deeds_of (drop n log) l)).bytes) from in
    subst (λ (x : Choice). Leaves x (last_synced slot d.bytes d (deeds_of log arena)) (after slot d (deeds_of log arena)) c.replay.new.disk) (sym c.in-New.is)
    (shape_new slot n log arena d clean c.last_sync-last.ensures.ends c.last_sync-last.ensures.quiet (last_synced slot d.bytes d (deeds_of log arena)) c.replay.new.disk whole)

pub returns-in-Ones : goal.returns-in-Ones
returns-in-Ones c d now clean =
    let n = c.last_sync-last.result in
    let log = c.args.log.now in
    let arena = c.args.arena.now in
    let slot = c.args.slot in
    let rest = drop (kept_in (take n log)) arena in
    let mid = after slot d (deeds_of (take n log) arena) in
    let settled = c.replay-used.ensures.disk d now ∙ ap (λ (l : List Entry). (after slot d (deeds_of l arena)).bytes) c.split_at.ensures.front in
    let at_sync = ones_at_sync slot n log arena d clean c.last_sync-last.ensures.ends c.last_sync-last.ensures.quiet c.replay-used.new.disk settled in
    let quiet = subst (IsQuiet slot) (sym c.split_at.ensures.back) c.last_sync-last.ensures.quiet in
    let painted = subst (λ (l : List Entry). IsOnes (after slot mid (deeds_of l rest)) c.paint.new.image) c.split_at.ensures.back (c.paint.ensures mid rest quiet at_sync) in
    subst (λ (x : Choice). Leaves x (last_synced slot d.bytes d (deeds_of log arena)) (after slot d (deeds_of log arena)) c.paint.new.image) (sym c.in-Ones.is)
    (shape_ones slot n log arena d clean c.last_sync-last.ensures.ends c.last_sync-last.ensures.quiet (last_synced slot d.bytes d (deeds_of log arena)) c.paint.new.image painted)

pub returns-then-is_empty : goal.returns-then-is_empty
returns-then-is_empty c d now clean = leaves_none c.args.choice c.args.slot d (deeds_of c.args.log.now c.args.arena.now) c.args.image.now now (empty_length c.args.image.now c.is_empty.result c.is_empty.ensures c.if-is_empty.true)
