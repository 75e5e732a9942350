use Rattle.std.proofs.Common.{ℕ, ◌+◌, ◌*◌, length, slice_index, sym, ◌∙◌, ap, arith}
use Rattle.mas_types.specs.Limits.{page_bytes}
use Rattle.spool_plant.specs.View.{disk_now}
use Rattle.ckpt_copy.specs.Moments.{meanwhile_end}
use Rattle.ckpt_copy.specs.Pages.{bytes_of, page_in}
use Rattle.ckpt_copy.proofs.Causing.{caused_then}
use Rattle.ckpt_copy.proofs.Spreading.{spread_on}
use Rattle.change_log.proofs.Directing.{pages_few}
use Rattle.change_log.proofs.Paging.{page_here, size_more, blocks_put, next_hit, next_miss}
use Rattle.change_log.proofs.writing.write_images.Goals as goal

pub loop-i-preserved-then-not-is_next : goal.loop-i-preserved-then-not-is_next
loop-i-preserved-then-not-is_next g c =
    let now = c.loop-i.invariant in
    record {
      few = now.few;
      ahead = λ lt. next_miss c.loop-i.count (length c.args.changed.now) (slice_index c.args.changed.now c.loop-i.count) c.loop-i.i (sym c.is_next.ensures ∙ c.if-not-is_next.true) lt (now.ahead lt);
      sized = size_more c.loop-i.i c.args.pages.now _ c.bytes_in-bytes.result.now c.loop-i-test.true now.sized c.bytes_in-bytes.ensures.size c.bytes_in-bytes.ensures.bytes;
      cause = now.cause;
      during = now.during;
      put = now.put;
    }

pub overflow_mul-first : goal.overflow_mul-first
overflow_mul-first g c =
    let few = pages_few (length c.args.pages.now) c.args.changed.now c.requires.changed in
    omega (arith, c.requires.place, c.requires.few, few, c.loop-i.invariant.few)

pub returns-in_err-write_act-clause-during : goal.returns-in_err-write_act-clause-during
returns-in_err-write_act-clause-during g c told =
    let hit = next_hit c.loop-i.count (length c.args.changed.now) (slice_index c.args.changed.now c.loop-i.count) c.loop-i.i (sym c.is_next.ensures ∙ c.if-not-is_next.false) in
    let size = c.bytes_in-bytes.ensures.size in
    spread_on c.args.dev (page_bytes * c.args.first) (page_bytes * length c.args.changed.now) _ _ _ (page_bytes * (c.args.first + c.loop-i.count)) (length c.bytes_in-bytes.result.now) (omega arith) (omega (arith, hit.0, size))
    (c.loop-i.invariant.during told) (c.write_act.ensures.during told)

pub loop-i-preserved : goal.loop-i-preserved
loop-i-preserved g c =
    let now = c.loop-i.invariant in
    let hit = next_hit c.loop-i.count (length c.args.changed.now) (slice_index c.args.changed.now c.loop-i.count) c.loop-i.i (sym c.is_next.ensures ∙ c.if-not-is_next.false) in
    let size = c.bytes_in-bytes.ensures.size in
    record {
      few = omega (arith, hit.0);
      ahead = λ lt. let rise = c.requires.changed.ascending c.loop-i.count lt in omega (arith, rise, hit.1);
      sized = size_more c.loop-i.i c.args.pages.now _ c.bytes_in-bytes.result.now c.loop-i-test.true now.sized size c.bytes_in-bytes.ensures.bytes;
      cause = caused_then _ _ _ _ _ _ now.cause c.in_ok-write_act.ensures.cause;
      during = λ told. spread_on c.args.dev (page_bytes * c.args.first) (page_bytes * length c.args.changed.now) _ _ _ (page_bytes * (c.args.first + c.loop-i.count)) (length c.bytes_in-bytes.result.now) (omega arith) (omega (arith, hit.0, size))
          (now.during told) (c.write_act.ensures.during told);
      put = λ told. blocks_put c.args.first c.loop-i.count (page_bytes * (c.args.first + c.loop-i.count)) (λ (k : ℕ). page_in (slice_index c.args.changed.now k) (bytes_of c.args.pages.now)) c.bytes_in-bytes.result.now
          (disk_now (g.P.Plant.view c.loop-i.plant) c.args.dev) (disk_now (g.P.Plant.view c.write_act.new.plant) c.args.dev) (omega arith) size
          (page_here c.loop-i.i c.args.pages.now _ c.bytes_in-bytes.result.now c.loop-i-test.true now.sized size c.bytes_in-bytes.ensures.bytes ∙ ap (λ (q : ℕ). page_in q (bytes_of c.args.pages.now)) (sym hit.1))
          (meanwhile_end _ _ _ _ (c.write_act.ensures.during told)) (c.in_ok-write_act.ensures.put told) (now.put told);
    }
