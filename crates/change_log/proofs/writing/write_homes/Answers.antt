use Rattle.std.proofs.Common.{ℕ, ◌+◌, ◌*◌, length, arith}
use Rattle.mas_types.specs.Limits.{page_bytes}
use Rattle.spool_plant.specs.View.{disk_now}
use Rattle.ckpt_copy.specs.Moments.{meanwhile_end}
use Rattle.ckpt_copy.specs.Pages.{bytes_of, page_in}
use Rattle.ckpt_copy.proofs.Causing.{caused_then}
use Rattle.change_log.proofs.Paging.{page_here, size_more, blocks_put}
use Rattle.change_log.proofs.Homing.{homes_on, home_already, homes_more}
use Rattle.change_log.proofs.writing.write_homes.Goals as goal

pub loop-i-preserved-then-places-i : goal.loop-i-preserved-then-places-i
loop-i-preserved-then-places-i g c =
    let now = c.loop-i.invariant in
    record {
      sized = size_more c.loop-i.i c.args.pages.now _ c.bytes_in-bytes.result.now c.loop-i-test.true now.sized c.bytes_in-bytes.ensures.size c.bytes_in-bytes.ensures.bytes;
      cause = now.cause;
      during = now.during;
      written = λ told gates rests. homes_more c.loop-i.i (bytes_of c.args.pages.now) (disk_now (g.P.Plant.view c.loop-i.plant) c.args.dev).bytes
          (home_already (length c.args.pages.now) c.loop-i.i gates c.args.places.now (bytes_of c.args.pages.now) (disk_now (g.P.Plant.view c.loop-i.plant) c.args.dev) c.loop-i-test.true (omega (arith, c.if-places-i.true))
          (meanwhile_end _ _ _ _ (now.during told gates rests))) (now.written told gates rests);
    }

pub returns-in_err-write_act-clause-during : goal.returns-in_err-write_act-clause-during
returns-in_err-write_act-clause-during g c told gates rests =
    homes_on c.args.dev (length c.args.pages.now) c.loop-i.i gates c.args.places.now (bytes_of c.args.pages.now) (page_bytes * (1 + c.loop-i.i)) (length c.bytes_in-bytes.result.now) _ _ _
    c.loop-i-test.true (λ e. c.if-places-i.false (omega (arith, e))) (omega arith) c.bytes_in-bytes.ensures.size (c.loop-i.invariant.during told gates rests) (c.write_act.ensures.during told)

pub loop-i-preserved : goal.loop-i-preserved
loop-i-preserved g c =
    let now = c.loop-i.invariant in
    let size = c.bytes_in-bytes.ensures.size in
    record {
      sized = size_more c.loop-i.i c.args.pages.now _ c.bytes_in-bytes.result.now c.loop-i-test.true now.sized size c.bytes_in-bytes.ensures.bytes;
      cause = caused_then _ _ _ _ _ _ now.cause c.in_ok-write_act.ensures.cause;
      during = λ told gates rests. homes_on c.args.dev (length c.args.pages.now) c.loop-i.i gates c.args.places.now (bytes_of c.args.pages.now) (page_bytes * (1 + c.loop-i.i)) (length c.bytes_in-bytes.result.now) _ _ _
          c.loop-i-test.true (λ e. c.if-places-i.false (omega (arith, e))) (omega arith) size (now.during told gates rests) (c.write_act.ensures.during told);
      written = λ told gates rests. blocks_put 1 c.loop-i.i (page_bytes * (1 + c.loop-i.i)) (λ (p : ℕ). page_in p (bytes_of c.args.pages.now)) c.bytes_in-bytes.result.now
          (disk_now (g.P.Plant.view c.loop-i.plant) c.args.dev) (disk_now (g.P.Plant.view c.write_act.new.plant) c.args.dev) (omega arith) size
          (page_here c.loop-i.i c.args.pages.now _ c.bytes_in-bytes.result.now c.loop-i-test.true now.sized size c.bytes_in-bytes.ensures.bytes)
          (meanwhile_end _ _ _ _ (c.write_act.ensures.during told)) (c.in_ok-write_act.ensures.put told) (now.written told gates rests);
    }

pub returns-clause-written : goal.returns-clause-written
returns-clause-written g c told gates rests p lt = c.loop-i.invariant.written told gates rests p (omega (arith, lt, c.loop-i-test.false))
