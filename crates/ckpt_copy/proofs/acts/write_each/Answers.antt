use Rattle.std.proofs.Common.{arith, ◌+◌, ◌*◌, ◌≡◌, length}
use Rattle.spool_plant.specs.View.{disk_now}
use Rattle.mas_types.specs.Limits.{page_bytes}
use Rattle.ckpt_copy.specs.Moments.{meanwhile_end}
use Rattle.ckpt_copy.proofs.Causing.{caused_then}
use Rattle.ckpt_copy.proofs.Spreading.{spread_on, page_put}
use Rattle.ckpt_copy.proofs.acts.write_each.Goals as goal

pub loop-page-preserved : goal.loop-page-preserved
loop-page-preserved g c =
    let i = c.loop-page.page-index in
    let at : c.loop-page.at ≡ c.args.start + page_bytes * i = c.loop-page.invariant.place in
    let size = c.bytes_in.ensures.size in
    record {
      place = omega arith;
      cause = caused_then _ _ _ _ _ _ c.loop-page.invariant.cause c.in_ok-write_act.ensures.cause;
      during = λ told. spread_on c.args.dev c.args.start (page_bytes * length c.args.pages.now) _ _ _ c.loop-page.at (length c.bytes_in.result.now) (omega arith) (omega (arith, c.loop-page-test.true)) (c.loop-page.invariant.during told) (c.write_act.ensures.during told);
      put = λ told. page_put c.args.start i c.loop-page.at c.args.pages.now _ c.bytes_in.result.now (disk_now (g.P.Plant.view c.loop-page.plant) c.args.dev) (disk_now (g.P.Plant.view c.write_act.new.plant) c.args.dev) c.loop-page-test.true at size c.bytes_in.ensures.bytes (c.loop-page.invariant.put told) (meanwhile_end _ _ _ _ (c.write_act.ensures.during told)) (c.in_ok-write_act.ensures.put told);
    }

pub returns-in_err-write_act-clause-during : goal.returns-in_err-write_act-clause-during
returns-in_err-write_act-clause-during g c told =
    let i = c.loop-page.page-index in
    let at : c.loop-page.at ≡ c.args.start + page_bytes * i = c.loop-page.invariant.place in
    let size = c.bytes_in.ensures.size in
    spread_on c.args.dev c.args.start (page_bytes * length c.args.pages.now) _ _ _ c.loop-page.at (length c.bytes_in.result.now) (omega arith) (omega (arith, c.loop-page-test.true)) (c.loop-page.invariant.during told) (c.write_act.ensures.during told)
