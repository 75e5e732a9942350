use Rattle.std.proofs.Common.{◌+◌, ◌∷◌, [], length, length-append, slice_index, ◌∙◌, ap, ℕ, arith}
use Rattle.spool_plant.specs.View.{Disk, disk_now}
use Rattle.ckpt_copy.specs.Pages.{bytes_of}
use Rattle.ckpt_copy.proofs.Causing.{caused_then}
use Rattle.ckpt_copy.proofs.Calm.{calm_on}
use Rattle.change_log.specs.Logs.{block}
use Rattle.change_log.proofs.LogFinds.{page_gathered}
use Rattle.change_log.proofs.finding.read_pages.Goals as goal

pub read_block-requires : goal.read_block-requires
read_block-requires g c =
    let here = c.requires.inside c.loop-place.place c.loop-place-test.true in
    omega (arith, here, c.requires.ready.large, c.loop-place.invariant.cause.goes.size c.args.dev)

pub loop-place-preserved : goal.loop-place-preserved
loop-place-preserved g c =
    let now = c.loop-place.invariant in
    let i = c.loop-place.place in
    let old = disk_now (g.P.Plant.view c.args.plant.now) c.args.dev in
    let pushed = c.in_ok-push.ensures.ok in
    record {
      cause = caused_then _ _ _ _ _ _ now.cause c.in_ok-page.ensures.cause;
      there = λ was. c.in_ok-page.ensures.there;
      during = λ told. calm_on _ _ _ _ (now.during told) (c.read_block.ensures.during told);
      same = λ told. c.in_ok-page.ensures.same told ∙ now.same told;
      many = ap length pushed ∙ length-append c.loop-place.pages (c.in_ok-page.page ∷ []) ∙ ap (λ (n : ℕ). n + 1) now.many;
      read = λ told. ap bytes_of pushed ∙ page_gathered (λ (p : ℕ). block (slice_index c.args.places.now p) old.bytes) i c.loop-place.pages c.in_ok-page.page (now.read told)
          (c.in_ok-page.ensures.page told ∙ ap (λ (d : Disk). block (slice_index c.args.places.now i) d.bytes) (now.same told));
    }

pub returns-in_err-page-clause-during : goal.returns-in_err-page-clause-during
returns-in_err-page-clause-during g c told = calm_on _ _ _ _ (c.loop-place.invariant.during told) (c.read_block.ensures.during told)

pub returns-in_err-push-clause-during : goal.returns-in_err-push-clause-during
returns-in_err-push-clause-during g c told = calm_on _ _ _ _ (c.loop-place.invariant.during told) (c.read_block.ensures.during told)
