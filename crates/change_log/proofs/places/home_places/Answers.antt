use Rattle.std.proofs.Common.{◌∙◌, ◌+◌, arith}
use Rattle.std.proofs.lemmas.List.{length-set}
use Rattle.change_log.proofs.Placed.{home_more}
use Rattle.change_log.proofs.places.home_places.Goals as goal

pub loop-page-preserved : goal.loop-page-preserved
loop-page-preserved c =
    let page = c.loop-page.page in
    let size = c.loop-page.invariant.size in
    record {
      size = length-set c.loop-page.places page (1 + page) ∙ size;
      home = home_more c.loop-page.places page (omega (arith, size, c.loop-page-test.true)) c.loop-page.invariant.home;
    }
