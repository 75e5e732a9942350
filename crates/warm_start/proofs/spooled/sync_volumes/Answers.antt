use Rattle.std.proofs.Common.{◌+◌, arith}
use Rattle.spool_volumes.proofs.LookLemmas.{looks_sync, looks_then}
use Rattle.warm_start.proofs.Spooling.{clean_more}
use Rattle.warm_start.proofs.spooled.sync_volumes.Goals as goal

pub loop-volume-preserved : goal.loop-volume-preserved
loop-volume-preserved g c =
    let P = g.P.Plant in
    let first = P.view c.args.plant.now in
    let now = P.view c.loop-volume.plant in
    let new = P.view c.sync-act.new.self in
    let v = c.loop-volume.volume + 1 in
    record {
      looks = looks_then first now new P.tells 0 c.loop-volume.invariant.looks (looks_sync P.tells 0 v now new c.sync-act.result c.sync-act.ensures.acts c.sync-act.ensures.content);
      clean = λ told. clean_more v now new c.sync-act.result c.sync-act.ensures.acts (c.sync-act.ensures.content told) (λ n some lt. c.loop-volume.invariant.clean told n some (omega (arith, lt)));
    }
