use Rattle.std.proofs.Common.{◌-◌, ◌∙◌, List, slice_set, ap, sym, arith}
use Rattle.std.proofs.lemmas.Result.{on_ok_weaker, on_err_weaker}
use Rattle.nje_net.specs.declared.worlds.Held.{Held}
use Rattle.nje_net.specs.Events.{with_job}
use Rattle.nje_net.proofs.Items.{item_past, item_found, set_same}
use Rattle.nje_net.proofs.holding.hold.Goals as goal

pub returns-then-node-len-clause-ok : goal.returns-then-node-len-clause-ok
returns-then-node-len-clause-ok c = sym (item_past (with_job c.args.job) c.args.node c.args.held.now (omega arith))

pub returns-clause-ok : goal.returns-clause-ok
returns-clause-ok c =
    on_ok_weaker c.push.result
    (λ done. ap (λ (hs : List Held). slice_set c.args.held.now (c.args.node - 1) hs) done
    ∙ sym (item_found (with_job c.args.job) c.args.node (c.args.node - 1) c.args.held.now c.item_mut.result.now (omega arith) c.item_mut.ensures.value)) c.push.ensures.ok

pub returns-clause-err : goal.returns-clause-err
returns-clause-err c =
    on_err_weaker c.push.result
    (λ same. ap (λ (hs : List Held). slice_set c.args.held.now (c.args.node - 1) hs) same
    ∙ set_same (c.args.node - 1) c.args.held.now c.item_mut.result.now c.item_mut.ensures.value) c.push.ensures.err
