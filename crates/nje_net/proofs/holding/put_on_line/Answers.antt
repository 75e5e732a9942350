use Rattle.std.proofs.Common.{◌-◌, ◌∙◌, List, [], slice_set, ap, sym, arith}
use Rattle.mas_types.specs.Lists.{change_first}
use Rattle.nje_net.specs.declared.worlds.Held.{Held}
use Rattle.nje_net.specs.Events.{first_id, on_line, waits_for}
use Rattle.nje_net.proofs.Items.{item_past, item_found, item_read, item_over}
use Rattle.nje_net.proofs.holding.put_on_line.Goals as goal

pub returns-then-node-len-clause-held : goal.returns-then-node-len-clause-held
returns-then-node-len-clause-held c =
    sym (item_past (change_first (waits_for c.args.routes.now c.args.line) (on_line c.args.line)) c.args.node c.args.held.now (omega arith))

pub returns-then-node-len-clause-id : goal.returns-then-node-len-clause-id
returns-then-node-len-clause-id c =
    sym (ap (first_id (waits_for c.args.routes.now c.args.line)) (item_over [] c.args.node c.args.held.now (omega arith)))

pub returns-clause-held : goal.returns-clause-held
returns-clause-held c =
    ap (λ (hs : List Held). slice_set c.args.held.now (c.args.node - 1) hs) c.put_first.ensures.jobs
    ∙ sym (item_found (change_first (waits_for c.args.routes.now c.args.line) (on_line c.args.line)) c.args.node (c.args.node - 1) c.args.held.now c.item_mut.result.now (omega arith) c.item_mut.ensures.value)

pub returns-clause-id : goal.returns-clause-id
returns-clause-id c =
    c.put_first.ensures.id
    ∙ sym (ap (first_id (waits_for c.args.routes.now c.args.line)) (item_read [] c.args.node (c.args.node - 1) c.args.held.now c.item_mut.result.now (omega arith) c.item_mut.ensures.value))
