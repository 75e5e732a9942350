use Rattle.std.proofs.Common.{◌-◌, sym, arith}
use Rattle.nje_net.specs.declared.worlds.NetLine.{NetLine}
use Rattle.nje_net.proofs.Items.{item_past, item_found}
use Rattle.nje_net.proofs.worlds.put.Goals as goal

pub returns-then-line-len : goal.returns-then-line-len
returns-then-line-len c = sym (item_past (λ (was : NetLine). c.args.value) c.args.line c.args.lines.now (omega arith))

pub returns : goal.returns
returns c = sym (item_found (λ (was : NetLine). c.args.value) c.args.line (c.args.line - 1) c.args.lines.now c.item_mut.result.now (omega arith) c.item_mut.ensures.value)
