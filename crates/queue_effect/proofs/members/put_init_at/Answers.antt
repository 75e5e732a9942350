use Rattle.page_marks.proofs.MarkLemmas.{touch_members}
use Rattle.std.proofs.Common.{List, ap, set, sym, arith}
use Rattle.mas_types.specs.declared.queues.Setting.{Setting}
use Rattle.mas_types.specs.Fit.{IsSetting}
use Rattle.queue_effect.proofs.FitLemmas.{setting_fit}
use Rattle.queue_effect.proofs.SlotLemmas.{change_past, change_found}
use Rattle.queue_effect.proofs.members.put_init_at.Goals as goal

pub returns-then-at-len-clause-value : goal.returns-then-at-len-clause-value
returns-then-at-len-clause-value c =
    ap (λ (ss : List Setting). record c.args.tables.now { members = ss }) (sym (change_past (λ (s : Setting). record s { init = c.args.init }) c.args.at c.args.tables.now.members (omega arith)))

pub returns-clause-value : goal.returns-clause-value
returns-clause-value c =
    ap (λ (ss : List Setting). record c.args.tables.now { members = ss }) (change_found (λ (s : Setting). record s { init = c.args.init }) c.args.at c.args.tables.now.members _ c.item_mut.ensures.value)

pub returns-clause-fit : goal.returns-clause-fit
returns-clause-fit c = λ fit.
    let s : Setting = c.item_mut.result.now in
    setting_fit c.args.tables.now c.args.at s (record s { init = c.args.init }) c.item_mut.ensures.value (λ (h : IsSetting s). record { init = c.requires; prt = h.prt; forms = h.forms; lines = h.lines }) fit

pub returns-clause-touches : goal.returns-clause-touches
returns-clause-touches c fit =
    rw c.put.ensures (touch_members c.args.marks.now.pages c.args.tables.now (set c.args.tables.now.members c.args.at (record c.item_mut.result.now { init = c.args.init })) (omega (arith, c.args.marks.now.many)))
