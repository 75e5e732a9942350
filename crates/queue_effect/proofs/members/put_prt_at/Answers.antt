use Rattle.page_marks.proofs.MarkLemmas.{touch_members}
use Rattle.std.proofs.Common.{List, ap, set, sym, arith}
use Rattle.mas_types.specs.declared.queues.Setting.{Setting}
use Rattle.mas_types.specs.Fit.{IsSetting}
use Rattle.queue_effect.proofs.FitLemmas.{setting_fit}
use Rattle.queue_effect.proofs.SlotLemmas.{change_past, change_found}
use Rattle.queue_effect.proofs.members.put_prt_at.Goals as goal

pub returns-then-at-len-clause-value : goal.returns-then-at-len-clause-value
returns-then-at-len-clause-value c =
    ap (λ (ss : List Setting). record c.args.tables.now { members = ss }) (sym (change_past (λ (s : Setting). record s { prt = c.args.prt; forms = c.args.setup.forms; lines = c.args.setup.lines }) c.args.at c.args.tables.now.members (omega arith)))

pub returns-clause-value : goal.returns-clause-value
returns-clause-value c =
    ap (λ (ss : List Setting). record c.args.tables.now { members = ss }) (change_found (λ (s : Setting). record s { prt = c.args.prt; forms = c.args.setup.forms; lines = c.args.setup.lines }) c.args.at c.args.tables.now.members _ c.item_mut-setting.ensures.value)

pub returns-clause-fit : goal.returns-clause-fit
returns-clause-fit c = λ fit.
    let s : Setting = c.item_mut-setting.result.now in
    setting_fit c.args.tables.now c.args.at s (record s { prt = c.args.prt; forms = c.args.setup.forms; lines = c.args.setup.lines }) c.item_mut-setting.ensures.value (λ (h : IsSetting s). record { init = h.init; prt = c.requires.classes; forms = c.requires.forms; lines = c.requires.lines }) fit

pub returns-clause-touches : goal.returns-clause-touches
returns-clause-touches c fit =
    rw c.put.ensures (touch_members c.args.marks.now.pages c.args.tables.now (set c.args.tables.now.members c.args.at (record c.item_mut-setting.result.now { prt = c.args.prt; forms = c.args.setup.forms; lines = c.args.setup.lines })) (omega (arith, c.args.marks.now.many)))
