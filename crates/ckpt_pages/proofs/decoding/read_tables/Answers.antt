use Rattle.std.proofs.Common.{sym, subst}
use Rattle.std.proofs.lemmas.Result.{err_from_is_err_and}
use Rattle.ckpt_pages.specs.declared.header.Header.{Header}
use Rattle.ckpt_tables.specs.declared.tables.Tables.{Tables}
use Rattle.ckpt_pages.specs.Checkpoints.{IsCheckpoint, IsLeastBad}
use Rattle.ckpt_pages.specs.Slots.{IsBadBehind}
use Rattle.ckpt_pages.proofs.SlotPageLemmas.{of_reader, err_is, other_page, handed_on}
use Rattle.ckpt_pages.proofs.DecodingLemmas.{bad_0, tables_found}
use Rattle.ckpt_pages.proofs.decoding.read_tables.Goals as goal

pub returns-in-Err-clause-bad : goal.returns-in-Err-clause-bad
returns-in-Err-clause-bad c = rw c.at_page.ensures (of_reader (IsLeastBad c.args.pages.now) c.in-Err.why 0 (λ e. bad_0 c.args.pages.now (c.in-Err.ensures.bad (err_is Header c.in-Err.why e))))

pub returns-in_err-slots-clause-bad : goal.returns-in_err-slots-clause-bad
returns-in_err-slots-clause-bad c =
    let front = c.in_ok-front.front in
    let p = err_from_is_err_and c.from_residual-in_err-slots.result c.from_residual-in_err-slots.ensures.1 in
    handed_on Tables (IsLeastBad c.args.pages.now) c.from_residual-in_err-slots.result _ c.in_err-slots.field-0.0 p.1 p.2
    (other_page (IsBadBehind c.in-Ok.header c.args.pages.now) (IsLeastBad c.args.pages.now) c.in_err-slots.field-0.0 c.in_err-slots.ensures.bad
    (λ n bad. bad front.nodes.node front.members front.nodes.lines front.nodes.routes c.in_ok-front.ensures.found))

pub returns-clause-found : goal.returns-clause-found
returns-clause-found c =
    let front = c.in_ok-front.front in
    subst (IsCheckpoint c.args.pages.now) (sym c.tables_of.ensures)
    (tables_found c.in-Ok.header front.nodes.node front.members front.nodes.lines front.nodes.routes c.in_ok-slots.slots c.args.pages.now c.in-Ok.ensures.found c.in_ok-front.ensures.found c.in_ok-slots.ensures.found)
