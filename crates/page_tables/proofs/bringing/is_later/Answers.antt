use Rattle.std.proofs.Common.{◌≤◌, ◌∙◌, ℕ, [], sym, ap, subst, arith}
use Rattle.ckpt_pages.proofs.RunLemmas.{page_at}
use Rattle.page_tables.specs.Bringing.{order_in}
use Rattle.page_tables.proofs.bringing.is_later.Goals as goal

pub returns-clause-good : goal.returns-clause-good
returns-clause-good c is =
    let first = page_at c.args.pages.now 0 (record { 0 = [] }) (omega (arith, c.requires.count)) in
    record {
      order = subst (λ (n : ℕ). c.args.tables.now.order ≤ n) (c.order_of.ensures ∙ ap order_in (sym first)) c.if-order_of-tables.false;
      each = c.are_readable.ensures.good is;
    }

pub returns-clause-bad : goal.returns-clause-bad
returns-clause-bad c is later = c.are_readable.ensures.bad is later.each
