use Rattle.std.proofs.Common.{◌≡◌, ◌<◌, ◌∙◌, ℕ, List, [], length, sym, ap, subst, rules, arith}
use Rattle.mas_types.specs.declared.ids.Page.{Page}
use Rattle.ckpt_tables.specs.Pages.{page_in}
use Rattle.ckpt_pages.proofs.RunLemmas.{page_at}
use Rattle.page_tables.specs.Bringing.{order_in}
use Rattle.member_node.specs.Reads.{too_high}
use Rattle.member_node.proofs.member.Member.can_come_up.Goals as goal

pub can_bring_up_spelled-requires-clause-spelled : goal.can_bring_up_spelled-requires-clause-spelled
can_bring_up_spelled-requires-clause-spelled c = rw c.as_slice-pages.ensures c.requires.spelled

pub returns : goal.returns
returns c is =
    let s = c.args.self.now in
    let many : length s.room ≡ length s.checkpoint.pages = search rules in
    let can = c.can_bring_up_spelled.ensures.good c.if-not-can_bring_up_spelled.false in
    let first = page_at c.as_slice-pages.result.now 0 (record { 0 = [] }) (omega (arith, can.count)) in
    let low : c.order_of.result < too_high = search rules in
    record {
      read = search rules;
      many = many;
      can = rw c.as_slice-pages.ensures at can;
      low_level = search rules;
      low_order = subst (λ (n : ℕ). n < too_high) (c.order_of.ensures ∙ ap order_in (sym first) ∙ ap (λ (ps : List Page). order_in (page_in ps 0)) c.as_slice-pages.ensures) low;
    }
