use Rattle.std.proofs.Common.{◌≡◌, length, arith}
use Rattle.ckpt_pages.proofs.NodeLemmas.{few_routes, no_names, no_lines, no_routes}
use Rattle.ckpt_pages.proofs.TestingLemmas.{nodes_there}
use Rattle.ckpt_pages.proofs.testing.are_nodes.Goals as goal

pub returns-in_default-clause-bad : goal.returns-in_default-clause-bad
returns-in_default-clause-bad c h n is = no_names c.args.page.now c.split_at.result.0.now _ c.split_at.ensures.front c.in_default.ensures.err n is

pub are_entries-requires-then-are_entries : goal.are_entries-requires-then-are_entries
are_entries-requires-then-are_entries c =
    let len : length c.split_at-2.result.1.now ≡ 3072 = omega (arith, c.split_at-2.ensures.back_len, c.split_at.ensures.back_len, c.requires) in
    let few = few_routes c.args.page.now c.split_at.result.0.now c.split_at.ensures.front c.split_at.ensures.front_len (λ i. omega (arith, c.type_inv.page i)) c.in-Ok.ensures.ok in
    omega (arith, len, few)

pub returns-then-are_entries-clause-good : goal.returns-then-are_entries-clause-good
returns-then-are_entries-clause-good c h =
    let len1 : length c.split_at-2.result.0.now ≡ 896 = omega (arith, c.split_at-2.ensures.front_len) in
    let len2 : length c.split_at-2.result.1.now ≡ 3072 = omega (arith, c.split_at-2.ensures.back_len, c.split_at.ensures.back_len, c.requires) in
    nodes_there c.args.page.now c.split_at.result.0.now c.split_at.result.1.now c.split_at-2.result.0.now c.split_at-2.result.1.now c.split_at.ensures.front c.split_at.ensures.back c.split_at-2.ensures.front c.split_at-2.ensures.back
    c.split_at.ensures.front_len len1 len2 (λ i. omega (arith, c.type_inv.page i)) c.in-Ok.ensures.ok (c.are_entries.ensures.good c.if-are_entries.true) (c.are_entries-then-are_entries.ensures.good h)

pub returns-then-are_entries-clause-bad : goal.returns-then-are_entries-clause-bad
returns-then-are_entries-clause-bad c h n is =
    let len : length c.split_at-2.result.1.now ≡ 3072 = omega (arith, c.split_at-2.ensures.back_len, c.split_at.ensures.back_len, c.requires) in
    no_routes c.args.page.now c.split_at.result.0.now c.split_at.result.1.now c.split_at-2.result.1.now c.split_at.ensures.front c.split_at.ensures.back c.split_at-2.ensures.back len (c.are_entries-then-are_entries.ensures.bad h) n is

pub returns-else-are_entries-clause-bad : goal.returns-else-are_entries-clause-bad
returns-else-are_entries-clause-bad c h n is =
    let len : length c.split_at-2.result.0.now ≡ 896 = omega (arith, c.split_at-2.ensures.front_len) in
    no_lines c.args.page.now c.split_at.result.1.now c.split_at-2.result.0.now c.split_at.ensures.back c.split_at-2.ensures.front len (c.are_entries.ensures.bad c.if-are_entries.false) n is
