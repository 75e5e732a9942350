use Rattle.std.proofs.Common.{◌≡◌, length, arith}
use Rattle.std.proofs.lemmas.Result.{err_from_is_err_and}
use Rattle.ckpt_pages.specs.declared.nodes.Nodes.{Nodes}
use Rattle.ckpt_pages.proofs.EntryLemmas.{bad_again}
use Rattle.ckpt_pages.proofs.NodeLemmas.{few_routes, no_names, no_lines, no_routes, nodes_found}
use Rattle.ckpt_pages.proofs.nodes.read_nodes.Goals as goal

pub returns-in_default-clause-bad : goal.returns-in_default-clause-bad
returns-in_default-clause-bad c h n is = no_names c.args.page.now c.split_at.result.0.now _ c.split_at.ensures.front c.in_default.ensures.err n is

pub returns-in_err-read_entries-clause-bad : goal.returns-in_err-read_entries-clause-bad
returns-in_err-read_entries-clause-bad c h n is =
    let len : length c.split_at-2.result.0.now ≡ 896 = omega (arith, c.split_at-2.ensures.front_len) in
    let p = err_from_is_err_and c.from_residual.result c.from_residual.ensures.1 in
    no_lines c.args.page.now c.split_at.result.1.now c.split_at-2.result.0.now c.split_at.ensures.back c.split_at-2.ensures.front len
    (c.in_err-read_entries.ensures.bad (bad_again Nodes (Unit {0}) c.from_residual.result _ c.in_err-read_entries.field-0.0 p.1 p.2 h)) n is

pub read_entries-requires-2 : goal.read_entries-requires-2
read_entries-requires-2 c =
    let len : length c.split_at-2.result.1.now ≡ 3072 = omega (arith, c.split_at-2.ensures.back_len, c.split_at.ensures.back_len, c.requires) in
    let few = few_routes c.args.page.now c.split_at.result.0.now c.split_at.ensures.front c.split_at.ensures.front_len (λ i. omega (arith, c.type_inv.page i)) c.in-Ok.ensures.ok in
    omega (arith, len, few)

pub returns-in_err-read_entries-2-clause-bad : goal.returns-in_err-read_entries-2-clause-bad
returns-in_err-read_entries-2-clause-bad c h n is =
    let len : length c.split_at-2.result.1.now ≡ 3072 = omega (arith, c.split_at-2.ensures.back_len, c.split_at.ensures.back_len, c.requires) in
    let p = err_from_is_err_and c.from_residual-in_err-read_entries-2.result c.from_residual-in_err-read_entries-2.ensures.1 in
    no_routes c.args.page.now c.split_at.result.0.now c.split_at.result.1.now c.split_at-2.result.1.now c.split_at.ensures.front c.split_at.ensures.back c.split_at-2.ensures.back len
    (c.in_err-read_entries-2.ensures.bad (bad_again Nodes (Unit {0}) c.from_residual-in_err-read_entries-2.result _ c.in_err-read_entries-2.field-0.0 p.1 p.2 h)) n is

pub returns-clause-found : goal.returns-clause-found
returns-clause-found c =
    let len1 : length c.split_at-2.result.0.now ≡ 896 = omega (arith, c.split_at-2.ensures.front_len) in
    let len2 : length c.split_at-2.result.1.now ≡ 3072 = omega (arith, c.split_at-2.ensures.back_len, c.split_at.ensures.back_len, c.requires) in
    let lines = rw c.new-lines.ensures at c.in_ok-read_entries.ensures.ok in
    let routes = rw c.new-routes.ensures at c.in_ok-read_entries-2.ensures.ok in
    nodes_found c.args.page.now c.split_at.result.0.now c.split_at.result.1.now c.split_at-2.result.0.now c.split_at-2.result.1.now c.name_of.result c.read_entries.new.into c.read_entries-2.new.into
    c.split_at.ensures.front c.split_at.ensures.back c.split_at-2.ensures.front c.split_at-2.ensures.back c.split_at.ensures.front_len len1 len2 (λ i. omega (arith, c.type_inv.page i)) c.in-Ok.ensures.ok c.name_of.ensures
    lines routes
