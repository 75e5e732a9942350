use Rattle.std.proofs.Common.{◌≡◌, ◌≤◌, ◌<◌, ◌∙◌, ℕ, length, sym, ap}
use Rattle.ckpt_tables.specs.Shape.{first_group_page, first_output_page}
use Rattle.page_tables.proofs.TakeLemmas.{takes_jobs, takes_outputs, takes_owners}
use Rattle.page_tables.proofs.bringing.take_page.Goals as goal

pub returns-then-number-first_output : goal.returns-then-number-first_output
returns-then-number-first_output c =
    let t = c.args.tables.now in
    let size : length c.args.page.now.0 ≡ 4096 = ap (length {A = ℕ}) (sym c.bytes_in-bytes.ensures.bytes) ∙ c.bytes_in-bytes.ensures.size in
    let to : c.args.number < first_output_page t.config = rw c.first_output_page-first_output.ensures at c.if-number-first_output.true in
    takes_jobs t c.args.number c.args.page.now.0 c.requires.spelling size c.requires.readable.behind to c.take_part.new.items (rw c.bytes_in-bytes.ensures.bytes at c.take_part.ensures)

pub returns-then-number-first_group : goal.returns-then-number-first_group
returns-then-number-first_group c =
    let t = c.args.tables.now in
    let size : length c.args.page.now.0 ≡ 4096 = ap (length {A = ℕ}) (sym c.bytes_in-bytes.ensures.bytes) ∙ c.bytes_in-bytes.ensures.size in
    let from : first_output_page t.config ≤ c.args.number = rw c.first_output_page-first_output.ensures at c.if-number-first_output.false in
    let to : c.args.number < first_group_page t.config = rw c.first_group_page-first_group.ensures at c.if-number-first_group.true in
    takes_outputs t c.args.number c.args.page.now.0 c.requires.spelling size from to c.take_part-then-number-first_group.new.items
    (rw (c.bytes_in-bytes.ensures.bytes, c.first_output_page-first_output.ensures) at c.take_part-then-number-first_group.ensures)

pub returns-else-number-first_group : goal.returns-else-number-first_group
returns-else-number-first_group c =
    let t = c.args.tables.now in
    let size : length c.args.page.now.0 ≡ 4096 = ap (length {A = ℕ}) (sym c.bytes_in-bytes.ensures.bytes) ∙ c.bytes_in-bytes.ensures.size in
    let from : first_group_page t.config ≤ c.args.number = rw c.first_group_page-first_group.ensures at c.if-number-first_group.false in
    takes_owners t c.args.number c.args.page.now.0 c.requires.spelling size from c.requires.within c.take_part-else-number-first_group.new.items
    (rw (c.bytes_in-bytes.ensures.bytes, c.first_group_page-first_group.ensures, c.groups_on-count.ensures) at c.take_part-else-number-first_group.ensures)
