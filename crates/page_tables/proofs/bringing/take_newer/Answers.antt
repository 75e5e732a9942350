use Rattle.std.proofs.Common.{◌∙◌, ℕ, List, [], sym, subst}
use Rattle.ckpt_pages.proofs.RunLemmas.{page_at}
use Rattle.page_tables.specs.Bringing.{IsReadable, Takes}
use Rattle.page_tables.proofs.TakeLemmas.{up_older, up_taken}
use Rattle.page_tables.proofs.bringing.take_newer.Goals as goal

pub take_page-requires-clause-readable : goal.take_page-requires-clause-readable
take_page-requires-clause-readable c =
    let t = c.args.tables.now in
    subst (λ (bytes : List ℕ). IsReadable t.config t.order bytes c.args.number) (page_at c.args.pages.now c.args.number (record { 0 = [] }) c.requires.within)
    (c.requires.readable c.args.number (record { some = c.requires.some; within = c.requires.within; newer = sym c.has.ensures ∙ c.if-has.true }))

pub returns-then-has : goal.returns-then-has
returns-then-has c t before =
    let old = c.args.tables.now in
    let new = c.take_page.new.tables in
    let here = page_at c.args.pages.now c.args.number (record { 0 = [] }) c.requires.within in
    up_taken t c.args.pages.now c.args.marks.now.pages c.args.number c.args.tables.now c.take_page.new.tables c.requires.some (subst (λ (bytes : List ℕ). Takes c.args.number bytes old new) (sym here) c.take_page.ensures) before

pub returns-else-has : goal.returns-else-has
returns-else-has c t before = up_older t c.args.pages.now c.args.marks.now.pages c.args.number c.args.tables.now (sym c.has.ensures ∙ c.if-has.false) before
