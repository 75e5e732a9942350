use Rattle.std.proofs.Common.{◌≡◌, ◌∙◌, ℕ, List, [], length, sym, ap, subst, arith}
use Rattle.ckpt_tables.specs.declared.tables.Tables.{Tables}
use Rattle.ckpt_tables.specs.Shape.{HasSpelling}
use Rattle.ckpt_tables.specs.Pages.{page_in}
use Rattle.ckpt_pages.proofs.RunLemmas.{page_at}
use Rattle.page_tables.specs.Bringing.{AreOlder, AreReadable, IsUpBefore, with_header}
use Rattle.page_tables.proofs.SlotLemmas.{low_tables, tables_low}
use Rattle.page_tables.proofs.TakeLemmas.{header_below, header_fits, header_older, up_checkpoint}
use Rattle.page_tables.proofs.bringing.bring_up.Goals as goal

pub take_pages-requires-clause-spelling : goal.take_pages-requires-clause-spelling
take_pages-requires-clause-spelling c =
    let t = c.args.tables.now in
    let first = page_at c.args.pages.now 0 (record { 0 = [] }) (omega (arith, c.requires.can.count)) in
    let e : c.take_header.new.tables ≡ with_header (page_in c.args.pages.now 0) t = c.take_header.ensures ∙ ap (λ (b : List ℕ). with_header b t) (sym first) in
    subst HasSpelling (sym e) (header_fits t c.args.pages.now c.args.marks.now.pages c.requires.spelling c.requires.can)

pub take_pages-requires-clause-older : goal.take_pages-requires-clause-older
take_pages-requires-clause-older c =
    let t = c.args.tables.now in
    let first = page_at c.args.pages.now 0 (record { 0 = [] }) (omega (arith, c.requires.can.count)) in
    let e : c.take_header.new.tables ≡ with_header (page_in c.args.pages.now 0) t = c.take_header.ensures ∙ ap (λ (b : List ℕ). with_header b t) (sym first) in
    subst (λ (u : Tables). AreOlder u c.args.pages.now c.args.marks.now.pages) (sym e) (header_older t c.args.pages.now c.args.marks.now.pages c.requires.spelling c.requires.can c.requires.older)

pub take_pages-requires-clause-readable : goal.take_pages-requires-clause-readable
take_pages-requires-clause-readable c =
    let t = c.args.tables.now in
    let first = page_at c.args.pages.now 0 (record { 0 = [] }) (omega (arith, c.requires.can.count)) in
    let e : c.take_header.new.tables ≡ with_header (page_in c.args.pages.now 0) t = c.take_header.ensures ∙ ap (λ (b : List ℕ). with_header b t) (sym first) in
    subst (λ (u : Tables). AreReadable u.config u.order c.args.pages.now c.args.marks.now.pages) (sym e) c.requires.can.each

pub returns-clause-spelled : goal.returns-clause-spelled
returns-clause-spelled c =
    let t = c.args.tables.now in
    let first = page_at c.args.pages.now 0 (record { 0 = [] }) (omega (arith, c.requires.can.count)) in
    let e : c.take_header.new.tables ≡ with_header (page_in c.args.pages.now 0) t = c.take_header.ensures ∙ ap (λ (b : List ℕ). with_header b t) (sym first) in
    up_checkpoint t c.args.pages.now c.args.marks.now.pages c.requires.spelling c.requires.can c.take_pages.new.tables
    (subst (λ (u : Tables). IsUpBefore u c.args.pages.now c.args.marks.now.pages (length c.args.pages.now) c.take_pages.new.tables) e c.take_pages.ensures)

pub returns-clause-order : goal.returns-clause-order
returns-clause-order c =
    let t = c.args.tables.now in
    let first = page_at c.args.pages.now 0 (record { 0 = [] }) (omega (arith, c.requires.can.count)) in
    let e : c.take_header.new.tables ≡ with_header (page_in c.args.pages.now 0) t = c.take_header.ensures ∙ ap (λ (b : List ℕ). with_header b t) (sym first) in
    c.take_pages.ensures.order ∙ ap (λ (u : Tables). u.order) e

pub returns-clause-low : goal.returns-clause-low
returns-clause-low c low =
    let t = c.args.tables.now in
    let first = page_at c.args.pages.now 0 (record { 0 = [] }) (omega (arith, c.requires.can.count)) in
    let e : c.take_header.new.tables ≡ with_header (page_in c.args.pages.now 0) t = c.take_header.ensures ∙ ap (λ (b : List ℕ). with_header b t) (sym first) in
    let up = subst (λ (u : Tables). IsUpBefore u c.args.pages.now c.args.marks.now.pages (length c.args.pages.now) c.take_pages.new.tables) e c.take_pages.ensures in
    low_tables c.take_pages.new.tables (up.below (header_below t c.args.pages.now c.args.marks.now.pages c.requires.spelling c.requires.can (tables_low t low)))
