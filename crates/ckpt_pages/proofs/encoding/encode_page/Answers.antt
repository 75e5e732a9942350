use Rattle.std.proofs.Common.{◌≡◌, ℕ, sym, subst}
use Rattle.ckpt_tables.specs.Pages.{page_of}
use Rattle.ckpt_pages.proofs.encoding.encode_page.Goals as goal

pub returns-then-page-eq0-clause-spelled : goal.returns-then-page-eq0-clause-spelled
returns-then-page-eq0-clause-spelled c = subst (λ (p : ℕ). c.put_page_0.new.into ≡ page_of c.args.tables.now c.args.levels.now p) (sym c.if-page-eq0.true) c.put_page_0.ensures
