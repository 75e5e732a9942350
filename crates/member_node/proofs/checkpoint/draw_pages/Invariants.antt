use Rattle.std.proofs.Common.{◌≡◌, length, take, All}
use Rattle.mas_types.specs.Limits.{page_bytes}
use Rattle.member_node.specs.Drawn.{drawn_again}
use Rattle.member_node.proofs.checkpoint.draw_pages.Given as goal

abbrev pub invariant-loop-number : goal.invariant-loop-number
invariant-loop-number l = (l.pages ≡ drawn_again l.tables l.levels (take l.number-index l.numbers) l.initial.pages) × All (λ page. length page.0 ≡ page_bytes) l.pages
