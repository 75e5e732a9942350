use Rattle.std.proofs.Common.{◌≡◌, ◌<◌, ℕ}
use Rattle.ckpt_tables.specs.Pages.{page_in, page_of}
use Rattle.member_node.proofs.checkpoint.is_spelling.Given as goal

abbrev pub invariant-loop-number : goal.invariant-loop-number
invariant-loop-number l = (p : ℕ) → p < l.number → page_in l.pages p ≡ page_of l.tables l.levels p
