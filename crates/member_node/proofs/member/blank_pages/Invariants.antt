use Rattle.std.proofs.Common.{◌≡◌, length}
use Rattle.member_node.proofs.member.blank_pages.Given as goal

abbrev pub invariant-loop-page : goal.invariant-loop-page
invariant-loop-page l = length l.pages ≡ l._page
