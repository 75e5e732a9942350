use Rattle.std.proofs.Common.{◌≡◌, take}
use Rattle.member_node.specs.Mirrors.{marked_all}
use Rattle.member_node.proofs.marking.mark_each.Given as goal

abbrev pub invariant-loop-page : goal.invariant-loop-page
invariant-loop-page l = l.marks.pages ≡ marked_all (take l.page-index l.pages) l.initial.marks.pages
