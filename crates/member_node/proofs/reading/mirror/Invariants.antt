use Rattle.std.proofs.Common.{◌≡◌, ◌≤◌, ◌<◌, ℕ}
use Rattle.ckpt_tables.specs.Pages.{page_in}
use Rattle.member_node.proofs.reading.mirror.Given as goal

abbrev pub invariant-loop-page : goal.invariant-loop-page
invariant-loop-page l = record {
  header : page_in l.room 0 ≡ page_in l.fn.room 0;
  rest : (q : ℕ) → l.page ≤ q → page_in l.room q ≡ page_in l.fn.room q;
  mirrors : (q : ℕ) → 1 ≤ q → q < l.page → page_in l.room q ≡ page_in l.own q;
}
