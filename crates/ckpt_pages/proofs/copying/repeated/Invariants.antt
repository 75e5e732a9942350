use Rattle.std.proofs.Common.{◌≡◌, replicate}
use Rattle.ckpt_pages.proofs.copying.repeated.Given as goal

abbrev pub invariant-loop-time : goal.invariant-loop-time
invariant-loop-time g l = l.items ≡ replicate l._time l.item
