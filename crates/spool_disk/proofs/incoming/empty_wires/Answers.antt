use Rattle.std.proofs.Common.{arith, ◌∙◌, ap, ℕ, List, [], ◌∷◌, length, length-append, Vec}
use Rattle.std.specs.declared.alloc.Global.{Global}
use Rattle.spool_disk.specs.Standing.{bytes_at}
use Rattle.spool_disk.proofs.Slots.{none_more}
use Rattle.spool_disk.proofs.incoming.empty_wires.Goals as goal

pub loop-wire-preserved : goal.loop-wire-preserved
loop-wire-preserved c = record {
  many = omega (arith, ap (λ (l : List (Vec ℕ Global)). length l) c.in_ok-push.ensures.items, length-append c.loop-wire.all.items (c.new.result ∷ []), c.loop-wire.invariant.many);
  each = λ w. ap (λ (l : List (Vec ℕ Global)). bytes_at l w) c.in_ok-push.ensures.items ∙ none_more c.loop-wire.all.items c.new.result c.loop-wire.invariant.each c.new.ensures.items w;
}
