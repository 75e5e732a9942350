use Rattle.std.proofs.Common.{◌≡◌, map, take}
use Rattle.ckpt_pages.proofs.kinds.classes_of.Given as goal

abbrev pub invariant-loop-byte : goal.invariant-loop-byte
invariant-loop-byte l = l.classes ≡ map (λ b. record { 0 = b }) (take l.byte-index l.byte-items)
