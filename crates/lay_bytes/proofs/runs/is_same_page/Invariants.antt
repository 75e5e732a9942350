use Rattle.std.proofs.Common.{◌≡◌, ◌*◌, bytes_eq, drop}
use Rattle.lay_bytes.proofs.runs.is_same_page.Given as goal

abbrev pub invariant-loop-run : goal.invariant-loop-run
invariant-loop-run l = bytes_eq (drop (64 * l.run) l.a.0) (drop (64 * l.run) l.b.0) ≡ bytes_eq l.a.0 l.b.0
