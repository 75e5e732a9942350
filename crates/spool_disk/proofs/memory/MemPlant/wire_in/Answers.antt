use Rattle.std.proofs.Common.{ap, ℕ, List}
use Rattle.std.proofs.Math.Path.{fun_ext}
use Rattle.spool_disk.specs.MemView.{mem_view}
use Rattle.spool_disk.proofs.MemActs.{if_err}
use Rattle.spool_disk.proofs.memory.MemPlant.wire_in.Goals as goal

pub returns-in_err-add-clause-none : goal.returns-in_err-add-clause-none
returns-in_err-add-clause-none c =
    if_err c.from_residual.result (ap (λ (f : ℕ → List ℕ). record (mem_view c.args.self.now) { waiting = f }) (fun_ext (λ w. c.in_err-add.ensures.none w)))
