-- What an index tells of the queue that its tables tell.
use Rattle.std.proofs.Common.{◌≡◌, ◌*◌, List, Option, Some, None, refl, sym, ap, subst}
use Rattle.std.specs.Prelude.{is_some, option_map, nat_lt, if◌then◌else◌}
use Rattle.mas_types.specs.declared.jobs.Output.{Output}
use Rattle.mas_types.specs.declared.queues.Queue.{Queue}
use Rattle.mas_types.specs.declared.units.Unit as units
use Rattle.mas_types.specs.declared.units.Unit.TheVariants as unit
use Rattle.mas_types.specs.Units.{print_unit}
use Rattle.lay_bytes.specs.declared.records.JobRec.{JobRec}
use Rattle.lay_bytes.specs.declared.records.OutRec.{OutRec}
use Rattle.ckpt_tables.specs.declared.tables.Tables.{Tables}
use Rattle.job_queue.specs.Jobs.{AreJobs}
use Rattle.queue_commands.specs.Outputs.{AreOutputs, rec_of, unordered}
use Rattle.queue_commands.specs.Telling.{Tell}
use Rattle.queue_commands.proofs.UnitLemmas.{same_print}
use Rattle.job_select.specs.declared.index.Index.{Index}
use Rattle.job_select.specs.Indexes.{IsOf, StandsFor}

-- an index of tables stands for what they tell
pub told : (i : Index) (t : Tables) (Q : Queue) → IsOf i t → Tell t Q → StandsFor i Q
told i t Q is tell = record {
  jobs = subst (λ (s : List (Option JobRec)). AreJobs s Q.jobs) (sym is.jobs) tell.jobs;
  outputs = subst (λ (s : List (Option OutRec)). AreOutputs s Q.outputs) (sym is.outputs) tell.outputs;
}

pub is_some-map : {A B : Type 0} (f : A → B) (o : Option A) → is_some (option_map f o) ≡ is_some o
is_some-map f None = refl
is_some-map f (Some a) = refl

-- a record and the output that it tells of give the same unit
pub prints : (r : OutRec) (o : Option Output) → option_map unordered (Some r) ≡ option_map rec_of o
    → Some (if nat_lt r.mark (r.lines * r.copies) then unit.Print r.job r.index else unit.Finish r.job r.index) ≡ option_map print_unit o
prints r None is = absurd cc
prints r (Some o) is = ap (λ (u : units.Unit). Some u) (sym (same_print o r (let e : rec_of o ≡ unordered r = cc in e)))

pub prints_none : (o : Option Output) → None ≡ option_map rec_of o → None ≡ option_map print_unit o
prints_none None is = refl
prints_none (Some o) is = absurd cc
