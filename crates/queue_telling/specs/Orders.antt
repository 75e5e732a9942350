-- The orders of jobs and outputs in their slots.
use Rattle.std.specs.Prelude.{◌≡◌, ℕ, ◌<◌, ◌==◌, false, List, Option, All}
use Rattle.std.specs.List.{list_any}
use Rattle.mas_types.specs.Fit.{AreDistinct}
use Rattle.lay_bytes.specs.declared.records.JobRec.{JobRec}
use Rattle.lay_bytes.specs.declared.records.OutRec.{OutRec}
use Rattle.ckpt_tables.specs.declared.tables.Tables.{Tables}
use Rattle.lay_bytes.specs.Used.{used}

-- in these slots no two jobs or outputs have one order, and each order is below the next one
pub record AreOrdered (js : List (Option JobRec)) (os : List (Option OutRec)) (next : ℕ) : Type 0 where
  pub jobs : AreDistinct (λ a b. a.order == b.order) (used js)
  pub outputs : AreDistinct (λ a b. a.order == b.order) (used os)
  pub apart : All (λ o. list_any (λ j. j.order == o.order) (used js) ≡ false) (used os)
  pub jobs_below : All (λ j. j.order < next) (used js)
  pub outputs_below : All (λ o. o.order < next) (used os)

abbrev pub HaveOrders : Tables → Type 0
HaveOrders t = AreOrdered t.jobs t.outputs t.order
