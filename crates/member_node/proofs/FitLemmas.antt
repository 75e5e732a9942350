-- Orders that are below the next one.
use Rattle.std.proofs.Common.{◌≡◌, ℕ, nat_lt, Bool, true, false, List, [], ◌∷◌, Option, Some, None, refl, All}
use Rattle.std.proofs.lemmas.Bool.{and_from as true_both, and_parts as both_true, lt-ltb as is_below, ltb-true as below}
use Rattle.std.specs.List.{list_all}
use Rattle.std.proofs.lemmas.List.Elements.{All-nil, All-cons, All-head, All-tail}
use Rattle.lay_bytes.specs.declared.records.JobRec.{JobRec}
use Rattle.lay_bytes.specs.declared.records.OutRec.{OutRec}
use Rattle.lay_bytes.specs.Slots.{IfUsed, IsJobRec, IsOutRec}
use Rattle.lay_bytes.specs.Used.{used}
use Rattle.ckpt_tables.specs.declared.tables.Tables.{Tables}
use Rattle.ckpt_tables.specs.Shape.{HasSpelling}
use Rattle.queue_indexed.specs.Standing.{AreFit, IsFitJob, IsFitOutput}
use Rattle.page_tables.specs.Bringing.{are_orders_low}
use Rattle.page_tables.specs.Kinds.{is_job_below, is_output_below}

pub not_both : (b : Bool) → b ≡ false → b ≡ true → ⊥
not_both b p q = cc

pub jobs_fit : (order : ℕ) (slots : List (Option JobRec)) → list_all (is_job_below order) slots ≡ true → All (IfUsed IsJobRec) slots → All (IsFitJob order) (used slots)
jobs_fit order [] is recs = All-nil (IsFitJob order)
jobs_fit order (None ∷ slots) is recs = jobs_fit order slots is (All-tail (IfUsed IsJobRec) None slots recs)
jobs_fit order (Some j ∷ slots) is recs =
    let both = both_true (nat_lt j.order order) (list_all (is_job_below order) slots) is in
    let here : IsJobRec j = All-head (IfUsed IsJobRec) (Some j) slots recs in
    let rest : All (IsFitJob order) (used slots) = jobs_fit order slots both.1 (All-tail (IfUsed IsJobRec) (Some j) slots recs) in
    All-cons (IsFitJob order) j (used slots) (record { below = below j.order order both.0; busy = here.busy }) rest

pub outputs_fit : (order : ℕ) (slots : List (Option OutRec)) → list_all (is_output_below order) slots ≡ true → All (IfUsed IsOutRec) slots → All (IsFitOutput order) (used slots)
outputs_fit order [] is recs = All-nil (IsFitOutput order)
outputs_fit order (None ∷ slots) is recs = outputs_fit order slots is (All-tail (IfUsed IsOutRec) None slots recs)
outputs_fit order (Some o ∷ slots) is recs =
    let both = both_true (nat_lt o.order order) (list_all (is_output_below order) slots) is in
    let here : IsOutRec o = All-head (IfUsed IsOutRec) (Some o) slots recs in
    let rest : All (IsFitOutput order) (used slots) = outputs_fit order slots both.1 (All-tail (IfUsed IsOutRec) (Some o) slots recs) in
    All-cons (IsFitOutput order) o (used slots) (record { below = below o.order order both.0; busy = here.busy }) rest

pub jobs_below : (order : ℕ) (slots : List (Option JobRec)) → All (IsFitJob order) (used slots) → list_all (is_job_below order) slots ≡ true
jobs_below order [] fit = refl
jobs_below order (None ∷ slots) fit = jobs_below order slots fit
jobs_below order (Some j ∷ slots) fit =
    let here : IsFitJob order j = All-head (IsFitJob order) j (used slots) fit in
    true_both (nat_lt j.order order) (list_all (is_job_below order) slots) (is_below j.order order here.below) (jobs_below order slots (All-tail (IsFitJob order) j (used slots) fit))

pub outputs_below : (order : ℕ) (slots : List (Option OutRec)) → All (IsFitOutput order) (used slots) → list_all (is_output_below order) slots ≡ true
outputs_below order [] fit = refl
outputs_below order (None ∷ slots) fit = outputs_below order slots fit
outputs_below order (Some o ∷ slots) fit =
    let here : IsFitOutput order o = All-head (IsFitOutput order) o (used slots) fit in
    true_both (nat_lt o.order order) (list_all (is_output_below order) slots) (is_below o.order order here.below) (outputs_below order slots (All-tail (IsFitOutput order) o (used slots) fit))

-- tables that are fit have such orders, and those that have a spelling are fit then
pub orders_low : (t : Tables) → AreFit t → are_orders_low t ≡ true
orders_low t fit = true_both (list_all (is_job_below t.order) t.jobs) (list_all (is_output_below t.order) t.outputs) (jobs_below t.order t.jobs fit.jobs) (outputs_below t.order t.outputs fit.outputs)

pub low_fit : (t : Tables) → HasSpelling t → are_orders_low t ≡ true → AreFit t
low_fit t spelling low =
    let both = both_true (list_all (is_job_below t.order) t.jobs) (list_all (is_output_below t.order) t.outputs) low in
    record { shape = spelling.shape; jobs = jobs_fit t.order t.jobs both.0 spelling.jobs; outputs = outputs_fit t.order t.outputs both.1 spelling.outputs }
