-- What is found among outputs.
use Rattle.std.proofs.Common.{◌≡◌, ℕ, ◌<◌, List, [], ◌∷◌, ◌++◌, length, Option, Some, None, slice_get, set, refl, sym, ◌∙◌}
use Rattle.std.specs.Prelude.{find, is_some, IfSome, IfNone}
use Rattle.std.specs.List.{list_any, All}
use Rattle.mas_types.specs.declared.ids.JobNo.{JobNo}
use Rattle.mas_types.specs.declared.ids.OutNo.{OutNo}
use Rattle.mas_types.specs.declared.jobs.OutSpec.{OutSpec}
use Rattle.mas_types.specs.declared.jobs.Output.{Output}
use Rattle.mas_types.specs.Ids.{nobody, same_number}
use Rattle.mas_types.specs.Queue.{is_of}
use Rattle.mas_types.specs.Commands.Life.{new_output}
use Rattle.lay_bytes.specs.declared.records.OutRec.{OutRec}
use Rattle.lay_bytes.specs.Used.{used}
use Rattle.queue_slots.specs.declared.slots.Found.{Found}
use Rattle.queue_slots.specs.Listed.{listed, StandsFirst}
use Rattle.queue_slots.proofs.Keys.{any-none, any-some}
use Rattle.queue_slots.proofs.Alike.{length-alike, push-alike, list_any-alike}
use Rattle.queue_slots.proofs.Changes.{length-listed, listed-free}
use Rattle.output_queue.specs.Outputs.{AreOutputs, order_of, unordered, rec_of}

-- as many outputs as slots are used
pub length-outputs : (slots : List (Option OutRec)) (os : List Output) → AreOutputs slots os → length (used slots) ≡ length os
length-outputs slots os are = sym (length-listed order_of slots) ∙ length-alike unordered rec_of (listed order_of slots) os are

-- whether a job has one
pub has_output-found : (n : JobNo) (slots : List (Option OutRec)) (os : List Output) (r : Option (Found OutRec)) → AreOutputs slots os
    → IfSome r (λ f. StandsFirst order_of (λ x. same_number x.job n) slots f.at f.item) → IfNone r (find (λ x. same_number x.job n) (listed order_of slots) ≡ None)
    → is_some r ≡ list_any (is_of n) os
has_output-found n slots os None are some none =
    sym (any-none (λ x. same_number x.job n) (listed order_of slots) none) ∙ list_any-alike unordered rec_of (λ x. same_number x.job n) (listed order_of slots) os are
has_output-found n slots os (Some f) are some none =
    sym (any-some (λ x. same_number x.job n) (listed order_of slots) f.item some.first) ∙ list_any-alike unordered rec_of (λ x. same_number x.job n) (listed order_of slots) os are

-- a new output
pub outputs-added : (slots : List (Option OutRec)) (at : ℕ) (os : List Output) (n : JobNo) (i : OutNo) (s : OutSpec) (order : ℕ) → slice_get slots at ≡ Some None
    → All (λ r. r.order < order) (used slots) → AreOutputs slots os
    → AreOutputs (set slots at (Some (record { job = n; index = i; class = s.class; dest = s.dest; forms = s.forms; copies = s.copies; held = s.held; busy = nobody; mark = 0; lines = length s.text; order = order }))) (os ++ new_output n i.0 s ∷ [])
outputs-added slots at os n i s order free above are =
    let x : OutRec = record { job = n; index = i; class = s.class; dest = s.dest; forms = s.forms; copies = s.copies; held = s.held; busy = nobody; mark = 0; lines = length s.text; order = order } in
    rw (listed-free order_of x slots at free above)
    (push-alike unordered rec_of (listed order_of slots) os x (new_output n i.0 s) are refl)
