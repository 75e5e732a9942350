-- The next unit, piece by piece.
use Rattle.std.proofs.Common.{◌≡◌, ℕ, ◌*◌, List, Bool, Option, Some, None, refl, ap, ◌∙◌}
use Rattle.std.specs.Prelude.{is_some, find, nat_lt, if◌then◌else◌, [], ◌∷◌}
use Rattle.mas_types.specs.declared.units.Unit as units
use Rattle.mas_types.specs.declared.units.Unit.TheVariants as unit
use Rattle.mas_types.specs.declared.jobs.Output.{Output}
use Rattle.mas_types.specs.Units.{unit_if, print_unit}
use Rattle.lay_bytes.specs.declared.records.OutRec.{OutRec}
use Rattle.std.specs.Option.{option_map_or}
use Rattle.mas_types.specs.declared.ids.MemberId.{MemberId}
use Rattle.mas_types.specs.declared.queues.Queue.{Queue}
use Rattle.mas_types.specs.declared.queues.Setting.{Setting}
use Rattle.mas_types.specs.Lists.{is_greatest_of, has_first_key_of}
use Rattle.mas_types.specs.Queue.{setting_of}
use Rattle.mas_types.specs.Selection.{for_execute, for_printer, job_prio, has_class, may_execute, output_prio, of_class, may_print}
use Rattle.output_queue.specs.Outputs as outputs

-- what is about what is there
pub unit_if-some : {A : Type 0} (u : units.Unit) (o : Option A) → unit_if u o ≡ (if is_some o then Some u else None)
unit_if-some u None = refl
unit_if-some u (Some a) = refl

-- a record of a printing output and the output itself give the same unit
pub same_print : (o : Output) (r : OutRec) → outputs.rec_of o ≡ outputs.unordered r → print_unit o ≡ (if nat_lt r.mark (r.lines * r.copies) then unit.Print r.job r.index else unit.Finish r.job r.index)
same_print o r is =
    ap (λ (x : OutRec). if nat_lt x.mark (x.lines * x.copies) then unit.Print x.job x.index else unit.Finish x.job x.index) is

no_key : {K X : Type 0} (has : K → X → Bool) (t : X → Bool) (n : X → ℕ) (xs ys : List X) → find (is_greatest_of n (has_first_key_of has [] t xs) xs) ys ≡ None
no_key has t n xs [] = refl
no_key has t n xs (y ∷ ys) = no_key has t n xs ys

-- without a setting nothing is selected
pub none_executed : (Q : Queue) (m : MemberId) → setting_of Q m ≡ None → for_execute Q m ≡ None
none_executed Q m none =
    ap (λ (s : Option Setting). find (is_greatest_of job_prio (has_first_key_of has_class (option_map_or (λ z. z.init) s []) may_execute Q.jobs) Q.jobs) Q.jobs) none
    ∙ no_key has_class may_execute job_prio Q.jobs Q.jobs

pub none_printed : (Q : Queue) (m : MemberId) → setting_of Q m ≡ None → for_printer Q m ≡ None
none_printed Q m none =
    ap (λ (s : Option Setting). find (is_greatest_of (output_prio Q) (has_first_key_of of_class (option_map_or (λ z. z.prt) s []) (may_print Q m) Q.outputs) Q.outputs) Q.outputs) none
    ∙ no_key of_class (may_print Q m) (output_prio Q) Q.outputs Q.outputs
