-- What a printer may take, by records and by outputs.
use Rattle.std.proofs.Common.{◌≡◌, ℕ, Bool, true, false, ◌&&◌, ◌||◌, List, [], Option, Some, None, refl, sym, ap, ◌∙◌, subst}
use mathlib.Core.Path.{fun_ext}
use Rattle.std.specs.Prelude.{find, option_map, not, IfSome, IfNone}
use Rattle.std.specs.Option.{option_map_or}
use Rattle.mas_types.specs.declared.ids.MemberId.{MemberId}
use Rattle.mas_types.specs.declared.ids.JobNo.{JobNo}
use Rattle.mas_types.specs.declared.jobs.Job.{Job}
use Rattle.mas_types.specs.declared.jobs.Output.{Output}
use Rattle.mas_types.specs.declared.queues.Queue.{Queue}
use Rattle.mas_types.specs.declared.queues.Setting.{Setting}
use Rattle.mas_types.specs.Lists.{is_greatest_of, has_first_key_of}
use Rattle.mas_types.specs.Ids.{same_number, same_name, same_class, is_somebody}
use Rattle.mas_types.specs.Names.{member_name, local_name}
use Rattle.mas_types.specs.Queue.{in_hardcopy, is_in, has_number, setting_of, prt_of}
use Rattle.mas_types.specs.Selection.{of_class, output_prio, has_forms_of, may_print, is_for_printer}
use Rattle.lay_bytes.specs.declared.records.JobRec.{JobRec}
use Rattle.lay_bytes.specs.declared.records.OutRec.{OutRec}
use Rattle.queue_slots.specs.declared.slots.Found.{Found}
use Rattle.queue_slots.specs.Listed.{listed, StandsFirst}
use Rattle.queue_slots.proofs.Founds.{keyed_told, no_keyed_told}
use Rattle.queue_slots.proofs.Alike.{find-alike}
use Rattle.job_queue.specs.Jobs as jobs
use Rattle.job_queue.specs.Jobs.{AreJobs}
use Rattle.output_queue.specs.Outputs.{job_rec, is_hardcopy, prio_of, may_take, order_of, unordered, rec_of, AreOutputs, HasOutput}

map_or-map : {A B R : Type 0} (u : A → B) (g : B → R) (o : Option A) (d : R) → option_map_or g (option_map u o) d ≡ option_map_or (λ a. g (u a)) o d
map_or-map u g None d = refl
map_or-map u g (Some a) d = refl

-- what is told of the job with a number
job_told : {R : Type 0} (g : JobRec → R) (d : R) (slots : List (Option JobRec)) (js : List Job) (n : JobNo) → AreJobs slots js
    → option_map_or (λ r. g (jobs.unordered r)) (job_rec slots n) d ≡ option_map_or (λ j. g (jobs.rec_of j)) (find (has_number n) js) d
job_told g d slots js n are =
    sym (map_or-map jobs.unordered g (job_rec slots n) d)
    ∙ ap (λ o. option_map_or g o d) (find-alike jobs.unordered jobs.rec_of (λ r. same_number r.number n) (listed jobs.order_of slots) js are)
    ∙ map_or-map jobs.rec_of g (find (has_number n) js) d

regrouped : (a b c d e : Bool) → (a && b && (d && e) && c) ≡ (a && b && c && d && e)
regrouped true true true true true = refl
regrouped true true true true false = refl
regrouped true true true false e = refl
regrouped true true false true true = refl
regrouped true true false true false = refl
regrouped true true false false e = refl
regrouped true false c d e = refl
regrouped false b c d e = refl

module _ (slots : List (Option JobRec)) (m : MemberId) (s : Setting) (Q : Queue) (are : AreJobs slots Q.jobs) (set : setting_of Q m ≡ Some s) where
  pub same_prio : (λ (o : Output). prio_of slots o.job) ≡ output_prio Q
  same_prio = fun_ext (λ o. job_told (λ r. r.fields.prio.0) 0 slots Q.jobs o.job are)

  same_take : (o : Output) → may_take slots m s.forms (rec_of o) ≡ may_print Q m o
  same_take o =
      let forms : same_name o.forms s.forms ≡ has_forms_of Q m o = sym (ap (λ (f : Option Setting). option_map_or (λ z. same_name o.forms z.forms) f false) set) in
      let hard : is_hardcopy slots o.job ≡ option_map_or (is_in in_hardcopy) (find (has_number o.job) Q.jobs) false = job_told (λ r. in_hardcopy r.phase) false slots Q.jobs o.job are in
      regrouped (not o.held) (not (is_somebody o.busy)) (is_hardcopy slots o.job) (same_name o.forms s.forms) (same_name o.dest local_name || same_name o.dest (member_name m))
      ∙ ap (λ (h : Bool). not o.held && not (is_somebody o.busy) && h && same_name o.forms s.forms && (same_name o.dest local_name || same_name o.dest (member_name m))) hard
      ∙ ap (λ (f : Bool). not o.held && not (is_somebody o.busy) && option_map_or (is_in in_hardcopy) (find (has_number o.job) Q.jobs) false && f && (same_name o.dest local_name || same_name o.dest (member_name m))) forms

  pub same_takes : (λ (o : Output). may_take slots m s.forms (rec_of o)) ≡ may_print Q m
  same_takes = fun_ext same_take

  same_classes : s.prt ≡ prt_of Q m
  same_classes = sym (ap (λ (f : Option Setting). option_map_or (λ z. z.prt) f []) set)

  -- the test of the selected output
  pub same_test : is_greatest_of (λ (o : Output). prio_of slots o.job) (has_first_key_of of_class s.prt (λ (o : Output). may_take slots m s.forms (rec_of o)) Q.outputs) Q.outputs ≡ is_for_printer Q m
  same_test =
      ap (λ (n : Output → ℕ). is_greatest_of n (has_first_key_of of_class s.prt (λ (o : Output). may_take slots m s.forms (rec_of o)) Q.outputs) Q.outputs) same_prio
      ∙ ap (λ (t : Output → Bool). is_greatest_of (output_prio Q) (has_first_key_of of_class s.prt t Q.outputs) Q.outputs) same_takes
      ∙ ap (λ ks. is_greatest_of (output_prio Q) (has_first_key_of of_class ks (may_print Q m) Q.outputs) Q.outputs) same_classes

module _ (slots : List (Option OutRec)) (job_slots : List (Option JobRec)) (m : MemberId) (s : Setting) where
  abbrev pub goes_first : OutRec → Bool
  goes_first = is_greatest_of (λ (r : OutRec). prio_of job_slots r.job) (has_first_key_of (λ k (r : OutRec). same_class r.class k) s.prt (may_take job_slots m s.forms) (listed order_of slots)) (listed order_of slots)

  pub selected_some : (o : Option (Found OutRec)) → IfSome o (λ f. StandsFirst order_of goes_first slots f.at f.item)
      → IfSome o (λ f. (Q : Queue) → AreJobs job_slots Q.jobs → AreOutputs slots Q.outputs → setting_of Q m ≡ Some s → HasOutput (is_for_printer Q m) slots Q.outputs f.at f.item)
  selected_some None h = tt
  selected_some (Some f) h = λ Q are outs set.
      let told = keyed_told {B = Output} order_of unordered rec_of slots (Some f) (λ r. prio_of job_slots r.job) (may_take job_slots m s.forms) (λ k r. same_class r.class k) s.prt h Q.outputs outs in
      subst (λ (t : Output → Bool). HasOutput t slots Q.outputs f.at f.item) (same_test job_slots m s Q are set) told

  pub selected_none : (o : Option (Found OutRec)) → IfNone o (find goes_first (listed order_of slots) ≡ None)
      → IfNone o ((Q : Queue) → AreJobs job_slots Q.jobs → AreOutputs slots Q.outputs → setting_of Q m ≡ Some s → find (is_for_printer Q m) Q.outputs ≡ None)
  selected_none (Some f) h = tt
  selected_none None h = λ Q are outs set.
      let told = no_keyed_told {B = Output} order_of unordered rec_of slots None (λ r. prio_of job_slots r.job) (may_take job_slots m s.forms) (λ k r. same_class r.class k) s.prt h Q.outputs outs in
      subst (λ (t : Output → Bool). find t Q.outputs ≡ None) (same_test job_slots m s Q are set) told
