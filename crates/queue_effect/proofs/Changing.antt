-- What commands come to on the queue, step by step.
use Rattle.std.proofs.Common.{◌≡◌, ℕ, ◌==◌, Bool, true, false, ◌&&◌, ◌||◌, List, [], ◌∷◌, length, map, Option, Some, None, set, refl, sym, ap, ◌∙◌, subst}
use Rattle.std.specs.Prelude.{not, find, filter, is_some, if◌then◌else◌, IfSome, IfNone}
use Rattle.std.specs.List.{list_any}
use Rattle.std.proofs.Math.Path.{fun_ext}
use Rattle.mas_types.specs.declared.ids.MemberId.{MemberId}
use Rattle.mas_types.specs.declared.ids.JobNo.{JobNo}
use Rattle.mas_types.specs.declared.ids.OutNo.{OutNo}
use Rattle.mas_types.specs.declared.ids.Name8.{Name8}
use Rattle.mas_types.specs.declared.jobs.Phase.TheVariants as phase
use Rattle.mas_types.specs.declared.jobs.Job.{Job}
use Rattle.mas_types.specs.declared.jobs.Output.{Output}
use Rattle.mas_types.specs.declared.queues.Queue.{Queue}
use Rattle.mas_types.specs.declared.queues.LineCount.{LineCount}
use Rattle.mas_types.specs.declared.commands.Refusal.TheVariants as refusal
use Rattle.std.specs.Option.{option_map_or}
use Rattle.mas_types.specs.declared.queues.Route.{Route}
use Rattle.mas_types.specs.Lists.{first_some, change, change_first, is_greatest_of}
use Rattle.mas_types.specs.Ids.{nobody, no_number, same_member, same_number, same_name, is_somebody}
use Rattle.mas_types.specs.Queue.{has_number, has_key, is_of, in_purge, change_wire, in_hardcopy, in_xmit, has_output, wire_at, is_current_on}
use Rattle.mas_types.specs.Reset.{reset, reset_job, reset_output}
use Rattle.mas_types.specs.Commands.Input.{entered}
use Rattle.mas_types.specs.Commands.Printing.{outputs_over, with_job_over, output_removed}
use Rattle.mas_types.specs.Owners.{groups_needed, handed_out, freed, is_held_by, is_of_any}
use Rattle.mas_types.specs.Commands.Operator.{without_outputs_of, is_held_of, released, cancel_row, is_past_cancel}
use Rattle.mas_types.specs.Selection.{job_prio, may_send, is_for_wire}
use Rattle.track_groups.specs.Groups.{first_places, is_things}
use Rattle.mas_types.specs.declared.queues.Thing.TheVariants as thing
use Rattle.lay_bytes.specs.declared.records.JobRec.{JobRec}
use Rattle.lay_bytes.specs.declared.records.OutRec.{OutRec}
use Rattle.ckpt_tables.specs.declared.tables.Tables.{Tables}
use Rattle.queue_slots.specs.declared.slots.Found.{Found}
use Rattle.queue_slots.specs.Listed.{listed, StandsFirst}
use Rattle.queue_slots.proofs.Cases.{test_cases}
use Rattle.queue_slots.proofs.Founds.{first_told, none_told, best_told, no_best_told}
use Rattle.job_queue.specs.Jobs.{AreJobs, HasJob, unordered, rec_of, order_of}
use Rattle.output_queue.specs.Outputs.{AreOutputs, HasOutput}
use Rattle.output_queue.specs.Outputs as outputs
use Rattle.queue_resets.specs.Resets.{is_one_of, job_reset, output_reset}
use Rattle.queue_resets.specs.declared.resets.Who.{Who}
use Rattle.queue_effect.specs.Slots.{emptied_where, count_changed}
use Rattle.queue_resets.specs.Resets.{changed_where}
use Rattle.queue_telling.specs.Telling.{Tell}
use Rattle.queue_effect.proofs.SlotLemmas.{emptied_told, changed_told}

-- the record of a job with its text
abbrev pub entered_rec : Name8 → JobRec → ℕ → JobRec
entered_rec node r lines = record r {
  phase = if r.cancelled then phase.Purge else (if same_name r.fields.node node then phase.Convert else phase.Xmit);
  busy = nobody;
  cards = lines;
}

-- a job gets its text
pub job_entered : (t : Tables) (Q : Queue) (m : MemberId) (n : JobNo) (text : List (List ℕ)) (at : ℕ) (x : JobRec) → Tell t Q → HasJob (has_number n) t.jobs Q.jobs at x
    → Tell (record t { jobs = set t.jobs at (Some (entered_rec t.config.node x (length text))); owners = handed_out m (first_places (thing.Deck n) (groups_needed text)) t.owners }) (entered m n text Q)
job_entered t Q m n text at x stands has =
    let node : Q.config.node ≡ t.config.node = ap (λ c. c.node) stands.config in
    let told : unordered (entered_rec t.config.node x (length text)) ≡ entered_rec Q.config.node (rec_of has.item) (length text) =
    ap (λ (r : JobRec). entered_rec t.config.node r (length text)) (sym has.is) ∙ ap (λ (w : Name8). entered_rec w (rec_of has.item) (length text)) (sym node) in
    record {
      config = stands.config;
      jobs = has.changed (entered_rec t.config.node x (length text)) _ refl told;
      outputs = stands.outputs;
      owners = ap (handed_out m (first_places (thing.Deck n) (groups_needed text))) stands.owners;
      members = stands.members;
      routes = stands.routes;
      lines = stands.lines;
      last = stands.last;
    }

-- where a test finds no item of a list none is changed
pub change_none : {A : Type 0} (test : A → Bool) (f : A → A) (xs : List A) → find test xs ≡ None → change_first test f xs ≡ xs
change_none test f [] none = refl
change_none test f (x ∷ xs) none =
    test_cases (test x) (change_first test f (x ∷ xs) ≡ x ∷ xs)
    (λ e. absurd (let w = rw e at none in cc))
    (λ e. rw e (ap (λ ys. x ∷ ys) (change_none test f xs (rw e at none))))

rec_over : (b : Bool) (j : Job) → rec_of (if b then record j { phase = phase.Purge } else j) ≡ record (rec_of j) { phase = if b then phase.Purge else j.phase }
rec_over true j = refl
rec_over false j = refl

-- the record of a job that goes to Purge where its outputs are over
abbrev pub over_rec : Queue → JobRec → JobRec
over_rec Q r = record r { phase = if in_hardcopy r.phase && not (has_output r.number Q) then phase.Purge else r.phase }

pub job_over : (t : Tables) (Q : Queue) (n : JobNo) (at : ℕ) (x : JobRec) → Tell t Q → HasJob (has_number n) t.jobs Q.jobs at x
    → Tell (record t { jobs = set t.jobs at (Some (over_rec Q x)) }) (with_job_over n Q)
job_over t Q n at x stands has =
    let told : unordered (over_rec Q x) ≡ rec_of (outputs_over Q has.item) =
    ap (over_rec Q) (sym has.is) ∙ sym (rec_over (in_hardcopy has.item.phase && not (has_output has.item.number Q)) has.item) in
    record {
      config = stands.config;
      jobs = has.changed (over_rec Q x) (outputs_over Q) refl told;
      outputs = stands.outputs;
      owners = stands.owners;
      members = stands.members;
      routes = stands.routes;
      lines = stands.lines;
      last = stands.last;
    }

pub no_job_over : (t : Tables) (Q : Queue) (n : JobNo) → Tell t Q → find (has_number n) Q.jobs ≡ None → Tell t (with_job_over n Q)
no_job_over t Q n stands none = record {
  config = stands.config;
  jobs = rw (change_none (has_number n) (outputs_over Q) Q.jobs none) stands.jobs;
  outputs = stands.outputs;
  owners = stands.owners;
  members = stands.members;
  routes = stands.routes;
  lines = stands.lines;
  last = stands.last;
}

-- RESETS

pub jobs_reset : (who : Who) (slots : List (Option JobRec)) (js : List Job) → AreJobs slots js
    → AreJobs (map (changed_where (λ (r : JobRec). is_one_of who r.busy) job_reset) slots) (change (λ j. is_one_of who j.busy) reset_job js)
jobs_reset who slots js are =
    changed_told order_of unordered rec_of (λ (r : JobRec). is_one_of who r.busy) job_reset reset_job (λ a. refl) (λ a b same. ap job_reset same) slots js are

pub outputs_reset : (who : Who) (slots : List (Option OutRec)) (os : List Output) → AreOutputs slots os
    → AreOutputs (map (changed_where (λ (r : OutRec). is_one_of who r.busy) output_reset) slots) (change (λ o. is_one_of who o.busy) reset_output os)
outputs_reset who slots os are =
    changed_told outputs.order_of outputs.unordered outputs.rec_of (λ (r : OutRec). is_one_of who r.busy) output_reset reset_output (λ a. refl) (λ a b same. ap output_reset same) slots os are

pub members_reset : (t : Tables) (Q : Queue) (who : Who) → Tell t Q
    → Tell (record t { jobs = map (changed_where (λ (r : JobRec). is_one_of who r.busy) job_reset) t.jobs; outputs = map (changed_where (λ (r : OutRec). is_one_of who r.busy) output_reset) t.outputs; owners = freed (is_held_by (is_one_of who)) t.owners }) (reset (is_one_of who) Q)
members_reset t Q who stands = record {
  config = stands.config;
  jobs = jobs_reset who t.jobs Q.jobs stands.jobs;
  outputs = outputs_reset who t.outputs Q.outputs stands.outputs;
  owners = ap (freed (is_held_by (is_one_of who))) stands.owners;
  members = stands.members;
  routes = stands.routes;
  lines = stands.lines;
  last = stands.last;
}

-- OUTPUTS OF A JOB

pub outputs_dropped : (t : Tables) (Q : Queue) (n : JobNo) → Tell t Q
    → Tell (record t { outputs = map (emptied_where (λ (r : OutRec). same_number r.job n)) t.outputs; owners = freed (is_of_any (filter (is_of n) Q.outputs)) t.owners }) (without_outputs_of n Q)
outputs_dropped t Q n stands = record {
  config = stands.config;
  jobs = stands.jobs;
  outputs = emptied_told outputs.order_of outputs.unordered outputs.rec_of (λ (r : OutRec). same_number r.job n) t.outputs Q.outputs stands.outputs;
  owners = ap (freed (is_of_any (filter (is_of n) Q.outputs))) stands.owners;
  members = stands.members;
  routes = stands.routes;
  lines = stands.lines;
  last = stands.last;
}

pub outputs_released : (t : Tables) (Q : Queue) (n : JobNo) → Tell t Q
    → Tell (record t { outputs = map (changed_where (λ (r : OutRec). same_number r.job n && r.held) (λ (r : OutRec). record r { held = false })) t.outputs }) (record Q { outputs = change (is_held_of n) released Q.outputs })
outputs_released t Q n stands = record {
  config = stands.config;
  jobs = stands.jobs;
  outputs = changed_told outputs.order_of outputs.unordered outputs.rec_of (λ (r : OutRec). same_number r.job n && r.held) (λ (r : OutRec). record r { held = false }) released (λ a. refl) (λ a b same. ap (λ (r : OutRec). record r { held = false }) same) t.outputs Q.outputs stands.outputs;
  owners = stands.owners;
  members = stands.members;
  routes = stands.routes;
  lines = stands.lines;
  last = stands.last;
}

-- REFUSALS

module _ {A : Type 0} (a b c : Option A) (rest : List (Option A)) where
  pub three_none : first_some (a ∷ b ∷ c ∷ []) ≡ None → first_some (a ∷ b ∷ c ∷ rest) ≡ first_some rest
  three_none = go a b c
    where
      go : (x y z : Option A) → first_some (x ∷ y ∷ z ∷ []) ≡ None → first_some (x ∷ y ∷ z ∷ rest) ≡ first_some rest
      go None None None h = refl
      go None None (Some w) h = absurd (cc)
      go None (Some w) z h = absurd (cc)
      go (Some w) y z h = absurd (cc)

  pub three_some : (why : A) → first_some (a ∷ b ∷ c ∷ []) ≡ Some why → first_some (a ∷ b ∷ c ∷ rest) ≡ Some why
  three_some why = go a b c
    where
      go : (x y z : Option A) → first_some (x ∷ y ∷ z ∷ []) ≡ Some why → first_some (x ∷ y ∷ z ∷ rest) ≡ Some why
      go None None None h = absurd (cc)
      go None None (Some w) h = h
      go None (Some w) z h = h
      go (Some w) y z h = h

module _ {A : Type 0} (a b : Option A) (rest : List (Option A)) where
  pub two_none : first_some (a ∷ b ∷ []) ≡ None → first_some (a ∷ b ∷ rest) ≡ first_some rest
  two_none = go a b
    where
      go : (x y : Option A) → first_some (x ∷ y ∷ []) ≡ None → first_some (x ∷ y ∷ rest) ≡ first_some rest
      go None None h = refl
      go None (Some w) h = absurd (cc)
      go (Some w) y h = absurd (cc)

  pub two_some : (why : A) → first_some (a ∷ b ∷ []) ≡ Some why → first_some (a ∷ b ∷ rest) ≡ Some why
  two_some why = go a b
    where
      go : (x y : Option A) → first_some (x ∷ y ∷ []) ≡ Some why → first_some (x ∷ y ∷ rest) ≡ Some why
      go None None h = absurd (cc)
      go None (Some w) h = h
      go (Some w) y h = h

-- OUTPUTS THAT GO

pub output_taken : (t : Tables) (Q : Queue) (n : JobNo) (i : OutNo) (at : ℕ) (x : OutRec) → Tell t Q → HasOutput (has_key n i) t.outputs Q.outputs at x
    → Tell (record t { outputs = set t.outputs at None; owners = freed (is_things (thing.Output n i)) t.owners }) (output_removed n i Q)
output_taken t Q n i at x stands has = record {
  config = stands.config;
  jobs = stands.jobs;
  outputs = has.removed;
  owners = ap (freed (is_things (thing.Output n i))) stands.owners;
  members = stands.members;
  routes = stands.routes;
  lines = stands.lines;
  last = stands.last;
}

-- LINES

pub line_changed : (t : Tables) (Q : Queue) (l : ℕ) (f : LineCount → LineCount) → Tell t Q → Tell (record t { lines = count_changed l f t.lines }) (change_wire l f Q)
line_changed t Q l f stands = record {
  config = stands.config;
  jobs = stands.jobs;
  outputs = stands.outputs;
  owners = stands.owners;
  members = stands.members;
  routes = stands.routes;
  lines = ap (count_changed l f) stands.lines;
  last = stands.last;
}

and_true : (a : Bool) → (a && true) ≡ a
and_true true = refl
and_true false = refl

and_false : (a : Bool) → (a && false) ≡ false
and_false true = refl
and_false false = refl

-- the test of the current job, by what is known of the line
abbrev on_line : Option LineCount → Job → Bool
on_line w j = in_xmit j.phase && is_some w && has_number (option_map_or (λ count. count.current) w no_number) j

abbrev sending : JobNo → JobRec → Bool
sending n r = in_xmit r.phase && same_number r.number n

current_test : (Q : Queue) (l : ℕ) (count : LineCount) → wire_at Q l ≡ Some count → (λ (j : Job). sending count.current (rec_of j)) ≡ is_current_on Q l
current_test Q l count wired =
    fun_ext (λ (j : Job). ap (λ (b : Bool). b && same_number j.number count.current) (sym (and_true (in_xmit j.phase))))
    ∙ ap on_line (sym wired)

find_never : {A : Type 0} (test : A → Bool) (xs : List A) → ((x : A) → test x ≡ false) → find test xs ≡ None
find_never test [] never = refl
find_never test (x ∷ xs) never = rw (never x) (find_never test xs never)

module _ (t : Tables) (l : ℕ) where
  pub current_some : (count : LineCount) (o : Option (Found JobRec)) → ((Q : Queue) → Tell t Q → wire_at Q l ≡ Some count)
      → IfSome o (λ f. StandsFirst order_of (sending count.current) t.jobs f.at f.item)
      → IfSome o (λ f. (Q : Queue) → Tell t Q → HasJob (is_current_on Q l) t.jobs Q.jobs f.at f.item)
  current_some count None wired h = tt
  current_some count (Some f) wired h = λ Q stands.
      let told = first_told {B = Job} order_of unordered rec_of t.jobs (Some f) (sending count.current) h Q.jobs stands.jobs in
      subst (λ (p : Job → Bool). HasJob p t.jobs Q.jobs f.at f.item) (current_test Q l count (wired Q stands)) told

  pub current_none : (count : LineCount) (o : Option (Found JobRec)) → ((Q : Queue) → Tell t Q → wire_at Q l ≡ Some count)
      → IfNone o (find (sending count.current) (listed order_of t.jobs) ≡ None)
      → IfNone o ((Q : Queue) → Tell t Q → find (is_current_on Q l) Q.jobs ≡ None)
  current_none count (Some f) wired h = tt
  current_none count None wired h = λ Q stands.
      let told = none_told {B = Job} order_of unordered rec_of t.jobs None (sending count.current) h Q.jobs stands.jobs in
      subst (λ (p : Job → Bool). find p Q.jobs ≡ None) (current_test Q l count (wired Q stands)) told

  pub no_line : (Q : Queue) → wire_at Q l ≡ None → find (is_current_on Q l) Q.jobs ≡ None
  no_line Q none =
      subst (λ (p : Job → Bool). find p Q.jobs ≡ None) (ap on_line (sym none))
      (find_never (on_line None) Q.jobs (λ j. ap (λ (b : Bool). b && same_number j.number no_number) (and_false (in_xmit j.phase))))

module _ (slots : List (Option JobRec)) (counts : List LineCount) (routes : List Route) (l : ℕ) where
  -- the test of the job that is selected for the line
  abbrev send_test : List LineCount → List Route → JobRec → Bool
  send_test cs rs r =
      in_xmit r.phase && not r.fields.held && not (in_xmit r.phase && list_any (λ count. same_number count.current r.number) cs)
      && list_any (λ route. same_name r.fields.node route.name && (route.line == l)) rs

  send_same : (Q : Queue) → Q.lines ≡ counts → Q.routes ≡ routes → (λ (j : Job). send_test counts routes (rec_of j)) ≡ may_send Q l
  send_same Q same_lines same_routes =
      ap (λ (cs : List LineCount). λ (j : Job). send_test cs routes (rec_of j)) (sym same_lines)
      ∙ ap (λ (rs : List Route). λ (j : Job). send_test Q.lines rs (rec_of j)) (sym same_routes)

  abbrev sent_first : JobRec → Bool
  sent_first = is_greatest_of (λ (r : JobRec). r.fields.prio.0) (send_test counts routes) (listed order_of slots)

  pub selected_some : (o : Option (Found JobRec)) → IfSome o (λ f. StandsFirst order_of sent_first slots f.at f.item)
      → IfSome o (λ f. (Q : Queue) → AreJobs slots Q.jobs → Q.lines ≡ counts → Q.routes ≡ routes → HasJob (is_for_wire Q l) slots Q.jobs f.at f.item)
  selected_some None h = tt
  selected_some (Some f) h = λ Q are same_lines same_routes.
      let told = best_told {B = Job} order_of unordered rec_of slots (Some f) (λ (r : JobRec). r.fields.prio.0) (send_test counts routes) h Q.jobs are in
      subst (λ (p : Job → Bool). HasJob (is_greatest_of job_prio p Q.jobs) slots Q.jobs f.at f.item) (send_same Q same_lines same_routes) told

  pub selected_none : (o : Option (Found JobRec)) → IfNone o (find sent_first (listed order_of slots) ≡ None)
      → IfNone o ((Q : Queue) → AreJobs slots Q.jobs → Q.lines ≡ counts → Q.routes ≡ routes → find (is_for_wire Q l) Q.jobs ≡ None)
  selected_none (Some f) h = tt
  selected_none None h = λ Q are same_lines same_routes.
      let told = no_best_told {B = Job} order_of unordered rec_of slots None (λ (r : JobRec). r.fields.prio.0) (send_test counts routes) h Q.jobs are in
      subst (λ (p : Job → Bool). find (is_greatest_of job_prio p Q.jobs) Q.jobs ≡ None) (send_same Q same_lines same_routes) told

-- WHAT IS FOUND AMONG OUTPUTS

pub found_outputs : (t : Tables) (test : Output → Bool) (o : Option (Found OutRec)) → IfSome o (λ f. (os : List Output) → AreOutputs t.outputs os → HasOutput test t.outputs os f.at f.item)
    → IfSome o (λ f. (Q : Queue) → Tell t Q → HasOutput test t.outputs Q.outputs f.at f.item)
found_outputs t test None h = tt
found_outputs t test (Some f) h = λ Q stands. h Q.outputs stands.outputs

pub found_passes : {A : Type 0} (test : A → Bool) (xs : List A) (x : A) → find test xs ≡ Some x → test x ≡ true
found_passes test [] x found = absurd (cc)
found_passes test (y ∷ ys) x found =
    test_cases (test y) (test x ≡ true)
    (λ e. let same : y ≡ x = (let w = rw e at found in cc) in rw (← same) e)
    (λ e. found_passes test ys x (rw e at found))

last_two : (a b c : Bool) → (a && b && c) ≡ true → (b && c) ≡ true
last_two true true true h = refl
last_two true true false h = absurd (cc)
last_two true false c h = absurd (cc)
last_two false b c h = absurd (cc)

-- an output that is busy elsewhere
abbrev pub is_elsewhere_of : MemberId → JobNo → Output → Bool
is_elsewhere_of m n o = is_of n o && is_somebody o.busy && not (same_member o.busy m)

-- Cancel is refused for an output that is busy elsewhere
pub cancel_elsewhere : (t : Tables) (Q : Queue) (m : MemberId) (n : JobNo) (at other : ℕ) (x : JobRec) (y : OutRec) → Tell t Q → HasJob (has_number n) t.jobs Q.jobs at x
    → HasOutput (is_elsewhere_of m n) t.outputs Q.outputs other y
    → (in_purge x.phase || (in_xmit x.phase && list_any (λ count. same_number count.current x.number) t.lines)) ≡ false
    → first_some (cancel_row Q m n).refusals ≡ Some (refusal.InUse y.busy)
cancel_elsewhere t Q m n at other x y stands has prints h =
    let past : is_past_cancel Q has.item ≡ false =
    ap (λ (r : JobRec). in_purge r.phase || (in_xmit r.phase && list_any (λ count. same_number count.current r.number) Q.lines)) has.is
    ∙ ap (λ (ls : List LineCount). in_purge x.phase || (in_xmit x.phase && list_any (λ count. same_number count.current x.number) ls)) stands.lines
    ∙ h in
    let passes : is_elsewhere_of m n prints.item ≡ true = found_passes (is_elsewhere_of m n) Q.outputs prints.item prints.found in
    let some : (is_somebody prints.item.busy && not (same_member prints.item.busy m)) ≡ true = last_two (is_of n prints.item) (is_somebody prints.item.busy) (not (same_member prints.item.busy m)) passes in
    let who : prints.item.busy ≡ y.busy = ap (λ (r : OutRec). r.busy) prints.is in
    rw (has.found, past, prints.found, some, who) refl
