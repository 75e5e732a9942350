-- What a command leaves of a queue can be spelled where the queue can.
use Rattle.std.proofs.Common.{◌≡◌, ℕ, ◌*◌, ◌-◌, ◌+◌, ◌<◌, ◌≤◌, ◌^◌, ◌==◌, min, not, ◌&&◌, if◌then◌else◌, Bool, true, false, List, [], ◌∷◌, length, Option, Some, None, find, All, refl, arith}
use Rattle.std.proofs.lemmas.Nat.{mul-le}
use Rattle.std.proofs.lemmas.List.Elements.{All-nil, All-cons, All-head, All-tail, All-weaker, All-push, All-append, All-map, All-filter}
use Rattle.mas_types.specs.declared.ids.MemberId.{MemberId}
use Rattle.mas_types.specs.declared.ids.JobNo.{JobNo}
use Rattle.mas_types.specs.declared.ids.OutNo.{OutNo}
use Rattle.mas_types.specs.declared.ids.Class.{Class}
use Rattle.mas_types.specs.declared.ids.Prio.{Prio}
use Rattle.mas_types.specs.declared.jobs.Text.TheVariants.{Whole}
use Rattle.mas_types.specs.declared.jobs.Phase.{Phase}
use Rattle.mas_types.specs.declared.jobs.Phase.TheVariants as phase
use Rattle.mas_types.specs.declared.jobs.Job.{Job}
use Rattle.mas_types.specs.declared.jobs.JobFields.{JobFields}
use Rattle.mas_types.specs.declared.jobs.OutSpec.{OutSpec}
use Rattle.mas_types.specs.declared.jobs.Output.{Output}
use Rattle.mas_types.specs.declared.commands.Command.{Command}
use Rattle.mas_types.specs.declared.commands.Command.TheVariants as command
use Rattle.mas_types.specs.declared.commands.Refusal.TheVariants as refusal
use Rattle.mas_types.specs.declared.queues.LineCount.{LineCount}
use Rattle.mas_types.specs.declared.queues.Owner.{Owner}
use Rattle.mas_types.specs.declared.queues.Queue.{Queue}
use Rattle.mas_types.specs.Fit.{AreLines, IsClass, IsFit, IsJobFields, IsOutSpec}
use Rattle.mas_types.specs.Ids.{nobody, no_number, is_somebody, same_member}
use Rattle.mas_types.specs.Limits.{number_most}
use Rattle.mas_types.specs.Lists.{change_at, change_first, first_some}
use Rattle.mas_types.specs.Number.{next_number, after}
use Rattle.mas_types.specs.Owners.{freed, is_members, is_output_of, is_deck_of, is_held_by, deck_places, groups_needed}
use Rattle.mas_types.specs.Queue.{line_count, total, has_number, has_key, has_output, is_in, is_member, prints_at, number_of, first_in, job_at, change_job, change_wire, current_on, is_current_on, in_output, in_purge, in_hardcopy}
use Rattle.mas_types.specs.Reset.{reset, reset_job, reset_output, phase_reset}
use Rattle.mas_types.specs.Row.{none_such}
use Rattle.mas_types.specs.Selection.{is_for_convert, is_for_execute, is_for_printer, is_for_wire, for_wire}
use Rattle.mas_types.specs.Step.{row_of}
use Rattle.mas_types.specs.Commands.Input.{new_job, drop_row, entered, phase_entered}
use Rattle.mas_types.specs.Commands.Life.{made_busy, converted, gathered, ended, new_output, new_outputs, places_of_outputs, outputs_at_end, with_outputs}
use Rattle.mas_types.specs.Commands.Operator.{with_held, with_prio, with_class, cancelled, cancel_row, is_busy, is_held_of, released, without_outputs_of}
use Rattle.mas_types.specs.Commands.Printing.{picked_by, marked, outputs_over, output_removed, output_gone}
use Rattle.mas_types.specs.Commands.Wire.{either, again, gap, got_on}
use Rattle.lay_bytes.specs.Limits.{copies_most}
use Rattle.lay_bytes.specs.Slots.{IsJobRec, IsOutRec, IsNumber, IsOwner}
use Rattle.ckpt_tables.specs.Shape.{IsRoute, IsLineCount}
use Rattle.job_queue.specs.Jobs as jobs
use Rattle.queue_effect.specs.Outputs as outputs
use Rattle.queue_laws.proofs.Done.{none_first}
use Rattle.queue_laws.proofs.Finds.{test_cases, find-All}
use Rattle.queue_laws.proofs.Freed.{All-freed}
use Rattle.queue_laws.proofs.HandedOut.{All-handed}
use Rattle.queue_laws.proofs.NewNumber.{after_right, free_from_right}
use Rattle.queue_laws.proofs.Others.{third_none}
use Rattle.queue_laws.proofs.SoundEnter.{number_is}
use Rattle.queue_laws.proofs.Soundness.{All-change}
use Rattle.queue_laws.proofs.SoundOwners.{All-taken}
use Rattle.queue_laws.proofs.SoundRemove.{All-without_first}
use Rattle.queue_commands.specs.Given.{IsGiver, IsInRange}
use Rattle.queue_commands.proofs.BroughtLemmas.{deck_owners, output_owners, All-at_end, few_at_end, either_small, All-change_at}

-- a job, an output and a queue that can be spelled, except their orders and texts
abbrev pub IsStoredJob : Job → Type 0
IsStoredJob j = IsJobRec (jobs.rec_of j)

abbrev pub IsStoredOutput : Output → Type 0
IsStoredOutput o = IsOutRec (outputs.rec_of o)

pub record IsStored (Q : Queue) : Type 0 where
  pub jobs : All IsStoredJob Q.jobs
  pub outputs : All IsStoredOutput Q.outputs
  pub owners : All IsOwner Q.owners
  pub routes : All IsRoute Q.routes
  pub lines : All IsLineCount Q.lines

-- JOBS

abbrev job_after : Job → Bool → Class → Prio → Phase → Bool → MemberId → Job
job_after j held class prio now cancelled busy =
    record j { fields = record j.fields { held = held; class = class; prio = prio }; phase = now; cancelled = cancelled; busy = busy }

job_changed : (j : Job) (held : Bool) (class : Class) (prio : Prio) (now : Phase) (cancelled : Bool) (busy : MemberId) → IsStoredJob j → IsClass class → prio.0 ≤ 15 → busy.0 ≤ 8
    → IsStoredJob (job_after j held class prio now cancelled busy)
job_changed j held class prio now cancelled busy s is small few = record {
  class = is;
  prio = small;
  busy = few;
  msgclass = s.msgclass;
  cards = s.cards;
  number = s.number;
  order = s.order;
  name = s.name;
  dest = s.dest;
  node = s.node;
  origin = s.origin;
}

phased : (j : Job) (now : Phase) (cancelled : Bool) (busy : MemberId) → IsStoredJob j → busy.0 ≤ 8 → IsStoredJob (job_after j j.fields.held j.fields.class j.fields.prio now cancelled busy)
phased j now cancelled busy s few = job_changed j j.fields.held j.fields.class j.fields.prio now cancelled busy s s.class s.prio few

held_stored : (held : Bool) (j : Job) → IsStoredJob j → IsStoredJob (with_held held j)
held_stored held j s = job_changed j held j.fields.class j.fields.prio j.phase j.cancelled j.busy s s.class s.prio s.busy

prio_stored : (prio : Prio) → prio.0 ≤ 15 → (j : Job) → IsStoredJob j → IsStoredJob (with_prio prio j)
prio_stored prio small j s = job_changed j j.fields.held j.fields.class prio j.phase j.cancelled j.busy s s.class small s.busy

class_stored : (class : Class) → IsClass class → (j : Job) → IsStoredJob j → IsStoredJob (with_class class j)
class_stored class is j s = job_changed j j.fields.held class j.fields.prio j.phase j.cancelled j.busy s is s.prio s.busy

cancelled_stored : (j : Job) → IsStoredJob j → IsStoredJob (cancelled j)
cancelled_stored j s = test_cases (is_somebody j.busy) (IsStoredJob (cancelled j))
    (λ e. rw e (phased j j.phase true j.busy s s.busy))
    (λ e. rw e (phased j phase.Purge j.cancelled j.busy s s.busy))

over_stored : (Q : Queue) (j : Job) → IsStoredJob j → IsStoredJob (outputs_over Q j)
over_stored Q j s = test_cases (in_hardcopy j.phase && not (has_output j.number Q)) (IsStoredJob (outputs_over Q j))
    (λ e. rw e (phased j phase.Purge j.cancelled j.busy s s.busy))
    (λ e. rw e s)

reset_stored : (picks : MemberId → Bool) (j : Job) → IsStoredJob j → IsStoredJob (if picks j.busy then reset_job j else j)
reset_stored picks j s = test_cases (picks j.busy) (IsStoredJob (if picks j.busy then reset_job j else j))
    (λ e. rw e (phased j (if j.cancelled then phase.Purge else phase_reset j.fields.restart j.phase) j.cancelled nobody s (omega arith)))
    (λ e. rw e s)

new_stored : (js : List Job) (last : JobNo) (m : MemberId) (fields : JobFields) → m.0 ≤ 8 → IsJobFields fields → IsStoredJob (new_job m (next_number js last) fields)
new_stored js last m fields few fit =
    let first = after_right last.0 in record {
      class = fit.class;
      prio = fit.prio;
      busy = few;
      msgclass = fit.msgclass;
      cards = omega arith;
      number = free_from_right js (after last.0) (length js) first.0 first.1;
      order = omega arith;
      name = fit.name;
      dest = fit.dest;
      node = fit.node;
      origin = fit.origin;
    }

-- OUTPUTS

abbrev output_after : Output → Class → Bool → MemberId → ℕ → Output
output_after o class held busy mark = record o { class = class; held = held; busy = busy; mark = mark }

total_small : (o : Output) → IsOutRec (outputs.rec_of o) → total o < 2 ^ 32
total_small o is =
    let most : line_count o.text * o.copies ≤ 9999 * 255 = mul-le (line_count o.text) o.copies 9999 255 is.lines.1 is.copies.1 in
    omega (arith, most)

output_changed : (o : Output) (class : Class) (held : Bool) (busy : MemberId) (mark : ℕ) → IsStoredOutput o → IsClass class → busy.0 ≤ 8 → mark < 2 ^ 32 → IsStoredOutput (output_after o class held busy mark)
output_changed o class held busy mark s is few small = record {
  class = is;
  busy = few;
  job = s.job;
  index = s.index;
  copies = s.copies;
  lines = s.lines;
  mark = small;
  order = s.order;
  dest = s.dest;
  forms = s.forms;
}

picked_stored : (m : MemberId) → m.0 ≤ 8 → (o : Output) → IsStoredOutput o → IsStoredOutput (picked_by m o)
picked_stored m few o s = output_changed o o.class o.held m o.mark s s.class few s.mark

class_set : (class : Class) → IsClass class → (o : Output) → IsStoredOutput o → IsStoredOutput (record o { class = class })
class_set class is o s = output_changed o class o.held o.busy o.mark s is s.busy s.mark

marked_stored : (mark : Output → ℕ) (o : Output) → mark o < 2 ^ 32 → IsStoredOutput o → IsStoredOutput (marked mark o)
marked_stored mark o small s = output_changed o o.class o.held o.busy (mark o) s s.class s.busy small

up_to_total : (at : ℕ) (o : Output) → IsStoredOutput o → min at (total o) < 2 ^ 32
up_to_total at o s = omega (arith, total_small o s)

released_stored : (test : Output → Bool) (o : Output) → IsStoredOutput o → IsStoredOutput (if test o then released o else o)
released_stored test o s = test_cases (test o) (IsStoredOutput (if test o then released o else o))
    (λ e. rw e (output_changed o o.class false o.busy o.mark s s.class s.busy s.mark))
    (λ e. rw e s)

unbusy_stored : (picks : MemberId → Bool) (o : Output) → IsStoredOutput o → IsStoredOutput (if picks o.busy then reset_output o else o)
unbusy_stored picks o s = test_cases (picks o.busy) (IsStoredOutput (if picks o.busy then reset_output o else o))
    (λ e. rw e (output_changed o o.class o.held nobody o.mark s s.class (omega arith) s.mark))
    (λ e. rw e s)

-- QUEUES

freed_stored : (test : Owner → Bool) (gs : List Owner) → All IsOwner gs → All IsOwner (freed test gs)
freed_stored test gs all = All-freed test IsOwner IsOwner tt (λ g other is. is) gs all

abbrev J : Job → Type 0
J = IsStoredJob

abbrev O : Output → Type 0
O = IsStoredOutput

jobs_changed : (test : Job → Bool) (f : Job → Job) → ((j : Job) → J j → J (f j)) → (Q : Queue) → IsStored Q → IsStored (record Q { jobs = change_first test f Q.jobs })
jobs_changed test f keeps Q s = record {
  jobs = All-change test f J Q.jobs s.jobs (λ j found is. keeps j is);
  outputs = s.outputs;
  owners = s.owners;
  routes = s.routes;
  lines = s.lines;
}

outputs_changed : (test : Output → Bool) (f : Output → Output) → ((o : Output) → O o → O (f o)) → (Q : Queue) → IsStored Q → IsStored (record Q { outputs = change_first test f Q.outputs })
outputs_changed test f keeps Q s = record {
  jobs = s.jobs;
  outputs = All-change test f O Q.outputs s.outputs (λ o found is. keeps o is);
  owners = s.owners;
  routes = s.routes;
  lines = s.lines;
}

gone_stored : (n : JobNo) (i : OutNo) (Q : Queue) → IsStored Q → IsStored (output_gone n i Q)
gone_stored n i Q s =
    let R : Queue = output_removed n i Q in
    jobs_changed (has_number n) (outputs_over R) (over_stored R) R (record {
      jobs = s.jobs;
      outputs = All-without_first (has_key n i) O Q.outputs s.outputs;
      owners = freed_stored (is_output_of n i) Q.owners s.owners;
      routes = s.routes;
      lines = s.lines;
    })

lost_stored : (n : JobNo) (Q : Queue) → IsStored Q → IsStored (without_outputs_of n Q)
lost_stored n Q s = record {
  jobs = s.jobs;
  outputs = All-filter _ O Q.outputs s.outputs;
  owners = freed_stored _ Q.owners s.owners;
  routes = s.routes;
  lines = s.lines;
}

reset_all : (picks : MemberId → Bool) (Q : Queue) → IsStored Q → IsStored (reset picks Q)
reset_all picks Q s = record {
  jobs = All-map J (λ j. if picks j.busy then reset_job j else j) Q.jobs (All-weaker J (λ j. J (if picks j.busy then reset_job j else j)) (reset_stored picks) Q.jobs s.jobs);
  outputs = All-map O (λ o. if picks o.busy then reset_output o else o) Q.outputs (All-weaker O (λ o. O (if picks o.busy then reset_output o else o)) (unbusy_stored picks) Q.outputs s.outputs);
  owners = freed_stored (is_held_by picks) Q.owners s.owners;
  routes = s.routes;
  lines = s.lines;
}

drop_stored : (Q : Queue) (m : MemberId) (n : JobNo) → IsStored Q → IsStored (drop_row Q m n).effect
drop_stored Q m n s = test_cases (n.0 == 0) (IsStored (drop_row Q m n).effect)
    (λ e. rw e (record { jobs = s.jobs; outputs = s.outputs; owners = freed_stored (is_members m) Q.owners s.owners; routes = s.routes; lines = s.lines }))
    (λ e. rw e (record { jobs = All-without_first (has_number n) J Q.jobs s.jobs; outputs = s.outputs; owners = freed_stored (is_members m) Q.owners s.owners; routes = s.routes; lines = s.lines }))

cancel_stored : (Q : Queue) (m : MemberId) (n : JobNo) → IsStored Q → IsStored (cancel_row Q m n).effect
cancel_stored Q m n s = test_cases (is_busy (job_at Q n)) (IsStored (cancel_row Q m n).effect)
    (λ e. rw e (jobs_changed (has_number n) cancelled cancelled_stored Q s))
    (λ e. rw e (jobs_changed (has_number n) cancelled cancelled_stored (without_outputs_of n Q) (lost_stored n Q s)))

-- a job that is there has a number that can be spelled
number_there : (Q : Queue) (n : JobNo) → IsStored Q → none_such refusal.NoJob (job_at Q n) ≡ None → IsNumber n
number_there Q n s none = go (job_at Q n) refl none
  where
    go : (o : Option Job) → job_at Q n ≡ o → none_such refusal.NoJob o ≡ None → IsNumber n
    go None found none = absurd (cc)
    go (Some j) found none =
        let is : IsNumber j.number = (find-All J (has_number n) Q.jobs j s.jobs found).0.number in
        let same : j.number.0 ≡ n.0 = number_is Q n j found in
        (omega (arith, is.0, same), omega (arith, is.1, same))

entered_stored : (Q : Queue) (m : MemberId) (n : JobNo) (text : List (List ℕ)) → AreLines text → IsNumber n → IsStored Q → IsStored (entered m n text Q)
entered_stored Q m n text lines number s = record {
  jobs = All-change (has_number n) (λ j. record j { text = Whole text; busy = nobody; phase = phase_entered Q.config.node j }) J Q.jobs s.jobs (λ j found old. with_text j found old);
  outputs = s.outputs;
  owners = All-handed m IsOwner IsOwner tt (λ g other h. h) (deck_places n (groups_needed text)) Q.owners (deck_owners n text number lines.few) s.owners;
  routes = s.routes;
  lines = s.lines;
}
  where
    with_text : (j : Job) → job_at Q n ≡ Some j → J j → J (record j { text = Whole text; busy = nobody; phase = phase_entered Q.config.node j })
    with_text j found old = record {
      class = old.class;
      prio = old.prio;
      busy = omega arith;
      msgclass = old.msgclass;
      cards = lines.few;
      number = old.number;
      order = old.order;
      name = old.name;
      dest = old.dest;
      node = old.node;
      origin = old.origin;
    }

-- the outputs of a job that ends
outputs_stored : (n : JobNo) (i : ℕ) (specs : List OutSpec) → IsNumber n → 1 ≤ i → i + length specs ≤ 33 → All IsOutSpec specs → All (λ s. s.copies ≤ copies_most) specs → All O (new_outputs n i specs)
outputs_stored n i [] number some few fit copies = All-nil O
outputs_stored n i (s ∷ specs) number some few fit copies =
    let one = All-head IsOutSpec s specs fit in
    All-cons O (new_output n i s) (new_outputs n (i + 1) specs)
    (record {
      class = one.class;
      busy = omega arith;
      job = number;
      index = (some, omega (arith, few));
      copies = (one.copies, All-head (λ s. s.copies ≤ copies_most) s specs copies);
      lines = (one.lines, one.text.few);
      mark = omega arith;
      order = omega arith;
      dest = one.dest;
      forms = one.forms;
    })
    (outputs_stored n (i + 1) specs number (omega arith) (omega (arith, few)) (All-tail IsOutSpec s specs fit) (All-tail (λ s. s.copies ≤ copies_most) s specs copies))

ended_stored : (Q : Queue) (m : MemberId) (n : JobNo) (specs : List OutSpec) → IsNumber n → length specs ≤ 32 → All IsOutSpec specs → All (λ s. s.copies ≤ copies_most) specs → IsStored Q
    → IsStored (with_outputs m n specs (change_job n ended Q))
ended_stored Q m n specs number few fit copies s = record {
  jobs = All-change (has_number n) ended J Q.jobs s.jobs (λ j found is. phased j (if j.cancelled then phase.Purge else phase.Output) j.cancelled nobody is (omega arith));
  outputs = All-append O Q.outputs (new_outputs n 1 specs) s.outputs (outputs_stored n 1 specs number (omega arith) (omega (arith, few)) fit copies);
  owners = All-handed m IsOwner IsOwner tt (λ g other h. h) (places_of_outputs n 1 specs) Q.owners (output_owners n 1 specs number (omega arith) (omega (arith, few)) fit) s.owners;
  routes = s.routes;
  lines = s.lines;
}

-- the number of a job that is found
found_small : (Q : Queue) → IsStored Q → (test : Job → Bool) → (number_of (find test Q.jobs)).0 ≤ number_most
found_small Q s test = go (find test Q.jobs) refl
  where
    go : (o : Option Job) → find test Q.jobs ≡ o → (number_of o).0 ≤ number_most
    go None found = omega arith
    go (Some j) found = (find-All J test Q.jobs j s.jobs found).0.number.1

wires_changed : (l : ℕ) (f : LineCount → LineCount) → ((c : LineCount) → IsLineCount c → IsLineCount (f c)) → (Q : Queue) → IsStored Q → IsStored (change_wire l f Q)
wires_changed l f keeps Q s = record { jobs = s.jobs; outputs = s.outputs; owners = s.owners; routes = s.routes; lines = lines } where
  lines : All IsLineCount (if l == 0 then Q.lines else change_at (l - 1) f Q.lines)
  lines = test_cases (l == 0) (All IsLineCount (if l == 0 then Q.lines else change_at (l - 1) f Q.lines)) (λ e. rw e s.lines) (λ e. rw e (All-change_at f IsLineCount keeps (l - 1) Q.lines s.lines))

-- what a command leaves
pub effect_stored : (Q : Queue) (m : MemberId) → m.0 ≤ 8 → (c : Command) → IsGiver m c → IsInRange c → IsFit c → first_some (row_of Q m c).refusals ≡ None → IsStored Q
    → IsStored (row_of Q m c).effect
effect_stored Q m few (command.Begin fields) giver range fit none s = record {
  jobs = All-push J Q.jobs (new_job m (next_number Q.jobs Q.last) fields) s.jobs (new_stored Q.jobs Q.last m fields few fit);
  outputs = s.outputs;
  owners = s.owners;
  routes = s.routes;
  lines = s.lines;
}
effect_stored Q m few (command.Take want) giver range fit none s = record {
  jobs = s.jobs;
  outputs = s.outputs;
  owners = All-taken IsOwner m giver want Q.owners s.owners;
  routes = s.routes;
  lines = s.lines;
}
effect_stored Q m few (command.Drop job) giver range fit none s = drop_stored Q m job s
effect_stored Q m few (command.Enter job text) giver range fit none s = entered_stored Q m job text fit (number_there Q job s (none_first (none_such refusal.NoJob (job_at Q job)) _ none).0) s
effect_stored Q m few command.TakeConvert giver range fit none s = jobs_changed (is_for_convert Q) (made_busy m) (λ j is. phased j j.phase j.cancelled m is few) Q s
effect_stored Q m few (command.Converted job) giver range fit none s =
    jobs_changed (has_number job) converted (λ j is. phased j (if j.cancelled then phase.Purge else phase.Execute) j.cancelled nobody is (omega arith)) Q s
effect_stored Q m few command.TakeExec giver range fit none s = jobs_changed (is_for_execute Q m) (made_busy m) (λ j is. phased j j.phase j.cancelled m is few) Q s
effect_stored Q m few (command.Ended job specs) giver range fit none s =
    let found = job_at Q job in
    ended_stored Q m job (outputs_at_end found specs) (number_there Q job s (none_first (none_such refusal.NoJob found) _ none).0)
    (few_at_end found specs 32 fit.0) (All-at_end IsOutSpec found specs fit.1) (All-at_end (λ s. s.copies ≤ copies_most) found specs range) s
effect_stored Q m few command.Gather giver range fit none s =
    jobs_changed (is_in in_output) (gathered Q) (λ j is. phased j (if has_output j.number Q then phase.Hardcopy else phase.Purge) j.cancelled j.busy is is.busy) Q s
effect_stored Q m few command.Pick giver range fit none s = outputs_changed (is_for_printer Q m) (picked_by m) (picked_stored m few) Q s
effect_stored Q m few (command.Mark job index at) giver range fit none s =
    outputs_changed (has_key job index) (marked (λ o. min at (total o))) (λ o is. marked_stored (λ p. min at (total p)) o (up_to_total at o is) is) Q s
effect_stored Q m few (command.Done job index) giver range fit none s = gone_stored job index Q s
effect_stored Q m few command.Purge giver range fit none s = record {
  jobs = All-without_first (is_in in_purge) J Q.jobs s.jobs;
  outputs = s.outputs;
  owners = freed_stored (is_deck_of (number_of (first_in in_purge Q))) Q.owners s.owners;
  routes = s.routes;
  lines = s.lines;
}
effect_stored Q m few (command.Hold job) giver range fit none s = jobs_changed (has_number job) (with_held true) (held_stored true) Q s
effect_stored Q m few (command.Release job) giver range fit none s = jobs_changed (has_number job) (with_held false) (held_stored false) Q s
effect_stored Q m few (command.Cancel job) giver range fit none s = cancel_stored Q m job s
effect_stored Q m few (command.SetPrio job prio) giver range fit none s = jobs_changed (has_number job) (with_prio prio) (prio_stored prio fit) Q s
effect_stored Q m few (command.SetClass job class) giver range fit none s = jobs_changed (has_number job) (with_class class) (class_stored class fit) Q s
effect_stored Q m few (command.Out job) giver range fit none s = record {
  jobs = s.jobs;
  outputs = All-map O (λ o. if is_held_of job o then released o else o) Q.outputs (All-weaker O (λ o. O (if is_held_of job o then released o else o)) (released_stored (is_held_of job)) Q.outputs s.outputs);
  owners = s.owners;
  routes = s.routes;
  lines = s.lines;
}
effect_stored Q m few (command.CancelOut job index) giver range fit none s = gone_stored job index Q s
effect_stored Q m few (command.SetOut job index class) giver range fit none s = outputs_changed (has_key job index) (λ o. record o { class = class }) (class_set class fit.1) Q s
effect_stored Q m few (command.Show what) giver range fit none s = s
effect_stored Q m few (command.SetInit classes) giver range fit none s = record { jobs = s.jobs; outputs = s.outputs; owners = s.owners; routes = s.routes; lines = s.lines }
effect_stored Q m few (command.SetPrt classes forms lines) giver range fit none s = record { jobs = s.jobs; outputs = s.outputs; owners = s.owners; routes = s.routes; lines = s.lines }
effect_stored Q m few (command.Back lines) giver range fit none s =
    outputs_changed (prints_at m) (marked (λ o. o.mark - lines)) (λ o is. marked_stored (λ p. p.mark - lines) o (omega (arith, is.mark)) is) Q s
effect_stored Q m few (command.Forward lines) giver range fit none s =
    outputs_changed (prints_at m) (marked (λ o. min (o.mark + lines) (total o))) (λ o is. marked_stored (λ p. min (p.mark + lines) (total p)) o (up_to_total (o.mark + lines) o is) is) Q s
effect_stored Q m few (command.Reset of_member) giver range fit none s = reset_all (λ h. same_member h of_member) Q s
effect_stored Q m few command.Restart giver range fit none s = reset_all (is_member Q.config) Q s
effect_stored Q m few (command.Load line) giver range fit none s =
    let found = either (current_on Q line) (for_wire Q line) in
    let small = either_small (current_on Q line) (for_wire Q line) (found_small Q s (is_current_on Q line)) (found_small Q s (is_for_wire Q line)) in
    wires_changed line (λ count. record count { current = number_of found }) (λ c is. record { sent = is.sent; got = is.got; current = small }) Q s
effect_stored Q m few (command.Sent line number) giver range fit none s =
    let over : Queue = record Q { jobs = change_first (is_current_on Q line) (λ j. record j { phase = phase.Purge }) Q.jobs } in
    wires_changed line (λ count. record count { sent = number; current = no_number }) (λ c is. record { sent = range; got = is.got; current = omega arith }) over
    (jobs_changed (is_current_on Q line) (λ j. record j { phase = phase.Purge }) (λ j is. phased j phase.Purge j.cancelled j.busy is is.busy) Q s)
effect_stored Q m few (command.Got line number job text) giver range fit none s =
    let there = third_none (again (got_on Q line) number) (gap (got_on Q line) number) (none_such refusal.NoJob (job_at Q job)) _ none in
    wires_changed line (λ count. record count { got = number }) (λ c is. record { sent = is.sent; got = range; current = is.current }) (entered m job text Q)
    (entered_stored Q m job text fit.1 (number_there Q job s there) s)
