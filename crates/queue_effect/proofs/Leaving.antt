-- How a row ends.
use Rattle.std.proofs.Common.{◌≡◌, ℕ, Bool, List, [], ◌∷◌, Option, Some, None, set, refl, sym, ap, ◌∙◌}
use Rattle.mas_types.specs.declared.jobs.Job.{Job}
use Rattle.mas_types.specs.declared.jobs.Output.{Output}
use Rattle.mas_types.specs.Lists.{change_first}
use Rattle.lay_bytes.specs.declared.records.JobRec.{JobRec}
use Rattle.lay_bytes.specs.declared.records.OutRec.{OutRec}
use Rattle.job_queue.specs.Jobs.{HasJob, unordered, rec_of}
use Rattle.output_queue.specs.Outputs.{HasOutput}
use Rattle.output_queue.specs.Outputs as outputs
use Rattle.mas_types.specs.declared.queues.Queue.{Queue}
use Rattle.mas_types.specs.declared.commands.Refusal.{Refusal}
use Rattle.mas_types.specs.declared.commands.Reply.{Reply}
use Rattle.mas_types.specs.declared.commands.Reply.TheVariants as reply
use Rattle.mas_types.specs.Lists.{first_some}
use Rattle.mas_types.specs.Row.{Row}
use Rattle.mas_types.specs.declared.ids.JobNo.{JobNo}
use Rattle.mas_types.specs.declared.ids.MemberId.{MemberId}
use Rattle.mas_types.specs.Queue.{printing_at}
use Rattle.mas_types.specs.Selection.{is_for_printer}
use Rattle.mas_types.specs.Commands.Input.{entered, not_entered}
use Rattle.mas_types.specs.Commands.Printing.{pick_row, picked_by}
use Rattle.mas_types.specs.Commands.Wire.{again, gap, got_on, got_row}
use Rattle.ckpt_tables.specs.declared.tables.Tables.{Tables}
use Rattle.queue_telling.specs.Telling.{Tell}
use Rattle.queue_effect.specs.Slots.{count_changed}
use Rattle.queue_effect.specs.Standing.{Leaves}

-- a refused row leaves all as it was
pub refused : (t : Tables) (Q : Queue) (row : Row) (why : Refusal) → Tell t Q → first_some row.refusals ≡ Some why → Leaves t Q row (reply.No why)
refused t Q row why stands is = record { stands = rw is stands; reply = rw is refl }

-- a row that isn't refused has its effect
pub done_row : (t : Tables) (Q : Queue) (row : Row) (r : Reply) → first_some row.refusals ≡ None → Tell t row.effect → row.answer ≡ r → Leaves t Q row r
done_row t Q row r is stands answer = record { stands = rw is stands; reply = rw (is, answer) refl }

-- a job of the tables is changed as that of the queue
pub job_changed : (t : Tables) (Q : Queue) (test : Job → Bool) (at : ℕ) (x y : JobRec) (f : Job → Job) (g : JobRec → JobRec) → Tell t Q → HasJob test t.jobs Q.jobs at x
    → ((j : Job) → rec_of j ≡ unordered x → rec_of (f j) ≡ g (rec_of j)) → y.order ≡ x.order → unordered y ≡ g (unordered x)
    → Tell (record t { jobs = set t.jobs at (Some y) }) (record Q { jobs = change_first test f Q.jobs })
job_changed t Q test at x y f g stands has moves same shows =
    let told : unordered y ≡ rec_of (f has.item) = shows ∙ ap g (sym has.is) ∙ sym (moves has.item has.is) in
    record { config = stands.config; jobs = has.changed y f same told; outputs = stands.outputs; owners = stands.owners; members = stands.members; routes = stands.routes; lines = stands.lines; last = stands.last }

-- an output of the tables is changed as that of the queue
pub output_changed : (t : Tables) (Q : Queue) (test : Output → Bool) (at : ℕ) (x y : OutRec) (f : Output → Output) (g : OutRec → OutRec) → Tell t Q → HasOutput test t.outputs Q.outputs at x
    → ((o : Output) → outputs.rec_of o ≡ outputs.unordered x → outputs.rec_of (f o) ≡ g (outputs.rec_of o)) → y.order ≡ x.order → outputs.unordered y ≡ g (outputs.unordered x)
    → Tell (record t { outputs = set t.outputs at (Some y) }) (record Q { outputs = change_first test f Q.outputs })
output_changed t Q test at x y f g stands has moves same shows =
    let told : outputs.unordered y ≡ outputs.rec_of (f has.item) = shows ∙ ap g (sym has.is) ∙ sym (moves has.item has.is) in
    record { config = stands.config; jobs = stands.jobs; outputs = has.changed y f same told; owners = stands.owners; members = stands.members; routes = stands.routes; lines = stands.lines; last = stands.last }

-- the output that is selected becomes busy at the member
pub picked : (t : Tables) (Q : Queue) (m : MemberId) (at : ℕ) (x : OutRec) → Tell t Q → printing_at Q m ≡ None → HasOutput (is_for_printer Q m) t.outputs Q.outputs at x
    → Leaves (record t { outputs = set t.outputs at (Some (record x { busy = m })) }) Q (pick_row Q m) (reply.Output x.job x.index)
picked t Q m at x stands none has =
    let job : has.item.job ≡ x.job = ap (λ (r : OutRec). r.job) has.is in
    let index : has.item.index ≡ x.index = ap (λ (r : OutRec). r.index) has.is in
    done_row (record t { outputs = set t.outputs at (Some (record x { busy = m })) }) Q (pick_row Q m) (reply.Output x.job x.index)
    (rw (none, has.found) refl)
    (output_changed t Q (is_for_printer Q m) at x (record x { busy = m }) (picked_by m) (λ r. record r { busy = m }) stands has (λ o is. refl) refl refl)
    (rw (has.found, job, index) refl)

-- the refusals of a number, and then others
none_refused : (a b : Option Refusal) (rest : List (Option Refusal)) → first_some (a ∷ b ∷ []) ≡ None → first_some rest ≡ None → first_some (a ∷ b ∷ rest) ≡ None
none_refused None None rest none later = later
none_refused None (Some why) rest none later = absurd (cc)
none_refused (Some why) b rest none later = absurd (cc)

-- a job is entered that came over a line, and its number is got
pub got_over : (t : Tables) (Q : Queue) (m : MemberId) (l number : ℕ) (n : JobNo) (text : List (List ℕ)) → first_some (again (got_on Q l) number ∷ gap (got_on Q l) number ∷ []) ≡ None → first_some (not_entered Q m n text) ≡ None
    → Tell t (entered m n text Q) → Leaves (record t { lines = count_changed l (λ count. record count { got = number }) t.lines }) Q (got_row Q m l number n text) (reply.Job n)
got_over t Q m l number n text next allowed stands =
    done_row (record t { lines = count_changed l (λ count. record count { got = number }) t.lines }) Q (got_row Q m l number n text) (reply.Job n)
    (none_refused (again (got_on Q l) number) (gap (got_on Q l) number) (not_entered Q m n text) next allowed)
    (record { config = stands.config; jobs = stands.jobs; outputs = stands.outputs; owners = stands.owners; members = stands.members; routes = stands.routes; lines = ap (count_changed l (λ count. record count { got = number })) stands.lines; last = stands.last })
    refl
