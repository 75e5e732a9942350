-- What rows come to.
use Rattle.std.proofs.Common.{◌≡◌, ◌≤◌, ℕ, Bool, List, Option, Some, None, slice_get, slice_set, refl, ◌++◌, ◌∷◌, []}
use Rattle.std.specs.List.{find}
use Rattle.mas_types.specs.declared.ids.JobNo.{JobNo}
use Rattle.mas_types.specs.declared.jobs.Job.{Job}
use Rattle.mas_types.specs.declared.queues.Queue.{Queue}
use Rattle.mas_types.specs.declared.commands.Refusal.{Refusal}
use Rattle.mas_types.specs.declared.commands.Refusal.TheVariants as refusal
use Rattle.mas_types.specs.declared.commands.Reply.{Reply}
use Rattle.mas_types.specs.declared.commands.Reply.TheVariants as reply
use Rattle.mas_types.specs.Lists.{first_some}
use Rattle.mas_types.specs.Row.{Row, ComesTo}
use Rattle.mas_types.specs.Commands.Life.{first_job_row}
use Rattle.mas_types.specs.declared.jobs.Output.{Output}
use Rattle.mas_types.specs.declared.jobs.Text.{Text}
use Rattle.mas_types.specs.declared.jobs.Text.TheVariants.{Whole, Gone}
use Rattle.mas_types.specs.Fit.{IsText}
use Rattle.mas_types.specs.Limits.{text_lines_most}
use Rattle.mas_types.specs.Queue.{line_count}
use Rattle.mas_types.specs.Sound.{IsSound, IsSoundOutput}
use Rattle.queue_laws.proofs.Finds.{find-All}
use Rattle.model_queue.specs.Places.{StandsAt}

-- a row that is refused
pub refused : (Q : Queue) (row : Row) (why : Refusal) → Some why ≡ first_some row.refusals → ComesTo Q row Q (reply.No why)
refused Q row why h = rw (← h) refl

-- a row that has its effect
pub comes : (Q : Queue) (row : Row) (new : Queue) (answer : Reply) → None ≡ first_some row.refusals → row.effect ≡ new → row.answer ≡ answer → ComesTo Q row new answer
comes Q row new answer h effect same = rw (← h, effect, same) refl

-- the first of two lists of choices
pub first_some-append : {A : Type 0} (xs ys : List (Option A)) → first_some xs ≡ None → first_some (xs ++ ys) ≡ first_some ys
first_some-append [] ys h = refl
first_some-append (None ∷ xs) ys h = first_some-append xs ys h
first_some-append (Some x ∷ xs) ys h = absurd (cc)

pub first_some-front : {A : Type 0} (xs ys : List (Option A)) (x : A) → first_some xs ≡ Some x → first_some (xs ++ ys) ≡ Some x
first_some-front [] ys x h = absurd (cc)
first_some-front (None ∷ xs) ys x h = first_some-front xs ys x h
first_some-front (Some y ∷ xs) ys x h = h

-- the job that is found is changed, and the reply names it
pub first_job_changed : (Q : Queue) (test : Job → Bool) (f : Job → Job) (at : ℕ) (new : List Job) (number : JobNo) → StandsAt test Q.jobs at
    → ((j : Job) → slice_get Q.jobs at ≡ Some j → (number ≡ j.number) × (new ≡ slice_set Q.jobs at (f j)))
    → ComesTo Q (first_job_row Q test f) (record Q { jobs = new }) (reply.Job number)
first_job_changed Q test f at new number place changed =
    let so = changed place.item place.here in
    rw (place.found, place.changed f, so.0, so.1) refl

-- no job is found
pub no_first_job : (Q : Queue) (test : Job → Bool) (f : Job → Job) → find test Q.jobs ≡ None → ComesTo Q (first_job_row Q test f) Q (reply.No refusal.Nothing)
no_first_job Q test f none = rw none refl

lines_of : (t : Text) → IsText t → line_count t ≤ text_lines_most
lines_of (Whole lines) h = h.few
lines_of (Gone group count) h = h

-- the text of an output of a sound queue has few lines
pub few_lines : (Q : Queue) → IsSound Q → (test : Output → Bool) (o : Output) → find test Q.outputs ≡ Some o → line_count o.text ≤ text_lines_most
few_lines Q sound test o found = lines_of o.text (find-All (IsSoundOutput Q.config Q.jobs) test Q.outputs o sound.outputs found).0.text
