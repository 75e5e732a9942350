-- What holds of the sittings of a step that serves a line.
use Rattle.std.specs.Prelude.{◌≡◌, ◌≢◌, ℕ, ◌+◌, ◌≤◌, true, List, [], ◌∷◌, Some}
use Rattle.mas_types.specs.declared.commands.Command.TheVariants as command
use Rattle.mas_types.specs.declared.commands.Reply.TheVariants as reply
use Rattle.mas_types.specs.declared.ids.JobNo.{JobNo}
use Rattle.mas_types.specs.declared.jobs.Job.{Job}
use Rattle.mas_types.specs.declared.journals.Entry.{Entry}
use Rattle.mas_types.specs.declared.queues.Queue.{Queue}
use Rattle.mas_types.specs.Commands.Wire.{got_on, sent_on}
use Rattle.mas_types.specs.Queue.{job_at}
use Rattle.mas_types.specs.Run.{run}
use Rattle.nje_frames.specs.Grammar.{number_greatest}
use Rattle.nje_store.specs.Numbers.{HasLine}
use Rattle.step_turns.specs.Entries.{all_entries, entry_of, reply_to}
use Rattle.step_turns.specs.Laws.{OfSittings, on_line}
use Rattle.step_turns.specs.LineCounts.{got_before, gots_in, sent_before, sents_in}
use Rattle.step_turns.specs.Sittings.{sit}
use Rattle.step_turns.specs.States.{Acknowledge, Away, Exchange, Found, Fresh, Holder, Line, Offer, Service, Told}

-- A FRAME IS GIVEN ONLY AFTER ITS LOAD IS KEPT

-- what a frame says of the job with this number at a queue: it goes under the next number of the line, and names the
-- job's nodes
pub record IsOfferAt (Q : Queue) (l : ℕ) (n : JobNo) (o : Offer) : Type 0 where
  pub own : o.job ≡ n
  pub next : o.number ≡ sent_on Q l + 1
  pub within : o.number ≤ number_greatest
  pub job : Job
  pub there : job_at Q n ≡ Some job
  pub origin : o.origin ≡ job.fields.origin
  pub node : o.node ≡ job.fields.node

-- the sitting before gives a Load of the line, which answers the job
pub record IsLoaded (Q : Queue) (h : Holder) (l : ℕ) (es : List Entry) (o : Offer) : Type 0 where
  pub given : es ≡ entry_of Q h.by h.step (command.Load l) ∷ []
  pub answered : reply_to Q h.by (command.Load l) ≡ reply.Job o.job
  pub offer : IsOfferAt (run Q es) l o.job o

abbrev pub OffersAreLoaded : Type 0
OffersAreLoaded = (Q : Queue) (h : Holder) (l : ℕ) (found : Found) (o : Offer)
    → (sit Q h (Fresh (Line l)) found).next ≡ Away (Exchange l (Some o))
    → IsLoaded Q h l (all_entries (sit Q h (Fresh (Line l)) found).batches) o

-- AN ACKNOWLEDGEMENT IS GIVEN ONLY AFTER ITS GOT IS KEPT

-- the numbers up to the one that is acknowledged are got in the queue that the sitting before leaves
abbrev pub AcknowledgedAreGot : Type 0
AcknowledgedAreGot = OfSittings (λ Q h s found t. on_line s ≡ true → (k : ℕ) (v : Service) → HasLine Q v.line
    → t.next ≡ Away (Acknowledge (Some k) v) → k ≤ got_on (run Q (all_entries t.batches)) v.line)

-- THE JOBS THAT LEFT AND CAME are counted as the entries say
abbrev pub CountsGoOn : Type 0
CountsGoOn = OfSittings (λ Q h s found t. on_line s ≡ true → t.next ≢ Told
    → (sent_before t.next ≡ sent_before s + sents_in (all_entries t.batches))
    × (got_before t.next ≡ got_before s + gots_in (all_entries t.batches)))
