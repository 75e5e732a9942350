-- What a command on tables leaves.
use Rattle.std.proofs.Common.{◌≡◌, ℕ, ◌<◌, ◌≤◌, ◌^◌, nat_le, true, slice_index_or, List, [], ◌∷◌, map, replicate, Option, Some, None, All, sym, ◌∙◌, subst, arith}
use Rattle.std.proofs.lemmas.List.{length-replicate}
use Rattle.std.proofs.lemmas.List.Elements.{All-nil, All-cons, All-head, All-tail, All-weaker, All-map}
use Rattle.mas_types.specs.declared.ids.MemberId.{MemberId}
use Rattle.mas_types.specs.declared.jobs.Text.{Text}
use Rattle.mas_types.specs.declared.jobs.Text.TheVariants.{Whole}
use Rattle.mas_types.specs.declared.commands.Command.{Command}
use Rattle.mas_types.specs.declared.commands.Command.TheVariants as command
use Rattle.mas_types.specs.declared.commands.Reply.{Reply}
use Rattle.mas_types.specs.declared.queues.Queue.{Queue}
use Rattle.mas_types.specs.Closings.{IsReplyNamed}
use Rattle.mas_types.specs.Fit.{IsFit}
use Rattle.mas_types.specs.Queue.{line_count}
use Rattle.mas_types.specs.Step.{may_give, row_of, step}
use Rattle.lay_bytes.specs.declared.records.JobRec.{JobRec}
use Rattle.lay_bytes.specs.declared.records.OutRec.{OutRec}
use Rattle.lay_bytes.specs.Slots.{IsJobRec, IsOutRec, IsOwner, IfUsed}
use Rattle.ckpt_tables.specs.declared.tables.Tables.{Tables}
use Rattle.lay_bytes.specs.Used.{used}
use Rattle.ckpt_pages.specs.QueueOf.{job_with, output_with, queue_of}
use Rattle.mas_types.specs.Sorted.{insert_by, in_order}
use Rattle.ckpt_tables.specs.Shape.{HasSpelling, IsRoute, IsLineCount}
use Rattle.queue_slots.specs.Listed.{listed}
use Rattle.queue_slots.proofs.Rising.{All-in_order}
use Rattle.job_queue.specs.Jobs as jobs
use Rattle.queue_effect.specs.Outputs as outputs
use Rattle.queue_tables.specs.Laws.{HaveLines, TellTheirQueue}
use Rattle.queue_effect.specs.Telling.{Tell, TellSound}
use Rattle.queue_effect.specs.Standing.{Leaves, Plays, AreFit, IsFitJob, IsFitOutput}
use Rattle.queue_laws.proofs.Configuration.{keeps_configuration}
use Rattle.queue_laws.proofs.Done.{done_keeps}
use Rattle.queue_laws.proofs.Finds.{test_cases}
use Rattle.queue_laws.proofs.SoundAll.{keeps_sound}
use Rattle.queue_commands.specs.Given.{IsGiver, IsInRange}
use Rattle.queue_commands.proofs.StoredLemmas.{IsStored, IsStoredJob, IsStoredOutput, effect_stored}
use Rattle.queue_commands.proofs.NamedLemmas.{step_named}

-- LISTS

module _ {X : Type 0} where
  all_used : (P : X → Type 0) (slots : List (Option X)) → All (IfUsed P) slots → All P (used slots)
  all_used P [] all = All-nil P
  all_used P (None ∷ slots) all = all_used P slots (All-tail (IfUsed P) None slots all)
  all_used P (Some x ∷ slots) all = All-cons P x (used slots) (All-head (IfUsed P) (Some x) slots all) (all_used P slots (All-tail (IfUsed P) (Some x) slots all))

  all_slots : (P : X → Type 0) (slots : List (Option X)) → All P (used slots) → All (IfUsed P) slots
  all_slots P [] all = All-nil (IfUsed P)
  all_slots P (None ∷ slots) all = All-cons (IfUsed P) None slots tt (all_slots P slots all)
  all_slots P (Some x ∷ slots) all = All-cons (IfUsed P) (Some x) slots (All-head P x (used slots) all) (all_slots P slots (All-tail P x (used slots) all))

  -- of items in order each holds where it holds of them all
  all_inserted : (number : X → ℕ) (P : X → Type 0) (x : X) (ys : List X) → All P (insert_by number x ys) → P x × All P ys
  all_inserted number P x [] all = (All-head P x [] all, All-nil P)
  all_inserted number P x (y ∷ ys) all = test_cases (nat_le (number x) (number y)) (P x × All P (y ∷ ys))
      (λ e. let front : All P (x ∷ y ∷ ys) = rw e at all in (All-head P x (y ∷ ys) front, All-tail P x (y ∷ ys) front))
      (λ e. let behind : All P (y ∷ insert_by number x ys) = rw e at all in
      let rest = all_inserted number P x ys (All-tail P y (insert_by number x ys) behind) in
      (rest.0, All-cons P y ys (All-head P y (insert_by number x ys) behind) rest.1))

  all_ordered : (number : X → ℕ) (P : X → Type 0) (xs : List X) → All P (in_order number xs) → All P xs
  all_ordered number P [] all = All-nil P
  all_ordered number P (x ∷ xs) all =
      let both = all_inserted number P x (in_order number xs) all in
      All-cons P x xs both.0 (all_ordered number P xs both.1)

  all_both : (P Q R : X → Type 0) (xs : List X) → ((x : X) → P x → Q x → R x) → All P xs → All Q xs → All R xs
  all_both P Q R [] f p q = All-nil R
  all_both P Q R (x ∷ xs) f p q = All-cons R x xs (f x (All-head P x xs p) (All-head Q x xs q)) (all_both P Q R xs f (All-tail P x xs p) (All-tail Q x xs q))

module _ {A B : Type 0} where
  all_unmap : (P : B → Type 0) (f : A → B) (xs : List A) → All P (map f xs) → All (λ x. P (f x)) xs
  all_unmap P f [] all = All-nil (λ x. P (f x))
  all_unmap P f (x ∷ xs) all = All-cons (λ x. P (f x)) x xs (All-head P (f x) (map f xs) all) (all_unmap P f xs (All-tail P (f x) (map f xs) all))

job_ordered : (r : JobRec) → IsJobRec (jobs.unordered r) → r.order < 2 ^ 64 → IsJobRec r
job_ordered r is lt = record { class = is.class; prio = is.prio; busy = is.busy; msgclass = is.msgclass; cards = is.cards; number = is.number; order = lt; name = is.name; dest = is.dest; node = is.node; origin = is.origin }

output_ordered : (r : OutRec) → IsOutRec (outputs.unordered r) → r.order < 2 ^ 64 → IsOutRec r
output_ordered r is lt = record { class = is.class; busy = is.busy; job = is.job; index = is.index; copies = is.copies; lines = is.lines; mark = is.mark; order = lt; dest = is.dest; forms = is.forms }

-- THE QUEUE OF TABLES, with texts of empty lines

abbrev blank_deck : JobRec → Text
blank_deck r = Whole (replicate r.cards [])

abbrev blank_print : OutRec → Text
blank_print r = Whole (replicate r.lines [])

abbrev blank_queue : Tables → Queue
blank_queue t = queue_of t blank_deck blank_print

as_many : (count : ℕ) → line_count (Whole (replicate count [])) ≡ count
as_many count = length-replicate {A = List ℕ} count []

have_lines : (t : Tables) → HaveLines t blank_deck blank_print
have_lines t = record { decks = λ k d lt. as_many (slice_index_or (used t.jobs) k d).cards; prints = λ k d lt. as_many (slice_index_or (used t.outputs) k d).lines }

job_stored : (r : JobRec) → IsJobRec r → IsStoredJob (job_with blank_deck r)
job_stored r is = record { class = is.class; prio = is.prio; busy = is.busy; msgclass = is.msgclass; cards = omega (arith, is.cards, as_many r.cards); number = is.number; order = omega arith; name = is.name; dest = is.dest; node = is.node; origin = is.origin }

output_stored : (r : OutRec) → IsOutRec r → IsStoredOutput (output_with blank_print r)
output_stored r is = let count = as_many r.lines in
    record { class = is.class; busy = is.busy; job = is.job; index = is.index; copies = is.copies; lines = (omega (arith, is.lines.0, count), omega (arith, is.lines.1, count)); mark = is.mark; order = omega arith; dest = is.dest; forms = is.forms }

queue_stored : (t : Tables) → HasSpelling t → IsStored (blank_queue t)
queue_stored t s = record {
  jobs = All-map IsStoredJob (job_with blank_deck) (listed jobs.order_of t.jobs)
      (All-weaker IsJobRec (λ r. IsStoredJob (job_with blank_deck r)) job_stored (listed jobs.order_of t.jobs) (All-in_order jobs.order_of IsJobRec (used t.jobs) (all_used IsJobRec t.jobs s.jobs)));
  outputs = All-map IsStoredOutput (output_with blank_print) (listed outputs.order_of t.outputs)
      (All-weaker IsOutRec (λ r. IsStoredOutput (output_with blank_print r)) output_stored (listed outputs.order_of t.outputs) (All-in_order outputs.order_of IsOutRec (used t.outputs) (all_used IsOutRec t.outputs s.outputs)));
  owners = s.owners;
  routes = s.routes;
  lines = s.lines;
}

-- tables that tell a stored queue have a spelling, where they are fit and their order is small
spelled : (t : Tables) (Q : Queue) → Tell t Q → IsStored Q → AreFit t → t.order < 2 ^ 63 → HasSpelling t
spelled t Q stands s fits small = record {
  shape = fits.shape;
  order = small;
  jobs = all_slots IsJobRec t.jobs (all_both (λ (j : JobRec). IsJobRec (jobs.unordered j)) (IsFitJob t.order) IsJobRec (used t.jobs) (λ j is fit. job_ordered j is (omega (arith, fit.below, small)))
      (all_ordered jobs.order_of (λ (j : JobRec). IsJobRec (jobs.unordered j)) (used t.jobs)
      (all_unmap IsJobRec jobs.unordered (listed jobs.order_of t.jobs) (subst (All IsJobRec) (sym stands.jobs) (All-map IsJobRec jobs.rec_of Q.jobs s.jobs))))
      fits.jobs);
  outputs = all_slots IsOutRec t.outputs (all_both (λ (o : OutRec). IsOutRec (outputs.unordered o)) (IsFitOutput t.order) IsOutRec (used t.outputs) (λ o is fit. output_ordered o is (omega (arith, fit.below, small)))
      (all_ordered outputs.order_of (λ (o : OutRec). IsOutRec (outputs.unordered o)) (used t.outputs)
      (all_unmap IsOutRec outputs.unordered (listed outputs.order_of t.outputs) (subst (All IsOutRec) (sym stands.outputs) (All-map IsOutRec outputs.rec_of Q.outputs s.outputs))))
      fits.outputs);
  owners = subst (All IsOwner) stands.owners s.owners;
  routes = subst (All IsRoute) stands.routes s.routes;
  lines = subst (All IsLineCount) stands.lines s.lines;
}

-- A COMMAND

pub giver_few : (m : MemberId) (c : Command) → IsGiver m c → m.0 ≤ 8
giver_few m command.Restart giver = omega (arith, giver)
giver_few m _ giver = giver.1

module _ (old new : Tables) (by : MemberId) (c : Command) (giver : IsGiver by c) (range : IsInRange c) (fit : IsFit c) (spelling : HasSpelling old)
    (stand : TellTheirQueue) (r : Reply) (plays : Plays old new (λ Q. row_of Q by c) r) where
  left : Leaves new (blank_queue old) (row_of (blank_queue old) by c) r
  left = plays (blank_queue old) (stand old blank_deck blank_print (have_lines old))

  left_stored : IsStored (step (blank_queue old) by c).0
  left_stored = let Q = blank_queue old in let s = queue_stored old spelling in
      done_keeps Q (row_of Q by c) IsStored s (λ none. effect_stored Q by (giver_few by c giver) c giver range fit none s)

  pub given_named : IsReplyNamed r
  given_named = subst IsReplyNamed left.reply (step_named (blank_queue old) (queue_stored old spelling) by (giver_few by c giver) c)

  pub given_spelling : AreFit new → new.order < 2 ^ 63 → HasSpelling new
  given_spelling fits small = spelled new (step (blank_queue old) by c).0 left.stands left_stored fits small

  pub given_config : new.config ≡ old.config
  given_config = sym left.stands.config ∙ (keeps_configuration (blank_queue old) by c).config

-- a command that its giver may give keeps the sound parts
pub given_sound : (old new : Tables) (by : MemberId) (c : Command) (r : Reply) → IsFit c → Plays old new (λ Q. row_of Q by c) r → (s : TellSound old) → may_give s.queue by c ≡ true → TellSound new
given_sound old new by c r fit plays s may = record { queue = (step s.queue by c).0; told = (plays s.queue s.told).stands; sound = keeps_sound s.queue by c s.sound fit may }
