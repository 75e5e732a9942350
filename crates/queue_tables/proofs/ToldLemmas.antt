-- Tables tell the queue that they give, and a queue that they tell is known except its texts.
use Rattle.std.proofs.Common.{◌≡◌, ℕ, List, [], ◌∷◌, map, refl, ap, sym, ◌∙◌, subst}
use Rattle.std.specs.List.{All}
use Rattle.std.proofs.lemmas.List.Elements.{All-nil, All-cons, All-head, All-tail, All-weaker}
use Rattle.mas_types.specs.declared.ids.Page.{Page}
use Rattle.mas_types.specs.declared.jobs.Text.{Text}
use Rattle.mas_types.specs.declared.jobs.Text.TheVariants.{Whole, Gone}
use Rattle.mas_types.specs.declared.jobs.Job.{Job}
use Rattle.mas_types.specs.declared.jobs.Output.{Output}
use Rattle.mas_types.specs.declared.queues.Config.{Config}
use Rattle.mas_types.specs.declared.queues.Queue.{Queue}
use Rattle.mas_types.specs.declared.queues.Route.{Route}
use Rattle.mas_types.specs.Starts.{empty_queue}
use Rattle.mas_types.specs.Fit.{IsText}
use Rattle.mas_types.specs.Queue.{line_count}
use Rattle.lay_bytes.specs.declared.records.JobRec.{JobRec}
use Rattle.lay_bytes.specs.declared.records.OutRec.{OutRec}
use Rattle.ckpt_tables.specs.declared.tables.Tables.{Tables}
use Rattle.ckpt_pages.specs.Checkpoints.{IsCheckpoint, SpellsOneAtMost}
use Rattle.lay_bytes.specs.Used.{used}
use Rattle.ckpt_pages.specs.QueueOf.{job_with, output_with, queue_of}
use Rattle.lay_bytes.specs.Slots.{IsJobRec, IsOutRec}
use Rattle.ckpt_pages.specs.Laws.{EmptyStandsForEmpty}
use Rattle.ckpt_tables.specs.Shape.{HasSpelling}
use Rattle.ckpt_pages.specs.Starts.{empty_tables}
use Rattle.ckpt_pages.specs.Sound.{AreSound}
use Rattle.ckpt_pages.specs.SoundQueues.{AreTexts, SoundStandForSound}
use Rattle.ckpt_pages.proofs.SlotLists.{all_used}
use Rattle.ckpt_pages.specs.StandsFor.{StandsFor, StandsForOneAtMost}
use Rattle.queue_slots.specs.Listed.{listed}
use Rattle.queue_slots.proofs.Rising.{All-in_order}
use Rattle.job_queue.specs.Jobs as jobs
use Rattle.output_queue.specs.Outputs as outputs
use Rattle.queue_tables.specs.Laws.{HaveLines, AreTextsOf}
use Rattle.queue_telling.specs.Telling.{Tell, TellSound, PagesTell, AreToldAlike}

-- THE QUEUE THAT TABLES GIVE

told_jobs : (deck : JobRec → Text) (xs : List JobRec) → All (λ j. line_count (deck j) ≡ j.cards) xs → map jobs.unordered xs ≡ map jobs.rec_of (map (job_with deck) xs)
told_jobs deck [] all = refl
told_jobs deck (x ∷ xs) all =
    let P = λ (j : JobRec). line_count (deck j) ≡ j.cards in
    let first : jobs.unordered x ≡ jobs.rec_of (job_with deck x) = ap (λ (c : ℕ). record (jobs.unordered x) { cards = c }) (sym (All-head P x xs all)) in
    let rest = told_jobs deck xs (All-tail P x xs all) in
    cc

told_outputs : (print : OutRec → Text) (xs : List OutRec) → All (λ o. line_count (print o) ≡ o.lines) xs → map outputs.unordered xs ≡ map outputs.rec_of (map (output_with print) xs)
told_outputs print [] all = refl
told_outputs print (x ∷ xs) all =
    let P = λ (o : OutRec). line_count (print o) ≡ o.lines in
    let first : outputs.unordered x ≡ outputs.rec_of (output_with print x) = ap (λ (c : ℕ). record (outputs.unordered x) { lines = c }) (sym (All-head P x xs all)) in
    let rest = told_outputs print xs (All-tail P x xs all) in
    cc

pub tell_given : (t : Tables) (deck : JobRec → Text) (print : OutRec → Text) → HaveLines t deck print → Tell t (queue_of t deck print)
tell_given t deck print lines = record {
  config = refl;
  jobs = told_jobs deck (listed jobs.order_of t.jobs) (All-in_order jobs.order_of (λ j. line_count (deck j) ≡ j.cards) (used t.jobs) lines.decks);
  outputs = told_outputs print (listed outputs.order_of t.outputs) (All-in_order outputs.order_of (λ o. line_count (print o) ≡ o.lines) (used t.outputs) lines.prints);
  owners = refl;
  members = refl;
  routes = refl;
  lines = refl;
  last = refl;
}

-- a job of its record and its text
abbrev job_made : JobRec → Text → Job
job_made r text = record { number = r.number; fields = r.fields; phase = r.phase; cancelled = r.cancelled; busy = r.busy; text = text }

abbrev output_made : OutRec → Text → Output
output_made r text = record { job = r.job; index = r.index; class = r.class; dest = r.dest; forms = r.forms; copies = r.copies; held = r.held; busy = r.busy; mark = r.mark; text = text }

same_jobs : (deck : JobRec → Text) (xs : List JobRec) (js : List Job) → map jobs.unordered xs ≡ map jobs.rec_of js → map deck xs ≡ map (λ j. j.text) js → map (job_with deck) xs ≡ js
same_jobs deck [] [] told texts = refl
same_jobs deck [] (j ∷ js) told texts = absurd (cc)
same_jobs deck (x ∷ xs) [] told texts = absurd (cc)
same_jobs deck (x ∷ xs) (j ∷ js) told texts =
    let here : jobs.unordered x ≡ jobs.rec_of j = cc in
    let text : deck x ≡ j.text = cc in
    let more : map jobs.unordered xs ≡ map jobs.rec_of js = cc in
    let last : map deck xs ≡ map (λ k. k.text) js = cc in
    let first : job_with deck x ≡ j = ap (λ (r : JobRec). job_made r (deck x)) here ∙ ap (λ (w : Text). job_made (jobs.rec_of j) w) text in
    let rest : map (job_with deck) xs ≡ js = same_jobs deck xs js more last in
    cc

same_outputs : (print : OutRec → Text) (xs : List OutRec) (os : List Output) → map outputs.unordered xs ≡ map outputs.rec_of os → map print xs ≡ map (λ o. o.text) os → map (output_with print) xs ≡ os
same_outputs print [] [] told texts = refl
same_outputs print [] (o ∷ os) told texts = absurd (cc)
same_outputs print (x ∷ xs) [] told texts = absurd (cc)
same_outputs print (x ∷ xs) (o ∷ os) told texts =
    let here : outputs.unordered x ≡ outputs.rec_of o = cc in
    let text : print x ≡ o.text = cc in
    let more : map outputs.unordered xs ≡ map outputs.rec_of os = cc in
    let last : map print xs ≡ map (λ k. k.text) os = cc in
    let first : output_with print x ≡ o = ap (λ (r : OutRec). output_made r (print x)) here ∙ ap (λ (w : Text). output_made (outputs.rec_of o) w) text in
    let rest : map (output_with print) xs ≡ os = same_outputs print xs os more last in
    cc

pub give : (t : Tables) (Q : Queue) (deck : JobRec → Text) (print : OutRec → Text) → Tell t Q → AreTextsOf t Q deck print → queue_of t deck print ≡ Q
give t Q deck print tells texts =
    let same_job : map (job_with deck) (listed jobs.order_of t.jobs) ≡ Q.jobs = same_jobs deck (listed jobs.order_of t.jobs) Q.jobs tells.jobs texts.decks in
    let same_output : map (output_with print) (listed outputs.order_of t.outputs) ≡ Q.outputs = same_outputs print (listed outputs.order_of t.outputs) Q.outputs tells.outputs texts.prints in
    rw (← tells.config, same_job, same_output, ← tells.owners, ← tells.members, ← tells.routes, ← tells.lines, ← tells.last) refl

-- QUEUES THAT ARE TOLD ALIKE

pub tell_alike : (t : Tables) (Q R : Queue) → Tell t Q → Tell t R → AreToldAlike Q R
tell_alike t Q R one two u told = record {
  config = two.config ∙ sym one.config ∙ told.config;
  jobs = told.jobs ∙ sym one.jobs ∙ two.jobs;
  outputs = told.outputs ∙ sym one.outputs ∙ two.outputs;
  owners = two.owners ∙ sym one.owners ∙ told.owners;
  members = two.members ∙ sym one.members ∙ told.members;
  routes = two.routes ∙ sym one.routes ∙ told.routes;
  lines = two.lines ∙ sym one.lines ∙ told.lines;
  last = two.last ∙ sym one.last ∙ told.last;
}

module _ (pages : List Page) where
  checkpoint : (level : ℕ) (Q : Queue) (x : PagesTell pages level Q) → IsCheckpoint pages x.tables
  checkpoint level Q x = record { level = level; levels = x.levels; fit = x.fit; ages = x.ages; spell = x.spell }

  gives_queue : (deck : JobRec → Text) (print : OutRec → Text) (level : ℕ) (Q : Queue) (x : PagesTell pages level Q) → StandsFor pages level deck print (queue_of x.tables deck print)
  gives_queue deck print level Q x = record { tables = x.tables; levels = x.levels; fit = x.fit; ages = x.ages; spell = x.spell; is = refl }

  pub pages_alike : SpellsOneAtMost → StandsForOneAtMost → (level age : ℕ) (Q R : Queue) → PagesTell pages level Q → PagesTell pages age R → AreToldAlike Q R × (level ≡ age)
  pages_alike tables one level age Q R x y =
      let deck : JobRec → Text = λ r. Whole [] in
      let print : OutRec → Text = λ r. Whole [] in (
        tell_alike x.tables Q R x.tell (subst (λ (t : Tables). Tell t R) (tables pages y.tables x.tables (checkpoint age R y) (checkpoint level Q x)) y.tell),
        (one pages level age deck print (queue_of x.tables deck print) (queue_of y.tables deck print) (gives_queue deck print level Q x) (gives_queue deck print age R y)).1,
      )

-- SOUND TABLES

-- the queue of tables whose texts are all gone
abbrev gone_deck : JobRec → Text
gone_deck r = Gone (record { 0 = 0 }) r.cards

abbrev gone_print : OutRec → Text
gone_print r = Gone (record { 0 = 0 }) r.lines

pub gone_told : (t : Tables) → Tell t (queue_of t gone_deck gone_print)
gone_told t = tell_given t gone_deck gone_print (record { decks = decks (used t.jobs); prints = prints (used t.outputs) }) where
  decks : (rs : List JobRec) → All (λ r. line_count (gone_deck r) ≡ r.cards) rs
  decks [] = All-nil (λ r. line_count (gone_deck r) ≡ r.cards)
  decks (r ∷ rs) = All-cons (λ s. line_count (gone_deck s) ≡ s.cards) r rs refl (decks rs)

  prints : (rs : List OutRec) → All (λ r. line_count (gone_print r) ≡ r.lines) rs
  prints [] = All-nil (λ r. line_count (gone_print r) ≡ r.lines)
  prints (r ∷ rs) = All-cons (λ s. line_count (gone_print s) ≡ s.lines) r rs refl (prints rs)

pub empty_told : EmptyStandsForEmpty → (config : Config) (routes : List Route) → Tell (empty_tables config routes) (empty_queue config routes)
empty_told law config routes = subst (Tell (empty_tables config routes)) (law config routes gone_deck gone_print) (gone_told (empty_tables config routes))

gone_texts : (t : Tables) → HasSpelling t → AreTexts t gone_deck gone_print
gone_texts t spelled = record {
  decks = All-weaker IsJobRec (λ r. IsText (gone_deck r) × (line_count (gone_deck r) ≡ r.cards)) (λ r is. (is.cards, refl)) (used t.jobs) (all_used IsJobRec t.jobs spelled.jobs);
  prints = All-weaker IsOutRec (λ r. IsText (gone_print r) × (line_count (gone_print r) ≡ r.lines)) (λ r is. (is.lines.1, refl)) (used t.outputs) (all_used IsOutRec t.outputs spelled.outputs);
}

pub sound_told : SoundStandForSound → (t : Tables) → HasSpelling t → AreSound t → TellSound t
sound_told law t spelled sound = record { queue = queue_of t gone_deck gone_print; told = gone_told t; sound = law t gone_deck gone_print spelled sound (gone_texts t spelled) }
