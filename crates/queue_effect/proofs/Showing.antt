-- Displays say no more of a queue than tables tell.
use Rattle.std.proofs.Common.{◌≡◌, ℕ, ◌≤◌, List, [], ◌∷◌, length, map, Option, Some, None, refl, ap, sym, ◌∙◌, subst, arith}
use Rattle.std.specs.List.{All}
use Rattle.std.proofs.lemmas.List.Elements.{All-cons, All-head, All-tail, All-nil}
use Rattle.std.specs.Prelude.{filter, option_map}
use Rattle.std.specs.Option.{option_map_or}
use Rattle.mas_types.specs.declared.ids.JobNo.{JobNo}
use Rattle.mas_types.specs.declared.jobs.Job.{Job}
use Rattle.mas_types.specs.declared.jobs.Output.{Output}
use Rattle.mas_types.specs.declared.queues.Config.{Config}
use Rattle.mas_types.specs.declared.queues.Owner.{Owner}
use Rattle.mas_types.specs.declared.queues.Queue.{Queue}
use Rattle.mas_types.specs.declared.queues.Setting.{Setting}
use Rattle.mas_types.specs.declared.commands.Refusal.TheVariants as refusal
use Rattle.mas_types.specs.declared.commands.Reply.TheVariants as reply
use Rattle.mas_types.specs.declared.commands.What.TheVariants as what
use Rattle.mas_types.specs.Lists.{first_some}
use Rattle.mas_types.specs.Queue.{is_of}
use Rattle.mas_types.specs.Row.{settled, done, none_such}
use Rattle.mas_types.specs.declared.commands.Refusal.{Refusal}
use Rattle.mas_types.specs.declared.commands.Reply.{Reply}
use Rattle.mas_types.specs.declared.commands.What.{What}
use Rattle.mas_types.specs.Shown.{job_line, output_line, one_job, volume_lines, member_lines, shown, shown_of_none, show_row}
use Rattle.mas_types.specs.Limits.{members_most}
use Rattle.ckpt_tables.specs.declared.tables.Tables.{Tables}
use Rattle.lay_bytes.specs.Used.{used}
use Rattle.cmd_report.specs.Named.{IsNamed}
use Rattle.queue_slots.proofs.Rising.{All-in_order}
use Rattle.output_queue.specs.Outputs.{AreOutputs}
use Rattle.queue_telling.specs.Telling.{Tell}
use Rattle.queue_effect.specs.Standing.{Leaves, AreFit, IsFitJob, IsFitOutput}
use Rattle.lay_bytes.specs.declared.records.JobRec.{JobRec}
use Rattle.lay_bytes.specs.declared.records.OutRec.{OutRec}
use Rattle.queue_slots.specs.Listed.{listed}
use Rattle.job_queue.specs.Jobs as jobs
use Rattle.output_queue.specs.Outputs as outputs
use Rattle.queue_effect.specs.Gone.{job_of, output_of, SaysAs}

-- what tells the same gives the same lines
pub lines_alike : {A B C D : Type 0} (u : A → C) (v : B → C) (g : C → D) (xs : List A) (ys : List B) → map u xs ≡ map v ys → map (λ x. g (u x)) xs ≡ map (λ y. g (v y)) ys
lines_alike u v g [] [] same = refl
lines_alike u v g [] (y ∷ ys) same = absurd (cc)
lines_alike u v g (x ∷ xs) [] same = absurd (cc)
lines_alike u v g (x ∷ xs) (y ∷ ys) same =
    let here : u x ≡ v y = cc in
    let more : map u xs ≡ map v ys = cc in
    let first : g (u x) ≡ g (v y) = ap g here in
    let rest = lines_alike u v g xs ys more in
    cc

abbrev JobsAlike : Queue → Queue → Type 0
JobsAlike a b = map jobs.rec_of a.jobs ≡ map jobs.rec_of b.jobs

abbrev OutputsAlike : Queue → Queue → Type 0
OutputsAlike a b = map outputs.rec_of a.outputs ≡ map outputs.rec_of b.outputs

pub jobs_said : (a b : Queue) → JobsAlike a b → SaysAs what.Queue a b
jobs_said a b same = ap reply.Shown (lines_alike jobs.rec_of jobs.rec_of (λ (r : JobRec). job_line (job_of r)) a.jobs b.jobs same)

pub outputs_said : (a b : Queue) → OutputsAlike a b → SaysAs what.Outputs a b
outputs_said a b same = ap reply.Shown (lines_alike outputs.rec_of outputs.rec_of (λ (r : OutRec). output_line (output_of r)) a.outputs b.outputs same)

pub one_said : (a b : Queue) (n : JobNo) (x y : Option Job) → option_map jobs.rec_of x ≡ option_map jobs.rec_of y → map output_line (filter (is_of n) a.outputs) ≡ map output_line (filter (is_of n) b.outputs)
    → (settled a a (reply.Shown (option_map_or (one_job a n) x [])) (first_some (none_such refusal.NoJob x ∷ []))).1 ≡ (settled b b (reply.Shown (option_map_or (one_job b n) y [])) (first_some (none_such refusal.NoJob y ∷ []))).1
one_said a b n None None same lines = refl
one_said a b n None (Some y) same lines = absurd (cc)
one_said a b n (Some x) None same lines = absurd (cc)
one_said a b n (Some x) (Some y) same lines =
    let here : jobs.rec_of x ≡ jobs.rec_of y = cc in
    let first : job_line x ≡ job_line y = ap (λ (r : JobRec). job_line (job_of r)) here in
    cc

-- WHAT IS LISTED

pub told_jobs : (xs : List JobRec) → map jobs.rec_of (map job_of xs) ≡ map jobs.unordered xs
told_jobs [] = refl
told_jobs (x ∷ xs) = ap (λ (rs : List JobRec). jobs.unordered x ∷ rs) (told_jobs xs)

pub told_outputs : (xs : List OutRec) → map outputs.rec_of (map output_of xs) ≡ map outputs.unordered xs
told_outputs [] = refl
told_outputs (x ∷ xs) = ap (λ (rs : List OutRec). outputs.unordered x ∷ rs) (told_outputs xs)

-- the outputs of a queue of which the slots tell
pub some_outputs : (slots : List (Option OutRec)) → AreOutputs slots (map output_of (listed outputs.order_of slots))
some_outputs slots = sym (told_outputs (listed outputs.order_of slots))

named_jobs : (n : ℕ) (xs : List JobRec) → All (IsFitJob n) xs → All (λ j. j.busy.0 ≤ members_most) (map job_of xs)
named_jobs n [] all = All-nil (λ (j : Job). j.busy.0 ≤ members_most)
named_jobs n (x ∷ xs) all =
    let here : IsFitJob n x = All-head (IsFitJob n) x xs all in
    All-cons (λ (j : Job). j.busy.0 ≤ members_most) (job_of x) (map job_of xs) here.busy (named_jobs n xs (All-tail (IsFitJob n) x xs all))

pub named_outputs : (n : ℕ) (xs : List OutRec) → All (IsFitOutput n) xs → All (λ o. o.busy.0 ≤ members_most) (map output_of xs)
named_outputs n [] all = All-nil (λ (o : Output). o.busy.0 ≤ members_most)
named_outputs n (x ∷ xs) all =
    let here : IsFitOutput n x = All-head (IsFitOutput n) x xs all in
    All-cons (λ (o : Output). o.busy.0 ≤ members_most) (output_of x) (map output_of xs) here.busy (named_outputs n xs (All-tail (IsFitOutput n) x xs all))

module _ (t : Tables) (fit : AreFit t) where
  pub jobs_named : All (λ j. j.busy.0 ≤ members_most) (map job_of (listed jobs.order_of t.jobs))
  jobs_named = named_jobs t.order (listed jobs.order_of t.jobs) (All-in_order jobs.order_of (IsFitJob t.order) (used t.jobs) fit.jobs)

  pub outputs_named : All (λ o. o.busy.0 ≤ members_most) (map output_of (listed outputs.order_of t.outputs))
  outputs_named = named_outputs t.order (listed outputs.order_of t.outputs) (All-in_order outputs.order_of (IsFitOutput t.order) (used t.outputs) fit.outputs)

  pub members_few : length t.members ≤ members_most
  members_few = let same = fit.shape.members in let few = fit.shape.config.members.1 in omega arith

  abbrev pub part : List Job → List Output → List Owner → List Setting → Queue
  part js os gs ss = record { config = t.config; jobs = js; outputs = os; owners = gs; members = ss; routes = []; lines = []; last = t.last }

  abbrev js : List Job
  js = map job_of (listed jobs.order_of t.jobs)

  abbrev pub os : List Output
  os = map output_of (listed outputs.order_of t.outputs)

  pub part_named : (gs : List Owner) (ps : List Job) (qs : List Output) (ss : List Setting) → All (λ j. j.busy.0 ≤ members_most) ps → All (λ o. o.busy.0 ≤ members_most) qs → length ss ≤ members_most → IsNamed (part ps qs gs ss)
  part_named gs ps qs ss a b c = record { jobs = a; outputs = b; members = c }

  module _ (Q : Queue) (stands : Tell t Q) where
    jobs_alike : map jobs.rec_of js ≡ map jobs.rec_of Q.jobs
    jobs_alike = told_jobs (listed jobs.order_of t.jobs) ∙ stands.jobs

    pub outputs_alike : map outputs.rec_of os ≡ map outputs.rec_of Q.outputs
    outputs_alike = told_outputs (listed outputs.order_of t.outputs) ∙ stands.outputs

    pub says_queue : SaysAs what.Queue (part js [] [] []) Q
    says_queue = jobs_said (part js [] [] []) Q jobs_alike

    pub says_outputs : SaysAs what.Outputs (part [] os [] []) Q
    says_outputs = outputs_said (part [] os [] []) Q outputs_alike

    pub says_spool : SaysAs what.Spool (part [] [] t.owners []) Q
    says_spool =
        ap (λ (c : Config). reply.Shown (volume_lines 1 c.volumes t.owners c.groups)) (sym stands.config)
        ∙ ap (λ (gs : List Owner). reply.Shown (volume_lines 1 Q.config.volumes gs Q.config.groups)) (sym stands.owners)

    pub says_members : SaysAs what.Members (part [] [] [] t.members) Q
    says_members = ap (λ (ss : List Setting). reply.Shown (member_lines 1 ss)) (sym stands.members)

same_queue : (Q : Queue) (answer : Reply) (o : Option Refusal) → (settled Q Q answer o).0 ≡ Q
same_queue Q answer None = refl
same_queue Q answer (Some why) = refl

-- a display changes nothing
pub shown_leaves : (t : Tables) (Q : Queue) (w : What) (r : Reply) → Tell t Q → (done Q (show_row Q w)).1 ≡ r → Leaves t Q (show_row Q w) r
shown_leaves t Q w r stands says = record {
  stands = subst (Tell t) (sym (same_queue Q (reply.Shown (shown Q w)) (first_some (shown_of_none Q w)))) stands;
  reply = says;
}
