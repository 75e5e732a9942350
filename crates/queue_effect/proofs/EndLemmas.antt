-- How a job ends with its outputs.
use Rattle.std.proofs.Common.{◌≡◌, ℕ, ◌+◌, true, false, ◌&&◌, List, [], ◌∷◌, ◌++◌, append_assoc, length, Option, Some, None, set, refl, sym, ap, ◌∙◌, arith}
use Rattle.std.specs.Prelude.{not, nat_lt, if◌then◌else◌}
use Rattle.std.proofs.lemmas.List.{append-nil}
use Rattle.std.proofs.lemmas.List.Elements.{All-nil, All-cons, All-head, All-tail}
use Rattle.mas_types.specs.declared.ids.MemberId.{MemberId}
use Rattle.mas_types.specs.declared.ids.JobNo.{JobNo}
use Rattle.mas_types.specs.declared.jobs.OutSpec.{OutSpec}
use Rattle.mas_types.specs.declared.jobs.Phase.TheVariants as phase
use Rattle.mas_types.specs.declared.queues.Config.{Config}
use Rattle.mas_types.specs.declared.queues.Owner.{Owner}
use Rattle.mas_types.specs.declared.queues.Queue.{Queue}
use Rattle.mas_types.specs.declared.queues.Thing.TheVariants as thing
use Rattle.mas_types.specs.declared.commands.Refusal.{Refusal}
use Rattle.mas_types.specs.declared.commands.Refusal.TheVariants as refusal
use Rattle.mas_types.specs.declared.commands.Reply.TheVariants as reply
use Rattle.mas_types.specs.Lists.{first_some}
use Rattle.mas_types.specs.Ids.{nobody}
use Rattle.mas_types.specs.Owners.{freed, is_members, groups_needed, output_places, member_count}
use Rattle.mas_types.specs.Queue.{has_number, job_at, change_job}
use Rattle.mas_types.specs.Row.{none_such, wrong_phase, job_not_at, refused_where}
use Rattle.mas_types.specs.Commands.Life.{ended, ended_row, with_outputs, new_output, new_outputs, places_of_outputs, runs, are_outputs_full, lacks_groups, groups_of_outputs, is_cancelled, outputs_at_end}
use Rattle.lay_bytes.specs.declared.records.JobRec.{JobRec}
use Rattle.ckpt_tables.specs.declared.tables.Tables.{Tables}
use Rattle.lay_bytes.specs.Used.{used}
use Rattle.output_queue.proofs.OutputLemmas.{length-outputs}
use Rattle.track_groups.specs.Groups.{given}
use Rattle.track_groups.specs.Laws.{AreNoMembers, TextsAreNoMembers, GivesInTurn, HandsOut}
use Rattle.job_queue.specs.Jobs.{HasJob}
use Rattle.queue_telling.specs.Telling.{Tell}
use Rattle.queue_effect.specs.Standing.{Leaves}
use Rattle.queue_effect.specs.Working.{in_stage, not_at_work}
use Rattle.queue_effect.specs.declared.working.Stage.TheVariants as stage
use Rattle.queue_effect.proofs.Changing.{three_none, three_some}
use Rattle.queue_effect.proofs.Leaving.{done_row, refused}

-- no outputs
pub none_added : (t : Tables) (Q : Queue) (m : MemberId) (n : JobNo) (i : ℕ) → Tell t Q
    → Tell t (record Q { outputs = Q.outputs ++ new_outputs n i []; owners = given m (places_of_outputs n i []) Q.owners })
none_added t Q m n i stands = rw (append-nil Q.outputs, given_none m Q.owners) stands
  where
    given_none : (m : MemberId) (gs : List Owner) → given m [] gs ≡ gs
    given_none m [] = refl
    given_none m (g ∷ gs) = refl

-- a first output and then the others
pub more_added : (texts : TextsAreNoMembers) (turns : GivesInTurn) (t : Tables) (Q : Queue) (m : MemberId) (n : JobNo) (i : ℕ) (s : OutSpec) (specs : List OutSpec)
    → Tell t (record Q { outputs = (Q.outputs ++ new_output n i s ∷ []) ++ new_outputs n (i + 1) specs; owners = given m (places_of_outputs n (i + 1) specs) (given m (output_places n (record { 0 = i }) (groups_needed s.text)) Q.owners) })
    → Tell t (record Q { outputs = Q.outputs ++ new_outputs n i (s ∷ specs); owners = given m (places_of_outputs n i (s ∷ specs)) Q.owners })
more_added texts turns t Q m n i s specs stands =
    let together = turns m (output_places n (record { 0 = i }) (groups_needed s.text)) (places_of_outputs n (i + 1) specs) Q.owners (texts m (thing.Output n (record { 0 = i })) (groups_needed s.text)) in
    record {
      config = stands.config;
      jobs = stands.jobs;
      outputs = rw (← append_assoc Q.outputs (new_output n i s ∷ []) (new_outputs n (i + 1) specs)) stands.outputs;
      owners = sym together ∙ stands.owners;
      members = stands.members;
      routes = stands.routes;
      lines = stands.lines;
      last = stands.last;
    }

no_members_append : (m : MemberId) (xs ys : List Owner) → AreNoMembers m xs → AreNoMembers m ys → AreNoMembers m (xs ++ ys)
no_members_append m [] ys none more = more
no_members_append m (x ∷ xs) ys none more =
    let P = λ (o : Owner). is_members m o ≡ false in
    All-cons P x (xs ++ ys) (All-head P x xs none) (no_members_append m xs ys (All-tail P x xs none) more)

outputs_no_members : TextsAreNoMembers → (m : MemberId) (n : JobNo) (i : ℕ) (specs : List OutSpec) → AreNoMembers m (places_of_outputs n i specs)
outputs_no_members texts m n i [] = All-nil (λ o. is_members m o ≡ false)
outputs_no_members texts m n i (s ∷ specs) =
    no_members_append m (output_places n (record { 0 = i }) (groups_needed s.text)) (places_of_outputs n (i + 1) specs) (texts m (thing.Output n (record { 0 = i })) (groups_needed s.text)) (outputs_no_members texts m n (i + 1) specs)

-- the record of a job that has ended
abbrev pub ended_rec : JobRec → JobRec
ended_rec r = record r { phase = if r.cancelled then phase.Purge else phase.Output; busy = nobody }

-- the job has ended
pub job_ended : (t : Tables) (Q : Queue) (n : JobNo) (at : ℕ) (x : JobRec) → Tell t Q → HasJob (has_number n) t.jobs Q.jobs at x
    → Tell (record t { jobs = set t.jobs at (Some (ended_rec x)) }) (change_job n ended Q)
job_ended t Q n at x stands has = record {
  config = stands.config;
  jobs = has.changed (ended_rec x) ended refl (ap ended_rec (sym has.is));
  outputs = stands.outputs;
  owners = stands.owners;
  members = stands.members;
  routes = stands.routes;
  lines = stands.lines;
  last = stands.last;
}

-- what the member has of groups beyond those of the outputs becomes free
pub rest_freed : (texts : TextsAreNoMembers) (all : HandsOut) (t : Tables) (Q : Queue) (m : MemberId) (n : JobNo) (specs : List OutSpec)
    → Tell t (record Q { outputs = Q.outputs ++ new_outputs n 1 specs; owners = given m (places_of_outputs n 1 specs) Q.owners })
    → Tell (record t { owners = freed (is_members m) t.owners }) (with_outputs m n specs Q)
rest_freed texts all t Q m n specs stands = record {
  config = stands.config;
  jobs = stands.jobs;
  outputs = stands.outputs;
  owners = sym (all m (places_of_outputs n 1 specs) Q.owners (outputs_no_members texts m n 1 specs)) ∙ ap (freed (is_members m)) stands.owners;
  members = stands.members;
  routes = stands.routes;
  lines = stands.lines;
  last = stands.last;
}

-- THE ROW

abbrev NotAtWork : Queue → MemberId → JobNo → Option Refusal
NotAtWork Q m n = first_some (not_at_work Q m n (in_stage stage.Run))

module _ (t : Tables) (Q : Queue) (m : MemberId) (n : JobNo) (specs : List OutSpec) (stands : Tell t Q) where
  abbrev no_job : Option Refusal
  no_job = none_such refusal.NoJob (job_at Q n)

  abbrev phase_wrong : Option Refusal
  phase_wrong = wrong_phase runs (job_at Q n)

  abbrev elsewhere : Option Refusal
  elsewhere = job_not_at m (job_at Q n)

  -- the refusals of a job that the member is at work on
  abbrev others : List (Option Refusal)
  others =
      refused_where (not (is_cancelled (job_at Q n)) && are_outputs_full Q (outputs_at_end (job_at Q n) specs)) refusal.OutputsFull
      ∷ refused_where (not (is_cancelled (job_at Q n)) && lacks_groups Q m (outputs_at_end (job_at Q n) specs)) refusal.Nothing ∷ []

  pub end_refused : (why : Refusal) → NotAtWork Q m n ≡ Some why → Leaves t Q (ended_row Q m n specs) (reply.No why)
  end_refused why is = refused t Q (ended_row Q m n specs) why stands (three_some no_job phase_wrong elsewhere others why is)

  module _ (new : Tables) (at : ℕ) (x : JobRec) (has : HasJob (has_number n) t.jobs Q.jobs at x) (allowed : NotAtWork Q m n ≡ None) where
    same_flag : has.item.cancelled ≡ x.cancelled
    same_flag = ap (λ (r : JobRec). r.cancelled) has.is

    pub ends_cancelled : x.cancelled ≡ true → Tell new (with_outputs m n [] (change_job n ended Q)) → Leaves new Q (ended_row Q m n specs) (reply.Count 0)
    ends_cancelled was after =
        let flag : has.item.cancelled ≡ true = same_flag ∙ was in
        let free : first_some others ≡ None = rw (has.found, flag) refl in
        done_row new Q (ended_row Q m n specs) (reply.Count 0) (three_none no_job phase_wrong elsewhere others allowed ∙ free) (rw (has.found, flag) after) (rw (has.found, flag) refl)

    module _ (isnt : x.cancelled ≡ false) where
      flag : has.item.cancelled ≡ false
      flag = same_flag ∙ isnt

      pub ends_full : are_outputs_full Q specs ≡ true → Leaves t Q (ended_row Q m n specs) (reply.No refusal.OutputsFull)
      ends_full full =
          let first : first_some others ≡ Some refusal.OutputsFull = rw (has.found, flag, full) refl in
          refused t Q (ended_row Q m n specs) refusal.OutputsFull stands (three_none no_job phase_wrong elsewhere others allowed ∙ first)

      pub ends_lacking : are_outputs_full Q specs ≡ false → lacks_groups Q m specs ≡ true → Leaves t Q (ended_row Q m n specs) (reply.No refusal.Nothing)
      ends_lacking room lacks =
          let first : first_some others ≡ Some refusal.Nothing = rw (has.found, flag, room, lacks) refl in
          refused t Q (ended_row Q m n specs) refusal.Nothing stands (three_none no_job phase_wrong elsewhere others allowed ∙ first)

      pub ends : are_outputs_full Q specs ≡ false → lacks_groups Q m specs ≡ false → Tell new (with_outputs m n specs (change_job n ended Q)) → Leaves new Q (ended_row Q m n specs) (reply.Count (length specs))
      ends room groups after =
          let free : first_some others ≡ None = rw (has.found, flag, room, groups) refl in
          done_row new Q (ended_row Q m n specs) (reply.Count (length specs)) (three_none no_job phase_wrong elsewhere others allowed ∙ free) (rw (has.found, flag) after) (rw (has.found, flag) refl)

-- what tables tell of full slots and of groups that are lacking
pub full_told : (t : Tables) (Q : Queue) (specs : List OutSpec) → Tell t Q → are_outputs_full Q specs ≡ nat_lt t.config.outputs (length (used t.outputs) + length specs)
full_told t Q specs stands =
    ap (λ (c : Config). nat_lt c.outputs (length Q.outputs + length specs)) stands.config
    ∙ ap (λ (k : ℕ). nat_lt t.config.outputs (k + length specs)) (sym (length-outputs t.outputs Q.outputs stands.outputs))

pub lacks_told : (t : Tables) (Q : Queue) (m : MemberId) (specs : List OutSpec) → Tell t Q → lacks_groups Q m specs ≡ nat_lt (member_count m t.owners) (groups_of_outputs specs)
lacks_told t Q m specs stands = ap (λ (gs : List Owner). nat_lt (member_count m gs) (groups_of_outputs specs)) stands.owners

pub no_items : (xs : List OutSpec) → length xs ≡ 0 → xs ≡ []
no_items [] none = refl
no_items (x ∷ xs) none = absurd (omega arith)
