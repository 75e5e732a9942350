-- The groups of an output that is busy at a member, and the limit of its printer, under the commands of others.
use Rattle.std.proofs.Common.{◌≡◌, ◌≢◌, ◌∙◌, ◌-◌, ◌==◌, ◌&&◌, not, if◌then◌else◌, ℕ, zero, suc, Bool, true, false, List, [], ◌∷◌, filter, Option, Some, None, slice_get, ap, refl, subst, sym, arith}
use Rattle.std.specs.Option.{option_map_or}
use Rattle.std.specs.List.{find, list_any}
use Rattle.std.proofs.lemmas.Bool.{and_parts as both_are, eq-eqb}
use Rattle.std.proofs.lemmas.Bool.Decides.{nat_tests}
use Rattle.mas_types.specs.declared.commands.Command.{Command}
use Rattle.mas_types.specs.declared.commands.Command.TheVariants as command
use Rattle.mas_types.specs.declared.ids.JobNo.{JobNo}
use Rattle.mas_types.specs.declared.ids.MemberId.{MemberId}
use Rattle.mas_types.specs.declared.ids.OutNo.{OutNo}
use Rattle.mas_types.specs.declared.jobs.Job.{Job}
use Rattle.mas_types.specs.declared.jobs.Output.{Output}
use Rattle.mas_types.specs.declared.queues.Owner.{Owner}
use Rattle.mas_types.specs.declared.queues.Owner.TheVariants as owner
use Rattle.mas_types.specs.declared.queues.Queue.{Queue}
use Rattle.mas_types.specs.declared.queues.Setting.{Setting}
use Rattle.mas_types.specs.declared.queues.Thing.{Thing}
use Rattle.mas_types.specs.declared.queues.Thing.TheVariants as thing
use Rattle.mas_types.specs.Commands.Input.{drop_row}
use Rattle.mas_types.specs.Commands.Life.{outputs_at_end, runs}
use Rattle.mas_types.specs.Commands.Operator.{cancel_row, is_busy, printing_elsewhere}
use Rattle.mas_types.specs.Ids.{is_somebody, same_index, same_member, same_number}
use Rattle.mas_types.specs.Lists.{change_at, first_some}
use Rattle.mas_types.specs.Owners.{deck_places, groups_needed, handed_out, is_deck_of, is_members, is_of_any, is_output_of}
use Rattle.mas_types.specs.Queue.{first_in, has_key, in_purge, is_of, job_at, number_of, output_at, setting_of}
use Rattle.mas_types.specs.Row.{output_elsewhere, output_not_at, wrong_phase}
use Rattle.mas_types.specs.Sound.{IsSound, IsSoundOutput, is_there, may_have_outputs}
use Rattle.mas_types.specs.Step.{row_of, step}
use Rattle.paper_laws.specs.Next.{limit_of}
use Rattle.queue_laws.specs.Laws.{resets}
use Rattle.queue_laws.proofs.Done.{done_keeps, none_first}
use Rattle.queue_laws.proofs.Finds.{find-All, find_none, test_cases}
use Rattle.queue_laws.proofs.Others.{at_member_output, not_elsewhere, third_none}
use Rattle.queue_laws.proofs.SoundEnded.{block-All}
use Rattle.track_groups.specs.Places.{groups_of}
use Rattle.member_racing.proofs.BusyGroups.{Same, held_is, places_not, same_freed, same_groups, same_handed, same_taken, stay}
use Rattle.member_racing.proofs.BusyStill.{runs_none}

same_no : (a b : JobNo) → same_number a b ≡ true → a ≡ b
same_no a b is = let e : a.0 ≡ b.0 = grind (arith, nat_tests) in ap (λ (k : ℕ). let n : JobNo = record { 0 = k } in n) e

same_in : (a b : OutNo) → same_index a b ≡ true → a ≡ b
same_in a b is = let e : a.0 ≡ b.0 = grind (arith, nat_tests) in ap (λ (k : ℕ). let n : OutNo = record { 0 = k } in n) e

both_false : (a b : Bool) → ((a ≡ true) → (b ≡ true) → ⊥) → (a && b) ≡ false
both_false true true f = absurd (f refl refl)
both_false true false f = refl
both_false false b f = refl

-- the second of a step's checks
second_of : {A : Type 0} → List (Option A) → Option A
second_of [] = None
second_of (a ∷ []) = None
second_of (a ∷ b ∷ cs) = b

second_none : {A : Type 0} (os : List (Option A)) → first_some os ≡ None → second_of os ≡ None
unfolding second_of
second_none [] none = refl
second_none (a ∷ []) none = refl
second_none (a ∷ b ∷ cs) none = (none_first b cs (none_first a (b ∷ cs) none).1).0

module _ (Q : Queue) (m h : MemberId) (sound : IsSound Q) (somebody : is_somebody h ≡ true) (other : same_member h m ≡ false) (n : JobNo) (i : OutNo) (o : Output) (there : output_at Q n i ≡ Some o) (busy : o.busy ≡ h) where
  abbrev t : Thing
  t = thing.Output n i

  abbrev Keeps : List Owner → Type 0
  Keeps owners = Same t Q.owners owners

  -- an output that has to be busy at the commanding member is another one
  not_its : (job : JobNo) (index : OutNo) → output_not_at m (output_at Q job index) ≡ None → same_number n job ≡ true → same_index i index ≡ true → ⊥
  not_its job index none one two =
      let its : output_not_at m (Some o) ≡ None = subst (λ (f : Option Output). output_not_at m f ≡ None) (ap (λ (k : JobNo). output_at Q k index) (sym (same_no n job one)) ∙ ap (λ (k : OutNo). output_at Q n k) (sym (same_in i index two)) ∙ there) none in
      let mine : same_member o.busy m ≡ true = at_member_output m o its in
      let theirs : same_member o.busy m ≡ false = subst (λ (k : MemberId). same_member k m ≡ false) (sym busy) other in
      absurd (let bad : true ≡ false = sym mine ∙ theirs in cc)

  -- so is one that may not be busy at another than that
  nor_its : (job : JobNo) (index : OutNo) → output_elsewhere m (output_at Q job index) ≡ None → same_number n job ≡ true → same_index i index ≡ true → ⊥
  nor_its job index none one two =
      let its : output_elsewhere m (Some o) ≡ None = subst (λ (f : Option Output). output_elsewhere m f ≡ None) (ap (λ (k : JobNo). output_at Q k index) (sym (same_no n job one)) ∙ ap (λ (k : OutNo). output_at Q n k) (sym (same_in i index two)) ∙ there) none in
      not_elsewhere m h o its somebody other busy

  output_apart : (job : JobNo) (index : OutNo) → (same_number n job ≡ true → same_index i index ≡ true → ⊥) → (g : Owner) → is_output_of job index g ≡ true → is_output_of n i g ≡ false
  output_apart job index apart owner.Free is = absurd (cc)
  output_apart job index apart (owner.Member k) is = absurd (cc)
  output_apart job index apart (owner.Deck k p) is = absurd (cc)
  output_apart job index apart (owner.Output k j p) is =
      let its = both_are (same_number k job) (same_index j index) is in
      both_false (same_number k n) (same_index j i)
      (λ one two.
      apart (subst (λ (q : JobNo). same_number q job ≡ true) (same_no k n one) its.0) (subst (λ (q : OutNo). same_index q index ≡ true) (same_in j i two) its.1))

  deck_not : (k : JobNo) (g : Owner) → is_deck_of k g ≡ true → is_output_of n i g ≡ false
  deck_not k owner.Free is = absurd (cc)
  deck_not k (owner.Member q) is = absurd (cc)
  deck_not k (owner.Deck d p) is = refl
  deck_not k (owner.Output d j p) is = absurd (cc)

  -- its job doesn't run
  apart_running : (job : JobNo) → wrong_phase runs (job_at Q job) ≡ None → same_number job n ≡ false
  apart_running job none = test_cases (same_number job n) (same_number job n ≡ false)
      (λ e.
      let right = find-All (IsSoundOutput Q.config Q.jobs) (has_key n i) Q.outputs o sound.outputs there in
      let key = both_are (same_number o.job n) (same_index o.index i) right.1 in
      let its : is_there (λ j. may_have_outputs j.phase) Q.jobs n ≡ true = subst (λ (k : JobNo). is_there (λ j. may_have_outputs j.phase) Q.jobs k ≡ true) (same_no o.job n key.0) right.0.job in
      let free : wrong_phase runs (job_at Q n) ≡ None = subst (λ (k : JobNo). wrong_phase runs (job_at Q k) ≡ None) (same_no job n e) none in
      absurd (by_found (job_at Q n) its free))
      (λ e. e)
    where
      by_found : (f : Option Job) → option_map_or (λ (j : Job). may_have_outputs j.phase) f false ≡ true → wrong_phase runs f ≡ None → ⊥
      by_found None its free = absurd (cc)
      by_found (Some j) its free = test_cases (runs j.phase) ⊥
          (λ e. absurd (let bad : true ≡ false = sym its ∙ runs_none j.phase e in cc))
          (λ e. absurd (let w = rw e at free in cc))

  -- an output that is busy at another isn't of a job that is cancelled
  abbrev elsewhere : JobNo → Output → Bool
  elsewhere job x = is_of job x && is_somebody x.busy && not (same_member x.busy m)

  elsewhere_of : (job : JobNo) → output_elsewhere m (printing_elsewhere Q m job) ≡ None → is_of job o ≡ true → ⊥
  elsewhere_of job none of = by_found (printing_elsewhere Q m job) refl none where
    by_found : (f : Option Output) → find (elsewhere job) Q.outputs ≡ f → output_elsewhere m f ≡ None → ⊥
    by_found None found free =
        let at_o = (find-All (λ x. elsewhere job x ≡ false) (has_key n i) Q.outputs o (find_none (elsewhere job) Q.outputs found) there).0 in
        let theirs : same_member o.busy m ≡ false = rw busy other in
        let works : is_somebody o.busy ≡ true = rw busy somebody in
        absurd (let e = rw (of, works, theirs) at at_o in cc)
    by_found (Some x) found free =
        let here = (find-All (λ _. Unit {0}) (elsewhere job) Q.outputs x (λ k d lt. tt) found).1 in
        let parts = both_are (is_of job x && is_somebody x.busy) (not (same_member x.busy m)) here in
        let first = both_are (is_of job x) (is_somebody x.busy) parts.0 in
        absurd (let e = rw (first.1, parts.1) at free in cc)

  any_of : (job : JobNo) (k : JobNo) (j : OutNo) (os : List Output) → list_any (has_key k j) (filter (is_of job) os) ≡ true → same_number k job ≡ true
  any_of job k j [] is = absurd (cc)
  any_of job k j (x ∷ os) is = test_cases (is_of job x) (same_number k job ≡ true)
      (λ e. test_cases (has_key k j x) (same_number k job ≡ true)
      (λ key.
      let parts = both_are (same_number x.job k) (same_index x.index j) key in
      subst (λ (q : JobNo). same_number q job ≡ true) (same_no x.job k parts.0) e)
      (λ no_key. any_of job k j os (rw (e, no_key) at is)))
      (λ e. any_of job k j os (rw e at is))

  cancelled_not : (job : JobNo) → output_elsewhere m (printing_elsewhere Q m job) ≡ None → (g : Owner) → is_of_any (filter (is_of job) Q.outputs) g ≡ true → is_output_of n i g ≡ false
  cancelled_not job none owner.Free is = absurd (cc)
  cancelled_not job none (owner.Member k) is = absurd (cc)
  cancelled_not job none (owner.Deck k p) is = absurd (cc)
  cancelled_not job none (owner.Output k j p) is =
      both_false (same_number k n) (same_index j i)
      (λ one two.
      let right = (find-All (λ _. Unit {0}) (has_key n i) Q.outputs o (λ k d lt. tt) there).1 in
      let key = both_are (same_number o.job n) (same_index o.index i) right in
      let of : same_number n job ≡ true = subst (λ (q : JobNo). same_number q job ≡ true) (same_no k n one) (any_of job k j Q.outputs is) in
      elsewhere_of job none (subst (λ (q : JobNo). same_number q job ≡ true) (sym (same_no o.job n key.0)) of))

  entered_not : (job : JobNo) (text : List (List ℕ)) → Keeps (handed_out m (deck_places job (groups_needed text)) Q.owners)
  entered_not job text = same_handed t m (deck_places job (groups_needed text)) Q.owners (block-All (λ g. is_output_of n i g ≡ false) (λ p. owner.Deck job p) 0 (groups_needed text) (λ q. refl))

  output_effect : (c : Command) → resets h c ≡ false → first_some (row_of Q m c).refusals ≡ None → Keeps (row_of Q m c).effect.owners
  unfolding second_of
  output_effect (command.Begin fields) r none = stay t Q.owners
  output_effect (command.Take want) r none = same_taken t m want Q.owners
  output_effect (command.Drop job) r none =
      test_cases (job.0 == 0) (Keeps (drop_row Q m job).effect.owners)
      (λ e. rw e (same_freed t (is_members m) (held_is t (λ k. same_member k m)) Q.owners))
      (λ e. rw e (same_freed t (is_members m) (held_is t (λ k. same_member k m)) Q.owners))
  output_effect (command.Enter job text) r none = entered_not job text
  output_effect command.TakeConvert r none = stay t Q.owners
  output_effect (command.Converted job) r none = stay t Q.owners
  output_effect command.TakeExec r none = stay t Q.owners
  output_effect (command.Ended job specs) r none =
      let free : wrong_phase runs (job_at Q job) ≡ None = second_none (row_of Q m (command.Ended job specs)).refusals none in
      same_handed t m _ Q.owners (places_not t job 1 (outputs_at_end (job_at Q job) specs) (λ k p. ap (λ (b : Bool). b && same_index k i) (apart_running job free)))
  output_effect command.Gather r none = stay t Q.owners
  output_effect command.Pick r none = stay t Q.owners
  output_effect (command.Mark job index at) r none = stay t Q.owners
  output_effect (command.Done job index) r none =
      let free : output_not_at m (output_at Q job index) ≡ None = second_none (row_of Q m (command.Done job index)).refusals none in
      same_freed t (is_output_of job index) (output_apart job index (not_its job index free)) Q.owners
  output_effect command.Purge r none = same_freed t (is_deck_of (number_of (first_in in_purge Q))) (deck_not (number_of (first_in in_purge Q))) Q.owners
  output_effect (command.Hold job) r none = stay t Q.owners
  output_effect (command.Release job) r none = stay t Q.owners
  output_effect (command.Cancel job) r none =
      test_cases (is_busy (job_at Q job)) (Keeps (cancel_row Q m job).effect.owners)
      (λ e. rw e (stay t Q.owners))
      (λ e. rw e (same_freed t _ (cancelled_not job (third_none _ _ _ _ none)) Q.owners))
  output_effect (command.SetPrio job prio) r none = stay t Q.owners
  output_effect (command.SetClass job class) r none = stay t Q.owners
  output_effect (command.Out job) r none = stay t Q.owners
  output_effect (command.CancelOut job index) r none =
      let free : output_elsewhere m (output_at Q job index) ≡ None = second_none (row_of Q m (command.CancelOut job index)).refusals none in
      same_freed t (is_output_of job index) (output_apart job index (nor_its job index free)) Q.owners
  output_effect (command.SetOut job index class) r none = stay t Q.owners
  output_effect (command.Show what) r none = stay t Q.owners
  output_effect (command.SetInit classes) r none = stay t Q.owners
  output_effect (command.SetPrt classes forms lines) r none = stay t Q.owners
  output_effect (command.Back lines) r none = stay t Q.owners
  output_effect (command.Forward lines) r none = stay t Q.owners
  output_effect (command.Reset of_member) r none = same_freed t _ (held_is t (λ k. same_member k of_member)) Q.owners
  output_effect command.Restart r none = absurd (cc)
  output_effect (command.Load line) r none = stay t Q.owners
  output_effect (command.Sent line number) r none = stay t Q.owners
  output_effect (command.Got line number job text) r none = entered_not job text

  -- the groups of its text are the same ones
  pub output_stays : (c : Command) → resets h c ≡ false → groups_of t (step Q m c).0.owners ≡ groups_of t Q.owners
  output_stays c r =
      same_groups t Q.owners (step Q m c).0.owners
      (done_keeps Q (row_of Q m c) (λ (R : Queue). Same t Q.owners R.owners) (stay t Q.owners) (λ none. output_effect c r none))

-- THE LIMIT OF A PRINTER

get_change : {A : Type 0} (f : A → A) (k j : ℕ) (xs : List A) → k ≢ j → slice_get (change_at k f xs) j ≡ slice_get xs j
get_change f k j [] apart = refl
get_change f zero zero (x ∷ xs) apart = absurd (apart refl)
get_change f zero (suc j) (x ∷ xs) apart = refl
get_change f (suc k) zero (x ∷ xs) apart = refl
get_change f (suc k) (suc j) (x ∷ xs) apart = get_change f k j xs (λ same. apart (ap suc same))

module _ (Q : Queue) (m h : MemberId) (somebody : is_somebody h ≡ true) (other : same_member h m ≡ false) where
  abbrev Limit : Queue → Type 0
  Limit R = limit_of R h ≡ limit_of Q h

  -- a setting of another is changed
  changed : (f : Setting → Setting) → setting_of (record Q { members = if is_somebody m then change_at (m.0 - 1) f Q.members else Q.members }) h ≡ setting_of Q h
  changed f = test_cases (is_somebody m) (setting_of (record Q { members = if is_somebody m then change_at (m.0 - 1) f Q.members else Q.members }) h ≡ setting_of Q h)
      (λ e.
      let apart : m.0 - 1 ≢ h.0 - 1 = λ same.
      absurd (let one : h.0 ≡ m.0 = numbers m.0 h.0 e somebody same in let its : same_member h m ≡ true = eq-eqb h.0 m.0 one in let bad : true ≡ false = sym its ∙ other in cc) in
      rw e (ap (λ (s : Option Setting). if is_somebody h then s else None) (get_change f (m.0 - 1) (h.0 - 1) Q.members apart)))
      (λ e. rw e refl)
    where
      numbers : (a b : ℕ) → is_somebody (record { 0 = a }) ≡ true → is_somebody (record { 0 = b }) ≡ true → a - 1 ≡ b - 1 → b ≡ a
      numbers zero b one two same = absurd (cc)
      numbers (suc a) zero one two same = absurd (cc)
      numbers (suc a) (suc b) one two same = omega (arith, same)

  limit_effect : (c : Command) → first_some (row_of Q m c).refusals ≡ None → Limit (row_of Q m c).effect
  limit_effect (command.Begin fields) none = refl
  limit_effect (command.Take want) none = refl
  limit_effect (command.Drop job) none = test_cases (job.0 == 0) (Limit (drop_row Q m job).effect) (λ e. rw e refl) (λ e. rw e refl)
  limit_effect (command.Enter job text) none = refl
  limit_effect command.TakeConvert none = refl
  limit_effect (command.Converted job) none = refl
  limit_effect command.TakeExec none = refl
  limit_effect (command.Ended job specs) none = refl
  limit_effect command.Gather none = refl
  limit_effect command.Pick none = refl
  limit_effect (command.Mark job index at) none = refl
  limit_effect (command.Done job index) none = refl
  limit_effect command.Purge none = refl
  limit_effect (command.Hold job) none = refl
  limit_effect (command.Release job) none = refl
  limit_effect (command.Cancel job) none = test_cases (is_busy (job_at Q job)) (Limit (cancel_row Q m job).effect) (λ e. rw e refl) (λ e. rw e refl)
  limit_effect (command.SetPrio job prio) none = refl
  limit_effect (command.SetClass job class) none = refl
  limit_effect (command.Out job) none = refl
  limit_effect (command.CancelOut job index) none = refl
  limit_effect (command.SetOut job index class) none = refl
  limit_effect (command.Show what) none = refl
  limit_effect (command.SetInit classes) none = ap (λ (s : Option Setting). option_map_or (λ (k : Setting). k.lines) s 0) (changed _)
  limit_effect (command.SetPrt classes forms lines) none = ap (λ (s : Option Setting). option_map_or (λ (k : Setting). k.lines) s 0) (changed _)
  limit_effect (command.Back lines) none = refl
  limit_effect (command.Forward lines) none = refl
  limit_effect (command.Reset of_member) none = refl
  limit_effect command.Restart none = refl
  limit_effect (command.Load line) none = refl
  limit_effect (command.Sent line number) none = refl
  limit_effect (command.Got line number job text) none = refl

  pub limit_stays : (c : Command) → limit_of (step Q m c).0 h ≡ limit_of Q h
  limit_stays c = done_keeps Q (row_of Q m c) Limit refl (λ none. limit_effect c none)
