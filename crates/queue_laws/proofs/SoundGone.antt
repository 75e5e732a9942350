-- Drop, Purge, Done, CancelOut and Cancel keep the sound parts.
use Rattle.std.proofs.Common.{◌≡◌, ℕ, Bool, true, false, not, ◌&&◌, nat_eq, ◌==◌, List, [], ◌∷◌, Option, Some, None, refl, ap, ◌∙◌, subst, arith}
use Rattle.std.specs.Option.{option_map_or}
use Rattle.std.specs.List.{find, list_any}
use Rattle.std.proofs.lemmas.Bool.Decides.{nat_tests}
use Rattle.std.proofs.lemmas.List.Elements.{All-weaker}
use Rattle.mas_types.specs.declared.ids.MemberId.{MemberId}
use Rattle.mas_types.specs.declared.ids.JobNo.{JobNo}
use Rattle.mas_types.specs.declared.ids.OutNo.{OutNo}
use Rattle.mas_types.specs.declared.jobs.Phase.{Phase}
use Rattle.mas_types.specs.declared.jobs.Phase.TheVariants as phase
use Rattle.mas_types.specs.declared.jobs.Job.{Job}
use Rattle.mas_types.specs.declared.jobs.Output.{Output}
use Rattle.mas_types.specs.declared.queues.Owner.{Owner}
use Rattle.mas_types.specs.declared.queues.Owner.TheVariants as owner
use Rattle.mas_types.specs.declared.queues.Queue.{Queue}
use Rattle.mas_types.specs.declared.commands.Refusal.TheVariants as refusal
use Rattle.mas_types.specs.Lists.{first_some, without_first, without}
use Rattle.mas_types.specs.Ids.{same_number, is_somebody}
use Rattle.std.proofs.lemmas.List.{length-map}
use Rattle.mas_types.specs.Queue.{remove_job, in_input, in_hardcopy, in_purge, has_number, is_of, has_output, is_in, number_of, job_at, change_job}
use Rattle.mas_types.specs.Owners.{freed, is_deck_of, is_output_of, is_members}
use Rattle.mas_types.specs.Row.{none_such, wrong_phase, job_not_at}
use Rattle.mas_types.specs.Commands.Input.{drop_row, with_groups_freed, not_in_input}
use Rattle.mas_types.specs.Commands.Life.{purge_row}
use Rattle.mas_types.specs.Commands.Printing.{output_removed, output_gone, outputs_over}
use Rattle.mas_types.specs.Commands.Operator.{cancel_row, cancelled, is_busy, without_outputs_of}
use Rattle.mas_types.specs.Sound.{IsSound, IsSoundJob, is_there, is_owner_there, may_have_outputs, HasDeckGroup, HasOutputGroup}
use Rattle.queue_laws.proofs.Done.{none_first}
use Rattle.queue_laws.proofs.Finds.{test_cases, find-All}
use Rattle.queue_laws.proofs.Others.{second_none, rests_hardcopy, both_first, without-by_number}
use Rattle.queue_laws.proofs.Soundness.{sound-change_job}
use Rattle.queue_laws.proofs.SoundJobs.{in_phase_of, same_found, rest_right}
use Rattle.queue_laws.proofs.Freed.{any-freed, All-freed, places-freed}
use Rattle.queue_laws.proofs.SoundRemove.{sound-remove_job, sound-remove_output, sound-remove_outputs, gaps-freed, closed_members, closed_deck}

-- GROUPS OF A MEMBER BECOME FREE

members_no_deck : (m : MemberId) (k : JobNo) (g : Owner) → is_members m g ≡ true → is_deck_of k g ≡ false
members_no_deck m k owner.Free h = refl
members_no_deck m k (owner.Member l) h = refl
members_no_deck m k (owner.Deck l q) h = absurd (cc)
members_no_deck m k (owner.Output l j q) h = refl

members_no_output : (m : MemberId) (k : JobNo) (i : OutNo) (g : Owner) → is_members m g ≡ true → is_output_of k i g ≡ false
members_no_output m k i owner.Free h = refl
members_no_output m k i (owner.Member l) h = refl
members_no_output m k i (owner.Deck l q) h = refl
members_no_output m k i (owner.Output l j q) h = absurd (cc)

pub freed_sound : (Q : Queue) (m : MemberId) → IsSound Q → IsSound (with_groups_freed m Q)
freed_sound Q m sound = record {
  config = sound.config;
  few_jobs = sound.few_jobs;
  few_outputs = sound.few_outputs;
  each_group = length-map Q.owners _ ∙ sound.each_group;
  each_member = sound.each_member;
  few_routes = sound.few_routes;
  each_line = sound.each_line;
  last = sound.last;
  members = sound.members;
  jobs = sound.jobs;
  decks = All-weaker (HasDeckGroup Q.owners) (HasDeckGroup (freed (is_members m) Q.owners)) (λ j deck some. any-freed (is_members m) (is_deck_of j.number) refl (members_no_deck m j.number) Q.owners ∙ deck some) Q.jobs sound.decks;
  outputs = sound.outputs;
  groups = All-weaker (HasOutputGroup Q.owners) (HasOutputGroup (freed (is_members m) Q.owners)) (λ o group some. any-freed (is_members m) (is_output_of o.job o.index) refl (members_no_output m o.job o.index) Q.owners ∙ group some) Q.outputs sound.groups;
  owners = All-freed (is_members m) (λ g. is_owner_there Q.config Q.jobs Q.outputs g ≡ true) (λ g. is_owner_there Q.config Q.jobs Q.outputs g ≡ true) refl (λ g kept h. h) Q.owners sound.owners;
  numbers = sound.numbers;
  keys = sound.keys;
  printers = sound.printers;
  places = places-freed (is_members m) Q.owners sound.places;
  no_gaps = gaps-freed (is_members m) Q.owners (closed_members m) sound.no_gaps;
}

-- DROP

pub no_outputs_input : (p : Phase) → in_input p ≡ true → may_have_outputs p ≡ false
no_outputs_input phase.Input h = refl
no_outputs_input phase.Convert h = absurd (cc)
no_outputs_input phase.Execute h = absurd (cc)
no_outputs_input phase.Output h = absurd (cc)
no_outputs_input phase.Hardcopy h = absurd (cc)
no_outputs_input phase.Purge h = absurd (cc)
no_outputs_input phase.Xmit h = absurd (cc)

no_outputs_purge : (p : Phase) → in_purge p ≡ true → may_have_outputs p ≡ false
no_outputs_purge phase.Purge h = refl
no_outputs_purge phase.Input h = absurd (cc)
no_outputs_purge phase.Convert h = absurd (cc)
no_outputs_purge phase.Execute h = absurd (cc)
no_outputs_purge phase.Output h = absurd (cc)
no_outputs_purge phase.Hardcopy h = absurd (cc)
no_outputs_purge phase.Xmit h = absurd (cc)

-- a test that the job of that number doesn't pass
pub not_there : (Q : Queue) (n : JobNo) (test : Job → Bool) → ((j : Job) → job_at Q n ≡ Some j → test j ≡ false) → is_there test Q.jobs n ≡ false
not_there Q n test fails = go (job_at Q n) refl
  where
    go : (o : Option Job) → job_at Q n ≡ o → option_map_or test o false ≡ false
    go None e = refl
    go (Some j) e = fails j e

-- a job in Input has no deck
pub no_deck_of : (Q : Queue) (n : JobNo) → ((j : Job) → job_at Q n ≡ Some j → in_input j.phase ≡ true) → (g : Owner) → is_owner_there Q.config Q.jobs Q.outputs g ≡ true → is_deck_of n g ≡ false
no_deck_of Q n input owner.Free there = refl
no_deck_of Q n input (owner.Member m) there = refl
no_deck_of Q n input (owner.Deck k p) there =
    test_cases (same_number k n) (same_number k n ≡ false)
    (λ e. absurd (let here = rw (alike k n e) at there in cc (here, not_there Q n (λ j. not (in_input j.phase)) (λ j found. rw (input j found) refl))))
    (λ e. e)
  where
    alike : (k n : JobNo) → same_number k n ≡ true → is_there (λ j. not (in_input j.phase)) Q.jobs k ≡ is_there (λ j. not (in_input j.phase)) Q.jobs n
    alike k n e = let same : k.0 ≡ n.0 = grind (arith, nat_tests) in ap (λ (v : ℕ). option_map_or (λ j. not (in_input j.phase)) (find (λ (x : Job). nat_eq x.number.0 v) Q.jobs) false) same
no_deck_of Q n input (owner.Output k i p) there = refl

pub drop_sound : (Q : Queue) (m : MemberId) (n : JobNo) → IsSound Q → first_some (drop_row Q m n).refusals ≡ None → IsSound (drop_row Q m n).effect
drop_sound Q m n sound none =
    test_cases (n.0 == 0) (IsSound (drop_row Q m n).effect)
    (λ e. rw e (freed_sound Q m sound))
    (λ e. rw e (dropped (rw e at none)))
  where
    dropped : first_some (not_in_input Q m n) ≡ None → IsSound (record (remove_job n Q) { owners = freed (is_members m) Q.owners })
    dropped none' =
        let input = in_phase_of Q n in_input (second_none (none_such refusal.NoJob (job_at Q n)) (wrong_phase in_input (job_at Q n)) (job_not_at m (job_at Q n) ∷ []) none') in
        sound-remove_job Q n (is_members m) sound (record {
          no_outputs = not_there Q n (λ j. may_have_outputs j.phase) (λ j found. no_outputs_input j.phase (input j found));
          no_deck = All-weaker (λ g. is_owner_there Q.config Q.jobs Q.outputs g ≡ true) (λ g. is_members m g ≡ false → is_deck_of n g ≡ false) (λ g there kept. no_deck_of Q n input g there) Q.owners sound.owners;
          closed = closed_members m;
          other_decks = λ k apart. members_no_deck m k;
          outputs = members_no_output m;
        })

-- PURGE

deck_no_deck : (n k : JobNo) → (k.0 ≡ n.0 → ⊥) → (g : Owner) → is_deck_of n g ≡ true → is_deck_of k g ≡ false
deck_no_deck n k apart owner.Free h = refl
deck_no_deck n k apart (owner.Member l) h = refl
deck_no_deck n k apart (owner.Deck l q) h = other l h
  where
    other : (l : JobNo) → same_number l n ≡ true → same_number l k ≡ false
    other l h = grind (arith, nat_tests)
deck_no_deck n k apart (owner.Output l j q) h = refl

deck_no_output : (n k : JobNo) (i : OutNo) (g : Owner) → is_deck_of n g ≡ true → is_output_of k i g ≡ false
deck_no_output n k i owner.Free h = refl
deck_no_output n k i (owner.Member l) h = refl
deck_no_output n k i (owner.Deck l q) h = refl
deck_no_output n k i (owner.Output l j q) h = absurd (cc)

purge_by : (Q : Queue) (o : Option Job) → IsSound Q → find (is_in in_purge) Q.jobs ≡ o → none_such refusal.Nothing o ≡ None
    → IsSound (record Q { jobs = without_first (is_in in_purge) Q.jobs; owners = freed (is_deck_of (number_of o)) Q.owners })
purge_by Q None sound first none = absurd (cc)
purge_by Q (Some x) sound first none = rw (without-by_number Q.jobs (is_in in_purge) x sound.numbers first) (sound-remove_job Q x.number (is_deck_of x.number) sound (record {
  no_outputs = not_there Q x.number (λ j. may_have_outputs j.phase) (λ j found.
      let same = same_found Q (is_in in_purge) x j sound first found in
      no_outputs_purge j.phase (subst (λ (y : Job). in_purge y.phase ≡ true) same.0 same.1));
  no_deck = All-weaker (λ g. is_owner_there Q.config Q.jobs Q.outputs g ≡ true) (λ g. is_deck_of x.number g ≡ false → is_deck_of x.number g ≡ false) (λ g there kept. kept) Q.owners sound.owners;
  closed = closed_deck x.number;
  other_decks = deck_no_deck x.number;
  outputs = deck_no_output x.number;
}))

pub purge_sound : (Q : Queue) → IsSound Q → first_some (purge_row Q).refusals ≡ None → IsSound (purge_row Q).effect
purge_sound Q sound none = purge_by Q (find (is_in in_purge) Q.jobs) sound refl (none_first _ _ none).0

-- DONE, CANCEL OUT

-- a job whose outputs may be over: it stays as it is, or moves to Purge
over_cases : (R : Queue) (P : Job → Type 0) (j : Job) → ((in_hardcopy j.phase && not (has_output j.number R)) ≡ true → P (record j { phase = phase.Purge })) → P j → P (outputs_over R j)
over_cases R P j over stays =
    test_cases (in_hardcopy j.phase && not (has_output j.number R)) (P (outputs_over R j)) (λ e. rw e (over e)) (λ e. rw e stays)

not_has : (a b : Bool) → (a && not b) ≡ true → b ≡ false
not_has true false h = refl
not_has true true h = absurd (cc)
not_has false b h = absurd (cc)

has_number_is : (R : Queue) (n : JobNo) (j : Job) → job_at R n ≡ Some j → has_output n R ≡ has_output j.number R
has_number_is R n j found =
    let here = (find-All (λ (x : Job). has_number n x ≡ has_number n x) (has_number n) R.jobs j (λ k d lt. refl) found).1 in
    let same : n.0 ≡ j.number.0 = grind (arith, nat_tests, here) in
    ap (λ (v : ℕ). list_any (λ (o : Output). nat_eq o.job.0 v) R.outputs) same

over_sound : (R : Queue) (n : JobNo) → IsSound R → IsSound (change_job n (outputs_over R) R)
over_sound R n sound = sound-change_job R n (outputs_over R) sound (record {
  number = λ j. over_cases R (λ k. k.number ≡ j.number) j (λ e. refl) refl;
  text = λ j. over_cases R (λ k. k.text ≡ j.text) j (λ e. refl) refl;
  right = λ j found s. over_cases R (IsSoundJob R.config) j (λ e. rest_right R.config j phase.Purge (rests_hardcopy j.phase (both_first (in_hardcopy j.phase) _ e)) refl s) s;
  outputs = λ j found has may. over_cases R (λ k. may_have_outputs k.phase ≡ true) j (λ e. absurd (let none = not_has (in_hardcopy j.phase) (has_output j.number R) e in cc (none, has, has_number_is R n j found))) may;
  past_input = λ j found past. over_cases R (λ k. not (in_input k.phase) ≡ true) j (λ e. refl) past;
})

pub gone_sound : (Q : Queue) (n : JobNo) (i : OutNo) → IsSound Q → IsSound (output_gone n i Q)
gone_sound Q n i sound = over_sound (output_removed n i Q) n (sound-remove_output Q n i sound)

-- CANCEL

-- a busy job is marked, any other moves to Purge
cancelled_cases : (P : Job → Type 0) (j : Job) → (is_somebody j.busy ≡ true → P (record j { cancelled = true })) → (is_somebody j.busy ≡ false → P (record j { phase = phase.Purge })) → P (cancelled j)
cancelled_cases P j busy idle = test_cases (is_somebody j.busy) (P (cancelled j)) (λ e. rw e (busy e)) (λ e. rw e (idle e))

-- where the job is busy, or has no outputs
cancel_safe : (R : Queue) (n : JobNo) → IsSound R → ((j : Job) → job_at R n ≡ Some j → is_somebody j.busy ≡ false → has_output n R ≡ false) → IsSound (change_job n cancelled R)
cancel_safe R n sound free = sound-change_job R n cancelled sound (record {
  number = λ j. cancelled_cases (λ k. k.number ≡ j.number) j (λ e. refl) (λ e. refl);
  text = λ j. cancelled_cases (λ k. k.text ≡ j.text) j (λ e. refl) (λ e. refl);
  right = λ j found s. cancelled_cases (IsSoundJob R.config) j
      (λ e. record { number = s.number; busy = s.busy; busy_phase = s.busy_phase; text = s.text; no_cards = s.no_cards })
      (λ e. record { number = s.number; busy = s.busy; busy_phase = λ d. absurd (cc (d, e)); text = s.text; no_cards = λ d. absurd (cc) });
  outputs = λ j found has may. cancelled_cases (λ k. may_have_outputs k.phase ≡ true) j (λ e. may) (λ e. absurd (cc (has, free j found e)));
  past_input = λ j found past. cancelled_cases (λ k. not (in_input k.phase) ≡ true) j (λ e. past) (λ e. refl);
})

none_of : (n : JobNo) (os : List Output) → list_any (is_of n) (without (is_of n) os) ≡ false
none_of n [] = refl
none_of n (o ∷ os) =
    test_cases (is_of n o) (list_any (is_of n) (without (is_of n) (o ∷ os)) ≡ false)
    (λ e. rw e (none_of n os))
    (λ e. rw (e, e) (none_of n os))

pub cancel_sound : (Q : Queue) (m : MemberId) (n : JobNo) → IsSound Q → IsSound (cancel_row Q m n).effect
cancel_sound Q m n sound =
    test_cases (is_busy (job_at Q n)) (IsSound (cancel_row Q m n).effect)
    (λ e. rw e (cancel_safe Q n sound (λ j found idle. absurd (let w = rw found at e in cc (w, idle)))))
    (λ e. rw e (cancel_safe (without_outputs_of n Q) n (sound-remove_outputs Q n sound) (λ j found idle. none_of n Q.outputs)))
