-- Marks change only by the member at which the output is busy.
use Rattle.std.proofs.Common.{◌≡◌, ℕ, ◌+◌, ◌-◌, min, Bool, true, false, not, ◌==◌, ◌≤◌, nat_lt, List, [], ◌∷◌, ◌++◌, map, Option, Some, None, refl, ap, ◌∙◌, subst, inl, inr, arith}
use Rattle.std.specs.Prelude.{if◌then◌else◌, option_map}
use Rattle.std.specs.List.{find, All}
use Rattle.std.proofs.lemmas.Bool.{eq-eqb}
use Rattle.std.proofs.lemmas.Bool.Decides.{eqb_tells, nat_tests}
use Rattle.std.proofs.lemmas.List.Elements.{All-cons, All-head, All-tail, All-nil, All-weaker, filter_passes}
use Rattle.mas_types.specs.declared.ids.MemberId.{MemberId}
use Rattle.mas_types.specs.declared.ids.JobNo.{JobNo}
use Rattle.mas_types.specs.declared.ids.OutNo.{OutNo}
use Rattle.mas_types.specs.declared.jobs.OutSpec.{OutSpec}
use Rattle.mas_types.specs.declared.jobs.Output.{Output}
use Rattle.mas_types.specs.declared.queues.Queue.{Queue}
use Rattle.mas_types.specs.declared.commands.Command.{Command}
use Rattle.mas_types.specs.declared.commands.Command.TheVariants as command
use Rattle.mas_types.specs.declared.commands.Refusal.TheVariants as refusal
use Rattle.mas_types.specs.declared.commands.Reply.TheVariants as reply
use Rattle.mas_types.specs.Lists.{first_some, change_first, without_first, without}
use Rattle.mas_types.specs.Ids.{same_member}
use Rattle.mas_types.specs.Queue.{has_key, is_of, job_at, output_at, prints_at, total, is_member}
use Rattle.mas_types.specs.Row.{none_such, output_not_at}
use Rattle.mas_types.specs.Selection.{is_for_printer}
use Rattle.mas_types.specs.Reset.{reset_output}
use Rattle.mas_types.specs.Commands.Life.{new_output, new_outputs}
use Rattle.mas_types.specs.Commands.Printing.{picked_by, marked, not_printed, mark_row}
use Rattle.mas_types.specs.Commands.Operator.{is_held_of, released, cancel_row, is_busy}
use Rattle.mas_types.specs.Sound.{IsSound}
use Rattle.mas_types.specs.Step.{row_of}
use Rattle.queue_laws.specs.Marks.{MayTake, OutputFollows, OutputComes, FollowsAt, MarksFollow, MarkIsAtMost}
use Rattle.queue_laws.proofs.Done.{done-effect, done_keeps, none_first, where_not, not_refused}
use Rattle.queue_laws.proofs.Finds.{test_cases, find-All, find-append, find-map, find-change_same, find-change_apart, find-without_first, find-without}
use Rattle.queue_laws.proofs.Chosen.{change_first-none}
use Rattle.queue_laws.proofs.Kept.{key_cases, key_alike, key_found_alike}
use Rattle.queue_laws.proofs.Others.{IsKeyFoundIn, key_found_itself, change-by_key, second_none, third_none, at_member_output}
use Rattle.queue_laws.proofs.SoundRemove.{other_keys_left}

-- where no item passes the test, none is found
find_nowhere : (p : Output → Bool) (os : List Output) → All (λ o. p o ≡ false) os → find p os ≡ None
find_nowhere p [] all = refl
find_nowhere p (o ∷ os) all = rw (All-head (λ o. p o ≡ false) o os all) (find_nowhere p os (All-tail (λ o. p o ≡ false) o os all))

find-append_none : (p : Output → Bool) (os ps : List Output) → find p os ≡ None → find p (os ++ ps) ≡ find p ps
find-append_none p [] ps h = refl
find-append_none p (o ∷ os) ps h =
    test_cases (p o) (find p ((o ∷ os) ++ ps) ≡ find p ps)
    (λ e. absurd (let w = rw e at h in cc))
    (λ e. rw e (find-append_none p os ps (rw e at h)))

same_key_found : (n k : JobNo) (i l : OutNo) (os : List Output) → n.0 ≡ k.0 → i.0 ≡ l.0 → find (has_key n i) os ≡ find (has_key k l) os
same_key_found n k i l os same same' = rw (same, same') refl

others_of : (k : JobNo) (os : List Output) → All (λ o. not (is_of k o) ≡ true) (without (is_of k) os)
others_of k os = filter_passes (λ o. not (is_of k o)) os

not_of : (n k : JobNo) (i : OutNo) (o : Output) → n.0 ≡ k.0 → not (is_of k o) ≡ true → has_key n i o ≡ false
not_of n k i o same h = grind (arith, nat_tests)

of_same : (n k : JobNo) (i : OutNo) (o : Output) → n.0 ≡ k.0 → has_key n i o ≡ true → is_of k o ≡ true
of_same n k i o same h = grind (arith, nat_tests)

-- what is found passes
found_passes : (p : Output → Bool) (os : List Output) (x : Output) → find p os ≡ Some x → p x ≡ true
found_passes p os x found = (find-All (λ _. Unit {0}) p os x (λ k d lt. tt) found).1

of_other : (n k : JobNo) (i : OutNo) (o : Output) → (n.0 ≡ k.0 → ⊥) → has_key n i o ≡ true → is_of k o ≡ false
of_other n k i o apart h = grind (arith, nat_tests)

module _ (m : MemberId) (c : Command) where
  still : (o : Output) → OutputFollows m c o o
  still o = record { text = refl; copies = refl; mark = inl refl; busy = inl refl }

  same_at : (o : Option Output) → FollowsAt m c o o
  same_at None = tt
  same_at (Some o) = still o

  goes : (o : Option Output) → ((x : Output) → o ≡ Some x → MayTake c x) → FollowsAt m c o None
  goes None may = tt
  goes (Some o) may = may o refl

  mapped : (f : Output → Output) (o : Option Output) → ((x : Output) → o ≡ Some x → OutputFollows m c x (f x)) → FollowsAt m c o (option_map f o)
  mapped f None follows = tt
  mapped f (Some x) follows = follows x refl

  at_change : (k : JobNo) (l : OutNo) (f : Output → Output) (os : List Output) → ((n : JobNo) (i : OutNo) (o : Output) → has_key n i (f o) ≡ has_key n i o) → ((o : Output) → find (has_key k l) os ≡ Some o → OutputFollows m c o (f o)) → (n : JobNo) (i : OutNo) → FollowsAt m c (find (has_key n i) os) (find (has_key n i) (change_first (has_key k l) f os))
  at_change k l f os keys follows n i =
      elim (key_cases n k i l) [
        | inl w ↦ rw (find-change_same (has_key n i) (has_key k l) f os (key_alike n k i l w.0 w.1) (keys n i)) (mapped f (find (has_key n i) os) (λ o found. follows o (key_found_alike n k i l os o w.0 w.1 found)))
        | inr w ↦ rw (find-change_apart (has_key n i) (has_key k l) f os w (keys n i)) (same_at (find (has_key n i) os))
      ]

  at_map : (f : Output → Output) (os : List Output) → ((n : JobNo) (i : OutNo) (o : Output) → has_key n i (f o) ≡ has_key n i o) → ((o : Output) → OutputFollows m c o (f o)) → (n : JobNo) (i : OutNo) → FollowsAt m c (find (has_key n i) os) (find (has_key n i) (map f os))
  at_map f os keys follows n i = rw (find-map (has_key n i) f os (keys n i)) (mapped f (find (has_key n i) os) (λ o found. follows o))

  fresh_at : (p : Output → Bool) (os : List Output) → All (OutputComes c) os → FollowsAt m c None (find p os)
  fresh_at p os all = go (find p os) refl
    where
      go : (o : Option Output) → find p os ≡ o → FollowsAt m c None o
      go None h = tt
      go (Some o) h = (find-All (OutputComes c) p os o all h).0

  at_append : (os ps : List Output) → All (OutputComes c) ps → (n : JobNo) (i : OutNo) → FollowsAt m c (find (has_key n i) os) (find (has_key n i) (os ++ ps))
  at_append os ps fresh n i = go (find (has_key n i) os) refl
    where
      go : (o : Option Output) → find (has_key n i) os ≡ o → FollowsAt m c (find (has_key n i) os) (find (has_key n i) (os ++ ps))
      go None h = rw (find-append_none (has_key n i) os ps h, h) (fresh_at (has_key n i) ps fresh)
      go (Some o) h = rw (find-append (has_key n i) os ps o h, h) (still o)

  at_removed : (Q : Queue) → IsSound Q → (k : JobNo) (l : OutNo) → ((x : Output) → output_at Q k l ≡ Some x → MayTake c x) → (n : JobNo) (i : OutNo) → FollowsAt m c (find (has_key n i) Q.outputs) (find (has_key n i) (without_first (has_key k l) Q.outputs))
  at_removed Q sound k l may n i =
      elim (key_cases n k i l) [
        | inl w ↦ rw (same_key_found n k i l (without_first (has_key k l) Q.outputs) w.0 w.1, find_nowhere (has_key k l) (without_first (has_key k l) Q.outputs) (other_keys_left k l Q.outputs sound.keys)) (goes (find (has_key n i) Q.outputs) (λ x found. may x (key_found_alike n k i l Q.outputs x w.0 w.1 found)))
        | inr w ↦ rw (find-without_first (has_key n i) (has_key k l) Q.outputs w) (same_at (find (has_key n i) Q.outputs))
      ]

  at_without : (os : List Output) (k : JobNo) → ((x : Output) → is_of k x ≡ true → MayTake c x) → (n : JobNo) (i : OutNo) → FollowsAt m c (find (has_key n i) os) (find (has_key n i) (without (is_of k) os))
  at_without os k may n i =
      elim (eqb_tells n.0 k.0) [
        | inl w ↦ rw (find_nowhere (has_key n i) (without (is_of k) os) (All-weaker (λ o. not (is_of k o) ≡ true) (λ o. has_key n i o ≡ false) (λ o h. not_of n k i o w.1 h) (without (is_of k) os) (others_of k os))) (goes (find (has_key n i) os) (λ x found. may x (of_same n k i x w.1 (found_passes (has_key n i) os x found))))
        | inr w ↦ rw (find-without (has_key n i) (is_of k) os (λ o h. of_other n k i o w.1 h)) (same_at (find (has_key n i) os))
      ]

of_itself : (k : JobNo) (j : ℕ) (s : OutSpec) → is_of k (new_output k j s) ≡ true
of_itself k j s = eq-eqb k.0 k.0 refl

-- the outputs of a job that ended
new_comes : (k : JobNo) (given : List OutSpec) (j : ℕ) (specs : List OutSpec) → All (OutputComes (command.Ended k given)) (new_outputs k j specs)
new_comes k given j [] = All-nil (OutputComes (command.Ended k given))
new_comes k given j (s ∷ specs) =
    All-cons (OutputComes (command.Ended k given)) (new_output k j s) (new_outputs k (j + 1) specs)
    (record { made = of_itself k j s; mark = refl; busy = refl }) (new_comes k given (j + 1) specs)

-- an output of which all lines are printed
all_printed : (mark total : ℕ) → nat_lt mark total ≡ false → total ≤ mark
all_printed mark total h = grind (arith, nat_tests)

printed_out : (o : Output) → not_printed (Some o) ≡ None → total o ≤ o.mark
printed_out o none = all_printed o.mark (total o) (where_not (nat_lt o.mark (total o)) refusal.Nothing none)

-- what is found by a test is found by its key
by_key : (Q : Queue) (p : Output → Bool) (x : Output) → IsSound Q → find p Q.outputs ≡ Some x → IsKeyFoundIn Q.outputs x × (p x ≡ true)
by_key Q p x sound found = find-All (IsKeyFoundIn Q.outputs) p Q.outputs x (key_found_itself Q.outputs sound.keys) found

-- the first output that a test picks is changed
first_at : (Q : Queue) (m : MemberId) (c : Command) (p : Output → Bool) (f : Output → Output) → IsSound Q → ((n : JobNo) (i : OutNo) (o : Output) → has_key n i (f o) ≡ has_key n i o) → ((x : Output) → find p Q.outputs ≡ Some x → OutputFollows m c x (f x)) → (n : JobNo) (i : OutNo) → FollowsAt m c (find (has_key n i) Q.outputs) (find (has_key n i) (change_first p f Q.outputs))
first_at Q m c p f sound keys follows n i = go (find p Q.outputs) refl
  where
    go : (o : Option Output) → find p Q.outputs ≡ o → FollowsAt m c (find (has_key n i) Q.outputs) (find (has_key n i) (change_first p f Q.outputs))
    go None first = rw (change_first-none p f Q.outputs first) (same_at m c (find (has_key n i) Q.outputs))
    go (Some x) first = rw (change-by_key Q.outputs p f x sound.keys first) (at_change m c x.job x.index f Q.outputs keys (λ o here.
        let same : x ≡ o = cc ((by_key Q p x sound first).0, here) in
        subst (λ (y : Output). OutputFollows m c y (f y)) same (follows x first)) n i)

released_follows : (m : MemberId) (c : Command) (k : JobNo) (o : Output) → OutputFollows m c o (if is_held_of k o then released o else o)
released_follows m c k o = test_cases (is_held_of k o) (OutputFollows m c o (if is_held_of k o then released o else o)) (λ e. rw e (record { text = refl; copies = refl; mark = inl refl; busy = inl refl })) (λ e. rw e (still m c o))

released_key : (k : JobNo) (n : JobNo) (i : OutNo) (o : Output) → has_key n i (if is_held_of k o then released o else o) ≡ has_key n i o
released_key k n i o = test_cases (is_held_of k o) (has_key n i (if is_held_of k o then released o else o) ≡ has_key n i o) (λ e. rw e refl) (λ e. rw e refl)

reset_follows : (m : MemberId) (c : Command) (picks : MemberId → Bool) (o : Output) → OutputFollows m c o (if picks o.busy then reset_output o else o)
reset_follows m c picks o = test_cases (picks o.busy) (OutputFollows m c o (if picks o.busy then reset_output o else o)) (λ e. rw e (record { text = refl; copies = refl; mark = inl refl; busy = inr (inl refl) })) (λ e. rw e (still m c o))

reset_key : (picks : MemberId → Bool) (n : JobNo) (i : OutNo) (o : Output) → has_key n i (if picks o.busy then reset_output o else o) ≡ has_key n i o
reset_key picks n i o = test_cases (picks o.busy) (has_key n i (if picks o.busy then reset_output o else o) ≡ has_key n i o) (λ e. rw e refl) (λ e. rw e refl)

at_is : (Q : Queue) (m : MemberId) (n : JobNo) (i : OutNo) (x : Output) → output_not_at m (output_at Q n i) ≡ None → output_at Q n i ≡ Some x → same_member x.busy m ≡ true
at_is Q m n i x none found = at_member_output m x (rw found at none)

effect_marks : (Q : Queue) (m : MemberId) → IsSound Q → (c : Command) → first_some (row_of Q m c).refusals ≡ None → (n : JobNo) (i : OutNo) → FollowsAt m c (find (has_key n i) Q.outputs) (find (has_key n i) (row_of Q m c).effect.outputs)
effect_marks Q m s (command.Begin fields) r n i = same_at m _ (find (has_key n i) Q.outputs)
effect_marks Q m s (command.Take want) r n i = same_at m _ (find (has_key n i) Q.outputs)
effect_marks Q m s (command.Drop job) r n i =
    test_cases (job.0 == 0) (FollowsAt m (command.Drop job) (find (has_key n i) Q.outputs) (find (has_key n i) (row_of Q m (command.Drop job)).effect.outputs))
    (λ e. rw e (same_at m (command.Drop job) (find (has_key n i) Q.outputs))) (λ e. rw e (same_at m (command.Drop job) (find (has_key n i) Q.outputs)))
effect_marks Q m s (command.Enter job text) r n i = same_at m _ (find (has_key n i) Q.outputs)
effect_marks Q m s command.TakeConvert r n i = same_at m _ (find (has_key n i) Q.outputs)
effect_marks Q m s (command.Converted job) r n i = same_at m _ (find (has_key n i) Q.outputs)
effect_marks Q m s command.TakeExec r n i = same_at m _ (find (has_key n i) Q.outputs)
effect_marks Q m s (command.Ended job specs) r n i = at_append m (command.Ended job specs) Q.outputs _ (new_comes job specs 1 _) n i
effect_marks Q m s command.Gather r n i = same_at m _ (find (has_key n i) Q.outputs)
effect_marks Q m s command.Pick r n i =
    first_at Q m command.Pick (is_for_printer Q m) (picked_by m) s (λ n i o. refl) (λ x first. record { text = refl; copies = refl; mark = inl refl; busy = inr (inr (refl, refl)) }) n i
effect_marks Q m s (command.Mark job index at) r n i =
    first_at Q m (command.Mark job index at) (has_key job index) (marked (λ o. min at (total o))) s (λ n i o. refl)
    (λ x first. record { text = refl; copies = refl; mark = inr (at_is Q m job index x (second_none _ _ _ r) first, (found_passes (has_key job index) Q.outputs x first, omega arith)); busy = inl refl }) n i
effect_marks Q m s (command.Done job index) r n i =
    at_removed m (command.Done job index) Q s job index (λ x found.
    let none : not_printed (Some x) ≡ None = rw found at (third_none (none_such refusal.NoOutput (output_at Q job index)) (output_not_at m (output_at Q job index)) (not_printed (output_at Q job index)) [] r) in (found_passes (has_key job index) Q.outputs x found, printed_out x none)) n i
effect_marks Q m s command.Purge r n i = same_at m _ (find (has_key n i) Q.outputs)
effect_marks Q m s (command.Hold job) r n i = same_at m _ (find (has_key n i) Q.outputs)
effect_marks Q m s (command.Release job) r n i = same_at m _ (find (has_key n i) Q.outputs)
effect_marks Q m s (command.Cancel job) r n i =
    test_cases (is_busy (job_at Q job)) (FollowsAt m (command.Cancel job) (find (has_key n i) Q.outputs) (find (has_key n i) (cancel_row Q m job).effect.outputs))
    (λ e. rw e (same_at m (command.Cancel job) (find (has_key n i) Q.outputs)))
    (λ e. rw e (at_without m (command.Cancel job) Q.outputs job (λ x mine. mine) n i))
effect_marks Q m s (command.SetPrio job prio) r n i = same_at m _ (find (has_key n i) Q.outputs)
effect_marks Q m s (command.SetClass job class) r n i = same_at m _ (find (has_key n i) Q.outputs)
effect_marks Q m s (command.Out job) r n i = at_map m (command.Out job) (λ o. if is_held_of job o then released o else o) Q.outputs (released_key job) (released_follows m (command.Out job) job) n i
effect_marks Q m s (command.CancelOut job index) r n i = at_removed m (command.CancelOut job index) Q s job index (λ x found. found_passes (has_key job index) Q.outputs x found) n i
effect_marks Q m s (command.SetOut job index class) r n i = at_change m (command.SetOut job index class) job index (λ o. record o { class = class }) Q.outputs (λ n i o. refl) (λ o here. record { text = refl; copies = refl; mark = inl refl; busy = inl refl }) n i
effect_marks Q m s (command.Show what) r n i = same_at m _ (find (has_key n i) Q.outputs)
effect_marks Q m s (command.SetInit classes) r n i = same_at m _ (find (has_key n i) Q.outputs)
effect_marks Q m s (command.SetPrt classes forms lines) r n i = same_at m _ (find (has_key n i) Q.outputs)
effect_marks Q m s (command.Back lines) r n i =
    first_at Q m (command.Back lines) (prints_at m) (marked (λ o. o.mark - lines)) s (λ n i o. refl)
    (λ x first. record { text = refl; copies = refl; mark = inr (found_passes (prints_at m) Q.outputs x first, omega arith); busy = inl refl }) n i
effect_marks Q m s (command.Forward lines) r n i =
    first_at Q m (command.Forward lines) (prints_at m) (marked (λ o. min (o.mark + lines) (total o))) s (λ n i o. refl)
    (λ x first. record { text = refl; copies = refl; mark = inr (found_passes (prints_at m) Q.outputs x first, tt); busy = inl refl }) n i
effect_marks Q m s (command.Reset of_member) r n i = at_map m (command.Reset of_member) (λ o. if same_member o.busy of_member then reset_output o else o) Q.outputs (reset_key (λ h. same_member h of_member)) (reset_follows m (command.Reset of_member) (λ h. same_member h of_member)) n i
effect_marks Q m s command.Restart r n i = at_map m command.Restart (λ o. if is_member Q.config o.busy then reset_output o else o) Q.outputs (reset_key (is_member Q.config)) (reset_follows m command.Restart (is_member Q.config)) n i
effect_marks Q m s (command.Load line) r n i = same_at m _ (find (has_key n i) Q.outputs)
effect_marks Q m s (command.Sent line number) r n i = same_at m _ (find (has_key n i) Q.outputs)
effect_marks Q m s (command.Got line number job text) r n i = same_at m _ (find (has_key n i) Q.outputs)

pub marks_follow : MarksFollow
marks_follow Q m c sound n i = done_keeps Q (row_of Q m c) (λ R. FollowsAt m c (find (has_key n i) Q.outputs) (find (has_key n i) R.outputs)) (same_at m c (find (has_key n i) Q.outputs)) (λ none. effect_marks Q m sound c none n i)

-- a Mark that isn't refused, by the output that it finds
mark_at : (Q : Queue) (m : MemberId) (n : JobNo) (i : OutNo) (at : ℕ) (found : Option Output) → output_at Q n i ≡ found → none_such refusal.NoOutput found ≡ None
    → (o : Output) × (find (has_key n i) (mark_row Q m n i at).effect.outputs ≡ Some o) × (o.mark ≤ at) × ((mark_row Q m n i at).answer ≡ reply.Count o.mark)
mark_at Q m n i at None e none = absurd (cc)
mark_at Q m n i at (Some x) e none =
    let f : Output → Output = marked (λ o. min at (total o)) in
    let there = find-change_same (has_key n i) (has_key n i) f Q.outputs (λ o. refl) (λ o. refl) ∙ ap (option_map f) e in
    (f x, there, omega arith, rw e refl)

pub mark_is_at_most : MarkIsAtMost
mark_is_at_most Q m n i at taken =
    let row = mark_row Q m n i at in
    let none = not_refused Q (mark_row Q m n i at) taken in
    let done_is = done-effect Q (mark_row Q m n i at) none in
    let marks = mark_at Q m n i at (output_at Q n i) refl (none_first _ _ none).0 in
    (marks.0, rw done_is marks.1, marks.2, rw done_is marks.3)
