-- A command that brings no text leaves the texts with their groups.
use Rattle.std.proofs.Common.{◌≡◌, ◌⊎◌, inl, inr, ⊎_elim, ℕ, ◌+◌, ◌==◌, ◌<◌, nat_le, nat_lt, min, ◌-◌, not, ◌&&◌, ◌||◌, if◌then◌else◌, Bool, true, false, List, [], ◌∷◌, length, Option, Some, None, All, Contains, refl, sym, subst, arith}
use Rattle.std.proofs.lemmas.Bool.{not-true as not_of}
use Rattle.std.specs.List.{list_any, find, filter}
use Rattle.std.proofs.lemmas.Bool.Decides.{nat_tests}
use Rattle.std.proofs.lemmas.List.Elements.{All-head, All-tail, All-weaker, All-push, All-map, All-filter, All-contains, All-contains_itself, filter_passes}
use Rattle.mas_types.specs.declared.ids.GroupNo.{GroupNo}
use Rattle.mas_types.specs.declared.ids.JobNo.{JobNo}
use Rattle.mas_types.specs.declared.ids.MemberId.{MemberId}
use Rattle.mas_types.specs.declared.ids.OutNo.{OutNo}
use Rattle.mas_types.specs.declared.jobs.JobFields.{JobFields}
use Rattle.mas_types.specs.declared.jobs.Job.{Job}
use Rattle.mas_types.specs.declared.jobs.Output.{Output as QueueOutput}
use Rattle.mas_types.specs.declared.jobs.Phase.TheVariants as phase
use Rattle.mas_types.specs.declared.jobs.Text.{Text}
use Rattle.mas_types.specs.declared.jobs.Text.TheVariants.{Whole}
use Rattle.mas_types.specs.declared.commands.Command.{Command}
use Rattle.mas_types.specs.declared.commands.Command.TheVariants as command
use Rattle.mas_types.specs.declared.commands.Refusal.TheVariants as refusal
use Rattle.mas_types.specs.declared.queues.Owner.{Owner}
use Rattle.mas_types.specs.declared.queues.Owner.TheVariants as owner
use Rattle.mas_types.specs.declared.queues.Queue.{Queue}
use Rattle.mas_types.specs.declared.queues.Thing.{Thing}
use Rattle.mas_types.specs.declared.queues.Thing.TheVariants.{Deck, Output}
use Rattle.mas_types.specs.Ids.{same_number, same_index, same_member, is_somebody}
use Rattle.mas_types.specs.Lists.{change_first, without_first, without, first_some}
use Rattle.mas_types.specs.Number.{next_number, is_number_used}
use Rattle.mas_types.specs.Owners.{is_free, freed, taken, is_members, is_held_by, is_deck_of, is_output_of, is_of_any}
use Rattle.mas_types.specs.Queue.{has_number, has_key, has_output, is_of, is_in, is_member, prints_at, number_of, first_in, is_current_on, job_at, in_output, in_purge, in_hardcopy, total}
use Rattle.mas_types.specs.Reset.{reset, reset_job, reset_output}
use Rattle.mas_types.specs.Row.{none_such, refused_where}
use Rattle.mas_types.specs.Selection.{is_for_convert, is_for_execute, is_for_printer}
use Rattle.mas_types.specs.Sound.{is_owner_there}
use Rattle.mas_types.specs.Step.{row_of}
use Rattle.mas_types.specs.Commands.Input.{begin_row, new_job, drop_row}
use Rattle.mas_types.specs.Commands.Life.{made_busy, converted, gathered}
use Rattle.mas_types.specs.Commands.Operator.{with_held, with_prio, with_class, cancelled, cancel_row, is_busy, is_held_of, released, without_outputs_of}
use Rattle.mas_types.specs.Commands.Printing.{picked_by, marked, outputs_over, output_removed, output_gone}
use Rattle.track_groups.specs.Groups.{is_things}
use Rattle.track_groups.specs.Places.{placed_from, groups_of}
use Rattle.queue_laws.proofs.Done.{done_keeps, none_first, where_not}
use Rattle.queue_laws.proofs.Finds.{test_cases}
use Rattle.queue_laws.proofs.NewNumber.{next_number_free}
use Rattle.queue_laws.proofs.Others.{All-both, second_none, without-by_number}
use Rattle.queue_laws.proofs.Soundness.{All-change}
use Rattle.queue_laws.proofs.SoundGone.{no_deck_of}
use Rattle.queue_laws.proofs.SoundRemove.{All-without_first, other_keys_left, others_left}
use Rattle.queue_texts.specs.Leaving.{HoldsOfTexts, IsBlank, WasDeck, WasOutput, WasThere, LeavesTexts, AreTheirOwn, brings_text, OthersLeaveTexts}

-- GROUPS

-- a group that is free or a member's is no text's
free_no_things : (t : Thing) → is_things t owner.Free ≡ false
free_no_things (Deck n) = refl
free_no_things (Output n i) = refl

member_no_things : (t : Thing) (m : MemberId) → is_things t (owner.Member m) ≡ false
member_no_things (Deck n) m = refl
member_no_things (Output n i) m = refl

-- what is freed is no group of this thing
abbrev Spares : (Owner → Bool) → Thing → Type 0
Spares test t = (g : Owner) → test g ≡ true → is_things t g ≡ false

placed-freed : (test : Owner → Bool) (t : Thing) → Spares test t → (at : ℕ) (gs : List Owner) → placed_from t at (freed test gs) ≡ placed_from t at gs
placed-freed test t spares at [] = refl
placed-freed test t spares at (g ∷ gs) =
    test_cases (test g) (placed_from t at (freed test (g ∷ gs)) ≡ placed_from t at (g ∷ gs))
    (λ e. rw (e, free_no_things t, spares g e) (placed-freed test t spares (at + 1) gs))
    (λ e. rw (e, placed-freed test t spares (at + 1) gs) refl)

groups-freed : (test : Owner → Bool) (t : Thing) (gs : List Owner) → Spares test t → groups_of t (freed test gs) ≡ groups_of t gs
groups-freed test t gs spares = rw (placed-freed test t spares 0 gs) refl

was_free : (a b : Bool) → (a && b) ≡ true → a ≡ true
was_free true b e = refl
was_free false b e = absurd (cc)

free_owner : (t : Thing) (g : Owner) → is_free g ≡ true → is_things t g ≡ false
free_owner t owner.Free e = free_no_things t
free_owner t (owner.Member m) e = absurd (cc)
free_owner t (owner.Deck n p) e = absurd (cc)
free_owner t (owner.Output n i p) e = absurd (cc)

placed-taken : (m : MemberId) (t : Thing) (want at : ℕ) (gs : List Owner) → placed_from t at (taken m want gs) ≡ placed_from t at gs
placed-taken m t want at [] = refl
placed-taken m t want at (g ∷ gs) =
    test_cases (is_free g && nat_lt 0 want) (placed_from t at (taken m want (g ∷ gs)) ≡ placed_from t at (g ∷ gs))
    (λ e. rw (e, member_no_things t m, free_owner t g (was_free (is_free g) (nat_lt 0 want) e)) (placed-taken m t (want - 1) (at + 1) gs))
    (λ e. rw (e, placed-taken m t want (at + 1) gs) refl)

groups-taken : (m : MemberId) (t : Thing) (want : ℕ) (gs : List Owner) → groups_of t (taken m want gs) ≡ groups_of t gs
groups-taken m t want gs = rw (placed-taken m t want 0 gs) refl

placed-none : (t : Thing) (at : ℕ) (gs : List Owner) → All (λ g. is_things t g ≡ false) gs → placed_from t at gs ≡ []
placed-none t at [] none = refl
placed-none t at (g ∷ gs) none =
    rw (All-head (λ (h : Owner). is_things t h ≡ false) g gs none) (placed-none t (at + 1) gs (All-tail (λ (h : Owner). is_things t h ≡ false) g gs none))

groups-none : (t : Thing) (gs : List Owner) → All (λ g. is_things t g ≡ false) gs → groups_of t gs ≡ []
groups-none t gs none = rw (placed-none t 0 gs none) refl

-- WHAT A TEST SPARES

held_spares : (picks : MemberId → Bool) (t : Thing) → Spares (is_held_by picks) t
held_spares picks t owner.Free e = free_no_things t
held_spares picks t (owner.Member m) e = member_no_things t m
held_spares picks t (owner.Deck n p) e = absurd (cc)
held_spares picks t (owner.Output n i p) e = absurd (cc)

-- the groups of a deck are no other's
deck_spares_deck : (n k : JobNo) → same_number k n ≡ false → Spares (is_deck_of n) (Deck k)
deck_spares_deck n k apart owner.Free e = refl
deck_spares_deck n k apart (owner.Member m) e = refl
deck_spares_deck n k apart (owner.Deck l p) e = other l e where
  other : (l : JobNo) → same_number l n ≡ true → same_number l k ≡ false
  other l e = grind (arith, nat_tests)
deck_spares_deck n k apart (owner.Output l i p) e = refl

deck_spares_output : (n k : JobNo) (i : OutNo) → Spares (is_deck_of n) (Output k i)
deck_spares_output n k i owner.Free e = refl
deck_spares_output n k i (owner.Member m) e = refl
deck_spares_output n k i (owner.Deck l p) e = refl
deck_spares_output n k i (owner.Output l j p) e = absurd (cc)

output_spares_deck : (n k : JobNo) (i : OutNo) → Spares (is_output_of n i) (Deck k)
output_spares_deck n k i owner.Free e = refl
output_spares_deck n k i (owner.Member m) e = refl
output_spares_deck n k i (owner.Deck l p) e = absurd (cc)
output_spares_deck n k i (owner.Output l j p) e = refl

output_spares_output : (n k : JobNo) (i l : OutNo) → (same_number k n && same_index l i) ≡ false → Spares (is_output_of n i) (Output k l)
output_spares_output n k i l apart owner.Free e = refl
output_spares_output n k i l apart (owner.Member m) e = refl
output_spares_output n k i l apart (owner.Deck h p) e = refl
output_spares_output n k i l apart (owner.Output h j p) e = other h j e where
  other : (h : JobNo) (j : OutNo) → (same_number h n && same_index j i) ≡ true → (same_number h k && same_index j l) ≡ false
  other h j e = grind (arith, nat_tests)

any_spares_deck : (os : List QueueOutput) (k : JobNo) → Spares (is_of_any os) (Deck k)
any_spares_deck os k owner.Free e = refl
any_spares_deck os k (owner.Member m) e = refl
any_spares_deck os k (owner.Deck l p) e = absurd (cc)
any_spares_deck os k (owner.Output l j p) e = refl

-- groups of one job's outputs are none of another job's outputs
any_spares_output : (n k : JobNo) (l : OutNo) (os : List QueueOutput) → same_number k n ≡ false → Spares (is_of_any (filter (is_of n) os)) (Output k l)
any_spares_output n k l os apart owner.Free e = refl
any_spares_output n k l os apart (owner.Member m) e = refl
any_spares_output n k l os apart (owner.Deck h p) e = refl
any_spares_output n k l os apart (owner.Output h j p) e = go os e where
  here : (o : QueueOutput) → is_of n o ≡ true → has_key h j o ≡ true → (same_number h k && same_index j l) ≡ false
  here o of has = grind (arith, nat_tests)

  either : (o : QueueOutput) (rest : Bool) → is_of n o ≡ true → (rest ≡ true → (same_number h k && same_index j l) ≡ false) → (has_key h j o || rest) ≡ true → (same_number h k && same_index j l) ≡ false
  either o rest of more e = test_cases (has_key h j o) ((same_number h k && same_index j l) ≡ false) (λ d. here o of d) (λ d. more (rw d at e))

  go : (xs : List QueueOutput) → list_any (has_key h j) (filter (is_of n) xs) ≡ true → (same_number h k && same_index j l) ≡ false
  go [] e = absurd (cc)
  go (o ∷ xs) e = test_cases (is_of n o) ((same_number h k && same_index j l) ≡ false)
      (λ d. either o (list_any (has_key h j) (filter (is_of n) xs)) d (λ more. go xs more) (rw d at e))
      (λ d. go xs (rw d at e))

-- THE NUMBER OF A NEW JOB

unused : (n : JobNo) (js : List Job) → is_number_used js n.0 ≡ false → find (has_number n) js ≡ None
unused n [] e = refl
unused n (j ∷ js) e = test_cases (has_number n j) (find (has_number n) (j ∷ js) ≡ None)
    (λ d. absurd (used d e))
    (λ d. rw d (unused n js (rest (j.number.0 == n.0) (is_number_used js n.0) e)))
  where
    used : has_number n j ≡ true → (((j.number.0 == n.0) || is_number_used js n.0) ≡ false) → ⊥
    used d e = cc (first (j.number.0 == n.0) (is_number_used js n.0) e, same d) where
      first : (a b : Bool) → (a || b) ≡ false → a ≡ false
      first true b e = absurd (cc)
      first false b e = refl

      same : has_number n j ≡ true → (j.number.0 == n.0) ≡ true
      same d = grind (arith, nat_tests)

    rest : (a b : Bool) → (a || b) ≡ false → b ≡ false
    rest true b e = absurd (cc)
    rest false b e = e

-- QUEUES

module _ (P : Thing → Text → List GroupNo → Type 0) where
  abbrev J : List Owner → Job → Type 0
  J gs j = P (Deck j.number) j.text (groups_of (Deck j.number) gs)

  abbrev O : List Owner → QueueOutput → Type 0
  O gs o = P (Output o.job o.index) o.text (groups_of (Output o.job o.index) gs)

  -- what holds of each text with its groups holds with other owners that give each text the same groups
  jobs_of : (gs hs : List Owner) (js : List Job) → All (λ j. groups_of (Deck j.number) hs ≡ groups_of (Deck j.number) gs) js → All (J gs) js → All (J hs) js
  jobs_of gs hs js same all = All-both (λ j. groups_of (Deck j.number) hs ≡ groups_of (Deck j.number) gs) (J gs) (J hs) js (λ j e is. subst (P (Deck j.number) j.text) (sym e) is) same all

  outputs_of : (gs hs : List Owner) (os : List QueueOutput) → All (λ o. groups_of (Output o.job o.index) hs ≡ groups_of (Output o.job o.index) gs) os → All (O gs) os → All (O hs) os
  outputs_of gs hs os same all =
      All-both (λ o. groups_of (Output o.job o.index) hs ≡ groups_of (Output o.job o.index) gs) (O gs) (O hs) os (λ o e is. subst (P (Output o.job o.index) o.text) (sym e) is) same all

  jobs_all : (gs hs : List Owner) (js : List Job) → ((t : Thing) → groups_of t hs ≡ groups_of t gs) → All (J gs) js → All (J hs) js
  jobs_all gs hs js same all = All-weaker (J gs) (J hs) (λ j is. subst (P (Deck j.number) j.text) (sym (same (Deck j.number))) is) js all

  outputs_all : (gs hs : List Owner) (os : List QueueOutput) → ((t : Thing) → groups_of t hs ≡ groups_of t gs) → All (O gs) os → All (O hs) os
  outputs_all gs hs os same all = All-weaker (O gs) (O hs) (λ o is. subst (P (Output o.job o.index) o.text) (sym (same (Output o.job o.index))) is) os all

  -- owners change, and no text's groups do
  owners_changed : (Q : Queue) (hs : List Owner) → ((t : Thing) → groups_of t hs ≡ groups_of t Q.owners) → HoldsOfTexts P Q → HoldsOfTexts P (record Q { owners = hs })
  owners_changed Q hs same h = record { decks = jobs_all Q.owners hs Q.jobs same h.decks; outputs = outputs_all Q.owners hs Q.outputs same h.outputs }

  jobs_changed : (test : Job → Bool) (f : Job → Job) (Q : Queue) → ((j : Job) → J Q.owners j → J Q.owners (f j)) → HoldsOfTexts P Q → HoldsOfTexts P (record Q { jobs = change_first test f Q.jobs })
  jobs_changed test f Q keeps h = record { decks = All-change test f (J Q.owners) Q.jobs h.decks (λ j found is. keeps j is); outputs = h.outputs }

  outputs_changed : (test : QueueOutput → Bool) (f : QueueOutput → QueueOutput) (Q : Queue) → ((o : QueueOutput) → O Q.owners o → O Q.owners (f o)) → HoldsOfTexts P Q → HoldsOfTexts P (record Q { outputs = change_first test f Q.outputs })
  outputs_changed test f Q keeps h = record { decks = h.decks; outputs = All-change test f (O Q.owners) Q.outputs h.outputs (λ o found is. keeps o is) }

  -- jobs that are changed where a test says so
  over_left : (gs : List Owner) (R : Queue) (j : Job) → J gs j → J gs (outputs_over R j)
  over_left gs R j is = test_cases (in_hardcopy j.phase && not (has_output j.number R)) (J gs (outputs_over R j)) (λ e. rw e is) (λ e. rw e is)

  cancelled_left : (gs : List Owner) (j : Job) → J gs j → J gs (cancelled j)
  cancelled_left gs j is = test_cases (is_somebody j.busy) (J gs (cancelled j)) (λ e. rw e is) (λ e. rw e is)

  reset_left : (gs : List Owner) (picks : MemberId → Bool) (j : Job) → J gs j → J gs (if picks j.busy then reset_job j else j)
  reset_left gs picks j is = test_cases (picks j.busy) (J gs (if picks j.busy then reset_job j else j)) (λ e. rw e is) (λ e. rw e is)

  reset_output_left : (gs : List Owner) (picks : MemberId → Bool) (o : QueueOutput) → O gs o → O gs (if picks o.busy then reset_output o else o)
  reset_output_left gs picks o is = test_cases (picks o.busy) (O gs (if picks o.busy then reset_output o else o)) (λ e. rw e is) (λ e. rw e is)

  released_left : (gs : List Owner) (test : QueueOutput → Bool) (o : QueueOutput) → O gs o → O gs (if test o then released o else o)
  released_left gs test o is = test_cases (test o) (O gs (if test o then released o else o)) (λ e. rw e is) (λ e. rw e is)

  -- BEGIN

  begin_left : ((t : Thing) → P t (Whole []) []) → (Q : Queue) (m : MemberId) (fields : JobFields) → AreTheirOwn Q → first_some (begin_row Q m fields).refusals ≡ None → HoldsOfTexts P Q → HoldsOfTexts P (begin_row Q m fields).effect
  begin_left blank Q m fields sound none h = record {
    decks = All-push (J Q.owners) Q.jobs (new_job m n fields) h.decks (subst (P (Deck n) (Whole [])) (sym groups) (blank (Deck n)));
    outputs = h.outputs;
  } where
    n : JobNo
    n = next_number Q.jobs Q.last

    below : (a b : ℕ) → nat_le a b ≡ false → b < a
    below a b e = grind (arith, nat_tests)

    less : length Q.jobs < Q.config.jobs
    less = below Q.config.jobs (length Q.jobs) (where_not (nat_le Q.config.jobs (length Q.jobs)) refusal.JobsFull (room none))
      where
        room : first_some (begin_row Q m fields).refusals ≡ None → refused_where (nat_le Q.config.jobs (length Q.jobs)) refusal.JobsFull ≡ None
        room e = second_none _ (refused_where (nat_le Q.config.jobs (length Q.jobs)) refusal.JobsFull) [] e

    new : job_at Q n ≡ None
    new = unused n Q.jobs (next_number_free Q.jobs Q.last (omega (arith, less, sound.config.jobs.1)))

    groups : groups_of (Deck n) Q.owners ≡ []
    groups = groups-none (Deck n) Q.owners
        (All-weaker (λ g. is_owner_there Q.config Q.jobs Q.outputs g ≡ true) (λ g. is_deck_of n g ≡ false) (λ g there. no_deck_of Q n (λ j found. absurd (cc (found, new))) g there) Q.owners sound.owners)

  -- WHAT GOES

  drop_left : (Q : Queue) (m : MemberId) (n : JobNo) → HoldsOfTexts P Q → HoldsOfTexts P (drop_row Q m n).effect
  drop_left Q m n h =
      let same = λ (t : Thing). groups-freed (is_members m) t Q.owners (held_spares (λ k. same_member k m) t) in
      test_cases (n.0 == 0) (HoldsOfTexts P (drop_row Q m n).effect)
      (λ e. rw e (owners_changed Q (freed (is_members m) Q.owners) same h))
      (λ e. rw e (record {
        decks = jobs_all Q.owners (freed (is_members m) Q.owners) (without_first (has_number n) Q.jobs) same (All-without_first (has_number n) (J Q.owners) Q.jobs h.decks);
        outputs = outputs_all Q.owners (freed (is_members m) Q.owners) Q.outputs same h.outputs;
      }))

  purge_by : (Q : Queue) (o : Option Job) → AreTheirOwn Q → find (is_in in_purge) Q.jobs ≡ o → none_such refusal.Nothing o ≡ None → HoldsOfTexts P Q
      → HoldsOfTexts P (record Q { jobs = without_first (is_in in_purge) Q.jobs; owners = freed (is_deck_of (number_of o)) Q.owners })
  purge_by Q None sound first none h = absurd (cc)
  purge_by Q (Some x) sound first none h =
      let hs = freed (is_deck_of x.number) Q.owners in
      let js = without_first (has_number x.number) Q.jobs in
      let others : All (λ j. has_number x.number j ≡ false) js = others_left x.number Q.jobs sound.numbers in
      rw (without-by_number Q.jobs (is_in in_purge) x sound.numbers first) (record {
        decks = jobs_of Q.owners hs js
            (All-weaker (λ j. has_number x.number j ≡ false) (λ j. groups_of (Deck j.number) hs ≡ groups_of (Deck j.number) Q.owners) (λ j apart. groups-freed (is_deck_of x.number) (Deck j.number) Q.owners (deck_spares_deck x.number j.number apart)) js others)
            (All-without_first (has_number x.number) (J Q.owners) Q.jobs h.decks);
        outputs = All-weaker (O Q.owners) (O hs) (λ o is. subst (P (Output o.job o.index) o.text) (sym (groups-freed (is_deck_of x.number) (Output o.job o.index) Q.owners (deck_spares_output x.number o.job o.index))) is) Q.outputs h.outputs;
      })

  removed_left : (Q : Queue) (n : JobNo) (i : OutNo) → AreTheirOwn Q → HoldsOfTexts P Q → HoldsOfTexts P (output_removed n i Q)
  removed_left Q n i sound h =
      let hs = freed (is_output_of n i) Q.owners in
      let os = without_first (has_key n i) Q.outputs in
      record {
        decks = All-weaker (J Q.owners) (J hs) (λ j is. subst (P (Deck j.number) j.text) (sym (groups-freed (is_output_of n i) (Deck j.number) Q.owners (output_spares_deck n j.number i))) is) Q.jobs h.decks;
        outputs = outputs_of Q.owners hs os
            (All-weaker (λ o. has_key n i o ≡ false) (λ o. groups_of (Output o.job o.index) hs ≡ groups_of (Output o.job o.index) Q.owners)
            (λ o apart. groups-freed (is_output_of n i) (Output o.job o.index) Q.owners (output_spares_output n o.job i o.index apart)) os (other_keys_left n i Q.outputs sound.keys))
            (All-without_first (has_key n i) (O Q.owners) Q.outputs h.outputs);
      }

  gone_left : (Q : Queue) (n : JobNo) (i : OutNo) → AreTheirOwn Q → HoldsOfTexts P Q → HoldsOfTexts P (output_gone n i Q)
  gone_left Q n i sound h =
      let R : Queue = output_removed n i Q in
      jobs_changed (has_number n) (outputs_over R) R (over_left R.owners R) (removed_left Q n i sound h)

  lost_left : (Q : Queue) (n : JobNo) → HoldsOfTexts P Q → HoldsOfTexts P (without_outputs_of n Q)
  lost_left Q n h =
      let hs = freed (is_of_any (filter (is_of n) Q.outputs)) Q.owners in
      let os = without (is_of n) Q.outputs in
      record {
        decks = All-weaker (J Q.owners) (J hs) (λ j is. subst (P (Deck j.number) j.text) (sym (groups-freed (is_of_any (filter (is_of n) Q.outputs)) (Deck j.number) Q.owners (any_spares_deck (filter (is_of n) Q.outputs) j.number))) is) Q.jobs h.decks;
        outputs = outputs_of Q.owners hs os
            (All-weaker (λ o. not (is_of n o) ≡ true) (λ o. groups_of (Output o.job o.index) hs ≡ groups_of (Output o.job o.index) Q.owners)
            (λ o apart. groups-freed (is_of_any (filter (is_of n) Q.outputs)) (Output o.job o.index) Q.owners (any_spares_output n o.job o.index Q.outputs (not_of (is_of n o) apart))) os (filter_passes (λ o. not (is_of n o)) Q.outputs))
            (All-filter (λ o. not (is_of n o)) (O Q.owners) Q.outputs h.outputs);
      }

  cancel_left : (Q : Queue) (m : MemberId) (n : JobNo) → HoldsOfTexts P Q → HoldsOfTexts P (cancel_row Q m n).effect
  cancel_left Q m n h = test_cases (is_busy (job_at Q n)) (HoldsOfTexts P (cancel_row Q m n).effect)
      (λ e. rw e (jobs_changed (has_number n) cancelled Q (cancelled_left Q.owners) h))
      (λ e. rw e (jobs_changed (has_number n) cancelled (without_outputs_of n Q) (cancelled_left (without_outputs_of n Q).owners) (lost_left Q n h)))

  reset_all : (picks : MemberId → Bool) (Q : Queue) → HoldsOfTexts P Q → HoldsOfTexts P (reset picks Q)
  reset_all picks Q h =
      let hs = freed (is_held_by picks) Q.owners in
      let same = λ (t : Thing). groups-freed (is_held_by picks) t Q.owners (held_spares picks t) in
      record {
        decks = All-map (J hs) (λ j. if picks j.busy then reset_job j else j) Q.jobs (All-weaker (J hs) (λ j. J hs (if picks j.busy then reset_job j else j)) (reset_left hs picks) Q.jobs (jobs_all Q.owners hs Q.jobs same h.decks));
        outputs = All-map (O hs) (λ o. if picks o.busy then reset_output o else o) Q.outputs (All-weaker (O hs) (λ o. O hs (if picks o.busy then reset_output o else o)) (reset_output_left hs picks) Q.outputs (outputs_all Q.owners hs Q.outputs same h.outputs));
      }

  -- where jobs, outputs and owners stay, texts stay in their groups
  same_left : (Q R : Queue) → R.jobs ≡ Q.jobs → R.outputs ≡ Q.outputs → R.owners ≡ Q.owners → HoldsOfTexts P Q → HoldsOfTexts P R
  same_left Q R jobs outputs owners h = record {
    decks = subst (λ (gs : List Owner). All (J gs) R.jobs) (sym owners) (subst (All (J Q.owners)) (sym jobs) h.decks);
    outputs = subst (λ (gs : List Owner). All (O gs) R.outputs) (sym owners) (subst (All (O Q.owners)) (sym outputs) h.outputs);
  }

  -- EACH COMMAND

  effect_left : ((t : Thing) → P t (Whole []) []) → (Q : Queue) (m : MemberId) (c : Command) → brings_text c ≡ false → AreTheirOwn Q → first_some (row_of Q m c).refusals ≡ None → HoldsOfTexts P Q → HoldsOfTexts P (row_of Q m c).effect
  effect_left blank Q m (command.Begin fields) brings sound none h = begin_left blank Q m fields sound none h
  effect_left blank Q m (command.Take want) brings sound none h = owners_changed Q (taken m want Q.owners) (λ t. groups-taken m t want Q.owners) h
  effect_left blank Q m (command.Drop job) brings sound none h = drop_left Q m job h
  effect_left blank Q m (command.Enter job text) brings sound none h = absurd (cc)
  effect_left blank Q m command.TakeConvert brings sound none h = jobs_changed (is_for_convert Q) (made_busy m) Q (λ j is. is) h
  effect_left blank Q m (command.Converted job) brings sound none h = jobs_changed (has_number job) converted Q (λ j is. is) h
  effect_left blank Q m command.TakeExec brings sound none h = jobs_changed (is_for_execute Q m) (made_busy m) Q (λ j is. is) h
  effect_left blank Q m (command.Ended job specs) brings sound none h = absurd (cc)
  effect_left blank Q m command.Gather brings sound none h = jobs_changed (is_in in_output) (gathered Q) Q (λ j is. is) h
  effect_left blank Q m command.Pick brings sound none h = outputs_changed (is_for_printer Q m) (picked_by m) Q (λ o is. is) h
  effect_left blank Q m (command.Mark job index at) brings sound none h = outputs_changed (has_key job index) (marked (λ o. min at (total o))) Q (λ o is. is) h
  effect_left blank Q m (command.Done job index) brings sound none h = gone_left Q job index sound h
  effect_left blank Q m command.Purge brings sound none h = purge_by Q (find (is_in in_purge) Q.jobs) sound refl (none_first (none_such refusal.Nothing (first_in in_purge Q)) [] none).0 h
  effect_left blank Q m (command.Hold job) brings sound none h = jobs_changed (has_number job) (with_held true) Q (λ j is. is) h
  effect_left blank Q m (command.Release job) brings sound none h = jobs_changed (has_number job) (with_held false) Q (λ j is. is) h
  effect_left blank Q m (command.Cancel job) brings sound none h = cancel_left Q m job h
  effect_left blank Q m (command.SetPrio job prio) brings sound none h = jobs_changed (has_number job) (with_prio prio) Q (λ j is. is) h
  effect_left blank Q m (command.SetClass job class) brings sound none h = jobs_changed (has_number job) (with_class class) Q (λ j is. is) h
  effect_left blank Q m (command.Out job) brings sound none h = record {
    decks = h.decks;
    outputs = All-map (O Q.owners) (λ o. if is_held_of job o then released o else o) Q.outputs (All-weaker (O Q.owners) (λ o. O Q.owners (if is_held_of job o then released o else o)) (released_left Q.owners (is_held_of job)) Q.outputs h.outputs);
  }
  effect_left blank Q m (command.CancelOut job index) brings sound none h = gone_left Q job index sound h
  effect_left blank Q m (command.SetOut job index class) brings sound none h = outputs_changed (has_key job index) (λ o. record o { class = class }) Q (λ o is. is) h
  effect_left blank Q m (command.Show what) brings sound none h = h
  effect_left blank Q m (command.SetInit classes) brings sound none h = record { decks = h.decks; outputs = h.outputs }
  effect_left blank Q m (command.SetPrt classes forms lines) brings sound none h = record { decks = h.decks; outputs = h.outputs }
  effect_left blank Q m (command.Back lines) brings sound none h = outputs_changed (prints_at m) (marked (λ o. o.mark - lines)) Q (λ o is. is) h
  effect_left blank Q m (command.Forward lines) brings sound none h = outputs_changed (prints_at m) (marked (λ o. min (o.mark + lines) (total o))) Q (λ o is. is) h
  effect_left blank Q m (command.Reset of_member) brings sound none h = reset_all (λ h. same_member h of_member) Q h
  effect_left blank Q m command.Restart brings sound none h = reset_all (is_member Q.config) Q h
  effect_left blank Q m (command.Load line) brings sound none h = record { decks = h.decks; outputs = h.outputs }
  effect_left blank Q m (command.Sent line number) brings sound none h =
      let R = jobs_changed (is_current_on Q line) (λ j. record j { phase = phase.Purge }) Q (λ j is. is) h in
      record { decks = R.decks; outputs = R.outputs }
  effect_left blank Q m (command.Got line number job text) brings sound none h = absurd (cc)

-- TEXTS THAT WERE THERE

-- each text of a queue is one of its own
own_texts : (Q : Queue) → LeavesTexts Q Q
own_texts Q = record {
  decks = All-weaker (Contains Q.jobs) (λ j. IsBlank j.text (groups_of (Deck j.number) Q.owners) ⊎ WasDeck Q j.number j.text (groups_of (Deck j.number) Q.owners))
      (λ j there. inr (record { job = j; there = there; number = refl; same = refl; where_it_was = refl })) Q.jobs (All-contains_itself Q.jobs);
  outputs = All-weaker (Contains Q.outputs) (λ o. IsBlank o.text (groups_of (Output o.job o.index) Q.owners) ⊎ WasOutput Q o.job o.index o.text (groups_of (Output o.job o.index) Q.owners))
      (λ o there. inr (record { output = o; there = there; number = refl; index_is = refl; same = refl; where_it_was = refl })) Q.outputs (All-contains_itself Q.outputs);
}

-- what holds of each text, and of a text of no line without groups, holds of the texts that are left
pub left_holds : (P : Thing → Text → List GroupNo → Type 0) (Q R : Queue) → ((t : Thing) → P t (Whole []) []) → LeavesTexts Q R → HoldsOfTexts P Q → HoldsOfTexts P R
left_holds P Q R blank left h = record {
  decks = All-weaker (λ j. IsBlank j.text (groups_of (Deck j.number) R.owners) ⊎ WasDeck Q j.number j.text (groups_of (Deck j.number) R.owners)) (λ j. P (Deck j.number) j.text (groups_of (Deck j.number) R.owners))
      (λ j is. ⊎_elim (λ b. from_blank (Deck j.number) j.text (groups_of (Deck j.number) R.owners) b) (λ w. from_deck j.number j.text (groups_of (Deck j.number) R.owners) w) is) R.jobs left.decks;
  outputs = All-weaker (λ o. IsBlank o.text (groups_of (Output o.job o.index) R.owners) ⊎ WasOutput Q o.job o.index o.text (groups_of (Output o.job o.index) R.owners)) (λ o. P (Output o.job o.index) o.text (groups_of (Output o.job o.index) R.owners))
      (λ o is. ⊎_elim (λ b. from_blank (Output o.job o.index) o.text (groups_of (Output o.job o.index) R.owners) b) (λ w. from_output o.job o.index o.text (groups_of (Output o.job o.index) R.owners) w) is) R.outputs left.outputs;
} where
  from_blank : (t : Thing) (text : Text) (groups : List GroupNo) → IsBlank text groups → P t text groups
  from_blank t text groups b = subst (P t text) (sym b.nowhere) (subst (λ (w : Text). P t w []) (sym b.none) (blank t))

  from_deck : (n : JobNo) (text : Text) (groups : List GroupNo) → WasDeck Q n text groups → P (Deck n) text groups
  from_deck n text groups w =
      let was : P (Deck w.job.number) w.job.text (groups_of (Deck w.job.number) Q.owners) = All-contains (λ j. P (Deck j.number) j.text (groups_of (Deck j.number) Q.owners)) Q.jobs w.job h.decks w.there in
      subst (P (Deck n) text) w.where_it_was (subst (λ (k : JobNo). P (Deck k) text (groups_of (Deck k) Q.owners)) w.number (subst (λ (x : Text). P (Deck w.job.number) x (groups_of (Deck w.job.number) Q.owners)) w.same was))

  from_output : (n : JobNo) (i : OutNo) (text : Text) (groups : List GroupNo) → WasOutput Q n i text groups → P (Output n i) text groups
  from_output n i text groups w =
      let was : P (Output w.output.job w.output.index) w.output.text (groups_of (Output w.output.job w.output.index) Q.owners) = All-contains (λ o. P (Output o.job o.index) o.text (groups_of (Output o.job o.index) Q.owners)) Q.outputs w.output h.outputs w.there in
      subst (P (Output n i) text) w.where_it_was
      (subst (λ (l : OutNo). P (Output n l) text (groups_of (Output n l) Q.owners)) w.index_is
      (subst (λ (k : JobNo). P (Output k w.output.index) text (groups_of (Output k w.output.index) Q.owners)) w.number
      (subst (λ (x : Text). P (Output w.output.job w.output.index) x (groups_of (Output w.output.job w.output.index) Q.owners)) w.same was)))

pub others_leave : OthersLeaveTexts
others_leave Q m c brings sound =
    let P = λ (t : Thing) (text : Text) (groups : List GroupNo). IsBlank text groups ⊎ WasThere Q t text groups in
    done_keeps Q (row_of Q m c) (HoldsOfTexts P) (own_texts Q) (λ none. effect_left P (λ t. inl (record { none = refl; nowhere = refl })) Q m c brings sound none (own_texts Q))
