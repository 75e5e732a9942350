-- A group becomes a member's, a deck's or an output's only by the member that gives the command.
use Rattle.std.proofs.Common.{◌≡◌, ℕ, zero, suc, ◌+◌, ◌-◌, ◌⊎◌, inl, inr, Some, Bool, true, false, ◌&&◌, nat_lt, ◌==◌, List, [], ◌∷◌, refl, ap, sym, ◌∙◌, subst, arith}
use Rattle.std.specs.Prelude.{unwrap_or}
use Rattle.std.specs.List.{All, AllZip, slice_get}
use Rattle.std.proofs.lemmas.Bool.Decides.{nat_tests}
use Rattle.mas_types.specs.declared.ids.MemberId.{MemberId}
use Rattle.mas_types.specs.declared.ids.JobNo.{JobNo}
use Rattle.mas_types.specs.declared.ids.OutNo.{OutNo}
use Rattle.mas_types.specs.declared.queues.Owner.{Owner}
use Rattle.mas_types.specs.declared.queues.Owner.TheVariants as owner
use Rattle.mas_types.specs.declared.queues.Queue.{Queue}
use Rattle.mas_types.specs.declared.commands.Command.{Command}
use Rattle.mas_types.specs.declared.commands.Command.TheVariants as command
use Rattle.mas_types.specs.Lists.{head, tail}
use Rattle.mas_types.specs.Ids.{same_member}
use Rattle.mas_types.specs.Queue.{job_at}
use Rattle.mas_types.specs.Owners.{output_places, groups_needed, is_free, is_members, is_held_by, is_deck_of, is_output_of, is_of_any, taken, handed_out, freed}
use Rattle.mas_types.specs.Queue.{is_member}
use Rattle.mas_types.specs.Commands.Operator.{cancel_row, is_busy}
use Rattle.mas_types.specs.Commands.Input.{drop_row}
use Rattle.queue_laws.specs.Laws.{resets}
use Rattle.mas_types.specs.Step.{step, row_of}
use Rattle.queue_laws.specs.OwnerChange.{OwnerChange, OwnersFollow, GroupsStay, GroupsTaken, GroupsGiven, is_no_members, is_thing, Stays, Taken, Given, DeckFreed, OutputFreed, Released}
use Rattle.queue_laws.proofs.Done.{done_keeps}
use Rattle.queue_laws.proofs.Finds.{test_cases}
use Rattle.std.proofs.lemmas.Bool.{eq-eqb}
use Rattle.std.proofs.lemmas.List.Elements.{All-head, All-tail, All-nil, All-append}
use Rattle.mas_types.specs.declared.jobs.OutSpec.{OutSpec}
use Rattle.mas_types.specs.declared.jobs.Output.{Output}
use Rattle.mas_types.specs.Commands.Life.{places_of_outputs, outputs_at_end}
use Rattle.queue_laws.proofs.SoundOwners.{is_free_is}
use Rattle.queue_laws.proofs.SoundEnded.{block-All}

abbrev member_of : ℕ → MemberId
member_of n = record { 0 = n }

same_member_is : (k m : MemberId) → same_member k m ≡ true → k ≡ m
same_member_is k m h = let same : k.0 ≡ m.0 = grind (arith, nat_tests) in ap member_of same

module _ (m : MemberId) (is_reset : MemberId → Bool) where
  abbrev Follows : List Owner → List Owner → Type 0
  Follows = AllZip (OwnerChange m is_reset)

  pub stay : (gs : List Owner) → Follows gs gs
  stay [] = tt
  stay (g ∷ gs) = (Stays g, stay gs)

  members_is : (g : Owner) → is_members m g ≡ true → g ≡ owner.Member m
  members_is owner.Free h = absurd (cc)
  members_is (owner.Member k) h = ap (λ v. owner.Member v) (same_member_is k m h)
  members_is (owner.Deck n p) h = absurd (cc)
  members_is (owner.Output n i p) h = absurd (cc)

  given : (g new : Owner) → is_no_members new ≡ true → is_members m g ≡ true → OwnerChange m is_reset g new
  given g new none h = subst (λ x. OwnerChange m is_reset x new) (sym (members_is g h)) (Given new none)

  follow_taken : (want : ℕ) (gs : List Owner) → Follows gs (taken m want gs)
  follow_taken want [] = tt
  follow_taken want (g ∷ gs) =
      test_cases (is_free g && nat_lt 0 want) (Follows (g ∷ gs) (taken m want (g ∷ gs)))
      (λ e. rw e (subst (λ x. OwnerChange m is_reset x (owner.Member m)) (sym (is_free_is g (first (is_free g) (nat_lt 0 want) e))) Taken, follow_taken (want - 1) gs))
      (λ e. rw e (Stays g, follow_taken want gs))
    where
      first : (a b : Bool) → (a && b) ≡ true → a ≡ true
      first true b h = refl
      first false b h = absurd (cc)

  first_new : (new : List Owner) → All (λ x. is_no_members x ≡ true) new → is_no_members (unwrap_or (head new) owner.Free) ≡ true
  first_new [] all = refl
  first_new (x ∷ xs) all = All-head (λ x. is_no_members x ≡ true) x xs all

  rest_new : (new : List Owner) → All (λ x. is_no_members x ≡ true) new → All (λ x. is_no_members x ≡ true) (tail new)
  rest_new [] all = All-nil (λ x. is_no_members x ≡ true)
  rest_new (x ∷ xs) all = All-tail (λ x. is_no_members x ≡ true) x xs all

  follow_handed : (new gs : List Owner) → All (λ x. is_no_members x ≡ true) new → Follows gs (handed_out m new gs)
  follow_handed new [] all = tt
  follow_handed new (g ∷ gs) all =
      test_cases (is_members m g) (Follows (g ∷ gs) (handed_out m new (g ∷ gs)))
      (λ e. rw e (given g (unwrap_or (head new) owner.Free) (first_new new all) e, follow_handed (tail new) gs (rest_new new all)))
      (λ e. rw e (Stays g, follow_handed new gs all))

  follow_freed : (test : Owner → Bool) → ((g : Owner) → test g ≡ true → OwnerChange m is_reset g owner.Free) → (gs : List Owner) → Follows gs (freed test gs)
  follow_freed test may [] = tt
  follow_freed test may (g ∷ gs) =
      test_cases (test g) (Follows (g ∷ gs) (freed test (g ∷ gs)))
      (λ e. rw e (may g e, follow_freed test may gs))
      (λ e. rw e (Stays g, follow_freed test may gs))

  free_deck : (n : JobNo) (g : Owner) → is_deck_of n g ≡ true → OwnerChange m is_reset g owner.Free
  free_deck n owner.Free h = Stays owner.Free
  free_deck n (owner.Member k) h = absurd (cc)
  free_deck n (owner.Deck k p) h = DeckFreed k p
  free_deck n (owner.Output k i p) h = absurd (cc)

  free_output : (n : JobNo) (i : OutNo) (g : Owner) → is_output_of n i g ≡ true → OwnerChange m is_reset g owner.Free
  free_output n i owner.Free h = Stays owner.Free
  free_output n i (owner.Member k) h = absurd (cc)
  free_output n i (owner.Deck k p) h = absurd (cc)
  free_output n i (owner.Output k l p) h = OutputFreed k l p

  free_any : (outputs : List Output) (g : Owner) → is_of_any outputs g ≡ true → OwnerChange m is_reset g owner.Free
  free_any outputs owner.Free h = Stays owner.Free
  free_any outputs (owner.Member k) h = absurd (cc)
  free_any outputs (owner.Deck k p) h = absurd (cc)
  free_any outputs (owner.Output k l p) h = OutputFreed k l p

  free_reset : (picks : MemberId → Bool) → ((h : MemberId) → picks h ≡ true → is_reset h ≡ true) → (g : Owner) → is_held_by picks g ≡ true → OwnerChange m is_reset g owner.Free
  free_reset picks may owner.Free h = Stays owner.Free
  free_reset picks may (owner.Member k) h = Released k (may k h)
  free_reset picks may (owner.Deck k p) h = absurd (cc)
  free_reset picks may (owner.Output k l p) h = absurd (cc)

outputs_no_members : (n : JobNo) (i : ℕ) (specs : List OutSpec) → All (λ x. is_no_members x ≡ true) (places_of_outputs n i specs)
outputs_no_members n i [] = All-nil (λ x. is_no_members x ≡ true)
outputs_no_members n i (s ∷ specs) =
    All-append (λ x. is_no_members x ≡ true) (output_places n (record { 0 = i }) (groups_needed s.text)) (places_of_outputs n (i + 1) specs)
    (block-All (λ x. is_no_members x ≡ true) (λ p. owner.Output n (record { 0 = i }) p) 0 (groups_needed s.text) (λ q. refl)) (outputs_no_members n (i + 1) specs)

pub effect_follows : (Q : Queue) (m : MemberId) (c : Command) → AllZip (OwnerChange m (λ h. resets h c)) Q.owners (row_of Q m c).effect.owners
effect_follows Q m (command.Begin fields) = stay m _ Q.owners
effect_follows Q m (command.Take want) = follow_taken m _ want Q.owners
effect_follows Q m (command.Drop job) =
    test_cases (job.0 == 0) (AllZip (OwnerChange m (λ h. false)) Q.owners (drop_row Q m job).effect.owners)
    (λ e. rw e (follow_freed m (λ h. false) (is_members m) (λ g h. given m (λ h. false) g owner.Free refl h) Q.owners))
    (λ e. rw e (follow_freed m (λ h. false) (is_members m) (λ g h. given m (λ h. false) g owner.Free refl h) Q.owners))
effect_follows Q m (command.Enter job text) = follow_handed m _ _ Q.owners (block-All (λ x. is_no_members x ≡ true) (λ p. owner.Deck job p) 0 _ (λ q. refl))
effect_follows Q m command.TakeConvert = stay m _ Q.owners
effect_follows Q m (command.Converted job) = stay m _ Q.owners
effect_follows Q m command.TakeExec = stay m _ Q.owners
effect_follows Q m (command.Ended job specs) = follow_handed m _ _ Q.owners (outputs_no_members job 1 (outputs_at_end (job_at Q job) specs))
effect_follows Q m command.Gather = stay m _ Q.owners
effect_follows Q m command.Pick = stay m _ Q.owners
effect_follows Q m (command.Mark job index at) = stay m _ Q.owners
effect_follows Q m (command.Done job index) = follow_freed m _ (is_output_of job index) (free_output m _ job index) Q.owners
effect_follows Q m command.Purge = follow_freed m _ _ (free_deck m _ _) Q.owners
effect_follows Q m (command.Hold job) = stay m _ Q.owners
effect_follows Q m (command.Release job) = stay m _ Q.owners
effect_follows Q m (command.Cancel job) =
    test_cases (is_busy (job_at Q job)) (AllZip (OwnerChange m (λ h. false)) Q.owners (cancel_row Q m job).effect.owners)
    (λ e. rw e (stay m (λ h. false) Q.owners))
    (λ e. rw e (follow_freed m (λ h. false) _ (free_any m (λ h. false) _) Q.owners))
effect_follows Q m (command.SetPrio job prio) = stay m _ Q.owners
effect_follows Q m (command.SetClass job class) = stay m _ Q.owners
effect_follows Q m (command.Out job) = stay m _ Q.owners
effect_follows Q m (command.CancelOut job index) = follow_freed m _ (is_output_of job index) (free_output m _ job index) Q.owners
effect_follows Q m (command.SetOut job index class) = stay m _ Q.owners
effect_follows Q m (command.Show what) = stay m _ Q.owners
effect_follows Q m (command.SetInit classes) = stay m _ Q.owners
effect_follows Q m (command.SetPrt classes forms lines) = stay m _ Q.owners
effect_follows Q m (command.Back lines) = stay m _ Q.owners
effect_follows Q m (command.Forward lines) = stay m _ Q.owners
effect_follows Q m (command.Reset of_member) = follow_freed m (λ h. same_member h of_member) _ (free_reset m (λ h. same_member h of_member) (λ h. same_member h of_member) (λ h e. e)) Q.owners
effect_follows Q m command.Restart = follow_freed m (λ h. true) _ (free_reset m (λ h. true) (is_member Q.config) (λ h e. refl)) Q.owners
effect_follows Q m (command.Load line) = stay m _ Q.owners
effect_follows Q m (command.Sent line number) = stay m _ Q.owners
effect_follows Q m (command.Got line number job text) = follow_handed m _ _ Q.owners (block-All (λ x. is_no_members x ≡ true) (λ p. owner.Deck job p) 0 _ (λ q. refl))

pub owners_follow : OwnersFollow
owners_follow Q m c = done_keeps Q (row_of Q m c) (λ R. AllZip (OwnerChange m (λ h. resets h c)) Q.owners R.owners) (stay m (λ h. resets h c) Q.owners) (λ none. effect_follows Q m c)

-- BY THE INDEX OF A GROUP

zip_at : (R : Owner → Owner → Type 0) (xs ys : List Owner) (g : ℕ) (x y : Owner) → AllZip R xs ys → slice_get xs g ≡ Some x → slice_get ys g ≡ Some y → R x y
zip_at R [] ys g x y all at_x at_y = absurd (cc)
zip_at R (a ∷ xs) [] g x y all at_x at_y = absurd (cc)
zip_at R (a ∷ xs) (b ∷ ys) zero x y all at_x at_y = let same : a ≡ x = cc in let same' : b ≡ y = cc in rw (← same, ← same') all.0
zip_at R (a ∷ xs) (b ∷ ys) (suc g) x y all at_x at_y = zip_at R xs ys g x y all.1 at_x at_y

zip_there : (R : Owner → Owner → Type 0) (xs ys : List Owner) (g : ℕ) (x : Owner) → AllZip R xs ys → slice_get xs g ≡ Some x → (y : Owner) × (slice_get ys g ≡ Some y)
zip_there R [] ys g x all at_x = absurd (cc)
zip_there R (a ∷ xs) [] g x all at_x = absurd all
zip_there R (a ∷ xs) (b ∷ ys) zero x all at_x = (b, refl)
zip_there R (a ∷ xs) (b ∷ ys) (suc g) x all at_x = zip_there R xs ys g x all.1 at_x

module _ (m : MemberId) (is_reset : MemberId → Bool) where
  itself : (h : MemberId) → same_member h h ≡ true
  itself h = eq-eqb h.0 h.0 refl

  not_itself : (h : MemberId) → m ≡ h → same_member h m ≡ false → ⊥
  not_itself h same apart = let w = rw same at apart in let e = itself h in cc

  stays_held : (h : MemberId) (old new : Owner) → OwnerChange m is_reset old new → old ≡ owner.Member h → is_reset h ≡ false → same_member h m ≡ false → new ≡ owner.Member h
  stays_held h old new (Stays g) e r a = e
  stays_held h old new Taken e r a = absurd (cc)
  stays_held h old new (Given g t) e r a = absurd (not_itself h (cc) a)
  stays_held h old new (DeckFreed n p) e r a = absurd (cc)
  stays_held h old new (OutputFreed n i p) e r a = absurd (cc)
  stays_held h old new (Released k t) e r a = absurd (let same : k ≡ h = cc in let w = rw same at t in cc)

  was_held : (h : MemberId) (old new : Owner) → OwnerChange m is_reset old new → new ≡ owner.Member h → same_member h m ≡ false → old ≡ owner.Member h
  was_held h old new (Stays g) e a = e
  was_held h old new Taken e a = absurd (not_itself h (cc) a)
  was_held h old new (Given g t) e a = absurd (let w = rw e at t in cc)
  was_held h old new (DeckFreed n p) e a = absurd (cc)
  was_held h old new (OutputFreed n i p) e a = absurd (cc)
  was_held h old new (Released k t) e a = absurd (cc)

  was_given : (old new : Owner) → OwnerChange m is_reset old new → is_thing new ≡ true → (old ≡ new) ⊎ (old ≡ owner.Member m)
  was_given old new (Stays g) t = inl refl
  was_given old new Taken t = absurd (cc)
  was_given old new (Given g n) t = inr refl
  was_given old new (DeckFreed n p) t = absurd (cc)
  was_given old new (OutputFreed n i p) t = absurd (cc)
  was_given old new (Released k r) t = absurd (cc)

pub groups_stay : GroupsStay
groups_stay Q m h c g apart kept at_old =
    let all = owners_follow Q m c in
    let there = zip_there (OwnerChange m (λ h. resets h c)) Q.owners (step Q m c).0.owners g (owner.Member h) all at_old in
    let change = zip_at (OwnerChange m (λ h. resets h c)) Q.owners (step Q m c).0.owners g (owner.Member h) there.0 all at_old there.1 in
    there.1 ∙ ap (λ o. Some o) (stays_held m (λ h. resets h c) h (owner.Member h) there.0 change refl kept apart)

pub groups_taken : GroupsTaken
groups_taken Q m h c g old apart at_old at_new =
    was_held m (λ h. resets h c) h old (owner.Member h) (zip_at (OwnerChange m (λ h. resets h c)) Q.owners (step Q m c).0.owners g old (owner.Member h) (owners_follow Q m c) at_old at_new) refl apart

pub groups_given : GroupsGiven
groups_given Q m c g old new thing at_old at_new =
    was_given m (λ h. resets h c) old new (zip_at (OwnerChange m (λ h. resets h c)) Q.owners (step Q m c).0.owners g old new (owners_follow Q m c) at_old at_new) thing
