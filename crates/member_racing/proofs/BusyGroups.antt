-- Commands of others leave the groups of what is busy at a member.
use Rattle.std.proofs.Common.{◌≡◌, ◌∙◌, ℕ, ◌+◌, ◌-◌, ◌==◌, ◌&&◌, nat_lt, Bool, true, false, List, [], ◌∷◌, Option, Some, None, ap, refl, subst, sym, arith}
use Rattle.std.specs.Prelude.{unwrap_or}
use Rattle.std.specs.List.{All, AllZip, find}
use Rattle.std.proofs.lemmas.Bool.Decides.{nat_tests}
use Rattle.std.proofs.lemmas.List.Elements.{All-append, All-head, All-nil, All-tail}
use Rattle.mas_types.specs.declared.commands.Command.{Command}
use Rattle.mas_types.specs.declared.commands.Command.TheVariants as command
use Rattle.mas_types.specs.declared.commands.Refusal.TheVariants as refusal
use Rattle.mas_types.specs.declared.ids.JobNo.{JobNo}
use Rattle.mas_types.specs.declared.ids.MemberId.{MemberId}
use Rattle.mas_types.specs.declared.ids.OutNo.{OutNo}
use Rattle.mas_types.specs.declared.jobs.Job.{Job}
use Rattle.mas_types.specs.declared.jobs.OutSpec.{OutSpec}
use Rattle.mas_types.specs.declared.jobs.Output.{Output}
use Rattle.mas_types.specs.declared.queues.Owner.{Owner}
use Rattle.mas_types.specs.declared.queues.Owner.TheVariants as owner
use Rattle.mas_types.specs.declared.queues.Queue.{Queue}
use Rattle.mas_types.specs.declared.queues.Thing.{Thing}
use Rattle.mas_types.specs.declared.queues.Thing.TheVariants as thing
use Rattle.mas_types.specs.Commands.Input.{drop_row, not_entered}
use Rattle.mas_types.specs.Commands.Life.{outputs_at_end, places_of_outputs}
use Rattle.mas_types.specs.Commands.Operator.{cancel_row, is_busy}
use Rattle.mas_types.specs.Commands.Wire.{again, gap, got_on}
use Rattle.mas_types.specs.Ids.{is_somebody, same_member, same_number}
use Rattle.mas_types.specs.Lists.{first_some, head, tail}
use Rattle.mas_types.specs.Owners.{deck_places, freed, groups_needed, handed_out, is_deck_of, is_free, is_held_by, is_members, is_of_any, is_output_of, output_places, taken}
use Rattle.mas_types.specs.Queue.{has_number, in_purge, is_in, job_at, number_of}
use Rattle.mas_types.specs.Row.{job_not_at, none_such}
use Rattle.mas_types.specs.Sound.{IsSound, IsSoundJob}
use Rattle.mas_types.specs.Step.{row_of, step}
use Rattle.track_groups.specs.Groups.{is_things}
use Rattle.track_groups.specs.Places.{groups_of, place_of, placed_from}
use Rattle.queue_laws.specs.Laws.{resets}
use Rattle.queue_laws.proofs.Done.{done_keeps, none_first}
use Rattle.queue_laws.proofs.Finds.{find-All, test_cases}
use Rattle.queue_laws.proofs.Others.{after_two, at_member, found_itself, rests_purge, third_none}
use Rattle.queue_laws.proofs.SoundEnded.{block-All}

-- THE GROUPS OF A THING, where each is the thing's that was, at its place

module _ (t : Thing) where
  abbrev SameOne : Owner → Owner → Type 0
  SameOne x y = (is_things t y ≡ is_things t x) × (is_things t x ≡ true → place_of y ≡ place_of x)

  abbrev pub Same : List Owner → List Owner → Type 0
  Same = AllZip SameOne

  pub stay : (gs : List Owner) → Same gs gs
  stay [] = tt
  stay (g ∷ gs) = ((refl, λ is. refl), stay gs)

  neither : (x y : Owner) → is_things t x ≡ false → is_things t y ≡ false → SameOne x y
  neither x y one two = (two ∙ sym one, λ is. absurd (let bad : true ≡ false = sym is ∙ one in cc))

  same_placed : (at : ℕ) (gs hs : List Owner) → Same gs hs → placed_from t at hs ≡ placed_from t at gs
  same_placed at [] [] all = refl
  same_placed at [] (h ∷ hs) all = absurd all
  same_placed at (g ∷ gs) [] all = absurd all
  same_placed at (g ∷ gs) (h ∷ hs) all =
      let rest : placed_from t (at + 1) hs ≡ placed_from t (at + 1) gs = same_placed (at + 1) gs hs all.1 in
      test_cases (is_things t g) (placed_from t at (h ∷ hs) ≡ placed_from t at (g ∷ gs))
      (λ e.
      let its : is_things t h ≡ true = all.0.0 ∙ e in
      let same : place_of h ≡ place_of g = all.0.1 e in
      rw (e, its, same, rest) refl)
      (λ e. let its : is_things t h ≡ false = all.0.0 ∙ e in rw (e, its) rest)

  pub same_groups : (gs hs : List Owner) → Same gs hs → groups_of t hs ≡ groups_of t gs
  same_groups gs hs all = rw (same_placed 0 gs hs all) refl

-- a Free group, and a member's, are no thing's
free_none : (t : Thing) → is_things t owner.Free ≡ false
free_none (thing.Deck n) = refl
free_none (thing.Output n i) = refl

member_none : (t : Thing) (m : MemberId) → is_things t (owner.Member m) ≡ false
member_none (thing.Deck n) m = refl
member_none (thing.Output n i) m = refl

-- WHAT COMMANDS DO WITH GROUPS leaves those of a thing that none of them gives or takes

module _ (t : Thing) where
  free_is : (g : Owner) → is_free g ≡ true → is_things t g ≡ false
  free_is owner.Free is = free_none t
  free_is (owner.Member m) is = absurd (cc)
  free_is (owner.Deck n p) is = absurd (cc)
  free_is (owner.Output n i p) is = absurd (cc)

  pub held_is : (picks : MemberId → Bool) (g : Owner) → is_held_by picks g ≡ true → is_things t g ≡ false
  held_is picks owner.Free is = absurd (cc)
  held_is picks (owner.Member m) is = member_none t m
  held_is picks (owner.Deck n p) is = absurd (cc)
  held_is picks (owner.Output n i p) is = absurd (cc)

  first_of : (a b : Bool) → (a && b) ≡ true → a ≡ true
  first_of true b is = refl
  first_of false b is = absurd (cc)

  pub same_taken : (m : MemberId) (want : ℕ) (gs : List Owner) → Same t gs (taken m want gs)
  same_taken m want [] = tt
  same_taken m want (g ∷ gs) =
      test_cases (is_free g && nat_lt 0 want) (Same t (g ∷ gs) (taken m want (g ∷ gs)))
      (λ e. rw e (neither t g (owner.Member m) (free_is g (first_of (is_free g) (nat_lt 0 want) e)) (member_none t m), same_taken m (want - 1) gs))
      (λ e. rw e ((refl, λ is. refl), same_taken m want gs))

  abbrev NotIts : Owner → Type 0
  NotIts g = is_things t g ≡ false

  first_new : (new : List Owner) → All NotIts new → NotIts (unwrap_or (head new) owner.Free)
  first_new [] all = free_none t
  first_new (x ∷ xs) all = All-head NotIts x xs all

  rest_new : (new : List Owner) → All NotIts new → All NotIts (tail new)
  rest_new [] all = All-nil NotIts
  rest_new (x ∷ xs) all = All-tail NotIts x xs all

  pub same_handed : (m : MemberId) (new gs : List Owner) → All NotIts new → Same t gs (handed_out m new gs)
  same_handed m new [] all = tt
  same_handed m new (g ∷ gs) all =
      test_cases (is_members m g) (Same t (g ∷ gs) (handed_out m new (g ∷ gs)))
      (λ e. rw e (neither t g (unwrap_or (head new) owner.Free) (held_is (λ h. same_member h m) g e) (first_new new all), same_handed m (tail new) gs (rest_new new all)))
      (λ e. rw e ((refl, λ is. refl), same_handed m new gs all))

  pub same_freed : (test : Owner → Bool) → ((g : Owner) → test g ≡ true → NotIts g) → (gs : List Owner) → Same t gs (freed test gs)
  same_freed test none [] = tt
  same_freed test none (g ∷ gs) =
      test_cases (test g) (Same t (g ∷ gs) (freed test (g ∷ gs)))
      (λ e. rw e (neither t g owner.Free (none g e) (free_none t), same_freed test none gs))
      (λ e. rw e ((refl, λ is. refl), same_freed test none gs))

  pub places_not : (n : JobNo) (i : ℕ) (specs : List OutSpec) → ((k : OutNo) (p : ℕ) → NotIts (owner.Output n k p)) → All NotIts (places_of_outputs n i specs)
  places_not n i [] none = All-nil NotIts
  places_not n i (s ∷ specs) none =
      All-append NotIts (output_places n (record { 0 = i }) (groups_needed s.text)) (places_of_outputs n (i + 1) specs)
      (block-All NotIts (λ p. owner.Output n (record { 0 = i }) p) 0 (groups_needed s.text) (λ q. none (record { 0 = i }) q)) (places_not n (i + 1) specs none)

same_no : (a b : JobNo) → same_number a b ≡ true → a ≡ b
same_no a b is = let e : a.0 ≡ b.0 = grind (arith, nat_tests) in ap (λ (k : ℕ). let n : JobNo = record { 0 = k } in n) e

-- A DECK

not_deck : (n : JobNo) (job : JobNo) (index : OutNo) (g : Owner) → is_output_of job index g ≡ true → is_deck_of n g ≡ false
not_deck n job index owner.Free is = absurd (cc)
not_deck n job index (owner.Member m) is = absurd (cc)
not_deck n job index (owner.Deck k p) is = absurd (cc)
not_deck n job index (owner.Output k i p) is = refl

none_deck : (n : JobNo) (os : List Output) (g : Owner) → is_of_any os g ≡ true → is_deck_of n g ≡ false
none_deck n os owner.Free is = absurd (cc)
none_deck n os (owner.Member m) is = absurd (cc)
none_deck n os (owner.Deck k p) is = absurd (cc)
none_deck n os (owner.Output k i p) is = refl

module _ (Q : Queue) (m h : MemberId) (sound : IsSound Q) (somebody : is_somebody h ≡ true) (other : same_member h m ≡ false) (n : JobNo) (j : Job) (there : job_at Q n ≡ Some j) (busy : j.busy ≡ h) where
  abbrev Keeps : List Owner → Type 0
  Keeps owners = Same (thing.Deck n) Q.owners owners

  -- a job that has to be busy at the commanding member is another one
  apart : (job : JobNo) → job_not_at m (job_at Q job) ≡ None → same_number job n ≡ false
  apart job none = test_cases (same_number job n) (same_number job n ≡ false)
      (λ e.
      let its : job_not_at m (job_at Q n) ≡ None = subst (λ (k : JobNo). job_not_at m (job_at Q k) ≡ None) (same_no job n e) none in
      absurd (let mine = at_member m j (rw there at its) in let theirs = rw busy at mine in cc))
      (λ e. e)

  -- so is one in Purge
  past : (x : Job) → find (is_in in_purge) Q.jobs ≡ Some x → same_number x.number n ≡ false
  past x first = test_cases (same_number x.number n) (same_number x.number n ≡ false)
      (λ e.
      let here = find-All (λ (y : Job). find (has_number y.number) Q.jobs ≡ Some y) (is_in in_purge) Q.jobs x (found_itself Q.jobs sound.numbers) first in
      let its : job_at Q n ≡ Some x = subst (λ (k : JobNo). job_at Q k ≡ Some x) (same_no x.number n e) here.0 in
      let same : x ≡ j = cc (its, there) in
      let right = (find-All (IsSoundJob Q.config) (has_number n) Q.jobs x sound.jobs its).0 in
      absurd (let rests = rests_purge x.phase here.1 in let works = right.busy_phase (rw same (rw busy somebody)) in cc))
      (λ e. e)

  not_past : (k : JobNo) (g : Owner) → same_number k n ≡ false → is_deck_of k g ≡ true → is_deck_of n g ≡ false
  not_past k owner.Free none is = absurd (cc)
  not_past k (owner.Member h) none is = absurd (cc)
  not_past k (owner.Deck d p) none is = let e : d ≡ k = same_no d k is in ap (λ (q : JobNo). same_number q n) e ∙ none
  not_past k (owner.Output d i p) none is = absurd (cc)

  purged : (o : Option Job) → find (is_in in_purge) Q.jobs ≡ o → none_such refusal.Nothing o ≡ None → Keeps (freed (is_deck_of (number_of o)) Q.owners)
  purged None first none = absurd (cc)
  purged (Some x) first none = same_freed (thing.Deck n) (is_deck_of x.number) (λ g is. not_past x.number g (past x first) is) Q.owners

  abbrev deck_places_of : JobNo → List (List ℕ) → List Owner
  deck_places_of job text = deck_places job (groups_needed text)

  entered_apart : (job : JobNo) (text : List (List ℕ)) → first_some (not_entered Q m job text) ≡ None → Keeps (handed_out m (deck_places_of job text) Q.owners)
  entered_apart job text none =
      same_handed (thing.Deck n) m (deck_places_of job text) Q.owners (block-All (λ g. is_deck_of n g ≡ false) (λ p. owner.Deck job p) 0 (groups_needed text) (λ q. apart job (third_none _ _ _ _ none)))

  deck_effect : (c : Command) → resets h c ≡ false → first_some (row_of Q m c).refusals ≡ None → Keeps (row_of Q m c).effect.owners
  deck_effect (command.Begin fields) r none = stay (thing.Deck n) Q.owners
  deck_effect (command.Take want) r none = same_taken (thing.Deck n) m want Q.owners
  deck_effect (command.Drop job) r none =
      test_cases (job.0 == 0) (Keeps (drop_row Q m job).effect.owners)
      (λ e. rw e (same_freed (thing.Deck n) (is_members m) (held_is (thing.Deck n) (λ k. same_member k m)) Q.owners))
      (λ e. rw e (same_freed (thing.Deck n) (is_members m) (held_is (thing.Deck n) (λ k. same_member k m)) Q.owners))
  deck_effect (command.Enter job text) r none = entered_apart job text none
  deck_effect command.TakeConvert r none = stay (thing.Deck n) Q.owners
  deck_effect (command.Converted job) r none = stay (thing.Deck n) Q.owners
  deck_effect command.TakeExec r none = stay (thing.Deck n) Q.owners
  deck_effect (command.Ended job specs) r none = same_handed (thing.Deck n) m _ Q.owners (places_not (thing.Deck n) job 1 (outputs_at_end (job_at Q job) specs) (λ k p. refl))
  deck_effect command.Gather r none = stay (thing.Deck n) Q.owners
  deck_effect command.Pick r none = stay (thing.Deck n) Q.owners
  deck_effect (command.Mark job index at) r none = stay (thing.Deck n) Q.owners
  deck_effect (command.Done job index) r none = same_freed (thing.Deck n) (is_output_of job index) (not_deck n job index) Q.owners
  deck_effect command.Purge r none = purged (find (is_in in_purge) Q.jobs) refl (none_first _ _ none).0
  deck_effect (command.Hold job) r none = stay (thing.Deck n) Q.owners
  deck_effect (command.Release job) r none = stay (thing.Deck n) Q.owners
  deck_effect (command.Cancel job) r none =
      test_cases (is_busy (job_at Q job)) (Keeps (cancel_row Q m job).effect.owners)
      (λ e. rw e (stay (thing.Deck n) Q.owners))
      (λ e. rw e (same_freed (thing.Deck n) _ (none_deck n _) Q.owners))
  deck_effect (command.SetPrio job prio) r none = stay (thing.Deck n) Q.owners
  deck_effect (command.SetClass job class) r none = stay (thing.Deck n) Q.owners
  deck_effect (command.Out job) r none = stay (thing.Deck n) Q.owners
  deck_effect (command.CancelOut job index) r none = same_freed (thing.Deck n) (is_output_of job index) (not_deck n job index) Q.owners
  deck_effect (command.SetOut job index class) r none = stay (thing.Deck n) Q.owners
  deck_effect (command.Show what) r none = stay (thing.Deck n) Q.owners
  deck_effect (command.SetInit classes) r none = stay (thing.Deck n) Q.owners
  deck_effect (command.SetPrt classes forms lines) r none = stay (thing.Deck n) Q.owners
  deck_effect (command.Back lines) r none = stay (thing.Deck n) Q.owners
  deck_effect (command.Forward lines) r none = stay (thing.Deck n) Q.owners
  deck_effect (command.Reset of_member) r none = same_freed (thing.Deck n) _ (held_is (thing.Deck n) (λ k. same_member k of_member)) Q.owners
  deck_effect command.Restart r none = absurd (cc)
  deck_effect (command.Load line) r none = stay (thing.Deck n) Q.owners
  deck_effect (command.Sent line number) r none = stay (thing.Deck n) Q.owners
  deck_effect (command.Got line number job text) r none = entered_apart job text (after_two (again (got_on Q line) number) (gap (got_on Q line) number) (not_entered Q m job text) none)

  -- the groups of its text are the same ones
  pub deck_stays : (c : Command) → resets h c ≡ false → groups_of (thing.Deck n) (step Q m c).0.owners ≡ groups_of (thing.Deck n) Q.owners
  deck_stays c r =
      same_groups (thing.Deck n) Q.owners (step Q m c).0.owners
      (done_keeps Q (row_of Q m c) (λ (R : Queue). Same (thing.Deck n) Q.owners R.owners) (stay (thing.Deck n) Q.owners) (λ none. deck_effect c r none))
