-- A text is entered.
use Rattle.std.proofs.Common.{◌≡◌, ℕ, true, false, inl, inr, ◌⊎◌, List, [], ◌∷◌, take, Some, All, slice_index_or, refl, sym, ◌∙◌, ap, subst, arith}
use Rattle.std.specs.List.{list_any}
use Rattle.std.proofs.lemmas.Bool.Decides.{nat_tests}
use Rattle.std.proofs.lemmas.List.Elements.{All-nil, All-cons, All-head, All-tail, All-weaker, All-contains_itself}
use Rattle.mas_types.specs.declared.ids.MemberId.{MemberId}
use Rattle.mas_types.specs.declared.ids.JobNo.{JobNo}
use Rattle.mas_types.specs.declared.ids.GroupNo.{GroupNo}
use Rattle.mas_types.specs.declared.ids.OutNo.{OutNo}
use Rattle.mas_types.specs.declared.jobs.Text.{Text}
use Rattle.mas_types.specs.declared.jobs.Text.TheVariants.{Whole}
use Rattle.mas_types.specs.declared.jobs.Job.{Job}
use Rattle.mas_types.specs.declared.queues.Owner.{Owner}
use Rattle.mas_types.specs.declared.queues.Owner.TheVariants as owner
use Rattle.mas_types.specs.declared.queues.Queue.{Queue}
use Rattle.mas_types.specs.declared.queues.Thing.{Thing}
use Rattle.mas_types.specs.declared.queues.Thing.TheVariants as thing
use Rattle.mas_types.specs.declared.commands.Refusal.TheVariants as refusal
use Rattle.mas_types.specs.Fit.{AreDistinct}
use Rattle.mas_types.specs.Ids.{nobody, same_number}
use Rattle.mas_types.specs.Lists.{change_first}
use Rattle.mas_types.specs.Owners.{freed, is_members, handed_out, deck_places, groups_needed, is_deck_of}
use Rattle.mas_types.specs.Queue.{in_input, has_number, job_at}
use Rattle.mas_types.specs.Row.{none_such, wrong_phase}
use Rattle.mas_types.specs.Sound.{is_owner_there}
use Rattle.mas_types.specs.Commands.Input.{entered, enter_row, not_entered, phase_entered}
use Rattle.mas_types.specs.Commands.Wire.{again, gap, got_on, got_row}
use Rattle.queue_laws.proofs.Done.{done_keeps}
use Rattle.queue_laws.proofs.Finds.{test_cases}
use Rattle.queue_laws.proofs.Others.{after_two, second_none}
use Rattle.queue_laws.proofs.SoundEnded.{block-All}
use Rattle.queue_laws.proofs.SoundGone.{no_deck_of}
use Rattle.queue_laws.proofs.SoundJobs.{in_phase_of}
use Rattle.track_groups.specs.Groups.{is_things, given, held_by, first_places}
use Rattle.track_groups.specs.Places.{groups_of}
use Rattle.track_groups.specs.Laws.{AreNotOf, TextsAreNoMembers, HandsOut, GetsTheLowest, KeepsOtherTexts, FreeingKeepsTexts}
use Rattle.queue_texts.specs.Leaving.{HoldsOfTexts, WasThere, AreTheirOwn}
use Rattle.queue_texts.specs.Entering.{groups_for, IsBrought, BringsText, EntersText, EnterBringsText, GotBringsText}

-- the laws of groups
record GroupLaws : Type 0 where
  pub no_members : TextsAreNoMembers
  pub hands_out : HandsOut
  pub lowest : GetsTheLowest
  pub others : KeepsOtherTexts
  pub freeing : FreeingKeepsTexts

module _ (laws : GroupLaws) (m : MemberId) (n : JobNo) (count : ℕ) (gs : List Owner) where
  abbrev hs : List Owner
  hs = handed_out m (deck_places n count) gs

  abbrev its : List Owner
  its = given m (first_places (thing.Deck n) count) gs

  as_given : hs ≡ freed (is_members m) its
  as_given = sym (laws.hands_out m (first_places (thing.Deck n) count) gs (laws.no_members m (thing.Deck n) count))

  -- the deck gets the lowest groups of the member, where it had none
  groups_given : All (λ g. is_things (thing.Deck n) g ≡ false) gs → groups_of (thing.Deck n) hs ≡ take count (held_by m gs)
  groups_given none = ap (groups_of (thing.Deck n)) as_given ∙ laws.freeing m (thing.Deck n) its ∙ laws.lowest m (thing.Deck n) count gs none

  -- a text other than the deck keeps its groups
  groups_beside : (t : Thing) → AreNotOf t (first_places (thing.Deck n) count) → groups_of t hs ≡ groups_of t gs
  groups_beside t other = ap (groups_of t) as_given ∙ laws.freeing m t its ∙ laws.others m t (first_places (thing.Deck n) count) gs other

  other_deck : (k : JobNo) → same_number n k ≡ false → groups_of (thing.Deck k) hs ≡ groups_of (thing.Deck k) gs
  other_deck k other = groups_beside (thing.Deck k) (block-All (λ o. is_things (thing.Deck k) o ≡ false) (λ p. owner.Deck n p) 0 count (λ q. other))

  each_print : (k : JobNo) (i : OutNo) → groups_of (thing.Output k i) hs ≡ groups_of (thing.Output k i) gs
  each_print k i = groups_beside (thing.Output k i) (block-All (λ o. is_things (thing.Output k i) o ≡ false) (λ p. owner.Deck n p) 0 count (λ q. refl))

-- JOBS

-- the first with the number is changed, and no other has it
all_changed : (n : JobNo) (f : Job → Job) (Old New : Job → Type 0) → ((j : Job) → has_number n j ≡ true → New (f j)) → ((j : Job) → has_number n j ≡ false → Old j → New j)
    → (jobs : List Job) → AreDistinct (λ a b. same_number a.number b.number) jobs → All Old jobs → All New (change_first (has_number n) f jobs)
all_changed n f Old New here beside [] distinct all = All-nil New
all_changed n f Old New here beside (j ∷ jobs) distinct all =
    test_cases (has_number n j) (All New (change_first (has_number n) f (j ∷ jobs)))
    (λ e. rw e (All-cons New (f j) jobs (here j e) (others jobs (alike j e jobs distinct.0) (All-tail Old j jobs all))))
    (λ e. rw e (All-cons New j (change_first (has_number n) f jobs) (beside j e (All-head Old j jobs all)) (all_changed n f Old New here beside jobs distinct.1 (All-tail Old j jobs all))))
  where
    apart : (j k : Job) → has_number n j ≡ true → same_number j.number k.number ≡ false → has_number n k ≡ false
    apart j k e d = grind (arith, nat_tests)

    alike : (j : Job) → has_number n j ≡ true → (ks : List Job) → list_any (λ b. same_number j.number b.number) ks ≡ false → All (λ k. has_number n k ≡ false) ks
    alike j e [] none = All-nil (λ k. has_number n k ≡ false)
    alike j e (k ∷ ks) none =
        test_cases (same_number j.number k.number) (All (λ k. has_number n k ≡ false) (k ∷ ks))
        (λ d. absurd (let w = rw d at none in cc))
        (λ d. All-cons (λ k. has_number n k ≡ false) k ks (apart j k e d) (alike j e ks (rw d at none)))

    others : (ks : List Job) → All (λ k. has_number n k ≡ false) ks → All Old ks → All New ks
    others [] apart old = All-nil New
    others (k ∷ ks) apart old =
        All-cons New k ks (beside k (All-head (λ k. has_number n k ≡ false) k ks apart) (All-head Old k ks old))
        (others ks (All-tail (λ k. has_number n k ≡ false) k ks apart) (All-tail Old k ks old))

-- THE TEXT IS ENTERED

-- each text of a queue was there
was_there : (Q : Queue) → HoldsOfTexts (λ t text groups. WasThere Q t text groups) Q
was_there Q = record {
  decks = λ k d lt. record { job = slice_index_or Q.jobs k d; there = All-contains_itself Q.jobs k d lt; number = refl; same = refl; where_it_was = refl };
  outputs = λ k d lt. record { output = slice_index_or Q.outputs k d; there = All-contains_itself Q.outputs k d lt; number = refl; index_is = refl; same = refl; where_it_was = refl };
}

module _ (laws : GroupLaws) (Q : Queue) (m : MemberId) (n : JobNo) (text : List (List ℕ)) where
  abbrev after : List Owner
  after = handed_out m (deck_places n (groups_needed text)) Q.owners

  abbrev with_text : Job → Job
  with_text j = record j { text = Whole text; busy = nobody; phase = phase_entered Q.config.node j }

  abbrev Was : Thing → Text → List GroupNo → Type 0
  Was t x groups = WasThere Q t x groups

  abbrev Is : Thing → Text → List GroupNo → Type 0
  Is t x groups = IsBrought (thing.Deck n) text (groups_for Q m text) t x groups ⊎ WasThere Q t x groups

  abbrev WasDeck : Job → Type 0
  WasDeck j = Was (thing.Deck j.number) j.text (groups_of (thing.Deck j.number) Q.owners)

  abbrev IsDeck : Job → Type 0
  IsDeck j = Is (thing.Deck j.number) j.text (groups_of (thing.Deck j.number) after)

  no_deck_yet : AreTheirOwn Q → ((j : Job) → job_at Q n ≡ Some j → in_input j.phase ≡ true) → All (λ g. is_things (thing.Deck n) g ≡ false) Q.owners
  no_deck_yet own input = All-weaker (λ g. is_owner_there Q.config Q.jobs Q.outputs g ≡ true) (λ g. is_deck_of n g ≡ false) (no_deck_of Q n input) Q.owners own.owners

  its_text : All (λ g. is_things (thing.Deck n) g ≡ false) Q.owners → (j : Job) → has_number n j ≡ true → IsDeck (with_text j)
  its_text none j e = let same : n.0 ≡ j.number.0 = grind (arith, nat_tests) in
      subst (λ (v : ℕ). Is (thing.Deck (record { 0 = v })) (Whole text) (groups_of (thing.Deck (record { 0 = v })) after)) same
      (inl (record { of_it = refl; whole = refl; there = groups_given laws m n (groups_needed text) Q.owners none }))

  other_text : (j : Job) → has_number n j ≡ false → WasDeck j → IsDeck j
  other_text j e old = let apart : same_number n j.number ≡ false = grind (arith, nat_tests) in
      inr (subst (λ (groups : List GroupNo). Was (thing.Deck j.number) j.text groups) (sym (other_deck laws m n (groups_needed text) Q.owners j.number apart)) old)

  enters : AreTheirOwn Q → ((j : Job) → job_at Q n ≡ Some j → in_input j.phase ≡ true) → BringsText Q (thing.Deck n) text (groups_for Q m text) (entered m n text Q)
  enters own input = record {
    decks = all_changed n with_text WasDeck IsDeck (its_text (no_deck_yet own input)) other_text Q.jobs own.numbers (was_there Q).decks;
    outputs = All-weaker (λ o. Was (thing.Output o.job o.index) o.text (groups_of (thing.Output o.job o.index) Q.owners)) (λ o. Is (thing.Output o.job o.index) o.text (groups_of (thing.Output o.job o.index) after))
        (λ o old. inr (subst (λ (groups : List GroupNo). Was (thing.Output o.job o.index) o.text groups) (sym (each_print laws m n (groups_needed text) Q.owners o.job o.index)) old)) Q.outputs (was_there Q).outputs;
  }

  stays : BringsText Q (thing.Deck n) text (groups_for Q m text) Q
  stays = record {
    decks = All-weaker WasDeck (λ j. Is (thing.Deck j.number) j.text (groups_of (thing.Deck j.number) Q.owners)) (λ j old. inr old) Q.jobs (was_there Q).decks;
    outputs = All-weaker (λ o. Was (thing.Output o.job o.index) o.text (groups_of (thing.Output o.job o.index) Q.owners)) (λ o. Is (thing.Output o.job o.index) o.text (groups_of (thing.Output o.job o.index) Q.owners)) (λ o old. inr old) Q.outputs (was_there Q).outputs;
  }

module _ (no_members : TextsAreNoMembers) (hands_out : HandsOut) (lowest : GetsTheLowest) (others : KeepsOtherTexts) (freeing : FreeingKeepsTexts) where
  laws : GroupLaws
  laws = record { no_members = no_members; hands_out = hands_out; lowest = lowest; others = others; freeing = freeing }

  pub enters_text : EntersText
  enters_text Q m n text own input = enters laws Q m n text own input

  pub enter_brings : EnterBringsText
  enter_brings Q m n text own =
      done_keeps Q (enter_row Q m n text) (λ R. BringsText Q (thing.Deck n) text (groups_for Q m text) R) (stays laws Q m n text)
      (λ none. enters laws Q m n text own (in_phase_of Q n in_input (second_none (none_such refusal.NoJob (job_at Q n)) (wrong_phase in_input (job_at Q n)) _ none)))

  pub got_brings : GotBringsText
  got_brings Q m l number n text own =
      done_keeps Q (got_row Q m l number n text) (λ R. BringsText Q (thing.Deck n) text (groups_for Q m text) R) (stays laws Q m n text)
      (λ none.
      let rest = after_two (again (got_on Q l) number) (gap (got_on Q l) number) (not_entered Q m n text) none in
      let came = enters laws Q m n text own (in_phase_of Q n in_input (second_none (none_such refusal.NoJob (job_at Q n)) (wrong_phase in_input (job_at Q n)) _ rest)) in
      record { decks = came.decks; outputs = came.outputs })
