-- Ended brings the texts of the job's outputs, and leaves all others.
use Rattle.std.proofs.Common.{◌≡◌, ℕ, suc, ◌+◌, ◌<◌, ◌≤◌, true, false, ◌&&◌, inl, inr, ◌⊎◌, List, [], ◌∷◌, ◌++◌, take, drop, Option, Some, None, All, slice_index_or, refl, sym, ◌∙◌, ap, subst, arith}
use Rattle.std.specs.Prelude.{is_some, find, slice_get}
use Rattle.std.proofs.lemmas.Bool.Decides.{nat_tests}
use Rattle.std.proofs.lemmas.List.Elements.{All-nil, All-cons, All-head, All-tail, All-weaker, All-append, All-contains_itself}
use Rattle.mas_types.specs.declared.ids.MemberId.{MemberId}
use Rattle.mas_types.specs.declared.ids.JobNo.{JobNo}
use Rattle.mas_types.specs.declared.ids.GroupNo.{GroupNo}
use Rattle.mas_types.specs.declared.ids.OutNo.{OutNo}
use Rattle.mas_types.specs.declared.jobs.Text.{Text}
use Rattle.mas_types.specs.declared.jobs.Text.TheVariants.{Whole}
use Rattle.mas_types.specs.declared.jobs.OutSpec.{OutSpec}
use Rattle.mas_types.specs.declared.jobs.Output.{Output}
use Rattle.mas_types.specs.declared.queues.Owner.{Owner}
use Rattle.mas_types.specs.declared.queues.Owner.TheVariants as owner
use Rattle.mas_types.specs.declared.queues.Queue.{Queue}
use Rattle.mas_types.specs.declared.queues.Thing.{Thing}
use Rattle.mas_types.specs.declared.queues.Thing.TheVariants as thing
use Rattle.mas_types.specs.Commands.Life.{ended, ended_row, new_output, new_outputs, outputs_at_end, places_of_outputs, with_outputs}
use Rattle.mas_types.specs.Ids.{same_index, same_number}
use Rattle.mas_types.specs.Owners.{groups_needed, handed_out, is_members, output_places}
use Rattle.mas_types.specs.Queue.{change_job, has_key, has_number, has_output, is_of, job_at}
use Rattle.mas_types.specs.Sound.{is_owner_there}
use Rattle.queue_laws.proofs.Done.{done_keeps}
use Rattle.queue_laws.proofs.Finds.{any_none, find-All, test_cases}
use Rattle.queue_laws.proofs.HandedOut.{length-places}
use Rattle.queue_laws.proofs.Others.{All-both}
use Rattle.queue_laws.proofs.SoundEnded.{block-All}
use Rattle.queue_laws.proofs.Soundness.{All-change}
use Rattle.track_groups.specs.Groups.{given, held_by, is_things}
use Rattle.track_groups.specs.Places.{groups_of}
use Rattle.track_groups.specs.Laws.{AreNotOf, AreNoMembers, TextsAreNoMembers, GivesInTurn, HandsOut, GetsTheLowest, KeepsTheOthers, KeepsOtherTexts, FreeingKeepsTexts}
use Rattle.queue_texts.specs.Leaving.{HoldsOfTexts, WasThere, AreTheirOwn}
use Rattle.job_outcome.specs.Ending.{EndedBringsTexts, IsOfOutput, shares}

-- the laws of groups
pub record GroupLaws : Type 0 where
  pub no_members : TextsAreNoMembers
  pub turns : GivesInTurn
  pub hands_out : HandsOut
  pub lowest : GetsTheLowest
  pub keeps : KeepsTheOthers
  pub others : KeepsOtherTexts
  pub freeing : FreeingKeepsTexts

-- TESTS

index_apart : (n : JobNo) (i j : ℕ) → i < j → (same_number n n && same_index (record { 0 = i }) (record { 0 = j })) ≡ false
index_apart n i j less = grind (arith, nat_tests)

index_below : (n : JobNo) (i j : ℕ) → i < j → (same_number n n && same_index (record { 0 = j }) (record { 0 = i })) ≡ false
index_below n i j less = grind (arith, nat_tests)

number_apart : (n k : JobNo) (i : ℕ) (l : OutNo) → same_number k n ≡ false → (same_number n k && same_index (record { 0 = i }) l) ≡ false
number_apart n k i l other = grind (arith, nat_tests)

-- NEW OWNERS

-- what no owner of any output's block is, no new owner is
new_All : (P : Owner → Type 0) (n : JobNo) (i : ℕ) (specs : List OutSpec) → ((j p : ℕ) → i ≤ j → P (owner.Output n (record { 0 = j }) p)) → All P (places_of_outputs n i specs)
new_All P n i [] holds = All-nil P
new_All P n i (s ∷ specs) holds =
    All-append P (output_places n (record { 0 = i }) (groups_needed s.text)) (places_of_outputs n (i + 1) specs)
    (block-All P (λ p. owner.Output n (record { 0 = i }) p) 0 (groups_needed s.text) (λ p. holds i p (omega arith)))
    (new_All P n (i + 1) specs (λ j p low. holds j p (omega arith)))

-- what neither an old nor a new owner is, none is after giving
given_none : (m : MemberId) (t : Thing) (new gs : List Owner) → AreNotOf t new → AreNotOf t gs → AreNotOf t (given m new gs)
given_none m t new [] a b = All-nil (λ o. is_things t o ≡ false)
given_none m t [] (g ∷ gs) a b = b
given_none m t (o ∷ new) (g ∷ gs) a b =
    test_cases (is_members m g) (AreNotOf t (given m (o ∷ new) (g ∷ gs)))
    (λ e. rw e (All-cons (λ o. is_things t o ≡ false) o (given m new gs) (All-head (λ o. is_things t o ≡ false) o new a)
    (given_none m t new gs (All-tail (λ o. is_things t o ≡ false) o new a) (All-tail (λ o. is_things t o ≡ false) g gs b))))
    (λ e. rw e (All-cons (λ o. is_things t o ≡ false) g (given m (o ∷ new) gs) (All-head (λ o. is_things t o ≡ false) g gs b)
    (given_none m t (o ∷ new) gs a (All-tail (λ o. is_things t o ≡ false) g gs b))))

-- EACH OUTPUT IN ITS SHARE

-- a new output, at a place of these, with the groups of its share
record IsAt (n : JobNo) (i : ℕ) (specs : List OutSpec) (groups : List GroupNo) (o : Output) (its : List GroupNo) : Type 0 where
  pub place : ℕ
  pub spec : OutSpec
  pub is : slice_get specs place ≡ Some spec
  pub job : o.job ≡ n
  pub index : o.index.0 ≡ i + place
  pub whole : o.text ≡ Whole spec.text
  pub there : slice_get (shares specs groups) place ≡ Some its

module _ (laws : GroupLaws) (m : MemberId) (n : JobNo) where
  abbrev block : ℕ → OutSpec → List Owner
  block i s = output_places n (record { 0 = i }) (groups_needed s.text)

  abbrev its : ℕ → Thing
  its i = thing.Output n (record { 0 = i })

  -- the first output has the first groups
  first_share : (i : ℕ) (s : OutSpec) (specs : List OutSpec) (gs : List Owner) → AreNotOf (its i) gs
      → groups_of (its i) (given m (block i s ++ places_of_outputs n (i + 1) specs) gs) ≡ take (groups_needed s.text) (held_by m gs)
  first_share i s specs gs none =
      ap (groups_of (its i)) (sym (laws.turns m (block i s) (places_of_outputs n (i + 1) specs) gs (laws.no_members m (its i) (groups_needed s.text))))
      ∙ laws.others m (its i) (places_of_outputs n (i + 1) specs) (given m (block i s) gs) (new_All (λ o. is_things (its i) o ≡ false) n (i + 1) specs (λ j p low. index_below n i j (omega arith)))
      ∙ laws.lowest m (its i) (groups_needed s.text) gs none

  -- the member keeps its groups after those that the first output gets
  left_over : (i : ℕ) (s : OutSpec) (gs : List Owner) → held_by m (given m (block i s) gs) ≡ drop (groups_needed s.text) (held_by m gs)
  left_over i s gs =
      laws.keeps m (block i s) gs (laws.no_members m (its i) (groups_needed s.text))
      ∙ ap (λ (k : ℕ). drop k (held_by m gs)) (length-places (λ p. owner.Output n (record { 0 = i }) p) 0 (groups_needed s.text))

  later : (i : ℕ) (s : OutSpec) (specs : List OutSpec) (gs : List Owner) (o : Output)
      → IsAt n (i + 1) specs (held_by m (given m (block i s) gs)) o (groups_of (thing.Output o.job o.index) (given m (places_of_outputs n (i + 1) specs) (given m (block i s) gs)))
      → IsAt n i (s ∷ specs) (held_by m gs) o (groups_of (thing.Output o.job o.index) (given m (block i s ++ places_of_outputs n (i + 1) specs) gs))
  later i s specs gs o at = record {
    place = suc at.place;
    spec = at.spec;
    is = at.is;
    job = at.job;
    index = omega (arith, at.index);
    whole = at.whole;
    there = sym (ap (λ (hs : List GroupNo). slice_get (shares specs hs) at.place) (left_over i s gs)) ∙ at.there
        ∙ ap (λ (ws : List Owner). Some (groups_of (thing.Output o.job o.index) ws)) (laws.turns m (block i s) (places_of_outputs n (i + 1) specs) gs (laws.no_members m (its i) (groups_needed s.text)));
  }

  all_placed : (i : ℕ) (specs : List OutSpec) (gs : List Owner) → ((j : ℕ) → i ≤ j → AreNotOf (its j) gs)
      → All (λ o. IsAt n i specs (held_by m gs) o (groups_of (thing.Output o.job o.index) (given m (places_of_outputs n i specs) gs))) (new_outputs n i specs)
  all_placed i [] gs none = All-nil (λ o. IsAt n i [] (held_by m gs) o (groups_of (thing.Output o.job o.index) (given m (places_of_outputs n i []) gs)))
  all_placed i (s ∷ specs) gs none =
      All-cons (λ o. IsAt n i (s ∷ specs) (held_by m gs) o (groups_of (thing.Output o.job o.index) (given m (block i s ++ places_of_outputs n (i + 1) specs) gs))) (new_output n i s) (new_outputs n (i + 1) specs)
      (record { place = 0; spec = s; is = refl; job = refl; index = omega arith; whole = refl; there = ap Some (sym (first_share i s specs gs (none i (omega arith)))) })
      (All-weaker (λ o. IsAt n (i + 1) specs (held_by m (given m (block i s) gs)) o (groups_of (thing.Output o.job o.index) (given m (places_of_outputs n (i + 1) specs) (given m (block i s) gs))))
      (λ o. IsAt n i (s ∷ specs) (held_by m gs) o (groups_of (thing.Output o.job o.index) (given m (block i s ++ places_of_outputs n (i + 1) specs) gs)))
      (λ o at. later i s specs gs o at) (new_outputs n (i + 1) specs)
      (all_placed (i + 1) specs (given m (block i s) gs)
      (λ j low. given_none m (its j) (block i s) gs (block-All (λ o. is_things (its j) o ≡ false) (λ p. owner.Output n (record { 0 = i }) p) 0 (groups_needed s.text) (λ p. index_apart n i j (omega arith))) (none j (omega arith)))))

-- THE JOB HAS ENDED

-- each text of a queue was there
was_there : (Q : Queue) → HoldsOfTexts (λ t text groups. WasThere Q t text groups) Q
was_there Q = record {
  decks = λ k d lt. record { job = slice_index_or Q.jobs k d; there = All-contains_itself Q.jobs k d lt; number = refl; same = refl; where_it_was = refl };
  outputs = λ k d lt. record { output = slice_index_or Q.outputs k d; there = All-contains_itself Q.outputs k d lt; number = refl; index_is = refl; same = refl; where_it_was = refl };
}

module _ (laws : GroupLaws) (Q : Queue) (m : MemberId) (n : JobNo) (specs : List OutSpec) (own : AreTheirOwn Q) (none : has_output n Q ≡ false) where
  abbrev new : List Owner
  new = places_of_outputs n 1 specs

  abbrev after : List Owner
  after = handed_out m new Q.owners

  abbrev Was : Thing → Text → List GroupNo → Type 0
  Was t text groups = WasThere Q t text groups

  abbrev Is : Thing → Text → List GroupNo → Type 0
  Is t text groups = IsOfOutput n specs (held_by m Q.owners) t text groups ⊎ WasThere Q t text groups

  abbrev IsPrint : Output → Type 0
  IsPrint o = Is (thing.Output o.job o.index) o.text (groups_of (thing.Output o.job o.index) after)

  no_members : AreNoMembers m new
  no_members = new_All (λ o. is_members m o ≡ false) n 1 specs (λ j p low. refl)

  groups_as : (t : Thing) → groups_of t after ≡ groups_of t (given m new Q.owners)
  groups_as t = ap (groups_of t) (sym (laws.hands_out m new Q.owners no_members)) ∙ laws.freeing m t (given m new Q.owners)

  groups_beside : (t : Thing) → AreNotOf t new → groups_of t after ≡ groups_of t Q.owners
  groups_beside t other = groups_as t ∙ laws.others m t new Q.owners other

  each_deck : (k : JobNo) → groups_of (thing.Deck k) after ≡ groups_of (thing.Deck k) Q.owners
  each_deck k = groups_beside (thing.Deck k) (new_All (λ o. is_things (thing.Deck k) o ≡ false) n 1 specs (λ j p low. refl))

  other_print : (k : JobNo) (i : OutNo) → same_number k n ≡ false → groups_of (thing.Output k i) after ≡ groups_of (thing.Output k i) Q.owners
  other_print k i other = groups_beside (thing.Output k i) (new_All (λ o. is_things (thing.Output k i) o ≡ false) n 1 specs (λ j p low. number_apart n k j i other))

  none_of : All (λ o. is_of n o ≡ false) Q.outputs
  none_of = any_none (is_of n) Q.outputs none

  -- no group is of an output of the job yet
  no_print : (i : OutNo) (g : Owner) → is_owner_there Q.config Q.jobs Q.outputs g ≡ true → is_things (thing.Output n i) g ≡ false
  no_print i owner.Free there = refl
  no_print i (owner.Member k) there = refl
  no_print i (owner.Deck k p) there = refl
  no_print i (owner.Output k l p) there =
      test_cases (same_number k n) ((same_number k n && same_index l i) ≡ false)
      (λ e. absurd (none_found k l e (find (has_key k l) Q.outputs) refl there))
      (λ e. rw e refl)
    where
      clash : (k : JobNo) (l : OutNo) (o : Output) → same_number k n ≡ true → is_of n o ≡ false → has_key k l o ≡ true → ⊥
      clash k l o e apart at_key = absurd (grind (arith, nat_tests))

      none_found : (k : JobNo) (l : OutNo) → same_number k n ≡ true → (o : Option Output) → find (has_key k l) Q.outputs ≡ o → is_some o ≡ true → ⊥
      none_found k l e None h there = cc
      none_found k l e (Some o) h there =
          let here = find-All (λ o. is_of n o ≡ false) (has_key k l) Q.outputs o none_of h in
          clash k l o e here.0 here.1

  not_yet : (i : ℕ) → AreNotOf (thing.Output n (record { 0 = i })) Q.owners
  not_yet i = All-weaker (λ g. is_owner_there Q.config Q.jobs Q.outputs g ≡ true) (λ g. is_things (thing.Output n (record { 0 = i })) g ≡ false) (no_print (record { 0 = i })) Q.owners own.owners

  of_new : (o : Output) → IsAt n 1 specs (held_by m Q.owners) o (groups_of (thing.Output o.job o.index) (given m new Q.owners)) → IsPrint o
  of_new o at =
      let index : o.index.0 ≡ at.place + 1 = omega (arith, at.index) in
      inl (record {
        place = at.place;
        spec = at.spec;
        is = at.is;
        of_it = ap (λ (k : JobNo). thing.Output k o.index) at.job ∙ ap (λ (v : ℕ). thing.Output n (record { 0 = v })) index;
        whole = at.whole;
        there = at.there ∙ ap Some (sym (groups_as (thing.Output o.job o.index)));
      })

  pub ended_texts : HoldsOfTexts (λ t text groups. Is t text groups) (with_outputs m n specs (change_job n ended Q))
  ended_texts = record {
    decks = All-change (has_number n) ended (λ j. Is (thing.Deck j.number) j.text (groups_of (thing.Deck j.number) after)) Q.jobs
        (All-weaker (λ j. Was (thing.Deck j.number) j.text (groups_of (thing.Deck j.number) Q.owners)) (λ j. Is (thing.Deck j.number) j.text (groups_of (thing.Deck j.number) after))
        (λ j old. inr (subst (λ (groups : List GroupNo). Was (thing.Deck j.number) j.text groups) (sym (each_deck j.number)) old)) Q.jobs (was_there Q).decks)
        (λ j here is. is);
    outputs = All-append IsPrint Q.outputs (new_outputs n 1 specs)
        (All-both (λ o. Was (thing.Output o.job o.index) o.text (groups_of (thing.Output o.job o.index) Q.owners)) (λ o. is_of n o ≡ false) IsPrint Q.outputs
        (λ o old other. inr (subst (λ (groups : List GroupNo). Was (thing.Output o.job o.index) o.text groups) (sym (other_print o.job o.index other)) old)) (was_there Q).outputs none_of)
        (All-weaker (λ o. IsAt n 1 specs (held_by m Q.owners) o (groups_of (thing.Output o.job o.index) (given m new Q.owners))) IsPrint of_new (new_outputs n 1 specs)
        (all_placed laws m n 1 specs Q.owners (λ j low. not_yet j)));
  }

  pub stays : HoldsOfTexts (λ t text groups. Is t text groups) Q
  stays = record {
    decks = All-weaker (λ j. Was (thing.Deck j.number) j.text (groups_of (thing.Deck j.number) Q.owners)) (λ j. Is (thing.Deck j.number) j.text (groups_of (thing.Deck j.number) Q.owners)) (λ j old. inr old) Q.jobs (was_there Q).decks;
    outputs = All-weaker (λ o. Was (thing.Output o.job o.index) o.text (groups_of (thing.Output o.job o.index) Q.owners)) (λ o. Is (thing.Output o.job o.index) o.text (groups_of (thing.Output o.job o.index) Q.owners)) (λ o old. inr old) Q.outputs (was_there Q).outputs;
  }

pub ended_brings : GroupLaws → EndedBringsTexts
ended_brings laws Q m n specs own none =
    let outs = outputs_at_end (job_at Q n) specs in
    done_keeps Q (ended_row Q m n specs) (HoldsOfTexts (λ t text groups. IsOfOutput n outs (held_by m Q.owners) t text groups ⊎ WasThere Q t text groups))
    (stays laws Q m n outs own none) (λ unrefused. ended_texts laws Q m n outs own none)
