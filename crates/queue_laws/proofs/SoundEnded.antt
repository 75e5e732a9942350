-- Ended keeps the sound parts.
use Rattle.std.proofs.Common.{◌≡◌, ℕ, zero, suc, ◌+◌, ◌<◌, ◌≤◌, Bool, true, false, not, ◌&&◌, nat_eq, nat_lt, ◌==◌, List, [], ◌∷◌, ◌++◌, length, Option, Some, None, refl, ap, sym, ◌∙◌, subst, inl, inr, arith, length-append}
use Rattle.std.specs.Prelude.{if◌then◌else◌, is_some}
use Rattle.std.specs.Option.{option_map_or}
use Rattle.std.specs.List.{find, list_any, All}
use Rattle.std.proofs.lemmas.Bool.{eq-eqb}
use Rattle.std.proofs.lemmas.Bool.Decides.{eqb_tells, leb_tells, nat_tests}
use Rattle.std.proofs.lemmas.List.Sums.{sum_by-cons}
use Rattle.std.proofs.lemmas.List.Elements.{All-cons, All-head, All-tail, All-nil, All-weaker, All-append}
use Rattle.mas_types.specs.declared.ids.MemberId.{MemberId}
use Rattle.mas_types.specs.declared.ids.JobNo.{JobNo}
use Rattle.mas_types.specs.declared.ids.OutNo.{OutNo}
use Rattle.mas_types.specs.declared.jobs.Phase.{Phase}
use Rattle.mas_types.specs.declared.jobs.Phase.TheVariants as phase
use Rattle.mas_types.specs.declared.jobs.Job.{Job}
use Rattle.mas_types.specs.declared.jobs.OutSpec.{OutSpec}
use Rattle.mas_types.specs.declared.jobs.Output.{Output}
use Rattle.mas_types.specs.declared.queues.Config.{Config}
use Rattle.mas_types.specs.declared.queues.Owner.{Owner}
use Rattle.mas_types.specs.declared.queues.Owner.TheVariants as owner
use Rattle.mas_types.specs.declared.queues.Queue.{Queue}
use Rattle.mas_types.specs.declared.commands.Refusal.TheVariants as refusal
use Rattle.mas_types.specs.Lists.{change_first, first_some}
use Rattle.mas_types.specs.Ids.{same_number, same_index, same_member, is_somebody, nobody}
use Rattle.mas_types.specs.Queue.{in_input, has_number, has_key, is_of, job_at, change_job}
use Rattle.mas_types.specs.Owners.{is_members, member_count, handed_out, places, output_places, is_deck_of, is_output_of, groups_needed}
use Rattle.mas_types.specs.Row.{none_such, wrong_phase, job_not_at, refused_where}
use Rattle.mas_types.specs.Commands.Life.{new_output, new_outputs, places_of_outputs, groups_of_outputs, ended, is_cancelled, outputs_at_end, are_outputs_full, lacks_groups, with_outputs, runs, ended_row}
use Rattle.mas_types.specs.Fit.{AreDistinct, IsOutSpec}
use Rattle.mas_types.specs.Sound.{IsSound, IsSoundJob, IsSoundOutput, HasDeckGroup, HasOutputGroup, is_there, is_owner_there, may_have_outputs, is_place_before_there, same_place, same_key, same_printer}
use Rattle.queue_laws.proofs.Done.{none_first, where_not}
use Rattle.queue_laws.proofs.Owned.{is_any_output_of}
use Rattle.queue_laws.proofs.Finds.{test_cases, find-All, find-change_same, find-append}
use Rattle.queue_laws.proofs.Others.{second_none, third_none, after_two}
use Rattle.queue_laws.proofs.Soundness.{All-change, length-change, AreDistinct-change, is_there-change}
use Rattle.queue_laws.proofs.SoundJobs.{in_phase_of}
use Rattle.queue_laws.proofs.SoundBegin.{any-append}
use Rattle.queue_laws.proofs.SoundEnter.{one_group, All-none}
use Rattle.queue_laws.proofs.Handing.{length-handed_out}
use Rattle.queue_laws.proofs.HandedOut.{AreNew, any-handed, All-handed, places-handed, gaps-handed, length-places, or_left, or_right, or_false}

-- TESTS

no_outputs_runs : (p : Phase) → runs p ≡ true → may_have_outputs p ≡ false
no_outputs_runs phase.Convert h = refl
no_outputs_runs phase.Execute h = refl
no_outputs_runs phase.Input h = absurd (cc)
no_outputs_runs phase.Output h = absurd (cc)
no_outputs_runs phase.Hardcopy h = absurd (cc)
no_outputs_runs phase.Purge h = absurd (cc)
no_outputs_runs phase.Xmit h = absurd (cc)

past_ended : (cancelled : Bool) → in_input (if cancelled then phase.Purge else phase.Output) ≡ false
past_ended true = refl
past_ended false = refl

and_none : (a : Bool) → (a && false) ≡ false
and_none true = refl
and_none false = refl

-- LISTS SIDE BY SIDE

AreDistinct-append : {A : Type 0} (same : A → A → Bool) (xs ys : List A) → AreDistinct same xs → AreDistinct same ys → All (λ x. list_any (same x) ys ≡ false) xs → AreDistinct same (xs ++ ys)
AreDistinct-append same [] ys dx dy apart = dy
AreDistinct-append same (x ∷ xs) ys dx dy apart = (
  any-append (same x) xs ys ∙ rw (dx.0, All-head (λ x. list_any (same x) ys ≡ false) x xs apart) refl,
  AreDistinct-append same xs ys dx.1 dy (All-tail (λ x. list_any (same x) ys ≡ false) x xs apart),
)

-- OUTPUT PLACES

output_later : (n : JobNo) (i : OutNo) (p q count : ℕ) → p < q → list_any (same_place (owner.Output n i p)) (places (λ r. owner.Output n i r) q count) ≡ false
output_later n i p q zero less = refl
output_later n i p q (suc count) less =
    let other : (p == q) ≡ false = grind (arith, nat_tests) in
    rw (other, and_none (same_number n n && same_index i i)) (output_later n i p (q + 1) count (omega arith))

output_distinct : (n : JobNo) (i : OutNo) (p count : ℕ) → AreDistinct same_place (places (λ r. owner.Output n i r) p count)
output_distinct n i p zero = tt
output_distinct n i p (suc count) = (output_later n i p (p + 1) count (omega arith), output_distinct n i (p + 1) count)

output_has : (n : JobNo) (i : OutNo) (q p count : ℕ) → p ≤ q → q < p + count → list_any (same_place (owner.Output n i q)) (places (λ r. owner.Output n i r) p count) ≡ true
output_has n i q p zero low high = absurd (omega arith)
output_has n i q p (suc count) low high =
    test_cases (q == p) (list_any (same_place (owner.Output n i q)) (places (λ r. owner.Output n i r) p (suc count)) ≡ true)
    (λ e. rw (eq-eqb n.0 n.0 refl, eq-eqb i.0 i.0 refl, e) refl)
    (λ e. let more : p + 1 ≤ q = grind (arith, nat_tests) in rw (eq-eqb n.0 n.0 refl, eq-eqb i.0 i.0 refl, e) (output_has n i q (p + 1) count more (omega arith)))

output_before : (n : JobNo) (i : OutNo) (all : List Owner) (p count : ℕ) → ((q : ℕ) → q < p + count → list_any (same_place (owner.Output n i q)) all ≡ true) → All (λ x. is_place_before_there all x ≡ true) (places (λ r. owner.Output n i r) p count)
output_before n i all p zero has = All-nil (λ x. is_place_before_there all x ≡ true)
output_before n i all zero (suc count) has = All-cons (λ x. is_place_before_there all x ≡ true) (owner.Output n i 0) (places (λ r. owner.Output n i r) (0 + 1) count) refl (output_before n i all (0 + 1) count (λ q less. has q (omega arith)))
output_before n i all (suc p) (suc count) has = All-cons (λ x. is_place_before_there all x ≡ true) (owner.Output n i (suc p)) (places (λ r. owner.Output n i r) (suc p + 1) count) (has p (omega arith)) (output_before n i all (suc p + 1) count (λ q less. has q (omega arith)))

-- what holds of each place holds of each place of a block
pub block-All : (P : Owner → Type 0) (at : ℕ → Owner) (p count : ℕ) → ((q : ℕ) → P (at q)) → All P (places at p count)
block-All P at p zero holds = All-nil P
block-All P at p (suc count) holds = All-cons P (at p) (places at (p + 1) count) (holds p) (block-All P at (p + 1) count holds)

block-none : (t : Owner → Bool) (at : ℕ → Owner) (p count : ℕ) → ((q : ℕ) → t (at q) ≡ false) → list_any t (places at p count) ≡ false
block-none t at p count fails = All-none t (places at p count) (block-All (λ g. t g ≡ false) at p count fails)

index_apart : (n : JobNo) (j i p q : ℕ) → j < i → (same_number n n && (j == i) && (p == q)) ≡ false
index_apart n j i p q less = let other : (j == i) ≡ false = grind (arith, nat_tests) in rw (other, and_none (same_number n n)) refl

-- no place of an output with a lesser index is among those of later outputs
later_outputs : (n : JobNo) (j p i : ℕ) (specs : List OutSpec) → j < i → list_any (same_place (owner.Output n (record { 0 = j }) p)) (places_of_outputs n i specs) ≡ false
later_outputs n j p i [] less = refl
later_outputs n j p i (s ∷ specs) less =
    any-append (same_place (owner.Output n (record { 0 = j }) p)) (output_places n (record { 0 = i }) (groups_needed s.text)) (places_of_outputs n (i + 1) specs)
    ∙ rw (
      block-none (same_place (owner.Output n (record { 0 = j }) p)) (λ r. owner.Output n (record { 0 = i }) r) 0 (groups_needed s.text) (λ q. index_apart n j i p q less),
      later_outputs n j p (i + 1) specs (omega arith),
    ) refl

outputs_distinct : (n : JobNo) (i : ℕ) (specs : List OutSpec) → AreDistinct same_place (places_of_outputs n i specs)
outputs_distinct n i [] = tt
outputs_distinct n i (s ∷ specs) =
    AreDistinct-append same_place (output_places n (record { 0 = i }) (groups_needed s.text)) (places_of_outputs n (i + 1) specs)
    (output_distinct n (record { 0 = i }) 0 (groups_needed s.text)) (outputs_distinct n (i + 1) specs)
    (block-All (λ x. list_any (same_place x) (places_of_outputs n (i + 1) specs) ≡ false) (λ r. owner.Output n (record { 0 = i }) r) 0 (groups_needed s.text) (λ q. later_outputs n i q (i + 1) specs (omega arith)))

outputs_gaps : (n : JobNo) (i : ℕ) (specs : List OutSpec) (all : List Owner) → ((t : Owner → Bool) → list_any t (places_of_outputs n i specs) ≡ true → list_any t all ≡ true) → All (λ x. is_place_before_there all x ≡ true) (places_of_outputs n i specs)
outputs_gaps n i [] all within = All-nil (λ x. is_place_before_there all x ≡ true)
outputs_gaps n i (s ∷ specs) all within =
    let block = output_places n (record { 0 = i }) (groups_needed s.text) in
    All-append (λ x. is_place_before_there all x ≡ true) block (places_of_outputs n (i + 1) specs)
    (output_before n (record { 0 = i }) all 0 (groups_needed s.text) (λ q less. within (same_place (owner.Output n (record { 0 = i }) q)) (any-append _ block (places_of_outputs n (i + 1) specs) ∙ or_left _ _ (output_has n (record { 0 = i }) q 0 (groups_needed s.text) (omega arith) (omega arith)))))
    (outputs_gaps n (i + 1) specs all (λ t h. within t (any-append t block (places_of_outputs n (i + 1) specs) ∙ or_right _ _ h)))

not_same_output : (n : JobNo) (j : OutNo) (p : ℕ) (g : Owner) → is_any_output_of n g ≡ false → same_place (owner.Output n j p) g ≡ false
not_same_output n j p owner.Free h = refl
not_same_output n j p (owner.Member m) h = refl
not_same_output n j p (owner.Deck k q) h = refl
not_same_output n j p (owner.Output k i q) h = apart n k j i p q h
  where
    apart : (n k : JobNo) (j i : OutNo) (p q : ℕ) → same_number k n ≡ false → (same_number n k && same_index j i && (p == q)) ≡ false
    apart n k j i p q h = grind (arith, nat_tests)

no_same_output : (n : JobNo) (j : OutNo) (p : ℕ) (gs : List Owner) → list_any (is_any_output_of n) gs ≡ false → list_any (same_place (owner.Output n j p)) gs ≡ false
no_same_output n j p [] h = refl
no_same_output n j p (g ∷ gs) h =
    let parts = or_false (is_any_output_of n g) (list_any (is_any_output_of n) gs) h in
    rw (not_same_output n j p g parts.0) (no_same_output n j p gs parts.1)

outputs_apart : (n : JobNo) (gs : List Owner) (i : ℕ) (specs : List OutSpec) → list_any (is_any_output_of n) gs ≡ false → All (λ x. list_any (same_place x) gs ≡ false) (places_of_outputs n i specs)
outputs_apart n gs i [] none = All-nil (λ x. list_any (same_place x) gs ≡ false)
outputs_apart n gs i (s ∷ specs) none =
    All-append (λ x. list_any (same_place x) gs ≡ false) (output_places n (record { 0 = i }) (groups_needed s.text)) (places_of_outputs n (i + 1) specs)
    (block-All (λ x. list_any (same_place x) gs ≡ false) (λ r. owner.Output n (record { 0 = i }) r) 0 (groups_needed s.text) (λ q. no_same_output n (record { 0 = i }) q gs none))
    (outputs_apart n gs (i + 1) specs none)

pub outputs_new : (n : JobNo) (specs : List OutSpec) (gs : List Owner) → list_any (is_any_output_of n) gs ≡ false → AreNew (places_of_outputs n 1 specs) gs
outputs_new n specs gs none = record {
  distinct = outputs_distinct n 1 specs;
  apart = outputs_apart n gs 1 specs none;
  no_gaps = outputs_gaps n 1 specs (places_of_outputs n 1 specs) (λ t h. h);
}

length-places_of_outputs : (n : JobNo) (i : ℕ) (specs : List OutSpec) → length (places_of_outputs n i specs) ≡ groups_of_outputs specs
length-places_of_outputs n i [] = refl
length-places_of_outputs n i (s ∷ specs) =
    length-append (output_places n (record { 0 = i }) (groups_needed s.text)) (places_of_outputs n (i + 1) specs)
    ∙ rw (length-places (λ p. owner.Output n (record { 0 = i }) p) 0 (groups_needed s.text), length-places_of_outputs n (i + 1) specs) (sym (sum_by-cons (λ s. groups_needed s.text) s specs))

-- NEW OUTPUTS

length-new_outputs : (n : JobNo) (i : ℕ) (specs : List OutSpec) → length (new_outputs n i specs) ≡ length specs
length-new_outputs n i [] = refl
length-new_outputs n i (s ∷ specs) = ap suc (length-new_outputs n (i + 1) specs)

later_keys : (n : JobNo) (i : ℕ) (s : OutSpec) (j : ℕ) (specs : List OutSpec) → i < j → list_any (same_key (new_output n i s)) (new_outputs n j specs) ≡ false
later_keys n i s j [] less = refl
later_keys n i s j (t ∷ specs) less =
    let other : (j == i) ≡ false = grind (arith, nat_tests) in
    rw (other, and_none (same_number n n)) (later_keys n i s (j + 1) specs (omega arith))

new_keys : (n : JobNo) (i : ℕ) (specs : List OutSpec) → AreDistinct same_key (new_outputs n i specs)
new_keys n i [] = tt
new_keys n i (s ∷ specs) = (later_keys n i s (i + 1) specs (omega arith), new_keys n (i + 1) specs)

other_keys : (o : Output) (n : JobNo) (i : ℕ) (specs : List OutSpec) → is_of n o ≡ false → list_any (same_key o) (new_outputs n i specs) ≡ false
other_keys o n i [] apart = refl
other_keys o n i (s ∷ specs) apart = rw (key_apart o n i apart) (other_keys o n (i + 1) specs apart)
  where
    key_apart : (o : Output) (n : JobNo) (i : ℕ) → is_of n o ≡ false → (same_number n o.job && (i == o.index.0)) ≡ false
    key_apart o n i apart = grind (arith, nat_tests)

nobody_prints : (m : MemberId) → (is_somebody m && same_member m nobody) ≡ false
nobody_prints m = test_cases (m.0 == 0) ((is_somebody m && same_member m nobody) ≡ false) (λ e. rw e refl) (λ e. rw e refl)

idle_printers : (o : Output) (n : JobNo) (i : ℕ) (specs : List OutSpec) → list_any (same_printer o) (new_outputs n i specs) ≡ false
idle_printers o n i [] = refl
idle_printers o n i (s ∷ specs) = rw (nobody_prints o.busy) (idle_printers o n (i + 1) specs)

new_printers : (n : JobNo) (i : ℕ) (specs : List OutSpec) → AreDistinct same_printer (new_outputs n i specs)
new_printers n i [] = tt
new_printers n i (s ∷ specs) = (idle_printers (new_output n i s) n (i + 1) specs, new_printers n (i + 1) specs)

new_right : (config : Config) (jobs : List Job) (n : JobNo) → is_there (λ j. may_have_outputs j.phase) jobs n ≡ true → (i : ℕ) (specs : List OutSpec) → All IsOutSpec specs → 1 ≤ i → i + length specs ≤ 33 → All (IsSoundOutput config jobs) (new_outputs n i specs)
new_right config jobs n there i [] fit low high = All-nil (IsSoundOutput config jobs)
new_right config jobs n there i (s ∷ specs) fit low high =
    let head = All-head IsOutSpec s specs fit in
    All-cons (IsSoundOutput config jobs) (new_output n i s) (new_outputs n (i + 1) specs) (record {
      index = (low, omega arith);
      copies = head.copies;
      lines = head.lines;
      job = there;
      busy = refl;
      text = head.text;
      mark = omega arith;
    }) (new_right config jobs n there (i + 1) specs (All-tail IsOutSpec s specs fit) (omega arith) (omega arith))

-- each new output has a group among the new owners
new_groups : (n : JobNo) (i : ℕ) (specs : List OutSpec) (hs : List Owner) → ((t : Owner → Bool) → t owner.Free ≡ false → ((m : MemberId) → t (owner.Member m) ≡ false) → list_any t (places_of_outputs n i specs) ≡ true → list_any t hs ≡ true) → All (HasOutputGroup hs) (new_outputs n i specs)
new_groups n i [] hs within = All-nil (HasOutputGroup hs)
new_groups n i (s ∷ specs) hs within =
    let block = output_places n (record { 0 = i }) (groups_needed s.text) in
    All-cons (HasOutputGroup hs) (new_output n i s) (new_outputs n (i + 1) specs)
    (λ some. within (is_output_of n (record { 0 = i })) refl (λ m. refl) (any-append (is_output_of n (record { 0 = i })) block (places_of_outputs n (i + 1) specs) ∙ or_left _ _ (block_there n (record { 0 = i }) 0 (groups_needed s.text) (one_group 0 s.text))))
    (new_groups n (i + 1) specs hs (λ t free member h. within t free member (any-append t block (places_of_outputs n (i + 1) specs) ∙ or_right _ _ h)))
  where
    block_there : (n : JobNo) (i : OutNo) (p count : ℕ) → 1 ≤ count → list_any (is_output_of n i) (places (λ r. owner.Output n i r) p count) ≡ true
    block_there n i p zero some = absurd (omega arith)
    block_there n i p (suc count) some = rw (eq-eqb n.0 n.0 refl, eq-eqb i.0 i.0 refl) refl

own_key : (n : JobNo) (i : ℕ) (s : OutSpec) → has_key n (record { 0 = i }) (new_output n i s) ≡ true
own_key n i s = rw (eq-eqb n.0 n.0 refl, eq-eqb i i refl) refl

-- each new owner's output is there
new_there : (config : Config) (jobs : List Job) (n : JobNo) (i : ℕ) (specs : List OutSpec) (os : List Output) → ((t : Output → Bool) → list_any t (new_outputs n i specs) ≡ true → list_any t os ≡ true) → All (λ g. is_owner_there config jobs os g ≡ true) (places_of_outputs n i specs)
new_there config jobs n i [] os within = All-nil (λ g. is_owner_there config jobs os g ≡ true)
new_there config jobs n i (s ∷ specs) os within =
    All-append (λ g. is_owner_there config jobs os g ≡ true) (output_places n (record { 0 = i }) (groups_needed s.text)) (places_of_outputs n (i + 1) specs)
    (block-All (λ g. is_owner_there config jobs os g ≡ true) (λ r. owner.Output n (record { 0 = i }) r) 0 (groups_needed s.text) (λ q. some_found (has_key n (record { 0 = i })) os (within (has_key n (record { 0 = i })) (or_left _ _ (own_key n i s)))))
    (new_there config jobs n (i + 1) specs os (λ t h. within t (or_right _ _ h)))
  where
    some_found : (t : Output → Bool) (os : List Output) → list_any t os ≡ true → is_some (find t os) ≡ true
    some_found t [] h = absurd (cc)
    some_found t (o ∷ os) h = test_cases (t o) (is_some (find t (o ∷ os)) ≡ true) (λ e. rw e refl) (λ e. rw e (some_found t os (rw e at h)))

-- THE JOB HAS ENDED

module _ (Q : Queue) (m : MemberId) (n : JobNo) (specs : List OutSpec) (x : Job) (found : job_at Q n ≡ Some x) (ran : runs x.phase ≡ true) where
  abbrev new : List Owner
  new = places_of_outputs n 1 specs

  abbrev more : List Output
  more = new_outputs n 1 specs

  abbrev jobs' : List Job
  jobs' = change_first (has_number n) ended Q.jobs

  ran_at : (j : Job) → job_at Q n ≡ Some j → may_have_outputs j.phase ≡ false
  ran_at j here = no_outputs_runs j.phase (subst (λ (y : Job). runs y.phase ≡ true) (let same : x ≡ j = cc (found, here) in same) ran)

  -- no output is of the job yet
  none_of : IsSound Q → All (λ o. is_of n o ≡ false) Q.outputs
  none_of sound = All-weaker (IsSoundOutput Q.config Q.jobs) (λ o. is_of n o ≡ false) (λ o s. other o s.job) Q.outputs sound.outputs
    where
      other : (o : Output) → is_there (λ j. may_have_outputs j.phase) Q.jobs o.job ≡ true → is_of n o ≡ false
      other o there =
          elim (eqb_tells o.job.0 n.0) [
            | inl w ↦ absurd (let here = subst (λ (v : ℕ). option_map_or (λ j. may_have_outputs j.phase) (find (λ (y : Job). nat_eq y.number.0 v) Q.jobs) false ≡ true) w.1 there in
                let may : may_have_outputs x.phase ≡ true = rw found at here in cc (may, ran_at x found))
            | inr w ↦ w.0
          ]

  none_owned : IsSound Q → (g : Owner) → is_owner_there Q.config Q.jobs Q.outputs g ≡ true → is_any_output_of n g ≡ false
  none_owned sound owner.Free there = refl
  none_owned sound (owner.Member k) there = refl
  none_owned sound (owner.Deck k p) there = refl
  none_owned sound (owner.Output k i p) there =
      test_cases (same_number k n) (same_number k n ≡ false)
      (λ e. absurd (none_found k i e (find (has_key k i) Q.outputs) refl there))
      (λ e. e)
    where
      clash : (k : JobNo) (i : OutNo) (o : Output) → same_number k n ≡ true → is_of n o ≡ false → has_key k i o ≡ true → ⊥
      clash k i o e apart at_key = absurd (grind (arith, nat_tests))

      none_found : (k : JobNo) (i : OutNo) → same_number k n ≡ true → (o : Option Output) → find (has_key k i) Q.outputs ≡ o → is_some o ≡ true → ⊥
      none_found k i e None h there = cc
      none_found k i e (Some o) h there =
          let here = find-All (λ o. is_of n o ≡ false) (has_key k i) Q.outputs o (none_of sound) h in
          clash k i o e here.0 here.1

  owner_kept : (g : Owner) → is_members m g ≡ false → is_owner_there Q.config Q.jobs Q.outputs g ≡ true → is_owner_there Q.config jobs' (Q.outputs ++ more) g ≡ true
  owner_kept owner.Free other there = refl
  owner_kept (owner.Member k) other there = there
  owner_kept (owner.Deck k p) other there = is_there-change n ended (λ j. refl) (λ j. not (in_input j.phase)) Q.jobs k (λ j same here past. rw (past_ended j.cancelled) refl) there
  owner_kept (owner.Output k i p) other there = go (find (has_key k i) Q.outputs) refl there
    where
      go : (o : Option Output) → find (has_key k i) Q.outputs ≡ o → is_some o ≡ true → is_some (find (has_key k i) (Q.outputs ++ more)) ≡ true
      go None h there = absurd (cc)
      go (Some o) h there = rw (find-append (has_key k i) Q.outputs more o h) refl

  pub ended_by : IsSound Q → All (IsSoundOutput Q.config jobs') more → length Q.outputs + length specs ≤ Q.config.outputs → groups_of_outputs specs ≤ member_count m Q.owners → IsSound (with_outputs m n specs (change_job n ended Q))
  ended_by sound right fit enough =
      let hs = handed_out m new Q.owners in
      let none : list_any (is_any_output_of n) Q.owners ≡ false = All-none (is_any_output_of n) Q.owners (All-weaker (λ g. is_owner_there Q.config Q.jobs Q.outputs g ≡ true) (λ g. is_any_output_of n g ≡ false) (none_owned sound) Q.owners sound.owners) in
      let fresh = outputs_new n specs Q.owners none in
      let room : length (places_of_outputs n 1 specs) ≤ member_count m Q.owners = rw (length-places_of_outputs n 1 specs) enough in
      record {
        config = sound.config;
        few_jobs = rw (length-change (has_number n) ended Q.jobs) sound.few_jobs;
        few_outputs = omega (arith, length-append Q.outputs (new_outputs n 1 specs), length-new_outputs n 1 specs, fit);
        each_group = length-handed_out m new Q.owners ∙ sound.each_group;
        each_member = sound.each_member;
        few_routes = sound.few_routes;
        each_line = sound.each_line;
        last = sound.last;
        members = sound.members;
        jobs = All-change (has_number n) ended (IsSoundJob Q.config) Q.jobs sound.jobs (λ j here s. record {
          number = s.number;
          busy = refl;
          busy_phase = λ e. absurd (cc);
          text = s.text;
          no_cards = λ e. absurd (let w = rw (past_ended j.cancelled) at e in cc);
        });
        decks = All-change (has_number n) ended (HasDeckGroup hs) Q.jobs
            (All-weaker (HasDeckGroup Q.owners) (HasDeckGroup hs) (λ j deck some. any-handed m (is_deck_of j.number) (record { free = refl; member = λ k. refl }) new Q.owners room ∙ or_left _ _ (deck some)) Q.jobs sound.decks)
            (λ j here deck. deck);
        outputs = All-append (IsSoundOutput Q.config jobs') Q.outputs more
            (All-weaker (IsSoundOutput Q.config Q.jobs) (IsSoundOutput Q.config jobs') (λ o s. record {
              index = s.index;
              copies = s.copies;
              lines = s.lines;
              job = is_there-change n ended (λ j. refl) (λ j. may_have_outputs j.phase) Q.jobs o.job (λ j same here may. absurd (cc (may, ran_at j here))) s.job;
              busy = s.busy;
              text = s.text;
              mark = s.mark;
            }) Q.outputs sound.outputs) right;
        groups = All-append (HasOutputGroup hs) Q.outputs more
            (All-weaker (HasOutputGroup Q.owners) (HasOutputGroup hs) (λ o group some. any-handed m (is_output_of o.job o.index) (record { free = refl; member = λ k. refl }) new Q.owners room ∙ or_left _ _ (group some)) Q.outputs sound.groups)
            (new_groups n 1 specs hs (λ t free member h. any-handed m t (record { free = free; member = member }) new Q.owners room ∙ or_right _ _ h));
        owners = All-handed m (λ g. is_owner_there Q.config Q.jobs Q.outputs g ≡ true) (λ g. is_owner_there Q.config jobs' (Q.outputs ++ more) g ≡ true) refl owner_kept new Q.owners
            (new_there Q.config jobs' n 1 specs (Q.outputs ++ more) (λ t h. any-append t Q.outputs more ∙ or_right _ _ h)) sound.owners;
        numbers = AreDistinct-change (has_number n) ended (λ a b. same_number a.number b.number) (λ x y. refl) (λ x y. refl) Q.jobs sound.numbers;
        keys = AreDistinct-append same_key Q.outputs more sound.keys (new_keys n 1 specs) (All-weaker (λ o. is_of n o ≡ false) (λ o. list_any (same_key o) (new_outputs n 1 specs) ≡ false) (λ o apart. other_keys o n 1 specs apart) Q.outputs (none_of sound));
        printers = AreDistinct-append same_printer Q.outputs more sound.printers (new_printers n 1 specs) (All-weaker (λ o. is_of n o ≡ false) (λ o. list_any (same_printer o) (new_outputs n 1 specs) ≡ false) (λ o apart. idle_printers o n 1 specs) Q.outputs (none_of sound));
        places = places-handed m new Q.owners fresh.distinct fresh.apart sound.places;
        no_gaps = gaps-handed m new Q.owners room fresh.no_gaps sound.no_gaps;
      }

-- THE COMMAND

not_below : (a b : ℕ) → nat_lt a b ≡ false → b ≤ a
not_below a b h = elim (leb_tells (suc a) b) [ inl w ↦ absurd (let e = w.0 in cc) | inr w ↦ omega (arith, w.1) ]

fourth_none : {A : Type 0} (a b c d : Option A) (os : List (Option A)) → first_some (a ∷ b ∷ c ∷ d ∷ os) ≡ None → d ≡ None
fourth_none a b c d os h = second_none c d os (after_two a b (c ∷ d ∷ os) h)

fifth_none : {A : Type 0} (a b c d e : Option A) (os : List (Option A)) → first_some (a ∷ b ∷ c ∷ d ∷ e ∷ os) ≡ None → e ≡ None
fifth_none a b c d e os h = third_none c d e os (after_two a b (c ∷ d ∷ e ∷ os) h)

-- the outputs of a cancelled job are none, and those of any other are few enough
room : (Q : Queue) (given : List OutSpec) (o : Option Job) → IsSound Q → refused_where (not (is_cancelled o) && are_outputs_full Q (outputs_at_end o given)) refusal.OutputsFull ≡ None → length Q.outputs + length (outputs_at_end o given) ≤ Q.config.outputs
room Q given o sound none =
    test_cases (is_cancelled o) (length Q.outputs + length (outputs_at_end o given) ≤ Q.config.outputs)
    (λ e. rw e (omega (arith, sound.few_outputs)))
    (λ e. rw e (not_below Q.config.outputs (length Q.outputs + length given) (where_not (are_outputs_full Q given) refusal.OutputsFull (rw e at none))))

-- the outputs of a cancelled job need no groups, and those of any other need few enough
space : (Q : Queue) (m : MemberId) (given : List OutSpec) (o : Option Job) → refused_where (not (is_cancelled o) && lacks_groups Q m (outputs_at_end o given)) refusal.Nothing ≡ None → groups_of_outputs (outputs_at_end o given) ≤ member_count m Q.owners
space Q m given o none =
    test_cases (is_cancelled o) (groups_of_outputs (outputs_at_end o given) ≤ member_count m Q.owners)
    (λ e. rw e (omega arith))
    (λ e. rw e (not_below (member_count m Q.owners) (groups_of_outputs given) (where_not (lacks_groups Q m given) refusal.Nothing (rw e at none))))

ended_there : (Q : Queue) (n : JobNo) (x : Job) → job_at Q n ≡ Some x → x.cancelled ≡ false → is_there (λ j. may_have_outputs j.phase) (change_first (has_number n) ended Q.jobs) n ≡ true
ended_there Q n x found alive =
    rw (find-change_same (has_number n) (has_number n) ended Q.jobs (λ j. refl) (λ j. refl), found) (rw alive refl)

pub ended_some : (Q : Queue) (m : MemberId) (n : JobNo) (given : List OutSpec) (o : Option Job) → IsSound Q → length given ≤ 32 → All IsOutSpec given → job_at Q n ≡ o → first_some (ended_row Q m n given).refusals ≡ None → IsSound (ended_row Q m n given).effect
ended_some Q m n given None sound few fit found none = absurd (let first = (none_first (none_such refusal.NoJob (job_at Q n)) _ none).0 in let w = rw found at first in cc)
ended_some Q m n given (Some x) sound few fit found none =
    let specs = outputs_at_end (job_at Q n) given in
    let missing = none_such refusal.NoJob (job_at Q n) in
    let phase = wrong_phase runs (job_at Q n) in
    let elsewhere = job_not_at m (job_at Q n) in
    let full = refused_where (not (is_cancelled (job_at Q n)) && are_outputs_full Q specs) refusal.OutputsFull in
    let few_groups = refused_where (not (is_cancelled (job_at Q n)) && lacks_groups Q m specs) refusal.Nothing in
    ended_by Q m n (outputs_at_end (job_at Q n) given) x found (in_phase_of Q n runs (second_none missing phase _ none) x found) sound
    (new_ones Q n given x found few fit)
    (room Q given (job_at Q n) sound (fourth_none missing phase elsewhere full (few_groups ∷ []) none))
    (space Q m given (job_at Q n) (fifth_none missing phase elsewhere full few_groups [] none))
  where
    new_ones : (Q : Queue) (n : JobNo) (given : List OutSpec) (x : Job) → job_at Q n ≡ Some x → length given ≤ 32 → All IsOutSpec given → All (IsSoundOutput Q.config (change_first (has_number n) ended Q.jobs)) (new_outputs n 1 (outputs_at_end (job_at Q n) given))
    new_ones Q n given x found few fit =
        rw found (test_cases x.cancelled (All (IsSoundOutput Q.config (change_first (has_number n) ended Q.jobs)) (new_outputs n 1 (if x.cancelled then [] else given)))
        (λ e. rw e (All-nil (IsSoundOutput Q.config (change_first (has_number n) ended Q.jobs))))
        (λ e. rw e (new_right Q.config (change_first (has_number n) ended Q.jobs) n (ended_there Q n x found e) 1 given fit (omega arith) (omega arith))))

pub ended_sound : (Q : Queue) (m : MemberId) (n : JobNo) (given : List OutSpec) → IsSound Q → length given ≤ 32 → All IsOutSpec given → first_some (ended_row Q m n given).refusals ≡ None → IsSound (ended_row Q m n given).effect
ended_sound Q m n given sound few fit = ended_some Q m n given (job_at Q n) sound few fit refl
