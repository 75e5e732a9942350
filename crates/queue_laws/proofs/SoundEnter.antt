-- Enter and Got keep the sound parts.
use Rattle.std.proofs.Common.{◌≡◌, ℕ, zero, suc, ◌+◌, ◌≤◌, Bool, true, false, not, nat_lt, nat_le, List, [], ◌∷◌, length, Option, Some, None, refl, ◌∙◌, subst, inl, inr, arith}
use Rattle.std.specs.Prelude.{if◌then◌else◌}
use Rattle.std.specs.List.{list_any, All}
use Rattle.std.proofs.lemmas.Bool.{eq-eqb}
use Rattle.std.proofs.lemmas.Bool.Decides.{leb_tells, nat_tests}
use Rattle.std.proofs.lemmas.List.Elements.{All-cons, All-head, All-tail, All-nil, All-weaker}
use Rattle.mas_types.specs.declared.ids.MemberId.{MemberId}
use Rattle.mas_types.specs.declared.ids.JobNo.{JobNo}
use Rattle.mas_types.specs.declared.ids.Name8.{Name8}
use Rattle.mas_types.specs.declared.jobs.Phase.TheVariants as phase
use Rattle.mas_types.specs.declared.jobs.Text.TheVariants.{Whole}
use Rattle.mas_types.specs.declared.jobs.Job.{Job}
use Rattle.mas_types.specs.declared.queues.Owner.{Owner}
use Rattle.mas_types.specs.declared.queues.Owner.TheVariants as owner
use Rattle.mas_types.specs.declared.queues.Queue.{Queue}
use Rattle.mas_types.specs.declared.commands.Refusal.{Refusal}
use Rattle.mas_types.specs.declared.commands.Refusal.TheVariants as refusal
use Rattle.mas_types.specs.Lists.{change_first, first_some}
use Rattle.mas_types.specs.Ids.{same_number, same_name, nobody}
use Rattle.mas_types.specs.Queue.{in_input, has_number, job_at}
use Rattle.mas_types.specs.Owners.{is_members, member_count, handed_out, places, deck_places, is_deck_of, is_output_of, groups_after, groups_needed}
use Rattle.mas_types.specs.Row.{none_such, wrong_phase, job_not_at, refused_where}
use Rattle.mas_types.specs.Commands.Input.{phase_entered, entered, enter_row, not_entered}
use Rattle.mas_types.specs.Commands.Wire.{got_row, again, gap, got_on}
use Rattle.mas_types.specs.Fit.{AreLines}
use Rattle.mas_types.specs.Sound.{IsSound, IsSoundJob, IsSoundOutput, HasDeckGroup, HasOutputGroup, is_owner_there, may_have_outputs}
use Rattle.queue_laws.proofs.Done.{none_first, where_not}
use Rattle.queue_laws.proofs.Finds.{test_cases, find-All, find-change_same}
use Rattle.queue_laws.proofs.Others.{second_none, after_two}
use Rattle.queue_laws.proofs.Soundness.{All-change, length-change, AreDistinct-change, is_there-change}
use Rattle.queue_laws.proofs.SoundJobs.{in_phase_of}
use Rattle.queue_laws.proofs.SoundOwners.{wires_sound}
use Rattle.queue_laws.proofs.SoundGone.{no_deck_of, no_outputs_input}
use Rattle.queue_laws.proofs.Handing.{length-handed_out}
use Rattle.queue_laws.proofs.HandedOut.{any-handed, All-handed, places-handed, gaps-handed, deck_new, length-places, or_left, or_right}

-- SMALL FACTS

past_entered : (own : Name8) (j : Job) → in_input (phase_entered own j) ≡ false
past_entered own j =
    test_cases j.cancelled (in_input (phase_entered own j) ≡ false)
    (λ e. rw e refl)
    (λ e. rw e (test_cases (same_name j.fields.node own) (in_input (if same_name j.fields.node own then phase.Convert else phase.Xmit) ≡ false) (λ d. rw d refl) (λ d. rw d refl)))

pub one_group : (used : ℕ) (lines : List (List ℕ)) → 1 ≤ groups_after used lines
one_group used [] = omega arith
one_group used (line ∷ lines) =
    test_cases (nat_le (used + length line + 2) 4096) (1 ≤ groups_after used (line ∷ lines))
    (λ e. rw e (one_group (used + length line + 1) lines))
    (λ e. rw e (omega arith))

deck_there : (k n : JobNo) → k.0 ≡ n.0 → (p count : ℕ) → 1 ≤ count → list_any (is_deck_of k) (places (λ r. owner.Deck n r) p count) ≡ true
deck_there k n same p zero some = absurd (omega arith)
deck_there k n same p (suc count) some = rw (same, eq-eqb n.0 n.0 refl) refl

pub All-none : {A : Type 0} (t : A → Bool) (xs : List A) → All (λ x. t x ≡ false) xs → list_any t xs ≡ false
All-none t [] all = refl
All-none t (x ∷ xs) all = rw (All-head (λ x. t x ≡ false) x xs all) (All-none t xs (All-tail (λ x. t x ≡ false) x xs all))

pub number_is : (Q : Queue) (n : JobNo) (j : Job) → job_at Q n ≡ Some j → j.number.0 ≡ n.0
number_is Q n j found =
    let here = (find-All (λ (x : Job). has_number n x ≡ has_number n x) (has_number n) Q.jobs j (λ k d lt. refl) found).1 in
    grind (arith, nat_tests, here)

-- THE DECK IS ENTERED

module _ (Q : Queue) (m : MemberId) (n : JobNo) (text : List (List ℕ)) (x : Job) (found : job_at Q n ≡ Some x) (input : in_input x.phase ≡ true) where
  abbrev with_text : Job → Job
  with_text j = record j { text = Whole text; busy = nobody; phase = phase_entered Q.config.node j }

  abbrev new_deck : List Owner
  new_deck = deck_places n (groups_needed text)

  the_one : (j : Job) → job_at Q n ≡ Some j → x ≡ j
  the_one j here = cc (found, here)

  in_input_at : (j : Job) → job_at Q n ≡ Some j → in_input j.phase ≡ true
  in_input_at j here = subst (λ (y : Job). in_input y.phase ≡ true) (the_one j here) input

  owner_kept : (g : Owner) → is_members m g ≡ false → is_owner_there Q.config Q.jobs Q.outputs g ≡ true → is_owner_there Q.config (change_first (has_number n) with_text Q.jobs) Q.outputs g ≡ true
  owner_kept owner.Free other there = refl
  owner_kept (owner.Member k) other there = there
  owner_kept (owner.Deck k p) other there = is_there-change n with_text (λ j. refl) (λ j. not (in_input j.phase)) Q.jobs k (λ j same here past. rw (past_entered Q.config.node j) refl) there
  owner_kept (owner.Output k i p) other there = there

  deck_right : (p count : ℕ) → All (λ g. is_owner_there Q.config (change_first (has_number n) with_text Q.jobs) Q.outputs g ≡ true) (places (λ r. owner.Deck n r) p count)
  deck_right p zero = All-nil (λ g. is_owner_there Q.config (change_first (has_number n) with_text Q.jobs) Q.outputs g ≡ true)
  deck_right p (suc count) = All-cons (λ g. is_owner_there Q.config (change_first (has_number n) with_text Q.jobs) Q.outputs g ≡ true) (owner.Deck n p) (places (λ r. owner.Deck n r) (p + 1) count)
      (rw (find-change_same (has_number n) (has_number n) with_text Q.jobs (λ j. refl) (λ j. refl), found) (rw (past_entered Q.config.node x) refl)) (deck_right (p + 1) count)

  pub entered_sound : IsSound Q → AreLines text → groups_needed text ≤ member_count m Q.owners → IsSound (entered m n text Q)
  entered_sound sound fit enough =
      let hs = handed_out m new_deck Q.owners in
      let none : list_any (is_deck_of n) Q.owners ≡ false = All-none (is_deck_of n) Q.owners (All-weaker (λ g. is_owner_there Q.config Q.jobs Q.outputs g ≡ true) (λ g. is_deck_of n g ≡ false) (no_deck_of Q n in_input_at) Q.owners sound.owners) in
      let fresh = deck_new n (groups_needed text) Q.owners none in
      let room : length (deck_places n (groups_needed text)) ≤ member_count m Q.owners = rw (length-places (λ p. owner.Deck n p) 0 (groups_needed text)) enough in
      record {
        config = sound.config;
        few_jobs = rw (length-change (has_number n) with_text Q.jobs) sound.few_jobs;
        few_outputs = sound.few_outputs;
        each_group = length-handed_out m new_deck Q.owners ∙ sound.each_group;
        each_member = sound.each_member;
        few_routes = sound.few_routes;
        each_line = sound.each_line;
        last = sound.last;
        members = sound.members;
        jobs = All-change (has_number n) with_text (IsSoundJob Q.config) Q.jobs sound.jobs (λ j here s. record {
          number = s.number;
          busy = refl;
          busy_phase = λ e. absurd (cc);
          text = fit;
          no_cards = λ e. absurd (let w = rw (past_entered Q.config.node j) at e in cc);
        });
        decks = All-change (has_number n) with_text (HasDeckGroup hs) Q.jobs
            (All-weaker (HasDeckGroup Q.owners) (HasDeckGroup hs) (λ j deck some. any-handed m (is_deck_of j.number) (record { free = refl; member = λ k. refl }) new_deck Q.owners room ∙ or_left _ _ (deck some)) Q.jobs sound.decks)
            (λ j here deck some. any-handed m (is_deck_of j.number) (record { free = refl; member = λ k. refl }) new_deck Q.owners room ∙ or_right _ _ (deck_there j.number n (number_is Q n j here) 0 (groups_needed text) (one_group 0 text)));
        outputs = All-weaker (IsSoundOutput Q.config Q.jobs) (IsSoundOutput Q.config (change_first (has_number n) with_text Q.jobs)) (λ o s. record {
          index = s.index;
          copies = s.copies;
          lines = s.lines;
          job = is_there-change n with_text (λ j. refl) (λ j. may_have_outputs j.phase) Q.jobs o.job (λ j same here may. absurd (cc (may, no_outputs_input j.phase (in_input_at j here)))) s.job;
          busy = s.busy;
          text = s.text;
          mark = s.mark;
        }) Q.outputs sound.outputs;
        groups = All-weaker (HasOutputGroup Q.owners) (HasOutputGroup hs) (λ o group some. any-handed m (is_output_of o.job o.index) (record { free = refl; member = λ k. refl }) new_deck Q.owners room ∙ or_left _ _ (group some)) Q.outputs sound.groups;
        owners = All-handed m (λ g. is_owner_there Q.config Q.jobs Q.outputs g ≡ true) (λ g. is_owner_there Q.config (change_first (has_number n) with_text Q.jobs) Q.outputs g ≡ true) refl owner_kept new_deck Q.owners (deck_right 0 (groups_needed text)) sound.owners;
        numbers = AreDistinct-change (has_number n) with_text (λ a b. same_number a.number b.number) (λ x y. refl) (λ x y. refl) Q.jobs sound.numbers;
        keys = sound.keys;
        printers = sound.printers;
        places = places-handed m new_deck Q.owners fresh.distinct fresh.apart sound.places;
        no_gaps = gaps-handed m new_deck Q.owners room fresh.no_gaps sound.no_gaps;
      }

-- THE COMMANDS

not_below : (a b : ℕ) → nat_lt a b ≡ false → b ≤ a
not_below a b h = elim (leb_tells (suc a) b) [ inl w ↦ absurd (let e = w.0 in cc) | inr w ↦ omega (arith, w.1) ]

pub enter_by : (Q : Queue) (m : MemberId) (n : JobNo) (text : List (List ℕ)) (o : Option Job) → IsSound Q → AreLines text → job_at Q n ≡ o → first_some (not_entered Q m n text) ≡ None → IsSound (entered m n text Q)
enter_by Q m n text None sound fit found none = absurd (let first = (none_first (none_such refusal.NoJob (job_at Q n)) _ none).0 in let w = rw found at first in cc)
enter_by Q m n text (Some x) sound fit found none =
    let last : refused_where (nat_lt (member_count m Q.owners) (groups_needed text)) refusal.Nothing ≡ None = fourth (none_such refusal.NoJob (job_at Q n)) (wrong_phase in_input (job_at Q n)) (job_not_at m (job_at Q n)) (refused_where (nat_lt (member_count m Q.owners) (groups_needed text)) refusal.Nothing) [] none in
    let input = in_phase_of Q n in_input (second_none (none_such refusal.NoJob (job_at Q n)) (wrong_phase in_input (job_at Q n)) _ none) x found in
    entered_sound Q m n text x found input sound fit (not_below (member_count m Q.owners) (groups_needed text) (where_not (nat_lt (member_count m Q.owners) (groups_needed text)) refusal.Nothing last))
  where
    fourth : (a b c d : Option Refusal) (os : List (Option Refusal)) → first_some (a ∷ b ∷ c ∷ d ∷ os) ≡ None → d ≡ None
    fourth a b c d os h = second_none c d os (after_two a b (c ∷ d ∷ os) h)

pub enter_sound : (Q : Queue) (m : MemberId) (n : JobNo) (text : List (List ℕ)) → IsSound Q → AreLines text → first_some (enter_row Q m n text).refusals ≡ None → IsSound (enter_row Q m n text).effect
enter_sound Q m n text sound fit = enter_by Q m n text (job_at Q n) sound fit refl

pub got_sound : (Q : Queue) (m : MemberId) (l number : ℕ) (n : JobNo) (text : List (List ℕ)) → IsSound Q → AreLines text → first_some (got_row Q m l number n text).refusals ≡ None → IsSound (got_row Q m l number n text).effect
got_sound Q m l number n text sound fit none =
    wires_sound (entered m n text Q) l _ (enter_by Q m n text (job_at Q n) sound fit refl (after_two (again (got_on Q l) number) (gap (got_on Q l) number) (not_entered Q m n text) none))
