-- Lines on paper, one command further.
use Rattle.std.proofs.Common.{◌≡◌, ℕ, ◌+◌, ◌≤◌, ◌<◌, ◌⊎◌, inl, inr, Bool, true, false, ◌&&◌, ◌||◌, ◌==◌, nat_le, if◌then◌else◌, List, [], ◌∷◌, ◌++◌, All, Option, Some, None, refl, sym, ◌∙◌, subst, arith, le_refl, le_trans, append_assoc, append-nil}
use Rattle.std.specs.List.{list_any}
use Rattle.std.proofs.lemmas.Bool.Decides.{nat_tests}
use Rattle.std.proofs.lemmas.List.Elements.{All-append, All-cons, All-nil}
use Rattle.mas_types.specs.declared.ids.MemberId.{MemberId}
use Rattle.mas_types.specs.declared.ids.JobNo.{JobNo}
use Rattle.mas_types.specs.declared.ids.OutNo.{OutNo}
use Rattle.mas_types.specs.declared.jobs.Output.{Output}
use Rattle.mas_types.specs.declared.jobs.Text.{Text}
use Rattle.mas_types.specs.declared.queues.Queue.{Queue}
use Rattle.mas_types.specs.declared.commands.Command.{Command}
use Rattle.mas_types.specs.declared.commands.Command.TheVariants as command
use Rattle.mas_types.specs.declared.commands.Reply.{Reply}
use Rattle.mas_types.specs.declared.journals.Entry.{Entry}
use Rattle.mas_types.specs.Ids.{is_somebody, same_member}
use Rattle.mas_types.specs.Run.{run}
use Rattle.mas_types.specs.Step.{step}
use Rattle.mas_types.specs.Queue.{output_at, has_key}
use Rattle.mas_types.specs.Sound.{IsSound}
use Rattle.queue_laws.specs.Laws.{is_refusal}
use Rattle.queue_laws.specs.Marks.{MayMark, is_pick, OutputFollows, FollowsAt}
use Rattle.queue_laws.specs.Runs.{IsGiven}
use Rattle.queue_laws.proofs.MarksFollow.{marks_follow}
use Rattle.queue_laws.proofs.Refused.{refused_changes_nothing}
use Rattle.queue_laws.proofs.RunLaws.{runs_keep_sound}
use Rattle.paper_laws.specs.Counts.{Counts, none_printed, counts_anew, begins_anew, count_after, counts_after, may_mark, IsMarkRight, AreAllowed}
use Rattle.paper_laws.specs.Paper.{busy_in, mark_of, is_forward, touches, touched, printed_at, AreLinesOn, AreMarksOn}
use Rattle.paper_laws.proofs.Bools.{test_cases, both_ways, same_member_is, same_key_is, find_passes, front_of_more}
use Rattle.paper_laws.proofs.Runs.{run_push, touched_push}

zero_first : (n : ℕ) → 0 ≤ n
zero_first n = omega arith

add_le : (k x y : ℕ) → x ≤ y → k + x ≤ k + y
add_le k x y l = omega arith

pub printed_at_le : (counts counts' : Counts) (m : MemberId) → counts' m ≤ counts m → printed_at counts' m ≤ printed_at counts m
printed_at_le counts counts' m le =
    test_cases (is_somebody m) (printed_at counts' m ≤ printed_at counts m)
    (λ e. rw e le)
    (λ e. rw e (le_refl 0))

pub printed_upto : (counts : Counts) (m : MemberId) → printed_at counts m ≤ counts m
printed_upto counts m =
    test_cases (is_somebody m) (printed_at counts m ≤ counts m)
    (λ e. rw e (le_refl (counts m)))
    (λ e. rw e (zero_first (counts m)))

-- fewer lines counted, less claimed
pub fewer : (On : JobNo → OutNo → ℕ → Text → Type 0) (base : Queue) (counts counts' : Counts) (es : List Entry) → ((m : MemberId) → counts' m ≤ counts m) → AreLinesOn On base counts es → AreLinesOn On base counts' es
fewer On base counts counts' es le h n i o found un line low high =
    h n i o found un line low (le_trans high (add_le o.mark (printed_at counts' o.busy) (printed_at counts o.busy) (printed_at_le counts counts' o.busy (le o.busy))))

-- what stands on paper stays there with more lines on paper
pub stays_on : (On After : JobNo → OutNo → ℕ → Text → Type 0) (base : Queue) (counts : Counts) (es : List Entry) → ((n : JobNo) (i : OutNo) (line : ℕ) (text : Text) → On n i line text → After n i line text)
    → AreLinesOn On base counts es → AreLinesOn After base counts es
stays_on On After base counts es so h n i o found un line low high = so n i line o.text (h n i o found un line low high)

pub marks_stay_on : (On After : JobNo → OutNo → ℕ → Text → Type 0) (base : Queue) (es : List Entry) → ((n : JobNo) (i : OutNo) (line : ℕ) (text : Text) → On n i line text → After n i line text)
    → AreMarksOn On base es → AreMarksOn After base es
marks_stay_on On After base es so h before after is = stays_on On After base none_printed before so (h before after is)

-- COUNTS

pub count_le : (e : Entry) (counts : Counts) (m : MemberId) → count_after e counts m ≤ counts m
count_le e counts m =
    test_cases (begins_anew m e) (count_after e counts m ≤ counts m)
    (λ t. rw t (zero_first (counts m)))
    (λ t. rw t (le_refl (counts m)))

own_count : (e : Entry) (counts : Counts) → counts_anew e.command ≡ true → count_after e counts e.by ≤ 0
own_count e counts anew = rw (itself e.by.0, anew) (le_refl 0)
  where
    itself : (n : ℕ) → (n == n) ≡ true
    itself n = grind (arith, nat_tests)

pub counts_both : (e : Entry) (es : List Entry) (counts : Counts) (m : MemberId) → counts_after es (count_after e counts) m ≡ counts_after (e ∷ es) counts m
counts_both e es counts m = both (begins_anew m e) (list_any (begins_anew m) es) (counts m)
  where
    both : (b c : Bool) (n : ℕ) → (if c then 0 else (if b then 0 else n)) ≡ (if b || c then 0 else n)
    both true true n = refl
    both true false n = refl
    both false true n = refl
    both false false n = refl

pick_anew : (c : Command) → is_pick c ≡ true → counts_anew c ≡ true
pick_anew command.Pick h = refl
pick_anew _ h = absurd (cc)

-- ONE COMMAND

module _ (Q : Queue) (e : Entry) (counts : Counts) (n : JobNo) (i : OutNo) (old o : Output) where
  abbrev counts' : Counts
  counts' = count_after e counts

  -- with a count that falls to 0 nothing is claimed behind the mark
  busy_zero : counts' e.by ≤ 0 → same_member old.busy e.by ≡ true → OutputFollows e.by e.command old o → printed_at counts' o.busy ≤ 0
  busy_zero none at_m follows = by follows.busy
    where
      at_member : o.busy ≡ e.by → printed_at counts' o.busy ≤ 0
      at_member w = le_trans (printed_upto counts' o.busy) (subst (λ (k : MemberId). counts' k ≤ 0) (sym w) none)

      by : (o.busy ≡ old.busy) ⊎ ((is_somebody o.busy ≡ false) ⊎ ((is_pick e.command ≡ true) × (o.busy ≡ e.by))) → printed_at counts' o.busy ≤ 0
      by (inl w) = at_member (w ∙ same_member_is old.busy e.by at_m)
      by (inr (inl w)) = rw w (le_refl 0)
      by (inr (inr w)) = at_member w.1

  busy_same : OutputFollows e.by e.command old o → printed_at counts' o.busy ≤ printed_at counts old.busy
  busy_same follows = by follows.busy
    where
      by : (o.busy ≡ old.busy) ⊎ ((is_somebody o.busy ≡ false) ⊎ ((is_pick e.command ≡ true) × (o.busy ≡ e.by))) → printed_at counts' o.busy ≤ printed_at counts old.busy
      by (inl w) = subst (λ (k : MemberId). printed_at counts' k ≤ printed_at counts old.busy) (sym w) (printed_at_le counts counts' old.busy (count_le e counts old.busy))
      by (inr (inl w)) = rw w (zero_first (printed_at counts old.busy))
      by (inr (inr w)) =
          le_trans (printed_upto counts' o.busy) (le_trans (subst (λ (k : MemberId). counts' k ≤ 0) (sym w.1) (own_count e counts (pick_anew e.command w.0))) (zero_first (printed_at counts old.busy)))

  sums : (a p b q : ℕ) → a ≤ b → p ≤ q → a + p ≤ b + q
  sums a p b q x y = omega arith

  zero_sum : (a p b q : ℕ) → a ≤ b → p ≤ 0 → a + p ≤ b + q
  zero_sum a p b q x y = omega arith

  -- the mark moved
  moved_bound : (c : Command) → e.command ≡ c → IsMarkRight Q e.by (counts e.by) c → output_at Q n i ≡ Some old → same_member old.busy e.by ≡ true
      → (is_forward c && (true && same_member old.busy e.by)) ≡ false → OutputFollows e.by e.command old o → MayMark c old o → o.mark + printed_at counts' o.busy ≤ old.mark + printed_at counts old.busy
  moved_bound (command.Mark n' i' at) is right found at_m calm follows may =
      let key : has_key n i old ≡ true = find_passes (has_key n i) Q.outputs old found in
      let same : (n' ≡ n) × (i' ≡ i) = same_key_is n n' i i' old key may.0 in
      let found' : output_at Q n' i' ≡ Some old = rw (same.0, same.1) found in
      let allowed : may_mark e.by (counts e.by) at (Some old) ≡ true = subst (λ (x : Option Output). may_mark e.by (counts e.by) at x ≡ true) found' right.1 in
      let upto : nat_le at (old.mark + counts e.by) ≡ true = (let w = rw at_m at allowed in w) in
      let mine : old.busy ≡ e.by = same_member_is old.busy e.by at_m in
      let whole : printed_at counts old.busy ≡ counts e.by = rw mine (rw right.0 refl) in
      let none : printed_at counts' o.busy ≤ 0 = busy_zero (own_count e counts (rw is refl)) at_m follows in
      rw whole (chain o.mark (printed_at counts' o.busy) at old.mark (counts e.by) may.1 none upto)
    where
      chain : (a p l b q : ℕ) → a ≤ l → p ≤ 0 → nat_le l (b + q) ≡ true → a + p ≤ b + q
      chain a p l b q x y z = let w : l ≤ b + q = grind (arith, nat_tests) in omega arith
  moved_bound (command.Back lines) is right found at_m calm follows may =
      zero_sum o.mark (printed_at counts' o.busy) old.mark (printed_at counts old.busy) may (busy_zero (own_count e counts (rw is refl)) at_m follows)
  moved_bound (command.Forward lines) is right found at_m calm follows may = both_ways (same_member old.busy e.by) at_m calm
  moved_bound _ is right found at_m calm follows may = absurd may

  pub mark_bound : IsMarkRight Q e.by (counts e.by) e.command → output_at Q n i ≡ Some old → (is_forward e.command && (true && same_member old.busy e.by)) ≡ false → OutputFollows e.by e.command old o
      → o.mark + printed_at counts' o.busy ≤ old.mark + printed_at counts old.busy
  mark_bound right found calm follows = by follows.mark
    where
      by : (o.mark ≡ old.mark) ⊎ ((same_member old.busy e.by ≡ true) × MayMark e.command old o) → o.mark + printed_at counts' o.busy ≤ old.mark + printed_at counts old.busy
      by (inl w) = sums o.mark (printed_at counts' o.busy) old.mark (printed_at counts old.busy) (rw w (le_refl old.mark)) (busy_same follows)
      by (inr w) = moved_bound e.command refl right found w.0 calm follows w.1

module _ (On : JobNo → OutNo → ℕ → Text → Type 0) (base : Queue) where
  -- one command more on a list whose lines are on paper
  pub lines_push : (counts : Counts) (es : List Entry) (e : Entry) → IsSound (run base es) → IsMarkRight (run base es) e.by (counts e.by) e.command → AreLinesOn On base counts es
      → AreLinesOn On base (count_after e counts) (es ++ e ∷ [])
  lines_push counts es e sound right h n i o found un line low high =
      let parts : (touched base es n i ≡ false) × (touches (run base es) e n i ≡ false) = touched_push base es e n i un in
      let found' : output_at (step (run base es) e.by e.command).0 n i ≡ Some o = subst (λ (R : Queue). output_at R n i ≡ Some o) (run_push base es e) found in
      let follows : FollowsAt e.by e.command (output_at (run base es) n i) (output_at (step (run base es) e.by e.command).0 n i) = marks_follow (run base es) e.by e.command sound n i in
      let follows' : FollowsAt e.by e.command (output_at (run base es) n i) (Some o) = subst (λ (x : Option Output). FollowsAt e.by e.command (output_at (run base es) n i) x) found' follows in
      on_reply (step (run base es) e.by e.command).1 refl parts.0 parts.1 found' follows'
    where
      nothing : (l b k p : ℕ) → b < l → l ≤ k + p → k ≡ 0 → p ≡ 0 → ⊥
      nothing l b k p x y z w = omega arith

      on_old : (x : Option Output) → output_at (run base es) n i ≡ x → touched base es n i ≡ false → (is_forward e.command && (true && busy_in x e.by)) ≡ false → FollowsAt e.by e.command x (Some o) → On n i line o.text
      on_old None is un_old calm follows =
          let none : printed_at (count_after e counts) o.busy ≡ 0 = rw follows.busy refl in
          absurd (nothing line (mark_of (output_at base n i)) o.mark (printed_at (count_after e counts) o.busy) low high follows.mark none)
      on_old (Some old) is un_old calm follows =
          subst (λ (text : Text). On n i line text) (sym follows.text)
          (h n i old is un_old line low (le_trans high (mark_bound (run base es) e counts n i old o right is calm follows)))

      -- a refused command changes nothing
      on_reply : (answer : Reply) → (step (run base es) e.by e.command).1 ≡ answer → touched base es n i ≡ false → touches (run base es) e n i ≡ false → output_at (step (run base es) e.by e.command).0 n i ≡ Some o
          → FollowsAt e.by e.command (output_at (run base es) n i) (Some o) → On n i line o.text
      on_reply answer is un_old un_new found' follows' =
          test_cases (is_refusal answer) (On n i line o.text)
          (λ refused. refusal (subst (λ (r : Reply). is_refusal r ≡ true) (sym is) refused))
          (λ done. on_old (output_at (run base es) n i) refl un_old (let w = rw (is, done) at un_new in w) follows')
        where
          refusal : is_refusal (step (run base es) e.by e.command).1 ≡ true → On n i line o.text
          refusal refused =
              let same : (step (run base es) e.by e.command).0 ≡ (run base es) = refused_changes_nothing (run base es) e.by e.command refused in
              let here : output_at (run base es) n i ≡ Some o = subst (λ (R : Queue). output_at R n i ≡ Some o) same found' in
              h n i o here un_old line low (le_trans high (add_le o.mark (printed_at (count_after e counts) o.busy) (printed_at counts o.busy) (printed_at_le counts (count_after e counts) o.busy (count_le e counts o.busy))))

  marks_push : (counts : Counts) (es : List Entry) (e : Entry) → AreLinesOn On base counts (es ++ e ∷ []) → AreMarksOn On base es → AreMarksOn On base (es ++ e ∷ [])
  marks_push counts es e lines marks before after is = by (front_of_more before after es e is)
    where
      by : (before ≡ es ++ e ∷ []) ⊎ ((rest : List Entry) × (es ≡ before ++ rest)) → AreLinesOn On base none_printed before
      by (inl w) = subst (λ (l : List Entry). AreLinesOn On base none_printed l) (sym w) (fewer On base counts none_printed (es ++ e ∷ []) (λ m. zero_first (counts m)) lines)
      by (inr w) = marks before w.0 w.1

  pub entries_keep : (counts : Counts) (K es : List Entry) → IsSound base → All (IsGiven base) K → AreAllowed base (run base K) counts es → AreLinesOn On base counts K → AreMarksOn On base K
      → AreLinesOn On base (counts_after es counts) (K ++ es) × AreMarksOn On base (K ++ es)
  entries_keep counts K [] sound given allowed lines marks = rw (append-nil K) (lines, marks)
  entries_keep counts K (e ∷ es) sound given allowed lines marks =
      let now : IsSound (run base K) = runs_keep_sound base K sound given in
      let pushed : AreLinesOn On base (count_after e counts) (K ++ e ∷ []) = lines_push counts K e now allowed.0.mark lines in
      let marked : AreMarksOn On base (K ++ e ∷ []) = marks_push (count_after e counts) K e pushed marks in
      let given' : All (IsGiven base) (K ++ e ∷ []) = All-append (IsGiven base) K (e ∷ []) given (All-cons (IsGiven base) e [] allowed.0.given (All-nil (IsGiven base))) in
      let rest : AreAllowed base (run base (K ++ e ∷ [])) (count_after e counts) es = subst (λ (R : Queue). AreAllowed base R (count_after e counts) es) (sym (run_push base K e)) allowed.1 in
      let more : AreLinesOn On base (counts_after es (count_after e counts)) ((K ++ e ∷ []) ++ es) × AreMarksOn On base ((K ++ e ∷ []) ++ es) = entries_keep (count_after e counts) (K ++ e ∷ []) es sound given' rest pushed marked in
      let same : (K ++ e ∷ []) ++ es ≡ K ++ e ∷ es = append_assoc K (e ∷ []) es in (
        subst (λ (l : List Entry). AreLinesOn On base (counts_after (e ∷ es) counts) l) same
            (fewer On base (counts_after es (count_after e counts)) (counts_after (e ∷ es) counts) ((K ++ e ∷ []) ++ es) (λ m. rw (counts_both e es counts m) (le_refl (counts_after (e ∷ es) counts m))) more.0),
        subst (λ (l : List Entry). AreMarksOn On base l) same more.1,
      )
