-- A line more on paper.
use Rattle.std.proofs.Common.{◌≡◌, ℕ, ◌+◌, ◌≤◌, ◌⊎◌, inl, inr, true, false, ◌&&◌, ◌==◌, nat_le, List, [], ◌∷◌, ◌++◌, find, All, Option, Some, None, refl, ap, sym, ◌∙◌, subst, arith, le_refl, le_trans}
use Rattle.std.proofs.lemmas.Bool.{or_left, or_right}
use Rattle.std.specs.List.{list_any}
use Rattle.std.proofs.lemmas.Bool.Decides.{nat_tests}
use Rattle.std.proofs.lemmas.List.Elements.{All-head, All-tail, All-weaker}
use Rattle.mas_types.specs.declared.ids.MemberId.{MemberId}
use Rattle.mas_types.specs.declared.ids.JobNo.{JobNo}
use Rattle.mas_types.specs.declared.ids.OutNo.{OutNo}
use Rattle.mas_types.specs.declared.jobs.Output.{Output}
use Rattle.mas_types.specs.declared.jobs.Text.{Text}
use Rattle.mas_types.specs.declared.queues.Queue.{Queue}
use Rattle.mas_types.specs.declared.journals.Entry.{Entry}
use Rattle.mas_types.specs.Ids.{is_somebody, same_member}
use Rattle.mas_types.specs.Fit.{AreDistinct}
use Rattle.mas_types.specs.Run.{run}
use Rattle.mas_types.specs.Step.{step}
use Rattle.mas_types.specs.Queue.{output_at, has_key, prints_at, printing_at}
use Rattle.mas_types.specs.Sound.{IsSound, same_printer}
use Rattle.queue_laws.specs.Marks.{MayMark, is_pick, FollowsAt}
use Rattle.queue_laws.specs.Runs.{IsGiven}
use Rattle.queue_laws.proofs.Configuration.{keeps_configuration}
use Rattle.queue_laws.proofs.MarksFollow.{marks_follow}
use Rattle.queue_laws.proofs.RunLaws.{runs_keep_sound, give_alike}
use Rattle.queue_laws.proofs.SoundAll.{keeps_sound}
use Rattle.paper_laws.specs.Counts.{Counts, one_more}
use Rattle.paper_laws.specs.Paper.{printed_at, AreLinesOn}
use Rattle.paper_laws.proofs.Bools.{test_cases, both_ways, same_member_is, same_key_is, own_key, find_passes}
use Rattle.paper_laws.proofs.Runs.{run_append, all_given_after}
use Rattle.paper_laws.proofs.Commands.{printed_at_le}

-- WHAT IS BUSY AT A MEMBER THROUGH THE COMMANDS OF OTHERS

pub record WasBusy (Q : Queue) (m : MemberId) (n : JobNo) (i : OutNo) (o : Output) : Type 0 where
  pub output : Output
  pub found : output_at Q n i ≡ Some output
  pub busy : same_member output.busy m ≡ true
  pub mark : output.mark ≡ o.mark
  pub text : output.text ≡ o.text

was_step : (Q : Queue) (m : MemberId) (e : Entry) (n : JobNo) (i : OutNo) (o : Output) → IsSound Q → is_somebody m ≡ true → same_member e.by m ≡ false
    → output_at (step Q e.by e.command).0 n i ≡ Some o → same_member o.busy m ≡ true → WasBusy Q m n i o
was_step Q m e n i o sound some apart found busy =
    by (output_at Q n i) refl (subst (λ (x : Option Output). FollowsAt e.by e.command (output_at Q n i) x) found (marks_follow Q e.by e.command sound n i))
  where
    busy_some : is_somebody o.busy ≡ true
    busy_some = let e' : o.busy ≡ m = same_member_is o.busy m busy in rw e' some

    by : (x : Option Output) → output_at Q n i ≡ x → FollowsAt e.by e.command x (Some o) → WasBusy Q m n i o
    by None is f = both_ways (is_somebody o.busy) busy_some f.busy
    by (Some old) is f = record { output = old; found = is; busy = at_old f.busy; mark = same_mark f.mark; text = sym f.text }
      where
        at_old : (o.busy ≡ old.busy) ⊎ ((is_somebody o.busy ≡ false) ⊎ ((is_pick e.command ≡ true) × (o.busy ≡ e.by))) → same_member old.busy m ≡ true
        at_old (inl s) = subst (λ (k : MemberId). same_member k m ≡ true) s busy
        at_old (inr (inl s)) = both_ways (is_somebody o.busy) busy_some s
        at_old (inr (inr s)) = both_ways (same_member e.by m) (subst (λ (k : MemberId). same_member k m ≡ true) s.1 busy) apart

        same_mark : (o.mark ≡ old.mark) ⊎ ((same_member old.busy e.by ≡ true) × MayMark e.command old o) → old.mark ≡ o.mark
        same_mark (inl s) = sym s
        same_mark (inr s) =
            both_ways (same_member e.by m) (subst (λ (k : MemberId). same_member k m ≡ true) (same_member_is old.busy e.by s.0) (at_old f.busy)) apart

rest_given : (Q : Queue) (e : Entry) (es : List Entry) → All (IsGiven Q) (e ∷ es) → All (IsGiven (step Q e.by e.command).0) es
rest_given Q e es all = All-weaker (IsGiven Q) (IsGiven (step Q e.by e.command).0)
    (λ x given. record { by = give_alike Q (step Q e.by e.command).0 x.by x.command (keeps_configuration Q e.by e.command).config given.by; fit = given.fit }) es (All-tail (IsGiven Q) e es all)

pub was_busy : (Q : Queue) (m : MemberId) (es : List Entry) (n : JobNo) (i : OutNo) (o : Output) → IsSound Q → All (IsGiven Q) es → is_somebody m ≡ true → All (λ e. same_member e.by m ≡ false) es
    → output_at (run Q es) n i ≡ Some o → same_member o.busy m ≡ true → WasBusy Q m n i o
was_busy Q m [] n i o sound given some none found busy = record { output = o; found = found; busy = busy; mark = refl; text = refl }
was_busy Q m (e ∷ es) n i o sound given some none found busy =
    let mine : IsGiven Q e = All-head (IsGiven Q) e es given in
    let sound' : IsSound (step Q e.by e.command).0 = keeps_sound Q e.by e.command sound mine.fit mine.by in
    let later : WasBusy (step Q e.by e.command).0 m n i o = was_busy (step Q e.by e.command).0 m es n i o sound' (rest_given Q e es given) some (All-tail (λ x. same_member x.by m ≡ false) e es none) found busy in
    let now : WasBusy Q m n i later.output = was_step Q m e n i later.output sound some (All-head (λ x. same_member x.by m ≡ false) e es none) later.found later.busy in
    record { output = now.output; found = now.found; busy = now.busy; mark = now.mark ∙ later.mark; text = now.text ∙ later.text }

-- of two outputs that are busy at one member the second is the first
pub one_printer : (m : MemberId) (n : JobNo) (i : OutNo) (xs : List Output) (a o : Output) → is_somebody m ≡ true → AreDistinct same_printer xs
    → find (prints_at m) xs ≡ Some a → find (has_key n i) xs ≡ Some o → same_member o.busy m ≡ true → a ≡ o
one_printer m n i [] a o some distinct found here busy = absurd (cc)
one_printer m n i (x ∷ xs) a o some distinct found here busy =
    test_cases (prints_at m x) (a ≡ o)
    (λ e. let first : x ≡ a = (let w = rw e at found in cc) in
    test_cases (has_key n i x) (a ≡ o)
    (λ k. let second : x ≡ o = (let w = rw k at here in cc) in sym first ∙ second)
    (λ k. both_ways (list_any (same_printer x) xs) (later x (same_member_is x.busy m e) xs (rw k at here)) distinct.0))
    (λ e. test_cases (has_key n i x) (a ≡ o)
    (λ k. let second : x ≡ o = (let w = rw k at here in cc) in both_ways (prints_at m x) (subst (λ (y : Output). same_member y.busy m ≡ true) (sym second) busy) e)
    (λ k. one_printer m n i xs a o some distinct.1 (rw e at found) (rw k at here) busy))
  where
    later : (x : Output) → x.busy ≡ m → (ys : List Output) → find (has_key n i) ys ≡ Some o → list_any (same_printer x) ys ≡ true
    later x at_m [] h = absurd (cc)
    later x at_m (y ∷ ys) h =
        test_cases (has_key n i y) (list_any (same_printer x) (y ∷ ys) ≡ true)
        (λ k. let same : y ≡ o = (let w = rw k at h in cc) in
        or_left (same_printer x y) (list_any (same_printer x) ys) (subst (λ (z : Output). same_printer x z ≡ true) (sym same) (pair x.busy o.busy at_m busy)))
        (λ k. or_right (same_printer x y) (list_any (same_printer x) ys) (later x at_m ys (rw k at h)))
      where
        pair : (u v : MemberId) → u ≡ m → same_member v m ≡ true → (is_somebody u && same_member u v) ≡ true
        pair u v e k = rw (e, some) (grind (arith, nat_tests))

-- THE LINE

pub lines_keep : (On After : JobNo → OutNo → ℕ → Text → Type 0) (base : Queue) (counts : Counts) (K es : List Entry) (m : MemberId) (o : Output) → IsSound base → All (IsGiven base) K → All (IsGiven base) es
    → is_somebody m ≡ true → All (λ e. same_member e.by m ≡ false) es → printing_at (run base K) m ≡ Some o
    → ((n : JobNo) (i : OutNo) (line : ℕ) (text : Text) → On n i line text → After n i line text) → After o.job o.index (o.mark + counts m + 1) o.text
    → AreLinesOn On base counts (K ++ es) → AreLinesOn After base (one_more m counts) (K ++ es)
lines_keep On After base counts K es m o sound givenK given some none prints so new lines n i o' found un line low high =
    test_cases (same_member o'.busy m) (After n i line o'.text)
    (λ busy.
    let same : o'.busy ≡ m = same_member_is o'.busy m busy in
    let now : IsSound (run base K) = runs_keep_sound base K sound givenK in
    let found' : output_at (run (run base K) es) n i ≡ Some o' = subst (λ (R : Queue). output_at R n i ≡ Some o') (run_append base K es) found in
    let was : WasBusy (run base K) m n i o' = was_busy (run base K) m es n i o' now (all_given_after base K es given) some none found' busy in
    let one : o ≡ was.output = one_printer m n i (run base K).outputs o was.output some now.printers (let w = rw some at prints in w) was.found was.busy in
    let key : has_key n i o ≡ true = rw one (find_passes (has_key n i) (run base K).outputs was.output was.found) in
    let mark : o.mark ≡ o'.mark = ap (λ (y : Output). y.mark) one ∙ was.mark in
    let text : o.text ≡ o'.text = ap (λ (y : Output). y.text) one ∙ was.text in
    let names : (o.job ≡ n) × (o.index ≡ i) = same_key_is n o.job i o.index o key (own_key o) in
    let is : printed_at (one_more m counts) o'.busy ≡ counts m + 1 = rw same (rw (some, itself m.0) refl) in
    let old : printed_at counts o'.busy ≡ counts m = rw same (rw some refl) in
    test_cases (nat_le line (o'.mark + counts m)) (After n i line o'.text)
    (λ upto. so n i line o'.text (lines n i o' found un line low (within line o'.mark (counts m) (printed_at counts o'.busy) upto old)))
    (λ past.
    let at : line ≡ o.mark + counts m + 1 = last line o.mark o'.mark (counts m) (printed_at (one_more m counts) o'.busy) mark is past high in
    subst (λ (t : Text). After n i line t) text (rw (← names.0, ← names.1, at) new)))
    (λ apart. so n i line o'.text
    (lines n i o' found un line low (le_trans high (add_le o'.mark (printed_at (one_more m counts) o'.busy) (printed_at counts o'.busy) (printed_at_le counts (one_more m counts) o'.busy (rw apart (le_refl (counts o'.busy))))))))
  where
    itself : (n : ℕ) → (n == n) ≡ true
    itself n = grind (arith, nat_tests)

    add_le : (k x y : ℕ) → x ≤ y → k + x ≤ k + y
    add_le k x y l = omega arith

    within : (line k p q : ℕ) → nat_le line (k + p) ≡ true → q ≡ p → line ≤ k + q
    within line k p q t e = let w : line ≤ k + p = grind (arith, nat_tests) in omega arith

    last : (line k k' p q : ℕ) → k ≡ k' → q ≡ p + 1 → nat_le line (k' + p) ≡ false → line ≤ k' + q → line ≡ k + p + 1
    last line k k' p q mark new past high = grind (arith, nat_tests)
