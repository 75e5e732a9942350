-- What the laws of commands say of runs of entries, and of the lines printed.
use Rattle.std.proofs.Common.{◌≡◌, ℕ, ◌+◌, ◌≤◌, ◌<◌, ◌⊎◌, inl, inr, Bool, true, false, ◌&&◌, ◌==◌, nat_le, List, [], ◌∷◌, ◌++◌, find, Option, Some, None, refl, ap, sym, ◌∙◌, subst, arith, le_refl, le_trans}
use Rattle.std.specs.List.{list_any}
use Rattle.std.proofs.lemmas.Bool.Decides.{nat_tests}
use Rattle.mas_types.specs.declared.ids.MemberId.{MemberId}
use Rattle.mas_types.specs.declared.ids.JobNo.{JobNo}
use Rattle.mas_types.specs.declared.ids.OutNo.{OutNo}
use Rattle.mas_types.specs.declared.jobs.Output.{Output}
use Rattle.mas_types.specs.declared.queues.Queue.{Queue}
use Rattle.mas_types.specs.declared.commands.Command.{Command}
use Rattle.mas_types.specs.declared.commands.Command.TheVariants as command
use Rattle.mas_types.specs.declared.journals.Entry.{Entry}
use Rattle.mas_types.specs.Ids.{is_somebody, same_member}
use Rattle.mas_types.specs.Run.{run}
use Rattle.member_core.specs.declared.worlds.Inked.{Inked}
use Rattle.mas_types.specs.declared.queues.Config.{Config}
use Rattle.mas_types.specs.declared.commands.Reply.{Reply}
use Rattle.mas_types.specs.Queue.{is_member, output_at, has_key, prints_at}
use Rattle.mas_types.specs.Sound.{IsSound, same_printer}
use Rattle.mas_types.specs.Fit.{AreDistinct}
use Rattle.queue_laws.specs.Laws.{is_refusal}
use Rattle.queue_laws.specs.Marks.{MayMark, is_pick, OutputFollows, FollowsAt}
use Rattle.mas_types.specs.Step.{step, may_give}
use Rattle.queue_laws.proofs.Configuration.{keeps_configuration}
use Rattle.queue_laws.proofs.MarksFollow.{marks_follow}
use Rattle.queue_laws.proofs.SoundAll.{keeps_sound}
use Rattle.queue_laws.proofs.Refused.{refused_changes_nothing}
use Rattle.member_core.specs.Events.{printed_after}
use Rattle.paper_laws.proofs.Runs.{run_push, touched_push}
use Rattle.paper_laws.specs.Counts.{may_mark}
use Rattle.member_core.specs.Holds.{AreGiven, IsNoneBy, AreLinesInked, is_inked}
use Rattle.paper_laws.specs.Paper.{printed_at, is_forward, touches, touched, mark_of, busy_in}
use Rattle.member_core.proofs.Basics.{test_cases, or_left, or_right, both_ways, same_member_is}
use Rattle.member_core.proofs.Frames.{printed_at_le}

-- THE CONFIGURATION STAYS

pub config_kept : (Q : Queue) (m : MemberId) (c : Command) → (step Q m c).0.config ≡ Q.config
config_kept Q m c = (keeps_configuration Q m c).config

give_same : (base Q : Queue) (m : MemberId) (c : Command) → Q.config ≡ base.config → may_give base m c ≡ true → may_give Q m c ≡ true
give_same base Q m command.Restart same h = h
give_same base Q m _ same h = subst (λ (k : Config). is_member k m ≡ true) (sym same) h

pub sound_run : (base Q : Queue) (es : List Entry) → IsSound Q → Q.config ≡ base.config → AreGiven base es → IsSound (run Q es) × ((run Q es).config ≡ base.config)
sound_run base Q [] s c g = (s, c)
sound_run base Q (e ∷ es) s c g =
    sound_run base (step Q e.by e.command).0 es (keeps_sound Q e.by e.command s g.0.fit (give_same base Q e.by e.command c g.0.by)) (config_kept Q e.by e.command ∙ c) g.1

-- LINES PRINTED, ONE COMMAND FURTHER

pub printed_upto : (counts : MemberId → ℕ) (m : MemberId) → printed_at counts m ≤ counts m
printed_upto counts m =
    test_cases (is_somebody m) (printed_at counts m ≤ counts m)
    (λ e. rw e (le_refl (counts m)))
    (λ e. rw e (zero_first (counts m)))
  where
    zero_first : (n : ℕ) → 0 ≤ n
    zero_first n = omega arith

pick_zero : (c : Command) (n : ℕ) → is_pick c ≡ true → printed_after c n ≡ 0
pick_zero command.Pick n h = refl
pick_zero _ n h = absurd (cc)

-- a Mark is of what its member printed
abbrev pub IsMarkRight : Queue → MemberId → ℕ → Command → Type 0
IsMarkRight Q m printed (command.Mark n i at) = (is_somebody m ≡ true) × (may_mark m printed at (output_at Q n i) ≡ true)
IsMarkRight Q m printed _ = Unit {0}

pub find_passes : {A : Type 0} (test : A → Bool) (xs : List A) (x : A) → find test xs ≡ Some x → test x ≡ true
find_passes test [] x h = absurd (cc)
find_passes test (y ∷ ys) x h =
    test_cases (test y) (test x ≡ true)
    (λ e. let same : y ≡ x = (let w = rw e at h in cc) in rw (← same) e)
    (λ e. find_passes test ys x (rw e at h))

abbrev number_of : ℕ → JobNo
number_of n = record { 0 = n }

abbrev index_of : ℕ → OutNo
index_of n = record { 0 = n }

same_key_is : (n n' : JobNo) (i i' : OutNo) (o : Output) → has_key n i o ≡ true → has_key n' i' o ≡ true → (n' ≡ n) × (i' ≡ i)
same_key_is n n' i i' o h k = (ap number_of (numbers o.job.0 n.0 n'.0 o.index.0 i.0 i'.0 h k), ap index_of (indexes o.job.0 n.0 n'.0 o.index.0 i.0 i'.0 h k))
  where
    numbers : (a n n' b i i' : ℕ) → ((a == n) && (b == i)) ≡ true → ((a == n') && (b == i')) ≡ true → n' ≡ n
    numbers a n n' b i i' h k = grind (arith, nat_tests)

    indexes : (a n n' b i i' : ℕ) → ((a == n) && (b == i)) ≡ true → ((a == n') && (b == i')) ≡ true → i' ≡ i
    indexes a n n' b i i' h k = grind (arith, nat_tests)

module _ (Q : Queue) (m : MemberId) (counts counts' : MemberId → ℕ) (le : (k : MemberId) → counts' k ≤ counts k) (n : JobNo) (i : OutNo) (old o : Output) where
  -- with a count that falls to 0 nothing is claimed after the mark
  busy_zero : (c : Command) → counts' m ≤ 0 → same_member old.busy m ≡ true → OutputFollows m c old o → printed_at counts' o.busy ≤ 0
  busy_zero c none at_m follows = by follows.busy
    where
      at_member : o.busy ≡ m → printed_at counts' o.busy ≤ 0
      at_member e = le_trans (printed_upto counts' o.busy) (subst (λ (k : MemberId). counts' k ≤ 0) (sym e) none)

      by : (o.busy ≡ old.busy) ⊎ ((is_somebody o.busy ≡ false) ⊎ ((is_pick c ≡ true) × (o.busy ≡ m))) → printed_at counts' o.busy ≤ 0
      by (inl e) = at_member (e ∙ same_member_is old.busy m at_m)
      by (inr (inl e)) = rw e (le_refl 0)
      by (inr (inr e)) = at_member e.1

  busy_same : (c : Command) → counts' m ≤ printed_after c (counts m) → OutputFollows m c old o → printed_at counts' o.busy ≤ printed_at counts old.busy
  busy_same c fall follows = by follows.busy
    where
      zero_first : (n : ℕ) → 0 ≤ n
      zero_first n = omega arith

      by : (o.busy ≡ old.busy) ⊎ ((is_somebody o.busy ≡ false) ⊎ ((is_pick c ≡ true) × (o.busy ≡ m))) → printed_at counts' o.busy ≤ printed_at counts old.busy
      by (inl e) = subst (λ (k : MemberId). printed_at counts' k ≤ printed_at counts old.busy) (sym e) (printed_at_le counts counts' old.busy (le old.busy))
      by (inr (inl e)) = rw e (zero_first (printed_at counts old.busy))
      by (inr (inr e)) =
          let none : counts' m ≤ 0 = subst (λ (k : ℕ). counts' m ≤ k) (pick_zero c (counts m) e.0) fall in
          le_trans (printed_upto counts' o.busy) (le_trans (subst (λ (k : MemberId). counts' k ≤ 0) (sym e.1) none) (zero_first (printed_at counts old.busy)))

  sums : (a p b q : ℕ) → a ≤ b → p ≤ q → a + p ≤ b + q
  sums a p b q x y = omega arith

  zero_sum : (a p b q : ℕ) → a ≤ b → p ≤ 0 → a + p ≤ b + q
  zero_sum a p b q x y = omega arith

  -- the mark moved
  moved_bound : (c : Command) → counts' m ≤ printed_after c (counts m) → IsMarkRight Q m (counts m) c → output_at Q n i ≡ Some old → same_member old.busy m ≡ true
      → (is_forward c && (true && same_member old.busy m)) ≡ false → OutputFollows m c old o → MayMark c old o → o.mark + printed_at counts' o.busy ≤ old.mark + printed_at counts old.busy
  moved_bound (command.Mark n' i' line) fall right found at_m calm follows may =
      let key : has_key n i old ≡ true = find_passes (has_key n i) Q.outputs old found in
      let same : (n' ≡ n) × (i' ≡ i) = same_key_is n n' i i' old key may.0 in
      let found' : output_at Q n' i' ≡ Some old = rw (same.0, same.1) found in
      let allowed : may_mark m (counts m) line (Some old) ≡ true = subst (λ (x : Option Output). may_mark m (counts m) line x ≡ true) found' right.1 in
      let upto : nat_le line (old.mark + counts m) ≡ true = (let w = rw at_m at allowed in w) in
      let mine : old.busy ≡ m = same_member_is old.busy m at_m in
      let whole : printed_at counts old.busy ≡ counts m = rw mine (rw right.0 refl) in
      let none : printed_at counts' o.busy ≤ 0 = busy_zero (command.Mark n' i' line) fall at_m follows in
      rw whole (chain o.mark (printed_at counts' o.busy) line old.mark (counts m) may.1 none upto)
    where
      chain : (a p l b q : ℕ) → a ≤ l → p ≤ 0 → nat_le l (b + q) ≡ true → a + p ≤ b + q
      chain a p l b q x y z = let w : l ≤ b + q = grind (arith, nat_tests) in omega arith
  moved_bound (command.Back lines) fall right found at_m calm follows may =
      zero_sum o.mark (printed_at counts' o.busy) old.mark (printed_at counts old.busy) may (busy_zero (command.Back lines) fall at_m follows)
  moved_bound (command.Forward lines) fall right found at_m calm follows may = both_ways (same_member old.busy m) at_m calm
  moved_bound _ fall right found at_m calm follows may = absurd may

  pub mark_bound : (c : Command) → counts' m ≤ printed_after c (counts m) → IsMarkRight Q m (counts m) c → output_at Q n i ≡ Some old
      → (is_forward c && (true && same_member old.busy m)) ≡ false → OutputFollows m c old o → o.mark + printed_at counts' o.busy ≤ old.mark + printed_at counts old.busy
  mark_bound c fall right found calm follows = by follows.mark
    where
      by : (o.mark ≡ old.mark) ⊎ ((same_member old.busy m ≡ true) × MayMark c old o) → o.mark + printed_at counts' o.busy ≤ old.mark + printed_at counts old.busy
      by (inl e) = sums o.mark (printed_at counts' o.busy) old.mark (printed_at counts old.busy) (rw e (le_refl old.mark)) (busy_same c fall follows)
      by (inr e) = moved_bound c fall right found e.0 calm follows e.1

-- one command more on a list whose lines are printed
pub lines_push : (base : Queue) (inked : List Inked) (es : List Entry) (e : Entry) (counts counts' : MemberId → ℕ) → IsSound (run base es) → ((k : MemberId) → counts' k ≤ counts k)
    → counts' e.by ≤ printed_after e.command (counts e.by) → IsMarkRight (run base es) e.by (counts e.by) e.command
    → AreLinesInked base inked counts es → AreLinesInked base inked counts' (es ++ e ∷ [])
lines_push base inked es e counts counts' sound le fall right h n i o found un line low high =
    let parts : (touched base es n i ≡ false) × (touches (run base es) e n i ≡ false) = touched_push base es e n i un in
    let found' : output_at (step (run base es) e.by e.command).0 n i ≡ Some o = subst (λ (R : Queue). output_at R n i ≡ Some o) (run_push base es e) found in
    let follows : FollowsAt e.by e.command (output_at (run base es) n i) (output_at (step (run base es) e.by e.command).0 n i) = marks_follow (run base es) e.by e.command sound n i in
    let follows' : FollowsAt e.by e.command (output_at (run base es) n i) (Some o) = subst (λ (x : Option Output). FollowsAt e.by e.command (output_at (run base es) n i) x) found' follows in
    on_reply (step (run base es) e.by e.command).1 refl parts.0 parts.1 found' follows'
  where
    on_old : (x : Option Output) → output_at (run base es) n i ≡ x → touched base es n i ≡ false → (is_forward e.command && (true && busy_in x e.by)) ≡ false → FollowsAt e.by e.command x (Some o) → is_inked n i line inked ≡ true
    on_old None is un_old calm follows =
        let none : printed_at counts' o.busy ≡ 0 = rw follows.busy refl in
        let no_line : ⊥ = nothing line (mark_of (output_at base n i)) o.mark (printed_at counts' o.busy) low high follows.mark none in absurd no_line
      where
        nothing : (l b k p : ℕ) → b < l → l ≤ k + p → k ≡ 0 → p ≡ 0 → ⊥
        nothing l b k p x y z w = omega arith
    on_old (Some old) is un_old calm follows =
        h n i old is un_old line low (le_trans high (mark_bound (run base es) e.by counts counts' le n i old o e.command fall right is calm follows))

    -- a refused command changes nothing
    on_reply : (answer : Reply) → (step (run base es) e.by e.command).1 ≡ answer → touched base es n i ≡ false → touches (run base es) e n i ≡ false → output_at (step (run base es) e.by e.command).0 n i ≡ Some o → FollowsAt e.by e.command (output_at (run base es) n i) (Some o) → is_inked n i line inked ≡ true
    on_reply answer is un_old un_new found' follows' =
        test_cases (is_refusal answer) (is_inked n i line inked ≡ true)
        (λ refused. refusal (subst (λ (r : Reply). is_refusal r ≡ true) (sym is) refused))
        (λ done. on_old (output_at (run base es) n i) refl un_old (let w = rw (is, done) at un_new in w) follows')
      where
        refusal : is_refusal (step (run base es) e.by e.command).1 ≡ true → is_inked n i line inked ≡ true
        refusal refused =
            let same : (step (run base es) e.by e.command).0 ≡ (run base es) = refused_changes_nothing (run base es) e.by e.command refused in
            let here : output_at (run base es) n i ≡ Some o = subst (λ (R : Queue). output_at R n i ≡ Some o) same found' in
            h n i o here un_old line low (le_trans high (sums' o.mark (printed_at counts' o.busy) (printed_at counts o.busy) (printed_at_le counts counts' o.busy (le o.busy))))
          where
            sums' : (a p q : ℕ) → p ≤ q → a + p ≤ a + q
            sums' a p q x = omega arith

-- WHAT IS BUSY AT A MEMBER THROUGH THE COMMANDS OF OTHERS

pub record WasBusy (Q : Queue) (m : MemberId) (n : JobNo) (i : OutNo) (o : Output) : Type 0 where
  pub output : Output
  pub found : output_at Q n i ≡ Some output
  pub busy : same_member output.busy m ≡ true
  pub mark : output.mark ≡ o.mark

was_step : (Q : Queue) (m : MemberId) (e : Entry) (n : JobNo) (i : OutNo) (o : Output) → IsSound Q → is_somebody m ≡ true → same_member e.by m ≡ false
    → output_at (step Q e.by e.command).0 n i ≡ Some o → same_member o.busy m ≡ true → WasBusy Q m n i o
was_step Q m e n i o sound some apart found busy =
    by (output_at Q n i) refl (subst (λ (x : Option Output). FollowsAt e.by e.command (output_at Q n i) x) found (marks_follow Q e.by e.command sound n i))
  where
    busy_some : is_somebody o.busy ≡ true
    busy_some = let e' : o.busy ≡ m = same_member_is o.busy m busy in rw e' some

    by : (x : Option Output) → output_at Q n i ≡ x → FollowsAt e.by e.command x (Some o) → WasBusy Q m n i o
    by None is f = both_ways (is_somebody o.busy) busy_some f.busy
    by (Some old) is f = record { output = old; found = is; busy = at_old f.busy; mark = same_mark f.mark }
      where
        at_old : (o.busy ≡ old.busy) ⊎ ((is_somebody o.busy ≡ false) ⊎ ((is_pick e.command ≡ true) × (o.busy ≡ e.by))) → same_member old.busy m ≡ true
        at_old (inl s) = subst (λ (k : MemberId). same_member k m ≡ true) s busy
        at_old (inr (inl s)) = both_ways (is_somebody o.busy) busy_some s
        at_old (inr (inr s)) = both_ways (same_member e.by m) (subst (λ (k : MemberId). same_member k m ≡ true) s.1 busy) apart

        same_mark : (o.mark ≡ old.mark) ⊎ ((same_member old.busy e.by ≡ true) × MayMark e.command old o) → old.mark ≡ o.mark
        same_mark (inl s) = sym s
        same_mark (inr s) =
            both_ways (same_member e.by m) (subst (λ (k : MemberId). same_member k m ≡ true) (same_member_is old.busy e.by s.0) (at_old f.busy)) apart

pub was_busy : (base Q : Queue) (m : MemberId) (es : List Entry) (n : JobNo) (i : OutNo) (o : Output) → IsSound Q → Q.config ≡ base.config → AreGiven base es → is_somebody m ≡ true → IsNoneBy m es
    → output_at (run Q es) n i ≡ Some o → same_member o.busy m ≡ true → WasBusy Q m n i o
was_busy base Q m [] n i o sound same given some none found busy = record { output = o; found = found; busy = busy; mark = refl }
was_busy base Q m (e ∷ es) n i o sound same given some none found busy =
    let sound' : IsSound (step Q e.by e.command).0 = keeps_sound Q e.by e.command sound given.0.fit (give_same base Q e.by e.command same given.0.by) in
    let later : WasBusy (step Q e.by e.command).0 m n i o = was_busy base (step Q e.by e.command).0 m es n i o sound' (config_kept Q e.by e.command ∙ same) given.1 some none.1 found busy in
    let now : WasBusy Q m n i later.output = was_step Q m e n i later.output sound some none.0 later.found later.busy in
    record { output = now.output; found = now.found; busy = now.busy; mark = now.mark ∙ later.mark }

-- of two outputs that are busy at one member the second is the first
pub one_printer : (m : MemberId) (n : JobNo) (i : OutNo) (xs : List Output) (a o : Output) → is_somebody m ≡ true → AreDistinct same_printer xs
    → find (prints_at m) xs ≡ Some a → find (has_key n i) xs ≡ Some o → same_member o.busy m ≡ true → a ≡ o
one_printer m n i [] a o some distinct found here busy = absurd (cc)
one_printer m n i (x ∷ xs) a o some distinct found here busy =
    test_cases (prints_at m x) (a ≡ o)
    (λ e. let first : x ≡ a = (let w = rw e at found in cc) in
    test_cases (has_key n i x) (a ≡ o)
    (λ k. let second : x ≡ o = (let w = rw k at here in cc) in sym first ∙ second)
    (λ k. both_ways (list_any (same_printer x) xs) (later x (same_member_is x.busy m e) xs (rw k at here)) distinct.0))
    (λ e. test_cases (has_key n i x) (a ≡ o)
    (λ k. let second : x ≡ o = (let w = rw k at here in cc) in both_ways (prints_at m x) (subst (λ (y : Output). same_member y.busy m ≡ true) (sym second) busy) e)
    (λ k. one_printer m n i xs a o some distinct.1 (rw e at found) (rw k at here) busy))
  where
    later : (x : Output) → x.busy ≡ m → (ys : List Output) → find (has_key n i) ys ≡ Some o → list_any (same_printer x) ys ≡ true
    later x at_m [] h = absurd (cc)
    later x at_m (y ∷ ys) h =
        test_cases (has_key n i y) (list_any (same_printer x) (y ∷ ys) ≡ true)
        (λ k. let same : y ≡ o = (let w = rw k at h in cc) in
        or_left (same_printer x y) (list_any (same_printer x) ys) (subst (λ (z : Output). same_printer x z ≡ true) (sym same) (pair x.busy o.busy at_m busy)))
        (λ k. or_right (same_printer x y) (list_any (same_printer x) ys) (later x at_m ys (rw k at h)))
      where
        pair : (u v : MemberId) → u ≡ m → same_member v m ≡ true → (is_somebody u && same_member u v) ≡ true
        pair u v e k = rw (e, some) (grind (arith, nat_tests))
