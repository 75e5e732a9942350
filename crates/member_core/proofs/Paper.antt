-- Commands and printed lines keep all of it.
use Rattle.std.proofs.Common.{◌≡◌, ℕ, suc, ◌+◌, ◌≤◌, ◌<◌, ◌⊎◌, inl, inr, Bool, true, false, ◌&&◌, ◌==◌, nat_le, List, [], ◌∷◌, ◌++◌, length, Option, Some, None, refl, ap, sym, ◌∙◌, subst, arith, append_assoc, append-nil, le_refl, le_trans}
use Rattle.std.specs.List.{list_any}
use Rattle.std.proofs.lemmas.Bool.Decides.{nat_tests}
use Rattle.mas_types.specs.declared.ids.MemberId.{MemberId}
use Rattle.mas_types.specs.declared.ids.GroupNo.{GroupNo}
use Rattle.mas_types.specs.declared.jobs.Output.{Output}
use Rattle.mas_types.specs.declared.queues.Queue.{Queue}
use Rattle.mas_types.specs.declared.commands.Command.{Command}
use Rattle.mas_types.specs.declared.commands.Command.TheVariants as command
use Rattle.mas_types.specs.declared.journals.Entry.{Entry}
use Rattle.mas_types.specs.declared.journals.Batch.{Batch}
use Rattle.mas_types.specs.Ids.{is_somebody, same_member}
use Rattle.mas_types.specs.Run.{run}
use Rattle.member_core.specs.declared.worlds.At.TheVariants as at
use Rattle.member_core.specs.declared.worlds.CopyAt.{CopyAt}
use Rattle.member_core.specs.declared.worlds.MemberAt.{MemberAt}
use Rattle.member_core.specs.declared.worlds.Inked.{Inked}
use Rattle.member_core.specs.declared.worlds.Said.{Said}
use Rattle.member_core.specs.declared.worlds.World.{World}
use Rattle.member_core.specs.Worlds.{is_nil, is_away, is_ready, absent, member_in, on_member, is_up_in, acts_in, kept_in, flying_in, with_batches, is_of}
use Rattle.mas_types.specs.Queue.{output_at, has_key, printing_at}
use Rattle.mas_types.specs.Sound.{IsSound}
use Rattle.mas_types.specs.Fit.{IsFit}
use Rattle.mas_types.specs.Step.{may_give}
use Rattle.member_core.specs.Events.{can_do, allowed, has_done, printed_after, entry_of, can_print, is_idle, has_line, next_line, has_printed}
use Rattle.queue_laws.specs.Runs.{IsGiven}
use Rattle.member_core.specs.Holds.{AreGiven, IsAt, IsReady, is_writing, IsNoneBy, AreLinesInked, printed_in, IsPaper, resets_up, HoldsOf, is_line, is_inked}
use Rattle.paper_laws.specs.Paper.{printed_at}
use Rattle.member_core.proofs.Basics.{test_cases, and_left, and_right, and_both, or_left, or_right, or_cases, not_true, away_is, ready_is, nil_is, change_rel, change_same, change_other, change_length, each_member, acting_inside, all_append, same_member_is, both_ways}
use Rattle.member_core.proofs.Frames.{acts_as, told_on, alone_on, stages_on, unsure_on, at_work_on, writer_on, resets_on, worker_keeps}
use Rattle.member_core.proofs.Locks.{up_acts, away_quiet}
use Rattle.member_core.proofs.Copies.{none_by_other}
use Rattle.member_core.proofs.Members.{stage_with, mine_of}
use Rattle.member_core.proofs.Runs.{sound_run, IsMarkRight, lines_push, WasBusy, was_busy, one_printer, find_passes}
use Rattle.paper_laws.proofs.Runs.{run_append}

pub after_le : (c : Command) (n : ℕ) → printed_after c n ≤ n
after_le command.Pick n = omega arith
after_le (command.Mark job index line) n = omega arith
after_le (command.Back lines) n = omega arith
after_le (command.Forward lines) n = omega arith
after_le _ n = le_refl n

pub any_left : {A : Type 0} (test : A → Bool) (xs ys : List A) → list_any test xs ≡ true → list_any test (xs ++ ys) ≡ true
any_left test [] ys h = absurd (cc)
any_left test (x ∷ xs) ys h =
    test_cases (test x) (list_any test ((x ∷ xs) ++ ys) ≡ true)
    (λ e. or_left (test x) (list_any test (xs ++ ys)) e)
    (λ e. or_right (test x) (list_any test (xs ++ ys)) (any_left test xs ys (let w = rw e at h in w)))

pub any_last : {A : Type 0} (test : A → Bool) (xs : List A) (y : A) → test y ≡ true → list_any test (xs ++ y ∷ []) ≡ true
any_last test [] y h = or_left (test y) false h
any_last test (x ∷ xs) y h = or_right (test x) (list_any test (xs ++ y ∷ [])) (any_last test xs y h)

module _ (base : Queue) (bs : List Batch) (a b : CopyAt) (holder : MemberId) (members : List MemberAt) (inked : List Inked) (unsynced : List GroupNo) (told : List Said) where
  abbrev the : World
  the = record { base = base; journal = with_batches bs; copies = a ∷ (b ∷ []); holder = holder; members = members; printed = inked; unsynced = unsynced; told = told }

  abbrev K : List Entry
  K = kept_in bs

  abbrev F : List Entry
  F = flying_in bs

  abbrev AllOf : Type 0
  AllOf = HoldsOf base bs a b holder members inked unsynced told

  give_do : (m : MemberId) (c : Command) → is_somebody m ≡ true → nat_le m.0 base.config.members ≡ true → allowed the m c ≡ true → may_give base m c ≡ true
  give_do m command.Restart some few may = absurd (cc)
  give_do m _ some few may = and_both (is_somebody m) (nat_le m.0 base.config.members) some few

  mark_do : (m : MemberId) (c : Command) → is_somebody m ≡ true → allowed the m c ≡ true → IsMarkRight (run base (member_in members m).own) m (member_in members m).printed c
  mark_do m (command.Mark job index line) some may = (some, may)
  mark_do m _ some may = tt

  reset_do : (m : MemberId) (c : Command) → allowed the m c ≡ true → resets_up members c ≡ false
  reset_do m (command.Reset of_member) may = not_true (is_up_in members of_member) may
  reset_do m _ may = refl

  pub keeps_do : AllOf → (m : MemberId) (c : Command) → IsFit c → can_do the m c ≡ true
      → HoldsOf base bs a b holder (on_member m (has_done c (entry_of (run base (member_in members m).own) m (member_in members m).step c)) members) inked unsynced told
  keeps_do h m c fit p =
      let x = member_in members m in
      let e = entry_of (run base x.own) m x.step c in
      let f = has_done c e in
      let up : is_up_in members m ≡ true = and_left (is_up_in members m) _ p in
      let some : is_somebody m ≡ true = and_left (is_somebody m) x.up up in
      let p1 : (is_ready x.stage && allowed the m c) ≡ true = and_right (is_up_in members m) _ p in
      let now : is_ready x.stage ≡ true = and_left (is_ready x.stage) _ p1 in
      let may : allowed the m c ≡ true = and_right (is_ready x.stage) _ p1 in
      let s : x.stage ≡ at.Ready = ready_is x.stage now in
      let act : acts_in members m ≡ true = up_acts members m up in
      let inside : m.0 < length members = acting_inside members m base.config.members h.fit act in
      let ready : IsReady base m K F a b x = (rw s at (h.stages m act)) in
      let few : nat_le m.0 base.config.members ≡ true = few_is m.0 base.config.members (length members) h.fit inside in
      let given : AreGiven base x.own = subst (λ es. AreGiven base es) (sym ready.own) (all_append (IsGiven base) K x.batch h.given.0 ready.given) in
      let sound : IsSound (run base x.own) = (sound_run base base x.own h.sound refl given).0 in
      let fall : printed_in (on_member m f members) m ≡ printed_after c x.printed = ap (λ (y : MemberAt). y.printed) (change_same absent f m.0 members inside) in
      let stage' : (f x).stage ≡ at.Ready = s in
      worker_keeps base bs a b holder members inked unsynced told h m act (rw s refl) f (λ y. after_le c y.printed) (λ y. le_refl y.step) bs a b refl refl
      (rw s (record {
        flying = ready.flying;
        own = ap (λ es. es ++ e ∷ []) ready.own ∙ append_assoc K x.batch (e ∷ []);
        first = ready.first;
        second = ready.second;
        mine = all_append (λ (y : Entry). is_of m x.step y ≡ true) x.batch (e ∷ []) ready.mine (itself m.0 x.step, tt);
        given = all_append (IsGiven base) x.batch (e ∷ []) ready.given (record { by = give_do m c some few may; fit = fit }, tt);
        single = λ none_up. both_ways (is_somebody m) some none_up;
      }))
      (λ u. rw s refl) h.journal h.by_member (λ y u. u) h.resets.0 (λ r. all_append (λ (y : Entry). resets_up members y.command ≡ false) x.batch (e ∷ []) (h.resets.1 m act now) (reset_do m c may, tt)) h.given h.copies
      (writer_on m f members F inside (λ u quiet. subst (λ es. IsNoneBy m es) (sym ready.flying) tt) (λ j apart u quiet. h.writer j u quiet))
      h.tells h.synced h.paper.0 h.paper.1.0
      (λ r. lines_push base inked x.own e (printed_in members) (printed_in (on_member m f members)) sound
      (λ k. change_rel absent (λ (y z : MemberAt). z.printed ≤ y.printed) f (λ y. le_refl y.printed) (λ y. after_le c y.printed) m.0 k.0 members)
      (subst (λ (n : ℕ). n ≤ printed_after c x.printed) (sym fall) (le_refl (printed_after c x.printed)))
      (mark_do m c some may) (h.paper.1.1 m act now))
    where
      few_is : (m n l : ℕ) → l ≡ suc n → m < l → nat_le m n ≡ true
      few_is m n l e i = grind (arith, nat_tests)

      itself : (m k : ℕ) → ((m == m) && (k == k)) ≡ true
      itself m k = grind (arith, nat_tests)

  -- PRINTED LINES

  -- the line of the output that is busy there
  abbrev line_of : Output → ℕ → Inked
  line_of o printed = record { job = o.job; index = o.index; line = o.mark + printed + 1 }

  lines_print : AllOf → (m : MemberId) (o : Output) → is_somebody m ≡ true → m.0 < length members → printing_at (run base K) m ≡ Some o
      → (es : List Entry) → AreGiven base es → IsNoneBy m es → AreLinesInked base inked (printed_in members) (K ++ es)
      → AreLinesInked base (inked ++ line_of o (member_in members m).printed ∷ []) (printed_in (on_member m has_printed members)) (K ++ es)
  lines_print h m o some inside prints es given none lines n i o' found un line low high =
      test_cases (same_member o'.busy m) (is_inked n i line (inked ++ line_of o (member_in members m).printed ∷ []) ≡ true)
      (λ busy.
      let same : o'.busy ≡ m = same_member_is o'.busy m busy in
      let sound : IsSound (run base K) = (sound_run base base K h.sound refl h.given.0).0 in
      let config : (run base K).config ≡ base.config = (sound_run base base K h.sound refl h.given.0).1 in
      let found' : output_at (run (run base K) es) n i ≡ Some o' = subst (λ (R : Queue). output_at R n i ≡ Some o') (run_append base K es) found in
      let was : WasBusy (run base K) m n i o' = was_busy base (run base K) m es n i o' sound config given some none found' busy in
      let one : o ≡ was.output = one_printer m n i (run base K).outputs o was.output some sound.printers (let w = rw some at prints in w) was.found was.busy in
      let key : has_key n i o ≡ true = rw one (find_passes (has_key n i) (run base K).outputs was.output was.found) in
      let mark : o.mark ≡ o'.mark = ap (λ (y : Output). y.mark) one ∙ was.mark in
      let count : printed_in (on_member m has_printed members) m ≡ (member_in members m).printed + 1 = ap (λ (y : MemberAt). y.printed) (change_same absent has_printed m.0 members inside) in
      let new : printed_at (printed_in (on_member m has_printed members)) o'.busy ≡ (member_in members m).printed + 1 = rw same (rw some count) in
      let old : printed_at (printed_in members) o'.busy ≡ (member_in members m).printed = rw same (rw some refl) in
      test_cases (nat_le line (o'.mark + (member_in members m).printed)) (is_inked n i line (inked ++ line_of o (member_in members m).printed ∷ []) ≡ true)
      (λ upto. any_left (is_line n i line) inked (line_of o (member_in members m).printed ∷ [])
      (lines n i o' found un line low (within line o'.mark (member_in members m).printed (printed_at (printed_in members) o'.busy) upto old)))
      (λ past. any_last (is_line n i line) inked (line_of o (member_in members m).printed)
      (last o.job.0 n.0 o.index.0 i.0 line o.mark o'.mark (member_in members m).printed (printed_at (printed_in (on_member m has_printed members)) o'.busy) key mark new past high)))
      (λ apart.
      let other : printed_in (on_member m has_printed members) o'.busy ≡ printed_in members o'.busy = ap (λ (y : MemberAt). y.printed) (change_other absent has_printed m.0 o'.busy.0 members apart) in
      any_left (is_line n i line) inked (line_of o (member_in members m).printed ∷ [])
      (lines n i o' found un line low (le_trans high (sums o'.mark (printed_at (printed_in (on_member m has_printed members)) o'.busy) (printed_at (printed_in members) o'.busy)
      (same_count (printed_in members) (printed_in (on_member m has_printed members)) o'.busy other)))))
    where
      sums : (k x y : ℕ) → x ≤ y → k + x ≤ k + y
      sums k x y l = omega arith

      within : (line k p q : ℕ) → nat_le line (k + p) ≡ true → q ≡ p → line ≤ k + q
      within line k p q t e = let w : line ≤ k + p = grind (arith, nat_tests) in omega arith

      last : (j n x i line k k' p q : ℕ) → ((j == n) && (x == i)) ≡ true → k ≡ k' → q ≡ p + 1 → nat_le line (k' + p) ≡ false → line ≤ k' + q → ((j == n) && ((x == i) && ((k + p + 1) == line))) ≡ true
      last j n x i line k k' p q key e f past high = let w : line ≡ k + p + 1 = grind (arith, nat_tests) in grind (arith, nat_tests)

      same_count : (counts counts' : MemberId → ℕ) (k : MemberId) → counts' k ≡ counts k → printed_at counts' k ≤ printed_at counts k
      same_count counts counts' k e =
          test_cases (is_somebody k) (printed_at counts' k ≤ printed_at counts k)
          (λ s. rw (s, e) (le_refl (counts k)))
          (λ s. rw s (le_refl 0))

  pub keeps_print : AllOf → (m : MemberId) → can_print the m ≡ true
      → HoldsOf base bs a b holder (on_member m has_printed members) (inked ++ next_line (member_in members m).printed (printing_at (run base K) m)) unsynced told
  keeps_print h m p =
      let x = member_in members m in
      let up : is_up_in members m ≡ true = and_left (is_up_in members m) _ p in
      let some : is_somebody m ≡ true = and_left (is_somebody m) x.up up in
      let p1 : (is_idle x && has_line (run base (K ++ F)) m x.printed (printing_at (run base K) m)) ≡ true = and_right (is_up_in members m) _ p in
      let idle : is_idle x ≡ true = and_left (is_idle x) _ p1 in
      let act : acts_in members m ≡ true = up_acts members m up in
      let inside : m.0 < length members = acting_inside members m base.config.members h.fit act in
      let stage : IsAt x.stage base m K F a b x = h.stages m act in
      let none : IsNoneBy m F = none_flying m x up (or_cases (is_away x.stage) (is_ready x.stage && is_nil x.batch) idle) stage (h.writer m up) in
      record {
        sound = h.sound;
        fit = change_length has_printed m.0 members ∙ h.fit;
        journal = h.journal;
        by_member = h.by_member;
        given = h.given;
        copies = h.copies;
        resets = resets_on m has_printed members F inside (λ y u. u) h.resets.0 (λ acting ready. h.resets.1 m act ready) (λ j apart acting ready. h.resets.1 j acting ready);
        gates = (λ u. unsure_on K F m has_printed members a inside (λ acting. (h.gates.0 u).calm m act) (h.gates.0 u), λ u. unsure_on K F m has_printed members b inside (λ acting. (h.gates.1 u).calm m act) (h.gates.1 u));
        stages = stages_on m has_printed members base K F a b inside
            (λ acting. stage_with base bs a b holder members inked unsynced told m x.step (x.printed + 1) x.stage x stage (λ now. (mine_of base bs a b holder members inked unsynced told m x.stage x now stage).mine))
            (λ j apart acting. h.stages j acting);
        alone = alone_on m has_printed members holder inside (λ acting works. h.alone m act works) (λ j apart acting works. h.alone j acting works);
        at_work = at_work_on holder m has_printed members inside (λ u held. h.at_work m u held) (λ j apart u held. h.at_work j u held);
        writer = writer_on m has_printed members F inside (λ u quiet. h.writer m u quiet) (λ j apart u quiet. h.writer j u quiet);
        tells = told_on m has_printed members bs told (λ y. le_refl y.step) h.tells;
        synced = h.synced;
        paper = by some inside none idle stage act (printing_at (run base K) m) refl (and_right (is_idle x) _ p1);
      }
    where
      none_flying : (m : MemberId) (x : MemberAt) → is_up_in members m ≡ true → (is_away x.stage ≡ true) ⊎ ((is_ready x.stage && is_nil x.batch) ≡ true) → IsAt x.stage base m K F a b x → (is_writing x.stage ≡ false → IsNoneBy m F) → IsNoneBy m F
      none_flying m x up (inl away) stage writer = writer (away_quiet x.stage away)
      none_flying m x up (inr idle) stage writer =
          subst (λ es. IsNoneBy m es) (sym (mine_of base bs a b holder members inked unsynced told m x.stage x (and_left (is_ready x.stage) (is_nil x.batch) idle) stage).flying) tt

      no_batch : (x : MemberAt) → is_idle x ≡ true → is_ready x.stage ≡ true → x.batch ≡ []
      no_batch x idle now = by' (or_cases (is_away x.stage) (is_ready x.stage && is_nil x.batch) idle)
        where
          by' : (is_away x.stage ≡ true) ⊎ ((is_ready x.stage && is_nil x.batch) ≡ true) → x.batch ≡ []
          by' (inl away) = let e : x.stage ≡ at.Away = away_is x.stage away in absurd (let w = rw e at now in cc)
          by' (inr e) = nil_is x.batch (and_right (is_ready x.stage) (is_nil x.batch) e)

      by : is_somebody m ≡ true → m.0 < length members → IsNoneBy m F → is_idle (member_in members m) ≡ true → IsAt (member_in members m).stage base m K F a b (member_in members m) → acts_in members m ≡ true
          → (o : Option Output) → printing_at (run base K) m ≡ o → has_line (run base (K ++ F)) m (member_in members m).printed o ≡ true
          → IsPaper base (inked ++ next_line (member_in members m).printed o) K F (on_member m has_printed members)
      by some inside none idle stage act None is line = absurd (cc)
      by some inside none idle stage act (Some o) is line = (
        subst (λ es. AreLinesInked base inked' counts' es) (append-nil K)
            (lines_print h m o some inside is [] tt tt (subst (λ es. AreLinesInked base inked (printed_in members) es) (sym (append-nil K)) h.paper.0)),
        (
          lines_print h m o some inside is F h.given.1 none h.paper.1.0,
          λ j. each_member (λ k y. acts_as k y ≡ true → is_ready y.stage ≡ true → AreLinesInked base inked' counts' y.own) m has_printed members inside
              (λ acting now. batch_lines m act now (subst (λ es. IsNoneBy m es) (sym (no_batch (member_in members m) idle now)) tt))
              (λ k apart acting now. batch_lines k acting now
              (none_by_other k (member_in members k).step m (turned k.0 m.0 apart) (member_in members k).batch (mine_of base bs a b holder members inked unsynced told k (member_in members k).stage (member_in members k) now (h.stages k acting)).mine)) j,
        ),
      )
        where
          inked' : List Inked
          inked' = inked ++ line_of o (member_in members m).printed ∷ []

          counts' : MemberId → ℕ
          counts' = printed_in (on_member m has_printed members)

          turned : (k m : ℕ) → (k == m) ≡ false → (m == k) ≡ false
          turned k m t = grind (arith, nat_tests)

          batch_lines : (k : MemberId) → acts_in members k ≡ true → is_ready (member_in members k).stage ≡ true → IsNoneBy m (member_in members k).batch
              → AreLinesInked base inked' counts' (member_in members k).own
          batch_lines k acting now none_by =
              let ready : IsReady base k K F a b (member_in members k) = mine_of base bs a b holder members inked unsynced told k (member_in members k).stage (member_in members k) now (h.stages k acting) in
              subst (λ es. AreLinesInked base inked' counts' es) (sym ready.own)
              (lines_print h m o some inside is (member_in members k).batch ready.given none_by (subst (λ es. AreLinesInked base inked (printed_in members) es) ready.own (h.paper.1.1 k acting now)))
