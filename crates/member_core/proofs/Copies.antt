-- The events that write the copies keep all of it.
use Rattle.std.proofs.Common.{◌≡◌, ℕ, ◌≤◌, ◌<◌, ◌⊎◌, inl, inr, Bool, true, false, not, ◌&&◌, ◌==◌, nat_lt, List, [], ◌∷◌, ◌++◌, length, Some, refl, ap, sym, ◌∙◌, subst, arith, append-nil, le_refl}
use Rattle.std.specs.List.{AllByRecursion}
use Rattle.std.proofs.lemmas.Bool.Decides.{nat_tests}
use Rattle.mas_types.specs.declared.ids.MemberId.{MemberId}
use Rattle.mas_types.specs.declared.ids.GroupNo.{GroupNo}
use Rattle.mas_types.specs.declared.ids.Dev.TheVariants as dev
use Rattle.mas_types.specs.declared.queues.Queue.{Queue}
use Rattle.mas_types.specs.declared.journals.Fate.TheVariants as fate
use Rattle.mas_types.specs.declared.journals.Entry.{Entry}
use Rattle.mas_types.specs.declared.journals.Batch.{Batch}
use Rattle.mas_types.specs.Ids.{is_somebody, same_member}
use Rattle.mas_types.specs.Journal.{is_flying}
use Rattle.mas_types.specs.Run.{run}
use Rattle.member_core.specs.declared.worlds.At.TheVariants as at
use Rattle.member_core.specs.declared.worlds.CopyAt.{CopyAt}
use Rattle.member_core.specs.declared.worlds.MemberAt.{MemberAt}
use Rattle.member_core.specs.declared.worlds.Inked.{Inked}
use Rattle.member_core.specs.declared.worlds.Said.{Said}
use Rattle.member_core.specs.declared.worlds.World.{World}
use Rattle.member_core.specs.Worlds.{is_nil, is_away, is_ready, is_logged1, member_in, on_member, is_up_in, acts_in, to_stage, reads_so_many, kept_in, flying_in, settled, with_batches, is_of, has_unkept}
use Rattle.member_core.specs.Events.{is_synced, can_settle, has_flying, fate_by, reads_after, after_primary, can_log, has_next, can_open, opened, kept_once, all_read, written_stage, has_written, flying_batch}
use Rattle.queue_laws.specs.Runs.{IsGiven}
use Rattle.member_core.specs.Holds.{IsAhead, AreCopies, is_calm, AreGiven, IsAt, IsRead2, IsReady, IsLogged1, IsLogged2, IsOpened1, IsNoneBy, IsByWriter, AreLinesInked, printed_in, IsJournal, AreBy, IsNoUpReset, IsTold, HoldsOf}
use Rattle.member_core.proofs.Basics.{test_cases, and_left, and_right, and_both, both_ways, not_true, read2_is, ready_is, logged1_is, logged2_is, opened1_is, not_same, longer_with, acting_inside, all_weaker, all_append}
use Rattle.member_core.proofs.Frames.{fewer_on, up_as, writer_on, writer_none, sure_first, sure_second, worker_keeps}
use Rattle.member_core.proofs.Journals.{kept_settled, kept_dropped, flying_settled, journal_settled, unkept_settled, by_settled, batch_of, by_begun, kept_begun, flying_begun, journal_begun, unkept_begun}
use Rattle.member_core.proofs.Found.{found_true, found_false, IsFlat, flat_copies, primary_flat}
use Rattle.member_core.proofs.Locks.{up_acts, none_of_step, told_apart, at_own}

pub none_by_other : (m : MemberId) (k : ℕ) (j : MemberId) → same_member j m ≡ false → (es : List Entry) → AllByRecursion (λ e. is_of m k e ≡ true) es → IsNoneBy j es
none_by_other m k j apart [] h = tt
none_by_other m k j apart (e ∷ es) h = (other e.by.0 m.0 j.0 e.step k h.0 apart, none_by_other m k j apart es h.1)
  where
    other : (e m j s k : ℕ) → ((e == m) && (s == k)) ≡ true → (j == m) ≡ false → (e == j) ≡ false
    other e m j s k x y = grind (arith, nat_tests)

module _ (base : Queue) (bs : List Batch) (a b : CopyAt) (holder : MemberId) (members : List MemberAt) (inked : List Inked) (unsynced : List GroupNo) (told : List Said) where
  abbrev the : World
  the = record { base = base; journal = with_batches bs; copies = a ∷ (b ∷ []); holder = holder; members = members; printed = inked; unsynced = unsynced; told = told }

  abbrev K : List Entry
  K = kept_in bs

  abbrev F : List Entry
  F = flying_in bs

  abbrev AllOf : Type 0
  AllOf = HoldsOf base bs a b holder members inked unsynced told

  -- the batch in flight gets its fate: each good copy then reads the kept entries
  pub settle_keeps : AllOf → (m : MemberId) → acts_in members m ≡ true → is_calm (member_in members m).stage ≡ false
      → (f : MemberAt → MemberAt) → ((x : MemberAt) → (f x).printed ≤ x.printed) → ((x : MemberAt) → x.step ≤ (f x).step)
      → (bs' : List Batch) (a' b' : CopyAt) → a'.sure ≡ a.sure → b'.sure ≡ b.sure
      → (own : List Entry) → (own ≡ K) ⊎ (own ≡ K ++ F) → kept_in bs' ≡ own → flying_in bs' ≡ [] → (f (member_in members m)).own ≡ own
      → IsAt (f (member_in members m)).stage base m (kept_in bs') (flying_in bs') a' b' (f (member_in members m))
      → (up_as m (f (member_in members m)) ≡ true → is_away (f (member_in members m)).stage ≡ false) → IsJournal bs' → AreBy bs' → ((x : MemberAt) → (f x).up ≡ true → x.up ≡ true) → (is_ready (f (member_in members m)).stage ≡ true → IsNoUpReset members (f (member_in members m)).batch) → ((n : MemberId) (k : ℕ) → has_unkept bs n k ≡ false → has_unkept bs' n k ≡ false) → IsFlat own a' → IsFlat own b'
      → HoldsOf base bs' a' b' holder (on_member m f members) inked unsynced told
  settle_keeps h m act works f less more bs' a' b' same_a same_b own found k none mine stage active journal by_member falls ready_right unkept flat_a flat_b =
      let both : kept_in bs' ++ flying_in bs' ≡ own = rw (k, none) (append-nil own) in
      let lines : AreLinesInked base inked (printed_in members) own = at_own K F own (AreLinesInked base inked (printed_in members)) h.paper.0 h.paper.1.0 found in
      let synced : is_synced (run base own) unsynced ≡ true = at_own K F own (λ es. is_synced (run base es) unsynced ≡ true) h.synced.0 h.synced.1 found in
      let given : AreGiven base own = at_own K F own (AreGiven base) h.given.0 (all_append (IsGiven base) K F h.given.0 h.given.1) found in
      worker_keeps base bs a b holder members inked unsynced told h m act works f less more bs' a' b' same_a same_b stage active journal by_member falls (subst (λ es. IsNoUpReset members es) (sym none) tt) ready_right
      (subst (λ es. AreGiven base es) (sym k) given, subst (λ es. AreGiven base es) (sym none) tt)
      (flat_copies (kept_in bs') (flying_in bs') a' b' none (subst (λ es. IsFlat es a') (sym k) flat_a) (subst (λ es. IsFlat es b') (sym k) flat_b))
      (writer_none (flying_in bs') (on_member m f members) none)
      (all_weaker (IsTold bs members) (IsTold bs' members) (λ s t. (unkept s.by s.step t.0, t.1)) told h.tells)
      (subst (λ es. is_synced (run base es) unsynced ≡ true) (sym k) synced, subst (λ es. is_synced (run base es) unsynced ≡ true) (sym both) synced)
      (subst (λ es. AreLinesInked base inked (printed_in members) es) (sym k) lines)
      (subst (λ es. AreLinesInked base inked (printed_in members) es) (sym both) lines)
      (λ ready. fewer_on m f members base inked (f (member_in members m)).own less (subst (λ es. AreLinesInked base inked (printed_in members) es) (sym mine) lines))

  -- PRIMARY

  reads_own : (own : List Entry) (c : CopyAt) → own ≡ K → (c.good ≡ true → c.reads ≡ K ++ F → own ≡ K ++ F) → (c.good ≡ true → (c.reads ≡ K) ⊎ (c.reads ≡ K ++ F)) → c.good ≡ true → c.reads ≡ own
  reads_own own c is longer_read reads good = by (reads good)
    where
      by : (c.reads ≡ K) ⊎ (c.reads ≡ K ++ F) → c.reads ≡ own
      by (inl e) = e ∙ sym is
      by (inr e) = e ∙ sym (longer_read good e)

  -- the batches with their fate, by whether the longer list was found
  pub fate_kept : IsJournal bs → (own : List Entry) → (own ≡ K) ⊎ (own ≡ K ++ F) → (found : Bool) → nat_lt (length K) (length own) ≡ found → kept_in (settled (fate_by found) bs) ≡ own
  fate_kept journal own is true more = kept_settled bs journal ∙ sym (found_true K F own is more)
  fate_kept journal own is false more = kept_dropped bs ∙ sym (found_false K F own is more)

  pub fate_over : (found : Bool) → is_flying (fate_by found) ≡ false
  fate_over true = refl
  fate_over false = refl

  pub fate_flat : AreCopies K F a b → (own : List Entry) → (own ≡ K) ⊎ (own ≡ K ++ F) → (a.good ≡ true → a.reads ≡ K ++ F → own ≡ K ++ F) → (b.good ≡ true → b.reads ≡ K ++ F → own ≡ K ++ F)
      → (found : Bool) → nat_lt (length K) (length own) ≡ found → IsFlat own (after_primary found own a) × IsFlat own (after_primary found own b)
  fate_flat h own is first second found more = (
    primary_flat K F own a found (λ not_found. reads_own own a (found_false K F own is (more ∙ not_found)) first h.first.reads),
    primary_flat K F own b found (λ not_found. reads_own own b (found_false K F own is (more ∙ not_found)) second h.second.reads),
  )

  pub keeps_primary : AllOf → (m : MemberId) → can_settle the m ≡ true
      → HoldsOf base (settled (fate_by (has_flying the (member_in members m).own)) bs)
      (after_primary (has_flying the (member_in members m).own) (member_in members m).own a) (after_primary (has_flying the (member_in members m).own) (member_in members m).own b)
      holder (on_member m (to_stage at.Ready) members) inked unsynced told
  keeps_primary h m p = by (nat_lt (length K) (length (member_in members m).own)) refl
    where
      by : (found : Bool) → nat_lt (length K) (length (member_in members m).own) ≡ found
          → HoldsOf base (settled (fate_by found) bs) (after_primary found (member_in members m).own a) (after_primary found (member_in members m).own b)
          holder (on_member m (to_stage at.Ready) members) inked unsynced told
      by found more =
          let up : is_up_in members m ≡ true = and_left (is_up_in members m) _ p in
          let e : (member_in members m).stage ≡ at.Read2 = read2_is (member_in members m).stage (and_right (is_up_in members m) _ p) in
          let act : acts_in members m ≡ true = up_acts members m up in
          let read : IsRead2 m K F a b (member_in members m) = (rw e at (h.stages m act)) in
          let k : kept_in (settled (fate_by found) bs) ≡ (member_in members m).own = fate_kept h.journal (member_in members m).own read.own found more in
          let none : flying_in (settled (fate_by found) bs) ≡ [] = flying_settled (fate_by found) (fate_over found) bs in
          let flat : IsFlat (member_in members m).own (after_primary found (member_in members m).own a) × IsFlat (member_in members m).own (after_primary found (member_in members m).own b) =
          fate_flat h.copies (member_in members m).own read.own read.first read.second found more in
          settle_keeps h m act (rw e refl) (to_stage at.Ready) (λ x. le_refl x.printed) (λ x. le_refl x.step)
          (settled (fate_by found) bs) (after_primary found (member_in members m).own a) (after_primary found (member_in members m).own b) refl refl
          (member_in members m).own read.own k none refl
          (record {
            flying = none;
            own = sym k ∙ (sym (append-nil (kept_in (settled (fate_by found) bs))) ∙ ap (λ es. kept_in (settled (fate_by found) bs) ++ es) (sym read.batch));
            first = λ g. refl;
            second = λ g. refl;
            mine = subst (λ es. AllByRecursion (λ e. is_of m (member_in members m).step e ≡ true) es) (sym read.batch) tt;
            given = subst (λ es. AreGiven base es) (sym read.batch) tt;
            single = λ none_up. both_ways (is_somebody m) read.somebody none_up;
          })
          (λ u. refl) (journal_settled (fate_by found) (fate_over found) bs) (by_settled (fate_by found) bs h.by_member) (λ x u. u) (λ ready. subst (λ es. IsNoUpReset members es) (sym read.batch) tt) (unkept_settled (fate_by found) bs) flat.0 flat.1

  -- LOG

  short_reads : F ≡ [] → (c : CopyAt) → (c.reads ≡ K) ⊎ (c.reads ≡ K ++ F) → c.reads ≡ K
  short_reads none c (inl e) = e
  short_reads none c (inr e) = e ∙ (rw none (append-nil K))

  pub keeps_log1 : AllOf → (m : MemberId) → can_log the m dev.Ckpt1 ≡ true
      → HoldsOf base (bs ++ flying_batch m (member_in members m).batch ∷ []) (has_next (member_in members m).own a) b holder (on_member m (to_stage at.Logged1) members) inked unsynced told
  keeps_log1 h m p =
      let x = member_in members m in
      let act : acts_in members m ≡ true = and_left (acts_in members m) _ p in
      let p1 : (is_ready x.stage && (not (is_nil x.batch) && is_synced (run base x.own) unsynced)) ≡ true = and_right (acts_in members m) _ p in
      let is_now : is_ready x.stage ≡ true = and_left (is_ready x.stage) _ p1 in
      let e : x.stage ≡ at.Ready = ready_is x.stage is_now in
      let p2 : (not (is_nil x.batch) && is_synced (run base x.own) unsynced) ≡ true = and_right (is_ready x.stage) _ p1 in
      let some : is_nil x.batch ≡ false = not_true (is_nil x.batch) (and_left (not (is_nil x.batch)) _ p2) in
      let synced : is_synced (run base x.own) unsynced ≡ true = and_right (not (is_nil x.batch)) _ p2 in
      let ready : IsReady base m K F a b x = (rw e at (h.stages m act)) in
      let works : is_calm x.stage ≡ false = rw e refl in
      let inside : m.0 < length members = acting_inside members m base.config.members h.fit act in
      let bs' = bs ++ flying_batch m x.batch ∷ [] in
      let k : kept_in bs' ≡ K = kept_begun m x.batch bs in
      let f : flying_in bs' ≡ x.batch = flying_begun m x.batch bs ∙ (rw ready.flying refl) in
      let both : kept_in bs' ++ flying_in bs' ≡ x.own = rw (k, f) (sym ready.own) in
      let read_a : (a.good ≡ true → a.reads ≡ K) = λ (g : a.good ≡ true). short_reads ready.flying a (h.copies.first.reads g) in
      let read_b : (b.good ≡ true → b.reads ≡ K) = λ (g : b.good ≡ true). short_reads ready.flying b (h.copies.second.reads g) in
      let lines : AreLinesInked base inked (printed_in members) x.own = h.paper.1.1 m act is_now in
      let copies : AreCopies K x.batch (has_next x.own a) b = record {
        first = record { reads = λ g. inl (read_a g); next = λ g. inr (rw g (ap (λ es. Some es) ready.own)) };
        second = record { reads = λ g. inl (read_b g); next = λ g. inl (ready.second g) };
        ahead = λ more either. absurd (not_ahead x.batch more read_a read_b (sure_first base bs a b holder members inked unsynced told h m act works) (sure_second base bs a b holder members inked unsynced told h m act works) x.own either);
      } in
      worker_keeps base bs a b holder members inked unsynced told h m act works (to_stage at.Logged1) (λ y. le_refl y.printed) (λ y. le_refl y.step)
      bs' (has_next x.own a) b refl refl
      (record { flying = rw f some; batch = f; own = sym both; first = λ g. rw g refl })
      (λ u. refl) (journal_begun m x.batch bs some h.journal ready.flying)
      (by_begun m x.batch (batch_of base m x.step x.batch ready.mine ready.given ready.single) bs h.by_member)
      (λ y u. u) (subst (λ es. IsNoUpReset members es) (sym f) (h.resets.1 m act is_now)) (λ no_more. absurd (cc))
      (subst (λ es. AreGiven base es) (sym k) h.given.0, subst (λ es. AreGiven base es) (sym f) ready.given)
      (subst (λ es. AreCopies es (flying_in bs') (has_next x.own a) b) (sym k) (subst (λ es. AreCopies K es (has_next x.own a) b) (sym f) copies))
      (subst (λ es. IsByWriter es (on_member m (to_stage at.Logged1) members)) (sym f) (writer_on m (to_stage at.Logged1) members x.batch inside (λ u quiet. absurd (cc)) (λ j apart u quiet. none_by_other m x.step j apart x.batch ready.mine)))
      (all_weaker (IsTold bs members) (IsTold bs' members) (λ s t. (unkept_begun m x.batch bs s.by s.step (none_of_step m x.step s.by s.step x.batch (told_apart bs members m s t) ready.mine) t.0, t.1)) told h.tells)
      (subst (λ es. is_synced (run base es) unsynced ≡ true) (sym k) h.synced.0, subst (λ es. is_synced (run base es) unsynced ≡ true) (sym both) synced)
      (subst (λ es. AreLinesInked base inked (printed_in members) es) (sym k) h.paper.0)
      (subst (λ es. AreLinesInked base inked (printed_in members) es) (sym both) lines)
      (λ no_more. absurd (cc))
    where
      not_ahead : (batch : List Entry) → is_nil batch ≡ false → (a.good ≡ true → a.reads ≡ K) → (b.good ≡ true → b.reads ≡ K) → a.sure ≡ true → b.sure ≡ true → (own : List Entry) → IsAhead K batch (has_next own a) ⊎ IsAhead K batch b → ⊥
      not_ahead batch more read_a read_b sure_a sure_b own (inl (g, inl e)) = not_same K batch more (sym (read_a g) ∙ e)
      not_ahead batch more read_a read_b sure_a sure_b own (inl (g, inr e)) = both_ways a.sure sure_a e
      not_ahead batch more read_a read_b sure_a sure_b own (inr (g, inl e)) = not_same K batch more (sym (read_b g) ∙ e)
      not_ahead batch more read_a read_b sure_a sure_b own (inr (g, inr e)) = both_ways b.sure sure_b e

  pub keeps_log2 : AllOf → (m : MemberId) → can_log the m dev.Ckpt2 ≡ true
      → HoldsOf base bs a (has_next (member_in members m).own b) holder (on_member m (to_stage at.Logged2) members) inked unsynced told
  keeps_log2 h m p =
      let x = member_in members m in
      let act : acts_in members m ≡ true = and_left (acts_in members m) _ p in
      let p1 : (is_logged1 x.stage && is_synced (run base x.own) unsynced) ≡ true = and_right (acts_in members m) _ p in
      let e : x.stage ≡ at.Logged1 = logged1_is x.stage (and_left (is_logged1 x.stage) _ p1) in
      let log : IsLogged1 K F a b x = (rw e at (h.stages m act)) in
      worker_keeps base bs a b holder members inked unsynced told h m act (rw e refl) (to_stage at.Logged2) (λ y. le_refl y.printed) (λ y. le_refl y.step)
      bs a (has_next x.own b) refl refl
      (record { flying = log.flying; batch = log.batch; own = log.own; first = log.first; second = λ g. rw g refl })
      (λ u. refl) h.journal h.by_member (λ y u. u) h.resets.0 (λ no_more. absurd (cc)) h.given
      (record {
        first = record { reads = h.copies.first.reads; next = h.copies.first.next };
        second = record { reads = h.copies.second.reads; next = λ g. inr (rw g (ap (λ es. Some es) log.own)) };
        ahead = λ some either. (λ g r. log.first g ∙ ap (λ es. Some es) log.own, λ g r. rw g (ap (λ es. Some es) log.own));
      })
      (writer_on m (to_stage at.Logged2) members F (acting_inside members m base.config.members h.fit act) (λ u quiet. absurd (cc)) (λ j apart u quiet. h.writer j u quiet))
      h.tells h.synced h.paper.0 h.paper.1.0 (λ no_more. absurd (cc))

  -- OPEN

  reads_all : (own : List Entry) (c : CopyAt) → own ≡ K ++ F → is_nil F ≡ false → (c.good ≡ true → (c.reads ≡ K) ⊎ (c.reads ≡ K ++ F)) → reads_so_many (length own) c ≡ true → c.good ≡ true → c.reads ≡ own
  reads_all own c is some reads many g = by (reads g)
    where
      by : (c.reads ≡ K) ⊎ (c.reads ≡ K ++ F) → c.reads ≡ own
      by (inl e) =
          let same : (length c.reads == length own) ≡ true = rw g at many in
          let short : nat_lt (length K) (length own) ≡ true = rw is (longer_with K F some) in
          let l : length c.reads ≡ length K = ap length e in
          let differ : (length c.reads == length own) ≡ false = grind (arith, nat_tests) in
          both_ways (length c.reads == length own) same differ
      by (inr e) = e ∙ sym is

  pub keeps_open1 : AllOf → (m : MemberId) → can_open the m dev.Ckpt1 ≡ true
      → HoldsOf base (kept_once (all_read (member_in members m).own (opened (member_in members m).own a ∷ (b ∷ []))) bs) (opened (member_in members m).own a) b
      holder (on_member m (to_stage at.Opened1) members) inked unsynced told
  keeps_open1 h m p = by (all_read (member_in members m).own (opened (member_in members m).own a ∷ (b ∷ []))) refl
    where
      by : (all : Bool) → all_read (member_in members m).own (opened (member_in members m).own a ∷ (b ∷ [])) ≡ all
          → HoldsOf base (kept_once all bs) (opened (member_in members m).own a) b holder (on_member m (to_stage at.Opened1) members) inked unsynced told
      by true is =
          let x = member_in members m in
          let act : acts_in members m ≡ true = and_left (acts_in members m) _ p in
          let e : x.stage ≡ at.Logged2 = logged2_is x.stage (and_right (acts_in members m) _ p) in
          let log : IsLogged2 K F a b x = (rw e at (h.stages m act)) in
          let k : kept_in (settled fate.Kept bs) ≡ x.own = kept_settled bs h.journal ∙ sym log.own in
          let none : flying_in (settled fate.Kept bs) ≡ [] = flying_settled fate.Kept refl bs in
          let many : reads_so_many (length x.own) b ≡ true = and_right (reads_so_many (length x.own) (opened x.own a)) _ is in
          settle_keeps h m act (rw e refl) (to_stage at.Opened1) (λ y. le_refl y.printed) (λ y. le_refl y.step) (settled fate.Kept bs) (opened x.own a) b refl refl
          x.own (inr log.own) k none refl
          (record {
            own = rw (k, none) (sym (append-nil x.own));
            first = λ g. rw g refl;
            first_next = λ g. rw g refl;
            second = λ some. absurd (let w = rw none at some in cc);
            batch = λ some. absurd (let w = rw none at some in cc);
          })
          (λ u. refl) (journal_settled fate.Kept refl bs) (by_settled fate.Kept bs h.by_member) (λ y u. u) (λ no_more. absurd (cc)) (unkept_settled fate.Kept bs)
          (record { reads = λ g. rw g refl; next = λ g. inl (rw g refl) })
          (record { reads = reads_all x.own b log.own log.flying h.copies.second.reads many; next = λ g. inr (log.second g) })
      by false is =
          let x = member_in members m in
          let act : acts_in members m ≡ true = and_left (acts_in members m) _ p in
          let e : x.stage ≡ at.Logged2 = logged2_is x.stage (and_right (acts_in members m) _ p) in
          let log : IsLogged2 K F a b x = (rw e at (h.stages m act)) in
          worker_keeps base bs a b holder members inked unsynced told h m act (rw e refl) (to_stage at.Opened1) (λ y. le_refl y.printed) (λ y. le_refl y.step)
          bs (opened x.own a) b refl refl
          (record { own = log.own; first = λ g. rw g refl; first_next = λ g. rw g refl; second = λ some. log.second; batch = λ some. log.batch })
          (λ u. refl) h.journal h.by_member (λ y u. u) h.resets.0 (λ no_more. absurd (cc)) h.given
          (record {
            first = record { reads = λ g. inr (rw g log.own); next = λ g. inl (rw g refl) };
            second = record { reads = h.copies.second.reads; next = h.copies.second.next };
            ahead = λ some either. (λ g r. absurd (not_same K F some (sym (let w : reads_after a.good x.own a.reads ≡ x.own = rw g refl in sym w ∙ r) ∙ log.own)), λ g r. log.second g ∙ ap (λ es. Some es) log.own);
          })
          (writer_on m (to_stage at.Opened1) members F (acting_inside members m base.config.members h.fit act) (λ u quiet. absurd (cc)) (λ j apart u quiet. h.writer j u quiet))
          h.tells h.synced h.paper.0 h.paper.1.0 (λ no_more. absurd (cc))

  pub keeps_open2 : AllOf → (m : MemberId) → can_open the m dev.Ckpt2 ≡ true
      → HoldsOf base (kept_once (all_read (member_in members m).own (a ∷ (opened (member_in members m).own b ∷ []))) bs) a (opened (member_in members m).own b)
      holder (on_member m (has_written (written_stage m)) members) inked unsynced told
  keeps_open2 h m p =
      let x = member_in members m in
      let act : acts_in members m ≡ true = and_left (acts_in members m) _ p in
      let e : x.stage ≡ at.Opened1 = opened1_is x.stage (and_right (acts_in members m) _ p) in
      let open1 : IsOpened1 K F a b x = (rw e at (h.stages m act)) in
      let all : all_read x.own (a ∷ (opened x.own b ∷ [])) ≡ true =
      and_both (reads_so_many (length x.own) a) (reads_so_many (length x.own) (opened x.own b)) (many x.own a open1.first) (many x.own (opened x.own b) (λ g. rw g refl)) in
      let k : kept_in (settled fate.Kept bs) ≡ x.own = kept_settled bs h.journal ∙ sym open1.own in
      let none : flying_in (settled fate.Kept bs) ≡ [] = flying_settled fate.Kept refl bs in
      subst (λ (t : Bool). HoldsOf base (kept_once t bs) a (opened x.own b) holder (on_member m (has_written (written_stage m)) members) inked unsynced told) (sym all)
      (settle_keeps h m act (rw e refl) (has_written (written_stage m)) (λ y. le_refl y.printed) (λ y. le_refl y.step) (settled fate.Kept bs) a (opened x.own b) refl refl
      x.own (inr open1.own) k none refl
      (test_cases (is_somebody m) (IsAt (written_stage m) base m (kept_in (settled fate.Kept bs)) (flying_in (settled fate.Kept bs)) a (opened x.own b) (has_written (written_stage m) x))
      (λ s. rw s (record {
        flying = none;
        own = sym k ∙ sym (append-nil (kept_in (settled fate.Kept bs)));
        first = open1.first_next;
        second = λ g. rw g refl;
        mine = tt;
        given = tt;
        single = λ zero_m. both_ways (is_somebody m) s zero_m;
      }))
      (λ s. rw s refl))
      (λ u. (let s : is_somebody m ≡ true = and_left (is_somebody m) x.up u in rw s refl)) (journal_settled fate.Kept refl bs) (by_settled fate.Kept bs h.by_member) (λ y u. u) (λ ready. tt) (unkept_settled fate.Kept bs)
      (record { reads = open1.first; next = λ g. inl (open1.first_next g) })
      (record { reads = λ g. rw g refl; next = λ g. inl (rw g refl) }))
    where
      many : (own : List Entry) (c : CopyAt) → (c.good ≡ true → c.reads ≡ own) → reads_so_many (length own) c ≡ true
      many own c reads =
          test_cases c.good (reads_so_many (length own) c ≡ true)
          (λ g. let l : c.reads ≡ own = reads g in rw (g, l) (same_length (length own)))
          (λ g. rw g refl)
        where
          same_length : (n : ℕ) → (n == n) ≡ true
          same_length n = grind (arith, nat_tests)
