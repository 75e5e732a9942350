-- The events of one member that leave the copies, losses and renewals keep all of it.
use Rattle.std.proofs.Common.{◌≡◌, ℕ, ◌+◌, ◌≤◌, ◌<◌, ◌⊎◌, inl, inr, Bool, true, false, not, ◌&&◌, ◌||◌, nat_lt, List, [], ◌∷◌, ◌++◌, length, filter, Some, None, refl, ap, sym, ◌∙◌, subst, arith, append-nil, le_refl}
use Rattle.std.specs.List.{list_any, list_all, AllByRecursion}
use Rattle.mas_types.specs.declared.ids.MemberId.{MemberId}
use Rattle.mas_types.specs.declared.ids.GroupNo.{GroupNo}
use Rattle.mas_types.specs.declared.ids.Dev.TheVariants as dev
use Rattle.mas_types.specs.declared.queues.Queue.{Queue}
use Rattle.mas_types.specs.declared.journals.Entry.{Entry}
use Rattle.mas_types.specs.declared.journals.Batch.{Batch}
use Rattle.mas_types.specs.Ids.{is_somebody}
use Rattle.mas_types.specs.Run.{run}
use Rattle.member_core.specs.declared.worlds.At.{At}
use Rattle.member_core.specs.declared.worlds.At.TheVariants as at
use Rattle.member_core.specs.declared.worlds.Left.{Left}
use Rattle.member_core.specs.declared.worlds.Left.TheVariants as left
use Rattle.member_core.specs.declared.worlds.CopyAt.{CopyAt}
use Rattle.member_core.specs.declared.worlds.MemberAt.{MemberAt}
use Rattle.member_core.specs.declared.worlds.Inked.{Inked}
use Rattle.member_core.specs.declared.worlds.Said.{Said}
use Rattle.member_core.specs.declared.worlds.World.{World}
use Rattle.member_core.specs.Worlds.{is_nil, at_or, is_away, is_ready, absent, member_in, on_member, is_up_in, acts_in, kept_in, flying_in, with_batches, is_of, has_unkept}
use Rattle.mas_types.specs.declared.queues.Owner.{Owner}
use Rattle.mas_types.specs.declared.queues.Owner.TheVariants as owner
use Rattle.mas_types.specs.Owners.{is_members}
use Rattle.queue_laws.specs.OwnerChange.{is_thing}
use Rattle.member_core.specs.Events.{is_thing_at, is_members_at, is_in_volume, can_tell, next_step, said, has_begun, can_write, lost, renewed, is_at_rest, can_renew, opens_first, opens_second, is_hit, is_longer, left_of, after_stop, has_stopped}
use Rattle.member_core.specs.Holds.{IsCopy, IsAhead, IsPending, AreCopies, is_calm, IsUnsure, IsAt, IsReady, IsAlone, IsTold, HoldsOf}
use Rattle.member_core.proofs.Basics.{test_cases, and_left, and_right, and_both, both_ways, neither, not_true, away_is, ready_is, nil_is, not_same, not_longer, change_same, change_length, acting_inside, all_append}
use Rattle.member_core.proofs.Frames.{told_on, fewer_on, paper_on, alone_on, calm_on, stages_on, unsure_on, at_work_on, writer_on, resets_on, away_any, others_away}
use Rattle.member_core.proofs.Found.{found_true}
use Rattle.member_core.proofs.Locks.{up_acts}

-- LISTS OF GROUPS

pub list_all_push : {A : Type 0} (test : A → Bool) (xs : List A) (x : A) → list_all test xs ≡ true → test x ≡ true → list_all test (xs ++ x ∷ []) ≡ true
list_all_push test [] x h k = and_both (test x) true k refl
list_all_push test (y ∷ ys) x h k = and_both (test y) (list_all test (ys ++ x ∷ [])) (and_left (test y) (list_all test ys) h) (list_all_push test ys x (and_right (test y) (list_all test ys) h) k)

pub list_all_filter : {A : Type 0} (test keep : A → Bool) (xs : List A) → list_all test xs ≡ true → list_all test (filter keep xs) ≡ true
list_all_filter test keep [] h = refl
list_all_filter test keep (y ∷ ys) h =
    let rest : list_all test (filter keep ys) ≡ true = list_all_filter test keep ys (and_right (test y) (list_all test ys) h) in
    test_cases (keep y) (list_all test (filter keep (y ∷ ys)) ≡ true)
    (λ e. rw e (and_both (test y) (list_all test (filter keep ys)) (and_left (test y) (list_all test ys) h) rest))
    (λ e. rw e rest)

members_no_thing : (m : MemberId) (g : Owner) → is_members m g ≡ true → not (is_thing g) ≡ true
members_no_thing m owner.Free h = refl
members_no_thing m (owner.Member k) h = refl
members_no_thing m (owner.Deck n p) h = absurd (cc)
members_no_thing m (owner.Output n i p) h = absurd (cc)

none_mine : (m : MemberId) (k : ℕ) (es : List Entry) → AllByRecursion (λ e. is_of m k e ≡ true) es → list_any (is_of m k) es ≡ false → es ≡ []
none_mine m k [] mine none = refl
none_mine m k (e ∷ es) mine none = both_ways (is_of m k e) mine.0 (neither (is_of m k e) (list_any (is_of m k) es) none).0

down_idle : (s : Bool) → s ≡ true → (not s || false) ≡ true → ⊥
down_idle true h k = absurd (cc)
down_idle false h k = absurd (cc)

down_up : (s : Bool) → (s && false) ≡ true → ⊥
down_up true k = absurd (cc)
down_up false k = absurd (cc)

module _ (base : Queue) (bs : List Batch) (a b : CopyAt) (holder : MemberId) (members : List MemberAt) (inked : List Inked) (unsynced : List GroupNo) (told : List Said) where
  abbrev the : World
  the = record { base = base; journal = with_batches bs; copies = a ∷ (b ∷ []); holder = holder; members = members; printed = inked; unsynced = unsynced; told = told }

  abbrev K : List Entry
  K = kept_in bs

  abbrev F : List Entry
  F = flying_in bs

  abbrev AllOf : Type 0
  AllOf = HoldsOf base bs a b holder members inked unsynced told

  -- LOSE

  lost_first : (m : MemberId) (s : At) (x : MemberAt) → IsAt s base m K F a b x → IsAt s base m K F (lost a) b x
  lost_first m at.Away x h = h
  lost_first m at.Locked x h = h
  lost_first m at.Read1 x h = h
  lost_first m at.Read2 x h = record { somebody = h.somebody; batch = h.batch; own = h.own; first = λ g e. absurd (cc); second = h.second; pending = λ some e. (λ g r. absurd (cc), (h.pending some e).1) }
  lost_first m at.Ready x h = record { flying = h.flying; own = h.own; first = λ g. absurd (cc); second = h.second; mine = h.mine; given = h.given; single = h.single }
  lost_first m at.Logged1 x h = record { flying = h.flying; batch = h.batch; own = h.own; first = λ g. absurd (cc) }
  lost_first m at.Logged2 x h = record { flying = h.flying; batch = h.batch; own = h.own; first = λ g. absurd (cc); second = h.second }
  lost_first m at.Opened1 x h = record { own = h.own; first = λ g. absurd (cc); first_next = λ g. absurd (cc); second = h.second; batch = h.batch }

  lost_second : (m : MemberId) (s : At) (x : MemberAt) → IsAt s base m K F a b x → IsAt s base m K F a (lost b) x
  lost_second m at.Away x h = h
  lost_second m at.Locked x h = h
  lost_second m at.Read1 x h = h
  lost_second m at.Read2 x h = record { somebody = h.somebody; batch = h.batch; own = h.own; first = h.first; second = λ g e. absurd (cc); pending = λ some e. ((h.pending some e).0, λ g r. absurd (cc)) }
  lost_second m at.Ready x h = record { flying = h.flying; own = h.own; first = h.first; second = λ g. absurd (cc); mine = h.mine; given = h.given; single = h.single }
  lost_second m at.Logged1 x h = record { flying = h.flying; batch = h.batch; own = h.own; first = h.first }
  lost_second m at.Logged2 x h = record { flying = h.flying; batch = h.batch; own = h.own; first = h.first; second = λ g. absurd (cc) }
  lost_second m at.Opened1 x h = record { own = h.own; first = h.first; first_next = h.first_next; second = λ some g. absurd (cc); batch = h.batch }

  was_first : IsAhead K F (lost a) ⊎ IsAhead K F b → IsAhead K F a ⊎ IsAhead K F b
  was_first (inl x) = absurd (let w = x.0 in cc)
  was_first (inr x) = inr x

  was_second : IsAhead K F a ⊎ IsAhead K F (lost b) → IsAhead K F a ⊎ IsAhead K F b
  was_second (inl x) = inl x
  was_second (inr x) = absurd (let w = x.0 in cc)

  pub keeps_lose1 : AllOf → HoldsOf base bs (lost a) b holder members inked unsynced told
  keeps_lose1 h = record {
    sound = h.sound;
    fit = h.fit;
    journal = h.journal;
    by_member = h.by_member;
    resets = h.resets;
    given = h.given;
    copies = record {
      first = record { reads = λ g. absurd (cc); next = λ g. absurd (cc) };
      second = h.copies.second;
      ahead = λ some either. (λ g r. absurd (cc), (h.copies.ahead some (was_first either)).1);
    };
    gates = (λ u. record { next = (h.gates.0 u).next; flying = (h.gates.0 u).flying; calm = (h.gates.0 u).calm }, h.gates.1);
    stages = λ m act. lost_first m (member_in members m).stage (member_in members m) (h.stages m act);
    alone = h.alone;
    at_work = h.at_work;
    writer = h.writer;
    tells = h.tells;
    synced = h.synced;
    paper = h.paper;
  }

  pub keeps_lose2 : AllOf → HoldsOf base bs a (lost b) holder members inked unsynced told
  keeps_lose2 h = record {
    sound = h.sound;
    fit = h.fit;
    journal = h.journal;
    by_member = h.by_member;
    resets = h.resets;
    given = h.given;
    copies = record {
      first = h.copies.first;
      second = record { reads = λ g. absurd (cc); next = λ g. absurd (cc) };
      ahead = λ some either. ((h.copies.ahead some (was_second either)).0, λ g r. absurd (cc));
    };
    gates = (h.gates.0, λ u. record { next = (h.gates.1 u).next; flying = (h.gates.1 u).flying; calm = (h.gates.1 u).calm });
    stages = λ m act. lost_second m (member_in members m).stage (member_in members m) (h.stages m act);
    alone = h.alone;
    at_work = h.at_work;
    writer = h.writer;
    tells = h.tells;
    synced = h.synced;
    paper = h.paper;
  }

  -- SPOOL

  pub keeps_write : AllOf → (m : MemberId) (g : GroupNo) → can_write the m g ≡ true → HoldsOf base bs a b holder members inked (unsynced ++ g ∷ []) told
  keeps_write h m g p =
      let p1 : (is_members_at (run base K) m g && is_members_at (run base (K ++ F)) m g) ≡ true = and_right (is_up_in members m) _ p in
      let one : is_members_at (run base K) m g ≡ true = and_left (is_members_at (run base K) m g) _ p1 in
      let two : is_members_at (run base (K ++ F)) m g ≡ true = and_right (is_members_at (run base K) m g) _ p1 in
      record {
        sound = h.sound;
        fit = h.fit;
        journal = h.journal;
        by_member = h.by_member;
        resets = h.resets;
        given = h.given;
        copies = h.copies;
        gates = h.gates;
        stages = h.stages;
        alone = h.alone;
        at_work = h.at_work;
        writer = h.writer;
        tells = h.tells;
        synced = (
          list_all_push (λ k. not (is_thing_at (run base K) k)) unsynced g h.synced.0 (members_no_thing m (at_or owner.Free g.0 (run base K).owners) one),
          list_all_push (λ k. not (is_thing_at (run base (K ++ F)) k)) unsynced g h.synced.1 (members_no_thing m (at_or owner.Free g.0 (run base (K ++ F)).owners) two),
        );
        paper = h.paper;
      }

  pub keeps_sync : AllOf → (v : ℕ) → HoldsOf base bs a b holder members inked (filter (λ g. not (is_in_volume base.config v g)) unsynced) told
  keeps_sync h v = record {
    sound = h.sound;
    fit = h.fit;
    journal = h.journal;
    by_member = h.by_member;
    resets = h.resets;
    given = h.given;
    copies = h.copies;
    gates = h.gates;
    stages = h.stages;
    alone = h.alone;
    at_work = h.at_work;
    writer = h.writer;
    tells = h.tells;
    synced = (
      list_all_filter (λ k. not (is_thing_at (run base K) k)) (λ g. not (is_in_volume base.config v g)) unsynced h.synced.0,
      list_all_filter (λ k. not (is_thing_at (run base (K ++ F)) k)) (λ g. not (is_in_volume base.config v g)) unsynced h.synced.1,
    );
    paper = h.paper;
  }

  -- TELL

  -- a member's stage is right also with another step and another count of printed lines
  pub stage_with : (m : MemberId) (k n : ℕ) (s : At) (x : MemberAt) → IsAt s base m K F a b x → (is_ready s ≡ true → AllByRecursion (λ e. is_of m k e ≡ true) x.batch) → IsAt s base m K F a b (record x { step = k; printed = n })
  stage_with m k n at.Away x h mine = h
  stage_with m k n at.Locked x h mine = h
  stage_with m k n at.Read1 x h mine = h
  stage_with m k n at.Read2 x h mine = record { somebody = h.somebody; batch = h.batch; own = h.own; first = h.first; second = h.second; pending = h.pending }
  stage_with m k n at.Ready x h mine = record { flying = h.flying; own = h.own; first = h.first; second = h.second; mine = mine refl; given = h.given; single = h.single }
  stage_with m k n at.Logged1 x h mine = record { flying = h.flying; batch = h.batch; own = h.own; first = h.first }
  stage_with m k n at.Logged2 x h mine = record { flying = h.flying; batch = h.batch; own = h.own; first = h.first; second = h.second }
  stage_with m k n at.Opened1 x h mine = record { own = h.own; first = h.first; first_next = h.first_next; second = h.second; batch = h.batch }

  pub mine_of : (m : MemberId) (s : At) (x : MemberAt) → is_ready s ≡ true → IsAt s base m K F a b x → IsReady base m K F a b x
  mine_of m s x now h = let e : s ≡ at.Ready = ready_is s now in rw e at h

  pub keeps_tell : AllOf → (m : MemberId) → can_tell the m ≡ true → HoldsOf base bs a b holder (on_member m next_step members) inked unsynced (told ++ said m (member_in members m).step ∷ [])
  keeps_tell h m p =
      let x = member_in members m in
      let up : is_up_in members m ≡ true = and_left (is_up_in members m) _ p in
      let p1 : (list_any (is_of m x.step) K && (not (has_unkept bs m x.step) && not (has_begun m x))) ≡ true = and_right (is_up_in members m) _ p in
      let p2 : (not (has_unkept bs m x.step) && not (has_begun m x)) ≡ true = and_right (list_any (is_of m x.step) K) _ p1 in
      let unkept : has_unkept bs m x.step ≡ false = not_true (has_unkept bs m x.step) (and_left (not (has_unkept bs m x.step)) _ p2) in
      let begun : has_begun m x ≡ false = not_true (has_begun m x) (and_right (not (has_unkept bs m x.step)) _ p2) in
      let act : acts_in members m ≡ true = up_acts members m up in
      let inside : m.0 < length members = acting_inside members m base.config.members h.fit act in
      record {
        sound = h.sound;
        fit = change_length next_step m.0 members ∙ h.fit;
        journal = h.journal;
        by_member = h.by_member;
        given = h.given;
        copies = h.copies;
        resets = resets_on m next_step members F inside (λ y u. u) h.resets.0 (λ acting ready. h.resets.1 m act ready) (λ j apart acting ready. h.resets.1 j acting ready);
        gates = (λ u. unsure_on K F m next_step members a inside (λ acting. (h.gates.0 u).calm m act) (h.gates.0 u), λ u. unsure_on K F m next_step members b inside (λ acting. (h.gates.1 u).calm m act) (h.gates.1 u));
        stages = stages_on m next_step members base K F a b inside
            (λ acting. stage_with m (x.step + 1) x.printed x.stage x (h.stages m act)
            (λ now. subst (λ es. AllByRecursion (λ e. is_of m (x.step + 1) e ≡ true) es)
            (sym (none_mine m x.step x.batch (mine_of m x.stage x now (h.stages m act)).mine (let w = rw now at begun in w))) tt))
            (λ j apart acting. h.stages j acting);
        alone = alone_on m next_step members holder inside (λ acting works. h.alone m act works) (λ j apart acting works. h.alone j acting works);
        at_work = at_work_on holder m next_step members inside (λ u held. h.at_work m u held) (λ j apart u held. h.at_work j u held);
        writer = writer_on m next_step members F inside (λ u quiet. h.writer m u quiet) (λ j apart u quiet. h.writer j u quiet);
        tells = all_append (IsTold bs (on_member m next_step members)) told (said m x.step ∷ []) (told_on m next_step members bs told (λ y. le_add y.step) h.tells)
            ((unkept, (and_left (is_somebody m) x.up up, past m x.step inside refl)), tt);
        synced = h.synced;
        paper = paper_on m next_step members base inked K F inside (λ y. le_refl y.printed) h.paper.0 h.paper.1.0 (λ acting ready. fewer_on m next_step members base inked x.own (λ y. le_refl y.printed) (h.paper.1.1 m act ready)) (λ j apart acting ready. h.paper.1.1 j acting ready);
      }
    where
      le_add : (n : ℕ) → n ≤ n + 1
      le_add n = omega arith

      past : (m : MemberId) (n : ℕ) → m.0 < length members → n ≡ (member_in members m).step → n < (member_in (on_member m next_step members) m).step
      past m n inside e = let w : member_in (on_member m next_step members) m ≡ next_step (member_in members m) = change_same absent next_step m.0 members inside in
          subst (λ (y : MemberAt). n < y.step) (sym w) (let l : n < (member_in members m).step + 1 = omega arith in l)

  -- RENEW

  no_flight : F ≡ [] → is_nil F ≡ false → ⊥
  no_flight none some = absurd (let w = rw none at some in cc)

  kept_both : F ≡ [] → K ++ F ≡ K
  kept_both none = rw none (append-nil K)

  -- a member that is at rest leaves nothing in flight
  rest_is : AllOf → (m : MemberId) → is_at_rest the m ≡ true → F ≡ []
  rest_is h m p =
      let x = member_in members m in
      let up : is_up_in members m ≡ true = and_left (is_up_in members m) _ p in
      let p1 : (is_ready x.stage && is_nil x.batch) ≡ true = and_right (is_up_in members m) _ p in
      let ready : is_ready x.stage ≡ true = and_left (is_ready x.stage) _ p1 in
      (mine_of m x.stage x ready (h.stages m (up_acts members m up))).flying

  renewed_copy : (kept : List Entry) (c : CopyAt) → kept ≡ K → IsCopy K F (renewed kept c)
  renewed_copy kept c e = record { reads = λ g. inl e; next = λ g. inl refl }

  opened_whole : (x : MemberAt) → F ≡ [] → x.own ≡ K ++ F → K ≡ x.own
  opened_whole x none own = sym (own ∙ kept_both none)

  read_whole : (x : MemberAt) → F ≡ [] → (x.own ≡ K) ⊎ (x.own ≡ K ++ F) → x.own ≡ K ++ F
  read_whole x none (inl e) = e ∙ sym (kept_both none)
  read_whole x none (inr e) = e

  renewed_first : F ≡ [] → (m : MemberId) (s : At) (x : MemberAt) → IsAt s base m K F a b x → IsAt s base m K F (renewed K a) b x
  renewed_first none m at.Away x h = h
  renewed_first none m at.Locked x h = h
  renewed_first none m at.Read1 x h = h
  renewed_first none m at.Read2 x h = record { somebody = h.somebody; batch = h.batch; own = h.own; first = λ g e. read_whole x none h.own; second = h.second; pending = λ some e. absurd (no_flight none some) }
  renewed_first none m at.Ready x h = record { flying = h.flying; own = h.own; first = λ g. refl; second = h.second; mine = h.mine; given = h.given; single = h.single }
  renewed_first none m at.Logged1 x h = absurd (no_flight none h.flying)
  renewed_first none m at.Logged2 x h = absurd (no_flight none h.flying)
  renewed_first none m at.Opened1 x h = record { own = h.own; first = λ g. opened_whole x none h.own; first_next = λ g. refl; second = h.second; batch = h.batch }

  renewed_second : F ≡ [] → (m : MemberId) (s : At) (x : MemberAt) → IsAt s base m K F a b x → IsAt s base m K F a (renewed K b) x
  renewed_second none m at.Away x h = h
  renewed_second none m at.Locked x h = h
  renewed_second none m at.Read1 x h = h
  renewed_second none m at.Read2 x h = record { somebody = h.somebody; batch = h.batch; own = h.own; first = h.first; second = λ g e. read_whole x none h.own; pending = λ some e. absurd (no_flight none some) }
  renewed_second none m at.Ready x h = record { flying = h.flying; own = h.own; first = h.first; second = λ g. refl; mine = h.mine; given = h.given; single = h.single }
  renewed_second none m at.Logged1 x h = absurd (no_flight none h.flying)
  renewed_second none m at.Logged2 x h = absurd (no_flight none h.flying)
  renewed_second none m at.Opened1 x h = record { own = h.own; first = h.first; first_next = h.first_next; second = λ some g. absurd (no_flight none some); batch = h.batch }

  pub keeps_renew1 : AllOf → (m : MemberId) → can_renew the m dev.Ckpt1 ≡ true → HoldsOf base bs (renewed K a) b holder members inked unsynced told
  keeps_renew1 h m p =
      let none : F ≡ [] = rest_is h m (and_left (is_at_rest the m) _ p) in
      record {
        sound = h.sound;
        fit = h.fit;
        journal = h.journal;
        by_member = h.by_member;
        resets = h.resets;
        given = h.given;
        copies = record {
          first = renewed_copy K a refl;
          second = h.copies.second;
          ahead = λ some either. absurd (no_flight none some);
        };
        gates = (λ u. absurd (cc), h.gates.1);
        stages = λ j act. renewed_first none j (member_in members j).stage (member_in members j) (h.stages j act);
        alone = h.alone;
        at_work = h.at_work;
        writer = h.writer;
        tells = h.tells;
        synced = h.synced;
        paper = h.paper;
      }

  pub keeps_renew2 : AllOf → (m : MemberId) → can_renew the m dev.Ckpt2 ≡ true → HoldsOf base bs a (renewed K b) holder members inked unsynced told
  keeps_renew2 h m p =
      let none : F ≡ [] = rest_is h m (and_left (is_at_rest the m) _ p) in
      record {
        sound = h.sound;
        fit = h.fit;
        journal = h.journal;
        by_member = h.by_member;
        resets = h.resets;
        given = h.given;
        copies = record {
          first = h.copies.first;
          second = renewed_copy K b refl;
          ahead = λ some either. absurd (no_flight none some);
        };
        gates = (h.gates.0, λ u. absurd (cc));
        stages = λ j act. renewed_second none j (member_in members j).stage (member_in members j) (h.stages j act);
        alone = h.alone;
        at_work = h.at_work;
        writer = h.writer;
        tells = h.tells;
        synced = h.synced;
        paper = h.paper;
      }

  -- STOP

  pub stage_pending : (m : MemberId) (s : At) (x : MemberAt) → IsAt s base m K F a b x → is_nil F ≡ false → (opens_first K s x.own ≡ true) ⊎ (opens_second K s x.own ≡ true) → IsPending K F a × IsPending K F b
  stage_pending m at.Away x h some (inl o) = absurd (cc)
  stage_pending m at.Away x h some (inr o) = absurd (cc)
  stage_pending m at.Locked x h some (inl o) = absurd (cc)
  stage_pending m at.Locked x h some (inr o) = absurd (cc)
  stage_pending m at.Read1 x h some (inl o) = absurd (cc)
  stage_pending m at.Read1 x h some (inr o) = absurd (cc)
  stage_pending m at.Read2 x h some (inl o) = h.pending some (found_true K F x.own h.own o)
  stage_pending m at.Read2 x h some (inr o) = h.pending some (found_true K F x.own h.own o)
  stage_pending m at.Ready x h some (inl o) = absurd (cc)
  stage_pending m at.Ready x h some (inr o) = absurd (cc)
  stage_pending m at.Logged1 x h some (inl o) = absurd (cc)
  stage_pending m at.Logged1 x h some (inr o) = absurd (cc)
  stage_pending m at.Logged2 x h some o = (λ g r. h.first g ∙ ap (λ es. Some es) h.own, λ g r. h.second g ∙ ap (λ es. Some es) h.own)
  stage_pending m at.Opened1 x h some o = (λ g r. absurd (not_same K F some (sym r ∙ (h.first g ∙ h.own))), λ g r. h.second some g ∙ ap (λ es. Some es) h.own)

  -- a hit copy has the longer list as next
  pub record IsHit (c : CopyAt) : Type 0 where
    pub good : c.good ≡ true
    pub next : c.next ≡ Some (K ++ F)
    pub some : is_nil F ≡ false

  pub hit_is : (opens : Bool) (c : CopyAt) → IsCopy K F c → is_hit opens c ≡ true → IsHit c
  hit_is opens c h hit =
      let p : (c.good && is_longer c.reads c.next) ≡ true = and_right opens (c.good && is_longer c.reads c.next) hit in
      let g : c.good ≡ true = and_left c.good (is_longer c.reads c.next) p in
      by g (and_right c.good (is_longer c.reads c.next) p) (h.next g) (h.reads g)
    where
      longer_some : nat_lt (length c.reads) (length (K ++ F)) ≡ true → (c.reads ≡ K) ⊎ (c.reads ≡ K ++ F) → is_nil F ≡ false
      longer_some l (inl e) =
          test_cases (is_nil F) (is_nil F ≡ false)
          (λ none. let f : F ≡ [] = nil_is F none in let same : K ++ F ≡ K = rw f (append-nil K) in
          both_ways (nat_lt (length c.reads) (length (K ++ F))) l (rw (e, same) (not_longer K)))
          (λ some. some)
      longer_some l (inr e) = both_ways (nat_lt (length c.reads) (length (K ++ F))) l (rw e (not_longer (K ++ F)))

      by : c.good ≡ true → is_longer c.reads c.next ≡ true → (c.next ≡ None) ⊎ (c.next ≡ Some (K ++ F)) → (c.reads ≡ K) ⊎ (c.reads ≡ K ++ F) → IsHit c
      by g l (inl e) reads = absurd (let w = rw e at l in cc)
      by g l (inr e) reads = let w : nat_lt (length c.reads) (length (K ++ F)) ≡ true = (rw e at l) in record { good = g; next = e; some = longer_some w reads }

  pub left_reads : (l : Left) (c : CopyAt) → c.next ≡ Some (K ++ F) → (c.reads ≡ K) ⊎ (c.reads ≡ K ++ F) → (left_of l c.reads c.next ≡ K) ⊎ (left_of l c.reads c.next ≡ K ++ F)
  left_reads left.Old c next reads = reads
  left_reads left.New c next reads = inr (rw next refl)

  stopped_copy : (l : Left) (opens : Bool) (c : CopyAt) → IsCopy K F c → IsCopy K F (after_stop l opens c)
  stopped_copy l opens c h =
      test_cases (is_hit opens c) (IsCopy K F (after_stop l opens c))
      (λ e. rw e (let hit : IsHit c = hit_is opens c h e in record { reads = λ g. left_reads l c hit.next (h.reads hit.good); next = λ g. inr hit.next }))
      (λ e. rw e h)

  stopped_pending : (l : Left) (opens : Bool) (c : CopyAt) → IsCopy K F c → IsPending K F c → IsPending K F (after_stop l opens c)
  stopped_pending l opens c h pending =
      test_cases (is_hit opens c) (IsPending K F (after_stop l opens c))
      (λ e. rw e (λ g r. (hit_is opens c h e).next))
      (λ e. rw e pending)

  stopped_ahead : (l : Left) (opens : Bool) (c : CopyAt) → IsAhead K F (after_stop l opens c) → (is_hit opens c ≡ true) ⊎ IsAhead K F c
  stopped_ahead l opens c h =
      test_cases (is_hit opens c) ((is_hit opens c ≡ true) ⊎ IsAhead K F c)
      (λ e. inl e)
      (λ e. inr (rw e at h))

  opens_works : (s : At) (own : List Entry) → (opens_first K s own ≡ true) ⊎ (opens_second K s own ≡ true) → is_away s ≡ false
  opens_works at.Away own (inl o) = absurd (cc)
  opens_works at.Away own (inr o) = absurd (cc)
  opens_works at.Locked own o = refl
  opens_works at.Read1 own o = refl
  opens_works at.Read2 own o = refl
  opens_works at.Ready own o = refl
  opens_works at.Logged1 own o = refl
  opens_works at.Logged2 own o = refl
  opens_works at.Opened1 own o = refl

  pub keeps_stop : AllOf → (m : MemberId) (l : Left) → is_up_in members m ≡ true
      → HoldsOf base bs (after_stop l (opens_first K (member_in members m).stage (member_in members m).own) a) (after_stop l (opens_second K (member_in members m).stage (member_in members m).own) b)
      holder (on_member m has_stopped members) inked unsynced told
  keeps_stop h m l up =
      let x = member_in members m in
      let oa = opens_first K x.stage x.own in
      let ob = opens_second K x.stage x.own in
      let somebody : is_somebody m ≡ true = and_left (is_somebody m) x.up up in
      let act : acts_in members m ≡ true = up_acts members m up in
      let inside : m.0 < length members = acting_inside members m base.config.members h.fit act in
      record {
        sound = h.sound;
        fit = change_length has_stopped m.0 members ∙ h.fit;
        journal = h.journal;
        by_member = h.by_member;
        given = h.given;
        resets = resets_on m has_stopped members F inside (λ y u. absurd (cc)) h.resets.0 (λ acting ready. absurd (down_idle (is_somebody m) somebody acting)) (λ j apart acting ready. h.resets.1 j acting ready);
        copies = record {
          first = stopped_copy l oa a h.copies.first;
          second = stopped_copy l ob b h.copies.second;
          ahead = λ some either. pending_after oa ob x some (h.stages m act) (λ o. o) (λ o. o) h.copies either;
        };
        gates = (
          gate oa a h.copies.first somebody act inside h.alone (λ o. opens_works x.stage x.own (inl o)) h.gates.0,
          gate ob b h.copies.second somebody act inside h.alone (λ o. opens_works x.stage x.own (inr o)) h.gates.1,
        );
        stages = stages_on m has_stopped members base K F (after_stop l oa a) (after_stop l ob b) inside (λ acting. absurd (down_idle (is_somebody m) somebody acting))
            (λ j apart acting. test_cases (is_away x.stage) (IsAt (member_in members j).stage base j K F (after_stop l oa a) (after_stop l ob b) (member_in members j))
            (λ e. let s : x.stage ≡ at.Away = away_is x.stage e in subst (λ (t : At). IsAt (member_in members j).stage base j K F (after_stop l (opens_first K t x.own) a) (after_stop l (opens_second K t x.own) b) (member_in members j)) (sym s) (h.stages j acting))
            (λ e. away_any base j K F K F a b (after_stop l oa a) (after_stop l ob b) (member_in members j).stage (member_in members j) (others_away holder m members h.alone act e j apart acting) (h.stages j acting)));
        alone = alone_on m has_stopped members holder inside (λ acting works. absurd (down_idle (is_somebody m) somebody acting)) (λ j apart acting works. h.alone j acting works);
        at_work = at_work_on holder m has_stopped members inside (λ u held. absurd (down_up (is_somebody m) u)) (λ j apart u held. h.at_work j u held);
        writer = writer_on m has_stopped members F inside (λ u quiet. absurd (down_up (is_somebody m) u)) (λ j apart u quiet. h.writer j u quiet);
        tells = told_on m has_stopped members bs told (λ y. le_add y.step) h.tells;
        synced = h.synced;
        paper = paper_on m has_stopped members base inked K F inside (λ y. le_refl y.printed) h.paper.0 h.paper.1.0 (λ acting ready. absurd (down_idle (is_somebody m) somebody acting)) (λ j apart acting ready. h.paper.1.1 j acting ready);
      }
    where
      le_add : (n : ℕ) → n ≤ n + 1
      le_add n = omega arith

      pending_after : (oa ob : Bool) (x : MemberAt) → is_nil F ≡ false → IsAt x.stage base m K F a b x → (oa ≡ true → opens_first K x.stage x.own ≡ true) → (ob ≡ true → opens_second K x.stage x.own ≡ true) → AreCopies K F a b
          → IsAhead K F (after_stop l oa a) ⊎ IsAhead K F (after_stop l ob b) → IsPending K F (after_stop l oa a) × IsPending K F (after_stop l ob b)
      pending_after oa ob x some stage ea eb copies either =
          let old : IsPending K F a × IsPending K F b = by either in
          (stopped_pending l oa a copies.first old.0, stopped_pending l ob b copies.second old.1)
        where
          first : (is_hit oa a ≡ true) ⊎ IsAhead K F a → IsPending K F a × IsPending K F b
          first (inl hit) = stage_pending m x.stage x stage some (inl (ea (and_left oa _ hit)))
          first (inr ahead) = copies.ahead some (inl ahead)

          second : (is_hit ob b ≡ true) ⊎ IsAhead K F b → IsPending K F a × IsPending K F b
          second (inl hit) = stage_pending m x.stage x stage some (inr (eb (and_left ob _ hit)))
          second (inr ahead) = copies.ahead some (inr ahead)

          by : IsAhead K F (after_stop l oa a) ⊎ IsAhead K F (after_stop l ob b) → IsPending K F a × IsPending K F b
          by (inl e) = first (stopped_ahead l oa a e)
          by (inr e) = second (stopped_ahead l ob b e)

      gate : (opens : Bool) (c : CopyAt) → IsCopy K F c → is_somebody m ≡ true → acts_in members m ≡ true → m.0 < length members → IsAlone holder members
          → (opens ≡ true → is_away (member_in members m).stage ≡ false) → (c.sure ≡ false → IsUnsure K F members c)
          → (after_stop l opens c).sure ≡ false → IsUnsure K F (on_member m has_stopped members) (after_stop l opens c)
      gate opens c copy somebody act inside alone works old unsure =
          test_cases (is_hit opens c) (IsUnsure K F (on_member m has_stopped members) (after_stop l opens c))
          (λ e. rw e (let hit : IsHit c = hit_is opens c copy e in record {
            next = hit.next;
            flying = hit.some;
            calm = calm_on m has_stopped members inside (λ acting. absurd (down_idle (is_somebody m) somebody acting))
                (λ j apart acting. away_calm (member_in members j).stage (others_away holder m members alone act (works (and_left opens (c.good && is_longer c.reads c.next) e)) j apart acting));
          }))
          (λ e. rw e (unsure_on K F m has_stopped members c inside (λ acting. absurd (down_idle (is_somebody m) somebody acting)) (old (rw e at unsure))))
        where
          away_calm : (s : At) → is_away s ≡ true → is_calm s ≡ true
          away_calm s away = let e : s ≡ at.Away = away_is s away in rw e refl
