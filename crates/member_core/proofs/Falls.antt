-- Crashes and starts keep all of it, and a new world has it.
use Rattle.std.proofs.Common.{◌≡◌, ℕ, zero, suc, ◌+◌, ◌≤◌, ◌<◌, ◌⊎◌, inl, inr, Bool, true, false, not, ◌&&◌, ◌==◌, nat_lt, List, [], ◌∷◌, ◌++◌, length, map, Option, Some, refl, ap, sym, ◌∙◌, subst, arith, append-nil, le_refl, le_trans, lt_of_lt_of_le}
use Rattle.std.proofs.lemmas.Bool.Decides.{nat_tests}
use Rattle.mas_types.specs.declared.ids.MemberId.{MemberId}
use Rattle.mas_types.specs.declared.ids.GroupNo.{GroupNo}
use Rattle.mas_types.specs.declared.jobs.Output.{Output}
use Rattle.mas_types.specs.declared.queues.Queue.{Queue}
use Rattle.mas_types.specs.declared.journals.Entry.{Entry}
use Rattle.mas_types.specs.declared.journals.Batch.{Batch}
use Rattle.mas_types.specs.Ids.{is_somebody, nobody}
use Rattle.mas_types.specs.Run.{run}
use Rattle.member_core.specs.declared.worlds.At.{At}
use Rattle.member_core.specs.declared.worlds.At.TheVariants as at
use Rattle.member_core.specs.declared.worlds.Left.{Left}
use Rattle.member_core.specs.declared.worlds.Left.TheVariants as left
use Rattle.member_core.specs.declared.worlds.CopyAt.{CopyAt}
use Rattle.member_core.specs.declared.worlds.MemberAt.{MemberAt}
use Rattle.member_core.specs.declared.worlds.Inked.{Inked}
use Rattle.member_core.specs.declared.worlds.Said.{Said}
use Rattle.member_core.specs.declared.worlds.World.{World}
use Rattle.member_core.specs.Worlds.{is_nil, at_or, absent, member_in, is_up_in, acts_in, longest, kept_in, flying_in, settled, with_batches}
use Rattle.mas_types.specs.Sound.{IsSound}
use Rattle.member_core.specs.Events.{new_copy, new_members, fate_by, made_sure, opens_first, opens_second, is_hit, is_longer, left_of, after_crash, anyone_opens, has_fallen, is_any_good, is_nobody_up, can_start, has_risen, restarting, risen, restart_entry, after_start}
use Rattle.queue_laws.specs.Runs.{IsGiven}
use Rattle.member_core.specs.Holds.{IsCopy, IsAhead, IsPending, IsUnsure, AreGiven, IsAt, AreLinesInked, printed_in, IsNoUpReset, IsTold, HoldsOf}
use Rattle.paper_laws.specs.Paper.{printed_at, mark_of}
use Rattle.member_core.proofs.Basics.{test_cases, and_left, and_right, or_cases, both_ways, map_rel, all_weaker, all_append, same_member_is}
use Rattle.member_core.proofs.Frames.{fewer, writer_none, nobody_up, resets_less}
use Rattle.member_core.proofs.Journals.{flying_settled, journal_settled, unkept_settled, by_settled}
use Rattle.member_core.proofs.Found.{IsFound, longest_found, IsFlat, flat_copies}
use Rattle.member_core.proofs.Locks.{up_acts, at_own, sure_copies}
use Rattle.member_core.proofs.Copies.{fate_kept, fate_over, fate_flat}
use Rattle.member_core.proofs.Members.{IsHit, hit_is, left_reads, stage_pending}
use Rattle.member_core.proofs.Runs.{sound_run, lines_push, printed_upto}

map_length : {A : Type 0} (f : A → A) (xs : List A) → length (map f xs) ≡ length xs
map_length f [] = refl
map_length f (x ∷ xs) = ap suc (map_length f xs)

-- a member that fell
record HasFallen (x y : MemberAt) : Type 0 where
  up : y.up ≡ false
  stage : y.stage ≡ at.Away
  batch : y.batch ≡ []
  printed : y.printed ≤ x.printed
  step : x.step ≤ y.step

fallen : (m : MemberId) (members : List MemberAt) → HasFallen (member_in members m) (member_in (map has_fallen members) m)
fallen m members =
    map_rel absent HasFallen has_fallen (record { up = refl; stage = refl; batch = refl; printed = le_refl 0; step = le_refl 0 })
    (λ x. record { up = refl; stage = refl; batch = refl; printed = le_refl x.printed; step = le_add x.step }) m.0 members
  where
    le_add : (n : ℕ) → n ≤ n + 1
    le_add n = omega arith

-- a member that rose, except member 0
record HasRisen (x y : MemberAt) : Type 0 where
  stage : y.stage ≡ at.Away
  batch : y.batch ≡ []
  step : x.step ≤ y.step

module _ (own : List Entry) (e : Entry) where
  risen_later : (i : ℕ) (members : List MemberAt) → not (i == 0) ≡ true → HasRisen (at_or absent i members) (at_or absent i (risen own e members))
  risen_later i [] h = record { stage = refl; batch = refl; step = le_refl 0 }
  risen_later zero (x ∷ members) h = absurd (cc)
  risen_later (suc i) (x ∷ members) h = map_rel absent HasRisen has_risen (record { stage = refl; batch = refl; step = le_refl 0 }) (λ y. record { stage = refl; batch = refl; step = le_refl y.step }) i members

  risen_printed : (i : ℕ) (members : List MemberAt) → (at_or absent i (risen own e members)).printed ≤ (at_or absent i members).printed
  risen_printed i [] = le_refl 0
  risen_printed zero (x ∷ members) = le_refl x.printed
  risen_printed (suc i) (x ∷ members) = map_rel absent (λ y z. z.printed ≤ y.printed) has_risen (le_refl 0) (λ y. le_refl y.printed) i members

  risen_first : (n : ℕ) (members : List MemberAt) → length members ≡ suc n → member_in (risen own e members) nobody ≡ restarting own e (member_in members nobody)
  risen_first n [] h = absurd (cc)
  risen_first n (x ∷ members) h = refl

  risen_length : (members : List MemberAt) → length (risen own e members) ≡ length members
  risen_length [] = refl
  risen_length (x ∷ members) = ap suc (map_length has_risen members)

module _ (base : Queue) (bs : List Batch) (a b : CopyAt) (holder : MemberId) (members : List MemberAt) (inked : List Inked) (unsynced : List GroupNo) (told : List Said) where
  abbrev the : World
  the = record { base = base; journal = with_batches bs; copies = a ∷ (b ∷ []); holder = holder; members = members; printed = inked; unsynced = unsynced; told = told }

  abbrev K : List Entry
  K = kept_in bs

  abbrev F : List Entry
  F = flying_in bs

  abbrev AllOf : Type 0
  AllOf = HoldsOf base bs a b holder members inked unsynced told

  -- CRASH

  left_kept : (l : Left) (next : Option (List Entry)) → next ≡ Some (K ++ F) → (left_of l K next ≡ K) ⊎ (left_of l K next ≡ K ++ F)
  left_kept left.Old next e = inl refl
  left_kept left.New next e = inr (rw e refl)

  module _ (l : Left) (opens : Bool) (c : CopyAt) (copy : IsCopy K F c) (gate : c.sure ≡ false → IsUnsure K F members c) where
    crash_copy : IsCopy K F (after_crash l K opens c)
    crash_copy =
        test_cases c.sure (IsCopy K F (after_crash l K opens c))
        (λ s. test_cases (is_hit opens c) (IsCopy K F (after_crash l K opens c))
        (λ e. rw (s, e) (let hit : IsHit base bs a b holder members inked unsynced told c = hit_is base bs a b holder members inked unsynced told opens c copy e in
        record { reads = λ g. left_reads base bs a b holder members inked unsynced told l c hit.next (copy.reads hit.good); next = λ g. inr hit.next }))
        (λ e. rw (s, e) (record { reads = copy.reads; next = copy.next })))
        (λ s. rw s (record { reads = λ g. left_kept l c.next (gate s).next; next = λ g. inr (gate s).next }))

    crash_pending : IsPending K F c → IsPending K F (after_crash l K opens c)
    crash_pending pending =
        test_cases c.sure (IsPending K F (after_crash l K opens c))
        (λ s. test_cases (is_hit opens c) (IsPending K F (after_crash l K opens c))
        (λ e. rw (s, e) (λ g r. (hit_is base bs a b holder members inked unsynced told opens c copy e).next))
        (λ e. rw (s, e) pending))
        (λ s. rw s (λ g r. (gate s).next))

    crash_ahead : IsAhead K F (after_crash l K opens c) → (opens ≡ true) ⊎ IsAhead K F c
    crash_ahead h =
        test_cases c.sure ((opens ≡ true) ⊎ IsAhead K F c)
        (λ s. test_cases (is_hit opens c) ((opens ≡ true) ⊎ IsAhead K F c)
        (λ e. inl (and_left opens (c.good && is_longer c.reads c.next) e))
        (λ e. inr (sure_again (rw (s, e) at h))))
        (λ s. inr (let w = rw s at h in (w.0, inr s)))
      where
        sure_again : (c.good ≡ true) × ((c.reads ≡ K ++ F) ⊎ (true ≡ false)) → IsAhead K F c
        sure_again (g, inl r) = (g, inl r)
        sure_again (g, inr r) = absurd (cc)

    crash_sure : (after_crash l K opens c).sure ≡ true
    crash_sure =
        test_cases c.sure ((after_crash l K opens c).sure ≡ true)
        (λ s. test_cases (is_hit opens c) ((after_crash l K opens c).sure ≡ true) (λ e. rw (s, e) refl) (λ e. rw (s, e) refl))
        (λ s. rw s refl)

  anyone_pending : AllOf → is_nil F ≡ false → (anyone_opens (opens_first K) the ≡ true) ⊎ (anyone_opens (opens_second K) the ≡ true) → IsPending K F a × IsPending K F b
  anyone_pending h some = by
    where
      of_member : (m : MemberId) → acts_in members m ≡ true → (opens_first K (member_in members m).stage (member_in members m).own ≡ true) ⊎ (opens_second K (member_in members m).stage (member_in members m).own ≡ true) → IsPending K F a × IsPending K F b
      of_member m act o = stage_pending base bs a b holder members inked unsynced told m (member_in members m).stage (member_in members m) (h.stages m act) some o

      either : (opens : At → List Entry → Bool) → ((m : MemberId) → opens (member_in members m).stage (member_in members m).own ≡ true → (opens_first K (member_in members m).stage (member_in members m).own ≡ true) ⊎ (opens_second K (member_in members m).stage (member_in members m).own ≡ true))
          → anyone_opens opens the ≡ true → IsPending K F a × IsPending K F b
      either opens side o = cases (or_cases (is_up_in members holder && opens (member_in members holder).stage (member_in members holder).own) (opens (member_in members nobody).stage (member_in members nobody).own) o)
        where
          cases : ((is_up_in members holder && opens (member_in members holder).stage (member_in members holder).own) ≡ true) ⊎ (opens (member_in members nobody).stage (member_in members nobody).own ≡ true) → IsPending K F a × IsPending K F b
          cases (inl e) = of_member holder (up_acts members holder (and_left (is_up_in members holder) (opens (member_in members holder).stage (member_in members holder).own) e))
              (side holder (and_right (is_up_in members holder) (opens (member_in members holder).stage (member_in members holder).own) e))
          cases (inr e) = of_member nobody refl (side nobody e)

      by : (anyone_opens (opens_first K) the ≡ true) ⊎ (anyone_opens (opens_second K) the ≡ true) → IsPending K F a × IsPending K F b
      by (inl o) = either (opens_first K) (λ m e. inl e) o
      by (inr o) = either (opens_second K) (λ m e. inr e) o

  pub keeps_crash : AllOf → (l : Left)
      → HoldsOf base bs (after_crash l K (anyone_opens (opens_first K) the) a) (after_crash l K (anyone_opens (opens_second K) the) b) nobody (map has_fallen members) inked unsynced told
  keeps_crash h l =
      let oa = anyone_opens (opens_first K) the in
      let ob = anyone_opens (opens_second K) the in
      let counts = printed_in members in
      let le = λ (k : MemberId). (fallen k members).printed in
      record {
        sound = h.sound;
        fit = map_length has_fallen members ∙ h.fit;
        journal = h.journal;
        by_member = h.by_member;
        given = h.given;
        resets = (
          resets_less members (map has_fallen members) (λ j up. both_ways (member_in (map has_fallen members) j).up (and_right (is_somebody j) (member_in (map has_fallen members) j).up up) (fallen j members).up) F h.resets.0,
          λ m act ready. (let s : (member_in (map has_fallen members) m).stage ≡ at.Away = (fallen m members).stage in absurd (let w = rw s at ready in cc)),
        );
        copies = record {
          first = crash_copy l oa a h.copies.first h.gates.0;
          second = crash_copy l ob b h.copies.second h.gates.1;
          ahead = λ some either. both some (old some either);
        };
        gates = (λ u. both_ways (after_crash l K oa a).sure (crash_sure l oa a h.copies.first h.gates.0) u, λ u. both_ways (after_crash l K ob b).sure (crash_sure l ob b h.copies.second h.gates.1) u);
        stages = λ m act. (let s : (member_in (map has_fallen members) m).stage ≡ at.Away = (fallen m members).stage in rw s (fallen m members).batch);
        alone = λ m act works. (let s : (member_in (map has_fallen members) m).stage ≡ at.Away = (fallen m members).stage in absurd (let w = rw s at works in cc));
        at_work = nobody_up (map has_fallen members);
        writer = λ m up quiet. both_ways (member_in (map has_fallen members) m).up (and_right (is_somebody m) (member_in (map has_fallen members) m).up up) (fallen m members).up;
        tells = all_weaker (IsTold bs members) (IsTold bs (map has_fallen members)) (λ s t. (t.0, (t.1.0, lt_of_lt_of_le t.1.1 (fallen s.by members).step))) told h.tells;
        synced = h.synced;
        paper = (
          fewer base inked (printed_in members) (printed_in (map has_fallen members)) K le h.paper.0,
          (
            fewer base inked (printed_in members) (printed_in (map has_fallen members)) (K ++ F) le h.paper.1.0,
            λ m act ready. (let s : (member_in (map has_fallen members) m).stage ≡ at.Away = (fallen m members).stage in absurd (let w = rw s at ready in cc)),
          ),
        );
      }
    where
      both : is_nil F ≡ false → IsPending K F a × IsPending K F b → IsPending K F (after_crash l K (anyone_opens (opens_first K) the) a) × IsPending K F (after_crash l K (anyone_opens (opens_second K) the) b)
      both some p = (crash_pending l (anyone_opens (opens_first K) the) a h.copies.first h.gates.0 p.0, crash_pending l (anyone_opens (opens_second K) the) b h.copies.second h.gates.1 p.1)

      first : is_nil F ≡ false → (anyone_opens (opens_first K) the ≡ true) ⊎ IsAhead K F a → IsPending K F a × IsPending K F b
      first some (inl o) = anyone_pending h some (inl o)
      first some (inr x) = h.copies.ahead some (inl x)

      second : is_nil F ≡ false → (anyone_opens (opens_second K) the ≡ true) ⊎ IsAhead K F b → IsPending K F a × IsPending K F b
      second some (inl o) = anyone_pending h some (inr o)
      second some (inr x) = h.copies.ahead some (inr x)

      old : is_nil F ≡ false → IsAhead K F (after_crash l K (anyone_opens (opens_first K) the) a) ⊎ IsAhead K F (after_crash l K (anyone_opens (opens_second K) the) b) → IsPending K F a × IsPending K F b
      old some (inl x) = first some (crash_ahead l (anyone_opens (opens_first K) the) a h.copies.first h.gates.0 x)
      old some (inr x) = second some (crash_ahead l (anyone_opens (opens_second K) the) b h.copies.second h.gates.1 x)

  -- START

  pub keeps_restart : AllOf → can_start the ≡ true → (found : Bool) → nat_lt (length K) (length (longest (a ∷ (b ∷ [])))) ≡ found
      → HoldsOf base (settled (fate_by found) bs) (after_start found (longest (a ∷ (b ∷ []))) a) (after_start found (longest (a ∷ (b ∷ []))) b) nobody
      (risen (longest (a ∷ (b ∷ []))) (restart_entry (run base (longest (a ∷ (b ∷ []))))) members) inked [] told
  keeps_restart h p found more =
      let own = longest (a ∷ (b ∷ [])) in
      let e = restart_entry (run base own) in
      let bs' = settled (fate_by found) bs in
      let members' = risen own e members in
      let good : is_any_good (a ∷ (b ∷ [])) ≡ true = and_right (is_nobody_up members) (is_any_good (a ∷ (b ∷ []))) p in
      let f : IsFound K F a b own = longest_found K F a b good h.copies in
      let k : kept_in bs' ≡ own = fate_kept base bs a b holder members inked unsynced told h.journal own f.list found more in
      let none : flying_in bs' ≡ [] = flying_settled (fate_by found) (fate_over base bs a b holder members inked unsynced told found) bs in
      let both : kept_in bs' ++ flying_in bs' ≡ own = rw (k, none) (append-nil own) in
      let flat : IsFlat own (after_start found own a) × IsFlat own (after_start found own b) =
      fate_flat base bs (made_sure a) (made_sure b) holder members inked unsynced told (sure_copies base bs a b holder members inked unsynced told h.copies) own f.list f.first f.second found more in
      let given : AreGiven base own = at_own K F own (AreGiven base) h.given.0 (all_append (IsGiven base) K F h.given.0 h.given.1) f.list in
      let lines : AreLinesInked base inked (printed_in members) own = at_own K F own (AreLinesInked base inked (printed_in members)) h.paper.0 h.paper.1.0 f.list in
      let le = λ (j : MemberId). risen_printed own e j.0 members in
      let lines' : AreLinesInked base inked (printed_in members') own = fewer base inked (printed_in members) (printed_in members') own le lines in
      let here : member_in members' nobody ≡ restarting own e (member_in members nobody) = risen_first own e base.config.members members h.fit in
      let pushed : AreLinesInked base inked (printed_in members') (own ++ e ∷ []) =
      lines_push base inked own e (printed_in members) (printed_in members') (sound_run base base own h.sound refl given).0 le (le nobody) tt lines in
      record {
        sound = h.sound;
        fit = risen_length own e members ∙ h.fit;
        journal = journal_settled (fate_by found) (fate_over base bs a b holder members inked unsynced told found) bs;
        by_member = by_settled (fate_by found) bs h.by_member;
        resets = (
          subst (λ es. IsNoUpReset members' es) (sym none) tt,
          λ m act ready. test_cases (is_somebody m) (IsNoUpReset members' (member_in members' m).batch)
              (λ s. let r : (member_in members' m).stage ≡ at.Away = (risen_later own e m.0 members s).stage in absurd (let w = rw r at ready in cc))
              (λ s. subst (λ (j : MemberId). IsNoUpReset members' (member_in members' j).batch) (sym (is_nobody m s))
              (subst (λ (y : MemberAt). IsNoUpReset members' y.batch) (sym here) (refl, tt))),
        );
        given = (subst (λ es. AreGiven base es) (sym k) given, subst (λ es. AreGiven base es) (sym none) tt);
        copies = flat_copies (kept_in bs') (flying_in bs') (after_start found own a) (after_start found own b) none (subst (λ es. IsFlat es (after_start found own a)) (sym k) flat.0) (subst (λ es. IsFlat es (after_start found own b)) (sym k) flat.1);
        gates = (λ u. absurd (cc), λ u. absurd (cc));
        stages = λ m act. test_cases (is_somebody m) (IsAt (member_in members' m).stage base m (kept_in bs') (flying_in bs') (after_start found own a) (after_start found own b) (member_in members' m))
            (λ s. let r : (member_in members' m).stage ≡ at.Away = (risen_later own e m.0 members s).stage in rw r (risen_later own e m.0 members s).batch)
            (λ s. let zero_m : m ≡ nobody = is_nobody m s in
            subst (λ (j : MemberId). IsAt (member_in members' j).stage base j (kept_in bs') (flying_in bs') (after_start found own a) (after_start found own b) (member_in members' j)) (sym zero_m)
            (subst (λ (y : MemberAt). IsAt y.stage base nobody (kept_in bs') (flying_in bs') (after_start found own a) (after_start found own b) y) (sym here)
            (record { flying = none; own = ap (λ es. es ++ e ∷ []) (sym k); first = λ g. refl; second = λ g. refl; mine = (refl, tt); given = (record { by = refl; fit = tt }, tt); single = λ none_up. refl })));
        alone = λ m act works. test_cases (is_somebody m) (0 ≡ m.0)
            (λ s. let r : (member_in members' m).stage ≡ at.Away = (risen_later own e m.0 members s).stage in absurd (let w = rw r at works in cc))
            (λ s. sym (ap (λ (j : MemberId). j.0) (is_nobody m s)));
        at_work = nobody_up members';
        writer = writer_none (flying_in bs') members' none;
        tells = all_weaker (IsTold bs members) (IsTold bs' members') (λ s t. (unkept_settled (fate_by found) bs s.by s.step t.0, (t.1.0, lt_of_lt_of_le t.1.1 (risen_later own e s.by.0 members t.1.0).step))) told h.tells;
        synced = (refl, refl);
        paper = (
          subst (λ es. AreLinesInked base inked (printed_in members') es) (sym k) lines',
          (
            subst (λ es. AreLinesInked base inked (printed_in members') es) (sym both) lines',
            λ m act ready. test_cases (is_somebody m) (AreLinesInked base inked (printed_in members') (member_in members' m).own)
                (λ s. let r : (member_in members' m).stage ≡ at.Away = (risen_later own e m.0 members s).stage in absurd (let w = rw r at ready in cc))
                (λ s. subst (λ (j : MemberId). AreLinesInked base inked (printed_in members') (member_in members' j).own) (sym (is_nobody m s))
                (subst (λ (y : MemberAt). AreLinesInked base inked (printed_in members') y.own) (sym here) pushed)),
          ),
        );
      }
    where
      is_nobody : (m : MemberId) → is_somebody m ≡ false → m ≡ nobody
      is_nobody m s = same_member_is m nobody (let w : (m.0 == 0) ≡ true = grind (arith, nat_tests) in w)

-- A NEW WORLD

new_length : (n : ℕ) → length (new_members n) ≡ n
new_length zero = refl
new_length (suc n) = ap suc (new_length n)

record IsNew (x : MemberAt) : Type 0 where
  stage : x.stage ≡ at.Away
  batch : x.batch ≡ []
  printed : x.printed ≡ 0

new_at : (n i : ℕ) → IsNew (at_or absent i (new_members n))
new_at zero i = record { stage = refl; batch = refl; printed = refl }
new_at (suc n) zero = record { stage = refl; batch = refl; printed = refl }
new_at (suc n) (suc i) = new_at n i

new_in : (n i : ℕ) → IsNew (at_or absent i (absent ∷ new_members n))
new_in n zero = record { stage = refl; batch = refl; printed = refl }
new_in n (suc i) = new_at n i

pub holds_new : (base : Queue) → IsSound base → HoldsOf base [] new_copy new_copy nobody (absent ∷ new_members base.config.members) [] [] []
holds_new base sound = record {
  sound = sound;
  fit = ap suc (new_length base.config.members);
  journal = tt;
  by_member = tt;
  resets = (tt, λ m act ready. (let s : (member_in (absent ∷ new_members base.config.members) m).stage ≡ at.Away = (new_in base.config.members m.0).stage in absurd (let w = rw s at ready in cc)));
  given = (tt, tt);
  copies = record {
    first = record { reads = λ g. inl refl; next = λ g. inl refl };
    second = record { reads = λ g. inl refl; next = λ g. inl refl };
    ahead = λ some either. absurd (cc);
  };
  gates = (λ u. absurd (cc), λ u. absurd (cc));
  stages = λ m act. (let s : (member_in (absent ∷ new_members base.config.members) m).stage ≡ at.Away = (new_in base.config.members m.0).stage in rw s (new_in base.config.members m.0).batch);
  alone = λ m act works. (let s : (member_in (absent ∷ new_members base.config.members) m).stage ≡ at.Away = (new_in base.config.members m.0).stage in absurd (let w = rw s at works in cc));
  at_work = nobody_up (absent ∷ new_members base.config.members);
  writer = λ m up quiet. tt;
  tells = tt;
  synced = (refl, refl);
  paper = (none, (none, λ m act ready. (let s : (member_in (absent ∷ new_members base.config.members) m).stage ≡ at.Away = (new_in base.config.members m.0).stage in absurd (let w = rw s at ready in cc))));
}
  where
    nothing : (b l p : ℕ) → b < l → l ≤ b + p → p ≤ 0 → ⊥
    nothing b l p x y z = omega arith

    none : AreLinesInked base [] (printed_in (absent ∷ new_members base.config.members)) []
    none n i o found un line low high =
        let low' : o.mark < line = subst (λ (x : Option Output). mark_of x < line) found low in
        let zero_of : printed_in (absent ∷ new_members base.config.members) o.busy ≡ 0 = (new_in base.config.members o.busy.0).printed in
        let few : printed_at (printed_in (absent ∷ new_members base.config.members)) o.busy ≤ 0 = le_trans (printed_upto (printed_in (absent ∷ new_members base.config.members)) o.busy) (subst (λ (k : ℕ). k ≤ 0) (sym zero_of) (le_refl 0)) in
        absurd (nothing o.mark line (printed_at (printed_in (absent ∷ new_members base.config.members)) o.busy) low' high few)
