-- The invariant in the words of its users follows.
use Rattle.std.proofs.Common.{◌≡◌, ℕ, ◌⊎◌, inl, inr, Bool, true, false, not, ◌&&◌, ◌==◌, List, [], ◌∷◌, ◌++◌, Some, refl, ap, sym, ◌∙◌, subst, arith, append-nil}
use Rattle.std.proofs.lemmas.Bool.{not-true as none}
use Rattle.std.specs.List.{list_any, AllByRecursion}
use Rattle.std.proofs.lemmas.Bool.Decides.{nat_tests}
use Rattle.mas_types.specs.declared.ids.MemberId.{MemberId}
use Rattle.mas_types.specs.declared.queues.Queue.{Queue}
use Rattle.mas_types.specs.declared.journals.Fate.{Fate}
use Rattle.mas_types.specs.declared.journals.Fate.TheVariants as fate
use Rattle.mas_types.specs.declared.journals.Entry.{Entry}
use Rattle.mas_types.specs.declared.journals.Batch.{Batch}
use Rattle.mas_types.specs.Ids.{same_member, is_somebody, nobody}
use Rattle.mas_types.specs.Run.{run}
use Rattle.member_core.specs.declared.worlds.At.{At}
use Rattle.member_core.specs.declared.worlds.At.TheVariants as at
use Rattle.member_core.specs.declared.worlds.CopyAt.{CopyAt}
use Rattle.member_core.specs.declared.worlds.MemberAt.{MemberAt}
use Rattle.member_core.specs.declared.worlds.World.{World}
use Rattle.member_core.specs.Worlds.{is_nil, is_away, is_ready, member_at, is_up, first_copy, second_copy, longest, kept, flying, kept_in, entries_kept, is_of, is_unkept, has_unkept}
use Rattle.std.specs.Prelude.{Contains}
use Rattle.std.proofs.lemmas.List.Elements.{All-from_recursion, All-contains, Contains-append_left, Contains-append_right}
use Rattle.queue_laws.proofs.Finds.{any_none}
use Rattle.member_core.specs.Events.{start, runs, is_any_good}
use Rattle.member_core.specs.Holds.{is_calm, IsUnsure, IsAt, AreLinesInked, printed_in, IsTold, IsBatchOf, AreBy, is_restart, Holds}
use Rattle.member_core.specs.Right.{IsOwn, IsRight, FindsRight, EveryRunIsRight}
use Rattle.member_core.proofs.Basics.{test_cases, both_ways, neither, away_is, nil_is, same_member_is, all_weaker}
use Rattle.member_core.proofs.Found.{IsFound, longest_found}
use Rattle.member_core.proofs.Locks.{up_acts}
use Rattle.member_core.proofs.Every.{every_run}

calm_zero : (base : Queue) (K F : List Entry) (a b : CopyAt) (s : At) (x : MemberAt) → is_calm s ≡ true → IsAt s base nobody K F a b x → s ≡ at.Away
calm_zero base K F a b at.Away x calm h = refl
calm_zero base K F a b at.Locked x calm h = absurd (let w = h.1 in cc)
calm_zero base K F a b at.Read1 x calm h = absurd (cc)
calm_zero base K F a b at.Read2 x calm h = absurd (cc)
calm_zero base K F a b at.Ready x calm h = absurd (cc)
calm_zero base K F a b at.Logged1 x calm h = absurd (cc)
calm_zero base K F a b at.Logged2 x calm h = absurd (cc)
calm_zero base K F a b at.Opened1 x calm h = absurd (cc)

calm_is : (s : At) → is_calm s ≡ true → is_away s ≡ false → s ≡ at.Locked
calm_is at.Away h works = absurd (cc)
calm_is at.Locked h works = refl
calm_is at.Read1 h works = absurd (cc)
calm_is at.Read2 h works = absurd (cc)
calm_is at.Ready h works = absurd (cc)
calm_is at.Logged1 h works = absurd (cc)
calm_is at.Logged2 h works = absurd (cc)
calm_is at.Opened1 h works = absurd (cc)

own_at : (base : Queue) (m : MemberId) (K F : List Entry) (a b : CopyAt) (s : At) (x : MemberAt) → IsAt s base m K F a b x → IsOwn s K F x
own_at base m K F a b at.Away x h = tt
own_at base m K F a b at.Locked x h = tt
own_at base m K F a b at.Read1 x h = tt
own_at base m K F a b at.Read2 x h = h.own
own_at base m K F a b at.Ready x h = h.own
own_at base m K F a b at.Logged1 x h = h.own
own_at base m K F a b at.Logged2 x h = h.own
own_at base m K F a b at.Opened1 x h = (λ some. h.own, λ none. h.own ∙ (let f : F ≡ [] = nil_is F none in rw f (append-nil K)))

lines_at : (base : Queue) (m : MemberId) (K F : List Entry) (a b : CopyAt) (P : List Entry → Type 0) (s : At) (x : MemberAt) → IsAt s base m K F a b x → is_nil x.batch ≡ false → P (K ++ F) → (is_ready s ≡ true → P x.own) → P x.own
lines_at base m K F a b P at.Away x h some both own = absurd (let w = rw h at some in cc)
lines_at base m K F a b P at.Locked x h some both own = absurd (let w = rw h.0 at some in cc)
lines_at base m K F a b P at.Read1 x h some both own = absurd (let w = rw h.0 at some in cc)
lines_at base m K F a b P at.Read2 x h some both own = absurd (let w = rw h.batch at some in cc)
lines_at base m K F a b P at.Ready x h some both own = own refl
lines_at base m K F a b P at.Logged1 x h some both own = subst P (sym h.own) both
lines_at base m K F a b P at.Logged2 x h some both own = subst P (sym h.own) both
lines_at base m K F a b P at.Opened1 x h some both own = subst P (sym h.own) both

-- TOLD

unkept_each : (bs : List Batch) (n : MemberId) (k : ℕ) → has_unkept bs n k ≡ false → AllByRecursion (λ b. (is_unkept b.fate && list_any (is_of n k) b.entries) ≡ false) bs
unkept_each [] n k h = tt
unkept_each (b ∷ bs) n k h =
    let parts : ((is_unkept b.fate && list_any (is_of n k) b.entries) ≡ false) × (has_unkept bs n k ≡ false) = neither (is_unkept b.fate && list_any (is_of n k) b.entries) (has_unkept bs n k) h in
    (parts.0, unkept_each bs n k parts.1)

kept_fate : (f : Fate) (any : Bool) → any ≡ true → (is_unkept f && any) ≡ false → f ≡ fate.Kept
kept_fate fate.Kept any h k = refl
kept_fate fate.Dropped any h k = both_ways any h k
kept_fate fate.Flying any h k = both_ways any h k

any_contains : (test : Entry → Bool) (es : List Entry) (e : Entry) → Contains es e → test e ≡ true → list_any test es ≡ true
any_contains test es e there passes =
    test_cases (list_any test es) (list_any test es ≡ true) (λ t. t)
    (λ t. both_ways (test e) passes (All-contains (λ x. test x ≡ false) es e (any_none test es t) there))

copy_reads : (K F : List Entry) (c : CopyAt) → (c.reads ≡ K) ⊎ (c.reads ≡ K ++ F) → (c.reads ≡ K) ⊎ ((is_nil F ≡ false) × (c.reads ≡ K ++ F))
copy_reads K F c (inl e) = inl e
copy_reads K F c (inr e) =
    test_cases (is_nil F) ((c.reads ≡ K) ⊎ ((is_nil F ≡ false) × (c.reads ≡ K ++ F)))
    (λ none. inl (e ∙ (let f : F ≡ [] = nil_is F none in rw f (append-nil K))))
    (λ some. inr (some, e))

each_batch : (bs : List Batch) → AreBy bs → AllByRecursion (λ b. IsBatchOf b.by b.entries) bs
each_batch [] h = tt
each_batch (b ∷ bs) h = (h.0, each_batch bs h.1)

-- the entries of a kept batch are kept
kept_has : (bs : List Batch) → AllByRecursion (λ b. b.fate ≡ fate.Kept → (e : Entry) → Contains b.entries e → Contains (kept_in bs) e) bs
kept_has [] = tt
kept_has (b ∷ bs) = (
  λ k e there. Contains-append_left (entries_kept b.fate b.entries) (kept_in bs) e (subst (λ (f : Fate). Contains (entries_kept f b.entries) e) (sym k) there),
  all_weaker (λ (c : Batch). c.fate ≡ fate.Kept → (e : Entry) → Contains c.entries e → Contains (kept_in bs) e)
      (λ (c : Batch). c.fate ≡ fate.Kept → (e : Entry) → Contains c.entries e → Contains (entries_kept b.fate b.entries ++ kept_in bs) e)
      (λ c has k e there. Contains-append_right (entries_kept b.fate b.entries) (kept_in bs) e (has k e there)) bs (kept_has bs),
)

pub right : (w : World) → Holds w → IsRight w
right w holds =
    let h = holds.all in
    let K = kept w in
    let F = flying w in
    let a = first_copy w.copies in
    let b = second_copy w.copies in
    record {
      reads = (λ g. copy_reads K F a (h.copies.first.reads g), λ g. copy_reads K F b (h.copies.second.reads g));
      ahead = h.copies.ahead;
      unsure = (λ u. unsure a (h.gates.0 u), λ u. unsure b (h.gates.1 u));
      alone = λ m up other. away_is (member_at w m).stage
          (test_cases (is_away (member_at w m).stage) (is_away (member_at w m).stage ≡ true) (λ e. e)
          (λ e. both_ways (same_member w.holder m) (same w.holder.0 m.0 (h.alone m (up_acts w.members m up) e)) other));
      zero = λ some. away_is (member_at w nobody).stage
          (test_cases (is_away (member_at w nobody).stage) (is_away (member_at w nobody).stage ≡ true) (λ e. e)
          (λ e. both_ways (w.holder.0 == 0) (same w.holder.0 0 (h.alone nobody refl e)) (none (w.holder.0 == 0) some)));
      own = λ m act. own_at w.base m K F a b (member_at w m).stage (member_at w m) (h.stages m act);
      told = λ s x e in_told in_batches in_entries of_step. kept_fate x.fate (list_any (is_of s.by s.step) x.entries) (any_contains (is_of s.by s.step) x.entries e in_entries of_step)
          (All-contains (λ y. (is_unkept y.fate && list_any (is_of s.by s.step) y.entries) ≡ false) w.journal.batches x
          (All-from_recursion (λ y. (is_unkept y.fate && list_any (is_of s.by s.step) y.entries) ≡ false) w.journal.batches
          (unkept_each w.journal.batches s.by s.step (All-contains (IsTold w.journal.batches w.members) w.told s (All-from_recursion (IsTold w.journal.batches w.members) w.told h.tells) in_told).0)) in_batches);
      by = λ x e in_batches in_entries. same_member_is e.by x.by (All-contains (λ y. same_member y.by x.by ≡ true) x.entries e
          (All-from_recursion (λ y. same_member y.by x.by ≡ true) x.entries (batch x in_batches).by) in_entries);
      restart = λ x e in_batches in_entries. All-contains (λ y. is_restart y.command ≡ not (is_somebody x.by)) x.entries e
          (All-from_recursion (λ y. is_restart y.command ≡ not (is_somebody x.by)) x.entries (batch x in_batches).restart) in_entries;
      single = λ x in_batches. (batch x in_batches).single;
      synced = h.synced;
      lines_kept = h.paper.0;
      lines_both = h.paper.1.0;
      lines_own = λ m act some. lines_at w.base m K F a b (AreLinesInked w.base w.printed (printed_in w.members)) (member_at w m).stage (member_at w m) (h.stages m act) some h.paper.1.0 (λ ready. h.paper.1.1 m act ready);
      stages = h.stages;
    }
  where
    batch : (x : Batch) → Contains w.journal.batches x → IsBatchOf x.by x.entries
    batch x there = All-contains (λ y. IsBatchOf y.by y.entries) w.journal.batches x
        (All-from_recursion (λ y. IsBatchOf y.by y.entries) w.journal.batches (each_batch w.journal.batches holds.all.by_member)) there

    same : (x y : ℕ) → x ≡ y → (x == y) ≡ true
    same x y e = grind (arith, nat_tests)

    unsure : (c : CopyAt) → IsUnsure (kept w) (flying w) w.members c → (c.next ≡ Some (kept w ++ flying w)) × ((is_nil (flying w) ≡ false)
        × (((member_at w nobody).stage ≡ at.Away) × (is_up w w.holder ≡ true → (member_at w w.holder).stage ≡ at.Locked)))
    unsure c u = (
      u.next,
      (
        u.flying,
        (
          calm_zero w.base (kept w) (flying w) (first_copy w.copies) (second_copy w.copies) (member_at w nobody).stage (member_at w nobody) (u.calm nobody refl) (holds.all.stages nobody refl),
          λ up. calm_is (member_at w w.holder).stage (u.calm w.holder (up_acts w.members w.holder up)) (holds.all.at_work w.holder up refl),
        ),
      ),
    )

good_two : (copies : List CopyAt) → is_any_good copies ≡ true → is_any_good (first_copy copies ∷ (second_copy copies ∷ [])) ≡ true
good_two copies h = h

pub finds_right : (w : World) → Holds w → FindsRight w
finds_right w holds some =
    let f : IsFound (kept w) (flying w) (first_copy w.copies) (second_copy w.copies) (longest w.copies) = longest_found (kept w) (flying w) (first_copy w.copies) (second_copy w.copies) some holds.all.copies in
    record {
      entries = f.list;
      queue = queue f.list;
      told = λ s b e in_told in_batches in_entries of_step. with_kept e f.list
          (All-contains (λ (c : Batch). c.fate ≡ fate.Kept → (x : Entry) → Contains c.entries x → Contains (kept w) x) w.journal.batches b
          (All-from_recursion (λ (c : Batch). c.fate ≡ fate.Kept → (x : Entry) → Contains c.entries x → Contains (kept w) x) w.journal.batches (kept_has w.journal.batches)) in_batches
          ((right w holds).told s b e in_told in_batches in_entries of_step) e in_entries);
    }
  where
    queue : (longest w.copies ≡ kept w) ⊎ (longest w.copies ≡ kept w ++ flying w) → (run w.base (longest w.copies) ≡ run w.base (kept w)) ⊎ (run w.base (longest w.copies) ≡ run w.base (kept w ++ flying w))
    queue (inl e) = inl (ap (λ es. run w.base es) e)
    queue (inr e) = inr (ap (λ es. run w.base es) e)

    with_kept : (e : Entry) → (longest w.copies ≡ kept w) ⊎ (longest w.copies ≡ kept w ++ flying w) → Contains (kept w) e → Contains (longest w.copies) e
    with_kept e (inl same) there = subst (λ (es : List Entry). Contains es e) (sym same) there
    with_kept e (inr same) there = subst (λ (es : List Entry). Contains es e) (sym same) (Contains-append_left (kept w) (flying w) e there)

pub every_right : EveryRunIsRight
every_right base es sound fit =
    let h : Holds (runs (start base) es) = every_run base es sound fit in
    (right (runs (start base) es) h, finds_right (runs (start base) es) h)
