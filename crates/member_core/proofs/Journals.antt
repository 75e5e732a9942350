-- The entries of a journal whose batch in flight gets its fate, or begins.
use Rattle.std.proofs.Common.{◌≡◌, ℕ, Bool, true, false, not, ◌==◌, ◌&&◌, nat_le, List, [], ◌∷◌, ◌++◌, length, refl, sym, subst, append_assoc, append-nil}
use Rattle.std.proofs.lemmas.Bool.{or_from as none_of}
use Rattle.std.specs.List.{list_any, AllByRecursion}
use Rattle.mas_types.specs.declared.ids.MemberId.{MemberId}
use Rattle.mas_types.specs.declared.journals.Fate.{Fate}
use Rattle.mas_types.specs.declared.journals.Fate.TheVariants as fate
use Rattle.mas_types.specs.declared.journals.Entry.{Entry}
use Rattle.mas_types.specs.declared.journals.Batch.{Batch}
use Rattle.mas_types.specs.declared.queues.Queue.{Queue}
use Rattle.mas_types.specs.declared.commands.Command.{Command}
use Rattle.mas_types.specs.declared.commands.Command.TheVariants as command
use Rattle.mas_types.specs.Ids.{same_member, is_somebody}
use Rattle.mas_types.specs.Step.{may_give}
use Rattle.mas_types.specs.Journal.{is_flying}
use Rattle.member_core.specs.Worlds.{is_nil, entries_kept, entries_flying, kept_in, flying_in, fate_after, settled, is_of, is_unkept, has_unkept}
use Rattle.member_core.specs.Holds.{IsJournal, IsBatchOf, AreBy, AreGiven, is_restart}
use Rattle.member_core.specs.Events.{flying_batch}
use Rattle.member_core.proofs.Basics.{neither, both_ways, and_left, same_member_is}

module _ (f : Fate) (es : List Entry) (bs : List Batch) where
  kept_head : (is_flying f ≡ true → (bs ≡ []) × (is_nil es ≡ false)) → kept_in (settled fate.Kept bs) ≡ kept_in bs ++ flying_in bs
      → entries_kept (fate_after fate.Kept f) es ++ kept_in (settled fate.Kept bs) ≡ (entries_kept f es ++ kept_in bs) ++ (entries_flying f es ++ flying_in bs)
  kept_head = go f
    where
      go : (f : Fate) → (is_flying f ≡ true → (bs ≡ []) × (is_nil es ≡ false)) → kept_in (settled fate.Kept bs) ≡ kept_in bs ++ flying_in bs
          → entries_kept (fate_after fate.Kept f) es ++ kept_in (settled fate.Kept bs) ≡ (entries_kept f es ++ kept_in bs) ++ (entries_flying f es ++ flying_in bs)
      go fate.Kept last more = rw (more, append_assoc) refl
      go fate.Dropped last more = more
      go fate.Flying last more = rw (last refl).0 refl

pub kept_settled : (bs : List Batch) → IsJournal bs → kept_in (settled fate.Kept bs) ≡ kept_in bs ++ flying_in bs
kept_settled [] h = refl
kept_settled (b ∷ bs) h = kept_head b.fate b.entries bs h.0 (kept_settled bs h.1)

flying_head : (new : Fate) → is_flying new ≡ false → (f : Fate) (es : List Entry) → entries_flying (fate_after new f) es ≡ []
flying_head new over fate.Kept es = refl
flying_head new over fate.Dropped es = refl
flying_head fate.Kept over fate.Flying es = refl
flying_head fate.Dropped over fate.Flying es = refl
flying_head fate.Flying over fate.Flying es = absurd (cc)

pub flying_settled : (new : Fate) → is_flying new ≡ false → (bs : List Batch) → flying_in (settled new bs) ≡ []
flying_settled new over [] = refl
flying_settled new over (b ∷ bs) = rw (flying_head new over b.fate b.entries) (flying_settled new over bs)

dropped_head : (f : Fate) (es : List Entry) → entries_kept (fate_after fate.Dropped f) es ≡ entries_kept f es
dropped_head fate.Kept es = refl
dropped_head fate.Dropped es = refl
dropped_head fate.Flying es = refl

pub kept_dropped : (bs : List Batch) → kept_in (settled fate.Dropped bs) ≡ kept_in bs
kept_dropped [] = refl
kept_dropped (b ∷ bs) = rw (dropped_head b.fate b.entries, kept_dropped bs) refl

over_head : (new : Fate) → is_flying new ≡ false → (f : Fate) → is_flying (fate_after new f) ≡ false
over_head new over fate.Kept = refl
over_head new over fate.Dropped = refl
over_head new over fate.Flying = over

pub journal_settled : (new : Fate) → is_flying new ≡ false → (bs : List Batch) → IsJournal (settled new bs)
journal_settled new over [] = tt
journal_settled new over (b ∷ bs) = (λ f. both_ways (is_flying (fate_after new b.fate)) f (over_head new over b.fate), journal_settled new over bs)

pub by_settled : (new : Fate) (bs : List Batch) → AreBy bs → AreBy (settled new bs)
by_settled new [] h = tt
by_settled new (b ∷ bs) h = (h.0, by_settled new bs h.1)

unkept_head : (new f : Fate) (any : Bool) → (is_unkept f && any) ≡ false → (is_unkept (fate_after new f) && any) ≡ false
unkept_head new fate.Kept any h = refl
unkept_head new fate.Dropped any h = h
unkept_head fate.Kept fate.Flying any h = refl
unkept_head fate.Dropped fate.Flying any h = h
unkept_head fate.Flying fate.Flying any h = h

pub unkept_settled : (new : Fate) (bs : List Batch) (n : MemberId) (k : ℕ) → has_unkept bs n k ≡ false → has_unkept (settled new bs) n k ≡ false
unkept_settled new [] n k h = refl
unkept_settled new (b ∷ bs) n k h =
    let parts : ((is_unkept b.fate && list_any (is_of n k) b.entries) ≡ false) × (has_unkept bs n k ≡ false) = neither (is_unkept b.fate && list_any (is_of n k) b.entries) (has_unkept bs n k) h in
    none_of (is_unkept (fate_after new b.fate) && list_any (is_of n k) b.entries) (has_unkept (settled new bs) n k)
    (unkept_head new b.fate (list_any (is_of n k) b.entries) parts.0) (unkept_settled new bs n k parts.1)

-- A BATCH BEGINS

restart_by : (base : Queue) (m : MemberId) (c : Command) → may_give base m c ≡ true → is_restart c ≡ not (is_somebody m)
restart_by base m command.Restart may = rw may refl
restart_by base m _ may = rw (and_left (is_somebody m) (nat_le m.0 base.config.members) may) refl

-- what a member has ready is a batch of its own
pub batch_of : (base : Queue) (m : MemberId) (k : ℕ) (es : List Entry) → AllByRecursion (λ e. is_of m k e ≡ true) es → AreGiven base es → (is_somebody m ≡ false → length es ≡ 1)
    → IsBatchOf m es
batch_of base m k es mine given single = record { by = by es mine; restart = restart es mine given; single = single }
  where
    by : (es : List Entry) → AllByRecursion (λ e. is_of m k e ≡ true) es → AllByRecursion (λ e. same_member e.by m ≡ true) es
    by [] mine = tt
    by (e ∷ es) mine = (and_left (same_member e.by m) (e.step == k) mine.0, by es mine.1)

    restart : (es : List Entry) → AllByRecursion (λ e. is_of m k e ≡ true) es → AreGiven base es → AllByRecursion (λ e. is_restart e.command ≡ not (is_somebody m)) es
    restart [] mine given = tt
    restart (e ∷ es) mine given = (
      subst (λ (j : MemberId). is_restart e.command ≡ not (is_somebody j)) (same_member_is e.by m (and_left (same_member e.by m) (e.step == k) mine.0))
          (restart_by base e.by e.command given.0.by),
      restart es mine.1 given.1,
    )

module _ (m : MemberId) (es : List Entry) where
  abbrev new : List Batch
  new = flying_batch m es ∷ []

  pub kept_begun : (bs : List Batch) → kept_in (bs ++ new) ≡ kept_in bs
  kept_begun [] = refl
  kept_begun (b ∷ bs) = rw (kept_begun bs) refl

  pub flying_begun : (bs : List Batch) → flying_in (bs ++ new) ≡ flying_in bs ++ es
  flying_begun [] = append-nil es
  flying_begun (b ∷ bs) = rw (flying_begun bs) (sym (append_assoc (entries_flying b.fate b.entries) (flying_in bs) es))

  some_flies : (f : Fate) (xs rest : List Entry) → is_flying f ≡ true → is_nil xs ≡ false → entries_flying f xs ++ rest ≡ [] → ⊥
  some_flies fate.Kept xs rest flies some none = absurd (cc)
  some_flies fate.Dropped xs rest flies some none = absurd (cc)
  some_flies fate.Flying [] rest flies some none = absurd (cc)
  some_flies fate.Flying (x ∷ xs) rest flies some none = absurd (cc)

  rest_nil : (xs ys : List Entry) → xs ++ ys ≡ [] → ys ≡ []
  rest_nil [] ys h = h
  rest_nil (x ∷ xs) ys h = absurd (cc)

  pub journal_begun : (bs : List Batch) → is_nil es ≡ false → IsJournal bs → flying_in bs ≡ [] → IsJournal (bs ++ new)
  journal_begun [] some h none = (λ f. (refl, some), tt)
  journal_begun (b ∷ bs) some h none =
      (λ f. absurd (some_flies b.fate b.entries (flying_in bs) f (h.0 f).1 none), journal_begun bs some h.1 (rest_nil (entries_flying b.fate b.entries) (flying_in bs) none))

  pub by_begun : IsBatchOf m es → (bs : List Batch) → AreBy bs → AreBy (bs ++ new)
  by_begun mine [] h = (mine, tt)
  by_begun mine (b ∷ bs) h = (h.0, by_begun mine bs h.1)

  pub unkept_begun : (bs : List Batch) (n : MemberId) (k : ℕ) → list_any (is_of n k) es ≡ false → has_unkept bs n k ≡ false → has_unkept (bs ++ new) n k ≡ false
  unkept_begun [] n k none h = none_of (list_any (is_of n k) es) false none refl
  unkept_begun (b ∷ bs) n k none h =
      let parts : ((is_unkept b.fate && list_any (is_of n k) b.entries) ≡ false) × (has_unkept bs n k ≡ false) = neither (is_unkept b.fate && list_any (is_of n k) b.entries) (has_unkept bs n k) h in
      none_of (is_unkept b.fate && list_any (is_of n k) b.entries) (has_unkept (bs ++ new) n k) parts.0 (unkept_begun bs n k none parts.1)
