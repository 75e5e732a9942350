-- A value on whose copies the holder of the lock acted may be given back.
use Rattle.mas_types.specs.declared.ids.Page.{Page}
use Rattle.std.proofs.Common.{◌≡◌, ◌≢◌, ◌⊎◌, inl, inr, ℕ, zero, suc, ◌+◌, ◌≤◌, ◌==◌, Bool, true, false, List, [], ◌∷◌, ◌++◌, length, Option, Some, None, refl, sym, ap, subst, ◌∙◌, arith}
use Rattle.std.proofs.Math.Logic.{∥∥₁_elim}
use Rattle.std.proofs.lemmas.Bool.{ne_eqb}
use Rattle.std.proofs.lemmas.List.{append-nil}
use Rattle.std.proofs.lemmas.List.Elements.{All-head, All-tail}
use Rattle.std.specs.Prelude.{if◌then◌else◌, not, map, drop, All}
use Rattle.mas_types.specs.declared.ids.MemberId.{MemberId}
use Rattle.mas_types.specs.declared.ids.GroupNo.{GroupNo}
use Rattle.mas_types.specs.declared.ids.Dev.TheVariants.{Ckpt1, Ckpt2, Spool}
use Rattle.mas_types.specs.declared.journals.Batch.{Batch}
use Rattle.mas_types.specs.declared.journals.Entry.{Entry}
use Rattle.mas_types.specs.declared.journals.Fate.TheVariants.{Kept, Dropped}
use Rattle.mas_types.specs.declared.queues.Owner.{Owner}
use Rattle.mas_types.specs.Ids.{same_member}
use Rattle.mas_types.specs.Journal.{is_kept}
use Rattle.mas_types.specs.Limits.{volumes_most, page_bytes}
use Rattle.spool_plant.specs.View.{World, Disk, Line, disk_now, slice}
use Rattle.spool_plant.specs.Acts.{Goes}
use Rattle.spool_volumes.specs.Volumes.{volume_of, start_of}
use Rattle.gate_facts.specs.declared.desks.Desk.{Desk}
use Rattle.gate_facts.specs.declared.desks.Group.{Group}
use Rattle.gate_facts.specs.declared.desks.Hold.{Hold}
use Rattle.gate_facts.specs.Values.{marked_at, no_desk, stopped_of, SyncedGroups, Synced, LostOnce, Later}
use Rattle.gate_facts.specs.Memory.{EachOf, MayGiveBack}
use Rattle.gate_facts.proofs.Lists.{true_false}
use Rattle.gate_facts.proofs.Values.{synced_refl, once_again, later_refl}
use Rattle.mas_complex.specs.CallCounts.{IsLostOnce}
use Rattle.mas_complex.specs.Elsewhere.{OnCopies}
use Rattle.mas_complex.specs.Journals.{kept_all, in_flight, coming, fated, with_last, without_last, EndsInPlace, HasPlace}
use Rattle.mas_complex.specs.Locking.{IsOwn}
use Rattle.mas_complex.specs.Meaning.{run}
use Rattle.mas_complex.specs.Seen.{IsFatedBy}
use Rattle.mas_complex.proofs.Batches.{kept_all_append, with_last-append, without_last-append}
use Rattle.mas_complex.proofs.Counted.{counts_first, counts_second, counts_both, first_lost, second_lost}
use Rattle.mas_complex.specs.Parts.{Shown, batches_left}
use Rattle.gate_turns.specs.Seats.{all_seats, has_lock, shows_stopped}
use Rattle.gate_turns.specs.Words.{lines_by}
use Rattle.gate_turns.specs.Told.{told_by}
use Rattle.gate_turns.specs.Marked.{down_from, parts, lost_copies}
use Rattle.gate_turns.specs.Desks.{Disks, no_hold, whole_hold, groups_from, is_unsynced, page_stretch, groups_on}
use Rattle.gate_turns.specs.Shared.{begun_by, said_of, pages_had, groups_of, desk_in, marks_of, facts_of}
use Rattle.gate_turns.specs.Laws.{HasBegun, with_call, IsCall, LeavesGroups, CopyActsCount, PairActsCount, LossesCount, CallsMayGoBack, PutsMayGoBack, OpensMayGoBack, IsOfStopped, BatchLeavesGroups, RecoversMayGoBack, with_reserved, HasGrown, ReservesMayGoBack, GivesUpMayGoBack}
use Rattle.gate_turns.proofs.Acted.{at_map, whole_texts}
use Rattle.gate_turns.proofs.BookLemmas.{holder_is}
use Rattle.mas_complex.proofs.Basics.{entries_set}
use Rattle.gate_turns.proofs.KeptSame.{begun_append, kept_more, own_each, same_groups}
use Rattle.gate_turns.proofs.Seats.{each_seat, seat_at}

-- MARKS

pub lost_more : (a a' b b' : Bool) → (a' ≡ true → a ≡ true) → (b' ≡ true → b ≡ true) → (d : ℕ) → marked_at (lost_copies a b) d ≡ true → marked_at (lost_copies a' b') d ≡ true
lost_more a a' b b' f g zero e = gone a a' f e where
  gone : (p q : Bool) → (q ≡ true → p ≡ true) → not p ≡ true → not q ≡ true
  gone p false h was = refl
  gone p true h was = sym (ap not (h refl)) ∙ was
lost_more a a' b b' f g (suc zero) e = gone b b' g e where
  gone : (p q : Bool) → (q ≡ true → p ≡ true) → not p ≡ true → not q ≡ true
  gone p false h was = refl
  gone p true h was = sym (ap not (h refl)) ∙ was
lost_more a a' b b' f g (suc (suc d)) e = e

abbrev OnceMore : ℕ → ℕ → Bool → Bool → Type 0
OnceMore after before lost was = (after ≡ before) ⊎ ((after ≡ before + 1) × (lost ≡ true) × (was ≡ false))

once_lost : (a a' : Bool) (before after : ℕ) → IsLostOnce a a' before after → OnceMore after before (not a') (not a)
once_lost a a' before after (inl same) = inl same
once_lost a a' before after (inr more) = inr (more.2, ap not more.1, ap not more.0)

-- WHAT OTHERS HAVE

-- who doesn't have the lock has no part of the checkpoint
pub no_lock : (z : Bool) (one two : Hold) → (z ≡ true → ⊥) → (if z then one else no_hold) ≡ (if z then two else no_hold)
no_lock true one two f = absurd (f refl)
no_lock false one two f = refl

abbrev group_by : ℕ → Disk → GroupNo → Group
group_by per disk g = record { number = g; bytes = record { 0 = slice (start_of per g) page_bytes disk.bytes }; unsynced = is_unsynced disk (page_stretch per g) }

same_groups_on : (old new : Disks) (per : ℕ) (m : MemberId) (before after : List Owner) → ((n : ℕ) → new (Spool n) ≡ old (Spool n)) → groups_from m 0 after ≡ groups_from m 0 before
    → groups_on new per m after ≡ groups_on old per m before
unfolding groups_on
same_groups_on old new per m before after disks groups =
    ap (map (λ g. group_by per (new (Spool (volume_of per g))) g)) groups
    ∙ (λ i. map (λ g. group_by per (disks (volume_of per g) i) g) (groups_from m 0 before))

-- a call on the copies says nothing
pub said_called : (x c : Shown) (z : Bool) → Goes x.view c.view → (z ≡ true → OnCopies x.view c.view) → (z ≡ true → HasBegun x) → said_of z (with_call x c) ≡ said_of z x
said_called x c false goes apart before = refl
said_called x c true goes apart before =
    ap (λ (w : World). whole_texts (drop (length w.console) (c.view.world c.view.now).console)) (goes.past x.since (before refl).0)
    ∙ ap (λ (ls : List Line). whole_texts (drop (length (x.view.world x.since).console) ls)) (apart refl).console

-- A CALL

module _ (x c : Shown) (by : MemberId) (stopped told : Bool) (cares : List Bool) (call : IsCall by stopped told x c) (mine : marked_at cares by.0 ≡ true) where
  abbrev y : Shown
  y = with_call x c

  not_own : (k : ℕ) → marked_at cares k ≡ false → k ≢ by.0
  not_own k e same = true_false (marked_at cares k) (ap (marked_at cares) same ∙ mine) e

  other : (k : ℕ) (s : MemberId) → k ≢ by.0 → s.0 ≡ 0 + k → s.0 ≢ by.0
  other k s ne at same = ne (zero_on k ∙ (sym at ∙ same)) where
    zero_on : (n : ℕ) → n ≡ 0 + n
    zero_on n = omega arith

  lines_same : (s : MemberId) → lines_by x.base.config.members s.0 (said_of told y) ≡ lines_by x.base.config.members s.0 (said_of told x)
  lines_same s = ap (lines_by x.base.config.members s.0) (said_called x c told call.counts.goes call.apart call.begun)

  groups_same : (z : Bool) (s : MemberId) → (z ≡ true → OnCopies x.view c.view)
      → (z ≡ true → groups_from s 0 (run x.base (kept_all c.batches)).owners ≡ groups_from s 0 (run x.base (kept_all x.batches)).owners)
      → SyncedGroups (groups_of z y s) (groups_of z x s)
  groups_same false s apart same = tt
  groups_same true s apart same = same_groups (groups_of true y s) (groups_of true x s)
      (same_groups_on (disk_now x.view) (disk_now c.view) x.base.config.groups s (run x.base (kept_all x.batches)).owners (run x.base (kept_all c.batches)).owners
      (λ n. (apart refl).volumes c.view.now call.counts.goes.later (omega arith) (Spool n) (λ e. absurd (cc)) (λ e. absurd (cc))) (same refl))

  once : (d : ℕ) → LostOnce (marks_of y) (marks_of x) d
  once zero = once_lost x.first_alive c.first_alive (x.view.loses Ckpt1) (c.view.loses Ckpt1) call.counts.first.once
  once (suc zero) = once_lost x.second_alive c.second_alive (x.view.loses Ckpt2) (c.view.loses Ckpt2) call.counts.second.once
  once (suc (suc d)) = inl (at_map (λ a b. a ≡ b) (λ n. c.view.loses (Spool n)) (λ n. x.view.loses (Spool n)) 0 refl (λ n. call.counts.else_loses (Spool n) (λ e. absurd (cc)) (λ e. absurd (cc))) (down_from volumes_most) d)

  later : Later [] (marks_of y) (marks_of x)
  later = record {
    since = refl;
    arms = λ i. map (λ (m : MemberId). call.counts.arms m.0 i) all_seats;
    own_stops = λ m e. true_false (marked_at [] m) e refl;
    stops = λ k. at_map (λ a b. b ≤ a) (λ (m : MemberId). c.view.stops m.0) (λ (m : MemberId). x.view.stops m.0) 0 (omega arith) (λ m. call.counts.goes.stops m.0) all_seats k;
    faults = λ k. at_map (λ a b. b ≤ a) c.view.faults x.view.faults 0 (omega arith) call.counts.goes.faults parts k;
    lost = lost_more x.first_alive c.first_alive x.second_alive c.second_alive call.counts.first.alive call.counts.second.alive;
    own_loses = λ op d. true_false (marked_at [] 0) op refl;
    loses = λ d. once_again (marks_of y) (marks_of x) d (once d);
  }

  pub called : ((more : List Entry) × (kept_all c.batches ≡ kept_all x.batches ++ more) × EachOf (λ e. (e.by.0 ≡ by.0) ⊎ (stopped_of (facts_of told y) e.by.0 ≡ true)) more)
      → ((s : MemberId) → s.0 ≢ by.0 → begun_by s (c.batches ++ in_flight c.current) ≡ begun_by s (x.batches ++ in_flight x.current))
      → (told ≡ true → (s : MemberId) → s.0 ≢ by.0 → shows_stopped x.book s ≡ false → groups_from s 0 (run x.base (kept_all c.batches)).owners ≡ groups_from s 0 (run x.base (kept_all x.batches)).owners)
      → MayGiveBack by.0 cares (facts_of told x) (facts_of told y)
  called kept begun groups = record {
    base = refl;
    kept = kept;
    still_stopped = λ k e. e;
    still_up = λ k ne e. e;
    begun = λ k e. each_seat (λ p q. p ≡ q) (λ m. begun_by m (c.batches ++ in_flight c.current)) (λ m. begun_by m (x.batches ++ in_flight x.current)) [] refl 0 9 k (λ s at lt. begun s (other k s (not_own k e) at));
    lines = λ k e. each_seat (λ a b. a ≡ b) (λ m. lines_by x.base.config.members m.0 (said_of told y)) (λ m. lines_by x.base.config.members m.0 (said_of told x)) [] refl 0 9 k (λ s at lt. lines_same s);
    desks = λ k ne up. each_seat (λ (a b : Desk). Synced a b) (desk_in told y) (desk_in told x) no_desk (synced_refl no_desk) 0 9 k (λ s at lt. record {
      hold = no_lock (has_lock x.book s) (whole_hold (pages_had told y) (coming c.current c.reserved) c.first c.second) (whole_hold (pages_had told x) (coming x.current x.reserved) x.first x.second)
          (λ has. other k s ne at (sym (holder_is x.book s has) ∙ ap (λ (m : MemberId). m.0) call.holds));
      printed = call.printed s (other k s ne at);
      told = ap (told_by s) (lines_same s);
      groups = groups_same told s call.apart (λ is. groups is s (other k s ne at) (sym (seat_at (shows_stopped x.book) false 0 9 k s lt at) ∙ up));
      noted = ap (λ (pages : List Page). if told then pages else []) (call.noted s (other k s ne at));
    });
    other_stops = λ k e. each_seat (λ a b. a ≡ b) (λ (m : MemberId). c.view.stops m.0) (λ (m : MemberId). x.view.stops m.0) 0 refl 0 9 k (λ s at lt. call.counts.no_other_stop s.0 (inl (other k s (not_own k e) at)));
    other_loses = λ none d. once d;
    marks = later;
  }

  -- the journal as it was
  same_kept : c.batches ≡ x.batches → (more : List Entry) × (kept_all c.batches ≡ kept_all x.batches ++ more) × EachOf (λ e. (e.by.0 ≡ by.0) ⊎ (stopped_of (facts_of told y) e.by.0 ≡ true)) more
  same_kept same = ([], ap kept_all same ∙ sym (append-nil (kept_all x.batches)), tt)

  pub calls : c.batches ≡ x.batches → c.current ≡ x.current → MayGiveBack by.0 cares (facts_of told x) (facts_of told y)
  calls same flying = called (same_kept same) (λ s ne i. begun_by s (same i ++ in_flight (flying i))) (λ is s ne up i. groups_from s 0 (run x.base (kept_all (same i))).owners)

  pub puts : c.batches ≡ x.batches → IsOwn x.current by → IsOwn c.current by → MayGiveBack by.0 cares (facts_of told x) (facts_of told y)
  puts same own own' = called (same_kept same)
      (λ s ne. ap (λ bs. begun_by s (bs ++ in_flight c.current)) same ∙ (begun_append s x.batches (in_flight c.current)
      ∙ (ap (λ es. begun_by s x.batches ++ es) (none s ne c.current own' ∙ sym (none s ne x.current own)) ∙ sym (begun_append s x.batches (in_flight x.current)))))
      (λ is s ne up i. groups_from s 0 (run x.base (kept_all (same i))).owners)
    where
      none : (s : MemberId) → s.0 ≢ by.0 → (flying : Option Batch) → IsOwn flying by → begun_by s (in_flight flying) ≡ []
      none s ne None is = refl
      none s ne (Some b) is = ap (λ z. (if z then b.entries else []) ++ []) (ne_eqb b.by.0 s.0 (λ e. ne (sym e ∙ ap (λ (m : MemberId). m.0) is)))

pub copy_acts_count : CopyActsCount
copy_acts_count by stopped x y = (counts_first by stopped x y, counts_second by stopped x y)

pub pair_acts_count : PairActsCount
pair_acts_count = counts_both

pub losses_count : LossesCount
losses_count by x y = (first_lost by x y, second_lost by x y)

pub calls_may : CallsMayGoBack
calls_may x c by stopped told cares call mine same flying = calls x c by stopped told cares call mine same flying

pub puts_may : PutsMayGoBack
puts_may x c by stopped told cares call mine same own own' = puts x c by stopped told cares call mine same own own'

-- A BATCH THAT HAS ITS FATE

pub nothing : (z : Bool) (es : List Entry) → es ≡ [] → (if z then es else []) ≡ []
nothing true es e = e
nothing false es e = refl

-- a batch in the last place of a journal
module _ (b : Batch) (js : List Batch) (ends : ∥ EndsInPlace js ∥₁) where
  pub begun_placed : (m : MemberId) → begun_by m (with_last b js) ≡ begun_by m js ++ begun_by m (b ∷ [])
  begun_placed m = ∥∥₁_elim ends (entries_set (begun_by m (with_last b js)) (begun_by m js ++ begun_by m (b ∷ []))) (λ p.
      ap (λ l. begun_by m (with_last b l)) p.is
      ∙ (ap (begun_by m) (with_last-append b p.before p.place)
      ∙ (begun_append m p.before (b ∷ [])
      ∙ ap (λ es. es ++ begun_by m (b ∷ [])) (sym (ap (begun_by m) p.is ∙ (begun_append m p.before (p.place ∷ [])
      ∙ (ap (λ es. begun_by m p.before ++ (es ++ [])) (nothing (same_member p.place.by m) p.place.entries p.free.empty) ∙ append-nil (begun_by m p.before))))))))

  kept_without : b.fate ≡ Dropped → kept_all (with_last b js) ≡ kept_all js
  kept_without dropped = ∥∥₁_elim ends (entries_set (kept_all (with_last b js)) (kept_all js)) (λ p.
      ap (λ l. kept_all (with_last b l)) p.is
      ∙ (ap kept_all (with_last-append b p.before p.place)
      ∙ (kept_all_append p.before (b ∷ [])
      ∙ (ap (λ f. kept_all p.before ++ ((if is_kept f then b.entries else []) ++ [])) dropped
      ∙ sym (ap kept_all p.is ∙ (kept_all_append p.before (p.place ∷ []) ∙ ap (λ f. kept_all p.before ++ ((if is_kept f then p.place.entries else []) ++ [])) p.free.dropped))))))

-- the entries that each member began are the same
pub begun_ended : (x c : Shown) (b placed : Batch) → x.current ≡ Some b → c.current ≡ None → ∥ EndsInPlace x.batches ∥₁ → c.batches ≡ with_last placed x.batches
    → (s : MemberId) → begun_by s (placed ∷ []) ≡ begun_by s (b ∷ []) → begun_by s (c.batches ++ in_flight c.current) ≡ begun_by s (x.batches ++ in_flight x.current)
begun_ended x c b placed flying ended ends is s same =
    (λ i. begun_by s (is i ++ in_flight (ended i)))
    ∙ (ap (begun_by s) (append-nil (with_last placed x.batches))
    ∙ (begun_placed placed x.batches ends s
    ∙ (ap (λ es. begun_by s x.batches ++ es) same
    ∙ (sym (begun_append s x.batches (b ∷ [])) ∙ sym (ap (λ now. begun_by s (x.batches ++ in_flight now)) flying)))))

pub opens_may : OpensMayGoBack
opens_may x c by stopped told cares now b call mine flying own ends is ended leaves =
    let more : kept_all c.batches ≡ kept_all x.batches ++ b.entries = ap kept_all is ∙ kept_more (fated Kept now b) refl x.batches ends in
    called x c by stopped told cares call mine
    (b.entries, more, own_each by (λ (e : Entry). stopped_of (facts_of told (with_call x c)) e.by.0 ≡ true) b.entries own)
    (λ s ne. begun_ended x c b (fated Kept now b) flying ended ends is s refl)
    (λ told_is s ne up. ap (λ es. groups_from s 0 (run x.base es).owners) more ∙ leaves told_is s ne up)

stopped_each : (k : MemberId) (P : Entry → Type 0) → ((e : Entry) → e.by ≡ k → P e) → (es : List Entry) → All (λ e. e.by ≡ k) es → EachOf P es
stopped_each k P f [] all = tt
stopped_each k P f (e ∷ es) all = (f e (All-head (λ (d : Entry). d.by ≡ k) e es all), stopped_each k P f es (All-tail (λ (d : Entry). d.by ≡ k) e es all))

pub recovers_may : RecoversMayGoBack
recovers_may x c by stopped told cares now found call mine of_stopped fate ended leaves = by_batch x.current refl where
  by_batch : (flying : Option Batch) → x.current ≡ flying → MayGiveBack by.0 cares (facts_of told x) (facts_of told (with_call x c))
  by_batch None none = calls x c by stopped told cares call mine (subst (λ (f : Option Batch). IsFatedBy found x.level now f x.batches c.batches) none fate) (ended ∙ sym none)
  by_batch (Some b) flying =
      let of : IsOfStopped x (Some b) = subst (λ (f : Option Batch). IsOfStopped x f) flying of_stopped in
      by_fate b flying of (λ is. subst (λ (f : Option Batch). BatchLeavesGroups by x f) flying (leaves is)) (found == x.level) (subst (λ (f : Option Batch). IsFatedBy found x.level now f x.batches c.batches) flying fate)
    where
      by_fate : (b : Batch) → x.current ≡ Some b → IsOfStopped x (Some b) → (told ≡ true → LeavesGroups by x b.entries) → (z : Bool) → c.batches ≡ with_last (fated (if z then Dropped else Kept) now b) x.batches
          → MayGiveBack by.0 cares (facts_of told x) (facts_of told (with_call x c))
      by_fate b flying of leaves true is =
          let same : kept_all c.batches ≡ kept_all x.batches = ap kept_all is ∙ kept_without (fated Dropped now b) x.batches of.3 refl in
          called x c by stopped told cares call mine ([], same ∙ sym (append-nil (kept_all x.batches)), tt)
          (λ s ne. begun_ended x c b (fated Dropped now b) flying ended of.3 is s refl)
          (λ told_is s ne up. ap (λ es. groups_from s 0 (run x.base es).owners) same)
      by_fate b flying of leaves false is =
          let more : kept_all c.batches ≡ kept_all x.batches ++ b.entries = ap kept_all is ∙ kept_more (fated Kept now b) refl x.batches of.3 in
          let gone : stopped_of (facts_of told (with_call x c)) b.by.0 ≡ true = seat_at (shows_stopped x.book) false 0 9 b.by.0 b.by (omega (arith, of.1)) (omega arith) ∙ of.0 in
          called x c by stopped told cares call mine
          (b.entries, more, stopped_each b.by (λ (e : Entry). (e.by.0 ≡ by.0) ⊎ (stopped_of (facts_of told (with_call x c)) e.by.0 ≡ true)) (λ e same. inr (ap (λ (m : MemberId). stopped_of (facts_of told (with_call x c)) m.0) same ∙ gone)) b.entries of.2)
          (λ s ne. begun_ended x c b (fated Kept now b) flying ended of.3 is s refl)
          (λ told_is s ne up. ap (λ es. groups_from s 0 (run x.base es).owners) more ∙ leaves told_is s ne up)

-- A RESERVED BATCH

-- a journal that gained the place of a batch to come
pub grown_kept : (was is : List Batch) → HasGrown was is → kept_all is ≡ kept_all was
grown_kept was is (inl same) = ap kept_all same
grown_kept was is (inr more) = ap kept_all more.1 ∙ (kept_all_append was (more.0 ∷ [])
    ∙ (ap (λ f. kept_all was ++ ((if is_kept f then more.0.entries else []) ++ [])) more.2.dropped ∙ append-nil (kept_all was)))

pub grown_begun : (was is : List Batch) (s : MemberId) → HasGrown was is → begun_by s is ≡ begun_by s was
grown_begun was is s (inl same) = ap (begun_by s) same
grown_begun was is s (inr more) = ap (begun_by s) more.1 ∙ (begun_append s was (more.0 ∷ [])
    ∙ (ap (λ es. begun_by s was ++ (es ++ [])) (nothing (same_member more.0.by s) more.0.entries more.2.empty) ∙ append-nil (begun_by s was)))

-- what is reserved changes, and the journal by the place of a batch to come
reserved_back : (x : Shown) (by : MemberId) (batches : List Batch) (reserved : Option (List Entry)) (told : Bool) (cares : List Bool) → x.book.holder ≡ by
    → kept_all batches ≡ kept_all x.batches → ((s : MemberId) → begun_by s (batches ++ in_flight x.current) ≡ begun_by s (x.batches ++ in_flight x.current))
    → MayGiveBack by.0 cares (facts_of told x) (facts_of told (with_reserved x batches reserved))
reserved_back x by batches reserved told cares holds kept begun = record {
  base = refl;
  kept = ([], kept ∙ sym (append-nil (kept_all x.batches)), tt);
  still_stopped = λ k e. e;
  still_up = λ k ne e. e;
  begun = λ k e. each_seat (λ p q. p ≡ q) (λ m. begun_by m (batches ++ in_flight x.current)) (λ m. begun_by m (x.batches ++ in_flight x.current)) [] refl 0 9 k (λ s at lt. begun s);
  lines = λ k e. refl;
  desks = λ k ne up. each_seat (λ (a b : Desk). Synced a b) (desk_in told (with_reserved x batches reserved)) (desk_in told x) no_desk (synced_refl no_desk) 0 9 k (λ s at lt. record {
    hold = no_lock (has_lock x.book s) (whole_hold (pages_had told x) (coming x.current reserved) x.first x.second) (whole_hold (pages_had told x) (coming x.current x.reserved) x.first x.second)
        (λ has. other k s ne at (sym (holder_is x.book s has) ∙ ap (λ (m : MemberId). m.0) holds));
    printed = refl;
    told = refl;
    groups = groups_same told s;
    noted = refl;
  });
  other_stops = λ k e. refl;
  other_loses = λ none d. inl refl;
  marks = later_refl [] (marks_of x);
} where
  other : (k : ℕ) (s : MemberId) → k ≢ by.0 → s.0 ≡ 0 + k → s.0 ≢ by.0
  other k s ne at same = ne (zero_on k ∙ (sym at ∙ same)) where
    zero_on : (n : ℕ) → n ≡ 0 + n
    zero_on n = omega arith

  groups_same : (z : Bool) (s : MemberId) → SyncedGroups (groups_of z (with_reserved x batches reserved) s) (groups_of z x s)
  groups_same false s = tt
  groups_same true s = same_groups (groups_of true (with_reserved x batches reserved) s) (groups_of true x s) (ap (λ es. groups_on (disk_now x.view) x.base.config.groups s (run x.base es).owners) kept)

pub reserved_begun : (x : Shown) (batches : List Batch) (s : MemberId) → HasGrown x.batches batches → begun_by s (batches ++ in_flight x.current) ≡ begun_by s (x.batches ++ in_flight x.current)
reserved_begun x batches s grown =
    begun_append s batches (in_flight x.current) ∙ (ap (λ es. es ++ begun_by s (in_flight x.current)) (grown_begun x.batches batches s grown) ∙ sym (begun_append s x.batches (in_flight x.current)))

pub reserves_may : ReservesMayGoBack
reserves_may x by batches reserved told cares holds grown = reserved_back x by batches reserved told cares holds (grown_kept x.batches batches grown) (λ s. reserved_begun x batches s grown)

-- GIVING UP WHAT IS RESERVED

left_kept : (placed : Bool) (current : Option Batch) (js : List Batch) → ∥ HasPlace placed js ∥₁ → kept_all (batches_left placed current js) ≡ kept_all js
left_kept placed (Some b) js has = refl
left_kept false None js has = refl
left_kept true None js has = ∥∥₁_elim has (entries_set (kept_all (without_last js)) (kept_all js)) (λ p.
    ap (λ l. kept_all (without_last l)) p.is ∙ (ap kept_all (without_last-append p.before p.place)
    ∙ sym (grown_kept p.before js (inr (p.place, p.is, p.free)))))

left_begun : (placed : Bool) (current : Option Batch) (js : List Batch) (s : MemberId) → ∥ HasPlace placed js ∥₁ → begun_by s (batches_left placed current js) ≡ begun_by s js
left_begun placed (Some b) js s has = refl
left_begun false None js s has = refl
left_begun true None js s has = ∥∥₁_elim has (entries_set (begun_by s (without_last js)) (begun_by s js)) (λ p.
    ap (λ l. begun_by s (without_last l)) p.is ∙ (ap (begun_by s) (without_last-append p.before p.place)
    ∙ sym (grown_begun p.before js s (inr (p.place, p.is, p.free)))))

pub given_up_begun : (x : Shown) (placed : Bool) (s : MemberId) → ∥ HasPlace placed x.batches ∥₁ → begun_by s (batches_left placed x.current x.batches ++ in_flight x.current) ≡ begun_by s (x.batches ++ in_flight x.current)
given_up_begun x placed s has =
    begun_append s (batches_left placed x.current x.batches) (in_flight x.current) ∙ (ap (λ es. es ++ begun_by s (in_flight x.current)) (left_begun placed x.current x.batches s has)
    ∙ sym (begun_append s x.batches (in_flight x.current)))

pub gives_up_may : GivesUpMayGoBack
gives_up_may x by placed told cares holds has = reserved_back x by (batches_left placed x.current x.batches) None told cares holds (left_kept placed x.current x.batches has) (λ s. given_up_begun x placed s has)
