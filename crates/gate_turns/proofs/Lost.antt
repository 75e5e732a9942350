-- What the loss of a device leaves, and a stop that is armed.
use Rattle.std.proofs.Common.{◌≡◌, ◌≢◌, ◌⊎◌, inl, inr, ⊎_elim, ℕ, zero, suc, ◌+◌, ◌<◌, ◌≤◌, Bool, true, false, List, [], refl, sym, ap, subst, ◌∙◌, arith}
use Rattle.std.proofs.lemmas.Bool.{not-true as not_true_is}
use Rattle.std.proofs.lemmas.List.{append-nil}
use Rattle.std.specs.Prelude.{if◌then◌else◌, length, map, drop, Option}
use Rattle.std.specs.List.{list_any}
use mathlib.Core.Logic.{dite}
use native.Mathlib.Decide.{ℕ_discrete}
use Rattle.mas_types.specs.declared.ids.Dev.{Dev}
use Rattle.mas_types.specs.declared.ids.Dev.TheVariants.{Ckpt1, Ckpt2, Spool}
use Rattle.mas_types.specs.declared.ids.MemberId.{MemberId}
use Rattle.mas_types.specs.declared.queues.Owner.{Owner}
use Rattle.mas_types.specs.Limits.{volumes_most, page_bytes}
use Rattle.spool_plant.specs.declared.plant.Part.TheVariants.{Disk as DiskPart}
use Rattle.spool_plant.specs.View.{View, World, Line, Disk, Stretch, disk_now, slice}
use Rattle.spool_plant.specs.Acts.{Goes, Loses, next, top}
use Rattle.spool_volumes.specs.Volumes.{volume_of, start_of}
use Rattle.ckpt_copy.specs.Moments.{either_way}
use Rattle.gate_facts.specs.declared.desks.Desk.{Desk}
use Rattle.gate_facts.specs.declared.desks.Hold.{Hold}
use Rattle.gate_facts.specs.Values.{marked_at, number_at, no_desk, SyncedGroups, Synced, LostOnce, LostAgain, Later}
use Rattle.gate_facts.specs.Memory.{MayGiveBack}
use Rattle.gate_facts.proofs.Lists.{true_false}
use Rattle.gate_facts.proofs.Values.{synced_refl}
use Rattle.mas_complex.specs.Elsewhere.{Elsewhere}
use Rattle.mas_complex.specs.Journals.{kept_all, coming}
use Rattle.mas_complex.specs.Meaning.{run}
use Rattle.mas_complex.specs.Parts.{Shown}
use Rattle.gate_turns.specs.Seats.{all_seats, has_lock, shows_stopped}
use Rattle.gate_turns.specs.Words.{lines_by}
use Rattle.gate_turns.specs.Told.{told_by}
use Rattle.gate_turns.specs.Marked.{down_from, parts, devices}
use Rattle.gate_turns.specs.Desks.{Disks, if_at_level, if_good, one_of, kept_pages, no_hold, whole_hold, groups_from, meets, page_stretch, groups_on}
use Rattle.gate_turns.specs.Shared.{said_of, pages_had, hold_of, groups_of, desk_in, marks_of, facts_of}
use Rattle.gate_turns.specs.Laws.{with_view, HasBegun}
use Rattle.gate_turns.specs.Losses.{first_left, second_left, with_loss, counts_as_lost, KeepsVolume, IsLoss, PagesStay, LossesLeaveDesks, LossesLeaveHistory, LossesAgainMayGoBack, IsCopys, FirstLossesMayGoBack, LossesSpareHolders, ArmsLeaveAllElse}
use Rattle.gate_turns.proofs.Acted.{at_map, whole_texts}
use Rattle.gate_turns.proofs.Called.{lost_more, no_lock}
use Rattle.gate_turns.proofs.KeptSame.{same_groups}
use Rattle.gate_turns.proofs.Seats.{each_seat, seat_at}

-- LINES

-- nothing is said by it
said_lost : (dev : Dev) (x : Shown) (view : View) (z : Bool) → Goes x.view view → (z ≡ true → Elsewhere dev x.view view) → (z ≡ true → HasBegun x) → said_of z (with_loss dev x view) ≡ said_of z x
said_lost dev x view false goes apart before = refl
said_lost dev x view true goes apart before =
    ap (λ (w : World). whole_texts (drop (length w.console) (view.world view.now).console)) (goes.past x.since (before refl).0)
    ∙ ap (λ (ls : List Line). whole_texts (drop (length (x.view.world x.since).console) ls)) ((apart refl).console view.now goes.later (omega arith))

-- GROUPS

abbrev pub Calm : Disk → Disk → Type 0
Calm old new = (new.bytes ≡ old.bytes) × (new.unsynced ≡ old.unsynced)

pub calm_same : (old new : Disk) → new ≡ old → Calm old new
calm_same old new e = (ap (λ (d : Disk). d.bytes) e, ap (λ (d : Disk). d.unsynced) e)

volumes_calm : (dev : Dev) (old new : View) → Goes old new → Elsewhere dev old new → KeepsVolume dev old new → (n : ℕ) → Calm (disk_now old (Spool n)) (disk_now new (Spool n))
volumes_calm Ckpt1 old new goes apart keeps n = calm_same (disk_now old (Spool n)) (disk_now new (Spool n)) (apart.others new.now goes.later (omega arith) (Spool n) (λ e. absurd (cc)))
volumes_calm Ckpt2 old new goes apart keeps n = calm_same (disk_now old (Spool n)) (disk_now new (Spool n)) (apart.others new.now goes.later (omega arith) (Spool n) (λ e. absurd (cc)))
volumes_calm (Spool k) old new goes apart keeps n = dite (ℕ_discrete n k)
    (λ e. subst (λ (j : ℕ). Calm (disk_now old (Spool j)) (disk_now new (Spool j))) (sym e) (keeps.bytes, keeps.unsynced))
    (λ ne. calm_same (disk_now old (Spool n)) (disk_now new (Spool n)) (apart.others new.now goes.later (omega arith) (Spool n) (λ e. ne (cc e))))

pub groups_calm : (old new : Disks) (per : ℕ) (m : MemberId) (owners : List Owner) → ((n : ℕ) → Calm (old (Spool n)) (new (Spool n))) → groups_on new per m owners ≡ groups_on old per m owners
unfolding groups_on
groups_calm old new per m owners calm = λ i. map (λ g. record {
  number = g;
  bytes = record { 0 = slice (start_of per g) page_bytes ((calm (volume_of per g)).0 i) };
  unsynced = list_any (λ (r : Stretch). meets r (page_stretch per g)) ((calm (volume_of per g)).1 i);
}) (groups_from m 0 owners)

lost_groups : (dev : Dev) (x : Shown) (view : View) (z : Bool) (m : MemberId) → Goes x.view view → (z ≡ true → Elsewhere dev x.view view) → (z ≡ true → KeepsVolume dev x.view view)
    → SyncedGroups (groups_of z (with_loss dev x view) m) (groups_of z x m)
lost_groups dev x view false m goes apart keeps = tt
lost_groups dev x view true m goes apart keeps =
    same_groups (groups_of true (with_loss dev x view) m) (groups_of true x m)
    (groups_calm (disk_now x.view) (disk_now view) x.base.config.groups m (run x.base (kept_all x.batches)).owners (volumes_calm dev x.view view goes (apart refl) (keeps refl)))

-- DESKS

pub desk_lost : LossesLeaveDesks
desk_lost dev told x view m loss stays = record {
  hold = ⊎_elim
      (λ none. no_lock (has_lock x.book m) (whole_hold (pages_had told (with_loss dev x view)) (coming x.current x.reserved) x.first x.second) (whole_hold (pages_had told x) (coming x.current x.reserved) x.first x.second)
      (λ has. true_false (has_lock x.book m) has none))
      (λ same. ap (λ pages. if has_lock x.book m then whole_hold pages (coming x.current x.reserved) x.first x.second else no_hold) same)
      stays;
  printed = refl;
  told = ap (λ ls. told_by m (lines_by x.base.config.members m.0 ls)) (said_lost dev x view told loss.loses.goes loss.apart loss.begun);
  groups = lost_groups dev x view told m loss.loses.goes loss.apart loss.volume;
  noted = refl;
}

pub history_lost : LossesLeaveHistory
history_lost dev told x view loss = record {
  base = refl;
  kept = refl;
  begun = refl;
  stopped = refl;
  lines = λ i. map (λ (m : MemberId). lines_by x.base.config.members m.0 (said_lost dev x view told loss.loses.goes loss.apart loss.begun i)) all_seats;
}

-- PAGES

-- a copy that counts as lost isn't read
without_first : (reads : List ℕ → Option (List ℕ)) (reached : ℕ) (b : Bool) (d e : Disks) → (d Ckpt2).bytes ≡ (e Ckpt2).bytes → kept_pages reads reached false b d ≡ kept_pages reads reached false b e
unfolding kept_pages
without_first reads reached b d e two = λ i. one_of (if_good false (if_at_level reached (reads (d Ckpt1).bytes))) (if_good b (if_at_level reached (reads (two i))))

without_second : (reads : List ℕ → Option (List ℕ)) (reached : ℕ) (a : Bool) (d e : Disks) → (d Ckpt1).bytes ≡ (e Ckpt1).bytes → kept_pages reads reached a false d ≡ kept_pages reads reached a false e
unfolding kept_pages
without_second reads reached a d e one = λ i. one_of (if_good a (if_at_level reached (reads (one i)))) (if_good false (if_at_level reached (reads (d Ckpt2).bytes)))

dead_pages : (dev : Dev) (x : Shown) (view : View) (z : Bool) → Goes x.view view → (z ≡ true → Elsewhere dev x.view view) → counts_as_lost dev x ≡ true → PagesStay dev z x view
dead_pages dev x view false goes apart lost = refl
dead_pages Ckpt1 x view true goes apart lost =
    without_first x.reads x.level x.second_alive (disk_now view) (disk_now x.view) (ap (λ (d : Disk). d.bytes) ((apart refl).others view.now goes.later (omega arith) Ckpt2 (λ e. absurd (cc))))
    ∙ ap (λ b. kept_pages x.reads x.level b x.second_alive (disk_now x.view)) (sym (not_true_is x.first_alive lost))
dead_pages Ckpt2 x view true goes apart lost =
    without_second x.reads x.level x.first_alive (disk_now view) (disk_now x.view) (ap (λ (d : Disk). d.bytes) ((apart refl).others view.now goes.later (omega arith) Ckpt1 (λ e. absurd (cc))))
    ∙ ap (λ b. kept_pages x.reads x.level x.first_alive b (disk_now x.view)) (sym (not_true_is x.second_alive lost))
dead_pages (Spool n) x view true goes apart lost = true_false false lost refl

-- MARKS

left_first : (dev : Dev) (alive : Bool) → first_left dev alive ≡ true → alive ≡ true
left_first Ckpt1 alive e = true_false false e refl
left_first Ckpt2 alive e = e
left_first (Spool n) alive e = e

left_second : (dev : Dev) (alive : Bool) → second_left dev alive ≡ true → alive ≡ true
left_second Ckpt1 alive e = e
left_second Ckpt2 alive e = true_false false e refl
left_second (Spool n) alive e = e

grows : (before after : ℕ) → after ≡ next before → before ≤ top → (after ≡ before) ⊎ (after ≡ before + 1)
grows before after counted small = ⊎_elim (λ late. inl (omega (arith, counted, small, late))) (λ below. inr (omega (arith, counted, below))) (either_way top before)

no_less : (before after : ℕ) → (after ≡ before) ⊎ (after ≡ before + 1) → before ≤ after
no_less before after (inl same) = omega (arith, same)
no_less before after (inr more) = omega (arith, more)

module _ (x : Shown) (view : View) where
  -- a device that wasn't lost
  same_again : (dev : Dev) (d : ℕ) → number_at (map view.loses devices) d ≡ number_at (map x.view.loses devices) d → LostAgain (marks_of (with_loss dev x view)) (marks_of x) d
  same_again dev d e = ((omega (arith, e)), λ alive. e)

  volumes_counted : (dev : Dev) → IsCopys dev → Loses (DiskPart dev) x.view view → (d : ℕ) → number_at (map view.loses devices) (suc (suc d)) ≡ number_at (map x.view.loses devices) (suc (suc d))
  volumes_counted Ckpt1 copy loses d = at_map (λ a b. a ≡ b) (λ n. view.loses (Spool n)) (λ n. x.view.loses (Spool n)) 0 refl (λ n. loses.else_counted (Spool n) (λ e. absurd (cc))) (down_from volumes_most) d
  volumes_counted Ckpt2 copy loses d = at_map (λ a b. a ≡ b) (λ n. view.loses (Spool n)) (λ n. x.view.loses (Spool n)) 0 refl (λ n. loses.else_counted (Spool n) (λ e. absurd (cc))) (down_from volumes_most) d
  volumes_counted (Spool n) copy loses d = absurd copy

  again : (dev : Dev) → IsCopys dev → Loses (DiskPart dev) x.view view → (d : ℕ) → LostAgain (marks_of (with_loss dev x view)) (marks_of x) d
  again Ckpt1 copy loses zero = (no_less (x.view.loses Ckpt1) (view.loses Ckpt1) (grows (x.view.loses Ckpt1) (view.loses Ckpt1) (loses.counted Ckpt1 refl) (loses.small Ckpt1 refl)), λ alive. true_false true refl alive)
  again Ckpt1 copy loses (suc zero) = same_again Ckpt1 1 (loses.else_counted Ckpt2 (λ e. absurd (cc)))
  again Ckpt1 copy loses (suc (suc d)) = same_again Ckpt1 (suc (suc d)) (volumes_counted Ckpt1 copy loses d)
  again Ckpt2 copy loses zero = same_again Ckpt2 0 (loses.else_counted Ckpt1 (λ e. absurd (cc)))
  again Ckpt2 copy loses (suc zero) = (no_less (x.view.loses Ckpt2) (view.loses Ckpt2) (grows (x.view.loses Ckpt2) (view.loses Ckpt2) (loses.counted Ckpt2 refl) (loses.small Ckpt2 refl)), λ alive. true_false true refl alive)
  again Ckpt2 copy loses (suc (suc d)) = same_again Ckpt2 (suc (suc d)) (volumes_counted Ckpt2 copy loses d)
  again (Spool n) copy loses d = absurd copy

  once : (dev : Dev) → IsCopys dev → Loses (DiskPart dev) x.view view → counts_as_lost dev x ≡ false → (d : ℕ) → LostOnce (marks_of (with_loss dev x view)) (marks_of x) d
  once Ckpt1 copy loses alive zero = ⊎_elim inl (λ more. inr (more, refl, alive)) (grows (x.view.loses Ckpt1) (view.loses Ckpt1) (loses.counted Ckpt1 refl) (loses.small Ckpt1 refl))
  once Ckpt1 copy loses alive (suc zero) = inl (loses.else_counted Ckpt2 (λ e. absurd (cc)))
  once Ckpt1 copy loses alive (suc (suc d)) = inl (volumes_counted Ckpt1 copy loses d)
  once Ckpt2 copy loses alive zero = inl (loses.else_counted Ckpt1 (λ e. absurd (cc)))
  once Ckpt2 copy loses alive (suc zero) = ⊎_elim inl (λ more. inr (more, refl, alive)) (grows (x.view.loses Ckpt2) (view.loses Ckpt2) (loses.counted Ckpt2 refl) (loses.small Ckpt2 refl))
  once Ckpt2 copy loses alive (suc (suc d)) = inl (volumes_counted Ckpt2 copy loses d)
  once (Spool n) copy loses alive d = absurd copy

later_lost : (dev : Dev) (x : Shown) (view : View) → IsCopys dev → Loses (DiskPart dev) x.view view → Later [] (marks_of (with_loss dev x view)) (marks_of x)
later_lost dev x view copy loses = record {
  since = refl;
  arms = λ i. map (λ (m : MemberId). loses.arms m.0 i) all_seats;
  own_stops = λ m e. true_false (marked_at [] m) e refl;
  stops = λ k. at_map (λ a b. b ≤ a) (λ (m : MemberId). view.stops m.0) (λ (m : MemberId). x.view.stops m.0) 0 (omega arith) (λ m. let e = loses.stops m.0 in omega arith) all_seats k;
  faults = λ k. at_map (λ a b. b ≤ a) view.faults x.view.faults 0 (omega arith) (λ p. let e = loses.faults p in omega arith) parts k;
  lost = lost_more x.first_alive (first_left dev x.first_alive) x.second_alive (second_left dev x.second_alive) (left_first dev x.first_alive) (left_second dev x.second_alive);
  own_loses = λ op d. true_false (marked_at [] 0) op refl;
  loses = again x view dev copy loses;
}

-- GIVING BACK

lost_back : (dev : Dev) (told : Bool) (x : Shown) (view : View) (by : MemberId) (cares : List Bool) → IsLoss dev told x view → IsCopys dev
    → (marked_at cares 0 ≡ false → (d : ℕ) → LostOnce (marks_of (with_loss dev x view)) (marks_of x) d)
    → ((m : MemberId) → m.0 ≢ by.0 → shows_stopped x.book m ≡ false → (has_lock x.book m ≡ false) ⊎ PagesStay dev told x view)
    → MayGiveBack by.0 cares (facts_of told x) (facts_of told (with_loss dev x view))
lost_back dev told x view by cares loss copy few spared = record {
  base = refl;
  kept = ([], sym (append-nil (kept_all x.batches)), tt);
  still_stopped = λ k e. e;
  still_up = λ k ne e. e;
  begun = λ k e. refl;
  lines = λ k e. each_seat (λ a b. a ≡ b) (λ m. lines_by x.base.config.members m.0 (said_of told (with_loss dev x view))) (λ m. lines_by x.base.config.members m.0 (said_of told x)) [] refl 0 9 k
      (λ s at lt. ap (lines_by x.base.config.members s.0) (said_lost dev x view told loss.loses.goes loss.apart loss.begun));
  desks = λ k ne up. each_seat (λ (a b : Desk). Synced a b) (desk_in told (with_loss dev x view)) (desk_in told x) no_desk (synced_refl no_desk) 0 9 k
      (λ s at lt. desk_lost dev told x view s loss (spared s (other k s ne at) (sym (seat_at (shows_stopped x.book) false 0 9 k s lt at) ∙ up)));
  other_stops = λ k e. each_seat (λ a b. a ≡ b) (λ (m : MemberId). view.stops m.0) (λ (m : MemberId). x.view.stops m.0) 0 refl 0 9 k (λ s at lt. loss.loses.stops s.0);
  other_loses = few;
  marks = later_lost dev x view copy loss.loses;
} where
  other : (k : ℕ) (s : MemberId) → k ≢ by.0 → s.0 ≡ 0 + k → s.0 ≢ by.0
  other k s ne at same = ne (zero_on k ∙ (sym at ∙ same)) where
    zero_on : (n : ℕ) → n ≡ 0 + n
    zero_on n = omega arith

copy_of : (dev : Dev) (x : Shown) → counts_as_lost dev x ≡ true → IsCopys dev
copy_of Ckpt1 x e = tt
copy_of Ckpt2 x e = tt
copy_of (Spool n) x e = true_false false e refl

pub again_back : LossesAgainMayGoBack
again_back dev told x view by cares loss lost operator =
    lost_back dev told x view by cares loss (copy_of dev x lost) (λ none d. true_false (marked_at cares 0) operator none) (λ m ne up. inr (dead_pages dev x view told loss.loses.goes loss.apart lost))

pub first_back : FirstLossesMayGoBack
first_back dev told x view by cares loss copy alive spared = lost_back dev told x view by cares loss copy (λ none d. once x view dev copy loss.loses alive d) spared

-- HOLDERS

held_pages : (told : Bool) (x : Shown) (m : MemberId) → has_lock x.book m ≡ true → (hold_of told x m).pages ≡ pages_had told x
held_pages told x m has = ap (λ z. (if z then whole_hold (pages_had told x) (coming x.current x.reserved) x.first x.second else no_hold).pages) has

pub spare_holders : LossesSpareHolders
spare_holders dev told x view by m cares may ne few up has =
    let small : m.0 < 9 = omega (arith, few) in
    let front : m.0 ≡ 0 + m.0 = omega arith in
    let is_up = seat_at (shows_stopped x.book) false 0 9 m.0 m small front ∙ up in
    let hold = (may.desks m.0 ne is_up).hold in
    sym (held_pages told (with_loss dev x view) m has)
    ∙ (ap (λ (h : Hold). h.pages) (sym (ap (λ (d : Desk). d.hold) (seat_at (desk_in told (with_loss dev x view)) no_desk 0 9 m.0 m small front)) ∙ (hold ∙ ap (λ (d : Desk). d.hold) (seat_at (desk_in told x) no_desk 0 9 m.0 m small front)))
    ∙ held_pages told x m has)

-- ARMED STOPS

pub arms_leave : ArmsLeaveAllElse
arms_leave member told x view arms = (ap (λ (v : View). facts_of told (with_view x v)) arms.same, arms.else_counted)
