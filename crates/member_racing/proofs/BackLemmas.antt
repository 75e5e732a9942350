-- A value may be given back after whatever left to each other member what it had.
use Rattle.std.proofs.Common.{◌≡◌, ◌≢◌, ◌∙◌, ◌⊎◌, inl, inr, ℕ, zero, suc, ◌+◌, ◌≤◌, Bool, true, false, List, [], ◌++◌, refl, sym, ap, arith}
use Rattle.std.specs.Prelude.{if◌then◌else◌, not, map}
use Rattle.mas_types.specs.declared.ids.MemberId.{MemberId}
use Rattle.mas_types.specs.declared.ids.Page.{Page}
use Rattle.mas_types.specs.declared.ids.Dev.TheVariants.{Ckpt1, Ckpt2, Spool}
use Rattle.mas_types.specs.declared.journals.Entry.{Entry}
use Rattle.mas_types.specs.declared.queues.Queue.{Queue}
use Rattle.mas_types.specs.Limits.{volumes_most}
use Rattle.spool_plant.specs.Acts.{Goes}
use Rattle.gate_facts.specs.declared.desks.Desk.{Desk}
use Rattle.gate_facts.specs.Values.{marked_at, no_desk, stopped_of, SyncedGroups, Synced, LostOnce, Later}
use Rattle.gate_facts.specs.Memory.{EachOf, MayGiveBack}
use Rattle.gate_facts.proofs.Lists.{true_false}
use Rattle.gate_facts.proofs.Values.{synced_refl, once_again}
use Rattle.mas_complex.specs.CallCounts.{IsLostOnce}
use Rattle.mas_complex.specs.Journals.{in_flight, kept_all}
use Rattle.mas_complex.specs.Paper.{counts_of}
use Rattle.mas_complex.specs.Past.{noted_by}
use Rattle.mas_complex.specs.Parts.{Shown}
use Rattle.gate_turns.specs.Marked.{down_from, parts}
use Rattle.gate_turns.specs.Seats.{all_seats, shows_stopped}
use Rattle.gate_turns.specs.Shared.{begun_by, desk_in, facts_of, groups_of, hold_of, marks_of, said_of}
use Rattle.gate_turns.specs.Told.{told_by}
use Rattle.gate_turns.specs.Words.{lines_by}
use Rattle.gate_turns.proofs.Acted.{at_map}
use Rattle.gate_turns.proofs.Called.{lost_more}
use Rattle.gate_turns.proofs.Seats.{each_seat, seat_at}

-- Each other member has what it had: the entries that it began, its lines, its stop and its counts; and unless it is
-- stopped its part of the checkpoint, its groups and its note. What is kept more is this member's, or of stopped
-- ones. No count fell, and a copy was lost by a call once at most.
pub record LeavesOthers (by : MemberId) (told : Bool) (x y : Shown) : Type 0 where
  pub base : y.base ≡ x.base
  pub since : y.since ≡ x.since
  pub more : List Entry
  pub kept : kept_all y.batches ≡ kept_all x.batches ++ more
  pub theirs : EachOf (λ e. (e.by.0 ≡ by.0) ⊎ (stopped_of (facts_of told y) e.by.0 ≡ true)) more
  pub begun : (s : MemberId) → s.0 ≢ by.0 → begun_by s (y.batches ++ in_flight y.current) ≡ begun_by s (x.batches ++ in_flight x.current)
  pub still_stopped : (s : MemberId) → shows_stopped x.book s ≡ true → shows_stopped y.book s ≡ true
  pub still_up : (s : MemberId) → s.0 ≢ by.0 → shows_stopped x.book s ≡ false → shows_stopped y.book s ≡ false
  pub lines : (s : MemberId) → s.0 ≢ by.0 → lines_by x.base.config.members s.0 (said_of told y) ≡ lines_by x.base.config.members s.0 (said_of told x)
  pub hold : (s : MemberId) → s.0 ≢ by.0 → shows_stopped y.book s ≡ false → hold_of told y s ≡ hold_of told x s
  pub printed : (s : MemberId) → s.0 ≢ by.0 → counts_of y.printed s ≡ counts_of x.printed s
  pub groups : (s : MemberId) → s.0 ≢ by.0 → shows_stopped y.book s ≡ false → SyncedGroups (groups_of told y s) (groups_of told x s)
  pub noted : (s : MemberId) → s.0 ≢ by.0 → noted_by y.had s.0 ≡ noted_by x.had s.0
  pub goes : Goes x.view y.view
  pub alive1 : y.first_alive ≡ true → x.first_alive ≡ true
  pub alive2 : y.second_alive ≡ true → x.second_alive ≡ true
  pub once1 : IsLostOnce x.first_alive y.first_alive (x.view.loses Ckpt1) (y.view.loses Ckpt1)
  pub once2 : IsLostOnce x.second_alive y.second_alive (x.view.loses Ckpt2) (y.view.loses Ckpt2)
  pub volumes : (n : ℕ) → y.view.loses (Spool n) ≡ x.view.loses (Spool n)
  pub stops : (m : ℕ) → m ≢ by.0 → y.view.stops m ≡ x.view.stops m

abbrev Once : ℕ → ℕ → Bool → Bool → Type 0
Once after before lost was = (after ≡ before) ⊎ ((after ≡ before + 1) × (lost ≡ true) × (was ≡ false))

once_lost : (a a' : Bool) (before after : ℕ) → IsLostOnce a a' before after → Once after before (not a') (not a)
once_lost a a' before after (inl same) = inl same
once_lost a a' before after (inr more) = inr (more.2, ap not more.1, ap not more.0)

module _ (by : MemberId) (told : Bool) (x y : Shown) (cares : List Bool) (mine : marked_at cares by.0 ≡ true) (l : LeavesOthers by told x y) where
  not_own : (k : ℕ) → marked_at cares k ≡ false → k ≢ by.0
  not_own k e same = true_false (marked_at cares k) (ap (marked_at cares) same ∙ mine) e

  here : (k : ℕ) (s : MemberId) → s.0 ≡ 0 + k → s.0 ≡ k
  here k s at = omega (arith, at)

  other : (k : ℕ) (s : MemberId) → k ≢ by.0 → s.0 ≡ 0 + k → s.0 ≢ by.0
  other k s ne at same = ne (sym (here k s at) ∙ same)

  abbrev lines_in : Shown → MemberId → List (List ℕ)
  lines_in z m = lines_by z.base.config.members m.0 (said_of told z)

  lines_same : (s : MemberId) → s.0 ≢ by.0 → lines_in y s ≡ lines_in x s
  lines_same s ne = ap (λ (q : Queue). lines_by q.config.members s.0 (said_of told y)) l.base ∙ l.lines s ne

  once : (d : ℕ) → LostOnce (marks_of y) (marks_of x) d
  once zero = once_lost x.first_alive y.first_alive (x.view.loses Ckpt1) (y.view.loses Ckpt1) l.once1
  once (suc zero) = once_lost x.second_alive y.second_alive (x.view.loses Ckpt2) (y.view.loses Ckpt2) l.once2
  once (suc (suc d)) = inl (at_map (λ a b. a ≡ b) (λ n. y.view.loses (Spool n)) (λ n. x.view.loses (Spool n)) 0 refl l.volumes (down_from volumes_most) d)

  later : Later [] (marks_of y) (marks_of x)
  later = record {
    since = l.since;
    arms = λ i. map (λ (m : MemberId). l.goes.arms m.0 i) all_seats;
    own_stops = λ m e. true_false (marked_at [] m) e refl;
    stops = λ k. at_map (λ a b. b ≤ a) (λ (m : MemberId). y.view.stops m.0) (λ (m : MemberId). x.view.stops m.0) 0 (omega arith) (λ m. l.goes.stops m.0) all_seats k;
    faults = λ k. at_map (λ a b. b ≤ a) y.view.faults x.view.faults 0 (omega arith) l.goes.faults parts k;
    lost = lost_more x.first_alive y.first_alive x.second_alive y.second_alive l.alive1 l.alive2;
    own_loses = λ op d. true_false (marked_at [] 0) op refl;
    loses = λ d. once_again (marks_of y) (marks_of x) d (once d);
  }

  desk_same : (s : MemberId) → s.0 ≢ by.0 → shows_stopped y.book s ≡ false → Synced (desk_in told y s) (desk_in told x s)
  desk_same s ne up = record {
    hold = l.hold s ne up;
    printed = l.printed s ne;
    told = ap (told_by s) (lines_same s ne);
    groups = l.groups s ne up;
    noted = ap (λ (pages : List Page). if told then pages else []) (l.noted s ne);
  }

  pub leaves_may : MayGiveBack by.0 cares (facts_of told x) (facts_of told y)
  leaves_may = record {
    base = l.base;
    kept = (l.more, l.kept, l.theirs);
    still_stopped = λ k. each_seat (λ (p q : Bool). q ≡ true → p ≡ true) (shows_stopped y.book) (shows_stopped x.book) false (λ e. e) 0 9 k (λ s at lt. l.still_stopped s);
    still_up = λ k ne. each_seat (λ (p q : Bool). q ≡ false → p ≡ false) (shows_stopped y.book) (shows_stopped x.book) false (λ e. e) 0 9 k (λ s at lt. l.still_up s (other k s ne at));
    begun = λ k e. each_seat (λ p q. p ≡ q) (λ m. begun_by m (y.batches ++ in_flight y.current)) (λ m. begun_by m (x.batches ++ in_flight x.current)) [] refl 0 9 k (λ s at lt. l.begun s (other k s (not_own k e) at));
    lines = λ k e. each_seat (λ a b. a ≡ b) (lines_in y) (lines_in x) [] refl 0 9 k (λ s at lt. lines_same s (other k s (not_own k e) at));
    desks = λ k ne up. each_seat (λ (a b : Desk). Synced a b) (desk_in told y) (desk_in told x) no_desk (synced_refl no_desk) 0 9 k
        (λ s at lt. desk_same s (other k s ne at) (sym (seat_at (shows_stopped y.book) false 0 9 k s lt at) ∙ up));
    other_stops = λ k e. each_seat (λ a b. a ≡ b) (λ (m : MemberId). y.view.stops m.0) (λ (m : MemberId). x.view.stops m.0) 0 refl 0 9 k (λ s at lt. l.stops s.0 (other k s (not_own k e) at));
    other_loses = λ none d. once d;
    marks = later;
  }
