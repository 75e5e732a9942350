-- What the replacement of a lost copy leaves.
use Rattle.std.proofs.Common.{◌≡◌, ◌≢◌, ℕ, ◌≤◌, Bool, true, false, List, refl, sym, ap, ◌∙◌, arith}
use Rattle.std.specs.Prelude.{length, map, drop}
use Rattle.mas_types.specs.declared.ids.Dev.{Dev}
use Rattle.mas_types.specs.declared.ids.Dev.TheVariants.{Ckpt1, Ckpt2, Spool}
use Rattle.mas_types.specs.declared.ids.MemberId.{MemberId}
use Rattle.spool_plant.specs.View.{View, World, Line, disk_now}
use Rattle.duplex_pair.specs.Halves.{IsCkpt}
use Rattle.gate_facts.specs.Values.{SyncedGroups, Synced}
use Rattle.ckpt_places.specs.declared.places.Place.{Place}
use Rattle.ckpt_places.specs.declared.places.Place.TheVariants.{Before}
use Rattle.mas_complex.specs.Elsewhere.{Elsewhere}
use Rattle.mas_complex.specs.Journals.{kept_all, coming}
use Rattle.mas_complex.specs.Meaning.{run}
use Rattle.mas_complex.specs.Parts.{Shown}
use Rattle.gate_turns.specs.Seats.{all_seats, has_lock}
use Rattle.gate_turns.specs.Words.{lines_by}
use Rattle.gate_turns.specs.Told.{told_by}
use Rattle.gate_turns.specs.Marked.{devices}
use Rattle.gate_turns.specs.Desks.{whole_hold}
use Rattle.gate_turns.specs.Shared.{said_of, pages_had, groups_of, desk_in, marks_of, facts_of}
use Rattle.gate_turns.specs.Losses.{LeavesHistory}
use Rattle.gate_turns.specs.Renewals.{IsRenewal, LeavesCounts, RenewalsLeaveDesks, RenewalsLeaveHistory, RenewalsLeaveCounts}
use Rattle.gate_turns.proofs.Acted.{whole_texts}
use Rattle.gate_turns.proofs.BookLemmas.{holder_is}
use Rattle.gate_turns.proofs.Called.{no_lock}
use Rattle.gate_turns.proofs.KeptSame.{same_groups}
use Rattle.gate_turns.proofs.Lost.{calm_same, groups_calm}

module _ (by : MemberId) (dev : Dev) (stopped told : Bool) (x : Shown) (view : View) (r : IsRenewal by dev stopped told x view) (a b : Bool) (p q : Place) where
  abbrev after : Shown
  after = record x { view = view; first_alive = a; second_alive = b; first = p; second = q }

  -- nothing is said by it
  said : (z : Bool) → told ≡ z → said_of z after ≡ said_of z x
  said false e = refl
  said true e =
      ap (λ (w : World). whole_texts (drop (length w.console) (view.world view.now).console)) (r.replaces.past x.since (r.begun e).0)
      ∙ ap (λ (ls : List Line). whole_texts (drop (length (x.view.world x.since).console) ls)) ((r.apart e).console view.now r.replaces.later (omega arith))

  no_volume : (d : Dev) → IsCkpt d → (n : ℕ) → Spool n ≢ d
  no_volume Ckpt1 copy n e = absurd (cc)
  no_volume Ckpt2 copy n e = absurd (cc)
  no_volume (Spool k) copy n e = absurd copy

  groups : (z : Bool) → told ≡ z → (m : MemberId) → SyncedGroups (groups_of z after m) (groups_of z x m)
  groups false e m = tt
  groups true e m =
      same_groups (groups_of true after m) (groups_of true x m)
      (groups_calm (disk_now x.view) (disk_now view) x.base.config.groups m (run x.base (kept_all x.batches)).owners
      (λ n. calm_same (disk_now x.view (Spool n)) (disk_now view (Spool n)) ((r.apart e).others view.now r.replaces.later (omega arith) (Spool n) (no_volume dev r.copy n))))

  leaves_desk : (m : MemberId) → m.0 ≢ by.0 → Synced (desk_in told after m) (desk_in told x m)
  leaves_desk m ne = record {
    hold = no_lock (has_lock x.book m) (whole_hold (pages_had told after) (coming x.current x.reserved) p q) (whole_hold (pages_had told x) (coming x.current x.reserved) x.first x.second)
        (λ has. ne (sym (holder_is x.book m has) ∙ ap (λ (k : MemberId). k.0) r.holds));
    printed = refl;
    told = ap (λ ls. told_by m (lines_by x.base.config.members m.0 ls)) (said told refl);
    groups = groups told refl m;
    noted = refl;
  }

  leaves_history : LeavesHistory (facts_of told x) (facts_of told after)
  leaves_history = record {
    base = refl;
    kept = refl;
    begun = refl;
    stopped = refl;
    lines = λ i. map (λ (m : MemberId). lines_by x.base.config.members m.0 (said told refl i)) all_seats;
  }

  leaves_counts : LeavesCounts (marks_of x) (marks_of after)
  leaves_counts = record {
    since = refl;
    loses = λ i. map (λ (d : Dev). r.replaces.loses d i) devices;
    arms = λ i. map (λ (m : MemberId). r.replaces.arms m.0 i) all_seats;
  }

pub renewals_desks : RenewalsLeaveDesks
renewals_desks by Ckpt1 stopped true told x view m r ne = leaves_desk by Ckpt1 stopped told x view r true x.second_alive Before x.second m ne
renewals_desks by Ckpt2 stopped true told x view m r ne = leaves_desk by Ckpt2 stopped told x view r x.first_alive true x.first Before m ne
renewals_desks by (Spool n) stopped true told x view m r ne = absurd r.copy
renewals_desks by dev stopped false told x view m r ne = leaves_desk by dev stopped told x view r x.first_alive x.second_alive x.first x.second m ne

pub renewals_history : RenewalsLeaveHistory
renewals_history by Ckpt1 stopped true told x view r = leaves_history by Ckpt1 stopped told x view r true x.second_alive Before x.second
renewals_history by Ckpt2 stopped true told x view r = leaves_history by Ckpt2 stopped told x view r x.first_alive true x.first Before
renewals_history by (Spool n) stopped true told x view r = absurd r.copy
renewals_history by dev stopped false told x view r = leaves_history by dev stopped told x view r x.first_alive x.second_alive x.first x.second

pub renewals_counts : RenewalsLeaveCounts
renewals_counts by Ckpt1 stopped true told x view r = leaves_counts by Ckpt1 stopped told x view r true x.second_alive Before x.second
renewals_counts by Ckpt2 stopped true told x view r = leaves_counts by Ckpt2 stopped told x view r x.first_alive true x.first Before
renewals_counts by (Spool n) stopped true told x view r = absurd r.copy
renewals_counts by dev stopped false told x view r = leaves_counts by dev stopped told x view r x.first_alive x.second_alive x.first x.second
