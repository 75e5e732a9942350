-- Acts of a plant in memory that lose their part.
use Rattle.std.proofs.lemmas.List.{append-nil}
use Rattle.std.proofs.Common.{◌≡◌, inl, inr, ⊎_elim, ℕ, ◌≤◌, ◌<◌, List, length, set, slice_index, refl, subst, sym, ◌∙◌, ap, arith, get_or-set_same, get_or-set_other}
use Rattle.mas_types.specs.declared.ids.Dev.{Dev}
use Rattle.mas_types.specs.declared.ids.MemberId.{MemberId}
use Rattle.spool_plant.specs.declared.plant.Part.{Part}
use Rattle.spool_plant.specs.declared.plant.Part.TheVariants.{Disk as DiskPart, Console, Printer, Wire}
use Rattle.spool_plant.specs.declared.plant.Act.TheVariants.{Failed}
use Rattle.spool_plant.specs.declared.plant.Took.TheVariants.{Failed as TookFailed}
use Rattle.spool_disk.specs.declared.health.Health.{Health}
use Rattle.spool_plant.specs.View.{View, given_now}
use Rattle.spool_plant.specs.Acts.{Acts, Loses, LosesThere, next, top, OnDevice, Renews, RenewsThere, Writes, Syncs, Reads, Says, Prints, GivesOn, Takes}
use Rattle.spool_disk.specs.Failing.{FailsAlone}
use Rattle.spool_disk.specs.Places.{slot_of, place_of}
use Rattle.spool_disk.specs.Health.{health_at, since_of, lost_after, failed_after}
use Rattle.spool_disk.specs.State.{State, view_of, counted, failed, lost}
use Rattle.spool_disk.proofs.Acting.{slot_apart, health_same, health_each, goes_idled, now_lost, else_same, fails_bytes, fails_others, fails_console, fails_paper, fails_wires, fails_lost}

module _ (acts : ℕ) (s : State) (part : Part) (small : s.now ≤ top) (short : length s.deeds ≤ s.now) (by_now : (k : ℕ) → since_of (health_at s.parts k).since ≤ s.now) (there : place_of part < length s.parts) where
  pub acts_failed : (by : ℕ) → (health_at s.parts (place_of part)).faults ≤ top → Acts by part (view_of s) (view_of (failed acts s part)) Failed
  acts_failed by fits =
      let new = failed_after (health_at s.parts (place_of part)) s.now in
      let set_is : (health_at (set s.parts (place_of part) new) (place_of part)).faults ≡ next (health_at s.parts (place_of part)).faults = ap (λ (g : Health). g.faults) (health_same s.parts (place_of part) new there (place_of part) refl) in
      record {
        time = refl;
        goes = goes_idled acts s (failed acts s part) part new small short by_now there refl refl refl refl refl refl refl
            (λ p. health_each s.parts (place_of part) new there (λ n g. (health_at s.parts n).faults ≤ g.faults) (omega (arith, fits)) (λ n. omega arith) (place_of p))
            (λ m. omega arith)
            refl;
        failed = λ f. omega (arith, set_is);
        is_lost = λ f. now_lost acts s (failed acts s part) part new small short by_now there refl refl refl refl refl refl refl;
        stays_lost = λ was f. absurd (cc);
        else_lost = λ p other. ap (λ (g : Health). g.lost) (else_same acts s (failed acts s part) part new small short by_now there refl refl refl refl refl refl refl p (λ same. ⊎_elim (λ ne. ne same) (λ f. f refl) other));
        else_faults = λ p other. ap (λ (g : Health). g.faults) (else_same acts s (failed acts s part) part new small short by_now there refl refl refl refl refl refl refl p (λ same. ⊎_elim (λ ne. ne same) (λ f. f refl) other));
        halted = λ f. absurd (cc);
        not_operator = λ f. absurd (cc);
        no_other_stop = λ m other. refl;
        at_halt = λ f. absurd (cc);
        else_halt = λ f. refl;
        last = λ at. refl;
        loses = λ d. refl;
        arms = λ m. refl;
      }

  pub fails_alone : FailsAlone part (view_of s) (view_of (failed acts s part))
  fails_alone =
      let new = failed_after (health_at s.parts (place_of part)) s.now in
      record {
        bytes = λ d. let same = fails_bytes acts s (failed acts s part) part new small short by_now there refl refl refl refl refl refl refl d in record { bytes = same.0; unsynced = same.1 };
        others = fails_others acts s (failed acts s part) part new small short by_now there refl refl refl refl refl refl refl;
        console = fails_console acts s (failed acts s part) part new small short by_now there refl refl refl refl refl refl refl;
        paper = fails_paper acts s (failed acts s part) part new small short by_now there refl refl refl refl refl refl refl;
        wires = fails_wires acts s (failed acts s part) part new small short by_now there refl refl refl refl refl refl refl;
        lost = fails_lost acts s (failed acts s part) part new small short by_now there refl refl refl refl refl refl refl;
      }

module _ (acts : ℕ) (s : State) (dev : Dev) (small : s.now ≤ top) (short : length s.deeds ≤ s.now) (by_now : (k : ℕ) → since_of (health_at s.parts k).since ≤ s.now) (there : place_of (DiskPart dev) < length s.parts) where
  pub loses : slot_of dev < length s.loses → slice_index s.loses (slot_of dev) ≤ top → Loses (DiskPart dev) (view_of s) (view_of (lost acts s dev))
  loses counted_there fits =
      let new = lost_after (health_at s.parts (place_of (DiskPart dev))) s.now in
      let faults : (p : Part) → (health_at (set s.parts (place_of (DiskPart dev)) new) (place_of p)).faults ≡ (health_at s.parts (place_of p)).faults =
      (λ p. health_each s.parts (place_of (DiskPart dev)) new there (λ n g. g.faults ≡ (health_at s.parts n).faults) refl (λ n. refl) (place_of p)) in
      record {
        time = refl;
        goes = goes_idled acts s (lost acts s dev) (DiskPart dev) new small short by_now there refl refl refl refl refl refl refl (λ p. omega (arith, faults p)) (λ m. omega arith) refl;
        is_lost = now_lost acts s (lost acts s dev) (DiskPart dev) new small short by_now there refl refl refl refl refl refl refl;
        else_lost = λ p ne. ap (λ (g : Health). g.lost) (else_same acts s (lost acts s dev) (DiskPart dev) new small short by_now there refl refl refl refl refl refl refl p ne);
        faults = faults;
        stops = λ m. refl;
        halt = refl;
        counted = λ d is. let at : slot_of d ≡ slot_of dev = ap slot_of (disk_part d dev is) in
            subst (λ (n : ℕ). slice_index (counted s.loses (slot_of dev)) n ≡ next (slice_index s.loses n)) (sym at) (get_or-set_same s.loses (slot_of dev) _ 0 counted_there);
        small = λ d is. subst (λ (n : ℕ). slice_index s.loses n ≤ top) (sym (ap slot_of (disk_part d dev is))) fits;
        arms = λ m. refl;
        else_counted = λ d ne. get_or-set_other s.loses (slot_of dev) (slot_of d) _ 0 (λ same. ne (ap DiskPart (slot_apart d dev same)));
      }
    where
      disk_part : (d e : Dev) → DiskPart d ≡ DiskPart e → d ≡ e
      disk_part d e same = cc

  pub loses_there : LosesThere dev (view_of s) (view_of (lost acts s dev))
  loses_there =
      let new = lost_after (health_at s.parts (place_of (DiskPart dev))) s.now in
      let same = fails_bytes acts s (lost acts s dev) (DiskPart dev) new small short by_now there refl refl refl refl refl refl refl dev in
      record {
        disk = record { bytes = same.0; unsynced = same.1 };
        lost = λ below. fails_lost acts s (lost acts s dev) (DiskPart dev) new small short by_now there refl refl refl refl refl refl refl below dev refl;
        only = record {
          others = λ d ne. fails_others acts s (lost acts s dev) (DiskPart dev) new small short by_now there refl refl refl refl refl refl refl d (λ is. ne (disk_part d dev is));
          console = fails_console acts s (lost acts s dev) (DiskPart dev) new small short by_now there refl refl refl refl refl refl refl;
          paper = fails_paper acts s (lost acts s dev) (DiskPart dev) new small short by_now there refl refl refl refl refl refl refl;
          wires = fails_wires acts s (lost acts s dev) (DiskPart dev) new small short by_now there refl refl refl refl refl refl refl;
        };
      }
    where
      disk_part : (d e : Dev) → DiskPart d ≡ DiskPart e → d ≡ e
      disk_part d e same = cc

-- what a fault is to each act
disk_part : (d e : Dev) → DiskPart d ≡ DiskPart e → d ≡ e
disk_part d e same = cc

fails_on : (dev : Dev) (old new : View) → FailsAlone (DiskPart dev) old new → OnDevice dev old new
fails_on dev old new fails = record { others = λ d ne. fails.others d (λ same. ne (disk_part d dev same)); console = fails.console; paper = fails.paper; wires = fails.wires }

pub fails_write : (dev : Dev) (at : ℕ) (bytes : List ℕ) (old new : View) → FailsAlone (DiskPart dev) old new → Writes dev at bytes old new Failed
fails_write dev at bytes old new fails = record { disk = inr (fails.bytes dev); lost = λ f below. fails.lost below dev refl; only = fails_on dev old new fails }

pub fails_sync : (dev : Dev) (old new : View) → FailsAlone (DiskPart dev) old new → Syncs dev old new Failed
fails_sync dev old new fails = record { disk = fails.bytes dev; lost = λ f below. fails.lost below dev refl; only = fails_on dev old new fails }

pub fails_renewal : (dev : Dev) (old new : View) → Acts 0 (DiskPart dev) old new Failed → Renews dev old new Failed
fails_renewal dev old new act = record {
  time = act.time;
  later = act.goes.later;
  past = act.goes.past;
  size = act.goes.size;
  faults = act.goes.faults;
  failed = act.failed;
  is_lost = act.is_lost;
  is_there = λ f. absurd (cc);
  else_lost = λ p ne. act.else_lost p (inl ne);
  else_faults = λ p ne. act.else_faults p (inl ne);
  no_halt = λ f. absurd (cc);
  stops = λ m. act.no_other_stop m (inr (λ f. absurd (cc)));
  halt = act.else_halt (λ f. absurd (cc));
  last = λ at. refl;
  loses = act.loses;
  arms = act.arms;
}

pub fails_renewal_there : (dev : Dev) (old new : View) → FailsAlone (DiskPart dev) old new → RenewsThere dev old new Failed
fails_renewal_there dev old new fails = record { disk = fails.bytes dev; lost = λ f below. fails.lost below dev refl; only = fails_on dev old new fails }

pub fails_read : (dev : Dev) (at : ℕ) (into : List ℕ) (old new : View) → FailsAlone (DiskPart dev) old new → Reads dev at old new into Failed
fails_read dev at into old new fails = record { disk = fails.bytes dev; lost = λ f below. fails.lost below dev refl; only = fails_on dev old new fails }

pub fails_say : (line : List ℕ) (old new : View) → FailsAlone Console old new → Says line old new Failed
fails_say line old new fails = record { console = fails.console; disks = λ d. fails.others d (λ same. absurd (cc)); paper = fails.paper; wires = fails.wires }

pub fails_print : (by : MemberId) (line : List ℕ) (old new : View) → FailsAlone (Printer by) old new → Prints by.0 line old new Failed
fails_print by line old new fails = record {
  paper = fails.paper by.0;
  others = λ m ne. fails.paper m;
  disks = λ d. fails.others d (λ same. absurd (cc));
  console = fails.console;
  wires = fails.wires;
}

pub fails_give : (wire member : ℕ) (bytes : List ℕ) (old new : View) → FailsAlone (Wire wire) old new → GivesOn wire member bytes old new Failed
fails_give wire member bytes old new fails = record {
  given = (0, fails.wires.given wire member ∙ sym (append-nil (given_now old wire member)));
  others = λ w m ne. fails.wires.given w m;
  taken = fails.wires.taken;
  waiting = fails.wires.waiting;
  disks = λ d. fails.others d (λ same. absurd (cc));
  console = fails.console;
  paper = fails.paper;
}

pub fails_take : (wire member : ℕ) (into : List ℕ) (old new : View) → FailsAlone (Wire wire) old new → Takes wire member old new into TookFailed
fails_take wire member into old new fails = record {
  took = (fails.wires.waiting wire, fails.wires.taken wire member);
  others = λ w m ne. fails.wires.taken w m;
  waiting = λ w ne. fails.wires.waiting w;
  given = fails.wires.given;
  disks = λ d. fails.others d (λ same. absurd (cc));
  console = fails.console;
  paper = fails.paper;
}
