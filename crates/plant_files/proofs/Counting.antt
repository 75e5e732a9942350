-- What acts and calls count.
use Rattle.std.proofs.Common.{◌≡◌, ⊎_elim, ℕ, zero, suc, ◌≤◌, ◌<◌, Bool, true, false, List, [], ◌∷◌, length, set, slice_index, map, refl, sym, subst, ap, arith, get_or-set_same, get_or-set_other}
use Rattle.mas_types.specs.declared.ids.Dev.{Dev}
use Rattle.spool_disk.specs.declared.health.Health.{Health}
use Rattle.spool_plant.specs.declared.plant.Part.{Part}
use Rattle.spool_plant.specs.declared.plant.Part.TheVariants.{Disk}
use Rattle.spool_plant.specs.declared.plant.Act.TheVariants.{Done, Failed}
use Rattle.spool_plant.specs.Acts.{Acts, Arms, Loses, next, top, Renews}
use Rattle.spool_disk.specs.Health.{health_at, failed_after, lost_after, renewed_after}
use Rattle.spool_disk.specs.Places.{slot_of, place_of}
use Rattle.spool_disk.proofs.Acting.{slot_apart, place_same, health_same, health_other, health_each}
use Rattle.plant_files.specs.Lost.{lost_part}
use Rattle.plant_files.specs.FileView.{Shown, view_of, done_by, failed_by, lost_by, renewed_by, armed_by, counted}

disk_part : (d e : Dev) → Disk d ≡ Disk e → d ≡ e
disk_part d e same = cc

pub done_acts : (s : Shown) (by : ℕ) (part : Part) → s.now < top → (view_of s).lost part ≡ false → Acts by part (view_of s) (view_of (done_by s)) Done
done_acts s by part below whole = record {
  time = omega (arith, below);
  goes = record { later = omega arith; past = λ t le. refl; size = λ d. refl; faults = λ p. omega arith; stops = λ m. omega arith; lost = λ p is. is; arms = λ m. refl };
  failed = λ f. absurd (cc);
  is_lost = λ f. absurd (cc);
  stays_lost = λ was f. absurd (cc);
  else_lost = λ p other. refl;
  else_faults = λ p other. refl;
  halted = λ f. absurd (cc);
  not_operator = λ f. absurd (cc);
  no_other_stop = λ m other. refl;
  at_halt = λ f. absurd (cc);
  else_halt = λ f. refl;
  last = λ at. absurd (omega (arith, at, below));
  loses = λ d. refl;
  arms = λ m. refl;
}

module _ (s : Shown) (part : Part) (there : place_of part < length s.parts) (small : s.now ≤ top) where
  pub failed_acts : (by : ℕ) → (health_at s.parts (place_of part)).faults ≤ top → Acts by part (view_of s) (view_of (failed_by part s)) Failed
  failed_acts by fits =
      let new = failed_after (health_at s.parts (place_of part)) s.now in
      let here : health_at (set s.parts (place_of part) new) (place_of part) ≡ new = health_same s.parts (place_of part) new there (place_of part) refl in
      record {
        time = refl;
        goes = record {
          later = omega (arith, small);
          past = λ t le. refl;
          size = λ d. refl;
          faults = λ p. health_each s.parts (place_of part) new there (λ n g. (health_at s.parts n).faults ≤ g.faults) (omega (arith, fits)) (λ n. omega arith) (place_of p);
          stops = λ m. omega arith;
          lost = λ p is. health_each s.parts (place_of part) new there (λ n g. (health_at s.parts n).lost ≡ true → g.lost ≡ true) (λ was. refl) (λ n was. was) (place_of p) is;
          arms = λ m. refl;
        };
        failed = λ f. omega (arith, ap (λ (g : Health). g.faults) here);
        is_lost = λ f. ap (λ (g : Health). g.lost) here;
        stays_lost = λ was f. absurd (cc);
        else_lost = λ p other. ap (λ (g : Health). g.lost) (health_other s.parts (place_of part) new there (place_of p) (λ same. ⊎_elim (λ ne. ne (place_same p part same)) (λ f. f refl) other));
        else_faults = λ p other. ap (λ (g : Health). g.faults) (health_other s.parts (place_of part) new there (place_of p) (λ same. ⊎_elim (λ ne. ne (place_same p part same)) (λ f. f refl) other));
        halted = λ f. absurd (cc);
        not_operator = λ f. absurd (cc);
        no_other_stop = λ m other. refl;
        at_halt = λ f. absurd (cc);
        else_halt = λ f. refl;
        last = λ at. refl;
        loses = λ d. refl;
        arms = λ m. refl;
      }

pub lost_loses : (s : Shown) (dev : Dev) → place_of (Disk dev) < length s.parts → slot_of dev < length s.loses → slice_index s.loses (slot_of dev) ≤ top → s.now ≤ top → Loses (Disk dev) (view_of s) (view_of (lost_by dev s))
lost_loses s dev there counted_there fits small =
    let place = place_of (Disk dev) in
    let new = lost_after (health_at s.parts place) s.now in
    let faults : (p : Part) → (health_at (set s.parts place new) (place_of p)).faults ≡ (health_at s.parts (place_of p)).faults =
    (λ p. health_each s.parts place new there (λ n g. g.faults ≡ (health_at s.parts n).faults) refl (λ n. refl) (place_of p)) in
    record {
      time = refl;
      goes = record {
        later = omega (arith, small);
        past = λ t le. refl;
        size = λ d. refl;
        faults = λ p. omega (arith, faults p);
        stops = λ m. omega arith;
        lost = λ p is. health_each s.parts place new there (λ n g. (health_at s.parts n).lost ≡ true → g.lost ≡ true) (λ was. refl) (λ n was. was) (place_of p) is;
        arms = λ m. refl;
      };
      is_lost = ap (λ (g : Health). g.lost) (health_same s.parts place new there place refl);
      else_lost = λ p ne. ap (λ (g : Health). g.lost) (health_other s.parts place new there (place_of p) (λ same. ne (place_same p (Disk dev) same)));
      faults = faults;
      stops = λ m. refl;
      halt = refl;
      counted = λ d is. let at : slot_of d ≡ slot_of dev = ap slot_of (disk_part d dev is) in
          subst (λ (n : ℕ). slice_index (counted s.loses (slot_of dev)) n ≡ next (slice_index s.loses n)) (sym at) (get_or-set_same s.loses (slot_of dev) _ 0 counted_there);
      small = λ d is. subst (λ (n : ℕ). slice_index s.loses n ≤ top) (sym (ap slot_of (disk_part d dev is))) fits;
      else_counted = λ d ne. get_or-set_other s.loses (slot_of dev) (slot_of d) _ 0 (λ same. ne (ap Disk (slot_apart d dev same)));
      arms = λ m. refl;
    }

pub renewed_renews : (s : Shown) (dev : Dev) → place_of (Disk dev) < length s.parts → s.now < top → Renews dev (view_of s) (view_of (renewed_by dev s)) Done
renewed_renews s dev there below =
    let place = place_of (Disk dev) in
    let new = renewed_after (health_at s.parts place) in
    record {
      time = omega (arith, below);
      later = omega arith;
      past = λ t le. refl;
      size = λ d. refl;
      faults = λ p. health_each s.parts place new there (λ n g. (health_at s.parts n).faults ≤ g.faults) (omega arith) (λ n. omega arith) (place_of p);
      failed = λ f. absurd (cc);
      is_lost = λ f. absurd (cc);
      is_there = λ f. ap (λ (g : Health). g.lost) (health_same s.parts place new there place refl);
      else_lost = λ p ne. ap (λ (g : Health). g.lost) (health_other s.parts place new there (place_of p) (λ same. ne (place_same p (Disk dev) same)));
      else_faults = λ p ne. ap (λ (g : Health). g.faults) (health_other s.parts place new there (place_of p) (λ same. ne (place_same p (Disk dev) same)));
      no_halt = λ f. absurd (cc);
      stops = λ m. refl;
      halt = refl;
      last = λ at. absurd (omega (arith, at, below));
      loses = λ d. refl;
      arms = λ m. refl;
    }

pub armed_arms : (s : Shown) (member : ℕ) → member < length s.arms → Arms member (view_of s) (view_of (armed_by member s))
armed_arms s member there = record {
  same = refl;
  counted = get_or-set_same s.arms member _ 0 there;
  else_counted = λ m ne. get_or-set_other s.arms member m _ 0 ne;
}

-- parts of which some are lost at first
pub no_faults : (lost : List Bool) (k : ℕ) → (health_at (map lost_part lost) k).faults ≡ 0
no_faults [] k = refl
no_faults (l ∷ lost) zero = refl
no_faults (l ∷ lost) (suc k) = no_faults lost k
