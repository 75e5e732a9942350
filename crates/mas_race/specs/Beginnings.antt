-- What a race began with, and what of it is known of each later value.
use Rattle.std.specs.Prelude.{◌≡◌, ℕ, ◌≤◌, Bool, true, false, List, [], length, take, drop, All, refl}
use Rattle.std.specs.Coded.{Coded, Coded-set, code_by, coded×, coded_bool, coded_list, coded_ℕ, le_prop}
use mathlib.Core.HLevel.{⊥_prop}
use Rattle.mas_types.specs.declared.ids.Dev.{Dev}
use Rattle.mas_types.specs.declared.ids.Dev.TheVariants.{Ckpt1, Ckpt2, Spool}
use Rattle.mas_types.specs.declared.journals.Batch.{Batch}
use Rattle.mas_types.specs.declared.ids.MemberId.{MemberId}
use Rattle.mas_types.specs.Ids.{is_somebody}
use Rattle.mas_types.specs.Journal.{is_flying}
use Rattle.lock_cycle.specs.Books.{is_stopped}
use Rattle.mas_types.specs.contracts.journals.Batch.{the_row as batch_row}
use Rattle.spool_plant.specs.declared.plant.Part.{Part}
use Rattle.spool_plant.specs.declared.plant.Part.TheVariants.{Disk as Device}
use Rattle.spool_plant.specs.declared.plant.Plant.{Ghosts as PlantGhosts}
use Rattle.spool_plant.specs.View.{Disk, Line, Stretch, View, World}
use Rattle.spool_plant.specs.Acts.{Goes, Rose}
use Rattle.ckpt_copy.specs.declared.copying.Copying.{Ghosts as CopyGhosts}
use Rattle.ckpt_form.specs.declared.steady.Steady.{Ghosts as SteadyGhosts}
use Rattle.mas_complex.specs.declared.complex.Complex.{Complex}
use Rattle.mas_complex.specs.declared.renewals.Renewals.{Renewals}
use Rattle.mas_complex.specs.contracts.renewals.Renewals.{the_row as renewals_row}
use Rattle.mas_complex.specs.Parts.{Parts, parts_of}
use Rattle.mas_complex.specs.Renewals.{no_renewals}
use Rattle.member_sittings.specs.Sat.{journal_of}

-- what the plant showed, what stood in the journal, and which copies counted as alive
pub record Began : Type 0 where
  pub view : View
  pub batches : List Batch
  pub first_alive : Bool
  pub second_alive : Bool

-- where a copy counted as alive and does no more, its device failed or was lost by a call
abbrev pub WasLostIf : Dev → Bool → Bool → View → View → Type 0
WasLostIf d was is old new = was ≡ true → is ≡ false → (Rose (old.faults (Device d)) (new.faults (Device d)) → ⊥)
    → (Rose (old.loses d) (new.loses d) → ⊥) → ⊥

-- a count of such calls is the same, or it rose
abbrev pub GrowsIf : ℕ → ℕ → Type 0
GrowsIf old new = (new ≡ old → ⊥) → (Rose old new → ⊥) → ⊥

module _ {P C : Type 0} (plants : PlantGhosts P) where
  abbrev v : Parts P C → View
  v x = plants.view x.plant

  -- Acts led to the value from there, and calls that lose a device: past worlds stay, and no stop was armed. A copy is
  -- lost only where its device failed or a call lost it; none counts as alive that didn't, and none was replaced. No
  -- call lost a volume. What stood in the journal has its fates and stands first in it, and all that follows is of
  -- members. Whoever is stopped was stopped since.
  pub record ComesFrom (b : Began) (x : Parts P C) : Type 0 where
    pub goes : Goes b.view (v x)
    pub lost1 : WasLostIf Ckpt1 b.first_alive x.first_alive b.view (v x)
    pub lost2 : WasLostIf Ckpt2 b.second_alive x.second_alive b.view (v x)
    pub there1 : x.first_alive ≡ true → b.view.lost (Device Ckpt1) ≡ false → (v x).lost (Device Ckpt1) ≡ false
    pub there2 : x.second_alive ≡ true → b.view.lost (Device Ckpt2) ≡ false → (v x).lost (Device Ckpt2) ≡ false
    pub alive1 : x.first_alive ≡ true → b.first_alive ≡ true
    pub alive2 : x.second_alive ≡ true → b.second_alive ≡ true
    pub grow : (d : Dev) → GrowsIf (b.view.loses d) ((v x).loses d)
    pub volumes : plants.tells → (n : ℕ) → (v x).loses (Spool n) ≡ b.view.loses (Spool n)
    pub renewals : x.renewals ≡ no_renewals
    pub settled : All (λ (c : Batch). is_flying c.fate ≡ false) b.batches
    pub opening : take (length b.batches) (journal_of x) ≡ b.batches
    pub members : All (λ (c : Batch). is_somebody c.by ≡ true) (drop (length b.batches) (journal_of x))
    pub stopped : (m : MemberId) → is_somebody m ≡ true → is_stopped x.book m ≡ true
        → Rose (b.view.stops m.0) ((v x).stops m.0)

-- IT HAS AT MOST ONE PROOF

coded_stretch : Coded Stretch
coded_stretch = code_by (ℕ × ℕ) (coded× coded_ℕ coded_ℕ) (λ s. (s.from, s.len))
    (λ p. record { from = p.0; len = p.1 }) (λ s. refl)

coded_disk : Coded Disk
coded_disk = code_by (List ℕ × (List Stretch × Bool))
    (coded× (coded_list coded_ℕ) (coded× (coded_list coded_stretch) coded_bool)) (λ d. (d.bytes, (d.unsynced, d.lost)))
    (λ p. record { bytes = p.0; unsynced = p.1.0; lost = p.1.1 }) (λ d. refl)

coded_line : Coded Line
coded_line = code_by (List ℕ × Bool) (coded× (coded_list coded_ℕ) coded_bool) (λ l. (l.text, l.whole))
    (λ p. record { text = p.0; whole = p.1 }) (λ l. refl)

world_set : (u w : World) (p q : u ≡ w) → p ≡ q
world_set u w p q i j = record {
  disk = λ d. Coded-set coded_disk (u.disk d) (w.disk d) (λ k. (p k).disk d) (λ k. (q k).disk d) i j;
  console = Coded-set (coded_list coded_line) u.console w.console (λ k. (p k).console) (λ k. (q k).console) i j;
  paper = λ m. Coded-set (coded_list coded_line) (u.paper m) (w.paper m) (λ k. (p k).paper m) (λ k. (q k).paper m) i j;
  taken = λ l m. Coded-set (coded_list coded_ℕ) (u.taken l m) (w.taken l m) (λ k. (p k).taken l m) (λ k. (q k).taken l m) i j;
  given = λ l m. Coded-set (coded_list coded_ℕ) (u.given l m) (w.given l m) (λ k. (p k).given l m) (λ k. (q k).given l m) i j;
}

goes_prop : (old new : View) → IsProp (Goes old new)
goes_prop old new p q i = record {
  later = le_prop p.later q.later i;
  past = λ t lt. world_set (new.world t) (old.world t) (p.past t lt) (q.past t lt) i;
  size = λ d. Coded-set coded_ℕ _ _ (p.size d) (q.size d) i;
  faults = λ n. le_prop (p.faults n) (q.faults n) i;
  stops = λ m. le_prop (p.stops m) (q.stops m) i;
  lost = λ n is. Coded-set coded_bool _ _ (p.lost n is) (q.lost n is) i;
  arms = λ m. Coded-set coded_ℕ _ _ (p.arms m) (q.arms m) i;
}

module _ {P C : Type 0} (plants : PlantGhosts P) where
  comes_prop : (b : Began) (x : Parts P C) → IsProp (ComesFrom plants b x)
  comes_prop b x p q i = record {
    goes = goes_prop b.view (plants.view x.plant) p.goes q.goes i;
    lost1 = λ was is failed called. ⊥_prop (p.lost1 was is failed called) (q.lost1 was is failed called) i;
    lost2 = λ was is failed called. ⊥_prop (p.lost2 was is failed called) (q.lost2 was is failed called) i;
    there1 = λ is there. Coded-set coded_bool _ _ (p.there1 is there) (q.there1 is there) i;
    there2 = λ is there. Coded-set coded_bool _ _ (p.there2 is there) (q.there2 is there) i;
    alive1 = λ is. Coded-set coded_bool _ _ (p.alive1 is) (q.alive1 is) i;
    alive2 = λ is. Coded-set coded_bool _ _ (p.alive2 is) (q.alive2 is) i;
    grow = λ d same rose. ⊥_prop (p.grow d same rose) (q.grow d same rose) i;
    volumes = λ told n. Coded-set coded_ℕ _ _ (p.volumes told n) (q.volumes told n) i;
    renewals = Coded-set renewals_row.coded _ _ p.renewals q.renewals i;
    settled = λ k d lt. Coded-set coded_bool _ _ (p.settled k d lt) (q.settled k d lt) i;
    opening = Coded-set (coded_list batch_row.coded) _ _ p.opening q.opening i;
    stopped = λ m some is. le_prop (p.stopped m some is) (q.stopped m some is) i;
    members = λ k d lt. Coded-set coded_bool _ _ (p.members k d lt) (q.members k d lt) i;
  }

-- OVER THE SHARED VALUE

module _ {P C : Type 0} {plants : PlantGhosts P} {steadies : SteadyGhosts C} {copies : CopyGhosts C} where
  abbrev pub IsFrom : Began → Complex P C plants steadies copies → Type 0
  IsFrom b x = ComesFrom plants b (parts_of x)

  pub from_prop : (b : Began) (x : Complex P C plants steadies copies) → IsProp (IsFrom b x)
  from_prop b x = comes_prop plants b (parts_of x)

  -- the value that a race begins with
  abbrev pub began_with : Complex P C plants steadies copies → Began
  began_with x = record {
    view = plants.view x.plant;
    batches = x.journal.batches;
    first_alive = x.pair.first.alive;
    second_alive = x.pair.second.alive;
  }

-- a beginning that no race has
abbrev no_disk : Disk
no_disk = record { bytes = []; unsynced = []; lost = true }

abbrev no_world : World
no_world = record {
  disk = λ d. no_disk;
  console = [];
  paper = λ m. [];
  taken = λ l m. [];
  given = λ l m. [];
}

abbrev pub no_beginning : Began
no_beginning = record {
  view = record {
    now = 0;
    world = λ t. no_world;
    size = λ d. 0;
    lost = λ p. true;
    faults = λ p. 0;
    stops = λ m. 0;
    loses = λ d. 0;
    waiting = λ l. [];
    arms = λ m. 0;
    halt = 0;
  };
  batches = [];
  first_alive = false;
  second_alive = false;
}
