-- What holds of a shared value between two turns of a race.
use Rattle.std.specs.Prelude.{◌≡◌, ℕ, ◌≤◌, ◌<◌, Bool, true, false, not, ◌&&◌, List, ◌++◌, length, None, Some, All}
use Rattle.std.specs.Coded.{Coded-set, coded_bool, coded_list, coded_option, coded_ℕ, le_prop}
use Rattle.mas_types.specs.Ids.{is_somebody, nobody}
use Rattle.mas_types.specs.Journal.{is_kept}
use Rattle.mas_types.specs.Limits.{page_bytes}
use Rattle.mas_types.specs.declared.ids.Page.{Page}
use Rattle.mas_types.specs.declared.journals.Batch.{Batch}
use Rattle.mas_types.specs.declared.queues.Config.{Config}
use Rattle.mas_types.specs.contracts.ids.MemberId.{the_row as member_row}
use Rattle.mas_types.specs.contracts.journals.Batch.{the_row as batch_row}
use Rattle.mas_types.specs.contracts.journals.Entry.{the_row as entry_row}
use Rattle.mas_types.specs.contracts.queues.Config.{the_row as config_row}
use Rattle.spool_plant.specs.View.{View}
use Rattle.spool_plant.specs.declared.plant.Plant.{Ghosts as PlantGhosts}
use Rattle.spool_volumes.specs.Volumes.{AreRoomy}
use Rattle.ckpt_copy.specs.Pages.{bytes_of}
use Rattle.ckpt_copy.specs.declared.copying.Copying.{Ghosts as CopyGhosts}
use Rattle.ckpt_form.specs.declared.steady.Steady.{Ghosts as SteadyGhosts}
use Rattle.ckpt_pages.specs.Checkpoints.{IsCheckpoint}
use Rattle.ckpt_tables.specs.Shape.{page_count}
use Rattle.ckpt_tables.specs.declared.tables.Tables.{Tables}
use Rattle.ckpt_places.specs.contracts.places.Place.{the_row as place_row}
use Rattle.ckpt_places.specs.declared.places.Place.TheVariants.{Before}
use Rattle.lock_cycle.specs.Books.{Book, IsMember, is_stopped}
use Rattle.duplex_pair.specs.Halves.{SomeAlive}
use Rattle.mas_complex.specs.Journals.{AreSettled, in_flight}
use Rattle.mas_complex.specs.Locking.{IsOperatorAway}
use Rattle.mas_complex.specs.declared.complex.Complex.{Complex}
use Rattle.mas_complex.specs.Parts.{Parts, parts_of}
use Rattle.mas_complex.specs.Settled.{settled_prop}
use Rattle.member_node.specs.Reads.{orders_after}
use Rattle.member_sittings.specs.Whole.{Half, first_half, second_half}
use Rattle.gate_turns.specs.Actors.{ResetsStopped}

-- one that isn't stopped holds the lock
abbrev pub is_held : Book → Bool
is_held b = is_somebody b.holder && not (is_stopped b b.holder)

-- A copy before any batch, which has the configuration's pages where it counts as alive. Whatever tables it spells are
-- of the configuration, and give orders after those of so many batches.
pub record IsLowHalf (tells : Type 0) (h : Half) (config : Config) (batches : ℕ) : Type 0 where
  pub before : h.place ≡ Before
  pub as_many : h.alive ≡ true → page_count config ≡ h.count
  pub low : tells → h.alive ≡ true → (pages : List Page) (t : Tables) → All (λ page. length page.0 ≡ page_bytes) pages
      → h.read ≡ Some (bytes_of pages) → IsCheckpoint pages t
      → (t.config ≡ config) × (t.order ≤ orders_after batches)

module _ {P C : Type 0} (plants : PlantGhosts P) (copies : CopyGhosts C) where
  abbrev v : Parts P C → View
  v x = plants.view x.plant

  -- where nobody holds: nothing is in flight, each batch has its fate, and both copies are low
  pub record IsFree (x : Parts P C) : Type 0 where
    pub none : x.current ≡ None
    pub kept : AreSettled x.batches (v x).now
    pub first : IsLowHalf plants.tells (first_half plants copies x) x.base.config (length x.batches)
    pub second : IsLowHalf plants.tells (second_half plants copies x) x.base.config (length x.batches)

  -- The operator has no batch, and the book is of the members of the configuration, and of its hold; who holds is one
  -- of them. Each entry is of its batch's member, one that was dropped is of a stopped member, and where content is
  -- told members reset only stopped ones. Where a copy counts as alive, a batch in flight is of a stopped member,
  -- nothing is reserved, and the journal ends in a place only for a batch in flight. A member that isn't stopped
  -- holds only once an error ended its race.
  pub record IsBetweenTurns (x : Parts P C) : Type 0 where
    pub away : IsOperatorAway x.book x.reserved x.current
    pub members : length x.book.members ≡ x.base.config.members
    pub seated : x.book.holder.0 ≤ length x.book.members
    pub hold : x.book.hold ≡ x.base.config.hold
    pub begun : x.since ≤ (v x).now
    pub roomy : plants.tells → AreRoomy (v x) x.base.config
    pub own : All (λ b. All (λ e. e.by ≡ b.by) b.entries) (x.batches ++ in_flight x.current)
    pub fated : All (λ b. is_kept b.fate ≡ false → 0 < length b.entries → is_stopped x.book b.by ≡ true)
        x.batches
    pub resets : plants.tells → All (λ b. All (λ e. is_somebody e.by ≡ true → ResetsStopped x.book e.command) b.entries)
        (x.batches ++ in_flight x.current)
    pub flying : SomeAlive x.first_alive x.second_alive → (c : Batch) → x.current ≡ Some c
        → IsMember x.book c.by × (is_stopped x.book c.by ≡ true)
    pub unreserved : SomeAlive x.first_alive x.second_alive → x.reserved ≡ None
    pub unplaced : SomeAlive x.first_alive x.second_alive → x.current ≡ None → x.placed ≡ false
    pub free : SomeAlive x.first_alive x.second_alive → x.book.holder ≡ nobody → IsFree x

-- EACH OF THEM HAS AT MOST ONE PROOF

low_prop : (tells : Type 0) (h : Half) (config : Config) (batches : ℕ) → IsProp (IsLowHalf tells h config batches)
low_prop tells h config batches p q i = record {
  before = Coded-set place_row.coded _ _ p.before q.before i;
  as_many = λ is. Coded-set coded_ℕ _ _ (p.as_many is) (q.as_many is) i;
  low = λ t is pages u sized reads spelled. (
    Coded-set config_row.coded _ _ (p.low t is pages u sized reads spelled).0
        (q.low t is pages u sized reads spelled).0 i,
    le_prop (p.low t is pages u sized reads spelled).1 (q.low t is pages u sized reads spelled).1 i,
  );
}

module _ {P C : Type 0} (plants : PlantGhosts P) (copies : CopyGhosts C) where
  free_prop : (x : Parts P C) → IsProp (IsFree plants copies x)
  free_prop x p q i = record {
    none = Coded-set (coded_option batch_row.coded) _ _ p.none q.none i;
    kept = settled_prop x.batches (plants.view x.plant).now p.kept q.kept i;
    first = low_prop plants.tells (first_half plants copies x) x.base.config (length x.batches) p.first q.first i;
    second = low_prop plants.tells (second_half plants copies x) x.base.config (length x.batches) p.second q.second i;
  }

  pub between_prop : (x : Parts P C) → IsProp (IsBetweenTurns plants copies x)
  between_prop x p q i = record {
    away = λ none. (
      Coded-set (coded_option (coded_list entry_row.coded)) _ _ (p.away none).0 (q.away none).0 i,
      Coded-set (coded_option batch_row.coded) _ _ (p.away none).1 (q.away none).1 i,
    );
    members = Coded-set coded_ℕ _ _ p.members q.members i;
    seated = le_prop p.seated q.seated i;
    hold = Coded-set coded_ℕ _ _ p.hold q.hold i;
    begun = le_prop p.begun q.begun i;
    roomy = λ told n one most is. le_prop (p.roomy told n one most is) (q.roomy told n one most is) i;
    own = λ k d lt l e less. Coded-set member_row.coded _ _ (p.own k d lt l e less) (q.own k d lt l e less) i;
    fated = λ k d lt not some. Coded-set coded_bool _ _ (p.fated k d lt not some) (q.fated k d lt not some) i;
    resets = λ t k d lt l e less some m is. Coded-set coded_bool _ _ (p.resets t k d lt l e less some m is)
        (q.resets t k d lt l e less some m is) i;
    flying = λ some c is. (
      (le_prop (p.flying some c is).0.0 (q.flying some c is).0.0 i, le_prop (p.flying some c is).0.1 (q.flying some c is).0.1 i),
      Coded-set coded_bool _ _ (p.flying some c is).1 (q.flying some c is).1 i,
    );
    unreserved = λ some. Coded-set (coded_option (coded_list entry_row.coded)) _ _ (p.unreserved some) (q.unreserved some) i;
    unplaced = λ some none. Coded-set coded_bool _ _ (p.unplaced some none) (q.unplaced some none) i;
    free = λ some none. free_prop x (p.free some none) (q.free some none) i;
  }

-- OVER THE SHARED VALUE

module _ {P C : Type 0} {plants : PlantGhosts P} {steadies : SteadyGhosts C} {copies : CopyGhosts C} where
  abbrev pub BetweenTurns : Complex P C plants steadies copies → Type 0
  BetweenTurns x = IsBetweenTurns plants copies (parts_of x)

  pub rest_prop : (x : Complex P C plants steadies copies) → IsProp (BetweenTurns x)
  rest_prop x = between_prop plants copies (parts_of x)
