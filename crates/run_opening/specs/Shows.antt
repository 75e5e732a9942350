-- The shared value and its members between two lines of a script, and the scene that they show.
use Rattle.std.specs.Prelude.{◌≡◌, ℕ, ◌+◌, ◌≤◌, Bool, true, false, ◌&&◌, List, ◌++◌, length, All, Option, Some, None}
use Rattle.std.specs.List.{slice_get}
use Rattle.mas_types.specs.declared.ids.Dev.TheVariants.{Ckpt1, Ckpt2}
use Rattle.mas_types.specs.declared.ids.MemberId.{MemberId}
use Rattle.mas_types.specs.declared.journals.Batch.{Batch}
use Rattle.mas_types.specs.declared.journals.Entry.{Entry}
use Rattle.mas_types.specs.declared.journals.Fate.TheVariants.{Flying}
use Rattle.mas_types.specs.Fit.{IsConfig}
use Rattle.mas_types.specs.Ids.{is_somebody}
use Rattle.mas_types.specs.Limits.{steps_most}
use Rattle.mas_types.specs.Sound.{IsSound}
use Rattle.lock_cycle.specs.Books.{Book, is_holder, is_stopped}
use Rattle.spool_plant.specs.View.{View}
use Rattle.spool_plant.specs.declared.plant.Plant.{Ghosts as PlantGhosts}
use Rattle.spool_volumes.specs.Volumes.{AreRoomy}
use Rattle.ckpt_tables.specs.Shape.{page_count}
use Rattle.ckpt_copy.specs.declared.copying.Copying.{Ghosts as CopyGhosts}
use Rattle.ckpt_form.specs.declared.steady.Steady.{Ghosts as SteadyGhosts}
use Rattle.mas_complex.specs.declared.complex.Complex.{Complex}
use Rattle.mas_complex.specs.Journals.{AreSettled, in_flight}
use Rattle.mas_complex.specs.Paper.{counts_of}
use Rattle.mas_complex.specs.Parts.{Parts, parts_of, unreserved_in}
use Rattle.member_node.specs.declared.member.Member.{Member}
use Rattle.member_node.specs.Wanted.{HasHad}
use Rattle.member_quiet.specs.Whole.{HasUntold, IsSeat, queue_of}
use Rattle.member_quiet.specs.Quiet.{IsIdle, IsQuiet}
use Rattle.run_turns.specs.Scenes.{Scene}
use Rattle.member_quiet.specs.Standing.{IsOfEarlier, StandsIn}

-- THE SCENE

-- a batch in flight has these entries, and its member was stopped
pub record Flies (b : Book) (es : List Entry) (current : Option Batch) : Type 0 where
  pub batch : Batch
  pub is : current ≡ Some batch
  pub entries : batch.entries ≡ es
  pub flies : batch.fate ≡ Flying
  pub stopped : is_stopped b batch.by ≡ true

abbrev pub IsFlight : Book → Option (List Entry) → Option Batch → Type 0
IsFlight b None current = current ≡ None
IsFlight b (Some es) current = Flies b es current

-- who was stopped holds the lock still
abbrev pub is_left_held : Book → Bool
is_left_held b = is_somebody b.holder && is_stopped b b.holder

module _ {P C : Type 0} (plants : PlantGhosts P) (copies : CopyGhosts C) where
  abbrev v : Parts P C → View
  v x = plants.view x.plant

  -- The value shows a scene: its queue, its book and what is in flight; and where this is told how many lines each
  -- member has printed that isn't stopped.
  pub record IsShown (told : Type 0) (S : Scene) (x : Parts P C) : Type 0 where
    pub queue : queue_of x ≡ S.queue
    pub book : x.book ≡ S.book
    pub flight : IsFlight S.book S.flight x.current
    pub counts : told → (m : MemberId) → is_stopped S.book m ≡ false → counts_of x.printed m ≡ S.counts m

  -- BETWEEN TWO LINES

  -- each device of a copy has the bytes that the pages of the configuration need
  abbrev pub AreLarge : Parts P C → Type 0
  AreLarge x = (copies.needs (page_count x.base.config) ≤ (v x).size Ckpt1)
      × (copies.needs (page_count x.base.config) ≤ (v x).size Ckpt2)

  -- A member that isn't stopped has room for the pages of the configuration. It is idle, and has the pages that it
  -- noted, unless it has read none. It is at its seat where it holds the lock by LOCK.
  pub record IsMemberUp (x : Parts P C) (m : Member) : Type 0 where
    pub config : x.base.config ≡ m.checkpoint.tables.config
    pub many : length m.room ≡ page_count x.base.config
    pub idle : IsIdle m
    pub noted : HasHad plants.tells m.fresh x.had m.id.0 m.checkpoint.pages
    pub seated : is_holder x.book m.id ≡ true → IsSeat plants copies x m

  -- a member of this number
  pub record IsMemberAt (x : Parts P C) (at : ℕ) (m : Member) : Type 0 where
    pub id : m.id ≡ record { 0 = at }
    pub up : is_stopped x.book m.id ≡ false → IsMemberUp x m

  -- each is the member of the number of its place
  abbrev pub AreMembers : Parts P C → List Member → Type 0
  AreMembers x ms = (i : ℕ) (m : Member) → slice_get ms i ≡ Some m → IsMemberAt x (1 + i) m

  -- Between two lines, of which the next has this number. Nothing is reserved. Nothing is in flight or placed either,
  -- and the copies are at rest, unless a stopped member holds the lock. Who holds it otherwise has it by LOCK.
  pub record IsBetween (x : Parts P C) (ms : List Member) (at : ℕ) : Type 0 where
    pub stands : StandsIn x.batches x.placed x.book x.current
    pub settled : AreSettled x.batches (v x).now
    pub quiet : is_left_held x.book ≡ false → IsQuiet plants copies x (page_count x.base.config)
    pub unreserved : x.reserved ≡ None
    pub members : AreMembers x ms
    pub many : length ms ≡ x.base.config.members
    pub booked : length x.book.members ≡ x.base.config.members
    pub held : x.book.holder.0 ≤ x.base.config.members
    pub config : IsConfig x.base.config
    pub sound : IsSound x.base
    pub begun : x.since ≤ (v x).now
    pub roomy : plants.tells → AreRoomy (v x) x.base.config
    pub large : AreLarge x
    -- no line tells a step from here on, and no batch has an entry of one
    pub untold : (by : MemberId) (later : ℕ) → at ≤ later → later ≤ steps_most → HasUntold plants copies x by later
    pub earlier : All (IsOfEarlier at) (x.batches ++ in_flight x.current)
    pub few : at ≤ steps_most + 1

-- OVER THE SHARED VALUE

module _ {P C : Type 0} {plants : PlantGhosts P} {steadies : SteadyGhosts C} {copies : CopyGhosts C} where
  abbrev pub Shows : Type 0 → Scene → Complex P C plants steadies copies → Type 0
  Shows told S x = IsShown plants copies told S (parts_of x)

  abbrev pub BetweenLines : Complex P C plants steadies copies → List Member → ℕ → Type 0
  BetweenLines x ms at = IsBetween plants copies (parts_of x) ms at

  -- between two lines once what is reserved is given up
  abbrev pub LeftBetween : Complex P C plants steadies copies → List Member → ℕ → Type 0
  LeftBetween x ms at = IsBetween plants copies (unreserved_in (parts_of x)) ms at

  -- nothing is in flight, and each copy that counts as alive has so many pages
  abbrev pub QuietFor : Complex P C plants steadies copies → ℕ → Type 0
  QuietFor x pages = IsQuiet plants copies (parts_of x) pages
