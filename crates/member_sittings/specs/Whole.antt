-- The shared value and a member that sits at it, as whole values: what holds at the beginning of a sitting, within it,
-- and at its end.
use Rattle.member_sittings.specs.Names.{MemberId, Command, Entry, Config, IsFit, View, disk_now, PlantGhosts, Ghosts as CopyGhosts, HasSpelling, AreRoomy, Complex, SteadyGhosts, AreSettled, kept_all, MayAct, MayBegin, Parts, parts_of, HasTexts, lost_now, spools_at, Member, AreLow, orders_after, too_high, HasHad, AreKeptFrom, IsBetween, AreOf, Holder, State, Told}
use Rattle.std.specs.Prelude.{◌≡◌, ℕ, ◌+◌, ◌≤◌, ◌<◌, ◌^◌, true, false, List, ◌++◌, length, Option, None}
use Rattle.mas_types.specs.declared.ids.Dev.TheVariants.{Ckpt1, Ckpt2}
use Rattle.mas_types.specs.declared.queues.Queue.{Queue}
use Rattle.mas_types.specs.Limits.{members_most}
use Rattle.mas_types.specs.Queue.{is_member}
use Rattle.mas_types.specs.Step.{may_give}
use Rattle.lock_cycle.specs.Books.{Book, IsMember}
use Rattle.paper_laws.specs.Counts.{is_mark}
use Rattle.member_node.specs.Given.{IsGiver, is_plain}
use Rattle.member_node.specs.Standing.{AreFit}
use Rattle.queue_telling.specs.Telling.{TellSound}
use Rattle.mas_complex.specs.Crash.{IsUntold, setting}
use Rattle.mas_complex.specs.Meaning.{run}
use Rattle.member_node.specs.Batches.{CanDraw, HasDone}
pub use Rattle.member_node.specs.Copies.{Half, IsAtRest, IsRoomy}

-- THE LOCK

-- A member, and not the operator, that holds the lock and isn't stopped.
pub record HoldsLock (b : Book) (config : Config) (m : MemberId) : Type 0 where
  pub may : MayAct b m
  pub some : 1 ≤ m.0
  pub few : m.0 ≤ members_most
  pub seated : IsMember b m
  pub member : is_member config m ≡ true

-- no line on the console tells a step of the member
abbrev pub IsStepUntold : (List ℕ → Option (List ℕ)) → View → Queue → ℕ → MemberId → ℕ → Type 0
IsStepUntold reads v base since by at = (es : List Entry) → AreOf by at es → IsUntold (setting reads base since) v es

-- the queue after the kept batches
abbrev pub queue_of : {P C : Type 0} → Parts P C → Queue
queue_of x = run x.base (kept_all x.batches)

module _ {P C : Type 0} (plants : PlantGhosts P) (copies : CopyGhosts C) where
  abbrev v : Parts P C → View
  v x = plants.view x.plant

  abbrev pub first_half : Parts P C → Half
  first_half x = record {
    alive = x.first_alive;
    place = x.first;
    count = copies.count x.first_copy;
    room = copies.room x.first_copy;
    read = copies.reads (disk_now (v x) Ckpt1).bytes;
  }

  abbrev pub second_half : Parts P C → Half
  second_half x = record {
    alive = x.second_alive;
    place = x.second;
    count = copies.count x.second_copy;
    room = copies.room x.second_copy;
    read = copies.reads (disk_now (v x) Ckpt2).bytes;
  }

  -- WITHIN A SITTING

  -- The member holds the lock, and nothing is in flight, reserved or placed. Each copy has the pages that the member's
  -- tables were drawn as last, which it noted. Every batch has its fate, and each volume that isn't lost the size that
  -- its groups need.
  pub record IsStill (x : Parts P C) (m : Member) : Type 0 where
    pub holds : HoldsLock x.book x.base.config m.id
    pub none : x.current ≡ None
    pub unreserved : x.reserved ≡ None
    pub unplaced : x.placed ≡ false
    pub here : m.behind ≡ false
    pub many : length m.room ≡ length m.checkpoint.pages
    pub config : x.base.config ≡ m.checkpoint.tables.config
    pub first : IsAtRest plants.tells (first_half x) m.checkpoint.pages
    pub second : IsAtRest plants.tells (second_half x) m.checkpoint.pages
    pub noted : HasHad plants.tells m.fresh x.had m.id.0 m.checkpoint.pages
    pub kept : AreSettled x.batches (v x).now
    pub begun : x.since ≤ (v x).now
    pub roomy : plants.tells → AreRoomy (v x) x.base.config

  -- no line on the console tells this step of the member
  abbrev pub HasUntold : Parts P C → MemberId → ℕ → Type 0
  HasUntold x by at = plants.tells → IsStepUntold copies.reads (v x) x.base x.since by at

  -- no batch was dropped that has an entry of this step of the member, or of a later one
  abbrev pub HasStepKept : Parts P C → MemberId → ℕ → Type 0
  HasStepKept x by at = AreKeptFrom by at x.batches (v x).now

  -- the texts of a queue stand on the volumes, except those with a group on a lost one
  abbrev pub HasTextsOf : Parts P C → Queue → Type 0
  HasTextsOf x Q = plants.tells → ∥ HasTexts (lost_now (v x)) (spools_at (v x) (v x).now) x.base.config.groups Q ∥₁

  abbrev pub HasTextsAfter : Parts P C → List Entry → Type 0
  HasTextsAfter x es = HasTextsOf x (run x.base (kept_all x.batches ++ es))

  -- The member has given the commands of its batch since the last one was kept, and may keep that. Where content is
  -- told its tables tell the queue after them.
  pub record IsGiving (x : Parts P C) (m : Member) (at : ℕ) : Type 0 where
    pub still : IsStill x m
    pub of : AreOf m.id at m.batch
    pub draws : CanDraw m.checkpoint
    pub fit : AreFit m.checkpoint.tables
    pub same_level : plants.tells → x.level ≡ m.checkpoint.level
    pub done : plants.tells → HasDone (queue_of x) m.batch m.checkpoint
    pub sound : plants.tells → TellSound m.checkpoint.tables
    pub low : plants.tells → m.checkpoint.tables.order ≤ orders_after (length x.batches + 1)
    pub texts : HasTextsAfter x m.batch
    pub allowed : plants.tells → MayBegin x.base x.batches x.printed m.batch
    pub untold : HasUntold x m.id at
    pub step : HasStepKept x m.id at

  -- AT THE BEGINNING OF A SITTING

  -- The member's batch is empty, and its pages are those of its tables. Where content is told these tell the queue
  -- after the kept batches.
  pub record IsSeat (x : Parts P C) (m : Member) : Type 0 where
    pub still : IsStill x m
    pub between : IsBetween plants.tells x m.batch m.checkpoint
    pub low : plants.tells → AreLow x.base.config (length x.batches) m.checkpoint.tables

  -- the member is between commands, no line tells this step of it, and what it gave of it is kept
  pub record IsSitting (x : Parts P C) (m : Member) (at : ℕ) : Type 0 where
    pub seat : IsSeat x m
    pub untold : HasUntold x m.id at
    pub step : HasStepKept x m.id at

  -- Levels, orders and the room of each copy leave a sitting all that it can use.
  pub record IsBounded (x : Parts P C) (m : Member) : Type 0 where
    pub order : m.checkpoint.tables.order < too_high
    pub high : m.checkpoint.level < too_high
    pub reached : x.level < too_high
    pub first : IsRoomy (first_half x)
    pub second : IsRoomy (second_half x)

  -- levels and the room of each copy leave a batch all that it can use
  pub record MayKeep (x : Parts P C) (m : Member) : Type 0 where
    pub high : m.checkpoint.level + 1 < 2 ^ 63
    pub reached : x.level + 1 < 2 ^ 63
    pub first : IsRoomy (first_half x)
    pub second : IsRoomy (second_half x)

  -- A member may begin a sitting of this step, and may use what it can.
  pub record IsToSit (x : Parts P C) (m : Member) (h : Holder) : Type 0 where
    pub sits : IsSitting x m h.step
    pub bounds : IsBounded x m
    pub holder : h.by ≡ m.id

  -- a member may keep its batch, which has entries
  pub record IsToKeep (x : Parts P C) (m : Member) (h : Holder) : Type 0 where
    pub gives : IsGiving x m h.step
    pub some : 1 ≤ length m.batch
    pub bounds : MayKeep x m
    pub holder : h.by ≡ m.id

  -- a member may keep what it gave, if anything
  pub record IsToCut (x : Parts P C) (m : Member) (h : Holder) : Type 0 where
    pub gives : IsGiving x m h.step
    pub bounds : MayKeep x m
    pub holder : h.by ≡ m.id

  -- what a sitting leaves in this state of the step
  abbrev pub IsLeftIn : State → Parts P C → Member → ℕ → Type 0
  IsLeftIn Told x m at = IsSeat x m
  IsLeftIn _ x m at = IsSitting x m at

-- Commands that a member gave on its tables: they are in its batch, and leave of it what is named here.
pub record Commanded (m n : Member) : Type 0 where
  pub id : n.id ≡ m.id
  pub room : n.room ≡ m.room
  pub here : n.behind ≡ false
  pub fresh : n.fresh ≡ m.fresh
  pub level : n.checkpoint.level ≡ m.checkpoint.level
  pub levels : n.checkpoint.levels ≡ m.checkpoint.levels
  pub pages : n.checkpoint.pages ≡ m.checkpoint.pages
  pub config : n.checkpoint.tables.config ≡ m.checkpoint.tables.config
  pub spelling : HasSpelling n.checkpoint.tables
  pub fit : AreFit n.checkpoint.tables

-- a command that may begin a step of the member: it brings no text, and is no Mark
pub record IsGivable (base : Queue) (by : MemberId) (c : Command) : Type 0 where
  pub plain : is_plain c ≡ true
  pub fit : IsFit c
  pub giver : IsGiver by c
  pub may : may_give base by c ≡ true
  pub unmarked : is_mark c ≡ false

-- OVER THE SHARED VALUE

module _ {P C : Type 0} {plants : PlantGhosts P} {steadies : SteadyGhosts C} {copies : CopyGhosts C} where
  abbrev pub MaySit : Complex P C plants steadies copies → Member → Holder → Type 0
  MaySit x m h = IsToSit plants copies (parts_of x) m h

  abbrev pub MayKeepBatch : Complex P C plants steadies copies → Member → Holder → Type 0
  MayKeepBatch x m h = IsToKeep plants copies (parts_of x) m h

  abbrev pub MayCut : Complex P C plants steadies copies → Member → Holder → Type 0
  MayCut x m h = IsToCut plants copies (parts_of x) m h
