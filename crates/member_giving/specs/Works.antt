-- A member at work in a sitting, as whole values: what holds between two of its calls, and what a call changes.
use Rattle.member_giving.specs.Names.{MemberId, Entry, Queue, AreFit, AreOf, Holder, Progress, State, units_left, SittingEnd, HasFewer, IsReady}
use Rattle.std.specs.Prelude.{◌≡◌, ℕ, ◌+◌, ◌*◌, ◌≤◌, ◌<◌, ◌^◌, Bool, List, [], ◌++◌, length}
use Rattle.mas_types.specs.declared.ids.Page.{Page}
use Rattle.mas_types.specs.declared.journals.Batch.{Batch}
use Rattle.mas_types.specs.Sound.{IsSound}
use Rattle.lock_cycle.specs.Books.{Book}
use Rattle.queue_telling.specs.Telling.{TellSound}
use Rattle.spool_plant.specs.View.{View}
use Rattle.spool_plant.specs.declared.plant.Plant.{Ghosts as PlantGhosts}
use Rattle.ckpt_copy.specs.declared.copying.Copying.{Ghosts as CopyGhosts}
use Rattle.mas_complex.specs.declared.complex.Complex.{Complex}
use Rattle.mas_complex.specs.declared.renewals.Renewals.{Renewals}
use Rattle.ckpt_form.specs.declared.steady.Steady.{Ghosts as SteadyGhosts}
use Rattle.mas_complex.specs.CallCounts.{PairState, pair_at}
use Rattle.mas_complex.specs.Journals.{end_of, kept_all}
use Rattle.mas_complex.specs.Meaning.{run}
use Rattle.mas_complex.specs.Paper.{MayBegin}
use Rattle.mas_complex.specs.Past.{values_of}
use Rattle.member_node.specs.declared.member.Member.{Member}
use Rattle.member_node.specs.Batches.{CanDraw, HasDone}
use Rattle.member_node.specs.Drawn.{AreDrawn}
use Rattle.member_node.specs.Reads.{orders_after, too_high}
use Rattle.mas_complex.specs.Parts.{Parts, parts_of}
use Rattle.member_asides.specs.Whole.{HasStepKept, HasTextsAfter, HasUntold, IsBounded, IsLeftIn, IsRoomy, IsSeat, IsSitting, IsStill, first_half, queue_of, second_half}

-- what others see of a shared value: what its plant shows, the journal with a batch in flight at its end, which copies
-- count as alive, how many lines each member has printed, and the pages that each noted
pub record Outside : Type 0 where
  pub view : View
  pub batches : List Batch
  pub first : Bool
  pub second : Bool
  pub printed : List ℕ
  pub had : List (List Page)

-- of its two copies
abbrev pub pair_seen : Outside → PairState
pair_seen o = pair_at o.first o.second o.view

-- where a member stands in its sitting: at this queue, with these entries that aren't written yet
pub record Place : Type 0 where
  pub outside : Outside
  pub queue : Queue
  pub batch : List Entry

-- what no call in a sitting changes
pub record Run : Type 0 where
  pub base : Queue
  pub since : ℕ
  pub renewals : Renewals
  pub book : Book
  pub id : MemberId

-- what may follow a sitting: fewer sittings than so many, so many units at most; and how high its level is at most
pub record Follow : Type 0 where
  pub most : ℕ
  pub units : ℕ
  pub level : ℕ

abbrev pub follow : ℕ → ℕ → ℕ → Follow
follow most units level = record { most = most; units = units; level = level }

-- What a sitting leaves that ended so: its member sits still, where the step waits what it asks is known, and there is
-- room for what may follow.
module _ {P C : Type 0} (plants : PlantGhosts P) (copies : CopyGhosts C) where
  pub record LeavesIn (y : Parts P C) (n : Member) (at : ℕ) (f : Follow) (e : SittingEnd) : Type 0 where
    pub again : IsLeftIn plants copies e.next y n at
    pub ready : IsReady plants.tells (queue_of y) n.checkpoint.tables n.id e.next
    pub fewer : HasFewer f.most f.units e.next
    pub reached : y.level + units_left e.next ≤ f.level

module _ {P C : Type 0} {plants : PlantGhosts P} {steadies : SteadyGhosts C} {copies : CopyGhosts C} where
  abbrev pub outside : Complex P C plants steadies copies → Outside
  outside x = record {
    view = plants.view x.plant;
    batches = end_of x.placed x.current x.journal.batches;
    first = x.pair.first.alive;
    second = x.pair.second.alive;
    printed = x.printed;
    had = values_of x.had;
  }

  abbrev pub run_of : Complex P C plants steadies copies → Member → Run
  run_of x m =
      record { base = x.base; since = x.since; renewals = x.renewals; book = x.book; id = m.id }

  -- the queue after the kept batches, and after what the member gave since
  abbrev pub queue_kept : Complex P C plants steadies copies → Queue
  queue_kept x = run x.base (kept_all x.journal.batches)

  abbrev pub queue_here : Complex P C plants steadies copies → Member → Queue
  queue_here x m = run x.base (kept_all x.journal.batches ++ m.batch)

  abbrev pub place_of : Complex P C plants steadies copies → Member → Place
  place_of x m = record { outside = outside x; queue = queue_here x m; batch = m.batch }

  -- The member holds the lock in this step, and has the pages that it noted. Its batch has what it gave since the last
  -- one was kept, and may be kept; no line tells the step, and what it gave of it before is kept. Where content is told
  -- its tables tell the queue that this leaves, and where something is unwritten the texts of that queue stand on the
  -- volumes, except those with a group on a lost one.
  pub record Works (x : Complex P C plants steadies copies) (m : Member) (h : Holder) : Type 0 where
    pub own : h.by ≡ m.id
    pub still : IsStill plants copies (parts_of x) m
    pub base_sound : plants.tells → IsSound x.base
    pub of : AreOf m.id h.step m.batch
    pub few : length m.batch ≤ 64
    pub drawn : m.batch ≡ [] → AreDrawn m.checkpoint.tables m.checkpoint.level m.checkpoint.levels m.checkpoint.pages
    pub draws : CanDraw m.checkpoint
    pub fit : AreFit m.checkpoint.tables
    pub same_level : plants.tells → x.level ≡ m.checkpoint.level
    pub done : plants.tells → HasDone (queue_kept x) m.batch m.checkpoint
    pub sound : plants.tells → TellSound m.checkpoint.tables
    pub low : plants.tells → m.checkpoint.tables.order
        ≤ orders_after (length x.journal.batches) + 32 * length m.batch
    pub texts : 1 ≤ length m.batch → HasTextsAfter plants copies (parts_of x) m.batch
    pub allowed : plants.tells → MayBegin x.base x.journal.batches x.printed m.batch
    pub untold : HasUntold plants copies (parts_of x) m.id h.step
    pub step : HasStepKept plants copies (parts_of x) m.id h.step
    pub first : IsRoomy (first_half plants copies (parts_of x))
    pub second : IsRoomy (second_half plants copies (parts_of x))

  -- levels and orders leave room for so many commands and batches more
  pub record HasRoom (x : Complex P C plants steadies copies) (m : Member) (k : ℕ) : Type 0 where
    pub order : m.checkpoint.tables.order + 32 * k < 2 ^ 63
    pub high : m.checkpoint.level + k < 2 ^ 63
    pub level : x.level + k < too_high

  -- a call that uses room for one batch
  abbrev pub UsesOne : Complex P C plants steadies copies → Member → Complex P C plants steadies copies → Member
      → Type 0
  UsesOne x m y n = (k : ℕ) → HasRoom x m (k + 1) → HasRoom y n k

  -- levels and orders as they are where a sitting begins
  pub record IsLow (x : Complex P C plants steadies copies) (m : Member) : Type 0 where
    pub order : m.checkpoint.tables.order < too_high
    pub high : m.checkpoint.level < too_high

  -- where a sitting begins, and what one leaves in a state of its step
  abbrev pub HasSeat : Complex P C plants steadies copies → Member → Type 0
  HasSeat x m = IsSeat plants copies (parts_of x) m

  abbrev pub Sits : Complex P C plants steadies copies → Member → ℕ → Type 0
  Sits x m at = IsSitting plants copies (parts_of x) m at

  abbrev pub SitsIn : State → Complex P C plants steadies copies → Member → ℕ → Type 0
  SitsIn s x m at = IsLeftIn plants copies s (parts_of x) m at

  abbrev pub HasBounds : Complex P C plants steadies copies → Member → Type 0
  HasBounds x m = IsBounded plants copies (parts_of x) m

  abbrev pub Leaves : Complex P C plants steadies copies → Member → ℕ → Follow → SittingEnd → Type 0
  Leaves x m at f e = LeavesIn plants copies (parts_of x) m at f e

  -- a state in which the member may leave its step, where so much may follow
  pub record MayLeave (x : Complex P C plants steadies copies) (m : Member) (f : Follow) (s : State) : Type 0 where
    pub ready : IsReady plants.tells (queue_here x m) m.checkpoint.tables m.id s
    pub fewer : HasFewer f.most f.units s
    pub reached : x.level + 1 + units_left s ≤ f.level

  -- A sitting begins so, with nothing unwritten, after acts for which a unit waited in this progress of its step.
  pub record IsPaused (x : Complex P C plants steadies copies) (m : Member) (h : Holder) (p : Progress) : Type 0 where
    pub works : Works x m h
    pub low : IsLow x m
    pub nothing : m.batch ≡ []
    pub level : x.level + p.left + 4 < too_high
    pub units : p.done + p.left < 9999
