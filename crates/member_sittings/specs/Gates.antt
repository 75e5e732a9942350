-- A member that got the lock, and takes its seat, or has it still.
use Rattle.member_sittings.specs.Names.{MemberId, Config, View, PlantGhosts, AreRoomy, Ghosts as CopyGhosts, Complex, SteadyGhosts, AreSettled, Parts, parts_of, Member, NodeNo, IsCalm, ReadsLow, too_high, HasHad, IsAtLock, IsToldSound}
use Rattle.std.specs.Prelude.{◌≡◌, ℕ, ◌≤◌, ◌<◌, length, None, Result, OnOk}
use Rattle.duplex_pair.specs.Halves.{IsBothLost}
use Rattle.duplex_pair.specs.Outcomes.{least_room}
use Rattle.member_sittings.specs.Sat.{CopiesActed, seated_in}
use Rattle.member_sittings.specs.Whole.{Half, HoldsLock, IsBounded, IsSeat, first_half, queue_of, second_half}

-- A copy before any batch, which has so many pages where it counts as alive. What it reads is low after so many
-- batches.
pub record IsOpen (tells : Type 0) (h : Half) (config : Config) (batches pages : ℕ) : Type 0 where
  pub calm : IsCalm h.alive h.place h.count pages
  pub low : ReadsLow tells h.alive config batches h.read

module _ {P C : Type 0} (plants : PlantGhosts P) (copies : CopyGhosts C) where
  abbrev v : Parts P C → View
  v x = plants.view x.plant

  -- The member holds the lock, and nothing is in flight, reserved or placed. Every batch has its fate. The member may
  -- know nothing of what the copies have by now: others may have written since it did. It has the pages that it noted.
  pub record IsAtGate (x : Parts P C) (m : Member) : Type 0 where
    pub holds : HoldsLock x.book x.base.config m.id
    pub at_lock : IsAtLock x.current x.placed m.batch m.checkpoint m.room
    pub unreserved : x.reserved ≡ None
    pub first : IsOpen plants.tells (first_half plants copies x) m.checkpoint.tables.config (length x.batches)
        (length m.room)
    pub second : IsOpen plants.tells (second_half plants copies x) m.checkpoint.tables.config (length x.batches)
        (length m.room)
    pub sound : plants.tells → IsToldSound (queue_of x)
    pub config : x.base.config ≡ m.checkpoint.tables.config
    pub kept : AreSettled x.batches (v x).now
    pub begun : x.since ≤ (v x).now
    pub roomy : plants.tells → AreRoomy (v x) x.base.config
    pub level : x.level < too_high
    pub noted : HasHad plants.tells m.fresh x.had m.id.0 m.checkpoint.pages

  -- The member has its seat still, from a sitting before: it holds the lock since, so nobody else could write.
  pub record IsAtSeat (x : Parts P C) (m : Member) : Type 0 where
    pub seat : IsSeat plants copies x m
    pub level : x.level < too_high

  -- The member has read what the copies have, or knows it still, and made room for a batch.
  pub record HasTakenSeat (x : Parts P C) (m : Member) : Type 0 where
    pub seat : IsSeat plants copies x m
    pub bounds : IsBounded plants copies x m

  -- A member took its seat, or keeps it, by the answer; the journal, the volumes and the console are as they were.
  pub record TakesSeat (x y : Parts P C) (m n : Member) (result : Result (Unit {0}) NodeNo) : Type 0 where
    pub frame : y ≡ seated_in y x
    pub id : n.id ≡ m.id
    pub acts : CopiesActed plants m.id x y result
    pub seat : OnOk result (HasTakenSeat y n)

-- OVER THE SHARED VALUE

module _ {P C : Type 0} {plants : PlantGhosts P} {steadies : SteadyGhosts C} {copies : CopyGhosts C} where
  abbrev pub MayTakeSeat : Complex P C plants steadies copies → Member → Type 0
  MayTakeSeat x m = IsAtGate plants copies (parts_of x) m

  abbrev pub MayKeepSeat : Complex P C plants steadies copies → Member → Type 0
  MayKeepSeat x m = IsAtSeat plants copies (parts_of x) m

  abbrev pub Seats : Complex P C plants steadies copies → Complex P C plants steadies copies → Member → Member
      → Result (Unit {0}) NodeNo → Type 0
  Seats x y m n result = TakesSeat plants copies (parts_of x) (parts_of y) m n result

  abbrev pub TookSeat : Complex P C plants steadies copies → Member → Type 0
  TookSeat x m = HasTakenSeat plants copies (parts_of x) m

  abbrev pub ActedOnCopies : {T : Type 0} → MemberId → Complex P C plants steadies copies
      → Complex P C plants steadies copies → Result T NodeNo → Type 0
  ActedOnCopies by x y result = CopiesActed plants by (parts_of x) (parts_of y) result

  -- each copy that counts as alive has room for a batch, and one does
  abbrev pub HaveRoom : Complex P C plants steadies copies → Type 0
  HaveRoom x = 1 ≤ least_room x.pair.first.alive x.pair.second.alive (copies.room x.pair.first.copy)
      (copies.room x.pair.second.copy)

  -- neither copy counts as alive
  abbrev pub AreBothLost : Complex P C plants steadies copies → Type 0
  AreBothLost x = IsBothLost x.pair.first.alive x.pair.second.alive
