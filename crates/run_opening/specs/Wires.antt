-- What has been read of lines to other nodes, as the lines of a run begin and between them.
use Rattle.std.specs.Prelude.{◌≡◌, ℕ, ◌-◌, ◌+◌, ◌*◌, false, true, List, ◌++◌, length, slice_get, Option, Some}
use Rattle.mas_types.specs.declared.ids.MemberId.{MemberId}
use Rattle.mas_types.specs.Fit.{IsLine}
use Rattle.mas_types.specs.Limits.{wires_most}
use Rattle.mas_types.specs.Queue.{is_member}
use Rattle.lock_cycle.specs.Books.{is_stopped}
use Rattle.spool_plant.specs.View.{View, taken_now}
use Rattle.spool_plant.specs.declared.plant.Plant.{Ghosts as PlantGhosts}
use Rattle.ckpt_copy.specs.declared.copying.Copying.{Ghosts as CopyGhosts}
use Rattle.ckpt_form.specs.declared.steady.Steady.{Ghosts as SteadyGhosts}
use Rattle.mas_complex.specs.declared.complex.Complex.{Complex}
use Rattle.mas_complex.specs.Parts.{Parts, parts_of}
use Rattle.nje_frames.specs.declared.frames.Frame.{Frame}
use Rattle.nje_frames.specs.Streams.{frames_in}

-- THE STREAM

-- these frames are those that the bytes complete in the stream
abbrev pub Completes : List ℕ → List ℕ → List Frame → Type 0
Completes stream bytes frames = frames_in (stream ++ bytes) ≡ frames_in stream ++ frames

-- THE READERS of a run

-- the place of the reader of a member's line, among those of all members
abbrev pub reader_place : MemberId → ℕ → ℕ
reader_place m line = wires_most * (m.0 - 1) + (line - 1)

-- A reader has read what was taken since so much was: whatever comes then, it completes the same frames in what the
-- reader keeps as in that.
pub record HasRead (before taken : List ℕ) (reader : Option (Option (List ℕ))) : Type 0 where
  pub stream : List ℕ
  pub since : taken ≡ before ++ stream
  pub rest : List ℕ
  pub is : reader ≡ Some (Some rest)
  pub goes_on : (more : List ℕ) → Completes stream more (frames_in (rest ++ more))

module _ {P C : Type 0} (plants : PlantGhosts P) where
  abbrev v : Parts P C → View
  v x = plants.view x.plant

  -- each member has as many as there are lines; one that isn't stopped has read what it took from its line in the run
  pub record AreReaders (x : Parts P C) (readers : List (Option (List ℕ))) : Type 0 where
    pub many : length readers ≡ wires_most * x.base.config.members
    pub each : plants.tells → (m : MemberId) (line : ℕ) → is_member x.base.config m ≡ true → IsLine line
        → is_stopped x.book m ≡ false
        → HasRead (((v x).world x.since).taken line m.0) (taken_now (v x) line m.0)
        (slice_get readers (reader_place m line))

-- OVER THE SHARED VALUE

module _ {P C : Type 0} {plants : PlantGhosts P} {steadies : SteadyGhosts C} {copies : CopyGhosts C} where
  abbrev pub HaveRead : Complex P C plants steadies copies → List (Option (List ℕ)) → Type 0
  HaveRead x readers = AreReaders plants (parts_of x) readers
