-- Where a step waits that serves a line, and with what it may go on.
use Rattle.std.specs.Prelude.{◌≡◌, ◌+◌, ◌≤◌, ◌<◌, true, length, is_some, All, Option, Some, None}
use Rattle.mas_types.specs.declared.ids.JobNo.{JobNo}
use Rattle.mas_types.specs.declared.queues.Queue.{Queue}
use Rattle.mas_types.specs.Fit.{AreLines, IsLine}
use Rattle.mas_types.specs.Queue.{job_at}
use Rattle.ckpt_tables.specs.declared.tables.Tables.{Tables}
use Rattle.queue_telling.specs.Telling.{Tell}
use Rattle.spool_plant.specs.declared.plant.Plant.{Ghosts as PlantGhosts}
use Rattle.ckpt_copy.specs.declared.copying.Copying.{Ghosts as CopyGhosts}
use Rattle.ckpt_form.specs.declared.steady.Steady.{Ghosts as SteadyGhosts}
use Rattle.mas_complex.specs.declared.complex.Complex.{Complex}
use Rattle.member_node.specs.declared.member.Member.{Member}
use Rattle.nje_frames.specs.Grammar.{IsFrame}
use Rattle.step_turns.specs.Serving.{taken_most}
use Rattle.step_turns.specs.declared.states.Aside.{Aside}
use Rattle.step_turns.specs.declared.states.Found.{Found}
use Rattle.step_turns.specs.declared.states.Offer.{Offer}
use Rattle.step_turns.specs.declared.states.Service.{Service}
use Rattle.step_turns.specs.declared.states.State.{State}
use Rattle.step_turns.specs.declared.states.Aside.TheVariants.{Acknowledge, Exchange, SpoolArrival}
use Rattle.step_turns.specs.declared.states.State.TheVariants.{Away, Told}
use Rattle.step_turns.specs.States.{nothing_found}
use Rattle.member_sittings.specs.Asides.{DeckIsSpooled, HasGroups, deck_found}
use Rattle.member_giving.specs.Asides.{wire_found}

-- the job that is offered is there, whatever the plant tells
pub record IsThere (t : Tables) (n : JobNo) : Type 0 where
  pub there : (Q : Queue) → Tell t Q → is_some (job_at Q n) ≡ true

abbrev pub IsOfferThere : Tables → Option Offer → Type 0
IsOfferThere t None = Unit {0}
IsOfferThere t (Some o) = IsThere t o.job

-- The frames that are still to be handled were read from the line. With the jobs that left and came they are no more
-- than the frames that came.
pub record IsServable (s : Service) : Type 0 where
  pub line : IsLine s.line
  pub frames : All IsFrame s.frames
  pub few : s.sent + s.got + length s.frames ≤ taken_most

-- one frame more came, which is being handled
abbrev pub HasFrameMore : Service → Type 0
HasFrameMore s = s.sent + s.got + length s.frames < taken_most

-- the states that a sitting of such a step leaves
abbrev pub WaitsOnLine : Type 0 → Member → State → Type 0
WaitsOnLine told m (Away (Exchange l offer)) = IsLine l × IsOfferThere m.checkpoint.tables offer
WaitsOnLine told m (Away (SpoolArrival number n text s)) = IsServable s × HasFrameMore s × HasGroups m text
WaitsOnLine told m (Away (Acknowledge number s)) = IsServable s
WaitsOnLine told m Told = Unit {0}
WaitsOnLine told m _ = ⊥

-- what a step may go on with
module _ {P C : Type 0} {plants : PlantGhosts P} {steadies : SteadyGhosts C} {copies : CopyGhosts C} where
  abbrev pub MayResumeLine : Type 0 → Complex P C plants steadies copies → Member → Aside → Found → Type 0
  MayResumeLine told x m (Exchange l offer) found = IsLine l × (found ≡ wire_found found.read found.wire found.frames)
      × All IsFrame found.frames
  MayResumeLine told x m (SpoolArrival number n text s) found = IsServable s × HasFrameMore s × AreLines text
      × (found ≡ deck_found found.lost) × DeckIsSpooled x m.id text found.lost
  MayResumeLine told x m (Acknowledge number s) found = IsServable s
      × (found ≡ record nothing_found { wire = found.wire })
  MayResumeLine told x m _ found = ⊥
