-- A sitting from any state of a step: where it may be sat, and how it leaves the step.
use Rattle.std.specs.Prelude.{◌≡◌, ℕ, ◌+◌, ◌≤◌, ◌<◌, All}
use Rattle.mas_types.specs.declared.ids.MemberId.{MemberId}
use Rattle.mas_types.specs.declared.queues.Queue.{Queue}
use Rattle.mas_types.specs.Fit.{AreLines, IsJobFields, IsLine}
use Rattle.mas_types.specs.Sound.{IsSound}
use Rattle.spool_plant.specs.View.{View}
use Rattle.spool_plant.specs.declared.plant.Plant.{Ghosts as PlantGhosts}
use Rattle.ckpt_copy.specs.declared.copying.Copying.{Ghosts as CopyGhosts}
use Rattle.ckpt_form.specs.declared.steady.Steady.{Ghosts as SteadyGhosts}
use Rattle.mas_complex.specs.declared.complex.Complex.{Complex}
use Rattle.mas_complex.specs.Parts.{Parts, parts_of}
use Rattle.member_node.specs.declared.member.Member.{Member}
use Rattle.member_node.specs.Reads.{too_high}
use Rattle.nje_frames.specs.Grammar.{IsFrame}
use Rattle.script_lang.specs.Asks.{units_most}
use Rattle.step_turns.specs.Courses.{sittings_most}
use Rattle.step_turns.specs.Laws.{units_done, units_left}
use Rattle.step_turns.specs.States.{nothing_found}
use Rattle.step_turns.specs.declared.states.Found.{Found}
use Rattle.step_turns.specs.declared.states.Holder.{Holder}
use Rattle.step_turns.specs.declared.states.State.{State}
use Rattle.step_turns.specs.declared.states.State.TheVariants.{Away, Fresh, Rested, Told}
use Rattle.step_turns.specs.declared.states.Aside.TheVariants.{Acknowledge, Exchange, PrintLines, ReadText, SpoolArrival, SpoolDeck, SpoolOutputs}
use Rattle.step_turns.specs.declared.states.Task.{Task}
use Rattle.step_turns.specs.declared.states.Task.TheVariants.{Deck, Give, Line, Work}
use Rattle.member_sittings.specs.declared.ends.SittingEnd.{SittingEnd}
use Rattle.member_sittings.specs.Asides.{HasGroups, IsSpooled, deck_found}
use Rattle.member_sittings.specs.Sat.{Start}
use Rattle.member_sittings.specs.Whole.{IsGivable, IsLeftIn, IsToSit, queue_of}
use Rattle.member_frames.specs.Ready.{IsReady, IsToResume}
use Rattle.member_frames.specs.Waits.{HasFrameMore, IsServable, WaitsOnLine}
use Rattle.member_hand.specs.declared.sits.Stand.{Stand}
use Rattle.member_frames.specs.Asides.{wire_found}

-- what a step may be asked to do, by the member
abbrev pub MayBeAsked : Queue → MemberId → Task → Type 0
MayBeAsked base by (Give c) = IsGivable base by c
MayBeAsked base by (Deck fields text) = IsJobFields fields × AreLines text
MayBeAsked base by (Work n) = n ≤ units_most
MayBeAsked base by (Line l) = IsLine l

-- No step may play more units than a script may ask for. One that serves a line has as many as the frames that came may
-- need.
abbrev pub AreFewUnits : State → Type 0
AreFewUnits (Fresh (Line l)) = Unit {0}
AreFewUnits (Away (Exchange l offer)) = Unit {0}
AreFewUnits (Away (SpoolArrival number job cards service)) = Unit {0}
AreFewUnits (Away (Acknowledge number service)) = Unit {0}
AreFewUnits s = units_done s + units_left s ≤ units_most

-- A member waits rightly in a state of its step: for a deck, and for a job that came over a line, it has the groups
-- that its text needs; the job of work is under way, its outputs have their groups, or an output is busy at the member;
-- the job that is offered on a line is there.
abbrev pub WaitsWell : Type 0 → Queue → Member → State → Type 0
WaitsWell told Q m (Away (SpoolDeck n text)) = HasGroups m text
WaitsWell told Q m (Away (Exchange l offer)) = WaitsOnLine told m (Away (Exchange l offer))
WaitsWell told Q m (Away (SpoolArrival number job cards service)) =
    WaitsOnLine told m (Away (SpoolArrival number job cards service))
WaitsWell told Q m (Away (Acknowledge number service)) = WaitsOnLine told m (Away (Acknowledge number service))
WaitsWell told Q m s = IsReady told Q m.checkpoint.tables m.id s

module _ {P C : Type 0} (plants : PlantGhosts P) (copies : CopyGhosts C) where
  abbrev v : Parts P C → View
  v x = plants.view x.plant

  -- what a step in a state may go on with, by what it found in the acts that it waited for
  abbrev pub IsFoundRight : Parts P C → MemberId → State → Found → Type 0
  IsFoundRight x by (Fresh task) found = MayBeAsked x.base by task × (found ≡ nothing_found)
  IsFoundRight x by (Away (SpoolDeck n text)) found = AreLines text × (found ≡ deck_found found.lost)
      × IsSpooled plants x by text found.lost
  IsFoundRight x by (Away (Exchange l offer)) found = IsLine l
      × (found ≡ wire_found found.read found.wire found.frames) × All IsFrame found.frames
  IsFoundRight x by (Away (SpoolArrival number job cards service)) found = IsServable service × HasFrameMore service
      × AreLines cards × (found ≡ deck_found found.lost) × IsSpooled plants x by cards found.lost
  IsFoundRight x by (Away (Acknowledge number service)) found = IsServable service
      × (found ≡ record nothing_found { wire = found.wire })
  IsFoundRight x by (Away aside) found = IsToResume plants x by aside found
  IsFoundRight x by (Rested p) found = found ≡ nothing_found
  IsFoundRight x by Told found = ⊥

  -- a member may sit in a state of its step, with what it found
  pub record IsToSitFrom (x : Parts P C) (m : Member) (s : Start) : Type 0 where
    pub sits : IsToSit plants copies x m s.holder
    pub base_sound : plants.tells → IsSound x.base
    pub right : IsFoundRight x m.id s.state s.found
    pub few : AreFewUnits s.state
    pub level : x.level + units_left s.state + 3 < too_high

-- what a stand of a step says
abbrev pub start_of : Stand → Start
start_of at = record { holder = at.holder; state = at.state; found = at.found }

-- a task that a member begins, which has found nothing
abbrev pub begins : Holder → Task → Start
begins h task = record { holder = h; state = Fresh task; found = nothing_found }

-- WHICH STATES A STEP COMES TO from one: it waits for a deck's text after a deck, for the exchange at the beginning of
-- one that serves a line, and for a job's text or an acknowledgement in it; and it rests or waits otherwise where it
-- works. None begins anew.

abbrev pub IsWork : State → Type 0
IsWork (Fresh (Work n)) = Unit {0}
IsWork (Fresh (Give c)) = ⊥
IsWork (Fresh (Deck fields text)) = ⊥
IsWork (Fresh (Line l)) = ⊥
IsWork (Away (SpoolDeck n text)) = ⊥
IsWork (Away (ReadText runs n fields p)) = Unit {0}
IsWork (Away (SpoolOutputs n specs p)) = Unit {0}
IsWork (Away (PrintLines n i last p)) = Unit {0}
IsWork (Away (Exchange l offer)) = ⊥
IsWork (Away (SpoolArrival number job cards service)) = ⊥
IsWork (Away (Acknowledge number service)) = ⊥
IsWork (Rested p) = Unit {0}
IsWork Told = ⊥

abbrev pub IsDeckTask : State → Type 0
IsDeckTask (Fresh (Deck fields text)) = Unit {0}
IsDeckTask _ = ⊥

abbrev pub IsLineTask : State → Type 0
IsLineTask (Fresh (Line l)) = Unit {0}
IsLineTask _ = ⊥

-- a step that serves a line
abbrev pub IsServing : State → Type 0
IsServing (Fresh (Line l)) = Unit {0}
IsServing (Away (Exchange l offer)) = Unit {0}
IsServing (Away (SpoolArrival number job cards service)) = Unit {0}
IsServing (Away (Acknowledge number service)) = Unit {0}
IsServing _ = ⊥

abbrev pub ComesTo : State → State → Type 0
ComesTo s Told = Unit {0}
ComesTo s (Fresh task) = ⊥
ComesTo s (Rested p) = IsWork s
ComesTo s (Away (SpoolDeck n text)) = IsDeckTask s
ComesTo s (Away (ReadText runs n fields p)) = IsWork s
ComesTo s (Away (SpoolOutputs n specs p)) = IsWork s
ComesTo s (Away (PrintLines n i last p)) = IsWork s
ComesTo s (Away (Exchange l offer)) = IsLineTask s
ComesTo s (Away (SpoolArrival number job cards service)) = IsServing s
ComesTo s (Away (Acknowledge number service)) = IsServing s

-- How a sitting leaves a step that stood so: the next state has fewer sittings before it, and no more units; and the
-- level is one higher at most than before the units that were played.
pub record GoesOn (s next : State) (was is : ℕ) : Type 0 where
  pub falls : sittings_most next < sittings_most s
  pub few : units_done next + units_left next ≤ units_done s + units_left s
  pub level : is + units_left next ≤ was + units_left s + 1
  pub comes : ComesTo s next

-- It leaves its member sitting, or once the step is told at its seat; and the member waits rightly.
pub record LeavesStep {P C : Type 0} (plants : PlantGhosts P) (copies : CopyGhosts C) (x y : Parts P C) (m : Member)
    (s : Start) (e : SittingEnd) : Type 0 where
  pub sits : IsLeftIn plants copies e.next y m s.holder.step
  pub waits : WaitsWell plants.tells (queue_of y) m e.next
  pub goes : GoesOn s.state e.next x.level y.level

-- OVER THE SHARED VALUE

module _ {P C : Type 0} {plants : PlantGhosts P} {steadies : SteadyGhosts C} {copies : CopyGhosts C} where
  abbrev pub MaySitFrom : Complex P C plants steadies copies → Member → Start → Type 0
  MaySitFrom x m s = IsToSitFrom plants copies (parts_of x) m s

  abbrev pub SitsOnFrom : Complex P C plants steadies copies → Complex P C plants steadies copies → Member → Start
      → SittingEnd → Type 0
  SitsOnFrom x y m s e = LeavesStep plants copies (parts_of x) (parts_of y) m s e
