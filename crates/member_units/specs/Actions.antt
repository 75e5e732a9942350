-- What a member does next in a sitting of a step of work: what it gives, what may follow, and where it may.
use Rattle.std.specs.Prelude.{◌≡◌, ◌≢◌, ℕ, suc, ◌+◌, ◌*◌, ◌≤◌, ◌<◌, ◌^◌, Bool, true, false, List, [], length, Option, Some, None, Result, IfOk}
use Rattle.std.specs.Option.{option_map_or}
use Rattle.member_units.specs.Names.{AreFitOutputs, AreMembersNamed, AreOutputs, Follow, Found, Fresh, HasRoom, HasSat, IsBare, IsNamedOutcome, IsReady, IsUnderWay, Leaves, MayCloseBy, MayEndBy, MayResume, Plays, Rested, Told, Work, Works, aside_most, begins, bounds, follow, goes_on_by, leaves, outside, parts_of, place_of, queue_here, queue_kept, run_of, sat_in, sittings_most, to_play, units_from, wrote_of}
use Rattle.job_outcome.specs.declared.outcomes.Outcome.{Outcome}
use Rattle.job_outcome.specs.declared.units.UnitEnd.{UnitEnd}
use Rattle.job_outcome.specs.declared.units.UnitEnd.TheVariants as ends
use Rattle.mas_types.specs.declared.ids.JobNo.{JobNo}
use Rattle.mas_types.specs.declared.jobs.OutSpec.{OutSpec}
use Rattle.mas_types.specs.declared.journals.Entry.{Entry}
use Rattle.mas_types.specs.declared.queues.Queue.{Queue}
use Rattle.mas_types.specs.Commands.Life.{groups_of_outputs}
use Rattle.mas_types.specs.Run.{run}
use Rattle.member_node.specs.declared.member.Member.{Member}
use Rattle.member_node.specs.declared.member.NodeNo.{NodeNo}
use Rattle.member_sittings.specs.declared.ends.SittingEnd.{SittingEnd}
use Rattle.member_sittings.specs.Names.{Complex, PlantGhosts, SteadyGhosts, Ghosts as CopyGhosts}
use Rattle.member_sittings.specs.Sat.{Start}
use Rattle.step_turns.specs.Entries.{given_in}
use Rattle.step_turns.specs.Laws.{units_done, units_left}
use Rattle.step_turns.specs.Turns.{Turn, after_part, closes_as, turn, waits_for}
use Rattle.step_turns.specs.declared.states.Aside.{Aside}
use Rattle.step_turns.specs.declared.states.Aside.TheVariants.{ReadText, SpoolOutputs}
use Rattle.step_turns.specs.declared.states.Holder.{Holder}
use Rattle.step_turns.specs.declared.states.Progress.{Progress}
use Rattle.step_turns.specs.declared.states.State.{State}
use Rattle.member_units.specs.declared.actions.Action.{Action}
use Rattle.member_units.specs.declared.actions.Action.TheVariants as action
use Rattle.member_giving.specs.Parts.{MayGive, MayLose, commands_of, ends_of}
use Rattle.member_giving.specs.declared.parts.Part.{Part}
use Rattle.member_giving.specs.declared.parts.Part.TheVariants as part

-- the entries of a part, at a queue
abbrev pub entries_of : Holder → Queue → Part → List Entry
entries_of h Q p = given_in Q h.by h.step (commands_of h.by Q p)

-- the acts for which the step waits then: once it is done
abbrev pub wait_after : UnitEnd → Option Aside → Option Aside
wait_after e None = None
wait_after ends.Done (Some a) = Some a
wait_after ends.Idle (Some a) = None
wait_after (ends.Refused end) (Some a) = None

-- the rest of the sitting then, with so many commands given
abbrev pub rest_turn : Holder → UnitEnd → Option Aside → Progress → Queue → ℕ → Turn
rest_turn h e then p Q given = option_map_or (waits_for h)
    (wait_after e then) (goes_on_by h e p.left (units_from h p.left) Q given p.done)

-- the turn of an action, with so many commands given before
abbrev pub action_turn : Holder → Queue → ℕ → Action → Turn
action_turn h Q given (action.Close end) = closes_as h end
action_turn h Q given (action.Wait s) = leaves s
action_turn h Q given (action.Give p then at) = after_part (entries_of h Q p)
    (rest_turn h (ends_of h.by h.step Q p) then at (run Q (entries_of h Q p)) (given + length (entries_of h Q p)))

-- HOW MUCH MAY FOLLOW

-- the sittings and batches after a part
abbrev pub most_then : Option Aside → Progress → ℕ
most_then None p = 3 * p.left + 1
most_then (Some a) p = aside_most a

-- the sittings and batches of an action and after it
abbrev pub most_of : Action → ℕ
most_of (action.Close end) = 0
most_of (action.Wait s) = sittings_most s
most_of (action.Give p then at) = most_then then at + 1

-- the units that may be played still, with the one under way
abbrev pub left_of : Action → ℕ
left_of (action.Close end) = 0
left_of (action.Wait s) = units_left s
left_of (action.Give p then at) = suc at.left

-- all units of the step
abbrev pub units_of : Action → ℕ
units_of (action.Close end) = 0
units_of (action.Wait s) = units_done s + units_left s
units_of (action.Give p then at) = at.done + at.left + 1

-- more sittings than may follow
abbrev pub above : Action → ℕ
above (action.Close end) = 1
above (action.Wait s) = sittings_most s + 1
above (action.Give p then at) = most_then then at + 1

abbrev pub ahead : ℕ → Action → Follow
ahead level a = follow (above a) (units_of a) (level + left_of a + 1)

-- what may follow a sitting from this state of a step
abbrev pub follow_in : ℕ → State → Follow
follow_in level s = follow (sittings_most s) (units_done s + units_left s) (level + units_left s + 1)

pub record IsUpTo (f g : Follow) : Type 0 where
  pub most : f.most ≤ g.most
  pub units : f.units ≤ g.units
  pub level : f.level ≤ g.level

-- a unit that ended so in this progress of its step, after so many commands of the sitting
pub record UnitDone : Type 0 where
  pub end : UnitEnd
  pub progress : Progress
  pub given : ℕ

abbrev pub unit_done : UnitEnd → Progress → ℕ → UnitDone
unit_done e p given = record { end = e; progress = p; given = given }

-- WHAT IT RESTS ON

-- the step closes as one of so many units may
abbrev pub IsCaused : ℕ → Found → Action → Type 0
IsCaused units found (action.Close end) = MayCloseBy units found end
IsCaused units found (action.Wait s) = Unit {0}
IsCaused units found (action.Give p then at) = MayLose found p

-- acts in which the text of a job is read
abbrev pub is_text : Aside → Bool
is_text (ReadText runs n fields p) = true
is_text _ = false

module _ {P C : Type 0} {plants : PlantGhosts P} {steadies : SteadyGhosts C} {copies : CopyGhosts C} where
  -- room for so many commands and batches, and for one command more
  pub record IsRoomy (x : Complex P C plants steadies copies) (m : Member) (k : ℕ) : Type 0 where
    pub room : HasRoom x m k
    pub order : m.checkpoint.tables.order + 32 * (k + 1) < 2 ^ 63

  -- a job that is under way ends with these outputs, whose groups are so many
  pub record HasOutputs (x : Complex P C plants steadies copies) (m : Member) (a : Aside) (at : Progress)
      (needed : ℕ) : Type 0 where
    pub job : JobNo
    pub specs : List OutSpec
    pub is : a ≡ SpoolOutputs job specs at
    pub outputs : AreOutputs specs
    pub all : needed ≡ groups_of_outputs specs
    pub under_way : plants.tells → IsUnderWay (queue_here x m) m.id job

  -- what a step may wait for after a part: outputs that are written into the groups that it took
  abbrev pub MayFollow : Complex P C plants steadies copies → Member → Part → Option Aside → Progress → Type 0
  MayFollow x m p None at = Unit {0}
  MayFollow x m (part.Groups needed) (Some a) at = HasOutputs x m a at needed
  MayFollow x m _ (Some a) at = ⊥

  -- a member may do this
  abbrev pub MayBegin : Complex P C plants steadies copies → Member → Action → Type 0
  MayBegin x m (action.Close end) = AreMembersNamed end
  MayBegin x m (action.Wait s) = (s ≢ Told) × IsReady plants.tells (queue_here x m) m.checkpoint.tables m.id s
  MayBegin x m (action.Give p then at) = MayGive x m p × MayFollow x m p then at

  -- it may, and this much may follow
  pub record IsNext (x : Complex P C plants steadies copies) (m : Member) (f : Follow) (a : Action) : Type 0 where
    pub may : MayBegin x m a
    pub most : most_of a < f.most
    pub units : units_of a ≤ f.units
    pub left : x.level + left_of a + 1 ≤ f.level

  -- The action where the step goes on in this progress. Where content is told its turn is that of the units that
  -- follow.
  pub record GoesOn (x : Complex P C plants steadies copies) (m : Member) (h : Holder) (p : Progress) (a : Action)
      : Type 0 where
    pub is : plants.tells → (given : ℕ) → action_turn h (queue_here x m) given a
        ≡ units_from h p.left (queue_here x m) given p.done
    pub next : IsNext x m (follow_in x.level (Rested p)) a
    pub caused : (units : ℕ) (found : Found) → p.done + p.left ≤ units → IsCaused units found a

  -- the action after a unit
  pub record GoesAfter (x : Complex P C plants steadies copies) (m : Member) (h : Holder) (d : UnitDone) (a : Action)
      : Type 0 where
    pub is : plants.tells → action_turn h (queue_here x m) d.given a ≡ goes_on_by h d.end d.progress.left
        (units_from h d.progress.left) (queue_here x m) d.given d.progress.done
    pub next : IsNext x m (follow (3 * d.progress.left + 2) (d.progress.done + d.progress.left + 1)
        (x.level + d.progress.left + 1)) a
    pub caused : (units : ℕ) (found : Found) → d.progress.done + d.progress.left + 1 ≤ units → MayEndBy found d.end
        → IsCaused units found a

  -- The first action of a sitting that begins so. Where content is told its turn is what the queue gives.
  pub record IsFirst (x : Complex P C plants steadies copies) (m : Member) (s : Start) (a : Action) : Type 0 where
    pub may : MayBegin x m a
    pub is : plants.tells → action_turn s.holder (queue_here x m) 0 a ≡ turn s.holder (queue_here x m) s.state s.found
    pub upto : IsUpTo (ahead x.level a) (follow_in x.level s.state)
    pub caused : IsCaused (units_done s.state + units_left s.state) s.found a

  -- a sitting begins after acts for which a unit waited, by what was found in them
  pub record MayGoOn (x : Complex P C plants steadies copies) (m : Member) (h : Holder) (a : Aside) (found : Found)
      : Type 0 where
    pub works : Works x m h
    pub bare : IsBare x m
    pub may : MayResume x m.id a found

  -- and after the text of a job was read, which goes on so
  pub record IsRead (x : Complex P C plants steadies copies) (m : Member) (h : Holder) (o : Outcome) (n : JobNo)
      : Type 0 where
    pub works : Works x m h
    pub bare : IsBare x m
    pub fits : AreFitOutputs o
    pub named : IsNamedOutcome o
    pub under_way : plants.tells → IsUnderWay (queue_kept x) m.id n

-- A SITTING

-- what the member of a sitting does first
pub record ToDo : Type 0 where
  pub holder : Holder
  pub action : Action

abbrev pub to_do : Holder → Action → ToDo
to_do h a = record { holder = h; action = a }

module _ {P C : Type 0} {plants : PlantGhosts P} {steadies : SteadyGhosts C} {copies : CopyGhosts C} where
  -- it may be played from this action on, with nothing unwritten
  pub record MayPlay (x : Complex P C plants steadies copies) (m : Member) (h : Holder) (a : Action) : Type 0 where
    pub works : Works x m h
    pub nothing : m.batch ≡ []
    pub room : IsRoomy x m (left_of a + 3)
    pub units : (ahead x.level a).units ≤ 9999
    pub may : MayBegin x m a

  -- it was played from this action on, within what may follow
  pub record HasPlayed (d : ToDo) (x : Complex P C plants steadies copies) (m : Member)
      (y : Complex P C plants steadies copies) (n : Member) (result : Result SittingEnd NodeNo) : Type 0 where
    pub run : run_of y n ≡ run_of x m
    pub plays : (f : Follow) (found : Found) → IsUpTo (ahead x.level d.action) f → IsCaused f.units found d.action
        → Plays plants.tells (bounds f.most f.units found)
        (to_play d.holder 0 (wrote_of [] (action_turn d.holder (queue_here x m) 0 d.action))) (place_of x m) (outside y)
        result
    pub leaves : (f : Follow) → IsUpTo (ahead x.level d.action) f → IfOk result (Leaves y n d.holder.step f)

  -- It was played from a state of its step, and leaves what may follow. A step that has done no unit is at its
  -- beginning.
  pub record HasWorked (s : Start) (x : Complex P C plants steadies copies) (m : Member)
      (y : Complex P C plants steadies copies) (n : Member) (result : Result SittingEnd NodeNo) : Type 0 where
    pub frame : parts_of y ≡ sat_in (parts_of y) (parts_of x)
    pub id : n.id ≡ m.id
    pub sat : HasSat s x y result
    pub fresh : (p : Progress) → s.state ≡ Rested p → p.done ≡ 0
        → HasSat (begins s.holder (Fresh (Work p.left))) x y result
    pub leaves : IfOk result (Leaves y n s.holder.step (follow_in x.level s.state))
