-- The lines that members play in turns, and what is known of one within the limits, by what becomes of it.
use Rattle.std.specs.Prelude.{◌≡◌, ◌⊎◌, ◌≤◌, false, true, Option, None, Some}
use Rattle.mas_types.specs.declared.commands.Command.TheVariants as command
use Rattle.mas_types.specs.declared.ids.MemberId.{MemberId}
use Rattle.mas_types.specs.declared.queues.Config.{Config}
use Rattle.mas_types.specs.declared.queues.Queue.{Queue}
use Rattle.mas_types.specs.Closings.{AreMembersNamed}
use Rattle.mas_types.specs.Ids.{nobody}
use Rattle.mas_types.specs.Limits.{members_most}
use Rattle.mas_types.specs.Queue.{is_member}
use Rattle.lock_cycle.specs.Books.{Book, is_holder, is_stopped, try_refusal}
use Rattle.script_lang.specs.Asks.{units_most}
use Rattle.script_lang.specs.declared.types.Ask.{Ask}
use Rattle.script_lang.specs.declared.types.Ask.TheVariants as ask
use Rattle.run_turns.specs.Admissions.{Admission, Denied, Frees, Locks, Plays, Refused, Replaces, Resets, TakesOver, Unplayed, admitted, resets}
use Rattle.run_turns.specs.Laws.{IsUp}
use Rattle.step_turns.specs.Laws.{on_line}
use Rattle.step_turns.specs.declared.states.State.TheVariants.{Fresh}
use Rattle.step_turns.specs.declared.states.Task.{Task}
use Rattle.step_turns.specs.declared.states.Task.TheVariants.{Give}
use Rattle.member_sittings.specs.Whole.{IsGivable}
use Rattle.member_resets.specs.Sits.{MayBeAsked}

-- a deck, a command, or work: in a race no line keeps the lock, gives it up, serves another node or replaces a copy
abbrev pub IsRaced : Ask → Type 0
IsRaced (ask.Deck cards) = Unit {0}
IsRaced (ask.Command c) = Unit {0}
IsRaced (ask.Work n) = n ≤ units_most
IsRaced _ = ⊥

-- the member that a task resets: such a command is played as a line of its own
abbrev pub resets_of : Task → Option MemberId
resets_of (Give c) = resets c
resets_of _ = None

-- a stopped member of the configuration, which this one may reset
pub record IsDown (base : Queue) (b : Book) (by of : MemberId) : Type 0 where
  pub member : is_member base.config of ≡ true
  pub down : is_stopped b of ≡ true
  pub few : of.0 ≤ members_most
  pub givable : IsGivable base by (command.Reset of)

-- who says the line of a refusal: the operator, or the member itself, which is up
abbrev pub IsSaidBy : Config → Book → MemberId → MemberId → Type 0
IsSaidBy config b by sayer = (sayer ≡ nobody) ⊎ ((sayer ≡ by) × IsUp config b by)

module _ (base : Queue) (b : Book) (by : MemberId) where
  abbrev pub IsKnown : Admission → Type 0
  IsKnown (Refused sayer end) = IsSaidBy base.config b by sayer × AreMembersNamed end
  IsKnown (Denied why) = IsUp base.config b by × (try_refusal b by false ≡ Some why)
  IsKnown (Plays task) = IsUp base.config b by × (try_refusal b by false ≡ None) × MayBeAsked base by task
      × (on_line (Fresh task) ≡ false) × (resets_of task ≡ None)
  IsKnown (Resets of) = IsUp base.config b by × (try_refusal b by false ≡ None) × IsDown base b by of
  IsKnown (TakesOver of) = IsUp base.config b by × (is_holder b of ≡ true) × IsDown base b by of
  IsKnown (Replaces dev) = ⊥
  IsKnown Locks = ⊥
  IsKnown Frees = ⊥
  IsKnown Unplayed = ⊥

-- A line of the member that is raced, within the limits: whatever the book says, this is known of what becomes of it.
pub record IsAsked (base : Queue) (by : MemberId) (what : Ask) : Type 0 where
  pub raced : IsRaced what
  pub known : (b : Book) → IsKnown base b by (admitted base.config b by what)
