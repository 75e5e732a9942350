-- How a turn begins and how it is ended.
use Rattle.std.specs.Prelude.{◌≡◌, ℕ, ◌+◌, ◌≤◌, ◌<◌, false, Result, Ok, Err}
use Rattle.mas_types.specs.declared.ids.MemberId.{MemberId}
use Rattle.mas_types.specs.Ids.{nobody}
use Rattle.mas_types.specs.Limits.{members_most, steps_most}
use Rattle.lock_cycle.specs.Books.{IsMember}
use Rattle.script_lang.specs.declared.types.Ask.{Ask}
use Rattle.spool_plant.specs.declared.plant.Plant.{Ghosts as PlantGhosts}
use Rattle.ckpt_copy.specs.declared.copying.Copying.{Ghosts as CopyGhosts}
use Rattle.ckpt_form.specs.declared.steady.Steady.{Ghosts as SteadyGhosts}
use Rattle.ckpt_tables.specs.Shape.{page_count}
use Rattle.duplex_pair.specs.Halves.{SomeAlive}
use Rattle.mas_complex.specs.declared.complex.Complex.{Complex}
use Rattle.mas_complex.specs.Parts.{parts_of, unreserved_in}
use Rattle.member_node.specs.declared.member.Member.{Member}
use Rattle.member_node.specs.declared.member.NodeNo.{NodeNo}
use Rattle.member_node.specs.declared.member.NodeNo.TheVariants as no_node
use Rattle.member_asides.specs.Asides.{stopped_at}
use Rattle.member_resets.specs.Quiet.{IsQuiet}
use Rattle.member_lines.specs.Closes.{SaysStopped}
use Rattle.member_lines.specs.Earlier.{IsStepKept}
use Rattle.mas_race.specs.Between.{BetweenTurns, is_held}
use Rattle.member_racing.specs.Bounds.{level_most}
use Rattle.member_racing.specs.Stages.{Raced, Stood}
use Rattle.member_racing.specs.Waits.{Waits}
use Rattle.member_racing.specs.declared.stages.Stage.{Stage as Stands}
use Rattle.member_racing.specs.declared.stages.Stage.TheVariants as line

abbrev pub raced_at : MemberId → ℕ → Ask → Stands → Raced
raced_at by at what s = record { by = by; number = at; what = what; stands = s }

abbrev pub stood_at : MemberId → ℕ → Stands → Stood
stood_at by at s = record { by = by; number = at; stands = s }

-- the answer once the operator said that a member was stopped: its line has closed
abbrev pub closed_by : Result (Unit {0}) NodeNo → Result Stands NodeNo
closed_by (Ok done) = Ok line.Closed
closed_by (Err e) = Err e

module _ {P C : Type 0} {plants : PlantGhosts P} {steadies : SteadyGhosts C} {copies : CopyGhosts C} where
  -- A turn is taken: a copy counts as alive, levels are left, and nobody holds who isn't stopped. Where nobody holds,
  -- a member that has the lock may take its seat.
  pub record MayTurn (x : Complex P C plants steadies copies) (m : Member) (at : ℕ) (what : Ask) (s : Stands) : Type 0
    where
      pub rest : BetweenTurns x
      pub waits : Waits x m at what s
      pub some : SomeAlive x.pair.first.alive x.pair.second.alive
      pub level : x.level < level_most
      pub unheld : is_held x.book ≡ false
      pub quiet : x.book.holder ≡ nobody → IsQuiet plants copies (parts_of x) (page_count x.base.config)

  -- A turn may be ended: where its member was halted the line that says so tells nothing that isn't kept.
  pub record MayEnd (by : MemberId) (at : ℕ) (x : Complex P C plants steadies copies) (tried : Result Stands NodeNo)
      : Type 0 where
    pub member : IsMember x.book by
    pub few : by.0 ≤ members_most
    pub step : at ≤ steps_most
    pub kept : tried ≡ Err no_node.Halted → plants.tells → IsStepKept x by (at + 1)

  -- the operator says that the member was stopped, which is stopped in the book then; what it had reserved is given up
  pub record SaysStop (by : MemberId) (at : ℕ) (x y : Complex P C plants steadies copies)
      (result : Result Stands NodeNo) : Type 0 where
    pub there : Complex P C plants steadies copies
    pub stopped : parts_of there ≡ unreserved_in (stopped_at by (parts_of x))
    pub said : Result (Unit {0}) NodeNo
    pub says : SaysStopped by at there y said
    pub frame : parts_of y ≡ record (parts_of there) { plant = y.plant }
    pub answer : result ≡ closed_by said

  -- what was done so far is ended so
  abbrev pub EndsTurn : MemberId → ℕ → Complex P C plants steadies copies → Complex P C plants steadies copies
      → Result Stands NodeNo → Result Stands NodeNo → Type 0
  EndsTurn by at x y (Ok s) result = (parts_of y ≡ parts_of x) × (result ≡ Ok s)
  EndsTurn by at x y (Err no_node.Halted) result = SaysStop by at x y result
  EndsTurn by at x y (Err no_node.BothLost) result = (parts_of y ≡ parts_of x) × (result ≡ Err no_node.BothLost)
  EndsTurn by at x y (Err no_node.NoMemory) result = (parts_of y ≡ unreserved_in (parts_of x))
      × (result ≡ Err no_node.NoMemory)
  EndsTurn by at x y (Err no_node.ConsoleFault) result = (parts_of y ≡ unreserved_in (parts_of x))
      × (result ≡ Err no_node.ConsoleFault)
