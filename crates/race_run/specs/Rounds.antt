-- The passes of a race: the root pass, those that it gives to the members, and what it knows once it took them in
-- again.
use Rattle.std.specs.Prelude.{◌≡◌, ℕ, ◌+◌, ◌<◌, ◌≤◌, Bool, true, false, List, [], ◌∷◌, length, Option, Some}
use Rattle.std.specs.Prelude.{None, Result}
use Rattle.mas_types.specs.declared.answers.Status.{Status}
use Rattle.mas_types.specs.declared.answers.Status.TheVariants as status
use Rattle.mas_types.specs.Limits.{members_most}
use Rattle.script_lang.specs.declared.types.Step.{Step}
use Rattle.spool_plant.specs.View.{View as Shown}
use Rattle.spool_plant.specs.declared.plant.Plant.{Ghosts as PlantGhosts}
use Rattle.ckpt_copy.specs.declared.copying.Copying.{Ghosts as CopyGhosts}
use Rattle.ckpt_form.specs.declared.steady.Steady.{Ghosts as SteadyGhosts}
use Rattle.mas_complex.specs.declared.complex.Complex.{Complex}
use Rattle.mas_complex.specs.Parts.{shown_of}
use Rattle.gate_facts.specs.declared.facts.Facts.{Facts}
use Rattle.gate_facts.specs.Memory.{seats}
use Rattle.gate_facts.specs.Values.{begun_of, lines_of, marked_at}
use Rattle.gate_facts.specs.Ways.{EachWay}
use Rattle.gate_turns.specs.Shared.{facts_of}
use Rattle.member_gate.specs.declared.pass.Pass.{Pass}
use Rattle.member_gate.specs.declared.view.View.{View}
use Rattle.member_gate.specs.Passes.{view}
use Rattle.member_gate.specs.Views.{MayBegin as MayOpen, giving, given_to, joined, sight}
use Rattle.member_node.specs.declared.member.Member.{Member}
use Rattle.member_node.specs.declared.member.NodeNo.{NodeNo}
use Rattle.run_opening.specs.Statuses.{status_of}
use Rattle.mas_race.specs.Beginnings.{Began}
use Rattle.mas_race.specs.Passings.{RestsAs}
use Rattle.race_run.specs.Races.{lesser}
use Rattle.race_run.specs.Racers.{RacedWith}
use Rattle.race_run.specs.Values.{AreNew, MayAllBegin}

-- the first member is taken away, if there is one
abbrev pub TakesFirst : List Member → List Member → Option Member → Type 0
TakesFirst was now None = was ≡ []
TakesFirst was now (Some m) = was ≡ m ∷ now

-- The root pass that knows these facts of the value, and has split a pass for each member before this one.
pub record IsRoot (start : Bool → Facts) (at : ℕ) (v : View) : Type 0 where
  pub free : v.has ≡ false
  pub root : v.root ≡ true
  pub member : v.member ≡ 0
  pub fresh : (m : ℕ) → at ≤ m → marked_at v.given m ≡ false
  pub operator : marked_at v.cares 0 ≡ true
  pub cares : (m : ℕ) → at ≤ m → m < seats → marked_at v.cares m ≡ true
  pub last : (told : Bool) → (sight v told).last ≡ start told
  pub unheard : (told : Bool) → (sight v told).heard ≡ []

-- These members are still to race, of so many: the root pass of the gate has split no pass for them, and each may begin
-- with its lines on the value with which the race began.
pub record MayAllRace {V P C : Type 0} {plants : PlantGhosts P} {steadies : SteadyGhosts C} {copies : CopyGhosts C}
    (root : Pass V) (value : V → Complex P C plants steadies copies) (o : Began) (count : ℕ) (ms : List Member)
    (steps : List Step) : Type 0 where
  pub start : Complex P C plants steadies copies
  pub at : ℕ
  pub some : 0 < at
  pub many : at + length ms ≡ count + 1
  pub few : count ≤ members_most
  pub rests : RestsAs o start
  pub opens : EachWay plants.tells (λ told. MayOpen (facts_of told (shown_of start)))
  pub new : plants.tells → AreNew (facts_of true (shown_of start))
  pub is_root : IsRoot (λ told. facts_of told (shown_of start)) at (view root)
  pub each : MayAllBegin start steps at ms

-- Members have raced, each with its pass, beside all after it: what the root pass knows once it took in their passes,
-- and the status of them all.
module _ (tells : Type 0) (entry : Shown) (steps : List Step) where
  abbrev pub RacedOn : View → List Member → View → Status → Type 0
  RacedOn root [] end answer = (end ≡ root) × (answer ≡ status.Done)
  RacedOn root (m ∷ ms) end answer = (mid : View) × (v : View) × (one : Result (Unit {0}) NodeNo) × (rest : Status)
      × RacedOn (giving m.id.0 root) ms mid rest × RacedWith tells entry (given_to m.id.0 root) v m.id steps one
      × (end ≡ joined mid v) × (answer ≡ lesser (status_of one) rest)

-- What it knows of a member is what that member's pass knew.
pub record KnowsAs (root v : View) (told : Bool) (m : ℕ) : Type 0 where
  pub cares : marked_at root.cares m ≡ true
  pub begun : begun_of (sight root told).last m ≡ begun_of (sight v told).last m
  pub lines : lines_of (sight root told).last m ≡ lines_of (sight v told).last m
