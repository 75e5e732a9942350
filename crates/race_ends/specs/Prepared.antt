-- What the operator does with the lines of a race before the members begin.
use Rattle.std.specs.Prelude.{◌≡◌, ℕ, ◌≤◌, ◌<◌, false, All, List, [], ◌∷◌, ◌++◌, length, map, take, Result, Ok, Err}
use Rattle.mas_types.specs.declared.ids.MemberId.{MemberId}
use Rattle.mas_types.specs.declared.ids.Dev.{Dev}
use Rattle.lock_cycle.specs.Books.{is_stopped}
use Rattle.script_lang.specs.declared.types.Ask.TheVariants as ask
use Rattle.script_lang.specs.declared.types.Step.{Step}
use Rattle.spool_plant.specs.declared.plant.Part.TheVariants.{Console, Disk}
use Rattle.spool_plant.specs.declared.plant.Plant.{Ghosts as PlantGhosts}
use Rattle.spool_plant.specs.Acts.{Rose}
use Rattle.spool_plant.specs.View.{View, disk_now}
use Rattle.ckpt_copy.specs.declared.copying.Copying.{Ghosts as CopyGhosts}
use Rattle.ckpt_form.specs.declared.steady.Steady.{Ghosts as SteadyGhosts}
use Rattle.mas_complex.specs.declared.complex.Complex.{Complex}
use Rattle.mas_complex.specs.Headline.{whole}
use Rattle.mas_complex.specs.Journals.{in_flight}
use Rattle.mas_complex.specs.Parts.{Parts, parts_of}
use Rattle.member_node.specs.declared.member.NodeNo.{NodeNo}
use Rattle.member_node.specs.declared.member.NodeNo.TheVariants as no_node
use Rattle.member_node.specs.Calls.{console_now}
use Rattle.run_opening.specs.Lines.{Proceeds}
use Rattle.race_ends.specs.Before.{IsOne, armed_by, refused_lines}

-- any line of a member that is none closes so
abbrev pub step_by : MemberId → Step
step_by by = record { by = by; what = ask.Work 1 }

module _ {P C : Type 0} (plants : PlantGhosts P) where
  abbrev v : Parts P C → View
  v x = plants.view x.plant

  -- acts on the console alone, and stops that are armed: nobody is stopped, and each answer has its cause
  pub record HasPrepared (at : ℕ) (steps : List Step) (x y : Parts P C) (result : Result (Unit {0}) NodeNo) : Type 0
    where
      pub goes : Proceeds (v x) (v y)
      pub lost : (d : Dev) → (v y).lost (Disk d) ≡ (v x).lost (Disk d)
      pub faults : (d : Dev) → (v y).faults (Disk d) ≡ (v x).faults (Disk d)
      pub stops : (m : ℕ) → (v y).stops m ≡ (v x).stops m
      pub loses : (d : Dev) → (v y).loses d ≡ (v x).loses d
      pub disks : plants.tells → (d : Dev) → disk_now (v y) d ≡ disk_now (v x) d
      -- so many lines were gone through: all of them, unless one couldn't be refused
      pub seen : ℕ
      pub few : seen ≤ length steps
      pub all : result ≡ Ok tt → seen ≡ length steps
      pub arms : (m : MemberId) → IsOne x.base.config.members m
          → (v y).arms m.0 ≡ armed_by x.base.config.members m (take seen steps) ((v x).arms m.0)
      pub console : plants.tells → console_now (v y)
          ≡ console_now (v x) ++ map whole (refused_lines x.base.config.members at (take seen steps))
      pub cause : (result ≡ Err no_node.Halted → ⊥) × (result ≡ Err no_node.BothLost → ⊥)
      pub failed : result ≡ Err no_node.ConsoleFault → Rose ((v x).faults Console) ((v y).faults Console)

module _ {P C : Type 0} {plants : PlantGhosts P} {steadies : SteadyGhosts C} {copies : CopyGhosts C} where
  -- Nobody is stopped, and no entry is of a line: the operator may say a line, and arm stops.
  pub record MayPrepare (x : Complex P C plants steadies copies) : Type 0 where
    pub members : length x.book.members ≡ x.base.config.members
    pub up : (m : MemberId) → is_stopped x.book m ≡ false
    pub earlier : All (λ b. All (λ e. e.step < 1) b.entries) (x.journal.batches ++ in_flight x.current)

  abbrev pub PreparesAll : ℕ → List Step → Complex P C plants steadies copies → Complex P C plants steadies copies
      → Result (Unit {0}) NodeNo → Type 0
  PreparesAll at steps x y result = HasPrepared plants at steps (parts_of x) (parts_of y) result

  abbrev pub Prepares : ℕ → Step → Complex P C plants steadies copies → Complex P C plants steadies copies
      → Result (Unit {0}) NodeNo → Type 0
  Prepares at step x y result = PreparesAll at (step ∷ []) x y result

  abbrev pub Refuses : MemberId → ℕ → Complex P C plants steadies copies → Complex P C plants steadies copies
      → Result (Unit {0}) NodeNo → Type 0
  Refuses by at x y result = PreparesAll at (step_by by ∷ []) x y result
