-- A turn that is tried: nobody holds the lock, so the copies are at rest.
use Rattle.std.proofs.Common.{◌≡◌, ◌&&◌, not, ℕ, Bool, true, false, List, Some, refl}
use Rattle.std.proofs.Math.Logic.{∥∥₁_map}
use Rattle.mas_types.specs.Ids.{nobody}
use Rattle.mas_types.specs.Sound.{IsSound}
use Rattle.spool_plant.specs.View.{Disk, disk_now}
use Rattle.mas_types.specs.declared.ids.Dev.TheVariants.{Ckpt1, Ckpt2}
use Rattle.spool_plant.specs.declared.plant.Plant.{Ghosts as PlantGhosts}
use Rattle.ckpt_copy.specs.declared.copying.Copying.{Ghosts as CopyGhosts}
use Rattle.ckpt_form.specs.declared.steady.Steady.{Ghosts as SteadyGhosts}
use Rattle.ckpt_tables.specs.Shape.{page_count}
use Rattle.duplex_pair.specs.Halves.{IsBothLost, SomeAlive, pick}
use Rattle.mas_complex.specs.declared.complex.Complex.{Complex}
use Rattle.mas_complex.specs.Journals.{kept_all}
use Rattle.mas_complex.specs.Crash.{copy_of}
use Rattle.mas_complex.specs.Kept.{HaveKept}
use Rattle.mas_complex.proofs.Values.{given_of}
use Rattle.mas_complex.specs.Meaning.{run}
use Rattle.mas_complex.specs.Parts.{parts_of}
use Rattle.mas_race.specs.Between.{BetweenTurns}
use Rattle.member_steps.proofs.LowCopies.{kept_sound}
use Rattle.member_resets.specs.Quiet.{IsQuiet}
use Rattle.member_racing.proofs.Resting.{quiet_between}

-- WHICH COPIES COUNT AS ALIVE

pub none_alive : (a b : Bool) → (not a && not b) ≡ true → IsBothLost a b
none_alive true b is = absurd (cc)
none_alive false true is = absurd (cc)
none_alive false false is = (refl, refl)

pub one_alive : (a b : Bool) → (not a && not b) ≡ false → SomeAlive a b
one_alive true b is = refl
one_alive false true is = refl
one_alive false false is = absurd (cc)

module _ {P C : Type 0} {plants : PlantGhosts P} {steadies : SteadyGhosts C} {copies : CopyGhosts C} (x : Complex P C plants steadies copies) (rest : BetweenTurns x) (some : SomeAlive x.pair.first.alive x.pair.second.alive)
    (sound : plants.tells → IsSound x.base) (reads : (copy : C) (pages : List ℕ) (disk : Disk) → copies.rests copy pages disk → copies.reads disk.bytes ≡ Some pages)
    (kept : plants.tells → ∥ HaveKept (run x.base (kept_all x.journal.batches)) x.level (λ d. copy_of copies.rests copies.holds (pick d x.pair.first x.pair.second) (pick d x.first x.second)) (plants.view x.plant) ∥₁) where
  pub quiet_now : x.book.holder ≡ nobody → IsQuiet plants copies (parts_of x) (page_count x.base.config)
  quiet_now none =
      let free = rest.free some none in
      quiet_between plants copies (parts_of x) rest some none
      (λ t. kept_sound x.base x.journal.batches x.current free.none (sound t) (given_of x t (sound t)))
      (λ t on. ∥∥₁_map (kept t) (λ k. record { was = k.was; stands = k.queue; is = reads x.pair.first.copy k.was (disk_now (plants.view x.plant) Ckpt1) (k.at Ckpt1 tt on free.first.before) }))
      (λ t on. ∥∥₁_map (kept t) (λ k. record { was = k.was; stands = k.queue; is = reads x.pair.second.copy k.was (disk_now (plants.view x.plant) Ckpt2) (k.at Ckpt2 tt on free.second.before) }))
