-- A value at rest, once its plant went on and its copies kept their bytes: one may count as lost that didn't.
use Rattle.std.proofs.Common.{◌≡◌, ℕ, Bool, true, ap, arith, length}
use Rattle.mas_types.specs.declared.ids.Dev.{Dev}
use Rattle.mas_types.specs.declared.ids.Dev.TheVariants.{Ckpt1, Ckpt2}
use Rattle.spool_plant.specs.declared.plant.Plant.{Ghosts as PlantGhosts}
use Rattle.spool_plant.specs.View.{View, disk_now}
use Rattle.ckpt_copy.specs.declared.copying.Copying.{Ghosts as CopyGhosts}
use Rattle.mas_complex.specs.Parts.{Parts}
use Rattle.mas_complex.proofs.Batches.{settled_later}
use Rattle.member_steps.proofs.ReadLemmas.{low_later}
use Rattle.member_quiet.specs.Quiet.{IsQuiet}
use Rattle.run_opening.specs.Lines.{Proceeds}
use Rattle.run_opening.proofs.RoomLemmas.{roomy_on}

module _ {P C : Type 0} (plants : PlantGhosts P) (copies : CopyGhosts C) (x : Parts P C) (q : P) (is1 is2 : Bool) (found1 found2 : ℕ) (goes : Proceeds (plants.view x.plant) (plants.view q))
    (alive1 : is1 ≡ true → x.first_alive ≡ true) (alive2 : is2 ≡ true → x.second_alive ≡ true)
    (bytes : plants.tells → (d : Dev) → (disk_now (plants.view q) d).bytes ≡ (disk_now (plants.view x.plant) d).bytes) where
  abbrev v : View
  v = plants.view x.plant

  abbrev w : View
  w = plants.view q

  pub quiet_on : (pages : ℕ) → IsQuiet plants copies x pages → IsQuiet plants copies (record x { plant = q; first_alive = is1; second_alive = is2; first_found = found1; second_found = found2 }) pages
  quiet_on pages is = record {
    none = is.none;
    unplaced = is.unplaced;
    unreserved = is.unreserved;
    first = record {
      calm = record { before = is.first.calm.before; as_many = λ on. is.first.calm.as_many (alive1 on) };
      low = low_later plants.tells x.first_alive is1 x.base.config (length x.batches) (copies.reads (disk_now v Ckpt1).bytes) (copies.reads (disk_now w Ckpt1).bytes) alive1 (λ t. ap copies.reads (bytes t Ckpt1)) is.first.low;
    };
    second = record {
      calm = record { before = is.second.calm.before; as_many = λ on. is.second.calm.as_many (alive2 on) };
      low = low_later plants.tells x.second_alive is2 x.base.config (length x.batches) (copies.reads (disk_now v Ckpt2).bytes) (copies.reads (disk_now w Ckpt2).bytes) alive2 (λ t. ap copies.reads (bytes t Ckpt2)) is.second.low;
    };
    sound = is.sound;
    kept = settled_later x.batches v.now w.now is.kept goes.later;
    begun = (let le = is.begun in let on = goes.later in omega (arith, le, on));
    roomy = λ t. roomy_on v w x.base.config goes (is.roomy t);
  }
