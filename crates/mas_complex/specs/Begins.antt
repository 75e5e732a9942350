-- What a batch needs of a shared value before it begins.
use Rattle.mas_complex.specs.Names.{Entry, Queue}
use Rattle.std.specs.Prelude.{List, ◌++◌}
use Rattle.spool_plant.specs.declared.plant.Plant.{Ghosts as PlantGhosts}
use Rattle.ckpt_copy.specs.declared.copying.Copying.{Ghosts as CopyGhosts}
use Rattle.ckpt_form.specs.declared.steady.Steady.{Ghosts as SteadyGhosts}
use Rattle.mas_complex.specs.declared.complex.Complex.{Complex}
use Rattle.mas_complex.specs.Crash.{IsUntold, setting}
use Rattle.mas_complex.specs.Journals.{kept_all}
use Rattle.mas_complex.specs.Meaning.{run}
use Rattle.mas_complex.specs.Paper.{MayBegin}
use Rattle.mas_complex.specs.Replies.{HaveReplies}
use Rattle.mas_complex.specs.Texts.{HasTexts, lost_now, spools_at}

module _ {P C : Type 0} {plants : PlantGhosts P} {steadies : SteadyGhosts C} {copies : CopyGhosts C} where
  -- the queue after the kept batches, and after these entries too
  abbrev pub kept_queue : Complex P C plants steadies copies → Queue
  kept_queue x = run x.base (kept_all x.journal.batches)

  abbrev pub queue_with : Complex P C plants steadies copies → List Entry → Queue
  queue_with x es = run x.base (kept_all x.journal.batches ++ es)

  -- the entries have the replies that their commands give at their places
  abbrev pub HasRepliesOf : Complex P C plants steadies copies → List Entry → Type 0
  HasRepliesOf x es = ∥ HaveReplies (run x.base (kept_all x.journal.batches)) es ∥₁

  -- no line on the console tells a step of theirs
  abbrev pub IsUntoldOf : Complex P C plants steadies copies → List Entry → Type 0
  IsUntoldOf x es = IsUntold (setting copies.reads x.base x.since) (plants.view x.plant) es

  -- they may be given, and their Marks are of printed lines
  abbrev pub MayBeginOf : Complex P C plants steadies copies → List Entry → Type 0
  MayBeginOf x es = MayBegin x.base x.journal.batches x.printed es

  -- the texts of the queue after them stand on the volumes
  abbrev pub HasTextsWith : Complex P C plants steadies copies → List Entry → Type 0
  HasTextsWith x es = ∥ HasTexts (lost_now (plants.view x.plant))
      (spools_at (plants.view x.plant) (plants.view x.plant).now) x.base.config.groups
      (run x.base (kept_all x.journal.batches ++ es)) ∥₁
