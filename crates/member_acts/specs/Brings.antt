-- Whether the text of a job, or of an output, is gone since a run began.
use Rattle.member_acts.specs.Names.{Text, brings_by, gone_at, is_brought, Parts, SteadyGhosts, gone_with, kept_all, parts_of, run, text_at}
use Rattle.std.specs.Prelude.{◌≡◌, List, Option, None, Some, if◌then◌else◌}
use Rattle.mas_types.specs.declared.ids.GroupNo.{GroupNo}
use Rattle.mas_types.specs.declared.journals.Entry.{Entry}
use Rattle.mas_types.specs.declared.queues.Queue.{Queue}
use Rattle.mas_types.specs.declared.queues.Thing.{Thing}
use Rattle.ckpt_copy.specs.declared.copying.Copying.{Ghosts as CopyGhosts}
use Rattle.mas_complex.specs.declared.complex.Complex.{Complex}
use Rattle.spool_plant.specs.declared.plant.Plant.{Ghosts as PlantGhosts}

-- the group with which it is gone after these entries, if it was at the beginning
abbrev pub gone_since : Thing → Queue → List Entry → Option GroupNo
gone_since thing base es = if is_brought (brings_by thing) es then None else gone_at thing base

-- so it is; where content is told, exactly
pub record IsGoneIn {P C : Type 0} (plants : PlantGhosts P) (x : Parts P C) (text : Thing) (gone : Option GroupNo) :
    Type 0 where
  pub since : gone ≡ gone_since text x.base (kept_all x.batches)
  pub gone_is : plants.tells → (t : Text) → text_at text (run x.base (kept_all x.batches)) ≡ Some t → gone ≡ gone_with t

module _ {P C : Type 0} {plants : PlantGhosts P} {steadies : SteadyGhosts C} {copies : CopyGhosts C} where
  abbrev pub IsGoneSince : Complex P C plants steadies copies → Thing → Option GroupNo → Type 0
  IsGoneSince x text gone = IsGoneIn plants (parts_of x) text gone
