-- What is wrong with tables, by the keys of what stands in them.
use Rattle.std.specs.Prelude.{ℕ, ◌*◌, nat_eq, nat_lt, nat_le, Bool, false, not, ◌&&◌, ◌||◌, [], length, Option}
use Rattle.std.specs.HashSet.{contains}
use Rattle.mas_types.specs.declared.queues.Owner.{Owner}
use Rattle.mas_types.specs.declared.queues.Owner.TheVariants as owner
use Rattle.mas_types.specs.Ids.{is_somebody}
use Rattle.mas_types.specs.Queue.{in_input, is_member}
use Rattle.mas_types.specs.Sound.{may_be_busy}
use Rattle.lay_bytes.specs.declared.records.JobRec.{JobRec}
use Rattle.lay_bytes.specs.declared.records.OutRec.{OutRec}
use Rattle.ckpt_tables.specs.declared.tables.Tables.{Tables}
use Rattle.ckpt_pages.specs.declared.keys.GroupKeys.{GroupKeys}
use Rattle.ckpt_pages.specs.declared.keys.JobKeys.{JobKeys}
use Rattle.ckpt_pages.specs.declared.keys.OutputKeys.{OutputKeys}
use Rattle.ckpt_pages.specs.declared.keys.PlaceKeys.{PlaceKeys}
use Rattle.ckpt_pages.specs.Sound as sound
use Rattle.ckpt_pages.specs.Sound.{first_wrong, holds_one, is_above}
use Rattle.ckpt_pages.specs.Keys.{same_print_key, AreJobKeys, AreOutputKeys, has_place, has_place_before}

-- a job is wrong, where these texts have groups and these jobs stand before it
abbrev pub is_wrong_job : Tables → GroupKeys → JobKeys → JobRec → Bool
is_wrong_job t groups before j =
    contains nat_eq before.numbers j.number.0 || contains nat_eq before.orders j.order || nat_le t.order j.order
    || is_above t j.busy || (is_somebody j.busy && not (may_be_busy j.phase)) || (in_input j.phase && nat_lt 0 j.cards)
    || (nat_lt 0 j.cards && not (contains nat_eq groups.decks j.number.0))

abbrev pub is_wrong_job_slot : Tables → GroupKeys → JobKeys → Option JobRec → Bool
is_wrong_job_slot t groups before slot = holds_one (is_wrong_job t groups before) slot

-- the slot of the first wrong job
abbrev pub first_job : Tables → Option ℕ
first_job t = first_wrong (sound.is_wrong_job_slot t) [] 0 t.jobs

-- an output is wrong, where these texts have groups, these are the jobs, and these outputs stand before it
abbrev pub is_wrong_output : Tables → GroupKeys → JobKeys → OutputKeys → OutRec → Bool
is_wrong_output t groups jobs before o =
    contains nat_eq jobs.orders o.order || contains nat_eq before.orders o.order || nat_le t.order o.order
    || not (contains nat_eq jobs.with_outputs o.job.0) || contains same_print_key before.prints (o.job.0, o.index.0)
    || (is_somebody o.busy && contains nat_eq before.printers o.busy.0) || is_above t o.busy
    || nat_lt (o.lines * o.copies) o.mark ||
    (nat_lt 0 o.lines && not (contains same_print_key groups.prints (o.job.0, o.index.0)))

abbrev pub is_wrong_output_slot : Tables → GroupKeys → JobKeys → OutputKeys → Option OutRec → Bool
is_wrong_output_slot t groups jobs before slot = holds_one (is_wrong_output t groups jobs before) slot

-- the slot of the first wrong output
abbrev pub first_output : Tables → Option ℕ
first_output t = first_wrong (sound.is_wrong_output_slot t) [] (length t.jobs) t.outputs

-- the keys are those of the tables' jobs and outputs
pub record AreSlotKeys (t : Tables) (jobs : JobKeys) (outputs : OutputKeys) : Type 0 where
  pub jobs_are : AreJobKeys jobs t.jobs
  pub outputs_are : AreOutputKeys outputs t.outputs

-- a group's member, job or output isn't there, or its job is in input
abbrev pub is_wrong_owner : Tables → JobKeys → OutputKeys → Owner → Bool
is_wrong_owner t jobs outputs owner.Free = false
is_wrong_owner t jobs outputs (owner.Member m) = not (is_member t.config m)
is_wrong_owner t jobs outputs (owner.Deck n place) = not (contains nat_eq jobs.past_input n.0)
is_wrong_owner t jobs outputs (owner.Output n i place) = not (contains same_print_key outputs.prints (n.0, i.0))

-- a group's place is among those before it, or the place before it isn't among all
abbrev pub is_wrong_place : PlaceKeys → PlaceKeys → Owner → Bool
is_wrong_place all before g = has_place before g || not (has_place_before all g)
