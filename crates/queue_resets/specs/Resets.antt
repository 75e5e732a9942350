-- Which members are reset, and what becomes of what they are at work on.
use Rattle.std.specs.Prelude.{Bool, ◌&&◌, nat_le, if◌then◌else◌, Option, Some, None}
use Rattle.mas_types.specs.declared.ids.MemberId.{MemberId}
use Rattle.mas_types.specs.declared.jobs.Phase.TheVariants as phase
use Rattle.mas_types.specs.Ids.{nobody, same_member, is_somebody}
use Rattle.mas_types.specs.Reset.{phase_reset}
use Rattle.lay_bytes.specs.declared.records.JobRec.{JobRec}
use Rattle.lay_bytes.specs.declared.records.OutRec.{OutRec}
use Rattle.queue_resets.specs.declared.resets.Who.{Who}
use Rattle.queue_resets.specs.declared.resets.Who.TheVariants as who

-- the member is one of those that are reset
abbrev pub is_one_of : Who → MemberId → Bool
is_one_of (who.One m) h = same_member h m
is_one_of (who.Every members) h = is_somebody h && nat_le h.0 members

abbrev pub job_reset : JobRec → JobRec
job_reset r = record r {
  busy = nobody;
  phase = if r.cancelled then phase.Purge else phase_reset r.fields.restart
      r.phase;
}

abbrev pub output_reset : OutRec → OutRec
output_reset r = record r { busy = nobody }

-- a slot, where what stands in it is changed if the test picks it
abbrev pub changed_where : {X : Type 0} → (X → Bool) → (X → X) → Option X → Option X
changed_where test f None = None
changed_where test f (Some x) = Some (if test x then f x else x)
