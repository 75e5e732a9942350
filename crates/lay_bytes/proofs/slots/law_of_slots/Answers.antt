use Rattle.lay_bytes.proofs.SlotLemmas.{job_length, job_one, output_length, output_one, owner_length, owner_one}
use Rattle.lay_bytes.proofs.slots.law_of_slots.Goals as goal

pub returns-clause-jobs : goal.returns-clause-jobs
returns-clause-jobs c = record { size = job_length; apart = job_one }

pub returns-clause-outputs : goal.returns-clause-outputs
returns-clause-outputs c = record { size = output_length; apart = output_one }

pub returns-clause-owners : goal.returns-clause-owners
returns-clause-owners c = record { size = owner_length; apart = owner_one }
