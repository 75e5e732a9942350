-- In which chain a job or an output stands.
use Rattle.std.specs.Prelude.{ℕ, ◌+◌, if◌then◌else◌, Option, Some, None}
use Rattle.mas_types.specs.declared.jobs.Phase.{Phase}
use Rattle.mas_types.specs.declared.jobs.Phase.TheVariants as phase
use Rattle.mas_types.specs.Ids.{is_somebody}
use Rattle.lay_bytes.specs.declared.records.JobRec.{JobRec}
use Rattle.lay_bytes.specs.declared.records.OutRec.{OutRec}

-- the jobs that wait for conversion; one that waits for execution stands in the chain of its class
abbrev pub convert_chain : ℕ
convert_chain = 256

abbrev pub purge_chain : ℕ
purge_chain = 257

-- the jobs whose outputs wait to be handed to the printers
abbrev pub ended_chain : ℕ
ended_chain = 258

-- this number plus a member's is that of the chain of the jobs that the member converts
abbrev pub converting_chains : ℕ
converting_chains = 512

-- this number plus a member's is that of the chain of the jobs that the member runs
abbrev pub running_chains : ℕ
running_chains = 768

-- the chain of a job: the member's if one works on it, and otherwise the one in which it waits, unless it is held
abbrev pub waiting_chain : JobRec → ℕ → ℕ → Option ℕ
waiting_chain r chain busy = if is_somebody r.busy then Some (busy + r.busy.0) else
    (if r.fields.held then None else Some chain)

abbrev pub chain_in_phase : JobRec → Phase → Option ℕ
chain_in_phase r phase.Convert = waiting_chain r convert_chain converting_chains
chain_in_phase r phase.Execute = waiting_chain r r.fields.class.0 running_chains
chain_in_phase r phase.Purge = Some purge_chain
chain_in_phase r phase.Output = Some ended_chain
chain_in_phase r _ = None

abbrev pub job_chain : JobRec → Option ℕ
job_chain r = chain_in_phase r r.phase

-- the jobs with a number
abbrev pub number_chain : JobRec → Option ℕ
number_chain r = Some r.number.0

-- the outputs that a member prints; one that waits for a printer stands in the chain of its class
abbrev pub printing_chains : ℕ
printing_chains = 256

abbrev pub output_chain : OutRec → Option ℕ
output_chain r = if is_somebody r.busy then Some (printing_chains + r.busy.0) else
    (if r.held then None else Some r.class.0)
