use Rattle.gate_turns.proofs.SpoolActed.{reads_may, syncs_may, writes_may, unsynced_is}
use Rattle.gate_turns.proofs.laws.law_of_groups.Goals as goal

pub returns : goal.returns
returns c = record { reads = reads_may; syncs = syncs_may; writes = writes_may; unsynced = unsynced_is }
