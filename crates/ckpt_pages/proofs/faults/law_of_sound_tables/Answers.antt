use Rattle.ckpt_pages.proofs.SoundQueueLemmas.{sound_for_sound}
use Rattle.ckpt_pages.proofs.faults.law_of_sound_tables.Goals as goal

pub returns : goal.returns
returns c = sound_for_sound
