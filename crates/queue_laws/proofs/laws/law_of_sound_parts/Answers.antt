use Rattle.queue_laws.proofs.SoundAll.{keeps_sound}
use Rattle.queue_laws.proofs.laws.law_of_sound_parts.Goals as goal

pub returns : goal.returns
returns c = keeps_sound
