use Rattle.std.proofs.Common.{refl}
use Rattle.std.specs.Fmt.{digits}
use Rattle.nje_frames.specs.Reading.{number_at, name_at, card_at, cards_at}
use Rattle.nje_frames.specs.Streams.{frame_of}
use Rattle.nje_frames.proofs.laws.law_of_examples.Goals as goal

pub returns : goal.returns
unfolding digits number_at name_at card_at cards_at frame_of
returns c = record {
  ack = refl;
  ack_short = refl;
  no_frame = refl;
  ack_text = refl;
  job_text = refl;
  job_size = refl;
  job = refl;
  twice = refl;
  after_bad = refl;
}
