-- Worked examples.
use Rattle.std.specs.Prelude.{◌≡◌, ℕ, List, [], ◌∷◌, ◌++◌, codes, length, take, Ok, Err}
use Rattle.nje_frames.specs.declared.frames.Frame.{Frame}
use Rattle.nje_frames.specs.declared.frames.Frame.TheVariants.{Job, Ack}
use Rattle.nje_frames.specs.Grammar.{stx, etx, line_feed, frame_text}
use Rattle.nje_frames.specs.Reading.{frame_at}
use Rattle.nje_frames.specs.Streams.{frames_in}

-- the acknowledgement of number 1
abbrev pub first_ack : List ℕ
first_ack = 2 ∷ 65 ∷ 48 ∷ 48 ∷ 48 ∷ 48 ∷ 48 ∷ 48 ∷ 48 ∷ 48 ∷ 48 ∷ 49 ∷ 3 ∷ []

-- a job of two cards from node HERE to node FAR
abbrev pub first_job : Frame
first_job = Job 1 (record { 0 = codes "HERE    " }) (record { 0 = codes "FAR     " })
    (codes "//X JOB" ∷ codes "/*ROUTE XEQ FAR" ∷ [])

abbrev pub first_job_bytes : List ℕ
first_job_bytes = stx ∷ (codes "J0000000001HERE    FAR     " ++ line_feed ∷ (codes "//X JOB" ++ line_feed ∷ (codes "/*ROUTE XEQ FAR" ++ line_feed ∷ etx ∷ [])))

pub record AreAsWorked : Type 0 where
  pub ack : frame_at first_ack ≡ Ok (Ack 1, [])
  pub ack_short : frame_at (take 12 first_ack) ≡ Err 0
  pub no_frame : frame_at (65 ∷ []) ≡ Err 1
  pub ack_text : frame_text (Ack 1) ≡ first_ack
  pub job_text : frame_text first_job ≡ first_job_bytes
  pub job_size : length first_job_bytes ≡ 54
  pub job : frame_at first_job_bytes ≡ Ok (first_job, [])
  pub twice : frames_in (first_job_bytes ++ first_job_bytes) ≡ first_job ∷ first_job ∷ []
  pub after_bad : frames_in (stx ∷ 65 ∷ 48 ∷ (first_ack ++ 74 ∷ etx ∷ first_ack)) ≡ Ack 1 ∷ Ack 1 ∷ []
