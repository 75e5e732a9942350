-- What holds of every stream.
use Rattle.std.specs.Prelude.{◌≡◌, ℕ, ◌≤◌, true, List, [], ◌∷◌, ◌++◌, length, All}
use Rattle.std.specs.List.{concat, AllByRecursion}
use Rattle.nje_frames.specs.declared.frames.Frame.{Frame}
use Rattle.nje_frames.specs.Grammar.{frame_text, IsFrame}
use Rattle.nje_frames.specs.Streams.{frames_in, frame_of, fed, is_open}

-- the frames are those of the stream, however it is cut into pieces
abbrev pub ReadsAnyPieces : Type 0
ReadsAnyPieces = (pieces : List (List ℕ)) → fed [] pieces ≡ frames_in (concat pieces)

-- a frame is read whatever stands before it and after it, and takes nothing from the frames there
abbrev pub ReadsEachFrame : Type 0
ReadsEachFrame = (before after : List ℕ) (frame : Frame) → IsFrame frame →
    frames_in (before ++ frame_text frame ++ after) ≡ frames_in before ++ frame ∷ frames_in after

-- the frame stands in the stream, as it is spelled
pub record StandsIn (stream : List ℕ) (frame : Frame) : Type 0 where
  pub before : List ℕ
  pub after : List ℕ
  pub fits : IsFrame frame
  pub is : stream ≡ before ++ (frame_text frame ++ after)

-- each frame that is read stands in the stream
abbrev pub ReadsNothingElse : Type 0
ReadsNothingElse = (stream : List ℕ) → AllByRecursion (StandsIn stream) (frames_in stream)

-- what is read from bytes as a whole is the frame of which they are the spelling
abbrev pub ReadsWhatIsSpelled : Type 0
ReadsWhatIsSpelled = (bytes : List ℕ) (frame : Frame) → frame_of bytes ≡ frame ∷ [] → IsFrame frame
    × (bytes ≡ frame_text frame)

-- no two frames have one spelling
abbrev pub HasOneSpelling : Type 0
HasOneSpelling = (one other : Frame) → IsFrame one → IsFrame other → frame_text one ≡ frame_text other → one ≡ other

-- a piece completes no more frames than it has bytes, whatever waits for it
abbrev pub CompletesFew : Type 0
CompletesFew = (rest piece : List ℕ) → is_open rest ≡ true → length (frames_in (rest ++ piece)) ≤ length piece
