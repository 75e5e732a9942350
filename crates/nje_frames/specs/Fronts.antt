-- What read_frame answers of the bytes.
use Rattle.std.specs.Prelude.{◌≡◌, ℕ, ◌-◌, ◌<◌, ◌≤◌, List, ◌++◌, length, take, drop, Result, Ok, Err}
use Rattle.nje_frames.specs.declared.frames.Frame.{Frame}
use Rattle.nje_frames.specs.declared.frames.FrameNo.{FrameNo}
use Rattle.nje_frames.specs.declared.frames.FrameNo.TheVariants as no
use Rattle.nje_frames.specs.Grammar.{frame_text, IsFrame, IsProperFront, BeginsFrame}

-- the bytes begin with the frame, which is so many of them
pub record HasFrame (bytes : List ℕ) (frame : Frame) (size : ℕ) : Type 0 where
  pub fits : IsFrame frame
  pub is : bytes ≡ frame_text frame ++ drop size bytes
  pub count : size ≡ length (frame_text frame)

-- the bytes of this size begin a frame, and no longer front does; nor do the bytes begin with a whole frame
pub record IsBad (bytes : List ℕ) (size : ℕ) : Type 0 where
  pub inside : size < length bytes
  pub begins : BeginsFrame (take size bytes)
  pub longest : (more : ℕ) → more ≤ length bytes → BeginsFrame (take more bytes) → more ≤ size
  pub none : (frame : Frame) (rest : List ℕ) → IsFrame frame → bytes ≡ frame_text frame ++ rest → ⊥

-- the frame was read, of so many bytes, or memory ran out
abbrev pub IsReadAs : Result (Frame × ℕ) FrameNo → Frame → ℕ → Type 0
IsReadAs (Ok found) frame size = (found.0 ≡ frame) × (found.1 ≡ size)
IsReadAs (Err no.NoMemory) frame size = Unit {0}
IsReadAs (Err (no.Short n)) frame size = ⊥
IsReadAs (Err (no.BadFrame n)) frame size = ⊥

-- the reading asked for more bytes, or ran out of memory
abbrev pub IsShortAt : Result (Frame × ℕ) FrameNo → ℕ → Type 0
IsShortAt (Ok found) size = ⊥
IsShortAt (Err no.NoMemory) size = Unit {0}
IsShortAt (Err (no.Short n)) size = n ≡ size
IsShortAt (Err (no.BadFrame n)) size = ⊥

-- the answer of reading the bytes, or memory ran out
abbrev pub Answers : Result (Frame × ℕ) FrameNo → List ℕ → Result (Frame × List ℕ) ℕ → Type 0
Answers (Ok x) bytes read = (rest : List ℕ) × (read ≡ Ok (x.0, rest)) × (x.1 ≡ length bytes - length rest)
Answers (Err (no.Short n)) bytes read = (n ≡ length bytes) × (read ≡ Err 0)
Answers (Err (no.BadFrame n)) bytes read = (left : ℕ) × (read ≡ Err left) × (0 < left) × (n ≡ length bytes - left)
Answers (Err no.NoMemory) bytes read = Unit {0}
