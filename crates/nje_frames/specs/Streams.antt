-- Which frames a stream of bytes has. Bytes outside frames are skipped. An STX begins a frame anew wherever it stands.
-- What stands from an STX up to the next STX or ETX and is no frame is skipped.
use Rattle.std.specs.Prelude.{◌≡◌, ℕ, ◌+◌, ◌<◌, ◌==◌, nat_lt, Bool, true, false, not, ◌&&◌, ◌||◌, if◌then◌else◌, List, [], ◌∷◌, ◌++◌, length, take, Option, Some, None, option_map, Result, Ok, Err}
use Rattle.std.specs.List.{list_all, slice_index}
use Rattle.nje_frames.specs.declared.frames.Frame.{Frame}
use Rattle.nje_frames.specs.Grammar.{stx, etx}
use Rattle.nje_frames.specs.Reading.{frame_at}

-- FRAMES

-- the byte begins a frame or ends one
abbrev pub is_mark : ℕ → Bool
is_mark b = (b == stx) || (b == etx)

abbrev pub is_plain : ℕ → Bool
is_plain b = not (is_mark b)

-- the bytes up to the next ETX and with it, None where an STX stands before it or no ETX is there
abbrev pub closed : List ℕ → Option (List ℕ)
closed [] = None
closed (b ∷ bytes) =
    if b == etx then Some (b ∷ []) else (if b == stx then None else option_map (λ more. b ∷ more) (closed bytes))

-- the frame that all of the bytes were read as, if there is one
abbrev pub whole : Result (Frame × List ℕ) ℕ → List Frame
whole (Ok (frame, [])) = frame ∷ []
whole (Ok (frame, b ∷ bytes)) = []
whole (Err left) = []

-- the frame that the bytes are, if they are one
unfoldable pub frame_of : List ℕ → List Frame
frame_of bytes = whole (frame_at bytes)

abbrev pub frame_if : Option (List ℕ) → List Frame
frame_if None = []
frame_if (Some inner) = frame_of (stx ∷ inner)

-- the frames of a stream: for each STX the bytes from it up to the next ETX, where no STX stands between them and they
-- are a frame
abbrev pub frames_in : List ℕ → List Frame
frames_in [] = []
frames_in (b ∷ bytes) = if b == stx then frame_if (closed bytes) ++ frames_in bytes else frames_in bytes

-- at the place stands the first byte that meets the test
pub record IsFirst (test : ℕ → Bool) (bytes : List ℕ) (at : ℕ) : Type 0 where
  pub inside : at < length bytes
  pub before : list_all (λ b. not (test b)) (take at bytes) ≡ true
  pub here : test (slice_index bytes at) ≡ true

abbrev pub is_start : ℕ → Bool
is_start b = b == stx

-- WHAT IS KEPT OF A STREAM UNTIL MORE OF IT COMES

-- the bytes of the longest frame: of a job frame with 9,999 cards of 80 bytes
abbrev pub frame_most : ℕ
frame_most = 809949

-- the bytes from the last STX on, where no ETX stands after it
abbrev pub last_start : List ℕ → List ℕ
last_start [] = []
last_start (b ∷ bytes) = if (b == stx) && list_all is_plain bytes then b ∷ bytes else last_start bytes

-- the bytes, unless they are too many to be the front of a frame
abbrev pub if_short : List ℕ → List ℕ
if_short bytes = if nat_lt (length bytes) frame_most then bytes else []

-- the bytes at the end of a stream that may be the front of a frame
abbrev pub open_end : List ℕ → List ℕ
open_end stream = if_short (last_start stream)

-- the bytes may be the front of a frame, or there are none
abbrev pub is_open : List ℕ → Bool
is_open [] = true
is_open (b ∷ bytes) = (b == stx) && list_all is_plain bytes && nat_lt (length (b ∷ bytes)) frame_most

-- FEEDING

-- the pieces of a stream are fed one after another: each gives the frames that it completes
abbrev pub fed : List ℕ → List (List ℕ) → List Frame
fed rest [] = []
fed rest (piece ∷ pieces) = frames_in (rest ++ piece) ++ fed (open_end (rest ++ piece)) pieces

-- the first so many of the frames were added
pub record AddsFirst (frames before after : List Frame) : Type 0 where
  pub count : ℕ
  pub is : after ≡ before ++ take count frames

-- the frames of the stream were added, and what may be the front of one waits
pub record HasTaken (stream rest : List ℕ) (before after : List Frame) : Type 0 where
  pub waits : rest ≡ open_end stream
  pub gained : after ≡ before ++ frames_in stream

-- frames were added, and with those of the rest they are the frames of the stream
pub record Gains (stream rest : List ℕ) (before after : List Frame) : Type 0 where
  pub gained : List Frame
  pub is : after ≡ before ++ gained
  pub left : gained ++ frames_in rest ≡ frames_in stream

-- the reader took the piece: the frames that it completes were added
pub record HasFed (old new : Option (List ℕ)) (piece : List ℕ) (before after : List Frame) : Type 0 where
  pub rest : List ℕ
  pub was : old ≡ Some rest
  pub now_is : new ≡ Some (open_end (rest ++ piece))
  pub gained : after ≡ before ++ frames_in (rest ++ piece)

-- memory ran out: the reader reads no more, and of the frames that the piece completes the first ones were added
pub record HasFailed (old new : Option (List ℕ)) (piece : List ℕ) (before after : List Frame) : Type 0 where
  pub ended : new ≡ None
  pub at_once : old ≡ None → after ≡ before
  pub first_ones : (rest : List ℕ) → old ≡ Some rest → AddsFirst (frames_in (rest ++ piece)) before after
