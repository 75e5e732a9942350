-- Frames as bytes: what goes over a line from one node to another.
use Rattle.std.specs.Prelude.{◌≡◌, ℕ, ◌≤◌, nat_le, Bool, true, ◌&&◌, List, [], ◌∷◌, ◌++◌, length, All}
use Rattle.mas_types.specs.Fit.{IsName, is_text_line}
use Rattle.mas_types.specs.Limits.{card_bytes, text_lines_most}
use Rattle.mas_types.specs.Numerals.{in_digits}
use Rattle.nje_frames.specs.declared.frames.Frame.{Frame}
use Rattle.nje_frames.specs.declared.frames.Frame.TheVariants.{Job, Ack}

-- the byte before a frame, and the one after it
abbrev pub stx : ℕ
stx = 2

abbrev pub etx : ℕ
etx = 3

abbrev pub line_feed : ℕ
line_feed = 10

-- J for a job, A for an acknowledgement
abbrev pub job_letter : ℕ
job_letter = 74

abbrev pub ack_letter : ℕ
ack_letter = 65

-- the digits of a number
abbrev pub number_digits : ℕ
number_digits = 10

-- the greatest number
abbrev pub number_greatest : ℕ
number_greatest = 4294967295

abbrev pub number_text : ℕ → List ℕ
number_text n = in_digits number_digits n

-- cards, each with a line feed after it
abbrev pub cards_text : List (List ℕ) → List ℕ
cards_text [] = []
cards_text (card ∷ cards) = card ++ line_feed ∷ cards_text cards

-- the one spelling of a frame
abbrev pub frame_text : Frame → List ℕ
frame_text (Job number origin node text) =
    stx ∷ job_letter ∷ (number_text number ++ (origin.0 ++ (node.0 ++ line_feed ∷ (cards_text text ++ etx ∷ []))))
frame_text (Ack number) = stx ∷ ack_letter ∷ (number_text number ++ etx ∷ [])

-- WHICH FRAMES HAVE A SPELLING

abbrev pub IsNumber : ℕ → Type 0
IsNumber n = (1 ≤ n) × (n ≤ number_greatest)

-- a card of a frame: at most 80 text bytes
abbrev pub is_card : List ℕ → Bool
is_card card = nat_le (length card) card_bytes && is_text_line card

-- 1 to 9,999 cards
pub record AreCards (text : List (List ℕ)) : Type 0 where
  pub some : 1 ≤ length text
  pub few : length text ≤ text_lines_most
  pub each : All (λ card. is_card card ≡ true) text

abbrev pub IsFrame : Frame → Type 0
IsFrame (Job number origin node text) = IsNumber number × IsName origin × IsName node × AreCards text
IsFrame (Ack number) = IsNumber number

-- FRONTS

-- the bytes can be gone on with to a frame, by at least one byte more
pub record IsProperFront (bytes : List ℕ) : Type 0 where
  pub frame : Frame
  pub next : ℕ
  pub more : List ℕ
  pub fits : IsFrame frame
  pub is : frame_text frame ≡ bytes ++ next ∷ more

-- the bytes are a frame's, or can be gone on with to one
pub record BeginsFrame (bytes : List ℕ) : Type 0 where
  pub frame : Frame
  pub more : List ℕ
  pub fits : IsFrame frame
  pub is : frame_text frame ≡ bytes ++ more
