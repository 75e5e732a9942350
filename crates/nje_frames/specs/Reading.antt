-- Reading a frame from the front of bytes. A reader answers what it read and the bytes after it. Where the bytes can't
-- be gone on with to what it reads, it answers how many bytes stand from the first on that doesn't fit.
use Rattle.std.specs.Prelude.{◌≡◌, ℕ, zero, suc, ◌-◌, ◌==◌, nat_le, nat_lt, Bool, true, false, ◌&&◌, if◌then◌else◌, List, [], ◌∷◌, ◌++◌, length, take, drop, replicate, Result, Ok, Err}
use Rattle.std.specs.List.{list_all}
use Rattle.mas_types.specs.declared.ids.Name8.{Name8}
use Rattle.mas_types.specs.Fit.{is_text_byte}
use Rattle.mas_types.specs.Limits.{card_bytes, name_bytes, text_lines_most}
use Rattle.mas_types.specs.Names.{is_name_byte, is_padded}
use Rattle.mas_types.specs.Numerals.{is_digit, value_of}
use Rattle.nje_frames.specs.declared.frames.Frame.{Frame}
use Rattle.nje_frames.specs.declared.frames.Frame.TheVariants.{Job, Ack}
use Rattle.nje_frames.specs.declared.parts.Stop.{Stop}
use Rattle.nje_frames.specs.declared.parts.Stop.TheVariants.{At, NoMemory}
use Rattle.nje_frames.specs.Grammar.{stx, etx, line_feed, job_letter, ack_letter, number_digits, number_greatest}

infixl 10 ◌>>=◌
abbrev pub ◌>>=◌ : {A B : Type 0} → Result A ℕ → (A → Result B ℕ) → Result B ℕ
(Ok x) >>= f = f x
(Err left) >>= f = Err left

-- the reader stopped there, unless memory ran out
abbrev pub Fails : {Y : Type 0} → Stop → Result Y ℕ → Type 0
Fails (At left) read = read ≡ Err left
Fails NoMemory read = Unit {0}

-- what a function answered, seen by view, is what the reader answers, unless memory ran out
abbrev pub Gives : {X Y : Type 0} → (X → Y) → Result X Stop → Result Y ℕ → Type 0
Gives view (Ok x) read = read ≡ Ok (view x)
Gives view (Err stop) read = Fails stop read

-- PARTS OF A FIXED WIDTH

-- how many more bytes, of so many at most, go on with a front so that each time the test holds
abbrev pub front_size : (List ℕ → Bool) → ℕ → List ℕ → List ℕ → ℕ
front_size test zero front bytes = 0
front_size test (suc more) front [] = 0
front_size test (suc more) front (b ∷ bytes) =
    if test (front ++ b ∷ []) then suc (front_size test more (front ++ b ∷ []) bytes) else 0

-- a part of so many bytes, of which each front meets the test, and what it says
abbrev pub part_of : {X : Type 0} → ℕ → (List ℕ → X) → List ℕ → ℕ → Result (X × List ℕ) ℕ
part_of width value bytes size =
    if nat_lt size width then Err (length bytes - size) else Ok (value (take width bytes), drop width bytes)

abbrev pub part_at : {X : Type 0} → (List ℕ → Bool) → ℕ → (List ℕ → X) → List ℕ → Result (X × List ℕ) ℕ
part_at test width value bytes = part_of width value bytes (front_size test width [] bytes)

-- digits with which a number from 1 to the greatest begins, in ten digits: with zeros after them it isn't too great,
-- and with nines it isn't 0
abbrev pub begins_number : List ℕ → Bool
begins_number text =
    list_all is_digit text && nat_le (value_of (text ++ replicate (number_digits - length text) 48)) number_greatest
    && nat_le 1 (value_of (text ++ replicate (number_digits - length text) 57))

abbrev pub number_size : List ℕ → ℕ
number_size bytes = front_size begins_number number_digits [] bytes

unfoldable pub number_at : List ℕ → Result (ℕ × List ℕ) ℕ
number_at bytes = part_at begins_number number_digits value_of bytes

-- the bytes with which a padded name begins
abbrev pub begins_name : List ℕ → Bool
begins_name [] = true
begins_name (b ∷ text) = is_name_byte b && is_padded text

abbrev pub name_size : List ℕ → ℕ
name_size bytes = front_size begins_name name_bytes [] bytes

abbrev pub name_of : List ℕ → Name8
name_of text = record { 0 = text }

unfoldable pub name_at : List ℕ → Result (Name8 × List ℕ) ℕ
name_at bytes = part_at begins_name name_bytes name_of bytes

-- OTHER PARTS

-- one byte
abbrev pub byte_at : ℕ → List ℕ → Result (Unit {0} × List ℕ) ℕ
byte_at byte [] = Err 0
byte_at byte (b ∷ bytes) = if b == byte then Ok (tt, bytes) else Err (suc (length bytes))

-- what was read, with bytes before it
abbrev pub with_bytes : List ℕ → Result (List ℕ × List ℕ) ℕ → Result (List ℕ × List ℕ) ℕ
with_bytes front read = read >>= λ x. Ok (front ++ x.0, x.1)

-- a card of so many bytes at most, and the line feed after it
unfoldable pub card_at : ℕ → List ℕ → Result (List ℕ × List ℕ) ℕ
card_at room [] = Err 0
card_at room (b ∷ bytes) =
    if b == line_feed then Ok ([], bytes)
    else (if is_text_byte b && nat_lt 0 room then with_bytes (b ∷ []) (card_at (room - 1) bytes) else Err
    (suc (length bytes)))

-- the two parts, one after the other
abbrev pub both : {X Y : Type 0} → (List ℕ → Result (X × List ℕ) ℕ) → (List ℕ → Result (Y × List ℕ) ℕ) → List ℕ
    → Result ((X × Y) × List ℕ) ℕ
both p q bytes = p bytes >>= λ a. q a.1 >>= λ b. Ok ((a.0, b.0), b.1)

-- what a part says, otherwise told
abbrev pub told : {X Y : Type 0} → (X → Y) → (List ℕ → Result (X × List ℕ) ℕ) → List ℕ → Result (Y × List ℕ) ℕ
told f p bytes = p bytes >>= λ a. Ok (f a.0, a.1)

-- the part, or the byte where it stands at the front
abbrev pub unless_byte : {X : Type 0} → ℕ → X → (List ℕ → Result (X × List ℕ) ℕ) → List ℕ → Result (X × List ℕ) ℕ
unless_byte byte x p [] = p []
unless_byte byte x p (b ∷ bytes) = if b == byte then Ok (x, bytes) else p (b ∷ bytes)

-- whether the bytes begin with the byte
abbrev pub begins_with : ℕ → List ℕ → Bool
begins_with byte [] = false
begins_with byte (b ∷ bytes) = b == byte

abbrev pub first_and_rest : List ℕ × List (List ℕ) → List (List ℕ)
first_and_rest x = x.0 ∷ x.1

-- at most this many cards, and the end of the frame
unfoldable pub cards_at : ℕ → List ℕ → Result (List (List ℕ) × List ℕ) ℕ
cards_at zero bytes = told (λ x. []) (byte_at etx) bytes
cards_at (suc left) bytes = unless_byte etx [] (told first_and_rest (both (card_at card_bytes) (cards_at left))) bytes

-- what was read, with cards before it
abbrev pub with_cards : List (List ℕ) → Result (List (List ℕ) × List ℕ) ℕ → Result (List (List ℕ) × List ℕ) ℕ
with_cards front read = read >>= λ x. Ok (front ++ x.0, x.1)

-- the cards of a frame, at least one, and the end of the frame
abbrev pub text_at : List ℕ → Result (List (List ℕ) × List ℕ) ℕ
text_at = told first_and_rest (both (card_at card_bytes) (cards_at (text_lines_most - 1)))

-- FRAMES

abbrev pub ack_of : ℕ × Unit {0} → Frame
ack_of x = Ack x.0

abbrev pub ack_at : List ℕ → Result (Frame × List ℕ) ℕ
ack_at = told ack_of (both number_at (byte_at etx))

abbrev pub job_of : ℕ × (Name8 × (Name8 × (Unit {0} × List (List ℕ)))) → Frame
job_of x = Job x.0 x.1.0 x.1.1.0 x.1.1.1.1

abbrev pub job_at : List ℕ → Result (Frame × List ℕ) ℕ
job_at = told job_of (both number_at (both name_at (both name_at (both (byte_at line_feed) text_at))))

-- a frame without its STX
abbrev pub inner_at : List ℕ → Result (Frame × List ℕ) ℕ
inner_at [] = Err 0
inner_at (b ∷ bytes) =
    if b == ack_letter then ack_at bytes else (if b == job_letter then job_at bytes else Err (suc (length bytes)))

abbrev pub frame_at : List ℕ → Result (Frame × List ℕ) ℕ
frame_at [] = Err 0
frame_at (b ∷ bytes) = if b == stx then inner_at bytes else Err (suc (length bytes))
