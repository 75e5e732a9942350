-- Streams: what a piece adds, and streams in pieces.
use Rattle.std.proofs.Common.{◌≡◌, ℕ, zero, suc, ◌+◌, ◌-◌, ◌*◌, ◌≤◌, ◌<◌, Bool, true, false, List, [], ◌∷◌, ◌++◌, length, take, drop, replicate, get_or, Option, Some, None, Result, Ok, Err, refl, sym, ap, subst, ◌∙◌, append_assoc, arith, add-one}
use Rattle.std.specs.Prelude.{◌==◌, nat_le, nat_lt, not, ◌&&◌, ◌||◌, if◌then◌else◌, option_map, All}
use Rattle.std.specs.List.{list_all, concat, slice_index}
use Rattle.std.proofs.lemmas.Bool.{eqb-true, eq-eqb, ltb-true, ltb-false, le-ltb, leb-true, and_parts, and_from, and_left, and_right}
use Rattle.std.proofs.lemmas.Bool.Decides.{nat_tests}
use Rattle.std.proofs.lemmas.List.{append-nil, length-append, take-append-drop, take_at, drop-append-le}
use Rattle.std.proofs.lemmas.List.Elements.{All-head, All-tail}
use Rattle.std.proofs.lemmas.List.Folds.{list_all-append}
use Rattle.mas_types.specs.declared.ids.Name8.{Name8}
use Rattle.mas_types.specs.Fit.{IsName, is_text_byte, is_text_line}
use Rattle.mas_types.specs.Limits.{card_bytes, name_bytes}
use Rattle.mas_types.specs.Names.{is_name_byte, is_blank}
use Rattle.mas_types.specs.Numerals.{is_digit}
use Rattle.nje_frames.specs.declared.frames.Frame.{Frame}
use Rattle.nje_frames.specs.declared.frames.Frame.TheVariants.{Job, Ack}
use Rattle.nje_frames.specs.Grammar.{stx, etx, line_feed, job_letter, ack_letter, number_digits, number_text, cards_text, frame_text, is_card, IsNumber, IsFrame}
use Rattle.nje_frames.specs.Reading.{frame_at}
use Rattle.nje_frames.specs.Streams.{is_mark, is_plain, closed, whole, frame_of, frame_if, frames_in, frame_most, last_start, if_short, open_end, is_open, fed}
use Rattle.nje_frames.proofs.Readers.{Takes, Reads}
use Rattle.nje_frames.proofs.Numbers.{digits_are, number_wide}
use Rattle.nje_frames.proofs.NodeNames.{name_wide}
use Rattle.nje_frames.proofs.FrameReaders.{frame_reads}

-- BYTES BETWEEN MARKS

all_weaker : (p q : ℕ → Bool) → ((b : ℕ) → p b ≡ true → q b ≡ true) → (xs : List ℕ) → list_all p xs ≡ true → list_all q xs ≡ true
all_weaker p q each [] h = refl
all_weaker p q each (x ∷ xs) h = let parts = and_parts (p x) (list_all p xs) h in and_from (q x) (list_all q xs) (each x parts.0) (all_weaker p q each xs parts.1)

pub all_joined : (p : ℕ → Bool) (xs ys : List ℕ) → list_all p xs ≡ true → list_all p ys ≡ true → list_all p (xs ++ ys) ≡ true
all_joined p xs ys a b = list_all-append p xs ys ∙ and_from (list_all p xs) (list_all p ys) a b

-- what meets a test that neither mark meets is plain
plain_from : (p : ℕ → Bool) → p stx ≡ false → p etx ≡ false → (b : ℕ) → p b ≡ true → is_plain b ≡ true
plain_from p s e b h = first (b == stx) refl
  where
    second : (t : Bool) → (b == etx) ≡ t → not t ≡ true
    second true is = absurd (let same = eqb-true b etx is in let no = ap p same in cc)
    second false is = refl

    first : (t : Bool) → (b == stx) ≡ t → not (t || (b == etx)) ≡ true
    first true is = absurd (let same = eqb-true b stx is in let no = ap p same in cc)
    first false is = second (b == etx) refl

record IsBetween (b : ℕ) : Type 0 where
  start : (b == stx) ≡ false
  end : (b == etx) ≡ false

between : (b : ℕ) → is_plain b ≡ true → IsBetween b
between b h = record { start = first (b == stx) refl h; end = second (b == etx) refl h }
  where
    first : (t : Bool) → (b == stx) ≡ t → not (t || (b == etx)) ≡ true → (b == stx) ≡ false
    first true is k = absurd cc
    first false is k = is

    second : (t : Bool) → (b == etx) ≡ t → not ((b == stx) || t) ≡ true → (b == etx) ≡ false
    second false is k = is
    second true is k = absurd (both (b == stx) k)
      where
        both : (s : Bool) → not (s || true) ≡ true → ⊥
        both true k = absurd cc
        both false k = absurd cc

-- the front has no STX
abbrev pub NoStart : List ℕ → Type 0
NoStart xs = list_all (λ b. not (b == stx)) xs ≡ true

abbrev pub IsPlain : List ℕ → Type 0
IsPlain xs = list_all is_plain xs ≡ true

not_start : (b : ℕ) → not (b == stx) ≡ true → (b == stx) ≡ false
not_start b h = go (b == stx) refl h
  where
    go : (t : Bool) → (b == stx) ≡ t → not t ≡ true → (b == stx) ≡ false
    go true is k = absurd cc
    go false is k = is

plain_start : (xs : List ℕ) → IsPlain xs → NoStart xs
plain_start xs h = all_weaker is_plain (λ b. not (b == stx)) (λ b k. ap not (between b k).start) xs h

pub frames-skip : (xs t : List ℕ) → NoStart xs → frames_in (xs ++ t) ≡ frames_in t
frames-skip [] t h = refl
frames-skip (b ∷ xs) t h =
    let parts = and_parts (not (b == stx)) (list_all (λ b. not (b == stx)) xs) h in
    rw (not_start b parts.0) (frames-skip xs t parts.1)

pub start-skip : (xs t : List ℕ) → NoStart xs → last_start (xs ++ t) ≡ last_start t
start-skip [] t h = refl
start-skip (b ∷ xs) t h =
    let parts = and_parts (not (b == stx)) (list_all (λ b. not (b == stx)) xs) h in
    rw (not_start b parts.0) (start-skip xs t parts.1)

pub frames-none : (xs : List ℕ) → NoStart xs → frames_in xs ≡ []
frames-none xs h = ap frames_in (sym (append-nil xs)) ∙ frames-skip xs [] h

pub start-none : (xs : List ℕ) → NoStart xs → last_start xs ≡ []
start-none xs h = ap last_start (sym (append-nil xs)) ∙ start-skip xs [] h

closed-plain : (xs : List ℕ) → IsPlain xs → closed xs ≡ None
closed-plain [] h = refl
closed-plain (b ∷ xs) h =
    let parts = and_parts (is_plain b) (list_all is_plain xs) h in
    let is = between b parts.0 in
    rw (is.end, is.start, closed-plain xs parts.1) refl

closed-etx : (xs t : List ℕ) → IsPlain xs → closed (xs ++ etx ∷ t) ≡ Some (xs ++ etx ∷ [])
closed-etx [] t h = refl
closed-etx (b ∷ xs) t h =
    let parts = and_parts (is_plain b) (list_all is_plain xs) h in
    let is = between b parts.0 in
    rw (is.end, is.start, closed-etx xs t parts.1) refl

-- an STX ends what was open
closed-anew : (xs t : List ℕ) → closed (xs ++ stx ∷ t) ≡ closed xs
closed-anew [] t = refl
closed-anew (b ∷ xs) t = rw (closed-anew xs t) refl

-- WHAT BEGINS WITH AN STX

pub frames-ended : (xs t : List ℕ) → IsPlain xs → frames_in (stx ∷ (xs ++ etx ∷ t)) ≡ frame_of (stx ∷ (xs ++ etx ∷ [])) ++ frames_in (etx ∷ t)
frames-ended xs t h =
    ap (λ (c : Option (List ℕ)). frame_if c ++ frames_in (xs ++ etx ∷ t)) (closed-etx xs t h)
    ∙ ap (λ (f : List Frame). frame_of (stx ∷ (xs ++ etx ∷ [])) ++ f) (frames-skip xs (etx ∷ t) (plain_start xs h))

pub frames-again : (xs t : List ℕ) → IsPlain xs → frames_in (stx ∷ (xs ++ stx ∷ t)) ≡ frames_in (stx ∷ t)
frames-again xs t h =
    ap (λ (c : Option (List ℕ)). frame_if c ++ frames_in (xs ++ stx ∷ t)) (closed-anew xs t ∙ closed-plain xs h)
    ∙ frames-skip xs (stx ∷ t) (plain_start xs h)

pub frames-open : (xs : List ℕ) → IsPlain xs → frames_in (stx ∷ xs) ≡ []
frames-open xs h = ap (λ (c : Option (List ℕ)). frame_if c ++ frames_in xs) (closed-plain xs h) ∙ frames-none xs (plain_start xs h)

pub start-open : (xs : List ℕ) → IsPlain xs → last_start (stx ∷ xs) ≡ stx ∷ xs
start-open xs h = rw h refl

start-other : (xs : List ℕ) → list_all is_plain xs ≡ false → last_start (stx ∷ xs) ≡ last_start xs
start-other xs h = rw h refl

mark_not_plain : (xs : List ℕ) (m : ℕ) (t : List ℕ) → is_mark m ≡ true → list_all is_plain (xs ++ m ∷ t) ≡ false
mark_not_plain xs m t h =
    let no : is_plain m ≡ false = ap not h in
    list_all-append is_plain xs (m ∷ t) ∙ and_right (list_all is_plain xs) (list_all is_plain (m ∷ t)) (and_left (is_plain m) (list_all is_plain t) no)

pub start-marked : (xs : List ℕ) (m : ℕ) (t : List ℕ) → IsPlain xs → is_mark m ≡ true → last_start (stx ∷ (xs ++ m ∷ t)) ≡ last_start (m ∷ t)
start-marked xs m t h mark = start-other (xs ++ m ∷ t) (mark_not_plain xs m t mark) ∙ start-skip xs (m ∷ t) (plain_start xs h)

-- THE LONGEST FRAME

cards_size : (cards : List (List ℕ)) → All (λ card. is_card card ≡ true) cards → length (cards_text cards) ≤ 81 * length cards
cards_size [] h = omega arith
cards_size (card ∷ cards) h =
    let P = λ (c : List ℕ). is_card c ≡ true in
    let one = and_parts (nat_le (length card) card_bytes) (is_text_line card) (All-head P card cards h) in
    let few : length card ≤ 80 = leb-true (length card) card_bytes one.0 in
    omega (arith, length-append card (line_feed ∷ cards_text cards), cards_size cards (All-tail P card cards h), few)

pub frame_size : (x : Frame) → IsFrame x → length (frame_text x) ≤ frame_most
frame_size (Job number origin node text) f =
    let cards = cards_size text f.3.each in
    let number_wide = number_wide number f.0 in
    let origin_wide = name_wide origin f.1 in
    let node_wide = name_wide node f.2 in
    let tail = cards_text text ++ etx ∷ [] in
    omega (
      arith,
      length-append (number_text number) (origin.0 ++ (node.0 ++ line_feed ∷ tail)),
      length-append origin.0 (node.0 ++ line_feed ∷ tail),
      length-append node.0 (line_feed ∷ tail),
      length-append (cards_text text) (etx ∷ []),
      cards,
      f.3.few,
      number_wide,
      origin_wide,
      node_wide,
    )
frame_size (Ack number) f = omega (arith, length-append (number_text number) (etx ∷ []), number_wide number f)

pub long_none : (bytes : List ℕ) → frame_most < length bytes → frame_of bytes ≡ []
unfolding frame_of
long_none bytes long = go (frame_at bytes) refl
  where
    go : (r : Result (Frame × List ℕ) ℕ) → frame_at bytes ≡ r → whole r ≡ []
    go (Err left) e = refl
    go (Ok (x, b ∷ rest)) e = refl
    go (Ok (x, [])) e =
        let taken = frame_reads.takes bytes x [] e in
        absurd (omega (arith, frame_size x taken.fits, ap length (taken.is ∙ append-nil (frame_text x))))

-- the frame that bytes are
pub whole_is : (bytes : List ℕ) (x : Frame) → frame_of bytes ≡ x ∷ [] → IsFrame x × (bytes ≡ frame_text x)
unfolding frame_of
whole_is bytes x is = go (frame_at bytes) refl is
  where
    go : (r : Result (Frame × List ℕ) ℕ) → frame_at bytes ≡ r → whole r ≡ x ∷ [] → IsFrame x × (bytes ≡ frame_text x)
    go (Err left) e k = absurd cc
    go (Ok (y, b ∷ rest)) e k = absurd cc
    go (Ok (y, [])) e k =
        let same : y ≡ x = cc in
        let taken = frame_reads.takes bytes y [] e in
        rw (← same) (taken.fits, taken.is ∙ append-nil (frame_text y))

pub whole_again : (x : Frame) → IsFrame x → frame_of (frame_text x) ≡ x ∷ []
unfolding frame_of
whole_again x f = let read = ap frame_at (sym (append-nil (frame_text x))) ∙ frame_reads.again x [] f in rw read refl

-- PIECES

-- more bytes after a mark change nothing before it
closed-marked : (xs t : List ℕ) → list_all is_plain xs ≡ false → closed (xs ++ t) ≡ closed xs
closed-marked [] t h = absurd cc
closed-marked (b ∷ xs) t h = first (λ e. closed-marked xs t e) (b == etx) refl
  where
    third : (b == etx) ≡ false → (b == stx) ≡ false → list_all is_plain xs ≡ false
    third e s = let plain : is_plain b ≡ true = rw (s, e) refl in rw plain at h

    second : (list_all is_plain xs ≡ false → closed (xs ++ t) ≡ closed xs) → (z : Bool) → (b == stx) ≡ z → (b == etx) ≡ false → closed (b ∷ (xs ++ t)) ≡ closed (b ∷ xs)
    second further true s e = rw (e, s) refl
    second further false s e = let rest = further (third e s) in rw (e, s, rest) refl

    first : (list_all is_plain xs ≡ false → closed (xs ++ t) ≡ closed xs) → (z : Bool) → (b == etx) ≡ z → closed (b ∷ (xs ++ t)) ≡ closed (b ∷ xs)
    first further true e = rw e refl
    first further false e = second further (b == stx) refl e

-- what is closed after plain bytes is longer than they are
closed-long : (xs t inner : List ℕ) → IsPlain xs → closed (xs ++ t) ≡ Some inner → length xs < length inner
closed-long [] [] inner h e = absurd cc
closed-long [] (b ∷ t) [] h e = absurd (go (b == etx) (b == stx) (closed t) e)
  where
    go : (x y : Bool) (r : Option (List ℕ)) → ◌≡◌ {A = Option (List ℕ)} (if x then Some (b ∷ []) else (if y then None else option_map (λ (more : List ℕ). b ∷ more) r)) (Some []) → ⊥
    go true y r e = absurd cc
    go false true r e = absurd cc
    go false false None e = absurd cc
    go false false (Some m) e = absurd cc
closed-long [] (b ∷ t) (i ∷ inner) h e = omega arith
closed-long (b ∷ xs) t inner h e =
    let parts = and_parts (is_plain b) (list_all is_plain xs) h in
    let is = between b parts.0 in
    let rest = rw (is.end, is.start) at e in
    go (λ m r. closed-long xs t m parts.1 r) (closed (xs ++ t)) refl rest
  where
    go : ((m : List ℕ) → closed (xs ++ t) ≡ Some m → length xs < length m) → (r : Option (List ℕ)) → closed (xs ++ t) ≡ r → option_map (λ more. b ∷ more) r ≡ Some inner → length (b ∷ xs) < length inner
    go further None r e = absurd cc
    go further (Some m) r e =
        let same : b ∷ m ≡ inner = cc in
        omega (arith, further m r, ap length same)

long_closed : (xs t : List ℕ) → IsPlain xs → frame_most ≤ suc (length xs) → frame_if (closed (xs ++ t)) ≡ []
long_closed xs t h long = go (closed (xs ++ t)) refl
  where
    go : (r : Option (List ℕ)) → closed (xs ++ t) ≡ r → frame_if r ≡ []
    go None e = refl
    go (Some inner) e = long_none (stx ∷ inner) (omega (arith, closed-long xs t inner h e))

pub short-true : (xs : List ℕ) → nat_lt (length xs) frame_most ≡ true → if_short xs ≡ xs
short-true xs e = rw e refl

short-false : (xs : List ℕ) → nat_lt (length xs) frame_most ≡ false → if_short xs ≡ []
short-false xs e = rw e refl

frames-other : (b : ℕ) (xs : List ℕ) → (b == stx) ≡ false → frames_in (b ∷ xs) ≡ frames_in xs
frames-other b xs e = rw e refl

start-beyond : (b : ℕ) (xs : List ℕ) → (b == stx) ≡ false → last_start (b ∷ xs) ≡ last_start xs
start-beyond b xs e = rw e refl

marked_more : (xs t : List ℕ) → list_all is_plain xs ≡ false → list_all is_plain (xs ++ t) ≡ false
marked_more xs t h = list_all-append is_plain xs t ∙ and_left (list_all is_plain xs) (list_all is_plain t) h

end_short : (xs : List ℕ) → IsPlain xs → nat_lt (suc (length xs)) frame_most ≡ true → open_end (stx ∷ xs) ≡ stx ∷ xs
end_short xs h e = ap if_short (start-open xs h) ∙ short-true (stx ∷ xs) e

end_long : (xs : List ℕ) → IsPlain xs → nat_lt (suc (length xs)) frame_most ≡ false → open_end (stx ∷ xs) ≡ []
end_long xs h e = ap if_short (start-open xs h) ∙ short-false (stx ∷ xs) e

-- a list that begins with an STX, in two pieces
pieces_started : (s t : List ℕ) → frames_in (s ++ t) ≡ frames_in s ++ frames_in (open_end s ++ t) → frames_in (stx ∷ (s ++ t)) ≡ frames_in (stx ∷ s) ++ frames_in (open_end (stx ∷ s) ++ t)
pieces_started s t further = first (list_all is_plain s) refl
  where
    long : IsPlain s → nat_lt (suc (length s)) frame_most ≡ false → frames_in (stx ∷ (s ++ t)) ≡ frames_in (stx ∷ s) ++ frames_in (open_end (stx ∷ s) ++ t)
    long h e =
        let none = long_closed s t h (ltb-false (suc (length s)) frame_most e) in
        let left : frames_in (stx ∷ (s ++ t)) ≡ frames_in t = ap (λ (f : List Frame). f ++ frames_in (s ++ t)) none ∙ frames-skip s t (plain_start s h) in
        let right : frames_in (stx ∷ s) ++ frames_in (open_end (stx ∷ s) ++ t) ≡ frames_in t =
        ap (λ (f : List Frame). f ++ frames_in (open_end (stx ∷ s) ++ t)) (frames-open s h) ∙ ap (λ (w : List ℕ). frames_in (w ++ t)) (end_long s h e) in
        left ∙ sym right

    short : IsPlain s → nat_lt (suc (length s)) frame_most ≡ true → frames_in (stx ∷ (s ++ t)) ≡ frames_in (stx ∷ s) ++ frames_in (open_end (stx ∷ s) ++ t)
    short h e =
        let right : frames_in (stx ∷ s) ++ frames_in (open_end (stx ∷ s) ++ t) ≡ frames_in (stx ∷ (s ++ t)) =
        ap (λ (f : List Frame). f ++ frames_in (open_end (stx ∷ s) ++ t)) (frames-open s h) ∙ ap (λ (w : List ℕ). frames_in (w ++ t)) (end_short s h e) in
        sym right

    marked : list_all is_plain s ≡ false → frames_in (stx ∷ (s ++ t)) ≡ frames_in (stx ∷ s) ++ frames_in (open_end (stx ∷ s) ++ t)
    marked h =
        let left : frames_in (stx ∷ (s ++ t)) ≡ frame_if (closed s) ++ (frames_in s ++ frames_in (open_end s ++ t)) =
        ap (λ (c : Option (List ℕ)). frame_if c ++ frames_in (s ++ t)) (closed-marked s t h) ∙ ap (λ (f : List Frame). frame_if (closed s) ++ f) further in
        let kept : open_end (stx ∷ s) ≡ open_end s = ap if_short (start-other s h) in
        left ∙ sym (append_assoc (frame_if (closed s)) (frames_in s) (frames_in (open_end s ++ t)))
        ∙ ap (λ (w : List ℕ). (frame_if (closed s) ++ frames_in s) ++ frames_in (w ++ t)) (sym kept)

    second : (z : Bool) → nat_lt (suc (length s)) frame_most ≡ z → IsPlain s → frames_in (stx ∷ (s ++ t)) ≡ frames_in (stx ∷ s) ++ frames_in (open_end (stx ∷ s) ++ t)
    second true e h = short h e
    second false e h = long h e

    first : (z : Bool) → list_all is_plain s ≡ z → frames_in (stx ∷ (s ++ t)) ≡ frames_in (stx ∷ s) ++ frames_in (open_end (stx ∷ s) ++ t)
    first true e = second (nat_lt (suc (length s)) frame_most) refl e
    first false e = marked e

-- cases on whether a byte is an STX
start_cases : (b : ℕ) (P : ℕ → Type 0) → P stx → ((b == stx) ≡ false → P b) → P b
start_cases b P one other = go (b == stx) refl
  where
    go : (z : Bool) → (b == stx) ≡ z → P b
    go true e = subst P (sym (eqb-true b stx e)) one
    go false e = other e

pub pieces_frames : (s t : List ℕ) → frames_in (s ++ t) ≡ frames_in s ++ frames_in (open_end s ++ t)
pieces_frames [] t = refl
pieces_frames (b ∷ s) t =
    let next = pieces_frames s t in
    start_cases b (λ (c : ℕ). frames_in (c ∷ (s ++ t)) ≡ frames_in (c ∷ s) ++ frames_in (open_end (c ∷ s) ++ t)) (pieces_started s t next)
    (λ e.
    let kept : open_end (b ∷ s) ≡ open_end s = ap if_short (start-beyond b s e) in
    let right : frames_in (b ∷ s) ++ frames_in (open_end (b ∷ s) ++ t) ≡ frames_in s ++ frames_in (open_end s ++ t) =
    ap (λ (f : List Frame). f ++ frames_in (open_end (b ∷ s) ++ t)) (frames-other b s e) ∙ ap (λ (w : List ℕ). frames_in s ++ frames_in (w ++ t)) kept in
    frames-other b (s ++ t) e ∙ next ∙ sym right)

ends_started : (s t : List ℕ) → open_end (s ++ t) ≡ open_end (open_end s ++ t) → open_end (stx ∷ (s ++ t)) ≡ open_end (open_end (stx ∷ s) ++ t)
ends_started s t further = first (list_all is_plain s) refl
  where
    beyond : IsPlain s → frame_most ≤ suc (length s) → (z : Bool) → list_all is_plain t ≡ z → open_end (stx ∷ (s ++ t)) ≡ open_end t
    beyond h long true p =
        let size : length (s ++ t) ≡ length s + length t = length-append s t in
        let too_long : nat_lt (suc (length (s ++ t))) frame_most ≡ false = le-ltb (suc (length (s ++ t))) frame_most (omega arith) in
        end_long (s ++ t) (all_joined is_plain s t h p) too_long ∙ sym (ap if_short (start-none t (plain_start t p)))
    beyond h long false p =
        let marked : list_all is_plain (s ++ t) ≡ false = list_all-append is_plain s t ∙ and_right (list_all is_plain s) (list_all is_plain t) p in
        ap if_short (start-other (s ++ t) marked ∙ start-skip s t (plain_start s h))

    second : (z : Bool) → nat_lt (suc (length s)) frame_most ≡ z → IsPlain s → open_end (stx ∷ (s ++ t)) ≡ open_end (open_end (stx ∷ s) ++ t)
    second true e h = sym (ap (λ (w : List ℕ). open_end (w ++ t)) (end_short s h e))
    second false e h = beyond h (ltb-false (suc (length s)) frame_most e) (list_all is_plain t) refl ∙ sym (ap (λ (w : List ℕ). open_end (w ++ t)) (end_long s h e))

    first : (z : Bool) → list_all is_plain s ≡ z → open_end (stx ∷ (s ++ t)) ≡ open_end (open_end (stx ∷ s) ++ t)
    first true e = second (nat_lt (suc (length s)) frame_most) refl e
    first false e =
        let kept : open_end (stx ∷ s) ≡ open_end s = ap if_short (start-other s e) in
        ap if_short (start-other (s ++ t) (marked_more s t e)) ∙ further ∙ sym (ap (λ (w : List ℕ). open_end (w ++ t)) kept)

pub pieces_ends : (s t : List ℕ) → open_end (s ++ t) ≡ open_end (open_end s ++ t)
pieces_ends [] t = refl
pieces_ends (b ∷ s) t =
    let next = pieces_ends s t in
    start_cases b (λ (c : ℕ). open_end (c ∷ (s ++ t)) ≡ open_end (open_end (c ∷ s) ++ t)) (ends_started s t next)
    (λ e.
    let kept : open_end (b ∷ s) ≡ open_end s = ap if_short (start-beyond b s e) in
    ap if_short (start-beyond b (s ++ t) e) ∙ next ∙ sym (ap (λ (w : List ℕ). open_end (w ++ t)) kept))

fed_after : (s : List ℕ) (pieces : List (List ℕ)) → frames_in s ++ fed (open_end s) pieces ≡ frames_in (s ++ concat pieces)
fed_after s [] = append-nil (frames_in s) ∙ ap frames_in (sym (append-nil s))
fed_after s (piece ∷ pieces) =
    let next = fed_after (s ++ piece) pieces in
    let kept : fed (open_end (open_end s ++ piece)) pieces ≡ fed (open_end (s ++ piece)) pieces = ap (λ (r : List ℕ). fed r pieces) (sym (pieces_ends s piece)) in
    ap (λ (f : List Frame). frames_in s ++ (frames_in (open_end s ++ piece) ++ f)) kept
    ∙ sym (append_assoc (frames_in s) (frames_in (open_end s ++ piece)) (fed (open_end (s ++ piece)) pieces))
    ∙ ap (λ (f : List Frame). f ++ fed (open_end (s ++ piece)) pieces) (sym (pieces_frames s piece))
    ∙ next ∙ ap frames_in (append_assoc s piece (concat pieces))

pub any_pieces : (pieces : List (List ℕ)) → fed [] pieces ≡ frames_in (concat pieces)
any_pieces pieces = fed_after [] pieces

-- EACH FRAME

frames-anew : (xs t : List ℕ) → frames_in (xs ++ stx ∷ t) ≡ frames_in xs ++ frames_in (stx ∷ t)
frames-anew [] t = refl
frames-anew (b ∷ xs) t =
    let next = frames-anew xs t in
    start_cases b (λ (c : ℕ). frames_in (c ∷ (xs ++ stx ∷ t)) ≡ frames_in (c ∷ xs) ++ frames_in (stx ∷ t))
    (ap (λ (c : Option (List ℕ)). frame_if c ++ frames_in (xs ++ stx ∷ t)) (closed-anew xs t) ∙ ap (λ (f : List Frame). frame_if (closed xs) ++ f) next
    ∙ sym (append_assoc (frame_if (closed xs)) (frames_in xs) (frames_in (stx ∷ t))))
    (λ e. frames-other b (xs ++ stx ∷ t) e ∙ next ∙ sym (ap (λ (f : List Frame). f ++ frames_in (stx ∷ t)) (frames-other b xs e)))

-- a frame's bytes between its STX and its ETX
record HasInner (x : Frame) : Type 0 where
  inner : List ℕ
  is : frame_text x ≡ stx ∷ (inner ++ etx ∷ [])
  plain : IsPlain inner

plain_number : (n : ℕ) → IsNumber n → IsPlain (number_text n)
plain_number n h = all_weaker is_digit is_plain (plain_from is_digit refl refl) (number_text n) (digits_are number_digits n (omega (arith, h.1)))

plain_blanks : (k : ℕ) → IsPlain (replicate k 32)
plain_blanks zero = refl
plain_blanks (suc k) = plain_blanks k

plain_name : (name : Name8) → IsName name → IsPlain name.0
plain_name name h =
    let parts = and_parts (nat_le 1 (length h.0) && nat_le (length h.0) name_bytes) (list_all is_name_byte h.0) h.1 in
    rw h.2 (all_joined is_plain h.0 (replicate (name_bytes - length h.0) 32) (all_weaker is_name_byte is_plain (plain_from is_name_byte refl refl) h.0 parts.1) (plain_blanks (name_bytes - length h.0)))

plain_cards : (cards : List (List ℕ)) → All (λ card. is_card card ≡ true) cards → IsPlain (cards_text cards)
plain_cards [] h = refl
plain_cards (card ∷ cards) h =
    let P = λ (c : List ℕ). is_card c ≡ true in
    let one = and_parts (nat_le (length card) card_bytes) (is_text_line card) (All-head P card cards h) in
    all_joined is_plain card (line_feed ∷ cards_text cards) (all_weaker is_text_byte is_plain (plain_from is_text_byte refl refl) card one.1) (plain_cards cards (All-tail P card cards h))

inner_of : (x : Frame) → IsFrame x → HasInner x
inner_of (Ack number) f = record { inner = ack_letter ∷ number_text number; is = refl; plain = plain_number number f }
inner_of (Job number origin node text) f =
    let cards = cards_text text in
    record {
      inner = job_letter ∷ (number_text number ++ (origin.0 ++ (node.0 ++ line_feed ∷ cards)));
      is = ap (λ (w : List ℕ). stx ∷ job_letter ∷ w) (sym (
          append_assoc (number_text number) (origin.0 ++ (node.0 ++ line_feed ∷ cards)) (etx ∷ [])
          ∙ ap (λ (w : List ℕ). number_text number ++ w) (append_assoc origin.0 (node.0 ++ line_feed ∷ cards) (etx ∷ [])
          ∙ ap (λ (w : List ℕ). origin.0 ++ w) (append_assoc node.0 (line_feed ∷ cards) (etx ∷ [])))));
      plain = all_joined is_plain (number_text number) (origin.0 ++ (node.0 ++ line_feed ∷ cards)) (plain_number number f.0)
          (all_joined is_plain origin.0 (node.0 ++ line_feed ∷ cards) (plain_name origin f.1)
          (all_joined is_plain node.0 (line_feed ∷ cards) (plain_name node f.2) (plain_cards text f.3.each)));
    }

pub each_frame : (before after : List ℕ) (x : Frame) → IsFrame x → frames_in (before ++ frame_text x ++ after) ≡ frames_in before ++ x ∷ frames_in after
each_frame before after x f =
    let h = inner_of x f in
    let joined : before ++ frame_text x ++ after ≡ before ++ stx ∷ (h.inner ++ etx ∷ after) =
    append_assoc before (frame_text x) after ∙ ap (λ (w : List ℕ). before ++ (w ++ after)) h.is ∙ ap (λ (w : List ℕ). before ++ stx ∷ w) (append_assoc h.inner (etx ∷ []) after) in
    let one : frame_of (stx ∷ (h.inner ++ etx ∷ [])) ≡ x ∷ [] = ap frame_of (sym h.is) ∙ whole_again x f in
    ap frames_in joined ∙ frames-anew before (h.inner ++ etx ∷ after) ∙ ap (λ (w : List Frame). frames_in before ++ w) (frames-ended h.inner after h.plain ∙ ap (λ (f : List Frame). f ++ frames_in after) one)
