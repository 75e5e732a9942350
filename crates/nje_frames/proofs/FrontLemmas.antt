-- What read_frame answers, from what is read.
use Rattle.std.proofs.Common.{◌≡◌, ℕ, zero, suc, ◌+◌, ◌-◌, ◌≤◌, ◌<◌, ◌⊎◌, List, [], ◌∷◌, ◌++◌, length, take, drop, Result, Ok, Err, refl, sym, ap, subst, ◌∙◌, append_assoc, arith, inl, inr}
use Rattle.std.specs.Prelude.{IfOk}
use Rattle.std.proofs.lemmas.Bool.{cases_lt}
use Rattle.std.proofs.lemmas.List.{append-nil, length-append, length-take-le, take-append-drop, take_at, drop_at, nil_from_length}
use Rattle.nje_frames.specs.declared.frames.Frame.{Frame}
use Rattle.nje_frames.specs.declared.frames.FrameNo.{FrameNo}
use Rattle.nje_frames.specs.declared.frames.FrameNo.TheVariants as no
use Rattle.nje_frames.specs.Grammar.{frame_text, IsFrame, IsProperFront, BeginsFrame}
use Rattle.nje_frames.specs.Reading.{frame_at}
use Rattle.nje_frames.specs.Fronts.{HasFrame, IsBad, IsReadAs, IsShortAt, Answers}
use Rattle.nje_frames.proofs.Readers.{Begins, Stops, Takes, Reads, read_cases, ok_same, ok_err, err_same, longer_front}
use Rattle.nje_frames.proofs.FrameReaders.{frame_reads}

pub rest_inside : (bytes : List ℕ) (x : Frame) (rest : List ℕ) → frame_at bytes ≡ Ok (x, rest) → length rest ≤ length bytes
rest_inside bytes x rest e =
    let taken = frame_reads.takes bytes x rest e in
    omega (arith, ap length taken.is, length-append (frame_text x) rest)

pub left_inside : (bytes : List ℕ) (left : ℕ) → frame_at bytes ≡ Err left → left ≤ length bytes
left_inside bytes left e =
    let s = frame_reads.stops bytes left e in
    omega (arith, ap length s.whole, length-append s.front s.rest, s.count)

read_whole : (bytes : List ℕ) (frame : Frame) (rest : List ℕ) → IsFrame frame → bytes ≡ frame_text frame ++ rest → frame_at bytes ≡ Ok (frame, rest)
read_whole bytes frame rest fits is = ap frame_at is ∙ frame_reads.again frame rest fits

pub answer_found : (bytes : List ℕ) (r : Result (Frame × ℕ) FrameNo) → Answers r bytes (frame_at bytes) → IfOk r (λ found. HasFrame bytes found.0 found.1)
answer_found bytes (Err e) a = tt
answer_found bytes (Ok x) a =
    let taken = frame_reads.takes bytes x.0 a.0 a.1 in
    let size : x.1 ≡ length (frame_text x.0) = omega (arith, a.2, ap length taken.is, length-append (frame_text x.0) a.0) in
    let rest : drop x.1 bytes ≡ a.0 = ap (drop x.1) taken.is ∙ drop_at (frame_text x.0) a.0 x.1 (sym size) in
    record { fits = taken.fits; is = taken.is ∙ ap (λ (w : List ℕ). frame_text x.0 ++ w) (sym rest); count = size }

pub answer_only : (bytes : List ℕ) (r : Result (Frame × ℕ) FrameNo) → Answers r bytes (frame_at bytes) → (frame : Frame) (rest : List ℕ) → IsFrame frame → bytes ≡ frame_text frame ++ rest → IsReadAs r frame (length (frame_text frame))
answer_only bytes (Err no.NoMemory) a frame rest fits is = tt
answer_only bytes (Err (no.Short n)) a frame rest fits is = ok_err frame rest 0 (sym (read_whole bytes frame rest fits is) ∙ a.1)
answer_only bytes (Err (no.BadFrame n)) a frame rest fits is = ok_err frame rest a.0 (sym (read_whole bytes frame rest fits is) ∙ a.1)
answer_only bytes (Ok x) a frame rest fits is =
    let same = ok_same x.0 frame a.0 rest (sym a.1 ∙ read_whole bytes frame rest fits is) in
    (same.0, omega (arith, a.2, ap length same.1, ap length is, length-append (frame_text frame) rest))

-- a front that isn't whole
proper : (bytes front rest : List ℕ) → frame_at bytes ≡ Err 0 → bytes ≡ front ++ rest → 0 ≡ length rest → (x : Frame) (more : List ℕ) → IsFrame x → frame_text x ≡ front ++ more → IsProperFront bytes
proper bytes front rest e whole none x [] fits is =
    let nothing : rest ≡ [] = nil_from_length rest (sym none) in
    let all : bytes ≡ frame_text x ++ [] = whole ∙ ap (λ (w : List ℕ). front ++ w) nothing ∙ sym is ∙ sym (append-nil (frame_text x)) in
    absurd (ok_err x [] 0 (sym (read_whole bytes x [] fits all) ∙ e))
proper bytes front rest e whole none x (b ∷ more) fits is =
    let nothing : rest ≡ [] = nil_from_length rest (sym none) in
    let all : bytes ≡ front = whole ∙ ap (λ (w : List ℕ). front ++ w) nothing ∙ append-nil front in
    record { frame = x; next = b; more = more; fits = fits; is = is ∙ ap (λ (w : List ℕ). w ++ b ∷ more) (sym all) }

pub answer_short : (bytes : List ℕ) (r : Result (Frame × ℕ) FrameNo) → Answers r bytes (frame_at bytes) → (n : ℕ) → r ≡ Err (no.Short n) → IsProperFront bytes
answer_short bytes (Ok x) a n is = absurd cc
answer_short bytes (Err no.NoMemory) a n is = absurd cc
answer_short bytes (Err (no.BadFrame m)) a n is = absurd cc
answer_short bytes (Err (no.Short m)) a n is =
    let s = frame_reads.stops bytes 0 a.1 in
    proper bytes s.front s.rest a.1 s.whole s.count s.begins.x s.begins.more s.begins.fits s.begins.is

-- a proper front is read to its end
short_to : (bytes : List ℕ) → IsProperFront bytes → frame_at bytes ≡ Err 0
short_to bytes f =
    read_cases (frame_at bytes) (frame_at bytes ≡ Err 0)
    (λ x rest e.
    let taken = frame_reads.takes bytes x rest e in
    let tail = rest ++ f.next ∷ f.more in
    let joined : frame_text f.frame ++ [] ≡ frame_text x ++ tail =
    append-nil (frame_text f.frame) ∙ f.is ∙ ap (λ (w : List ℕ). w ++ f.next ∷ f.more) taken.is ∙ append_assoc (frame_text x) rest (f.next ∷ f.more) in
    let one = frame_reads.again f.frame [] f.fits in
    let other = frame_reads.again x tail taken.fits in
    let same = ok_same f.frame x [] tail (sym one ∙ ap frame_at joined ∙ other) in
    absurd (omega (arith, ap length same.1, length-append rest (f.next ∷ f.more))))
    (λ left e.
    let s = frame_reads.stops bytes left e in
    let none = nothing_left f s.front s.rest s.whole (λ b more at begins. s.ends b more at begins) in
    e ∙ ap (λ (k : ℕ). Err k) (s.count ∙ ap length none))
  where
    nothing_left : IsProperFront bytes → (front rest : List ℕ) → bytes ≡ front ++ rest → ((b : ℕ) (more : List ℕ) → rest ≡ b ∷ more → Begins IsFrame frame_text (front ++ b ∷ []) → ⊥) → rest ≡ []
    nothing_left f front [] whole never = refl
    nothing_left f front (b ∷ rest) whole never =
        absurd (never b rest refl (record {
          x = f.frame;
          more = rest ++ f.next ∷ f.more;
          fits = f.fits;
          is = f.is ∙ ap (λ (w : List ℕ). w ++ f.next ∷ f.more) (whole ∙ sym (append_assoc front (b ∷ []) rest)) ∙ append_assoc (front ++ b ∷ []) rest (f.next ∷ f.more);
        }))

pub answer_only_short : (bytes : List ℕ) (r : Result (Frame × ℕ) FrameNo) → Answers r bytes (frame_at bytes) → IsProperFront bytes → IsShortAt r (length bytes)
answer_only_short bytes (Err no.NoMemory) a f = tt
answer_only_short bytes (Err (no.Short n)) a f = a.0
answer_only_short bytes (Err (no.BadFrame n)) a f =
    let same : a.0 ≡ 0 = err_same {X = Frame} a.0 0 (sym a.1 ∙ short_to bytes f) in
    omega (arith, a.2, same)
answer_only_short bytes (Ok x) a f = ok_err x.0 a.0 0 (sym a.1 ∙ short_to bytes f)

bad_from : (bytes : List ℕ) (left n : ℕ) → frame_at bytes ≡ Err left → 0 < left → n ≡ length bytes - left → (front rest : List ℕ) → bytes ≡ front ++ rest → left ≡ length rest → Begins IsFrame frame_text front → ((b : ℕ) (more : List ℕ) → rest ≡ b ∷ more → Begins IsFrame frame_text (front ++ b ∷ []) → ⊥) → IsBad bytes n
bad_from bytes left n e some size front [] whole count begins never = absurd (omega (arith, count, some))
bad_from bytes left n e some size front (b ∷ rest) whole count begins never =
    let len : length bytes ≡ length front + length (b ∷ rest) = ap length whole ∙ length-append front (b ∷ rest) in
    let place : length front ≡ n = omega arith in
    let taken : take n bytes ≡ front = ap (take n) whole ∙ take_at front (b ∷ rest) n place in
    record {
      inside = omega arith;
      begins = record { frame = begins.x; more = begins.more; fits = begins.fits; is = begins.is ∙ ap (λ (w : List ℕ). w ++ begins.more) (sym taken) };
      longest = λ more le h. longest more le h len place (cases_lt n more);
      none = λ frame after fits is. ok_err frame after left (sym (read_whole bytes frame after fits is) ∙ e);
    }
  where
    longest : (m : ℕ) → m ≤ length bytes → BeginsFrame (take m bytes) → length bytes ≡ length front + length (b ∷ rest) → length front ≡ n → (n < m) ⊎ (m ≤ n) → m ≤ n
    longest m le h len place (inr few) = few
    longest m le h len place (inl much) =
        let size : length (take m bytes) ≡ m = length-take-le m bytes le in
        let one : length (front ++ b ∷ []) ≡ length front + 1 = length-append front (b ∷ []) in
        let split : (front ++ b ∷ []) ++ rest ≡ take m bytes ++ drop m bytes = append_assoc front (b ∷ []) rest ∙ sym whole ∙ sym (take-append-drop m bytes) in
        let l = longer_front (front ++ b ∷ []) (take m bytes) rest (drop m bytes) (omega arith) split in
        absurd (never b rest refl (record {
          x = h.frame;
          more = l.0 ++ h.more;
          fits = h.fits;
          is = h.is ∙ ap (λ (w : List ℕ). w ++ h.more) l.1.0 ∙ append_assoc (front ++ b ∷ []) l.0 h.more;
        }))

pub answer_bad : (bytes : List ℕ) (r : Result (Frame × ℕ) FrameNo) → Answers r bytes (frame_at bytes) → (n : ℕ) → r ≡ Err (no.BadFrame n) → IsBad bytes n
answer_bad bytes (Ok x) a n is = absurd cc
answer_bad bytes (Err no.NoMemory) a n is = absurd cc
answer_bad bytes (Err (no.Short m)) a n is = absurd cc
answer_bad bytes (Err (no.BadFrame m)) a n is =
    let same : m ≡ n = cc in
    let s = frame_reads.stops bytes a.0 a.1 in
    bad_from bytes a.0 n a.1 a.2 (sym same ∙ a.3) s.front s.rest s.whole s.count s.begins s.ends
