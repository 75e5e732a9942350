-- Reading frames.
use Rattle.std.proofs.Common.{◌≡◌, ℕ, zero, suc, ◌+◌, ◌≤◌, ◌<◌, Bool, true, false, List, [], ◌∷◌, ◌++◌, length, Result, Ok, Err, refl, sym, ap, ◌∙◌, append_assoc, arith}
use Rattle.std.specs.Prelude.{◌==◌, if◌then◌else◌}
use Rattle.std.proofs.lemmas.Bool.{eqb-true, eq-eqb}
use Rattle.std.proofs.lemmas.List.{append-nil}
use Rattle.std.proofs.lemmas.List.Elements.{All-cons, All-nil}
use Rattle.mas_types.specs.declared.ids.Name8.{Name8}
use Rattle.mas_types.specs.Fit.{IsName}
use Rattle.nje_frames.specs.declared.frames.Frame.{Frame}
use Rattle.nje_frames.specs.declared.frames.Frame.TheVariants.{Job, Ack}
use Rattle.nje_frames.specs.Grammar.{stx, etx, line_feed, job_letter, ack_letter, number_text, cards_text, frame_text, is_card, IsNumber, AreCards, IsFrame}
use Rattle.nje_frames.specs.Reading.{◌>>=◌, number_at, name_at, byte_at, both, told, text_at, ack_of, ack_at, job_of, job_at, inner_at, frame_at}
use Rattle.nje_frames.proofs.Readers.{Begins, Stops, Takes, Reads, read_cases, ok_same, ok_err, err_same, FitsByte, byte_text, byte_reads}
use Rattle.nje_frames.proofs.Sequences.{FitBoth, both_text, both_reads, SaysAll, told_reads}
use Rattle.nje_frames.proofs.Cards.{cards_line, text_reads, reads_same}
use Rattle.nje_frames.proofs.Numbers.{number_reads}
use Rattle.nje_frames.proofs.NodeNames.{name_bytes_of, any_name, any_name_fits, name_reads}

-- ACKNOWLEDGEMENTS

abbrev IsAck : Frame → Type 0
IsAck (Job number origin node text) = ⊥
IsAck (Ack number) = IsNumber number

abbrev ack_line : Frame → List ℕ
ack_line (Job number origin node text) = []
ack_line (Ack number) = number_text number ++ etx ∷ []

abbrev ack_number : Frame → ℕ × Unit {0}
ack_number (Job number origin node text) = (0, tt)
ack_number (Ack number) = (number, tt)

says_ack : SaysAll (FitBoth IsNumber (FitsByte etx)) (both_text number_text (byte_text etx)) IsAck ack_line ack_of ack_number
says_ack = record { fits = λ x f. f.0; text = λ x f. refl; fits_back = fits; text_back = texts; back = again }
  where
    fits : (y : Frame) → IsAck y → FitBoth IsNumber (FitsByte etx) (ack_number y)
    fits (Job number origin node text) f = absurd f
    fits (Ack number) f = (f, tt)

    texts : (y : Frame) → IsAck y → both_text number_text (byte_text etx) (ack_number y) ≡ ack_line y
    texts (Job number origin node text) f = absurd f
    texts (Ack number) f = refl

    again : (y : Frame) → IsAck y → ack_of (ack_number y) ≡ y
    again (Job number origin node text) f = absurd f
    again (Ack number) f = refl

ack_reads : Reads IsAck ack_line ack_at
ack_reads =
    told_reads (FitBoth IsNumber (FitsByte etx)) (both_text number_text (byte_text etx)) (both number_at (byte_at etx)) IsAck ack_line ack_of ack_number
    (both_reads IsNumber number_text number_at (FitsByte etx) (byte_text etx) (byte_at etx) number_reads (byte_reads etx) tt tt)
    says_ack

-- JOBS

abbrev IsJob : Frame → Type 0
IsJob (Job number origin node text) = IsNumber number × IsName origin × IsName node × AreCards text
IsJob (Ack number) = ⊥

abbrev job_line : Frame → List ℕ
job_line (Job number origin node text) = number_text number ++ (origin.0 ++ (node.0 ++ line_feed ∷ (cards_text text ++ etx ∷ [])))
job_line (Ack number) = []

abbrev Cards : Type 0
Cards = List (List ℕ)

abbrev FitD : Unit {0} × Cards → Type 0
FitD = FitBoth (FitsByte line_feed) AreCards

abbrev text_d : Unit {0} × Cards → List ℕ
text_d = both_text (byte_text line_feed) cards_line

abbrev FitC : Name8 × (Unit {0} × Cards) → Type 0
FitC = FitBoth IsName FitD

abbrev text_c : Name8 × (Unit {0} × Cards) → List ℕ
text_c = both_text name_bytes_of text_d

abbrev FitB : Name8 × (Name8 × (Unit {0} × Cards)) → Type 0
FitB = FitBoth IsName FitC

abbrev text_b : Name8 × (Name8 × (Unit {0} × Cards)) → List ℕ
text_b = both_text name_bytes_of text_c

abbrev FitA : ℕ × (Name8 × (Name8 × (Unit {0} × Cards))) → Type 0
FitA = FitBoth IsNumber FitB

abbrev text_a : ℕ × (Name8 × (Name8 × (Unit {0} × Cards))) → List ℕ
text_a = both_text number_text text_b

any_cards : AreCards ([] ∷ [])
any_cards = record { some = omega arith; few = omega arith; each = All-cons (λ card. is_card card ≡ true) [] [] refl (All-nil (λ card. is_card card ≡ true)) }

abbrev job_parts : Frame → ℕ × (Name8 × (Name8 × (Unit {0} × Cards)))
job_parts (Job number origin node text) = (number, (origin, (node, (tt, text))))
job_parts (Ack number) = (0, (any_name, (any_name, (tt, []))))

says_job : SaysAll FitA text_a IsJob job_line job_of job_parts
says_job = record {
  fits = λ x f. (f.0, f.1.0, f.1.1.0, f.1.1.1.1);
  text = λ x f. refl;
  fits_back = fits;
  text_back = texts;
  back = again;
}
  where
    fits : (y : Frame) → IsJob y → FitA (job_parts y)
    fits (Job number origin node text) f = (f.0, (f.1, (f.2, (tt, f.3))))
    fits (Ack number) f = absurd f

    texts : (y : Frame) → IsJob y → text_a (job_parts y) ≡ job_line y
    texts (Job number origin node text) f = refl
    texts (Ack number) f = absurd f

    again : (y : Frame) → IsJob y → job_of (job_parts y) ≡ y
    again (Job number origin node text) f = refl
    again (Ack number) f = absurd f

job_reads : Reads IsJob job_line job_at
job_reads =
    let d = both_reads (FitsByte line_feed) (byte_text line_feed) (byte_at line_feed) AreCards cards_line text_at (byte_reads line_feed) text_reads ([] ∷ []) any_cards in
    let c = both_reads IsName name_bytes_of name_at FitD text_d (both (byte_at line_feed) text_at) name_reads d (tt, [] ∷ []) (tt, any_cards) in
    let b = both_reads IsName name_bytes_of name_at FitC text_c (both name_at (both (byte_at line_feed) text_at)) name_reads c (any_name, (tt, [] ∷ [])) (any_name_fits, (tt, any_cards)) in
    let a = both_reads IsNumber number_text number_at FitB text_b (both name_at (both name_at (both (byte_at line_feed) text_at))) number_reads b (any_name, (any_name, (tt, [] ∷ []))) (any_name_fits, (any_name_fits, (tt, any_cards))) in
    told_reads FitA text_a (both number_at (both name_at (both name_at (both (byte_at line_feed) text_at)))) IsJob job_line job_of job_parts a says_job

-- EITHER

-- a frame without its STX
abbrev pub inner_text : Frame → List ℕ
inner_text (Job number origin node text) = job_letter ∷ (number_text number ++ (origin.0 ++ (node.0 ++ line_feed ∷ (cards_text text ++ etx ∷ []))))
inner_text (Ack number) = ack_letter ∷ (number_text number ++ etx ∷ [])

inner-ack : (b : ℕ) (bytes : List ℕ) → (b == ack_letter) ≡ true → inner_at (b ∷ bytes) ≡ ack_at bytes
inner-ack b bytes e = rw e refl

inner-job : (b : ℕ) (bytes : List ℕ) → (b == ack_letter) ≡ false → (b == job_letter) ≡ true → inner_at (b ∷ bytes) ≡ job_at bytes
inner-job b bytes e f = rw (e, f) refl

inner-none : (b : ℕ) (bytes : List ℕ) → (b == ack_letter) ≡ false → (b == job_letter) ≡ false → inner_at (b ∷ bytes) ≡ Err (suc (length bytes))
inner-none b bytes e f = rw (e, f) refl

letter_cases : (b : ℕ) (P : Type 0) → ((b == ack_letter) ≡ true → P) → ((b == ack_letter) ≡ false → (b == job_letter) ≡ true → P) → ((b == ack_letter) ≡ false → (b == job_letter) ≡ false → P) → P
letter_cases b P one two three = first (b == ack_letter) refl
  where
    second : (t : Bool) → (b == job_letter) ≡ t → (b == ack_letter) ≡ false → P
    second true e f = two f e
    second false e f = three f e

    first : (t : Bool) → (b == ack_letter) ≡ t → P
    first true e = one e
    first false e = second (b == job_letter) refl e

ack_up : (rest : List ℕ) (bytes : List ℕ) (x : Frame) → Takes IsAck ack_line bytes x rest → Takes IsFrame inner_text (ack_letter ∷ bytes) x rest
ack_up rest bytes (Job number origin node text) taken = absurd taken.fits
ack_up rest bytes (Ack number) taken = record { fits = taken.fits; is = ap (λ (w : List ℕ). ack_letter ∷ w) taken.is }

job_up : (rest : List ℕ) (bytes : List ℕ) (x : Frame) → Takes IsJob job_line bytes x rest → Takes IsFrame inner_text (job_letter ∷ bytes) x rest
job_up rest bytes (Ack number) taken = absurd taken.fits
job_up rest bytes (Job number origin node text) taken = record { fits = taken.fits; is = ap (λ (w : List ℕ). job_letter ∷ w) taken.is }

inner_takes : (bytes : List ℕ) (x : Frame) (rest : List ℕ) → inner_at bytes ≡ Ok (x, rest) → Takes IsFrame inner_text bytes x rest
inner_takes [] x rest e = absurd (ok_err x rest 0 (sym e))
inner_takes (b ∷ bytes) x rest e =
    letter_cases b (Takes IsFrame inner_text (b ∷ bytes) x rest)
    (λ f. let same = eqb-true b ack_letter f in rw same (ack_up rest bytes x (ack_reads.takes bytes x rest (sym (inner-ack b bytes f) ∙ e))))
    (λ f g. let same = eqb-true b job_letter g in rw same (job_up rest bytes x (job_reads.takes bytes x rest (sym (inner-job b bytes f g) ∙ e))))
    (λ f g. absurd (ok_err x rest (suc (length bytes)) (sym e ∙ inner-none b bytes f g)))

inner_again : (x : Frame) (rest : List ℕ) → IsFrame x → inner_at (inner_text x ++ rest) ≡ Ok (x, rest)
inner_again (Job number origin node text) rest fits = job_reads.again (Job number origin node text) rest fits
inner_again (Ack number) rest fits = ack_reads.again (Ack number) rest fits

begins_ack : (bytes : List ℕ) (x : Frame) (more : List ℕ) → IsAck x → ack_line x ≡ bytes ++ more → Begins IsFrame inner_text (ack_letter ∷ bytes)
begins_ack bytes (Job number origin node text) more fits is = absurd fits
begins_ack bytes (Ack number) more fits is = record { x = Ack number; more = more; fits = fits; is = ap (λ (w : List ℕ). ack_letter ∷ w) is }

begins_job : (bytes : List ℕ) (x : Frame) (more : List ℕ) → IsJob x → job_line x ≡ bytes ++ more → Begins IsFrame inner_text (job_letter ∷ bytes)
begins_job bytes (Ack number) more fits is = absurd fits
begins_job bytes (Job number origin node text) more fits is = record { x = Job number origin node text; more = more; fits = fits; is = ap (λ (w : List ℕ). job_letter ∷ w) is }

ack_back : (bytes : List ℕ) (x : Frame) (more : List ℕ) → IsFrame x → inner_text x ≡ ack_letter ∷ (bytes ++ more) → Begins IsAck ack_line bytes
ack_back bytes (Job number origin node text) more fits is = absurd (let same : job_letter ≡ ack_letter = cc in omega arith)
ack_back bytes (Ack number) more fits is = let tail : number_text number ++ etx ∷ [] ≡ bytes ++ more = cc in record { x = Ack number; more = more; fits = fits; is = tail }

job_back : (bytes : List ℕ) (x : Frame) (more : List ℕ) → IsFrame x → inner_text x ≡ job_letter ∷ (bytes ++ more) → Begins IsJob job_line bytes
job_back bytes (Ack number) more fits is = absurd (let same : ack_letter ≡ job_letter = cc in omega arith)
job_back bytes (Job number origin node text) more fits is =
    let tail : job_line (Job number origin node text) ≡ bytes ++ more = cc in
    record { x = Job number origin node text; more = more; fits = fits; is = tail }

first_letter : (b : ℕ) (x : Frame) (more : List ℕ) → inner_text x ≡ b ∷ more → (b == ack_letter) ≡ false → (b == job_letter) ≡ false → ⊥
first_letter b (Job number origin node text) more is f g = let same : b ≡ job_letter = cc in let yes = eq-eqb b job_letter same in absurd cc
first_letter b (Ack number) more is f g = let same : b ≡ ack_letter = cc in let yes = eq-eqb b ack_letter same in absurd cc

any_inner : (more : List ℕ) → inner_text (Ack 1) ≡ more → Begins IsFrame inner_text []
any_inner more is = record { x = Ack 1; more = more; fits = (omega arith, omega arith); is = is }

inner_stops : (bytes : List ℕ) (left : ℕ) → inner_at bytes ≡ Err left → Stops IsFrame inner_text bytes left
inner_stops [] left e =
    let none : 0 ≡ left = err_same {X = Frame} 0 left e in
    record { front = []; rest = []; whole = refl; count = sym none; begins = any_inner (inner_text (Ack 1)) refl; ends = λ b more at begins. absurd cc }
inner_stops (b ∷ bytes) left e =
    letter_cases b (Stops IsFrame inner_text (b ∷ bytes) left)
    (λ f. let same = eqb-true b ack_letter f in rw same (acks (ack_reads.stops bytes left (sym (inner-ack b bytes f) ∙ e))))
    (λ f g. let same = eqb-true b job_letter g in rw same (jobs (job_reads.stops bytes left (sym (inner-job b bytes f g) ∙ e))))
    (λ f g. none f g (err_same {X = Frame} (suc (length bytes)) left (sym (inner-none b bytes f g) ∙ e)))
  where
    acks : Stops IsAck ack_line bytes left → Stops IsFrame inner_text (ack_letter ∷ bytes) left
    acks s = record {
      front = ack_letter ∷ s.front;
      rest = s.rest;
      whole = ap (λ (w : List ℕ). ack_letter ∷ w) s.whole;
      count = s.count;
      begins = begins_ack s.front s.begins.x s.begins.more s.begins.fits s.begins.is;
      ends = λ c more at begins. s.ends c more at (ack_back (s.front ++ c ∷ []) begins.x begins.more begins.fits begins.is);
    }

    jobs : Stops IsJob job_line bytes left → Stops IsFrame inner_text (job_letter ∷ bytes) left
    jobs s = record {
      front = job_letter ∷ s.front;
      rest = s.rest;
      whole = ap (λ (w : List ℕ). job_letter ∷ w) s.whole;
      count = s.count;
      begins = begins_job s.front s.begins.x s.begins.more s.begins.fits s.begins.is;
      ends = λ c more at begins. s.ends c more at (job_back (s.front ++ c ∷ []) begins.x begins.more begins.fits begins.is);
    }

    none : (b == ack_letter) ≡ false → (b == job_letter) ≡ false → suc (length bytes) ≡ left → Stops IsFrame inner_text (b ∷ bytes) left
    none f g size = record {
      front = [];
      rest = b ∷ bytes;
      whole = refl;
      count = sym size;
      begins = any_inner (inner_text (Ack 1)) refl;
      ends = λ c more at begins. let head : b ≡ c = cc in let is : inner_text begins.x ≡ b ∷ begins.more = rw head begins.is in first_letter b begins.x begins.more is f g;
    }

inner_reads : Reads IsFrame inner_text inner_at
inner_reads = record { takes = inner_takes; again = inner_again; stops = inner_stops }

-- FRAMES

abbrev second_of : Unit {0} × Frame → Frame
second_of x = x.1

pub text_is : (x : Frame) → frame_text x ≡ stx ∷ inner_text x
text_is (Job number origin node text) = refl
text_is (Ack number) = refl

says_frame : SaysAll (FitBoth (FitsByte stx) IsFrame) (both_text (byte_text stx) inner_text) IsFrame frame_text second_of (λ (x : Frame). (tt, x))
says_frame = record {
  fits = λ x f. f.1;
  text = λ x f. text_is x.1;
  fits_back = λ y f. (tt, f);
  text_back = λ y f. sym (text_is y);
  back = λ y f. refl;
}

abbrev with_unit : Frame × List ℕ → Result ((Unit {0} × Frame) × List ℕ) ℕ
with_unit b = Ok ((tt, b.0), b.1)

abbrev without_unit : (Unit {0} × Frame) × List ℕ → Result (Frame × List ℕ) ℕ
without_unit a = Ok (second_of a.0, a.1)

again_told : (r : Result (Frame × List ℕ) ℕ) → r ≡ ((r >>= with_unit) >>= without_unit)
again_told (Ok x) = refl
again_told (Err left) = refl

frame-is : (bytes : List ℕ) → frame_at bytes ≡ told second_of (both (byte_at stx) inner_at) bytes
frame-is [] = refl
frame-is (b ∷ bytes) = go (b == stx) refl
  where
    go : (t : Bool) → (b == stx) ≡ t → frame_at (b ∷ bytes) ≡ told second_of (both (byte_at stx) inner_at) (b ∷ bytes)
    go true e = rw e (again_told (inner_at bytes))
    go false e = rw e refl

pub frame_reads : Reads IsFrame frame_text frame_at
frame_reads =
    reads_same IsFrame frame_text (told second_of (both (byte_at stx) inner_at)) frame_at frame-is
    (told_reads (FitBoth (FitsByte stx) IsFrame) (both_text (byte_text stx) inner_text) (both (byte_at stx) inner_at) IsFrame frame_text second_of (λ (x : Frame). (tt, x))
    (both_reads (FitsByte stx) (byte_text stx) (byte_at stx) IsFrame inner_text inner_at (byte_reads stx) inner_reads (Ack 1) (omega arith, omega arith))
    says_frame)

-- no two frames have one spelling
pub one_spelling : (one other : Frame) → IsFrame one → IsFrame other → frame_text one ≡ frame_text other → one ≡ other
one_spelling one other f g e =
    let a = frame_reads.again one [] f in
    let b = frame_reads.again other [] g in
    (ok_same one other [] [] (sym a ∙ ap (λ (w : List ℕ). frame_at (w ++ [])) e ∙ b)).0
