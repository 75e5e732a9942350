-- A piece completes no more frames than it has bytes.
use Rattle.std.proofs.Common.{◌≡◌, ℕ, zero, suc, ◌+◌, ◌≤◌, Bool, true, false, List, [], ◌∷◌, ◌++◌, length, Option, Some, None, Result, Ok, Err, refl, ap, ◌∙◌, arith}
use Rattle.std.specs.Prelude.{◌==◌, not, ◌||◌, if◌then◌else◌, option_map}
use Rattle.std.specs.List.{list_all}
use Rattle.std.proofs.lemmas.Bool.{eqb-true, and_parts}
use Rattle.std.proofs.lemmas.List.{length-append}
use Rattle.lay_bytes.proofs.Pieces.{test_cases}
use Rattle.nje_frames.specs.declared.frames.Frame.{Frame}
use Rattle.nje_frames.specs.Grammar.{stx, etx}
use Rattle.nje_frames.specs.Laws.{CompletesFew}
use Rattle.nje_frames.specs.Reading.{frame_at}
use Rattle.nje_frames.specs.Streams.{closed, frame_if, frame_of, frames_in, is_open, is_plain, whole}
use Rattle.nje_frames.proofs.StreamSteps.{open_started}

-- how many bytes end a frame
abbrev ends_in : List ℕ → ℕ
ends_in [] = 0
ends_in (b ∷ bytes) = if b == etx then suc (ends_in bytes) else ends_in bytes

ends_few : (bytes : List ℕ) → ends_in bytes ≤ length bytes
ends_few [] = omega arith
ends_few (b ∷ bytes) =
    let few = ends_few bytes in
    test_cases (b == etx) (ends_in (b ∷ bytes) ≤ suc (length bytes))
    (λ e. rw e (omega (arith, few)))
    (λ e. rw e (omega (arith, few)))

ends_append : (xs ys : List ℕ) → ends_in (xs ++ ys) ≡ ends_in xs + ends_in ys
ends_append [] ys = omega arith
ends_append (b ∷ xs) ys =
    let more = ends_append xs ys in
    test_cases (b == etx) (ends_in (b ∷ (xs ++ ys)) ≡ ends_in (b ∷ xs) + ends_in ys)
    (λ e. rw e (omega (arith, more)))
    (λ e. rw e more)

-- an ETX is no STX
ends_not_starts : (b : ℕ) → (b == etx) ≡ true → (b == stx) ≡ false
ends_not_starts b e = let same = eqb-true b etx e in ap (λ (x : ℕ). x == stx) same

whole_one : (r : Result (Frame × List ℕ) ℕ) → length (whole r) ≤ 1
whole_one (Ok (frame, [])) = omega arith
whole_one (Ok (frame, b ∷ rest)) = omega arith
whole_one (Err left) = omega arith

one_frame : (bytes : List ℕ) → length (frame_of bytes) ≤ 1
unfolding frame_of
one_frame bytes = whole_one (frame_at bytes)

-- there are no more frames than ends; and where bytes end the frame before them, one fewer
record AreFewer (bytes : List ℕ) : Type 0 where
  all : length (frames_in bytes) ≤ ends_in bytes
  after : (c : List ℕ) → closed bytes ≡ Some c → suc (length (frames_in bytes)) ≤ ends_in bytes

module _ (bytes : List ℕ) (few : AreFewer bytes) where
  -- a frame may begin before them
  started : (o : Option (List ℕ)) → closed bytes ≡ o → length (frame_if o ++ frames_in bytes) ≤ ends_in bytes
  started None is = few.all
  started (Some c) is =
      let both = length-append (frame_of (stx ∷ c)) (frames_in bytes) in
      let one = one_frame (stx ∷ c) in
      let less = few.after c is in
      omega (arith, both, one, less)

  -- a byte that is no mark stands before them
  later : (f : List ℕ → List ℕ) (o : Option (List ℕ)) → closed bytes ≡ o → (c : List ℕ) → option_map f o ≡ Some c → suc (length (frames_in bytes)) ≤ ends_in bytes
  later f None is c h = absurd (cc)
  later f (Some more) is c h = few.after more is

fewer : (bytes : List ℕ) → AreFewer bytes
fewer [] = record { all = omega arith; after = λ c h. absurd (cc) }
fewer (b ∷ bytes) =
    let few = fewer bytes in
    test_cases (b == etx) (AreFewer (b ∷ bytes))
    (λ e. let s = ends_not_starts b e in let le = few.all in
    record { all = rw (s, e) (omega (arith, le)); after = λ c h. rw (s, e) (omega (arith, le)) })
    (λ e. test_cases (b == stx) (AreFewer (b ∷ bytes))
    (λ s. record { all = rw (s, e) (started bytes few (closed bytes) refl); after = λ c h. absurd (let w : None ≡ Some c = rw (e, s) at h in cc) })
    (λ s. let le = few.all in
    record {
      all = rw (s, e) le;
      after = λ c h. (let w : option_map (λ (more : List ℕ). b ∷ more) (closed bytes) ≡ Some c = rw (e, s) at h in rw (s, e) (later bytes few (λ (more : List ℕ). b ∷ more) (closed bytes) refl c w));
    }))

no_end : (s e : Bool) → not (s || e) ≡ true → e ≡ false
no_end s false h = refl
no_end true true h = absurd (cc)
no_end false true h = absurd (cc)

plain_ends_none : (bytes : List ℕ) → list_all is_plain bytes ≡ true → ends_in bytes ≡ 0
plain_ends_none [] plain = refl
plain_ends_none (b ∷ bytes) plain =
    let parts = and_parts (is_plain b) (list_all is_plain bytes) plain in
    let end : (b == etx) ≡ false = no_end (b == stx) (b == etx) parts.0 in
    rw end (plain_ends_none bytes parts.1)

open_ends_none : (rest : List ℕ) → is_open rest ≡ true → ends_in rest ≡ 0
open_ends_none [] is = refl
open_ends_none (b ∷ bytes) is = let s = open_started (b ∷ bytes) is (omega arith) in ap ends_in s.is ∙ plain_ends_none s.inner s.plain

pub completes_few : CompletesFew
completes_few rest piece is =
    let all = (fewer (rest ++ piece)).all in
    let both = ends_append rest piece in
    let none = open_ends_none rest is in
    let few = ends_few piece in
    omega (arith, all, both, none, few)
