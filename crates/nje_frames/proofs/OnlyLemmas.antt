-- Every frame that is read stands in the stream.
use Rattle.std.proofs.Common.{◌≡◌, ℕ, Bool, true, false, List, [], ◌∷◌, ◌++◌, Option, Some, None, Result, Ok, Err, refl, sym, ap, subst, ◌∙◌, ◌⊎◌, inl, inr}
use Rattle.std.specs.Prelude.{◌==◌, if◌then◌else◌, option_map}
use Rattle.std.specs.List.{AllByRecursion}
use Rattle.std.proofs.lemmas.Bool.{eqb-true}
use Rattle.nje_frames.specs.declared.frames.Frame.{Frame}
use Rattle.nje_frames.specs.Grammar.{stx, etx, frame_text, IsFrame}
use Rattle.nje_frames.specs.Reading.{frame_at}
use Rattle.nje_frames.specs.Streams.{closed, whole, frame_of, frame_if, frames_in}
use Rattle.nje_frames.specs.Laws.{StandsIn}
use Rattle.nje_frames.proofs.StreamLemmas.{whole_is}

closed_stands : (bytes inner : List ℕ) → closed bytes ≡ Some inner → (rest : List ℕ) × (bytes ≡ inner ++ rest)
closed_stands [] inner h = absurd cc
closed_stands (b ∷ bytes) inner h = first (λ more e. closed_stands bytes more e) (b == etx) (b == stx) h
  where
    third : ((more : List ℕ) → closed bytes ≡ Some more → (rest : List ℕ) × (bytes ≡ more ++ rest)) → (o : Option (List ℕ)) → closed bytes ≡ o → option_map (λ (more : List ℕ). b ∷ more) o ≡ Some inner → (rest : List ℕ) × (b ∷ bytes ≡ inner ++ rest)
    third further None e h = absurd cc
    third further (Some more) e h =
        let found = further more e in
        let same : b ∷ more ≡ inner = cc in
        (found.0, ap (λ (w : List ℕ). b ∷ w) found.1 ∙ ap (λ (w : List ℕ). w ++ found.0) same)

    first : ((more : List ℕ) → closed bytes ≡ Some more → (rest : List ℕ) × (bytes ≡ more ++ rest)) → (x y : Bool) → ◌≡◌ {A = Option (List ℕ)} (if x then Some (b ∷ []) else (if y then None else option_map (λ (more : List ℕ). b ∷ more) (closed bytes))) (Some inner) → (rest : List ℕ) × (b ∷ bytes ≡ inner ++ rest)
    first further true y h = let same : b ∷ [] ≡ inner = cc in (bytes, ap (λ (w : List ℕ). w ++ bytes) same)
    first further false true h = absurd cc
    first further false false h = third further (closed bytes) refl h

frame_of_one : (bytes : List ℕ) (P : Frame → Type 0) → ((x : Frame) → frame_of bytes ≡ x ∷ [] → P x) → AllByRecursion P (frame_of bytes)
unfolding frame_of
frame_of_one bytes P each = go (whole (frame_at bytes)) refl (one (frame_at bytes))
  where
    one : (r : Result (Frame × List ℕ) ℕ) → (whole r ≡ []) ⊎ ((x : Frame) × (whole r ≡ x ∷ []))
    one (Err left) = inl refl
    one (Ok (x, [])) = inr (x, refl)
    one (Ok (x, b ∷ rest)) = inl refl

    go : (frames : List Frame) → whole (frame_at bytes) ≡ frames → (frames ≡ []) ⊎ ((x : Frame) × (frames ≡ x ∷ [])) → AllByRecursion P frames
    go [] e h = tt
    go (x ∷ []) e h = (each x e, tt)
    go (x ∷ y ∷ frames) e (inl h) = absurd cc
    go (x ∷ y ∷ frames) e (inr h) = absurd (let tail : y ∷ frames ≡ [] = cc in cc)

all_joined : (P : Frame → Type 0) (xs ys : List Frame) → AllByRecursion P xs → AllByRecursion P ys → AllByRecursion P (xs ++ ys)
all_joined P [] ys a b = b
all_joined P (x ∷ xs) ys a b = (a.0, all_joined P xs ys a.1 b)

stands_later : (b : ℕ) (bytes : List ℕ) (xs : List Frame) → AllByRecursion (StandsIn bytes) xs → AllByRecursion (StandsIn (b ∷ bytes)) xs
stands_later b bytes [] a = tt
stands_later b bytes (x ∷ xs) a =
    let s = a.0 in
    (record { before = b ∷ s.before; after = s.after; fits = s.fits; is = ap (λ (w : List ℕ). b ∷ w) s.is }, stands_later b bytes xs a.1)

first_stands : (bytes : List ℕ) (o : Option (List ℕ)) → closed bytes ≡ o → AllByRecursion (StandsIn (stx ∷ bytes)) (frame_if o)
first_stands bytes None e = tt
first_stands bytes (Some inner) e =
    let rest = closed_stands bytes inner e in
    frame_of_one (stx ∷ inner) (StandsIn (stx ∷ bytes)) (λ x h.
    let is = whole_is (stx ∷ inner) x h in
    record { before = []; after = rest.0; fits = is.0; is = ap (λ (w : List ℕ). stx ∷ w) rest.1 ∙ ap (λ (w : List ℕ). w ++ rest.0) is.1 })

pub all_stand : (stream : List ℕ) → AllByRecursion (StandsIn stream) (frames_in stream)
all_stand [] = tt
all_stand (b ∷ bytes) = go (stands_later b bytes (frames_in bytes) (all_stand bytes)) (b == stx) refl
  where
    go : AllByRecursion (StandsIn (b ∷ bytes)) (frames_in bytes) → (z : Bool) → (b == stx) ≡ z → AllByRecursion (StandsIn (b ∷ bytes)) (if z then frame_if (closed bytes) ++ frames_in bytes else frames_in bytes)
    go rest false e = rest
    go rest true e =
        let same = eqb-true b stx e in
        all_joined (StandsIn (b ∷ bytes)) (frame_if (closed bytes)) (frames_in bytes) (subst (λ (c : ℕ). AllByRecursion (StandsIn (c ∷ bytes)) (frame_if (closed bytes))) (sym same) (first_stands bytes (closed bytes) refl)) rest
