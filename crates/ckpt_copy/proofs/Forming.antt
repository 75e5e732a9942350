-- While the VALID gate alone is written, each image is, except for that byte, one of before.
use Rattle.std.proofs.Common.{inl, inr, ℕ, zero, suc, ◌≡◌, ◌+◌, ◌≤◌, List, [], ◌∷◌, ◌++◌, length, take, drop, refl, sym, ◌∙◌, ap, arith}
use Rattle.std.proofs.Math.Seq.{take-add}
use Rattle.spool_plant.specs.View.{Disk, Stretch, Apart, Avoids, IsImage, slice}
use Rattle.spool_plant.specs.Acts.{DiffersIn}
use Rattle.ckpt_copy.specs.Changes.{Spreads}
use Rattle.ckpt_copy.specs.Reading.{IsOfOld}
use Rattle.ckpt_copy.specs.Slices.{stretch, slice_apart}

avoids_inside : (unsynced : List Stretch) (a n w k : ℕ) → a ≤ w → w + k ≤ a + n → Avoids unsynced (stretch a n) → Avoids unsynced (stretch w k)
avoids_inside [] a n w k from to avoids = tt
avoids_inside (r ∷ rs) a n w k from to avoids = (part avoids.0, avoids_inside rs a n w k from to avoids.1) where
  part : Apart r (stretch a n) → Apart r (stretch w k)
  part (inl behind) = inl (omega arith)
  part (inr before) = inr (omega arith)

-- the first byte of one list before the rest of another
abbrev with_first : List ℕ → List ℕ → List ℕ
with_first old new = take 1 old ++ drop 1 new

with_first-size : (old new : List ℕ) → length new ≡ length old → length (with_first old new) ≡ length old
with_first-size [] [] same = refl
with_first-size [] (y ∷ ys) same = absurd (omega (arith, same))
with_first-size (x ∷ xs) [] same = absurd (omega (arith, same))
with_first-size (x ∷ xs) (y ∷ ys) same = same

with_first-rest : (old new : List ℕ) → length new ≡ length old → drop 1 (with_first old new) ≡ drop 1 new
with_first-rest [] [] same = refl
with_first-rest [] (y ∷ ys) same = absurd (omega (arith, same))
with_first-rest (x ∷ xs) [] same = refl
with_first-rest (x ∷ xs) (y ∷ ys) same = refl

with_first-first : (old new : List ℕ) → length new ≡ length old → take 1 (with_first old new) ≡ take 1 old
with_first-first [] [] same = refl
with_first-first [] (y ∷ ys) same = absurd (omega (arith, same))
with_first-first (x ∷ xs) [] same = refl
with_first-first (x ∷ xs) (y ∷ ys) same = refl

-- a stretch that begins with the first byte
slice_first : (k : ℕ) (l : List ℕ) → slice 0 (1 + k) l ≡ take 1 l ++ slice 1 k l
slice_first k l = take-add 1 k l

module _ (old new : Disk) (image : List ℕ) (spreads : Spreads 0 1 old new) (is : IsImage new image) where
  before : List ℕ
  before = with_first old.bytes image

  same_size : length image ≡ length old.bytes
  same_size = is.size ∙ spreads.differs.size

  differs : DiffersIn 0 1 before image
  unfolding before
  differs = record { size = sym (with_first-size old.bytes image same_size ∙ sym same_size); before = refl; after = sym (with_first-rest old.bytes image same_size) }

  behind : (from len : ℕ) → 1 ≤ from → Avoids old.unsynced (stretch from len) → slice from len before ≡ slice from len old.bytes
  behind from len le avoids =
      sym (slice_apart from len 0 1 before image differs (inl le))
      ∙ is.synced (stretch from len) (spreads.unsynced (stretch from len) (inl le) avoids)
      ∙ slice_apart from len 0 1 old.bytes new.bytes spreads.differs (inl le)

  everywhere : (from len : ℕ) → Avoids old.unsynced (stretch from len) → slice from len before ≡ slice from len old.bytes
  unfolding before
  everywhere zero zero avoids = refl
  everywhere zero (suc k) avoids =
      let e : suc k ≡ 1 + k = omega arith in
      ap (λ n. slice 0 n before) e ∙ slice_first k before
      ∙ ap (λ (l : List ℕ). l ++ slice 1 k before) (with_first-first old.bytes image same_size)
      ∙ ap (λ (l : List ℕ). take 1 old.bytes ++ l) (behind 1 k (omega arith) (avoids_inside old.unsynced 0 (suc k) 1 k (omega arith) (omega arith) avoids))
      ∙ sym (slice_first k old.bytes) ∙ sym (ap (λ n. slice 0 n old.bytes) e)
  everywhere (suc j) len avoids = behind (suc j) len (omega arith) avoids

  pub image_of_old : IsOfOld old image
  unfolding before
  image_of_old = (before, record { there = spreads.there is.there; size = with_first-size old.bytes image same_size; synced = λ s avoids. everywhere s.from s.len avoids }, differs)
