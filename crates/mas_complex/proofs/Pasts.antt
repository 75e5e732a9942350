-- Later pages, over several batches, and what calls leave of those that members noted.
use Rattle.mas_complex.proofs.Names.{◌≡◌, inl, inr, ◌⊎◌, ℕ, zero, suc, ◌+◌, ◌≤◌, ◌<◌, false, List, ◌∷◌, length, slice_set, refl, sym, ◌∙◌, ap, subst, arith, le_refl, le_trans, Dev, Page, members_most, ViewDisk as Disk, IsImage, bytes_of, level, Place, Before, Unsure, nobody_noted, AreLater, HasNoted, IsLater, IsNextOf, values_of, Half, pick, Ckpt2, ⊎_elim, [], replicate}
use Rattle.mas_complex.proofs.Basics.{some_is}
use Rattle.mas_complex.specs.declared.noting.Note.{Note}

-- pages are later than themselves
pub later_next : (count : ℕ) (was is : List ℕ) → IsNextOf count was is → IsLater count was is
later_next count was is n = record {
  rises = omega (arith, n.next);
  each = λ q some few low. ⊎_elim (λ same. same) (λ new. absurd (omega (arith, n.next, new.1, low))) (n.each q some few);
}

-- later than later
pub later_later : (count : ℕ) (a b c : List ℕ) → IsLater count a b → IsLater count b c → IsLater count a c
later_later count a b c ab bc = record {
  rises = le_trans ab.rises bc.rises;
  each = λ q some few low.
      let last = bc.each q some few (le_trans low ab.rises) in
      let first = ab.each q some few (subst (λ n. n ≤ level a) last.1 low) in
      (last.0 ∙ first.0, last.1 ∙ first.1);
}

pub before_unsure : (p : Place) → p ≡ Before → p ≡ Unsure → ⊥
before_unsure p a b = cc

-- WHAT IS NOTED

none_noted : (n m : ℕ) (page : Page) (pages : List Page) → HasNoted (replicate n []) m (page ∷ pages) → ⊥
none_noted zero m page pages noted = absurd (cc noted)
none_noted (suc n) zero page pages noted = absurd (cc noted)
none_noted (suc n) (suc m) page pages noted = none_noted n m page pages noted

-- where nobody noted any pages, nothing is asked
pub nobody_later : (count : ℕ) (is : List ℕ) → AreLater count nobody_noted is
nobody_later count is m page pages noted = absurd (none_noted (members_most + 1) m page pages noted)

-- a note is written in the place of another
pub values_set : (had : List Note) (at : ℕ) (note : Note) → at < length had → values_of (slice_set had at note) ≡ slice_set (values_of had) at note.pages.value
values_set [] at note lt = absurd (omega (arith, lt))
values_set (x ∷ had) zero note lt = refl
values_set (x ∷ had) (suc at) note lt = ap (λ (l : List (List Page)). x.pages.value ∷ l) (values_set had at note (omega (arith, lt)))

-- who notes pages has noted them
pub noted_here : (had : List Note) (at : ℕ) (pages : List Page) → at < length had → HasNoted (slice_set (values_of had) at pages) at pages
noted_here [] at pages lt = absurd (omega (arith, lt))
noted_here (x ∷ had) zero pages lt = refl
noted_here (x ∷ had) (suc at) pages lt = noted_here had at pages (omega (arith, lt))

-- the pages noted are the new ones, or they were noted before
noted_or : (had : List (List Page)) (by m : ℕ) (new x : List Page) → HasNoted (slice_set had by new) m x → (x ≡ new) ⊎ HasNoted had m x
noted_or [] by m new x noted = inr noted
noted_or (y ∷ had) zero zero new x noted = inl (sym (some_is new x noted))
noted_or (y ∷ had) zero (suc m) new x noted = inr noted
noted_or (y ∷ had) (suc by) zero new x noted = inr noted
noted_or (y ∷ had) (suc by) (suc m) new x noted = noted_or had by m new x noted

-- pages that a member notes are later than those that each member noted
pub noted_later : (count : ℕ) (had : List (List Page)) (by : ℕ) (pages : List Page) → AreLater count had (bytes_of pages) → AreLater count (slice_set had by pages) (bytes_of pages)
noted_later count had by pages are m page rest noted = ⊎_elim
    (λ e. subst (λ (k : List Page). IsLater count (bytes_of k) (bytes_of pages)) (sym e) (record { rises = le_refl (level (bytes_of pages)); each = λ q some few low. (refl, refl) }))
    (λ old. are m page rest old)
    (noted_or had by m pages (page ∷ rest) noted)

-- DEVICES

-- the bytes themselves are an image
pub image_now : (d : Disk) → d.lost ≡ false → IsImage d d.bytes
image_now d there = record { there = there; size = refl; synced = λ s avoids. refl }

pub alive_picked : {C : Type 0} (dev : Dev) (k1 k2 h1 h2 : Half C) → k1.alive ≡ h1.alive → k2.alive ≡ h2.alive → (pick dev k1 k2).alive ≡ (pick dev h1 h2).alive
alive_picked Ckpt2 k1 k2 h1 h2 one two = two
alive_picked _ k1 k2 h1 h2 one two = one
