-- Members of which no stop was armed, after an act that is passed on.
use Rattle.std.proofs.Common.{◌≡◌, ⊎_elim, ℕ, zero, suc, ◌-◌, Bool, true, false, if◌then◌else◌, List, [], ◌∷◌, slice_index, slice_set, ◌∙◌, subst, arith, get_or-set_other}
use Rattle.spool_disk.specs.Fuses.{Armed, one_less, burnt}
use Rattle.spool_disk.proofs.Acting.{same_or_not}
use Rattle.plant_fuse.specs.Unarmed.{AreUnarmed}

set_none : (counts : List ℕ) (m n : ℕ) → slice_index counts m ≡ 0 → n ≡ 0 → slice_index (slice_set counts m n) m ≡ 0
set_none [] m n none is = none
set_none (x ∷ xs) zero n none is = is
set_none (x ∷ xs) (suc m) n none is = set_none xs m n none is

-- a count of 0 stays, whichever becomes one less
less_at : (counts : List ℕ) (by m : ℕ) → slice_index counts m ≡ 0 → slice_index (one_less counts by) m ≡ 0
less_at counts by m none = ⊎_elim
    (λ same. subst (λ (k : ℕ). slice_index (one_less counts k) m ≡ 0) same (set_none counts m (slice_index counts m - 1) none (omega (arith, none))))
    (λ ne. get_or-set_other counts by m _ 0 ne ∙ none)
    (same_or_not m by)

pub burnt_unarmed : (a : Armed) (stops arms : List ℕ) (by : ℕ) (prints : Bool) → AreUnarmed a stops arms → AreUnarmed (burnt a by prints) stops arms
burnt_unarmed a stops arms by prints are m none = let u = are m none in record { acts = less_at a.acts by m u.acts; prints = by_print prints u.prints; unstopped = u.unstopped } where
  by_print : (b : Bool) → slice_index a.prints m ≡ 0 → slice_index (if b then one_less a.prints by else a.prints) m ≡ 0
  by_print true is = less_at a.prints by m is
  by_print false is = is
