-- What two lists by member have at a place.
use Rattle.std.proofs.Common.{◌≡◌, ℕ, zero, suc, ◌+◌, ◌<◌, arith}
use Rattle.std.specs.Prelude.{map, slice_index_or}
use Rattle.mas_types.specs.declared.ids.MemberId.{MemberId}
use Rattle.gate_turns.specs.Seats.{seats_from}

module _ {X : Type 0} where
  -- what holds of what each member has, and of nothing, holds at each place
  pub each_seat : (R : X → X → Type 0) (f g : MemberId → X) (d : X) → R d d
      → (at n k : ℕ) → ((m : MemberId) → m.0 ≡ at + k → k < n → R (f m) (g m)) → R (slice_index_or (map f (seats_from at n)) k d) (slice_index_or (map g (seats_from at n)) k d)
  each_seat R f g d none at zero k each = none
  each_seat R f g d none at (suc n) zero each = each (record { 0 = at }) (omega arith) (omega arith)
  each_seat R f g d none at (suc n) (suc k) each = each_seat R f g d none (at + 1) n k (λ m e lt. each m (omega arith) (omega arith))

  pub seat_at : (f : MemberId → X) (d : X) (at n k : ℕ) (m : MemberId) → k < n → m.0 ≡ at + k → slice_index_or (map f (seats_from at n)) k d ≡ f m
  seat_at f d at zero k m lt e = absurd (omega arith)
  seat_at f d at (suc n) zero m lt e = let i : at ≡ m.0 = omega arith in λ j. f (record { 0 = i j })
  seat_at f d at (suc n) (suc k) m lt e = seat_at f d (at + 1) n k m (omega arith) (omega arith)
