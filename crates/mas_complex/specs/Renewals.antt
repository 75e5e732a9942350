-- When a copy that was replaced isn't good yet.
use Rattle.mas_complex.specs.Names.{Dev, Ckpt1, Ckpt2, Spool, top, pick}
use Rattle.std.specs.Prelude.{ℕ, ◌≤◌, nat_le, nat_lt, ◌&&◌, ◌||◌, not, if◌then◌else◌, Bool, false, List, [], ◌∷◌, ◌++◌, map, Option, Some, None, is_none}
use Rattle.mas_complex.specs.declared.renewals.Renewal.{Renewal}
use Rattle.mas_complex.specs.declared.renewals.Renewals.{Renewals}

-- a renewal has ended by a moment
abbrev pub has_ended : Option ℕ → ℕ → Bool
has_ended None t = false
has_ended (Some until) t = nat_le until t

-- a copy is being replaced at a moment: a renewal of it began by then, and hasn't ended
abbrev pub is_renewed_at : List Renewal → ℕ → Bool
is_renewed_at [] t = false
is_renewed_at (r ∷ rs) t = (nat_le r.from t && not (has_ended r.until t)) || is_renewed_at rs t

-- a renewal of the copy hasn't ended
abbrev pub is_open : List Renewal → Bool
is_open [] = false
is_open (r ∷ rs) = is_none r.until || is_open rs

-- the renewals of the copy on a device
abbrev pub of_device : Dev → Renewals → List Renewal
of_device dev rs = pick dev rs.first rs.second

-- each renewal began by a moment, and each that has ended did so by it
abbrev pub HasEndedBy : Option ℕ → ℕ → Type 0
HasEndedBy None now = Unit {0}
HasEndedBy (Some until) now = until ≤ now

abbrev pub AreRenewedBy : List Renewal → ℕ → Type 0
AreRenewedBy [] now = Unit {0}
AreRenewedBy (r ∷ rs) now = (r.from ≤ now) × HasEndedBy r.until now × AreRenewedBy rs now

-- what is of the copy on a device is this, and what is of the other as it was
abbrev pub with_device : Dev → List Renewal → Renewals → Renewals
with_device Ckpt1 of rs = record rs { first = of }
with_device Ckpt2 of rs = record rs { second = of }
with_device (Spool n) of rs = rs

-- a replacement of the copy on a device begins at a moment. At the greatest one nothing is replaced any more
abbrev pub begun_on : Dev → ℕ → Renewals → Renewals
begun_on dev from rs =
    if nat_lt from top then with_device dev (of_device dev rs ++ record { from = from; until = None } ∷ []) rs else rs

-- each replacement of the copy on a device that was open has ended at a moment
abbrev pub or_at : ℕ → Option ℕ → Option ℕ
or_at now None = Some now
or_at now (Some until) = Some until

abbrev pub ended_at : ℕ → Renewal → Renewal
ended_at now r = record r { until = or_at now r.until }

abbrev pub ended_on : Dev → ℕ → Renewals → Renewals
ended_on dev now rs = with_device dev (map (ended_at now) (of_device dev rs)) rs

-- no copy was replaced
abbrev pub no_renewals : Renewals
no_renewals = record { first = []; second = [] }
