-- Nobody has noted any pages.
use Rattle.std.proofs.Common.{◌≡◌, ◌+◌, ℕ, zero, suc, [], replicate, refl}
use Rattle.mas_types.specs.Limits.{members_most}
use Rattle.mas_complex.specs.Past.{noted_by, nobody_noted}

none_of : (n m : ℕ) → noted_by (replicate n []) m ≡ []
none_of zero m = refl
none_of (suc n) zero = refl
none_of (suc n) (suc m) = none_of n m

pub nobody_noted_by : (m : ℕ) → noted_by nobody_noted m ≡ []
nobody_noted_by m = none_of (members_most + 1) m
