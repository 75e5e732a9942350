-- The places of members in the book.
use Rattle.std.proofs.Common.{◌≡◌, ◌≢◌, ◌<◌, ◌≤◌, ◌==◌, ◌&&◌, nat_le, not, ℕ, zero, suc, Bool, true, false, length, refl, arith}
use Rattle.std.proofs.lemmas.Bool.{eqb-false, leb-true}
use Rattle.mas_types.specs.declared.ids.MemberId.{MemberId}
use Rattle.mas_types.specs.declared.queues.Config.{Config}
use Rattle.mas_types.specs.Queue.{is_member}
use Rattle.lock_cycle.specs.Books.{Book, IsMember}

-- one of the configuration's members has its place in the book
pub seated : (config : Config) (b : Book) (m : MemberId) → length b.members ≡ config.members → is_member config m ≡ true → IsMember b m
seated config b m seats is = by_tests (m.0 == 0) (nat_le m.0 config.members) refl refl is where
  by_tests : (z le : Bool) → (m.0 == 0) ≡ z → nat_le m.0 config.members ≡ le → (not z && le) ≡ true → IsMember b m
  by_tests true le none some is = absurd (cc)
  by_tests false false none some is = absurd (cc)
  by_tests false true none some is =
      let ne : m.0 ≢ 0 = eqb-false m.0 0 none in
      let le : m.0 ≤ config.members = leb-true m.0 config.members some in
      (positive m.0 ne, omega (arith, le, seats)) where
        positive : (n : ℕ) → n ≢ 0 → 0 < n
        positive zero ne = absurd (ne refl)
        positive (suc n) ne = omega arith
