-- The pages that both copies have between batches.
use Rattle.mas_complex.specs.Names.{Dev, Ckpt1, Ckpt2, IsCkpt, Queue, View, Throughout, disk_at, disk_now, level, Before}
use Rattle.std.specs.Prelude.{◌≡◌, ◌≢◌, ℕ, true, List}
use Rattle.mas_complex.specs.Crash.{Copy}
use Rattle.mas_complex.specs.Meaning.{StandFor}

-- There are pages of this level, which stand for the queue. A copy that counts as alive and is as before any batch is
-- at rest with them.
pub record HaveKept (Q : Queue) (reached : ℕ) (copies : Dev → Copy) (v : View) : Type 0 where
  pub was : List ℕ
  pub at_level : level was ≡ reached
  pub queue : StandFor Q was
  pub at : (d : Dev) → IsCkpt d → (copies d).alive ≡ true → (copies d).place ≡ Before
      → (copies d).rests was (disk_now v d)

-- at each moment of a call every volume is as before it
abbrev pub OnlyOnCopies : View → View → Type 0
OnlyOnCopies old new = Throughout old.now new.now
    (λ t. (d : Dev) → d ≢ Ckpt1 → d ≢ Ckpt2 → disk_at new t d ≡ disk_now old d)
