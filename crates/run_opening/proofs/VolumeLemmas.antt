-- Volumes of which no byte changes.
use Rattle.std.proofs.Common.{◌≡◌, ◌≤◌, ◌⊎◌, inl, inr, ⊎_elim, ℕ, nat_le, Bool, true, false, refl, sym, subst, arith}
use Rattle.std.proofs.lemmas.Bool.Decides.{nat_tests}
use Rattle.mas_types.specs.declared.ids.Dev.TheVariants.{Spool}
use Rattle.spool_plant.specs.View.{View, World, Disk, disk_now}
use Rattle.ckpt_copy.specs.Changes.{NoMore}
use Rattle.member_node.specs.Calls.{IsOnlyOn}
use Rattle.run_opening.specs.Lines.{Proceeds}
use Rattle.run_opening.specs.Volumes.{AreVolumesKept, AreVolumesKeptUntil}

pub by_order : (a b : ℕ) → (a ≤ b) ⊎ (b ≤ a)
by_order a b = by_test (nat_le a b) refl where
  by_test : (t : Bool) → nat_le a b ≡ t → (a ≤ b) ⊎ (b ≤ a)
  by_test true e = inl (grind (arith, nat_tests, e))
  by_test false e = inr (grind (arith, nat_tests, e))

pub no_more : (disk : Disk) → NoMore disk disk
no_more disk = record { bytes = refl; unsynced = λ s avoids. avoids; there = λ e. e }

pub more_then : (x y z : Disk) → NoMore x y → NoMore y z → NoMore x z
more_then x y z one two = record {
  bytes = subst (λ l. l ≡ x.bytes) (sym two.bytes) one.bytes;
  unsynced = λ s avoids. two.unsynced s (one.unsynced s avoids);
  there = λ e. one.there (two.there e);
}

-- where every device except the copies stays as it was
pub kept_on : (old new : View) → IsOnlyOn old new → AreVolumesKept old new
kept_on old new only t from le n = subst (NoMore (disk_now old (Spool n))) (sym (only t from le (Spool n) (λ e. absurd (cc)) (λ e. absurd (cc)))) (no_more (disk_now old (Spool n)))

pub kept_none : (v : View) → AreVolumesKept v v
kept_none v t from le n =
    let same : t ≡ v.now = omega arith in
    subst (λ (m : ℕ). NoMore (disk_now v (Spool n)) ((v.world m).disk (Spool n))) (sym same) (no_more (disk_now v (Spool n)))

-- volumes that were kept up to a moment are kept up to it as seen later too
pub kept_past : (until : ℕ) (v0 v1 v2 : View) → until ≤ v1.now → Proceeds v1 v2 → AreVolumesKeptUntil until v0 v1 → AreVolumesKeptUntil until v0 v2
kept_past until v0 v1 v2 le goes kept t from to n = subst (λ (w : World). NoMore (disk_now v0 (Spool n)) (w.disk (Spool n))) (sym (goes.past t (omega arith))) (kept t from to n)

-- volumes that were kept, and were then kept up to a moment, are kept up to it from the beginning
pub kept_then : (until : ℕ) (v0 v1 v2 : View) → v0.now ≤ v1.now → Proceeds v1 v2 → AreVolumesKept v0 v1 → AreVolumesKeptUntil until v1 v2 → AreVolumesKeptUntil until v0 v2
kept_then until v0 v1 v2 later goes one two t from to n = ⊎_elim
    (λ before. kept_past v1.now v0 v1 v2 (let same : v1.now ≤ v1.now = omega arith in same) goes one t from before n)
    (λ after. more_then (disk_now v0 (Spool n)) (disk_now v1 (Spool n)) ((v2.world t).disk (Spool n)) (one v1.now later (let same : v1.now ≤ v1.now = omega arith in same) n) (two t after to n))
    (by_order t v1.now)
