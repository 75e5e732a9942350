-- The levels and orders that a run leaves.
use Rattle.std.proofs.Common.{◌≡◌, ⊎_elim, ℕ, ◌+◌, ◌*◌, ◌^◌, ◌≤◌, ◌<◌, Bool, true, false, List, length, Some, refl, sym, ◌∙◌, arith}
use Rattle.mas_types.specs.declared.ids.Dev.TheVariants.{Ckpt1, Ckpt2}
use Rattle.mas_types.specs.declared.journals.Journal.{Journal}
use Rattle.script_lang.specs.declared.types.Script.{Script}
use Rattle.spool_plant.specs.Acts.{top}
use Rattle.spool_plant.specs.View.{View, Disk, IsImage, LeavesOnly, disk_at}
use Rattle.ckpt_form.specs.Form.{form_reads}
use Rattle.ckpt_copy.specs.Pages.{bytes_of, level}
use Rattle.ckpt_pages.specs.Starts.{empty_tables}
use Rattle.mas_complex.specs.Crash.{left_at, next_order, orders_most}
use Rattle.mas_complex.specs.declared.renewals.Renewals.{Renewals}
use Rattle.mas_complex.specs.Renewals.{is_renewed_at}
use Rattle.mas_complex.specs.Headline.{AreLevelsLow}
use Rattle.mas_complex.specs.Journals.{batches_kept, journal_most}
use Rattle.mas_complex.proofs.Found.{order_spelled}
use Rattle.mas_complex.proofs.Present.{kept_fewer}
use Rattle.mas_run.specs.Runs.{IsRun, RunResult}
use Rattle.run_opening.specs.Runs.{OneReadsThere, as_found}
use Rattle.run_laws.specs.Beginning.{level_first, order_first}

-- an image of a device that reads as pages reads as ones of a low level
abbrev pub HasLevels : Disk → Type 0
HasLevels disk = LeavesOnly disk (λ image. (pages : List ℕ) → form_reads image ≡ Some pages → level pages < 2 ^ 62)

-- or as ones with a low next order
abbrev pub HasOrders : Disk → Type 0
HasOrders disk = LeavesOnly disk (λ image. (pages : List ℕ) → form_reads image ≡ Some pages → next_order pages < 2 ^ 62)

own_image : (disk : Disk) → disk.lost ≡ false → IsImage disk disk.bytes
own_image disk there = record { there = there; size = refl; synced = λ s clean. refl }

-- the pages with which a run begins, their level and next order, and that a copy is there with them
pub record Begins (l order since : ℕ) (last : View) : Type 0 where
  pub found : List ℕ
  pub at_level : level found ≡ l
  pub at_order : next_order found ≡ order
  pub there : OneReadsThere found since last

pub first_there : (cold : Bool) (tells : Type 0) (script : Script) (first : View) (end : RunResult) → (was : IsRun cold tells script first end) → tells
    → Begins (level_first cold tells script first (as_found was.lost end.view) end.since was.first end.base was.begun.queue) (order_first cold tells script first (as_found was.lost end.view) end.since was.first end.base was.begun.queue) end.since end.view
first_there true tells script first end was told =
    let f = was.begun.formatted refl told in
    record {
      found = bytes_of f.pages;
      at_level = f.at_level;
      at_order = order_spelled (empty_tables script.config script.routes) f.spell.levels f.pages f.spell.fit f.spell.spell f.sized ∙ f.next_order;
      there = f.there;
    }
first_there false tells script first end was told = record { found = bytes_of was.begun.queue.pages; at_level = refl; at_order = refl; there = was.begun.queue.there told }

module _ (since : ℕ) (J : Journal) (last : View) (rs : Renewals) (levels : AreLevelsLow form_reads since J rs last) (few : length J.batches ≤ journal_most) (l order : ℕ) (b : Begins l order since last) (before : since < top) where
  -- a device that isn't lost has its own bytes as an image
  first_is : (levels.first_level ≡ l) × (levels.first_order ≡ order)
  first_is =
      ⊎_elim
      (λ r. joined (levels.first1 before (disk_at last since Ckpt1).bytes (own_image (disk_at last since Ckpt1) r.0) b.found r.1))
      (λ r. joined (levels.first2 before (disk_at last since Ckpt2).bytes (own_image (disk_at last since Ckpt2) r.0) b.found r.1))
      b.there
    where
      joined : (level b.found ≡ levels.first_level) × (next_order b.found ≡ levels.first_order) → (levels.first_level ≡ l) × (levels.first_order ≡ order)
      joined same = (sym same.0 ∙ b.at_level, sym same.1 ∙ b.at_order)

  fewer : batches_kept J.batches ≤ journal_most
  fewer = bound (batches_kept J.batches) (length J.batches) (kept_fewer J.batches) few
    where
      bound : (k n : ℕ) → k ≤ n → n ≤ journal_most → k ≤ journal_most
      bound k n a b = omega (arith, a, b)

  low_level : l < 2 ^ 61 → (n f k : ℕ) → f ≡ l → k ≤ journal_most → n ≤ f + k + 1 → n < 2 ^ 62
  low_level low n f k is few most = omega (arith, low, is, few, most)

  low_order : order < 2 ^ 61 → (m n f o k : ℕ) → o ≡ order → k ≤ journal_most → n ≤ f + k + 1 → m + orders_most * f ≤ o + orders_most * n → m < 2 ^ 62
  low_order low m n f o k is few most near = omega (arith, low, is, few, most, near)

  pub low_levels : l < 2 ^ 61 → (t : ℕ) → since ≤ t → t ≤ last.now → (is_renewed_at rs.first t ≡ false → HasLevels (left_at last t Ckpt1)) × (is_renewed_at rs.second t ≡ false → HasLevels (left_at last t Ckpt2))
  low_levels low t ge le = (
    λ good image is pages e. low_level low (level pages) levels.first_level (batches_kept J.batches) first_is.0 fewer (levels.most1 t ge le good image is pages e).0,
    λ good image is pages e. low_level low (level pages) levels.first_level (batches_kept J.batches) first_is.0 fewer (levels.most2 t ge le good image is pages e).0,
  )

  pub low_orders : order < 2 ^ 61 → (t : ℕ) → since ≤ t → t ≤ last.now → (is_renewed_at rs.first t ≡ false → HasOrders (left_at last t Ckpt1)) × (is_renewed_at rs.second t ≡ false → HasOrders (left_at last t Ckpt2))
  low_orders low t ge le = (
    λ good image is pages e. let x = levels.most1 t ge le good image is pages e in low_order low (next_order pages) (level pages) levels.first_level levels.first_order (batches_kept J.batches) first_is.1 fewer x.0 x.1,
    λ good image is pages e. let x = levels.most2 t ge le good image is pages e in low_order low (next_order pages) (level pages) levels.first_level levels.first_order (batches_kept J.batches) first_is.1 fewer x.0 x.1,
  )
