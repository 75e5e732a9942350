-- Marks of the pages that may differ from what tables are drawn as.
use Rattle.std.specs.Prelude.{◌≡◌, ℕ, ◌+◌, ◌/◌, Bool, true, false, List, slice_index_or, slice_set}
use Rattle.mas_types.specs.declared.queues.Config.{Config}
use Rattle.ckpt_tables.specs.declared.tables.Tables.{Tables}
use Rattle.ckpt_tables.specs.Pages.{page_of}
use Rattle.ckpt_tables.specs.Shape.{jobs_a_page, outputs_a_page, owners_a_page, first_job_page, first_output_page, first_group_page}

-- the page has a mark
abbrev pub is_marked : List Bool → ℕ → Bool
is_marked marks p = slice_index_or marks p false

-- the marks, with one more
abbrev pub marked : ℕ → List Bool → List Bool
marked p marks = slice_set marks p true

-- the page of a slot of jobs, and that of a slot of outputs
abbrev pub job_page : ℕ → ℕ
job_page at = first_job_page + at / jobs_a_page

abbrev pub output_page : Config → ℕ → ℕ
output_page c at = first_output_page c + at / outputs_a_page

-- the page of a group, and the one after those of the groups below the end
abbrev pub group_page : Config → ℕ → ℕ
group_page c at = first_group_page c + at / owners_a_page

abbrev pub groups_end_page : Config → ℕ → ℕ
groups_end_page c end = first_group_page c + (end + 511) / owners_a_page

-- a page is drawn alike from both tables
abbrev pub IsDrawnAlike : ℕ → Tables → Tables → Type 0
IsDrawnAlike p old new = (levels : List ℕ) → page_of new levels p ≡ page_of old levels p

-- Tables that were changed, and the marks of the pages that they are drawn otherwise as since then. No mark is taken
-- away.
pub record Touches (was is : List Bool) (old new : Tables) : Type 0 where
  pub config : new.config ≡ old.config
  pub rise : (p : ℕ) → is_marked was p ≡ true → is_marked is p ≡ true
  pub alike : (p : ℕ) → is_marked is p ≡ false → IsDrawnAlike p old new
