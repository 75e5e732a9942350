-- An index that lags behind tables, on pages with marks alone.
use Rattle.std.specs.Prelude.{◌≡◌, ◌≤◌, ◌<◌, ℕ, Bool, true, false, List, length, slice_get}
use Rattle.ckpt_tables.specs.declared.tables.Tables.{Tables}
use Rattle.ckpt_tables.specs.Pages.{page_of}
use Rattle.ckpt_tables.specs.Shape.{first_job_page, first_group_page}
use Rattle.page_marks.specs.Marks.{is_marked, job_page, output_page}
use Rattle.job_select.specs.declared.index.Index.{Index}
use Rattle.job_select.specs.declared.kept.KeptIndex.{KeptIndex}
use Rattle.job_select.specs.Indexes.{IsOf}

-- what stands in a slot is the same in both lists, except for slots with a mark
abbrev pub AreBehind : {X : Type 0} → (ℕ → Bool) → List X → List X → Type 0
AreBehind has_mark slots to = (at : ℕ) → has_mark at ≡ false → slice_get slots at ≡ slice_get to at

-- the slots of the index are those of the tables, except for those on pages with marks
pub record IsBehind (index : Index) (t : Tables) (marks : List Bool) : Type 0 where
  pub job_count : length index.jobs ≡ length t.jobs
  pub output_count : length index.outputs ≡ length t.outputs
  pub jobs : AreBehind (λ at. is_marked marks (job_page at)) index.jobs t.jobs
  pub outputs : AreBehind (λ at. is_marked marks (output_page t.config at)) index.outputs t.outputs

-- each page of jobs or outputs without a mark is spelled alike by both tables
abbrev pub AreSpelledAlike : List Bool → List ℕ → Tables → Tables → Type 0
AreSpelledAlike marks levels old new = (p : ℕ) → first_job_page ≤ p → p < first_group_page old.config
    → is_marked marks p ≡ false → page_of new levels p ≡ page_of old levels p

-- the index, if it is current, is of the tables
abbrev pub IsKept : KeptIndex → Tables → Type 0
IsKept kept t = kept.current ≡ true → IsOf kept.index t
