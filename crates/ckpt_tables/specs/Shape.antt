-- How many pages tables have, which tables have their shape and a spelling, and the levels of pages.
use Rattle.std.specs.Prelude.{◌≡◌, ℕ, ◌+◌, ◌*◌, ◌/◌, ◌≤◌, ◌<◌, ◌^◌, ◌==◌, not, ◌||◌, if◌then◌else◌, List, [], ◌∷◌, ◌++◌, length, All, Some, slice_get}
use Rattle.std.specs.Int.{w64, from_be_bytes}
use Rattle.std.specs.Str.{bytes_eq}
use Rattle.mas_types.specs.declared.ids.Page.{Page}
use Rattle.mas_types.specs.declared.queues.Config.{Config}
use Rattle.mas_types.specs.declared.queues.Route.{Route}
use Rattle.mas_types.specs.declared.queues.LineCount.{LineCount}
use Rattle.mas_types.specs.Fit.{IsConfig, IsSetting, IsName, IsLine}
use Rattle.mas_types.specs.Limits.{number_most, routes_most, wires_most}
use Rattle.lay_bytes.specs.Fields.{piece}
use Rattle.lay_bytes.specs.Slots.{IsJobRec, IsOutRec, IsOwner, IfUsed}
use Rattle.ckpt_tables.specs.declared.tables.Tables.{Tables}

-- the slots of jobs, the slots of outputs and the entries of groups on a page
abbrev pub jobs_a_page : ℕ
jobs_a_page = 16

abbrev pub outputs_a_page : ℕ
outputs_a_page = 32

abbrev pub owners_a_page : ℕ
owners_a_page = 512

-- the first page of jobs, after the header, the members and the nodes
abbrev pub first_job_page : ℕ
first_job_page = 3

abbrev pub first_output_page : Config → ℕ
first_output_page c = first_job_page + c.jobs / jobs_a_page

abbrev pub first_group_page : Config → ℕ
first_group_page c = first_output_page c + c.outputs / outputs_a_page

-- as many pages as it takes for all groups
abbrev pub group_pages : Config → ℕ
group_pages c = (c.volumes * c.groups + 511) / owners_a_page

abbrev pub page_count : Config → ℕ
page_count c = first_group_page c + group_pages c

-- the lists have the lengths that the configuration gives, and the settings fit their entries
pub record HasShape (t : Tables) : Type 0 where
  pub config : IsConfig t.config
  pub jobs : length t.jobs ≡ t.config.jobs
  pub outputs : length t.outputs ≡ t.config.outputs
  pub owners : length t.owners ≡ t.config.volumes * t.config.groups
  pub members : length t.members ≡ t.config.members
  pub settings : All IsSetting t.members
  pub routes : length t.routes ≤ routes_most
  pub lines : length t.lines ≡ wires_most
  pub last : t.last.0 ≤ number_most

pub record IsRoute (r : Route) : Type 0 where
  pub name : IsName r.name
  pub line : IsLine r.line

pub record IsLineCount (l : LineCount) : Type 0 where
  pub sent : l.sent < 2 ^ 32
  pub got : l.got < 2 ^ 32
  pub current : l.current.0 ≤ number_most

-- what has a spelling: each part is within its range
pub record HasSpelling (t : Tables) : Type 0 where
  pub shape : HasShape t
  pub order : t.order < 2 ^ 63
  pub jobs : All (IfUsed IsJobRec) t.jobs
  pub outputs : All (IfUsed IsOutRec) t.outputs
  pub owners : All IsOwner t.owners
  pub routes : All IsRoute t.routes
  pub lines : All IsLineCount t.lines

-- one level for each page, of page 0 the greatest
pub record AreLevels (t : Tables) (level : ℕ) (levels : List ℕ) : Type 0 where
  pub count : length levels ≡ page_count t.config
  pub first : slice_get levels 0 ≡ Some level
  pub each : All (λ l. (1 ≤ l) × (l ≤ level)) levels
  pub most : level < 2 ^ 63

-- the level of a page, as page 0 gives it
abbrev pub level_in : List ℕ → ℕ → ℕ
level_in page0 p = if p == 0 then from_be_bytes w64 (piece 8 8 page0) else from_be_bytes w64
    (piece (1024 + 8 * p) 8 page0)

-- the numbers of the pages that differ, from page p on, and 0
abbrev pub differing_from : ℕ → List Page → List Page → List ℕ
differing_from p [] new = []
differing_from p (x ∷ xs) [] = []
differing_from p (x ∷ xs) (y ∷ ys) = (if (p == 0) || not (bytes_eq x.0 y.0) then p ∷ [] else [])
    ++ differing_from (p + 1) xs ys

abbrev pub differing : List Page → List Page → List ℕ
differing old new = differing_from 0 old new
