-- What page 0 says, and which headers have a spelling.
use Rattle.std.specs.Prelude.{◌≡◌, ℕ, ◌%◌, ◌≤◌, ◌==◌, nat_le, Bool, true, ◌&&◌, List, [], ◌∷◌, length, map}
use Rattle.std.specs.List.{concat, list_all, slice_index}
use Rattle.std.specs.Int.{w64, to_be_bytes}
use Rattle.mas_types.specs.declared.ids.Name8.{Name8}
use Rattle.mas_types.specs.declared.ids.Page.{Page}
use Rattle.mas_types.specs.declared.queues.Config.{Config}
use Rattle.mas_types.specs.Limits.{members_most, jobs_least, jobs_most, jobs_step, outputs_least, outputs_most, outputs_step, volumes_most, groups_most, hold_most, dormancy_most, number_most}
use Rattle.mas_types.specs.Starts.{blank_name}
use Rattle.ckpt_pages.specs.declared.header.Header.{Header}
use Rattle.ckpt_tables.specs.declared.tables.Tables.{Tables}
use Rattle.ckpt_tables.specs.Shape.{HasSpelling, AreLevels, page_count}
use Rattle.ckpt_pages.specs.Fields.{age_most}
use Rattle.ckpt_tables.specs.Pages.{filled, header_pieces, page_in, page_of}

-- the configuration, with the name that page 2 has
abbrev pub config_of : Header → Name8 → Config
config_of h node = record {
  members = h.members;
  jobs = h.jobs;
  outputs = h.outputs;
  volumes = h.volumes;
  groups
      = h.groups;
  hold = h.hold;
  dormancy = h.dormancy;
  node = node;
}

-- tables of which page 0 alone is known
abbrev pub bare_tables : Header → Tables
bare_tables h = record {
  config = config_of h blank_name;
  jobs = [];
  outputs = [];
  owners = [];
  members = [];
  routes
      = [];
  lines = [];
  last = h.last;
  order = h.order;
}

-- what page 0 of tables says
abbrev pub header_with : Tables → ℕ → Header
header_with t level = record {
  level = level;
  members = t.config.members;
  volumes = t.config.volumes;
  jobs = t.config.jobs;
  outputs = t.config.outputs;
  groups = t.config.groups;
  hold = t.config.hold;
  dormancy = t.config.dormancy;
  last = t.last;
  order = t.order;
}

-- the fields of a header, one after another
abbrev pub header_spelled_by : Header → List (List ℕ)
header_spelled_by h = header_pieces (bare_tables h) h.level

abbrev pub header_bytes : Header → List ℕ
header_bytes h = concat (header_spelled_by h)

-- each number is within its limits
pub record HasNumbers (h : Header) : Type 0 where
  pub level : (1 ≤ h.level) × (h.level ≤ age_most)
  pub members : (1 ≤ h.members) × (h.members ≤ members_most)
  pub volumes : (1 ≤ h.volumes) × (h.volumes ≤ volumes_most)
  pub jobs : (jobs_least ≤ h.jobs) × (h.jobs ≤ jobs_most) × (h.jobs % jobs_step ≡ 0)
  pub outputs : (outputs_least ≤ h.outputs) × (h.outputs ≤ outputs_most) × (h.outputs % outputs_step ≡ 0)
  pub groups : (1 ≤ h.groups) × (h.groups ≤ groups_most)
  pub hold : (1 ≤ h.hold) × (h.hold ≤ hold_most)
  pub dormancy : h.dormancy ≤ dormancy_most
  pub last : h.last.0 ≤ number_most
  pub order : h.order ≤ age_most

-- jobs and outputs fill whole pages
abbrev pub is_whole : Header → Bool
is_whole h = (h.jobs % 16 == 0) && (h.outputs % 32 == 0)

-- how many pages a header asks for
abbrev pub pages_of : Header → ℕ
pages_of h = page_count (config_of h blank_name)

-- the first level is the greatest, and none is 0
abbrev pub are_ages : ℕ → List ℕ → Bool
are_ages level levels = (slice_index levels 0 == level) && list_all (λ l. nat_le 1 l && nat_le l level) levels

-- one level for each of so many pages, of page 0 the greatest
pub record AreAges (level count : ℕ) (levels : List ℕ) : Type 0 where
  pub len : length levels ≡ count
  pub ages : are_ages level levels ≡ true

-- page 0 says this header, and there are as many pages as it asks for
pub record IsHeader (h : Header) (pages : List Page) : Type 0 where
  pub numbers : HasNumbers h
  pub count : length pages ≡ pages_of h
  pub levels : List ℕ
  pub ages : AreAges h.level (length pages) levels
  pub page : page_in pages 0 ≡ filled (header_bytes h ∷ map (to_be_bytes w64) levels)

-- page 0 is that of no tables with as many pages
abbrev pub NoHeader : List Page → Type 0
NoHeader pages = (t : Tables) (level : ℕ) (levels : List ℕ) → HasSpelling t → AreLevels t level levels
    → length pages ≡ page_count t.config → page_in pages 0 ≡ page_of t levels 0 → ⊥
