-- Tables, and newer pages that they can be brought up to.
use Rattle.std.specs.Prelude.{◌≡◌, ◌≢◌, ◌⊎◌, ℕ, ◌+◌, ◌-◌, ◌*◌, ◌≤◌, ◌<◌, min, Bool, true, false, List, ◌++◌, ◌&&◌, length, take, drop, All}
use Rattle.std.specs.List.{list_all}
use Rattle.std.specs.Int.{w32, w64, from_be_bytes}
use Rattle.mas_types.specs.declared.ids.Name8.{Name8}
use Rattle.mas_types.specs.declared.ids.Page.{Page}
use Rattle.mas_types.specs.declared.queues.Config.{Config}
use Rattle.lay_bytes.specs.Fields.{piece, pieces}
use Rattle.lay_bytes.specs.Slots.{job_slot, output_slot, owner_entry, IsOwner, IfUsed}
use Rattle.ckpt_tables.specs.declared.tables.Tables.{Tables}
use Rattle.ckpt_tables.specs.Pages.{page_in, page_of}
use Rattle.ckpt_tables.specs.Shape.{HasSpelling, page_count, jobs_a_page, outputs_a_page, owners_a_page, first_job_page, first_output_page, first_group_page}
use Rattle.ckpt_pages.specs.Fields.{header_fields, header_in}
use Rattle.ckpt_pages.specs.Headers.{HasNumbers, IsHeader, config_of, header_bytes}
use Rattle.ckpt_pages.specs.Reading.{AreEntries}
use Rattle.ckpt_pages.specs.Testing.{SomeEntries}
use Rattle.page_marks.specs.Marks.{IsDrawnAlike, is_marked}
use Rattle.page_tables.specs.Kinds.{IsJobUnder, IsOutputUnder, is_job_below, is_output_below}

-- PAGE 0

-- what stands in the fields of page 0 before the levels
abbrev pub head_pieces : List Page → List (List ℕ)
head_pieces pages = pieces 0 header_fields (take 1024 (page_in pages 0))

-- the order that page 0 says
abbrev pub order_in : List ℕ → ℕ
order_in page0 = from_be_bytes w64 (piece 40 8 (take 1024 page0))

-- the configuration that page 0 says, with this name of the node
abbrev pub said_config : Name8 → List ℕ → Config
said_config node page0 = config_of (header_in (pieces 0 header_fields (take 1024 page0))) node

-- the bytes before the levels have their fields, and say this configuration, except for the name of the node
pub record IsHead (c : Config) (head : List ℕ) : Type 0 where
  pub numbers : HasNumbers (header_in (pieces 0 header_fields head))
  pub bytes : head ≡ header_bytes (header_in (pieces 0 header_fields head))
  pub config : config_of (header_in (pieces 0 header_fields head)) c.node ≡ c

-- page 0 is a header of this configuration, except for the name of the node
pub record HasHeader (c : Config) (pages : List Page) : Type 0 where
  pub is : IsHeader (header_in (head_pieces pages)) pages
  pub config : config_of (header_in (head_pieces pages)) c.node ≡ c

-- the tables, with the job number and the order that page 0 says
abbrev pub with_header : List ℕ → Tables → Tables
with_header page0 t = record t {
  last = record { 0 = from_be_bytes w32 (piece 32 4 (take 1024 page0)) };
  order = order_in page0;
}

-- THE OTHER PAGES

-- page p is another page than page 0, and has a mark
pub record IsNewer (marks : List Bool) (pages : List Page) (p : ℕ) : Type 0 where
  pub some : 1 ≤ p
  pub within : p < length pages
  pub newer : is_marked marks p ≡ true

-- each page without a mark is that of the tables
abbrev pub AreOlder : Tables → List Page → List Bool → Type 0
AreOlder t pages marks = (p : ℕ) → 1 ≤ p → p < length pages → is_marked marks p ≡ false
    → (levels : List ℕ) → page_in pages p ≡ page_of t levels p

-- how many groups have their entries on a page of groups
abbrev pub groups_on : Config → ℕ → ℕ
groups_on c p = min (c.volumes * c.groups - owners_a_page * (p - first_group_page c)) owners_a_page

-- page p is one of slots or groups, and each of these can be read, with an order below this one
pub record IsReadable (c : Config) (order : ℕ) (page : List ℕ) (p : ℕ) : Type 0 where
  pub behind : first_job_page ≤ p
  pub jobs : p < first_output_page c → SomeEntries job_slot (IfUsed (IsJobUnder order)) jobs_a_page page
  pub outputs : first_output_page c ≤ p → p < first_group_page c
      → SomeEntries output_slot (IfUsed (IsOutputUnder order)) outputs_a_page page
  pub owners : first_group_page c ≤ p → SomeEntries owner_entry IsOwner (groups_on c p) page

-- so is each page with a mark
abbrev pub AreReadable : Config → ℕ → List Page → List Bool → Type 0
AreReadable c order pages marks = (p : ℕ) → IsNewer marks pages p → IsReadable c order (page_in pages p) p

-- page 0 gives no lower order than that of the tables, and each other page with a mark can be read
pub record IsLater (t : Tables) (pages : List Page) (marks : List Bool) : Type 0 where
  pub order : t.order ≤ order_in (page_in pages 0)
  pub each : AreReadable t.config (order_in (page_in pages 0)) pages marks

-- Tables can be brought up to pages in their place: page 0 has their configuration and no lower order, and each other
-- page with a mark can be read, with orders below the next one.
pub record CanBringUp (t : Tables) (pages : List Page) (marks : List Bool) : Type 0 where
  pub count : length pages ≡ page_count t.config
  pub header : HasHeader t.config pages
  pub order : t.order ≤ order_in (page_in pages 0)
  pub each : AreReadable t.config (order_in (page_in pages 0)) pages marks

-- each job and each output has an order below the next one
abbrev pub are_orders_low : Tables → Bool
are_orders_low t = list_all (is_job_below t.order) t.jobs && list_all (is_output_below t.order) t.outputs

-- the same, with another order
pub record AreOrdersBelow (order : ℕ) (t : Tables) : Type 0 where
  pub jobs : All (IfUsed (λ j. j.order < order)) t.jobs
  pub outputs : All (IfUsed (λ o. o.order < order)) t.outputs

-- STEPS

-- so many items from a place on are those that the bytes spell, and all others are as they were
pub record IsPutAt {X : Type 0} (spelling : X → List ℕ) (Fits : X → Type 0) (first count : ℕ) (bytes : List ℕ)
    (old new : List X) : Type 0 where
  pub part : List X
  pub reads : AreEntries spelling Fits count bytes part
  pub is : new ≡ take first old ++ (part ++ drop (first + count) old)

-- the tables take page p, and are drawn alike on all other pages
pub record Takes (p : ℕ) (page : List ℕ) (old new : Tables) : Type 0 where
  pub config : new.config ≡ old.config
  pub order : new.order ≡ old.order
  pub fit : HasSpelling new
  pub is : (levels : List ℕ) → page_of new levels p ≡ page
  pub others : (q : ℕ) → q ≢ p → IsDrawnAlike q old new
  pub below : AreOrdersBelow old.order old → AreOrdersBelow new.order new

-- tables that began as these have taken each page before page n that has a mark
pub record IsUpBefore (t : Tables) (pages : List Page) (marks : List Bool) (n : ℕ) (u : Tables) : Type 0 where
  pub config : u.config ≡ t.config
  pub order : u.order ≡ t.order
  pub fit : HasSpelling u
  pub header : IsDrawnAlike 0 t u
  pub done : (p : ℕ) → 1 ≤ p → p < length pages → (p < n) ⊎ (is_marked marks p ≡ false)
      → (levels : List ℕ) → page_in pages p ≡ page_of u levels p
  pub below : AreOrdersBelow t.order t → AreOrdersBelow u.order u
