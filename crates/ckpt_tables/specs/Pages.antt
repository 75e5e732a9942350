-- The spelling of each page.
use Rattle.std.specs.Prelude.{◌≡◌, ℕ, zero, suc, ◌-◌, ◌*◌, ◌<◌, ◌==◌, nat_lt, if◌then◌else◌, List, [], ◌∷◌, ◌++◌, length, map, take, drop, replicate, codes}
use Rattle.std.specs.List.{concat, slice_index}
use Rattle.std.specs.Int.{w16, w32, w64, to_be_bytes}
use Rattle.mas_types.specs.declared.ids.Class.{Class}
use Rattle.mas_types.specs.declared.ids.Page.{Page}
use Rattle.mas_types.specs.declared.queues.Setting.{Setting}
use Rattle.mas_types.specs.declared.queues.Route.{Route}
use Rattle.mas_types.specs.declared.queues.LineCount.{LineCount}
use Rattle.lay_bytes.specs.Slots.{job_slot, output_slot, owner_entry}
use Rattle.ckpt_tables.specs.declared.tables.Tables.{Tables}
use Rattle.mas_types.specs.Limits.{page_bytes}
use Rattle.ckpt_tables.specs.Shape.{page_count, jobs_a_page, outputs_a_page, owners_a_page, first_job_page, first_output_page, first_group_page}

-- the number of the classes, the classes, and zeros up to 36
abbrev pub classes_entry : List Class → List ℕ
classes_entry classes = length classes ∷ (map (λ c. c.0) classes ++ replicate (36 - length classes) 0)

abbrev pub setting_pieces : Setting → List (List ℕ)
setting_pieces s = (1 ∷ []) ∷ classes_entry s.init ∷ classes_entry s.prt ∷ s.forms.0 ∷ to_be_bytes w16 s.lines
    ∷ replicate 43 0 ∷ []

-- a member's entry of 128 bytes
abbrev pub setting_entry : Setting → List ℕ
setting_entry s = concat (setting_pieces s)

abbrev pub line_pieces : LineCount → List (List ℕ)
line_pieces l = to_be_bytes w32 l.sent ∷ to_be_bytes w32 l.got ∷ to_be_bytes w32 l.current.0 ∷ replicate 4 0 ∷ []

-- a line's entry of 16 bytes
abbrev pub line_entry : LineCount → List ℕ
line_entry l = concat (line_pieces l)

abbrev pub route_pieces : Route → List (List ℕ)
route_pieces r = r.name.0 ∷ (r.line ∷ []) ∷ replicate 7 0 ∷ []

-- a route's entry of 16 bytes
abbrev pub route_entry : Route → List ℕ
route_entry r = concat (route_pieces r)

-- the first 1,024 bytes of page 0
abbrev pub header_pieces : Tables → ℕ → List (List ℕ)
header_pieces t level =
    codes "MASCKPT1" ∷ to_be_bytes w64 level ∷ (1 ∷ []) ∷ (t.config.members ∷ []) ∷ (t.config.volumes ∷ []) ∷ (0 ∷ [])
    ∷ to_be_bytes w16 t.config.jobs ∷ to_be_bytes w16 t.config.outputs ∷ to_be_bytes w16 t.config.groups
    ∷ to_be_bytes w16 t.config.hold ∷ to_be_bytes w16 t.config.dormancy
    ∷ replicate 2 0 ∷ to_be_bytes w32 t.last.0 ∷ replicate 4 0 ∷ to_be_bytes w64 t.order ∷ replicate 976 0 ∷ []

-- the first 128 bytes of page 2
abbrev pub node_pieces : Tables → List (List ℕ)
node_pieces t = t.config.node.0 ∷ (length t.routes ∷ []) ∷ replicate 119 0 ∷ []

-- of items that stand so many to a page, those on its k-th page, counted from 0
abbrev pub part : {X : Type 0} → ℕ → ℕ → List X → List X
part count k items = take count (drop (count * k) items)

-- the pieces of page p, one after the other
abbrev pub page_pieces : Tables → List ℕ → ℕ → List (List ℕ)
page_pieces t levels p =
    if p == 0 then concat (header_pieces t (slice_index levels 0)) ∷ map (to_be_bytes w64) levels
    else if p == 1 then map setting_entry t.members
    else if p == 2 then concat (node_pieces t)
    ∷ (map line_entry t.lines ++ (replicate 768 0 ∷ map route_entry t.routes))
    else if nat_lt p (first_output_page t.config) then map job_slot (part jobs_a_page (p - first_job_page) t.jobs)
    else if nat_lt p (first_group_page t.config) then map output_slot
    (part outputs_a_page (p - first_output_page t.config) t.outputs)
    else map owner_entry (part owners_a_page (p - first_group_page t.config) t.owners)

-- the pieces, and zeros up to so many bytes
abbrev pub filled_to : ℕ → List (List ℕ) → List ℕ
filled_to size ps = concat ps ++ replicate (size - length (concat ps)) 0

-- the pieces, and zeros up to the end of the page
abbrev pub filled : List (List ℕ) → List ℕ
filled ps = filled_to page_bytes ps

-- the spelling of page p
abbrev pub page_of : Tables → List ℕ → ℕ → List ℕ
page_of t levels p = filled (page_pieces t levels p)

-- the bytes of page p of these
abbrev pub page_in : List Page → ℕ → List ℕ
page_in [] p = []
page_in (x ∷ xs) zero = x.0
page_in (x ∷ xs) (suc p) = page_in xs p

-- the pages spell the tables, with these levels
pub record Spell (t : Tables) (levels : List ℕ) (pages : List Page) : Type 0 where
  pub count : length pages ≡ page_count t.config
  pub each : (p : ℕ) → p < length pages → page_in pages p ≡ page_of t levels p
