-- What holds of all tables and all pages.
use Rattle.std.specs.Prelude.{◌≡◌, ℕ, ◌<◌, ◌≤◌, ◌^◌, List, length, All}
use Rattle.std.specs.List.{slice_index}
use Rattle.std.specs.Int.{w64, to_be_bytes}
use Rattle.mas_types.specs.declared.ids.Page.{Page}
use Rattle.mas_types.specs.declared.jobs.Text.{Text}
use Rattle.mas_types.specs.declared.queues.Config.{Config}
use Rattle.mas_types.specs.declared.queues.Route.{Route}
use Rattle.mas_types.specs.Fit.{IsConfig}
use Rattle.mas_types.specs.Limits.{routes_most}
use Rattle.mas_types.specs.Starts.{empty_queue}
use Rattle.lay_bytes.specs.declared.records.JobRec.{JobRec}
use Rattle.lay_bytes.specs.declared.records.OutRec.{OutRec}
use Rattle.lay_bytes.specs.Fields.{piece}
use Rattle.ckpt_tables.specs.declared.tables.Tables.{Tables}
use Rattle.ckpt_tables.specs.Shape.{HasSpelling, AreLevels, IsRoute, page_count, level_in}
use Rattle.ckpt_tables.specs.Pages.{Spell, page_in}
use Rattle.ckpt_pages.specs.Starts.{empty_tables, first_levels}
use Rattle.ckpt_pages.specs.QueueOf.{queue_of}

-- the eight bytes of page 0 from byte 8 on are the first level
abbrev pub BeginsWithLevel : Type 0
BeginsWithLevel = (t : Tables) (levels : List ℕ) (pages : List Page) → Spell t levels pages
    → piece 8 8 (page_in pages 0) ≡ to_be_bytes w64 (slice_index levels 0)

-- page 0 gives each page its level
abbrev pub GivesLevels : Type 0
GivesLevels =
    (t : Tables) (levels : List ℕ) (pages : List Page) (p : ℕ) → Spell t levels pages → All (λ l. l < 2 ^ 64) levels
    → p < length levels
    → level_in (page_in pages 0) p ≡ slice_index levels p

-- empty tables have a spelling, where the routes have one
abbrev pub EmptyHasSpelling : Type 0
EmptyHasSpelling = (config : Config) (routes : List Route) → IsConfig config → length routes ≤ routes_most
    → All IsRoute routes → HasSpelling (empty_tables config routes)

-- every page may have level 1
abbrev pub AreFirstLevels : Type 0
AreFirstLevels = (config : Config) (routes : List Route) → IsConfig config
    → AreLevels (empty_tables config routes) 1 (first_levels (page_count config))

-- empty tables stand for the empty queue
abbrev pub EmptyStandsForEmpty : Type 0
EmptyStandsForEmpty = (config : Config) (routes : List Route) (deck : JobRec → Text) (print : OutRec → Text)
    → queue_of (empty_tables config routes) deck print ≡ empty_queue config routes
