-- Pages that a start may begin with.
use Rattle.std.specs.Prelude.{◌≡◌, ◌<◌, ◌^◌, ℕ, List, length, All}
use Rattle.mas_types.specs.declared.ids.Page.{Page}
use Rattle.mas_types.specs.Limits.{page_bytes}
use Rattle.ckpt_copy.specs.Pages.{bytes_of, level}
use Rattle.ckpt_tables.specs.declared.tables.Tables.{Tables}
use Rattle.ckpt_pages.specs.Checkpoints.{IsCheckpoint}
use Rattle.ckpt_pages.specs.Sound.{AreSound}
use Rattle.mas_types.specs.declared.queues.Queue.{Queue}
use Rattle.queue_telling.specs.Telling.{Tell}
use Rattle.mas_complex.specs.Meaning.{StandFor}

-- the tables have no fault, and a run finds levels and orders enough above theirs
pub record MayStart (pages : List Page) (t : Tables) : Type 0 where
  pub sound : AreSound t
  pub low_level : level (bytes_of pages) < 2 ^ 62
  pub low_order : t.order < 2 ^ 62

-- the pages spell these tables, with which a run may start
abbrev pub AreOf : List Page → Tables → Type 0
AreOf pages t = IsCheckpoint pages t × MayStart pages t

-- the pages spell tables with which a run may start
abbrev pub IsUsable : List Page → Type 0
IsUsable pages = (t : Tables) × AreOf pages t

-- each page has the size of a page
abbrev pub HaveSize : List Page → Type 0
HaveSize pages = All (λ page. length page.0 ≡ page_bytes) pages

-- the bytes are those of pages that spell tables with which a run may start
pub record AreUsable (bytes : List ℕ) : Type 0 where
  pub pages : List Page
  pub sized : HaveSize pages
  pub joined : bytes_of pages ≡ bytes
  pub usable : IsUsable pages

-- pages stand for each queue that the tables tell which they spell, where these have no fault
abbrev pub StandForWhatIsTold : Type 0
StandForWhatIsTold = (pages : List Page) (t : Tables) (Q : Queue) → HaveSize pages → IsCheckpoint pages t → AreSound t
    → Tell t Q → StandFor Q (bytes_of pages)
