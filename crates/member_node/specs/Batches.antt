-- A member's batch, and a draft of its pages.
use Rattle.std.specs.Prelude.{◌≡◌, ℕ, ◌+◌, ◌*◌, ◌≤◌, ◌<◌, List, [], ◌∷◌, length, All}
use Rattle.mas_types.specs.declared.ids.Page.{Page}
use Rattle.mas_types.specs.declared.commands.Reply.{Reply}
use Rattle.mas_types.specs.declared.commands.Reply.TheVariants.{Plain}
use Rattle.mas_types.specs.declared.journals.Entry.{Entry}
use Rattle.mas_types.specs.declared.queues.Queue.{Queue}
use Rattle.mas_types.specs.Limits.{page_bytes}
use Rattle.spool_plant.specs.Acts.{top}
use Rattle.ckpt_copy.specs.Pages.{bytes_of, level}
use Rattle.ckpt_pages.specs.Given.{levels_given}
use Rattle.ckpt_tables.specs.Pages.{Spell}
use Rattle.ckpt_tables.specs.Shape.{HasSpelling, AreLevels, page_count}
use Rattle.queue_telling.specs.Orders.{HaveOrders}
use Rattle.queue_telling.specs.Telling.{Tell, PagesTell, AreToldAlike}
use Rattle.mas_complex.specs.Crash.{next_order}
use Rattle.mas_complex.specs.Meaning.{StandFor, run}
use Rattle.mas_complex.specs.Replies.{HaveReplies}
use Rattle.queue_indexed.specs.Standing.{AreFit}
use Rattle.member_node.specs.declared.checkpoint.Checkpoint.{Checkpoint}
use Rattle.member_node.specs.declared.checkpoint.Draft.{Draft}
use Rattle.member_node.specs.declared.checkpoint.Draft.TheVariants as draft

-- the reply to the last of some entries
abbrev pub last_reply : List Entry → Reply
last_reply [] = Plain
last_reply (e ∷ []) = e.reply
last_reply (e ∷ next ∷ es) = last_reply (next ∷ es)

-- tables that can be spelled, and as many pages, from which they differ by what was done since they were drawn
pub record CanDraw (k : Checkpoint) : Type 0 where
  pub leveled : AreLevels k.tables k.level k.levels
  pub as_many : length k.pages ≡ page_count k.tables.config
  pub sized : All (λ page. length page.0 ≡ page_bytes) k.pages
  pub spelling : HasSpelling k.tables
  pub aged : levels_given k.pages ≡ k.levels
  pub at_level : level (bytes_of k.pages) ≡ k.level

-- a checkpoint's pages aren't those that its tables are drawn as
abbrev pub DrawsAnew : Checkpoint → Type 0
DrawsAnew k = Spell k.tables k.levels k.pages → ⊥

-- The pages of a checkpoint stand for the queue, and its tables tell the queue after the entries, which have the
-- replies that the commands give at their places. The tables can be spelled and given commands, and have no order
-- twice. Each entry raised the next order by at most 32.
pub record HasDone (Q : Queue) (entries : List Entry) (k : Checkpoint) : Type 0 where
  pub pages : PagesTell k.pages k.level Q
  pub leveled : AreLevels k.tables k.level k.levels
  pub as_many : length k.pages ≡ page_count k.tables.config
  pub sized : All (λ page. length page.0 ≡ page_bytes) k.pages
  pub spelling : HasSpelling k.tables
  pub fit : AreFit k.tables
  pub orders : HaveOrders k.tables
  pub raised : k.tables.order ≤ next_order (bytes_of k.pages) + 32 * length entries
  pub queue : Tell k.tables (run Q entries)
  pub replied : HaveReplies Q entries

-- the level of a checkpoint with its draft
abbrev pub level_with : Draft → ℕ → ℕ
level_with draft.Same reached = reached
level_with (draft.Changed numbers) reached = reached + 1

-- A draft of a batch's pages: where no page changes the queue after the entries is told alike, and else the pages have
-- the next level and stand for it.
abbrev pub IsDraftOf : Draft → Type 0 → Queue → List Entry → ℕ → List Page → Type 0
IsDraftOf draft.Same tells Q entries reached pages = AreToldAlike Q (run Q entries)
IsDraftOf (draft.Changed numbers) tells Q entries reached pages =
    (level (bytes_of pages) ≡ reached + 1) × (reached < top) × StandFor (run Q entries) (bytes_of pages)
