-- Pages that were drawn again.
use Rattle.std.specs.Prelude.{◌≡◌, ℕ, ◌+◌, true, false, List, length, All}
use Rattle.mas_types.specs.declared.ids.Page.{Page}
use Rattle.mas_types.specs.Limits.{page_bytes}
use Rattle.ckpt_copy.specs.Pages.{bytes_of, ArePages, Covers}
use Rattle.ckpt_tables.specs.declared.tables.Tables.{Tables}
use Rattle.ckpt_tables.specs.Pages.{Spell}
use Rattle.ckpt_tables.specs.Shape.{differing}
use Rattle.mas_complex.specs.Changed.{NamesOnly}
use Rattle.mas_complex.specs.Fits.{are_same}
use Rattle.mas_complex.specs.Past.{IsNextOf}
use Rattle.member_node.specs.declared.checkpoint.Draft.{Draft}
use Rattle.member_node.specs.declared.checkpoint.Draft.TheVariants as draft

-- the pages are the same, or have the next level, and the numbers are those of page 0 and of just the pages that differ
pub record IsNewer (changed : List ℕ) (was : ℕ) (old : List Page) (is : ℕ) (new : List Page) : Type 0 where
  pub level : is ≡ was + 1
  pub numbers : ArePages (length new) changed
  pub covered : Covers (length new) changed (bytes_of old) (bytes_of new)
  pub exact : NamesOnly changed (bytes_of old) (bytes_of new)
  pub leveled : IsNextOf (length new) (bytes_of old) (bytes_of new)

abbrev pub IsRedrawn : Draft → ℕ → List Page → ℕ → List Page → Type 0
IsRedrawn draft.Same was old is new = (is ≡ was) × (new ≡ old)
IsRedrawn (draft.Changed numbers) was old is new = IsNewer numbers was old is new

-- no page changes exactly where this holds
abbrev pub IsSameWhere : Draft → Type 0 → Type 0
IsSameWhere draft.Same P = P
IsSameWhere (draft.Changed numbers) P = P → ⊥

-- pages that spell the tables with these levels
pub record IsSpelling (t : Tables) (levels : List ℕ) (drawn : List Page) : Type 0 where
  pub spelled : Spell t levels drawn
  pub sized : All (λ page. length page.0 ≡ page_bytes) drawn

-- page 0, and just those of the pages that the tables spell otherwise
pub record AreChanges (t : Tables) (levels : List ℕ) (pages : List Page) (changed : List ℕ) : Type 0 where
  pub drawn : List Page
  pub spelling : IsSpelling t levels drawn
  pub differ : are_same pages drawn ≡ false
  pub numbers : changed ≡ differing pages drawn

-- what the tables change of pages
abbrev pub IsDraft : Tables → List ℕ → List Page → Draft → Type 0
IsDraft t levels pages draft.Same = (drawn : List Page) × IsSpelling t levels drawn × (are_same pages drawn ≡ true)
IsDraft t levels pages (draft.Changed numbers) = AreChanges t levels pages numbers
