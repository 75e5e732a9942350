-- Pages that stand beside a member's own.
use Rattle.std.specs.Prelude.{◌≡◌, ℕ, ◌≤◌, ◌<◌, Bool, false, if◌then◌else◌, List, [], ◌∷◌, length}
use Rattle.mas_types.specs.declared.ids.Page.{Page}
use Rattle.mas_types.specs.Limits.{pages_most}
use Rattle.ckpt_tables.specs.Pages.{page_in}
use Rattle.page_marks.specs.Marks.{is_marked, marked}
use Rattle.member_node.specs.declared.checkpoint.Draft.{Draft}
use Rattle.member_node.specs.declared.checkpoint.Draft.TheVariants as draft

-- each page but the first is the member's own
abbrev pub IsMirror : List Page → List Page → Type 0
IsMirror room own = (q : ℕ) → 1 ≤ q → q < length own → page_in room q ≡ page_in own q

-- so is each that has no mark, where both have a page
abbrev pub IsMirrorBut : List Bool → List Page → List Page → Type 0
IsMirrorBut marks room own = (q : ℕ) → 1 ≤ q → q < pages_most → q < length room → q < length own
    → is_marked marks q ≡ false → page_in room q ≡ page_in own q

-- the marks, with one more where it is asked for
abbrev pub marked_if : Bool → ℕ → List Bool → List Bool
marked_if asked p marks = if asked then marked p marks else marks

-- the marks, with one for each of these pages
abbrev pub marked_all : List ℕ → List Bool → List Bool
marked_all [] marks = marks
marked_all (p ∷ pages) marks = marked_all pages (marked p marks)

-- the marks, with one for each page that a draft changes
abbrev pub marked_by : Draft → List Bool → List Bool
marked_by draft.Same marks = marks
marked_by (draft.Changed numbers) marks = marked_all numbers marks
