-- The levels that page 0 gives the pages.
use Rattle.std.specs.Prelude.{◌≡◌, ℕ, zero, suc, List, [], ◌∷◌, ◌++◌, length}
use Rattle.mas_types.specs.declared.ids.Page.{Page}
use Rattle.ckpt_tables.specs.declared.tables.Tables.{Tables}
use Rattle.ckpt_pages.specs.Checkpoints.{IsCheckpoint}
use Rattle.ckpt_tables.specs.Pages.{page_in}
use Rattle.ckpt_tables.specs.Shape.{level_in}

-- the levels that page 0 gives so many pages, from the first on
abbrev pub levels_in : List ℕ → ℕ → List ℕ
levels_in page0 zero = []
levels_in page0 (suc n) = levels_in page0 n ++ level_in page0 n ∷ []

abbrev pub levels_given : List Page → List ℕ
levels_given pages = levels_in (page_in pages 0) (length pages)

-- the levels of a checkpoint are those that its page 0 gives
abbrev pub AreTheirLevels : Type 0
AreTheirLevels = (pages : List Page) (t : Tables) (is : IsCheckpoint pages t) → levels_given pages ≡ is.levels
