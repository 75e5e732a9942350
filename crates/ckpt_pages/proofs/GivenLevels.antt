-- The levels of a checkpoint, as page 0 gives them.
use Rattle.std.proofs.Common.{◌≡◌, ℕ, zero, suc, ◌<◌, ◌≤◌, ◌^◌, List, [], ◌∷◌, ◌++◌, length, take, slice_index, All, refl, sym, ◌∙◌, ap, arith, add-one}
use Rattle.std.proofs.lemmas.List.{take_more, take_all}
use Rattle.std.proofs.lemmas.List.Elements.{All-weaker}
use Rattle.mas_types.specs.declared.ids.Page.{Page}
use Rattle.ckpt_tables.specs.declared.tables.Tables.{Tables}
use Rattle.ckpt_pages.specs.Checkpoints.{IsCheckpoint}
use Rattle.ckpt_tables.specs.Shape.{level_in}
use Rattle.ckpt_tables.specs.Pages.{page_in}
use Rattle.ckpt_pages.proofs.LevelLemmas.{level_again}
use Rattle.ckpt_pages.specs.Given.{levels_in, levels_given}

module _ (page0 levels : List ℕ) (given : (p : ℕ) → p < length levels → level_in page0 p ≡ slice_index levels p) where
  so_many : (n : ℕ) → n ≤ length levels → levels_in page0 n ≡ take n levels
  so_many zero le = refl
  so_many (suc n) le =
      let lt : n < length levels = omega arith in
      ap (λ (ls : List ℕ). ls ++ level_in page0 n ∷ []) (so_many n (omega arith)) ∙ ap (λ (l : ℕ). take n levels ++ l ∷ []) (given n lt) ∙ sym (take_more levels n 0 lt) ∙ ap (λ (m : ℕ). take m levels) (add-one n)

pub their_levels : (pages : List Page) (t : Tables) (is : IsCheckpoint pages t) → levels_given pages ≡ is.levels
their_levels pages t is =
    let small : All (λ l. l < 2 ^ 64) is.levels = All-weaker (λ l. (1 ≤ l) × (l ≤ is.level)) (λ l. l < 2 ^ 64) (λ l h. omega (arith, h.1, is.ages.most)) is.levels is.ages.each in
    let many : length pages ≡ length is.levels = is.spell.count ∙ sym is.ages.count in
    so_many (page_in pages 0) is.levels (λ p lt. level_again t is.levels pages p is.spell small lt) (length pages) (omega (arith, many))
    ∙ ap (λ (n : ℕ). take n is.levels) many ∙ take_all (length is.levels) is.levels (omega arith)
