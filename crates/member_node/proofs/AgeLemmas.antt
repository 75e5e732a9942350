-- The levels of pages that were drawn again, as page 0 gives them.
use Rattle.std.proofs.Common.{◌≡◌, ◌≢◌, ◌⊎◌, inl, inr, ⊎_elim, ℕ, zero, suc, ◌+◌, ◌≤◌, ◌<◌, List, [], ◌∷◌, ◌++◌, length, slice_index, slice_index_or, slice_set, refl, sym, ◌∙◌, ap, arith, All, Contains}
use Rattle.std.proofs.lemmas.List.{get_or-set_other, get_or-set_same, length-set}
use Rattle.std.proofs.lemmas.List.Elements.{All-contains}
use Rattle.std.proofs.lemmas.Bool.{cases_lt}
use Rattle.std.proofs.Math.ListN.{get_or-append}
use Rattle.std.proofs.Math.Seq.{get_or-append_seam}
use Rattle.mas_types.specs.declared.ids.Page.{Page}
use Rattle.mas_types.specs.Limits.{page_bytes}
use Rattle.ckpt_copy.specs.Pages.{bytes_of, level, page_in as page_of_bytes, Covers}
use Rattle.ckpt_tables.specs.declared.tables.Tables.{Tables}
use Rattle.ckpt_tables.specs.Pages.{page_in}
use Rattle.ckpt_tables.specs.Shape.{level_in}
use Rattle.ckpt_pages.specs.Given.{levels_given, levels_in}
use Rattle.ckpt_pages.proofs.GivenLevels.{their_levels}
use Rattle.ckpt_pages.proofs.LevelLemmas.{level_again}
use Rattle.mas_complex.specs.Changed.{NamesOnly}
use Rattle.mas_complex.specs.Past.{age, IsLeftOrNew, IsNextOf}
use Rattle.member_node.specs.declared.checkpoint.Checkpoint.{Checkpoint}
use Rattle.member_node.specs.Drawn.{AreDrawn, raised}
use Rattle.member_node.proofs.DrawnLemmas.{drawn_level, page_joined}
use Rattle.member_node.proofs.WantedLemmas.{levels_fit, levels_many}

-- RAISED LEVELS

-- where a place isn't among those raised, its level stays
raised_other : (ps : List ℕ) (at q : ℕ) (levels : List ℕ) → (Contains ps q → ⊥) → slice_index (raised ps at levels) q ≡ slice_index levels q
raised_other [] at q levels out = refl
raised_other (p ∷ ps) at q levels out =
    raised_other ps at q (slice_set levels p at) (λ there. out (suc there.0, omega (arith, there.1), there.2))
    ∙ get_or-set_other levels p q at 0 (λ e. out (0, omega arith, sym e))

set_keeps : (levels : List ℕ) (p q at : ℕ) → q < length levels → (q ≢ p → slice_index levels q ≡ at) → slice_index (slice_set levels p at) q ≡ at
set_keeps levels p q at few is =
    let other : q ≢ p → slice_index (slice_set levels p at) q ≡ at = λ ne. get_or-set_other levels p q at 0 ne ∙ is ne in
    ⊎_elim (λ lt. other (λ e. absurd (omega (arith, lt, e))))
    (λ ge. ⊎_elim (λ gt. other (λ e. absurd (omega (arith, gt, e))))
    (λ le. let e : q ≡ p = omega (arith, ge, le) in ap (λ (k : ℕ). slice_index (slice_set levels p at) k) e ∙ get_or-set_same levels p at 0 (omega (arith, few, e)))
    (cases_lt p q))
    (cases_lt q p)

-- one that has the new level already keeps it
raised_keeps : (ps : List ℕ) (at q : ℕ) (levels : List ℕ) → q < length levels → slice_index levels q ≡ at → slice_index (raised ps at levels) q ≡ at
raised_keeps [] at q levels few is = is
raised_keeps (p ∷ ps) at q levels few is = raised_keeps ps at q (slice_set levels p at) (omega (arith, few, length-set levels p at)) (set_keeps levels p q at few (λ ne. is))

-- one that is among them gets it
raised_one : (ps : List ℕ) (k at q : ℕ) (levels : List ℕ) → q < length levels → k < length ps → slice_index_or ps k q ≡ q → slice_index (raised ps at levels) q ≡ at
raised_one [] k at q levels few lt is = absurd (omega (arith, lt))
raised_one (p ∷ ps) zero at q levels few lt is = raised_keeps ps at q (slice_set levels p at) (omega (arith, few, length-set levels p at)) (set_keeps levels p q at few (λ ne. absurd (ne (sym is))))
raised_one (p ∷ ps) (suc k) at q levels few lt is = raised_one ps k at q (slice_set levels p at) (omega (arith, few, length-set levels p at)) (omega (arith, lt)) is

-- LEVELS AS PAGE 0 GIVES THEM

pub given_at : (page0 : List ℕ) (n q : ℕ) → q < n → slice_index (levels_in page0 n) q ≡ level_in page0 q
given_at page0 zero q lt = absurd (omega (arith, lt))
given_at page0 (suc n) q lt = ⊎_elim
    (λ less. get_or-append (levels_in page0 n) (level_in page0 n ∷ []) 0 q (omega (arith, less, levels_many page0 n)) ∙ given_at page0 n q less)
    (λ le. let e : q ≡ n = omega (arith, lt, le) in
    let long : q ≡ length (levels_in page0 n) = omega (arith, e, levels_many page0 n) in
    ap (λ (k : ℕ). slice_index (levels_in page0 n ++ level_in page0 n ∷ []) k) long ∙ get_or-append_seam (levels_in page0 n) (level_in page0 n) [] 0 ∙ ap (level_in page0) (sym e))
    (cases_lt q n)

-- what a redraw leaves of the levels: a listed page has the new one, each other page the level that it had
pub next_taken : (t : Tables) (at : ℕ) (levels levels' numbers : List ℕ) (old new : List Page) → levels' ≡ raised numbers (at + 1) levels → AreDrawn t (at + 1) levels' new → All (λ page. length page.0 ≡ page_bytes) old → length old ≡ length new → length levels ≡ length old
    → levels_given old ≡ levels → level (bytes_of old) ≡ at → Covers (length new) numbers (bytes_of old) (bytes_of new) → NamesOnly numbers (bytes_of old) (bytes_of new) → IsNextOf (length new) (bytes_of old) (bytes_of new)
next_taken t at levels levels' numbers old new up drawn sized many count aged is covered exact = record {
  next = top ∙ ap (λ (n : ℕ). n + 1) (sym is);
  each = each;
} where
  top : level (bytes_of new) ≡ at + 1
  top = drawn_level t (at + 1) levels' new drawn

  new_age : (q : ℕ) → q < length new → age q (bytes_of new) ≡ slice_index (raised numbers (at + 1) levels) q
  new_age q lt =
      ap (λ (p : List ℕ). level_in p q) (page_joined new 0 drawn.sized (omega (arith, lt)))
      ∙ level_again t levels' new q drawn.spelled (levels_fit levels' (at + 1) drawn.leveled.most drawn.leveled.each) (omega (arith, lt, drawn.leveled.count, drawn.spelled.count))
      ∙ ap (λ (l : List ℕ). slice_index l q) up

  old_age : (q : ℕ) → q < length new → age q (bytes_of old) ≡ slice_index levels q
  old_age q lt =
      ap (λ (p : List ℕ). level_in p q) (page_joined old 0 sized (omega (arith, lt, many)))
      ∙ sym (given_at (page_in old 0) (length old) q (omega (arith, lt, many)))
      ∙ ap (λ (l : List ℕ). slice_index l q) aged

  differs : (q : ℕ) → 1 ≤ q → Contains numbers q → page_of_bytes q (bytes_of new) ≢ page_of_bytes q (bytes_of old)
  differs q from there = ⊎_elim (λ zero. absurd (omega (arith, zero, from))) (λ d. d) (All-contains (λ (p : ℕ). (p ≡ 0) ⊎ (page_of_bytes p (bytes_of new) ≢ page_of_bytes p (bytes_of old))) numbers q exact there)

  each : (q : ℕ) → 1 ≤ q → q < length new → IsLeftOrNew q (bytes_of old) (bytes_of new)
  each q from to = ⊎_elim
      (λ there. inr (differs q from there, new_age q to ∙ raised_one numbers there.0 (at + 1) q levels (omega (arith, to, many, count)) there.1 there.2 ∙ sym top))
      (λ same. inl (same, new_age q to ∙ raised_other numbers (at + 1) q levels (λ there. differs q from there same) ∙ sym (old_age q to)))
      (covered q to)

-- drawn pages give the levels that they were drawn with
pub drawn_aged : (t : Tables) (at : ℕ) (levels : List ℕ) (pages : List Page) → AreDrawn t at levels pages → levels_given pages ≡ levels
drawn_aged t at levels pages drawn = their_levels pages t (record { level = at; levels = levels; fit = drawn.spelling; ages = drawn.leveled; spell = drawn.spelled })

-- a checkpoint with the same pages and levels
pub aged_as : (k n : Checkpoint) → levels_given k.pages ≡ k.levels → n.pages ≡ k.pages → n.levels ≡ k.levels → levels_given n.pages ≡ n.levels
aged_as k n aged pages levels = ap levels_given pages ∙ aged ∙ sym levels

pub level_as : (k n : Checkpoint) → level (bytes_of k.pages) ≡ k.level → n.pages ≡ k.pages → n.level ≡ k.level → level (bytes_of n.pages) ≡ n.level
level_as k n at pages same = ap (λ (ps : List Page). level (bytes_of ps)) pages ∙ at ∙ sym same
