-- The levels that page 0 gives.
use Rattle.std.proofs.Common.{◌≡◌, ℕ, ◌+◌, ◌*◌, ◌-◌, ◌<◌, ◌^◌, List, ◌++◌, length, take, drop, map, replicate, refl, sym, ap, ◌∙◌, append_assoc, All, arith}
use Rattle.std.specs.Prelude.{◌==◌}
use Rattle.std.specs.List.{concat, slice_index}
use Rattle.std.specs.Int.{w64, from_be_bytes, to_be_bytes}
use Rattle.std.proofs.lemmas.Bool.Decides.{nat_tests}
use Rattle.std.proofs.lemmas.List.{drop_at, drop-drop}
use Rattle.std.proofs.lemmas.List.Elements.{All-get_or}
use Rattle.std.proofs.lemmas.Nat.{from_be_bytes-to_be_bytes_8}
use Rattle.mas_types.specs.declared.ids.Page.{Page}
use Rattle.lay_bytes.specs.Fields.{piece}
use Rattle.lay_bytes.proofs.Pieces.{test_cases}
use Rattle.ckpt_tables.specs.declared.tables.Tables.{Tables}
use Rattle.ckpt_tables.specs.Shape.{level_in}
use Rattle.ckpt_tables.specs.Pages.{Spell, page_in, page_of, header_pieces}
use Rattle.ckpt_pages.proofs.EntryLemmas.{chunk_at}

first_page : (t : Tables) (levels : List ℕ) (pages : List Page) → Spell t levels pages → page_in pages 0 ≡ page_of t levels 0
first_page t levels pages spell = spell.each 0 (omega (arith, spell.count))

-- the level of the checkpoint stands after the first eight bytes
pub level_spelled : (t : Tables) (levels : List ℕ) (pages : List Page) → Spell t levels pages → piece 8 8 (page_in pages 0) ≡ to_be_bytes w64 (slice_index levels 0)
level_spelled t levels pages spell = ap (piece 8 8) (first_page t levels pages spell)

behind : (head rest : List ℕ) (n at : ℕ) → length head ≡ n → drop (n + at) (head ++ rest) ≡ drop at rest
behind head rest n at e = sym (drop-drop at n (head ++ rest)) ∙ ap (drop at) (drop_at head rest n e)

level_at : (t : Tables) (levels : List ℕ) (p : ℕ) → All (λ l. l < 2 ^ 64) levels → p < length levels → piece (1024 + 8 * p) 8 (page_of t levels 0) ≡ to_be_bytes w64 (slice_index levels p)
level_at t levels p fit lt =
    let head : List ℕ = concat (header_pieces t (slice_index levels 0)) in
    let body : List ℕ = concat (map (to_be_bytes w64) levels) in
    let zeros : List ℕ = replicate (4096 - length (concat (header_pieces t (slice_index levels 0)) ++ concat (map (to_be_bytes w64) levels))) 0 in
    let cut : drop (1024 + 8 * p) (concat (header_pieces t (slice_index levels 0)) ++ (concat (map (to_be_bytes w64) levels) ++ zeros)) ≡ drop (8 * p) (concat (map (to_be_bytes w64) levels) ++ zeros) =
    behind (concat (header_pieces t (slice_index levels 0))) (concat (map (to_be_bytes w64) levels) ++ zeros) 1024 (8 * p) refl in
    ap (piece (1024 + 8 * p) 8) (append_assoc head body zeros) ∙ ap (take 8) cut
    ∙ chunk_at (to_be_bytes w64) (λ l. l < 2 ^ 64) 8 (λ x fits. refl) levels p (8 * p) 0 zeros fit lt refl

-- each level is read as it was written
pub level_again : (t : Tables) (levels : List ℕ) (pages : List Page) (p : ℕ) → Spell t levels pages → All (λ l. l < 2 ^ 64) levels → p < length levels → level_in (page_in pages 0) p ≡ slice_index levels p
level_again t levels pages p spell fit lt =
    let first = first_page t levels pages spell in
    let small : slice_index levels p < 2 ^ 64 = All-get_or (λ l. l < 2 ^ 64) levels p 0 lt fit in
    test_cases (p == 0) (level_in (page_in pages 0) p ≡ slice_index levels p)
    (λ e.
    let z : p ≡ 0 = grind (arith, nat_tests) in
    rw e (ap (from_be_bytes w64) (level_spelled t levels pages spell) ∙ ap (λ (k : ℕ). from_be_bytes w64 (to_be_bytes w64 (slice_index levels k))) (sym z) ∙ from_be_bytes-to_be_bytes_8 (slice_index levels p) small))
    (λ e. rw e (ap (λ (page : List ℕ). from_be_bytes w64 (piece (1024 + 8 * p) 8 page)) first ∙ ap (from_be_bytes w64) (level_at t levels p fit lt) ∙ from_be_bytes-to_be_bytes_8 (slice_index levels p) small))
