-- The level stands in the first page.
use Rattle.std.proofs.Common.{◌≡◌, ◌<◌, List, [], ◌∷◌, length, take, drop, get_or, refl, sym, ◌∙◌, ap, subst, arith}
use Rattle.std.specs.Int.{w64, from_be_bytes}
use Rattle.std.specs.Prelude.{◌==◌, false}
use Rattle.std.proofs.lemmas.List.{take-append-le, drop-append-le, length-drop}
use Rattle.mas_types.specs.declared.ids.Page.{Page}
use Rattle.mas_types.specs.Limits.{page_bytes}
use Rattle.ckpt_copy.specs.Pages.{bytes_of, level}

level_first : (pages : List Page) (x : Page) → 0 < length pages → x ≡ get_or pages 0 x → length x.0 ≡ page_bytes → level (bytes_of pages) ≡ from_be_bytes w64 (take 8 (drop 8 x.0))
unfolding level
level_first [] x some is sized = absurd (omega arith)
level_first (y ∷ ys) x some is sized =
    let here : length y.0 ≡ page_bytes = subst (λ (p : Page). length p.0 ≡ page_bytes) is sized in
    ap (from_be_bytes w64)
    (ap (take 8) (drop-append-le 8 y.0 (bytes_of ys) (omega (arith, here))) ∙ take-append-le 8 (drop 8 y.0) (bytes_of ys) (omega (arith, here, length-drop 8 y.0)) ∙ ap (λ (p : Page). take 8 (drop 8 p.0)) (sym is))

level_none : level (bytes_of []) ≡ 0
unfolding level
level_none = refl

pub level_empty : (pages : List Page) → length pages ≡ 0 → 0 ≡ level (bytes_of pages)
level_empty [] none = sym level_none
level_empty (y ∷ ys) none = absurd (omega arith)

pub level_head : (pages : List Page) (d : Page) → (length pages == 0) ≡ false → length (get_or pages 0 d).0 ≡ page_bytes → level (bytes_of pages) ≡ from_be_bytes w64 (take 8 (drop 8 (get_or pages 0 d).0))
level_head [] d some sized = absurd (cc)
level_head (y ∷ ys) d some sized = level_first (y ∷ ys) y (omega arith) refl sized
