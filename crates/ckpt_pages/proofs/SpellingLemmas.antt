-- Pages spell tables one after another.
use Rattle.std.proofs.Common.{◌≡◌, ℕ, zero, suc, ◌+◌, ◌<◌, List, [], ◌∷◌, ◌++◌, length, refl, sym, ap, ◌∙◌, inl, inr, arith}
use Rattle.std.proofs.lemmas.Bool.{cases_lt}
use Rattle.std.proofs.lemmas.List.{length_push}
use Rattle.mas_types.specs.declared.ids.Page.{Page}
use Rattle.ckpt_tables.specs.declared.tables.Tables.{Tables}
use Rattle.ckpt_tables.specs.Pages.{page_of, page_in}

-- the first n pages are spelled
pub record IsSpelledTo (t : Tables) (levels : List ℕ) (n : ℕ) (pages : List Page) : Type 0 where
  pub count : length pages ≡ n
  pub each : (p : ℕ) → p < n → page_in pages p ≡ page_of t levels p

page_in_before : (pages : List Page) (x : Page) (p : ℕ) → p < length pages → page_in (pages ++ x ∷ []) p ≡ page_in pages p
page_in_before [] x p lt = absurd (omega arith)
page_in_before (y ∷ ys) x zero lt = refl
page_in_before (y ∷ ys) x (suc p) lt = page_in_before ys x p (omega arith)

page_in_last : (pages : List Page) (x : Page) (p : ℕ) → p ≡ length pages → page_in (pages ++ x ∷ []) p ≡ x.0
page_in_last [] x p e = rw e refl
page_in_last (y ∷ ys) x zero e = absurd (omega (arith, e))
page_in_last (y ∷ ys) x (suc p) e = page_in_last ys x p (omega (arith, e))

pub spelled_none : (t : Tables) (levels : List ℕ) → IsSpelledTo t levels 0 []
spelled_none t levels = record { count = refl; each = λ p lt. absurd (omega arith) }

pub spelled_more : (t : Tables) (levels : List ℕ) (n : ℕ) (pages new : List Page) (x : Page) → IsSpelledTo t levels n pages → new ≡ pages ++ x ∷ [] → x.0 ≡ page_of t levels n → IsSpelledTo t levels (n + 1) new
spelled_more t levels n pages new x h grown is =
    record {
      count = omega (arith, ap length grown, length_push pages x, h.count);
      each = λ p lt. ap (λ (ps : List Page). page_in ps p) grown ∙ elim (cases_lt p n) [
        | inl before ↦ page_in_before pages x p (omega (arith, h.count)) ∙ h.each p before
        | inr le ↦
            let e : p ≡ n = omega arith in
            page_in_last pages x p (e ∙ sym h.count) ∙ is ∙ ap (page_of t levels) (sym e)
      ];
    }
