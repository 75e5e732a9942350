-- Pages that are compared with what tables are drawn as, one by one.
use Rattle.std.proofs.Common.{◌≡◌, ℕ, zero, suc, ◌+◌, ◌<◌, ◌==◌, Bool, true, false, List, [], ◌∷◌, length, get_or, refl, sym, ◌∙◌, subst, arith}
use Rattle.std.proofs.lemmas.Bool.Decides.{nat_tests}
use Rattle.std.proofs.lemmas.Slice.Eq.{bytes_eq-Decides}
use Rattle.std.specs.Str.{bytes_eq}
use Rattle.mas_types.specs.declared.ids.Page.{Page}
use Rattle.ckpt_tables.specs.declared.tables.Tables.{Tables}
use Rattle.ckpt_tables.specs.Pages.{page_in, page_of, Spell}

pub page_got : (pages : List Page) (p : ℕ) (d : Page) → p < length pages → (get_or pages p d).0 ≡ page_in pages p
page_got [] p d lt = absurd (omega (arith, lt))
page_got (x ∷ xs) zero d lt = refl
page_got (x ∷ xs) (suc p) d lt = page_got xs p d (omega (arith, lt))

-- one page more is as it is drawn
pub spelled_more : (t : Tables) (levels : List ℕ) (pages : List Page) (n : ℕ) (d y : Page) → n < length pages → bytes_eq (get_or pages n d).0 y.0 ≡ true → y.0 ≡ page_of t levels n
    → ((p : ℕ) → p < n → page_in pages p ≡ page_of t levels p) → (p : ℕ) → p < n + 1 → page_in pages p ≡ page_of t levels p
spelled_more t levels pages n d y inside same drawn before p lt = shown (n == p) refl where
  shown : (b : Bool) → (n == p) ≡ b → page_in pages p ≡ page_of t levels p
  shown true e =
      let at : n ≡ p = grind (arith, nat_tests) in
      subst (λ (q : ℕ). page_in pages q ≡ page_of t levels q) at (sym (page_got pages n d inside) ∙ (bytes_eq-Decides (get_or pages n d).0 y.0).0 same ∙ drawn)
  shown false e = let less : p < n = grind (arith, nat_tests) in before p less

-- pages of which one isn't as the tables spell it
pub unspelled : (t : Tables) (levels : List ℕ) (pages : List Page) (n : ℕ) (d y : Page) → n < length pages → bytes_eq (get_or pages n d).0 y.0 ≡ false → y.0 ≡ page_of t levels n → Spell t levels pages → ⊥
unspelled t levels pages n d y inside differ drawn spelled =
    clash (bytes_eq (get_or pages n d).0 y.0) ((bytes_eq-Decides (get_or pages n d).0 y.0).1 (page_got pages n d inside ∙ spelled.each n inside ∙ sym drawn)) differ where
      clash : (b : Bool) → b ≡ true → b ≡ false → ⊥
      clash b e f = cc
