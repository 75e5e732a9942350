-- Pages that are the same as those that were drawn again.
use Rattle.std.proofs.Common.{◌≡◌, ℕ, suc, zero, ◌<◌, true, false, List, [], ◌∷◌, length, refl, sym, ◌∙◌, arith, All}
use Rattle.std.proofs.lemmas.Bool.{and_parts as and_both}
use Rattle.std.specs.Str.{bytes_eq}
use Rattle.std.proofs.lemmas.Slice.Eq.{bytes_eq-Decides}
use Rattle.mas_types.specs.declared.ids.Page.{Page}
use Rattle.mas_types.specs.Limits.{page_bytes}
use Rattle.ckpt_tables.specs.declared.tables.Tables.{Tables}
use Rattle.ckpt_tables.specs.Shape.{HasSpelling, AreLevels}
use Rattle.ckpt_tables.specs.Pages.{page_in, Spell}
use Rattle.mas_complex.specs.Fits.{are_same}
use Rattle.member_node.specs.Drawn.{AreDrawn}

pub same_length : (xs ys : List Page) → are_same xs ys ≡ true → length xs ≡ length ys
same_length [] [] e = refl
same_length [] (y ∷ ys) e = absurd (cc)
same_length (x ∷ xs) [] e = absurd (cc)
same_length (x ∷ xs) (y ∷ ys) e =
    let rest = same_length xs ys (and_both (bytes_eq x.0 y.0) (are_same xs ys) e).1 in omega (arith, rest)

pub same_page : (xs ys : List Page) → are_same xs ys ≡ true → (p : ℕ) → page_in xs p ≡ page_in ys p
same_page [] [] e p = refl
same_page [] (y ∷ ys) e p = absurd (cc)
same_page (x ∷ xs) [] e p = absurd (cc)
same_page (x ∷ xs) (y ∷ ys) e zero = (bytes_eq-Decides x.0 y.0).0 (and_both (bytes_eq x.0 y.0) (are_same xs ys) e).0
same_page (x ∷ xs) (y ∷ ys) e (suc p) = same_page xs ys (and_both (bytes_eq x.0 y.0) (are_same xs ys) e).1 p

-- pages that are the same as those that spell tables spell them
pub spelled_too : (t : Tables) (levels : List ℕ) (was drawn : List Page) → Spell t levels drawn → are_same was drawn ≡ true → Spell t levels was
spelled_too t levels was drawn spelled same = record {
  count = same_length was drawn same ∙ spelled.count;
  each = λ p lt. same_page was drawn same p ∙ spelled.each p (omega (arith, lt, same_length was drawn same));
}

pub drawn_already : (t : Tables) (at : ℕ) (levels : List ℕ) (was drawn : List Page) → HasSpelling t → AreLevels t at levels → All (λ page. length page.0 ≡ page_bytes) was → Spell t levels drawn → are_same was drawn ≡ true
    → AreDrawn t at levels was
drawn_already t at levels was drawn spelling leveled sized spelled same = record { spelling = spelling; leveled = leveled; spelled = spelled_too t levels was drawn spelled same; sized = sized }

alike : (xs ys : List Page) → length xs ≡ length ys → ((p : ℕ) → p < length xs → page_in xs p ≡ page_in ys p) → are_same xs ys ≡ true
alike [] [] same each = refl
alike [] (y ∷ ys) same each = absurd (omega arith)
alike (x ∷ xs) [] same each = absurd (omega arith)
alike (x ∷ xs) (y ∷ ys) same each =
    let here : bytes_eq x.0 y.0 ≡ true = (bytes_eq-Decides x.0 y.0).1 (each 0 (omega arith)) in
    rw here (alike xs ys (omega (arith, same)) (λ p lt. each (suc p) (omega (arith, lt))))

-- pages that spell the same tables are the same
pub spelled_alike : (t : Tables) (levels : List ℕ) (was drawn : List Page) → Spell t levels drawn → Spell t levels was → are_same was drawn ≡ true
spelled_alike t levels was drawn spelled too =
    alike was drawn (too.count ∙ sym spelled.count) (λ p lt. too.each p lt ∙ sym (spelled.each p (omega (arith, lt, too.count, spelled.count))))

-- pages that differ from those that spell tables don't spell the same tables
pub not_spelled : (t : Tables) (levels : List ℕ) (was drawn : List Page) → Spell t levels drawn → are_same was drawn ≡ false → Spell t levels was → ⊥
not_spelled t levels was drawn spelled differ too =
    let same : are_same was drawn ≡ true = spelled_alike t levels was drawn spelled too in cc
