-- Pages that are drawn one after another, compared with those that were there, and drawn again where they differ.
use Rattle.std.proofs.Common.{◌≡◌, ℕ, zero, suc, ◌+◌, ◌-◌, ◌^◌, ◌<◌, ◌≤◌, Bool, true, false, not, ◌&&◌, ◌||◌, if◌then◌else◌, List, [], ◌∷◌, ◌++◌, length, take, drop, get_or, slice_set, refl, sym, ap, ap₂, ◌∙◌, append_assoc, arith, All}
use Rattle.std.specs.Prelude.{◌==◌}
use Rattle.std.specs.List.{refill}
use Rattle.std.specs.Str.{bytes_eq}
use Rattle.std.proofs.lemmas.Bool.Decides.{nat_tests}
use Rattle.std.proofs.lemmas.Slice.Eq.{bytes_eq-Decides}
use Rattle.std.proofs.lemmas.List.{append-nil, drop_all, take_more, length-append, length-set}
use Rattle.std.proofs.lemmas.List.Elements.{All-nil, All-cons, All-head}
use Rattle.mas_types.specs.declared.ids.Page.{Page}
use Rattle.mas_types.specs.Limits.{page_bytes}
use Rattle.ckpt_tables.specs.declared.tables.Tables.{Tables}
use Rattle.ckpt_tables.specs.Shape.{differing, differing_from, page_count, AreLevels, HasSpelling}
use Rattle.ckpt_tables.specs.Pages.{page_in, page_of}
use Rattle.mas_complex.specs.Fits.{are_same}
use Rattle.member_node.specs.Drawn.{drawn_again, raised}
use Rattle.member_node.specs.Redrawn.{AreChanges, IsSpelling}
use Rattle.member_node.proofs.BatchLemmas.{refilled}
use Rattle.member_node.proofs.DrawnLemmas.{Redrawn, redrawn, length-raised, other_page}

abbrev pub page_with : List ℕ → Page
page_with bytes = record { 0 = bytes }

-- so many pages from the p-th on, as the tables spell them
abbrev pub spelled_from : Tables → List ℕ → ℕ → ℕ → List Page
spelled_from t levels p zero = []
spelled_from t levels p (suc n) = page_with (page_of t levels p) ∷ spelled_from t levels (p + 1) n

-- ---- what differs

and_assoc : (a b c : Bool) → (a && b) && c ≡ a && (b && c)
and_assoc true b c = refl
and_assoc false b c = refl

module _ (t : Tables) (levels : List ℕ) (count n : ℕ) (old : List Page) (x y : Page) (within : n < count) (here : drop n old ≡ x ∷ drop (n + 1) old) (is : y.0 ≡ page_of t levels n) where
  next : spelled_from t levels n (count - n) ≡ y ∷ spelled_from t levels (n + 1) (count - (n + 1))
  next =
      let more : count - n ≡ suc (count - (n + 1)) = omega arith in
      ap (spelled_from t levels n) more ∙ ap (λ (page : Page). page ∷ spelled_from t levels (n + 1) (count - (n + 1))) (ap page_with (sym is))

  pub listed_more : (numbers all : List ℕ) → numbers ++ differing_from n (drop n old) (spelled_from t levels n (count - n)) ≡ all
      → (numbers ++ (if (n == 0) || not (bytes_eq x.0 y.0) then n ∷ [] else [])) ++ differing_from (n + 1) (drop (n + 1) old) (spelled_from t levels (n + 1) (count - (n + 1))) ≡ all
  listed_more numbers all so_far =
      append_assoc numbers (if (n == 0) || not (bytes_eq x.0 y.0) then n ∷ [] else []) (differing_from (n + 1) (drop (n + 1) old) (spelled_from t levels (n + 1) (count - (n + 1))))
      ∙ ap (λ (rest : List ℕ). numbers ++ rest) (sym (ap₂ (differing_from n) here next)) ∙ so_far

  pub same_more : (same all : Bool) → (same && are_same (drop n old) (spelled_from t levels n (count - n))) ≡ all
      → ((same && bytes_eq x.0 y.0) && are_same (drop (n + 1) old) (spelled_from t levels (n + 1) (count - (n + 1)))) ≡ all
  same_more same all so_far =
      and_assoc same (bytes_eq x.0 y.0) (are_same (drop (n + 1) old) (spelled_from t levels (n + 1) (count - (n + 1))))
      ∙ ap (λ (rest : Bool). same && rest) (sym (ap₂ are_same here next)) ∙ so_far

pub sized_more : (t : Tables) (levels : List ℕ) (n : ℕ) (y : List ℕ) → y ≡ page_of t levels n → length y ≡ page_bytes → ((p : ℕ) → p < n → length (page_of t levels p) ≡ page_bytes)
    → (p : ℕ) → p < n + 1 → length (page_of t levels p) ≡ page_bytes
sized_more t levels n y is long before p lt = shown (n == p) refl where
  shown : (b : Bool) → (n == p) ≡ b → length (page_of t levels p) ≡ page_bytes
  shown true e = let same : n ≡ p = grind (arith, nat_tests) in ap (λ (q : ℕ). length (page_of t levels q)) (sym same) ∙ ap length (sym is) ∙ long
  shown false e = let less : p < n = grind (arith, nat_tests) in before p less

-- ---- the pages that were drawn spell the tables

length-spelled : (t : Tables) (levels : List ℕ) (p n : ℕ) → length (spelled_from t levels p n) ≡ n
length-spelled t levels p zero = refl
length-spelled t levels p (suc n) = ap suc (length-spelled t levels (p + 1) n)

spelled_at : (t : Tables) (levels : List ℕ) (p n q : ℕ) → q < n → page_in (spelled_from t levels p n) q ≡ page_of t levels (p + q)
spelled_at t levels p zero q lt = absurd (omega arith)
spelled_at t levels p (suc n) zero lt = let at : p ≡ p + 0 = omega arith in ap (page_of t levels) at
spelled_at t levels p (suc n) (suc q) lt = let on : p + 1 + q ≡ p + suc q = omega arith in spelled_at t levels (p + 1) n q (omega arith) ∙ ap (page_of t levels) on

spelled_sized : (t : Tables) (levels : List ℕ) (p n : ℕ) → ((q : ℕ) → q < p + n → length (page_of t levels q) ≡ page_bytes) → All (λ page. length page.0 ≡ page_bytes) (spelled_from t levels p n)
spelled_sized t levels p zero sized = All-nil (λ page. length page.0 ≡ page_bytes)
spelled_sized t levels p (suc n) sized =
    All-cons (λ page. length page.0 ≡ page_bytes) (page_with (page_of t levels p)) (spelled_from t levels (p + 1) n) (sized p (omega arith)) (spelled_sized t levels (p + 1) n (λ q lt. sized q (omega arith)))

pub is_spelling : (t : Tables) (levels : List ℕ) (count : ℕ) → count ≡ page_count t.config → ((p : ℕ) → p < count → length (page_of t levels p) ≡ page_bytes) → IsSpelling t levels (spelled_from t levels 0 count)
is_spelling t levels count many sized = record {
  spelled = record {
    count = length-spelled t levels 0 count ∙ many;
    each = λ p lt. let at : 0 + p ≡ p = omega arith in spelled_at t levels 0 count p (omega (arith, lt, length-spelled t levels 0 count)) ∙ ap (page_of t levels) at;
  };
  sized = spelled_sized t levels 0 count (λ q lt. sized q (omega arith));
}

module _ (t : Tables) (levels : List ℕ) (count n : ℕ) (old : List Page) (many : length old ≤ n) (over : count ≤ n) where
  pub listed_all : (numbers all : List ℕ) → numbers ++ differing_from n (drop n old) (spelled_from t levels n (count - n)) ≡ all → numbers ≡ all
  listed_all numbers all so_far = sym (append-nil numbers) ∙ ap (λ (rest : List Page). numbers ++ differing_from n rest (spelled_from t levels n (count - n))) (sym (drop_all n old many)) ∙ so_far

  pub same_all : (same all : Bool) → (same && are_same (drop n old) (spelled_from t levels n (count - n))) ≡ all → same ≡ all
  same_all same all so_far =
      let none : count - n ≡ 0 = omega arith in
      and_true same ∙ ap₂ (λ (xs ys : List Page). same && are_same xs ys) (sym (drop_all n old many)) (sym (ap (spelled_from t levels n) none)) ∙ so_far where
        and_true : (b : Bool) → b ≡ (b && true)
        and_true true = refl
        and_true false = refl

-- ---- drawn again

drawn_again-append : (t : Tables) (levels ps : List ℕ) (q : ℕ) (pages : List Page) → drawn_again t levels (ps ++ q ∷ []) pages ≡ slice_set (drawn_again t levels ps pages) q (page_with (page_of t levels q))
drawn_again-append t levels [] q pages = refl
drawn_again-append t levels (p ∷ ps) q pages = drawn_again-append t levels ps q (slice_set pages p (page_with (page_of t levels p)))

pub drawn_again_more : (t : Tables) (levels ps : List ℕ) (i : ℕ) (pages : List Page) → i < length ps
    → drawn_again t levels (take (i + 1) ps) pages ≡ slice_set (drawn_again t levels (take i ps) pages) (get_or ps i 0) (page_with (page_of t levels (get_or ps i 0)))
drawn_again_more t levels ps i pages lt = ap (λ (l : List ℕ). drawn_again t levels l pages) (take_more ps i 0 lt) ∙ drawn_again-append t levels (take i ps) (get_or ps i 0) pages

set_here : (front : List Page) (x y : Page) (xs : List Page) (p : ℕ) → length front ≡ p → slice_set (front ++ x ∷ xs) p y ≡ (front ++ y ∷ []) ++ xs
set_here [] x y xs zero len = refl
set_here [] x y xs (suc p) len = absurd (omega (arith, len))
set_here (f ∷ front) x y xs zero len = absurd (omega (arith, len))
set_here (f ∷ front) x y xs (suc p) len = ap (λ (rest : List Page). f ∷ rest) (set_here front x y xs p (omega (arith, len)))

not_listed : (p : ℕ) (x y : Page) → ((suc p == 0) || not (bytes_eq x.0 y.0)) ≡ false → x ≡ y
not_listed p x y is = ap page_with ((bytes_eq-Decides x.0 y.0).0 (same (suc p == 0) (bytes_eq x.0 y.0) is)) where
  same : (a e : Bool) → (a || not e) ≡ false → e ≡ true
  same true e is = absurd (cc)
  same false true is = refl
  same false false is = absurd (cc)

module _ (t : Tables) (levels : List ℕ) where
  -- pages after page 0 that are drawn again where they differ
  behind_first : (p : ℕ) (front xs ys : List Page) → length front ≡ suc p → length xs ≡ length ys → ((q : ℕ) → q < length ys → page_in ys q ≡ page_of t levels (suc p + q))
      → drawn_again t levels (differing_from (suc p) xs ys) (front ++ xs) ≡ front ++ ys
  behind_first p front [] [] len same each = refl
  behind_first p front [] (y ∷ ys) len same each = absurd (omega (arith, same))
  behind_first p front (x ∷ xs) [] len same each = absurd (omega (arith, same))
  behind_first p front (x ∷ xs) (y ∷ ys) len same each =
      let on : suc p + 1 ≡ suc (suc p) = omega arith in
      let rest : drawn_again t levels (differing_from (suc p + 1) xs ys) ((front ++ y ∷ []) ++ xs) ≡ (front ++ y ∷ []) ++ ys =
      ap (λ (k : ℕ). drawn_again t levels (differing_from k xs ys) ((front ++ y ∷ []) ++ xs)) on
      ∙ behind_first (suc p) (front ++ y ∷ []) xs ys (omega (arith, len, length-append front (y ∷ []))) (omega (arith, same))
      (λ q lt. let e : suc p + suc q ≡ suc (suc p) + q = omega arith in each (suc q) (omega (arith, lt)) ∙ ap (page_of t levels) e) in
      shown rest ((suc p == 0) || not (bytes_eq x.0 y.0)) refl where
        here : page_with (page_of t levels (suc p)) ≡ y
        here = let at : suc p + 0 ≡ suc p = omega arith in ap page_with (ap (page_of t levels) (sym at) ∙ sym (each 0 (omega arith)))

        joined : (front ++ y ∷ []) ++ ys ≡ front ++ y ∷ ys
        joined = append_assoc front (y ∷ []) ys

        shown : drawn_again t levels (differing_from (suc p + 1) xs ys) ((front ++ y ∷ []) ++ xs) ≡ (front ++ y ∷ []) ++ ys → (b : Bool) → ((suc p == 0) || not (bytes_eq x.0 y.0)) ≡ b
            → drawn_again t levels ((if b then suc p ∷ [] else []) ++ differing_from (suc p + 1) xs ys) (front ++ x ∷ xs) ≡ front ++ y ∷ ys
        shown rest true is =
            ap (drawn_again t levels (differing_from (suc p + 1) xs ys)) (ap (slice_set (front ++ x ∷ xs) (suc p)) here ∙ set_here front x y xs (suc p) len) ∙ rest ∙ joined
        shown rest false is =
            ap (drawn_again t levels (differing_from (suc p + 1) xs ys)) (ap (λ (z : Page). front ++ z ∷ xs) (not_listed p x y is) ∙ sym (append_assoc front (y ∷ []) xs)) ∙ rest ∙ joined

  -- the pages that differ from those that were drawn, drawn again: only page 0 has other levels
  pub all_drawn : (old drawn : List Page) → length old ≡ length drawn → ((q : ℕ) → 0 < q → q < length drawn → page_in drawn q ≡ page_of t levels q)
      → drawn_again t levels (differing old drawn) old ≡ slice_set drawn 0 (page_with (page_of t levels 0))
  all_drawn [] [] same each = refl
  all_drawn [] (y ∷ ys) same each = absurd (omega (arith, same))
  all_drawn (x ∷ xs) [] same each = absurd (omega (arith, same))
  all_drawn (x ∷ xs) (y ∷ ys) same each =
      behind_first 0 (page_with (page_of t levels 0) ∷ []) xs ys refl (omega (arith, same))
      (λ q lt. let e : suc q ≡ suc 0 + q = omega arith in each (suc q) (omega arith) (omega (arith, lt)) ∙ ap (page_of t levels) e)

pub length-drawn_again : (t : Tables) (levels ps : List ℕ) (pages : List Page) → length (drawn_again t levels ps pages) ≡ length pages
length-drawn_again t levels [] pages = refl
length-drawn_again t levels (p ∷ ps) pages = length-drawn_again t levels ps (slice_set pages p (page_with (page_of t levels p))) ∙ length-set pages p (page_with (page_of t levels p))

first_long : (drawn : List Page) (first : Page) → 0 < length drawn → All (λ page. length page.0 ≡ page_bytes) (slice_set drawn 0 first) → length first.0 ≡ page_bytes
first_long [] first some sized = absurd (omega arith)
first_long (y ∷ ys) first some sized = All-head (λ page. length page.0 ≡ page_bytes) first ys sized

pub drawn_first : (drawn pages : List Page) (first : Page) → 0 < length drawn → pages ≡ slice_set drawn 0 first → All (λ page. length page.0 ≡ page_bytes) pages → length first.0 ≡ page_bytes
drawn_first drawn pages first some is sized = first_long drawn first some (rw is at sized)

-- what a checkpoint is where its changes are taken
pub changes_taken : (t : Tables) (at : ℕ) (levels : List ℕ) → HasSpelling t → AreLevels t at levels → at + 1 < 2 ^ 63 → (old : List Page) → length old ≡ page_count t.config
    → All (λ page. length page.0 ≡ page_bytes) old → (numbers : List ℕ) → AreChanges t levels old numbers → (ls : List ℕ) → ls ≡ raised numbers (at + 1) levels
    → (ps : List Page) → ps ≡ drawn_again t (refill (length levels) levels ls) numbers old → All (λ page. length page.0 ≡ page_bytes) ps
    → Redrawn t (at + 1) numbers (refill (length levels) levels ls) old (refill (length old) old ps)
changes_taken t at levels spelling leveled more old count sized numbers d ls up ps again long =
    let levels_are : refill (length levels) levels ls ≡ ls = refilled levels ls (ap length up ∙ length-raised numbers (at + 1) levels) in
    let pages_are : refill (length old) old ps ≡ ps = refilled old ps (ap length again ∙ length-drawn_again t (refill (length levels) levels ls) numbers old) in
    let some : 0 < length d.drawn = omega (arith, d.spelling.spelled.count) in
    let set : refill (length old) old ps ≡ slice_set d.drawn 0 (page_with (page_of t (refill (length levels) levels ls) 0)) =
    pages_are ∙ again ∙ ap (λ (ns : List ℕ). drawn_again t (refill (length levels) levels ls) ns old) d.numbers
    ∙ all_drawn t (refill (length levels) levels ls) old d.drawn (count ∙ sym d.spelling.spelled.count)
    (λ q above lt. d.spelling.spelled.each q lt ∙ other_page t levels (refill (length levels) levels ls) q (grind (arith, nat_tests, above))) in
    redrawn t at levels spelling leveled more old d.drawn count sized d.spelling.spelled d.spelling.sized numbers d.numbers (refill (length levels) levels ls) (levels_are ∙ up)
    (refill (length old) old ps) (page_with (page_of t (refill (length levels) levels ls) 0)) set refl (drawn_first d.drawn (refill (length old) old ps) _ some set (rw pages_are long))
