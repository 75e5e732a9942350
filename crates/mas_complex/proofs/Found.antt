-- The numbers of page 0 and of the pages with the found level, and what they cover.
use Rattle.mas_complex.proofs.Names.{◌≡◌, ◌⊎◌, inl, inr, ⊎_elim, ℕ, suc, zero, ◌+◌, ◌*◌, ◌<◌, ◌≤◌, ◌==◌, ◌||◌, Bool, true, false, if◌then◌else◌, List, [], ◌∷◌, ◌++◌, length, take, drop, slice_index, refl, sym, ◌∙◌, ap, subst, add-one, get_or, append_assoc, All, Contains, arith, bytes_eq, and_parts, bytes_eq-Decides, drop_at, drop-drop, take-append-le, take_all, All-nil, All-cons, All-tail, All-head, All-weaker, Contains-append_right, Page, page_bytes, bytes_of, level, page_in, ArePages, Covers, level_in, differ_at, first_page, found_numbers, is_found_at, numbers_from, ◌&&◌, nat_le, eqb-true, leb-true, Place, Before, are_same, fits, Stays, Some, other, IsAtLevel, Agrees, DiffersAtFound, Looked, OneSeen, Sought, ◌^◌, drop-append-le, length-drop, HasSpelling, ap₂, or_cases, true≢false, Ckpt1, Ckpt2, View, disk_now, Chosen, HasFound, or_parts}
use Rattle.mas_complex.specs.Crash.{next_order}
use Rattle.mas_complex.proofs.Basics.{before_opened, some_is, of_if}
use Rattle.std.specs.List.Sorted.{IsStrictlyIncreasing}
use Rattle.std.specs.Int.{w64, from_be_bytes}
use Rattle.std.proofs.lemmas.Nat.{from_be_bytes-to_be_bytes_8}
use Rattle.lay_bytes.specs.Fields.{piece}
use Rattle.ckpt_tables.specs.declared.tables.Tables.{Tables}
use Rattle.ckpt_tables.specs.Pages.{Spell, page_in as page_of}

increasing_cons : (p : ℕ) (qs : List ℕ) → All (λ q. p < q) qs → IsStrictlyIncreasing qs → IsStrictlyIncreasing (p ∷ qs)
increasing_cons p qs above increasing zero lt = above 0 0 (omega arith)
increasing_cons p qs above increasing (suc k) lt =
    let later : slice_index qs k < slice_index qs (k + 1) = increasing k (omega arith) in
    rw add-one (rw add-one at later)

-- the numbers from page p on are of these pages, and ascend
numbers_ascend : (page0 : List ℕ) (reached p : ℕ) (pages : List Page) → All (λ q. (p ≤ q) × (q < p + length pages)) (numbers_from page0 reached p pages) × IsStrictlyIncreasing (numbers_from page0 reached p pages)
numbers_ascend page0 reached p [] = (All-nil (λ q. (p ≤ q) × (q < p + 0)), λ k lt. absurd (omega arith))
numbers_ascend page0 reached p (x ∷ xs) = listed (is_found_at page0 reached p) (numbers_ascend page0 reached (p + 1) xs) where
  Later : ℕ → Type 0
  Later q = (p + 1 ≤ q) × (q < p + 1 + length xs)

  Within : ℕ → Type 0
  Within q = (p ≤ q) × (q < p + length (x ∷ xs))

  numbers : List ℕ
  numbers = numbers_from page0 reached (p + 1) xs

  listed : (b : Bool) → All Later numbers × IsStrictlyIncreasing numbers → All Within ((if b then p ∷ [] else []) ++ numbers) × IsStrictlyIncreasing ((if b then p ∷ [] else []) ++ numbers)
  listed true rest = (All-cons Within p numbers (omega arith, omega arith) (All-weaker Later Within (λ q w. (omega (arith, w.0), omega (arith, w.1))) numbers rest.0), increasing_cons p numbers (All-weaker Later (λ q. p < q) (λ q w. omega (arith, w.0)) numbers rest.0) rest.1)
  listed false rest = (All-weaker Later Within (λ q w. (omega (arith, w.0), omega (arith, w.1))) numbers rest.0, rest.1)

-- the numbers found are numbers of pages, the first 0
are_pages : (found : List Page) → 1 ≤ length found → ArePages (length found) (found_numbers found)
are_pages [] some = absurd (omega arith)
are_pages (x ∷ xs) some = let all = numbers_ascend x.0 (level (bytes_of (x ∷ xs))) 0 (x ∷ xs) in record {
  first = refl;
  ascending = all.1;
  pages = All-weaker (λ q. (0 ≤ q) × (q < 0 + length (x ∷ xs))) (λ p. p < length (x ∷ xs)) (λ q within. omega (arith, within.1)) (found_numbers (x ∷ xs)) all.0;
}

pub are_pages_of : (found : List Page) (count : ℕ) (numbers : List ℕ) → length found ≡ count → 1 ≤ length found → numbers ≡ found_numbers found → ArePages count numbers
are_pages_of found count numbers as_many some is = rw (sym as_many, is) (are_pages found some)

-- a page that isn't listed is as it was
or_not : (a b e : Bool) → (a || b) ≡ false → (e || b) ≡ true → e ≡ true
or_not a b e is or = ⊎_elim (λ there. there) (λ other. absurd (true≢false (sym other ∙ (or_parts a b is).1))) (or_cases e b or)

numbers_cover : (page0 : List ℕ) (reached p : ℕ) (found other : List Page) → differ_at page0 reached p found other ≡ true → (q : ℕ) → q < length found
    → Contains (numbers_from page0 reached p found) (p + q) ⊎ (page_of found q ≡ page_of other q)
numbers_cover page0 reached p [] ys differ q lt = absurd (omega arith)
numbers_cover page0 reached p (x ∷ xs) [] differ q lt = absurd (cc)
numbers_cover page0 reached p (x ∷ xs) (y ∷ ys) differ zero lt = of_if (λ (front : List ℕ). Contains (front ++ numbers_from page0 reached (p + 1) xs) (p + 0) ⊎ (x.0 ≡ y.0)) (is_found_at page0 reached p) (p ∷ []) []
    (λ _. inl (0, omega arith, omega arith))
    (λ is. inr ((bytes_eq-Decides x.0 y.0).0 (or_not (p == 0) (level_in page0 p == reached) (bytes_eq x.0 y.0) is (and_parts (bytes_eq x.0 y.0 || (level_in page0 p == reached)) (differ_at page0 reached (p + 1) xs ys) differ).0)))
numbers_cover page0 reached p (x ∷ xs) (y ∷ ys) differ (suc q) lt =
    let next : p + 1 + q ≡ p + suc q = omega arith in
    ⊎_elim
    (λ there. inl (subst (Contains (numbers_from page0 reached p (x ∷ xs))) next
    (Contains-append_right (if is_found_at page0 reached p then p ∷ [] else []) (numbers_from page0 reached (p + 1) xs) (p + 1 + q) there)))
    inr
    (numbers_cover page0 reached (p + 1) xs ys ((and_parts (bytes_eq x.0 y.0 || (level_in page0 p == reached)) (differ_at page0 reached (p + 1) xs ys) differ).1) q (omega arith))

-- a page of pages that stand one after another
page_joined : (pages : List Page) (p : ℕ) → All (λ page. length page.0 ≡ page_bytes) pages → p < length pages → page_in p (bytes_of pages) ≡ page_of pages p
page_joined [] p sized lt = absurd (omega arith)
page_joined (x ∷ xs) zero sized lt =
    let here : length x.0 ≡ page_bytes = All-head (λ page. length page.0 ≡ page_bytes) x xs sized in
    take-append-le page_bytes x.0 (bytes_of xs) (omega arith) ∙ take_all page_bytes x.0 (omega arith)
page_joined (x ∷ xs) (suc p) sized lt =
    let here : length x.0 ≡ page_bytes = All-head (λ page. length page.0 ≡ page_bytes) x xs sized in
    let at : page_bytes * suc p ≡ page_bytes + page_bytes * p = omega arith in
    ap (λ (n : ℕ). take page_bytes (drop n (x.0 ++ bytes_of xs))) at
    ∙ ap (take page_bytes) (sym (drop-drop (page_bytes * p) page_bytes (x.0 ++ bytes_of xs)) ∙ ap (drop (page_bytes * p)) (drop_at x.0 (bytes_of xs) page_bytes here))
    ∙ page_joined xs p (All-tail (λ page. length page.0 ≡ page_bytes) x xs sized) (omega arith)

-- pages that differ only at the found level are covered
pub found_covers : (found other : List Page) → length found ≡ length other → All (λ page. length page.0 ≡ page_bytes) found → All (λ page. length page.0 ≡ page_bytes) other
    → differ_at (first_page found) (level (bytes_of found)) 0 found other ≡ true → Covers (length found) (found_numbers found) (bytes_of other) (bytes_of found)
found_covers found other many sized sized' differ p lt =
    ⊎_elim
    (λ there. inl (let e : 0 + p ≡ p = omega arith in subst (Contains (found_numbers found)) e there))
    (λ is. inr (page_joined found p sized lt ∙ is ∙ sym (page_joined other p sized' (omega (arith, lt, many)))))
    (numbers_cover (first_page found) (level (bytes_of found)) 0 found other differ p lt)

-- WHILE THEY ARE LISTED

abbrev pub page_with : List ℕ → Page
page_with bytes = record { 0 = bytes }

pub first_is : (pages : List Page) (d : Page) → 1 ≤ length pages → (get_or pages 0 d).0 ≡ first_page pages
first_is [] d some = absurd (omega arith)
first_is (x ∷ xs) d some = refl

-- one page more
pub numbers_more : (page0 : List ℕ) (reached n : ℕ) (pages : List Page) (x : Page) (numbers all : List ℕ) → drop n pages ≡ x ∷ drop (n + 1) pages
    → numbers ++ numbers_from page0 reached n (drop n pages) ≡ all
    → (numbers ++ (if is_found_at page0 reached n then n ∷ [] else [])) ++ numbers_from page0 reached (n + 1) (drop (n + 1) pages) ≡ all
numbers_more page0 reached n pages x numbers all here so_far =
    append_assoc numbers (if is_found_at page0 reached n then n ∷ [] else []) (numbers_from page0 reached (n + 1) (drop (n + 1) pages))
    ∙ ap (λ (rest : List ℕ). numbers ++ rest) (sym (ap (numbers_from page0 reached n) here)) ∙ so_far

-- Pages that are compared one by one.

are_equal : (xs ys : List Page) → are_same xs ys ≡ true → ys ≡ xs
are_equal [] [] is = refl
are_equal [] (y ∷ ys) is = absurd (cc)
are_equal (x ∷ xs) [] is = absurd (cc)
are_equal (x ∷ xs) (y ∷ ys) is =
    let both = and_parts (bytes_eq x.0 y.0) (are_same xs ys) is in
    let here : x.0 ≡ y.0 = (bytes_eq-Decides x.0 y.0).0 both.0 in
    ap₂ (λ (p : List ℕ) (l : List Page). page_with p ∷ l) (sym here) (are_equal xs ys both.1)

differ_many : (page0 : List ℕ) (reached p : ℕ) (xs ys : List Page) → differ_at page0 reached p xs ys ≡ true → length xs ≡ length ys
differ_many page0 reached p [] [] is = refl
differ_many page0 reached p [] (y ∷ ys) is = absurd (cc)
differ_many page0 reached p (x ∷ xs) [] is = absurd (cc)
differ_many page0 reached p (x ∷ xs) (y ∷ ys) is =
    let e = differ_many page0 reached (p + 1) xs ys (and_parts (bytes_eq x.0 y.0 || (level_in page0 p == reached)) (differ_at page0 reached (p + 1) xs ys) is).1 in omega (arith, e)

-- those that are fewer or more differ
is_not : (b : Bool) → (b ≡ true → ⊥) → false ≡ b
is_not true not = absurd (not refl)
is_not false not = refl

pub same_only : (xs ys : List Page) → (length xs ≡ length ys → ⊥) → false ≡ are_same xs ys
same_only xs ys ne = is_not (are_same xs ys) (λ e. ne (ap length (sym (are_equal xs ys e))))

pub differ_only : (page0 : List ℕ) (reached p : ℕ) (xs ys : List Page) → (length xs ≡ length ys → ⊥) → false ≡ differ_at page0 reached p xs ys
differ_only page0 reached p xs ys ne = is_not (differ_at page0 reached p xs ys) (λ e. ne (differ_many page0 reached p xs ys e))

-- pages that fit have one level and are equal, or lag one level behind and differ at the found level alone
fits_parts : (found other : List Page) (room : ℕ) → fits found other room ≡ true
    → ((level (bytes_of other) ≡ level (bytes_of found)) × (are_same found other ≡ true)) ⊎ ((level (bytes_of other) + 1 ≡ level (bytes_of found)) × (1 ≤ room) × (differ_at (first_page found) (level (bytes_of found)) 0 found other ≡ true))
fits_parts found other room is = of_if (λ (b : Bool). b ≡ true → ((level (bytes_of other) ≡ level (bytes_of found)) × (are_same found other ≡ true)) ⊎ ((level (bytes_of other) + 1 ≡ level (bytes_of found)) × (1 ≤ room) × (differs ≡ true)))
    (level (bytes_of other) == level (bytes_of found)) (are_same found other) ((level (bytes_of other) + 1 == level (bytes_of found)) && (nat_le 1 room && differs))
    (λ e is. inl (eqb-true (level (bytes_of other)) (level (bytes_of found)) e, is))
    (λ e is.
    let lag = and_parts (level (bytes_of other) + 1 == level (bytes_of found)) (nat_le 1 room && differs) is in
    let rest = and_parts (nat_le 1 room) differs lag.1 in
    inr (eqb-true (level (bytes_of other) + 1) (level (bytes_of found)) lag.0, leb-true 1 room rest.0, rest.1)) is where
      differs : Bool
      differs = differ_at (first_page found) (level (bytes_of found)) 0 found other

pub fits_same : (found other : List Page) (room : ℕ) → level (bytes_of other) ≡ level (bytes_of found) → fits found other room ≡ true → bytes_of other ≡ bytes_of found
fits_same found other room same is = ⊎_elim (λ x. ap bytes_of (are_equal found other x.1)) (λ x. absurd (omega (arith, same, x.0))) (fits_parts found other room is)

-- and are as many
pub fits_many : (found other : List Page) (room : ℕ) → fits found other room ≡ true → length found ≡ length other
fits_many found other room is = ⊎_elim (λ x. ap length (sym (are_equal found other x.1))) (λ x. differ_many (first_page found) (level (bytes_of found)) 0 found other x.2) (fits_parts found other room is)

pub fits_low : (place : Place) (room : ℕ) (found other : List Page) → All (λ page. length page.0 ≡ page_bytes) found → All (λ page. length page.0 ≡ page_bytes) other → place ≡ Before
    → (level (bytes_of other) ≡ level (bytes_of found) → ⊥) → fits found other room ≡ true → Stays place room found other
fits_low place room found other sized sized' before differ fit = let many = fits_many found other room fit in
    (many, ⊎_elim (λ x. absurd (differ x.0)) (λ x. inr (before, sym x.0, x.1, found_covers found other many sized sized' x.2)) (fits_parts found other room fit))

-- The pages that are found on two copies.

-- a copy that may stay agrees with them
pub agrees_stays : (tells : Type 0) (it : Sought) (copy : Looked) (bytes : List ℕ) (found other : List Page) → OneSeen tells it copy other → (tells → it.reads bytes ≡ Some (bytes_of other)) → Stays copy.place copy.room found other → Agrees tells it copy bytes found
agrees_stays tells it copy bytes found other seen read stays = record {
  as_many = stays.0 ∙ seen.as_many;
  has = ⊎_elim
      (λ s. inl (subst (λ (l : ℕ). IsAtLevel l it.reached copy.place) s.0 seen.at, λ told. read told ∙ ap Some s.1))
      (λ s. inr (s.0, s.1 ∙ ap (λ (l : ℕ). l + 1) (⊎_elim (λ x. x.1) (λ x. absurd (before_opened copy.place s.0 x.0)) seen.at), s.2, λ told was is. subst (λ (w : List ℕ). DiffersAtFound w found) (some_is (bytes_of other) was (sym (read told) ∙ is)) s.3))
      stays.1;
}

-- the pages of one copy are found, and the other one agrees
module _ (tells : Type 0) (it : Sought) (mine : Looked) (found : List Page) (seen : OneSeen tells it mine found) where
  pub own_agrees : (bytes : List ℕ) → (tells → it.reads bytes ≡ Some (bytes_of found)) → Agrees tells it mine bytes found
  own_agrees bytes read = record { as_many = seen.as_many; has = inl (seen.at, read) }

  pub chosen_of : (one two : Looked) (v : View) → (one.alive ≡ true → Agrees tells it one (disk_now v Ckpt1).bytes found) → (two.alive ≡ true → Agrees tells it two (disk_now v Ckpt2).bytes found)
      → ((one.alive ≡ true) × HasFound tells it one (disk_now v Ckpt1).bytes found) ⊎ ((two.alive ≡ true) × HasFound tells it two (disk_now v Ckpt2).bytes found) → Chosen tells it one two v found
  chosen_of one two v first second which = record {
    first = first;
    second = second;
    one = which;
    next = λ told other. ⊎_elim (λ x. absurd (other x.1)) (λ x. seen.next told x.0) seen.at;
    some = omega (arith, seen.as_many, seen.some);
    few = omega (arith, seen.as_many, seen.few);
  }

-- The next order that pages give.

-- it stands in the first page
order_at_first : (x : Page) (pages : List Page) → length x.0 ≡ page_bytes → next_order (bytes_of (x ∷ pages)) ≡ from_be_bytes w64 (piece 40 8 x.0)
unfolding next_order
order_at_first x pages sized =
    ap (from_be_bytes w64) (ap (take 8) (drop-append-le 40 x.0 (bytes_of pages) (omega (arith, sized))) ∙ take-append-le 8 (drop 40 x.0) (bytes_of pages) (omega (arith, sized, length-drop 40 x.0)))

order_in_first : (pages : List Page) → All (λ page. length page.0 ≡ page_bytes) pages → 0 < length pages → next_order (bytes_of pages) ≡ from_be_bytes w64 (piece 40 8 (page_of pages 0))
order_in_first [] sized some = absurd (omega arith)
order_in_first (x ∷ xs) sized some = order_at_first x xs (All-head (λ page. length page.0 ≡ page_bytes) x xs sized)

-- pages that spell tables give the tables' next order
pub order_spelled : (t : Tables) (levels : List ℕ) (pages : List Page) → HasSpelling t → Spell t levels pages → All (λ page. length page.0 ≡ page_bytes) pages → next_order (bytes_of pages) ≡ t.order
order_spelled t levels pages fit spell sized =
    let some : 0 < length pages = omega (arith, spell.count) in
    let small : t.order < 2 ^ 64 = omega (arith, fit.order) in
    order_in_first pages sized some ∙ ap (λ (p : List ℕ). from_be_bytes w64 (piece 40 8 p)) (spell.each 0 (omega (arith, spell.count))) ∙ from_be_bytes-to_be_bytes_8 t.order small

-- WITHOUT TABLES

order_none : next_order (bytes_of []) ≡ 0
unfolding next_order
order_none = refl

pub order_empty : (pages : List Page) → length pages ≡ 0 → 0 ≡ next_order (bytes_of pages)
order_empty [] none = sym order_none
order_empty (y ∷ ys) none = absurd (omega arith)

pub order_head : (pages : List Page) (d : Page) → (length pages == 0) ≡ false → length (get_or pages 0 d).0 ≡ page_bytes → next_order (bytes_of pages) ≡ from_be_bytes w64 (piece 40 8 (get_or pages 0 d).0)
order_head [] d some sized = absurd (cc)
order_head (y ∷ ys) d some sized = order_at_first y ys sized
