-- Pages that are drawn again: their levels, and which of them differ.
use Rattle.std.proofs.Common.{◌≡◌, ◌≢◌, ◌⊎◌, inl, inr, ⊎_elim, ℕ, suc, zero, ◌+◌, ◌*◌, ◌<◌, ◌≤◌, ◌^◌, Bool, true, false, not, ◌||◌, if◌then◌else◌, List, [], ◌∷◌, ◌++◌, length, take, drop, get_or, slice_set, slice_index, Some, refl, sym, ◌∙◌, ap, subst, arith, add-one, All, Contains}
use Rattle.std.specs.Prelude.{◌==◌, slice_get}
use Rattle.std.specs.List.Sorted.{IsStrictlyIncreasing}
use Rattle.std.specs.Int.{w64, from_be_bytes, to_be_bytes}
use Rattle.std.specs.Str.{bytes_eq}
use Rattle.std.proofs.lemmas.Bool.Decides.{nat_tests}
use Rattle.std.proofs.lemmas.Slice.Eq.{bytes_eq-Decides}
use Rattle.std.proofs.lemmas.List.{drop_at, drop-drop, take-append-le, drop-append-le, length-drop, take_all, take_more, length-set}
use Rattle.std.proofs.lemmas.List.Elements.{All-nil, All-cons, All-tail, All-head, All-set, All-weaker, Contains-append_right}
use Rattle.std.proofs.lemmas.Nat.{from_be_bytes-to_be_bytes_8}
use Rattle.mas_types.specs.declared.ids.Page.{Page}
use Rattle.mas_types.specs.Limits.{page_bytes, routes_most}
use Rattle.lay_bytes.specs.Fields.{piece}
use Rattle.ckpt_copy.specs.Pages.{bytes_of, level, page_in as page_of_bytes, ArePages, Covers}
use Rattle.ckpt_tables.specs.declared.tables.Tables.{Tables}
use Rattle.ckpt_tables.specs.Shape.{differing, differing_from, page_count, HasSpelling, AreLevels}
use Rattle.ckpt_tables.specs.Pages.{page_in, page_of, Spell}
use Rattle.ckpt_pages.proofs.LevelLemmas.{level_spelled}
use Rattle.mas_types.specs.declared.queues.Config.{Config}
use Rattle.mas_types.specs.declared.queues.Route.{Route}
use Rattle.mas_types.specs.Fit.{IsConfig}
use Rattle.ckpt_tables.specs.Shape.{IsRoute}
use Rattle.ckpt_pages.specs.Starts.{empty_tables, first_levels}
use Rattle.ckpt_pages.specs.Laws.{EmptyHasSpelling, AreFirstLevels}
use Rattle.mas_types.specs.declared.queues.Queue.{Queue}
use Rattle.queue_telling.specs.Orders.{HaveOrders}
use Rattle.queue_telling.specs.Telling.{Tell, PagesTell}
use Rattle.mas_complex.specs.Crash.{next_order}
use Rattle.mas_complex.specs.Meaning.{StandFor}
use Rattle.mas_complex.proofs.Found.{order_spelled}
use Rattle.mas_complex.specs.Changed.{NamesOnly}
use Rattle.member_node.specs.Drawn.{AreDrawn, raised}

-- PAGES AS BYTES

-- a page of pages that stand one after another
pub page_joined : (pages : List Page) (p : ℕ) → All (λ page. length page.0 ≡ page_bytes) pages → p < length pages
    → page_of_bytes p (bytes_of pages) ≡ page_in pages p
page_joined [] p sized lt = absurd (omega arith)
page_joined (x ∷ xs) zero sized lt =
    let here : length x.0 ≡ page_bytes = All-head (λ page. length page.0 ≡ page_bytes) x xs sized in
    take-append-le page_bytes x.0 (bytes_of xs) (omega arith) ∙ take_all page_bytes x.0 (omega arith)
page_joined (x ∷ xs) (suc p) sized lt =
    let here : length x.0 ≡ page_bytes = All-head (λ page. length page.0 ≡ page_bytes) x xs sized in
    let at : page_bytes * suc p ≡ page_bytes + page_bytes * p = omega arith in
    ap (λ (n : ℕ). take page_bytes (drop n (x.0 ++ bytes_of xs))) at
    ∙ ap (take page_bytes) (sym (drop-drop (page_bytes * p) page_bytes (x.0 ++ bytes_of xs)) ∙ ap (drop (page_bytes * p)) (drop_at x.0 (bytes_of xs) page_bytes here))
    ∙ page_joined xs p (All-tail (λ page. length page.0 ≡ page_bytes) x xs sized) (omega arith)

-- the level stands in the first page
level_in_first : (pages : List Page) → All (λ page. length page.0 ≡ page_bytes) pages → 0 < length pages → level (bytes_of pages) ≡ from_be_bytes w64 (piece 8 8 (page_in pages 0))
unfolding level
level_in_first [] sized some = absurd (omega arith)
level_in_first (x ∷ xs) sized some =
    let here : length x.0 ≡ page_bytes = All-head (λ page. length page.0 ≡ page_bytes) x xs sized in
    ap (from_be_bytes w64)
    (ap (take 8) (cut x.0 (bytes_of xs) (omega arith)) ∙ take-append-le 8 (drop 8 x.0) (bytes_of xs) (omega (arith, length-drop 8 x.0))) where
      cut : (front rest : List ℕ) → 8 ≤ length front → drop 8 (front ++ rest) ≡ drop 8 front ++ rest
      cut front rest le = drop-append-le 8 front rest le

pub drawn_level : (t : Tables) (at : ℕ) (levels : List ℕ) (pages : List Page) → AreDrawn t at levels pages → level (bytes_of pages) ≡ at
drawn_level t at levels pages drawn =
    let some : 0 < length pages = omega (arith, drawn.spelled.count) in
    let first : slice_index levels 0 ≡ at = first_is levels at drawn.leveled.first in
    let fits : at < 2 ^ 64 = omega (arith, drawn.leveled.most) in
    level_in_first pages drawn.sized some ∙ ap (from_be_bytes w64) (level_spelled t levels pages drawn.spelled ∙ ap (to_be_bytes w64) first)
    ∙ from_be_bytes-to_be_bytes_8 at fits where
      first_is : (levels : List ℕ) (at : ℕ) → slice_get levels 0 ≡ Some at → slice_index levels 0 ≡ at
      first_is [] at is = absurd (cc)
      first_is (l ∷ levels) at is = cc

-- and the next order too
pub drawn_order : (t : Tables) (at : ℕ) (levels : List ℕ) (pages : List Page) → AreDrawn t at levels pages → next_order (bytes_of pages) ≡ t.order
drawn_order t at levels pages drawn = order_spelled t levels pages drawn.spelling drawn.spelled drawn.sized

-- drawn pages stand for each queue that their tables tell, which have no order twice
pub drawn_tell : (t : Tables) (at : ℕ) (levels : List ℕ) (pages : List Page) (Q : Queue) → AreDrawn t at levels pages → HaveOrders t → Tell t Q → PagesTell pages at Q
drawn_tell t at levels pages Q drawn orders told = record { tables = t; levels = levels; fit = drawn.spelling; ages = drawn.leveled; spell = drawn.spelled; orders = orders; tell = told }

pub drawn_stand : (t : Tables) (at : ℕ) (levels : List ℕ) (pages : List Page) (Q : Queue) → AreDrawn t at levels pages → HaveOrders t → Tell t Q → StandFor Q (bytes_of pages)
drawn_stand t at levels pages Q drawn orders told = record { pages = pages; level = at; sized = drawn.sized; joined = refl; tell = drawn_tell t at levels pages Q drawn orders told }

-- THE LEVELS

pub length-raised : (ps : List ℕ) (at : ℕ) (levels : List ℕ) → length (raised ps at levels) ≡ length levels
length-raised [] at levels = refl
length-raised (p ∷ ps) at levels = length-raised ps at (slice_set levels p at) ∙ length-set levels p at

All-raised : (P : ℕ → Type 0) (ps : List ℕ) (at : ℕ) (levels : List ℕ) → P at → All P levels → All P (raised ps at levels)
All-raised P [] at levels here each = each
All-raised P (p ∷ ps) at levels here each = All-raised P ps at (slice_set levels p at) here (All-set P levels p at here each)

-- one page more
raised-append : (ps : List ℕ) (q at : ℕ) (levels : List ℕ) → raised (ps ++ q ∷ []) at levels ≡ slice_set (raised ps at levels) q at
raised-append [] q at levels = refl
raised-append (p ∷ ps) q at levels = raised-append ps q at (slice_set levels p at)

pub raised_more : (ps : List ℕ) (i at : ℕ) (levels : List ℕ) → i < length ps → raised (take (i + 1) ps) at levels ≡ slice_set (raised (take i ps) at levels) (get_or ps i 0) at
raised_more ps i at levels lt = ap (λ (l : List ℕ). raised l at levels) (take_more ps i 0 lt) ∙ raised-append (take i ps) (get_or ps i 0) at levels

first_set : (levels : List ℕ) (p at : ℕ) → slice_get levels 0 ≡ Some at → slice_get (slice_set levels p at) 0 ≡ Some at
first_set [] p at first = first
first_set (l ∷ levels) zero at first = refl
first_set (l ∷ levels) (suc p) at first = first

first_raised : (ps : List ℕ) (at : ℕ) (levels : List ℕ) → slice_get levels 0 ≡ Some at → slice_get (raised ps at levels) 0 ≡ Some at
first_raised [] at levels first = first
first_raised (p ∷ ps) at levels first = first_raised ps at (slice_set levels p at) (first_set levels p at first)

-- WHICH PAGES DIFFER

or_not : (a e : Bool) → (a || not e) ≡ false → e ≡ true
or_not true e is = absurd (cc)
or_not false true is = refl
or_not false false is = absurd (cc)

-- whether page p is listed, which was x and is y
abbrev is_listed : ℕ → Page → Page → Bool
is_listed p x y = (p == 0) || not (bytes_eq x.0 y.0)

-- the numbers listed from page p on
differing_within : (p : ℕ) (old new : List Page) → All (λ q. (p ≤ q) × (q < p + length old)) (differing_from p old new)
differing_within p [] new = All-nil (λ q. (p ≤ q) × (q < p + 0))
differing_within p (x ∷ xs) [] = All-nil (λ q. (p ≤ q) × (q < p + length (x ∷ xs)))
differing_within p (x ∷ xs) (y ∷ ys) = listed (is_listed p x y)
    (All-weaker (λ q. (p + 1 ≤ q) × (q < p + 1 + length xs)) (λ q. (p ≤ q) × (q < p + length (x ∷ xs))) (λ q within. (omega (arith, within.0), omega (arith, within.1))) (differing_from (p + 1) xs ys) (differing_within (p + 1) xs ys)) where
      listed : (b : Bool) → All (λ q. (p ≤ q) × (q < p + length (x ∷ xs))) (differing_from (p + 1) xs ys)
          → All (λ q. (p ≤ q) × (q < p + length (x ∷ xs))) ((if b then p ∷ [] else []) ++ differing_from (p + 1) xs ys)
      listed true rest = All-cons (λ q. (p ≤ q) × (q < p + length (x ∷ xs))) p (differing_from (p + 1) xs ys) (omega arith, omega arith) rest
      listed false rest = rest

increasing_cons : (p : ℕ) (qs : List ℕ) → All (λ q. p < q) qs → IsStrictlyIncreasing qs → IsStrictlyIncreasing (p ∷ qs)
increasing_cons p qs above increasing zero lt = above 0 0 (omega arith)
increasing_cons p qs above increasing (suc k) lt =
    let later : slice_index qs k < slice_index qs (k + 1) = increasing k (omega arith) in
    rw add-one (rw add-one at later)

differing_increasing : (p : ℕ) (old new : List Page) → IsStrictlyIncreasing (differing_from p old new)
differing_increasing p [] new = λ k lt. absurd (omega arith)
differing_increasing p (x ∷ xs) [] = λ k lt. absurd (omega arith)
differing_increasing p (x ∷ xs) (y ∷ ys) = listed (is_listed p x y) (differing_increasing (p + 1) xs ys)
    (All-weaker (λ q. (p + 1 ≤ q) × (q < p + 1 + length xs)) (λ q. p < q) (λ q within. omega (arith, within.0)) (differing_from (p + 1) xs ys) (differing_within (p + 1) xs ys)) where
      listed : (b : Bool) → IsStrictlyIncreasing (differing_from (p + 1) xs ys) → All (λ q. p < q) (differing_from (p + 1) xs ys)
          → IsStrictlyIncreasing ((if b then p ∷ [] else []) ++ differing_from (p + 1) xs ys)
      listed true rest above = increasing_cons p (differing_from (p + 1) xs ys) above rest
      listed false rest above = rest

-- each page is listed or as it was
differing_covers : (p : ℕ) (old new : List Page) → length old ≡ length new → (q : ℕ) → q < length old
    → Contains (differing_from p old new) (p + q) ⊎ (page_in new q ≡ page_in old q)
differing_covers p [] new same q lt = absurd (omega arith)
differing_covers p (x ∷ xs) [] same q lt = absurd (omega arith)
differing_covers p (x ∷ xs) (y ∷ ys) same zero lt = listed (is_listed p x y) refl where
  listed : (b : Bool) → is_listed p x y ≡ b → Contains ((if b then p ∷ [] else []) ++ differing_from (p + 1) xs ys) (p + 0) ⊎ (y.0 ≡ x.0)
  listed true is = inl (0, omega arith, omega arith)
  listed false is = inr (sym ((bytes_eq-Decides x.0 y.0).0 (or_not (p == 0) (bytes_eq x.0 y.0) is)))
differing_covers p (x ∷ xs) (y ∷ ys) same (suc q) lt =
    let next : p + 1 + q ≡ p + suc q = omega arith in
    ⊎_elim
    (λ there. inl (subst (Contains (differing_from p (x ∷ xs) (y ∷ ys))) next
    (Contains-append_right (if is_listed p x y then p ∷ [] else []) (differing_from (p + 1) xs ys) (p + 1 + q) there)))
    inr
    (differing_covers (p + 1) xs ys (omega arith) q (omega arith))

-- each listed number is 0 or that of a page that isn't as it was
abbrev IsListed : ℕ → List Page → List Page → ℕ → Type 0
IsListed p old new n = (p ≤ n) × ((n ≡ 0) ⊎ ((q : ℕ) → p + q ≡ n → page_in new q ≢ page_in old q))

or_differ : (p : ℕ) (x y : Page) → is_listed p x y ≡ true → (p ≡ 0) ⊎ (y.0 ≢ x.0)
or_differ zero x y is = inl refl
or_differ (suc p) x y is = inr (λ same. clash (bytes_eq x.0 y.0) ((bytes_eq-Decides x.0 y.0).1 (sym same)) (not_false (suc p == 0) (bytes_eq x.0 y.0) (grind (arith, nat_tests)) is)) where
  clash : (b : Bool) → b ≡ true → b ≡ false → ⊥
  clash b e f = cc

  not_false : (a b : Bool) → a ≡ false → (a || not b) ≡ true → b ≡ false
  not_false true b e f = absurd (cc)
  not_false false true e f = absurd (cc)
  not_false false false e f = refl

differing_only : (p : ℕ) (old new : List Page) → All (IsListed p old new) (differing_from p old new)
differing_only p [] new = All-nil (IsListed p [] new)
differing_only p (x ∷ xs) [] = All-nil (IsListed p (x ∷ xs) [])
differing_only p (x ∷ xs) (y ∷ ys) = listed (is_listed p x y) refl (All-weaker (IsListed (p + 1) xs ys) (IsListed p (x ∷ xs) (y ∷ ys)) (λ n is. (omega (arith, is.0), later n is)) (differing_from (p + 1) xs ys) (differing_only (p + 1) xs ys)) where
  next : (n q : ℕ) → p + 1 ≤ n → ((r : ℕ) → p + 1 + r ≡ n → page_in ys r ≢ page_in xs r) → p + q ≡ n → page_in (y ∷ ys) q ≢ page_in (x ∷ xs) q
  next n zero above differ at = absurd (omega (arith, at, above))
  next n (suc q) above differ at = differ q (omega (arith, at))

  later : (n : ℕ) → IsListed (p + 1) xs ys n → (n ≡ 0) ⊎ ((q : ℕ) → p + q ≡ n → page_in (y ∷ ys) q ≢ page_in (x ∷ xs) q)
  later n is = ⊎_elim inl (λ differ. inr (λ q at. next n q is.0 differ at)) is.1

  here : is_listed p x y ≡ true → IsListed p (x ∷ xs) (y ∷ ys) p
  here is = (omega arith, ⊎_elim inl (λ differ. inr (own differ)) (or_differ p x y is)) where
    own : y.0 ≢ x.0 → (q : ℕ) → p + q ≡ p → page_in (y ∷ ys) q ≢ page_in (x ∷ xs) q
    own differ zero at = differ
    own differ (suc q) at = absurd (omega (arith, at))

  listed : (b : Bool) → is_listed p x y ≡ b → All (IsListed p (x ∷ xs) (y ∷ ys)) (differing_from (p + 1) xs ys) → All (IsListed p (x ∷ xs) (y ∷ ys)) ((if b then p ∷ [] else []) ++ differing_from (p + 1) xs ys)
  listed true is rest = All-cons (IsListed p (x ∷ xs) (y ∷ ys)) p (differing_from (p + 1) xs ys) (here is) rest
  listed false is rest = rest

-- DRAWN AGAIN

pub other_page : (t : Tables) (levels levels' : List ℕ) (p : ℕ) → (p == 0) ≡ false → page_of t levels p ≡ page_of t levels' p
other_page t levels levels' p other = rw other refl

module _ (t : Tables) (at : ℕ) (levels : List ℕ) (leveled : AreLevels t at levels) (more : at + 1 < 2 ^ 63) (old new : List Page) (old_count : length old ≡ page_count t.config) (new_count : length new ≡ page_count t.config) where
  -- all numbers are those of pages
  pub numbers_within : All (λ p. p < length levels) (differing old new)
  numbers_within = All-weaker (λ q. (0 ≤ q) × (q < 0 + length old)) (λ p. p < length levels) (λ q within. omega (arith, within.1, leveled.count)) (differing old new) (differing_within 0 old new)

  pub numbers_are_pages : 0 < page_count t.config → ArePages (page_count t.config) (differing old new)
  numbers_are_pages some = record {
    first = begins old new (omega arith) (omega arith);
    ascending = differing_increasing 0 old new;
    pages = All-weaker (λ q. (0 ≤ q) × (q < 0 + length old)) (λ p. p < page_count t.config) (λ q within. omega (arith, within.1)) (differing old new) (differing_within 0 old new);
  } where
    begins : (old new : List Page) → 0 < length old → 0 < length new → slice_get (differing old new) 0 ≡ Some 0
    begins [] new some some' = absurd (omega arith)
    begins (x ∷ xs) [] some some' = absurd (omega arith)
    begins (x ∷ xs) (y ∷ ys) some some' = refl

  -- one level more
  pub leveled_again : 0 < page_count t.config → AreLevels t (at + 1) (raised (differing old new) (at + 1) levels)
  leveled_again some = record {
    count = length-raised (differing old new) (at + 1) levels ∙ leveled.count;
    first = begins old new levels (omega arith) (omega arith) (omega (arith, leveled.count));
    each = All-raised (λ l. (1 ≤ l) × (l ≤ at + 1)) (differing old new) (at + 1) levels (omega arith, omega arith)
        (All-weaker (λ l. (1 ≤ l) × (l ≤ at)) (λ l. (1 ≤ l) × (l ≤ at + 1)) (λ l is. (is.0, omega (arith, is.1))) levels leveled.each);
    most = more;
  } where
    begins : (old new : List Page) (levels : List ℕ) → 0 < length old → 0 < length new → 0 < length levels → slice_get (raised (differing old new) (at + 1) levels) 0 ≡ Some (at + 1)
    begins [] new levels some some' some'' = absurd (omega arith)
    begins (x ∷ xs) [] levels some some' some'' = absurd (omega arith)
    begins (x ∷ xs) (y ∷ ys) [] some some' some'' = absurd (omega arith)
    begins (x ∷ xs) (y ∷ ys) (l ∷ levels) some some' some'' = first_raised (differing_from 1 xs ys) (at + 1) ((at + 1) ∷ levels) refl

-- page 0 drawn with new levels
pub spelled_again : (t : Tables) (levels levels' : List ℕ) (pages : List Page) (first : Page) → Spell t levels pages → first.0 ≡ page_of t levels' 0 → Spell t levels' (slice_set pages 0 first)
spelled_again t levels levels' [] first spelled is = record { count = spelled.count; each = λ p lt. absurd (omega arith) }
spelled_again t levels levels' (x ∷ xs) first spelled is = record { count = spelled.count; each = each } where
  each : (p : ℕ) → p < length (first ∷ xs) → page_in (first ∷ xs) p ≡ page_of t levels' p
  each zero lt = is
  each (suc p) lt = spelled.each (suc p) lt ∙ other_page t levels levels' (suc p) (grind (arith, nat_tests))

-- all pages except those that differ read as before
pub covered_again : (old new : List Page) (first : Page) → length old ≡ length new → All (λ page. length page.0 ≡ page_bytes) old → All (λ page. length page.0 ≡ page_bytes) (slice_set new 0 first)
    → Covers (length old) (differing old new) (bytes_of old) (bytes_of (slice_set new 0 first))
covered_again [] new first same sized sized' p lt = absurd (omega arith)
covered_again (x ∷ xs) [] first same sized sized' p lt = absurd (omega arith)
covered_again (x ∷ xs) (y ∷ ys) first same sized sized' zero lt = inl (0, omega arith, refl)
covered_again (x ∷ xs) (y ∷ ys) first same sized sized' (suc p) lt =
    ⊎_elim inl
    (λ is. inr (page_joined (first ∷ ys) (suc p) sized' (omega arith) ∙ is ∙ sym (page_joined (x ∷ xs) (suc p) sized lt)))
    (shown (differing_covers 0 (x ∷ xs) (y ∷ ys) same (suc p) lt)) where
      shown : Contains (differing (x ∷ xs) (y ∷ ys)) (0 + suc p) ⊎ (page_in (y ∷ ys) (suc p) ≡ page_in (x ∷ xs) (suc p))
          → Contains (differing (x ∷ xs) (y ∷ ys)) (suc p) ⊎ (page_in (y ∷ ys) (suc p) ≡ page_in (x ∷ xs) (suc p))
      shown h = let e : 0 + suc p ≡ suc p = omega arith in rw e at h

-- only pages that differ are listed
pub only_again : (old new : List Page) (first : Page) → length old ≡ length new → All (λ page. length page.0 ≡ page_bytes) old → All (λ page. length page.0 ≡ page_bytes) (slice_set new 0 first)
    → NamesOnly (differing old new) (bytes_of old) (bytes_of (slice_set new 0 first))
only_again old new first same sized sized' = λ k d lt. named (get_or (differing old new) k d) (differing_only 0 old new k d lt) (differing_within 0 old new k d lt) where
  same_later : (ys : List Page) (q : ℕ) → page_in (slice_set ys 0 first) (suc q) ≡ page_in ys (suc q)
  same_later [] q = refl
  same_later (y ∷ ys) q = refl

  named : (n : ℕ) → IsListed 0 old new n → (0 ≤ n) × (n < 0 + length old) → (n ≡ 0) ⊎ (page_of_bytes n (bytes_of (slice_set new 0 first)) ≢ page_of_bytes n (bytes_of old))
  named zero is within = inl refl
  named (suc q) is within = ⊎_elim inl
      (λ differ. inr (λ e. differ (suc q) (omega arith)
      (sym (same_later new q) ∙ sym (page_joined (slice_set new 0 first) (suc q) sized' (omega (arith, length-set new 0 first, within.1, same))) ∙ e ∙ page_joined old (suc q) sized (omega (arith, within.1)))))
      is.1

-- what a redraw leaves
pub record Redrawn (t : Tables) (at : ℕ) (numbers levels : List ℕ) (old pages : List Page) : Type 0 where
  pub drawn : AreDrawn t at levels pages
  pub numbered : ArePages (length pages) numbers
  pub covered : Covers (length pages) numbers (bytes_of old) (bytes_of pages)
  pub exact : NamesOnly numbers (bytes_of old) (bytes_of pages)

pub redrawn : (t : Tables) (at : ℕ) (levels : List ℕ) → HasSpelling t → AreLevels t at levels → at + 1 < 2 ^ 63 → (old drawn : List Page) → length old ≡ page_count t.config
    → All (λ page. length page.0 ≡ page_bytes) old → Spell t levels drawn → All (λ page. length page.0 ≡ page_bytes) drawn
    → (numbers : List ℕ) → numbers ≡ differing old drawn → (levels' : List ℕ) → levels' ≡ raised numbers (at + 1) levels
    → (pages : List Page) (first : Page) → pages ≡ slice_set drawn 0 first → first.0 ≡ page_of t levels' 0 → length first.0 ≡ page_bytes
    → Redrawn t (at + 1) numbers levels' old pages
redrawn t at levels spelling leveled more old drawn count sized spelled sized' numbers listed levels' up pages first set is long =
    let levels_are : levels' ≡ raised (differing old drawn) (at + 1) levels = up ∙ ap (λ (ns : List ℕ). raised ns (at + 1) levels) listed in
    let some : 0 < page_count t.config = omega arith in
    let same : length old ≡ length drawn = omega (arith, spelled.count) in
    let many : length (slice_set drawn 0 first) ≡ page_count t.config = length-set drawn 0 first ∙ spelled.count in
    let all : All (λ page. length page.0 ≡ page_bytes) (slice_set drawn 0 first) = All-set (λ page. length page.0 ≡ page_bytes) drawn 0 first long sized' in
    let here : first.0 ≡ page_of t (raised (differing old drawn) (at + 1) levels) 0 = is ∙ ap (λ (ls : List ℕ). page_of t ls 0) levels_are in
    rw (set, listed, levels_are) (record {
      drawn = record {
        spelling = spelling;
        leveled = leveled_again t at levels leveled more old drawn count spelled.count some;
        spelled = spelled_again t levels (raised (differing old drawn) (at + 1) levels) drawn first spelled here;
        sized = all;
      };
      numbered = rw many (numbers_are_pages t at levels leveled more old drawn count spelled.count some);
      covered = λ p lt. covered_again old drawn first same sized all p (omega (arith, length-set drawn 0 first));
      exact = only_again old drawn first same sized all;
    })

-- drawn for the first time
pub blank_drawn : (config : Config) (routes : List Route) → IsConfig config → length routes ≤ routes_most → All IsRoute routes → (t : Tables) (levels : List ℕ) (pages : List Page) → EmptyHasSpelling → AreFirstLevels
    → t ≡ empty_tables config routes → levels ≡ first_levels (page_count config) → Spell t levels pages → All (λ page. length page.0 ≡ page_bytes) pages → AreDrawn t 1 levels pages
blank_drawn config routes is few ways t levels pages spelling leveled blank first spelled sized = record {
  spelling = rw blank (spelling config routes is few ways);
  leveled = rw (blank, first) (leveled config routes is);
  spelled = spelled;
  sized = sized;
}
