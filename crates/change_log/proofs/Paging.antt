-- Pages one after another, each of as many bytes, and blocks that are written one after another.
use Rattle.std.proofs.Common.{◌≡◌, ⊎_elim, inr, ℕ, zero, suc, ◌+◌, ◌*◌, ◌≤◌, ◌<◌, ◌==◌, ◌&&◌, nat_lt, Bool, true, false, List, [], ◌∷◌, ◌++◌, length, take, drop, get_or, length-append, length-drop, append_assoc, drop-cons, refl, sym, ◌∙◌, ap, subst, arith}
use Rattle.std.proofs.lemmas.List.{drop_at, drop-append-le, take-append-le, take_all, take_more, length-take-le}
use Rattle.std.proofs.lemmas.Bool.Decides.{nat_tests}
use Rattle.std.proofs.lemmas.Bool.{and_from, and_parts, eqb-true as equal, lt-ltb as not_less, ltb-true as less}
use Rattle.mas_types.specs.Limits.{page_bytes}
use Rattle.mas_types.specs.declared.ids.Page.{Page}
use Rattle.spool_plant.specs.View.{Disk, slice}
use Rattle.ckpt_copy.specs.Changes.{Spreads}
use Rattle.ckpt_copy.specs.Moments.{either_way}
use Rattle.ckpt_copy.specs.Pages.{bytes_of, page_in}
use Rattle.ckpt_copy.specs.Slices.{slice_apart}
use Rattle.ckpt_copy.proofs.Spreading.{bytes_of-push}
use Rattle.change_log.specs.Logs.{block}

bytes_parts : (i : ℕ) (pages : List Page) → bytes_of pages ≡ bytes_of (take i pages) ++ bytes_of (drop i pages)
bytes_parts zero pages = refl
bytes_parts (suc i) [] = refl
bytes_parts (suc i) (page ∷ pages) = ap (λ (l : List ℕ). page.0 ++ l) (bytes_parts i pages) ∙ sym (append_assoc page.0 (bytes_of (take i pages)) (bytes_of (drop i pages)))

page_of : (i : ℕ) (pages : List Page) (d : Page) → i < length pages → length (bytes_of (take i pages)) ≡ page_bytes * i → length (get_or pages i d).0 ≡ page_bytes
    → page_in i (bytes_of pages) ≡ (get_or pages i d).0
page_of i pages d lt before size =
    let page = get_or pages i d in
    ap (slice (page_bytes * i) page_bytes) (bytes_parts i pages)
    ∙ ap (take page_bytes) (drop_at (bytes_of (take i pages)) (bytes_of (drop i pages)) (page_bytes * i) before)
    ∙ ap (λ (l : List Page). take page_bytes (bytes_of l)) (drop-cons pages i d lt)
    ∙ take-append-le page_bytes page.0 (bytes_of (drop (suc i) pages)) (omega (arith, size))
    ∙ take_all page_bytes page.0 (omega (arith, size))

-- a page, as its bytes were taken
pub page_here : (i : ℕ) (pages : List Page) (d : Page) (bytes : List ℕ) → i < length pages → length (bytes_of (take i pages)) ≡ page_bytes * i
    → length bytes ≡ page_bytes → bytes ≡ (get_or pages i d).0 → bytes ≡ page_in i (bytes_of pages)
page_here i pages d bytes lt before size is = is ∙ sym (page_of i pages d lt before (ap length (sym is) ∙ size))

-- the bytes of the first i + 1 pages are as long as i + 1 pages
pub size_more : (i : ℕ) (pages : List Page) (d : Page) (bytes : List ℕ) → i < length pages → length (bytes_of (take i pages)) ≡ page_bytes * i
    → length bytes ≡ page_bytes → bytes ≡ (get_or pages i d).0 → length (bytes_of (take (i + 1) pages)) ≡ page_bytes * (i + 1)
size_more i pages d bytes lt before size is =
    let more = ap (λ (l : List Page). length (bytes_of l)) (take_more pages i d lt) in
    let push = ap (λ (l : List ℕ). length l) (bytes_of-push (take i pages) (get_or pages i d)) in
    let sum = length-append (bytes_of (take i pages)) (get_or pages i d).0 in
    let here = ap (λ (l : List ℕ). length l) is in
    omega (arith, more, push, sum, before, size, here)

-- the bytes of all pages are as long as so many pages
pub size_all : (i : ℕ) (pages : List Page) → length pages ≤ i → i ≤ length pages → length (bytes_of (take i pages)) ≡ page_bytes * i
    → length (bytes_of pages) ≡ page_bytes * length pages
size_all i pages all some size =
    let whole = ap (λ (l : List Page). length (bytes_of l)) (take_all i pages all) in
    omega (arith, whole, size, all, some)

-- the level of pages stands in the first of them
pub level_first : (pages : List Page) (d : Page) → 0 < length pages → length (get_or pages 0 d).0 ≡ page_bytes → slice 8 8 (bytes_of pages) ≡ slice 8 8 (get_or pages 0 d).0
level_first [] d lt size = absurd (omega (arith, lt))
level_first (page ∷ pages) d lt size =
    ap (take 8) (drop-append-le 8 page.0 (bytes_of pages) (omega (arith, size)))
    ∙ take-append-le 8 (drop 8 page.0) (bytes_of pages) (let rest = length-drop 8 page.0 in omega (arith, size, rest))

-- blocks from one on, written one after another
pub blocks_put : (first count at : ℕ) (F : ℕ → List ℕ) (bytes : List ℕ) (old new : Disk) → at ≡ page_bytes * (first + count) → length bytes ≡ page_bytes → bytes ≡ F count
    → Spreads at (length bytes) old new → slice at (length bytes) new.bytes ≡ bytes → ((k : ℕ) → k < count → block (first + k) old.bytes ≡ F k)
    → (k : ℕ) → k < count + 1 → block (first + k) new.bytes ≡ F k
blocks_put first count at F bytes old new place size is spreads put before k lt =
    ⊎_elim (λ le. let e : count ≡ k = omega (arith, le, lt) in subst (λ (m : ℕ). block (first + m) new.bytes ≡ F m) e now)
    (λ less. slice_apart (page_bytes * (first + k)) page_bytes (page_bytes * (first + count)) page_bytes old.bytes new.bytes there.differs (inr (omega (arith, less))) ∙ before k less)
    (either_way count k)
  where
    there : Spreads (page_bytes * (first + count)) page_bytes old new
    there = subst (λ (m : ℕ). Spreads m page_bytes old new) place (subst (λ (n : ℕ). Spreads at n old new) size spreads)

    now : block (first + count) new.bytes ≡ F count
    now = subst (λ (m : ℕ). slice m page_bytes new.bytes ≡ bytes) place (subst (λ (n : ℕ). slice at n new.bytes ≡ bytes) size put) ∙ is

-- the page is the next of those that changed
pub next_hit : (count many number i : ℕ) → (nat_lt count many && (number == i)) ≡ true → (count < many) × (number ≡ i)
next_hit count many number i is = let parts = and_parts (nat_lt count many) (number == i) is in (less count many parts.0, equal number i parts.1)

-- the page isn't the next of those that changed, so that one comes after it
pub next_miss : (count many number i : ℕ) → (nat_lt count many && (number == i)) ≡ false → count < many → i ≤ number → i + 1 ≤ number
next_miss count many number i is lt le = by_test (number == i) refl where
  by_test : (b : Bool) → (number == i) ≡ b → i + 1 ≤ number
  by_test true same = absurd (let all : (nat_lt count many && (number == i)) ≡ true = and_from (nat_lt count many) (number == i) (not_less count many lt) same in cc)
  by_test false other = grind (arith, nat_tests, other, le)

-- a stretch of a device that has room for it
pub slice_length : (at len : ℕ) (l : List ℕ) → at + len ≤ length l → length (slice at len l) ≡ len
slice_length at len l le = let rest = length-drop at l in length-take-le len (drop at l) (omega (arith, rest, le))
