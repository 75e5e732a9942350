-- Whether a copy's pages fit those that were found.
use Rattle.mas_complex.specs.Names.{Page, Place, Before, bytes_of, level, level_in}
use Rattle.std.specs.Prelude.{ℕ, ◌+◌, ◌==◌, ◌&&◌, ◌||◌, nat_le, if◌then◌else◌, Bool, true, false, List, [], ◌∷◌, ◌++◌}
use Rattle.std.specs.Str.{bytes_eq}

-- two copies' pages are equal, page by page
abbrev pub are_same : List Page → List Page → Bool
are_same [] [] = true
are_same (x ∷ xs) (y ∷ ys) = bytes_eq x.0 y.0 && are_same xs ys
are_same _ _ = false

abbrev pub first_page : List Page → List ℕ
first_page [] = []
first_page (page ∷ pages) = page.0

-- each page from page p on is equal in both copies, or has this level, as page 0 gives it
abbrev pub differ_at : List ℕ → ℕ → ℕ → List Page → List Page → Bool
differ_at page0 reached p [] [] = true
differ_at page0 reached p (x ∷ xs) (y ∷ ys) = (bytes_eq x.0 y.0 || (level_in page0 p == reached)) && differ_at page0
    reached (p + 1) xs ys
differ_at page0 reached p _ _ = false

-- Another copy's pages fit those found: they are equal, or their level is one less, they differ only in pages of the
-- found level, and the copy has room for a put.
abbrev pub fits : List Page → List Page → ℕ → Bool
fits found other room =
    if level (bytes_of other) == level (bytes_of found) then are_same found other
    else (level (bytes_of other) + 1 == level (bytes_of found)) &&
    (nat_le 1 room && differ_at (first_page found) (level (bytes_of found)) 0 found other)

abbrev pub is_before : Place → Bool
is_before Before = true
is_before _ = false

-- A copy's pages stay beside the pages found: they fit, and where their level is the lower one, the copy is as before
-- the batch in flight.
abbrev pub can_stay : Place → ℕ → List Page → List Page → Bool
can_stay place room found other =
    if level (bytes_of other) == level (bytes_of found) then fits found other room else is_before place && fits found
    other room

-- page p is the first, or has this level, as page 0 gives it
abbrev pub is_found_at : List ℕ → ℕ → ℕ → Bool
is_found_at page0 reached p = (p == 0) || (level_in page0 p == reached)

-- from page p on, the numbers of the pages that are the first or have this level, as page 0 gives it
abbrev pub numbers_from : List ℕ → ℕ → ℕ → List Page → List ℕ
numbers_from page0 reached p [] = []
numbers_from page0 reached p (x ∷ xs) = (if is_found_at page0 reached p then p ∷ [] else [])
    ++ numbers_from page0 reached (p + 1) xs

-- the numbers of page 0 and of the pages that have the level of these pages
abbrev pub found_numbers : List Page → List ℕ
found_numbers found = numbers_from (first_page found) (level (bytes_of found)) 0 found
