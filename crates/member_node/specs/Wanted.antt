-- The pages that a member wants of the copies, by the levels that page 0 gives.
use Rattle.std.specs.Prelude.{◌≡◌, ℕ, ◌+◌, ◌≤◌, ◌<◌, nat_lt, Bool, false, if◌then◌else◌, List, [], ◌∷◌, ◌++◌, length, replicate, refl}
use Rattle.mas_types.specs.declared.ids.Page.{Page}
use Rattle.ckpt_copy.specs.Pages.{page_in}
use Rattle.ckpt_tables.specs.Pages.{page_in as page_of_list}
use Rattle.mas_complex.specs.Past.{HasNoted, age}

-- the numbers of the levels that exceed l, where the first of them has this number
abbrev pub exceeding : ℕ → ℕ → List ℕ → List ℕ
exceeding l n [] = []
exceeding l n (x ∷ xs) = (if nat_lt l x then n ∷ [] else []) ++ exceeding l (n + 1) xs

-- what a member of level l wants, where page 0 gives these levels: each other page of a greater level. Page 0 was read.
abbrev pub wanted : ℕ → List ℕ → List ℕ
wanted l [] = []
wanted l (first ∷ levels) = exceeding l 1 levels

-- one page where it is wanted
abbrev pub one_if : Bool → ℕ
one_if b = if b then 1 else 0

-- the level of a member's pages: 0 where it has read nothing yet
abbrev pub level_had : Bool → ℕ → ℕ
level_had fresh level = if fresh then 0 else level

-- each page but the first whose level, as these pages give it, isn't above l is one of a member's own pages
abbrev pub AreUnchanged : ℕ → ℕ → List Page → List ℕ → Type 0
AreUnchanged count l own was = (q : ℕ) → 1 ≤ q → q < count → age q was ≤ l → page_of_list own q ≡ page_in q was

-- what a member that has read knows of its pages, where content is told: they are those that it noted
abbrev pub HasHad : Type 0 → Bool → List (List Page) → ℕ → List Page → Type 0
HasHad tells fresh had m own = tells → fresh ≡ false → HasNoted had m own

-- EXAMPLES

-- a member that has read nothing wants each of 36 pages but the first
pub new_wants_all : length (wanted 0 (replicate 36 1)) ≡ 35
new_wants_all = refl

-- nothing changed since
pub nothing_wanted : wanted 1 (replicate 36 1) ≡ []
nothing_wanted = refl

-- the levels of 36 pages after a deck of two batches, which change the page of its job and that of its groups
abbrev after_deck : List ℕ
after_deck = 3 ∷ 1 ∷ 1 ∷ 3 ∷ replicate 31 1 ++ 3 ∷ []

pub deck_wants_two : wanted 1 after_deck ≡ 3 ∷ 35 ∷ []
deck_wants_two = refl

-- who wrote the second batch wants nothing
pub writer_wants_none : wanted 3 after_deck ≡ []
writer_wants_none = refl

-- Page 5 was changed by the batch of level 2, page 3 by those of levels 2 and 3, and page 4 by that of level 3. Who is
-- at level 1 wants all three, and page 3 once; who is at level 2 wants what the last batch changed, and no page of a
-- lower level.
abbrev after_three : List ℕ
after_three = 3 ∷ 1 ∷ 1 ∷ 3 ∷ 3 ∷ 2 ∷ 1 ∷ []

pub behind_by_two : wanted 1 after_three ≡ 3 ∷ 4 ∷ 5 ∷ []
behind_by_two = refl

pub behind_by_one : wanted 2 after_three ≡ 3 ∷ 4 ∷ []
behind_by_one = refl
