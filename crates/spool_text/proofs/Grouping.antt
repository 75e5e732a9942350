-- Which lines stand in which group, line by line.
use Rattle.std.proofs.Common.{◌≡◌, ℕ, zero, suc, ◌+◌, ◌<◌, ◌≤◌, List, [], ◌∷◌, length, refl, ap, ◌∙◌, arith}
use Rattle.std.specs.Prelude.{nat_le}
use Rattle.std.specs.List.{flat_map}
use Rattle.std.proofs.lemmas.Bool.{le-leb, lt-leb}
use Rattle.mas_types.specs.Limits.{page_bytes}
use Rattle.mas_types.specs.Owners.{groups_after}
use Rattle.spool_text.specs.Texts.{with_line, grouped_after, grouped, lines_in}
use Rattle.spool_text.proofs.Lists.{test_cases}

-- A LINE THAT FITS THE PRESENT GROUP, AND ONE THAT DOESN'T

pub groups_after-fits : (used : ℕ) (line : List ℕ) (lines : List (List ℕ)) → used + length line + 2 ≤ page_bytes → groups_after used (line ∷ lines) ≡ groups_after (used + length line + 1) lines
groups_after-fits used line lines h = rw (le-leb (used + length line + 2) page_bytes h) refl

pub groups_after-over : (used : ℕ) (line : List ℕ) (lines : List (List ℕ)) → page_bytes < used + length line + 2 → groups_after used (line ∷ lines) ≡ 1 + groups_after (length line + 1) lines
groups_after-over used line lines h = rw (lt-leb (used + length line + 2) page_bytes h) refl

pub grouped_after-fits : (used : ℕ) (line : List ℕ) (lines : List (List ℕ)) → used + length line + 2 ≤ page_bytes → grouped_after used (line ∷ lines) ≡ with_line line (grouped_after (used + length line + 1) lines)
grouped_after-fits used line lines h = rw (le-leb (used + length line + 2) page_bytes h) refl

pub grouped_after-over : (used : ℕ) (line : List ℕ) (lines : List (List ℕ)) → page_bytes < used + length line + 2 → grouped_after used (line ∷ lines) ≡ [] ∷ with_line line (grouped_after (length line + 1) lines)
grouped_after-over used line lines h = rw (lt-leb (used + length line + 2) page_bytes h) refl

-- a line that begins a text
pub grouped-first : (line : List ℕ) (lines : List (List ℕ)) → length line ≤ 132 → grouped (line ∷ lines) ≡ with_line line (grouped_after (length line + 1) lines)
grouped-first line lines short =
    let same : 0 + length line + 1 ≡ length line + 1 = omega arith in
    rw (grouped_after-fits 0 line lines (omega arith), same) refl

-- THE LINES OF A GROUP

pub lines_in-first : (line : List ℕ) (groups : List (List (List ℕ))) → lines_in 0 (with_line line groups) ≡ line ∷ lines_in 0 groups
lines_in-first line [] = refl
lines_in-first line (group ∷ groups) = refl

pub lines_in-later : (line : List ℕ) (groups : List (List (List ℕ))) (k : ℕ) → lines_in (suc k) (with_line line groups) ≡ lines_in (suc k) groups
lines_in-later line [] k = refl
lines_in-later line (group ∷ groups) k = refl

-- the present group, and one that so many are before
pub now-fits : (used : ℕ) (line : List ℕ) (lines : List (List ℕ)) → used + length line + 2 ≤ page_bytes → lines_in 0 (grouped_after used (line ∷ lines)) ≡ line ∷ lines_in 0 (grouped_after (used + length line + 1) lines)
now-fits used line lines fits = rw (grouped_after-fits used line lines fits) (lines_in-first line (grouped_after (used + length line + 1) lines))

pub now-over : (used : ℕ) (line : List ℕ) (lines : List (List ℕ)) → page_bytes < used + length line + 2 → lines_in 0 (grouped_after used (line ∷ lines)) ≡ []
now-over used line lines over = rw (grouped_after-over used line lines over) refl

pub later-fits : (k used : ℕ) (line : List ℕ) (lines : List (List ℕ)) → 1 ≤ k → used + length line + 2 ≤ page_bytes → lines_in k (grouped_after used (line ∷ lines)) ≡ lines_in k (grouped_after (used + length line + 1) lines)
later-fits zero used line lines more fits = absurd (omega arith)
later-fits (suc k) used line lines more fits = rw (grouped_after-fits used line lines fits) (lines_in-later line (grouped_after (used + length line + 1) lines) k)

pub later-over : (k used : ℕ) (line : List ℕ) (lines : List (List ℕ)) → 1 ≤ k → page_bytes < used + length line + 2 → lines_in (suc k) (grouped_after used (line ∷ lines)) ≡ lines_in k (grouped_after (length line + 1) lines)
later-over zero used line lines more over = absurd (omega arith)
later-over (suc k) used line lines more over = rw (grouped_after-over used line lines over) (lines_in-later line (grouped_after (length line + 1) lines) k)

pub next-over : (used : ℕ) (line : List ℕ) (lines : List (List ℕ)) → length line ≤ 132 → page_bytes < used + length line + 2 → lines_in 1 (grouped_after used (line ∷ lines)) ≡ lines_in 0 (grouped (line ∷ lines))
next-over used line lines short over = rw (grouped_after-over used line lines over, grouped-first line lines short) refl

-- HOW MANY GROUPS

pub some_groups : (used : ℕ) (lines : List (List ℕ)) → 1 ≤ groups_after used lines
some_groups used [] = omega arith
some_groups used (line ∷ lines) =
    test_cases (nat_le (used + length line + 2) page_bytes) (1 ≤ groups_after used (line ∷ lines))
    (λ e. rw e (some_groups (used + length line + 1) lines))
    (λ e. rw e (omega arith))

length-with_line : (line : List ℕ) (groups : List (List (List ℕ))) → 1 ≤ length groups → length (with_line line groups) ≡ length groups
length-with_line line [] h = absurd (omega arith)
length-with_line line (group ∷ groups) h = refl

pub length-grouped_after : (used : ℕ) (lines : List (List ℕ)) → length (grouped_after used lines) ≡ groups_after used lines
length-grouped_after used [] = refl
length-grouped_after used (line ∷ lines) =
    test_cases (nat_le (used + length line + 2) page_bytes) (length (grouped_after used (line ∷ lines)) ≡ groups_after used (line ∷ lines))
    (λ e. rw e (with_it (used + length line + 1) (length-grouped_after (used + length line + 1) lines)))
    (λ e. rw e (omega (arith, with_it (length line + 1) (length-grouped_after (length line + 1) lines))))
  where
    with_it : (here : ℕ) → length (grouped_after here lines) ≡ groups_after here lines → length (with_line line (grouped_after here lines)) ≡ groups_after here lines
    with_it here same = length-with_line line (grouped_after here lines) (rw same (some_groups here lines)) ∙ same

-- EACH LINE

flat_map-with_line : (line : List ℕ) (groups : List (List (List ℕ))) → flat_map (λ group. group) (with_line line groups) ≡ line ∷ flat_map (λ group. group) groups
flat_map-with_line line [] = refl
flat_map-with_line line (group ∷ groups) = refl

pub lines-grouped_after : (used : ℕ) (lines : List (List ℕ)) → flat_map (λ group. group) (grouped_after used lines) ≡ lines
lines-grouped_after used [] = refl
lines-grouped_after used (line ∷ lines) =
    test_cases (nat_le (used + length line + 2) page_bytes) (flat_map (λ group. group) (grouped_after used (line ∷ lines)) ≡ line ∷ lines)
    (λ e. rw e (with_it (used + length line + 1) (lines-grouped_after (used + length line + 1) lines)))
    (λ e. rw e (with_it (length line + 1) (lines-grouped_after (length line + 1) lines)))
  where
    with_it : (here : ℕ) → flat_map (λ group. group) (grouped_after here lines) ≡ lines → flat_map (λ group. group) (with_line line (grouped_after here lines)) ≡ line ∷ lines
    with_it here same = flat_map-with_line line (grouped_after here lines) ∙ ap (λ ls. line ∷ ls) same
