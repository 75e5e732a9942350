-- What stands in the lines and with the nodes after one of them is written.
use Rattle.std.proofs.Common.{◌≡◌, ℕ, zero, suc, ◌≤◌, false, ◌&&◌, ◌==◌, List, [], length, refl, ap, sym, ◌∙◌, subst, arith}
use Rattle.nje_net.specs.declared.worlds.Held.{Held}
use Rattle.nje_net.specs.declared.worlds.NetLine.{NetLine}
use Rattle.nje_net.specs.Numbered.{item, change_item}
use Rattle.nje_net.specs.Worlds.{no_line, line_in, put_line, held_in}
use Rattle.nje_net.proofs.Tests.{test_cases, and_left, and_right, same_number}
use Rattle.nje_net.proofs.Items.{item_length, item_kept, item_other, item_same}

abbrev pub Lines : Type 0
Lines = List (List NetLine)

-- the line of the node is there
abbrev pub IsInside : Lines → ℕ → ℕ → Type 0
IsInside lines n l = (1 ≤ l) × (l ≤ length (item [] n lines))

none_changed : (l : ℕ) (x : NetLine) → change_item l (λ was. x) [] ≡ []
none_changed zero x = refl
none_changed (suc i) x = refl

-- the lines of the node that is written
its_lines : (n l : ℕ) (x : NetLine) (lines : Lines) → item [] n (put_line n l x lines) ≡ change_item l (λ was. x) (item [] n lines)
its_lines n l x lines = item_kept [] (change_item l (λ was. x)) n lines (none_changed l x)

pub line_same : (n l : ℕ) (x : NetLine) (lines : Lines) → IsInside lines n l → line_in (put_line n l x lines) n l ≡ x
line_same n l x lines inside =
    ap (λ (xs : List NetLine). item no_line l xs) (its_lines n l x lines)
    ∙ item_same no_line (λ was. x) l (item [] n lines) inside.0 inside.1

pub line_other : (n l : ℕ) (x : NetLine) (lines : Lines) (m k : ℕ) → ((m == n) && (k == l)) ≡ false → line_in (put_line n l x lines) m k ≡ line_in lines m k
line_other n l x lines m k apart =
    test_cases (m == n) (line_in (put_line n l x lines) m k ≡ line_in lines m k)
    (λ e.
    let other : (k == l) ≡ false = rw e at apart in
    subst (λ (j : ℕ). line_in (put_line n l x lines) j k ≡ line_in lines j k) (sym (same_number m n e))
    (ap (λ (xs : List NetLine). item no_line k xs) (its_lines n l x lines)
    ∙ item_other no_line (λ was. x) l k (item [] n lines) other))
    (λ e. ap (λ (xs : List NetLine). item no_line k xs) (item_other [] (change_item l (λ was. x)) n m lines e))

-- what holds of each line, where it holds of what is written and of the others
pub each_line : (P : ℕ → ℕ → NetLine → Type 0) (n l : ℕ) (x : NetLine) (lines : Lines) → IsInside lines n l → P n l x
    → ((m k : ℕ) → ((m == n) && (k == l)) ≡ false → P m k (line_in lines m k)) → (m k : ℕ) → P m k (line_in (put_line n l x lines) m k)
each_line P n l x lines inside new old m k =
    test_cases ((m == n) && (k == l)) (P m k (line_in (put_line n l x lines) m k))
    (λ e.
    subst (λ (i : ℕ). P i k (line_in (put_line n l x lines) i k)) (sym (same_number m n (and_left (m == n) (k == l) e)))
    (subst (λ (j : ℕ). P n j (line_in (put_line n l x lines) n j)) (sym (same_number k l (and_right (m == n) (k == l) e)))
    (subst (P n l) (sym (line_same n l x lines inside)) new)))
    (λ e. subst (P m k) (sym (line_other n l x lines m k e)) (old m k e))

-- a number of a line that the write leaves as it was
pub kept_in_lines : (f : NetLine → ℕ) (n l : ℕ) (x : NetLine) (lines : Lines) → IsInside lines n l → f x ≡ f (line_in lines n l)
    → (m k : ℕ) → f (line_in (put_line n l x lines) m k) ≡ f (line_in lines m k)
kept_in_lines f n l x lines inside same =
    each_line (λ m k y. f y ≡ f (line_in lines m k)) n l x lines inside same (λ m k apart. refl)

-- a line is there as before
pub inside_still : (n l : ℕ) (x : NetLine) (lines : Lines) (m k : ℕ) → IsInside lines m k → IsInside (put_line n l x lines) m k
inside_still n l x lines m k inside =
    test_cases (m == n) (IsInside (put_line n l x lines) m k)
    (λ e.
    let long : length (item [] n (put_line n l x lines)) ≡ length (item [] n lines) = ap length (its_lines n l x lines) ∙ item_length (λ was. x) l (item [] n lines) in
    let here : m ≡ n = same_number m n e in
    let moved : length (item [] m (put_line n l x lines)) ≡ length (item [] m lines) =
    subst (λ (j : ℕ). length (item [] j (put_line n l x lines)) ≡ length (item [] j lines)) (sym here) long in
    let low = inside.0 in
    let high = inside.1 in
    (low, omega arith))
    (λ e.
    let same : item [] m (put_line n l x lines) ≡ item [] m lines = item_other [] (change_item l (λ was. x)) n m lines e in
    rw same inside)

-- JOBS OF THE NODES

-- the jobs of each node, where those of one are changed
pub each_held : (P : ℕ → List Held → Type 0) (n : ℕ) (f : List Held → List Held) (held : List (List Held)) → f [] ≡ []
    → P n (f (held_in held n)) → ((m : ℕ) → (m == n) ≡ false → P m (held_in held m)) → (m : ℕ) → P m (held_in (change_item n f held) m)
each_held P n f held none new old m =
    test_cases (m == n) (P m (held_in (change_item n f held) m))
    (λ e.
    subst (λ (i : ℕ). P i (held_in (change_item n f held) i)) (sym (same_number m n e))
    (subst (P n) (sym (item_kept [] f n held none)) new))
    (λ e. subst (P m) (sym (item_other [] f n m held e)) (old m e))

-- the jobs of each node, where those of a node that is there are changed
pub each_held_inside : (P : ℕ → List Held → Type 0) (n : ℕ) (f : List Held → List Held) (held : List (List Held)) → 1 ≤ n → n ≤ length held
    → P n (f (held_in held n)) → ((m : ℕ) → (m == n) ≡ false → P m (held_in held m)) → (m : ℕ) → P m (held_in (change_item n f held) m)
each_held_inside P n f held low high new old m =
    test_cases (m == n) (P m (held_in (change_item n f held) m))
    (λ e.
    subst (λ (i : ℕ). P i (held_in (change_item n f held) i)) (sym (same_number m n e))
    (subst (P n) (sym (item_same [] f n held low high)) new))
    (λ e. subst (P m) (sym (item_other [] f n m held e)) (old m e))
