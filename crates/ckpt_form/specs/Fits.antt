-- A test of whether a copy in the log form is ready, so that a type can keep that it is.
use Rattle.std.proofs.Common.{◌≡◌, ⊎_elim, ℕ, zero, suc, ◌+◌, ◌*◌, ◌≤◌, ◌<◌, ◌==◌, ◌&&◌, nat_le, nat_lt, Bool, true, List, length, slice_index, refl, sym, subst, arith}
use Rattle.std.proofs.lemmas.Bool.Decides.{nat_tests}
use Rattle.std.proofs.lemmas.Bool.{and_parts, and_from, cases_lt, leb-true, le-leb}
use Rattle.mas_types.specs.Limits.{pages_least, pages_most}
use Rattle.change_log.specs.Logs.{slots, log_size}
use Rattle.change_log.specs.LogStates.{IsReady}
use Rattle.change_log.specs.LogRests.{IsKept}

-- the first k of these places are below a bound
abbrev pub all_below : ℕ → ℕ → List ℕ → Bool
all_below bound zero places = true
all_below bound (suc k) places = all_below bound k places && nat_lt (slice_index places k) bound

-- The number of pages is in range, the device has room for a log of them, each slot has a gate, and each page stands on
-- the device.
abbrev pub is_fit : ℕ → ℕ → List Bool → List ℕ → List ℕ → Bool
is_fit n size gates places next_places =
    nat_le pages_least n && nat_le n pages_most && nat_le (log_size n) size && (length gates == slots)
    && all_below (5 + 5 * n) n places && all_below (5 + 5 * n) n next_places

less : (a b : ℕ) → nat_lt a b ≡ true → a < b
less a b is = grind (arith, nat_tests)

is_less : (a b : ℕ) → a < b → nat_lt a b ≡ true
is_less a b lt = grind (arith, nat_tests)

equal : (a b : ℕ) → (a == b) ≡ true → a ≡ b
equal a b is = grind (arith, nat_tests)

is_equal : (a b : ℕ) → a ≡ b → (a == b) ≡ true
is_equal a b e = grind (arith, nat_tests)

each_below : (bound k : ℕ) (places : List ℕ) → all_below bound k places ≡ true → (p : ℕ) → p < k
    → slice_index places p < bound
each_below bound zero places all p lt = absurd (omega (arith, lt))
each_below bound (suc k) places all p lt =
    let parts = and_parts (all_below bound k places) (nat_lt (slice_index places k) bound) all in
    ⊎_elim (λ before. each_below bound k places parts.0 p before)
    (λ le. let e : k ≡ p = omega (arith, le, lt) in subst (λ (q : ℕ). slice_index places q < bound) e
    (less (slice_index places k) bound parts.1))
    (cases_lt p k)

all_from : (bound k : ℕ) (places : List ℕ) → ((p : ℕ) → p < k → slice_index places p < bound)
    → all_below bound k places ≡ true
all_from bound zero places each = refl
all_from bound (suc k) places each =
    and_from (all_below bound k places) (nat_lt (slice_index places k) bound)
    (all_from bound k places (λ p lt. each p (omega (arith, lt))))
    (is_less (slice_index places k) bound (each k (omega arith)))

pub fit_kept : (n size : ℕ) (gates : List Bool) (places next_places : List ℕ)
    → is_fit n size gates places next_places ≡ true → IsKept n size gates places next_places
fit_kept n size gates places next_places fit =
    let five = and_parts _ _ fit in
    let four = and_parts _ _ five.0 in
    let three = and_parts _ _ four.0 in
    let two = and_parts _ _ three.0 in
    let one = and_parts _ _ two.0 in
    record {
      ready = record {
        enough = leb-true pages_least n one.0;
        few = leb-true n pages_most one.1;
        large = leb-true
            (log_size n) size two.1;
      };
      four = equal (length gates) slots three.1;
      inside = each_below (5 + 5 * n) n places four.1;
      next_inside = each_below (5 + 5 * n) n next_places five.1;
    }

pub kept_fit : (n size : ℕ) (gates : List Bool) (places next_places : List ℕ) → IsKept n size gates places next_places
    → is_fit n size gates places next_places ≡ true
kept_fit n size gates places next_places kept =
    and_from _ _ (and_from _ _ (and_from _ _
    (and_from _ _ (and_from _ _ (le-leb pages_least n kept.ready.enough) (le-leb n pages_most kept.ready.few))
    (le-leb (log_size n) size kept.ready.large))
    (is_equal (length gates) slots kept.four)) (all_from (5 + 5 * n) n places kept.inside))
    (all_from (5 + 5 * n) n next_places kept.next_inside)

pub fit_stays : (n old new : ℕ) (gates : List Bool) (places next_places : List ℕ) → new ≡ old
    → is_fit n old gates places next_places ≡ true → is_fit n new gates places next_places ≡ true
fit_stays n old new gates places next_places same fit = subst
    (λ (size : ℕ). is_fit n size gates places next_places ≡ true) (sym same) fit

-- where a put is possible after a settle
pub some_room : 1 ≤ slots
some_room = omega arith
