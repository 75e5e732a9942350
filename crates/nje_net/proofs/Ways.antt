-- Ways through a net: one node further, how long they get, and that there is only one.
use Rattle.std.proofs.Common.{◌≡◌, ℕ, zero, suc, ◌+◌, ◌-◌, ◌<◌, ◌≤◌, ◌⊎◌, inl, inr, Bool, true, false, ◌==◌, List, [], ◌∷◌, ◌++◌, length, length-append, Some, slice_get, refl, ap, sym, ◌∙◌, subst, arith, append_assoc, append-nil}
use Rattle.std.specs.Prelude.{Result, Ok, Err, IfOk, IfErr}
use Rattle.std.specs.List.{AllByRecursion, list_any, list_all, remove}
use Rattle.std.proofs.lemmas.Bool.Decides.{nat_tests}
use Rattle.mas_types.specs.declared.ids.Name8.{Name8}
use Rattle.mas_types.specs.declared.queues.Route.{Route}
use Rattle.mas_types.specs.Fit.{AreDistinct}
use Rattle.mas_types.specs.Ids.{same_name}
use Rattle.mas_types.specs.Lists.{without_first}
use Rattle.nje_net.specs.declared.nets.End.{End}
use Rattle.nje_net.specs.declared.nets.Net.{Net}
use Rattle.nje_net.specs.declared.paths.PathNo.{PathNo}
use Rattle.nje_net.specs.declared.paths.PathNo.TheVariants as why
use Rattle.nje_net.specs.Nets.{node_at, is_node, is_line, is_net, is_none, end_in, end_at, is_led, has_route}
use Rattle.nje_net.specs.Paths.{is_named, leads_on, route_line, next_node, is_number, was_passed, from_first, IsWay, same_node, ComesTo, IsPath, IsLoop, IsEnd, WhyNoPath, IsUnlessMemory}
use Rattle.nje_net.proofs.Tests.{test_cases, and_left, and_right, both_ways, neither, not_true, same_number, turned_round}
use Rattle.nje_net.proofs.Joined.{node_inside, routes_led, other_end}

-- ONE NODE FURTHER

pub way_push : (net : Net) (to : Name8) (from : ℕ) (passed : List ℕ) (n : ℕ) → IsWay net to from passed n → is_named net to n ≡ false → leads_on net to n ≡ true
    → IsWay net to from (passed ++ n ∷ []) (next_node net to n)
way_push net to from [] n way named leads = (way, (named, (leads, refl)))
way_push net to from (m ∷ passed) n way named leads =
    (way.0, (way.1.0, (way.1.1.0, way_push net to (next_node net to m) passed n way.1.1.1 named leads)))

any_push : (p : ℕ → Bool) (xs : List ℕ) (n : ℕ) → list_any p xs ≡ false → p n ≡ false → list_any p (xs ++ n ∷ []) ≡ false
any_push p [] n h k = rw k refl
any_push p (x ∷ xs) n h k = let parts = neither (p x) (list_any p xs) h in rw parts.0 (any_push p xs n parts.1 k)

pub distinct_push : (xs : List ℕ) (n : ℕ) → AreDistinct same_node xs → was_passed xs n ≡ false → AreDistinct same_node (xs ++ n ∷ [])
distinct_push [] n h new = (refl, tt)
distinct_push (x ∷ xs) n h new =
    let parts = neither (is_number n x) (was_passed xs n) new in
    (any_push (same_node x) xs n h.0 (turned_round x n parts.0), distinct_push xs n h.1 parts.1)

-- a route leads to a node
led_on : (ends : List End) (routes : List Route) (to : Name8) → list_all (is_led ends) routes ≡ true → has_route routes to ≡ true
    → is_none (end_in ends (route_line routes to)) ≡ false
led_on ends [] to all has = absurd (cc)
led_on ends (r ∷ routes) to all has =
    test_cases (same_name r.name to) (is_none (end_in ends (route_line (r ∷ routes) to)) ≡ false)
    (λ e.
    let here : is_led ends r ≡ true = and_left (is_led ends r) (list_all (is_led ends) routes) all in
    rw e (not_true (is_none (end_in ends r.line)) (and_right (is_line r.line) _ here)))
    (λ e.
    let later : has_route routes to ≡ true = rw e at has in
    rw e (led_on ends routes to (and_right (is_led ends r) (list_all (is_led ends) routes) all) later))

pub next_is_node : (net : Net) → is_net net ≡ true → (to : Name8) (n : ℕ) → is_node net n ≡ true → leads_on net to n ≡ true → is_node net (next_node net to n) ≡ true
next_is_node net ok to n there leads =
    let some : is_none (end_at net n (route_line (node_at net n).routes to)) ≡ false =
    led_on (node_at net n).ends (node_at net n).routes to (routes_led net ok n there) leads in
    (other_end net ok n (route_line (node_at net n).routes to) some).node

-- HOW LONG A WAY GETS

abbrev AreNodes : Net → List ℕ → Type 0
AreNodes net xs = AllByRecursion (λ m. is_node net m ≡ true) xs

numbers : ℕ → List ℕ
numbers zero = []
numbers (suc k) = suc k ∷ numbers k

numbers_length : (k : ℕ) → length (numbers k) ≡ k
unfolding numbers
numbers_length zero = refl
numbers_length (suc k) = ap suc (numbers_length k)

in_numbers : (k m : ℕ) → 1 ≤ m → m ≤ k → list_any (is_number m) (numbers k) ≡ true
unfolding numbers
in_numbers zero m low high = let no : ⊥ = omega arith in absurd no
in_numbers (suc k) m low high =
    test_cases (suc k == m) (list_any (is_number m) (numbers (suc k)) ≡ true)
    (λ e. rw e refl)
    (λ e.
    let below : m ≤ k = grind (arith, nat_tests) in
    rw e (in_numbers k m low below))

still_in : (x y : ℕ) → (y == x) ≡ false → (all : List ℕ) → list_any (is_number y) all ≡ true → list_any (is_number y) (without_first (is_number x) all) ≡ true
still_in x y apart [] h = absurd (cc)
still_in x y apart (a ∷ all) h =
    test_cases (a == x) (list_any (is_number y) (without_first (is_number x) (a ∷ all)) ≡ true)
    (λ e.
    let same : a ≡ x = same_number a x e in
    let off : (a == y) ≡ false = rw same (turned_round y x apart) in
    rw e (rw off at h))
    (λ e.
    test_cases (a == y) (list_any (is_number y) (without_first (is_number x) (a ∷ all)) ≡ true)
    (λ k. rw (e, k) refl)
    (λ k. rw (e, k) (still_in x y apart all (rw k at h))))

one_less : (x : ℕ) (all : List ℕ) → list_any (is_number x) all ≡ true → length (without_first (is_number x) all) + 1 ≡ length all
one_less x [] h = absurd (cc)
one_less x (a ∷ all) h =
    test_cases (a == x) (length (without_first (is_number x) (a ∷ all)) + 1 ≡ length (a ∷ all))
    (λ e. rw e (omega arith))
    (λ e. let rest = one_less x all (rw e at h) in rw e (omega arith))

all_still : (x : ℕ) (xs all : List ℕ) → list_any (same_node x) xs ≡ false → AllByRecursion (λ y. list_any (is_number y) all ≡ true) xs
    → AllByRecursion (λ y. list_any (is_number y) (without_first (is_number x) all) ≡ true) xs
all_still x [] all new h = tt
all_still x (y ∷ xs) all new h =
    let parts = neither (y == x) (list_any (same_node x) xs) new in
    (still_in x y parts.0 all h.0, all_still x xs all parts.1 h.1)

-- different numbers of a list are no more than the list has
no_more : (xs all : List ℕ) → AreDistinct same_node xs → AllByRecursion (λ y. list_any (is_number y) all ≡ true) xs → length xs ≤ length all
no_more [] all different h = omega arith
no_more (x ∷ xs) all different h =
    let rest = no_more xs (without_first (is_number x) all) different.1 (all_still x xs all different.0 h.1) in
    let less = one_less x all h.0 in
    omega arith

pub few_passed : (net : Net) (passed : List ℕ) → AreDistinct same_node passed → AllByRecursion (λ m. is_node net m ≡ true) passed → length passed ≤ length net.nodes
few_passed net passed different nodes =
    let most = no_more passed (numbers (length net.nodes)) different (counted passed nodes) in
    let long = numbers_length (length net.nodes) in
    omega arith
  where
    counted : (xs : List ℕ) → AllByRecursion (λ m. is_node net m ≡ true) xs → AllByRecursion (λ y. list_any (is_number y) (numbers (length net.nodes)) ≡ true) xs
    counted [] all = tt
    counted (x ∷ xs) all = let inside = node_inside net x all.0 in (in_numbers (length net.nodes) x inside.0 inside.1, counted xs all.1)

-- the measure of the walk falls
pub walk_falls : (net : Net) (passed : List ℕ) (n : ℕ) → length passed ≤ length net.nodes → (length net.nodes + 1) - length (passed ++ n ∷ []) < (length net.nodes + 1) - length passed
walk_falls net passed n few = let long = length-append passed (n ∷ []) in omega arith

-- ONLY ONE WAY

-- the way ends where it comes to the name, to a node that was passed, or to one without a route
abbrev pub IsFinal : Net → Name8 → List ℕ → ℕ → Type 0
IsFinal net to passed n = (is_named net to n ≡ true) ⊎ ((was_passed passed n ≡ true) ⊎ (leads_on net to n ≡ false))

any_at : (p : ℕ → Bool) (pre : List ℕ) (y : ℕ) (rest : List ℕ) → list_any p (pre ++ y ∷ rest) ≡ false → p y ≡ false
any_at p [] y rest h = (neither (p y) (list_any p rest) h).0
any_at p (x ∷ pre) y rest h = any_at p pre y rest (neither (p x) (list_any p (pre ++ y ∷ rest)) h).1

not_before : (pre : List ℕ) (y : ℕ) (rest : List ℕ) → AreDistinct same_node (pre ++ y ∷ rest) → was_passed pre y ≡ false
not_before [] y rest h = refl
not_before (z ∷ pre) y rest h =
    let apart : (z == y) ≡ false = turned_round y z (any_at (same_node z) pre y rest h.0) in
    rw apart (not_before pre y rest h.1)

-- a way that ends at a node doesn't go on from it
no_further : (net : Net) (to : Name8) (pre : List ℕ) (n y : ℕ) (rest : List ℕ) → n ≡ y → is_named net to y ≡ false → leads_on net to y ≡ true
    → AreDistinct same_node (pre ++ y ∷ rest) → IsFinal net to (pre ++ []) n → ⊥
no_further net to pre n y rest same named leads different (inl is) = both_ways (is_named net to y) (subst (λ (m : ℕ). is_named net to m ≡ true) same is) named
no_further net to pre n y rest same named leads different (inr (inl before)) =
    both_ways (was_passed pre y)
    (subst (λ (m : ℕ). was_passed pre m ≡ true) same (subst (λ (xs : List ℕ). was_passed xs n ≡ true) (append-nil pre) before))
    (not_before pre y rest different)
no_further net to pre n y rest same named leads different (inr (inr stuck)) = both_ways (leads_on net to y) leads (subst (λ (m : ℕ). leads_on net to m ≡ false) same stuck)

same_way_from : (net : Net) (to : Name8) (pre : List ℕ) (from : ℕ) (p q : List ℕ) (n m : ℕ) → IsWay net to from p n → IsWay net to from q m
    → AreDistinct same_node (pre ++ p) → AreDistinct same_node (pre ++ q) → IsFinal net to (pre ++ p) n → IsFinal net to (pre ++ q) m → (p ≡ q) × (n ≡ m)
same_way_from net to pre from [] [] n m way other d e f g = (refl, way ∙ sym other)
same_way_from net to pre from [] (y ∷ q) n m way other d e f g =
    absurd (no_further net to pre n y q (way ∙ sym other.0) other.1.0 other.1.1.0 e f)
same_way_from net to pre from (x ∷ p) [] n m way other d e f g =
    absurd (no_further net to pre m x p (other ∙ sym way.0) way.1.0 way.1.1.0 d g)
same_way_from net to pre from (x ∷ p) (y ∷ q) n m way other d e f g =
    let same : y ≡ x = other.0 ∙ sym way.0 in
    let on : IsWay net to (next_node net to x) q m = subst (λ (z : ℕ). IsWay net to (next_node net to z) q m) same other.1.1.1 in
    let e' : AreDistinct same_node (pre ++ x ∷ q) = subst (λ (z : ℕ). AreDistinct same_node (pre ++ z ∷ q)) same e in
    let g' : IsFinal net to (pre ++ x ∷ q) m = subst (λ (z : ℕ). IsFinal net to (pre ++ z ∷ q) m) same g in
    let long : (zs : List ℕ) → pre ++ x ∷ zs ≡ (pre ++ x ∷ []) ++ zs = λ zs. sym (append_assoc pre (x ∷ []) zs) in
    let rest =
    same_way_from net to (pre ++ x ∷ []) (next_node net to x) p q n m way.1.1.1 on
    (subst (AreDistinct same_node) (long p) d) (subst (AreDistinct same_node) (long q) e')
    (subst (λ (zs : List ℕ). IsFinal net to zs n) (long p) f) (subst (λ (zs : List ℕ). IsFinal net to zs m) (long q) g') in
    (ap (λ (zs : List ℕ). x ∷ zs) rest.0 ∙ ap (λ (z : ℕ). z ∷ q) (sym same), rest.1)

same_way : (net : Net) (to : Name8) (from : ℕ) (p q : List ℕ) (n m : ℕ) → ComesTo net to from p n → ComesTo net to from q m → IsFinal net to p n → IsFinal net to q m
    → (p ≡ q) × (n ≡ m)
same_way net to from p q n m one other f g = same_way_from net to [] from p q n m one.way other.way one.different other.different f g

-- what was passed doesn't have the name
pub passed_unnamed : (net : Net) (to : Name8) (from : ℕ) (passed : List ℕ) (n m : ℕ) → IsWay net to from passed n → was_passed passed m ≡ true → is_named net to m ≡ false
passed_unnamed net to from [] n m way before = absurd (cc)
passed_unnamed net to from (x ∷ passed) n m way before =
    test_cases (x == m) (is_named net to m ≡ false)
    (λ e. subst (λ (z : ℕ). is_named net to z ≡ false) (same_number x m e) way.1.0)
    (λ e. passed_unnamed net to (next_node net to x) passed n m way.1.1.1 (rw e at before))

-- WHAT A FINAL WAY ANSWERS

module _ (net : Net) (to : Name8) (from : ℕ) (passed : List ℕ) (n : ℕ) (comes : ComesTo net to from passed n) (final : IsFinal net to passed n) where
  pub path_is : (nodes : List ℕ) → IsPath net to from nodes → (is_named net to n ≡ true) × (nodes ≡ passed ++ n ∷ [])
  path_is nodes path =
      let q : List ℕ = path.0 in
      let m : ℕ = path.1.0 in
      let named : is_named net to m ≡ true = path.1.1.1.0 in
      let same = same_way net to from passed q n m comes path.1.1.0 final (inl named) in (
        subst (λ (z : ℕ). is_named net to z ≡ true) (sym same.1) named,
        path.1.1.1.1 ∙ (ap (λ (zs : List ℕ). zs ++ m ∷ []) (sym same.0) ∙ ap (λ (z : ℕ). passed ++ z ∷ []) (sym same.1)),
      )

  pub loop_is : (nodes : List ℕ) → IsLoop net to from nodes → (was_passed passed n ≡ true) × (nodes ≡ from_first n passed)
  loop_is nodes looped =
      let q : List ℕ = looped.0 in
      let m : ℕ = looped.1.0 in
      let before : was_passed q m ≡ true = looped.1.1.1.0 in
      let same = same_way net to from passed q n m comes looped.1.1.0 final (inr (inl before)) in (
        subst (λ (zs : List ℕ). was_passed zs n ≡ true) (sym same.0) (subst (λ (z : ℕ). was_passed q z ≡ true) (sym same.1) before),
        looped.1.1.1.1 ∙ (ap (λ (zs : List ℕ). from_first m zs) (sym same.0) ∙ ap (λ (z : ℕ). from_first z passed) (sym same.1)),
      )

  pub end_is_here : (m : ℕ) → IsEnd net to from m → (m ≡ n) × ((is_named net to n ≡ false) × (was_passed passed n ≡ false))
  end_is_here m end =
      let q : List ℕ = end.0 in
      let same = same_way net to from passed q n m comes end.1.0 final (inr (inr end.1.1.1.1)) in (
        sym same.1,
        (
          subst (λ (z : ℕ). is_named net to z ≡ false) (sym same.1) end.1.1.0,
          subst (λ (zs : List ℕ). was_passed zs n ≡ false) (sym same.0) (subst (λ (z : ℕ). was_passed q z ≡ false) (sym same.1) end.1.1.1.0),
        ),
      )

-- THE LOOP IN WHAT WAS PASSED

pub first_gone : (n : ℕ) (xs : List ℕ) (x : ℕ) → slice_get xs 0 ≡ Some x → (x == n) ≡ false → from_first n (remove xs 0) ≡ from_first n xs
first_gone n [] x h apart = absurd (cc)
first_gone n (y ∷ xs) x h apart = let same : y ≡ x = cc in rw (same, apart) refl

pub first_here : (n : ℕ) (xs : List ℕ) (x : ℕ) → slice_get xs 0 ≡ Some x → (x == n) ≡ true → from_first n xs ≡ xs
first_here n [] x h is = absurd (cc)
first_here n (y ∷ xs) x h is = let same : y ≡ x = cc in rw (same, is) refl

pub first_of_none : (n : ℕ) (xs : List ℕ) → length xs ≡ 0 → from_first n xs ≡ xs
first_of_none n [] h = refl
first_of_none n (x ∷ xs) h = let no : ⊥ = omega arith in absurd no

-- AN ANSWER IS THE ONLY ONE

module _ (net : Net) (to : Name8) (from : ℕ) where
  pub only_path : (r : Result (List ℕ) PathNo) → IfOk r (IsPath net to from) → IfErr r (WhyNoPath net to from)
      → (nodes : List ℕ) → IsPath net to from nodes → IsUnlessMemory (Ok nodes) r
  only_path (Ok ns) found none nodes path =
      let named : is_named net to found.1.0 ≡ true = found.1.1.1.0 in
      let is = path_is net to from found.0 found.1.0 found.1.1.0 (inl named) nodes path in
      inl (ap (λ (zs : List ℕ). Ok zs) (found.1.1.1.1 ∙ sym is.1))
  only_path (Err (why.Loop ns)) found none nodes path =
      let before : was_passed none.0 none.1.0 ≡ true = none.1.1.1.0 in
      let comes : ComesTo net to from none.0 none.1.0 = none.1.1.0 in
      let is = path_is net to from none.0 none.1.0 comes (inr (inl before)) nodes path in
      both_ways (is_named net to none.1.0) is.0 (passed_unnamed net to from none.0 none.1.0 none.1.0 comes.way before)
  only_path (Err (why.NoRoute n)) found none nodes path =
      let is = path_is net to from none.0 n none.1.0 (inr (inr none.1.1.1.1)) nodes path in
      both_ways (is_named net to n) is.0 none.1.1.0
  only_path (Err why.NoMemory) found none nodes path = inr refl

  pub only_loop : (r : Result (List ℕ) PathNo) → IfOk r (IsPath net to from) → IfErr r (WhyNoPath net to from)
      → (nodes : List ℕ) → IsLoop net to from nodes → IsUnlessMemory (Err (why.Loop nodes)) r
  only_loop (Ok ns) found none nodes looped =
      let named : is_named net to found.1.0 ≡ true = found.1.1.1.0 in
      let comes : ComesTo net to from found.0 found.1.0 = found.1.1.0 in
      let is = loop_is net to from found.0 found.1.0 comes (inl named) nodes looped in
      both_ways (is_named net to found.1.0) named (passed_unnamed net to from found.0 found.1.0 found.1.0 comes.way is.0)
  only_loop (Err (why.Loop ns)) found none nodes looped =
      let before : was_passed none.0 none.1.0 ≡ true = none.1.1.1.0 in
      let is = loop_is net to from none.0 none.1.0 none.1.1.0 (inr (inl before)) nodes looped in
      inl (ap (λ (zs : List ℕ). Err (why.Loop zs)) (none.1.1.1.1 ∙ sym is.1))
  only_loop (Err (why.NoRoute n)) found none nodes looped =
      let is = loop_is net to from none.0 n none.1.0 (inr (inr none.1.1.1.1)) nodes looped in
      both_ways (was_passed none.0 n) is.0 none.1.1.1.0
  only_loop (Err why.NoMemory) found none nodes looped = inr refl

  pub only_end : (r : Result (List ℕ) PathNo) → IfOk r (IsPath net to from) → IfErr r (WhyNoPath net to from)
      → (m : ℕ) → IsEnd net to from m → IsUnlessMemory (Err (why.NoRoute m)) r
  only_end (Ok ns) found none m end =
      let named : is_named net to found.1.0 ≡ true = found.1.1.1.0 in
      let is = end_is_here net to from found.0 found.1.0 found.1.1.0 (inl named) m end in
      both_ways (is_named net to found.1.0) named is.1.0
  only_end (Err (why.Loop ns)) found none m end =
      let before : was_passed none.0 none.1.0 ≡ true = none.1.1.1.0 in
      let is = end_is_here net to from none.0 none.1.0 none.1.1.0 (inr (inl before)) m end in
      both_ways (was_passed none.0 none.1.0) before is.1.1
  only_end (Err (why.NoRoute n)) found none m end =
      let is = end_is_here net to from none.0 n none.1.0 (inr (inr none.1.1.1.1)) m end in
      inl (ap (λ (k : ℕ). Err (why.NoRoute k)) (sym is.0))
  only_end (Err why.NoMemory) found none m end = inr refl
