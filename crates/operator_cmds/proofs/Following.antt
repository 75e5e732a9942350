-- A text that follows a form, and where a text leaves one.
use Rattle.std.proofs.Common.{◌≡◌, ◌∙◌, sym, ap, subst, inl, inr, ℕ, zero, suc, ◌+◌, ◌*◌, ◌≤◌, ◌<◌, ◌⊎◌, Bool, true, false, not, nat_lt, ◌&&◌, ◌||◌, ◌==◌, if◌then◌else◌, lit≤, List, [], ◌∷◌, ◌++◌, length, take, drop, get_or, Option, Some, None, option_map, refl, append_assoc, arith}
use Rattle.std.specs.List.{concat}
use Rattle.std.proofs.lemmas.Bool.{eqb-true, eqb-false, eq-eqb, ltb-true, ne_eqb, and_parts, or_cases, or_left, or_right}
use Rattle.std.proofs.lemmas.List.{length-append, length-drop, take_at, drop_at, take-append-drop, drop_more}
use Rattle.std.proofs.lemmas.Slice.Eq.{bytes_eq-Decides}
use Rattle.mas_types.specs.Names.{is_name_byte}
use Rattle.operator_cmds.specs.declared.places.Place.{Place}
use Rattle.operator_cmds.specs.declared.places.Place.TheVariants as place
use Rattle.operator_cmds.specs.Places.{job_numbers, index_numbers, prio_numbers, line_numbers, mark_numbers, place_of, stands_in}
use Rattle.operator_cmds.specs.Walks.{may_begin, reach, stop, text_in}
use Rattle.operator_cmds.specs.Spellings.{AreParts, in_place}
use Rattle.operator_cmds.proofs.Reaching.{CanStand, IsSane, Ends, is_fixed, ends_place, ends_at, goes_as_far, reaches, reach-whole, reach-within, reach-short}

-- THE PLACES OF LETTERS

pub choose : (P : Place → Type 0) (b : Bool) (x y : Place) → P x → P y → P (if b then x else y)
choose P true x y p q = p
choose P false x y p q = q

-- what holds of each place holds of the place of a letter
pub at_place : (P : Place → Type 0) → P (place.Number job_numbers) → P (place.Number index_numbers) → P (place.Number prio_numbers) → P (place.Number line_numbers) → P (place.Number mark_numbers) → P place.Class → P place.Classes → P place.Name → P place.Member → ((b : ℕ) → P (place.Byte b)) → (l : ℕ) → P (place_of l)
at_place P j k p n m c s f x b l =
    choose P (l == 110) _ _ j (choose P (l == 107) _ _ k (choose P (l == 112) _ _ p (choose P (l == 108) _ _ n (choose P (l == 98) _ _ m (choose P (l == 99) _ _ c (choose P (l == 115) _ _ s (choose P (l == 102) _ _ f (choose P (l == 109) _ _ x (b l)))))))))

pub place_sane : (l : ℕ) → IsSane (place_of l)
place_sane = at_place IsSane (record { least = lit≤ tt; most = lit≤ tt; some = lit≤ tt; ten = lit≤ tt }) (record { least = lit≤ tt; most = lit≤ tt; some = lit≤ tt; ten = lit≤ tt }) (record { least = lit≤ tt; most = lit≤ tt; some = lit≤ tt; ten = lit≤ tt }) (record { least = lit≤ tt; most = lit≤ tt; some = lit≤ tt; ten = lit≤ tt }) (record { least = lit≤ tt; most = lit≤ tt; some = lit≤ tt; ten = lit≤ tt }) tt tt tt tt (λ b. tt)

-- each place has a text
pub place_some : (l : ℕ) → CanStand (place_of l) []
place_some = at_place (λ p. CanStand p []) (record { more = 49 ∷ []; stands = refl }) (record { more = 49 ∷ []; stands = refl }) (record { more = 49 ∷ []; stands = refl }) (record { more = 49 ∷ []; stands = refl }) (record { more = 49 ∷ []; stands = refl }) (record { more = 65 ∷ []; stands = refl }) (record { more = 65 ∷ []; stands = refl }) (record { more = 65 ∷ []; stands = refl }) (record { more = 65 ∷ []; stands = refl }) (λ b. record { more = b ∷ []; stands = (bytes_eq-Decides (b ∷ []) (b ∷ [])).1 refl })

-- a byte that is no small letter stands for itself
pub place_of-byte : (l : ℕ) → l < 97 → place_of l ≡ place.Byte l
place_of-byte l less =
    let n1 : (l == 110) ≡ false = ne_eqb l 110 (λ e. omega arith) in
    let n2 : (l == 107) ≡ false = ne_eqb l 107 (λ e. omega arith) in
    let n3 : (l == 112) ≡ false = ne_eqb l 112 (λ e. omega arith) in
    let n4 : (l == 108) ≡ false = ne_eqb l 108 (λ e. omega arith) in
    let n5 : (l == 98) ≡ false = ne_eqb l 98 (λ e. omega arith) in
    let n6 : (l == 99) ≡ false = ne_eqb l 99 (λ e. omega arith) in
    let n7 : (l == 115) ≡ false = ne_eqb l 115 (λ e. omega arith) in
    let n8 : (l == 102) ≡ false = ne_eqb l 102 (λ e. omega arith) in
    let n9 : (l == 109) ≡ false = ne_eqb l 109 (λ e. omega arith) in
    rw (n1, n2, n3, n4, n5, n6, n7, n8, n9) refl

-- FORMS WHOSE PARTS END CLEARLY

-- the first letter's texts are ended by the texts of the second
abbrev pub is_apart : ℕ → ℕ → Bool
is_apart l next = is_fixed (place_of l) || (nat_lt next 97 && not (is_name_byte next))

abbrev pub is_clear : List ℕ → Bool
is_clear [] = true
is_clear (l ∷ []) = true
is_clear (l ∷ next ∷ form) = is_apart l next && is_clear (next ∷ form)

clear_rest : (l : ℕ) (form : List ℕ) → is_clear (l ∷ form) ≡ true → is_clear form ≡ true
clear_rest l [] h = refl
clear_rest l (next ∷ form) h = (and_parts (is_apart l next) (is_clear (next ∷ form)) h).1

same_head : (x y : ℕ) (xs ys : List ℕ) → x ∷ xs ≡ y ∷ ys → x ≡ y
same_head x y xs ys e = cc

byte_head : (l b : ℕ) (part text rest : List ℕ) → l < 97 → stands_in (place_of l) part ≡ true → part ++ rest ≡ b ∷ text → b ≡ l
byte_head l b part text rest less h e =
    let stands : stands_in (place.Byte l) part ≡ true = ap (λ p. stands_in p part) (sym (place_of-byte l less)) ∙ h in
    let is : part ≡ l ∷ [] = (bytes_eq-Decides part (l ∷ [])).0 stands in
    let whole : l ∷ rest ≡ b ∷ text = ap (λ (x : List ℕ). x ++ rest) (sym is) ∙ e in
    sym (same_head l b rest text whole)

head_of : (d : List ℕ) (rest : List ℕ) → 1 ≤ length d → (b : ℕ) × (text : List ℕ) × (d ++ rest ≡ b ∷ text)
head_of [] rest some = absurd (omega arith)
head_of (b ∷ d) rest some = (b, d ++ rest, refl)

-- a byte that begins the parts of the rest of the form ends the first part
ends_first : (l : ℕ) (form : List ℕ) (part : List ℕ) (parts : List (List ℕ)) (b : ℕ) (text : List ℕ) → is_clear (l ∷ form) ≡ true → stands_in (place_of l) part ≡ true → AreParts form parts → concat parts ≡ b ∷ text → may_begin (place_of l) (part ++ b ∷ []) ≡ false
ends_first l [] part [] b text clear h are e = absurd (cc)
ends_first l [] part (q ∷ parts) b text clear h are e = absurd are
ends_first l (next ∷ form) part [] b text clear h are e = absurd are
ends_first l (next ∷ form) part (q ∷ parts) b text clear h are e =
    let apart = (and_parts (is_apart l next) (is_clear (next ∷ form)) clear).0 in
    ends_at (place_of l) part b h (by_cases (or_cases (is_fixed (place_of l)) (nat_lt next 97 && not (is_name_byte next)) apart))
  where
    by_cases : (is_fixed (place_of l) ≡ true) ⊎ ((nat_lt next 97 && not (is_name_byte next)) ≡ true) → ends_place (place_of l) b ≡ true
    by_cases (inl fixed) = or_left _ _ fixed
    by_cases (inr sign) =
        let both = and_parts (nat_lt next 97) (not (is_name_byte next)) sign in
        let same : b ≡ next = byte_head next b q text (concat parts) (ltb-true _ _ both.0) are.0 e in
        or_right _ _ (ap (λ c. not (is_name_byte c)) same ∙ both.1)

-- the first part is ended by what stands behind it
first_ends : (l : ℕ) (form : List ℕ) (part : List ℕ) (parts : List (List ℕ)) (y : List ℕ) → is_clear (l ∷ form) ≡ true → stands_in (place_of l) part ≡ true → AreParts form parts → concat parts ≡ y → Ends (place_of l) part y
first_ends l form part parts [] clear h are e = tt
first_ends l form part parts (b ∷ y) clear h are e = ends_first l form part parts b y clear h are e

-- the first part is reached
pub reach-first : (l : ℕ) (form : List ℕ) (part : List ℕ) (parts : List (List ℕ)) → is_clear (l ∷ form) ≡ true → stands_in (place_of l) part ≡ true → AreParts form parts → reach (place_of l) [] (part ++ concat parts) ≡ length part
reach-first l form part parts clear h are =
    reach-whole (place_of l) [] part (concat parts) h (first_ends l form part parts (concat parts) clear h are refl)

-- ONE STEP

stop-stands : (l : ℕ) (form text : List ℕ) (n : ℕ) → reach (place_of l) [] text ≡ n → stands_in (place_of l) (take n text) ≡ true → stop (l ∷ form) text ≡ option_map (λ m. n + m) (stop form (drop n text))
stop-stands l form text n e h = rw (e, h) refl

stop-leaves : (l : ℕ) (form text : List ℕ) (n : ℕ) → reach (place_of l) [] text ≡ n → stands_in (place_of l) (take n text) ≡ false → stop (l ∷ form) text ≡ Some n
stop-leaves l form text n e h = rw (e, h) refl

-- A TEXT THAT FOLLOWS THE FORM

pub stop-concat : (form : List ℕ) (parts : List (List ℕ)) → is_clear form ≡ true → AreParts form parts → stop form (concat parts) ≡ None
stop-concat [] [] clear are = refl
stop-concat [] (q ∷ parts) clear are = absurd are
stop-concat (l ∷ form) [] clear are = absurd are
stop-concat (l ∷ form) (q ∷ parts) clear are =
    let n = reach-first l form q parts clear are.0 are.1 in
    let front : take (length q) (q ++ concat parts) ≡ q = take_at q (concat parts) (length q) refl in
    let back : drop (length q) (q ++ concat parts) ≡ concat parts = drop_at q (concat parts) (length q) refl in
    let stands : stands_in (place_of l) (take (length q) (q ++ concat parts)) ≡ true = rw front are.0 in
    stop-stands l form (q ++ concat parts) (length q) n stands ∙ rw (back, stop-concat form parts (clear_rest l form clear) are.1) refl

pub text_in-concat : (form : List ℕ) (parts : List (List ℕ)) (letter : ℕ) → is_clear form ≡ true → AreParts form parts → text_in form (concat parts) letter ≡ in_place form parts letter
text_in-concat [] [] letter clear are = refl
text_in-concat [] (q ∷ parts) letter clear are = absurd are
text_in-concat (l ∷ form) [] letter clear are = absurd are
text_in-concat (l ∷ form) (q ∷ parts) letter clear are =
    let n : reach (place_of l) [] (q ++ concat parts) ≡ length q = reach-first l form q parts clear are.0 are.1 in
    let front : take (length q) (q ++ concat parts) ≡ q = take_at q (concat parts) (length q) refl in
    let back : drop (length q) (q ++ concat parts) ≡ concat parts = drop_at q (concat parts) (length q) refl in
    rw (n, front, back, text_in-concat form parts letter (clear_rest l form clear) are.1) refl

-- the parts of a text that doesn't leave the form
pub record Follows (form text : List ℕ) : Type 0 where
  pub parts : List (List ℕ)
  pub each : AreParts form parts
  pub whole : text ≡ concat parts

none_behind : (n : ℕ) (o : Option ℕ) → option_map (λ m. n + m) o ≡ None → o ≡ None
none_behind n None e = refl
none_behind n (Some m) e = absurd (cc)

some_behind : (n k : ℕ) (o : Option ℕ) → option_map (λ m. n + m) o ≡ Some k → (m : ℕ) × (o ≡ Some m) × (k ≡ n + m)
some_behind n k None e = absurd (cc)
some_behind n k (Some m) e = (m, refl, cc)

pub follows : (form text : List ℕ) → stop form text ≡ None → Follows form text
follows [] [] e = record { parts = []; each = tt; whole = refl }
follows [] (b ∷ text) e = absurd (cc)
follows (l ∷ form) text e = by_test (λ t next. follows form t next) (stands_in (place_of l) (take (reach (place_of l) [] text) text)) refl
  where
    by_test : ((t : List ℕ) → stop form t ≡ None → Follows form t) → (v : Bool) → stands_in (place_of l) (take (reach (place_of l) [] text) text) ≡ v → Follows (l ∷ form) text
    by_test go true h =
        let n = reach (place_of l) [] text in
        let next : stop form (drop n text) ≡ None = none_behind n (stop form (drop n text)) (sym (stop-stands l form text n refl h) ∙ e) in
        let rest = go (drop n text) next in
        record {
          parts = take n text ∷ rest.parts;
          each = (h, rest.each);
          whole = sym (take-append-drop n text) ∙ ap (λ (x : List ℕ). take n text ++ x) rest.whole;
        }
    by_test go false h = absurd (let there : stop (l ∷ form) text ≡ Some (reach (place_of l) [] text) = stop-leaves l form text _ refl h in cc)

-- WHERE A TEXT LEAVES THE FORM

-- a text that can be gone on with to one that follows the form
pub record Begins (form front : List ℕ) : Type 0 where
  pub more : List ℕ
  pub parts : List (List ℕ)
  pub each : AreParts form parts
  pub whole : concat parts ≡ front ++ more

-- each form has texts
pub begins_none : (form : List ℕ) → Begins form []
begins_none [] = record { more = []; parts = []; each = tt; whole = refl }
begins_none (l ∷ form) =
    let rest = begins_none form in
    let here = place_some l in
    record { more = here.more ++ rest.more; parts = here.more ∷ rest.parts; each = (here.stands, rest.each); whole = ap (λ (x : List ℕ). here.more ++ x) rest.whole }

take_nil : (k : ℕ) → take {A = ℕ} k [] ≡ []
take_nil zero = refl
take_nil (suc k) = refl

take_sum : (n m : ℕ) (text : List ℕ) → take (n + m) text ≡ take n text ++ take m (drop n text)
take_sum zero m text = ap (λ k. take k text) (omega arith)
take_sum (suc n) m [] = take_nil (suc n + m) ∙ sym (take_nil m)
take_sum (suc n) m (b ∷ text) =
    let more : suc n + m ≡ suc (n + m) = omega arith in
    ap (λ k. take k (b ∷ text)) more ∙ ap (λ (x : List ℕ). b ∷ x) (take_sum n m text)

pub stop_begins : (form text : List ℕ) (n : ℕ) → stop form text ≡ Some n → Begins form (take n text)
stop_begins [] [] n e = absurd (cc)
stop_begins [] (b ∷ text) n e = let none : n ≡ 0 = cc in rw none (begins_none [])
stop_begins (l ∷ form) text n e = by_test (λ t m next. stop_begins form t m next) (stands_in (place_of l) (take (reach (place_of l) [] text) text)) refl
  where
    by_test : ((t : List ℕ) (m : ℕ) → stop form t ≡ Some m → Begins form (take m t)) → (v : Bool) → stands_in (place_of l) (take (reach (place_of l) [] text) text) ≡ v → Begins (l ∷ form) (take n text)
    by_test go true h =
        let k = reach (place_of l) [] text in
        let next = some_behind k n (stop form (drop k text)) (sym (stop-stands l form text k refl h) ∙ e) in
        let rest = go (drop k text) next.0 next.1 in
        record {
          more = rest.more;
          parts = take k text ∷ rest.parts;
          each = (h, rest.each);
          whole = ap (λ (x : List ℕ). take k text ++ x) rest.whole ∙ sym (append_assoc (take k text) (take next.0 (drop k text)) rest.more) ∙ ap (λ (x : List ℕ). x ++ rest.more) (sym (take_sum k next.0 text) ∙ ap (λ i. take i text) (sym next.2));
        }
    by_test go false h =
        let there : stop (l ∷ form) text ≡ Some (reach (place_of l) [] text) = stop-leaves l form text _ refl h in
        let same : reach (place_of l) [] text ≡ n = cc in
        let goes = goes_as_far (place_of l) [] text (place_sane l) (place_some l) in
        let rest = begins_none form in
        record {
          more = goes.more ++ rest.more;
          parts = (take (reach (place_of l) [] text) text ++ goes.more) ∷ rest.parts;
          each = (goes.stands, rest.each);
          whole = ap (λ (x : List ℕ). take (reach (place_of l) [] text) text ++ goes.more ++ x) rest.whole ∙ append_assoc (take (reach (place_of l) [] text) text) goes.more rest.more ∙ ap (λ i. take i text ++ (goes.more ++ rest.more)) same;
        }

pub stop_within : (form text : List ℕ) (n : ℕ) → stop form text ≡ Some n → n ≤ length text
stop_within [] [] n e = absurd (cc)
stop_within [] (b ∷ text) n e = let none : n ≡ 0 = cc in omega arith
stop_within (l ∷ form) text n e = by_test (λ t m next. stop_within form t m next) (stands_in (place_of l) (take (reach (place_of l) [] text) text)) refl
  where
    by_test : ((t : List ℕ) (m : ℕ) → stop form t ≡ Some m → m ≤ length t) → (v : Bool) → stands_in (place_of l) (take (reach (place_of l) [] text) text) ≡ v → n ≤ length text
    by_test go true h =
        let k = reach (place_of l) [] text in
        let next = some_behind k n (stop form (drop k text)) (sym (stop-stands l form text k refl h) ∙ e) in
        omega (arith, next.2, go (drop k text) next.0 next.1, length-drop k text, reach-within (place_of l) [] text)
    by_test go false h =
        let there : stop (l ∷ form) text ≡ Some (reach (place_of l) [] text) = stop-leaves l form text _ refl h in
        let same : reach (place_of l) [] text ≡ n = cc in
        omega (arith, same, reach-within (place_of l) [] text)

pub stop_short : (form text : List ℕ) (n : ℕ) → stop form text ≡ Some n → n ≤ 36 * length form
stop_short [] [] n e = absurd (cc)
stop_short [] (b ∷ text) n e = let none : n ≡ 0 = cc in omega arith
stop_short (l ∷ form) text n e = by_test (λ t m next. stop_short form t m next) (stands_in (place_of l) (take (reach (place_of l) [] text) text)) refl
  where
    by_test : ((t : List ℕ) (m : ℕ) → stop form t ≡ Some m → m ≤ 36 * length form) → (v : Bool) → stands_in (place_of l) (take (reach (place_of l) [] text) text) ≡ v → n ≤ 36 * suc (length form)
    by_test go true h =
        let k = reach (place_of l) [] text in
        let next = some_behind k n (stop form (drop k text)) (sym (stop-stands l form text k refl h) ∙ e) in
        omega (arith, next.2, go (drop k text) next.0 next.1, reach-short (place_of l) [] text (omega arith))
    by_test go false h =
        let there : stop (l ∷ form) text ≡ Some (reach (place_of l) [] text) = stop-leaves l form text _ refl h in
        let same : reach (place_of l) [] text ≡ n = cc in
        omega (arith, same, reach-short (place_of l) [] text (omega arith))

-- two fronts of one text: one begins the other
pub data Fronts (d p : List ℕ) (y x : List ℕ) : Type 0 where
  within : (c : List ℕ) → d ≡ p ++ c → Fronts d p y x
  beyond : (b : ℕ) (c : List ℕ) → p ≡ d ++ b ∷ c → y ≡ b ∷ c ++ x → Fronts d p y x

fronts_more : (b : ℕ) (d p y x : List ℕ) → Fronts d p y x → Fronts (b ∷ d) (b ∷ p) y x
fronts_more b d p y x (within c e) = within c (ap (λ (l : List ℕ). b ∷ l) e)
fronts_more b d p y x (beyond a c e f) = beyond a c (ap (λ (l : List ℕ). b ∷ l) e) f

fronts_of : (d p y x : List ℕ) → d ++ y ≡ p ++ x → Fronts d p y x
fronts_of d [] y x e = within d refl
fronts_of [] (b ∷ p) y x e = beyond b p refl e
fronts_of (a ∷ d) (b ∷ p) y x e =
    let same : a ≡ b = cc in
    let rest : d ++ y ≡ p ++ x = cc in
    subst (λ (c : ℕ). Fronts (c ∷ d) (b ∷ p) y x) (sym same) (fronts_more b d p y x (fronts_of d p y x rest))

-- no longer front begins the form
pub stop_longest : (form : List ℕ) (parts : List (List ℕ)) (p x y : List ℕ) (n : ℕ) → is_clear form ≡ true → AreParts form parts → concat parts ≡ p ++ x → stop form (p ++ y) ≡ Some n → length p ≤ n
stop_longest [] [] [] x y n clear are e s = omega arith
stop_longest [] [] (b ∷ p) x y n clear are e s = absurd (cc)
stop_longest [] (q ∷ parts) p x y n clear are e s = absurd are
stop_longest (l ∷ form) [] p x y n clear are e s = absurd are
stop_longest (l ∷ form) (q ∷ parts) p x y n clear are e s = by_fronts (λ p x y n f t. stop_longest form parts p x y n (clear_rest l form clear) are.1 f t) (fronts_of q p (concat parts) x e)
  where
    k_of : (v : Bool) → stands_in (place_of l) (take (reach (place_of l) [] (p ++ y)) (p ++ y)) ≡ v → reach (place_of l) [] (p ++ y) ≤ n
    k_of true h =
        let k = reach (place_of l) [] (p ++ y) in
        let next = some_behind k n (stop form (drop k (p ++ y))) (sym (stop-stands l form (p ++ y) k refl h) ∙ s) in
        omega (arith, next.2)
    k_of false h =
        let there : stop (l ∷ form) (p ++ y) ≡ Some (reach (place_of l) [] (p ++ y)) = stop-leaves l form (p ++ y) _ refl h in
        let same : reach (place_of l) [] (p ++ y) ≡ n = cc in
        omega arith

    by_fronts : ((p x y : List ℕ) (n : ℕ) → concat parts ≡ p ++ x → stop form (p ++ y) ≡ Some n → length p ≤ n) → Fronts q p (concat parts) x → length p ≤ n
    by_fronts go (within c f) =
        let can : CanStand (place_of l) p = record { more = c; stands = ap (stands_in (place_of l)) (sym f) ∙ are.0 } in
        omega (arith, reaches (place_of l) [] p y can, k_of _ refl)
    by_fronts go (beyond b c f g) =
        let ends : Ends (place_of l) q (b ∷ c ++ y) = ends_first l form q parts b (c ++ x) clear are.0 are.1 g in
        let text : p ++ y ≡ q ++ (b ∷ c ++ y) = ap (λ (t : List ℕ). t ++ y) f ∙ append_assoc q (b ∷ c) y in
        let k : reach (place_of l) [] (q ++ (b ∷ c ++ y)) ≡ length q = reach-whole (place_of l) [] q (b ∷ c ++ y) are.0 ends in
        let front : take (length q) (q ++ (b ∷ c ++ y)) ≡ q = take_at q (b ∷ c ++ y) (length q) refl in
        let back : drop (length q) (q ++ (b ∷ c ++ y)) ≡ b ∷ c ++ y = drop_at q (b ∷ c ++ y) (length q) refl in
        let stands : stands_in (place_of l) (take (length q) (q ++ (b ∷ c ++ y))) ≡ true = rw front are.0 in
        let at : stop (l ∷ form) (q ++ (b ∷ c ++ y)) ≡ Some n = ap (stop (l ∷ form)) (sym text) ∙ s in
        let next = some_behind (length q) n (stop form (drop (length q) (q ++ (b ∷ c ++ y)))) (sym (stop-stands l form (q ++ (b ∷ c ++ y)) (length q) k stands) ∙ at) in
        let there : stop form (b ∷ c ++ y) ≡ Some next.0 = ap (stop form) (sym back) ∙ next.1 in
        let rest : length (b ∷ c) ≤ next.0 = go (b ∷ c) x y next.0 g there in
        omega (arith, next.2, rest, ap length f, length-append q (b ∷ c))

-- TWO FORMS

-- two forms whose texts differ at a byte
abbrev pub do_differ : List ℕ → List ℕ → Bool
do_differ (l ∷ form) (k ∷ other) = if l == k then do_differ form other else nat_lt l 97 && nat_lt k 97
do_differ _ _ = false

part_same : (l : ℕ) (form other : List ℕ) (q r : List ℕ) (ps rs : List (List ℕ)) → is_clear (l ∷ form) ≡ true → is_clear (l ∷ other) ≡ true → stands_in (place_of l) q ≡ true → stands_in (place_of l) r ≡ true → AreParts form ps → AreParts other rs → q ++ concat ps ≡ r ++ concat rs → (q ≡ r) × (concat ps ≡ concat rs)
part_same l form other q r ps rs clear also h i are be e =
    let first : reach (place_of l) [] (q ++ concat ps) ≡ length q = reach-first l form q ps clear h are in
    let second : reach (place_of l) [] (r ++ concat rs) ≡ length r = reach-first l other r rs also i be in
    let long : length q ≡ length r = sym first ∙ ap (λ (t : List ℕ). reach (place_of l) [] t) e ∙ second in
    let front : q ≡ r = sym (take_at q (concat ps) (length q) refl) ∙ ap (λ (t : List ℕ). take (length q) t) e ∙ take_at r (concat rs) (length q) (sym long) in
    let back : concat ps ≡ concat rs = sym (drop_at q (concat ps) (length q) refl) ∙ ap (λ (t : List ℕ). drop (length q) t) e ∙ drop_at r (concat rs) (length q) (sym long) in
    (front, back)

-- the parts of a text are unique
pub same_parts : (form : List ℕ) (ps rs : List (List ℕ)) → is_clear form ≡ true → AreParts form ps → AreParts form rs → concat ps ≡ concat rs → ps ≡ rs
same_parts [] [] [] clear are be e = refl
same_parts [] (q ∷ ps) rs clear are be e = absurd are
same_parts [] [] (r ∷ rs) clear are be e = absurd be
same_parts (l ∷ form) [] rs clear are be e = absurd are
same_parts (l ∷ form) (q ∷ ps) [] clear are be e = absurd be
same_parts (l ∷ form) (q ∷ ps) (r ∷ rs) clear are be e =
    let both = part_same l form form q r ps rs clear clear are.0 be.0 are.1 be.1 e in
    let rest : ps ≡ rs = same_parts form ps rs (clear_rest l form clear) are.1 be.1 both.1 in
    ap (λ (x : List ℕ). x ∷ ps) both.0 ∙ ap (λ (xs : List (List ℕ)). r ∷ xs) rest

byte_parts : (l : ℕ) (part rest : List ℕ) → l < 97 → stands_in (place_of l) part ≡ true → part ++ rest ≡ l ∷ rest
byte_parts l part rest less h =
    let stands : stands_in (place.Byte l) part ≡ true = ap (λ p. stands_in p part) (sym (place_of-byte l less)) ∙ h in
    ap (λ (x : List ℕ). x ++ rest) ((bytes_eq-Decides part (l ∷ [])).0 stands)

-- no text follows both
pub differ : (form other : List ℕ) (ps rs : List (List ℕ)) → is_clear form ≡ true → is_clear other ≡ true → do_differ form other ≡ true → AreParts form ps → AreParts other rs → concat ps ≡ concat rs → ⊥
differ [] other ps rs clear also d are be e = absurd (cc)
differ (l ∷ form) [] ps rs clear also d are be e = absurd (cc)
differ (l ∷ form) (k ∷ other) [] rs clear also d are be e = are
differ (l ∷ form) (k ∷ other) (q ∷ ps) [] clear also d are be e = be
differ (l ∷ form) (k ∷ other) (q ∷ ps) (r ∷ rs) clear also d are be e = by_test (λ d f. differ form other ps rs (clear_rest l form clear) (clear_rest k other also) d are.1 be.1 f) (l == k) refl
  where
    by_test : (do_differ form other ≡ true → concat ps ≡ concat rs → ⊥) → (v : Bool) → (l == k) ≡ v → ⊥
    by_test go true h =
        let same : k ≡ l = sym (eqb-true l k h) in
        let more : do_differ form other ≡ true = rw h at d in
        let also' : is_clear (l ∷ other) ≡ true = ap (λ (j : ℕ). is_clear (j ∷ other)) (sym same) ∙ also in
        let stands : stands_in (place_of l) r ≡ true = ap (λ (j : ℕ). stands_in (place_of j) r) (sym same) ∙ be.0 in
        let both = part_same l form other q r ps rs clear also' are.0 stands are.1 be.1 e in
        go more both.1
    by_test go false h =
        let signs : (nat_lt l 97 && nat_lt k 97) ≡ true = rw h at d in
        let both = and_parts (nat_lt l 97) (nat_lt k 97) signs in
        let first : q ++ concat ps ≡ l ∷ concat ps = byte_parts l q (concat ps) (ltb-true _ _ both.0) are.0 in
        let second : r ++ concat rs ≡ k ∷ concat rs = byte_parts k r (concat rs) (ltb-true _ _ both.1) be.0 in
        eqb-false l k h (same_head l k (concat ps) (concat rs) (sym first ∙ e ∙ second))

-- what is left of a text behind all of a form
pub stop-some_left : (text : List ℕ) → 0 < length text → stop [] text ≡ Some 0
stop-some_left [] some = absurd (omega arith)
stop-some_left (b ∷ text) some = refl

-- the text in the place of the first letter of what is left of a form
pub text_in-first : (form text : List ℕ) (i letter : ℕ) → i < length form → get_or form i 0 ≡ letter → text_in (drop i form) text letter ≡ take (reach (place_of (get_or form i 0)) [] text) text
text_in-first form text i letter inside is =
    let here : drop i form ≡ get_or form i 0 ∷ drop (i + 1) form = drop_more form i 0 inside in
    let same : (get_or form i 0 == letter) ≡ true = eq-eqb _ _ is in
    ap (λ (f : List ℕ). text_in f text letter) here ∙ rw same refl
