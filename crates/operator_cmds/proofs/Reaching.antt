-- How far a text goes on in a place.
use Rattle.std.proofs.Common.{◌≡◌, ◌∙◌, sym, ap, subst, inl, inr, ℕ, suc, ◌+◌, ◌-◌, ◌*◌, ◌≤◌, ◌<◌, ◌⊎◌, Bool, true, false, not, nat_le, nat_lt, ◌&&◌, ◌||◌, ◌==◌, List, [], ◌∷◌, ◌++◌, length, take, drop, get_or, refl, append_assoc, arith}
use Rattle.std.specs.List.{list_all, list_any}
use Rattle.std.proofs.lemmas.Bool.{and_from, and_left, and_parts, and_right as false_right, both_ways, cases_lt, eq-eqb, eqb-true, false_from_ne_true, le-leb, leb-true, lt-ltb, ltb-true, ne_eqb, not-true, or_cases, or_left, or_parts, or_right}
use Rattle.std.proofs.lemmas.List.{append-nil, length-append, take_more, drop_more}
use Rattle.std.proofs.lemmas.List.Folds.{list_all-append, list_any-append}
use Rattle.std.proofs.lemmas.Slice.Eq.{bytes_eq-Decides}
use Rattle.mas_types.specs.Fit.{is_class_byte}
use Rattle.mas_types.specs.Names.{is_name_byte}
use Rattle.mas_types.specs.Numerals.{is_digit, is_numeral, value_after, value_of}
use Rattle.operator_cmds.specs.declared.places.Numbers.{Numbers}
use Rattle.operator_cmds.specs.declared.places.Place.{Place}
use Rattle.operator_cmds.specs.declared.places.Place.TheVariants as place
use Rattle.operator_cmds.specs.Places.{is_number, are_different, is_member_letter, stands_in}
use Rattle.operator_cmds.specs.Walks.{may_begin, may_begin_number, reach}

-- a front that can be gone on with to a text that stands in the place
pub record CanStand (p : Place) (front : List ℕ) : Type 0 where
  pub more : List ℕ
  pub stands : stands_in p (front ++ more) ≡ true

-- LISTS

pub front_all : (p : ℕ → Bool) (d e : List ℕ) → list_all p (d ++ e) ≡ true → list_all p d ≡ true
front_all p d e h = (and_parts (list_all p d) (list_all p e) (sym (list_all-append p d e) ∙ h)).0

pub back_all : (p : ℕ → Bool) (d e : List ℕ) → list_all p (d ++ e) ≡ true → list_all p e ≡ true
back_all p d e h = (and_parts (list_all p d) (list_all p e) (sym (list_all-append p d e) ∙ h)).1

none_of_front : (p : ℕ → Bool) (d e : List ℕ) → not (list_any p (d ++ e)) ≡ true → not (list_any p d) ≡ true
none_of_front p d e h =
    let whole : list_any p (d ++ e) ≡ false = not-true _ h in
    let parts = or_parts (list_any p d) (list_any p e) (sym (list_any-append p d e) ∙ whole) in
    rw parts.0 refl

front_different : (d e : List ℕ) → are_different (d ++ e) ≡ true → are_different d ≡ true
front_different [] e h = refl
front_different (b ∷ d) e h =
    let both = and_parts (not (list_any (λ c. c == b) (d ++ e))) (are_different (d ++ e)) h in
    and_from _ _ (none_of_front (λ c. c == b) d e both.0) (front_different d e both.1)

-- NUMBERS

pub value_after-append : (n : ℕ) (d e : List ℕ) → value_after n (d ++ e) ≡ value_after (value_after n d) e
value_after-append n [] e = refl
value_after-append n (b ∷ d) e = value_after-append (n * 10 + (b - 48)) d e

pub le_value_after : (n : ℕ) (text : List ℕ) → n ≤ value_after n text
le_value_after n [] = omega arith
le_value_after n (b ∷ text) = omega (arith, le_value_after (n * 10 + (b - 48)) text)

-- a text is one of the numbers
pub record IsIn (r : Numbers) (d : List ℕ) : Type 0 where
  pub some : 1 ≤ length d
  pub ten : length d ≤ 10
  pub digits : list_all is_digit d ≡ true
  pub width : length d ≤ r.width
  pub least : r.least ≤ value_of d
  pub most : value_of d ≤ r.most

pub is_in : (r : Numbers) (d : List ℕ) → is_number r d ≡ true → IsIn r d
is_in r d h =
    let a = and_parts (is_numeral d && nat_le (length d) r.width && nat_le r.least (value_of d)) (nat_le (value_of d) r.most) h in
    let b = and_parts (is_numeral d && nat_le (length d) r.width) (nat_le r.least (value_of d)) a.0 in
    let c = and_parts (is_numeral d) (nat_le (length d) r.width) b.0 in
    let e = and_parts (nat_le 1 (length d) && nat_le (length d) 10) (list_all is_digit d) c.0 in
    let f = and_parts (nat_le 1 (length d)) (nat_le (length d) 10) e.0 in
    record { some = leb-true _ _ f.0; ten = leb-true _ _ f.1; digits = e.1; width = leb-true _ _ c.1; least = leb-true _ _ b.1; most = leb-true _ _ a.1 }

numeral_from : (d : List ℕ) → 1 ≤ length d → length d ≤ 10 → list_all is_digit d ≡ true → is_numeral d ≡ true
numeral_from d some ten digits = and_from _ _ (and_from _ _ (le-leb _ _ some) (le-leb _ _ ten)) digits

pub in_is : (r : Numbers) (d : List ℕ) → IsIn r d → is_number r d ≡ true
in_is r d h =
    and_from _ _ (and_from _ _ (and_from _ _ (numeral_from d h.some h.ten h.digits) (le-leb _ _ h.width)) (le-leb _ _ h.least)) (le-leb _ _ h.most)

-- a numeral that begins a number
pub record BeginsIn (r : Numbers) (d : List ℕ) : Type 0 where
  pub some : 1 ≤ length d
  pub ten : length d ≤ 10
  pub digits : list_all is_digit d ≡ true
  pub most : value_of d ≤ r.most
  pub room : (length d < r.width) ⊎ ((length d ≡ r.width) × (r.least ≤ value_of d))

room_is : (r : Numbers) (d : List ℕ) → (nat_lt (length d) r.width || ((length d == r.width) && nat_le r.least (value_of d))) ≡ true → (length d < r.width) ⊎ ((length d ≡ r.width) × (r.least ≤ value_of d))
room_is r d h =
    elim (or_cases (nat_lt (length d) r.width) ((length d == r.width) && nat_le r.least (value_of d)) h) [
      | inl less ↦ inl (ltb-true _ _ less)
      | inr full ↦ let both = and_parts (length d == r.width) (nat_le r.least (value_of d)) full in inr (eqb-true _ _ both.0, leb-true _ _ both.1)
    ]

begins_in : (r : Numbers) (d : List ℕ) → may_begin_number r d ≡ true → BeginsIn r d
begins_in r d h =
    let a = and_parts (is_numeral d && nat_le (value_of d) r.most) (nat_lt (length d) r.width || ((length d == r.width) && nat_le r.least (value_of d))) h in
    let b = and_parts (is_numeral d) (nat_le (value_of d) r.most) a.0 in
    let e = and_parts (nat_le 1 (length d) && nat_le (length d) 10) (list_all is_digit d) b.0 in
    let f = and_parts (nat_le 1 (length d)) (nat_le (length d) 10) e.0 in
    record { some = leb-true _ _ f.0; ten = leb-true _ _ f.1; digits = e.1; most = leb-true _ _ b.1; room = room_is r d a.1 }

in_begins : (r : Numbers) (d : List ℕ) → BeginsIn r d → may_begin_number r d ≡ true
in_begins r d h =
    and_from _ _ (and_from _ _ (numeral_from d h.some h.ten h.digits) (le-leb _ _ h.most)) (room h.room)
  where
    room : (length d < r.width) ⊎ ((length d ≡ r.width) × (r.least ≤ value_of d)) → (nat_lt (length d) r.width || ((length d == r.width) && nat_le r.least (value_of d))) ≡ true
    room (inl less) = or_left _ _ (lt-ltb _ _ less)
    room (inr both) = or_right _ _ (and_from _ _ (eq-eqb _ _ both.0) (le-leb _ _ both.1))

-- numbers of which 1 is one
pub record IsSaneRange (r : Numbers) : Type 0 where
  pub least : r.least ≤ 1
  pub most : 1 ≤ r.most
  pub some : 1 ≤ r.width
  pub ten : r.width ≤ 10

abbrev pub IsSane : Place → Type 0
IsSane (place.Number r) = IsSaneRange r
IsSane _ = Unit {0}

-- a digit 1 behind a front of zeros, or of no digits, gives 1
one_more : (r : Numbers) (d : List ℕ) → IsSaneRange r → BeginsIn r d → length d < r.width → value_of d < r.least → IsIn r (d ++ 49 ∷ [])
one_more r d sane h less below =
    let long : length (d ++ 49 ∷ []) ≡ length d + 1 = length-append d (49 ∷ []) in
    let none : value_of d ≡ 0 = omega (arith, sane.least) in
    let one : value_of (d ++ 49 ∷ []) ≡ 1 = value_after-append 0 d (49 ∷ []) ∙ rw none refl in
    let digits : list_all is_digit (d ++ 49 ∷ []) ≡ true = list_all-append is_digit d (49 ∷ []) ∙ rw h.digits refl in
    record {
      some = omega (arith, long);
      ten = omega (arith, long, sane.ten);
      digits = digits;
      width = omega (arith, long);
      least = omega (arith, one, sane.least);
      most = omega (arith, one, sane.most);
    }

number_can_stand : (r : Numbers) (d : List ℕ) → IsSaneRange r → BeginsIn r d → CanStand (place.Number r) d
number_can_stand r d sane h = by_value (cases_lt (value_of d) r.least)
  where
    by_room : value_of d < r.least → (length d < r.width) ⊎ ((length d ≡ r.width) × (r.least ≤ value_of d)) → CanStand (place.Number r) d
    by_room below (inl less) = record { more = 49 ∷ []; stands = in_is r (d ++ 49 ∷ []) (one_more r d sane h less below) }
    by_room below (inr full) = absurd (omega (arith, full.1))

    width : (length d < r.width) ⊎ ((length d ≡ r.width) × (r.least ≤ value_of d)) → length d ≤ r.width
    width (inl less) = omega arith
    width (inr full) = omega (arith, full.0)

    by_value : (value_of d < r.least) ⊎ (r.least ≤ value_of d) → CanStand (place.Number r) d
    by_value (inl below) = by_room below h.room
    by_value (inr enough) = record {
      more = [];
      stands = rw (append-nil d) (in_is r d (record { some = h.some; ten = h.ten; digits = h.digits; width = width h.room; least = enough; most = h.most }));
    }

number_may_begin : (r : Numbers) (d e : List ℕ) → 1 ≤ length d → IsIn r (d ++ e) → BeginsIn r d
number_may_begin r d [] some h =
    let same : d ++ [] ≡ d = append-nil d in
    let whole : IsIn r d = subst (λ (x : List ℕ). IsIn r x) same h in
    record { some = some; ten = whole.ten; digits = whole.digits; most = whole.most; room = room (cases_lt (length d) r.width) whole }
  where
    room : (length d < r.width) ⊎ (r.width ≤ length d) → IsIn r d → (length d < r.width) ⊎ ((length d ≡ r.width) × (r.least ≤ value_of d))
    room (inl less) whole = inl less
    room (inr full) whole = inr (omega (arith, whole.width), whole.least)
number_may_begin r d (b ∷ e) some h =
    let long : length (d ++ b ∷ e) ≡ length d + suc (length e) = length-append d (b ∷ e) in
    let value : value_of (d ++ b ∷ e) ≡ value_after (value_of d) (b ∷ e) = value_after-append 0 d (b ∷ e) in
    record {
      some = some;
      ten = omega (arith, long, h.ten);
      digits = front_all is_digit d (b ∷ e) h.digits;
      most = omega (arith, value, le_value_after (value_of d) (b ∷ e), h.most);
      room = inl (omega (arith, long, h.width));
    }

-- WHAT BEGINS CAN BE GONE ON WITH

ends_here : (p : Place) (d : List ℕ) → stands_in p d ≡ true → CanStand p d
ends_here p d h = record { more = []; stands = rw (append-nil d) h }

pub can_stand : (p : Place) (d : List ℕ) → IsSane p → 1 ≤ length d → may_begin p d ≡ true → CanStand p d
can_stand (place.Byte b) d sane some h = ends_here (place.Byte b) d h
can_stand (place.Number r) d sane some h = number_can_stand r d sane (begins_in r d h)
can_stand place.Class d sane some h = ends_here place.Class d h
can_stand place.Classes d sane some h =
    let a = and_parts (nat_le (length d) 36 && list_all is_class_byte d) (are_different d) h in
    let b = and_parts (nat_le (length d) 36) (list_all is_class_byte d) a.0 in
    ends_here place.Classes d (and_from _ _ (and_from _ _ (and_from _ _ (le-leb _ _ some) b.0) b.1) a.1)
can_stand place.Name d sane some h =
    let a = and_parts (nat_le (length d) 8) (list_all is_name_byte d) h in
    ends_here place.Name d (and_from _ _ (and_from _ _ (le-leb _ _ some) a.0) a.1)
can_stand place.Member d sane some h = ends_here place.Member d h

one_of_one : (d e : List ℕ) → 1 ≤ length d → (length (d ++ e) == 1) ≡ true → (length d == 1) ≡ true
one_of_one d e some h =
    let whole : length (d ++ e) ≡ 1 = eqb-true _ _ h in
    eq-eqb _ _ (omega (arith, length-append d e))

byte_of : (b : ℕ) (d e : List ℕ) → 1 ≤ length d → d ++ e ≡ b ∷ [] → d ≡ b ∷ []
byte_of b [] e some h = absurd (omega arith)
byte_of b (x ∷ []) e some h = let same : x ≡ b = cc in rw same refl
byte_of b (x ∷ y ∷ d) e some h = absurd (cc)

-- what can be gone on with begins
pub needs_begin : (p : Place) (d : List ℕ) → 1 ≤ length d → CanStand p d → may_begin p d ≡ true
needs_begin (place.Byte b) d some c =
    let whole : d ++ c.more ≡ b ∷ [] = (bytes_eq-Decides (d ++ c.more) (b ∷ [])).0 c.stands in
    (bytes_eq-Decides d (b ∷ [])).1 (byte_of b d c.more some whole)
needs_begin (place.Number r) d some c = in_begins r d (number_may_begin r d c.more some (is_in r (d ++ c.more) c.stands))
needs_begin place.Class d some c =
    let a = and_parts (length (d ++ c.more) == 1) (list_all is_class_byte (d ++ c.more)) c.stands in
    and_from _ _ (one_of_one d c.more some a.0) (front_all is_class_byte d c.more a.1)
needs_begin place.Classes d some c =
    let t = d ++ c.more in
    let a = and_parts (nat_le 1 (length t) && nat_le (length t) 36 && list_all is_class_byte t) (are_different t) c.stands in
    let b = and_parts (nat_le 1 (length t) && nat_le (length t) 36) (list_all is_class_byte t) a.0 in
    let e = and_parts (nat_le 1 (length t)) (nat_le (length t) 36) b.0 in
    let few : length (d ++ c.more) ≤ 36 = leb-true _ _ e.1 in
    and_from _ _ (and_from _ _ (le-leb _ _ (omega (arith, length-append d c.more))) (front_all is_class_byte d c.more b.1)) (front_different d c.more a.1)
needs_begin place.Name d some c =
    let t = d ++ c.more in
    let a = and_parts (nat_le 1 (length t) && nat_le (length t) 8) (list_all is_name_byte t) c.stands in
    let b = and_parts (nat_le 1 (length t)) (nat_le (length t) 8) a.0 in
    let few : length (d ++ c.more) ≤ 8 = leb-true _ _ b.1 in
    and_from _ _ (le-leb _ _ (omega (arith, length-append d c.more))) (front_all is_name_byte d c.more a.1)
needs_begin place.Member d some c =
    let a = and_parts (length (d ++ c.more) == 1) (list_all is_member_letter (d ++ c.more)) c.stands in
    and_from _ _ (one_of_one d c.more some a.0) (front_all is_member_letter d c.more a.1)

-- a text in a place has at least one byte
pub stands_some : (p : Place) (d : List ℕ) → stands_in p d ≡ true → 1 ≤ length d
stands_some (place.Byte b) [] h = absurd (cc)
stands_some (place.Byte b) (x ∷ d) h = omega arith
stands_some (place.Number r) d h = (is_in r d h).some
stands_some place.Class d h =
    let a = and_parts (length d == 1) (list_all is_class_byte d) h in
    let one : length d ≡ 1 = eqb-true _ _ a.0 in omega arith
stands_some place.Classes d h =
    let a = and_parts (nat_le 1 (length d) && nat_le (length d) 36 && list_all is_class_byte d) (are_different d) h in
    let b = and_parts (nat_le 1 (length d) && nat_le (length d) 36) (list_all is_class_byte d) a.0 in
    leb-true _ _ (and_parts (nat_le 1 (length d)) (nat_le (length d) 36) b.0).0
stands_some place.Name d h =
    let a = and_parts (nat_le 1 (length d) && nat_le (length d) 8) (list_all is_name_byte d) h in
    leb-true _ _ (and_parts (nat_le 1 (length d)) (nat_le (length d) 8) a.0).0
stands_some place.Member d h =
    let a = and_parts (length d == 1) (list_all is_member_letter d) h in
    let one : length d ≡ 1 = eqb-true _ _ a.0 in omega arith

-- WHERE A TEXT ENDS

-- a place whose texts have one byte
abbrev pub is_fixed : Place → Bool
is_fixed (place.Byte b) = true
is_fixed place.Class = true
is_fixed place.Member = true
is_fixed _ = false

-- a byte that no text in the place goes on with
abbrev pub ends_place : Place → ℕ → Bool
ends_place p b = is_fixed p || not (is_name_byte b)

too_long : (d : List ℕ) (b : ℕ) → 1 ≤ length d → (length (d ++ b ∷ []) == 1) ≡ false
too_long d b some = ne_eqb _ _ (λ e. omega (arith, e, length-append d (b ∷ [])))

digit_is_name : (b : ℕ) → is_digit b ≡ true → is_name_byte b ≡ true
digit_is_name b h =
    or_left _ _ (or_left _ _ (or_left _ _ (or_right _ _ h)))

class_is_name : (b : ℕ) → is_class_byte b ≡ true → is_name_byte b ≡ true
class_is_name b h = or_left _ _ (or_left _ _ (or_left _ _ h))

-- a list whose last byte fails the test
last_fails : (p : ℕ → Bool) (d : List ℕ) (b : ℕ) → ((p b ≡ true) → is_name_byte b ≡ true) → not (is_name_byte b) ≡ true → list_all p (d ++ b ∷ []) ≡ false
last_fails p d b gives none =
    false_from_ne_true _ (λ h.
    let last : list_all p (b ∷ []) ≡ true = back_all p d (b ∷ []) h in
    let here : p b ≡ true = (and_parts (p b) true last).0 in
    both_ways (is_name_byte b) (not-true _ none) (gives here))

pub ends_at : (p : Place) (d : List ℕ) (b : ℕ) → stands_in p d ≡ true → ends_place p b ≡ true → may_begin p (d ++ b ∷ []) ≡ false
ends_at (place.Byte c) d b h e =
    false_from_ne_true _ (λ t.
    let whole : d ++ b ∷ [] ≡ c ∷ [] = (bytes_eq-Decides (d ++ b ∷ []) (c ∷ [])).0 t in
    let long : length (d ++ b ∷ []) ≡ 1 = ap length whole in
    omega (arith, length-append d (b ∷ []), stands_some (place.Byte c) d h))
ends_at (place.Number r) d b h e =
    let none : list_all is_digit (d ++ b ∷ []) ≡ false = last_fails is_digit d b (digit_is_name b) e in
    rw none (search_false _ _ _)
  where
    search_false : (x y z : Bool) → (x && false && y && z) ≡ false
    search_false x y z = grind arith
ends_at place.Class d b h e = and_left _ _ (too_long d b (stands_some place.Class d h))
ends_at place.Classes d b h e =
    and_left _ _ (false_right (nat_le (length (d ++ b ∷ [])) 36) (list_all is_class_byte (d ++ b ∷ [])) (last_fails is_class_byte d b (class_is_name b) e))
ends_at place.Name d b h e = false_right (nat_le (length (d ++ b ∷ [])) 8) (list_all is_name_byte (d ++ b ∷ [])) (last_fails is_name_byte d b (λ t. t) e)
ends_at place.Member d b h e = and_left _ _ (too_long d b (stands_some place.Member d h))

-- REACHING

step_true : (p : Place) (front : List ℕ) (b : ℕ) (text : List ℕ) → may_begin p (front ++ b ∷ []) ≡ true → reach p front (b ∷ text) ≡ suc (reach p (front ++ b ∷ []) text)
step_true p front b text h = rw h refl

step_false : (p : Place) (front : List ℕ) (b : ℕ) (text : List ℕ) → may_begin p (front ++ b ∷ []) ≡ false → reach p front (b ∷ text) ≡ 0
step_false p front b text h = rw h refl

some_behind : (front : List ℕ) (b : ℕ) → 1 ≤ length (front ++ b ∷ [])
some_behind front b = omega (arith, length-append front (b ∷ []))

-- the front so far can be gone on with
pub goes_as_far : (p : Place) (front text : List ℕ) → IsSane p → CanStand p front → CanStand p (front ++ take (reach p front text) text)
goes_as_far p front [] sane c = subst (λ (x : List ℕ). CanStand p x) (sym (append-nil front)) c
goes_as_far p front (b ∷ text) sane c = by_test (λ next. goes_as_far p (front ++ b ∷ []) text sane next) (may_begin p (front ++ b ∷ [])) refl
  where
    by_test : (CanStand p (front ++ b ∷ []) → CanStand p (front ++ b ∷ [] ++ take (reach p (front ++ b ∷ []) text) text)) → (v : Bool) → may_begin p (front ++ b ∷ []) ≡ v → CanStand p (front ++ take (reach p front (b ∷ text)) (b ∷ text))
    by_test go true h =
        let next : CanStand p (front ++ b ∷ []) = can_stand p (front ++ b ∷ []) sane (some_behind front b) h in
        let rest : CanStand p (front ++ b ∷ [] ++ take (reach p (front ++ b ∷ []) text) text) = go next in
        rw (step_true p front b text h) (subst (λ (x : List ℕ). CanStand p x) (append_assoc front (b ∷ []) (take (reach p (front ++ b ∷ []) text) text)) rest)
    by_test go false h = rw (step_false p front b text h) (subst (λ (x : List ℕ). CanStand p x) (sym (append-nil front)) c)

-- a front of what can be gone on with can be gone on with
pub shorter : (p : Place) (d e : List ℕ) → CanStand p (d ++ e) → CanStand p d
shorter p d e c = record { more = e ++ c.more; stands = ap (stands_in p) (sym (append_assoc d e c.more)) ∙ c.stands }

next_begins : (p : Place) (front x : List ℕ) (b : ℕ) → CanStand p (front ++ b ∷ x) → CanStand p (front ++ b ∷ [] ++ x)
next_begins p front x b c = subst (λ (y : List ℕ). CanStand p y) (sym (append_assoc front (b ∷ []) x)) c

-- what can be gone on with is reached
pub reaches : (p : Place) (front x y : List ℕ) → CanStand p (front ++ x) → length x ≤ reach p front (x ++ y)
reaches p front [] y c = omega arith
reaches p front (b ∷ x) y c =
    let whole : CanStand p (front ++ b ∷ [] ++ x) = next_begins p front x b c in
    let h : may_begin p (front ++ b ∷ []) ≡ true = needs_begin p (front ++ b ∷ []) (some_behind front b) (shorter p (front ++ b ∷ []) x whole) in
    let rest : length x ≤ reach p (front ++ b ∷ []) (x ++ y) = reaches p (front ++ b ∷ []) x y whole in
    rw (step_true p front b (x ++ y) h) (omega arith)

-- no byte that follows goes on with the text
abbrev pub Ends : Place → List ℕ → List ℕ → Type 0
Ends p d [] = Unit {0}
Ends p d (b ∷ y) = may_begin p (d ++ b ∷ []) ≡ false

-- a text in a place is reached to its end, and no further
pub reach-whole : (p : Place) (front x y : List ℕ) → stands_in p (front ++ x) ≡ true → Ends p (front ++ x) y → reach p front (x ++ y) ≡ length x
reach-whole p front [] [] h e = refl
reach-whole p front [] (b ∷ y) h e =
    let here : may_begin p (front ++ b ∷ []) ≡ false = ap (λ (l : List ℕ). may_begin p (l ++ b ∷ [])) (sym (append-nil front)) ∙ e in
    step_false p front b y here
reach-whole p front (b ∷ x) y h e =
    let regroup : front ++ b ∷ [] ++ x ≡ front ++ b ∷ x = append_assoc front (b ∷ []) x in
    let whole : CanStand p (front ++ b ∷ [] ++ x) = next_begins p front x b (ends_here p (front ++ b ∷ x) h) in
    let t : may_begin p (front ++ b ∷ []) ≡ true = needs_begin p (front ++ b ∷ []) (some_behind front b) (shorter p (front ++ b ∷ []) x whole) in
    let stands : stands_in p (front ++ b ∷ [] ++ x) ≡ true = ap (stands_in p) regroup ∙ h in
    let ends : Ends p (front ++ b ∷ [] ++ x) y = subst (λ (l : List ℕ). Ends p l y) (sym regroup) e in
    step_true p front b (x ++ y) t ∙ ap suc (reach-whole p (front ++ b ∷ []) x y stands ends)

-- no more bytes are reached than the text has
pub reach-within : (p : Place) (front text : List ℕ) → reach p front text ≤ length text
reach-within p front [] = omega arith
reach-within p front (b ∷ text) = by_test (reach-within p (front ++ b ∷ []) text) (may_begin p (front ++ b ∷ [])) refl
  where
    by_test : reach p (front ++ b ∷ []) text ≤ length text → (v : Bool) → may_begin p (front ++ b ∷ []) ≡ v → reach p front (b ∷ text) ≤ suc (length text)
    by_test go true h = rw (step_true p front b text h) (omega arith)
    by_test go false h = rw (step_false p front b text h) (omega arith)

-- a text that may begin what stands in a place has at most 36 bytes
begins_short : (p : Place) (d : List ℕ) → may_begin p d ≡ true → length d ≤ 36
begins_short (place.Byte b) d h =
    let whole : d ≡ b ∷ [] = (bytes_eq-Decides d (b ∷ [])).0 h in
    let long : length d ≡ 1 = ap length whole in omega arith
begins_short (place.Number r) d h = let t = begins_in r d h in omega (arith, t.ten)
begins_short place.Class d h = let a = and_parts (length d == 1) (list_all is_class_byte d) h in let one : length d ≡ 1 = eqb-true _ _ a.0 in omega arith
begins_short place.Classes d h =
    let a = and_parts (nat_le (length d) 36 && list_all is_class_byte d) (are_different d) h in
    leb-true _ _ (and_parts (nat_le (length d) 36) (list_all is_class_byte d) a.0).0
begins_short place.Name d h =
    let a = and_parts (nat_le (length d) 8) (list_all is_name_byte d) h in
    let few : length d ≤ 8 = leb-true _ _ a.0 in omega arith
begins_short place.Member d h = let a = and_parts (length d == 1) (list_all is_member_letter d) h in let one : length d ≡ 1 = eqb-true _ _ a.0 in omega arith

pub reach-short : (p : Place) (front text : List ℕ) → length front ≤ 36 → length front + reach p front text ≤ 36
reach-short p front [] few = omega arith
reach-short p front (b ∷ text) few = by_test (λ less. reach-short p (front ++ b ∷ []) text less) (may_begin p (front ++ b ∷ [])) refl
  where
    by_test : (length (front ++ b ∷ []) ≤ 36 → length (front ++ b ∷ []) + reach p (front ++ b ∷ []) text ≤ 36) → (v : Bool) → may_begin p (front ++ b ∷ []) ≡ v → length front + reach p front (b ∷ text) ≤ 36
    by_test go true h =
        let long : length (front ++ b ∷ []) ≡ length front + 1 = length-append front (b ∷ []) in
        let rest = go (begins_short p (front ++ b ∷ []) h) in
        rw (step_true p front b text h) (omega (arith, long, rest))
    by_test go false h = rw (step_false p front b text h) (omega arith)

-- the reach goes one byte further where the next byte may go on
pub reach_more : (p : Place) (text : List ℕ) (n : ℕ) → n < length text → may_begin p (take (n + 1) text) ≡ true → reach p (take n text) (drop n text) ≡ suc (reach p (take (n + 1) text) (drop (n + 1) text))
reach_more p text n inside h =
    let front : take (n + 1) text ≡ take n text ++ get_or text n 0 ∷ [] = take_more text n 0 inside in
    let begins : may_begin p (take n text ++ get_or text n 0 ∷ []) ≡ true = ap (may_begin p) (sym front) ∙ h in
    ap (reach p (take n text)) (drop_more text n 0 inside) ∙ step_true p (take n text) (get_or text n 0) (drop (n + 1) text) begins ∙ ap (λ (f : List ℕ). suc (reach p f (drop (n + 1) text))) (sym front)

-- the reach ends where the next byte may not go on
pub reach_ends : (p : Place) (text : List ℕ) (n : ℕ) → n < length text → may_begin p (take (n + 1) text) ≡ false → reach p (take n text) (drop n text) ≡ 0
reach_ends p text n inside h =
    let front : take (n + 1) text ≡ take n text ++ get_or text n 0 ∷ [] = take_more text n 0 inside in
    let ends : may_begin p (take n text ++ get_or text n 0 ∷ []) ≡ false = ap (may_begin p) (sym front) ∙ h in
    ap (reach p (take n text)) (drop_more text n 0 inside) ∙ step_false p (take n text) (get_or text n 0) (drop (n + 1) text) ends
