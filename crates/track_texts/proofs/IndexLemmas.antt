-- The groups of a text, one owner after another, and in the order of their places.
use Rattle.std.proofs.Common.{◌≡◌, ◌∙◌, ℕ, suc, ◌+◌, nat_eq, nat_le, Bool, true, false, ◌&&◌, if◌then◌else◌, List, [], ◌∷◌, ◌++◌, length, map, Some, None, Result, Ok, Err, cond, refl, sym, ap, subst, arith}
use Rattle.std.proofs.lemmas.Bool.{and_parts as both_true}
use Rattle.std.specs.Prelude.{Option, OnOk, IfOk, unwrap_or}
use Rattle.std.specs.HashMap.{HashMap, get, Updates}
use Rattle.std.proofs.lemmas.Bool.Decides.{nat_tests}
use Rattle.mas_types.specs.declared.ids.GroupNo.{GroupNo}
use Rattle.mas_types.specs.declared.queues.Owner.{Owner}
use Rattle.mas_types.specs.declared.queues.Owner.TheVariants as owner
use Rattle.mas_types.specs.declared.queues.Thing.{Thing}
use Rattle.mas_types.specs.declared.queues.Thing.TheVariants as thing
use Rattle.mas_types.specs.Sorted.{in_order, insert_by}
use Rattle.track_groups.specs.Groups.{is_things}
use Rattle.track_groups.specs.Places.{place_of, placed_from, groups_of}
use Rattle.track_texts.specs.declared.index.TextGroup.{TextGroup}
use Rattle.track_texts.specs.declared.index.TextGroups.{TextGroups}
use Rattle.track_texts.specs.Index.{same_key, key_of, placed, text_groups, groups_at, Adds, KeepsOthers, AreTextGroups}

pub on_ok : {T E P Q : Type 0} (r : Result T E) → (P → Q) → OnOk r P → OnOk r Q
on_ok (Ok x) f h = f h
on_ok (Err e) f h = h

pub if_ok : {T E : Type 0} (P Q : T → Type 0) (r : Result T E) → ((x : T) → P x → Q x) → IfOk r P → IfOk r Q
if_ok P Q (Ok x) f h = f x h
if_ok P Q (Err e) f h = h

-- GROUPS UNDER KEYS

module _ {S : Type 0} where
  -- what stands under each key, once one is set
  put : (m n : HashMap (ℕ × ℕ) (List TextGroup) S) (key : ℕ × ℕ) (own : List TextGroup) → Updates same_key m n key (Some own) → (q : ℕ × ℕ) → groups_at n q ≡ (if same_key key q then own else groups_at m q)
  put m n key own updates q = ap (λ (o : Option (List TextGroup)). unwrap_or o []) (updates.0 q) ∙ chosen (same_key key q)
    where
      chosen : (b : Bool) → unwrap_or (cond b (Some own) (get same_key m q)) [] ≡ (if b then own else groups_at m q)
      chosen true = refl
      chosen false = refl

  pub others_stay : (m n : HashMap (ℕ × ℕ) (List TextGroup) S) (key : ℕ × ℕ) (own : List TextGroup) → Updates same_key m n key (Some own) → KeepsOthers key m n
  others_stay m n key own updates q apart = let h = put m n key own updates q in rw apart at h

  -- a group is added: what was under its key is taken out, and stands there again with the group
  pub added : (old mid new : HashMap (ℕ × ℕ) (List TextGroup) S) (key : ℕ × ℕ) (own more : List TextGroup) (group : TextGroup) → own ≡ groups_at old key → more ≡ own ++ group ∷ [] → KeepsOthers key old mid → Updates same_key mid new key (Some more) → Adds old key group new
  added old mid new key own more group is pushed others updates q = put mid new key more updates q ∙ choose (same_key key q) refl
    where
      choose : (b : Bool) → same_key key q ≡ b → (if b then more else groups_at mid q) ≡ (if b then groups_at old key ++ group ∷ [] else groups_at old q)
      choose true e = pushed ∙ ap (λ (gs : List TextGroup). gs ++ group ∷ []) is
      choose false e = others q e

-- ONE OWNER MORE

eq_both : (a b : ℕ) → nat_eq a b ≡ nat_eq b a
eq_both a b = grind (arith, nat_tests)

eq_is : (a b : ℕ) → nat_eq a b ≡ true → a ≡ b
eq_is a b h = grind (arith, nat_tests)

eq_suc : (a b : ℕ) → nat_eq (a + 1) (b + 1) ≡ nat_eq b a
eq_suc a b = grind (arith, nat_tests)

eq_none : (a : ℕ) → nat_eq 0 (a + 1) ≡ false
eq_none a = grind (arith, nat_tests)

eq_some : (a : ℕ) → nat_eq (a + 1) 0 ≡ false
eq_some a = grind (arith, nat_tests)

and_true : (b : Bool) → (b && true) ≡ b
and_true true = refl
and_true false = refl

and_false : (b : Bool) → (b && false) ≡ false
and_false true = refl
and_false false = refl

-- keys that are the same
key_is : (a b : ℕ × ℕ) → same_key a b ≡ true → a ≡ b
key_is a b h = let parts = both_true (nat_eq a.0 b.0) (nat_eq a.1 b.1) h in λ d. (eq_is a.0 b.0 parts.0 d, eq_is a.1 b.1 parts.1 d)

-- an owner of a text is a thing's where their keys are the same
module _ (key : ℕ × ℕ) (place : ℕ) where
  own_key : (t : Thing) (g : Owner) → placed g ≡ Some (key, place) → (same_key key (key_of t) ≡ is_things t g) × (place_of g ≡ place)
  own_key t owner.Free is = absurd (cc)
  own_key t (owner.Member m) is = absurd (cc)
  own_key (thing.Deck n) (owner.Deck m p) is =
      let e : (key, place) ≡ ((m.0, 0), p) = cc in
      (ap (λ (x : (ℕ × ℕ) × ℕ). same_key x.0 (n.0, 0)) e ∙ and_true (nat_eq m.0 n.0), sym (ap (λ (x : (ℕ × ℕ) × ℕ). x.1) e))
  own_key (thing.Deck n) (owner.Output m j p) is =
      let e : (key, place) ≡ ((m.0, j.0 + 1), p) = cc in
      (ap (λ (x : (ℕ × ℕ) × ℕ). same_key x.0 (n.0, 0)) e ∙ ap (λ (b : Bool). nat_eq m.0 n.0 && b) (eq_some j.0) ∙ and_false (nat_eq m.0 n.0), sym (ap (λ (x : (ℕ × ℕ) × ℕ). x.1) e))
  own_key (thing.Output n i) (owner.Deck m p) is =
      let e : (key, place) ≡ ((m.0, 0), p) = cc in
      (ap (λ (x : (ℕ × ℕ) × ℕ). same_key x.0 (n.0, i.0 + 1)) e ∙ ap (λ (b : Bool). nat_eq m.0 n.0 && b) (eq_none i.0) ∙ and_false (nat_eq m.0 n.0), sym (ap (λ (x : (ℕ × ℕ) × ℕ). x.1) e))
  own_key (thing.Output n i) (owner.Output m j p) is =
      let e : (key, place) ≡ ((m.0, j.0 + 1), p) = cc in
      (ap (λ (x : (ℕ × ℕ) × ℕ). same_key x.0 (n.0, i.0 + 1)) e ∙ ap (λ (b : Bool). nat_eq m.0 n.0 && b) (eq_suc j.0 i.0 ∙ eq_both i.0 j.0), sym (ap (λ (x : (ℕ × ℕ) × ℕ). x.1) e))

-- an owner of no text is no thing's
no_key : (t : Thing) (g : Owner) → placed g ≡ None → is_things t g ≡ false
no_key (thing.Deck n) owner.Free is = refl
no_key (thing.Deck n) (owner.Member m) is = refl
no_key (thing.Deck n) (owner.Deck m p) is = absurd (cc)
no_key (thing.Deck n) (owner.Output m j p) is = absurd (cc)
no_key (thing.Output n i) owner.Free is = refl
no_key (thing.Output n i) (owner.Member m) is = refl
no_key (thing.Output n i) (owner.Deck m p) is = absurd (cc)
no_key (thing.Output n i) (owner.Output m j p) is = absurd (cc)

with_first : (b c : Bool) (x y : TextGroup) (xs : List TextGroup) → (if b then x ∷ (if c then xs ++ y ∷ [] else xs) else (if c then xs ++ y ∷ [] else xs)) ≡ (if c then (if b then x ∷ xs else xs) ++ y ∷ [] else (if b then x ∷ xs else xs))
with_first true true x y xs = refl
with_first true false x y xs = refl
with_first false true x y xs = refl
with_first false false x y xs = refl

-- the groups with those of one owner more
text_more : (t : Thing) (at : ℕ) (gs : List Owner) (g : Owner) → text_groups t at (gs ++ g ∷ []) ≡ (if is_things t g then text_groups t at gs ++ record { place = place_of g; group = record { 0 = at + length gs } } ∷ [] else text_groups t at gs)
text_more t at [] g =
    let here : at + 0 ≡ at = omega arith in
    ap (λ (n : ℕ). if is_things t g then record { place = place_of g; group = record { 0 = n } } ∷ [] else []) (sym here)
text_more t at (x ∷ gs) g =
    let here : at + 1 + length gs ≡ at + suc (length gs) = omega arith in
    let first : TextGroup = record { place = place_of x; group = record { 0 = at } } in
    let last : ℕ → TextGroup = λ n. record { place = place_of g; group = record { 0 = n } } in
    ap (λ (rest : List TextGroup). if is_things t x then first ∷ rest else rest) (text_more t (at + 1) gs g)
    ∙ with_first (is_things t x) (is_things t g) first (last (at + 1 + length gs)) (text_groups t (at + 1) gs)
    ∙ ap (λ (n : ℕ). if is_things t g then (if is_things t x then first ∷ text_groups t (at + 1) gs else text_groups t (at + 1) gs) ++ last n ∷ [] else (if is_things t x then first ∷ text_groups t (at + 1) gs else text_groups t (at + 1) gs)) here

-- the same from the first group on
text_last : (t : Thing) (gs : List Owner) (g : Owner) → text_groups t 0 (gs ++ g ∷ []) ≡ (if is_things t g then text_groups t 0 gs ++ record { place = place_of g; group = record { 0 = length gs } } ∷ [] else text_groups t 0 gs)
text_last t gs g =
    let here : 0 + length gs ≡ length gs = omega arith in
    text_more t 0 gs g ∙ ap (λ (n : ℕ). if is_things t g then text_groups t 0 gs ++ record { place = place_of g; group = record { 0 = n } } ∷ [] else text_groups t 0 gs) here

-- the group of one owner more is added under its key
pub one_more : (old new : TextGroups) (before : List Owner) (g : Owner) (key : ℕ × ℕ) (place : ℕ) → placed g ≡ Some (key, place) → Adds old.groups key (record { place = place; group = record { 0 = length before } }) new.groups → AreTextGroups old before → AreTextGroups new (before ++ g ∷ [])
one_more old new before g key place is adds are t = choose (is_things t g) refl ∙ sym (text_last t before g)
  where
    choose : (b : Bool) → is_things t g ≡ b → groups_at new.groups (key_of t) ≡ (if b then text_groups t 0 before ++ record { place = place_of g; group = record { 0 = length before } } ∷ [] else text_groups t 0 before)
    choose true e =
        let own = own_key key place t g is in
        let same : same_key key (key_of t) ≡ true = own.0 ∙ e in
        let there = subst (λ (b : Bool). groups_at new.groups (key_of t) ≡ (if b then groups_at old.groups key ++ record { place = place; group = record { 0 = length before } } ∷ [] else groups_at old.groups (key_of t))) same (adds (key_of t)) in
        let was : groups_at old.groups key ≡ text_groups t 0 before = ap (groups_at old.groups) (key_is key (key_of t) same) ∙ are t in
        there ∙ ap (λ (gs : List TextGroup). gs ++ record { place = place; group = record { 0 = length before } } ∷ []) was
        ∙ ap (λ (p : ℕ). text_groups t 0 before ++ record { place = p; group = record { 0 = length before } } ∷ []) (sym own.1)
    choose false e =
        let own = own_key key place t g is in
        let other : same_key key (key_of t) ≡ false = own.0 ∙ e in
        subst (λ (b : Bool). groups_at new.groups (key_of t) ≡ (if b then groups_at old.groups key ++ record { place = place; group = record { 0 = length before } } ∷ [] else groups_at old.groups (key_of t))) other (adds (key_of t)) ∙ are t

-- an owner of no text adds none
pub none_more : (texts : TextGroups) (before : List Owner) (g : Owner) → placed g ≡ None → AreTextGroups texts before → AreTextGroups texts (before ++ g ∷ [])
none_more texts before g none are t =
    are t ∙ sym (subst (λ (b : Bool). text_groups t 0 (before ++ g ∷ []) ≡ (if b then text_groups t 0 before ++ record { place = place_of g; group = record { 0 = length before } } ∷ [] else text_groups t 0 before)) (no_key t g none) (text_last t before g))

-- IN THE ORDER OF PLACES

map_if : {X Y : Type 0} (xs : List X) (f : X → Y) (b : Bool) (x : X) → (if b then f x ∷ map f xs else map f xs) ≡ map f (if b then x ∷ xs else xs)
map_if xs f true x = refl
map_if xs f false x = refl

text_placed : (t : Thing) (at : ℕ) (gs : List Owner) → text_groups t at gs ≡ map (λ p. record { place = p.place; group = p.group }) (placed_from t at gs)
text_placed t at [] = refl
text_placed t at (g ∷ gs) =
    ap (λ (rest : List TextGroup). if is_things t g then record { place = place_of g; group = record { 0 = at } } ∷ rest else rest) (text_placed t (at + 1) gs)
    ∙ map_if (placed_from t (at + 1) gs) _ (is_things t g) _

-- items that have a place and a group, as an owner's groups have them
module _ {P : Type 0} (place : P → ℕ) (group : P → GroupNo) where
  abbrev as_text : P → TextGroup
  as_text p = record { place = place p; group = group p }

  inserted : (p q : P) (ps : List P) (b : Bool) → insert_by (λ (g : TextGroup). g.place) (as_text p) (map as_text ps) ≡ map as_text (insert_by place p ps) → (if b then as_text p ∷ as_text q ∷ map as_text ps else as_text q ∷ insert_by (λ (g : TextGroup). g.place) (as_text p) (map as_text ps)) ≡ map as_text (if b then p ∷ q ∷ ps else q ∷ insert_by place p ps)
  inserted p q ps true rest = refl
  inserted p q ps false rest = ap (λ (gs : List TextGroup). as_text q ∷ gs) rest

  insert_text : (p : P) (ps : List P) → insert_by (λ (g : TextGroup). g.place) (as_text p) (map as_text ps) ≡ map as_text (insert_by place p ps)
  insert_text p [] = refl
  insert_text p (q ∷ ps) = inserted p q ps (nat_le (place p) (place q)) (insert_text p ps)

  order_text : (ps : List P) → in_order (λ (g : TextGroup). g.place) (map as_text ps) ≡ map as_text (in_order place ps)
  order_text [] = refl
  order_text (p ∷ ps) = ap (insert_by (λ (g : TextGroup). g.place) (as_text p)) (order_text ps) ∙ insert_text p (in_order place ps)

  numbers_text : (ps : List P) → map (λ (g : TextGroup). g.group) (map as_text ps) ≡ map group ps
  numbers_text [] = refl
  numbers_text (p ∷ ps) = ap (λ (rest : List GroupNo). group p ∷ rest) (numbers_text ps)

numbers_in_order : {P : Type 0} (ps : List P) (place : P → ℕ) (group : P → GroupNo) → map (λ (g : TextGroup). g.group) (in_order (λ (g : TextGroup). g.place) (map (λ (p : P). record { place = place p; group = group p }) ps)) ≡ map group (in_order place ps)
numbers_in_order ps place group = ap (map (λ (g : TextGroup). g.group)) (order_text place group ps) ∙ numbers_text place group (in_order place ps)

-- the groups of a text in the order of their places
pub groups_in_order : (t : Thing) (gs : List Owner) → map (λ (g : TextGroup). g.group) (in_order (λ (g : TextGroup). g.place) (text_groups t 0 gs)) ≡ groups_of t gs
groups_in_order t gs =
    ap (λ (xs : List TextGroup). map (λ (g : TextGroup). g.group) (in_order (λ (g : TextGroup). g.place) xs)) (text_placed t 0 gs)
    ∙ numbers_in_order (placed_from t 0 gs) _ _
