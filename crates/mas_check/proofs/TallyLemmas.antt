-- What groups come to, one after another.
use Rattle.std.proofs.Common.{◌≡◌, ℕ, ◌+◌, ◌≤◌, ◌==◌, nat_eq, nat_lt, Bool, true, false, not, ◌&&◌, ◌||◌, if◌then◌else◌, List, [], ◌∷◌, ◌++◌, Result, Ok, Err, refl, sym, ap, ◌∙◌, subst, arith}
use Rattle.std.proofs.lemmas.Bool.{and_parts as both_true}
use Rattle.std.specs.Prelude.{max, is_some, unwrap_or, OnOk}
use Rattle.std.specs.List.{list_any}
use Rattle.std.proofs.lemmas.Bool.Decides.{nat_tests}
use Rattle.mas_types.specs.declared.ids.JobNo.{JobNo}
use Rattle.mas_types.specs.declared.ids.OutNo.{OutNo}
use Rattle.mas_types.specs.declared.queues.Owner.{Owner}
use Rattle.mas_types.specs.declared.queues.Owner.TheVariants as owner
use Rattle.ckpt_tables.specs.declared.tables.Tables.{Tables}
use Rattle.mas_check.specs.declared.groups.Group.{Group}
use Rattle.mas_check.specs.declared.tallies.Tally.{Tally}
use Rattle.mas_check.specs.declared.tallies.Tallies.{Tallies}
use Rattle.mas_check.specs.Groups as group
use Rattle.mas_check.specs.Groups.{has_text, same_text, is_behind, records_of, lines_of}
use Rattle.mas_check.specs.Tallies.{no_groups, with_group, place_of, last_of, tally_of, tally_in, Counts, same_key, tally_at, AreTallies, is_wrong_group}

pub on_ok : {T E P Q : Type 0} (r : Result T E) → (P → Q) → OnOk r P → OnOk r Q
on_ok (Ok x) f h = f h
on_ok (Err e) f h = tt

-- ONE MORE GROUP

last_more : (b c : Bool) (p q l : ℕ) → (if b then max p (if c then max l q else l) else (if c then max l q else l)) ≡ (if c then max (if b then max p l else l) q else (if b then max p l else l))
last_more true true p q l = omega arith
last_more true false p q l = refl
last_more false true p q l = refl
last_more false false p q l = refl

count_more : (b c : Bool) (p q l : ℕ) → ((if b then p else 0) + (if c then l + q else l)) ≡ (if c then (if b then p else 0) + l + q else (if b then p else 0) + l)
count_more true true p q l = omega arith
count_more true false p q l = refl
count_more false true p q l = omega arith
count_more false false p q l = refl

last_one_more : (o : Owner) (groups : List Group) (g : Group) → last_of o (groups ++ g ∷ []) ≡ (if same_text o g.owner then max (last_of o groups) (place_of g.owner) else last_of o groups)
last_one_more o [] g = by (same_text o g.owner) (place_of g.owner)
  where
    by : (b : Bool) (p : ℕ) → (if b then max p 0 else 0) ≡ (if b then max 0 p else 0)
    by true p = omega arith
    by false p = refl
last_one_more o (x ∷ groups) g =
    ap (λ (l : ℕ). if same_text o x.owner then max (place_of x.owner) l else l) (last_one_more o groups g)
    ∙ last_more (same_text o x.owner) (same_text o g.owner) (place_of x.owner) (place_of g.owner) (last_of o groups)

records_one_more : (o : Owner) (groups : List Group) (g : Group) → records_of o (groups ++ g ∷ []) ≡ (if same_text o g.owner then records_of o groups + unwrap_or g.records 0 else records_of o groups)
records_one_more o [] g = by (same_text o g.owner) (unwrap_or g.records 0)
  where
    by : (b : Bool) (p : ℕ) → (if b then p else 0) + 0 ≡ (if b then 0 + p else 0)
    by true p = omega arith
    by false p = refl
records_one_more o (x ∷ groups) g =
    ap (λ (l : ℕ). (if same_text o x.owner then unwrap_or x.records 0 else 0) + l) (records_one_more o groups g)
    ∙ count_more (same_text o x.owner) (same_text o g.owner) (unwrap_or x.records 0) (unwrap_or g.records 0) (records_of o groups)

choose : (b : Bool) (t : Tally) (p r : ℕ) → record { last = if b then max t.last p else t.last; records = if b then t.records + r else t.records } ≡ (if b then with_group t p r else t)
choose true t p r = refl
choose false t p r = refl

tally_one_more : (o : Owner) (groups : List Group) (g : Group) → tally_of o (groups ++ g ∷ []) ≡ (if same_text o g.owner then with_group (tally_of o groups) (place_of g.owner) (unwrap_or g.records 0) else tally_of o groups)
tally_one_more o groups g =
    (λ d. record { last = last_one_more o groups g d; records = records_one_more o groups g d })
    ∙ choose (same_text o g.owner) (tally_of o groups) (place_of g.owner) (unwrap_or g.records 0)

-- COUNTED IN

test_cases : (b : Bool) (P : Type 0) → (b ≡ true → P) → (b ≡ false → P) → P
test_cases true P at_true at_false = at_true refl
test_cases false P at_true at_false = at_false refl

eq_both : (a b : ℕ) → nat_eq a b ≡ nat_eq b a
eq_both a b = grind (arith, nat_tests)

eq_is : (a b : ℕ) → nat_eq a b ≡ true → a ≡ b
eq_is a b h = grind (arith, nat_tests)

-- the tally of a text, where its group may have been counted in
one_more : (o g : Owner) (groups : List Group) (x : Group) (new old at : Tally) (b : Bool) → new ≡ (if b then with_group at (place_of x.owner) (unwrap_or x.records 0) else old) → b ≡ same_text o x.owner → (b ≡ true → at ≡ old)
    → old ≡ tally_of o groups → new ≡ tally_of o (groups ++ x ∷ [])
one_more o g groups x new old at b counted same key before =
    counted
    ∙ test_cases b ((if b then with_group at (place_of x.owner) (unwrap_or x.records 0) else old) ≡ (if b then with_group old (place_of x.owner) (unwrap_or x.records 0) else old))
    (λ e. ap (λ (t : Tally). if b then with_group t (place_of x.owner) (unwrap_or x.records 0) else old) (key e))
    (λ e. rw e refl)
    ∙ (λ d. if same d then with_group (before d) (place_of x.owner) (unwrap_or x.records 0) else before d)
    ∙ sym (tally_one_more o groups x)

-- no group of the text
no_more : (o : Owner) (groups : List Group) (x : Group) (t : Tally) → same_text o x.owner ≡ false → t ≡ tally_of o groups → t ≡ tally_of o (groups ++ x ∷ [])
no_more o groups x t none before = before ∙ (let h = tally_one_more o groups x in sym (rw none at h))

module _ (old new : Tallies) (groups : List Group) (x : Group) (are : AreTallies old groups) where
  at_place : (now at before : Tally) (b : Bool) (p : ℕ) → place_of x.owner ≡ p → now ≡ (if b then with_group at p (unwrap_or x.records 0) else before) → now ≡ (if b then with_group at (place_of x.owner) (unwrap_or x.records 0) else before)
  at_place now at before b p e counted = subst (λ (q : ℕ). now ≡ (if b then with_group at q (unwrap_or x.records 0) else before)) (sym e) counted

  pub deck_counted : (n : JobNo) (p : ℕ) → x.owner ≡ owner.Deck n p → Counts nat_eq old.decks n.0 p (unwrap_or x.records 0) new.decks → new.prints ≡ old.prints → AreTallies new (groups ++ x ∷ [])
  deck_counted n p is counts same owner.Free = no_more owner.Free groups x no_groups refl (are owner.Free)
  deck_counted n p is counts same (owner.Member m) = no_more (owner.Member m) groups x no_groups refl (are (owner.Member m))
  deck_counted n p is counts same (owner.Deck m q) =
      one_more (owner.Deck m q) x.owner groups x (tally_at new (owner.Deck m q)) (tally_at old (owner.Deck m q)) (tally_in nat_eq old.decks n.0) (nat_eq n.0 m.0)
      (at_place (tally_at new (owner.Deck m q)) (tally_in nat_eq old.decks n.0) (tally_at old (owner.Deck m q)) (nat_eq n.0 m.0) p (ap (λ (w : Owner). place_of w) is) (counts m.0))
      (eq_both n.0 m.0 ∙ ap (λ (w : Owner). same_text (owner.Deck m q) w) (sym is))
      (λ e. ap (λ (k : ℕ). tally_in nat_eq old.decks k) (eq_is n.0 m.0 e)) (are (owner.Deck m q))
  deck_counted n p is counts same (owner.Output m i q) =
      ap (λ (s : _). tally_in same_key s (m.0, i.0)) same
      ∙ no_more (owner.Output m i q) groups x (tally_at old (owner.Output m i q)) (ap (λ (w : Owner). same_text (owner.Output m i q) w) is) (are (owner.Output m i q))

  pub output_counted : (n : JobNo) (i : OutNo) (p : ℕ) → x.owner ≡ owner.Output n i p → Counts same_key old.prints (n.0, i.0) p (unwrap_or x.records 0) new.prints → new.decks ≡ old.decks → AreTallies new (groups ++ x ∷ [])
  output_counted n i p is counts same owner.Free = no_more owner.Free groups x no_groups refl (are owner.Free)
  output_counted n i p is counts same (owner.Member m) = no_more (owner.Member m) groups x no_groups refl (are (owner.Member m))
  output_counted n i p is counts same (owner.Deck m q) =
      ap (λ (s : _). tally_in nat_eq s m.0) same
      ∙ no_more (owner.Deck m q) groups x (tally_at old (owner.Deck m q)) (ap (λ (w : Owner). same_text (owner.Deck m q) w) is) (are (owner.Deck m q))
  output_counted n i p is counts same (owner.Output m j q) =
      one_more (owner.Output m j q) x.owner groups x (tally_at new (owner.Output m j q)) (tally_at old (owner.Output m j q)) (tally_in same_key old.prints (n.0, i.0)) (nat_eq n.0 m.0 && nat_eq i.0 j.0)
      (at_place (tally_at new (owner.Output m j q)) (tally_in same_key old.prints (n.0, i.0)) (tally_at old (owner.Output m j q)) (nat_eq n.0 m.0 && nat_eq i.0 j.0) p (ap (λ (w : Owner). place_of w) is) (counts (m.0, j.0)))
      ((λ d. eq_both n.0 m.0 d && eq_both i.0 j.0 d) ∙ ap (λ (w : Owner). same_text (owner.Output m j q) w) (sym is))
      (λ e. let parts = both_true (nat_eq n.0 m.0) (nat_eq i.0 j.0) e in λ d. tally_in same_key old.prints (eq_is n.0 m.0 parts.0 d, eq_is i.0 j.0 parts.1 d)) (are (owner.Output m j q))

-- a group of no text
pub none_counted : (tallies : Tallies) (groups : List Group) (x : Group) → has_text x.owner ≡ false → AreTallies tallies groups → AreTallies tallies (groups ++ x ∷ [])
none_counted tallies groups x none are = λ o. no_more o groups x (tally_at tallies o) (apart o x.owner none) (are o)
  where
    apart : (o g : Owner) → has_text g ≡ false → same_text o g ≡ false
    apart owner.Free g h = refl
    apart (owner.Member m) g h = refl
    apart (owner.Deck n p) owner.Free h = refl
    apart (owner.Deck n p) (owner.Member m) h = refl
    apart (owner.Deck n p) (owner.Deck m q) h = absurd (cc)
    apart (owner.Deck n p) (owner.Output m i q) h = absurd (cc)
    apart (owner.Output n i p) owner.Free h = refl
    apart (owner.Output n i p) (owner.Member m) h = refl
    apart (owner.Output n i p) (owner.Deck m q) h = absurd (cc)
    apart (owner.Output n i p) (owner.Output m j q) h = absurd (cc)

-- FEW RECORDS

few_more : (b : Bool) (at old new : Tally) (p r : ℕ) → new ≡ (if b then with_group at p r else old) → (b ≡ true → at ≡ old) → r ≤ 65535 → new.records ≤ old.records + 65535
few_more true at old new p r is key few =
    let e : new.records ≡ at.records + r = ap (λ (t : Tally). t.records) is in
    let f : at.records ≡ old.records = ap (λ (t : Tally). t.records) (key refl) in
    omega arith
few_more false at old new p r is key few = let e : new.records ≡ old.records = ap (λ (t : Tally). t.records) is in omega arith

same_few : (a b : Tally) → b ≡ a → b.records ≤ a.records + 65535
same_few a b e = let f : b.records ≡ a.records = ap (λ (t : Tally). t.records) e in omega arith

module _ (old new : Tallies) (r : ℕ) (few : r ≤ 65535) where
  pub deck_few : (n : JobNo) (p : ℕ) → Counts nat_eq old.decks n.0 p r new.decks → new.prints ≡ old.prints → (o : Owner) → (tally_at new o).records ≤ (tally_at old o).records + 65535
  deck_few n p counts same owner.Free = omega arith
  deck_few n p counts same (owner.Member m) = omega arith
  deck_few n p counts same (owner.Deck m q) =
      few_more (nat_eq n.0 m.0) (tally_in nat_eq old.decks n.0) (tally_in nat_eq old.decks m.0) (tally_in nat_eq new.decks m.0) p r (counts m.0) (λ e. ap (λ (k : ℕ). tally_in nat_eq old.decks k) (eq_is n.0 m.0 e)) few
  deck_few n p counts same (owner.Output m i q) = same_few (tally_at old (owner.Output m i q)) (tally_at new (owner.Output m i q)) (ap (λ (s : _). tally_in same_key s (m.0, i.0)) same)

  pub output_few : (n : JobNo) (i : OutNo) (p : ℕ) → Counts same_key old.prints (n.0, i.0) p r new.prints → new.decks ≡ old.decks → (o : Owner) → (tally_at new o).records ≤ (tally_at old o).records + 65535
  output_few n i p counts same owner.Free = omega arith
  output_few n i p counts same (owner.Member m) = omega arith
  output_few n i p counts same (owner.Deck m q) = same_few (tally_at old (owner.Deck m q)) (tally_at new (owner.Deck m q)) (ap (λ (s : _). tally_in nat_eq s m.0) same)
  output_few n i p counts same (owner.Output m j q) =
      few_more (nat_eq n.0 m.0 && nat_eq i.0 j.0) (tally_in same_key old.prints (n.0, i.0)) (tally_in same_key old.prints (m.0, j.0)) (tally_in same_key new.prints (m.0, j.0)) p r (counts (m.0, j.0))
      (λ e. let parts = both_true (nat_eq n.0 m.0) (nat_eq i.0 j.0) e in λ d. tally_in same_key old.prints (eq_is n.0 m.0 parts.0 d, eq_is i.0 j.0 parts.1 d)) few

-- WHICH GROUP IS WRONG

behind_text : (a b : Owner) → is_behind a b ≡ (same_text a b && nat_lt (place_of a) (place_of b))
behind_text owner.Free b = refl
behind_text (owner.Member m) b = refl
behind_text (owner.Deck n p) owner.Free = refl
behind_text (owner.Deck n p) (owner.Member m) = refl
behind_text (owner.Deck n p) (owner.Deck m q) = refl
behind_text (owner.Deck n p) (owner.Output m j q) = refl
behind_text (owner.Output n i p) owner.Free = refl
behind_text (owner.Output n i p) (owner.Member m) = refl
behind_text (owner.Output n i p) (owner.Deck m q) = refl
behind_text (owner.Output n i p) (owner.Output m j q) = refl

greater : (b : Bool) (p q l : ℕ) → ((b && nat_lt p q) || nat_lt p l) ≡ nat_lt p (if b then max q l else l)
greater true p q l = grind (arith, nat_tests)
greater false p q l = refl

behind_last : (o : Owner) (groups : List Group) → list_any (λ g. is_behind o g.owner) groups ≡ nat_lt (place_of o) (last_of o groups)
behind_last o [] = none (place_of o)
  where
    none : (p : ℕ) → false ≡ nat_lt p 0
    none p = grind (arith, nat_tests)
behind_last o (g ∷ groups) =
    (λ d. behind_text o g.owner d || behind_last o groups d)
    ∙ greater (same_text o g.owner) (place_of o) (place_of g.owner) (last_of o groups)

pub wrong_group : (t : Tables) (tallies : Tallies) (groups : List Group) → AreTallies tallies groups → (g : Group) → is_wrong_group t tallies g ≡ group.is_wrong_group t groups g
wrong_group t tallies groups are g =
    let last = ap (λ (x : Tally). nat_lt (place_of g.owner) x.last) (are g.owner) ∙ sym (behind_last g.owner groups) in
    λ d. has_text g.owner && (not (is_some g.records) || (not (last d) && not ((are g.owner d).records == lines_of t g.owner)))
