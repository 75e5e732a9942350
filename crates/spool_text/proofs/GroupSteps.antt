-- The records of a group, one after another: pushed, or only checked.
use Rattle.std.proofs.Common.{◌≡◌, ◌≢◌, ℕ, suc, inl, inr, get_or, ◌+◌, ◌<◌, ◌≤◌, true, false, List, [], ◌∷◌, ◌++◌, length, take, drop, refl, ap, sym, ◌∙◌, arith, append_assoc, append-nil, drop-drop, Some, None}
use Rattle.std.specs.Prelude.{nat_le, ◌==◌, Option, option_map, is_some, IsSome}
use Rattle.std.proofs.Math.Seq.{take-append_seam}
use Rattle.std.proofs.lemmas.List.{drop_all, length-drop}
use Rattle.std.proofs.lemmas.Bool.Decides.{nat_tests, leb_tells}
use Rattle.mas_types.specs.Limits.{page_bytes}
use Rattle.mas_types.specs.Records.{end_byte, HoldsNoRecords, records_in}
use Rattle.brief_queue.specs.Records.{count_of, lines_of}
use Rattle.spool_text.specs.Reading.{AddsRecords, AddsFirst}
use Rattle.spool_text.proofs.Lists.{test_cases, drop_here}
use Rattle.spool_text.proofs.RecordLemmas.{and_first, begins_record, records_in-record, records_in-bad, held_from_read, read_from_held}

-- up to a byte of the group some records are added, and from there the others are read
pub record Pushed (group : List ℕ) (at : ℕ) (old new : List (List ℕ)) : Type 0 where
  pub before : List (List ℕ)
  pub others : List (List ℕ)
  pub whole : records_in group ≡ Some (before ++ others)
  pub left : records_in (drop at group) ≡ Some others
  pub is : new ≡ old ++ before

-- at the first byte of the group no record is added yet
pub push_none : (group : List ℕ) (old : List (List ℕ)) → IsSome (records_in group) → Pushed group 0 old old
push_none group old some = go (records_in group) refl some
  where
    go : (found : Option (List (List ℕ))) → records_in group ≡ found → IsSome found → Pushed group 0 old old
    go None e some = absurd (cc)
    go (Some lines) e some = record { before = []; others = lines; whole = e; left = e; is = sym (append-nil old) }

-- the records added so far are the first ones of the group
pub push_some : (group : List ℕ) (at : ℕ) (old new : List (List ℕ)) → Pushed group at old new → AddsFirst group old new
push_some group at old new p = record {
  lines = p.before ++ p.others;
  holds = held_from_read group (p.before ++ p.others) p.whole;
  count = length p.before;
  is = rw (take-append_seam p.before p.others) p.is;
}

-- no record is left
pub push_all : (group : List ℕ) (at : ℕ) (old new : List (List ℕ)) (bytes : List ℕ) → drop at group ≡ end_byte ∷ bytes → Pushed group at old new → AddsRecords group old new
push_all group at old new bytes here p =
    let none : p.others ≡ [] = (let w = rw here at p.left in cc) in
    let whole = rw (none, append-nil p.before) at p.whole in
    record { lines = p.before; holds = held_from_read group p.before whole; is = p.is }

-- where records are left, one begins
module _ (b : ℕ) (bytes : List ℕ) (others : List (List ℕ)) (go : (b == end_byte) ≡ false) (left : records_in (b ∷ bytes) ≡ Some others) where
  pub begins : begins_record b bytes ≡ true
  begins = test_cases (begins_record b bytes) (begins_record b bytes ≡ true) (λ e. e) (λ e. absurd (let w = records_in-bad b bytes go e in cc))

  begins_with : (found : Option (List (List ℕ))) → records_in (drop b bytes) ≡ found → option_map (λ lines. take b bytes ∷ lines) found ≡ Some others → (rest : List (List ℕ)) × (others ≡ take b bytes ∷ rest) × (records_in (drop b bytes) ≡ Some rest)
  begins_with None e is = absurd (cc)
  begins_with (Some rest) e is = (rest, cc, e)

  pub first_other : (rest : List (List ℕ)) × (others ≡ take b bytes ∷ rest) × (records_in (drop b bytes) ≡ Some rest)
  first_other = begins_with (records_in (drop b bytes)) refl (sym (records_in-record b bytes go begins) ∙ left)

-- one more record of the group was added
push_next : (group : List ℕ) (at b : ℕ) (old now new rest : List (List ℕ)) (p : Pushed group at old now) → p.others ≡ take b (drop (at + 1) group) ∷ rest
    → records_in (drop b (drop (at + 1) group)) ≡ Some rest → new ≡ now ++ take b (drop (at + 1) group) ∷ [] → Pushed group (at + 1 + b) old new
push_next group at b old now new rest p first left is =
    let line = take b (drop (at + 1) group) in
    let whole = rw first at p.whole in
    let added = rw p.is at is in
    record {
      before = p.before ++ line ∷ [];
      others = rest;
      whole = rw (append_assoc p.before (take b (drop (at + 1) group) ∷ []) rest) whole;
      left = rw (← drop-drop) left;
      is = rw (← append_assoc old p.before (take b (drop (at + 1) group) ∷ [])) added;
    }

pub push_one : (group : List ℕ) (at b : ℕ) (old now new : List (List ℕ)) → drop at group ≡ b ∷ drop (at + 1) group → (b == end_byte) ≡ false
    → new ≡ now ++ take b (drop (at + 1) group) ∷ [] → Pushed group at old now → Pushed group (at + 1 + b) old new
push_one group at b old now new here go is p =
    let first = first_other b (drop (at + 1) group) p.others go (rw here at p.left) in
    push_next group at b old now new first.0 p first.1 first.2 is

-- where something is read, bytes are left
something_left : (group : List ℕ) (at : ℕ) (rest : List (List ℕ)) → records_in (drop at group) ≡ Some rest → at < length group
something_left group at rest left =
    elim (leb_tells (suc at) (length group)) [
      | inl w ↦ w.1
      | inr w ↦ let none : drop at group ≡ [] = drop_all at group (omega (arith, w.1)) in absurd (let e = rw none at left in cc)
    ]

-- one more record of a page was read
pub push_step : (group : List ℕ) (at : ℕ) (old now new : List (List ℕ)) → length group ≡ page_bytes → at < page_bytes → get_or group at 0 ≢ end_byte
    → new ≡ now ++ take (get_or group at 0) (drop (at + 1) group) ∷ [] → Pushed group at old now
    → (at + 1 + get_or group at 0 < page_bytes) × Pushed group (at + 1 + get_or group at 0) old new
push_step group at old now new page inside further is p =
    let b = get_or group at 0 in
    let here : drop at group ≡ b ∷ drop (at + 1) group = drop_here group at (omega arith) 0 in
    let go : (b == end_byte) ≡ false = grind (arith, nat_tests) in
    let next = push_one group at (get_or group at 0) old now new here go is p in
    (omega (arith, something_left group (at + 1 + get_or group at 0) next.others next.left), next)

-- CHECKED WITHOUT BEING PUSHED

-- before the first record no record is counted
pub counted_none : (group : List ℕ) → option_map (λ n. 0 + n) (count_of (records_in (drop 0 group))) ≡ count_of (records_in group)
counted_none group = go (records_in group)
  where
    go : (found : Option (List (List ℕ))) → option_map (λ n. 0 + n) (count_of found) ≡ count_of found
    go None = refl
    go (Some lines) = ap Some (omega arith)

one_more : (count : ℕ) (line : List ℕ) (found : Option (List (List ℕ))) → option_map (λ n. count + 1 + n) (count_of found) ≡ option_map (λ n. count + n) (count_of (option_map (λ lines. line ∷ lines) found))
one_more count line None = refl
one_more count line (Some lines) = ap Some (omega arith)

-- past a record one more is counted
pub check_step : (group : List ℕ) (at count : ℕ) → length group ≡ page_bytes → at < page_bytes → get_or group at 0 ≢ end_byte
    → begins_record (get_or group at 0) (drop (at + 1) group) ≡ true
    → (at + (1 + get_or group at 0) ≤ page_bytes) × (option_map (λ n. count + 1 + n) (count_of (records_in (drop (at + (1 + get_or group at 0)) group))) ≡ option_map (λ n. count + n) (count_of (records_in (drop at group))))
check_step group at count page inside further fits =
    let b = get_or group at 0 in
    let here : drop at group ≡ b ∷ drop (at + 1) group = drop_here group at (omega arith) 0 in
    let go : (b == end_byte) ≡ false = grind (arith, nat_tests) in
    let size : nat_le b (length (drop (at + 1) group)) ≡ true = and_first _ _ fits in
    let room : b ≤ length (drop (at + 1) group) = grind (arith, nat_tests) in
    let next : at + (1 + b) ≡ at + 1 + b = omega arith in
    let read = records_in-record (get_or group at 0) (drop (at + 1) group) go fits in
    let same : option_map (λ n. count + 1 + n) (count_of (records_in (drop b (drop (at + 1) group)))) ≡ option_map (λ n. count + n) (count_of (records_in (drop at group))) =
    rw here (one_more count (take b (drop (at + 1) group)) (records_in (drop b (drop (at + 1) group))) ∙ ap (λ (found : Option (List (List ℕ))). option_map (λ n. count + n) (count_of found)) (sym read)) in
    (omega (arith, length-drop (at + 1) group), rw (next, ← drop-drop) same)

-- where bytes begin no record none is counted
pub counted_bad : (group : List ℕ) (at count : ℕ) → at < length group → get_or group at 0 ≢ end_byte → begins_record (get_or group at 0) (drop (at + 1) group) ≡ false
    → option_map (λ n. count + n) (count_of (records_in (drop at group))) ≡ None
counted_bad group at count inside further bad =
    let b = get_or group at 0 in
    let here : drop at group ≡ b ∷ drop (at + 1) group = drop_here group at inside 0 in
    let go : (b == end_byte) ≡ false = grind (arith, nat_tests) in
    rw (here, records_in-bad b (drop (at + 1) group) go bad) refl

-- at the byte after the records all are counted
pub counted_end : (group : List ℕ) (at count : ℕ) → at < length group → get_or group at 0 ≡ end_byte → option_map (λ n. count + n) (count_of (records_in (drop at group))) ≡ Some count
counted_end group at count inside is =
    let here : drop at group ≡ end_byte ∷ drop (at + 1) group = rw (drop_here group at inside 0, is) refl in
    rw here (ap Some (omega arith))

-- behind the last byte there are none
pub counted_out : (group : List ℕ) (at count : ℕ) → length group ≤ at → option_map (λ n. count + n) (count_of (records_in (drop at group))) ≡ None
counted_out group at count out = let none : drop at group ≡ [] = drop_all at group out in rw none refl

-- what isn't read isn't held
pub not_held : (group : List ℕ) → is_some (records_in group) ≡ false → HoldsNoRecords group
not_held group none = λ lines held. absurd (let read = read_from_held group lines held in let w = rw read at none in cc)

-- records are counted where there are any
pub some_counted : (found : Option (List (List ℕ))) → is_some (count_of found) ≡ is_some found
some_counted None = refl
some_counted (Some lines) = refl

-- what is added of a group whose records are counted
pub adds_counted : (group : List ℕ) (old new : List (List ℕ)) (count : ℕ) → count_of (records_in group) ≡ Some count → new ≡ old ++ lines_of (records_in group) → AddsRecords group old new
adds_counted group old new count counted is = go (records_in group) refl counted is
  where
    go : (found : Option (List (List ℕ))) → records_in group ≡ found → count_of found ≡ Some count → new ≡ old ++ lines_of found → AddsRecords group old new
    go None e counted is = absurd (cc)
    go (Some lines) e counted is = record { lines = lines; holds = held_from_read group lines e; is = is }

-- where none are counted none are held
pub none_counted : (group : List ℕ) → count_of (records_in group) ≡ None → HoldsNoRecords group
none_counted group none = not_held group (go (records_in group) none)
  where
    go : (found : Option (List (List ℕ))) → count_of found ≡ None → is_some found ≡ false
    go None none = refl
    go (Some lines) none = absurd (cc)
