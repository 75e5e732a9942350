-- Slots that are read one after another.
use Rattle.std.proofs.Common.{◌≡◌, ℕ, ◌+◌, ◌-◌, ◌*◌, ◌≤◌, ◌<◌, true, List, [], ◌∷◌, length, get_or, take, drop, slice_set, refl, sym, ap, subst, ◌∙◌, Option, None, Some, Result, Ok, Err, false, All, arith}
use Rattle.std.proofs.lemmas.Bool.{lt-ltb, ltb-true as lt}
use Rattle.std.specs.Prelude.{not, is_some, IfSome, Bool}
use Rattle.std.specs.List.{list_all}
use Rattle.std.proofs.lemmas.Bool.Decides.{nat_tests}
use Rattle.std.proofs.lemmas.List.{length-drop, length-set, take_all, take_more_set}
use Rattle.std.proofs.lemmas.List.Elements.{All-cons, All-head, All-nil, All-tail}
use Rattle.lay_bytes.proofs.Pieces.{both_from, both_true}
use Rattle.lay_bytes.specs.declared.records.JobRec.{JobRec}
use Rattle.lay_bytes.specs.declared.records.OutRec.{OutRec}
use Rattle.lay_bytes.specs.Bytes.{are_zeros}
use Rattle.lay_bytes.specs.Slots.{IsJobRec, IsOutRec, IfUsed}
use Rattle.ckpt_tables.specs.declared.tables.Tables.{Tables}
use Rattle.ckpt_pages.specs.Reading.{AreEntries}
use Rattle.ckpt_pages.specs.Testing.{SomeEntries, SpellsOne}
use Rattle.ckpt_pages.proofs.EntryLemmas.{IsReadTo, entry_of, read_all, read_none, read_step, tail_of}
use Rattle.page_tables.specs.Kinds.{IsJobUnder, IsOutputUnder, is_job_below, is_output_below}
use Rattle.page_tables.specs.Bringing.{AreOrdersBelow, are_orders_low}

-- what was read has an order below this one, where the test says so
pub job_under : (order : ℕ) (job : Option JobRec) → IfUsed IsJobRec job → is_job_below order job ≡ true → IfUsed (IsJobUnder order) job
job_under order None fit is = tt
job_under order (Some j) fit is = record { fit = fit; below = lt j.order order is }

pub output_under : (order : ℕ) (output : Option OutRec) → IfUsed IsOutRec output → is_output_below order output ≡ true → IfUsed (IsOutputUnder order) output
output_under order None fit is = tt
output_under order (Some o) fit is = record { fit = fit; below = lt o.order order is }

pub under_job : (order : ℕ) (job : Option JobRec) → IfUsed (IsJobUnder order) job → is_job_below order job ≡ true
under_job order None h = refl
under_job order (Some j) h = lt-ltb j.order order h.below

pub under_output : (order : ℕ) (output : Option OutRec) → IfUsed (IsOutputUnder order) output → is_output_below order output ≡ true
under_output order None h = refl
under_output order (Some o) h = lt-ltb o.order order h.below

-- WHAT A CALL FOUND

pub not_ok : {A E : Type 0} (e : E) (x : A) → ◌≡◌ {A = Result A E} (Err e) (Ok x) → ⊥
not_ok e x wrong = cc

pub none_of : {X : Type 0} (r : Option X) (x : X) (none : Bool) → is_some r ≡ not none → none ≡ true → r ≡ Some x → ⊥
none_of None x none is so e = cc
none_of (Some y) x none is so e = let wrong : not none ≡ false = ap not so in cc

pub some_of : {X : Type 0} (slot : X → List ℕ) (Fits : X → Type 0) (bytes : List ℕ) (r : Option X) (none : Bool) → is_some r ≡ not none → none ≡ false → IfSome r (λ x. Fits x × (bytes ≡ slot x)) → SpellsOne Fits slot bytes
some_of slot Fits bytes None none is so found = absurd (let wrong : not none ≡ true = ap not so in cc)
some_of slot Fits bytes (Some y) none is so found = (y, found.0, found.1)

-- SLOTS, ONE AFTER ANOTHER

-- so many items were written, and all are as many
pub record AreTakenTo {X : Type 0} (slot : X → List ℕ) (Fits : X → Type 0) (w count i at : ℕ) (bytes : List ℕ) (items : List X) : Type 0 where
  pub len : length items ≡ count
  pub reads : IsReadTo slot Fits w i at bytes [] (take i items)

module _ {X : Type 0} (slot : X → List ℕ) (Fits : X → Type 0) (w : ℕ) (long : (x : X) → Fits x → length (slot x) ≡ w) where
  -- a slot of bytes that are slots
  pub one_of : (count i at w' : ℕ) (bytes : List ℕ) → SomeEntries slot Fits count bytes → i < count → at ≡ w * i → w' ≡ w → SpellsOne Fits slot (take (at + w' - at) (drop at bytes))
  one_of count i at w' bytes some lt place e = by_items some.0 some.1
    where
      by_items : (items : List X) → AreEntries slot Fits count bytes items → SpellsOne Fits slot (take (at + w' - at) (drop at bytes))
      by_items [] are = absurd (omega (arith, are.len, lt))
      by_items (x ∷ xs) are =
          let p = entry_of slot Fits w long count i at bytes (x ∷ xs) x are lt place in
          let n : at + w' - at ≡ w = omega (arith, e) in
          (get_or (x ∷ xs) i x, p.0, ap (λ (k : ℕ). take k (drop at bytes)) n ∙ p.1)

  pub none_taken : (count : ℕ) (bytes : List ℕ) (items : List X) → length items ≡ count → AreTakenTo slot Fits w count 0 0 bytes items
  none_taken count bytes items len = record { len = len; reads = read_none slot Fits w bytes [] }

  pub one_taken : (count i at w1 w2 : ℕ) (bytes : List ℕ) (items : List X) (x : X) → AreTakenTo slot Fits w count i at bytes items → i < count → w1 ≡ w → w2 ≡ w → Fits x × (take (at + w1 - at) (drop at bytes) ≡ slot x) → AreTakenTo slot Fits w count (i + 1) (at + w2) bytes (slice_set items i x)
  one_taken count i at w1 w2 bytes items x h lt e1 e2 found = record {
    len = length-set items i x ∙ h.len;
    reads = read_step slot Fits w w1 w2 i at bytes [] (take i items) (take (i + 1) (slice_set items i x)) x h.reads e1 e2 found (take_more_set items i x (omega (arith, lt, h.len)));
  }

  pub all_taken : (count i at : ℕ) (bytes : List ℕ) (items : List X) → AreTakenTo slot Fits w count i at bytes items → i ≤ count → count ≤ i → w * count ≤ length bytes → SomeEntries slot Fits count bytes → AreEntries slot Fits count bytes items
  all_taken count i at bytes items h le ge room some =
      let same : i ≡ count = omega (arith, le, ge) in
      let place : at ≡ w * count = h.reads.place ∙ ap (λ (k : ℕ). w * k) same in
      let zeros = tail_of slot Fits w long count at bytes some.0 some.1 place in
      let whole : take i items ≡ items = take_all i items (omega (arith, h.len, ge)) in
      let is = subst (λ (xs : List X). IsReadTo slot Fits w i at bytes [] xs) whole h.reads in
      let cut : take (length bytes - at) (drop at bytes) ≡ drop at bytes = take_all (length bytes - at) (drop at bytes) (omega (arith, length-drop at bytes)) in
      let r = read_all slot Fits w count i at bytes [] items is le ge room (sym (ap are_zeros cut ∙ zeros)) in
      subst (λ (xs : List X). AreEntries slot Fits count bytes xs) (sym r.is) r.reads

-- tests over slots, and what they say of each
pub jobs_low : (order : ℕ) (slots : List (Option JobRec)) → list_all (is_job_below order) slots ≡ true → All (IfUsed (λ j. j.order < order)) slots
jobs_low order [] is = All-nil (IfUsed (λ j. j.order < order))
jobs_low order (x ∷ xs) is =
    let both = both_true (is_job_below order x) (list_all (is_job_below order) xs) is in
    All-cons (IfUsed (λ j. j.order < order)) x xs (one x both.0) (jobs_low order xs both.1)
  where
    one : (x : Option JobRec) → is_job_below order x ≡ true → IfUsed (λ j. j.order < order) x
    one None h = tt
    one (Some j) h = grind (arith, nat_tests)

pub low_jobs : (order : ℕ) (slots : List (Option JobRec)) → All (IfUsed (λ j. j.order < order)) slots → list_all (is_job_below order) slots ≡ true
low_jobs order [] h = refl
low_jobs order (x ∷ xs) h = both_from _ _ (one x (All-head (IfUsed (λ j. j.order < order)) x xs h)) (low_jobs order xs (All-tail (IfUsed (λ j. j.order < order)) x xs h))
  where
    one : (x : Option JobRec) → IfUsed (λ j. j.order < order) x → is_job_below order x ≡ true
    one None h = refl
    one (Some j) h = grind (arith, nat_tests)

pub outputs_low : (order : ℕ) (slots : List (Option OutRec)) → list_all (is_output_below order) slots ≡ true → All (IfUsed (λ o. o.order < order)) slots
outputs_low order [] is = All-nil (IfUsed (λ o. o.order < order))
outputs_low order (x ∷ xs) is =
    let both = both_true (is_output_below order x) (list_all (is_output_below order) xs) is in
    All-cons (IfUsed (λ o. o.order < order)) x xs (one x both.0) (outputs_low order xs both.1)
  where
    one : (x : Option OutRec) → is_output_below order x ≡ true → IfUsed (λ o. o.order < order) x
    one None h = tt
    one (Some o) h = grind (arith, nat_tests)

pub low_outputs : (order : ℕ) (slots : List (Option OutRec)) → All (IfUsed (λ o. o.order < order)) slots → list_all (is_output_below order) slots ≡ true
low_outputs order [] h = refl
low_outputs order (x ∷ xs) h = both_from _ _ (one x (All-head (IfUsed (λ o. o.order < order)) x xs h)) (low_outputs order xs (All-tail (IfUsed (λ o. o.order < order)) x xs h))
  where
    one : (x : Option OutRec) → IfUsed (λ o. o.order < order) x → is_output_below order x ≡ true
    one None h = refl
    one (Some o) h = grind (arith, nat_tests)

pub tables_low : (t : Tables) → are_orders_low t ≡ true → AreOrdersBelow t.order t
tables_low t is =
    let both = both_true (list_all (is_job_below t.order) t.jobs) (list_all (is_output_below t.order) t.outputs) is in
    record { jobs = jobs_low t.order t.jobs both.0; outputs = outputs_low t.order t.outputs both.1 }

pub low_tables : (t : Tables) → AreOrdersBelow t.order t → are_orders_low t ≡ true
low_tables t h = both_from _ _ (low_jobs t.order t.jobs h.jobs) (low_outputs t.order t.outputs h.outputs)
