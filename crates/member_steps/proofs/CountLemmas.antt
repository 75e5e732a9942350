-- The counts of printed lines after calls.
use Rattle.std.proofs.Common.{◌≡◌, ◌∙◌, ℕ, Bool, true, false, if◌then◌else◌, ◌||◌, List, [], ◌++◌, All, Result, Ok, Err, ap, append-nil, refl, sym, subst}
use Rattle.std.specs.List.{list_any}
use Rattle.std.specs.Prelude.{OnOk}
use Rattle.std.proofs.lemmas.List.{get_or-set_other}
use Rattle.std.proofs.lemmas.List.Folds.{list_any-append}
use Rattle.mas_types.specs.declared.ids.MemberId.{MemberId}
use Rattle.mas_types.specs.declared.journals.Entry.{Entry}
use Rattle.paper_laws.specs.Counts.{begins_anew, counts_after}
use Rattle.mas_complex.specs.Paper.{counts_of, printed_after}
use Rattle.paper_laws.proofs.Bools.{test_cases}
use Rattle.mas_complex.proofs.Papers.{counts_set}
use Rattle.member_node.specs.declared.member.NodeNo.{NodeNo}
use Rattle.member_steps.specs.Counting.{HasCounted}

ok_only : {T A : Type 0} (r : Result T NodeNo) → A → OnOk r A
ok_only (Ok done) a = a
ok_only (Err why) a = tt

-- nothing was counted
pub counted_none : {T : Type 0} (by : MemberId) (was now : List ℕ) (r : Result T NodeNo) → now ≡ was → HasCounted by [] was now r
counted_none by was now r same = record { own = ok_only r (ap (λ (l : List ℕ). counts_of l by) same); others = λ m other. ap (λ (l : List ℕ). counts_of l m) same }

-- nor was anything kept that a call was to keep
pub counted_error : {T : Type 0} (by : MemberId) (es : List Entry) (was now : List ℕ) (why : NodeNo) → now ≡ was → HasCounted {T = T} by es was now (Err why)
counted_error by es was now why same = record { own = tt; others = λ m other. ap (λ (l : List ℕ). counts_of l m) same }

abbrev member_of : ℕ → MemberId
member_of n = record { 0 = n }

-- a batch of the member began
pub counted_batch : {T : Type 0} (by : MemberId) (es : List Entry) (was now : List ℕ) (r : Result T NodeNo) → All (λ e. e.by ≡ by) es → now ≡ printed_after by es was → HasCounted by es was now r
counted_batch by es was now r own same = record {
  own = ok_only r (ap (λ (l : List ℕ). counts_of l by) same ∙ counts_set by by es was own);
  others = λ m other. ap (λ (l : List ℕ). counts_of l m) same ∙ apart m other;
} where
  apart : (m : MemberId) → (m ≡ by → ⊥) → counts_of (printed_after by es was) m ≡ counts_of was m
  apart m other =
      test_cases (list_any (begins_anew by) es) (counts_of (printed_after by es was) m ≡ counts_of was m)
      (λ a. rw a (get_or-set_other was by.0 m.0 0 0 (λ same. other (ap member_of same))))
      (λ a. rw a refl)

after_both : (by : MemberId) (es more : List Entry) (was : ℕ) → (if list_any (begins_anew by) more then 0 else (if list_any (begins_anew by) es then 0 else was)) ≡ (if list_any (begins_anew by) (es ++ more) then 0 else was)
after_both by es more was = joined (list_any (begins_anew by) es) (list_any (begins_anew by) more) ∙ ap (λ (b : Bool). if b then 0 else was) (sym (list_any-append (begins_anew by) es more)) where
  joined : (a b : Bool) → (if b then 0 else (if a then 0 else was)) ≡ (if a || b then 0 else was)
  joined true true = refl
  joined true false = refl
  joined false true = refl
  joined false false = refl

-- one call after another
pub counted_then : {S T : Type 0} (by : MemberId) (es more : List Entry) (was mid now : List ℕ) (s : S) (r : Result T NodeNo) → HasCounted by es was mid (Ok s) → HasCounted by more mid now r → HasCounted by (es ++ more) was now r
counted_then by es more was mid now s r one two = record { own = by_answer r two.own; others = λ m other. two.others m other ∙ one.others m other } where
  by_answer : {T : Type 0} (r : Result T NodeNo) → OnOk r (counts_of now by ≡ counts_after more (counts_of mid) by) → OnOk r (counts_of now by ≡ counts_after (es ++ more) (counts_of was) by)
  by_answer (Ok t) own = own ∙ ap (λ (n : ℕ). if list_any (begins_anew by) more then 0 else n) one.own ∙ after_both by es more (counts_of was by)
  by_answer (Err why) own = tt

-- by an answer of another type

pub counted_up : {S T : Type 0} (by : MemberId) (es fs : List Entry) (was now : List ℕ) (r : Result S NodeNo) (why : NodeNo) → HasCounted by es was now r → HasCounted {T = T} by fs was now (Err why)
counted_up by es fs was now r why c = record { own = tt; others = c.others }

pub counted_ok : {S T : Type 0} (by : MemberId) (es : List Entry) (was now : List ℕ) (s : S) (t : T) → HasCounted {T = S} by es was now (Ok s) → HasCounted {T = T} by es was now (Ok t)
counted_ok by es was now s t c = record { own = c.own; others = c.others }

-- nothing was counted after it, whatever the answer of what followed
pub counted_on : {S T : Type 0} (by : MemberId) (es : List Entry) (was mid now : List ℕ) (s : S) (r : Result T NodeNo) → now ≡ mid → HasCounted by es was mid (Ok s) → HasCounted by es was now r
counted_on by es was mid now s r same c = record { own = ok_only r (ap (λ (l : List ℕ). counts_of l by) same ∙ c.own); others = λ m other. ap (λ (l : List ℕ). counts_of l m) same ∙ c.others m other }

-- by the name of its member
pub counted_by : {T : Type 0} (n by : MemberId) (es : List Entry) (was now : List ℕ) (r : Result T NodeNo) → n ≡ by → HasCounted n es was now r → HasCounted by es was now r
counted_by {T} n by es was now r same c = subst (λ (i : MemberId). HasCounted {T = T} i es was now r) same c

-- one batch of a sitting
pub counted_one : {T : Type 0} (by : MemberId) (es : List Entry) (was now : List ℕ) (r : Result T NodeNo) → HasCounted by es was now r → HasCounted by (es ++ []) was now r
counted_one {T} by es was now r c = subst (λ (l : List Entry). HasCounted {T = T} by l was now r) (sym (append-nil es)) c
