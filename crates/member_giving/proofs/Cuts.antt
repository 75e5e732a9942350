-- Batches that are written of what is still to come: how they begin, and whose their entries are.
use Rattle.member_giving.proofs.Names.{◌≡◌, ℕ, ◌≤◌, ◌<◌, Bool, true, false, if◌then◌else◌, List, [], ◌∷◌, ◌++◌, length, All, ◌∙◌, append_assoc, append-nil, ap, refl, sym, subst, arith, length-append, nat_tests, All-append, All-cons, All-head, All-nil, All-tail, MemberId, Entry, test_cases, AreOf, batch_of, cut, cut_after, is_full, all_entries, after_full, full_of}
use Rattle.member_giving.proofs.Leaving.{StartsAs}

pub none_batch : (es : List Entry) → length es ≡ 0 → es ≡ []
none_batch [] none = refl
none_batch (e ∷ es) none = absurd (omega (arith, none))

pub batch_entries : (es : List Entry) → all_entries (batch_of es) ≡ es
batch_entries [] = refl
batch_entries (e ∷ es) = append-nil (e ∷ es)

pub full_batch : (es : List Entry) → is_full es ≡ true → es ∷ [] ≡ batch_of es
full_batch [] full = absurd (cc)
full_batch (e ∷ es) full = refl

-- where nothing more comes a full batch is written once
pub cut_end : (es : List Entry) → cut_after es (λ unwritten. cut unwritten []) ≡ batch_of es
cut_end es =
    test_cases (is_full es) (cut_after es (λ unwritten. cut unwritten []) ≡ batch_of es)
    (λ e. rw e (full_batch es e))
    (λ e. rw e refl)

-- FULL OR NOT

pub full_none : (es : List Entry) → length es < 64 → (full_of es ≡ []) × (after_full es ≡ es)
full_none es few = let no : is_full es ≡ false = grind (arith, nat_tests) in (ap (λ (b : Bool). if b then es ∷ [] else []) no, ap (λ (b : Bool). if b then [] else es) no)

pub full_all : (es : List Entry) → 64 ≤ length es → (full_of es ≡ batch_of es) × (after_full es ≡ [])
full_all es many = let all : is_full es ≡ true = grind (arith, nat_tests) in (ap (λ (b : Bool). if b then es ∷ [] else []) all ∙ full_batch es all, ap (λ (b : Bool). if b then [] else es) all)

pub after_few : (es : List Entry) → length (after_full es) < 64
after_few es =
    test_cases (is_full es) (length (after_full es) < 64)
    (λ full. rw full (omega arith))
    (λ few. let less : length es < 64 = grind (arith, nat_tests) in rw few less)

-- HOW THEY BEGIN: the first has these entries, and perhaps more after them

record BeginsWith (es : List Entry) (bs : List (List Entry)) : Type 0 where
  more : List Entry
  rest : List (List Entry)
  is : bs ≡ (es ++ more) ∷ rest

cut_begins : (es : List Entry) (parts : List (List Entry)) → 1 ≤ length es → BeginsWith es (cut es parts)
cut_begins [] parts some = absurd (omega (arith, some))
cut_begins (e ∷ es) [] some = record { more = []; rest = []; is = ap (λ (l : List Entry). l ∷ []) (sym (append-nil (e ∷ es))) }
cut_begins (e ∷ es) (p ∷ parts) some =
    test_cases (is_full ((e ∷ es) ++ p)) (BeginsWith (e ∷ es) (cut (e ∷ es) (p ∷ parts)))
    (λ full. rw full (record { more = p; rest = cut [] parts; is = refl }))
    (λ few.
    let long = length-append (e ∷ es) p in
    let later = cut_begins ((e ∷ es) ++ p) parts (omega (arith, long, some)) in
    rw few (record { more = p ++ later.more; rest = later.rest; is = later.is ∙ ap (λ (l : List Entry). l ∷ later.rest) (append_assoc (e ∷ es) p later.more) }))

-- what isn't written yet begins what is
pub starts_cut : (es : List Entry) (parts : List (List Entry)) → StartsAs (batch_of es) (cut es parts)
starts_cut [] parts = tt
starts_cut (e ∷ es) parts = let b = cut_begins (e ∷ es) parts (omega arith) in subst (λ (l : List (List Entry)). StartsAs ((e ∷ es) ∷ []) l) (sym b.is) (omega arith, (b.more, refl))

pub starts_after : (es : List Entry) (parts : List (List Entry)) → StartsAs (batch_of es) (cut_after es (λ unwritten. cut unwritten parts))
starts_after [] parts = tt
starts_after (e ∷ es) parts =
    test_cases (is_full (e ∷ es)) (StartsAs ((e ∷ es) ∷ []) (cut_after (e ∷ es) (λ unwritten. cut unwritten parts)))
    (λ full. rw full (omega arith, ([], sym (append-nil (e ∷ es)))))
    (λ few. rw few (starts_cut (e ∷ es) parts))

pub starts_full : (es : List Entry) (parts : List (List Entry)) → StartsAs (full_of es) (cut_after es (λ unwritten. cut unwritten parts))
starts_full [] parts = tt
starts_full (e ∷ es) parts =
    test_cases (is_full (e ∷ es)) (StartsAs (full_of (e ∷ es)) (cut_after (e ∷ es) (λ unwritten. cut unwritten parts)))
    (λ full. rw full (omega arith, ([], sym (append-nil (e ∷ es)))))
    (λ few. rw few tt)

-- entries are cut into what is full first, and then the rest
pub full_first : (es : List Entry) (parts : List (List Entry)) → cut_after es (λ unwritten. cut unwritten parts) ≡ full_of es ++ cut (after_full es) parts
full_first es parts =
    test_cases (is_full es) (cut_after es (λ unwritten. cut unwritten parts) ≡ full_of es ++ cut (after_full es) parts)
    (λ full. rw full refl)
    (λ few. rw few refl)

pub full_entries : (es : List Entry) → all_entries (full_of es) ++ after_full es ≡ es
full_entries es =
    test_cases (is_full es) (all_entries (full_of es) ++ after_full es ≡ es)
    (λ full. rw full (append-nil (es ++ []) ∙ append-nil es))
    (λ few. rw few refl)

-- WHOSE THE ENTRIES ARE

module _ (by : MemberId) (at : ℕ) where
  abbrev Its : Entry → Type 0
  Its e = (e.by ≡ by) × (e.step ≡ at)

  pub of_batch : (es : List Entry) → AreOf by at es → All (AreOf by at) (batch_of es)
  of_batch [] its = All-nil (AreOf by at)
  of_batch (e ∷ es) its = All-cons (AreOf by at) (e ∷ es) [] its (All-nil (AreOf by at))

  pub of_cut : (es : List Entry) (parts : List (List Entry)) → AreOf by at es → All (AreOf by at) parts → All (AreOf by at) (cut es parts)
  of_cut es [] its all = of_batch es its
  of_cut es (p ∷ parts) its all =
      let both : AreOf by at (es ++ p) = All-append Its es p its (All-head (AreOf by at) p parts all) in
      let rest = All-tail (AreOf by at) p parts all in
      test_cases (is_full (es ++ p)) (All (AreOf by at) (cut es (p ∷ parts)))
      (λ full. rw full (All-cons (AreOf by at) (es ++ p) (cut [] parts) both (of_cut [] parts (All-nil Its) rest)))
      (λ few. rw few (of_cut (es ++ p) parts both rest))

  pub of_after : (es : List Entry) (parts : List (List Entry)) → AreOf by at es → All (AreOf by at) parts → All (AreOf by at) (cut_after es (λ unwritten. cut unwritten parts))
  of_after es parts its all =
      test_cases (is_full es) (All (AreOf by at) (cut_after es (λ unwritten. cut unwritten parts)))
      (λ full. rw full (All-cons (AreOf by at) es (cut [] parts) its (of_cut [] parts (All-nil Its) all)))
      (λ few. rw few (of_cut es parts its all))

  pub of_full_batches : (es : List Entry) → AreOf by at es → All (AreOf by at) (full_of es)
  of_full_batches es its =
      test_cases (is_full es) (All (AreOf by at) (full_of es))
      (λ full. rw full (All-cons (AreOf by at) es [] its (All-nil (AreOf by at))))
      (λ few. rw few (All-nil (AreOf by at)))
