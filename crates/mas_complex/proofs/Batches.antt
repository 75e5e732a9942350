-- A journal at a moment, as it grows.
pub use Rattle.paper_laws.proofs.Runs.{run_append}
use Rattle.mas_complex.proofs.Names.{◌≡◌, ℕ, ◌+◌, ◌≤◌, ◌<◌, ◌&&◌, ◌||◌, nat_le, nat_lt, Bool, true, false, if◌then◌else◌, List, [], ◌∷◌, ◌++◌, Option, Some, None, refl, subst, sym, ◌∙◌, ap, arith, append_assoc, nat_tests, append-nil, MemberId, Batch, Entry, Flying, kept, flying, kept_of, flying_of, kept_all, Account, account, turned, turned_last, max, in_flight, entries_in, AreSettled, IsBegun, StepIsKept, has_step, IsPlace, is_kept, is_flying, suc, zero, length, slice_set, le_trans, remove, journal_most, with_last, without_last, end_of, Dropped, Queue, EndsInPlace, HasPlace, StandFor, AreToldAlike, le_prop, length-append, IsSome, All, All-nil, ∥∥₁_elim, IsGiven, AreGivenIn, past_batches, Result, Ok, Err, OnOk, OnErr, ◌⊎◌, Act, ActHalted as Halted, entries_reserved, entries_most, AreFew, is_of_member, reserved_after_stop, reserved_by, inl, inr, run, AreReplied, after_batch, All-cons, is_mark, MayBegin, counts_of, map, slice_get, list_any, same_member, begins_anew, counts_anew, BriefEntry, brief_command, brief_of, command_of, entry_of, test_cases, and_parts, and-false, and-true, or-true}
use Rattle.mas_complex.proofs.Basics.{entries_set, of_if}
use Rattle.paper_laws.proofs.Plain.{plain_allowed}
use Rattle.mas_types.specs.declared.commands.Command.{Command}
use Rattle.mas_types.specs.declared.commands.Command.TheVariants as command

pub kept_all_append : (js ks : List Batch) → kept_all (js ++ ks) ≡ kept_all js ++ kept_all ks
kept_all_append [] ks = refl
kept_all_append (b ∷ js) ks = ap (λ (l : List Entry). (if is_kept b.fate then b.entries else []) ++ l) (kept_all_append js ks) ∙ sym (append_assoc (if is_kept b.fate then b.entries else []) (kept_all js) (kept_all ks))

pub settled_later : (js : List Batch) (now later : ℕ) → AreSettled js now → now ≤ later → AreSettled js later
settled_later [] now later are le = tt
settled_later (b ∷ js) now later are le = (are.0, are.1, omega (arith, are.2, le), settled_later js now later are.3 le)

pub settled_push : (js : List Batch) (b : Batch) (now : ℕ) → AreSettled js now → is_flying b.fate ≡ false → b.first ≤ b.last → b.last ≤ now → AreSettled (js ++ b ∷ []) now
settled_push [] b now are fate first last = (fate, first, last, tt)
settled_push (a ∷ js) b now are fate first last = (are.0, are.1, are.2, settled_push js b now are.3 fate first last)

pub begun_later : (c : Option Batch) (now later : ℕ) → IsBegun c now → now ≤ later → IsBegun c later
begun_later None now later begun le = tt
begun_later (Some b) now later begun le = (begun.0, omega (arith, begun.1, le))

-- WHAT JOURNALS SAY OF A MOMENT

-- journals that say the same do so after the same batches
abbrev account_more : Batch → ℕ → Account → Account
account_more b t s = (kept_of b t ++ s.0, flying_of b t ++ s.1, λ m since. s.2 m (if list_any (begins_anew m) b.entries && nat_le b.first t then max since b.first else since))

pub account_after : (js xs ys : List Batch) (t : ℕ) → account xs t ≡ account ys t → account (js ++ xs) t ≡ account (js ++ ys) t
account_after [] xs ys t e = e
account_after (b ∷ js) xs ys t e = ap (account_more b t) (account_after js xs ys t e)

-- a batch that begins later says nothing
pub account_before : (b : Batch) (t : ℕ) → b.fate ≡ Flying → t < b.first → account (b ∷ []) t ≡ account [] t
account_before b t flies lt = let p : nat_le b.first t ≡ false = grind (arith, nat_tests) in simp (flies, p, and-false)

-- nor does one with another fate since a later moment say anything else
pub account_fated : (b c : Batch) (t : ℕ) → b.fate ≡ Flying → c.first ≡ b.first → c.entries ≡ b.entries → t < c.last → account (c ∷ []) t ≡ account (b ∷ []) t
account_fated b c t flies first entries lt =
    let p : nat_le c.last t ≡ false = grind (arith, nat_tests) in
    let q : nat_lt t c.last ≡ true = grind (arith, nat_tests) in
    simp (p, q, flies, first, entries, and-false, or-true)

-- what is said of each moment from now on
pub account_now : (js : List Batch) (c : Option Batch) (now t : ℕ) → AreSettled js now → IsBegun c now → now ≤ t → account (js ++ in_flight c) t ≡ (kept_all js, entries_in c, λ m since. turned_last m (js ++ in_flight c) since)
account_now [] None now t are begun le = refl
account_now [] (Some b) now t are begun le =
    let p : nat_le b.first t ≡ true = grind (arith, nat_tests, begun.1) in
    let flies : b.fate ≡ Flying = begun.0 in
    simp (p, flies, or-true, and-true, append-nil)
account_now (b ∷ js) c now t are begun le =
    let p : nat_le b.first t ≡ true = grind (arith, nat_tests, are.1, are.2) in
    let q : nat_le b.last t ≡ true = grind (arith, nat_tests, are.2) in
    let r : nat_lt t b.last ≡ false = grind (arith, nat_tests, are.2) in
    let fated : is_flying b.fate ≡ false = are.0 in
    ap (account_more b t) (account_now js c now t are.3 begun le) ∙ simp (p, q, r, fated, and-true)

pub turned_append : (m : MemberId) (xs ys : List Batch) (since : ℕ) → turned_last m (xs ++ ys) since ≡ turned_last m ys (turned_last m xs since)
turned_append m [] ys since = refl
turned_append m (b ∷ xs) ys since = turned_append m xs ys (if list_any (begins_anew m) b.entries then max since b.first else since)

-- members count since moments that are past
pub turned_by : (m : MemberId) (J : List Batch) (t since : ℕ) → since ≤ t → turned m J t since ≤ t
turned_by m [] t since le = le
turned_by m (b ∷ bs) t since le = turned_by m bs t _ (of_if (λ (n : ℕ). n ≤ t) (list_any (begins_anew m) b.entries && nat_le b.first t) (max since b.first) since
    (λ e. let first : b.first ≤ t = grind (arith, nat_tests, (and_parts (list_any (begins_anew m) b.entries) (nat_le b.first t) e).1) in omega arith) (λ _. le))

pub turned_past : (m : MemberId) (js : List Batch) (c : Option Batch) (now since : ℕ) → AreSettled js now → IsBegun c now → since ≤ now → turned_last m (js ++ in_flight c) since ≤ now
turned_past m js c now since are begun le = subst (λ (n : ℕ). n ≤ now) (ap (λ (s : Account). s.2 m since) (account_now js c now now are begun (omega arith))) (turned_by m (js ++ in_flight c) now since le)

-- what is told, as the journal goes on
pub step_later : (J : List Batch) (t u : ℕ) (m : MemberId) (s : ℕ) → t ≤ u → StepIsKept J t m s → StepIsKept J u m s
step_later [] t u m s le kept = tt
step_later (b ∷ J) t u m s le kept = ((λ has. let k = kept.0 has in (k.0, omega (arith, k.1, le))), step_later J t u m s le kept.1)

pub step_push : (js : List Batch) (b : Batch) (t : ℕ) (m : MemberId) (s : ℕ) → has_step m s b.entries ≡ false → StepIsKept (js ++ []) t m s → StepIsKept (js ++ b ∷ []) t m s
step_push [] b t m s none kept = ((λ has. absurd (cc)), tt)
step_push (a ∷ js) b t m s none kept = (kept.0, step_push js b t m s none kept.1)

pub step_fate : (js : List Batch) (b c : Batch) (t : ℕ) (m : MemberId) (s : ℕ) → b.fate ≡ Flying → c.entries ≡ b.entries → StepIsKept (js ++ b ∷ []) t m s → StepIsKept ((js ++ c ∷ []) ++ []) t m s
step_fate [] b c t m s fate entries kept =
    ((λ has. let k = kept.0 (subst (λ (l : List Entry). has_step m s l ≡ true) entries has) in absurd (cc k.0)), tt)
step_fate (a ∷ js) b c t m s fate entries kept = (kept.0, step_fate js b c t m s fate entries kept.1)

-- the place of a batch to come adds nothing
pub placed_all : (b : Batch) → IsPlace b → (js : List Batch) → kept_all (js ++ b ∷ []) ≡ kept_all js
placed_all b place js = rw (kept_all_append js (b ∷ []), place.dropped) (append-nil (kept_all js))

pub unplaced_settled : (js : List Batch) (b : Batch) (now : ℕ) → AreSettled (js ++ b ∷ []) now → AreSettled js now
unplaced_settled [] b now are = tt
unplaced_settled (a ∷ js) b now are = (are.0, are.1, are.2, unplaced_settled js b now are.3)

-- The end of a journal is written.

pub last_put : (x : Batch) (bs : List Batch) (n : ℕ) → n + 1 ≡ length bs → slice_set bs n x ≡ with_last x bs
last_put x (b ∷ []) zero last = refl
last_put x (b ∷ next ∷ bs) (suc n) last = ap (λ (ys : List Batch). b ∷ ys) (last_put x (next ∷ bs) n (omega arith))
last_put x _ n last = absurd (omega arith)

pub last_removed : (bs : List Batch) (n : ℕ) → n + 1 ≡ length bs → remove bs n ≡ without_last bs
last_removed (b ∷ []) zero last = refl
last_removed (b ∷ next ∷ bs) (suc n) last = ap (λ (ys : List Batch). b ∷ ys) (last_removed (next ∷ bs) n (omega arith))
last_removed _ n last = absurd (omega arith)

pub with_last-append : (x : Batch) (bs : List Batch) (b : Batch) → with_last x (bs ++ b ∷ []) ≡ bs ++ x ∷ []
with_last-append x (a ∷ next ∷ bs) b = ap (λ (ys : List Batch). a ∷ ys) (with_last-append x (next ∷ bs) b)
with_last-append x _ b = refl

pub without_last-append : (bs : List Batch) (b : Batch) → without_last (bs ++ b ∷ []) ≡ bs
without_last-append (a ∷ next ∷ bs) b = ap (λ (ys : List Batch). a ∷ ys) (without_last-append (next ∷ bs) b)
without_last-append _ b = refl

-- a journal with another last batch has as many batches
pub as_many : (b : Batch) (js : List Batch) → length (with_last b js) ≡ length js
as_many b (a ∷ next ∷ js) = ap suc (as_many b (next ∷ js))
as_many b _ = refl

pub few_with_last : (b : Batch) (js : List Batch) → length js ≤ journal_most → length (with_last b js) ≤ journal_most
few_with_last b js few = subst (λ (n : ℕ). n ≤ journal_most) (sym (as_many b js)) few

-- nor has a journal more at its end
without_one : (l : List Batch) → (length (without_last l) ≤ length l) × (length l ≤ length (without_last l) + 1)
without_one (a ∷ next ∷ l) = let one = without_one (next ∷ l) in (omega (arith, one.0), omega (arith, one.1))
without_one _ = (omega arith, omega arith)

pub few_at_end : (placed : Bool) (c : Option Batch) (js : List Batch) → length js ≤ journal_most → length (end_of placed c js) ≤ journal_most
few_at_end placed (Some b) js few = few_with_last b js few
few_at_end false None js few = few
few_at_end true None js few = le_trans (without_one js).0 few

-- A batch takes its place in the journal.

pub is_place : (b : Batch) (now : ℕ) (by : MemberId) → b ≡ record { first = now; last = now; by = by; fate = Dropped; entries = [] } → IsPlace b × (b.first ≤ b.last) × (b.last ≤ now)
is_place b now by e = subst (λ (x : Batch). IsPlace x × (x.first ≤ x.last) × (x.last ≤ now)) (sym e) (record { empty = refl; dropped = refl }, omega arith, omega arith)

pub stand_alike : (Q R : Queue) (pages : List ℕ) → AreToldAlike Q R → StandFor Q pages → StandFor R pages
stand_alike Q R pages alike stand = let x = stand.tell in record {
  pages = stand.pages;
  level = stand.level;
  sized = stand.sized;
  joined = stand.joined;
  tell = record { tables = x.tables; levels = x.levels; fit = x.fit; ages = x.ages; spell = x.spell; orders = x.orders; tell = alike x.tables x.tell };
}

-- The batches that have their fates, without the place of one to come.

-- a batch takes the last place
pub takes_place : (c : Batch) (J : List Batch) → 0 < length J → without_last J ++ c ∷ [] ≡ with_last c J
takes_place c [] some = absurd (omega arith)
takes_place c (a ∷ []) some = refl
takes_place c (a ∷ next ∷ J) some = ap (λ (l : List Batch). a ∷ l) (takes_place c (next ∷ J) (omega arith))

pub fated_past : (c : Batch) (placed : Bool) (J : List Batch) → placed ≡ true → ∥ HasPlace placed J ∥₁ → past_batches placed J ++ c ∷ [] ≡ with_last c J
fated_past c true J is has = takes_place c J (∥∥₁_elim has le_prop (λ p. omega (arith, ap length p.is, length-append p.before (p.place ∷ []))))
fated_past c false J is has = absurd (cc)

-- the place adds no entry, and its own is given
before_it : (J : List Batch) (p : EndsInPlace J) → without_last J ≡ p.before
before_it J p = ap without_last p.is ∙ without_last-append p.before p.place

pub past_kept : (placed : Bool) (J : List Batch) → ∥ HasPlace placed J ∥₁ → kept_all (past_batches placed J) ≡ kept_all J
past_kept false J has = refl
past_kept true J has = ∥∥₁_elim has (entries_set _ _) (λ p. ap kept_all (before_it J p) ∙ sym (ap kept_all p.is ∙ placed_all p.place p.free p.before))

given_last : (base : Queue) (js : List Batch) (b : Batch) → b.entries ≡ [] → AreGivenIn base js → AreGivenIn base (js ++ b ∷ [])
given_last base [] b none are = (subst (λ (es : List Entry). All (IsGiven base) es) (sym none) (All-nil (IsGiven base)), tt)
given_last base (a ∷ js) b none are = (are.0, given_last base js b none are.1)

pub past_given : (base : Queue) (placed : Bool) (J : List Batch) → HasPlace placed J → AreGivenIn base (past_batches placed J) → AreGivenIn base J
past_given base false J has are = are
past_given base true J p are = subst (AreGivenIn base) (sym p.is) (given_last base p.before p.place p.free.empty (subst (AreGivenIn base) (before_it J p) are))

-- what is said of each batch is said of those without it
pub past_step : (placed : Bool) (J ks : List Batch) (t : ℕ) (m : MemberId) (s : ℕ) → StepIsKept (J ++ ks) t m s → StepIsKept (past_batches placed J ++ ks) t m s
past_step false J ks t m s all = all
past_step true J ks t m s all = without J all where
  without : (l : List Batch) → StepIsKept (l ++ ks) t m s → StepIsKept (without_last l ++ ks) t m s
  without [] all = all
  without (a ∷ []) all = all.1
  without (a ∷ next ∷ l) all = (all.0, without (next ∷ l) all.1)

-- the journal as it is handed out
pub end_is : (placed : Bool) (c : Option Batch) (J : List Batch) → (IsSome c → placed ≡ true) → ∥ HasPlace placed J ∥₁ → past_batches placed J ++ in_flight c ≡ end_of placed c J
end_is true (Some b) J some has = fated_past b true J refl has
end_is true None J some has = append-nil (without_last J)
end_is false None J some has = append-nil J
end_is false (Some b) J some has = let clash : false ≡ true = some refl in absurd (cc)

-- Batches are short, so the kept entries can be counted.

pub few_placed : (js : List Batch) (b : Batch) → IsPlace b → AreFew false js → AreFew true (js ++ b ∷ [])
few_placed js b place few = omega (arith, ap length (placed_all b place js), length-append js (b ∷ []))

-- the batch that takes the place at the end, or the journal without it
pub few_last : (b : Batch) (placed : Bool) (js : List Batch) → placed ≡ true → ∥ HasPlace placed js ∥₁ → length b.entries ≤ entries_most → AreFew placed js → AreFew false (with_last b js)
few_last b true js is has short few =
    let same : length (kept_all (with_last b js)) ≡ length (kept_all (without_last js) ++ kept_all (b ∷ [])) = ap length (ap kept_all (sym (fated_past b true js refl has)) ∙ kept_all_append (without_last js) (b ∷ [])) in
    let one = test_cases (is_kept b.fate) (length (kept_all (b ∷ [])) ≤ length b.entries) (λ e. rw e (omega (arith, ap length (append-nil b.entries)))) (λ e. rw e (omega arith)) in
    omega (arith, few, short, same, one, as_many b js, length-append (kept_all (without_last js)) (kept_all (b ∷ [])), ap length (past_kept true js has))
few_last b false js is has short few = absurd (cc)

pub few_unplaced : (placed : Bool) (js : List Batch) → placed ≡ true → ∥ HasPlace placed js ∥₁ → AreFew placed js → AreFew false (without_last js)
few_unplaced true js is has few = omega (arith, few, ap length (past_kept true js has), (without_one js).1)
few_unplaced false js is has few = absurd (cc)

-- what a stop leaves reserved, and a call that gives the lock up, or not
pub left_after_stop : (by : MemberId) (reserved is : Option (List Entry)) → is ≡ reserved_after_stop by reserved → (is ≡ None) ⊎ (is ≡ reserved)
left_after_stop by None is e = inl e
left_after_stop by (Some es) is e = subst (λ (r : Option (List Entry)). (r ≡ None) ⊎ (r ≡ Some es)) (sym e) (of_if (λ (r : Option (List Entry)). (r ≡ None) ⊎ (r ≡ Some es)) (is_of_member by es) None (Some es) (λ _. inl refl) (λ _. inr refl))

pub left_after_free : {T E : Type 0} (r : Result T E) (was is : Option (List Entry)) → OnOk r (is ≡ None) → OnErr r (is ≡ was) → (is ≡ None) ⊎ (is ≡ was)
left_after_free (Ok x) was is none same = inl none
left_after_free (Err e) was is none same = inr same

pub short_left : (was is : Option (List Entry)) → (is ≡ None) ⊎ (is ≡ was) → length (entries_reserved was) ≤ entries_most → length (entries_reserved is) ≤ entries_most
short_left was is (inl e) short = subst (λ (r : Option (List Entry)). length (entries_reserved r) ≤ entries_most) (sym e) (omega arith)
short_left was is (inr e) short = subst (λ (r : Option (List Entry)). length (entries_reserved r) ≤ entries_most) (sym e) short

-- a print
pub left_after_print : (by : MemberId) (done : Act) (reserved is : Option (List Entry)) → is ≡ reserved_by by done reserved → (is ≡ None) ⊎ (is ≡ reserved)
left_after_print by Halted reserved is e = left_after_stop by reserved is e
left_after_print by _ reserved is e = inr e

-- The replies of a history, as the journal grows.

-- the queue after a batch and the kept ones after it
after_is : (Q : Queue) (b : Batch) (bs : List Batch) → run Q (kept_all (b ∷ bs)) ≡ run (after_batch Q b) (kept_all bs)
after_is Q b bs = test_cases (is_kept b.fate) (run Q (kept_all (b ∷ bs)) ≡ run (after_batch Q b) (kept_all bs)) (λ e. rw e (run_append Q b.entries (kept_all bs))) (λ e. rw e refl)

pub replied_front : (Q : Queue) (xs ys : List Batch) → AreReplied Q (xs ++ ys) → AreReplied Q xs
replied_front Q [] ys are = tt
replied_front Q (b ∷ xs) ys are = (are.0, replied_front (after_batch Q b) xs ys are.1)

pub replied_rest : (Q : Queue) (xs ys : List Batch) → AreReplied Q (xs ++ ys) → AreReplied (run Q (kept_all xs)) ys
replied_rest Q [] ys are = are
replied_rest Q (b ∷ xs) ys are = subst (λ (R : Queue). AreReplied R ys) (sym (after_is Q b xs)) (replied_rest (after_batch Q b) xs ys are.1)

pub replied_both : (Q : Queue) (xs ys : List Batch) → AreReplied Q xs → AreReplied (run Q (kept_all xs)) ys → AreReplied Q (xs ++ ys)
replied_both Q [] ys front rest = rest
replied_both Q (b ∷ xs) ys front rest = (front.0, replied_both (after_batch Q b) xs ys front.1 (subst (λ (R : Queue). AreReplied R ys) (after_is Q b xs) rest))

-- Which batches may begin.

module _ (base : Queue) (js : List Batch) (printed : List ℕ) where
  -- entries without a Mark
  pub unmarked_begin : (es : List Entry) → All (IsGiven base) es → All (λ e. is_mark e.command ≡ false) es → MayBegin base js printed es
  unmarked_begin es given unmarked sound = ∣ plain_allowed base (run base (kept_all js)) (counts_of printed) es given unmarked ∣₁

  pub none_begins : MayBegin base js printed []
  none_begins sound = ∣ tt ∣₁

  pub one_begins : (e : Entry) → IsGiven base e → is_mark e.command ≡ false → MayBegin base js printed (e ∷ [])
  one_begins e given unmarked = unmarked_begin (e ∷ []) (All-cons (IsGiven base) e [] given (All-nil (IsGiven base))) (All-cons (λ x. is_mark x.command ≡ false) e [] unmarked (All-nil (λ x. is_mark x.command ≡ false)))

-- What is read of entries in brief is what is read of the entries.

anew : (c : Command) → counts_anew (command_of (brief_command c)) ≡ counts_anew c
anew (command.Begin fields) = refl
anew _ = refl

pub any_anew : (by : MemberId) (es : List Entry)
    → list_any (λ b. begins_anew by (entry_of b)) (map brief_of es) ≡ list_any (begins_anew by) es
any_anew by [] = refl
any_anew by (e ∷ es) =
    ap (λ (v : Bool). same_member e.by by && v || list_any (λ b. begins_anew by (entry_of b)) (map brief_of es)) (anew e.command)
    ∙ ap (λ (v : Bool). begins_anew by e || v) (any_anew by es)

pub first_is : (by : MemberId) (es : List Entry) (b : BriefEntry) → slice_get (map brief_of es) 0 ≡ Some b
    → is_of_member by es ≡ same_member b.by by
first_is by [] b e = absurd (cc)
first_is by (x ∷ es) b e = cc

pub first_none : (by : MemberId) (es : List Entry) → slice_get (map brief_of es) 0 ≡ None → is_of_member by es ≡ false
first_none by [] e = refl
first_none by (x ∷ es) e = absurd (cc)
