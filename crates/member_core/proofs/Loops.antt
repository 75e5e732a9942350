-- What loops over the journal compute, and writes at both copies.
use Rattle.std.proofs.Common.{◌≡◌, ℕ, zero, suc, ◌+◌, ◌-◌, ◌<◌, Bool, not, ◌&&◌, ◌||◌, nat_lt, List, [], ◌∷◌, ◌++◌, length, length-append, get_or, drop, map, refl, ap, sym, ◌∙◌, arith, append_assoc}
use Rattle.std.specs.List.{list_any}
use Rattle.std.proofs.lemmas.Bool.Decides.{nat_tests}
use Rattle.std.proofs.lemmas.List.Folds.{list_any-append}
use Rattle.mas_types.specs.declared.ids.MemberId.{MemberId}
use Rattle.mas_types.specs.declared.journals.Fate.{Fate}
use Rattle.mas_types.specs.declared.journals.Fate.TheVariants as fate
use Rattle.mas_types.specs.declared.journals.Entry.{Entry}
use Rattle.mas_types.specs.declared.journals.Batch.{Batch}
use Rattle.mas_types.specs.Journal.{is_flying}
use Rattle.mas_types.specs.Lists.{change_at}
use Rattle.member_core.specs.declared.worlds.CopyAt.{CopyAt}
use Rattle.member_core.specs.Worlds.{is_nil, entries_kept, entries_flying, kept_in, flying_in, fate_after, settled, on_copies, same_copy, is_of, is_unkept, has_unkept}
use Rattle.member_core.specs.Events.{new_member, new_members}
use Rattle.model_queue.proofs.Writes.{drop_here}

-- no entry is in flight exactly where no batch in flight has one
none_flying_head : (f : Fate) (es rest : List Entry) (any : Bool) → not any ≡ is_nil rest → not ((is_flying f && not (is_nil es)) || any) ≡ is_nil (entries_flying f es ++ rest)
none_flying_head fate.Kept es rest any h = h
none_flying_head fate.Dropped es rest any h = h
none_flying_head fate.Flying [] rest any h = h
none_flying_head fate.Flying (e ∷ es) rest any h = refl

pub none_flying : (bs : List Batch) → not (list_any (λ b. is_flying b.fate && not (is_nil b.entries)) bs) ≡ is_nil (flying_in bs)
none_flying [] = refl
none_flying (b ∷ bs) = none_flying_head b.fate b.entries (flying_in bs) (list_any (λ x. is_flying x.fate && not (is_nil x.entries)) bs) (none_flying bs)

-- one batch further in the count of kept entries
pub past_kept_more : (bs : List Batch) (i : ℕ) (b : Batch) (room room' : ℕ) → i < length bs → b ≡ get_or bs i b → room' ≡ room - length (entries_kept b.fate b.entries)
    → (all : Bool) → nat_lt (length (kept_in (drop i bs))) room ≡ all → nat_lt (length (kept_in (drop (i + 1) bs))) room' ≡ all
past_kept_more bs i b room room' inside is less all so_far =
    let here : drop i bs ≡ b ∷ drop (i + 1) bs = drop_here bs i inside b ∙ ap (λ (x : Batch). x ∷ drop (i + 1) bs) (sym is) in
    let so = rw (here, length-append) at so_far in
    rw less (fewer (length (entries_kept b.fate b.entries)) (length (kept_in (drop (i + 1) bs))) room ∙ so)
  where
    fewer : (a n r : ℕ) → nat_lt n (r - a) ≡ nat_lt (a + n) r
    fewer a n r = grind (arith, nat_tests)

abbrev pub given_fate : Fate → Batch → Batch
given_fate new b = record b { fate = fate_after new b.fate }

pub settled_is : (new : Fate) (bs : List Batch) → map (given_fate new) bs ≡ settled new bs
settled_is new [] = refl
settled_is new (b ∷ bs) = ap (λ ys. given_fate new b ∷ ys) (settled_is new bs)

-- a write at the first copy and one at the second
pub on_copies_is : (f g : CopyAt → CopyAt) (copies : List CopyAt) → change_at 1 g (change_at 0 f copies) ≡ on_copies f g copies
on_copies_is f g [] = refl
on_copies_is f g (a ∷ []) = refl
on_copies_is f g (a ∷ (b ∷ rest)) = refl

pub on_first : (f : CopyAt → CopyAt) (copies : List CopyAt) → change_at 0 f copies ≡ on_copies f same_copy copies
on_first f [] = refl
on_first f (a ∷ []) = refl
on_first f (a ∷ (b ∷ rest)) = refl

pub on_second : (f : CopyAt → CopyAt) (copies : List CopyAt) → change_at 1 f copies ≡ on_copies same_copy f copies
on_second f [] = refl
on_second f (a ∷ []) = refl
on_second f (a ∷ (b ∷ rest)) = refl

-- a batch that isn't kept, with an entry of the step
pub unkept_is : (m : MemberId) (n : ℕ) (bs : List Batch) → list_any (λ b. is_unkept b.fate && list_any (is_of m n) b.entries) bs ≡ has_unkept bs m n
unkept_is m n [] = refl
unkept_is m n (b ∷ bs) = ap (λ (t : Bool). (is_unkept b.fate && list_any (is_of m n) b.entries) || t) (unkept_is m n bs)

-- a kept batch with an entry of the step
kept_head : (test : Entry → Bool) (f : Fate) (es rest : List Entry) → ((not (is_unkept f) && list_any test es) || list_any test rest) ≡ list_any test (entries_kept f es ++ rest)
kept_head test fate.Kept es rest = sym (list_any-append test es rest)
kept_head test fate.Dropped es rest = refl
kept_head test fate.Flying es rest = refl

pub kept_is : (m : MemberId) (n : ℕ) (bs : List Batch) → list_any (λ b. not (is_unkept b.fate) && list_any (is_of m n) b.entries) bs ≡ list_any (is_of m n) (kept_in bs)
kept_is m n [] = refl
kept_is m n (b ∷ bs) =
    ap (λ (t : Bool). (not (is_unkept b.fate) && list_any (is_of m n) b.entries) || t) (kept_is m n bs) ∙ kept_head (is_of m n) b.fate b.entries (kept_in bs)

-- one new member more
pub new_more : (n : ℕ) → new_members n ++ new_member ∷ [] ≡ new_members (n + 1)
new_more n = let next : suc n ≡ n + 1 = omega arith in push n ∙ ap new_members next
  where
    push : (k : ℕ) → new_members k ++ new_member ∷ [] ≡ new_members (suc k)
    push zero = refl
    push (suc k) = ap (λ ys. new_member ∷ ys) (push k)

-- one batch further in a copy of the kept entries
pub kept_more : (bs : List Batch) (i : ℕ) (b : Batch) (front all : List Entry) → i < length bs → b ≡ get_or bs i b → front ++ kept_in (drop i bs) ≡ all
    → (front ++ entries_kept b.fate b.entries) ++ kept_in (drop (i + 1) bs) ≡ all
kept_more bs i b front all inside is so_far =
    let here : drop i bs ≡ b ∷ drop (i + 1) bs = drop_here bs i inside b ∙ ap (λ (x : Batch). x ∷ drop (i + 1) bs) (sym is) in
    append_assoc front (entries_kept b.fate b.entries) (kept_in (drop (i + 1) bs)) ∙ rw here at so_far

pub flying_more : (bs : List Batch) (i : ℕ) (b : Batch) (front all : List Entry) → i < length bs → b ≡ get_or bs i b → front ++ flying_in (drop i bs) ≡ all
    → (front ++ entries_flying b.fate b.entries) ++ flying_in (drop (i + 1) bs) ≡ all
flying_more bs i b front all inside is so_far =
    let here : drop i bs ≡ b ∷ drop (i + 1) bs = drop_here bs i inside b ∙ ap (λ (x : Batch). x ∷ drop (i + 1) bs) (sym is) in
    append_assoc front (entries_flying b.fate b.entries) (flying_in (drop (i + 1) bs)) ∙ rw here at so_far
