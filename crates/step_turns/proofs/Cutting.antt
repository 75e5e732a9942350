-- The batches of parts: they have the parts' entries, are within the limits, and split no part.
use Rattle.std.proofs.Common.{◌≡◌, ◌≤◌, ◌<◌, true, false, if◌then◌else◌, List, [], ◌∷◌, ◌++◌, length, map, append_assoc, append-nil, refl, sym, ap, ◌∙◌, All, arith}
use Rattle.std.proofs.lemmas.Bool.Decides.{nat_tests}
use Rattle.std.proofs.lemmas.List.{length-append}
use Rattle.std.proofs.lemmas.List.Elements.{All-cons, All-nil}
use Rattle.mas_types.specs.declared.journals.Entry.{Entry}
use Rattle.queue_laws.proofs.Finds.{test_cases}
use Rattle.step_turns.specs.Batches.{AreWholeParts, batch_most, batch_of, cut, cut_after, is_full, joined}
use Rattle.step_turns.specs.Entries.{all_entries}
use Rattle.step_turns.specs.Laws.{IsBatch}

-- THE ENTRIES

batch_entries : (es : List Entry) → all_entries (batch_of es) ≡ es
batch_entries [] = refl
batch_entries (e ∷ es) = append-nil (e ∷ es)

pub cut_entries : (so_far : List Entry) (parts : List (List Entry)) → all_entries (cut so_far parts) ≡ so_far ++ all_entries parts
cut_entries so_far [] = batch_entries so_far ∙ sym (append-nil so_far)
cut_entries so_far (es ∷ parts) =
    test_cases (is_full (so_far ++ es)) (all_entries (cut so_far (es ∷ parts)) ≡ so_far ++ all_entries (es ∷ parts))
    (λ e. rw e (ap (λ (fs : List Entry). (so_far ++ es) ++ fs) (cut_entries [] parts) ∙ append_assoc so_far es (all_entries parts)))
    (λ e. rw e (cut_entries (so_far ++ es) parts ∙ append_assoc so_far es (all_entries parts)))

-- THE LIMITS

-- each part has an entry
abbrev pub AreSome : List (List Entry) → Type 0
AreSome [] = Unit {0}
AreSome (es ∷ parts) = (1 ≤ length es) × AreSome parts

-- each part has just one entry
abbrev pub AreOnes : List (List Entry) → Type 0
AreOnes [] = Unit {0}
AreOnes (es ∷ parts) = (length es ≡ 1) × AreOnes parts

-- the first part has as many entries as a batch at most, and each other part just one
abbrev pub AreSmall : List (List Entry) → Type 0
AreSmall [] = Unit {0}
AreSmall (es ∷ parts) = (1 ≤ length es) × (length es ≤ batch_most) × AreOnes parts

batch_limits : (es : List Entry) → length es ≤ batch_most → All IsBatch (batch_of es)
batch_limits [] few = All-nil IsBatch
batch_limits (e ∷ es) few = All-cons IsBatch (e ∷ es) [] (omega arith, few) (All-nil IsBatch)

not_full : (es : List Entry) → is_full es ≡ false → length es < batch_most
not_full es e = grind (arith, nat_tests)

now_full : (es : List Entry) → is_full es ≡ true → batch_most ≤ length es
now_full es e = grind (arith, nat_tests)

ones_limits : (so_far : List Entry) (parts : List (List Entry)) → length so_far < batch_most → AreOnes parts → All IsBatch (cut so_far parts)
ones_limits so_far [] few ones = batch_limits so_far (omega (arith, few))
ones_limits so_far (es ∷ parts) few ones =
    let one : length es ≡ 1 = ones.0 in
    let long = length-append so_far es in
    test_cases (is_full (so_far ++ es)) (All IsBatch (cut so_far (es ∷ parts)))
    (λ e. let full = now_full (so_far ++ es) e in
    rw e (All-cons IsBatch (so_far ++ es) (cut [] parts) (omega (arith, full), omega (arith, long, one, few)) (ones_limits [] parts (omega arith) ones.1)))
    (λ e. rw e (ones_limits (so_far ++ es) parts (not_full (so_far ++ es) e) ones.1))

pub cut_limits : (parts : List (List Entry)) → AreSmall parts → All IsBatch (cut [] parts)
cut_limits [] small = All-nil IsBatch
cut_limits (es ∷ parts) small =
    test_cases (is_full es) (All IsBatch (cut [] (es ∷ parts)))
    (λ e. rw e (All-cons IsBatch es (cut [] parts) (small.0, small.1) (ones_limits [] parts (omega arith) small.2)))
    (λ e. rw e (ones_limits es parts (not_full es e) small.2))

-- WHOLE PARTS

all_after : (parts : List (List Entry)) (es : List Entry) → all_entries (parts ++ es ∷ []) ≡ all_entries parts ++ es
all_after [] es = append-nil es
all_after (p ∷ parts) es = ap (λ (fs : List Entry). p ++ fs) (all_after parts es) ∙ sym (append_assoc p (all_entries parts) es)

-- the parts of each batch, after parts that aren't written yet
group_of : List (List Entry) → List (List (List Entry))
group_of [] = []
group_of (es ∷ parts) = (es ∷ parts) ∷ []

grouped : List (List Entry) → List (List Entry) → List (List (List Entry))
grouped held [] = group_of held
grouped held (es ∷ parts) = if is_full (all_entries (held ++ es ∷ [])) then (held ++ es ∷ []) ∷ grouped [] parts else grouped (held ++ es ∷ []) parts

joined_group : (held : List (List Entry)) → joined (group_of held) ≡ held
unfolding group_of
joined_group [] = refl
joined_group (es ∷ parts) = append-nil (es ∷ parts)

joined_all : (held parts : List (List Entry)) → joined (grouped held parts) ≡ held ++ parts
unfolding grouped
joined_all held [] = joined_group held ∙ sym (append-nil held)
joined_all held (es ∷ parts) =
    test_cases (is_full (all_entries (held ++ es ∷ []))) (joined (grouped held (es ∷ parts)) ≡ held ++ es ∷ parts)
    (λ e. rw e (ap (λ (ps : List (List Entry)). (held ++ es ∷ []) ++ ps) (joined_all [] parts) ∙ append_assoc held (es ∷ []) parts))
    (λ e. rw e (joined_all (held ++ es ∷ []) parts ∙ append_assoc held (es ∷ []) parts))

batch_group : (held : List (List Entry)) → AreSome held → batch_of (all_entries held) ≡ map all_entries (group_of held)
unfolding group_of
batch_group [] some = refl
batch_group ([] ∷ parts) some = let none : 1 ≤ 0 = some.0 in absurd (omega (arith, none))
batch_group ((e ∷ es) ∷ parts) some = refl

some_after : (held : List (List Entry)) (es : List Entry) → AreSome held → 1 ≤ length es → AreSome (held ++ es ∷ [])
some_after [] es some one = (one, tt)
some_after (p ∷ held) es some one = (some.0, some_after held es some.1 one)

cut_groups : (held parts : List (List Entry)) → AreSome held → AreSome parts → cut (all_entries held) parts ≡ map all_entries (grouped held parts)
unfolding grouped
cut_groups held [] some more = batch_group held some
cut_groups held (es ∷ parts) some more =
    let same : all_entries held ++ es ≡ all_entries (held ++ es ∷ []) = sym (all_after held es) in
    rw same
    (test_cases (is_full (all_entries (held ++ es ∷ []))) (cut_after (all_entries (held ++ es ∷ [])) (λ unwritten. cut unwritten parts) ≡ map all_entries (grouped held (es ∷ parts)))
    (λ e. rw e (ap (λ (bs : List (List Entry)). all_entries (held ++ es ∷ []) ∷ bs) (cut_groups [] parts tt more.1)))
    (λ e. rw e (cut_groups (held ++ es ∷ []) parts (some_after held es some more.0) more.1)))

pub cut_whole : (parts : List (List Entry)) → AreSome parts → AreWholeParts parts (cut [] parts)
cut_whole parts some = record { groups = grouped [] parts; of_parts = joined_all [] parts; are = sym (cut_entries [] parts); cut_there = cut_groups [] parts tt some }
