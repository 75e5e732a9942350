-- Lists that grow by one, and the lines of a history and of volumes.
use Rattle.std.proofs.Common.{◌≡◌, ◌∙◌, sym, ap, subst, ℕ, suc, ◌+◌, ◌-◌, ◌≤◌, ◌<◌, Bool, true, false, Some, List, [], ◌∷◌, ◌++◌, length, take, drop, map, filter, get_or, slice_get, min, find, refl, append_assoc, arith}
use Rattle.std.proofs.lemmas.List.{append-nil, take_all, take_more, take_min, drop_min, length-append, map_push}
use Rattle.std.proofs.lemmas.List.Elements.{filter-append, All-head, All-tail}
use Rattle.std.specs.List.{All}
use Rattle.std.proofs.lemmas.List.{take-append-drop, take-take}
use Rattle.std.proofs.lemmas.Option.{slice_get_within, get_or_from_slice_get}
use Rattle.mas_types.specs.declared.journals.Batch.{Batch}
use Rattle.mas_types.specs.declared.journals.Entry.{Entry}
use Rattle.mas_types.specs.declared.queues.Owner.{Owner}
use Rattle.mas_types.specs.Histories.{history_line, history_lines, history_end}
use Rattle.mas_types.specs.Journal.{entries_of, is_kept}
use Rattle.mas_types.specs.Shown.{volume_line, volume_lines}
use Rattle.cmd_report.specs.Named.{kept_in}

-- the items up to and with the one at a place
pub take-one_more : {A : Type 0} (xs : List A) (i : ℕ) (x : A) → slice_get xs i ≡ Some x → take (i + 1) xs ≡ take i xs ++ x ∷ []
take-one_more xs i x h =
    take_more xs i x (slice_get_within xs i x h) ∙ ap (λ y. take i xs ++ y ∷ []) (get_or_from_slice_get xs i x x h)

pub map-one_more : {A B : Type 0} (f : A → B) (xs : List A) (i : ℕ) (x : A) → slice_get xs i ≡ Some x → map f (take (i + 1) xs) ≡ map f (take i xs) ++ f x ∷ []
map-one_more f xs i x h = ap (map f) (take-one_more xs i x h) ∙ map_push f (take i xs) x

-- HISTORIES

pub history_lines-append : (place : ℕ) (xs ys : List Entry) → history_lines place (xs ++ ys) ≡ history_lines place xs ++ history_lines (place + length xs) ys
history_lines-append place [] ys = let same : place ≡ place + 0 = omega arith in ap (λ p. history_lines p ys) same
history_lines-append place (x ∷ xs) ys =
    let same : place + 1 + length xs ≡ place + suc (length xs) = omega arith in
    ap (λ (l : List (List ℕ)). history_line place x ∷ l) (history_lines-append (place + 1) xs ys ∙ ap (λ p. history_lines (place + 1) xs ++ history_lines p ys) same)

entries_of-append : (xs ys : List Batch) → entries_of (xs ++ ys) ≡ entries_of xs ++ entries_of ys
entries_of-append [] ys = refl
entries_of-append (b ∷ xs) ys = ap (λ (es : List Entry). b.entries ++ es) (entries_of-append xs ys) ∙ sym (append_assoc b.entries (entries_of xs) (entries_of ys))

-- the entries of the kept ones of so many batches
abbrev pub kept_of : List Batch → List Entry
kept_of bs = entries_of (filter (λ b. is_kept b.fate) bs)

kept_of-append : (xs ys : List Batch) → kept_of (xs ++ ys) ≡ kept_of xs ++ kept_of ys
kept_of-append xs ys = ap entries_of (filter-append (λ b. is_kept b.fate) xs ys) ∙ entries_of-append (filter (λ b. is_kept b.fate) xs) (filter (λ b. is_kept b.fate) ys)

kept_of-one : (b : Batch) → kept_of (b ∷ []) ≡ kept_in b
kept_of-one b = by_test (is_kept b.fate) refl
  where
    by_test : (v : Bool) → is_kept b.fate ≡ v → kept_of (b ∷ []) ≡ kept_in b
    by_test true e = rw e (append-nil b.entries)
    by_test false e = rw e refl

pub kept_of-one_more : (bs : List Batch) (i : ℕ) (b : Batch) → i < length bs → b ≡ get_or bs i b → kept_of (take (i + 1) bs) ≡ kept_of (take i bs) ++ kept_in b
kept_of-one_more bs i b inside is =
    let front : take (i + 1) bs ≡ take i bs ++ b ∷ [] = take_more bs i b inside ∙ ap (λ y. take i bs ++ y ∷ []) (sym is) in
    ap kept_of front ∙ kept_of-append (take i bs) (b ∷ []) ∙ ap (λ (es : List Entry). kept_of (take i bs) ++ es) (kept_of-one b)

pub length-history_lines : (place : ℕ) (xs : List Entry) → length (history_lines place xs) ≡ length xs
length-history_lines place [] = refl
length-history_lines place (x ∷ xs) = ap suc (length-history_lines (place + 1) xs)

-- a batch more
pub history_more : (lines new : List (List ℕ)) (bs : List Batch) (i : ℕ) (b : Batch) → i < length bs → b ≡ get_or bs i b → lines ≡ history_lines 1 (kept_of (take i bs)) → new ≡ lines ++ history_lines (length lines + 1) (kept_in b) → new ≡ history_lines 1 (kept_of (take (i + 1) bs))
history_more lines new bs i b inside is so_far step =
    let count : length lines + 1 ≡ 1 + length (kept_of (take i bs)) = omega (arith, ap length so_far, length-history_lines 1 (kept_of (take i bs))) in
    step ∙ ap (λ k. lines ++ history_lines k (kept_in b)) count ∙ ap (λ (ls : List (List ℕ)). ls ++ history_lines (1 + length (kept_of (take i bs))) (kept_in b)) so_far
    ∙ sym (history_lines-append 1 (kept_of (take i bs)) (kept_in b)) ∙ ap (history_lines 1) (sym (kept_of-one_more bs i b inside is))

pub kept_of-within : (bs : List Batch) (n : ℕ) → length (kept_of (take n bs)) ≤ length (kept_of bs)
kept_of-within bs n =
    let whole : length (kept_of bs) ≡ length (kept_of (take n bs)) + length (kept_of (drop n bs)) =
    ap (λ (xs : List Batch). length (kept_of xs)) (sym (take-append-drop n bs)) ∙ ap length (kept_of-append (take n bs) (drop n bs)) ∙ length-append (kept_of (take n bs)) (kept_of (drop n bs)) in
    omega arith

-- VOLUMES

pub volume_lines-one : (v more : ℕ) (owners : List Owner) (groups n : ℕ) → n ≡ min (length owners) groups → volume_lines v (suc more) owners groups ≡ volume_line v (take n owners) groups ∷ volume_lines (v + 1) more (drop n owners) groups
volume_lines-one v more owners groups n is =
    let least : n ≡ min groups (length owners) = omega arith in
    let front : take n owners ≡ take groups owners = ap (λ k. take k owners) least ∙ take_min groups owners in
    let back : drop n owners ≡ drop groups owners = ap (λ k. drop k owners) least ∙ drop_min groups owners in
    rw (front, back) (volume_lines-taken v more owners groups)
  where
    volume_lines-taken : (v more : ℕ) (owners : List Owner) (groups : ℕ) → volume_lines v (suc more) owners groups ≡ volume_line v (take groups owners) groups ∷ volume_lines (v + 1) more (drop groups owners) groups
    volume_lines-taken v more owners groups = let same : take groups (take groups owners) ≡ take groups owners = take-take groups groups owners (omega arith) in rw same refl

-- a volume more
pub volumes_more : (lines new whole : List (List ℕ)) (line : List ℕ) (v volumes : ℕ) (owners : List Owner) (groups n : ℕ) → v < volumes → n ≡ min (length owners) groups → line ≡ volume_line (v + 1) (take n owners) groups → new ≡ lines ++ line ∷ [] → lines ++ volume_lines (v + 1) (volumes - v) owners groups ≡ whole → new ++ volume_lines (v + 1 + 1) (volumes - (v + 1)) (drop n owners) groups ≡ whole
volumes_more lines new whole line v volumes owners groups n less is here step so_far =
    let one_more : volumes - v ≡ suc (volumes - (v + 1)) = omega arith in
    let first : volume_lines (v + 1) (volumes - v) owners groups ≡ line ∷ volume_lines (v + 1 + 1) (volumes - (v + 1)) (drop n owners) groups =
    ap (λ k. volume_lines (v + 1) k owners groups) one_more ∙ volume_lines-one (v + 1) (volumes - (v + 1)) owners groups n is ∙ ap (λ (l : List ℕ). l ∷ volume_lines (v + 1 + 1) (volumes - (v + 1)) (drop n owners) groups) (sym here) in
    ap (λ (ls : List (List ℕ)). ls ++ volume_lines (v + 1 + 1) (volumes - (v + 1)) (drop n owners) groups) step
    ∙ append_assoc lines (line ∷ []) (volume_lines (v + 1 + 1) (volumes - (v + 1)) (drop n owners) groups)
    ∙ ap (λ (ls : List (List ℕ)). lines ++ ls) (sym first) ∙ so_far

-- WHAT IS FOUND

pub find_holds : {A : Type 0} (P : A → Type 0) (p : A → Bool) (xs : List A) (x : A) → All P xs → find p xs ≡ Some x → P x
find_holds P p [] x all e = absurd (cc)
find_holds P p (y ∷ ys) x all e = by_test (λ f. find_holds P p ys x (All-tail P y ys all) f) (p y) refl
  where
    by_test : (find p ys ≡ Some x → P x) → (v : Bool) → p y ≡ v → P x
    by_test go true h =
        let there : Some y ≡ Some x = rw h at e in
        let same : y ≡ x = cc in
        subst P same (All-head P y ys all)
    by_test go false h = go (rw h at e)

-- all batches and the end
pub history_whole : (lines new : List (List ℕ)) (end : List ℕ) (bs : List Batch) (i : ℕ) → length bs ≤ i → lines ≡ history_lines 1 (kept_of (take i bs)) → end ≡ history_end (length lines) → new ≡ lines ++ end ∷ [] → new ≡ history_lines 1 (kept_of bs) ++ history_end (length (kept_of bs)) ∷ []
history_whole lines new end bs i all so_far last step =
    let whole : lines ≡ history_lines 1 (kept_of bs) = so_far ∙ ap (λ (xs : List Batch). history_lines 1 (kept_of xs)) (take_all i bs all) in
    let count : length lines ≡ length (kept_of bs) = ap length whole ∙ length-history_lines 1 (kept_of bs) in
    step ∙ ap (λ (l : List ℕ). lines ++ l ∷ []) (last ∙ ap history_end count) ∙ ap (λ (ls : List (List ℕ)). ls ++ history_end (length (kept_of bs)) ∷ []) whole

-- THE LINE OF AN OUTPUT

join_three : (l0 l1 l2 l3 a b u v : List ℕ) → l0 ≡ [] → l1 ≡ l0 ++ a → l2 ≡ l1 ++ b → l3 ≡ l2 ++ u ++ v → l3 ≡ a ++ b ++ u ++ v
join_three l0 l1 l2 l3 a b u v e0 e1 e2 e3 = rw (e3, e2, e1, e0) refl

regroup : (s key c dest forms copies lines mark busy held : List ℕ) →
    (key ++ (s ++ (c ++ (s ++ dest)))) ++ (s ++ (forms ++ (s ++ (copies ++ (s ++ (lines ++ (s ++ mark))))))) ++ (s ++ busy) ++ (s ++ held)
    ≡ key ++ (s ++ (c ++ (s ++ (dest ++ (s ++ (forms ++ (s ++ (copies ++ (s ++ (lines ++ (s ++ (mark ++ (s ++ (busy ++ (s ++ held)))))))))))))))
regroup s key c dest forms copies lines mark busy held = simp append_assoc

pub output_pieces : (l0 l1 l2 l3 key : List ℕ) (c : ℕ) (dest forms copies lines mark busy held : List ℕ) → l0 ≡ [] → l1 ≡ l0 ++ (key ++ 32 ∷ c ∷ 32 ∷ dest) → l2 ≡ l1 ++ 32 ∷ (forms ++ 32 ∷ (copies ++ 32 ∷ (lines ++ 32 ∷ mark))) → l3 ≡ l2 ++ 32 ∷ busy ++ 32 ∷ held → l3 ≡ key ++ 32 ∷ c ∷ 32 ∷ (dest ++ 32 ∷ (forms ++ 32 ∷ (copies ++ 32 ∷ (lines ++ 32 ∷ (mark ++ 32 ∷ (busy ++ 32 ∷ held))))))
output_pieces l0 l1 l2 l3 key c dest forms copies lines mark busy held e0 e1 e2 e3 =
    join_three l0 l1 l2 l3 (key ++ 32 ∷ c ∷ 32 ∷ dest) (32 ∷ (forms ++ 32 ∷ (copies ++ 32 ∷ (lines ++ 32 ∷ mark)))) (32 ∷ busy) (32 ∷ held) e0 e1 e2 e3
    ∙ regroup (32 ∷ []) key (c ∷ []) dest forms copies lines mark busy held
