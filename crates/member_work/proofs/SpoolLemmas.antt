-- The outputs of a job, one after another, in a member's groups.
use Rattle.member_work.proofs.Names.{◌≡◌, ◌≢◌, ℕ, zero, suc, ◌+◌, ◌≤◌, ◌==◌, true, List, [], ◌∷◌, ◌++◌, length, take, drop, All, Some, slice_get, sym, ◌∙◌, ap, subst, arith, GroupNo, OutSpec, groups_of_outputs, groups_needed, volume_of, Spools, IsSynced, AreQuiet, StandBelow, lies_there, Rise, page_in, All-drop, All-head, All-tail, All-take, IsOutSpec, HasNeededGroups, ReadsTexts, sum-groups, text_there, AreSpooled, AreWritten, length-drop, length-take, length-take-le, take-append-drop, of_front, slice_get-get_or, slice_get_within}
use Rattle.std.proofs.lemmas.List.Folds.{list_any-append}
use Rattle.spool_text.specs.Texts.{packed}
use Rattle.queue_laws.proofs.HandedOut.{or_left, or_right}

-- SHARES OF GROUPS

get_behind : {A : Type 0} (n : ℕ) (xs : List A) (k : ℕ) (x : A) → slice_get (drop n xs) k ≡ Some x → slice_get xs (n + k) ≡ Some x
get_behind zero xs k x here = let same : k ≡ zero + k = omega arith in subst (λ (i : ℕ). slice_get xs i ≡ Some x) same here
get_behind (suc n) [] k x here = absurd (cc)
get_behind (suc n) (y ∷ xs) k x here = let same : suc (n + k) ≡ suc n + k = omega arith in subst (λ (i : ℕ). slice_get (y ∷ xs) i ≡ Some x) same (get_behind n xs k x here)

pub rise_behind : (n : ℕ) (groups : List GroupNo) → Rise groups → Rise (drop n groups)
rise_behind n groups rise i j g h less at_i at_j = rise (n + i) (n + j) g h (omega (arith, less)) (get_behind n groups i g at_i) (get_behind n groups j h at_j)

-- a group of the first share is none of the others
apart : (n : ℕ) (groups : List GroupNo) (k : ℕ) (h : GroupNo) → Rise groups → slice_get (take n groups) k ≡ Some h → All (λ (g : GroupNo). h.0 ≢ g.0) (drop n groups)
apart n groups k h rise here j d lt same =
    let behind = slice_get-get_or (drop n groups) j d lt in
    let below = slice_get_within (take n groups) k h here in
    let long = length-take n groups in
    let less = rise k (n + j) h _ (omega (arith, below, long)) (of_front n groups k h here) (get_behind n groups j _ behind) in
    absurd (omega (arith, less, same))

-- lengths
pub behind_long : (s : OutSpec) (specs : List OutSpec) (groups : List GroupNo) → length groups ≡ groups_of_outputs (s ∷ specs) → length (drop (groups_needed s.text) groups) ≡ groups_of_outputs specs
behind_long s specs groups long =
    let sum = sum-groups s specs in
    let cut = length-drop (groups_needed s.text) groups in
    omega (arith, sum, cut, long)

pub first_fits : (s : OutSpec) (specs : List OutSpec) (groups : List GroupNo) → length groups ≡ groups_of_outputs (s ∷ specs) → groups_needed s.text ≤ length groups
first_fits s specs groups long = let sum = sum-groups s specs in omega (arith, sum, long)

-- CAUSES

lies_by : (per v n : ℕ) (groups : List GroupNo) → lies_there per v (take n groups ++ drop n groups) ≡ true → lies_there per v groups ≡ true
lies_by per v n groups there = subst (λ (gs : List GroupNo). lies_there per v gs ≡ true) (take-append-drop n groups) there

pub lies_front : (per v n : ℕ) (groups : List GroupNo) → lies_there per v (take n groups) ≡ true → lies_there per v groups ≡ true
lies_front per v n groups there = lies_by per v n groups (list_any-append (λ (g : GroupNo). volume_of per g == v) (take n groups) (drop n groups) ∙ or_left (lies_there per v (take n groups)) (lies_there per v (drop n groups)) there)

pub lies_behind : (per v n : ℕ) (groups : List GroupNo) → lies_there per v (drop n groups) ≡ true → lies_there per v groups ≡ true
lies_behind per v n groups there = lies_by per v n groups (list_any-append (λ (g : GroupNo). volume_of per g == v) (take n groups) (drop n groups) ∙ or_right (lies_there per v (take n groups)) (lies_there per v (drop n groups)) there)

-- WHAT STANDS

-- the first output's pages, while others are written
pub still_stand : (n per : ℕ) (pages : List (List ℕ)) (groups : List GroupNo) (old new : Spools) → Rise groups → ((h : GroupNo) → All (λ (g : GroupNo). h.0 ≢ g.0) (drop n groups) → page_in new per h ≡ page_in old per h)
    → StandBelow n old per pages (take n groups) → StandBelow n new per pages (take n groups)
still_stand n per pages groups old new rise spares stand k g lt here = stand k g lt here ∙ ap Some (sym (spares g (apart n groups k g rise here)))

-- once all are synced the texts stand there
pub all_spooled : ReadsTexts → HasNeededGroups → (old new : Spools) (per : ℕ) (specs : List OutSpec) (groups : List GroupNo) → All IsOutSpec specs → length groups ≡ groups_of_outputs specs → AreWritten old per specs groups → AreQuiet old new → All (IsSynced new per) groups → AreSpooled new per specs groups
all_spooled reads needed old new per [] groups fit long written quiet synced = tt
all_spooled reads needed old new per (s ∷ specs) groups fit long written quiet synced =
    let n = groups_needed s.text in
    let as_many = length-take-le n groups (first_fits s specs groups long) in
    let stand : StandBelow (length (take n groups)) old per (packed s.text) (take n groups) = subst (λ (k : ℕ). StandBelow k old per (packed s.text) (take n groups)) (sym as_many) written.0 in (
      text_there reads needed old new per s.text (take n groups) (All-head IsOutSpec s specs fit).text as_many stand quiet (All-take (IsSynced new per) n groups synced),
      all_spooled reads needed old new per specs (drop n groups) (All-tail IsOutSpec s specs fit) (behind_long s specs groups long) written.1 quiet (All-drop (IsSynced new per) n groups synced),
    )
