-- Pages that were read, where page 0 is that of the member's own.
use Rattle.std.proofs.Common.{◌≡◌, ℕ, ◌+◌, ◌≤◌, ◌<◌, nat_lt, Bool, true, false, if◌then◌else◌, List, [], ◌∷◌, ◌++◌, length, refl, sym, ◌∙◌, ap, subst, arith, All}
use Rattle.std.proofs.lemmas.Bool.{ltb-true}
use Rattle.std.proofs.lemmas.List.Elements.{All-get_or, All-head, All-tail, All-weaker}
use Rattle.mas_types.specs.declared.ids.Page.{Page}
use Rattle.ckpt_copy.specs.Pages.{page_in as page_of_bytes}
use Rattle.ckpt_tables.specs.Pages.{page_in}
use Rattle.ckpt_tables.specs.Shape.{level_in}
use Rattle.ckpt_pages.specs.Given.{levels_given, levels_in, AreTheirLevels}
use Rattle.member_node.specs.declared.checkpoint.Checkpoint.{Checkpoint}
use Rattle.member_node.specs.Drawn.{AreDrawn}
use Rattle.member_node.specs.Mirrors.{IsMirror}
use Rattle.member_node.specs.Reads.{ArePagesOf}
use Rattle.member_node.specs.Wanted.{AreUnchanged, exceeding, level_had, wanted}
use Rattle.member_node.proofs.AgeLemmas.{given_at}
use Rattle.member_node.proofs.WantedLemmas.{levels_many}

-- NOTHING IS WANTED

exceeding_none : (l n : ℕ) (xs : List ℕ) → All (λ x. x ≤ l) xs → exceeding l n xs ≡ []
exceeding_none l n [] low = refl
exceeding_none l n (x ∷ xs) low = by_test (exceeding_none l (n + 1) xs (All-tail (λ y. y ≤ l) x xs low)) (nat_lt l x) refl where
  by_test : exceeding l (n + 1) xs ≡ [] → (b : Bool) → nat_lt l x ≡ b → (if b then n ∷ [] else []) ++ exceeding l (n + 1) xs ≡ []
  by_test rest true is =
      let over : l < x = ltb-true l x is in
      let under : x ≤ l = All-head (λ y. y ≤ l) x xs low in
      absurd (omega (arith, over, under))
  by_test rest false is = rest

wanted_low : (l : ℕ) (levels : List ℕ) → All (λ x. x ≤ l) levels → length (wanted l levels) ≡ 0
wanted_low l [] low = refl
wanted_low l (first ∷ levels) low = ap (length {A = ℕ}) (exceeding_none l 1 levels (All-tail (λ y. y ≤ l) first levels low))

pub none_wanted : (l : ℕ) (room own : List Page) → page_in room 0 ≡ page_in own 0 → length room ≡ length own → All (λ age. age ≤ l) (levels_given own) → 0 ≡ length (wanted l (levels_given room))
none_wanted l room own first many low =
    let wants : List ℕ → ℕ → ℕ = λ page0 n. length (wanted l (levels_in page0 n)) in
    sym (ap (λ (page0 : List ℕ). wants page0 (length room)) first ∙ ap (wants (page_in own 0)) many ∙ wanted_low l (levels_given own) low)

-- AND EACH PAGE IS THE MEMBER'S OWN

low_at : (l : ℕ) (page0 : List ℕ) (n : ℕ) → All (λ age. age ≤ l) (levels_in page0 n) → (q : ℕ) → q < n → level_in page0 q ≤ l
low_at l page0 n low q lt =
    subst (λ (age : ℕ). age ≤ l) (given_at page0 n q lt) (All-get_or (λ age. age ≤ l) (levels_in page0 n) q 0 (omega (arith, lt, levels_many page0 n)) low)

pub pages_low : (l : ℕ) (was : List ℕ) (old mid own : List Page) → length own ≡ length old → length mid ≡ length old → page_in mid 0 ≡ page_in old 0 → page_in mid 0 ≡ page_in own 0 → IsMirror mid own → All (λ age. age ≤ l) (levels_given own)
    → ArePagesOf 0 1 was old → AreUnchanged (length old) l own was → ArePagesOf 1 (length mid) was mid
pages_low l was old mid own many1 many2 header first mirror low at same q from to =
    let page0 : page_in own 0 ≡ page_of_bytes 0 was = sym first ∙ header ∙ at 0 (omega arith) (omega arith) in
    let inside : q < length own = omega (arith, to, many1, many2) in
    let age : level_in (page_of_bytes 0 was) q ≤ l = subst (λ (p : List ℕ). level_in p q ≤ l) page0 (low_at l (page_in own 0) (length own) low q inside) in
    mirror q from inside ∙ same q from (omega (arith, to, many2)) age

-- A member's own pages have no level above its own, once it has read.
pub own_low : AreTheirLevels → (k : Checkpoint) → AreDrawn k.tables k.level k.levels k.pages → (fresh : Bool) → 1 ≤ level_had fresh k.level → All (λ age. age ≤ level_had fresh k.level) (levels_given k.pages)
own_low given k drawn true some = absurd (omega (arith, some))
own_low given k drawn false some =
    subst (All (λ age. age ≤ k.level)) (sym (given k.pages k.tables (record { level = k.level; levels = k.levels; fit = drawn.spelling; ages = drawn.leveled; spell = drawn.spelled })))
    (All-weaker (λ l. (1 ≤ l) × (l ≤ k.level)) (λ age. age ≤ k.level) (λ l both. both.1) k.levels drawn.leveled.each)
