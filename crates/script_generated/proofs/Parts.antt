-- Decks and work, as lines of their steps.
use Rattle.std.proofs.Common.{◌≡◌, ◌∙◌, sym, ap, subst, ℕ, zero, suc, ◌+◌, ◌*◌, ◌%◌, ◌<◌, ◌≤◌, ◌==◌, Bool, true, false, if◌then◌else◌, ◌&&◌, List, [], ◌∷◌, ◌++◌, length, codes, refl, append_assoc, arith, length-append}
use Rattle.std.specs.List.{flat_map, list_all, range_with_len}
use Rattle.std.proofs.lemmas.List.Folds.{list_all-append}
use Rattle.mas_types.specs.declared.ids.MemberId.{MemberId}
use Rattle.mas_types.specs.Shown.{member_word}
use Rattle.script_lang.specs.declared.types.Ask.TheVariants as ask
use Rattle.script_lang.specs.declared.types.Run.{Run}
use Rattle.script_lang.specs.declared.types.Step.{Step}
use Rattle.script_lang.specs.Lines.{is_line}
use Rattle.script_laws.specs.Grammar.{DeckLine, MemberLine, WorkLine, step_of_member}
use Rattle.script_laws.specs.Whole.{AreLinesOf, DeckLines, IsStepLine, NoLine, StepLine}
use Rattle.gen_work.specs.Generated.{deck_cards, deck_lines, deck_member, part_lines, work_lines}
use Rattle.script_generated.specs.Steps.{part_steps, sysa, sysb, work_steps}
use Rattle.script_generated.proofs.Cards.{cards_are, count_cards}
use Rattle.script_generated.proofs.Lines.{cards_lines}

-- the member of a deck, by whether its number is odd
abbrev member_by : Bool → MemberId
member_by odd = if odd then sysa else sysb

abbrev deck_line : MemberId → List ℕ
deck_line m = member_word m ++ codes " DECK"

deck_line_is : (odd : Bool) → is_line (deck_line (member_by odd)) ≡ true
deck_line_is true = refl
deck_line_is false = refl

deck_line_of : (run : Run) (odd : Bool) → run.only ≡ false
    → IsStepLine run (deck_line (member_by odd)) (step_of_member (member_by odd) (ask.Deck []))
deck_line_of run true only = record {
  text = refl;
  words = MemberLine sysa (codes "SYSA") (codes "DECK" ∷ []) (ask.Deck []) (record { within = (omega arith, omega arith); named = refl }) DeckLine;
  only = only;
  race = λ _. tt;
}
deck_line_of run false only = record {
  text = refl;
  words = MemberLine sysb (codes "SYSB") (codes "DECK" ∷ []) (ask.Deck []) (record { within = (omega arith, omega arith); named = refl }) DeckLine;
  only = only;
  race = λ _. tt;
}

few_line : (run : Run) → run.only ≡ false → IsStepLine run (codes "SYSA WORK 40") (step_of_member sysa (ask.Work 40))
few_line run only = record {
  text = refl;
  words = MemberLine sysa (codes "SYSA") (codes "WORK" ∷ codes "40" ∷ []) (ask.Work 40) (record { within = (omega arith, omega arith); named = refl }) (WorkLine 40 (codes "40") (record { numeral = refl; value = refl; within = (omega arith, omega arith) }));
  only = only;
  race = λ _. tt;
}

all_line : (run : Run) → run.only ≡ false → IsStepLine run (codes "SYSB WORK 9999") (step_of_member sysb (ask.Work 9999))
all_line run only = record {
  text = refl;
  words = MemberLine sysb (codes "SYSB") (codes "WORK" ∷ codes "9999" ∷ []) (ask.Work 9999) (record { within = (omega arith, omega arith); named = refl }) (WorkLine 9999 (codes "9999") (record { numeral = refl; value = refl; within = (omega arith, omega arith) }));
  only = only;
  race = λ _. tt;
}

-- ONE PART

work_reads : (run : Run) (due : Bool) (lines : List (List ℕ)) (steps : List Step) → run.only ≡ false
    → AreLinesOf run lines steps
    → AreLinesOf run ((if due then codes "SYSA WORK 40" ∷ [] else []) ++ lines)
    ((if due then step_of_member sysa (ask.Work 40) ∷ [] else []) ++ steps)
work_reads run true lines steps only are =
    StepLine (codes "SYSA WORK 40") lines (step_of_member sysa (ask.Work 40)) steps (few_line run only) refl are
work_reads run false lines steps only are = are

part_reads : (run : Run) (i : ℕ) (lines : List (List ℕ)) (steps : List Step) → run.only ≡ false → i < 100000
    → AreLinesOf run lines steps → AreLinesOf run (part_lines i ++ lines) (part_steps i ++ steps)
part_reads run i lines steps only small are =
    let rest = work_lines i ++ lines in
    let whole : part_lines i ++ lines ≡ deck_line (deck_member i) ∷ deck_cards i ++ codes "++END" ∷ rest = append_assoc (deck_lines i) (work_lines i) lines
    ∙ ap (λ (cards : List (List ℕ)). deck_line (deck_member i) ∷ cards) (append_assoc (deck_cards i) (codes "++END" ∷ []) rest) in
    subst (λ (ls : List (List ℕ)). AreLinesOf run ls (part_steps i ++ steps)) (sym whole)
    (DeckLines (deck_line (deck_member i)) (deck_cards i) rest (deck_member i) (work_steps i ++ steps)
    (deck_line_of run (i % 2 == 1) only) (cards_are i small)
    (work_reads run (i % 4 == 0) lines steps only are))

work_are : (due : Bool) → list_all is_line (if due then codes "SYSA WORK 40" ∷ [] else []) ≡ true
work_are true = refl
work_are false = refl

part_are : (i : ℕ) → i < 100000 → list_all is_line (part_lines i) ≡ true
part_are i small =
    let cards : list_all is_line (deck_cards i) ≡ true = cards_lines (deck_cards i) (cards_are i small) in
    let deck : list_all is_line (deck_lines i) ≡ true =
    ap (λ (v : Bool). v && list_all is_line (deck_cards i ++ codes "++END" ∷ [])) (deck_line_is (i % 2 == 1))
    ∙ list_all-append is_line (deck_cards i) (codes "++END" ∷ [])
    ∙ ap (λ (v : Bool). v && list_all is_line (codes "++END" ∷ [])) cards in
    list_all-append is_line (deck_lines i) (work_lines i) ∙ ap (λ (v : Bool). v && list_all is_line (work_lines i)) deck
    ∙ work_are (i % 4 == 0)

work_count : (due : Bool) → length (if due then codes "SYSA WORK 40" ∷ [] else []) ≤ 1
work_count true = omega arith
work_count false = omega arith

part_count : (i : ℕ) → length (part_lines i) ≤ 20
part_count i =
    let cards = count_cards i in
    let work : length (work_lines i) ≤ 1 = work_count (i % 4 == 0) in
    let deck = length-append (deck_cards i) (codes "++END" ∷ []) in
    let all = length-append (deck_lines i) (work_lines i) in
    omega (arith, cards, work, deck, all)

step_count : (due : Bool) → length (if due then step_of_member sysa (ask.Work 40) ∷ [] else []) ≤ 1
step_count true = omega arith
step_count false = omega arith

-- ALL PARTS

-- so many decks from one on, and the work at the end
pub parts_read : (run : Run) (n from : ℕ) → run.only ≡ false → from + n < 100000
    → AreLinesOf run (flat_map part_lines (range_with_len from n) ++ codes "SYSB WORK 9999" ∷ [])
    (flat_map part_steps (range_with_len from n) ++ step_of_member sysb (ask.Work 9999) ∷ [])
parts_read run zero from only few =
    StepLine (codes "SYSB WORK 9999") [] (step_of_member sysb (ask.Work 9999)) [] (all_line run only) refl NoLine
parts_read run (suc n) from only few =
    let lines = flat_map part_lines (range_with_len (from + 1) n) in
    let steps = flat_map part_steps (range_with_len (from + 1) n) in
    let last = codes "SYSB WORK 9999" ∷ [] in
    let last_step = step_of_member sysb (ask.Work 9999) ∷ [] in
    subst (λ (ls : List (List ℕ)). AreLinesOf run ls ((part_steps from ++ steps) ++ last_step)) (sym (append_assoc (part_lines from) lines last))
    (subst (λ (ss : List Step). AreLinesOf run (part_lines from ++ (lines ++ last)) ss) (sym (append_assoc (part_steps from) steps last_step))
    (part_reads run from (lines ++ last) (steps ++ last_step) only (omega arith) (parts_read run n (from + 1) only (omega arith))))

pub parts_are : (n from : ℕ) → from + n < 100000
    → list_all is_line (flat_map part_lines (range_with_len from n) ++ codes "SYSB WORK 9999" ∷ []) ≡ true
parts_are zero from few = refl
parts_are (suc n) from few =
    let lines = flat_map part_lines (range_with_len (from + 1) n) in
    let last = codes "SYSB WORK 9999" ∷ [] in
    ap (list_all is_line) (append_assoc (part_lines from) lines last) ∙ list_all-append is_line (part_lines from) (lines ++ last)
    ∙ ap (λ (v : Bool). v && list_all is_line (lines ++ last)) (part_are from (omega arith))
    ∙ parts_are n (from + 1) (omega arith)

pub parts_count : (n from : ℕ) → length (flat_map part_lines (range_with_len from n)) ≤ 20 * n
parts_count zero from = omega arith
parts_count (suc n) from =
    let rest = parts_count n (from + 1) in
    let own = part_count from in
    let all = length-append (part_lines from) (flat_map part_lines (range_with_len (from + 1) n)) in
    omega (arith, rest, own, all)

pub steps_count : (n from : ℕ) → length (flat_map part_steps (range_with_len from n)) ≤ 2 * n
steps_count zero from = omega arith
steps_count (suc n) from =
    let rest = steps_count n (from + 1) in
    let own : length (work_steps from) ≤ 1 = step_count (from % 4 == 0) in
    let all = length-append (part_steps from) (flat_map part_steps (range_with_len (from + 1) n)) in
    omega (arith, rest, own, all)
