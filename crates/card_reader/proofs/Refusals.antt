-- Cards that are refused as such.
use Rattle.std.proofs.Common.{◌≡◌, ◌∙◌, ap, ℕ, ◌+◌, ◌<◌, ◌≤◌, Bool, true, false, not, ◌&&◌, nat_le, nat_lt, if◌then◌else◌, Option, Some, None, List, [], ◌∷◌, length, take, drop, refl, arith}
use Rattle.std.proofs.lemmas.Bool.{not_from_false as not_true, not_from_true as not_false}
use Rattle.std.specs.Prelude.{All}
use Rattle.std.specs.List.{slice_get}
use Rattle.std.proofs.lemmas.Bool.Decides.{nat_tests}
use Rattle.std.proofs.lemmas.List.{length-take}
use Rattle.std.proofs.lemmas.List.Elements.{All-nil, All-cons, All-take}
use Rattle.mas_types.specs.declared.answers.CardCause.TheVariants as cause
use Rattle.mas_types.specs.Fit.{AreLines, is_text_line}
use Rattle.mas_types.specs.Limits.{card_bytes, line_bytes, text_lines_most}
use Rattle.card_reader.specs.declared.decks.Refused.{Refused}
use Rattle.card_reader.specs.Decks.{bad, is_card, refused_card}
use Rattle.card_reader.proofs.Fronts.{rest_from, if_yes, if_no}

-- of some cards, the one at a place
module _ (cards : List (List ℕ)) (last at : ℕ) (card : List ℕ) (here : slice_get cards at ≡ Some card) where
  pub refused-text : is_card card ≡ false → refused_card (at + 1) last (drop at cards) ≡ Some (bad (at + 1) cause.Text)
  refused-text is = ap (refused_card (at + 1) last) (rest_from at cards card here) ∙ if_yes (not (is_card card)) _ _ (not_true (is_card card) is)

  pub refused-many : is_card card ≡ true → text_lines_most < at + 1 → refused_card (at + 1) last (drop at cards) ≡ Some (bad (at + 1) cause.Many)
  refused-many is many =
      let test : nat_lt text_lines_most (at + 1) ≡ true = grind (arith, nat_tests) in
      ap (refused_card (at + 1) last) (rest_from at cards card here) ∙ if_no (not (is_card card)) _ _ (not_false (is_card card) is) ∙ if_yes (nat_lt text_lines_most (at + 1)) _ _ test

  pub refused-after : is_card card ≡ true → at + 1 ≤ text_lines_most → last < at + 1 → refused_card (at + 1) last (drop at cards) ≡ Some (bad (at + 1) cause.After)
  refused-after is few behind =
      let test : nat_lt text_lines_most (at + 1) ≡ false = grind (arith, nat_tests) in
      let after : nat_lt last (at + 1) ≡ true = grind (arith, nat_tests) in
      ap (refused_card (at + 1) last) (rest_from at cards card here) ∙ if_no (not (is_card card)) _ _ (not_false (is_card card) is) ∙ if_no (nat_lt text_lines_most (at + 1)) _ _ test ∙ if_yes (nat_lt last (at + 1)) _ _ after

  pub refused-more : is_card card ≡ true → at + 1 ≤ text_lines_most → at + 1 ≤ last → refused_card (at + 1) last (drop at cards) ≡ refused_card (at + 1 + 1) last (drop (at + 1) cards)
  refused-more is few before =
      let test : nat_lt text_lines_most (at + 1) ≡ false = grind (arith, nat_tests) in
      let after : nat_lt last (at + 1) ≡ false = grind (arith, nat_tests) in
      ap (refused_card (at + 1) last) (rest_from at cards card here) ∙ if_no (not (is_card card)) _ _ (not_false (is_card card) is) ∙ if_no (nat_lt text_lines_most (at + 1)) _ _ test ∙ if_no (nat_lt last (at + 1)) _ _ after

-- CARDS OF WHICH NONE IS REFUSED

and_left : (a b : Bool) → (a && b) ≡ true → a ≡ true
and_left true b e = refl
and_left false b e = absurd (cc)

and_right : (a b : Bool) → (a && b) ≡ true → b ≡ true
and_right true b e = e
and_right false b e = absurd (cc)

abbrev pub IsCard : List ℕ → Type 0
IsCard card = is_card card ≡ true

first_passes : (v many after : Bool) (n : ℕ) (more : Option Refused) → (if not v then Some (bad n cause.Text) else if many then Some (bad n cause.Many) else if after then Some (bad n cause.After) else more) ≡ None → (v ≡ true) × (many ≡ false) × (more ≡ None)
first_passes true true after n more e = absurd (cc)
first_passes true false true n more e = absurd (cc)
first_passes true false false n more e = (refl, refl, e)
first_passes false many after n more e = absurd (cc)

none_refused : (n last : ℕ) (cards : List (List ℕ)) → refused_card n last cards ≡ None → All IsCard cards × (n ≤ text_lines_most + 1 → n + length cards ≤ text_lines_most + 1)
none_refused n last [] e = (All-nil IsCard, λ few. omega arith)
none_refused n last (card ∷ cards) e =
    let first : (is_card card ≡ true) × (nat_lt text_lines_most n ≡ false) × (refused_card (n + 1) last cards ≡ None) = first_passes (is_card card) (nat_lt text_lines_most n) (nat_lt last n) n (refused_card (n + 1) last cards) e in
    let rest = none_refused (n + 1) last cards first.2 in
    let test : nat_lt text_lines_most n ≡ false = first.1 in
    let few : n ≤ text_lines_most = grind (arith, nat_tests) in
    let more : n + 1 + length cards ≤ text_lines_most + 1 = rest.1 (omega arith) in
    (All-cons IsCard card cards first.0 rest.0, λ fits. omega arith)

short_card : (card : List ℕ) → IsCard card → length card ≤ line_bytes
short_card card is =
    let test : nat_le (length card) card_bytes ≡ true = and_left (nat_le (length card) card_bytes) (is_text_line card) is in
    let short : length card ≤ card_bytes = grind (arith, nat_tests) in
    omega arith

-- cards of which none is refused are lines of a text, and so is each front of them
pub cards_fit : (k last : ℕ) (cards : List (List ℕ)) → refused_card 1 last cards ≡ None → AreLines (take k cards)
cards_fit k last cards e =
    let all = none_refused 1 last cards e in
    let few : 1 + length cards ≤ text_lines_most + 1 = all.1 (omega arith) in
    let front : All IsCard (take k cards) = All-take IsCard k cards all.0 in
    record {
      few = simp length-take (omega arith);
      short = λ i d inside. short_card _ (front i d inside);
      text = λ i d inside. and_right _ _ (front i d inside);
    }
