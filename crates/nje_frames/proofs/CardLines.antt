-- Cards written one after another.
use Rattle.std.proofs.Common.{◌≡◌, ℕ, ◌+◌, List, [], ◌∷◌, ◌++◌, take, Some, slice_get, refl, sym, ap, ◌∙◌, append_assoc}
use Rattle.mas_types.proofs.ListLemmas.{take-one_more}
use Rattle.nje_frames.specs.Grammar.{line_feed, cards_text}

cards-push : (cards : List (List ℕ)) (card : List ℕ) → cards_text (cards ++ card ∷ []) ≡ cards_text cards ++ (card ++ line_feed ∷ [])
cards-push [] card = refl
cards-push (first ∷ cards) card =
    ap (λ (w : List ℕ). first ++ line_feed ∷ w) (cards-push cards card)
    ∙ sym (append_assoc first (line_feed ∷ cards_text cards) (card ++ line_feed ∷ []))

pub cards_written : (old bytes mid new : List ℕ) (text : List (List ℕ)) (at : ℕ) (card : List ℕ) → slice_get text at ≡ Some card → bytes ≡ old ++ cards_text (take at text) → mid ≡ bytes ++ card → new ≡ mid ++ line_feed ∷ [] → new ≡ old ++ cards_text (take (at + 1) text)
cards_written old bytes mid new text at card there so_far one two =
    let more : cards_text (take (at + 1) text) ≡ cards_text (take at text) ++ (card ++ line_feed ∷ []) = ap cards_text (take-one_more text at card there) ∙ cards-push (take at text) card in
    two ∙ ap (λ (w : List ℕ). w ++ line_feed ∷ []) (one ∙ ap (λ (w : List ℕ). w ++ card) so_far)
    ∙ append_assoc (old ++ cards_text (take at text)) card (line_feed ∷ [])
    ∙ append_assoc old (cards_text (take at text)) (card ++ line_feed ∷ [])
    ∙ ap (λ (w : List ℕ). old ++ w) (sym more)
