-- The whole lines of two lists.
use Rattle.std.proofs.Common.{◌≡◌, ℕ, ◌≤◌, List, [], ◌++◌, length, take, map, filter, ◌∙◌, sym, ap, arith}
use Rattle.std.proofs.lemmas.List.{map-append, take_all}
use Rattle.std.proofs.lemmas.List.Elements.{filter-append}
use Rattle.spool_disk.specs.declared.entry.Entry.{Entry}
use Rattle.spool_plant.specs.View.{Line}
use Rattle.spool_disk.specs.Deeds.{Deed, lines_of}
use Rattle.spool_disk.specs.Entries.{deeds_of}
use Rattle.spool_disk.proofs.Entering.{length-deeds}
use Rattle.spool_disk.specs.Whole.{whole_lines}

pub whole_append : (a b : List Line) → whole_lines (a ++ b) ≡ whole_lines a ++ whole_lines b
whole_append a b = ap (map (λ (l : Line). l.text)) (filter-append (λ (l : Line). l.whole) a b) ∙ map-append (λ (l : Line). l.text) (filter (λ (l : Line). l.whole) a) (filter (λ (l : Line). l.whole) b)

-- the lines of a plant, of which the first stand in its base
pub all_lines : (first log : List Entry) (text arena : List ℕ) (f l : List Entry) (t a : List ℕ) (now : ℕ) (place : ℕ) (none mid lines : List (List ℕ)) → none ≡ [] → f ≡ first → t ≡ text → l ≡ log → a ≡ arena → length log ≤ now
    → mid ≡ none ++ whole_lines (lines_of place (deeds_of f t)) → lines ≡ mid ++ whole_lines (lines_of place (deeds_of l a)) → lines ≡ whole_lines (lines_of place (deeds_of first text) ++ lines_of place (take now (deeds_of log arena)))
all_lines first log text arena f l t a now place none mid lines empty is_first is_text is_log is_arena short begin then_all =
    then_all
    ∙ ap (λ (m : List (List ℕ)). m ++ whole_lines (lines_of place (deeds_of l a)))
    (begin ∙ ap (λ (m : List (List ℕ)). m ++ whole_lines (lines_of place (deeds_of f t))) empty ∙ ap (λ (e : List Entry). whole_lines (lines_of place (deeds_of e t))) is_first ∙ ap (λ (b : List ℕ). whole_lines (lines_of place (deeds_of first b))) is_text)
    ∙ ap (λ (e : List Entry). whole_lines (lines_of place (deeds_of first text)) ++ whole_lines (lines_of place (deeds_of e a))) is_log
    ∙ ap (λ (b : List ℕ). whole_lines (lines_of place (deeds_of first text)) ++ whole_lines (lines_of place (deeds_of log b))) is_arena
    ∙ sym (whole_append (lines_of place (deeds_of first text)) (lines_of place (deeds_of log arena)))
    ∙ ap (λ (d : List Deed). whole_lines (lines_of place (deeds_of first text) ++ lines_of place d)) (sym (take_all now (deeds_of log arena) (omega (arith, short, length-deeds log arena))))
