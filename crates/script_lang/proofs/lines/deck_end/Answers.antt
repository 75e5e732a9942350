use Rattle.std.proofs.Common.{◌≡◌, ◌∙◌, ◌+◌, ℕ, List, length, drop, false, sym, ap, arith}
use Rattle.std.proofs.lemmas.List.{drop-drop}
use Rattle.std.specs.List.{list_any, position_or_len}
use Rattle.script_lang.specs.Lines.{is_deck_end, lines_of}
use Rattle.script_lang.proofs.Parts.{passes}
use Rattle.script_lang.proofs.lines.deck_end.Goals as goal

pub loop-rest-preserved : goal.loop-rest-preserved
loop-rest-preserved c =
    let card : is_deck_end c.next_line.result.0.now ≡ false = sym c.is_deck_end.ensures ∙ c.if-is_deck_end.false in
    let passed = passes is_deck_end c.next_line.result.0.now (lines_of c.loop-rest.rest.now) (lines_of c.next_line.result.1.now) c.next_line.ensures.lines card in
    record {
      found = passed.0 ∙ c.loop-rest.invariant.found;
      place = omega (arith, passed.1, c.loop-rest.invariant.place);
      rest = passed.2 ∙ ap (λ (lines : List (List ℕ)). drop 1 lines) c.loop-rest.invariant.rest ∙ drop-drop 1 c.loop-rest.lines (lines_of c.args.script.now);
      within = omega (arith, c.next_line.ensures.shorter, c.loop-rest.invariant.within);
    }
