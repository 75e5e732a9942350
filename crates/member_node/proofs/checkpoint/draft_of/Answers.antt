use Rattle.std.proofs.Common.{◌≡◌, ◌∙◌, ℕ, ◌+◌, ◌-◌, ◌<◌, ◌≤◌, Bool, not, ◌&&◌, ◌||◌, if◌then◌else◌, List, [], ◌∷◌, ◌++◌, length, drop, get_or, refl, sym, ap, arith}
use Rattle.std.specs.Prelude.{◌==◌}
use Rattle.std.specs.Str.{bytes_eq}
use Rattle.std.proofs.lemmas.List.{drop_more}
use Rattle.ckpt_tables.specs.Pages.{page_of}
use Rattle.ckpt_tables.specs.Shape.{differing_from, page_count}
use Rattle.mas_complex.specs.Fits.{are_same}
use Rattle.member_node.proofs.RedrawLemmas.{is_spelling, listed_all, listed_more, page_with, same_all, same_more, sized_more, spelled_from}
use Rattle.member_node.proofs.SpellLemmas.{page_got}
use Rattle.member_node.proofs.checkpoint.draft_of.Goals as goal

pub is_as_drawn-is_same-requires-clause-size : goal.is_as_drawn-is_same-requires-clause-size
is_as_drawn-is_same-requires-clause-size c =
    let within : c.loop-number.number < page_count c.args.tables.now.config = omega (arith, c.page_count-number-end.ensures, c.loop-number-test.true) in
    c.requires.sized c.loop-number.number (page_with []) (omega (arith, within, c.requires.pages))

pub is_as_drawn-is_same-requires-clause-unchanged : goal.is_as_drawn-is_same-requires-clause-unchanged
is_as_drawn-is_same-requires-clause-unchanged c none =
    let within : c.loop-number.number < page_count c.args.tables.now.config = omega (arith, c.page_count-number-end.ensures, c.loop-number-test.true) in
    let inside : c.loop-number.number < length c.args.pages.now = omega (arith, within, c.requires.pages) in
    page_got c.args.pages.now c.loop-number.number (page_with []) inside ∙ c.requires.unchanged c.loop-number.number inside none

pub loop-number-preserved : goal.loop-number-preserved
loop-number-preserved c =
    let t = c.args.tables.now in
    let n = c.loop-number.number in
    let within : c.loop-number.number < page_count c.args.tables.now.config = omega (arith, c.page_count-number-end.ensures, c.loop-number-test.true) in
    let inside : c.loop-number.number < length c.args.pages.now = omega (arith, within, c.requires.pages) in
    let x = get_or c.args.pages.now c.loop-number.number (page_with []) in
    let y = page_of c.args.tables.now c.args.levels.now c.loop-number.number in
    let here = drop_more c.args.pages.now c.loop-number.number (page_with []) inside in
    let drawn = c.is_as_drawn-is_same.ensures in
    let same : c.is_as_drawn-is_same.result ≡ bytes_eq (get_or c.args.pages.now c.loop-number.number (page_with [])).0 (page_of c.args.tables.now c.args.levels.now c.loop-number.number) = drawn.same in
    let noted : c.note.new.numbers ≡ c.loop-number.numbers ++ (if (c.loop-number.number == 0) || not (bytes_eq (get_or c.args.pages.now c.loop-number.number (page_with [])).0 (page_of c.args.tables.now c.args.levels.now c.loop-number.number)) then c.loop-number.number ∷ [] else []) =
    c.in_ok-note.ensures ∙ ap (λ (b : Bool). c.loop-number.numbers ++ (if (c.loop-number.number == 0) || not b then c.loop-number.number ∷ [] else [])) same in (
      ap (λ (ns : List ℕ). ns ++ differing_from (c.loop-number.number + 1) (drop (c.loop-number.number + 1) c.args.pages.now) (spelled_from c.args.tables.now c.args.levels.now (c.loop-number.number + 1) (page_count c.args.tables.now.config - (c.loop-number.number + 1)))) noted
          ∙ listed_more t c.args.levels.now (page_count c.args.tables.now.config) n c.args.pages.now x (page_with y) within here refl c.loop-number.numbers _ c.loop-number.invariant.0,
      ap (λ (b : Bool). (c.loop-number.same && b) && are_same (drop (c.loop-number.number + 1) c.args.pages.now) (spelled_from c.args.tables.now c.args.levels.now (c.loop-number.number + 1) (page_count c.args.tables.now.config - (c.loop-number.number + 1)))) same
          ∙ same_more t c.args.levels.now (page_count c.args.tables.now.config) n c.args.pages.now x (page_with y) within here refl c.loop-number.same _ c.loop-number.invariant.1,
      sized_more t c.args.levels.now n y refl drawn.sized c.loop-number.invariant.2,
    )

pub returns-then-same : goal.returns-then-same
returns-then-same c =
    let t = c.args.tables.now in
    let over : page_count c.args.tables.now.config ≤ c.loop-number.number = omega (arith, c.page_count-number-end.ensures, c.loop-number-test.false) in
    let many : length c.args.pages.now ≤ c.loop-number.number = omega (arith, over, c.requires.pages) in (
      spelled_from t c.args.levels.now 0 (page_count c.args.tables.now.config),
      is_spelling t c.args.levels.now (page_count c.args.tables.now.config) refl (λ p lt. c.loop-number.invariant.2 p (omega (arith, lt, over))),
      sym (same_all t c.args.levels.now (page_count c.args.tables.now.config) c.loop-number.number c.args.pages.now many over c.loop-number.same _ c.loop-number.invariant.1) ∙ c.if-same.true,
    )

pub returns-else-same : goal.returns-else-same
returns-else-same c =
    let t = c.args.tables.now in
    let over : page_count c.args.tables.now.config ≤ c.loop-number.number = omega (arith, c.page_count-number-end.ensures, c.loop-number-test.false) in
    let many : length c.args.pages.now ≤ c.loop-number.number = omega (arith, over, c.requires.pages) in
    record {
      drawn = spelled_from t c.args.levels.now 0 (page_count c.args.tables.now.config);
      spelling = is_spelling t c.args.levels.now (page_count c.args.tables.now.config) refl (λ p lt. c.loop-number.invariant.2 p (omega (arith, lt, over)));
      differ = sym (same_all t c.args.levels.now (page_count c.args.tables.now.config) c.loop-number.number c.args.pages.now many over c.loop-number.same _ c.loop-number.invariant.1) ∙ c.if-same.false;
      numbers = listed_all t c.args.levels.now (page_count c.args.tables.now.config) c.loop-number.number c.args.pages.now many over c.loop-number.numbers _ c.loop-number.invariant.0;
    }
