use Rattle.std.proofs.Common.{◌≡◌, ◌∙◌, ℕ, ◌+◌, ◌-◌, ◌/◌, ◌*◌, List, [], ◌∷◌, Some, length, take, drop, ap, sym, arith}
use Rattle.std.proofs.lemmas.List.{length-drop, take_all}
use Rattle.std.proofs.lemmas.Option.{slice_get-get_or}
use Rattle.mas_types.specs.LineBytes.{lines_bytes, behind_line}
use Rattle.mas_types.proofs.LineLemmas.{length_lines, mark_within, from_mark, line_here}
use Rattle.mas_types.proofs.texts.Lines.bytes_from.Goals as goal

pub marked_place-requires : goal.marked_place-requires
marked_place-requires c =
    let count : length c.args.self.now ≡ c.self.inside.count = rw (← c.self.view_is) (length_lines c.self.inside.count c.self.inside.bytes.items) in
    omega (arith, count, c.requires, c.self.invariant.3)

pub slice_bounds-rest-count : goal.slice_bounds-rest-count
slice_bounds-rest-count c =
    rw c.deref.ensures.value (mark_within c.self.inside.count c.self.inside.bytes.items (0 ∷ c.self.inside.marks.items) (c.args.at / 32) c.marked_place.result c.self.invariant c.marked_place.ensures)

pub slice_bounds-rest-start : goal.slice_bounds-rest-start
slice_bounds-rest-start c = slice_bounds-rest-count c

pub loop-passed-init : goal.loop-passed-init
loop-passed-init c =
    let left : length (drop c.marked_place.result c.deref.result.now) ≡ length c.deref.result.now - c.marked_place.result = length-drop c.marked_place.result c.deref.result.now in
    let whole : take (length c.deref.result.now - c.marked_place.result) (drop c.marked_place.result c.deref.result.now) ≡ drop c.marked_place.result c.deref.result.now = take_all _ _ (omega (arith, left)) in
    let from = from_mark c.self.inside.count c.self.inside.bytes.items (0 ∷ c.self.inside.marks.items) (c.args.at / 32) c.marked_place.result c.self.invariant c.marked_place.ensures in
    let none : 32 * (c.args.at / 32) + 0 ≡ 32 * (c.args.at / 32) = omega arith in
    whole ∙ ap (drop c.marked_place.result) c.deref.ensures.value ∙ from ∙ ap (λ (lines : List (List ℕ)). lines_bytes (drop (32 * (c.args.at / 32)) lines)) c.self.view_is ∙ ap (λ (n : ℕ). lines_bytes (drop n c.args.self.now)) (sym none)

pub first_line-requires : goal.first_line-requires
first_line-requires c =
    let short = c.self.invariant.1 in
    rw c.loop-passed.invariant (line_here c.args.self.now (32 * (c.args.at / 32) + c.loop-passed._passed) (rw (← c.self.view_is) short) (omega (arith, c.requires, c.loop-passed-test.true))).0

pub loop-passed-preserved : goal.loop-passed-preserved
loop-passed-preserved c =
    let short = c.self.invariant.1 in
    let more : 32 * (c.args.at / 32) + c.loop-passed._passed + 1 ≡ 32 * (c.args.at / 32) + (c.loop-passed._passed + 1) = omega arith in
    c.first_line.ensures.behind ∙ ap behind_line c.loop-passed.invariant ∙ (line_here c.args.self.now (32 * (c.args.at / 32) + c.loop-passed._passed) (rw (← c.self.view_is) short) (omega (arith, c.requires, c.loop-passed-test.true))).2 ∙ ap (λ (n : ℕ). lines_bytes (drop n c.args.self.now)) more

pub returns-clause-whole : goal.returns-clause-whole
returns-clause-whole c =
    let short = c.self.invariant.1 in
    let all : 32 * (c.args.at / 32) + c.loop-passed._passed ≡ c.args.at = omega (arith, c.loop-passed-test.false, c.loop-passed.auto) in
    rw (c.loop-passed.invariant, all) (line_here c.args.self.now c.args.at (rw (← c.self.view_is) short) c.requires).0

pub returns-clause-first : goal.returns-clause-first
returns-clause-first c =
    let short = c.self.invariant.1 in
    let all : 32 * (c.args.at / 32) + c.loop-passed._passed ≡ c.args.at = omega (arith, c.loop-passed-test.false, c.loop-passed.auto) in
    let here = (line_here c.args.self.now c.args.at (rw (← c.self.view_is) short) c.requires).1 in
    rw (c.loop-passed.invariant, all) (slice_get-get_or c.args.self.now c.args.at [] c.requires ∙ ap (λ (line : List ℕ). Some line) (sym here))

pub returns-clause-bytes : goal.returns-clause-bytes
returns-clause-bytes c =
    let all : 32 * (c.args.at / 32) + c.loop-passed._passed ≡ c.args.at = omega (arith, c.loop-passed-test.false, c.loop-passed.auto) in
    c.loop-passed.invariant ∙ ap (λ (n : ℕ). lines_bytes (drop n c.args.self.now)) all
