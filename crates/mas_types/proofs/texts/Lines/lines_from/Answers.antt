use Rattle.std.proofs.Common.{◌≡◌, ◌∙◌, ◌-◌, ℕ, length, drop, ap, sym, arith}
use Rattle.std.proofs.lemmas.List.{length-drop, drop_all}
use Rattle.mas_types.specs.LineBytes.{lines_bytes, lines_in}
use Rattle.mas_types.proofs.LineLemmas.{length_lines, short_from, read_back, have_lines}
use Rattle.mas_types.proofs.texts.Lines.lines_from.Goals as goal

pub returns-then-at-self : goal.returns-then-at-self
returns-then-at-self c =
    let number : length c.args.self.now ≡ c.self.inside.count = rw (← c.self.view_is) (length_lines c.self.inside.count c.self.inside.bytes.items) in
    c.new.ensures ∙ sym (drop_all c.args.at c.args.self.now (omega (arith, number)))

pub bytes_from-requires : goal.bytes_from-requires
bytes_from-requires c =
    let number : length c.args.self.now ≡ c.self.inside.count = rw (← c.self.view_is) (length_lines c.self.inside.count c.self.inside.bytes.items) in
    omega (arith, number)

pub overflow_sub-self-inside : goal.overflow_sub-self-inside
overflow_sub-self-inside c =
    let number : length c.args.self.now ≡ c.self.inside.count = rw (← c.self.view_is) (length_lines c.self.inside.count c.self.inside.bytes.items) in
    omega (arith, number)

pub new-requires-2 : goal.new-requires-2
new-requires-2 c =
    let lines = c.args.self.now in
    let number : length lines ≡ c.self.inside.count = rw (← c.self.view_is) (length_lines c.self.inside.count c.self.inside.bytes.items) in
    let left : length (drop c.args.at lines) ≡ c.self.inside.count - c.args.at = length-drop c.args.at lines ∙ ap (λ (n : ℕ). n - c.args.at) number in
    rw (c.bytes_from.ensures.bytes, ← left) (have_lines (drop c.args.at lines) (short_from lines c.args.at (rw (← c.self.view_is) c.self.invariant.1)))

pub returns : goal.returns
returns c =
    let lines = c.args.self.now in
    let number : length lines ≡ c.self.inside.count = rw (← c.self.view_is) (length_lines c.self.inside.count c.self.inside.bytes.items) in
    let left : length (drop c.args.at lines) ≡ c.self.inside.count - c.args.at = length-drop c.args.at lines ∙ ap (λ (n : ℕ). n - c.args.at) number in
    c.new-2.ensures ∙ ap (lines_in (c.self.inside.count - c.args.at)) c.bytes_from.ensures.bytes ∙ ap (λ (n : ℕ). lines_in n (lines_bytes (drop c.args.at lines))) (sym left) ∙ read_back (drop c.args.at lines) (short_from lines c.args.at (rw (← c.self.view_is) c.self.invariant.1))
