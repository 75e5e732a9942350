use Rattle.std.proofs.Common.{◌≡◌, ◌+◌, ◌-◌, ◌∙◌, ℕ, drop, take, ap, arith}
use Rattle.std.specs.Int.{w64, from_be_bytes}
use Rattle.page_tables.proofs.header.long_at.Goals as goal

pub returns : goal.returns
returns c =
    let width : c.args.at + 8 - c.args.at ≡ 8 = omega arith in
    c.from_be_bytes.ensures ∙ ap (from_be_bytes w64) (c.copy_from_slice.ensures.after ∙ ap (λ (n : ℕ). take n (drop c.args.at c.args.bytes.now)) width)
