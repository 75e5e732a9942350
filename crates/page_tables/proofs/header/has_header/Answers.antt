use Rattle.std.proofs.Common.{◌≡◌, ◌∙◌, [], length, sym, arith}
use Rattle.std.proofs.Math.Nat.{mul-le-mul_left}
use Rattle.ckpt_pages.proofs.RunLemmas.{page_at}
use Rattle.page_tables.proofs.HeaderOver.{bad_levels, head_of_header, header_from}
use Rattle.page_tables.proofs.header.has_header.Goals as goal

pub returns-then-not-is_head-clause-bad : goal.returns-then-not-is_head-clause-bad
returns-then-not-is_head-clause-bad c is has =
    let here = page_at c.args.pages.now 0 (record { 0 = [] }) (omega (arith, c.requires.count)) ∙ sym c.bytes_in.ensures.bytes in
    c.is_head.ensures.bad c.if-not-is_head.true (head_of_header c.args.config.now c.args.pages.now c.bytes_in.result.now c.split_at.result.0.now here c.split_at.ensures.front has)

pub are_levels-requires-clause-room : goal.are_levels-requires-clause-room
are_levels-requires-clause-room c =
    let fit = c.requires.config in
    omega (
      arith,
      c.requires.count,
      fit.jobs.1,
      fit.outputs.1,
      fit.volumes.1,
      fit.groups.1,
      mul-le-mul_left {m = c.args.config.now.groups} {n = 4096} c.args.config.now.volumes fit.groups.1,
      c.split_at.ensures.back_len,
      c.bytes_in.ensures.size,
    )

pub returns-clause-good : goal.returns-clause-good
returns-clause-good c is =
    let here = page_at c.args.pages.now 0 (record { 0 = [] }) (omega (arith, c.requires.count)) ∙ sym c.bytes_in.ensures.bytes in
    let len : length c.split_at.result.1.now ≡ 3072 = omega (arith, c.split_at.ensures.back_len, c.bytes_in.ensures.size) in
    header_from c.args.config.now c.args.pages.now c.bytes_in.result.now c.split_at.result.0.now c.split_at.result.1.now c.requires.count here c.bytes_in.ensures.size c.split_at.ensures.front c.split_at.ensures.back len
    (c.is_head.ensures.good c.if-not-is_head.false) (rw c.read_u64.ensures at (c.are_levels.ensures.good is))

pub returns-clause-bad : goal.returns-clause-bad
returns-clause-bad c is has =
    let here = page_at c.args.pages.now 0 (record { 0 = [] }) (omega (arith, c.requires.count)) ∙ sym c.bytes_in.ensures.bytes in
    let len : length c.split_at.result.1.now ≡ 3072 = omega (arith, c.split_at.ensures.back_len, c.bytes_in.ensures.size) in
    bad_levels c.args.config.now c.args.pages.now c.bytes_in.result.now c.split_at.result.0.now c.split_at.result.1.now here c.split_at.ensures.front c.split_at.ensures.back len (rw c.read_u64.ensures at (c.are_levels.ensures.bad is)) has
