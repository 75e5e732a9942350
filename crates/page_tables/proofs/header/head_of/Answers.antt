use Rattle.std.proofs.Common.{arith}
use Rattle.std.proofs.lemmas.List.{length-take}
use Rattle.page_tables.proofs.header.head_of.Goals as goal

pub slice_bounds-result-end : goal.slice_bounds-result-end
slice_bounds-result-end c = omega (arith, length-take 1024 c.bytes_in.result.now, c.bytes_in.ensures.size)

pub returns-clause-size : goal.returns-clause-size
returns-clause-size c = omega (arith, length-take 1024 c.bytes_in.result.now, c.bytes_in.ensures.size)
