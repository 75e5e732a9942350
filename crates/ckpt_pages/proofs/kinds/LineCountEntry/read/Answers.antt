use Rattle.std.proofs.Common.{ap, ◌∙◌, arith}
use Rattle.lay_bytes.specs.Fields.{first_bad}
use Rattle.lay_bytes.proofs.SlotLemmas.{none_some}
use Rattle.ckpt_pages.specs.Fields.{line_fields}
use Rattle.ckpt_pages.specs.Kinds.{line_takes, line_good}
use Rattle.ckpt_pages.proofs.kinds.LineCountEntry.read.Goals as goal

pub returns-in_default-clause-bad : goal.returns-in_default-clause-bad
returns-in_default-clause-bad c h x fit e = none_some _ _ (ap (first_bad 0 line_fields) e ∙ line_good x fit) c.in_default.ensures.err

pub returns-clause-found : goal.returns-clause-found
returns-clause-found c = rw c.line_of.ensures (line_takes c.args.bytes.now c.requires (λ i. omega (arith, c.type_inv.bytes i)) c.in-Ok.ensures.ok)
