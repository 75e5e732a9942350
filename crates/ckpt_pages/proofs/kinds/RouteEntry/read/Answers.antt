use Rattle.std.proofs.Common.{ap, ◌∙◌, arith}
use Rattle.lay_bytes.specs.Fields.{first_bad}
use Rattle.lay_bytes.proofs.SlotLemmas.{none_some}
use Rattle.ckpt_pages.specs.Fields.{route_fields}
use Rattle.ckpt_pages.specs.Kinds.{route_takes, route_good}
use Rattle.ckpt_pages.proofs.kinds.RouteEntry.read.Goals as goal

pub returns-in_default-clause-bad : goal.returns-in_default-clause-bad
returns-in_default-clause-bad c h x fit e = none_some _ _ (ap (first_bad 0 route_fields) e ∙ route_good x fit) c.in_default.ensures.err

pub returns-clause-found : goal.returns-clause-found
returns-clause-found c = rw c.route_of.ensures (route_takes c.args.bytes.now c.requires (λ i. omega (arith, c.type_inv.bytes i)) c.in-Ok.ensures.ok)
