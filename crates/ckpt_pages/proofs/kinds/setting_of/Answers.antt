use Rattle.std.proofs.Common.{arith}
use Rattle.ckpt_pages.specs.Kinds.{setting_counts, setting_found}
use Rattle.ckpt_pages.proofs.kinds.setting_of.Goals as goal

pub classes_of-requires-clause-few : goal.classes_of-requires-clause-few
classes_of-requires-clause-few c = (setting_counts c.args.bytes.now c.requires.size (λ i. omega (arith, c.type_inv.bytes i)) c.requires.good).0

pub classes_of-requires-2-clause-few : goal.classes_of-requires-2-clause-few
classes_of-requires-2-clause-few c = (setting_counts c.args.bytes.now c.requires.size (λ i. omega (arith, c.type_inv.bytes i)) c.requires.good).1

pub returns : goal.returns
returns c =
    setting_found c.args.bytes.now c.in_ok-classes_of.field-0 c.in_ok-classes_of-2.field-0 c.name_of.result c.read_u16.result c.requires.size (λ i. omega (arith, c.type_inv.bytes i)) c.requires.good
    c.in_ok-classes_of.ensures c.in_ok-classes_of-2.ensures c.name_of.ensures c.read_u16.ensures
