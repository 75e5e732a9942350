use Rattle.lay_bytes.proofs.Pieces.{whole}
use Rattle.lay_bytes.proofs.fields.fill_fields.Goals as goal

pub returns : goal.returns
returns c = whole _ c.args.into.now c.put_fields.new.into c.requires c.put_fields.ensures
