use Rattle.std.proofs.Common.{sym}
use Rattle.mas_types.proofs.LineLemmas.{length_lines}
use Rattle.mas_types.proofs.texts.Lines.len.Goals as goal

pub returns : goal.returns
returns c = sym (rw (← c.self.view_is) (length_lines c.self.inside.count c.self.inside.bytes.items))
