use Rattle.std.proofs.Common.{◌-◌, sym, arith}
use Rattle.member_node.proofs.EntryLemmas.{last_is}
use Rattle.member_node.proofs.member.Member.last_reply.Goals as goal

pub returns : goal.returns
returns c = sym (last_is c.args.self.now.batch c.item.result.now (c.len.result - 1) (omega (arith, c.len.ensures, c.requires)) c.item.ensures)
