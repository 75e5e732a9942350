use Rattle.mas_complex.specs.Parts.{parts_of}
use Rattle.member_hand.proofs.Printing.{none_acted, stays_never}
use Rattle.member_hand.proofs.asides.act_then.Goals as goal

pub act_aside-requires-clause-lock : goal.act_aside-requires-clause-lock
act_aside-requires-clause-lock g c = rw c.in-Away.is at c.requires.lock

pub act_aside-requires-clause-may : goal.act_aside-requires-clause-may
act_aside-requires-clause-may g c = rw c.in-Away.is at c.requires.may

pub returns-in-Away : goal.returns-in-Away
returns-in-Away g c = rw c.in-Away.is (record { reader = c.act_aside.ensures.reader; acts = (c.act_aside.ensures.frame, c.act_aside.ensures.acts) })

pub returns-in_default : goal.returns-in_default
returns-in_default g c = record {
  reader = stays_never c.args.state.now c.args.reader.now c.in_default.not-Away;
  acts =
      none_acted g.P.Plant (parts_of c.args.complex.now) c.args.member.now c.args.state.now c.args.reader.now c.args.reader.now c.nothing_found.result c.in_default.not-Away c.nothing_found.ensures;
}
