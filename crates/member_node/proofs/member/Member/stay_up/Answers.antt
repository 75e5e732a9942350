use Rattle.std.proofs.Common.{sym, subst}
use Rattle.ckpt_pages.specs.Checkpoints.{IsCheckpoint}
use Rattle.ckpt_pages.proofs.DecodingLemmas.{one_value}
use Rattle.member_node.specs.Reads.{MayGoOn}
use Rattle.member_node.proofs.EntryLemmas.{facts_same}
use Rattle.member_node.proofs.AlikeLemmas.{alike_checkpoint, up_already}
use Rattle.member_node.proofs.FitLemmas.{orders_low}
use Rattle.member_node.proofs.member.Member.stay_up.Goals as goal

pub may_stay-requires-clause-checkpoint : goal.may_stay-requires-clause-checkpoint
may_stay-requires-clause-checkpoint c =
    let s = c.args.self.now in
    rw c.as_slice-pages.ensures (alike_checkpoint s.room s.checkpoint c.requires.drawn c.requires.same)

pub returns-then-not-may_stay-clause-refused : goal.returns-then-not-may_stay-clause-refused
returns-then-not-may_stay-clause-refused c is_false = (
  facts_same c.args.self.now _ _ _ _,
  λ t is may.
      let s = c.args.self.now in
      let own : IsCheckpoint s.room s.checkpoint.tables = alike_checkpoint s.room s.checkpoint c.requires.drawn c.requires.same in
      let theirs : MayGoOn s.checkpoint.tables.config s.room s.checkpoint.tables = subst (MayGoOn s.checkpoint.tables.config s.room) (sym (one_value s.room s.checkpoint.tables t own is)) may in
      c.may_stay.ensures.not c.if-not-may_stay.true (rw c.as_slice-pages.ensures theirs),
)

pub returns-clause-up : goal.returns-clause-up
returns-clause-up c is =
    let s = c.args.self.now in
    let may : MayGoOn s.checkpoint.tables.config s.room s.checkpoint.tables = rw c.as_slice-pages.ensures at (c.may_stay.ensures.may c.if-not-may_stay.false) in
    up_already s.room s.checkpoint c.requires.drawn c.requires.same may

pub invariant_of-self-2-clause-ordered : goal.invariant_of-self-2-clause-ordered
invariant_of-self-2-clause-ordered c read =
    let s = c.args.self.now in
    let may : MayGoOn s.checkpoint.tables.config s.room s.checkpoint.tables = rw c.as_slice-pages.ensures at (c.may_stay.ensures.may c.if-not-may_stay.false) in
    orders_low s.checkpoint.tables may.fit
