use Rattle.member_giving.proofs.Names.{[], all_entries, counted_up, batch_of, outside}
use Rattle.member_giving.proofs.Keeping.{keeping_wanted}
use Rattle.member_giving.proofs.giving.give_up.Goals as goal

pub returns-in-Ok-clause-gives_up : goal.returns-in-Ok-clause-gives_up
returns-in-Ok-clause-gives_up g c =
    let k = c.keep.ensures in
    let o = outside c.args.complex.now in
    let z = outside c.keep.new.complex in
    let h = c.args.holder in
    let es = c.args.member.now.batch in
    record {
      keeps = keeping_wanted g.P.Plant.tells h.by (batch_of es) o z c.in-Ok.ensures.keeps;
      counts = counted_up h.by (all_entries (batch_of es)) [] o.printed z.printed _ _ c.in-Ok.ensures.counts;
      spares = k.spares;
    }

pub returns-in-Err-clause-gives_up : goal.returns-in-Err-clause-gives_up
returns-in-Err-clause-gives_up g c = record {
  keeps = c.in-Err.ensures.keeps;
  counts = counted_up c.args.holder.by (all_entries (batch_of c.args.member.now.batch)) [] c.args.complex.now.printed c.keep.new.complex.printed _ _ c.in-Err.ensures.counts;
  spares = c.keep.ensures.spares;
}
