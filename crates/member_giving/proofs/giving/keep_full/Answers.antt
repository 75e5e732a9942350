use Rattle.member_giving.proofs.Names.{subst, sym, arith, List, Entry, after_full, batch_of, full_of, HasKept, to_keep}
use Rattle.member_giving.proofs.Cuts.{full_all, full_none}
use Rattle.member_giving.proofs.Given.{kept_none}
use Rattle.member_giving.proofs.giving.keep_full.Goals as goal

pub returns-then-len-lt-BATCH_MOST : goal.returns-then-len-lt-BATCH_MOST
returns-then-len-lt-BATCH_MOST g c =
    let m = c.args.member.now in
    kept_none c.args.complex.now m c.args.holder c.requires.works (full_of m.batch) (after_full m.batch) (full_none m.batch (omega arith)).0 (sym (full_none m.batch (omega arith)).1)

pub returns : goal.returns
returns g c =
    let x = c.args.complex.now in
    let m = c.args.member.now in
    let h = c.args.holder in
    let y = c.keep.new.complex in
    let n = c.keep.new.member in
    let r = c.keep.result in
    subst (λ (ess : List (List Entry)). HasKept (to_keep h ess (after_full m.batch)) x m y n r) (sym (full_all m.batch (omega arith)).0)
    (subst (λ (es : List Entry). HasKept (to_keep h (batch_of m.batch) es) x m y n r) (sym (full_all m.batch (omega arith)).1) c.keep.ensures)
