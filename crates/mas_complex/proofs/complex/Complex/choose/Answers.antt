use Rattle.mas_complex.proofs.Answering.{◌≡◌, Agrees, Ckpt1, Ckpt2, OneSeen, Some, ap, bytes_of, chosen_of, disk_now, inl, inr, looked, own_agrees, parts_of, sought, true, ◌∙◌, List, Page, subst}
use Rattle.mas_complex.proofs.complex.Complex.choose.Goals as goal

pub returns-then-pages_level-clause-chosen : goal.returns-then-pages_level-clause-chosen
returns-then-pages_level-clause-chosen g c =
    let P = g.P.Plant in
    let C = g.C.Copying in
    let s = c.args.self.now in
    let n = c.lose_unfit.new.self in
    let e = c.lose_unfit.ensures in
    let v = P.view n.plant in
    let it = sought C.reads (parts_of s) in
    let now = looked C.count C.room n.pair.second n.second in
    let theirs = looked C.count C.room n.pair.first n.first in
    let same : n.pair.second ≡ s.pair.second = e.other in
    let place : n.second ≡ s.second = ap (λ p. p.second) e.frame in
    let seen : OneSeen P.tells it now c.args.second = rw (same, place) c.requires.second in
    let read : P.tells → C.reads (disk_now v Ckpt2).bytes ≡ Some (bytes_of c.args.second) = λ told. ap C.reads (e.bytes told Ckpt2) ∙ c.requires.reads2 told in
    let agrees : theirs.alive ≡ true → Agrees P.tells it theirs (disk_now v Ckpt1).bytes c.args.second = λ is. subst (λ (ps : List Page). Agrees P.tells it theirs (disk_now v Ckpt1).bytes ps) c.as_slice-then-pages_level.ensures (e.agrees is) in
    chosen_of P.tells it now c.args.second seen theirs now v agrees (λ _. own_agrees P.tells it now c.args.second seen (disk_now v Ckpt2).bytes read) (inr (seen.is_alive, (seen.at, read)))

pub returns-clause-chosen : goal.returns-clause-chosen
returns-clause-chosen g c =
    let P = g.P.Plant in
    let C = g.C.Copying in
    let s = c.args.self.now in
    let n = c.lose_unfit-2.new.self in
    let e = c.lose_unfit-2.ensures in
    let v = P.view n.plant in
    let it = sought C.reads (parts_of s) in
    let now = looked C.count C.room n.pair.first n.first in
    let theirs = looked C.count C.room n.pair.second n.second in
    let same : n.pair.first ≡ s.pair.first = e.other in
    let place : n.first ≡ s.first = ap (λ p. p.first) e.frame in
    let seen : OneSeen P.tells it now c.args.first = rw (same, place) c.requires.first in
    let read : P.tells → C.reads (disk_now v Ckpt1).bytes ≡ Some (bytes_of c.args.first) = λ told. ap C.reads (e.bytes told Ckpt1) ∙ c.requires.reads1 told in
    let agrees : theirs.alive ≡ true → Agrees P.tells it theirs (disk_now v Ckpt2).bytes c.args.first = λ is. subst (λ (ps : List Page). Agrees P.tells it theirs (disk_now v Ckpt2).bytes ps) c.as_slice-3.ensures (e.agrees is) in
    chosen_of P.tells it now c.args.first seen now theirs v (λ _. own_agrees P.tells it now c.args.first seen (disk_now v Ckpt1).bytes read) agrees (inl (seen.is_alive, (seen.at, read)))
