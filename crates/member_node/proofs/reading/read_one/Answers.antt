use Rattle.std.proofs.Common.{Err, false, true, refl, sym, ◌∙◌, ap}
use Rattle.std.proofs.Math.Logic.{∥∥₁_elim}
use Rattle.std.specs.Coded.{Coded-set, coded_list, coded_ℕ}
use Rattle.mas_types.specs.declared.ids.Dev.TheVariants.{Ckpt1, Ckpt2}
use Rattle.spool_plant.specs.View.{disk_now}
use Rattle.duplex_pair.specs.Both.{PairActed}
use Rattle.member_node.proofs.ReadLemmas.{other_alive, page_by, read_acted}
use Rattle.member_node.proofs.SpareLemmas.{spares_pair}
use Rattle.member_node.proofs.reading.read_one.Goals as goal

pub returns-in-Ok-clause-page : goal.returns-in-Ok-clause-page
returns-in-Ok-clause-page g c told was one two =
    let P = g.P.Plant in
    let C = g.C.Copying in
    let x = c.args.complex.now in
    let z = c.read_page.new.self in
    let e = c.in-Ok.ensures in
    let old = P.view x.plant in
    ∥∥₁_elim (c.kept_pages.ensures.kept told) (Coded-set (coded_list coded_ℕ) _ _) (λ k.
    page_by (λ w. C.rests x.pair.first.copy w (disk_now old Ckpt1)) (λ w. C.rests x.pair.second.copy w (disk_now old Ckpt2)) (C.reads (disk_now old Ckpt1).bytes) (C.reads (disk_now old Ckpt2).bytes)
    (λ w r. g.met.C.Copying.rests_now x.pair.first.copy w (disk_now old Ckpt1) r) (λ w r. g.met.C.Copying.rests_now x.pair.second.copy w (disk_now old Ckpt2) r)
    c.args.page c.read_page.new.into.0 was k.was z.pair.first.alive z.pair.second.alive
    (λ on. k.at Ckpt1 tt (e.acted.alive1 on) c.requires.first) (λ on. k.at Ckpt2 tt (e.acted.alive2 on) c.requires.second)
    (λ on. ap C.reads (sym (e.bytes told Ckpt1)) ∙ one told on) (λ on. ap C.reads (sym (e.bytes told Ckpt2)) ∙ two told on)
    (λ w r1 r2. e.read told w r1 r2) (other_alive z.pair.first.alive z.pair.second.alive e.ok))

pub returns-in-Ok-clause-read : goal.returns-in-Ok-clause-read
returns-in-Ok-clause-read g c =
    let P = g.P.Plant in
    let x = c.args.complex.now in
    let z = c.read_page.new.self in
    let e = c.in-Ok.ensures in
    let acted : PairActed c.args.by.0 x.pair.first.alive z.pair.first.alive x.pair.second.alive z.pair.second.alive false (P.view x.plant) (P.view z.plant) = e.acted in
    record {
      acts = read_acted P.tells c.args.by.0 x.pair.first.alive z.pair.first.alive x.pair.second.alive z.pair.second.alive false (P.view x.plant) (P.view z.plant) acted e.apart e.bytes;
      cause = e.ok;
      spares = spares_pair c.args.by.0 x.pair.first.alive z.pair.first.alive x.pair.second.alive z.pair.second.alive false (P.view x.plant) (P.view z.plant) acted;
    }

pub returns-in-Err-BothLost-clause-read : goal.returns-in-Err-BothLost-clause-read
returns-in-Err-BothLost-clause-read g c =
    let P = g.P.Plant in
    let x = c.args.complex.now in
    let z = c.read_page.new.self in
    let e = c.in-Err-BothLost.ensures in
    let acted : PairActed c.args.by.0 x.pair.first.alive z.pair.first.alive x.pair.second.alive z.pair.second.alive false (P.view x.plant) (P.view z.plant) = rw c.in-Err-BothLost.field-0-is at e.acted in
    record {
      acts = read_acted P.tells c.args.by.0 x.pair.first.alive z.pair.first.alive x.pair.second.alive z.pair.second.alive false (P.view x.plant) (P.view z.plant) acted e.apart e.bytes;
      cause = e.both (ap Err c.in-Err-BothLost.field-0-is);
      spares = spares_pair c.args.by.0 x.pair.first.alive z.pair.first.alive x.pair.second.alive z.pair.second.alive false (P.view x.plant) (P.view z.plant) acted;
    }

pub returns-in-Err-Halted-clause-read : goal.returns-in-Err-Halted-clause-read
returns-in-Err-Halted-clause-read g c =
    let P = g.P.Plant in
    let x = c.args.complex.now in
    let z = c.read_page.new.self in
    let e = c.in-Err-Halted.ensures in
    let acted : PairActed c.args.by.0 x.pair.first.alive z.pair.first.alive x.pair.second.alive z.pair.second.alive true (P.view x.plant) (P.view z.plant) = rw c.in-Err-Halted.field-0-is at e.acted in
    record {
      acts = read_acted P.tells c.args.by.0 x.pair.first.alive z.pair.first.alive x.pair.second.alive z.pair.second.alive true (P.view x.plant) (P.view z.plant) acted e.apart e.bytes;
      cause = (acted.stands refl, acted.halted refl);
      spares = spares_pair c.args.by.0 x.pair.first.alive z.pair.first.alive x.pair.second.alive z.pair.second.alive true (P.view x.plant) (P.view z.plant) acted;
    }
