use Rattle.std.proofs.Common.{refl, sym, subst}
use Rattle.mas_types.specs.declared.ids.Dev.TheVariants.{Ckpt1, Ckpt2}
use Rattle.spool_plant.specs.View.{Disk, disk_now}
use Rattle.ckpt_copy.specs.Meanwhile.{Meanwhile}
use Rattle.ckpt_copy.specs.Pages.{bytes_of}
use Rattle.ckpt_copy.specs.Reading.{AllRead}
use Rattle.duplex_pair.specs.Both.{Touched}
use Rattle.duplex_pair.proofs.Composing.{both_calls, both_first, other_disk, gone_stays, ne12, ne21, same_start}
use Rattle.duplex_pair.proofs.pair.Pair.settle_both.Goals as goal

pub returns-in_err-settle-clause-during : goal.returns-in_err-settle-clause-during
returns-in_err-settle-clause-during g c told here1 here2 =
    let s = c.args.self.now in
    let C = g.C.Copying in
    let pages = bytes_of c.args.pages.now in
    let old = g.P.Plant.view c.args.plant.now in
    both_first (Touched s.first.alive (AllRead C.reads pages) (disk_now old Ckpt1)) (Touched s.second.alive (AllRead C.reads pages) (disk_now old Ckpt2)) Ckpt1 old (g.P.Plant.view c.settle.new.plant) refl
    ((rw s.first_dev at (c.settle.ensures.during told)) here1)
    (same_start s.second.alive (AllRead C.reads pages) (disk_now old Ckpt2) (λ is. g.met.C.Copying.rests_reads s.second.copy pages (disk_now old Ckpt2) (here2 is)))

pub returns-in_err-settle-2-clause-during : goal.returns-in_err-settle-2-clause-during
returns-in_err-settle-2-clause-during g c told here1 here2 =
    let s = c.args.self.now in
    let C = g.C.Copying in
    let pages = bytes_of c.args.pages.now in
    let old = g.P.Plant.view c.args.plant.now in
    let mid = g.P.Plant.view c.settle.new.plant in
    let new = g.P.Plant.view c.settle-2.new.plant in
    let P = Touched s.first.alive (AllRead C.reads pages) (disk_now old Ckpt1) in
    let Q = Touched s.second.alive (AllRead C.reads pages) (disk_now mid Ckpt2) in
    let m : Meanwhile Ckpt1 P old mid = (rw s.first_dev at (c.settle.ensures.during told)) here1 in
    let then : Meanwhile Ckpt2 Q mid new = (rw s.second_dev at (c.settle-2.ensures.during told)) (λ is. subst (λ (d : Disk). C.rests s.second.copy pages d) (sym (other_disk Ckpt1 Ckpt2 P old mid ne21 m)) (here2 is)) in
    both_calls P (Touched s.second.alive (AllRead C.reads pages)) Ckpt1 Ckpt2 old mid new refl refl m then

pub returns-in_err-settle-2-clause-gone1 : goal.returns-in_err-settle-2-clause-gone1
returns-in_err-settle-2-clause-gone1 g c told here1 here2 =
    let s = c.args.self.now in
    let C = g.C.Copying in
    let pages = bytes_of c.args.pages.now in
    let old = g.P.Plant.view c.args.plant.now in
    let mid = g.P.Plant.view c.settle.new.plant in
    let new = g.P.Plant.view c.settle-2.new.plant in
    let P = Touched s.first.alive (AllRead C.reads pages) (disk_now old Ckpt1) in
    let Q = Touched s.second.alive (AllRead C.reads pages) (disk_now mid Ckpt2) in
    let m : Meanwhile Ckpt1 P old mid = (rw s.first_dev at (c.settle.ensures.during told)) here1 in
    let then : Meanwhile Ckpt2 Q mid new = (rw s.second_dev at (c.settle-2.ensures.during told)) (λ is. subst (λ (d : Disk). C.rests s.second.copy pages d) (sym (other_disk Ckpt1 Ckpt2 P old mid ne21 m)) (here2 is)) in
    gone_stays Ckpt1 Ckpt2 s.first.alive c.settle.new.self.alive Q mid new ne12 (rw s.first_dev at (c.settle.ensures.gone told)) then

pub returns-clause-during : goal.returns-clause-during
returns-clause-during g c told here1 here2 =
    let s = c.args.self.now in
    let C = g.C.Copying in
    let pages = bytes_of c.args.pages.now in
    let old = g.P.Plant.view c.args.plant.now in
    let mid = g.P.Plant.view c.settle.new.plant in
    let new = g.P.Plant.view c.settle-2.new.plant in
    let P = Touched s.first.alive (AllRead C.reads pages) (disk_now old Ckpt1) in
    let Q = Touched s.second.alive (AllRead C.reads pages) (disk_now mid Ckpt2) in
    let m : Meanwhile Ckpt1 P old mid = (rw s.first_dev at (c.settle.ensures.during told)) here1 in
    let then : Meanwhile Ckpt2 Q mid new = (rw s.second_dev at (c.settle-2.ensures.during told)) (λ is. subst (λ (d : Disk). C.rests s.second.copy pages d) (sym (other_disk Ckpt1 Ckpt2 P old mid ne21 m)) (here2 is)) in
    both_calls P (Touched s.second.alive (AllRead C.reads pages)) Ckpt1 Ckpt2 old mid new refl refl m then

pub returns-clause-gone1 : goal.returns-clause-gone1
returns-clause-gone1 g c told here1 here2 =
    let s = c.args.self.now in
    let C = g.C.Copying in
    let pages = bytes_of c.args.pages.now in
    let old = g.P.Plant.view c.args.plant.now in
    let mid = g.P.Plant.view c.settle.new.plant in
    let new = g.P.Plant.view c.settle-2.new.plant in
    let P = Touched s.first.alive (AllRead C.reads pages) (disk_now old Ckpt1) in
    let Q = Touched s.second.alive (AllRead C.reads pages) (disk_now mid Ckpt2) in
    let m : Meanwhile Ckpt1 P old mid = (rw s.first_dev at (c.settle.ensures.during told)) here1 in
    let then : Meanwhile Ckpt2 Q mid new = (rw s.second_dev at (c.settle-2.ensures.during told)) (λ is. subst (λ (d : Disk). C.rests s.second.copy pages d) (sym (other_disk Ckpt1 Ckpt2 P old mid ne21 m)) (here2 is)) in
    gone_stays Ckpt1 Ckpt2 s.first.alive c.settle.new.self.alive Q mid new ne12 (rw s.first_dev at (c.settle.ensures.gone told)) then

pub returns-clause-settled1 : goal.returns-clause-settled1
returns-clause-settled1 g c told here1 here2 is =
    let s = c.args.self.now in
    let C = g.C.Copying in
    let pages = bytes_of c.args.pages.now in
    let old = g.P.Plant.view c.args.plant.now in
    let mid = g.P.Plant.view c.settle.new.plant in
    let new = g.P.Plant.view c.settle-2.new.plant in
    let P = Touched s.first.alive (AllRead C.reads pages) (disk_now old Ckpt1) in
    let Q = Touched s.second.alive (AllRead C.reads pages) (disk_now mid Ckpt2) in
    let m : Meanwhile Ckpt1 P old mid = (rw s.first_dev at (c.settle.ensures.during told)) here1 in
    let then : Meanwhile Ckpt2 Q mid new = (rw s.second_dev at (c.settle-2.ensures.during told)) (λ is. subst (λ (d : Disk). C.rests s.second.copy pages d) (sym (other_disk Ckpt1 Ckpt2 P old mid ne21 m)) (here2 is)) in
    subst (λ (d : Disk). C.rests c.settle.new.self.copy pages d) (sym (other_disk Ckpt2 Ckpt1 Q mid new ne12 then)) ((rw s.first_dev at c.in_ok-settle.ensures.settled) told is (here1 (c.settle.ensures.acted.alive is)))

pub returns-clause-settled2 : goal.returns-clause-settled2
returns-clause-settled2 g c told here1 here2 is =
    let s = c.args.self.now in
    let C = g.C.Copying in
    let pages = bytes_of c.args.pages.now in
    let old = g.P.Plant.view c.args.plant.now in
    let mid = g.P.Plant.view c.settle.new.plant in
    let new = g.P.Plant.view c.settle-2.new.plant in
    let P = Touched s.first.alive (AllRead C.reads pages) (disk_now old Ckpt1) in
    let Q = Touched s.second.alive (AllRead C.reads pages) (disk_now mid Ckpt2) in
    let m : Meanwhile Ckpt1 P old mid = (rw s.first_dev at (c.settle.ensures.during told)) here1 in
    let then : Meanwhile Ckpt2 Q mid new = (rw s.second_dev at (c.settle-2.ensures.during told)) (λ is. subst (λ (d : Disk). C.rests s.second.copy pages d) (sym (other_disk Ckpt1 Ckpt2 P old mid ne21 m)) (here2 is)) in
    (rw s.second_dev at c.in_ok-settle-2.ensures.settled) told is (subst (λ (d : Disk). C.rests s.second.copy pages d) (sym (other_disk Ckpt1 Ckpt2 P old mid ne21 m)) (here2 (c.settle-2.ensures.acted.alive is)))
