use Rattle.std.proofs.Common.{refl}
use Rattle.mas_types.specs.declared.ids.Dev.TheVariants.{Ckpt1}
use Rattle.spool_plant.specs.View.{Disk, disk_now}
use Rattle.ckpt_copy.specs.Pages.{bytes_of}
use Rattle.ckpt_copy.specs.Reading.{EachForms}
use Rattle.duplex_pair.specs.Both.{Touched}
use Rattle.duplex_pair.proofs.Composing.{both_calls}
use Rattle.duplex_pair.proofs.pair.Pair.form_both.Goals as goal

pub returns-in_err-form-2-clause-during : goal.returns-in_err-form-2-clause-during
returns-in_err-form-2-clause-during g c told =
    let s = c.args.self.now in
    let C = g.C.Copying in
    let old = g.P.Plant.view c.args.plant.now in
    both_calls (Touched s.first.alive (EachForms C.reads (disk_now old Ckpt1) (bytes_of c.args.pages.now)) (disk_now old Ckpt1)) (λ (x : Disk). Touched s.second.alive (EachForms C.reads x (bytes_of c.args.pages.now)) x)
    Ckpt1 (C.dev s.second.copy) old (g.P.Plant.view c.form.new.plant) (g.P.Plant.view c.form-2.new.plant) refl s.second_dev (rw s.first_dev at (c.form.ensures.during told)) (c.form-2.ensures.during told)

pub returns-clause-during : goal.returns-clause-during
returns-clause-during g c told =
    let s = c.args.self.now in
    let C = g.C.Copying in
    let old = g.P.Plant.view c.args.plant.now in
    both_calls (Touched s.first.alive (EachForms C.reads (disk_now old Ckpt1) (bytes_of c.args.pages.now)) (disk_now old Ckpt1)) (λ (x : Disk). Touched s.second.alive (EachForms C.reads x (bytes_of c.args.pages.now)) x)
    Ckpt1 (C.dev s.second.copy) old (g.P.Plant.view c.form.new.plant) (g.P.Plant.view c.form-2.new.plant) refl s.second_dev (rw s.first_dev at (c.form.ensures.during told)) (c.form-2.ensures.during told)
