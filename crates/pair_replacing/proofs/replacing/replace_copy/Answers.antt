use Rattle.ckpt_copy.specs.Pages.{bytes_of}
use Rattle.pair_replacing.proofs.Replaces.{while_renewed, while_formed}
use Rattle.pair_replacing.proofs.replacing.replace_copy.Goals as goal

pub returns-in_err-renew_device-clause-during : goal.returns-in_err-renew_device-clause-during
returns-in_err-renew_device-clause-during g c told =
    let C = g.C.Copying in
    let old = g.P.Plant.view c.args.plant.now in
    while_renewed C.reads (bytes_of c.args.pages.now) (old.size c.args.dev) (g.met.C.Copying.blank_reads (old.size c.args.dev)) c.args.dev old (g.P.Plant.view c.renew_device.new.plant) (c.renew_device.ensures.during told)

pub returns-in_err-form-clause-during : goal.returns-in_err-form-clause-during
returns-in_err-form-clause-during g c told =
    let C = g.C.Copying in
    let old = g.P.Plant.view c.args.plant.now in
    while_formed C.reads (bytes_of c.args.pages.now) (old.size c.args.dev) (g.met.C.Copying.blank_reads (old.size c.args.dev)) c.args.dev old (g.P.Plant.view c.renew_device.new.plant) (c.renew_device.ensures.during told)
    (C.dev c.args.half.now.copy) (g.P.Plant.view c.form.new.plant) c.requires.dev c.renew_device.ensures.replaces (c.in_ok-renew_device.ensures.blank told) (c.form.ensures.during told)

pub returns-clause-during : goal.returns-clause-during
returns-clause-during g c told =
    let C = g.C.Copying in
    let old = g.P.Plant.view c.args.plant.now in
    while_formed C.reads (bytes_of c.args.pages.now) (old.size c.args.dev) (g.met.C.Copying.blank_reads (old.size c.args.dev)) c.args.dev old (g.P.Plant.view c.renew_device.new.plant) (c.renew_device.ensures.during told)
    (C.dev c.args.half.now.copy) (g.P.Plant.view c.form.new.plant) c.requires.dev c.renew_device.ensures.replaces (c.in_ok-renew_device.ensures.blank told) (c.form.ensures.during told)
