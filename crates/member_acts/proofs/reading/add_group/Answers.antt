use Rattle.member_acts.proofs.Names.{ap, Err, refl, volume_of, Disk as DiskPart, Spool, Failed, ActHalted as Halted, parts_of, sparing_failed, sparing_halted}
use Rattle.member_acts.proofs.ReadLemmas.{adds_lines, adds_none, failed_read, group_done, group_read}
use Rattle.member_acts.proofs.reading.add_group.Goals as goal

pub returns-in-Failed : goal.returns-in-Failed
returns-in-Failed g c =
    let P = g.P.Plant in
    let x = c.args.complex.now in
    let y = c.spool_read.new.self in
    let per = x.base.config.groups in
    let e = c.in-Failed.ensures in
    let lies = rw c.config-config.ensures at c.volume_of.ensures in
    record {
      on = group_read P (parts_of x) (parts_of y) c.args.by c.args.group c.spool_read.new.into Failed c.spool_read.ensures.frame e.acts e.content;
      cause = rw (c.volume_of.ensures, c.config-config.ensures) (sparing_failed c.args.by.0 (volume_of per c.args.group) (P.view x.plant) (P.view y.plant) e.acts);
      added = failed_read c.args.by.0 per _ c.args.group (P.view x.plant) (P.view y.plant) lies e.acts;
    }

pub returns-in-Halted : goal.returns-in-Halted
returns-in-Halted g c =
    let P = g.P.Plant in
    let x = c.args.complex.now in
    let y = c.spool_read.new.self in
    let e = c.in-Halted.ensures in
    record {
      on = group_read P (parts_of x) (parts_of y) c.args.by c.args.group c.spool_read.new.into Halted c.spool_read.ensures.frame e.acts e.content;
      cause = (sparing_halted c.args.by.0 (DiskPart (Spool (volume_of x.base.config.groups c.args.group))) (P.view x.plant) (P.view y.plant) e.acts, e.acts.halted refl);
      added = tt;
    }

-- THE GROUP WAS READ

pub returns-in-Ok : goal.returns-in-Ok
returns-in-Ok g c =
    let x = parts_of c.args.complex.now in
    let read = group_done g.P.Plant x (parts_of c.spool_read.new.self) c.args.by c.args.group c.spool_read.new.into (rw c.bytes_in-bytes.ensures.bytes at c.bytes_in-bytes.ensures.size) c.requires.within c.spool_read.ensures.frame c.in-Done.ensures.acts c.in-Done.ensures.content in
    record {
      on = read.on;
      cause = read.spares;
      added = adds_lines g.P.Plant x c.args.group c.spool_read.new.into.0 c.args.lines.now c.unpack.new.into c.law_of_reading.ensures read.page c.args.gone.now c.in-Ok.ensures.ok;
    }

pub returns-in-Err-Bad : goal.returns-in-Err-Bad
returns-in-Err-Bad g c =
    let x = parts_of c.args.complex.now in
    let read = group_done g.P.Plant x (parts_of c.spool_read.new.self) c.args.by c.args.group c.spool_read.new.into (rw c.bytes_in-bytes.ensures.bytes at c.bytes_in-bytes.ensures.size) c.requires.within c.spool_read.ensures.frame c.in-Done.ensures.acts c.in-Done.ensures.content in
    let bad = ap Err c.in-Err-Bad.field-0-is in
    record {
      on = read.on;
      cause = read.spares;
      added = adds_none g.P.Plant x c.args.group c.spool_read.new.into.0 c.args.lines.now c.unpack.new.into c.law_of_reading.ensures read.page c.args.gone.now c.or.result (c.in-Err-Bad.ensures.bad.0 bad) (c.in-Err-Bad.ensures.unchanged bad) c.or.ensures;
    }

pub returns-in-Err-NoMemory : goal.returns-in-Err-NoMemory
returns-in-Err-NoMemory g c =
    let read = group_done g.P.Plant (parts_of c.args.complex.now) (parts_of c.spool_read.new.self) c.args.by c.args.group c.spool_read.new.into (rw c.bytes_in-bytes.ensures.bytes at c.bytes_in-bytes.ensures.size) c.requires.within c.spool_read.ensures.frame c.in-Done.ensures.acts c.in-Done.ensures.content in
    record { on = read.on; cause = read.spares; added = tt }
