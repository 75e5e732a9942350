use Rattle.std.proofs.Common.{◌≡◌, ◌∙◌, [], ◌∷◌, true, false, length, refl, sym, arith}
use Rattle.mas_types.specs.declared.ids.Dev.TheVariants.{Spool}
use Rattle.mas_types.specs.Limits.{page_bytes}
use Rattle.spool_plant.specs.View.{disk_now}
use Rattle.spool_plant.specs.declared.plant.Act.TheVariants.{Done, Failed, Halted}
use Rattle.spool_plant.specs.declared.plant.Part.TheVariants.{Disk as DiskPart}
use Rattle.spool_volumes.specs.Volumes.{volume_of, start_of}
use Rattle.spool_volumes.proofs.LookLemmas.{looks_none, looks_read, spares_act, spares_none}
use Rattle.spool_volumes.proofs.ReadLemmas.{page_gone, page_there}
use Rattle.spool_volumes.proofs.reading.read_page.Goals as goal

pub returns-then-lost-clause-looks : goal.returns-then-lost-clause-looks
returns-then-lost-clause-looks g c = looks_none g.P.Plant.tells c.args.by.0 (g.P.Plant.view c.args.plant.now)

pub returns-then-lost-clause-lost : goal.returns-then-lost-clause-lost
returns-then-lost-clause-lost g c is steady =
    let old = g.P.Plant.view c.args.plant.now in
    let dev = Spool (volume_of c.args.per c.args.group) in
    page_gone (old.lost (DiskPart dev)) (start_of c.args.per c.args.group) (disk_now old dev).bytes (sym c.lost.ensures ∙ c.if-lost.true)

pub returns-in-Done-clause-looks : goal.returns-in-Done-clause-looks
returns-in-Done-clause-looks g c =
    looks_read g.P.Plant.tells c.args.by.0 (volume_of c.args.per c.args.group) (g.P.Plant.view c.args.plant.now) (g.P.Plant.view c.read.new.self) Done c.in-Done.ensures.acts (start_of c.args.per c.args.group) c.read.new.into c.in-Done.ensures.content

pub returns-in-Failed-clause-looks : goal.returns-in-Failed-clause-looks
returns-in-Failed-clause-looks g c =
    looks_read g.P.Plant.tells c.args.by.0 (volume_of c.args.per c.args.group) (g.P.Plant.view c.args.plant.now) (g.P.Plant.view c.read.new.self) Failed c.in-Failed.ensures.acts (start_of c.args.per c.args.group) c.read.new.into c.in-Failed.ensures.content

pub returns-in-Halted-clause-looks : goal.returns-in-Halted-clause-looks
returns-in-Halted-clause-looks g c =
    looks_read g.P.Plant.tells c.args.by.0 (volume_of c.args.per c.args.group) (g.P.Plant.view c.args.plant.now) (g.P.Plant.view c.read.new.self) Halted c.in-Halted.ensures.acts (start_of c.args.per c.args.group) c.read.new.into c.in-Halted.ensures.content

pub returns-in-Done-clause-read : goal.returns-in-Done-clause-read
returns-in-Done-clause-read g c is told =
    let old = g.P.Plant.view c.args.plant.now in
    let dev = Spool (volume_of c.args.per c.args.group) in
    let read = (c.in-Done.ensures.content told).disk in
    let long : length c.read.new.into ≡ page_bytes = omega (arith, c.requires.page) in
    page_there (old.lost (DiskPart dev)) (start_of c.args.per c.args.group) (disk_now old dev).bytes c.read.new.into (λ lost. c.in-Done.ensures.acts.stays_lost lost refl) (rw long at read.1)

pub returns-then-lost-clause-spares : goal.returns-then-lost-clause-spares
returns-then-lost-clause-spares g c = spares_none c.args.by.0 c.args.per (c.args.group ∷ []) (g.P.Plant.view c.args.plant.now)

pub returns-in-Done-clause-spares : goal.returns-in-Done-clause-spares
returns-in-Done-clause-spares g c = spares_act c.args.by.0 c.args.per c.args.group false (g.P.Plant.view c.args.plant.now) (g.P.Plant.view c.read.new.self) Done (λ none e. absurd (cc)) (λ is. absurd (cc)) c.in-Done.ensures.acts

pub returns-in-Failed-clause-spares : goal.returns-in-Failed-clause-spares
returns-in-Failed-clause-spares g c = spares_act c.args.by.0 c.args.per c.args.group false (g.P.Plant.view c.args.plant.now) (g.P.Plant.view c.read.new.self) Failed (λ none e. absurd (cc)) (λ is. absurd (cc)) c.in-Failed.ensures.acts

pub returns-in-Halted-clause-spares : goal.returns-in-Halted-clause-spares
returns-in-Halted-clause-spares g c = spares_act c.args.by.0 c.args.per c.args.group true (g.P.Plant.view c.args.plant.now) (g.P.Plant.view c.read.new.self) Halted (λ none e. absurd (cc)) (λ is. refl) c.in-Halted.ensures.acts
