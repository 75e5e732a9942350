use Rattle.std.proofs.Common.{true, false, refl, inl, sym, subst}
use Rattle.mas_types.specs.declared.ids.Dev.TheVariants.{Ckpt1, Ckpt2}
use Rattle.spool_plant.specs.declared.plant.Part.TheVariants.{Disk as DiskPart}
use Rattle.spool_plant.specs.View.{Disk, disk_now}
use Rattle.duplex_pair.specs.Looks.{HasRoom}
use Rattle.ckpt_copy.specs.Changes.{NoMore}
use Rattle.duplex_pair.proofs.Composing.{both_calls, acted_first, acted_second, acted_then, gone_stays, other_disk, ne12}
use Rattle.duplex_pair.proofs.Chosen.{part12}
use Rattle.warm_start.proofs.Seeing.{looked_later}
use Rattle.warm_start.proofs.looking.look_at_both.Goals as goal

pub returns-clause-acted : goal.returns-clause-acted
returns-clause-acted g c =
    let view = g.P.Plant.view in
    let a = c.look_at.new.pair in
    let b = c.look_at-2.new.pair in
    rw c.look_at-2.ensures.other
    (acted_then 0 (view c.args.plant.now) (view c.look_at.new.plant) (view c.look_at-2.new.plant) true a.first.alive a.first.alive true true b.second.alive false
    (acted_first 0 (view c.args.plant.now) (view c.look_at.new.plant) true a.first.alive true false Ckpt1 refl c.look_at.ensures.acted)
    (acted_second 0 (view c.look_at.new.plant) (view c.look_at-2.new.plant) true b.second.alive a.first.alive false Ckpt2 refl c.look_at-2.ensures.acted))

pub returns-clause-gone1 : goal.returns-clause-gone1
returns-clause-gone1 g c told =
    let view = g.P.Plant.view in
    rw c.look_at-2.ensures.other
    (gone_stays Ckpt1 Ckpt2 true c.look_at.new.pair.first.alive (NoMore (disk_now (view c.look_at.new.plant) Ckpt2)) (view c.look_at.new.plant) (view c.look_at-2.new.plant) ne12 (c.look_at.ensures.gone told) (c.look_at-2.ensures.during told))

pub returns-clause-during : goal.returns-clause-during
returns-clause-during g c told =
    let view = g.P.Plant.view in
    let old = view c.args.plant.now in
    both_calls (NoMore (disk_now old Ckpt1)) NoMore Ckpt1 Ckpt2 old (view c.look_at.new.plant) (view c.look_at-2.new.plant) refl refl (c.look_at.ensures.during told) (c.look_at-2.ensures.during told)

pub returns-clause-first : goal.returns-clause-first
returns-clause-first g c =
    let C = g.C.Copying in
    let view = g.P.Plant.view in
    let one = view c.look_at.new.plant in
    let two = view c.look_at-2.new.plant in
    let a = c.look_at.new.pair.first in
    rw c.look_at-2.ensures.other
    (looked_later C.count C.room C.room_most C.ready C.reads C.rests g.P.Plant.tells Ckpt1 one two a.copy a.alive a.found
    (c.look_at-2.ensures.acted.else_lost (DiskPart Ckpt1) (inl part12))
    (λ ready. g.met.C.Copying.stays_ready a.copy one two c.look_at-2.ensures.acted.goes ready)
    (λ told. other_disk Ckpt2 Ckpt1 (NoMore (disk_now one Ckpt2)) one two ne12 (c.look_at-2.ensures.during told))
    c.in_ok-first.first c.in_ok-first.ensures.seen)

pub returns-in_err-second-clause-during : goal.returns-in_err-second-clause-during
returns-in_err-second-clause-during g c told =
    let view = g.P.Plant.view in
    let old = view c.args.plant.now in
    both_calls (NoMore (disk_now old Ckpt1)) NoMore Ckpt1 Ckpt2 old (view c.look_at.new.plant) (view c.look_at-2.new.plant) refl refl (c.look_at.ensures.during told) (c.look_at-2.ensures.during told)

pub returns-clause-room1 : goal.returns-clause-room1
returns-clause-room1 g c told =
    let C = g.C.Copying in
    let view = g.P.Plant.view in
    let one = view c.look_at.new.plant in
    let two = view c.look_at-2.new.plant in
    let a = c.look_at.new.pair.first in
    rw c.look_at-2.ensures.other
    (subst (λ (d : Disk). HasRoom C.room C.room_in a.copy c.in_ok-first.first d.bytes) (sym (other_disk Ckpt2 Ckpt1 (NoMore (disk_now one Ckpt2)) one two ne12 (c.look_at-2.ensures.during told))) (c.in_ok-first.ensures.room told))
