use Rattle.std.proofs.Common.{◌+◌, ◌*◌, length, sym, ◌∙◌, arith}
use Rattle.mas_types.specs.Limits.{page_bytes}
use Rattle.spool_plant.specs.View.{disk_now}
use Rattle.ckpt_copy.specs.Moments.{meanwhile_end}
use Rattle.ckpt_copy.specs.Pages.{bytes_of}
use Rattle.ckpt_copy.proofs.Spreading.{spread_first, spread_on, spread_sync}
use Rattle.change_log.specs.Logs.{slots, directory_block}
use Rattle.change_log.proofs.Directing.{pages_few}
use Rattle.change_log.proofs.Filling.{directory_rise}
use Rattle.change_log.proofs.Paging.{level_first}
use Rattle.change_log.proofs.Putting.{slot_written, slot_size}
use Rattle.change_log.proofs.writing.write_slot.Goals as goal

pub write_directory-directory-requires : goal.write_directory-directory-requires
write_directory-directory-requires g c =
    let few = pages_few (length c.args.pages.now) c.args.changed.now c.requires.changed in omega (arith, few, c.requires.few)

pub write_images-requires-clause-size : goal.write_images-requires-clause-size
write_images-requires-clause-size g c =
    let few = pages_few (length c.args.pages.now) c.args.changed.now c.requires.changed in
    let rise = directory_rise (length c.args.pages.now) c.args.slot slots c.requires.slot in
    omega (arith, few, rise, c.directory_place-first.ensures, c.requires.size, c.write_act.ensures.cause.goes.size c.args.dev)

pub returns-in_err-write_act-clause-during : goal.returns-in_err-write_act-clause-during
returns-in_err-write_act-clause-during g c told =
    let n = length c.args.pages.now in
    let first = c.directory_place-first.result in
    let place = c.directory_place-first.ensures in
    let size = slot_size n c.args.changed.now c.level_in.result _ c.write_directory-directory.result c.requires.few c.requires.changed c.level_in.ensures.level c.level_in.ensures.size c.write_directory-directory.ensures in
    spread_first c.args.dev (page_bytes * directory_block n c.args.slot) (page_bytes * (n + 1)) (page_bytes * first) (length c.write_directory-directory.result) _ _ (omega (arith, place)) (omega (arith, place, size))
    (c.write_act.ensures.during told)

pub returns-in_err-write_images-clause-during : goal.returns-in_err-write_images-clause-during
returns-in_err-write_images-clause-during g c told =
    let n = length c.args.pages.now in
    let first = c.directory_place-first.result in
    let place = c.directory_place-first.ensures in
    let few = pages_few n c.args.changed.now c.requires.changed in
    let size = slot_size n c.args.changed.now c.level_in.result _ c.write_directory-directory.result c.requires.few c.requires.changed c.level_in.ensures.level c.level_in.ensures.size c.write_directory-directory.ensures in
    spread_on c.args.dev (page_bytes * directory_block n c.args.slot) (page_bytes * (n + 1)) _ _ _ (page_bytes * (first + 1)) (page_bytes * length c.args.changed.now) (omega (arith, place)) (omega (arith, place, few))
    (spread_first c.args.dev (page_bytes * directory_block n c.args.slot) (page_bytes * (n + 1)) (page_bytes * first) (length c.write_directory-directory.result) _ _ (omega (arith, place)) (omega (arith, place, size))
    (c.write_act.ensures.during told)) (c.write_images.ensures.during told)

pub returns-in_err-sync_act-clause-during : goal.returns-in_err-sync_act-clause-during
returns-in_err-sync_act-clause-during g c told =
    let n = length c.args.pages.now in
    let first = c.directory_place-first.result in
    let place = c.directory_place-first.ensures in
    let few = pages_few n c.args.changed.now c.requires.changed in
    let size = slot_size n c.args.changed.now c.level_in.result _ c.write_directory-directory.result c.requires.few c.requires.changed c.level_in.ensures.level c.level_in.ensures.size c.write_directory-directory.ensures in
    spread_sync c.args.dev (page_bytes * directory_block n c.args.slot) (page_bytes * (n + 1)) _ _ _
    (spread_on c.args.dev (page_bytes * directory_block n c.args.slot) (page_bytes * (n + 1)) _ _ _ (page_bytes * (first + 1)) (page_bytes * length c.args.changed.now) (omega (arith, place)) (omega (arith, place, few))
    (spread_first c.args.dev (page_bytes * directory_block n c.args.slot) (page_bytes * (n + 1)) (page_bytes * first) (length c.write_directory-directory.result) _ _ (omega (arith, place)) (omega (arith, place, size))
    (c.write_act.ensures.during told)) (c.write_images.ensures.during told)) (c.sync_act.ensures.during told)

pub returns-clause-during : goal.returns-clause-during
returns-clause-during g c told =
    let n = length c.args.pages.now in
    let first = c.directory_place-first.result in
    let place = c.directory_place-first.ensures in
    let few = pages_few n c.args.changed.now c.requires.changed in
    let size = slot_size n c.args.changed.now c.level_in.result _ c.write_directory-directory.result c.requires.few c.requires.changed c.level_in.ensures.level c.level_in.ensures.size c.write_directory-directory.ensures in
    spread_sync c.args.dev (page_bytes * directory_block n c.args.slot) (page_bytes * (n + 1)) _ _ _
    (spread_on c.args.dev (page_bytes * directory_block n c.args.slot) (page_bytes * (n + 1)) _ _ _ (page_bytes * (first + 1)) (page_bytes * length c.args.changed.now) (omega (arith, place)) (omega (arith, place, few))
    (spread_first c.args.dev (page_bytes * directory_block n c.args.slot) (page_bytes * (n + 1)) (page_bytes * first) (length c.write_directory-directory.result) _ _ (omega (arith, place)) (omega (arith, place, size))
    (c.write_act.ensures.during told)) (c.write_images.ensures.during told)) (c.sync_act.ensures.during told)

pub returns-clause-written : goal.returns-clause-written
returns-clause-written g c told =
    let n = length c.args.pages.now in
    let size = slot_size n c.args.changed.now c.level_in.result _ c.write_directory-directory.result c.requires.few c.requires.changed c.level_in.ensures.level c.level_in.ensures.size c.write_directory-directory.ensures in
    slot_written n c.args.slot c.directory_place-first.result (page_bytes * length c.args.changed.now) c.args.changed.now (bytes_of c.args.pages.now) c.level_in.result c.write_directory-directory.result
    (disk_now (g.P.Plant.view c.write_act.new.plant) c.args.dev) (disk_now (g.P.Plant.view c.write_images.new.plant) c.args.dev) (disk_now (g.P.Plant.view c.sync_act.new.plant) c.args.dev)
    c.directory_place-first.ensures (c.level_in.ensures.level ∙ sym (level_first c.args.pages.now _ (omega (arith, c.requires.enough)) c.level_in.ensures.size)) c.write_directory-directory.ensures size
    (c.in_ok-write_act.ensures.put told) (meanwhile_end _ _ _ _ (c.write_images.ensures.during told)) (c.in_ok-write_images.ensures.put told) (c.in_ok-sync_act.ensures.synced told)
