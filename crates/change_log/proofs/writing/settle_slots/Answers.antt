use Rattle.std.proofs.Common.{length}
use Rattle.ckpt_copy.specs.Moments.{meanwhile_then}
use Rattle.ckpt_copy.specs.Pages.{bytes_of}
use Rattle.ckpt_copy.specs.Reading.{AllRead}
use Rattle.change_log.specs.Logs.{reads}
use Rattle.change_log.proofs.Homing.{homes_read, synced_read, rests_synced, home_synced}
use Rattle.change_log.proofs.writing.settle_slots.Goals as goal

pub returns-in_err-write_homes-clause-during : goal.returns-in_err-write_homes-clause-during
returns-in_err-write_homes-clause-during g c told rests =
    homes_read c.args.dev (length c.args.pages.now) c.args.gates.now c.args.places.now (bytes_of c.args.pages.now) _ _ (c.write_homes.ensures.during told c.args.gates.now rests)

pub returns-in_err-sync_act-clause-during : goal.returns-in_err-sync_act-clause-during
returns-in_err-sync_act-clause-during g c told rests =
    synced_read c.args.dev (length c.args.pages.now) c.args.gates.now c.args.places.now (bytes_of c.args.pages.now) _ _ _ (c.write_homes.ensures.during told c.args.gates.now rests) (c.sync_act.ensures.during told)

pub returns-clause-during : goal.returns-clause-during
returns-clause-during g c told rests =
    let n = length c.args.pages.now in
    let pages = bytes_of c.args.pages.now in
    let homes = c.write_homes.ensures.during told c.args.gates.now rests in
    let sync = c.sync_act.ensures.during told in
    let synced = c.in_ok-sync_act.ensures.synced told in
    let at_home = home_synced c.args.dev n c.args.gates.now c.args.places.now pages _ _ _ homes sync (c.in_ok-write_homes.ensures.written told c.args.gates.now rests) synced.0 synced.1 in
    meanwhile_then c.args.dev (AllRead reads pages) _ _ _ (synced_read c.args.dev n c.args.gates.now c.args.places.now pages _ _ _ homes sync)
    (c.close_slots.ensures.during told n c.args.places.now pages (rests_synced c.args.dev n c.args.gates.now c.args.places.now pages _ _ _ homes sync) at_home)

pub returns-clause-settled : goal.returns-clause-settled
returns-clause-settled g c told rests =
    let n = length c.args.pages.now in
    let pages = bytes_of c.args.pages.now in
    let homes = c.write_homes.ensures.during told c.args.gates.now rests in
    let sync = c.sync_act.ensures.during told in
    let synced = c.in_ok-sync_act.ensures.synced told in
    let at_home = home_synced c.args.dev n c.args.gates.now c.args.places.now pages _ _ _ homes sync (c.in_ok-write_homes.ensures.written told c.args.gates.now rests) synced.0 synced.1 in
    c.in_ok-close_slots.ensures.closed told n c.args.places.now pages (rests_synced c.args.dev n c.args.gates.now c.args.places.now pages _ _ _ homes sync) at_home

pub returns-in_err-close_slots-clause-during : goal.returns-in_err-close_slots-clause-during
returns-in_err-close_slots-clause-during g c told rests =
    let n = length c.args.pages.now in
    let pages = bytes_of c.args.pages.now in
    let homes = c.write_homes.ensures.during told c.args.gates.now rests in
    let sync = c.sync_act.ensures.during told in
    let synced = c.in_ok-sync_act.ensures.synced told in
    let at_home = home_synced c.args.dev n c.args.gates.now c.args.places.now pages _ _ _ homes sync (c.in_ok-write_homes.ensures.written told c.args.gates.now rests) synced.0 synced.1 in
    meanwhile_then c.args.dev (AllRead reads pages) _ _ _ (synced_read c.args.dev n c.args.gates.now c.args.places.now pages _ _ _ homes sync)
    (c.close_slots.ensures.during told n c.args.places.now pages (rests_synced c.args.dev n c.args.gates.now c.args.places.now pages _ _ _ homes sync) at_home)
