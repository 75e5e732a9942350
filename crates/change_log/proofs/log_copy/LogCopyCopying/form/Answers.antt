use Rattle.std.proofs.Common.{length, refl, arith}
use Rattle.ckpt_copy.specs.Pages.{bytes_of}
use Rattle.change_log.proofs.LogForming.{forming_one, forming_two, forming_three, formed_rests}
use Rattle.change_log.proofs.Gates.{rests_home_alone, home_inside}
use Rattle.change_log.proofs.log_copy.LogCopyCopying.form.Goals as goal

pub returns-in_err-write_synced-clause-during : goal.returns-in_err-write_synced-clause-during
returns-in_err-write_synced-clause-during g c told =
    forming_one c.args.self.now.dev (bytes_of c.args.pages.now) 0 _ _ (g.P.Plant.view c.args.plant.now) (g.P.Plant.view c.args.plant.now) (c.write_synced.ensures.during told)

pub returns-in_err-write_formed-clause-during : goal.returns-in_err-write_formed-clause-during
returns-in_err-write_formed-clause-during g c told =
    forming_two c.args.self.now.dev (bytes_of c.args.pages.now) _ _ _ _ (g.P.Plant.view c.args.plant.now) (c.write_synced.ensures.during told) (c.in_ok-write_synced.ensures.put told) (c.write_formed.ensures.during told)

pub returns-in_err-write_synced-2-clause-during : goal.returns-in_err-write_synced-2-clause-during
returns-in_err-write_synced-2-clause-during g c told =
    forming_three c.args.self.now.dev (bytes_of c.args.pages.now) _ _ _ _ _ (c.write_synced.ensures.during told) (length c.args.pages.now) (c.in_ok-write_synced.ensures.put told) (c.write_formed.ensures.during told)
    (c.in_ok-write_formed.ensures.written told c.requires.enough) (c.write_synced-2.ensures.during told)

pub returns-clause-during : goal.returns-clause-during
returns-clause-during g c told =
    forming_three c.args.self.now.dev (bytes_of c.args.pages.now) _ _ _ _ _ (c.write_synced.ensures.during told) (length c.args.pages.now) (c.in_ok-write_synced.ensures.put told) (c.write_formed.ensures.during told)
    (c.in_ok-write_formed.ensures.written told c.requires.enough) (c.write_synced-2.ensures.during told)

pub returns-clause-formed : goal.returns-clause-formed
returns-clause-formed g c told =
    rests_home_alone (length c.args.pages.now) _ c.home_places-self.result (bytes_of c.args.pages.now) _ refl c.requires.few c.home_places-self.ensures
    (formed_rests c.args.self.now.dev (length c.args.pages.now) (bytes_of c.args.pages.now) _ _ (c.in_ok-write_formed.ensures.written told c.requires.enough) (c.write_synced-2.ensures.during told) (c.in_ok-write_synced-2.ensures.put told))

pub returns-clause-ready : goal.returns-clause-ready
returns-clause-ready g c =
    let dev = c.args.self.now.dev in
    let home = home_inside (length c.args.pages.now) c.home_places-self.result c.requires.few c.home_places-self.ensures in
    let one = c.write_synced.ensures.cause.goes.size dev in
    let two = c.write_formed.ensures.cause.goes.size dev in
    let three = c.write_synced-2.ensures.cause.goes.size dev in
    record {
      ready = record { enough = c.requires.enough; few = c.requires.few; large = omega (arith, c.requires.size, one, two, three) };
      four = refl;
      inside = home;
      next_inside = home;
    }
