use Rattle.std.proofs.Common.{◌≡◌, ℕ, List, Option, IfSome, length, sym, ◌∙◌, subst, arith}
use Rattle.std.proofs.lemmas.Result.{err_from_is_err_and}
use Rattle.mas_types.specs.declared.ids.Page.{Page}
use Rattle.spool_plant.specs.declared.plant.Act.TheVariants.{Done}
use Rattle.spool_plant.specs.View.{disk_now}
use Rattle.ckpt_copy.specs.Causes.{Caused}
use Rattle.ckpt_copy.specs.Pages.{bytes_of}
use Rattle.change_log.specs.declared.finding.Head.{Head}
use Rattle.change_log.specs.Logs.{slots}
use Rattle.change_log.specs.LogStates.{IsReady}
use Rattle.change_log.specs.LogRests.{AreInside}
use Rattle.ckpt_copy.proofs.Causing.{caused_then, answered_on}
use Rattle.ckpt_copy.proofs.Calm.{calm_first, calm_on}
use Rattle.change_log.proofs.Gates.{free_most}
use Rattle.change_log.proofs.LogFinds.{find_no_head, find_no_slots, find_rests, find_room}
use Rattle.change_log.proofs.log_copy.LogCopyCopying.find.Goals as goal

pub returns-in_default-clause-not_valid : goal.returns-in_default-clause-not_valid
returns-in_default-clause-not_valid g c is told =
    let dev = c.args.self.now.dev in
    let plant = c.sync_act.new.plant in
    let size = (g.P.Plant.view plant).size dev in
    let synced = disk_now (g.P.Plant.view plant) dev in
    let headed = disk_now (g.P.Plant.view c.read_head.new.plant) dev in
    find_no_head c.in_ok-head.field-0 synced headed size (c.in_ok-sync_act.ensures.synced told).0 (g.met.P.Plant.sized plant told (g.P.Plant.view plant).now (omega arith) dev)
    (c.in_ok-head.ensures.same told) (c.in_ok-head.ensures.head told) c.in_default.is

pub returns-in_default-2-clause-not_valid : goal.returns-in_default-2-clause-not_valid
returns-in_default-2-clause-not_valid g c is told =
    let dev = c.args.self.now.dev in
    let plant = c.sync_act.new.plant in
    let size = (g.P.Plant.view plant).size dev in
    let synced = disk_now (g.P.Plant.view plant) dev in
    let headed = disk_now (g.P.Plant.view c.read_head.new.plant) dev in
    let slotted = disk_now (g.P.Plant.view c.read_slots.new.plant) dev in
    find_no_slots c.in_ok-head.field-0 synced headed size (c.in_ok-sync_act.ensures.synced told).0 (g.met.P.Plant.sized plant told (g.P.Plant.view plant).now (omega arith) dev)
    (c.in_ok-head.ensures.same told) (c.in_ok-head.ensures.head told) c.in-Some.head c.in-Some.is c.in_ok-places.field-0 slotted (c.in_ok-places.ensures.same told) (c.in_ok-places.ensures.placed told) c.in_default-2.is

pub returns-clause-found : goal.returns-clause-found
returns-clause-found g c told =
    let dev = c.args.self.now.dev in
    let plant = c.sync_act.new.plant in
    let size = (g.P.Plant.view plant).size dev in
    let synced = disk_now (g.P.Plant.view plant) dev in
    let headed = disk_now (g.P.Plant.view c.read_head.new.plant) dev in
    let slotted = disk_now (g.P.Plant.view c.read_slots.new.plant) dev in
    let last = disk_now (g.P.Plant.view c.read_pages.new.plant) dev in
    find_rests c.in_ok-head.field-0 synced headed size (c.in_ok-sync_act.ensures.synced told).0 (g.met.P.Plant.sized plant told (g.P.Plant.view plant).now (omega arith) dev)
    (c.in_ok-head.ensures.same told) (c.in_ok-head.ensures.head told) c.in-Some.head c.in-Some.is c.in_ok-places.field-0 slotted (c.in_ok-places.ensures.same told) (c.in_ok-places.ensures.placed told)
    c.in-Some-2.places (bytes_of c.in_ok-pages.pages) last c.in-Some-2.is c.in_ok-head.ensures.ready (c.in_ok-pages.ensures.same told) (c.in_ok-pages.ensures.pages told)

pub returns-clause-room_found : goal.returns-clause-room_found
returns-clause-room_found g c told =
    let dev = c.args.self.now.dev in
    let plant = c.sync_act.new.plant in
    let size = (g.P.Plant.view plant).size dev in
    let synced = disk_now (g.P.Plant.view plant) dev in
    let headed = disk_now (g.P.Plant.view c.read_head.new.plant) dev in
    let slotted = disk_now (g.P.Plant.view c.read_slots.new.plant) dev in
    let last = disk_now (g.P.Plant.view c.read_pages.new.plant) dev in
    find_room c.in_ok-head.field-0 synced headed size (c.in_ok-sync_act.ensures.synced told).0 (g.met.P.Plant.sized plant told (g.P.Plant.view plant).now (omega arith) dev)
    (c.in_ok-head.ensures.same told) (c.in_ok-head.ensures.head told) c.in-Some.head c.in-Some.is c.in_ok-places.field-0 slotted (c.in_ok-places.ensures.same told) (c.in_ok-places.ensures.placed told)
    last (c.in_ok-pages.ensures.same told)

pub returns-in_err-places-clause-during : goal.returns-in_err-places-clause-during
returns-in_err-places-clause-during g c told =
    calm_on c.args.self.now.dev _ _ _
    (calm_on c.args.self.now.dev _ _ _ (calm_first c.args.self.now.dev _ _ (c.sync_act.ensures.during told)) (c.read_head.ensures.during told))
    (c.read_slots.ensures.during told)

pub returns-in_err-pages-clause-during : goal.returns-in_err-pages-clause-during
returns-in_err-pages-clause-during g c told =
    calm_on c.args.self.now.dev _ _ _
    (calm_on c.args.self.now.dev _ _ _
    (calm_on c.args.self.now.dev _ _ _ (calm_first c.args.self.now.dev _ _ (c.sync_act.ensures.during told)) (c.read_head.ensures.during told))
    (c.read_slots.ensures.during told))
    (c.read_pages.ensures.during told)

pub returns-clause-during : goal.returns-clause-during
returns-clause-during g c told =
    calm_on c.args.self.now.dev _ _ _
    (calm_on c.args.self.now.dev _ _ _
    (calm_on c.args.self.now.dev _ _ _ (calm_first c.args.self.now.dev _ _ (c.sync_act.ensures.during told)) (c.read_head.ensures.during told))
    (c.read_slots.ensures.during told))
    (c.read_pages.ensures.during told)

pub returns-in_err-head-clause-during : goal.returns-in_err-head-clause-during
returns-in_err-head-clause-during g c told =
    calm_on c.args.self.now.dev _ _ _ (calm_first c.args.self.now.dev _ _ (c.sync_act.ensures.during told)) (c.read_head.ensures.during told)

pub returns-clause-ready : goal.returns-clause-ready
returns-clause-ready g c =
    let dev = c.args.self.now.dev in
    let headed = c.in_ok-head.ensures.ready in
    let ready = subst (λ (o : Option Head). IfSome o (λ h. IsReady h.pages ((g.P.Plant.view c.sync_act.new.plant).size dev))) c.in-Some.is headed in
    let four = subst (λ (o : Option Head). IfSome o (λ h. length h.gates ≡ slots)) c.in-Some.is c.in_ok-head.ensures.four in
    let inside = subst (λ (o : Option (List ℕ)). IfSome o (AreInside c.in-Some.head.pages)) c.in-Some-2.is c.in_ok-places.ensures.inside in
    let size = c.read_pages.ensures.cause.goes.size dev ∙ c.read_slots.ensures.cause.goes.size dev ∙ c.read_head.ensures.cause.goes.size dev in
    record {
      ready = subst (λ (k : ℕ). IsReady c.in-Some.head.pages k) (sym size) ready;
      four = four;
      inside = inside;
      next_inside = inside;
    }

pub returns-in_default-2-clause-during : goal.returns-in_default-2-clause-during
returns-in_default-2-clause-during g c told =
    calm_on c.args.self.now.dev _ _ _
    (calm_on c.args.self.now.dev _ _ _ (calm_first c.args.self.now.dev _ _ (c.sync_act.ensures.during told)) (c.read_head.ensures.during told))
    (c.read_slots.ensures.during told)

pub returns-in_err-pages-clause-cause : goal.returns-in_err-pages-clause-cause
returns-in_err-pages-clause-cause g c =
    let view = g.P.Plant.view in
    let looked : Caused c.args.by.0 c.args.self.now.dev (view c.args.plant.now) (view c.read_slots.new.plant) Done =
    caused_then _ _ _ _ _ _ (caused_then _ _ _ _ _ _ c.in_ok-sync_act.ensures.cause c.in_ok-head.ensures.cause) c.in_ok-places.ensures.cause in
    let p = err_from_is_err_and c.from_residual-in_err-pages.result c.from_residual-in_err-pages.ensures.1 in
    caused_then _ _ _ _ _ _ looked (answered_on (List Page) c.args.by.0 c.args.self.now.dev (view c.read_slots.new.plant) (view c.read_pages.new.plant) c.from_residual-in_err-pages.result _ c.in_err-pages.field-0.0 p.1 p.2 c.in_err-pages.ensures.cause)

pub returns-clause-cause : goal.returns-clause-cause
returns-clause-cause g c =
    caused_then _ _ _ _ _ _ (caused_then _ _ _ _ _ _ (caused_then _ _ _ _ _ _ c.in_ok-sync_act.ensures.cause c.in_ok-head.ensures.cause) c.in_ok-places.ensures.cause) c.in_ok-pages.ensures.cause

pub returns-in_default-2-clause-cause : goal.returns-in_default-2-clause-cause
returns-in_default-2-clause-cause g c =
    caused_then _ _ _ _ _ _ (caused_then _ _ _ _ _ _ c.in_ok-sync_act.ensures.cause c.in_ok-head.ensures.cause) c.in_ok-places.ensures.cause

pub returns-clause-room : goal.returns-clause-room
returns-clause-room g c =
    let four = subst (λ (o : Option Head). IfSome o (λ h. length h.gates ≡ slots)) c.in-Some.is c.in_ok-head.ensures.four in
    let most = free_most c.in-Some.head.gates 0 in
    omega (arith, four, most)
