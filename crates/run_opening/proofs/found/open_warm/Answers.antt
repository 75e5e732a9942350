use Rattle.std.proofs.Common.{◌≡◌, ◌∙◌, ◌≤◌, ◌<◌, ℕ, List, length, refl, sym, ap, subst}
use Rattle.mas_types.specs.Fit.{IsConfig}
use Rattle.mas_types.specs.declared.ids.Dev.TheVariants.{Ckpt1, Ckpt2}
use Rattle.mas_types.specs.declared.ids.Page.{Page}
use Rattle.mas_types.specs.declared.queues.Config.{Config}
use Rattle.queue_tables.proofs.OrderLemmas.{sound_orders}
use Rattle.ckpt_form.specs.Form.{form_count, form_needs, form_reads}
use Rattle.ckpt_tables.specs.Shape.{page_count}
use Rattle.spool_plant.specs.Acts.{Goes}
use Rattle.spool_plant.specs.View.{View}
use Rattle.spool_volumes.specs.Volumes.{AreRoomy}
use Rattle.mas_complex.specs.Headline.{LeavesQueue}
use Rattle.mas_complex.specs.Past.{noted_by}
use Rattle.run_opening.proofs.EndLemmas.{unstarted_ends}
use Rattle.run_opening.proofs.FoundLemmas.{found_ends, found_open}
use Rattle.run_opening.proofs.NotedLemmas.{nobody_noted_by}
use Rattle.run_opening.proofs.ResultLemmas.{if_err, if_ok}
use Rattle.run_opening.proofs.WarmLemmas.{found_drawn}
use Rattle.run_opening.proofs.found.open_warm.Goals as goal

-- THERE WAS NO QUEUE

pub returns-in-Err-clause-ended : goal.returns-in-Err-clause-ended
returns-in-Err-clause-ended g c =
    let P = g.P.Plant in
    let e = c.unbegun.ensures in
    let u = c.in-Err.field-0 in
    let i = c.in-Err.ensures in
    rw (e.status, c.status_of_start.ensures, e.plant)
    (unstarted_ends P.tells _ c.args.script.now u.why c.unbegun.result.base c.unbegun.result.journal c.unbegun.result.since (P.view c.args.plant) (P.view u.plant) e.unbegun i.cause i.looked i.lost i.goes i.held)

-- RESTART

pub reset_found-requires-clause-config : goal.reset_found-requires-clause-config
reset_found-requires-clause-config g c =
    let s = c.in-Ok.ensures.started in
    subst IsConfig (sym s.tells_base.config) s.usable.0.fit.shape.config

pub reset_found-requires-clause-base_sound : goal.reset_found-requires-clause-base_sound
reset_found-requires-clause-base_sound g c = c.in-Ok.ensures.started.base_sound

pub reset_found-requires-clause-roomy : goal.reset_found-requires-clause-roomy
reset_found-requires-clause-roomy g c told =
    let P = g.P.Plant in
    let x = c.in-Ok.found.complex in
    let s = c.in-Ok.ensures.started in
    subst (AreRoomy (P.view x.plant)) (sym s.tells_base.config) s.roomy

pub reset_found-requires-clause-large : goal.reset_found-requires-clause-large
reset_found-requires-clause-large g c =
    let P = g.P.Plant in
    let x = c.in-Ok.found.complex in
    let s = c.in-Ok.ensures.started in
    let many : form_needs (length c.in-Ok.found.pages) ≡ form_needs (page_count x.base.config) = ap form_needs s.usable.0.spell.count ∙ ap (λ (k : Config). form_needs (page_count k)) (sym s.tells_base.config) in (
      subst (λ (n : ℕ). n ≤ (P.view x.plant).size Ckpt1) many (subst (λ (n : ℕ). form_needs (length c.in-Ok.found.pages) ≤ n) (sym (s.starts.goes.size Ckpt1)) s.large1),
      subst (λ (n : ℕ). n ≤ (P.view x.plant).size Ckpt2) many (subst (λ (n : ℕ). form_needs (length c.in-Ok.found.pages) ≤ n) (sym (s.starts.goes.size Ckpt2)) s.large2),
    )

pub reset_found-requires-clause-drawn : goal.reset_found-requires-clause-drawn
reset_found-requires-clause-drawn g c =
    let w = c.in-Ok.found in
    let s = c.in-Ok.ensures.started in
    found_drawn w.pages w.tables w.levels w.complex.level s.usable s.sized s.leveled s.at_level

pub reset_found-requires-clause-fit : goal.reset_found-requires-clause-fit
reset_found-requires-clause-fit g c =
    let w = c.in-Ok.found in
    let s = c.in-Ok.ensures.started in
    c.law_of_fit_tables.ensures w.tables s.usable.0.fit.shape s.usable.1.sound

pub reset_found-requires-clause-orders : goal.reset_found-requires-clause-orders
reset_found-requires-clause-orders g c = sound_orders c.in-Ok.found.tables c.in-Ok.ensures.started.usable.1.sound

pub reset_found-requires-clause-sound : goal.reset_found-requires-clause-sound
reset_found-requires-clause-sound g c =
    let w = c.in-Ok.found in
    let s = c.in-Ok.ensures.started in
    c.law_of_told_queues.ensures.sound w.tables s.usable.0.fit s.usable.1.sound

pub reset_found-requires-clause-rests1 : goal.reset_found-requires-clause-rests1
reset_found-requires-clause-rests1 g c =
    let f = c.in-Ok.ensures in
    record { before = f.places.0; as_many = f.started.as_many1; reads = f.started.reads1 }

pub reset_found-requires-clause-rests2 : goal.reset_found-requires-clause-rests2
reset_found-requires-clause-rests2 g c =
    let f = c.in-Ok.ensures in
    record { before = f.places.1; as_many = f.started.as_many2; reads = f.started.reads2 }

pub reset_found-requires-clause-order : goal.reset_found-requires-clause-order
reset_found-requires-clause-order g c = c.in-Ok.ensures.started.usable.1.low_order

pub reset_found-requires-clause-level : goal.reset_found-requires-clause-level
reset_found-requires-clause-level g c = rw c.in-Ok.ensures.started.at_level c.in-Ok.ensures.started.usable.1.low_level

pub reset_found-requires-clause-there1 : goal.reset_found-requires-clause-there1
reset_found-requires-clause-there1 g c = c.in-Ok.ensures.started.starts.there1

pub reset_found-requires-clause-there2 : goal.reset_found-requires-clause-there2
reset_found-requires-clause-there2 g c = c.in-Ok.ensures.started.starts.there2

pub reset_found-requires-clause-noted : goal.reset_found-requires-clause-noted
reset_found-requires-clause-noted g c m some = ap (λ (had : List (List Page)). noted_by had m) c.in-Ok.ensures.had ∙ nobody_noted_by m

-- WHAT IT LEAVES

pub returns-clause-open : goal.returns-clause-open
returns-clause-open g c =
    let P = g.P.Plant in
    let f = c.in-Ok.ensures in
    let s = f.started in
    let w = c.in-Ok.found in
    let x = w.complex in
    let v1 = P.view x.plant in
    if_ok c.reset_found.result (λ run r. found_open c.args.script.now x w.tables w.pages w.levels (P.view c.args.plant) form_count s
    (λ t. subst (λ (n : ℕ). ∥ ((later : View) → Goes v1 later → LeavesQueue form_reads x.base n later) ∥₁) f.since (f.fresh t))
    (λ t is. g.met.P.Plant.there x.plant t Ckpt1 (s.starts.there1 is)) (λ t is. g.met.P.Plant.there x.plant t Ckpt2 (s.starts.there2 is)) f.since run.complex run.members r) c.reset_found.ensures.reset

pub returns-clause-ended : goal.returns-clause-ended
returns-clause-ended g c =
    let P = g.P.Plant in
    let f = c.in-Ok.ensures in
    let s = f.started in
    let w = c.in-Ok.found in
    let x = w.complex in
    let v1 = P.view x.plant in
    if_err c.reset_found.result (λ e u. found_ends c.args.script.now x w.tables w.pages w.levels (P.view c.args.plant) form_count s
    (λ t. subst (λ (n : ℕ). ∥ ((later : View) → Goes v1 later → LeavesQueue form_reads x.base n later) ∥₁) f.since (f.fresh t))
    (λ t is. g.met.P.Plant.there x.plant t Ckpt1 (s.starts.there1 is)) (λ t is. g.met.P.Plant.there x.plant t Ckpt2 (s.starts.there2 is)) f.since (e.plant ≡ c.args.plant) e.status e.base e.journal e.since (P.view e.plant) u) c.reset_found.ensures.ended
